-- The questions at a code byte: the four cases of a head.
use mathlib.Core.Path.{◌≡◌, refl}
use mathlib.Core.List.{List}
use Prim.Native.Nat.{ℕ, ◌+◌, ◌≤◌, ◌<◌}
use lib.ListN.{length, get_or}
use borrow.Author.Tests.{lt-ltb, le-ltb, le-leb, lt-leb, eq-eqb, ne_eqb}
use Rattle.text.specs.declared.Stop.TheVariants.{Missing, WrongSort, TooDeep}
use Rattle.std.proofs.Common.{Ok, Err}
use Rattle.text.specs.Patterns.{sort_of_def, head_at}

module _ (text : List ℕ) (deepest x d at : ℕ) where
  pub head-ends : length text ≤ at → Err (Missing at) ≡ head_at text deepest x d at
  head-ends h = unfold head_at in rw (le-ltb at (length text) h) refl

  module _ (more : at < length text) where
    pub head-wrong : (sort_of_def (get_or text at 0) ≡ x → ⊥) → Err (WrongSort at) ≡ head_at text deepest x d at
    head-wrong h = unfold head_at in rw (lt-ltb at (length text) more, ne_eqb (sort_of_def (get_or text at 0)) x h) refl

    module _ (right : sort_of_def (get_or text at 0) ≡ x) where
      pub head-deep : deepest < d → Err (TooDeep at) ≡ head_at text deepest x d at
      head-deep h = unfold head_at in rw (lt-ltb at (length text) more, eq-eqb (sort_of_def (get_or text at 0)) x right, lt-leb d deepest h) refl

      pub head-good : d ≤ deepest → Ok (at + 1) ≡ head_at text deepest x d at
      head-good h = unfold head_at in rw (lt-ltb at (length text) more, eq-eqb (sort_of_def (get_or text at 0)) x right, le-leb d deepest h) refl
