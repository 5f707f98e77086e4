-- Reading goes on with what a token begins for the goal that is wanted.
use mathlib.Core.Path.{◌≡◌, refl, sym}
use mathlib.Core.Bool.{Bool, true, false, cond}
use mathlib.Core.List.{List, [], ◌∷◌, ◌++◌}
use Prim.Native.Nat.{ℕ, suc, ◌≤◌, ◌<◌}
use native.Mathlib.Omega.{arith}
use lib.Dec.{leb}
use borrow.Author.Tests.{le-leb, lt-leb}
use Rattle.answer.specs.Asked.{Asked, passed, refused}
use Rattle.names.specs.Token.{same, Found, found, absent}
use Rattle.names.specs.Scan.{Placed}
use Rattle.names.specs.Names.{Naming}
use Rattle.text.proofs.Items.{each_from}
use Rattle.notation.specs.Grammar.{Goal, mark, number, thing}
use Rattle.notation.specs.Parse.{Start, starts, starts_nothing, ask_start, prefixed, number_of, start, parse}
use Rattle.notation.specs.Words.{word_limits}
use Rattle.keywords.specs.Rows.{mark_of, kind_of, slot_of, level_of, goal_of, row_goals}
use Rattle.read_words.specs.Meeting.{begun, wrong_number, bytes_of, start_of}
use Rattle.read_words.specs.declared.Met.{Met}
use Rattle.std.specs.Prelude.{Some, None}

pub prefixed-none : (x : Asked (List ℕ)) → prefixed [] x ≡ x
unfolding prefixed
prefixed-none (passed bytes) = refl
prefixed-none (refused q p) = refl

-- What is read after a start: for a thing, its level is checked first.
unfoldable pub continued : Goal → (place : ℕ) → Start → (rest : List Goal → Asked (List ℕ)) → Asked (List ℕ)
continued (mark w) p (starts c then) rest = prefixed c (rest then)
continued (mark w) p starts_nothing rest = refused 66 p
continued (number k) p (starts c then) rest = prefixed c (rest then)
continued (number k) p starts_nothing rest = refused 67 p
continued (thing s d) p (starts c then) rest = elim (leb d 32) [ true ↦ prefixed c (rest then) | false ↦ refused 68 p ]
continued (thing s d) p starts_nothing rest = refused 65 p

module _ (name : Naming) (end : ℕ) where
  pub parse-begun : (t : Placed) (ts : List Placed) (x : Goal) (g : List Goal) (m : ℕ)
      → parse name word_limits end (t ∷ ts) (x ∷ g) m ≡ continued x t.place (begun name x t.token) (λ then. parse name word_limits end ts (then ++ g) m)
  unfolding parse begun continued
  parse-begun t ts (mark w) g m = go (same t.token w) where
    go : (b : Bool) → elim b as (λ z. Asked (List ℕ)) [ true ↦ parse name word_limits end ts g m | false ↦ refused 66 t.place ]
        ≡ continued (mark w) t.place (cond b (starts [] []) starts_nothing) (λ then. parse name word_limits end ts (then ++ g) m)
    go true = sym (prefixed-none (parse name word_limits end ts g m))
    go false = refl
  parse-begun t ts (number k) g m = go (number_of name word_limits k t.token) where
    go : (f : Found ℕ) → elim f as (λ z. Asked (List ℕ)) [ found x ↦ prefixed (x ∷ []) (parse name word_limits end ts g m) | absent ↦ refused 67 t.place ]
        ≡ continued (number k) t.place (elim f as (λ z. Start) [ found x ↦ starts (x ∷ []) [] | absent ↦ starts_nothing ]) (λ then. parse name word_limits end ts (then ++ g) m)
    go (found x) = refl
    go absent = refl
  parse-begun t ts (thing s d) g m = go (start name word_limits s d t.token) where
    go : (z : Start) → ask_start word_limits d t.place z (λ then. parse name word_limits end ts (then ++ g) m)
        ≡ continued (thing s d) t.place z (λ then. parse name word_limits end ts (then ++ g) m)
    go (starts c then) = refl
    go starts_nothing = refl

  -- The text's end.
  pub parse-missing : (item d : ℕ) (g : List Goal) (m : ℕ) → 1 ≤ item → item < 18 → (item ≡ 16 → ⊥) → parse name word_limits end [] (goal_of item d ∷ g) m ≡ refused 64 end
  unfolding parse goal_of slot_of
  parse-missing item d g m = each_from (λ x. (x ≡ 16 → ⊥) → parse name word_limits end [] (goal_of x d ∷ g) m ≡ refused 64 end) 1 17 (
    (
      (
        (
          (
            (
              (
                ((((((((((tt, λ n. refl), λ n. refl), λ n. refl), λ n. refl), λ n. refl), λ n. refl), λ n. refl), λ n. refl), λ n. refl), λ n. refl),
                λ n. refl,
              ),
              λ n. refl,
            ),
            λ n. refl,
          ),
          λ n. refl,
        ),
        λ n. refl,
      ),
      λ n. absurd (n refl),
    ),
    λ n. refl,
  ) item

  pub parse-closing : (m : ℕ) → parse name word_limits end [] (goal_of 16 1 ∷ []) m ≡ passed (0x30 ∷ [])
  unfolding parse goal_of slot_of level_of prefixed
  parse-closing m = refl

  -- A rule after the goals is one more goal.
  pub parse-rule : (t : Placed) (ts : List Placed) (m : ℕ) → parse name word_limits end (t ∷ ts) [] (suc m) ≡ parse name word_limits end (t ∷ ts) (goal_of 17 1 ∷ []) m
  unfolding parse goal_of slot_of level_of
  parse-rule t ts m = refl

-- A start that the code has found.
module _ (item d place : ℕ) (rest : List Goal → Asked (List ℕ)) where
  pub continued-wrong : continued (goal_of item d) place (start_of None (level_of item d)) rest ≡ refused (wrong_number item) place
  unfolding start_of goal_of wrong_number continued
  continued-wrong = go (leb item 3) (leb item 8) where
    go : (b c : Bool) → continued (cond b (mark (mark_of item)) (cond c (number (kind_of item)) (thing (slot_of item) (level_of item d)))) place starts_nothing rest
        ≡ refused (cond b 66 (cond c 67 65)) place
    go true c = refl
    go false true = refl
    go false false = refl

  pub continued-small : (m : Met) → item < 9 → continued (goal_of item d) place (start_of (Some m) (level_of item d)) rest ≡ prefixed (bytes_of m) (rest (row_goals m.row (level_of item d)))
  unfolding start_of goal_of continued
  continued-small m h = rw (le-leb item 8 (omega arith)) (go (leb item 3)) where
    go : (b : Bool) → continued (cond b (mark (mark_of item)) (number (kind_of item))) place (starts (bytes_of m) (row_goals m.row (level_of item d))) rest
        ≡ prefixed (bytes_of m) (rest (row_goals m.row (level_of item d)))
    go true = refl
    go false = refl

  module _ (m : Met) (h : 9 ≤ item) where
    pub continued-deep : 32 < level_of item d → continued (goal_of item d) place (start_of (Some m) (level_of item d)) rest ≡ refused 68 place
    unfolding start_of goal_of continued
    continued-deep k = rw (lt-leb item 3 (omega arith), lt-leb item 8 (omega arith)) (rw (lt-leb (level_of item d) 32 k, continued))

    pub continued-on : level_of item d ≤ 32 → continued (goal_of item d) place (start_of (Some m) (level_of item d)) rest ≡ prefixed (bytes_of m) (rest (row_goals m.row (level_of item d)))
    unfolding start_of goal_of continued
    continued-on k = rw (lt-leb item 3 (omega arith), lt-leb item 8 (omega arith)) (rw (le-leb (level_of item d) 32 k, continued))
