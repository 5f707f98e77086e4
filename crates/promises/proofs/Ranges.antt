-- Rules in which no node is named are read in the same way for every n.
use mathlib.Core.Path.{◌≡◌}
use mathlib.Core.List.{List, [], ◌∷◌}
use Prim.Native.Nat.{ℕ}
use Rattle.answer.specs.Asked.{passed}
use Rattle.logic.specs.Syntax.{Sort, rule, Expr, all, none, label, nominal, complement, and, or, some, every, at_least, at_most, arrow_kind, reversed, union, common, minus, ending_in, pair, sub_nodes, sub_arrows, node_in, pair_in, both, either, not_rule}
use Rattle.logic.specs.Limits.{ranges, InRange}
use Rattle.text.specs.Reading.{text_limits}
use Rattle.text.specs.Questions.{ask_book}
use Rattle.text.proofs.TextSpelling.{EachAllowed, book-is-spelled, spelled-book-passes}
use Rattle.join_sheets.specs.Joinable.{Joinable, JoinableBook}

module _ (n m : ℕ) where
  any-range : {s : Sort} (e : Expr s) → Joinable e → InRange (ranges n) e → InRange (ranges m) e
  unfolding InRange Joinable
  any-range all q h = tt
  any-range none q h = tt
  any-range (label k) q h = h
  any-range (nominal i) q h = absurd q
  any-range (complement E) q h = any-range E q h
  any-range (and E F) q h = (any-range E q.0 h.0, any-range F q.1 h.1)
  any-range (or E F) q h = (any-range E q.0 h.0, any-range F q.1 h.1)
  any-range (some R E) q h = (any-range R q.0 h.0, any-range E q.1 h.1)
  any-range (every R E) q h = (any-range R q.0 h.0, any-range E q.1 h.1)
  any-range (at_least k R E) q h = (h.0, any-range R q.0 h.1, any-range E q.1 h.2)
  any-range (at_most k R E) q h = (h.0, any-range R q.0 h.1, any-range E q.1 h.2)
  any-range (arrow_kind a) q h = h
  any-range (reversed R) q h = any-range R q h
  any-range (union R S) q h = (any-range R q.0 h.0, any-range S q.1 h.1)
  any-range (common R S) q h = (any-range R q.0 h.0, any-range S q.1 h.1)
  any-range (minus R S) q h = (any-range R q.0 h.0, any-range S q.1 h.1)
  any-range (ending_in R E) q h = (any-range R q.0 h.0, any-range E q.1 h.1)
  any-range (pair i j) q h = absurd q
  any-range (sub_nodes E F) q h = (any-range E q.0 h.0, any-range F q.1 h.1)
  any-range (sub_arrows R S) q h = (any-range R q.0 h.0, any-range S q.1 h.1)
  any-range (node_in i E) q h = absurd q
  any-range (pair_in i j R) q h = absurd q
  any-range (both K L) q h = (any-range K q.0 h.0, any-range L q.1 h.1)
  any-range (either K L) q h = absurd q
  any-range (not_rule K) q h = absurd q

  each-range : (rules : List (Expr rule)) → JoinableBook rules → EachAllowed (text_limits n) rules → EachAllowed (text_limits m) rules
  unfolding JoinableBook
  each-range [] q h = tt
  each-range (K ∷ Ks) q h = (record { numbers_fit = any-range K q.0 h.0.numbers_fit; levels-fit = h.0.levels-fit }, each-range Ks q.1 h.1)

  pub read_alike : (t : List ℕ) (rules : List (Expr rule)) → JoinableBook rules → ask_book (text_limits n) t ≡ passed rules → ask_book (text_limits m) t ≡ passed rules
  read_alike t rules q h =
      let s = book-is-spelled (text_limits n) t rules h in
      spelled-book-passes (text_limits m) t rules
      (record { short = s.short; spells = record { text-is = s.spells.text-is; few = s.spells.few; rules = each-range rules q s.spells.rules } })
