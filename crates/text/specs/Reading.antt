-- Reading a text ("The questions, in order" of document 01): what follows a code, as a format, and following a format along the bytes.
use Rattle.std.proofs.Math.Bool.{true, false}
use mathlib.Core.List.{List, [], ◌∷◌}
use Rattle.std.specs.Prelude.{ℕ, suc, leb, eqb}
use Rattle.logic.specs.Syntax.{Sort, node, arrow, rule, Expr, all, none, label, nominal, complement, and, or, some, every, at_least, at_most, arrow_kind, reversed, union, common, minus, ending_in, pair, sub_nodes, sub_arrows, node_in, pair_in, both, either, not_rule, Edit, finish, add_label, take_label, add_arrow, take_arrow, choose}
use Rattle.logic.specs.Limits.{Kind, label_number, arrow_number, node_number, least_count, most_count, Ranges, ranges, former_ranges, fits}

-- Document 01's limits: the bytes and levels of a book or an edit, the rules of a book, the bytes and levels of a carried book.
abbrev pub longest_text : ℕ
longest_text = 4096

abbrev pub deepest_text : ℕ
deepest_text = 32

abbrev pub most_rules : ℕ
most_rules = 32

abbrev pub longest_carried : ℕ
longest_carried = 16384

abbrev pub deepest_carried : ℕ
deepest_carried = 255

-- The limits of a reading: the longest text, the last level, the ranges of numbers.
pub record Limits : Type 0 where
  pub longest : ℕ
  pub deepest : ℕ
  pub numbers : Ranges

-- The limits of a book or an edit, with the given ranges.
abbrev pub limits_by : Ranges → Limits
limits_by r = record { longest = longest_text; deepest = deepest_text; numbers = r }

-- The limits for n nodes; the same with the former ranges, for the rewriter of stored books.
abbrev pub text_limits : ℕ → Limits
text_limits n = limits_by (ranges n)

abbrev pub former_limits_def : ℕ → Limits
former_limits_def n = limits_by (former_ranges n)

-- The limits of a carried book.
abbrev pub carried_limits_def : ℕ → Limits
carried_limits_def n = record { longest = longest_carried; deepest = deepest_carried; numbers = ranges n }

-- What can be wanted at a place: an expression of a sort, or an edit.
pub data Want : Type 0 where
  expr : Sort → Want
  edit : Want

abbrev pub Thing : Want → Type 0
Thing (expr s) = Expr s
Thing edit = Edit

-- What the next bytes must be: nothing more; a number and then more; a thing at a level and then more.
pub data Format (A : Type 0) : Type 0 where
  done : A → Format A
  number : Kind → (ℕ → Format A) → Format A
  operand : (w : Want) → ℕ → (Thing w → Format A) → Format A

infixl 20 ◌>>=◌
unfoldable pub ◌>>=◌ : {A B : Type 0} → Format A → (A → Format B) → Format B
done a >>= f = f a
number k p >>= f = number k (λ x. p x >>= f)
operand w l p >>= f = operand w l (λ e. p e >>= f)

-- A code byte, and the format of what follows it.
pub record Entry (A : Type 0) : Type 0 where
  pub byte : ℕ
  pub format : Format A

infix 70 ◌⇒◌
abbrev pub ◌⇒◌ : {A : Type 0} → ℕ → Format A → Entry A
c ⇒ p = record { byte = c; format = p }

-- The codes of each sort, for a code at level l.
module _ (l : ℕ) where
  abbrev num : Kind → Format ℕ
  num k = number k done

  abbrev sub : (w : Want) → Format (Thing w)
  sub w = operand w (suc l) done

  unfoldable pub codes : (w : Want) → List (Entry (Thing w))
  unfolding ◌>>=◌
  codes (expr node) =
      0x01 ⇒ done all
      ∷ 0x02 ⇒ done none
      ∷ 0x03 ⇒ (do k ← num label_number; done (label k))
      ∷ 0x04 ⇒ (do i ← num node_number; done (nominal i))
      ∷ 0x05 ⇒ (do E ← sub (expr node); done (complement E))
      ∷ 0x06 ⇒ (do E ← sub (expr node); F ← sub (expr node); done (and E F))
      ∷ 0x07 ⇒ (do E ← sub (expr node); F ← sub (expr node); done (or E F))
      ∷ 0x08 ⇒ (do R ← sub (expr arrow); E ← sub (expr node); done (some R E))
      ∷ 0x09 ⇒ (do R ← sub (expr arrow); E ← sub (expr node); done (every R E))
      ∷ 0x0A ⇒ (do m ← num least_count; R ← sub (expr arrow); E ← sub (expr node); done (at_least m R E))
      ∷ 0x0B ⇒ (do m ← num most_count; R ← sub (expr arrow); E ← sub (expr node); done (at_most m R E))
      ∷ []
  codes (expr arrow) =
      0x11 ⇒ (do a ← num arrow_number; done (arrow_kind a))
      ∷ 0x12 ⇒ (do R ← sub (expr arrow); done (reversed R))
      ∷ 0x13 ⇒ (do R ← sub (expr arrow); S ← sub (expr arrow); done (union R S))
      ∷ 0x14 ⇒ (do R ← sub (expr arrow); S ← sub (expr arrow); done (common R S))
      ∷ 0x15 ⇒ (do R ← sub (expr arrow); S ← sub (expr arrow); done (minus R S))
      ∷ 0x16 ⇒ (do R ← sub (expr arrow); E ← sub (expr node); done (ending_in R E))
      ∷ 0x17 ⇒ (do i ← num node_number; j ← num node_number; done (pair i j))
      ∷ []
  codes (expr rule) =
      0x21 ⇒ (do E ← sub (expr node); F ← sub (expr node); done (sub_nodes E F))
      ∷ 0x22 ⇒ (do R ← sub (expr arrow); S ← sub (expr arrow); done (sub_arrows R S))
      ∷ 0x23 ⇒ (do i ← num node_number; E ← sub (expr node); done (node_in i E))
      ∷ 0x24 ⇒ (do i ← num node_number; j ← num node_number; R ← sub (expr arrow); done (pair_in i j R))
      ∷ 0x25 ⇒ (do K ← sub (expr rule); L ← sub (expr rule); done (both K L))
      ∷ 0x26 ⇒ (do K ← sub (expr rule); L ← sub (expr rule); done (either K L))
      ∷ 0x27 ⇒ (do K ← sub (expr rule); done (not_rule K))
      ∷ []
  codes edit =
      0x30 ⇒ done finish
      ∷ 0x31 ⇒ (do k ← num label_number; E ← sub (expr node); Z ← operand edit l done; done (add_label k E Z))
      ∷ 0x32 ⇒ (do k ← num label_number; E ← sub (expr node); Z ← operand edit l done; done (take_label k E Z))
      ∷ 0x33 ⇒ (do a ← num arrow_number; R ← sub (expr arrow); Z ← operand edit l done; done (add_arrow a R Z))
      ∷ 0x34 ⇒ (do a ← num arrow_number; R ← sub (expr arrow); Z ← operand edit l done; done (take_arrow a R Z))
      ∷ 0x35 ⇒ (do K ← sub (expr rule); P ← sub edit; Q ← sub edit; Z ← operand edit l done; done (choose K P Q Z))
      ∷ []

-- The question at which reading stops: is a byte there, is its code of the sort wanted, is its level within the limit,
-- is the number in range?
pub data Fault : Type 0 where
  missing wrong_sort too_deep out_of_range : Fault

-- What was read, with the bytes after it and their place; or the first fault and its place.
pub data Read (A : Type 0) : Type 0 where
  got : (result : A) (rest : List ℕ) (place : ℕ) → Read A
  fault : (why : Fault) (place : ℕ) → Read A

-- Goes on with the format that the byte c has among the entries, if it has one.
unfoldable pub choice : {A B : Type 0} → ℕ → List (Entry A) → (Format A → Read B) → Read B → Read B
choice c [] found other = other
choice c (e ∷ es) found other = elim (eqb c e.byte) [ true ↦ found e.format | false ↦ choice c es found other ]

module _ (l : Limits) where
  -- Follows the format along the bytes, the first of which is at place `at`.
  unfoldable pub follow : {A : Type 0} → List ℕ → Format A → ℕ → Read A
  unfolding choice
  follow [] (done a) at = got a [] at
  follow [] (number k f) at = fault missing at
  follow [] (operand w d f) at = fault missing at
  follow (x ∷ t) (done a) at = got a (x ∷ t) at
  follow (x ∷ t) (number k f) at = elim (fits l.numbers k x) [ true ↦ follow t (f x) (suc at) | false ↦ fault out_of_range at ]
  follow (c ∷ t) (operand w d f) at =
      choice c (codes d w) (λ p. elim (leb d l.deepest) [ true ↦ follow t (p >>= f) (suc at) | false ↦ fault too_deep at ]) (fault wrong_sort at)

  -- The thing at the start of a text, with its first code at level 1.
  abbrev pub read_as : (w : Want) → List ℕ → ℕ → Read (Thing w)
  read_as w t at = follow t (operand w 1 done) at
