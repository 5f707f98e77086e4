-- Bytes that say the same as tokens are a book's or an edit's within the limits.
use mathlib.Core.Path.{◌≡◌, refl, ◌∙◌, ap, subst}
use mathlib.Core.List.{List, [], ◌∷◌, ◌++◌, append_assoc, append-nil}
use Prim.Native.Nat.{ℕ, suc, ◌+◌, ◌≤◌}
use native.Mathlib.Omega.{arith}
use lib.ListN.{length}
use lib.Dec.{T}
use Rattle.logic.specs.Lists.{All}
use Rattle.logic.specs.Arity.{by_arity}
use Rattle.logic.specs.Syntax.{node, arrow, rule, Expr, all, none, label, nominal, complement, and, or, some, every, at_least, at_most, arrow_kind, reversed, union, common, minus, ending_in, pair, sub_nodes, sub_arrows, node_in, pair_in, both, either, not_rule, Edit, finish, add_label, take_label, add_arrow, take_arrow, choose}
use Rattle.logic.specs.Limits.{fits, InRange, EditInRange}
use Rattle.text.specs.Code.{code, edit_code, levels, edit_levels, book_code}
use Rattle.text.specs.Reading.{Limits, Want, expr as exprWant, edit, Thing, most_rules}
use Rattle.text.specs.Questions.{ask_book, ask_edit}
use Rattle.text.proofs.Converse.{spelling, Allowed, NumbersFit, depth, ◌&◌}
use Rattle.text.proofs.TextSpelling.{EachAllowed, SpellsRules, spelled-book-passes, spelled-edit-passes}
use Rattle.answer.specs.Asked.{passed}
use Rattle.names.specs.Token.{Token}
use Rattle.names.specs.Names.{Naming}
use Rattle.notation.specs.Grammar.{text_end, Slot, expr, steps, Item, mark, number, deeper, more, phrases, bracketed, after_comma, Goal, thing, goals}
use Rattle.notation.proofs.Says.{Begins, by_word, label as a-label, nominal as a-node, arrow_kind as an-arrow, closing-else, closing_end, Says, nothing, a-mark, a-number, begin, last, one-rule}
use Rattle.notation.proofs.PhraseLaws.{all-at}

abbrev pub want_of : Slot → Want
want_of (expr s) = exprWant s
want_of (steps c) = edit

-- Some thing within the limits has these bytes.
pub record Makes (l : Limits) (s : Slot) (d : ℕ) (bytes : List ℕ) : Type 0 where
  pub what : Thing (want_of s)
  pub same_bytes : spelling (want_of s) what ≡ bytes
  pub allowed : Allowed l (want_of s) d what

-- the items of a phrase make a thing of its slot, together with the bytes before them
abbrev Made : Limits → Slot → ℕ → List Item → List ℕ → Type 0
Made l s d [] pre = Makes l s d pre
Made l s d (mark t ∷ is) pre = Made l s d is pre
Made l s d (number k ∷ is) pre = (x : ℕ) → T (fits l.numbers k x) → Made l s d is (pre ++ x ∷ [])
Made l s d (deeper v ∷ is) pre = (e : Thing (want_of v)) → Allowed l (want_of v) (suc d) e → Made l s d is (pre ++ spelling (want_of v) e)
Made l s d (more ∷ is) pre = (e : Thing (want_of s)) → Allowed l (want_of s) d e → Made l s d is (pre ++ spelling (want_of s) e)

module _ (l : Limits) (d : ℕ) (h : d ≤ l.deepest) where
  abbrev makes : {s : Slot} {pre : List ℕ} (e : Thing (want_of s)) → spelling (want_of s) e ≡ pre → NumbersFit l (want_of s) e → d + depth (want_of s) e ≤ suc l.deepest → Makes l s d pre
  makes e b n v = record { what = e; same_bytes = b; allowed = record { numbers_fit = n; levels-fit = v } }

  -- each phrase has the code that its constructor has
  phrases-made : (s : Slot) → All (λ r. Made l s d r.items (r.byte ∷ [])) (phrases s)
  unfolding phrases bracketed after_comma code edit_code levels by_arity edit_levels InRange EditInRange
  phrases-made (expr node) =
      (makes all refl tt (omega arith))
      & (makes none refl tt (omega arith))
      & (λ E aE. makes (complement E) refl aE.numbers_fit (omega arith))
      & (λ E aE F aF. makes (and E F) refl (aE.numbers_fit, aF.numbers_fit) (omega arith))
      & (λ E aE F aF. makes (or E F) refl (aE.numbers_fit, aF.numbers_fit) (omega arith))
      & (λ E aE F aF. makes (some E F) refl (aE.numbers_fit, aF.numbers_fit) (omega arith))
      & (λ E aE F aF. makes (every E F) refl (aE.numbers_fit, aF.numbers_fit) (omega arith))
      & (λ x fx E aE F aF. makes (at_least x E F) refl (fx, aE.numbers_fit, aF.numbers_fit) (omega arith))
      & (λ x fx E aE F aF. makes (at_most x E F) refl (fx, aE.numbers_fit, aF.numbers_fit) (omega arith))
      & tt
  phrases-made (expr arrow) =
      (λ E aE. makes (reversed E) refl aE.numbers_fit (omega arith))
      & (λ E aE F aF. makes (union E F) refl (aE.numbers_fit, aF.numbers_fit) (omega arith))
      & (λ E aE F aF. makes (common E F) refl (aE.numbers_fit, aF.numbers_fit) (omega arith))
      & (λ E aE F aF. makes (minus E F) refl (aE.numbers_fit, aF.numbers_fit) (omega arith))
      & (λ E aE F aF. makes (ending_in E F) refl (aE.numbers_fit, aF.numbers_fit) (omega arith))
      & (λ x fx y fy. makes (pair x y) refl (fx, fy) (omega arith))
      & tt
  phrases-made (expr rule) =
      (λ E aE F aF. makes (sub_nodes E F) refl (aE.numbers_fit, aF.numbers_fit) (omega arith))
      & (λ E aE F aF. makes (sub_arrows E F) refl (aE.numbers_fit, aF.numbers_fit) (omega arith))
      & (λ x fx E aE. makes (node_in x E) refl (fx, aE.numbers_fit) (omega arith))
      & (λ x fx y fy E aE. makes (pair_in x y E) refl (fx, fy, aE.numbers_fit) (omega arith))
      & (λ E aE F aF. makes (both E F) refl (aE.numbers_fit, aF.numbers_fit) (omega arith))
      & (λ E aE F aF. makes (either E F) refl (aE.numbers_fit, aF.numbers_fit) (omega arith))
      & (λ E aE. makes (not_rule E) refl aE.numbers_fit (omega arith))
      & tt
  phrases-made (steps c) =
      (λ x fx E aE Z aZ. makes (add_label x E Z) refl (fx, aE.numbers_fit, aZ.numbers_fit) (omega arith))
      & (λ x fx E aE Z aZ. makes (take_label x E Z) refl (fx, aE.numbers_fit, aZ.numbers_fit) (omega arith))
      & (λ x fx E aE Z aZ. makes (add_arrow x E Z) refl (fx, aE.numbers_fit, aZ.numbers_fit) (omega arith))
      & (λ x fx E aE Z aZ. makes (take_arrow x E Z) refl (fx, aE.numbers_fit, aZ.numbers_fit) (omega arith))
      & (λ K aK P aP Q aQ Z aZ. makes (choose K P Q Z) refl (aK.numbers_fit, aP.numbers_fit, aQ.numbers_fit, aZ.numbers_fit) (omega arith))
      & tt

-- P holds for the bytes before, together with those that meet the goals and those of at most m rules
abbrev Fine : Limits → (List ℕ → Type 0) → List Goal → ℕ → List ℕ → Type 0
Fine l P [] m pre = (book : List (Expr rule)) → length book ≤ m → EachAllowed l book → P (pre ++ book_code book)
Fine l P (mark t ∷ g) m pre = Fine l P g m pre
Fine l P (number k ∷ g) m pre = (x : ℕ) → T (fits l.numbers k x) → Fine l P g m (pre ++ x ∷ [])
Fine l P (thing s d ∷ g) m pre = (e : Thing (want_of s)) → Allowed l (want_of s) d e → Fine l P g m (pre ++ spelling (want_of s) e)

module _ (name : Naming) (l : Limits) (P : List ℕ → Type 0) where
  fine-items : (s : Slot) (d : ℕ) (is : List Item) (g : List Goal) (m : ℕ) (pre c : List ℕ) → Made l s d is c → Fine l P (thing s d ∷ g) m pre → Fine l P (goals s d is ++ g) m (pre ++ c)
  unfolding goals
  fine-items s d [] g m pre c h k = subst (λ z. Fine l P g m (pre ++ z)) h.same_bytes (k h.what h.allowed)
  fine-items s d (mark t ∷ is) g m pre c h k = fine-items s d is g m pre c h k
  fine-items s d (number κ ∷ is) g m pre c h k = λ x b. rw (append_assoc pre c (x ∷ [])) (fine-items s d is g m pre (c ++ x ∷ []) (h x b) k)
  fine-items s d (deeper v ∷ is) g m pre c h k = λ e b. rw (append_assoc pre c (spelling (want_of v) e)) (fine-items s d is g m pre (c ++ spelling (want_of v) e) (h e b) k)
  fine-items s d (more ∷ is) g m pre c h k = λ e b. rw (append_assoc pre c (spelling (want_of s) e)) (fine-items s d is g m pre (c ++ spelling (want_of s) e) (h e b) k)

  fine-begin : {s : Slot} {d : ℕ} {t : Token} {c : List ℕ} {then : List Goal} → Begins name l s d t c then → d ≤ l.deepest → (g : List Goal) (m : ℕ) (pre : List ℕ) → Fine l P (thing s d ∷ g) m pre
      → Fine l P (then ++ g) m (pre ++ c)
  unfolding code edit_code levels by_arity edit_levels InRange EditInRange
  fine-begin {s} {d} (by_word r i) h g m pre k = fine-items s d r.items g m pre (r.byte ∷ []) (all-at (λ r. Made l s d r.items (r.byte ∷ [])) i (phrases-made l d h s)) k
  fine-begin (a-label x f) h g m pre k = k (label x) (record { numbers_fit = f; levels-fit = omega arith })
  fine-begin (a-node x f) h g m pre k = k (nominal x) (record { numbers_fit = f; levels-fit = omega arith })
  fine-begin (an-arrow x f) h g m pre k = k (arrow_kind x) (record { numbers_fit = f; levels-fit = omega arith })
  fine-begin closing-else h g m pre k = k finish (record { numbers_fit = tt; levels-fit = omega arith })
  fine-begin closing_end h g m pre k = k finish (record { numbers_fit = tt; levels-fit = omega arith })

  fine-rule : (m : ℕ) (pre : List ℕ) → Fine l P [] (suc m) pre → Fine l P (thing (expr rule) 1 ∷ []) m pre
  unfolding book_code
  fine-rule m pre k K a book few each = rw (append_assoc pre (code K) (book_code book)) (k (K ∷ book) (omega arith) (a, each))

  pub says-fine : {bytes : List ℕ} {ts : List Token} {g : List Goal} {m : ℕ} → Says name l bytes ts g m → (pre : List ℕ) → Fine l P g m pre → P (pre ++ bytes)
  unfolding book_code edit_code edit_levels EditInRange
  says-fine nothing pre k = k [] (omega arith) tt
  says-fine (one-rule {m = m} h) pre k = says-fine h pre (fine-rule m pre k)
  says-fine (a-mark h) pre k = says-fine h pre k
  says-fine (a-number {bytes} x f h) pre k = rw (append_assoc pre (x ∷ []) bytes) at (says-fine h (pre ++ x ∷ []) (k x f))
  says-fine (begin {bytes} {ts} {g} {m} {c = c} i b h) pre k = rw (append_assoc pre c bytes) at (says-fine h (pre ++ c) (fine-begin b i g m pre k))
  says-fine (last {bytes} i h) pre k = rw (append_assoc pre (0x30 ∷ []) bytes) at (says-fine h (pre ++ 0x30 ∷ []) (k finish (record { numbers_fit = tt; levels-fit = omega arith })))

-- A BOOK'S WORDS SAY A BOOK, AN EDIT'S AN EDIT.
pub record SomeBook (l : Limits) (m : ℕ) (bytes : List ℕ) : Type 0 where
  pub book : List (Expr rule)
  pub spells : SpellsRules l m bytes book

pub record SomeEdit (l : Limits) (bytes : List ℕ) : Type 0 where
  pub what : Edit
  pub is_code : bytes ≡ edit_code what
  pub within : Allowed l edit 1 what

module _ (name : Naming) (l : Limits) where
  pub says-book : {bytes : List ℕ} {ts : List Token} {m : ℕ} → Says name l bytes ts [] m → SomeBook l m bytes
  says-book {m = m} h = says-fine name l (SomeBook l m) h [] (λ book few each. record { book = book; spells = record { text-is = refl; few = few; rules = each } })

  no-rules : (book : List (Expr rule)) → length book ≤ 0 → book_code book ≡ []
  unfolding book_code
  no-rules [] h = refl
  no-rules (K ∷ book) h = absurd (omega arith)

  pub says-edit : {bytes : List ℕ} {ts : List Token} → Says name l bytes ts (thing (steps text_end) 1 ∷ []) 0 → SomeEdit l bytes
  says-edit h = says-fine name l (SomeEdit l) h [] (λ Z a book few each. record { what = Z; is_code = ap (edit_code Z ++◌) (no-rules book few) ∙ append-nil (edit_code Z); within = a })

  -- They pass the questions, if they are short enough.
  pub book-passes : {bytes : List ℕ} {ts : List Token} → length bytes ≤ l.longest → (h : Says name l bytes ts [] most_rules) → ask_book l bytes ≡ passed (says-book h).book
  book-passes {bytes} short h = spelled-book-passes l bytes (says-book h).book (record { short = short; spells = (says-book h).spells })

  pub edit-passes : {bytes : List ℕ} {ts : List Token} → length bytes ≤ l.longest → (h : Says name l bytes ts (thing (steps text_end) 1 ∷ []) 0) → ask_edit l bytes ≡ passed (says-edit h).what
  edit-passes {bytes} short h = spelled-edit-passes l bytes (says-edit h).what (record { text-is = (says-edit h).is_code; short = short; within = (says-edit h).within })
