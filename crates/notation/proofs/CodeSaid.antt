-- Every book and every edit within the limits has words that say the same.
use mathlib.Core.List.{List, [], ◌∷◌, ◌++◌, append_assoc, append-nil}
use Prim.Native.Nat.{ℕ, zero, suc, ◌+◌, ◌≤◌}
use native.Mathlib.Omega.{arith}
use lib.ListN.{length}
use lib.Dec.{T}
use Rattle.logic.specs.Arity.{by_arity}
use Rattle.logic.specs.Syntax.{Sort, rule, Expr, all, none, label, nominal, complement, and, or, some, every, at_least, at_most, arrow_kind, reversed, union, common, minus, ending_in, pair, sub_nodes, sub_arrows, node_in, pair_in, both, either, not_rule, Edit, finish, add_label, take_label, add_arrow, take_arrow, choose}
use Rattle.logic.specs.Limits.{Kind, fits, InRange, EditInRange}
use Rattle.text.specs.Code.{code, edit_code, levels, edit_levels, book_code}
use Rattle.text.specs.Reading.{Limits, expr as exprWant, edit}
use Rattle.text.proofs.Converse.{Allowed}
use Rattle.text.proofs.TextSpelling.{EachAllowed}
use Rattle.names.specs.Token.{Token}
use Rattle.names.specs.Names.{Naming}
use Rattle.notation.specs.Grammar.{Closing, at_else, at_end, text_end, Slot, expr, steps, mark, number, Phrase, phrases, bracketed, after_comma, Goal, thing, goals}
use Rattle.notation.proofs.Says.{◌∈◌, first, later, Begins, by_word, label as a-label, nominal as a-node, arrow_kind as an-arrow, closing-else, closing_end, Says, nothing, a-mark, a-number, begin, last, one-rule}

module _ (name : Naming) (l : Limits) where
  -- Some tokens say the same as these bytes.
  pub record Said (bytes : List ℕ) (g : List Goal) (m : ℕ) : Type 0 where
    pub tokens : List Token
    pub says : Says name l bytes tokens g m

  pub a-mark-said : {bytes : List ℕ} {g : List Goal} {m : ℕ} {t : Token} → Said bytes g m → Said bytes (mark t ∷ g) m
  a-mark-said x = record { tokens = _; says = a-mark x.says }

  pub number-said : {bytes : List ℕ} {g : List Goal} {m : ℕ} {k : Kind} (x : ℕ) → T (fits l.numbers k x) → Said bytes g m → Said (x ∷ bytes) (number k ∷ g) m
  number-said x f s = record { tokens = _; says = a-number x f s.says }

  pub begin-said : {bytes : List ℕ} {g : List Goal} {m : ℕ} {s : Slot} {d : ℕ} {t : Token} {c : List ℕ} {then : List Goal} → d ≤ l.deepest → Begins name l s d t c then → Said bytes (then ++ g) m
      → Said (c ++ bytes) (thing s d ∷ g) m
  begin-said i b x = record { tokens = _; says = begin i b x.says }

  pub phrase-said : {bytes : List ℕ} {g : List Goal} {m : ℕ} {s : Slot} {d : ℕ} {r : Phrase} → r ∈ phrases s → d ≤ l.deepest → Said bytes (goals s d r.items ++ g) m
      → Said (r.byte ∷ bytes) (thing s d ∷ g) m
  phrase-said {r = r} i h x = record { tokens = _; says = begin h (by_word r i) x.says }

  grouped : (a b c : List ℕ) {g : List Goal} {m : ℕ} → Said (a ++ (b ++ c)) g m → Said ((a ++ b) ++ c) g m
  grouped a b c x = rw (append_assoc a b c) x

  grouped₄ : (a b c e z : List ℕ) {g : List Goal} {m : ℕ} → Said (a ++ (b ++ (c ++ (e ++ z)))) g m → Said ((((a ++ b) ++ c) ++ e) ++ z) g m
  grouped₄ a b c e z x = simp append_assoc x

  -- bytes that say a thing, whatever follows; those of two operands
  abbrev SaysThing : List ℕ → Slot → ℕ → Type 0
  SaysThing a s d = (bytes : List ℕ) (g : List Goal) (m : ℕ) → Said bytes g m → Said (a ++ bytes) (thing s d ∷ g) m

  two : (a b : List ℕ) {bytes : List ℕ} {u v : Slot} {d : ℕ} {t w : Token} {g : List Goal} {m : ℕ} → SaysThing a u d → SaysThing b v d → Said bytes g m
      → Said ((a ++ b) ++ bytes) (thing u d ∷ mark t ∷ thing v d ∷ mark w ∷ g) m
  two a b {bytes} e f x = grouped a b bytes (e _ _ _ (a-mark-said (f _ _ _ (a-mark-said x))))

  says-expr : {s : Sort} (e : Expr s) (d : ℕ) → d + levels e ≤ suc l.deepest → InRange l.numbers e → SaysThing (code e) (expr s) d
  unfolding phrases bracketed after_comma goals code levels by_arity InRange
  says-expr (label k) d h r bytes g m x₀ = begin-said (omega arith) (a-label k r) x₀
  says-expr (nominal k) d h r bytes g m x₀ = begin-said (omega arith) (a-node k r) x₀
  says-expr (arrow_kind k) d h r bytes g m x₀ = begin-said (omega arith) (an-arrow k r) x₀
  says-expr all d h r bytes g m x₀ = phrase-said first (omega arith) (x₀)
  says-expr none d h r bytes g m x₀ = phrase-said (later first) (omega arith) (x₀)
  says-expr (complement E) d h r bytes g m x₀ = phrase-said (later (later first)) (omega arith) (a-mark-said (says-expr E (suc d) (omega arith) (r) _ _ _ (a-mark-said x₀)))
  says-expr (and E F) d h r bytes g m x₀ =
      phrase-said (later (later (later first))) (omega arith) (a-mark-said (two (code E) (code F) (says-expr E (suc d) (omega arith) r.0) (says-expr F (suc d) (omega arith) r.1) x₀))
  says-expr (or E F) d h r bytes g m x₀ =
      phrase-said (later (later (later (later first)))) (omega arith) (a-mark-said (two (code E) (code F) (says-expr E (suc d) (omega arith) r.0) (says-expr F (suc d) (omega arith) r.1) x₀))
  says-expr (some E F) d h r bytes g m x₀ =
      phrase-said (later (later (later (later (later first))))) (omega arith) (a-mark-said (two (code E) (code F) (says-expr E (suc d) (omega arith) r.0) (says-expr F (suc d) (omega arith) r.1) x₀))
  says-expr (every E F) d h r bytes g m x₀ =
      phrase-said (later (later (later (later (later (later first)))))) (omega arith) (a-mark-said (two (code E) (code F) (says-expr E (suc d) (omega arith) r.0) (says-expr F (suc d) (omega arith) r.1) x₀))
  says-expr (at_least x E F) d h r bytes g m x₀ =
      phrase-said (later (later (later (later (later (later (later first))))))) (omega arith) (a-mark-said (number-said x r.0 (a-mark-said (two (code E) (code F) (says-expr E (suc d) (omega arith) r.1) (says-expr F (suc d) (omega arith) r.2) x₀))))
  says-expr (at_most x E F) d h r bytes g m x₀ =
      phrase-said (later (later (later (later (later (later (later (later first)))))))) (omega arith) (a-mark-said (number-said x r.0 (a-mark-said (two (code E) (code F) (says-expr E (suc d) (omega arith) r.1) (says-expr F (suc d) (omega arith) r.2) x₀))))
  says-expr (reversed E) d h r bytes g m x₀ = phrase-said first (omega arith) (a-mark-said (says-expr E (suc d) (omega arith) (r) _ _ _ (a-mark-said x₀)))
  says-expr (union E F) d h r bytes g m x₀ =
      phrase-said (later first) (omega arith) (a-mark-said (two (code E) (code F) (says-expr E (suc d) (omega arith) r.0) (says-expr F (suc d) (omega arith) r.1) x₀))
  says-expr (common E F) d h r bytes g m x₀ =
      phrase-said (later (later first)) (omega arith) (a-mark-said (two (code E) (code F) (says-expr E (suc d) (omega arith) r.0) (says-expr F (suc d) (omega arith) r.1) x₀))
  says-expr (minus E F) d h r bytes g m x₀ =
      phrase-said (later (later (later first))) (omega arith) (a-mark-said (two (code E) (code F) (says-expr E (suc d) (omega arith) r.0) (says-expr F (suc d) (omega arith) r.1) x₀))
  says-expr (ending_in E F) d h r bytes g m x₀ =
      phrase-said (later (later (later (later first)))) (omega arith) (a-mark-said (two (code E) (code F) (says-expr E (suc d) (omega arith) r.0) (says-expr F (suc d) (omega arith) r.1) x₀))
  says-expr (pair x y) d h r bytes g m x₀ =
      phrase-said (later (later (later (later (later first))))) (omega arith) (a-mark-said (number-said x r.0 (a-mark-said (number-said y r.1 (a-mark-said x₀)))))
  says-expr (sub_nodes E F) d h r bytes g m x₀ =
      phrase-said first (omega arith) (a-mark-said (two (code E) (code F) (says-expr E (suc d) (omega arith) r.0) (says-expr F (suc d) (omega arith) r.1) x₀))
  says-expr (sub_arrows E F) d h r bytes g m x₀ =
      phrase-said (later first) (omega arith) (a-mark-said (two (code E) (code F) (says-expr E (suc d) (omega arith) r.0) (says-expr F (suc d) (omega arith) r.1) x₀))
  says-expr (node_in x E) d h r bytes g m x₀ =
      phrase-said (later (later first)) (omega arith) (a-mark-said (number-said x r.0 (a-mark-said (says-expr E (suc d) (omega arith) r.1 _ _ _ (a-mark-said x₀)))))
  says-expr (pair_in x y E) d h r bytes g m x₀ =
      phrase-said (later (later (later first))) (omega arith) (a-mark-said (number-said x r.0 (a-mark-said (number-said y r.1 (a-mark-said (says-expr E (suc d) (omega arith) r.2 _ _ _ (a-mark-said x₀)))))))
  says-expr (both E F) d h r bytes g m x₀ =
      phrase-said (later (later (later (later first)))) (omega arith) (a-mark-said (two (code E) (code F) (says-expr E (suc d) (omega arith) r.0) (says-expr F (suc d) (omega arith) r.1) x₀))
  says-expr (either E F) d h r bytes g m x₀ =
      phrase-said (later (later (later (later (later first))))) (omega arith) (a-mark-said (two (code E) (code F) (says-expr E (suc d) (omega arith) r.0) (says-expr F (suc d) (omega arith) r.1) x₀))
  says-expr (not_rule E) d h r bytes g m x₀ = phrase-said (later (later (later (later (later (later first)))))) (omega arith) (a-mark-said (says-expr E (suc d) (omega arith) (r) _ _ _ (a-mark-said x₀)))

  -- what may follow steps: no token, if they end with the text
  abbrev Ended : Closing → List ℕ → List Goal → ℕ → Type 0
  Ended at_else bytes g m = Said bytes g m
  Ended at_end bytes g m = Said bytes g m
  Ended text_end bytes g m = Says name l bytes [] g m

  says-end : (c : Closing) (d : ℕ) → d ≤ l.deepest → (bytes : List ℕ) (g : List Goal) (m : ℕ) → Ended c bytes g m → Said (0x30 ∷ bytes) (thing (steps c) d ∷ g) m
  says-end at_else d h bytes g m x = begin-said h closing-else x
  says-end at_end d h bytes g m x = begin-said h closing_end x
  says-end text_end d h bytes g m x = record { tokens = []; says = last h x }

  says-steps : (Z : Edit) (c : Closing) (d : ℕ) → d + edit_levels Z ≤ suc l.deepest → EditInRange l.numbers Z → (bytes : List ℕ) (g : List Goal) (m : ℕ) → Ended c bytes g m
      → Said (edit_code Z ++ bytes) (thing (steps c) d ∷ g) m
  unfolding phrases bracketed after_comma goals edit_code edit_levels EditInRange
  says-steps finish c d h r bytes g m x₀ = says-end c d (omega arith) bytes g m x₀
  says-steps (add_label k E Z) c d h r bytes g m x₀ =
      phrase-said first (omega arith) (a-mark-said (number-said k r.0
      (a-mark-said (grouped (code E) (edit_code Z) bytes (says-expr E (suc d) (omega arith) r.1 _ _ _ (a-mark-said (says-steps Z c d (omega arith) r.2 bytes g m x₀)))))))
  says-steps (take_label k E Z) c d h r bytes g m x₀ =
      phrase-said (later first) (omega arith) (a-mark-said (number-said k r.0
      (a-mark-said (grouped (code E) (edit_code Z) bytes (says-expr E (suc d) (omega arith) r.1 _ _ _ (a-mark-said (says-steps Z c d (omega arith) r.2 bytes g m x₀)))))))
  says-steps (add_arrow k E Z) c d h r bytes g m x₀ =
      phrase-said (later (later first)) (omega arith) (a-mark-said (number-said k r.0
      (a-mark-said (grouped (code E) (edit_code Z) bytes (says-expr E (suc d) (omega arith) r.1 _ _ _ (a-mark-said (says-steps Z c d (omega arith) r.2 bytes g m x₀)))))))
  says-steps (take_arrow k E Z) c d h r bytes g m x₀ =
      phrase-said (later (later (later first))) (omega arith) (a-mark-said (number-said k r.0
      (a-mark-said (grouped (code E) (edit_code Z) bytes (says-expr E (suc d) (omega arith) r.1 _ _ _ (a-mark-said (says-steps Z c d (omega arith) r.2 bytes g m x₀)))))))
  says-steps (choose K P Q Z) c d h r bytes g m x₀ =
      phrase-said (later (later (later (later first)))) (omega arith)
      (a-mark-said (grouped₄ (code K) (edit_code P) (edit_code Q) (edit_code Z) bytes
      (says-expr K (suc d) (omega arith) r.0 _ _ _
      (a-mark-said
      (says-steps P at_else (suc d) (omega arith) r.1 _ _ _
      (says-steps Q at_end (suc d) (omega arith) r.2 _ _ _
      (says-steps Z c d (omega arith) r.3 bytes g m x₀)))))))

  said-rule : {m : ℕ} {bytes : List ℕ} → Said bytes (thing (expr rule) 1 ∷ []) m → Said bytes [] (suc m)
  said-rule x = go x.tokens x.says
    where
      go : {m : ℕ} {bytes : List ℕ} (ts : List Token) → Says name l bytes ts (thing (expr rule) 1 ∷ []) m → Said bytes [] (suc m)
      go ts (begin i b h) = record { tokens = _; says = one-rule (begin i b h) }

  -- EVERY BOOK AND EVERY EDIT HAS WORDS.
  pub book-said : (book : List (Expr rule)) (m : ℕ) → length book ≤ m → EachAllowed l book → Said (book_code book) [] m
  unfolding book_code
  book-said [] m few each = record { tokens = []; says = nothing }
  book-said (K ∷ book) zero few each = absurd (omega arith)
  book-said (K ∷ book) (suc m) few each = said-rule (says-expr K 1 each.0.levels-fit each.0.numbers_fit (book_code book) [] m (book-said book m (omega arith) each.1))

  pub edit-said : (Z : Edit) → Allowed l edit 1 Z → Said (edit_code Z) (thing (steps text_end) 1 ∷ []) 0
  edit-said Z a = rw (append-nil (edit_code Z)) at (says-steps Z text_end 1 a.levels-fit a.numbers_fit [] [] 0 nothing)

  pub rule-said : (K : Expr rule) → Allowed l (exprWant rule) 1 K → Said (code K) (thing (expr rule) 1 ∷ []) 0
  rule-said K a = rw (append-nil (code K)) at (says-expr K 1 a.levels-fit a.numbers_fit [] [] 0 (record { tokens = []; says = nothing }))
