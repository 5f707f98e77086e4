-- The first step of an edit in a text.
use mathlib.Core.Path.{◌≡◌, refl, sym, ap, ◌∙◌}
use mathlib.Core.List.{List, [], ◌∷◌, ◌++◌, append_assoc}
use mathlib.Core.Logic.{inl, inr}
use Prim.Native.Nat.{ℕ, ◌+◌, ◌-◌, ◌≤◌, ◌<◌}
use native.Mathlib.Omega.{arith}
use lib.Dec.{T, eqb, ltb→lt}
use borrow.Author.Tests.{eq-eqb}
use lib.ListN.{length, get_or, drop, length-append}
use Rattle.logic.specs.Syntax.{rule, Expr, Edit, finish, add_label, take_label, add_arrow, take_arrow, choose}
use Rattle.logic.specs.Limits.{Ranges, EditInRange}
use Rattle.logic.proofs.Bools.{so}
use Rattle.text.specs.Code.{code, edit_code}
use Rattle.text.proofs.StandingLaws.{byte_at, behind, within}
use Rattle.tree.specs.Tree.{Tree, leaf, tree_code, tree, size}
use Rattle.tree.specs.Stack.{Substitution, touched}
use Rattle.tree.proofs.TreeLaws.{code-tree, size_is}
use Rattle.ends.specs.Shapes.{Named, Formed, At}
use Rattle.ends.specs.Edits.{EditAt, behind_step}
use Rattle.ends.proofs.Formed.{formed-tree}
use Rattle.ends.proofs.TreePlaces.{inside}
use Rattle.ends.proofs.Behind.{size-code, stands-tree}

-- the code byte of an edit, and the number and the expression of its first step if that is 31 to 34
abbrev pub edit_tag : Edit → ℕ
edit_tag finish = 0x30
edit_tag (add_label k E Z) = 0x31
edit_tag (take_label k E Z) = 0x32
edit_tag (add_arrow a R Z) = 0x33
edit_tag (take_arrow a R Z) = 0x34
edit_tag (choose K P Q Z) = 0x35

abbrev pub edit_number : Edit → ℕ
edit_number finish = 0
edit_number (add_label k E Z) = k
edit_number (take_label k E Z) = k
edit_number (add_arrow a R Z) = a
edit_number (take_arrow a R Z) = a
edit_number (choose K P Q Z) = 0

abbrev pub edit_tree : Edit → Tree
edit_tree finish = leaf []
edit_tree (add_label k E Z) = tree E
edit_tree (take_label k E Z) = tree E
edit_tree (add_arrow a R Z) = tree R
edit_tree (take_arrow a R Z) = tree R
edit_tree (choose K P Q Z) = tree K

-- such a step, and its bytes
abbrev pub step_of : Edit → Substitution
step_of Z = record { op = edit_tag Z; number = edit_number Z; what = edit_tree Z }

abbrev pub step_code : Edit → List ℕ
step_code Z = edit_tag Z ∷ edit_number Z ∷ tree_code (edit_tree Z)

edit-opens : (Z : Edit) → edit_code Z ≡ edit_tag Z ∷ drop 1 (edit_code Z)
unfolding edit_code
edit-opens finish = refl
edit-opens (add_label k E Z) = refl
edit-opens (take_label k E Z) = refl
edit-opens (add_arrow a R Z) = refl
edit-opens (take_arrow a R Z) = refl
edit-opens (choose K P Q Z) = refl

pub tag-edit : (text : List ℕ) (at : ℕ) (Z : Edit) → EditAt text at Z → get_or text at 0 ≡ edit_tag Z
tag-edit text at Z h = byte_at text at _ _ (h.place.here ∙ ap (◌++ h.place.rest) (edit-opens Z))

pub step-code : (Z : Edit) → (edit_tag Z ≡ 0x30 → ⊥) → (edit_tag Z ≡ 0x35 → ⊥) → edit_code Z ≡ step_code Z ++ edit_code (behind_step Z)
unfolding edit_code behind_step
step-code finish n m = absurd (n refl)
step-code (add_label k E Z) n m = ap (λ (l : List ℕ). 0x31 ∷ k ∷ l ++ edit_code Z) (sym (code-tree E))
step-code (take_label k E Z) n m = ap (λ (l : List ℕ). 0x32 ∷ k ∷ l ++ edit_code Z) (sym (code-tree E))
step-code (add_arrow a R Z) n m = ap (λ (l : List ℕ). 0x33 ∷ a ∷ l ++ edit_code Z) (sym (code-tree R))
step-code (take_arrow a R Z) n m = ap (λ (l : List ℕ). 0x34 ∷ a ∷ l ++ edit_code Z) (sym (code-tree R))
step-code (choose K P Q Z) n m = absurd (m refl)

pub code-pos : (Z : Edit) → 0 < length (edit_code Z)
code-pos Z = omega (arith, ap length (edit-opens Z))

pub edit-long : (text : List ℕ) (at : ℕ) (Z : Edit) → EditAt text at Z → length (edit_code Z) ≤ length text - at
edit-long text at Z h = omega (arith, within text at (edit_code Z) h.place.rest h.place.here)

pub edit-inside : (text : List ℕ) (at : ℕ) (Z : Edit) → EditAt text at Z → at < length text
edit-inside text at Z h = omega (arith, edit-long text at Z h, code-pos Z)

-- what follows a part, at that place
pub from : (text : List ℕ) (at : ℕ) (h l : List ℕ) → drop at text ≡ h ++ l → (p : ℕ) → p ≡ at + length h → drop p text ≡ l
from text at h l e p q = ap (λ (x : ℕ). drop x text) q ∙ behind text at h l e

-- 31 to 34
pub record IsStep (text : List ℕ) (at : ℕ) (Z : Edit) : Type 0 where
  pub no_end : edit_tag Z ≡ 0x30 → ⊥
  pub no-choice : edit_tag Z ≡ 0x35 → ⊥
  pub named : Named (touched (edit_tag Z)) (edit_number Z)
  pub reads-op : get_or text at 0 ≡ edit_tag Z
  pub reads-k : get_or text (at + 1) 0 ≡ edit_number Z
  pub room : at + 2 < length text
  pub what : At text (at + 2) (edit_tree Z)
  pub next : (p : ℕ) → p ≡ at + 2 + size (edit_tree Z) → EditAt text p (behind_step Z)
  pub long : length (edit_code Z) ≡ 2 + size (edit_tree Z) + length (edit_code (behind_step Z))
  pub tail : List ℕ
  pub split : drop at text ≡ step_code Z ++ tail

record Parts (lim : Ranges) (Z : Edit) : Type 0 where
  named : Named (touched (edit_tag Z)) (edit_number Z)
  formed : Formed (edit_tree Z)
  range : EditInRange lim (behind_step Z)

parts : (lim : Ranges) (Z : Edit) → EditInRange lim Z → (edit_tag Z ≡ 0x30 → ⊥) → (edit_tag Z ≡ 0x35 → ⊥) → Parts lim Z
unfolding EditInRange behind_step
parts lim finish r n m = absurd (n refl)
parts lim (add_label k E Z) r n m = record { named = inl (refl, ltb→lt k 48 r.0); formed = formed-tree lim E r.1; range = r.2 }
parts lim (take_label k E Z) r n m = record { named = inl (refl, ltb→lt k 48 r.0); formed = formed-tree lim E r.1; range = r.2 }
parts lim (add_arrow a R Z) r n m = record { named = inr (refl, ltb→lt a 16 r.0); formed = formed-tree lim R r.1; range = r.2 }
parts lim (take_arrow a R Z) r n m = record { named = inr (refl, ltb→lt a 16 r.0); formed = formed-tree lim R r.1; range = r.2 }
parts lim (choose K P Q Z) r n m = absurd (m refl)

pub as_step : (text : List ℕ) (at : ℕ) (Z : Edit) → EditAt text at Z → (get_or text at 0 ≡ 0x30 → ⊥) → (get_or text at 0 ≡ 0x35 → ⊥) → IsStep text at Z
as_step text at Z h n m =
    let b = tag-edit text at Z h in
    let no_end : edit_tag Z ≡ 0x30 → ⊥ = λ e. n (b ∙ e) in
    let no-choice : edit_tag Z ≡ 0x35 → ⊥ = λ e. m (b ∙ e) in
    let p = parts h.limits Z h.place.range no_end no-choice in
    let codes = step-code Z no_end no-choice in
    let t : List ℕ = tree_code (edit_tree Z) in
    let tail : List ℕ = edit_code (behind_step Z) ++ h.place.rest in
    let split : drop at text ≡ step_code Z ++ tail = h.place.here ∙ ap (◌++ h.place.rest) codes ∙ append_assoc (step_code Z) (edit_code (behind_step Z)) h.place.rest in
    let here : drop (at + 2) text ≡ t ++ tail = behind text at (edit_tag Z ∷ edit_number Z ∷ []) (t ++ tail) split in
    let what : At text (at + 2) (edit_tree Z) = record { rest = tail; here = here; formed = p.formed } in
    record {
      no_end = no_end;
      no-choice = no-choice;
      named = p.named;
      reads-op = b;
      reads-k = byte_at text (at + 1) (edit_number Z) (t ++ tail) (behind text at (edit_tag Z ∷ []) (edit_number Z ∷ t ++ tail) split);
      room = inside text (at + 2) (edit_tree Z) what;
      what = what;
      next = λ p' e. record { limits = h.limits; place = record { rest = h.place.rest; here = from text (at + 2) t tail here p' (omega (arith, e, size_is (edit_tree Z))); range = p.range } };
      long = omega (arith, ap length codes, length-append (step_code Z) (edit_code (behind_step Z)), size_is (edit_tree Z));
      tail = tail;
      split = split;
    }

-- 35
pub record IsChoose (text : List ℕ) (at : ℕ) (Z : Edit) : Type 0 where
  pub K : Expr rule
  pub P : Edit
  pub Q : Edit
  pub is : Z ≡ choose K P Q (behind_step Z)
  pub what : At text (at + 1) (tree K)
  pub first : (p : ℕ) → p ≡ at + 1 + size (tree K) → EditAt text p P
  pub second : (p : ℕ) → p ≡ at + 1 + size (tree K) + length (edit_code P) → EditAt text p Q
  pub next : (p : ℕ) → p ≡ at + 1 + size (tree K) + length (edit_code P) + length (edit_code Q) → EditAt text p (behind_step Z)
  pub long : length (edit_code Z) ≡ 1 + size (tree K) + length (edit_code P) + length (edit_code Q) + length (edit_code (behind_step Z))
  pub tail : List ℕ
  pub split : drop at text ≡ (0x35 ∷ code K) ++ tail

pub four : (a p q z r : List ℕ) → (a ++ p ++ q ++ z) ++ r ≡ a ++ (p ++ (q ++ (z ++ r)))
four a p q z r = append_assoc (a ++ p ++ q) z r ∙ append_assoc (a ++ p) q (z ++ r) ∙ append_assoc a p (q ++ (z ++ r))

chosen : (text : List ℕ) (at : ℕ) (Z : Edit) → EditAt text at Z → T (eqb (edit_tag Z) 0x35) → IsChoose text at Z
unfolding edit_code EditInRange behind_step
chosen text at (choose K P Q Z) h t =
    let lim = h.limits in
    let rest = h.place.rest in
    let r = h.place.range in
    let z : List ℕ = edit_code Z ++ rest in
    let d : drop at text ≡ (0x35 ∷ code K) ++ (edit_code P ++ (edit_code Q ++ z)) = h.place.here ∙ four (0x35 ∷ code K) (edit_code P) (edit_code Q) (edit_code Z) rest in
    let dK : drop (at + 1) text ≡ code K ++ (edit_code P ++ (edit_code Q ++ z)) = behind text at (0x35 ∷ []) (code K ++ (edit_code P ++ (edit_code Q ++ z))) d in
    let dP : (p : ℕ) → p ≡ at + 1 + size (tree K) → drop p text ≡ edit_code P ++ (edit_code Q ++ z) = λ p q. from text (at + 1) (code K) _ dK p (omega (arith, q, size-code K)) in
    let dQ = from text (at + 1 + size (tree K)) (edit_code P) (edit_code Q ++ z) (dP _ refl) in
    let dZ = from text (at + 1 + size (tree K) + length (edit_code P)) (edit_code Q) z (dQ _ refl) in
    record {
      K = K;
      P = P;
      Q = Q;
      is = refl;
      what = stands-tree {r = lim} K (record { rest = edit_code P ++ (edit_code Q ++ z); here = dK; range = r.0 });
      first = λ p q. record { limits = lim; place = record { rest = edit_code Q ++ z; here = dP p q; range = r.1 } };
      second = λ p q. record { limits = lim; place = record { rest = z; here = dQ p q; range = r.2 } };
      next = λ p q. record { limits = lim; place = record { rest = rest; here = dZ p q; range = r.3 } };
      long = omega (arith, length-append ((0x35 ∷ code K) ++ edit_code P ++ edit_code Q) (edit_code Z), length-append ((0x35 ∷ code K) ++ edit_code P) (edit_code Q), length-append (0x35 ∷ code K) (edit_code P), size-code K);
      tail = edit_code P ++ (edit_code Q ++ z);
      split = d;
    }
chosen text at finish h t = elim t [ ]
chosen text at (add_label k E Z) h t = elim t [ ]
chosen text at (take_label k E Z) h t = elim t [ ]
chosen text at (add_arrow a R Z) h t = elim t [ ]
chosen text at (take_arrow a R Z) h t = elim t [ ]

pub as-choose : (text : List ℕ) (at : ℕ) (Z : Edit) → EditAt text at Z → get_or text at 0 ≡ 0x35 → IsChoose text at Z
as-choose text at Z h m = chosen text at Z h (so (eq-eqb _ _ (sym (tag-edit text at Z h) ∙ m)))

-- the end of an edit
is-finish : (Z : Edit) → T (eqb (edit_tag Z) 0x30) → Z ≡ finish
is-finish finish t = refl
is-finish (add_label k E Z) t = elim t [ ]
is-finish (take_label k E Z) t = elim t [ ]
is-finish (add_arrow a R Z) t = elim t [ ]
is-finish (take_arrow a R Z) t = elim t [ ]
is-finish (choose K P Q Z) t = elim t [ ]

pub as-finish : (text : List ℕ) (at : ℕ) (Z : Edit) → EditAt text at Z → get_or text at 0 ≡ 0x30 → Z ≡ finish
as-finish text at Z h m = is-finish Z (so (eq-eqb _ _ (sym (tag-edit text at Z h) ∙ m)))

pub finish-long : (Z : Edit) → Z ≡ finish → length (edit_code Z) ≡ 1
finish-long Z e = unfold edit_code in ap (λ (Y : Edit). length (edit_code Y)) e
