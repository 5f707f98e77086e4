-- The end of an edit, step by step.
use mathlib.Core.Path.{◌≡◌, ap, ◌∙◌}
use mathlib.Core.List.{List}
use Prim.Native.Nat.{ℕ, ◌+◌, ◌≤◌}
use native.Mathlib.Omega.{arith}
use lib.ListN.{length, get_or}
use Rattle.logic.specs.Syntax.{Edit}
use Rattle.text.specs.Code.{edit_code}
use Rattle.tree.specs.Tree.{Tree, tree, size}
use Rattle.ends.specs.Shapes.{At}
use Rattle.ends.specs.Edits.{EditAt, SomeEdit, behind_step, NextAt}
use Rattle.ends.proofs.FirstSteps.{edit_tree, as_step, as-choose, as-finish, finish-long}

pub record Tail (text : List ℕ) (p end : ℕ) : Type 0 where
  pub tail : Edit
  pub stands : EditAt text p tail
  pub is : p + length (edit_code tail) ≡ end

pub record Rest (text : List ℕ) (at p : ℕ) : Type 0 where
  pub le : at ≤ p
  pub some : SomeEdit text p
  pub ends : (Z : Edit) → EditAt text at Z → Tail text p (at + length (edit_code Z))

pub rest_more : (text : List ℕ) (at p next : ℕ) → Rest text at p → ((Z : Edit) → EditAt text p Z → NextAt text p Z next) → Rest text at next
rest_more text at p next r f =
    let a = f r.some.what r.some.stands in
    record {
      le = omega (arith, r.le, a.on);
      some = record { what = behind_step r.some.what; stands = a.stands };
      ends = λ Z h. let q = r.ends Z h in let b = f q.tail q.stands in record { tail = behind_step q.tail; stands = b.stands; is = b.ends ∙ q.is };
    }

pub rest_end : (text : List ℕ) (at p : ℕ) → Rest text at p → get_or text p 0 ≡ 0x30 → (Z : Edit) → EditAt text at Z → p + 1 ≡ at + length (edit_code Z)
rest_end text at p r e Z h = let q = r.ends Z h in omega (arith, q.is, finish-long q.tail (as-finish text p q.tail q.stands e))

pub behind-step : (text : List ℕ) (at : ℕ) (n : get_or text at 0 ≡ 0x30 → ⊥) (m : get_or text at 0 ≡ 0x35 → ⊥) (next : ℕ) → ((t : Tree) → At text (at + 2) t → next ≡ at + 2 + size t) → (Z : Edit) → EditAt text at Z → NextAt text at Z next
behind-step text at n m next f Z h =
    let q = as_step text at Z h n m in
    let e = f (edit_tree Z) q.what in
    record { stands = q.next next e; ends = omega (arith, e, q.long); on = omega (arith, e) }

pub behind-choose : (text : List ℕ) (at : ℕ) (m : get_or text at 0 ≡ 0x35) (p q next : ℕ) → ((t : Tree) → At text (at + 1) t → p ≡ at + 1 + size t)
    → ((Y : Edit) → EditAt text p Y → q ≡ p + length (edit_code Y)) → ((Y : Edit) → EditAt text q Y → next ≡ q + length (edit_code Y)) → (Z : Edit) → EditAt text at Z → NextAt text at Z next
behind-choose text at m p q next f g k Z h =
    let c = as-choose text at Z h m in
    let a = f (tree c.K) c.what in
    let b : q ≡ at + 1 + size (tree c.K) + length (edit_code c.P) = g c.P (c.first p a) ∙ ap (λ (x : ℕ). x + length (edit_code c.P)) a in
    let d : next ≡ at + 1 + size (tree c.K) + length (edit_code c.P) + length (edit_code c.Q) = k c.Q (c.second q b) ∙ ap (λ (x : ℕ). x + length (edit_code c.Q)) b in
    record { stands = c.next next d; ends = omega (arith, d, c.long); on = omega (arith, d) }
