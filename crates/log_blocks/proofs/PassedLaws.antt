-- What a block that has passed its questions is, and the place of one that has not.
use mathlib.Core.Path.{◌≡◌}
use mathlib.Core.Bool.{Bool, true, false, ◌&&◌, and-eq-true_iff}
use mathlib.Core.List.{List, ◌++◌}
use Prim.Native.Nat.{ℕ, ◌≤◌, ◌<◌}
use native.Mathlib.Omega.{arith}
use borrow.Author.Tests.{eqb-true, leb-true, lt-ltb}
use lib.Dec.{eqb, leb}
use lib.ListN.{length, drop, length-append, length-drop}
use lib.Seq.{length-take-le}
use Rattle.answer.specs.Asked.{passed, refused, ◌>>◌, is}
use Rattle.answer.proofs.AskedLaws.{is-yes, is-then}
use Rattle.seal.specs.Seal.{modulo257, seal_right_def}
use Rattle.log_blocks.specs.Log.{is_last, count, content, fields_right_def, is_begun, ask_log_block, ask_log_end}
use Rattle.log_blocks.proofs.FieldLaws.{Right, right, count-says}
use Rattle.logic.specs.Graph.{implies}

pub record Passed (begun : Bool) (number : ℕ) (k : List ℕ) : Type 0 where
  pub whole : length k ≡ 512
  pub sums : seal_right_def modulo257 k ≡ true
  pub low : number ≤ 65534
  pub fields : Right begun k

-- the two questions, both asked at the block's number
one-no : (a b : Bool) (n q p : ℕ) → (is a 52 n >> is b 53 n) ≡ refused q p → p ≡ n
unfolding is ◌>>◌
one-no true true n q p e = cc
one-no true false n q p e = cc
one-no false b n q p e = cc

module _ (begun : Bool) (number : ℕ) (k : List ℕ) where
  pub passes : ask_log_block begun number k ≡ passed tt → Passed begun number k
  unfolding ask_log_block
  passes e =
      let (a, b) = is-then (implies (eqb (length k) 512) (seal_right_def modulo257 k)) 52 number (is (eqb (length k) 512 && (leb number 65534 && fields_right_def begun k)) 53 number) e in
      let (w, c) = (and-eq-true_iff (eqb (length k) 512) (leb number 65534 && fields_right_def begun k)).0 (is-yes _ 53 number b) in
      let (l, f) = (and-eq-true_iff (leb number 65534) (fields_right_def begun k)).0 c in
      record { whole = eqb-true (length k) 512 w; sums = (cc); low = leb-true number 65534 l; fields = right begun k f }

  -- the place is the block's number
  pub bad-place : (q p : ℕ) → ask_log_block begun number k ≡ refused q p → p ≡ number
  unfolding ask_log_block
  bad-place q p e = one-no (implies (eqb (length k) 512) (seal_right_def modulo257 k)) (eqb (length k) 512 && (leb number 65534 && fields_right_def begun k)) number q p e

-- or, where the log ends, the count of blocks
pub end-place : (begun : Bool) (number q p : ℕ) → ask_log_end begun number ≡ refused q p → p ≡ number
unfolding ask_log_end is
end-place true number q p e = cc
end-place false number q p e = cc

-- what it holds of an edit
module _ {begun : Bool} {number : ℕ} {k : List ℕ} where
  pub count-few : Passed begun number k → count k ≤ 504
  count-few p = (count-says (is_last k) (count k) p.fields.few).1

  pub content-length : Passed begun number k → length (content k) ≡ count k
  content-length p = unfold content in length-take-le (count k) (drop 4 k) (omega (arith, count-few p, p.whole, length-drop 4 k))

  pub content-some : Passed begun number k → 0 < length (content k)
  content-some p = omega (arith, content-length p, count-says (is_last k) (count k) p.fields.few)

  pub still-begun : (g : List ℕ) → Passed begun number k → is_begun (g ++ content k) ≡ true
  still-begun g p = lt-ltb 0 (length (g ++ content k)) (omega (arith, content-some p, length-append g (content k)))
