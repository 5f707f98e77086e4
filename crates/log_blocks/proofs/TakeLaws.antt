-- A block taken after what is kept: the questions one by one, and the bytes then kept.
use mathlib.Core.Path.{◌≡◌, sym, ◌∙◌, ap, ap₂}
use mathlib.Core.Bool.{Bool, true, false}
use mathlib.Core.List.{List, ◌++◌, append_assoc}
use Prim.Native.Nat.{ℕ, ◌+◌, ◌-◌, ◌≤◌, ◌<◌, min}
use native.Mathlib.Omega.{arith}
use native.Mathlib.Decide.{dec_lt}
use borrow.Author.Tests.{le-leb, lt-leb, ne_eqb}
use lib.Dec.{ltb}
use lib.ListN.{length, take, drop, length-take, length-drop}
use lib.Seq.{take_all, take-take, take-append-add, length-take-le, drop-drop, length_paste_head}
use Rattle.answer.specs.Asked.{passed, refused, ◌>>◌, is, after}
use Rattle.answer.specs.Outputs.{written_at_start}
use Rattle.seal.specs.Seal.{modulo257, seal_right_def}
use Rattle.log_blocks.specs.Log.{is_last, count, content, fields_right_def, is_begun, ask_log_block}
use Rattle.log_blocks.specs.Taken.{kept, kept_behind, ask_taken}
use Rattle.log_blocks.specs.declared.Taken.TheVariants.{GoesOn, Finished}

-- the questions one by one
module _ (begun : Bool) (number : ℕ) (k : List ℕ) where
  pub cut_short : (length k ≡ 512 → ⊥) → ask_log_block begun number k ≡ refused 53 number
  cut_short h = unfold ask_log_block is ◌>>◌ in cc (ne_eqb (length k) 512 h)

  module _ (whole : length k ≡ 512) where
    pub sums-wrong : seal_right_def modulo257 k ≡ false → ask_log_block begun number k ≡ refused 52 number
    sums-wrong e = unfold ask_log_block is ◌>>◌ in cc

    module _ (right : seal_right_def modulo257 k ≡ true) where
      pub too_many : 65534 < number → ask_log_block begun number k ≡ refused 53 number
      too_many h = unfold ask_log_block is ◌>>◌ in cc (lt-leb number 65534 h)

      module _ (low : number ≤ 65534) where
        pub fields-wrong : fields_right_def begun k ≡ false → ask_log_block begun number k ≡ refused 53 number
        fields-wrong e = unfold ask_log_block is ◌>>◌ in cc (le-leb number 65534 low)

        pub good : fields_right_def begun k ≡ true → ask_log_block begun number k ≡ passed tt
        good e = unfold ask_log_block is ◌>>◌ in cc (le-leb number 65534 low)

-- what is kept is never more
pub kept-few : (before k : List ℕ) → length (kept_behind before k) ≤ 4097
kept-few before k = unfold kept_behind kept in omega (arith, length-take 4097 (before ++ content k))

-- the answer, and what is then kept
module _ (edit : List ℕ) (n number : ℕ) (k : List ℕ) where
  abbrev before : List ℕ
  before = take n edit

  abbrev kept_then_def : List ℕ
  kept_then_def = after (ask_log_block (is_begun before) number k) (λ _. written_at_start (kept_behind before k) edit) edit

  pub not_taken : (q p : ℕ) → ask_log_block (is_begun before) number k ≡ refused q p → (refused q p ≡ ask_taken before number k) × (edit ≡ kept_then_def)
  not_taken q p e = unfold ask_taken ◌>>◌ after in ((cc), (cc))

  module _ (e : ask_log_block (is_begun before) number k ≡ passed tt) where
    pub kept_then : written_at_start (kept_behind before k) edit ≡ kept_then_def
    kept_then = unfold after in cc

    pub ends-edit : is_last k ≡ true → (m : ℕ) → m ≡ length (kept_behind before k) → (passed (Finished m) ≡ ask_taken before number k) × (m ≤ 4097)
    ends-edit l m d = unfold ask_taken ◌>>◌ in ((cc), omega (arith, kept-few before k))

    pub goes_on : is_last k ≡ false → (m : ℕ) → m ≡ length (kept_behind before k) → (passed (GoesOn m) ≡ ask_taken before number k) × (m ≤ 4097)
    goes_on l m d = unfold ask_taken ◌>>◌ in ((cc), omega (arith, kept-few before k))

-- an edit is begun when bytes of it are kept
pub begun_kept : (edit : List ℕ) (n : ℕ) → n ≤ length edit → ltb 0 n ≡ is_begun (take n edit)
begun_kept edit n h = ap (ltb 0) (sym (length-take-le n edit h))

-- the part of a list's first c that m more leave room for
take_min : (l : List ℕ) (r c m : ℕ) → m ≡ min c r → take r (take c l) ≡ take m l
take_min l r c m e = go (dec_lt c r) where
  go : Dec (c < r) → take r (take c l) ≡ take m l
  go (yes h) = let d : m ≡ c = omega arith in take_all r (take c l) (omega (arith, length-take c l)) ∙ ap (λ x. take x l) (sym d)
  go (no h) = let d : m ≡ r = omega arith in take-take r c l (omega arith) ∙ ap (λ x. take x l) (sym d)

-- what is kept, as the code copies it
module _ (edit k : List ℕ) (c n m : ℕ) (h : length edit ≡ 4097) (le : n ≤ 4097) (d : c ≡ count k) (e : m ≡ min c (4097 - n)) where
  kept-part : kept_behind (take n edit) k ≡ take n edit ++ take m (drop 4 k)
  unfolding kept_behind kept content
  kept-part =
      let a : length (take n edit) ≡ n = length-take-le n edit (omega arith) in
      let r : 4097 ≡ length (take n edit) + (4097 - n) = omega arith in
      cc (take-append-add (take n edit) (take c (drop 4 k)) (4097 - n), take_min (drop 4 k) (4097 - n) c m e)

  module _ (whole : length k ≡ 512) (small : c ≤ 504) where
    pub kept-count : n + m ≡ length (kept_behind (take n edit) k)
    kept-count = sym (ap length kept-part ∙ length_paste_head edit n (drop 4 k) m (omega arith) (omega (arith, length-drop 4 k)))

    pub kept-copied : (part : List ℕ) → part ≡ take (4 + m - 4) (drop 4 k) → take n edit ++ (part ++ drop (n + m - n) (drop n edit)) ≡ written_at_start (kept_behind (take n edit) k) edit
    kept-copied part p =
        let a : 4 + m - 4 ≡ m = omega arith in
        let b : n + m - n ≡ m = omega arith in
        rw (p, a, b, drop-drop m n edit)
        (sym (append_assoc (take n edit) (take m (drop 4 k)) (drop (n + m) edit)) ∙ ap₂ (λ x y. x ++ drop y edit) (sym kept-part) kept-count)
