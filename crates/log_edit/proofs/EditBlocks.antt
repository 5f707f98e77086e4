-- The blocks of an edit: how many they are, and how they are made one after the other.
use mathlib.Core.Path.{◌≡◌, refl, sym, ◌∙◌, ap, ap₂}
use mathlib.Core.Bool.{Bool, true, false}
use mathlib.Core.List.{List, [], ◌∷◌, ◌++◌, append_assoc, append-nil}
use Prim.Native.Nat.{ℕ, zero, suc, ◌+◌, ◌-◌, ◌*◌, ◌/◌, ◌≤◌, ◌<◌}
use native.Mathlib.Omega.{arith}
use borrow.Author.Tests.{leb-true, leb-false}
use lib.Dec.{leb}
use lib.ListN.{length, take, drop, length-append, length-take, length-drop}
use lib.Seq.{take_at, drop_at, drop-drop, take-length}
use Rattle.answer.specs.Outputs.{written_at_start}
use Rattle.log_blocks.specs.Making.{block, edit_blocks, log_blocks, joined, log_of}
use Rattle.log_blocks.proofs.MakeLaws.{block-whole}
use Rattle.log_blocks.proofs.LogReadBack.{one_block, more-blocks}

-- 504 bytes to a block, 512 bytes each
pub record Sized (edit : List ℕ) (ks : List (List ℕ)) : Type 0 where
  pub count : length ks ≡ (length edit + 503) / 504
  pub size : length (joined ks) ≡ 512 * length ks

pub blocks-sized : (most mark : ℕ) (edit : List ℕ) → 0 < length edit → length edit ≤ most → Sized edit (edit_blocks most mark edit)
unfolding joined
blocks-sized zero mark edit h l = absurd (omega arith)
blocks-sized (suc most) mark edit h l = go (leb (length edit) 504) refl (λ s t. blocks-sized most 0 (drop 504 edit) s t) where
  go : (y : Bool) → leb (length edit) 504 ≡ y → (0 < length (drop 504 edit) → length (drop 504 edit) ≤ most → Sized (drop 504 edit) (edit_blocks most 0 (drop 504 edit)))
      → Sized edit (edit_blocks (suc most) mark edit)
  go true y on =
      let few : length edit ≤ 504 = leb-true (length edit) 504 y in
      let whole = block-whole (mark + 2) edit few in
      rw (one_block most mark edit few) (record { count = omega arith; size = omega (arith, length-append (block (mark + 2) edit) [], whole) })
  go false y on =
      let many : 504 < length edit = leb-false (length edit) 504 y in
      let left = length-drop 504 edit in
      let whole = block-whole mark (take 504 edit) (omega (arith, length-take 504 edit)) in
      let r = on (omega (arith, left)) (omega (arith, left)) in
      rw (more-blocks most mark edit many)
      (record { count = omega (arith, r.count, left); size = omega (arith, length-append (block mark (take 504 edit)) (joined (edit_blocks most 0 (drop 504 edit))), whole, r.size) })

module _ (edit : List ℕ) where
  pub log_is : log_of (edit ∷ []) ≡ joined (edit_blocks (length edit) 1 edit)
  log_is = unfold log_blocks in ap joined (append-nil (edit_blocks (length edit) 1 edit))

  pub log-length : 0 < length edit → length (log_of (edit ∷ [])) ≡ 512 * ((length edit + 503) / 504)
  log-length h = let s = blocks-sized (length edit) 1 edit h (omega arith) in ap length log_is ∙ s.size ∙ ap (512 *◌) s.count

-- The bytes of an edit from a place on are still to be put into blocks; the next block has this byte 1 where it is not the last.
pub record Left (edit o : List ℕ) (mark from at : ℕ) (out : List ℕ) : Type 0 where
  pub most : ℕ
  pub done : List ℕ
  pub first : mark ≤ 1
  pub inside : from < length edit
  pub enough : length edit ≤ from + suc most
  pub whole : done ++ joined (edit_blocks (suc most) mark (drop from edit)) ≡ log_of (edit ∷ [])
  pub size : length done ≡ at
  pub out-is : out ≡ done ++ drop at o

pub left-all : (edit o : List ℕ) → 0 < length edit → Left edit o 1 0 0 o
left-all edit o h =
    record {
      most = length edit - 1;
      done = [];
      first = omega arith;
      inside = h;
      enough = omega arith;
      whole = (let e : suc (length edit - 1) ≡ length edit = omega arith in ap (λ (m : ℕ). joined (edit_blocks m 1 edit)) e) ∙ sym (log_is edit);
      size = refl;
      out-is = refl;
    }

-- a block put at a place of the output
put-at : (o out done k : List ℕ) (at : ℕ) → length done ≡ at → out ≡ done ++ drop at o → take at out ++ (k ++ drop (at + 512 - at) (drop at out)) ≡ (done ++ k) ++ drop (at + 512) o
put-at o out done k at s e =
    let n : at + 512 - at ≡ 512 = omega arith in
    ap₂ (λ x y. x ++ (k ++ y)) (ap (take at) e ∙ take_at done (drop at o) at s)
    (ap₂ drop n (ap (drop at) e ∙ drop_at done (drop at o) at s) ∙ drop-drop 512 at o)
    ∙ sym (append_assoc done k (drop (at + 512) o))

module _ {edit o out : List ℕ} {mark from at : ℕ} (l : Left edit o mark from at out) where
  abbrev rest : List ℕ
  rest = drop from edit

  rest-length : length rest ≡ length edit - from
  rest-length = length-drop from edit

  -- The next block has room, and what is written leaves the output's length.
  pub room : at + 512 ≤ length (log_of (edit ∷ []))
  room =
      let s = blocks-sized (suc l.most) mark rest (omega (arith, rest-length, l.inside)) (omega (arith, rest-length, l.enough)) in
      omega (arith, ap length l.whole, length-append l.done (joined (edit_blocks (suc l.most) mark rest)), l.size, s.size, s.count, rest-length, l.inside)

  pub length-kept : length (log_of (edit ∷ [])) ≤ length o → length out ≡ length o
  length-kept h = ap length l.out-is ∙ length-append l.done (drop at o) ∙ omega (arith, length-drop at o, l.size, room, h)

  -- one that is not the last
  pub left-next : (k : List ℕ) → 504 < length edit - from → k ≡ block mark (take (from + 504 - from) (drop from edit))
      → Left edit o 0 (from + 504) (at + 512) (take at out ++ (k ++ drop (at + 512 - at) (drop at out)))
  left-next k many made = next l.most l.enough l.whole where
    part : List ℕ
    part = take 504 rest

    k-is : k ≡ block mark part
    k-is = let e : from + 504 - from ≡ 504 = omega arith in made ∙ ap (λ (n : ℕ). block mark (take n rest)) e

    next : (most : ℕ) → length edit ≤ from + suc most → l.done ++ joined (edit_blocks (suc most) mark rest) ≡ log_of (edit ∷ [])
        → Left edit o 0 (from + 504) (at + 512) (take at out ++ (k ++ drop (at + 512 - at) (drop at out)))
    next zero e w = absurd (omega (arith, many, e))
    next (suc most) e w =
        let then : k ++ joined (edit_blocks (suc most) 0 (drop (from + 504) edit)) ≡ joined (edit_blocks (suc (suc most)) mark rest) =
        unfold joined in ap₂ (λ x y. x ++ joined (edit_blocks (suc most) 0 y)) k-is (sym (drop-drop 504 from edit)) ∙ ap joined (sym (more-blocks (suc most) mark rest (omega (arith, many, rest-length)))) in
        record {
          most = most;
          done = l.done ++ k;
          first = omega arith;
          inside = omega (arith, many);
          enough = omega (arith, e, many);
          whole = append_assoc l.done k _ ∙ ap (l.done ++◌) then ∙ w;
          size = length-append l.done k ∙ omega (arith, l.size, ap length k-is, block-whole mark part (omega (arith, length-take 504 rest)));
          out-is = put-at o out l.done k at l.size l.out-is;
        }

  -- the last
  pub left-none : (k : List ℕ) → length edit - from ≤ 504 → k ≡ block (mark + 2) (take (length edit - from) (drop from edit))
      → take at out ++ (k ++ drop (at + 512 - at) (drop at out)) ≡ written_at_start (log_of (edit ∷ [])) o
  unfolding joined
  left-none k few made =
      let short : length rest ≤ 504 = omega (arith, few, rest-length) in
      let k-is : k ≡ block (mark + 2) rest = made ∙ ap (block (mark + 2)) (ap (λ (n : ℕ). take n rest) (sym rest-length) ∙ take-length rest) in
      let all : l.done ++ k ≡ log_of (edit ∷ []) = ap (l.done ++◌) (k-is ∙ sym (append-nil (block (mark + 2) rest)) ∙ ap joined (sym (one_block l.most mark rest short))) ∙ l.whole in
      let end : at + 512 ≡ length (log_of (edit ∷ [])) = omega (arith, ap length all, length-append l.done k, l.size, ap length k-is, block-whole (mark + 2) rest short) in
      put-at o out l.done k at l.size l.out-is ∙ ap₂ (λ x n. x ++ drop n o) all end

-- Bytes written at the start of a buffer that has room leave its length.
pub start-length : (bytes o : List ℕ) → length bytes ≤ length o → length (written_at_start bytes o) ≡ length o
start-length bytes o h = length-append bytes (drop (length bytes) o) ∙ omega (arith, length-drop (length bytes) o)
