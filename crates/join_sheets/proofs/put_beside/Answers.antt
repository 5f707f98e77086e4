use mathlib.Core.Path.{◌≡◌, ap, ap₂, ◌∙◌}
use mathlib.Core.Bool.{◌||◌}
use mathlib.Core.Logic.{inr}
use mathlib.Core.List.{List}
use Prim.Native.Nat.{ℕ, ◌+◌, ◌*◌, ◌≤◌}
use native.Mathlib.Numerals.{add-one}
use native.Mathlib.Omega.{arith}
use lib.ListN.{length}
use Rattle.bitset.specs.Words.{combined, word_at, put_word_def}
use Rattle.bitset.proofs.WordLaws.{word_at-other}
use Rattle.join_sheets.specs.BesideWrites.{raised, beside, put_beside_def}
use Rattle.join_sheets.proofs.put_beside.Goals as goal

put_one : (at n : ℕ) (other : List ℕ) (i : ℕ) (block l : List ℕ) (x : ℕ) → l ≡ put_beside_def at n other i block → x ≡ beside n (word_at block (16 + 8 * (at + i))) (word_at other (16 + 8 * i))
    → put_word_def l (16 + 8 * (at + i)) x ≡ put_beside_def at n other (i + 1) block
put_one at n other i block l x e f = unfold put_beside_def in rw (add-one i, e, f)

pub loop-i-preserved : goal.loop-i-preserved
loop-i-preserved c =
    let a = c.args in
    let l = c.loop-i in
    let own : ℕ = 16 + 8 * (a.at + l.i) in
    let own_is : c.word_place-own.result ≡ own = c.word_place-own.ensures in
    let room : own + 8 ≤ length l.block = omega arith in
    let read = c.load-x.ensures ∙ ap (word_at a.other.now) c.word_place.ensures in
    -- the word to put
    let word : c.either-y.result ≡ beside a.n (word_at a.block.now own) (word_at a.other.now (16 + 8 * l.i)) =
    c.either-y.ensures
    ∙ ap₂ (combined ◌||◌)
    (c.load.ensures ∙ ap (word_at l.block) own_is ∙ l.invariant.1 own (omega arith))
    (c.raised.ensures ∙ ap (raised a.n) read) in
    let s = c.store.ensures ∙ ap (λ (p : ℕ). put_word_def l.block p c.either-y.result) own_is in (
      s ∙ put_one a.at a.n a.other.now l.i a.block.now _ _ l.invariant.0 word,
      λ p h. ap (λ (y : List ℕ). word_at y p) s ∙ word_at-other l.block own _ room p (inr (omega arith)) ∙ l.invariant.1 p (omega arith),
    )
