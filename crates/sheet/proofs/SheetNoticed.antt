-- What the questions notice in a sound sheet: every changed byte, and every exchange of two unequal neighbours in a block's body, with 2 and the block.
use mathlib.Core.Path.{◌≡◌, sym, ap, ap₂, ◌∙◌}
use mathlib.Core.Bool.{true, false, ◌&&◌}
use mathlib.Core.List.{List}
use mathlib.Core.Logic.{⊎_elim}
use Prim.Native.Nat.{ℕ, zero, suc, ◌+◌, ◌-◌, ◌*◌, ◌/◌, ◌%◌, ◌≤◌, ◌<◌}
use native.Mathlib.Nat.{le_refl, eq-or-lt_of_le}
use native.Mathlib.Omega.{arith}
use borrow.Author.Tests.{eq-eqb}
use lib.Dec.{ltb, lit≤}
use lib.ListN.{length, get_or, take, drop, set, length-set}
use lib.Seq.{take-set-lt, take-set-le, drop-set-add}
use Rattle.answer.specs.Asked.{Asked, passed, refused, ◌>>◌, is}
use Rattle.logic.specs.Graph.{Nodes, is_node}
use Rattle.bitset.specs.Words.{Bytes}
use Rattle.seal.specs.Seal.{block_bytes, seal_right_def, exchanged}
use Rattle.seal.proofs.SealNoticed.{change_noticed, exchange_noticed}
use Rattle.sheet.specs.Sheet.{SheetForm, present, sheet_bytes, block_count, used_in, graph_in}
use Rattle.sheet.specs.Questions.{block_of, head_right_def, zero_right_def, ask_block_def, ask_blocks, ask_sheet_in, ask_sheet, SoundIn, Sound}
use Rattle.sheet.specs.Noticed.{AsksSheetFirst}
use Rattle.sheet.proofs.SoundSheets.{block-ok, sound-parts}
use Rattle.sheet.proofs.BlockParts.{length-block, block-byte, block-small, byte-2, nodes-0}

module _ (f : SheetForm) where
  -- the first block that is refused
  first_refused : (t : List ℕ) (m i b q : ℕ) → i ≤ b → b < i + m → ((j : ℕ) → i ≤ j → j < b → ask_block_def f (get_or t 2 0) (is_node (graph_in f t)) j (block_of t j) ≡ passed tt)
      → ask_block_def f (get_or t 2 0) (is_node (graph_in f t)) b (block_of t b) ≡ refused q b → ask_blocks f t m i ≡ refused q b
  unfolding ask_blocks ◌>>◌
  first_refused t zero i b q h k before e = absurd (omega arith)
  first_refused t (suc m) i b q h k before e =
      ⊎_elim
      (λ g. ap (λ a. a >> ask_blocks f t m (suc i)) (ap (λ c. ask_block_def f (get_or t 2 0) (is_node (graph_in f t)) c (block_of t c)) g ∙ e))
      (λ g. ap (λ a. a >> ask_blocks f t m (suc i)) (before i (le_refl i) g) ∙ first_refused t m (suc i) b q g (omega arith) (λ j l u. before j (omega arith) u) e)
      (eq-or-lt_of_le h)

  -- A sheet whose blocks before block b are those of a sound sheet, while block b does not have the right check bytes.
  pub damaged : (t u : List ℕ) (b : ℕ) → SoundIn f t → b < block_count → length u ≡ length t → ((j : ℕ) → j < b → block_of u j ≡ block_of t j) → seal_right_def f.sums (block_of u b) ≡ false → ask_sheet_in f u ≡ refused 2 b
  unfolding ask_sheet_in ask_block_def is ◌>>◌
  damaged t u b sound h n same broken =
      let parts = sound-parts f t sound in
      ap (λ a. is a 1 0 >> ask_blocks f u block_count 0) (eq-eqb (length u) sheet_bytes (n ∙ parts.0))
      ∙ first_refused u block_count 0 b 2 (omega arith) (omega arith) before (ap (λ a. is a 2 b >> (is (head_right_def f b (block_of u b)) 3 b >> is (zero_right_def f (get_or u 2 0) (is_node (graph_in f u)) b (block_of u b)) 4 b)) broken)
    where
      before : (j : ℕ) → 0 ≤ j → j < b → ask_block_def f (get_or u 2 0) (is_node (graph_in f u)) j (block_of u j) ≡ passed tt
      before j l k =
          let first : block_of u 0 ≡ block_of t 0 = same 0 (omega arith) in
          ap₂ (λ c d. ask_block_def f c (is_node (graph_in f u)) j d) (sym (byte-2 u) ∙ ap (λ c. get_or c 2 0) first ∙ byte-2 t) (same j k)
          ∙ ap (λ (v : Nodes). ask_block_def f (get_or t 2 0) v j (block_of t j)) (nodes-0 u f ∙ ap (λ (c : List ℕ). λ i. ltb i (get_or c 2 0) && used_in f c i) first ∙ sym (nodes-0 t f))
          ∙ (sound-parts f t sound).1 j (omega arith)

-- one block of a sheet, and the blocks before it, when byte p of the sheet changes, which is byte q of the block
module _ (t : List ℕ) (b p : ℕ) where
  block-set : (q x : ℕ) → p ≡ block_bytes * b + q → q < block_bytes → block_of (set t p x) b ≡ set (block_of t b) q x
  block-set q x e l = rw e (ap (take block_bytes) (drop-set-add (block_bytes * b) t q x) ∙ take-set-lt block_bytes (drop (block_bytes * b) t) q x l)

  before-set : (x j : ℕ) → block_bytes * b ≤ p → j < b → block_of (set t p x) j ≡ block_of t j
  before-set x j h l =
      let e : p ≡ block_bytes * j + (p - block_bytes * j) = omega arith in
      ap (λ i. take block_bytes (drop (block_bytes * j) (set t i x))) e ∙ ap (take block_bytes) (drop-set-add (block_bytes * j) t (p - block_bytes * j) x)
      ∙ take-set-le block_bytes (drop (block_bytes * j) t) (p - block_bytes * j) x (omega arith)

-- In every sound sheet whose form has a modulus above 255:
module _ (f : SheetForm) (above : 256 ≤ f.sums.modulus) (t : List ℕ) (small : Bytes t) (sound : SoundIn f t) where
  n : length t ≡ sheet_bytes
  n = (sound-parts f t sound).0

  block-right : (b : ℕ) → b < block_count → seal_right_def f.sums (block_of t b) ≡ true
  block-right b h = (block-ok f (get_or t 2 0) (is_node (graph_in f t)) b (block_of t b) ((sound-parts f t sound).1 b h)).check

  byte_at : (b p q : ℕ) → p ≡ block_bytes * b + q → q < block_bytes → get_or (block_of t b) q 0 ≡ get_or t p 0
  byte_at b p q e l = rw e (block-byte t b q l)

  -- every changed byte,
  pub sheet-change : (p x : ℕ) → p < sheet_bytes → x < 256 → (x ≡ get_or t p 0 → ⊥) → ask_sheet_in f (set t p x) ≡ refused 2 (p / block_bytes)
  sheet-change p x h k other =
      let b : ℕ = p / block_bytes in
      let q : ℕ = p % block_bytes in
      let e : p ≡ block_bytes * b + q = omega arith in
      let l : q < block_bytes = omega arith in
      let i : b < block_count = omega arith in
      damaged f t (set t p x) b sound i (length-set t p x) (λ j m. before-set t b p x j (omega arith) m)
      (ap (seal_right_def f.sums) (block-set t b p q x e l)
      ∙ change_noticed f.sums above (block_of t b) (length-block t n b i) (block-small t small b) (block-right b i) q x l k (λ g. other (g ∙ byte_at b p q e l)))

  -- and every exchange of two unequal neighbours in a block's body.
  pub sheet-exchange : (p : ℕ) → p < sheet_bytes → suc (p % block_bytes) < f.sums.body_bytes → (get_or t p 0 ≡ get_or t (suc p) 0 → ⊥) → ask_sheet_in f (exchanged t p) ≡ refused 2 (p / block_bytes)
  unfolding exchanged
  sheet-exchange p h l other =
      let b : ℕ = p / block_bytes in
      let q : ℕ = p % block_bytes in
      let e : p ≡ block_bytes * b + q = omega arith in
      let e2 : suc p ≡ block_bytes * b + suc q = omega arith in
      let l2 : suc q < block_bytes = omega (arith, f.sums.whole) in
      let i : b < block_count = omega arith in
      let x : ℕ = get_or t p 0 in
      let y : ℕ = get_or t (suc p) 0 in
      let u : List ℕ = set t p y in
      let ex = byte_at b p q e (omega arith) in
      let ey = byte_at b (suc p) (suc q) e2 l2 in
      damaged f t (set u (suc p) x) b sound i (length-set u (suc p) x ∙ length-set t p y) (λ j m. before-set u b (suc p) x j (omega arith) m ∙ before-set t b p y j (omega arith) m)
      (ap (seal_right_def f.sums) (block-set u b (suc p) (suc q) x e2 l2 ∙ ap (λ k. set k (suc q) x) (block-set t b p q y e (omega arith)) ∙ ap₂ (λ v w. set (set (block_of t b) q v) (suc q) w) (sym ey) (sym ex))
      ∙ exchange_noticed f.sums above (block_of t b) (length-block t n b i) (block-small t small b) (block-right b i) q l (λ g. other (sym ex ∙ g ∙ ey)))

-- Current sheets have such a form: every caller may rely on it.
module _ (t : List ℕ) (small : Bytes t) (sound : Sound t) where
  pub every-change : (p x : ℕ) → p < sheet_bytes → x < 256 → (x ≡ get_or t p 0 → ⊥) → ask_sheet (set t p x) ≡ refused 2 (p / block_bytes)
  every-change = sheet-change present (lit≤ tt) t small sound

  pub every-exchange : (p : ℕ) → p < sheet_bytes → suc (p % block_bytes) < present.sums.body_bytes → (get_or t p 0 ≡ get_or t (suc p) 0 → ⊥) → ask_sheet (exchanged t p) ≡ refused 2 (p / block_bytes)
  every-exchange = sheet-exchange present (lit≤ tt) t small sound

  module _ {A : Type 0} (call : List ℕ → Asked A) (asks : AsksSheetFirst call) where
    pub every-caller-notices : (p x : ℕ) → p < sheet_bytes → x < 256 → (x ≡ get_or t p 0 → ⊥) → call (set t p x) ≡ refused 2 (p / block_bytes)
    every-caller-notices p x h k other = asks.first (set t p x) 2 (p / block_bytes) (every-change p x h k other)

    pub every-caller-notices-exchange : (p : ℕ) → p < sheet_bytes → suc (p % block_bytes) < present.sums.body_bytes → (get_or t p 0 ≡ get_or t (suc p) 0 → ⊥) → call (exchanged t p) ≡ refused 2 (p / block_bytes)
    every-caller-notices-exchange p h l other = asks.first (exchanged t p) 2 (p / block_bytes) (every-exchange p h l other)
