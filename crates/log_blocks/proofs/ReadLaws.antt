-- Reading a log block by block: what each block can be, and that only the places of answers depend on the blocks' numbers.
use mathlib.Core.Path.{◌≡◌, refl, sym, ◌∙◌, ap, subst}
use mathlib.Core.Bool.{Bool, true, false, ◌&&◌, cond}
use mathlib.Core.List.{List, [], ◌∷◌, ◌++◌}
use Prim.Native.Nat.{ℕ, zero, suc, ◌+◌, ◌≤◌}
use native.Mathlib.Nat.{zero-add}
use native.Mathlib.Omega.{arith}
use borrow.Author.Tests.{eqb-true, le-leb}
use lib.Dec.{eqb, leb}
use lib.ListN.{length, drop}
use Rattle.answer.specs.Asked.{Asked, passed, refused, ◌>>◌, is}
use Rattle.seal.specs.Seal.{modulo257, seal_right_def}
use Rattle.log_blocks.specs.Log.{is_last, content, fields_right_def, is_begun, ask_log_block, ask_log_end, Recorded, ends, follows, unless_bad, recorded}
use Rattle.log_blocks.specs.Stops.{placed, renumbered}
use Rattle.logic.specs.Graph.{implies}

module _ (number : ℕ) (g : List ℕ) (k : List ℕ) (ks : List (List ℕ)) where
  pub read-bad : (q p : ℕ) → ask_log_block (is_begun g) number k ≡ refused q p → recorded number g (k ∷ ks) ≡ ends (refused q p)
  read-bad q p e = unfold recorded unless_bad in cc

  pub read-last : ask_log_block (is_begun g) number k ≡ passed tt → is_last k ≡ true → recorded number g (k ∷ ks) ≡ follows (g ++ content k) (recorded (suc number) [] ks)
  read-last e l = unfold recorded unless_bad in cc

  pub read_more : ask_log_block (is_begun g) number k ≡ passed tt → is_last k ≡ false → recorded number g (k ∷ ks) ≡ recorded (suc number) (g ++ content k) ks
  read_more e l = unfold recorded unless_bad in cc

-- What a block means for the edit gathered so far.
pub data Block (number : ℕ) (g k : List ℕ) : Type 0 where
  bad : (q p : ℕ) → ask_log_block (is_begun g) number k ≡ refused q p → Block number g k
  last : ask_log_block (is_begun g) number k ≡ passed tt → is_last k ≡ true → Block number g k
  more : ask_log_block (is_begun g) number k ≡ passed tt → is_last k ≡ false → Block number g k

pub block-is : (number : ℕ) (g k : List ℕ) → Block number g k
block-is number g k = go (ask_log_block (is_begun g) number k) (is_last k) refl refl where
  go : (x : Asked (Unit {0})) (l : Bool) → ask_log_block (is_begun g) number k ≡ x → is_last k ≡ l → Block number g k
  go (refused q p) l e f = bad q p e
  go (passed u) true e f = last e f
  go (passed u) false e f = more e f

-- A statement about what is read from blocks, by what the first of them is.
pub each-log : (P : ℕ → List ℕ → List (List ℕ) → Type 0)
    → ((number : ℕ) (g : List ℕ) → P number g [])
    → ((number : ℕ) (g k : List ℕ) (ks : List (List ℕ)) (q p : ℕ) → ask_log_block (is_begun g) number k ≡ refused q p → P number g (k ∷ ks))
    → ((number : ℕ) (g k : List ℕ) (ks : List (List ℕ)) → ask_log_block (is_begun g) number k ≡ passed tt → is_last k ≡ true → P (suc number) [] ks → P number g (k ∷ ks))
    → ((number : ℕ) (g k : List ℕ) (ks : List (List ℕ)) → ask_log_block (is_begun g) number k ≡ passed tt → is_last k ≡ false → P (suc number) (g ++ content k) ks → P number g (k ∷ ks))
    → (number : ℕ) (g : List ℕ) (ks : List (List ℕ)) → P number g ks
each-log P e b l m number g [] = e number g
each-log P e b l m number g (k ∷ ks) = go (block-is number g k) (each-log P e b l m (suc number) [] ks) (each-log P e b l m (suc number) (g ++ content k) ks) where
  go : Block number g k → P (suc number) [] ks → P (suc number) (g ++ content k) ks → P number g (k ∷ ks)
  go (bad q p f) new on = b number g k ks q p f
  go (last f d) new on = l number g k ks f d new
  go (more f d) new on = m number g k ks f d on

-- The same for last and other blocks at once: what is gathered after a block that passed, and the edits with the one that it ends.
abbrev pub gathered_then : (g k : List ℕ) → List ℕ
gathered_then g k = cond (is_last k) [] (g ++ content k)

abbrev pub edits_then : (g k : List ℕ) → List (List ℕ) → List (List ℕ)
edits_then g k es = cond (is_last k) ((g ++ content k) ∷ es) es

abbrev pub read_then : (g k : List ℕ) → Recorded → Recorded
read_then g k r = record { edits = edits_then g k r.edits; ending = r.ending }

pub read-on : (number : ℕ) (g k : List ℕ) (ks : List (List ℕ)) → ask_log_block (is_begun g) number k ≡ passed tt → recorded number g (k ∷ ks) ≡ read_then g k (recorded (suc number) (gathered_then g k) ks)
read-on number g k ks e = go (is_last k) refl where
  go : (l : Bool) → is_last k ≡ l → recorded number g (k ∷ ks) ≡ read_then g k (recorded (suc number) (gathered_then g k) ks)
  go true l = cc (read-last number g k ks e l)
  go false l = cc (read_more number g k ks e l)

pub each-passed : (P : ℕ → List ℕ → List (List ℕ) → Type 0)
    → ((number : ℕ) (g : List ℕ) → P number g [])
    → ((number : ℕ) (g k : List ℕ) (ks : List (List ℕ)) (q p : ℕ) → ask_log_block (is_begun g) number k ≡ refused q p → P number g (k ∷ ks))
    → ((number : ℕ) (g k : List ℕ) (ks : List (List ℕ)) → ask_log_block (is_begun g) number k ≡ passed tt → P (suc number) (gathered_then g k) ks → P number g (k ∷ ks))
    → (number : ℕ) (g : List ℕ) (ks : List (List ℕ)) → P number g ks
each-passed P e b on = each-log P e b
    (λ number g k ks f l i. on number g k ks f (subst (λ x. P (suc number) (cond x [] (g ++ content k)) ks) (sym l) i))
    (λ number g k ks f l i. on number g k ks f (subst (λ x. P (suc number) (cond x [] (g ++ content k)) ks) (sym l) i))

-- Whole blocks, numbered from n on, stay within the limit; one that is cut short may have any number.
unfoldable pub Few : ℕ → List (List ℕ) → Type 0
Few n [] = Unit {0}
Few n (k ∷ ks) = (length k ≡ 512 → n ≤ 65534) × Few (suc n) ks

pub few-behind : (m n : ℕ) (ks : List (List ℕ)) → Few n ks → Few (m + n) (drop m ks)
unfolding Few
few-behind zero n ks f = rw zero-add f
few-behind (suc m) n [] f = tt
few-behind (suc m) n (k ∷ ks) f = let e : suc m + n ≡ m + suc n = omega arith in rw e (few-behind m (suc n) ks f.1)

-- m blocks further on
asks-further : (m a : ℕ) (x y : Bool) → (is x 52 (m + a) >> is y 53 (m + a)) ≡ placed m (is x 52 a >> is y 53 a)
unfolding is ◌>>◌ placed
asks-further m a false y = refl
asks-further m a true false = refl
asks-further m a true true = refl

block-further : (m a : ℕ) (k : List ℕ) → (length k ≡ 512 → m + a ≤ 65534) → (b : Bool) → ask_log_block b (m + a) k ≡ placed m (ask_log_block b a k)
unfolding ask_log_block
block-further m a k low b =
    let sums = implies (eqb (length k) 512) (seal_right_def modulo257 k) in
    asks-further m a sums _ ∙ ap (λ y. placed m (is sums 52 a >> is y 53 a)) (go (eqb (length k) 512) refl) where
      go : (w : Bool) → eqb (length k) 512 ≡ w → (eqb (length k) 512 && (leb (m + a) 65534 && fields_right_def b k)) ≡ (eqb (length k) 512 && (leb a 65534 && fields_right_def b k))
      go true w = let h : m + a ≤ 65534 = low (eqb-true (length k) 512 w) in cc (le-leb (m + a) 65534 h, le-leb a 65534 (omega arith))
      go false w = cc

end-further : (m a : ℕ) (b : Bool) → ask_log_end b (m + a) ≡ placed m (ask_log_end b a)
unfolding ask_log_end is placed
end-further m a true = refl
end-further m a false = refl

pub further : (m a : ℕ) (g : List ℕ) (ks : List (List ℕ)) → Few (m + a) ks → recorded (m + a) g ks ≡ renumbered m (recorded a g ks)
unfolding recorded placed Few
further m = each-passed (λ a g ks. Few (m + a) ks → recorded (m + a) g ks ≡ renumbered m (recorded a g ks))
    (λ a g h. ap ends (end-further m a (is_begun g)))
    (λ a g k ks q p e h. cc (read-bad (m + a) g k ks q (m + p) (block-further m a k h.0 (is_begun g) ∙ ap (placed m) e), read-bad a g k ks q p e))
    (λ a g k ks e on h.
    let n : m + suc a ≡ suc (m + a) = omega arith in
    read-on (m + a) g k ks (block-further m a k h.0 (is_begun g) ∙ ap (placed m) e)
    ∙ ap (read_then g k) (ap (λ j. recorded j (gathered_then g k) ks) (sym n) ∙ on (rw n h.1)) ∙ ap (renumbered m) (sym (read-on a g k ks e)))
