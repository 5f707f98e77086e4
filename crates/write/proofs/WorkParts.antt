-- The parts of the work array, and what they are after a store.
use mathlib.Core.Path.{◌≡◌, refl, sym, ap, ◌∙◌}
use mathlib.Core.List.{List, ◌++◌}
use Prim.Native.Nat.{ℕ, ◌+◌, ◌-◌, ◌≤◌, ◌<◌}
use native.Mathlib.Omega.{arith}
use lib.ListN.{length, get_or, set, take, drop, length-take, length-drop}
use lib.Seq.{length-take-le, get_or-drop, get_or-take, drop-drop, take_at, drop-append-add, drop-set-add, drop-set-lt, take-set-lt, take-set-le}
use Rattle.ends.specs.Kept.{Kept}
use Rattle.write.specs.Work.{part, work_length, last_of, stack_of, links_of, behind_of}

module _ (from n : ℕ) (work : List ℕ) where
  pub part_at : (i k : ℕ) → i < n → k ≡ from + i → get_or (part from n work) i 0 ≡ get_or work k 0
  part_at i k l e = unfold part in get_or-take n (drop from work) i 0 l ∙ get_or-drop from work i 0 ∙ ap (λ (x : ℕ). get_or work x 0) (sym e)

  pub part_length : from + n ≤ length work → length (part from n work) ≡ n
  part_length l = unfold part in simp (length-take, length-drop) (omega arith)

  -- one number stored
  module _ (k v : ℕ) where
    pub part_in : (i : ℕ) → i < n → k ≡ from + i → part from n (set work k v) ≡ set (part from n work) i v
    part_in i l e = unfold part in ap (λ (x : ℕ). take n (drop from (set work x v))) e ∙ ap (take n) (drop-set-add from work i v) ∙ take-set-lt n (drop from work) i v l

    pub part-before : k < from → part from n (set work k v) ≡ part from n work
    part-before l = unfold part in ap (take n) (drop-set-lt from work k v l)

    pub part-behind : from + n ≤ k → part from n (set work k v) ≡ part from n work
    unfolding part
    part-behind l =
        let e : k ≡ from + (k - from) = omega (arith, l) in
        ap (λ (x : ℕ). take n (drop from (set work x v))) e ∙ ap (take n) (drop-set-add from work (k - from) v) ∙ take-set-le n (drop from work) (k - from) v (omega (arith, l))

  -- the first numbers replaced by as many others
  part-front : (e : List ℕ) (m : ℕ) → length e ≡ m → m ≤ from → part from n (e ++ drop m work) ≡ part from n work
  unfolding part
  part-front e m l r =
      let f : from ≡ length e + (from - m) = omega (arith, l, r) in
      let g : m + (from - m) ≡ from = omega (arith, r) in
      ap (take n) (ap (λ (x : ℕ). drop x (e ++ drop m work)) f ∙ drop-append-add e (drop m work) (from - m) ∙ drop-drop (from - m) m work ∙ ap (λ (x : ℕ). drop x work) g)

-- the last steps of names, as the first 64 numbers
pub last-first : (work : List ℕ) → last_of work ≡ take 64 work
last-first work = unfold part in refl

pub names-long : (work : List ℕ) → length work ≡ work_length → length (take 64 work) ≡ 64
names-long work l = length-take-le 64 work (omega arith)

pub last-kept-as : (e w : List ℕ) → Kept 4844 e w → Kept 64 (last_of e) (last_of w)
last-kept-as e w k = record { same = λ i r. part_at 0 64 w i i r (omega arith) ∙ k.same i (omega (arith, r)) ∙ sym (part_at 0 64 e i i r (omega arith)) }

-- the parts of a work array, one by one
pub record WorkIs (work last stack links behind : List ℕ) : Type 0 where
  pub last-is : last_of work ≡ last
  pub stack_is : stack_of work ≡ stack
  pub links-are : links_of work ≡ links
  pub behind-is : behind_of work ≡ behind

-- an offset of an edit that follows, stored
pub behind-stored : (work : List ℕ) (d v : ℕ) → d < 2048 → WorkIs (set work (2796 + d) v) (last_of work) (stack_of work) (links_of work) (set (behind_of work) d v)
behind-stored work d v l = record {
  last-is = part-behind 0 64 work (2796 + d) v (omega arith);
  stack_is = part-behind 64 1366 work (2796 + d) v (omega arith);
  links-are = part-behind 1430 1366 work (2796 + d) v (omega arith);
  behind-is = part_in 2796 2048 work (2796 + d) v d l refl;
}

-- the last steps of names replaced
pub last-replaced : (work e : List ℕ) → length e ≡ 64 → WorkIs (e ++ drop 64 work) e (stack_of work) (links_of work) (behind_of work)
last-replaced work e l = record {
  last-is = last-first (e ++ drop 64 work) ∙ take_at e (drop 64 work) 64 l;
  stack_is = part-front 64 1366 work e 64 l (omega arith);
  links-are = part-front 1430 1366 work e 64 l (omega arith);
  behind-is = part-front 2796 2048 work e 64 l (omega arith);
}
