-- Notes of 35s: kept where the work array changes before them, and one more put in.
use mathlib.Core.Path.{◌≡◌, sym, ap, ◌∙◌}
use mathlib.Core.List.{List, ◌++◌}
use mathlib.Core.Logic.{◌⊎◌, inl, inr}
use Prim.Native.Nat.{ℕ, ◌+◌, ◌-◌, ◌*◌, ◌≤◌, ◌<◌}
use native.Mathlib.Omega.{arith}
use native.Mathlib.Decide.{dec_lt}
use lib.ListN.{length, get_or, set, take, drop, replicate, length-set, length-append, length-take, length-drop, length-replicate, get_or-replicate}
use lib.Seq.{get_or-set_same, get_or-drop, get_or-take, get_or-append-add, take_at, length_front}
use Rattle.ends.specs.Kept.{Kept}
use Rattle.ends.proofs.Kept.{elsewhere}
use Rattle.write.specs.Work.{part, work_length, last_of}
use Rattle.write.specs.Links.{SameNotes}
use Rattle.write.specs.Ways.{Ends, Noted, Renoted}
use Rattle.write.proofs.WorkParts.{part-behind, names-long, last-kept-as, last-replaced}

pub notes-set : (work : List ℕ) (k v : ℕ) → k < 4844 → SameNotes work (set work k v)
notes-set work k v l = record { same = λ j m. elsewhere work k j v (λ e. omega (arith, e)) }

pub notes-more : {a b c : List ℕ} → SameNotes a b → SameNotes b c → SameNotes a c
notes-more s t = record { same = λ k m. t.same k m ∙ s.same k m }

pub notes-front : (work e : List ℕ) → length e ≡ 64 → SameNotes work (e ++ drop 64 work)
notes-front work e l = record {
  same = λ k m.
      let p : k ≡ length e + (k - 64) = omega (arith, l, m) in
      let r : 64 + (k - 64) ≡ k = omega (arith, m) in
      ap (λ (x : ℕ). get_or (e ++ drop 64 work) x 0) p ∙ get_or-append-add e (drop 64 work) (k - 64) 0 ∙ get_or-drop 64 work (k - 64) 0 ∙ ap (λ (x : ℕ). get_or work x 0) r;
}

pub noted-same : {edit work work' : List ℕ} → SameNotes work work' → Noted edit work → Noted edit work'
noted-same s n = record { each = λ i l. rw (s.same (4844 + 3 * i) (omega arith), s.same (4844 + 3 * i + 1) (omega arith), s.same (4844 + 3 * i + 2) (omega arith)) (n.each i l) }

-- a work array with neither last steps nor notes
pub record Emptied (work : List ℕ) : Type 0 where
  pub long : length work ≡ work_length
  pub lasts : Kept 64 (replicate 64 0) (last_of work)
  pub notes : (k : ℕ) → k < 192 → get_or work (4844 + k) 0 ≡ 0

-- its last steps e and its notes n filled with 0
pub emptied : (work e n : List ℕ) → length work ≡ work_length → e ≡ replicate (length (take 64 work)) 0 → n ≡ replicate (length (take (length (e ++ drop 64 work) - 4844) (drop 4844 (e ++ drop 64 work)))) 0
    → Emptied (take 4844 (e ++ drop 64 work) ++ (n ++ drop (length (e ++ drop 64 work) - 4844) (drop 4844 (e ++ drop 64 work))))
emptied work e n l f g =
    let x = e ++ drop 64 work in
    let a : length (take 64 work) ≡ 64 = names-long work l in
    let z : e ≡ replicate 64 0 = f ∙ ap (λ (k : ℕ). replicate k 0) a in
    let m : length e ≡ 64 = ap length z ∙ length-replicate {A = ℕ} 64 0 in
    let y : length x ≡ work_length = length_front work e 64 (m ∙ sym a) ∙ l in
    let b : length (take (length x - 4844) (drop 4844 x)) ≡ 192 = omega (arith, length-take (length x - 4844) (drop 4844 x), length-drop 4844 x) in
    let q : n ≡ replicate 192 0 = g ∙ ap (λ (k : ℕ). replicate k 0) b in
    let r : length n ≡ 192 = ap length q ∙ length-replicate {A = ℕ} 192 0 in
    let t : length (take 4844 x) ≡ 4844 = omega (arith, length-take 4844 x) in
    let rest = drop (length x - 4844) (drop 4844 x) in
    let w = take 4844 x ++ (n ++ rest) in
    let k : Kept 4844 x w = record { same = λ i h. sym (get_or-take 4844 w i 0 h) ∙ ap (λ (v : List ℕ). get_or v i 0) (take_at (take 4844 x) (n ++ rest) 4844 t) ∙ get_or-take 4844 x i 0 h } in
    record {
      long = omega (arith, length-append (take 4844 x) (n ++ rest), length-append n rest, length-drop (length x - 4844) (drop 4844 x), length-drop 4844 x);
      lasts = rw ((last-replaced work e m).last-is ∙ z) at (last-kept-as x w k);
      notes = λ i h.
          ap (λ (j : ℕ). get_or w (j + i) 0) (sym t) ∙ get_or-append-add (take 4844 x) (n ++ rest) i 0 ∙ sym (get_or-take 192 (n ++ rest) i 0 h) ∙ ap (λ (v : List ℕ). get_or v i 0) (take_at n rest 192 r ∙ q) ∙ get_or-replicate 192 i 0 0 h;
    }

pub noted-none : {edit work : List ℕ} → Emptied work → Noted edit work
noted-none c = record { each = λ i l. inl (c.notes (3 * i) (omega (arith, l))) }

-- one note more
module _ (edit work : List ℕ) (i first second next : ℕ) (l : i < 64) (long : length work ≡ work_length) where
  abbrev b : ℕ
  b = 4844 + 3 * i

  abbrev put : List ℕ
  put = set (set (set work b first) (b + 1) second) (b + 2) next

  other : (k : ℕ) → (b ≡ k → ⊥) → (b + 1 ≡ k → ⊥) → (b + 2 ≡ k → ⊥) → get_or put k 0 ≡ get_or work k 0
  other k p q r = elsewhere (set (set work b first) (b + 1) second) (b + 2) k next r ∙ elsewhere (set work b first) (b + 1) k second q ∙ elsewhere work b k first p

  one : get_or put b 0 ≡ first
  one = elsewhere (set (set work b first) (b + 1) second) (b + 2) b next (λ e. omega (arith, e)) ∙ elsewhere (set work b first) (b + 1) b second (λ e. omega (arith, e)) ∙ get_or-set_same work b first 0 (omega (arith, long, l))

  two : get_or put (b + 1) 0 ≡ second
  two = elsewhere (set (set work b first) (b + 1) second) (b + 2) (b + 1) next (λ e. omega (arith, e)) ∙ get_or-set_same (set work b first) (b + 1) second 0 (omega (arith, length-set work b first, long, l))

  three : get_or put (b + 2) 0 ≡ next
  three = get_or-set_same (set (set work b first) (b + 1) second) (b + 2) next 0 (omega (arith, length-set (set work b first) (b + 1) second, length-set work b first, long, l))

  same-part : (from n : ℕ) → from + n ≤ 4844 → part from n put ≡ part from n work
  same-part from n r = part-behind from n (set (set work b first) (b + 1) second) (b + 2) next (omega arith) ∙ part-behind from n (set work b first) (b + 1) second (omega arith) ∙ part-behind from n work b first (omega arith)

  pub note-put : Ends edit first second next → Noted edit work → Renoted edit work put
  note-put e n = record {
    noted = record { each = λ j m. go j m (dec_lt j i) (dec_lt i j) };
    last_same = same-part 0 64 (omega arith);
    stack_same = same-part 64 1366 (omega arith);
    links_same = same-part 1430 1366 (omega arith);
    behind_same = same-part 2796 2048 (omega arith);
  } where
    away : (j : ℕ) → (j < i) ⊎ (i < j) → (get_or put (4844 + 3 * j) 0 ≡ get_or work (4844 + 3 * j) 0) × (get_or put (4844 + 3 * j + 1) 0 ≡ get_or work (4844 + 3 * j + 1) 0) × (get_or put (4844 + 3 * j + 2) 0 ≡ get_or work (4844 + 3 * j + 2) 0)
    away j (inl r) = (other _ (λ q. omega (arith, q, r)) (λ q. omega (arith, q, r)) (λ q. omega (arith, q, r)), other _ (λ q. omega (arith, q, r)) (λ q. omega (arith, q, r)) (λ q. omega (arith, q, r)), other _ (λ q. omega (arith, q, r)) (λ q. omega (arith, q, r)) (λ q. omega (arith, q, r)))
    away j (inr r) = (other _ (λ q. omega (arith, q, r)) (λ q. omega (arith, q, r)) (λ q. omega (arith, q, r)), other _ (λ q. omega (arith, q, r)) (λ q. omega (arith, q, r)) (λ q. omega (arith, q, r)), other _ (λ q. omega (arith, q, r)) (λ q. omega (arith, q, r)) (λ q. omega (arith, q, r)))

    go : (j : ℕ) → j < 64 → Dec (j < i) → Dec (i < j) → (get_or put (4844 + 3 * j) 0 ≡ 0) ⊎ Ends edit (get_or put (4844 + 3 * j) 0) (get_or put (4844 + 3 * j + 1) 0) (get_or put (4844 + 3 * j + 2) 0)
    go j m (yes r) s = let a = away j (inl r) in rw (a.0, a.1, a.2) (n.each j m)
    go j m (no r) (yes s) = let a = away j (inr s) in rw (a.0, a.1, a.2) (n.each j m)
    go j m (no r) (no s) = let q : j ≡ i = omega (arith, r, s) in rw (q, one, two, three) (inr e)

-- a note that is there
pub note-there : {edit work : List ℕ} {first k : ℕ} → (i : ℕ) → i < 64 → k ≡ 4844 + 3 * i → Noted edit work → get_or work k 0 ≡ first → 0 < first → Ends edit first (get_or work (k + 1) 0) (get_or work (k + 2) 0)
note-there {edit} {work} {first} {k} i l e n f p = rw e (go (n.each i l)) where
  g : get_or work (4844 + 3 * i) 0 ≡ first
  g = ap (λ (x : ℕ). get_or work x 0) (sym e) ∙ f

  go : (get_or work (4844 + 3 * i) 0 ≡ 0) ⊎ Ends edit (get_or work (4844 + 3 * i) 0) (get_or work (4844 + 3 * i + 1) 0) (get_or work (4844 + 3 * i + 2) 0) → Ends edit first (get_or work (4844 + 3 * i + 1) 0) (get_or work (4844 + 3 * i + 2) 0)
  go (inl z) = absurd (omega (arith, z, g, p))
  go (inr w) = rw g at w
