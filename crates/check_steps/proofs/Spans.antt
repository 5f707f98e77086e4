-- What the loops over a raised text keep.
use mathlib.Core.Path.{◌≡◌, refl, sym, ap, ap₂, ◌∙◌}
use mathlib.Core.Bool.{Bool, true, false, not, ◌&&◌, cond}
use mathlib.Core.List.{List, [], ◌∷◌}
use Prim.Native.Nat.{ℕ, zero, suc, ◌+◌, ◌-◌, ◌*◌, ◌%◌, ◌≤◌, ◌<◌}
use native.Mathlib.Nat.{zero-add}
use native.Mathlib.Numerals.{add-one}
use native.Mathlib.Omega.{arith}
use lib.Dec.{leb, eqb}
use lib.Pointwise.{pointwise, bytes_decides}
use lib.ListN.{length, get_or, set, take, drop, length-take, length-drop, drop_of_length-le, get_or-eq_default}
use lib.Seq.{drop-cons, ext_get_or, get_or-take, get_or-drop, take-length, paste, paste-suc}
use borrow.Author.Tests.{le-leb, lt-leb, eq-eqb, ne_eqb, leb-true, eqb-true}
use Rattle.ends.specs.Shapes.{shapes, shape_of}
use Rattle.answer.specs.Outputs.{written_at_start}
use Rattle.logic.proofs.Bools.{is_false, true-false}
use Rattle.logic.proofs.Below.{all_true, all-each, all_end}
use Rattle.logic.proofs.Tables.{cond_both}
use Rattle.check_steps.specs.Raised.{numbers_of, operands_of, next_numbers_def, raised_byte_def, raised, next_wanted_def, width, behind_at, alike, again_at}

pub shape-none : (c : ℕ) → 40 ≤ c → 0 ≡ shape_of c
shape-none c h = unfold shapes in sym (get_or-eq_default shapes 0 h)

-- One more byte.
pub after-number : (n w x : ℕ) → 0 < n → (n - 1 ≡ next_numbers_def n x) × (x % 128 + 128 ≡ raised_byte_def n x) × (w ≡ next_wanted_def n w x)
unfolding next_numbers_def raised_byte_def next_wanted_def
after-number zero w x h = absurd (omega arith)
after-number (suc n) w x h = (omega arith, refl, refl)

pub after-code : (n w x : ℕ) → n ≤ 0 → (numbers_of x ≡ next_numbers_def n x) × (x ≡ raised_byte_def n x) × (w - 1 + operands_of x ≡ next_wanted_def n w x)
unfolding next_numbers_def raised_byte_def next_wanted_def
after-code zero w x h = (refl, refl, refl)
after-code (suc n) w x h = absurd (omega arith)

pub raised-length : (n : ℕ) (t : List ℕ) → length (raised n t) ≡ length t
unfolding raised
raised-length n [] = refl
raised-length n (x ∷ t) = ap suc (raised-length (next_numbers_def n x) t)

-- The bytes before a place are raised; those from it on begin with n numbers.
pub record Raising (text work₀ : List ℕ) (p n : ℕ) (work : List ℕ) : Type 0 where
  pub on : p ≤ length text
  pub written : work ≡ paste work₀ 0 (raised 0 text) p
  pub to-come : drop p (raised 0 text) ≡ raised n (drop p text)

module _ {text work₀ work : List ℕ} {p n : ℕ} (r : Raising text work₀ p n work) where
  module _ (l : p < length text) (room : length text ≤ length work₀) where
    opened : ◌≡◌ {A = List ℕ} (get_or (raised 0 text) p 0 ∷ drop (suc p) (raised 0 text)) (raised_byte_def n (get_or text p 0) ∷ raised (next_numbers_def n (get_or text p 0)) (drop (suc p) text))
    opened = unfold raised in sym (drop-cons (raised 0 text) p 0 (omega (arith, l, raised-length 0 text))) ∙ r.to-come ∙ ap (raised n) (drop-cons text p 0 l)

    pub raising-next : (b m : ℕ) → b ≡ raised_byte_def n (get_or text p 0) → m ≡ next_numbers_def n (get_or text p 0) → Raising text work₀ (p + 1) m (set work p b)
    raising-next b m e f = record {
      on = omega arith;
      written = cc (r.written, opened, zero-add p, paste-suc work₀ 0 (raised 0 text) p 0 (omega arith) (omega (arith, raised-length 0 text)), add-one p);
      to-come = cc (opened, add-one p);
    }

  pub raising-end : length text ≤ p → work ≡ written_at_start (raised 0 text) work₀
  raising-end h =
      let e : p ≡ length (raised 0 text) = omega (arith, r.on, raised-length 0 text) in
      cc (r.written, take-length (raised 0 text), zero-add (length (raised 0 text)))

-- The expression at a place ends where what is still to come of it ends.
pub record Passing (text : List ℕ) (at p n w : ℕ) : Type 0 where
  pub on : p ≤ length text
  pub from : at ≤ p
  pub few : w ≤ 1 + 3 * p
  pub low : n ≤ 3
  pub ends : p + width n w (drop p text) ≡ behind_at text at

-- If nothing is to come, the end is here.
pub width-none : (n w : ℕ) → n + w ≡ 0 → (t : List ℕ) → width n w t ≡ 0
unfolding width
width-none n w e [] = refl
width-none n w e (x ∷ t) = cc (eq-eqb (n + w) 0 e)

module _ (text : List ℕ) (at : ℕ) where
  pub passing-first : at ≤ length text → Passing text at at 0 1
  passing-first h = record { on = h; from = omega arith; few = omega arith; low = omega arith; ends = refl }

  module _ {p n w : ℕ} (r : Passing text at p n w) where
    pub passing-none : n + w ≡ 0 → p ≡ behind_at text at
    passing-none e = omega (arith, width-none n w e (drop p text), r.ends)

    pub passing-over : length text ≤ p → p ≡ behind_at text at
    passing-over h = unfold width in omega (arith, ap (width n w) (drop_of_length-le text h), r.ends)

    few-next : (n w x : ℕ) → n ≤ 3 → (next_numbers_def n x ≤ 3) × (next_wanted_def n w x ≤ w + 3)
    unfolding next_numbers_def next_wanted_def
    few-next zero w x h = omega arith
    few-next (suc n) w x h = omega arith

    pub passing-next : p < length text → (n + w ≡ 0 → ⊥) → (m v : ℕ) → m ≡ next_numbers_def n (get_or text p 0) → v ≡ next_wanted_def n w (get_or text p 0) → Passing text at (p + 1) m v
    unfolding width
    passing-next l some m v e f =
        let turned : width n w (drop p text) ≡ suc (width m v (drop (p + 1) text)) = cc (drop-cons text p 0 l, ne_eqb (n + w) 0 some, add-one p) in
        omega (arith, r.from, r.few, r.ends, few-next n w (get_or text p 0) r.low)

-- Whether two slices of a text are equal, as the code finds it.
pub alike-slices : (t : List ℕ) (a b n : ℕ) → a + n ≤ length t → b + n ≤ length t → {r : Bool} → r ≡ not (pointwise eqb (take (a + n - a) (drop a t)) (take (b + n - b) (drop b t))) → alike t a b n ≡ not r
alike-slices t a b n ha hb {r} e = go (pointwise eqb xs ys) refl where
  xs : List ℕ
  xs = take (a + n - a) (drop a t)

  ys : List ℕ
  ys = take (b + n - b) (drop b t)

  x-at : (i : ℕ) → i < n → get_or xs i 0 ≡ get_or t (a + i) 0
  x-at i h = get_or-take (a + n - a) (drop a t) i 0 (omega arith) ∙ get_or-drop a t i 0

  y-at : (i : ℕ) → i < n → get_or ys i 0 ≡ get_or t (b + i) 0
  y-at i h = get_or-take (b + n - b) (drop b t) i 0 (omega arith) ∙ get_or-drop b t i 0

  x-long : length xs ≡ n
  x-long = omega (arith, length-take (a + n - a) (drop a t), length-drop a t)

  y-long : length ys ≡ n
  y-long = omega (arith, length-take (b + n - b) (drop b t), length-drop b t)

  go : (p : Bool) → pointwise eqb xs ys ≡ p → alike t a b n ≡ not r
  go true p = let s = (bytes_decides xs ys).0 p in all_true n _ (λ i h. eq-eqb _ _ (sym (x-at i h) ∙ ap (λ z. get_or z i 0) s ∙ y-at i h)) ∙ sym (ap not (e ∙ ap not p))
  go false p = is_false (alike t a b n) (λ h.
      let s : xs ≡ ys = ext_get_or 0 xs ys (x-long ∙ sym y-long) (λ i j. let m : i < n = omega (arith, x-long) in x-at i m ∙ eqb-true _ _ (all-each n _ h i m) ∙ sym (y-at i m)) in
      true-false ((bytes_decides xs ys).1 s) p) ∙ sym (ap not (e ∙ ap not p))

-- An expression that occurs again.
module _ (text : List ℕ) (at gap end : ℕ) (is : end ≡ behind_at text at) where
  again-is : again_at text at gap ≡ cond (leb (end + gap + (end - at)) (length text) && alike text at (end + gap) (end - at)) (end + gap) 0
  again-is = unfold again_at in ap (λ z. cond (leb (z + gap + (z - at)) (length text) && alike text at (z + gap) (z - at)) (z + gap) 0) (sym is)

  pub again-short : length text < end + gap + (end - at) → 0 ≡ again_at text at gap
  again-short h = sym (again-is ∙ ap (λ b. cond (b && alike text at (end + gap) (end - at)) (end + gap) 0) (lt-leb (end + gap + (end - at)) (length text) h))

  module _ (room : end + gap + (end - at) ≤ length text) where
    whole : (b : Bool) → alike text at (end + gap) (end - at) ≡ b → again_at text at gap ≡ cond b (end + gap) 0
    whole b e = again-is ∙ ap₂ (λ a b. cond (a && b) (end + gap) 0) (le-leb (end + gap + (end - at)) (length text) room) e

    pub again-differs : alike text at (end + gap) (end - at) ≡ false → 0 ≡ again_at text at gap
    again-differs d = sym (whole false d)

    pub again-found : (i : ℕ) → i ≤ end - at → end - at ≤ i → alike text at (end + gap) i ≡ true → end + gap ≡ again_at text at gap
    again-found i h l e = sym (whole true (all_end (λ i. eqb (get_or text (at + i) 0) (get_or text (end + gap + i) 0)) (end - at) i h l e))

-- The place after an expression is within the text.
width-in : (n w : ℕ) (t : List ℕ) → width n w t ≤ length t
unfolding width
width-in n w [] = omega arith
width-in n w (x ∷ t) = cond_both (λ z. z ≤ suc (length t)) (eqb (n + w) 0) 0 (suc (width (next_numbers_def n x) (next_wanted_def n w x) t)) (omega arith) (omega (arith, width-in (next_numbers_def n x) (next_wanted_def n w x) t))

pub behind-in : (text : List ℕ) (at : ℕ) → at ≤ length text → behind_at text at ≤ length text
behind-in text at h = omega (arith, width-in 0 1 (drop at text), length-drop at text)

-- A place found again is within the text, and so is all of the expression there.
pub record AgainIn (text : List ℕ) (at gap place : ℕ) : Type 0 where
  pub low : at + gap ≤ place
  pub room : place + (place - gap - at) ≤ length text
  pub same : alike text at place (place - gap - at) ≡ true
  pub is : place ≡ behind_at text at + gap

pub again-in : (text : List ℕ) (at gap place : ℕ) → place ≡ again_at text at gap → (place ≡ 0 → ⊥) → AgainIn text at gap place
unfolding again_at
again-in text at gap place e some = go (leb (end + gap + (end - at)) (length text)) refl (alike text at (end + gap) (end - at)) refl e where
  end : ℕ
  end = behind_at text at

  go : (a : Bool) → leb (end + gap + (end - at)) (length text) ≡ a → (b : Bool) → alike text at (end + gap) (end - at) ≡ b → place ≡ cond (a && b) (end + gap) 0 → AgainIn text at gap place
  go true h true k q =
      let n : end - at ≡ place - gap - at = omega arith in
      record { low = omega arith; room = omega (arith, leb-true (end + gap + (end - at)) (length text) h); same = ap₂ (alike text at) q (sym n) ∙ k; is = q }
  go true h false k q = absurd (some q)
  go false h b k q = absurd (some q)
