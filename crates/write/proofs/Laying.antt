-- Bytes laid one part after the other.
use mathlib.Core.Path.{◌≡◌, refl, sym, ap, ◌∙◌}
use mathlib.Core.List.{List, [], ◌∷◌, ◌++◌, append_assoc}
use Prim.Native.Nat.{ℕ, suc, min, ◌+◌, ◌-◌, ◌≤◌, ◌<◌}
use native.Mathlib.Omega.{arith}
use native.Mathlib.Nat.{add-zero}
use native.Mathlib.Numerals.{add-one}
use lib.ListN.{length, get_or, set, take, drop, length-append, length-take, length-drop}
use lib.Seq.{sets, sets-eq, length-sets, take-suc, take_at, drop_at, get_or-drop, get_or-set_other}
use Rattle.write.specs.Work.{part}
use Rattle.write.specs.Laid.{laid, Wrote}
use Rattle.write.proofs.WorkParts.{part-behind}

laid-append : (o : List ℕ) (p : ℕ) (xs ys : List ℕ) → laid o p (xs ++ ys) ≡ laid (laid o p xs) (p + length xs) ys
unfolding laid
laid-append o p [] ys = ap (λ (n : ℕ). laid o n ys) (sym (add-zero p))
laid-append o p (b ∷ xs) ys = laid-append (set o p b) (suc p) xs ys ∙ ap (λ (n : ℕ). laid (laid (set o p b) (suc p) xs) n ys) (let e : suc p + length xs ≡ p + suc (length xs) = omega arith in e)

laid-sets : (o : List ℕ) (p : ℕ) (bs : List ℕ) → laid o p bs ≡ sets o p bs
unfolding laid
laid-sets o p [] = refl
laid-sets o p (b ∷ bs) = laid-sets (set o p b) (suc p) bs

pub length-laid : (o : List ℕ) (p : ℕ) (bs : List ℕ) → length (laid o p bs) ≡ length o
length-laid o p bs = ap length (laid-sets o p bs) ∙ length-sets o p bs

-- below the place everything is as it was
laid-below : (o : List ℕ) (p : ℕ) (bs : List ℕ) (j : ℕ) → j < p → get_or (laid o p bs) j 0 ≡ get_or o j 0
unfolding laid
laid-below o p [] j h = refl
laid-below o p (b ∷ bs) j h = laid-below (set o p b) (suc p) bs j (omega arith) ∙ get_or-set_other o p j b 0 (λ e. omega (arith, e))

-- where they fit, the bytes stand between what was before and after them
pub laid-fits : (o : List ℕ) (p : ℕ) (bs : List ℕ) → p + length bs ≤ length o → laid o p bs ≡ take p o ++ bs ++ drop (p + length bs) o
laid-fits o p bs h = laid-sets o p bs ∙ sets-eq bs o p h

-- put in as one part
pub wrote-part : {o bs out : List ℕ} {p n : ℕ} → out ≡ take p o ++ bs ++ drop (p + n) o → n ≡ length bs → p + n ≤ length o → Wrote o p bs (p + n) out
wrote-part {o} {bs} {out} {p} {n} e l h = record { counted = omega arith; stored = e ∙ ap (λ (k : ℕ). take p o ++ bs ++ drop (p + k) o) l ∙ sym (laid-fits o p bs (omega arith)) }

pub wrote_none : (o : List ℕ) (p : ℕ) → Wrote o p [] p o
wrote_none o p = unfold laid in record { counted = omega arith; stored = refl }

pub wrote_one : (o : List ℕ) (p b : ℕ) → Wrote o p (b ∷ []) (p + 1) (set o p b)
wrote_one o p b = unfold laid in record { counted = refl; stored = refl }

pub wrote-two : (o : List ℕ) (p a b : ℕ) → Wrote o p (a ∷ b ∷ []) (p + 2) (set (set o p a) (p + 1) b)
wrote-two o p a b = unfold laid in record { counted = refl; stored = rw add-one }

pub wrote-more : {o o₁ o₂ xs ys : List ℕ} {p p₁ p₂ : ℕ} → Wrote o p xs p₁ o₁ → Wrote o₁ p₁ ys p₂ o₂ → Wrote o p (xs ++ ys) p₂ o₂
wrote-more {o} {o₁} {o₂} {xs} {ys} {p} {p₁} {p₂} u v = record {
  counted = omega (arith, u.counted, v.counted, length-append xs ys);
  stored = v.stored ∙ ap (λ (l : List ℕ). laid l p₁ ys) u.stored ∙ ap (λ (n : ℕ). laid (laid o p xs) n ys) u.counted ∙ sym (laid-append o p xs ys);
}

pub wrote_as : {o o' xs ys : List ℕ} {p p' : ℕ} → xs ≡ ys → Wrote o p xs p' o' → Wrote o p ys p' o'
wrote_as {o} {o'} {xs} {ys} {p} {p'} e u = record { counted = u.counted ∙ ap (λ (l : List ℕ). p + length l) e; stored = u.stored ∙ ap (laid o p) e }

-- n bytes of a text written one by one: the first k are there, or all
pub record Coded (text : List ℕ) (at n : ℕ) (o : List ℕ) (pos k : ℕ) (out : List ℕ) : Type 0 where
  pub inside : at + n ≤ length text
  pub is : out ≡ laid o pos (take (min k n) (drop at text))

pub coded_none : (text : List ℕ) (at n : ℕ) (o : List ℕ) (pos : ℕ) → at + n ≤ length text → Coded text at n o pos 0 o
coded_none text at n o pos h = unfold laid in record { inside = h; is = ap (λ (x : ℕ). laid o pos (take x (drop at text))) (let a : 0 ≡ min 0 n = omega arith in a) }

module _ {text o out : List ℕ} {at n pos k : ℕ} (w : Coded text at n o pos k out) where
  coded-as : (x : ℕ) → min k n ≡ x → out ≡ laid o pos (take x (drop at text))
  coded-as x e = w.is ∙ ap (λ (y : ℕ). laid o pos (take y (drop at text))) e

  pub coded-more : k < n → Coded text at n o pos (k + 1) (set out (pos + k) (get_or text (at + k) 0))
  unfolding laid
  coded-more l =
      let e : min (k + 1) n ≡ suc k = omega arith in
      let m : length (take k (drop at text)) ≡ k = omega (arith, w.inside, length-take k (drop at text), length-drop at text) in
      let r : k < length (drop at text) = omega (arith, w.inside, length-drop at text) in
      record { inside = w.inside; is = rw (coded-as k (omega arith), e, take-suc (drop at text) k 0, laid-append, m, get_or-drop at text k 0) }

  pub coded-stay : n ≤ k → Coded text at n o pos (k + 1) out
  coded-stay l = record { inside = w.inside; is = coded-as (min (k + 1) n) (omega arith) }

  pub coded-end : n ≤ k → Wrote o pos (take n (drop at text)) (pos + n) out
  coded-end l = record { counted = omega (arith, w.inside, length-take n (drop at text), length-drop at text); stored = coded-as n (omega arith) }

  pub coded-long : length out ≡ length o
  coded-long = ap length w.is ∙ length-laid o pos (take (min k n) (drop at text))

-- the same with bytes of the output itself, from below the place: writing leaves what stands there
pub coded-again : {o out : List ℕ} {from n pos k : ℕ} → Coded o from n o pos k out → from + n ≤ pos → k < n → Coded o from n o pos (k + 1) (set out (pos + k) (get_or out (from + k) 0))
coded-again {o} {out} {from} {n} {pos} {k} w h l =
    let e : get_or out (from + k) 0 ≡ get_or o (from + k) 0 = ap (λ (x : List ℕ). get_or x (from + k) 0) w.is ∙ laid-below o pos (take (min k n) (drop from o)) (from + k) (omega arith) in
    rw e (coded-more w l)

-- a byte, and then bytes of the output from below it
pub wrote-again : (o : List ℕ) (from n p b : ℕ) {o₂ : List ℕ} {p₂ : ℕ} → from + n ≤ p → Wrote (set o p b) (p + 1) (take n (drop from (set o p b))) p₂ o₂ → Wrote o p (b ∷ take n (drop from o)) p₂ o₂
wrote-again o from n p b h u = unfold part in wrote-more (wrote_one o p b) (wrote_as (part-behind from n o p b h) u)

-- written bytes still stand there when more is written after them
module _ {o o₁ o₂ ys zs : List ℕ} {pos p p₂ : ℕ} (xs : List ℕ) (u : Wrote o pos (xs ++ ys) p o₁) (v : Wrote o₁ p zs p₂ o₂) (h : p₂ ≤ length o) where
  pub wrote-stands : take (p - (pos + length xs)) (drop (pos + length xs) o₂) ≡ ys
  wrote-stands =
      let w = wrote-more u v in
      let rest : List ℕ = drop (pos + length ((xs ++ ys) ++ zs)) o in
      let e : o₂ ≡ (take pos o ++ xs) ++ (ys ++ (zs ++ rest)) = w.stored ∙ laid-fits o pos ((xs ++ ys) ++ zs) (omega (arith, w.counted)) ∙ simp append_assoc in
      let n : length (take pos o ++ xs) ≡ pos + length xs = omega (arith, length-append (take pos o) xs, length-take pos o, w.counted) in
      let m : length ys ≡ p - (pos + length xs) = omega (arith, u.counted, length-append xs ys) in
      ap (λ (l : List ℕ). take (p - (pos + length xs)) (drop (pos + length xs) l)) e ∙ ap (take (p - (pos + length xs))) (drop_at (take pos o ++ xs) (ys ++ (zs ++ rest)) (pos + length xs) n) ∙ take_at ys (zs ++ rest) (p - (pos + length xs)) m
