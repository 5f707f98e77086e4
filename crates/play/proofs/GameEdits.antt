-- The edits' texts: cut out of the bytes passed, read one by one, standing one after the other.
use mathlib.Core.Path.{◌≡◌, refl, sym, ap, ◌∙◌}
use mathlib.Core.Bool.{false}
use mathlib.Core.List.{List, [], ◌∷◌, ◌++◌, append-nil}
use Prim.Native.Nat.{ℕ, zero, suc, ◌+◌, ◌-◌, ◌≤◌, ◌<◌}
use native.Mathlib.Numerals.{add-one}
use native.Mathlib.Omega.{arith}
use lib.Dec.{eqb}
use lib.ListN.{length, take, drop, get_or, take-append-drop, drop_of_length-le}
use lib.Seq.{drop-cons, drop-drop, take-append_seam}
use borrow.Author.Tests.{eq-eqb, ne_eqb}
use Rattle.answer.specs.Asked.{Asked, passed, refused, ◌>>=◌, ◌>>◌, after, outcome}
use Rattle.answer.proofs.AskedLaws.{passed-same, bind-passed, then-passed}
use Rattle.logic.specs.Syntax.{Expr, rule, Edit, finish}
use Rattle.logic.specs.Carry.{carried_book}
use Rattle.logic.specs.Limits.{Ranges, ranges}
use Rattle.text.specs.Code.{edit_code}
use Rattle.text.specs.Reading.{longest_text, text_limits}
use Rattle.text.specs.Stands.{EditStands}
use Rattle.text.specs.Questions.{ask_edit}
use Rattle.text.proofs.TextSpelling.{edit-is-spelled}
use Rattle.text.proofs.StandingLaws.{behind, within}
use Rattle.ends.specs.Edits.{EditAt}
use Rattle.ends.proofs.FirstSteps.{edit-inside}
use Rattle.answer.proofs.AnswerLaws.{learned, not-learned}
use Rattle.carry.specs.Carrying.{ask_carried}
use Rattle.play.specs.Questions.{total, cut, ask_edits, ask_fits, first_refused_def}
use Rattle.play.specs.Standing.{EditsStand}

-- A list checked one by one: the questions from `rest` on are left, i have passed.
pub record Walk {A B : Type 0} (ask : A → Asked B) (all : List A → Asked (Unit {0})) (list : List A) (i : ℕ) (rest : List A) : Type 0 where
  pub questions : all list ≡ all rest
  pub first : first_refused_def ask list ≡ i + first_refused_def ask rest

pub walk_begins : {A B : Type 0} {ask : A → Asked B} {all : List A → Asked (Unit {0})} {list : List A} → Walk ask all list 0 list
walk_begins = record { questions = refl; first = omega arith }

module _ {A B : Type 0} {ask : A → Asked B} {all : List A → Asked (Unit {0})} {list : List A} {i : ℕ} {rest : List A} (w : Walk ask all list i rest) where
  walk_ends : all [] ≡ passed tt → rest ≡ [] → passed tt ≡ all list
  walk_ends none e = sym (w.questions ∙ ap all e ∙ none)

  module _ {x : A} {xs : List A} (here : rest ≡ x ∷ xs) (more : all (x ∷ xs) ≡ (outcome (ask x) >> all xs)) where
    next-asked : all list ≡ (outcome (ask x) >> all xs)
    next-asked = w.questions ∙ ap all here ∙ more

    walk-stops : (q p : ℕ) → refused q p ≡ outcome (ask x) → (refused q p ≡ all list) × (i ≡ first_refused_def ask list)
    unfolding ◌>>◌ first_refused_def after
    walk-stops q p e =
        let stop : first_refused_def ask (x ∷ xs) ≡ 0 = rw (not-learned (ask x) q p e) in
        (rw (next-asked, sym e), omega (arith, w.first, ap (first_refused_def ask) here))

    walk-passes : passed tt ≡ outcome (ask x) → Walk ask all list (i + 1) xs
    unfolding ◌>>◌ first_refused_def after
    walk-passes e =
        let on : first_refused_def ask (x ∷ xs) ≡ suc (first_refused_def ask xs) = rw (learned (ask x) e).is in
        record { questions = next-asked ∙ rw (sym e); first = omega (arith, w.first, ap (first_refused_def ask) here) }

-- What is left of the sum of the lengths: one length and the others, or nothing.
module _ (lengths : List ℕ) (i : ℕ) where
  pub total-next : i < length lengths → total (drop i lengths) ≡ get_or lengths i 0 + total (drop (i + 1) lengths)
  total-next l = unfold total in rw (add-one i, drop-cons lengths i 0 l)

  pub total-past : length lengths ≤ i → total (drop i lengths) ≡ 0
  total-past h = unfold total in ap total (drop_of_length-le lengths {i = i} h)

-- Lengths taken off a size one by one: what is left of it, with those before i taken off.
pub record LeftOf (lengths : List ℕ) (size left i : ℕ) : Type 0 where
  pub sum : total lengths + left ≡ size + total (drop i lengths)

module _ {lengths : List ℕ} {size left i : ℕ} (so_far : LeftOf lengths size left i) where
  pub too_long : i < length lengths → left < get_or lengths i 0 → false ≡ eqb (total lengths) size
  too_long l h = sym (ne_eqb (total lengths) size (λ e. omega (arith, e, so_far.sum, total-next lengths i l)))

  pub taken-off : i < length lengths → get_or lengths i 0 ≤ left → LeftOf lengths size (left - get_or lengths i 0) (i + 1)
  taken-off l h = record { sum = omega (arith, so_far.sum, total-next lengths i l) }

  pub all-taken : length lengths ≤ i → eqb left 0 ≡ eqb (total lengths) size
  all-taken h = go left refl where
    go : (k : ℕ) → left ≡ k → eqb left 0 ≡ eqb (total lengths) size
    go zero e = eq-eqb left 0 e ∙ sym (eq-eqb (total lengths) size (omega (arith, so_far.sum, total-past lengths i h)))
    go (suc k) e = ne_eqb left 0 (λ z. omega arith) ∙ sym (ne_eqb (total lengths) size (λ z. omega (arith, so_far.sum, total-past lengths i h)))

-- The texts read one by one.
module _ (n : ℕ) where
  abbrev read_all : List (List ℕ) → Asked (Unit {0})
  read_all ts = outcome (ask_edits (text_limits n) ts)

  one_more : (t : List ℕ) (ts : List (List ℕ)) → read_all (t ∷ ts) ≡ (outcome (ask_edit (text_limits n) t) >> read_all ts)
  unfolding ask_edits outcome ◌>>=◌ ◌>>◌
  one_more t ts = go (ask_edit (text_limits n) t) (ask_edits (text_limits n) ts) where
    go : (x : Asked Edit) (y : Asked (List Edit)) → outcome (x >>= (λ Z. y >>= (λ Zs. passed (Z ∷ Zs)))) ≡ (outcome x >> outcome y)
    go (refused q p) y = refl
    go (passed Z) (refused q p) = refl
    go (passed Z) (passed Zs) = refl

  -- What is left to check starts at the place `at` and the length i.
  pub record Left (edits lengths : List ℕ) (at i : ℕ) : Type 0 where
    pub filled : at + total (drop i lengths) ≡ length edits
    pub walk : Walk (ask_edit (text_limits n)) read_all (cut edits lengths) i (cut (drop at edits) (drop i lengths))

  pub texts-first : {edits lengths : List ℕ} → total lengths ≡ length edits → Left edits lengths 0 0
  texts-first e = record { filled = omega (arith, e); walk = walk_begins }

  module _ {edits lengths : List ℕ} {at i : ℕ} (left : Left edits lengths at i) (l : i < length lengths) where
    abbrev end : ℕ
    end = at + get_or lengths i 0

    pub end-inside : end ≤ length edits
    end-inside = omega (arith, left.filled, total-next lengths i l)

    abbrev text : List ℕ
    text = take (end - at) (drop at edits)

    here : cut (drop at edits) (drop i lengths) ≡ text ∷ cut (drop end edits) (drop (i + 1) lengths)
    here = unfold cut in let k : end - at ≡ get_or lengths i 0 = omega arith in rw (k, add-one i, drop-cons lengths i 0 l, drop-drop (get_or lengths i 0) at edits)

    pub text-stops : (q p : ℕ) → refused q p ≡ outcome (ask_edit (text_limits n) text) → (refused q p ≡ read_all (cut edits lengths)) × (i ≡ first_refused_def (ask_edit (text_limits n)) (cut edits lengths))
    text-stops = walk-stops left.walk here (one_more _ _)

    pub text-passes : passed tt ≡ outcome (ask_edit (text_limits n) text) → Left edits lengths end (i + 1)
    text-passes e = record { filled = omega (arith, left.filled, total-next lengths i l); walk = walk-passes left.walk here (one_more _ _) e }

  pub texts-end : {edits lengths : List ℕ} {at i : ℕ} → Left edits lengths at i → length lengths ≤ i → passed tt ≡ read_all (cut edits lengths)
  unfolding cut ask_edits outcome
  texts-end {edits} {lengths} {at} {i} left h = walk_ends left.walk refl (ap (cut (drop at edits)) (drop_of_length-le lengths {i = i} h))

-- Texts that have passed stand one after the other.
module _ (n : ℕ) (text : List ℕ) where
  pub record AllStand (at : ℕ) (lengths : List ℕ) (Zs : List Edit) : Type 0 where
    pub stand : EditsStand (ranges n) text at Zs
    pub many : length Zs ≡ length lengths

  all-stand : (lengths : List ℕ) (at : ℕ) (Zs : List Edit) → ask_edits (text_limits n) (cut (drop at text) lengths) ≡ passed Zs → AllStand at lengths Zs
  unfolding cut ask_edits EditsStand
  all-stand [] at Zs e = rw (sym (passed-same e)) (record { stand = tt; many = refl })
  all-stand (k ∷ ks) at Zs e =
      let (Z, read, goes) = bind-passed (ask_edit (text_limits n) (take k (drop at text))) _ Zs e in
      let (Ys, others, same) = bind-passed (ask_edits (text_limits n) (cut (drop k (drop at text)) ks)) _ Zs goes in
      let s = edit-is-spelled (text_limits n) (take k (drop at text)) Z read in
      let here : drop at text ≡ edit_code Z ++ drop k (drop at text) = sym (take-append-drop k (drop at text)) ∙ ap (◌++ drop k (drop at text)) s.text-is in
      let later = all-stand ks (at + length (edit_code Z)) Ys (ap (λ r. ask_edits (text_limits n) (cut r ks)) (behind text at (edit_code Z) (drop k (drop at text)) here) ∙ others) in
      rw (sym (passed-same same))
      (record { stand = (record { rest = drop k (drop at text); here = here; range = s.within.numbers_fit }, omega (arith, s.short, ap length s.text-is), later.stand); many = ap suc later.many })

  pub edits-stand : (lengths : List ℕ) (Zs : List Edit) → ask_edits (text_limits n) (cut text lengths) ≡ passed Zs → AllStand 0 lengths Zs
  edits-stand lengths Zs e = all-stand lengths 0 Zs e

-- The edits from number i on stand at a place.
pub record FromHere (r : Ranges) (text : List ℕ) (Zs : List Edit) (i at : ℕ) : Type 0 where
  pub stand : EditsStand r text at (drop i Zs)

-- The next of them.
module _ {r : Ranges} {text : List ℕ} {Zs : List Edit} {i at : ℕ} (s : FromHere r text Zs i at) (l : i < length Zs) where
  abbrev next_edit : Edit
  next_edit = get_or Zs i finish

  split : EditsStand r text at (next_edit ∷ drop (suc i) Zs)
  split = rw (drop-cons Zs i finish l) at s.stand

  pub next-stands : EditStands r text at next_edit
  next-stands = unfold EditsStand in split.0

  pub next_at : EditAt text at next_edit
  next_at = record { limits = r; place = next-stands }

  pub next-short : length (edit_code next_edit) ≤ longest_text
  next-short = unfold EditsStand in split.1

  -- It is a part of the text,
  module _ {end : ℕ} (e : end ≡ at + length (edit_code next_edit)) where
    pub others-stand : FromHere r text Zs (i + 1) end
    others-stand = unfold EditsStand in record { stand = rw (add-one i, e) split.2 }

    pub part_in : (at ≤ end) × (end ≤ length text)
    part_in = (omega (arith, e), omega (arith, e, edit-inside text at next_edit next_at, within text at (edit_code next_edit) next-stands.rest next-stands.here))

    part-is : take (end - at) (drop at text) ≡ edit_code next_edit
    part-is = let k : end - at ≡ length (edit_code next_edit) = omega (arith, e) in rw (k, next-stands.here) (take-append_seam (edit_code next_edit) next-stands.rest)

    -- and alone there.
    pub part_at : EditAt (take (end - at) (drop at text)) 0 next_edit
    part_at = record { limits = r; place = record { rest = []; here = part-is ∙ sym (append-nil (edit_code next_edit)); range = next-stands.range } }

    pub part-short : length (take (end - at) (drop at text)) ≤ longest_text
    part-short = omega (arith, next-short, ap length part-is)

-- 31 and 32 for `count` of them.
module _ (rules : List (Expr rule)) (Zs : List Edit) (count : ℕ) where
  abbrev fitting : Edit → Asked (Unit {0})
  fitting Z = ask_carried (carried_book Z rules)

  pub none-refused : (Ys : List Edit) → passed tt ≡ ask_fits rules Ys → first_refused_def fitting Ys ≡ length Ys
  unfolding ask_fits first_refused_def after
  none-refused [] e = refl
  none-refused (Y ∷ Ys) e = let (a, one, others) = then-passed (fitting Y) (ask_fits rules Ys) tt (sym e) in rw one (ap suc (none-refused Ys (sym others)))

  abbrev pub FitsLeft : ℕ → Type 0
  FitsLeft i = Walk fitting (ask_fits rules) (take count Zs) i (take (count - i) (drop i Zs))

  pub fits-first : FitsLeft 0
  fits-first = let z : count - 0 ≡ count = omega arith in rw z walk_begins

  same_outcome : (x : Asked (Unit {0})) → outcome x ≡ x
  unfolding outcome
  same_outcome (passed u) = refl
  same_outcome (refused q p) = refl

  module _ (enough : count ≤ length Zs) {i : ℕ} (left : FitsLeft i) where
    module _ (l : i < count) where
      here-fits : take (count - i) (drop i Zs) ≡ get_or Zs i finish ∷ take (count - (i + 1)) (drop (i + 1) Zs)
      here-fits = let k : count - i ≡ suc (count - suc i) = omega arith in rw (add-one i, k, drop-cons Zs i finish (omega arith))

      one-fits : ask_fits rules (get_or Zs i finish ∷ take (count - (i + 1)) (drop (i + 1) Zs)) ≡ (outcome (fitting (get_or Zs i finish)) >> ask_fits rules (take (count - (i + 1)) (drop (i + 1) Zs)))
      one-fits = unfold ask_fits in rw (same_outcome (fitting (get_or Zs i finish)))

      pub fits-stop : (q p : ℕ) → refused q p ≡ fitting (get_or Zs i finish) → (refused q p ≡ ask_fits rules (take count Zs)) × (i ≡ first_refused_def fitting (take count Zs))
      fits-stop q p e = walk-stops left here-fits one-fits q p (e ∙ sym (same_outcome (fitting (get_or Zs i finish))))

      pub fits-pass : passed tt ≡ fitting (get_or Zs i finish) → FitsLeft (i + 1)
      fits-pass e = walk-passes left here-fits one-fits (e ∙ sym (same_outcome (fitting (get_or Zs i finish))))

    pub fits-end : count ≤ i → passed tt ≡ ask_fits rules (take count Zs)
    fits-end h = unfold ask_fits in let z : count - i ≡ 0 = omega arith in walk_ends left refl (ap (λ k. take k (drop i Zs)) z)
