-- Witnesses are as promised.
use mathlib.Core.Path.{◌≡◌, refl, sym, ap, ◌∙◌, subst}
use mathlib.Core.Logic.{◌↔◌, ◌⊎◌, inl, inr, ⊎_elim}
use mathlib.Core.Bool.{Bool, true, false}
use mathlib.Core.List.{List, [], ◌∷◌, ◌++◌, map, append-nil}
use Prim.Native.Nat.{ℕ, suc, ◌+◌, ◌-◌, ◌≤◌}
use native.Mathlib.Omega.{arith}
use lib.ListN.{length, take, drop, length-append, length-take, take-append-drop}
use lib.Seq.{take_all, take-append-add}
use borrow.Author.Tests.{leb-true, le-leb}
use Rattle.answer.specs.Asked.{Asked, passed, refused, ◌>>=◌, ◌>>◌, is}
use Rattle.answer.proofs.AskedLaws.{passed-same, refused-not-passed, so-then, bind-refused, then-passed, is-then, is-yes}
use Rattle.logic.specs.Syntax.{Expr, rule, Edit}
use Rattle.logic.specs.Graph.{Graph}
use Rattle.logic.specs.Meaning.{value}
use Rattle.logic.specs.Carry.{carry, carried_book}
use Rattle.logic.specs.Witness.{breaks}
use Rattle.logic.proofs.Theorem.{carried}
use Rattle.logic.proofs.WitnessLaws.{holds-nothing, carried-breaks}
use Rattle.sheet.specs.Sheet.{present, graph_of}
use Rattle.sheet.specs.Questions.{ask_sheet, Sound}
use Rattle.sheet.proofs.SheetRefusals.{sheet-refuses}
use Rattle.text.specs.Code.{code, levels, book_code, book_levels}
use Rattle.text.specs.Reading.{carried_limits_def, text_limits, longest_text, longest_carried, deepest_carried, Limits, expr, Read, got, fault, missing, wrong_sort, too_deep, out_of_range, read_as}
use Rattle.text.specs.Questions.{first, ask_first}
use Rattle.text.proofs.Converse.{Allowed}
use Rattle.text.proofs.TextSpelling.{EachAllowed, book-is-spelled, edit-is-spelled, first-is-spelled, spelled-first-passes}
use Rattle.text.proofs.CarriedRanges.{carried-rule-is-read}
use Rattle.judge.specs.Questions.{ask_sheet_and_book, ask_rules}
use Rattle.runs.proofs.ScratchLaws.{broken-at}
use Rattle.apply.specs.Apply.{after_steps}
use Rattle.carry.specs.Carrying.{ask_carried}
use Rattle.runs.specs.Scratch.{ask_scratch}
use Rattle.runs.specs.Enter.{StepsAndCarried, ask_before41, enter_answer, enter_scratch}
use Rattle.runs.specs.Run.{Given}
use Rattle.runs.proofs.After.{after-sound, after-graph, after-n}
use Rattle.runs.proofs.EnterRefusals.{refused-between}
use Rattle.runs.proofs.OneCall.{answers-41}
use Rattle.witness.specs.Witnessed.{witness, witness_kind, ask_witness}
use Rattle.witness.specs.Told.{Named, Told, breaking_part}
use Rattle.witness.specs.declared.Witness.{Witness}
use Rattle.witness.specs.declared.Witness.TheVariants.{Nothing, LowestNode, LowestPair, Unnamed}
use Rattle.witness.proofs.Told.{told}
use Rattle.promises.specs.Witnesses.{Answered, Foretold, Witnesses}
use Rattle.promises.proofs.Item10 as item10

-- the witness of the rule that a text begins with
asked_is : (sheet text : List ℕ) (K : Expr rule) → Sound sheet → ask_first (carried_limits_def (graph_of sheet).n) (take longest_carried text) ≡ passed K → ask_witness sheet text ≡ passed (witness (graph_of sheet).n (breaks (graph_of sheet) K))
asked_is sheet text K s e = unfold ask_witness ◌>>◌ ◌>>=◌ in rw (s, e) refl

-- the refusals of the first rule of a text, once the text is not longer than a carried rule
first-numbers : (x : Read (Expr rule)) {q p : ℕ} → first x ≡ refused q p → (12 ≤ q) × (q ≤ 15)
unfolding first
first-numbers (got K rest p) e = refused-not-passed (sym e)
first-numbers (fault missing p) {q} e = let z : q ≡ 12 = cc in (omega arith, omega arith)
first-numbers (fault wrong_sort p) {q} e = let z : q ≡ 13 = cc in (omega arith, omega arith)
first-numbers (fault too_deep p) {q} e = let z : q ≡ 14 = cc in (omega arith, omega arith)
first-numbers (fault out_of_range p) {q} e = let z : q ≡ 15 = cc in (omega arith, omega arith)

pub first_refused : (l : Limits) (text : List ℕ) {q p : ℕ} → ask_first l (take l.longest text) ≡ refused q p → (12 ≤ q) × (q ≤ 15)
unfolding ask_first
first_refused l text e =
    let t = take l.longest text in
    first-numbers (read_as l (expr rule) t 0) (sym (so-then 11 0 (first (read_as l (expr rule) t 0)) (le-leb (length t) l.longest (omega (arith, length-take l.longest text)))) ∙ e)

refusals : (sheet text : List ℕ) {q p : ℕ} → ask_witness sheet text ≡ refused q p → ((1 ≤ q) × (q ≤ 4)) ⊎ ((12 ≤ q) × (q ≤ 15))
unfolding ask_witness ◌>>◌
refusals sheet text {q} {p} e = go (ask_sheet sheet) refl e where
  t : List ℕ
  t = take longest_carried text

  l : Limits
  l = carried_limits_def (graph_of sheet).n

  asks : Asked Witness
  asks = ask_first l t >>= (λ K. passed (witness (graph_of sheet).n (breaks (graph_of sheet) K)))

  rule-first : asks ≡ refused q p → (12 ≤ q) × (q ≤ 15)
  rule-first f = ⊎_elim
      (λ r. first_refused l text r)
      (λ (K, r, w). refused-not-passed (sym w))
      (bind-refused (ask_first l t) _ f)

  go : (x : Asked (Unit {0})) → ask_sheet sheet ≡ x → (x >> asks) ≡ refused q p → ((1 ≤ q) × (q ≤ 4)) ⊎ ((12 ≤ q) × (q ≤ 15))
  go (passed u) s f = inr (rule-first f)
  go (refused n m) s f = let (low, high) = refused-between (sheet-refuses present sheet) s in let z : n ≡ q = cc in inl (omega arith, omega arith)

-- the answer is a witness only for a sound sheet
answered-is : {sheet text : List ℕ} {K : Expr rule} {w : Witness} → Answered sheet text K w → w ≡ witness (graph_of sheet).n (breaks (graph_of sheet) K)
answered-is {sheet} {text} {K} {w} a =
    unfold ask_witness in let (u, s, f) = then-passed _ _ w a.answer in sym (passed-same (sym (asked_is sheet text K s a.first) ∙ a.answer))

tells : {sheet text : List ℕ} {K : Expr rule} {w : Witness} → Answered sheet text K w → value (graph_of sheet) K ≡ false → Told (graph_of sheet) (breaking_part (graph_of sheet) K) w
tells {sheet} {text} {K} a b =
    let s = first-is-spelled (carried_limits_def (graph_of sheet).n) (take longest_carried text) K a.first in
    subst (Told (graph_of sheet) (breaking_part (graph_of sheet) K)) (sym (answered-is a)) (told (graph_of sheet) K s.within.numbers_fit b)

-- a witness that names something is of another kind than 0
named-kind : (g : Graph) (P : Expr rule) (w : Witness) → Named g P w → witness_kind w ≡ 0 → ⊥
named-kind g P Nothing h z = h
named-kind g P (LowestNode first nodes) h z = (cc)
named-kind g P (LowestPair first second) h z = (cc)
named-kind g P Unnamed h z = (cc)

kind_0 : {sheet text : List ℕ} {K : Expr rule} {w : Witness} → Answered sheet text K w → (witness_kind w ≡ 0) ↔ (value (graph_of sheet) K ≡ true)
kind_0 {sheet} {text} {K} {w} a = (λ z. go (value (graph_of sheet) K) refl z, λ h. ap witness_kind (answered-is a) ∙ unfold witness in ap (λ b. witness_kind (witness (graph_of sheet).n b)) (holds-nothing (graph_of sheet) K h)) where
  go : (x : Bool) → value (graph_of sheet) K ≡ x → witness_kind w ≡ 0 → x ≡ true
  go true e z = refl
  go false e z = absurd (named-kind _ _ _ (tells a e).named z)

-- a list that was made element by element, cut
record Cut {A B : Type 0} (f : A → B) (xs : List A) (before : List B) (b : B) (others : List B) : Type 0 where
  first : List A
  x : A
  rest : List A
  is_cut : xs ≡ first ++ (x ∷ rest)
  same_length : length first ≡ length before
  made : f x ≡ b

cut : {A B : Type 0} (f : A → B) (xs : List A) (before : List B) (b : B) (others : List B) → map f xs ≡ before ++ (b ∷ others) → Cut f xs before b others
cut f [] [] b others e = let z : ◌≡◌ {A = ℕ} 0 1 = cc in absurd (omega arith)
cut f [] (c ∷ before) b others e = let z : ◌≡◌ {A = ℕ} 0 1 = cc in absurd (omega arith)
cut f (x ∷ xs) [] b others e = record { first = []; x = x; rest = xs; is_cut = refl; same_length = refl; made = cc }
cut {A} f (x ∷ xs) (c ∷ before) b others e = go (cut f xs before b others cc) where
  go : Cut f xs before b others → Cut f (x ∷ xs) (c ∷ before) b others
  go r = record { first = x ∷ r.first; x = r.x; rest = r.rest; is_cut = ap {A = List A} (x ∷◌) r.is_cut; same_length = omega (arith, r.same_length); made = r.made }

-- one rule of a book: what holds for each, and that it is not longer and not deeper
each_at : (l : _) (before : List (Expr rule)) (K : Expr rule) (others : List (Expr rule)) → EachAllowed l (before ++ (K ∷ others)) → Allowed l (expr rule) 1 K
each_at l [] K others h = h.0
each_at l (C ∷ before) K others h = each_at l before K others h.1

no_longer : (before : List (Expr rule)) (K : Expr rule) (others : List (Expr rule)) → length (code K) ≤ length (book_code (before ++ (K ∷ others)))
unfolding book_code
no_longer [] K others = omega (arith, length-append (code K) (book_code others))
no_longer (C ∷ before) K others = omega (arith, no_longer before K others, length-append (code C) (book_code (before ++ (K ∷ others))))

no_deeper : (before : List (Expr rule)) (K : Expr rule) (others : List (Expr rule)) → levels K ≤ book_levels (before ++ (K ∷ others))
unfolding book_levels
no_deeper [] K others = omega arith
no_deeper (C ∷ before) K others = omega (arith, no_deeper before K others)

-- the rule at the place of 41 is broken
last-broken : (g : Graph) (before : List (Expr rule)) (K : Expr rule) (others : List (Expr rule)) (i : ℕ) → ask_rules g (before ++ (K ∷ others)) i ≡ refused 41 (i + length before) → value g K ≡ false
unfolding ask_rules is ◌>>◌
last-broken g [] K others i e = go (value g K) refl e where
  go : (x : Bool) → value g K ≡ x → (is x 41 i >> ask_rules g others (suc i)) ≡ refused 41 (i + 0) → value g K ≡ false
  go true q e = absurd (omega (arith, (broken-at g others (suc i) 41 (i + 0) e).place_is))
  go false q e = q
last-broken g (C ∷ before) K others i e = go (value g C) e (last-broken g before K others (suc i)) where
  go : (x : Bool) → (is x 41 i >> ask_rules g (before ++ (K ∷ others)) (suc i)) ≡ refused 41 (i + suc (length before)) → (ask_rules g (before ++ (K ∷ others)) (suc i) ≡ refused 41 (suc i + length before) → value g K ≡ false) → value g K ≡ false
  go true e r = let p : suc i + length before ≡ i + suc (length before) = omega arith in r (e ∙ ap (refused 41) (sym p))
  go false e r = let p : i ≡ i + suc (length before) = cc in absurd (omega arith)

module _ {book edit sheet : List ℕ} (i : Given book edit sheet) (scratch : List ℕ) (c : StepsAndCarried) (passes : ask_before41 sheet book edit (length scratch) ≡ passed c) where
  abbrev n : ℕ
  n = (graph_of sheet).n

  abbrev Z : Edit
  Z = i.steps

  -- what is carried, and that it is within its limits
  passed-so : (ask_scratch (carried_book Z i.rules) (length scratch) ≡ passed tt) × (record { steps = Z; carried = carried_book Z i.rules } ≡ c)
  passed-so =
      let e : (ask_scratch (carried_book Z i.rules) (length scratch) >> passed (record { steps = Z; carried = carried_book Z i.rules })) ≡ passed c = unfold ask_before41 ask_sheet_and_book ◌>>=◌ ◌>>◌ in (rw (i.sound, i.book_read, i.edit_read) at passes) in
      let (u, f, s) = then-passed _ _ c e in (f, passed-same s)

  sizes : (length (book_code (carried_book Z i.rules)) ≤ longest_carried) × (book_levels (carried_book Z i.rules) ≤ deepest_carried)
  unfolding ask_scratch ask_carried
  sizes =
      let (u, f, s) = then-passed _ _ tt passed-so.0 in let (a, b) = is-then _ 31 0 _ f in
      (leb-true _ longest_carried a, leb-true _ deepest_carried (is-yes _ 32 0 b))

  module _ (before : List (Expr rule)) (last : Expr rule) (unwritten : List (Expr rule)) (rules_are : c.carried ≡ before ++ (last ∷ unwritten)) (at_start : take (length (code last)) (enter_scratch sheet book edit scratch) ≡ code last) where
    parted : Cut (carry Z) i.rules before last unwritten
    parted = cut (carry Z) i.rules before last unwritten (ap (λ k. k.carried) passed-so.1 ∙ rules_are)

    abbrev K : Expr rule
    K = parted.x

    carried-is : carry Z K ≡ last
    carried-is = parted.made

    -- the rule as the book has it
    allowed : Allowed (text_limits n) (expr rule) 1 K
    allowed =
        let s = (book-is-spelled (text_limits n) book i.rules i.book_read).spells.rules in
        each_at (text_limits n) parted.first K parted.rest (subst (EachAllowed (text_limits n)) parted.is_cut s)

    book-long : length (code K) ≤ longest_text
    book-long =
        let b = book-is-spelled (text_limits n) book i.rules i.book_read in
        omega (arith, no_longer parted.first K parted.rest, ap (λ Ks. length (book_code Ks)) parted.is_cut, ap length b.spells.text-is, b.short)

    -- the scratch begins with the carried rule
    abbrev S : List ℕ
    S = enter_scratch sheet book edit scratch

    abbrev k : ℕ
    k = length (code last)

    short-last : k ≤ longest_carried
    short-last = omega (arith, no_longer before last unwritten, ap (λ Ks. length (book_code Ks)) (ap (λ c. c.carried) passed-so.1 ∙ rules_are), sizes.0)

    shallow-last : levels last ≤ deepest_carried
    shallow-last = omega (arith, no_deeper before last unwritten, ap book_levels (ap (λ c. c.carried) passed-so.1 ∙ rules_are), sizes.1)

    begins : take longest_carried S ≡ code last ++ take (longest_carried - k) (drop k S)
    begins =
        let m : longest_carried ≡ k + (longest_carried - k) = omega (arith, short-last) in
        ap (take longest_carried) (sym (take-append-drop k S) ∙ ap (◌++ drop k S) at_start)
        ∙ ap (λ j. take j (code last ++ drop k S)) m
        ∙ take-append-add (code last) (drop k S) (longest_carried - k)

    read-scratch : ask_first (carried_limits_def n) (take longest_carried S) ≡ passed last
    read-scratch =
        let z = (edit-is-spelled (text_limits n) edit Z i.edit_read).within.numbers_fit in
        let short : length (code last ++ take (longest_carried - k) (drop k S)) ≤ longest_carried = omega (arith, ap length begins, length-take longest_carried S) in
        ap (ask_first (carried_limits_def n)) begins
        ∙ subst (λ L. length (code L ++ take (longest_carried - k) (drop k S)) ≤ longest_carried → levels L ≤ deepest_carried → ask_first (carried_limits_def n) (code L ++ take (longest_carried - k) (drop k S)) ≡ passed L) carried-is
        (λ a b. carried-rule-is-read n Z z K (take (longest_carried - k) (drop k S)) allowed.numbers_fit b a) short shallow-last

    -- the rule on the sheet that the steps leave
    abbrev left : List ℕ
    left = after_steps Z sheet

    left-n : (graph_of left).n ≡ n
    left-n = after-n sheet i.are_bytes i.sound edit Z i.edit_read

    read-rule : ask_first (carried_limits_def (graph_of left).n) (take longest_carried (code K)) ≡ passed K
    read-rule =
        ap (λ m. ask_first (carried_limits_def m) (take longest_carried (code K))) left-n
        ∙ ap (ask_first (carried_limits_def n)) (take_all longest_carried (code K) (omega (arith, book-long)))
        ∙ spelled-first-passes (carried_limits_def n) (code K) K (record { rest = []; text-is = sym (append-nil (code K)); short = omega (arith, book-long); within = record { numbers_fit = allowed.numbers_fit; levels-fit = omega (arith, allowed.levels-fit) } })

    foretold : value (graph_of sheet) last ≡ false → Foretold i scratch (length before)
    foretold b =
        let g = graph_of sheet in let h = after-graph sheet i.are_bytes i.sound edit Z i.edit_read in
        record {
          before = parted.first;
          K = K;
          others = parted.rest;
          rules = parted.is_cut;
          place = parted.same_length;
          broken = ap (λ m. value m K) h ∙ sym (carried Z K g) ∙ ap (value g) carried-is ∙ b;
          same =
              asked_is sheet S last i.sound read-scratch
              ∙ ap passed (ap (λ L. witness n (breaks g L)) (sym carried-is) ∙ ap (witness n) (carried-breaks Z K g) ∙ ap (λ m. witness n (breaks m K)) (sym h) ∙ ap (λ m. witness m (breaks (graph_of left) K)) (sym left-n))
              ∙ sym (asked_is left (code K) K (after-sound sheet i.are_bytes i.sound edit Z i.edit_read) read-rule);
        }

after_41 : {book edit sheet : List ℕ} (i : Given book edit sheet) (scratch : List ℕ) (p : ℕ) → enter_answer sheet book edit (length scratch) ≡ refused 41 p → Foretold i scratch p
after_41 {book} {edit} {sheet} i scratch p e =
    let (w, place) = item10.after_41 sheet book edit scratch p e in
    let answer = answers-41 sheet book edit (length scratch) w.what w.passes in
    let at : 0 + length w.before ≡ p = omega (arith, place) in
    let b = last-broken (graph_of sheet) w.before w.last w.unwritten 0 (ap (λ Ks. ask_rules (graph_of sheet) Ks 0) (sym w.rules) ∙ sym answer ∙ e ∙ ap (refused 41) (sym at)) in
    subst (Foretold i scratch) place (foretold i scratch w.what w.passes w.before w.last w.unwritten w.rules w.at_start b)

pub witnesses : Witnesses
witnesses = record { refusals = refusals; kind_0 = kind_0; tells = tells; carried = carried-breaks; after_41 = after_41 }
