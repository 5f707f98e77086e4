-- Every expression, rule and edit within the limits is read back from its code, whatever follows.
use mathlib.Core.Path.{◌≡◌, refl, sym, ◌∙◌, ap}
use mathlib.Core.Bool.{Bool, true, false}
use mathlib.Core.List.{List, [], ◌∷◌, ◌++◌, append_assoc}
use Prim.Native.Nat.{ℕ, suc, ◌+◌, ◌≤◌}
use native.Mathlib.Omega.{arith}
use lib.ListN.{length}
use lib.Dec.{T, leb, le→leb}
use Rattle.logic.specs.Syntax.{Sort, node, arrow, rule, Expr, Edit, finish, add_label, take_label, add_arrow, take_arrow, choose}
use Rattle.logic.specs.Arity.{Nullary, all·, none·, label·, nominal·, arrow_kind·, pair·, Unary, complement·, reversed·, node_in·, pair_in·, not_rule·, Binary, and·, or·, some·, every·, at_least·, at_most·, union·, common·, minus·, ending_in·, sub_nodes·, sub_arrows·, both·, either·, build0, build1, build2, numbers0, numbers1, numbers2, by_arity}
use Rattle.logic.proofs.ArityLaws.{Fit, range-0, range-1, range-2}
use Rattle.logic.specs.Limits.{Kind, label_number, arrow_number, node_number, least_count, most_count, fits, InRange, EditInRange}
use Rattle.text.specs.Code.{code, edit_code, levels, edit_levels}
use Rattle.text.specs.Heads.{head0, head1, head2}
use Rattle.text.proofs.HeadLaws.{code-0, code-1, code-2, levels-0, levels-1, levels-2}
use Rattle.text.specs.Reading.{Limits, Want, expr, edit, Thing, Format, done, operand, ◌>>=◌, got, codes, choice, follow}
use Rattle.text.proofs.TextPlaces.{place_behind, place_behind-is, place_behind-append}
use Rattle.text.proofs.Converse.{spelling, Allowed}

pub if-so : {X : Type 0} (b : Bool) → T b → (x y : X) → elim b as (λ c. X) [ true ↦ x | false ↦ y ] ≡ x
if-so true h x y = refl
if-so {X = X} false h x y = elim h [ ]

regroup : (a b c t : List ℕ) → ((a ++ b) ++ c) ++ t ≡ a ++ ((b ++ c) ++ t)
regroup a b c t = simp append_assoc

module _ (l : Limits) where
  -- the bytes of e, wanted at level d, are read as e
  abbrev pub Back : (w : Want) (d : ℕ) → Thing w → Type 1
  Back w d e = (A : Type 0) (f : Thing w → Format A) (t : List ℕ) (at : ℕ) → follow l (spelling w e ++ t) (operand w d f) at ≡ follow l t (f e) (place_behind (spelling w e) at)

  two : (w w' : Want) (d d' : ℕ) (e : Thing w) (e' : Thing w') → Back w d e → Back w' d' e' → (A : Type 0) (f : Thing w → Thing w' → Format A) (t : List ℕ) (at : ℕ)
      → follow l (spelling w e ++ spelling w' e' ++ t) (operand w d (λ x. operand w' d' (f x))) at ≡ follow l t (f e e') (place_behind (spelling w e ++ spelling w' e') at)
  two w w' d d' e e' b b' A f t at =
      rw (append_assoc (spelling w e) (spelling w' e') t)
      (b A (λ x. operand w' d' (f x)) (spelling w' e' ++ t) at
      ∙ b' A (f e) t (place_behind (spelling w e) at)
      ∙ ap (follow l t (f e e')) (sym (place_behind-append (spelling w e) (spelling w' e') at)))

  opened : (d : ℕ) → d ≤ l.deepest → {X : Type 0} (x y : X) → elim (leb d l.deepest) as (λ c. X) [ true ↦ x | false ↦ y ] ≡ x
  opened d h x y = if-so (leb d l.deepest) (le→leb d l.deepest h) x y

  fitting : (k : Kind) (i : ℕ) → T (fits l.numbers k i) → {X : Type 0} (x y : X) → elim (fits l.numbers k i) as (λ c. X) [ true ↦ x | false ↦ y ] ≡ x
  fitting k i h x y = if-so (fits l.numbers k i) h x y

  -- A code that is allowed at level d is read, with its numbers, and its operands are wanted one level deeper.
  module _ (d : ℕ) (h : d ≤ l.deepest) {A : Type 0} where
    head-0 : {s : Sort} (b : Nullary s) → Fit l.numbers (numbers0 b) → (f : Expr s → Format A) (t : List ℕ) (at : ℕ)
        → follow l (head0 b ++ t) (operand (expr s) d f) at ≡ follow l t (f (build0 b)) (place_behind (head0 b) at)
    unfolding head0 build0 place_behind follow choice codes ◌>>=◌
    head-0 all· r f t at = opened d h _ _
    head-0 none· r f t at = opened d h _ _
    head-0 (label· k) r f t at = opened d h _ _ ∙ fitting label_number k r.0 _ _
    head-0 (nominal· i) r f t at = opened d h _ _ ∙ fitting node_number i r.0 _ _
    head-0 (arrow_kind· a) r f t at = opened d h _ _ ∙ fitting arrow_number a r.0 _ _
    head-0 (pair· i j) r f t at = opened d h _ _ ∙ fitting node_number i r.0 _ _ ∙ fitting node_number j r.1.0 _ _

    head-1 : {u v : Sort} (b : Unary u v) → Fit l.numbers (numbers1 b) → (f : Expr v → Format A) (t : List ℕ) (at : ℕ)
        → follow l (head1 b ++ t) (operand (expr v) d f) at ≡ follow l t (operand (expr u) (suc d) (λ x. f (build1 b x))) (place_behind (head1 b) at)
    unfolding head1 build1 place_behind follow choice codes ◌>>=◌
    head-1 complement· r f t at = opened d h _ _
    head-1 reversed· r f t at = opened d h _ _
    head-1 (node_in· i) r f t at = opened d h _ _ ∙ fitting node_number i r.0 _ _
    head-1 (pair_in· i j) r f t at = opened d h _ _ ∙ fitting node_number i r.0 _ _ ∙ fitting node_number j r.1.0 _ _
    head-1 not_rule· r f t at = opened d h _ _

    head-2 : {u v w : Sort} (b : Binary u v w) → Fit l.numbers (numbers2 b) → (f : Expr w → Format A) (t : List ℕ) (at : ℕ)
        → follow l (head2 b ++ t) (operand (expr w) d f) at
        ≡ follow l t (operand (expr u) (suc d) (λ x. operand (expr v) (suc d) (λ y. f (build2 b x y)))) (place_behind (head2 b) at)
    unfolding head2 build2 place_behind follow choice codes ◌>>=◌
    head-2 and· r f t at = opened d h _ _
    head-2 or· r f t at = opened d h _ _
    head-2 some· r f t at = opened d h _ _
    head-2 every· r f t at = opened d h _ _
    head-2 (at_least· m) r f t at = opened d h _ _ ∙ fitting least_count m r.0 _ _
    head-2 (at_most· m) r f t at = opened d h _ _ ∙ fitting most_count m r.0 _ _
    head-2 union· r f t at = opened d h _ _
    head-2 common· r f t at = opened d h _ _
    head-2 minus· r f t at = opened d h _ _
    head-2 ending_in· r f t at = opened d h _ _
    head-2 sub_nodes· r f t at = opened d h _ _
    head-2 sub_arrows· r f t at = opened d h _ _
    head-2 both· r f t at = opened d h _ _
    head-2 either· r f t at = opened d h _ _

  expr-back : {s : Sort} (e : Expr s) (d : ℕ) → d + levels e ≤ suc l.deepest → InRange l.numbers e → Back (expr s) d e
  expr-back e = by_arity (λ s e. (d : ℕ) → d + levels e ≤ suc l.deepest → InRange l.numbers e → Back (expr s) d e) leaf one both e where
    leaf : (s : Sort) (b : Nullary s) (d : ℕ) → d + levels (build0 b) ≤ suc l.deepest → InRange l.numbers (build0 b) → Back (expr s) d (build0 b)
    leaf s b d h r A f t at = rw code-0 (head-0 d (omega (arith, levels-0 b)) b ((range-0 l.numbers b).0 r) f t at)

    one : (u v : Sort) (b : Unary u v) (x : Expr u) → ((d : ℕ) → d + levels x ≤ suc l.deepest → InRange l.numbers x → Back (expr u) d x)
        → (d : ℕ) → d + levels (build1 b x) ≤ suc l.deepest → InRange l.numbers (build1 b x) → Back (expr v) d (build1 b x)
    one u v b x back d h r A f t at =
        let q = (range-1 l.numbers b x).0 r in
        let n = levels-1 b x in
        rw (code-1, append_assoc)
        (head-1 d (omega arith) b q.0 f (code x ++ t) at
        ∙ back (suc d) (omega arith) q.1 A (λ y. f (build1 b y)) t (place_behind (head1 b) at)
        ∙ ap (follow l t (f (build1 b x))) (sym (place_behind-append (head1 b) (code x) at)))

    both : (u v w : Sort) (b : Binary u v w) (x : Expr u) (y : Expr v)
        → ((d : ℕ) → d + levels x ≤ suc l.deepest → InRange l.numbers x → Back (expr u) d x)
        → ((d : ℕ) → d + levels y ≤ suc l.deepest → InRange l.numbers y → Back (expr v) d y)
        → (d : ℕ) → d + levels (build2 b x y) ≤ suc l.deepest → InRange l.numbers (build2 b x y) → Back (expr w) d (build2 b x y)
    both u v w b x y back back' d h r A f t at =
        let q = (range-2 l.numbers b x y).0 r in
        let n = levels-2 b x y in
        rw (code-2, append_assoc (head2 b) (code x ++ code y) t)
        (head-2 d (omega arith) b q.0 f ((code x ++ code y) ++ t) at
        ∙ two (expr u) (expr v) (suc d) (suc d) x y (back (suc d) (omega arith) q.1.0) (back' (suc d) (omega arith) q.1.1) A (λ z z'. f (build2 b z z')) t (place_behind (head2 b) at)
        ∙ ap (follow l t (f (build2 b x y))) (sym (place_behind-append (head2 b) (code x ++ code y) at)))

  edit-back : (Z : Edit) (d : ℕ) → d + edit_levels Z ≤ suc l.deepest → EditInRange l.numbers Z → Back edit d Z
  unfolding edit_code edit_levels EditInRange place_behind follow choice codes ◌>>=◌
  edit-back finish d h r A f t at = opened d (omega arith) _ _
  edit-back (add_label k E Z) d h r A f t at =
      opened d (omega arith) _ _ ∙ fitting label_number k r.0 _ _
      ∙ two (expr node) edit (suc d) d E Z (expr-back E (suc d) (omega arith) r.1) (edit-back Z d (omega arith) r.2) A (λ x y. f (add_label k x y)) t (suc (suc at))
  edit-back (take_label k E Z) d h r A f t at =
      opened d (omega arith) _ _ ∙ fitting label_number k r.0 _ _
      ∙ two (expr node) edit (suc d) d E Z (expr-back E (suc d) (omega arith) r.1) (edit-back Z d (omega arith) r.2) A (λ x y. f (take_label k x y)) t (suc (suc at))
  edit-back (add_arrow a R Z) d h r A f t at =
      opened d (omega arith) _ _ ∙ fitting arrow_number a r.0 _ _
      ∙ two (expr arrow) edit (suc d) d R Z (expr-back R (suc d) (omega arith) r.1) (edit-back Z d (omega arith) r.2) A (λ x y. f (add_arrow a x y)) t (suc (suc at))
  edit-back (take_arrow a R Z) d h r A f t at =
      opened d (omega arith) _ _ ∙ fitting arrow_number a r.0 _ _
      ∙ two (expr arrow) edit (suc d) d R Z (expr-back R (suc d) (omega arith) r.1) (edit-back Z d (omega arith) r.2) A (λ x y. f (take_arrow a x y)) t (suc (suc at))
  edit-back (choose K P Q Z) d h r A f t at =
      opened d (omega arith) _ _
      ∙ ap (λ z. follow l z (operand (expr rule) (suc d) (λ x. operand edit (suc d) (λ y. operand edit (suc d) (λ z. operand edit d (λ u. f (choose x y z u)))))) (suc at)) (regroup (code K ++ edit_code P) (edit_code Q) (edit_code Z) t)
      ∙ two (expr rule) edit (suc d) (suc d) K P (expr-back K (suc d) (omega arith) r.0) (edit-back P (suc d) (omega arith) r.1) A (λ x y. operand edit (suc d) (λ z. operand edit d (λ u. f (choose x y z u)))) (edit_code Q ++ edit_code Z ++ t) (suc at)
      ∙ two edit edit (suc d) d Q Z (edit-back Q (suc d) (omega arith) r.2) (edit-back Z d (omega arith) r.3) A (λ z u. f (choose K P z u)) t (place_behind (code K ++ edit_code P) (suc at))
      ∙ ap (follow l t (f (choose K P Q Z))) (sym (place_behind-append (code K ++ edit_code P) (edit_code Q ++ edit_code Z) (suc at)) ∙ ap (λ z. place_behind z (suc at)) (sym (append_assoc (code K ++ edit_code P) (edit_code Q) (edit_code Z))))

  -- READ BACK: the bytes of a thing within the limits are read as that thing, and what follows is left.
  pub read_back : (w : Want) (d : ℕ) (e : Thing w) → Allowed l w d e → Back w d e
  read_back (expr s) d e a = expr-back e d a.levels-fit a.numbers_fit
  read_back edit d Z a = edit-back Z d a.levels-fit a.numbers_fit

  follow-done : {A : Type 0} (t : List ℕ) (a : A) (at : ℕ) → follow l t (done a) at ≡ got a t at
  unfolding follow
  follow-done [] a at = refl
  follow-done (x ∷ t) a at = refl

  pub reads : (w : Want) (d : ℕ) (e : Thing w) → Allowed l w d e → (rest : List ℕ) (at : ℕ) → follow l (spelling w e ++ rest) (operand w d done) at ≡ got e rest (at + length (spelling w e))
  reads w d e a rest at = read_back w d e a (Thing w) done rest at ∙ follow-done rest e (place_behind (spelling w e) at) ∙ ap (got e rest) (place_behind-is (spelling w e) at)

  got_same : {A : Type 0} {a b : A} {r r' : List ℕ} {p p' : ℕ} → got a r p ≡ got b r' p' → a ≡ b
  got_same h = cc

  -- NO TWO READINGS: at one place of a text there is at most one thing of a sort.
  pub one-reading : (w : Want) (d : ℕ) (e e' : Thing w) (rest rest' : List ℕ) → Allowed l w d e → Allowed l w d e' → spelling w e ++ rest ≡ spelling w e' ++ rest' → e ≡ e'
  one-reading w d e e' rest rest' a a' h = got_same (sym (reads w d e a rest 0) ∙ ap (λ z. follow l z (operand w d done) 0) h ∙ reads w d e' a' rest' 0)
