-- After each step the buffer is the sheet of the graph so far, and what remains to be done there is what remained before.
use mathlib.Core.Path.{◌≡◌, refl, sym, ap, ap₂, ◌∙◌, subst}
use mathlib.Core.Bool.{Bool, true, false, ◌&&◌, cond}
use mathlib.Core.List.{List}
use Prim.Native.Nat.{ℕ, ◌+◌, ◌≤◌}
use native.Mathlib.Omega.{arith}
use lib.Dec.{eqb, ltb}
use lib.ListN.{length, get_or}
use Rattle.logic.specs.Syntax.{Sort, node, arrow, Expr, Edit, finish}
use Rattle.logic.specs.Graph.{Graph, Nodes, Pairs, is_node}
use Rattle.logic.specs.Meaning.{Value, value}
use Rattle.logic.specs.Steps.{relabel, rejoin, run}
use Rattle.logic.specs.Limits.{PairsIn, Within, ranges, EditInRange, label_count, arrow_count}
use Rattle.logic.proofs.Tables.{cond_both}
use Rattle.logic.proofs.Inside.{value_in, run_within}
use Rattle.bitset.specs.Words.{Bytes, set_of, combined}
use Rattle.bitset.proofs.SetLaws.{set_of-cong, combined-sets}
use Rattle.rows.specs.Operations.{arrow_operation}
use Rattle.rows.proofs.OperationLaws.{arrow-operation-none}
use Rattle.sheet.specs.Sheet.{present, store, graph_of, Rows}
use Rattle.sheet.specs.Questions.{Sound}
use Rattle.store.proofs.StoredReads.{read_back}
use Rattle.store.proofs.StoredPasses.{stored-passes}
use Rattle.sheet.proofs.SoundSheets.{sound-is-stored}
use Rattle.text.specs.Code.{code, edit_code}
use Rattle.text.specs.Stands.{Stands, EditStands, SomeEditStands}
use Rattle.eval.specs.Evaluated.{Opened, IsSet, IsRelation, IsTruth}
use Rattle.ends.specs.Edits.{behind_step}
use Rattle.apply.specs.Apply.{after_steps}
use Rattle.apply.specs.Made.{label_operation, arrow_code_def, Ready, StepMade, Made}
use Rattle.apply.proofs.Cases.{label_made, arrow_made, IsStep, IsChoose, is-finish}

-- the graph of the sheet that stores a graph
graph-again : (g : Graph) (t : List ℕ) → Within g → t ≡ store g → graph_of t ≡ g
graph-again g t w e = ap graph_of e ∙ read_back g w

-- A sound sheet is ready once its n and its nodes are loaded.
pub ready-first : (t : List ℕ) (n all : ℕ) → Bytes t → Sound t → n ≡ (graph_of t).n → all ≡ set_of (graph_of t).n (is_node (graph_of t)) → Ready t n all
ready-first t n all small sound c a =
    let o = sound-is-stored present t small sound in
    record { stored = o.stored; within = o.within; count = c; nodes = a ∙ ap (λ (m : ℕ). set_of m (is_node (graph_of t))) (sym c) }

-- from one law for each edit that stands there
pub each-made : (n all : ℕ) (edit : List ℕ) (at next : ℕ) (t t' : List ℕ) → SomeEditStands (ranges n) edit at → ((Z : Edit) → EditStands (ranges n) edit at Z → Ready t' n all × StepMade n edit at Z next t t')
    → Ready t' n all × ((Z : Edit) → EditStands (ranges n) edit at Z → StepMade n edit at Z next t t')
each-made n all edit at next t t' s f = ((f s.what s.stands).0, λ Z h. (f Z h).1)

module _ (t : List ℕ) (n all : ℕ) (r : Ready t n all) where
  pub opened : Opened t n all
  opened = record { sound = subst Sound (sym r.stored) (stored-passes (graph_of t) r.within); count = r.count; few = omega (arith, r.count, r.within.few_nodes); nodes = r.nodes; within = r.within }

  -- a sheet that stores another graph of the same nodes
  ready-again : (g : Graph) (t' : List ℕ) → Within g → g.n ≡ (graph_of t).n → g.in_use ≡ (graph_of t).in_use → t' ≡ store g → Ready t' n all
  unfolding is_node
  ready-again g t' w q u e =
      let s = graph-again g t' w e in
      record {
        stored = e ∙ ap store (sym s);
        within = subst Within (sym s) w;
        count = r.count ∙ sym q ∙ ap (λ (h : Graph). h.n) (sym s);
        nodes = r.nodes ∙ set_of-cong n _ _ (λ i l. ap₂ (λ (m : ℕ) (v : Nodes). ltb i m && v i) (sym q) (sym u) ∙ ap (λ (h : Graph). is_node h i) (sym s));
      }

  module _ (edit : List ℕ) (at : ℕ) (Z : Edit) where
    -- A step 31 to 34 made: the sheet is ready for the next one.
    step-made : {s : Sort} (limit : ℕ) (made : ℕ → Graph → ℕ → Value s → Graph) → ((c : ℕ) (g : Graph) (k : ℕ) (v : Value s) → ((made c g k v).n ≡ g.n) × ((made c g k v).in_use ≡ g.in_use)) → (q : IsStep (ranges n) edit at Z s limit made) (next : ℕ) (t' : List ℕ)
        → next ≡ at + 2 + length (code q.what) → t' ≡ store (made (get_or edit at 0) (graph_of t) q.number (value (graph_of t) q.what)) → Ready t' n all × StepMade n edit at Z next t t'
    step-made limit made same q next t' a e = (
      ready-again _ t' (q.keeps (graph_of t) r.within) (same _ (graph_of t) _ _).0 (same _ (graph_of t) _ _).1 e,
      record {
        stands = q.next next a;
        ends = omega (arith, a, q.long);
        on = omega (arith, a);
        runs = q.runs (graph_of t) r.within ∙ ap (run (behind_step Z)) (sym (graph-again _ t' (q.keeps (graph_of t) r.within) e));
      },
    )

    -- 31 and 32: the words x of the label, e of the expression, y of their combination.
    pub label-made : (q : IsStep (ranges n) edit at Z node label_count label_made) (x e y next : ℕ) (t' : List ℕ) → x ≡ set_of (graph_of t).n ((graph_of t).labelled (get_or edit (at + 1) 0))
        → ((E : Expr node) → Stands (ranges n) edit (at + 2) E → IsSet t n (at + 2) E e next) → y ≡ combined (label_operation (get_or edit at 0)) x e
        → ((v : Nodes) → y ≡ set_of (graph_of t).n v → t' ≡ store (relabel (graph_of t) (get_or edit (at + 1) 0) v)) → Ready t' n all × StepMade n edit at Z next t t'
    label-made q x e y next t' old new both put =
        let g = graph_of t in let c = get_or edit at 0 in let k = get_or edit (at + 1) 0 in let E = q.what in
        let f = new E q.first in let w : e ≡ set_of g.n (value g E) = f.set ∙ ap (λ (m : ℕ). set_of m (value g E)) r.count in
        let u : y ≡ set_of g.n (λ i. label_operation c (g.labelled k i) (value g E i)) =
        both ∙ ap (λ (z : ℕ). combined (label_operation c) z e) old ∙ ap (combined (label_operation c) (set_of g.n (g.labelled k))) w
        ∙ combined-sets (label_operation c) (cond_both (◌≡ false) (eqb c 0x31) false false refl refl) g.n (g.labelled k) (value g E) (omega (arith, r.within.few_nodes)) in
        step-made label_count label_made (λ c g k v. (refl, refl)) q next t' f.ends (put (λ i. label_operation c (g.labelled k i) (value g E i)) u ∙ ap (λ (a : ℕ). store (label_made c g a (value g E))) q.reads)

    -- 33 and 34: the rows of the arrow, of the expression, and their combination.
    pub arrow-made : (q : IsStep (ranges n) edit at Z arrow arrow_count arrow_made) (c : ℕ) (old new rows : List ℕ) (next : ℕ) (t' : List ℕ) → Rows n ((graph_of t).joined (get_or edit (at + 1) 0)) old
        → ((R : Expr arrow) → Stands (ranges n) edit (at + 2) R → IsRelation t n (at + 2) R new next) → c ≡ arrow_code_def (get_or edit at 0)
        → ((v w : Pairs) → Rows n v old → Rows n w new → Rows n (λ i j. arrow_operation c (v i j) (w i j)) rows)
        → ((v : Pairs) → PairsIn (graph_of t) v → Rows (graph_of t).n v rows → t' ≡ store (rejoin (graph_of t) (get_or edit (at + 1) 0) v)) → Ready t' n all × StepMade n edit at Z next t t'
    arrow-made q c old new rows next t' was is says both put =
        let g = graph_of t in let a = get_or edit (at + 1) 0 in let R = q.what in let f = is R q.first in
        let u : Rows g.n (λ i j. arrow_operation c (g.joined a i j) (value g R i j)) rows = subst (λ (m : ℕ). Rows m (λ i j. arrow_operation c (g.joined a i j) (value g R i j)) rows) r.count (both (g.joined a) (value g R) was f.rows_are) in
        let x = r.within.arrows_in a in let y = value_in g r.within R in
        let z : PairsIn g (λ i j. arrow_operation c (g.joined a i j) (value g R i j)) =
        record {
          starts = λ i j h. ap₂ (arrow_operation c) (x.starts i j h) (y.starts i j h) ∙ arrow-operation-none c;
          ends = λ i j h. ap₂ (arrow_operation c) (x.ends i j h) (y.ends i j h) ∙ arrow-operation-none c;
        } in
        step-made arrow_count arrow_made (λ c g k v. (refl, refl)) q next t' f.ends
        (put (λ i j. arrow_operation c (g.joined a i j) (value g R i j)) z u
        ∙ ap (λ (b : ℕ). store (rejoin g a (λ i j. arrow_operation b (g.joined a i j) (value g R i j)))) says ∙ ap (λ (b : ℕ). store (arrow_made (get_or edit at 0) g b (value g R))) q.reads)

    -- A step 35 made: Y is the way taken.
    way-made : (q : IsChoose (ranges n) edit at Z) (Y : Edit) (next : ℕ) (t' : List ℕ) → EditInRange (ranges n) Y → cond (value (graph_of t) q.K) (run q.P (graph_of t)) (run q.Q (graph_of t)) ≡ run Y (graph_of t)
        → t' ≡ after_steps Y t → next ≡ at + 1 + length (code q.K) + length (edit_code q.P) + length (edit_code q.Q) → StepMade n edit at Z next t t'
    way-made q Y next t' range c e a =
        record {
          stands = q.next next a;
          ends = omega (arith, a, q.long);
          on = omega (arith, a);
          runs = q.runs (graph_of t) ∙ ap (run (behind_step Z)) (c ∙ sym (graph-again (run Y (graph_of t)) t' (run_within (ranges n) Y range (graph_of t) r.within) e));
        }

    pub first_made : (q : IsChoose (ranges n) edit at Z) (holds : Bool) (p p' next : ℕ) (t' : List ℕ) → IsTruth t (at + 1) q.K holds p → holds ≡ true → Made p q.P p' t t' → next ≡ p' + length (edit_code q.Q) → StepMade n edit at Z next t t'
    first_made q holds p p' next t' truth h m a =
        way-made q q.P next t' (q.first _ refl).range (ap (λ b. cond b (run q.P (graph_of t)) (run q.Q (graph_of t))) (sym truth.truth ∙ h)) m.sheet_is (omega (arith, a, m.ends, truth.ends))

    pub second-made : (q : IsChoose (ranges n) edit at Z) (holds : Bool) (p p' next : ℕ) (t' : List ℕ) → IsTruth t (at + 1) q.K holds p → holds ≡ false → p' ≡ p + length (edit_code q.P) → Made p' q.Q next t t' → StepMade n edit at Z next t t'
    second-made q holds p p' next t' truth h a m =
        way-made q q.Q next t' (q.second _ refl).range (ap (λ b. cond b (run q.P (graph_of t)) (run q.Q (graph_of t))) (sym truth.truth ∙ h)) m.sheet_is (omega (arith, a, m.ends, truth.ends))

-- What is left of an edit at a place: it makes the graph g, and ends at `end`.
pub record Left (n : ℕ) (edit : List ℕ) (p end : ℕ) (t : List ℕ) (g : Graph) : Type 0 where
  pub tail : Edit
  pub stands : EditStands (ranges n) edit p tail
  pub ends : p + length (edit_code tail) ≡ end
  pub runs : g ≡ run tail (graph_of t)

-- The steps up to the place p were made, on the sheet that was t₀.
pub record Making (n all : ℕ) (edit : List ℕ) (at p : ℕ) (t₀ t : List ℕ) : Type 0 where
  pub le : at ≤ p
  pub ready : Ready t n all
  pub some : SomeEditStands (ranges n) edit p
  pub left : (Z : Edit) → EditStands (ranges n) edit at Z → Left n edit p (at + length (edit_code Z)) t (run Z (graph_of t₀))

module _ (n all : ℕ) (edit : List ℕ) (at : ℕ) (t₀ : List ℕ) where
  module _ (p : ℕ) (t : List ℕ) (m : Making n all edit at p t₀ t) where
    pub making-more : (next : ℕ) (t' : List ℕ) → Ready t' n all → ((Z : Edit) → EditStands (ranges n) edit p Z → StepMade n edit p Z next t t') → Making n all edit at next t₀ t'
    making-more next t' r f =
        let a = f m.some.what m.some.stands in
        record {
          le = omega (arith, m.le, a.on);
          ready = r;
          some = record { what = behind_step m.some.what; stands = a.stands };
          left = λ Z h.
              let q = m.left Z h in let b = f q.tail q.stands in
              record { tail = behind_step q.tail; stands = b.stands; ends = b.ends ∙ q.ends; runs = q.runs ∙ b.runs };
        }

    pub making-end : get_or edit p 0 ≤ 0x30 → (Z : Edit) → EditStands (ranges n) edit at Z → Made at Z (p + 1) t₀ t
    unfolding run edit_code
    making-end e Z h =
        let q = m.left Z h in let f : q.tail ≡ finish = is-finish (ranges n) edit p q.tail q.stands e in
        record { sheet_is = m.ready.stored ∙ ap store (sym (q.runs ∙ ap (λ (Y : Edit). run Y (graph_of t)) f)); ends = ap (λ (Y : Edit). p + length (edit_code Y)) (sym f) ∙ q.ends }
