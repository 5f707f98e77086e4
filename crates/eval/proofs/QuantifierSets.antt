-- The set that a quantifier means.
use mathlib.Core.Path.{◌≡◌, refl, sym, ap, ◌∙◌}
use mathlib.Core.Bool.{Bool, true, false, ◌&&◌, cond}
use mathlib.Core.List.{List}
use Prim.Native.Nat.{ℕ, ◌+◌, ◌-◌, ◌≤◌, ◌<◌}
use native.Mathlib.Omega.{arith}
use lib.Dec.{eqb, leb}
use lib.ListN.{length, get_or}
use Rattle.logic.specs.Syntax.{node, arrow, Expr}
use Rattle.logic.specs.Graph.{Nodes, Pairs, is_node}
use Rattle.logic.specs.Meaning.{value}
use Rattle.logic.specs.Limits.{ranges}
use Rattle.logic.proofs.Below.{count-cong}
use Rattle.logic.proofs.Inside.{value_in}
use Rattle.bitset.specs.Words.{set_of, member}
use Rattle.bitset.proofs.SetLaws.{set_of-cong, member-set_of}
use Rattle.sheet.specs.Sheet.{graph_of, Rows}
use Rattle.text.specs.Code.{code}
use Rattle.text.specs.Stands.{Stands}
use Rattle.rows.specs.Operations.{quantified, quantified_nodes, answered, least, looked, turn, Among}
use Rattle.rows.proofs.Quantifiers.{quantified-is}
use Rattle.eval.specs.Evaluated.{Opened, Used, IsSetWithin, IsTurned}
use Rattle.eval.proofs.ArrowCases.{as-kind}
use Rattle.eval.proofs.EvaluatorPosts.{SetAt, WayAt}
use Rattle.eval.proofs.InUse.{in_use, among-all, part-whole}
use Rattle.eval.proofs.NodeCases.{IsQuantifier}

quantified-cong : (c m n : ℕ) (v w u : Nodes) → ((j : ℕ) → j < n → w j ≡ u j) → quantified c m n v w ≡ quantified c m n v u
quantified-cong c m n v w u h =
    quantified-is c m n (λ j. true) v w (λ j z. cc)
    ∙ ap (answered c) (ap (leb (least c m)) (count-cong n _ _ (λ j l. ap (λ (b : Bool). v j && looked c true b) (h j l))))
    ∙ sym (quantified-is c m n (λ j. true) v u (λ j z. cc))

nodes-there : (c m n : ℕ) (nodes : Nodes) (v : Pairs) (w : Nodes) (i : ℕ) (u : Bool) → (nodes i ≡ false → u ≡ false) → (u && quantified c m n (v i) w) ≡ (u && quantified_nodes c m n nodes v w i)
unfolding quantified_nodes
nodes-there c m n nodes v w i u h = ap (u &&◌) (go (eqb c 0x08) (quantified c m n (v i) w)) ∙ sym (in_use u (nodes i) (λ b. cond (eqb c 0x08) (quantified c m n (v i) w) (b && quantified c m n (v i) w)) h)
  where
    go : (b q : Bool) → q ≡ cond b q (true && q)
    go true q = refl
    go false q = refl

-- a relation turned over, and back
turned-twice : (b : Bool) (v : Pairs) → turn b (turn b v) ≡ v
turned-twice true v = refl
turned-twice false v = refl

among_turned : {all : ℕ} {v : Pairs} (b : Bool) → Among all v → Among all (turn b v)
among_turned true h = record { starts = λ i j e. h.ends j i e; ends = λ i j e. h.starts j i e }
among_turned false h = h

module _ (n : ℕ) (text : List ℕ) (at : ℕ) (sheet : List ℕ) (all : ℕ) (o : Opened sheet n all) (within : ℕ) (u : Used sheet n within) (e : Expr node) where
  -- the nodes evaluated for that are quantified over v, turned or not
  abbrev Part : (k : ℕ) → Bool → Pairs → (x : ℕ) → ℕ
  Part k turned v x = set_of n (λ i. member within i && quantified (get_or text at 0) (get_or text (at + k - 1) 0) n (turn turned v i) (member x))

  quantifier-part : (k : ℕ) (h : IsQuantifier n text at (get_or text at 0) k e) (turned : Bool) (next x nx ny z : ℕ) (d : IsTurned n text (at + k) h.A turned next)
      → nx ≡ next + length (code d.R) → SetAt n text sheet nx all x ny → z ≡ Part k turned (value (graph_of sheet) d.R) x → IsSetWithin sheet n at e within z ny
  quantifier-part k h turned next x nx ny z d s q r =
      let g = graph_of sheet in let c = get_or text at 0 in
      let m = get_or text (at + k - 1) 0 in let b = q h.B (h.second nx (omega (arith, d.ends, s))) in
      let ends : (i : ℕ) → quantified c m n (value g h.A i) (member x) ≡ quantified c m n (value g h.A i) (value g h.B) =
      λ i. quantified-cong c m n (value g h.A i) _ _ (λ j l. ap (λ (y : ℕ). member y j) (part-whole sheet n all o h.B x b.set) ∙ member-set_of n (value g h.B) j l) in
      record {
        set =
            r
            ∙ set_of-cong n _ _ (λ i l.
            ap (member within i &&◌) (
            ap (λ (v : Pairs). quantified c m n (v i) (member x)) (sym (d.means g)) ∙ ends i
            ∙ ap (λ (y : ℕ). quantified c m y (value g h.A i) (value g h.B)) o.count)
            ∙ nodes-there c m g.n (is_node g) (value g h.A) (value g h.B) i (member within i) (u.nodes i)
            ∙ ap (λ (v : Nodes). member within i && v i) (sym (h.means g)));
        ends = omega (arith, d.ends, s, b.ends, h.size);
      }

  pub quantifier-set : (k : ℕ) → IsQuantifier n text at (get_or text at 0) k e → (turned : Bool) (rows : List ℕ) (x nx ny z : ℕ)
      → WayAt n text sheet (at + k) rows turned nx → SetAt n text sheet nx all x ny → ((v : Pairs) → Among all v → Rows n v rows → z ≡ Part k turned v x) → IsSetWithin sheet n at e within z ny
  quantifier-set k h turned rows x nx ny z p q r =
      let a = p h.A h.first in let v = value (graph_of sheet) h.A in
      quantifier-part k h false (at + k) x nx ny z (record { R = h.A; stands = h.first; means = λ g. refl; on = omega arith; ends = refl }) a.ends q
      (r (turn turned v) (among_turned turned (among-all o (value_in (graph_of sheet) o.within h.A))) a.rows_are ∙ ap (λ (u : Pairs). Part k false u x) (turned-twice turned v))

  -- over 11, or 12 11
  pub quantifier-kind : (k : ℕ) → IsQuantifier n text at (get_or text at 0) k e → (turned : Bool) (next x ny z : ℕ)
      → ((f : Expr arrow) → Stands (ranges n) text (at + k) f → IsTurned n text (at + k) f turned next) → get_or text next 0 ≤ 0x11
      → SetAt n text sheet (next + 2) all x ny → z ≡ Part k turned ((graph_of sheet).joined (get_or text (next + 1) 0)) x → IsSetWithin sheet n at e within z ny
  quantifier-kind k h turned next x ny z t l q r =
      let g = graph_of sheet in let d = t h.A h.first in let w = as-kind n text next d.R d.stands l in
      quantifier-part k h turned next x (next + 2) ny z d (omega (arith, w.size)) q
      (r ∙ ap (λ (v : Pairs). Part k turned v x) (sym (w.means g)))
