-- A line is right exactly when some graph with the same nodes in use has it there.
use mathlib.Core.Path.{◌≡◌, refl, sym, ◌∙◌, ap, ap₂, subst}
use mathlib.Core.Bool.{Bool, true, false, ◌&&◌, cond, and-false}
use mathlib.Core.List.{List, [], ◌∷◌, ◌++◌}
use Prim.Native.Nat.{ℕ, zero, suc, ◌+◌, ◌≤◌, ◌<◌}
use native.Mathlib.Omega.{arith}
use native.Mathlib.Decide.{dec_lt}
use borrow.Author.Tests.{lt-ltb, le-ltb, eq-eqb}
use lib.Dec.{eqb, ltb, lt→ltb}
use lib.ListN.{length, get_or, get_or-append}
use lib.Seq.{get_or-append-add}
use Rattle.logic.specs.Graph.{Graph, Nodes, Pairs, is_node}
use Rattle.logic.specs.Limits.{max_nodes, label_count, arrow_count, NodesIn, PairsIn, Within}
use Rattle.logic.specs.Steps.{update}
use Rattle.logic.proofs.Inside.{no_node, rejoin-within}
use Rattle.seal.specs.Seal.{same_bytes}
use Rattle.seal.proofs.SealLaws.{same_refl, same-is}
use Rattle.decimal.specs.Digits.{digits}
use Rattle.decimal.proofs.DigitLaws.{digits-length}
use Rattle.sheet.specs.Sheet.{chunks}
use Rattle.sheet.proofs.ChunkLaws.{length-chunks}
use Rattle.pages.specs.Page.{square, squares, set_line}
use Rattle.pages.specs.Typed.{page_line, marks, Block, arrows, labels, lines_of, set_shown_def, line_right, marked, typed}
use Rattle.pages.specs.Prints.{set_at, page_of, HasBlock, Alike, IsLine}
use Rattle.pages.proofs.LineLaws.{set_line-cong}
use Rattle.pages.proofs.PageParts.{page-line}

singles : (f : ℕ → ℕ) (m i j : ℕ) → j < m → get_or (chunks m i (λ k. f k ∷ [])) j 0 ≡ f (i + j)
unfolding chunks
singles f zero i j h = absurd (omega arith)
singles f (suc m) i zero h = ap f (omega arith)
singles f (suc m) i (suc j) h = singles f m (suc i) j (omega arith) ∙ ap f (omega arith)

module _ (n x : ℕ) where
  -- the square of column j
  square-at : (v : Nodes) (j : ℕ) → j < max_nodes → get_or (set_line n x v) (3 + j) 0 ≡ square n v j
  unfolding set_line squares
  square-at v j h =
      let sq = chunks max_nodes 0 (λ k. square n v k ∷ []) in
      let e : 3 + j ≡ length (digits 2 x) + suc j = omega (arith, digits-length 2 x) in
      let z : 0 + j ≡ j = omega arith in
      ap (λ p. get_or (digits 2 x ++ ((0x20 ∷ sq) ++ (0x0A ∷ []))) p 0) e
      ∙ get_or-append-add (digits 2 x) ((0x20 ∷ sq) ++ (0x0A ∷ [])) (suc j) 0
      ∙ get_or-append sq (0x0A ∷ []) 0 j (omega (arith, length-chunks 1 (λ k. square n v k ∷ []) (λ k. refl) max_nodes 0))
      ∙ singles (square n v) max_nodes 0 j h ∙ ap (square n v) z

  -- it shows whether the set has that member
  pub marks-of-line : n ≤ max_nodes → (v : Nodes) (j : ℕ) → j < n → marks (set_line n x v) j ≡ v j
  unfolding square
  marks-of-line few v j h =
      ap (λ b. eqb b 0x23) (square-at v j (omega arith)) ∙ ap (λ (b : Bool). eqb (cond b (cond (v j) 0x23 0x2E) 0x20) 0x23) (lt-ltb j n h)
      ∙ elim (v j) as (λ b. eqb (cond b 0x23 0x2E) 0x23 ≡ b) [ true ↦ refl | false ↦ refl ]

-- sets of nodes in use
pub nodes-kept : (g : Graph) (v : Nodes) → NodesIn g v → (i : ℕ) → (is_node g i && v i) ≡ v i
nodes-kept g v h i = go (is_node g i) (v i) (h i) where
  go : (b x : Bool) → (b ≡ false → x ≡ false) → (b && x) ≡ x
  go true x k = refl
  go false x k = sym (k refl)

pub pairs-kept : (g : Graph) (v : Pairs) → PairsIn g v → (i j : ℕ) → (is_node g i && (is_node g j && v i j)) ≡ v i j
pairs-kept g v h i j = ap (is_node g i &&◌) (nodes-kept g (v i) (λ k e. h.ends i k e) j) ∙ nodes-kept g (λ k. v k j) (λ k e. h.starts k j e) i

-- the nodes of graphs that are alike
pub same-node : (g h : Graph) → Alike g h → (i : ℕ) → is_node g i ≡ is_node h i
same-node g h e i = unfold is_node in sym (ap₂ (λ m (u : Nodes). ltb i m && u i) e.nodes e.in_use)

-- the set that a line's marks show: in the graph itself, and the same in graphs like it
module _ (g : Graph) (x : ℕ) where
  shown-own : Within g → (b : Block) (j : ℕ) → set_shown_def g b x (set_at g b x) j ≡ set_at g b x j
  shown-own w (arrows a) j = pairs-kept g (g.joined a) (w.arrows_in a) x j
  shown-own w labels j =
      elim (ltb x label_count) as (λ c. cond c (is_node g j && cond c (g.labelled x) g.in_use j) (g.in_use j) ≡ cond c (g.labelled x) g.in_use j)
      [ true ↦ nodes-kept g (g.labelled x) (w.labels_in x) j | false ↦ refl ]

  -- it depends only on the nodes that are marked
  of-nodes : (v w : Nodes) (j : ℕ) → (j < g.n → v j ≡ w j) → (is_node g j && v j) ≡ (is_node g j && w j)
  of-nodes v w j h = elim (dec_lt j g.n) [ yes l ↦ ap (is_node g j &&◌) (h l) | no l ↦ rw (no_node g j (omega arith)) ]

  shown-cong : (b : Block) (v w : Nodes) (j : ℕ) → (j < g.n → v j ≡ w j) → set_shown_def g b x v j ≡ set_shown_def g b x w j
  shown-cong (arrows a) v w j h = ap (is_node g x &&◌) (of-nodes v w j h)
  shown-cong labels v w j h = ap (λ b. cond (ltb x label_count) b (g.in_use j)) (of-nodes v w j h)

  module _ (h : Graph) (e : Alike g h) where
    shown-alike : (b : Block) (v : Nodes) (j : ℕ) → set_shown_def g b x v j ≡ set_shown_def h b x v j
    shown-alike (arrows k) v j = ap₂ (λ a b. a && (b && v j)) (same-node g h e x) (same-node g h e j)
    shown-alike labels v j = ap₂ (λ a b. cond (ltb x label_count) (a && v j) b) (same-node g h e j) (sym (ap (λ (u : Nodes). u j) e.in_use))

    -- the line of a graph like this one
    pub alike-line : (b : Block) → x < lines_of g.n b → page_line (page_of h b) (suc x) ≡ set_line g.n x (set_at h b x)
    alike-line b l = page-line h b x (subst (λ m. x < lines_of m b) (sym e.nodes) l) ∙ ap (λ m. set_line m x (set_at h b x)) e.nodes

-- What the marks on a line of a graph like this one show is the set that the graph has there.
pub shown-printed : (g h : Graph) → Alike g h → Within h → (b : Block) (x : ℕ) → x < lines_of g.n b → (j : ℕ) → set_shown_def g b x (marks (page_line (page_of h b) (suc x))) j ≡ set_at h b x j
shown-printed g h e w b x l j =
    shown-cong g x b _ (set_at h b x) j (λ k. ap (λ t. marks t j) (alike-line g x h e b l) ∙ marks-of-line g.n x (omega (arith, e.nodes, w.few_nodes)) (set_at h b x) j k)
    ∙ shown-alike g x h e b (set_at h b x) j ∙ shown-own h x w b j

-- A LINE OF A GRAPH LIKE THIS ONE IS RIGHT.
pub line-right : (g : Graph) (b : Block) (x : ℕ) → x < lines_of g.n b → (line : List ℕ) → IsLine g b x line → line_right g b x line ≡ true
unfolding line_right
line-right g b x l line s =
    let t : line ≡ set_line g.n x (set_at s.graph b x) = s.is_line ∙ alike-line g x s.graph s.alike b l in
    ap (same_bytes line)
    (set_line-cong g.n x _ (set_at s.graph b x) (λ j k. ap (λ p. set_shown_def g b x (marks p) j) s.is_line ∙ shown-printed g s.graph s.alike s.within b x l j) ∙ sym t)
    ∙ same_refl line

-- the graph with a page's marks
module _ (g : Graph) (page : List ℕ) where
  pub typed-alike : (b : Block) → Alike g (typed g page b)
  unfolding typed
  typed-alike (arrows a) = record { nodes = refl; in_use = refl }
  typed-alike labels = record { nodes = refl; in_use = refl }

  pub marked-in : PairsIn g (λ i j. is_node g i && marked g page i j)
  marked-in =
      record {
        starts = λ i j e. ap (◌&& marked g page i j) e;
        ends = λ i j e. ap (λ b. is_node g i && (b && marks (page_line page (suc i)) j)) e ∙ and-false (is_node g i);
      }

  pub typed-within : Within g → (b : Block) → HasBlock b → Within (typed g page b)
  unfolding typed is_node
  typed-within w (arrows a) h = rejoin-within g w a (λ i j. is_node g i && marked g page i j) (lt→ltb a arrow_count h) marked-in
  typed-within w labels h =
      record {
        some_node = w.some_node;
        few_nodes = w.few_nodes;
        use_below = w.use_below;
        labels_in = λ k i e. ap (λ x. ltb k label_count && (x && marks (page_line page (suc k)) i)) e ∙ and-false (ltb k label_count);
        arrows_in = λ a. record { starts = (w.arrows_in a).starts; ends = (w.arrows_in a).ends };
        no_more_labels = λ k i l. ap (◌&& marked g page k i) (le-ltb k label_count l);
        no_more_arrows = w.no_more_arrows;
      }

  typed-set : (b : Block) (x j : ℕ) → set_at (typed g page b) b x j ≡ set_shown_def g b x (marks (page_line page (suc x))) j
  unfolding typed update
  typed-set (arrows a) x j = ap (λ (c : Bool). cond c (λ i k. is_node g i && marked g page i k) (g.joined a) x j) (eq-eqb a a refl)
  typed-set labels x j =
      elim (ltb x label_count) as (λ c. cond c (λ i. c && marked g page x i) g.in_use j ≡ cond c (marked g page x j) (g.in_use j)) [ true ↦ refl | false ↦ refl ]

  -- a right line is its line
  pub typed-line : (b : Block) (x : ℕ) → line_right g b x (page_line page (suc x)) ≡ true → page_line page (suc x) ≡ set_line g.n x (set_at (typed g page b) b x)
  typed-line b x e = unfold line_right in same-is (page_line page (suc x)) _ e ∙ set_line-cong g.n x _ _ (λ j l. sym (typed-set b x j))

  -- A RIGHT LINE IS ONE OF A GRAPH LIKE THIS ONE.
  pub right-line : Within g → (b : Block) → HasBlock b → (x : ℕ) → x < lines_of g.n b → line_right g b x (page_line page (suc x)) ≡ true → IsLine g b x (page_line page (suc x))
  right-line w b h x l e =
      record {
        graph = typed g page b;
        within = typed-within w b h;
        alike = typed-alike b;
        is_line = typed-line b x e ∙ sym (alike-line g x (typed g page b) (typed-alike b) b l);
      }
