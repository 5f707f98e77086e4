-- Typing, in terms of its questions: the head, then the lines one by one.
use mathlib.Core.Path.{◌≡◌, refl, sym, ◌∙◌, ap, ap₂, subst}
use mathlib.Core.Bool.{Bool, true, false, ◌&&◌, cond, and_self_left, and-eq-true_iff}
use mathlib.Core.List.{List}
use Prim.Native.Nat.{ℕ, suc, ◌+◌, ◌-◌, ◌*◌, ◌≤◌, ◌<◌}
use native.Mathlib.Numerals.{add-one}
use native.Mathlib.Omega.{arith}
use native.Mathlib.Decide.{dec_lt}
use borrow.Author.Tests.{lt-ltb, le-ltb, ltb-true, eq-eqb, eqb-true}
use lib.Dec.{eqb, ltb}
use lib.ListN.{length, get_or, set, take, drop, length-set}
use lib.Seq.{get_or-set_same, get_or-set_other}
use Rattle.answer.specs.Asked.{passed, refused, ◌>>◌, is}
use Rattle.answer.proofs.AskedLaws.{refused-not-passed}
use Rattle.logic.specs.Graph.{Graph, Nodes, is_node}
use Rattle.logic.specs.Limits.{max_nodes, label_count, arrow_count}
use Rattle.bitset.specs.Words.{set_of, member, combined}
use Rattle.bitset.proofs.SetLaws.{set_of-none, member_of, combined-sets}
use Rattle.seal.specs.Seal.{same_bytes}
use Rattle.pages.specs.Page.{set_line, label_page_lines}
use Rattle.pages.specs.Typed.{page_line, marks, Block, arrows, labels, head_of, lines_of, head_is_def, head_number, ask_head, set_shown_def, SetsRead, line_right, ask_lines, marked}
use Rattle.pages.specs.Prints.{HasBlock}
use Rattle.pages.proofs.LineLaws.{set_line-word, nodes-used}

-- the head, by the page's length
module _ (n : ℕ) (page : List ℕ) (b : Block) where
  pub head-same : length page ≡ 64 * lines_of n b + 64 → head_is_def n page b ≡ same_bytes (take 64 page) (head_of n b)
  head-same e = unfold head_is_def in ap (◌&& same_bytes (page_line page 0) (head_of n b)) (eq-eqb (length page) (64 * lines_of n b + 64) e)

  pub head-says : head_is_def n page b ≡ true → (length page ≡ 64 * lines_of n b + 64) × (same_bytes (page_line page 0) (head_of n b) ≡ true)
  unfolding head_is_def
  head-says e = let r = (and-eq-true_iff (eqb (length page) (64 * lines_of n b + 64)) (same_bytes (page_line page 0) (head_of n b))).0 e in (eqb-true _ _ r.0, r.1)

-- what it names
module _ (n : ℕ) (page : List ℕ) where
  abbrev kind : ℕ
  kind = head_number page

  pub names-labels : head_is_def n page labels ≡ true → passed labels ≡ ask_head n page
  names-labels e = unfold ask_head in rw e refl

  pub names-arrows : head_is_def n page labels ≡ false → kind < arrow_count → head_is_def n page (arrows kind) ≡ true → passed (arrows kind) ≡ ask_head n page
  names-arrows other l e = unfold ask_head in rw (other, lt-ltb kind arrow_count l, e) refl

  -- a head that names a block is that block's, and a sheet has that block
  pub head-named : (b : Block) → ask_head n page ≡ passed b → HasBlock b × (head_is_def n page b ≡ true)
  unfolding ask_head
  head-named b e = go _ _ refl refl e where
    go : (x y : Bool) → head_is_def n page labels ≡ x → (ltb kind arrow_count && head_is_def n page (arrows kind)) ≡ y
        → cond x (passed labels) (cond y (passed (arrows kind)) (refused 51 0)) ≡ passed b → HasBlock b × (head_is_def n page b ≡ true)
    go true y p q e = let z : labels ≡ b = cc in subst (λ c. HasBlock c × (head_is_def n page c ≡ true)) z (tt, p)
    go false true p q e =
        let z : arrows kind ≡ b = cc in
        let r = (and-eq-true_iff (ltb kind arrow_count) (head_is_def n page (arrows kind))).0 q in
        subst (λ c. HasBlock c × (head_is_def n page c ≡ true)) z (ltb-true kind arrow_count r.0, r.1)
    go false false p q e = refused-not-passed e

-- the line after x others and the head, as the code cuts it
module _ (page : List ℕ) (x : ℕ) where
  pub part-is : take (64 * (x + 1) + 64 - 64 * (x + 1)) (drop (64 * (x + 1)) page) ≡ page_line page (suc x)
  part-is =
      let w : 64 * (x + 1) + 64 - 64 * (x + 1) ≡ 64 = omega arith in
      ap₂ (λ k y. take k (drop (64 * y) page)) w (add-one x)

-- the lines, one by one
module _ (g : Graph) (b : Block) (page : List ℕ) (m : ℕ) where
  -- x lines are right
  abbrev Right : ℕ → Type 0
  Right x = ask_lines g b page m 0 ≡ ask_lines g b page (m - x) x

  pub record Reading (sets : List ℕ) (x : ℕ) : Type 0 where
    pub few : x ≤ m
    pub words : length sets ≡ 64
    pub right : Right x
    pub read : SetsRead g b page sets x

  step : (x : ℕ) → x < m → ask_lines g b page (m - x) x ≡ (is (line_right g b x (page_line page (suc x))) 51 (suc x) >> ask_lines g b page (m - (x + 1)) (suc x))
  unfolding ask_lines
  step x l =
      let z : m - x ≡ suc (m - (x + 1)) = omega arith in
      ap (λ k. ask_lines g b page k x) z

  -- the line is wrong
  pub line-wrong : (sets : List ℕ) (x : ℕ) → x < m → Reading sets x → line_right g b x (page_line page (suc x)) ≡ false → refused 51 (x + 1) ≡ ask_lines g b page m 0
  unfolding is ◌>>◌
  line-wrong sets x l r e = ap (refused 51) (add-one x) ∙ sym (r.right ∙ step x l ∙ ap (λ r. is r 51 (suc x) >> ask_lines g b page (m - (x + 1)) (suc x)) e)

  -- the line is right, and its set is kept
  pub line_read : (sets : List ℕ) (x v : ℕ) → x < m → m ≤ 60 → Reading sets x → line_right g b x (page_line page (suc x)) ≡ true → v ≡ set_of g.n (set_shown_def g b x (marks (page_line page (suc x)))) → Reading (set sets x v) (x + 1)
  unfolding is ◌>>◌
  line_read sets x v l s r e q =
      record {
        few = omega arith;
        words = length-set sets x v ∙ r.words;
        right = r.right ∙ step x l ∙ ap (λ r. is r 51 (suc x) >> ask_lines g b page (m - (x + 1)) (suc x)) e ∙ ap (ask_lines g b page (m - (x + 1))) (sym (add-one x));
        read = λ i k. go i k (dec_lt i x);
      } where
        go : (i : ℕ) → i < x + 1 → Dec (i < x) → get_or (set sets x v) i 0 ≡ set_of g.n (set_shown_def g b i (marks (page_line page (suc i))))
        go i k (yes a) = get_or-set_other sets x i v 0 (omega arith) ∙ r.read i a
        go i k (no a) =
            let z : x ≡ i = omega arith in
            ap (λ y. get_or (set sets x v) y 0) (sym z) ∙ get_or-set_same sets x v 0 (omega (arith, r.words)) ∙ q ∙ ap (λ y. set_of g.n (set_shown_def g b y (marks (page_line page (suc y))))) z

  -- all of them
  pub all_read : (sets : List ℕ) (x : ℕ) → m ≤ x → Reading sets x → passed tt ≡ ask_lines g b page m 0
  unfolding ask_lines
  all_read sets x l r =
      let z : m - x ≡ 0 = omega (arith, r.few) in
      sym (r.right ∙ ap (λ k. ask_lines g b page k x) z)

-- the sets of the lines give the graph with the page's marks
pub marked-labels : (g : Graph) (page sets : List ℕ) → SetsRead g labels page sets label_page_lines
    → (k : ℕ) → k < label_count → get_or sets k 0 ≡ set_of g.n (λ i. ltb k label_count && marked g page k i)
marked-labels g page sets read k l =
    let t : ltb k label_count ≡ true = lt-ltb k label_count l in
    read k (omega arith) ∙ ap (λ c. set_of g.n (λ i. cond c (marked g page k i) (g.in_use i))) t ∙ sym (ap (λ c. set_of g.n (λ i. c && marked g page k i)) t)

-- one line read: its set, from the words of the nodes in use and of its marks, and whether it is right
module _ (g : Graph) (b : Block) (page : List ℕ) (n : ℕ) (same : n ≡ g.n) (x set : ℕ) where
  abbrev line : List ℕ
  line = page_line page (suc x)

  abbrev part : List ℕ
  part = take (64 * (x + 1) + 64 - 64 * (x + 1)) (drop (64 * (x + 1)) page)

  pub line_set : (used marked : ℕ) → n ≤ max_nodes → used ≡ set_of g.n (is_node g) → marked ≡ set_of n (marks part)
      → ((h : Graph) (v : Nodes) → h.n ≤ max_nodes → used ≡ set_of h.n (is_node h) → marked ≡ set_of h.n v → set ≡ set_of h.n (set_shown_def h b x v))
      → set ≡ set_of g.n (set_shown_def g b x (marks line))
  line_set used marked few u m shown =
      shown g (marks part) (omega arith) u (m ∙ ap (λ k. set_of k (marks part)) same) ∙ ap (λ p. set_of g.n (set_shown_def g b x (marks p))) (part-is page x)

  pub line-asked : {r : Bool} → set ≡ set_of g.n (set_shown_def g b x (marks line)) → r ≡ same_bytes part (set_line n x (member set)) → r ≡ line_right g b x line
  unfolding line_right
  line-asked e q =
      q ∙ ap (λ p. same_bytes p (set_line n x (member set))) (part-is page x)
      ∙ ap (same_bytes line) (ap (λ k. set_line k x (member set)) same ∙ set_line-word g.n x (set_shown_def g b x (marks line)) set e)

-- the set of a line, from the words of the nodes in use and of its marks
module _ (g : Graph) (x : ℕ) (v : Nodes) (few : g.n ≤ max_nodes) (used marked : ℕ) (u : used ≡ set_of g.n (is_node g)) (m : marked ≡ set_of g.n v) where
  in_use : member used x ≡ is_node g x
  in_use = unfold is_node in ap (λ w. member w x) u ∙ member_of g.n (is_node g) x ∙ and_self_left (ltb x g.n) (g.in_use x)

  both_words : combined ◌&&◌ used marked ≡ set_of g.n (λ j. is_node g j && v j)
  both_words = ap₂ (combined ◌&&◌) u m ∙ combined-sets ◌&&◌ refl g.n (is_node g) v (omega arith)

  pub closed-row : member used x ≡ false → 0 ≡ set_of g.n (λ j. is_node g x && (is_node g j && v j))
  closed-row e = sym (ap (λ b. set_of g.n (λ j. b && (is_node g j && v j))) (sym in_use ∙ e) ∙ set_of-none g.n)

  pub used-row : member used x ≡ true → combined ◌&&◌ used marked ≡ set_of g.n (λ j. is_node g x && (is_node g j && v j))
  used-row e = both_words ∙ sym (ap (λ b. set_of g.n (λ j. b && (is_node g j && v j))) (sym in_use ∙ e))

  pub label_set : x < label_count → combined ◌&&◌ used marked ≡ set_of g.n (set_shown_def g labels x v)
  label_set l = both_words ∙ sym (ap (λ b. set_of g.n (λ i. cond b (is_node g i && v i) (g.in_use i))) (lt-ltb x label_count l))

  pub used-set : label_count ≤ x → used ≡ set_of g.n (set_shown_def g labels x v)
  used-set l = u ∙ nodes-used g ∙ sym (ap (λ b. set_of g.n (λ i. cond b (is_node g i && v i) (g.in_use i))) (le-ltb x label_count l))
