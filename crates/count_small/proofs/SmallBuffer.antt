-- The buffer holds one small sheet after another.
use mathlib.Core.Path.{◌≡◌, refl, sym, ap, ◌∙◌, subst}
use mathlib.Core.Bool.{true, ◌&&◌}
use mathlib.Core.List.{List}
use Prim.Native.Nat.{ℕ, ◌≤◌}
use native.Mathlib.Omega.{arith}
use lib.Dec.{ltb}
use lib.ListN.{length}
use borrow.Author.Tests.{ne_eqb}
use Rattle.answer.specs.Asked.{after}
use Rattle.answer.proofs.AskedLaws.{after_on}
use Rattle.logic.specs.Syntax.{Expr, rule, Edit}
use Rattle.logic.specs.Graph.{Graph, Nodes, Pairs, is_node}
use Rattle.logic.specs.Steps.{update, relabel, rejoin, run}
use Rattle.logic.specs.Limits.{Within, PairsIn, max_nodes, ranges, EditInRange}
use Rattle.logic.proofs.Inside.{some-n, relabel-within}
use Rattle.bitset.specs.Words.{set_of}
use Rattle.sheet.specs.Sheet.{present, sheet_bytes, store, graph_of, blank, Rows}
use Rattle.sheet.specs.Questions.{Sound, ask_blank}
use Rattle.sheet.proofs.BlankSheets.{room}
use Rattle.sheet.proofs.BlockLaws.{length-store}
use Rattle.store.proofs.StoredReads.{read_back}
use Rattle.store.proofs.StoredPasses.{stored-passes, blank-within}
use Rattle.text.specs.Stands.{EditStands}
use Rattle.judge.specs.Judging.{RulesStand}
use Rattle.apply.specs.Made.{Made}
use Rattle.count_small.specs.Small.{Small, small_sheet}
use Rattle.count_small.specs.Questions.{most_small}
use Rattle.count_small.specs.Names.{edit_only_first}
use Rattle.count_small.specs.Counting.{Loaded}
use Rattle.count_small.proofs.Numbering.{number_small}
use Rattle.count_small.proofs.Others.{relabelled_as, put_small, small-after}

module _ (n : ℕ) where
  -- for a small graph: its nodes, and that it has some
  small-nodes : (g : Graph) → Small n g → (x i : ℕ) → is_node g i ≡ is_node (small_sheet n x) i
  small-nodes g s x i = unfold is_node small_sheet in ap (λ (m : ℕ). ltb i m && g.in_use i) s.count ∙ ap (ltb i n &&◌) (s.all_in_use i)

  numbered-small : (g : Graph) → Small n g → (x : ℕ) → Small n (small_sheet n x)
  numbered-small g s x = number_small n x (omega (arith, some-n g s.within, s.count)) (omega (arith, s.within.few_nodes, s.count))

  module _ (t : List ℕ) (l : Loaded n t) where
    pub loaded-graph : graph_of t ≡ l.graph
    loaded-graph = ap graph_of l.stored ∙ read_back l.graph l.small.within

    pub loaded-sound : Sound t
    loaded-sound = subst Sound (sym l.stored) (stored-passes l.graph l.small.within)

    pub loaded-length : length t ≡ sheet_bytes
    loaded-length = ap length l.stored ∙ length-store present l.graph

    pub loaded-n : (graph_of t).n ≡ n
    loaded-n = ap (λ (g : Graph). g.n) loaded-graph ∙ l.small.count

    -- the rules and the edit are in range for the sheet
    pub rules-on : (book : List ℕ) (rules : List (Expr rule)) → RulesStand (ranges n) book 0 (length book) rules → RulesStand (ranges (graph_of t).n) book 0 (length book) rules
    rules-on book rules s = rw loaded-n s

    pub edit-on : (edit : List ℕ) (Z : Edit) → EditStands (ranges n) edit 0 Z → EditStands (ranges (graph_of t).n) edit 0 Z
    edit-on edit Z s = rw loaded-n s

    -- Label 0 put.
    module _ (x : ℕ) where
      abbrev g : Graph
      g = l.graph

      label-within : Within (relabelled_as n x g)
      label-within = relabel-within g l.small.within 0 ((small_sheet n x).labelled 0) tt (λ i h. (numbered-small g l.small x).within.labels_in 0 i (sym (small-nodes g l.small x i) ∙ h))

      label_small : Small n (relabelled_as n x g)
      unfolding update
      label_small =
          record {
            within = label-within;
            count = l.small.count;
            all_in_use = l.small.all_in_use;
            one_label = λ k i h. rw (ne_eqb k 0 h) (l.small.one_label k i h);
            one_arrow = l.small.one_arrow;
          }

      pub label-put : (w : ℕ) (t' : List ℕ) → w ≡ set_of n ((small_sheet n x).labelled 0) → ((v : Nodes) → w ≡ set_of (graph_of t).n v → t' ≡ store (relabel (graph_of t) 0 v)) → t' ≡ store (relabelled_as n x g)
      label-put w t' e put = put ((small_sheet n x).labelled 0) (e ∙ ap (λ (m : ℕ). set_of m ((small_sheet n x).labelled 0)) (sym loaded-n)) ∙ ap (λ (h : Graph). store (relabelled_as n x h)) loaded-graph

      pub label-loaded : (t' : List ℕ) → t' ≡ store (relabelled_as n x g) → Loaded n t'
      label-loaded t' e = record { graph = relabelled_as n x g; small = label_small; stored = e }

      -- Then arrow 0.
      pub rows-put : (t' t'' rows : List ℕ) → t' ≡ store (relabelled_as n x g) → Rows n ((small_sheet n x).joined 0) rows
          → ((v : Pairs) → PairsIn (graph_of t') v → Rows (graph_of t').n v rows → t'' ≡ store (rejoin (graph_of t') 0 v)) → t'' ≡ store (small_sheet n x)
      rows-put t' t'' rows e r put =
          let v : Pairs = (small_sheet n x).joined 0 in
          let q : graph_of t' ≡ relabelled_as n x g = ap graph_of e ∙ read_back (relabelled_as n x g) label-within in
          let m : (graph_of t').n ≡ n = ap (λ (h : Graph). h.n) q ∙ l.small.count in
          let p = (numbered-small g l.small x).within.arrows_in 0 in
          let inside : PairsIn (relabelled_as n x g) v = record { starts = λ i j h. p.starts i j (sym (small-nodes (relabelled_as n x g) label_small x i) ∙ h); ends = λ i j h. p.ends i j (sym (small-nodes (relabelled_as n x g) label_small x j) ∙ h) } in
          put v (subst (λ (h : Graph). PairsIn h v) (sym q) inside) (subst (λ (k : ℕ). Rows k v rows) (sym m) r) ∙ ap (λ (h : Graph). store (rejoin h 0 v)) q ∙ ap store (put_small n x g l.small)

  -- The buffer holds small sheet x, and then what the edit leaves there.
  module _ (some : 1 ≤ n) (few : n ≤ most_small) (x : ℕ) where
    number-is-small : Small n (small_sheet n x)
    number-is-small = number_small n x some (omega arith)

    pub small-loaded : (t : List ℕ) → t ≡ store (small_sheet n x) → Loaded n t
    small-loaded t e = record { graph = small_sheet n x; small = number-is-small; stored = e }

    pub small-graph : (t : List ℕ) → t ≡ store (small_sheet n x) → graph_of t ≡ small_sheet n x
    small-graph t e = unfold small-loaded in loaded-graph t (small-loaded t e)

    module _ (Z : Edit) (range : EditInRange (ranges n) Z) (first : edit_only_first Z ≡ true) (t t' : List ℕ) (next : ℕ) (e : t ≡ store (small_sheet n x)) (m : Made 0 Z next t t') where
      pub left-loaded : Loaded n t'
      left-loaded = record { graph = run Z (small_sheet n x); small = small-after (ranges n) n Z (small_sheet n x) range first number-is-small; stored = m.sheet_is ∙ ap (λ (h : Graph). store (run Z h)) (small-graph t e) }

      pub left-graph : graph_of t' ≡ run Z (small_sheet n x)
      left-graph = unfold left-loaded in loaded-graph t' left-loaded

  -- The blank sheet comes first.
  blank-small : 1 ≤ n → n ≤ max_nodes → Small n (blank n)
  blank-small some few = record { within = blank-within n some few; count = refl; all_in_use = λ i. refl; one_label = λ k i h. refl; one_arrow = λ a i j h. refl }

  pub blank-loaded : 1 ≤ n → n ≤ most_small → (t t' : List ℕ) → t' ≡ after (ask_blank n (length t)) (λ u. store (blank n)) t → length t ≡ sheet_bytes → Loaded n t'
  blank-loaded some few t t' e l =
      record {
        graph = blank n;
        small = blank-small some (omega arith);
        stored = e ∙ after_on (room n (length t) some (omega arith) l) _ _;
      }
