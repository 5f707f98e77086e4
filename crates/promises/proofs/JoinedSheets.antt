-- Item 8's promises, from the laws on graphs: a joined sheet reads as the two graphs side by side.
use mathlib.Core.Path.{◌≡◌, sym, ◌∙◌, ap, subst}
use mathlib.Core.Logic.{◌↔◌}
use mathlib.Core.List.{List, [], ◌∷◌}
use Prim.Native.Nat.{ℕ, ◌+◌, ◌≤◌}
use native.Mathlib.Omega.{arith}
use lib.Dec.{T}
use Rattle.answer.specs.Asked.{passed}
use Rattle.answer.proofs.AskedLaws.{passed-same}
use Rattle.logic.specs.Syntax.{Expr, rule}
use Rattle.logic.specs.Graph.{Graph}
use Rattle.logic.specs.Meaning.{value, hold_all}
use Rattle.logic.specs.Limits.{Within, max_nodes}
use Rattle.logic.proofs.Bools.{both_so, so-both}
use Rattle.sheet.specs.Sheet.{present, store, graph_of}
use Rattle.sheet.specs.Questions.{ask_sheet, Sound}
use Rattle.sheet.proofs.SoundSheets.{sound-is-stored}
use Rattle.store.proofs.StoredPasses.{stored-passes}
use Rattle.store.proofs.StoredReads.{read_back}
use Rattle.text.specs.Reading.{text_limits}
use Rattle.text.specs.Questions.{ask_book}
use Rattle.runs.specs.Run.{Keeps}
use Rattle.join_sheets.specs.Joined.{joined_graph, nodes_total, ask_join, joined_sheet}
use Rattle.join_sheets.specs.Joinable.{JoinableBook}
use Rattle.join_sheets.proofs.Joined.{nodes-joined, pairs-joined, rule-joined}
use Rattle.join_sheets.proofs.Together.{join-within, join-assoc}
use Rattle.join_sheets.proofs.JoinStages.{joins, passes, joined_is}
use Rattle.promises.specs.JoinedSheets.{TwoJoined, ThreeJoined, JoinedRight}
use Rattle.promises.proofs.Ranges.{read_alike}

-- Each rule of a book of such rules.
book-joined : (g h : Graph) (book : List (Expr rule)) → JoinableBook book → T (hold_all (joined_graph g h) book) ↔ (T (hold_all g book) × T (hold_all h book))
unfolding JoinableBook hold_all
book-joined g h [] q = ((λ t. (tt, tt)), (λ t. tt))
book-joined g h (K ∷ book) q =
    let k : T (value (joined_graph g h) K) ↔ (T (value g K) × T (value h K)) = rule-joined g h K q.0 in
    let b : T (hold_all (joined_graph g h) book) ↔ (T (hold_all g book) × T (hold_all h book)) = book-joined g h book q.1 in (
      λ t. let (x, y) = both_so (value (joined_graph g h) K) _ t in (so-both (value g K) _ (k.0 x).0 (b.0 y).0, so-both (value h K) _ (k.0 x).1 (b.0 y).1),
      λ t. let (x, y) = both_so (value g K) _ t.0 in let (z, w) = both_so (value h K) _ t.1 in so-both (value (joined_graph g h) K) _ (k.1 (x, z)) (b.1 (y, w)),
    )

keeps-these : (book sheet : List ℕ) (rules : List (Expr rule)) → ask_book (text_limits (graph_of sheet).n) book ≡ passed rules → (k : Keeps book sheet) → T (hold_all (graph_of sheet) rules)
keeps-these book sheet rules e k = subst (λ rs. T (hold_all (graph_of sheet) rs)) (passed-same (sym k.book_read ∙ e)) k.hold

-- Two sheets whose graphs are within the limits.
module _ (first second : List ℕ) (v : Within (graph_of first)) (w : Within (graph_of second)) (e : ask_join first second ≡ passed tt) where
  abbrev g : Graph
  g = graph_of first

  abbrev h : Graph
  h = graph_of second

  within : Within (joined_graph g h)
  within = join-within g h v w (joins first second e).few

  reads : graph_of (joined_sheet first second) ≡ joined_graph g h
  reads = ap graph_of (joined_is first second e) ∙ read_back (joined_graph g h) within

  is-sound : Sound (joined_sheet first second)
  is-sound = ap ask_sheet (joined_is first second e) ∙ stored-passes (joined_graph g h) within

  kept : (book : List ℕ) (n : ℕ) (rules : List (Expr rule)) → ask_book (text_limits n) book ≡ passed rules → JoinableBook rules → Keeps book (joined_sheet first second) ↔ (Keeps book first × Keeps book second)
  kept book n rules r q = (
    (λ k. let t = (book-joined g h rules q).0 (subst (λ x. T (hold_all x rules)) reads (keeps-these book (joined_sheet first second) rules (alike (joined_sheet first second)) k)) in (
      record { sound = (joins first second e).first-sound; rules = rules; book_read = alike first; hold = t.0 },
      record { sound = (joins first second e).second-sound; rules = rules; book_read = alike second; hold = t.1 },
    )),
    (λ k. record {
      sound = is-sound;
      rules = rules;
      book_read = alike (joined_sheet first second);
      hold = subst (λ x. T (hold_all x rules)) (sym reads) ((book-joined g h rules q).1 (keeps-these book first rules (alike first) k.0, keeps-these book second rules (alike second) k.1));
    }),
  ) where
    alike : (sheet : List ℕ) → ask_book (text_limits (graph_of sheet).n) book ≡ passed rules
    alike sheet = read_alike n (graph_of sheet).n book rules q r

  pub two-joined : TwoJoined first second
  two-joined = record {
    sound = is-sound;
    graph_is = reads;
    nodes = λ E q. ap (λ x. value x E) reads ∙ nodes-joined g h E q;
    pairs = λ R q. ap (λ x. value x R) reads ∙ pairs-joined g h R q;
    rule_holds = λ K q. subst (λ x. T (value x K) ↔ (T (value g K) × T (value h K))) (sym reads) (rule-joined g h K q);
    book_kept = kept;
  }

-- Three.
module _ (first second third : List ℕ) (u : Within (graph_of first)) (v : Within (graph_of second)) (w : Within (graph_of third))
    (a : Sound first) (b : Sound second) (c : Sound third) (few : nodes_total first second + (graph_of third).n ≤ max_nodes) where
  one-two : ask_join first second ≡ passed tt
  one-two = passes first second a b (omega arith)

  two-three : ask_join second third ≡ passed tt
  two-three = passes second third b c (omega arith)

  left-n : (graph_of (joined_sheet first second)).n ≡ nodes_total first second
  left-n = unfold joined_graph in ap (λ x. x.n) (reads first second u v one-two)

  right-n : (graph_of (joined_sheet second third)).n ≡ nodes_total second third
  right-n = unfold joined_graph in ap (λ x. x.n) (reads second third v w two-three)

  left : ask_join (joined_sheet first second) third ≡ passed tt
  left = passes (joined_sheet first second) third (is-sound first second u v one-two) c (omega (arith, left-n))

  right : ask_join first (joined_sheet second third) ≡ passed tt
  right = passes first (joined_sheet second third) a (is-sound second third v w two-three) (omega (arith, right-n))

  pub three-joined : ThreeJoined first second third
  three-joined = record {
    from_the_left = (one-two, left);
    from_the_right = (two-three, right);
    same_bytes =
        joined_is (joined_sheet first second) third left
        ∙ ap store (ap (λ x. joined_graph x (graph_of third)) (reads first second u v one-two) ∙ join-assoc (graph_of first) (graph_of second) (graph_of third) ∙ ap (joined_graph (graph_of first)) (sym (reads second third v w two-three)))
        ∙ sym (joined_is first (joined_sheet second third) right);
  }

pub joined-right : JoinedRight
joined-right = record {
  two = λ first second p q e.
      two-joined first second (sound-is-stored present first p (joins first second e).first-sound).within (sound-is-stored present second q (joins first second e).second-sound).within e;
  three = λ first second third p q r a b c few.
      three-joined first second third (sound-is-stored present first p a).within (sound-is-stored present second q b).within (sound-is-stored present third r c).within a b c few;
}
