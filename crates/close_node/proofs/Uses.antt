-- A node put into the nodes in use or taken out of them: the word, the graph, and the sheet judged with that change.
use mathlib.Core.Path.{◌≡◌, refl, sym, ap, ap₂, ◌∙◌, subst, fun_ext}
use mathlib.Core.Bool.{Bool, true, false, not, ◌&&◌, cond}
use mathlib.Core.List.{List}
use Prim.Native.Nat.{ℕ, ◌≤◌, ◌<◌}
use lib.Dec.{eqb, ltb}
use lib.ListN.{length}
use borrow.Author.Tests.{eqb-true, lt-ltb}
use Rattle.answer.specs.Asked.{Asked, after}
use Rattle.answer.specs.Answers.{asked}
use Rattle.answer.specs.declared.Refusal.{Refusal}
use Rattle.answer.specs.declared.Answer.{Answer}
use Rattle.answer.specs.declared.Answer.TheVariants.{Done, Refused}
use Rattle.logic.specs.Syntax.{Expr, rule}
use Rattle.logic.specs.Graph.{Graph, is_node}
use Rattle.logic.specs.Limits.{Within, ranges}
use Rattle.logic.specs.Steps.{update}
use Rattle.logic.specs.Closing.{with_use, close_node_def, open_node_def, can_close_def}
use Rattle.logic.proofs.Closing.{close_open, open-close, close-within, open-within}
use Rattle.bitset.specs.Words.{Bytes, set_of, member, combined}
use Rattle.bitset.proofs.SetLaws.{set_of-cong, set_of-wide, member_of, member-set_of}
use Rattle.sheet.specs.Sheet.{present, store, graph_of}
use Rattle.sheet.specs.Questions.{Sound}
use Rattle.store.proofs.StoredReads.{read_back}
use Rattle.store.proofs.StoredPasses.{stored-passes}
use Rattle.sheet.proofs.SoundSheets.{sound-is-stored}
use Rattle.judge.specs.Questions.{ask_rules}
use Rattle.judge.specs.Judging.{RulesStand}
use Rattle.close_node.specs.Changing.{set_use, Judged}

-- The word with that node, or without it, by an operation that puts or takes.
module _ (g : Graph) (i : ℕ) (used : Bool) (f : Bool → Bool → Bool) (there : (a : Bool) → f a true ≡ used) (elsewhere : (a : Bool) → f a false ≡ a) where
  pub word-used : (all one x : ℕ) → g.n ≤ 64 → i < g.n → all ≡ set_of g.n (is_node g) → one ≡ set_of 64 (λ j. eqb j i) → x ≡ combined f all one → x ≡ set_of g.n (update g.in_use i used)
  unfolding is_node update
  word-used all one x h l a o e =
      e
      ∙ set_of-cong 64 _ (λ k. ltb k g.n && update g.in_use i used k)
      (λ k m. ap₂ f (ap (λ (y : ℕ). member y k) a ∙ member_of g.n (is_node g) k) (ap (λ (y : ℕ). member y k) o ∙ member-set_of 64 (λ j. eqb j i) k m) ∙ go k (eqb k i) refl)
      ∙ set_of-wide g.n 64 (update g.in_use i used) h where
        twice : (a b : Bool) → (a && (a && b)) ≡ (a && b)
        twice true b = refl
        twice false b = refl

        go : (k : ℕ) (b : Bool) → eqb k i ≡ b → f (ltb k g.n && (ltb k g.n && g.in_use k)) b ≡ (ltb k g.n && cond b used (g.in_use k))
        go k true e = there _ ∙ sym (ap (◌&& used) (ap (λ (j : ℕ). ltb j g.n) (eqb-true k i e) ∙ lt-ltb i g.n l))
        go k false e = elsewhere _ ∙ twice (ltb k g.n) (g.in_use k)

-- A node that is already so; one put back.
pub use-same : (g : Graph) (i : ℕ) (used : Bool) → g.in_use i ≡ used → set_use g i used ≡ g
unfolding update
use-same g i used h = ap (with_use g) (fun_ext (λ x. go x (eqb x i) refl)) where
  go : (x : ℕ) (b : Bool) → eqb x i ≡ b → cond b used (g.in_use x) ≡ g.in_use x
  go x true e = sym h ∙ ap g.in_use (sym (eqb-true x i e))
  go x false e = refl

use-back : (g : Graph) (i : ℕ) (used : Bool) → g.in_use i ≡ not used → set_use (set_use g i used) i (not used) ≡ g
unfolding close_node_def open_node_def
use-back g i true h = open-close g i h
use-back g i false h = close_open g i h

-- The changed graph is within the limits.
pub within-closed : (g : Graph) (i : ℕ) → Within g → can_close_def g i ≡ true → Within (set_use g i false)
within-closed g i w c = unfold close_node_def in close-within g w i c

pub within-opened : (g : Graph) (i : ℕ) → Within g → i < g.n → Within (set_use g i true)
within-opened g i w l = unfold open_node_def in open-within g w i l

-- The sheet t that stores the changed graph, judged in its place.
module _ (sheet book : List ℕ) (i : ℕ) (used : Bool) (within : Within (set_use (graph_of sheet) i used)) (t : List ℕ) (stores : t ≡ store (set_use (graph_of sheet) i used)) where
  abbrev h : Graph
  h = set_use (graph_of sheet) i used

  changed-graph : graph_of t ≡ h
  changed-graph = ap graph_of stores ∙ read_back h within

  pub changed-sound : Sound t
  changed-sound = subst Sound (sym stores) (stored-passes h within)

  pub changed-below : i < (graph_of sheet).n → i < (graph_of t).n
  changed-below l = subst (λ (g : Graph). i < g.n) (sym changed-graph) l

  pub changed-stand : (rules : List (Expr rule)) → RulesStand (ranges (graph_of sheet).n) book 0 (length book) rules → RulesStand (ranges (graph_of t).n) book 0 (length book) rules
  changed-stand rules s = subst (λ (g : Graph). RulesStand (ranges g.n) book 0 (length book) rules) (sym changed-graph) s

  module _ (rules : List (Expr rule)) (a : Answer) (judged : asked a ≡ ask_rules (graph_of t) rules 0) where
    asked_of : ask_rules h rules 0 ≡ asked a
    asked_of = ap (λ (g : Graph). ask_rules g rules 0) (sym changed-graph) ∙ sym judged

    pub judged-done : a ≡ Done → Judged rules h a sheet t
    unfolding after
    judged-done d = record { answer_is = sym asked_of; sheet_is = stores ∙ sym (ap (λ (x : Asked (Unit {0})). after x (λ u. store h) sheet) (asked_of ∙ ap asked d)) }

    pub judged-broken : {r : Refusal} (t' : List ℕ) → Bytes sheet → Sound sheet → (graph_of sheet).in_use i ≡ not used → a ≡ Refused r → t' ≡ store (set_use (graph_of t) i (not used)) → Judged rules h a sheet t'
    unfolding after
    judged-broken t' small sound was d back =
        record {
          answer_is = sym asked_of;
          sheet_is =
              back ∙ ap (λ (g : Graph). store (set_use g i (not used))) changed-graph ∙ ap store (use-back (graph_of sheet) i used was) ∙ sym (sound-is-stored present sheet small sound).stored
              ∙ sym (ap (λ (x : Asked (Unit {0})). after x (λ u. store h) sheet) (asked_of ∙ ap asked d));
        }
