-- The edits of a side tried one by one, each on a copy of the sheet.
use mathlib.Core.Path.{◌≡◌, refl, sym, ap, ap₂, ◌∙◌, subst}
use mathlib.Core.Bool.{Bool, true, false, ◌&&◌, ◌||◌, or-true, or-false}
use mathlib.Core.List.{List}
use Prim.Native.Nat.{ℕ, ◌+◌, ◌≤◌, ◌<◌}
use native.Mathlib.Numerals.{add-one}
use native.Mathlib.Decide.{dec_lt}
use native.Mathlib.Omega.{arith}
use lib.ListN.{length, drop, get_or}
use borrow.Author.Tests.{lt-ltb}
use Rattle.logic.specs.Syntax.{Edit, finish}
use Rattle.logic.specs.Graph.{Graph, any_below}
use Rattle.logic.specs.Limits.{ranges}
use Rattle.logic.proofs.Inside.{run-n}
use Rattle.sheet.specs.Sheet.{graph_of}
use Rattle.text.specs.Stands.{EditStands}
use Rattle.game.specs.Game.{Game, pass, edit, edits_of, leaves, may_leave_def, can_make, legal, cannot, first}
use Rattle.game.specs.Search.{side_of, goes_well_def, serves, chosen}
use Rattle.game.proofs.Chosen.{chosen-edit, chosen_last, no-pass, pass-serves}
use Rattle.play.specs.declared.search.Lists.{Lists}
use Rattle.play.specs.Standing.{EditsStand, count_of, start_of, GameStands, OnCopy}
use Rattle.play.proofs.GameEdits.{FromHere, next-stands, others-stand}

-- The first i edits were tried and none served; those that are left stand at `at`, and `made` says whether one could be made.
pub record Trying (edits : List ℕ) (ours : Bool) (m n : ℕ) (g : Graph) (G : Game) (i at : ℕ) (made : Bool) : Type 0 where
  pub left : EditsStand (ranges n) edits at (drop i (edits_of G (side_of ours)))
  pub none : (j : ℕ) → j < i → serves G m ours g (edit j) ≡ false
  pub some-made : made ≡ any_below i (can_make G (side_of ours) g)

-- A game that stands for the n of a sheet stands for that of a copy on which an edit was made.
pub copy-stands : {sheet copy book goal edits : List ℕ} {at next : ℕ} {Z : Edit} {lists : Lists} {G : Game} → OnCopy at Z next sheet copy → GameStands (graph_of sheet).n book goal edits lists G → GameStands (graph_of copy).n book goal edits lists G
copy-stands {sheet} {Z = Z} o s = rw (o.graph, run-n Z (graph_of sheet)) s

module _ (book goal edits : List ℕ) (lists : Lists) (ours : Bool) (m : ℕ) (sheet : List ℕ) (G : Game) (s : GameStands (graph_of sheet).n book goal edits lists G) where
  abbrev g : Graph
  g = graph_of sheet

  abbrev of_side : List Edit
  of_side = edits_of G (side_of ours)

  abbrev Tried : ℕ → ℕ → Bool → Type 0
  Tried i at made = Trying edits ours m g.n g G i at made

  pub none_tried : (at : ℕ) → at ≡ start_of lists ours → Tried 0 at false
  unfolding any_below
  none_tried at e = record { left = subst (λ (x : ℕ). EditsStand (ranges g.n) edits x of_side) (sym e) (s.stand ours); none = λ j l. absurd (omega arith); some-made = refl }

  -- The next of them.
  module _ (i at : ℕ) (made : Bool) (t : Tried i at made) (count : ℕ) (c : count ≡ count_of lists ours) (l : i < count) where
    abbrev here : Edit
    here = get_or of_side i finish

    below : i < length of_side
    below = omega (arith, c, s.counted ours)

    from-here : FromHere (ranges g.n) edits of_side i at
    from-here = record { stand = t.left }

    pub here-stands : EditStands (ranges g.n) edits at here
    here-stands = next-stands from-here below

    module _ (next : ℕ) (copy : List ℕ) (o : OnCopy at here next sheet copy) (can : Bool) (may : can ≡ may_leave_def G (side_of ours) (graph_of copy)) where
      left_here : graph_of copy ≡ leaves G (side_of ours) g (edit i)
      left_here = unfold leaves in o.graph

      can-make : can_make G (side_of ours) g i ≡ can
      can-make = unfold can_make in ap₂ ◌&&◌ (lt-ltb i (length of_side) below) (ap (may_leave_def G (side_of ours)) (sym left_here)) ∙ sym may

      serves-if : (well : Bool) → well ≡ goes_well_def G m ours (graph_of copy) → serves G m ours g (edit i) ≡ (can && well)
      serves-if well w = unfold serves legal in ap₂ ◌&&◌ can-make (ap (goes_well_def G m ours) (sym left_here) ∙ sym w)

      -- It did not serve.
      one_more : (made' : Bool) → made' ≡ (made || can) → serves G m ours g (edit i) ≡ false → Tried (i + 1) next made'
      unfolding any_below
      one_more made' e f =
          record {
            left = (others-stand from-here below o.ends).stand;
            none = λ j k. before j k (dec_lt j i);
            some-made = e ∙ ap₂ ◌||◌ t.some-made (sym can-make) ∙ ap (λ (k : ℕ). any_below k (can_make G (side_of ours) g)) (sym (add-one i));
          } where
            before : (j : ℕ) → j < i + 1 → Dec (j < i) → serves G m ours g (edit j) ≡ false
            before j k (yes b) = t.none j b
            before j k (no b) = let q : j ≡ i = omega arith in ap (λ (x : ℕ). serves G m ours g (edit x)) q ∙ f

      pub no-use : can ≡ true → (well : Bool) → well ≡ goes_well_def G m ours (graph_of copy) → well ≡ false → (made' : Bool) → made' ≡ true → Tried (i + 1) next made'
      no-use e well w f made' q = one_more made' (q ∙ sym (ap (made ||◌) e ∙ or-true made)) (serves-if well w ∙ ap₂ ◌&&◌ e f)

      pub no-edit : can ≡ false → (made' : Bool) → made' ≡ made → Tried (i + 1) next made'
      no-edit e made' q = one_more made' (q ∙ sym (ap (made ||◌) e ∙ or-false made)) (serves-if (goes_well_def G m ours (graph_of copy)) refl ∙ ap (◌&& goes_well_def G m ours (graph_of copy)) e)

      -- It served.
      pub found-edit : can ≡ true → (well : Bool) → well ≡ goes_well_def G m ours (graph_of copy) → well ≡ true → first (edit i) ≡ chosen G m ours g
      found-edit e well w f = sym (chosen-edit G m ours g i below (serves-if well w ∙ ap₂ ◌&&◌ e f) t.none)

  -- All of them.
  module _ (i at : ℕ) (made : Bool) (t : Tried i at made) (count : ℕ) (c : count ≡ count_of lists ours) (few : i ≤ count) (l : count ≤ i) where
    all-tried : i ≡ length of_side
    all-tried = omega (arith, c, s.counted ours)

    none-serves : (j : ℕ) → j < length of_side → serves G m ours g (edit j) ≡ false
    none-serves j k = t.none j (omega (arith, all-tried))

    any-made : any_below (length of_side) (can_make G (side_of ours) g) ≡ made
    any-made = ap (λ (k : ℕ). any_below k (can_make G (side_of ours) g)) (sym all-tried) ∙ sym t.some-made

    pub found_none : made ≡ true → cannot ≡ chosen G m ours g
    found_none e = sym (chosen_last G m ours g none-serves false (no-pass G m ours g (any-made ∙ e)))

    module _ (e : made ≡ false) (well : Bool) (w : well ≡ goes_well_def G m ours g) where
      pass-is : serves G m ours g pass ≡ well
      pass-is = pass-serves G m ours g (any-made ∙ e) ∙ sym w

      pub found-pass : well ≡ true → first pass ≡ chosen G m ours g
      found-pass f = sym (chosen_last G m ours g none-serves true (pass-is ∙ f))

      pub found-no-pass : well ≡ false → cannot ≡ chosen G m ours g
      found-no-pass f = sym (chosen_last G m ours g none-serves false (pass-is ∙ f))
