-- One move: the book judged on a sheet, and an edit made on a copy.
use mathlib.Core.Path.{◌≡◌, refl, sym, ap, ◌∙◌}
use mathlib.Core.Bool.{Bool, true, false, cond, not, beq, and-true}
use mathlib.Core.List.{List, [], ◌∷◌}
use Prim.Native.Nat.{ℕ, suc, ◌-◌}
use native.Mathlib.Omega.{arith}
use lib.ListN.{length}
use Rattle.logic.specs.Syntax.{Expr, rule, Edit}
use Rattle.logic.specs.Graph.{Graph}
use Rattle.logic.specs.Meaning.{value, hold_all}
use Rattle.logic.specs.Steps.{run}
use Rattle.logic.specs.Limits.{ranges}
use Rattle.logic.proofs.Inside.{run_within}
use Rattle.bitset.specs.Words.{Bytes}
use Rattle.sheet.specs.Sheet.{present, sheet_bytes, graph_of}
use Rattle.sheet.specs.Questions.{Sound}
use Rattle.sheet.proofs.BlockLaws.{length-store}
use Rattle.store.proofs.StoredReads.{read_back}
use Rattle.sheet.proofs.SoundSheets.{sound-is-stored}
use Rattle.text.specs.Stands.{EditStands}
use Rattle.apply.specs.Made.{Made}
use Rattle.game.specs.Game.{Game}
use Rattle.game.specs.Search.{goes_well_def, chosen}
use Rattle.game.proofs.Chosen.{is_cannot, well-over, well-more}
use Rattle.play.specs.declared.search.Found.{Found}
use Rattle.play.specs.declared.search.Found.TheVariants.{Cannot, Edit as EditFound, Pass}
use Rattle.play.specs.Standing.{OnCopy, outcome_of}

-- The goal is a book of one rule.
pub one_holds : (g : Graph) (K : Expr rule) → hold_all g (K ∷ []) ≡ value g K
one_holds g K = unfold hold_all in and-true (value g K)

module _ (sheet : List ℕ) (small : Bytes sheet) (sound : Sound sheet) where
  pub sheet-length : length sheet ≡ sheet_bytes
  sheet-length = ap length (sound-is-stored present sheet small sound).stored ∙ length-store present (graph_of sheet)

  -- An edit's steps made on a copy of the sheet leave the graph that they leave.
  pub on-copy : (edits : List ℕ) (at : ℕ) (Z : Edit) (next : ℕ) (copy : List ℕ) → EditStands (ranges (graph_of sheet).n) edits at Z → Made at Z next sheet copy → OnCopy at Z next sheet copy
  on-copy edits at Z next copy s m =
      record { graph = ap graph_of m.sheet_is ∙ read_back (run Z (graph_of sheet)) (run_within (ranges (graph_of sheet).n) Z s.range (graph_of sheet) (sound-is-stored present sheet small sound).within); ends = m.ends }

-- After the last move, by the goal; before it, when no move serves the other side.
module _ (G : Game) (g : Graph) (ours : Bool) (moves : ℕ) where
  pub goes-over : moves ≡ 0 → {reached : Bool} → reached ≡ hold_all g (G.goal ∷ []) → beq reached ours ≡ goes_well_def G moves ours g
  goes-over over aim = ap (λ r. beq r ours) (aim ∙ one_holds g G.goal) ∙ go ours (value g G.goal) ∙ last ours ∙ sym (ap (λ (m : ℕ). goes_well_def G m ours g) over) where
    go : (b v : Bool) → beq v b ≡ cond b v (not v)
    go true true = refl
    go true false = refl
    go false true = refl
    go false false = refl

    last : (b : Bool) → cond b (value g G.goal) (not (value g G.goal)) ≡ goes_well_def G 0 b g
    last true = sym (well-over G g true)
    last false = sym (well-over G g false)

  pub goes_by : (moves ≡ 0 → ⊥) → (f : Found) → outcome_of f ≡ chosen G (moves - 1) (not ours) g → (h : Found) → f ≡ h → is_cannot (outcome_of h) ≡ goes_well_def G moves ours g
  goes_by some f e h q =
      let m : moves ≡ suc (moves - 1) = omega arith in
      ap (λ (x : Found). is_cannot (outcome_of x)) (sym q) ∙ ap is_cannot e ∙ sym (ap (λ (k : ℕ). goes_well_def G k ours g) m ∙ well-more G g (moves - 1) ours)

  pub goes_not : (moves ≡ 0 → ⊥) → (f : Found) → outcome_of f ≡ chosen G (moves - 1) (not ours) g → (f ≡ Cannot → ⊥) → false ≡ goes_well_def G moves ours g
  goes_not some f e n = go f n ∙ goes_by some f e f refl where
    go : (h : Found) → (h ≡ Cannot → ⊥) → false ≡ is_cannot (outcome_of h)
    go Cannot n = absurd (n refl)
    go (EditFound i) n = refl
    go Pass n = refl
