-- An edit carried out on a sound sheet: its questions, and the sheet it leaves.
use mathlib.Core.Path.{◌≡◌, ◌∙◌, ap}
use mathlib.Core.List.{List}
use Prim.Native.Nat.{ℕ}
use Rattle.answer.specs.Asked.{passed, ◌>>◌, after}
use Rattle.logic.specs.Syntax.{Edit}
use Rattle.logic.specs.Graph.{Graph}
use Rattle.logic.specs.Steps.{run}
use Rattle.logic.specs.Limits.{Within}
use Rattle.logic.proofs.Inside.{run-n}
use Rattle.sheet.specs.Sheet.{present, graph_of}
use Rattle.sheet.specs.Questions.{ask_sheet, Sound}
use Rattle.sheet.proofs.SoundSheets.{sound-is-stored}
use Rattle.store.proofs.StoredPasses.{stored-passes}
use Rattle.store.proofs.StoredReads.{read_back}
use Rattle.text.specs.Reading.{text_limits}
use Rattle.text.specs.Questions.{ask_edit}
use Rattle.apply.specs.Apply.{after_steps, ask_apply, applied_sheet}
use Rattle.bitset.specs.Words.{Bytes}
use Rattle.answer.proofs.AskedLaws.{then-passed}
use Rattle.runs.proofs.Runs.{steps-within}

-- An edit that is carried out: its questions, and what it leaves.
pub applied-is : (sheet edit : List ℕ) (Z : Edit) → ask_apply sheet edit ≡ passed Z → applied_sheet sheet edit ≡ after_steps Z sheet
applied-is sheet edit Z e = unfold applied_sheet after in ap (λ x. after x (λ Y. after_steps Y sheet) sheet) e

pub applies : (sheet edit : List ℕ) (Z : Edit) → Sound sheet → ask_edit (text_limits (graph_of sheet).n) edit ≡ passed Z → ask_apply sheet edit ≡ passed Z
applies sheet edit Z s e = unfold ask_apply ◌>>◌ in rw (s, e)

pub applied-read : (sheet edit : List ℕ) (Z : Edit) → ask_apply sheet edit ≡ passed Z → Sound sheet × (ask_edit (text_limits (graph_of sheet).n) edit ≡ passed Z)
applied-read sheet edit Z e = unfold ask_apply in let (u, s, f) = then-passed (ask_sheet sheet) (ask_edit (text_limits (graph_of sheet).n) edit) Z e in (s, f)

-- A sound sheet, and an edit P read for its n: the sheet that P leaves is sound, stores the graph that P's steps leave, and has the same n.
module _ (sheet : List ℕ) (bytes : Bytes sheet) (sound : Sound sheet) (p : List ℕ) (P : Edit) (p-read : ask_edit (text_limits (graph_of sheet).n) p ≡ passed P) where
  abbrev pub graph_after : Graph
  graph_after = run P (graph_of sheet)

  pub after-within : Within graph_after
  after-within = steps-within (graph_of sheet) p P (sound-is-stored present sheet bytes sound).within p-read

  pub after-sound : Sound (after_steps P sheet)
  after-sound = stored-passes graph_after after-within

  pub after-graph : graph_of (after_steps P sheet) ≡ graph_after
  after-graph = read_back graph_after after-within

  pub after-n : (graph_of (after_steps P sheet)).n ≡ (graph_of sheet).n
  after-n = ap (λ g. g.n) after-graph ∙ run-n P (graph_of sheet)
