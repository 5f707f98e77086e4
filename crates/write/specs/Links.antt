-- The last step of each name and, for each step on the stack, the previous step of its name.
use Rattle.std.specs.Prelude.{◌≡◌, cond, List, Option, None, Some, ℕ, zero, suc, ◌+◌, ◌<◌, ◌≤◌, length, get_or, set}
use Rattle.tree.specs.Tree.{same}
use Rattle.tree.specs.Stack.{touched}
use Rattle.ends.specs.Shapes.{Named, cell}
use Rattle.ends.specs.Kept.{Kept}
use Rattle.write.specs.Work.{most_steps, links_start, notes_start, work_length, last_of, stack_of, links_of, behind_of}

-- the code and the number of the name that the step at a place touches
abbrev pub code_at : (edit : List ℕ) → ℕ → ℕ
code_at edit o = touched (get_or edit o 0)

abbrev pub number_at : (edit : List ℕ) → ℕ → ℕ
number_at edit o = get_or edit (o + 1) 0

-- what a link holds: one more than the index of a step, or 0 for none
unfoldable pub link_to : Option ℕ → ℕ
link_to None = 0
link_to (Some i) = i + 1

-- the link to the last of h steps that touches a name
unfoldable pub last_in : (edit stack : List ℕ) (h c k : ℕ) → ℕ
last_in edit stack zero c k = 0
last_in edit stack (suc j) c k = cond (same c k (code_at edit (get_or stack j 0)) (number_at edit (get_or stack j 0))) (suc j) (last_in edit stack j c k)

-- for h steps: `last` has the last step of each name, and `links` the previous step of each step's name
pub record Linked (edit stack links last : List ℕ) (h : ℕ) : Type 0 where
  pub lasts : (c k : ℕ) → Named c k → get_or last (cell c k) 0 ≡ last_in edit stack h c k
  pub olders : (j : ℕ) → j < h → get_or links j 0 ≡ last_in edit stack j (code_at edit (get_or stack j 0)) (number_at edit (get_or stack j 0))

abbrev pub LinkedIn : (edit work : List ℕ) (h : ℕ) → Type 0
LinkedIn edit work h = Linked edit (stack_of work) (links_of work) (last_of work) h

-- the same for these steps and perhaps others above them
pub record SomeLinks (edit work : List ℕ) (h : ℕ) : Type 0 where
  pub top : ℕ
  pub high : h ≤ top
  pub room : top ≤ most_steps
  pub long : length work ≡ work_length
  pub linked : LinkedIn edit work top

-- what linking a step leaves: the link of the step on top of h others, and the last step of its name
abbrev pub link_step : (edit : List ℕ) (at h : ℕ) (work : List ℕ) → List ℕ
link_step edit at h work = set (set work (links_start + h) (get_or work (cell (code_at edit at) (number_at edit at)) 0)) (cell (code_at edit at) (number_at edit at)) (h + 1)

-- the same notes
pub record SameNotes (work work' : List ℕ) : Type 0 where
  pub same : (k : ℕ) → notes_start ≤ k → get_or work' k 0 ≡ get_or work k 0

-- the links after a walk on from h steps, the edits that follow, and the notes
pub record Relinked (edit work work' : List ℕ) (h h' : ℕ) : Type 0 where
  pub linked : LinkedIn edit work' h'
  pub kept : Kept h (links_of work) (links_of work')
  pub behind_same : behind_of work' ≡ behind_of work
  pub notes_same : SameNotes work work'

-- there is room for all offsets
pub record Fitting (edit work : List ℕ) : Type 0 where
  pub short : length edit ≤ 4096
  pub long : length work ≡ work_length
