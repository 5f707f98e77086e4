-- The work array, in parts one after the other.
use Rattle.std.specs.Prelude.{List, ℕ, take, drop}

unfoldable pub part : (from n : ℕ) → List ℕ → List ℕ
part from n work = take n (drop from work)

-- one more than the most steps of an edit of 4,096 bytes: each has at least three bytes
abbrev pub most_steps : ℕ
most_steps = 1366

-- where the other parts start, and the whole length
abbrev pub stack_start : ℕ
stack_start = 64

abbrev pub links_start : ℕ
links_start = 1430

abbrev pub behind_start : ℕ
behind_start = 2796

abbrev pub notes_start : ℕ
notes_start = 4844

abbrev pub work_length : ℕ
work_length = 5036

-- the last step of each of the 64 names
abbrev pub last_of : List ℕ → List ℕ
last_of work = part 0 64 work

-- the offsets of the steps passed, and the link of each
abbrev pub stack_of : List ℕ → List ℕ
stack_of work = part stack_start most_steps work

abbrev pub links_of : List ℕ → List ℕ
links_of work = part links_start most_steps work

-- the offsets of the edits that follow
abbrev pub behind_of : List ℕ → List ℕ
behind_of work = part behind_start 2048 work
