-- A rule and a book carried back through an edit, written into a buffer.
use Rattle.std.specs.Prelude.{◌≡◌, List, [], ℕ, ◌+◌, ◌*◌, ◌≤◌, length}
use Rattle.logic.specs.Syntax.{rule, Expr, Edit}
use Rattle.logic.specs.Carry.{carry, carried_book}
use Rattle.text.specs.Code.{code, book_code}
use Rattle.ends.specs.Edits.{EditAt}
use Rattle.ends.specs.Books.{RuleAt, BookIs}
use Rattle.write.specs.Laid.{Wrote}
use Rattle.write.specs.Work.{stack_of, behind_of}
use Rattle.write.specs.Links.{LinkedIn}
use Rattle.write.specs.Ways.{SameWay, Noted}

-- some rule and some edit stand in their texts, and the carried rule fits a buffer of `room` bytes from `pos` on
pub record SomeRuleFits (text : List ℕ) (at : ℕ) (edit : List ℕ) (from pos room : ℕ) : Type 0 where
  pub K : Expr rule
  pub K-at : RuleAt text at K
  pub Z : Edit
  pub Z-at : EditAt edit from Z
  pub fits : pos + length (code (carry Z K)) ≤ room

-- All rules go through an edit in the same way up to its first 35, or its end: a walk from its start rests there, and the work array is as the walk left it.
pub record Started (edit : List ℕ) (from : ℕ) (work : List ℕ) (at h d : ℕ) : Type 0 where
  pub each : (Z : Edit) → EditAt edit from Z → SameWay edit (stack_of work) (behind_of work) at h d [] Z []
  pub low : 3 * h ≤ at
  pub low_behind : 2 * d ≤ at
  pub linked : LinkedIn edit work h
  pub noted : Noted edit work

-- some rule fits, from where such a walk rests
pub record SomeRuleLeft (text : List ℕ) (place : ℕ) (edit work : List ℕ) (at h d pos room : ℕ) : Type 0 where
  pub from : ℕ
  pub started : Started edit from work at h d
  pub fits : SomeRuleFits text place edit from pos room

-- what writing a carried rule leaves: the place after the rule, the position after its bytes, and the buffer
pub record RuleWritten (Z : Edit) (K : Expr rule) (at : ℕ) (o : List ℕ) (pos at' pos' : ℕ) (o' : List ℕ) : Type 0 where
  pub read : at' ≡ at + length (code K)
  pub wrote : Wrote o pos (code (carry Z K)) pos' o'

-- the same for a book, from the buffer's start
pub record SomeBookFits (book edit : List ℕ) (from room : ℕ) : Type 0 where
  pub rules : List (Expr rule)
  pub is : BookIs book rules
  pub Z : Edit
  pub Z-at : EditAt edit from Z
  pub fits : length (book_code (carried_book Z rules)) ≤ room

abbrev pub BookWritten : (Z : Edit) (rules : List (Expr rule)) (o : List ℕ) (len : ℕ) (o' : List ℕ) → Type 0
BookWritten Z rules o len o' = Wrote o 0 (book_code (carried_book Z rules)) len o'
