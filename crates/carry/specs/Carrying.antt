-- Carrying a book back into an output: its size, its questions 31 to 33, and the bytes ("Carrying back" and "The questions" of document 01).
use Rattle.std.specs.Prelude.{List, ℕ, leb, length}
use Rattle.answer.specs.Asked.{Asked, passed, ◌>>=◌, ◌>>◌, is}
use Rattle.answer.specs.Outputs.{written_length, written_output}
use Rattle.logic.specs.Syntax.{Expr, rule}
pub use Rattle.logic.specs.Carry.{carried_book}
use Rattle.logic.specs.Limits.{max_nodes}
use Rattle.text.specs.Code.{book_code}
unfoldable pub use Rattle.text.specs.Code.{book_levels}
use Rattle.text.specs.Reading.{longest_carried, deepest_carried, text_limits}
use Rattle.text.specs.Questions.{ask_book, ask_edit}

-- 31 and 32 for a carried book.
unfoldable pub ask_carried : List (Expr rule) → Asked (Unit {0})
ask_carried carried = do
  is (leb (length (book_code carried)) longest_carried) 31 0
  is (leb (book_levels carried) deepest_carried) 32 0

-- And 33: whether there is room for all of it.
unfoldable pub ask_size : List (Expr rule) → ℕ → Asked (Unit {0})
ask_size carried room = do
  ask_carried carried
  is (leb (length (book_code carried)) room) 33 (length (book_code carried))

-- Carry back: book, then edit, with n as 60, then the size. The result is the bytes to write.
unfoldable pub ask_carry : List ℕ → List ℕ → ℕ → Asked (List ℕ)
ask_carry bookText editText room = do
  book ← ask_book (text_limits max_nodes) bookText
  Z ← ask_edit (text_limits max_nodes) editText
  ask_size (carried_book Z book) room
  passed (book_code (carried_book Z book))

-- Its answer: the length of those bytes.
unfoldable pub carry_answer : (book edit : List ℕ) (room : ℕ) → Asked ℕ
carry_answer book edit room = written_length (ask_carry book edit room)

-- The output afterwards.
unfoldable pub carry_output : (book edit output : List ℕ) → List ℕ
carry_output book edit output = written_output (ask_carry book edit (length output)) output
