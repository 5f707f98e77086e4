-- The rewriter, by its questions.
use mathlib.Core.Path.{◌≡◌, sym, ◌∙◌}
use mathlib.Core.List.{List}
use Prim.Native.Nat.{ℕ, ◌≤◌, ◌<◌}
use lib.ListN.{length}
use Rattle.answer.specs.declared.Refusal.{Refusal}
use Rattle.answer.specs.Answers.{refusal_number_def, refusal_place_def}
use Rattle.answer.specs.Asked.{passed, refused, ◌>>=◌, outcome}
use Rattle.answer.proofs.AskedLaws.{passed-same, bind-passed}
use Rattle.answer.specs.Outputs.{ask_room}
use Rattle.answer.proofs.AnswerLaws.{Learned, learned, not-learned}
use Rattle.answer.proofs.OutputLaws.{room-short, room-enough}
use Rattle.logic.specs.Syntax.{rule, Expr}
use Rattle.logic.specs.Limits.{max_nodes}
use Rattle.text.specs.Code.{book_code}
use Rattle.text.specs.Reading.{former_limits_def}
use Rattle.text.specs.Questions.{ask_book}
use Rattle.ends.specs.Books.{BookIs}
use Rattle.ends.proofs.RulePlaces.{book-passed}
use Rattle.rewrite_counts.specs.Rewritten.{rewritten_book, ask_rewritten, ask_rewrite}

-- what was rewritten was read
pub record RewrittenFrom (t bytes : List ℕ) : Type 0 where
  pub rules : List (Expr rule)
  pub read : ask_book (former_limits_def max_nodes) t ≡ passed rules
  pub bytes-are : bytes ≡ book_code (rewritten_book rules)

pub rewritten-from : (t bytes : List ℕ) → ask_rewritten t ≡ passed bytes → RewrittenFrom t bytes
rewritten-from t bytes h = unfold ask_rewritten in let (rules, e, f) = bind-passed _ _ _ h in record { rules = rules; read = e; bytes-are = sym (passed-same f) }

-- 11 to 16
pub book-refused : (book : List ℕ) (r : Refusal) → refused (refusal_number_def r) (refusal_place_def r) ≡ outcome (ask_book (former_limits_def max_nodes) book) → (room : ℕ) → ask_rewrite book room ≡ refused (refusal_number_def r) (refusal_place_def r)
book-refused book r e room = unfold ask_rewrite ask_rewritten ◌>>=◌ in rw (not-learned _ _ _ e)

-- a book that has passed
abbrev pub Read : List ℕ → Type 0
Read book = Learned (ask_book (former_limits_def max_nodes) book)

pub book_read : (book : List ℕ) → passed tt ≡ outcome (ask_book (former_limits_def max_nodes) book) → Read book
book_read book e = learned _ e

module _ {book : List ℕ} (r : Read book) where
  pub book-is : BookIs book r.what
  book-is = book-passed (former_limits_def max_nodes) r.is

  module _ {size : ℕ} (long : (rules : List (Expr rule)) → BookIs book rules → size ≡ length (book_code (rewritten_book rules))) (room : ℕ) where
    to_room : ask_rewrite book room ≡ ask_room (book_code (rewritten_book r.what)) room
    to_room = unfold ask_rewrite ask_rewritten ◌>>=◌ in rw r.is

    -- 33
    pub short : room < size → ask_rewrite book room ≡ refused 33 size
    short h = to_room ∙ room-short _ room size (long r.what book-is) h

    pub enough : size ≤ room → ask_rewrite book room ≡ passed (book_code (rewritten_book r.what))
    enough h = to_room ∙ room-enough _ room size (long r.what book-is) h
