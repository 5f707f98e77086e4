-- Rewriting twice is rewriting once.
use mathlib.Core.Path.{◌≡◌, ◌∙◌, ap}
use mathlib.Core.List.{List}
use Prim.Native.Nat.{ℕ}
use native.Mathlib.Omega.{arith}
use Rattle.answer.specs.Asked.{passed}
use Rattle.logic.specs.Syntax.{Sort, Expr}
use Rattle.logic.specs.Limits.{max_nodes, former_ranges, InRange}
use Rattle.text.specs.Reading.{text_limits}
use Rattle.text.specs.Questions.{ask_book}
use Rattle.rewrite_counts.specs.Rewritten.{rewritten, rewritten_book, ask_rewritten}
use Rattle.rewrite_counts.proofs.Rewriting.{rewritten-from}
use Rattle.rewrite_counts.proofs.RewrittenPasses.{rewritten-in, rewritten-passes}
use Rattle.rewrite_counts.proofs.LeftAlone.{kept, left_alone}

-- for every term that a stored book can hold
pub twice-is-once : (n : ℕ) {s : Sort} (e : Expr s) → InRange (former_ranges n) e → rewritten (rewritten e) ≡ rewritten e
twice-is-once n e h = kept n (rewritten e) (rewritten-in n e h)

-- and for bytes
pub rewritten-again : (t bytes : List ℕ) → ask_rewritten t ≡ passed bytes → ask_rewritten bytes ≡ passed bytes
rewritten-again t bytes h =
    let s = rewritten-from t bytes h in
    left_alone max_nodes (omega arith) bytes (rewritten_book s.rules) (ap (ask_book (text_limits max_nodes)) s.bytes-are ∙ rewritten-passes max_nodes t s.rules s.read)
