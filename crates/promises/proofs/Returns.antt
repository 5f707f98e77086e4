-- A return that is done leaves a sheet that keeps the book passed to it, whatever the sheet before: the kept sheet was judged.
use mathlib.Core.Path.{◌≡◌}
use mathlib.Core.List.{List}
use Prim.Native.Nat.{ℕ, ◌-◌}
use Rattle.answer.specs.Asked.{passed}
use Rattle.answer.proofs.AskedLaws.{bind-passed}
use Rattle.bitset.specs.Words.{Bytes}
use Rattle.sheet.specs.Sheet.{sheet_bytes, graph_of}
use Rattle.text.specs.Reading.{text_limits}
use Rattle.text.specs.Questions.{ask_book}
use Rattle.judge.proofs.QuestionLaws.{asked-hold}
use Rattle.plan_store.specs.Store.{place_start, place_in}
use Rattle.plan_store.specs.Questions.{ask_kept, ask_return}
use Rattle.plan_store.proofs.StoreLaws.{place-sound}
use Rattle.bitset.proofs.WordLaws.{part_small}
use Rattle.promises.proofs.EventKept.{Good}
use Rattle.promises.proofs.GivenBack.{return-told}

-- "and a new run opens there"
pub place-good : (book sheet t : List ℕ) (v : ℕ) → Bytes t → ask_return sheet t v book ≡ passed tt → Good book (place_in t (v - 1))
unfolding ask_kept
place-good book sheet t v b e =
    let (k, judged) = return-told sheet t book v e in
    let kept = place_in t (v - 1) in
    let (rules, read, hold) = bind-passed (ask_book (text_limits (graph_of kept).n) book) _ tt judged in
    record {
      bytes = part_small t sheet_bytes (place_start (v - 1)) b;
      keeps = record { sound = place-sound t b k.named.sound (v - 1) k.place k.held; rules = rules; book_read = read; hold = asked-hold (graph_of kept) rules 0 hold };
    }
