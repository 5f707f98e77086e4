use Rattle.sheet.proofs.ReplacedBlocks.{Upto}
use Rattle.sheet.proofs.BlankSheets.{blank_of}
use Rattle.sheet.proofs.Sheet.blank.Given as goal

abbrev pub invariant-loop-b : goal.invariant-loop-b
invariant-loop-b l = Upto (blank_of l.n) l.buf l.buf l.b
