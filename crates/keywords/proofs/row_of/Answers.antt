use mathlib.Core.Path.{refl}
use borrow.Author.Rules.{rules}
use Rattle.keywords.specs.Rows.{row_table, closing_of, row_of}
use Rattle.keywords.proofs.PhraseRows.{row_small}
use Rattle.keywords.proofs.PickLaws.{phrase-below}
use Rattle.keywords.proofs.row_of.Goals as goal

pub offset_bounds-p : goal.offset_bounds-p
offset_bounds-p c = let h = phrase-below c.args.item c.args.p c.requires in search rules

pub bounds-p : goal.bounds-p
bounds-p c = let h = phrase-below c.args.item c.args.p c.requires in search rules

pub overflow_add-result : goal.overflow_add-result
unfolding row_of row_table closing_of
overflow_add-result c = record { fits = row_small c.args.item c.args.p }

pub returns : goal.returns
unfolding row_of row_table closing_of
returns c = refl
