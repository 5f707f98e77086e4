use Rattle.std.proofs.Common.{◌≡◌, sym, ◌∙◌, ap, arith, rules}
use Rattle.answer.specs.Answers.{asked}
use Rattle.answer.specs.Asked.{outcome, after, ◌>>◌, ◌>>=◌}
use Rattle.sheet.specs.Sheet.{graph_of}
use Rattle.pages.specs.Typed.{block_shown, lines_of, head_asked, ask_page, ask_type, typed_sheet}
use Rattle.pages.proofs.TypeLaws.{head-says, head-named}
use Rattle.pages.proofs.typed.type_page.Goals as goal

-- the head names a block
pub read_lines-lines-requires : goal.read_lines-lines-requires
read_lines-lines-requires c =
    let b = block_shown c.in-Some.shown in
    let (has, head) = head-named _ _ b (sym c.head_of.ensures ∙ ap head_asked c.in-Some.is) in
    (search rules, search rules, omega (arith, c.lines_of.ensures.0, (head-says _ _ b head).0), search rules)

pub put_sets-requires : goal.put_sets-requires
put_sets-requires c =
    let (has, head) = head-named _ _ (block_shown c.in-Some.shown) (sym c.head_of.ensures ∙ ap head_asked c.in-Some.is) in
    search rules

pub returns-in_default : goal.returns-in_default
unfolding ask_type typed_sheet outcome after ◌>>◌
returns-in_default c = search rules

pub returns-in_default-head_of : goal.returns-in_default-head_of
unfolding ask_type ask_page typed_sheet outcome after ◌>>◌ ◌>>=◌
returns-in_default-head_of c =
    let none = sym (ap head_asked c.in_default-head_of.is) ∙ c.head_of.ensures in
    search rules

-- the lines are read
pub returns-in_default-lines : goal.returns-in_default-lines
unfolding ask_type ask_page typed_sheet outcome after ◌>>◌ ◌>>=◌
returns-in_default-lines c =
    let named = sym (ap head_asked c.in-Some.is) ∙ c.head_of.ensures in
    let read = c.read_lines-lines.ensures.result_value in
    search rules

pub returns : goal.returns
unfolding ask_type ask_page typed_sheet outcome after ◌>>◌ ◌>>=◌
returns c =
    let b = block_shown c.in-Some.shown in
    let r = c.read_lines-lines.ensures in
    let named = sym (ap head_asked c.in-Some.is) ∙ c.head_of.ensures in
    let m : c.lines_of.result ≡ lines_of (graph_of c.args.sheet.now).n b = c.lines_of.ensures.0 ∙ ap (λ k. lines_of k b) c.node_count-n.ensures.0 in
    let put = c.put_sets.ensures c.args.page.now (λ x i. r.sets_read (ap asked c.in-Done-lines.is) x (omega (arith, m, i))) in
    let read = r.result_value in
    search rules
