use mathlib.Core.Path.{ap, ◌∙◌}
use Rattle.logic.specs.Graph.{Graph}
use Rattle.logic.specs.Meaning.{hold_all}
use Rattle.count_small.proofs.SmallBuffer.{loaded-sound, rules-on, edit-on, small-loaded, small-graph, left-loaded, left-graph}
use Rattle.count_small.proofs.small.turn.Goals as goal

pub holds-before-requires : goal.holds-before-requires
holds-before-requires c =
    let q = c.requires.3 in
    let put = small-loaded c.args.n c.requires.1 c.requires.2 c.args.x _ c.put_small.ensures in
    (loaded-sound _ _ put, record { what = q.rules; stand = rules-on _ _ put _ _ q.stand.rules_stand })

pub run_edit-requires : goal.run_edit-requires
run_edit-requires c =
    let q = c.requires.3 in
    let put = small-loaded c.args.n c.requires.1 c.requires.2 c.args.x _ c.put_small.ensures in
    (loaded-sound _ _ put, record { what = q.what; stands = edit-on _ _ put _ _ q.stand.edit_stands })

pub holds-next-requires : goal.holds-next-requires
holds-next-requires c =
    let q = c.requires.3 in
    let s = q.stand in
    let e = c.put_small.ensures in
    let put = small-loaded c.args.n c.requires.1 c.requires.2 c.args.x _ e in
    let made = c.run_edit.ensures.1 q.what (edit-on _ _ put _ _ s.edit_stands) in
    let left = left-loaded c.args.n c.requires.1 c.requires.2 c.args.x q.what s.edit_stands.range s.first _ _ _ e made in
    (loaded-sound _ _ left, record { what = q.rules; stand = rules-on _ _ left _ _ s.rules_stand })

pub returns : goal.returns
returns c =
    let q = c.requires.3 in
    let e = c.put_small.ensures in
    let put = small-loaded c.args.n c.requires.1 c.requires.2 c.args.x _ e in (
      left-loaded c.args.n c.requires.1 c.requires.2 c.args.x q.what q.stand.edit_stands.range q.stand.first _ _ _ e (c.run_edit.ensures.1 q.what (edit-on _ _ put _ _ q.stand.edit_stands)),
      λ rules Z s.
          let made = c.run_edit.ensures.1 Z (edit-on _ _ put _ _ s.edit_stands) in
          let left = left-loaded c.args.n c.requires.1 c.requires.2 c.args.x Z s.edit_stands.range s.first _ _ _ e made in
          record {
            before_is = c.holds-before.ensures rules (rules-on _ _ put _ _ s.rules_stand) ∙ ap (λ (g : Graph). hold_all g rules) (small-graph c.args.n c.requires.1 c.requires.2 c.args.x _ e);
            next_is = c.holds-next.ensures rules (rules-on _ _ left _ _ s.rules_stand)
                ∙ ap (λ (g : Graph). hold_all g rules) (left-graph c.args.n c.requires.1 c.requires.2 c.args.x Z s.edit_stands.range s.first _ _ _ e made);
          },
    )
