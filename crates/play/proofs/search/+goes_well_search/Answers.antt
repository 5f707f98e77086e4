use mathlib.Core.List.{[], ◌∷◌}
use mathlib.Core.Path.{refl, ◌∙◌}
use native.Mathlib.Omega.{arith}
use Rattle.play.proofs.Moves.{goes-over, goes_by, goes_not}
use Rattle.play.proofs.Trying.{copy-stands, none_tried, here-stands, no-use, no-edit, found-edit, found_none, found-pass, found-no-pass}
use Rattle.play.proofs.search.+goes_well_search.Goals as goal
use Rattle.play.proofs.search.+goes_well_search.Goals.{search-then-may_leave+else-goes_well, search-else-may_leave}

pub goes_well-holds-requires : goal.goes_well-holds-requires
goes_well-holds-requires t c = let q = c.requires.1 in (c.requires.0, record { what = q.what.goal ∷ []; stand = q.stands.aim })

pub goes_well-returns-then-moves-eq0 : goal.goes_well-returns-then-moves-eq0
goes_well-returns-then-moves-eq0 t c G st = goes-over G _ _ c.args.moves (omega arith) (c.holds.ensures (G.goal ∷ []) st.aim)

pub goes_well-returns-in-Cannot : goal.goes_well-returns-in-Cannot
goes_well-returns-in-Cannot t c G st = goes_by G _ _ c.args.moves (λ z. omega arith) c.search.result (c.search.ensures G st) _ c.in-Cannot.is

pub goes_well-returns-in_default : goal.goes_well-returns-in_default
goes_well-returns-in_default t c G st = goes_not G _ _ c.args.moves (λ z. omega arith) c.search.result (c.search.ensures G st) c.in_default.not-Cannot

pub search-loop-i-init : goal.search-loop-i-init
search-loop-i-init t c = (refl, λ G st. none_tried _ _ _ _ _ _ _ G st _ c.start_of-at.ensures)

-- the next edit stands there
pub search-make-at-requires : goal.search-make-at-requires
search-make-at-requires t c =
    let q = c.requires.1 in
    let here = here-stands _ _ _ _ _ _ _ q.what q.stands _ _ _ (c.loop-i.invariant.1 q.what q.stands) _ c.count_of-count.ensures c.loop-i-test.true in
    (c.requires.0, record { what = _; stands = here }, c.loop-i.invariant.0)

-- and is made on the copy, on which the game stands too
pub search-may_leave-requires : goal.search-may_leave-requires
search-may_leave-requires t c =
    let q = c.requires.1 in
    let here = here-stands _ _ _ _ _ _ _ q.what q.stands _ _ _ (c.loop-i.invariant.1 q.what q.stands) _ c.count_of-count.ensures c.loop-i-test.true in
    (c.make-at.ensures.0, record { what = q.what.book; stand = (copy-stands (c.make-at.ensures.1 _ here) q.stands).rules })

pub search-goes_well-requires : goal.search-goes_well-requires
search-goes_well-requires t c =
    let q = c.requires.1 in
    let here = here-stands _ _ _ _ _ _ _ q.what q.stands _ _ _ (c.loop-i.invariant.1 q.what q.stands) _ c.count_of-count.ensures c.loop-i-test.true in
    (omega (arith, c.decreases, c.requires.2), (c.make-at.ensures.0, record { what = q.what; stands = copy-stands (c.make-at.ensures.1 _ here) q.stands }))

pub search-returns-then-goes_well : goal.search-returns-then-goes_well
search-returns-then-goes_well t c G st =
    let i = c.loop-i.invariant.1 G st in
    let n = c.count_of-count.ensures in
    let l = c.loop-i-test.true in
    let o = c.make-at.ensures.1 _ (here-stands _ _ _ _ _ _ _ G st _ _ _ i _ n l) in
    let k = copy-stands o st in
    found-edit _ _ _ _ _ _ _ G st _ _ _ i _ n l _ _ o _ (c.may_leave.ensures G k.rules) c.if-may_leave.true _ (c.goes_well.ensures G k) c.if-goes_well.true

pub search-loop-i-preserved : goal.search-loop-i-preserved
search-loop-i-preserved t c = (
  c.make-at.auto.copy ∙ c.loop-i.invariant.0,
  λ G st.
      let i = c.loop-i.invariant.1 G st in
      let n = c.count_of-count.ensures in
      let l = c.loop-i-test.true in
      let o = c.make-at.ensures.1 _ (here-stands _ _ _ _ _ _ _ G st _ _ _ i _ n l) in
      let k = copy-stands o st in
      let m = c.may_leave.ensures G k.rules in
      elim c.if-may_leave.branch [
        | search-then-may_leave+else-goes_well w ↦ no-use _ _ _ _ _ _ _ G st _ _ _ i _ n l _ _ o _ m w.if-may_leave.true _ (w.goes_well.ensures G k) w.if-goes_well.false _ w.made-is
        | search-else-may_leave w ↦ no-edit _ _ _ _ _ _ _ G st _ _ _ i _ n l _ _ o _ m w.if-may_leave.false _ w.made-is
      ],
)

-- all of them were tried
pub search-returns-then-goes_well-2 : goal.search-returns-then-goes_well-2
search-returns-then-goes_well-2 t c G st =
    found-pass _ _ _ _ _ _ _ G st _ _ _ (c.loop-i.invariant.1 G st) _ c.count_of-count.ensures c.loop-i.auto.i-end c.loop-i-test.false c.if-not-made.true _ (c.goes_well-then-not-made.ensures G st)
    c.if-goes_well-2.true

pub search-returns : goal.search-returns
search-returns t c G st =
    let n = c.count_of-count.ensures in
    elim c.else-not-made.branch [
      | goal.search-else-not-made-via-then-not-made+else-goes_well-2 w ↦
          found-no-pass _ _ _ _ _ _ _ G st _ _ _ (c.loop-i.invariant.1 G st) _ n c.loop-i.auto.i-end c.loop-i-test.false w.if-not-made.true _ (w.goes_well-then-not-made.ensures G st) w.if-goes_well-2.false
      | goal.search-else-not-made-via-else-not-made w ↦ found_none _ _ _ _ _ _ _ G st _ _ _ (c.loop-i.invariant.1 G st) _ n c.loop-i.auto.i-end c.loop-i-test.false w.if-not-made.false
    ]
