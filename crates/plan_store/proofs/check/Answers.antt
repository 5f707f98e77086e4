use Rattle.std.proofs.Common.{sym, ◌∙◌}
use Rattle.logic.proofs.Below.{all_none, all-next, all_end, all-each}
use Rattle.plan_store.specs.Store.{plan_count}
use Rattle.plan_store.proofs.Asks.{store-short, store-head, store-place, store-sound}
use Rattle.plan_store.proofs.check.Goals as goal
use Rattle.plan_store.proofs.check.Goals.{then-store-ne-BYTES-via-then-store-ne-BYTES, then-store-ne-BYTES-via-else-store-ne-BYTES+then-not-head_right}

pub returns-then-store-ne-BYTES : goal.returns-then-store-ne-BYTES
returns-then-store-ne-BYTES c =
    elim c.then-store-ne-BYTES.branch [
      | then-store-ne-BYTES-via-then-store-ne-BYTES w ↦ store-short _ w.if-store-ne-BYTES.true
      | then-store-ne-BYTES-via-else-store-ne-BYTES+then-not-head_right w ↦ store-head _ (sym w.head_right.ensures ∙ w.if-not-head_right.true)
    ]

pub loop-i-init : goal.loop-i-init
loop-i-init c = all_none _

pub returns-then-not-place_right : goal.returns-then-not-place_right
returns-then-not-place_right c = store-place _ c.loop-i.i c.loop-i-test.true (sym c.place_right.ensures ∙ c.if-not-place_right.true)

pub loop-i-preserved : goal.loop-i-preserved
loop-i-preserved c = all-next _ c.loop-i.i c.loop-i.invariant (sym c.place_right.ensures ∙ c.if-not-place_right.false)

pub returns : goal.returns
returns c =
    let l = c.loop-i in
    store-sound _ (record {
      size = c.if-store-ne-BYTES.false;
      head = sym c.head_right.ensures ∙ c.if-not-head_right.false;
      places = all-each plan_count _ (all_end _ plan_count l.i l.auto.i-end c.loop-i-test.false l.invariant);
    })
