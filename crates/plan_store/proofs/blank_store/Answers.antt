use Rattle.std.proofs.Common.{◌≡◌, refl, ap, ◌∙◌, ℕ, length, replicate}
use borrow.Author.Tests.{eq-eqb, ne_eqb}
use Rattle.answer.specs.Asked.{is}
use Rattle.answer.specs.declared.Refusal.TheVariants.{StoreBytes}
use Rattle.plan_store.specs.Store.{store_bytes}
use Rattle.plan_store.specs.Questions.{ask_blank_store}
use Rattle.plan_store.specs.Calls.{blank_store_def}
use Rattle.plan_store.proofs.StoreWrites.{blanked}
use Rattle.plan_store.proofs.StoreStages.{stops, goes}
use Rattle.plan_store.proofs.blank_store.Goals as goal

pub returns-then-store-ne-BYTES : goal.returns-then-store-ne-BYTES
unfolding blank_store_def ask_blank_store is
returns-then-store-ne-BYTES c =
    let w = stops _ _ _ {r = StoreBytes 0} refl (rw (ne_eqb _ store_bytes c.if-store-ne-BYTES.true)) in
    record { result_value = w.0; store_after = w.1 }

-- the store is wiped, and its head sealed
pub returns : goal.returns
unfolding blank_store_def ask_blank_store is
returns c =
    let wiped = c.wipe.new.s in
    let whole = c.if-store-ne-BYTES.false in
    let size : length wiped ≡ store_bytes = c.wipe.auto.s ∙ whole in
    let made = blanked wiped size (c.wipe.ensures ∙ ap (λ (m : ℕ). replicate m 0) whole) _ c.seal.ensures in
    let w = goes _ _ _ (rw (eq-eqb _ store_bytes whole)) made in
    record { result_value = w.0; store_after = w.1 }
