-- A round of a replay: what it is at the log's end, at a bad block, at an edit's last block and at another.
use mathlib.Core.Path.{◌≡◌, refl, sym, ◌∙◌, ap, ap₂}
use mathlib.Core.Bool.{Bool, true, false, cond}
use Rattle.std.specs.Prelude.{Some}
use mathlib.Core.List.{List, [], ◌∷◌}
use Prim.Native.Nat.{ℕ, suc, ◌+◌, ◌-◌, ◌≤◌, ◌<◌}
use native.Mathlib.Numerals.{add-one}
use native.Mathlib.Omega.{arith}
use lib.Dec.{ltb}
use lib.ListN.{length, take, drop}
use lib.Seq.{take_at}
use Rattle.answer.specs.Asked.{Asked, passed, refused, ◌>>◌, after}
use Rattle.answer.specs.Outputs.{written_at_start}
use Rattle.answer.proofs.AskedLaws.{then-refused}
use Rattle.logic.proofs.Bools.{true-false, is_false}
use Rattle.printed.specs.Printed.{printed_line, printed_sheet}
use Rattle.log_blocks.specs.Log.{is_last, is_begun, ask_log_block, ask_log_end}
use Rattle.log_blocks.specs.Taken.{kept_behind, ask_taken}
use Rattle.log_blocks.specs.declared.Taken.{Taken}
use Rattle.log_blocks.specs.declared.Taken.TheVariants.{GoesOn, Finished}
use Rattle.log_blocks.specs.Round.{Round, stopped, gathered, answered, block_round, replay_round, edit_then}
use Rattle.log_blocks.proofs.TakeLaws.{begun_kept}
use Rattle.log_blocks.proofs.ReadLaws.{Block, bad, last, more, block-is}
use Rattle.log_blocks.proofs.PassedLaws.{passes}

abbrev answers : (line : List ℕ) (number : ℕ) (sheet : List ℕ) → Round
answers line number sheet = record { line = Some line; goes_on_def = true; number = number; part = []; sheet = sheet }

pub stopped-no-more : (x : Asked (Unit {0})) (number : ℕ) (part sheet : List ℕ) → (stopped x number part sheet).goes_on_def ≡ false
unfolding stopped
stopped-no-more (passed u) number part sheet = refl
stopped-no-more (refused q p) number part sheet = refl

module _ (number : ℕ) (part sheet book : List ℕ) where
  pub at-end : (k : List ℕ) → length k ≡ 0 → replay_round number part sheet book k ≡ stopped (ask_log_end (is_begun part) number) number part sheet
  unfolding replay_round
  at-end [] h = refl
  at-end (b ∷ k) h = absurd (omega arith)

  at_block : (k : List ℕ) → (length k ≡ 0 → ⊥) → replay_round number part sheet book k ≡ block_round number part sheet book k
  unfolding replay_round
  at_block [] h = absurd (h refl)
  at_block (b ∷ k) h = refl

  module _ (k : List ℕ) (some : length k ≡ 0 → ⊥) where
    pub round-bad : (q p : ℕ) → ask_log_block (is_begun part) number k ≡ refused q p → replay_round number part sheet book k ≡ stopped (refused q p) number part sheet
    round-bad q p e = unfold block_round after in cc (at_block k some)

    pub round-last : ask_log_block (is_begun part) number k ≡ passed tt → is_last k ≡ true → replay_round number part sheet book k ≡ answered (suc number) (kept_behind part k) sheet book
    round-last e l = unfold block_round after in cc (at_block k some)

    pub round-more : ask_log_block (is_begun part) number k ≡ passed tt → is_last k ≡ false → replay_round number part sheet book k ≡ gathered (suc number) (kept_behind part k) sheet
    round-more e l = unfold block_round after in cc (at_block k some)

-- what a taken block says about the questions
module _ (before : List ℕ) (number : ℕ) (k : List ℕ) where
  abbrev kept_then_def : ℕ
  kept_then_def = length (kept_behind before k)

  -- the questions passed, and the block is its edit's last or not, with this many bytes then kept
  abbrev Said : Bool → ℕ → Type 0
  Said l n = (ask_log_block (is_begun before) number k ≡ passed tt) × (is_last k ≡ l) × (kept_then_def ≡ n)

  abbrev says : Bool → ℕ → Taken
  says l n = cond l (Finished n) (GoesOn n)

  taken : (x : Asked (Unit {0})) (m : Bool) → ask_log_block (is_begun before) number k ≡ x → is_last k ≡ m → (l : Bool) (n : ℕ) → passed (says l n) ≡ (x >> passed (says m kept_then_def)) → Said l n
  unfolding ◌>>◌
  taken (passed u) true a b true n f = (a, b, (cc))
  taken (passed u) true a b false n f = ((cc), (cc), (cc))
  taken (passed u) false a b true n f = ((cc), (cc), (cc))
  taken (passed u) false a b false n f = (a, b, (cc))
  taken (refused q p) m a b l n f = ((cc), (cc), (cc))

  pub taken-says : (l : Bool) (n : ℕ) → passed (says l n) ≡ ask_taken before number k → Said l n
  taken-says l n e = unfold ask_taken in taken (ask_log_block (is_begun before) number k) (is_last k) refl refl l n e

  bad-taken : (q p : ℕ) → refused q p ≡ ask_taken before number k → ask_log_block (is_begun before) number k ≡ refused q p
  bad-taken q p e = unfold ask_taken in then-refused _ _ (sym e)

-- the bytes of the edit, in its buffer
module _ (edit : List ℕ) (n number : ℕ) where
  abbrev kept-before : List ℕ
  kept-before = take n edit

  pub edit-stays : (k : List ℕ) → length k ≡ 0 → edit ≡ edit_then number kept-before k edit
  unfolding edit_then
  edit-stays [] none = refl
  edit-stays (b ∷ k) none = absurd (omega arith)

  pub edit-then : (k : List ℕ) → (length k ≡ 0 → ⊥) → (out : List ℕ) → out ≡ after (ask_log_block (is_begun kept-before) number k) (λ _. written_at_start (kept_behind kept-before k) edit) edit
      → out ≡ edit_then number kept-before k edit
  unfolding edit_then
  edit-then [] some out o = absurd (some refl)
  edit-then (b ∷ k) some out o = o

-- the round as the code makes it, over the buffer of the kept bytes
module _ (edit : List ℕ) (n number : ℕ) (sheet book : List ℕ) where
  abbrev before : List ℕ
  before = take n edit

  pub round-end-told : (k : List ℕ) → length k ≡ 0 → n ≤ length edit → (x : Asked (Unit {0})) → x ≡ ask_log_end (ltb 0 n) number
      → stopped x number before sheet ≡ replay_round number before sheet book k
  round-end-told k none h x e =
      ap (λ y. stopped y number before sheet) (e ∙ ap (λ b. ask_log_end b number) (begun_kept edit n h)) ∙ sym (at-end number before sheet book k none)

  module _ (k : List ℕ) (some : length k ≡ 0 → ⊥) (out : List ℕ) where
    abbrev Kept : Asked (Unit {0}) → Type 0
    Kept x = out ≡ after x (λ _. written_at_start (kept_behind before k) edit) edit

    module _ (o : Kept (ask_log_block (is_begun before) number k)) where
      unmoved : (q p : ℕ) → ask_log_block (is_begun before) number k ≡ refused q p → out ≡ edit
      unmoved q p e = unfold after in o ∙ ap (λ x. after x (λ _. written_at_start (kept_behind before k) edit) edit) e

      part_then : (m : ℕ) → ask_log_block (is_begun before) number k ≡ passed tt → length (kept_behind before k) ≡ m → take m out ≡ kept_behind before k
      unfolding after
      part_then m e l =
          ap (take m) (o ∙ ap (λ x. after x (λ _. written_at_start (kept_behind before k) edit) edit) e)
          ∙ take_at (kept_behind before k) (drop (length (kept_behind before k)) edit) m l

      pub round-bad-told : (q p : ℕ) → refused q p ≡ ask_taken before number k → stopped (refused q p) number (take n out) sheet ≡ replay_round number before sheet book k
      round-bad-told q p t =
          let e = bad-taken before number k q p t in
          ap (λ x. stopped (refused q p) number (take n x) sheet) (unmoved q p e) ∙ sym (round-bad number before sheet book k some q p e)

      pub round-more-told : (m : ℕ) → passed (GoesOn m) ≡ ask_taken before number k → gathered (number + 1) (take m out) sheet ≡ replay_round number before sheet book k
      round-more-told m t =
          let e = taken-says before number k false m t in
          ap₂ (λ x y. gathered x y sheet) (add-one number) (part_then m e.0 e.2) ∙ sym (round-more number before sheet book k some e.0 e.1)

      -- the part is cut from place 0 to m
      pub round-last-told : (m : ℕ) → passed (Finished m) ≡ ask_taken before number k → (line left : List ℕ) → line ≡ printed_line sheet book (take (m - 0) out) → left ≡ printed_sheet sheet book (take (m - 0) out)
          → answers line (number + 1) left ≡ replay_round number before sheet book k
      round-last-told m t line left a b =
          let e = taken-says before number k true m t in
          let z : m - 0 ≡ m = omega arith in
          let same = ap (λ x. take x out) z ∙ part_then m e.0 e.2 in
          ap₂ (λ x y. answers x (number + 1) y) (a ∙ ap (printed_line sheet book) same) (b ∙ ap (printed_sheet sheet book) same)
          ∙ ap (λ x. answered x (kept_behind before k) sheet book) (add-one number) ∙ sym (round-last number before sheet book k some e.0 e.1)

-- A round that goes on counts the block, whose number is allowed.
module _ (number : ℕ) (part sheet book : List ℕ) where
  pub counts-on : (k : List ℕ) (s : Round) → s ≡ replay_round number part sheet book k → s.goes_on_def ≡ true → (s.number ≡ suc number) × (number ≤ 65534)
  unfolding stopped
  counts-on [] s d e = true-false e (cc (at-end number part sheet book [] refl, stopped-no-more (ask_log_end (is_begun part) number) number part sheet))
  counts-on (b ∷ k) s d e = go (block-is number part (b ∷ k)) where
    some : length (b ∷ k) ≡ 0 → ⊥
    some h = omega arith

    go : Block number part (b ∷ k) → (s.number ≡ suc number) × (number ≤ 65534)
    go (bad q p f) = true-false e (ap (λ (x : Round). x.goes_on_def) (d ∙ round-bad number part sheet book (b ∷ k) some q p f))
    go (last f l) = (ap (λ (x : Round). x.number) (d ∙ round-last number part sheet book (b ∷ k) some f l), (passes (is_begun part) number (b ∷ k) f).low)
    go (more f l) = (ap (λ (x : Round). x.number) (d ∙ round-more number part sheet book (b ∷ k) some f l), (passes (is_begun part) number (b ∷ k) f).low)

  -- nothing is read after a block of a higher number
  pub no_further : (k : List ℕ) → 65534 < number → (replay_round number part sheet book k).goes_on_def ≡ false
  no_further k h = is_false (replay_round number part sheet book k).goes_on_def (λ e. omega (arith, (counts-on k (replay_round number part sheet book k) refl e).1))
