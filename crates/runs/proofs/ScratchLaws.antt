-- A scratch that holds one carried rule at a time: 31 to 33 by its room, their refusals, and what the writings leave in it.
use mathlib.Core.Path.{◌≡◌, refl, sym, ap, ◌∙◌}
use mathlib.Core.Bool.{Bool, true, false}
use mathlib.Core.List.{List, [], ◌∷◌, ◌++◌}
use Prim.Native.Nat.{ℕ, suc, ◌+◌, ◌-◌, ◌≤◌, ◌<◌}
use native.Mathlib.Omega.{arith}
use lib.ListN.{length, take, drop, length-append, length-drop}
use lib.Seq.{take-append_seam, drop-append-add, drop-drop}
use Rattle.answer.specs.Asked.{passed, refused, Asked, ◌>>◌, is}
use Rattle.answer.specs.Outputs.{written_at_start}
use Rattle.answer.proofs.AskedLaws.{refused-not-passed, is-so, is-not, is-yes, is-then, then-on, then-ends, then-passed}
use Rattle.logic.specs.Syntax.{rule, Expr}
use Rattle.logic.specs.Graph.{Graph}
use Rattle.logic.specs.Meaning.{value}
use Rattle.judge.specs.Questions.{ask_rules}
use Rattle.judge.proofs.QuestionLaws.{rule_holds, rule-broken}
use Rattle.runs.specs.Scratch.{longest, longest_rule_def, up_to_broken, overwritten, ask_scratch}
use mathlib.Core.Logic.{◌≢◌}
use lib.Dec.{leb}
use borrow.Author.Tests.{leb-true, leb-false, le-leb, lt-leb}
use Rattle.text.specs.Code.{book_code, book_levels, code}
use Rattle.text.specs.Reading.{longest_carried, deepest_carried}
use Rattle.carry.specs.Carrying.{ask_carried}
use Rattle.carry.proofs.CarriedSizes.{sized}
use Rattle.answer.proofs.Refusals.{Refuses, is-refuses, asked-refuses, wider}

-- no rule is longer than the book
pub longest-short : (rules : List (Expr rule)) → longest_rule_def rules ≤ length (book_code rules)
unfolding longest book_code
longest-short [] = omega arith
longest-short (K ∷ rules) = omega (arith, longest-short rules, length-append (code K) (book_code rules))

-- 31 to 33 by the room: where the answer is not 33, the room does not matter.
pub split : (m n : ℕ) {P : Type 0} → (m ≤ n → P) → (n < m → P) → P
split m n {P} f g = go (leb m n) (leb-true m n) (leb-false m n) where
  go : (b : Bool) → (b ≡ true → m ≤ n) → (b ≡ false → n < m) → P
  go true t u = f (t refl)
  go false t u = g (u refl)

module _ (carried : List (Expr rule)) (room : ℕ) where
  pub scratch_is : ask_scratch carried room ≡ sized (length (book_code carried)) (book_levels carried) (longest_rule_def carried) room
  scratch_is = unfold ask_carried ask_scratch sized ◌>>◌ in refl

  pub passed-fits : ask_scratch carried room ≡ passed tt → longest_rule_def carried ≤ room
  passed-fits e = unfold ask_scratch in let (u, asked, fits) = then-passed (ask_carried carried) _ tt e in leb-true _ room (is-yes _ 33 _ fits)

-- The refusals of 31 and 32; once they have passed, 33 by the length needed and the room.
pub carried-refuses : (carried : List (Expr rule)) → Refuses 31 32 0 (ask_carried carried)
carried-refuses carried = unfold ask_carried in asked-refuses _ (omega arith) (omega arith) (omega arith) (λ e. is-refuses _ (omega arith) (omega arith) (omega arith))

module _ (carried : List (Expr rule)) (e : ask_carried carried ≡ passed tt) where
  pub carried-short : length (book_code carried) ≤ longest_carried
  carried-short = unfold ask_carried in leb-true _ longest_carried (is-then _ 31 0 _ e).0

  module _ (needed room : ℕ) where
    pub long-enough : needed ≤ room → (ask_carried carried >> is (leb needed room) 33 needed) ≡ passed tt
    long-enough l = then-on e _ ∙ is-so 33 needed (le-leb needed room l)

    pub too_short : room < needed → (ask_carried carried >> is (leb needed room) 33 needed) ≡ refused 33 needed
    too_short l = then-on e _ ∙ is-not 33 needed (lt-leb needed room l)

-- Where the answer is not 33, it is that of a room in which every carried book fits.
pub any-room : (carried : List (Expr rule)) (room : ℕ) → ((p : ℕ) → ask_scratch carried room ≢ refused 33 p) → ask_scratch carried room ≡ ask_scratch carried longest_carried
unfolding ask_scratch
any-room carried room not-33 = go (ask_carried carried) refl where
  go : (x : Asked (Unit {0})) → ask_carried carried ≡ x → ask_scratch carried room ≡ ask_scratch carried longest_carried
  go (refused q p) e = then-ends e _ ∙ sym (then-ends e _)
  go (passed u) e =
      split (longest_rule_def carried) room (λ l. long-enough carried e _ room l ∙ sym (long-enough carried e (longest_rule_def carried) longest_carried (omega (arith, longest-short carried, carried-short carried e))))
      (λ l. absurd (not-33 _ (too_short carried e _ room l)))

-- The refusals of a scratch: 31 and 32, place 0, and 33, whose place is the length of a rule of a book that 31 has let pass.
pub scratch-refuses : (carried : List (Expr rule)) (room : ℕ) → Refuses 31 33 longest_carried (ask_scratch carried room)
unfolding ask_scratch ◌>>◌
scratch-refuses carried room = go (ask_carried carried) refl (carried-refuses carried) where
  go : (x : Asked (Unit {0})) → ask_carried carried ≡ x → Refuses 31 32 0 x → Refuses 31 33 longest_carried (x >> is (leb (longest_rule_def carried) room) 33 (longest_rule_def carried))
  go (passed u) e h = is-refuses _ (omega arith) (omega arith) (omega (arith, longest-short carried, carried-short carried e))
  go (refused q p) e h = wider (omega arith) (omega arith) (omega arith) h

-- What writings leave in a buffer: the last text at its start, and the earlier bytes from the longest text on.
-- One text.
pub length-written : (bytes buffer : List ℕ) → length bytes ≤ length buffer → length (written_at_start bytes buffer) ≡ length buffer
length-written bytes buffer h = omega (arith, h, length-append bytes (drop (length bytes) buffer), length-drop (length bytes) buffer)

rest-written : (bytes buffer : List ℕ) (k : ℕ) → length bytes ≤ k → drop k (written_at_start bytes buffer) ≡ drop k buffer
rest-written bytes buffer k h =
    let e : k ≡ length bytes + (k - length bytes) = omega arith in
    ap (λ n. drop n (written_at_start bytes buffer)) e
    ∙ drop-append-add bytes (drop (length bytes) buffer) (k - length bytes)
    ∙ drop-drop (k - length bytes) (length bytes) buffer
    ∙ ap (λ n. drop n buffer) (sym e)

-- All texts.
pub length-stays : (texts : List (List ℕ)) (buffer : List ℕ) → longest texts ≤ length buffer → length (overwritten texts buffer) ≡ length buffer
unfolding longest overwritten
length-stays [] buffer h = refl
length-stays (text ∷ texts) buffer h =
    let one : length (written_at_start text buffer) ≡ length buffer = length-written text buffer (omega (arith, h)) in
    length-stays texts (written_at_start text buffer) (omega (arith, h, one)) ∙ one

pub rest-stays : (texts : List (List ℕ)) (buffer : List ℕ) (k : ℕ) → longest texts ≤ k → drop k (overwritten texts buffer) ≡ drop k buffer
unfolding longest overwritten
rest-stays [] buffer k h = refl
rest-stays (text ∷ texts) buffer k h = rest-stays texts (written_at_start text buffer) k (omega (arith, h)) ∙ rest-written text buffer k (omega (arith, h))

last-over : (texts : List (List ℕ)) (text buffer : List ℕ) → overwritten (texts ++ (text ∷ [])) buffer ≡ written_at_start text (overwritten texts buffer)
unfolding overwritten
last-over [] text buffer = refl
last-over (first ∷ texts) text buffer = last-over texts text (written_at_start first buffer)

pub last-at-start : (texts : List (List ℕ)) (text buffer : List ℕ) → take (length text) (overwritten (texts ++ (text ∷ [])) buffer) ≡ text
last-at-start texts text buffer = ap (take (length text)) (last-over texts text buffer) ∙ take-append_seam text (drop (length text) (overwritten texts buffer))

-- Which rules are written, by the answer to 41.
module _ (g : Graph) where
  pub longest-written : (rules : List (Expr rule)) → longest_rule_def (up_to_broken g rules) ≤ longest_rule_def rules
  unfolding longest up_to_broken
  longest-written [] = omega arith
  longest-written (K ∷ rules) = go (value g K) (longest-written rules) where
    go : (b : Bool) → longest_rule_def (up_to_broken g rules) ≤ longest_rule_def rules → longest_rule_def (K ∷ elim b [ true ↦ up_to_broken g rules | false ↦ [] ]) ≤ longest_rule_def (K ∷ rules)
    go true h = omega (arith, h)
    go false h = omega arith

  module _ (K : Expr rule) (rules : List (Expr rule)) (i : ℕ) (holds : value g K ≡ true) where
    written_on : up_to_broken g (K ∷ rules) ≡ K ∷ up_to_broken g rules
    written_on = unfold up_to_broken in rw (holds, up_to_broken)

  -- Rule `place`, counted from i, is the first that is broken.
  pub record Broken (rules : List (Expr rule)) (i place : ℕ) : Type 0 where
    pub before : List (Expr rule)
    pub last : Expr rule
    pub others : List (Expr rule)
    pub rules_are : rules ≡ before ++ (last ∷ others)
    pub place_is : i + length before ≡ place
    pub written : up_to_broken g rules ≡ before ++ (last ∷ [])

  pub broken-at : (rules : List (Expr rule)) (i q p : ℕ) → ask_rules g rules i ≡ refused q p → Broken rules i p
  unfolding ask_rules up_to_broken
  broken-at [] i q p e = refused-not-passed (sym e)
  broken-at (K ∷ rules) i q p e = go (value g K) refl (λ h. broken-at rules (suc i) q p h) where
    go : (b : Bool) → value g K ≡ b → (ask_rules g rules (suc i) ≡ refused q p → Broken rules (suc i) p) → Broken (K ∷ rules) i p
    go true v more =
        let b : Broken rules (suc i) p = more (sym (rule_holds g K rules i v) ∙ e) in
        record {
          before = K ∷ b.before;
          last = b.last;
          others = b.others;
          rules_are = ap (K ∷◌) b.rules_are;
          place_is = omega (arith, b.place_is);
          written = written_on K rules i v ∙ ap (K ∷◌) b.written;
        }
    go false v more =
        let here : i ≡ p = cc (rule-broken g K rules i v) in
        record { before = []; last = K; others = rules; rules_are = refl; place_is = omega (arith, here); written = rw (v, up_to_broken) }

  pub all-written : (rules : List (Expr rule)) (i : ℕ) → ask_rules g rules i ≡ passed tt → up_to_broken g rules ≡ rules
  unfolding ask_rules up_to_broken
  all-written [] i e = refl
  all-written (K ∷ rules) i e = go (value g K) refl (λ h. all-written rules (suc i) h) where
    go : (b : Bool) → value g K ≡ b → (ask_rules g rules (suc i) ≡ passed tt → up_to_broken g rules ≡ rules) → up_to_broken g (K ∷ rules) ≡ K ∷ rules
    go true v more = written_on K rules i v ∙ ap (K ∷◌) (more (sym (rule_holds g K rules i v) ∙ e))
    go false v more = refused-not-passed (sym (rule-broken g K rules i v) ∙ e)
