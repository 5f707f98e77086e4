-- Item 10 of document 02 changed only 33; and the scratch decides nothing else.
use mathlib.Core.Path.{◌≡◌, refl, sym, ◌∙◌, ap}
use mathlib.Core.Logic.{◌≢◌, ◌⊎◌, inl, inr, ⊎_elim}
use mathlib.Core.List.{List}
use Prim.Native.Nat.{ℕ, ◌<◌, ◌≤◌}
use native.Mathlib.Omega.{arith}
use lib.ListN.{length}
use lib.Dec.{leb}
use Rattle.answer.specs.Asked.{Asked, passed, refused, ◌>>=◌, ◌>>◌, is, after, outcome}
use Rattle.answer.proofs.AskedLaws.{refused-not-passed, then-ends, outcome-ends}
use Rattle.answer.proofs.Refusals.{Refuses, passes, refuses, outcome-refuses, then-refuses}
use Rattle.logic.specs.Syntax.{Expr, rule, Edit}
use Rattle.logic.specs.Carry.{carried_book}
use Rattle.sheet.specs.Sheet.{graph_of}
use Rattle.text.specs.Code.{book_code}
use Rattle.text.specs.Reading.{longest_text, longest_carried, text_limits}
use Rattle.text.specs.Questions.{ask_edit}
use Rattle.text.proofs.TextRefusals.{edit-refuses}
use Rattle.judge.specs.Questions.{ask_sheet_and_book, ask_rules}
use Rattle.judge.proofs.RuleRefusals.{rules-refuse}
use Rattle.carry.specs.Carrying.{ask_carried, ask_size}
use Rattle.runs.specs.Scratch.{longest_rule_def, ask_scratch}
use Rattle.runs.proofs.ScratchLaws.{longest-short, split, carried-refuses, carried-short, long-enough, too_short, any-room}
use Rattle.runs.proofs.OneCall.{in_order}
use Rattle.apply.specs.Apply.{after_steps}
use Rattle.runs.specs.Enter.{ask_enter, enter_answer, enter_sheet}
use Rattle.runs.specs.Former.{former_enter, former_answer, former_sheet}
use Rattle.runs.specs.Unmoved.{AsBefore, StillShort, Unmoved}
use Rattle.runs.proofs.EnterRefusals.{sheet-and-book-refuse, refused-between}

-- 31 to 33 for a carried book, by the longest rule and by the whole book.
module _ (carried : List (Expr rule)) (room : ℕ) where
  abbrev whole : ℕ
  whole = length (book_code carried)

  -- both refuse with a number other than 33, both pass, or only the whole is too long
  pub record Alike : Type 0 where
    pub same : ask_scratch carried room ≡ ask_size carried room
    pub other : (p : ℕ) → ask_size carried room ≢ refused 33 p

  pub record Longer : Type 0 where
    pub size : ask_size carried room ≡ refused 33 whole
    pub now : ((ask_scratch carried room ≡ passed tt) × (ask_size carried whole ≡ passed tt)) ⊎ ((ask_scratch carried room ≡ refused 33 (longest_rule_def carried)) × (room < longest_rule_def carried))

  pub compared : Alike ⊎ Longer
  unfolding ask_scratch ask_size
  compared = go (ask_carried carried) refl (carried-refuses carried) where
    go : (x : Asked (Unit {0})) → ask_carried carried ≡ x → Refuses 31 32 0 x → Alike ⊎ Longer
    go (refused q p) e (refuses _ _ i j k) = inl (record { same = then-ends e _ ∙ sym (then-ends e _); other = λ o g. let z : q ≡ 33 = cc (then-ends e (is (leb whole room) 33 whole)) in absurd (omega arith) })
    go (passed u) e r =
        split whole room
        (λ l. inl (record { same = long-enough carried e (longest_rule_def carried) room (omega (arith, longest-short carried, l)) ∙ sym (long-enough carried e _ room l); other = λ p g. refused-not-passed (sym g ∙ long-enough carried e _ room l) }))
        (λ l. inr (record {
          size = too_short carried e _ room l;
          now = split (longest_rule_def carried) room (λ m. inl (long-enough carried e _ room m, long-enough carried e whole whole (omega arith))) (λ m. inr (too_short carried e _ room m, m));
        }))

module _ (sheet book edit : List ℕ) where
  -- What follows 31 to 33, which answered x; it is not refused with 33.
  abbrev judged : List (Expr rule) → Edit → Asked (Unit {0}) → Asked Edit
  judged carried Z x = x >> (ask_rules (graph_of sheet) carried 0 >> passed Z)

  not-33 : (carried : List (Expr rule)) (Z : Edit) (p : ℕ) (x : Asked (Unit {0})) → x ≢ refused 33 p → outcome (judged carried Z x) ≢ refused 33 p
  unfolding outcome ◌>>◌
  not-33 carried Z p (passed u) n e = absurd (omega (arith, (refused-between (outcome-refuses (then-refuses (rules-refuse (graph_of sheet) carried 0) passes)) e).0))
  not-33 carried Z p (refused m o) n e = n cc

  -- Sheet, book or edit is refused, now as before and with none of those numbers; or all three are read, and 31 to 33 are asked.
  record Stops : Type 0 where
    number : ℕ
    place : ℕ
    few : number ≤ 26
    now : (room : ℕ) → ask_enter sheet book edit room ≡ refused number place
    former : (room : ℕ) → former_enter sheet book edit room ≡ refused number place

  record Goes : Type 0 where
    carried : List (Expr rule)
    Z : Edit
    now : (room : ℕ) → ask_enter sheet book edit room ≡ judged carried Z (ask_scratch carried room)
    former : (room : ℕ) → former_enter sheet book edit room ≡ judged carried Z (ask_size carried room)

  begins : Stops ⊎ Goes
  unfolding former_enter ◌>>=◌
  begins = go (ask_sheet_and_book sheet book) (ask_edit (text_limits (graph_of sheet).n) edit) (sheet-and-book-refuse sheet book) (edit-refuses (text_limits (graph_of sheet).n) edit) (in_order sheet book edit) (λ room. refl) where
    go : (q : Asked (List (Expr rule))) (r : Asked Edit) → Refuses 1 16 longest_text q → Refuses 21 26 longest_text r
        → ((room : ℕ) → ask_enter sheet book edit room ≡ (q >>= (λ rules. r >>= (λ Z. judged (carried_book Z rules) Z (ask_scratch (carried_book Z rules) room)))))
        → ((room : ℕ) → former_enter sheet book edit room ≡ (q >>= (λ rules. r >>= (λ Z. judged (carried_book Z rules) Z (ask_size (carried_book Z rules) room))))) → Stops ⊎ Goes
    go (passed rules) (passed Z) a b e f = inr (record { carried = carried_book Z rules; Z = Z; now = e; former = f })
    go (passed rules) (refused m o) a (refuses _ _ i j k) e f = inl (record { number = m; place = o; few = j; now = e; former = f })
    go (refused m o) r (refuses _ _ i j k) b e f = inl (record { number = m; place = o; few = omega arith; now = e; former = f })

  as_before : (room former : ℕ) → ask_enter sheet book edit room ≡ former_enter sheet book edit former → AsBefore sheet book edit room former
  as_before room former e = unfold enter_sheet former_sheet in record { answer = ap outcome e; sheet_after = ap (λ (q : Asked Edit). after q (λ Z. after_steps Z sheet) sheet) e }

  same-else : (room : ℕ) → ((p : ℕ) → former_answer sheet book edit room ≢ refused 33 p) → AsBefore sheet book edit room room
  same-else room h = as_before room room (⊎_elim (λ s. s.now room ∙ sym (s.former room)) (λ g. one g (compared g.carried room)) begins) where
    one : (g : Goes) → Alike g.carried room ⊎ Longer g.carried room → ask_enter sheet book edit room ≡ former_enter sheet book edit room
    one g (inl a) = g.now room ∙ ap (judged g.carried g.Z) a.same ∙ sym (g.former room)
    one g (inr l) = absurd (h _ (ap outcome (g.former room) ∙ outcome-ends (then-ends l.size _)))

  given-33 : (room p : ℕ) → former_answer sheet book edit room ≡ refused 33 p → StillShort sheet book edit room p ⊎ AsBefore sheet book edit room p
  given-33 room p h = ⊎_elim (λ s. inr (as_before room p (s.now room ∙ sym (s.former p)))) (λ g. one g (compared g.carried room)) begins where
    one : (g : Goes) → Alike g.carried room ⊎ Longer g.carried room → StillShort sheet book edit room p ⊎ AsBefore sheet book edit room p
    one g (inl a) = absurd (not-33 g.carried g.Z p (ask_size g.carried room) (a.other p) (sym (ap outcome (g.former room)) ∙ h))
    one g (inr l) =
        let after-33 : Asked Edit = ask_rules (graph_of sheet) g.carried 0 >> passed g.Z in
        let whole_is : ◌≡◌ {A = Asked (Unit {0})} (refused 33 (length (book_code g.carried))) (refused 33 p) = sym (outcome-ends (then-ends l.size after-33)) ∙ sym (ap outcome (g.former room)) ∙ h in
        let whole-p : length (book_code g.carried) ≡ p = cc in
        ⊎_elim (λ b. inr (as_before room p (g.now room ∙ ap (judged g.carried g.Z) (b.0 ∙ sym b.1 ∙ ap (ask_size g.carried) whole-p) ∙ sym (g.former p))))
        (λ b. inl (record {
          needed = longest_rule_def g.carried;
          answer = ap outcome (g.now room) ∙ outcome-ends (then-ends b.0 after-33);
          more = b.1;
          most = omega (arith, longest-short g.carried, whole-p);
        })) l.now

  enough : (room p : ℕ) → longest_carried ≤ room → enter_answer sheet book edit room ≢ refused 33 p
  unfolding ask_scratch
  enough room p long d = ⊎_elim
      (λ s. let f : refused s.number s.place ≡ refused 33 p = sym (outcome-ends (s.now room)) ∙ d in let z : s.number ≡ 33 = cc in omega (arith, s.few))
      (λ g. not-33 g.carried g.Z p (ask_scratch g.carried room) (never g.carried) (sym (ap outcome (g.now room)) ∙ d)) begins where
        never : (c : List (Expr rule)) → ask_scratch c room ≢ refused 33 p
        never c g = go (ask_carried c) refl (carried-refuses c) where
          go : (x : Asked (Unit {0})) → ask_carried c ≡ x → Refuses 31 32 0 x → ⊥
          go (passed u) e r = refused-not-passed (sym g ∙ long-enough c e (longest_rule_def c) room (omega (arith, longest-short c, carried-short c e)))
          go (refused m o) e (refuses _ _ i j k) = let z : m ≡ 33 = cc (then-ends e (is (leb (longest_rule_def c) room) 33 (longest_rule_def c))) in omega arith

  -- Where the answer is not 33, the room does not matter.
  pub any-room-asks : (room : ℕ) → ((p : ℕ) → enter_answer sheet book edit room ≢ refused 33 p) → ask_enter sheet book edit room ≡ ask_enter sheet book edit longest_carried
  any-room-asks room h = ⊎_elim (λ s. s.now room ∙ sym (s.now longest_carried)) one begins where
    one : Goes → ask_enter sheet book edit room ≡ ask_enter sheet book edit longest_carried
    one g =
        g.now room
        ∙ ap (judged g.carried g.Z) (any-room g.carried room (λ p f. h p (ap outcome (g.now room) ∙ outcome-ends (then-ends f (ask_rules (graph_of sheet) g.carried 0 >> passed g.Z)))))
        ∙ sym (g.now longest_carried)

pub unmoved : Unmoved
unmoved = record { same = same-else; where_33 = given-33; suffices = enough }
