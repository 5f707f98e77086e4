-- The turns of printing: what the loop keeps holds after each turn, and less is ahead.
use mathlib.Core.Path.{◌≡◌, refl, sym, ◌∙◌, ap, ap₂, subst, subst₂}
use mathlib.Core.Bool.{Bool, true, false, cond}
use mathlib.Core.List.{List, [], ◌∷◌, ◌++◌, append-nil}
use Prim.Native.Nat.{ℕ, zero, suc, ◌+◌, ◌-◌, ◌/◌, ◌%◌, ◌≤◌, ◌<◌}
use native.Mathlib.Nat.{zero-add}
use native.Mathlib.Numerals.{add-one}
use native.Mathlib.Decide.{dec_lt}
use native.Mathlib.Omega.{arith}
use lib.Dec.{eqb, leb}
use lib.ListN.{length, get_or, set, drop, replicate, length-append}
use borrow.Author.Tests.{le-leb, lt-leb}
use Rattle.logic.specs.Syntax.{rule}
use Rattle.text.specs.Reading.{longest_carried, most_rules}
use Rattle.names.specs.Token.{Token}
use Rattle.names.specs.Names.{Naming}
use Rattle.notation.specs.Grammar.{expr, Goal, mark, number, thing}
use Rattle.notation.specs.Spell.{opens, spell}
use Rattle.notation.specs.Layout.{laid}
use Rattle.notation.specs.Words.{rule_limits}
use Rattle.lay_words.specs.declared.Laid.{Laid}
use Rattle.lay_words.specs.declared.Before.TheVariants.{Start}
use Rattle.print_words.specs.declared.print.Opened.{Opened}
use Rattle.keywords.specs.Rows.{mark_of, kind_of, slot_of, level_of, goal_of, goals_of, row_goals, goals_above, wanted}
use Rattle.buffers.specs.Slots.{Slots}
use Rattle.buffers.specs.Filled.{filled_from}
use Rattle.lay_words.specs.Laying.{before_of, laid_from}
use Rattle.name_table.specs.NameSlots.{name_width, name_count, Holds}
use Rattle.print_words.specs.Printable.{Printable}
use Rattle.print_words.specs.Printed.{printed}
use Rattle.print_words.specs.Opening.{Known, words_at, Opening}
use Rattle.print_words.specs.Added.{Added}
use Rattle.keywords.proofs.RowLaws.{row_first, row_last, popped, popped-all, pushed}
use Rattle.buffers.proofs.FilledLaws.{filled_none, filled_more}
use Rattle.keywords.proofs.RowItems.{row-rest}
use Rattle.print_words.proofs.KnownRows.{known-one, Levels, levels-none, levels-set}
use Rattle.print_words.proofs.CodesAhead.{printable-mark, spell-mark, NumberHere, number-here, ThingHere, thing-here, rule-printable, rule-spells}
use Rattle.print_words.proofs.Printing.{ahead, short-less, SoFar, Printing, printing-on}

-- What an item wants.
goal-mark : (item d : ℕ) → item < 4 → goal_of item d ≡ mark (mark_of item)
unfolding goal_of
goal-mark item d h = rw (le-leb item 3 (omega arith))

goal-number : (item d : ℕ) → 4 ≤ item → item < 9 → goal_of item d ≡ number (kind_of item)
unfolding goal_of
goal-number item d h k = rw (lt-leb item 3 (omega arith), le-leb item 8 (omega arith))

goal-deeper : (item d : ℕ) → 9 ≤ item → item < 14 → goal_of item d ≡ thing (slot_of item) (d + 1)
unfolding goal_of level_of
goal-deeper item d h k = rw (lt-leb item 3 (omega arith), lt-leb item 8 (omega arith), le-leb item 13 (omega arith)) (ap (thing (slot_of item)) (sym (add-one d)))

goal-here : (item d : ℕ) → 14 ≤ item → goal_of item d ≡ thing (slot_of item) d
unfolding goal_of level_of
goal-here item d h = rw (lt-leb item 3 (omega arith), lt-leb item 8 (omega arith), lt-leb item 13 (omega arith))

-- A row has few goals.
goals-few : (n row d : ℕ) → length (goals_of n row d) ≤ n
unfolding goals_of
goals-few zero row d = omega arith
goals-few (suc n) row d = go (eqb row 0) (leb 14 (row % 256)) (goals-few n (row / 256) d) where
  go : (x y : Bool) → length (goals_of n (row / 256) d) ≤ n → length (cond x [] (goal_of (row % 256) d ∷ cond y [] (goals_of n (row / 256) d))) ≤ suc n
  go true y h = omega arith
  go false true h = omega arith
  go false false h = omega arith

-- What is ahead while the rows are followed: tokens, and levels to go up.
abbrev pub to_do : (codes at : ℕ) (rows : List ℕ) (row level left : ℕ) → ℕ
to_do codes at rows row level left = ahead codes at (length (wanted rows row level)) left + level

module _ (table codes : List ℕ) (start rules : ℕ) (o₀ : List ℕ) where
  -- The loop's invariant.
  pub record Turn (at : ℕ) (rows : List ℕ) (row level left : ℕ) (s : Laid) (o : List ℕ) : Type 0 where
    pub printing : Printing table codes start rules o₀ at (wanted rows row level) left s o
    pub levels : Levels rows
    pub known : Known row
    pub least : 1 ≤ level
    pub most : level ≤ 255
    pub kept : length o ≡ length o₀

  -- At the start.
  abbrev pub nothing-laid : Laid
  nothing-laid = record { size = 0; before = Start; brackets = 0; ifs = 0 }

  start-wanted : (rows : List ℕ) → row_goals start 1 ≡ wanted rows start 1
  unfolding goals_above
  start-wanted rows = sym (append-nil (row_goals start 1))

  start-ahead : length codes ≤ longest_carried → rules ≤ most_rules → ahead (length codes) 0 (length (row_goals start 1)) rules ≤ 164000
  unfolding ahead
  start-ahead h k = omega (arith, goals-few 8 start 1)

  start-text : (ts : List Token) → laid ts ≡ laid_from nothing-laid ts
  unfolding before_of
  start-text ts = refl

  pub first-turn : Printable rule_limits codes (row_goals start 1) rules → length codes ≤ longest_carried → start < 18 → rules ≤ most_rules
      → Turn 0 (replicate 256 0) start 1 rules nothing-laid o₀
  first-turn p few h k = record {
    printing = subst (λ g. Printing table codes start rules o₀ 0 g rules nothing-laid o₀) (start-wanted (replicate 256 0)) (record {
      printable = p;
      so_far = λ name held. record { bytes = []; text-is = start-text (spell name codes (row_goals start 1) rules); size = refl; written = sym (filled_none 0 o₀) };
      short = let n = start-ahead few k in record { size = omega arith; brackets = omega arith; ifs = omega arith };
    });
    levels = levels-none;
    known = known-one start h;
    least = omega arith;
    most = omega arith;
    kept = refl;
  }

  module _ {at : ℕ} {rows : List ℕ} {row level left : ℕ} {s : Laid} {o : List ℕ} (t : Turn at rows row level left s o) where
    abbrev Goes : (at : ℕ) → List Goal → (left : ℕ) → Laid → List ℕ → Type 0
    Goes = Printing table codes start rules o₀

    -- The next turn, with less to do.
    pub record Next (at' : ℕ) (rows' : List ℕ) (row' level' left' : ℕ) (r : Laid) (o' : List ℕ) : Type 0 where
      pub turn : Turn at' rows' row' level' left' r o'
      pub less : to_do (length codes) at' rows' row' level' left' < to_do (length codes) at rows row level left

    -- The row has ended: the row above it goes on.
    pub up : row ≡ 0 → 1 < level → Next at rows (get_or rows (level - 1) 0) (level - 1) left s o
    up e l =
        let w : wanted rows row level ≡ wanted rows (get_or rows (level - 1) 0) (level - 1) = ap (λ r. wanted rows r level) e ∙ popped rows level l in
        record {
          turn = record {
            printing = subst (λ g. Goes at g left s o) w t.printing;
            levels = t.levels;
            known = t.levels.known (level - 1);
            least = omega arith;
            most = omega (arith, t.most);
            kept = t.kept;
          };
          less = omega (arith, ap (λ g. ahead (length codes) at (length g) left) w);
        }

    -- The last row has ended: another rule.
    module _ (e : row ≡ 0) (l : level ≡ 1) where
      nothing-wanted : wanted rows row level ≡ []
      nothing-wanted = ap₂ (wanted rows) e l ∙ popped-all rows

      rule-wanted : wanted rows 17 level ≡ thing (expr rule) 1 ∷ []
      unfolding goals_of goal_of slot_of level_of goals_above
      rule-wanted = ap (wanted rows 17) l

      module _ (inside : at < length codes) (more : 0 < left) where
        rule-less : to_do (length codes) at rows 17 level (left - 1) < to_do (length codes) at rows row level left
        unfolding ahead
        rule-less = omega (arith, ap length rule-wanted, ap length nothing-wanted)

        pub another : Next at rows 17 level (left - 1) s o
        another =
            let h = subst (λ g. Goes at g left s o) nothing-wanted t.printing in
            let can = rule-printable rule_limits codes at inside left more (omega arith) h.printable in
            record {
              turn = record {
                printing = subst (λ g. Goes at g (left - 1) s o) (sym rule-wanted) (record {
                  printable = can;
                  so_far = λ name held. subst (λ ts. SoFar (printed name codes start rules) o₀ s ts o) (rule-spells rule_limits codes at inside name left more) (h.so_far name held);
                  short = short-less s _ _ (omega (arith, rule-less, ap (λ g. ahead (length codes) at (length g) (left - 1)) rule-wanted)) t.printing.short;
                });
                levels = t.levels;
                known = known-one 17 (omega arith);
                least = t.least;
                most = t.most;
                kept = t.kept;
              };
              less = rule-less;
            }

    -- An item of the row.
    module _ (slots : Slots name_width name_count table) (some : row ≡ 0 → ⊥) where
      abbrev item : ℕ
      item = row % 256

      abbrev rest : List Goal
      rest = wanted rows (row / 256) level

      first-wanted : item < 14 → wanted rows row level ≡ goal_of item level ∷ rest
      first-wanted h = ap (◌++ goals_above rows level) (row_first row level t.known.small some h)

      last-wanted : 14 ≤ item → wanted rows row level ≡ goal_of item level ∷ goals_above rows level
      last-wanted h = ap (◌++ goals_above rows level) (row_last row level some h)

      printable-as : {g : List Goal} → wanted rows row level ≡ g → Printable rule_limits (drop at codes) g left
      printable-as w = subst (λ g. Printable rule_limits (drop at codes) g left) w t.printing.printable

      -- a mark
      module _ (h : item < 4) where
        mark-wanted : wanted rows row level ≡ mark (mark_of item) ∷ rest
        mark-wanted = first-wanted (omega arith) ∙ ap (◌∷ rest) (goal-mark item level h)

        mark-ahead : ahead (length codes) at (length rest) left < ahead (length codes) at (length (wanted rows row level)) left
        unfolding ahead
        mark-ahead = omega (arith, ap length mark-wanted)

        pub marked : {r : Laid} {o' : List ℕ} → Added s (mark_of item ∷ []) r o o' → length o' ≡ length o → Next at rows (row / 256) level left r o'
        marked a k = record {
          turn = record {
            printing = printing-on table codes start rules o₀ slots t.printing
                (printable-mark rule_limits rest left (mark_of item) (drop at codes) (printable-as mark-wanted))
                (λ name. mark_of item ∷ [])
                (λ name. ap (λ g. spell name (drop at codes) g left) mark-wanted ∙ spell-mark rule_limits rest left name (mark_of item) (drop at codes))
                (λ name held. a)
                mark-ahead;
            levels = t.levels;
            known = row-rest 1 row t.known some;
            least = t.least;
            most = t.most;
            kept = k ∙ t.kept;
          };
          less = omega (arith, mark-ahead);
        }

      -- a number
      module _ (h : 4 ≤ item) (k : item < 9) where
        number-wanted : wanted rows row level ≡ number (kind_of item) ∷ rest
        number-wanted = first-wanted (omega arith) ∙ ap (◌∷ rest) (goal-number item level h k)

        pub a-number : NumberHere rule_limits codes at rest left (kind_of item)
        a-number = number-here rule_limits codes at rest left (kind_of item) (printable-as number-wanted)

        number-ahead : ahead (length codes) (at + 1) (length rest) left < ahead (length codes) at (length (wanted rows row level)) left
        unfolding ahead
        number-ahead = omega (arith, ap length number-wanted, a-number.inside)

        pub numbered : {r : Laid} {o' : List ℕ} → ((name : Naming) → Holds table name → Added s (name (kind_of item) (get_or codes at 0) ∷ []) r o o') → length o' ≡ length o
            → Next (at + 1) rows (row / 256) level left r o'
        numbered a e = record {
          turn = record {
            printing = printing-on table codes start rules o₀ slots t.printing
                a-number.on
                (λ name. name (kind_of item) (get_or codes at 0) ∷ [])
                (λ name. ap (λ g. spell name (drop at codes) g left) number-wanted ∙ a-number.spells name)
                a
                number-ahead;
            levels = t.levels;
            known = row-rest 1 row t.known some;
            least = t.least;
            most = t.most;
            kept = e ∙ t.kept;
          };
          less = omega (arith, number-ahead);
        }

      -- a thing at any level: d is its level, g what is wanted after it, and g' what is wanted after its code
      abbrev Opens-so : Opened → Type 0
      Opens-so q = Opening (λ d. opens (slot_of item) d (get_or codes at 0)) q

      module _ (d : ℕ) (g : List Goal) (w : wanted rows row level ≡ thing (slot_of item) d ∷ g) where
        a_thing : ThingHere rule_limits codes at g left (slot_of item) d
        a_thing = thing-here rule_limits codes at g left (slot_of item) d (printable-as w)

        module _ {q : Opened} (opening : Opens-so q) (g' : List Goal) (w' : g' ≡ row_goals q.row d ++ g) where
          then-wanted : (opens (slot_of item) d (get_or codes at 0)).then ++ g ≡ g'
          then-wanted = ap (λ p. p.then ++ g) (opening.is d) ∙ sym w'

          thing-ahead : ahead (length codes) (at + 1) (length g') left + 1 < ahead (length codes) at (length (wanted rows row level)) left
          unfolding ahead
          thing-ahead = omega (arith, ap length w, ap length w', length-append (row_goals q.row d) g, goals-few 8 q.row d, a_thing.inside)

          opened : {r : Laid} {o' : List ℕ} → Added s (words_at q.word) r o o' → Goes (at + 1) g' left r o'
          opened a = printing-on table codes start rules o₀ slots t.printing
              (subst (λ g. Printable rule_limits (drop (at + 1) codes) g left) then-wanted a_thing.on)
              (λ name. words_at q.word)
              (λ name. ap (λ g. spell name (drop at codes) g left) w ∙ a_thing.spells name
              ∙ ap₂ (λ ts g. ts ++ spell name (drop (at + 1) codes) g left) (ap (λ p. p.tokens) (opening.is d)) then-wanted)
              (λ name held. a)
              (omega (arith, thing-ahead))

      -- one level deeper
      module _ (h : 9 ≤ item) (k : item < 14) where
        deeper-wanted : wanted rows row level ≡ thing (slot_of item) (level + 1) ∷ rest
        deeper-wanted = first-wanted k ∙ ap (◌∷ rest) (goal-deeper item level h k)

        deeper-here : ThingHere rule_limits codes at rest left (slot_of item) (level + 1)
        deeper-here = a_thing (level + 1) rest deeper-wanted

        pub deeper : {q : Opened} → Opens-so q → {r : Laid} {o' : List ℕ} → Added s (words_at q.word) r o o' → length o' ≡ length o
            → Next (at + 1) (set rows level (row / 256)) q.row (level + 1) left r o'
        deeper {q} opening a e =
            let g' = wanted (set rows level (row / 256)) q.row (level + 1) in
            let w' : g' ≡ row_goals q.row (level + 1) ++ rest = pushed rows (row / 256) q.row level t.least (omega (arith, t.levels.all, deeper-here.within)) in
            record {
              turn = record {
                printing = opened (level + 1) rest deeper-wanted opening g' w' a;
                levels = levels-set rows level (row / 256) t.levels (row-rest 1 row t.known some);
                known = opening.known;
                least = omega arith;
                most = deeper-here.within;
                kept = e ∙ t.kept;
              };
              less = omega (arith, thing-ahead (level + 1) rest deeper-wanted opening g' w');
            }

      -- at the row's own level
      module _ (h : 14 ≤ item) where
        here-wanted : wanted rows row level ≡ thing (slot_of item) level ∷ goals_above rows level
        here-wanted = last-wanted h ∙ ap (◌∷ goals_above rows level) (goal-here item level h)

        pub here : {q : Opened} → Opens-so q → {r : Laid} {o' : List ℕ} → Added s (words_at q.word) r o o' → length o' ≡ length o → Next (at + 1) rows q.row level left r o'
        here {q} opening a e = record {
          turn = record {
            printing = opened level (goals_above rows level) here-wanted opening (wanted rows q.row level) refl a;
            levels = t.levels;
            known = opening.known;
            least = t.least;
            most = t.most;
            kept = e ∙ t.kept;
          };
          less = omega (arith, thing-ahead level (goals_above rows level) here-wanted opening (wanted rows q.row level) refl);
        }

      pub thing-inside : 9 ≤ item → at < length codes
      thing-inside h = elim (dec_lt item 14) [
        | yes k ↦ (deeper-here h k).inside
        | no k ↦ (let l : 14 ≤ item = omega arith in (a_thing level (goals_above rows level) (here-wanted l)).inside)
      ]

    -- A turn with the same rows and level, described differently.
    pub next-as : {at' : ℕ} {rows₁ : List ℕ} (rows₂ : List ℕ) {row' level₁ : ℕ} (level₂ : ℕ) {left' : ℕ} {r : Laid} {o' : List ℕ} → rows₂ ≡ rows₁ → level₂ ≡ level₁
        → Next at' rows₁ row' level₁ left' r o' → Next at' rows₂ row' level₂ left' r o'
    next-as {at'} rows₂ {row'} level₂ {left'} {r} {o'} e f n = subst₂ (λ (x : List ℕ) (y : ℕ). Next at' x row' y left' r o') (sym e) (sym f) n

    -- The last row has ended, and no rule follows.
    module _ (e : row ≡ 0) (l : level ≡ 1) (last : (name : Naming) → spell name (drop at codes) [] left ≡ []) (name : Naming) (held : Holds table name) where
      last-text : SoFar (printed name codes start rules) o₀ s [] o
      last-text =
          let w : spell name (drop at codes) (wanted rows row level) left ≡ [] = ap (λ g. spell name (drop at codes) g left) (nothing-wanted e l) ∙ last name in
          subst (λ ts. SoFar (printed name codes start rules) o₀ s ts o) w (t.printing.so_far name held)

      pub end-size : (r : ℕ) → r ≡ s.size + length (laid_from s []) → r ≡ length (printed name codes start rules)
      end-size r h =
          let p = last-text in
          h ∙ ap (◌+ length (laid_from s [])) p.size ∙ sym (length-append p.bytes (laid_from s [])) ∙ ap length (sym p.text-is)

      pub end-written : (o' : List ℕ) → o' ≡ filled_from s.size (laid_from s []) o → o' ≡ filled_from 0 (printed name codes start rules) o₀
      end-written o' h =
          let p = last-text in
          h
          ∙ ap₂ (λ n b. filled_from n (laid_from s []) b) (p.size ∙ sym (zero-add (length p.bytes))) p.written
          ∙ filled_more 0 p.bytes (laid_from s []) o₀
          ∙ ap (λ b. filled_from 0 b o₀) (sym p.text-is)
