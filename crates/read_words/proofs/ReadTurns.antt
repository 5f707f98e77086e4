-- The reader's turns: what is still to be read gives, after the codes so far, what was wanted.
use mathlib.Core.Path.{◌≡◌, refl, sym, ◌∙◌, ap, ap₂, subst}
use mathlib.Core.Bool.{Bool, true, false, cond}
use mathlib.Core.List.{List, [], ◌∷◌, ◌++◌, append_assoc, append-nil}
use Prim.Native.Nat.{ℕ, suc, ◌+◌, ◌-◌, ◌*◌, ◌%◌, ◌/◌, ◌^◌, ◌≤◌, ◌<◌}
use native.Mathlib.Decide.{dec_lt}
use native.Mathlib.Omega.{arith}
use native.Mathlib.Numerals.{add-one}
use lib.Dec.{eqb}
use lib.ListN.{length, get_or, set, replicate, length-append, length-take, length-set}
use lib.Seq.{get_or-set_same, get_or-set_other}
use borrow.Author.Tests.{le-leb, lt-leb, eqb-true, eqb-false}
use Rattle.answer.specs.Asked.{Asked, passed, refused, ◌>>=◌}
use Rattle.answer.specs.Answers.{refusal_number_def, refusal_place_def, result_asked}
use Rattle.answer.specs.Outputs.{written_length}
use Rattle.std.specs.Prelude.{Option, Some, None, Result, Ok, Err}
use Rattle.answer.specs.declared.Refusal.{Refusal}
use Rattle.answer.specs.declared.Refusal.TheVariants.{WordsEnd}
use Rattle.names.specs.Scan.{Placed}
use Rattle.names.specs.Scanned.{slice, tokens_from, Next}
use Rattle.names.specs.Names.{Naming}
use Rattle.notation.specs.Grammar.{Goal}
use Rattle.notation.specs.Parse.{prefixed, parse}
use Rattle.notation.specs.Words.{word_limits, parse_text}
use Rattle.buffers.specs.Filled.{filled_from}
use Rattle.buffers.proofs.FilledLaws.{filled_none, filled-length, filled_more}
use Rattle.keywords.specs.Rows.{level_of, goal_of, row_goals, goals_above, wanted, Row}
use Rattle.name_table.specs.NameSlots.{Holds}
use Rattle.read_words.specs.Meeting.{wrong_number, bytes_of, start_of, Meets}
use Rattle.read_words.specs.declared.Met.{Met}
use Rattle.keywords.proofs.RowItems.{First, first-item, row-rest, row_one}
use Rattle.keywords.proofs.RowLaws.{row_zero, row_first, row_last, popped, popped-all, pushed}
use Rattle.read_words.proofs.Begun.{prefixed-none, continued, parse-begun, parse-missing, parse-closing, parse-rule, continued-wrong, continued-small, continued-deep, continued-on}

pub prefixed-more : (a b : List ℕ) (x : Asked (List ℕ)) → prefixed (a ++ b) x ≡ prefixed a (prefixed b x)
unfolding prefixed
prefixed-more a b (passed bytes) = ap passed (append_assoc a b bytes)
prefixed-more a b (refused q p) = refl

-- The rows with which a book and an edit begin.
pub begin-book : Row 1 0
begin-book = row_one 1 0 (omega arith) (λ e. refl)

pub begin-edit : Row 1 16
begin-edit = row_one 1 16 (omega arith) (λ e. refl)

-- The rows of the levels above.
pub record Above (rows : List ℕ) (level : ℕ) : Type 0 where
  pub all : length rows ≡ 33
  pub each : (k : ℕ) → k < level → Row k (get_or rows k 0)

module _ (table words codes₀ : List ℕ) (begin rules : ℕ) where
  -- What is still to be read.
  abbrev pub to_read : Naming → (rows : List ℕ) (level row left at : ℕ) → Asked (List ℕ)
  to_read name rows level row left at = parse name word_limits (length words) (tokens_from words at) (wanted rows row level) left

  pub record SoFar (name : Naming) (rows : List ℕ) (level row left at size : ℕ) (codes : List ℕ) : Type 0 where
    pub bytes : List ℕ
    pub whole : parse_text word_limits name words (row_goals begin 1) rules ≡ prefixed bytes (to_read name rows level row left at)
    pub count : size ≡ length bytes
    pub put : codes ≡ filled_from 0 bytes codes₀

  pub record Reading (rows : List ℕ) (level row left at size : ℕ) (codes : List ℕ) : Type 0 where
    pub above : Above rows level
    pub here : Row level row
    pub low : 1 ≤ level
    pub deep : level ≤ 32
    pub inside : at ≤ length words
    pub short : size ≤ 2 * at
    pub kept : length codes ≡ length codes₀
    pub read : (name : Naming) → Holds table name → SoFar name rows level row left at size codes

  pub to-begin : Row 1 begin → Reading (replicate 33 0) 1 begin rules 0 0 codes₀
  unfolding goals_above prefixed
  to-begin r =
      record {
        above = record { all = refl; each = λ k l. zeros k (omega arith) };
        here = r;
        low = omega arith;
        deep = omega arith;
        inside = omega arith;
        short = omega arith;
        kept = refl;
        read = λ name h. record {
          bytes = [];
          whole = ap (λ g. parse name word_limits (length words) (tokens_from words 0) g rules) (sym (append-nil (row_goals begin 1)))
              ∙ sym (prefixed-none (to_read name (replicate 33 0) 1 begin rules 0));
          count = refl;
          put = sym (filled_none 0 codes₀);
        };
      }
    where
      zeros : (k : ℕ) → k ≡ 0 → Row k (get_or (replicate 33 0) k 0)
      zeros k e = subst (λ k. Row k (get_or (replicate 33 0) k 0)) (sym e) (row_one _ 0 (omega arith) (λ e. absurd (omega arith)))

  module _ {rows : List ℕ} {level row left at size : ℕ} {codes : List ℕ} (s : Reading rows level row left at size codes) where
    -- The same is still to be read, described differently.
    same_left : {rows' : List ℕ} {level' row' left' : ℕ} {name : Naming} → Holds table name
        → to_read name rows level row left at ≡ to_read name rows' level' row' left' at → SoFar name rows' level' row' left' at size codes
    same_left {name = name} h e = let f = s.read name h in record { bytes = f.bytes; whole = f.whole ∙ ap (prefixed f.bytes) e; count = f.count; put = f.put }

    -- The row of a level has ended: the row above it goes on.
    pub popped-row : row ≡ 0 → 1 < level → Reading rows (level - 1) (get_or rows (level - 1) 0) left at size codes
    popped-row z l =
        record {
          above = record { all = s.above.all; each = λ k i. s.above.each k (omega arith) };
          here = s.above.each (level - 1) (omega arith);
          low = omega arith;
          deep = omega (arith, s.deep);
          inside = s.inside;
          short = s.short;
          kept = s.kept;
          read = λ name h. same_left h (ap (λ g. parse name word_limits (length words) (tokens_from words at) g left) (ap (λ r. wanted rows r level) z ∙ popped rows level l));
        }

    module _ {from to : ℕ} (n : Next words at from to) where
      at-end : length words ≤ from → tokens_from words at ≡ []
      at-end h = n.ended (omega (arith, n.in_order, n.inside))

      -- The row of level 1 has ended: so has the text; or there is one more rule, too many or not.
      module _ (z : row ≡ 0) (l : level ≤ 1) where
        nothing-wanted : wanted rows row level ≡ []
        nothing-wanted = let e : level ≡ 1 = omega (arith, s.low) in ap₂ (λ r d. wanted rows r d) z e ∙ popped-all rows

        pub all_read : length words ≤ from → (name : Naming) → to_read name rows level row left at ≡ passed []
        unfolding parse
        all_read h name = ap₂ (λ ts g. parse name word_limits (length words) ts g left) (at-end h) nothing-wanted

        pub rule-too-many : from < length words → left ≡ 0 → (name : Naming) → to_read name rows level row left at ≡ refused 69 from
        unfolding parse
        rule-too-many h e name =
            ap₂ (λ ts g. parse name word_limits (length words) ts g left) (n.there h) nothing-wanted
            ∙ ap (λ m. parse name word_limits (length words) (record { place = from; token = slice words from to } ∷ tokens_from words to) [] m) e

        pub rule-begun : from < length words → (left ≡ 0 → ⊥) → Reading rows level 17 (left - 1) at size codes
        unfolding goals_above
        rule-begun h k =
            record {
              above = s.above;
              here = row_one _ 17 (omega arith) (λ e. absurd (omega arith));
              low = s.low;
              deep = s.deep;
              inside = s.inside;
              short = s.short;
              kept = s.kept;
              read = λ name g. same_left g (begins name);
            }
          where
            begins : (name : Naming) → to_read name rows level row left at ≡ to_read name rows level 17 (left - 1) at
            begins name =
                let e : left ≡ suc (left - 1) = omega arith in
                let d : 1 ≡ level = omega (arith, s.low) in
                let tok : List Placed = record { place = from; token = slice words from to } ∷ tokens_from words to in
                ap₂ (λ ts g. parse name word_limits (length words) ts g left) (n.there h) nothing-wanted
                ∙ ap (λ m. parse name word_limits (length words) tok [] m) e
                ∙ parse-rule name (length words) (record { place = from; token = slice words from to }) (tokens_from words to) (left - 1)
                ∙ ap₂ (λ ts g. parse name word_limits (length words) ts g (left - 1)) (sym (n.there h))
                (ap (◌++ []) (sym (row_last 17 1 (λ q. absurd (omega arith)) (omega arith))) ∙ ap (λ d. wanted rows 17 d) d)

      -- An item is wanted.
      module _ (z : row ≡ 0 → ⊥) where
        first : First level row
        first = first-item level row s.here.items z

        -- What is wanted after it.
        wants : row % 256 < 14 → wanted rows row level ≡ goal_of (row % 256) level ∷ wanted rows (row / 256) level
        wants k = ap (◌++ goals_above rows level) (row_first row level s.here.small z k)

        wants-last : 14 ≤ row % 256 → wanted rows row level ≡ goal_of (row % 256) level ∷ goals_above rows level
        wants-last k = ap (◌++ goals_above rows level) (row_last row level z k)

        record Wants : Type 0 where
          after : List Goal
          are : wanted rows row level ≡ goal_of (row % 256) level ∷ after

        wants-some : Wants
        wants-some = elim (dec_lt (row % 256) 14) [
          | yes k ↦ record { after = wanted rows (row / 256) level; are = wants k }
          | no k ↦ record { after = goals_above rows level; are = wants-last (omega arith) }
        ]

        pub token-missing : length words ≤ from → (row % 256 ≡ 16 → ⊥) → (name : Naming) → to_read name rows level row left at ≡ refused 64 from
        token-missing h k name =
            let w = wants-some in
            let e : length words ≡ from = omega (arith, n.in_order, n.inside) in
            ap₂ (λ ts g. parse name word_limits (length words) ts g left) (at-end h) w.are
            ∙ parse-missing name (length words) (row % 256) level w.after left first.from first.known k
            ∙ ap (refused 64) e

        pub steps-closed : length words ≤ from → row % 256 ≡ 16 → (name : Naming) → to_read name rows level row left at ≡ passed (0x30 ∷ [])
        unfolding goals_above
        steps-closed h k name =
            let d : level ≡ 1 = first.closing k in
            ap₂ (λ ts g. parse name word_limits (length words) ts g left) (at-end h) (wants-last (omega arith) ∙ ap₂ (λ x d. goal_of x d ∷ goals_above rows d) k d)
            ∙ parse-closing name (length words) left

        -- A token is there, and the code has found what it begins.
        module _ {o : Option Met} (h : from < length words) (met : Meets table (row % 256) (slice words from to) o) where
          opened : {g : List Goal} {name : Naming} → wanted rows row level ≡ goal_of (row % 256) level ∷ g → Holds table name
              → to_read name rows level row left at
              ≡ continued (goal_of (row % 256) level) from (start_of o (level_of (row % 256) level)) (λ then. parse name word_limits (length words) (tokens_from words to) (then ++ g) left)
          opened {g = g} {name = name} w q =
              ap₂ (λ ts g. parse name word_limits (length words) ts g left) (n.there h) w
              ∙ parse-begun name (length words) (record { place = from; token = slice words from to }) (tokens_from words to) (goal_of (row % 256) level) g left
              ∙ ap (λ b. continued (goal_of (row % 256) level) from b (λ then. parse name word_limits (length words) (tokens_from words to) (then ++ g) left)) (met.begins name q level)

        module _ (h : from < length words) (met : Meets table (row % 256) (slice words from to) None) where
          pub token-wrong : (name : Naming) → Holds table name → to_read name rows level row left at ≡ refused (wrong_number (row % 256)) from
          token-wrong name q = opened h met wants-some.are q ∙ continued-wrong (row % 256) level from _

        module _ {m : Met} (h : from < length words) (met : Meets table (row % 256) (slice words from to) (Some m)) where
          -- What is read after the bytes of the token.
          after-token : {rows' : List ℕ} {level' row' size' : ℕ} {codes' : List ℕ} {name : Naming} → Holds table name → size' ≡ size + m.size → codes' ≡ filled_from size (bytes_of m) codes
              → to_read name rows level row left at ≡ prefixed (bytes_of m) (to_read name rows' level' row' left to)
              → SoFar name rows' level' row' left to size' codes'
          after-token {name = name} q u e r =
              let f = s.read name q in
              let b : length (bytes_of m) ≡ m.size = length-take m.size (m.first ∷ m.second ∷ []) ∙ omega (arith, met.fits.short) in
              let z : size ≡ 0 + length f.bytes = omega (arith, f.count) in
              record {
                bytes = f.bytes ++ bytes_of m;
                whole = f.whole ∙ ap (prefixed f.bytes) r ∙ sym (prefixed-more f.bytes (bytes_of m) _);
                count = omega (arith, f.count, b, length-append f.bytes (bytes_of m));
                put = e ∙ ap₂ (λ n c. filled_from n (bytes_of m) c) z f.put ∙ filled_more 0 f.bytes (bytes_of m) codes₀;
              }

          shorter : {size' : ℕ} → size' ≡ size + m.size → size' ≤ 2 * to
          shorter u = omega (arith, s.short, met.fits.short, n.on, n.forward h)

          keeps : {codes' : List ℕ} → codes' ≡ filled_from size (bytes_of m) codes → length codes' ≡ length codes₀
          keeps e = ap length e ∙ filled-length size (bytes_of m) codes ∙ s.kept

          -- A mark, a name or a count.
          pub small-taken : {size' : ℕ} {codes' : List ℕ} → row % 256 < 9 → size' ≡ size + m.size → codes' ≡ filled_from size (bytes_of m) codes → Reading rows level (row / 256) left to size' codes'
          small-taken k u e =
              record {
                above = s.above;
                here = row-rest level row s.here z;
                low = s.low;
                deep = s.deep;
                inside = n.inside;
                short = shorter u;
                kept = keeps e;
                read = λ name q. after-token q u e
                    (opened h met (wants (omega arith)) q ∙ continued-small (row % 256) level from _ m k
                    ∙ ap (λ g. prefixed (bytes_of m) (parse name word_limits (length words) (tokens_from words to) (g ++ wanted rows (row / 256) level) left)) nothing-after);
              }
            where
              nothing-after : row_goals m.row (level_of (row % 256) level) ≡ []
              nothing-after = ap (λ r. row_goals r (level_of (row % 256) level)) (met.fits.alone k) ∙ row_zero (level_of (row % 256) level)

          -- A thing one level deeper.
          module _ (k : 9 ≤ row % 256) (b : row % 256 < 14) where
            one_deeper : level_of (row % 256) level ≡ level + 1
            unfolding level_of
            one_deeper = rw (le-leb (row % 256) 13 (omega arith)) (sym (add-one level))

            pub too-deep : 32 ≤ level → (name : Naming) → Holds table name → to_read name rows level row left at ≡ refused 68 from
            too-deep d name q = opened h met (wants b) q ∙ continued-deep (row % 256) level from _ m k (omega (arith, one_deeper))

            pub deeper : {size' : ℕ} {codes' : List ℕ} → level < 32 → m.row < 2 ^ 64 → size' ≡ size + m.size → codes' ≡ filled_from size (bytes_of m) codes
                → Reading (set rows level (row / 256)) (level + 1) m.row left to size' codes'
            deeper d r u e =
                record {
                  above = record { all = length-set rows level (row / 256) ∙ s.above.all; each = kept };
                  here = record { small = r; items = met.fits.items (level + 1) (λ c. absurd (omega arith)) };
                  low = omega arith;
                  deep = omega arith;
                  inside = n.inside;
                  short = shorter u;
                  kept = keeps e;
                  read = λ name q. after-token q u e
                      (opened h met (wants b) q ∙ continued-on (row % 256) level from _ m k (omega (arith, one_deeper))
                      ∙ ap (λ d. prefixed (bytes_of m) (parse name word_limits (length words) (tokens_from words to) (row_goals m.row d ++ wanted rows (row / 256) level) left)) one_deeper
                      ∙ ap (λ g. prefixed (bytes_of m) (parse name word_limits (length words) (tokens_from words to) g left))
                      (sym (pushed rows (row / 256) m.row level s.low (omega (arith, s.above.all)))));
                }
              where
                kept : (k : ℕ) → k < level + 1 → Row k (get_or (set rows level (row / 256)) k 0)
                kept k i = elim (dec_lt k level) [
                  | yes l ↦ subst (Row k) (sym (get_or-set_other rows level k (row / 256) 0 (λ c. absurd (omega arith)))) (s.above.each k l)
                  | no l ↦ (let c : level ≡ k = omega arith in
                      subst (λ j. Row j (get_or (set rows level (row / 256)) j 0)) c
                      (subst (Row level) (sym (get_or-set_same rows level (row / 256) 0 (omega (arith, s.above.all, s.deep))))
                      (row-rest level row s.here z)))
                ]

          -- The steps after a step, or a rule, at the level of the row.
          pub on-level : {size' : ℕ} {codes' : List ℕ} → 14 ≤ row % 256 → m.row < 2 ^ 64 → size' ≡ size + m.size → codes' ≡ filled_from size (bytes_of m) codes
              → Reading rows level m.row left to size' codes'
          on-level k r u e =
              record {
                above = s.above;
                here = record { small = r; items = met.fits.items level first.closing };
                low = s.low;
                deep = s.deep;
                inside = n.inside;
                short = shorter u;
                kept = keeps e;
                read = λ name q. after-token q u e
                    (opened h met (wants-last k) q ∙ continued-on (row % 256) level from _ m (omega arith) (omega (arith, own, s.deep))
                    ∙ ap (λ d. prefixed (bytes_of m) (parse name word_limits (length words) (tokens_from words to) (row_goals m.row d ++ goals_above rows level) left)) own);
              }
            where
              own : level_of (row % 256) level ≡ level
              own = unfold level_of in rw (lt-leb (row % 256) 13 (omega arith))

    -- The answers.
    abbrev pub Answered : Result ℕ Refusal → List ℕ → Type 0
    Answered r out = ((name : Naming) → Holds table name → result_asked r ≡ written_length (parse_text word_limits name words (row_goals begin 1) rules))
        × ((name : Naming) → Holds table name → (bytes : List ℕ) → parse_text word_limits name words (row_goals begin 1) rules ≡ passed bytes → out ≡ filled_from 0 bytes codes₀)

    module _ (x : Asked (List ℕ)) (f : (name : Naming) → Holds table name → to_read name rows level row left at ≡ x) (name : Naming) (h : Holds table name) where
      whole_is : parse_text word_limits name words (row_goals begin 1) rules ≡ prefixed (s.read name h).bytes x
      whole_is = (s.read name h).whole ∙ ap (prefixed (s.read name h).bytes) (f name h)

    pub refuses : (r : Refusal) {out : List ℕ} → ((name : Naming) → Holds table name → to_read name rows level row left at ≡ refused (refusal_number_def r) (refusal_place_def r)) → Answered (Err r) out
    unfolding prefixed written_length ◌>>=◌
    refuses r f =
        (λ name h. sym (ap written_length (whole_is _ f name h)), λ name h bytes e. absurd (let z : ◌≡◌ {A = ℕ} 0 1 = cc (whole_is _ f name h) in omega arith))

    pub passes : {total : ℕ} {out : List ℕ} (last : List ℕ) → ((name : Naming) → Holds table name → to_read name rows level row left at ≡ passed last)
        → total ≡ size + length last → out ≡ filled_from size last codes → Answered (Ok total) out
    unfolding prefixed written_length ◌>>=◌
    passes last f t e = (
      λ name h. ap passed (let c = (s.read name h).count in omega (arith, length-append (s.read name h).bytes last)) ∙ sym (ap written_length (whole_is _ f name h)),
      λ name h bytes b.
          let g = s.read name h in
          let z : size ≡ 0 + length g.bytes = omega (arith, g.count) in
          let same : g.bytes ++ last ≡ bytes = cc (whole_is _ f name h) in
          e ∙ ap₂ (λ n c. filled_from n last c) z g.put ∙ filled_more 0 g.bytes last codes₀ ∙ ap (λ l. filled_from 0 l codes₀) same,
    )

    -- The text ends although an item is wanted.
    pub ends-text : {from to : ℕ} {r : Result ℕ Refusal} {out : List ℕ} → Next words at from to → (row ≡ 0 → ⊥) → length words ≤ from
        → r ≡ cond (eqb (row % 256) 16) (Ok (size + 1)) (Err (WordsEnd from)) → (row % 256 ≡ 16 → out ≡ filled_from size (0x30 ∷ []) codes) → Answered r out
    ends-text {from = from} {out = out} n z h e f = subst (λ r. Answered r out) (sym e) (go (eqb (row % 256) 16) refl) where
      go : (b : Bool) → eqb (row % 256) 16 ≡ b → Answered (cond b (Ok (size + 1)) (Err (WordsEnd from))) out
      go true q = passes (0x30 ∷ []) (λ name o. steps-closed n z h (eqb-true (row % 256) 16 q) name) refl (f (eqb-true (row % 256) 16 q))
      go false q = refuses (WordsEnd from) (λ name o. token-missing n z h (eqb-false (row % 256) 16 q) name)
