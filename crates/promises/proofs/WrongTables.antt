-- The place of 63.
use mathlib.Core.Path.{◌≡◌, sym, ◌∙◌, ap, subst}
use mathlib.Core.List.{List, [], ◌∷◌, ◌++◌}
use mathlib.Core.Logic.{◌⊎◌, inl, inr}
use Prim.Native.Nat.{ℕ, ◌≤◌, ◌<◌}
use native.Mathlib.Omega.{arith}
use lib.ListN.{length}
use Rattle.answer.specs.Asked.{refused}
use Rattle.logic.proofs.ListLaws.{all_append}
use Rattle.names.specs.Token.{Token, Found, found, absent}
use Rattle.names.specs.Scan.{Placed, tokens_of}
use Rattle.names.specs.Names.{Entry, ask_names}
use Rattle.names.proofs.NameLaws.{table-refused}
use Rattle.names.proofs.PlaceLaws.{Inside, tokens-inside}
use Rattle.names.proofs.TableFaults.{entries, BegunTable, NoTableAt, table_fault, table-entries, spaced, spaced-tokens, spaced-passes}
use Rattle.notation.specs.Faults.{Begun, WrongAt}
use Rattle.promises.specs.Words.{TableOf, AllNamed, WrongTable}

no_table : {ts : List Token} {text : List ℕ} → entries ts [] ≡ absent → TableOf text ts → ⊥
no_table {ts} {text} e t =
    let f : ◌≡◌ {A = Found (List Entry)} (found t.names) absent = sym (table-entries text t.passes) ∙ ap (λ z. entries z []) t.tokens_are ∙ e in
    let z : ◌≡◌ {A = ℕ} 0 1 = cc in
    absurd (omega arith)

abbrev spaced-table : (ts : List Token) (names : List Entry) → entries ts [] ≡ found names → TableOf (spaced ts) ts
spaced-table ts names e = record { names = names; passes = spaced-passes ts e; tokens_are = spaced-tokens ts e }

begun : (ts : List Token) → BegunTable ts [] → Begun (λ l. TableOf) ts ⊎ AllNamed ts
begun ts (inl b) = inl (record { more = b.more; bytes = spaced (ts ++ b.more); spelled = spaced-table (ts ++ b.more) b.names b.passes })
begun ts (inr b) =
    inr (record {
      table = spaced b.whole;
      entries = b.whole;
      sort = b.sort;
      is = b.is;
      table_is = spaced-table b.whole b.names b.passes;
      kind = b.kind;
      is_sort = b.is_sort;
      all_named = b.all_named;
    })

wrong : (end : ℕ) (before rest : List Placed) (p : ℕ) → NoTableAt end before rest [] p → WrongAt (λ l. TableOf) end before rest p
wrong end before [] p w = (w.0, λ text t. no_table w.1 t)
wrong end before (t ∷ rest) p w = (w.0, λ text more u. no_table (w.1 more) u)

inside : (end : ℕ) (before rest : List Placed) (p : ℕ) → Inside end (before ++ rest) → NoTableAt end before rest [] p → p ≤ end
inside end before [] p i w = omega (arith, w.0)
inside end before (t ∷ rest) p i w = omega (arith, w.0, (all_append (λ t. t.place < end) before (t ∷ rest) i).1.0)

pub wrong_table : (table : List ℕ) (q p : ℕ) → ask_names table ≡ refused q p → (q ≡ 63) × (p ≤ length table) × WrongTable table p
wrong_table table q p e =
    let f = table_fault table e in (
      table-refused table e,
      inside (length table) f.before f.rest p (subst (Inside (length table)) f.is (tokens-inside table)) f.wrong,
      record { before = f.before; rest = f.rest; is = f.is; begun = begun (tokens_of f.before) f.begun; wrong = wrong (length table) f.before f.rest p f.wrong },
    )
