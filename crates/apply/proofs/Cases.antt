-- The first step of an edit that stands in a text, by its code: its parts, and what it does to a graph.
use mathlib.Core.Path.{◌≡◌, refl, sym, ap, ◌∙◌, subst}
use mathlib.Core.Bool.{cond}
use mathlib.Core.List.{List, [], ◌∷◌, ◌++◌, append_assoc}
use Prim.Native.Nat.{ℕ, ◌+◌, ◌≤◌, ◌<◌}
use native.Mathlib.Omega.{arith}
use lib.Dec.{ltb→lt}
use lib.ListN.{length, get_or, drop, length-append}
use Rattle.logic.specs.Syntax.{Sort, node, arrow, rule, Expr, Edit, finish, add_label, take_label, add_arrow, take_arrow, choose}
use Rattle.logic.specs.Graph.{Graph, Nodes, Pairs}
use Rattle.logic.specs.Meaning.{Value, value}
use Rattle.logic.specs.Steps.{relabel, rejoin, run}
use Rattle.logic.specs.Limits.{Within, Ranges, InRange, EditInRange, label_count, arrow_count}
use Rattle.logic.proofs.Inside.{taken_label, run_within}
use Rattle.rows.specs.Operations.{arrow_operation}
use Rattle.text.specs.Code.{code, edit_code}
use Rattle.text.specs.Stands.{Stands, EditStands}
use Rattle.ends.specs.Edits.{behind_step}
use Rattle.text.proofs.StandingLaws.{byte_at, behind}
use Rattle.ends.proofs.FirstSteps.{edit_tag, tag-edit, edit-inside, from, as-finish}
use Rattle.apply.specs.Made.{label_operation, arrow_code_def}

-- What a step with the code c does to a label, and to an arrow.
abbrev pub label_made : ℕ → Graph → ℕ → Nodes → Graph
label_made c g k v = relabel g k (λ i. label_operation c (g.labelled k i) (v i))

abbrev pub arrow_made : ℕ → Graph → ℕ → Pairs → Graph
arrow_made c g a v = rejoin g a (λ i j. arrow_operation (arrow_code_def c) (g.joined a i j) (v i j))

-- A step 31 to 34: a number below a limit, an expression, and the graph that the step makes from them.
pub record IsStep (r : Ranges) (text : List ℕ) (at : ℕ) (Z : Edit) (s : Sort) (limit : ℕ) (made : ℕ → Graph → ℕ → Value s → Graph) : Type 0 where
  pub number : ℕ
  pub what : Expr s
  pub reads : get_or text (at + 1) 0 ≡ number
  pub range : number < limit
  pub room : at + 2 < length text
  pub first : Stands r text (at + 2) what
  pub next : (p : ℕ) → p ≡ at + 2 + length (code what) → EditStands r text p (behind_step Z)
  pub long : length (edit_code Z) ≡ 2 + length (code what) + length (edit_code (behind_step Z))
  pub runs : (g : Graph) → Within g → run Z g ≡ run (behind_step Z) (made (get_or text at 0) g number (value g what))
  pub keeps : (g : Graph) → Within g → Within (made (get_or text at 0) g number (value g what))

-- A step 35: a rule and two ways.
pub record IsChoose (r : Ranges) (text : List ℕ) (at : ℕ) (Z : Edit) : Type 0 where
  pub K : Expr rule
  pub P : Edit
  pub Q : Edit
  pub what : Stands r text (at + 1) K
  pub first : (p : ℕ) → p ≡ at + 1 + length (code K) → EditStands r text p P
  pub second : (p : ℕ) → p ≡ at + 1 + length (code K) + length (edit_code P) → EditStands r text p Q
  pub next : (p : ℕ) → p ≡ at + 1 + length (code K) + length (edit_code P) + length (edit_code Q) → EditStands r text p (behind_step Z)
  pub long : length (edit_code Z) ≡ 1 + length (code K) + length (edit_code P) + length (edit_code Q) + length (edit_code (behind_step Z))
  pub runs : (g : Graph) → run Z g ≡ run (behind_step Z) (cond (value g K) (run P g) (run Q g))

module _ (r : Ranges) (text : List ℕ) (at : ℕ) where
  abbrev Here : Edit → Type 0
  Here Z = EditStands r text at Z

  pub edit-byte : (Z : Edit) → Here Z → get_or text at 0 ≡ edit_tag Z
  edit-byte Z h = tag-edit text at Z (record { limits = r; place = h })

  pub starts-inside : (Z : Edit) → Here Z → at < length text
  starts-inside Z h = edit-inside text at Z (record { limits = r; place = h })

  pub is-finish : (Z : Edit) → Here Z → get_or text at 0 ≤ 0x30 → Z ≡ finish
  is-finish Z h m = as-finish text at Z (record { limits = r; place = h }) (go Z (edit-byte Z h)) where
    go : (Y : Edit) → get_or text at 0 ≡ edit_tag Y → get_or text at 0 ≡ 0x30
    go finish e = e
    go (add_label k E Y) e = absurd (omega arith)
    go (take_label k E Y) e = absurd (omega arith)
    go (add_arrow a R Y) e = absurd (omega arith)
    go (take_arrow a R Y) e = absurd (omega arith)
    go (choose K P Q Y) e = absurd (omega arith)

  module _ {s : Sort} (limit : ℕ) (made : ℕ → Graph → ℕ → Value s → Graph) (Z : Edit) (h : Here Z) where
    is-step : (c k : ℕ) (E : Expr s) → edit_code Z ≡ c ∷ k ∷ code E ++ edit_code (behind_step Z) → edit_tag Z ≡ c → k < limit → InRange r E → EditInRange r (behind_step Z)
        → ((g : Graph) → Within g → run Z g ≡ run (behind_step Z) (made c g k (value g E))) → ((g : Graph) → Within g → Within (made c g k (value g E)))
        → IsStep r text at Z s limit made
    is-step c k E w t l i q f m =
        let Y = behind_step Z in
        let d : drop at text ≡ c ∷ k ∷ (code E ++ (edit_code Y ++ h.rest)) = h.here ∙ ap (◌++ h.rest) w ∙ ap (λ (x : List ℕ). c ∷ k ∷ x) (append_assoc (code E) (edit_code Y) h.rest) in
        let e : drop (at + 2) text ≡ code E ++ (edit_code Y ++ h.rest) = behind text at (c ∷ k ∷ []) (code E ++ (edit_code Y ++ h.rest)) d in
        let b : c ≡ get_or text at 0 = sym (edit-byte Z h ∙ t) in
        let next : (p : ℕ) → p ≡ at + 2 + length (code E) → EditStands r text p Y = λ p n. record { rest = h.rest; here = from text (at + 2) (code E) (edit_code Y ++ h.rest) e p n; range = q } in
        record {
          number = k;
          what = E;
          reads = byte_at text (at + 1) k (code E ++ (edit_code Y ++ h.rest)) (behind text at (c ∷ []) (k ∷ (code E ++ (edit_code Y ++ h.rest))) d);
          range = l;
          room = omega (arith, edit-inside text (at + 2 + length (code E)) Y (record { limits = r; place = next _ refl }));
          first = record { rest = edit_code Y ++ h.rest; here = e; range = i };
          next = next;
          long = omega (arith, ap length w, length-append (c ∷ k ∷ code E) (edit_code Y));
          runs = λ g v. subst (λ (x : ℕ). run Z g ≡ run Y (made x g k (value g E))) b (f g v);
          keeps = λ g v. subst (λ (x : ℕ). Within (made x g k (value g E))) b (m g v);
        }

  pub as-label : (Z : Edit) → Here Z → 0x30 < get_or text at 0 → get_or text at 0 ≤ 0x32 → IsStep r text at Z node label_count label_made
  unfolding edit_code EditInRange behind_step run
  as-label finish h a b = absurd (omega (arith, edit-byte finish h))
  as-label (add_label k E Z) h a b =
      is-step label_count label_made (add_label k E Z) h 0x31 k E refl refl (ltb→lt k label_count h.range.0) h.range.1 h.range.2
      (λ g w. refl) (λ g w. run_within r (add_label k E finish) (h.range.0, h.range.1, tt) g w)
  as-label (take_label k E Z) h a b =
      is-step label_count label_made (take_label k E Z) h 0x32 k E refl refl (ltb→lt k label_count h.range.0) h.range.1 h.range.2
      (λ g w. taken_label g w k E Z) (λ g w. subst Within (taken_label g w k E finish) (run_within r (take_label k E finish) (h.range.0, h.range.1, tt) g w))
  as-label (add_arrow k R Z) h a b = absurd (omega (arith, edit-byte (add_arrow k R Z) h))
  as-label (take_arrow k R Z) h a b = absurd (omega (arith, edit-byte (take_arrow k R Z) h))
  as-label (choose K P Q Z) h a b = absurd (omega (arith, edit-byte (choose K P Q Z) h))

  pub as-arrow : (Z : Edit) → Here Z → 0x32 < get_or text at 0 → get_or text at 0 ≤ 0x34 → IsStep r text at Z arrow arrow_count arrow_made
  unfolding edit_code EditInRange behind_step run
  as-arrow finish h a b = absurd (omega (arith, edit-byte finish h))
  as-arrow (add_label k E Z) h a b = absurd (omega (arith, edit-byte (add_label k E Z) h))
  as-arrow (take_label k E Z) h a b = absurd (omega (arith, edit-byte (take_label k E Z) h))
  as-arrow (add_arrow k R Z) h a b =
      is-step arrow_count arrow_made (add_arrow k R Z) h 0x33 k R refl refl (ltb→lt k arrow_count h.range.0) h.range.1 h.range.2
      (λ g w. refl) (λ g w. run_within r (add_arrow k R finish) (h.range.0, h.range.1, tt) g w)
  as-arrow (take_arrow k R Z) h a b =
      is-step arrow_count arrow_made (take_arrow k R Z) h 0x34 k R refl refl (ltb→lt k arrow_count h.range.0) h.range.1 h.range.2
      (λ g w. refl) (λ g w. run_within r (take_arrow k R finish) (h.range.0, h.range.1, tt) g w)
  as-arrow (choose K P Q Z) h a b = absurd (omega (arith, edit-byte (choose K P Q Z) h))

  pub as-choose : (Z : Edit) → Here Z → 0x34 < get_or text at 0 → IsChoose r text at Z
  unfolding edit_code EditInRange behind_step run
  as-choose finish h a = absurd (omega (arith, edit-byte finish h))
  as-choose (add_label k E Z) h a = absurd (omega (arith, edit-byte (add_label k E Z) h))
  as-choose (take_label k E Z) h a = absurd (omega (arith, edit-byte (take_label k E Z) h))
  as-choose (add_arrow k R Z) h a = absurd (omega (arith, edit-byte (add_arrow k R Z) h))
  as-choose (take_arrow k R Z) h a = absurd (omega (arith, edit-byte (take_arrow k R Z) h))
  as-choose (choose K P Q Z) h a =
      let z : List ℕ = edit_code Z ++ h.rest in
      let d : drop at text ≡ 0x35 ∷ (code K ++ (edit_code P ++ (edit_code Q ++ z))) =
      h.here
      ∙ append_assoc ((0x35 ∷ code K) ++ edit_code P ++ edit_code Q) (edit_code Z) h.rest
      ∙ append_assoc ((0x35 ∷ code K) ++ edit_code P) (edit_code Q) z
      ∙ append_assoc (0x35 ∷ code K) (edit_code P) (edit_code Q ++ z) in
      let dK : drop (at + 1) text ≡ code K ++ (edit_code P ++ (edit_code Q ++ z)) = behind text at (0x35 ∷ []) (code K ++ (edit_code P ++ (edit_code Q ++ z))) d in
      let dP = from text (at + 1) (code K) (edit_code P ++ (edit_code Q ++ z)) dK in
      let dQ = from text (at + 1 + length (code K)) (edit_code P) (edit_code Q ++ z) (dP _ refl) in
      let dZ = from text (at + 1 + length (code K) + length (edit_code P)) (edit_code Q) z (dQ _ refl) in
      record {
        K = K;
        P = P;
        Q = Q;
        what = record { rest = edit_code P ++ (edit_code Q ++ z); here = dK; range = h.range.0 };
        first = λ p n. record { rest = edit_code Q ++ z; here = dP p n; range = h.range.1 };
        second = λ p n. record { rest = z; here = dQ p n; range = h.range.2 };
        next = λ p n. record { rest = h.rest; here = dZ p n; range = h.range.3 };
        long = omega (arith, length-append ((0x35 ∷ code K) ++ edit_code P ++ edit_code Q) (edit_code Z), length-append ((0x35 ∷ code K) ++ edit_code P) (edit_code Q), length-append (0x35 ∷ code K) (edit_code P));
        runs = λ g. refl;
      }
