-- The last step of a name, by the links of the steps on the stack.
use mathlib.Core.Path.{◌≡◌, refl, sym, ap, ap₂, ◌∙◌, subst}
use mathlib.Core.Bool.{Bool, true, false, cond}
use mathlib.Core.List.{List, [], ◌∷◌}
use mathlib.Core.Logic.{◌⊎◌, inl, inr, ⊎_elim}
use Rattle.std.specs.Prelude.{Option, None, Some}
use Prim.Native.Nat.{ℕ, zero, suc, ◌+◌, ◌-◌, ◌<◌, ◌≤◌}
use native.Mathlib.Omega.{arith}
use native.Mathlib.Decide.{dec_lt}
use native.Mathlib.Numerals.{add-one}
use lib.ListN.{length, get_or, set, replicate, get_or-replicate}
use lib.Seq.{get_or-set_same, get_or-set_other}
use Rattle.tree.specs.Tree.{name, graft, same}
use Rattle.tree.specs.Stack.{Substitution, env, becomes, touched}
use Rattle.tree.proofs.Measured.{same-eq}
use Rattle.tree.proofs.Written.{env-hit, env-miss}
use Rattle.ends.specs.Shapes.{Named, cell}
use Rattle.ends.specs.Kept.{Kept}
use Rattle.ends.proofs.NameCells.{named-lt, stored-name}
use Rattle.write.proofs.WorkParts.{part_at, part_length, part_in, part-before, part-behind, WorkIs}
use Rattle.ends.proofs.Kept.{kept_set, kept_more}
use Rattle.write.proofs.Notes.{notes-set, notes-more}
use Rattle.write.specs.Offsets.{StepAt, StackIs}
use Rattle.write.specs.Work.{work_length, last_of, stack_of, links_of, behind_of}
use Rattle.write.specs.Links.{link_to, code_at, number_at, last_in, Linked, LinkedIn, SomeLinks, link_step, Relinked, SameNotes}

module _ (edit stack : List ℕ) where
  abbrev hits : ℕ → ℕ → ℕ → Bool
  hits j c k = same c k (code_at edit (get_or stack j 0)) (number_at edit (get_or stack j 0))

  -- the last of one more step
  last-case : (m c k : ℕ) → ((hits m c k ≡ true) × (last_in edit stack (suc m) c k ≡ suc m)) ⊎ (last_in edit stack (suc m) c k ≡ last_in edit stack m c k)
  unfolding last_in
  last-case m c k = go (hits m c k) refl where
    go : (b : Bool) → hits m c k ≡ b → ((hits m c k ≡ true) × (cond b (suc m) (last_in edit stack m c k) ≡ suc m)) ⊎ (cond b (suc m) (last_in edit stack m c k) ≡ last_in edit stack m c k)
    go true h = inl (h, refl)
    go false h = inr refl

  last-low : (m c k : ℕ) → last_in edit stack m c k ≤ m
  unfolding last_in
  last-low zero c k = omega arith
  last-low (suc m) c k = ⊎_elim (λ p. omega (arith, p.1)) (λ e. omega (arith, e, last-low m c k)) (last-case m c k)

  -- the step that it is
  last-hits : (m c k i : ℕ) → last_in edit stack m c k ≡ suc i → (i < m) × (hits i c k ≡ true)
  unfolding last_in
  last-hits zero c k i e = absurd (omega (arith, e))
  last-hits (suc m) c k i e =
      ⊎_elim (λ p. let q : i ≡ m = omega (arith, e, p.1) in (omega (arith, q), rw q p.0)) (λ f. let r = last-hits m c k i (sym f ∙ e) in (omega (arith, r.0), r.1)) (last-case m c k)

  -- none between
  last_same : (m h c k : ℕ) → h ≤ m → last_in edit stack m c k ≤ h → last_in edit stack m c k ≡ last_in edit stack h c k
  unfolding last_in
  last_same zero h c k l e = ap (λ (x : ℕ). last_in edit stack x c k) (let z : 0 ≡ h = omega arith in z)
  last_same (suc m) h c k l e = go (dec_lt h (suc m)) (λ r f. last_same m h c k r f) where
    go : Dec (h < suc m) → (h ≤ m → last_in edit stack m c k ≤ h → last_in edit stack m c k ≡ last_in edit stack h c k) → last_in edit stack (suc m) c k ≡ last_in edit stack h c k
    go (yes r) f = ⊎_elim (λ p. absurd (omega (arith, p.1))) (λ q. q ∙ f (omega arith) (omega (arith, q))) (last-case m c k)
    go (no r) f = ap (λ (x : ℕ). last_in edit stack x c k) (let z : suc m ≡ h = omega arith in z)

-- the step at index j is the last that touches a name
pub record Hit (edit stack : List ℕ) (σ : List Substitution) (c k j : ℕ) : Type 0 where
  pub s : Substitution
  pub below : List Substitution
  pub len : j ≡ length below
  pub at : StepAt edit (get_or stack j 0) s
  pub stands : StackIs edit stack below
  pub is : env σ c k ≡ becomes s.op (env below c k) (graft (env below) s.what)

-- one more than the index of the last step that touches a name, or 0
pub record Found (edit stack : List ℕ) (σ : List Substitution) (c k r : ℕ) : Type 0 where
  pub none : r ≡ 0 → env σ c k ≡ name c k
  pub some : (j : ℕ) → r ≡ suc j → Hit edit stack σ c k j

-- by the steps that stand there
found : (edit stack : List ℕ) (σ : List Substitution) (c k : ℕ) → StackIs edit stack σ → Found edit stack σ c k (last_in edit stack (length σ) c k)
unfolding last_in StackIs env
found edit stack [] c k i = record { none = λ z. refl; some = λ n z. absurd (omega (arith, z)) }
found edit stack (s ∷ τ) c k i = go (hits edit stack (length τ) c k) refl (found edit stack τ c k i.1) where
  so : (b : Bool) → hits edit stack (length τ) c k ≡ b → same c k (touched s.op) s.number ≡ b
  so b h = sym (ap₂ (λ (u v : ℕ). same c k (touched u) v) i.0.op_is i.0.number_is) ∙ h

  go : (b : Bool) → hits edit stack (length τ) c k ≡ b → Found edit stack τ c k (last_in edit stack (length τ) c k) → Found edit stack (s ∷ τ) c k (cond b (suc (length τ)) (last_in edit stack (length τ) c k))
  go true h f = record {
    none = λ z. absurd (omega (arith, z));
    some = λ n z. let q : n ≡ length τ = omega (arith, z) in
        record { s = s; below = τ; len = q; at = subst (λ (x : ℕ). StepAt edit (get_or stack x 0) s) (sym q) i.0; stands = i.1; is = env-hit s τ c k (so true h) };
  }
  go false h f =
      let miss = env-miss s τ c k (so false h) in
      record {
        none = λ z. miss ∙ f.none z;
        some = λ n z. let H = f.some n z in record { s = H.s; below = H.below; len = H.len; at = H.at; stands = H.stands; is = miss ∙ H.is };
      }

pub found_as : {edit stack : List ℕ} {σ : List Substitution} {c k j : ℕ} → j ≡ last_in edit stack (length σ) c k → StackIs edit stack σ → Found edit stack σ c k j
found_as {edit} {stack} {σ} {c} {k} e i = subst (Found edit stack σ c k) (sym e) (found edit stack σ c k i)

-- the previous step of its name, as the work array has it
older-at : {edit work : List ℕ} {h i : ℕ} (c k m : ℕ) (w : SomeLinks edit work h) → i + 1 ≡ last_in edit (stack_of work) m c k → i < w.top → get_or work (1430 + i) 0 ≡ last_in edit (stack_of work) i c k
older-at {edit} {work} {h} {i} c k m w e r =
    let q = last-hits edit (stack_of work) m c k i (omega (arith, e)) in
    let b = same-eq c k _ _ q.1 in
    sym (part_at 1430 1366 work i (1430 + i) (omega (arith, w.room)) refl) ∙ w.linked.olders i r ∙ sym (ap₂ (last_in edit (stack_of work) i) b.0 b.1)

-- the step that the stack has there
pub hit-at : {edit work : List ℕ} {σ : List Substitution} {c k i : ℕ} → SomeLinks edit work (i + 1) → (H : Hit edit (stack_of work) σ c k i) → StepAt edit (get_or work (64 + i) 0) H.s
hit-at {edit} {work} {σ} {c} {k} {i} w H = subst (λ (o : ℕ). StepAt edit o H.s) (part_at 64 1366 work i (64 + i) (omega (arith, w.high, w.room)) refl) H.at

pub hit-older : {edit work : List ℕ} {σ : List Substitution} {c k i : ℕ} → SomeLinks edit work (i + 1) → i + 1 ≡ last_in edit (stack_of work) (length σ) c k → (H : Hit edit (stack_of work) σ c k i)
    → (get_or work (1430 + i) 0 ≡ last_in edit (stack_of work) (length H.below) c k) × (get_or work (1430 + i) 0 ≤ i)
hit-older {edit} {work} {σ} {c} {k} {i} w e H =
    let q = older-at c k (length σ) w e (omega (arith, w.high)) in
    (q ∙ ap (λ (x : ℕ). last_in edit (stack_of work) x c k) H.len, omega (arith, q, last-low edit (stack_of work) i c k))

-- Down the links: j is the last of the first m steps that touches the name.
pub record Following (edit work : List ℕ) (h c k j : ℕ) : Type 0 where
  pub some : SomeLinks edit work h
  pub m : ℕ
  pub above : h ≤ m
  pub below : m ≤ some.top
  pub is : j ≡ last_in edit (stack_of work) m c k

pub following-first : {edit work : List ℕ} {h c k i : ℕ} → SomeLinks edit work h → Named c k → i ≡ cell c k → Following edit work h c k (get_or work i 0)
following-first {edit} {work} {h} {c} {k} {i} w n e = record {
  some = w;
  m = w.top;
  above = w.high;
  below = omega arith;
  is = sym (part_at 0 64 work (cell c k) i (named-lt c k n) (omega (arith, e))) ∙ w.linked.lasts c k n;
}

module _ {edit work : List ℕ} {h c k j : ℕ} (f : Following edit work h c k j) where
  pub following-low : j ≤ 1366
  following-low = omega (arith, f.is, last-low edit (stack_of work) f.m c k, f.below, f.some.room)

  lower-is : h < j → (j - 1 < f.m) × (get_or work (1430 + (j - 1)) 0 ≡ last_in edit (stack_of work) (j - 1) c k)
  lower-is l =
      let e : last_in edit (stack_of work) f.m c k ≡ suc (j - 1) = omega (arith, f.is) in
      let q = last-hits edit (stack_of work) f.m c k (j - 1) e in
      (q.0, older-at c k f.m f.some (omega (arith, f.is)) (omega (arith, q.0, f.below)))

  pub following-more : h < j → Following edit work h c k (get_or work (1430 + (j - 1)) 0)
  following-more l = let q = lower-is l in record { some = f.some; m = j - 1; above = omega arith; below = omega (arith, q.0, f.below); is = q.1 }

  pub following-less : h < j → get_or work (1430 + (j - 1)) 0 < j
  following-less l = omega (arith, (lower-is l).1, last-low edit (stack_of work) (j - 1) c k)

  pub following-end : j ≤ h → j ≡ last_in edit (stack_of work) h c k
  following-end l = f.is ∙ last_same edit (stack_of work) f.m h c k f.above (omega (arith, f.is, l))

pub kept-all : {n : ℕ} {l : List ℕ} → Kept n l l
kept-all = record { same = λ i r. refl }

-- Links are read only below a height.
last-kept : (edit : List ℕ) {stack stack' : List ℕ} (h c k : ℕ) → Kept h stack stack' → last_in edit stack' h c k ≡ last_in edit stack h c k
unfolding last_in
last-kept edit zero c k s = refl
last-kept edit {stack} {stack'} (suc h) c k s =
    ap₂ (λ (o x : ℕ). cond (same c k (code_at edit o) (number_at edit o)) (suc h) x) (s.same h (omega arith)) (last-kept edit h c k (kept_more (omega arith) kept-all s))

pub linked-kept : {edit stack stack' links links' last last' : List ℕ} {h : ℕ} → Kept h stack stack' → Kept h links links' → Kept 64 last last' → Linked edit stack links last h → Linked edit stack' links' last' h
linked-kept {edit} {stack} {stack'} {links} {links'} {last} {last'} {h} s t u w = record {
  lasts = λ c k n. u.same (cell c k) (named-lt c k n) ∙ w.lasts c k n ∙ sym (last-kept edit h c k s);
  olders = λ j l. t.same j l ∙ w.olders j l ∙ sym (last-kept edit j (code_at edit (get_or stack j 0)) (number_at edit (get_or stack j 0)) (kept_more (omega arith) kept-all s)) ∙ ap (λ (o : ℕ). last_in edit stack' j (code_at edit o) (number_at edit o)) (sym (s.same j l));
}

-- the cell of the name that the step at a place touches
abbrev cell_at : (edit : List ℕ) → ℕ → ℕ
cell_at edit at = cell (code_at edit at) (number_at edit at)

-- one more step
module _ (edit : List ℕ) (at h : ℕ) {stack links last : List ℕ} (room : h < length stack) (wide : h < length links) (long : length last ≡ 64) (n : Named (code_at edit at) (number_at edit at)) (w : Linked edit stack links last h) where
  linked-set : Linked edit (set stack h at) (set links h (get_or last (cell_at edit at) 0)) (set last (cell_at edit at) (h + 1)) (h + 1)
  unfolding last_in
  linked-set = record { lasts = lasts; olders = λ j l. older j l (dec_lt j h) } where
    below : Linked edit (set stack h at) (set links h (get_or last (cell_at edit at) 0)) last h
    below = linked-kept (kept_set stack h at) (kept_set links h (get_or last (cell_at edit at) 0)) kept-all w

    here : get_or (set stack h at) h 0 ≡ at
    here = get_or-set_same stack h at 0 room

    lasts : (c k : ℕ) → Named c k → get_or (set last (cell_at edit at) (h + 1)) (cell c k) 0 ≡ last_in edit (set stack h at) (h + 1) c k
    lasts c k m =
        stored-name last 0 n (omega arith) (omega (arith, named-lt _ _ n)) (λ u v b. cond b (suc h) (last_in edit (set stack h at) h u v)) (add-one h) c k _ m (omega arith) (below.lasts c k m)
        ∙ ap (λ (o : ℕ). cond (same c k (code_at edit o) (number_at edit o)) (suc h) (last_in edit (set stack h at) h c k)) (sym here) ∙ ap (λ (x : ℕ). last_in edit (set stack h at) x c k) (sym (add-one h))

    older : (j : ℕ) → j < h + 1 → Dec (j < h) → get_or (set links h (get_or last (cell_at edit at) 0)) j 0 ≡ last_in edit (set stack h at) j (code_at edit (get_or (set stack h at) j 0)) (number_at edit (get_or (set stack h at) j 0))
    older j l (yes r) = below.olders j r
    older j l (no r) =
        let q : j ≡ h = omega (arith, l, r) in
        rw (q, here) (get_or-set_same links h (get_or last (cell_at edit at) 0) 0 wide ∙ below.lasts (code_at edit at) (number_at edit at) n)

-- the step at `at` put on the stack of the work array and linked
module _ (edit : List ℕ) (at h : ℕ) (work : List ℕ) {work' : List ℕ} (low : h < 1366) (long : length work ≡ work_length) (n : Named (code_at edit at) (number_at edit at)) (e : work' ≡ link_step edit at h (set work (64 + h) at)) where
  abbrev i : ℕ
  i = cell_at edit at

  abbrev one : List ℕ
  one = set work (64 + h) at

  abbrev two : List ℕ
  two = set one (1430 + h) (get_or one i 0)

  under : i < 64
  under = named-lt (code_at edit at) (number_at edit at) n

  pub work-is : WorkIs work' (set (last_of work) i (h + 1)) (set (stack_of work) h at) (set (links_of work) h (get_or (last_of work) i 0)) (behind_of work)
  work-is = rw e (record {
    last-is = part_in 0 64 two i (h + 1) i under (omega arith) ∙ ap (λ (l : List ℕ). set l i (h + 1)) (part-behind 0 64 one (1430 + h) (get_or one i 0) (omega arith) ∙ part-behind 0 64 work (64 + h) at (omega arith));
    stack_is = part-before 64 1366 two i (h + 1) under ∙ part-behind 64 1366 one (1430 + h) (get_or one i 0) (omega arith) ∙ part_in 64 1366 work (64 + h) at h low refl;
    links-are = part-before 1430 1366 two i (h + 1) (omega (arith, under)) ∙ part_in 1430 1366 one (1430 + h) (get_or one i 0) h low refl ∙ ap₂ (λ (l : List ℕ) (x : ℕ). set l h x) (part-before 1430 1366 work (64 + h) at (omega arith))
        (get_or-set_other work (64 + h) i at 0 (λ q. omega (arith, under)) ∙ sym (part_at 0 64 work i i under (omega arith)));
    behind-is = part-before 2796 2048 two i (h + 1) (omega (arith, under)) ∙ part-before 2796 2048 one (1430 + h) (get_or one i 0) (omega arith) ∙ part-before 2796 2048 work (64 + h) at (omega arith);
  })

  notes : SameNotes work work'
  notes = rw e (notes-more (notes-set work (64 + h) at (omega arith)) (notes-more (notes-set one (1430 + h) (get_or one i 0) (omega arith)) (notes-set two i (h + 1) (omega (arith, under)))))

  pub linked-more : LinkedIn edit work h → Relinked edit work work' h (h + 1)
  linked-more w =
      let q = linked-set edit at h (omega (arith, part_length 64 1366 work (omega (arith, long)), low)) (omega (arith, part_length 1430 1366 work (omega (arith, long)), low)) (part_length 0 64 work (omega (arith, long))) n w in
      record { linked = rw (work-is.stack_is, work-is.links-are, work-is.last-is) q; kept = rw work-is.links-are (kept_set (links_of work) h (get_or (last_of work) i 0)); behind_same = work-is.behind-is; notes_same = notes }

pub relinked-none : {edit work : List ℕ} {h : ℕ} → LinkedIn edit work h → Relinked edit work work h h
relinked-none w = record { linked = w; kept = kept-all; behind_same = refl; notes_same = record { same = λ k m. refl } }

pub relinked-more : {edit work work₁ work₂ : List ℕ} {h h₁ h₂ : ℕ} → h ≤ h₁ → Relinked edit work work₁ h h₁ → Relinked edit work₁ work₂ h₁ h₂ → Relinked edit work work₂ h h₂
relinked-more l a b = record { linked = b.linked; kept = kept_more l a.kept b.kept; behind_same = b.behind_same ∙ a.behind_same; notes_same = notes-more a.notes_same b.notes_same }

-- no step, where the last step of each name is none
pub linked-none : (edit work : List ℕ) → Kept 64 (replicate 64 0) (last_of work) → LinkedIn edit work 0
unfolding last_in
linked-none edit work s = record { lasts = λ c k n. s.same (cell c k) (named-lt c k n) ∙ get_or-replicate 64 (cell c k) 0 0 (named-lt c k n); olders = λ j l. absurd (omega (arith, l)) }

pub links-lower : {edit work : List ℕ} {h h' : ℕ} → h' ≤ h → SomeLinks edit work h → SomeLinks edit work h'
links-lower l w = record { top = w.top; high = omega (arith, l, w.high); room = w.room; long = w.long; linked = w.linked }

-- the step that a link names
pub no-link : {r : Option ℕ} {l : ℕ} → link_to r ≡ l → r ≡ None → l ≡ 0
unfolding link_to
no-link e n = sym e ∙ ap link_to n

pub some-link : {r : Option ℕ} {l i : ℕ} → link_to r ≡ l → r ≡ Some i → i + 1 ≡ l
unfolding link_to
some-link e n = sym (ap link_to n) ∙ e
