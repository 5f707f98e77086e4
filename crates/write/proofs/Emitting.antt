-- A name and an expression written under the steps passed, from their parts.
use mathlib.Core.Path.{◌≡◌, refl, sym, ap, ap₂, ◌∙◌, subst}
use mathlib.Core.Bool.{Bool, true, false, cond}
use mathlib.Core.List.{List, [], ◌∷◌, ◌++◌, append_assoc, append-nil}
use Prim.Native.Nat.{ℕ, ◌+◌, ◌-◌, ◌/◌, ◌%◌, ◌≤◌, ◌<◌}
use native.Mathlib.Omega.{arith}
use lib.Dec.{eqb}
use lib.ListN.{length, get_or, set, take, drop, length-append}
use lib.Seq.{take-append_seam}
use Rattle.tree.specs.Tree.{Tree, name, leaf, one, two, tree_code, graft, size}
use Rattle.tree.specs.Stack.{Substitution, env, lead, inner}
use Rattle.tree.proofs.Written.{code-becomes}
use Rattle.ends.specs.Shapes.{At, Named, shape_of}
use Rattle.ends.proofs.TreePlaces.{IsName, as-name, tag, tag_at}
use Rattle.ends.proofs.Pending.{head_of, parts_of, texts, texts-append, code-opened, Pending, pending-one, First, first, Turn, turn, To, Passing, passing-first, passing-more, passing-end}
use Rattle.write.specs.Laid.{Wrote}
use Rattle.write.specs.Offsets.{StackIs}
use Rattle.write.specs.Work.{stack_of}
use Rattle.write.specs.Links.{last_in, SomeLinks}
use Rattle.write.proofs.Finding.{Hit, Found, found_as, hit-at, hit-older}
use Rattle.write.specs.Writing.{SomeName, SomeShown}
use Rattle.write.proofs.Laying.{wrote_none, wrote_one, wrote-more, wrote_as}

-- A name that no step touches, and one that the step at index j touches last.
pub untouched : {edit stack : List ℕ} {σ : List Substitution} {c k r : ℕ} → Found edit stack σ c k r → r ≡ 0 → c ∷ k ∷ [] ≡ tree_code (env σ c k)
untouched f e = unfold tree_code in sym (ap tree_code (f.none e))

inner_first : (b : ℕ) (l : List ℕ) → inner b l ≡ inner b [] ++ l
inner_first b l = go (eqb b 0x32) where
  go : (t : Bool) → cond t (0x05 ∷ l) l ≡ cond t (0x05 ∷ []) [] ++ l
  go true = refl
  go false = refl

module _ {edit stack : List ℕ} {σ : List Substitution} {c k j : ℕ} (H : Hit edit stack σ c k j) (op : ℕ) (e : op ≡ H.s.op) where
  hit-bytes : ((lead op ∷ []) ++ tree_code (env H.below c k)) ++ inner op [] ++ tree_code (graft (env H.below) H.s.what) ≡ tree_code (env σ c k)
  hit-bytes =
      let x : List ℕ = tree_code (env H.below c k) in
      let y : List ℕ = tree_code (graft (env H.below) H.s.what) in
      append_assoc (lead op ∷ x) (inner op []) y ∙ ap (λ (l : List ℕ). (lead op ∷ x) ++ l) (sym (inner_first op y))
      ∙ ap (λ (b : ℕ). (lead b ∷ x) ++ inner b y) e
      ∙ sym (code-becomes H.s.op (env H.below c k) (graft (env H.below) H.s.what)) ∙ sym (ap tree_code H.is)

  pub hit-wrote : {o o₁ o₂ o₃ : List ℕ} {pos b p q r : ℕ} → b ≡ lead op → Wrote (set o pos b) (pos + 1) (tree_code (env H.below c k)) p o₁ → Wrote o₁ p (inner op []) q o₂
      → Wrote o₂ q (tree_code (graft (env H.below) H.s.what)) r o₃ → Wrote o pos (tree_code (env σ c k)) r o₃
  hit-wrote {o} {o₁} {o₂} {o₃} {pos} {b} {p} {q} {r} f u v w = wrote_as hit-bytes (wrote-more (wrote-more (wrote-more (wrote_as (ap (λ (n : ℕ). n ∷ []) f) (wrote_one o pos b)) u) v) w)

-- What writing a name leaves, whatever the steps of which the one below index j is the last that touches it.
pub record NameWrote (edit stack : List ℕ) (j c k : ℕ) (o : List ℕ) (pos pos' : ℕ) (o' : List ℕ) : Type 0 where
  pub each : (σ : List Substitution) → j ≡ last_in edit stack (length σ) c k → StackIs edit stack σ → Wrote o pos (tree_code (env σ c k)) pos' o'
  pub long : length o' ≡ length o

-- where none touches it
pub bare-wrote : {edit stack o o' : List ℕ} {j c k pos pos' : ℕ} → j ≡ 0 → Wrote o pos (c ∷ k ∷ []) pos' o' → length o' ≡ length o → NameWrote edit stack j c k o pos pos' o'
bare-wrote e u l = record { each = λ σ f i. wrote_as (untouched (found_as f i) e) u; long = l }

pub bare-room : {edit stack : List ℕ} {j c k pos room : ℕ} → SomeName edit stack j c k pos room → j ≡ 0 → pos + 2 ≤ room
bare-room w e = omega (arith, w.fits, ap length (untouched (found_as w.is w.stands) e))

-- where the one at index i does
pub named-wrote : {edit stack o o' : List ℕ} (i : ℕ) {j c k pos pos' : ℕ} → i + 1 ≡ j → ((σ : List Substitution) → i + 1 ≡ last_in edit stack (length σ) c k → StackIs edit stack σ → Wrote o pos (tree_code (env σ c k)) pos' o') → length o' ≡ length o
    → NameWrote edit stack j c k o pos pos' o'
named-wrote i e f l = record { each = λ σ a. f σ (e ∙ a); long = l }

pub some-as : {edit stack : List ℕ} (i : ℕ) {j c k pos room : ℕ} → i + 1 ≡ j → SomeName edit stack j c k pos room → SomeName edit stack (i + 1) c k pos room
some-as i e w = record { steps = w.steps; is = e ∙ w.is; stands = w.stands; fits = w.fits }

-- there: the step, and the name under the steps below it
module _ {edit work : List ℕ} (i : ℕ) {c k pos room : ℕ} (s : SomeLinks edit work (i + 1)) (w : SomeName edit (stack_of work) (i + 1) c k pos room) where
  pub hit : Hit edit (stack_of work) w.steps c k i
  hit = (found_as w.is w.stands).some i (omega arith)

  pub hit-fits : pos + 1 + length (tree_code (env hit.below c k)) + length (inner (get_or edit (get_or work (64 + i) 0) 0) []) + length (tree_code (graft (env hit.below) hit.s.what)) ≤ room
  hit-fits = omega (arith, w.fits, simp length-append at (ap length (hit-bytes hit (get_or edit (get_or work (64 + i) 0) 0) (hit-at s hit).op_is)))

  pub older-some : {room' : ℕ} → room' ≡ room → SomeName edit (stack_of work) (get_or work (1430 + i) 0) c k (pos + 1) room'
  older-some e = record { steps = hit.below; is = (hit-older s w.is hit).0; stands = hit.stands; fits = omega (arith, e, hit-fits) }

  pub older-count : {o o' : List ℕ} {p p' : ℕ} → NameWrote edit (stack_of work) (get_or work (1430 + i) 0) c k o p p' o' → p' ≡ p + length (tree_code (env hit.below c k))
  older-count u = (u.each hit.below (hit-older s w.is hit).0 hit.stands).counted

-- The text of a tree under the steps passed, and of one that is not a name by its head and its operands.
abbrev shown_by : List Substitution → Tree → List ℕ
shown_by σ t = tree_code (graft (env σ) t)

opened : (σ : List Substitution) (t : Tree) → tag t < 16 → shown_by σ t ≡ head_of t ++ texts (shown_by σ) (parts_of t)
unfolding graft tree_code texts
opened σ (name c k) l = absurd (omega arith)
opened σ (leaf h) l = sym (append-nil h)
opened σ (one h x) l = ap (λ (r : List ℕ). h ++ r) (sym (append-nil (shown_by σ x)))
opened σ (two h x y) l = append_assoc h (shown_by σ x) (shown_by σ y) ∙ ap (λ (r : List ℕ). h ++ (shown_by σ x ++ r)) (sym (append-nil (shown_by σ y)))

head-taken : (text : List ℕ) (at : ℕ) (t : Tree) → At text at t → (n : ℕ) → length (head_of t) ≡ n → take n (drop at text) ≡ head_of t
head-taken text at t a n e =
    let r : List ℕ = texts tree_code (parts_of t) ++ a.rest in
    let here : drop at text ≡ head_of t ++ r = a.here ∙ ap (λ (l : List ℕ). l ++ a.rest) (code-opened t) ∙ append_assoc (head_of t) (texts tree_code (parts_of t)) a.rest in
    ap (take n) here ∙ ap (λ (m : ℕ). take m (head_of t ++ r)) (sym e) ∙ take-append_seam (head_of t) r

-- An expression partly written: `wanted` trees are due at p, and their texts are still to be written.
pub record Emitted (text : List ℕ) (σ : List Substitution) (t : Tree) (p wanted : ℕ) (o : List ℕ) (pos q : ℕ) (o' : List ℕ) : Type 0 where
  pub parts : List Tree
  pub pending : Pending text p wanted parts
  pub done : List ℕ
  pub whole : done ++ texts (shown_by σ) parts ≡ shown_by σ t
  pub wrote : Wrote o pos done q o'

shown-more : {text : List ℕ} {σ : List Substitution} {t : Tree} {p wanted : ℕ} {o : List ℕ} {pos q : ℕ} {o' : List ℕ} (w : Emitted text σ t p wanted o pos q o') {p' wanted' : ℕ} {parts' : List Tree} {b : List ℕ} {q' : ℕ} {o'' : List ℕ}
    → Pending text p' wanted' parts' → texts (shown_by σ) w.parts ≡ b ++ texts (shown_by σ) parts' → Wrote o' q b q' o'' → Emitted text σ t p' wanted' o pos q' o''
shown-more {text} {σ} {t} {p} {wanted} {o} {pos} {q} {o'} w {p'} {wanted'} {parts'} {b} n e u = record {
  parts = parts';
  pending = n;
  done = w.done ++ b;
  whole = append_assoc w.done b (texts (shown_by σ) parts') ∙ ap (λ (l : List ℕ). w.done ++ l) (sym e) ∙ w.whole;
  wrote = wrote-more w.wrote u;
}

-- whatever expression stands there, and whatever the steps on the stack
pub record Showing (text : List ℕ) (at : ℕ) (edit stack : List ℕ) (h p wanted : ℕ) (o : List ℕ) (pos q : ℕ) (o' : List ℕ) : Type 0 where
  pub each : (σ : List Substitution) (t : Tree) → h ≡ length σ → StackIs edit stack σ → At text at t → Emitted text σ t p wanted o pos q o'
  pub passed : Passing text at p wanted
  pub long : length o' ≡ length o

pub showing-first : (text : List ℕ) (at : ℕ) (edit stack : List ℕ) (h : ℕ) (o : List ℕ) (pos : ℕ) → Showing text at edit stack h at 1 o pos pos o
unfolding texts
showing-first text at edit stack h o pos = record { each = λ σ t e i a. record { parts = t ∷ []; pending = pending-one text at t a; done = []; whole = append-nil (shown_by σ t); wrote = wrote_none o pos }; passed = passing-first text at; long = refl }

pub showing-end : {text edit stack o o' : List ℕ} {at h p wanted pos q : ℕ} → Showing text at edit stack h p wanted o pos q o' → wanted ≤ 0
    → (σ : List Substitution) (t : Tree) → h ≡ length σ → StackIs edit stack σ → At text at t → Wrote o pos (tree_code (graft (env σ) t)) q o' × (p ≡ at + size t)
unfolding texts
showing-end {text} {edit} {stack} {o} {o'} {at} {h} {p} {wanted} {pos} {q} I l σ t e i a = let w = I.each σ t e i a in (go w w.parts w.pending.count w.whole, passing-end I.passed l t a)
  where
    go : (w : Emitted text σ t p wanted o pos q o') (parts : List Tree) → length parts ≡ wanted → w.done ++ texts (shown_by σ) parts ≡ shown_by σ t → Wrote o pos (shown_by σ t) q o'
    go w [] n e = wrote_as (sym (append-nil w.done) ∙ e) w.wrote
    go w (x ∷ more) n e = absurd (omega (arith, n, l))

-- the next code is a name, or has this many bytes and operands
pub record NameAt (text edit stack : List ℕ) (p h pos q room : ℕ) : Type 0 where
  pub in-text : p + 2 ≤ length text
  pub is-named : Named (get_or text p 0) (get_or text (p + 1) 0)
  pub further : pos ≤ q
  pub some : (j : ℕ) → j ≡ last_in edit stack h (get_or text p 0) (get_or text (p + 1) 0) → SomeName edit stack j (get_or text p 0) (get_or text (p + 1) 0) q room

pub record HeadAt (text : List ℕ) (p wanted s q room : ℕ) : Type 0 where
  pub on : 0 < s % 4
  pub in-text : p + s % 4 ≤ length text
  pub in_count : wanted - 1 + s / 4 % 4 ≤ length text
  pub fits : q + s % 4 ≤ room

module _ {text edit stack o o' : List ℕ} {at h p wanted pos q : ℕ} (I : Showing text at edit stack h p wanted o pos q o') (l : 0 < wanted) where
  module _ {room : ℕ} (w : SomeShown text at edit stack h pos room) where
    pub some : Emitted text w.steps w.what p wanted o pos q o'
    some = I.each w.steps w.what w.is w.stands w.what_at

    pub head_first : First text p some.parts
    head_first = first some.pending l

    still : (q + length (texts (λ (t : Tree). tree_code (graft (env w.steps) t)) some.parts) ≤ room) × (pos ≤ q)
    still = (omega (arith, w.fits, some.wrote.counted, ap length some.whole, length-append some.done (texts (shown_by w.steps) some.parts)), omega (arith, some.wrote.counted))

  module _ (s : ℕ) (e : s ≡ shape_of (get_or text p 0)) where
    -- a name
    module _ (high : 16 ≤ s) where
      named : {t : Tree} → At text p t → IsName text p t
      named {t} a = as-name text p t a (omega (arith, high, e))

      name-text : (σ : List Substitution) (parts : List Tree) (f : First text p parts) → texts (shown_by σ) parts ≡ tree_code (env σ (get_or text p 0) (get_or text (p + 1) 0)) ++ texts (shown_by σ) f.more
      unfolding graft texts
      name-text σ parts f =
          let q = named f.at in
          ap (texts (shown_by σ)) f.is ∙ ap (λ (u : Tree). shown_by σ u ++ texts (shown_by σ) f.more) q.is
          ∙ sym (ap₂ (λ (c k : ℕ). tree_code (env σ c k) ++ texts (shown_by σ) f.more) q.reads-c q.reads-k)

      name-moved : (A : ℕ → ℕ → Type 0) {t : Tree} → At text p t → A (p + s % 4) (wanted - 1 + s / 4 % 4) → A (p + 2) (wanted - 1)
      name-moved A {t} a x =
          let is : s ≡ 18 = e ∙ tag_at text p t a ∙ ap tag (named a).is in
          let count : wanted - 1 + s / 4 % 4 ≡ wanted - 1 = ap (λ (y : ℕ). wanted - 1 + y / 4 % 4) is ∙ (let z : wanted - 1 + 0 ≡ wanted - 1 = omega arith in z) in
          subst (λ (y : ℕ). A y (wanted - 1)) (ap (λ (y : ℕ). p + y % 4) is) (subst (A (p + s % 4)) count x)

      name-next : {parts : List Tree} → Pending text p wanted parts → (f : First text p parts) → Pending text (p + 2) (wanted - 1) f.more
      name-next {parts} v f = name-moved (λ (x y : ℕ). Pending text x y f.more) f.at (subst (Pending text (p + s % 4) (wanted - 1 + s / 4 % 4)) (ap (λ (u : Tree). parts_of u ++ f.more) (named f.at).is) (turn v f s e).next)

      pub name-at : {room : ℕ} → SomeShown text at edit stack h pos room → NameAt text edit stack p h pos q room
      name-at {room} w =
          let f = head_first w in
          let n = named f.at in
          let c : ℕ = get_or text p 0 in
          let k : ℕ = get_or text (p + 1) 0 in
          record {
            in-text = n.room;
            is-named = rw (n.reads-c, n.reads-k) n.named;
            further = (still w).1;
            some = λ j e. record {
              steps = w.steps;
              is = e ∙ ap (λ (x : ℕ). last_in edit stack x c k) w.is;
              stands = w.stands;
              fits = omega (arith, (still w).0, ap length (name-text w.steps (some w).parts f), length-append (tree_code (env w.steps c k)) (texts (shown_by w.steps) f.more));
            };
          }

      pub name-shown : {j q' : ℕ} {o'' : List ℕ} → j ≡ last_in edit stack h (get_or text p 0) (get_or text (p + 1) 0) → NameWrote edit stack j (get_or text p 0) (get_or text (p + 1) 0) o' q q' o'' → Showing text at edit stack h (p + 2) (wanted - 1) o pos q' o''
      name-shown f u = record {
        each = λ σ t g i a. let v = I.each σ t g i a in let m = first v.pending l in shown-more v (name-next v.pending m) (name-text σ v.parts m) (u.each σ (f ∙ ap (λ (x : ℕ). last_in edit stack x (get_or text p 0) (get_or text (p + 1) 0)) g) i);
        passed = λ t a. name-moved (λ (x y : ℕ). To text at x y t) (first (I.passed t a).pending l).at (passing-more I.passed l s e t a);
        long = u.long ∙ I.long;
      }

    -- any other code
    module _ (low : s < 16) where
      head-text : (σ : List Substitution) (parts : List Tree) (f : First text p parts) → (g : Turn text p wanted f.t f.more s) → texts (shown_by σ) parts ≡ take (s % 4) (drop p text) ++ texts (shown_by σ) (parts_of f.t ++ f.more)
      unfolding texts
      head-text σ parts f g =
          let t : Tree = f.t in
          let m : List ℕ = texts (shown_by σ) f.more in
          ap (texts (shown_by σ)) f.is ∙ ap (λ (l : List ℕ). l ++ m) (opened σ t (omega (arith, low, e, tag_at text p t f.at))) ∙ append_assoc (head_of t) (texts (shown_by σ) (parts_of t)) m
          ∙ ap (λ (l : List ℕ). head_of t ++ l) (sym (texts-append (shown_by σ) (parts_of t) f.more))
          ∙ ap (λ (l : List ℕ). l ++ texts (shown_by σ) (parts_of t ++ f.more)) (sym (head-taken text p t f.at (s % 4) g.head))

      pub head_at : {room : ℕ} → SomeShown text at edit stack h pos room → HeadAt text p wanted s q room
      head_at w =
          let f = head_first w in
          let g = turn (some w).pending f s e in
          record { on = g.on; in-text = g.in-text; in_count = g.in_count; fits = omega (arith, (still w).0, g.head, ap length (head-taken text p f.t f.at (s % 4) g.head), simp length-append at (ap length (head-text w.steps (some w).parts f g))) }

      pub head-shown : {q' : ℕ} {o'' : List ℕ} → Wrote o' q (take (s % 4) (drop p text)) q' o'' → length o'' ≡ length o' → Showing text at edit stack h (p + s % 4) (wanted - 1 + s / 4 % 4) o pos q' o''
      head-shown u m = record { each = λ σ t g i a. let v = I.each σ t g i a in let f = first v.pending l in let n = turn v.pending f s e in shown-more v n.next (head-text σ v.parts f n) u; passed = passing-more I.passed l s e; long = m ∙ I.long }

-- A code without operands that is not a name is written as it stands, whatever the steps.
module _ (text edit stack : List ℕ) (at h pos s : ℕ) (e : s ≡ shape_of (get_or text at 0)) (l : s < 4) where
  pub leaf_room : {room : ℕ} → SomeShown text at edit stack h pos room → (0 < s) × (s < 4) × (at + s ≤ length text) × (pos + s ≤ room)
  leaf_room w = let g = head_at (showing-first text at edit stack h [] pos) (omega arith) s e (omega arith) w in (omega (arith, g), l, omega (arith, g), omega (arith, g))

  pub leaf-shown : {o o' : List ℕ} {q : ℕ} → Wrote o pos (take s (drop at text)) q o' → length o' ≡ length o → (σ : List Substitution) (t : Tree) → h ≡ length σ → StackIs edit stack σ → At text at t → Wrote o pos (tree_code (graft (env σ) t)) q o'
  leaf-shown {o} u m σ t f i a =
      let n : s ≡ s % 4 = omega arith in
      (showing-end (head-shown (showing-first text at edit stack h o pos) (omega arith) s e (omega arith) (wrote_as (ap (λ (x : ℕ). take x (drop at text)) n) u) m) (omega arith) σ t f i a).0
