-- What a walk over a tree does to a state.
use mathlib.Core.Path.{◌≡◌, refl, sym, ap, ap₂, ◌∙◌, subst}
use mathlib.Core.List.{List}
use Prim.Native.Nat.{ℕ, ◌+◌, ◌%◌, max, ◌≤◌, ◌<◌}
use native.Mathlib.Omega.{arith}
use lib.ListN.{length, get_or, set, length-set}
use Rattle.tree.specs.Tree.{Tree, name, leaf, one, two, size, under}
use Rattle.tree.specs.Sizes.{Measure, measure, beyond, capped, capped_measure}
use Rattle.ends.specs.Shapes.{shape_of, cell, Formed, At, Some}
use Rattle.measure.specs.State.{Holds, added, Scanned}
use Rattle.ends.proofs.TreePlaces.{IsName, IsLeaf, tag_at, as_one, as-two, as-any}
use Rattle.ends.proofs.NameCells.{named-lt}
use Rattle.measure.proofs.Held.{holds_same, holds-is, holds-rise, holds-touch, risen, added-name, added-leaf, added-one, added-two, added-capped}

module _ (text : List ℕ) (at w v : ℕ) where
  pub place-lt : (t : Tree) → IsName text at t → (i : ℕ) → i ≡ cell (get_or text at 0) (get_or text (at + 1) 0) → i < 64
  place-lt t q i e = omega (arith, named-lt q.c q.k q.named, e ∙ ap₂ cell q.reads-c q.reads-k)

  module _ (l₀ l₁ : List ℕ) (long : length l₀ ≡ 130) (low : v ≤ beyond) (rose : l₁ ≡ set l₀ 129 (max (get_or l₀ 129 0) v)) where
    risen-held : (M : Measure) → Holds l₀ M → Holds l₁ (risen v M)
    risen-held M h = rw rose (holds-rise l₀ M v long low h)

    pub name-scanned : (t : Tree) → IsName text at t → (i : ℕ) → i ≡ cell (get_or text at 0) (get_or text (at + 1) 0) → (l₂ : List ℕ)
        → l₂ ≡ set (set l₁ i (capped (get_or l₁ i 0 + w))) (64 + i) (max (get_or l₁ (64 + i) 0) v) → Scanned at w v t (at + 2) l₀ l₂
    unfolding size
    name-scanned t q i e l₂ f = rw q.is (record {
      ends = refl;
      state = λ M h. holds-is (added-name w v q.c q.k M)
          (rw (f, e, q.reads-c, q.reads-k) (holds-touch l₁ (risen v M) q.c q.k w v (ap length rose ∙ length-set l₀ 129 (max (get_or l₀ 129 0) v) ∙ long) low q.named (risen-held M h)));
    })

    pub leaf-scanned : (t : Tree) → IsLeaf text at t → (next s : ℕ) → s ≡ shape_of (get_or text at 0) → next ≡ at + s % 4 → Scanned at w v t next l₀ l₁
    unfolding size
    leaf-scanned t q next s e f = rw q.is (record {
      ends = f ∙ ap (λ (x : ℕ). at + x % 4) e ∙ ap (λ (x : ℕ). at + x) (sym q.head);
      state = λ M h. holds-is (added-leaf w v q.h M) (risen-held M h);
    })

-- the level below, capped
lower : (w v below : ℕ) → below ≡ capped (under v 2) → {l : List ℕ} (E M : Measure) → Holds l (added w below E M) → Holds l (added w (under v 2) E M)
lower w v below e E M h = holds_same (ap (λ (x : ℕ). capped_measure (added w x E M)) e ∙ added-capped w (under v 2) E M) h

-- The loop's invariant looks forward: whatever stands at the start, a part of it stands at `p`, and scanning the part finishes the whole.
module _ (text : List ℕ) (at w v : ℕ) (l₀ : List ℕ) where
  pub record Part (p level : ℕ) (l : List ℕ) (t : Tree) : Type 0 where
    pub what : Tree
    pub stands : At text p what
    pub whole : (next : ℕ) (l' : List ℕ) → Scanned p w level what next l l' → Scanned at w v t next l₀ l'

  pub record Scanning (p level : ℕ) (l : List ℕ) : Type 0 where
    pub some : Some text p
    pub from : at ≤ p
    pub low : level ≤ beyond
    pub long : length l ≡ 130
    pub part : (t : Tree) → At text at t → Part p level l t

  pub scanning-first : Some text at → v ≤ beyond → length l₀ ≡ 130 → Scanning at v l₀
  scanning-first s b e = record { some = s; from = omega arith; low = b; long = e; part = λ t h. record { what = t; stands = h; whole = λ next l' a. a } }

  pub scanning-end : {p level next : ℕ} {l l' : List ℕ} → Scanning p level l → ((u : Tree) → At text p u → Scanned p w level u next l l') → (t : Tree) → At text at t → Scanned at w v t next l₀ l'
  scanning-end r f t h = let q = r.part t h in q.whole _ _ (f q.what q.stands)

-- a code with operands is not a name
operands : (text : List ℕ) (at : ℕ) (t : Tree) → At text at t → 4 ≤ shape_of (get_or text at 0) % 16 → shape_of (get_or text at 0) < 16
unfolding Formed
operands text at (name c k) h s = absurd (omega (arith, tag_at text at (name c k) h))
operands text at (leaf l) h s = omega (arith, tag_at text at (leaf l) h, h.formed.short)
operands text at (one l x) h s = omega (arith, tag_at text at (one l x) h, h.formed.0.short)
operands text at (two l x y) h s = omega (arith, tag_at text at (two l x y) h, h.formed.0.short)

-- One turn, at a code of shape s that has operands: the walk goes on at the last of them.
module _ (text : List ℕ) (at w v : ℕ) (l₀ : List ℕ) (p level : ℕ) (l : List ℕ) (r : Scanning text at w v l₀ p level l) (s : ℕ) (e : s ≡ shape_of (get_or text p 0)) (many : 4 ≤ s % 16) where
  head : 4 ≤ shape_of (get_or text p 0) % 16
  head = subst (λ (x : ℕ). 4 ≤ x % 16) e many

  pub record First : Type 0 where
    pub here : Some text (p + s % 4)
    pub on : 0 < s % 4
    pub room : p + s % 4 < length text

  pub first-operand : First
  first-operand =
      let q = as-any text p r.some.what r.some.stands (operands text p r.some.what r.some.stands head) (omega (arith, head)) in
      record { here = record { what = q.x; stands = subst (λ (x : ℕ). At text (p + x % 4) q.x) (sym e) q.first }; on = omega (arith, e, q.head); room = omega (arith, e, q.room) }

  module _ (below : ℕ) (down : below ≡ capped (under level 2)) (p' : ℕ) (l' : List ℕ) where
    -- a step from each tree at `p` to a part of it is a step of the walk
    onward : p < p' → length l' ≡ 130 → ((u : Tree) → At text p u → Part text p w level l p' below l' u) → (p < p') × Scanning text at w v l₀ p' below l'
    onward further long step = (
      further,
      record {
        some = let q = step r.some.what r.some.stands in record { what = q.what; stands = q.stands };
        from = omega (arith, r.from);
        low = omega (arith, down);
        long = long;
        part = λ t h. let q = r.part t h in let n = step q.what q.stands in record { what = n.what; stands = n.stands; whole = λ next l'' a. q.whole next l'' (n.whole next l'' a) };
      },
    )

    pub turn_one : s < 8 → l' ≡ l → p' ≡ p + s % 4 → (p < p') × Scanning text at w v l₀ p' below l'
    unfolding size
    turn_one short same f =
        let g : p' ≡ p + shape_of (get_or text p 0) % 4 = f ∙ ap (λ (x : ℕ). p + x % 4) e in
        onward (omega (arith, f, first-operand.on)) (ap length same ∙ r.long) (λ u h.
        let q = as_one text p u h (omega (arith, head)) (omega (arith, e)) in
        record {
          what = q.x;
          stands = subst (λ (n : ℕ). At text n q.x) (sym g) q.first;
          whole = λ next l'' a. rw q.is (record { ends = omega (arith, a.ends, g, q.head); state = λ M m. holds-is (added-one w level q.h q.x M) (lower w level below down (measure q.x) M (a.state M (rw same m))) });
        })

    pub turn_two : 8 ≤ s → (next : ℕ) (l₁ : List ℕ) → l' ≡ l₁ → p' ≡ next → length l₁ ≡ length l → ((x : Tree) → At text (p + s % 4) x → Scanned (p + s % 4) w below x next l l₁) → (p < p') × Scanning text at w v l₀ p' below l'
    unfolding size
    turn_two wide next l₁ same f long scanned =
        let g : p + s % 4 ≡ p + shape_of (get_or text p 0) % 4 = ap (λ (x : ℕ). p + x % 4) e in
        onward (omega (arith, f, first-operand.on, (scanned first-operand.here.what first-operand.here.stands).ends)) (ap length same ∙ long ∙ r.long) (λ u h.
        let q = as-two text p u h (operands text p u h head) (omega (arith, e)) in
        let a = scanned q.x (subst (λ (n : ℕ). At text n q.x) (sym g) q.first) in
        record {
          what = q.y;
          stands = q.second p' (f ∙ a.ends ∙ ap (λ (n : ℕ). n + size q.x) g);
          whole = λ end l'' b. rw q.is (record {
            ends = omega (arith, a.ends, b.ends, f, g, q.head);
            state = λ M m. holds-is (added-two w level q.h q.x q.y M)
                (lower w level below down (measure q.y) (added w (under level 2) (measure q.x) M) (b.state _ (rw same (lower w level below down (measure q.x) M (a.state M m)))));
          });
        })
