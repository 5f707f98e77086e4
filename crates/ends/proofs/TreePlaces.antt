-- What a text has at the place of a tree.
use mathlib.Core.Path.{◌≡◌, refl, sym, ap, ◌∙◌}
use mathlib.Core.List.{List, [], ◌∷◌, ◌++◌, append_assoc}
use mathlib.Core.Logic.{⊎_elim}
use Prim.Native.Nat.{ℕ, ◌+◌, ◌-◌, ◌%◌, ◌≤◌, ◌<◌}
use native.Mathlib.Decide.{dec_lt}
use native.Mathlib.Omega.{arith}
use lib.ListN.{length, get_or, drop}
use Rattle.tree.specs.Tree.{Tree, name, leaf, one, two, tree_code, size}
use Rattle.tree.proofs.TreeLaws.{size_is}
use Rattle.ends.specs.Shapes.{shapes, shape_of, Named, Formed, At}
use Rattle.text.proofs.StandingLaws.{byte_at, behind, within}

byte-head : (text : List ℕ) (at : ℕ) (h l : List ℕ) → 0 < length h → drop at text ≡ h ++ l → get_or text at 0 ≡ get_or h 0 0
byte-head text at [] l p e = absurd (omega arith)
byte-head text at (x ∷ h) l p e = byte_at text at x (h ++ l) e

-- what the table says about a tree's first byte
abbrev pub tag : Tree → ℕ
tag (name c k) = 18
tag (leaf h) = length h
tag (one h x) = length h + 4
tag (two h x y) = length h + 8

shape-named : (c k : ℕ) → Named c k → shape_of c ≡ 18
shape-named c k n = unfold shapes in ⊎_elim (λ (p : (c ≡ 0x03) × (k < 48)). ap shape_of p.0) (λ (p : (c ≡ 0x11) × (k < 16)). ap shape_of p.0) n

pub tag_at : (text : List ℕ) (at : ℕ) (t : Tree) → At text at t → shape_of (get_or text at 0) ≡ tag t
unfolding tree_code Formed
tag_at text at (name c k) h = ap shape_of (byte_at text at c (k ∷ h.rest) h.here) ∙ shape-named c k h.formed
tag_at text at (leaf l) h = ap shape_of (byte-head text at l h.rest h.formed.pos h.here) ∙ h.formed.is ∙ omega arith
tag_at text at (one l x) h = ap shape_of (byte-head text at l (tree_code x ++ h.rest) h.formed.0.pos (h.here ∙ append_assoc l (tree_code x) h.rest)) ∙ h.formed.0.is ∙ omega arith
tag_at text at (two l x y) h = ap shape_of (byte-head text at l (tree_code x ++ (tree_code y ++ h.rest)) h.formed.0.pos (h.here ∙ append_assoc (l ++ tree_code x) (tree_code y) h.rest ∙ append_assoc l (tree_code x) (tree_code y ++ h.rest))) ∙ h.formed.0.is ∙ omega arith

pub fits : (text : List ℕ) (at : ℕ) (t : Tree) → At text at t → size t ≤ length text - at
fits text at t h = omega (arith, within text at (tree_code t) h.rest h.here, size_is t)

pub size-pos : (t : Tree) → Formed t → 0 < size t
unfolding size Formed
size-pos (name c k) f = omega arith
size-pos (leaf h) f = omega (arith, f.pos)
size-pos (one h x) f = omega (arith, f.0.pos)
size-pos (two h x y) f = omega (arith, f.0.pos)

pub inside : (text : List ℕ) (at : ℕ) (t : Tree) → At text at t → at < length text
inside text at t h = omega (arith, fits text at t h, size-pos t h.formed)

module _ (text : List ℕ) (at : ℕ) where
  pub record IsName (t : Tree) : Type 0 where
    pub c : ℕ
    pub k : ℕ
    pub is : t ≡ name c k
    pub named : Named c k
    pub reads-c : get_or text at 0 ≡ c
    pub reads-k : get_or text (at + 1) 0 ≡ k
    pub room : at + 2 ≤ length text

  pub record IsLeaf (t : Tree) : Type 0 where
    pub h : List ℕ
    pub is : t ≡ leaf h
    pub head : length h ≡ shape_of (get_or text at 0) % 4
    pub room : at + length h ≤ length text

  pub record IsOne (t : Tree) : Type 0 where
    pub h : List ℕ
    pub x : Tree
    pub is : t ≡ one h x
    pub head : length h ≡ shape_of (get_or text at 0) % 4
    pub pos : 0 < length h
    pub first : At text (at + shape_of (get_or text at 0) % 4) x
    pub room : at + length h + size x ≤ length text

  pub record IsTwo (t : Tree) : Type 0 where
    pub h : List ℕ
    pub x : Tree
    pub y : Tree
    pub is : t ≡ two h x y
    pub head : length h ≡ shape_of (get_or text at 0) % 4
    pub pos : 0 < length h
    pub first : At text (at + shape_of (get_or text at 0) % 4) x
    pub second : (next : ℕ) → next ≡ at + shape_of (get_or text at 0) % 4 + size x → At text next y
    pub room : at + length h + size x + size y ≤ length text

  pub as-name : (t : Tree) → At text at t → 16 ≤ shape_of (get_or text at 0) → IsName t
  unfolding tree_code Formed size
  as-name (name c k) h s = record {
    c = c;
    k = k;
    is = refl;
    named = h.formed;
    reads-c = byte_at text at c (k ∷ h.rest) h.here;
    reads-k = byte_at text (at + 1) k h.rest (behind text at (c ∷ []) (k ∷ h.rest) h.here);
    room = omega (arith, fits text at (name c k) h, inside text at (name c k) h);
  }
  as-name (leaf l) h s = absurd (omega (arith, tag_at text at (leaf l) h, h.formed.short))
  as-name (one l x) h s = absurd (omega (arith, tag_at text at (one l x) h, h.formed.0.short))
  as-name (two l x y) h s = absurd (omega (arith, tag_at text at (two l x y) h, h.formed.0.short))

  pub as-leaf : (t : Tree) → At text at t → shape_of (get_or text at 0) < 4 → IsLeaf t
  unfolding tree_code Formed size
  as-leaf (name c k) h s = absurd (omega (arith, tag_at text at (name c k) h))
  as-leaf (leaf l) h s = record { h = l; is = refl; head = omega (arith, tag_at text at (leaf l) h, h.formed.short); room = omega (arith, fits text at (leaf l) h, inside text at (leaf l) h) }
  as-leaf (one l x) h s = absurd (omega (arith, tag_at text at (one l x) h, h.formed.0.short))
  as-leaf (two l x y) h s = absurd (omega (arith, tag_at text at (two l x y) h, h.formed.0.short))

  pub as_one : (t : Tree) → At text at t → 4 ≤ shape_of (get_or text at 0) → shape_of (get_or text at 0) < 8 → IsOne t
  unfolding tree_code Formed size
  as_one (name c k) h s u = absurd (omega (arith, tag_at text at (name c k) h))
  as_one (leaf l) h s u = absurd (omega (arith, tag_at text at (leaf l) h, h.formed.short))
  as_one (one l x) h s u =
      let e : length l ≡ shape_of (get_or text at 0) % 4 = omega (arith, tag_at text at (one l x) h, h.formed.0.short) in
      record {
        h = l;
        x = x;
        is = refl;
        head = e;
        pos = h.formed.0.pos;
        first = record { rest = h.rest; here = ap (λ (n : ℕ). drop (at + n) text) (sym e) ∙ behind text at l (tree_code x ++ h.rest) (h.here ∙ append_assoc l (tree_code x) h.rest); formed = h.formed.1 };
        room = omega (arith, fits text at (one l x) h, inside text at (one l x) h);
      }
  as_one (two l x y) h s u = absurd (omega (arith, tag_at text at (two l x y) h, h.formed.0.short, h.formed.0.pos))

  pub as-two : (t : Tree) → At text at t → shape_of (get_or text at 0) < 16 → 8 ≤ shape_of (get_or text at 0) → IsTwo t
  unfolding tree_code Formed size
  as-two (name c k) h n s = absurd (omega (arith, tag_at text at (name c k) h))
  as-two (leaf l) h n s = absurd (omega (arith, tag_at text at (leaf l) h, h.formed.short))
  as-two (one l x) h n s = absurd (omega (arith, tag_at text at (one l x) h, h.formed.0.short))
  as-two (two l x y) h n s =
      let e : length l ≡ shape_of (get_or text at 0) % 4 = omega (arith, tag_at text at (two l x y) h, h.formed.0.short, h.formed.0.pos) in
      let f : drop at text ≡ l ++ (tree_code x ++ (tree_code y ++ h.rest)) = h.here ∙ append_assoc (l ++ tree_code x) (tree_code y) h.rest ∙ append_assoc l (tree_code x) (tree_code y ++ h.rest) in
      let g : drop (at + shape_of (get_or text at 0) % 4) text ≡ tree_code x ++ (tree_code y ++ h.rest) = ap (λ (n : ℕ). drop (at + n) text) (sym e) ∙ behind text at l (tree_code x ++ (tree_code y ++ h.rest)) f in
      record {
        h = l;
        x = x;
        y = y;
        is = refl;
        head = e;
        pos = h.formed.0.pos;
        first = record { rest = tree_code y ++ h.rest; here = g; formed = h.formed.1 };
        second = λ next q. record { rest = h.rest; here = ap (λ (n : ℕ). drop n text) (q ∙ ap (λ (n : ℕ). at + shape_of (get_or text at 0) % 4 + n) (sym (size_is x))) ∙ behind text (at + shape_of (get_or text at 0) % 4) (tree_code x) (tree_code y ++ h.rest) g; formed = h.formed.2 };
        room = omega (arith, fits text at (two l x y) h, inside text at (two l x y) h);
      }

  -- the first operand of any tree that has one
  pub record IsAny (t : Tree) : Type 0 where
    pub x : Tree
    pub first : At text (at + shape_of (get_or text at 0) % 4) x
    pub head : 0 < shape_of (get_or text at 0) % 4
    pub room : at + shape_of (get_or text at 0) % 4 < length text

  pub as-any : (t : Tree) → At text at t → shape_of (get_or text at 0) < 16 → 4 ≤ shape_of (get_or text at 0) → IsAny t
  as-any t h n s = go (dec_lt (shape_of (get_or text at 0)) 8) where
    go : Dec (shape_of (get_or text at 0) < 8) → IsAny t
    go (yes l) = let q = as_one t h s l in record { x = q.x; first = q.first; head = omega (arith, q.head, q.pos); room = inside text _ q.x q.first }
    go (no l) = let q = as-two t h n (omega arith) in record { x = q.x; first = q.first; head = omega (arith, q.head, q.pos); room = inside text _ q.x q.first }
