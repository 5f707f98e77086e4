-- An expression passed from left to right: what is still to come is a list of trees one after the other; a code is one of them and
-- adds its operands.
use mathlib.Core.Path.{◌≡◌, refl, sym, ap, ◌∙◌, subst}
use mathlib.Core.List.{List, [], ◌∷◌, ◌++◌, append_assoc, append-nil}
use Prim.Native.Nat.{ℕ, ◌+◌, ◌-◌, ◌/◌, ◌%◌, ◌≤◌, ◌<◌}
use native.Mathlib.Decide.{dec_lt}
use native.Mathlib.Omega.{arith}
use lib.ListN.{length, get_or, drop, length-append, get_or-eq_default}
use Rattle.logic.specs.Lists.{All}
use Rattle.tree.specs.Tree.{Tree, name, leaf, one, two, tree_code, size}
use Rattle.tree.proofs.TreeLaws.{size_is}
use Rattle.ends.specs.Shapes.{shapes, shape_of, Formed, At, Some}
use Rattle.ends.proofs.TreePlaces.{tag, tag_at, inside, size-pos}
use Rattle.text.proofs.StandingLaws.{within, behind}

-- a tree's code byte with its numbers, and its operands
abbrev pub head_of : Tree → List ℕ
head_of (name c k) = c ∷ k ∷ []
head_of (leaf h) = h
head_of (one h x) = h
head_of (two h x y) = h

abbrev pub parts_of : Tree → List Tree
parts_of (name c k) = []
parts_of (leaf h) = []
parts_of (one h x) = x ∷ []
parts_of (two h x y) = x ∷ y ∷ []

-- the texts of trees one after the other
unfoldable pub texts : (Tree → List ℕ) → List Tree → List ℕ
texts g [] = []
texts g (t ∷ ts) = g t ++ texts g ts

pub texts-append : (g : Tree → List ℕ) (xs ys : List Tree) → texts g (xs ++ ys) ≡ texts g xs ++ texts g ys
unfolding texts
texts-append g [] ys = refl
texts-append g (t ∷ xs) ys = ap (λ (l : List ℕ). g t ++ l) (texts-append g xs ys) ∙ sym (append_assoc (g t) (texts g xs) (texts g ys))

pub code-opened : (t : Tree) → tree_code t ≡ head_of t ++ texts tree_code (parts_of t)
unfolding tree_code texts
code-opened (name c k) = refl
code-opened (leaf h) = sym (append-nil h)
code-opened (one h x) = ap (λ (l : List ℕ). h ++ l) (sym (append-nil (tree_code x)))
code-opened (two h x y) = append_assoc h (tree_code x) (tree_code y) ∙ ap (λ (l : List ℕ). h ++ (tree_code x ++ l)) (sym (append-nil (tree_code y)))

parts-formed : (t : Tree) (more : List Tree) → Formed t → All Formed more → All Formed (parts_of t ++ more)
unfolding Formed
parts-formed (name c k) more f m = m
parts-formed (leaf h) more f m = m
parts-formed (one h x) more f m = (f.1, m)
parts-formed (two h x y) more f m = (f.1, (f.2, m))

-- each has at least one byte
few : (ts : List Tree) → All Formed ts → length ts ≤ length (texts tree_code ts)
unfolding texts
few [] f = omega arith
few (t ∷ ts) f = omega (arith, few ts f.1, size-pos t f.0, size_is t, length-append (tree_code t) (texts tree_code ts))

-- what the table says about a tree
record Shaped (t : Tree) (s : ℕ) : Type 0 where
  head : length (head_of t) ≡ s % 4
  on : 0 < s % 4
  parts : length (parts_of t) ≡ s / 4 % 4

shaped : (t : Tree) → Formed t → (s : ℕ) → s ≡ tag t → Shaped t s
unfolding Formed
shaped (name c k) f s e = record { head = omega (arith, e); on = omega (arith, e); parts = omega (arith, e) }
shaped (leaf h) f s e = record { head = omega (arith, e, f.short); on = omega (arith, e, f.pos, f.short); parts = omega (arith, e, f.short) }
shaped (one h x) f s e = record { head = omega (arith, e, f.0.short); on = omega (arith, e, f.0.pos, f.0.short); parts = omega (arith, e, f.0.short) }
shaped (two h x y) f s e = record { head = omega (arith, e, f.0.short); on = omega (arith, e, f.0.pos, f.0.short); parts = omega (arith, e, f.0.short) }

pub code-low : (c : ℕ) → 0 < shape_of c → c < 40
unfolding shapes
code-low c l = elim (dec_lt c 40) [ yes h ↦ h | no h ↦ (let g : 40 ≤ c = omega arith in absurd (omega (arith, l, get_or-eq_default shapes 0 g))) ]

pub code_at : (text : List ℕ) (at : ℕ) (t : Tree) → At text at t → get_or text at 0 < 40
code_at text at t h = code-low (get_or text at 0) (omega (arith, (shaped t h.formed (shape_of (get_or text at 0)) (tag_at text at t h)).on))

-- this many trees are wanted at p
pub record Pending (text : List ℕ) (p wanted : ℕ) (parts : List Tree) : Type 0 where
  pub rest : List ℕ
  pub here : drop p text ≡ texts tree_code parts ++ rest
  pub formed : All Formed parts
  pub count : length parts ≡ wanted

pub pending-one : (text : List ℕ) (at : ℕ) (t : Tree) → At text at t → Pending text at 1 (t ∷ [])
unfolding texts
pending-one text at t h = record { rest = h.rest; here = h.here ∙ ap (λ (l : List ℕ). l ++ h.rest) (sym (append-nil (tree_code t))); formed = (h.formed, tt); count = refl }

-- the first of them, and one turn: its code and numbers are passed, and its operands wanted
pub record First (text : List ℕ) (p : ℕ) (parts : List Tree) : Type 0 where
  pub t : Tree
  pub more : List Tree
  pub is : parts ≡ t ∷ more
  pub at : At text p t
  pub inside-text : p < length text
  pub low : get_or text p 0 < 40

pub first : {text : List ℕ} {p wanted : ℕ} {parts : List Tree} → Pending text p wanted parts → 0 < wanted → First text p parts
unfolding texts
first {text} {p} {wanted} {parts} w l = go parts w.count w.here w.formed where
  go : (parts : List Tree) → length parts ≡ wanted → drop p text ≡ texts tree_code parts ++ w.rest → All Formed parts → First text p parts
  go [] n e f = absurd (omega (arith, n))
  go (t ∷ more) n e f =
      let h : At text p t = record { rest = texts tree_code more ++ w.rest; here = e ∙ append_assoc (tree_code t) (texts tree_code more) w.rest; formed = f.0 } in
      record { t = t; more = more; is = refl; at = h; inside-text = inside text p t h; low = code_at text p t h }

pub record Turn (text : List ℕ) (p wanted : ℕ) (t : Tree) (more : List Tree) (s : ℕ) : Type 0 where
  pub head : length (head_of t) ≡ s % 4
  pub on : 0 < s % 4
  pub in-text : p + s % 4 ≤ length text
  pub in_count : wanted - 1 + s / 4 % 4 ≤ length text
  pub next : Pending text (p + s % 4) (wanted - 1 + s / 4 % 4) (parts_of t ++ more)
  pub bytes-are : texts tree_code (t ∷ more) ≡ head_of t ++ texts tree_code (parts_of t ++ more)

pub turn : {text : List ℕ} {p wanted : ℕ} {parts : List Tree} → Pending text p wanted parts → (f : First text p parts) (s : ℕ) → s ≡ shape_of (get_or text p 0) → Turn text p wanted f.t f.more s
unfolding texts
turn {text} {p} {wanted} {parts} v f s e =
    let t : Tree = f.t in
    let more : List Tree = f.more in
    let h : At text p t = f.at in
    let w : Pending text p wanted (t ∷ more) = subst (Pending text p wanted) f.is v in
    let q = shaped t h.formed s (e ∙ tag_at text p t h) in
    let later : List ℕ = texts tree_code (parts_of t ++ more) in
    let split : tree_code t ++ texts tree_code more ≡ head_of t ++ later = ap (λ (l : List ℕ). l ++ texts tree_code more) (code-opened t) ∙ append_assoc (head_of t) (texts tree_code (parts_of t)) (texts tree_code more) ∙ ap (λ (l : List ℕ). head_of t ++ l) (sym (texts-append tree_code (parts_of t) more)) in
    let here : drop p text ≡ head_of t ++ (later ++ w.rest) = w.here ∙ ap (λ (l : List ℕ). l ++ w.rest) split ∙ append_assoc (head_of t) later w.rest in
    let formed = parts-formed t more h.formed w.formed.1 in
    let long = within text p (head_of t) (later ++ w.rest) here in
    let n = length-append (parts_of t) more in
    record {
      head = q.head;
      on = q.on;
      in-text = omega (arith, q.head, long, f.inside-text);
      in_count = omega (arith, q.parts, long, n, w.count, few (parts_of t ++ more) formed, length-append later w.rest);
      next = record {
        rest = w.rest;
        here = ap (λ (x : ℕ). drop (p + x) text) (sym q.head) ∙ behind text p (head_of t) (later ++ w.rest) here;
        formed = formed;
        count = omega (arith, q.parts, n, w.count);
      };
      bytes-are = split;
    }

-- The place after an expression: whatever tree is at `at`, what is wanted at p ends where that tree ends.
pub record To (text : List ℕ) (at p wanted : ℕ) (t : Tree) : Type 0 where
  pub parts : List Tree
  pub pending : Pending text p wanted parts
  pub ends : p + length (texts tree_code parts) ≡ at + size t

abbrev pub Passing : (text : List ℕ) (at p wanted : ℕ) → Type 0
Passing text at p wanted = (t : Tree) → At text at t → To text at p wanted t

pub passing-first : (text : List ℕ) (at : ℕ) → Passing text at at 1
unfolding texts
passing-first text at t h = record { parts = t ∷ []; pending = pending-one text at t h; ends = ap (λ (n : ℕ). at + n) (ap length (append-nil (tree_code t)) ∙ size_is t) }

pub passing-end : {text : List ℕ} {at p wanted : ℕ} → Passing text at p wanted → wanted ≤ 0 → (t : Tree) → At text at t → p ≡ at + size t
unfolding texts
passing-end {text} {at} {p} {wanted} w l t h = let q = w t h in go q.parts q.pending.count q.ends where
  go : (parts : List Tree) → length parts ≡ wanted → p + length (texts tree_code parts) ≡ at + size t → p ≡ at + size t
  go [] n e = omega (arith, e)
  go (x ∷ more) n e = absurd (omega (arith, n, l))

module _ {text : List ℕ} {at p wanted : ℕ} (w : Passing text at p wanted) (l : 0 < wanted) where
  pub passing-at : (o : Some text at) → First text p (w o.what o.stands).parts
  passing-at o = first (w o.what o.stands).pending l

  module _ (s : ℕ) (e : s ≡ shape_of (get_or text p 0)) where
    pub passing-turn : (o : Some text at) → Turn text p wanted (passing-at o).t (passing-at o).more s
    passing-turn o = turn (w o.what o.stands).pending (passing-at o) s e

    pub passing-more : Passing text at (p + s % 4) (wanted - 1 + s / 4 % 4)
    passing-more t h =
        let q = w t h in
        let f = first q.pending l in
        let g = turn q.pending f s e in
        record {
          parts = parts_of f.t ++ f.more;
          pending = g.next;
          ends = omega (arith, q.ends, g.head, ap length (ap (texts tree_code) f.is ∙ g.bytes-are), length-append (head_of f.t) (texts tree_code (parts_of f.t ++ f.more)));
        }
