-- Passing over a book from left to right: what is written, and the trees still to come.
use mathlib.Core.Path.{◌≡◌, refl, sym, ◌∙◌, ap, subst}
use mathlib.Core.List.{List, [], ◌∷◌, ◌++◌, append_assoc, append-nil}
use Rattle.std.specs.Prelude.{Option, None, Some}
use Prim.Native.Nat.{ℕ, ◌+◌, ◌-◌, ◌≤◌, ◌<◌}
use native.Mathlib.Omega.{arith}
use lib.ListN.{length, take, drop, length-append}
use lib.Seq.{take_at}
use Rattle.answer.specs.Outputs.{written_at_start}
use Rattle.logic.specs.Syntax.{rule, Expr}
use Rattle.logic.specs.Lists.{All}
use Rattle.text.specs.Code.{book_code}
use Rattle.text.proofs.StandingLaws.{behind}
use Rattle.tree.specs.Tree.{Tree, name, leaf, one, two, tree_code}
use Rattle.tree.proofs.TreeLaws.{size_is}
use Rattle.ends.specs.Shapes.{Formed, At, Some as SomeTree}
use Rattle.ends.specs.Books.{BookIs}
use Rattle.ends.proofs.TreePlaces.{size-pos}
use Rattle.ends.proofs.Pending.{head_of, parts_of, texts, texts-append, Pending, First, first, turn}
use Rattle.write.specs.Laid.{Wrote}
use Rattle.write.proofs.Laying.{length-laid, wrote_none, wrote-more, wrote_as}
use Rattle.write.proofs.Rules.{at_start}
use Rattle.rewrite_counts.specs.Rewritten.{rewritten_book}
use Rattle.rewrite_counts.specs.Trees.{byte_or, in_place_def, rewritten_tree, Turned}
use Rattle.rewrite_counts.proofs.Trees.{anew, trees, trees-formed, book-trees, book-anew}

-- what a tree becomes: its head and its operands anew, or one byte
anew-stays : (t : Tree) → in_place_def t ≡ None → anew t ≡ head_of t ++ texts anew (parts_of t)
unfolding rewritten_tree byte_or tree_code texts
anew-stays (name c k) e = refl
anew-stays (leaf h) e = sym (append-nil h)
anew-stays (one h x) e = ap (h ++◌) (sym (append-nil (anew x)))
anew-stays (two h x y) e = ap (λ b. tree_code (byte_or b (two h (rewritten_tree x) (rewritten_tree y)))) e ∙ append_assoc h (anew x) (anew y) ∙ ap (λ l. h ++ (anew x ++ l)) (sym (append-nil (anew y)))

anew-dropped : (t : Tree) (b : ℕ) → in_place_def t ≡ Some b → anew t ≡ b ∷ []
unfolding rewritten_tree byte_or tree_code
anew-dropped (name c k) b e = (cc)
anew-dropped (leaf h) b e = (cc)
anew-dropped (one h x) b e = (cc)
anew-dropped (two h x y) b e = ap (λ b. tree_code (byte_or b (two h (rewritten_tree x) (rewritten_tree y)))) e

-- Of `whole`, the bytes `done` are written when the rewriter stands at p.
pub record ToCome (text whole done : List ℕ) (p : ℕ) : Type 0 where
  pub parts : List Tree
  pub pending : Pending text p (length parts) parts
  pub ends : p + length (texts tree_code parts) ≡ length text
  pub is : done ++ texts anew parts ≡ whole

pub to-come-first : (text : List ℕ) (rules : List (Expr rule)) → BookIs text rules → ToCome text (book_code (rewritten_book rules)) [] 0
to-come-first text rules b =
    let e : text ≡ texts tree_code (trees rules) = b.is ∙ sym (book-trees rules) in
    record {
      parts = trees rules;
      pending = record { rest = []; here = e ∙ sym (append-nil _); formed = trees-formed b.limits rules b.range; count = refl };
      ends = omega (arith, ap length e);
      is = book-anew rules;
    }

-- nothing to come at the end, something before it
pub to-come-end : {text whole done : List ℕ} {p : ℕ} → ToCome text whole done p → length text ≤ p → done ≡ whole
unfolding texts
to-come-end {text} {whole} {done} {p} l h = go l.parts l.pending.formed l.ends l.is where
  go : (parts : List Tree) → All Formed parts → p + length (texts tree_code parts) ≡ length text → done ++ texts anew parts ≡ whole → done ≡ whole
  go [] f e i = sym (append-nil done) ∙ i
  go (t ∷ more) f e i = absurd (omega (arith, size-pos t f.0, size_is t, length-append (tree_code t) (texts tree_code more)))

pub here : {text whole done : List ℕ} {p : ℕ} (l : ToCome text whole done p) → p < length text → First text p l.parts
unfolding texts
here {text} {whole} {done} {p} l h = first l.pending (go l.parts l.ends) where
  go : (parts : List Tree) → p + length (texts tree_code parts) ≡ length text → 0 < length parts
  go [] e = absurd (omega arith)
  go (t ∷ more) e = omega arith

-- One turn: the bytes that it writes, and what is then to come.
pub record Next (text whole done : List ℕ) (p : ℕ) (byte : Option ℕ) (next : ℕ) : Type 0 where
  pub bytes : List ℕ
  pub left : ToCome text whole (done ++ bytes) next
  pub on : p < next
  pub in-text : next ≤ length text
  pub fits : length done + length bytes ≤ length whole
  pub copied : byte ≡ None → (bytes ≡ take (next - p) (drop p text)) × (length bytes ≡ next - p)
  pub put : (b : ℕ) → byte ≡ Some b → bytes ≡ b ∷ []

fits_whole : (done bytes later whole : List ℕ) → (done ++ bytes) ++ later ≡ whole → length done + length bytes ≤ length whole
fits_whole done bytes later whole e = omega (arith, ap length e, length-append (done ++ bytes) later, length-append done bytes)

module _ {text whole done : List ℕ} {p : ℕ} (l : ToCome text whole done p) (h : p < length text) where
  abbrev f : First text p l.parts
  f = here l h

  -- the parts are the tree that stands there and more
  split-is : (g : Tree → List ℕ) → texts g l.parts ≡ g f.t ++ texts g f.more
  split-is g = unfold texts in ap (texts g) f.is

  stays : (next : ℕ) → Turned text p f.t None next → Next text whole done p None next
  unfolding texts
  stays next u =
      let t = f.t in
      let g = turn l.pending f _ refl in
      let n = u.stays refl in
      let later = parts_of t ++ f.more in
      let whole_is : (done ++ head_of t) ++ texts anew later ≡ whole =
      append_assoc done (head_of t) (texts anew later)
      ∙ ap (done ++◌) (ap (head_of t ++◌) (texts-append anew (parts_of t) f.more) ∙ sym (append_assoc (head_of t) _ _) ∙ ap (◌++ texts anew f.more) (sym (anew-stays t (sym u.byte_is))) ∙ sym (split-is anew))
      ∙ l.is in
      let text-is : drop p text ≡ head_of t ++ (texts tree_code later ++ l.pending.rest) =
      l.pending.here ∙ ap (◌++ l.pending.rest) (split-is tree_code ∙ g.bytes-are) ∙ append_assoc (head_of t) _ _ in
      record {
        bytes = head_of t;
        left = record {
          parts = later;
          pending = record { rest = g.next.rest; here = ap (λ k. drop k text) n ∙ g.next.here; formed = g.next.formed; count = refl };
          ends = omega (arith, n, g.head, l.ends, ap length (split-is tree_code ∙ g.bytes-are), length-append (head_of t) (texts tree_code later));
          is = whole_is;
        };
        on = omega (arith, n, g.on);
        in-text = omega (arith, n, g.in-text);
        fits = fits_whole done (head_of t) _ whole whole_is;
        copied = λ _. (sym (ap (take (next - p)) text-is ∙ take_at (head_of t) _ (next - p) (omega (arith, g.head, n))), omega (arith, g.head, n));
        put = λ b e. (cc);
      }

  drops : (b next : ℕ) → Turned text p f.t (Some b) next → Next text whole done p (Some b) next
  drops b next u =
      let t = f.t in
      let n = u.dropped b refl in
      let later = f.more in
      let whole_is : (done ++ (b ∷ [])) ++ texts anew later ≡ whole =
      append_assoc done (b ∷ []) (texts anew later)
      ∙ ap (done ++◌) (ap (◌++ texts anew later) (sym (anew-dropped t b (sym u.byte_is))) ∙ sym (split-is anew))
      ∙ l.is in
      let e : next ≡ p + length (tree_code t) = omega (arith, n, size_is t) in
      let formed : All Formed (t ∷ later) = subst (All Formed) f.is l.pending.formed in
      record {
        bytes = b ∷ [];
        left = record {
          parts = later;
          pending = record {
            rest = l.pending.rest;
            here = ap (λ k. drop k text) e ∙ behind text p (tree_code t) (texts tree_code later ++ l.pending.rest) (l.pending.here ∙ ap (◌++ l.pending.rest) (split-is tree_code) ∙ append_assoc (tree_code t) _ _);
            formed = formed.1;
            count = refl;
          };
          ends = omega (arith, e, l.ends, ap length (split-is tree_code), length-append (tree_code t) (texts tree_code later));
          is = whole_is;
        };
        on = omega (arith, e, size_is t, size-pos t formed.0);
        in-text = omega (arith, e, l.ends, ap length (split-is tree_code), length-append (tree_code t) (texts tree_code later));
        fits = fits_whole done (b ∷ []) _ whole whole_is;
        copied = λ e. (cc);
        put = λ x e. (cc);
      }

  turned : (byte : Option ℕ) (next : ℕ) → Turned text p f.t byte next → Next text whole done p byte next
  turned None next u = stays next u
  turned (Some b) next u = drops b next u

  pub tree-here : SomeTree text p
  tree-here = record { what = f.t; stands = f.at }

  pub next-turn : {byte : Option ℕ} {next : ℕ} → ((t : Tree) → At text p t → Turned text p t byte next) → Next text whole done p byte next
  next-turn {byte} {next} u = turned byte next (u f.t f.at)

-- This many bytes of `whole` are counted at p, no more than were passed.
pub record Counted (text whole : List ℕ) (p q : ℕ) : Type 0 where
  pub done : List ℕ
  pub long : q ≡ length done
  pub low : q ≤ p
  pub left : ToCome text whole done p

pub counted-first : (text : List ℕ) (rules : List (Expr rule)) → BookIs text rules → Counted text (book_code (rewritten_book rules)) 0 0
counted-first text rules b = record { done = []; long = refl; low = omega arith; left = to-come-first text rules b }

pub counted-end : {text whole : List ℕ} {p q : ℕ} → Counted text whole p q → length text ≤ p → q ≡ length whole
counted-end w h = w.long ∙ ap length (to-come-end w.left h)

module _ {text whole : List ℕ} {p q next : ℕ} {byte : Option ℕ} (w : Counted text whole p q) (n : Next text whole w.done p byte next) where
  counted-more : (x : ℕ) → length n.bytes ≡ x → x ≤ next - p → Counted text whole next (q + x)
  counted-more x e l = record { done = w.done ++ n.bytes; long = omega (arith, w.long, length-append w.done n.bytes); low = omega (arith, w.low, n.on); left = n.left }

  pub counted-copied : byte ≡ None → Counted text whole next (q + (next - p))
  counted-copied z = counted-more (next - p) (n.copied z).1 (omega arith)

  pub counted-put : (b : ℕ) → byte ≡ Some b → Counted text whole next (q + 1)
  counted-put b e = counted-more 1 (ap length (n.put b e)) (omega (arith, n.on))

-- This many bytes of `whole` are written over the start of an output.
pub record Stored (text whole output : List ℕ) (p q : ℕ) (out : List ℕ) : Type 0 where
  pub done : List ℕ
  pub wrote : Wrote output 0 done q out
  pub left : ToCome text whole done p

pub stored-first : (text : List ℕ) (rules : List (Expr rule)) → BookIs text rules → (output : List ℕ) → Stored text (book_code (rewritten_book rules)) output 0 0 output
stored-first text rules b output = record { done = []; wrote = wrote_none output 0; left = to-come-first text rules b }

pub stored-length : {text whole output out : List ℕ} {p q : ℕ} → Stored text whole output p q out → length out ≡ length output
stored-length {output = output} w = ap length w.wrote.stored ∙ length-laid output 0 w.done

-- the bytes of a turn fit
pub stored-room : {text whole output out : List ℕ} {p q next : ℕ} {byte : Option ℕ} (w : Stored text whole output p q out) (n : Next text whole w.done p byte next) → length whole ≤ length output → q + length n.bytes ≤ length out
stored-room w n r = omega (arith, w.wrote.counted, n.fits, stored-length w)

pub stored_next : {text whole output out out' : List ℕ} {p q q' next : ℕ} {byte : Option ℕ} (w : Stored text whole output p q out) (n : Next text whole w.done p byte next) → Wrote out q n.bytes q' out' → Stored text whole output next q' out'
stored_next w n v = record { done = w.done ++ n.bytes; wrote = wrote-more w.wrote v; left = n.left }

module _ {text whole output out : List ℕ} {p q : ℕ} (w : Stored text whole output p q out) (h : length text ≤ p) where
  pub stored-size : q ≡ length whole
  stored-size = omega (arith, w.wrote.counted, ap length (to-come-end w.left h))

  pub stored-end : q ≤ length output → out ≡ written_at_start whole output
  stored-end r = at_start (wrote_as (to-come-end w.left h) w.wrote) (omega (arith, stored-size))
