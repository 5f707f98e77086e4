-- A page is accepted exactly when some graph within the limits, with as many nodes and the same ones in use, prints it.
use mathlib.Core.Path.{◌≡◌, refl, sym, ◌∙◌, ap, ap₂, subst}
use mathlib.Core.Bool.{true, false, and-false}
use mathlib.Core.Logic.{⊎_elim}
use mathlib.Core.List.{List, ◌++◌}
use Prim.Native.Nat.{ℕ, zero, suc, ◌+◌, ◌*◌, ◌/◌, ◌%◌, ◌≤◌, ◌<◌}
use native.Mathlib.Omega.{arith}
use native.Mathlib.Nat.{eq-or-lt_of_le}
use lib.Dec.{eqb}
use lib.ListN.{length}
use Rattle.answer.specs.Asked.{passed, ◌>>=◌, ◌>>◌, is}
use Rattle.answer.proofs.AskedLaws.{passed-same, bind-passed, then-passed, is-then}
use Rattle.logic.specs.Graph.{Graph}
use Rattle.logic.specs.Limits.{Within}
use Rattle.seal.specs.Seal.{same_bytes}
use Rattle.seal.proofs.SealLaws.{same_refl, same-is}
use Rattle.decimal.specs.Digits.{digits}
use Rattle.sheet.specs.Sheet.{chunks}
use Rattle.sheet.proofs.ChunkLaws.{chunks-same}
use Rattle.pages.specs.Page.{head_line, set_line, arrow_page_def, label_page_lines, label_page_def}
use Rattle.pages.specs.Typed.{page_line, Block, arrows, labels, head_of, lines_of, head_is_def, head_number, ask_head, line_right, ask_lines, ask_page, typed}
use Rattle.pages.specs.Prints.{set_at, page_lines, page_of, HasBlock, Alike, Prints}
use Rattle.pages.proofs.TypeLaws.{head-same, head-says, head-named, names-labels, names-arrows}
use Rattle.pages.proofs.RightLines.{line-right, typed-alike, typed-within, typed-line}
use Rattle.pages.proofs.PageParts.{page-is, length-page, page-head, parts}

-- all lines are right
module _ (g : Graph) (b : Block) (page : List ℕ) where
  pub all_right : (m x : ℕ) → ((y : ℕ) → x ≤ y → y < x + m → line_right g b y (page_line page (suc y)) ≡ true) → ask_lines g b page m x ≡ passed tt
  unfolding ask_lines is ◌>>◌
  all_right zero x r = refl
  all_right (suc m) x r = ap (λ r. is r 51 (suc x) >> ask_lines g b page m (suc x)) (r x (omega arith) (omega arith)) ∙ all_right m (suc x) (λ y l u. r y (omega arith) (omega arith))

  pub right-all : (m x : ℕ) → ask_lines g b page m x ≡ passed tt → (y : ℕ) → x ≤ y → y < x + m → line_right g b y (page_line page (suc y)) ≡ true
  unfolding ask_lines
  right-all zero x e y l u = absurd (omega arith)
  right-all (suc m) x e y l u =
      let (r, s) = is-then (line_right g b x (page_line page (suc x))) 51 (suc x) (ask_lines g b page m (suc x)) e in
      ⊎_elim (λ z. subst (λ y. line_right g b y (page_line page (suc y)) ≡ true) z r) (λ k. right-all m (suc x) s y k (omega arith)) (eq-or-lt_of_le l)

-- an accepted page: its head and its lines
pub record Right (g : Graph) (page : List ℕ) (b : Block) : Type 0 where
  pub head : ask_head g.n page ≡ passed b
  pub lines : ask_lines g b page (lines_of g.n b) 0 ≡ passed tt

pub accepted-right : (g : Graph) (page : List ℕ) (b : Block) → ask_page g page ≡ passed b → Right g page b
unfolding ask_page
accepted-right g page b e =
    let h = bind-passed (ask_head g.n page) (λ a. ask_lines g a page (lines_of g.n a) 0 >> passed a) b e in
    let l = then-passed (ask_lines g h.0 page (lines_of g.n h.0) 0) (passed h.0) b h.2 in
    let same : h.0 ≡ b = passed-same l.2 in
    record { head = h.1 ∙ ap passed same; lines = ap (λ c. ask_lines g c page (lines_of g.n c) 0) (sym same) ∙ l.1 }

pub right-accepted : (g : Graph) (page : List ℕ) (b : Block) → Right g page b → ask_page g page ≡ passed b
right-accepted g page b r = unfold ask_page ◌>>=◌ ◌>>◌ in rw (r.head, r.lines)

-- the head of what a graph prints
module _ (h : Graph) where
  -- the digits of a kind
  low : (d : ℕ) → d < 10 → (48 + d) % 16 ≡ d
  low d l = omega arith

  kind-read : (a : ℕ) → a < 100 → head_number (arrow_page_def h a) ≡ a
  kind-read a l = unfold arrow_page_def head_line digits in ap₂ (λ x y. 10 * x + y) (low (a / 10 % 10) (omega arith)) (low (a % 10) (omega arith)) ∙ omega arith

  not-labels : (a : ℕ) → head_is_def h.n (arrow_page_def h a) labels ≡ false
  not-labels a = unfold head_is_def arrow_page_def head_line same_bytes in and-false (eqb (length (arrow_page_def h a)) (64 * label_page_lines + 64))

  own-head : (b : Block) → head_is_def h.n (page_of h b) b ≡ true
  own-head b = head-same h.n (page_of h b) b (length-page h b) ∙ ap (λ l. same_bytes l (head_of h.n b)) (page-head h b) ∙ same_refl (head_of h.n b)

  pub printed-head : (b : Block) → HasBlock b → ask_head h.n (page_of h b) ≡ passed b
  printed-head (arrows a) l =
      let k : head_number (arrow_page_def h a) ≡ a = kind-read a (omega arith) in
      sym (names-arrows h.n (arrow_page_def h a) (not-labels a) (omega arith) (ap (λ x. head_is_def h.n (arrow_page_def h a) (arrows x)) k ∙ own-head (arrows a))) ∙ ap (λ x. passed (arrows x)) k
  printed-head labels l = sym (names-labels h.n (label_page_def h) (own-head labels))

-- what a graph like this one prints is accepted
pub printed-right : (g h : Graph) → Within h → Alike g h → (b : Block) → HasBlock b → Right g (page_of h b) b
printed-right g h w e b l =
    record {
      head = ap (λ m. ask_head m (page_of h b)) (sym e.nodes) ∙ printed-head h b l;
      lines = all_right g b (page_of h b) (lines_of g.n b) 0 (λ y k u. line-right g b y (omega arith) _ (record { graph = h; within = w; alike = e; is_line = refl }));
    }

-- An accepted page is the page of the graph with its marks.
pub accepted-page : (g : Graph) (page : List ℕ) (b : Block) → Right g page b → page ≡ page_of (typed g page b) b
unfolding page_lines
accepted-page g page b r =
    let h = head-says g.n page b (head-named g.n page b r.head).1 in
    let n : (typed g page b).n ≡ g.n = (typed-alike g page b).nodes in
    parts page (lines_of g.n b) h.0
    ∙ ap₂ ◌++◌ (same-is (page_line page 0) (head_of g.n b) h.1)
    (chunks-same (lines_of g.n b) 0 _ _ (λ x l u. typed-line g page b x (right-all g b page (lines_of g.n b) 0 r.lines x l u)))
    ∙ ap (λ m. head_of m b ++ chunks (lines_of m b) 0 (λ x. set_line m x (set_at (typed g page b) b x))) (sym n) ∙ sym (page-is (typed g page b) b)

-- EXACTLY WHEN. For a graph within the limits: a page is accepted for a block exactly when some graph within the limits, with as many nodes and the
-- same ones in use, prints it for that block.
module _ (g : Graph) (page : List ℕ) (b : Block) where
  pub accepted-printed : Within g → ask_page g page ≡ passed b → Prints g page b
  accepted-printed w e =
      let r = accepted-right g page b e in
      let h = (head-named g.n page b r.head).0 in
      record { graph = typed g page b; within = typed-within g page w b h; alike = typed-alike g page b; block = h; is_page = accepted-page g page b r }

  pub printed-accepted : Prints g page b → ask_page g page ≡ passed b
  printed-accepted p = ap (ask_page g) p.is_page ∙ right-accepted g (page_of p.graph b) b (printed-right g p.graph p.within p.alike b p.block)
