-- The place of 51 is 0 for a page's length or head, else the first line that no graph with the same nodes in use has there.
use mathlib.Core.Path.{◌≡◌, refl, sym, ◌∙◌, ap, ap₂, subst}
use mathlib.Core.Bool.{Bool, true, false, ◌&&◌, cond}
use mathlib.Core.List.{List}
use mathlib.Core.Logic.{⊎_elim}
use Prim.Native.Nat.{ℕ, zero, suc, ◌+◌, ◌*◌, ◌%◌, ◌≤◌, ◌<◌}
use native.Mathlib.Omega.{arith}
use native.Mathlib.Nat.{eq-or-lt_of_le}
use lib.Dec.{eqb, ltb}
use lib.ListN.{length, get_or}
use lib.Seq.{get_or-take}
use Rattle.answer.specs.Asked.{Asked, passed, refused, ◌>>=◌, ◌>>◌, is}
use Rattle.answer.proofs.AskedLaws.{refused-not-passed, bind-refused, then-refused}
use Rattle.logic.specs.Graph.{Graph}
use Rattle.logic.specs.Limits.{Within, arrow_count}
use Rattle.seal.specs.Seal.{same_bytes}
use Rattle.pages.specs.Page.{head_line, label_page_lines}
use Rattle.pages.specs.Typed.{page_line, Block, arrows, labels, lines_of, head_is_def, head_number, ask_head, line_right, ask_lines, ask_page}
use Rattle.pages.specs.Prints.{page_of}
use Rattle.pages.specs.Places.{NoHead, Place, at_head, at_line}
use Rattle.pages.proofs.TypeLaws.{head-named}
use Rattle.pages.proofs.RightLines.{line-right, right-line}
use Rattle.pages.proofs.PageAccepted.{printed-right}

-- the question about the head depends only on the length and the first line
head-asked : (n : ℕ) (page other : List ℕ) → length page ≡ length other → page_line page 0 ≡ page_line other 0 → ask_head n page ≡ ask_head n other
unfolding ask_head head_is_def
head-asked n page other l e = λ t. by (l t) (e t) (number t) where
  by : ℕ → List ℕ → ℕ → Asked Block
  by size first kind =
      cond (eqb size (64 * label_page_lines + 64) && same_bytes first (head_line 0x4C n)) (passed labels)
      (cond (ltb kind arrow_count && (eqb size (64 * n + 64) && same_bytes first (head_line 0x41 kind))) (passed (arrows kind)) (refused 51 0))

  digit-in : (p : List ℕ) (i : ℕ) → i < 64 → get_or p i 0 ≡ get_or (page_line p 0) i 0
  digit-in p i h = sym (get_or-take 64 p i 0 h)

  number : head_number page ≡ head_number other
  number =
      ap₂ (λ x y. 10 * (x % 16) + y % 16)
      (digit-in page 1 (omega arith) ∙ ap (λ f. get_or f 1 0) e ∙ sym (digit-in other 1 (omega arith)))
      (digit-in page 2 (omega arith) ∙ ap (λ f. get_or f 2 0) e ∙ sym (digit-in other 2 (omega arith)))

module _ (g : Graph) (page : List ℕ) where
  no-head : (q p : ℕ) → ask_head g.n page ≡ refused q p → NoHead g page
  no-head q p e h w m b k l s =
      let z : ask_head g.n page ≡ passed b = head-asked g.n page (page_of h b) l s ∙ (printed-right g h w m b k).head in
      let o : ◌≡◌ {A = ℕ} 0 1 = cc in omega arith

  head-refused : (q p : ℕ) → ask_head g.n page ≡ refused q p → (q ≡ 51) × (p ≡ 0)
  unfolding ask_head
  head-refused q p e = by (head_is_def g.n page labels) (ltb (head_number page) arrow_count && head_is_def g.n page (arrows (head_number page))) e where
    by : (a b : Bool) → cond a (passed labels) (cond b (passed (arrows (head_number page))) (refused 51 0)) ≡ refused q p → (q ≡ 51) × (p ≡ 0)
    by true b e = refused-not-passed (sym e)
    by false true e = refused-not-passed (sym e)
    by false false e = (cc, cc)

  -- the first line that is not right
  record Stopped (b : Block) (m x q p : ℕ) : Type 0 where
    line : ℕ
    from : x ≤ line
    below : line < x + m
    number_is : q ≡ 51
    place_is : p ≡ suc line
    right : (y : ℕ) → x ≤ y → y < line → line_right g b y (page_line page (suc y)) ≡ true
    wrong : line_right g b line (page_line page (suc line)) ≡ false

  stopped : (b : Block) (m x q p : ℕ) → ask_lines g b page m x ≡ refused q p → Stopped b m x q p
  unfolding ask_lines is ◌>>◌
  stopped b zero x q p e = refused-not-passed (sym e)
  stopped b (suc m) x q p e = go (line_right g b x (page_line page (suc x))) refl e (stopped b m (suc x) q p) where
    more : line_right g b x (page_line page (suc x)) ≡ true → Stopped b m (suc x) q p → Stopped b (suc m) x q p
    more r s =
        record {
          line = s.line;
          from = omega (arith, s.from);
          below = omega (arith, s.below);
          number_is = s.number_is;
          place_is = s.place_is;
          right = λ y l u. ⊎_elim (λ z. subst (λ y. line_right g b y (page_line page (suc y)) ≡ true) z r) (λ k. s.right y k u) (eq-or-lt_of_le l);
          wrong = s.wrong;
        }

    go : (o : Bool) → line_right g b x (page_line page (suc x)) ≡ o → (is o 51 (suc x) >> ask_lines g b page m (suc x)) ≡ refused q p → (ask_lines g b page m (suc x) ≡ refused q p → Stopped b m (suc x) q p) → Stopped b (suc m) x q p
    go true r e next = more r (next e)
    go false r e next =
        record { line = x; from = omega arith; below = omega arith; number_is = cc; place_is = cc; right = λ y l u. absurd (omega arith); wrong = r }

  -- THE PLACE OF 51.
  pub place-of-51 : Within g → (q p : ℕ) → ask_page g page ≡ refused q p → (q ≡ 51) × Place g page p
  unfolding ask_page ◌>>=◌ ◌>>◌
  place-of-51 w q p e = ⊎_elim
      (λ h. let r = head-refused q p h in (r.0, at_head r.1 (no-head q p h)))
      (λ h. at_first h.0 h.1 (stopped h.0 (lines_of g.n h.0) 0 q p (then-refused _ h.0 h.2)))
      (bind-refused (ask_head g.n page) (λ b. ask_lines g b page (lines_of g.n b) 0 >> passed b) e) where
        at_first : (b : Block) → ask_head g.n page ≡ passed b → Stopped b (lines_of g.n b) 0 q p → (q ≡ 51) × Place g page p
        at_first b h s = (
          s.number_is,
          at_line b s.line s.place_is (record {
            head = h;
            there = omega (arith, s.below);
            before = λ y l. right-line g page w b (head-named g.n page b h).0 y (omega (arith, s.below)) (s.right y (omega arith) l);
            wrong = λ i. let o : ◌≡◌ {A = ℕ} 0 1 = cc (line-right g b s.line (omega (arith, s.below)) (page_line page (suc s.line)) i, s.wrong) in omega arith;
          }),
        )
