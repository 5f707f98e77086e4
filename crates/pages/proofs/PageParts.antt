-- A page and its lines.
use mathlib.Core.Path.{◌≡◌, refl, sym, ◌∙◌, ap}
use mathlib.Core.List.{List, ◌++◌}
use Prim.Native.Nat.{ℕ, zero, suc, ◌+◌, ◌*◌, ◌<◌}
use native.Mathlib.Omega.{arith}
use lib.ListN.{length, drop, length-append, take-append-drop, drop_of_length-le}
use lib.Seq.{take_at, drop-append-add, drop-drop}
use Rattle.logic.specs.Graph.{Graph}
use Rattle.sheet.specs.Sheet.{chunks}
use Rattle.sheet.proofs.ChunkLaws.{length-chunks, take_chunk}
use Rattle.pages.specs.Page.{set_line, row_lines, arrow_page_def, label_lines, label_page_def}
use Rattle.pages.specs.Typed.{page_line, Block, arrows, labels, head_of, lines_of}
use Rattle.pages.specs.Prints.{set_at, page_lines, page_of}
use Rattle.pages.proofs.PageLaws.{length-head_of, length-set_line}

-- a page is its head and its lines
pub page-is : (h : Graph) (b : Block) → page_of h b ≡ head_of h.n b ++ page_lines h b
unfolding arrow_page_def row_lines label_page_def label_lines page_lines
page-is h (arrows a) = refl
page-is h labels = refl

module _ (h : Graph) (b : Block) where
  set_lines : (x : ℕ) → length (set_line h.n x (set_at h b x)) ≡ 64
  set_lines x = length-set_line h.n x (set_at h b x)

  pub length-page : length (page_of h b) ≡ 64 * lines_of h.n b + 64
  length-page = unfold page_lines in rw (page-is h b, length-append, length-chunks 64 _ set_lines (lines_of h.n b) 0) (omega (arith, length-head_of h.n b))

  pub page-head : page_line (page_of h b) 0 ≡ head_of h.n b
  page-head = unfold page_lines in rw (page-is h b) (take_at (head_of h.n b) (page_lines h b) 64 (length-head_of h.n b))

  pub page-line : (x : ℕ) → x < lines_of h.n b → page_line (page_of h b) (suc x) ≡ set_line h.n x (set_at h b x)
  unfolding page_lines
  page-line x l =
      let e : 64 * suc x ≡ length (head_of h.n b) + 64 * x = omega (arith, length-head_of h.n b) in
      let z : 0 + x ≡ x = omega arith in
      rw (page-is h b, e, drop-append-add) (take_chunk 64 _ set_lines (lines_of h.n b) 0 x l ∙ ap (λ y. set_line h.n y (set_at h b y)) z)

-- a page is the lines it is cut into, joined
module _ (page : List ℕ) where
  rest : (m i : ℕ) → length page ≡ 64 * (i + m) + 64 → drop (64 * suc i) page ≡ chunks m i (λ x. page_line page (suc x))
  unfolding chunks
  rest zero i e = drop_of_length-le page {i = 64 * suc i} (omega arith)
  rest (suc m) i e =
      let next : 64 * suc i + 64 ≡ 64 * suc (suc i) = omega arith in
      sym (take-append-drop 64 (drop (64 * suc i) page))
      ∙ ap (page_line page (suc i) ++◌) (drop-drop 64 (64 * suc i) page ∙ ap (λ p. drop p page) next ∙ rest m (suc i) (omega arith))

  pub parts : (m : ℕ) → length page ≡ 64 * m + 64 → page ≡ page_line page 0 ++ chunks m 0 (λ x. page_line page (suc x))
  parts m e = sym (take-append-drop 64 page) ∙ ap (page_line page 0 ++◌) (rest m 0 (omega arith))
