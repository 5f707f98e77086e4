-- The work array at a 35: the offset of the edit that follows is stored, and the last steps of names are put back for the second way.
use mathlib.Core.Path.{◌≡◌, refl, sym, ap, ◌∙◌}
use mathlib.Core.List.{List, ◌∷◌, ◌++◌}
use Prim.Native.Nat.{ℕ, ◌+◌, ◌<◌}
use native.Mathlib.Omega.{arith}
use lib.ListN.{length, get_or, set, take, drop, length-set}
use lib.Seq.{length_front}
use Rattle.logic.specs.Syntax.{Edit}
use Rattle.text.specs.Code.{edit_code}
use Rattle.tree.specs.Tree.{Tree, tree_code, graft, size}
use Rattle.tree.specs.Stack.{Substitution, env}
use Rattle.ends.specs.Shapes.{At}
use Rattle.ends.specs.Edits.{EditAt}
use Rattle.ends.specs.Kept.{Kept}
use Rattle.write.specs.Laid.{Wrote}
use Rattle.write.specs.Offsets.{StackIs}
use Rattle.write.specs.Work.{work_length, stack_of, links_of, behind_of}
use Rattle.write.specs.Links.{LinkedIn, Relinked, Fitting}
use Rattle.write.specs.Ways.{Walked, Chosen, SomeCarried, WayWritten, Noted, Renoted}
use Rattle.write.proofs.WorkParts.{part_at, part_length, names-long, last-first, behind-stored, last-replaced}
use Rattle.write.proofs.Walking.{way-low, at-choice}
use Rattle.write.proofs.Notes.{notes-set, notes-front, noted-same}
use Rattle.write.proofs.Finding.{linked-kept}
use Rattle.write.proofs.Choosing.{chosen}
use Rattle.write.proofs.WrittenWays.{rested}

kept_same : {n : ℕ} {l m : List ℕ} → m ≡ l → Kept n l m
kept_same e = record { same = λ i r. ap (λ (x : List ℕ). get_or x i 0) e }

-- the first way of a 35: its rule is written, and `next` stands after it
pub record Branch (text : List ℕ) (from : ℕ) (edit work : List ℕ) (at h d : ℕ) (o : List ℕ) (pos : ℕ) (work' : List ℕ) (at' h' d' first second next pos' : ℕ) (o' : List ℕ) : Type 0 where
  pub walked : Walked edit (stack_of work) (behind_of work) at h d (stack_of work') at' h' d'
  pub some : SomeCarried text from edit (stack_of work') (behind_of work) at' h' d' pos (length o)
  pub chosen : (Z : Edit) → EditAt edit at' Z → Chosen edit at' first second next Z
  pub opened : (σ : List Substitution) (t : Tree) → h' ≡ length σ → StackIs edit (stack_of work') σ → At edit (at' + 1) t → Wrote o pos (0x25 ∷ 0x26 ∷ 0x27 ∷ tree_code (graft (env σ) t)) pos' o'
  pub low : d' < length (behind_of work)
  pub behind : behind_of work' ≡ set (behind_of work) d' next
  pub linked : LinkedIn edit work' h'
  pub fits : Fitting edit work'
  pub kept : Kept h (links_of work) (links_of work')
  pub noted : Noted edit work'

pub branch : {text edit work work₁ work₂ o o' : List ℕ} {from at h d pos at' h' d' first second next pos' : ℕ} → SomeCarried text from edit (stack_of work) (behind_of work) at h d pos (length o) → Fitting edit work → length work₁ ≡ length work
    → Walked edit (stack_of work) (behind_of work) at h d (stack_of work₁) at' h' d' → Relinked edit work work₁ h h' → (get_or edit at' 0 ≡ 0x30 → ⊥)
    → ((σ : List Substitution) (t : Tree) → h' ≡ length σ → StackIs edit (stack_of work₁) σ → At edit (at' + 1) t → Wrote o pos (0x25 ∷ 0x26 ∷ 0x27 ∷ tree_code (graft (env σ) t)) pos' o' × (first ≡ at' + 1 + size t))
    → ((P : Edit) → EditAt edit first P → second ≡ first + length (edit_code P)) → ((Q : Edit) → EditAt edit second Q → next ≡ second + length (edit_code Q)) → Renoted edit work₁ work₂ → length work₂ ≡ length work₁
    → Branch text from edit work at h d o pos (set work₂ (2796 + d') next) at' h' d' first second next pos' o'
branch {text} {edit} {work} {work₁} {work₂} {o} {o'} {from} {at} {h} {d} {pos} {at'} {h'} {d'} {first} {second} {next} {pos'} w f l a r m u g e x y₂ =
    let y = (rested w a).way in
    let q = way-low y f.short in
    let b = behind-stored work₂ d' next q.1 in
    let s : stack_of (set work₂ (2796 + d') next) ≡ stack_of work₁ = b.stack_is ∙ x.stack_same in
    let k : links_of (set work₂ (2796 + d') next) ≡ links_of work₁ = b.links-are ∙ x.links_same in
    record {
      walked = rw s a;
      some = rw s (rested w a);
      chosen = chosen edit at' (at-choice _ _ a.rests m) (λ t i. (u y.steps t y.way.steps_passed y.way.steps i).1) g e;
      opened = λ σ t n i j. (u σ t n (rw s at i) j).0;
      low = omega (arith, q.1, part_length 2796 2048 work (omega (arith, f.long)));
      behind = b.behind-is ∙ ap (λ (z : List ℕ). set z d' next) (x.behind_same ∙ r.behind_same);
      linked = linked-kept (kept_same s) (kept_same k) (kept_same (b.last-is ∙ x.last_same)) r.linked;
      fits = record { short = f.short; long = length-set work₂ (2796 + d') next ∙ y₂ ∙ l ∙ f.long };
      kept = rw k r.kept;
      noted = noted-same (notes-set work₂ (2796 + d') next (omega (arith, q.1))) x.noted;
    }

-- the second way: the last steps of names as before the first
pub record Again (text : List ℕ) (from : ℕ) (edit work : List ℕ) (at h d : ℕ) (o : List ℕ) (pos pos' : ℕ) (work' o' : List ℕ) : Type 0 where
  pub written : WayWritten text from edit (stack_of work) (behind_of work) at h d o pos pos' (stack_of work') (behind_of work') o'
  pub linked : LinkedIn edit work' h
  pub fits : Fitting edit work'
  pub kept : Kept h (links_of work) (links_of work')
  pub noted : Noted edit work'

pub again : (work₁ : List ℕ) {text edit work o o' last : List ℕ} {from at h d pos pos' : ℕ} → LinkedIn edit work h → Fitting edit work → length work₁ ≡ length work
    → WayWritten text from edit (stack_of work) (behind_of work) at h d o pos pos' (stack_of work₁) (behind_of work₁) o' → Kept h (links_of work) (links_of work₁) → last ≡ take 64 work → Noted edit work₁
    → Again text from edit work at h d o pos pos' (last ++ drop 64 work₁) o'
again work₁ {text} {edit} {work} {o} {o'} {last} {from} {at} {h} {d} w f l c t a g =
    let e : length last ≡ 64 = ap length a ∙ names-long work f.long in
    let r = last-replaced work₁ last e in
    let k : LinkedIn edit (last ++ drop 64 work₁) h = linked-kept (rw r.stack_is c.kept) (rw r.links-are t) (rw (r.last-is, last-first work) (kept_same a)) w in
    let n = length_front work₁ last 64 (e ∙ sym (names-long work₁ (l ∙ f.long))) ∙ l ∙ f.long in
    record { written = rw (r.stack_is, r.behind-is) c; linked = k; fits = record { short = f.short; long = n }; kept = rw r.links-are t; noted = noted-same (notes-front work₁ last e) g }

-- after both, the offsets of the edits that follow are there again
pub stored_back : (work₀ work₁ work : List ℕ) {text edit : List ℕ} {from at h d : ℕ} {o : List ℕ} {pos pos' : ℕ} {o' : List ℕ} {d' : ℕ} → d' < length (behind_of work₀) → length work₀ ≡ work_length → behind_of work₁ ≡ behind_of work₀
    → ((behind' : List ℕ) → behind' ≡ set (behind_of work) d' (get_or (behind_of work₀) d' 0) → WayWritten text from edit (stack_of work₀) (behind_of work₀) at h d o pos pos' (stack_of work) behind' o')
    → Kept h (links_of work₀) (links_of work)
    → WayWritten text from edit (stack_of work₀) (behind_of work₀) at h d o pos pos' (stack_of (set work (2796 + d') (get_or work₁ (2796 + d') 0))) (behind_of (set work (2796 + d') (get_or work₁ (2796 + d') 0))) o'
    × Kept h (links_of work₀) (links_of (set work (2796 + d') (get_or work₁ (2796 + d') 0)))
stored_back work₀ work₁ work {text} {edit} {from} {at} {h} {d} {o} {pos} {pos'} {o'} {d'} l n e c k =
    let r : d' < 2048 = omega (arith, l, part_length 2796 2048 work₀ (omega (arith, n))) in
    let v = get_or work₁ (2796 + d') 0 in
    let b = behind-stored work d' v r in
    let x : v ≡ get_or (behind_of work₀) d' 0 = sym (part_at 2796 2048 work₁ d' (2796 + d') r refl) ∙ ap (λ (y : List ℕ). get_or y d' 0) e in
    (rw b.stack_is (c (behind_of (set work (2796 + d') v)) (b.behind-is ∙ ap (λ (y : ℕ). set (behind_of work) d' y) x)), rw b.links-are k)
