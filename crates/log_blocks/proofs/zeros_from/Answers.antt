use Rattle.std.proofs.Common.{◌≡◌, refl, sym, ap, ◌∙◌, rules, tests, arith, List, [], ◌∷◌, ℕ, ◌+◌, ◌-◌, ◌≤◌, eqb, ◌&&◌, take, drop}
use Rattle.std.specs.List.{list_all}
use Rattle.std.proofs.lemmas.Iterator.{YieldsList-from_slice}
use Rattle.std.proofs.lemmas.Iterator.Search.{all_from_yields_List}
use Rattle.std.proofs.lemmas.List.{drop-take}
use Rattle.log_blocks.specs.Log.{all_zero}
use Rattle.log_blocks.proofs.zeros_from.Goals as goal

all-zero-is : (bytes : List ℕ) → list_all (λ b. eqb b 0) bytes ≡ all_zero bytes
unfolding all_zero
all-zero-is [] = refl
all-zero-is (b ∷ bs) = ap (λ r. eqb b 0 && r) (all-zero-is bs)

-- the rest of the body, as the code cuts it
rest : (k : List ℕ) (i : ℕ) → i ≤ 508 → take (508 - i) (drop i k) ≡ drop i (take 508 k)
rest k i h = let e : 508 ≡ i + (508 - i) = omega arith in sym (ap (λ n. drop i (take n k)) e ∙ drop-take i (508 - i) k)

pub returns : goal.returns
returns c =
    let k = c.args.block.now in
    let i = c.args.from in
    all_from_yields_List (λ b. eqb b 0) _ _ c.all.result c.all.ensures.ran (YieldsList-from_slice (take (508 - i) (drop i k)) cc) (λ x b q f. search (rules, tests)) ∙ all-zero-is _
    ∙ ap all_zero (rest k i c.requires.1)
