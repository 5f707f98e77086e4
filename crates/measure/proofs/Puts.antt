-- Bytes put before those that stand at a place.
use mathlib.Core.Path.{◌≡◌, sym, ap, ◌∙◌}
use mathlib.Core.List.{List, [], ◌∷◌, ◌++◌}
use Prim.Native.Nat.{ℕ, ◌+◌}
use lib.ListN.{length, take, drop}
use lib.Seq.{take_at}
use Rattle.measure.specs.EditMeasures.{EndBefore}
use Rattle.text.proofs.StandingLaws.{behind}

pub head_of : (text : List ℕ) (at : ℕ) (h l : List ℕ) (n : ℕ) → drop at text ≡ h ++ l → length h ≡ n → take n (drop at text) ≡ h
head_of text at h l n e f = ap (take n) e ∙ take_at h l n f

pub end-tail : (out : List ℕ) (pos : ℕ) (out' : List ℕ) (pos' : ℕ) → EndBefore out pos out' pos' → drop (pos' + 1) out' ≡ drop pos out
end-tail out pos out' pos' w = behind out' pos' (0x30 ∷ []) (drop pos out) w.put_is

pub end-here : (out : List ℕ) (pos : ℕ) (out' : List ℕ) (pos' : ℕ) → EndBefore out pos out' pos' → drop pos' out' ≡ 0x30 ∷ drop (pos' + 1) out'
end-here out pos out' pos' w = w.put_is ∙ ap (λ (l : List ℕ). 0x30 ∷ l) (sym (end-tail out pos out' pos' w))
