use Rattle.std.proofs.Common.{ℕ, ◌≡◌, ◌+◌, ◌-◌, ◌∙◌, ap, sym, arith, length, take, drop}
use mathlib.Core.List.{append_assoc}
use lib.ListN.{length-take, length-drop}
use Rattle.std.proofs.lemmas.Slice.{put_mid-paste}
use Rattle.std.proofs.lemmas.List.Edits.{paste_all}
use Rattle.write.proofs.Laying.{wrote-part}
use Rattle.write.proofs.bytes.copy.Goals as goal

pub returns : goal.returns
returns c =
    let a = c.args in
    let bs = take a.n (drop a.at a.text.now) in
    let l : a.n ≡ length bs = omega (arith, length-take a.n (drop a.at a.text.now), length-drop a.at a.text.now) in
    let m : a.at + a.n - a.at ≡ a.n = omega arith in
    let s = c.copy_from_slice.ensures.after ∙ ap (λ (k : ℕ). take k (drop a.at a.text.now)) m in
    wrote-part (put_mid-paste a.pos _ a.out.now _ bs a.n s (omega arith) l ∙ paste_all a.out.now a.pos bs a.n l ∙ sym (append_assoc (take a.pos a.out.now) bs (drop (a.pos + a.n) a.out.now))) l (omega arith)
