use native.Mathlib.Omega.{arith}
use Rattle.std.proofs.lemmas.Result.{err_from_is_err_and}
use Rattle.play.proofs.PlayStages.{enough, some-moves}
use Rattle.play.proofs.Playing.{game-stops, known, texts-stand, game-stands, found-is}
use Rattle.play.proofs.play.Goals as goal

pub returns-in_err-ask : goal.returns-in_err-ask
returns-in_err-ask c =
    let p = err_from_is_err_and c.from_residual.result c.from_residual.ensures.1 in
    let e = c.in_err-ask.ensures in
    record { value = rw (p.1, p.2) (game-stops _ _ _ _ _ _ _ _ _ e.value); edit_value = rw (p.1, p.2) e.edit_value }

pub behind-requires : goal.behind-requires
behind-requires c = record { what = _; are = texts-stand _ _ _ _ _ _ _ c.in_ok-ask.ensures.value }

pub overflow_sub-lists : goal.overflow_sub-lists
overflow_sub-lists c = omega (arith, enough _ _ _ _ (known _ _ _ _ _ _ _ c.in_ok-ask.ensures.value).ok)

pub search-requires : goal.search-requires
search-requires c =
    let e = c.in_ok-ask.ensures.value in
    let k = known _ _ _ _ _ _ _ e in
    (k.sound, record { what = _; stands = game-stands _ _ _ _ _ _ _ e _ c.behind.ensures }, some-moves _ _ _ _ k.ok)

pub returns : goal.returns
returns c = record { value = found-is _ _ _ _ _ _ _ c.in_ok-ask.ensures.value _ c.behind.ensures _ c.search.ensures; edit_value = tt }
