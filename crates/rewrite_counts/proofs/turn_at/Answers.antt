use Rattle.std.proofs.Common.{◌∙◌, sym, ap, ◌+◌, arith}
use Prim.Native.Nat.{◌%◌}
use Rattle.ends.proofs.TreePlaces.{inside}
use Rattle.ends.proofs.Pending.{code_at}
use Rattle.rewrite_counts.proofs.RewriterTurns.{dropped-count}
use Rattle.rewrite_counts.proofs.turn_at.Goals as goal

pub bounds-book-at : goal.bounds-book-at
bounds-book-at c = inside _ _ _ c.requires.stands

pub shape-requires : goal.shape-requires
shape-requires c = code_at _ _ _ c.requires.stands

pub overflow_add-next : goal.overflow_add-next
overflow_add-next c = omega (arith, inside _ _ _ c.requires.stands)

pub overflow_add-at : goal.overflow_add-at
overflow_add-at c = omega (arith, inside _ _ _ c.requires.stands)

pub past-requires : goal.past-requires
past-requires c = let q = dropped-count _ _ c.requires.what c.requires.stands _ (sym (c.in_place-byte.ensures _ c.requires.stands) ∙ c.in-Some.is) in record { what = q.x; stands = q.first }

pub past-next-requires : goal.past-next-requires
past-next-requires c = let q = dropped-count _ _ c.requires.what c.requires.stands _ (sym (c.in_place-byte.ensures _ c.requires.stands) ∙ c.in-Some.is) in record { what = q.y; stands = q.second _ (c.past.ensures q.x q.first) }

pub returns-in-None : goal.returns-in-None
returns-in-None c = λ t h. record {
  byte_is = c.in_place-byte.ensures t h;
  stays = λ z. ap (λ k. c.args.at + k % 4) c.shape.ensures;
  dropped = λ b e. (cc);
}

pub returns-in-Some : goal.returns-in-Some
returns-in-Some c = λ t h.
    let q = dropped-count _ _ t h _ (sym (c.in_place-byte.ensures t h) ∙ c.in-Some.is) in
    let first = c.past.ensures q.x q.first in
    record {
      byte_is = c.in_place-byte.ensures t h;
      stays = λ z. (cc);
      dropped = λ b e. omega (arith, c.past-next.ensures q.y (q.second _ first), first, q.size_is);
    }
