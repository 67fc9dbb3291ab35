use Rattle.std.proofs.Common.{◌≡◌, ◌<◌, length, inl, ap, ◌∙◌, subst, arith}
use Rattle.std.specs.Iterator.Adapters.{enumerate_source, enumerate_count}
use Rattle.stores.specs.BitRows.{bit_rows}
use Rattle.stores.specs.Bounds.{rows_bounded}
use Rattle.planner.specs.Starts.{place, FirstAt}
use Rattle.planner.proofs.Walking.{before_all}
use Rattle.planner.proofs.Listing.{listed_none, listed_room, listed_more, listed_all}
use Rattle.planner.proofs.cuts.list_cuts.Goals as goal

pub loop-place-init : goal.loop-place-init
loop-place-init c =
    let G = bit_rows c.args.gone.now in
    let s : enumerate_source c.into_iter-place-iterator.result ≡ c.of.result = ap enumerate_source c.into_iter-place-iterator.ensures.into_iter_gives ∙ c.enumerate-place-items.ensures.source in
    let n : enumerate_count c.into_iter-place-iterator.result ≡ 0 = ap enumerate_count c.into_iter-place-iterator.ensures.into_iter_gives ∙ c.enumerate-place-items.ensures.count in
    rw (s, n) (
      (c.of.ensures.within, tt, inl (omega arith)),
      c.of.ensures.store,
      rw c.of.ensures.begins (listed_none G c.args.cuts.now),
    )

-- the start that was found, its range, and the room for its word
first : (c : goal.In-Some) → FirstAt (bit_rows c.args.gone.now) (place (enumerate_source c.loop-place.place-iterator)) (place (enumerate_source c.next.new.self)) c.in-Some.row c.in-Some.start
first c = rw c.loop-place.invariant.1 at c.in-Some.ensures.steps.0.next

small : (c : goal.In-Some) → (c.in-Some.row < 24) × (c.in-Some.start < 256)
small c = rows_bounded c.args.gone.now c.in-Some.row c.in-Some.start (first c).held

room : (c : goal.In-Some) → c.in-Some.place < length c.loop-place.cuts
room c =
    rw c.in-Some.ensures.steps.1 (listed_room (bit_rows c.args.gone.now) _ _ _ _ _ _ _ (rows_bounded c.args.gone.now) c.requires (first c) c.loop-place.invariant.2)

pub overflow_mul-cuts : goal.overflow_mul-cuts
overflow_mul-cuts c = let (i, t) = small c in omega arith

pub overflow_add-cuts : goal.overflow_add-cuts
overflow_add-cuts c = let (i, t) = small c in omega arith

pub overflow_cast-cuts : goal.overflow_cast-cuts
overflow_cast-cuts c = let (i, t) = small c in omega arith

pub bounds-cuts-place : goal.bounds-cuts-place
bounds-cuts-place c = room c

pub loop-place-preserved : goal.loop-place-preserved
loop-place-preserved c =
    let (walk, at, count, _) = c.in-Some.ensures.steps in
    let (_, same, so_far) = c.loop-place.invariant in (
      c.in-Some.ensures.goes.keeps,
      walk.store ∙ same,
      rw (at, count) (listed_more (bit_rows c.args.gone.now) _ _ c.in-Some.row c.in-Some.start _ _ _ (rows_bounded c.args.gone.now) (subst (λ n. n < length c.loop-place.cuts) at (room c)) (first c) so_far),
    )

pub returns : goal.returns
returns c =
    let (walk, _) = c.in-None.ensures.steps in
    let (_, same, so_far) = c.loop-place.invariant in
    listed_all _ _ _ _ _ (before_all _ _ (rw same at walk.next)) so_far
