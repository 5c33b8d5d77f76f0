use Rattle.std.proofs.Common.{◌≡◌, length}
use Rattle.need_order.specs.Needs.{needs}
use Rattle.need_order.proofs.Reaching.{Searched}
use Rattle.need_order.proofs.reach.reaches.Given as goal

abbrev pub invariant-loop-place : goal.invariant-loop-place
invariant-loop-place l = record {
  limit : l.set.limit ≡ length l.elements;
  searched : Searched (length l.elements) (needs l.elements) l.from l.place l.set.items;
}
