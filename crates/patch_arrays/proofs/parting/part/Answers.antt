-- One child after the other.
use Rattle.std.proofs.Common.{refl, sym, ◌∙◌}
use Rattle.std.specs.Vec.Iter.{into_iter_items}
use Rattle.patch_arrays.proofs.TakenIn.{parted-done, parted-step}
use Rattle.patch_arrays.specs.Arranging.{is_member}
use Rattle.patch_arrays.specs.Members.{under_key}
use Rattle.patch_arrays.proofs.parting.part.Goals as goal

pub loop-entry-preserved : goal.loop-entry-preserved
loop-entry-preserved g c =
    parted-step (λ entry. is_member c.args.pattern.now (under_key g.M.Member.seen entry)) c.args.children.items (into_iter_items c.loop-entry.entry-iterator) (into_iter_items c.next.new.self) c.in-Some.entry c.loop-entry.parted c.take.new.parted
    (is_member c.args.pattern.now (under_key g.M.Member.seen c.in-Some.entry)) refl c.in-Some.ensures.steps.0 c.loop-entry.invariant c.in_ok-take.ensures

pub returns : goal.returns
returns g c =
    parted-done (λ entry. is_member c.args.pattern.now (under_key g.M.Member.seen entry)) c.args.children.items (into_iter_items c.loop-entry.entry-iterator) c.loop-entry.parted (sym c.loop-entry.entry-iterator.rest.ok.0 ∙ c.in-None.ensures.steps.0) c.loop-entry.invariant
