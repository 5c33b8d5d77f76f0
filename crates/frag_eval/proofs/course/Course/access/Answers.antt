use Rattle.std.proofs.Common.{refl, arith}
use Rattle.frag_eval.specs.declared.course.Course.{Course}
use Rattle.frag_eval.proofs.Coursing.{access_made, may_make, next_is, room_for_access}
use Rattle.frag_eval.proofs.course.Course.access.Goals as goal

pub make-requires-clause-may : goal.make-requires-clause-may
make-requires-clause-may g c = may_make c.args.self.now c.index.result.now c.requires.at (next_is c.args.self.now c.index.result.now c.requires.at c.index.ensures)

pub make-requires-clause-room : goal.make-requires-clause-room
make-requires-clause-room g c = (room_for_access c.args.self.now c.requires.at).2

pub keep-requires-clause-room : goal.keep-requires-clause-room
keep-requires-clause-room g c = (room_for_access c.args.self.now c.requires.at).0

pub keep-requires-clause-next : goal.keep-requires-clause-next
keep-requires-clause-next g c = (room_for_access c.args.self.now c.requires.at).1

pub returns : goal.returns
returns g c =
    let old = c.args.self.now in
    let mid : Course = record old { words = c.make.new.words } in
    access_made _ _ old mid c.keep.new.self c.index.result.now c.in_ok-event.event c.requires.at (next_is old c.index.result.now c.requires.at c.index.ensures) c.in_ok-event.ensures.makes c.in_ok-event.ensures.capacity
    (record { of_is = refl; script = refl; deeds = refl }) refl refl (omega arith) c.keep.ensures
