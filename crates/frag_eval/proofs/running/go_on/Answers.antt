use Rattle.std.proofs.Common.{refl, arith}
use Rattle.frag_eval.specs.Courses.{seen_of}
use Rattle.frag_eval.specs.Runs.{done, under_way}
use Rattle.frag_eval.proofs.Coursing.{all_done, arrives, at_access, is_under_way}
use Rattle.frag_eval.proofs.running.go_on.Goals as goal

pub returns-then-course-len : goal.returns-then-course-len
returns-then-course-len c =
    let now = c.say_all.new.self in
    let says = c.say_all.ensures in
    arrives c.args.course now (under_way (seen_of now)) says
    (refl, is_under_way now (at_access now says.course_is says.next (omega (arith, c.if-course-len.true, c.len.ensures, now.deeds.ok.0))))

pub returns : goal.returns
returns c =
    let now = c.say_all.new.self in
    let says = c.say_all.ensures in
    arrives c.args.course now (done now.made.list) says
    (refl, all_done now says.course_is (omega (arith, c.if-course-len.false, c.len.ensures, now.deeds.ok.0)))
