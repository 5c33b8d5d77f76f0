use Rattle.std.proofs.Common.{◌≡◌, false, not, ◌&&◌, refl, ap, ap₂, ◌∙◌, true}
use Rattle.glob_select.specs.Matching.{matches}
use Rattle.patch_arrays.proofs.TakenIn.{member-is, takes_by}
use Rattle.patch_arrays.specs.Members.{under_key}
use Rattle.patch_arrays.specs.Partings.{next_place}
use Rattle.patch_arrays.proofs.parting.take.Goals.{else-is_matched-via-then-is_matched+else-not-is_dimmed, else-is_matched-via-else-is_matched}
use Rattle.patch_arrays.proofs.parting.take.Goals as goal

pub returns-in_ok-push : goal.returns-in_ok-push
returns-in_ok-push g c =
    takes_by true _ c.args.entry c.args.parted.now _
    (member-is c.args.pattern.now (under_key g.M.Member.seen c.args.entry) c.matches-is_matched.result c.is_dimmed-is_dimmed.result (g.M.Member.known c.args.entry.1) (c.matches-is_matched.ensures ∙ ap (matches c.args.pattern.now) c.bytes.ensures.same) c.is_dimmed-is_dimmed.ensures
    ∙ ap₂ (λ a b. a && not b) c.if-is_matched.true c.if-not-is_dimmed.true)
    (c.in_ok-push.ensures.items, refl, c.next_place-parted.ensures ∙ ap₂ (λ ms n. next_place ms n c.args.parted.now.place) c.as_slice.ensures.value (c.len.ensures ∙ c.args.parted.now.others.ok.0))

pub returns-in_ok-push-2 : goal.returns-in_ok-push-2
returns-in_ok-push-2 g c =
    let isnt : (c.matches-is_matched.result && not c.is_dimmed-is_dimmed.result) ≡ false =
    elim c.else-is_matched.branch [
      | else-is_matched-via-then-is_matched+else-not-is_dimmed w ↦ ap₂ (λ a b. a && not b) w.if-is_matched.true w.if-not-is_dimmed.false
      | else-is_matched-via-else-is_matched w ↦ ap (λ a. a && not c.is_dimmed-is_dimmed.result) w.if-is_matched.false
    ] in
    takes_by false _ c.args.entry c.args.parted.now _
    (member-is c.args.pattern.now (under_key g.M.Member.seen c.args.entry) c.matches-is_matched.result c.is_dimmed-is_dimmed.result (g.M.Member.known c.args.entry.1) (c.matches-is_matched.ensures ∙ ap (matches c.args.pattern.now) c.bytes.ensures.same) c.is_dimmed-is_dimmed.ensures ∙ isnt)
    (refl, c.in_ok-push-2.ensures.items, refl)
