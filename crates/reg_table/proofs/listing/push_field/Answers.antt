-- A line for each member, one after the other.
use Rattle.std.proofs.Common.{◌++◌, unwrap_or, ap, ◌∙◌, arith}
use Rattle.std.specs.List.{flat_map, range_with_len}
use Rattle.reg_table.specs.Listing.{member_line}
use Rattle.reg_table.specs.Members.{member_count}
use Rattle.reg_table.specs.Walk.{index_at}
use Rattle.reg_table.proofs.FieldMembers.{each-number}
use Rattle.reg_table.proofs.Walks.{numbered-more}
use Rattle.reg_table.proofs.listing.push_field.Goals as goal

pub loop-number-preserved : goal.loop-number-preserved
loop-number-preserved c =
    let field = c.args.field.now in
    let n = c.loop-number.number in
    c.in_ok-push_member.ensures
    ∙ (ap (λ page. page ++ member_line field (index_at (member_count field) n)) c.loop-number.invariant
    ∙ numbered-more (λ number. member_line field (index_at (member_count field) number)) c.args.page.now n)

pub returns : goal.returns
returns c =
    let field = c.args.field.now in
    c.loop-number.invariant
    ∙ ap (λ r. c.args.page.now ++ r)
    (ap (λ n. flat_map (λ number. member_line field (index_at (member_count field) number)) (range_with_len 0 n)) {x = c.loop-number.number} {y = unwrap_or (member_count field) 1} (omega (arith, c.loop-number-test.false, c.loop-number.auto.number-end, c.member_count-number-end.ensures))
    ∙ each-number (member_line field) (member_count field))
