-- The page has the lines of the members so far.
use Rattle.std.proofs.Common.{◌≡◌, ◌++◌}
use Rattle.std.specs.List.{flat_map, range_with_len}
use Rattle.reg_table.specs.Listing.{member_line}
use Rattle.reg_table.specs.Members.{member_count}
use Rattle.reg_table.specs.Walk.{index_at}
use Rattle.reg_table.proofs.listing.push_field.Given as goal

abbrev pub invariant-loop-number : goal.invariant-loop-number
invariant-loop-number l = l.page ≡ l.fn.page ++ flat_map (λ number. member_line l.field (index_at (member_count l.field) number)) (range_with_len 0 l.number)
