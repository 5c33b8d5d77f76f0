-- The page, and the parts that are left, are the whole text.
use Rattle.std.proofs.Common.{◌≡◌, ◌++◌}
use Rattle.std.specs.List.{flat_map}
use Rattle.pac_sample.specs.Numbered.{between}
use Rattle.pac_sample.proofs.parts.push_parts.Given as goal

abbrev pub invariant-loop-number : goal.invariant-loop-number
invariant-loop-number g l =
    l.page ++ flat_map (g.P.Parts.part l.parts) (between l.number l.end) ≡ l.fn.page ++ flat_map (g.P.Parts.part l.parts) (between l.first l.end)
