use Rattle.std.proofs.Common.{◌++◌, [], ◌∙◌, ap}
use Rattle.derive_build.specs.Children.{children_of}
use Rattle.derive_build.proofs.Named.{merged-is}
use Rattle.derived_rows.specs.Merging.{added}
use Rattle.derive_build.proofs.children.merged.Goals as goal

pub returns : goal.returns
returns c =
    c.in_ok-add_all.ensures c.args.source.now c.in_ok-made.ensures.names
    ∙ ap (λ l. l ++ added [] (children_of c.args.owns.now c.args.source.now) (children_of c.args.owns.now c.args.own.now)) c.in_ok-made.ensures.made
    ∙ merged-is (children_of c.args.owns.now c.args.source.now) (children_of c.args.owns.now c.args.own.now)
