use Rattle.std.proofs.Common.{sym, ap, ◌∙◌}
use Rattle.std.specs.Option.{option_copied}
use Rattle.frag_index.proofs.Stepping.{found-behind, none-behind}
use Rattle.frag_index.proofs.site.Site.through.Goals as goal

pub returns-in-Some : goal.returns-in-Some
returns-in-Some c sites fits =
    found-behind sites c.args.self.now fits c.args.access.now c.in-Some.unit c.count_of.result (sym c.get.ensures ∙ ap option_copied c.in-Some.is) (c.count_of.ensures sites fits)

pub returns-in-None : goal.returns-in-None
returns-in-None c sites fits = none-behind sites c.args.self.now fits c.args.access.now (sym c.get.ensures ∙ ap option_copied c.in-None.is)
