use Rattle.std.proofs.Common.{List, Some, map, sym, subst, ap, ◌∙◌}
use Rattle.patch_model.specs.Acts.{PatternItems}
use Rattle.patch_sem.specs.Selecting.{selects}
use Rattle.patch_growth.proofs.Fields.{fields-opened, no_patterns}
use Rattle.patch_growth.specs.Grown.{Grown}
use Rattle.patch_growth.specs.Growths.{each, grown_all}
use Rattle.svd_model.specs.Trees.{field_under}
use Rattle.svd_rows.specs.Forest.{siblings}
use Rattle.patch_growth.proofs.walking.at_fields.Goals as goal

pub returns-in-None : goal.returns-in-None
returns-in-None g c =
    subst (λ (rest : List PatternItems). Grown (each (selects c.args.first.now) (λ kind. grown_all (g.M.Maker.growth c.args.maker.now) (map selects rest) (Some kind)) c.args.total (siblings (map field_under c.args.fields.now.entries))) c.args.total (siblings (map field_under c.args.fields.now.entries)) c.at_last.result)
    (sym (no_patterns c.args.rest.now c.in-None.ensures.cases)) c.at_last.ensures

pub returns-in-Some : goal.returns-in-Some
returns-in-Some g c =
    ap (λ (rest : List PatternItems). each (selects c.args.first.now) (λ kind. grown_all (g.M.Maker.growth c.args.maker.now) (map selects rest) (Some kind)) c.args.total (siblings (map field_under c.args.fields.now.entries))) c.in-Some.ensures.cases.0
    ∙ fields-opened (g.M.Maker.growth c.args.maker.now) c.args.first.now c.args.total c.in-Some.field-0.0.now c.in-Some.field-0.1.now c.args.fields.now.entries
