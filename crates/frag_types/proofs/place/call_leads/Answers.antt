use Rattle.std.proofs.Common.{IfSome, Option, subst}
use Rattle.std.specs.Borrow.{Bor}
use Rattle.frag_index.specs.declared.site.Inner.{Inner}
use Rattle.frag_index.specs.Sites.{IsNumbered}
use Rattle.frag_types.proofs.place.call_leads.Goals as goal

pub steps_lead-requires-clause-numbered : goal.steps_lead-requires-clause-numbered
steps_lead-requires-clause-numbered c = subst (λ (found : Option (Bor Inner)). IfSome found (λ unit. IsNumbered c.args.index.now.tops.sites.items unit.now)) c.in-Some.is c.slot_module.ensures.numbered
