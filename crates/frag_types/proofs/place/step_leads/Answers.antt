use Rattle.std.proofs.Common.{Option, IfSome, subst}
use Rattle.frag_index.specs.declared.site.Behind.{Behind}
use Rattle.frag_index.specs.Sites.{IsNumbered}
use Rattle.frag_types.proofs.place.step_leads.Goals as goal

pub returns-in-Ok-clause-numbered : goal.returns-in-Ok-clause-numbered
returns-in-Ok-clause-numbered c = subst (λ (found : Option Behind). IfSome found (λ behind. IsNumbered c.args.index.now.tops.sites.items behind.unit.now)) c.in-Some.is c.behind.ensures.numbered
