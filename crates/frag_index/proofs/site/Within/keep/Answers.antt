use Rattle.frag_rules.proofs.Insides.{if_ok}
use Rattle.frag_index.proofs.site.Within.keep.Goals as goal

pub returns : goal.returns
returns c = if_ok c.keep-2.result _ _ (λ done kept. record { units = c.in_ok-keep.ensures; measures = kept }) c.keep-2.ensures
