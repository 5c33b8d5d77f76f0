use Rattle.std.proofs.Common.{◌∙◌, ◌∷◌, []}
use Rattle.svd_schema.specs.declared.key.Key.TheVariants as key
use Rattle.svd_text.specs.Views.{element_of}
use Rattle.svd_keys.specs.Earliest.{earliest}
use Rattle.svd_keys.specs.OwnFaults.{name_faults, dim_faults, source_faults, named_faults}
use Rattle.svd_keys.proofs.Orders.{earliest-gather}
use Rattle.svd_keys.proofs.group.read_named.Goals as goal

pub returns : goal.returns
unfolding named_faults
returns c = (
  c.in_ok-name.ensures.value_is,
  c.in_ok-derived.ensures.0,
  c.in_ok-dim.ensures.0,
  c.earliest-fault.ensures
      ∙ (λ i. earliest (c.in_ok-name.ensures.fault_is i ∷ c.in_ok-derived.ensures.1 i ∷ c.in_ok-dim.ensures.1 i ∷ []))
      ∙ earliest-gather (name_faults key.Name (element_of c.args.element.now) ∷ source_faults (element_of c.args.element.now).0.source ∷ dim_faults (element_of c.args.element.now) ∷ []),
)
