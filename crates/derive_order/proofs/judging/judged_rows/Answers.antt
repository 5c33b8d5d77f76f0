use Rattle.std.proofs.Common.{◌∙◌, map, length, sym, ap, subst, arith}
use Rattle.std.proofs.lemmas.List.{length-map}
use Rattle.derive_sources.specs.Entries.{plain}
use Rattle.derive_sources.specs.Missing.{TellsSources}
use Rattle.derive_sources.specs.Numbers.{AreNumbered}
use Rattle.derive_sources.proofs.Numbering.{numbered}
use Rattle.derive_order.proofs.Told.{some_items}
use Rattle.derived_rows.specs.Faults.{first_missing}
use Rattle.svd_model.proofs.Steps.{same_step-finer}
use Rattle.svd_model.specs.Steps.{same_key, same_step}
use Rattle.svd_model.specs.Trees.{device_rows, device_tree}
use Rattle.svd_rows.proofs.Facts.{IsDistinct-finer}
use Rattle.derive_order.proofs.judging.judged_rows.Goals as goal

pub judge-requires : goal.judge-requires
judge-requires g c =
    let listed = ap (map plain) c.as_slice.ensures.value ∙ c.in-Ok.ensures.listed in (
      omega (arith, some_items (device_tree c.args.device.now), ap (λ xs. length xs) listed, length-map c.as_slice.result.now plain),
      (
        subst (λ all. AreNumbered all (map plain c.as_slice.result.now)) (sym c.requires.0)
            (subst (AreNumbered (device_rows c.args.device.now)) (sym listed)
            (numbered (device_tree c.args.device.now) (IsDistinct-finer same_key same_step same_step-finer (device_tree c.args.device.now).below c.requires.1.distinct))),
        (
          subst (λ all. TellsSources all c.as_slice-in-Ok.result.now) (sym c.requires.0) (subst (TellsSources (device_rows c.args.device.now)) (sym c.as_slice-in-Ok.ensures.value) c.in-Ok.ensures.found),
          ap first_missing c.requires.0 ∙ c.in-Ok.ensures.whole,
        ),
      ),
    )
