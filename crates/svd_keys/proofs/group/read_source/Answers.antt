use Rattle.std.proofs.Common.{ap, sym, subst, ◌≡◌, IfOk, ◌∙◌, option_map}
use Rattle.svd_text.specs.Views.{element_of, source_of}
use Rattle.svd_keys.specs.Earliest.{least}
use Rattle.svd_keys.specs.KeysOf.{derived_of}
use Rattle.svd_keys.specs.OwnFaults.{source_faults}
use Rattle.svd_keys.proofs.Groups.{no-source}
use Rattle.svd_keys.proofs.Seen.{source-of}
use Rattle.svd_keys.proofs.group.read_source.Goals as goal

pub returns-in-None : goal.returns-in-None
returns-in-None c = no-source (element_of c.args.element.now).0.source (ap (option_map source_of) (sym c.in-None.is) ∙ source-of c.args.element.now)

pub returns-in-Some : goal.returns-in-Some
returns-in-Some c =
    subst (λ source. IfOk c.read_path.result (λ read. (read.value ≡ derived_of source) × (read.fault ≡ least (source_faults source))))
    (ap (option_map source_of) (sym c.in-Some.is) ∙ source-of c.args.element.now)
    c.read_path.ensures
