-- The emitted crate stands for its description.
use Rattle.std.proofs.Common.{◌≡◌, List, ap, sym, subst, ◌∙◌}
use Rattle.crate_fits.proofs.Crates.{checked_crates_fit}
use Rattle.crate_form.proofs.Forming.{emitted_has_form, one_has_form}
use Rattle.crate_form.specs.Crates.{emitted}
use Rattle.crate_form.specs.Forms.{HasForm}
use Rattle.crate_means.proofs.Emitted.{emitted_faults, emitted_meaning, emitted_places, emitted_presets, emitted_surface}
use Rattle.frag_emit.specs.Laws.{FormStands}
use Rattle.frag_emit.specs.Standing.{StandsFor}
use Rattle.frag_tree.specs.Trees.{CrateTree}
use Rattle.svd_model.specs.declared.device.Device.{Device}
use Rattle.svd_model.specs.Facts.{IsChecked}
use Rattle.svd_model.specs.Keys.{Key}
use Rattle.svd_model.specs.Steps.{Step}
use Rattle.svd_model.specs.Trees.{device_rows}
use Rattle.svd_rows.specs.Rows.{Row}

emitted_stands_for : (device : Device) → IsChecked device → StandsFor (device_rows device) (emitted (device_rows device))
emitted_stands_for device checked = record {
  fits = checked_crates_fit device checked;
  places = emitted_places device checked;
  surface = emitted_surface device checked;
  faults = emitted_faults device checked;
  meaning = emitted_meaning device checked;
  presets = emitted_presets device checked;
}

pub form_stands : FormStands
form_stands device checked krate form = subst (StandsFor (device_rows device)) (sym (one_has_form (device_rows device) krate form)) (emitted_stands_for device checked)

-- what is built for a state, whose device has the rows of the state
pub built_stands : (device : Device) (all : List (Row Step Key)) (krate : CrateTree) → IsChecked device → device_rows device ≡ all → krate ≡ emitted all → StandsFor all krate
built_stands device all krate checked same built = subst (λ rows. StandsFor rows krate) same (subst (StandsFor (device_rows device)) (sym (built ∙ sym_emitted)) (emitted_stands_for device checked))
  where
    sym_emitted : emitted all ≡ emitted (device_rows device)
    sym_emitted = ap emitted (sym same)

pub built_form : (all : List (Row Step Key)) (krate : CrateTree) → krate ≡ emitted all → HasForm all krate
built_form all krate built = subst (HasForm all) (sym built) (emitted_has_form all)
