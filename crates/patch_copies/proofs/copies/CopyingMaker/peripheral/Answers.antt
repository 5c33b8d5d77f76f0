use Rattle.std.proofs.Common.{find, refl, sym, ap, ◌∙◌}
use Rattle.std.specs.Option.{option_copied}
use Rattle.std.specs.Str.{bytes_eq}
use Rattle.patch_sem.specs.Selecting.{is_named}
use Rattle.patch_copies.proofs.Copied.{entry-copied, entry-missing, finishes, missing-so}
use Rattle.patch_copies.proofs.Named.{first-named}
use Rattle.patch_copies.specs.Copies.{copy_of}
use Rattle.patch_settings.specs.Setting.{with_set}
use Rattle.svd_model.specs.Steps.{peripheral}
use Rattle.svd_model.specs.Trees.{peripheral_tree, peripheral_under}
use Rattle.patch_copies.proofs.copies.CopyingMaker.peripheral.Goals as goal

pub returns-in-Some : goal.returns-in-Some
unfolding is_named
returns-in-Some c =
    finishes (λ made. (peripheral, peripheral_tree made)) _ (with_set c.args.self.now.keys.now (peripheral, peripheral_tree c.in-Some.from.now)) c.peripheral_with.result c.or_memory.result
    (ap (copy_of c.args.self.now.line c.args.self.now.from.now c.args.self.now.keys.now) (first-named c.args.self.now.from.now peripheral_under (λ entry. bytes_eq c.args.self.now.from.now entry.0.name) (λ entry. refl) c.args.peripherals.now.entries)
    ∙ entry-copied c.args.self.now.line c.args.self.now.from.now c.args.self.now.keys.now peripheral peripheral_tree (find (λ entry. bytes_eq c.args.self.now.from.now entry.0.name) c.args.peripherals.now.entries) c.in-Some.from.now (ap option_copied (sym c.in-Some.is) ∙ c.named.ensures))
    c.peripheral_with.ensures c.or_memory.ensures

pub returns-in-None : goal.returns-in-None
unfolding is_named
returns-in-None c =
    missing-so c.args.self.now.line c.args.self.now.from.now _ c.missing.result
    (ap (copy_of c.args.self.now.line c.args.self.now.from.now c.args.self.now.keys.now) (first-named c.args.self.now.from.now peripheral_under (λ entry. bytes_eq c.args.self.now.from.now entry.0.name) (λ entry. refl) c.args.peripherals.now.entries)
    ∙ entry-missing c.args.self.now.line c.args.self.now.from.now c.args.self.now.keys.now peripheral peripheral_tree (find (λ entry. bytes_eq c.args.self.now.from.now entry.0.name) c.args.peripherals.now.entries) (ap option_copied (sym c.in-None.is) ∙ c.named.ensures))
    c.missing.ensures
