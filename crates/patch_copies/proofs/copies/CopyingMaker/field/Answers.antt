use Rattle.std.proofs.Common.{find, refl, sym, ap, ◌∙◌}
use Rattle.std.specs.Option.{option_copied}
use Rattle.std.specs.Str.{bytes_eq}
use Rattle.patch_sem.specs.Selecting.{is_named}
use Rattle.patch_copies.proofs.Copied.{entry-copied, entry-missing, finishes, missing-so}
use Rattle.patch_copies.proofs.Named.{first-named}
use Rattle.patch_copies.specs.Copies.{copy_of}
use Rattle.patch_settings.specs.Setting.{with_set}
use Rattle.svd_model.specs.Steps.{field}
use Rattle.svd_model.specs.Trees.{field_tree, field_under}
use Rattle.patch_copies.proofs.copies.CopyingMaker.field.Goals as goal

pub returns-in-Some : goal.returns-in-Some
unfolding is_named
returns-in-Some c =
    finishes (λ made. (field, field_tree made)) _ (with_set c.args.self.now.keys.now (field, field_tree c.in-Some.from.now)) c.field_with.result c.or_memory.result
    (ap (copy_of c.args.self.now.line c.args.self.now.from.now c.args.self.now.keys.now) (first-named c.args.self.now.from.now field_under (λ entry. bytes_eq c.args.self.now.from.now entry.0.name) (λ entry. refl) c.args.fields.now.entries)
    ∙ entry-copied c.args.self.now.line c.args.self.now.from.now c.args.self.now.keys.now field field_tree (find (λ entry. bytes_eq c.args.self.now.from.now entry.0.name) c.args.fields.now.entries) c.in-Some.from.now (ap option_copied (sym c.in-Some.is) ∙ c.named.ensures))
    c.field_with.ensures c.or_memory.ensures

pub returns-in-None : goal.returns-in-None
unfolding is_named
returns-in-None c =
    missing-so c.args.self.now.line c.args.self.now.from.now _ c.missing.result
    (ap (copy_of c.args.self.now.line c.args.self.now.from.now c.args.self.now.keys.now) (first-named c.args.self.now.from.now field_under (λ entry. bytes_eq c.args.self.now.from.now entry.0.name) (λ entry. refl) c.args.fields.now.entries)
    ∙ entry-missing c.args.self.now.line c.args.self.now.from.now c.args.self.now.keys.now field field_tree (find (λ entry. bytes_eq c.args.self.now.from.now entry.0.name) c.args.fields.now.entries) (ap option_copied (sym c.in-None.is) ∙ c.named.ensures))
    c.missing.ensures
