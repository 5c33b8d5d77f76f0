use Rattle.std.proofs.Common.{find, sym, ap, ◌∙◌}
use Rattle.std.specs.Option.{option_copied}
use Rattle.std.specs.Str.{bytes_eq}
use Rattle.patch_copies.proofs.Copied.{finishes, item-copied, item-missing, missing-so}
use Rattle.patch_copies.proofs.Named.{first-named}
use Rattle.patch_growth.proofs.NewChild.{item-named}
use Rattle.patch_copies.specs.Copies.{copy_of}
use Rattle.patch_settings.specs.Setting.{with_set}
use Rattle.svd_model.specs.Trees.{child_tree, item_under}
use Rattle.patch_copies.proofs.copies.CopyingMaker.child.Goals as goal

pub returns-in-Some-clause-in_peripheral : goal.returns-in-Some-clause-in_peripheral
returns-in-Some-clause-in_peripheral c =
    finishes child_tree _ (with_set c.args.self.now.keys.now (child_tree c.in-Some.from.now.child)) c.child_with.result c.or_memory.result
    (ap (copy_of c.args.self.now.line c.args.self.now.from.now c.args.self.now.keys.now) (first-named c.args.self.now.from.now item_under (λ item. bytes_eq c.args.self.now.from.now item.key.name) (item-named c.args.self.now.from.now) c.args.items.now)
    ∙ item-copied c.args.self.now.line c.args.self.now.from.now c.args.self.now.keys.now (find (λ item. bytes_eq c.args.self.now.from.now item.key.name) c.args.items.now) c.in-Some.from.now (ap option_copied (sym c.in-Some.is) ∙ c.named_item.ensures))
    c.child_with.ensures c.or_memory.ensures

pub returns-in-Some-clause-in_cluster : goal.returns-in-Some-clause-in_cluster
returns-in-Some-clause-in_cluster c =
    finishes child_tree _ (with_set c.args.self.now.keys.now (child_tree c.in-Some.from.now.child)) c.child_with.result c.or_memory.result
    (ap (copy_of c.args.self.now.line c.args.self.now.from.now c.args.self.now.keys.now) (first-named c.args.self.now.from.now item_under (λ item. bytes_eq c.args.self.now.from.now item.key.name) (item-named c.args.self.now.from.now) c.args.items.now)
    ∙ item-copied c.args.self.now.line c.args.self.now.from.now c.args.self.now.keys.now (find (λ item. bytes_eq c.args.self.now.from.now item.key.name) c.args.items.now) c.in-Some.from.now (ap option_copied (sym c.in-Some.is) ∙ c.named_item.ensures))
    c.child_with.ensures c.or_memory.ensures

pub returns-in-None-clause-in_peripheral : goal.returns-in-None-clause-in_peripheral
returns-in-None-clause-in_peripheral c =
    missing-so c.args.self.now.line c.args.self.now.from.now _ c.missing.result
    (ap (copy_of c.args.self.now.line c.args.self.now.from.now c.args.self.now.keys.now) (first-named c.args.self.now.from.now item_under (λ item. bytes_eq c.args.self.now.from.now item.key.name) (item-named c.args.self.now.from.now) c.args.items.now)
    ∙ item-missing c.args.self.now.line c.args.self.now.from.now c.args.self.now.keys.now (find (λ item. bytes_eq c.args.self.now.from.now item.key.name) c.args.items.now) (ap option_copied (sym c.in-None.is) ∙ c.named_item.ensures))
    c.missing.ensures

pub returns-in-None-clause-in_cluster : goal.returns-in-None-clause-in_cluster
returns-in-None-clause-in_cluster c =
    missing-so c.args.self.now.line c.args.self.now.from.now _ c.missing.result
    (ap (copy_of c.args.self.now.line c.args.self.now.from.now c.args.self.now.keys.now) (first-named c.args.self.now.from.now item_under (λ item. bytes_eq c.args.self.now.from.now item.key.name) (item-named c.args.self.now.from.now) c.args.items.now)
    ∙ item-missing c.args.self.now.line c.args.self.now.from.now c.args.self.now.keys.now (find (λ item. bytes_eq c.args.self.now.from.now item.key.name) c.args.items.now) (ap option_copied (sym c.in-None.is) ∙ c.named_item.ensures))
    c.missing.ensures
