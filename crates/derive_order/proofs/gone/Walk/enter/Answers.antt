use Rattle.std.proofs.Common.{◌∙◌, ◌++◌, List, ℕ, ap₂, refl, subst}
use Rattle.derive_order.specs.Gone.{IsWith, IsWithout, taken_from}
use Rattle.derive_order.proofs.Walks.{enters}
use Rattle.need_order.specs.Children.{items_at}
use Rattle.derive_order.proofs.gone.Walk.enter.Goals as goal

pub returns-clause-stands : goal.returns-clause-stands
returns-clause-stands g c =
    enters c.args.elements.now c.args.keys.now g.children c.requires.0 c.requires.1.0 c.args.self.now _ c.args.number c.requires.1.1.0 c.move_all.new.tops.items c.move_all.new.taken c.requires.1.1.1.0 c.requires.1.1.1.1
    (subst (λ (parts : List ℕ). IsWithout c.args.keys.now parts c.args.self.now.tops.items c.move_all.new.tops.items) c.parts_of-parts.ensures c.in_ok-move_all.ensures.tops)
    c.in_ok-move_all.ensures.long
    (subst (λ (parts : List ℕ). IsWith c.args.keys.now parts c.move_all.new.tops.items c.push_all.new.tops.items) c.parts_of-parts.ensures c.in_ok-push_all.ensures.tops)
    c.in_ok-push_all.ensures.long
    (c.in_ok-move_all.ensures.taken ∙ ap₂ (λ (xs parts : List ℕ). xs ++ taken_from c.args.keys.now (items_at c.args.self.now.tops.items) parts) c.new-taken.ensures.items c.parts_of-parts.ensures)
    refl refl refl
