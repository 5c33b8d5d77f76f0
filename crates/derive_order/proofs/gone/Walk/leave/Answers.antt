use Rattle.std.proofs.Common.{◌∙◌, List, ℕ, ap, refl, subst}
use Rattle.derive_order.specs.Gone.{IsWith, IsWithout}
use Rattle.derive_order.proofs.Walks.{leaves}
use Rattle.need_order.specs.Children.{items_at}
use Rattle.derive_order.proofs.gone.Walk.leave.Goals as goal

pub returns-clause-stands : goal.returns-clause-stands
returns-clause-stands g c =
    leaves c.args.elements.now c.args.keys.now g.children c.requires.0 c.requires.1.0 c.args.self.now _ c.args.number c.requires.1.1.0 c.move_all.new.tops.items c.requires.1.1.1
    (subst (λ (parts : List ℕ). IsWithout c.args.keys.now parts c.args.self.now.tops.items c.move_all.new.tops.items) c.parts_of.ensures c.in_ok-move_all.ensures.tops)
    c.in_ok-move_all.ensures.long
    (subst (λ (parts : List ℕ). IsWith c.args.keys.now parts c.move_all.new.tops.items c.push_all.new.tops.items) (c.list_at.ensures ∙ ap (λ lists. items_at lists c.args.number) c.deref.ensures.value) c.in_ok-push_all.ensures.tops)
    c.in_ok-push_all.ensures.long
    refl refl c.base_of-self.ensures
