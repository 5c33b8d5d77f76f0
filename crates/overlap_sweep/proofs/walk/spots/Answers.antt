-- Each peripheral fits, and its members are those that the walk meets.
use Rattle.std.proofs.Common.{List, ◌++◌, ◌∷◌, [], map, sym, ap, ap₂, ◌∙◌, subst, append_assoc, append-nil}
use Rattle.overlap_sweep.specs.Walk.{spots_in, spots_of_peripherals, peripheral_way}
use Rattle.overlap_sweep.proofs.Walks.{spots-peripheral, spots-no_peripherals}
use Rattle.reg_table.specs.Walk.{FitIn}
use Rattle.svd_model.specs.declared.device.Peripheral.{Peripheral}
use Rattle.svd_model.specs.declared.sibling.Sibling.{Sibling}
use Rattle.svd_model.specs.Properties.{holding}
use Rattle.svd_model.specs.Trees.{peripheral_under, item_under, device_tree}
use Rattle.svd_rows.specs.Forest.{siblings}
use Rattle.reg_table.proofs.Walks.{fit-peripheral, fit-others}
use Rattle.overlap_sweep.proofs.walk.spots.Goals as goal

pub loop-key-init : goal.loop-key-init
unfolding device_tree
loop-key-init c =
    let given = c.into_iter-key-iterator.ensures.into_iter_gives.0 in
    record {
      spots = ap₂ (λ made entries. made ++ spots_of_peripherals c.args.device.now.props (siblings (map peripheral_under entries))) c.new-made.ensures given;
      fit = subst (λ (entries : List (Sibling × Peripheral)). FitIn 0 c.args.device.now.props (siblings (map peripheral_under entries))) (sym given) c.requires;
    }

pub push_peripheral-requires-clause-start : goal.push_peripheral-requires-clause-start
push_peripheral-requires-clause-start c =
    let fit = subst (λ (entries : List (Sibling × Peripheral)). FitIn 0 c.args.device.now.props (siblings (map peripheral_under entries))) c.in-Some.ensures.steps c.loop-key.invariant.fit in
    (fit-peripheral c.args.device.now.props c.in-Some.key.now c.in-Some.peripheral.now (map peripheral_under c.next.new.self) fit).0

pub push_peripheral-requires-clause-below : goal.push_peripheral-requires-clause-below
push_peripheral-requires-clause-below c =
    let fit = subst (λ (entries : List (Sibling × Peripheral)). FitIn 0 c.args.device.now.props (siblings (map peripheral_under entries))) c.in-Some.ensures.steps c.loop-key.invariant.fit in
    (fit-peripheral c.args.device.now.props c.in-Some.key.now c.in-Some.peripheral.now (map peripheral_under c.next.new.self) fit).1

pub loop-key-preserved : goal.loop-key-preserved
loop-key-preserved c =
    let fit = subst (λ (entries : List (Sibling × Peripheral)). FitIn 0 c.args.device.now.props (siblings (map peripheral_under entries))) c.in-Some.ensures.steps c.loop-key.invariant.fit in
    let own = spots_in (peripheral_way (peripheral_under (c.in-Some.key.now, c.in-Some.peripheral.now)).0 (peripheral_under (c.in-Some.key.now, c.in-Some.peripheral.now)).1.keys) c.in-Some.peripheral.now.base (holding (c.in-Some.peripheral.now.props ∷ c.args.device.now.props ∷ [])) (siblings (map item_under c.in-Some.peripheral.now.children.items)) in
    let others = spots_of_peripherals c.args.device.now.props (siblings (map peripheral_under c.next.new.self)) in
    record {
      spots =
          ap (λ made. made ++ others) c.in_ok-push_peripheral.ensures
          ∙ append_assoc c.loop-key.made own others
          ∙ ap (λ r. c.loop-key.made ++ r) (sym (spots-peripheral c.args.device.now.props c.in-Some.key.now c.in-Some.peripheral.now (map peripheral_under c.next.new.self)))
          ∙ sym (ap (λ entries. c.loop-key.made ++ spots_of_peripherals c.args.device.now.props (siblings (map peripheral_under entries))) c.in-Some.ensures.steps)
          ∙ c.loop-key.invariant.spots;
      fit = fit-others 0 c.args.device.now.props (peripheral_under (c.in-Some.key.now, c.in-Some.peripheral.now)) (map peripheral_under c.next.new.self) fit;
    }

pub returns : goal.returns
unfolding device_tree
returns c =
    sym (append-nil c.loop-key.made)
    ∙ ap (λ r. c.loop-key.made ++ r) (sym (spots-no_peripherals c.args.device.now.props))
    ∙ sym (ap (λ entries. c.loop-key.made ++ spots_of_peripherals c.args.device.now.props (siblings (map peripheral_under entries))) c.in-None.ensures.steps.0)
    ∙ c.loop-key.invariant.spots
