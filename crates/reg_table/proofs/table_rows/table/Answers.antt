-- Each peripheral fits, and its rows are those that the walk meets, which are those of the flat rows.
use Rattle.std.proofs.Common.{List, ◌++◌, ◌∷◌, [], map, sym, ap, ap₂, ◌∙◌, subst, append_assoc, append-nil}
use Rattle.std.specs.Prelude.{All}
use Rattle.std.proofs.lemmas.List.Elements.{All-nil}
use Rattle.reg_table.specs.Listing.{IsListed}
use Rattle.reg_table.specs.Registers.{table_of}
use Rattle.reg_table.specs.Walk.{FitIn, rows_in, rows_of_peripherals, peripheral_path}
use Rattle.svd_model.specs.declared.device.Peripheral.{Peripheral}
use Rattle.svd_model.specs.declared.sibling.Sibling.{Sibling}
use Rattle.svd_model.specs.Properties.{holding}
use Rattle.svd_model.specs.Trees.{peripheral_under, item_under, device_tree}
use Rattle.svd_rows.specs.Forest.{siblings}
use Rattle.reg_table.proofs.Faults.{checked-fits}
use Rattle.reg_table.proofs.Tables.{table-rows}
use Rattle.reg_table.proofs.Walks.{fit-peripheral, rows-peripheral, rows-no_peripherals, fit-others}
use Rattle.reg_table.proofs.table_rows.table.Goals as goal

pub loop-key-init : goal.loop-key-init
unfolding device_tree
loop-key-init c =
    let given = c.into_iter-key-iterator.ensures.into_iter_gives.0 in
    record {
      rows = ap₂ (λ made entries. made ++ rows_of_peripherals c.device-device.result.now.props (siblings (map peripheral_under entries))) c.new-table.ensures given;
      fit = subst (λ (entries : List (Sibling × Peripheral)). FitIn 0 c.device-device.result.now.props (siblings (map peripheral_under entries))) (sym given) (checked-fits c.device-device.result.now c.device-device.ensures.fact);
      listed = subst (All IsListed) (sym c.new-table.ensures) (All-nil IsListed);
    }

pub push_peripheral-requires-clause-start : goal.push_peripheral-requires-clause-start
push_peripheral-requires-clause-start c =
    let fit = subst (λ (entries : List (Sibling × Peripheral)). FitIn 0 c.device-device.result.now.props (siblings (map peripheral_under entries))) c.in-Some.ensures.steps c.loop-key.invariant.fit in
    (fit-peripheral c.device-device.result.now.props c.in-Some.key.now c.in-Some.peripheral.now (map peripheral_under c.next.new.self) fit).0

pub push_peripheral-requires-clause-below : goal.push_peripheral-requires-clause-below
push_peripheral-requires-clause-below c =
    let fit = subst (λ (entries : List (Sibling × Peripheral)). FitIn 0 c.device-device.result.now.props (siblings (map peripheral_under entries))) c.in-Some.ensures.steps c.loop-key.invariant.fit in
    (fit-peripheral c.device-device.result.now.props c.in-Some.key.now c.in-Some.peripheral.now (map peripheral_under c.next.new.self) fit).1

pub loop-key-preserved : goal.loop-key-preserved
loop-key-preserved c =
    let fit = subst (λ (entries : List (Sibling × Peripheral)). FitIn 0 c.device-device.result.now.props (siblings (map peripheral_under entries))) c.in-Some.ensures.steps c.loop-key.invariant.fit in
    let own = rows_in (peripheral_path c.in-Some.key.now.name) c.in-Some.peripheral.now.base (holding (c.in-Some.peripheral.now.props ∷ c.device-device.result.now.props ∷ [])) (siblings (map item_under c.in-Some.peripheral.now.children.items)) in
    let others = rows_of_peripherals c.device-device.result.now.props (siblings (map peripheral_under c.next.new.self)) in
    record {
      rows =
          ap (λ table. table ++ others) c.in_ok-push_peripheral.ensures.rows
          ∙ append_assoc c.loop-key.table own others
          ∙ ap (λ r. c.loop-key.table ++ r) (sym (rows-peripheral c.device-device.result.now.props c.in-Some.key.now c.in-Some.peripheral.now (map peripheral_under c.next.new.self)))
          ∙ sym (ap (λ entries. c.loop-key.table ++ rows_of_peripherals c.device-device.result.now.props (siblings (map peripheral_under entries))) c.in-Some.ensures.steps)
          ∙ c.loop-key.invariant.rows;
      fit = fit-others 0 c.device-device.result.now.props (peripheral_under (c.in-Some.key.now, c.in-Some.peripheral.now)) (map peripheral_under c.next.new.self) fit;
      listed = c.in_ok-push_peripheral.ensures.listed c.loop-key.invariant.listed;
    }

pub returns-clause-rows : goal.returns-clause-rows
unfolding device_tree
returns-clause-rows c =
    sym (append-nil c.loop-key.table)
    ∙ ap (λ r. c.loop-key.table ++ r) (sym (rows-no_peripherals c.device-device.result.now.props))
    ∙ sym (ap (λ entries. c.loop-key.table ++ rows_of_peripherals c.device-device.result.now.props (siblings (map peripheral_under entries))) c.in-None.ensures.steps.0)
    ∙ c.loop-key.invariant.rows
    ∙ sym (table-rows c.device-device.result.now c.device-device.ensures.fact.unfolded)
    ∙ ap table_of c.device-device.ensures.rows
