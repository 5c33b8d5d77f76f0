-- The commands, and those of the entries that are left, are all; what is left meets its demands.
use Rattle.std.proofs.Common.{◌≡◌, ◌++◌, map}
use Rattle.patch_model.specs.Acts.{order_of}
use Rattle.patch_form.specs.Unmet.{AllMet}
use Rattle.patch_form.specs.Mappings.{mapping_demands}
use Rattle.patch_model.specs.Orders.{orders_of}
use Rattle.patch_form.proofs.FromPlace.{from}
use Rattle.patch_model.proofs.own.commands_of.Given as goal

abbrev pub invariant-loop-entry : goal.invariant-loop-entry
invariant-loop-entry l = record {
  orders : map order_of l.made ++ from (orders_of l.wanted l.device l.parents) l.entries l.entry-index ≡ map order_of l.fn.made ++ from (orders_of l.wanted l.device l.parents) l.entries 0;
  met : AllMet (from (mapping_demands l.device) l.entries l.entry-index);
}
