-- The commands, and those of the entries that are left, are all; what is left meets its demands.
use Rattle.std.proofs.Common.{◌≡◌, ◌++◌, map}
use Rattle.patch_model.specs.Acts.{order_of}
use Rattle.patch_model.specs.Held.{EachDeed}
use Rattle.patch_model.specs.Orders.{entry_orders}
use Rattle.patch_form.proofs.FromPlace.{from}
use Rattle.patch_model.proofs.listed.entry_commands.Given as goal

abbrev pub invariant-loop-entry : goal.invariant-loop-entry
invariant-loop-entry l = record {
  orders : map order_of l.made ++ from (entry_orders l.word l.device l.parents) l.entries l.entry-index ≡ map order_of l.fn.made ++ from (entry_orders l.word l.device l.parents) l.entries 0;
  met : EachDeed l.word l.device (from (λ named. named) l.entries l.entry-index);
}
