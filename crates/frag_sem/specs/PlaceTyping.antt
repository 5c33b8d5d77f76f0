-- The typing of places and scripts by walking the modules of a crate: what the surface says of them, without the list of all chains of accessors, which are exponentially many in the depth of the modules.
use Rattle.std.specs.Prelude.{ℕ, Bool, List, [], ◌∷◌, map, Option, None, Ok, Err, ok_or, option_map, option_and_then, if◌then◌else◌}
use Rattle.std.specs.List.{list_any}
use Rattle.std.specs.Str.{bytes_eq}
use Rattle.frag_tree.specs.declared.access.Access.{Access}
use Rattle.frag_tree.specs.declared.register.RegisterModule.{RegisterModule}
use Rattle.frag_tree.specs.declared.script.Script.{Script}
use Rattle.frag_tree.specs.declared.statement.Place.{Place}
use Rattle.frag_tree.specs.declared.statement.Call.{Call}
use Rattle.frag_tree.specs.Trees.{BlockTree, CrateTree, ModuleTree, one_register, one_block}
use Rattle.frag_sem.specs.CallPlaces.{access_named, count_of, slot_named}
use Rattle.frag_sem.specs.Modules.{module_of, top_block}
use Rattle.frag_sem.specs.ScriptTyping.{LineFault, Scope, Typed, ◌>>=◌, index_types, lines_fault, no_such_call, no_such_name}
use Rattle.frag_sem.specs.Surfaces.{RegisterCalls}
use Rattle.frag_sem.specs.TextSurface.{register_calls}

-- the module behind an accessor, and how many members the accessor leads to
pub record Inner : Type 0 where
  pub count : Option ℕ
  pub tree : ModuleTree

abbrev pub inner_of : BlockTree → Access → Option Inner
inner_of unit access = option_map (λ tree. record { count = count_of unit access; tree = tree }) (module_of access.element unit.inside)

abbrev pub inner_named : ModuleTree → List ℕ → Option Inner
inner_named (one_register unit) name = None
inner_named (one_block unit) name = option_and_then (inner_of unit) (access_named name unit.head.accessors)

-- the module at the end of accessors
unfoldable pub steps_lead : ModuleTree → List Call → Typed ModuleTree
steps_lead unit [] = Ok unit
steps_lead unit (step ∷ steps) = do
  inner ← ok_or (inner_named unit step.name) no_such_call
  _ ← index_types inner.count step.index
  steps_lead inner.tree steps

-- the module of a slot
abbrev pub slot_module : CrateTree → List ℕ → Option ModuleTree
slot_module krate name = option_and_then (λ slot. option_map one_block (top_block slot.block krate.blocks)) (slot_named name krate.slots)

-- a register that has a call
abbrev pub register_with : (RegisterCalls → Bool) → ModuleTree → Typed RegisterModule
register_with has_call (one_register unit) = if has_call (register_calls unit) then Ok unit else Err no_such_call
register_with has_call (one_block unit) = Err no_such_call

-- a register call at the end of a place
unfoldable pub call_leads : (RegisterCalls → Bool) → CrateTree → Place → Typed RegisterModule
call_leads has_call krate place = do
  unit ← ok_or (slot_module krate place.slot) no_such_name
  inner ← steps_lead unit place.steps
  register_with has_call inner

-- what a script may call, found by walking
abbrev pub module_scope : CrateTree → Scope
module_scope krate = record {
  is_slot = λ name. list_any (bytes_eq name) (map (λ slot. slot.name) krate.slots);
  call = λ has_call place. call_leads has_call krate place >>= λ unit. Ok (register_calls unit);
}

-- the first fault of a script against a crate, found by walking
unfoldable pub module_fault : CrateTree → Script → Option LineFault
module_fault krate script = lines_fault (module_scope krate) script.lines []
