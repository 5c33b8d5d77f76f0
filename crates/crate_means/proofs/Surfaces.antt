-- The surface of a crate against the walk of a description's tree.
use Rattle.std.proofs.Common.{◌≡◌, Bool, true, false, cond, List, [], ◌∷◌, ◌++◌, map, flat_map, Some, None, option_map, refl, sym, ap, ap₂, ◌∙◌, append_assoc, append-nil}
use Rattle.std.specs.Prelude.{unwrap_or}
use Rattle.std.proofs.lemmas.List.{map-append}
use Rattle.frag_tree.specs.declared.access.Access.{Access}
use Rattle.frag_tree.specs.declared.krate.Slot.{Slot}
use Rattle.frag_tree.specs.Trees.{BlockTree, CrateTree, ModuleTree, one_block, one_register}
use Rattle.frag_sem.specs.Modules.{module_of}
use Rattle.frag_sem.specs.ScriptTyping.{script_fault}
use Rattle.frag_sem.specs.Surfaces.{Below, Entry, Step as Accessor}
use Rattle.frag_sem.specs.TextSurface.{behind_step, below_block, below_module, below_modules, known_below, of_slot, step_of, text_surface}
use Rattle.frag_sem.proofs.Walking.{below_beside}
use Rattle.reg_table.specs.Walk.{props_inside}
use Rattle.svd_model.specs.declared.props.Props.{Props}
use Rattle.svd_model.specs.Keys.{Key}
use Rattle.svd_model.specs.Stating.{is_of}
use Rattle.svd_model.specs.Steps.{Step, register}
use Rattle.svd_model.specs.Trees.{device_tree}
use Rattle.svd_rows.specs.Forest.{Forest, leaf, node}
use Rattle.table_sem.specs.Names.{Named, accessor_of}
use Rattle.table_sem.specs.SurfaceWalk.{calls_here, entries_in, entries_of_peripherals, name_inside, peripheral_name}
use Rattle.table_sem.specs.TableSurface.{entry_of, row_calls}
use Rattle.table_sem.proofs.Surfaces.{surface_by_walk}
use Rattle.checked_tree.specs.Registers.{row_of}
use Rattle.crate_means.specs.BlockIs.{BlockIs, EachIs, ModuleIs}
use Rattle.crate_means.specs.CrateIs.{EachPeripheral}
use Rattle.crate_means.specs.Laws.{SameFaults, SameSurface}
use Rattle.crate_means.specs.RegisterIs.{RegisterIs}
use Rattle.crate_means.proofs.Named.{NoneNamed, none_named}

-- what lies below a name, as an entry
abbrev entry_below : Named → Below → Entry
entry_below name below = record { slot = name.slot; below = record { steps = name.accessors ++ below.steps; register = below.register } }

-- ... and below one accessor more
entries-behind : (name : Named) (accessor : Accessor) (belows : List Below) → map (entry_below name) (map (behind_step accessor) belows) ≡ map (entry_below (record { slot = name.slot; accessors = name.accessors ++ accessor ∷ [] })) belows
entries-behind name accessor [] = refl
entries-behind name accessor (below ∷ belows) =
    ap₂ (λ x xs. x ∷ xs) (ap (λ steps. record { slot = name.slot; below = record { steps = steps; register = below.register } }) (sym (append_assoc name.accessors (accessor ∷ []) below.steps))) (entries-behind name accessor belows)

-- where no element is named, there is no entry
none-named : (name : Named) (outer : Props) (f : Forest Step Key) → NoneNamed f → entries_in name outer f ≡ []
unfolding entries_in NoneNamed
none-named name outer leaf none = refl
none-named name outer (node step keys children others) none =
    ap (λ b. cond b (entry_of (name_inside name step keys) (calls_here (props_inside keys outer) step keys children) ∷ []) [] ++ (entries_in (name_inside name step keys) (props_inside keys outer) children ++ entries_in name outer others)) none.0
    ∙ ap₂ (λ xs ys. xs ++ ys) (none-named (name_inside name step keys) (props_inside keys outer) children none.1) (none-named name outer others none.2)

-- ---- blocks

-- what lies below the accessors of a block
abbrev below_accessors : BlockTree → List Access → List Below
below_accessors unit accessors = flat_map (λ access. map (behind_step (step_of unit.head access)) (known_below (below_modules unit.inside) access.element)) accessors

-- what lies below the module of an accessor
known : (unit : BlockTree) (access : Access) (inner : ModuleTree) → module_of access.element unit.inside ≡ Some inner → known_below (below_modules unit.inside) access.element ≡ below_module inner
known unit access inner is = ap (λ o. unwrap_or o []) (below_beside access.element unit.inside ∙ ap (option_map below_module) is)

-- the entry of an element that is a register or none
abbrev entry_by : Bool → Named → Props → List Key → Forest Step Key → Entry
entry_by is_register name props keys children = entry_of name (cond is_register (Some (row_calls (row_of props keys children))) None)

in-module : (b : Bool) (name : Named) (props : Props) (keys : List Key) (children : Forest Step Key) → ((unit : BlockTree) → BlockIs props children unit → map (entry_below name) (below_accessors unit unit.head.accessors) ≡ entries_in name props children) → (inner : ModuleTree) → ModuleIs b (RegisterIs props keys children) (BlockIs props children) inner → map (entry_below name) (below_module inner) ≡ entry_by b name props keys children ∷ entries_in name props children
in-module true name props keys children block (one_register unit) is =
    ap₂ (λ steps calls. record { slot = name.slot; below = record { steps = steps; register = Some calls } } ∷ []) (append-nil name.accessors) is.calls
    ∙ ap (λ entries. entry_by true name props keys children ∷ entries) (sym (none-named name props children (none_named children is.fields)))
in-module true name props keys children block (one_block unit) is = absurd is
in-module false name props keys children block (one_register unit) is = absurd is
in-module false name props keys children block (one_block unit) is =
    ap₂ (λ steps entries. record { slot = name.slot; below = record { steps = steps; register = None } } ∷ entries) (append-nil name.accessors) (block unit is)

-- the entries below the accessors of a block are those below its children
accessors-same : (name : Named) (outer : Props) (f : Forest Step Key) (unit : BlockTree) (accessors : List Access) → EachIs outer f unit accessors → map (entry_below name) (below_accessors unit accessors) ≡ entries_in name outer f
unfolding EachIs entries_in
accessors-same name outer leaf unit [] each = refl
accessors-same name outer leaf unit (access ∷ accessors) each = absurd each
accessors-same name outer (node step keys children others) unit [] each = absurd each
accessors-same name outer (node step keys children others) unit (access ∷ accessors) each =
    map-append (entry_below name) (map (behind_step (step_of unit.head access)) (known_below (below_modules unit.inside) access.element)) (below_accessors unit accessors)
    ∙ ap₂ (λ xs ys. xs ++ ys)
    (ap₂ (λ accessor belows. map (entry_below name) (map (behind_step accessor) belows)) (λ i. record { name = each.0.name i; count = each.0.count i }) (known unit access each.0.inner each.0.stands)
    ∙ entries-behind name (accessor_of step keys) (below_module each.0.inner)
    ∙ in-module (is_of register step) (name_inside name step keys) (props_inside keys outer) keys children
    (λ inner is. accessors-same (name_inside name step keys) (props_inside keys outer) children inner inner.head.accessors is.each)
    each.0.inner each.0.inner_is)
    (accessors-same name outer others unit accessors each.1)
    ∙ sym (ap (λ b. cond b (entry_by (is_of register step) (name_inside name step keys) (props_inside keys outer) keys children ∷ []) [] ++ (entries_in (name_inside name step keys) (props_inside keys outer) children ++ entries_in name outer others)) each.0.named)

-- ---- peripherals

slots-same : (outer : Props) (f : Forest Step Key) (krate : CrateTree) (slots : List Slot) → EachPeripheral outer f krate slots → flat_map (of_slot krate) slots ≡ entries_of_peripherals outer f
unfolding EachPeripheral entries_of_peripherals
slots-same outer leaf krate [] each = refl
slots-same outer leaf krate (slot ∷ slots) each = absurd each
slots-same outer (node step keys children others) krate [] each = absurd each
slots-same outer (node step keys children others) krate (slot ∷ slots) each =
    ap₂ (λ xs ys. xs ++ ys)
    (ap₂ (λ name o. map (λ below. record { slot = name; below = below }) (unwrap_or (option_map below_block o) [])) each.0.name each.0.stands
    ∙ ap (λ entries. entry_of (peripheral_name step) None ∷ entries) (accessors-same (peripheral_name step) (props_inside keys outer) children each.0.unit each.0.unit.head.accessors each.0.unit_is.each))
    (slots-same outer others krate slots each.1)
    ∙ sym (ap₂ (λ b c. cond b (entry_by c (peripheral_name step) (props_inside keys outer) keys children ∷ []) [] ++ (entries_in (peripheral_name step) (props_inside keys outer) children ++ entries_of_peripherals outer others)) each.0.named each.0.no_register)

pub same_surface : SameSurface
unfolding text_surface
same_surface device unfolded krate is = slots-same device.props (device_tree device).below krate krate.slots is.each ∙ sym (surface_by_walk device unfolded)

pub same_faults : SameFaults
same_faults device unfolded krate is script = ap (λ surface. script_fault surface script) (same_surface device unfolded krate is)
