-- Accessors walked through modules, against accessors sought among rows.
use Rattle.std.proofs.Common.{ℕ, ◌≡◌, ◌+◌, Bool, true, false, cond, List, [], ◌∷◌, Option, Some, None, option_map, option_and_then, bytes_eq, refl, sym, ap, subst}
use Rattle.frag_tree.specs.declared.access.Access.{Access}
use Rattle.frag_tree.specs.declared.register.RegisterModule.{RegisterModule}
use Rattle.frag_tree.specs.declared.statement.Call.{Call}
use Rattle.frag_tree.specs.Trees.{BlockTree, ModuleTree, one_block, one_register}
use Rattle.frag_sem.specs.CallPlaces.{RegisterAt, access_named, admits, leads, offset_of, through}
use Rattle.frag_sem.specs.Likeness.{BothAlike}
use Rattle.frag_sem.specs.Meaning.{ActsAt}
use Rattle.frag_sem.specs.Modules.{module_of}
use Rattle.frag_sem.specs.TextMeaning.{acts_at}
use Rattle.reg_table.specs.Registers.{register_row}
use Rattle.reg_table.specs.Walk.{props_inside}
use Rattle.svd_model.specs.declared.props.Props.{Props}
use Rattle.svd_model.specs.Keys.{Key}
use Rattle.svd_model.specs.Stating.{value_of, stated_dim, is_of, start_of}
use Rattle.svd_model.specs.Steps.{Step, register}
use Rattle.svd_rows.specs.Forest.{Forest, leaf, node}
use Rattle.svd_values.specs.AccessorNames.{accessor_name}
use Rattle.table_sem.specs.RowActs.{row_acts}
use Rattle.crate_means.specs.BlockIs.{BlockIs, ChildIs, EachIs, ModuleIs}
use Rattle.crate_means.specs.RegisterIs.{RegisterIs}
use Rattle.crate_means.proofs.Named.{Element, Paired, element_named, first-pair, none_named}
use Rattle.crate_means.proofs.Seeking.{in_member, member_here, member_rows, no-rows, rows_here, seek, seek-here, seek-nowhere}

-- an accessor of the block is that of an element
abbrev IsHere : Props → BlockTree → Element → Access → Type 0
IsHere outer unit e access = ChildIs unit e.step e.keys (ModuleIs (is_of register e.step) (RegisterIs (props_inside e.keys outer) e.keys e.children) (BlockIs (props_inside e.keys outer) e.children)) access

paired : (outer : Props) (unit : BlockTree) (name : List ℕ) (f : Forest Step Key) (accessors : List Access) → EachIs outer f unit accessors → Paired (IsHere outer unit) (element_named accessor_name name f) (access_named name accessors)
unfolding EachIs
paired outer unit name leaf [] each = tt
paired outer unit name leaf (access ∷ accessors) each = absurd each
paired outer unit name (node step keys children others) [] each = absurd each
paired outer unit name (node step keys children others) (access ∷ accessors) each =
    first-pair (IsHere outer unit) (bytes_eq name (accessor_name step.name)) (bytes_eq name access.name) (ap (bytes_eq name) each.0.name) (record { step = step; keys = keys; children = children }) access each.0
    (element_named accessor_name name others) (access_named name accessors) (paired outer unit name others accessors each.1)

abbrev Walked : List Call → Type 0
Walked steps = (unit : BlockTree) (start : ℕ) (outer : Props) (f : Forest Step Key) → BlockIs outer f unit → BothAlike (option_map acts_at (leads steps (one_block unit) start)) (seek steps (rows_here start outer f))

-- at a register nothing follows
at-register : (rest : List Call) (unit : RegisterModule) (address : ℕ) (props : Props) (keys : List Key) (children : Forest Step Key) → RegisterIs props keys children unit → BothAlike (option_map acts_at (leads rest (one_register unit) address)) (seek rest (member_here address props true keys children (rows_here address props children)))
unfolding leads BothAlike register_row row_acts
at-register [] unit address props keys children is = record { address = refl; acts = is.acts }
at-register (s ∷ rest) unit address props keys children is =
    subst (λ inner. BothAlike None (seek (s ∷ rest) (member_here address props true keys children inner))) (sym (no-rows address props children (none_named children is.fields))) tt

-- in the module of an element
in-module : (rest : List Call) → Walked rest → (props : Props) (address : ℕ) (keys : List Key) (children : Forest Step Key) (b : Bool) (inner : ModuleTree) → ModuleIs b (RegisterIs props keys children) (BlockIs props children) inner → BothAlike (option_map acts_at (leads rest inner address)) (seek rest (member_here address props b keys children (rows_here address props children)))
in-module rest walked props address keys children true (one_register unit) is = at-register rest unit address props keys children is
in-module rest walked props address keys children true (one_block unit) is = absurd is
in-module rest walked props address keys children false (one_register unit) is = absurd is
in-module rest walked props address keys children false (one_block unit) is = walked unit address props children is

-- through the accessor of an element
through-one : (s : Call) (rest : List Call) → Walked rest → (unit : BlockTree) (start : ℕ) (outer : Props) (e : Element) (access : Access) → IsHere outer unit e access → BothAlike (option_map acts_at (through unit start s access (leads rest))) (in_member s rest start outer e)
unfolding BothAlike
through-one s rest walked unit start outer e access child =
    subst (λ count. BothAlike (option_map acts_at (cond (admits count s.index) there None)) (cond (admits (value_of stated_dim e.keys) s.index) row None)) (sym child.count)
    (by (admits (value_of stated_dim e.keys) s.index) refl)
  where
    there : Option RegisterAt
    there = option_and_then (λ inner. leads rest inner (start + offset_of unit access s.index)) (module_of access.element unit.inside)

    row : Option ActsAt
    row = seek rest (member_rows start outer e s.index)

    by : (b : Bool) → admits (value_of stated_dim e.keys) s.index ≡ b → BothAlike (option_map acts_at (cond b there None)) (cond b row None)
    by false is = tt
    by true is =
        subst (λ o. BothAlike (option_map acts_at (option_and_then (λ inner. leads rest inner (start + offset_of unit access s.index)) o)) row) (sym child.stands)
        (subst (λ n. BothAlike (option_map acts_at (leads rest child.inner (start + n))) row) (sym (child.place s.index is))
        (in-module rest walked (props_inside e.keys outer) (start + start_of e.keys s.index) e.keys e.children (is_of register e.step) child.inner child.inner_is))

-- Walking steps through the modules of a block that starts here, and seeking them among the rows, gives alike registers at one address, or none.
pub walked : (steps : List Call) → Walked steps
unfolding leads BothAlike
walked [] unit start outer f is = subst (λ o. BothAlike None o) (sym (seek-nowhere start outer f)) tt
walked (s ∷ rest) unit start outer f is =
    subst (λ o. BothAlike (option_map acts_at (leads (s ∷ rest) (one_block unit) start)) o) (sym (seek-here s rest start outer f is.distinct))
    (by (element_named accessor_name s.name f) (access_named s.name unit.head.accessors) (paired outer unit s.name f unit.head.accessors is.each) (walked rest))
  where
    by : (o : Option Element) (p : Option Access) → Paired (IsHere outer unit) o p → Walked rest → BothAlike (option_map acts_at (option_and_then (λ access. through unit start s access (leads rest)) p)) (option_and_then (in_member s rest start outer) o)
    by None None pair before = tt
    by None (Some access) pair before = absurd pair
    by (Some e) None pair before = absurd pair
    by (Some e) (Some access) pair before = through-one s rest before unit start outer e access pair
