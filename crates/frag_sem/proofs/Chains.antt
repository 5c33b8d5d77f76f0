-- Chains of accessors against the greatest end in each block.
use Rattle.std.proofs.Common.{ℕ, ◌≡◌, ◌+◌, ◌-◌, ◌*◌, ◌^◌, ◌<◌, ◌≤◌, Bool, true, false, ◌⊎◌, inl, inr, List, [], ◌∷◌, find, Option, Some, None, IfSome, option_map, option_and_then, bytes_eq, refl, ap, subst, ◌∙◌, arith, mul-le-mul_right}
use Rattle.std.specs.Prelude.{if◌then◌else◌, unwrap_or}
use Rattle.std.specs.List.{list_all}
use Rattle.std.proofs.lemmas.Bool.{ltb-true, lt-ltb, leb-true, false≢true}
use Rattle.std.proofs.lemmas.Option.{none-some}
use Rattle.frag_tree.specs.declared.access.Access.{Access}
use Rattle.frag_tree.specs.declared.access.Body.{Body}
use Rattle.frag_tree.specs.declared.access.Body.TheVariants as body
use Rattle.frag_tree.specs.declared.block.Element.{Element}
use Rattle.frag_tree.specs.declared.block.Element.TheVariants as element
use Rattle.frag_tree.specs.declared.krate.Slot.{Slot}
use Rattle.frag_tree.specs.declared.register.RegisterModule.{RegisterModule}
use Rattle.frag_tree.specs.declared.statement.Call.{Call}
use Rattle.frag_tree.specs.Trees.{BlockHead, BlockTree, CrateTree, Modules, ModuleTree, ended, register, block, one_register, one_block}
use Rattle.frag_sem.specs.AddressEnds.{End, access_end, accessors_end, addresses_fit, block_end, end_fits, ends, greater, last_index, module_end, slot_fits}
use Rattle.frag_sem.specs.CallPlaces.{RegisterAt, admits, body_offset, bytes_of, count_of, from_slot, leads, offset_of, register_at, slot_named}
use Rattle.frag_sem.specs.CrateTyping.{AddressRange}
use Rattle.frag_sem.specs.Layout.{element_size}
use Rattle.frag_sem.specs.Modules.{beside, each_module, module_of, modules_of, same_element, top_block}
use Rattle.frag_sem.proofs.Leading.{Entered, leads_keeps}
use Rattle.frag_sem.proofs.Lists.{both_true, found_at, found_has}

-- ---- the modules of a parent

pub pushed : {A B : Type 0} (f : A → B) (b : Bool) (x : A) (o : Option A) (p : Option B) → p ≡ option_map f o → (if b then Some (f x) else p) ≡ option_map f (if b then Some x else o)
pushed f true x o p h = refl
pushed f false x o p h = h

-- what a module comes to, of what its register modules come to and its block modules
abbrev pub comes_to : {A : Type 0} → (RegisterModule → A) → (BlockHead → List (Element × A) → A) → ModuleTree → A
comes_to of_register of_block (one_register unit) = of_register unit
comes_to of_register of_block (one_block unit) = of_block unit.head (each_module of_register of_block unit.inside)

-- beside an element stands what its module comes to
pub each_beside : {A : Type 0} (of_register : RegisterModule → A) (of_block : BlockHead → List (Element × A) → A) (wanted : Element) (modules : Modules) → beside wanted (each_module of_register of_block modules) ≡ option_map (comes_to of_register of_block) (module_of wanted modules)
unfolding each_module modules_of
each_beside of_register of_block wanted ended = refl
each_beside of_register of_block wanted (register unit others) =
    pushed (comes_to of_register of_block) (same_element wanted (element.Register unit.name)) (one_register unit) (module_of wanted others) (beside wanted (each_module of_register of_block others)) (each_beside of_register of_block wanted others)
each_beside of_register of_block wanted (block head inside others) =
    pushed (comes_to of_register of_block) (same_element wanted (element.Block head.name)) (one_block (record { head = head; inside = inside })) (module_of wanted others) (beside wanted (each_module of_register of_block others)) (each_beside of_register of_block wanted others)

-- beside an element stands the greatest end in its module
pub ends_beside : (wanted : Element) (modules : Modules) → beside wanted (ends modules) ≡ option_map module_end (beside wanted (modules_of modules))
unfolding ends modules_of
ends_beside wanted ended = refl
ends_beside wanted (register unit others) =
    pushed module_end (same_element wanted (element.Register unit.name)) (one_register unit) (beside wanted (modules_of others)) (beside wanted (ends others)) (ends_beside wanted others)
ends_beside wanted (block head inside others) =
    pushed module_end (same_element wanted (element.Block head.name)) (one_block (record { head = head; inside = inside })) (beside wanted (modules_of others)) (beside wanted (ends others)) (ends_beside wanted others)

-- ---- members

admits_last : (count index : Option ℕ) → admits count index ≡ true → admits count (last_index count) ≡ true
admits_last None index h = refl
admits_last (Some count) None h = absurd (false≢true h)
admits_last (Some count) (Some index) h =
    let below : index < count = ltb-true index count h in
    lt-ltb (count - 1) count (omega arith)

index_below : (count index : Option ℕ) → admits count index ≡ true → unwrap_or index 0 ≤ unwrap_or (last_index count) 0
index_below None None h = omega arith
index_below None (Some index) h = absurd (false≢true h)
index_below (Some count) None h = absurd (false≢true h)
index_below (Some count) (Some index) h =
    let below : index < count = ltb-true index count h in
    omega arith

-- a later member stands no earlier
later_member : (unit : BlockTree) (access : Access) (found : Body) (i j : ℕ) → i ≤ j → body_offset unit access found i ≤ body_offset unit access found j
later_member unit access (body.Field field) i j h = omega arith
later_member unit access (body.Member field) i j h =
    let more : i * element_size unit access.element ≤ j * element_size unit access.element = mul-le-mul_right (element_size unit access.element) h in
    omega arith
later_member unit access (body.At offset) i j h = omega arith
later_member unit access (body.AtIndex offset stride count) i j h =
    let more : i * stride ≤ j * stride = mul-le-mul_right stride h in
    omega arith

-- ---- every chain ends by the greatest end

-- an end that stands, behind a start, is at or below a bound
abbrev pub EndsBy : ℕ → ℕ → End → Type 0
EndsBy bound start end = IfSome end (λ n. start + n ≤ bound)

greater_left : (bound start : ℕ) (one other : End) → EndsBy bound start (greater one other) → EndsBy bound start one
greater_left bound start None other h = tt
greater_left bound start (Some one) None h = h
greater_left bound start (Some one) (Some other) h = omega arith

greater_right : (bound start : ℕ) (one other : End) → EndsBy bound start (greater one other) → EndsBy bound start other
greater_right bound start None other h = h
greater_right bound start (Some one) None h = tt
greater_right bound start (Some one) (Some other) h = omega arith

-- where the greatest end is at or below a bound, so is that of each accessor
accessor_by : (bound start : ℕ) (unit : BlockTree) (known : List (Element × End)) (test : Access → Bool) (accessors : List Access) (access : Access) → find test accessors ≡ Some access → EndsBy bound start (accessors_end unit known accessors) → EndsBy bound start (access_end unit known access)
accessor_by bound start unit known test [] access found h = absurd (none-some access found)
accessor_by bound start unit known test (first ∷ others) access found h =
    which (found_at (test first) first (find test others) access found)
    (greater_left bound start (access_end unit known first) (accessors_end unit known others) h)
    (λ later. accessor_by bound start unit known test others access later (greater_right bound start (access_end unit known first) (accessors_end unit known others) h))
  where
    which : (first ≡ access) ⊎ (find test others ≡ Some access) → EndsBy bound start (access_end unit known first) → (find test others ≡ Some access → EndsBy bound start (access_end unit known access)) → EndsBy bound start (access_end unit known access)
    which (inl same) one more = subst (λ a. EndsBy bound start (access_end unit known a)) same one
    which (inr later) one more = more later

-- the end of a register that was reached is at or below a bound
abbrev pub ReachesBy : ℕ → Option RegisterAt → Type 0
ReachesBy bound reached = IfSome reached (λ found. found.address + bytes_of found.register ≤ bound)

-- from the end in an element, behind its last member, to that behind an earlier one
earlier_by : (bound start last offset : ℕ) (end : End) → offset ≤ last → EndsBy bound start (option_map (λ n. last + n) end) → EndsBy bound (start + offset) end
earlier_by bound start last offset None below h = tt
earlier_by bound start last offset (Some n) below h = omega arith

-- so behind an accessor, in the module of its element
entered_by : (bound start : ℕ) (unit : BlockTree) (step : Call) (access : Access) (inner : ModuleTree) → Entered unit step access inner → EndsBy bound start (block_end unit) → EndsBy bound (start + offset_of unit access step.index) (module_end inner)
entered_by bound start unit step access inner entered h =
    let last = offset_of unit access (last_index (count_of unit access)) in
    let end_is : beside access.element (ends unit.inside) ≡ Some (module_end inner) = ends_beside access.element unit.inside ∙ ap (option_map module_end) entered.module_is in
    let there : EndsBy bound start (option_map (λ n. last + n) (module_end inner)) =
    subst (λ (o : Option End). EndsBy bound start (option_map (λ n. last + n) (option_and_then (λ end. end) o))) end_is
    (subst (λ b. EndsBy bound start (if b then option_map (λ n. last + n) (option_and_then (λ end. end) (beside access.element (ends unit.inside))) else None)) (admits_last (count_of unit access) step.index entered.admitted)
    (accessor_by bound start unit (ends unit.inside) (λ a. bytes_eq step.name a.name) unit.head.accessors access entered.named h)) in
    earlier_by bound start last (offset_of unit access step.index) (module_end inner)
    (later_member unit access access.body (unwrap_or step.index 0) (unwrap_or (last_index (count_of unit access)) 0) (index_below (count_of unit access) step.index entered.admitted))
    there

-- where the greatest end in a module is at or below a bound, so is the end of each register to which accessors lead
pub chain_by : (bound : ℕ) (steps : List Call) (unit : ModuleTree) (start : ℕ) → EndsBy bound start (module_end unit) → ReachesBy bound (leads steps unit start)
chain_by bound steps unit start h =
    leads_keeps (λ inner from. EndsBy bound from (module_end inner)) (λ found. found.address + bytes_of found.register ≤ bound)
    (λ register_of from end. end)
    (λ block_of from step access inner entered end. entered_by bound from block_of step access inner entered end)
    steps unit start h

-- what is below 2^64 by the test
end_by : (start : ℕ) (end : End) → end_fits start end ≡ true → EndsBy (2 ^ 64) start end
end_by start None h = tt
end_by start (Some n) h = leb-true (start + n) (2 ^ 64) h

slot_by : (krate : CrateTree) (steps : List Call) (slot : Slot) (o : Option BlockTree) → end_fits slot.address (option_and_then block_end o) ≡ true → ReachesBy (2 ^ 64) (option_and_then (λ unit. leads steps (one_block unit) slot.address) o)
slot_by krate steps slot None h = tt
slot_by krate steps slot (Some unit) h = chain_by (2 ^ 64) steps (one_block unit) slot.address (end_by slot.address (block_end unit) h)

place_by : (krate : CrateTree) (steps : List Call) (o : Option Slot) → ((slot : Slot) → o ≡ Some slot → slot_fits krate slot ≡ true) → ReachesBy (2 ^ 64) (option_and_then (from_slot krate steps) o)
place_by krate steps None h = tt
place_by krate steps (Some slot) h = slot_by krate steps slot (top_block slot.block krate.blocks) (h slot refl)

pub range_by : (krate : CrateTree) → addresses_fit krate ≡ true → AddressRange krate
unfolding addresses_fit register_at
range_by krate h =
    let parts = both_true _ (list_all (slot_fits krate) krate.slots) h in
    record {
      sizes = parts.0;
      ends = λ place. place_by krate place.steps (slot_named place.slot krate.slots)
          (λ slot found. found_has (λ other. bytes_eq place.slot other.name) (slot_fits krate) krate.slots slot found parts.1);
    }
