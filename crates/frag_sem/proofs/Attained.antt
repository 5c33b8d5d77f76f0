-- The greatest end in a block is that of a register to which accessors lead.
use Rattle.std.proofs.Common.{ℕ, ◌≡◌, ◌+◌, ◌^◌, ◌<◌, ◌≤◌, max, Bool, true, false, ◌&&◌, ◌⊎◌, inl, inr, List, [], ◌∷◌, ◌++◌, map, Option, Some, None, IfSome, option_map, option_and_then, bytes_eq, refl, sym, ap, subst, ◌∙◌, arith, nat_le}
use Rattle.std.specs.Prelude.{if◌then◌else◌}
use Rattle.std.specs.List.{list_all}
use Rattle.std.proofs.lemmas.Bool.{and_from, cases_lt, le-leb}
use Rattle.std.proofs.lemmas.Option.{none-some, same_Some}
use Rattle.frag_tree.specs.declared.access.Access.{Access}
use Rattle.frag_tree.specs.declared.block.Element.{Element}
use Rattle.frag_tree.specs.declared.block.Element.TheVariants as element
use Rattle.frag_tree.specs.declared.krate.Slot.{Slot}
use Rattle.frag_tree.specs.declared.register.RegisterModule.{RegisterModule}
use Rattle.frag_tree.specs.declared.statement.Call.{Call}
use Rattle.frag_tree.specs.Trees.{BlockTree, CrateTree, Modules, ModuleTree, ended, register, block, one_register, one_block}
use Rattle.frag_sem.specs.AddressEnds.{End, access_end, accessors_end, addresses_fit, block_end, end_fits, ends, greater, last_index, module_end, slot_fits}
use Rattle.frag_sem.specs.CallPlaces.{RegisterAt, access_named, admits, bytes_of, count_of, from_slot, leads, offset_of, register_at, slot_named, through}
use Rattle.frag_sem.specs.CrateTyping.{AddressRange, EndsInRange, block_names_differ, names_differ, module_names, register_names_differ}
use Rattle.frag_sem.specs.Laws.{EndsDecide}
use Rattle.frag_sem.specs.Layout.{extent_of}
use Rattle.frag_sem.specs.Modules.{all_blocks, all_registers, are_distinct_names, beside, blocks_in, module_of, modules_of, same_element, top_block}
use Rattle.frag_sem.proofs.Chains.{ends_beside, range_by}
use Rattle.frag_sem.proofs.Lists.{all_at, all_both, both_true, found_at, found_parts, own_found}

-- accessors lead to a register that ends here
record Attains (unit : ModuleTree) (start end : ℕ) : Type 0 where
  steps : List Call
  found : RegisterAt
  leads_there : leads steps unit start ≡ Some found
  ends_there : found.address + bytes_of found.register ≡ start + end

-- ---- one of a list has the greatest end

which_greater : (one other : End) (n : ℕ) → greater one other ≡ Some n → (one ≡ Some n) ⊎ (other ≡ Some n)
which_greater None other n h = inr h
which_greater (Some one) None n h = inl h
which_greater (Some one) (Some other) n h = by (cases_lt one other)
  where
    same : max one other ≡ n
    same = same_Some (max one other) n h

    by : (one < other) ⊎ (other ≤ one) → (◌≡◌ {A = End} (Some one) (Some n)) ⊎ (◌≡◌ {A = End} (Some other) (Some n))
    by (inl below) = let is : other ≡ n = omega (arith, same) in inr (ap Some is)
    by (inr above) = let is : one ≡ n = omega (arith, same) in inl (ap Some is)

-- an accessor among others, with this greatest end
record HasEnd (unit : BlockTree) (known : List (Element × End)) (accessors : List Access) (end : ℕ) : Type 0 where
  front : List Access
  access : Access
  others : List Access
  split : accessors ≡ front ++ access ∷ others
  end_is : access_end unit known access ≡ Some end

has_end : (unit : BlockTree) (known : List (Element × End)) (accessors : List Access) (end : ℕ) → accessors_end unit known accessors ≡ Some end → HasEnd unit known accessors end
has_end unit known [] end h = absurd (none-some end h)
has_end unit known (first ∷ others) end h =
    by (which_greater (access_end unit known first) (accessors_end unit known others) end h) (λ later. has_end unit known others end later)
  where
    by : (access_end unit known first ≡ Some end) ⊎ (accessors_end unit known others ≡ Some end) → (accessors_end unit known others ≡ Some end → HasEnd unit known others end) → HasEnd unit known (first ∷ others) end
    by (inl here) more = record { front = []; access = first; others = others; split = refl; end_is = here }
    by (inr later) more =
        let found = more later in
        record { front = first ∷ found.front; access = found.access; others = found.others; split = ap (λ rest. first ∷ rest) found.split; end_is = found.end_is }

-- the end behind an accessor is that in its element's module, behind the last member
record BehindLast (unit : BlockTree) (access : Access) (end : ℕ) : Type 0 where
  inner : ModuleTree
  inner_end : ℕ
  admits_last : admits (count_of unit access) (last_index (count_of unit access)) ≡ true
  module_is : module_of access.element unit.inside ≡ Some inner
  inner_end_is : module_end inner ≡ Some inner_end
  end_is : offset_of unit access (last_index (count_of unit access)) + inner_end ≡ end

behind_last : (unit : BlockTree) (access : Access) (end : ℕ) → access_end unit (ends unit.inside) access ≡ Some end → BehindLast unit access end
behind_last unit access end h = admitted (admits (count_of unit access) (last_index (count_of unit access))) refl h
  where
    last : ℕ
    last = offset_of unit access (last_index (count_of unit access))

    ended_in : (inner : ModuleTree) (o : End) → module_end inner ≡ o → option_map (λ n. last + n) o ≡ Some end → admits (count_of unit access) (last_index (count_of unit access)) ≡ true → module_of access.element unit.inside ≡ Some inner → BehindLast unit access end
    ended_in inner None is e holds there = absurd (none-some end e)
    ended_in inner (Some n) is e holds there =
        record { inner = inner; inner_end = n; admits_last = holds; module_is = there; inner_end_is = is; end_is = same_Some (last + n) end e }

    inside : (o : Option ModuleTree) → module_of access.element unit.inside ≡ o → option_map (λ n. last + n) (option_and_then (λ inner. inner) (option_map module_end o)) ≡ Some end → admits (count_of unit access) (last_index (count_of unit access)) ≡ true → BehindLast unit access end
    inside None is e holds = absurd (none-some end e)
    inside (Some inner) is e holds = ended_in inner (module_end inner) refl e holds is

    admitted : (b : Bool) → admits (count_of unit access) (last_index (count_of unit access)) ≡ b → (if b then option_map (λ n. last + n) (option_and_then (λ inner. inner) (beside access.element (ends unit.inside))) else None) ≡ Some end → BehindLast unit access end
    admitted false is e = absurd (none-some end e)
    admitted true is e =
        inside (module_of access.element unit.inside) refl
        (ap (λ (o : Option End). option_map (λ n. last + n) (option_and_then (λ inner. inner) o)) (sym (ends_beside access.element unit.inside)) ∙ e) is

-- ---- a chain to the end

abbrev pub access_names_differ : BlockTree → Bool
access_names_differ unit = are_distinct_names (map (λ access. access.name) unit.head.accessors)

-- through the accessor that has the greatest end, and on in its module
block_attains : (unit : BlockTree) → access_names_differ unit ≡ true → ((wanted : Element) (inner : ModuleTree) → module_of wanted unit.inside ≡ Some inner → (start end : ℕ) → module_end inner ≡ Some end → Attains inner start end) → (start end : ℕ) → block_end unit ≡ Some end → Attains (one_block unit) start end
unfolding leads
block_attains unit distinct inner_attains start end h =
    let found = has_end unit (ends unit.inside) unit.head.accessors end h in
    let access = found.access in
    let index = last_index (count_of unit access) in
    let last = behind_last unit access end found.end_is in
    let more = inner_attains access.element last.inner last.module_is (start + offset_of unit access index) last.inner_end last.inner_end_is in
    let own : access_named access.name unit.head.accessors ≡ Some access =
    ap (access_named access.name) found.split ∙ own_found (λ a. a.name) found.front found.others access (ap (λ accessors. are_distinct_names (map (λ a. a.name) accessors)) (sym found.split) ∙ distinct) in
    let there : leads (record { name = access.name; index = index } ∷ more.steps) (one_block unit) start ≡ Some more.found =
    ap (option_and_then (λ a. through unit start (record { name = access.name; index = index }) a (leads more.steps))) own
    ∙ (ap (λ b. if b then option_and_then (λ inner. leads more.steps inner (start + offset_of unit access index)) (module_of access.element unit.inside) else None) last.admits_last
    ∙ (ap (option_and_then (λ inner. leads more.steps inner (start + offset_of unit access index))) last.module_is
    ∙ more.leads_there)) in
    record {
      steps = record { name = access.name; index = index } ∷ more.steps;
      found = more.found;
      leads_there = there;
      ends_there = more.ends_there ∙ omega (arith, last.end_is);
    }

register_attains : (unit : RegisterModule) (start end : ℕ) → module_end (one_register unit) ≡ Some end → Attains (one_register unit) start end
unfolding leads
register_attains unit start end h = record {
  steps = [];
  found = record { address = start; register = unit };
  leads_there = refl;
  ends_there = ap (λ (n : ℕ). start + n) (same_Some (bytes_of unit) end h);
}

-- the module that stands beside an element is the first, or one of the others
attains_first : (first found : ModuleTree) (others : Option ModuleTree) (start end : ℕ) → (first ≡ found) ⊎ (others ≡ Some found) → module_end found ≡ Some end → (module_end first ≡ Some end → Attains first start end) → (others ≡ Some found → Attains found start end) → Attains found start end
attains_first first found others start end (inl same) h here later =
    subst (λ unit. Attains unit start end) same (here (ap module_end same ∙ h))
attains_first first found others start end (inr there) h here later = later there

-- so in each module of a parent
inside_attains : (modules : Modules) → list_all access_names_differ (blocks_in modules) ≡ true → (wanted : Element) (found : ModuleTree) → module_of wanted modules ≡ Some found → (start end : ℕ) → module_end found ≡ Some end → Attains found start end
unfolding modules_of blocks_in
inside_attains ended distinct wanted found there start end h = absurd (none-some found there)
inside_attains (register unit others) distinct wanted found there start end h =
    attains_first (one_register unit) found (module_of wanted others) start end
    (found_at (same_element wanted (element.Register unit.name)) (one_register unit) (module_of wanted others) found there) h
    (register_attains unit start end)
    (λ later. inside_attains others distinct wanted found later start end h)
inside_attains (block head inside others) distinct wanted found there start end h =
    let unit : BlockTree = record { head = head; inside = inside } in
    let parts = both_true (access_names_differ unit) (list_all access_names_differ (blocks_in inside ++ blocks_in others)) distinct in
    let both = all_both access_names_differ (blocks_in inside) (blocks_in others) parts.1 in
    attains_first (one_block unit) found (module_of wanted others) start end
    (found_at (same_element wanted (element.Block head.name)) (one_block unit) (module_of wanted others) found there) h
    (block_attains unit parts.0 (inside_attains inside both.0) start end)
    (λ later. inside_attains others both.1 wanted found later start end h)

-- ---- slots

-- a place that leads to a register whose end passes 2^64 isn't in range
slot_in_range : (krate : CrateTree) → AddressRange krate → (slot : Slot) (unit : BlockTree) → slot_named slot.name krate.slots ≡ Some slot → top_block slot.block krate.blocks ≡ Some unit → ((start end : ℕ) → block_end unit ≡ Some end → Attains (one_block unit) start end) → (o : End) → block_end unit ≡ o → end_fits slot.address o ≡ true
unfolding register_at
slot_in_range krate range slot unit own top attains None is = refl
slot_in_range krate range slot unit own top attains (Some end) is =
    let found = attains slot.address end is in
    let there : register_at krate (record { slot = slot.name; steps = found.steps }) ≡ Some found.found =
    ap (option_and_then (from_slot krate found.steps)) own ∙ (ap (option_and_then (λ block_of. leads found.steps (one_block block_of) slot.address)) top ∙ found.leads_there) in
    let bound : IfSome (Some found.found) EndsInRange = subst (λ (o : Option RegisterAt). IfSome o EndsInRange) there (range.ends (record { slot = slot.name; steps = found.steps })) in
    le-leb (slot.address + end) (2 ^ 64) (subst (λ (n : ℕ). n ≤ 2 ^ 64) found.ends_there bound)

-- ---- names that differ

-- what the test of all names says of slots and of blocks
pub record NamesDiffer (krate : CrateTree) : Type 0 where
  pub slots : are_distinct_names (map (λ slot. slot.name) krate.slots) ≡ true
  pub blocks : list_all block_names_differ (all_blocks krate) ≡ true

pub names_parts : (krate : CrateTree) → names_differ krate ≡ true → NamesDiffer krate
unfolding names_differ
names_parts krate differ =
    let tops = are_distinct_names (map (λ unit. unit.head.name) krate.blocks) in
    let inner = list_all block_names_differ (all_blocks krate) in
    let registers = list_all register_names_differ (all_registers krate) in
    let first = both_true (are_distinct_names (map (λ slot. slot.name) krate.slots)) (tops && (inner && registers)) differ in
    let second = both_true tops (inner && registers) first.1 in
    record { slots = first.0; blocks = (both_true inner registers second.1).0 }

-- the accessors of a block have distinct names where all its names differ
pub weaker : (blocks : List BlockTree) → list_all block_names_differ blocks ≡ true → list_all access_names_differ blocks ≡ true
weaker [] all = refl
weaker (unit ∷ blocks) all =
    let parts = both_true (block_names_differ unit) (list_all block_names_differ blocks) all in
    let names = both_true (are_distinct_names (module_names unit.inside)) (are_distinct_names (map (λ field. field.name) unit.head.fields) && are_distinct_names (map (λ access. access.name) unit.head.accessors)) parts.0 in
    let fields = both_true (are_distinct_names (map (λ field. field.name) unit.head.fields)) (are_distinct_names (map (λ access. access.name) unit.head.accessors)) names.1 in
    and_from (access_names_differ unit) (list_all access_names_differ blocks) fields.1 (weaker blocks parts.1)

fits_at : (krate : CrateTree) → AddressRange krate → list_all block_names_differ (all_blocks krate) ≡ true → (slot : Slot) → slot_named slot.name krate.slots ≡ Some slot → (o : Option BlockTree) → top_block slot.block krate.blocks ≡ o → end_fits slot.address (option_and_then block_end o) ≡ true
fits_at krate range differ slot own None is = refl
fits_at krate range differ slot own (Some unit) is =
    let all = weaker (unit ∷ blocks_in unit.inside) (found_parts (λ other. bytes_eq slot.block other.head.name) (λ other. other ∷ blocks_in other.inside) block_names_differ krate.blocks unit is differ) in
    let parts = both_true (access_names_differ unit) (list_all access_names_differ (blocks_in unit.inside)) all in
    slot_in_range krate range slot unit own is (block_attains unit parts.0 (inside_attains unit.inside parts.1)) (block_end unit) refl

pub range_fits : (krate : CrateTree) → names_differ krate ≡ true → AddressRange krate → addresses_fit krate ≡ true
unfolding addresses_fit
range_fits krate differ range =
    let names = names_parts krate differ in
    and_from (list_all (λ unit. nat_le (extent_of unit).size (2 ^ 64)) (all_blocks krate)) (list_all (slot_fits krate) krate.slots) range.sizes
    (all_at (slot_fits krate) krate.slots (λ front others slot split.
    fits_at krate range names.blocks slot
    (ap (slot_named slot.name) split ∙ own_found (λ other. other.name) front others slot (ap (λ all. are_distinct_names (map (λ other. other.name) all)) (sym split) ∙ names.slots))
    (top_block slot.block krate.blocks) refl))

pub ends_decide : EndsDecide
ends_decide krate differ = (range_by krate, range_fits krate differ)
