-- The address range decided block by block: chains of accessors are as many as there are ways through the blocks, but of the registers at their ends only the one that ends last counts, and that is found once for each block.
use Rattle.std.specs.Prelude.{ℕ, ◌+◌, ◌-◌, ◌^◌, max, min, Bool, true, ◌&&◌, nat_le, List, [], ◌∷◌, ◌++◌, Option, Some, None, option_map, option_and_then, if◌then◌else◌}
use Rattle.std.specs.List.{list_all}
use Rattle.frag_tree.specs.declared.access.Access.{Access}
use Rattle.frag_tree.specs.declared.block.Element.{Element}
use Rattle.frag_tree.specs.declared.block.Element.TheVariants as element
use Rattle.frag_tree.specs.declared.krate.Slot.{Slot}
use Rattle.frag_tree.specs.Trees.{BlockTree, CrateTree, Modules, ModuleTree, ended, register, block, one_register, one_block}
use Rattle.frag_sem.specs.CallPlaces.{admits, bytes_of, count_of, offset_of}
use Rattle.frag_sem.specs.CrateTyping.{TypingKind, tests, too_large}
use Rattle.frag_sem.specs.Layout.{extent_of}
use Rattle.frag_sem.specs.Modules.{all_blocks, beside, top_block}

-- The end of a register, in bytes from where a module starts; none where no accessors lead to a register.
abbrev pub End : Type 0
End = Option ℕ

abbrev pub greater : End → End → End
greater None other = other
greater (Some one) None = Some one
greater (Some one) (Some other) = Some (max one other)

-- the index of the last member
abbrev pub last_index : Option ℕ → Option ℕ
last_index None = None
last_index (Some count) = Some (count - 1)

-- the greatest end behind an accessor: that in its element, behind the last member; none where it has no members
abbrev pub access_end : BlockTree → List (Element × End) → Access → End
access_end unit known access =
    if admits (count_of unit access) (last_index (count_of unit access))
    then option_map (λ end. offset_of unit access (last_index (count_of unit access)) + end) (option_and_then (λ end. end) (beside access.element known))
    else None

abbrev pub accessors_end : BlockTree → List (Element × End) → List Access → End
accessors_end unit known [] = None
accessors_end unit known (first ∷ others) = greater (access_end unit known first) (accessors_end unit known others)

-- the greatest end in each module of a parent
unfoldable pub ends : Modules → List (Element × End)
ends ended = []
ends (register unit others) = (element.Register unit.name, Some (bytes_of unit)) ∷ ends others
ends (block head inside others) =
    (element.Block head.name, accessors_end (record { head = head; inside = inside }) (ends inside) head.accessors) ∷ ends others

abbrev pub block_end : BlockTree → End
block_end unit = accessors_end unit (ends unit.inside) unit.head.accessors

-- the greatest end in a module
abbrev pub module_end : ModuleTree → End
module_end (one_register unit) = Some (bytes_of unit)
module_end (one_block unit) = block_end unit

-- an end behind this start is at or below 2^64
abbrev pub end_fits : ℕ → End → Bool
end_fits start None = true
end_fits start (Some end) = nat_le (start + end) (2 ^ 64)

abbrev pub slot_fits : CrateTree → Slot → Bool
slot_fits krate slot = end_fits slot.address (option_and_then block_end (top_block slot.block krate.blocks))

-- all sizes and all ends are at or below 2^64
unfoldable pub addresses_fit : CrateTree → Bool
addresses_fit krate = list_all (λ unit. nat_le (extent_of unit).size (2 ^ 64)) (all_blocks krate) && list_all (slot_fits krate) krate.slots

-- ---- ends that are counted no further than need be

-- an end behind 2^64 counts as the next number
abbrev pub cut : ℕ → ℕ
cut end = min end (2 ^ 64 + 1)

-- the greatest end in each module of a parent, where each block counts by its cut end
unfoldable pub cut_ends : Modules → List (Element × End)
cut_ends ended = []
cut_ends (register unit others) = (element.Register unit.name, Some (bytes_of unit)) ∷ cut_ends others
cut_ends (block head inside others) =
    (element.Block head.name, option_map cut (accessors_end (record { head = head; inside = inside }) (cut_ends inside) head.accessors)) ∷ cut_ends others

abbrev pub cut_block_end : BlockTree → End
cut_block_end unit = option_map cut (accessors_end unit (cut_ends unit.inside) unit.head.accessors)

abbrev pub slot_fits_cut : CrateTree → Slot → Bool
slot_fits_cut krate slot = end_fits slot.address (option_and_then cut_block_end (top_block slot.block krate.blocks))

-- all sizes and all cut ends are at or below 2^64
unfoldable pub cut_addresses_fit : CrateTree → Bool
cut_addresses_fit krate = list_all (λ unit. nat_le (extent_of unit).size (2 ^ 64)) (all_blocks krate) && list_all (slot_fits_cut krate) krate.slots

-- ---- all rules

-- the tests of all rules in their order, each with the kind where it fails
unfoldable pub all_tests : CrateTree → List (Bool × TypingKind)
all_tests krate = tests krate ++ (addresses_fit krate, too_large) ∷ []
