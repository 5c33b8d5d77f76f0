-- Ends that are cut decide the address range as they do uncut.
use Rattle.std.proofs.Common.{ℕ, ◌≡◌, ◌+◌, ◌/◌, ◌^◌, ◌≤◌, ◌<◌, ◌⊎◌, inl, inr, max, Bool, true, false, ◌&&◌, nat_le, List, [], ◌∷◌, Option, Some, None, option_map, option_and_then, refl, sym, ap, ap₂, ◌∙◌, arith}
use Rattle.std.specs.Prelude.{if◌then◌else◌}
use Rattle.std.specs.List.{list_all}
use Rattle.std.proofs.lemmas.Bool.{cases_lt, le-leb, lt-leb}
use Rattle.pac_base.specs.declared.width.Width.{Width}
use Rattle.pac_base.specs.declared.width.Width.TheVariants.{W8, W16, W32, W64}
use Rattle.pac_base.specs.Widths.{bits_of}
use Rattle.frag_tree.specs.declared.access.Access.{Access}
use Rattle.frag_tree.specs.declared.block.Element.{Element}
use Rattle.frag_tree.specs.declared.block.Element.TheVariants as element
use Rattle.frag_tree.specs.declared.krate.Slot.{Slot}
use Rattle.frag_tree.specs.Trees.{BlockTree, CrateTree, Modules, ended, register, block}
use Rattle.frag_sem.specs.AddressEnds.{End, access_end, accessors_end, addresses_fit, block_end, cut, cut_addresses_fit, cut_block_end, cut_ends, end_fits, ends, greater, last_index, slot_fits, slot_fits_cut}
use Rattle.frag_sem.specs.CallPlaces.{admits, bytes_of, count_of, offset_of}
use Rattle.frag_sem.specs.Laws.{CutEndsDecide}
use Rattle.frag_sem.specs.Layout.{extent_of}
use Rattle.frag_sem.specs.Modules.{all_blocks, beside, same_element, top_block}

-- ---- cut numbers

cut_behind : (offset n : ℕ) → cut (offset + cut n) ≡ cut (offset + n)
cut_behind offset n = omega arith

cut_greater : (one other : End) → option_map cut (greater one other) ≡ greater (option_map cut one) (option_map cut other)
cut_greater None other = refl
cut_greater (Some one) None = refl
cut_greater (Some one) (Some other) = let both : cut (max one other) ≡ max (cut one) (cut other) = omega arith in ap Some both

-- a register is small
few_bytes : (width : Width) → cut (bits_of width / 8) ≡ bits_of width / 8
few_bytes W8 = refl
few_bytes W16 = refl
few_bytes W32 = refl
few_bytes W64 = refl

-- ---- the modules of a parent

-- the cut ends beside elements are those that are uncut, cut
abbrev AreCut : List (Element × End) → List (Element × End) → Type 0
AreCut cuts known = (wanted : Element) → beside wanted cuts ≡ option_map (option_map cut) (beside wanted known)

access_cut : (unit : BlockTree) (cuts known : List (Element × End)) → AreCut cuts known → (access : Access) → option_map cut (access_end unit cuts access) ≡ option_map cut (access_end unit known access)
access_cut unit cuts known same access = by (admits (count_of unit access) (last_index (count_of unit access)))
  where
    last : ℕ
    last = offset_of unit access (last_index (count_of unit access))

    inside : (o : Option End) → option_map cut (option_map (λ end. last + end) (option_and_then (λ end. end) (option_map (option_map cut) o))) ≡ option_map cut (option_map (λ end. last + end) (option_and_then (λ end. end) o))
    inside None = refl
    inside (Some None) = refl
    inside (Some (Some n)) = ap Some (cut_behind last n)

    by : (b : Bool) → option_map cut (if b then option_map (λ end. last + end) (option_and_then (λ end. end) (beside access.element cuts)) else None) ≡ option_map cut (if b then option_map (λ end. last + end) (option_and_then (λ end. end) (beside access.element known)) else None)
    by false = refl
    by true = ap (λ o. option_map cut (option_map (λ end. last + end) (option_and_then (λ end. end) o))) (same access.element) ∙ inside (beside access.element known)

accessors_cut : (unit : BlockTree) (cuts known : List (Element × End)) → AreCut cuts known → (accessors : List Access) → option_map cut (accessors_end unit cuts accessors) ≡ option_map cut (accessors_end unit known accessors)
accessors_cut unit cuts known same [] = refl
accessors_cut unit cuts known same (first ∷ others) =
    cut_greater (access_end unit cuts first) (accessors_end unit cuts others)
    ∙ (ap₂ greater (access_cut unit cuts known same first) (accessors_cut unit cuts known same others)
    ∙ sym (cut_greater (access_end unit known first) (accessors_end unit known others)))

-- one more module
more_cut : (b : Bool) (one end : End) (o p : Option End) → one ≡ option_map cut end → o ≡ option_map (option_map cut) p → (if b then Some one else o) ≡ option_map (option_map cut) (if b then Some end else p)
more_cut true one end o p first others = ap Some first
more_cut false one end o p first others = others

are_cut : (modules : Modules) → AreCut (cut_ends modules) (ends modules)
unfolding cut_ends ends
are_cut ended wanted = refl
are_cut (register unit others) wanted =
    more_cut (same_element wanted (element.Register unit.name)) (Some (bytes_of unit)) (Some (bytes_of unit)) (beside wanted (cut_ends others)) (beside wanted (ends others)) (ap Some (sym (few_bytes unit.word))) (are_cut others wanted)
are_cut (block head inside others) wanted =
    let unit : BlockTree = record { head = head; inside = inside } in
    more_cut (same_element wanted (element.Block head.name)) (option_map cut (accessors_end unit (cut_ends inside) head.accessors)) (accessors_end unit (ends inside) head.accessors) (beside wanted (cut_ends others)) (beside wanted (ends others))
    (accessors_cut unit (cut_ends inside) (ends inside) (are_cut inside) head.accessors) (are_cut others wanted)

-- ---- slots

-- a cut end is in range where the end is
cut_fits : (start : ℕ) (end : End) → end_fits start (option_map cut end) ≡ end_fits start end
cut_fits start None = refl
cut_fits start (Some n) = by (cases_lt (2 ^ 64) (start + n))
  where
    by : (2 ^ 64 < start + n) ⊎ (start + n ≤ 2 ^ 64) → nat_le (start + cut n) (2 ^ 64) ≡ nat_le (start + n) (2 ^ 64)
    by (inl above) =
        let also : 2 ^ 64 < start + cut n = omega arith in
        lt-leb (start + cut n) (2 ^ 64) also ∙ sym (lt-leb (start + n) (2 ^ 64) above)
    by (inr below) =
        let also : start + cut n ≤ 2 ^ 64 = omega arith in
        le-leb (start + cut n) (2 ^ 64) also ∙ sym (le-leb (start + n) (2 ^ 64) below)

slot_cut : (krate : CrateTree) (slot : Slot) → slot_fits_cut krate slot ≡ slot_fits krate slot
slot_cut krate slot = by (top_block slot.block krate.blocks)
  where
    by : (o : Option BlockTree) → end_fits slot.address (option_and_then cut_block_end o) ≡ end_fits slot.address (option_and_then block_end o)
    by None = refl
    by (Some unit) = ap (end_fits slot.address) (accessors_cut unit (cut_ends unit.inside) (ends unit.inside) (are_cut unit.inside) unit.head.accessors) ∙ cut_fits slot.address (block_end unit)

slots_cut : (krate : CrateTree) (slots : List Slot) → list_all (slot_fits_cut krate) slots ≡ list_all (slot_fits krate) slots
slots_cut krate [] = refl
slots_cut krate (slot ∷ slots) = ap₂ (λ b c. b && c) (slot_cut krate slot) (slots_cut krate slots)

pub cut_ends_decide : CutEndsDecide
unfolding cut_addresses_fit addresses_fit
cut_ends_decide krate = ap (λ b. list_all (λ unit. nat_le (extent_of unit).size (2 ^ 64)) (all_blocks krate) && b) (slots_cut krate krate.slots)
