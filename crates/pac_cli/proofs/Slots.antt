-- The lent buses, and the first of a kind among them.
use Rattle.std.proofs.Common.{ℕ, ◌≡◌, ◌+◌, ◌<◌, ◌≤◌, Bool, true, false, List, length, nat_lt, slice_index_or, slice_set, Option, Some, None, option_map, if◌then◌else◌, refl, sym, ap, ◌∙◌, subst, inl, inr, arith}
use Rattle.std.proofs.lemmas.Bool.Decides.{nat_tests}
use Rattle.std.proofs.lemmas.List.{get_or-map, get_or-set_same, length-map, length-set, map-set, set-get_or}
use Rattle.std.proofs.lemmas.List.Sums.{passes_at_first, position_or_len_is}
use Rattle.std.proofs.lemmas.Option.{slice_get-get_or}
use Rattle.std.specs.List.{slice_get}
use Rattle.pac_bus.specs.Telling.{BusTold}
use Rattle.pac_cli.specs.Buses.{Slot, is_lent, kinds_of, lent_for, missing_kind, place_in, same_kind, slots_of, OthersStay}
use Rattle.pac_cli.specs.declared.slot.BusSlot.{BusSlot}
use Rattle.pac_words.specs.declared.command.BusKind.{BusKind}
use Rattle.pac_words.specs.declared.command.BusKind.TheVariants as bus

-- two of the same kind are equal
pub same_equal : (one other : BusKind) → same_kind one other ≡ true → one ≡ other
same_equal bus.Zero bus.Zero h = refl
same_equal bus.Zero bus.Memory h = absurd (cc h)
same_equal bus.Zero bus.Device h = absurd (cc h)
same_equal bus.Memory bus.Zero h = absurd (cc h)
same_equal bus.Memory bus.Memory h = refl
same_equal bus.Memory bus.Device h = absurd (cc h)
same_equal bus.Device bus.Zero h = absurd (cc h)
same_equal bus.Device bus.Memory h = absurd (cc h)
same_equal bus.Device bus.Device h = refl

-- where nothing is done no lent bus changes
pub none_changes : (wanted : Option BusKind) (slots : List Slot) → OthersStay wanted slots slots
none_changes None slots = refl
none_changes (Some kind) slots = inl refl

below : (m n : ℕ) → nat_lt m n ≡ true → m < n
below m n h = grind (arith, nat_tests, h)

found_at : (b : Bool) (kind : BusKind) → (if b then None else Some kind) ≡ None → b ≡ true
found_at true kind h = refl
found_at false kind h = absurd (cc h)

-- a kind that isn't missing has its place
pub has_place : (kind : BusKind) (kinds : List BusKind) → missing_kind (Some kind) kinds ≡ None → place_in kind kinds < length kinds
has_place kind kinds h = below _ _ (found_at (is_lent kind kinds) kind h)

-- at the place of a kind stands a bus of it
stands_there : (kind : BusKind) (kinds : List BusKind) → place_in kind kinds < length kinds → slice_index_or kinds (place_in kind kinds) kind ≡ kind
stands_there kind kinds inside = same_equal _ kind (passes_at_first (λ (lent : BusKind). same_kind lent kind) kinds kind inside)

-- a bus at the place of its kind is used
module _ {B : Type 0} (told : B → BusTold) (kind : BusKind) (lent : List (BusSlot B)) (slot : BusSlot B) (after : B) (place : ℕ) where
  abbrev slots : List Slot
  slots = slots_of told lent

  abbrev used : BusSlot B
  used = record { kind = slot.kind; bus = after }

  abbrev later : List Slot
  later = slots_of told (slice_set lent place used)

  abbrev as_slot : BusSlot B → Slot
  as_slot one = record { kind = one.kind; told = told one.bus }

  module _ (is_place : place ≡ place_in kind (kinds_of slots)) (not_missing : missing_kind (Some kind) (kinds_of slots) ≡ None) (is_slot : slot ≡ slice_index_or lent place slot) where
    within : place < length lent
    within =
        let there = has_place kind (kinds_of slots) not_missing in
        let kinds = length-map slots (λ (one : Slot). one.kind) in
        let tolds = length-map lent as_slot in
        omega (arith, there, kinds, tolds, is_place)

    within_kinds : place < length (kinds_of slots)
    within_kinds =
        let kinds = length-map slots (λ (one : Slot). one.kind) in
        let tolds = length-map lent as_slot in
        let there = within in
        omega (arith, there, kinds, tolds)

    same_slot_kind : slot.kind ≡ kind
    same_slot_kind =
        ap (λ (one : BusSlot B). one.kind) is_slot
        ∙ (sym (ap (λ (one : Slot). one.kind) (get_or-map as_slot lent place slot (as_slot slot) within))
        ∙ (sym (get_or-map (λ (one : Slot). one.kind) slots place (as_slot slot) kind (subst (λ (n : ℕ). place < n) (sym (length-map lent as_slot)) within))
        ∙ (ap (λ n. slice_index_or (kinds_of slots) n kind) is_place ∙ stands_there kind (kinds_of slots) (subst (λ (n : ℕ). n < length (kinds_of slots)) is_place within_kinds))))

    -- it is the one that the command wants
    pub told_before : lent_for (Some kind) slots ≡ Some (told slot.bus)
    told_before =
        ap (λ n. option_map (λ (one : Slot). one.told) (slice_get slots n)) (sym is_place)
        ∙ (ap (option_map (λ (one : Slot). one.told)) (slice_get-get_or slots place (as_slot slot) (subst (λ (n : ℕ). place < n) (sym (length-map lent as_slot)) within))
        ∙ ap Some (ap (λ (one : Slot). one.told) (get_or-map as_slot lent place slot (as_slot slot) within)
        ∙ ap (λ (one : BusSlot B). told one.bus) (sym is_slot)))

    later_is : later ≡ slice_set slots place (record { kind = kind; told = told after })
    later_is = map-set as_slot lent place used ∙ ap (λ (k : BusKind). slice_set slots place (record { kind = k; told = told after })) same_slot_kind

    -- the kinds stay
    same_kinds : kinds_of later ≡ kinds_of slots
    same_kinds =
        ap kinds_of later_is
        ∙ (map-set (λ (one : Slot). one.kind) slots place (record { kind = kind; told = told after })
        ∙ (ap (λ (k : BusKind). slice_set (kinds_of slots) place k) (sym stays) ∙ set-get_or (kinds_of slots) place kind))
      where
        stays : slice_index_or (kinds_of slots) place kind ≡ kind
        stays = ap (λ n. slice_index_or (kinds_of slots) n kind) is_place ∙ stands_there kind (kinds_of slots) (subst (λ (n : ℕ). n < length (kinds_of slots)) is_place within_kinds)

    pub others_stay : OthersStay (Some kind) slots later
    others_stay = inr (record {
      told = told after;
      changed = later_is ∙ ap (λ n. slice_set slots n (record { kind = kind; told = told after })) is_place;
    })

    -- and it is the one that the command wants still
    pub told_after : lent_for (Some kind) later ≡ Some (told after)
    told_after =
        ap (λ (kinds : List BusKind). option_map (λ (one : Slot). one.told) (slice_get later (place_in kind kinds))) same_kinds
        ∙ (ap (λ n. option_map (λ (one : Slot). one.told) (slice_get later n)) (sym is_place)
        ∙ (ap (λ (all : List Slot). option_map (λ (one : Slot). one.told) (slice_get all place)) later_is
        ∙ ap (option_map (λ (one : Slot). one.told)) set_there))
      where
        now_there : Slot
        now_there = record { kind = kind; told = told after }

        set_there : slice_get (slice_set slots place now_there) place ≡ Some now_there
        set_there =
            let inside : place < length slots = subst (λ (n : ℕ). place < n) (sym (length-map lent as_slot)) within in
            slice_get-get_or (slice_set slots place now_there) place now_there (subst (λ (n : ℕ). place < n) (sym (length-set slots place now_there)) inside)
            ∙ ap Some (get_or-set_same slots place now_there now_there inside)

-- ---- the place of a kind, found one by one

-- none of the first is of the kind
abbrev pub NoneBefore : BusKind → List BusKind → ℕ → Type 0
NoneBefore kind kinds count = (k : ℕ) → k < count → same_kind (slice_index_or kinds k kind) kind ≡ false

pub none_yet : (kind : BusKind) (kinds : List BusKind) → NoneBefore kind kinds 0
none_yet kind kinds = λ k below. absurd (omega (arith, below))

pub none_more : (kind : BusKind) (kinds : List BusKind) (count : ℕ) → NoneBefore kind kinds count → same_kind (slice_index_or kinds count kind) kind ≡ false → NoneBefore kind kinds (count + 1)
none_more kind kinds count none next = λ k inside. by k (nat_lt k count) refl inside
  where
    here : (k : ℕ) → nat_lt k count ≡ false → k < count + 1 → k ≡ count
    here k test inside = let past : count ≤ k = grind (arith, nat_tests, test) in omega (arith, past, inside)

    by : (k : ℕ) (b : Bool) → nat_lt k count ≡ b → k < count + 1 → same_kind (slice_index_or kinds k kind) kind ≡ false
    by k true test inside = none k (below k count test)
    by k false test inside = subst (λ (n : ℕ). same_kind (slice_index_or kinds n kind) kind ≡ false) (sym (here k test inside)) next

pub place_found : (kind : BusKind) (kinds : List BusKind) (place : ℕ) → place < length kinds → NoneBefore kind kinds place → same_kind (slice_index_or kinds place kind) kind ≡ true
    → place ≡ place_in kind kinds
place_found kind kinds place inside none is =
    sym (position_or_len_is (λ (lent : BusKind). same_kind lent kind) kinds place kind (omega (arith, inside)) none (λ there. is))

pub place_missed : (kind : BusKind) (kinds : List BusKind) (place : ℕ) → place ≡ length kinds → NoneBefore kind kinds place → place ≡ place_in kind kinds
place_missed kind kinds place end none =
    sym (position_or_len_is (λ (lent : BusKind). same_kind lent kind) kinds place kind (omega (arith, end)) none (λ there. absurd (omega (arith, end, there))))

-- the kind of a lent bus
pub kind_at : {B : Type 0} (told : B → BusTold) (lent : List (BusSlot B)) (place : ℕ) (slot : BusSlot B) (kind : BusKind) → place < length lent → slot ≡ slice_index_or lent place slot
    → slice_index_or (kinds_of (slots_of told lent)) place kind ≡ slot.kind
kind_at {B = B} told lent place slot kind inside is =
    let seen : BusSlot B → Slot = λ one. record { kind = one.kind; told = told one.bus } in
    get_or-map (λ (one : Slot). one.kind) (slots_of told lent) place (seen slot) kind (subst (λ (n : ℕ). place < n) (sym (length-map lent seen)) inside)
    ∙ (ap (λ (one : Slot). one.kind) (get_or-map seen lent place slot (seen slot) inside) ∙ ap (λ (one : BusSlot B). one.kind) (sym is))

pub kinds_count : {B : Type 0} (told : B → BusTold) (lent : List (BusSlot B)) → length (kinds_of (slots_of told lent)) ≡ length lent
kinds_count {B = B} told lent =
    length-map (slots_of told lent) (λ (one : Slot). one.kind) ∙ length-map lent (λ (one : BusSlot B). record { kind = one.kind; told = told one.bus })
