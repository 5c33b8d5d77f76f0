-- The bytes of a patch come to one thing.
use Rattle.std.proofs.Common.{◌≡◌, ℕ, zero, suc, Bool, true, false, List, [], ◌∷◌, Ok, Err, inl, inr, refl, sym, ap, subst, ◌∙◌, arith}
use Rattle.patch_form.specs.Demands.{Demand, IsMet}
use Rattle.patch_form.specs.Mappings.{patch_demands}
use Rattle.patch_form.specs.Unmet.{AllMet, Each, IsFirstUnmet, SomeOne, is_before, rank}
use Rattle.patch_form.specs.declared.fault.FaultKind.{FaultKind}
use Rattle.patch_form.specs.declared.fault.FaultKind.TheVariants.{UnknownCommand, UnknownKey, BadValue, BadPattern}
use Rattle.patch_model.specs.Answers.{IsPatch}
use Rattle.patch_model.specs.Orders.{patch_orders}
use Rattle.patch_model.specs.Readings.{Reading, no_block, no_commands, commanded, IsMisformed, IsReadAs}
use Rattle.patch_model.specs.declared.fault.CommandFault.{CommandFault}
use Rattle.patch_model.specs.declared.fault.CommandFault.TheVariants as command
use Rattle.std.proofs.lemmas.Bool.Decides.{nat_tests}
use Rattle.std.specs.Prelude.{nat_lt, ◌&&◌, ◌||◌, ◌==◌}
use Rattle.yaml_block.specs.Answers.{IsBlock, IsFound}
use Rattle.yaml_block.specs.Meanings.{entries_in, file_tree}
use Rattle.yaml_block.specs.Trees.{Tree}
use Rattle.yaml_block.specs.declared.fault.BlockFault.{BlockFault}
use Rattle.yaml_block.proofs.OneAnswer.{one_found}

-- ---- the first demand that isn't met is one

abbrev IsUnmetAt : ℕ → FaultKind → Demand → Type 0
IsUnmetAt line kind demand = (demand.line ≡ line) × (demand.kind ≡ kind) × (¬ (IsMet demand.wanted))

not_before : (demands : List Demand) (line other : ℕ) (kind another : FaultKind) → SomeOne (IsUnmetAt line kind) demands → Each (λ demand. ¬ (IsMet demand.wanted) → is_before demand.line demand.kind other another ≡ false) demands → is_before line kind other another ≡ false
not_before [] line other kind another some each = absurd some
not_before (demand ∷ demands) line other kind another some each =
    elim some [
      | inl here ↦
          subst (λ (l : ℕ). is_before l kind other another ≡ false) here.0
          (subst (λ (k : FaultKind). is_before demand.line k other another ≡ false) here.1 (each.0 here.2))
      | inr later ↦ not_before demands line other kind another later each.1
    ]

neither : (a b : Bool) → (a || b) ≡ false → (a ≡ false) × (b ≡ false)
neither true b is = let bad : true ≡ false = is in absurd (cc bad)
neither false b is = (refl, is)

not_second : (a b : Bool) → a ≡ true → (a && b) ≡ false → b ≡ false
not_second true b holds is = is
not_second false b holds is = let bad : false ≡ true = holds in absurd (cc bad)

same_number : (one other : ℕ) → nat_lt one other ≡ false → nat_lt other one ≡ false → one ≡ other
same_number one other first second = grind (arith, nat_tests, first, second)

is_itself : (n : ℕ) → (n == n) ≡ true
is_itself n = grind (arith, nat_tests)

abbrev kind_at : ℕ → FaultKind
kind_at zero = UnknownCommand
kind_at (suc zero) = UnknownKey
kind_at (suc (suc zero)) = BadValue
kind_at (suc (suc (suc n))) = BadPattern

kind_again : (kind : FaultKind) → kind ≡ kind_at (rank kind)
kind_again UnknownCommand = refl
kind_again UnknownKey = refl
kind_again BadValue = refl
kind_again BadPattern = refl

lower_rank : (line other : ℕ) (kind another : FaultKind) → line ≡ other → is_before line kind other another ≡ false → nat_lt (rank kind) (rank another) ≡ false
lower_rank line other kind another same before =
    let equal : (line == other) ≡ true = subst (λ (n : ℕ). (line == n) ≡ true) same (is_itself line) in
    not_second (line == other) (nat_lt (rank kind) (rank another)) equal (neither (nat_lt line other) ((line == other) && nat_lt (rank kind) (rank another)) before).1

same_place : (line other : ℕ) (kind another : FaultKind) → is_before line kind other another ≡ false → is_before other another line kind ≡ false → (line ≡ other) × (kind ≡ another)
same_place line other kind another first second =
    let same : line ≡ other = same_number line other (neither (nat_lt line other) ((line == other) && nat_lt (rank kind) (rank another)) first).0 (neither (nat_lt other line) ((other == line) && nat_lt (rank another) (rank kind)) second).0 in
    let ranks : rank kind ≡ rank another = same_number (rank kind) (rank another) (lower_rank line other kind another same first) (lower_rank other line another kind (sym same) second) in
    (same, kind_again kind ∙ (ap kind_at ranks ∙ sym (kind_again another)))

one_unmet : (demands : List Demand) (line other : ℕ) (kind another : FaultKind) → IsFirstUnmet demands line kind → IsFirstUnmet demands other another → (line ≡ other) × (kind ≡ another)
one_unmet demands line other kind another is also =
    same_place line other kind another (not_before demands line other kind another is.unmet also.first) (not_before demands other line another kind also.unmet is.first)

not_met : {P : Type 0} (demands : List Demand) (line : ℕ) (kind : FaultKind) → SomeOne (IsUnmetAt line kind) demands → AllMet demands → P
not_met [] line kind some met = absurd some
not_met (demand ∷ demands) line kind some met = elim some [ inl here ↦ absurd (here.2 met.0) | inr later ↦ not_met demands line kind later met.1 ]

-- ---- faults

abbrev line_of : CommandFault → ℕ
line_of (command.UnknownCommand line) = line
line_of (command.UnknownKey line) = line
line_of (command.BadValue line) = line
line_of (command.BadPattern line) = line
line_of command.Memory = 0

abbrev kind_of : CommandFault → FaultKind
kind_of (command.UnknownCommand line) = UnknownCommand
kind_of (command.UnknownKey line) = UnknownKey
kind_of (command.BadValue line) = BadValue
kind_of (command.BadPattern line) = BadPattern
kind_of command.Memory = BadPattern

abbrev fault_at : ℕ → FaultKind → CommandFault
fault_at line UnknownCommand = command.UnknownCommand line
fault_at line UnknownKey = command.UnknownKey line
fault_at line BadValue = command.BadValue line
fault_at line BadPattern = command.BadPattern line

unmet_by : (tree : Tree) (fault : CommandFault) → IsMisformed tree fault → IsFirstUnmet (patch_demands tree) (line_of fault) (kind_of fault)
unmet_by tree (command.UnknownCommand line) is = is
unmet_by tree (command.UnknownKey line) is = is
unmet_by tree (command.BadValue line) is = is
unmet_by tree (command.BadPattern line) is = is
unmet_by tree command.Memory is = absurd is

fault_again : (tree : Tree) (fault : CommandFault) → IsMisformed tree fault → fault ≡ fault_at (line_of fault) (kind_of fault)
fault_again tree (command.UnknownCommand line) is = refl
fault_again tree (command.UnknownKey line) is = refl
fault_again tree (command.BadValue line) is = refl
fault_again tree (command.BadPattern line) is = refl
fault_again tree command.Memory is = absurd is

one_misformed : (tree : Tree) (one other : CommandFault) → IsMisformed tree one → IsMisformed tree other → one ≡ other
one_misformed tree one other is also =
    let same = one_unmet (patch_demands tree) (line_of one) (line_of other) (kind_of one) (kind_of other) (unmet_by tree one is) (unmet_by tree other also) in
    fault_again tree one is ∙ (ap (λ (l : ℕ). fault_at l (kind_of one)) same.0 ∙ (ap (fault_at (line_of other)) same.1 ∙ sym (fault_again tree other also)))

misformed_met : {P : Type 0} (tree : Tree) (fault : CommandFault) → IsMisformed tree fault → AllMet (patch_demands tree) → P
misformed_met tree fault is met = not_met (patch_demands tree) (line_of fault) (kind_of fault) (unmet_by tree fault is).unmet met

-- ---- readings

same_tree : (bytes : List ℕ) (one other : Tree) → IsFound bytes (Ok one) → IsFound bytes (Ok other) → one ≡ other
same_tree bytes one other is also = let same : Ok one ≡ Ok other = one_found bytes (Ok one) (Ok other) is also in cc same

not_spelled : {P : Type 0} (bytes : List ℕ) (fault : BlockFault) (tree : Tree) → IsFound bytes (Err fault) → IsFound bytes (Ok tree) → P
not_spelled bytes fault tree is also = let same : Err fault ≡ Ok tree = one_found bytes (Err fault) (Ok tree) is also in absurd (cc same)

same_fault : (bytes : List ℕ) (one other : BlockFault) → IsFound bytes (Err one) → IsFound bytes (Err other) → one ≡ other
same_fault bytes one other is also = let same : Err one ≡ Err other = one_found bytes (Err one) (Err other) is also in cc same

pub one_read : (bytes : List ℕ) (one other : Reading) → IsReadAs bytes one → IsReadAs bytes other → one ≡ other
one_read bytes (no_block fault) (no_block other) is also = ap no_block (same_fault bytes fault other is also)
one_read bytes (no_block fault) (no_commands other) is also = not_spelled bytes fault also.0 is also.1
one_read bytes (no_block fault) (commanded orders) is also = not_spelled bytes fault also.0 is also.1
one_read bytes (no_commands fault) (no_block other) is also = not_spelled bytes other is.0 also is.1
one_read bytes (no_commands fault) (no_commands other) is also =
    ap no_commands (one_misformed is.0 fault other is.2 (subst (λ (tree : Tree). IsMisformed tree other) (same_tree bytes also.0 is.0 also.1 is.1) also.2))
one_read bytes (no_commands fault) (commanded orders) is also =
    misformed_met is.0 fault is.2 (subst (λ (tree : Tree). AllMet (patch_demands tree)) (same_tree bytes also.0 is.0 also.1 is.1) also.2.met)
one_read bytes (commanded orders) (no_block other) is also = not_spelled bytes other is.0 also is.1
one_read bytes (commanded orders) (no_commands fault) is also =
    misformed_met also.0 fault also.2 (subst (λ (tree : Tree). AllMet (patch_demands tree)) (same_tree bytes is.0 also.0 is.1 also.1) is.2.met)
one_read bytes (commanded orders) (commanded others) is also =
    ap commanded (is.2.are ∙ (ap patch_orders (same_tree bytes is.0 also.0 is.1 also.1) ∙ sym also.2.are))

-- ---- what is spelled is a mapping, or nothing

file_is : (entries : List (ℕ × List ℕ × Tree)) → IsPatch (file_tree entries)
file_is [] = tt
file_is (entry ∷ entries) = tt

pub is_patch : (bytes : List ℕ) (tree : Tree) → IsBlock bytes tree → IsPatch tree
is_patch bytes tree block = subst IsPatch (sym block.fits.blocks.meant) (file_is (entries_in block.fits.blocks.forest))
