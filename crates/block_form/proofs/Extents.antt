-- What a block takes in memory.
use Rattle.std.proofs.Common.{◌≡◌, ℕ, zero, suc, ◌+◌, ◌-◌, ◌*◌, ◌%◌, ◌<◌, ◌≤◌, ◌^◌, inl, inr, max, Bool, true, false, cond, ◌||◌, ◌==◌, List, [], ◌∷◌, ◌++◌, map, fold, Option, Some, None, option_map, refl, sym, ap, ◌∙◌, arith, bytes_eq, if◌then◌else◌, nat_lt, nat_le, subst}
use Rattle.std.specs.Int.{next_multiple_of}
use Rattle.std.specs.List.{AllByRecursion}
use Rattle.std.proofs.lemmas.Bool.{false≢true}
use Rattle.std.proofs.lemmas.Bool.Decides.{nat_tests}
use Rattle.std.proofs.lemmas.Slice.Eq.{bytes_eq-Decides}
use Rattle.frag_tree.specs.declared.block.Element.{Element}
use Rattle.frag_tree.specs.declared.block.StructField.{StructField}
use Rattle.frag_sem.specs.CallPlaces.{admits}
use Rattle.frag_sem.specs.Layout.{Extent, Extents, align_of, end_behind}
use Rattle.frag_sem.specs.Modules.{beside, same_element}
use Rattle.block_form.specs.declared.child.Array.{Array}
use Rattle.block_form.specs.declared.child.Child.{Child}
use Rattle.block_form.specs.declared.child.ChildKind.{ChildKind}
use Rattle.block_form.specs.declared.child.ChildKind.TheVariants as kind
use Rattle.block_form.specs.Children.{FitsFrom, IsAlignment, IsSound, array_fits, bytes_held, child_end, child_extent, element_named, element_of, field_of, has_members, place_in}
use Rattle.block_form.specs.Fields.{end_from, fields_from, greatest_align}
use Rattle.block_form.specs.Forms.{align_among, is_named, taken_of}
use Rattle.block_form.specs.Gaps.{gap_field}
use Rattle.block_form.specs.Laws.{AreKnown, BlockFits, EachIsKnown, ExtentFits, ExtentIs, FitIsSound}
use Rattle.block_form.proofs.Names.{Owns, apart, owns}
use Rattle.block_form.proofs.Standing.{extent_held, field_end, gap_end, no_gap}
use Rattle.block_form.proofs.Taking.{AreFields, all_are, are_fields, equal, taken_have}

-- ---- by the layout of the struct

ends : (known : Extents) (end gaps : ℕ) (taken : List Child) → AreKnown known taken → AreFields end taken → fold (end_behind known) end (fields_from end gaps taken) ≡ end_from end taken
unfolding fields_from end_from AreFields
ends known end gaps [] is are = refl
ends known end gaps (child ∷ others) is are = by (nat_lt end child.offset) refl (λ n. ends known (child_end child) n others is.1 are.1)
  where
    here : (start : ℕ) (rest : List StructField) → start ≡ child.offset → fold (end_behind known) start (field_of child ∷ rest) ≡ fold (end_behind known) (child_end child) rest
    here start rest at = ap (λ (n : ℕ). fold (end_behind known) n (field_of child ∷ rest)) at ∙ ap (λ (n : ℕ). fold (end_behind known) n rest) (field_end known child is.0 are.0.aligned)

    by : (b : Bool) → nat_lt end child.offset ≡ b → ((n : ℕ) → fold (end_behind known) (child_end child) (fields_from (child_end child) n others) ≡ end_from (child_end child) others)
        → fold (end_behind known) end ((if b then gap_field gaps (child.offset - end) ∷ [] else []) ++ (field_of child ∷ fields_from (child_end child) (if b then gaps + 1 else gaps) others)) ≡ end_from (child_end child) others
    by true below more =
        here (end_behind known end (gap_field gaps (child.offset - end))) (fields_from (child_end child) (gaps + 1) others) (gap_end known end gaps child.offset are.0.reaches) ∙ more (gaps + 1)
    by false past more = here end (fields_from (child_end child) gaps others) (no_gap end child.offset are.0.reaches past) ∙ more gaps

at_least_one : (known : Extents) (fields : List StructField) → 1 ≤ align_of known fields
unfolding align_of
at_least_one known [] = omega arith
at_least_one known (field ∷ fields) = let more = at_least_one known fields in omega arith

aligns : (known : Extents) (end gaps : ℕ) (taken : List Child) → AreKnown known taken → align_of known (fields_from end gaps taken) ≡ greatest_align taken
unfolding fields_from greatest_align align_of
aligns known end gaps [] is = refl
aligns known end gaps (child ∷ others) is = by (nat_lt end child.offset) (λ n. aligns known (child_end child) n others is.1)
  where
    one : (rest : List StructField) → align_of known (field_of child ∷ rest) ≡ max child.align (align_of known rest)
    one rest = ap (λ extent. max extent.align (align_of known rest)) (extent_held known child is.0)

    by : (b : Bool) → ((n : ℕ) → align_of known (fields_from (child_end child) n others) ≡ greatest_align others)
        → align_of known ((if b then gap_field gaps (child.offset - end) ∷ [] else []) ++ (field_of child ∷ fields_from (child_end child) (if b then gaps + 1 else gaps) others)) ≡ max child.align (greatest_align others)
    by true more =
        let rest = fields_from (child_end child) (gaps + 1) others in
        let here = one rest in let some = at_least_one known rest in let same = more (gaps + 1) in omega arith
    by false more = one (fields_from (child_end child) gaps others) ∙ ap (max child.align) (more gaps)

pub extent_is : ExtentIs
extent_is known head children is fields =
    let taken = taken_have (λ child. beside (element_of child) known ≡ Some (child_extent child)) children is in
    let end = ap (fold (end_behind known) 0) fields ∙ ends known 0 0 (taken_of children) taken (are_fields 0 _) in
    let align = ap (align_of known) fields ∙ aligns known 0 0 (taken_of children) taken in
    λ i. record { size = next_multiple_of (end i) (align i); align = align i }

-- ---- in the address range

by_alignment : (P : ℕ → Type 0) (n : ℕ) → IsAlignment n → P 1 → P 2 → P 4 → P 8 → P n
by_alignment P n (inl e) a b c d = subst P (sym e) a
by_alignment P n (inr (inl e)) a b c d = subst P (sym e) b
by_alignment P n (inr (inr (inl e))) a b c d = subst P (sym e) c
by_alignment P n (inr (inr (inr e))) a b c d = subst P (sym e) d

pub some_alignment : (n : ℕ) → IsAlignment n → 1 ≤ n
some_alignment n is = by_alignment (λ n. 1 ≤ n) n is (omega arith) (omega arith) (omega arith) (omega arith)

divides_rest : (start offset a : ℕ) → IsAlignment a → (start + offset) % a ≡ 0 → offset % a ≡ 0 → start % a ≡ 0
divides_rest start offset a is =
    by_alignment (λ a. (start + offset) % a ≡ 0 → offset % a ≡ 0 → start % a ≡ 0) a is (λ p q. omega arith) (λ p q. omega arith) (λ p q. omega arith) (λ p q. omega arith)

rounds : (start end a : ℕ) → IsAlignment a → start % a ≡ 0 → start + end ≤ 2 ^ 64 → start + next_multiple_of end a ≤ 2 ^ 64
rounds start end a is =
    by_alignment (λ a. start % a ≡ 0 → start + end ≤ 2 ^ 64 → start + next_multiple_of end a ≤ 2 ^ 64) a is (λ p q. omega arith) (λ p q. omega arith) (λ p q. omega arith) (λ p q. omega arith)

either_alignment : (P : ℕ → Type 0) (m n : ℕ) → P m → P n → P (max m n)
either_alignment P m n p q = by (nat_le m n) refl
  where
    upper : nat_le m n ≡ true → n ≡ max m n
    upper e = let le : m ≤ n = grind (arith, nat_tests) in omega arith

    lower : nat_le m n ≡ false → m ≡ max m n
    lower e = let less : n < m = grind (arith, nat_tests) in omega arith

    by : (b : Bool) → nat_le m n ≡ b → P (max m n)
    by true e = subst P (upper e) q
    by false e = subst P (lower e) p

-- where all members of a child end in the range, so does its field
pub field_within : (start size offset : ℕ) (array : Option Array) → has_members (option_map (λ (array : Array). array.count) array) ≡ true
    → ((index : Option ℕ) → admits (option_map (λ (array : Array). array.count) array) index ≡ true → start + (place_in offset array index + size) ≤ 2 ^ 64)
    → array_fits size array ≡ true → start + (offset + bytes_held size array) ≤ 2 ^ 64
field_within start size offset None some within fits = within None refl
field_within start size offset (Some array) some within fits = by array.count some (λ k less. within (Some k) less) fits
  where
    split : (m : ℕ) → suc m * size ≡ m * size + size
    split m = omega arith

    last_is : (m : ℕ) → nat_lt m (suc m) ≡ true
    last_is m = grind (arith, nat_tests)

    last : (m : ℕ) (b : Bool) → (array.stride == size) ≡ b → (b || (suc m == 1)) ≡ true → start + (offset + m * array.stride + size) ≤ 2 ^ 64 → start + (offset + suc m * size) ≤ 2 ^ 64
    last m true e fits h = let same = equal array.stride size e in let step = ap (λ (n : ℕ). m * n) same in let more = split m in omega arith
    last m false e fits h =
        let one = equal (suc m) 1 fits in let here : m ≡ 0 = omega arith in
        let step = ap (λ (n : ℕ). n * array.stride) here in let bytes = ap (λ (n : ℕ). n * size) here in let more = split m in omega arith

    by : (count : ℕ) → nat_le 1 count ≡ true → ((k : ℕ) → nat_lt k count ≡ true → start + (offset + k * array.stride + size) ≤ 2 ^ 64) → ((array.stride == size) || (count == 1)) ≡ true → start + (offset + count * size) ≤ 2 ^ 64
    by zero some within fits = absurd (false≢true some)
    by (suc m) some within fits = last m (array.stride == size) refl fits (within m (last_is m))

-- what that comes to for the children that become fields
abbrev EndsFrom : ℕ → Child → Type 0
EndsFrom start child = array_fits child.size child.array ≡ true → start + child_end child ≤ 2 ^ 64

end_within : (start end : ℕ) (taken : List Child) → start + end ≤ 2 ^ 64 → AreFields end taken → AllByRecursion (EndsFrom start) taken → start + end_from end taken ≤ 2 ^ 64
unfolding end_from AreFields
end_within start end [] le are all = le
end_within start end (child ∷ others) le are all = end_within start (child_end child) others (all.0 are.0.steps) are.1 all.1

align_is : (taken : List Child) → AllByRecursion (λ child. IsAlignment child.align) taken → IsAlignment (greatest_align taken)
unfolding greatest_align
align_is [] all = inl refl
align_is (child ∷ others) all = either_alignment IsAlignment child.align (greatest_align others) all.0 (align_is others all.1)

align_divides : (start end : ℕ) (taken : List Child) → AreFields end taken → AllByRecursion (FitsFrom start) taken → start % greatest_align taken ≡ 0
unfolding greatest_align AreFields
align_divides start end [] are all = omega arith
align_divides start end (child ∷ others) are all =
    either_alignment (λ n. start % n ≡ 0) child.align (greatest_align others)
    (divides_rest start child.offset child.align all.0.aligned (first child.array all.0.some all.0.stands) are.0.aligned)
    (align_divides start (child_end child) others are.1 all.1)
  where
    some_first : (count : ℕ) → nat_le 1 count ≡ true → nat_lt 0 count ≡ true
    some_first count some = grind (arith, nat_tests)

    first : (array : Option Array) → has_members (option_map (λ (array : Array). array.count) array) ≡ true
        → ((index : Option ℕ) → admits (option_map (λ (array : Array). array.count) array) index ≡ true → (start + place_in child.offset array index) % child.align ≡ 0) → (start + child.offset) % child.align ≡ 0
    first None some stands = stands None refl
    first (Some array) some stands =
        let here : child.offset ≡ child.offset + 0 * array.stride = omega arith in
        ap (λ (n : ℕ). (start + n) % child.align) here ∙ stands (Some 0) (some_first array.count some)

sound_ends : (child : Child) → IsSound child → EndsFrom 0 child
sound_ends child sound fits = field_within 0 child.size child.offset child.array sound.some (λ index h. let here = sound.within index h in omega arith) fits

pub field_ends : (child : Child) → IsSound child → array_fits child.size child.array ≡ true → child_end child ≤ 2 ^ 64
field_ends child sound fits = let here = sound_ends child sound fits in omega arith

pub end_fits : (children : List Child) → AllByRecursion IsSound children → end_from 0 (taken_of children) ≤ 2 ^ 64
end_fits children sound =
    let here = end_within 0 0 (taken_of children) (omega arith) (are_fields 0 _) (taken_have (EndsFrom 0) children (all_are IsSound (EndsFrom 0) children sound_ends sound)) in omega arith

pub align_fits : (children : List Child) → AllByRecursion IsSound children → IsAlignment (align_among children)
align_fits children sound =
    align_is (taken_of children) (taken_have (λ child. IsAlignment child.align) children (all_are IsSound (λ child. IsAlignment child.align) children (λ child sound. sound.aligned) sound))

pub extent_fits : ExtentFits
extent_fits children sound =
    let align = align_fits children sound in
    let end = end_fits children sound in
    let size = rounds 0 (end_from 0 (taken_of children)) (align_among children) align (zero_rest (align_among children) align) (omega arith) in
    (align, omega arith)
  where
    zero_rest : (a : ℕ) → IsAlignment a → 0 % a ≡ 0
    zero_rest a is = by_alignment (λ a. 0 % a ≡ 0) a is refl refl refl refl

pub fit_is_sound : FitIsSound
fit_is_sound start child fits = record {
  aligned = fits.aligned;
  some = fits.some;
  within = λ index h. let here = fits.within index h in omega arith;
}

pub block_fits : BlockFits
block_fits start children le fits =
    let taken = taken_have (FitsFrom start) children fits in
    let align = align_is (taken_of children) (all_are (FitsFrom start) (λ child. IsAlignment child.align) (taken_of children) (λ child fits. fits.aligned) taken) in
    let divides = align_divides start 0 (taken_of children) (are_fields 0 _) taken in
    let ends =
    all_are (FitsFrom start) (EndsFrom start) (taken_of children) (λ child fits. field_within start child.size child.offset child.array fits.some fits.within) taken in
    (divides, rounds start (end_from 0 (taken_of children)) (align_among children) align divides (end_within start 0 (taken_of children) (omega arith) (are_fields 0 _) ends))

-- ---- each child finds what its module takes

pub same_self : (child : Child) → same_element (element_of child) (element_of child) ≡ true
same_self child = by child.kind
  where
    by : (k : ChildKind) → same_element (element_named k child.name) (element_named k child.name) ≡ true
    by kind.Register = (bytes_eq-Decides child.name child.name).1 refl
    by kind.Block = (bytes_eq-Decides child.name child.name).1 refl

pub other_element : (one other : Child) → bytes_eq one.name other.name ≡ false → same_element (element_of one) (element_of other) ≡ false
other_element one other apart = by one.kind other.kind
  where
    by : (k l : ChildKind) → same_element (element_named k one.name) (element_named l other.name) ≡ false
    by kind.Register kind.Register = apart
    by kind.Register kind.Block = refl
    by kind.Block kind.Register = refl
    by kind.Block kind.Block = apart

abbrev entry_of : Child → Element × Extent
entry_of child = (element_of child, child_extent child)

beside_own : (child : Child) (others : List Child) → Owns child others → is_named child.name others ≡ true → beside (element_of child) (map entry_of others) ≡ Some (child_extent child)
beside_own child [] own there = absurd (false≢true there)
beside_own child (other ∷ others) own there = by (bytes_eq child.name other.name) refl own.0 there (beside_own child others own.1)
  where
    by : (b : Bool) → bytes_eq child.name other.name ≡ b → (b ≡ true → other ≡ child) → (b || is_named child.name others) ≡ true
        → (is_named child.name others ≡ true → beside (element_of child) (map entry_of others) ≡ Some (child_extent child))
        → cond (same_element (element_of child) (element_of other)) (Some (child_extent other)) (beside (element_of child) (map entry_of others)) ≡ Some (child_extent child)
    by true e same there more =
        subst (λ one. cond (same_element (element_of child) (element_of one)) (Some (child_extent one)) (beside (element_of child) (map entry_of others)) ≡ Some (child_extent child)) (sym (same refl))
        (ap (λ b. cond b (Some (child_extent child)) (beside (element_of child) (map entry_of others))) (same_self child))
    by false e same there more = ap (λ b. cond b (Some (child_extent other)) (beside (element_of child) (map entry_of others))) (other_element child other e) ∙ more there

there_more : (front : Child) (all others : List Child) → AllByRecursion (λ child. is_named child.name all ≡ true) others → AllByRecursion (λ child. is_named child.name (front ∷ all) ≡ true) others
there_more front all [] there = tt
there_more front all (other ∷ others) there = (or_later (bytes_eq other.name front.name) (is_named other.name all) there.0, there_more front all others there.1)
  where
    or_later : (a b : Bool) → b ≡ true → (a || b) ≡ true
    or_later true b h = refl
    or_later false b h = h

all_there : (children : List Child) → AllByRecursion (λ child. is_named child.name children ≡ true) children
all_there [] = tt
all_there (child ∷ others) = (ap (λ b. b || is_named child.name others) ((bytes_eq-Decides child.name child.name).1 refl), there_more child others others (all_there others))

pub each_is_known : EachIsKnown
each_is_known children distinct = each children (owns children (apart children distinct)) (all_there children)
  where
    each : (some : List Child) → AllByRecursion (λ child. Owns child children) some → AllByRecursion (λ child. is_named child.name children ≡ true) some → AreKnown (map entry_of children) some
    each [] own there = tt
    each (child ∷ others) own there = (beside_own child children own.0 there.0, each others own.1 there.1)
