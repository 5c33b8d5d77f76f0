-- When two elements say the same: rows that are the same one by one are equal, and so are the trees that they spell.
use Rattle.std.proofs.Common.{◌≡◌, ℕ, Bool, true, false, ◌&&◌, ◌==◌, List, [], ◌∷◌, ◌++◌, map, filter, Option, Some, None, refl, sym, ap, ap₂, ◌∙◌, subst, cond}
use Rattle.std.specs.Bool.{Decides}
use Rattle.std.specs.Cmp.{unsigned_Decides}
use Rattle.std.specs.Cmp.Lexicographic.{bytes_decides, pointwise}
use Rattle.std.specs.Str.{bytes_eq}
use Rattle.std.proofs.lemmas.List.Elements.{filter-append}
use Rattle.pac_base.specs.declared.path.Step.{Step as Written}
use Rattle.patch_sem.specs.Arrays.{is_told}
use Rattle.patch_sem.specs.Likeness.{same_index, same_number, same_row, same_rows, same_said, same_value, same_written}
use Rattle.patch_sem.specs.Selecting.{Rows}
use Rattle.patch_arrays.specs.Siblings.{is_alike_key, same_told, told}
use Rattle.svd_model.proofs.Steps.{same_step-tells}
use Rattle.svd_model.specs.Keys.{Key, device_name, derived_from, dim_count, dim_increment, dim_index, base_address, at_offset, bit_width, alternate_of, alternate_group, register_size, register_access, reset_value, reset_mask, write_kind, read_action, value_usage, enumerated_value}
use Rattle.svd_model.specs.Steps.{Step, same_step}
use Rattle.svd_rows.proofs.Reading.{rows-equal}
use Rattle.svd_rows.specs.Forest.{Forest, Tree, leaf, node}
use Rattle.svd_rows.specs.Rows.{Row, Said, element, states, forest_rows, own, rows, under}
use Rattle.svd_values.specs.declared.index.DimIndex.{DimIndex}
use Rattle.svd_values.specs.declared.index.DimIndex.TheVariants.{Numbers, Letters, Words}
use Rattle.svd_values.specs.declared.schema_word.Access.{Access}
use Rattle.svd_values.specs.declared.schema_word.WriteKind.{WriteKind}
use Rattle.svd_values.specs.declared.schema_word.ReadAction.{ReadAction}
use Rattle.svd_values.specs.declared.schema_word.Usage.{Usage}
use Rattle.svd_values.specs.declared.schema_word.Access.TheVariants as access
use Rattle.svd_values.specs.declared.schema_word.WriteKind.TheVariants as kind
use Rattle.svd_values.specs.declared.schema_word.ReadAction.TheVariants as action
use Rattle.svd_values.specs.declared.schema_word.Usage.TheVariants as usage
use Rattle.svd_values.specs.SchemaWords.{access_text, write_kind_text, read_action_text, usage_text}

-- a test that is true of equal ones, and of them alone
pub decides_by : {A : Type 0} (same : A → A → Bool) → ((one other : A) → same one other ≡ true → one ≡ other) → ((one : A) → same one one ≡ true) → (one other : A) → Decides (same one other) (one ≡ other)
decides_by same alone itself one other = (alone one other, λ e. subst (λ x. same one x ≡ true) e (itself one))

pub both : (a b : Bool) → (a && b) ≡ true → (a ≡ true) × (b ≡ true)
both true b e = (refl, e)
both false b e = cc

pub text_alone : (one other : List ℕ) → bytes_eq one other ≡ true → one ≡ other
text_alone one other e = (bytes_decides one other).0 e

pub text_itself : (one : List ℕ) → bytes_eq one one ≡ true
text_itself one = (bytes_decides one one).1 refl

pub number_alone : (one other : ℕ) → (one == other) ≡ true → one ≡ other
number_alone one other e = (unsigned_Decides one other).0 e

pub number_itself : (one : ℕ) → (one == one) ≡ true
number_itself one = (unsigned_Decides one one).1 refl

some_number_alone : (one other : Option ℕ) → same_number one other ≡ true → one ≡ other
some_number_alone None None e = refl
some_number_alone None (Some m) e = cc
some_number_alone (Some n) None e = cc
some_number_alone (Some n) (Some m) e = ap Some (number_alone n m e)

some_number_itself : (one : Option ℕ) → same_number one one ≡ true
some_number_itself None = refl
some_number_itself (Some n) = number_itself n

written_alone : (one other : Written) → same_written one other ≡ true → one ≡ other
written_alone one other e =
    let parts = both (bytes_eq one.name other.name) (same_number one.index other.index) e in
    λ i. record { name = text_alone one.name other.name parts.0 i; index = some_number_alone one.index other.index parts.1 i }

written_itself : (one : Written) → same_written one one ≡ true
written_itself one = ap₂ (λ (a b : Bool). a && b) (text_itself one.name) (some_number_itself one.index)

pub list_alone : {A : Type 0} (same : A → A → Bool) → ((one other : A) → same one other ≡ true → one ≡ other) → (one other : List A) → pointwise same one other ≡ true → one ≡ other
list_alone same alone [] [] e = refl
list_alone same alone [] (y ∷ ys) e = cc
list_alone same alone (x ∷ xs) [] e = cc
list_alone same alone (x ∷ xs) (y ∷ ys) e =
    let parts = both (same x y) (pointwise same xs ys) e in
    ap₂ (λ z zs. z ∷ zs) (alone x y parts.0) (list_alone same alone xs ys parts.1)

pub list_itself : {A : Type 0} (same : A → A → Bool) → ((one : A) → same one one ≡ true) → (one : List A) → pointwise same one one ≡ true
list_itself same itself [] = refl
list_itself same itself (x ∷ xs) = ap₂ (λ (a b : Bool). a && b) (itself x) (list_itself same itself xs)

pub index_alone : (one other : DimIndex) → same_index one other ≡ true → one ≡ other
index_alone (Numbers first last) (Numbers begin end) e =
    let parts = both (first == begin) (last == end) e in
    ap₂ Numbers (number_alone first begin parts.0) (number_alone last end parts.1)
index_alone (Letters first last) (Letters begin end) e =
    let parts = both (first == begin) (last == end) e in
    ap₂ Letters (number_alone first begin parts.0) (number_alone last end parts.1)
index_alone (Words words) (Words others) e = ap Words (list_alone bytes_eq text_alone words others e)
index_alone _ _ e = cc

pub index_itself : (one : DimIndex) → same_index one one ≡ true
index_itself (Numbers first last) = ap₂ (λ (a b : Bool). a && b) (number_itself first) (number_itself last)
index_itself (Letters first last) = ap₂ (λ (a b : Bool). a && b) (number_itself first) (number_itself last)
index_itself (Words words) = list_itself bytes_eq text_itself words

access_alone : (one other : Access) → bytes_eq (access_text one) (access_text other) ≡ true → one ≡ other
access_alone access.ReadOnly access.ReadOnly e = refl
access_alone access.WriteOnly access.WriteOnly e = refl
access_alone access.ReadWrite access.ReadWrite e = refl
access_alone access.WriteOnce access.WriteOnce e = refl
access_alone access.ReadWriteOnce access.ReadWriteOnce e = refl
access_alone _ _ e = cc

kind_alone : (one other : WriteKind) → bytes_eq (write_kind_text one) (write_kind_text other) ≡ true → one ≡ other
kind_alone kind.OneToClear kind.OneToClear e = refl
kind_alone kind.OneToSet kind.OneToSet e = refl
kind_alone kind.OneToToggle kind.OneToToggle e = refl
kind_alone kind.ZeroToClear kind.ZeroToClear e = refl
kind_alone kind.ZeroToSet kind.ZeroToSet e = refl
kind_alone kind.ZeroToToggle kind.ZeroToToggle e = refl
kind_alone kind.Clear kind.Clear e = refl
kind_alone kind.Set kind.Set e = refl
kind_alone kind.Modify kind.Modify e = refl
kind_alone _ _ e = cc

action_alone : (one other : ReadAction) → bytes_eq (read_action_text one) (read_action_text other) ≡ true → one ≡ other
action_alone action.Clear action.Clear e = refl
action_alone action.Set action.Set e = refl
action_alone action.Modify action.Modify e = refl
action_alone action.ModifyExternal action.ModifyExternal e = refl
action_alone _ _ e = cc

usage_alone : (one other : Usage) → bytes_eq (usage_text one) (usage_text other) ≡ true → one ≡ other
usage_alone usage.Read usage.Read e = refl
usage_alone usage.Write usage.Write e = refl
usage_alone usage.ReadWrite usage.ReadWrite e = refl
usage_alone _ _ e = cc

value_alone : (one other : Key) → same_value one other ≡ true → one ≡ other
value_alone (device_name n) (device_name m) e = ap device_name (text_alone n m e)
value_alone (derived_from p) (derived_from q) e = ap derived_from (list_alone same_written written_alone p q e)
value_alone (dim_count n) (dim_count m) e = ap dim_count (number_alone n m e)
value_alone (dim_increment n) (dim_increment m) e = ap dim_increment (number_alone n m e)
value_alone (dim_index n) (dim_index m) e = ap dim_index (index_alone n m e)
value_alone (base_address n) (base_address m) e = ap base_address (number_alone n m e)
value_alone (at_offset n) (at_offset m) e = ap at_offset (number_alone n m e)
value_alone (bit_width n) (bit_width m) e = ap bit_width (number_alone n m e)
value_alone (alternate_of n) (alternate_of m) e = ap alternate_of (text_alone n m e)
value_alone (alternate_group n) (alternate_group m) e = ap alternate_group (text_alone n m e)
value_alone (register_size n) (register_size m) e = ap register_size (number_alone n m e)
value_alone (register_access n) (register_access m) e = ap register_access (access_alone n m e)
value_alone (reset_value n) (reset_value m) e = ap reset_value (number_alone n m e)
value_alone (reset_mask n) (reset_mask m) e = ap reset_mask (number_alone n m e)
value_alone (write_kind n) (write_kind m) e = ap write_kind (kind_alone n m e)
value_alone (read_action n) (read_action m) e = ap read_action (action_alone n m e)
value_alone (value_usage n) (value_usage m) e = ap value_usage (usage_alone n m e)
value_alone (enumerated_value n) (enumerated_value m) e = ap enumerated_value (number_alone n m e)
value_alone _ _ e = cc

value_itself : (one : Key) → same_value one one ≡ true
value_itself (device_name n) = text_itself n
value_itself (derived_from p) = list_itself same_written written_itself p
value_itself (dim_count n) = number_itself n
value_itself (dim_increment n) = number_itself n
value_itself (dim_index n) = index_itself n
value_itself (base_address n) = number_itself n
value_itself (at_offset n) = number_itself n
value_itself (bit_width n) = number_itself n
value_itself (alternate_of n) = text_itself n
value_itself (alternate_group n) = text_itself n
value_itself (register_size n) = number_itself n
value_itself (register_access n) = text_itself (access_text n)
value_itself (reset_value n) = number_itself n
value_itself (reset_mask n) = number_itself n
value_itself (write_kind n) = text_itself (write_kind_text n)
value_itself (read_action n) = text_itself (read_action_text n)
value_itself (value_usage n) = text_itself (usage_text n)
value_itself (enumerated_value n) = number_itself n

said_alone : (one other : Said Key) → same_said one other ≡ true → one ≡ other
said_alone element element e = refl
said_alone element (states k) e = cc
said_alone (states k) element e = cc
said_alone (states k) (states l) e = ap states (value_alone k l e)

said_itself : (one : Said Key) → same_said one one ≡ true
said_itself element = refl
said_itself (states k) = value_itself k

row_alone : (one other : Row Step Key) → same_row one other ≡ true → one ≡ other
row_alone one other e =
    let parts = both (pointwise same_step one.path other.path) (same_said one.said other.said) e in
    λ i. record { path = list_alone same_step same_step-tells.alone one.path other.path parts.0 i; said = said_alone one.said other.said parts.1 i }

row_itself : (one : Row Step Key) → same_row one one ≡ true
row_itself one = ap₂ (λ (a b : Bool). a && b) (list_itself same_step same_step-tells.itself one.path) (said_itself one.said)

pub rows_alone : (one other : Rows) → same_rows one other ≡ true → one ≡ other
unfolding same_rows
rows_alone one other e = list_alone same_row row_alone one other e

pub rows_itself : (one : Rows) → same_rows one one ≡ true
unfolding same_rows
rows_itself one = list_itself same_row row_itself one

-- ---- an element without its offset

told-under : (s : Step) (all : Rows) → filter is_told (map (under s) all) ≡ map (under s) all
unfolding under
told-under s [] = refl
told-under s (row ∷ all) = ap (λ (r : Rows). under s row ∷ r) (told-under s all)

told-below : (f : Forest Step Key) → filter is_told (forest_rows f) ≡ forest_rows f
unfolding forest_rows
told-below leaf = refl
told-below (node s ks c n) =
    filter-append is_told (map (under s) (own ks ++ forest_rows c)) (forest_rows n)
    ∙ ap₂ (λ (a b : Rows). a ++ b) (told-under s (own ks ++ forest_rows c)) (told-below n)

abbrev stating : Key → Row Step Key
stating k = record { path = []; said = states k }

told-keys : (keys : List Key) → filter is_told (map stating keys) ≡ map stating (filter is_alike_key keys)
told-keys [] = refl
told-keys (k ∷ keys) = cases (is_alike_key k) (told-keys keys)
  where
    cases : (b : Bool) → filter is_told (map stating keys) ≡ map stating (filter is_alike_key keys) → cond b (stating k ∷ filter is_told (map stating keys)) (filter is_told (map stating keys)) ≡ map stating (cond b (k ∷ filter is_alike_key keys) (filter is_alike_key keys))
    cases true more = ap (λ (r : Rows). stating k ∷ r) more
    cases false more = more

pub told-rows : (tree : Tree Step Key) → filter is_told (rows tree) ≡ rows (told tree)
unfolding rows own
told-rows tree =
    ap (λ (r : Rows). record { path = []; said = element } ∷ r)
    (filter-append is_told (map stating tree.keys) (forest_rows tree.below)
    ∙ ap₂ (λ (a b : Rows). a ++ b) (told-keys tree.keys) (told-below tree.below))

-- elements say the same where they are equal but for the offset
pub alike_alone : (one other : Tree Step Key) → same_told one other ≡ true → told one ≡ told other
alike_alone one other e = rows-equal (told one) (told other) (sym (told-rows one) ∙ rows_alone (filter is_told (rows one)) (filter is_told (rows other)) e ∙ told-rows other)

pub alike_itself : (one other : Tree Step Key) → told one ≡ told other → same_told one other ≡ true
alike_itself one other e =
    subst (λ (all : Rows). same_rows (filter is_told (rows one)) all ≡ true) (told-rows one ∙ ap rows e ∙ sym (told-rows other)) (rows_itself (filter is_told (rows one)))

-- what is true of equal ones, and of them alone, is that test
pub alike_by : (answer : Bool) (one other : Tree Step Key) → (answer ≡ true → told one ≡ told other) → (told one ≡ told other → answer ≡ true) → answer ≡ same_told one other
alike_by true one other alone itself = sym (alike_itself one other (alone refl))
alike_by false one other alone itself = cases (same_told one other) refl
  where
    cases : (b : Bool) → same_told one other ≡ b → false ≡ b
    cases true e = itself (alike_alone one other e)
    cases false e = refl
