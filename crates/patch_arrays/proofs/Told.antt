-- What elements state beside their places: when they state the same, and so are alike, or are the same element.
use Rattle.std.proofs.Common.{◌≡◌, ℕ, ◌+◌, ◌≤◌, Bool, true, false, ◌&&◌, cond, nat_eq, List, [], ◌∷◌, map, filter, length, Option, Some, None, option_map, option_and_then, refl, sym, ap, ap₂, ◌∙◌, subst, arith}
use Rattle.std.specs.Bool.{Decides, one_answer}
use Rattle.std.specs.Cmp.Lexicographic.{pointwise}
use Rattle.std.specs.List.{AllByRecursion}
use Rattle.std.specs.Option.{option_eq}
use Rattle.std.specs.Str.{bytes_eq}
use Rattle.pac_base.specs.declared.path.Step.{Step as Written}
use Rattle.patch_edits.specs.Visits.{Below}
use Rattle.patch_arrays.proofs.Elements.{elements-siblings}
use Rattle.patch_arrays.proofs.Likeness.{alike_by, both, index_alone, index_itself, list_alone, list_itself, number_alone, number_itself, rows_alone, rows_itself, text_alone, text_itself}
use Rattle.patch_arrays.specs.Arranging.{Element, elements}
use Rattle.patch_arrays.specs.Siblings.{is_alike_key, same_told, told}
use Rattle.patch_arrays.specs.Unplaced.{Unplaced, places_with, same_dim, same_element, same_named, same_path, same_props, same_tree, same_unplaced, same_written, tree_of}
use Rattle.svd_model.specs.declared.device.Dim.{Dim}
use Rattle.svd_model.specs.declared.props.Props.{Props}
use Rattle.svd_model.specs.Keys.{Key, rank, derived_from, dim_count, dim_increment, dim_index, base_address, at_offset, bit_width, alternate_of, alternate_group, register_size, register_access, reset_value, reset_mask, write_kind, read_action, value_usage, enumerated_value}
use Rattle.svd_model.specs.Stating.{stated_size, stated_access, stated_reset, stated_mask, stated_kind, stated_offset, stated_width, stated_dim, stated_increment, stated_usage, stated_number}
use Rattle.svd_model.specs.Steps.{Kind, Step, same_step}
use Rattle.svd_model.specs.Trees.{numbered}
use Rattle.svd_model.proofs.Stated.{place_at, stated_back}
use Rattle.svd_model.proofs.Steps.{same_step-tells}
use Rattle.svd_rows.proofs.Reading.{rows-equal}
use Rattle.svd_rows.specs.Forest.{Tree, leaf, node, siblings}
use Rattle.svd_rows.specs.Ranks.{IsPlaced, stated}
use Rattle.svd_rows.specs.Rows.{rows}
use Rattle.svd_values.specs.declared.index.DimIndex.{DimIndex}
use Rattle.svd_values.specs.declared.schema_word.Access.{Access}
use Rattle.svd_values.specs.declared.schema_word.ReadAction.{ReadAction}
use Rattle.svd_values.specs.declared.schema_word.Usage.{Usage}
use Rattle.svd_values.specs.declared.schema_word.WriteKind.{WriteKind}
use Rattle.svd_values.specs.declared.schema_word.Access.TheVariants as access
use Rattle.svd_values.specs.declared.schema_word.WriteKind.TheVariants as kind
use Rattle.svd_values.specs.declared.schema_word.ReadAction.TheVariants as action
use Rattle.svd_values.specs.declared.schema_word.Usage.TheVariants as usage
use Rattle.svd_values.specs.contracts.schema_word.AccessPartialEq.TheImpl as accesses
use Rattle.svd_values.specs.contracts.schema_word.ReadActionPartialEq.TheImpl as actions
use Rattle.svd_values.specs.contracts.schema_word.UsagePartialEq.TheImpl as usages
use Rattle.svd_values.specs.contracts.schema_word.WriteKindPartialEq.TheImpl as kinds

-- ---- tests of values

option_alone : {A : Type 0} (same : A → A → Bool) → ((one other : A) → same one other ≡ true → one ≡ other) → (one other : Option A) → option_eq same one other ≡ true → one ≡ other
option_alone same alone None None e = refl
option_alone same alone None (Some y) e = cc
option_alone same alone (Some x) None e = cc
option_alone same alone (Some x) (Some y) e = ap Some (alone x y e)

option_itself : {A : Type 0} (same : A → A → Bool) → ((one : A) → same one one ≡ true) → (one : Option A) → option_eq same one one ≡ true
option_itself same itself None = refl
option_itself same itself (Some x) = itself x

access_alone : (one other : Access) → accesses.ghosts.eq one other ≡ true → one ≡ other
access_alone access.ReadOnly access.ReadOnly e = refl
access_alone access.WriteOnly access.WriteOnly e = refl
access_alone access.ReadWrite access.ReadWrite e = refl
access_alone access.WriteOnce access.WriteOnce e = refl
access_alone access.ReadWriteOnce access.ReadWriteOnce e = refl
access_alone _ _ e = cc

access_itself : (one : Access) → accesses.ghosts.eq one one ≡ true
access_itself access.ReadOnly = refl
access_itself access.WriteOnly = refl
access_itself access.ReadWrite = refl
access_itself access.WriteOnce = refl
access_itself access.ReadWriteOnce = refl

kind_alone : (one other : WriteKind) → kinds.ghosts.eq one other ≡ true → one ≡ other
kind_alone kind.OneToClear kind.OneToClear e = refl
kind_alone kind.OneToSet kind.OneToSet e = refl
kind_alone kind.OneToToggle kind.OneToToggle e = refl
kind_alone kind.ZeroToClear kind.ZeroToClear e = refl
kind_alone kind.ZeroToSet kind.ZeroToSet e = refl
kind_alone kind.ZeroToToggle kind.ZeroToToggle e = refl
kind_alone kind.Clear kind.Clear e = refl
kind_alone kind.Set kind.Set e = refl
kind_alone kind.Modify kind.Modify e = refl
kind_alone _ _ e = cc

kind_itself : (one : WriteKind) → kinds.ghosts.eq one one ≡ true
kind_itself kind.OneToClear = refl
kind_itself kind.OneToSet = refl
kind_itself kind.OneToToggle = refl
kind_itself kind.ZeroToClear = refl
kind_itself kind.ZeroToSet = refl
kind_itself kind.ZeroToToggle = refl
kind_itself kind.Clear = refl
kind_itself kind.Set = refl
kind_itself kind.Modify = refl

action_alone : (one other : ReadAction) → actions.ghosts.eq one other ≡ true → one ≡ other
action_alone action.Clear action.Clear e = refl
action_alone action.Set action.Set e = refl
action_alone action.Modify action.Modify e = refl
action_alone action.ModifyExternal action.ModifyExternal e = refl
action_alone _ _ e = cc

action_itself : (one : ReadAction) → actions.ghosts.eq one one ≡ true
action_itself action.Clear = refl
action_itself action.Set = refl
action_itself action.Modify = refl
action_itself action.ModifyExternal = refl

usage_alone : (one other : Usage) → usages.ghosts.eq one other ≡ true → one ≡ other
usage_alone usage.Read usage.Read e = refl
usage_alone usage.Write usage.Write e = refl
usage_alone usage.ReadWrite usage.ReadWrite e = refl
usage_alone _ _ e = cc

usage_itself : (one : Usage) → usages.ghosts.eq one one ≡ true
usage_itself usage.Read = refl
usage_itself usage.Write = refl
usage_itself usage.ReadWrite = refl

numbers_alone : (one other : Option ℕ) → option_eq nat_eq one other ≡ true → one ≡ other
numbers_alone = option_alone nat_eq number_alone

numbers_itself : (one : Option ℕ) → option_eq nat_eq one one ≡ true
numbers_itself = option_itself nat_eq number_itself

written_alone : (one other : Written) → same_written one other ≡ true → one ≡ other
written_alone one other e =
    let parts = both (bytes_eq one.name other.name) (option_eq nat_eq one.index other.index) e in
    λ i. record { name = text_alone one.name other.name parts.0 i; index = numbers_alone one.index other.index parts.1 i }

written_itself : (one : Written) → same_written one one ≡ true
written_itself one = ap₂ (λ (a b : Bool). a && b) (text_itself one.name) (numbers_itself one.index)

dim_alone : (one other : Dim) → same_dim one other ≡ true → one ≡ other
dim_alone one other e =
    let p = both (option_eq nat_eq one.count other.count) _ e in
    let q = both (option_eq nat_eq one.step other.step) _ p.1 in
    let count = numbers_alone one.count other.count p.0 in
    let step = numbers_alone one.step other.step q.0 in
    let index = option_alone _ index_alone one.index other.index q.1 in
    λ i. record { count = count i; step = step i; index = index i }

dim_itself : (one : Dim) → same_dim one one ≡ true
dim_itself one = ap₂ (λ (a b : Bool). a && b) (numbers_itself one.count) (ap₂ (λ (a b : Bool). a && b) (numbers_itself one.step) (option_itself _ index_itself one.index))

props_alone : (one other : Props) → same_props one other ≡ true → one ≡ other
props_alone one other e =
    let p = both (option_eq nat_eq one.size other.size) _ e in
    let q = both (option_eq nat_eq one.reset_value other.reset_value) _ p.1 in
    let r = both (option_eq nat_eq one.reset_mask other.reset_mask) _ q.1 in
    let size = numbers_alone one.size other.size p.0 in
    let value = numbers_alone one.reset_value other.reset_value q.0 in
    let mask = numbers_alone one.reset_mask other.reset_mask r.0 in
    let access = option_alone _ access_alone one.access other.access r.1 in
    λ i. record { size = size i; access = access i; reset_value = value i; reset_mask = mask i }

props_itself : (one : Props) → same_props one one ≡ true
props_itself one = ap₂ (λ (a b : Bool). a && b) (numbers_itself one.size) (ap₂ (λ (a b : Bool). a && b) (numbers_itself one.reset_value) (ap₂ (λ (a b : Bool). a && b) (numbers_itself one.reset_mask) (option_itself _ access_itself one.access)))

path_alone : (one other : Option (List Written)) → same_path one other ≡ true → one ≡ other
path_alone = option_alone (pointwise same_written) (list_alone same_written written_alone)

path_itself : (one : Option (List Written)) → same_path one one ≡ true
path_itself = option_itself (pointwise same_written) (list_itself same_written written_itself)

unplaced_alone : (one other : Unplaced) → same_unplaced one other ≡ true → one ≡ other
unfolding same_unplaced
unplaced_alone one other e =
    let a = both (option_eq nat_eq one.number other.number) _ e in
    let b = both (option_eq usages.ghosts.eq one.usage other.usage) _ a.1 in
    let c = both (option_eq bytes_eq one.alternate other.alternate) _ b.1 in
    let d = both (option_eq bytes_eq one.group other.group) _ c.1 in
    let f = both (option_eq nat_eq one.width other.width) _ d.1 in
    let g = both (option_eq kinds.ghosts.eq one.kind other.kind) _ f.1 in
    let h = both (option_eq actions.ghosts.eq one.action other.action) _ g.1 in
    let k = both (same_dim one.dim other.dim) _ h.1 in
    let l = both (same_props one.props other.props) _ k.1 in
    let number = numbers_alone one.number other.number a.0 in
    let usage = option_alone _ usage_alone one.usage other.usage b.0 in
    let alternate = option_alone _ text_alone one.alternate other.alternate c.0 in
    let group = option_alone _ text_alone one.group other.group d.0 in
    let width = numbers_alone one.width other.width f.0 in
    let kind = option_alone _ kind_alone one.kind other.kind g.0 in
    let action = option_alone _ action_alone one.action other.action h.0 in
    let dim = dim_alone one.dim other.dim k.0 in
    let props = props_alone one.props other.props l.0 in
    let derived = path_alone one.derived other.derived l.1 in
    λ i. record { number = number i; usage = usage i; alternate = alternate i; group = group i; width = width i; kind = kind i; action = action i; dim = dim i; props = props i; derived = derived i }

also : (a b : Bool) → a ≡ true → b ≡ true → (a && b) ≡ true
also a b e k = ap₂ (λ (x y : Bool). x && y) e k

unplaced_itself : (one : Unplaced) → same_unplaced one one ≡ true
unfolding same_unplaced
unplaced_itself one =
    also _ _ (numbers_itself one.number) (also _ _ (option_itself _ usage_itself one.usage) (also _ _ (option_itself _ text_itself one.alternate) (also _ _ (option_itself _ text_itself one.group) (also _ _ (numbers_itself one.width) (also _ _ (option_itself _ kind_itself one.kind) (also _ _ (option_itself _ action_itself one.action) (also _ _ (dim_itself one.dim) (also _ _ (props_itself one.props) (path_itself one.derived)))))))))

-- ---- keys in their places

module _ (first : ℕ) (places : List (Option Key)) where
  no_key : IsPlaced rank (first + 1) places → IsPlaced rank first (None ∷ places)
  unfolding IsPlaced
  no_key rest = rest

  a_key : {A : Type 0} (key : A → Key) (o : Option A) → ((a : A) → rank (key a) ≡ first) → IsPlaced rank (first + 1) places → IsPlaced rank first (option_map key o ∷ places)
  unfolding IsPlaced
  a_key key None ranked rest = rest
  a_key key (Some a) ranked rest = (ranked a, rest)

none_left : (first : ℕ) → IsPlaced rank first []
unfolding IsPlaced
none_left first = tt

pub placed-with : (base offset : Option ℕ) (one : Unplaced) → IsPlaced rank 0 (places_with base offset one)
unfolding places_with rank
placed-with base offset one =
    no_key 0 _ (a_key 1 _ derived_from one.derived (λ _. refl) (a_key 2 _ dim_count one.dim.count (λ _. refl) (a_key 3 _ dim_increment one.dim.step (λ _. refl) (a_key 4 _ dim_index one.dim.index (λ _. refl) (a_key 5 _ base_address base (λ _. refl) (a_key 6 _ at_offset offset (λ _. refl) (a_key 7 _ bit_width one.width (λ _. refl) (a_key 8 _ alternate_of one.alternate (λ _. refl) (a_key 9 _ alternate_group one.group (λ _. refl) (a_key 10 _ register_size one.props.size (λ _. refl) (a_key 11 _ register_access one.props.access (λ _. refl) (a_key 12 _ reset_value one.props.reset_value (λ _. refl) (a_key 13 _ reset_mask one.props.reset_mask (λ _. refl) (a_key 14 _ write_kind one.kind (λ _. refl) (a_key 15 _ read_action one.action (λ _. refl) (a_key 16 _ value_usage one.usage (λ _. refl) (a_key 17 _ enumerated_value one.number (λ _. refl) (none_left 18))))))))))))))))))

-- the keys that are stated from a place on have its rank at least
from_place : (low first : ℕ) (places : List (Option Key)) → low ≤ first → IsPlaced rank first places → AllByRecursion (λ key. low ≤ rank key) (stated places)
unfolding IsPlaced stated
from_place low first [] le h = tt
from_place low first (None ∷ places) le h = from_place low (first + 1) places (omega (arith, le)) h
from_place low first (Some key ∷ places) le h = (omega (arith, le, h.0), from_place low (first + 1) places (omega (arith, le)) h.1)

abbrev first_or : Key → List Key → Key
first_or key [] = key
first_or key (x ∷ xs) = x

abbrev rest_of : List Key → List Key
rest_of [] = []
rest_of (x ∷ xs) = xs

clash : (first : ℕ) (key : Key) (keys others : List Key) → rank key ≡ first → others ≡ key ∷ keys → AllByRecursion (λ other. first + 1 ≤ rank other) others → ⊥
clash first key keys others ranked e all =
    let later = (subst (AllByRecursion (λ other. first + 1 ≤ rank other)) e all).0 in omega (arith, ranked, later)

-- keys that stand in the places of their ranks tell the places
stated-equal : (first : ℕ) (one other : List (Option Key)) → length one ≡ length other → IsPlaced rank first one → IsPlaced rank first other → stated one ≡ stated other → one ≡ other
unfolding IsPlaced stated
stated-equal first [] [] long h k e = refl
stated-equal first [] (o ∷ other) long h k e = absurd (omega (arith, long))
stated-equal first (o ∷ one) [] long h k e = absurd (omega (arith, long))
stated-equal first (None ∷ one) (None ∷ other) long h k e = ap (λ (r : List (Option Key)). None ∷ r) (stated-equal (first + 1) one other (omega (arith, long)) h k e)
stated-equal first (None ∷ one) (Some key ∷ other) long h k e = absurd (clash first key (stated other) (stated one) k.0 e (from_place (first + 1) (first + 1) one (omega arith) h))
stated-equal first (Some key ∷ one) (None ∷ other) long h k e = absurd (clash first key (stated one) (stated other) h.0 (sym e) (from_place (first + 1) (first + 1) other (omega arith) k))
stated-equal first (Some key ∷ one) (Some twin ∷ other) long h k e =
    ap₂ (λ (x : Key) (r : List (Option Key)). Some x ∷ r) (ap (first_or key) e) (stated-equal (first + 1) one other (omega (arith, long)) h.1 k.1 (ap rest_of e))

-- ---- what the places tell

abbrev stated_path : Key → Option (List Written)
stated_path (derived_from path) = Some path
stated_path _ = None

abbrev stated_index : Key → Option DimIndex
stated_index (dim_index index) = Some index
stated_index _ = None

abbrev stated_alternate : Key → Option (List ℕ)
stated_alternate (alternate_of name) = Some name
stated_alternate _ = None

abbrev stated_group : Key → Option (List ℕ)
stated_group (alternate_group name) = Some name
stated_group _ = None

abbrev stated_action : Key → Option ReadAction
stated_action (read_action action) = Some action
stated_action _ = None

back : {A : Type 0} (key : A → Key) (one : Key → Option A) → ((a : A) → one (key a) ≡ Some a) → (o p : Option A) → option_map key o ≡ option_map key p → o ≡ p
back key one is o p e = sym (stated_back key one is o) ∙ ap (option_and_then one) e ∙ stated_back key one is p

module _ (b c o p : Option ℕ) (u v : Unplaced) (e : places_with b o u ≡ places_with c p v) where
  here : (n : ℕ) → place_at (places_with b o u) n ≡ place_at (places_with c p v) n
  here n = ap (λ (places : List (Option Key)). place_at places n) e

  offset-is : o ≡ p
  unfolding places_with
  offset-is = back at_offset stated_offset (λ _. refl) o p (here 6)

  dim-is : u.dim ≡ v.dim
  unfolding places_with
  dim-is =
      let count = back dim_count stated_dim (λ _. refl) u.dim.count v.dim.count (here 2) in
      let step = back dim_increment stated_increment (λ _. refl) u.dim.step v.dim.step (here 3) in
      let index = back dim_index stated_index (λ _. refl) u.dim.index v.dim.index (here 4) in
      λ i. record { count = count i; step = step i; index = index i }

  props-is : u.props ≡ v.props
  unfolding places_with
  props-is =
      let size = back register_size stated_size (λ _. refl) u.props.size v.props.size (here 10) in
      let access = back register_access stated_access (λ _. refl) u.props.access v.props.access (here 11) in
      let value = back reset_value stated_reset (λ _. refl) u.props.reset_value v.props.reset_value (here 12) in
      let mask = back reset_mask stated_mask (λ _. refl) u.props.reset_mask v.props.reset_mask (here 13) in
      λ i. record { size = size i; access = access i; reset_value = value i; reset_mask = mask i }

  unplaced-is : u ≡ v
  unfolding places_with
  unplaced-is =
      let derived = back derived_from stated_path (λ _. refl) u.derived v.derived (here 1) in
      let width = back bit_width stated_width (λ _. refl) u.width v.width (here 7) in
      let alternate = back alternate_of stated_alternate (λ _. refl) u.alternate v.alternate (here 8) in
      let group = back alternate_group stated_group (λ _. refl) u.group v.group (here 9) in
      let kind = back write_kind stated_kind (λ _. refl) u.kind v.kind (here 14) in
      let action = back read_action stated_action (λ _. refl) u.action v.action (here 15) in
      let usage = back value_usage stated_usage (λ _. refl) u.usage v.usage (here 16) in
      let number = back enumerated_value stated_number (λ _. refl) u.number v.number (here 17) in
      λ i. record { number = number i; usage = usage i; alternate = alternate i; group = group i; width = width i; kind = kind i; action = action i; dim = dim-is i; props = props-is i; derived = derived i }

-- ---- elements

-- an element that may have a base
abbrev pub tree_at : Option ℕ → Option ℕ → Unplaced → Below → Tree Step Key
tree_at base offset one below = record { keys = stated (places_with base offset one); below = below }

long-with : (b c o p : Option ℕ) (u v : Unplaced) → length (places_with b o u) ≡ length (places_with c p v)
unfolding places_with
long-with b c o p u v = refl

-- the two are equal where they have the offset, all else that they state, and what stands below
made-decided : (o p : Option ℕ) (u v : Unplaced) (f g : Below) (c : Bool) → Decides c (f ≡ g) → Decides (option_eq nat_eq o p && (same_unplaced u v && c)) (tree_of o u f ≡ tree_of p v g)
made-decided o p u v f g c decided = (alone, itself)
  where
    alone : (option_eq nat_eq o p && (same_unplaced u v && c)) ≡ true → tree_of o u f ≡ tree_of p v g
    alone e =
        let offset = both (option_eq nat_eq o p) (same_unplaced u v && c) e in
        let rest = both (same_unplaced u v) c offset.1 in
        λ i. tree_of (numbers_alone o p offset.0 i) (unplaced_alone u v rest.0 i) (decided.0 rest.1 i)

    places : tree_of o u f ≡ tree_of p v g → places_with None o u ≡ places_with None p v
    places e = stated-equal 0 (places_with None o u) (places_with None p v) (long-with None None o p u v) (placed-with None o u) (placed-with None p v) (ap (λ (tree : Tree Step Key). tree.keys) e)

    itself : tree_of o u f ≡ tree_of p v g → (option_eq nat_eq o p && (same_unplaced u v && c)) ≡ true
    itself e =
        also (option_eq nat_eq o p) (same_unplaced u v && c) (subst (λ (x : Option ℕ). option_eq nat_eq o x ≡ true) (offset-is None None o p u v (places e)) (numbers_itself o))
        (also (same_unplaced u v) c (subst (λ (x : Unplaced). same_unplaced u x ≡ true) (unplaced-is None None o p u v (places e)) (unplaced_itself u)) (decided.1 (ap (λ (tree : Tree Step Key). tree.below) e)))

tree_alone : (one other : Tree Step Key) → same_tree one other ≡ true → one ≡ other
unfolding same_tree
tree_alone one other e = rows-equal one other (rows_alone (rows one) (rows other) e)

tree_itself : (one : Tree Step Key) → same_tree one one ≡ true
unfolding same_tree
tree_itself one = rows_itself (rows one)

pub tree-decided : (one other : Tree Step Key) → Decides (same_tree one other) (one ≡ other)
tree-decided one other = (tree_alone one other, λ e. subst (λ (x : Tree Step Key). same_tree one x ≡ true) e (tree_itself one))

-- ---- without the offset

abbrev kept_if : (Key → Bool) → Option Key → Option Key
kept_if p None = None
kept_if p (Some key) = cond (p key) (Some key) None

filter-stated : (p : Key → Bool) (places : List (Option Key)) → filter p (stated places) ≡ stated (map (kept_if p) places)
unfolding stated
filter-stated p [] = refl
filter-stated p (None ∷ places) = filter-stated p places
filter-stated p (Some key ∷ places) = cases (p key) (filter-stated p places)
  where
    cases : (b : Bool) → filter p (stated places) ≡ stated (map (kept_if p) places) → cond b (key ∷ filter p (stated places)) (filter p (stated places)) ≡ stated (cond b (Some key) None ∷ map (kept_if p) places)
    cases true more = ap (λ (r : List Key). key ∷ r) more
    cases false more = more

stays : {A : Type 0} (key : A → Key) → ((a : A) → is_alike_key (key a) ≡ true) → (o : Option A) → kept_if is_alike_key (option_map key o) ≡ option_map key o
stays key is None = refl
stays key is (Some a) = ap (λ (b : Bool). cond b (Some (key a)) None) (is a)

goes : {A : Type 0} (key : A → Key) → ((a : A) → is_alike_key (key a) ≡ false) → (o : Option A) → kept_if is_alike_key (option_map key o) ≡ None
goes key is None = refl
goes key is (Some a) = ap (λ (b : Bool). cond b (Some (key a)) None) (is a)

places-told : (base offset : Option ℕ) (u : Unplaced) → map (kept_if is_alike_key) (places_with base offset u) ≡ places_with None None u
unfolding places_with
places-told base offset u =
    let a = stays derived_from (λ _. refl) u.derived in
    let b = stays dim_count (λ _. refl) u.dim.count in
    let c = stays dim_increment (λ _. refl) u.dim.step in
    let d = stays dim_index (λ _. refl) u.dim.index in
    let f = goes base_address (λ _. refl) base in
    let g = goes at_offset (λ _. refl) offset in
    let h = stays bit_width (λ _. refl) u.width in
    let k = stays alternate_of (λ _. refl) u.alternate in
    let l = stays alternate_group (λ _. refl) u.group in
    let m = stays register_size (λ _. refl) u.props.size in
    let n = stays register_access (λ _. refl) u.props.access in
    let o = stays reset_value (λ _. refl) u.props.reset_value in
    let p = stays reset_mask (λ _. refl) u.props.reset_mask in
    let q = stays write_kind (λ _. refl) u.kind in
    let r = stays read_action (λ _. refl) u.action in
    let s = stays value_usage (λ _. refl) u.usage in
    let t = stays enumerated_value (λ _. refl) u.number in
    λ i. None ∷ a i ∷ b i ∷ c i ∷ d i ∷ f i ∷ g i ∷ h i ∷ k i ∷ l i ∷ m i ∷ n i ∷ o i ∷ p i ∷ q i ∷ r i ∷ s i ∷ t i ∷ []

told-made : (base offset : Option ℕ) (u : Unplaced) (f : Below) → told (tree_at base offset u f) ≡ tree_of None u f
told-made base offset u f =
    ap (λ (keys : List Key). record { keys = keys; below = f }) (filter-stated is_alike_key (places_with base offset u) ∙ ap stated (places-told base offset u))

-- elements say the same but for their offsets where all else that they state is the same, and what stands below
pub alike-made : (b c o p : Option ℕ) (u v : Unplaced) (f g : Below) (d : Bool) → Decides d (f ≡ g) → (same_unplaced u v && d) ≡ same_told (tree_at b o u f) (tree_at c p v g)
alike-made b c o p u v f g d decided =
    alike_by (same_unplaced u v && d) (tree_at b o u f) (tree_at c p v g)
    (λ e. told-made b o u f ∙ (made-decided None None u v f g d decided).0 e ∙ sym (told-made c p v g))
    (λ e. (made-decided None None u v f g d decided).1 (sym (told-made b o u f) ∙ e ∙ told-made c p v g))

abbrev bare : Below → Tree Step Key
bare f = record { keys = []; below = f }

below-decided : (f g : Below) → Decides (same_tree (bare f) (bare g)) (f ≡ g)
below-decided f g = (λ e. ap (λ (tree : Tree Step Key). tree.below) (tree_alone (bare f) (bare g) e), λ e. (tree-decided (bare f) (bare g)).1 (ap bare e))

-- and are the same where they have one offset too
pub tree-by-told : (o p : Option ℕ) (u v : Unplaced) (f g : Below) → same_tree (tree_of o u f) (tree_of p v g) ≡ (option_eq nat_eq o p && same_told (tree_of o u f) (tree_of p v g))
tree-by-told o p u v f g =
    one_answer (same_tree (tree_of o u f) (tree_of p v g)) (option_eq nat_eq o p && (same_unplaced u v && same_tree (bare f) (bare g))) (tree-decided (tree_of o u f) (tree_of p v g)) (made-decided o p u v f g (same_tree (bare f) (bare g)) (below-decided f g))
    ∙ ap (λ (b : Bool). option_eq nat_eq o p && b) (alike-made None None o p u v f g (same_tree (bare f) (bare g)) (below-decided f g))

pub tree-made : (o p : Option ℕ) (u v : Unplaced) (f g : Below) (d : Bool) → Decides d (f ≡ g) → (option_eq nat_eq o p && (same_unplaced u v && d)) ≡ same_tree (tree_of o u f) (tree_of p v g)
tree-made o p u v f g d decided = one_answer _ _ (made-decided o p u v f g d decided) (tree-decided (tree_of o u f) (tree_of p v g))

-- ---- lists of elements

element_alone : (one other : Element) → same_element one other ≡ true → one ≡ other
element_alone one other e =
    let parts = both (same_step one.0 other.0) (same_tree one.1 other.1) e in
    λ i. (same_step-tells.alone one.0 other.0 parts.0 i, tree_alone one.1 other.1 parts.1 i)

element_itself : (one : Element) → same_element one one ≡ true
element_itself one = also _ _ (same_step-tells.itself one.0) (tree_itself one.1)

pub siblings-decided : (xs ys : List Element) → Decides (pointwise same_element xs ys) (siblings xs ≡ siblings ys)
siblings-decided xs ys = (
  λ e. ap siblings (list_alone same_element element_alone xs ys e),
  λ e. subst (λ (zs : List Element). pointwise same_element xs zs ≡ true) (sym (elements-siblings xs) ∙ ap elements e ∙ elements-siblings ys) (list_itself same_element element_itself xs),
)

abbrev Named : Type 0
Named = List ℕ × Tree Step Key

named_alone : (one other : Named) → same_named one other ≡ true → one ≡ other
named_alone one other e =
    let parts = both (bytes_eq one.0 other.0) (same_tree one.1 other.1) e in
    λ i. (text_alone one.0 other.0 parts.0 i, tree_alone one.1 other.1 parts.1 i)

named_itself : (one : Named) → same_named one one ≡ true
named_itself one = also _ _ (text_itself one.0) (tree_itself one.1)

abbrev named_in : Below → List Named
named_in leaf = []
named_in (node step keys below others) = (step.name, record { keys = keys; below = below }) ∷ named_in others

named-numbered : (kind : Kind) (n : ℕ) (xs : List Named) → named_in (numbered kind n xs) ≡ xs
unfolding numbered
named-numbered kind n [] = refl
named-numbered kind n (x ∷ xs) = ap (λ (r : List Named). x ∷ r) (named-numbered kind (n + 1) xs)

pub numbered-decided : (kind : Kind) (n : ℕ) (xs ys : List Named) → Decides (pointwise same_named xs ys) (numbered kind n xs ≡ numbered kind n ys)
numbered-decided kind n xs ys = (
  λ e. ap (numbered kind n) (list_alone same_named named_alone xs ys e),
  λ e. subst (λ (zs : List Named). pointwise same_named xs zs ≡ true) (sym (named-numbered kind n xs) ∙ ap named_in e ∙ named-numbered kind n ys) (list_itself same_named named_itself xs),
)

-- nothing stands below a value
abbrev nothing : Below
nothing = leaf

pub nothing-decided : Decides true (nothing ≡ nothing)
nothing-decided = (λ e. refl, λ e. refl)
