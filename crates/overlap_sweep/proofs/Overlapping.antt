-- Two members overlap, as the flat rows tell it, where what is kept of them meets; and the first pair of all pairs is the
-- first that is found.
use Rattle.std.proofs.Common.{◌≡◌, ℕ, Bool, true, false, ◌&&◌, ◌||◌, not, cond, List, [], ◌∷◌, ◌++◌, map, drop, Option, Some, None, option_map, refl, sym, ap, ap₂, ◌∙◌, subst, append_assoc, append-nil}
use Rattle.std.specs.List.{flat_map, list_any}
use Rattle.overlap_sweep.specs.declared.field.FieldSpot.{FieldSpot}
use Rattle.overlap_sweep.specs.declared.overlap.Overlap.{Overlap}
use Rattle.overlap_sweep.specs.declared.overlap.Shared.TheVariants.{Fields, Registers}
use Rattle.overlap_sweep.specs.declared.spot.Spot.{Spot}
use Rattle.overlap_sweep.specs.declared.spot.Way.{Way}
use Rattle.overlap_sweep.specs.Fields.{field_pairs, first_of, share_one, shared_fields, told_fields}
use Rattle.overlap_sweep.specs.Overlaps.{field_overlaps, first_register_overlap, first_shared, in_one_peripheral, is_alternate_cluster, is_register_overlap, is_the_name, register_members, register_overlaps, stands_apart, plain_path, told_in, told_member, told_steps}
use Rattle.overlap_sweep.specs.declared.search.Meeting.{Meeting}
use Rattle.overlap_sweep.specs.Sought.{IsMeeting, plain_way, shared_in, told_at, told_it, told_pair}
use Rattle.overlap_sweep.specs.Search.{first_against, first_pair, or_else}
use Rattle.overlap_sweep.specs.Spots.{meets, parts, same_element, same_peripheral, some_alternate, told_way}
use Rattle.overlap_sweep.proofs.First.{first-append, first-pairs}
use Rattle.overlap_sweep.proofs.Flat.{indexes_below, way_from, spot_at}
use Rattle.reg_table.specs.Registers.{Member}
use Rattle.svd_model.specs.Keys.{Key}
use Rattle.svd_model.specs.Stating.{keys_down, properties_of, ways_down}
use Rattle.svd_model.specs.Steps.{Step, same_key, same_step}
use Rattle.svd_rows.specs.LookUps.{inside}
use Rattle.svd_rows.specs.Paths.{exactly, begins}
use Rattle.svd_rows.specs.Rows.{Row}

-- ---- pairs of what is seen of members

module _ {A B : Type 0} (see : A → B) (one : A → A → Bool) (other : B → B → Bool) (same : (x y : A) → one x y ≡ other (see x) (see y)) where
  seen_pair : A × A → B × B
  seen_pair pair = (see pair.0, see pair.1)

  seen-against : (x : A) (before : List A) → option_map see (first_against one x before) ≡ first_against other (see x) (map see before)
  seen-against x [] = refl
  seen-against x (first ∷ before) = cases (one first x) (other (see first) (see x)) (same first x) (seen-against x before)
    where
      cases : (b d : Bool) → b ≡ d → option_map see (first_against one x before) ≡ first_against other (see x) (map see before) → option_map see (cond b (Some first) (first_against one x before)) ≡ cond d (Some (see first)) (first_against other (see x) (map see before))
      cases true true e rest = refl
      cases true false e rest = absurd cc
      cases false true e rest = absurd cc
      cases false false e rest = rest

  seen-else : (x : A) (o : Option A) (p : Option (A × A)) → option_map seen_pair (or_else (option_map (λ first. (first, x)) o) p) ≡ or_else (option_map (λ first. (first, see x)) (option_map see o)) (option_map seen_pair p)
  unfolding seen_pair
  seen-else x None p = refl
  seen-else x (Some first) p = refl

  seen-pairs : (before xs : List A) → option_map seen_pair (first_pair one before xs) ≡ first_pair other (map see before) (map see xs)
  unfolding first_pair
  seen-pairs before [] = refl
  seen-pairs before (x ∷ xs) =
      seen-else x (first_against one x before) (first_pair one (before ++ x ∷ []) xs)
      ∙ ap₂ (λ o p. or_else (option_map (λ first. (first, see x)) o) p) (seen-against x before)
      (seen-pairs (before ++ x ∷ []) xs ∙ ap (λ ys. first_pair other ys (map see xs)) (map-push before x))
    where
      map-push : (ys : List A) (y : A) → map see (ys ++ y ∷ []) ≡ map see ys ++ see y ∷ []
      map-push [] y = refl
      map-push (z ∷ ys) y = ap (λ r. see z ∷ r) (map-push ys y)

-- ---- members that stand apart

any-map : {X Y : Type 0} (f : Y → Bool) (g : X → Y) (xs : List X) → list_any f (map g xs) ≡ list_any (λ x. f (g x)) xs
any-map f g [] = refl
any-map f g (x ∷ xs) = ap (λ b. f (g x) || b) (any-map f g xs)

any-agree : {X : Type 0} (f g : X → Bool) → ((x : X) → f x ≡ g x) → (xs : List X) → list_any f xs ≡ list_any g xs
any-agree f g same [] = refl
any-agree f g same (x ∷ xs) = ap₂ (λ a b. a || b) (same x) (any-agree f g same xs)

never : (b : Bool) → (b && false) ≡ false
never true = refl
never false = refl

always : (b : Bool) → (b && true) ≡ b
always true = refl
always false = refl

module _ (all : List (Row Step Key)) where
  abbrev alternate : List Step → Bool
  alternate path = is_alternate_cluster all path

  further : (front : List Step) (s : Step) (way : List Step) → alternate (front ++ s ∷ way) ≡ alternate ((front ++ s ∷ []) ++ way)
  further front s way = ap alternate (sym (append_assoc front (s ∷ []) way))

  alternates : (front path : List Step) (indexes : List (Option ℕ)) → list_any (λ way. alternate (front ++ way)) (ways_down path) ≡ (alternate front || some_alternate (way_from all front path indexes))
  unfolding ways_down way_from some_alternate
  alternates front [] indexes = ap (λ p. alternate p || false) (append-nil front)
  alternates front (s ∷ path) indexes =
      ap₂ (λ a b. alternate a || b) (append-nil front)
      (any-map (λ way. alternate (front ++ way)) (λ way. s ∷ way) (ways_down path) ∙ any-agree _ _ (further front s) (ways_down path) ∙ alternates (front ++ s ∷ []) path (indexes_below indexes))

  abbrev apart : List Step → List Step → List Step → Bool
  apart front other way = alternate (front ++ way) && not (begins (exactly same_key way) other)

  -- behind a step that leads elsewhere
  elsewhere : (front : List Step) (s : Step) (path other : List Step) (indexes : List (Option ℕ)) → ((way : List Step) → begins (exactly same_key (s ∷ way)) other ≡ false) → list_any (apart front other) (ways_down (s ∷ path)) ≡ some_alternate (way_from all front (s ∷ path) indexes)
  unfolding ways_down way_from some_alternate begins
  elsewhere front s path other indexes off =
      ap (λ b. b || list_any (apart front other) (map (λ way. s ∷ way) (ways_down path))) (never (alternate (front ++ [])))
      ∙ any-map (apart front other) (λ way. s ∷ way) (ways_down path)
      ∙ any-agree _ _ (λ way. ap (λ b. alternate (front ++ s ∷ way) && not b) (off way) ∙ always (alternate (front ++ s ∷ way)) ∙ further front s way) (ways_down path)
      ∙ alternates (front ++ s ∷ []) path (indexes_below indexes)

  parts-from : (front path : List Step) (indexes : List (Option ℕ)) (beside other : List Step) (others : List (Option ℕ)) → list_any (apart front other) (ways_down path) ≡ parts (way_from all front path indexes) (way_from all beside other others)
  unfolding ways_down way_from parts begins same_element same_key
  parts-from front [] indexes beside other others = ap (λ b. b || false) (never (alternate (front ++ [])))
  parts-from front (s ∷ path) indexes beside [] others = elsewhere front s path [] indexes (λ way. refl)
  parts-from front (s ∷ path) indexes beside (t ∷ other) others =
      cases (same_key s t) refl (parts-from (front ++ s ∷ []) path (indexes_below indexes) (beside ++ t ∷ []) other (indexes_below others))
    where
      cases : (b : Bool) → same_key s t ≡ b → list_any (apart (front ++ s ∷ []) other) (ways_down path) ≡ parts (way_from all (front ++ s ∷ []) path (indexes_below indexes)) (way_from all (beside ++ t ∷ []) other (indexes_below others)) → list_any (apart front (t ∷ other)) (ways_down (s ∷ path)) ≡ cond (same_key s t) (parts (way_from all (front ++ s ∷ []) path (indexes_below indexes)) (way_from all (beside ++ t ∷ []) other (indexes_below others))) (some_alternate (way_from all front (s ∷ path) indexes))
      cases true is rest =
          ap (λ b. b || list_any (apart front (t ∷ other)) (map (λ way. s ∷ way) (ways_down path))) (never (alternate (front ++ [])))
          ∙ any-map (apart front (t ∷ other)) (λ way. s ∷ way) (ways_down path)
          ∙ any-agree _ _ (λ way. ap₂ (λ a b. a && not (b && begins (exactly same_key way) other)) (further front s way) is) (ways_down path)
          ∙ rest
          ∙ ap (λ b. cond b (parts (way_from all (front ++ s ∷ []) path (indexes_below indexes)) (way_from all (beside ++ t ∷ []) other (indexes_below others))) (some_alternate (way_from all front (s ∷ path) indexes))) (sym is)
      cases false is rest =
          elsewhere front s path (t ∷ other) indexes (λ way. ap (λ b. b && begins (exactly same_key way) other) is)
          ∙ ap (λ b. cond b (parts (way_from all (front ++ s ∷ []) path (indexes_below indexes)) (way_from all (beside ++ t ∷ []) other (indexes_below others))) (some_alternate (way_from all front (s ∷ path) indexes))) (sym is)

  peripheral-from : (one other : List Step) (indexes others : List (Option ℕ)) → in_one_peripheral one other ≡ same_peripheral (way_from all [] one indexes) (way_from all [] other others)
  unfolding way_from same_peripheral same_element same_key
  peripheral-from [] other indexes others = refl
  peripheral-from (s ∷ one) [] indexes others = refl
  peripheral-from (s ∷ one) (t ∷ other) indexes others = refl

  overlap-meets : (one other : Member) → is_register_overlap all one other ≡ meets (spot_at all one) (spot_at all other)
  unfolding is_register_overlap stands_apart meets
  overlap-meets one other =
      ap₂ (λ a b. a && (share && not (grouped || (named || b)))) (peripheral-from one.0 other.0 (drop 1 one.1) (drop 1 other.1))
      (ap₂ (λ a b. a || b) (parts-from [] one.0 (drop 1 one.1) [] other.0 (drop 1 other.1)) (parts-from [] other.0 (drop 1 other.1) [] one.0 (drop 1 one.1)))
    where
      share : Bool
      share = share_one (spot_at all one).start (spot_at all one).bytes (spot_at all other).start (spot_at all other).bytes

      grouped : Bool
      grouped = (spot_at all one).grouped || (spot_at all other).grouped

      named : Bool
      named = is_the_name (spot_at all one).alternate (spot_at all other).name || is_the_name (spot_at all other).alternate (spot_at all one).name

  told-from : (front path : List Step) (indexes : List (Option ℕ)) → told_way (way_from all front path indexes) ≡ told_steps path indexes
  unfolding way_from told_steps
  told-from front [] indexes = refl
  told-from front (s ∷ path) [] = ap (λ r. record { name = s.name; index = None } ∷ r) (told-from (front ++ s ∷ []) path [])
  told-from front (s ∷ path) (index ∷ indexes) = ap (λ r. record { name = s.name; index = index } ∷ r) (told-from (front ++ s ∷ []) path indexes)

  -- the first overlap of all pairs is the first pair that the search finds
  pub first-overlap : (spots : List Spot) → map (spot_at all) (register_members all) ≡ spots → first_register_overlap all ≡ option_map told_pair (first_pair meets [] spots)
  unfolding first_register_overlap register_overlaps seen_pair
  first-overlap spots is =
      ap (option_map told_members) (first-pairs (is_register_overlap all) [] (register_members all))
      ∙ told (first_pair (is_register_overlap all) [] (register_members all))
      ∙ ap (option_map told_pair) (seen-pairs (spot_at all) (is_register_overlap all) meets overlap-meets [] (register_members all) ∙ ap (first_pair meets []) is)
    where
      told_members : Member × Member → Overlap
      told_members pair = record { first = told_member pair.0; second = told_member pair.1 }

      told : (o : Option (Member × Member)) → option_map told_members o ≡ option_map told_pair (option_map (λ pair. (spot_at all pair.0, spot_at all pair.1)) o)
      told None = refl
      told (Some pair) = sym (λ i. Some (record { first = told-from [] pair.0.0 (drop 1 pair.0.1) i; second = told-from [] pair.1.0 (drop 1 pair.1.1) i }))

-- ---- fields

first-map : {A B : Type 0} (f : A → B) (xs : List A) → first_of (map f xs) ≡ option_map f (first_of xs)
first-map f [] = refl
first-map f (x ∷ xs) = refl

module _ (all : List (Row Step Key)) where
  plain-from : (front path : List Step) (indexes : List (Option ℕ)) → plain_way (way_from all front path indexes) ≡ plain_path path
  unfolding way_from
  plain-from front [] indexes = refl
  plain-from front (s ∷ path) indexes = ap (λ r. record { name = s.name; index = None } ∷ r) (plain-from (front ++ s ∷ []) path (indexes_below indexes))

  fields_at : Member → List (FieldSpot × FieldSpot)
  fields_at member = field_pairs (properties_of (keys_down all member.0)) (inside same_step member.0 all)

  shared-here : (member : Member) → first_of (map (λ pair. told_in (plain_path member.0) (told_fields pair)) (fields_at member)) ≡ option_map (told_in (plain_way (spot_at all member).way)) (spot_at all member).shared
  unfolding shared_fields fields_at
  shared-here member =
      first-map (λ pair. told_in (plain_path member.0) (told_fields pair)) (fields_at member)
      ∙ by (first_of (fields_at member))
      ∙ ap (λ path. option_map (told_in path) (spot_at all member).shared) (sym (plain-from [] member.0 (drop 1 member.1)))
    where
      by : (o : Option (FieldSpot × FieldSpot)) → option_map (λ pair. told_in (plain_path member.0) (told_fields pair)) o ≡ option_map (told_in (plain_path member.0)) (option_map told_fields o)
      by None = refl
      by (Some pair) = refl

  shared-members : (members : List Member) → first_of (flat_map (λ member. map (λ pair. told_in (plain_path member.0) (told_fields pair)) (fields_at member)) members) ≡ shared_in (map (spot_at all) members)
  unfolding shared_in
  shared-members [] = refl
  shared-members (member ∷ members) =
      first-append (map (λ pair. told_in (plain_path member.0) (told_fields pair)) (fields_at member)) (flat_map (λ member. map (λ pair. told_in (plain_path member.0) (told_fields pair)) (fields_at member)) members)
      ∙ ap₂ or_else (shared-here member) (shared-members members)

  pub first-fields : (spots : List Spot) → map (spot_at all) (register_members all) ≡ spots → first_of (field_overlaps all) ≡ shared_in spots
  unfolding field_overlaps fields_at
  first-fields spots is = shared-members (register_members all) ∙ ap shared_in is

  pub first-shared : (spots : List Spot) → map (spot_at all) (register_members all) ≡ spots → first_shared all ≡ or_else (option_map Fields (shared_in spots)) (option_map Registers (option_map told_pair (first_pair meets [] spots)))
  unfolding first_shared
  first-shared spots is = ap₂ (λ fields registers. or_else (option_map Fields fields) (option_map Registers registers)) (first-fields spots is) (first-overlap all spots is)

-- ---- the pair of two places

pub told-some : (spots : List Spot) (meeting : Meeting) (o : Option Meeting) → o ≡ Some meeting → IsMeeting spots (first_pair meets [] spots) o → option_map told_pair (first_pair meets [] spots) ≡ Some (record { first = told_at spots meeting.first; second = told_at spots meeting.second })
unfolding IsMeeting
told-some spots meeting o is found =
    let at = subst (IsMeeting spots (first_pair meets [] spots)) is found in
    ap (option_map told_pair) at.4 ∙ sym (λ i. Some (record { first = told_it (at.2 i); second = told_it (at.3 i) }))

pub told-none : (spots : List Spot) (o : Option Meeting) → o ≡ None → IsMeeting spots (first_pair meets [] spots) o → option_map told_pair (first_pair meets [] spots) ≡ None
unfolding IsMeeting
told-none spots o is found = ap (option_map told_pair) (subst (IsMeeting spots (first_pair meets [] spots)) is found)

-- ---- the fields of the next member

pub shared-some : (spot : Spot) (spots : List Spot) (way : List Way) (overlap : Overlap) → way ≡ spot.way → Some overlap ≡ option_map (told_in (plain_way way)) spot.shared → shared_in (spot ∷ spots) ≡ Some overlap
unfolding shared_in
shared-some spot spots way overlap same is =
    ap (λ o. or_else o (shared_in spots)) (ap (λ w. option_map (told_in (plain_way w)) spot.shared) (sym same) ∙ sym is)

pub shared-none : (spot : Spot) (spots : List Spot) (way : List Way) → way ≡ spot.way → None ≡ option_map (told_in (plain_way way)) spot.shared → shared_in (spot ∷ spots) ≡ shared_in spots
unfolding shared_in
shared-none spot spots way same is =
    ap (λ o. or_else o (shared_in spots)) (ap (λ w. option_map (told_in (plain_way w)) spot.shared) (sym same) ∙ sym is)

pub shared-end : shared_in [] ≡ None
unfolding shared_in
shared-end = refl

pub shared-fields : (all : List (Row Step Key)) (spots : List Spot) (overlap : Overlap) → first_shared all ≡ or_else (option_map Fields (shared_in spots)) (option_map Registers (option_map told_pair (first_pair meets [] spots))) → shared_in spots ≡ Some overlap → first_shared all ≡ Some (Fields overlap)
shared-fields all spots overlap all_is is = all_is ∙ ap (λ o. or_else (option_map Fields o) (option_map Registers (option_map told_pair (first_pair meets [] spots)))) is

pub shared-registers : (all : List (Row Step Key)) (spots : List Spot) (o : Option Overlap) → first_shared all ≡ or_else (option_map Fields (shared_in spots)) (option_map Registers (option_map told_pair (first_pair meets [] spots))) → shared_in spots ≡ None → o ≡ option_map told_pair (first_pair meets [] spots) → first_shared all ≡ option_map Registers o
shared-registers all spots o all_is is found =
    all_is ∙ ap (λ o. or_else (option_map Fields o) (option_map Registers (option_map told_pair (first_pair meets [] spots)))) is ∙ ap (option_map Registers) (sym found)
