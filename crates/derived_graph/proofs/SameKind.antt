-- A source is of the kind of what is derived from it.
use Rattle.std.specs.Prelude.{⊤}
use Rattle.std.proofs.Common.{◌≡◌, Bool, true, false, cond, List, [], ◌∷◌, ◌++◌, map, Option, None, Some, option_and_then, refl, sym, ap, ◌∙◌, append_assoc}
use Rattle.std.specs.List.{find}
use Rattle.std.specs.Option.{option_or}
use Rattle.std.proofs.lemmas.Bool.{and_parts, true≢false}
use Rattle.derived_rows.specs.Sources.{has_name, is_set_named, followed, of_kind, reached, second_try, source_among, source_names, sought_from, source_of, kind_at, ancestors}
use Rattle.pac_base.specs.declared.path.Step.{Step as Written}
use Rattle.svd_model.specs.Keys.{Key}
use Rattle.svd_model.specs.Properties.{nearest}
use Rattle.svd_model.specs.Stating.{paths_of, is_of}
use Rattle.svd_model.specs.Steps.{Step, Kind, peripheral, cluster, register, field, set, value, same_kind, same_step}
use Rattle.svd_rows.specs.LookUps.{ends_with}
use Rattle.svd_rows.specs.Paths.{fits, exactly}
use Rattle.svd_rows.specs.Rows.{Row}

pub kind-is : (kind other : Kind) → same_kind kind other ≡ true → other ≡ kind
kind-is peripheral peripheral e = refl
kind-is cluster cluster e = refl
kind-is register register e = refl
kind-is field field e = refl
kind-is set set e = refl
kind-is value value e = refl
kind-is _ _ e = absurd cc

ends-kind : (kind : Kind) (path : List Step) → ends_with (is_of kind) path ≡ true → kind_at path ≡ Some kind
unfolding ends_with kind_at
ends-kind kind [] e = absurd (true≢false (sym e))
ends-kind kind (s ∷ []) e = ap Some (kind-is kind s.kind e)
ends-kind kind (s ∷ t ∷ path) e = ends-kind kind (t ∷ path) e

-- what passes tests passes the last one with its last step
ends-last : (tests : List (Step → Bool)) (test : Step → Bool) (path : List Step) → fits (tests ++ test ∷ []) path ≡ true → ends_with test path ≡ true
unfolding fits ends_with
ends-last [] test [] e = absurd (true≢false (sym e))
ends-last [] test (s ∷ []) e = (and_parts (test s) true e).0
ends-last [] test (s ∷ t ∷ path) e = absurd (true≢false (sym (and_parts (test s) false e).1))
ends-last (x ∷ tests) test [] e = absurd (true≢false (sym e))
ends-last (x ∷ []) test (s ∷ []) e = absurd (true≢false (sym (and_parts (x s) false e).1))
ends-last (x ∷ y ∷ tests) test (s ∷ []) e = absurd (true≢false (sym (and_parts (x s) false e).1))
ends-last (x ∷ tests) test (s ∷ t ∷ path) e = ends-last tests test (t ∷ path) (and_parts (x s) (fits (tests ++ test ∷ []) (t ∷ path)) e).1

ends-weaker : (test other : Step → Bool) → ((s : Step) → test s ≡ true → other s ≡ true) → (path : List Step) → ends_with test path ≡ true → ends_with other path ≡ true
unfolding ends_with
ends-weaker test other h [] e = absurd (true≢false (sym e))
ends-weaker test other h (s ∷ []) e = h s e
ends-weaker test other h (s ∷ t ∷ path) e = ends-weaker test other h (t ∷ path) e

-- where there is a path it ends at an element of this kind
abbrev pub IsOf : Kind → Option (List Step) → Type 0
IsOf kind None = ⊤
IsOf kind (Some path) = kind_at path ≡ Some kind

find-of : (kind : Kind) (test : List Step → Bool) → ((path : List Step) → test path ≡ true → kind_at path ≡ Some kind) → (paths : List (List Step)) → IsOf kind (find test paths)
find-of kind test h [] = tt
find-of kind test h (path ∷ paths) = at (find-of kind test h paths) (test path) refl
  where
    at : IsOf kind (find test paths) → (b : Bool) → test path ≡ b → IsOf kind (cond b (Some path) (find test paths))
    at again true e = h path e
    at again false e = again

module _ (all : List (Row Step Key)) where
  reached-of : (kind : Kind) (names : List Written) (path : List Step) → IsOf kind (reached all kind names path)
  unfolding reached of_kind
  reached-of kind [] path = tt
  reached-of kind (name ∷ names) path = at (followed all (name ∷ names) path)
    where
      by : (next : List Step) (b : Bool) → ends_with (is_of kind) next ≡ b → IsOf kind (cond b (Some next) None)
      by next true e = ends-kind kind next e
      by next false e = tt

      at : (o : Option (List Step)) → IsOf kind (option_and_then (of_kind kind) o)
      at None = tt
      at (Some next) = by next (ends_with (is_of kind) next) refl

  nearest-of : (kind : Kind) {W : Type 0} (f : W → Option (List Step)) → ((w : W) → IsOf kind (f w)) → (ws : List W) → IsOf kind (nearest (map f ws))
  nearest-of kind f each [] = tt
  nearest-of kind f each (w ∷ ws) = at (nearest-of kind f each ws) (f w) (each w)
    where
      at : IsOf kind (nearest (map f ws)) → (o : Option (List Step)) → IsOf kind o → IsOf kind (nearest (o ∷ map f ws))
      at others None p = others
      at others (Some path) p = p

  second-of : (kind : Kind) (names : List Written) (around : List (List Step)) → IsOf kind (second_try all kind names around)
  unfolding second_try
  second-of set (name ∷ []) (parent ∷ outer ∷ others) =
      find-of set (fits (exactly same_step outer ++ (λ step. true) ∷ is_set_named name ∷ [])) (λ path e.
      ends-kind set path (ends-weaker (is_set_named name) (is_of set) (λ s p. (and_parts (same_kind set s.kind) (has_name name s) p).0) path
      (ends-last (exactly same_step outer ++ (λ step. true) ∷ []) (is_set_named name) path (ap (λ tests. fits tests path) (append_assoc (exactly same_step outer) ((λ step. true) ∷ []) (is_set_named name ∷ [])) ∙ e)))) (paths_of all)
  second-of set [] around = tt
  second-of set (name ∷ []) [] = tt
  second-of set (name ∷ []) (parent ∷ []) = tt
  second-of set (name ∷ next ∷ names) around = tt
  second-of peripheral names around = tt
  second-of cluster names around = tt
  second-of register names around = tt
  second-of field names around = tt
  second-of value names around = tt

  pub source-kind : (path other : List Step) → source_of all path ≡ Some other → kind_at other ≡ kind_at path
  unfolding source_of source_among
  source-kind path other e = at (kind_at path) (source_names all path) e
    where
      either : (kind : Kind) (o p : Option (List Step)) → IsOf kind o → IsOf kind p → IsOf kind (option_or o p)
      either kind None p h k = k
      either kind (Some x) p h k = h

      told : (kind : Kind) (o : Option (List Step)) → IsOf kind o → o ≡ Some other → kind_at other ≡ Some kind
      told kind None h q = absurd cc
      told kind (Some x) h q = let same : x ≡ other = cc in ap kind_at (sym same) ∙ h

      at : (kind : Option Kind) (names : Option (List Written)) → sought_from all path kind names ≡ Some other → kind_at other ≡ kind
      at None names q = absurd cc
      at (Some kind) None q = absurd cc
      at (Some kind) (Some names) q =
          told kind (source_among all kind names (ancestors path))
          (either kind (nearest (map (reached all kind names) (ancestors path))) (second_try all kind names (ancestors path))
          (nearest-of kind (reached all kind names) (reached-of kind names) (ancestors path))
          (second-of kind names (ancestors path))) q

  -- the device has none
  pub no-source-top : source_of all [] ≡ None
  unfolding source_of kind_at
  no-source-top = refl
