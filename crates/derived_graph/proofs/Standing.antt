-- The elements of a tree by their numbers: what stands at each, and which children it has of its own.
use Rattle.std.specs.Prelude.{⊤}
use Rattle.std.proofs.Common.{◌≡◌, ◌⊎◌, inl, inr, ℕ, zero, suc, ◌<◌, Bool, true, false, ◌&&◌, nat_eq, List, [], ◌∷◌, ◌++◌, map, length, get_or, Option, None, Some, refl, sym, ap, ap₂, ◌∙◌, subst, arith, map-id}
use Rattle.std.specs.List.{AllByRecursion, IsDistinct}
use Rattle.std.specs.Str.{bytes_eq}
use Rattle.derived_graph.specs.Graphs.{Child, path_at, own_children}
use Rattle.derived_graph.specs.Nesting.{is_child, PlacedIn, IsNested}
use Rattle.derived_graph.proofs.Apart.{all_append, same_name}
use Rattle.derived_graph.proofs.Own.{own-told, own-inside}
use Rattle.derived_rows.specs.Sources.{children_at, kind_at}
use Rattle.derived_rows.proofs.Kept.{kind-last}
use Rattle.svd_model.specs.Facts.{IsElement, IsPlacedOrDerived}
use Rattle.svd_model.specs.Keys.{Key}
use Rattle.svd_model.specs.Stating.{keys_at, paths_of}
use Rattle.svd_model.specs.Steps.{Step, Kind, peripheral, cluster, register, field, set, value, same_key, same_step}
use Rattle.svd_model.specs.Visits.{Visit, visit_at, visits_of, visits}
use Rattle.svd_model.proofs.Steps.{same_step-finer}
use Rattle.svd_model.proofs.Walking.{walk-rows}
use Rattle.svd_rows.specs.Elements.{Every}
use Rattle.svd_rows.specs.Elements.{IsDistinct as AreDistinct}
use Rattle.svd_rows.specs.Forest.{Forest, Tree, leaf, node, steps}
use Rattle.svd_rows.specs.LookUps.{keys_of, children_of}
use Rattle.svd_rows.specs.Rows.{rows}
use Rattle.svd_rows.proofs.Facts.{IsDistinct-finer}
use Rattle.svd_rows.proofs.Lists.{map-map}
use Rattle.svd_rows.proofs.LookUps.{keys_of-rows, children_of-rows}

-- the number is 0, but for sets and values
abbrev pub ZeroAt : Kind → ℕ → Type 0
ZeroAt set n = ⊤
ZeroAt value n = ⊤
ZeroAt _ n = n ≡ 0

abbrev pub IsZero : Step → Type 0
IsZero step = ZeroAt step.kind step.number

-- what holds of the steps of the children of an element of this kind
pub record AreChildren (kind : Option Kind) (steps : List Step) : Type 0 where
  pub apart : IsDistinct same_key steps
  pub kinds : AllByRecursion (λ step. is_child kind step.kind ≡ true) steps
  pub zero : AllByRecursion IsZero steps
  pub placed : PlacedIn kind steps

-- an element below the device
pub record StandsBelow (path : List Step) (keys : List Key) : Type 0 where
  pub parent : List Step
  pub step : Step
  pub is : path ≡ parent ++ step ∷ []
  pub element : IsElement IsPlacedOrDerived step keys

pub record IsTold (v : Visit) : Type 0 where
  pub part : Tree Step Key
  pub is : v.own ≡ rows part
  pub children : AreChildren (kind_at v.path) (steps part.below)
  pub stands : (v.path ≡ []) ⊎ StandsBelow v.path part.keys

distinct-steps : (g : Forest Step Key) → AreDistinct same_key g → IsDistinct same_key (steps g)
unfolding AreDistinct IsDistinct steps
distinct-steps leaf h = tt
distinct-steps (node s ks c n) h = (h.0, distinct-steps n h.2)

nested-kinds : (kind : Option Kind) (g : Forest Step Key) → IsNested kind g → AllByRecursion (λ step. is_child kind step.kind ≡ true) (steps g)
unfolding IsNested steps
nested-kinds kind leaf h = tt
nested-kinds kind (node s ks c n) h = (h.0, nested-kinds kind n h.3)

form-zero : (kind : Kind) (name : List ℕ) (number : ℕ) (keys : List Key) → IsElement IsPlacedOrDerived (record { kind = kind; name = name; number = number }) keys → ZeroAt kind number
form-zero peripheral name number keys h = h.form
form-zero cluster name number keys h = h.form
form-zero register name number keys h = h.form
form-zero field name number keys h = h.form.0
form-zero set name number keys h = tt
form-zero value name number keys h = tt

every-zero : (g : Forest Step Key) → Every (IsElement IsPlacedOrDerived) g → AllByRecursion IsZero (steps g)
unfolding Every steps
every-zero leaf h = tt
every-zero (node s ks c n) h = (form-zero s.kind s.name s.number ks h.0, every-zero n h.2)

told-in : (path : List Step) (down : List (List Key)) (kind : Option Kind) (g : Forest Step Key) → AreDistinct same_key g → Every (IsElement IsPlacedOrDerived) g → IsNested kind g → AllByRecursion IsTold (visits path down g)
unfolding visits AreDistinct Every IsNested
told-in path down kind leaf d e n = tt
told-in path down kind (node s ks c g) d e n = (
  record {
    part = record { keys = ks; below = c };
    is = refl;
    children = record {
      apart = distinct-steps c d.1;
      kinds = subst (λ k. AllByRecursion (λ step. is_child k step.kind ≡ true) (steps c)) (sym (kind-last path s)) (nested-kinds (Some s.kind) c n.2);
      zero = every-zero c e.1;
      placed = subst (λ k. PlacedIn k (steps c)) (sym (kind-last path s)) n.1;
    };
    stands = inr (record { parent = path; step = s; is = refl; element = e.0 });
  },
  all_append IsTold (visits (path ++ s ∷ []) (down ++ ks ∷ []) c) (visits path down g) (told-in (path ++ s ∷ []) (down ++ ks ∷ []) (Some s.kind) c d.1 e.1 n.2) (told-in path down kind g d.2 e.2 n.3),
)

at-number : (f : List Step → Visit) (xs : List (List Step)) (e : ℕ) → AllByRecursion IsTold (map f xs) → e < length xs → IsTold (f (get_or xs e []))
at-number f [] e h inside = absurd (omega (arith, inside))
at-number f (x ∷ xs) zero h inside = h.0
at-number f (x ∷ xs) (suc e) h inside = at-number f xs e h.1 (omega (arith, inside))

-- ---- what holds of own children

-- a child of an element of this kind, where these are all elements
pub record Sits (all : List (List Step)) (kind : Option Kind) (child : Child) : Type 0 where
  pub inside : child.1 < length all
  pub fitting : is_child kind child.0.kind ≡ true
  pub zero : IsZero child.0
  pub parent : List Step
  pub step : Step
  pub is : get_or all child.1 [] ≡ parent ++ step ∷ []
  pub same_kind : step.kind ≡ child.0.kind
  pub same_name : step.name ≡ child.0.name

all-map : {X Y : Type 0} (P : Y → Type 0) (f : X → Y) (xs : List X) → AllByRecursion P (map f xs) → AllByRecursion (λ x. P (f x)) xs
all-map P f [] h = tt
all-map P f (x ∷ xs) h = (h.0, all-map P f xs h.1)

-- siblings of one key have one name, where the number is 0
zero-number : (kind : Option Kind) (own : Kind) (number : ℕ) → (kind ≡ Some field → ⊥) → (kind ≡ Some set → ⊥) → is_child kind own ≡ true → ZeroAt own number → number ≡ 0
zero-number kind peripheral number f s e h = h
zero-number kind cluster number f s e h = h
zero-number kind register number f s e h = h
zero-number kind field number f s e h = h
zero-number (Some field) set number f s e h = absurd (f refl)
zero-number (Some set) value number f s e h = absurd (s refl)
zero-number _ _ number f s e h = absurd cc

name-apart : (s t : Step) → s.number ≡ 0 → t.number ≡ 0 → same_key s t ≡ false → same_name s t ≡ false
unfolding same_key
name-apart s t p q e = drop-true (bytes_eq s.name t.name) (nat_eq s.number t.number) (ap₂ nat_eq p q) e
  where
    drop-true : (a b : Bool) → b ≡ true → (a && b) ≡ false → a ≡ false
    drop-true true b p e = sym p ∙ e
    drop-true false b p e = refl

module _ (kind : Option Kind) (f : kind ≡ Some field → ⊥) (g : kind ≡ Some set → ⊥) where
  one-apart : (s : Step) (others : List Step) → s.number ≡ 0 → AllByRecursion (λ t. same_key s t ≡ false) others → AllByRecursion (λ step. is_child kind step.kind ≡ true) others → AllByRecursion IsZero others → AllByRecursion (λ t. same_name s t ≡ false) others
  one-apart s [] p d k z = tt
  one-apart s (t ∷ others) p d k z = (name-apart s t p (zero-number kind t.kind t.number f g k.0 z.0) d.0, one-apart s others p d.1 k.1 z.1)

  pub names-apart : (steps : List Step) → IsDistinct same_key steps → AllByRecursion (λ step. is_child kind step.kind ≡ true) steps → AllByRecursion IsZero steps → IsDistinct same_name steps
  unfolding IsDistinct
  names-apart [] d k z = tt
  names-apart (s ∷ steps) d k z = (one-apart s steps (zero-number kind s.kind s.number f g k.0 z.0) d.0 k.1 z.1, names-apart steps d.1 k.1 z.1)

module _ (tree : Tree Step Key) (distinct : AreDistinct same_key tree.below) (elements : Every (IsElement IsPlacedOrDerived) tree.below) (nested : IsNested None tree.below) where
  pub told-at : (e : ℕ) → e < length (paths_of (rows tree)) → IsTold (visit_at (rows tree) (path_at (rows tree) e))
  unfolding visits_of kind_at
  told-at e inside =
      at-number (visit_at (rows tree)) (paths_of (rows tree)) e
      (subst (AllByRecursion IsTold) (sym (walk-rows tree (IsDistinct-finer same_key same_step same_step-finer tree.below distinct))) (
        record {
          part = tree;
          is = refl;
          children = record { apart = distinct-steps tree.below distinct; kinds = nested-kinds None tree.below nested; zero = every-zero tree.below elements; placed = tt };
          stands = inl refl;
        },
        told-in [] (tree.keys ∷ []) None tree.below distinct elements nested,
      ))
      inside

  pub own-keys : (e : ℕ) (inside : e < length (paths_of (rows tree))) → keys_at (rows tree) (path_at (rows tree) e) ≡ (told-at e inside).part.keys
  own-keys e inside = let h = told-at e inside in ap keys_of h.is ∙ keys_of-rows h.part

  own-steps : (e : ℕ) (inside : e < length (paths_of (rows tree))) → map (λ (child : Child). child.0) (own_children (rows tree) e) ≡ steps (told-at e inside).part.below
  own-steps e inside =
      let h = told-at e inside in
      sym (map-map (λ (x : Step × List Step). x.0) (λ (child : Child). (child.0, path_at (rows tree) child.1)) (own_children (rows tree) e))
      ∙ ap (map (λ (x : Step × List Step). x.0)) (own-told (λ path. path) (rows tree) e)
      ∙ map-map (λ (x : Step × List Step). x.0) (λ step. (step, path_at (rows tree) e ++ step ∷ [])) (children_at (rows tree) (path_at (rows tree) e))
      ∙ map-id (children_at (rows tree) (path_at (rows tree) e))
      ∙ ap children_of h.is ∙ children_of-rows h.part

  -- the steps of the own children are those of children
  pub own-children : (e : ℕ) → e < length (paths_of (rows tree)) → AreChildren (kind_at (path_at (rows tree) e)) (map (λ (child : Child). child.0) (own_children (rows tree) e))
  own-children e inside = subst (AreChildren (kind_at (path_at (rows tree) e))) (sym (own-steps e inside)) (told-at e inside).children

  pub own-sit : (e : ℕ) → e < length (paths_of (rows tree)) → AllByRecursion (Sits (paths_of (rows tree)) (kind_at (path_at (rows tree) e))) (own_children (rows tree) e)
  own-sit e inside =
      let h = own-children e inside in
      each (own_children (rows tree) e) (own-inside (rows tree) e)
      (all-map (λ step. is_child (kind_at (path_at (rows tree) e)) step.kind ≡ true) (λ (child : Child). child.0) (own_children (rows tree) e) h.kinds)
      (all-map IsZero (λ (child : Child). child.0) (own_children (rows tree) e) h.zero)
      (all-map (λ (x : Step × List Step). x.1 ≡ path_at (rows tree) e ++ x.0 ∷ []) (λ (child : Child). (child.0, path_at (rows tree) child.1)) (own_children (rows tree) e)
      (subst (AllByRecursion (λ (x : Step × List Step). x.1 ≡ path_at (rows tree) e ++ x.0 ∷ [])) (sym (own-told (λ path. path) (rows tree) e)) (paths (children_at (rows tree) (path_at (rows tree) e)))))
    where
      paths : (steps : List Step) → AllByRecursion (λ (x : Step × List Step). x.1 ≡ path_at (rows tree) e ++ x.0 ∷ []) (map {A = Step} {B = Step × List Step} (λ step. (step, path_at (rows tree) e ++ step ∷ [])) steps)
      paths [] = tt
      paths (step ∷ steps) = (refl, paths steps)

      each : (children : List Child) → AllByRecursion (λ (child : Child). child.1 < length (paths_of (rows tree))) children → AllByRecursion (λ (child : Child). is_child (kind_at (path_at (rows tree) e)) child.0.kind ≡ true) children → AllByRecursion (λ (child : Child). IsZero child.0) children
          → AllByRecursion (λ (child : Child). path_at (rows tree) child.1 ≡ path_at (rows tree) e ++ child.0 ∷ []) children → AllByRecursion (Sits (paths_of (rows tree)) (kind_at (path_at (rows tree) e))) children
      each [] i k z p = tt
      each (child ∷ children) i k z p = (
        record { inside = i.0; fitting = k.0; zero = z.0; parent = path_at (rows tree) e; step = child.0; is = p.0; same_kind = refl; same_name = refl },
        each children i.1 k.1 z.1 p.1,
      )
