-- Elements among siblings by their names, and what stands for them.
use Rattle.std.proofs.Common.{ℕ, ◌≡◌, Bool, true, false, not, cond, ◌||◌, List, [], ◌∷◌, map, Option, Some, None, option_and_then, bytes_eq, refl, sym, ap, subst, ◌∙◌}
use Rattle.std.specs.Prelude.{⊤}
use Rattle.std.specs.Option.{option_or}
use Rattle.std.specs.List.{AllByRecursion, list_any}
use Rattle.std.proofs.lemmas.Bool.{not-true, or_parts}
use Rattle.std.proofs.lemmas.Slice.Eq.{bytes_eq-Decides}
use Rattle.frag_sem.specs.Modules.{are_distinct}
use Rattle.frag_sem.proofs.Lists.{both_true}
use Rattle.svd_model.specs.Keys.{Key}
use Rattle.svd_model.specs.Steps.{Kind, Step, cluster, field, peripheral, register, same_kind, set, value}
use Rattle.svd_rows.specs.Forest.{Forest, leaf, node, steps}
use Rattle.checked_tree.specs.Kinds.{AreFields, AreOf}
use Rattle.table_sem.specs.Names.{is_named}

-- the names of siblings in order, each made of the written one: accessors, or the slots of peripherals
abbrev pub names_by : (List ℕ → List ℕ) → Forest Step Key → List (List ℕ)
names_by name_of siblings = map (λ step. name_of step.name) (steps siblings)

pub record Element : Type 0 where
  pub step : Step
  pub keys : List Key
  pub children : Forest Step Key

-- the first of the siblings that has the name
abbrev pub element_named : (List ℕ → List ℕ) → List ℕ → Forest Step Key → Option Element
element_named name_of name leaf = None
element_named name_of name (node step keys children others) =
    cond (bytes_eq name (name_of step.name)) (Some (record { step = step; keys = keys; children = children })) (element_named name_of name others)

not-named : (name_of : List ℕ → List ℕ) (name : List ℕ) (f : Forest Step Key) → list_any (bytes_eq name) (names_by name_of f) ≡ false → element_named name_of name f ≡ None
unfolding steps
not-named name_of name leaf none = refl
not-named name_of name (node step keys children others) none =
    let both = or_parts (bytes_eq name (name_of step.name)) (list_any (bytes_eq name) (names_by name_of others)) none in
    ap (λ b. cond b (Some (record { step = step; keys = keys; children = children })) (element_named name_of name others)) both.0 ∙ not-named name_of name others both.1

-- ---- what is looked up in each of that name

-- what is found first, element by element
abbrev pub sought : {X : Type 0} → (List ℕ → List ℕ) → List ℕ → (Element → Option X) → Forest Step Key → Option X
sought name_of name look leaf = None
sought name_of name look (node step keys children others) =
    option_or (cond (bytes_eq name (name_of step.name)) (look (record { step = step; keys = keys; children = children })) None) (sought name_of name look others)

or-none : {X : Type 0} (o : Option X) → option_or o None ≡ o
or-none None = refl
or-none (Some x) = refl

-- where names are distinct, it is found in the first of the name
pub sought-named : {X : Type 0} (name_of : List ℕ → List ℕ) (name : List ℕ) (look : Element → Option X) (f : Forest Step Key) → are_distinct bytes_eq (names_by name_of f) ≡ true → sought name_of name look f ≡ option_and_then look (element_named name_of name f)
unfolding steps are_distinct
sought-named name_of name look leaf distinct = refl
sought-named {X} name_of name look (node step keys children others) distinct =
    ap (option_or (cond (bytes_eq name (name_of step.name)) (look e) None)) (sought-named name_of name look others both.1) ∙ by (bytes_eq name (name_of step.name)) refl
  where
    e : Element
    e = record { step = step; keys = keys; children = children }

    both : (not (list_any (bytes_eq (name_of step.name)) (names_by name_of others)) ≡ true) × (are_distinct bytes_eq (names_by name_of others) ≡ true)
    both = both_true (not (list_any (bytes_eq (name_of step.name)) (names_by name_of others))) (are_distinct bytes_eq (names_by name_of others)) distinct

    by : (b : Bool) → bytes_eq name (name_of step.name) ≡ b → option_or (cond b (look e) None) (option_and_then look (element_named name_of name others)) ≡ option_and_then look (cond b (Some e) (element_named name_of name others))
    by false is = refl
    by true is =
        let same : name ≡ name_of step.name = (bytes_eq-Decides name (name_of step.name)).0 is in
        let none : element_named name_of name others ≡ None = ap (λ n. element_named name_of n others) same ∙ not-named name_of (name_of step.name) others (not-true (list_any (bytes_eq (name_of step.name)) (names_by name_of others)) both.0) in
        ap (λ o. option_or (look e) (option_and_then look o)) none ∙ or-none (look e)

-- ---- what stands for an element

-- an element and what stands for it, or neither
abbrev pub Paired : {A : Type 0} → (Element → A → Type 0) → Option Element → Option A → Type 0
Paired Is None None = ⊤
Paired Is None (Some a) = ⊥
Paired Is (Some e) None = ⊥
Paired Is (Some e) (Some a) = Is e a

pub first-pair : {A : Type 0} (Is : Element → A → Type 0) (b c : Bool) → c ≡ b → (e : Element) (a : A) → Is e a → (o : Option Element) (p : Option A) → Paired Is o p → Paired Is (cond b (Some e) o) (cond c (Some a) p)
first-pair Is true true same e a is o p more = is
first-pair Is true false same e a is o p more = absurd cc
first-pair Is false true same e a is o p more = absurd cc
first-pair Is false false same e a is o p more = more

-- ---- siblings without an accessor

-- among siblings and below them is no peripheral, no cluster and no register
unfoldable pub NoneNamed : Forest Step Key → Type 0
NoneNamed leaf = ⊤
NoneNamed (node step keys children others) = (is_named step ≡ false) × NoneNamed children × NoneNamed others

-- no element of the kind has an accessor
abbrev IsUnnamed : Kind → Type 0
IsUnnamed kind = (same_kind peripheral kind || (same_kind cluster kind || same_kind register kind)) ≡ false

none-of : (kinds : List Kind) → AllByRecursion IsUnnamed kinds → (f : Forest Step Key) → AreOf kinds f → NoneNamed f
unfolding AreOf NoneNamed
none-of [] all leaf are = tt
none-of [] all (node step keys children others) are = subst NoneNamed (sym are) tt
none-of (kind ∷ below) all leaf are = tt
none-of (kind ∷ below) all (node step keys children others) are = (subst IsUnnamed (sym are.0) all.0, none-of below all.1 children are.1, none-of (kind ∷ below) all others are.2)

-- nor has a field, or what is below it
pub none_named : (f : Forest Step Key) → AreFields f → NoneNamed f
none_named f are = none-of (field ∷ set ∷ value ∷ []) (refl, (refl, (refl, tt))) f are
