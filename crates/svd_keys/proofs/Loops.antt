-- Runs over the elements in an element: what was gathered and what is still to come make the whole.
use Rattle.std.proofs.Common.{◌≡◌, ℕ, suc, ◌+◌, ◌<◌, ◌≤◌, List, [], ◌∷◌, ◌++◌, length, drop, map, filter, find, flat_map, Bool, true, false, ◌&&◌, ◌||◌, slice_index_or, refl, sym, ap, ◌∙◌, add-one, drop-cons, Option, Some, None}
use Rattle.std.proofs.lemmas.List.{drop_all}
use Rattle.svd_text.specs.declared.element.Element.{Element, out-Element}
use Rattle.svd_text.specs.Views.{element_of}
use Rattle.svd_keys.specs.declared.fault.PlacedFault.{PlacedFault}
use Rattle.svd_keys.specs.Earliest.{earlier, least}
use Rattle.svd_schema.specs.declared.container.Container.{Container}
use Rattle.svd_schema.specs.declared.roles.Role.{Role}
use Rattle.svd_schema.specs.Table.{role_of}
use Rattle.svd_keys.specs.Children.{Tree, members, has_name, unknown, unknown_at, unknown_in_key, double, doubles, when}
use Rattle.svd_keys.specs.Runs.{within, doubles_among}
use Rattle.svd_keys.proofs.Orders.{earlier-none, earlier-assoc, least-append}
use Rattle.svd_keys.proofs.Seen.{members-of}

-- the elements from a place on
abbrev pub left : List Element → ℕ → List Tree
left items at = map element_of (drop at items)

-- the first of those that are left, and the others
pub left-next : (items : List Element) (at : ℕ) (item : Element) → at < length items → item ≡ slice_index_or items at item → left items at ≡ element_of item ∷ left items (at + 1)
left-next items at item inside is =
    rw (add-one) (ap (map element_of) (drop-cons items at item inside) ∙ ap (λ first. element_of first ∷ left items (suc at)) (sym is))

pub left-none : (items : List Element) (at : ℕ) → length items ≤ at → left items at ≡ []
left-none items at past = ap (map element_of) (drop_all at items past)

pub left-all : (e : Element) (items : List Element) → items ≡ (out-Element e).children.items → left items 0 ≡ members (element_of e).1
left-all e items is = ap (map element_of) is ∙ sym (members-of e)

-- one more fault, or none, in front of what is still to come
pub gathered : (now fault step whole : Option PlacedFault) (here more all : List PlacedFault) → now ≡ earlier fault step → step ≡ least here → all ≡ here ++ more → earlier fault (least all) ≡ whole → earlier now (least more) ≡ whole
gathered now fault step whole here more all grew is parts before =
    ap (λ found. earlier found (least more)) grew
    ∙ earlier-assoc fault step (least more)
    ∙ ap (λ found. earlier fault (earlier found (least more))) is
    ∙ ap (earlier fault) (sym (least-append here more) ∙ ap least (sym parts))
    ∙ before

-- nothing is still to come
pub nothing_left : (fault whole : Option PlacedFault) (more : List PlacedFault) → more ≡ [] → earlier fault (least more) ≡ whole → fault ≡ whole
unfolding least
nothing_left fault whole more none before = sym (earlier-none fault) ∙ ap (λ faults. earlier fault (least faults)) (sym none) ∙ before

pub begun : (first whole : List PlacedFault) → first ≡ whole → earlier None (least first) ≡ least whole
unfolding earlier
begun first whole is = ap least is

-- the elements in the keys of a name, told one by one
within-next : (name : List ℕ) (tree : Tree) (trees : List Tree) (is : Bool) → has_name name tree ≡ is → flat_map (within name) trees ≡ flat_map unknown_in_key (filter (has_name name) trees)
    → flat_map (within name) (tree ∷ trees) ≡ flat_map unknown_in_key (filter (has_name name) (tree ∷ trees))
unfolding within
within-next name tree trees true is more = rw is (ap (λ faults. unknown_in_key tree ++ faults) more)
within-next name tree trees false is more = rw is more

pub within-keys : (name : List ℕ) (trees : List Tree) → flat_map (within name) trees ≡ flat_map unknown_in_key (filter (has_name name) trees)
within-keys name [] = refl
within-keys name (tree ∷ trees) = within-next name tree trees (has_name name tree) refl (within-keys name trees)

-- behind one of the name each stands again
again-next : (name : List ℕ) (tree : Tree) (trees : List Tree) (is : Bool) → has_name name tree ≡ is → doubles_among name true trees ≡ map double (filter (has_name name) trees)
    → doubles_among name true (tree ∷ trees) ≡ map double (filter (has_name name) (tree ∷ trees))
unfolding doubles_among
again-next name tree trees true is more = rw is (ap (λ faults. double tree ∷ faults) more)
again-next name tree trees false is more = rw is more

all_again : (name : List ℕ) (trees : List Tree) → doubles_among name true trees ≡ map double (filter (has_name name) trees)
unfolding doubles_among
all_again name [] = refl
all_again name (tree ∷ trees) = again-next name tree trees (has_name name tree) refl (all_again name trees)

double-next : (name : List ℕ) (tree : Tree) (trees : List Tree) (is : Bool) → has_name name tree ≡ is → doubles_among name false trees ≡ doubles (filter (has_name name) trees)
    → doubles_among name false (tree ∷ trees) ≡ doubles (filter (has_name name) (tree ∷ trees))
unfolding doubles_among doubles
double-next name tree trees true is more = rw is (all_again name trees)
double-next name tree trees false is more = rw is more

pub doubles-among : (name : List ℕ) (trees : List Tree) → doubles_among name false trees ≡ doubles (filter (has_name name) trees)
unfolding doubles_among doubles
doubles-among name [] = refl
doubles-among name (tree ∷ trees) = double-next name tree trees (has_name name tree) refl (doubles-among name trees)

pub doubles-step : (name : List ℕ) (seen named : Bool) (tree : Tree) (trees : List Tree) → named ≡ has_name name tree
    → doubles_among name seen (tree ∷ trees) ≡ when (seen && named) (double tree) ++ doubles_among name (seen || named) trees
unfolding doubles_among
doubles-step name seen named tree trees is = rw is refl

-- the first of a name among what is left
pub found_here : (name : List ℕ) (first : Tree) (others : List Tree) (whole : Option Tree) → has_name name first ≡ true → find (has_name name) (first ∷ others) ≡ whole → Some first ≡ whole
found_here name first others whole is before = rw is at before

pub found_later : (name : List ℕ) (first : Tree) (others : List Tree) (whole : Option Tree) → has_name name first ≡ false → find (has_name name) (first ∷ others) ≡ whole → find (has_name name) others ≡ whole
found_later name first others whole is before = rw is at before

-- an element by its role
pub known : (container : Container) (tree : Tree) (what : Role) → role_of container tree.0.name ≡ Some what → None ≡ least (unknown_at container tree)
unfolding unknown_at least
known container tree what is = rw is refl

pub not_known : (container : Container) (tree : Tree) → role_of container tree.0.name ≡ None → Some (unknown tree) ≡ least (unknown_at container tree)
unfolding unknown_at least earlier
not_known container tree is = rw is refl

-- the elements in a key by its name
pub within-one : (name : List ℕ) (tree : Tree) → has_name name tree ≡ true → least (unknown_in_key tree) ≡ least (within name tree)
unfolding within
within-one name tree is = rw is refl

pub within-other : (name : List ℕ) (tree : Tree) → has_name name tree ≡ false → None ≡ least (within name tree)
unfolding within least
within-other name tree is = rw is refl

-- one fault
pub one_fault : (fault other : PlacedFault) → fault ≡ other → Some fault ≡ least (other ∷ [])
unfolding least earlier
one_fault fault other is = ap Some is
