-- What runs over the elements side by side gathers from each of them.
use Rattle.std.proofs.Common.{◌≡◌, ℕ, List, [], ◌++◌, map, flat_map, Some, None, refl, sym, ap, ◌∙◌}
use Rattle.svd_schema.specs.declared.container.Container.{Container}
use Rattle.svd_text.specs.declared.element.Element.{Element, out-Element}
use Rattle.svd_text.specs.Tree.{Elements, none, element}
use Rattle.svd_text.specs.Views.{element_of}
use Rattle.svd_keys.specs.Children.{Tree, members, child}
use Rattle.svd_keys.proofs.Seen.{members-of}
use Rattle.svd_reader.specs.DescribedTree.{children_in, inside}
use Rattle.svd_reader.specs.Faults.{faults_in}
use Rattle.svd_reader.specs.Walk.{held_faults, child_of}

pub faults-members : (container : Container) (elements : Elements) → faults_in container elements ≡ flat_map (held_faults container) (members elements)
unfolding faults_in held_faults members
faults-members container none = refl
faults-members container (element head children siblings) =
    ap (λ more. held_faults container (head, children) ++ more) (faults-members container siblings)

pub children-members : (elements : Elements) → children_in elements ≡ flat_map child_of (members elements)
unfolding children_in child_of members
children-members none = refl
children-members (element head children siblings) = ap (λ more. child_of (head, children) ++ more) (children-members siblings)

-- the elements in an element in memory
pub faults-of : (container : Container) (e : Element) (items : List Element) → items ≡ (out-Element e).children.items
    → flat_map (held_faults container) (map element_of items) ≡ faults_in container (element_of e).1
faults-of container e items is =
    ap (λ found. flat_map (held_faults container) (map element_of found)) is
    ∙ ap (flat_map (held_faults container)) (sym (members-of e))
    ∙ sym (faults-members container (element_of e).1)

pub children-of : (e : Element) (items : List Element) → items ≡ (out-Element e).children.items
    → flat_map child_of (map element_of items) ≡ children_in (element_of e).1
children-of e items is =
    ap (λ found. flat_map child_of (map element_of found)) is
    ∙ ap (flat_map child_of) (sym (members-of e))
    ∙ sym (children-members (element_of e).1)

pub all-of : (e : Element) (items : List Element) → items ≡ (out-Element e).children.items → map element_of items ≡ members (element_of e).1
all-of e items is = ap (map element_of) is ∙ sym (members-of e)

-- the elements in the first of a name
pub inside-some : (name : List ℕ) (tree : Tree) (found : Element) (items : List Element) → items ≡ (out-Element found).children.items → child name tree ≡ Some (element_of found) → map element_of items ≡ members (inside name tree)
unfolding inside
inside-some name tree found items is first = rw first (all-of found items is)

pub inside-none : (name : List ℕ) (tree : Tree) → child name tree ≡ None → [] ≡ members (inside name tree)
unfolding inside members
inside-none name tree first = rw first refl
