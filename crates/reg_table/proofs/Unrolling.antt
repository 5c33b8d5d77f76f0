-- Arrays that are unrolled one after the other, the inner ones first, give the members of a walk of the tree.
use Rattle.std.proofs.Common.{◌≡◌, ℕ, Bool, true, false, ◌&&◌, not, List, [], ◌∷◌, ◌++◌, map, filter, reverse, Option, Some, None, refl, sym, ap, ap₂, ◌∙◌, subst, append-nil}
use Rattle.std.specs.Prelude.{fold}
use Rattle.std.specs.List.{AllByRecursion, flat_map, range_with_len}
use Rattle.std.proofs.lemmas.List.{reverse-append, map-append}
use Rattle.std.proofs.lemmas.List.Elements.{filter-append}
use Rattle.std.proofs.lemmas.List.Folds.{flat_map-map}
use Rattle.std.proofs.lemmas.List.Sums.{fold-append}
use Rattle.reg_table.specs.Registers.{Member, is_below, with_index}
use Rattle.reg_table.proofs.Exchanges.{every-append, every-reverse, every-map, every-weaker, flat_map-agree, map-flat_map, map-reverse, none-pass, exchanged-behind, exchanged-before, exchanged-map}
use Rattle.svd_model.specs.Keys.{Key}
use Rattle.svd_model.specs.Stating.{value_of, stated_dim, indexes_of}
use Rattle.svd_model.specs.Steps.{Step, same_step}
use Rattle.svd_model.proofs.Steps.{same_step-tells}
use Rattle.svd_rows.specs.Elements.{IsDistinct, IsAbsent}
use Rattle.svd_rows.specs.Forest.{Forest, leaf, node, steps}
use Rattle.svd_rows.specs.Paths.{exactly, begins}
use Rattle.svd_rows.specs.RowEdits.{exchanged}
use Rattle.svd_rows.proofs.Lists.{filter-map, map-map}

-- ---- one array after the other

-- an array: the path of its element, and how many members it has
abbrev pub Array : Type 0
Array = List Step × ℕ

-- the members where those of this array stand one after the other in its place
unfoldable pub unroll : List Member → Array → List Member
unroll members array =
    exchanged (is_below array.0) (flat_map (λ index. map (with_index array.0 index) (filter (is_below array.0) members)) (range_with_len 0 array.1)) members

-- the member isn't one of the array, or of what is in it
abbrev pub IsApart : Array → Member → Type 0
IsApart array member = is_below array.0 member ≡ false

module _ (array : Array) where
  unroll-behind : (before members : List Member) → AllByRecursion (IsApart array) before → unroll (before ++ members) array ≡ before ++ unroll members array
  unfolding unroll
  unroll-behind before members apart =
      ap (λ some. exchanged (is_below array.0) (flat_map (λ index. map (with_index array.0 index) some) (range_with_len 0 array.1)) (before ++ members))
      (filter-append (is_below array.0) before members ∙ ap (λ r. r ++ filter (is_below array.0) members) (none-pass (is_below array.0) before apart))
      ∙ exchanged-behind (is_below array.0) _ before members apart

  unroll-before : (members behind : List Member) → AllByRecursion (IsApart array) behind → unroll (members ++ behind) array ≡ unroll members array ++ behind
  unfolding unroll
  unroll-before members behind apart =
      ap (λ some. exchanged (is_below array.0) (flat_map (λ index. map (with_index array.0 index) some) (range_with_len 0 array.1)) (members ++ behind))
      (filter-append (is_below array.0) members behind ∙ ap (λ r. filter (is_below array.0) members ++ r) (none-pass (is_below array.0) behind apart) ∙ append-nil (filter (is_below array.0) members))
      ∙ exchanged-before (is_below array.0) _ members behind apart

pub fold-behind : (arrays : List Array) (before members : List Member) → AllByRecursion (λ array. AllByRecursion (IsApart array) before) arrays → fold unroll (before ++ members) arrays ≡ before ++ fold unroll members arrays
fold-behind [] before members apart = refl
fold-behind (array ∷ arrays) before members apart =
    ap (λ all. fold unroll all arrays) (unroll-behind array before members apart.0) ∙ fold-behind arrays before (unroll members array) apart.1

fold-before : (arrays : List Array) (members behind : List Member) → AllByRecursion (λ array. AllByRecursion (IsApart array) behind) arrays → fold unroll (members ++ behind) arrays ≡ fold unroll members arrays ++ behind
fold-before [] members behind apart = refl
fold-before (array ∷ arrays) members behind apart =
    ap (λ all. fold unroll all arrays) (unroll-before array members behind apart.0) ∙ fold-before arrays (unroll members array) behind apart.1

-- ---- seen from the parent

-- an array of a child
unfoldable pub longer : Step → Array → Array
longer step array = (step ∷ array.0, array.1)

-- a member of a child, whose parent has no index
under : Step → Member → Member
under step member = (step ∷ member.0, None ∷ member.1)

module _ (s : Step) where
  unroll-under : (members : List Member) (array : Array) → unroll (map (under s) members) (longer s array) ≡ map (under s) (unroll members array)
  unfolding unroll longer under begins
  unroll-under members array =
      ap₂ (λ test some. exchanged test some (map (under s) members)) same_test
      (flat_map-agree _ _ each (range_with_len 0 array.1)
      ∙ sym (map-flat_map (under s) (λ index. map (with_index array.0 index) (filter (is_below array.0) members)) (range_with_len 0 array.1)))
      ∙ exchanged-map (λ member. is_below (s ∷ array.0) member) (under s) (flat_map (λ index. map (with_index array.0 index) (filter (is_below array.0) members)) (range_with_len 0 array.1)) members
      ∙ ap (λ test. map (under s) (exchanged test (flat_map (λ index. map (with_index array.0 index) (filter (is_below array.0) members)) (range_with_len 0 array.1)) members)) here
    where
      same_test : is_below (s ∷ array.0) ≡ (λ member. is_below (s ∷ array.0) member)
      same_test = refl

      here : (λ (member : Member). is_below (s ∷ array.0) (under s member)) ≡ is_below array.0
      here = λ i member. same_step-tells.itself s i && is_below array.0 member

      each : (index : ℕ) → map (with_index (s ∷ array.0) index) (filter (is_below (s ∷ array.0)) (map (under s) members)) ≡ map (under s) (map (with_index array.0 index) (filter (is_below array.0) members))
      each index =
          ap (map (with_index (s ∷ array.0) index)) (filter-map (is_below (s ∷ array.0)) (under s) members ∙ ap (λ test. map (under s) (filter test members)) here)
          ∙ map-map (with_index (s ∷ array.0) index) (under s) (filter (is_below array.0) members)
          ∙ sym (map-map (under s) (with_index array.0 index) (filter (is_below array.0) members))

  fold-under : (arrays : List Array) (members : List Member) → fold unroll (map (under s) members) (map (longer s) arrays) ≡ map (under s) (fold unroll members arrays)
  fold-under [] members = refl
  fold-under (array ∷ arrays) members =
      ap (λ all. fold unroll all (map (longer s) arrays)) (unroll-under members array) ∙ fold-under arrays (unroll members array)

-- ---- by a walk

-- an element's own members and those below it, where these are the ones below it: each with this index
unfoldable pub members_at : List Member → Option ℕ → List Member
members_at inner index = ([], index ∷ []) ∷ map (λ member. (member.0, index ∷ member.1)) inner

unfoldable pub below : Step → Member → Member
below step member = (step ∷ member.0, member.1)

-- the members of siblings and all below them, seen from their parent: each with an index for each step of its path
unfoldable pub spread : Forest Step Key → List Member
spread leaf = []
spread (node s ks c n) = map (below s) (flat_map (members_at (spread c)) (indexes_of (value_of stated_dim ks))) ++ spread n

-- the same, where each element stands once and without an index
unfoldable pub plain : Forest Step Key → List Member
plain leaf = []
plain (node s ks c n) = map (below s) (members_at (plain c) None) ++ plain n

-- the array of an element of this path, where it is one
abbrev pub arrays_at : List Step → Option ℕ → List Array
arrays_at path None = []
arrays_at path (Some n) = (path, n) ∷ []

-- the arrays among siblings and below them
unfoldable pub arrays : Forest Step Key → List Array
arrays leaf = []
arrays (node s ks c n) = map (longer s) (arrays_at [] (value_of stated_dim ks) ++ arrays c) ++ arrays n

-- the members with the parent's index, which is none
unfoldable pub lifted : List Member → List Member
lifted members = map (λ member. (member.0, None ∷ member.1)) members

lifted-node : (s : Step) (members others : List Member) → lifted (map (below s) members ++ others) ≡ map (under s) members ++ lifted others
unfolding lifted below under
lifted-node s members others =
    map-append (λ member. (member.0, None ∷ member.1)) (map (below s) members) others
    ∙ ap (λ r. r ++ lifted others) (map-map (λ member. (member.0, None ∷ member.1)) (below s) members)

-- ---- members of different siblings are apart

turned : (s t : Step) → same_step s t ≡ false → same_step t s ≡ false
turned s t e = cases (same_step t s) refl
  where
    cases : (b : Bool) → same_step t s ≡ b → same_step t s ≡ false
    cases false is = is
    cases true is =
        let same : t ≡ s = same_step-tells.alone t s is in
        let itself : same_step s s ≡ true = same_step-tells.itself s in
        let here : same_step s s ≡ false = subst (λ (u : Step). same_step s u ≡ false) same e in
        absurd cc

-- no array of the siblings is at or below the step
arrays-apart : (s : Step) (n : Forest Step Key) → IsAbsent same_step s n → AllByRecursion (λ array. (path : List Step) → begins (exactly same_step array.0) (s ∷ path) ≡ false) (arrays n)
unfolding arrays steps begins longer
arrays-apart s leaf absent = tt
arrays-apart s (node t ks c n) absent =
    every-append _ (map (longer t) (arrays_at [] (value_of stated_dim ks) ++ arrays c)) (arrays n)
    (every-map _ (longer t) (λ array path. ap (λ b. b && begins (exactly same_step array.0) path) (turned s t absent.0)) (arrays_at [] (value_of stated_dim ks) ++ arrays c))
    (arrays-apart s n absent.1)

-- no member of the siblings is at or below it
members-apart : (s : Step) (path : List Step) (n : Forest Step Key) → IsAbsent same_step s n → AllByRecursion (λ member. begins (exactly same_step (s ∷ path)) member.0 ≡ false) (spread n)
unfolding spread steps begins below
members-apart s path leaf absent = tt
members-apart s path (node t ks c n) absent =
    every-append _ (map (below t) (flat_map (members_at (spread c)) (indexes_of (value_of stated_dim ks)))) (spread n)
    (every-map _ (below t) (λ member. ap (λ b. b && begins (exactly same_step path) member.0) absent.0) (flat_map (members_at (spread c)) (indexes_of (value_of stated_dim ks))))
    (members-apart s path n absent.1)

-- every array has a step
pub arrays-below : (f : Forest Step Key) → AllByRecursion (λ array. begins (exactly same_step array.0) [] ≡ false) (arrays f)
unfolding arrays begins longer
arrays-below leaf = tt
arrays-below (node s ks c n) =
    every-append _ (map (longer s) (arrays_at [] (value_of stated_dim ks) ++ arrays c)) (arrays n)
    (every-map _ (longer s) (λ array. refl) (arrays_at [] (value_of stated_dim ks) ++ arrays c))
    (arrays-below n)

-- ---- all arrays, the inner ones first

-- the members of an array with what is in them
whole-array : (inner : List Member) (n : ℕ) → unroll (members_at inner None) ([], n) ≡ flat_map (members_at inner) (map Some (range_with_len 0 n))
unfolding unroll begins exchanged members_at
whole-array inner n =
    ap (λ some. flat_map (λ index. map (with_index [] index) (([], None ∷ []) ∷ some)) (range_with_len 0 n) ++ filter (λ member. not (is_below [] member)) (lifted_inner)) (all (lifted_inner))
    ∙ ap (λ r. flat_map (λ index. map (with_index [] index) (([], None ∷ []) ∷ lifted_inner)) (range_with_len 0 n) ++ r) (none (lifted_inner))
    ∙ append-nil _
    ∙ flat_map-agree _ _ (λ index. ap (λ r. ([], Some index ∷ []) ∷ r) (map-map (with_index [] index) (λ member. (member.0, None ∷ member.1)) inner)) (range_with_len 0 n)
    ∙ sym (flat_map-map (members_at inner) Some (range_with_len 0 n))
  where
    lifted_inner : List Member
    lifted_inner = map (λ member. (member.0, None ∷ member.1)) inner

    all : (xs : List Member) → filter (is_below []) xs ≡ xs
    all [] = refl
    all (x ∷ xs) = ap (λ r. x ∷ r) (all xs)

    none : (xs : List Member) → filter (λ member. not (is_below [] member)) xs ≡ []
    none [] = refl
    none (x ∷ xs) = none xs

own-unrolled : (inner : List Member) (dim : Option ℕ) → fold unroll (members_at inner None) (reverse (arrays_at [] dim)) ≡ flat_map (members_at inner) (indexes_of dim)
own-unrolled inner None = sym (append-nil (members_at inner None))
own-unrolled inner (Some n) = whole-array inner n

pub all-unrolled : (f : Forest Step Key) → IsDistinct same_step f → fold unroll (lifted (plain f)) (reverse (arrays f)) ≡ lifted (spread f)
unfolding plain spread arrays lifted IsDistinct members_at under longer
all-unrolled leaf distinct = refl
all-unrolled (node s ks c n) distinct =
    ap₂ (λ members order. fold unroll members order) (lifted-node s (members_at (plain c) None) (plain n))
    (reverse-append (map (longer s) (arrays_at [] dim ++ arrays c)) (arrays n) ∙ ap (λ r. reverse (arrays n) ++ r) (sym (map-reverse (longer s) (arrays_at [] dim ++ arrays c))))
    ∙ fold-append unroll (map (under s) (members_at (plain c) None) ++ lifted (plain n)) (reverse (arrays n)) (map (longer s) (reverse (arrays_at [] dim ++ arrays c)))
    ∙ ap (λ members. fold unroll members (map (longer s) (reverse (arrays_at [] dim ++ arrays c))))
    (fold-behind (reverse (arrays n)) (map (under s) (members_at (plain c) None)) (lifted (plain n))
    (every-reverse _ (arrays n) (every-weaker _ _ (λ array apart. every-map (IsApart array) (under s) (λ member. apart member.0) (members_at (plain c) None)) (arrays n) (arrays-apart s n distinct.0)))
    ∙ ap (λ r. map (under s) (members_at (plain c) None) ++ r) (all-unrolled n distinct.2))
    ∙ fold-before (map (longer s) (reverse (arrays_at [] dim ++ arrays c))) (map (under s) (members_at (plain c) None)) (lifted (spread n))
    (every-map (λ array. AllByRecursion (IsApart array) (lifted (spread n))) (longer s) (λ array. every-lifted (longer s array) (spread n) (members-apart s array.0 n distinct.0)) (reverse (arrays_at [] dim ++ arrays c)))
    ∙ ap (λ r. r ++ lifted (spread n)) (fold-under s (reverse (arrays_at [] dim ++ arrays c)) (members_at (plain c) None) ∙ ap (map (under s)) (inner (all-unrolled c distinct.1)))
    ∙ sym (lifted-node s (flat_map (members_at (spread c)) (indexes_of dim)) (spread n))
  where
    dim : Option ℕ
    dim = value_of stated_dim ks

    every-lifted : (array : Array) (members : List Member) → AllByRecursion (λ member. begins (exactly same_step array.0) member.0 ≡ false) members → AllByRecursion (IsApart array) (lifted members)
    every-lifted array [] h = tt
    every-lifted array (member ∷ members) h = (h.0, every-lifted array members h.1)

    inner : fold unroll (lifted (plain c)) (reverse (arrays c)) ≡ lifted (spread c) → fold unroll (members_at (plain c) None) (reverse (arrays_at [] dim ++ arrays c)) ≡ flat_map (members_at (spread c)) (indexes_of dim)
    inner below_is =
        ap (fold unroll (members_at (plain c) None)) (reverse-append (arrays_at [] dim) (arrays c))
        ∙ fold-append unroll (members_at (plain c) None) (reverse (arrays c)) (reverse (arrays_at [] dim))
        ∙ ap (λ members. fold unroll members (reverse (arrays_at [] dim)))
        (fold-behind (reverse (arrays c)) (([], None ∷ []) ∷ []) (lifted (plain c))
        (every-reverse _ (arrays c) (every-weaker _ _ (λ array apart. (apart, tt)) (arrays c) (arrays-below c)))
        ∙ ap (λ r. ([], None ∷ []) ∷ r) below_is)
        ∙ own-unrolled (spread c) dim
