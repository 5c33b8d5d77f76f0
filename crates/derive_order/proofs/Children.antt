-- The children of an element are the elements one step below its path.
use Rattle.std.proofs.Common.{◌≡◌, inl, inr, ℕ, suc, ◌+◌, ◌<◌, nat_eq, Bool, true, false, ◌&&◌, cond, List, [], ◌∷◌, ◌++◌, map, filter, filter_map, length, drop, get_or, Option, None, Some, refl, sym, ap, ap₂, ◌∙◌, arith, append_assoc}
use Rattle.std.specs.List.{cons_option}
use Rattle.std.proofs.lemmas.Bool.{eqb-true, or_cases, true≢false}
use Rattle.std.proofs.lemmas.List.{length_push}
use Rattle.std.proofs.Math.Seq.{get_or-append_seam}
use Rattle.derive_sources.specs.Graphs.{children_among}
use Rattle.derive_sources.specs.Numbers.{Item, item_at, is_number}
use Rattle.derived_rows.specs.Sources.{child_paths}
use Rattle.derived_rows.proofs.Stand.{begins-drop}
use Rattle.need_order.specs.Needs.{among}
use Rattle.svd_model.specs.Keys.{Key}
use Rattle.svd_model.specs.Stating.{paths_of}
use Rattle.svd_model.specs.Steps.{Step, same_step}
use Rattle.svd_rows.specs.LookUps.{inside, seen_below, child_step, children_of}
use Rattle.svd_rows.specs.Paths.{begins, exactly, fits, is_within}
use Rattle.svd_rows.specs.Rows.{Row, Said, element, states, is_element}

-- the path is one step longer than this one
abbrev pub is_one_longer : List Step → List Step → Bool
is_one_longer path other = fits (exactly same_step path ++ (λ step. true) ∷ []) other

abbrev is_one : List Step → Bool
is_one [] = false
is_one (step ∷ []) = true
is_one (step ∷ next ∷ left) = false

split : (path other : List Step) → is_one_longer path other ≡ (begins (exactly same_step path) other && is_one (drop (length path) other))
unfolding fits begins
split [] [] = refl
split [] (step ∷ []) = refl
split [] (step ∷ next ∷ left) = refl
split (step ∷ path) [] = refl
split (step ∷ path) (next ∷ other) = ap (λ b. same_step step next && b) (split path other) ∙ regroup (same_step step next) (begins (exactly same_step path) other) (is_one (drop (length path) other))
  where
    regroup : (a b c : Bool) → (a && (b && c)) ≡ ((a && b) && c)
    regroup true b c = refl
    regroup false b c = refl

pub children_longer : (all : List (Row Step Key)) (path : List Step) → child_paths all path ≡ filter (is_one_longer path) (paths_of all)
unfolding child_paths inside children_of paths_of is_element child_step
children_longer [] path = refl
children_longer (row ∷ all) path = at row.said (begins (exactly same_step path) row.path) (drop (length path) row.path) refl refl (children_longer all path)
  where
    rest : List (Row Step Key)
    rest = map (seen_below path) (filter (is_within (exactly same_step path)) all)

    push : Step → List Step
    push child = path ++ child ∷ []

    tell : Row Step Key → Option Step
    tell r = child_step r.path r.said

    left_kids : Bool → List Step → Said Key → List (List Step)
    left_kids false left said = map push (filter_map tell rest)
    left_kids true left said = map push (cons_option (child_step left said) (filter_map tell rest))

    others : List (List Step)
    others = filter (is_one_longer path) (paths_of all)

    seen : (b : Bool) (left : List Step) (said : Said Key) → drop (length path) row.path ≡ left
        → map push (filter_map tell (map (seen_below path) (cond b (record { path = row.path; said = said } ∷ filter (is_within (exactly same_step path)) all) (filter (is_within (exactly same_step path)) all)))) ≡ left_kids b left said
    seen false left said e = refl
    seen true left said e = ap (λ p. map push (cons_option (child_step p said) (filter_map tell rest))) e

    one : (b : Bool) (left : List Step) → begins (exactly same_step path) row.path ≡ b → drop (length path) row.path ≡ left → is_one_longer path row.path ≡ (b && is_one left)
    one b left e f = split path row.path ∙ ap₂ (λ x p. x && is_one p) e f

    whole : (b : Bool) (left : List Step) → begins (exactly same_step path) row.path ≡ b → drop (length path) row.path ≡ left → b ≡ true → row.path ≡ path ++ left
    whole b left e f is = begins-drop path row.path (e ∙ is) ∙ ap (λ p. path ++ p) f

    kids : (b : Bool) (left : List Step) → begins (exactly same_step path) row.path ≡ b → drop (length path) row.path ≡ left → map push (filter_map tell rest) ≡ others → left_kids b left element ≡ cond (is_one_longer path row.path) (row.path ∷ others) others
    kids false left e f again = again ∙ sym (ap (λ c. cond c (row.path ∷ others) others) (one false left e f))
    kids true [] e f again = again ∙ sym (ap (λ c. cond c (row.path ∷ others) others) (one true [] e f))
    kids true (step ∷ []) e f again =
        ap₂ (λ p ps. p ∷ ps) (sym (whole true (step ∷ []) e f refl)) again
        ∙ sym (ap (λ c. cond c (row.path ∷ others) others) (one true (step ∷ []) e f))
    kids true (step ∷ next ∷ left) e f again = again ∙ sym (ap (λ c. cond c (row.path ∷ others) others) (one true (step ∷ next ∷ left) e f))

    no_kids : (b : Bool) (left : List Step) (key : Key) → left_kids b left (states key) ≡ map push (filter_map tell rest)
    no_kids false left key = refl
    no_kids true [] key = refl
    no_kids true (step ∷ []) key = refl
    no_kids true (step ∷ next ∷ left) key = refl

    at : (said : Said Key) (b : Bool) (left : List Step) → begins (exactly same_step path) row.path ≡ b → drop (length path) row.path ≡ left → map push (filter_map tell rest) ≡ others
        → map push (filter_map tell (map (seen_below path) (cond (begins (exactly same_step path) row.path) (record { path = row.path; said = said } ∷ filter (is_within (exactly same_step path)) all) (filter (is_within (exactly same_step path)) all)))) ≡ filter (is_one_longer path) (paths_of (record { path = row.path; said = said } ∷ all))
    at element b left e f again =
        ap (λ c. map push (filter_map tell (map (seen_below path) (cond c (record { path = row.path; said = element } ∷ filter (is_within (exactly same_step path)) all) (filter (is_within (exactly same_step path)) all))))) e
        ∙ seen b left element f ∙ kids b left e f again
    at (states key) b left e f again =
        ap (λ c. map push (filter_map tell (map (seen_below path) (cond c (record { path = row.path; said = states key } ∷ filter (is_within (exactly same_step path)) all) (filter (is_within (exactly same_step path)) all))))) e
        ∙ seen b left (states key) f ∙ no_kids b left key ∙ again

-- ---- the paths that pass a test, by the numbers of the items that pass it

pub filter_places : (test : List Step → Bool) (parent : ℕ) (before paths : List (List Step)) (items : List Item) → length paths ≡ length items → ((i : ℕ) → i < length items → test (get_or paths i []) ≡ is_number parent (item_at items i).parent) → filter test paths ≡ map (λ k. get_or (before ++ paths) k []) (children_among parent (length before) items)
unfolding children_among
filter_places test parent before [] [] long agree = refl
filter_places test parent before [] (item ∷ items) long agree = absurd (omega (arith, long))
filter_places test parent before (path ∷ paths) [] long agree = absurd (omega (arith, long))
filter_places test parent before (path ∷ paths) (item ∷ items) long agree =
    at (is_number parent item.parent) (agree 0 (omega arith))
    (filter_places test parent (before ++ path ∷ []) paths items (omega (arith, long)) (λ i inside. agree (suc i) (omega (arith, inside)))
    ∙ ap₂ (λ (whole : List (List Step)) n. map (λ k. get_or whole k []) (children_among parent n items)) (append_assoc before (path ∷ []) paths) (length_push before path))
  where
    value : ℕ → List Step
    value k = get_or (before ++ (path ∷ paths)) k []

    later : List ℕ
    later = children_among parent (length before + 1) items

    at : (b : Bool) → test path ≡ b → filter test paths ≡ map value later
        → cond (test path) (path ∷ filter test paths) (filter test paths) ≡ map value (cond b (length before ∷ later) later)
    at true e again = ap (λ b. cond b (path ∷ filter test paths) (filter test paths)) e ∙ ap₂ (λ p ps. p ∷ ps) (sym (get_or-append_seam before path paths [])) again
    at false e again = ap (λ b. cond b (path ∷ filter test paths) (filter test paths)) e ∙ again

-- ---- which numbers these are

-- the number of an item whose parent has this number
pub record IsChild (parent n : ℕ) (items : List Item) (d : ℕ) : Type 0 where
  pub place : ℕ
  pub is : d ≡ n + place
  pub inside : place < length items
  pub below : (item_at items place).parent ≡ Some parent

number-is : (parent : ℕ) (of : Option ℕ) → is_number parent of ≡ true → of ≡ Some parent
number-is parent None e = absurd (true≢false (sym e))
number-is parent (Some m) e = ap Some (sym (eqb-true parent m e))

pub child_is : (parent n : ℕ) (items : List Item) (d : ℕ) → among d (children_among parent n items) ≡ true → IsChild parent n items d
unfolding children_among
child_is parent n [] d h = absurd (true≢false (sym h))
child_is parent n (item ∷ items) d h = at (λ p. later (child_is parent (n + 1) items d p)) (is_number parent item.parent) refl h
  where
    later : IsChild parent (n + 1) items d → IsChild parent n (item ∷ items) d
    later r = record { place = suc r.place; is = omega (arith, r.is); inside = omega (arith, r.inside); below = r.below }

    at : (among d (children_among parent (n + 1) items) ≡ true → IsChild parent n (item ∷ items) d) → (b : Bool) → is_number parent item.parent ≡ b → among d (cond b (n ∷ children_among parent (n + 1) items) (children_among parent (n + 1) items)) ≡ true → IsChild parent n (item ∷ items) d
    at again false e p = again p
    at again true e p = elim (or_cases (nat_eq d n) (among d (children_among parent (n + 1) items)) p) [
      | inl q ↦ record { place = 0; is = omega (arith, eqb-true d n q); inside = omega arith; below = number-is parent item.parent e }
      | inr q ↦ again q
    ]
