-- The rows of an element with its keys and children: its children again, how many elements stand below, and how deep.
use Rattle.std.proofs.Common.{◌≡◌, ℕ, suc, ◌+◌, Bool, true, false, ◌&&◌, ◌||◌, cond, nat_le, List, [], ◌∷◌, ◌++◌, map, filter, filter_map, length, take, sum_by, Option, Some, option_map, refl, sym, ap, ap₂, ◌∙◌, append-nil, map-id}
use Rattle.std.specs.List.{AllByRecursion, IsDistinct, find, flat_map, list_any}
use Rattle.std.proofs.Math.Dec.{leb-suc-suc, leb-suc-zero}
use Rattle.std.proofs.lemmas.Bool.{true≢false}
use Rattle.std.proofs.lemmas.List.{length-append, map-append}
use Rattle.std.proofs.lemmas.List.Elements.{filter-append, filter_map-append}
use Rattle.std.proofs.lemmas.List.Folds.{list_any-append}
use Rattle.std.proofs.lemmas.List.Sums.{sum_by-cons}
use Rattle.derive_order.proofs.Merged.{Apart, same_place}
use Rattle.derived_rows.specs.Deriving.{Part, parts_of, element_rows}
use Rattle.need_order.specs.Children.{flag_weight}
use Rattle.svd_model.specs.Keys.{Key}
use Rattle.svd_model.specs.Stating.{paths_of}
use Rattle.svd_model.specs.Steps.{Step, same_step}
use Rattle.svd_model.proofs.Steps.{same_step-tells}
use Rattle.svd_model.proofs.Walking.{paths-append, paths-own}
use Rattle.svd_rows.specs.LookUps.{inside, seen_below, child_step, children_of, ends_with, is_element_of}
use Rattle.svd_rows.specs.Paths.{begins, exactly, is_within}
use Rattle.svd_rows.specs.Rows.{Row, Said, element, states, is_element, own, under}
use Rattle.svd_rows.proofs.Lists.{filter-map, map-map, filter_all, filter_none}

abbrev pub Rows : Type 0
Rows = List (Row Step Key)

-- the rows of siblings, each under its step
abbrev sibling_rows : List Part → Rows
sibling_rows xs = flat_map (λ (x : Part). map (under x.0) x.1) xs

-- the rows are those of an element
pub record IsWhole (all : Rows) : Type 0 where
  pub keys : List Key
  pub children : List Part
  pub is : all ≡ element_rows keys children

abbrev pub AreWhole : List Part → Type 0
AreWhole xs = AllByRecursion (λ (x : Part). IsWhole x.1) xs

abbrev tell : Row Step Key → Option Step
tell row = child_step row.path row.said

-- ---- steps of children

own_tells : (keys : List Key) → filter_map tell (own keys) ≡ []
unfolding own child_step
own_tells keys = each keys
  where
    each : (keys : List Key) → filter_map tell (map (λ key. record { path = []; said = states key }) keys) ≡ []
    each [] = refl
    each (key ∷ keys) = each keys

own_under_tells : (s : Step) (keys : List Key) → filter_map tell (map (under s) (own keys)) ≡ s ∷ []
unfolding own under child_step
own_under_tells s keys = ap (λ rest. s ∷ rest) (each keys)
  where
    each : (keys : List Key) → filter_map tell (map (under s) (map (λ key. record { path = []; said = states key }) keys)) ≡ []
    each [] = refl
    each (key ∷ keys) = each keys

deep_tells : (s t : Step) (all : Rows) → filter_map tell (map (under s) (map (under t) all)) ≡ []
unfolding under child_step
deep_tells s t [] = refl
deep_tells s t (row ∷ all) = deep_tells s t all

siblings_tell : (s : Step) (xs : List Part) → filter_map tell (map (under s) (sibling_rows xs)) ≡ []
siblings_tell s [] = refl
siblings_tell s (x ∷ xs) =
    ap (filter_map tell) (map-append (under s) (map (under x.0) x.1) (sibling_rows xs))
    ∙ filter_map-append tell (map (under s) (map (under x.0) x.1)) (map (under s) (sibling_rows xs))
    ∙ ap₂ (λ a b. a ++ b) (deep_tells s x.0 x.1) (siblings_tell s xs)

whole_tells : (s : Step) (all : Rows) → IsWhole all → filter_map tell (map (under s) all) ≡ s ∷ []
unfolding element_rows
whole_tells s all whole =
    ap (λ rows. filter_map tell (map (under s) rows)) whole.is
    ∙ ap (filter_map tell) (map-append (under s) (own whole.keys) (sibling_rows whole.children))
    ∙ filter_map-append tell (map (under s) (own whole.keys)) (map (under s) (sibling_rows whole.children))
    ∙ ap₂ (λ a b. a ++ b) (own_under_tells s whole.keys) (siblings_tell s whole.children)

steps_told : (xs : List Part) → AreWhole xs → filter_map tell (sibling_rows xs) ≡ map (λ (x : Part). x.0) xs
steps_told [] h = refl
steps_told (x ∷ xs) h =
    filter_map-append tell (map (under x.0) x.1) (sibling_rows xs)
    ∙ ap₂ (λ a b. a ++ b) (whole_tells x.0 x.1 h.0) (steps_told xs h.1)

-- ---- the children again

filter-other : (s t : Step) → same_step s t ≡ false → (all : Rows) → filter (is_within (exactly same_step (s ∷ []))) (map (under t) all) ≡ []
unfolding begins under
filter-other s t e all = filter-map (is_within (exactly same_step (s ∷ []))) (under t) all ∙ ap (map (under t)) (filter_none (λ row. same_step s t && true) (λ row. ap (λ b. b && true) e) all)

filter-own : (s : Step) (all : Rows) → map (seen_below (s ∷ [])) (filter (is_within (exactly same_step (s ∷ []))) (map (under s) all)) ≡ all
unfolding begins under
filter-own s all =
    ap (map (seen_below (s ∷ []))) (filter-map (is_within (exactly same_step (s ∷ []))) (under s) all ∙ ap (map (under s)) (filter_all (λ row. same_step s s && true) (λ row. ap (λ b. b && true) (same_step-tells.itself s)) all))
    ∙ map-map (seen_below (s ∷ [])) (under s) all
    ∙ map-id all

filter-none_of : (x : Part) (xs : List Part) → AllByRecursion (λ y. same_place x y ≡ false) xs → filter (is_within (exactly same_step (x.0 ∷ []))) (sibling_rows xs) ≡ []
filter-none_of x [] h = refl
filter-none_of x (y ∷ xs) h =
    filter-append (is_within (exactly same_step (x.0 ∷ []))) (map (under y.0) y.1) (sibling_rows xs)
    ∙ ap₂ (λ a b. a ++ b) (filter-other x.0 y.0 h.0 y.1) (filter-none_of x xs h.1)

-- the rows of the child of a step, below the element's own
abbrev within_rows : Rows → Step → Rows
within_rows all s = map (seen_below (s ∷ [])) (filter (is_within (exactly same_step (s ∷ []))) all)

other_way : (s t : Step) → same_step s t ≡ false → same_step t s ≡ false
other_way s t e = by (same_step t s) refl
  where
    by : (b : Bool) → same_step t s ≡ b → same_step t s ≡ false
    by false p = p
    by true p = absurd (true≢false (sym (same_step-tells.itself s) ∙ ap (same_step s) (sym (same_step-tells.alone t s p)) ∙ e))

agree_on : (f g : Step → Part) (xs : List Part) → AllByRecursion (λ (x : Part). f x.0 ≡ g x.0) xs → map f (map (λ (x : Part). x.0) xs) ≡ map g (map (λ (x : Part). x.0) xs)
agree_on f g [] h = refl
agree_on f g (x ∷ xs) h = ap₂ (λ a b. a ∷ b) h.0 (agree_on f g xs h.1)

each : {P Q : Part → Type 0} → ((x : Part) → P x → Q x) → (xs : List Part) → AllByRecursion P xs → AllByRecursion Q xs
each f [] h = tt
each f (x ∷ xs) h = (f x h.0, each f xs h.1)

siblings_again : (xs : List Part) → Apart xs → map (λ s. (s, within_rows (sibling_rows xs) s)) (map (λ (x : Part). x.0) xs) ≡ xs
unfolding IsDistinct
siblings_again [] h = refl
siblings_again (x ∷ xs) h =
    ap₂ (λ a b. (x.0, a) ∷ b) first
    (agree_on (λ s. (s, within_rows (map (under x.0) x.1 ++ sibling_rows xs) s)) (λ s. (s, within_rows (sibling_rows xs) s)) xs
    (each (λ y e. ap (λ r. (y.0, r)) (later y.0 (other_way x.0 y.0 e))) xs h.0)
    ∙ siblings_again xs h.1)
  where
    first : within_rows (map (under x.0) x.1 ++ sibling_rows xs) x.0 ≡ x.1
    first =
        ap (map (seen_below (x.0 ∷ []))) (filter-append (is_within (exactly same_step (x.0 ∷ []))) (map (under x.0) x.1) (sibling_rows xs) ∙ ap (λ r. filter (is_within (exactly same_step (x.0 ∷ []))) (map (under x.0) x.1) ++ r) (filter-none_of x xs h.0) ∙ append-nil _)
        ∙ filter-own x.0 x.1

    later : (s : Step) → same_step s x.0 ≡ false → within_rows (map (under x.0) x.1 ++ sibling_rows xs) s ≡ within_rows (sibling_rows xs) s
    later s e =
        ap (map (seen_below (s ∷ []))) (filter-append (is_within (exactly same_step (s ∷ []))) (map (under x.0) x.1) (sibling_rows xs) ∙ ap (λ r. r ++ filter (is_within (exactly same_step (s ∷ []))) (sibling_rows xs)) (filter-other s x.0 e x.1))

own-none : (s : Step) (keys : List Key) → filter (is_within (exactly same_step (s ∷ []))) (own keys) ≡ []
unfolding own begins
own-none s keys = keys_none keys
  where
    keys_none : (keys : List Key) → filter (is_within (exactly same_step (s ∷ []))) (map (λ key. record { path = []; said = states key }) keys) ≡ []
    keys_none [] = refl
    keys_none (key ∷ keys) = keys_none keys

inside_is : (s : Step) (keys : List Key) (xs : List Part) → inside same_step (s ∷ []) (element_rows keys xs) ≡ within_rows (sibling_rows xs) s
unfolding inside element_rows
inside_is s keys xs =
    ap (map (seen_below (s ∷ [])))
    (filter-append (is_within (exactly same_step (s ∷ []))) (own keys) (sibling_rows xs)
    ∙ ap (λ a. a ++ filter (is_within (exactly same_step (s ∷ []))) (sibling_rows xs)) (own-none s keys))

children_told : (keys : List Key) (xs : List Part) → AreWhole xs → children_of (element_rows keys xs) ≡ map (λ (x : Part). x.0) xs
unfolding children_of element_rows
children_told keys xs whole =
    filter_map-append tell (own keys) (sibling_rows xs) ∙ ap₂ (λ a b. a ++ b) (own_tells keys) (steps_told xs whole)

pub parts_again : (keys : List Key) (xs : List Part) → AreWhole xs → Apart xs → parts_of (element_rows keys xs) ≡ xs
parts_again keys xs whole apart =
    ap (map (λ s. (s, inside same_step (s ∷ []) (element_rows keys xs)))) (children_told keys xs whole)
    ∙ agree_on seen told xs (all_same xs)
    ∙ siblings_again xs apart
  where
    seen : Step → Part
    seen s = (s, inside same_step (s ∷ []) (element_rows keys xs))

    told : Step → Part
    told s = (s, within_rows (sibling_rows xs) s)

    all_same : (ys : List Part) → AllByRecursion (λ (x : Part). seen x.0 ≡ told x.0) ys
    all_same [] = tt
    all_same (y ∷ ys) = (ap (λ r. (y.0, r)) (inside_is y.0 keys xs), all_same ys)

-- ---- how many elements stand below

module _ (test : Step → Bool) where
  abbrev passes : Row Step Key → Bool
  passes row = is_element_of test row

  -- how many elements below an element with these rows pass the test
  abbrev pub amount : Rows → ℕ
  amount all = length (filter passes all)

  own_amount : (keys : List Key) → filter passes (own keys) ≡ []
  unfolding own is_element ends_with
  own_amount keys = every keys
    where
      every : (keys : List Key) → filter passes (map (λ key. record { path = []; said = states key }) keys) ≡ []
      every [] = refl
      every (key ∷ keys) = every keys

  own_under_amount : (s : Step) (keys : List Key) → length (filter passes (map (under s) (own keys))) ≡ flag_weight (test s)
  unfolding own under is_element ends_with
  own_under_amount s keys = by (test s)
    where
      every : (keys : List Key) → filter passes (map (under s) (map (λ key. record { path = []; said = states key }) keys)) ≡ []
      every [] = refl
      every (key ∷ keys) = every keys

      rest : List (Row Step Key)
      rest = filter passes (map (under s) (map (λ key. record { path = []; said = states key }) keys))

      by : (b : Bool) → length (cond b (record { path = s ∷ []; said = element } ∷ rest) rest) ≡ flag_weight b
      by true = ap (λ r. suc (length r)) (every keys)
      by false = ap (λ r. length r) (every keys)

  deeper_amount : (s t : Step) (all : Rows) → length (filter passes (map (under s) (map (under t) all))) ≡ length (filter passes (map (under t) all))
  unfolding under is_element ends_with
  deeper_amount s t [] = refl
  deeper_amount s t (row ∷ all) = by (passes (under t row)) (deeper_amount s t all)
    where
      by : (b : Bool) → length (filter passes (map (under s) (map (under t) all))) ≡ length (filter passes (map (under t) all))
          → length (cond b (under s (under t row) ∷ filter passes (map (under s) (map (under t) all))) (filter passes (map (under s) (map (under t) all)))) ≡ length (cond b (under t row ∷ filter passes (map (under t) all)) (filter passes (map (under t) all)))
      by true e = ap suc e
      by false e = e

  siblings_amount : (s : Step) (xs : List Part) → length (filter passes (map (under s) (sibling_rows xs))) ≡ length (filter passes (sibling_rows xs))
  siblings_amount s [] = refl
  siblings_amount s (x ∷ xs) =
      ap (λ r. length (filter passes r)) (map-append (under s) (map (under x.0) x.1) (sibling_rows xs))
      ∙ ap (λ r. length r) (filter-append passes (map (under s) (map (under x.0) x.1)) (map (under s) (sibling_rows xs)))
      ∙ length-append (filter passes (map (under s) (map (under x.0) x.1))) (filter passes (map (under s) (sibling_rows xs)))
      ∙ ap₂ (λ a b. a + b) (deeper_amount s x.0 x.1) (siblings_amount s xs)
      ∙ sym (ap (λ r. length r) (filter-append passes (map (under x.0) x.1) (sibling_rows xs)) ∙ length-append (filter passes (map (under x.0) x.1)) (filter passes (sibling_rows xs)))

  amount_is : (keys : List Key) (xs : List Part) → amount (element_rows keys xs) ≡ length (filter passes (sibling_rows xs))
  unfolding element_rows
  amount_is keys xs =
      ap (λ r. length r) (filter-append passes (own keys) (sibling_rows xs))
      ∙ ap (λ r. length (r ++ filter passes (sibling_rows xs))) (own_amount keys)

  under_amount : (s : Step) (all : Rows) → IsWhole all → length (filter passes (map (under s) all)) ≡ flag_weight (test s) + amount all
  unfolding element_rows
  under_amount s all whole =
      ap (λ r. length (filter passes (map (under s) r))) whole.is
      ∙ ap (λ r. length (filter passes r)) (map-append (under s) (own whole.keys) (sibling_rows whole.children))
      ∙ ap (λ r. length r) (filter-append passes (map (under s) (own whole.keys)) (map (under s) (sibling_rows whole.children)))
      ∙ length-append (filter passes (map (under s) (own whole.keys))) (filter passes (map (under s) (sibling_rows whole.children)))
      ∙ ap₂ (λ a b. a + b) (own_under_amount s whole.keys) (siblings_amount s whole.children ∙ sym (amount_is whole.keys whole.children) ∙ ap amount (sym whole.is))

  pub amount_by : (keys : List Key) (xs : List Part) → AreWhole xs → amount (element_rows keys xs) ≡ sum_by (λ (x : Part). flag_weight (test x.0) + amount x.1) xs
  amount_by keys xs whole = amount_is keys xs ∙ summed xs whole
    where
      summed : (xs : List Part) → AreWhole xs → length (filter passes (sibling_rows xs)) ≡ sum_by (λ (x : Part). flag_weight (test x.0) + amount x.1) xs
      summed [] h = refl
      summed (x ∷ xs) h =
          ap (λ r. length r) (filter-append passes (map (under x.0) x.1) (sibling_rows xs))
          ∙ length-append (filter passes (map (under x.0) x.1)) (filter passes (sibling_rows xs))
          ∙ ap₂ (λ a b. a + b) (under_amount x.0 x.1 h.0) (summed xs h.1)
          ∙ sym (sum_by-cons (λ (x : Part). flag_weight (test x.0) + amount x.1) x xs)

-- ---- how deep

-- one of the paths has so many steps
abbrev pub is_long : ℕ → Rows → Bool
is_long levels all = list_any (λ (path : List Step). nat_le levels (length path)) (paths_of all)

paths-under : (s : Step) (all : Rows) → paths_of (map (under s) all) ≡ map (λ path. s ∷ path) (paths_of all)
unfolding paths_of under is_element
paths-under s [] = refl
paths-under s (row ∷ all) = at row.said (paths-under s all)
  where
    at : (said : Said Key) → paths_of (map (under s) all) ≡ map (λ path. s ∷ path) (paths_of all) → paths_of (map (under s) (record { path = row.path; said = said } ∷ all)) ≡ map (λ path. s ∷ path) (paths_of (record { path = row.path; said = said } ∷ all))
    at element e = ap (λ r. (s ∷ row.path) ∷ r) e
    at (states key) e = e

unfoldable paths_below : List Part → List (List Step)
paths_below xs = flat_map (λ (x : Part). map (λ path. x.0 ∷ path) (paths_of x.1)) xs

paths-siblings : (xs : List Part) → paths_of (sibling_rows xs) ≡ paths_below xs
unfolding paths_below paths_of
paths-siblings [] = refl
paths-siblings (x ∷ xs) = paths-append (map (under x.0) x.1) (sibling_rows xs) ∙ ap₂ (λ a b. a ++ b) (paths-under x.0 x.1) (paths-siblings xs)

paths-element : (keys : List Key) (xs : List Part) → paths_of (element_rows keys xs) ≡ [] ∷ paths_below xs
unfolding element_rows
paths-element keys xs = paths-append (own keys) (sibling_rows xs) ∙ ap₂ (λ a b. a ++ b) (paths-own keys) (paths-siblings xs)

pub long_whole : (all : Rows) → IsWhole all → is_long 0 all ≡ true
long_whole all whole = ap (is_long 0) whole.is ∙ ap (list_any (λ (path : List Step). nat_le 0 (length path))) (paths-element whole.keys whole.children)

long-map : (levels : ℕ) (s : Step) (paths : List (List Step)) → list_any (λ (path : List Step). nat_le (suc levels) (length path)) (map (λ path. s ∷ path) paths) ≡ list_any (λ (path : List Step). nat_le levels (length path)) paths
long-map levels s [] = refl
long-map levels s (path ∷ paths) = ap₂ (λ a b. a || b) (leb-suc-suc levels (length path)) (long-map levels s paths)

pub long_by : (levels : ℕ) (keys : List Key) (xs : List Part) → is_long (suc levels) (element_rows keys xs) ≡ list_any (λ (x : Part). is_long levels x.1) xs
unfolding paths_below
long_by levels keys xs = ap (list_any (λ (path : List Step). nat_le (suc levels) (length path))) (paths-element keys xs) ∙ ap (λ b. b || list_any (λ (path : List Step). nat_le (suc levels) (length path)) (paths_below xs)) (leb-suc-zero levels) ∙ every xs
  where
    every : (xs : List Part) → list_any (λ (path : List Step). nat_le (suc levels) (length path)) (paths_below xs) ≡ list_any (λ (x : Part). is_long levels x.1) xs
    every [] = refl
    every (x ∷ xs) =
        list_any-append (λ (path : List Step). nat_le (suc levels) (length path)) (map (λ path. x.0 ∷ path) (paths_of x.1)) (paths_below xs)
        ∙ ap₂ (λ a b. a || b) (long-map levels x.0 (paths_of x.1)) (every xs)

-- the first child below which a path is too long
pub first_long : (levels : ℕ) (keys : List Key) (xs : List Part) → option_map (take 1) (find (λ (path : List Step). nat_le (suc levels) (length path)) (paths_of (element_rows keys xs))) ≡ option_map (λ (x : Part). x.0 ∷ []) (find (λ (x : Part). is_long levels x.1) xs)
unfolding paths_below
first_long levels keys xs =
    ap (λ paths. option_map (take 1) (find test paths)) (paths-element keys xs)
    ∙ ap (λ b. option_map (take 1) (cond b (Some []) (find test (paths_below xs)))) (leb-suc-zero levels)
    ∙ every xs
  where
    test : List Step → Bool
    test path = nat_le (suc levels) (length path)

    among_one : (s : Step) (paths rest : List (List Step)) → option_map (take 1) (find test (map (λ path. s ∷ path) paths ++ rest)) ≡ cond (list_any (λ (path : List Step). nat_le levels (length path)) paths) (Some (s ∷ [])) (option_map (take 1) (find test rest))
    among_one s [] rest = refl
    among_one s (path ∷ paths) rest =
        ap (λ b. option_map (take 1) (cond b (Some (s ∷ path)) (find test (map (λ path. s ∷ path) paths ++ rest)))) (leb-suc-suc levels (length path))
        ∙ by (nat_le levels (length path)) (among_one s paths rest)
      where
        by : (b : Bool) → option_map (take 1) (find test (map (λ path. s ∷ path) paths ++ rest)) ≡ cond (list_any (λ (path : List Step). nat_le levels (length path)) paths) (Some (s ∷ [])) (option_map (take 1) (find test rest))
            → option_map (take 1) (cond b (Some (s ∷ path)) (find test (map (λ path. s ∷ path) paths ++ rest))) ≡ cond (b || list_any (λ (path : List Step). nat_le levels (length path)) paths) (Some (s ∷ [])) (option_map (take 1) (find test rest))
        by true e = refl
        by false e = e

    every : (xs : List Part) → option_map (take 1) (find test (paths_below xs)) ≡ option_map (λ (x : Part). x.0 ∷ []) (find (λ (x : Part). is_long levels x.1) xs)
    every [] = refl
    every (x ∷ xs) = among_one x.0 (paths_of x.1) (paths_below xs) ∙ by (is_long levels x.1) (every xs)
      where
        by : (b : Bool) → option_map (take 1) (find test (paths_below xs)) ≡ option_map (λ (x : Part). x.0 ∷ []) (find (λ (x : Part). is_long levels x.1) xs)
            → cond b (Some (x.0 ∷ [])) (option_map (take 1) (find test (paths_below xs))) ≡ option_map (λ (x : Part). x.0 ∷ []) (cond b (Some x) (find (λ (x : Part). is_long levels x.1) xs))
        by true e = refl
        by false e = e
