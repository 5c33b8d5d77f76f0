-- Faults that are told by numbers, and what is found among peripherals.
use Rattle.std.proofs.Common.{◌≡◌, ℕ, suc, ◌+◌, ◌<◌, ◌≤◌, Bool, true, false, ◌&&◌, cond, nat_eq, List, [], ◌∷◌, filter, length, drop, drop-cons, get_or, Option, None, Some, is_some, refl, sym, ap, ap₂, ◌∙◌, arith}
use Rattle.std.specs.List.{find}
use Rattle.std.specs.Option.{is_none}
use Rattle.std.proofs.lemmas.Bool.{true≢false}
use Rattle.std.proofs.lemmas.List.{drop_all}
use Rattle.std.proofs.lemmas.Option.{get_or_from_slice_get}
use Rattle.derive_order.specs.Faults.{IsFaultAt}
use Rattle.derive_order.specs.declared.fault.OrderFault.TheVariants.{Missing}
use Rattle.derive_sources.specs.Graphs.{children_among}
use Rattle.derive_sources.specs.Numbers.{Item, Rows, path_at, item_at, is_number, items_of, no_item}
use Rattle.derived_rows.specs.Dependence.{deriving_paths}
use Rattle.derived_rows.specs.Faults.{first_missing}
use Rattle.derived_rows.specs.Sources.{source_names, source_of}
use Rattle.need_order.specs.Children.{Flags, is_deep}
use Rattle.need_order.specs.Needs.{among}
use Rattle.need_order.proofs.Numbers.{among-head, or_right}
use Rattle.pac_base.specs.declared.path.Step.{Step as Written}
use Rattle.svd_model.specs.Stating.{paths_of}
use Rattle.svd_model.specs.Keys.{Key}
use Rattle.svd_model.specs.Steps.{Step}
use Rattle.svd_rows.specs.Forest.{Tree}

found-passes : (p q : List Step → Bool) (xs : List (List Step)) (x : List Step) → find p (filter q xs) ≡ Some x → q x ≡ true
found-passes p q [] x e = absurd cc
found-passes p q (y ∷ ys) x e = at (q y) refl (found-passes p q ys x) e
  where
    at : (b : Bool) → q y ≡ b → (find p (filter q ys) ≡ Some x → q x ≡ true) → find p (cond b (y ∷ filter q ys) (filter q ys)) ≡ Some x → q x ≡ true
    at false f again h = again h
    at true f again h = by (p y) h
      where
        by : (b : Bool) → cond b (Some y) (find p (filter q ys)) ≡ Some x → q x ≡ true
        by true k = let same : y ≡ x = cc in ap q (sym same) ∙ f
        by false k = again k

-- an element whose source is missing gives names of it
pub missing_told : (all : Rows) (number : ℕ) → first_missing all ≡ Some (path_at all number) → IsFaultAt all (Missing number)
unfolding first_missing deriving_paths
missing_told all number h = at (source_names all (path_at all number)) refl (found-passes (λ path. is_none (source_of all path)) (λ path. is_some (source_names all path)) (paths_of all) (path_at all number) h)
  where
    at : (o : Option (List Written)) → source_names all (path_at all number) ≡ o → is_some (source_names all (path_at all number)) ≡ true → IsFaultAt all (Missing number)
    at None is some = absurd (true≢false (sym some ∙ ap is_some is))
    at (Some names) is some = (names, (h, is))

-- ---- the first peripheral whose flag is set

module _ (test : ℕ → Bool) (items : List Item) where
  abbrev Left : ℕ → Type 0
  Left i = find test (children_among 0 i (drop i items)) ≡ find test (children_among 0 0 items)

  one_left : (i : ℕ) → i < length items → drop i items ≡ item_at items i ∷ drop (i + 1) items
  one_left i inside = drop-cons items i no_item inside ∙ ap (λ k. item_at items i ∷ drop k items) (plain i)
    where
      plain : (k : ℕ) → suc k ≡ k + 1
      plain k = omega arith

  pub found_here : (i : ℕ) → i < length items → Left i → (is_number 0 (item_at items i).parent && test i) ≡ true → Some i ≡ find test (children_among 0 0 items)
  unfolding children_among
  found_here i inside left h = sym (sym left ∙ ap (λ xs. find test (children_among 0 i xs)) (one_left i inside) ∙ at (is_number 0 (item_at items i).parent) h)
    where
      at : (b : Bool) → (b && test i) ≡ true → find test (cond b (i ∷ children_among 0 (i + 1) (drop (i + 1) items)) (children_among 0 (i + 1) (drop (i + 1) items))) ≡ Some i
      at true p = ap (λ c. cond c (Some i) (find test (children_among 0 (i + 1) (drop (i + 1) items)))) p
      at false p = absurd (true≢false (sym p))

  pub further : (i : ℕ) → i < length items → Left i → (is_number 0 (item_at items i).parent && test i) ≡ false → Left (i + 1)
  unfolding children_among
  further i inside left h = sym (ap (λ xs. find test (children_among 0 i xs)) (one_left i inside) ∙ at (is_number 0 (item_at items i).parent) h) ∙ left
    where
      at : (b : Bool) → (b && test i) ≡ false → find test (cond b (i ∷ children_among 0 (i + 1) (drop (i + 1) items)) (children_among 0 (i + 1) (drop (i + 1) items))) ≡ find test (children_among 0 (i + 1) (drop (i + 1) items))
      at true p = ap (λ c. cond c (Some i) (find test (children_among 0 (i + 1) (drop (i + 1) items)))) p
      at false p = refl

  pub none_found : (i : ℕ) → length items ≤ i → Left i → None ≡ find test (children_among 0 0 items)
  unfolding children_among
  none_found i past left = sym (ap (λ xs. find test (children_among 0 i xs)) (drop_all i items past)) ∙ left

-- the same is found by flags that tell of each
pub find_agree : (p q : ℕ → Bool) (xs : List ℕ) → ((d : ℕ) → among d xs ≡ true → p d ≡ q d) → find p xs ≡ find q xs
find_agree p q [] same = refl
find_agree p q (x ∷ xs) same = ap₂ (λ b rest. cond b (Some x) rest) (same x (among-head x xs)) (find_agree p q xs (λ d h. same d (or_right (nat_eq d x) (among d xs) h)))

pub flag_is : (children : ℕ → List ℕ) (n levels : ℕ) (flags : List Bool) → Flags children n levels flags → (d : ℕ) → d < n → get_or flags d false ≡ is_deep children levels d
flag_is children n levels flags told d inside = get_or_from_slice_get flags d (is_deep children levels d) false (told d inside)

-- a device is one element at least
pub some_items : (tree : Tree Step Key) → 0 < length (items_of tree)
unfolding items_of
some_items tree = omega arith
