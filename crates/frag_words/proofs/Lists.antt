-- Readings of lists keep exactness.
use Rattle.std.proofs.Common.{ℕ, ◌≡◌, ◌≤◌, ◌+◌, List, [], ◌∷◌, ◌++◌, length, Bool, true, false, Option, None, ◌⊎◌, inl, inr, refl, sym, ap, ◌∙◌, append_assoc, arith, zero, suc, length-append}
use Rattle.std.specs.Prelude.{◌&&◌, if◌then◌else◌}
use Rattle.std.specs.List.{flat_map, list_all}
use Rattle.frag_words.specs.Words.{Word}
use Rattle.frag_words.specs.Readings.{Reading, IsExact, then_read, no_items, one_more, items_then, list_then}
use Rattle.frag_words.proofs.Readings.{Tells, given, both, both_left, both_right, some_is, then_some}

-- whichever of two gave something
if_either : {A : Type 0} (hit : Bool) (o p : Option A) (y : A) → (if hit then o else p) ≡ given y → (o ≡ given y) ⊎ (p ≡ given y)
if_either true o p y h = inl h
if_either false o p y h = inr h

-- where a list of items ends
pub record Ends (A B : Type 0) (test : List Word → Bool) (item : Reading A) (end : Reading B) : Type 0 where
  pub tells : Tells A B test item end
  pub some : (tree : A) → item.is_valid tree ≡ true → 1 ≤ length (item.words tree)

none_again : {A B : Type 0} (test : List Word → Bool) (item : Reading A) (end : Reading B) → Ends A B test item end → IsExact B end → (n : ℕ) (tree : B) (rest : List Word) → end.is_valid tree ≡ true → items_then test item end n (end.words tree ++ rest) ≡ given (([], tree), rest)
unfolding items_then
none_again {A} {B} test item end ends exact zero tree rest valid =
    ap (λ hit. if hit then None else then_read (end.read (end.words tree ++ rest)) (no_items {A = A} {B = B})) (ends.tells.no_other tree rest valid)
    ∙ ap (λ (o : Option (B × List Word)). then_read o (no_items {A = A} {B = B})) (exact.again tree rest valid)
none_again {A} {B} test item end ends exact (suc n) tree rest valid =
    ap (λ hit. if hit then then_read (item.read (end.words tree ++ rest)) (λ t left. then_read (items_then test item end n left) (one_more {A = A} {B = B} t)) else then_read (end.read (end.words tree ++ rest)) (no_items {A = A} {B = B})) (ends.tells.no_other tree rest valid)
    ∙ ap (λ (o : Option (B × List Word)). then_read o (no_items {A = A} {B = B})) (exact.again tree rest valid)

items_again : {A B : Type 0} (test : List Word → Bool) (item : Reading A) (end : Reading B) → Ends A B test item end → IsExact A item → IsExact B end → (n : ℕ) (trees : List A) (tree : B) (rest : List Word) → list_all item.is_valid trees ≡ true → end.is_valid tree ≡ true → length (flat_map item.words trees ++ (end.words tree ++ rest)) ≤ n → items_then test item end n (flat_map item.words trees ++ (end.words tree ++ rest)) ≡ given ((trees, tree), rest)
unfolding items_then
items_again test item end ends exact_item exact n [] tree rest valid_items valid long = none_again test item end ends exact n tree rest valid
items_again test item end ends exact_item exact zero (first ∷ others) tree rest valid_items valid long =
    let some = ends.some first (both_left (item.is_valid first) (list_all item.is_valid others) valid_items) in
    let count : length ((item.words first ++ flat_map item.words others) ++ (end.words tree ++ rest)) ≡ (length (item.words first) + length (flat_map item.words others)) + length (end.words tree ++ rest) = simp length-append refl in
    absurd (omega (arith, some, count))
items_again {A} {B} test item end ends exact_item exact (suc n) (first ∷ others) tree rest valid_items valid long =
    let valid_first = both_left (item.is_valid first) (list_all item.is_valid others) valid_items in
    let left = flat_map item.words others ++ (end.words tree ++ rest) in
    let whole : (item.words first ++ flat_map item.words others) ++ (end.words tree ++ rest) ≡ item.words first ++ left = append_assoc (item.words first) (flat_map item.words others) (end.words tree ++ rest) in
    let some = ends.some first valid_first in
    let count : length (item.words first ++ left) ≡ length (item.words first) + length left = length-append (item.words first) left in
    let shorter : length left ≤ n = omega (arith, some, count, ap length whole) in
    let more = items_again test item end ends exact_item exact n others tree rest (both_right (item.is_valid first) (list_all item.is_valid others) valid_items) valid shorter in
    ap (items_then test item end (suc n)) whole
    ∙ (ap (λ hit. if hit then then_read (item.read (item.words first ++ left)) (λ t end_left. then_read (items_then test item end n end_left) (one_more {A = A} {B = B} t)) else then_read (end.read (item.words first ++ left)) (no_items {A = A} {B = B})) (ends.tells.yes first left valid_first)
    ∙ (ap (λ (o : Option (A × List Word)). then_read o (λ t end_left. then_read (items_then test item end n end_left) (one_more {A = A} {B = B} t))) (exact_item.again first left valid_first)
    ∙ ap (λ (o : Option ((List A × B) × List Word)). then_read o (one_more {A = A} {B = B} first)) more))

-- what was taken, item by item
abbrev Taken : {A B : Type 0} → Reading A → Reading B → List Word → List A × B → List Word → Type 0
Taken item end text trees rest = (text ≡ (flat_map item.words trees.0 ++ end.words trees.1) ++ rest) × ((list_all item.is_valid trees.0 && end.is_valid trees.1) ≡ true)

none_takes : {A B : Type 0} (item : Reading A) (end : Reading B) → IsExact B end → (text : List Word) (trees : List A × B) (rest : List Word) → then_read (end.read text) (no_items {A = A} {B = B}) ≡ given (trees, rest) → Taken item end text trees rest
none_takes {A} {B} item end exact text trees rest h =
    let hit = then_some (end.read text) (no_items {A = A} {B = B}) (trees, rest) h in
    let more = exact.takes text hit.0.0 hit.0.1 hit.1 in
    let none : List A × B = ([], hit.0.0) in
    let same = some_is (none, hit.0.1) (trees, rest) hit.2 in
    let trees_are : none ≡ trees = ap (λ (p : (List A × B) × List Word). p.0) same in
    let rest_is : hit.0.1 ≡ rest = ap (λ (p : (List A × B) × List Word). p.1) same in (
      more.0 ∙ (ap (λ xs. end.words hit.0.0 ++ xs) rest_is ∙ ap (λ (t : List A × B). (flat_map item.words t.0 ++ end.words t.1) ++ rest) trees_are),
      ap (λ (t : List A × B). list_all item.is_valid t.0 && end.is_valid t.1) (sym trees_are) ∙ more.1,
    )

one_takes : {A B : Type 0} (test : List Word → Bool) (item : Reading A) (end : Reading B) → IsExact A item → IsExact B end → (n : ℕ) → ((text : List Word) (trees : List A × B) (rest : List Word) → items_then test item end n text ≡ given (trees, rest) → Taken item end text trees rest) → (text : List Word) (trees : List A × B) (rest : List Word) → then_read (item.read text) (λ t left. then_read (items_then test item end n left) (one_more {A = A} {B = B} t)) ≡ given (trees, rest) → Taken item end text trees rest
one_takes {A} {B} test item end exact_item exact n others_take text trees rest h =
    let hit = then_some (item.read text) (λ t left. then_read (items_then test item end n left) (one_more {A = A} {B = B} t)) (trees, rest) h in
    let first = exact_item.takes text hit.0.0 hit.0.1 hit.1 in
    let next = then_some (items_then test item end n hit.0.1) (one_more {A = A} {B = B} hit.0.0) (trees, rest) hit.2 in
    let more = others_take hit.0.1 next.0.0 next.0.1 next.1 in
    let all : List A × B = (hit.0.0 ∷ next.0.0.0, next.0.0.1) in
    let same = some_is (all, next.0.1) (trees, rest) next.2 in
    let trees_are : all ≡ trees = ap (λ (p : (List A × B) × List Word). p.0) same in
    let rest_is : next.0.1 ≡ rest = ap (λ (p : (List A × B) × List Word). p.1) same in
    let whole : text ≡ ((item.words hit.0.0 ++ flat_map item.words next.0.0.0) ++ end.words next.0.0.1) ++ next.0.1 =
    first.0 ∙ (ap (λ xs. item.words hit.0.0 ++ xs) more.0 ∙ simp append_assoc refl) in (
      whole ∙ (ap (λ xs. ((item.words hit.0.0 ++ flat_map item.words next.0.0.0) ++ end.words next.0.0.1) ++ xs) rest_is ∙ ap (λ (t : List A × B). (flat_map item.words t.0 ++ end.words t.1) ++ rest) trees_are),
      ap (λ (t : List A × B). list_all item.is_valid t.0 && end.is_valid t.1) (sym trees_are)
          ∙ both (item.is_valid hit.0.0 && list_all item.is_valid next.0.0.0) (end.is_valid next.0.0.1)
          (both (item.is_valid hit.0.0) (list_all item.is_valid next.0.0.0) first.1 (both_left (list_all item.is_valid next.0.0.0) (end.is_valid next.0.0.1) more.1))
          (both_right (list_all item.is_valid next.0.0.0) (end.is_valid next.0.0.1) more.1),
    )

-- at the end of the count
at_end : {A B : Type 0} (item : Reading A) (end : Reading B) → IsExact B end → (text : List Word) (trees : List A × B) (rest : List Word) → (None ≡ given {A = (List A × B) × List Word} (trees, rest)) ⊎ (then_read (end.read text) (no_items {A = A} {B = B}) ≡ given (trees, rest)) → Taken item end text trees rest
at_end {A} {B} item end exact text trees rest (inl e) = let impossible : None ≡ given {A = (List A × B) × List Word} (trees, rest) = e in absurd cc
at_end item end exact text trees rest (inr e) = none_takes item end exact text trees rest e

-- before the end of the count
before_end : {A B : Type 0} (test : List Word → Bool) (item : Reading A) (end : Reading B) → IsExact A item → IsExact B end → (n : ℕ) → ((text : List Word) (trees : List A × B) (rest : List Word) → items_then test item end n text ≡ given (trees, rest) → Taken item end text trees rest) → (text : List Word) (trees : List A × B) (rest : List Word) → (then_read (item.read text) (λ t left. then_read (items_then test item end n left) (one_more {A = A} {B = B} t)) ≡ given (trees, rest)) ⊎ (then_read (end.read text) (no_items {A = A} {B = B}) ≡ given (trees, rest)) → Taken item end text trees rest
before_end test item end exact_item exact n others_take text trees rest (inl e) = one_takes test item end exact_item exact n others_take text trees rest e
before_end test item end exact_item exact n others_take text trees rest (inr e) = none_takes item end exact text trees rest e

items_take : {A B : Type 0} (test : List Word → Bool) (item : Reading A) (end : Reading B) → IsExact A item → IsExact B end → (n : ℕ) (text : List Word) (trees : List A × B) (rest : List Word) → items_then test item end n text ≡ given (trees, rest) → Taken item end text trees rest
unfolding items_then
items_take {A} {B} test item end exact_item exact zero text trees rest h =
    at_end item end exact text trees rest (if_either (test text) None (then_read (end.read text) (no_items {A = A} {B = B})) (trees, rest) h)
items_take {A} {B} test item end exact_item exact (suc n) text trees rest h =
    before_end test item end exact_item exact n (items_take test item end exact_item exact n) text trees rest
    (if_either (test text) (then_read (item.read text) (λ t left. then_read (items_then test item end n left) (one_more {A = A} {B = B} t))) (then_read (end.read text) (no_items {A = A} {B = B})) (trees, rest) h)

pub list_exact : {A B : Type 0} (test : List Word → Bool) (item : Reading A) (end : Reading B) → Ends A B test item end → IsExact A item → IsExact B end → IsExact (List A × B) (list_then test item end)
list_exact {A} {B} test item end ends exact_item exact = record {
  again = λ trees rest valid.
      let whole = append_assoc (flat_map item.words trees.0) (end.words trees.1) rest in
      let bound : length ((flat_map item.words trees.0 ++ end.words trees.1) ++ rest) ≡ length (flat_map item.words trees.0 ++ (end.words trees.1 ++ rest)) = ap length whole in
      let enough : length (flat_map item.words trees.0 ++ (end.words trees.1 ++ rest)) ≤ length ((flat_map item.words trees.0 ++ end.words trees.1) ++ rest) = omega (arith, bound) in
      ap (items_then test item end (length ((flat_map item.words trees.0 ++ end.words trees.1) ++ rest))) whole
      ∙ items_again test item end ends exact_item exact (length ((flat_map item.words trees.0 ++ end.words trees.1) ++ rest)) trees.0 trees.1 rest (both_left (list_all item.is_valid trees.0) (end.is_valid trees.1) valid) (both_right (list_all item.is_valid trees.0) (end.is_valid trees.1) valid) enough;
  takes = λ text trees rest h. items_take test item end exact_item exact (length text) text trees rest h;
}
