-- The elements of a tree have the numbers of document order.
use Rattle.std.proofs.Common.{◌≡◌, inl, inr, ℕ, suc, ◌+◌, ◌<◌, Bool, true, false, ◌||◌, List, [], ◌∷◌, ◌++◌, map, length, drop, get_or, Option, refl, sym, ap, ap₂, ◌∙◌, subst, arith, append_assoc, append-nil, map-id}
use Rattle.std.specs.List.{IsDistinct, AllByRecursion}
use Rattle.std.specs.Set.{is_member}
use Rattle.std.proofs.lemmas.Bool.{true≢false, cases_Bool}
use Rattle.std.proofs.lemmas.List.{map-append, get_or_append_left, length_push, length-append}
use Rattle.std.proofs.Math.Seq.{get_or-append_seam}
use Rattle.derive_sources.specs.Numbers.{Item, items_in, items_of, Follow, AreNumbered}
use Rattle.derived_rows.specs.Dependence.{same_path}
use Rattle.derived_rows.specs.Sources.{stated_source}
use Rattle.derived_rows.proofs.Kept.{drop-front}
use Rattle.derived_rows.proofs.Paths.{same_path-tells, member-head, member-tail}
use Rattle.pac_base.specs.declared.path.Step.{Step as Written}
use Rattle.svd_model.specs.Keys.{Key}
use Rattle.svd_model.specs.Stating.{value_of, paths_of}
use Rattle.svd_model.specs.Steps.{Step, same_step}
use Rattle.svd_model.specs.Visits.{Visit, visit_at, visits_of, visits}
use Rattle.svd_model.proofs.Steps.{same_step-tells}
use Rattle.svd_model.proofs.Walking.{walk-rows}
use Rattle.svd_rows.specs.Elements.{IsDistinct as AreDistinct}
use Rattle.svd_rows.specs.Forest.{Forest, Tree, leaf, node, steps}
use Rattle.svd_rows.specs.LookUps.{keys_of}
use Rattle.svd_rows.specs.Rows.{rows}
use Rattle.svd_rows.proofs.Lists.{map-map}
use Rattle.svd_rows.proofs.LookUps.{keys_of-rows}

-- the paths of siblings and of all below them, whose parent has this path
unfoldable pub paths_in : List Step → Forest Step Key → List (List Step)
paths_in path leaf = []
paths_in path (node s ks c n) = (path ++ s ∷ []) ∷ (paths_in (path ++ s ∷ []) c ++ paths_in path n)

visits-paths : (path : List Step) (down : List (List Key)) (g : Forest Step Key) → map (λ v. v.path) (visits path down g) ≡ paths_in path g
unfolding visits paths_in
visits-paths path down leaf = refl
visits-paths path down (node s ks c n) =
    ap (λ r. (path ++ s ∷ []) ∷ r)
    (map-append (λ (v : Visit). v.path) (visits (path ++ s ∷ []) (down ++ ks ∷ []) c) (visits path down n)
    ∙ ap₂ (λ a b. a ++ b) (visits-paths (path ++ s ∷ []) (down ++ ks ∷ []) c) (visits-paths path down n))

-- the names that an element gives of its source
abbrev told_names : Visit → Option (List Written)
told_names v = value_of stated_source (keys_of v.own)

visits-names : (path : List Step) (down : List (List Key)) (parent n : ℕ) (g : Forest Step Key) → map told_names (visits path down g) ≡ map (λ item. item.names) (items_in parent n g)
unfolding visits items_in
visits-names path down parent n leaf = refl
visits-names path down parent n (node s ks c g) =
    ap₂ (λ keys others. value_of stated_source keys ∷ others) (keys_of-rows (record { keys = ks; below = c }))
    (map-append told_names (visits (path ++ s ∷ []) (down ++ ks ∷ []) c) (visits path down g)
    ∙ ap₂ (λ a b. a ++ b) (visits-names (path ++ s ∷ []) (down ++ ks ∷ []) n (n + 1) c) (visits-names path down parent ((n + 1) + length (items_in n (n + 1) c)) g)
    ∙ sym (map-append (λ (item : Item). item.names) (items_in n (n + 1) c) (items_in parent ((n + 1) + length (items_in n (n + 1) c)) g)))

-- ---- as many items as paths

same_length : (path : List Step) (parent n : ℕ) (g : Forest Step Key) → length (items_in parent n g) ≡ length (paths_in path g)
unfolding items_in paths_in
same_length path parent n leaf = refl
same_length path parent n (node s ks c g) = ap suc (length-append (items_in n (n + 1) c) (items_in parent ((n + 1) + length (items_in n (n + 1) c)) g) ∙ ap₂ (λ a b. a + b) (same_length (path ++ s ∷ []) n (n + 1) c) (same_length path parent ((n + 1) + length (items_in n (n + 1) c)) g) ∙ sym (length-append (paths_in (path ++ s ∷ []) c) (paths_in path g)))

follow-append : (before xs ys : List (List Step)) (is js : List Item) → Follow before xs is → Follow (before ++ xs) ys js → Follow before (xs ++ ys) (is ++ js)
unfolding Follow
follow-append before [] ys [] js h k = subst (λ b. Follow b ys js) (append-nil before) k
follow-append before (x ∷ xs) ys (i ∷ is) js h k =
    (h.0, follow-append (before ++ x ∷ []) xs ys is js h.1 (subst (λ b. Follow b ys js) (sym (append_assoc before (x ∷ []) xs)) k))
follow-append before [] ys (i ∷ is) js h k = absurd h
follow-append before (x ∷ xs) ys [] js h k = absurd h

-- siblings behind others, among which their parent is
follow-in : (before : List (List Step)) (parent n : ℕ) (path : List Step) (g : Forest Step Key) → length before ≡ n → parent < n → get_or before parent [] ≡ path → Follow before (paths_in path g) (items_in parent n g)
unfolding Follow paths_in items_in
follow-in before parent n path leaf long earlier is = tt
follow-in before parent n path (node s ks c g) long earlier is = (
  record { step = s; earlier = omega (arith, long, earlier); is = ap (λ p. p ++ s ∷ []) (sym is); kind = refl; name = refl },
  follow-append (before ++ here ∷ []) (paths_in here c) (paths_in path g) (items_in n (n + 1) c) (items_in parent next g)
      (follow-in (before ++ here ∷ []) n (n + 1) here c (length_push before here ∙ ap (λ k. k + 1) long) (omega arith) (ap (λ k. get_or (before ++ here ∷ []) k []) (sym long) ∙ get_or-append_seam before here [] []))
      (follow-in ((before ++ here ∷ []) ++ paths_in here c) parent next path g long_all (omega (arith, earlier))
      (get_or_append_left (before ++ here ∷ []) (paths_in here c) [] parent (omega (arith, length_push before here, long, earlier)) ∙ get_or_append_left before (here ∷ []) [] parent (omega (arith, long, earlier)) ∙ is)),
)
  where
    here : List Step
    here = path ++ s ∷ []

    next : ℕ
    next = (n + 1) + length (items_in n (n + 1) c)

    long_all : length ((before ++ here ∷ []) ++ paths_in here c) ≡ (n + 1) + length (items_in n (n + 1) c)
    long_all = length-append (before ++ here ∷ []) (paths_in here c) ∙ ap₂ (λ a b. a + b) (length_push before here ∙ ap (λ k. k + 1) long) (sym (same_length here n (n + 1) c))

-- ---- no path stands twice

apart : (x y : List Step) → (x ≡ y → ⊥) → same_path x y ≡ false
apart x y differ = elim (cases_Bool (same_path x y)) [ inl p ↦ absurd (differ (same_path-tells.alone x y p)) | inr q ↦ q ]

-- the path goes through one of these steps below another path
record Passes (path : List Step) (steps : List Step) (other : List Step) : Type 0 where
  step : Step
  rest : List Step
  there : is_member same_step steps step ≡ true
  is : other ≡ path ++ (step ∷ rest)

each-weaker : {X : Type 0} (P Q : X → Type 0) → ((x : X) → P x → Q x) → (xs : List X) → AllByRecursion P xs → AllByRecursion Q xs
each-weaker P Q turn [] h = tt
each-weaker P Q turn (x ∷ xs) h = (turn x h.0, each-weaker P Q turn xs h.1)

each-append : {X : Type 0} (P : X → Type 0) (xs ys : List X) → AllByRecursion P xs → AllByRecursion P ys → AllByRecursion P (xs ++ ys)
each-append P [] ys h k = k
each-append P (x ∷ xs) ys h k = (h.0, each-append P xs ys h.1 k)

pass : (path : List Step) (g : Forest Step Key) → AllByRecursion (Passes path (steps g)) (paths_in path g)
unfolding paths_in steps
pass path leaf = tt
pass path (node s ks c g) = (
  record { step = s; rest = []; there = member-head same_step same_step-tells s (steps g); is = refl },
  each-append (Passes path (s ∷ steps g)) (paths_in (path ++ s ∷ []) c) (paths_in path g)
      (each-weaker (Passes (path ++ s ∷ []) (steps c)) (Passes path (s ∷ steps g)) (λ q p. record { step = s; rest = p.step ∷ p.rest; there = member-head same_step same_step-tells s (steps g); is = p.is ∙ append_assoc path (s ∷ []) (p.step ∷ p.rest) }) (paths_in (path ++ s ∷ []) c) (pass (path ++ s ∷ []) c))
      (each-weaker (Passes path (steps g)) (Passes path (s ∷ steps g)) (λ q p. record { step = p.step; rest = p.rest; there = member-tail same_step same_step-tells s (steps g) p.step p.there; is = p.is }) (paths_in path g) (pass path g)),
)

same-first : (path : List Step) (s t : Step) (a b : List Step) → path ++ (s ∷ a) ≡ path ++ (t ∷ b) → s ≡ t
same-first path s t a b e =
    ap (λ q. get_or q 0 s) (sym (drop-front path (s ∷ a)) ∙ ap (drop (length path)) e ∙ drop-front path (t ∷ b))

absent-apart : (s t : Step) (g : List Step) → AllByRecursion (λ other. same_step s other ≡ false) g → is_member same_step g t ≡ true → s ≡ t → ⊥
absent-apart s t [] absent there e = true≢false (sym there)
absent-apart s t (x ∷ g) absent there e = at (λ h. absent-apart s t g absent.1 h e) (same_step t x) refl there
  where
    at : (is_member same_step g t ≡ true → ⊥) → (b : Bool) → same_step t x ≡ b → (b || is_member same_step g t) ≡ true → ⊥
    at later true p h = true≢false (sym (ap (λ z. same_step z x) e ∙ p) ∙ absent.0)
    at later false p h = later h

distinct-append : (xs ys : List (List Step)) → IsDistinct same_path xs → IsDistinct same_path ys → AllByRecursion (λ x. AllByRecursion (λ y. same_path x y ≡ false) ys) xs → IsDistinct same_path (xs ++ ys)
unfolding IsDistinct
distinct-append [] ys h k cross = k
distinct-append (x ∷ xs) ys h k cross = (each-append (λ y. same_path x y ≡ false) xs ys h.0 cross.0, distinct-append xs ys h.1 k cross.1)

distinct-in : (path : List Step) (g : Forest Step Key) → AreDistinct same_step g → IsDistinct same_path (paths_in path g)
unfolding paths_in IsDistinct AreDistinct
distinct-in path leaf h = tt
distinct-in path (node s ks c g) h = (
  each-append (λ y. same_path here y ≡ false) (paths_in here c) (paths_in path g)
      (each-weaker (Passes here (steps c)) (λ y. same_path here y ≡ false) (λ y p. apart here y (λ e. longer here p.step p.rest (e ∙ p.is))) (paths_in here c) (pass here c))
      (each-weaker (Passes path (steps g)) (λ y. same_path here y ≡ false) (λ y p. apart here y (λ e. absent-apart s p.step (steps g) h.0 p.there (same-first path s p.step [] p.rest (e ∙ p.is)))) (paths_in path g) (pass path g)),
  distinct-append (paths_in here c) (paths_in path g) (distinct-in here c h.1) (distinct-in path g h.2)
      (each-weaker (Passes here (steps c)) (λ x. AllByRecursion (λ y. same_path x y ≡ false) (paths_in path g))
      (λ x q. each-weaker (Passes path (steps g)) (λ y. same_path x y ≡ false) (λ y p. apart x y (λ e. absent-apart s p.step (steps g) h.0 p.there (same-first path s p.step (q.step ∷ q.rest) p.rest (sym (append_assoc path (s ∷ []) (q.step ∷ q.rest)) ∙ sym q.is ∙ e ∙ p.is)))) (paths_in path g) (pass path g))
      (paths_in here c) (pass here c)),
)
  where
    here : List Step
    here = path ++ s ∷ []

    longer : (q : List Step) (t : Step) (rest : List Step) → q ≡ q ++ (t ∷ rest) → ⊥
    longer q t rest e = absurd (omega (arith, ap (λ l. length l) e ∙ length-append q (t ∷ rest)))

-- ---- all

pub numbered : (tree : Tree Step Key) → AreDistinct same_step tree.below → AreNumbered (rows tree) (items_of tree)
unfolding items_of Follow IsDistinct visits_of
numbered tree distinct = record {
  follow = subst (λ paths. Follow [] paths (items_of tree)) (sym paths_are) ((refl, refl, refl), follow-in ([] ∷ []) 0 1 [] tree.below refl (omega arith) refl);
  names = sym (sym (map-map told_names (visit_at (rows tree)) (paths_of (rows tree))) ∙ ap (map told_names) (walk-rows tree distinct) ∙ ap₂ (λ keys others. value_of stated_source keys ∷ others) (keys_of-rows tree) (visits-names [] (tree.keys ∷ []) 0 1 tree.below));
  distinct = subst (IsDistinct same_path) (sym paths_are) (each-weaker (Passes [] (steps tree.below)) (λ y. same_path [] y ≡ false) (λ y p. apart [] y (λ e. absurd cc)) (paths_in [] tree.below) (pass [] tree.below), distinct-in [] tree.below distinct);
}
  where
    paths_are : paths_of (rows tree) ≡ [] ∷ paths_in [] tree.below
    paths_are =
        sym (map-id (paths_of (rows tree))) ∙ sym (map-map (λ (v : Visit). v.path) (visit_at (rows tree)) (paths_of (rows tree)))
        ∙ ap (map (λ v. v.path)) (walk-rows tree distinct)
        ∙ ap (λ r. [] ∷ r) (visits-paths [] (tree.keys ∷ []) tree.below)
