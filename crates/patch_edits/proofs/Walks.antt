-- A command in the tree is the command at each of its parents in turn, among the flat rows: for edits that leave no more
-- elements than there were.
use Rattle.std.proofs.Common.{◌≡◌, ◌≤◌, ℕ, ◌+◌, Bool, true, false, cond, List, [], ◌∷◌, ◌++◌, map, Option, Some, None, Ok, refl, sym, ap, ap₂, ◌∙◌, subst, append-nil, append_assoc, arith, map-id}
use Rattle.std.specs.Prelude.{⊤}
use Rattle.patch_model.specs.Acts.{Order}
use Rattle.patch_sem.proofs.Outcomes.{both_ok}
use Rattle.patch_sem.specs.Patching.{acted, applied, applied_at, applied_to, places_of, put_inside, within_limit}
use Rattle.patch_sem.specs.Selecting.{Rows, kind_at, last_kind, selects}
use Rattle.patch_sem.specs.Steps.{Outcome, ◌>>=◌}
use Rattle.patch_edits.proofs.Binds.{bind-assoc, bind-ok, bind-same, given, given_is}
use Rattle.patch_edits.proofs.Parents.{AllClear, all-clear, applied-append, arranged, arranged-done, clear-append, clear-longer, clear-more, clear-of-one, clear-own, count-tree, kind-longer, nothing_clear, nowhere, paths-append, paths-down, paths_from, whole}
use Rattle.patch_edits.proofs.Contexts.{Clear, at, clear-siblings, fewer-in, in_limit, inner, inside-context, put-context, tree_with}
use Rattle.patch_edits.specs.Visits.{Below, each, only_if, visited}
use Rattle.svd_model.specs.Counting.{elements_in}
use Rattle.svd_model.specs.Facts.{element_limit, elements_of, is_counted}
use Rattle.svd_model.specs.Keys.{Key}
use Rattle.svd_model.specs.Steps.{Kind, Step, same_step}
use Rattle.svd_rows.proofs.Finding.{paths-rows}
use Rattle.svd_rows.specs.Elements.{IsDistinct, count, found, found_in, step_down}
use Rattle.svd_rows.specs.Forest.{leaf, node, steps}
use Rattle.svd_rows.specs.LookUps.{element_paths}
use Rattle.svd_rows.specs.Rows.{own, rows, under_path}

-- ---- an edit and what it is among the rows

-- the edit of what is below an element is the deed among the element's rows
abbrev pub Agrees : Order → (Option Kind → Below → Outcome Below) → Type 0
Agrees order edit =
    (kind : Option Kind) (keys : List Key) (f : Below) → IsDistinct same_step f
    → acted order.line order.deed kind (rows (tree_with keys f)) ≡ (edit kind f >>= (λ new. Ok (rows (tree_with keys new))))

-- the same where something holds of what is below the element
abbrev pub AgreesWhere : (Option Kind → Below → Type 0) → Order → (Option Kind → Below → Outcome Below) → Type 0
AgreesWhere Holds order edit =
    (kind : Option Kind) (keys : List Key) (f : Below) → Holds kind f → IsDistinct same_step f
    → acted order.line order.deed kind (rows (tree_with keys f)) ≡ (edit kind f >>= (λ new. Ok (rows (tree_with keys new))))

-- what holds below an element of a kind holds below each of its children, and of fewer of them
abbrev pub GoesDown : (Option Kind → Below → Type 0) → Type 0
GoesDown Holds =
    (kind : Option Kind) (s : Step) (ks : List Key) (c n : Below) → Holds kind (node s ks c n) → Holds (Some s.kind) c × Holds kind n

-- and leaves no more elements than there were
abbrev pub Shrinks : (Option Kind → Below → Outcome Below) → Type 0
Shrinks edit = (kind : Option Kind) (f new : Below) → edit kind f ≡ Ok new → elements_in new ≤ elements_in f

-- ---- counts

same-count : (one other : Below) → given one ≡ given other → elements_in other ≤ elements_in one
same-count one other e = subst (λ (g : Below). elements_in g ≤ elements_in one) (given_is one other e) (omega arith)

module _ (test : Step → Bool) (edit : Kind → Below → Outcome Below) (shrinks : (kind : Kind) (f new : Below) → edit kind f ≡ Ok new → elements_in new ≤ elements_in f) where
  only-fewer : (b : Bool) (kind : Kind) (c new : Below) → only_if b (edit kind c) c ≡ Ok new → elements_in new ≤ elements_in c
  only-fewer true kind c new e = shrinks kind c new e
  only-fewer false kind c new e = same-count c new e

  pub each-fewer : (f new : Below) → each test edit f ≡ Ok new → elements_in new ≤ elements_in f
  unfolding each count
  each-fewer leaf new e = same-count leaf new e
  each-fewer (node s ks c n) new e =
      let first = both_ok (only_if (test s) (edit s.kind c) c) (λ below. each test edit n >>= (λ others. Ok (node s ks below others))) new e in
      let second = both_ok (each test edit n) (λ others. Ok (node s ks first.0 others)) new first.2 in
      subst (λ (g : Below). elements_in g ≤ elements_in (node s ks c n)) (given_is (node s ks first.0 second.0) new second.2)
      (sums (cond (is_counted s) 1 0) (elements_in first.0) (elements_in second.0) (elements_in c) (elements_in n) (only-fewer (test s) s.kind c first.0 first.1) (each-fewer n second.0 second.1))
    where
      sums : (a b c d e : ℕ) → b ≤ d → c ≤ e → a + (b + c) ≤ a + (d + e)
      sums a b c d e less fewer = omega (arith, less, fewer)

pub visited-fewer : (edit : Option Kind → Below → Outcome Below) → Shrinks edit → (tests : List (Step → Bool)) (kind : Option Kind) (f new : Below) → visited edit tests kind f ≡ Ok new → elements_in new ≤ elements_in f
unfolding visited
visited-fewer edit shrinks [] kind f new e = shrinks kind f new e
visited-fewer edit shrinks (test ∷ tests) kind f new e =
    each-fewer test (λ inner. visited edit tests (Some inner)) (λ inner. visited-fewer edit shrinks tests (Some inner)) f new e

-- ---- one parent

module _ (Holds : Option Kind → Below → Type 0) (down : GoesDown Holds) (order : Order) (edit : Option Kind → Below → Outcome Below) (agrees : AgreesWhere Holds order edit) (shrinks : Shrinks edit) where
  one-parent : (path : List Step) (keys : List Key) (f : Below) (before after : Rows) → Holds (kind_at path) f → IsDistinct same_step f → Clear path before → Clear path after → elements_of (before ++ (at path keys f ++ after)) ≤ element_limit → applied_at order path (before ++ (at path keys f ++ after)) ≡ (edit (kind_at path) f >>= (λ new. Ok (before ++ (at path keys new ++ after))))
  unfolding applied_at
  one-parent path keys f before after holds distinct none none_after few =
      ap (λ (seen : Rows). acted order.line order.deed (kind_at path) seen >>= put) (inside-context path (rows (tree_with keys f)) before after none none_after)
      ∙ ap (λ (made : Outcome Rows). made >>= put) (agrees (kind_at path) keys f holds distinct)
      ∙ bind-assoc (edit (kind_at path) f) (λ new. Ok (rows (tree_with keys new))) put
      ∙ bind-same (edit (kind_at path) f) (λ new. put (rows (tree_with keys new))) (λ new. Ok (before ++ (at path keys new ++ after))) settled
    where
      put : Rows → Outcome Rows
      put new = within_limit (put_inside path new (before ++ (at path keys f ++ after)))

      settled : (new : Below) → edit (kind_at path) f ≡ Ok new → put (rows (tree_with keys new)) ≡ Ok (before ++ (at path keys new ++ after))
      settled new is =
          ap within_limit (put-context path keys f (rows (tree_with keys new)) before after none none_after)
          ∙ in_limit (before ++ (at path keys new ++ after)) (fewer-in path keys f new before after (shrinks (kind_at path) f new is) few)

  -- ---- the parents to which tests lead from one element

  abbrev Walks : List (Step → Bool) → Type 0
  Walks tests =
      (path : List Step) (keys : List Key) (f : Below) (before after : Rows) → Holds (kind_at path) f → IsDistinct same_step f → Clear path before → Clear path after
      → elements_of (before ++ (at path keys f ++ after)) ≤ element_limit
      → applied_to order (paths_from path (found tests (tree_with keys f))) (before ++ (at path keys f ++ after))
      ≡ (visited edit tests (kind_at path) f >>= (λ new. Ok (before ++ (at path keys new ++ after))))

  walks-here : Walks []
  unfolding found visited applied_to
  walks-here path keys f before after holds distinct none none_after few =
      ap (λ (p : List Step). applied_at order p (before ++ (at path keys f ++ after)) >>= applied_to order []) (append-nil path)
      ∙ ap (λ (made : Outcome Rows). made >>= (λ all. Ok all)) (one-parent path keys f before after holds distinct none none_after few)
      ∙ bind-ok (edit (kind_at path) f >>= (λ new. Ok (before ++ (at path keys new ++ after))))

  -- ---- one sibling after the other

  abbrev WalksEach : (Step → Bool) → List (Step → Bool) → Type 0
  WalksEach test tests =
      (kind : Option Kind) (path : List Step) (f : Below) (done after : Rows) → Holds kind f → IsDistinct same_step f → AllClear path f done → AllClear path f after
      → elements_of (done ++ (inner path f ++ after)) ≤ element_limit
      → applied_to order (paths_from path (found_in test (found tests) f)) (done ++ (inner path f ++ after))
      ≡ (each test (λ kind. visited edit tests (Some kind)) f >>= (λ new. Ok (done ++ (inner path new ++ after))))

  -- the first sibling, between what is done and the rest
  one-sibling : (tests : List (Step → Bool)) → Walks tests → (b : Bool) (path : List Step) (s : Step) (ks : List Key) (c : Below) (done rest : Rows) → Holds (Some s.kind) c → IsDistinct same_step c → Clear (path ++ s ∷ []) done → Clear (path ++ s ∷ []) rest
      → elements_of (done ++ (at (path ++ s ∷ []) ks c ++ rest)) ≤ element_limit
      → applied_to order (paths_from path (cond b (map (step_down s) (found tests (tree_with ks c))) [])) (done ++ (at (path ++ s ∷ []) ks c ++ rest))
      ≡ (only_if b (visited edit tests (Some s.kind) c) c >>= (λ new. Ok (done ++ (at (path ++ s ∷ []) ks new ++ rest))))
  unfolding applied_to
  one-sibling tests walks true path s ks c done rest holds distinct none none_rest few =
      ap (λ (paths : List (List Step)). applied_to order paths (done ++ (at (path ++ s ∷ []) ks c ++ rest))) (paths-down path s (found tests (tree_with ks c)))
      ∙ walks (path ++ s ∷ []) ks c done rest (subst (λ (kind : Option Kind). Holds kind c) (sym (kind-longer None path s)) holds) distinct none none_rest few
      ∙ ap (λ (kind : Option Kind). visited edit tests kind c >>= (λ new. Ok (done ++ (at (path ++ s ∷ []) ks new ++ rest)))) (kind-longer None path s)
  one-sibling tests walks false path s ks c done rest holds distinct none none_rest few = refl

  walks-each : (test : Step → Bool) (tests : List (Step → Bool)) → Walks tests → WalksEach test tests
  unfolding each found_in applied_to steps IsDistinct
  walks-each test tests walks kind path leaf done after holds distinct none none_after few = refl
  walks-each test tests walks kind path (node s ks c n) done after holds distinct none none_after few =
      ap₂ (λ (paths : List (List Step)) (all : Rows). applied_to order paths all)
      (paths-append path (cond (test s) (map (step_down s) (found tests (tree_with ks c))) []) (found_in test (found tests) n))
      (arranged path s ks c n done after)
      ∙ applied-append order (paths_from path (cond (test s) (map (step_down s) (found tests (tree_with ks c))) [])) (paths_from path (found_in test (found tests) n)) (done ++ (at (path ++ s ∷ []) ks c ++ rest))
      ∙ ap (λ (made : Outcome Rows). made >>= applied_to order (paths_from path (found_in test (found tests) n)))
      (one-sibling tests walks (test s) path s ks c done rest (down kind s ks c n holds).0 distinct.1 none.0 (clear-append (path ++ s ∷ []) (inner path n) after (clear-siblings path s n distinct.0) none_after.0) few_here)
      ∙ bind-assoc here (λ new. Ok (done ++ (at (path ++ s ∷ []) ks new ++ rest))) (applied_to order (paths_from path (found_in test (found tests) n)))
      ∙ bind-same here (λ new. applied_to order (paths_from path (found_in test (found tests) n)) (done ++ (at (path ++ s ∷ []) ks new ++ rest)))
      (λ new. (each test edits n >>= (λ others. Ok (node s ks new others))) >>= put)
      (λ new is. others-done new (walks-each test tests walks kind path n (done ++ at (path ++ s ∷ []) ks new) after (down kind s ks c n holds).1 distinct.2
      (clear-more path (steps n) done (at (path ++ s ∷ []) ks new) none.1 (clear-of-one path s ks new (steps n) distinct.0)) none_after.1
      (subst (λ (all : Rows). elements_of all ≤ element_limit) (sym (append_assoc done (at (path ++ s ∷ []) ks new) rest))
      (fewer-in (path ++ s ∷ []) ks c new done rest (only-fewer test edits edits_shrink (test s) s.kind c new is) few_here))))
      ∙ sym (bind-assoc here (λ new. each test edits n >>= (λ others. Ok (node s ks new others))) put)
    where
      rest : Rows
      rest = inner path n ++ after

      edits : Kind → Below → Outcome Below
      edits kind = visited edit tests (Some kind)

      edits_shrink : (kind : Kind) (f new : Below) → edits kind f ≡ Ok new → elements_in new ≤ elements_in f
      edits_shrink kind f new e = visited-fewer edit shrinks tests (Some kind) f new e

      here : Outcome Below
      here = only_if (test s) (edits s.kind c) c

      put : Below → Outcome Rows
      put new = Ok (done ++ (inner path new ++ after))

      few_here : elements_of (done ++ (at (path ++ s ∷ []) ks c ++ rest)) ≤ element_limit
      few_here = subst (λ (all : Rows). elements_of all ≤ element_limit) (arranged path s ks c n done after) few

      others-done : (new : Below)
          → applied_to order (paths_from path (found_in test (found tests) n)) ((done ++ at (path ++ s ∷ []) ks new) ++ rest) ≡ (each test edits n >>= (λ others. Ok ((done ++ at (path ++ s ∷ []) ks new) ++ (inner path others ++ after))))
          → applied_to order (paths_from path (found_in test (found tests) n)) (done ++ (at (path ++ s ∷ []) ks new ++ rest)) ≡ ((each test edits n >>= (λ others. Ok (node s ks new others))) >>= put)
      others-done new more =
          ap (applied_to order (paths_from path (found_in test (found tests) n))) (sym (append_assoc done (at (path ++ s ∷ []) ks new) rest))
          ∙ more
          ∙ bind-same (each test edits n) (λ others. Ok ((done ++ at (path ++ s ∷ []) ks new) ++ (inner path others ++ after))) (λ others. put (node s ks new others)) (λ others is. ap Ok (sym (arranged-done path s ks new others done after)))
          ∙ sym (bind-assoc (each test edits n) (λ others. Ok (node s ks new others)) put)

  -- ---- any parents

  walks : (tests : List (Step → Bool)) → Walks tests
  unfolding found visited
  walks [] path keys f before after holds distinct none none_after few = walks-here path keys f before after holds distinct none none_after few
  walks (test ∷ tests) path keys f before after holds distinct none none_after few =
      ap (applied_to order (paths_from path (found_in test (found tests) f))) (whole path keys f before after)
      ∙ walks-each test tests (walks tests) (kind_at path) path f (before ++ map (under_path path) (own keys)) after holds distinct
      (all-clear path (before ++ map (under_path path) (own keys)) (steps f) (λ step. clear-append (path ++ step ∷ []) before (map (under_path path) (own keys)) (clear-longer path step before none) (clear-own path step keys)))
      (all-clear path after (steps f) (λ step. clear-longer path step after none_after))
      (subst (λ (all : Rows). elements_of all ≤ element_limit) (whole path keys f before after) few)
      ∙ bind-same (each test (λ kind. visited edit tests (Some kind)) f) (λ new. Ok ((before ++ map (under_path path) (own keys)) ++ (inner path new ++ after))) (λ new. Ok (before ++ (at path keys new ++ after)))
      (λ new is. ap Ok (sym (whole path keys new before after)))

  -- a command in the tree is the command among the rows
  pub walk-applied-where : (keys : List Key) (f : Below) → Holds None f → IsDistinct same_step f → elements_in f ≤ element_limit → places_of order.deed order.parents (rows (tree_with keys f)) ≡ element_paths (map selects order.parents) (rows (tree_with keys f))
      → applied order (rows (tree_with keys f)) ≡ (visited edit (map selects order.parents) None f >>= (λ new. Ok (rows (tree_with keys new))))
  unfolding applied last_kind
  walk-applied-where keys f holds distinct few places =
      ap₂ (λ (paths : List (List Step)) (all : Rows). applied_to order paths all)
      (places ∙ paths-rows (map selects order.parents) (tree_with keys f) ∙ sym (map-id (map (λ part. part.0) (found (map selects order.parents) (tree_with keys f)))))
      (sym (nowhere keys f))
      ∙ walks (map selects order.parents) [] keys f [] [] holds distinct no_rows no_rows (subst (λ (n : ℕ). n ≤ element_limit) (sym counted) few)
      ∙ bind-same (visited edit (map selects order.parents) None f) (λ new. Ok ([] ++ (at [] keys new ++ []))) (λ new. Ok (rows (tree_with keys new))) (λ new is. ap Ok (nowhere keys new))
    where
      no_rows : Clear [] []
      no_rows = nothing_clear

      counted : elements_of ([] ++ (at [] keys f ++ [])) ≡ elements_in f
      counted = ap elements_of (nowhere keys f) ∙ count-tree (tree_with keys f)

-- where nothing has to hold
pub walk-applied : (order : Order) (edit : Option Kind → Below → Outcome Below) → Agrees order edit → Shrinks edit → (keys : List Key) (f : Below) → IsDistinct same_step f → elements_in f ≤ element_limit → places_of order.deed order.parents (rows (tree_with keys f)) ≡ element_paths (map selects order.parents) (rows (tree_with keys f))
    → applied order (rows (tree_with keys f)) ≡ (visited edit (map selects order.parents) None f >>= (λ new. Ok (rows (tree_with keys new))))
walk-applied order edit agrees shrinks keys f distinct few places =
    walk-applied-where (λ kind g. ⊤) (λ kind s ks c n holds. (tt, tt)) order edit (λ kind keys g holds apart. agrees kind keys g apart) shrinks keys f tt distinct few places
