-- One of the children of an element, between those before and those behind it: what it is there, and other keys and
-- another step of it.
use Rattle.std.proofs.Common.{◌≡◌, ℕ, Bool, true, false, not, ◌&&◌, ◌||◌, nat_eq, nat_le, List, [], ◌∷◌, ◌++◌, Some, option_and_then, refl, sym, ap, ap₂, ◌∙◌, eqb-true}
use Rattle.std.proofs.lemmas.Bool.{cond-false, cond-true}
use Rattle.std.specs.List.{AllByRecursion, list_any}
use Rattle.std.specs.Str.{bytes_eq}
use Rattle.patch_changes.proofs.Ranked.{set-ranked}
use Rattle.patch_edits.proofs.Contexts.{tree_with}
use Rattle.patch_edits.specs.Visits.{Below}
use Rattle.patch_sem.specs.Copying.{renamed_step}
use Rattle.patch_sem.specs.Modifying.{is_of_sibling, under_name}
use Rattle.patch_sem.specs.Selecting.{is_named, is_patched}
use Rattle.patch_sem.specs.Settings.{keys_with, with_keys}
use Rattle.svd_model.proofs.Steps.{same_step-tells}
use Rattle.svd_model.specs.Keys.{Key, rank}
use Rattle.svd_model.specs.Steps.{Kind, Step, peripheral, cluster, register, field, set, value, kind_number, same_kind, same_step}
use Rattle.svd_rows.proofs.Keys.{rows-with_keys}
use Rattle.svd_rows.proofs.Renaming.{rows-with_renamed}
use Rattle.svd_rows.proofs.Standing.{element_at-stands, in_children-split}
use Rattle.svd_rows.specs.Edits.{renamed, within}
use Rattle.svd_rows.specs.Elements.{IsAbsent, IsDistinct, child_at, element_at}
use Rattle.svd_rows.specs.Forest.{Tree, join, leaf, node, steps}
use Rattle.svd_rows.specs.Ranks.{IsRanked, set_key}
use Rattle.svd_rows.specs.RowEdits.{other_step}
use Rattle.svd_rows.specs.Rows.{rows}

pub turned : (one other : Step) → same_step one other ≡ false → same_step other one ≡ false
turned one other e = cases (same_step other one) refl
  where
    cases : (b : Bool) → same_step other one ≡ b → b ≡ false
    cases true h = sym (same_step-tells.itself one) ∙ ap (same_step one) (sym (same_step-tells.alone other one h)) ∙ e
    cases false h = refl

-- ---- siblings under other steps, and with other keys

module _ (same : Step → Step → Bool) (turns : (one other : Step) → same one other ≡ false → same other one ≡ false) (s : Step) (ks : List Key) (c n : Below) where
  replaced-absent : (new t : Step) (front : Below) → same t new ≡ false → AllByRecursion (λ other. same t other ≡ false) (steps (join front (node s ks c n))) → AllByRecursion (λ other. same t other ≡ false) (steps (join front (node new ks c n)))
  unfolding steps join
  replaced-absent new t leaf differ h = (differ, h.1)
  replaced-absent new t (node other os d front) differ h = (h.0, replaced-absent new t front differ h.1)

  -- under a step that none of the others has, all are distinct still
  pub distinct-renamed : (new : Step) (front : Below) → IsAbsent same new front → IsAbsent same new n → IsDistinct same (join front (node s ks c n)) → IsDistinct same (join front (node new ks c n))
  unfolding IsDistinct steps join
  distinct-renamed new leaf before behind distinct = (behind, distinct.1, distinct.2)
  distinct-renamed new (node t ts d front) before behind distinct =
      (replaced-absent new t front (turns new t before.0) distinct.0, distinct.1, distinct-renamed new front before.1 behind distinct.2)

pub distinct-keys : (same : Step → Step → Bool) (s : Step) (ks new : List Key) (c n front : Below) → IsDistinct same (join front (node s ks c n)) → IsDistinct same (join front (node s new c n))
unfolding IsDistinct steps join
distinct-keys same s ks new c n leaf distinct = distinct
distinct-keys same s ks new c n (node t ts d front) distinct = (kept front distinct.0, distinct.1, distinct-keys same s ks new c n front distinct.2)
  where
    kept : (front : Below) → AllByRecursion (λ other. same t other ≡ false) (steps (join front (node s ks c n))) → AllByRecursion (λ other. same t other ≡ false) (steps (join front (node s new c n)))
    kept leaf h = h
    kept (node u us e front) h = (h.0, kept front h.1)

-- ---- siblings with one of them between the others

module _ (s : Step) (ks : List Key) (c n : Below) where
  -- no other sibling has its step
  pub absent-behind : (front : Below) → IsDistinct same_step (join front (node s ks c n)) → IsAbsent same_step s n
  unfolding IsDistinct join
  absent-behind leaf distinct = distinct.0
  absent-behind (node t ts d front) distinct = absent-behind front distinct.2

  met : (t : Step) (front : Below) → AllByRecursion (λ other. same_step t other ≡ false) (steps (join front (node s ks c n))) → same_step t s ≡ false
  unfolding steps join
  met t leaf h = h.0
  met t (node other os d front) h = met t front h.1

  pub absent-before : (front : Below) → IsDistinct same_step (join front (node s ks c n)) → IsAbsent same_step s front
  unfolding IsDistinct steps join
  absent-before leaf distinct = tt
  absent-before (node t ts d front) distinct = (turned t s (met t front distinct.0), absent-before front distinct.2)

  child_at-split : (front : Below) → IsAbsent same_step s front → child_at (same_step s) (join front (node s ks c n)) ≡ Some (tree_with ks c)
  unfolding child_at steps join
  child_at-split leaf absent = cond-true (same_step s s) (Some (tree_with ks c)) (child_at (same_step s) n) (same_step-tells.itself s)
  child_at-split (node t ts d front) absent =
      cond-false (same_step s t) (Some (tree_with ts d)) (child_at (same_step s) (join front (node s ks c n))) absent.0 ∙ child_at-split front absent.1

  renamed-absent : (new : Step) (f : Below) → IsAbsent same_step s f → renamed (other_step same_step s new) f ≡ f
  unfolding renamed steps
  renamed-absent new leaf absent = refl
  renamed-absent new (node t ts d others) absent = ap₂ (λ (u : Step) (g : Below). node u ts d g) (cond-false (same_step s t) new t absent.0) (renamed-absent new others absent.1)

  renamed-split : (new : Step) (front : Below) → IsAbsent same_step s front → IsAbsent same_step s n → renamed (other_step same_step s new) (join front (node s ks c n)) ≡ join front (node new ks c n)
  unfolding renamed steps join
  renamed-split new leaf absent behind = ap₂ (λ (u : Step) (g : Below). node u ks c g) (cond-true (same_step s s) new s (same_step-tells.itself s)) (renamed-absent new n behind)
  renamed-split new (node t ts d front) absent behind = ap₂ (λ (u : Step) (g : Below). node u ts d g) (cond-false (same_step s t) new t absent.0) (renamed-split new front absent.1 behind)

  -- ---- its rows

  pub under-name : (keys : List Key) (front : Below) (name : List ℕ) → IsDistinct same_step (join front (node s ks c n)) → under_name s name (rows (tree_with keys (join front (node s ks c n)))) ≡ rows (tree_with keys (join front (node (renamed_step name s) ks c n)))
  unfolding within
  under-name keys front name distinct =
      sym (rows-with_renamed [] (other_step same_step s (renamed_step name s)) (tree_with keys (join front (node s ks c n))))
      ∙ ap (λ (f : Below). rows (tree_with keys f)) (renamed-split (renamed_step name s) front (absent-before front distinct) (absent-behind front distinct))

one-set : (keys : List Key) (s : Step) (c n front : Below) (one : Key) (ks : List Key) → IsDistinct same_step (join front (node s ks c n)) → IsRanked rank ks → with_keys (s ∷ []) (one ∷ []) (rows (tree_with keys (join front (node s ks c n)))) ≡ rows (tree_with keys (join front (node s (set_key rank one ks) c n)))
unfolding with_keys within element_at
one-set keys s c n front one ks distinct ranked =
    sym (rows-with_keys same_step same_step-tells rank (s ∷ []) one (tree_with keys (join front (node s ks c n))) (tree_with ks c)
    (element_at-stands same_step same_step-tells (s ∷ []) (tree_with keys (join front (node s ks c n))) (tree_with ks c) distinct
    (ap (option_and_then (element_at [])) (child_at-split s ks c n front (absent-before s ks c n front distinct)))) ranked)
    ∙ ap (λ (f : Below). rows (tree_with keys f))
    (in_children-split same_step same_step-tells s (λ (tree : Tree Step Key). tree_with (set_key rank one tree.keys) tree.below) front (tree_with ks c) n (absent-before s ks c n front distinct) (absent-behind s ks c n front distinct))

-- keys that are set among the rows are set in the tree
pub all-set : (keys : List Key) (s : Step) (c n front : Below) (new : List Key) (ks : List Key) → IsDistinct same_step (join front (node s ks c n)) → IsRanked rank ks → with_keys (s ∷ []) new (rows (tree_with keys (join front (node s ks c n)))) ≡ rows (tree_with keys (join front (node s (keys_with new ks) c n)))
unfolding with_keys keys_with
all-set keys s c n front [] ks distinct ranked = refl
all-set keys s c n front (one ∷ new) ks distinct ranked =
    ap (with_keys (s ∷ []) new) (one-set keys s c n front one ks distinct ranked)
    ∙ all-set keys s c n front new (set_key rank one ks) (distinct-keys same_step s ks (set_key rank one ks) c n front distinct) (set-ranked one ks ranked)

-- ---- names of siblings

pub any-append : {A : Type 0} (test : A → Bool) (xs ys : List A) → list_any test (xs ++ ys) ≡ (list_any test xs || list_any test ys)
any-append test [] ys = refl
any-append test (x ∷ xs) ys = cases (test x) (any-append test xs ys)
  where
    cases : (b : Bool) → list_any test (xs ++ ys) ≡ (list_any test xs || list_any test ys) → (b || list_any test (xs ++ ys)) ≡ ((b || list_any test xs) || list_any test ys)
    cases true more = refl
    cases false more = more

-- none of either where there is none of both
pub none-before : {A : Type 0} (test : A → Bool) (xs ys : List A) → list_any test (xs ++ ys) ≡ false → list_any test xs ≡ false
none-before test xs ys e = first (list_any test xs) (list_any test ys) (sym (any-append test xs ys) ∙ e)
  where
    first : (a b : Bool) → (a || b) ≡ false → a ≡ false
    first true b is = is
    first false b is = refl

pub none-behind : {A : Type 0} (test : A → Bool) (xs ys : List A) → list_any test (xs ++ ys) ≡ false → list_any test ys ≡ false
none-behind test xs ys e = second (list_any test xs) (list_any test ys) (sym (any-append test xs ys) ∙ e)
  where
    second : (a b : Bool) → (a || b) ≡ false → b ≡ false
    second true b is = cc
    second false b is = is

others-named : (name : List ℕ) (s : Step) (xs : List Step) → AllByRecursion (λ other. same_step s other ≡ false) xs → list_any (is_of_sibling name s) xs ≡ list_any (is_named name) xs
others-named name s [] absent = refl
others-named name s (x ∷ xs) absent =
    ap₂ (λ (a b : Bool). a || b) (ap (λ (b : Bool). is_named name x && not b) absent.0 ∙ kept (is_named name x)) (others-named name s xs absent.1)
  where
    kept : (b : Bool) → (b && true) ≡ b
    kept true = refl
    kept false = refl

-- a sibling has the name: one of the others
pub sibling-named : (name : List ℕ) (s : Step) (front n : List Step) → AllByRecursion (λ other. same_step s other ≡ false) front → AllByRecursion (λ other. same_step s other ≡ false) n → list_any (is_of_sibling name s) (front ++ s ∷ n) ≡ list_any (is_named name) (front ++ n)
sibling-named name s front n before behind =
    any-append (is_of_sibling name s) front (s ∷ n)
    ∙ ap₂ (λ (a b : Bool). a || b) (others-named name s front before)
    (ap (λ (b : Bool). (is_named name s && not b) || list_any (is_of_sibling name s) n) (same_step-tells.itself s) ∙ itself (is_named name s) ∙ others-named name s n behind)
    ∙ sym (any-append (is_named name) front n)
  where
    itself : (b : Bool) → ((b && false) || list_any (is_of_sibling name s) n) ≡ list_any (is_of_sibling name s) n
    itself true = refl
    itself false = refl

-- ---- a name that no sibling has

-- is it the number of a kind that patches know?
abbrev known : ℕ → Bool
known n = nat_le n 3

by-number : (kind : Kind) → is_patched kind ≡ known (kind_number kind)
by-number peripheral = refl
by-number cluster = refl
by-number register = refl
by-number field = refl
by-number set = refl
by-number value = refl

kinds-known : (one other : Kind) → same_kind one other ≡ true → is_patched one ≡ is_patched other
kinds-known one other e = by-number one ∙ ap known (eqb-true (kind_number one) (kind_number other) e) ∙ sym (by-number other)

-- a step of that name is another than those of which none has the name
pub fresh : (name : List ℕ) (s : Step) (others : List Step) → is_patched s.kind ≡ true → list_any (is_named name) others ≡ false → AllByRecursion (λ other. same_step (renamed_step name s) other ≡ false) others
unfolding is_named same_step
fresh name s [] patched none = tt
fresh name s (x ∷ others) patched none =
    (differ (same_kind s.kind x.kind) (is_patched x.kind) (bytes_eq name x.name) (nat_eq 0 x.number) (λ e. sym (kinds-known s.kind x.kind e) ∙ patched) (first (is_patched x.kind && bytes_eq name x.name) (list_any (is_named name) others) none), fresh name s others patched (rest (is_patched x.kind && bytes_eq name x.name) (list_any (is_named name) others) none))
  where
    first : (a b : Bool) → (a || b) ≡ false → a ≡ false
    first true b e = e
    first false b e = refl

    rest : (a b : Bool) → (a || b) ≡ false → b ≡ false
    rest true b e = cc
    rest false b e = e

    differ : (kind_is known_is name_is number_is : Bool) → (kind_is ≡ true → known_is ≡ true) → (known_is && name_is) ≡ false → (kind_is && (name_is && number_is)) ≡ false
    differ true true true number_is more none = cc
    differ true true false number_is more none = refl
    differ true false name_is number_is more none = let it = more refl in cc
    differ false known_is name_is number_is more none = refl
