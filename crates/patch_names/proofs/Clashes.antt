-- The first two names that a prefix alone tells apart, sought one name after the other.
use Rattle.std.proofs.Common.{◌≡◌, ◌<◌, ◌+◌, length, drop, get_or, ℕ, Bool, true, false, cond, List, [], ◌∷◌, ◌++◌, map, find, Option, None, Some, option_map, refl, sym, ap, ap₂, ◌∙◌, subst}
use Rattle.std.specs.Cmp.Lexicographic.{bytes_decides}
use Rattle.std.specs.List.{AllByRecursion, IsDistinct as AreDistinct}
use Rattle.std.specs.Map.{lookup}
use Rattle.std.specs.Option.{option_or}
use Rattle.std.specs.Str.{bytes_eq}
use Rattle.std.proofs.lemmas.List.{drop_more, map-append}
use Rattle.std.proofs.lemmas.List.Folds.{find-append}
use Rattle.patch_sem.specs.Stripping.{first_clash, meet, pairs_behind, stripped}
use Rattle.patch_names.specs.Meeting.{met, under_name}

same_answers : (x y : Bool) → (x ≡ true → y ≡ true) → (y ≡ true → x ≡ true) → x ≡ y
same_answers true y h k = sym (h refl)
same_answers false true h k = k refl
same_answers false false h k = refl

bytes_turn : (a b : List ℕ) → bytes_eq a b ≡ bytes_eq b a
bytes_turn a b =
    let one = bytes_decides a b in
    let two = bytes_decides b a in
    same_answers (bytes_eq a b) (bytes_eq b a) (λ e. two.1 (sym (one.0 e))) (λ e. one.1 (sym (two.0 e)))

module _ (prefix : List ℕ) where
  -- names under what they are without the prefix
  abbrev pub seen_of : List (List ℕ) → List (List ℕ × List ℕ)
  seen_of names = map (λ name. (stripped prefix name, name)) names

  abbrev kept : List (List ℕ × List ℕ) → List (List ℕ)
  kept seen = map (λ entry. entry.1) seen

  -- what is still to be sought: a further name among those before it
  sought : (later : List ℕ) (before : List (List ℕ)) → find (meet prefix) (map (λ earlier. (earlier, later)) before) ≡ option_map (λ earlier. (earlier, later)) (under_name (stripped prefix later) (seen_of before))
  sought later [] = refl
  sought later (earlier ∷ before) =
      ap (λ (b : Bool). cond b (Some (earlier, later)) (find (meet prefix) (map (λ one. (one, later)) before))) (bytes_turn (stripped prefix earlier) (stripped prefix later))
      ∙ cases (bytes_eq (stripped prefix later) (stripped prefix earlier)) (sought later before)
    where
      cases : (b : Bool) → find (meet prefix) (map (λ one. (one, later)) before) ≡ option_map (λ one. (one, later)) (under_name (stripped prefix later) (seen_of before))
          → cond b (Some (earlier, later)) (find (meet prefix) (map (λ one. (one, later)) before)) ≡ option_map (λ one. (one, later)) (cond b (Some earlier) (under_name (stripped prefix later) (seen_of before)))
      cases true more = refl
      cases false more = more

  next : (before : List (List ℕ)) (later : List ℕ) (others : List (List ℕ)) → find (meet prefix) (pairs_behind before (later ∷ others)) ≡ option_or (find (meet prefix) (map (λ earlier. (earlier, later)) before)) (find (meet prefix) (pairs_behind (before ++ later ∷ []) others))
  unfolding pairs_behind
  next before later others = find-append (meet prefix) (map (λ earlier. (earlier, later)) before) (pairs_behind (before ++ later ∷ []) others)

  -- those that were seen are names under what they are without the prefix, and the rest decides
  pub record Sought (all : List (List ℕ)) (seen : List (List ℕ × List ℕ)) (left : List (List ℕ)) : Type 0 where
    pub seen_are : seen ≡ seen_of (kept seen)
    pub rest : first_clash prefix all ≡ find (meet prefix) (pairs_behind (kept seen) left)

  pub sought-start : (all : List (List ℕ)) (seen : List (List ℕ × List ℕ)) (left : List (List ℕ)) → seen ≡ [] → left ≡ all → Sought all seen left
  unfolding first_clash
  sought-start all seen left none same = record {
    seen_are = none ∙ ap (λ (entries : List (List ℕ × List ℕ)). seen_of (kept entries)) (sym none);
    rest = ap₂ (λ (entries : List (List ℕ × List ℕ)) (names : List (List ℕ)). find (meet prefix) (pairs_behind (kept entries) names)) (sym none) (sym same);
  }

  met-among : (all : List (List ℕ)) (seen : List (List ℕ × List ℕ)) (left : List (List ℕ)) (later : List ℕ) (found : Option (List ℕ)) → Sought all seen left → met prefix later seen ≡ found → find (meet prefix) (map (λ earlier. (earlier, later)) (kept seen)) ≡ option_map (λ earlier. (earlier, later)) found
  unfolding met
  met-among all seen left later found so_far is =
      sought later (kept seen)
      ∙ ap (option_map (λ earlier. (earlier, later))) (ap (under_name (stripped prefix later)) (sym so_far.seen_are) ∙ is)

  pub sought-found : (all : List (List ℕ)) (seen : List (List ℕ × List ℕ)) (left : List (List ℕ)) (later : List ℕ) (others : List (List ℕ)) (earlier : List ℕ) → Sought all seen left → left ≡ later ∷ others → met prefix later seen ≡ Some earlier → first_clash prefix all ≡ Some (earlier, later)
  sought-found all seen left later others earlier so_far is found =
      so_far.rest
      ∙ ap (λ (names : List (List ℕ)). find (meet prefix) (pairs_behind (kept seen) names)) is
      ∙ next (kept seen) later others
      ∙ ap (λ (o : Option (List ℕ × List ℕ)). option_or o (find (meet prefix) (pairs_behind (kept seen ++ later ∷ []) others))) (met-among all seen left later (Some earlier) so_far found)

  pub sought-more : (all : List (List ℕ)) (seen : List (List ℕ × List ℕ)) (left : List (List ℕ)) (later : List ℕ) (others : List (List ℕ)) (new : List (List ℕ × List ℕ)) → Sought all seen left → left ≡ later ∷ others → met prefix later seen ≡ None → new ≡ seen ++ (stripped prefix later, later) ∷ [] → Sought all new others
  sought-more all seen left later others new so_far is none grown = record {
    seen_are =
        grown
        ∙ ap (λ (front : List (List ℕ × List ℕ)). front ++ (stripped prefix later, later) ∷ []) so_far.seen_are
        ∙ sym (map-append (λ name. (stripped prefix name, name)) (kept seen) (later ∷ []))
        ∙ ap seen_of (sym (map-append (λ entry. entry.1) seen ((stripped prefix later, later) ∷ [])) ∙ ap kept (sym grown));
    rest =
        so_far.rest
        ∙ ap (λ (names : List (List ℕ)). find (meet prefix) (pairs_behind (kept seen) names)) is
        ∙ next (kept seen) later others
        ∙ ap (λ (o : Option (List ℕ × List ℕ)). option_or o (find (meet prefix) (pairs_behind (kept seen ++ later ∷ []) others))) (met-among all seen left later None so_far none)
        ∙ ap (λ (names : List (List ℕ)). find (meet prefix) (pairs_behind names others)) (sym (map-append (λ entry. entry.1) seen ((stripped prefix later, later) ∷ [])) ∙ ap kept (sym grown));
  }

  pub sought-none : (all : List (List ℕ)) (seen : List (List ℕ × List ℕ)) (left : List (List ℕ)) → Sought all seen left → left ≡ [] → first_clash prefix all ≡ None
  unfolding pairs_behind
  sought-none all seen left so_far is = so_far.rest ∙ ap (λ (names : List (List ℕ)). find (meet prefix) (pairs_behind (kept seen) names)) is

  -- ---- where none are found, all differ

  abbrev Apart : List (List ℕ) → List ℕ → Type 0
  Apart before later = AllByRecursion (λ earlier. bytes_eq (stripped prefix earlier) (stripped prefix later) ≡ false) before

  none-among : (later : List ℕ) (before : List (List ℕ)) → find (meet prefix) (map (λ earlier. (earlier, later)) before) ≡ None → Apart before later
  none-among later [] none = tt
  none-among later (earlier ∷ before) none = cases (bytes_eq (stripped prefix earlier) (stripped prefix later)) refl none (none-among later before)
    where
      cases : (b : Bool) → bytes_eq (stripped prefix earlier) (stripped prefix later) ≡ b → cond b (Some (earlier, later)) (find (meet prefix) (map (λ one. (one, later)) before)) ≡ None
          → (find (meet prefix) (map (λ one. (one, later)) before) ≡ None → Apart before later) → Apart (earlier ∷ before) later
      cases true e none more = cc
      cases false e none more = (e, more none)

  first_none : {A : Type 0} (one other : Option A) → option_or one other ≡ None → one ≡ None
  first_none None other e = refl
  first_none (Some x) other e = cc

  second_none : {A : Type 0} (one other : Option A) → option_or one other ≡ None → other ≡ None
  second_none None other e = e
  second_none (Some x) other e = cc

  last-apart : (before : List (List ℕ)) (one later : List ℕ) → Apart (before ++ one ∷ []) later → bytes_eq (stripped prefix one) (stripped prefix later) ≡ false
  last-apart [] one later h = h.0
  last-apart (earlier ∷ before) one later h = last-apart before one later h.1

  -- each of these is apart from all before it
  abbrev AllApart : List (List ℕ) → List (List ℕ) → Type 0
  AllApart before [] = Unit {0}
  AllApart before (later ∷ others) = Apart before later × AllApart (before ++ later ∷ []) others

  all-apart : (before names : List (List ℕ)) → find (meet prefix) (pairs_behind before names) ≡ None → AllApart before names
  all-apart before [] none = tt
  all-apart before (later ∷ others) none =
      let both = sym (next before later others) ∙ none in (
        none-among later before (first_none (find (meet prefix) (map (λ earlier. (earlier, later)) before)) (find (meet prefix) (pairs_behind (before ++ later ∷ []) others)) both),
        all-apart (before ++ later ∷ []) others (second_none (find (meet prefix) (map (λ earlier. (earlier, later)) before)) (find (meet prefix) (pairs_behind (before ++ later ∷ []) others)) both),
      )

  -- one of those before is apart from all that follow
  apart-behind : (before after : List (List ℕ)) (one : List ℕ) (names : List (List ℕ)) → AllApart (before ++ one ∷ after) names → AllByRecursion (λ later. bytes_eq (stripped prefix one) later ≡ false) (map (stripped prefix) names)
  apart-behind before after one [] h = tt
  apart-behind before after one (later ∷ others) h =
      (among before h.0, apart-behind before (after ++ later ∷ []) one others (subst (λ (front : List (List ℕ)). AllApart front others) (append-inside before) h.1))
    where
      among : (front : List (List ℕ)) → Apart (front ++ one ∷ after) later → bytes_eq (stripped prefix one) (stripped prefix later) ≡ false
      among [] k = k.0
      among (first ∷ front) k = among front k.1

      append-inside : (front : List (List ℕ)) → (front ++ one ∷ after) ++ later ∷ [] ≡ front ++ one ∷ (after ++ later ∷ [])
      append-inside [] = refl
      append-inside (first ∷ front) = ap (λ (r : List (List ℕ)). first ∷ r) (append-inside front)

  distinct-behind : (before names : List (List ℕ)) → AllApart before names → AreDistinct bytes_eq (map (stripped prefix) names)
  unfolding AreDistinct
  distinct-behind before [] h = tt
  distinct-behind before (later ∷ others) h = (apart-behind before [] later others h.1, distinct-behind (before ++ later ∷ []) others h.1)

  pub distinct-stripped : (names : List (List ℕ)) → first_clash prefix names ≡ None → AreDistinct bytes_eq (map (stripped prefix) names)
  unfolding first_clash
  distinct-stripped names none = distinct-behind [] names (all-apart [] names none)

-- what is told apart by names is told apart
pub distinct-named : {A : Type 0} (name : A → List ℕ) (same : A → A → Bool) → ((x y : A) → bytes_eq (name x) (name y) ≡ false → same x y ≡ false) → (xs : List A) → AreDistinct bytes_eq (map name xs) → AreDistinct same xs
unfolding AreDistinct
distinct-named {A = A} name same apart [] h = tt
distinct-named {A = A} name same apart (x ∷ xs) h = (each xs h.0, distinct-named name same apart xs h.1)
  where
    each : (ys : List A) → AllByRecursion (λ y. bytes_eq (name x) y ≡ false) (map name ys) → AllByRecursion (λ y. same x y ≡ false) ys
    each [] k = tt
    each (y ∷ ys) k = (apart x y k.0, each ys k.1)

-- a look-up among names under what they are without a prefix
pub looked-up : (key : List ℕ) (entries : List (List ℕ × List ℕ)) → lookup (bytes_eq key) entries ≡ under_name key entries
looked-up key [] = refl
looked-up key (entry ∷ entries) = ap (λ r. cond (bytes_eq key entry.0) (Some entry.1) r) (looked-up key entries)

-- the next of a slice, and those behind it
pub next_of : {A : Type 0} (xs : List A) (i : ℕ) (x : A) → i < length xs → x ≡ get_or xs i x → drop i xs ≡ x ∷ drop (i + 1) xs
next_of xs i x within is = drop_more xs i x within ∙ ap (λ y. y ∷ drop (i + 1) xs) (sym is)
