-- Sources that are told, and the first that is missing.
use Rattle.std.proofs.Common.{◌≡◌, ℕ, suc, ◌<◌, ◌≤◌, Bool, true, false, ◌&&◌, cond, List, [], ◌∷◌, filter, length, drop, drop-cons, get_or, Option, None, Some, option_map, is_some, refl, sym, ap, ap₂, ◌∙◌, arith}
use Rattle.std.specs.List.{find}
use Rattle.std.specs.Option.{is_none}
use Rattle.std.proofs.lemmas.List.{get_or-map, length-map, drop_all}
use Rattle.derive_sources.specs.Missing.{is_missing, TellsSources}
use Rattle.derive_sources.specs.Numbers.{Item, AreNumbered, Rows, path_at, item_at}
use Rattle.derive_sources.proofs.Seats.{as_many, names_at}
use Rattle.derived_rows.specs.Dependence.{deriving_paths}
use Rattle.derived_rows.specs.Faults.{first_missing}
use Rattle.derived_rows.specs.Sources.{source_names, source_of}
use Rattle.pac_base.specs.declared.path.Step.{Step as Written}
use Rattle.svd_model.specs.Stating.{paths_of}
use Rattle.svd_model.specs.Steps.{Step}

-- what is sought among those that pass a test
find-filter : (p q : List Step → Bool) (xs : List (List Step)) → find p (filter q xs) ≡ find (λ x. q x && p x) xs
find-filter p q [] = refl
find-filter p q (x ∷ xs) = at (q x) (find-filter p q xs)
  where
    at : (b : Bool) → find p (filter q xs) ≡ find (λ x. q x && p x) xs → find p (cond b (x ∷ filter q xs) (filter q xs)) ≡ cond (b && p x) (Some x) (find (λ x. q x && p x) xs)
    at true e = ap (cond (p x) (Some x)) e
    at false e = e

pub missing_found : (all : Rows) → first_missing all ≡ find (is_missing all) (paths_of all)
unfolding first_missing deriving_paths
missing_found all = find-filter (λ path. is_none (source_of all path)) (λ path. is_some (source_names all path)) (paths_of all)

module _ (all : Rows) (items : List Item) (numbered : AreNumbered all items) (found : List (Option ℕ)) (tells : TellsSources all found) where
  pub told_at : (e : ℕ) → e < length items → option_map (path_at all) (get_or found e None) ≡ source_of all (path_at all e)
  told_at e inside =
      sym (get_or-map (option_map (path_at all)) found e None None (omega (arith, inside, as_many all items numbered, long)))
      ∙ ap (λ l. get_or l e None) tells
      ∙ get_or-map (source_of all) (paths_of all) e [] None (omega (arith, inside, as_many all items numbered))
    where
      long : length found ≡ length (paths_of all)
      long = sym (length-map found (option_map (path_at all))) ∙ ap (λ l. length l) tells ∙ length-map (paths_of all) (source_of all)

  none-map : (o : Option ℕ) → is_none (option_map (path_at all) o) ≡ is_none o
  none-map None = refl
  none-map (Some n) = refl

  -- an element that states a source
  pub missing_at : (e : ℕ) (names : List Written) → e < length items → (item_at items e).names ≡ Some names → is_none (get_or found e None) ≡ is_missing all (path_at all e)
  missing_at e names inside given =
      sym (ap₂ (λ a b. a && b) (ap is_some (sym (names_at all items numbered e inside) ∙ given)) (ap is_none (sym (told_at e inside)) ∙ none-map (get_or found e None)))

  -- one that states none
  pub not_missing : (e : ℕ) → e < length items → (item_at items e).names ≡ None → false ≡ is_missing all (path_at all e)
  not_missing e inside given =
      sym (ap (λ b. b && is_none (source_of all (path_at all e))) (ap is_some (sym (names_at all items numbered e inside) ∙ given)))

-- the first of those that are left is missing
pub missing_here : (all : Rows) (e : ℕ) → e < length (paths_of all) → is_missing all (path_at all e) ≡ true → find (is_missing all) (drop e (paths_of all)) ≡ find (is_missing all) (paths_of all) → Some (path_at all e) ≡ first_missing all
missing_here all e inside here left =
    sym (ap (find (is_missing all)) (drop-cons (paths_of all) e [] inside) ∙ ap (λ b. cond b (Some (path_at all e)) (find (is_missing all) (drop (suc e) (paths_of all)))) here)
    ∙ left ∙ sym (missing_found all)

-- none is left
pub none_missing : (all : Rows) (e : ℕ) → length (paths_of all) ≤ e → find (is_missing all) (drop e (paths_of all)) ≡ find (is_missing all) (paths_of all) → None ≡ first_missing all
none_missing all e past left = sym (ap (find (is_missing all)) (drop_all e (paths_of all) past)) ∙ left ∙ sym (missing_found all)
