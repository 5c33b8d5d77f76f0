-- What is added, where no key is missing and names are their own, is part of a description.
use Rattle.std.proofs.Common.{◌≡◌, ℕ, ◌^◌, Bool, true, false, ◌&&◌, ◌||◌, nat_eq, List, [], Option, Some, None, Ok, Err, refl, sym, ap, ◌∙◌, subst}
use Rattle.std.specs.Prelude.{if◌then◌else◌}
use Rattle.std.specs.List.{AllByRecursion, list_any}
use Rattle.std.specs.Option.{option_or}
use Rattle.patch_model.specs.Acts.{Added, AddedOne, KeyList, PatternItems, added, adds_one, no_more}
use Rattle.patch_sem.specs.declared.fault.PatchFault.TheVariants.{AddExists, Incomplete}
use Rattle.patch_sem.specs.Additions.{first_missing, held_by, keys_made, made_in, needed, unless_missing}
use Rattle.patch_sem.specs.Selecting.{is_named, is_patched}
use Rattle.patch_sem.specs.Settings.{container_of, keys_set}
use Rattle.patch_sem.specs.Steps.{Outcome, ◌>>=◌, refused_if}
use Rattle.patch_edits.specs.Commands.{order_at}
use Rattle.patch_additions.proofs.Adding.{addition-agrees}
use Rattle.patch_additions.proofs.Built.{built-adds, built-is}
use Rattle.patch_growth.proofs.Sound.{Fine, IsSound, IsSoundChild, MakesSound}
use Rattle.patch_growth.proofs.Typed.{holds_at}
use Rattle.patch_growth.proofs.Walks.{Agrees}
use Rattle.patch_additions.specs.Additions.{built_child, built_tree, lack_of}
use Rattle.patch_ready.specs.Ready.{AreApart, IsNew}
use Rattle.patch_additions.specs.Made.{made_forest}
use Rattle.patch_growth.specs.Growths.{but_in_field, child_named, put_new}
use Rattle.patch_settings.proofs.KeyForms.{keys_set-good}
use Rattle.patch_settings.proofs.Keeping.{bounded-of, indexed-of, keys_with-all, set_at}
use Rattle.patch_settings.specs.Places.{fitting}
use Rattle.svd_model.specs.Facts.{HasForm, IsBounded, IsIndexed, IsPlacedOrDerived, is_derived, is_offset}
use Rattle.svd_model.specs.Keys.{Key}
use Rattle.svd_model.specs.Steps.{Kind, Step, peripheral, cluster, register, field, set, value, same_key}
use Rattle.svd_rows.specs.Elements.{Every, IsDistinct}
use Rattle.svd_rows.specs.Forest.{Tree, join, leaf, steps}
use Rattle.svd_rows.specs.Rows.{rows}

-- ---- nothing is missing

both-none : {A : Type 0} (a b : Option A) → option_or a b ≡ None → (a ≡ None) × (b ≡ None)
both-none None b e = (refl, e)
both-none (Some x) b e = absurd (no e)
  where
    no : Some x ≡ None → ⊥
    no e = cc

then-none : {A : Type 0} (b : Bool) (x : A) → (if b then None else Some x) ≡ None → b ≡ true
then-none true x e = refl
then-none false x e = absurd (no e)
  where
    no : Some x ≡ None → ⊥
    no e = cc

-- ---- one element

start-fine : (kind : Kind) (name : List ℕ) (texts : KeyList) → HasForm IsPlacedOrDerived (record { kind = kind; name = name; number = 0 }) (keys_made kind texts) → AllByRecursion (IsBounded (2 ^ 64)) (keys_made kind texts) → AllByRecursion IsIndexed (keys_made kind texts) → Fine (record { kind = kind; name = name; number = 0 }) (keys_made kind texts)
start-fine kind name texts form bounded indexed = record { form = form; bounded = bounded; indexed = indexed }

module _ (name : List ℕ) (texts : KeyList) where
  bounded : (kind : Kind) → is_patched kind ≡ true → AllByRecursion (IsBounded (2 ^ 64)) (keys_made kind texts)
  bounded kind known =
      let new = keys_set (container_of kind) texts in
      keys_with-all (IsBounded (2 ^ 64)) new [] (bounded-of (fitting (container_of kind)) new (keys_set-good (container_of kind) (set_at kind known) texts)) tt

  indexed : (kind : Kind) → is_patched kind ≡ true → AllByRecursion IsIndexed (keys_made kind texts)
  indexed kind known =
      let new = keys_set (container_of kind) texts in
      keys_with-all IsIndexed new [] (indexed-of (fitting (container_of kind)) new (keys_set-good (container_of kind) (set_at kind known) texts)) tt

  peripheral-fine : Fine (record { kind = peripheral; name = name; number = 0 }) (keys_made peripheral texts)
  peripheral-fine = start-fine peripheral name texts refl (bounded peripheral refl) (indexed peripheral refl)

  register-fine : Fine (record { kind = register; name = name; number = 0 }) (keys_made register texts)
  register-fine = start-fine register name texts refl (bounded register refl) (indexed register refl)

  field-fine : needed field (keys_made field texts) ≡ None → Fine (record { kind = field; name = name; number = 0 }) (keys_made field texts)
  field-fine none = start-fine field name texts (refl, then-none (list_any (λ key. is_offset key || is_derived key) (keys_made field texts)) _ none) (bounded field refl) (indexed field refl)

-- ---- elements side by side

new-absent : (kind other : Kind) (name : List ℕ) (all : Added) → IsNew name all → AllByRecursion (λ (step : Step). same_key (record { kind = kind; name = name; number = 0 }) step ≡ false) (steps (made_forest other all))
unfolding made_forest steps same_key
new-absent kind other name no_more new = tt
new-absent kind other name (added next keys registers fields others) new = (ap (λ (b : Bool). b && nat_eq 0 0) new.0, new-absent kind other name others new.1)

fields-sound : (all : Added) → AreApart all → first_missing field all ≡ None → IsSound (made_forest field all)
unfolding made_forest first_missing AreApart Every IsDistinct
fields-sound no_more apart none = record { elements = tt; distinct = tt }
fields-sound (added name keys registers fields others) apart none =
    let own = both-none (needed field (keys_made field keys)) (option_or None (first_missing field others)) none in
    let rest = fields-sound others apart.3 own.1 in
    record {
      elements = (field-fine name keys own.0, tt, rest.elements);
      distinct = (new-absent field field name others apart.0, tt, rest.distinct);
    }

registers-sound : (all : Added) → AreApart all → first_missing register all ≡ None → IsSound (made_forest register all)
unfolding made_forest first_missing AreApart Every IsDistinct
registers-sound no_more apart none = record { elements = tt; distinct = tt }
registers-sound (added name keys registers fields others) apart none =
    let own = both-none (needed register (keys_made register keys)) (option_or (first_missing field fields) (first_missing register others)) none in
    let held = both-none (first_missing field fields) (first_missing register others) own.1 in
    let inside = fields-sound fields apart.2 held.0 in
    let rest = registers-sound others apart.3 held.1 in
    record {
      elements = (register-fine name keys, inside.elements, rest.elements);
      distinct = (new-absent register register name others apart.0, inside.distinct, rest.distinct);
    }

nothing-sound : IsSound leaf
unfolding Every IsDistinct
nothing-sound = record { elements = tt; distinct = tt }

-- ---- the addition

module _ (line : ℕ) (one : AddedOne) (registers : AreApart one.registers) (fields : AreApart one.fields) where
  abbrev given : (Kind × Tree Step Key) → Outcome (Kind × Tree Step Key)
  given child = Ok child

  made-sound : (kind : Kind) → Fine (record { kind = kind; name = one.name; number = 0 }) (keys_made kind one.keys) → IsSound (held_by kind leaf (made_forest register one.registers) (made_forest field one.fields)) → IsSoundChild one.name (kind, built_tree kind one)
  made-sound kind fine below = subst (λ (tree : Tree Step Key). IsSoundChild one.name (kind, tree)) (sym (built-is kind one registers fields)) (record { itself = fine; below = below })

  -- where nothing is lacking
  kind-sound : (kind : Option Kind) → holds_at kind ≡ true → lack_of (made_in kind) one ≡ None → IsSoundChild one.name (made_in kind, built_tree (made_in kind) one)
  kind-sound None known none =
      made-sound peripheral (peripheral-fine one.name one.keys) (registers-sound one.registers registers (both-none (needed peripheral (keys_made peripheral one.keys)) (first_missing register one.registers) none).1)
  kind-sound (Some peripheral) known none =
      made-sound register (register-fine one.name one.keys) (fields-sound one.fields fields (both-none (needed register (keys_made register one.keys)) (first_missing field one.fields) none).1)
  kind-sound (Some cluster) known none =
      made-sound register (register-fine one.name one.keys) (fields-sound one.fields fields (both-none (needed register (keys_made register one.keys)) (first_missing field one.fields) none).1)
  kind-sound (Some register) known none =
      made-sound field (field-fine one.name one.keys (both-none (needed field (keys_made field one.keys)) None none).0) nothing-sound
  kind-sound (Some field) known none = absurd cc
  kind-sound (Some set) known none = absurd cc
  kind-sound (Some value) known none = absurd cc

  pub addition-sound : MakesSound (built_child line one)
  addition-sound kind f child known typed sound e = cases (lack_of (made_in kind) one) refl e
    where
      cases : (lack : Option (List ℕ)) → lack_of (made_in kind) one ≡ lack → unless_missing line lack (given (made_in kind, built_tree (made_in kind) one)) ≡ given child → IsSoundChild one.name child
      cases None is e = subst (IsSoundChild one.name) (same e) (kind-sound kind known is)
        where
          same : given (made_in kind, built_tree (made_in kind) one) ≡ given child → (made_in kind, built_tree (made_in kind) one) ≡ child
          same e = cc
      cases (Some key) is e = absurd (no e)
        where
          no : Err (Incomplete line key) ≡ given child → ⊥
          no e = cc

  pub built-agrees : (parents : List PatternItems) → Agrees (order_at line parents (adds_one one)) (built_child line one)
  unfolding put_new
  built-agrees parents kind keys f distinct typed =
      addition-agrees line one parents kind keys f distinct typed
      ∙ ap (λ (made : Outcome (Kind × Tree Step Key)). but_in_field line kind (refused_if (list_any (is_named one.name) (steps f)) (AddExists line one.name) (made >>= (λ child. Ok (child_named one.name child)))) >>= (λ more. Ok (rows (record { keys = keys; below = join f more })))) (sym (built-adds line one registers fields kind f))
