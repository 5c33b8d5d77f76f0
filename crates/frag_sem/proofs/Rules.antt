-- The tests of the typing rules, one after the other.
use Rattle.std.proofs.Common.{◌≡◌, ◌↔◌, Bool, true, false, List, [], ◌∷◌, ◌++◌, Option, Some, None, Decides, refl, sym, ap, ◌∙◌, subst}
use Rattle.std.specs.Prelude.{if◌then◌else◌}
use Rattle.std.specs.Option.{option_or}
use Rattle.std.proofs.lemmas.Bool.{false≢true}
use Rattle.std.proofs.lemmas.Option.{none-some, same_Some}
use Rattle.frag_tree.specs.Trees.{CrateTree}
use Rattle.frag_sem.specs.CrateTyping.{AddressRange, CrateFits, IsKind, IsTypingFault, TypingKind, first_failed, tests, too_large}
use Rattle.frag_sem.specs.AddressEnds.{addresses_fit, all_tests}
use Rattle.frag_sem.specs.Laws.{FitsByTests, RefusedByTests}
use Rattle.frag_sem.proofs.Attained.{ends_decide}

-- where no test fails, the first doesn't, and none of the others
passed : {K : Type 0} (test : Bool) (kind : K) (others : Option K) → (if test then others else Some kind) ≡ None → (test ≡ true) × (others ≡ None)
passed true kind others none = (refl, none)
passed false kind others none = absurd (none-some kind (sym none))

passes : {K : Type 0} (test : Bool) (kind : K) (others : Option K) → test ≡ true → others ≡ None → (if test then others else Some kind) ≡ None
passes test kind others holds none = ap (λ b. if b then others else Some kind) holds ∙ none

none_fails : (krate : CrateTree) → CrateFits krate → first_failed (tests krate) ≡ None
unfolding tests
none_fails krate fits =
    passes _ _ _ fits.distinct_names (passes _ _ _ fits.slot_modules (passes _ _ _ fits.module_paths
    (passes _ _ _ fits.accessor_bodies.0 (passes _ _ _ fits.accessor_bodies.1 (passes _ _ _ fits.counts
    (passes _ _ _ fits.constants.0 (passes _ _ _ fits.constants.1 (passes _ _ _ fits.readers.0 (passes _ _ _ fits.readers.1
    (passes _ _ _ fits.writers.0 (passes _ _ _ fits.writers.1 (passes _ _ _ fits.values.0 (passes _ _ _ fits.values.1
    (passes _ _ _ fits.prelude_names (passes _ _ _ fits.directions refl)))))))))))))))

all_fit : (krate : CrateTree) → first_failed (tests krate) ≡ None → AddressRange krate → CrateFits krate
unfolding tests
all_fit krate none range =
    let names = passed _ _ _ none in
    let slots = passed _ _ _ names.1 in
    let paths = passed _ _ _ slots.1 in
    let fields = passed _ _ _ paths.1 in
    let bodies = passed _ _ _ fields.1 in
    let counts = passed _ _ _ bodies.1 in
    let types = passed _ _ _ counts.1 in
    let literals = passed _ _ _ types.1 in
    let read_markers = passed _ _ _ literals.1 in
    let read_places = passed _ _ _ read_markers.1 in
    let write_markers = passed _ _ _ read_places.1 in
    let write_places = passed _ _ _ write_markers.1 in
    let value_types = passed _ _ _ write_places.1 in
    let value_literals = passed _ _ _ value_types.1 in
    let free = passed _ _ _ value_literals.1 in
    let directions = passed _ _ _ free.1 in
    record {
      distinct_names = names.0;
      slot_modules = slots.0;
      module_paths = paths.0;
      accessor_bodies = (fields.0, bodies.0);
      counts = counts.0;
      constants = (types.0, literals.0);
      readers = (read_markers.0, read_places.0);
      writers = (write_markers.0, write_places.0);
      values = (value_types.0, value_literals.0);
      prelude_names = free.0;
      directions = directions.0;
      address_range = range;
    }

-- one more test counts where none before fails
failed_more : {K : Type 0} (all : List (Bool × K)) (test : Bool) (kind : K) → first_failed (all ++ (test, kind) ∷ []) ≡ option_or (first_failed all) (if test then None else Some kind)
failed_more [] test kind = refl
failed_more {K} (first ∷ others) test kind = by first.0 (failed_more others test kind)
  where
    by : (b : Bool) → first_failed (others ++ (test, kind) ∷ []) ≡ option_or (first_failed others) (if test then None else Some kind) → (if b then first_failed (others ++ (test, kind) ∷ []) else Some first.1) ≡ option_or (if b then first_failed others else Some first.1) (if test then None else Some kind)
    by true more = more
    by false more = refl

none_before : {K : Type 0} (all : Option K) (test : Bool) (kind : K) → option_or all (if test then None else Some kind) ≡ None → (all ≡ None) × (test ≡ true)
none_before None true kind h = (refl, refl)
none_before None false kind h = absurd (none-some kind (sym h))
none_before (Some first) test kind h = absurd (none-some first (sym h))

-- where the others hold, names are distinct, and the last test decides the address range
last_decides : (krate : CrateTree) → first_failed (tests krate) ≡ None → Decides (addresses_fit krate) (AddressRange krate)
unfolding tests
last_decides krate none = ends_decide krate (passed _ _ _ none).0

pub fits_by_tests : FitsByTests
unfolding all_tests
fits_by_tests krate = (to, from)
  where
    to : CrateFits krate → first_failed (tests krate ++ (addresses_fit krate, too_large) ∷ []) ≡ None
    to fits =
        let none = none_fails krate fits in
        failed_more (tests krate) (addresses_fit krate) too_large
        ∙ (ap (λ (o : Option TypingKind). option_or o (if addresses_fit krate then None else Some too_large)) none
        ∙ ap (λ b. if b then None else Some too_large) ((last_decides krate none).1 fits.address_range))

    from : first_failed (tests krate ++ (addresses_fit krate, too_large) ∷ []) ≡ None → CrateFits krate
    from h =
        let parts = none_before (first_failed (tests krate)) (addresses_fit krate) too_large (sym (failed_more (tests krate) (addresses_fit krate) too_large) ∙ h) in
        all_fit krate parts.0 ((last_decides krate parts.0).0 parts.1)

-- the kind of the test that failed, or else that of the last one
refused_as : (krate : CrateTree) (kind : TypingKind) (o : Option TypingKind) → (o ≡ None → Decides (addresses_fit krate) (AddressRange krate)) → IsKind krate kind o ↔ (option_or o (if addresses_fit krate then None else Some too_large) ≡ Some kind)
refused_as krate kind (Some first) decides = (λ is. ap Some (sym is), λ h. sym (same_Some first kind h))
refused_as krate kind None decides = by (addresses_fit krate) (decides refl)
  where
    by : (b : Bool) → Decides b (AddressRange krate) → ((kind ≡ too_large) × (¬ (AddressRange krate))) ↔ ((if b then None else Some too_large) ≡ Some kind)
    by true decided = (λ is. absurd (is.1 (decided.0 refl)), λ h. absurd (none-some kind h))
    by false decided = (λ is. ap Some (sym is.0), λ h. (sym (same_Some too_large kind h), λ range. false≢true (decided.1 range)))

pub refused_by_tests : RefusedByTests
unfolding IsTypingFault all_tests
refused_by_tests krate kind =
    subst (λ (o : Option TypingKind). IsKind krate kind (first_failed (tests krate)) ↔ (o ≡ Some kind)) (sym (failed_more (tests krate) (addresses_fit krate) too_large))
    (refused_as krate kind (first_failed (tests krate)) (last_decides krate))
