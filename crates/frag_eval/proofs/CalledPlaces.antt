-- The places that a script calls, one after the other: of each the first.
use Rattle.std.proofs.Common.{ℕ, ◌≡◌, Bool, true, false, not, ◌||◌, cond, List, [], ◌∷◌, ◌++◌, map, filter, filter_map, Option, Some, None, option_map, bytes_eq, refl, sym, ap, ap₂, subst, ◌∙◌, append_assoc, arith, Vec, Global}
use Rattle.std.specs.Prelude.{if◌then◌else◌}
use Rattle.std.specs.List.{list_any, cons_option}
use Rattle.std.specs.Cmp.Lexicographic.{pointwise}
use Rattle.std.proofs.lemmas.Bool.{false≢true}
use Rattle.std.proofs.lemmas.Bool.Decides.{nat_tests}
use Rattle.std.proofs.lemmas.List.{append-nil}
use Rattle.std.proofs.lemmas.Slice.Eq.{bytes_eq-Decides}
use Rattle.frag_tree.specs.declared.statement.Call.{Call}
use Rattle.frag_tree.specs.declared.statement.Place.{Place}
use Rattle.frag_tree.specs.declared.script.Script.{Script}
use Rattle.frag_tree.specs.declared.script.ScriptLine.{ScriptLine}
use Rattle.frag_tree.specs.Trees.{CrateTree}
use Rattle.frag_sem.specs.Presets.{Preset, called, called_places, first_of_each, preset_of, presets, same_index, same_place, same_step}
use Rattle.frag_sem.specs.TextMeaning.{acts_at, text_at, text_presets}
use Rattle.frag_sem.proofs.Lists.{both_true}
use Rattle.frag_eval.specs.declared.keys.PlaceKey.{PlaceKey}
use Rattle.frag_eval.specs.Keys.{key_seen}
use Rattle.pac_bus.specs.declared.access.Preset.{Preset as BusPreset}
use Rattle.frag_sem.specs.CallPlaces.{RegisterAt, register_at}
use Rattle.frag_eval.specs.declared.preset.Called.{Called}
use Rattle.frag_eval.specs.Called.{AddsPlace, places_seen, preset_at, preset_seen, presets_at}

-- ---- places are told apart

index-tells : (one other : Option ℕ) → same_index one other ≡ true → one ≡ other
index-tells None None h = refl
index-tells None (Some b) h = absurd (false≢true h)
index-tells (Some a) None h = absurd (false≢true h)
index-tells (Some a) (Some b) h = ap Some (grind (arith, nat_tests, h))

step-tells : (one other : Call) → same_step one other ≡ true → one ≡ other
step-tells one other h =
    let parts = both_true (bytes_eq one.name other.name) (same_index one.index other.index) h in
    ap₂ (λ (name : List ℕ) (index : Option ℕ). record { name = name; index = index }) ((bytes_eq-Decides one.name other.name).0 parts.0) (index-tells one.index other.index parts.1)

steps-tell : (one other : List Call) → pointwise same_step one other ≡ true → one ≡ other
steps-tell [] [] h = refl
steps-tell [] (b ∷ other) h = absurd (false≢true h)
steps-tell (a ∷ one) [] h = absurd (false≢true h)
steps-tell (a ∷ one) (b ∷ other) h =
    let parts = both_true (same_step a b) (pointwise same_step one other) h in
    ap₂ (λ (x : Call) (xs : List Call). x ∷ xs) (step-tells a b parts.0) (steps-tell one other parts.1)

pub place-tells : (one other : Place) → same_place one other ≡ true → one ≡ other
place-tells one other h =
    let parts = both_true (bytes_eq one.slot other.slot) (pointwise same_step one.steps other.steps) h in
    ap₂ (λ (slot : List ℕ) (steps : List Call). record { slot = slot; steps = steps }) ((bytes_eq-Decides one.slot other.slot).0 parts.0) (steps-tell one.steps other.steps parts.1)

-- ---- of each the first

abbrev pub is_seen : List Place → Place → Bool
is_seen seen place = list_any (λ other. same_place other place) seen

abbrev is_new : List Place → Place → Bool
is_new seen place = not (is_seen seen place)

seen-append : (seen : List Place) (one place : Place) → is_seen (seen ++ one ∷ []) place ≡ (is_seen seen place || same_place one place)
seen-append [] one place = or_false (same_place one place)
  where
    or_false : (b : Bool) → (b || false) ≡ b
    or_false true = refl
    or_false false = refl
seen-append (first ∷ seen) one place = cases (same_place first place) (seen-append seen one place)
  where
    cases : (b : Bool) → is_seen (seen ++ one ∷ []) place ≡ (is_seen seen place || same_place one place) → (b || is_seen (seen ++ one ∷ []) place) ≡ ((b || is_seen seen place) || same_place one place)
    cases true e = refl
    cases false e = e

module _ (seen : List Place) (one : Place) where
  -- where it is seen, the others that are the same are no new ones
  skipped : is_seen seen one ≡ true → (rest : List Place) → filter (is_new seen) (filter (λ other. not (same_place one other)) rest) ≡ filter (is_new seen) rest
  skipped taken [] = refl
  skipped taken (other ∷ rest) = cases (same_place one other) refl (skipped taken rest)
    where
      cases : (b : Bool) → same_place one other ≡ b → filter (is_new seen) (filter (λ other. not (same_place one other)) rest) ≡ filter (is_new seen) rest → filter (is_new seen) (cond (not b) (other ∷ filter (λ other. not (same_place one other)) rest) (filter (λ other. not (same_place one other)) rest)) ≡ filter (is_new seen) (other ∷ rest)
      cases true is e = e ∙ sym (ap (λ b. cond (not b) (other ∷ filter (is_new seen) rest) (filter (is_new seen) rest)) (ap (is_seen seen) (sym (place-tells one other is)) ∙ taken))
      cases false is e = ap (λ r. cond (is_new seen other) (other ∷ r) r) e

  -- where it is new, the others that are the same are no new ones from then on
  added : (rest : List Place) → filter (is_new seen) (filter (λ other. not (same_place one other)) rest) ≡ filter (is_new (seen ++ one ∷ [])) rest
  added [] = refl
  added (other ∷ rest) =
      cases (same_place one other) (is_seen seen other) refl (added rest)
      ∙ sym (ap (λ b. cond (not b) (other ∷ filter (is_new (seen ++ one ∷ [])) rest) (filter (is_new (seen ++ one ∷ [])) rest)) (seen-append seen one other))
    where
      more : List Place
      more = filter (is_new (seen ++ one ∷ [])) rest

      cases : (b t : Bool) → is_seen seen other ≡ t → filter (is_new seen) (filter (λ other. not (same_place one other)) rest) ≡ more → filter (is_new seen) (cond (not b) (other ∷ filter (λ other. not (same_place one other)) rest) (filter (λ other. not (same_place one other)) rest)) ≡ cond (not (t || b)) (other ∷ more) more
      cases true true is e = e
      cases true false is e = e
      cases false true is e = ap (λ r. cond (is_new seen other) (other ∷ r) r) e ∙ ap (λ b. cond (not b) (other ∷ more) more) is
      cases false false is e = ap (λ r. cond (is_new seen other) (other ∷ r) r) e ∙ ap (λ b. cond (not b) (other ∷ more) more) is

-- what is seen and what is left are the places of all
pub places_left : List Place → List Place → List Place
places_left seen rest = seen ++ filter (is_new seen) (first_of_each same_place rest)

pub one_more : (seen now rest : List Place) (place : Place) → now ≡ (if is_seen seen place then seen else seen ++ place ∷ []) → places_left now rest ≡ places_left seen (place ∷ rest)
unfolding places_left first_of_each
one_more seen now rest place is = ap (λ l. places_left l rest) is ∙ cases (is_seen seen place) refl
  where
    cases : (b : Bool) → is_seen seen place ≡ b → places_left (cond b seen (seen ++ place ∷ [])) rest ≡ seen ++ cond (not b) (place ∷ filter (is_new seen) (filter (λ other. not (same_place place other)) (first_of_each same_place rest))) (filter (is_new seen) (filter (λ other. not (same_place place other)) (first_of_each same_place rest)))
    cases true is = ap (λ r. seen ++ r) (sym (skipped seen place is (first_of_each same_place rest)))
    cases false is = append_assoc seen (place ∷ []) (filter (is_new (seen ++ place ∷ [])) (first_of_each same_place rest)) ∙ ap (λ r. seen ++ (place ∷ r)) (sym (added seen place (first_of_each same_place rest)))

pub all_left : (rest : List Place) → places_left [] rest ≡ first_of_each same_place rest
unfolding places_left
all_left rest = every (first_of_each same_place rest)
  where
    every : (xs : List Place) → filter (is_new []) xs ≡ xs
    every [] = refl
    every (x ∷ xs) = ap (λ r. x ∷ r) (every xs)

pub none_more : (seen : List Place) → places_left seen [] ≡ seen
unfolding places_left first_of_each
none_more seen = append-nil seen

-- ---- line by line

abbrev pub places_of : List ScriptLine → List Place
places_of lines = filter_map (λ line. called line.statement) lines

-- All places that are called by the lines but the rest were seen, and their presets gathered.
pub record GatheredUpTo (krate : CrateTree) (all rest : List ScriptLine) (seen : List Place) (gathered : List Preset) : Type 0 where
  pub places : places_left seen (places_of rest) ≡ first_of_each same_place (places_of all)
  pub presets : gathered ≡ presets_at krate seen

pub gathered_none : (krate : CrateTree) (all : List ScriptLine) → GatheredUpTo krate all all [] []
gathered_none krate all = record { places = all_left (places_of all); presets = refl }

pub gathered_call : (krate : CrateTree) (all rest others : List ScriptLine) (line : ScriptLine) (place : Place) (seen now : List Place) (gathered also : List Preset) → rest ≡ line ∷ others → Some place ≡ called line.statement
    → now ≡ (if is_seen seen place then seen else seen ++ place ∷ []) → (gathered ≡ presets_at krate seen → also ≡ presets_at krate now)
    → GatheredUpTo krate all rest seen gathered → GatheredUpTo krate all others now also
gathered_call krate all rest others line place seen now gathered also is calls seen-is presets-are so_far = record {
  places =
      one_more seen now (places_of others) place seen-is
      ∙ (ap (λ (o : Option Place). places_left seen (cons_option o (places_of others))) calls ∙ (ap (λ l. places_left seen (places_of l)) (sym is) ∙ so_far.places));
  presets = presets-are so_far.presets;
}

pub gathered_other : (krate : CrateTree) (all rest others : List ScriptLine) (line : ScriptLine) (seen : List Place) (gathered : List Preset) → rest ≡ line ∷ others → None ≡ called line.statement
    → GatheredUpTo krate all rest seen gathered → GatheredUpTo krate all others seen gathered
gathered_other krate all rest others line seen gathered is calls so_far = record {
  places = ap (λ (o : Option Place). places_left seen (cons_option o (places_of others))) calls ∙ (ap (λ l. places_left seen (places_of l)) (sym is) ∙ so_far.places);
  presets = so_far.presets;
}

pub gathered_all : (krate : CrateTree) (script : Script) (rest : List ScriptLine) (seen : List Place) (gathered : List Preset) → rest ≡ [] → GatheredUpTo krate script.lines rest seen gathered → gathered ≡ text_presets krate script
unfolding text_presets presets
gathered_all krate script rest seen gathered none so_far =
    let all : seen ≡ called_places script = sym (none_more seen) ∙ (ap (λ l. places_left seen (places_of l)) (sym none) ∙ so_far.places) in
    so_far.presets ∙ ap (presets_at krate) all

-- ---- one place

more_presets : (krate : CrateTree) (seen : List Place) (place : Place) → presets_at krate (seen ++ place ∷ []) ≡ presets_at krate seen ++ preset_at (register_at krate place)
more_presets krate [] place = by (register_at krate place)
  where
    by : (o : Option RegisterAt) → cons_option (option_map preset_of (option_map acts_at o)) [] ≡ preset_at o
    by None = refl
    by (Some found) = refl
more_presets krate (first ∷ seen) place = by (option_map preset_of (text_at krate first)) (more_presets krate seen place)
  where
    by : (o : Option Preset) → presets_at krate (seen ++ place ∷ []) ≡ presets_at krate seen ++ preset_at (register_at krate place) → cons_option o (presets_at krate (seen ++ place ∷ [])) ≡ cons_option o (presets_at krate seen) ++ preset_at (register_at krate place)
    by None more = more
    by (Some preset) more = ap (λ l. preset ∷ l) more

taken_in : (seen now : List Place) (place : Place) (fresh : Bool) → fresh ≡ not (is_seen seen place) → now ≡ (if fresh then seen ++ place ∷ [] else seen) → now ≡ (if is_seen seen place then seen else seen ++ place ∷ [])
taken_in seen now place fresh is kept = kept ∙ (ap (λ b. if b then seen ++ place ∷ [] else seen) is ∙ turned (is_seen seen place))
  where
    turned : (b : Bool) → (if not b then seen ++ place ∷ [] else seen) ≡ (if b then seen else seen ++ place ∷ [])
    turned true = refl
    turned false = refl

pub place_again : (krate : CrateTree) (place : Place) (old now : Called) (fresh : Bool) → fresh ≡ not (is_seen (places_seen old) place) → places_seen now ≡ (if fresh then places_seen old ++ place ∷ [] else places_seen old) → fresh ≡ false → now.presets ≡ old.presets → AddsPlace krate place old now
place_again krate place old now fresh is kept again same =
    let places : places_seen now ≡ places_seen old = kept ∙ ap (λ b. if b then places_seen old ++ place ∷ [] else places_seen old) again in
    record {
      places = taken_in (places_seen old) (places_seen now) place fresh is kept;
      presets = λ h. ap (λ (v : Vec BusPreset Global). map preset_seen v.items) same ∙ (h ∙ ap (presets_at krate) (sym places));
    }

pub place_new : (krate : CrateTree) (place : Place) (old now : Called) (fresh : Bool) (found : Option RegisterAt) → fresh ≡ not (is_seen (places_seen old) place) → places_seen now ≡ (if fresh then places_seen old ++ place ∷ [] else places_seen old) → fresh ≡ true
    → found ≡ register_at krate place → map preset_seen now.presets.items ≡ map preset_seen old.presets.items ++ preset_at found → AddsPlace krate place old now
place_new krate place old now fresh found is kept new at presets-are =
    let places : places_seen now ≡ places_seen old ++ place ∷ [] = kept ∙ ap (λ b. if b then places_seen old ++ place ∷ [] else places_seen old) new in
    record {
      places = taken_in (places_seen old) (places_seen now) place fresh is kept;
      presets = λ h.
          presets-are ∙ (ap (λ l. l ++ preset_at found) h ∙ (ap (λ (o : Option RegisterAt). presets_at krate (places_seen old) ++ preset_at o) at
          ∙ (sym (more_presets krate (places_seen old) place) ∙ ap (presets_at krate) (sym places))));
    }

pub gathered_start : (krate : CrateTree) (all rest : List ScriptLine) (seen : List PlaceKey) (presets : List BusPreset) → rest ≡ all → seen ≡ [] → presets ≡ [] → GatheredUpTo krate all rest (map key_seen seen) (map preset_seen presets)
gathered_start krate all rest seen presets is none nothing =
    subst (λ lines. GatheredUpTo krate all lines (map key_seen seen) (map preset_seen presets)) (sym is)
    (subst (λ (s : List PlaceKey). GatheredUpTo krate all all (map key_seen s) (map preset_seen presets)) (sym none)
    (subst (λ (p : List BusPreset). GatheredUpTo krate all all [] (map preset_seen p)) (sym nothing) (gathered_none krate all)))
