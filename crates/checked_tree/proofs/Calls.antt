-- The calls of enumerated values have distinct names, which calls may have.
use Rattle.std.proofs.Common.{◌≡◌, ℕ, ◌^◌, Bool, true, false, cond, not, ◌||◌, List, [], ◌∷◌, map, filter, filter_map, Option, Some, None, refl, ap₂, bytes_eq}
use Rattle.std.specs.Prelude.{nat_lt}
use Rattle.std.specs.List.{AllByRecursion, cons_option, list_any}
use Rattle.checked_tree.specs.Registers.{AreCalls}
use Rattle.checked_tree.proofs.Siblings.{first-distinct}
use Rattle.frag_sem.specs.Modules.{are_distinct, are_distinct_names}
use Rattle.frag_sem.proofs.Lists.{both_true}
use Rattle.reg_table.specs.Calls.{call_name, call_of, calls_of, first_of_each, set_calls_of}
use Rattle.reg_table.specs.declared.row.Call.{Call}
use Rattle.std.proofs.lemmas.Bool.{or_parts}
use Rattle.svd_values.specs.declared.schema_word.Usage.{Usage}
use Rattle.svd_values.specs.Identifiers.{IsCallName}

-- ---- distinct

-- none of the names is among those of fewer calls
fewer-names : (name : List ℕ) (test : Call → Bool) (calls : List Call) → list_any (bytes_eq name) (map call_name calls) ≡ false → list_any (bytes_eq name) (map call_name (filter test calls)) ≡ false
fewer-names name test [] none = refl
fewer-names name test (call ∷ calls) none =
    let parts = or_parts (bytes_eq name call.name) (list_any (bytes_eq name) (map call_name calls)) none in
    by (test call) parts.0 (fewer-names name test calls parts.1)
  where
    by : (b : Bool) → bytes_eq name call.name ≡ false → list_any (bytes_eq name) (map call_name (filter test calls)) ≡ false → list_any (bytes_eq name) (map call_name (cond b (call ∷ filter test calls) (filter test calls))) ≡ false
    by true here more = ap₂ (λ a b. a || b) here more
    by false here more = more

fewer-distinct : (test : Call → Bool) (calls : List Call) → are_distinct_names (map call_name calls) ≡ true → are_distinct_names (map call_name (filter test calls)) ≡ true
unfolding are_distinct
fewer-distinct test [] distinct = refl
fewer-distinct test (call ∷ calls) distinct =
    let parts = both_true (not (list_any (bytes_eq call.name) (map call_name calls))) (are_distinct_names (map call_name calls)) distinct in
    by (test call) (fewer-names call.name test calls (off (list_any (bytes_eq call.name) (map call_name calls)) parts.0)) (fewer-distinct test calls parts.1)
  where
    off : (b : Bool) → not b ≡ true → b ≡ false
    off true e = absurd cc
    off false e = refl

    by : (b : Bool) → list_any (bytes_eq call.name) (map call_name (filter test calls)) ≡ false → are_distinct_names (map call_name (filter test calls)) ≡ true → are_distinct_names (map call_name (cond b (call ∷ filter test calls) (filter test calls))) ≡ true
    by true apart more = first-distinct call.name (map call_name (filter test calls)) apart more
    by false apart more = more

-- those that aren't named so
others-apart : (name : List ℕ) (calls : List Call) → list_any (bytes_eq name) (map call_name (filter (λ other. not (bytes_eq name other.name)) calls)) ≡ false
others-apart name [] = refl
others-apart name (call ∷ calls) = by (bytes_eq name call.name) refl (others-apart name calls)
  where
    by : (b : Bool) → bytes_eq name call.name ≡ b → list_any (bytes_eq name) (map call_name (filter (λ other. not (bytes_eq name other.name)) calls)) ≡ false → list_any (bytes_eq name) (map call_name (cond (not b) (call ∷ filter (λ other. not (bytes_eq name other.name)) calls) (filter (λ other. not (bytes_eq name other.name)) calls))) ≡ false
    by true e more = more
    by false e more = ap₂ (λ a b. a || b) e more

each-distinct : (calls : List Call) → are_distinct_names (map call_name (first_of_each calls)) ≡ true
unfolding first_of_each are_distinct
each-distinct [] = refl
each-distinct (call ∷ calls) =
    first-distinct call.name (map call_name (filter (λ other. not (bytes_eq call.name other.name)) (first_of_each calls))) (others-apart call.name (first_of_each calls))
    (fewer-distinct (λ other. not (bytes_eq call.name other.name)) (first_of_each calls) (each-distinct calls))

-- ---- named

abbrev IsNamed : Call → Type 0
IsNamed call = IsCallName call.name

fewer-named : (test : Call → Bool) (calls : List Call) → AllByRecursion IsNamed calls → AllByRecursion IsNamed (filter test calls)
fewer-named test [] all = tt
fewer-named test (call ∷ calls) all = by (test call) (fewer-named test calls all.1)
  where
    by : (b : Bool) → AllByRecursion IsNamed (filter test calls) → AllByRecursion IsNamed (cond b (call ∷ filter test calls) (filter test calls))
    by true more = (all.0, more)
    by false more = more

each-named : (calls : List Call) → AllByRecursion IsNamed calls → AllByRecursion IsNamed (first_of_each calls)
unfolding first_of_each
each-named [] all = tt
each-named (call ∷ calls) all = (all.0, fewer-named _ (first_of_each calls) (each-named calls all.1))

-- the values' names give names of calls
abbrev pub GiveNames : (List ℕ → List ℕ) → List (List ℕ × Option ℕ) → Type 0
GiveNames name_of values = AllByRecursion (λ value. IsCallName (name_of value.0)) values

values-named : (name_of : List ℕ → List ℕ) (width : ℕ) (values : List (List ℕ × Option ℕ)) → GiveNames name_of values → AllByRecursion IsNamed (filter_map (call_of name_of width) values)
values-named name_of width [] all = tt
values-named name_of width ((name, None) ∷ values) all = values-named name_of width values all.1
values-named name_of width ((name, Some n) ∷ values) all = by (nat_lt n (2 ^ width)) (values-named name_of width values all.1)
  where
    by : (b : Bool) → AllByRecursion IsNamed (filter_map (call_of name_of width) values) → AllByRecursion IsNamed (cons_option (cond b (Some (record { name = name_of name; value = n })) None) (filter_map (call_of name_of width) values))
    by true more = (all.0, more)
    by false more = more

-- the calls of the first set that serves
pub are-calls : (serves : Option Usage → Bool) (name_of : List ℕ → List ℕ) (width : ℕ) (sets : List (Option Usage × List (List ℕ × Option ℕ))) → AllByRecursion (λ set. GiveNames name_of set.1) sets → AreCalls (set_calls_of serves name_of width sets)
unfolding calls_of are_distinct
are-calls serves name_of width [] all = record { distinct = refl; named = tt }
are-calls serves name_of width (set ∷ sets) all = by (serves set.0) refl (are-calls serves name_of width sets all.1)
  where
    by : (b : Bool) → serves set.0 ≡ b → AreCalls (set_calls_of serves name_of width sets) → AreCalls (set_calls_of serves name_of width (set ∷ sets))
    by true e more = rw e (record {
      distinct = each-distinct (filter_map (call_of name_of width) set.1);
      named = each-named (filter_map (call_of name_of width) set.1) (values-named name_of width set.1 all.0);
    })
    by false e more = rw e more
