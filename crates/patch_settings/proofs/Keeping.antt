-- What is said of an element of a description holds where keys that texts set are set in it.
use Rattle.std.proofs.Common.{◌≡◌, ℕ, ◌^◌, Bool, true, false, cond, ◌||◌, nat_eq, nat_lt, eqb-true, List, [], ◌∷◌, refl, sym, ap, ◌∙◌}
use Rattle.std.specs.List.{AllByRecursion, list_any}
use Rattle.patch_sem.specs.Copying.{renamed_step}
use Rattle.patch_sem.specs.Settings.{container_of, keys_set, keys_with}
use Rattle.patch_sem.specs.Selecting.{is_patched}
use Rattle.patch_settings.proofs.KeyForms.{AreGood, IsSetAt, keys_set-good}
use Rattle.patch_settings.specs.Places.{fitting}
use Rattle.patch_settings.specs.Setting.{SettingKeepsElements}
use Rattle.svd_model.specs.Facts.{HasForm, IsBounded, IsElement, IsIndexed, IsPlacedOrDerived, is_derived, is_offset}
use Rattle.svd_model.specs.Keys.{Key, rank, device_name, derived_from, dim_count, dim_increment, dim_index, base_address, at_offset, bit_width, alternate_of, alternate_group, register_size, register_access, reset_value, reset_mask, write_kind, read_action, value_usage, enumerated_value}
use Rattle.svd_model.specs.Steps.{Kind, Step, peripheral, cluster, register, field, set, value}
use Rattle.svd_rows.specs.Ranks.{set_key}

-- ---- what holds of each key

set_key-all : (P : Key → Type 0) (one : Key) (keys : List Key) → P one → AllByRecursion P keys → AllByRecursion P (set_key rank one keys)
unfolding set_key
set_key-all P one [] is all = (is, tt)
set_key-all P one (first ∷ keys) is all = cases (nat_lt (rank first) (rank one)) (nat_eq (rank first) (rank one)) (set_key-all P one keys is all.1)
  where
    cases : (lower same : Bool) → AllByRecursion P (set_key rank one keys) → AllByRecursion P (cond lower (first ∷ set_key rank one keys) (cond same (one ∷ keys) (one ∷ (first ∷ keys))))
    cases true same more = (all.0, more)
    cases false true more = (is, all.1)
    cases false false more = (is, all)

pub keys_with-all : (P : Key → Type 0) (keys old : List Key) → AllByRecursion P keys → AllByRecursion P old → AllByRecursion P (keys_with keys old)
unfolding keys_with
keys_with-all P [] old new all = all
keys_with-all P (one ∷ keys) old new all = keys_with-all P keys (set_key rank one old) new.1 (set_key-all P one old new.0 all)

-- ---- a field keeps its offset or source

abbrev says_where : Key → Bool
says_where key = is_offset key || is_derived key

-- which keys these are is told by their ranks
where-rank : (key : Key) → says_where key ≡ (nat_eq (rank key) 6 || nat_eq (rank key) 1)
unfolding rank
where-rank (device_name x) = refl
where-rank (derived_from x) = refl
where-rank (dim_count x) = refl
where-rank (dim_increment x) = refl
where-rank (dim_index x) = refl
where-rank (base_address x) = refl
where-rank (at_offset x) = refl
where-rank (bit_width x) = refl
where-rank (alternate_of x) = refl
where-rank (alternate_group x) = refl
where-rank (register_size x) = refl
where-rank (register_access x) = refl
where-rank (reset_value x) = refl
where-rank (reset_mask x) = refl
where-rank (write_kind x) = refl
where-rank (read_action x) = refl
where-rank (value_usage x) = refl
where-rank (enumerated_value x) = refl

where-same : (one other : Key) → rank one ≡ rank other → says_where one ≡ says_where other
where-same one other e = where-rank one ∙ ap (λ (n : ℕ). nat_eq n 6 || nat_eq n 1) e ∙ sym (where-rank other)

after : (a b c : Bool) → (b ≡ true → c ≡ true) → (a || b) ≡ true → (a || c) ≡ true
after true b c more is = refl
after false b c more is = more is

behind : (a b : Bool) → b ≡ true → (a || b) ≡ true
behind true b is = refl
behind false b is = is

set_key-where : (one : Key) (keys : List Key) → list_any says_where keys ≡ true → list_any says_where (set_key rank one keys) ≡ true
unfolding set_key
set_key-where one [] is = cc
set_key-where one (first ∷ keys) is = cases (nat_lt (rank first) (rank one)) (nat_eq (rank first) (rank one)) refl (set_key-where one keys)
  where
    cases : (lower same : Bool) → nat_eq (rank first) (rank one) ≡ same → (list_any says_where keys ≡ true → list_any says_where (set_key rank one keys) ≡ true) → list_any says_where (cond lower (first ∷ set_key rank one keys) (cond same (one ∷ keys) (one ∷ (first ∷ keys)))) ≡ true
    cases true same e more = after (says_where first) (list_any says_where keys) (list_any says_where (set_key rank one keys)) more is
    cases false true e more = ap (λ (b : Bool). b || list_any says_where keys) (where-same one first (sym (eqb-true (rank first) (rank one) e))) ∙ is
    cases false false e more = behind (says_where one) (list_any says_where (first ∷ keys)) is

keys_with-where : (keys old : List Key) → list_any says_where old ≡ true → list_any says_where (keys_with keys old) ≡ true
unfolding keys_with
keys_with-where [] old is = is
keys_with-where (one ∷ keys) old is = keys_with-where keys (set_key rank one old) (set_key-where one old is)

-- ---- the element

form-kept : (step : Step) (new keys : List Key) → (list_any says_where keys ≡ true → list_any says_where new ≡ true) → HasForm IsPlacedOrDerived step keys → HasForm IsPlacedOrDerived step new
form-kept step new keys kept form = at step.kind form
  where
    at : (kind : Kind) → HasForm IsPlacedOrDerived (record { kind = kind; name = step.name; number = step.number }) keys → HasForm IsPlacedOrDerived (record { kind = kind; name = step.name; number = step.number }) new
    at peripheral f = f
    at cluster f = f
    at register f = f
    at field f = (f.0, kept f.1)
    at set f = tt
    at value f = f

pub bounded-of : (places : List Bool) (keys : List Key) → AreGood places keys → AllByRecursion (IsBounded (2 ^ 64)) keys
bounded-of places [] good = tt
bounded-of places (one ∷ keys) good = (good.0.bounded, bounded-of places keys good.1)

pub indexed-of : (places : List Bool) (keys : List Key) → AreGood places keys → AllByRecursion IsIndexed keys
indexed-of places [] good = tt
indexed-of places (one ∷ keys) good = (good.0.indexed, indexed-of places keys good.1)

pub set_at : (kind : Kind) → is_patched kind ≡ true → IsSetAt (container_of kind)
set_at peripheral is = tt
set_at cluster is = tt
set_at register is = tt
set_at field is = tt
set_at set is = cc
set_at value is = cc

pub setting-keeps : SettingKeepsElements
setting-keeps step texts keys patched is =
    let good = keys_set-good (container_of step.kind) (set_at step.kind patched) texts in
    let new = keys_set (container_of step.kind) texts in record {
      form = form-kept step (keys_with new keys) keys (keys_with-where new keys) is.form;
      bounded = keys_with-all (IsBounded (2 ^ 64)) new keys (bounded-of (fitting (container_of step.kind)) new good) is.bounded;
      indexed = keys_with-all IsIndexed new keys (indexed-of (fitting (container_of step.kind)) new good) is.indexed;
    }

-- ---- another name

form-renamed : (kind : Kind) (old name : List ℕ) (number : ℕ) (keys : List Key) → is_patched kind ≡ true → HasForm IsPlacedOrDerived (record { kind = kind; name = old; number = number }) keys → HasForm IsPlacedOrDerived (record { kind = kind; name = name; number = 0 }) keys
form-renamed peripheral old name number keys known form = refl
form-renamed cluster old name number keys known form = refl
form-renamed register old name number keys known form = refl
form-renamed field old name number keys known form = (refl, form.1)
form-renamed set old name number keys known form = tt
form-renamed value old name number keys known form = absurd (no known)
  where
    no : false ≡ true → ⊥
    no e = cc

-- what is said of an element known to patches holds of it under another name
pub renamed-keeps : (step : Step) (name : List ℕ) (keys : List Key) → is_patched step.kind ≡ true → IsElement IsPlacedOrDerived step keys → IsElement IsPlacedOrDerived (renamed_step name step) keys
renamed-keeps step name keys known fine = record {
  form = form-renamed step.kind step.name name step.number keys known fine.form;
  bounded = fine.bounded;
  indexed = fine.indexed;
}
