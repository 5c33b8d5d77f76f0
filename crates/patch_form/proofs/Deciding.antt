-- Tests that decide a fact.
use Rattle.std.proofs.Common.{◌≡◌, ◌≤◌, ℕ, List, length, Bool, true, false, Option, Some, None, refl, sym}
use Rattle.std.specs.List.{list_all}
use Rattle.pac_base.specs.Names.{IsName}
use Rattle.patch_form.specs.declared.form.Form.TheVariants.{DeviceName}
use Rattle.patch_form.specs.Forms.{HasForm, is_printed}
use Rattle.std.specs.Prelude.{◌↔◌, MatchBool, is_some}

none_some : {X : Type 0} (x : X) → None ≡ Some x → ⊥
none_some x is = absurd cc

pub some_decides : {X : Type 0} (found : Option X) (P : X → Type 0) → ((x : X) → (found ≡ Some x) ↔ P x) → MatchBool (is_some found) ((x : X) × P x) (¬ ((x : X) × P x))
some_decides None P says = λ some. none_some some.0 ((says some.0).1 some.1)
some_decides (Some x) P says = (x, (says x).0 refl)

pub device_decides : (text : List ℕ) (printed : Bool) → 1 ≤ length text → length text ≤ 255 → printed ≡ list_all is_printed text → MatchBool printed (HasForm DeviceName text) (¬ (HasForm DeviceName text))
device_decides text true some short is = (some, short, sym is)
device_decides text false some short is = λ form. not_both (list_all is_printed text) (sym is) form.2
  where
    not_both : (b : Bool) → b ≡ false → b ≡ true → ⊥
    not_both b is_false is_true = absurd cc

pub name_decides : (text : List ℕ) (found : Bool) → (found ≡ true → IsName text) → (found ≡ false → ¬ (IsName text)) → MatchBool found (IsName text) (¬ (IsName text))
name_decides text true named unnamed = named refl
name_decides text false named unnamed = unnamed refl
