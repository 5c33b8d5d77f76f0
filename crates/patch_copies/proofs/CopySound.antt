-- A copy of an element of a description, under another name and with other keys, is one.
use Rattle.std.proofs.Common.{◌≡◌, ℕ, Bool, true, false, cond, List, Option, Some, None, Ok, Err, refl, subst}
use Rattle.patch_model.specs.Acts.{KeyList}
use Rattle.patch_sem.specs.declared.fault.PatchFault.TheVariants.{CopyMissing}
use Rattle.patch_sem.specs.Selecting.{is_named}
use Rattle.patch_sem.specs.Steps.{Outcome}
use Rattle.patch_edits.specs.Visits.{Below}
use Rattle.patch_copies.proofs.Copying.{first-passes, kind-known, some_is}
use Rattle.patch_growth.proofs.Sound.{Fine, IsSound, IsSoundChild, MakesSound}
use Rattle.patch_copies.specs.Copies.{copies_child, copy_of, first_child}
use Rattle.patch_settings.specs.Setting.{with_set}
use Rattle.patch_settings.proofs.Keeping.{renamed-keeps, setting-keeps}
use Rattle.svd_model.specs.Keys.{Key}
use Rattle.svd_model.specs.Steps.{Kind, Step}
use Rattle.svd_rows.specs.Elements.{Every, IsDistinct}
use Rattle.svd_rows.specs.Forest.{Tree, leaf, node}

-- a child, as an outcome
abbrev given : (Kind × Tree Step Key) → Outcome (Kind × Tree Step Key)
given child = Ok child

first-sound : (test : Step → Bool) (f : Below) (child : Step × Tree Step Key) → IsSound f → first_child test f ≡ Some child → Fine child.0 child.1.keys × IsSound child.1.below
unfolding first_child Every IsDistinct
first-sound test leaf child sound e = absurd (no e)
  where
    no : None ≡ Some child → ⊥
    no e = cc
first-sound test (node s ks c n) child sound e = cases (test s) e (first-sound test n child (record { elements = sound.elements.2; distinct = sound.distinct.2 }))
  where
    cases : (b : Bool) → cond b (Some (s, record { keys = ks; below = c })) (first_child test n) ≡ Some child → (first_child test n ≡ Some child → Fine child.0 child.1.keys × IsSound child.1.below) → Fine child.0 child.1.keys × IsSound child.1.below
    cases true found more = subst (λ (x : Step × Tree Step Key). Fine x.0 x.1.keys × IsSound x.1.below) (some_is (s, record { keys = ks; below = c }) child found) (sound.elements.0, record { elements = sound.elements.1; distinct = sound.distinct.1 })
    cases false found more = more found

pub copy-sound : (line : ℕ) (name from : List ℕ) (texts : KeyList) → MakesSound (copies_child line name from texts)
copy-sound line name from texts kind f child known typed sound e = cases (first_child (is_named from) f) refl e
  where
    made_is : (one other : Kind × Tree Step Key) → given one ≡ given other → one ≡ other
    made_is one other e = cc

    cases : (found : Option (Step × Tree Step Key)) → first_child (is_named from) f ≡ found → copy_of line from texts found ≡ Ok child → IsSoundChild name child
    cases None is e = absurd (no e)
      where
        no : Err (CopyMissing line from) ≡ given child → ⊥
        no e = cc
    cases (Some old) is e =
        let patched = kind-known from old.0 (first-passes (is_named from) f old is) in
        let good = first-sound (is_named from) f old sound is in
        subst (IsSoundChild name) (made_is (with_set texts (old.0.kind, old.1)) child e)
        (record {
          itself = setting-keeps (record { kind = old.0.kind; name = name; number = 0 }) texts old.1.keys patched (renamed-keeps old.0 name old.1.keys patched good.0);
          below = good.1;
        })
