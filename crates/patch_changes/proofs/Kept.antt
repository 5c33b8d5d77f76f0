-- `_modify` keeps what is said of each element of a description, and that siblings are distinct.
use Rattle.std.proofs.Common.{◌≡◌, ◌⊎◌, ◌≤◌, ℕ, ◌+◌, Bool, true, false, cond, ◌&&◌, nat_eq, List, [], ◌∷◌, ◌++◌, map, Option, None, Some, Result, Ok, Err, IfOk, refl, sym, ap, ap₂, ◌∙◌, subst, inl, inr, arith}
use Rattle.std.specs.List.{AllByRecursion, list_any}
use Rattle.std.specs.Str.{bytes_eq}
use Rattle.std.proofs.lemmas.Bool.{or_parts}
use Rattle.patch_changes.proofs.Changing.{AreRanked, matched-known, modifying-agrees, one-more}
use Rattle.patch_changes.proofs.Siblings.{distinct-keys, distinct-renamed, none-before, none-behind}
use Rattle.patch_changes.specs.Changes.{changed_behind, changed_below, changed_with, new_keys, new_step}
use Rattle.patch_edits.proofs.Binds.{given, given_is}
use Rattle.patch_edits.proofs.Contexts.{tree_with}
use Rattle.patch_edits.proofs.Keeping.{Keeps, each-steps, visited-every}
use Rattle.patch_edits.proofs.Recounting.{Evens, evens-shrinks}
use Rattle.patch_edits.proofs.Walks.{AgreesWhere, GoesDown, Shrinks, visited-fewer}
use Rattle.patch_edits.specs.Commands.{order_at}
use Rattle.patch_edits.specs.Deletions.{but_in_field, matched}
use Rattle.patch_edits.specs.Edits.{Edited}
use Rattle.patch_edits.specs.Visits.{Below, each, only_if, visited}
use Rattle.patch_growth.proofs.Typed.{IsTyped, holds, holds_at}
use Rattle.patch_model.specs.Acts.{KeyList, PatternItems, modifies}
use Rattle.patch_sem.proofs.Outcomes.{both_ok}
use Rattle.patch_sem.specs.declared.fault.PatchFault.{PatchFault}
use Rattle.patch_sem.specs.declared.fault.PatchFault.TheVariants.{AddExists, NoMatch}
use Rattle.patch_sem.specs.Copying.{renamed_step}
use Rattle.patch_sem.specs.Selecting.{is_named, is_patched, selects}
use Rattle.patch_sem.specs.Settings.{container_of, keys_set, keys_with}
use Rattle.patch_sem.specs.Steps.{Outcome, ◌>>=◌, refused_if, unless_none}
use Rattle.patch_settings.proofs.Keeping.{renamed-keeps, setting-keeps}
use Rattle.svd_model.proofs.Copies.{sibling_eq-turns}
use Rattle.svd_model.specs.Counting.{elements_in}
use Rattle.svd_model.specs.Facts.{IsElement, IsFolded, IsPlacedOrDerived, element_limit, is_counted}
use Rattle.svd_model.specs.Keys.{Key}
use Rattle.svd_model.specs.Steps.{Kind, Step, peripheral, cluster, register, field, set, value, same_key}
use Rattle.svd_rows.proofs.Facts.{steps-join}
use Rattle.svd_rows.specs.Elements.{Every, IsDistinct, count}
use Rattle.svd_rows.specs.Forest.{join, leaf, node, steps}

abbrev Fine : Step → List Key → Type 0
Fine = IsElement IsPlacedOrDerived

-- ---- what went through, part by part

module _ (line : ℕ) (pattern : PatternItems) (texts : KeyList) (name : Option (List ℕ)) where
  record Parts (before : List Step) (s : Step) (ks : List Key) (c n new : Below) : Type 0 where
    step : Step
    rest : Below
    is_step : new_step (selects pattern s) line name (before ++ steps n) s ≡ Ok step
    is_rest : changed_behind line pattern texts name (before ++ step ∷ []) n ≡ Ok rest
    whole : node step (new_keys (selects pattern s) texts s ks) c rest ≡ new

  parts : (before : List Step) (s : Step) (ks : List Key) (c n new : Below) → changed_behind line pattern texts name before (node s ks c n) ≡ Ok new → Parts before s ks c n new
  unfolding changed_behind
  parts before s ks c n new e =
      let first = both_ok (new_step (selects pattern s) line name (before ++ steps n) s) (λ step. changed_behind line pattern texts name (before ++ step ∷ []) n >>= (λ rest. Ok (node step (new_keys (selects pattern s) texts s ks) c rest))) new e in
      let second = both_ok (changed_behind line pattern texts name (before ++ first.0 ∷ []) n) (λ rest. Ok (node first.0 (new_keys (selects pattern s) texts s ks) c rest)) new first.2 in
      record {
        step = first.0;
        rest = second.0;
        is_step = first.1;
        is_rest = second.1;
        whole = given_is (node first.0 (new_keys (selects pattern s) texts s ks) c second.0) new second.2;
      }

-- a step under a new name that none of the others has
record IsRenamed (b : Bool) (others : List Step) (s step : Step) : Type 0 where
  chosen : b ≡ true
  new : List ℕ
  is : step ≡ renamed_step new s
  free : list_any (is_named new) others ≡ false

-- as it was, or so
abbrev Stays : Bool → List Step → Step → Step → Type 0
Stays b others s step = (step ≡ s) ⊎ IsRenamed b others s step

abbrev step_given : Step → Outcome Step
step_given s = Ok s

step_is : (one other : Step) → step_given one ≡ step_given other → other ≡ one
step_is one other e = cc

step-stays : (b : Bool) (line : ℕ) (name : Option (List ℕ)) (others : List Step) (s step : Step) → new_step b line name others s ≡ Ok step → Stays b others s step
step-stays false line name others s step e = inl (step_is s step e)
step-stays true line None others s step e = inl (step_is s step e)
step-stays true line (Some new) others s step e = cases (list_any (is_named new) others) refl e
  where
    cases : (b : Bool) → list_any (is_named new) others ≡ b → refused_if b (AddExists line new) (Ok (renamed_step new s)) ≡ Ok step → Stays true others s step
    cases true is e = absurd (no e)
      where
        no : Err (AddExists line new) ≡ step_given step → ⊥
        no e = cc
    cases false is e = inr (record { chosen = refl; new = new; is = step_is (renamed_step new s) step e; free = is })

kind-stays : (b : Bool) (others : List Step) (s step : Step) → Stays b others s step → step.kind ≡ s.kind
kind-stays b others s step (inl same) = ap (λ (t : Step). t.kind) same
kind-stays b others s step (inr renamed) = ap (λ (t : Step). t.kind) renamed.is

-- ---- each element

fine-one : (line : ℕ) (pattern : PatternItems) (texts : KeyList) (others : List Step) (s step : Step) (ks : List Key) (b : Bool) → selects pattern s ≡ b → Stays b others s step → Fine s ks → Fine step (new_keys b texts s ks)
fine-one line pattern texts others s step ks true is (inl same) h =
    subst (λ (t : Step). Fine t (keys_with (keys_set (container_of s.kind) texts) ks)) (sym same) (setting-keeps s texts ks (matched-known pattern s is) h)
fine-one line pattern texts others s step ks true is (inr renamed) h =
    subst (λ (t : Step). Fine t (keys_with (keys_set (container_of s.kind) texts) ks)) (sym renamed.is)
    (renamed-keeps s renamed.new (keys_with (keys_set (container_of s.kind) texts) ks) (matched-known pattern s is) (setting-keeps s texts ks (matched-known pattern s is) h))
fine-one line pattern texts others s step ks false is (inl same) h = subst (λ (t : Step). Fine t ks) (sym same) h
fine-one line pattern texts others s step ks false is (inr renamed) h = absurd (no renamed.chosen)
  where
    no : false ≡ true → ⊥
    no e = cc

module _ (line : ℕ) (pattern : PatternItems) (texts : KeyList) (name : Option (List ℕ)) where
  behind-every : (f : Below) (before : List Step) (new : Below) → changed_behind line pattern texts name before f ≡ Ok new → Every Fine f → Every Fine new
  unfolding Every changed_behind
  behind-every leaf before new e h = subst (Every Fine) (given_is leaf new e) h
  behind-every (node s ks c n) before new e h =
      let p = parts line pattern texts name before s ks c n new e in
      subst (Every Fine) p.whole (
        fine-one line pattern texts (before ++ steps n) s p.step ks (selects pattern s) refl (step-stays (selects pattern s) line name (before ++ steps n) s p.step p.is_step) h.0,
        h.1,
        behind-every n (before ++ p.step ∷ []) p.rest p.is_rest h.2,
      )

  -- ---- counts

  behind-counted : (f : Below) (before : List Step) (new : Below) → changed_behind line pattern texts name before f ≡ Ok new → elements_in new ≡ elements_in f
  unfolding count changed_behind
  behind-counted leaf before new e = ap elements_in (sym (given_is leaf new e))
  behind-counted (node s ks c n) before new e =
      let p = parts line pattern texts name before s ks c n new e in
      ap elements_in (sym p.whole)
      ∙ ap₂ (λ (kind : Kind) (more : ℕ). cond (is_counted (record { kind = kind; name = s.name; number = s.number })) 1 0 + (elements_in c + more))
      (kind-stays (selects pattern s) (before ++ steps n) s p.step (step-stays (selects pattern s) line name (before ++ steps n) s p.step p.is_step))
      (behind-counted n (before ++ p.step ∷ []) p.rest p.is_rest)

-- ---- siblings

key-turns : (one other : Step) → same_key one other ≡ false → same_key other one ≡ false
unfolding same_key
key-turns one other e = sibling_eq-turns (record { name = other.name; number = other.number }) (record { name = one.name; number = one.number }) ∙ e

abbrev AllKnown : List Step → Type 0
AllKnown all = AllByRecursion (λ step. is_patched step.kind ≡ true) all

known-more : (before : List Step) (step : Step) → AllKnown before → is_patched step.kind ≡ true → AllKnown (before ++ step ∷ [])
known-more [] step h known = (known, tt)
known-more (first ∷ before) step h known = (h.0, known-more before step h.1 known)

-- a step of that name has another key than siblings of which none has the name
free-apart : (new : List ℕ) (s : Step) (others : List Step) → AllKnown others → list_any (is_named new) others ≡ false → AllByRecursion (λ other. same_key (renamed_step new s) other ≡ false) others
unfolding is_named same_key
free-apart new s [] known free = tt
free-apart new s (other ∷ others) known free =
    let both = or_parts (is_patched other.kind && bytes_eq new other.name) (list_any (is_named new) others) free in
    (ap (λ (b : Bool). b && nat_eq 0 other.number) (differ (is_patched other.kind) (bytes_eq new other.name) known.0 both.0), free-apart new s others known.1 both.1)
  where
    differ : (a b : Bool) → a ≡ true → (a && b) ≡ false → b ≡ false
    differ true b known e = e
    differ false b known e = absurd (no known)
      where
        no : false ≡ true → ⊥
        no e = cc

module _ (line : ℕ) (pattern : PatternItems) (texts : KeyList) (name : Option (List ℕ)) where
  one-apart : (b : Bool) (s step : Step) (ks new : List Key) (c n front : Below) → AllKnown (steps front) → AllKnown (steps n) → Stays b (steps front ++ steps n) s step → IsDistinct same_key (join front (node s ks c n)) → IsDistinct same_key (join front (node step new c n))
  one-apart b s step ks new c n front before behind (inl same) h =
      subst (λ (t : Step). IsDistinct same_key (join front (node t new c n))) (sym same) (distinct-keys same_key s ks new c n front h)
  one-apart b s step ks new c n front before behind (inr renamed) h =
      subst (λ (t : Step). IsDistinct same_key (join front (node t new c n))) (sym renamed.is)
      (distinct-renamed same_key key-turns s new c n (renamed_step renamed.new s) front
      (free-apart renamed.new s (steps front) before (none-before (is_named renamed.new) (steps front) (steps n) renamed.free))
      (free-apart renamed.new s (steps n) behind (none-behind (is_named renamed.new) (steps front) (steps n) renamed.free))
      (distinct-keys same_key s ks new c n front h))

  behind-apart : (f front new : Below) → changed_behind line pattern texts name (steps front) f ≡ Ok new → AllKnown (steps front) → AllKnown (steps f) → IsDistinct same_key (join front f) → IsDistinct same_key (join front new)
  unfolding changed_behind steps
  behind-apart leaf front new e before known h = subst (λ (g : Below). IsDistinct same_key (join front g)) (given_is leaf new e) h
  behind-apart (node s ks c n) front new e before known h =
      let p = parts line pattern texts name (steps front) s ks c n new e in
      let stays = step-stays (selects pattern s) line name (steps front ++ steps n) s p.step p.is_step in
      let keys = new_keys (selects pattern s) texts s ks in
      let further = join front (node p.step keys c leaf) in
      let steps_so : steps further ≡ steps front ++ p.step ∷ [] = steps-join front (node p.step keys c leaf) in
      subst (λ (g : Below). IsDistinct same_key (join front g)) p.whole
      (subst (IsDistinct same_key) (one-more front p.step keys c p.rest)
      (behind-apart n further p.rest
      (ap (λ (all : List Step). changed_behind line pattern texts name all n) steps_so ∙ p.is_rest)
      (subst AllKnown (sym steps_so) (known-more (steps front) p.step before (ap is_patched (kind-stays (selects pattern s) (steps front ++ steps n) s p.step stays) ∙ known.0)))
      known.1
      (subst (IsDistinct same_key) (sym (one-more front p.step keys c n)) (one-apart (selects pattern s) s p.step ks keys c n front before known.1 stays h))))

  -- from the first child on
  from_leaf : (f new : Below) → changed_behind line pattern texts name [] f ≡ Ok new → AllKnown (steps f) → IsDistinct same_key f → IsDistinct same_key new
  unfolding join steps
  from_leaf f new e known h = behind-apart f leaf new e tt known h

-- ---- the edit

gave-some : (line : ℕ) (xs : List Step) (made : Outcome Below) (new : Below) → unless_none line xs made ≡ Ok new → made ≡ Ok new
gave-some line [] made new e = absurd (no e)
  where
    no : Err (NoMatch line) ≡ given new → ⊥
    no e = cc
gave-some line (x ∷ xs) made new e = e

gave : (line : ℕ) (kind : Option Kind) (xs : List Step) (made : Outcome Below) (new : Below) → but_in_field line kind (unless_none line xs made) ≡ Ok new → made ≡ Ok new
gave line None xs made new e = gave-some line xs made new e
gave line (Some peripheral) xs made new e = gave-some line xs made new e
gave line (Some cluster) xs made new e = gave-some line xs made new e
gave line (Some register) xs made new e = gave-some line xs made new e
gave line (Some field) xs made new e = absurd (no e)
  where
    no : Err (NoMatch line) ≡ given new → ⊥
    no e = cc
gave line (Some set) xs made new e = gave-some line xs made new e
gave line (Some value) xs made new e = gave-some line xs made new e

pub changing-evens : (line : ℕ) (pattern : PatternItems) (texts : KeyList) (name : Option (List ℕ)) → Evens (changed_with line pattern texts name)
unfolding changed_with
changing-evens line pattern texts name kind f new e =
    behind-counted line pattern texts name f [] new (gave line kind (matched pattern f) (changed_behind line pattern texts name [] f) new e)

pub changing-shrinks : (line : ℕ) (pattern : PatternItems) (texts : KeyList) (name : Option (List ℕ)) → Shrinks (changed_with line pattern texts name)
changing-shrinks line pattern texts name = evens-shrinks (changed_with line pattern texts name) (changing-evens line pattern texts name)

pub changing-every : (line : ℕ) (pattern : PatternItems) (texts : KeyList) (name : Option (List ℕ)) → Keeps (Every Fine) (changed_with line pattern texts name)
unfolding changed_with
changing-every line pattern texts name kind f new e h =
    behind-every line pattern texts name f [] new (gave line kind (matched pattern f) (changed_behind line pattern texts name [] f) new e) h

-- ---- where the children of an element are known to patches

-- is it the device, or an element known to patches?
abbrev pub is_known : Option Kind → Bool
is_known None = true
is_known (Some kind) = is_patched kind

-- an edit keeps siblings distinct where they are known to patches
abbrev pub KeepsApart : (Option Kind → Below → Outcome Below) → Type 0
KeepsApart edit =
    (kind : Option Kind) (f new : Below) → is_known kind ≡ true → IsTyped (holds_at kind) f → edit kind f ≡ Ok new → IsDistinct same_key f → IsDistinct same_key new

typed-known : (f : Below) → IsTyped true f → AllKnown (steps f)
unfolding IsTyped steps
typed-known leaf typed = tt
typed-known (node s ks c n) typed = (typed.0 refl, typed-known n typed.3)

pub changing-apart : (line : ℕ) (pattern : PatternItems) (texts : KeyList) (name : Option (List ℕ)) → KeepsApart (changed_with line pattern texts name)
unfolding changed_with
changing-apart line pattern texts name kind f new known typed e h = cases kind known typed e
  where
    here : IsTyped true f → changed_behind line pattern texts name [] f ≡ Ok new → IsDistinct same_key new
    here all is = from_leaf line pattern texts name f new is (typed-known f all) h

    cases : (kind : Option Kind) → is_known kind ≡ true → IsTyped (holds_at kind) f → but_in_field line kind (unless_none line (matched pattern f) (changed_behind line pattern texts name [] f)) ≡ Ok new → IsDistinct same_key new
    cases None known typed e = here typed (gave-some line (matched pattern f) (changed_behind line pattern texts name [] f) new e)
    cases (Some peripheral) known typed e = here typed (gave-some line (matched pattern f) (changed_behind line pattern texts name [] f) new e)
    cases (Some cluster) known typed e = here typed (gave-some line (matched pattern f) (changed_behind line pattern texts name [] f) new e)
    cases (Some register) known typed e = here typed (gave-some line (matched pattern f) (changed_behind line pattern texts name [] f) new e)
    cases (Some field) known typed e = absurd (no e)
      where
        no : Err (NoMatch line) ≡ given new → ⊥
        no e = cc
    cases (Some set) known typed e = absurd (no known)
      where
        no : false ≡ true → ⊥
        no e = cc
    cases (Some value) known typed e = absurd (no known)
      where
        no : false ≡ true → ⊥
        no e = cc

-- ---- the walk

module _ (pattern : PatternItems) (edit : Kind → Below → Outcome Below) (keeps : (kind : Kind) (f new : Below) → is_patched kind ≡ true → IsTyped (holds kind) f → edit kind f ≡ Ok new → IsDistinct same_key f → IsDistinct same_key new) where
  only-apart : (b : Bool) (s : Step) (c new : Below) → selects pattern s ≡ b → IsTyped (holds s.kind) c → only_if b (edit s.kind c) c ≡ Ok new → IsDistinct same_key c → IsDistinct same_key new
  only-apart true s c new is typed e h = keeps s.kind c new (matched-known pattern s is) typed e h
  only-apart false s c new is typed e h = subst (IsDistinct same_key) (given_is c new e) h

  each-apart : (known : Bool) (f new : Below) → IsTyped known f → each (selects pattern) edit f ≡ Ok new → IsDistinct same_key f → IsDistinct same_key new
  unfolding each IsDistinct IsTyped
  each-apart known leaf new typed e h = subst (IsDistinct same_key) (given_is leaf new e) h
  each-apart known (node s ks c n) new typed e h =
      let first = both_ok (only_if (selects pattern s) (edit s.kind c) c) (λ below. each (selects pattern) edit n >>= (λ others. Ok (node s ks below others))) new e in
      let second = both_ok (each (selects pattern) edit n) (λ others. Ok (node s ks first.0 others)) new first.2 in
      subst (IsDistinct same_key) (given_is (node s ks first.0 second.0) new second.2) (
        subst (λ (all : List Step). AllByRecursion (λ other. same_key s other ≡ false) all) (each-steps (selects pattern) edit n second.0 second.1) h.0,
        only-apart (selects pattern s) s c first.0 refl typed.2 first.1 h.1,
        each-apart known n second.0 typed.3 second.1 h.2,
      )

pub visited-apart : (edit : Option Kind → Below → Outcome Below) → KeepsApart edit → (patterns : List PatternItems) → KeepsApart (visited edit (map selects patterns))
unfolding visited
visited-apart edit keeps [] kind f new known typed e h = keeps kind f new known typed e h
visited-apart edit keeps (pattern ∷ patterns) kind f new known typed e h =
    each-apart pattern (λ inner. visited edit (map selects patterns) (Some inner)) (λ inner. visited-apart edit keeps patterns (Some inner)) (holds_at kind) f new typed e h

-- ---- among the rows

abbrev pub TypedAt : Option Kind → Below → Type 0
TypedAt kind f = IsTyped (holds_at kind) f

pub typed-down : GoesDown TypedAt
unfolding IsTyped
typed-down kind s ks c n typed = (typed.2, typed.3)

typed-ranked : (known : Bool) (f : Below) → IsTyped known f → AreRanked f
unfolding IsTyped Every
typed-ranked known leaf typed = tt
typed-ranked known (node s ks c n) typed = (typed.1, typed-ranked (holds s.kind) c typed.2, typed-ranked known n typed.3)

pub changing-agrees : (line : ℕ) (pattern : PatternItems) (texts : KeyList) (parents : List PatternItems) → AgreesWhere TypedAt (order_at line parents (modifies pattern texts)) (changed_below line pattern texts)
changing-agrees line pattern texts parents kind keys f typed distinct = modifying-agrees line pattern texts kind keys f distinct (typed-ranked (holds_at kind) f typed)

-- ---- a device

-- a described device stays one
pub device-changed : (line : ℕ) (pattern : PatternItems) (texts : KeyList) (name : Option (List ℕ)) (parents : List PatternItems) (keys : List Key) (f new : Below) (result : Result (Unit {0}) PatchFault) → IsFolded IsPlacedOrDerived (tree_with keys f) → IsTyped true f
    → Edited (visited (changed_with line pattern texts name) (map selects parents) None f) new result → IfOk result (λ done. IsFolded IsPlacedOrDerived (tree_with keys new))
device-changed line pattern texts name parents keys f new (Ok done) folded typed e = record {
  distinct = visited-apart (changed_with line pattern texts name) (changing-apart line pattern texts name) parents None f new refl typed e folded.distinct;
  elements = visited-every Fine (changed_with line pattern texts name) (changing-every line pattern texts name) (map selects parents) None f new e folded.elements;
  few = less (elements_in new) (elements_in f) (visited-fewer (changed_with line pattern texts name) (changing-shrinks line pattern texts name) (map selects parents) None f new e) folded.few;
}
  where
    less : (a b : ℕ) → a ≤ b → b ≤ element_limit → a ≤ element_limit
    less a b fewer few = omega (arith, fewer, few)
device-changed line pattern texts name parents keys f new (Err fault) folded typed e = tt
