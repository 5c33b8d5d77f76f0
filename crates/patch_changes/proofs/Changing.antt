-- `_modify` at one element: one child after the other, in the tree and among the rows.
use Rattle.std.proofs.Common.{◌≡◌, ℕ, Bool, true, false, cond, ◌&&◌, List, [], ◌∷◌, ◌++◌, filter, Option, None, Some, Ok, refl, sym, ap, ◌∙◌, subst}
use Rattle.std.specs.List.{list_any}
use Rattle.patch_changes.proofs.Siblings.{absent-before, absent-behind, all-set, distinct-keys, distinct-renamed, fresh, none-before, none-behind, sibling-named, turned, under-name}
use Rattle.patch_changes.specs.Changes.{changed_behind, changed_with, named, new_keys, new_step}
use Rattle.patch_changes.specs.Laws.{ModifyingIsChanging}
use Rattle.patch_edits.proofs.Binds.{bind-assoc, bind-same}
use Rattle.patch_edits.proofs.Contexts.{tree_with}
use Rattle.patch_edits.specs.Deletions.{matched}
use Rattle.patch_edits.specs.Visits.{Below}
use Rattle.patch_model.specs.Acts.{KeyList, PatternItems}
use Rattle.patch_sem.specs.declared.fault.PatchFault.TheVariants.{AddExists}
use Rattle.patch_sem.specs.Copying.{renamed_step}
use Rattle.patch_sem.specs.Modifying.{is_of_sibling, modified_each, modifying, new_name, renaming, under_name}
use Rattle.patch_sem.specs.Patching.{done_at}
use Rattle.patch_sem.specs.Selecting.{Rows, is_named, is_patched, selects}
use Rattle.patch_sem.specs.Settings.{container_of, keys_set, keys_with}
use Rattle.patch_sem.specs.Steps.{Outcome, ◌>>=◌, refused_if, unless_none}
use Rattle.svd_model.specs.Keys.{Key, rank}
use Rattle.svd_model.specs.Steps.{Step, peripheral, cluster, register, field, set, value, same_step}
use Rattle.svd_rows.proofs.Facts.{steps-join}
use Rattle.svd_rows.proofs.LookUps.{children_of-rows}
use Rattle.svd_rows.specs.Elements.{Every, IsDistinct}
use Rattle.svd_rows.specs.Forest.{join, leaf, node, steps}
use Rattle.svd_rows.specs.LookUps.{children_of}
use Rattle.svd_rows.specs.Ranks.{IsRanked}
use Rattle.svd_rows.specs.Rows.{rows}

abbrev pub AreRanked : Below → Type 0
AreRanked f = Every (λ step keys. IsRanked rank keys) f

-- one more sibling before the others
pub one-more : (front : Below) (s : Step) (ks : List Key) (c n : Below) → join (join front (node s ks c leaf)) n ≡ join front (node s ks c n)
unfolding join
one-more leaf s ks c n = refl
one-more (node t ts d front) s ks c n = ap (node t ts d) (one-more front s ks c n)

pub matched-known : (pattern : PatternItems) (s : Step) → selects pattern s ≡ true → is_patched s.kind ≡ true
unfolding selects
matched-known pattern s e = first (is_patched s.kind) _ e
  where
    first : (a b : Bool) → (a && b) ≡ true → a ≡ true
    first true b is = refl
    first false b is = is

module _ (line : ℕ) (pattern : PatternItems) (texts : KeyList) (keys : List Key) where
  abbrev seen : Below → Rows
  seen f = rows (tree_with keys f)

  abbrev left : List Step → List Step
  left all = filter (selects pattern) all

  -- what is said of the siblings that are still to come, whatever stands before them
  abbrev Goes : Below → Type 0
  Goes n =
      (front : Below) → IsDistinct same_step (join front n) → AreRanked n
      → modified_each line texts (left (steps n)) (seen (join front n)) ≡ (changed_behind line pattern texts (new_name texts) (steps front) n >>= (λ rest. Ok (seen (join front rest))))

  -- behind one more sibling
  behind-one : (s : Step) (ks : List Key) (c n front : Below) → IsDistinct same_step (join front (node s ks c n)) → AreRanked n → Goes n
      → modified_each line texts (left (steps n)) (seen (join front (node s ks c n))) ≡ ((changed_behind line pattern texts (new_name texts) (steps front ++ s ∷ []) n >>= (λ rest. Ok (node s ks c rest))) >>= (λ rest. Ok (seen (join front rest))))
  unfolding steps
  behind-one s ks c n front distinct ranked goes =
      ap (λ (f : Below). modified_each line texts (left (steps n)) (seen f)) (sym (one-more front s ks c n))
      ∙ goes (join front (node s ks c leaf)) (subst (IsDistinct same_step) (sym (one-more front s ks c n)) distinct) ranked
      ∙ ap (λ (before : List Step). changed_behind line pattern texts (new_name texts) before n >>= (λ rest. Ok (seen (join (join front (node s ks c leaf)) rest)))) (steps-join front (node s ks c leaf))
      ∙ bind-same (changed_behind line pattern texts (new_name texts) (steps front ++ s ∷ []) n) (λ rest. Ok (seen (join (join front (node s ks c leaf)) rest))) (λ rest. Ok (seen (join front (node s ks c rest))))
      (λ rest is. ap (λ (f : Below). Ok (seen f)) (one-more front s ks c rest))
      ∙ sym (bind-assoc (changed_behind line pattern texts (new_name texts) (steps front ++ s ∷ []) n) (λ rest. Ok (node s ks c rest)) (λ rest. Ok (seen (join front rest))))

  -- a child that is renamed, or not
  renamed-one : (s : Step) (ks : List Key) (c n front : Below) → is_patched s.kind ≡ true → IsDistinct same_step (join front (node s ks c n)) → AreRanked n → Goes n → (name : Option (List ℕ))
      → (renaming line s name (seen (join front (node s ks c n))) >>= modified_each line texts (left (steps n))) ≡ ((named line (steps front ++ steps n) s name >>= (λ new. changed_behind line pattern texts (new_name texts) (steps front ++ new ∷ []) n >>= (λ rest. Ok (node new ks c rest)))) >>= (λ rest. Ok (seen (join front rest))))
  unfolding steps
  renamed-one s ks c n front known distinct ranked goes None = behind-one s ks c n front distinct ranked goes
  renamed-one s ks c n front known distinct ranked goes (Some name) =
      ap (λ (b : Bool). refused_if b (AddExists line name) (Ok (under_name s name (seen (join front (node s ks c n))))) >>= modified_each line texts (left (steps n))) test
      ∙ cases (list_any (is_named name) (steps front ++ steps n)) refl
    where
      test : list_any (is_of_sibling name s) (children_of (seen (join front (node s ks c n)))) ≡ list_any (is_named name) (steps front ++ steps n)
      test =
          ap (list_any (is_of_sibling name s)) (children_of-rows (tree_with keys (join front (node s ks c n))) ∙ steps-join front (node s ks c n))
          ∙ sibling-named name s (steps front) (steps n) (absent-before s ks c n front distinct) (absent-behind s ks c n front distinct)

      cases : (b : Bool) → list_any (is_named name) (steps front ++ steps n) ≡ b
          → (refused_if b (AddExists line name) (Ok (under_name s name (seen (join front (node s ks c n))))) >>= modified_each line texts (left (steps n)))
          ≡ ((refused_if b (AddExists line name) (Ok (renamed_step name s)) >>= (λ new. changed_behind line pattern texts (new_name texts) (steps front ++ new ∷ []) n >>= (λ rest. Ok (node new ks c rest)))) >>= (λ rest. Ok (seen (join front rest))))
      cases true e = refl
      cases false e =
          ap (modified_each line texts (left (steps n))) (under-name s ks c n keys front name distinct)
          ∙ behind-one (renamed_step name s) ks c n front
          (distinct-renamed same_step turned s ks c n (renamed_step name s) front (fresh name s (steps front) known (none-before (is_named name) (steps front) (steps n) e)) (fresh name s (steps n) known (none-behind (is_named name) (steps front) (steps n) e)) distinct)
          ranked goes

  each-child : (n : Below) → Goes n
  unfolding modified_each changed_behind Every steps
  each-child leaf front distinct ranked = refl
  each-child (node s ks c n) front distinct ranked = cases (selects pattern s) refl (each-child n)
    where
      cases : (b : Bool) → selects pattern s ≡ b → Goes n
          → modified_each line texts (cond b (s ∷ left (steps n)) (left (steps n))) (seen (join front (node s ks c n)))
          ≡ ((new_step b line (new_name texts) (steps front ++ steps n) s >>= (λ new. changed_behind line pattern texts (new_name texts) (steps front ++ new ∷ []) n >>= (λ rest. Ok (node new (new_keys b texts s ks) c rest)))) >>= (λ rest. Ok (seen (join front rest))))
      cases true is goes =
          ap (λ (all : Rows). renaming line s (new_name texts) all >>= modified_each line texts (left (steps n))) (all-set keys s c n front (keys_set (container_of s.kind) texts) ks distinct ranked.0)
          ∙ renamed-one s (keys_with (keys_set (container_of s.kind) texts) ks) c n front (matched-known pattern s is) (distinct-keys same_step s ks (keys_with (keys_set (container_of s.kind) texts) ks) c n front distinct) ranked.2 goes (new_name texts)
      cases false is goes = behind-one s ks c n front distinct ranked.2 goes

  none-or : (xs : List Step) (one : Outcome Rows) (made : Outcome Below) → one ≡ (made >>= (λ new. Ok (seen new))) → unless_none line xs one ≡ (unless_none line xs made >>= (λ new. Ok (seen new)))
  none-or [] one made e = refl
  none-or (x ∷ xs) one made e = e

  pub modified-same : (f : Below) → IsDistinct same_step f → AreRanked f → modifying line pattern texts (seen f) ≡ (unless_none line (matched pattern f) (changed_behind line pattern texts (new_name texts) [] f) >>= (λ new. Ok (seen new)))
  unfolding modifying join steps
  modified-same f distinct ranked =
      ap (λ (all : List Step). unless_none line (left all) (modified_each line texts (left all) (seen f))) (children_of-rows (tree_with keys f))
      ∙ none-or (matched pattern f) (modified_each line texts (left (steps f)) (seen f)) (changed_behind line pattern texts (new_name texts) [] f) (each-child f leaf distinct ranked)

pub modifying-agrees : ModifyingIsChanging
unfolding done_at changed_with
modifying-agrees line pattern texts None keys f distinct ranked = modified-same line pattern texts keys f distinct ranked
modifying-agrees line pattern texts (Some peripheral) keys f distinct ranked = modified-same line pattern texts keys f distinct ranked
modifying-agrees line pattern texts (Some cluster) keys f distinct ranked = modified-same line pattern texts keys f distinct ranked
modifying-agrees line pattern texts (Some register) keys f distinct ranked = modified-same line pattern texts keys f distinct ranked
modifying-agrees line pattern texts (Some field) keys f distinct ranked = refl
modifying-agrees line pattern texts (Some set) keys f distinct ranked = modified-same line pattern texts keys f distinct ranked
modifying-agrees line pattern texts (Some value) keys f distinct ranked = modified-same line pattern texts keys f distinct ranked
