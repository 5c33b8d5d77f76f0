-- Opening and deleting in the tree are those among the rows.
use Rattle.std.proofs.Common.{◌≡◌, ◌≢◌, ◌≤◌, ℕ, ◌+◌, Bool, true, false, cond, not, ◌||◌, List, [], ◌∷◌, map, filter, length, Option, Some, None, Ok, Err, refl, sym, ap, ap₂, ◌∙◌, subst, arith}
use Rattle.std.proofs.lemmas.List.Elements.{filter_agree}
use Rattle.std.specs.List.{list_any}
use Rattle.patch_model.specs.Acts.{PatternItems, deletes, opens}
use Rattle.patch_sem.specs.declared.fault.PatchFault.TheVariants.{NoMatch}
use Rattle.patch_sem.specs.Patching.{deleting, done_at, opening}
use Rattle.patch_sem.specs.Selecting.{Rows, selects}
use Rattle.patch_sem.specs.Steps.{◌>>=◌, unless_none}
use Rattle.patch_edits.proofs.Binds.{given}
use Rattle.patch_edits.proofs.Contexts.{tree_with}
use Rattle.glob_select.specs.Matching.{matches}
use Rattle.patch_edits.proofs.EditedTrees.{item-selected}
use Rattle.patch_edits.proofs.Keeping.{Keeps}
use Rattle.patch_edits.proofs.Walks.{Agrees, Shrinks}
use Rattle.svd_model.specs.declared.device.Field.{Field}
use Rattle.svd_model.specs.declared.device.Item.{Item}
use Rattle.svd_model.specs.declared.device.Peripheral.{Peripheral}
use Rattle.svd_model.specs.declared.sibling.Sibling.{Sibling}
use Rattle.svd_model.specs.Trees.{field_under, item_under, peripheral_under}
use Rattle.patch_edits.specs.Commands.{order_at}
use Rattle.patch_edits.specs.Deletions.{but_in_field, deleted_below, matched, opened_below}
use Rattle.patch_edits.specs.Visits.{Below}
use Rattle.svd_model.specs.Counting.{elements_in}
use Rattle.svd_model.specs.Facts.{is_counted}
use Rattle.svd_model.specs.Keys.{Key}
use Rattle.svd_model.specs.Steps.{Kind, Step, peripheral, cluster, register, field, same_key, set, value}
use Rattle.svd_rows.proofs.Deleting.{rows-without_children}
use Rattle.svd_rows.proofs.Facts.{Every-without, IsDistinct-without}
use Rattle.svd_rows.proofs.Lists.{filter-map, map-map}
use Rattle.svd_rows.proofs.LookUps.{children_of-rows}
use Rattle.svd_rows.proofs.Siblings.{steps-siblings, without-siblings}
use Rattle.svd_rows.specs.Edits.{replaced, within}
use Rattle.svd_rows.specs.Elements.{Every, IsDistinct, count}
use Rattle.svd_rows.specs.Forest.{Tree, join, leaf, node, siblings, steps}
use Rattle.svd_rows.specs.Rows.{rows}

none-or : (line : ℕ) (xs : List Step) (made : Below) (give : Below → Rows) → unless_none line xs (Ok (give made)) ≡ (unless_none line xs (Ok made) >>= (λ new. Ok (give new)))
none-or line [] made give = refl
none-or line (x ∷ xs) made give = refl

opened-same : (line : ℕ) (pattern : PatternItems) (keys : List Key) (f : Below) → opening line pattern (rows (tree_with keys f)) ≡ (unless_none line (matched pattern f) (Ok f) >>= (λ new. Ok (rows (tree_with keys new))))
unfolding opening
opened-same line pattern keys f =
    ap (λ (all : List Step). unless_none line (filter (selects pattern) all) (Ok (rows (tree_with keys f)))) (children_of-rows (tree_with keys f))
    ∙ none-or line (matched pattern f) f (λ new. rows (tree_with keys new))

deleted-same : (line : ℕ) (pattern : PatternItems) (keys : List Key) (f : Below) → deleting line pattern (rows (tree_with keys f)) ≡ (unless_none line (matched pattern f) (Ok (replaced (selects pattern) (λ step child. leaf) f)) >>= (λ new. Ok (rows (tree_with keys new))))
unfolding deleting within
deleted-same line pattern keys f =
    ap₂ (λ (all : List Step) (left : Rows). unless_none line (filter (selects pattern) all) (Ok left)) (children_of-rows (tree_with keys f)) (sym (rows-without_children [] (selects pattern) (tree_with keys f)))
    ∙ none-or line (matched pattern f) (replaced (selects pattern) (λ step child. leaf) f) (λ new. rows (tree_with keys new))

pub opening-agrees : (line : ℕ) (pattern : PatternItems) (parents : List PatternItems) → Agrees (order_at line parents (opens pattern)) (opened_below line pattern)
unfolding done_at opened_below
opening-agrees line pattern parents None keys f distinct = opened-same line pattern keys f
opening-agrees line pattern parents (Some peripheral) keys f distinct = opened-same line pattern keys f
opening-agrees line pattern parents (Some cluster) keys f distinct = opened-same line pattern keys f
opening-agrees line pattern parents (Some register) keys f distinct = opened-same line pattern keys f
opening-agrees line pattern parents (Some field) keys f distinct = refl
opening-agrees line pattern parents (Some set) keys f distinct = opened-same line pattern keys f
opening-agrees line pattern parents (Some value) keys f distinct = opened-same line pattern keys f

pub deletion-agrees : (line : ℕ) (pattern : PatternItems) (parents : List PatternItems) → Agrees (order_at line parents (deletes pattern)) (deleted_below line pattern)
unfolding done_at deleted_below
deletion-agrees line pattern parents None keys f distinct = deleted-same line pattern keys f
deletion-agrees line pattern parents (Some peripheral) keys f distinct = deleted-same line pattern keys f
deletion-agrees line pattern parents (Some cluster) keys f distinct = deleted-same line pattern keys f
deletion-agrees line pattern parents (Some register) keys f distinct = deleted-same line pattern keys f
deletion-agrees line pattern parents (Some field) keys f distinct = refl
deletion-agrees line pattern parents (Some set) keys f distinct = deleted-same line pattern keys f
deletion-agrees line pattern parents (Some value) keys f distinct = deleted-same line pattern keys f

-- ---- what an edit that went through has left

gave-some : (line : ℕ) (xs : List Step) (made new : Below) → unless_none line xs (given made) ≡ given new → made ≡ new
gave-some line [] made new e = cc
gave-some line (x ∷ xs) made new e = cc

-- where it went through, it gave this
pub gave : (line : ℕ) (kind : Option Kind) (xs : List Step) (made new : Below) → but_in_field line kind (unless_none line xs (given made)) ≡ given new → made ≡ new
gave line None xs made new e = gave-some line xs made new e
gave line (Some peripheral) xs made new e = gave-some line xs made new e
gave line (Some cluster) xs made new e = gave-some line xs made new e
gave line (Some register) xs made new e = gave-some line xs made new e
gave line (Some field) xs made new e = cc
gave line (Some set) xs made new e = gave-some line xs made new e
gave line (Some value) xs made new e = gave-some line xs made new e

pub opening-shrinks : (line : ℕ) (pattern : PatternItems) → Shrinks (opened_below line pattern)
unfolding opened_below
opening-shrinks line pattern kind f new e = subst (λ (g : Below). elements_in g ≤ elements_in f) (gave line kind (matched pattern f) f new e) (omega arith)

fewer-left : (test : Step → Bool) (f : Below) → elements_in (replaced test (λ step child. leaf) f) ≤ elements_in f
unfolding count replaced join
fewer-left test leaf = omega arith
fewer-left test (node s ks c n) = cases (test s) (fewer-left test n)
  where
    cases : (b : Bool) → elements_in (replaced test (λ step child. leaf) n) ≤ elements_in n → elements_in (cond b (replaced test (λ step child. leaf) n) (node s ks c (replaced test (λ step child. leaf) n))) ≤ cond (is_counted s) 1 0 + (elements_in c + elements_in n)
    cases true less = omega (arith, less)
    cases false less = omega (arith, less)

pub deletion-shrinks : (line : ℕ) (pattern : PatternItems) → Shrinks (deleted_below line pattern)
unfolding deleted_below
deletion-shrinks line pattern kind f new e =
    subst (λ (g : Below). elements_in g ≤ elements_in f) (gave line kind (matched pattern f) (replaced (selects pattern) (λ step child. leaf) f) new e) (fewer-left (selects pattern) f)

pub deletion-every : (line : ℕ) (pattern : PatternItems) (P : Step → List Key → Type 0) → Keeps (Every P) (deleted_below line pattern)
unfolding deleted_below
deletion-every line pattern P kind f new e h =
    subst (Every P) (gave line kind (matched pattern f) (replaced (selects pattern) (λ step child. leaf) f) new e) (Every-without P (selects pattern) f h)

pub deletion-distinct : (line : ℕ) (pattern : PatternItems) → Keeps (IsDistinct same_key) (deleted_below line pattern)
unfolding deleted_below
deletion-distinct line pattern kind f new e h =
    subst (IsDistinct same_key) (gave line kind (matched pattern f) (replaced (selects pattern) (λ step child. leaf) f) new e) (IsDistinct-without same_key (selects pattern) f h)

-- ---- a list of children from which those that pass a test are taken

module _ {A : Type 0} (line : ℕ) (pattern : PatternItems) (seen : A → Step × Tree Step Key) (test : A → Bool) (tells : (x : A) → selects pattern (seen x).0 ≡ test x) where
  counts : (old : List A) → length (filter (λ x. not (test x)) old) + length (filter (selects pattern) (map (λ x. (seen x).0) old)) ≡ length old
  counts [] = refl
  counts (x ∷ old) = ap (λ (b : Bool). length (cond (not (test x)) (x ∷ filter (λ y. not (test y)) old) (filter (λ y. not (test y)) old)) + length (cond b ((seen x).0 ∷ filter (selects pattern) (map (λ y. (seen y).0) old)) (filter (selects pattern) (map (λ y. (seen y).0) old)))) (tells x) ∙ cases (test x) (counts old)
    where
      cases : (b : Bool) → length (filter (λ y. not (test y)) old) + length (filter (selects pattern) (map (λ y. (seen y).0) old)) ≡ length old
          → length (cond (not b) (x ∷ filter (λ y. not (test y)) old) (filter (λ y. not (test y)) old)) + length (cond b ((seen x).0 ∷ filter (selects pattern) (map (λ y. (seen y).0) old)) (filter (selects pattern) (map (λ y. (seen y).0) old))) ≡ length (x ∷ old)
      cases true e = omega (arith, e)
      cases false e = omega (arith, e)

  steps_of : (old : List A) → steps (siblings (map seen old)) ≡ map (λ x. (seen x).0) old
  steps_of old = steps-siblings (map seen old) ∙ map-map (λ x. x.0) seen old

  left_of : (old : List A) → replaced (selects pattern) (λ step child. leaf) (siblings (map seen old)) ≡ siblings (map seen (filter (λ x. not (test x)) old))
  left_of old =
      without-siblings (selects pattern) (map seen old)
      ∙ ap siblings (filter-map (λ x. not (selects pattern x.0)) seen old ∙ ap (map seen) (filter_agree (λ x. not (selects pattern (seen x).0)) (λ x. not (test x)) (λ x. ap not (tells x)) old))

  none_matched : (old new : List A) → new ≡ filter (λ x. not (test x)) old → length new ≡ length old → matched pattern (siblings (map seen old)) ≡ []
  none_matched old new is same = ap (filter (selects pattern)) (steps_of old) ∙ empty (filter (selects pattern) (map (λ x. (seen x).0) old)) (rest_none (length (filter (λ x. not (test x)) old)) (length (filter (selects pattern) (map (λ x. (seen x).0) old))) (length old) (counts old) (sym (ap length is) ∙ same))
    where
      rest_none : (a b c : ℕ) → a + b ≡ c → a ≡ c → b ≡ 0
      rest_none a b c e same = omega (arith, e, same)

      empty : (xs : List Step) → length xs ≡ 0 → xs ≡ []
      empty [] e = refl
      empty (x ∷ xs) e = cc

  pub deletes-none : (old new : List A) → new ≡ filter (λ x. not (test x)) old → length new ≡ length old → unless_none line (matched pattern (siblings (map seen old))) (Ok (replaced (selects pattern) (λ step child. leaf) (siblings (map seen old)))) ≡ Err (NoMatch line)
  deletes-none old new is same = ap (λ (xs : List Step). unless_none line xs (given (replaced (selects pattern) (λ step child. leaf) (siblings (map seen old))))) (none_matched old new is same)

  pub deletes-some : (old new : List A) → new ≡ filter (λ x. not (test x)) old → length new ≢ length old → unless_none line (matched pattern (siblings (map seen old))) (Ok (replaced (selects pattern) (λ step child. leaf) (siblings (map seen old)))) ≡ Ok (siblings (map seen new))
  deletes-some old new is differ =
      some (matched pattern (siblings (map seen old))) refl
      ∙ ap Ok (left_of old ∙ ap (λ (left : List A). siblings (map seen left)) (sym is))
    where
      some : (xs : List Step) → matched pattern (siblings (map seen old)) ≡ xs → unless_none line xs (given (replaced (selects pattern) (λ step child. leaf) (siblings (map seen old)))) ≡ Ok (replaced (selects pattern) (λ step child. leaf) (siblings (map seen old)))
      some [] e = absurd (differ (ap length is ∙ all_left (length (filter (λ x. not (test x)) old)) (length (filter (selects pattern) (map (λ x. (seen x).0) old))) (length old) (counts old) (ap length (sym (ap (filter (selects pattern)) (steps_of old)) ∙ e))))
        where
          all_left : (a b c : ℕ) → a + b ≡ c → b ≡ 0 → a ≡ c
          all_left a b c e none = omega (arith, e, none)
      some (x ∷ xs) e = refl

-- ---- the lists of a description's tree

abbrev pub is_matched : {A : Type 0} → PatternItems → (Sibling × A) → Bool
is_matched pattern entry = matches pattern entry.0.name

abbrev pub is_item_matched : PatternItems → Item → Bool
is_item_matched pattern item = matches pattern item.key.name

pub peripheral_tells : (pattern : PatternItems) (entry : Sibling × Peripheral) → selects pattern (peripheral_under entry).0 ≡ is_matched pattern entry
unfolding selects
peripheral_tells pattern entry = refl

pub field_tells : (pattern : PatternItems) (entry : Sibling × Field) → selects pattern (field_under entry).0 ≡ is_matched pattern entry
unfolding selects
field_tells pattern entry = refl

pub item_tells : (pattern : PatternItems) (item : Item) → selects pattern (item_under item).0 ≡ is_item_matched pattern item
item_tells pattern item = item-selected pattern item (is_item_matched pattern item) refl

-- ---- a list of children in which a pattern is opened

pub opening-every : (line : ℕ) (pattern : PatternItems) (P : Step → List Key → Type 0) → Keeps (Every P) (opened_below line pattern)
unfolding opened_below
opening-every line pattern P kind f new e h = subst (Every P) (gave line kind (matched pattern f) f new e) h

pub opening-distinct : (line : ℕ) (pattern : PatternItems) → Keeps (IsDistinct same_key) (opened_below line pattern)
unfolding opened_below
opening-distinct line pattern kind f new e h = subst (IsDistinct same_key) (gave line kind (matched pattern f) f new e) h

module _ {A : Type 0} (line : ℕ) (pattern : PatternItems) (seen : A → Step × Tree Step Key) (test : A → Bool) (tells : (x : A) → selects pattern (seen x).0 ≡ test x) where
  list_unless : (all : List A) (made : Below) → unless_none line (filter (selects pattern) (map (λ x. (seen x).0) all)) (Ok made) ≡ cond (list_any test all) (Ok made) (Err (NoMatch line))
  list_unless [] made = refl
  list_unless (x ∷ all) made =
      ap (λ (b : Bool). unless_none line (cond b ((seen x).0 ∷ filter (selects pattern) (map (λ y. (seen y).0) all)) (filter (selects pattern) (map (λ y. (seen y).0) all))) (given made)) (tells x)
      ∙ cases (test x) (list_unless all made)
    where
      cases : (b : Bool) → unless_none line (filter (selects pattern) (map (λ y. (seen y).0) all)) (given made) ≡ cond (list_any test all) (given made) (Err (NoMatch line))
          → unless_none line (cond b ((seen x).0 ∷ filter (selects pattern) (map (λ y. (seen y).0) all)) (filter (selects pattern) (map (λ y. (seen y).0) all))) (given made) ≡ cond (b || list_any test all) (given made) (Err (NoMatch line))
      cases true more = refl
      cases false more = more

  unless_any : (all : List A) (made : Below) → unless_none line (matched pattern (siblings (map seen all))) (Ok made) ≡ cond (list_any test all) (Ok made) (Err (NoMatch line))
  unless_any all made = ap (λ (steps : List Step). unless_none line (filter (selects pattern) steps) (given made)) (steps-siblings (map seen all) ∙ map-map (λ x. x.0) seen all) ∙ list_unless all made

  pub opens-some : (all : List A) → list_any test all ≡ true → unless_none line (matched pattern (siblings (map seen all))) (Ok (siblings (map seen all))) ≡ Ok (siblings (map seen all))
  opens-some all is = unless_any all (siblings (map seen all)) ∙ ap (λ (b : Bool). cond b (given (siblings (map seen all))) (Err (NoMatch line))) is

  pub opens-none : (all : List A) → list_any test all ≡ false → unless_none line (matched pattern (siblings (map seen all))) (Ok (siblings (map seen all))) ≡ Err (NoMatch line)
  opens-none all is = unless_any all (siblings (map seen all)) ∙ ap (λ (b : Bool). cond b (given (siblings (map seen all))) (Err (NoMatch line))) is
