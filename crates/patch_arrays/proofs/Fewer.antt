-- An array leaves no more elements than there were.
use Rattle.std.proofs.Common.{◌≡◌, ◌≤◌, ℕ, ◌+◌, Bool, true, false, cond, not, nat_le, List, [], ◌∷◌, ◌++◌, map, filter, Option, None, Some, refl, sym, ap, ◌∙◌, subst, arith}
use Rattle.patch_edits.proofs.Binds.{given, given_is}
use Rattle.patch_edits.proofs.Walks.{Shrinks}
use Rattle.patch_edits.specs.Visits.{Below}
use Rattle.patch_model.specs.Acts.{PatternItems}
use Rattle.patch_sem.specs.declared.fault.PatchFault.TheVariants.{AddExists}
use Rattle.patch_sem.specs.Arrays.{first_uneven, ordered_by, put_in, unless_uneven, unless_unlike}
use Rattle.patch_sem.specs.Steps.{refused_if, unless_none}
use Rattle.patch_arrays.proofs.Elements.{siblings-elements}
use Rattle.patch_arrays.specs.Arranging.{Element, arranged, array_of, arrayed_below, arraying_in, elements, exact, first_differing, is_member, is_taken, offset_of, placed_step, with_array}
use Rattle.svd_model.specs.Counting.{elements_in}
use Rattle.svd_model.specs.Facts.{is_counted}
use Rattle.svd_model.specs.Steps.{Kind, Step, peripheral, cluster, register, field, set, value}
use Rattle.svd_rows.specs.Elements.{count}
use Rattle.svd_rows.specs.Forest.{siblings}
use Rattle.svd_rows.specs.RowEdits.{exchanged}

-- ---- where it went through

gave-here : (line : ℕ) (name : List ℕ) (some : List Element) (taken : Bool) (uneven : Option ((Step × ℕ) × (Step × ℕ))) (unlike : Option (Step × Step)) (made new : Below)
    → unless_none line some (refused_if taken (AddExists line name) (unless_uneven line uneven (unless_unlike line unlike (given made)))) ≡ given new → (taken ≡ false) × (made ≡ new)
gave-here line name [] taken uneven unlike made new e = cc
gave-here line name (one ∷ some) true uneven unlike made new e = cc
gave-here line name (one ∷ some) false (Some pair) unlike made new e = cc
gave-here line name (one ∷ some) false None (Some pair) made new e = cc
gave-here line name (one ∷ some) false None None made new e = (refl, given_is made new e)

abbrev Gave : PatternItems → List ℕ → List Element → Below → Type 0
Gave pattern name all new = (is_taken pattern name all ≡ false) × (siblings (with_array exact pattern name all) ≡ new)

gave-in : (line : ℕ) (pattern : PatternItems) (name : List ℕ) (all : List Element) (new : Below) → arraying_in exact line pattern name all ≡ given new → Gave pattern name all new
gave-in line pattern name all new e =
    gave-here line name (filter (is_member pattern) all) (is_taken pattern name all) (first_uneven (map placed_step (arranged pattern all))) (first_differing (arranged pattern all)) (siblings (with_array exact pattern name all)) new e

pub gave : (line : ℕ) (pattern : PatternItems) (name : List ℕ) (kind : Option Kind) (f new : Below) → arrayed_below exact line pattern name kind f ≡ given new → Gave pattern name (elements f) new
unfolding arrayed_below
gave line pattern name None f new e = gave-in line pattern name (elements f) new e
gave line pattern name (Some peripheral) f new e = gave-in line pattern name (elements f) new e
gave line pattern name (Some cluster) f new e = gave-in line pattern name (elements f) new e
gave line pattern name (Some register) f new e = gave-in line pattern name (elements f) new e
gave line pattern name (Some field) f new e = cc
gave line pattern name (Some set) f new e = gave-in line pattern name (elements f) new e
gave line pattern name (Some value) f new e = gave-in line pattern name (elements f) new e

-- ---- counts

abbrev pub weight : Element → ℕ
weight e = cond (is_counted e.0) 1 0 + elements_in e.1.below

abbrev pub total : List Element → ℕ
total [] = 0
total (e ∷ all) = weight e + total all

pub counted : (all : List Element) → elements_in (siblings all) ≡ total all
unfolding count siblings
counted [] = refl
counted (e ∷ all) = ap (λ (n : ℕ). cond (is_counted e.0) 1 0 + (elements_in e.1.below + n)) (counted all) ∙ sums (cond (is_counted e.0) 1 0) (elements_in e.1.below) (total all)
  where
    sums : (a b c : ℕ) → a + (b + c) ≡ (a + b) + c
    sums a b c = omega arith

pub total-append : (xs ys : List Element) → total (xs ++ ys) ≡ total xs + total ys
total-append [] ys = omega arith
total-append (x ∷ xs) ys = ap (λ (n : ℕ). weight x + n) (total-append xs ys) ∙ sums (weight x) (total xs) (total ys)
  where
    sums : (a b c : ℕ) → a + (b + c) ≡ (a + b) + c
    sums a b c = omega arith

-- those that pass, and those that don't
pub total-parts : (test : Element → Bool) (all : List Element) → total (filter test all) + total (filter (λ e. not (test e)) all) ≡ total all
total-parts test [] = refl
total-parts test (e ∷ all) = cases (test e) (total-parts test all)
  where
    cases : (b : Bool) → total (filter test all) + total (filter (λ x. not (test x)) all) ≡ total all
        → total (cond b (e ∷ filter test all) (filter test all)) + total (cond (not b) (e ∷ filter (λ x. not (test x)) all) (filter (λ x. not (test x)) all)) ≡ weight e + total all
    cases true more = omega (arith, more)
    cases false more = omega (arith, more)

total-exchanged : (test : Element → Bool) (new all : List Element) → total (exchanged test new all) ≤ total new + total (filter (λ e. not (test e)) all)
unfolding exchanged
total-exchanged test new [] = omega arith
total-exchanged test new (e ∷ all) = cases (test e) (total-exchanged test new all)
  where
    cases : (b : Bool) → total (exchanged test new all) ≤ total new + total (filter (λ x. not (test x)) all)
        → total (cond b (new ++ filter (λ x. not (test x)) all) (e ∷ exchanged test new all)) ≤ total new + total (cond (not b) (e ∷ filter (λ x. not (test x)) all) (filter (λ x. not (test x)) all))
    cases true more = let same = total-append new (filter (λ x. not (test x)) all) in omega (arith, same)
    cases false more = omega (arith, more)

total-put : (key : Element → ℕ) (e : Element) (all : List Element) → total (put_in key e all) ≡ weight e + total all
unfolding put_in
total-put key e [] = refl
total-put key e (x ∷ all) = cases (nat_le (key e) (key x)) (total-put key e all)
  where
    cases : (b : Bool) → total (put_in key e all) ≡ weight e + total all → total (cond b (e ∷ (x ∷ all)) (x ∷ put_in key e all)) ≡ weight e + (weight x + total all)
    cases true more = refl
    cases false more = omega (arith, more)

pub total-ordered : (key : Element → ℕ) (all : List Element) → total (ordered_by key all) ≡ total all
unfolding ordered_by
total-ordered key [] = refl
total-ordered key (e ∷ all) = total-put key e (ordered_by key all) ∙ ap (λ (n : ℕ). weight e + n) (total-ordered key all)

-- the array counts as its first member
total-array : (name : List ℕ) (some : List Element) → total (array_of exact name some) ≤ total some
total-array name [] = omega arith
total-array name (first ∷ others) = omega arith

fewer : (pattern : PatternItems) (name : List ℕ) (all : List Element) → total (with_array exact pattern name all) ≤ total all
fewer pattern name all =
    let left = total-exchanged (is_member pattern) (array_of exact name (arranged pattern all)) all in
    let one = total-array name (arranged pattern all) in
    let same = total-ordered offset_of (filter (is_member pattern) all) in
    let parts = total-parts (is_member pattern) all in
    chain (total (with_array exact pattern name all)) (total (array_of exact name (arranged pattern all))) (total (filter (λ e. not (is_member pattern e)) all)) (total (arranged pattern all)) (total (filter (is_member pattern) all)) (total all) left one same parts
  where
    chain : (n a b c d e : ℕ) → n ≤ a + b → a ≤ c → c ≡ d → d + b ≡ e → n ≤ e
    chain n a b c d e left one same parts = omega (arith, left, one, same, parts)

pub array-shrinks : (line : ℕ) (pattern : PatternItems) (name : List ℕ) → Shrinks (arrayed_below exact line pattern name)
array-shrinks line pattern name kind f new e =
    subst (λ (g : Below). elements_in g ≤ elements_in f) (gave line pattern name kind f new e).1
    (subst (λ (n : ℕ). elements_in (siblings (with_array exact pattern name (elements f))) ≤ n) (sym (counted (elements f)) ∙ ap elements_in (siblings-elements f))
    (subst (λ (n : ℕ). n ≤ total (elements f)) (sym (counted (with_array exact pattern name (elements f)))) (fewer pattern name (elements f))))
