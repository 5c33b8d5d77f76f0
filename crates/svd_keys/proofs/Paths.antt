-- The parts of a path one by one: each that is a name is a step more.
use Rattle.std.proofs.Common.{◌≡◌, ℕ, ◌-◌, ◌<◌, length, length-drop, List, [], ◌∷◌, ◌++◌, take, drop, map, Bool, true, false, ◌==◌, not, refl, sym, ap, ◌∙◌, append_assoc, append-nil, arith, Option, Some, None}
use Rattle.std.specs.List.{list_all, prefix_len}
use Rattle.std.proofs.lemmas.Bool.Decides.{nat_tests}
use Rattle.pac_base.specs.declared.path.Step.{Step}
use Rattle.svd_values.proofs.Fronts.{front_of, Stops}
use Rattle.svd_keys.specs.Forms.{parts_of, is_name, name_of, path_of, step_to}
use Rattle.svd_keys.specs.Runs.{is_part_byte, behind_mark, steps_with}
use Rattle.svd_keys.proofs.IndexLists.{parts-behind, parts-free}

-- the parts of what stands behind a mark
abbrev pub parts_after : Option (List ℕ) → List (List ℕ)
parts_after None = []
parts_after (Some rest) = parts_of 46 rest

cut-at : (front back : List ℕ) → list_all is_part_byte front ≡ true → Stops is_part_byte back → parts_of 46 (front ++ back) ≡ front ∷ parts_after (behind_mark back)
unfolding behind_mark
cut-at front [] free stops = ap (parts_of 46) (append-nil front) ∙ parts-free 46 front free
cut-at front (byte ∷ back) free stops = ap (λ mark. parts_of 46 (front ++ mark ∷ back)) (is_dot byte stops) ∙ parts-behind 46 front back free
  where
    is_dot : (b : ℕ) → not (b == 46) ≡ false → b ≡ 46
    is_dot b e = grind (arith, nat_tests)

-- the first part of a text, and those behind it
pub parts-cut : (text front back : List ℕ) (count : ℕ) → count ≡ prefix_len is_part_byte text → front ≡ take count text → back ≡ drop count text → parts_of 46 text ≡ front ∷ parts_after (behind_mark back)
parts-cut text front back count is first last =
    let split = front_of is_part_byte text in
    ap (parts_of 46) split.whole
    ∙ cut-at (take (prefix_len is_part_byte text) text) (drop (prefix_len is_part_byte text) text) split.begins split.stops
    ∙ (λ i. (ap (λ n. take n text) (sym is) ∙ sym first) i ∷ parts_after (behind_mark ((ap (λ n. drop n text) (sym is) ∙ sym last) i)))

pub path-begun : (text : List ℕ) → steps_with [] (parts_of 46 text) ≡ path_of text
unfolding steps_with path_of
path-begun text = refl

no_step : (steps : List Step) (part : List ℕ) (parts : List (List ℕ)) (is : Bool) → is_name part ≡ is → None ≡ name_of part → None ≡ steps_with steps (part ∷ parts)
unfolding steps_with name_of
no_step steps part parts true is none = let has : None ≡ Some part = rw is at none in cc
no_step steps part parts false is none = rw is refl

pub path-stopped : (steps : List Step) (part : List ℕ) (parts : List (List ℕ)) → None ≡ name_of part → None ≡ steps_with steps (part ∷ parts)
path-stopped steps part parts none = no_step steps part parts (is_name part) refl none

all_names : (steps : List Step) (part : List ℕ) (parts : List (List ℕ)) (is : Bool) → list_all is_name parts ≡ is → is_name part ≡ true
    → steps_with (steps ++ step_to part ∷ []) parts ≡ steps_with steps (part ∷ parts)
unfolding steps_with
all_names steps part parts true is here = rw (is, here) (ap Some (append_assoc steps (step_to part ∷ []) (map step_to parts)))
all_names steps part parts false is here = rw (is, here) refl

a_step : (steps : List Step) (part name : List ℕ) (parts : List (List ℕ)) (is : Bool) → is_name part ≡ is → Some name ≡ name_of part
    → steps_with (steps ++ step_to name ∷ []) parts ≡ steps_with steps (part ∷ parts)
unfolding name_of
a_step steps part name parts true is some =
    let same : name ≡ part = some_is (rw is at some) in ap (λ one. steps_with (steps ++ step_to one ∷ []) parts) same ∙ all_names steps part parts (list_all is_name parts) refl is
  where
    some_is : Some name ≡ Some part → name ≡ part
    some_is e = cc
a_step steps part name parts false is some = let no : Some name ≡ None = rw is at some in cc

pub path-goes_on : (steps : List Step) (part name : List ℕ) (parts : List (List ℕ)) → Some name ≡ name_of part → steps_with (steps ++ step_to name ∷ []) parts ≡ steps_with steps (part ∷ parts)
path-goes_on steps part name parts some = a_step steps part name parts (is_name part) refl some

pub path-ended : (steps : List Step) → steps_with steps [] ≡ Some steps
unfolding steps_with
path-ended steps = ap Some (append-nil steps)

-- one part was a name: its step is taken, and what stands behind it is still to come
pub path-taken : (steps now : List Step) (text part back name : List ℕ) (count : ℕ) (whole : Option (List Step)) → count ≡ prefix_len is_part_byte text → part ≡ take count text → back ≡ drop count text
    → Some name ≡ name_of part → now ≡ steps ++ step_to name ∷ [] → steps_with steps (parts_of 46 text) ≡ whole → steps_with now (parts_after (behind_mark back)) ≡ whole
path-taken steps now text part back name count whole is first last named grew before =
    ap (λ s. steps_with s (parts_after (behind_mark back))) grew
    ∙ path-goes_on steps part name (parts_after (behind_mark back)) named
    ∙ sym (ap (steps_with steps) (parts-cut text part back count is first last))
    ∙ before

pub path-refused : (steps : List Step) (text part back : List ℕ) (count : ℕ) (whole : Option (List Step)) → count ≡ prefix_len is_part_byte text → part ≡ take count text → back ≡ drop count text
    → None ≡ name_of part → steps_with steps (parts_of 46 text) ≡ whole → None ≡ whole
path-refused steps text part back count whole is first last none before =
    path-stopped steps part (parts_after (behind_mark back)) none ∙ sym (ap (steps_with steps) (parts-cut text part back count is first last)) ∙ before

pub path-done : (now : List Step) (back : List ℕ) (whole : Option (List Step)) → None ≡ behind_mark back → steps_with now (parts_after (behind_mark back)) ≡ whole → Some now ≡ whole
path-done now back whole none before = sym (path-ended now) ∙ ap (λ rest. steps_with now (parts_after rest)) none ∙ before

pub path-left : (now : List Step) (back next : List ℕ) (whole : Option (List Step)) → Some next ≡ behind_mark back → steps_with now (parts_after (behind_mark back)) ≡ whole → steps_with now (parts_of 46 next) ≡ whole
path-left now back next whole some before = ap (λ rest. steps_with now (parts_after rest)) some ∙ before

shorter : (back next : List ℕ) → Some next ≡ behind_mark back → length next < length back
unfolding behind_mark
shorter [] next some = cc
shorter (byte ∷ back) next some = let same : next ≡ back = some_is some in rw same (omega arith)
  where
    some_is : Some next ≡ Some back → next ≡ back
    some_is e = cc

pub path-smaller : (text back next : List ℕ) (count : ℕ) → back ≡ drop count text → Some next ≡ behind_mark back → length next < length text
path-smaller text back next count last some =
    let less : length next < length back = shorter back next some in
    let long : length back ≡ length text - count = ap length last ∙ length-drop count text in
    omega arith
