-- What an addition makes by code is what it adds, where names are their own; and an addition is sound.
use Rattle.std.proofs.Common.{◌≡◌, ℕ, Bool, true, false, cond, ◌&&◌, nat_eq, List, Option, Some, None, Ok, refl, sym, ap, ap₂, ◌∙◌}
use Rattle.std.specs.Prelude.{⊤}
use Rattle.std.specs.Cmp.Lexicographic.{bytes_decides}
use Rattle.std.specs.Option.{option_or}
use Rattle.std.specs.Str.{bytes_eq}
use Rattle.patch_model.specs.Acts.{Added, AddedOne, added, no_more}
use Rattle.patch_sem.specs.Additions.{first_missing, held_by, keys_made, made_in, needed, unless_missing}
use Rattle.patch_edits.proofs.Passed.{join-leaf}
use Rattle.patch_edits.specs.Visits.{Below}
use Rattle.patch_additions.specs.Additions.{built_child, built_tree, field_made, lack_of, put_field, put_fields, put_registers}
use Rattle.patch_ready.specs.Ready.{AreApart, IsNew}
use Rattle.patch_additions.specs.Made.{adds_child, made_forest, made_tree}
use Rattle.svd_model.specs.Keys.{Key}
use Rattle.svd_model.specs.Steps.{Kind, Step, register, field}
use Rattle.svd_rows.specs.Forest.{Tree, join, leaf, node}

-- none of the fields has the name
abbrev IsFree : List ℕ → Below → Type 0
IsFree name leaf = ⊤
IsFree name (node step keys children siblings) = (bytes_eq name step.name ≡ false) × IsFree name siblings

put-new : (name : List ℕ) (tree : Tree Step Key) (done : Below) → IsFree name done → put_field name tree done ≡ join done (node (record { kind = field; name = name; number = 0 }) tree.keys tree.below leaf)
unfolding put_field join
put-new name tree leaf free = refl
put-new name tree (node s ks c n) free =
    ap (λ (b : Bool). cond (b && nat_eq 0 s.number) (node s tree.keys tree.below n) (node s ks c (put_field name tree n))) free.0
    ∙ ap (node s ks c) (put-new name tree n free.1)

-- none of those to come has the name of one that is made
abbrev AllFree : Added → Below → Type 0
AllFree no_more done = ⊤
AllFree (added name keys registers fields others) done = IsFree name done × AllFree others done

turn : (one other : List ℕ) → bytes_eq one other ≡ false → bytes_eq other one ≡ false
turn one other e = cases (bytes_eq other one) refl
  where
    cases : (b : Bool) → bytes_eq other one ≡ b → b ≡ false
    cases true h = sym ((bytes_decides one other).1 (sym ((bytes_decides other one).0 h))) ∙ e
    cases false h = refl

free-behind : (name other : List ℕ) (keys : List Key) (below done : Below) → bytes_eq name other ≡ false → IsFree name done → IsFree name (join done (node (record { kind = field; name = other; number = 0 }) keys below leaf))
unfolding join
free-behind name other keys below leaf apart free = (apart, tt)
free-behind name other keys below (node s ks c n) apart free = (free.0, free-behind name other keys below n apart free.1)

all-free-behind : (other : List ℕ) (keys : List Key) (below : Below) (all : Added) (done : Below) → IsNew other all → AllFree all done → AllFree all (join done (node (record { kind = field; name = other; number = 0 }) keys below leaf))
all-free-behind other keys below no_more done new free = tt
all-free-behind other keys below (added name k registers fields others) done new free =
    (free-behind name other keys below done (turn other name new.0) free.0, all-free-behind other keys below others done new.1 free.1)

join-assoc : (f g h : Below) → join (join f g) h ≡ join f (join g h)
unfolding join
join-assoc leaf g h = refl
join-assoc (node s ks c n) g h = ap (node s ks c) (join-assoc n g h)

fields-put : (all : Added) (done : Below) → AreApart all → AllFree all done → put_fields all done ≡ join done (made_forest field all)
unfolding put_fields made_forest AreApart join
fields-put no_more done apart free = sym (join-leaf done)
fields-put (added name keys registers fields others) done apart free =
    ap (put_fields others) (put-new name (field_made keys) done free.0)
    ∙ fields-put others (join done (node (record { kind = field; name = name; number = 0 }) (keys_made field keys) leaf leaf)) apart.3 (all-free-behind name (keys_made field keys) leaf others done apart.0 free.1)
    ∙ join-assoc done (node (record { kind = field; name = name; number = 0 }) (keys_made field keys) leaf leaf) (made_forest field others)

none-made : (all : Added) → AllFree all leaf
none-made no_more = tt
none-made (added name keys registers fields others) = (tt, none-made others)

registers-put : (all : Added) → AreApart all → put_registers all ≡ made_forest register all
unfolding put_registers made_forest AreApart join
registers-put no_more apart = refl
registers-put (added name keys registers fields others) apart =
    ap₂ (λ (f n : Below). node (record { kind = register; name = name; number = 0 }) (keys_made register keys) f n) (fields-put fields leaf apart.2 (none-made fields)) (registers-put others apart.3)

pub built-is : (kind : Kind) (one : AddedOne) → AreApart one.registers → AreApart one.fields → built_tree kind one ≡ made_tree kind one
unfolding join
built-is kind one registers fields =
    ap₂ (λ (r f : Below). record { keys = keys_made kind one.keys; below = held_by kind leaf r f }) (registers-put one.registers registers) (fields-put one.fields leaf fields (none-made one.fields))

or-none : {A : Type 0} (a b : Option A) → option_or a (option_or b None) ≡ option_or a b
or-none None None = refl
or-none None (Some y) = refl
or-none (Some x) b = refl

pub lack-is : (kind : Kind) (one : AddedOne) → first_missing kind (added one.name one.keys one.registers one.fields no_more) ≡ lack_of kind one
unfolding first_missing
lack-is kind one = or-none (needed kind (keys_made kind one.keys)) (held_by kind None (first_missing register one.registers) (first_missing field one.fields))

-- the code's command is the definition's
pub built-adds : (line : ℕ) (one : AddedOne) → AreApart one.registers → AreApart one.fields → (kind : Option Kind) (below : Below) → (built_child line one).made kind below ≡ (adds_child line one).made kind below
built-adds line one registers fields kind below =
    ap₂ (λ (lack : Option (List ℕ)) (tree : Tree Step Key). unless_missing line lack (Ok (made_in kind, tree))) (sym (lack-is (made_in kind) one)) (built-is (made_in kind) one registers fields)
