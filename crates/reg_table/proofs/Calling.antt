-- The calls of values one after the other: of the calls of one name the first.
use Rattle.std.proofs.Common.{◌≡◌, ℕ, ◌^◌, Bool, true, false, not, ◌||◌, nat_lt, cond, List, [], ◌∷◌, ◌++◌, map, filter, Option, Some, None, refl, sym, ap, ap₂, ◌∙◌, append_assoc, append-nil}
use Rattle.std.specs.List.{list_any}
use Rattle.std.specs.Str.{bytes_eq}
use Rattle.std.specs.Cmp.Lexicographic.{bytes_decides}
use Rattle.std.proofs.lemmas.Bool.Decides.{same_from_decides}
use Rattle.reg_table.specs.Calls.{call_name, call_of, is_taken, with_call, first_of_each}
use Rattle.reg_table.specs.declared.row.Call.{Call}

turned : (a b : List ℕ) → bytes_eq a b ≡ bytes_eq b a
turned a b = same_from_decides (bytes_eq a b) (bytes_eq b a) (bytes_decides a b) ((λ e. sym ((bytes_decides b a).0 e)), (λ p. (bytes_decides b a).1 (sym p)))

-- a name is one of those of the calls where one of them has it
pub taken-names : (calls : List Call) (name : List ℕ) → list_any (bytes_eq name) (map call_name calls) ≡ is_taken calls name
taken-names [] name = refl
taken-names (call ∷ calls) name = ap₂ (λ a b. a || b) (turned name call.name) (taken-names calls name)

-- a name is free where none of the calls has it
pub taken-free : (names : List (List ℕ)) (calls : List Call) (name : List ℕ) (free : Bool) → names ≡ map call_name calls → free ≡ not (list_any (bytes_eq name) names) → is_taken calls name ≡ not free
taken-free names calls name free same is =
    sym (taken-names calls name) ∙ ap (list_any (bytes_eq name)) (sym same) ∙ twice (list_any (bytes_eq name) names) ∙ ap not (sym is)
  where
    twice : (b : Bool) → b ≡ not (not b)
    twice true = refl
    twice false = refl

pub with_taken : (calls : List Call) (call : Call) → is_taken calls call.name ≡ true → with_call calls (Some call) ≡ calls
with_taken calls call taken = ap (λ b. cond b calls (calls ++ call ∷ [])) taken

pub with_free : (calls : List Call) (call : Call) → is_taken calls call.name ≡ false → with_call calls (Some call) ≡ calls ++ call ∷ []
with_free calls call free = ap (λ b. cond b calls (calls ++ call ∷ [])) free

-- a value whose number has few enough bits has a call
pub call-here : (name_of : List ℕ → List ℕ) (width : ℕ) (name : List ℕ) (stated : Option ℕ) (number : ℕ) → stated ≡ Some number → nat_lt number (2 ^ width) ≡ true → call_of name_of width (name, stated) ≡ Some (record { name = name_of name; value = number })
call-here name_of width name stated number is few =
    ap (λ o. call_of name_of width (name, o)) is ∙ ap (λ b. cond b (Some (record { name = name_of name; value = number })) None) few

-- no call that is made has its name
abbrev pub is_new : List Call → Call → Bool
is_new made call = not (is_taken made call.name)

taken-append : (made : List Call) (call : Call) (name : List ℕ) → is_taken (made ++ call ∷ []) name ≡ (is_taken made name || bytes_eq call.name name)
taken-append [] call name = or_false (bytes_eq call.name name)
  where
    or_false : (b : Bool) → (b || false) ≡ b
    or_false true = refl
    or_false false = refl
taken-append (first ∷ made) call name = cases (bytes_eq first.name name) (taken-append made call name)
  where
    cases : (b : Bool) → is_taken (made ++ call ∷ []) name ≡ (is_taken made name || bytes_eq call.name name) → (b || is_taken (made ++ call ∷ []) name) ≡ ((b || is_taken made name) || bytes_eq call.name name)
    cases true e = refl
    cases false e = e

module _ (made : List Call) (call : Call) where
  -- where its name is taken, the others of that name are no new ones
  skipped : is_taken made call.name ≡ true → (rest : List Call) → filter (is_new made) (filter (λ other. not (bytes_eq call.name other.name)) rest) ≡ filter (is_new made) rest
  skipped taken [] = refl
  skipped taken (other ∷ rest) = cases (bytes_eq call.name other.name) refl (skipped taken rest)
    where
      cases : (b : Bool) → bytes_eq call.name other.name ≡ b → filter (is_new made) (filter (λ other. not (bytes_eq call.name other.name)) rest) ≡ filter (is_new made) rest → filter (is_new made) (cond (not b) (other ∷ filter (λ other. not (bytes_eq call.name other.name)) rest) (filter (λ other. not (bytes_eq call.name other.name)) rest)) ≡ filter (is_new made) (other ∷ rest)
      cases true is e = e ∙ sym (ap (λ b. cond (not b) (other ∷ filter (is_new made) rest) (filter (is_new made) rest)) (ap (is_taken made) (sym ((bytes_decides call.name other.name).0 is)) ∙ taken))
      cases false is e = ap (λ r. cond (is_new made other) (other ∷ r) r) e

  -- where it is new, the others of that name are no new ones from then on
  added : (rest : List Call) → filter (is_new made) (filter (λ other. not (bytes_eq call.name other.name)) rest) ≡ filter (is_new (made ++ call ∷ [])) rest
  added [] = refl
  added (other ∷ rest) =
      cases (bytes_eq call.name other.name) (is_taken made other.name) refl (added rest)
      ∙ sym (ap (λ b. cond (not b) (other ∷ filter (is_new (made ++ call ∷ [])) rest) (filter (is_new (made ++ call ∷ [])) rest)) (taken-append made call other.name))
    where
      more : List Call
      more = filter (is_new (made ++ call ∷ [])) rest

      cases : (b t : Bool) → is_taken made other.name ≡ t → filter (is_new made) (filter (λ other. not (bytes_eq call.name other.name)) rest) ≡ more → filter (is_new made) (cond (not b) (other ∷ filter (λ other. not (bytes_eq call.name other.name)) rest) (filter (λ other. not (bytes_eq call.name other.name)) rest)) ≡ cond (not (t || b)) (other ∷ more) more
      cases true true is e = e
      cases true false is e = e
      cases false true is e = ap (λ r. cond (is_new made other) (other ∷ r) r) e ∙ ap (λ b. cond (not b) (other ∷ more) more) is
      cases false false is e = ap (λ r. cond (is_new made other) (other ∷ r) r) e ∙ ap (λ b. cond (not b) (other ∷ more) more) is

-- what is made and what is left are the calls of all
pub calls_left : List Call → List Call → List Call
calls_left made rest = made ++ filter (is_new made) (first_of_each rest)

pub one_more : (made : List Call) (call : Call) (rest : List Call) → calls_left (with_call made (Some call)) rest ≡ calls_left made (call ∷ rest)
unfolding calls_left first_of_each
one_more made call rest = cases (is_taken made call.name) refl
  where
    cases : (b : Bool) → is_taken made call.name ≡ b → calls_left (cond b made (made ++ call ∷ [])) rest ≡ made ++ cond (not b) (call ∷ filter (is_new made) (filter (λ other. not (bytes_eq call.name other.name)) (first_of_each rest))) (filter (is_new made) (filter (λ other. not (bytes_eq call.name other.name)) (first_of_each rest)))
    cases true is = ap (λ r. made ++ r) (sym (skipped made call is (first_of_each rest)))
    cases false is = append_assoc made (call ∷ []) (filter (is_new (made ++ call ∷ [])) (first_of_each rest)) ∙ ap (λ r. made ++ (call ∷ r)) (sym (added made call (first_of_each rest)))

pub all_left : (rest : List Call) → calls_left [] rest ≡ first_of_each rest
unfolding calls_left
all_left rest = every (first_of_each rest)
  where
    every : (xs : List Call) → filter (is_new []) xs ≡ xs
    every [] = refl
    every (x ∷ xs) = ap (λ r. x ∷ r) (every xs)

pub none_left : (made : List Call) → calls_left made [] ≡ made
unfolding calls_left first_of_each
none_left made = append-nil made
