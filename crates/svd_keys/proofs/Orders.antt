-- The first of two runs of faults is the earlier of the first of each.
use Rattle.std.proofs.Common.{◌≡◌, ℕ, suc, ◌-◌, ◌≤◌, ◌<◌, length, take, drop, get_or, List, [], ◌∷◌, ◌++◌, map, Bool, true, false, nat_le, refl, sym, ap, ◌∙◌, arith, Option, Some, None}
use Rattle.std.proofs.lemmas.Bool.Decides.{nat_tests}
use Rattle.std.proofs.lemmas.List.{take_all}
use Rattle.svd_keys.specs.declared.fault.PlacedFault.{PlacedFault}
use Rattle.svd_keys.specs.Earliest.{earlier, earliest, least}

pub earlier-none : (fault : Option PlacedFault) → earlier fault None ≡ fault
unfolding earlier
earlier-none None = refl
earlier-none (Some fault) = refl

three : (a b c : PlacedFault) (ab bc ac : Bool) → nat_le a.at b.at ≡ ab → nat_le b.at c.at ≡ bc → nat_le a.at c.at ≡ ac
    → earlier (earlier (Some a) (Some b)) (Some c) ≡ earlier (Some a) (earlier (Some b) (Some c))
unfolding earlier
three a b c true true true e f g = rw (e, f, g) (rw e refl)
three a b c true true false e f g = absurd (grind (arith, nat_tests))
three a b c true false ac e f g = rw (e, f) refl
three a b c false true ac e f g = rw (e, f) (rw e refl)
three a b c false false true e f g = absurd (grind (arith, nat_tests))
three a b c false false false e f g = rw (e, f, g) refl

pub earlier-assoc : (a b c : Option PlacedFault) → earlier (earlier a b) c ≡ earlier a (earlier b c)
unfolding earlier
earlier-assoc None b c = refl
earlier-assoc (Some a) None c = refl
earlier-assoc (Some a) (Some b) None = earlier-none (earlier (Some a) (Some b))
earlier-assoc (Some a) (Some b) (Some c) = three a b c (nat_le a.at b.at) (nat_le b.at c.at) (nat_le a.at c.at) refl refl refl

pub least-append : (xs ys : List PlacedFault) → least (xs ++ ys) ≡ earlier (least xs) (least ys)
unfolding least earlier
least-append [] ys = refl
least-append (x ∷ xs) ys = ap (earlier (Some x)) (least-append xs ys) ∙ sym (earlier-assoc (Some x) (least xs) (least ys))

-- the lists one behind another
abbrev pub gather : List (List PlacedFault) → List PlacedFault
gather [] = []
gather (first ∷ []) = first
gather (first ∷ (next ∷ others)) = first ++ gather (next ∷ others)

pub earliest-gather : (lists : List (List PlacedFault)) → earliest (map least lists) ≡ least (gather lists)
unfolding earliest least
earliest-gather [] = refl
earliest-gather (first ∷ []) = earlier-none (least first)
earliest-gather (first ∷ (next ∷ others)) = ap (earlier (least first)) (earliest-gather (next ∷ others)) ∙ sym (least-append first (gather (next ∷ others)))

-- one of the faults is taken, and the others are left
pub earliest-step : (first now whole : Option PlacedFault) (rest : List (Option PlacedFault)) → 1 ≤ length rest → now ≡ earlier first (get_or rest 0 None) → earlier first (earliest rest) ≡ whole
    → earlier now (earliest (take (length rest - 1) (drop 1 rest))) ≡ whole
unfolding earliest
earliest-step first now whole [] some is before = absurd (grind (arith, some))
earliest-step first now whole (fault ∷ rest) some is before =
    let all : take (length (fault ∷ rest) - 1) rest ≡ rest = take_all (length (fault ∷ rest) - 1) rest (omega arith) in
    ap (λ faults. earlier now (earliest faults)) all ∙ ap (λ found. earlier found (earliest rest)) is ∙ earlier-assoc first fault (earliest rest) ∙ before

pub earliest-end : (first whole : Option PlacedFault) (rest : List (Option PlacedFault)) → length rest < 1 → earlier first (earliest rest) ≡ whole → first ≡ whole
unfolding earliest
earliest-end first whole [] none before = sym (earlier-none first) ∙ before
earliest-end first whole (fault ∷ rest) none before = absurd (not_one (length rest) none)
  where
    not_one : (n : ℕ) → suc n < 1 → ⊥
    not_one n h = omega arith
