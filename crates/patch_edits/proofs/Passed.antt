-- Siblings in a list that is edited from the front: what is passed, and what is still to come.
use Rattle.std.proofs.Common.{◌≡◌, ◌⊎◌, ◌≤◌, ℕ, ◌+◌, Bool, List, [], ◌∷◌, ◌++◌, map, take, drop, set, length, slice_get, Some, Ok, Err, refl, sym, ap, ap₂, ◌∙◌, inl, inr, arith, Result, IsErrAnd}
use Rattle.std.proofs.lemmas.List.{drop_all, drop_more, drop-set-lt, map-append, take_all, take_more_set}
use Rattle.std.proofs.lemmas.Option.{get_or_from_slice_get, slice_get_within}
use Rattle.patch_sem.specs.declared.fault.PatchFault.{PatchFault}
use Rattle.patch_sem.specs.declared.fault.PatchFault.TheVariants.{Memory}
use Rattle.patch_sem.specs.Steps.{Outcome, ◌>>=◌}
use Rattle.patch_edits.proofs.Binds.{bind-assoc, bind-ok, bind-same}
use Rattle.patch_edits.specs.Edits.{Edited}
use Rattle.patch_edits.specs.Visits.{Below, each, only_if}
use Rattle.svd_model.specs.Keys.{Key}
use Rattle.svd_model.specs.Steps.{Kind, Step}
use Rattle.svd_rows.proofs.Siblings.{siblings-append}
use Rattle.svd_rows.specs.Edits.{planted}
use Rattle.svd_rows.specs.Forest.{Tree, leaf, node, join, siblings}

-- the front is edited, and the rest decides
abbrev pub Passed : {A : Type 0} → (Step → Bool) → (Kind → Below → Outcome Below) → (A → Step × Tree Step Key) → List A → List A → ℕ → Type 0
Passed test edit seen old now i =
    each test edit (siblings (map seen old)) ≡ (each test edit (siblings (map seen (drop i now))) >>= (λ others. Ok (join (siblings (map seen (take i now))) others)))

pub join-leaf : (f : Below) → join f leaf ≡ f
unfolding join
join-leaf leaf = refl
join-leaf (node s ks c n) = ap (node s ks c) (join-leaf n)

join-assoc : (f g h : Below) → join (join f g) h ≡ join f (join g h)
unfolding join
join-assoc leaf g h = refl
join-assoc (node s ks c n) g h = ap (node s ks c) (join-assoc n g h)

single : (x : Step × Tree Step Key) (others : Below) → join (siblings (x ∷ [])) others ≡ planted x.0 x.1 others
unfolding join siblings
single x others = refl

-- one more sibling
pub join-one : (front : List (Step × Tree Step Key)) (x : Step × Tree Step Key) (others : Below) → join (siblings (front ++ x ∷ [])) others ≡ join (siblings front) (planted x.0 x.1 others)
join-one front x others = ap (λ (f : Below). join f others) (siblings-append front (x ∷ [])) ∙ join-assoc (siblings front) (siblings (x ∷ [])) others ∙ ap (join (siblings front)) (single x others)

module _ {A : Type 0} (test : Step → Bool) (edit : Kind → Below → Outcome Below) (seen : A → Step × Tree Step Key) where
  pub passed-start : (xs : List A) → Passed test edit seen xs xs 0
  unfolding join siblings
  passed-start xs = sym (bind-ok (each test edit (siblings (map seen xs))))

  pub passed-end : (old now : List A) (i : ℕ) → length now ≤ i → Passed test edit seen old now i → each test edit (siblings (map seen old)) ≡ Ok (siblings (map seen now))
  unfolding each siblings
  passed-end old now i done passed =
      passed
      ∙ ap₂ (λ (left front : List A). each test edit (siblings (map seen left)) >>= (λ others. Ok (join (siblings (map seen front)) others))) (drop_all i now done) (take_all i now done)
      ∙ ap Ok (join-leaf (siblings (map seen now)))

  -- what stands at the place, and what it comes to
  abbrev pub one : A → Outcome Below
  one x = only_if (test (seen x).0) (edit (seen x).0.kind (seen x).1.below) (seen x).1.below

  next-of : (now : List A) (i : ℕ) (x : A) → slice_get now i ≡ Some x → drop i now ≡ x ∷ drop (i + 1) now
  next-of now i x here = drop_more now i x (slice_get_within now i x here) ∙ ap (λ y. y ∷ drop (i + 1) now) (get_or_from_slice_get now i x x here)

  each-next : (x : A) (rest : List A) → each test edit (siblings (map seen (x ∷ rest))) ≡ (one x >>= (λ below. each test edit (siblings (map seen rest)) >>= (λ others. Ok (node (seen x).0 (seen x).1.keys below others))))
  unfolding each siblings
  each-next x rest = refl

  pub passed-fault : (old now : List A) (i : ℕ) (x : A) (fault : PatchFault) → slice_get now i ≡ Some x → one x ≡ Err fault → Passed test edit seen old now i → each test edit (siblings (map seen old)) ≡ Err fault
  passed-fault old now i x fault here is passed =
      passed
      ∙ ap (λ (left : List A). each test edit (siblings (map seen left)) >>= (λ others. Ok (join (siblings (map seen (take i now))) others))) (next-of now i x here)
      ∙ ap (λ (made : Outcome Below). made >>= (λ others. Ok (join (siblings (map seen (take i now))) others))) (each-next x (drop (i + 1) now))
      ∙ ap (λ (made : Outcome Below). (made >>= (λ below. each test edit (siblings (map seen (drop (i + 1) now))) >>= (λ others. Ok (node (seen x).0 (seen x).1.keys below others)))) >>= (λ others. Ok (join (siblings (map seen (take i now))) others))) is

  pub passed-step : (old now : List A) (i : ℕ) (x y : A) → slice_get now i ≡ Some x → (one x ≡ Ok (seen y).1.below) × ((seen y).0 ≡ (seen x).0) × ((seen y).1.keys ≡ (seen x).1.keys) → Passed test edit seen old now i → Passed test edit seen old (set now i y) (i + 1)
  passed-step old now i x y here is passed =
      passed
      ∙ ap (λ (left : List A). each test edit (siblings (map seen left)) >>= put) (next-of now i x here)
      ∙ ap (λ (made : Outcome Below). made >>= put) (each-next x (drop (i + 1) now))
      ∙ ap (λ (made : Outcome Below). (made >>= (λ below. rest >>= (λ others. Ok (node (seen x).0 (seen x).1.keys below others)))) >>= put) is.0
      ∙ bind-assoc rest (λ others. Ok (node (seen x).0 (seen x).1.keys (seen y).1.below others)) put
      ∙ bind-same rest (λ others. put (node (seen x).0 (seen x).1.keys (seen y).1.below others)) (λ others. Ok (join (siblings (map seen (take (i + 1) (set now i y)))) others))
      (λ others is_given. ap Ok (ap₂ (λ (s : Step) (ks : List Key). join (siblings (map seen (take i now))) (node s ks (seen y).1.below others)) (sym is.1) (sym is.2)
      ∙ sym (join-one (map seen (take i now)) (seen y) others)
      ∙ ap (λ (front : List (Step × Tree Step Key)). join (siblings front) others) (sym (ap (map seen) (take_more_set now i y (slice_get_within now i x here)) ∙ map-append seen (take i now) (y ∷ [])))))
      ∙ ap (λ (left : List A). each test edit (siblings (map seen left)) >>= (λ others. Ok (join (siblings (map seen (take (i + 1) (set now i y)))) others))) (sym (drop-set-lt (i + 1) now i y (omega arith)))
    where
      put : Below → Outcome Below
      put others = Ok (join (siblings (map seen (take i now))) others)

      rest : Outcome Below
      rest = each test edit (siblings (map seen (drop (i + 1) now)))

-- at the exit of a `?`, the fault that was handed on is what the whole comes to
pub broke_off : (outcome whole : Outcome Below) (new : Below) (fault : PatchFault) (result : Result (Unit {0}) PatchFault) → IsErrAnd result (λ f. f ≡ fault) → ((outcome ≡ Err fault) → (whole ≡ Err fault)) → (fault ≡ Memory) ⊎ (outcome ≡ Err fault) → Edited whole new result
broke_off outcome whole new fault (Ok done) is more e = absurd is
broke_off outcome whole new fault (Err found) is more (inl memory) = inl (is ∙ memory)
broke_off outcome whole new fault (Err found) is more (inr e) = inr (more e ∙ ap Err (sym is))
