-- A walk stands where it did, one element further down or up.
use Rattle.std.proofs.Common.{◌≡◌, inl, inr, ℕ, ◌<◌, true, false, cond, List, [], ◌++◌, filter, length, set, get_or, None, Some, slice_get, refl, sym, ap, ◌∙◌, subst, arith, Vec}
use Rattle.std.specs.List.Sorted.{IsPermutation}
use Rattle.std.proofs.lemmas.List.Sorted.{IsPermutation-refl}
use Rattle.std.proofs.lemmas.Bool.{cases_eq, cases_lt, eq-eqb, ne_eqb, true≢false}
use Rattle.std.proofs.lemmas.List.{get_or-set_same, get_or-set_other, length-set}
use Rattle.std.proofs.lemmas.Option.{slice_get-get_or, slice_get_past}
use Rattle.derive_order.specs.declared.gone.Walk.{Walk}
use Rattle.derive_order.specs.Gone.{has_key, is_key_of, is_gone, gone_at, base_at, base_in, taken_from, AreBelow, IsTold, IsWith, IsWithout, Replaces, Stands}
use Rattle.derive_order.proofs.Moving.{at_set}
use Rattle.derive_order.proofs.Replaced.{entered, left, taken_shuffled}
use Rattle.derive_sources.specs.Graphs.{parts_at}
use Rattle.need_order.specs.declared.element.Element.{Element}
use Rattle.need_order.specs.Children.{items_in, items_at, of_base}

module _ (elements : List Element) (keys : List ℕ) (children : ℕ → List ℕ) (law : Replaces elements keys children) (below : AreBelow keys (length elements)) where
  module _ (old new : Walk) (number : ℕ) (stands : Stands elements keys children old) where
    -- down from the base of an element
    pub enters : (middle : List (Vec ℕ _)) (taken : Vec ℕ _) → number < length elements → base_at elements number ≡ old.current
        → IsWithout keys (parts_at elements number) old.tops.items middle → length middle ≡ length old.tops.items
        → IsWith keys (parts_at elements number) middle new.tops.items → length new.tops.items ≡ length middle
        → taken.items ≡ taken_from keys (items_at old.tops.items) (parts_at elements number)
        → new.gone.items ≡ set old.gone.items number taken → new.done.items ≡ set old.done.items number true → new.current ≡ Some number
        → Stands elements keys children new
    enters middle taken inside from without middle_long with_parts long is_taken gone done here = record {
      tops_long = long ∙ middle_long ∙ stands.tops_long;
      gone_long = ap (λ l. length l) gone ∙ length-set old.gone.items number taken ∙ stands.gone_long;
      done_long = ap (λ l. length l) done ∙ length-set old.done.items number true ∙ stands.done_long;
      tops = λ id below_id.
          subst (λ xs. IsPermutation xs (filter (has_key keys id) (of_base children new.current))) (sym (with_parts id (omega (arith, below_id, middle_long, stands.tops_long)) ∙ ap (λ xs. xs ++ filter (has_key keys id) (parts_at elements number)) (without id)))
          (subst (λ o. IsPermutation (cond (is_key_of keys (parts_at elements number) id) [] (items_at old.tops.items id) ++ filter (has_key keys id) (parts_at elements number)) (filter (has_key keys id) (of_base children o))) (sym here)
          (entered keys (parts_at elements number) (of_base children (base_at elements number)) (children number) (law number) id (items_at old.tops.items id) (based id below_id)));
      told = λ e met. elim (cases_eq e number) [
        | inl same ↦ subst (IsTold elements keys children new.gone.items) (sym same) told_here
        | inr other ↦ subst (IsPermutation (gone_at elements keys children e)) (sym (ap (λ l. items_at l e) gone ∙ elsewhere e other)) (stands.told e (was_done e other met))
      ];
      met = λ e is. ap (λ l. get_or l e false) done ∙ ap (λ i. get_or (set old.done.items number true) i false) (sym (number_is e is)) ∙ done_here;
      outer = λ e base met is. elim (cases_eq e number) [
        | inl same ↦ still_done base (stands.met base (sym from ∙ sym (ap (base_at elements) same) ∙ is))
        | inr other ↦ still_done base (stands.outer e base (was_done e other met) is)
      ];
    }
      where
        based : (id : ℕ) → id < length elements → IsPermutation (items_at old.tops.items id) (filter (has_key keys id) (of_base children (base_at elements number)))
        based id below_id = subst (λ o. IsPermutation (items_at old.tops.items id) (filter (has_key keys id) (of_base children o))) (sym from) (stands.tops id below_id)

        number_is : (e : ℕ) → new.current ≡ Some e → number ≡ e
        number_is e is = let both : Some number ≡ Some e = sym here ∙ is in cc

        done_here : get_or (set old.done.items number true) number false ≡ true
        done_here = get_or-set_same old.done.items number true false (omega (arith, inside, stands.done_long))

        was_done : (e : ℕ) → (e ≡ number → ⊥) → get_or new.done.items e false ≡ true → get_or old.done.items e false ≡ true
        was_done e other met = sym (get_or-set_other old.done.items number e true false other) ∙ sym (ap (λ l. get_or l e false) done) ∙ met

        still_done : (e : ℕ) → get_or old.done.items e false ≡ true → get_or new.done.items e false ≡ true
        still_done e met = ap (λ l. get_or l e false) done ∙ elim (cases_eq e number) [
          | inl same ↦ ap (λ i. get_or (set old.done.items number true) i false) same ∙ done_here
          | inr other ↦ get_or-set_other old.done.items number e true false other ∙ met
        ]

        there : slice_get old.gone.items number ≡ Some (get_or old.gone.items number taken)
        there = slice_get-get_or old.gone.items number taken (omega (arith, inside, stands.gone_long))

        elsewhere : (e : ℕ) → (e ≡ number → ⊥) → items_at (set old.gone.items number taken) e ≡ items_at old.gone.items e
        elsewhere e other = at_set old.gone.items number (get_or old.gone.items number taken) taken there e ∙ ap (λ b. cond b taken.items (items_at old.gone.items e)) (ne_eqb e number other)

        told_here : IsTold elements keys children new.gone.items number
        told_here =
            subst (IsPermutation (gone_at elements keys children number))
            (sym (ap (λ l. items_at l number) gone ∙ at_set old.gone.items number (get_or old.gone.items number taken) taken there number ∙ ap (λ b. cond b taken.items (items_at old.gone.items number)) (eq-eqb number number refl) ∙ is_taken))
            (taken_shuffled keys (length elements) below (parts_at elements number) (items_at old.tops.items) (of_base children (base_at elements number)) based)

    -- up to the base of an element
    pub leaves : (middle : List (Vec ℕ _)) → old.current ≡ Some number
        → IsWithout keys (parts_at elements number) old.tops.items middle → length middle ≡ length old.tops.items
        → IsWith keys (items_at old.gone.items number) middle new.tops.items → length new.tops.items ≡ length middle
        → new.gone.items ≡ old.gone.items → new.done.items ≡ old.done.items → new.current ≡ base_at elements number
        → Stands elements keys children new
    leaves middle here without middle_long with_gone long gone done up = record {
      tops_long = long ∙ middle_long ∙ stands.tops_long;
      gone_long = ap (λ l. length l) gone ∙ stands.gone_long;
      done_long = ap (λ l. length l) done ∙ stands.done_long;
      tops = λ id below_id.
          subst (λ xs. IsPermutation xs (filter (has_key keys id) (of_base children new.current))) (sym (with_gone id (omega (arith, below_id, middle_long, stands.tops_long)) ∙ ap (λ xs. xs ++ filter (has_key keys id) (items_at old.gone.items number)) (without id)))
          (subst (λ o. IsPermutation (cond (is_key_of keys (parts_at elements number) id) [] (items_at old.tops.items id) ++ filter (has_key keys id) (items_at old.gone.items number)) (filter (has_key keys id) (of_base children o))) (sym up)
          (left keys (parts_at elements number) (of_base children (base_at elements number)) (children number) (law number) id (items_at old.tops.items id) (items_at old.gone.items number)
          (subst (λ o. IsPermutation (items_at old.tops.items id) (filter (has_key keys id) (of_base children o))) here (stands.tops id below_id))
          (stands.told number (stands.met number here))));
      told = λ e met. subst (λ l. IsPermutation (gone_at elements keys children e) (items_at l e)) (sym gone) (stands.told e (sym (ap (λ l. get_or l e false) done) ∙ met));
      met = λ e is. ap (λ l. get_or l e false) done ∙ stands.outer number e (stands.met number here) (sym up ∙ is);
      outer = λ e base met is. ap (λ l. get_or l base false) done ∙ stands.outer e base (sym (ap (λ l. get_or l e false) done) ∙ met) is;
    }

-- no element was met yet
pub begins_walk : (elements : List Element) (keys : List ℕ) (children : ℕ → List ℕ) (walk : Walk) → length walk.tops.items ≡ length elements → length walk.gone.items ≡ length elements → length walk.done.items ≡ length elements
    → ((id : ℕ) → items_at walk.tops.items id ≡ []) → ((e : ℕ) → get_or walk.done.items e false ≡ false) → walk.current ≡ None → Stands elements keys children walk
begins_walk elements keys children walk tops_long gone_long done_long empty undone nowhere = record {
  tops_long = tops_long;
  gone_long = gone_long;
  done_long = done_long;
  tops = λ id inside. subst (λ xs. IsPermutation xs (filter (has_key keys id) (of_base children walk.current))) (sym (empty id)) (subst (λ o. IsPermutation [] (filter (has_key keys id) (of_base children o))) (sym nowhere) (IsPermutation-refl []));
  told = λ e met. absurd (true≢false (sym met ∙ undone e));
  met = λ e is. let both : None ≡ Some e = sym nowhere ∙ is in absurd cc;
  outer = λ e base met is. absurd (true≢false (sym met ∙ undone e));
}

-- what is gone is told of all, where all were met; past the elements nothing is
pub all_told : (elements : List Element) (keys : List ℕ) (children : ℕ → List ℕ) (walk : Walk) → Stands elements keys children walk → ((e : ℕ) → e < length walk.done.items → get_or walk.done.items e false ≡ true) → (e : ℕ) → IsTold elements keys children walk.gone.items e
unfolding base_at items_at
all_told elements keys children walk stands met e = elim (cases_lt e (length elements)) [
  | inl inside ↦ stands.told e (met e (omega (arith, inside, stands.done_long)))
  | inr past ↦
      subst (λ o. IsPermutation (filter (is_gone keys (parts_at elements e)) (of_base children (base_in o))) (items_in (slice_get walk.gone.items e))) (sym (slice_get_past elements e past))
      (subst (λ o. IsPermutation [] (items_in o)) (sym (slice_get_past walk.gone.items e (omega (arith, past, stands.gone_long)))) (IsPermutation-refl []))
]
