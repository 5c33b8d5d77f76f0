-- Children that are kept and added by indexes of their names.
use Rattle.std.proofs.Common.{◌≡◌, ℕ, zero, suc, ◌+◌, ◌<◌, ◌≤◌, Bool, true, false, ◌&&◌, ◌||◌, not, cond, List, [], ◌∷◌, ◌++◌, take, drop, length, get_or, Option, None, Some, is_some, refl, sym, ap, ap₂, ◌∙◌, append_assoc, append-nil, arith, if◌then◌else◌}
use Rattle.std.specs.List.{list_any}
use Rattle.std.specs.Map.{lookup}
use Rattle.std.specs.Str.{bytes_eq}
use Rattle.std.proofs.lemmas.List.{map-append, take_more, take-append-drop}
use Rattle.std.proofs.lemmas.List.Folds.{list_any-append}
use Rattle.derive_build.specs.declared.own.Own.{Own}
use Rattle.derive_build.specs.Children.{child_of, children_of, first_named, HoldsFirst, HoldsNames}
use Rattle.derived_graph.specs.Graphs.{Child}
use Rattle.svd_model.proofs.Lists.{from_place, drop_past}
use Rattle.derived_rows.specs.Merging.{has_named, replaced_by, kept, added, merged}

module _ (owns : List Own) where
  -- an own child of the name stands in the place of a child
  found-first : (numbers : List ℕ) (child : Child) (n : ℕ) → first_named (children_of owns numbers) child.0.name ≡ Some n → (has_named (children_of owns numbers) child ≡ true) × (replaced_by (children_of owns numbers) child ≡ child_of owns n)
  unfolding first_named has_named replaced_by
  found-first [] child n e = absurd cc
  found-first (m ∷ numbers) child n e = at (found-first numbers child n) (bytes_eq child.0.name (child_of owns m).0.name) e
    where
      at : (first_named (children_of owns numbers) child.0.name ≡ Some n → (has_named (children_of owns numbers) child ≡ true) × (replaced_by (children_of owns numbers) child ≡ child_of owns n))
          → (b : Bool) → (if b then Some m else first_named (children_of owns numbers) child.0.name) ≡ Some n → ((b || has_named (children_of owns numbers) child) ≡ true) × (cond b (child_of owns m) (replaced_by (children_of owns numbers) child) ≡ child_of owns n)
      at again true p = let same : m ≡ n = cc in (refl, ap (child_of owns) same)
      at again false p = again p

  found-none : (numbers : List ℕ) (child : Child) → first_named (children_of owns numbers) child.0.name ≡ None → (has_named (children_of owns numbers) child ≡ false) × (replaced_by (children_of owns numbers) child ≡ child)
  unfolding first_named has_named replaced_by
  found-none [] child e = (refl, refl)
  found-none (m ∷ numbers) child e = at (found-none numbers child) (bytes_eq child.0.name (child_of owns m).0.name) e
    where
      at : (first_named (children_of owns numbers) child.0.name ≡ None → (has_named (children_of owns numbers) child ≡ false) × (replaced_by (children_of owns numbers) child ≡ child))
          → (b : Bool) → (if b then Some m else first_named (children_of owns numbers) child.0.name) ≡ None → ((b || has_named (children_of owns numbers) child) ≡ false) × (cond b (child_of owns m) (replaced_by (children_of owns numbers) child) ≡ child)
      at again true p = absurd cc
      at again false p = again p

  module _ (mine before : List ℕ) (child : ℕ) (own passed : List (List ℕ × ℕ)) (holds : HoldsFirst (children_of owns mine) own) (names : HoldsNames (children_of owns before) passed) where
    abbrev spelled : List ℕ
    spelled = (child_of owns child).0.name

    abbrev pub keeps : List Child
    keeps = cond (has_named (children_of owns mine) (child_of owns child) && has_named (children_of owns before) (child_of owns child)) [] (replaced_by (children_of owns mine) (child_of owns child) ∷ [])

    pub kept-none : lookup (bytes_eq spelled) own ≡ None → keeps ≡ child_of owns child ∷ []
    kept-none e =
        let found = found-none mine (child_of owns child) (sym (holds spelled) ∙ e) in
        ap₂ (λ (b : Bool) (c : Child). cond (b && has_named (children_of owns before) (child_of owns child)) [] (c ∷ [])) found.0 found.1

    pub kept-passed : (n : ℕ) → lookup (bytes_eq spelled) own ≡ Some n → is_some (lookup (bytes_eq spelled) passed) ≡ true → keeps ≡ []
    unfolding has_named
    kept-passed n e there =
        let found = found-first mine (child_of owns child) n (sym (holds spelled) ∙ e) in
        ap₂ (λ (a b : Bool). cond (a && b) [] (replaced_by (children_of owns mine) (child_of owns child) ∷ [])) found.0 (sym (names spelled) ∙ there)

    pub kept-first : (n : ℕ) → lookup (bytes_eq spelled) own ≡ Some n → is_some (lookup (bytes_eq spelled) passed) ≡ false → keeps ≡ child_of owns n ∷ []
    unfolding has_named
    kept-first n e there =
        let found = found-first mine (child_of owns child) n (sym (holds spelled) ∙ e) in
        ap₂ (λ (a b : Bool). cond (a && b) [] (replaced_by (children_of owns mine) (child_of owns child) ∷ [])) found.0 (sym (names spelled) ∙ there)
        ∙ ap (λ (c : Child). c ∷ []) found.1

  -- one more name
  pub names_more : (children : List Child) (child : Child) (old new : List (List ℕ × ℕ)) (name : List ℕ) (n : ℕ) → HoldsNames children old → name ≡ child.0.name → ((text : List ℕ) → lookup (bytes_eq text) new ≡ (if bytes_eq text name then Some n else lookup (bytes_eq text) old)) → HoldsNames (children ++ child ∷ []) new
  names_more children child old new name n holds same step text =
      ap is_some (step text ∙ ap (λ name. if bytes_eq text name then Some n else lookup (bytes_eq text) old) same)
      ∙ at (bytes_eq text child.0.name)
      ∙ sym (list_any-append (λ (c : Child). bytes_eq text c.0.name) children (child ∷ []))
    where
      or-true : (b : Bool) → true ≡ (b || true)
      or-true true = refl
      or-true false = refl

      or-false : (b : Bool) → b ≡ (b || false)
      or-false true = refl
      or-false false = refl

      at : (b : Bool) → is_some (if b then Some n else lookup (bytes_eq text) old) ≡ (list_any (λ (c : Child). bytes_eq text c.0.name) children || (b || false))
      at true = or-true (list_any (λ (c : Child). bytes_eq text c.0.name) children)
      at false = holds text ∙ or-false (list_any (λ (c : Child). bytes_eq text c.0.name) children)

  pub children_more : (numbers : List ℕ) (n : ℕ) → children_of owns (numbers ++ n ∷ []) ≡ children_of owns numbers ++ child_of owns n ∷ []
  children_more numbers n = map-append (child_of owns) numbers (n ∷ [])

  -- nothing is put behind
  pub none_more : (numbers : List ℕ) (more : List Child) → more ≡ [] → children_of owns numbers ≡ children_of owns numbers ++ more
  none_more numbers more e = sym (append-nil (children_of owns numbers)) ∙ ap (λ l. children_of owns numbers ++ l) (sym e)

  pub one_more_of : (old new : List ℕ) (n : ℕ) (more : List Child) → new ≡ old ++ n ∷ [] → more ≡ child_of owns n ∷ [] → children_of owns new ≡ children_of owns old ++ more
  one_more_of old new n more is e = ap (children_of owns) is ∙ children_more old n ∙ ap (λ l. children_of owns old ++ l) (sym e)

  -- what is made so far, and what the rest comes to
  pub kept_step : (numbers own made next : List ℕ) (i : ℕ) (whole : List Child) (x : ℕ) → i < length numbers → drop i numbers ≡ x ∷ drop (i + 1) numbers → x ≡ get_or numbers i 0
      → children_of owns next ≡ children_of owns made ++ cond (has_named (children_of owns own) (child_of owns x) && has_named (children_of owns (take i numbers)) (child_of owns x)) [] (replaced_by (children_of owns own) (child_of owns x) ∷ [])
      → children_of owns made ++ kept (children_of owns (take i numbers)) (children_of owns (drop i numbers)) (children_of owns own) ≡ whole
      → children_of owns next ++ kept (children_of owns (take (i + 1) numbers)) (children_of owns (drop (i + 1) numbers)) (children_of owns own) ≡ whole
  unfolding kept
  kept_step numbers own made next i whole x inside is item more before =
      ap₂ (λ a b. a ++ kept b (children_of owns (drop (i + 1) numbers)) (children_of owns own)) more
      (ap (children_of owns) (take_more numbers i 0 inside ∙ ap (λ y. take i numbers ++ y ∷ []) (sym item)) ∙ children_more (take i numbers) x)
      ∙ append_assoc (children_of owns made) _ _
      ∙ sym (ap (λ l. children_of owns made ++ kept (children_of owns (take i numbers)) (children_of owns l) (children_of owns own)) is)
      ∙ before

  pub added_step : (numbers theirs made next : List ℕ) (i : ℕ) (whole : List Child) (x : ℕ) → i < length numbers → drop i numbers ≡ x ∷ drop (i + 1) numbers → x ≡ get_or numbers i 0
      → children_of owns next ≡ children_of owns made ++ cond (has_named (children_of owns theirs) (child_of owns x) && not (has_named (children_of owns (take i numbers)) (child_of owns x))) [] (child_of owns x ∷ [])
      → children_of owns made ++ added (children_of owns (take i numbers)) (children_of owns theirs) (children_of owns (drop i numbers)) ≡ whole
      → children_of owns next ++ added (children_of owns (take (i + 1) numbers)) (children_of owns theirs) (children_of owns (drop (i + 1) numbers)) ≡ whole
  unfolding added
  added_step numbers theirs made next i whole x inside is item more before =
      ap₂ (λ a b. a ++ added b (children_of owns theirs) (children_of owns (drop (i + 1) numbers))) more
      (ap (children_of owns) (take_more numbers i 0 inside ∙ ap (λ y. take i numbers ++ y ∷ []) (sym item)) ∙ children_more (take i numbers) x)
      ∙ append_assoc (children_of owns made) _ _
      ∙ sym (ap (λ l. children_of owns made ++ added (children_of owns (take i numbers)) (children_of owns theirs) (children_of owns l)) is)
      ∙ before

  pub names_step : (numbers : List ℕ) (i : ℕ) (x : ℕ) (old new : List (List ℕ × ℕ)) (name : List ℕ) → i < length numbers → x ≡ get_or numbers i 0 → HoldsNames (children_of owns (take i numbers)) old → name ≡ (child_of owns x).0.name → ((text : List ℕ) → lookup (bytes_eq text) new ≡ (if bytes_eq text name then Some x else lookup (bytes_eq text) old)) → HoldsNames (children_of owns (take (i + 1) numbers)) new
  names_step numbers i x old new name inside item holds same step = λ text.
      names_more (children_of owns (take i numbers)) (child_of owns x) old new name x holds same step text
      ∙ ap (list_any (λ (c : Child). bytes_eq text c.0.name)) (sym (ap (children_of owns) (take_more numbers i 0 inside ∙ ap (λ y. take i numbers ++ y ∷ []) (sym item)) ∙ children_more (take i numbers) x))

pub merged-is : (source own : List Child) → kept [] source own ++ added [] source own ≡ merged source own
unfolding merged
merged-is source own = refl

-- ---- ends of lists

pub drop_next : (numbers : List ℕ) (i : ℕ) → i < length numbers → drop i numbers ≡ get_or numbers i 0 ∷ drop (i + 1) numbers
drop_next numbers i inside = from_place numbers i (get_or numbers i 0) inside (any_default numbers i inside (get_or numbers i 0))
  where
    any_default : (xs : List ℕ) (i : ℕ) → i < length xs → (d : ℕ) → get_or xs i 0 ≡ get_or xs i d
    any_default [] i h d = absurd (omega (arith, h))
    any_default (x ∷ xs) zero h d = refl
    any_default (x ∷ xs) (suc i) h d = any_default xs i (omega (arith, h)) d

module _ (owns : List Own) where
  pub kept_end : (numbers own made : List ℕ) (i : ℕ) → length numbers ≤ i → children_of owns made ++ kept (children_of owns (take i numbers)) (children_of owns (drop i numbers)) (children_of owns own) ≡ kept [] (children_of owns numbers) (children_of owns own) → children_of owns made ≡ kept [] (children_of owns numbers) (children_of owns own)
  unfolding kept
  kept_end numbers own made i past before =
      sym (append-nil (children_of owns made))
      ∙ sym (ap (λ l. children_of owns made ++ kept (children_of owns (take i numbers)) (children_of owns l) (children_of owns own)) (drop_past numbers i past))
      ∙ before

  pub added_end : (numbers theirs made old : List ℕ) (i : ℕ) → length numbers ≤ i → children_of owns made ++ added (children_of owns (take i numbers)) (children_of owns theirs) (children_of owns (drop i numbers)) ≡ children_of owns old ++ added [] (children_of owns theirs) (children_of owns numbers) → children_of owns made ≡ children_of owns old ++ added [] (children_of owns theirs) (children_of owns numbers)
  unfolding added
  added_end numbers theirs made old i past before =
      sym (append-nil (children_of owns made))
      ∙ sym (ap (λ l. children_of owns made ++ added (children_of owns (take i numbers)) (children_of owns theirs) (children_of owns l)) (drop_past numbers i past))
      ∙ before

  pub names_end : (numbers : List ℕ) (i : ℕ) (names : List (List ℕ × ℕ)) → length numbers ≤ i → HoldsNames (children_of owns (take i numbers)) names → HoldsNames (children_of owns numbers) names
  names_end numbers i names past holds = λ text.
      holds text
      ∙ ap (λ l. list_any (λ (c : Child). bytes_eq text c.0.name) (children_of owns l))
      (sym (append-nil (take i numbers)) ∙ sym (ap (λ l. take i numbers ++ l) (drop_past numbers i past)) ∙ take-append-drop i numbers)

  -- one more child from the back
  pub first_more : (numbers : List ℕ) (past i : ℕ) (old new : List (List ℕ × ℕ)) (name : List ℕ) (x : ℕ) → i < length numbers → past ≡ i + 1 → x ≡ get_or numbers i 0 → ((text : List ℕ) → lookup (bytes_eq text) old ≡ first_named (children_of owns (drop past numbers)) text) → name ≡ (child_of owns x).0.name → ((text : List ℕ) → lookup (bytes_eq text) new ≡ (if bytes_eq text name then Some x else lookup (bytes_eq text) old)) → (text : List ℕ) → lookup (bytes_eq text) new ≡ first_named (children_of owns (drop i numbers)) text
  unfolding first_named
  first_more numbers past i old new name x inside next item holds same step text =
      step text
      ∙ ap₂ (λ (n : List ℕ) (o : Option ℕ). if bytes_eq text n then Some x else o) same (holds text ∙ ap (λ k. first_named (children_of owns (drop k numbers)) text) next)
      ∙ ap (λ y. if bytes_eq text (child_of owns y).0.name then Some y else first_named (children_of owns (drop (i + 1) numbers)) text) item
      ∙ sym (ap (λ l. first_named (children_of owns l) text) (drop_next numbers i inside))

  module _ (theirs before : List ℕ) (child : ℕ) (source passed : List (List ℕ × ℕ)) (holds : HoldsNames (children_of owns theirs) source) (names : HoldsNames (children_of owns before) passed) where
    abbrev pub adds : List Child
    adds = cond (has_named (children_of owns theirs) (child_of owns child) && not (has_named (children_of owns before) (child_of owns child))) [] (child_of owns child ∷ [])

    pub added-by : (a b : Bool) → is_some (lookup (bytes_eq (child_of owns child).0.name) source) ≡ a → is_some (lookup (bytes_eq (child_of owns child).0.name) passed) ≡ b → adds ≡ cond (a && not b) [] (child_of owns child ∷ [])
    unfolding has_named
    added-by a b p q = ap₂ (λ (a b : Bool). cond (a && not b) [] (child_of owns child ∷ [])) (sym (holds (child_of owns child).0.name) ∙ p) (sym (names (child_of owns child).0.name) ∙ q)
