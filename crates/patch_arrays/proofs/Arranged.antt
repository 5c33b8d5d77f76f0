-- What becomes of children that are parted into members and others.
use Rattle.std.proofs.Common.{◌≡◌, ℕ, ◌<◌, Bool, true, false, cond, not, ◌&&◌, ◌||◌, nat_eq, nat_le, List, [], ◌∷◌, ◌++◌, map, filter, take, drop, length, Result, Ok, Err, IfOk, Vec, inl, inr, ◌⊎◌, refl, sym, ap, ap₂, ◌∙◌, subst, arith}
use Rattle.std.specs.List.{AllByRecursion, IsDistinct as AreDistinct, list_any}
use Rattle.std.specs.Str.{bytes_eq}
use Rattle.patch_edits.specs.Visits.{Below}
use Rattle.patch_model.specs.Acts.{PatternItems}
use Rattle.patch_sem.specs.Arrays.{ordered_by, put_in}
use Rattle.patch_sem.specs.declared.fault.PatchFault.{PatchFault}
use Rattle.patch_sem.specs.declared.fault.PatchFault.TheVariants.{AddExists, Memory, NoMatch}
use Rattle.patch_sem.specs.Selecting.{is_named, is_patched}
use Rattle.patch_sem.specs.Steps.{Outcome, refused_if, unless_none}
use Rattle.patch_arrays.proofs.Each.{each_exchanged, each_from, each_kept, each_map}
use Rattle.patch_arrays.specs.Arranging.{Element, array_of, arraying_in, is_member, is_taken, offset_of}
use Rattle.patch_arrays.specs.Makings.{Arranges, IsArranged, MakesArray, capped, unless_unfit}
use Rattle.patch_arrays.specs.Members.{Seen, entry_key, under_key}
use Rattle.patch_arrays.specs.Partings.{IsParted, put_at}
use Rattle.patch_arrays.specs.declared.parting.Parted.{Parted}
use Rattle.svd_model.proofs.Copies.{sibling_eq, sibling_eq-turns}
use Rattle.svd_model.specs.declared.sibling.Sibling.{Sibling}
use Rattle.svd_rows.proofs.Lists.{filter-map}
use Rattle.svd_rows.specs.Forest.{siblings}
use Rattle.svd_rows.specs.RowEdits.{exchanged}

-- ---- lists

never : (b : Bool) → (b && false) ≡ false
never true = refl
never false = refl

always : (b : Bool) → (b && true) ≡ b
always true = refl
always false = refl

map-append : {A B : Type 0} (f : A → B) (xs ys : List A) → map f (xs ++ ys) ≡ map f xs ++ map f ys
map-append f [] ys = refl
map-append f (x ∷ xs) ys = ap (λ r. f x ∷ r) (map-append f xs ys)

-- what is made of a list in which some are exchanged
exchanged-made : {A B : Type 0} (test : B → Bool) (f : A → B) (new xs : List A) → exchanged test (map f new) (map f xs) ≡ map f (exchanged (λ x. test (f x)) new xs)
unfolding exchanged
exchanged-made test f new [] = refl
exchanged-made {A = A} test f new (x ∷ xs) = cases (test (f x)) (exchanged-made test f new xs)
  where
    left : filter (λ y. not (test y)) (map f xs) ≡ map f (filter (λ y. not (test (f y))) xs)
    left = filter-map (λ y. not (test y)) f xs

    cases : (b : Bool) → exchanged test (map f new) (map f xs) ≡ map f (exchanged (λ y. test (f y)) new xs)
        → cond b (map f new ++ filter (λ y. not (test y)) (map f xs)) (f x ∷ exchanged test (map f new) (map f xs)) ≡ map f (cond b (new ++ filter (λ y. not (test (f y))) xs) (x ∷ exchanged (λ y. test (f y)) new xs))
    cases true more = ap (λ r. map f new ++ r) left ∙ sym (map-append f new (filter (λ y. not (test (f y))) xs))
    cases false more = ap (λ r. f x ∷ r) more

unless-some : {A B : Type 0} (line : ℕ) (xs : List A) (rest : Outcome B) → 0 < length xs → unless_none line xs rest ≡ rest
unless-some line [] rest some = absurd (omega (arith, some))
unless-some line (x ∷ xs) rest some = refl

map-some : {A B : Type 0} (f : A → B) (xs : List A) → 0 < length xs → 0 < length (map f xs)
map-some f [] some = some
map-some f (x ∷ xs) some = omega arith

pub no_both : (b : Bool) → b ≡ true → b ≡ false → ⊥
no_both true e f = cc
no_both false e f = cc

-- ---- keys of entries

module _ {M : Type 0} (test : Sibling × M → Bool) where
  kept-apart : (key : Sibling) (q : Sibling × M → Bool) (entries : List (Sibling × M)) → AllByRecursion (λ other. sibling_eq key other ≡ false) (map entry_key entries) → AllByRecursion (λ other. sibling_eq key other ≡ false) (map entry_key (filter q entries))
  kept-apart key q entries h =
      each_from (λ other. sibling_eq key other ≡ false) entry_key (filter q entries)
      (each_kept (λ entry. sibling_eq key entry.0 ≡ false) q entries (each_map (λ other. sibling_eq key other ≡ false) entry_key entries h))

  kept-distinct : (q : Sibling × M → Bool) (entries : List (Sibling × M)) → AreDistinct sibling_eq (map entry_key entries) → AreDistinct sibling_eq (map entry_key (filter q entries))
  unfolding AreDistinct
  kept-distinct q [] h = tt
  kept-distinct q (entry ∷ entries) h = cases (q entry) (kept-distinct q entries h.1)
    where
      cases : (b : Bool) → AreDistinct sibling_eq (map entry_key (filter q entries)) → AreDistinct sibling_eq (map entry_key (cond b (entry ∷ filter q entries) (filter q entries)))
      cases true more = (kept-apart entry.0 q entries h.0, more)
      cases false more = more

  others-apart : (new : Sibling × M) (entries : List (Sibling × M)) → AllByRecursion (λ entry. test entry ≡ false → (sibling_eq new.0 entry.0 ≡ false) × (sibling_eq entry.0 new.0 ≡ false)) entries → AllByRecursion (λ other. sibling_eq new.0 other ≡ false) (map entry_key (filter (λ entry. not (test entry)) entries))
  others-apart new [] all = tt
  others-apart new (entry ∷ entries) all = cases (test entry) refl (others-apart new entries all.1)
    where
      cases : (b : Bool) → test entry ≡ b → AllByRecursion (λ other. sibling_eq new.0 other ≡ false) (map entry_key (filter (λ x. not (test x)) entries)) → AllByRecursion (λ other. sibling_eq new.0 other ≡ false) (map entry_key (cond (not b) (entry ∷ filter (λ x. not (test x)) entries) (filter (λ x. not (test x)) entries)))
      cases true e more = more
      cases false e more = ((all.0 e).0, more)

  distinct-exchanged : (new : Sibling × M) (entries : List (Sibling × M)) → AllByRecursion (λ entry. test entry ≡ false → (sibling_eq new.0 entry.0 ≡ false) × (sibling_eq entry.0 new.0 ≡ false)) entries → AreDistinct sibling_eq (map entry_key entries) → AreDistinct sibling_eq (map entry_key (exchanged test (new ∷ []) entries))
  unfolding AreDistinct exchanged
  distinct-exchanged new [] all h = tt
  distinct-exchanged new (entry ∷ entries) all h = cases (test entry) refl (distinct-exchanged new entries all.1 h.1)
    where
      cases : (b : Bool) → test entry ≡ b → AreDistinct sibling_eq (map entry_key (exchanged test (new ∷ []) entries)) → AreDistinct sibling_eq (map entry_key (cond b (new ∷ filter (λ x. not (test x)) entries) (entry ∷ exchanged test (new ∷ []) entries)))
      cases true e more = (others-apart new entries all.1, kept-distinct (λ x. not (test x)) entries h.1)
      cases false e more = (
        each_from (λ other. sibling_eq entry.0 other ≡ false) entry_key (exchanged test (new ∷ []) entries)
            (each_exchanged (λ x. sibling_eq entry.0 x.0 ≡ false) test (new ∷ []) entries ((all.0 e).1, tt) (each_map (λ other. sibling_eq entry.0 other ≡ false) entry_key entries h.0)),
        more,
      )

-- members in another order are as many
put-some : {A : Type 0} (key : A → ℕ) (x : A) (xs : List A) → 0 < length (put_in key x xs)
unfolding put_in
put-some key x [] = omega arith
put-some key x (y ∷ ys) = cases (nat_le (key x) (key y))
  where
    cases : (b : Bool) → 0 < length (cond b (x ∷ (y ∷ ys)) (y ∷ put_in key x ys))
    cases true = omega arith
    cases false = omega arith

ordered-some : {A : Type 0} (key : A → ℕ) (xs : List A) → 0 < length xs → 0 < length (ordered_by key xs)
unfolding ordered_by
ordered-some key [] some = some
ordered-some key (x ∷ xs) some = put-some key x (ordered_by key xs)

some-made : {A B : Type 0} (f : A → B) (xs : List A) → 0 < length (map f xs) → 0 < length xs
some-made f [] some = some
some-made f (x ∷ xs) some = omega arith

pub order-some : {A : Type 0} (under : A → Element) (old new : List A) → 0 < length old → map under new ≡ ordered_by offset_of (map under old) → 0 < length new
order-some under old new some ordered = some-made under new (subst (λ (xs : List Element). 0 < length xs) (sym ordered) (ordered-some offset_of (map under old) (map-some under old some)))

pub no-items : {A : Type 0} (xs : List A) → length xs ≡ 0 → xs ≡ []
no-items [] none = refl
no-items (x ∷ xs) none = absurd (omega (arith, none))

pub some-items : {A : Type 0} (xs : List A) → (length xs ≡ 0 → ⊥) → 0 < length xs
some-items [] none = absurd (none refl)
some-items (x ∷ xs) none = omega arith

-- ---- the outcome

module _ {M : Type 0} (seen : M → Seen) (known : (one : M) → is_patched (seen one).0 ≡ true) (line : ℕ) (pattern : PatternItems) (name : List ℕ) (children : List (Sibling × M)) where
  abbrev Entry : Type 0
  Entry = Sibling × M

  abbrev under : Entry → Element
  under = under_key seen

  abbrev test : Entry → Bool
  test entry = is_member pattern (under entry)

  abbrev els : List Element
  els = map under children

  abbrev has_name : Entry → Bool
  has_name entry = bytes_eq name entry.0.name

  taken-in : (entries : List Entry) → is_taken pattern name (map under entries) ≡ list_any has_name (filter (λ entry. not (test entry)) entries)
  unfolding is_named
  taken-in [] = refl
  taken-in (entry ∷ entries) =
      ap (λ (b : Bool). ((b && bytes_eq name entry.0.name) && not (test entry)) || is_taken pattern name (map under entries)) (known entry.1)
      ∙ cases (test entry) (taken-in entries)
    where
      cases : (b : Bool) → is_taken pattern name (map under entries) ≡ list_any has_name (filter (λ x. not (test x)) entries)
          → ((bytes_eq name entry.0.name && not b) || is_taken pattern name (map under entries)) ≡ list_any has_name (cond (not b) (entry ∷ filter (λ x. not (test x)) entries) (filter (λ x. not (test x)) entries))
      cases true more = ap (λ (c : Bool). c || is_taken pattern name (map under entries)) (never (bytes_eq name entry.0.name)) ∙ more
      cases false more = ap₂ (λ (c d : Bool). c || d) (always (bytes_eq name entry.0.name)) more

  module _ (parted : Parted M) (is : IsParted test children parted) where
    members-seen : filter (is_member pattern) els ≡ map under parted.members.items
    members-seen = filter-map (is_member pattern) under children ∙ ap (map under) (sym is.members)

    taken-seen : is_taken pattern name els ≡ list_any has_name parted.others.items
    taken-seen = taken-in children ∙ ap (list_any has_name) (sym is.others)

    abbrev order : List Element
    order = ordered_by offset_of (map under parted.members.items)

    -- what comes to, by what is parted
    abbrev outcome : Outcome Below
    outcome =
        unless_none line (map under parted.members.items)
        (refused_if (list_any has_name parted.others.items) (AddExists line name)
        (unless_unfit line order (Ok (siblings (exchanged (is_member pattern) (array_of capped name order) els)))))

    outcome-is : arraying_in capped line pattern name els ≡ outcome
    outcome-is =
        ap₂ (λ (some : List Element) (taken : Bool). unless_none line some (refused_if taken (AddExists line name) (unless_unfit line (ordered_by offset_of some) (Ok (siblings (exchanged (is_member pattern) (array_of capped name (ordered_by offset_of some)) els)))))) members-seen taken-seen

    pub none-arranged : parted.members.items ≡ [] → arraying_in capped line pattern name els ≡ Err (NoMatch line)
    none-arranged none =
        outcome-is ∙ ap (λ (some : List Entry). unless_none line (map under some) (refused_if (list_any has_name parted.others.items) (AddExists line name) (unless_unfit line order (Ok (siblings (exchanged (is_member pattern) (array_of capped name order) els)))))) none

    module _ (some : 0 < length parted.members.items) where
      some-outcome : arraying_in capped line pattern name els ≡ refused_if (list_any has_name parted.others.items) (AddExists line name) (unless_unfit line order (Ok (siblings (exchanged (is_member pattern) (array_of capped name order) els))))
      some-outcome = outcome-is ∙ unless-some line (map under parted.members.items) _ (map-some under parted.members.items some)

      pub taken-arranged : list_any has_name parted.others.items ≡ true → arraying_in capped line pattern name els ≡ Err (AddExists line name)
      taken-arranged taken =
          some-outcome ∙ ap (λ (b : Bool). refused_if b (AddExists line name) (unless_unfit line order (Ok (siblings (exchanged (is_member pattern) (array_of capped name order) els))))) taken

      module _ (free : list_any has_name parted.others.items ≡ false) where
        free-outcome : arraying_in capped line pattern name els ≡ unless_unfit line order (Ok (siblings (exchanged (is_member pattern) (array_of capped name order) els)))
        free-outcome =
            some-outcome ∙ ap (λ (b : Bool). refused_if b (AddExists line name) (unless_unfit line order (Ok (siblings (exchanged (is_member pattern) (array_of capped name order) els))))) free

        pub unfit-arranged : (fault : PatchFault) → ((rest : Outcome Below) → unless_unfit line order rest ≡ Err fault) → arraying_in capped line pattern name els ≡ Err fault
        unfit-arranged fault unfit = free-outcome ∙ unfit (Ok (siblings (exchanged (is_member pattern) (array_of capped name order) els)))

        module _ (made : List Entry) (done : IsArranged seen line name parted.members.items parted.others.items parted.place made) where
          put-exchanged : made ≡ exchanged test (done.array ∷ []) children
          put-exchanged = done.put ∙ put parted.members.items some ∙ is.placed (done.array ∷ [])
            where
              put : (members : List Entry) → 0 < length members → take parted.place parted.others.items ++ (done.array ∷ drop parted.place parted.others.items) ≡ put_at members parted.place (done.array ∷ []) parted.others.items
              put [] none = absurd (omega (arith, none))
              put (member ∷ members) more = refl

          pub made-arranged : arraying_in capped line pattern name els ≡ Ok (siblings (map under made))
          made-arranged =
              free-outcome
              ∙ done.fits (Ok (siblings (exchanged (is_member pattern) (array_of capped name order) els)))
              ∙ ap (λ (new : List Element). Ok (siblings new)) (ap (λ (new : List Element). exchanged (is_member pattern) new els) (sym done.stands) ∙ exchanged-made (is_member pattern) under (done.array ∷ []) children ∙ ap (map under) (sym put-exchanged))

          -- no other child has the key of the array
          abbrev IsApart : Entry → Type 0
          IsApart entry = (sibling_eq done.array.0 entry.0 ≡ false) × (sibling_eq entry.0 done.array.0 ≡ false)

          apart-one : (entry : Entry) → has_name entry ≡ false → IsApart entry
          apart-one entry e =
              let one = ap (λ (key : Sibling). sibling_eq key entry.0) done.key ∙ ap (λ (b : Bool). b && nat_eq 0 entry.0.number) e in
              (one, sibling_eq-turns entry.0 done.array.0 ∙ one)

          or_parts : (a b : Bool) → (a || b) ≡ false → (a ≡ false) × (b ≡ false)
          or_parts true b e = cc
          or_parts false b e = (refl, e)

          apart-each : (entries : List Entry) → list_any has_name (filter (λ x. not (test x)) entries) ≡ false → AllByRecursion (λ entry. test entry ≡ false → IsApart entry) entries
          apart-each [] none = tt
          apart-each (entry ∷ entries) none = cases (test entry) refl (apart-each entries) none
            where
              cases : (b : Bool) → test entry ≡ b → (list_any has_name (filter (λ x. not (test x)) entries) ≡ false → AllByRecursion (λ x. test x ≡ false → IsApart x) entries) → list_any has_name (cond (not b) (entry ∷ filter (λ x. not (test x)) entries) (filter (λ x. not (test x)) entries)) ≡ false → AllByRecursion (λ x. test x ≡ false → IsApart x) (entry ∷ entries)
              cases true e more left = ((λ f. absurd (no_both (test entry) e f)), more left)
              cases false e more left =
                  let parts = or_parts (has_name entry) (list_any has_name (filter (λ x. not (test x)) entries)) left in ((λ f. apart-one entry parts.0), more parts.1)

          pub made-distinct : AreDistinct sibling_eq (map entry_key children) → AreDistinct sibling_eq (map entry_key made)
          made-distinct distinct =
              subst (λ (entries : List Entry). AreDistinct sibling_eq (map entry_key entries)) (sym put-exchanged)
              (distinct-exchanged test done.array children (apart-each children (ap (list_any has_name) (sym is.others) ∙ free)) distinct)

    -- what the parted children come to, as a result
    pub arranged-by : {Z : Type 0} → 0 < length parted.members.items → list_any has_name parted.others.items ≡ false → (result : Result (Vec (Sibling × M) Z) PatchFault) → MakesArray seen line name parted result → Arranges seen (arraying_in capped line pattern name els) result
    arranged-by some free (Ok made) done = made-arranged some free made.items done
    arranged-by some free (Err fault) (inl memory) = inl memory
    arranged-by some free (Err fault) (inr unfit) = inr (unfit-arranged some free fault unfit)

    pub distinct-by : {Z : Type 0} → 0 < length parted.members.items → list_any has_name parted.others.items ≡ false → (result : Result (Vec (Sibling × M) Z) PatchFault) → MakesArray seen line name parted result → IfOk result (λ made. AreDistinct sibling_eq (map entry_key children) → AreDistinct sibling_eq (map entry_key made.items))
    distinct-by some free (Ok made) done = made-distinct some free made.items done
    distinct-by some free (Err fault) done = tt

    pub refused-by : 0 < length parted.members.items → list_any has_name parted.others.items ≡ true → (fault : PatchFault) → (fault ≡ Memory) ⊎ (fault ≡ AddExists line name) → (fault ≡ Memory) ⊎ (arraying_in capped line pattern name els ≡ Err fault)
    refused-by some taken fault (inl memory) = inl memory
    refused-by some taken fault (inr is) = inr (taken-arranged some taken ∙ ap Err (sym is))
