-- Keys that tell names apart: the first place of each name.
use Rattle.std.proofs.Common.{◌≡◌, inl, inr, ℕ, zero, suc, ◌+◌, ◌<◌, Bool, true, false, cond, nat_eq, List, [], ◌∷◌, map, length, get_or, Some, unwrap_or, refl, sym, ap, ap₂, ◌∙◌, arith}
use Rattle.std.specs.List.{position_from}
use Rattle.std.specs.Cmp.Lexicographic.{bytes_decides}
use Rattle.std.specs.Str.{bytes_eq}
use Rattle.std.proofs.lemmas.Bool.{cases_Bool, cases_lt, eqb-true, eq-eqb, true≢false}
use Rattle.std.proofs.lemmas.List.{get_or-map, get_or_past, length-map}
use Rattle.derive_order.specs.Counting.{AreKeys}
use Rattle.derive_order.specs.Gone.{key_of}
use Rattle.derive_sources.specs.Numbers.{Item, no_item, item_at}

-- where something passes a test, the first place that does
record First (test : Item → Bool) (n : ℕ) (xs : List Item) : Type 0 where
  place : ℕ
  inside : place < length xs
  is : position_from test n xs ≡ Some (n + place)
  passes : test (item_at xs place) ≡ true

first_at : (test : Item → Bool) (n : ℕ) (xs : List Item) (i : ℕ) → i < length xs → test (item_at xs i) ≡ true → First test n xs
first_at test n [] i inside passes = absurd (omega (arith, inside))
first_at test n (x ∷ xs) i inside passes = at (test x) refl (λ j there holds. first_at test (n + 1) xs j there holds) i inside passes
  where
    here : n ≡ n + 0
    here = omega arith

    further : (k : ℕ) → n + 1 + k ≡ n + suc k
    further k = omega arith

    at : (b : Bool) → test x ≡ b → ((j : ℕ) → j < length xs → test (item_at xs j) ≡ true → First test (n + 1) xs) → (i : ℕ) → i < suc (length xs) → test (item_at (x ∷ xs) i) ≡ true → First test n (x ∷ xs)
    at true e again i inside passes = record { place = 0; inside = omega arith; is = ap (λ b. cond b (Some n) (position_from test (n + 1) xs)) e ∙ ap Some here; passes = e }
    at false e again zero inside passes = absurd (true≢false (sym passes ∙ e))
    at false e again (suc j) inside passes =
        let r = again j (omega (arith, inside)) passes in
        record { place = suc r.place; inside = omega (arith, r.inside); is = ap (λ b. cond b (Some n) (position_from test (n + 1) xs)) e ∙ r.is ∙ ap Some (further r.place); passes = r.passes }

-- the key of a name
abbrev pub key_in : List Item → List ℕ → ℕ
key_in items name = unwrap_or (position_from (λ item. bytes_eq name item.name) 0 items) 0

record Keyed (items : List Item) (d : ℕ) : Type 0 where
  inside : key_in items (item_at items d).name < length items
  same : (item_at items d).name ≡ (item_at items (key_in items (item_at items d).name)).name

keyed : (items : List Item) (d : ℕ) → d < length items → Keyed items d
keyed items d here =
    let name = (item_at items d).name in
    let r = first_at (λ item. bytes_eq name item.name) 0 items d here ((bytes_decides name name).1 refl) in
    let key : key_in items name ≡ r.place = ap (λ o. unwrap_or o 0) r.is ∙ plain r.place in
    record {
      inside = omega (arith, key, r.inside);
      same = (bytes_decides name (item_at items r.place).name).0 r.passes ∙ ap (λ k. (item_at items k).name) (sym key);
    }
  where
    plain : (k : ℕ) → 0 + k ≡ k
    plain k = omega arith

pub are_keys : (items : List Item) (keys : List ℕ) → 0 < length items → keys ≡ map (λ item. key_in items item.name) items → AreKeys items keys
are_keys items keys some is = record { below = below; apart = apart }
  where
    key : (d : ℕ) → d < length items → key_of keys d ≡ key_in items (item_at items d).name
    key d inside = ap (λ l. get_or l d 0) is ∙ get_or-map (λ (item : Item). key_in items item.name) items d no_item 0 inside

    long : length keys ≡ length items
    long = ap (λ l. length l) is ∙ length-map items (λ (item : Item). key_in items item.name)

    below : (d : ℕ) → key_of keys d < length items
    below d = elim (cases_lt d (length items)) [
      | inl inside ↦ let k = key d inside in let r = keyed items d inside in omega (arith, k, r.inside)
      | inr past ↦ let k : key_of keys d ≡ 0 = get_or_past keys d 0 (omega (arith, past, long)) in omega (arith, k, some)
    ]

    apart : (d e : ℕ) → d < length items → e < length items → nat_eq (key_of keys d) (key_of keys e) ≡ bytes_eq (item_at items d).name (item_at items e).name
    apart d e p q = ap₂ nat_eq (key d p) (key e q) ∙ elim (cases_Bool (bytes_eq (item_at items d).name (item_at items e).name)) [
      | inl same ↦ eq-eqb _ _ (ap (key_in items) ((bytes_decides (item_at items d).name (item_at items e).name).0 same)) ∙ sym same
      | inr differ ↦ elim (cases_Bool (nat_eq (key_in items (item_at items d).name) (key_in items (item_at items e).name))) [
        | inr other ↦ other ∙ sym differ
        | inl equal ↦
            let k = eqb-true (key_in items (item_at items d).name) (key_in items (item_at items e).name) equal in
            absurd (true≢false (sym ((bytes_decides (item_at items d).name (item_at items e).name).1 ((keyed items d p).same ∙ ap (λ k. (item_at items k).name) k ∙ sym (keyed items e q).same)) ∙ differ))
      ]
    ]
