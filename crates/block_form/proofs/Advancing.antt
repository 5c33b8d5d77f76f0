-- A struct with one child more.
use Rattle.std.proofs.Common.{◌≡◌, ℕ, ◌+◌, ◌<◌, ◌≤◌, max, Bool, true, false, ◌||◌, List, [], ◌∷◌, ◌++◌, map, length, get_or, drop, drop-cons, Bor, refl, sym, ap, ap₂, ◌∙◌, subst, append_assoc, append-nil, add-one, arith, bytes_eq, if◌then◌else◌, nat_lt}
use Rattle.std.proofs.lemmas.List.{drop_all, map-append}
use Rattle.std.proofs.lemmas.List.Folds.{list_any-append}
use Rattle.std.proofs.lemmas.Slice.Eq.{bytes_eq-Decides}
use Rattle.std.specs.declared.hash.BuildHasherDefault.{BuildHasherDefault}
use Rattle.std.specs.declared.hash.FoldHasher.{FoldHasher}
use Rattle.std.specs.List.{list_any}
use Rattle.frag_tree.specs.declared.block.StructField.{StructField}
use Rattle.indexmap.specs.IndexSet.{IndexSet, insert_key}
use Rattle.block_form.specs.declared.child.Child.{Child}
use Rattle.block_form.specs.declared.placing.Placing.{Placing}
use Rattle.block_form.specs.Children.{child_end, field_of}
use Rattle.block_form.specs.Fields.{becomes_field, end_from, fields_from, greatest_align, taken_from}
use Rattle.block_form.specs.Forms.{is_named}
use Rattle.block_form.specs.Gaps.{gap_before, gaps_behind}
use Rattle.block_form.specs.Placings.{IsPart, IsWhole, Takes, has_name}

or_false : (b : Bool) → (b || false) ≡ b
or_false true = refl
or_false false = refl

or_assoc : (a b c : Bool) → ((a || b) || c) ≡ (a || (b || c))
or_assoc true b c = refl
or_assoc false b c = refl

-- where none stands yet
pub first_part : (all : List Child) (fields : List StructField) (names : IndexSet (Bor (List ℕ)) (BuildHasherDefault FoldHasher)) → fields ≡ [] → names.keys ≡ []
    → IsPart (record { end = 0; align = 1; gaps = 0; fields = fields; names = names }) all all
unfolding greatest_align
first_part all fields names no_fields no_names = record {
  fields = ap (λ l. l ++ fields_from 0 0 all) no_fields;
  end = refl;
  some = omega arith;
  align = let one = at_least_one all in omega arith;
  names = λ name. ap (λ (keys : List (Bor (List ℕ))). list_any (bytes_eq name) (map (λ (taken : Bor (List ℕ)). taken.now) keys) || is_named name all) no_names;
}
  where
    at_least_one : (all : List Child) → 1 ≤ greatest_align all
    at_least_one [] = omega arith
    at_least_one (child ∷ others) = let more = at_least_one others in omega arith

-- what is left behind a child that is taken, or passed over
pub advance : (all others : List Child) (child : Child) (old new : Placing) → Takes (becomes_field old.end child) old new child
    → IsPart old (taken_from old.end (child ∷ others)) all → IsPart new (taken_from new.end others) all
unfolding taken_from fields_from end_from greatest_align
advance all others child old new takes part = by (becomes_field old.end child) takes part
  where
    by : (b : Bool) → Takes b old new child → IsPart old (if b then child ∷ taken_from (child_end child) others else taken_from old.end others) all → IsPart new (taken_from new.end others) all
    by false same part = subst (λ (placing : Placing). IsPart placing (taken_from placing.end others) all) (sym same) part
    by true puts part =
        let left = taken_from (child_end child) others in
        let front = gap_before old.end old.gaps child in
        let rest = fields_from (child_end child) (gaps_behind old.end old.gaps child) left in
        record {
          fields =
              (λ i. puts.fields i ++ fields_from (puts.end i) (puts.gaps i) (taken_from (puts.end i) others))
              ∙ (append_assoc old.fields (front ++ field_of child ∷ []) rest
              ∙ (ap (λ l. old.fields ++ l) (append_assoc front (field_of child ∷ []) rest)
              ∙ part.fields));
          end = (λ i. end_from (puts.end i) (taken_from (puts.end i) others)) ∙ part.end;
          some = let is = puts.align in let one = part.some in omega arith;
          align =
              let here : max (max child.align old.align) (greatest_align left) ≡ max old.align (max child.align (greatest_align left)) = omega arith in
              (λ i. max (puts.align i) (greatest_align (taken_from (puts.end i) others))) ∙ (here ∙ part.align);
          names =
              λ name.
              (λ i. puts.names name i || is_named name (taken_from (puts.end i) others))
              ∙ (or_assoc (has_name name old) (bytes_eq name child.name) (is_named name left)
              ∙ part.names name);
        }

-- no more gaps than children
pub few_more : (gone : ℕ) (child : Child) (old new : Placing) → Takes (becomes_field old.end child) old new child → old.gaps ≤ gone → new.gaps ≤ gone + 1
few_more gone child old new takes few = by (becomes_field old.end child) takes
  where
    one_more : (d : Bool) → new.gaps ≡ (if d then old.gaps + 1 else old.gaps) → new.gaps ≤ gone + 1
    one_more true e = omega arith
    one_more false e = omega arith

    by : (b : Bool) → Takes b old new child → new.gaps ≤ gone + 1
    by true puts = one_more (nat_lt old.end child.offset) puts.gaps
    by false same = let e : new.gaps ≡ old.gaps = ap (λ (placing : Placing). placing.gaps) same in omega arith

-- where no child is left
pub whole : (placing : Placing) (all : List Child) → IsPart placing (taken_from placing.end []) all → IsWhole placing all
unfolding taken_from fields_from end_from greatest_align
whole placing all part = record {
  fields = sym (append-nil placing.fields) ∙ part.fields;
  end = part.end;
  align = let last : max placing.align 1 ≡ greatest_align all = part.align in let one = part.some in omega arith;
  names = λ name. sym (or_false (has_name name placing)) ∙ part.names name;
}

-- the children from a place on
pub from_here : (xs : List (Bor Child)) (i : ℕ) (x : Bor Child) → i < length xs → x ≡ get_or xs i x → map (λ entry. entry.now) (drop i xs) ≡ x.now ∷ map (λ entry. entry.now) (drop (i + 1) xs)
from_here xs i x within is = ap (map (λ entry. entry.now)) (drop-cons xs i x within ∙ ap₂ (λ y n. y ∷ drop n xs) (sym is) (sym (add-one i)))

pub none_left : (xs : List (Bor Child)) (i : ℕ) → length xs ≤ i → map (λ entry. entry.now) (drop i xs) ≡ []
none_left xs i past = ap (map (λ entry. entry.now)) (drop_all i xs past)

-- ---- names that are kept

abbrev name_now : Bor (List ℕ) → List ℕ
name_now name = name.now

pub any-names : (name : List ℕ) (keys : List (Bor (List ℕ))) → list_any (bytes_eq name) (map name_now keys) ≡ list_any (λ key. bytes_eq name key.now) keys
any-names name [] = refl
any-names name (key ∷ keys) = ap (λ b. bytes_eq name key.now || b) (any-names name keys)

-- one name more
pub more_names : (keys : List (Bor (List ℕ))) (kept : Bor (List ℕ)) (name : List ℕ)
    → list_any (bytes_eq name) (map name_now (insert_key (λ one other. bytes_eq one.now other.now) keys kept)) ≡ (list_any (bytes_eq name) (map name_now keys) || bytes_eq name kept.now)
more_names keys kept name = by (list_any (λ other. bytes_eq kept.now other.now) keys) refl
  where
    again : (b : Bool) → bytes_eq name kept.now ≡ b → list_any (λ other. bytes_eq kept.now other.now) keys ≡ true → list_any (bytes_eq name) (map name_now keys) ≡ (list_any (bytes_eq name) (map name_now keys) || b)
    again false e there = sym (or_false (list_any (bytes_eq name) (map name_now keys)))
    again true e there =
        let is : list_any (bytes_eq name) (map name_now keys) ≡ true =
        ap (λ other. list_any (bytes_eq other) (map name_now keys)) ((bytes_eq-Decides name kept.now).0 e) ∙ (any-names kept.now keys ∙ there) in
        rw is refl

    by : (b : Bool) → list_any (λ other. bytes_eq kept.now other.now) keys ≡ b → list_any (bytes_eq name) (map name_now (if b then keys else keys ++ kept ∷ [])) ≡ (list_any (bytes_eq name) (map name_now keys) || bytes_eq name kept.now)
    by true e = again (bytes_eq name kept.now) refl e
    by false e =
        ap (list_any (bytes_eq name)) (map-append name_now keys (kept ∷ []))
        ∙ (list_any-append (bytes_eq name) (map name_now keys) (kept.now ∷ [])
        ∙ ap (λ b. list_any (bytes_eq name) (map name_now keys) || b) (or_false (bytes_eq name kept.now)))
