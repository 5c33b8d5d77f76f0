-- The content of a line is read as it is spelled.
use Rattle.std.proofs.Common.{◌≡◌, ℕ, true, false, eqb, cond, List, [], ◌∷◌, ◌++◌, length, Some, refl, sym, ap, subst, ◌∙◌, inl, inr, append_assoc}
use Rattle.std.specs.Prelude.{codes, None}
use Rattle.std.proofs.lemmas.Bool.{cases_Bool, eqb-true}
use Rattle.text_scan.specs.Fronts.{front_of, rest_of, stripped_of, StopsAt}
use Rattle.text_scan.specs.Steps.{◌>>=◌}
use Rattle.text_scan.proofs.FixedText.{stripped-append, stripped-None, stripped-Some}
use Rattle.text_scan.proofs.Fronts.{front-rest, front_passes, rest-append}
use Rattle.text_scan.proofs.Lists.{given}
use Rattle.text_scan.proofs.Steps.{bind_some, cases_option, guard_some}
use Rattle.yaml_block.specs.declared.content.Content.{Content}
use Rattle.yaml_block.specs.declared.content.Content.TheVariants.{Item, Key, Entry}
use Rattle.yaml_block.specs.declared.scalar.Place.TheVariants.{Line}
use Rattle.yaml_block.specs.declared.value.Value.{Value}
use Rattle.yaml_block.specs.Contents.{behind_key, content_at, entry_at, entry_with, item_at}
use Rattle.yaml_block.specs.Scalars.{scalar_at}
use Rattle.yaml_block.specs.Spaces.{ends, is_parted, is_space, starts}
use Rattle.yaml_block.specs.Values.{value_at}
use Rattle.patch_text.specs.Parts.{AreSpaces, IsEnd}
use Rattle.patch_text.specs.Scalars.{IsScalar}
use Rattle.patch_text.specs.Contents.{IsContent, IsKey, IsLastValue}
use Rattle.patch_text.proofs.Ends.{end_parted, ends_again, ends_take}
use Rattle.patch_text.proofs.Plain.{colon_stops, parted_space}
use Rattle.patch_text.proofs.Scalars.{Begins, scalar_again, scalar_begins, scalar_not_at, scalar_takes}
use Rattle.patch_text.proofs.Texts.{both_spaces, some_length}
use Rattle.patch_text.proofs.Values.{last_again, last_clear, last_takes, value_begins}

-- ---- what is read is spelled

item_takes : (text inside : List ℕ) (content : Content) → text ≡ codes "- " ++ inside → item_at inside ≡ Some content → IsContent content text
unfolding item_at
item_takes text inside content opens e =
    let one = bind_some (value_at (rest_of is_space inside)) (λ value. cond (ends value.1) (given (Item value.0)) None) content e in
    let end = guard_some (ends one.0.1) (Item one.0.0) content one.2 in
    let there : IsContent (Item one.0.0) text = (inside, opens, last_takes inside one.0.0 one.0.1 one.1 end.0) in
    subst (λ (c : Content). IsContent c text) end.1 there

space_at : (text : List ℕ) → starts 32 text ≡ true → (rest : List ℕ) × (text ≡ 32 ∷ rest)
unfolding starts
space_at [] e = absurd cc
space_at (byte ∷ rest) e = (rest, ap (λ (b : ℕ). b ∷ rest) (eqb-true byte 32 e))

past_space : (text : List ℕ) → rest_of is_space (32 ∷ text) ≡ rest_of is_space text
unfolding rest_of
past_space text = refl

with_takes : (text key rest : List ℕ) (content : Content) → IsKey key text rest → starts 32 rest ≡ true → entry_with key rest ≡ Some content → IsContent content text
unfolding entry_with
with_takes text key rest content is space e =
    let at = space_at rest space in
    let one = bind_some (value_at (rest_of is_space rest)) (λ value. cond (ends value.1) (given (Entry key value.0)) None) content e in
    let end = guard_some (ends one.0.1) (Entry key one.0.0) content one.2 in
    let read : value_at (rest_of is_space at.0) ≡ Some one.0 = ap value_at (sym (ap (rest_of is_space) at.1 ∙ past_space at.0)) ∙ one.1 in
    let there : IsContent (Entry key one.0.0) text = (at.0, subst (IsKey key text) at.1 is, last_takes at.0 one.0.0 one.0.1 read end.0) in
    subst (λ (c : Content). IsContent c text) end.1 there

behind_takes : (text key rest : List ℕ) (content : Content) → IsKey key text rest → behind_key key rest ≡ Some content → IsContent content text
unfolding behind_key
behind_takes text key rest content is e =
    elim (cases_Bool (ends rest)) [
      | inl end ↦
          let e' : given (Key key) ≡ given content = rw end at e in
          let there : IsContent (Key key) text = (rest, is, ends_take rest end) in
          subst (λ (c : Content). IsContent c text) (content_is (Key key) content e') there
      | inr more ↦ elim (cases_Bool (starts 32 rest)) [
        | inl space ↦ let e' : entry_with key rest ≡ Some content = rw (more, space) at e in with_takes text key rest content is space e'
        | inr other ↦ absurd (let e' : None ≡ given content = rw (more, other) at e in cc)
      ]
    ]
  where
    content_is : (x y : Content) → given x ≡ given y → x ≡ y
    content_is x y e = cc

entry_takes : (text : List ℕ) (content : Content) → StopsAt is_space text → entry_at text ≡ Some content → IsContent content text
unfolding entry_at
entry_takes text content clear e =
    let one = bind_some (scalar_at Line text) (λ key. stripped_of (codes ":") (rest_of is_space key.1) >>= λ rest. behind_key key.0 rest) content e in
    let two = bind_some (stripped_of (codes ":") (rest_of is_space one.0.1)) (λ rest. behind_key one.0.0 rest) content one.2 in
    let read = scalar_takes Line text one.0.0 one.0.1 clear one.1 in
    let front = front_of is_space one.0.1 in
    let apart : read.behind ++ one.0.1 ≡ (read.behind ++ front) ++ (codes ":" ++ two.0) =
    ap (λ (t : List ℕ). read.behind ++ t) (sym (front-rest is_space one.0.1) ∙ ap (λ (t : List ℕ). front ++ t) (stripped-Some (codes ":") (rest_of is_space one.0.1) two.0 two.1))
    ∙ sym (append_assoc read.behind front (codes ":" ++ two.0)) in
    let key : IsKey one.0.0 text two.0 = record {
      gap = read.behind ++ front;
      spaces = both_spaces read.behind front read.spaces (front_passes is_space one.0.1);
      key_there = subst (IsScalar Line one.0.0 text) apart read.scalar_there;
    } in
    behind_takes text one.0.0 two.0 content key two.2

pub content_takes : (text : List ℕ) (content : Content) → StopsAt is_space text → content_at text ≡ Some content → IsContent content text
unfolding content_at
content_takes text content clear e =
    elim (cases_option (stripped_of (codes "- ") text)) [
      | inr item ↦ let e' : item_at item.0 ≡ Some content = rw item.1 at e in item_takes text item.0 content (stripped-Some (codes "- ") text item.0 item.1) e'
      | inl none ↦ let e' : entry_at text ≡ Some content = rw none at e in entry_takes text content clear e'
    ]

-- ---- what is spelled is read

item_is : (inside : List ℕ) → content_at (45 ∷ 32 ∷ inside) ≡ item_at inside
unfolding content_at stripped_of
item_is inside = refl

item_again : (inside : List ℕ) (value : Value) → IsLastValue value inside → item_at inside ≡ Some (Item value)
unfolding item_at
item_again inside value last = let read = last_again inside value last in rw (read.1, read.2) refl

with_again : (key rest : List ℕ) (value : Value) → IsLastValue value rest → entry_with key (32 ∷ rest) ≡ Some (Entry key value)
unfolding entry_with
with_again key rest value last =
    let read = last_again rest value last in
    rw (past_space rest, read.1, read.2) refl

hash_not : (text : List ℕ) → Begins text → starts 35 text ≡ false
unfolding starts
hash_not text b = ap (λ (t : List ℕ). starts 35 t) b.whole ∙ b.no_hash

length_not : (text : List ℕ) → Begins text → eqb (length text) 0 ≡ false
length_not text b = ap (λ (t : List ℕ). eqb (length t) 0) b.whole ∙ some_length b.byte b.more

not_end : (rest inside : List ℕ) → rest_of is_space rest ≡ inside → Begins inside → ends (32 ∷ rest) ≡ false
unfolding ends starts
not_end rest inside is b = rw (past_space rest, is, length_not inside b) (hash_not inside b)

space_starts : (rest : List ℕ) → starts 32 (32 ∷ rest) ≡ true
unfolding starts
space_starts rest = refl

entry_there : (key rest : List ℕ) (value : Value) → IsLastValue value rest → behind_key key (32 ∷ rest) ≡ Some (Entry key value)
unfolding behind_key
entry_there key rest value last =
    rw (not_end rest last.inside (last_clear rest value last) (value_begins value last.inside last.rest last.value_there), space_starts rest) (with_again key rest value last)

key_there : (key rest : List ℕ) → IsEnd rest → behind_key key rest ≡ Some (Key key)
unfolding behind_key
key_there key rest end = rw (ends_again rest end) refl

entry_is : (text : List ℕ) → stripped_of (codes "- ") text ≡ None → content_at text ≡ entry_at text
unfolding content_at
entry_is text none = rw none refl

colon_clear : (text : List ℕ) → StopsAt is_space (58 ∷ text)
colon_clear text = refl

read_behind : (text key left rest : List ℕ) → AreSpaces left → scalar_at Line text ≡ Some (key, left ++ (58 ∷ rest)) → entry_at text ≡ behind_key key rest
unfolding entry_at
read_behind text key left rest spaces read =
    let clear : rest_of is_space (left ++ (58 ∷ rest)) ≡ 58 ∷ rest = rest-append is_space left (58 ∷ rest) spaces (colon_clear rest) in
    rw (read, clear, stripped-append (codes ":") rest) refl

keyed : (text key rest : List ℕ) → IsKey key text rest → is_parted rest ≡ true → content_at text ≡ behind_key key rest
keyed text key rest is parted =
    let read = scalar_again Line key text is.gap (codes ":" ++ rest) is.key_there is.spaces (colon_stops Line rest parted) in
    let no_item = stripped-None (codes "- ") text (λ after e. scalar_not_at Line key text (is.gap ++ (codes ":" ++ rest)) (32 ∷ after) 45 is.key_there refl refl refl e) in
    entry_is text no_item ∙ read_behind text key read.0 rest read.1 read.2

pub content_again : (text : List ℕ) (content : Content) → IsContent content text → content_at text ≡ Some content
content_again text (Item value) is = ap content_at is.1 ∙ item_is is.0 ∙ item_again is.0 value is.2
content_again text (Key key) is = keyed text key is.0 is.1 (end_parted is.0 is.2) ∙ key_there key is.0 is.2
content_again text (Entry key value) is = keyed text key (32 ∷ is.0) is.1 (parted_space is.0) ∙ entry_there key is.0 value is.2

-- ---- where a content begins

dash_begins : (text inside : List ℕ) → text ≡ codes "- " ++ inside → Begins text
dash_begins text inside opens = record { byte = 45; more = 32 ∷ inside; whole = opens; no_space = refl; no_hash = refl }

pub content_begins : (text : List ℕ) (content : Content) → IsContent content text → Begins text
content_begins text (Item value) is = dash_begins text is.0 is.1
content_begins text (Key key) is = scalar_begins Line key text (is.1.gap ++ (codes ":" ++ is.0)) is.1.key_there
content_begins text (Entry key value) is = scalar_begins Line key text (is.1.gap ++ (codes ":" ++ (codes " " ++ is.0))) is.1.key_there
