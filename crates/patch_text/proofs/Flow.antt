-- Flow collections are read as they are spelled: members with commas between them, and the mark that closes.
use Rattle.std.proofs.Common.{◌≡◌, ℕ, true, false, eqb, List, [], ◌∷◌, ◌++◌, Option, Some, refl, sym, ap, subst, ◌∙◌, inl, inr, append_assoc}
use Rattle.std.specs.Prelude.{codes, None}
use Rattle.text_scan.specs.Fronts.{front_of, rest_of, stripped_of, StopsAt}
use Rattle.text_scan.specs.Lists.{ReadsAll, items_at}
use Rattle.text_scan.specs.Steps.{◌>>=◌}
use Rattle.text_scan.proofs.FixedText.{stripped-append, stripped-None, stripped-Some}
use Rattle.text_scan.proofs.Fronts.{front-rest, front_passes, rest_stops, rest-append}
use Rattle.text_scan.proofs.Lists.{Shrinks, given, items_again, items_take}
use Rattle.text_scan.proofs.Steps.{bind_some, cases_option, some_is}
use Rattle.yaml_block.specs.declared.scalar.Place.TheVariants.{Flow}
use Rattle.yaml_block.specs.Scalars.{is_plain, plain_at, plain_front, scalar_at, stops}
use Rattle.yaml_block.specs.Spaces.{is_parted, is_space, starts, trimmed}
use Rattle.yaml_block.specs.Values.{mapping_at, mapping_or_none, next_pair_at, next_text_at, pair_at, pairs_at, sequence_at, sequence_or_none, text_at, texts_at}
use Rattle.yaml_block.proofs.Shrinking.{next_pair_shrinks, next_text_shrinks}
use Rattle.patch_text.specs.Scalars.{IsScalar}
use Rattle.patch_text.specs.FlowCollections.{AreMembers, IsFlowList, IsFlowMapping, IsMember, IsNext, IsPair}
use Rattle.patch_text.proofs.Plain.{colon_stops}
use Rattle.patch_text.proofs.Scalars.{begins_clear, scalar_again, scalar_begins, scalar_takes}
use Rattle.patch_text.proofs.Texts.{both_spaces}

-- a scalar goes on into no such text, and neither do the spaces behind it
abbrev IsStop : List ℕ → Type 0
IsStop text = (stops Flow text ≡ true) × StopsAt is_space text

-- ---- a member of a list, and one of a mapping

member_takes : (text scalar rest : List ℕ) → text_at (rest_of is_space text) ≡ Some (scalar, rest) → IsMember scalar text rest
unfolding text_at
member_takes text scalar rest e =
    let one = bind_some (scalar_at Flow (rest_of is_space text)) (λ s. given (s.0, rest_of is_space s.1)) (scalar, rest) e in
    let read = scalar_takes Flow (rest_of is_space text) one.0.0 one.0.1 (rest_stops is_space text) one.1 in
    let apart : read.behind ++ one.0.1 ≡ (read.behind ++ front_of is_space one.0.1) ++ rest_of is_space one.0.1 =
    ap (λ (t : List ℕ). read.behind ++ t) (sym (front-rest is_space one.0.1)) ∙ sym (append_assoc read.behind (front_of is_space one.0.1) (rest_of is_space one.0.1)) in
    let member : IsMember one.0.0 text (rest_of is_space one.0.1) = record {
      before = front_of is_space text;
      inside = rest_of is_space text;
      behind = read.behind ++ front_of is_space one.0.1;
      before_spaces = front_passes is_space text;
      behind_spaces = both_spaces read.behind (front_of is_space one.0.1) read.spaces (front_passes is_space one.0.1);
      opens = sym (front-rest is_space text);
      scalar_there = subst (IsScalar Flow one.0.0 (rest_of is_space text)) apart read.scalar_there;
    } in
    subst (λ (p : List ℕ × List ℕ). IsMember p.0 text p.1) (some_is (one.0.0, rest_of is_space one.0.1) (scalar, rest) one.2) member

text_is : (text : List ℕ) (scalar left : List ℕ) → scalar_at Flow text ≡ Some (scalar, left) → text_at text ≡ Some (scalar, rest_of is_space left)
unfolding text_at
text_is text scalar left e = rw e refl

member_again : (scalar text rest : List ℕ) → IsMember scalar text rest → IsStop rest → text_at (rest_of is_space text) ≡ Some (scalar, rest)
member_again scalar text rest m stop =
    let read = scalar_again Flow scalar m.inside m.behind rest m.scalar_there m.behind_spaces stop.0 in
    let clear : rest_of is_space text ≡ m.inside =
    ap (rest_of is_space) m.opens ∙ rest-append is_space m.before m.inside m.before_spaces (begins_clear m.inside (scalar_begins Flow scalar m.inside (m.behind ++ rest) m.scalar_there)) in
    ap text_at clear ∙ text_is m.inside scalar (read.0 ++ rest) read.2 ∙ ap (λ (t : List ℕ). given (scalar, t)) (rest-append is_space read.0 rest read.1 stop.1)

abbrev Pair : Type 0
Pair = List ℕ × List ℕ

pair_takes : (text : List ℕ) (pair : Pair) (rest : List ℕ) → pair_at (rest_of is_space text) ≡ Some (pair, rest) → IsPair pair text rest
unfolding pair_at
pair_takes text pair rest e =
    let one = bind_some (text_at (rest_of is_space text)) (λ key. stripped_of (codes ": ") key.1 >>= λ r. text_at (rest_of is_space r) >>= λ value. given ((key.0, value.0), value.1)) (pair, rest) e in
    let two = bind_some (stripped_of (codes ": ") one.0.1) (λ r. text_at (rest_of is_space r) >>= λ value. given ((one.0.0, value.0), value.1)) (pair, rest) one.2 in
    let three = bind_some (text_at (rest_of is_space two.0)) (λ value. given ((one.0.0, value.0), value.1)) (pair, rest) two.2 in
    let read : IsPair (one.0.0, three.0.0) text three.0.1 = (
      two.0,
      subst (IsMember one.0.0 text) (stripped-Some (codes ": ") one.0.1 two.0 two.1) (member_takes text one.0.0 one.0.1 one.1),
      member_takes two.0 three.0.0 three.0.1 three.1,
    ) in
    subst (λ (p : Pair × List ℕ). IsPair p.0 text p.1) (some_is ((one.0.0, three.0.0), three.0.1) (pair, rest) three.2) read

entry_stops : (text : List ℕ) → IsStop (58 ∷ 32 ∷ text)
unfolding is_parted
entry_stops text = (colon_stops Flow (32 ∷ text) refl, refl)

pair_again : (text : List ℕ) (pair : Pair) (rest : List ℕ) → IsPair pair text rest → IsStop rest → pair_at (rest_of is_space text) ≡ Some (pair, rest)
unfolding pair_at
pair_again text pair rest p stop =
    rw (member_again pair.0 text (codes ": " ++ p.0) p.1 (entry_stops p.0), stripped-append (codes ": ") p.0, member_again pair.1 p.0 rest p.2 stop) refl

-- ---- members with commas between them

comma_stops : (text : List ℕ) → IsStop (44 ∷ text)
unfolding stops
comma_stops text = (refl, refl)

comma_starts : (text : List ℕ) → starts 44 (44 ∷ text) ≡ true
unfolding starts
comma_starts text = refl

module _ {X : Type 0} (read : List ℕ → Option (X × List ℕ)) (next : List ℕ → Option (X × List ℕ)) (Is : X → List ℕ → List ℕ → Type 0)
    (next_is : (text : List ℕ) → next text ≡ (stripped_of (codes ",") text >>= λ rest. read (rest_of is_space rest)))
    (takes : (text : List ℕ) (x : X) (rest : List ℕ) → read (rest_of is_space text) ≡ Some (x, rest) → Is x text rest)
    (again : (text : List ℕ) (x : X) (rest : List ℕ) → Is x text rest → IsStop rest → read (rest_of is_space text) ≡ Some (x, rest))
    (shrinks : Shrinks next) where
  next_takes : (text : List ℕ) (x : X) (rest : List ℕ) → next text ≡ Some (x, rest) → IsNext Is x text rest
  next_takes text x rest e =
      let one = bind_some (stripped_of (codes ",") text) (λ r. read (rest_of is_space r)) (x, rest) (sym (next_is text) ∙ e) in
      (one.0, stripped-Some (codes ",") text one.0 one.1, takes one.0 x rest one.2)

  -- a comma and a member that ends where it is to end
  abbrev IsClosed : X → List ℕ → List ℕ → Type 0
  IsClosed x text rest = IsNext Is x text rest × IsStop rest

  next_again : (x : X) (text rest : List ℕ) → IsClosed x text rest → next text ≡ Some (x, rest)
  next_again x text rest c =
      let behind : stripped_of (codes ",") text ≡ Some c.0.0 = ap (stripped_of (codes ",")) c.0.1 ∙ stripped-append (codes ",") c.0.0 in
      next_is text ∙ ap (λ (o : Option (List ℕ)). o >>= λ r. read (rest_of is_space r)) behind ∙ again c.0.0 x rest c.0.2 c.1

  next_starts : (x : X) (text rest : List ℕ) → IsClosed x text rest → starts 44 text ≡ true
  next_starts x text rest c = ap (starts 44) c.0.1 ∙ comma_starts c.0.0

  stop_between : (xs : List X) (text rest : List ℕ) → ReadsAll (IsNext Is) xs text rest → IsStop rest → IsStop text
  stop_between [] text rest same stop = subst IsStop (sym same) stop
  stop_between (x ∷ xs) text rest all stop = subst IsStop (sym all.1.1) (comma_stops all.1.0)

  closed : (xs : List X) (text rest : List ℕ) → ReadsAll (IsNext Is) xs text rest → IsStop rest → ReadsAll IsClosed xs text rest
  closed [] text rest same stop = same
  closed (x ∷ xs) text rest all stop = (all.0, (all.1, stop_between xs all.0 rest all.2 stop), closed xs all.0 rest all.2 stop)

  -- the reader of a collection behind the mark that opens it
  abbrev listed : ℕ → List ℕ → Option (List X × List ℕ)
  listed closing text =
      read text >>= λ first. items_at (starts 44) next first.1 >>= λ others. stripped_of (closing ∷ []) others.1 >>= λ rest. Some (first.0 ∷ others.0, rest)

  abbrev none_or_listed : ℕ → Option (List ℕ) → List ℕ → Option (List X × List ℕ)
  none_or_listed closing (Some rest) text = Some ([], rest)
  none_or_listed closing None text = listed closing text

  abbrev collection : ℕ → List ℕ → Option (List X × List ℕ)
  collection closing text = none_or_listed closing (stripped_of (closing ∷ []) (rest_of is_space text)) (rest_of is_space text)

  module _ (closing : ℕ) (closes : (text : List ℕ) → IsStop (closing ∷ text)) (no_comma : eqb closing 44 ≡ false) (none_there : (text : List ℕ) → read (closing ∷ text) ≡ None) where
    collection_takes : (text : List ℕ) (xs : List X) (rest : List ℕ) → collection closing text ≡ Some (xs, rest) → AreMembers Is xs text (closing ∷ rest)
    collection_takes text xs rest e =
        elim (cases_option (stripped_of (closing ∷ []) (rest_of is_space text))) [
          | inr some ↦
              let e' : given ([], some.0) ≡ given (xs, rest) = rw some.1 at e in
              let gap : AreMembers Is [] text (closing ∷ some.0) =
              (front_of is_space text, front_passes is_space text, sym (front-rest is_space text) ∙ ap (λ (t : List ℕ). front_of is_space text ++ t) (stripped-Some (closing ∷ []) (rest_of is_space text) some.0 some.1)) in
              subst (λ (p : List X × List ℕ). AreMembers Is p.0 text (closing ∷ p.1)) (some_is ([], some.0) (xs, rest) e') gap
          | inl none ↦
              let e' : listed closing (rest_of is_space text) ≡ Some (xs, rest) = rw none at e in
              let one = bind_some (read (rest_of is_space text)) (λ first. items_at (starts 44) next first.1 >>= λ others. stripped_of (closing ∷ []) others.1 >>= λ r. Some (first.0 ∷ others.0, r)) (xs, rest) e' in
              let two = bind_some (items_at (starts 44) next one.0.1) (λ others. stripped_of (closing ∷ []) others.1 >>= λ r. Some (one.0.0 ∷ others.0, r)) (xs, rest) one.2 in
              let three = bind_some (stripped_of (closing ∷ []) two.0.1) (λ r. given (one.0.0 ∷ two.0.0, r)) (xs, rest) two.2 in
              let members : AreMembers Is (one.0.0 ∷ two.0.0) text (closing ∷ three.0) = (
                one.0.1,
                takes text one.0.0 one.0.1 one.1,
                subst (ReadsAll (IsNext Is) two.0.0 one.0.1) (stripped-Some (closing ∷ []) two.0.1 three.0 three.1) (items_take (starts 44) next (IsNext Is) next_takes one.0.1 two.0.0 two.0.1 two.1),
              ) in
              subst (λ (p : List X × List ℕ). AreMembers Is p.0 text (closing ∷ p.1)) (some_is (one.0.0 ∷ two.0.0, three.0) (xs, rest) three.2) members
        ]

    closing_starts : (text : List ℕ) → starts 44 (closing ∷ text) ≡ false
    unfolding starts
    closing_starts text = no_comma

    not_closed : (text : List ℕ) (x : X) (rest : List ℕ) → read text ≡ Some (x, rest) → stripped_of (closing ∷ []) text ≡ None
    not_closed text x rest e = stripped-None (closing ∷ []) text (λ after is. let none : None ≡ given (x, rest) = sym (none_there after) ∙ ap read (sym is) ∙ e in cc)

    collection_again : (text : List ℕ) (xs : List X) (rest : List ℕ) → AreMembers Is xs text (closing ∷ rest) → collection closing text ≡ Some (xs, rest)
    collection_again text [] rest m =
        let clear : rest_of is_space text ≡ closing ∷ rest = ap (rest_of is_space) m.2 ∙ rest-append is_space m.0 (closing ∷ rest) m.1 (closes rest).1 in
        let there : stripped_of (closing ∷ []) (rest_of is_space text) ≡ Some rest = ap (stripped_of (closing ∷ [])) clear ∙ stripped-append (closing ∷ []) rest in
        ap (λ (o : Option (List ℕ)). none_or_listed closing o (rest_of is_space text)) there
    collection_again text (x ∷ xs) rest m =
        let first = again text x m.0 m.1 (stop_between xs m.0 (closing ∷ rest) m.2 (closes rest)) in
        let others : items_at (starts 44) next m.0 ≡ Some (xs, closing ∷ rest) =
        items_again (starts 44) next IsClosed shrinks next_starts next_again xs m.0 (closing ∷ rest) (closed xs m.0 (closing ∷ rest) m.2 (closes rest)) (closing_starts rest) in
        let whole : listed closing (rest_of is_space text) ≡ Some (x ∷ xs, rest) = rw (first, others, stripped-append (closing ∷ []) rest) refl in
        ap (λ (o : Option (List ℕ)). none_or_listed closing o (rest_of is_space text)) (not_closed (rest_of is_space text) x m.0 first) ∙ whole

-- ---- lists

next_text_is : (text : List ℕ) → next_text_at text ≡ (stripped_of (codes ",") text >>= λ rest. text_at (rest_of is_space rest))
unfolding next_text_at
next_text_is text = refl

bracket_stops : (text : List ℕ) → IsStop (93 ∷ text)
unfolding stops
bracket_stops text = (refl, refl)

bracket_no_text : (text : List ℕ) → text_at (93 ∷ text) ≡ None
unfolding text_at scalar_at stripped_of plain_at plain_front stops trimmed rest_of is_plain
bracket_no_text text = refl

list_is : (o : Option (List ℕ)) (text : List ℕ) → sequence_or_none o text ≡ none_or_listed text_at next_text_at IsMember next_text_is member_takes (λ t s r. member_again s t r) next_text_shrinks 93 o text
unfolding texts_at
list_is (Some rest) text = refl
list_is None text = refl

sequence_is : (text : List ℕ) → sequence_at text ≡ collection text_at next_text_at IsMember next_text_is member_takes (λ t s r. member_again s t r) next_text_shrinks 93 text
unfolding sequence_at
sequence_is text = list_is (stripped_of (codes "]") (rest_of is_space text)) (rest_of is_space text)

pub list_takes : (text : List ℕ) (scalars : List (List ℕ)) (rest : List ℕ) → sequence_at text ≡ Some (scalars, rest) → IsFlowList scalars text rest
list_takes text scalars rest e =
    collection_takes text_at next_text_at IsMember next_text_is member_takes (λ t s r. member_again s t r) next_text_shrinks 93 bracket_stops refl bracket_no_text text scalars rest (sym (sequence_is text) ∙ e)

pub list_again : (text : List ℕ) (scalars : List (List ℕ)) (rest : List ℕ) → IsFlowList scalars text rest → sequence_at text ≡ Some (scalars, rest)
list_again text scalars rest m =
    sequence_is text ∙ collection_again text_at next_text_at IsMember next_text_is member_takes (λ t s r. member_again s t r) next_text_shrinks 93 bracket_stops refl bracket_no_text text scalars rest m

-- ---- mappings

next_pair_is : (text : List ℕ) → next_pair_at text ≡ (stripped_of (codes ",") text >>= λ rest. pair_at (rest_of is_space rest))
unfolding next_pair_at
next_pair_is text = refl

brace_stops : (text : List ℕ) → IsStop (125 ∷ text)
unfolding stops
brace_stops text = (refl, refl)

brace_no_pair : (text : List ℕ) → pair_at (125 ∷ text) ≡ None
unfolding pair_at text_at scalar_at stripped_of plain_at plain_front stops trimmed rest_of is_plain
brace_no_pair text = refl

pairs_are : (o : Option (List ℕ)) (text : List ℕ) → mapping_or_none o text ≡ none_or_listed pair_at next_pair_at IsPair next_pair_is pair_takes pair_again next_pair_shrinks 125 o text
unfolding pairs_at
pairs_are (Some rest) text = refl
pairs_are None text = refl

mapping_is : (text : List ℕ) → mapping_at text ≡ collection pair_at next_pair_at IsPair next_pair_is pair_takes pair_again next_pair_shrinks 125 text
unfolding mapping_at
mapping_is text = pairs_are (stripped_of (codes "}") (rest_of is_space text)) (rest_of is_space text)

pub mapping_takes : (text : List ℕ) (pairs : List (List ℕ × List ℕ)) (rest : List ℕ) → mapping_at text ≡ Some (pairs, rest) → IsFlowMapping pairs text rest
mapping_takes text pairs rest e =
    collection_takes pair_at next_pair_at IsPair next_pair_is pair_takes pair_again next_pair_shrinks 125 brace_stops refl brace_no_pair text pairs rest (sym (mapping_is text) ∙ e)

pub mapping_again : (text : List ℕ) (pairs : List (List ℕ × List ℕ)) (rest : List ℕ) → IsFlowMapping pairs text rest → mapping_at text ≡ Some (pairs, rest)
mapping_again text pairs rest m =
    mapping_is text ∙ collection_again pair_at next_pair_at IsPair next_pair_is pair_takes pair_again next_pair_shrinks 125 brace_stops refl brace_no_pair text pairs rest m
