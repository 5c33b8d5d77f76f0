-- What the reader on lists gives is what the text says.
use Rattle.std.proofs.Common.{◌≡◌, ℕ, ◌<◌, length, Bool, true, List, Option, Some, None, Result, Ok, Err, refl, sym, ap, ◌∙◌}
use Rattle.std.specs.Prelude.{IfOk, IsErrOf, MatchResult, MatchOption, option_map}
use Rattle.std.specs.Borrow.{Bor}
use Rattle.text_scan.specs.Lists.{items_at}
use Rattle.text_scan.proofs.Lists.{Shrinks, with_front, breaks_off}
use Rattle.text_scan.proofs.Steps.{some_is}
use Rattle.xml_text.specs.declared.fault.XmlFault.{XmlFault}
use Rattle.xml_text.specs.declared.fault.XmlFault.TheVariants.{Syntax, Memory}
use Rattle.xml_text.specs.declared.part.Part.{Part}
use Rattle.xml_text.specs.Parts.{XmlPart, IsPart}
use Rattle.xml_text.specs.Opening.{IsOpening}
use Rattle.xml_text.specs.Views.{part_of}
use Rattle.xml_text.specs.Reading.{Fails, Gives, part_at, opening_at}
use Rattle.xml_text.proofs.Lengths.{IsPart-length}
use Rattle.xml_text.proofs.Parts.{part_takes, part_again}
use Rattle.xml_text.proofs.Openings.{opening_takes, opening_again}

-- a fault at one item is the fault of the list
pub breaks : {X : Type 0} (begins : List ℕ → Bool) (item_at : List ℕ → Option (X × List ℕ)) → Shrinks item_at → (fault : XmlFault) (front : List X) (text : List ℕ) (total : Option (List X × List ℕ))
    → begins text ≡ true → Fails fault (item_at text) → with_front front (items_at begins item_at text) ≡ total → Fails fault total
breaks begins item_at shrinks Syntax front text total starts none so_far = breaks_off begins item_at shrinks front text total starts none so_far
breaks begins item_at shrinks Memory front text total starts none so_far = tt

pub is_spelled : (text : List ℕ) (result : Result (Part × Bor (List ℕ)) XmlFault) → Gives (λ x. (part_of x.0, x.1.now)) result (part_at text) → IfOk result (λ x. IsPart (part_of x.0) text x.1.now)
is_spelled text (Ok x) given = part_takes text (part_of x.0) x.1.now given
is_spelled text (Err fault) given = tt

pub is_shorter : (text : List ℕ) (result : Result (Part × Bor (List ℕ)) XmlFault) → Gives (λ x. (part_of x.0, x.1.now)) result (part_at text) → IfOk result (λ x. length x.1.now < length text)
is_shorter text (Ok x) given = IsPart-length (part_of x.0) text x.1.now (part_takes text (part_of x.0) x.1.now given)
is_shorter text (Err fault) given = tt

pub is_refused : (text : List ℕ) (result : Result (Part × Bor (List ℕ)) XmlFault) → Gives (λ x. (part_of x.0, x.1.now)) result (part_at text) → IsErrOf result Syntax
    → (part : XmlPart) (rest : List ℕ) → IsPart part text rest → ⊥
is_refused text (Ok x) given refused part rest is = absurd cc
is_refused text (Err Syntax) given refused part rest is = let e = sym given ∙ part_again part text rest is in cc
is_refused text (Err Memory) given refused part rest is = absurd cc

pub is_found : (text : List ℕ) (result : Result (Part × Bor (List ℕ)) XmlFault) → Gives (λ x. (part_of x.0, x.1.now)) result (part_at text)
    → (part : XmlPart) (rest : List ℕ) → IsPart part text rest → MatchResult result (λ x. (part_of x.0 ≡ part) × (x.1.now ≡ rest)) (λ fault. fault ≡ Memory)
is_found text (Ok x) given part rest is =
    let same = some_is (part_of x.0, x.1.now) (part, rest) (sym given ∙ part_again part text rest is) in
    (ap (λ (p : XmlPart × List ℕ). p.0) same, ap (λ (p : XmlPart × List ℕ). p.1) same)
is_found text (Err Syntax) given part rest is = let e = sym given ∙ part_again part text rest is in absurd cc
is_found text (Err Memory) given part rest is = refl

pub is_opening : (text : List ℕ) (result : Option (Bor (List ℕ))) → option_map (λ x. x.now) result ≡ opening_at text
    → MatchOption result ((rest : List ℕ) → IsOpening text rest → ⊥) (λ behind. IsOpening text behind.now)
is_opening text None given = λ rest is. let e : None ≡ Some rest = given ∙ opening_again text rest is in absurd cc
is_opening text (Some behind) given = opening_takes text behind.now (sym given)

pub one_opening : (text one other : List ℕ) → IsOpening text one → IsOpening text other → one ≡ other
one_opening text one other is also = some_is one other (sym (opening_again text one is) ∙ opening_again text other also)
