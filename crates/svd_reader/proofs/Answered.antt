-- That the answer to a text is the one that is given.
use Rattle.std.proofs.Common.{◌≡◌, ℕ, Bool, true, false, nat_le, List, Option, Some, None, Result, Ok, Err, IfOk, IfErr, refl, sym, ap, ◌∙◌, subst, if◌then◌else◌}
use Rattle.svd_schema.specs.declared.container.Container.TheVariants.{Device}
use Rattle.svd_text.specs.declared.element.Element.{Element}
use Rattle.svd_text.specs.declared.fault.TextFault.{TextFault}
use Rattle.svd_text.specs.declared.fault.TextFault.TheVariants as text
use Rattle.svd_text.specs.Answers.{IsRead, IsTooDeep, SpellNone, SyntaxSays, TooDeepSays, Answers as TextAnswers}
use Rattle.svd_text.specs.ElementText.{Text, Spells}
use Rattle.svd_text.specs.Nesting.{first_too_deep}
use Rattle.svd_text.specs.TextElements.{elements_of}
use Rattle.svd_model.specs.Facts.{element_limit, is_counted}
use Rattle.svd_model.specs.Keys.{Key}
use Rattle.svd_model.specs.Steps.{Step}
use Rattle.svd_rows.specs.Elements.{count}
use Rattle.svd_rows.specs.Rows.{Row, rows}
use Rattle.svd_keys.specs.Children.{Tree}
use Rattle.svd_keys.specs.Earliest.{least}
use Rattle.svd_keys.specs.declared.fault.PlacedFault.{PlacedFault}
use Rattle.svd_reader.specs.declared.fault.SvdFault.{SvdFault}
use Rattle.svd_reader.specs.declared.fault.SvdFault.TheVariants.{Syntax, TooDeep, UnknownElement, DoubleElement, DoubleName, BadValue, MissingElement, TooMany, Memory}
use Rattle.svd_reader.specs.DescribedTree.{RowTree, described_tree}
use Rattle.svd_reader.specs.Described.{Answer, no_text, too_deep, at_fault, too_many, described, HasAnswer, counted, unless_fault, unless_deep, answer_in, answer_of}
use Rattle.svd_reader.specs.Faults.{faults_of}
use Rattle.svd_reader.specs.Refusals.{Tells, OrMemory, Refuses, Given, Shows}

-- this is the answer to the bytes, whichever text they spell
pub record Answers (bytes : List ℕ) (answer : Answer) : Type 0 where
  pub some : HasAnswer bytes answer
  pub all : (text : Text) → Spells bytes text → answer_of text ≡ answer

counted-some : (b : Bool) (r : List (Row Step Key)) (n : ℕ) → (if b then described r else too_many n) ≡ no_text → ⊥
counted-some true r n is = cc
counted-some false r n is = cc

unless_fault-some : (fault : Option PlacedFault) (tree : RowTree) → unless_fault fault (counted tree) ≡ no_text → ⊥
unfolding counted
unless_fault-some (Some fault) tree is = cc
unless_fault-some None tree is = counted-some (nat_le (count is_counted tree.below) element_limit) (rows tree) (count is_counted tree.below) is

unless_deep-some : (deep : Option (ℕ × ℕ)) (tree : Tree) → unless_deep deep (answer_in tree) ≡ no_text → ⊥
unfolding answer_in
unless_deep-some (Some name) tree is = cc
unless_deep-some None tree is = unless_fault-some (least (faults_of Device tree)) (described_tree tree) is

-- a text that is spelled has an answer
spelled-answer : (bytes : List ℕ) (text : Text) (answer : Answer) → Spells bytes text → answer_of text ≡ answer → HasAnswer bytes answer
unfolding answer_of
spelled-answer bytes text no_text spells is = absurd (unless_deep-some (first_too_deep text) (elements_of text) is)
spelled-answer bytes text (too_deep name) spells is = (text, spells, is)
spelled-answer bytes text (at_fault fault) spells is = (text, spells, is)
spelled-answer bytes text (too_many n) spells is = (text, spells, is)
spelled-answer bytes text (described r) spells is = (text, spells, is)

same_answer : (bytes : List ℕ) (answer other : Answer) → Answers bytes answer → HasAnswer bytes other → other ≡ answer
same_answer bytes no_text no_text is d = refl
same_answer bytes (too_deep name) no_text is d = absurd (d is.some.0 is.some.1)
same_answer bytes (at_fault fault) no_text is d = absurd (d is.some.0 is.some.1)
same_answer bytes (too_many n) no_text is d = absurd (d is.some.0 is.some.1)
same_answer bytes (described r) no_text is d = absurd (d is.some.0 is.some.1)
same_answer bytes answer (too_deep name) is d = sym d.2 ∙ is.all d.0 d.1
same_answer bytes answer (at_fault fault) is d = sym d.2 ∙ is.all d.0 d.1
same_answer bytes answer (too_many n) is d = sym d.2 ∙ is.all d.0 d.1
same_answer bytes answer (described r) is d = sym d.2 ∙ is.all d.0 d.1

-- ---- the clauses

pub ok-answer : (bytes : List ℕ) (answer : Answer) (result : Result (List (Row Step Key)) SvdFault) → Answers bytes answer → Given result answer → IfOk result (λ r. HasAnswer bytes (described r))
ok-answer bytes answer (Ok r) is given = subst (HasAnswer bytes) given is.some
ok-answer bytes answer (Err fault) is given = tt

told-or : (fault : SvdFault) (bytes : List ℕ) (answer : Answer) → Answers bytes answer → OrMemory fault (Tells fault answer) → OrMemory fault (Refuses bytes fault)
told-or (Syntax at) bytes answer is tells = (answer, is.some, tells)
told-or (TooDeep span) bytes answer is tells = (answer, is.some, tells)
told-or (UnknownElement span) bytes answer is tells = (answer, is.some, tells)
told-or (DoubleElement span) bytes answer is tells = (answer, is.some, tells)
told-or (DoubleName span) bytes answer is tells = (answer, is.some, tells)
told-or (BadValue span kind) bytes answer is tells = (answer, is.some, tells)
told-or (MissingElement span key) bytes answer is tells = (answer, is.some, tells)
told-or (TooMany kind n) bytes answer is tells = (answer, is.some, tells)
told-or Memory bytes answer is tells = tt

pub refused-answer : (bytes : List ℕ) (answer : Answer) (result : Result (List (Row Step Key)) SvdFault) → Answers bytes answer → Given result answer → IfErr result (λ fault. OrMemory fault (Refuses bytes fault))
refused-answer bytes answer (Ok r) is given = tt
refused-answer bytes answer (Err fault) is given = told-or fault bytes answer is given

pub found-answer : (bytes : List ℕ) (answer : Answer) (result : Result (List (Row Step Key)) SvdFault) → Answers bytes answer → Given result answer → (other : Answer) → HasAnswer bytes other → Given result other
found-answer bytes answer result is given other d = subst (Given result) (sym (same_answer bytes answer other is d)) given

-- ---- what reading the text answers

-- a device was read
pub read-answers : (bytes : List ℕ) (device : Tree) → IsRead bytes device → ((text : Text) → Spells bytes text → (first_too_deep text ≡ None) × (elements_of text ≡ device)) → Answers bytes (answer_in device)
unfolding answer_of
read-answers bytes device is found = record {
  some = spelled-answer bytes is.text (answer_in device) is.spells (same is.text is.shallow is.device_is);
  all = λ text spells. same text (found text spells).0 (found text spells).1;
}
  where
    same : (text : Text) → first_too_deep text ≡ None → elements_of text ≡ device → answer_of text ≡ answer_in device
    same text shallow are = ap (λ deep. unless_deep deep (answer_in (elements_of text))) shallow ∙ ap answer_in are

deep-answer : (text : Text) (name : ℕ × ℕ) → first_too_deep text ≡ Some name → answer_of text ≡ too_deep name
unfolding answer_of
deep-answer text name deep = ap (λ found. unless_deep found (answer_in (elements_of text))) deep

-- ---- the three clauses, where a fault of the text was told

pub fault-clauses : (bytes : List ℕ) (result : Result Element TextFault) (fault : TextFault) (told : SvdFault) → result ≡ Err fault → Shows fault told
    → SyntaxSays bytes result → TooDeepSays bytes result → ((text : Text) → Spells bytes text → TextAnswers text result)
    → OrMemory told (Refuses bytes told) × ((answer : Answer) → HasAnswer bytes answer → Given (Err told) answer)
fault-clauses bytes result (text.Syntax at) told is shows syntax deep found =
    let none : SpellNone bytes = subst (SyntaxSays bytes) is syntax in
    let answers : Answers bytes no_text = record { some = none; all = λ t spells. absurd (none t spells) } in
    subst (λ f. OrMemory f (Refuses bytes f) × ((answer : Answer) → HasAnswer bytes answer → Given (Err f) answer)) (sym shows)
    ((no_text, none, refl), λ answer d. same_answer bytes no_text answer answers d)
fault-clauses bytes result (text.TooDeep span) told is shows syntax deep found =
    let one : IsTooDeep bytes (span.start, span.end) = subst (TooDeepSays bytes) is deep in
    let answers : Answers bytes (too_deep (span.start, span.end)) = record {
      some = (one.text, one.spells, deep-answer one.text (span.start, span.end) one.deep);
      all = λ t spells. deep-answer t (span.start, span.end) (subst (TextAnswers t) is (found t spells));
    } in
    subst (λ f. OrMemory f (Refuses bytes f) × ((answer : Answer) → HasAnswer bytes answer → Given (Err f) answer)) (sym shows)
    ((too_deep (span.start, span.end), answers.some, refl), λ answer d. same_answer bytes (too_deep (span.start, span.end)) answer answers d)
fault-clauses bytes result text.Memory told is shows syntax deep found =
    subst (λ f. OrMemory f (Refuses bytes f) × ((answer : Answer) → HasAnswer bytes answer → Given (Err f) answer)) (sym shows) (tt, λ answer d. tt)
