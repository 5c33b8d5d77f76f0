-- Names are read, and read again.
use Rattle.std.proofs.Common.{◌≡◌, ℕ, true, false, ◌&&◌, List, [], ◌∷◌, ◌++◌, Some, refl, sym, subst, arith}
use Rattle.std.specs.List.{list_all}
use Rattle.std.proofs.lemmas.Bool.{and_parts, and_from}
use Rattle.std.proofs.lemmas.Bool.Decides.{nat_tests}
use Rattle.text_scan.specs.declared.class.Class.TheVariants.{Blank}
use Rattle.text_scan.specs.Classes.{has}
use Rattle.text_scan.specs.Fronts.{Passes, StopsAt, front_of, rest_of}
use Rattle.text_scan.proofs.Fronts.{front-rest, front_passes, front-append, rest-append}
use Rattle.text_scan.proofs.Steps.{guard_some}
use Rattle.xml_text.specs.declared.run.Run.TheVariants.{Name}
use Rattle.xml_text.specs.Bytes.{is_name_start, is_in}
use Rattle.xml_text.specs.Names.{begins_name, is_name}
use Rattle.xml_text.specs.Reading.{name_at}

start_is_in : (byte : ℕ) → is_name_start byte ≡ true → is_in Name byte ≡ true
unfolding is_in
start_is_in byte h = grind (arith, nat_tests)

start_not_blank : (byte : ℕ) → is_name_start byte ≡ true → has Blank byte ≡ false
unfolding has
start_not_blank byte h = grind (arith, nat_tests)

pub blank_not_in : (byte : ℕ) → has Blank byte ≡ true → is_in Name byte ≡ false
unfolding has is_in
blank_not_in byte h = grind (arith, nat_tests)

front_begins : (text : List ℕ) → begins_name text ≡ true → begins_name (front_of (is_in Name) text) ≡ true
unfolding begins_name front_of
front_begins [] h = h
front_begins (first ∷ others) h = rw (start_is_in first h) h

pub name_takes : (text name rest : List ℕ) → name_at text ≡ Some (name, rest) → (text ≡ name ++ rest) × (is_name name ≡ true)
unfolding name_at is_name
name_takes text name rest e =
    let found = guard_some (begins_name text) (front_of (is_in Name) text, rest_of (is_in Name) text) (name, rest) e in
    let front = front_of (is_in Name) text in
    subst (λ (p : List ℕ × List ℕ). (text ≡ p.0 ++ p.1) × ((begins_name p.0 && list_all (is_in Name) p.0) ≡ true)) found.1
    (sym (front-rest (is_in Name) text), and_from (begins_name front) (list_all (is_in Name) front) (front_begins text found.0) (front_passes (is_in Name) text))

pub begins_before : (name rest : List ℕ) → is_name name ≡ true → begins_name (name ++ rest) ≡ true
unfolding begins_name is_name
begins_before [] rest h = absurd cc
begins_before (first ∷ others) rest h = (and_parts (is_name_start first) (list_all (is_in Name) (first ∷ others)) h).0

-- white space ends before a name
pub blanks_stop : (name rest : List ℕ) → is_name name ≡ true → StopsAt (has Blank) (name ++ rest)
unfolding begins_name is_name
blanks_stop [] rest h = absurd cc
blanks_stop (first ∷ others) rest h = start_not_blank first (and_parts (is_name_start first) (list_all (is_in Name) (first ∷ others)) h).0

name_passes : (name : List ℕ) → is_name name ≡ true → Passes (is_in Name) name
unfolding is_name
name_passes name h = (and_parts (begins_name name) (list_all (is_in Name) name) h).1

pub name_again : (name rest : List ℕ) → is_name name ≡ true → StopsAt (is_in Name) rest → name_at (name ++ rest) ≡ Some (name, rest)
unfolding name_at
name_again name rest h ends =
    rw (begins_before name rest h, front-append (is_in Name) name rest (name_passes name h) ends, rest-append (is_in Name) name rest (name_passes name h) ends) refl
