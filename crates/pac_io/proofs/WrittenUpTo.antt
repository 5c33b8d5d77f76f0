-- The steps of a run of writes.
use Rattle.std.proofs.Common.{ℕ, ◌≡◌, List, [], ◌∷◌, ◌++◌, Option, Some, None, Result, Ok, Err, refl, sym, ap, ◌∙◌, append_assoc, subst, take, drop}
use Rattle.std.proofs.lemmas.List.{take-append-drop}
use Rattle.std.specs.Io.KnownBytes.{Keeps, Appends}
use Rattle.pac_io.specs.WrittenUpTo.{WrittenUpTo}
use Rattle.pac_io.specs.Writing.{AppendsPrefix, Writes, WritesUpTo}
use Rattle.pac_io.specs.declared.fault.SinkFault.{SinkFault}

append_nothing : (bytes : List ℕ) → bytes ++ [] ≡ bytes
append_nothing [] = refl
append_nothing (b ∷ bytes) = ap (λ rest. b ∷ rest) (append_nothing bytes)

-- nothing was appended
pub appends_nothing : (told : Option (List ℕ)) → Appends told told []
appends_nothing None = tt
appends_nothing (Some bytes) = sym (append_nothing bytes)

-- two appends, one after the other
pub appends_then : (old mid now : Option (List ℕ)) (first second : List ℕ) → Appends old mid first → Appends mid now second → Appends old now (first ++ second)
appends_then None mid now first second a b = tt
appends_then (Some bytes) (Some others) None first second a b = b
appends_then (Some bytes) (Some others) (Some all) first second a b = b ∙ ap (λ xs. xs ++ second) a ∙ append_assoc bytes first second
appends_then (Some bytes) None now first second a b = absurd a

-- A run has begun: all is still to come.
pub begun : (told : Option (List ℕ)) (all : List ℕ) → WrittenUpTo told told all all
begun told all = record { done = []; whole = refl; appended = appends_nothing told }

-- What was told stayed, so all is still to come.
pub kept : (old now : Option (List ℕ)) (all : List ℕ) → Keeps old now → WrittenUpTo old now all all
kept None now all h = record { done = []; whole = refl; appended = tt }
kept (Some bytes) None all h = absurd h
kept (Some bytes) (Some others) all h = record { done = []; whole = refl; appended = h ∙ sym (append_nothing bytes) }

-- the first n bytes were written
pub first_written : (n : ℕ) (old now : Option (List ℕ)) (all : List ℕ) → Appends old now (take n all) → WrittenUpTo old now all (drop n all)
first_written n old now all h = record { done = take n all; whole = take-append-drop n all; appended = h }

-- It went on: a part was written whole.
pub went_on : {old mid now : Option (List ℕ)} {all : List ℕ} (part rest : List ℕ) → WrittenUpTo old mid all (part ++ rest) → Appends mid now part → WrittenUpTo old now all rest
went_on {old} {mid} {now} part rest before more = record {
  done = before.done ++ part;
  whole = append_assoc before.done part rest ∙ before.whole;
  appended = appends_then old mid now before.done part before.appended more;
}

-- It went on: of what was still to come all was written but `left`.
pub went_on_to : {old mid now : Option (List ℕ)} {all rest : List ℕ} (left : List ℕ) → WrittenUpTo old mid all rest → WrittenUpTo mid now rest left → WrittenUpTo old now all left
went_on_to {old} {mid} {now} left before more = record {
  done = before.done ++ more.done;
  whole = append_assoc before.done more.done left ∙ ap (λ xs. before.done ++ xs) more.whole ∙ before.whole;
  appended = appends_then old mid now before.done more.done before.appended more.appended;
}

-- What is written of a part is written of the part and what follows it.
pub with_rest : {old now : Option (List ℕ)} {part held : List ℕ} (rest : List ℕ) → WrittenUpTo old now part held → WrittenUpTo old now (part ++ rest) (held ++ rest)
with_rest {old} {now} {part} {held} rest of_part = record {
  done = of_part.done;
  whole = sym (append_assoc of_part.done held rest) ∙ ap (λ xs. xs ++ rest) of_part.whole;
  appended = of_part.appended;
}

-- It went on: a part was written up to what is held back of it.
pub went_on_up_to : {old mid now : Option (List ℕ)} {all part : List ℕ} (rest held : List ℕ) → WrittenUpTo old mid all (part ++ rest) → WrittenUpTo mid now part held → WrittenUpTo old now all (held ++ rest)
went_on_up_to rest held before more = went_on_to (held ++ rest) before (with_rest rest more)

-- It broke off within a part.
pub broke_off : {old mid now : Option (List ℕ)} {all part : List ℕ} (rest : List ℕ) → WrittenUpTo old mid all (part ++ rest) → AppendsPrefix mid now part → AppendsPrefix old now all
broke_off rest before more = record { left = more.left ++ rest; so_far = went_on_up_to rest more.left before more.so_far }

-- It broke off within what was still to come.
pub broke_off_within : {old mid now : Option (List ℕ)} {all rest : List ℕ} → WrittenUpTo old mid all rest → AppendsPrefix mid now rest → AppendsPrefix old now all
broke_off_within before more = record { left = more.left; so_far = went_on_to more.left before more.so_far }

-- All was written.
pub all_written : {old now : Option (List ℕ)} {all : List ℕ} → WrittenUpTo old now all [] → Appends old now all
all_written {old} {now} {all} before = subst (λ (xs : List ℕ). Appends old now xs) (sym (append_nothing before.done) ∙ before.whole) before.appended

-- It broke off before anything was written.
pub none_written : (told : Option (List ℕ)) (bytes : List ℕ) → AppendsPrefix told told bytes
none_written told bytes = record { left = bytes; so_far = begun told bytes }

-- What was to come was all written.
pub finished : {old mid : Option (List ℕ)} {all rest : List ℕ} (now : Option (List ℕ)) → WrittenUpTo old mid all rest → Appends mid now rest → Appends old now all
finished {old} {mid} {all} {rest} now before more =
    subst (λ (xs : List ℕ). Appends old now xs) before.whole (appends_then old mid now before.done rest before.appended more)

-- The last write of a run, whatever it answers.
pub run_of_writes : {T : Type 0} (answer : Result T SinkFault) {old mid : Option (List ℕ)} {all rest : List ℕ} (now : Option (List ℕ)) → WrittenUpTo old mid all rest → Writes answer mid now rest → Writes answer old now all
run_of_writes (Ok value) now before more = finished now before more
run_of_writes (Err fault) now before more = broke_off_within before more

-- The same where the last write holds some of the bytes back.
pub run_up_to : {T : Type 0} (answer : Result T SinkFault) {old mid : Option (List ℕ)} {all rest : List ℕ} (now : Option (List ℕ)) (held : List ℕ) → WrittenUpTo old mid all rest → WritesUpTo answer mid now rest held → WritesUpTo answer old now all held
run_up_to (Ok value) now held before more = went_on_to held before more
run_up_to (Err fault) now held before more = broke_off_within before more

-- A page got a text and handed on what it doesn't hold.
pub page_went_on : {old mid now : Option (List ℕ)} {all : List ℕ} (page text rest held : List ℕ) → WrittenUpTo old mid all (page ++ (text ++ rest)) → WrittenUpTo mid now (page ++ text) held → WrittenUpTo old now all (held ++ rest)
page_went_on {old} {mid} {now} {all} page text rest held before more =
    went_on_up_to rest held (subst (λ (xs : List ℕ). WrittenUpTo old mid all xs) (sym (append_assoc page text rest)) before) more

-- A page got a text, and handing on broke off.
pub page_broke_off : {old mid now : Option (List ℕ)} {all : List ℕ} (page text rest : List ℕ) → WrittenUpTo old mid all (page ++ (text ++ rest)) → AppendsPrefix mid now (page ++ text) → AppendsPrefix old now all
page_broke_off {old} {mid} {now} {all} page text rest before more =
    broke_off rest (subst (λ (xs : List ℕ). WrittenUpTo old mid all xs) (sym (append_assoc page text rest)) before) more
