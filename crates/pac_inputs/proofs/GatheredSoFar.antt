-- How far reading the files of a command has come.
use Rattle.std.proofs.Common.{ℕ, ◌≡◌, ◌⊎◌, ◌≤◌, ◌<◌, List, [], ◌∷◌, ◌++◌, map, length, nat_le, Bool, true, false, Option, Some, None, IfSome, IsSomeAnd, option_map, if◌then◌else◌, refl, sym, ap, ◌∙◌, subst, inl, inr, arith}
use Rattle.std.proofs.lemmas.Bool.Decides.{nat_tests}
use Rattle.std.proofs.lemmas.List.{append-nil, append_assoc, map-append}
use Rattle.pac_io.specs.Asking.{and_asked}
use Rattle.pac_io.specs.Rose.{Rose}
use Rattle.pac_fault.specs.declared.fault.PacFault.{PacFault}
use Rattle.pac_fault.specs.declared.fault.PacFault.TheVariants.{Memory, Limit}
use Rattle.pac_fault.specs.declared.fault.LimitFault.TheVariants.{FileTooLong}
use Rattle.pac_inputs.specs.Gathering.{FileMap, Gathering, inputs_are, is_too_long, and_then, by_file, gathered_from, FitLimits}
use Rattle.pac_fault.specs.Classes.{Class, no_memory, bad_words, bad_read, bad_write, bad_bus, long_file, bad_input, class_of}
use Rattle.pac_inputs.specs.Reads.{HasRead, ReadsNot, GathersAll, MeetsLongFile, GathersNot}
use Rattle.pac_inputs.specs.Shelves.{Shelf, names_of, Asks, AsksSome}
use Rattle.pac_inputs.specs.declared.gathering.Wanted.{Wanted}

-- these inputs in front of what the files behind them are
abbrev pub and_these : List (List ℕ) → Gathering → Gathering
and_these inputs (inputs_are later) = inputs_are (inputs ++ later)
and_these inputs (is_too_long file) = is_too_long file

-- the files before those that are left were read
pub record GatheredSoFar (wanted left : List Wanted) (inputs : List (List ℕ)) (old now : Shelf) : Type 0 where
  pub before : List Wanted
  pub first : before ++ left ≡ wanted
  pub asks : Asks old now before
  pub count : now.faults ≡ old.faults
  pub fits : FitLimits before inputs
  pub told : IfSome old.files (λ files. gathered_from files wanted ≡ option_map (and_these inputs) (gathered_from files left))

asks_none : (old : Option (List (List ℕ))) → IfSome old (λ before. old ≡ Some (before ++ []))
asks_none None = tt
asks_none (Some names) = ap Some (sym (append-nil names))

none_before : (found : Option Gathering) → found ≡ option_map (and_these []) found
none_before None = refl
none_before (Some (inputs_are inputs)) = refl
none_before (Some (is_too_long file)) = refl

told_start : (wanted : List Wanted) (told : Option FileMap) → IfSome told (λ files. gathered_from files wanted ≡ option_map (and_these []) (gathered_from files wanted))
told_start wanted None = tt
told_start wanted (Some files) = none_before (gathered_from files wanted)

-- nothing was read yet
pub begun : (wanted : List Wanted) (now : Shelf) → GatheredSoFar wanted wanted [] now now
begun wanted now = record {
  before = [];
  first = refl;
  asks = record { same_files = refl; asked_for = asks_none now.asked };
  count = refl;
  fits = tt;
  told = told_start wanted now.files;
}

-- one more name was asked for
asked_more : (old now new : Option (List (List ℕ))) (before : List Wanted) (file : Wanted) → IfSome old (λ names. now ≡ Some (names ++ names_of before))
    → new ≡ and_asked now file.name → IfSome old (λ names. new ≡ Some (names ++ names_of (before ++ file ∷ [])))
asked_more None now new before file h asked = tt
asked_more (Some names) now new before file h asked =
    asked ∙ ap (λ o. and_asked o file.name) h
    ∙ ap Some (append_assoc names (names_of before) (file.name ∷ []) ∙ ap (λ more. names ++ more) (sym (map-append (λ (f : Wanted). f.name) before (file ∷ []))))

asks_more : (old now new : Shelf) (before : List Wanted) (file : Wanted) → Asks old now before → new.files ≡ now.files → new.asked ≡ and_asked now.asked file.name
    → Asks old new (before ++ file ∷ [])
asks_more old now new before file h same asked = record {
  same_files = same ∙ h.same_files;
  asked_for = asked_more old.asked now.asked new.asked before file h.asked_for asked;
}

asks_same : (old now new : Shelf) (before : List Wanted) → Asks old now before → new.files ≡ now.files → new.asked ≡ now.asked → Asks old new before
asks_same old now new before h same asked = record {
  same_files = same ∙ h.same_files;
  asked_for = subst (λ (o : Option (List (List ℕ))). IfSome old.asked (λ names. o ≡ Some (names ++ names_of before))) (sym asked) h.asked_for;
}

fit_more : (before : List Wanted) (inputs : List (List ℕ)) (file : Wanted) (bytes : List ℕ) → FitLimits before inputs → length bytes ≤ file.limit
    → FitLimits (before ++ file ∷ []) (inputs ++ bytes ∷ [])
fit_more [] [] file bytes fits within = (within, tt)
fit_more [] (input ∷ inputs) file bytes fits within = absurd fits
fit_more (first ∷ before) [] file bytes fits within = absurd fits
fit_more (first ∷ before) (input ∷ inputs) file bytes fits within = (fits.0, fit_more before inputs file bytes fits.1 within)

-- an input within its limit goes to the others
at_limit : (fits : Bool) (file : Wanted) (bytes : List ℕ) (others : Option Gathering) → fits ≡ true
    → (if fits then option_map (and_then bytes) others else Some (is_too_long file)) ≡ option_map (and_then bytes) others
at_limit true file bytes others is = refl
at_limit false file bytes others is = let e : false ≡ true = is in absurd (cc e)

past_limit : (fits : Bool) (file : Wanted) (bytes : List ℕ) (others : Option Gathering) → fits ≡ false
    → (if fits then option_map (and_then bytes) others else Some (is_too_long file)) ≡ Some (is_too_long file)
past_limit false file bytes others is = refl
past_limit true file bytes others is = let e : true ≡ false = is in absurd (cc e)

one_further : (inputs : List (List ℕ)) (bytes : List ℕ) (others : Option Gathering)
    → option_map (and_these inputs) (option_map (and_then bytes) others) ≡ option_map (and_these (inputs ++ bytes ∷ [])) others
one_further inputs bytes None = refl
one_further inputs bytes (Some (inputs_are later)) = ap (λ all. Some (inputs_are all)) (sym (append_assoc inputs (bytes ∷ []) later))
one_further inputs bytes (Some (is_too_long file)) = refl

le_true : (m n : ℕ) → m ≤ n → nat_le m n ≡ true
le_true m n h = grind (arith, nat_tests, h)

le_false : (m n : ℕ) → n < m → nat_le m n ≡ false
le_false m n h = grind (arith, nat_tests, h)

told_more : (told : Option FileMap) (wanted left : List Wanted) (inputs : List (List ℕ)) (file : Wanted) (bytes : List ℕ) → length bytes ≤ file.limit
    → IfSome told (λ files. gathered_from files wanted ≡ option_map (and_these inputs) (gathered_from files (file ∷ left)))
    → IfSome told (λ files. files file.name ≡ Some bytes)
    → IfSome told (λ files. gathered_from files wanted ≡ option_map (and_these (inputs ++ bytes ∷ [])) (gathered_from files left))
told_more None wanted left inputs file bytes within h stands = tt
told_more (Some files) wanted left inputs file bytes within h stands =
    h ∙ ap (option_map (and_these inputs))
    (ap (λ found. by_file file found (gathered_from files left)) stands
    ∙ at_limit (nat_le (length bytes) file.limit) file bytes (gathered_from files left) (le_true (length bytes) file.limit within))
    ∙ one_further inputs bytes (gathered_from files left)

same_told : (P : FileMap → Type 0) (old now : Option FileMap) → now ≡ old → IfSome now P → IfSome old P
same_told P old now same h = subst (λ (o : Option FileMap). IfSome o P) same h

-- one more file was read
pub went_on : (wanted left : List Wanted) (inputs : List (List ℕ)) (file : Wanted) (bytes : List ℕ) (old now new : Shelf)
    → GatheredSoFar wanted (file ∷ left) inputs old now → HasRead file bytes now new → GatheredSoFar wanted left (inputs ++ bytes ∷ []) old new
went_on wanted left inputs file bytes old now new h r = record {
  before = h.before ++ file ∷ [];
  first = append_assoc h.before (file ∷ []) left ∙ h.first;
  asks = asks_more old now new h.before file h.asks r.same_files r.asked;
  count = r.count ∙ h.count;
  fits = fit_more h.before inputs file bytes h.fits r.within;
  told = told_more old.files wanted left inputs file bytes r.within h.told (same_told _ old.files now.files h.asks.same_files r.stands);
}

-- memory was wanting behind a file that was read, or at one
some_asked : (wanted left : List Wanted) (inputs : List (List ℕ)) (old now : Shelf) → GatheredSoFar wanted left inputs old now → AsksSome wanted old now
some_asked wanted left inputs old now h = record { before = h.before; later = left; first = h.first; asks = h.asks }

pub lacks_memory : (wanted left : List Wanted) (inputs : List (List ℕ)) (old now : Shelf) (fault : PacFault) → GatheredSoFar wanted left inputs old now → fault ≡ Memory
    → GathersNot (class_of fault) wanted old now fault
lacks_memory wanted left inputs old now fault h is =
    subst (λ (f : PacFault). GathersNot (class_of f) wanted old now f) (sym is)
    (record { told_as = refl; asks = some_asked wanted left inputs old now h; count = h.count })

one_asked : (wanted left : List Wanted) (inputs : List (List ℕ)) (file : Wanted) (old now new : Shelf) → GatheredSoFar wanted (file ∷ left) inputs old now
    → new.files ≡ now.files → (new.asked ≡ now.asked) ⊎ (new.asked ≡ and_asked now.asked file.name) → AsksSome wanted old new
one_asked wanted left inputs file old now new h same (inl before) = record { before = h.before; later = file ∷ left; first = h.first; asks = asks_same old now new h.before h.asks same before }
one_asked wanted left inputs file old now new h same (inr asked) = record {
  before = h.before ++ file ∷ [];
  later = left;
  first = append_assoc h.before (file ∷ []) left ∙ h.first;
  asks = asks_more old now new h.before file h.asks same asked;
}

at_long : (told : Option FileMap) (wanted left : List Wanted) (inputs : List (List ℕ)) (file : Wanted)
    → IfSome told (λ files. gathered_from files wanted ≡ option_map (and_these inputs) (gathered_from files (file ∷ left)))
    → IfSome told (λ files. IsSomeAnd (files file.name) (λ bytes. file.limit < length bytes)) → IfSome told (λ files. gathered_from files wanted ≡ Some (is_too_long file))
at_long None wanted left inputs file h beyond = tt
at_long (Some files) wanted left inputs file h beyond = h ∙ ap (option_map (and_these inputs)) (go (files file.name) beyond)
  where
    go : (found : Option (List ℕ)) → IsSomeAnd found (λ bytes. file.limit < length bytes) → by_file file found (gathered_from files left) ≡ Some (is_too_long file)
    go None long = absurd long
    go (Some bytes) long = past_limit (nat_le (length bytes) file.limit) file bytes (gathered_from files left) (le_false (length bytes) file.limit long)

-- a file wasn't read
broke_at : (class : Class) (wanted left : List Wanted) (inputs : List (List ℕ)) (file : Wanted) (old now new : Shelf) (fault : PacFault)
    → GatheredSoFar wanted (file ∷ left) inputs old now → ReadsNot class file now new fault → GathersNot class wanted old new fault
broke_at no_memory wanted left inputs file old now new fault h r =
    record { told_as = r.told_as; asks = one_asked wanted left inputs file old now new h r.same_files r.asked; count = r.count ∙ h.count }
broke_at bad_words wanted left inputs file old now new fault h r = absurd r
broke_at (bad_read name) wanted left inputs file old now new fault h r = record {
  file = file;
  named = r.named;
  asks = record { before = h.before; later = left; first = h.first; asks = asks_more old now new h.before file h.asks r.same_files r.asked };
  rose = subst (λ (n : ℕ). Rose n new.faults) h.count r.rose;
}
broke_at bad_write wanted left inputs file old now new fault h r = absurd r
broke_at (bad_bus done) wanted left inputs file old now new fault h r = absurd r
broke_at (long_file name limit) wanted left inputs file old now new fault h r =
    subst (λ (l : Wanted). MeetsLongFile wanted l old new fault) r.same_file (record {
      told_as = subst (λ (l : Wanted). fault ≡ Limit (FileTooLong l.name l.limit)) (sym r.same_file) r.told_as;
      asks = record { before = h.before; later = left; first = h.first; asks = asks_more old now new h.before file h.asks r.same_files r.asked };
      count = r.count ∙ h.count;
      gathered = at_long old.files wanted left inputs file h.told (same_told _ old.files now.files h.asks.same_files r.beyond);
    })
broke_at bad_input wanted left inputs file old now new fault h r = absurd r

pub broke_off : (wanted left : List Wanted) (inputs : List (List ℕ)) (file : Wanted) (old now new : Shelf) (fault : PacFault)
    → GatheredSoFar wanted (file ∷ left) inputs old now → ReadsNot (class_of fault) file now new fault → GathersNot (class_of fault) wanted old new fault
broke_off wanted left inputs file old now new fault h r = broke_at (class_of fault) wanted left inputs file old now new fault h r

told_all : (told : Option FileMap) (wanted : List Wanted) (inputs : List (List ℕ)) → IfSome told (λ files. gathered_from files wanted ≡ option_map (and_these inputs) (gathered_from files []))
    → IfSome told (λ files. gathered_from files wanted ≡ Some (inputs_are inputs))
told_all None wanted inputs h = tt
told_all (Some files) wanted inputs h = h ∙ ap (λ all. Some (inputs_are all)) (append-nil inputs)

-- all were read
pub is_done : (wanted : List Wanted) (inputs : List (List ℕ)) (old now : Shelf) → GatheredSoFar wanted [] inputs old now → GathersAll wanted inputs old now
is_done wanted inputs old now h =
    let whole : h.before ≡ wanted = sym (append-nil h.before) ∙ h.first in
    record {
      asks = subst (Asks old now) whole h.asks;
      count = h.count;
      gathered = (subst (λ (files : List Wanted). FitLimits files inputs) whole h.fits, told_all old.files wanted inputs h.told);
    }
