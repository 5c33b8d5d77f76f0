-- Which names were asked for.
use Rattle.std.specs.Prelude.{ℕ, ◌≡◌, ◌⊎◌, List, [], ◌∷◌, ◌++◌, Option, Some, None, Result, Ok, Err}
use Rattle.pac_io.specs.declared.fault.FilesFault.{FilesFault}
use Rattle.pac_io.specs.declared.fault.FilesFault.TheVariants.{Failed, TooLong, Memory}

-- the names asked so far, and this one as the last, where they are told
abbrev pub and_asked : Option (List (List ℕ)) → List ℕ → Option (List (List ℕ))
and_asked None name = None
and_asked (Some names) name = Some (names ++ name ∷ [])

-- what a fault says of the names, before and now
abbrev pub AskedAtFault : FilesFault → Option (List (List ℕ)) → Option (List (List ℕ)) → List ℕ → Type 0
AskedAtFault Failed before now name = now ≡ and_asked before name
AskedAtFault (TooLong kept) before now name = now ≡ and_asked before name
AskedAtFault Memory before now name = (now ≡ before) ⊎ (now ≡ and_asked before name)

-- A read adds its name as the last one asked; after want of memory the names may be as before. This project's own rule.
abbrev pub Asks : {T : Type 0} → Result T FilesFault → Option (List (List ℕ)) → Option (List (List ℕ)) → List ℕ → Type 0
Asks (Ok value) before now name = now ≡ and_asked before name
Asks (Err fault) before now name = AskedAtFault fault before now name
