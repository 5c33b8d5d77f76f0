-- What the answers of the reader of scripts tell.
use Rattle.std.specs.Prelude.{ℕ, ◌≡◌, List, Option, Some, None, Result, Ok, Err}
use Rattle.frag_tree.specs.declared.script.Script.{Script}
use Rattle.frag_tree.specs.declared.statement.Statement.{Statement}
use Rattle.frag_script.specs.declared.fault.ScriptFault.{ScriptFault}
use Rattle.frag_script.specs.declared.fault.ScriptFault.TheVariants.{Syntax, TooLong, Typing, Memory}
use Rattle.frag_script.specs.Reading.{Outcome, fine, faulty, too_long, held_at}

abbrev pub held_told : Statement → Option (Option Statement)
held_told statement = Some (Some statement)

-- a fault of a line
abbrev pub FailsOn : Result (Option Statement) ScriptFault → ℕ → List ℕ → Type 0
FailsOn (Ok held) number line = held_at line ≡ Some held
FailsOn (Err (Syntax bad)) number line = (bad ≡ number) × (held_at line ≡ None)
FailsOn (Err (TooLong count)) number line = ⊥
FailsOn (Err (Typing bad kind)) number line = ⊥
FailsOn (Err Memory) number line = Unit {0}

-- a fault of the lines
abbrev pub FailsAt : ScriptFault → Outcome → Type 0
FailsAt (Syntax bad) outcome = outcome ≡ faulty bad
FailsAt (TooLong count) outcome = ⊥
FailsAt (Typing bad kind) outcome = ⊥
FailsAt Memory outcome = Unit {0}

-- an answer is what reading comes to, unless memory ran out
abbrev pub Tells : Result Script ScriptFault → Outcome → Type 0
Tells (Ok script) outcome = outcome ≡ fine script.lines
Tells (Err (Syntax bad)) outcome = outcome ≡ faulty bad
Tells (Err (TooLong count)) outcome = outcome ≡ too_long count
Tells (Err (Typing bad kind)) outcome = ⊥
Tells (Err Memory) outcome = Unit {0}
