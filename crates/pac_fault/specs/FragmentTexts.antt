-- What the lines of faults say of crate texts and scripts. This project's own texts.
use Rattle.std.specs.Prelude.{ℕ, List, ◌++◌, codes, decimal}
use Rattle.frag_script.specs.declared.fault.ScriptFault.{ScriptFault}
use Rattle.frag_script.specs.declared.fault.ScriptFault.TheVariants as script
use Rattle.frag_script.specs.declared.fault.ScriptTyping.{ScriptTyping}
use Rattle.frag_script.specs.declared.fault.ScriptTyping.TheVariants as statement
use Rattle.frag_types.specs.declared.fault.CrateFault.{CrateFault}
use Rattle.frag_types.specs.declared.fault.CrateFault.TheVariants as krate
use Rattle.frag_types.specs.declared.fault.CrateTyping.{CrateTyping}
use Rattle.frag_types.specs.declared.fault.CrateTyping.TheVariants as rule

-- which kind of typing rule a crate breaks
unfoldable pub crate_typing_text : CrateTyping → List ℕ
crate_typing_text rule.UnknownName = codes "crate text: unknown name"
crate_typing_text rule.DoubleName = codes "crate text: name used twice"
crate_typing_text rule.WrongType = codes "crate text: wrong type"
crate_typing_text rule.LiteralRange = codes "crate text: literal out of range"
crate_typing_text rule.TooLarge = codes "crate text: block too large"

-- what is wrong at a byte, counted from 0
abbrev pub at_byte : List ℕ → ℕ → List ℕ
at_byte said at = said ++ (codes " at byte " ++ decimal at)

unfoldable pub crate_text : CrateFault → List ℕ
crate_text (krate.Syntax at) = at_byte (codes "crate text: syntax") at
crate_text (krate.TooDeep at) = at_byte (codes "crate text: nesting passes 64") at
crate_text (krate.Typing at kind) = at_byte (crate_typing_text kind) at
crate_text krate.Memory = codes "out of memory"

-- which rule of typing a statement breaks
unfoldable pub script_typing_text : ScriptTyping → List ℕ
script_typing_text statement.NoSuchName = codes "no such name"
script_typing_text statement.NoSuchCall = codes "no such call"
script_typing_text statement.WrongType = codes "wrong type"
script_typing_text statement.IndexRange = codes "index out of range"
script_typing_text statement.LiteralRange = codes "literal out of range"
script_typing_text statement.Rebound = codes "name bound twice"

-- what is wrong on a line, counted from 1
abbrev pub on_line : ℕ → List ℕ → List ℕ
on_line line said = codes "script line " ++ (decimal line ++ (codes ": " ++ said))

-- more statements than the limit allows
abbrev pub statements_text : ℕ → List ℕ
statements_text count = codes "too many statements: " ++ decimal count

unfoldable pub script_text : ScriptFault → List ℕ
script_text (script.Syntax line) = on_line line (codes "syntax")
script_text (script.TooLong count) = statements_text count
script_text (script.Typing line kind) = on_line line (script_typing_text kind)
script_text script.Memory = codes "out of memory"
