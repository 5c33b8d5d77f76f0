-- The first line of a script that doesn't type, as frag_sem has it.
use Rattle.frag_sem.specs.ScriptTyping.{LineFault}
use Rattle.frag_types.specs.Refusals.{script_kind}
use Rattle.frag_types.specs.declared.script.Unfit.{Unfit}

abbrev pub fault_seen : Unfit → LineFault
fault_seen unfit = record { line = unfit.line; kind = script_kind unfit.kind }
