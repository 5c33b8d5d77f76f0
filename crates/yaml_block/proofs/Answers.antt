-- Facts that stand whatever was answered.
use Rattle.std.proofs.Common.{Result, Ok, Err, IfOk, OnErr}

pub on_err : {X E : Type 0} {P : Type 0} (result : Result X E) → P → OnErr result P
on_err (Ok x) fact = tt
on_err (Err fault) fact = fact

pub if_ok : {X E : Type 0} (result : Result X E) (P Q : X → Type 0) → ((x : X) → P x → Q x) → IfOk result P → IfOk result Q
if_ok (Ok x) P Q more fact = more x fact
if_ok (Err fault) P Q more fact = tt
