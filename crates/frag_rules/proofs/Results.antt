-- Clauses by cases on an answer.
use Rattle.std.proofs.Common.{Result, Ok, Err, OnOk}

pub on_ok : {T E : Type 0} (result : Result T E) (P Q : Type 0) → (P → Q) → OnOk result P → OnOk result Q
on_ok (Ok x) P Q so holds = so holds
on_ok (Err e) P Q so holds = holds
