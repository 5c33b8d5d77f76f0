-- The value has a call, which is one more where its name is free.
use Rattle.std.proofs.Common.{◌≡◌, ◌++◌, ◌∷◌, [], List, ℕ, true, false, not, sym, ap, ◌∙◌, subst}
use Rattle.std.proofs.lemmas.Result.{IfOk-equal}
use Rattle.reg_table.specs.Calls.{call_of, is_taken, name_for, plain_value, with_call}
use Rattle.reg_table.proofs.Calling.{call-here, taken-free, with_free, with_taken}
use Rattle.reg_table.proofs.calls.push_call.Goals as goal

pub returns-then-not-branch-clause-calls : goal.returns-then-not-branch-clause-calls
returns-then-not-branch-clause-calls c =
    let calls = c.args.calls.now in
    let here = call-here (name_for c.args.direction) c.args.width c.args.value.now.name c.args.value.now.value c.in-Some.number c.in-Some.is (sym c.is_below.ensures ∙ c.if-not-is_below.false) in
    let taken = taken-free c.args.taken.now.keys calls c.in_ok-name.name c.in_ok-take.field-0 c.requires.taken c.in_ok-take.ensures.free ∙ ap not c.if-not-branch.true in
    let same = subst (λ (n : List ℕ). is_taken calls n ≡ true) c.in_ok-name.ensures taken in
    sym (ap (with_call calls) here ∙ with_taken calls (record { name = name_for c.args.direction c.args.value.now.name; value = c.in-Some.number }) same)

pub returns-clause-calls : goal.returns-clause-calls
returns-clause-calls c =
    let calls = c.args.calls.now in
    let here = call-here (name_for c.args.direction) c.args.width c.args.value.now.name c.args.value.now.value c.in-Some.number c.in-Some.is (sym c.is_below.ensures ∙ c.if-not-is_below.false) in
    let free = taken-free c.args.taken.now.keys calls c.in_ok-name.name c.in_ok-take.field-0 c.requires.taken c.in_ok-take.ensures.free ∙ ap not c.if-not-branch.false in
    let same = subst (λ (n : List ℕ). is_taken calls n ≡ false) c.in_ok-name.ensures free in
    IfOk-equal c.push.result c.push.new.self (calls ++ record { name = c.in_ok-name.name; value = c.in-Some.number } ∷ []) (with_call calls (call_of (name_for c.args.direction) c.args.width (plain_value c.args.value.now))) c.push.ensures.ok
    (ap (λ n. calls ++ record { name = n; value = c.in-Some.number } ∷ []) c.in_ok-name.ensures
    ∙ sym (ap (with_call calls) here ∙ with_free calls (record { name = name_for c.args.direction c.args.value.now.name; value = c.in-Some.number }) same))
