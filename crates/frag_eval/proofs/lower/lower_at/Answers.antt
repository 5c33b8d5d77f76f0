use Rattle.std.proofs.Common.{ℕ, ap, List, Some, ◌∙◌}
use Rattle.frag_index.specs.Walks.{found_seen}
use Rattle.frag_tree.specs.declared.statement.Link.{Link}
use Rattle.frag_tree.specs.declared.statement.Statement.TheVariants as statement
use Rattle.frag_sem.specs.Meaning.{modify_outcome, write_outcome}
use Rattle.frag_eval.specs.Lowered.{acts_found, standing_of}
use Rattle.frag_eval.proofs.Growing.{as_let, as_modify, as_reset, as_write, as_write_with_zero, dues_found, grows_as, if_ok_map}
use Rattle.frag_eval.proofs.lower.lower_at.Goals as goal

pub returns-in-Let : goal.returns-in-Let
returns-in-Let c =
    if_ok_map c.lower_let.result
    (λ done grows krate calls. grows_as _ _ _ _ _ _ grows (as_let krate c.args.line.now c.in-Let.name c.in-Let.place (Some (found_seen c.args.found)) c.in-Let.is calls) (dues_found krate c.args.line.now (statement.Let c.in-Let.name c.in-Let.place) (found_seen c.args.found) c.in-Let.is calls))
    c.lower_let.ensures

pub returns-in-Write : goal.returns-in-Write
returns-in-Write c =
    if_ok_map c.lower_write.result
    (λ done grows krate calls. grows_as _ _ _ _ _ _ grows
    (λ answers names.
    ap (λ (chain : List Link). write_outcome chain (standing_of answers names) (acts_found c.args.found) c.started-base.result) c.as_slice.ensures
    ∙ (ap (λ (base : ℕ). write_outcome c.in-Write.chain (standing_of answers names) (acts_found c.args.found) base) c.started-base.ensures
    ∙ as_write krate c.args.line.now c.in-Write.place c.in-Write.chain (Some (found_seen c.args.found)) c.in-Write.is calls answers names))
    (dues_found krate c.args.line.now (statement.Write c.in-Write.place c.in-Write.chain) (found_seen c.args.found) c.in-Write.is calls))
    c.lower_write.ensures

pub returns-in-WriteWithZero : goal.returns-in-WriteWithZero
returns-in-WriteWithZero c =
    if_ok_map c.lower_write-in-WriteWithZero.result
    (λ done grows krate calls. grows_as _ _ _ _ _ _ grows
    (λ answers names.
    ap (λ (chain : List Link). write_outcome chain (standing_of answers names) (acts_found c.args.found) 0) c.as_slice-in-WriteWithZero.ensures
    ∙ as_write_with_zero krate c.args.line.now c.in-WriteWithZero.place c.in-WriteWithZero.chain (Some (found_seen c.args.found)) c.in-WriteWithZero.is calls answers names)
    (dues_found krate c.args.line.now (statement.WriteWithZero c.in-WriteWithZero.place c.in-WriteWithZero.chain) (found_seen c.args.found) c.in-WriteWithZero.is calls))
    c.lower_write-in-WriteWithZero.ensures

pub returns-in-Modify : goal.returns-in-Modify
returns-in-Modify c =
    if_ok_map c.lower_modify.result
    (λ done grows krate calls. grows_as _ _ _ _ _ _ grows
    (λ answers names.
    ap (λ (chain : List Link). modify_outcome c.in-Modify.names_reader chain (standing_of answers names) (acts_found c.args.found)) c.as_slice-in-Modify.ensures
    ∙ as_modify krate c.args.line.now c.in-Modify.place c.in-Modify.names_reader c.in-Modify.chain (Some (found_seen c.args.found)) c.in-Modify.is calls answers names)
    (dues_found krate c.args.line.now (statement.Modify c.in-Modify.place c.in-Modify.names_reader c.in-Modify.chain) (found_seen c.args.found) c.in-Modify.is calls))
    c.lower_modify.ensures

pub returns-in-Reset : goal.returns-in-Reset
returns-in-Reset c =
    if_ok_map c.lower_reset.result
    (λ done grows krate calls. grows_as _ _ _ _ _ _ grows (as_reset krate c.args.line.now c.in-Reset.place (Some (found_seen c.args.found)) c.in-Reset.is calls) (dues_found krate c.args.line.now (statement.Reset c.in-Reset.place) (found_seen c.args.found) c.in-Reset.is calls))
    c.lower_reset.ensures
