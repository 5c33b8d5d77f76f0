use Rattle.std.specs.Prelude.{IfSome}
use Rattle.std.proofs.Common.{subst, ◌<◌, ◌∙◌, map, cond, length, None, Some, option_map, option_and_then, sym, ap, arith}
use Rattle.std.proofs.lemmas.List.{length-map}
use Rattle.derive_sources.specs.Entries.{plain, kind_of}
use Rattle.derive_sources.specs.Numbers.{Item, path_at, is_of_kind}
use Rattle.derive_sources.proofs.Seats.{kind_tested}
use Rattle.derived_rows.specs.Sources.{of_kind}
use Rattle.derive_sources.proofs.source.of_kind.Goals as goal

pub returns-then-is_of : goal.returns-then-is_of
returns-then-is_of g c = sym
    (ap (λ o. option_and_then (of_kind (kind_of c.args.kind)) (option_map (path_at g.all) o)) c.in-Some.is
    ∙ kind_tested g.all (map plain c.args.entries.now) c.requires.0 (kind_of c.args.kind) c.in-Some.number c.is_of.result (omega (arith, subst (λ o. IfSome o (λ n. n < length c.args.entries.now)) c.in-Some.is c.requires.1, length-map c.args.entries.now plain))
    (c.is_of.ensures ∙ ap (λ (item : Item). is_of_kind (kind_of c.args.kind) item.kind) c.entry_at.ensures)
    ∙ ap (λ b. cond b (Some (path_at g.all c.in-Some.number)) None) c.if-is_of.true)

pub returns-else-is_of : goal.returns-else-is_of
returns-else-is_of g c = sym
    (ap (λ o. option_and_then (of_kind (kind_of c.args.kind)) (option_map (path_at g.all) o)) c.in-Some.is
    ∙ kind_tested g.all (map plain c.args.entries.now) c.requires.0 (kind_of c.args.kind) c.in-Some.number c.is_of.result (omega (arith, subst (λ o. IfSome o (λ n. n < length c.args.entries.now)) c.in-Some.is c.requires.1, length-map c.args.entries.now plain))
    (c.is_of.ensures ∙ ap (λ (item : Item). is_of_kind (kind_of c.args.kind) item.kind) c.entry_at.ensures)
    ∙ ap (λ b. cond b (Some (path_at g.all c.in-Some.number)) None) c.if-is_of.false)
