use Rattle.std.proofs.Common.{sym, ap, ◌∙◌, map, List, ◌∷◌, not, ◌++◌, [], ℕ}
use Rattle.std.specs.Borrow.{Bor}
use Rattle.std.specs.List.{list_any}
use Rattle.std.specs.Str.{bytes_eq}
use Rattle.frag_rules.specs.Held.{names_seen}
use Rattle.frag_rules.proofs.Distinct.{fresh-all, fresh-done, fresh-more, fresh-stops, fresh_behind}
use Rattle.frag_rules.proofs.ByName.{bytes-turned, none-left}
use Rattle.frag_rules.proofs.named.first_again.Goals as goal

pub loop-first-init : goal.loop-first-init
loop-first-init g c =
    ap (λ names. fresh_behind bytes_eq names (map g.T.HasName.name_of c.args.items.now)) (ap (λ (keys : List (Bor (List ℕ))). map (λ (name : Bor (List ℕ)). name.now) keys) c.new-seen.ensures.empty) ∙ fresh-all bytes_eq bytes-turned (map g.T.HasName.name_of c.args.items.now)

pub loop-first-preserved : goal.loop-first-preserved
loop-first-preserved g c =
    fresh-more bytes_eq (names_seen c.loop-first.seen) (names_seen c.is_new.new.seen) (map g.T.HasName.name_of c.loop-first.rest.now) (map g.T.HasName.name_of c.in-Some.others.now) (g.T.HasName.name_of c.in-Some.first.now)
    (ap (map g.T.HasName.name_of) c.in-Some.ensures.cases.0)
    (sym c.if-not-branch.false ∙ (c.in_ok-is_new.ensures.new ∙ ap (λ name. not (list_any (bytes_eq name) (names_seen c.loop-first.seen))) c.own_name.ensures))
    (c.in_ok-is_new.ensures.kept c.if-not-branch.false ∙ ap (λ name. names_seen c.loop-first.seen ++ name ∷ []) c.own_name.ensures)
    ∙ c.loop-first.invariant

pub returns-then-not-branch : goal.returns-then-not-branch
returns-then-not-branch g c =
    fresh-stops bytes_eq (names_seen c.loop-first.seen) (map g.T.HasName.name_of c.loop-first.rest.now) (map g.T.HasName.name_of c.in-Some.others.now) (g.T.HasName.name_of c.in-Some.first.now)
    (ap (map g.T.HasName.name_of) c.in-Some.ensures.cases.0)
    (sym c.if-not-branch.true ∙ (c.in_ok-is_new.ensures.new ∙ ap (λ name. not (list_any (bytes_eq name) (names_seen c.loop-first.seen))) c.own_name.ensures))
    ∙ c.loop-first.invariant

pub returns : goal.returns
returns g c = fresh-done bytes_eq (names_seen c.loop-first.seen) (map g.T.HasName.name_of c.loop-first.rest.now) (ap (map g.T.HasName.name_of) (none-left _ c.in_default.ensures.cases)) ∙ c.loop-first.invariant
