-- What the parted children come to.
use Rattle.std.proofs.Common.{inr, sym, ap, ◌∙◌, eqb-true, eq-eqb}
use Rattle.std.specs.List.{list_any}
use Rattle.std.specs.Str.{bytes_eq}
use Rattle.patch_arrays.proofs.Arranged.{arranged-by, distinct-by, no-items, no_both, none-arranged, refused-by, some-items}
use Rattle.patch_arrays.proofs.Merged.{parted-counted}
use Rattle.patch_arrays.specs.Arranging.{is_member}
use Rattle.patch_arrays.specs.Members.{under_key}
use Rattle.patch_arrays.proofs.arranging.arrange.Goals as goal

pub returns-then-is_empty-clause-arranged : goal.returns-then-is_empty-clause-arranged
returns-then-is_empty-clause-arranged g c =
    inr (none-arranged g.M.Member.seen g.M.Member.known c.args.line c.args.pattern.now c.args.name.now c.args.children.items c.in-Ok.parted c.in-Ok.ensures
    (no-items c.in-Ok.parted.members.items (sym c.in-Ok.parted.members.ok.0 ∙ eqb-true _ _ (sym c.is_empty.ensures ∙ c.if-is_empty.true))))

pub returns-then-has_name-clause-arranged : goal.returns-then-has_name-clause-arranged
returns-then-has_name-clause-arranged g c =
    refused-by g.M.Member.seen g.M.Member.known c.args.line c.args.pattern.now c.args.name.now c.args.children.items c.in-Ok.parted c.in-Ok.ensures
    (some-items c.in-Ok.parted.members.items (λ none. no_both _ (eq-eqb _ _ (c.in-Ok.parted.members.ok.0 ∙ none)) (sym c.is_empty.ensures ∙ c.if-is_empty.false)))
    (sym (ap (list_any (λ entry. bytes_eq c.args.name.now entry.0.name)) c.as_slice.ensures.value) ∙ sym c.has_name.ensures ∙ c.if-has_name.true) c.exists.result c.exists.ensures

pub returns-clause-arranged : goal.returns-clause-arranged
returns-clause-arranged g c =
    arranged-by g.M.Member.seen g.M.Member.known c.args.line c.args.pattern.now c.args.name.now c.args.children.items c.in-Ok.parted c.in-Ok.ensures
    (some-items c.in-Ok.parted.members.items (λ none. no_both _ (eq-eqb _ _ (c.in-Ok.parted.members.ok.0 ∙ none)) (sym c.is_empty.ensures ∙ c.if-is_empty.false)))
    (sym (ap (list_any (λ entry. bytes_eq c.args.name.now entry.0.name)) c.as_slice.ensures.value) ∙ sym c.has_name.ensures ∙ c.if-has_name.false) c.arrange_parted.result c.arrange_parted.ensures.made

pub returns-clause-distinct : goal.returns-clause-distinct
returns-clause-distinct g c =
    distinct-by g.M.Member.seen g.M.Member.known c.args.line c.args.pattern.now c.args.name.now c.args.children.items c.in-Ok.parted c.in-Ok.ensures
    (some-items c.in-Ok.parted.members.items (λ none. no_both _ (eq-eqb _ _ (c.in-Ok.parted.members.ok.0 ∙ none)) (sym c.is_empty.ensures ∙ c.if-is_empty.false)))
    (sym (ap (list_any (λ entry. bytes_eq c.args.name.now entry.0.name)) c.as_slice.ensures.value) ∙ sym c.has_name.ensures ∙ c.if-has_name.false) c.arrange_parted.result c.arrange_parted.ensures.made

pub returns-clause-counted : goal.returns-clause-counted
returns-clause-counted g c =
    parted-counted g.M.Member.seen (λ entry. is_member c.args.pattern.now (under_key g.M.Member.seen entry)) c.args.children.items c.in-Ok.parted c.arrange_parted.result c.args.total.now c.arrange_parted.new.total c.in-Ok.ensures c.arrange_parted.ensures.counted
