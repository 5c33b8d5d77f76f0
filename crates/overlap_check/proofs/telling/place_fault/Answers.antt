-- The kinds one after the other: the first that has a fault decides.
use Rattle.std.proofs.Common.{sym, ap, ◌∙◌}
use Rattle.overlap_check.specs.declared.rule.Rule.TheVariants.{Range, Alignment, Fields}
use Rattle.overlap_check.specs.Ruled.{broken_in, place_fault_in}
use Rattle.overlap_check.specs.Walks.{or_else}
use Rattle.overlap_check.proofs.telling.place_fault.Goals as goal

pub returns-in-Some : goal.returns-in-Some
unfolding place_fault_in
returns-in-Some c =
    let device = c.args.device.now in
    let width = sym c.in_ok-width.ensures ∙ c.in-Some.is in
    sym (ap (λ o. or_else o (or_else (broken_in Range device) (or_else (broken_in Alignment device) (broken_in Fields device)))) width)

pub returns-in-Some-range : goal.returns-in-Some-range
unfolding place_fault_in
returns-in-Some-range c =
    let device = c.args.device.now in
    let width = sym c.in_ok-width.ensures ∙ c.in_default.is in
    let range = sym c.in_ok-range.ensures ∙ c.in-Some-range.is in
    sym (λ i. or_else (width i) (or_else (range i) (or_else (broken_in Alignment device) (broken_in Fields device))))

pub returns-in-Some-alignment : goal.returns-in-Some-alignment
unfolding place_fault_in
returns-in-Some-alignment c =
    let device = c.args.device.now in
    let width = sym c.in_ok-width.ensures ∙ c.in_default.is in
    let range = sym c.in_ok-range.ensures ∙ c.in_default-range.is in
    let alignment = sym c.in_ok-alignment.ensures ∙ c.in-Some-alignment.is in
    sym (λ i. or_else (width i) (or_else (range i) (or_else (alignment i) (broken_in Fields device))))

pub returns : goal.returns
unfolding place_fault_in
returns c =
    let device = c.args.device.now in
    let width = sym c.in_ok-width.ensures ∙ c.in_default.is in
    let range = sym c.in_ok-range.ensures ∙ c.in_default-range.is in
    let alignment = sym c.in_ok-alignment.ensures ∙ c.in_default-alignment.is in
    c.in_ok-field.ensures ∙ sym (λ i. or_else (width i) (or_else (range i) (or_else (alignment i) (broken_in Fields device))))
