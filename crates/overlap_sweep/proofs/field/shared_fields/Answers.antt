-- The members of the next field, and of those behind it.
use Rattle.std.proofs.Common.{◌&&◌, option_map, sym, ap, ◌∙◌, subst}
use Rattle.std.specs.List.{AllByRecursion}
use Rattle.pac_base.specs.Widths.{bits_of}
use Rattle.overlap_sweep.specs.Fields.{told_fields}
use Rattle.overlap_sweep.specs.Kept.{all_spots, declared_spots, entry_spots, kept_all, kept_pair}
use Rattle.overlap_sweep.proofs.Sharing.{entry-none, entry-some, fields-shared, nothing-kept, offset-small}
use Rattle.reg_table.specs.Fields.{FieldFits}
use Rattle.svd_model.specs.Checking.{width_of}
use Rattle.svd_model.specs.Properties.{access_at, can_read, can_write, passes_at, register_properties, size_at}
use Rattle.overlap_sweep.proofs.field.shared_fields.Goals as goal

pub first_in_field-requires : goal.first_in_field-requires
first_in_field-requires c =
    let fit = subst (AllByRecursion (FieldFits (bits_of (width_of (size_at (register_properties c.args.register.now c.args.outer.now)))))) c.in-Some.ensures.steps c.loop-key.invariant.fit in
    offset-small (width_of (size_at (register_properties c.args.register.now c.args.outer.now))) (c.in-Some.key.now, c.in-Some.field.now) fit.0

pub returns-in-Some-found : goal.returns-in-Some-found
returns-in-Some-found c =
    let register = c.args.register.now in
    let outer = c.args.outer.now in
    let key = c.in-Some.key.now in
    let field = c.in-Some.field.now in
    let can_be_read = can_read (access_at register outer) in
    let can_be_written = can_write (access_at register outer) in
    let readable = c.facts-own.ensures.readable ∙ ap (λ b. b && passes_at can_read field.access) c.facts-facts.ensures.readable in
    let writable = c.facts-own.ensures.writable ∙ ap (λ b. b && passes_at can_write field.access) c.facts-facts.ensures.writable in
    let found = sym c.in-Some-found.is ∙ c.in_ok-found.ensures.found ∙ (λ i. option_map told_fields (kept_pair c.loop-key.kept (declared_spots (readable i) (writable i) key field))) in
    sym (fields-shared register outer c.requires.distinct
    ∙ ap (option_map told_fields) (c.loop-key.invariant.left ∙ ap (λ entries. kept_pair c.loop-key.kept (all_spots can_be_read can_be_written entries)) c.in-Some.ensures.steps)
    ∙ entry-some c.loop-key.kept (entry_spots can_be_read can_be_written (key, field)) (all_spots can_be_read can_be_written c.next.new.self) c.in-Some-found.pair found)

pub loop-key-preserved : goal.loop-key-preserved
loop-key-preserved c =
    let register = c.args.register.now in
    let outer = c.args.outer.now in
    let key = c.in-Some.key.now in
    let field = c.in-Some.field.now in
    let can_be_read = can_read (access_at register outer) in
    let can_be_written = can_write (access_at register outer) in
    let readable = c.facts-own.ensures.readable ∙ ap (λ b. b && passes_at can_read field.access) c.facts-facts.ensures.readable in
    let writable = c.facts-own.ensures.writable ∙ ap (λ b. b && passes_at can_write field.access) c.facts-facts.ensures.writable in
    let found = sym c.in_default.is ∙ c.in_ok-found.ensures.found ∙ (λ i. option_map told_fields (kept_pair c.loop-key.kept (declared_spots (readable i) (writable i) key field))) in
    let kept_is = c.in_ok-found.ensures.kept c.in_default.is ∙ (λ i. kept_all c.loop-key.kept (declared_spots (readable i) (writable i) key field)) in
    let fit = subst (AllByRecursion (FieldFits (bits_of (width_of (size_at (register_properties register outer)))))) c.in-Some.ensures.steps c.loop-key.invariant.fit in
    record {
      left =
          c.loop-key.invariant.left
          ∙ ap (λ entries. kept_pair c.loop-key.kept (all_spots can_be_read can_be_written entries)) c.in-Some.ensures.steps
          ∙ entry-none c.loop-key.kept (entry_spots can_be_read can_be_written (key, field)) (all_spots can_be_read can_be_written c.next.new.self) found
          ∙ ap (λ kept. kept_pair kept (all_spots can_be_read can_be_written c.next.new.self)) (sym kept_is);
      fit = fit.1;
    }

pub returns : goal.returns
returns c =
    let can_be_read = can_read (access_at c.args.register.now c.args.outer.now) in
    let can_be_written = can_write (access_at c.args.register.now c.args.outer.now) in
    sym (fields-shared c.args.register.now c.args.outer.now c.requires.distinct
    ∙ ap (option_map told_fields) (c.loop-key.invariant.left ∙ ap (λ entries. kept_pair c.loop-key.kept (all_spots can_be_read can_be_written entries)) c.in-None.ensures.steps.0 ∙ (nothing-kept c.loop-key.kept).0))
