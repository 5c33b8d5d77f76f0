-- Each value adds the call that it has.
use Rattle.std.proofs.Common.{◌≡◌, ◌+◌, List, map, drop, filter_map, Option, None, Some, refl, sym, ap, ◌∙◌}
use Rattle.std.specs.List.{cons_option}
use Rattle.reg_table.specs.Calls.{call_name, call_of, name_for, plain_value, calls_of, with_call}
use Rattle.reg_table.specs.declared.row.Call.{Call}
use Rattle.reg_table.proofs.Calling.{calls_left, one_more, all_left, none_left}
use Rattle.svd_model.proofs.Lists.{from_place, drop_past}
use Rattle.reg_table.proofs.calls.calls_of_values.Goals as goal

more : (made : List Call) (o : Option Call) (rest : List Call) → calls_left (with_call made o) rest ≡ calls_left made (cons_option o rest)
more made None rest = refl
more made (Some call) rest = one_more made call rest

pub loop-value-init : goal.loop-value-init
unfolding calls_of
loop-value-init c = record {
  calls =
      ap (λ made. calls_left made (filter_map (call_of (name_for c.args.direction) c.args.width) (map plain_value c.args.values.now))) c.new-calls.ensures
      ∙ all_left (filter_map (call_of (name_for c.args.direction) c.args.width) (map plain_value c.args.values.now));
  taken = c.new-taken.ensures.empty ∙ sym (ap (map call_name) c.new-calls.ensures);
}

pub loop-value-preserved : goal.loop-value-preserved
loop-value-preserved c =
    let rest = filter_map (call_of (name_for c.args.direction) c.args.width) (map plain_value (drop (c.loop-value.value-index + 1) c.args.values.now)) in
    record {
      calls =
          ap (λ made. calls_left made rest) c.in_ok-push_call.ensures.calls
          ∙ more c.loop-value.calls (call_of (name_for c.args.direction) c.args.width (plain_value c.value-item.result)) rest
          ∙ sym (ap (λ left. calls_left c.loop-value.calls (filter_map (call_of (name_for c.args.direction) c.args.width) (map plain_value left))) (from_place c.args.values.now c.loop-value.value-index c.value-item.result c.loop-value-test.true c.value-item.is))
          ∙ c.loop-value.invariant.calls;
      taken = c.in_ok-push_call.ensures.taken;
    }

pub returns : goal.returns
returns c =
    sym (sym c.loop-value.invariant.calls
    ∙ ap (λ left. calls_left c.loop-value.calls (filter_map (call_of (name_for c.args.direction) c.args.width) (map plain_value left))) (drop_past c.args.values.now c.loop-value.value-index c.loop-value-test.false)
    ∙ none_left c.loop-value.calls)
