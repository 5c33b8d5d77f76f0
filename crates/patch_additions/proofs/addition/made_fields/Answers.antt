use Rattle.std.proofs.Common.{◌+◌, drop, map, refl, sym, ap, subst}
use Rattle.patch_additions.proofs.Loops.{PutSoFar, lacks-more, lacks-none, lacks-why, put-end, put-more, put-start}
use Rattle.patch_additions.proofs.Refused.{fields-not-built}
use Rattle.patch_model.specs.Acts.{added_of, addition_under}
use Rattle.svd_model.proofs.Lists.{drop_past, from_place}
use Rattle.svd_model.specs.Steps.{field}
use Rattle.patch_additions.proofs.addition.made_fields.Goals as goal

pub loop-addition-init : goal.loop-addition-init
loop-addition-init c =
    let all = map addition_under c.args.additions.now in
    (refl, subst (λ entries. PutSoFar all entries all) (sym c.new-made.ensures.empty) (put-start all))

pub loop-addition-preserved : goal.loop-addition-preserved
loop-addition-preserved c =
    let all = map addition_under c.args.additions.now in
    let one = addition_under c.addition-item.result in
    let left = map addition_under (drop c.loop-addition.addition-index c.args.additions.now) in
    let rest = map addition_under (drop (c.loop-addition.addition-index + 1) c.args.additions.now) in
    let is = ap (map addition_under) (from_place c.args.additions.now c.loop-addition.addition-index c.addition-item.result c.loop-addition-test.true c.addition-item.is) in
    (lacks-more field all one rest left is c.loop-addition.invariant.0 c.in_ok-field.ensures.0, put-more all c.loop-addition.made.entries c.insert.new.self.entries one rest left c.in_ok-key.key c.in_ok-field.field is c.in_ok-key.ensures c.in_ok-field.ensures.1 c.in_ok-insert.ensures.entries c.loop-addition.invariant.1)

pub returns : goal.returns
returns c =
    let all = map addition_under c.args.additions.now in
    let left = map addition_under (drop c.loop-addition.addition-index c.args.additions.now) in
    let is = ap (map addition_under) (drop_past c.args.additions.now c.loop-addition.addition-index c.loop-addition-test.false) in
    (lacks-none field all left is c.loop-addition.invariant.0, put-end all c.loop-addition.made.entries left is c.loop-addition.invariant.1)

pub returns-in_err-field : goal.returns-in_err-field
returns-in_err-field c =
    let all = map addition_under c.args.additions.now in
    let one = addition_under c.addition-item.result in
    let left = map addition_under (drop c.loop-addition.addition-index c.args.additions.now) in
    let rest = map addition_under (drop (c.loop-addition.addition-index + 1) c.args.additions.now) in
    let is = ap (map addition_under) (from_place c.args.additions.now c.loop-addition.addition-index c.addition-item.result c.loop-addition-test.true c.addition-item.is) in
    let why = c.in_err-field.field-0.0 in
    fields-not-built (added_of all) why c.from_residual-in_err-field.result c.from_residual-in_err-field.ensures.1 (lacks-why field all one rest left is c.loop-addition.invariant.0 why c.in_err-field.ensures)
