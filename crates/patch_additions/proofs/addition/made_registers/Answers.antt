use Rattle.std.proofs.Common.{◌+◌, drop, map, refl, sym, ap, subst}
use Rattle.patch_additions.proofs.Loops.{MadeSoFar, lacks-more, lacks-none, lacks-why, made-end, made-more, made-start, register-item}
use Rattle.patch_additions.proofs.Refused.{registers-not-built}
use Rattle.patch_model.specs.Acts.{added_of, addition_under}
use Rattle.svd_model.proofs.Lists.{drop_past, from_place}
use Rattle.svd_model.specs.declared.device.Child.TheVariants as children
use Rattle.svd_model.specs.declared.device.Item.{roll-Item}
use Rattle.svd_model.specs.Steps.{register}
use Rattle.svd_model.specs.Trees.{item_under}
use Rattle.patch_additions.proofs.addition.made_registers.Goals as goal

pub loop-addition-init : goal.loop-addition-init
loop-addition-init c =
    let all = map addition_under c.args.additions.now in
    (refl, subst (λ items. MadeSoFar item_under all items all) (sym c.new-made.ensures.items) (made-start item_under all))

pub loop-addition-preserved : goal.loop-addition-preserved
loop-addition-preserved c =
    let all = map addition_under c.args.additions.now in
    let one = addition_under c.addition-item.result in
    let left = map addition_under (drop c.loop-addition.addition-index c.args.additions.now) in
    let rest = map addition_under (drop (c.loop-addition.addition-index + 1) c.args.additions.now) in
    let is = ap (map addition_under) (from_place c.args.additions.now c.loop-addition.addition-index c.addition-item.result c.loop-addition-test.true c.addition-item.is) in
    let made = c.in_ok-made_register.field-0 in (
      lacks-more register all one rest left is c.loop-addition.invariant.0 c.in_ok-made_register.ensures.0,
      subst (λ items. MadeSoFar item_under all items rest) (sym c.in_ok-push.ensures.items)
          (made-more item_under all c.loop-addition.made.items one rest left (roll-Item (record { key = c.in_ok-key.key; child = children.Register made })) is (register-item one c.in_ok-key.key made c.in_ok-key.ensures c.in_ok-made_register.ensures.1) c.loop-addition.invariant.1),
    )

pub returns : goal.returns
returns c =
    let all = map addition_under c.args.additions.now in
    let left = map addition_under (drop c.loop-addition.addition-index c.args.additions.now) in
    let is = ap (map addition_under) (drop_past c.args.additions.now c.loop-addition.addition-index c.loop-addition-test.false) in
    (lacks-none register all left is c.loop-addition.invariant.0, made-end item_under all c.loop-addition.made.items left is c.loop-addition.invariant.1)

pub returns-in_err-made_register : goal.returns-in_err-made_register
returns-in_err-made_register c =
    let all = map addition_under c.args.additions.now in
    let one = addition_under c.addition-item.result in
    let left = map addition_under (drop c.loop-addition.addition-index c.args.additions.now) in
    let rest = map addition_under (drop (c.loop-addition.addition-index + 1) c.args.additions.now) in
    let is = ap (map addition_under) (from_place c.args.additions.now c.loop-addition.addition-index c.addition-item.result c.loop-addition-test.true c.addition-item.is) in
    let why = c.in_err-made_register.field-0.0 in
    registers-not-built (added_of all) why c.from_residual-in_err-made_register.result c.from_residual-in_err-made_register.ensures.1 (lacks-why register all one rest left is c.loop-addition.invariant.0 why c.in_err-made_register.ensures)
