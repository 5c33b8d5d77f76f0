use Rattle.std.proofs.Common.{ℕ, ◌∙◌, ◌≤◌, ◌^◌, ◌∷◌, ◌++◌, [], List, sym, ap, ap₂, subst, take_all}
use Rattle.std.proofs.lemmas.List.{map_more, drop_all}
use Rattle.std.specs.List.{AllByRecursion}
use Rattle.frag_tree.specs.declared.access.Access.{Access}
use Rattle.block_form.specs.declared.child.Child.{Child}
use Rattle.block_form.specs.Children.{IsAlignment}
use Rattle.block_form.specs.Forms.{access_of, accessors_for, is_named, taken_of}
use Rattle.block_form.specs.Numbers.{IsNumbered, IsValid}
use Rattle.block_form.proofs.Extents.{align_fits, end_fits}
use Rattle.block_form.proofs.Valid.{form_valid, formed, one_more}
use Rattle.block_form.proofs.form.block_form.Goals as goal

pub loop-child-preserved : goal.loop-child-preserved
loop-child-preserved c =
    let children = c.args.children.now in
    let i = c.loop-child.child-index in
    let item = c.child-item.result in
    let f = λ (child : Child). access_of (is_named child.name (taken_of children)) child in
    let taken = c.has.ensures ∙ c.in_ok-placing.ensures.names item.name in
    let made = c.in_ok-access.ensures ∙ (ap (λ b. access_of b item) taken ∙ ap f c.child-item.is) in
    record {
      accessors =
          c.in_ok-push.ensures.ok
          ∙ (ap₂ (λ (l : List Access) x. l ++ x ∷ []) c.loop-child.invariant.accessors made
          ∙ sym (map_more f children i item c.loop-child-test.true));
      numbers = λ rest. c.loop-child.invariant.numbers (one_more children i item c.loop-child-test.true c.child-item.is c.numbers.ensures rest);
    }

pub rounded-requires-clause-within : goal.rounded-requires-clause-within
rounded-requires-clause-within c = subst (λ (n : ℕ). n ≤ 2 ^ 64) (sym c.in_ok-placing.ensures.end) (end_fits c.args.children.now c.requires.sound)

pub rounded-requires-clause-aligned : goal.rounded-requires-clause-aligned
rounded-requires-clause-aligned c = subst IsAlignment (sym c.in_ok-placing.ensures.align) (align_fits c.args.children.now c.requires.sound)

pub returns-clause-form : goal.returns-clause-form
returns-clause-form c = formed c.args.children.now c.in_ok-placing.placing c.loop-child.accessors c.rounded.result c.in_ok-placing.ensures (c.loop-child.invariant.accessors ∙ ap (accessors_for (taken_of c.args.children.now)) (take_all c.loop-child.child-index c.args.children.now c.loop-child-test.false)) c.rounded.ensures

pub returns-clause-valid : goal.returns-clause-valid
returns-clause-valid c =
    let children = c.args.children.now in
    let accessors = c.loop-child.invariant.accessors ∙ ap (accessors_for (taken_of children)) (take_all c.loop-child.child-index children c.loop-child-test.false) in
    subst IsValid (sym (formed children c.in_ok-placing.placing c.loop-child.accessors c.rounded.result c.in_ok-placing.ensures accessors c.rounded.ensures))
    (form_valid children (c.loop-child.invariant.numbers (subst (AllByRecursion IsNumbered) (sym (drop_all c.loop-child.child-index children c.loop-child-test.false)) tt)))
