use Rattle.std.proofs.Common.{◌∙◌, ap, sym, true, false, is_some, refl}
use Rattle.std.specs.Map.{lookup}
use Rattle.std.specs.Str.{bytes_eq}
use Rattle.derive_build.proofs.Named.{none_more, one_more_of, added-by}
use Rattle.derive_build.proofs.children.add.Goals as goal

pub returns-in_ok-push : goal.returns-in_ok-push
returns-in_ok-push c = λ theirs before holds names.
    one_more_of c.args.owns.now c.args.made.now.items c.push.new.self.items c.args.child _ c.in_ok-push.ensures.items
    (added-by c.args.owns.now theirs before c.args.child c.args.source.now c.args.passed.now holds names true true
    (ap (λ n. is_some (lookup (bytes_eq n) c.args.source.now)) (sym c.name_of-name.ensures) ∙ sym c.has.ensures ∙ c.if-has.true)
    (ap (λ n. is_some (lookup (bytes_eq n) c.args.passed.now)) (sym c.name_of-name.ensures) ∙ sym c.has-then-has.ensures ∙ c.if-has-2.true))

pub returns-else-has-2 : goal.returns-else-has-2
returns-else-has-2 c = λ theirs before holds names.
    none_more c.args.owns.now c.args.made.now.items _
    (added-by c.args.owns.now theirs before c.args.child c.args.source.now c.args.passed.now holds names true false
    (ap (λ n. is_some (lookup (bytes_eq n) c.args.source.now)) (sym c.name_of-name.ensures) ∙ sym c.has.ensures ∙ c.if-has.true)
    (ap (λ n. is_some (lookup (bytes_eq n) c.args.passed.now)) (sym c.name_of-name.ensures) ∙ sym c.has-then-has.ensures ∙ c.if-has-2.false))

pub returns : goal.returns
returns c = λ theirs before holds names.
    one_more_of c.args.owns.now c.args.made.now.items c.push-2.new.self.items c.args.child _ c.in_ok-push-2.ensures.items
    (added-by c.args.owns.now theirs before c.args.child c.args.source.now c.args.passed.now holds names false _
    (ap (λ n. is_some (lookup (bytes_eq n) c.args.source.now)) (sym c.name_of-name.ensures) ∙ sym c.has.ensures ∙ c.if-has.false)
    refl)
