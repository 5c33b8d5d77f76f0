use Rattle.std.proofs.Common.{◌∙◌, ap, sym, is_some}
use Rattle.std.specs.Map.{lookup}
use Rattle.std.specs.Str.{bytes_eq}
use Rattle.derive_build.proofs.Named.{none_more, one_more_of, kept-none, kept-passed, kept-first}
use Rattle.derive_build.proofs.children.keep.Goals as goal

pub returns-then-has : goal.returns-then-has
returns-then-has c = λ mine before holds names.
    none_more c.args.owns.now c.args.made.now.items _
    (kept-passed c.args.owns.now mine before c.args.child c.args.own.now c.args.passed.now holds names c.in-Some.first
    (ap (λ n. lookup (bytes_eq n) c.args.own.now) (sym c.name_of-name.ensures) ∙ sym c.get.ensures ∙ c.in-Some.is)
    (ap (λ n. is_some (lookup (bytes_eq n) c.args.passed.now)) (sym c.name_of-name.ensures) ∙ sym c.has.ensures ∙ c.if-has.true))

pub returns-in_ok-push-in-Some : goal.returns-in_ok-push-in-Some
returns-in_ok-push-in-Some c = λ mine before holds names.
    one_more_of c.args.owns.now c.args.made.now.items c.push.new.self.items c.in-Some.first _ c.in_ok-push-in-Some.ensures.items
    (kept-first c.args.owns.now mine before c.args.child c.args.own.now c.args.passed.now holds names c.in-Some.first
    (ap (λ n. lookup (bytes_eq n) c.args.own.now) (sym c.name_of-name.ensures) ∙ sym c.get.ensures ∙ c.in-Some.is)
    (ap (λ n. is_some (lookup (bytes_eq n) c.args.passed.now)) (sym c.name_of-name.ensures) ∙ sym c.has.ensures ∙ c.if-has.false))

pub returns-in_ok-push-in-None : goal.returns-in_ok-push-in-None
returns-in_ok-push-in-None c = λ mine before holds names.
    one_more_of c.args.owns.now c.args.made.now.items c.push-in-None.new.self.items c.args.child _ c.in_ok-push-in-None.ensures.items
    (kept-none c.args.owns.now mine before c.args.child c.args.own.now c.args.passed.now holds names
    (ap (λ n. lookup (bytes_eq n) c.args.own.now) (sym c.name_of-name.ensures) ∙ sym c.get.ensures ∙ c.in-None.is))
