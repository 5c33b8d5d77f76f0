use Rattle.std.proofs.Common.{ℕ, List, Some, sym, ap, ◌∙◌}
use Rattle.glob_select.specs.Naming.{without_open}
use Rattle.glob_select.specs.Reading.{alternatives_of}
use Rattle.glob_select.proofs.PlainItems.{open_several, open_at}
use Rattle.glob_select.proofs.pattern.Pattern.without_open.Goals as goal

pub returns-in-Some : goal.returns-in-Some
returns-in-Some c =
    open_several _ _ (sym c.in-Some.ensures.read) ∙ ap (λ (text : List ℕ). without_open (alternatives_of text)) c.as_slice-text.ensures.value ∙ ap without_open c.self.view_is

pub returns-then-not-has_one_open : goal.returns-then-not-has_one_open
returns-then-not-has_one_open c =
    open_at c.as_slice-text.result.now c.after_spaces-items.result.now c.has_one_open.result _ (sym c.in_default.ensures.read) c.after_spaces-items.ensures c.has_one_open.ensures c.if-not-has_one_open.true
    ∙ ap (λ (text : List ℕ). without_open (alternatives_of text)) c.as_slice-text.ensures.value ∙ ap without_open c.self.view_is

pub returns : goal.returns
returns c =
    ap Some c.in_ok-plain_text.ensures ∙
    open_at c.as_slice-text.result.now c.after_spaces-items.result.now c.has_one_open.result _ (sym c.in_default.ensures.read) c.after_spaces-items.ensures c.has_one_open.ensures c.if-not-has_one_open.false
    ∙ ap (λ (text : List ℕ). without_open (alternatives_of text)) c.as_slice-text.ensures.value ∙ ap without_open c.self.view_is
