-- Past the last word there is none.
use Rattle.std.proofs.Common.{[], unwrap_or, ap, ◌∙◌}
use Rattle.std.proofs.lemmas.Option.{unwrap_or-slice_get}
use Rattle.dim_expand.proofs.index.word.Goals as goal

pub returns-in-None : goal.returns-in-None
returns-in-None c =
    c.new.ensures.items ∙ ap (λ o. unwrap_or o []) c.in-None.ensures ∙ unwrap_or-slice_get c.args.words.now c.args.place []
