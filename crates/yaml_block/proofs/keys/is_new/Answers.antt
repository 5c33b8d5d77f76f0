use Rattle.std.proofs.Common.{not, ap, sym, ◌∙◌, List, ℕ}
use Rattle.std.specs.Borrow.{Bor}
use Rattle.std.specs.Str.{bytes_eq}
use Rattle.yaml_block.proofs.Doubles.{list_any-map}
use Rattle.yaml_block.proofs.keys.is_new.Goals as goal

pub returns-clause-new : goal.returns-clause-new
returns-clause-new c =
    rw (← c.as_str.ensures, ← c.as_bytes.ensures.value)
    (c.in_ok-insert.ensures.added ∙ ap not (sym (list_any-map (bytes_eq c.as_bytes.result.now) (λ (key : Bor (List ℕ)). key.now) c.args.seen.now.keys)))
