use Rattle.std.proofs.Common.{not, ap, sym, ◌∙◌, List, ℕ}
use Rattle.std.specs.Borrow.{Bor}
use Rattle.std.specs.Str.{bytes_eq}
use Rattle.xml_text.proofs.Keeping.{list_any-map}
use Rattle.xml_text.proofs.attributes.is_new.Goals as goal

pub returns-clause-new : goal.returns-clause-new
returns-clause-new c =
    c.in_ok-insert.ensures.added
    ∙ ap not (sym (list_any-map (bytes_eq c.args.attribute.now.name.now) (λ (key : Bor (List ℕ)). key.now) c.args.seen.now.keys))
