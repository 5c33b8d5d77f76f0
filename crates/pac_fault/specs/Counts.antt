-- What the lines of faults say of counts that pass their limit. This project's own texts.
use Rattle.std.specs.Prelude.{ℕ, List, ◌++◌, codes, decimal}
use Rattle.svd_model.specs.declared.counted.Counted.{Counted}
use Rattle.svd_model.specs.declared.counted.Counted.TheVariants as counted

unfoldable pub counted_text : Counted → List ℕ
counted_text counted.Elements = codes "elements"
counted_text counted.Registers = codes "registers"
counted_text counted.Fields = codes "fields"
counted_text counted.Values = codes "values"

-- more parts than the limit allows
unfoldable pub many_text : Counted → ℕ → List ℕ
many_text kind count = codes "too many " ++ (counted_text kind ++ (codes ": " ++ decimal count))
