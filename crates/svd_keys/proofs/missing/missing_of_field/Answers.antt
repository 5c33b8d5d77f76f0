use Rattle.svd_schema.specs.declared.key.Key.TheVariants as key
use Rattle.svd_text.specs.Views.{element_of}
use Rattle.svd_keys.specs.Missing.{lack_key, missing_of, missing_place}
use Rattle.svd_keys.proofs.Lacks.{either-first}
use Rattle.svd_keys.proofs.missing.missing_of_field.Goals as goal

pub returns : goal.returns
unfolding missing_of
returns c = either-first c.lack.result c.missing_place.result c.or.result (lack_key key.Name (element_of c.args.element.now)) (missing_place (element_of c.args.element.now)) c.or.ensures c.lack.ensures c.missing_place.ensures
