use Rattle.std.proofs.Common.{ap, ◌∙◌, rules, ◌≡◌}
use Rattle.std.specs.Prelude.{is_some}
use Rattle.std.specs.Map.{lookup}
use Rattle.std.specs.Str.{bytes_eq}
use Rattle.case_table.specs.Entries.{entries_of}
use Rattle.rust_names.proofs.Lookup.{some_among}
use Rattle.rust_names.proofs.table.is_among.Goals as goal

pub returns : goal.returns
returns g c =
    let found : c.find.result ≡ lookup (bytes_eq c.args.text.now) (entries_of c.args.rows.now) = search rules in
    let told : c.is_some.result ≡ is_some c.find.result = search rules in
    told ∙ (ap is_some found ∙ some_among (bytes_eq c.args.text.now) (entries_of c.args.rows.now))
