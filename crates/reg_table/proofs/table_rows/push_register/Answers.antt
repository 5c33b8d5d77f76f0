-- A member of the register fits, and its row is the one that the walk meets.
use Rattle.std.proofs.Common.{◌≡◌, ◌≤◌, ◌++◌, ◌∷◌, [], sym, ap, ap₂, ◌∙◌, subst, lit≤, arith}
use Rattle.std.specs.Prelude.{All}
use Rattle.std.proofs.lemmas.List.Elements.{All-push}
use Rattle.std.proofs.lemmas.Result.{IfOk-equal, IfOk-weaker}
use Rattle.pac_base.specs.declared.width.Width.{Width}
use Rattle.pac_base.specs.declared.width.Width.TheVariants.{W8, W16, W32, W64}
use Rattle.reg_table.specs.Listing.{IsListed}
use Rattle.reg_table.specs.Registers.{register_row}
use Rattle.reg_table.specs.Walk.{member_rows}
use Rattle.svd_model.specs.Checking.{bytes_of, width_of}
use Rattle.svd_model.specs.Properties.{holding, size_at, register_properties}
use Rattle.svd_model.specs.Trees.{register_tree, register_under}
use Rattle.svd_rows.specs.Rows.{rows}
use Rattle.reg_table.proofs.Gathering.{register-listed}
use Rattle.reg_table.proofs.Walks.{fit-register, rows-register}
use Rattle.reg_table.proofs.table_rows.push_register.Goals as goal

some_bytes : (width : Width) → 1 ≤ bytes_of width
some_bytes W8 = lit≤ tt
some_bytes W16 = lit≤ tt
some_bytes W32 = lit≤ tt
some_bytes W64 = lit≤ tt

pub start_inside-address-requires : goal.start_inside-address-requires
start_inside-address-requires c =
    let fits = fit-register c.args.outer.now.start c.args.outer.now.props c.args.key.now c.args.register.now c.args.index c.requires.among c.requires.fits in
    let some = some_bytes (width_of (size_at (holding (c.args.register.now.props ∷ c.args.outer.now.props ∷ [])))) in
    omega (arith, fits.ends, some)

pub register_row-requires-clause-size : goal.register_row-requires-clause-size
register_row-requires-clause-size c = (fit-register c.args.outer.now.start c.args.outer.now.props c.args.key.now c.args.register.now c.args.index c.requires.among c.requires.fits).size

pub register_row-requires-clause-distinct : goal.register_row-requires-clause-distinct
register_row-requires-clause-distinct c = (fit-register c.args.outer.now.start c.args.outer.now.props c.args.key.now c.args.register.now c.args.index c.requires.among c.requires.fits).distinct

pub register_row-requires-clause-fields : goal.register_row-requires-clause-fields
register_row-requires-clause-fields c = (fit-register c.args.outer.now.start c.args.outer.now.props c.args.key.now c.args.register.now c.args.index c.requires.among c.requires.fits).fields

pub returns-clause-rows : goal.returns-clause-rows
returns-clause-rows c =
    let row = c.in_ok-register_row.ensures ∙ ap₂ (λ path at. register_row path at (register_properties c.args.register.now c.args.outer.now.props) (rows (register_tree c.args.register.now))) c.in_ok-path.ensures c.start_inside-address.ensures in
    IfOk-equal c.push.result c.push.new.self (c.args.table.now ++ c.in_ok-register_row.field-0 ∷ []) (c.args.table.now ++ member_rows c.args.outer.now.path c.args.outer.now.start c.args.outer.now.props (register_under c.args.key.now c.args.register.now) c.args.index) c.push.ensures.ok
    (ap (λ r. c.args.table.now ++ r) (ap (λ r. r ∷ []) row ∙ sym (rows-register c.args.outer.now.props c.args.key.now c.args.register.now c.args.outer.now.path c.args.outer.now.start c.args.index)))

pub returns-clause-listed : goal.returns-clause-listed
returns-clause-listed c =
    let fits = fit-register c.args.outer.now.start c.args.outer.now.props c.args.key.now c.args.register.now c.args.index c.requires.among c.requires.fits in
    let listed = subst IsListed (sym c.in_ok-register_row.ensures) (register-listed c.args.register.now c.in_ok-path.path c.start_inside-address.result c.args.outer.now.props fits.distinct fits.fields) in
    IfOk-weaker c.push.result (λ _. c.push.new.self ≡ c.args.table.now ++ c.in_ok-register_row.field-0 ∷ []) (λ _. All IsListed c.args.table.now → All IsListed c.push.new.self)
    (λ _ is old. subst (All IsListed) (sym is) (All-push IsListed c.args.table.now c.in_ok-register_row.field-0 old listed)) c.push.ensures.ok
