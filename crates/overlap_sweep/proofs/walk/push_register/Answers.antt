-- A member of the register fits, and it is the one that the walk meets.
use Rattle.std.proofs.Common.{◌≡◌, ◌≤◌, ◌+◌, ◌*◌, ◌++◌, false, is_some, unwrap_or, ◌∷◌, [], sym, ap, ◌∙◌, lit≤, arith}
use Rattle.std.proofs.lemmas.Result.{IfOk-equal}
use Rattle.pac_base.specs.declared.width.Width.{Width}
use Rattle.pac_base.specs.declared.width.Width.TheVariants.{W8, W16, W32, W64}
use Rattle.overlap_sweep.specs.declared.spot.Spot.{Spot}
use Rattle.overlap_sweep.specs.Walk.{member_spots}
use Rattle.overlap_sweep.proofs.Walks.{spots-register}
use Rattle.svd_model.specs.Checking.{bytes_of, width_of}
use Rattle.svd_model.specs.Properties.{holding, size_at}
use Rattle.svd_model.specs.Trees.{register_tree, register_under}
use Rattle.svd_rows.specs.Rows.{rows}
use Rattle.overlap_sweep.specs.Fields.{shared_fields}
use Rattle.reg_table.proofs.Walks.{fit-register}
use Rattle.overlap_sweep.proofs.walk.push_register.Goals as goal

some_bytes : (width : Width) → 1 ≤ bytes_of width
some_bytes W8 = lit≤ tt
some_bytes W16 = lit≤ tt
some_bytes W32 = lit≤ tt
some_bytes W64 = lit≤ tt

pub start_inside-requires : goal.start_inside-requires
start_inside-requires c =
    let fits = fit-register c.args.outer.now.start c.args.outer.now.props c.args.key.now c.args.register.now c.args.index c.requires.among c.requires.fits in
    let some = some_bytes (width_of (size_at (holding (c.args.register.now.props ∷ c.args.outer.now.props ∷ [])))) in
    omega (arith, fits.ends, some)

pub shared_fields-requires-clause-distinct : goal.shared_fields-requires-clause-distinct
shared_fields-requires-clause-distinct c = (fit-register c.args.outer.now.start c.args.outer.now.props c.args.key.now c.args.register.now c.args.index c.requires.among c.requires.fits).distinct

pub shared_fields-requires-clause-fields : goal.shared_fields-requires-clause-fields
shared_fields-requires-clause-fields c = (fit-register c.args.outer.now.start c.args.outer.now.props c.args.key.now c.args.register.now c.args.index c.requires.among c.requires.fits).fields

pub returns : goal.returns
returns c =
    let same : ◌≡◌ {A = Spot} (record { way = c.in_ok-way_inside.field-0; name = c.in_ok-copy.field-0; start = c.start_inside.result; bytes = c.bytes_in.result; alternate = c.in_ok-copied.field-0; grouped = c.is_some.result; shared = c.in_ok-shared_fields.field-0 }) (record { way = c.args.outer.now.way ++ record { name = c.args.key.now.name; number = c.args.key.now.number; index = c.args.index; alternate = false } ∷ []; name = c.args.key.now.name; start = c.args.outer.now.start + (c.args.register.now.offset + unwrap_or c.args.index 0 * unwrap_or c.args.register.now.dim.step 0); bytes = bytes_of (width_of (size_at (holding (c.args.register.now.props ∷ c.args.outer.now.props ∷ [])))); alternate = c.args.register.now.alternate; grouped = is_some c.args.register.now.group; shared = shared_fields (holding (c.args.register.now.props ∷ c.args.outer.now.props ∷ [])) (rows (register_tree c.args.register.now)) }) =
    λ i. record { way = c.in_ok-way_inside.ensures i; name = c.in_ok-copy.ensures i; start = c.start_inside.ensures i; bytes = (c.bytes_in.ensures ∙ ap (λ props. bytes_of (width_of (size_at props))) c.within.ensures) i; alternate = c.in_ok-copied.ensures i; grouped = c.is_some.ensures i; shared = c.in_ok-shared_fields.ensures i } in
    IfOk-equal c.push.result c.push.new.self (c.args.made.now ++ record { way = c.in_ok-way_inside.field-0; name = c.in_ok-copy.field-0; start = c.start_inside.result; bytes = c.bytes_in.result; alternate = c.in_ok-copied.field-0; grouped = c.is_some.result; shared = c.in_ok-shared_fields.field-0 } ∷ []) (c.args.made.now ++ member_spots c.args.outer.now.way c.args.outer.now.start c.args.outer.now.props (register_under c.args.key.now c.args.register.now) c.args.index) c.push.ensures.ok
    (ap (λ r. c.args.made.now ++ r) (ap (λ spot. spot ∷ []) same ∙ sym (spots-register c.args.outer.now.props c.args.key.now c.args.register.now c.args.outer.now.way c.args.outer.now.start c.args.index)))
