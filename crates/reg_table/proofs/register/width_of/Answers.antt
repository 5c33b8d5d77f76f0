use Rattle.std.proofs.Common.{◌≡◌, ℕ, true, arith}
use Rattle.std.proofs.lemmas.Bool.Decides.{nat_tests}
use Rattle.pac_base.specs.Widths.{IsLeastWidth}
use Rattle.pac_base.specs.declared.width.Width.{Width}
use Rattle.pac_base.specs.declared.width.Width.TheVariants.{W8, W16, W32, W64}
use Rattle.svd_model.specs.Checking.{width_of, is_size}
use Rattle.reg_table.proofs.register.width_of.Goals as goal

least-width : (size : ℕ) (w : Width) → is_size size ≡ true → IsLeastWidth size w → w ≡ width_of size
least-width size W8 ok least = grind (arith, nat_tests, least.holds)
least-width size W16 ok least = grind (arith, nat_tests, least.holds, least.least W8)
least-width size W32 ok least = grind (arith, nat_tests, least.holds, least.least W8, least.least W16)
least-width size W64 ok least = grind (arith, nat_tests, least.holds, least.least W8, least.least W16, least.least W32)

pub returns : goal.returns
returns c = least-width c.args.size c.in-Some.width c.requires c.in-Some.ensures.least
