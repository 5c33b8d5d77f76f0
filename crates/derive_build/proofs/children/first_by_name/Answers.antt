use Rattle.std.proofs.Common.{◌-◌, ◌∙◌, arith, refl, sym, ap, length, get_or}
use Rattle.std.specs.Map.{lookup}
use Rattle.std.specs.Str.{bytes_eq}
use Rattle.derive_build.specs.Children.{children_of, first_named}
use Rattle.derive_build.proofs.Named.{first_more}
use Rattle.svd_model.proofs.Lists.{drop_past}
use Rattle.derive_build.proofs.children.first_by_name.Goals as goal

pub loop-past-init : goal.loop-past-init
unfolding first_named
loop-past-init c = record {
  inside = omega arith;
  held = λ text. ap (lookup (bytes_eq text)) c.new-index.ensures ∙ sym (ap (λ l. first_named (children_of c.args.owns.now l) text) (drop_past c.args.children.now (length c.args.children.now) (omega arith)));
}

pub loop-past-preserved : goal.loop-past-preserved
loop-past-preserved c = record {
  inside = omega (arith, c.loop-past.invariant.inside, c.loop-past-test.true);
  held = first_more c.args.owns.now c.args.children.now c.loop-past.past (c.loop-past.past - 1) c.loop-past.index c.set.new.self c.name_of.result.now (get_or c.args.children.now (c.loop-past.past - 1) 0) (omega (arith, c.loop-past.invariant.inside, c.loop-past-test.true)) (omega (arith, c.loop-past-test.true)) refl c.loop-past.invariant.held c.name_of.ensures c.in_ok-set.ensures;
}
