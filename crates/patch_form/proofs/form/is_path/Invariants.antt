use Rattle.std.specs.Prelude.{option_map}
use Rattle.patch_form.specs.Forms.{AreNames, dotted_parts, parts_left}
use Rattle.yaml_block.proofs.Cutting.{left}
use Rattle.patch_form.proofs.form.is_path.Given as goal

abbrev pub invariant-parts : goal.invariant-parts
invariant-parts l = record {
  all : AreNames (parts_left (option_map (λ text. text.now) l.rest)) → AreNames (dotted_parts l.text);
  each : AreNames (dotted_parts l.text) → AreNames (parts_left (option_map (λ text. text.now) l.rest));
}

abbrev pub decreases-parts : goal.decreases-parts
decreases-parts l = left (option_map (λ text. text.now) l.rest)
