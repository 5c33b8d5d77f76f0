use Rattle.std.proofs.Common.{◌≡◌, ◌+◌, true, Option, Some, None, IfSome, option_map, refl, subst, sym, ap, ◌∙◌}
use Rattle.std.proofs.lemmas.Result.{err_from_is_err_and}
use Rattle.crate_form.specs.Crates.{emitted}
use Rattle.frag_tree.specs.Crates.{top_text}
use Rattle.frag_tree.specs.Trees.{block_tree}
use Rattle.frag_tree.specs.Validity.{valid_block}
use Rattle.frag_tree.specs.declared.block.Block.{Block}
use Rattle.pac_io.proofs.WrittenUpTo.{none_written}
use Rattle.frag_emit.proofs.Printing.{few-blocks, module-is, module-valid, prefix-of}
use Rattle.frag_emit.proofs.emitter.print_module.Goals as goal

pub returns-in_err-block-clause-part : goal.returns-in_err-block-clause-part
returns-in_err-block-clause-part g c =
    let p = err_from_is_err_and c.from_residual.result c.from_residual.ensures.1 in rw p.1 (none_written _ _)

pub returns-in_err-print_top_block-in-Some-clause-part : goal.returns-in_err-print_top_block-in-Some-clause-part
returns-in_err-print_top_block-in-Some-clause-part g c =
    let p = err_from_is_err_and c.from_residual-in_err-print_top_block-in-Some.result c.from_residual-in_err-print_top_block-in-Some.ensures.1 in
    let is = sym (ap (option_map block_tree) c.in-Some.is) ∙ c.in_ok-block.ensures.form in
    rw p.1 (prefix-of (emitted c.args.state.now) (c.args.index + 1) (top_text (block_tree c.in-Some.block)) (module-is c.args.state.now c.args.index (Some (block_tree c.in-Some.block)) is) c.in_err-print_top_block-in-Some.ensures.growth)

pub returns-in_ok-print_top_block-in-Some-clause-part : goal.returns-in_ok-print_top_block-in-Some-clause-part
returns-in_ok-print_top_block-in-Some-clause-part g c =
    let is = sym (ap (option_map block_tree) c.in-Some.is) ∙ c.in_ok-block.ensures.form in
    record {
      bytes = top_text (block_tree c.in-Some.block);
      is = module-is c.args.state.now c.args.index (Some (block_tree c.in-Some.block)) is;
      valid = module-valid c.args.state.now c.args.index (block_tree c.in-Some.block) is (subst (λ (block : Option Block). IfSome block (λ block. valid_block (emitted c.args.state.now).version (block_tree block) ≡ true)) c.in-Some.is c.in_ok-block.ensures.valid);
      appended = c.in_ok-print_top_block-in-Some.ensures.growth;
    }

pub returns-in_ok-print_top_block-in-Some-clause-far : goal.returns-in_ok-print_top_block-in-Some-clause-far
returns-in_ok-print_top_block-in-Some-clause-far g c =
    few-blocks c.device-device.result.now c.args.state.now c.args.index (block_tree c.in-Some.block) c.device-device.ensures.rows c.device-device.ensures.fact (sym (ap (option_map block_tree) c.in-Some.is) ∙ c.in_ok-block.ensures.form)

pub returns-in-None-clause-part : goal.returns-in-None-clause-part
returns-in-None-clause-part g c = (module-is c.args.state.now c.args.index None (sym (ap (option_map block_tree) c.in-None.is) ∙ c.in_ok-block.ensures.form), refl)
