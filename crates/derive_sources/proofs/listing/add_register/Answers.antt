use Rattle.std.proofs.Common.{arith, ◌∙◌, sym}
use Rattle.indexmap.proofs.MapLemmas.{OnOk-map}
use Rattle.derive_sources.proofs.Listed.{grown, register-names}
use Rattle.derive_sources.specs.Entries.{register_under}
use Rattle.derive_sources.proofs.listing.add_register.Goals as goal

pub returns : goal.returns
returns c =
    OnOk-map c.add_fields.result _ _
    (λ below. grown c.args.entries.now.items c.push.new.entries.items c.add_fields.new.entries.items c.args.parent c.len-number.result c.bytes.result.now _ (register_under c.args.key.now c.args.register.now).0 (register_under c.args.key.now c.args.register.now).1
    c.in_ok-push.ensures c.bytes.ensures.same (c.lent.ensures ∙ sym (register-names c.args.register.now)) (omega (arith, c.len-number.ensures, c.args.entries.now.ok.0))
    below)
    c.add_fields.ensures
