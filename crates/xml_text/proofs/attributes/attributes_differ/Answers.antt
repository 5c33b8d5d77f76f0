use Rattle.std.proofs.Common.{◌≡◌, ℕ, ◌<◌, List, [], length, get_or, map, ap, refl}
use Rattle.std.proofs.lemmas.List.{get_or_default}
use Rattle.xml_text.specs.declared.attribute.Attribute.{Attribute}
use Rattle.xml_text.specs.Reading.{differ}
use Rattle.xml_text.specs.Views.{names_in, attribute_name}
use Rattle.xml_text.proofs.Keeping.{found_again, kept_apart, kept_names}
use Rattle.xml_text.proofs.attributes.attributes_differ.Goals as goal

pub loop-attribute-init : goal.loop-attribute-init
unfolding differ
loop-attribute-init c = record { same = ap (map (λ name. name.now)) c.new-seen.ensures.empty; apart = refl }

-- what a reading past the end gives
abbrev past : Attribute
past = record { name = record { ref_ptr = (0, 0); now = [] }; value = record { ref_ptr = (0, 0); now = [] }; left = 0 }

abbrev at_index : List Attribute → ℕ → Attribute
at_index attributes i = get_or attributes i past

at_index-is : (attributes : List Attribute) (i : ℕ) → i < length attributes → at_index attributes i ≡ get_or attributes i (at_index attributes i)
at_index-is attributes i within = get_or_default attributes i past (at_index attributes i) within

pub returns-then-not-branch : goal.returns-then-not-branch
returns-then-not-branch c =
    let attributes = c.args.attributes.now in
    let i = c.loop-attribute.attribute-index in
    let within = c.loop-attribute-test.true in
    found_again attribute_name attributes i (at_index attributes i) within (at_index-is attributes i within) (names_in c.loop-attribute.seen) c.in_ok-is_new.field-0 c.loop-attribute.invariant.same c.in_ok-is_new.ensures.new c.if-not-branch.true

pub loop-attribute-preserved : goal.loop-attribute-preserved
loop-attribute-preserved c =
    let attributes = c.args.attributes.now in
    let i = c.loop-attribute.attribute-index in
    let within = c.loop-attribute-test.true in
    record {
      same = kept_names attribute_name attributes i (at_index attributes i) within (at_index-is attributes i within) (names_in c.loop-attribute.seen) (names_in c.is_new.new.seen) c.loop-attribute.invariant.same (c.in_ok-is_new.ensures.kept c.if-not-branch.false);
      apart = kept_apart attribute_name attributes i (at_index attributes i) within (at_index-is attributes i within) (names_in c.loop-attribute.seen) c.in_ok-is_new.field-0 c.loop-attribute.invariant.same c.loop-attribute.invariant.apart c.in_ok-is_new.ensures.new c.if-not-branch.false;
    }
