use Rattle.std.proofs.Common.{◌∙◌, ◌++◌, ◌∷◌, ◌||◌, [], max, map, ap, append_assoc, bytes_eq}
use Rattle.std.specs.List.{list_any}
use Rattle.block_form.specs.Children.{field_of}
use Rattle.block_form.specs.Gaps.{gap_before}
use Rattle.block_form.proofs.Advancing.{more_names}
use Rattle.block_form.proofs.placing.Placing.put.Goals as goal

pub returns : goal.returns
returns c =
    let old = c.args.self.now in
    let child = c.args.child.now in
    let gap = c.in_ok-put_gap.ensures in
    record {
      fields =
          c.in_ok-push.ensures.ok
          ∙ ((λ i. gap.fields i ++ c.in_ok-child_field.ensures i ∷ [])
          ∙ append_assoc old.fields (gap_before old.end old.gaps child) (field_of child ∷ []));
      gaps = gap.gaps;
      end = c.child_end-self.ensures;
      align = c.max-self.ensures ∙ ap (max child.align) gap.align;
      names =
          λ name.
          ap (λ keys. list_any (bytes_eq name) (map (λ taken. taken.now) keys)) c.in_ok-insert.ensures.keys
          ∙ (more_names c.put_gap.new.self.names.keys c.bytes.result name
          ∙ λ i. list_any (bytes_eq name) (map (λ taken. taken.now) (gap.names i).keys) || bytes_eq name (c.bytes.ensures.same i));
    }
