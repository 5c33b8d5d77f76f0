use Rattle.std.proofs.Common.{ℕ, ap, ap₂, sym, ◌+◌, ◌-◌, ◌*◌, ◌^◌, ◌∙◌, min}
use Rattle.std.specs.Prelude.{unwrap_or}
use Rattle.frag_tree.specs.declared.access.Body.{Body}
use Rattle.frag_tree.specs.Trees.{block_tree}
use Rattle.frag_sem.specs.AddressEnds.{cut}
use Rattle.frag_sem.specs.CallPlaces.{body_offset}
use Rattle.frag_sem.specs.Layout.{element_size, place_of}
use Rattle.frag_index.specs.Walks.{small}
use Rattle.frag_index.proofs.Cutting.{small-cut, small-member}
use Rattle.frag_index.proofs.Walking.{small_sum}
use Rattle.frag_index.proofs.place.offset_of.Goals as goal

pub returns-in-Field : goal.returns-in-Field
returns-in-Field c =
    λ sites fits start.
    let unit = block_tree c.args.site.now.block.now in
    ap (λ (n : ℕ). small (start + n)) (c.place_of.ensures sites fits ∙ ap (λ name. cut (unwrap_or (place_of unit name) 0)) c.bytes.ensures.same)
    ∙ (small-cut start (unwrap_or (place_of unit c.in-Field.field) 0)
    ∙ ap (λ (n : ℕ). small (start + n)) (sym (ap (λ (body : Body). body_offset unit c.args.access.now body (unwrap_or c.args.index 0)) c.in-Field.is)))

pub returns-in-Member : goal.returns-in-Member
returns-in-Member c =
    λ sites fits start.
    let unit = block_tree c.args.site.now.block.now in
    let size = element_size unit c.args.access.now.element in
    ap (λ (n : ℕ). small (start + n)) (c.saturating_add.ensures
    ∙ ap₂ (λ (p n : ℕ). min (p + n) (2 ^ 128 - 1)) (c.place_of-in-Member.ensures sites fits ∙ ap (λ name. cut (unwrap_or (place_of unit name) 0)) c.bytes-in-Member.ensures.same)
    (c.saturating_mul.ensures ∙ ap₂ (λ (i s : ℕ). min (i * s) (2 ^ 128 - 1)) c.unwrap_or-index.ensures (c.element_size.ensures sites fits)))
    ∙ (small-member start (unwrap_or (place_of unit c.in-Member.field) 0) (unwrap_or c.args.index 0) size
    ∙ ap (λ (n : ℕ). small (start + n)) (sym (ap (λ (body : Body). body_offset unit c.args.access.now body (unwrap_or c.args.index 0)) c.in-Member.is)))

pub returns-in-AtIndex : goal.returns-in-AtIndex
returns-in-AtIndex c =
    λ sites fits start.
    let unit = block_tree c.args.site.now.block.now in
    ap (λ (n : ℕ). small (start + n)) (c.saturating_add-in-AtIndex.ensures ∙ ap (λ (n : ℕ). min (c.in-AtIndex.offset + n) (2 ^ 128 - 1)) c.saturating_mul-in-AtIndex.ensures)
    ∙ (small_sum start c.in-AtIndex.offset (c.unwrap_or-index.result * c.in-AtIndex.stride)
    ∙ ap (λ (n : ℕ). small (start + n)) (ap (λ (n : ℕ). c.in-AtIndex.offset + n * c.in-AtIndex.stride) c.unwrap_or-index.ensures ∙ sym (ap (λ (body : Body). body_offset unit c.args.access.now body (unwrap_or c.args.index 0)) c.in-AtIndex.is)))
