-- What stands before the parts is passed, and passed again.
use Rattle.std.proofs.Common.{◌≡◌, ℕ, List, Option, Some, None, refl, sym, ap, ◌∙◌, inl, inr}
use Rattle.std.specs.Prelude.{codes}
use Rattle.text_scan.specs.Classes.{has}
use Rattle.text_scan.specs.Fronts.{stripped_of}
use Rattle.text_scan.specs.Follows.{after_block}
use Rattle.text_scan.proofs.FixedText.{stripped-append, stripped-Some, stripped-None}
use Rattle.text_scan.proofs.Steps.{cases_option, some_is}
use Rattle.text_scan.proofs.Follows.{IsSolid, block_takes, block_again}
use Rattle.xml_text.specs.Opening.{byte_order_mark, IsUnmarked, IsUndeclared, IsOpening}
use Rattle.xml_text.specs.Reading.{mark_or, unmarked, declaration_or, undeclared, opening_at}
use Rattle.xml_text.proofs.Marks.{mark_takes, mark_again}

unmarked_takes : (text : List ℕ) → IsUnmarked text (unmarked text)
unfolding unmarked
unmarked_takes text =
    elim (cases_option (stripped_of byte_order_mark text)) [
      | inl none ↦ rw none (inr (refl, λ behind whole. let e : None ≡ Some behind = sym none ∙ ap (stripped_of byte_order_mark) whole ∙ stripped-append byte_order_mark behind in absurd cc))
      | inr some ↦ rw some.1 (inl (stripped-Some byte_order_mark text some.0 some.1))
    ]

unmarked_again : (text rest : List ℕ) → IsUnmarked text rest → unmarked text ≡ rest
unfolding unmarked
unmarked_again text rest (inl whole) = ap (λ (o : Option (List ℕ)). mark_or o text) (ap (stripped_of byte_order_mark) whole ∙ stripped-append byte_order_mark rest)
unmarked_again text rest (inr bare) = ap (λ (o : Option (List ℕ)). mark_or o text) (stripped-None byte_order_mark text bare.1) ∙ bare.0

declaration_solid : IsSolid (codes "<?xml")
unfolding has
declaration_solid rest = refl

undeclared_takes : (text rest : List ℕ) → undeclared text ≡ Some rest → IsUndeclared text rest
unfolding undeclared
undeclared_takes text rest e =
    elim (cases_option (after_block (codes "<?xml") text)) [
      | inl none ↦
          let e' : declaration_or None text ≡ Some rest = rw none at e in
          inr (some_is text rest e', λ inside follows. let e'' : None ≡ Some inside = sym none ∙ block_again (codes "<?xml") text inside declaration_solid follows in absurd cc)
      | inr some ↦
          let e' : declaration_or (Some some.0) text ≡ Some rest = rw some.1 at e in
          inl (record { inside = some.0; opens = block_takes (codes "<?xml") text some.0 some.1; closes = mark_takes (codes "?>") some.0 rest e' })
    ]

undeclared_again : (text rest : List ℕ) → IsUndeclared text rest → undeclared text ≡ Some rest
unfolding undeclared
undeclared_again text rest (inl is) =
    ap (λ (o : Option (List ℕ)). declaration_or o text) (block_again (codes "<?xml") text is.inside declaration_solid is.opens) ∙ mark_again (codes "?>") is.inside rest is.closes
undeclared_again text rest (inr bare) =
    elim (cases_option (after_block (codes "<?xml") text)) [
      | inl none ↦ ap (λ (o : Option (List ℕ)). declaration_or o text) none ∙ ap (λ (t : List ℕ). Some t) bare.0
      | inr some ↦ absurd (bare.1 some.0 (block_takes (codes "<?xml") text some.0 some.1))
    ]

pub opening_takes : (text rest : List ℕ) → opening_at text ≡ Some rest → IsOpening text rest
unfolding opening_at
opening_takes text rest e = record { behind = unmarked text; mark = unmarked_takes text; declaration = undeclared_takes (unmarked text) rest e }

pub opening_again : (text rest : List ℕ) → IsOpening text rest → opening_at text ≡ Some rest
unfolding opening_at
opening_again text rest is = ap undeclared (unmarked_again text is.behind is.mark) ∙ undeclared_again is.behind rest is.declaration
