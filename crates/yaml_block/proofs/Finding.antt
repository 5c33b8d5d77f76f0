-- The lines that were found so far, and those that are left.
use Rattle.std.proofs.Common.{◌≡◌, ◌<◌, ◌≤◌, ℕ, ◌+◌, Bool, true, false, List, ◌∷◌, length, Option, Some, None, sym, ap, ◌∙◌, arith}
use Rattle.std.specs.Prelude.{IfSome, MatchBool, option_map}
use Rattle.std.specs.Borrow.{Bor}
use Rattle.std.proofs.lemmas.List.{append-nil}
use Rattle.yaml_block.specs.declared.line.Line.{Line}
use Rattle.yaml_block.specs.declared.line.Said.{Said}
use Rattle.yaml_block.specs.declared.lines.Found.{Found}
use Rattle.yaml_block.specs.Lines.{joined, lines_from, lines_left, lines_with, raw_lines, said_at}
use Rattle.yaml_block.proofs.Cutting.{left}

-- what taking in a line does to the lines before it
abbrev pub TakesIn : List Line → Bool → List Line → Bool → ℕ → List ℕ → Bool → Type 0
TakesIn old first new still number raw formed =
    MatchBool formed ((others : Bool → Found) → joined new (others still) ≡ joined old (lines_with (said_at first number raw) number others first)) ((new ≡ old) × (said_at first number raw ≡ None))

was_formed : (formed : Bool) (P Q : Type 0) → formed ≡ true → MatchBool formed P Q → P
was_formed true P Q it_is said = said
was_formed false P Q it_is said = absurd cc

was_not : (formed : Bool) (P Q : Type 0) → formed ≡ false → MatchBool formed P Q → Q
was_not true P Q it_isnt said = absurd cc
was_not false P Q it_isnt said = said

abbrev found_with : Option ℕ → List Line → Found
found_with fault lines = record { lines = lines; fault = fault }

module _ (old : List Line) (first : Bool) (new : List Line) (still : Bool) (number : ℕ) (raw text : List ℕ) (others : List (List ℕ)) (total : Found)
    (same : joined old (lines_from first number (raw_lines text)) ≡ total) (cut : raw_lines text ≡ raw ∷ others) where
  pub taken : (formed : Bool) → formed ≡ true → TakesIn old first new still number raw formed → joined new (lines_from still (number + 1) others) ≡ total
  unfolding lines_from
  taken formed it_is said =
      was_formed formed ((more : Bool → Found) → joined new (more still) ≡ joined old (lines_with (said_at first number raw) number more first)) ((new ≡ old) × (said_at first number raw ≡ None)) it_is said (λ s. lines_from s (number + 1) others)
      ∙ ap (λ (lines : List (List ℕ)). joined old (lines_from first number lines)) (sym cut) ∙ same

  pub refused : (formed : Bool) → formed ≡ false → TakesIn old first new still number raw formed → found_with (Some number) new ≡ total
  unfolding lines_from
  refused formed it_isnt said =
      let none = was_not formed ((more : Bool → Found) → joined new (more still) ≡ joined old (lines_with (said_at first number raw) number more first)) ((new ≡ old) × (said_at first number raw ≡ None)) it_isnt said in
      ap (found_with (Some number)) (none.0 ∙ sym (append-nil old))
      ∙ ap (λ (read : Option Said). joined old (lines_with read number (λ s. lines_from s (number + 1) others) first)) (sym none.1)
      ∙ ap (λ (lines : List (List ℕ)). joined old (lines_from first number lines)) (sym cut)
      ∙ same

pub done : (lines : List Line) (first : Bool) (number : ℕ) (rest : Option (Bor (List ℕ))) (total : Found) → rest ≡ None → joined lines (lines_from first number (lines_left (option_map (λ text. text.now) rest))) ≡ total
    → found_with None lines ≡ total
unfolding lines_from
done lines first number None total none same = ap (found_with None) (sym (append-nil lines)) ∙ same
done lines first number (Some text) total none same = absurd cc

pub left_less : (rest : Option (Bor (List ℕ))) (n : ℕ) → IfSome rest (λ text. length text.now < n) → left (option_map (λ text. text.now) rest) ≤ n
left_less None n less = omega arith
left_less (Some text) n less = omega (arith, less)
