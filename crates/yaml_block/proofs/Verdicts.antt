-- The verdict on lines, line by line.
use Rattle.std.proofs.Common.{◌≡◌, ◌<◌, ◌≤◌, ℕ, ◌+◌, List, length, drop, get_or, Option, Some, None, sym, ap, ◌∙◌}
use Rattle.std.proofs.lemmas.List.{drop_all}
use Rattle.yaml_block.specs.declared.line.Line.{Line}
use Rattle.yaml_block.specs.declared.pass.Verdict.TheVariants.{Right, Wrong}
use Rattle.yaml_block.proofs.Places.{from_place}
use Rattle.yaml_block.specs.Passing.{State, step, verdict, verdict_behind}

pub verdict-goes_on : (lines : List Line) (i : ℕ) (line : Line) → i < length lines → line ≡ get_or lines i line → (state next : State) → step state line ≡ Some next → verdict next (drop (i + 1) lines) ≡ verdict state (drop i lines)
unfolding verdict
verdict-goes_on lines i line within is state next fits =
    sym (ap (verdict state) (from_place lines i line within is) ∙ ap (λ (s : Option State). verdict_behind s line.number (λ n. verdict n (drop (i + 1) lines))) fits)

pub verdict-stops : (lines : List Line) (i : ℕ) (line : Line) → i < length lines → line ≡ get_or lines i line → (state : State) → step state line ≡ None → Wrong line.number ≡ verdict state (drop i lines)
unfolding verdict
verdict-stops lines i line within is state fails =
    sym (ap (verdict state) (from_place lines i line within is) ∙ ap (λ (s : Option State). verdict_behind s line.number (λ n. verdict n (drop (i + 1) lines))) fails)

pub verdict-done : (lines : List Line) (i : ℕ) (state : State) → length lines ≤ i → Right state.deep ≡ verdict state (drop i lines)
unfolding verdict
verdict-done lines i state past = sym (ap (verdict state) (drop_all i lines past))
