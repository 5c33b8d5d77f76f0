-- Runs: what is read so far and what is left.
use Rattle.std.proofs.Common.{ℕ, zero, suc, ◌≡◌, ◌<◌, ◌≤◌, arith, List, [], ◌∷◌, ◌++◌, length, Some, None, refl, sym, ap, ◌∙◌, inl, inr, append_assoc, append-nil}
use Rattle.text_scan.specs.Steps.{◌>>=◌}
use Rattle.text_scan.proofs.Steps.{cases_option}
use Rattle.frag_script.specs.declared.part.Part.{Part}
use Rattle.frag_script.specs.declared.part.Part.TheVariants.{Item, End}
use Rattle.frag_script.specs.declared.fault.LineFault.{LineFault}
use Rattle.frag_script.specs.declared.fault.LineFault.TheVariants.{NotAStatement, Memory}
use Rattle.frag_script.specs.Reading.{Fails, Found, gone_on, run_at, run_up_to}
use Rattle.frag_script.specs.Tokens.{Token}

-- no part is empty
abbrev pub Shrinks : {A : Type 0} → (List Token → Found A) → Type 0
Shrinks {A} part_at = (text : List Token) (part : A) (rest : List Token) → part_at text ≡ Some (part, rest) → length rest < length text

gone_on-same : {X E : Type 0} (part : Part X E) (rest : List Token) (one other : List Token → Found (List X × E)) → one rest ≡ other rest → gone_on part rest one ≡ gone_on part rest other
gone_on-same (End end) rest one other e = refl
gone_on-same {X} {E} (Item item) rest one other e = ap (λ (o : Found (List X × E)). o >>= λ more. Some ((item ∷ more.0.0, more.0.1), more.1)) e

-- more steps than tokens give no more
enough : {X E : Type 0} (part_at : List Token → Found (Part X E)) → Shrinks part_at → (n m : ℕ) (text : List Token) → length text ≤ n → length text ≤ m → run_up_to part_at n text ≡ run_up_to part_at m text
unfolding run_up_to
enough part_at shrinks zero zero text small fits = refl
enough part_at shrinks zero (suc m) text small fits =
    elim (cases_option (part_at text)) [
      | inl e ↦ rw (e) refl
      | inr part ↦ absurd (omega (arith, shrinks text part.0.0 part.0.1 part.1))
    ]
enough part_at shrinks (suc n) zero text small fits =
    elim (cases_option (part_at text)) [
      | inl e ↦ rw (e) refl
      | inr part ↦ absurd (omega (arith, shrinks text part.0.0 part.0.1 part.1))
    ]
enough part_at shrinks (suc n) (suc m) text small fits =
    elim (cases_option (part_at text)) [
      | inl e ↦ rw (e) refl
      | inr part ↦
          let less : length part.0.1 < length text = shrinks text part.0.0 part.0.1 part.1 in
          rw (part.1) (gone_on-same part.0.0 part.0.1 (run_up_to part_at n) (run_up_to part_at m) (enough part_at shrinks n m part.0.1 (omega arith) (omega arith)))
    ]

pub run-some : {X E : Type 0} (part_at : List Token → Found (Part X E)) → Shrinks part_at → (text : List Token) (part : Part X E) (rest : List Token) → part_at text ≡ Some (part, rest) → run_at part_at text ≡ gone_on part rest (run_at part_at)
unfolding run_at run_up_to
run-some part_at shrinks [] part rest e = absurd (omega (arith, shrinks [] part rest e))
run-some part_at shrinks (token ∷ tokens) part rest e =
    let less : length rest < length (token ∷ tokens) = shrinks (token ∷ tokens) part rest e in
    rw (e) (gone_on-same part rest (run_up_to part_at (length tokens)) (run_at part_at) (enough part_at shrinks (length tokens) (length rest) rest (omega arith) (omega arith)))

pub run-none : {X E : Type 0} (part_at : List Token → Found (Part X E)) (text : List Token) → part_at text ≡ None → run_at part_at text ≡ None
unfolding run_at run_up_to
run-none part_at [] e = refl
run-none part_at (token ∷ tokens) e = rw (e) refl

-- ---- loops

-- what was read, in front of what a run gives
abbrev pub joined : {X E : Type 0} → List X → Found (List X × E) → Found (List X × E)
joined made None = None
joined made (Some found) = Some ((made ++ found.0.0, found.0.1), found.1)

pub joined-nil : {X E : Type 0} (found : Found (List X × E)) → joined [] found ≡ found
joined-nil None = refl
joined-nil (Some found) = refl

joined-item : {X E : Type 0} (made : List X) (item : X) (more : Found (List X × E)) → joined (made ++ item ∷ []) more ≡ joined made (more >>= λ found. Some ((item ∷ found.0.0, found.0.1), found.1))
joined-item made item None = refl
joined-item {X} {E} made item (Some found) = ap (λ (items : List X). Some ((items, found.0.1), found.1)) (append_assoc made (item ∷ []) found.0.0)

-- one more item was read
pub goes_on : {X E : Type 0} (part_at : List Token → Found (Part X E)) → Shrinks part_at → (made : List X) (item : X) (text rest : List Token) (all : Found (List X × E)) → part_at text ≡ Some (Item item, rest) → joined made (run_at part_at text) ≡ all → joined (made ++ item ∷ []) (run_at part_at rest) ≡ all
goes_on {X} {E} part_at shrinks made item text rest all e so_far =
    joined-item made item (run_at part_at rest) ∙ (sym (ap (joined {E = E} made) (run-some part_at shrinks text (Item item) rest e)) ∙ so_far)

-- what ends the run was read
pub is_done : {X E : Type 0} (part_at : List Token → Found (Part X E)) → Shrinks part_at → (made : List X) (end : E) (text rest : List Token) (all : Found (List X × E)) → part_at text ≡ Some (End end, rest) → joined made (run_at part_at text) ≡ all → all ≡ Some ((made, end), rest)
is_done {X} {E} part_at shrinks made end text rest all e so_far =
    sym so_far ∙ (ap (joined {E = E} made) (run-some part_at shrinks text (End end) rest e) ∙ ap (λ (items : List X). Some ((items, end), rest)) (append-nil made))

-- no part was read
pub breaks_off : {X E : Type 0} (part_at : List Token → Found (Part X E)) (made : List X) (text : List Token) (all : Found (List X × E)) → part_at text ≡ None → joined made (run_at part_at text) ≡ all → all ≡ None
breaks_off {X} {E} part_at made text all e so_far = sym so_far ∙ ap (joined {E = E} made) (run-none part_at text e)

pub fails : {X E : Type 0} (part_at : List Token → Found (Part X E)) (made : List X) (text : List Token) (all : Found (List X × E)) (fault : LineFault) → Fails fault (part_at text) → joined made (run_at part_at text) ≡ all → Fails fault all
fails part_at made text all NotAStatement e so_far = breaks_off part_at made text all e so_far
fails part_at made text all Memory e so_far = tt

pub part_is : {X E : Type 0} (found : Found (Part X E)) (part same : Part X E) (rest : List Token) → found ≡ Some (part, rest) → part ≡ same → found ≡ Some (same, rest)
part_is {X} {E} found part same rest e is = e ∙ ap (λ (p : Part X E). Some (p, rest)) is
