-- The parts of a text, one by one, and the loop that goes through them.
use Rattle.std.proofs.Common.{◌≡◌, ℕ, zero, suc, ◌<◌, ◌≤◌, true, false, eqb, List, [], ◌∷◌, length, Option, Some, None, refl, sym, ap, ◌∙◌, inl, inr, arith}
use Rattle.std.proofs.lemmas.Bool.{eqb-true}
use Rattle.text_scan.proofs.Steps.{cases_option}
use Rattle.xml_text.specs.Parts.{XmlPart}
use Rattle.xml_text.specs.Reading.{part_at}
use Rattle.xml_text.proofs.Lengths.{IsPart-length}
use Rattle.xml_text.proofs.Parts.{part_takes}
use Rattle.svd_text.specs.declared.fault.TextFault.{TextFault}
use Rattle.svd_text.specs.declared.fault.TextFault.TheVariants.{Syntax, TooDeep, Memory}
use Rattle.svd_text.specs.Machine.{Outcome, goes, breaks, sinks, ◌>>=◌, Parts, ended, broken, then_one, parts_up_to, parts_of, Machine, State, step, run}
use Rattle.svd_text.specs.Reading.{Fails, read_or}

abbrev read_of : XmlPart → List ℕ → Option (XmlPart × List ℕ)
read_of part behind = Some (part, behind)

pub part_shrinks : (text : List ℕ) (read : XmlPart × List ℕ) → part_at text ≡ Some read → length read.1 < length text
part_shrinks text read e = IsPart-length read.0 text read.1 (part_takes text read.0 read.1 e)

enough : (n m : ℕ) (text : List ℕ) → length text ≤ n → length text ≤ m → parts_up_to n text ≡ parts_up_to m text
unfolding parts_up_to
enough zero zero [] p q = refl
enough zero (suc m) [] p q = refl
enough (suc n) zero [] p q = refl
enough (suc n) (suc m) [] p q = refl
enough zero m (byte ∷ text) p q = absurd (omega arith)
enough (suc n) zero (byte ∷ text) p q = absurd (omega arith)
enough (suc n) (suc m) (byte ∷ text) p q =
    elim (cases_option (part_at (byte ∷ text))) [
      | inl none ↦ rw none refl
      | inr some ↦
          let shorter = part_shrinks (byte ∷ text) some.0 some.1 in
          rw some.1 (ap (then_one some.0.0 (byte ∷ text) some.0.1) (enough n m some.0.1 (omega arith) (omega arith)))
    ]

pub parts_of-end : (text : List ℕ) → text ≡ [] → parts_of text ≡ ended
unfolding parts_of parts_up_to
parts_of-end text same = ap (λ (t : List ℕ). parts_up_to (length t) t) same

pub parts_of-some : (text : List ℕ) (part : XmlPart) (behind : List ℕ) → part_at text ≡ Some (part, behind) → parts_of text ≡ then_one part text behind (parts_of behind)
unfolding parts_of parts_up_to
parts_of-some [] part behind e = absurd (let shorter = part_shrinks [] (part, behind) e in omega arith)
parts_of-some (byte ∷ text) part behind e =
    let shorter = part_shrinks (byte ∷ text) (part, behind) e in
    rw e (ap (then_one part (byte ∷ text) behind) (enough (length text) (length behind) behind (omega arith) (omega arith)))

pub parts_of-none : (text : List ℕ) → false ≡ eqb (length text) 0 → part_at text ≡ None → parts_of text ≡ broken
unfolding parts_of parts_up_to
parts_of-none [] some e = absurd cc
parts_of-none (byte ∷ text) some e = rw e refl

-- what was read is a part, or none
read_some : (read : Option (XmlPart × List ℕ)) (value : XmlPart × List ℕ) → read_or read ≡ goes value → read ≡ Some value
read_some None value e = absurd cc
read_some (Some x) value e = cc

read_none : (read : Option (XmlPart × List ℕ)) → read_or read ≡ breaks → read ≡ None
read_none None e = refl
read_none (Some x) e = absurd cc

Fails-bind : {A B : Type 0} (fault : TextFault) (outcome : Outcome A) (next : A → Outcome B) → Fails fault outcome → Fails fault (outcome >>= next)
Fails-bind {A = A} (Syntax at) outcome next fails = ap (λ (o : Outcome A). o >>= next) fails
Fails-bind {A = A} (TooDeep span) outcome next fails = ap (λ (o : Outcome A). o >>= next) fails
Fails-bind Memory outcome next fails = tt

pub Fails-along : {A : Type 0} (fault : TextFault) (one other : Outcome A) → one ≡ other → Fails fault one → Fails fault other
Fails-along (Syntax at) one other same fails = sym same ∙ fails
Fails-along (TooDeep span) one other same fails = sym same ∙ fails
Fails-along Memory one other same fails = tt

module _ {F : Type 0} (machine : Machine F) where
  run-some : (text : List ℕ) (part : XmlPart) (behind : List ℕ) (state : State F) → read_or (part_at text) ≡ goes (part, behind) → run machine (parts_of text) state ≡ (step machine state part text behind >>= run machine (parts_of behind))
  unfolding run
  run-some text part behind state e = ap (λ (parts : Parts). run machine parts state) (parts_of-some text part behind (read_some (part_at text) (part, behind) e))

  pub run_goes_on : (text : List ℕ) (part : XmlPart) (behind : List ℕ) (state next : State F) (total : Outcome (State F)) → read_or (part_at text) ≡ goes (part, behind) → step machine state part text behind ≡ goes next
      → run machine (parts_of text) state ≡ total → run machine (parts_of behind) next ≡ total
  run_goes_on text part behind state next total e stepped so_far =
      sym (run-some text part behind state e ∙ ap (λ (o : Outcome (State F)). o >>= run machine (parts_of behind)) stepped) ∙ so_far

  pub run_stops : (fault : TextFault) (text : List ℕ) (part : XmlPart) (behind : List ℕ) (state : State F) (total : Outcome (State F)) → read_or (part_at text) ≡ goes (part, behind) → Fails fault (step machine state part text behind)
      → run machine (parts_of text) state ≡ total → Fails fault total
  run_stops fault text part behind state total e fails so_far =
      Fails-along fault (step machine state part text behind >>= run machine (parts_of behind)) total (sym (run-some text part behind state e) ∙ so_far) (Fails-bind fault (step machine state part text behind) (run machine (parts_of behind)) fails)

  pub run_broken : (fault : TextFault) (text : List ℕ) (state : State F) (total : Outcome (State F)) → false ≡ eqb (length text) 0 → Fails fault (read_or (part_at text)) → run machine (parts_of text) state ≡ total → Fails fault total
  unfolding run
  run_broken (Syntax at) text state total some fails so_far = sym so_far ∙ ap (λ (parts : Parts). run machine parts state) (parts_of-none text some (read_none (part_at text) fails))
  run_broken (TooDeep span) text state total some fails so_far = absurd (no_sink (part_at text) (span.start, span.end) fails)
    where
      no_sink : (read : Option (XmlPart × List ℕ)) (name : ℕ × ℕ) → read_or read ≡ sinks name → ⊥
      no_sink None name e = cc
      no_sink (Some x) name e = cc
  run_broken Memory text state total some fails so_far = tt

  pub run_ended : (text : List ℕ) (state : State F) (total : Outcome (State F)) → true ≡ eqb (length text) 0 → run machine (parts_of text) state ≡ total → total ≡ goes state
  unfolding run
  run_ended [] state total none so_far = sym so_far ∙ ap (λ (parts : Parts). run machine parts state) (parts_of-end [] refl)
  run_ended (byte ∷ text) state total none so_far = absurd (let same = eqb-true (length (byte ∷ text)) 0 (sym none) in omega arith)
