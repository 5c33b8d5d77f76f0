-- The members of a class are read as they are spelled.
use Rattle.std.proofs.Common.{◌≡◌, ℕ, ◌<◌, Bool, true, false, eqb, ltb, ◌&&◌, ◌||◌, List, [], ◌∷◌, length, Some, None, refl, sym, ap, subst, ◌∙◌, inl, inr, arith}
use Rattle.std.proofs.lemmas.Bool.{cases_Bool, eqb-true, ltb-true, lt-ltb, and_parts, or_left}
use Rattle.std.proofs.lemmas.Bool.Decides.{nat_tests}
use Rattle.text_scan.specs.Lists.{ReadsAll}
use Rattle.text_scan.proofs.Steps.{cases_option, some_is}
use Rattle.glob_select.specs.declared.member.Member.{Member}
use Rattle.glob_select.specs.declared.member.Member.TheVariants.{Alone, Between}
use Rattle.std.specs.List.{list_any}
use Rattle.glob_select.specs.Matching.{has}
use Rattle.glob_select.specs.Bytes.{is_name_byte}
use Rattle.glob_select.specs.Spelling.{IsNameByte, SpellsMember}
use Rattle.glob_select.specs.Reading.{range_end, member_at, members_of, after_members}
use Rattle.glob_select.proofs.Runs.{given, Shrinks, run-some, run-none, run_takes, run_again}

range_takes : (first : ℕ) (rest : List ℕ) (p : ℕ × List ℕ) → range_end first rest ≡ Some p → IsNameByte p.0 × (first < p.0) × (rest ≡ 45 ∷ p.0 ∷ p.1)
unfolding range_end
range_takes first [] p e = absurd cc
range_takes first (dash ∷ []) p e = absurd cc
range_takes first (dash ∷ (last ∷ after)) p e =
    elim (cases_Bool (eqb dash 45 && is_name_byte last && ltb first last)) [
      | inl passes ↦
          let parts = and_parts (eqb dash 45 && is_name_byte last) (ltb first last) passes in
          let more = and_parts (eqb dash 45) (is_name_byte last) parts.0 in
          let same : (last, after) ≡ p = some_is _ _ (rw passes at e) in
          let here : IsNameByte last × (first < last) × (dash ∷ last ∷ after ≡ 45 ∷ last ∷ after) =
          (more.1, ltb-true first last parts.1, ap (λ (b : ℕ). b ∷ last ∷ after) (eqb-true dash 45 more.0)) in
          subst (λ (q : ℕ × List ℕ). IsNameByte q.0 × (first < q.0) × (dash ∷ last ∷ after ≡ 45 ∷ q.0 ∷ q.1)) same here
      | inr fails ↦ absurd (let e' : None ≡ given p = rw fails at e in cc)
    ]

pub member_takes : (text : List ℕ) (p : Member × List ℕ) → member_at text ≡ Some p → SpellsMember p.0 text p.1
unfolding member_at
member_takes [] p e = absurd cc
member_takes (first ∷ rest) p e =
    elim (cases_Bool (is_name_byte first)) [
      | inl named ↦ elim (cases_option (range_end first rest)) [
        | inl none ↦
            let same : (Alone first, rest) ≡ p = some_is _ _ (rw (named, none) at e) in
            subst (λ (q : Member × List ℕ). SpellsMember q.0 (first ∷ rest) q.1) same (named, refl)
        | inr some ↦
            let parts = range_takes first rest some.0 some.1 in
            let same : (Between first some.0.0, some.0.1) ≡ p = some_is _ _ (rw (named, some.1) at e) in
            subst (λ (q : Member × List ℕ). SpellsMember q.0 (first ∷ rest) q.1) same
            (named, parts.0, parts.1, ap (λ (t : List ℕ). first ∷ t) parts.2)
      ]
      | inr other ↦ absurd (let e' : None ≡ given p = rw other at e in cc)
    ]

pub member_shorter : (member : Member) (text rest : List ℕ) → SpellsMember member text rest → length rest < length text
member_shorter (Alone byte) text rest spelled = omega (arith, ap length spelled.1)
member_shorter (Between first last) text rest spelled = omega (arith, ap length spelled.3)

pub member_shrinks : Shrinks member_at
member_shrinks text p e = member_shorter p.0 text p.1 (member_takes text p e)

-- no member goes on as a range
abbrev pub NoDash : List ℕ → Type 0
NoDash [] = Unit {0}
NoDash (byte ∷ text) = eqb byte 45 ≡ false

pub named_no_dash : (byte : ℕ) → IsNameByte byte → eqb byte 45 ≡ false
named_no_dash byte h = grind (arith, nat_tests, h)

frees : (member : Member) (text rest : List ℕ) → SpellsMember member text rest → NoDash text
frees (Alone byte) text rest spelled = subst NoDash (sym spelled.1) (named_no_dash byte spelled.0)
frees (Between first last) text rest spelled = subst NoDash (sym spelled.3) (named_no_dash first spelled.0)

no_range : (first : ℕ) (rest : List ℕ) → NoDash rest → range_end first rest ≡ None
unfolding range_end
no_range first [] free = refl
no_range first (dash ∷ []) free = refl
no_range first (dash ∷ (last ∷ after)) free = rw free refl

member_again : (member : Member) (text rest : List ℕ) → SpellsMember member text rest → NoDash rest → member_at text ≡ Some (member, rest)
unfolding member_at range_end
member_again (Alone byte) text rest spelled free = rw (spelled.1, spelled.0, no_range byte rest free) refl
member_again (Between first last) text rest spelled free = rw (spelled.3, spelled.0, spelled.1, lt-ltb first last spelled.2) refl

pub members_take : (text : List ℕ) → ReadsAll SpellsMember (members_of text) text (after_members text)
unfolding members_of after_members
members_take text = run_takes member_at SpellsMember member_takes text

bracket_no_member : (rest : List ℕ) → member_at (93 ∷ rest) ≡ None
unfolding member_at
bracket_no_member rest = refl

pub members_again : (members : List Member) (text rest : List ℕ) → ReadsAll SpellsMember members text (93 ∷ rest)
    → (members_of text ≡ members) × (after_members text ≡ 93 ∷ rest)
unfolding members_of after_members
members_again members text rest all =
    let e = run_again member_at SpellsMember NoDash member_shrinks frees member_again members text (93 ∷ rest) all refl (bracket_no_member rest) in
    (ap (λ (r : List Member × List ℕ). r.0) e, ap (λ (r : List Member × List ℕ). r.1) e)

pub after_members-some : (text : List ℕ) (p : Member × List ℕ) → member_at text ≡ Some p → after_members text ≡ after_members p.1
unfolding after_members
after_members-some text p e = ap (λ (r : List Member × List ℕ). r.1) (run-some member_at member_shrinks text p e)

pub after_members-none : (text : List ℕ) → member_at text ≡ None → after_members text ≡ text
unfolding after_members
after_members-none text e = ap (λ (r : List Member × List ℕ). r.1) (run-none member_at member_shrinks text e)

pub members-some : (text : List ℕ) (p : Member × List ℕ) → member_at text ≡ Some p → members_of text ≡ p.0 ∷ members_of p.1
unfolding members_of
members-some text p e = ap (λ (r : List Member × List ℕ). r.0) (run-some member_at member_shrinks text p e)

pub members-none : (text : List ℕ) → member_at text ≡ None → members_of text ≡ []
unfolding members_of
members-none text e = ap (λ (r : List Member × List ℕ). r.0) (run-none member_at member_shrinks text e)

-- whether a member has a byte, step by step
pub any_found : (byte : ℕ) (text : List ℕ) (p : Member × List ℕ) (total : Bool) → member_at text ≡ Some p → has byte p.0 ≡ true → list_any (has byte) (members_of text) ≡ total → true ≡ total
any_found byte text p total e h so_far =
    sym (or_left (has byte p.0) (list_any (has byte) (members_of p.1)) h) ∙ sym (ap (list_any (has byte)) (members-some text p e)) ∙ so_far

pub any_goes_on : (byte : ℕ) (text : List ℕ) (p : Member × List ℕ) (total : Bool) → member_at text ≡ Some p → has byte p.0 ≡ false → list_any (has byte) (members_of text) ≡ total → list_any (has byte) (members_of p.1) ≡ total
any_goes_on byte text p total e h so_far =
    sym (ap (list_any (has byte)) (members-some text p e) ∙ ap (λ (b : Bool). b || list_any (has byte) (members_of p.1)) h) ∙ so_far

pub any_ends : (byte : ℕ) (text : List ℕ) (total : Bool) → member_at text ≡ None → list_any (has byte) (members_of text) ≡ total → false ≡ total
any_ends byte text total e so_far = sym (ap (list_any (has byte)) (members-none text e)) ∙ so_far
