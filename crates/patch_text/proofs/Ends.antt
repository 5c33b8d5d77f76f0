-- Nothing that counts stands behind: as the reader tests it, and as it is said.
use Rattle.std.proofs.Common.{◌≡◌, ℕ, true, ◌&&◌, ◌||◌, eqb, List, [], ◌∷◌, ◌++◌, length, refl, sym, ap, subst, ◌∙◌, inl, inr, arith, append-nil, append_assoc}
use Rattle.std.specs.List.{list_all}
use Rattle.std.proofs.lemmas.Bool.{and_parts, or_right, eqb-true, true≢false}
use Rattle.text_scan.specs.Fronts.{front_of, rest_of}
use Rattle.text_scan.proofs.Fronts.{front-rest, front_passes, rest-append}
use Rattle.yaml_block.specs.Spaces.{ends, is_parted, is_space, starts}
use Rattle.patch_text.specs.Parts.{AreSpaces, IsEnd}
use Rattle.patch_text.proofs.Texts.{both, both_spaces, more_spaces, second, some_length}

last_space : (first : ℕ) (front : List ℕ) → AreSpaces (first ∷ front) → (gap : List ℕ) × AreSpaces gap × (first ∷ front ≡ gap ++ (32 ∷ []))
last_space first [] spaces =
    let parts = and_parts (is_space first) true spaces in
    ([], refl, ap (λ (b : ℕ). b ∷ []) (eqb-true first 32 parts.0))
last_space first (next ∷ front) spaces =
    let parts = and_parts (is_space first) (list_all is_space (next ∷ front)) spaces in
    let more = last_space next front parts.1 in
    (first ∷ more.0, more_spaces first more.0 parts.0 more.1, ap (λ (t : List ℕ). first ∷ t) more.2)

comment_end : (front rest : List ℕ) → AreSpaces front → starts 32 (front ++ rest) ≡ true → starts 35 rest ≡ true → IsEnd (front ++ rest)
unfolding starts
comment_end front [] spaces space hash = absurd (true≢false (sym hash))
comment_end [] (byte ∷ more) spaces space hash = absurd (omega (arith, eqb-true byte 32 space, eqb-true byte 35 hash))
comment_end (first ∷ front) (byte ∷ more) spaces space hash =
    let last = last_space first front spaces in
    inr (
      last.0,
      32 ∷ 35 ∷ more,
      last.1,
      (more, refl),
      ap (λ (t : List ℕ). t ++ (byte ∷ more)) last.2 ∙ append_assoc last.0 (32 ∷ []) (byte ∷ more) ∙ ap (λ (b : ℕ). last.0 ++ (32 ∷ b ∷ more)) (eqb-true byte 35 hash),
    )

by_rest : (front rest : List ℕ) → AreSpaces front → (eqb (length rest) 0 || (starts 32 (front ++ rest) && starts 35 rest)) ≡ true → IsEnd (front ++ rest)
by_rest front [] spaces e = inl (subst AreSpaces (sym (append-nil front)) spaces)
by_rest front (byte ∷ more) spaces e =
    let behind = second (eqb (length (byte ∷ more)) 0) (starts 32 (front ++ (byte ∷ more)) && starts 35 (byte ∷ more)) (some_length byte more) e in
    let parts = and_parts (starts 32 (front ++ (byte ∷ more))) (starts 35 (byte ∷ more)) behind in
    comment_end front (byte ∷ more) spaces parts.0 parts.1

pub ends_take : (text : List ℕ) → ends text ≡ true → IsEnd text
unfolding ends
ends_take text e =
    let e' = subst (λ (t : List ℕ). (eqb (length (rest_of is_space text)) 0 || (starts 32 t && starts 35 (rest_of is_space text))) ≡ true) (sym (front-rest is_space text)) e in
    subst IsEnd (front-rest is_space text) (by_rest (front_of is_space text) (rest_of is_space text) (front_passes is_space text) e')

starts_space : (gap rest : List ℕ) → AreSpaces gap → starts 32 (gap ++ (32 ∷ rest)) ≡ true
unfolding starts
starts_space [] rest spaces = refl
starts_space (x ∷ gap) rest spaces = (and_parts (is_space x) (list_all is_space gap) spaces).0

end_comment : (gap after : List ℕ) → AreSpaces gap → ends (gap ++ (32 ∷ 35 ∷ after)) ≡ true
unfolding ends starts
end_comment gap after spaces =
    let rest : rest_of is_space (gap ++ (32 ∷ 35 ∷ after)) ≡ 35 ∷ after =
    ap (rest_of is_space) (sym (append_assoc gap (32 ∷ []) (35 ∷ after))) ∙ rest-append is_space (gap ++ (32 ∷ [])) (35 ∷ after) (both_spaces gap (32 ∷ []) spaces refl) refl in
    or_right (eqb (length (rest_of is_space (gap ++ (32 ∷ 35 ∷ after)))) 0) (starts 32 (gap ++ (32 ∷ 35 ∷ after)) && starts 35 (rest_of is_space (gap ++ (32 ∷ 35 ∷ after))))
    (both (starts 32 (gap ++ (32 ∷ 35 ∷ after))) (starts 35 (rest_of is_space (gap ++ (32 ∷ 35 ∷ after)))) (starts_space gap (35 ∷ after) spaces) (ap (starts 35) rest))

end_spaces : (gap : List ℕ) → AreSpaces gap → ends gap ≡ true
unfolding ends
end_spaces gap spaces =
    let rest : rest_of is_space gap ≡ [] = ap (rest_of is_space) (sym (append-nil gap)) ∙ rest-append is_space gap [] spaces tt in
    rw rest refl

pub ends_again : (text : List ℕ) → IsEnd text → ends text ≡ true
ends_again text is =
    elim is [
      | inl spaces ↦ end_spaces text spaces
      | inr behind ↦ ap ends (behind.4 ∙ ap (λ (c : List ℕ). behind.0 ++ c) behind.3.1) ∙ end_comment behind.0 behind.3.0 behind.2
    ]

-- spaces in front of it change nothing
pub end_behind : (gap text : List ℕ) → AreSpaces gap → IsEnd text → IsEnd (gap ++ text)
end_behind gap text spaces is =
    elim is [
      | inl other ↦ inl (both_spaces gap text spaces other)
      | inr behind ↦ inr (gap ++ behind.0, behind.1, both_spaces gap behind.0 spaces behind.2, behind.3, ap (λ (t : List ℕ). gap ++ t) behind.4 ∙ sym (append_assoc gap behind.0 behind.1))
    ]

parted : (gap rest : List ℕ) → AreSpaces gap → is_parted rest ≡ true → is_parted (gap ++ rest) ≡ true
unfolding is_parted
parted [] rest spaces is = is
parted (x ∷ gap) rest spaces is = (and_parts (is_space x) (list_all is_space gap) spaces).0

begins_parted : (text : List ℕ) → is_parted (32 ∷ text) ≡ true
unfolding is_parted
begins_parted text = refl

nothing_parted : is_parted [] ≡ true
unfolding is_parted
nothing_parted = refl

pub end_parted : (text : List ℕ) → IsEnd text → is_parted text ≡ true
end_parted text is =
    elim is [
      | inl spaces ↦ ap is_parted (sym (append-nil text)) ∙ parted text [] spaces nothing_parted
      | inr behind ↦ ap is_parted (behind.4 ∙ ap (λ (c : List ℕ). behind.0 ++ c) behind.3.1) ∙ parted behind.0 (32 ∷ 35 ∷ behind.3.0) behind.2 (begins_parted (35 ∷ behind.3.0))
    ]
