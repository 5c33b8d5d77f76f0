-- A text is cut at its line feeds, as is said of its lines.
use Rattle.std.proofs.Common.{◌≡◌, ℕ, true, false, eqb, List, [], ◌∷◌, ◌++◌, refl, sym, ap, subst, ◌∙◌, inl, inr}
use Rattle.std.specs.Prelude.{codes}
use Rattle.std.proofs.lemmas.Bool.{cases_Bool, eqb-true, eq-eqb, true≢false}
use Rattle.yaml_block.specs.Lines.{put, raw_lines}
use Rattle.yaml_block.specs.Spaces.{starts}
use Rattle.patch_text.specs.CutLines.{AreLines, EndsLine}
use Rattle.patch_text.specs.Parts.{EndsWith, Holds}
use Rattle.patch_text.proofs.Texts.{ends_behind, head_is, holds_behind}

-- ---- cutting, byte by byte

raw_feed : (text : List ℕ) → raw_lines (10 ∷ text) ≡ [] ∷ raw_lines text
unfolding raw_lines
raw_feed text = refl

raw_return : (text : List ℕ) → raw_lines (13 ∷ 10 ∷ text) ≡ [] ∷ raw_lines text
unfolding raw_lines starts
raw_return text = refl

raw_apart : (byte : ℕ) (text : List ℕ) → eqb byte 10 ≡ false → starts 10 text ≡ false → raw_lines (byte ∷ text) ≡ put byte (raw_lines text)
unfolding raw_lines
raw_apart byte text other apart =
    elim (cases_Bool (eqb byte 13)) [
      | inl same ↦ rw (other, same, apart) refl
      | inr plain ↦ rw (other, plain) refl
    ]

raw_other : (byte : ℕ) (text : List ℕ) → eqb byte 10 ≡ false → eqb byte 13 ≡ false → raw_lines (byte ∷ text) ≡ put byte (raw_lines text)
unfolding raw_lines
raw_other byte text other plain = rw (other, plain) refl

raw_nothing : raw_lines [] ≡ [] ∷ []
unfolding raw_lines
raw_nothing = refl

-- ---- what is cut are the lines

tail_is : (x y : ℕ) (xs ys : List ℕ) → x ∷ xs ≡ y ∷ ys → xs ≡ ys
tail_is x y xs ys e = cc

no_feed_in : (byte : ℕ) (line : List ℕ) → eqb byte 10 ≡ false → ¬ Holds (codes "\n") line → ¬ Holds (codes "\n") (byte ∷ line)
no_feed_in byte line other none h = at h.0 h.1 h.2
  where
    at : (before after : List ℕ) → byte ∷ line ≡ before ++ (codes "\n" ++ after) → ⊥
    at [] after e = true≢false (sym (eq-eqb byte 10 (head_is byte 10 line after e)) ∙ other)
    at (x ∷ before) after e = none (before, after, tail_is byte x line (before ++ (codes "\n" ++ after)) e)

feed_starts : (rest : List ℕ) → starts 10 (10 ∷ rest) ≡ true
unfolding starts
feed_starts rest = refl

-- a carriage return at the end of a line with a byte more at its front
return_in : (byte : ℕ) (line text rest : List ℕ) → (eqb byte 13 ≡ true → starts 10 text ≡ false) → text ≡ line ++ (codes "\n" ++ rest) → ¬ EndsWith (codes "\r") line → ¬ EndsWith (codes "\r") (byte ∷ line)
return_in byte line text rest apart whole none h = at h.0 h.1
  where
    nothing_left : line ≡ [] → byte ≡ 13 → ⊥
    nothing_left empty same =
        true≢false (sym (ap (starts 10) (whole ∙ ap (λ (l : List ℕ). l ++ (codes "\n" ++ rest)) empty) ∙ feed_starts rest) ∙ apart (eq-eqb byte 13 same))

    at : (before : List ℕ) → byte ∷ line ≡ before ++ codes "\r" → ⊥
    at [] e = nothing_left (tail_is byte 13 line [] e) (head_is byte 13 line [] e)
    at (x ∷ before) e = none (before, tail_is byte x line (before ++ codes "\r") e)

put_lines : (byte : ℕ) (lines : List (List ℕ)) (text : List ℕ) → eqb byte 10 ≡ false → (eqb byte 13 ≡ true → starts 10 text ≡ false) → AreLines lines text → AreLines (put byte lines) (byte ∷ text)
put_lines byte [] text other apart are = absurd are
put_lines byte (line ∷ []) text other apart are = (no_feed_in byte line other are.0, ap (λ (t : List ℕ). byte ∷ t) are.1)
put_lines byte (line ∷ next ∷ lines) text other apart are = (
  no_feed_in byte line other are.0,
  are.1,
  elim are.2 [
    | inl return ↦ inl (ap (λ (t : List ℕ). byte ∷ t) return)
    | inr feed ↦ inr (ap (λ (t : List ℕ). byte ∷ t) feed.0, return_in byte line text are.1 apart feed.0 feed.1)
  ],
  are.3,
)

no_feed : ¬ Holds (codes "\n") []
no_feed h = at h.0 h.1 h.2
  where
    at : (before after : List ℕ) → [] ≡ before ++ (codes "\n" ++ after) → ⊥
    at [] after e = cc
    at (x ∷ before) after e = cc

no_return : ¬ EndsWith (codes "\r") []
no_return h = at h.0 h.1
  where
    at : (before : List ℕ) → [] ≡ before ++ codes "\r" → ⊥
    at [] e = cc
    at (x ∷ before) e = cc

-- a line without a byte in front of others
empty_first : (lines : List (List ℕ)) (text rest : List ℕ) → EndsLine [] text rest → AreLines lines rest → AreLines ([] ∷ lines) text
empty_first [] text rest ends are = absurd are
empty_first (line ∷ lines) text rest ends are = (no_feed, rest, ends, are)

not_feed : (byte : ℕ) (text : List ℕ) → eqb byte 10 ≡ false → starts 10 (byte ∷ text) ≡ false
unfolding starts
not_feed byte text other = other

nothing_starts : starts 10 [] ≡ false
unfolding starts
nothing_starts = refl

pub lines_take : (text : List ℕ) → AreLines (raw_lines text) text
lines_take [] = subst (λ (lines : List (List ℕ)). AreLines lines []) (sym raw_nothing) (no_feed, refl)
lines_take (byte ∷ []) =
    elim (cases_Bool (eqb byte 10)) [
      | inl feed ↦
          let whole : byte ∷ [] ≡ 10 ∷ [] = ap (λ (b : ℕ). b ∷ []) (eqb-true byte 10 feed) in
          let lines = sym (ap raw_lines whole ∙ raw_feed []) in
          subst (λ (l : List (List ℕ)). AreLines l (byte ∷ [])) lines (empty_first (raw_lines []) (byte ∷ []) [] (inr (whole, no_return)) (lines_take []))
      | inr other ↦
          subst (λ (l : List (List ℕ)). AreLines l (byte ∷ [])) (sym (raw_apart byte [] other nothing_starts)) (put_lines byte (raw_lines []) [] other (λ _. nothing_starts) (lines_take []))
    ]
lines_take (byte ∷ next ∷ text) =
    elim (cases_Bool (eqb byte 10)) [
      | inl feed ↦
          let whole : byte ∷ next ∷ text ≡ 10 ∷ next ∷ text = ap (λ (b : ℕ). b ∷ next ∷ text) (eqb-true byte 10 feed) in
          let lines = sym (ap raw_lines whole ∙ raw_feed (next ∷ text)) in
          subst (λ (l : List (List ℕ)). AreLines l (byte ∷ next ∷ text)) lines (empty_first (raw_lines (next ∷ text)) (byte ∷ next ∷ text) (next ∷ text) (inr (whole, no_return)) (lines_take (next ∷ text)))
      | inr other ↦ elim (cases_Bool (eqb next 10)) [
        | inl feed ↦ elim (cases_Bool (eqb byte 13)) [
          | inl return ↦
              let whole : byte ∷ next ∷ text ≡ 13 ∷ 10 ∷ text = ap (λ (b : ℕ). b ∷ next ∷ text) (eqb-true byte 13 return) ∙ ap (λ (b : ℕ). 13 ∷ b ∷ text) (eqb-true next 10 feed) in
              let lines = sym (ap raw_lines whole ∙ raw_return text) in
              subst (λ (l : List (List ℕ)). AreLines l (byte ∷ next ∷ text)) lines (empty_first (raw_lines text) (byte ∷ next ∷ text) text (inl whole) (lines_take text))
          | inr plain ↦
              subst (λ (l : List (List ℕ)). AreLines l (byte ∷ next ∷ text)) (sym (raw_other byte (next ∷ text) other plain))
              (put_lines byte (raw_lines (next ∷ text)) (next ∷ text) other (λ same. absurd (true≢false (sym same ∙ plain))) (lines_take (next ∷ text)))
        ]
        | inr apart ↦
            subst (λ (l : List (List ℕ)). AreLines l (byte ∷ next ∷ text)) (sym (raw_apart byte (next ∷ text) other (not_feed next text apart)))
            (put_lines byte (raw_lines (next ∷ text)) (next ∷ text) other (λ _. not_feed next text apart) (lines_take (next ∷ text)))
      ]
    ]

-- ---- the lines are what is cut

first_not_feed : (byte : ℕ) (line : List ℕ) → ¬ Holds (codes "\n") (byte ∷ line) → eqb byte 10 ≡ false
first_not_feed byte line none =
    elim (cases_Bool (eqb byte 10)) [
      | inl same ↦ absurd (none ([], line, ap (λ (b : ℕ). b ∷ line) (eqb-true byte 10 same)))
      | inr other ↦ other
    ]

rest_no_feed : (byte : ℕ) (line : List ℕ) → ¬ Holds (codes "\n") (byte ∷ line) → ¬ Holds (codes "\n") line
rest_no_feed byte line none h = none (holds_behind (codes "\n") byte line h)

starts_apart : (line more : List ℕ) → ¬ Holds (codes "\n") line → starts 10 more ≡ false → starts 10 (line ++ more) ≡ false
starts_apart [] more none apart = apart
starts_apart (byte ∷ line) more none apart = not_feed byte (line ++ more) (first_not_feed byte line none)

return_apart : (rest : List ℕ) → starts 10 (13 ∷ rest) ≡ false
unfolding starts
return_apart rest = refl

line_alone : (line : List ℕ) → ¬ Holds (codes "\n") line → raw_lines line ≡ line ∷ []
line_alone [] none = raw_nothing
line_alone (byte ∷ []) none = raw_apart byte [] (first_not_feed byte [] none) nothing_starts ∙ ap (put byte) raw_nothing
line_alone (byte ∷ next ∷ line) none =
    raw_apart byte (next ∷ line) (first_not_feed byte (next ∷ line) none) (not_feed next line (first_not_feed next line (rest_no_feed byte (next ∷ line) none)))
    ∙ ap (put byte) (line_alone (next ∷ line) (rest_no_feed byte (next ∷ line) none))

line_returned : (line rest : List ℕ) → ¬ Holds (codes "\n") line → raw_lines (line ++ (13 ∷ 10 ∷ rest)) ≡ line ∷ raw_lines rest
line_returned [] rest none = raw_return rest
line_returned (byte ∷ line) rest none =
    raw_apart byte (line ++ (13 ∷ 10 ∷ rest)) (first_not_feed byte line none) (starts_apart line (13 ∷ 10 ∷ rest) (rest_no_feed byte line none) (return_apart (10 ∷ rest)))
    ∙ ap (put byte) (line_returned line rest (rest_no_feed byte line none))

not_return : (byte : ℕ) → ¬ EndsWith (codes "\r") (byte ∷ []) → eqb byte 13 ≡ false
not_return byte none =
    elim (cases_Bool (eqb byte 13)) [
      | inl same ↦ absurd (none ([], ap (λ (b : ℕ). b ∷ []) (eqb-true byte 13 same)))
      | inr other ↦ other
    ]

line_fed : (line rest : List ℕ) → ¬ Holds (codes "\n") line → ¬ EndsWith (codes "\r") line → raw_lines (line ++ (10 ∷ rest)) ≡ line ∷ raw_lines rest
line_fed [] rest none plain = raw_feed rest
line_fed (byte ∷ []) rest none plain = raw_other byte (10 ∷ rest) (first_not_feed byte [] none) (not_return byte plain) ∙ ap (put byte) (raw_feed rest)
line_fed (byte ∷ next ∷ line) rest none plain =
    raw_apart byte (next ∷ (line ++ (10 ∷ rest))) (first_not_feed byte (next ∷ line) none) (not_feed next (line ++ (10 ∷ rest)) (first_not_feed next line (rest_no_feed byte (next ∷ line) none)))
    ∙ ap (put byte) (line_fed (next ∷ line) rest (rest_no_feed byte (next ∷ line) none) (λ h. plain (ends_behind (codes "\r") byte (next ∷ line) h)))

pub lines_again : (lines : List (List ℕ)) (text : List ℕ) → AreLines lines text → raw_lines text ≡ lines
lines_again [] text are = absurd are
lines_again (line ∷ []) text are = ap raw_lines are.1 ∙ line_alone line are.0
lines_again (line ∷ next ∷ lines) text are =
    elim are.2 [
      | inl return ↦ ap raw_lines return ∙ line_returned line are.1 are.0 ∙ ap (λ (l : List (List ℕ)). line ∷ l) (lines_again (next ∷ lines) are.1 are.3)
      | inr feed ↦ ap raw_lines feed.0 ∙ line_fed line are.1 are.0 feed.1 ∙ ap (λ (l : List (List ℕ)). line ∷ l) (lines_again (next ∷ lines) are.1 are.3)
    ]
