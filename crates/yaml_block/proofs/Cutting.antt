-- A text cut at its first line feed.
use Rattle.std.proofs.Common.{◌≡◌, ◌<◌, ◌≤◌, ℕ, ◌+◌, ◌-◌, true, false, cond, eqb, List, [], ◌∷◌, ◌++◌, length, take, drop, get_or, Option, Some, None, refl, sym, ap, ◌∙◌, inl, inr, arith}
use Rattle.std.proofs.lemmas.Bool.{cases_Bool, cond-true, cond-false}
use Rattle.text_scan.specs.Fronts.{front_of, rest_of}
use Rattle.text_scan.proofs.Fronts.{length-rest, take-front}
use Rattle.yaml_block.specs.Spaces.{starts}
use Rattle.yaml_block.specs.Lines.{is_no_feed, put, raw_lines, without_return}
use Rattle.yaml_block.proofs.Trimming.{last_apart}

-- how many steps are left: one for each byte and one for the last line
abbrev pub left : Option (List ℕ) → ℕ
left None = 0
left (Some text) = length text + 1

head_same : {A : Type 0} (x y : A) (xs ys : List A) → x ∷ xs ≡ y ∷ ys → xs ≡ ys
head_same x y xs ys e = cc

nil_is_not : {A : Type 0} (x : A) (xs : List A) → x ∷ xs ≡ [] → ⊥
nil_is_not x xs e = cc

raw-feed : (byte : ℕ) (text : List ℕ) → eqb byte 10 ≡ true → raw_lines (byte ∷ text) ≡ [] ∷ raw_lines text
unfolding raw_lines
raw-feed byte text feed = rw feed refl

raw-return : (byte : ℕ) (text : List ℕ) → eqb byte 10 ≡ false → eqb byte 13 ≡ true → starts 10 text ≡ true → raw_lines (byte ∷ text) ≡ raw_lines text
unfolding raw_lines
raw-return byte text other same feed = rw (other, same, feed) refl

raw-other : (byte : ℕ) (text : List ℕ) → eqb byte 10 ≡ false → eqb byte 13 ≡ false → raw_lines (byte ∷ text) ≡ put byte (raw_lines text)
unfolding raw_lines
raw-other byte text other plain = rw (other, plain) refl

raw-apart : (byte : ℕ) (text : List ℕ) → eqb byte 10 ≡ false → starts 10 text ≡ false → raw_lines (byte ∷ text) ≡ put byte (raw_lines text)
unfolding raw_lines
raw-apart byte text other apart =
    elim (cases_Bool (eqb byte 13)) [
      | inl same ↦ rw (other, same, apart) refl
      | inr plain ↦ rw (other, plain) refl
    ]

front-feed : (byte : ℕ) (text : List ℕ) → eqb byte 10 ≡ true → front_of is_no_feed (byte ∷ text) ≡ []
unfolding front_of
front-feed byte text feed = rw feed refl

front-other : (byte : ℕ) (text : List ℕ) → eqb byte 10 ≡ false → front_of is_no_feed (byte ∷ text) ≡ byte ∷ front_of is_no_feed text
unfolding front_of
front-other byte text other = rw other refl

rest-feed : (byte : ℕ) (text : List ℕ) → eqb byte 10 ≡ true → rest_of is_no_feed (byte ∷ text) ≡ byte ∷ text
unfolding rest_of
rest-feed byte text feed = rw feed refl

rest-other : (byte : ℕ) (text : List ℕ) → eqb byte 10 ≡ false → rest_of is_no_feed (byte ∷ text) ≡ rest_of is_no_feed text
unfolding rest_of
rest-other byte text other = rw other refl

starts_no_feed : (text : List ℕ) → rest_of is_no_feed text ≡ [] → starts 10 text ≡ false
unfolding starts
starts_no_feed [] none = refl
starts_no_feed (byte ∷ text) none =
    elim (cases_Bool (eqb byte 10)) [
      | inl feed ↦ absurd (nil_is_not byte text (sym (rest-feed byte text feed) ∙ none))
      | inr other ↦ other
    ]

front-starts : (text : List ℕ) → starts 10 text ≡ true → front_of is_no_feed text ≡ []
unfolding starts
front-starts [] feed = absurd cc
front-starts (byte ∷ text) feed = front-feed byte text feed

-- a text that doesn't begin with a line feed has a byte before its first one
front_some : (text : List ℕ) (feed : ℕ) (after : List ℕ) → starts 10 text ≡ false → rest_of is_no_feed text ≡ feed ∷ after → (x : ℕ) × (xs : List ℕ) × (front_of is_no_feed text ≡ x ∷ xs)
unfolding starts rest_of
front_some [] feed after apart e = absurd cc
front_some (byte ∷ text) feed after apart e = (byte, front_of is_no_feed text, front-other byte text apart)

pub lines-last : (text : List ℕ) → rest_of is_no_feed text ≡ [] → raw_lines text ≡ front_of is_no_feed text ∷ []
unfolding raw_lines rest_of front_of
lines-last [] none = refl
lines-last (byte ∷ text) none =
    elim (cases_Bool (eqb byte 10)) [
      | inl feed ↦ absurd (nil_is_not byte text (sym (rest-feed byte text feed) ∙ none))
      | inr other ↦
          let behind : rest_of is_no_feed text ≡ [] = sym (rest-other byte text other) ∙ none in
          raw-apart byte text other (starts_no_feed text behind) ∙ ap (put byte) (lines-last text behind) ∙ ap (λ (line : List ℕ). line ∷ []) (sym (front-other byte text other))
    ]

return-single : (byte : ℕ) → eqb byte 13 ≡ true → without_return (byte ∷ []) ≡ []
unfolding without_return
return-single byte same = rw same refl

return-plain : (byte : ℕ) → eqb byte 13 ≡ false → without_return (byte ∷ []) ≡ byte ∷ []
unfolding without_return
return-plain byte plain = rw plain refl

return-nothing : without_return [] ≡ []
unfolding without_return
return-nothing = refl

return-more : (byte next : ℕ) (text : List ℕ) → without_return (byte ∷ next ∷ text) ≡ byte ∷ without_return (next ∷ text)
unfolding without_return
return-more byte next text = refl

pub lines-ended : (text : List ℕ) (feed : ℕ) (after : List ℕ) → rest_of is_no_feed text ≡ feed ∷ after → raw_lines text ≡ without_return (front_of is_no_feed text) ∷ raw_lines after
unfolding rest_of
lines-ended [] feed after e = absurd cc
lines-ended (byte ∷ text) feed after e =
    elim (cases_Bool (eqb byte 10)) [
      | inl same ↦
          let behind : text ≡ after = head_same byte feed text after (sym (rest-feed byte text same) ∙ e) in
          let empty : without_return (front_of is_no_feed (byte ∷ text)) ≡ [] = ap without_return (front-feed byte text same) ∙ return-nothing in
          raw-feed byte text same ∙ ap (λ (t : List ℕ). [] ∷ raw_lines t) behind ∙ ap (λ (line : List ℕ). line ∷ raw_lines after) (sym empty)
      | inr other ↦
          let behind : rest_of is_no_feed text ≡ feed ∷ after = sym (rest-other byte text other) ∙ e in
          let more = lines-ended text feed after behind in
          elim (cases_Bool (starts 10 text)) [
            | inl at_feed ↦
                let whole : front_of is_no_feed (byte ∷ text) ≡ byte ∷ [] = front-other byte text other ∙ ap (λ (t : List ℕ). byte ∷ t) (front-starts text at_feed) in
                let nothing : without_return (front_of is_no_feed text) ≡ [] = ap without_return (front-starts text at_feed) ∙ return-nothing in
                elim (cases_Bool (eqb byte 13)) [
                  | inl return ↦
                      raw-return byte text other return at_feed ∙ more ∙ ap (λ (line : List ℕ). line ∷ raw_lines after) (nothing ∙ sym (ap without_return whole ∙ return-single byte return))
                  | inr plain ↦
                      raw-other byte text other plain ∙ ap (put byte) more ∙ ap (λ (line : List ℕ). line ∷ raw_lines after) (ap (λ (t : List ℕ). byte ∷ t) nothing ∙ sym (ap without_return whole ∙ return-plain byte plain))
                ]
            | inr apart ↦
                let front = front_some text feed after apart behind in
                let whole : without_return (front_of is_no_feed (byte ∷ text)) ≡ byte ∷ without_return (front_of is_no_feed text) =
                ap without_return (front-other byte text other ∙ ap (λ (t : List ℕ). byte ∷ t) front.2) ∙ return-more byte front.0 front.1 ∙ ap (λ (t : List ℕ). byte ∷ without_return t) (sym front.2) in
                raw-apart byte text other apart ∙ ap (put byte) more ∙ ap (λ (line : List ℕ). line ∷ raw_lines after) (sym whole)
          ]
    ]

return-snoc : (text : List ℕ) (byte : ℕ) → without_return (text ++ byte ∷ []) ≡ cond (eqb byte 13) text (text ++ byte ∷ [])
unfolding without_return
return-snoc [] byte = refl
return-snoc (x ∷ []) byte = elim (cases_Bool (eqb byte 13)) [ inl same ↦ rw same refl | inr other ↦ rw other refl ]
return-snoc (x ∷ y ∷ text) byte =
    elim (cases_Bool (eqb byte 13)) [
      | inl same ↦ ap (λ (t : List ℕ). x ∷ t) (return-snoc (y ∷ text) byte) ∙ rw same refl
      | inr other ↦ ap (λ (t : List ℕ). x ∷ t) (return-snoc (y ∷ text) byte) ∙ rw other refl
    ]

pub return-less : (text : List ℕ) → 0 < length text → eqb (get_or text (length text - 1) 0) 13 ≡ true → take (length text - 1) text ≡ without_return text
return-less text some same =
    sym (ap without_return (last_apart text some) ∙ return-snoc (take (length text - 1) text) (get_or text (length text - 1) 0) ∙ cond-true _ _ _ same)

pub return-same : (text : List ℕ) → 0 < length text → eqb (get_or text (length text - 1) 0) 13 ≡ false → text ≡ without_return text
return-same text some other =
    last_apart text some
    ∙ sym (ap without_return (last_apart text some) ∙ return-snoc (take (length text - 1) text) (get_or text (length text - 1) 0) ∙ cond-false _ _ _ other)

pub return-none : (text : List ℕ) → text ≡ [] → text ≡ without_return text
return-none text none = none ∙ sym (ap without_return none ∙ return-nothing)

-- the two parts of a text at its first line feed
pub cut-last : (text front rest : List ℕ) → rest ≡ rest_of is_no_feed text → front ≡ take (length text - length rest) text → rest ≡ [] → raw_lines text ≡ front ∷ []
cut-last text front rest behind taken none =
    lines-last text (sym behind ∙ none) ∙ ap (λ (line : List ℕ). line ∷ []) (sym (taken ∙ ap (λ (r : List ℕ). take (length text - length r) text) behind ∙ take-front is_no_feed text))

pub cut-ended : (text front rest : List ℕ) → rest ≡ rest_of is_no_feed text → front ≡ take (length text - length rest) text → 0 < length rest → raw_lines text ≡ without_return front ∷ raw_lines (drop 1 rest)
cut-ended text front rest behind taken some =
    lines-ended text (get_or rest 0 0) (drop 1 rest) (sym behind ∙ rest_apart rest some)
    ∙ ap (λ (line : List ℕ). without_return line ∷ raw_lines (drop 1 rest)) (sym (taken ∙ ap (λ (r : List ℕ). take (length text - length r) text) behind ∙ take-front is_no_feed text))
  where
    rest_apart : (xs : List ℕ) → 0 < length xs → xs ≡ get_or xs 0 0 ∷ drop 1 xs
    rest_apart [] some = absurd (omega arith)
    rest_apart (x ∷ xs) some = refl

pub cut-length : (text rest : List ℕ) → rest ≡ rest_of is_no_feed text → length rest ≤ length text
cut-length text rest behind = omega (arith, ap length behind, length-rest is_no_feed text)
