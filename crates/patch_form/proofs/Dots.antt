-- A text cut at its first dot.
use Rattle.std.proofs.Common.{◌≡◌, ◌<◌, ◌≤◌, ℕ, ◌-◌, Bool, true, false, eqb, List, [], ◌∷◌, length, take, drop, get_or, refl, sym, ap, ◌∙◌, arith}
use Rattle.text_scan.specs.Fronts.{front_of, rest_of}
use Rattle.text_scan.proofs.Fronts.{length-rest, take-front}
use Rattle.patch_form.specs.Forms.{dotted_parts, is_no_dot, put}

last_by : (byte : ℕ) (text : List ℕ) (dot : Bool) → eqb byte 46 ≡ dot → (rest_of is_no_dot text ≡ [] → dotted_parts text ≡ front_of is_no_dot text ∷ []) → rest_of is_no_dot (byte ∷ text) ≡ [] → dotted_parts (byte ∷ text) ≡ front_of is_no_dot (byte ∷ text) ∷ []
unfolding dotted_parts rest_of front_of
last_by byte text true is more none = absurd (no_rest byte text (sym (stays byte text is) ∙ none))
  where
    no_rest : (b : ℕ) (t : List ℕ) → b ∷ t ≡ [] → ⊥
    no_rest b t e = absurd cc

    stays : (b : ℕ) (t : List ℕ) → eqb b 46 ≡ true → rest_of is_no_dot (b ∷ t) ≡ b ∷ t
    stays b t e = rw e refl
last_by byte text false is more none =
    let same : rest_of is_no_dot text ≡ [] = rw is at none in
    rw is (ap (put byte) (more same))

dots-last : (text : List ℕ) → rest_of is_no_dot text ≡ [] → dotted_parts text ≡ front_of is_no_dot text ∷ []
unfolding dotted_parts rest_of front_of
dots-last [] none = refl
dots-last (byte ∷ text) none = last_by byte text (eqb byte 46) refl (dots-last text) none

cut_by : (byte : ℕ) (text : List ℕ) (found : ℕ) (after : List ℕ) (dot : Bool) → eqb byte 46 ≡ dot → (rest_of is_no_dot text ≡ found ∷ after → dotted_parts text ≡ front_of is_no_dot text ∷ dotted_parts after) → rest_of is_no_dot (byte ∷ text) ≡ found ∷ after → dotted_parts (byte ∷ text) ≡ front_of is_no_dot (byte ∷ text) ∷ dotted_parts after
unfolding dotted_parts rest_of front_of
cut_by byte text found after true is more rest =
    let whole : byte ∷ text ≡ found ∷ after = rw is at rest in
    let same : text ≡ after = cc in
    rw is (ap (λ t. [] ∷ dotted_parts t) same)
cut_by byte text found after false is more rest =
    let same : rest_of is_no_dot text ≡ found ∷ after = rw is at rest in
    rw is (ap (put byte) (more same))

dots-cut : (text : List ℕ) (found : ℕ) (after : List ℕ) → rest_of is_no_dot text ≡ found ∷ after → dotted_parts text ≡ front_of is_no_dot text ∷ dotted_parts after
unfolding rest_of
dots-cut [] found after rest = absurd cc
dots-cut (byte ∷ text) found after rest = cut_by byte text found after (eqb byte 46) refl (dots-cut text found after) rest

pub cut-last : (text front rest : List ℕ) → rest ≡ rest_of is_no_dot text → front ≡ take (length text - length rest) text → rest ≡ [] → dotted_parts text ≡ front ∷ []
cut-last text front rest behind taken none =
    dots-last text (sym behind ∙ none) ∙ ap (λ (part : List ℕ). part ∷ []) (sym (taken ∙ ap (λ (r : List ℕ). take (length text - length r) text) behind ∙ take-front is_no_dot text))

pub cut-ended : (text front rest : List ℕ) → rest ≡ rest_of is_no_dot text → front ≡ take (length text - length rest) text → 0 < length rest → dotted_parts text ≡ front ∷ dotted_parts (drop 1 rest)
cut-ended text front rest behind taken some =
    dots-cut text (get_or rest 0 0) (drop 1 rest) (sym behind ∙ rest_apart rest some)
    ∙ ap (λ (part : List ℕ). part ∷ dotted_parts (drop 1 rest)) (sym (taken ∙ ap (λ (r : List ℕ). take (length text - length r) text) behind ∙ take-front is_no_dot text))
  where
    rest_apart : (xs : List ℕ) → 0 < length xs → xs ≡ get_or xs 0 0 ∷ drop 1 xs
    rest_apart [] some = absurd (omega arith)
    rest_apart (x ∷ xs) some = refl

pub cut-length : (text rest : List ℕ) → rest ≡ rest_of is_no_dot text → length rest ≤ length text
cut-length text rest behind = omega (arith, ap length behind, length-rest is_no_dot text)
