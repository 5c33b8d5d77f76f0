-- Lines put on a page, one behind another.
use Rattle.std.proofs.Common.{◌≡◌, ℕ, List, [], ◌∷◌, ◌++◌, refl, sym, ap, ◌∙◌, append_assoc}
use Rattle.std.specs.Prelude.{codes}
use Rattle.std.proofs.lemmas.Grind.{flat_map-append}
use Rattle.std.proofs.lemmas.List.{append-nil}
use Rattle.std.specs.List.{flat_map}
use Rattle.frag_words.specs.Lines.{Line, Piece, text, line, fixed, braced, piece_text, line_text, lines_text}
use Rattle.frag_tree.specs.Phrases.{text_of}
use Rattle.frag_tree.specs.declared.phrase.Phrase.TheVariants as phrase

-- nothing was put
pub put_nothing : (old : List ℕ) → old ≡ old ++ lines_text []
put_nothing old = sym (append-nil old)

-- one line was put
pub put_line : (old new : List ℕ) (l : Line) → new ≡ old ++ line_text l → new ≡ old ++ lines_text (l ∷ [])
put_line old new l is = is ∙ ap (λ bytes. old ++ bytes) (sym (append-nil (line_text l)))

-- a line was put, and then more
pub put_more : (old mid new : List ℕ) (l : Line) (more : List Line) → mid ≡ old ++ line_text l → new ≡ mid ++ lines_text more → new ≡ old ++ lines_text (l ∷ more)
put_more old mid new l more first then = then ∙ (ap (λ bytes. bytes ++ lines_text more) first ∙ append_assoc old (line_text l) (lines_text more))

-- lines were put, and then more
pub put_then : (old mid new : List ℕ) (lines more : List Line) → mid ≡ old ++ lines_text lines → new ≡ mid ++ lines_text more → new ≡ old ++ lines_text (lines ++ more)
put_then old mid new lines more first then =
    then ∙ (ap (λ bytes. bytes ++ lines_text more) first ∙ (append_assoc old (lines_text lines) (lines_text more) ∙ ap (λ bytes. old ++ bytes) (sym (flat_map-append line_text lines more))))

-- a list in braces was put
pub put_braced : (old opened within new : List ℕ) (depth : ℕ) (opening : List Piece) (lines : List Line) → opened ≡ old ++ line_text (line depth opening) → within ≡ opened ++ lines_text lines → new ≡ within ++ line_text (fixed depth (text_of phrase.Closer)) → new ≡ old ++ lines_text (braced depth opening lines)
put_braced old opened within new depth opening lines first then last =
    put_more old opened new (line depth opening) (lines ++ fixed depth (text_of phrase.Closer) ∷ []) first (put_then opened within new lines (fixed depth (text_of phrase.Closer) ∷ []) then (put_line within new (fixed depth (text_of phrase.Closer)) last))

-- the bytes of pieces and more pieces
pub pieces-append : (pieces more : List Piece) → flat_map piece_text (pieces ++ more) ≡ flat_map piece_text pieces ++ flat_map piece_text more
pieces-append pieces more = flat_map-append piece_text pieces more

pub ruleset joined = (pieces-append, append_assoc)

-- the parts of an accessor's line, put one by one
pub put_access : (spaces : List ℕ) (head element body : List Piece) (between : List ℕ) (old a b c d e new : List ℕ) → a ≡ old ++ spaces → b ≡ a ++ flat_map piece_text head → c ≡ b ++ flat_map piece_text element → d ≡ c ++ between → e ≡ d ++ flat_map piece_text body → new ≡ e ++ codes "\n" → new ≡ old ++ (spaces ++ (flat_map piece_text (head ++ (element ++ text between ∷ body)) ++ codes "\n"))
put_access spaces head element body between old a b c d e new is-a is-b is-c is-d is-e is-new =
    rw (is-new, is-e, is-d, is-c, is-b, is-a) (simp (pieces-append, append_assoc, append-nil))
