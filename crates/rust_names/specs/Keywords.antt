-- The keywords of Rust 2024, strict and reserved, with `Self`.
use Rattle.std.specs.Prelude.{ℕ, List, [], ◌∷◌, Bool, codes}
use Rattle.std.specs.List.{list_any}
use Rattle.std.specs.Str.{bytes_eq}

abbrev pub keywords : List (List ℕ)
keywords =
    codes "Self" ∷ codes "abstract" ∷ codes "as" ∷ codes "async" ∷ codes "await" ∷ codes "become" ∷
    codes "box" ∷ codes "break" ∷ codes "const" ∷ codes "continue" ∷ codes "crate" ∷ codes "do" ∷
    codes "dyn" ∷ codes "else" ∷ codes "enum" ∷ codes "extern" ∷ codes "false" ∷ codes "final" ∷
    codes "fn" ∷ codes "for" ∷ codes "gen" ∷ codes "if" ∷ codes "impl" ∷ codes "in" ∷ codes "let" ∷
    codes "loop" ∷ codes "macro" ∷ codes "match" ∷ codes "mod" ∷ codes "move" ∷ codes "mut" ∷
    codes "override" ∷ codes "priv" ∷ codes "pub" ∷ codes "ref" ∷ codes "return" ∷ codes "self" ∷
    codes "static" ∷ codes "struct" ∷ codes "super" ∷ codes "trait" ∷ codes "true" ∷ codes "try" ∷
    codes "type" ∷ codes "typeof" ∷ codes "unsafe" ∷ codes "unsized" ∷ codes "use" ∷
    codes "virtual" ∷ codes "where" ∷ codes "while" ∷ codes "yield" ∷ []

unfoldable pub is_keyword : List ℕ → Bool
is_keyword word = list_any (bytes_eq word) keywords
