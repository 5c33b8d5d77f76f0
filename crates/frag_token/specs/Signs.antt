-- The words by which a reader tells what it reads next.
use Rattle.std.specs.Prelude.{codes}
use Rattle.frag_words.specs.Words.{Word}
use Rattle.frag_tree.specs.Numerals.{truth_word, width_word}
use Rattle.frag_tree.specs.Registers.{kind_word}
use Rattle.frag_token.specs.declared.sign.Sign.{Sign}
use Rattle.frag_token.specs.declared.sign.Sign.TheVariants as sign

unfoldable pub sign_word : Sign → Word
sign_word sign.Pub = codes "pub"
sign_word sign.Impl = codes "impl"
sign_word sign.Closer = codes "}"
sign_word sign.Hash = codes "#"
sign_word sign.Less = codes "<"
sign_word sign.Bracket = codes "["
sign_word sign.Semicolon = codes ";"
sign_word sign.Comma = codes ","
sign_word sign.Reference = codes "&"
sign_word sign.At = codes "at"
sign_word sign.Readable = codes "Readable"
sign_word sign.Writable = codes "Writable"
sign_word sign.R = codes "R"
sign_word sign.W = codes "W"
sign_word sign.BitReader = codes "BitReader"
sign_word sign.FieldReader = codes "FieldReader"
sign_word sign.FieldWriter = codes "FieldWriter"
sign_word (sign.Type width) = width_word width
sign_word (sign.Truth truth) = truth_word truth
sign_word (sign.Kind kind) = kind_word kind
