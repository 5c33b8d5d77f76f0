-- The fixed words of scripts.
use Rattle.std.specs.Prelude.{codes}
use Rattle.frag_words.specs.Words.{Word}
use Rattle.frag_tree.specs.Numerals.{truth_word, width_word}
use Rattle.frag_script.specs.declared.fixed.Fixed.{Fixed}
use Rattle.frag_script.specs.declared.fixed.Fixed.TheVariants.{Let, Say, Read, Write, WriteWithZero, Modify, Reset, Bits, As, ReaderName, WriterName, NoName, Truth, NumberType, Equals, Dot, Comma, Bar, Negation, Opener, Closer, Semicolon}

-- how a fixed word is spelled
unfoldable pub text_of : Fixed → Word
text_of Let = codes "let"
text_of Say = codes "say"
text_of Read = codes "read"
text_of Write = codes "write"
text_of WriteWithZero = codes "write_with_zero"
text_of Modify = codes "modify"
text_of Reset = codes "reset"
text_of Bits = codes "bits"
text_of As = codes "as"
text_of ReaderName = codes "r"
text_of WriterName = codes "w"
text_of NoName = codes "_"
text_of (Truth truth) = truth_word truth
text_of (NumberType width) = width_word width
text_of Equals = codes "="
text_of Dot = codes "."
text_of Comma = codes ","
text_of Bar = codes "|"
text_of Negation = codes "!"
text_of Opener = codes "("
text_of Closer = codes ")"
text_of Semicolon = codes ";"
