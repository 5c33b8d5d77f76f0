-- The fixed texts of the crate text (this project's own templates, after what svd2rust prints).
use Rattle.std.specs.Prelude.{ℕ, List, Bool, true, false, codes}
use Rattle.frag_words.specs.Lines.{Piece, text}
use Rattle.frag_words.specs.Words.{Word, words_in}
use Rattle.frag_tree.specs.declared.phrase.Phrase.{Phrase}
use Rattle.frag_tree.specs.declared.phrase.Phrase.TheVariants as phrase

-- how a fixed text is spelled
abbrev pub text_of : Phrase → List ℕ
text_of phrase.VersionTwo = codes "pub const CRATE_TEXT: u32 = 0x2;"
text_of phrase.UsePrelude = codes "use crate::generic::*;"
text_of phrase.OpensPeripherals = codes "pub struct Peripherals {"
text_of phrase.Closer = codes "}"
text_of phrase.Pub = codes "pub "
text_of phrase.OpensPeriph = codes ": Periph<"
text_of phrase.BlockThenNext = codes "::RegisterBlock, "
text_of phrase.ClosesSlot = codes ">,"
text_of phrase.PubMod = codes "pub mod "
text_of phrase.OpensModule = codes " {"
text_of phrase.ReprC = codes "#[repr(C)]"
text_of phrase.OpensStruct = codes "pub struct RegisterBlock {"
text_of phrase.Colon = codes ": "
text_of phrase.Comma = codes ","
text_of phrase.OpensReg = codes "Reg<"
text_of phrase.ClosesReg = codes "::Spec>"
text_of phrase.OfBlock = codes "::RegisterBlock"
text_of phrase.OpensGap = codes "[u8; "
text_of phrase.OpensArray = codes "["
text_of phrase.Semicolon = codes "; "
text_of phrase.ClosesArray = codes "]"
text_of phrase.BlockImpl = codes "impl RegisterBlock {"
text_of phrase.PubFn = codes "pub fn "
text_of phrase.Plain = codes "(&self) -> "
text_of phrase.Indexed = codes "(&self, n: usize) -> "
text_of phrase.PlainMut = codes "(&mut self) -> "
text_of phrase.IndexedMut = codes "(&mut self, n: usize) -> "
text_of phrase.Reference = codes "&"
text_of phrase.OpensBody = codes " { "
text_of phrase.ClosesBody = codes " }"
text_of phrase.FieldOfSelf = codes "&self."
text_of phrase.ClosesMember = codes "[n] }"
text_of phrase.OpensAt = codes "at(self, "
text_of phrase.OpensAtIndex = codes "at_index(self, "
text_of phrase.ThenNext = codes ", "
text_of phrase.ClosesAtIndex = codes ", n) }"
text_of phrase.ClosesCall = codes ") }"
text_of phrase.SpecStruct = codes "pub struct Spec;"
text_of phrase.OpensSpec = codes "impl RegisterSpec for Spec { type Ux = "
text_of phrase.ClosesSpec = codes "; }"
text_of phrase.ReadableImpl = codes "impl Readable for Spec {}"
text_of phrase.WritableImpl = codes "impl Writable for Spec { "
text_of phrase.ZeroToModify = codes "const ZERO_TO_MODIFY: "
text_of phrase.OneToModify = codes "const ONE_TO_MODIFY: "
text_of phrase.ResettableImpl = codes "impl Resettable for Spec { "
text_of phrase.ResetValue = codes "const RESET_VALUE: "
text_of phrase.Equals = codes " = "
text_of phrase.PubStruct = codes "pub struct "
text_of phrase.ClosesMarker = codes ";"
text_of phrase.ReadersImpl = codes "impl R<Spec> {"
text_of phrase.WritersImpl = codes "impl W<Spec> {"
text_of phrase.OpensAtBit = codes "at_bit("
text_of phrase.ClosesAtBit = codes ", n)"
text_of phrase.OfBitReader = codes "BitReader<"
text_of phrase.NewBitReader = codes "> { BitReader::new(((self.bits >> "
text_of phrase.ThenMask = codes ") & "
text_of phrase.ClosesBitReader = codes ") != 0x0) }"
text_of phrase.OfFieldReader = codes "FieldReader<"
text_of phrase.NewFieldReader = codes "> { FieldReader::new(((self.bits >> "
text_of phrase.ThenCast = codes ") as "
text_of phrase.OfFieldWriter = codes "FieldWriter<'_, Spec, "
text_of phrase.NewFieldWriter = codes "> { FieldWriter::new(self, "
text_of phrase.OfSpec = codes "<'_, Spec, "
text_of phrase.ThenBody = codes "> { "
text_of phrase.NewOnSelf = codes "::new(self, "
text_of phrase.TestsBit = codes "(&self) -> bool { self.bit() == "
text_of phrase.TestsNumber = codes "(&self) -> bool { self.bits() == "
text_of phrase.WritesBit = codes "(self) -> &'a mut W<Spec> { self.bit("
text_of phrase.WritesNumber = codes "(self) -> &'a mut W<Spec> { self.bits("
text_of phrase.BitReaderImpl = codes "impl BitReader<"
text_of phrase.FieldReaderImpl = codes "impl FieldReader<"
text_of phrase.WriterImpl = codes "impl<'a> "
text_of phrase.FieldWriterImpl = codes "impl<'a> FieldWriter<'a, Spec, "
text_of phrase.OfSpecInImpl = codes "<'a, Spec, "
text_of phrase.OpensCalls = codes "> {"

-- the words of a fixed text
abbrev pub words_of : Phrase → List Word
words_of phrase = words_in (text_of phrase)

-- a fixed text as a piece of a line
abbrev pub says : Phrase → Piece
says phrase = text (text_of phrase)

-- `self` and, where a call takes one, the index
abbrev pub receiver : Bool → Phrase
receiver true = phrase.Indexed
receiver false = phrase.Plain

-- the same of a call that changes what it is called on
abbrev pub receiver_mut : Bool → Phrase
receiver_mut true = phrase.IndexedMut
receiver_mut false = phrase.PlainMut
