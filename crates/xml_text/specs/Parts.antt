-- The parts of a description's text (XML 1.0 without processing instructions, CDATA and document types). Each relation says that the text is the part,
-- in the order of what it holds, and then the rest.
use Rattle.std.specs.Prelude.{◌≡◌, ◌≢◌, ℕ, Bool, true, false, List, [], ◌++◌, length, map, codes}
use Rattle.text_scan.specs.declared.class.Class.TheVariants.{Blank}
use Rattle.text_scan.specs.Classes.{has}
use Rattle.text_scan.specs.Fronts.{Passes, StopsAt}
use Rattle.text_scan.specs.Follows.{Follows}
use Rattle.text_scan.specs.Lists.{ReadsAll}
use Rattle.xml_text.specs.declared.quote.Quote.{Quote}
use Rattle.xml_text.specs.declared.run.Run.TheVariants.{Text, Value}
use Rattle.xml_text.specs.Bytes.{mark_of, is_in}
use Rattle.xml_text.specs.Names.{is_name, AreDistinct}
use Rattle.xml_text.specs.Marks.{EndsAtFirst}
use Rattle.xml_text.specs.References.{IsReference}

-- an attribute; `left` is how many bytes of the text are left from the first byte of its value on
pub record XmlAttribute : Type 0 where
  pub name : List ℕ
  pub value : List ℕ
  pub left : ℕ

-- a start tag; one that closes itself has no end tag
pub record XmlTag : Type 0 where
  pub name : List ℕ
  pub attributes : List XmlAttribute
  pub closes_itself : Bool

pub data XmlPart : Type 0 where
  starts : XmlTag → XmlPart
  ends : List ℕ → XmlPart
  says : List ℕ → XmlPart
  refers : ℕ → XmlPart
  comments : XmlPart

-- an attribute, with the white space before it
pub record IsAttribute (attribute : XmlAttribute) (text rest : List ℕ) : Type 0 where
  pub gap : List ℕ
  pub named : List ℕ
  pub valued : List ℕ
  pub inside : List ℕ
  pub quote : Quote
  pub apart : gap ≢ []
  pub white : Passes (has Blank) gap
  pub names : text ≡ gap ++ (attribute.name ++ named)
  pub equals : Follows (codes "=") named valued
  pub opens : Follows (mark_of quote) valued inside
  pub closes : inside ≡ attribute.value ++ (mark_of quote ++ rest)
  pub name_form : is_name attribute.name ≡ true
  pub value_form : Passes (is_in (Value quote)) attribute.value
  pub placed : attribute.left ≡ length inside

-- what ends a start tag
unfoldable pub closer_of : Bool → List ℕ
closer_of false = codes ">"
closer_of true = codes "/>"

pub record IsStartTag (tag : XmlTag) (text rest : List ℕ) : Type 0 where
  pub named : List ℕ
  pub listed : List ℕ
  pub opens : text ≡ codes "<" ++ (tag.name ++ named)
  pub lists : ReadsAll IsAttribute tag.attributes named listed
  pub closes : Follows (closer_of tag.closes_itself) listed rest
  pub name_form : is_name tag.name ≡ true
  pub distinct : AreDistinct (map (λ attribute. attribute.name) tag.attributes)

pub record IsEndTag (name text rest : List ℕ) : Type 0 where
  pub named : List ℕ
  pub opens : text ≡ codes "</" ++ (name ++ named)
  pub closes : Follows (codes ">") named rest
  pub name_form : is_name name ≡ true

-- text without `<` and `&`, beside no other text
pub record IsText (said text rest : List ℕ) : Type 0 where
  pub some : said ≢ []
  pub form : Passes (is_in Text) said
  pub whole : text ≡ said ++ rest
  pub alone : StopsAt (is_in Text) rest

pub record IsComment (text rest : List ℕ) : Type 0 where
  pub inside : List ℕ
  pub opens : text ≡ codes "<!--" ++ inside
  pub closes : EndsAtFirst (codes "-->") inside rest

-- `IsPart part text rest`: the text is the part, and then the rest
abbrev pub IsPart : XmlPart → List ℕ → List ℕ → Type 0
IsPart (starts tag) text rest = IsStartTag tag text rest
IsPart (ends name) text rest = IsEndTag name text rest
IsPart (says said) text rest = IsText said text rest
IsPart (refers scalar) text rest = IsReference scalar text rest
IsPart comments text rest = IsComment text rest

-- the whole text is the parts, one behind another
abbrev pub AreParts : List XmlPart → List ℕ → Type 0
AreParts parts text = ReadsAll IsPart parts text []
