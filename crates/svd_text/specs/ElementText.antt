-- The text of a description (XML 1.0 without processing instructions, CDATA and document types): an element is its start tag, what it holds and its end
-- tag, or a tag that closes itself. Nesting has no bound. Each element is told with the texts that stand at its joints, whose lengths are its places.
use Rattle.std.specs.Prelude.{◌≡◌, ℕ, Bool, true, false, List, [], ◌∷◌, length, codes}
use Rattle.std.specs.Str.{IsUtf8}
use Rattle.xml_text.specs.Parts.{XmlTag, IsStartTag, IsEndTag, IsText, IsComment}
use Rattle.xml_text.specs.References.{IsReference}
use Rattle.xml_text.specs.Opening.{IsOpening}
use Rattle.svd_text.specs.declared.content.Content.{Content}
use Rattle.svd_text.specs.declared.content.Content.TheVariants.{Whole}
use Rattle.svd_text.specs.Contents.{content_in, MaySay, MayRefer}

-- the tags of an element, and the texts that begin at its start tag, behind that, at its end tag and behind the element; where the tag closes itself,
-- the last three are the same
pub record Outline : Type 0 where
  pub tag : XmlTag
  pub from : List ℕ
  pub inside : List ℕ
  pub closing : List ℕ
  pub behind : List ℕ

-- what stands in an element or in a whole text, each part with the text behind it
pub data Contents : Type 0 where
  nothing : Contents
  says : (said behind : List ℕ) → (others : Contents) → Contents
  refers : (scalar : ℕ) → (behind : List ℕ) → (others : Contents) → Contents
  comments : (behind : List ℕ) → (others : Contents) → Contents
  holds : (outline : Outline) → (inside others : Contents) → Contents

-- how an element with these contents ends
abbrev pub Closes : Bool → Outline → Contents → Type 0
Closes true outline inside = (inside ≡ nothing) × (outline.closing ≡ outline.inside) × (outline.behind ≡ outline.inside)
Closes false outline inside = IsEndTag outline.tag.name outline.closing outline.behind

-- `Stand contents text rest`: the text is the contents, and then the rest
abbrev pub Stand : Contents → List ℕ → List ℕ → Type 0
Stand nothing text rest = text ≡ rest
Stand (says said behind others) text rest = IsText said text behind × Stand others behind rest
Stand (refers scalar behind others) text rest = IsReference scalar text behind × Stand others behind rest
Stand (comments behind others) text rest = IsComment text behind × Stand others behind rest
Stand (holds outline inside others) text rest =
    (text ≡ outline.from) × IsStartTag outline.tag outline.from outline.inside × Stand inside outline.inside outline.closing
    × Closes outline.tag.closes_itself outline inside × Stand others outline.behind rest

-- text and references stand only where they may
abbrev pub Fit : Content → Contents → Type 0
Fit content nothing = Unit {0}
Fit content (says said behind others) = MaySay content said × Fit content others
Fit content (refers scalar behind others) = MayRefer content × Fit content others
Fit content (comments behind others) = Fit content others
Fit content (holds outline inside others) = Fit (content_in content outline.tag.name) inside × Fit content others

-- the names of the elements, without those that stand in them
abbrev pub names_in : Contents → List (List ℕ)
names_in nothing = []
names_in (says said behind others) = names_in others
names_in (refers scalar behind others) = names_in others
names_in (comments behind others) = names_in others
names_in (holds outline inside others) = outline.tag.name ∷ names_in others

-- what stands in a text of so many bytes behind its byte order mark and declaration
pub record Text : Type 0 where
  pub total : ℕ
  pub contents : Contents

-- `Spells bytes text`: the bytes are a description's text. It is UTF-8; behind a byte order mark and a declaration stand white space and comments, one
-- element, which is a device, and white space and comments.
pub record Spells (bytes : List ℕ) (text : Text) : Type 0 where
  pub body : List ℕ
  pub encoded : IsUtf8 bytes
  pub total : text.total ≡ length bytes
  pub opens : IsOpening bytes body
  pub whole : Stand text.contents body []
  pub one_device : names_in text.contents ≡ codes "device" ∷ []
  pub fit : Fit Whole text.contents
