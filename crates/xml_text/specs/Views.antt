-- What the values of the reader say, apart from where their bytes are kept.
use Rattle.std.specs.Prelude.{ℕ, List, map}
use Rattle.std.specs.Borrow.{Bor}
use Rattle.indexmap.specs.IndexSet.{IndexSet}
use Rattle.std.specs.declared.hash.FoldHasher.{FoldHasher}
use Rattle.std.specs.declared.hash.BuildHasherDefault.{BuildHasherDefault}
use Rattle.xml_text.specs.declared.attribute.Attribute.{Attribute}
use Rattle.xml_text.specs.declared.tag.Tag.{Tag}
use Rattle.xml_text.specs.declared.part.Part.{Part}
use Rattle.xml_text.specs.declared.part.Part.TheVariants.{Start, End, Text, Reference, Comment}
use Rattle.xml_text.specs.Parts.{XmlAttribute, XmlTag, XmlPart, starts, ends, says, refers, comments}

abbrev pub attribute_of : Attribute → XmlAttribute
attribute_of attribute = record { name = attribute.name.now; value = attribute.value.now; left = attribute.left }

abbrev pub attribute_name : Attribute → List ℕ
attribute_name attribute = attribute.name.now

-- the names that were kept, in their order
abbrev pub names_in : IndexSet (Bor (List ℕ)) (BuildHasherDefault FoldHasher) → List (List ℕ)
names_in seen = map (λ name. name.now) seen.keys

abbrev pub tag_of : Tag → XmlTag
tag_of tag = record { name = tag.name.now; attributes = map attribute_of tag.attributes.items; closes_itself = tag.closes_itself }

abbrev pub part_of : Part → XmlPart
part_of (Start tag) = starts (tag_of tag)
part_of (End name) = ends name.now
part_of (Text said) = says said.now
part_of (Reference scalar) = refers scalar
part_of Comment = comments
