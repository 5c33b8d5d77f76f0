-- A part takes at least a byte.
use Rattle.std.proofs.Common.{◌≢◌, ℕ, ◌<◌, ◌≤◌, List, [], ◌∷◌, ◌++◌, length, refl, ap, inl, inr, lit<, arith}
use Rattle.std.specs.Prelude.{codes}
use Rattle.std.proofs.lemmas.List.{length-append}
use Rattle.text_scan.specs.declared.radix.Radix.{Radix}
use Rattle.text_scan.specs.declared.radix.Radix.TheVariants.{Decimal, Hexadecimal}
use Rattle.text_scan.proofs.Follows.{Follows-length}
use Rattle.text_scan.proofs.Lists.{ReadsAll-length}
use Rattle.xml_text.specs.References.{Named, amp, lt, gt, quot, apos, spelled_of, opener_of}
use Rattle.xml_text.specs.Parts.{XmlAttribute, XmlPart, starts, ends, says, refers, comments, IsAttribute, closer_of, IsPart}
use Rattle.xml_text.proofs.OneAttribute.{attribute-length}

spelled-length : (name : Named) → 0 < length (spelled_of name)
unfolding spelled_of
spelled-length amp = lit< tt
spelled-length lt = lit< tt
spelled-length gt = lit< tt
spelled-length quot = lit< tt
spelled-length apos = lit< tt

opener-length : (radix : Radix) → 0 < length (opener_of radix)
unfolding opener_of
opener-length Decimal = lit< tt
opener-length Hexadecimal = lit< tt

some-length : (said : List ℕ) → said ≢ [] → 0 < length said
some-length [] some = absurd (some refl)
some-length (byte ∷ said) some = omega arith

no_longer : (attribute : XmlAttribute) (text rest : List ℕ) → IsAttribute attribute text rest → length rest ≤ length text
no_longer attribute text rest is = omega (arith, attribute-length attribute text rest is)

pub IsPart-length : (part : XmlPart) (text rest : List ℕ) → IsPart part text rest → length rest < length text
IsPart-length (starts tag) text rest is =
    omega (
      arith,
      ap length is.opens,
      length-append (codes "<") (tag.name ++ is.named),
      length-append tag.name is.named,
      ReadsAll-length IsAttribute no_longer tag.attributes is.named is.listed is.lists,
      Follows-length (closer_of tag.closes_itself) is.listed rest is.closes,
    )
IsPart-length (ends name) text rest is =
    omega (arith, ap length is.opens, length-append (codes "</") (name ++ is.named), length-append name is.named, Follows-length (codes ">") is.named rest is.closes)
IsPart-length (says said) text rest is = omega (arith, ap length is.whole, length-append said rest, some-length said is.some)
IsPart-length (refers scalar) text rest (inl named) = omega (arith, ap length named.whole, length-append (spelled_of named.name) rest, spelled-length named.name)
IsPart-length (refers scalar) text rest (inr numbered) =
    omega (
      arith,
      ap length numbered.whole,
      length-append (opener_of numbered.radix) (numbered.digits ++ (codes ";" ++ rest)),
      length-append numbered.digits (codes ";" ++ rest),
      length-append (codes ";") rest,
      opener-length numbered.radix,
    )
IsPart-length comments text rest is =
    omega (
      arith,
      ap length is.opens,
      length-append (codes "<!--") is.inside,
      ap length is.closes.whole,
      length-append is.closes.before (codes "-->" ++ rest),
      length-append (codes "-->") rest,
    )
