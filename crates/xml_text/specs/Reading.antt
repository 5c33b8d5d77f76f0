-- Reading the parts of a text from left to right: what each function of the reader gives, on lists.
use Rattle.std.specs.Prelude.{◌≡◌, ℕ, Bool, true, false, not, ◌&&◌, List, [], ◌∷◌, length, map, Option, Some, None, Result, Ok, Err, codes, ◌==◌, if◌then◌else◌}
use Rattle.std.specs.List.{list_any}
use Rattle.std.specs.Str.{bytes_eq}
use Rattle.text_scan.specs.declared.class.Class.TheVariants.{Blank}
use Rattle.text_scan.specs.declared.radix.Radix.TheVariants.{Decimal, Hexadecimal}
use Rattle.text_scan.specs.Classes.{has}
use Rattle.text_scan.specs.Fronts.{front_of, rest_of, stripped_of}
use Rattle.text_scan.specs.Follows.{after_block}
use Rattle.text_scan.specs.Numbers.{number_of}
use Rattle.text_scan.specs.Lists.{items_at}
use Rattle.text_scan.specs.Steps.{◌>>=◌}
use Rattle.xml_text.specs.declared.quote.Quote.{Quote}
use Rattle.xml_text.specs.declared.quote.Quote.TheVariants.{Double, Single}
use Rattle.xml_text.specs.declared.run.Run.TheVariants.{Name, Text, Value, Reference}
use Rattle.xml_text.specs.declared.kind.Kind.{Kind}
use Rattle.xml_text.specs.declared.kind.Kind.TheVariants.{StartTag, EndTag, Words, Character, Comment}
use Rattle.xml_text.specs.declared.fault.XmlFault.{XmlFault}
use Rattle.xml_text.specs.declared.fault.XmlFault.TheVariants.{Syntax, Memory}
use Rattle.xml_text.specs.Bytes.{mark_of, is_in}
use Rattle.xml_text.specs.Names.{begins_name}
use Rattle.xml_text.specs.References.{scalar_of}
use Rattle.xml_text.specs.Parts.{XmlAttribute, XmlTag, XmlPart, starts, ends, says, refers, comments}
use Rattle.xml_text.specs.Opening.{byte_order_mark}

-- Reading gives nothing, or memory ran out.
abbrev pub Fails : {Y : Type 0} → XmlFault → Option Y → Type 0
Fails Syntax read = read ≡ None
Fails Memory read = Unit {0}

-- What a function returned, seen by `view`, is what reading gives, unless memory ran out.
abbrev pub Gives : {X Y : Type 0} → (X → Y) → Result X XmlFault → Option Y → Type 0
Gives view (Ok x) read = read ≡ Some (view x)
Gives view (Err fault) read = Fails fault read

unfoldable pub name_at : List ℕ → Option (List ℕ × List ℕ)
name_at text = if begins_name text then Some (front_of (is_in Name) text, rest_of (is_in Name) text) else None

unfoldable pub gap_at : List ℕ → Option (List ℕ)
gap_at [] = None
gap_at (first ∷ others) = if has Blank first then Some (rest_of (has Blank) others) else None

unfoldable pub quote_at : List ℕ → Option (Quote × List ℕ)
quote_at [] = None
quote_at (first ∷ inside) = if first == 34 then Some (Double, inside) else (if first == 39 then Some (Single, inside) else None)

-- a value, how many bytes are left from its first on, and what follows it
unfoldable pub value_at : List ℕ → Option (List ℕ × ℕ × List ℕ)
value_at text = do
  opened ← quote_at (rest_of (has Blank) text)
  rest ← stripped_of (mark_of opened.0) (rest_of (is_in (Value opened.0)) opened.1)
  Some (front_of (is_in (Value opened.0)) opened.1, length opened.1, rest)

-- whether an attribute's name stands behind white space
unfoldable pub begins_attribute : List ℕ → Bool
begins_attribute text = begins_name (rest_of (has Blank) text)

unfoldable pub attribute_at : List ℕ → Option (XmlAttribute × List ℕ)
attribute_at text = do
  behind ← gap_at text
  name ← name_at behind
  valued ← after_block (codes "=") name.1
  value ← value_at valued
  Some (record { name = name.0; value = value.0; left = value.1 }, value.2)

-- whether no two of the names are the same
unfoldable pub differ : List (List ℕ) → Bool
differ [] = true
differ (name ∷ names) = not (list_any (bytes_eq name) names) && differ names

-- the first answer, or else the other
abbrev pub or_else : {A : Type 0} → Option A → Option A → Option A
or_else (Some x) other = Some x
or_else None other = other

-- what follows the first place where the mark stands
unfoldable pub after_mark : List ℕ → List ℕ → Option (List ℕ)
after_mark mark [] = stripped_of mark []
after_mark mark (byte ∷ text) = or_else (stripped_of mark (byte ∷ text)) (after_mark mark text)

unfoldable pub comment_at : List ℕ → Option (List ℕ)
comment_at text = stripped_of (codes "<!--") text >>= after_mark (codes "-->")

-- the five names
unfoldable pub named_in : List ℕ → Option ℕ
named_in name =
    if bytes_eq name (codes "amp") then Some 38 else (if bytes_eq name (codes "lt") then Some 60 else (if bytes_eq name (codes "gt") then Some 62
    else (if bytes_eq name (codes "quot") then Some 34 else (if bytes_eq name (codes "apos") then Some 39 else None))))

-- a number behind `#x` or `#`, else a name
abbrev pub decimal_or : Option (List ℕ) → List ℕ → Option ℕ
decimal_or (Some digits) body = number_of Decimal digits >>= scalar_of
decimal_or None body = named_in body

abbrev pub hexadecimal_or : Option (List ℕ) → List ℕ → Option ℕ
hexadecimal_or (Some digits) body = number_of Hexadecimal digits >>= scalar_of
hexadecimal_or None body = decimal_or (stripped_of (codes "#") body) body

unfoldable pub scalar_in : List ℕ → Option ℕ
scalar_in body = hexadecimal_or (stripped_of (codes "#x") body) body

unfoldable pub reference_at : List ℕ → Option (ℕ × List ℕ)
reference_at text = do
  inside ← stripped_of (codes "&") text
  rest ← stripped_of (codes ";") (rest_of (is_in Reference) inside)
  scalar ← scalar_in (front_of (is_in Reference) inside)
  Some (scalar, rest)

abbrev pub attributes_at : List ℕ → Option (List XmlAttribute × List ℕ)
attributes_at text = items_at begins_attribute attribute_at text

-- what ends a start tag, and whether the tag closes itself
abbrev pub closer_or : Option (List ℕ) → List ℕ → Option (Bool × List ℕ)
closer_or (Some rest) text = Some (false, rest)
closer_or None text = after_block (codes "/>") text >>= λ rest. Some (true, rest)

unfoldable pub closer_at : List ℕ → Option (Bool × List ℕ)
closer_at text = closer_or (after_block (codes ">") text) text

-- the name of a start tag, and what follows it
unfoldable pub opened_at : List ℕ → Option (List ℕ × List ℕ)
opened_at text = stripped_of (codes "<") text >>= name_at

unfoldable pub start_at : List ℕ → Option (XmlTag × List ℕ)
start_at text = do
  name ← opened_at text
  attributes ← attributes_at name.1
  closer ← closer_at attributes.1
  if differ (map (λ attribute. attribute.name) attributes.0) then Some (record { name = name.0; attributes = attributes.0; closes_itself = closer.0 }, closer.1) else None

unfoldable pub end_at : List ℕ → Option (List ℕ × List ℕ)
end_at text = do
  inside ← stripped_of (codes "</") text
  name ← name_at inside
  rest ← after_block (codes ">") name.1
  Some (name.0, rest)

-- which kind of part the first bytes begin: `</`, `<!`, any other `<`, `&`, any other byte
abbrev pub tag_kind : List ℕ → Kind
tag_kind [] = StartTag
tag_kind (second ∷ others) = if second == 47 then EndTag else (if second == 33 then Comment else StartTag)

unfoldable pub kind_of : List ℕ → Option Kind
kind_of [] = None
kind_of (first ∷ others) = if first == 60 then Some (tag_kind others) else (if first == 38 then Some Character else Some Words)

abbrev pub part_of_kind : Kind → List ℕ → Option (XmlPart × List ℕ)
part_of_kind StartTag text = start_at text >>= λ tag. Some (starts tag.0, tag.1)
part_of_kind EndTag text = end_at text >>= λ name. Some (ends name.0, name.1)
part_of_kind Words text = Some (says (front_of (is_in Text) text), rest_of (is_in Text) text)
part_of_kind Character text = reference_at text >>= λ scalar. Some (refers scalar.0, scalar.1)
part_of_kind Comment text = comment_at text >>= λ rest. Some (comments, rest)

unfoldable pub part_at : List ℕ → Option (XmlPart × List ℕ)
part_at text = kind_of text >>= λ kind. part_of_kind kind text

-- what follows a byte order mark, where one stands
abbrev pub mark_or : Option (List ℕ) → List ℕ → List ℕ
mark_or (Some rest) text = rest
mark_or None text = text

unfoldable pub unmarked : List ℕ → List ℕ
unmarked text = mark_or (stripped_of byte_order_mark text) text

-- what follows a declaration, where one stands
abbrev pub declaration_or : Option (List ℕ) → List ℕ → Option (List ℕ)
declaration_or (Some inside) text = after_mark (codes "?>") inside
declaration_or None text = Some text

unfoldable pub undeclared : List ℕ → Option (List ℕ)
undeclared text = declaration_or (after_block (codes "<?xml") text) text

unfoldable pub opening_at : List ℕ → Option (List ℕ)
opening_at text = undeclared (unmarked text)
