-- Reading a pattern from left to right, on lists.
use Rattle.std.specs.Prelude.{ℕ, zero, suc, Bool, ◌&&◌, ◌==◌, nat_lt, List, [], ◌∷◌, ◌++◌, length, Option, Some, None, is_some, if◌then◌else◌}
use Rattle.text_scan.specs.Fronts.{stripped_of}
use Rattle.glob_select.specs.declared.member.Member.{Member}
use Rattle.glob_select.specs.declared.member.Member.TheVariants.{Alone, Between}
use Rattle.glob_select.specs.Bytes.{is_name_byte, after_spaces}
use Rattle.glob_select.specs.Items.{Item}
use Rattle.glob_select.specs.Items.Item.{Exactly, Mark, Star, AnyByte, OneOf}
use Rattle.glob_select.specs.Matching.{is_empty}
use Rattle.glob_select.specs.Spelling.{mark_inside}

-- what was read first, where something was, before what is read behind it
abbrev pub read_before : {X : Type 0} → Option (X × List ℕ) → List ℕ → (List ℕ → List X × List ℕ) → List X × List ℕ
read_before None text more = ([], text)
read_before (Some p) text more = (p.0 ∷ (more p.1).0, (more p.1).1)

-- as many as a reader of one reads, at most so many, and what follows them
unfoldable pub run_up_to : {X : Type 0} → (List ℕ → Option (X × List ℕ)) → ℕ → List ℕ → List X × List ℕ
run_up_to read zero text = ([], text)
run_up_to read (suc most) text = read_before (read text) text (run_up_to read most)

-- all of them: none is empty, so a text has no more than bytes
unfoldable pub run : {X : Type 0} → (List ℕ → Option (X × List ℕ)) → List ℕ → List X × List ℕ
run read text = run_up_to read (length text) text

-- the last byte of a range behind its first one
unfoldable pub range_end : ℕ → List ℕ → Option (ℕ × List ℕ)
range_end first [] = None
range_end first (dash ∷ []) = None
range_end first (dash ∷ (last ∷ after)) = if (dash == 45) && is_name_byte last && nat_lt first last then Some (last, after) else None

abbrev pub member_with : ℕ → List ℕ → Option (ℕ × List ℕ) → Member × List ℕ
member_with first rest None = (Alone first, rest)
member_with first rest (Some p) = (Between first p.0, p.1)

unfoldable pub member_at : List ℕ → Option (Member × List ℕ)
member_at [] = None
member_at (first ∷ rest) = if is_name_byte first then Some (member_with first rest (range_end first rest)) else None

unfoldable pub members_of : List ℕ → List Member
members_of text = (run member_at text).0

unfoldable pub after_members : List ℕ → List ℕ
after_members text = (run member_at text).1

-- what follows a byte that has to stand at the front
abbrev pub behind : {X : Type 0} → ℕ → X → List ℕ → Option (X × List ℕ)
behind close x [] = None
behind close x (byte ∷ rest) = if byte == close then Some (x, rest) else None

-- the class behind its bracket
unfoldable pub class_at : List ℕ → Option (Item × List ℕ)
class_at text = if is_some (member_at text) then behind 93 (OneOf (members_of text)) (after_members text) else None

abbrev pub mark_or : Option (List ℕ) → Option (Item × List ℕ) → Option (Item × List ℕ)
mark_or (Some rest) other = Some (Mark, rest)
mark_or None other = other

unfoldable pub bracket_at : List ℕ → Option (Item × List ℕ)
bracket_at text = mark_or (stripped_of mark_inside text) (class_at text)

unfoldable pub item_at : List ℕ → Option (Item × List ℕ)
item_at [] = None
item_at (first ∷ rest) = if first == 42 then Some (Star, rest) else (if first == 63 then Some (AnyByte, rest) else (if first == 91 then bracket_at rest else (if is_name_byte first then Some (Exactly first, rest) else None)))

unfoldable pub items_of : List ℕ → List Item
items_of text = (run item_at text).0

unfoldable pub after_items : List ℕ → List ℕ
after_items text = (run item_at text).1

-- the items at the front, behind spaces
abbrev pub first_items : List ℕ → List Item
first_items text = items_of (after_spaces text)

-- what follows them and the spaces behind them
unfoldable pub left_over : List ℕ → List ℕ
left_over text = after_spaces (after_items (after_spaces text))

-- an alternative and a comma
unfoldable pub led_at : List ℕ → Option (List Item × List ℕ)
led_at text = if is_some (item_at (after_spaces text)) then behind 44 (first_items text) (left_over text) else None

unfoldable pub after_led : List ℕ → List ℕ
after_led text = (run led_at text).1

-- whether the text is one alternative
unfoldable pub is_last : List ℕ → Bool
is_last text = is_some (item_at (after_spaces text)) && is_empty (left_over text)

-- the alternatives that the text spells, where it spells any
unfoldable pub alternatives_of : List ℕ → List (List Item)
alternatives_of text = (run led_at text).0 ++ (first_items (after_led text) ∷ [])
