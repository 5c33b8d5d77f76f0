-- The item that a token of a text is.
use Rattle.std.specs.Prelude.{◌≡◌, ℕ, ◌+◌, List, Option, Some, None}
use Rattle.std.specs.Borrow.{Bor}
use Rattle.std.specs.List.{count_by}
use Rattle.glob_select.specs.declared.token.Token.{Token}
use Rattle.glob_select.specs.declared.token.Token.TheVariants as token
use Rattle.glob_select.specs.Items.{Item}
use Rattle.glob_select.specs.Items.Item.{Exactly, Mark, Star, AnyByte, OneOf}
use Rattle.glob_select.specs.Naming.{is_open}
use Rattle.glob_select.specs.Reading.{items_of, members_of}

abbrev pub item_of : Token → Item
item_of (token.Byte byte) = Exactly byte
item_of token.Mark = Mark
item_of token.Star = Star
item_of token.AnyByte = AnyByte
item_of (token.Class members) = OneOf (members_of members.now)

-- how many items are open: none, or one more than behind the first of them
abbrev pub CountedBehind : ℕ → Option (Bor (List ℕ)) → Type 0
CountedBehind count None = count ≡ 0
CountedBehind count (Some rest) = count ≡ 1 + count_by is_open (items_of rest.now)
