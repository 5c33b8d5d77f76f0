-- When registers do alike, and places (this project's own).
use Rattle.std.specs.Prelude.{ℕ, ◌≡◌, ◌^◌, ◌<◌, List, Option, Some, None, ⊤}
use Rattle.pac_base.specs.Widths.{bits_of}
use Rattle.frag_tree.specs.declared.statement.Place.{Place}
use Rattle.frag_sem.specs.Meaning.{Acts, ActsAt, Places}

-- words of a register's width stay words of it
pub record KeepsWords (acts : Acts) : Type 0 where
  pub reset : acts.reset < 2 ^ bits_of acts.width
  pub start : (word : ℕ) → word < 2 ^ bits_of acts.width → acts.start word < 2 ^ bits_of acts.width
  pub put : (field : List ℕ) (index : Option ℕ) (method : List ℕ) (value word : ℕ) → word < 2 ^ bits_of acts.width → acts.put field index method value word < 2 ^ bits_of acts.width

-- Both have one width and one reset word, and do the same with each word of this width, which stays one.
pub record Alike (one other : Acts) : Type 0 where
  pub keeps : KeepsWords one
  pub width : one.width ≡ other.width
  pub reset : one.reset ≡ other.reset
  pub start : (word : ℕ) → word < 2 ^ bits_of one.width → one.start word ≡ other.start word
  pub given : (field : List ℕ) (index : Option ℕ) (method : List ℕ) (word : ℕ) → word < 2 ^ bits_of one.width → one.given field index method word ≡ other.given field index method word
  pub put : (field : List ℕ) (index : Option ℕ) (method : List ℕ) (value word : ℕ) → word < 2 ^ bits_of one.width → one.put field index method value word ≡ other.put field index method value word

-- alike registers at one address
pub record SamePlace (one other : ActsAt) : Type 0 where
  pub address : one.address ≡ other.address
  pub acts : Alike one.acts other.acts

-- alike registers at one address, or none on both sides
unfoldable pub BothAlike : Option ActsAt → Option ActsAt → Type 0
BothAlike None None = ⊤
BothAlike None (Some other) = ⊥
BothAlike (Some one) None = ⊥
BothAlike (Some one) (Some other) = SamePlace one other

abbrev pub AlikePlaces : Places → Places → Type 0
AlikePlaces one other = (place : Place) → BothAlike (one place) (other place)
