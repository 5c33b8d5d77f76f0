-- What one child more does to a struct of which some fields stand.
use Rattle.std.specs.Prelude.{ℕ, ◌≡◌, ◌≤◌, Bool, true, false, ◌||◌, max, List, [], ◌∷◌, ◌++◌, map}
use Rattle.std.specs.List.{list_any}
use Rattle.std.specs.Str.{bytes_eq}
use Rattle.block_form.specs.declared.child.Child.{Child}
use Rattle.block_form.specs.declared.placing.Placing.{Placing}
use Rattle.block_form.specs.Children.{child_end, field_of}
use Rattle.block_form.specs.Fields.{end_from, fields_from, greatest_align}
use Rattle.block_form.specs.Forms.{is_named}
use Rattle.block_form.specs.Gaps.{gap_before, gaps_behind}

-- one of its children has the name
abbrev pub has_name : List ℕ → Placing → Bool
has_name name placing = list_any (bytes_eq name) (map (λ taken. taken.now) placing.names.keys)

-- a gap is put before a child where one is wanted
pub record HasGap (old new : Placing) (child : Child) : Type 0 where
  pub fields : new.fields ≡ old.fields ++ gap_before old.end old.gaps child
  pub gaps : new.gaps ≡ gaps_behind old.end old.gaps child
  pub end : new.end ≡ old.end
  pub align : new.align ≡ old.align
  pub names : new.names ≡ old.names

-- a child becomes a field
pub record Puts (old new : Placing) (child : Child) : Type 0 where
  pub fields : new.fields ≡ old.fields ++ (gap_before old.end old.gaps child ++ field_of child ∷ [])
  pub gaps : new.gaps ≡ gaps_behind old.end old.gaps child
  pub end : new.end ≡ child_end child
  pub align : new.align ≡ max child.align old.align
  pub names : (name : List ℕ) → has_name name new ≡ (has_name name old || bytes_eq name child.name)

-- ... where it can
abbrev pub Takes : Bool → Placing → Placing → Child → Type 0
Takes true old new child = Puts old new child
Takes false old new child = new ≡ old

-- The fields that stand and those of the children that are left are those of all children that become fields.
pub record IsPart (placing : Placing) (left all : List Child) : Type 0 where
  pub fields : placing.fields ++ fields_from placing.end placing.gaps left ≡ fields_from 0 0 all
  pub end : end_from placing.end left ≡ end_from 0 all
  pub some : 1 ≤ placing.align
  pub align : max placing.align (greatest_align left) ≡ greatest_align all
  pub names : (name : List ℕ) → (has_name name placing || is_named name left) ≡ is_named name all

-- Its fields are those of these children, one behind the other.
pub record IsWhole (placing : Placing) (all : List Child) : Type 0 where
  pub fields : placing.fields ≡ fields_from 0 0 all
  pub end : placing.end ≡ end_from 0 all
  pub align : placing.align ≡ greatest_align all
  pub names : (name : List ℕ) → has_name name placing ≡ is_named name all
