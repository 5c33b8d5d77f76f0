-- An addition in the tree: the child that it makes in an element.
use Rattle.std.specs.Prelude.{ℕ, Ok}
use Rattle.patch_model.specs.Acts.{Added, AddedOne, no_more, added}
use Rattle.patch_sem.specs.Additions.{first_missing, held_by, keys_made, made_in, unless_missing}
use Rattle.patch_edits.specs.Visits.{Below}
use Rattle.patch_growth.specs.Growths.{Growth}
use Rattle.svd_model.specs.Keys.{Key}
use Rattle.svd_model.specs.Steps.{Kind, Step, register, field}
use Rattle.svd_rows.specs.Forest.{Tree, leaf, node}

-- elements that are made side by side, with those within each
unfoldable pub made_forest : Kind → Added → Below
made_forest kind no_more = leaf
made_forest kind (added name keys registers fields others) =
    node (record { kind = kind; name = name; number = 0 }) (keys_made kind keys)
    (held_by kind leaf (made_forest register registers) (made_forest field fields)) (made_forest kind others)

-- one of them
abbrev pub made_tree : Kind → AddedOne → Tree Step Key
made_tree kind one = record {
  keys = keys_made kind one.keys;
  below = held_by kind leaf (made_forest register one.registers) (made_forest field one.fields);
}

abbrev pub adds_child : ℕ → AddedOne → Growth
adds_child line one = record {
  line = line;
  name = one.name;
  made = λ kind below.
      unless_missing line (first_missing (made_in kind) (added one.name one.keys one.registers one.fields no_more))
      (Ok (made_in kind, made_tree (made_in kind) one));
}
