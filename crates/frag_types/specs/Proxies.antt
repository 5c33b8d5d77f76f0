-- Whether a call of a value of a name stands on a type.
use Rattle.std.specs.Prelude.{ℕ, Bool, ◌&&◌, List}
use Rattle.std.specs.List.{list_any}
use Rattle.std.specs.Str.{bytes_eq}
use Rattle.frag_sem.specs.ProxyTypes.{ProxyType, same_type, value_names, values_type}
use Rattle.frag_tree.specs.declared.register.Values.{Values}

-- a call of the name stands on the type
unfoldable pub on_type : ProxyType → List ℕ → List Values → Bool
on_type type name values = list_any (λ block. same_type type (values_type block) && list_any (bytes_eq name) (value_names block)) values
