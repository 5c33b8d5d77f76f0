-- The maps of a register module: what is looked up in it by name.
use Rattle.std.specs.Prelude.{ℕ, ◌≡◌, List, Option, find, option_map}
use Rattle.std.specs.Borrow.{Bor}
use Rattle.std.specs.Map.{lookup}
use Rattle.std.specs.Str.{bytes_eq}
use Rattle.std.specs.declared.hash.FoldHasher.{FoldHasher}
use Rattle.std.specs.declared.hash.BuildHasherDefault.{BuildHasherDefault}
use Rattle.indexmap.specs.IndexMap.{IndexMap}
use Rattle.frag_rules.specs.declared.proxy.CallKey.{CallKey}
use Rattle.frag_rules.specs.Keys.{Key, call_seen, key_of, same_call_key}
use Rattle.frag_rules.specs.Naming.{FindsFirst}
use Rattle.frag_sem.specs.ProxyTypes.{ProxyType, numbers_on, readers_of, truths_on, writers_of}
use Rattle.frag_tree.specs.declared.register.NumberCall.{NumberCall}
use Rattle.frag_tree.specs.declared.register.Reader.{Reader}
use Rattle.frag_tree.specs.declared.register.RegisterModule.{RegisterModule}
use Rattle.frag_tree.specs.declared.register.TruthCall.{TruthCall}
use Rattle.frag_tree.specs.declared.register.Values.{Values}
use Rattle.frag_tree.specs.declared.register.Writer.{Writer}

-- calls by their types and names
abbrev pub CallMap : Type 0 → Type 0
CallMap T = IndexMap CallKey (Bor T) (BuildHasherDefault FoldHasher)

-- the call of a name on the type of a key
abbrev pub found_call : {T : Type 0} → CallMap T → Key × List ℕ → Option T
found_call held wanted = option_map (λ call. call.now) (lookup (λ key. same_call_key wanted (call_seen key)) held.entries)

-- the map finds the first call of a name on a type
abbrev pub FindsCalls : {T : Type 0} → (T → List ℕ) → (ProxyType → List Values → List T) → List Values → CallMap T → Type 0
FindsCalls name_of calls_on values held = (type : ProxyType) (name : List ℕ) → found_call held (key_of type, name) ≡ find (λ call. bytes_eq name (name_of call)) (calls_on type values)

-- all maps of a register module
pub record FindsAll (unit : RegisterModule) (readers : List (List ℕ × Bor Reader)) (writers : List (List ℕ × Bor Writer)) (truths : CallMap TruthCall) (numbers : CallMap NumberCall) : Type 0 where
  pub readers_are : FindsFirst (λ reader. reader.name) (readers_of unit) readers
  pub writers_are : FindsFirst (λ writer. writer.name) (writers_of unit) writers
  pub truths_are : FindsCalls (λ call. call.name) truths_on unit.values truths
  pub numbers_are : FindsCalls (λ call. call.name) numbers_on unit.values numbers
