-- A script types alike with any two lists of names that bind each name to the same.
use Rattle.std.proofs.Common.{◌≡◌, ℕ, Bool, true, false, not, ◌||◌, ◌==◌, is_some, List, [], ◌∷◌, find, Option, Some, None, Ok, Err, option_map, refl, sym, ap, ◌∙◌, if◌then◌else◌}
use Rattle.std.specs.Prelude.{ok_or}
use Rattle.std.specs.Borrow.{Bor}
use Rattle.std.specs.List.{list_any}
use Rattle.std.specs.Map.{lookup}
use Rattle.std.specs.Str.{bytes_eq}
use Rattle.frag_sem.specs.ScriptTyping.{LineFault, Names, Scope, Typed, ◌>>=◌, Wanted, anything, argument_types, atom_types, can_modify, can_read, can_write, chain_types, holds_or, is_new, is_number, just, line_fault, lines_fault, link_types, name_of, names_within, no_such_name, read_call, reader_name, rebound, source_type, statement_types, type_fits, value_types, write_call, writer_name, wrong_type}
use Rattle.frag_sem.specs.Surfaces.{RegisterCalls, ValueType, WriteCall, number, truth}
use Rattle.frag_sem.specs.TextSurface.{register_calls}
use Rattle.frag_tree.specs.declared.register.RegisterModule.{RegisterModule}
use Rattle.frag_tree.specs.declared.script.ScriptLine.{ScriptLine}
use Rattle.frag_tree.specs.declared.statement.Atom.{Atom}
use Rattle.frag_tree.specs.declared.statement.Atom.TheVariants as atom
use Rattle.frag_tree.specs.declared.statement.Link.{Link}
use Rattle.frag_tree.specs.declared.statement.Link.TheVariants as link
use Rattle.frag_tree.specs.declared.statement.Source.{Source}
use Rattle.frag_tree.specs.declared.statement.Source.TheVariants as source
use Rattle.frag_tree.specs.declared.statement.Statement.{Statement}
use Rattle.frag_tree.specs.declared.statement.Statement.TheVariants as statement
use Rattle.frag_tree.specs.declared.statement.Value.{Value}
use Rattle.frag_types.specs.Telling.{HaveSame, names_in}

-- ---- what lists of names bind

pub bound-names : (bound : List (List ℕ × Bor RegisterModule)) (name : List ℕ) → name_of (names_in bound) name ≡ option_map (λ (unit : Bor RegisterModule). register_calls unit.now) (lookup (bytes_eq name) bound)
bound-names [] name = refl
bound-names (first ∷ others) name = by (bytes_eq name first.0) (bound-names others name)
  where
    by : (b : Bool) → name_of (names_in others) name ≡ option_map (λ (unit : Bor RegisterModule). register_calls unit.now) (lookup (bytes_eq name) others)
        → option_map (λ (entry : List ℕ × RegisterCalls). entry.1) (if b then Some (first.0, register_calls first.1.now) else find (λ entry. bytes_eq name entry.0) (names_in others))
        ≡ option_map (λ (unit : Bor RegisterModule). register_calls unit.now) (if b then Some first.1 else lookup (bytes_eq name) others)
    by true more = refl
    by false more = more

any-name : (names : Names) (name : List ℕ) → list_any (λ bound. bytes_eq name bound.0) names ≡ is_some (name_of names name)
any-name [] name = refl
any-name (first ∷ others) name = by (bytes_eq name first.0) (any-name others name)
  where
    by : (b : Bool) → list_any (λ bound. bytes_eq name bound.0) others ≡ is_some (name_of others name)
        → (b || list_any (λ bound. bytes_eq name bound.0) others) ≡ is_some (option_map (λ (entry : List ℕ × RegisterCalls). entry.1) (if b then Some first else find (λ entry. bytes_eq name entry.0) others))
    by true more = refl
    by false more = more

is-mapped : {A B : Type 0} (f : A → B) (o : Option A) → is_some (option_map f o) ≡ is_some o
is-mapped f None = refl
is-mapped f (Some x) = refl

-- a name is among those that are bound where the map has it
pub any-bound : (bound : List (List ℕ × Bor RegisterModule)) (name : List ℕ) → list_any (λ entry. bytes_eq name entry.0) (names_in bound) ≡ is_some (lookup (bytes_eq name) bound)
any-bound bound name = any-name (names_in bound) name ∙ (ap is_some (bound-names bound name) ∙ is-mapped (λ (unit : Bor RegisterModule). register_calls unit.now) (lookup (bytes_eq name) bound))

pub same-more : (one other : Names) → HaveSame one other → (name : List ℕ) (register : RegisterCalls) → HaveSame ((name, register) ∷ one) ((name, register) ∷ other)
same-more one other same name register = λ wanted. by wanted (bytes_eq wanted name) (same wanted)
  where
    by : (wanted : List ℕ) (b : Bool) → name_of one wanted ≡ name_of other wanted
        → option_map (λ (entry : List ℕ × RegisterCalls). entry.1) (if b then Some (name, register) else find (λ entry. bytes_eq wanted entry.0) one)
        ≡ option_map (λ (entry : List ℕ × RegisterCalls). entry.1) (if b then Some (name, register) else find (λ entry. bytes_eq wanted entry.0) other)
    by wanted true e = refl
    by wanted false e = e

same-within : (one other : Names) → HaveSame one other → (register : RegisterCalls) (b : Bool) → HaveSame (names_within one register b) (names_within other register b)
same-within one other same register true = same-more one other same reader_name register
same-within one other same register false = same

-- ---- values

same-source : (one other : Names) → HaveSame one other → (read : Source) → source_type one read ≡ source_type other read
same-source one other same (source.Bits reader) = ap (λ (o : Option RegisterCalls). ok_or o no_such_name >>= λ register. Ok (number register.width)) (same reader)
same-source one other same (source.Field reader field method) =
    ap (λ (o : Option RegisterCalls). ok_or o no_such_name >>= λ register. (read_call register field method >>= λ call. Ok call.gives)) (same reader)

same-atom : (one other : Names) → HaveSame one other → (wanted : Wanted) (value : Atom) → atom_types one wanted value ≡ atom_types other wanted value
same-atom one other same wanted (atom.Number value) = refl
same-atom one other same wanted (atom.Truth value) = refl
same-atom one other same wanted (atom.Source read) = ap (λ (t : Typed ValueType). t >>= λ type. type_fits wanted type) (same-source one other same read)
same-atom one other same wanted (atom.Cast read width) =
    ap (λ (t : Typed ValueType). t >>= λ type. (holds_or wrong_type (is_number type) >>= λ _. type_fits wanted (number width))) (same-source one other same read)

same-value : (one other : Names) → HaveSame one other → (wanted : Wanted) (value : Value) → value_types one wanted value ≡ value_types other wanted value
unfolding value_types
same-value one other same wanted value = by (value.negations == 0)
  where
    by : (b : Bool) → (if b then atom_types one wanted value.atom else (atom_types one (just truth) value.atom >>= λ _. type_fits wanted truth))
        ≡ (if b then atom_types other wanted value.atom else (atom_types other (just truth) value.atom >>= λ _. type_fits wanted truth))
    by true = same-atom one other same wanted value.atom
    by false = ap (λ (t : Typed (Unit {0})). t >>= λ _. type_fits wanted truth) (same-atom one other same (just truth) value.atom)

same-argument : (one other : Names) → HaveSame one other → (takes : Option ValueType) (value : Option Value) → argument_types one takes value ≡ argument_types other takes value
same-argument one other same None None = refl
same-argument one other same None (Some value) = refl
same-argument one other same (Some type) None = refl
same-argument one other same (Some type) (Some value) = same-value one other same (just type) value

-- ---- chains

same-link : (one other : Names) → HaveSame one other → (register : RegisterCalls) (step : Link) → link_types one register step ≡ link_types other register step
same-link one other same register (link.Bits value) = same-value one other same (just (number register.width)) value
same-link one other same register (link.Field field method value) = by (write_call register field method)
  where
    by : (t : Typed WriteCall) → (t >>= λ call. argument_types one call.takes value) ≡ (t >>= λ call. argument_types other call.takes value)
    by (Ok call) = same-argument one other same call.takes value
    by (Err kind) = refl

same-chain : (one other : Names) → HaveSame one other → (register : RegisterCalls) (chain : List Link) → chain_types one register chain ≡ chain_types other register chain
unfolding chain_types
same-chain one other same register [] = refl
same-chain one other same register (first ∷ others) = by (link_types one register first) (link_types other register first) (same-link one other same register first) (same-chain one other same register others)
  where
    by : (t u : Typed (Unit {0})) → t ≡ u → chain_types one register others ≡ chain_types other register others → (t >>= λ _. chain_types one register others) ≡ (u >>= λ _. chain_types other register others)
    by t u e more = rw (e, more) refl

-- ---- statements

-- what stands behind a word that comes to the same
behind : {A : Type 0} (line : ℕ) (word : Typed A) (f g : A → Typed Names) (one other : Names → Option LineFault)
    → ((x : A) → line_fault line (f x) one ≡ line_fault line (g x) other) → line_fault line (word >>= f) one ≡ line_fault line (word >>= g) other
behind line (Ok x) f g one other same = same x
behind line (Err kind) f g one other same = refl

-- a chain, and then the names as they were
behind-chain : (line : ℕ) (t u : Typed (Unit {0})) (one other : Names) (k l : Names → Option LineFault) → t ≡ u → k one ≡ l other → line_fault line (t >>= λ _. Ok one) k ≡ line_fault line (u >>= λ _. Ok other) l
behind-chain line t (Ok x) one other k l e same = rw e same
behind-chain line t (Err kind) one other k l e same = rw e refl

same-statement : (scope : Scope) (one other : Names) → HaveSame one other → (line : ℕ) (said : Statement) (k l : Names → Option LineFault)
    → ((a b : Names) → HaveSame a b → k a ≡ l b) → line_fault line (statement_types scope one said) k ≡ line_fault line (statement_types scope other said) l
unfolding statement_types
same-statement scope one other same line (statement.Let name place) k l behind_it =
    ap (λ b. line_fault line (holds_or rebound (not (b || (scope.is_slot name || (bytes_eq name reader_name || bytes_eq name writer_name)))) >>= λ _. (scope.call can_read place >>= λ register. Ok ((name, register) ∷ one))) k)
    (any-name one name ∙ (ap is_some (same name) ∙ sym (any-name other name)))
    ∙ behind line (holds_or rebound (is_new scope other name)) _ _ k l (λ _. behind line (scope.call can_read place) _ _ k l (λ register. behind_it _ _ (same-more one other same name register)))
same-statement scope one other same line (statement.Write place chain) k l behind_it =
    behind line (scope.call can_write place) _ _ k l (λ register. behind-chain line _ _ one other k l (same-chain one other same register chain) (behind_it one other same))
same-statement scope one other same line (statement.WriteWithZero place chain) k l behind_it =
    behind line (scope.call can_write place) _ _ k l (λ register. behind-chain line _ _ one other k l (same-chain one other same register chain) (behind_it one other same))
same-statement scope one other same line (statement.Modify place names_reader chain) k l behind_it =
    behind line (scope.call can_modify place) _ _ k l (λ register. behind-chain line _ _ one other k l (same-chain _ _ (same-within one other same register names_reader) register chain) (behind_it one other same))
same-statement scope one other same line (statement.Reset place) k l behind_it =
    behind line (scope.call can_write place) _ _ k l (λ register. behind_it one other same)
same-statement scope one other same line (statement.Say value) k l behind_it =
    behind-chain line _ _ one other k l (same-value one other same anything value) (behind_it one other same)

pub same-lines : (scope : Scope) (lines : List ScriptLine) (one other : Names) → HaveSame one other → lines_fault scope lines one ≡ lines_fault scope lines other
unfolding lines_fault
same-lines scope [] one other same = refl
same-lines scope (first ∷ others) one other same = same-statement scope one other same first.line first.statement (lines_fault scope others) (lines_fault scope others) (same-lines scope others)
