-- The statements of a script against the modules of a crate.
use Rattle.std.proofs.Common.{◌≡◌, ℕ, Bool, true, false, not, find, List, [], ◌∷◌, Option, None, Some, option_map, Result, Ok, Err, IfOk, if◌then◌else◌, length, refl, sym, ap, ◌∙◌}
use Rattle.std.specs.Map.{lookup}
use Rattle.std.specs.Str.{bytes_eq}
use Rattle.std.specs.Borrow.{Bor}
use Rattle.frag_sem.specs.PlaceTyping.{call_leads, module_fault, module_scope}
use Rattle.frag_sem.specs.ScriptTyping.{Names, Scope, ScriptKind, Typed, ◌>>=◌, anything, can_modify, can_read, can_write, chain_types, holds_or, lines_fault, name_of, names_within, rebound, statement_types, value_types}
use Rattle.frag_sem.specs.Surfaces.{RegisterCalls}
use Rattle.frag_sem.specs.TextSurface.{register_calls}
use Rattle.frag_tree.specs.declared.register.RegisterModule.{RegisterModule}
use Rattle.frag_tree.specs.declared.script.Script.{Script}
use Rattle.frag_tree.specs.declared.script.ScriptLine.{ScriptLine}
use Rattle.frag_tree.specs.declared.statement.Link.{Link}
use Rattle.frag_tree.specs.declared.statement.Place.{Place}
use Rattle.frag_tree.specs.declared.statement.Statement.{Statement}
use Rattle.frag_tree.specs.declared.statement.Statement.TheVariants as statement
use Rattle.frag_tree.specs.declared.statement.Value.{Value}
use Rattle.frag_tree.specs.Trees.{CrateTree}
use Rattle.frag_types.specs.Telling.{HaveSame, alone, bound_behind, chain_leads, is_taken, let_leads, names_in, with_names}
use Rattle.frag_types.proofs.Steps.{none-left}
use Rattle.frag_types.proofs.SameNames.{bound-names, same-lines}

-- a chain behind a call, and then the names as they were
behind-call : (names : Names) (t : Typed RegisterModule) (chain : RegisterCalls → Typed (Unit {0}))
    → ((t >>= λ unit. chain (register_calls unit)) >>= λ _. Ok names) ≡ ((t >>= λ unit. Ok (register_calls unit)) >>= λ register. (chain register >>= λ _. Ok names))
behind-call names (Ok unit) chain = refl
behind-call names (Err kind) chain = refl

pub write-types : (krate : CrateTree) (names : Names) (place : Place) (chain : List Link)
    → (chain_leads krate names can_write place false chain >>= λ _. Ok names) ≡ statement_types (module_scope krate) names (statement.Write place chain)
unfolding statement_types chain_leads
write-types krate names place chain = behind-call names (call_leads can_write krate place) (λ register. chain_types names register chain)

pub write_with_zero-types : (krate : CrateTree) (names : Names) (place : Place) (chain : List Link)
    → (chain_leads krate names can_write place false chain >>= λ _. Ok names) ≡ statement_types (module_scope krate) names (statement.WriteWithZero place chain)
unfolding statement_types chain_leads
write_with_zero-types krate names place chain = behind-call names (call_leads can_write krate place) (λ register. chain_types names register chain)

pub modify-types : (krate : CrateTree) (names : Names) (place : Place) (names_reader : Bool) (chain : List Link)
    → (chain_leads krate names can_modify place names_reader chain >>= λ _. Ok names) ≡ statement_types (module_scope krate) names (statement.Modify place names_reader chain)
unfolding statement_types chain_leads
modify-types krate names place names_reader chain = behind-call names (call_leads can_modify krate place) (λ register. chain_types (names_within names register names_reader) register chain)

pub reset-types : (krate : CrateTree) (names : Names) (place : Place)
    → with_names names (alone (call_leads can_write krate place)) ≡ statement_types (module_scope krate) names (statement.Reset place)
unfolding statement_types
reset-types krate names place = behind-call names (call_leads can_write krate place) (λ register. Ok (tt {0}))

pub say-types : (krate : CrateTree) (names : Names) (value : Value)
    → (value_types names anything value >>= λ _. Ok names) ≡ statement_types (module_scope krate) names (statement.Say value)
unfolding statement_types
say-types krate names value = refl

pub let-types : (krate : CrateTree) (names : Names) (name : List ℕ) (place : Place)
    → (let_leads krate names name place >>= λ unit. Ok ((name, register_calls unit) ∷ names)) ≡ statement_types (module_scope krate) names (statement.Let name place)
unfolding statement_types let_leads
let-types krate names name place = by (holds_or rebound (not (is_taken (module_scope krate) names name))) (call_leads can_read krate place)
  where
    by : (free : Typed (Unit {0})) (t : Typed RegisterModule) → ((free >>= λ _. t) >>= λ unit. Ok ((name, register_calls unit) ∷ names))
        ≡ (free >>= λ _. ((t >>= λ unit. Ok (register_calls unit)) >>= λ register. Ok ((name, register) ∷ names)))
    by (Ok done) (Ok unit) = refl
    by (Ok done) (Err kind) = refl
    by (Err kind) t = refl

pub let-free : (krate : CrateTree) (names : Names) (name : List ℕ) (place : Place) → is_taken (module_scope krate) names name ≡ false → call_leads can_read krate place ≡ let_leads krate names name place
unfolding let_leads
let-free krate names name place free = rw free refl

pub let-taken : (krate : CrateTree) (names : Names) (name : List ℕ) (place : Place) → is_taken (module_scope krate) names name ≡ true → Err rebound ≡ let_leads krate names name place
unfolding let_leads
let-taken krate names name place taken = rw taken refl

-- ---- lines

pub line-passed : (scope : Scope) (all others : List ScriptLine) (first : ScriptLine) (names now then_bound : Names)
    → all ≡ first ∷ others → statement_types scope names first.statement ≡ Ok then_bound → HaveSame then_bound now → lines_fault scope others now ≡ lines_fault scope all names
unfolding lines_fault
line-passed scope all others first names now then_bound is types same = rw is (rw types (sym (same-lines scope others then_bound now same)))

pub line-stops : (scope : Scope) (all others : List ScriptLine) (first : ScriptLine) (names : Names) (kind : ScriptKind)
    → all ≡ first ∷ others → statement_types scope names first.statement ≡ Err kind → Some (record { line = first.line; kind = kind }) ≡ lines_fault scope all names
unfolding lines_fault
line-stops scope all others first names kind is fails = rw is (rw fails refl)

pub lines-end : (scope : Scope) (all : List ScriptLine) (names : Names) → length all ≡ 0 → None ≡ lines_fault scope all names
unfolding lines_fault
lines-end scope all names is = rw (none-left all is) refl

pub script-begins : (krate : CrateTree) (script : Script) (lines : List ScriptLine) (bound : List (List ℕ × Bor RegisterModule)) → lines ≡ script.lines → bound ≡ []
    → lines_fault (module_scope krate) lines (names_in bound) ≡ module_fault krate script
unfolding module_fault
script-begins krate script lines bound all none = rw (all, none) refl

-- ---- names that are bound

if-ok : {A E : Type 0} {P Q : A → Type 0} → ((x : A) → P x → Q x) → (r : Result A E) → IfOk r P → IfOk r Q
if-ok more (Ok x) h = more x h
if-ok more (Err e) h = h

bound-more : (old new : List (List ℕ × Bor RegisterModule)) (name : List ℕ) (unit : Bor RegisterModule)
    → ((other : List ℕ) → lookup (bytes_eq other) new ≡ (if bytes_eq other name then Some unit else lookup (bytes_eq other) old))
    → HaveSame ((name, register_calls unit.now) ∷ names_in old) (names_in new)
bound-more old new name unit more = λ other.
    by other (bytes_eq other name) (bound-names old other)
    ∙ (ap (option_map (λ (unit : Bor RegisterModule). register_calls unit.now)) (sym (more other)) ∙ sym (bound-names new other))
  where
    by : (other : List ℕ) (b : Bool) → name_of (names_in old) other ≡ option_map (λ (unit : Bor RegisterModule). register_calls unit.now) (lookup (bytes_eq other) old)
        → option_map (λ (entry : List ℕ × RegisterCalls). entry.1) (if b then Some (name, register_calls unit.now) else find (λ entry. bytes_eq other entry.0) (names_in old))
        ≡ option_map (λ (unit : Bor RegisterModule). register_calls unit.now) (if b then Some unit else lookup (bytes_eq other) old)
    by other true e = refl
    by other false e = e

pub let-binds : {E : Type 0} (result : Result (Unit {0}) E) (said : Statement) (read : Option (Bor RegisterModule)) (old new : List (List ℕ × Bor RegisterModule)) (key name : List ℕ) (place : Place) (unit : Bor RegisterModule)
    → said ≡ statement.Let name place → read ≡ Some unit → key ≡ name
    → IfOk result (λ _. (other : List ℕ) → lookup (bytes_eq other) new ≡ (if bytes_eq other key then Some unit else lookup (bytes_eq other) old))
    → IfOk result (λ _. HaveSame (bound_behind (names_in old) said read) (names_in new))
let-binds result said read old new key name place unit is found same set = rw (is, found) (if-ok (λ done more. bound-more old new name unit (rw same at more)) result set)
