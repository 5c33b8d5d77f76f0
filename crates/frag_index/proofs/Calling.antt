-- Maps of the calls of values, as they are made.
use Rattle.std.proofs.Common.{◌≡◌, ℕ, Bool, true, false, ◌&&◌, List, [], ◌∷◌, ◌++◌, find, Option, Some, None, is_some, option_map, refl, sym, ap, ◌∙◌, if◌then◌else◌}
use Rattle.std.specs.Borrow.{Bor}
use Rattle.std.specs.List.{flat_map}
use Rattle.std.specs.Map.{lookup}
use Rattle.std.specs.Option.{option_or}
use Rattle.std.specs.Str.{bytes_eq}
use Rattle.std.proofs.lemmas.Bool.{false≢true}
use Rattle.std.proofs.lemmas.Slice.Eq.{bytes_eq-Decides}
use Rattle.indexmap.specs.IndexMap.{insert_entry}
use Rattle.frag_rules.specs.declared.proxy.CallKey.{CallKey}
use Rattle.frag_rules.specs.contracts.proxy.CallKeyPartialEq.TheImpl as calls
use Rattle.frag_rules.specs.Keys.{Key, call_seen, key_of, same_call_key, same_key}
use Rattle.frag_rules.proofs.Keys.{call-eq, key-is, key-same}
use Rattle.frag_sem.specs.ProxyTypes.{ProxyType, same_type, values_type}
use Rattle.frag_tree.specs.declared.register.Values.{Values}
use Rattle.frag_index.specs.Calls.{CallMap, found_call}

-- calls among the entries of a map
abbrev pub entry_on : {T : Type 0} → List (CallKey × Bor T) → Key × List ℕ → Option T
entry_on es wanted = option_map (λ call. call.now) (lookup (λ key. same_call_key wanted (call_seen key)) es)

found-on : {T : Type 0} (es : List (CallKey × Bor T)) (key : CallKey) → lookup (calls.ghosts.eq key) es ≡ lookup (λ other. same_call_key (call_seen key) (call_seen other)) es
found-on [] key = refl
found-on (e ∷ es) key = rw (call-eq key e.0, found-on es key) refl

-- what is looked up in a map, as the call
pub call-found : {T : Type 0} (held : CallMap T) (key : CallKey) (found : Option (Bor T)) → found ≡ lookup (calls.ghosts.eq key) held.entries → option_map (λ (call : Bor T). call.now) found ≡ found_call held (call_seen key)
call-found {T} held key found is = ap (option_map (λ (call : Bor T). call.now)) (is ∙ found-on held.entries key)

both : (a b : Bool) → (a && b) ≡ true → (a ≡ true) × (b ≡ true)
both true b h = (refl, h)
both false b h = absurd (false≢true h)

call-is : (one other : Key × List ℕ) → same_call_key one other ≡ true → one ≡ other
call-is one other h =
    let p = both (same_key one.0 other.0) (bytes_eq one.1 other.1) h in
    rw (key-is one.0 other.0 p.0, (bytes_eq-Decides one.1 other.1).0 p.1) refl

call-self : (call : Key × List ℕ) (other : Key × List ℕ) → same_call_key call other ≡ true → same_call_key other other ≡ true
call-self call other h = ap (λ c. same_call_key c other) (sym (call-is call other h)) ∙ h

-- one more call, or one in the place of another
pub put-on : {T : Type 0} (es : List (CallKey × Bor T)) (key : CallKey) (call : Bor T) (wanted : Key × List ℕ)
    → entry_on (insert_entry calls.ghosts.eq es key call) wanted ≡ (if same_call_key wanted (call_seen key) then Some call.now else entry_on es wanted)
put-on [] key call wanted = by (same_call_key wanted (call_seen key))
  where
    by : (b : Bool) → option_map (λ (call : Bor _). call.now) (if b then Some call else None) ≡ (if b then Some call.now else None)
    by true = refl
    by false = refl
put-on {T} (e ∷ es) key call wanted = step (calls.ghosts.eq key e.0) (sym (call-eq key e.0)) (put-on es key call wanted)
  where
    first : (b : Bool) (x : Bor T) (o : Option (Bor T)) → option_map (λ (call : Bor T). call.now) (if b then Some x else o) ≡ (if b then Some x.now else option_map (λ (call : Bor T). call.now) o)
    first true x o = refl
    first false x o = refl

    put : (a : Bool) (o : Option T) → (if a then Some call.now else o) ≡ (if a then Some call.now else (if a then Some e.1.now else o))
    put true o = refl
    put false o = refl

    kept : (a b : Bool) (o : Option T) → same_call_key wanted (call_seen e.0) ≡ a → same_call_key wanted (call_seen key) ≡ b → same_call_key (call_seen key) (call_seen e.0) ≡ false
        → (if a then Some e.1.now else (if b then Some call.now else o)) ≡ (if b then Some call.now else (if a then Some e.1.now else o))
    kept false b o one two apart = refl
    kept true false o one two apart = refl
    kept true true o one two apart = absurd (false≢true (sym apart ∙ (ap (λ k. same_call_key k (call_seen e.0)) (sym (call-is wanted (call_seen key) two)) ∙ one)))

    step : (b : Bool) → same_call_key (call_seen key) (call_seen e.0) ≡ b
        → entry_on (insert_entry calls.ghosts.eq es key call) wanted ≡ (if same_call_key wanted (call_seen key) then Some call.now else entry_on es wanted)
        → entry_on (if b then (e.0, call) ∷ es else e ∷ insert_entry calls.ghosts.eq es key call) wanted ≡ (if same_call_key wanted (call_seen key) then Some call.now else entry_on (e ∷ es) wanted)
    step true same more =
        first (same_call_key wanted (call_seen e.0)) call _
        ∙ (ap (λ k. if same_call_key wanted k then Some call.now else entry_on es wanted) (sym (call-is (call_seen key) (call_seen e.0) same))
        ∙ (put (same_call_key wanted (call_seen key)) (entry_on es wanted)
        ∙ ap (λ o. if same_call_key wanted (call_seen key) then Some call.now else o)
        (ap (λ k. if same_call_key wanted k then Some e.1.now else entry_on es wanted) (call-is (call_seen key) (call_seen e.0) same) ∙ sym (first (same_call_key wanted (call_seen e.0)) e.1 _))))
    step false apart more =
        first (same_call_key wanted (call_seen e.0)) e.1 _
        ∙ (ap (λ o. if same_call_key wanted (call_seen e.0) then Some e.1.now else o) more
        ∙ (kept (same_call_key wanted (call_seen e.0)) (same_call_key wanted (call_seen key)) (entry_on es wanted) refl refl apart
        ∙ ap (λ o. if same_call_key wanted (call_seen key) then Some call.now else o) (sym (first (same_call_key wanted (call_seen e.0)) e.1 _))))

some-mapped : {T : Type 0} (found : Option (Bor T)) (o : Option T) → option_map (λ (call : Bor T). call.now) found ≡ o → is_some found ≡ is_some o
some-mapped {T} found o is = by found ∙ ap is_some is
  where
    by : (found : Option (Bor T)) → is_some found ≡ is_some (option_map (λ (call : Bor T). call.now) found)
    by None = refl
    by (Some x) = refl

-- a call that is kept where there is none yet
pub kept-there : {T : Type 0} (held : CallMap T) (key : CallKey) (call : Bor T) (found : Option (Bor T)) → option_map (λ (call : Bor T). call.now) found ≡ found_call held (call_seen key) → is_some found ≡ true
    → (wanted : Key × List ℕ) → found_call held wanted ≡ option_or (found_call held wanted) (if same_call_key wanted (call_seen key) then Some call.now else None)
kept-there {T} held key call found is there wanted =
    by (same_call_key wanted (call_seen key)) (found_call held wanted) (λ same. ap (λ k. is_some (found_call held k)) (call-is wanted (call_seen key) same) ∙ (sym (some-mapped found (found_call held (call_seen key)) is) ∙ there))
  where
    by : (b : Bool) (o : Option T) → (b ≡ true → is_some o ≡ true) → o ≡ option_or o (if b then Some call.now else None)
    by b (Some x) more = refl
    by false None more = refl
    by true None more = absurd (false≢true (more refl))

pub kept-new : {T : Type 0} (held new : CallMap T) (key : CallKey) (call : Bor T) (found : Option (Bor T)) → option_map (λ (call : Bor T). call.now) found ≡ found_call held (call_seen key) → is_some found ≡ false
    → new.entries ≡ insert_entry calls.ghosts.eq held.entries key call
    → (wanted : Key × List ℕ) → found_call new wanted ≡ option_or (found_call held wanted) (if same_call_key wanted (call_seen key) then Some call.now else None)
kept-new {T} held new key call found is none put wanted =
    ap (λ es. entry_on es wanted) put
    ∙ (put-on held.entries key call wanted
    ∙ by (same_call_key wanted (call_seen key)) (found_call held wanted) (λ same. ap (λ k. is_some (found_call held k)) (call-is wanted (call_seen key) same) ∙ (sym (some-mapped found (found_call held (call_seen key)) is) ∙ none)))
  where
    by : (b : Bool) (o : Option T) → (b ≡ true → is_some o ≡ false) → (if b then Some call.now else o) ≡ option_or o (if b then Some call.now else None)
    by false (Some x) more = refl
    by false None more = refl
    by true None more = refl
    by true (Some x) more = absurd (false≢true (sym (more refl)))

-- ---- the calls of a block

-- what is kept, and then what is left, is what was kept, and then all
abbrev pub KeptSoFar : {T : Type 0} → Key → (T → List ℕ) → CallMap T → CallMap T → List T → List T → Type 0
KeptSoFar on name_of old now left all = (wanted : Key × List ℕ)
    → option_or (found_call now wanted) (find (λ call. same_call_key wanted (on, name_of call)) left) ≡ option_or (found_call old wanted) (find (λ call. same_call_key wanted (on, name_of call)) all)

pub kept-none : {T : Type 0} (on : Key) (name_of : T → List ℕ) (held : CallMap T) (all : List T) → KeptSoFar on name_of held held all all
kept-none on name_of held all wanted = refl

pub kept-more : {T : Type 0} (on : Key) (name_of : T → List ℕ) (old now now' : CallMap T) (left others all : List T) (first : T) (own : List ℕ) → left ≡ first ∷ others → own ≡ name_of first
    → ((wanted : Key × List ℕ) → found_call now' wanted ≡ option_or (found_call now wanted) (if same_call_key wanted (on, own) then Some first else None))
    → KeptSoFar on name_of old now left all → KeptSoFar on name_of old now' others all
kept-more {T} on name_of old now now' left others all first own is own_is kept before wanted =
    ap (λ o. option_or o (find (λ call. same_call_key wanted (on, name_of call)) others)) (kept wanted ∙ ap (λ name. option_or (found_call now wanted) (if same_call_key wanted (on, name) then Some first else None)) own_is)
    ∙ (by (found_call now wanted) (same_call_key wanted (on, name_of first)) (find (λ call. same_call_key wanted (on, name_of call)) others)
    ∙ (ap (λ xs. option_or (found_call now wanted) (find (λ call. same_call_key wanted (on, name_of call)) xs)) (sym is) ∙ before wanted))
  where
    by : (o : Option T) (b : Bool) (f : Option T) → option_or (option_or o (if b then Some first else None)) f ≡ option_or o (if b then Some first else f)
    by (Some x) b f = refl
    by None true f = refl
    by None false f = refl

none-more : {T : Type 0} (o : Option T) → o ≡ option_or o None
none-more None = refl
none-more (Some x) = refl

pub kept-all : {T : Type 0} (on : Key) (name_of : T → List ℕ) (old now : CallMap T) (left all : List T) → left ≡ [] → KeptSoFar on name_of old now left all
    → (wanted : Key × List ℕ) → found_call now wanted ≡ option_or (found_call old wanted) (find (λ call. same_call_key wanted (on, name_of call)) all)
kept-all on name_of old now left all is before wanted =
    none-more (found_call now wanted) ∙ (ap (λ xs. option_or (found_call now wanted) (find (λ call. same_call_key wanted (on, name_of call)) xs)) (sym is) ∙ before wanted)

-- ---- the calls of all blocks

-- the calls on a type of some blocks
abbrev pub on_blocks : {T : Type 0} → (Values → List T) → ProxyType → List Values → List T
on_blocks calls_of type blocks = flat_map (λ block. if same_type type (values_type block) then calls_of block else []) blocks

abbrev pub TakenSoFar : {T : Type 0} → (T → List ℕ) → (Values → List T) → CallMap T → List Values → List Values → Type 0
TakenSoFar name_of calls_of now left all = (type : ProxyType) (name : List ℕ)
    → option_or (found_call now (key_of type, name)) (find (λ call. bytes_eq name (name_of call)) (on_blocks calls_of type left)) ≡ find (λ call. bytes_eq name (name_of call)) (on_blocks calls_of type all)

pub taken-begin : {T : Type 0} (name_of : T → List ℕ) (calls_of : Values → List T) (held : CallMap T) (all : List Values) → held.entries ≡ [] → TakenSoFar name_of calls_of held all all
taken-begin name_of calls_of held all none type name = ap (λ es. option_or (entry_on es (key_of type, name)) (find (λ call. bytes_eq name (name_of call)) (on_blocks calls_of type all))) none

find-append : {T : Type 0} (test : T → Bool) (xs ys : List T) → find test (xs ++ ys) ≡ option_or (find test xs) (find test ys)
find-append test [] ys = refl
find-append {T} test (x ∷ xs) ys = by (test x) (find-append test xs ys)
  where
    by : (b : Bool) → find test (xs ++ ys) ≡ option_or (find test xs) (find test ys) → (if b then Some x else find test (xs ++ ys)) ≡ option_or (if b then Some x else find test xs) (find test ys)
    by true more = refl
    by false more = more

-- on another type there is none
find-on : {T : Type 0} (name_of : T → List ℕ) (name : List ℕ) (b : Bool) (calls : List T) → find (λ call. b && bytes_eq name (name_of call)) calls ≡ find (λ call. bytes_eq name (name_of call)) (if b then calls else [])
find-on name_of name true calls = refl
find-on name_of name false [] = refl
find-on name_of name false (call ∷ calls) = find-on name_of name false calls

pub taken-more : {T : Type 0} (name_of : T → List ℕ) (calls_of : Values → List T) (now now' : CallMap T) (left others all : List Values) (first : Values) (on : Key) (calls : List T)
    → left ≡ first ∷ others → on ≡ key_of (values_type first) → calls ≡ calls_of first
    → ((wanted : Key × List ℕ) → found_call now' wanted ≡ option_or (found_call now wanted) (find (λ call. same_call_key wanted (on, name_of call)) calls))
    → TakenSoFar name_of calls_of now left all → TakenSoFar name_of calls_of now' others all
taken-more {T} name_of calls_of now now' left others all first on calls is on_is calls_are kept before type name =
    ap (λ o. option_or o (find (λ call. bytes_eq name (name_of call)) (on_blocks calls_of type others))) (kept (key_of type, name) ∙ ap (option_or (found_call now (key_of type, name))) own)
    ∙ (grouped (found_call now (key_of type, name)) (find (λ call. bytes_eq name (name_of call)) (if same_type type (values_type first) then calls_of first else [])) (find (λ call. bytes_eq name (name_of call)) (on_blocks calls_of type others))
    ∙ (ap (option_or (found_call now (key_of type, name))) (sym (find-append (λ call. bytes_eq name (name_of call)) (if same_type type (values_type first) then calls_of first else []) (on_blocks calls_of type others)))
    ∙ (ap (λ xs. option_or (found_call now (key_of type, name)) (find (λ call. bytes_eq name (name_of call)) (on_blocks calls_of type xs))) (sym is) ∙ before type name)))
  where
    own : find (λ call. same_call_key (key_of type, name) (on, name_of call)) calls ≡ find (λ call. bytes_eq name (name_of call)) (if same_type type (values_type first) then calls_of first else [])
    own =
        rw (on_is, calls_are) (ap (λ b. find (λ call. b && bytes_eq name (name_of call)) (calls_of first)) (key-same type (values_type first)) ∙ find-on name_of name (same_type type (values_type first)) (calls_of first))

    grouped : (a b c : Option T) → option_or (option_or a b) c ≡ option_or a (option_or b c)
    grouped (Some x) b c = refl
    grouped None b c = refl

pub taken-all : {T : Type 0} (name_of : T → List ℕ) (calls_of : Values → List T) (now : CallMap T) (left all : List Values) → left ≡ [] → TakenSoFar name_of calls_of now left all
    → (type : ProxyType) (name : List ℕ) → found_call now (key_of type, name) ≡ find (λ call. bytes_eq name (name_of call)) (on_blocks calls_of type all)
taken-all name_of calls_of now left all is before type name =
    none-more (found_call now (key_of type, name)) ∙ (ap (λ xs. option_or (found_call now (key_of type, name)) (find (λ call. bytes_eq name (name_of call)) (on_blocks calls_of type xs))) (sym is) ∙ before type name)
