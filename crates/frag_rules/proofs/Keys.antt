-- Keys of types and of calls.
use Rattle.std.proofs.Common.{◌≡◌, ℕ, Bool, true, false, not, ◌&&◌, ◌||◌, ◌==◌, List, [], ◌∷◌, ◌++◌, map, refl, sym, ap, ap₂, ◌∙◌, if◌then◌else◌, append_assoc, arith}
use Rattle.std.specs.List.{list_all, list_any, flat_map}
use Rattle.std.specs.Str.{bytes_eq}
use Rattle.std.proofs.lemmas.Bool.{false≢true}
use Rattle.std.proofs.lemmas.Bool.Decides.{nat_tests}
use Rattle.std.proofs.lemmas.List.{map-append}
use Rattle.std.proofs.lemmas.Slice.Eq.{bytes_eq-Decides}
use Rattle.std.proofs.lemmas.List.Folds.{list_all-append, list_all-map, list_any-append}
use Rattle.indexmap.specs.IndexSet.{insert_key}
use Rattle.frag_sem.specs.CrateTyping.{is_free, same_call}
use Rattle.frag_sem.specs.Modules.{are_distinct}
use Rattle.frag_sem.specs.ProxyTypes.{ProxyType, bit_reader, bit_writer, field_reader, field_writer, number_calls, reader_type, readers_of, same_type, truth_calls, types_of, values_type, writer_type, writers_of}
use Rattle.frag_tree.specs.declared.krate.Version.{Version}
use Rattle.frag_tree.specs.declared.register.NumberCall.{NumberCall}
use Rattle.frag_tree.specs.declared.register.Reader.{Reader}
use Rattle.frag_tree.specs.declared.register.RegisterModule.{RegisterModule}
use Rattle.frag_tree.specs.declared.register.TruthCall.{TruthCall}
use Rattle.frag_tree.specs.declared.register.Values.{Values}
use Rattle.frag_tree.specs.declared.register.Writer.{Writer}
use Rattle.frag_rules.specs.declared.proxy.CallKey.{CallKey}
use Rattle.frag_rules.specs.declared.proxy.TypeKey.{TypeKey}
use Rattle.frag_rules.specs.declared.proxy.TypeKey.TheVariants as key
use Rattle.frag_rules.specs.contracts.proxy.TypeKeyPartialEq.TheImpl as types
use Rattle.frag_rules.specs.contracts.proxy.CallKeyPartialEq.TheImpl as calls
use Rattle.frag_rules.specs.Keys.{HasAlso, HasTypes, Key, call_key, call_seen, calls_on, key_of, key_seen, reads_bit, reads_field, same_call_key, same_key, writes_bit, writes_field}
use Rattle.frag_rules.proofs.ByName.{bytes-turned}

-- ---- types

-- keys are the same just where the types are
pub key-same : (one other : ProxyType) → same_key (key_of one) (key_of other) ≡ same_type one other
key-same (bit_reader one) (bit_reader other) = refl
key-same (bit_reader one) (field_reader other also) = refl
key-same (bit_reader one) (bit_writer also other) = refl
key-same (bit_reader one) (field_writer other also bits) = refl
key-same (field_reader one width) (bit_reader other) = refl
key-same (field_reader one width) (field_reader other also) = refl
key-same (field_reader one width) (bit_writer also other) = refl
key-same (field_reader one width) (field_writer other also bits) = refl
key-same (bit_writer kind one) (bit_reader other) = refl
key-same (bit_writer kind one) (field_reader other also) = refl
key-same (bit_writer kind one) (bit_writer also other) = refl
key-same (bit_writer kind one) (field_writer other also bits) = refl
key-same (field_writer one width bits) (bit_reader other) = refl
key-same (field_writer one width bits) (field_reader other also) = refl
key-same (field_writer one width bits) (bit_writer also other) = refl
key-same (field_writer one width bits) (field_writer other also as_many) = refl

-- keys that are the same are one key
number-is : (m n : ℕ) → (m == n) ≡ true → m ≡ n
number-is m n h = grind (arith, nat_tests, h)

both : (a b : Bool) → (a && b) ≡ true → (a ≡ true) × (b ≡ true)
both true b h = (refl, h)
both false b h = absurd (false≢true h)

pub key-is : (one other : Key) → same_key one other ≡ true → one ≡ other
key-is (reads_bit one) (reads_bit other) h = ap reads_bit ((bytes_eq-Decides one other).0 h)
key-is (reads_field one width) (reads_field other also) h =
    let p = both (bytes_eq one other) (width == also) h in ap₂ reads_field ((bytes_eq-Decides one other).0 p.0) (number-is width also p.1)
key-is (writes_bit kind one) (writes_bit also other) h =
    let p = both (bytes_eq kind also) (bytes_eq one other) h in ap₂ writes_bit ((bytes_eq-Decides kind also).0 p.0) ((bytes_eq-Decides one other).0 p.1)
key-is (writes_field one width bits) (writes_field other also as_many) h =
    let p = both (bytes_eq one other) (width == also && bits == as_many) h in
    let q = both (width == also) (bits == as_many) p.1 in
    rw ((bytes_eq-Decides one other).0 p.0, number-is width also q.0, number-is bits as_many q.1) refl
key-is (reads_bit one) (reads_field other also) h = absurd (false≢true h)
key-is (reads_bit one) (writes_bit also other) h = absurd (false≢true h)
key-is (reads_bit one) (writes_field other also bits) h = absurd (false≢true h)
key-is (reads_field one width) (reads_bit other) h = absurd (false≢true h)
key-is (reads_field one width) (writes_bit also other) h = absurd (false≢true h)
key-is (reads_field one width) (writes_field other also bits) h = absurd (false≢true h)
key-is (writes_bit kind one) (reads_bit other) h = absurd (false≢true h)
key-is (writes_bit kind one) (reads_field other also) h = absurd (false≢true h)
key-is (writes_bit kind one) (writes_field other also bits) h = absurd (false≢true h)
key-is (writes_field one width bits) (reads_bit other) h = absurd (false≢true h)
key-is (writes_field one width bits) (reads_field other also) h = absurd (false≢true h)
key-is (writes_field one width bits) (writes_bit also other) h = absurd (false≢true h)

any-type : (type : ProxyType) (types : List ProxyType) → list_any (same_key (key_of type)) (map key_of types) ≡ list_any (same_type type) types
any-type type [] = refl
any-type type (first ∷ others) = ap₂ (λ a b. a || b) (key-same type first) (any-type type others)

-- a block stands on a type of the register where its key is among those of the types
pub is-typed : (types : List Key) (unit : RegisterModule) → HasTypes types unit → (block : Values) → list_any (same_key (key_of (values_type block))) types ≡ list_any (same_type (values_type block)) (types_of unit)
is-typed types unit has block = has (key_of (values_type block)) ∙ any-type (values_type block) (types_of unit)

-- ---- names of the prelude

pub all-free : (version : Version) (truths : List TruthCall) (numbers : List NumberCall)
    → (list_all (λ call. is_free version call.name) truths && list_all (λ call. is_free version call.name) numbers) ≡ list_all (is_free version) (map (λ call. call.name) truths ++ map (λ call. call.name) numbers)
all-free version truths numbers =
    sym (list_all-append (is_free version) (map (λ call. call.name) truths) (map (λ call. call.name) numbers)
    ∙ ap₂ (λ a b. a && b) (list_all-map (is_free version) (λ call. call.name) truths) (list_all-map (is_free version) (λ call. call.name) numbers))

-- ---- calls

type-eq : (one other : TypeKey) → types.ghosts.eq one other ≡ same_key (key_seen one) (key_seen other)
type-eq (key.BitReader one) (key.BitReader other) = refl
type-eq (key.BitReader one) (key.FieldReader other also) = refl
type-eq (key.BitReader one) (key.BitWriter also other) = refl
type-eq (key.BitReader one) (key.FieldWriter other also bits) = refl
type-eq (key.FieldReader one width) (key.BitReader other) = refl
type-eq (key.FieldReader one width) (key.FieldReader other also) = refl
type-eq (key.FieldReader one width) (key.BitWriter also other) = refl
type-eq (key.FieldReader one width) (key.FieldWriter other also bits) = refl
type-eq (key.BitWriter kind one) (key.BitReader other) = refl
type-eq (key.BitWriter kind one) (key.FieldReader other also) = refl
type-eq (key.BitWriter kind one) (key.BitWriter also other) = refl
type-eq (key.BitWriter kind one) (key.FieldWriter other also bits) = refl
type-eq (key.FieldWriter one width bits) (key.BitReader other) = refl
type-eq (key.FieldWriter one width bits) (key.FieldReader other also) = refl
type-eq (key.FieldWriter one width bits) (key.BitWriter also other) = refl
type-eq (key.FieldWriter one width bits) (key.FieldWriter other also as_many) = refl

pub any-key : (key : TypeKey) (keys : List TypeKey) → list_any (types.ghosts.eq key) keys ≡ list_any (same_key (key_seen key)) (map key_seen keys)
any-key key [] = refl
any-key key (first ∷ others) = ap₂ (λ a b. a || b) (type-eq key first) (any-key key others)

or-none : (b : Bool) → (b || false) ≡ b
or-none true = refl
or-none false = refl

or-grouped : (a b c : Bool) → ((a || b) || c) ≡ (a || (b || c))
or-grouped true b c = refl
or-grouped false b c = refl

-- what is among the types once one more was put in
type-added : (keys : List TypeKey) (key : TypeKey) (wanted : Key) → list_any (same_key wanted) (map key_seen (insert_key types.ghosts.eq keys key)) ≡ (list_any (same_key wanted) (map key_seen keys) || same_key wanted (key_seen key))
type-added keys key wanted = by (list_any (types.ghosts.eq key) keys) refl
  where
    there : (b : Bool) → same_key wanted (key_seen key) ≡ b → list_any (same_key (key_seen key)) (map key_seen keys) ≡ true → list_any (same_key wanted) (map key_seen keys) ≡ (list_any (same_key wanted) (map key_seen keys) || b)
    there false other among = sym (or-none (list_any (same_key wanted) (map key_seen keys)))
    there true same among = rw (key-is wanted (key_seen key) same, among) refl

    by : (b : Bool) → list_any (types.ghosts.eq key) keys ≡ b → list_any (same_key wanted) (map key_seen (if b then keys else keys ++ key ∷ [])) ≡ (list_any (same_key wanted) (map key_seen keys) || same_key wanted (key_seen key))
    by true among = there (same_key wanted (key_seen key)) refl (sym (any-key key keys) ∙ among)
    by false none =
        ap (list_any (same_key wanted)) (map-append key_seen keys (key ∷ []))
        ∙ (list_any-append (same_key wanted) (map key_seen keys) (key_seen key ∷ [])
        ∙ ap (λ b. list_any (same_key wanted) (map key_seen keys) || b) (or-none (same_key wanted (key_seen key))))

-- what is among the types so far, or among those that are left
abbrev pub AddedSoFar : List Key → List Key → List Key → List Key → Type 0
AddedSoFar old now left all = (wanted : Key) → (list_any (same_key wanted) now || list_any (same_key wanted) left) ≡ (list_any (same_key wanted) old || list_any (same_key wanted) all)

pub added-more : {A : Type 0} (of_item : A → Key) (old : List Key) (keys new : List TypeKey) (key : TypeKey) (left others all : List A) (first : A) → left ≡ first ∷ others → key_seen key ≡ of_item first → new ≡ insert_key types.ghosts.eq keys key
    → AddedSoFar old (map key_seen keys) (map of_item left) (map of_item all) → AddedSoFar old (map key_seen new) (map of_item others) (map of_item all)
added-more of_item old keys new key left others all first is same more before wanted =
    ap (λ b. b || list_any (same_key wanted) (map of_item others)) (ap (λ keys. list_any (same_key wanted) (map key_seen keys)) more ∙ type-added keys key wanted)
    ∙ (or-grouped (list_any (same_key wanted) (map key_seen keys)) (same_key wanted (key_seen key)) (list_any (same_key wanted) (map of_item others))
    ∙ (ap (λ k. list_any (same_key wanted) (map key_seen keys) || (same_key wanted k || list_any (same_key wanted) (map of_item others))) same
    ∙ (ap (λ xs. list_any (same_key wanted) (map key_seen keys) || list_any (same_key wanted) (map of_item xs)) (sym is) ∙ before wanted)))

pub added-all : {A : Type 0} (of_item : A → Key) (old now : List Key) (left all : List A) → left ≡ [] → AddedSoFar old now (map of_item left) (map of_item all) → HasAlso old (map of_item all) now
added-all of_item old now left all is before wanted =
    sym (or-none (list_any (same_key wanted) now)) ∙ (ap (λ xs. list_any (same_key wanted) now || list_any (same_key wanted) (map of_item xs)) (sym is) ∙ before wanted)

map-map : {A : Type 0} (f : A → ProxyType) (xs : List A) → map (λ x. key_of (f x)) xs ≡ map key_of (map f xs)
map-map f [] = refl
map-map f (x ∷ xs) = ap (λ ys. key_of (f x) ∷ ys) (map-map f xs)

-- readers first, and then writers
pub has-types : (unit : RegisterModule) (none reads all : List Key) (readers : List Reader) (writers : List Writer) → none ≡ [] → readers ≡ readers_of unit → writers ≡ writers_of unit
    → HasAlso none (map (λ reader. key_of (reader_type reader)) readers) reads → HasAlso reads (map (λ writer. key_of (writer_type writer)) writers) all → HasTypes all unit
has-types unit none reads all readers writers empty r w one two wanted =
    two wanted
    ∙ (ap (λ b. b || list_any (same_key wanted) (map (λ writer. key_of (writer_type writer)) writers)) (one wanted ∙ ap (λ keys. list_any (same_key wanted) keys || list_any (same_key wanted) (map (λ reader. key_of (reader_type reader)) readers)) empty)
    ∙ (ap₂ (λ xs ys. list_any (same_key wanted) xs || list_any (same_key wanted) ys)
    (ap (map (λ reader. key_of (reader_type reader))) r ∙ map-map reader_type (readers_of unit)) (ap (map (λ writer. key_of (writer_type writer))) w ∙ map-map writer_type (writers_of unit))
    ∙ (sym (list_any-append (same_key wanted) (map key_of (map reader_type (readers_of unit))) (map key_of (map writer_type (writers_of unit))))
    ∙ ap (list_any (same_key wanted)) (sym (map-append key_of (map reader_type (readers_of unit)) (map writer_type (writers_of unit)))))))

pub call-eq : (one other : CallKey) → calls.ghosts.eq one other ≡ same_call_key (call_seen one) (call_seen other)
call-eq one other = ap (λ b. b && bytes_eq one.name.now other.name.now) (type-eq one.on other.on)

any-seen : (call : CallKey) (seen : List CallKey) → list_any (calls.ghosts.eq call) seen ≡ list_any (same_call_key (call_seen call)) (map call_seen seen)
any-seen call [] = refl
any-seen call (first ∷ others) = ap₂ (λ a b. a || b) (call-eq call first) (any-seen call others)

pub call-new : (call : CallKey) (seen : List CallKey) (fresh : Bool) → fresh ≡ not (list_any (calls.ghosts.eq call) seen) → fresh ≡ not (list_any (same_call_key (call_seen call)) (map call_seen seen))
call-new call seen fresh is = is ∙ ap not (any-seen call seen)

pub call-kept : (call : CallKey) (seen new : List CallKey) (fresh : Bool) → fresh ≡ not (list_any (calls.ghosts.eq call) seen) → new ≡ insert_key calls.ghosts.eq seen call → fresh ≡ true → map call_seen new ≡ map call_seen seen ++ call_seen call ∷ []
call-kept call seen new fresh is kept so = ap (map call_seen) (kept ∙ by (list_any (calls.ghosts.eq call) seen) (sym so ∙ is)) ∙ map-append call_seen seen (call ∷ [])
  where
    by : (b : Bool) → true ≡ not b → (if b then seen else seen ++ call ∷ []) ≡ seen ++ call ∷ []
    by false e = refl
    by true e = absurd (false≢true (sym e))

eq-turned : (n m : ℕ) → (n == m) ≡ (m == n)
eq-turned n m = grind (arith, nat_tests)

key-turned : (one other : Key) → same_key one other ≡ same_key other one
key-turned (reads_bit one) (reads_bit other) = bytes-turned one other
key-turned (reads_bit one) (reads_field other also) = refl
key-turned (reads_bit one) (writes_bit also other) = refl
key-turned (reads_bit one) (writes_field other also bits) = refl
key-turned (reads_field one width) (reads_bit other) = refl
key-turned (reads_field one width) (reads_field other also) = ap₂ (λ a b. a && b) (bytes-turned one other) (eq-turned width also)
key-turned (reads_field one width) (writes_bit also other) = refl
key-turned (reads_field one width) (writes_field other also bits) = refl
key-turned (writes_bit kind one) (reads_bit other) = refl
key-turned (writes_bit kind one) (reads_field other also) = refl
key-turned (writes_bit kind one) (writes_bit also other) = ap₂ (λ a b. a && b) (bytes-turned kind also) (bytes-turned one other)
key-turned (writes_bit kind one) (writes_field other also bits) = refl
key-turned (writes_field one width bits) (reads_bit other) = refl
key-turned (writes_field one width bits) (reads_field other also) = refl
key-turned (writes_field one width bits) (writes_bit also other) = refl
key-turned (writes_field one width bits) (writes_field other also as_many) = ap₂ (λ a b. a && b) (bytes-turned one other) (ap₂ (λ a b. a && b) (eq-turned width also) (eq-turned bits as_many))

pub call-turned : (one other : Key × List ℕ) → same_call_key one other ≡ same_call_key other one
call-turned one other = ap₂ (λ a b. a && b) (key-turned one.0 other.0) (bytes-turned one.1 other.1)

any-call : (call : ProxyType × List ℕ) (calls : List (ProxyType × List ℕ)) → list_any (same_call_key (call_key call)) (map call_key calls) ≡ list_any (same_call call) calls
any-call call [] = refl
any-call call (first ∷ others) = ap₂ (λ a b. a || b) (ap (λ b. b && bytes_eq call.1 first.1) (key-same call.0 first.0)) (any-call call others)

pub calls-distinct : (calls : List (ProxyType × List ℕ)) → are_distinct same_call_key (map call_key calls) ≡ are_distinct same_call calls
unfolding are_distinct
calls-distinct [] = refl
calls-distinct (first ∷ others) = ap₂ (λ a b. not a && b) (any-call first others) (calls-distinct others)

-- ---- the list of calls

pub calls-more : (old new all others : List (Key × List ℕ)) (first : Key × List ℕ) → all ≡ first ∷ others → new ≡ old ++ first ∷ [] → new ++ others ≡ old ++ all
calls-more old new all others first is more = rw (is, more) (append_assoc old (first ∷ []) others)

pub calls-both : (on : Key) (block : Values) (old mid new : List (Key × List ℕ)) (truths : List TruthCall) (numbers : List NumberCall) → on ≡ key_of (values_type block) → truths ≡ truth_calls block → numbers ≡ number_calls block
    → mid ≡ old ++ map (λ call. (on, call.name)) truths → new ≡ mid ++ map (λ call. (on, call.name)) numbers → new ≡ old ++ map call_key (calls_on block)
calls-both on block old mid new truths numbers is t n first then_more =
    rw (then_more, first, is, t, n) (append_assoc old _ _ ∙ ap (λ xs. old ++ xs) (sym by))
  where
    through : {A : Type 0} (name_of : A → List ℕ) (xs : List A) → map call_key (map (λ name. (values_type block, name)) (map name_of xs)) ≡ map (λ x. (key_of (values_type block), name_of x)) xs
    through name_of [] = refl
    through name_of (x ∷ xs) = ap (λ ys. (key_of (values_type block), name_of x) ∷ ys) (through name_of xs)

    by : map call_key (calls_on block) ≡ map (λ call. (key_of (values_type block), call.name)) (truth_calls block) ++ map (λ call. (key_of (values_type block), call.name)) (number_calls block)
    by =
        ap (map call_key) (map-append (λ name. (values_type block, name)) (map (λ call. call.name) (truth_calls block)) (map (λ call. call.name) (number_calls block)))
        ∙ (map-append call_key (map (λ name. (values_type block, name)) (map (λ call. call.name) (truth_calls block))) (map (λ name. (values_type block, name)) (map (λ call. call.name) (number_calls block)))
        ∙ ap₂ (λ a b. a ++ b) (through (λ call. call.name) (truth_calls block)) (through (λ call. call.name) (number_calls block)))

pub all-calls-more : (old new : List (Key × List ℕ)) (all others : List Values) (first : Values) → all ≡ first ∷ others → new ≡ old ++ map call_key (calls_on first)
    → new ++ map call_key (flat_map calls_on others) ≡ old ++ map call_key (flat_map calls_on all)
all-calls-more old new all others first is more =
    rw (is, more) (append_assoc old (map call_key (calls_on first)) (map call_key (flat_map calls_on others)) ∙ ap (λ xs. old ++ xs) (sym (map-append call_key (calls_on first) (flat_map calls_on others))))
