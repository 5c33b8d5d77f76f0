-- How a script in plain numbers grows by the deeds of a line.
use Rattle.std.proofs.Common.{ℕ, ◌≡◌, Bool, List, [], ◌∷◌, ◌++◌, length, map, Option, Some, None, Ok, Err, Result, IfOk, option_map, option_and_then, bytes_eq, refl, sym, ap, subst, ◌∙◌, arith, length-append, append_assoc, true, false, Vec, Global}
use Rattle.std.specs.Prelude.{if◌then◌else◌}
use Rattle.std.specs.Map.{lookup}
use Rattle.std.proofs.lemmas.List.{append-nil}
use Rattle.pac_base.specs.Widths.{bits_of}
use Rattle.frag_index.specs.declared.place.Found.{Found}
use Rattle.frag_index.specs.Walks.{found_seen}
use Rattle.frag_tree.specs.declared.script.ScriptLine.{ScriptLine}
use Rattle.frag_tree.specs.declared.statement.Link.{Link}
use Rattle.frag_tree.specs.declared.statement.Place.{Place}
use Rattle.frag_tree.specs.declared.statement.Statement.{Statement}
use Rattle.frag_tree.specs.declared.statement.Statement.TheVariants as statement
use Rattle.frag_tree.specs.declared.statement.Value.{Value}
use Rattle.frag_tree.specs.Trees.{CrateTree}
use Rattle.frag_sem.specs.CallPlaces.{RegisterAt, register_at}
use Rattle.frag_sem.specs.Meaning.{ActsAt, Bound, Outcome, Standing, at_place, chain_written, let_outcome, modify_outcome, outcome_of, reset_outcome, say_outcome, value_of, write_outcome}
use Rattle.frag_sem.specs.Presets.{called}
use Rattle.frag_sem.specs.ScriptTyping.{reader_name}
use Rattle.frag_sem.specs.TextMeaning.{acts_at, one_to_modify, text_acts, text_at, zero_to_modify}
use Rattle.frag_eval.specs.declared.deed.Deed.{Deed}
use Rattle.frag_eval.specs.declared.deed.Deed.TheVariants as deed
use Rattle.frag_eval.specs.declared.deed.Operand.{Operand}
use Rattle.frag_eval.specs.declared.deed.Put.{Put}
use Rattle.frag_eval.specs.declared.deed.Start.TheVariants as start
use Rattle.frag_eval.specs.declared.deed.Target.{Target}
use Rattle.frag_eval.specs.declared.lower.Lowering.{Lowering}
use Rattle.frag_eval.specs.declared.names.Reading.{Reading}
use Rattle.frag_eval.specs.declared.role.Role.TheVariants as role
use Rattle.frag_eval.specs.Courses.{deeds_dues}
use Rattle.frag_eval.specs.Deeds.{all_put, operand_said}
use Rattle.frag_eval.specs.Lowered.{Grows, IsCalled, IsFew, IsRead, a_due, acts_found, standing_of, target_of}
use Rattle.frag_eval.specs.Lowering.{Does, Knows, finds_bound, finds_with, outcome_at}
use Rattle.frag_eval.specs.Prefixes.{Due, dues_at, dues_of, line_dues, roles_of}
use Rattle.frag_eval.proofs.Doing.{let_does, modify_does, nothing_does, say_does, write_does}

pub if_ok_map : {T E : Type 0} {P Q : T → Type 0} (r : Result T E) → ((x : T) → P x → Q x) → IfOk r P → IfOk r Q
if_ok_map (Ok x) f p = f x p
if_ok_map (Err e) f p = tt

abbrev pub with_deeds : Lowering → Vec Deed Global → Lowering
with_deeds old deeds = record { deeds = deeds; bound = old.bound; reads = old.reads }

still_few : (old : Lowering) (deeds : Vec Deed Global) (one : Deed) → IsFew old → deeds.items ≡ old.deeds.items ++ one ∷ [] → IsFew (with_deeds old deeds)
still_few old deeds one few is = omega (arith, few, ap length is, length-append old.deeds.items (one ∷ []))

pub let_grows : (old mid now : Lowering) (found : Found) (key name : List ℕ) (line : ℕ) (reading : Reading) → IsFew old → key ≡ name → IsRead old mid found role.Read line reading → now.deeds ≡ mid.deeds → now.reads ≡ mid.reads
    → ((other : List ℕ) → lookup (bytes_eq other) now.bound ≡ (if bytes_eq other key then Some reading else lookup (bytes_eq other) mid.bound))
    → Grows old now (λ answers names. let_outcome name (standing_of answers names) (acts_found found)) (a_due role.Read line)
unfolding deeds_dues
let_grows old mid now found key name line reading few named read deeds reads is =
    let items : now.deeds.items ≡ old.deeds.items ++ deed.Read (target_of (found_seen found) role.Read line) ∷ [] = ap (λ (v : Vec Deed Global). v.items) deeds ∙ read.deeds in
    record {
      more = deed.Read (target_of (found_seen found) role.Read line) ∷ [];
      deeds = items;
      does = λ words answers names count knows.
          let_does (found_seen found) role.Read line words answers names (finds_bound old.bound) (finds_bound now.bound) name reading old.reads now.reads count knows read.unit read.read (reads ∙ read.reads)
          (λ other. is other ∙ (ap (λ (bound : List (List ℕ × Reading)). if bytes_eq other key then Some reading else lookup (bytes_eq other) bound) read.bound ∙ ap (λ (k : List ℕ). if bytes_eq other k then Some reading else lookup (bytes_eq other) old.bound) named));
      due = refl;
      few = omega (arith, few, reads, read.reads, ap length items, length-append old.deeds.items (deed.Read (target_of (found_seen found) role.Read line) ∷ []));
    }

pub write_grows : (old : Lowering) (deeds : Vec Deed Global) (found : Found) (base : ℕ) (chain : List Link) (line : ℕ) (puts : Vec Put Global) (target : Target) → IsFew old → target ≡ target_of (found_seen found) role.Write line
    → deeds.items ≡ old.deeds.items ++ deed.Write target (start.Word base) puts ∷ []
    → ((words : List ℕ) (bindings : List Bound) (word : ℕ) → Knows words (finds_bound old.bound) bindings → all_put (bits_of found.register.now.word) words word puts.items ≡ chain_written (text_acts found.register.now) bindings word chain)
    → Grows old (with_deeds old deeds) (λ answers names. write_outcome chain (standing_of answers names) (acts_found found) base) (a_due role.Write line)
unfolding deeds_dues
write_grows old deeds found base chain line puts target few at is chained = record {
  more = deed.Write (target_of (found_seen found) role.Write line) (start.Word base) puts ∷ [];
  deeds = is ∙ ap (λ (t : Target). old.deeds.items ++ deed.Write t (start.Word base) puts ∷ []) at;
  does = λ words answers names count knows.
      write_does (found_seen found) role.Write line words answers names (finds_bound old.bound) old.reads (chain_written (text_acts found.register.now) names base chain) (start.Word base) puts count knows (chained words names base knows);
  due = refl;
  few = still_few old deeds (deed.Write target (start.Word base) puts) few is;
}

pub reset_grows : (old : Lowering) (deeds : Vec Deed Global) (found : Found) (line : ℕ) (puts : Vec Put Global) (target : Target) → IsFew old → target ≡ target_of (found_seen found) role.Write line
    → deeds.items ≡ old.deeds.items ++ deed.Write target (start.Word found.register.now.reset.value) puts ∷ [] → puts.items ≡ []
    → Grows old (with_deeds old deeds) (λ answers names. reset_outcome (standing_of answers names) (acts_found found)) (a_due role.Write line)
unfolding deeds_dues
reset_grows old deeds found line puts target few at is none =
    let reset : ℕ = found.register.now.reset.value in
    record {
      more = deed.Write (target_of (found_seen found) role.Write line) (start.Word reset) puts ∷ [];
      deeds = is ∙ ap (λ (t : Target). old.deeds.items ++ deed.Write t (start.Word reset) puts ∷ []) at;
      does = λ words answers names count knows.
          write_does (found_seen found) role.Write line words answers names (finds_bound old.bound) old.reads reset (start.Word reset) puts count knows (ap (all_put (bits_of found.register.now.word) words reset) none);
      due = refl;
      few = still_few old deeds (deed.Write target (start.Word reset) puts) few is;
    }

pub say_grows : (old : Lowering) (deeds : Vec Deed Global) (value : Value) (operand : Operand) → IsFew old → deeds.items ≡ old.deeds.items ++ deed.Say operand ∷ []
    → ((words : List ℕ) (bindings : List Bound) → Knows words (finds_bound old.bound) bindings → operand_said words operand ≡ value_of bindings value)
    → Grows old (with_deeds old deeds) (λ answers names. say_outcome value (standing_of answers names)) []
unfolding deeds_dues
say_grows old deeds value operand few is said = record {
  more = deed.Say operand ∷ [];
  deeds = is;
  does = λ words answers names count knows. say_does words answers names (finds_bound old.bound) old.reads value operand count knows (said words names knows);
  due = refl;
  few = still_few old deeds (deed.Say operand) few is;
}

reader_finds : (b : Bool) (reader : Option Reading) (reading : Reading) (bound : List (List ℕ × Reading)) → reader ≡ (if b then Some reading else None)
    → (name : List ℕ) → finds_with reader bound name ≡ (if b then (if bytes_eq name reader_name then Some reading else finds_bound bound name) else finds_bound bound name)
reader_finds true reader reading bound is name = ap (λ (r : Option Reading). finds_with r bound name) is
reader_finds false reader reading bound is name = ap (λ (r : Option Reading). finds_with r bound name) is

pub modify_grows : (old mid : Lowering) (deeds : Vec Deed Global) (found : Found) (names_reader : Bool) (chain : List Link) (line : ℕ) (reading : Reading) (reader : Option Reading) (puts : Vec Put Global) (target : Target) (one raised : ℕ) → IsFew old
    → IsRead old mid found role.ModifyRead line reading → target ≡ target_of (found_seen found) role.ModifyWrite line → deeds.items ≡ mid.deeds.items ++ deed.Write target (start.Based reading.read one raised) puts ∷ []
    → one ≡ one_to_modify found.register.now → raised ≡ zero_to_modify found.register.now → reader ≡ (if names_reader then Some reading else None)
    → ((words : List ℕ) (bindings : List Bound) (word : ℕ) → Knows words (finds_with reader mid.bound) bindings → all_put (bits_of found.register.now.word) words word puts.items ≡ chain_written (text_acts found.register.now) bindings word chain)
    → Grows old (with_deeds mid deeds) (λ answers names. modify_outcome names_reader chain (standing_of answers names) (acts_found found)) (record { role = role.ModifyRead; line = line } ∷ a_due role.ModifyWrite line)
unfolding deeds_dues
modify_grows old mid deeds found names_reader chain line reading reader puts target one raised few read at is one-is raised-is reader-is chained =
    let first : Deed = deed.Read (target_of (found_seen found) role.ModifyRead line) in
    let second : Deed = deed.Write (target_of (found_seen found) role.ModifyWrite line) (start.Based reading.read one raised) puts in
    let items : deeds.items ≡ old.deeds.items ++ first ∷ second ∷ [] =
    is ∙ (ap (λ (t : Target). mid.deeds.items ++ deed.Write t (start.Based reading.read one raised) puts ∷ []) at
    ∙ (ap (λ (l : List Deed). l ++ second ∷ []) read.deeds ∙ append_assoc old.deeds.items (first ∷ []) (second ∷ []))) in
    record {
      more = first ∷ second ∷ [];
      deeds = items;
      does = λ words answers names count knows.
          subst (λ (bound : List (List ℕ × Reading)). Does words answers (modify_outcome names_reader chain (standing_of answers names) (acts_found found)) (first ∷ second ∷ []) (finds_bound bound) mid.reads) (sym read.bound)
          (modify_does (found_seen found) line role.ModifyRead role.ModifyWrite words answers names (finds_bound old.bound) (finds_with reader old.bound) names_reader chain reading old.reads mid.reads one raised puts count knows read.unit read.read read.reads one-is raised-is
          (reader_finds names_reader reader reading old.bound reader-is)
          (λ words bindings word known. chained words bindings word (subst (λ (bound : List (List ℕ × Reading)). Knows words (finds_with reader bound) bindings) (sym read.bound) known)));
      due = refl;
      few = omega (arith, few, read.reads, ap length items, length-append old.deeds.items (first ∷ second ∷ []));
    }

-- ---- statements

pub grows_as : (old now : Lowering) (outcome other : List ℕ → List Bound → Outcome) (dues also : List Due) → Grows old now outcome dues → ((answers : List ℕ) (names : List Bound) → outcome answers names ≡ other answers names) → dues ≡ also → Grows old now other also
grows_as old now outcome other dues also grows same due = record {
  more = grows.more;
  deeds = grows.deeds;
  does = λ words answers names count knows. subst (λ (out : Outcome). Does words answers out grows.more (finds_bound now.bound) now.reads) (same answers names) (grows.does words answers names count knows);
  due = grows.due ∙ due;
  few = grows.few;
}

dues_here : (krate : CrateTree) (line : ScriptLine) (s : Statement) (found : RegisterAt) → line.statement ≡ s → IsCalled krate line.statement (Some found) → map (λ role. record { role = role; line = line.line }) (roles_of s) ≡ dues_of krate line
dues_here krate line s found is calls = sym (ap (λ s. map (λ role. record { role = role; line = line.line }) (roles_of s)) is) ∙ ap (λ (o : Option RegisterAt). dues_at o (line_dues line)) calls

here : (krate : CrateTree) (line : ScriptLine) (s : Statement) (place : Place) (o : Option RegisterAt) → line.statement ≡ s → called s ≡ Some place → IsCalled krate line.statement o → o ≡ register_at krate place
here krate line s place o is places calls = calls ∙ (ap (λ s. option_and_then (register_at krate) (called s)) is ∙ ap (λ p. option_and_then (register_at krate) p) places)

stands : (krate : CrateTree) (line : ScriptLine) (s : Statement) (place : Place) (o : Option RegisterAt) (standing : Standing) (outcome : ActsAt → Outcome) → line.statement ≡ s → o ≡ register_at krate place
    → at_place (text_at krate place) standing outcome ≡ outcome_of (text_at krate) standing s → at_place (option_map acts_at o) standing outcome ≡ outcome_of (text_at krate) standing line.statement
stands krate line s place o standing outcome is found same = ap (λ (o : Option RegisterAt). at_place (option_map acts_at o) standing outcome) found ∙ (same ∙ sym (ap (outcome_of (text_at krate) standing) is))

-- a statement that calls a register that was found, or none that is there
pub as_let : (krate : CrateTree) (line : ScriptLine) (name : List ℕ) (place : Place) (o : Option RegisterAt) → line.statement ≡ statement.Let name place → IsCalled krate line.statement o
    → (answers : List ℕ) (names : List Bound) → at_place (option_map acts_at o) (standing_of answers names) (let_outcome name (standing_of answers names)) ≡ outcome_at krate answers names line
unfolding outcome_of
as_let krate line name place o is calls answers names =
    stands krate line (statement.Let name place) place o (standing_of answers names) (let_outcome name (standing_of answers names)) is (here krate line (statement.Let name place) place o is refl calls) refl

pub as_write : (krate : CrateTree) (line : ScriptLine) (place : Place) (chain : List Link) (o : Option RegisterAt) → line.statement ≡ statement.Write place chain → IsCalled krate line.statement o
    → (answers : List ℕ) (names : List Bound) → at_place (option_map acts_at o) (standing_of answers names) (λ found. write_outcome chain (standing_of answers names) found (found.acts.start found.acts.reset)) ≡ outcome_at krate answers names line
unfolding outcome_of
as_write krate line place chain o is calls answers names =
    stands krate line (statement.Write place chain) place o (standing_of answers names) (λ found. write_outcome chain (standing_of answers names) found (found.acts.start found.acts.reset)) is (here krate line (statement.Write place chain) place o is refl calls) refl

pub as_write_with_zero : (krate : CrateTree) (line : ScriptLine) (place : Place) (chain : List Link) (o : Option RegisterAt) → line.statement ≡ statement.WriteWithZero place chain → IsCalled krate line.statement o
    → (answers : List ℕ) (names : List Bound) → at_place (option_map acts_at o) (standing_of answers names) (λ found. write_outcome chain (standing_of answers names) found 0) ≡ outcome_at krate answers names line
unfolding outcome_of
as_write_with_zero krate line place chain o is calls answers names =
    stands krate line (statement.WriteWithZero place chain) place o (standing_of answers names) (λ found. write_outcome chain (standing_of answers names) found 0) is (here krate line (statement.WriteWithZero place chain) place o is refl calls) refl

pub as_modify : (krate : CrateTree) (line : ScriptLine) (place : Place) (names_reader : Bool) (chain : List Link) (o : Option RegisterAt) → line.statement ≡ statement.Modify place names_reader chain → IsCalled krate line.statement o
    → (answers : List ℕ) (names : List Bound) → at_place (option_map acts_at o) (standing_of answers names) (modify_outcome names_reader chain (standing_of answers names)) ≡ outcome_at krate answers names line
unfolding outcome_of
as_modify krate line place names_reader chain o is calls answers names =
    stands krate line (statement.Modify place names_reader chain) place o (standing_of answers names) (modify_outcome names_reader chain (standing_of answers names)) is (here krate line (statement.Modify place names_reader chain) place o is refl calls) refl

pub as_reset : (krate : CrateTree) (line : ScriptLine) (place : Place) (o : Option RegisterAt) → line.statement ≡ statement.Reset place → IsCalled krate line.statement o
    → (answers : List ℕ) (names : List Bound) → at_place (option_map acts_at o) (standing_of answers names) (reset_outcome (standing_of answers names)) ≡ outcome_at krate answers names line
unfolding outcome_of
as_reset krate line place o is calls answers names =
    stands krate line (statement.Reset place) place o (standing_of answers names) (reset_outcome (standing_of answers names)) is (here krate line (statement.Reset place) place o is refl calls) refl

pub as_say : (krate : CrateTree) (line : ScriptLine) (value : Value) → line.statement ≡ statement.Say value → (answers : List ℕ) (names : List Bound) → say_outcome value (standing_of answers names) ≡ outcome_at krate answers names line
unfolding outcome_of
as_say krate line value is answers names = sym (ap (outcome_of (text_at krate) (standing_of answers names)) is)

pub none_said : (krate : CrateTree) (line : ScriptLine) (value : Value) → line.statement ≡ statement.Say value → [] ≡ dues_of krate line
none_said krate line value is = sym (ap (λ s. dues_at (option_and_then (register_at krate) (called s)) (line_dues line)) is)

pub dues_found : (krate : CrateTree) (line : ScriptLine) (s : Statement) (found : RegisterAt) → line.statement ≡ s → IsCalled krate line.statement (Some found) → map (λ role. record { role = role; line = line.line }) (roles_of s) ≡ dues_of krate line
dues_found = dues_here

-- nothing is done where no register is there
pub nothing_grows : (krate : CrateTree) (line : ScriptLine) (old : Lowering) → IsFew old → IsCalled krate line.statement None
    → ((answers : List ℕ) (names : List Bound) → record { events = []; after = standing_of answers names } ≡ outcome_at krate answers names line) → Grows old old (λ answers names. outcome_at krate answers names line) (dues_of krate line)
unfolding deeds_dues
nothing_grows krate line old few calls same = record {
  more = [];
  deeds = sym (append-nil old.deeds.items);
  does = λ words answers names count knows. subst (λ (out : Outcome). Does words answers out [] (finds_bound old.bound) old.reads) (same answers names) (nothing_does words answers names (finds_bound old.bound) old.reads count knows);
  due = ap (λ (o : Option RegisterAt). dues_at o (line_dues line)) calls;
  few = few;
}
