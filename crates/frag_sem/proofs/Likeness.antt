-- Where registers do alike, scripts mean the same.
use Rattle.std.proofs.Common.{ℕ, ◌≡◌, ◌^◌, ◌<◌, Bool, true, false, cond, List, [], ◌∷◌, ◌++◌, drop, filter_map, Option, Some, None, option_map, bytes_eq, refl, ap, ap₂, ◌∙◌}
use Rattle.std.specs.Prelude.{⊤}
use Rattle.std.specs.List.{cons_option}
use Rattle.pac_base.specs.Widths.{bits_of}
use Rattle.frag_tree.specs.declared.event.Event.TheVariants as event
use Rattle.frag_tree.specs.declared.event.Said.TheVariants.{Number}
use Rattle.frag_tree.specs.declared.script.ScriptLine.{ScriptLine}
use Rattle.frag_tree.specs.declared.statement.Atom.{Atom}
use Rattle.frag_tree.specs.declared.statement.Atom.TheVariants as atom
use Rattle.frag_tree.specs.declared.statement.Call.{Call}
use Rattle.frag_tree.specs.declared.statement.Link.{Link}
use Rattle.frag_tree.specs.declared.statement.Link.TheVariants as link
use Rattle.frag_tree.specs.declared.statement.Place.{Place}
use Rattle.frag_tree.specs.declared.statement.Source.{Source}
use Rattle.frag_tree.specs.declared.statement.Source.TheVariants as source
use Rattle.frag_tree.specs.declared.statement.Statement.{Statement}
use Rattle.frag_tree.specs.declared.statement.Statement.TheVariants as statement
use Rattle.frag_tree.specs.declared.statement.Value.{Value}
use Rattle.frag_sem.specs.PreludeWords.{as_bits}
use Rattle.frag_sem.specs.ScriptTyping.{reader_name}
use Rattle.frag_sem.specs.Presets.{called_places, preset_of, presets}
use Rattle.frag_sem.proofs.KeptWords.{link_small}
use Rattle.frag_sem.proofs.Words.{answer_small, some_power}
use Rattle.frag_sem.specs.Laws.{AlikeMean, AlikePreset}
use Rattle.frag_sem.specs.Likeness.{Alike, AlikePlaces, BothAlike, SamePlace}
use Rattle.frag_sem.specs.Meaning.{Acts, ActsAt, Bound, Outcome, Places, Standing, answer_for, argument, at_place, atom_value, bits_of_bound, bound_as, chain_written, field_of_bound, let_outcome, lines_meaning, link_written, meaning, modify_outcome, names_within, negated, next_answer, number_said, outcome_of, reset_outcome, source_value, value_of, write_outcome}

-- ---- bound names

record AlikeBound (one other : Bound) : Type 0 where
  name : one.name ≡ other.name
  word : one.word ≡ other.word
  is_word : one.word < 2 ^ bits_of one.acts.width
  acts : Alike one.acts other.acts

abbrev AlikeNames : List Bound → List Bound → Type 0
AlikeNames [] [] = ⊤
AlikeNames [] (y ∷ ys) = ⊥
AlikeNames (x ∷ xs) [] = ⊥
AlikeNames (x ∷ xs) (y ∷ ys) = AlikeBound x y × AlikeNames xs ys

abbrev BothBound : Option Bound → Option Bound → Type 0
BothBound None None = ⊤
BothBound None (Some y) = ⊥
BothBound (Some x) None = ⊥
BothBound (Some x) (Some y) = AlikeBound x y

first_bound : (b c : Bool) → b ≡ c → (x y : Bound) → AlikeBound x y → (o p : Option Bound) → BothBound o p → BothBound (cond b (Some x) o) (cond c (Some y) p)
first_bound true true e x y h o p more = h
first_bound true false e x y h o p more = absurd cc
first_bound false true e x y h o p more = absurd cc
first_bound false false e x y h o p more = more

both_bound : (name : List ℕ) (xs ys : List Bound) → AlikeNames xs ys → BothBound (bound_as name xs) (bound_as name ys)
both_bound name [] [] h = tt
both_bound name [] (y ∷ ys) h = absurd h
both_bound name (x ∷ xs) [] h = absurd h
both_bound name (x ∷ xs) (y ∷ ys) h =
    first_bound (bytes_eq name x.name) (bytes_eq name y.name) (ap (bytes_eq name) h.0.name) x y h.0 (bound_as name xs) (bound_as name ys) (both_bound name xs ys h.1)

-- ---- values

bits_same : (o p : Option Bound) → BothBound o p → bits_of_bound o ≡ bits_of_bound p
bits_same None None h = refl
bits_same None (Some y) h = absurd h
bits_same (Some x) None h = absurd h
bits_same (Some x) (Some y) h = ap Number h.word

field_same : (field : Call) (method : List ℕ) (o p : Option Bound) → BothBound o p → field_of_bound field method o ≡ field_of_bound field method p
field_same field method None None h = refl
field_same field method None (Some y) h = absurd h
field_same field method (Some x) None h = absurd h
field_same field method (Some x) (Some y) h = h.acts.given field.name field.index method x.word h.is_word ∙ ap (y.acts.given field.name field.index method) h.word

source_same : (xs ys : List Bound) → AlikeNames xs ys → (read : Source) → source_value xs read ≡ source_value ys read
source_same xs ys h (source.Bits reader) = bits_same (bound_as reader xs) (bound_as reader ys) (both_bound reader xs ys h)
source_same xs ys h (source.Field reader field method) = field_same field method (bound_as reader xs) (bound_as reader ys) (both_bound reader xs ys h)

atom_same : (xs ys : List Bound) → AlikeNames xs ys → (a : Atom) → atom_value xs a ≡ atom_value ys a
atom_same xs ys h (atom.Number value) = refl
atom_same xs ys h (atom.Truth value) = refl
atom_same xs ys h (atom.Source read) = source_same xs ys h read
atom_same xs ys h (atom.Cast read width) = ap (λ said. Number (as_bits (bits_of width) (number_said said))) (source_same xs ys h read)

value_same : (xs ys : List Bound) → AlikeNames xs ys → (value : Value) → value_of xs value ≡ value_of ys value
unfolding value_of
value_same xs ys h value = ap (negated value.negations) (atom_same xs ys h value.atom)

argument_same : (xs ys : List Bound) → AlikeNames xs ys → (o : Option Value) → argument xs o ≡ argument ys o
argument_same xs ys h None = refl
argument_same xs ys h (Some value) = ap number_said (value_same xs ys h value)

-- ---- chains

link_same : (one other : Acts) → Alike one other → (xs ys : List Bound) → AlikeNames xs ys → (word : ℕ) → word < 2 ^ bits_of one.width → (l : Link) → link_written one xs word l ≡ link_written other ys word l
link_same one other alike xs ys h word small (link.Bits value) = ap₂ (λ width said. as_bits (bits_of width) (number_said said)) alike.width (value_same xs ys h value)
link_same one other alike xs ys h word small (link.Field field method value) =
    alike.put field.name field.index method (argument xs value) word small ∙ ap (λ v. other.put field.name field.index method v word) (argument_same xs ys h value)

chain_same : (one other : Acts) → Alike one other → (xs ys : List Bound) → AlikeNames xs ys → (word : ℕ) → word < 2 ^ bits_of one.width → (chain : List Link) → chain_written one xs word chain ≡ chain_written other ys word chain
chain_same one other alike xs ys h word small [] = refl
chain_same one other alike xs ys h word small (l ∷ chain) =
    chain_same one other alike xs ys h (link_written one xs word l) (link_small one alike.keeps xs word l small) chain
    ∙ ap (λ w. chain_written other ys w chain) (link_same one other alike xs ys h word small l)

-- ---- statements

record AlikeStanding (one other : Standing) : Type 0 where
  answers : one.answers ≡ other.answers
  names : AlikeNames one.names other.names

record AlikeOutcome (one other : Outcome) : Type 0 where
  events : one.events ≡ other.events
  after : AlikeStanding one.after other.after

at_same : (o p : Option ActsAt) → BothAlike o p → (s t : Standing) → AlikeStanding s t → (f g : ActsAt → Outcome) → ((x y : ActsAt) → SamePlace x y → AlikeOutcome (f x) (g y)) → AlikeOutcome (at_place o s f) (at_place p t g)
unfolding BothAlike
at_same None None h s t st f g each = record { events = refl; after = st }
at_same None (Some y) h s t st f g each = absurd h
at_same (Some x) None h s t st f g each = absurd h
at_same (Some x) (Some y) h s t st f g each = each x y h

module _ (x y : ActsAt) (same : SamePlace x y) (s t : Standing) (st : AlikeStanding s t) where
  answer_same : answer_for x s ≡ answer_for y t
  answer_same = ap₂ (λ width answers. next_answer (bits_of width) answers) same.acts.width st.answers

  read_small : answer_for x s < 2 ^ bits_of x.acts.width
  read_small = answer_small (bits_of x.acts.width) s.answers

  read_same : event.Read x.address x.acts.width (answer_for x s) ≡ event.Read y.address y.acts.width (answer_for y t)
  read_same = λ i. event.Read (same.address i) (same.acts.width i) (answer_same i)

  write_same : (v w : ℕ) → v ≡ w → event.Write x.address x.acts.width v ≡ event.Write y.address y.acts.width w
  write_same v w e = λ i. event.Write (same.address i) (same.acts.width i) (e i)

  bound_here : (name : List ℕ) → AlikeBound (record { name = name; acts = x.acts; word = answer_for x s }) (record { name = name; acts = y.acts; word = answer_for y t })
  bound_here name = record { name = refl; word = answer_same; is_word = read_small; acts = same.acts }

  let_same : (name : List ℕ) → AlikeOutcome (let_outcome name s x) (let_outcome name t y)
  let_same name = record {
    events = ap (λ e. e ∷ []) read_same;
    after = record { answers = ap (drop 1) st.answers; names = (bound_here name, st.names) };
  }

  put_same : (chain : List Link) (v w : ℕ) → v < 2 ^ bits_of x.acts.width → v ≡ w → AlikeOutcome (write_outcome chain s x v) (write_outcome chain t y w)
  put_same chain v w small e = record {
    events = ap (λ e. e ∷ []) (write_same _ _ (chain_same x.acts y.acts same.acts s.names t.names st.names v small chain ∙ ap (λ w. chain_written y.acts t.names w chain) e));
    after = st;
  }

  within_same : (names_reader : Bool) → AlikeNames (names_within names_reader x (answer_for x s) s.names) (names_within names_reader y (answer_for y t) t.names)
  within_same true = (bound_here reader_name, st.names)
  within_same false = st.names

  modify_same : (names_reader : Bool) (chain : List Link) → AlikeOutcome (modify_outcome names_reader chain s x) (modify_outcome names_reader chain t y)
  modify_same names_reader chain = record {
    events = ap₂ (λ e f. e ∷ f ∷ []) read_same (write_same _ _
        (chain_same x.acts y.acts same.acts (names_within names_reader x (answer_for x s) s.names) (names_within names_reader y (answer_for y t) t.names) (within_same names_reader) (x.acts.start (answer_for x s)) (same.acts.keeps.start (answer_for x s) read_small) chain
        ∙ ap (λ w. chain_written y.acts (names_within names_reader y (answer_for y t) t.names) w chain) (same.acts.start (answer_for x s) read_small ∙ ap y.acts.start answer_same)));
    after = record { answers = ap (drop 1) st.answers; names = st.names };
  }

  reset_same : AlikeOutcome (reset_outcome s x) (reset_outcome t y)
  reset_same = record { events = ap (λ e. e ∷ []) (write_same _ _ same.acts.reset); after = st }

outcome_same : (one other : Places) → AlikePlaces one other → (s t : Standing) → AlikeStanding s t → (said : Statement) → AlikeOutcome (outcome_of one s said) (outcome_of other t said)
unfolding outcome_of
outcome_same one other alike s t st (statement.Let name place) = at_same (one place) (other place) (alike place) s t st _ _ (λ x y same. let_same x y same s t st name)
outcome_same one other alike s t st (statement.Write place chain) =
    at_same (one place) (other place) (alike place) s t st _ _ (λ x y same. put_same x y same s t st chain (x.acts.start x.acts.reset) (y.acts.start y.acts.reset) (same.acts.keeps.start x.acts.reset same.acts.keeps.reset) (same.acts.start x.acts.reset same.acts.keeps.reset ∙ ap y.acts.start same.acts.reset))
outcome_same one other alike s t st (statement.WriteWithZero place chain) =
    at_same (one place) (other place) (alike place) s t st _ _ (λ x y same. put_same x y same s t st chain 0 0 (some_power (bits_of x.acts.width)) refl)
outcome_same one other alike s t st (statement.Modify place names_reader chain) = at_same (one place) (other place) (alike place) s t st _ _ (λ x y same. modify_same x y same s t st names_reader chain)
outcome_same one other alike s t st (statement.Reset place) = at_same (one place) (other place) (alike place) s t st _ _ (λ x y same. reset_same x y same s t st)
outcome_same one other alike s t st (statement.Say value) = record { events = ap (λ said. event.Say said ∷ []) (value_same s.names t.names st.names value); after = st }

-- ---- scripts

lines_same : (one other : Places) → AlikePlaces one other → (lines : List ScriptLine) (s t : Standing) → AlikeStanding s t → lines_meaning one lines s ≡ lines_meaning other lines t
unfolding lines_meaning
lines_same one other alike [] s t st = refl
lines_same one other alike (first ∷ others) s t st =
    let o = outcome_same one other alike s t st first.statement in
    ap₂ (λ xs ys. xs ++ ys) o.events (lines_same one other alike others (outcome_of one s first.statement).after (outcome_of other t first.statement).after o.after)

pub alike_mean : AlikeMean
unfolding meaning
alike_mean one other alike script answers = lines_same one other alike script.lines _ _ (record { answers = refl; names = tt })

preset_same : (o p : Option ActsAt) → BothAlike o p → option_map preset_of o ≡ option_map preset_of p
unfolding BothAlike
preset_same None None h = refl
preset_same None (Some y) h = absurd h
preset_same (Some x) None h = absurd h
preset_same (Some x) (Some y) h = λ i. Some (record { address = h.address i; width = h.acts.width i; value = h.acts.reset i })

presets_same : (one other : Places) → AlikePlaces one other → (places : List Place) → filter_map (λ place. option_map preset_of (one place)) places ≡ filter_map (λ place. option_map preset_of (other place)) places
presets_same one other alike [] = refl
presets_same one other alike (place ∷ places) = ap₂ cons_option (preset_same (one place) (other place) (alike place)) (presets_same one other alike places)

pub alike_preset : AlikePreset
unfolding presets
alike_preset one other alike script = presets_same one other alike (called_places script)
