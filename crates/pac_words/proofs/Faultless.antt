-- Words without a fault ask for a command.
use Rattle.std.proofs.Common.{◌≡◌, ap, ap₂, sym, refl, subst, Option, Some, None, List, [], ◌∷◌, Bool, true, false, ◌∙◌, codes, find, not, ◌&&◌, ◌||◌, if◌then◌else◌, is_some, option_map, option_and_then}
use Rattle.std.specs.Bool.{⊤, IsTrue}
use Rattle.std.specs.List.{list_any}
use Rattle.std.specs.Option.{IsSome, option_map_or}
use Rattle.std.specs.Str.{bytes_eq}
use Rattle.std.proofs.lemmas.Slice.Eq.{bytes_eq-Decides}
use Rattle.clap.specs.Words.{Row, Rule, Shape, Text, fault_of, first_of, subcommand_of}
use Rattle.clap.specs.Kinds.{Kinds, check_kinds, or_else}
use Rattle.clap.specs.Faults.{check_fault, defaults_fault, entered_fault, level_fault, settle_fault, walk_fault}
use Rattle.clap.specs.Takes.{is_given}
use Rattle.clap.specs.Walk.{Names, answers_to, finished, nothing_held, rows_after, settled, walk, walk_from}
use Rattle.clap.specs.Simple.{built, entered, label_of, names_of, rows_at}
use Rattle.pac_words.proofs.Filled.{HavePlaces, given_value, rows_after_full}
use Rattle.pac_words.specs.Table.{table}
use Rattle.pac_words.specs.Commands.{NamesBus, bus_of, chosen, command_of, executing, generating, is_set, listing, run_of, running, runs_script, sampling, source_of, without_fault, told}
use Rattle.pac_words.specs.declared.command.BusKind.{BusKind}
use Rattle.pac_words.specs.declared.command.Command.TheVariants.{Executing, Running, Sampling}
use Rattle.pac_words.specs.declared.command.Run.{Run}
use Rattle.pac_words.specs.declared.command.Source.{Source}

later : (a b : Kinds) → or_else a b ≡ [] → b ≡ []
later [] b none = none
later (k ∷ ks) b none = absurd (cc none)

sooner : (a b : Kinds) → or_else a b ≡ [] → a ≡ []
sooner [] b none = refl
sooner (k ∷ ks) b none = absurd (cc none)

checked : (a b c : Bool) → check_kinds a b c ≡ [] → (b ≡ false) × (c ≡ false)
checked true b c none = absurd (cc none)
checked false true c none = absurd (cc none)
checked false false true none = absurd (cc none)
checked false false false none = (refl, refl)

-- some rule of this id is required
abbrev pub IsDemanded : Text → List Rule → Type 0
IsDemanded id rules = list_any (λ a. a.required && bytes_eq a.id id) rules ≡ true

given_at : (required same : Bool) (key id : Text) (rows : List Row) (others rest : Bool) → bytes_eq key id ≡ same → (others ≡ true → rest ≡ false → is_given id rows ≡ true)
    → ((required && same) || others) ≡ true → ((required && not (is_given key rows)) || rest) ≡ false → is_given id rows ≡ true
given_at true true key id rows others rest is more some none = go (is_given key rows) refl none
  where
    go : (b : Bool) → is_given key rows ≡ b → (not b || rest) ≡ false → is_given id rows ≡ true
    go true given held = ap (λ k. is_given k rows) (sym ((bytes_eq-Decides key id).0 is)) ∙ given
    go false given held = absurd (cc held)
given_at true false key id rows others rest is more some none = go (is_given key rows) none
  where
    go : (b : Bool) → (not b || rest) ≡ false → is_given id rows ≡ true
    go true held = more some held
    go false held = absurd (cc held)
given_at false same key id rows others rest is more some none = more some none

given_all : (id : Text) (rules : List Rule) (rows : List Row) → IsDemanded id rules
    → list_any (λ a. a.required && not (is_given a.id rows)) rules ≡ false → is_given id rows ≡ true
given_all id [] rows some none = absurd (cc some)
given_all id (a ∷ rules) rows some none =
    given_at a.required (bytes_eq a.id id) a.id id rows (list_any (λ a. a.required && bytes_eq a.id id) rules)
    (list_any (λ a. a.required && not (is_given a.id rows)) rules) refl (given_all id rules rows) some none

-- the last check of a level passes
check_passes : (s : Shape) (names : Names) (words : List Text) (has : Bool) (below : Kinds) → level_fault s names nothing_held words has below ≡ []
    → check_fault s (rows_after s.rules names words) has ≡ []
check_passes s names words has below none =
    let end = (walk s.rules names nothing_held words).held in
    let settles = settle_fault s.rules s.args_override_self end in
    let fills = defaults_fault (settled s.rules end).rows s.rules in
    let checks = check_fault s (finished s.rules end) has in
    later fills checks (later settles (or_else fills checks)
    (later below (or_else settles (or_else fills checks))
    (later (walk_fault s names (walk_from nothing_held) words) (or_else below (or_else settles (or_else fills checks))) none)))

below_passes : (s : Shape) (names : Names) (words : List Text) (has : Bool) (below : Kinds) → level_fault s names nothing_held words has below ≡ [] → below ≡ []
below_passes s names words has below none =
    let end = (walk s.rules names nothing_held words).held in
    let rest = or_else (settle_fault s.rules s.args_override_self end)
    (or_else (defaults_fault (settled s.rules end).rows s.rules) (check_fault s (finished s.rules end) has)) in
    sooner below rest (later (walk_fault s names (walk_from nothing_held) words) (or_else below rest) none)

-- a required argument with a place has a value where a subcommand has no fault
pub leaf_value : (s : Shape) (id : Text) (words : List Text) → HavePlaces id s.rules → IsDemanded id s.rules → s.subcommand_negates_reqs ≡ false
    → level_fault s [] nothing_held words false [] ≡ [] → IsSome (first_of id (rows_after s.rules [] words))
leaf_value s id words places demanded strict none =
    let rows = rows_after s.rules [] words in
    let asks = list_any (λ a. a.required && not (is_given a.id rows)) s.rules in
    let last : (not (s.subcommand_negates_reqs && false) && asks) ≡ false = (checked _ _ _ (check_passes s [] words false [] none)).1 in
    let all : asks ≡ false = ap (λ b. not (b && false) && asks) (sym strict) ∙ last in
    given_value id rows (rows_after_full id s.rules [] words places) (given_all id s.rules rows demanded all)

-- a subcommand that is found has what each has
abbrev pub Each : (Shape → Type 0) → List Shape → Type 0
Each P [] = ⊤
Each P (s ∷ subs) = P s × Each P subs

abbrev pub OnFound : (Shape → Type 0) → Option Shape → Type 0
OnFound P None = ⊤
OnFound P (Some s) = P s

found : (P : Shape → Type 0) (test : Shape → Bool) (subs : List Shape) → Each P subs → OnFound P (find test subs)
found P test [] each = tt
found P test (s ∷ subs) each = go (test s) (find test subs) (found P test subs each.1)
  where
    go : (b : Bool) (rest : Option Shape) → OnFound P rest → OnFound P (if b then Some s else rest)
    go true rest held = each.0
    go false rest held = held

-- `--bus` names a bus among what was found for a command of this name, where that runs a script
abbrev Named : Text → List Row → Type 0
Named name rows = IsTrue (not (runs_script name) || is_some (bus_of rows))

abbrev Tells : Shape → Type 0
Tells s = (words : List Text) → level_fault s [] nothing_held words false [] ≡ [] → Named s.name (rows_after s.rules [] words) → IsSome (told s.name (rows_after s.rules [] words))

mapped : {X Y : Type 0} (f : X → Y) (o : Option X) → IsSome o → IsSome (option_map f o)
mapped f None some = absurd (cc some)
mapped f (Some x) some = refl

bound : {X Y : Type 0} (f : X → Option Y) (o : Option X) → ((x : X) → IsSome (f x)) → IsSome o → IsSome (option_and_then f o)
bound f None all some = absurd (cc some)
bound f (Some x) all some = all x

abbrev source_named : List Row → Text → Source
source_named rows svd = record { svd = svd; patch = first_of (codes "patch") rows; strict = is_set (codes "strict") rows }

abbrev run_over : Text → BusKind → Run
run_over script bus = record { script = script; bus = bus }

-- a script and its bus are there
run_there : (rows : List Row) → IsSome (bus_of rows) → IsSome (first_of (codes "script") rows) → IsSome (run_of rows)
run_there rows named some =
    bound (λ (script : Text). option_map (λ (bus : BusKind). run_over script bus) (bus_of rows)) (first_of (codes "script") rows)
    (λ script. mapped (λ (bus : BusKind). run_over script bus) (bus_of rows) named) some

-- `exec` with its files and its bus is a command
exec_tells : (s : Shape) (words : List Text) → s.name ≡ codes "exec" → HavePlaces (codes "crate") s.rules → IsDemanded (codes "crate") s.rules
    → HavePlaces (codes "script") s.rules → IsDemanded (codes "script") s.rules → s.subcommand_negates_reqs ≡ false
    → level_fault s [] nothing_held words false [] ≡ [] → Named s.name (rows_after s.rules [] words) → IsSome (told s.name (rows_after s.rules [] words))
exec_tells s words name crate_place crate_demanded script_place script_demanded strict none named =
    let rows = rows_after s.rules [] words in
    let bus : IsSome (bus_of rows) = subst (λ (n : Text). Named n rows) name named in
    let run : IsSome (run_of rows) = run_there rows bus (leaf_value s (codes "script") words script_place script_demanded strict none) in
    subst (λ (n : Text). IsSome (told n rows)) (sym name)
    (bound (λ (krate : Text). option_map (λ (of : Run). Executing krate of) (run_of rows)) (first_of (codes "crate") rows)
    (λ krate. mapped (λ (of : Run). Executing krate of) (run_of rows) run) (leaf_value s (codes "crate") words crate_place crate_demanded strict none))

-- so is `run`
run_tells : (s : Shape) (words : List Text) → s.name ≡ codes "run" → HavePlaces (codes "svd") s.rules → IsDemanded (codes "svd") s.rules
    → HavePlaces (codes "script") s.rules → IsDemanded (codes "script") s.rules → s.subcommand_negates_reqs ≡ false
    → level_fault s [] nothing_held words false [] ≡ [] → Named s.name (rows_after s.rules [] words) → IsSome (told s.name (rows_after s.rules [] words))
run_tells s words name svd_place svd_demanded script_place script_demanded strict none named =
    let rows = rows_after s.rules [] words in
    let bus : IsSome (bus_of rows) = subst (λ (n : Text). Named n rows) name named in
    let run : IsSome (run_of rows) = run_there rows bus (leaf_value s (codes "script") words script_place script_demanded strict none) in
    let source : IsSome (source_of rows) = mapped (λ (svd : Text). source_named rows svd) (first_of (codes "svd") rows) (leaf_value s (codes "svd") words svd_place svd_demanded strict none) in
    subst (λ (n : Text). IsSome (told n rows)) (sym name)
    (bound (λ (source : Source). option_map (λ (of : Run). Running source of) (run_of rows)) (source_of rows)
    (λ source. mapped (λ (of : Run). Running source of) (run_of rows) run) source)

-- and `sample` with its two words
sample_tells : (s : Shape) (words : List Text) → s.name ≡ codes "sample" → HavePlaces (codes "number") s.rules → IsDemanded (codes "number") s.rules
    → HavePlaces (codes "count") s.rules → IsDemanded (codes "count") s.rules → s.subcommand_negates_reqs ≡ false
    → level_fault s [] nothing_held words false [] ≡ [] → IsSome (told s.name (rows_after s.rules [] words))
sample_tells s words name number_place number_demanded count_place count_demanded strict none =
    let rows = rows_after s.rules [] words in
    subst (λ (n : Text). IsSome (told n rows)) (sym name)
    (bound (λ (number : Text). option_map (λ (count : Text). Sampling number count) (first_of (codes "count") rows)) (first_of (codes "number") rows)
    (λ number. mapped (λ (count : Text). Sampling number count) (first_of (codes "count") rows) (leaf_value s (codes "count") words count_place count_demanded strict none))
    (leaf_value s (codes "number") words number_place number_demanded strict none))

each_tells : Each Tells (built table).subs
each_tells = (
  (λ words none named. mapped _ _ (mapped _ _ (leaf_value _ (codes "svd") words refl refl refl none))),
  (
    (λ words none named. mapped _ _ (mapped _ _ (leaf_value _ (codes "svd") words refl refl refl none))),
    (
      (λ words none named. exec_tells _ words refl refl refl refl refl refl none named),
      (
        (λ words none named. run_tells _ words refl refl refl refl refl refl none named),
        ((λ words none named. sample_tells _ words refl refl refl refl refl refl none), tt),
      ),
    ),
  ),
)

abbrev NamedIn : Option (Text × List Row) → Type 0
NamedIn met = IsTrue (option_map_or (λ pair. not (runs_script pair.0) || is_some (bus_of pair.1)) met true)

by_stop : (stop : Option (Text × List Text)) → is_some (entered (built table) stop) ≡ true → entered_fault (built table) stop ≡ []
    → NamedIn (entered (built table) stop) → IsSome (chosen (entered (built table) stop))
by_stop None some none named = absurd (cc some)
by_stop (Some p) some none named = go (find (λ s. answers_to p.0 (label_of s)) (built table).subs) (found Tells (λ s. answers_to p.0 (label_of s)) (built table).subs each_tells) some none named
  where
    go : (o : Option Shape) → OnFound Tells o → is_some (option_map (λ s. rows_at s p.1) o) ≡ true
        → option_map_or (λ s. level_fault s [] nothing_held p.1 false []) o [] ≡ [] → NamedIn (option_map (λ s. rows_at s p.1) o)
        → IsSome (chosen (option_map (λ s. rows_at s p.1) o))
    go None tells some none named = absurd (cc some)
    go (Some s) tells some none named = tells p.1 none named

present : (b : Bool) → (not b && true) ≡ false → b ≡ true
present true held = refl
present false held = absurd (cc held)

-- where a subcommand is required, one was met
has_met : (s : Shape) (rows : List Row) (has : Bool) → s.subcommand_required ≡ true → check_fault s rows has ≡ [] → has ≡ true
has_met s rows has required none = present has (ap (λ b. not has && b) (sym required) ∙ (checked _ _ _ none).0)

-- words in which `clap` finds no fault, and whose `--bus` names a bus, ask for a command
pub faultless : (words : List Text) → fault_of table words ≡ [] → NamesBus words → IsSome (command_of words)
unfolding command_of
faultless words none named =
    let a = built table in
    let stop = (walk a.top.rules (names_of a) nothing_held words).stopped in
    let has = is_some (entered a stop) in
    let below = entered_fault a stop in
    let met : has ≡ true = has_met a.top (rows_after a.top.rules (names_of a) words) has refl (check_passes a.top (names_of a) words has below none) in
    ap (λ kinds. is_some (without_fault kinds (chosen (subcommand_of table words)))) none
    ∙ by_stop stop met (below_passes a.top (names_of a) words has below none) named

-- a script and its bus are there only where the bus is
run_named : (script : Option Text) (bus : Option BusKind) → IsSome (option_and_then (λ name. option_map (λ kind. run_over name kind) bus) script) → IsSome bus
run_named None bus some = absurd (cc some)
run_named (Some name) None some = absurd (cc some)
run_named (Some name) (Some kind) some = refl

executing_named : (rows : List Row) (krate : Option Text) (run : Option Run) → run_of rows ≡ run → IsSome (option_and_then (λ name. option_map (λ of. Executing name of) run) krate) → IsSome (bus_of rows)
executing_named rows None run is some = absurd (cc some)
executing_named rows (Some name) None is some = absurd (cc some)
executing_named rows (Some name) (Some of) is some = run_named (first_of (codes "script") rows) (bus_of rows) (ap is_some is)

running_named : (rows : List Row) (source : Option Source) (run : Option Run) → run_of rows ≡ run → IsSome (option_and_then (λ of. option_map (λ with. Running of with) run) source) → IsSome (bus_of rows)
running_named rows None run is some = absurd (cc some)
running_named rows (Some source) None is some = absurd (cc some)
running_named rows (Some source) (Some of) is some = run_named (first_of (codes "script") rows) (bus_of rows) (ap is_some is)

either_named : (one other named : Bool) → named ≡ true → (not (one || other) || named) ≡ true
either_named true other true is = refl
either_named false true true is = refl
either_named false false named is = refl
either_named one other false is = absurd (cc is)

-- a command that runs a script has a bus
told_named : (name : Text) (rows : List Row) → IsSome (told name rows) → Named name rows
told_named name rows some = at_list (bytes_eq name (codes "list")) refl some
  where
    has_bus : IsSome (bus_of rows) → Named name rows
    has_bus bus = either_named (bytes_eq name (codes "exec")) (bytes_eq name (codes "run")) (is_some (bus_of rows)) bus

    same : (word : Text) → bytes_eq name word ≡ true → runs_script word ≡ false → Named name rows
    same word is other = ap (λ b. not b || is_some (bus_of rows)) (ap runs_script ((bytes_eq-Decides name word).0 is) ∙ other)

    neither : (one other : Bool) → one ≡ false → other ≡ false → (not (one || other) || is_some (bus_of rows)) ≡ true
    neither one other first second = ap₂ (λ a b. not (a || b) || is_some (bus_of rows)) first second

    at_run : (b : Bool) → bytes_eq name (codes "exec") ≡ false → bytes_eq name (codes "run") ≡ b → IsSome (if b then running rows else (if bytes_eq name (codes "sample") then sampling rows else None)) → Named name rows
    at_run true before is some = has_bus (running_named rows (source_of rows) (run_of rows) refl some)
    at_run false before is some = neither (bytes_eq name (codes "exec")) (bytes_eq name (codes "run")) before is

    at_exec : (b : Bool) → bytes_eq name (codes "exec") ≡ b → IsSome (if b then executing rows else (if bytes_eq name (codes "run") then running rows else (if bytes_eq name (codes "sample") then sampling rows else None))) → Named name rows
    at_exec true is some = has_bus (executing_named rows (first_of (codes "crate") rows) (run_of rows) refl some)
    at_exec false is some = at_run (bytes_eq name (codes "run")) is refl some

    at_generate : (b : Bool) → bytes_eq name (codes "generate") ≡ b
        → IsSome (if b then generating rows else (if bytes_eq name (codes "exec") then executing rows else (if bytes_eq name (codes "run") then running rows else (if bytes_eq name (codes "sample") then sampling rows else None)))) → Named name rows
    at_generate true is some = same (codes "generate") is refl
    at_generate false is some = at_exec (bytes_eq name (codes "exec")) refl some

    at_list : (b : Bool) → bytes_eq name (codes "list") ≡ b
        → IsSome (if b then listing rows else (if bytes_eq name (codes "generate") then generating rows else (if bytes_eq name (codes "exec") then executing rows else (if bytes_eq name (codes "run") then running rows else (if bytes_eq name (codes "sample") then sampling rows else None))))) → Named name rows
    at_list true is some = same (codes "list") is refl
    at_list false is some = at_generate (bytes_eq name (codes "generate")) refl some

chosen_named : (met : Option (Text × List Row)) → IsSome (chosen met) → NamedIn met
chosen_named None some = absurd (cc some)
chosen_named (Some pair) some = told_named pair.0 pair.1 some

no_kinds : {X : Type 0} (kinds : Kinds) (given : Option X) → IsSome (without_fault kinds given) → (kinds ≡ []) × IsSome given
no_kinds [] given some = (refl, some)
no_kinds (k ∷ kinds) given some = absurd (cc some)

-- and only such words do
pub only_faultless : (words : List Text) → IsSome (command_of words) → (fault_of table words ≡ []) × NamesBus words
unfolding command_of
only_faultless words some =
    let both = no_kinds (fault_of table words) (chosen (subcommand_of table words)) some in
    (both.0, chosen_named (subcommand_of table words) both.1)
