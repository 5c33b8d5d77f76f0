-- From a plan to what is ready.
use Rattle.std.proofs.Common.{ℕ, ◌≡◌, ◌/◌, ◌≤◌, List, [], ◌∷◌, ◌++◌, drop, length, map, Option, Some, None, Ok, Err, Result, IfSome, refl, sym, ap, subst, ◌∙◌, arith}
use Rattle.std.specs.List.{AllByRecursion}
use Rattle.std.specs.Vec.{vec_capacity}
use Rattle.std.proofs.lemmas.List.{append-nil, map-append}
use Rattle.pac_base.specs.declared.memory.NoMemory.{NoMemory}
use Rattle.pac_base.specs.declared.width.Width.{Width}
use Rattle.pac_base.specs.declared.width.Width.TheVariants.{W8, W16, W32, W64}
use Rattle.pac_base.specs.Widths.{bits_of}
use Rattle.pac_bus.specs.Acts.{Act}
use Rattle.pac_bus.specs.Acts.Act.{sets}
use Rattle.pac_bus.specs.Answers.{Readies}
use Rattle.pac_bus.specs.Telling.{BusTold, Did}
use Rattle.pac_bus.specs.declared.access.Preset.{Preset}
use Rattle.pac_bus.proofs.Acting.{did_nothing, did_then}
use Rattle.frag_index.specs.Walks.{StartsBelow}
use Rattle.frag_tree.specs.declared.krate.Crate.{Crate}
use Rattle.frag_tree.specs.declared.script.Script.{Script}
use Rattle.frag_tree.specs.declared.statement.Place.{Place}
use Rattle.frag_tree.specs.Trees.{CrateTree, crate_tree}
use Rattle.frag_sem.specs.CallPlaces.{RegisterAt, bytes_of, register_at}
use Rattle.frag_sem.specs.CrateTyping.{CrateFits, EndsInRange}
use Rattle.frag_sem.specs.Laws.{AccessInRange}
use Rattle.frag_sem.specs.TextMeaning.{text_meaning, text_presets}
use Rattle.frag_sem.proofs.Events.{events_in_range, presets_in_range}
use Rattle.frag_eval.specs.declared.course.Course.{Course}
use Rattle.frag_eval.specs.declared.deed.Deed.{Deed}
use Rattle.frag_eval.specs.declared.deed.Deed.TheVariants as deed
use Rattle.frag_eval.specs.declared.plan.Plan.{Plan}
use Rattle.frag_eval.specs.Called.{IsHeld, SetSome, preset_seen}
use Rattle.frag_eval.specs.Courses.{AreLeft, IsReady}
use Rattle.frag_eval.specs.Deeds.{deeds_mean}
use Rattle.frag_eval.specs.Lowered.{AreAll}
use Rattle.frag_sem.specs.Meaning.{next_answer}
use Rattle.frag_eval.specs.Plans.{IsMadeReady, IsPlan, MakesReady}
use Rattle.frag_eval.specs.Prefixes.{accesses_in, reads_in}
use Rattle.frag_eval.specs.Preparing.{Prepared, Refused, set_by_all}
use Rattle.frag_eval.specs.Runs.{Readied}

-- ---- registers in range

some_bytes : (width : Width) → 1 ≤ bits_of width / 8
some_bytes W8 = omega arith
some_bytes W16 = omega arith
some_bytes W32 = omega arith
some_bytes W64 = omega arith

pub starts_below : (krate : CrateTree) → CrateFits krate → (place : Place) → StartsBelow (register_at krate place)
starts_below krate fits place = by (register_at krate place) (fits.address_range.ends place)
  where
    by : (o : Option RegisterAt) → IfSome o EndsInRange → StartsBelow o
    by None ends = tt
    by (Some found) ends = let some : 1 ≤ bytes_of found.register = some_bytes found.register.word in omega (arith, some, ends)

-- ---- presets

seen_sets : (presets : List Preset) → set_by_all (map preset_seen presets) ≡ map sets presets
seen_sets [] = refl
seen_sets (preset ∷ presets) = ap (λ (acts : List Act). sets preset ∷ acts) (seen_sets presets)

held_each : (presets : List Preset) → AllByRecursion (λ preset. AccessInRange preset.address preset.width preset.value) (map preset_seen presets) → AllByRecursion IsHeld presets
held_each [] held = tt
held_each (preset ∷ presets) held = (held.0, held_each presets held.1)

pub presets_held : (krate : CrateTree) (script : Script) (plan : Plan) → CrateFits krate → IsPlan krate script plan → AllByRecursion IsHeld plan.presets.items
presets_held krate script plan fits is =
    held_each plan.presets.items (subst (λ presets. AllByRecursion (λ preset. AccessInRange preset.address preset.width preset.value) presets) (sym is.presets) (presets_in_range krate fits.constants fits.address_range script))

-- ---- the bus

pub made_ready : (r : Result (Unit {0}) NoMemory) (old mid now : BusTold) (plan : Plan) (count : ℕ) → count ≡ length plan.deeds.items → Did old mid (map sets plan.presets.items) → Readies r mid now count → MakesReady r old now plan
made_ready (Ok done) old mid now plan count is preset ready = record {
  preset = subst (λ (acts : List Act). Did old now acts) (append-nil (map sets plan.presets.items)) (did_then old mid now (map sets plan.presets.items) [] preset ready.nothing);
  room = omega (arith, is, ready.enough);
}
made_ready (Err fault) old mid now plan count is preset ready = record {
  made = plan.presets.items;
  later = [];
  all = sym (append-nil plan.presets.items);
  preset = subst (λ (acts : List Act). Did old now acts) (append-nil (map sets plan.presets.items)) (did_then old mid now (map sets plan.presets.items) [] preset ready);
}

-- ---- what is ready

accesses_few : (deeds : List Deed) (words answers : List ℕ) → length (accesses_in (deeds_mean deeds words answers)) ≤ length deeds
unfolding deeds_mean
accesses_few [] words answers = omega arith
accesses_few (deed.Read at ∷ deeds) words answers =
    let more : length (accesses_in (deeds_mean deeds (words ++ next_answer (bits_of at.width) answers ∷ []) (drop 1 answers))) ≤ length deeds = accesses_few deeds (words ++ next_answer (bits_of at.width) answers ∷ []) (drop 1 answers) in
    omega (arith, more)
accesses_few (deed.Write at from puts ∷ deeds) words answers =
    let more : length (accesses_in (deeds_mean deeds words answers)) ≤ length deeds = accesses_few deeds words answers in
    omega (arith, more)
accesses_few (deed.Say value ∷ deeds) words answers =
    let more : length (accesses_in (deeds_mean deeds words answers)) ≤ length deeds = accesses_few deeds words answers in
    omega (arith, more)

pub ready_course : (course : Course) → CrateFits (crate_tree course.of.value) → course.next ≡ 0 → AreAll (crate_tree course.of.value) course.script course.deeds.items → course.words.items ≡ [] → length course.deeds.items ≤ vec_capacity course.words
    → course.made.list ≡ [] → length course.deeds.items ≤ course.made.spare → IsReady course
ready_course course fits next all no_words words_room none room =
    let krate = crate_tree course.of.value in
    let left : drop course.next course.deeds.items ≡ course.deeds.items = ap (λ (n : ℕ). drop n course.deeds.items) next in
    let from_none : AreLeft krate course.script [] course.deeds.items = record {
      meant = λ later. all.meant later;
      due = all.due;
      in_range = events_in_range krate fits.constants fits.address_range course.script;
    } in
    record {
      course_is = record {
        left = subst (λ (deeds : List Deed). AreLeft krate course.script course.made.list deeds) (sym left) (subst (λ events. AreLeft krate course.script events course.deeds.items) (sym none) from_none);
        words = no_words ∙ sym (ap reads_in none);
        few = omega (arith, next);
        room = omega (arith, ap length left, room);
        words_room = omega (arith, ap length left, ap length no_words, words_room);
      };
      none_made = none;
    }

pub prepared : (old now : BusTold) (krate : Crate) (script : Script) (plan : Plan) (ready : Readied) → IsPlan (crate_tree krate) script plan → IsMadeReady old now plan → ready.krate ≡ krate → ready.script ≡ script → Prepared old now krate script ready
prepared old now krate script plan ready is made of_crate of_script = record {
  of_crate = of_crate;
  of_script = of_script;
  preset = subst (λ (acts : List Act). Did old now acts) (sym (seen_sets plan.presets.items) ∙ ap set_by_all is.presets) made.preset;
  room = λ answers.
      let few : length (accesses_in (deeds_mean plan.deeds.items [] answers)) ≤ length plan.deeds.items = accesses_few plan.deeds.items [] answers in
      let same : length (accesses_in (text_meaning (crate_tree ready.krate) ready.script answers)) ≡ length (accesses_in (deeds_mean plan.deeds.items [] answers)) =
      ap (λ krate. length (accesses_in (text_meaning (crate_tree krate) ready.script answers))) of_crate
      ∙ (ap (λ script. length (accesses_in (text_meaning (crate_tree krate) script answers))) of_script
      ∙ ap (λ events. length (accesses_in events)) (is.deeds.meant answers)) in
      omega (arith, few, same, made.room);
}

pub refused : (old now : BusTold) (krate : Crate) (script : Script) (plan : Plan) → IsPlan (crate_tree krate) script plan → SetSome old now plan.presets.items → Refused old now krate script script
refused old now krate script plan is some = record {
  same = refl;
  made = map preset_seen some.made;
  later = map preset_seen some.later;
  first = sym is.presets ∙ (ap (map preset_seen) some.all ∙ map-append preset_seen some.made some.later);
  preset = subst (λ (acts : List Act). Did old now acts) (sym (seen_sets some.made)) some.preset;
}

pub unplanned : (told : BusTold) (krate : Crate) (script : Script) → Refused told told krate script script
unplanned told krate script = record { same = refl; made = []; later = text_presets (crate_tree krate) script; first = refl; preset = did_nothing told }

-- a plan of the same crate and the same script
pub plan_is : (krate lent : Crate) (script also : Script) (plan : Plan) → lent ≡ krate → also ≡ script → IsPlan (crate_tree lent) also plan → IsPlan (crate_tree krate) script plan
plan_is krate lent script also plan same one is = subst (λ (s : Script). IsPlan (crate_tree krate) s plan) one (subst (λ (k : Crate). IsPlan (crate_tree k) also plan) same is)
