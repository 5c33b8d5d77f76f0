-- A run, step by step.
use Rattle.std.proofs.Common.{ℕ, ◌≡◌, ◌-◌, ◌<◌, ◌≤◌, zero, suc, List, [], ◌∷◌, ◌++◌, map, length, refl, sym, ap, subst, ◌∙◌, arith}
use Rattle.pac_bus.specs.declared.access.BusAccess.{BusAccess}
use Rattle.pac_bus.specs.Acts.{Act}
use Rattle.pac_bus.specs.Acts.Act.{does}
use Rattle.pac_bus.specs.Answers.{Failed}
use Rattle.pac_bus.specs.Telling.{BusTold, Did, accesses}
use Rattle.pac_bus.proofs.Acting.{did_nothing, did_then}
use Rattle.frag_tree.specs.declared.event.Event.{Event}
use Rattle.frag_tree.specs.declared.event.Event.TheVariants as event
use Rattle.frag_tree.specs.declared.krate.Crate.{Crate}
use Rattle.frag_tree.specs.declared.script.Script.{Script}
use Rattle.frag_tree.specs.Trees.{crate_tree}
use Rattle.frag_sem.specs.TextMeaning.{text_meaning}
use Rattle.frag_eval.specs.Prefixes.{AreSaid, IsAccess, accesses_in, acts_of, reads_in, up_to}
use Rattle.frag_eval.specs.Runs.{Begins, HasSpare, IsStepped, Ran, Readied, StageIs, StageSeen, Stopped, UnderWay, done, under_way}
use Rattle.frag_eval.proofs.Leaving.{accesses-count, accesses_in-append}

abbrev pub events_of : StageSeen → List Event
events_of (under_way running) = running.events
events_of (done made) = made

-- how many steps are left at most, where there is room for so many accesses
abbrev pub steps_left : ℕ → StageSeen → ℕ
steps_left room (under_way running) = suc (room - length (accesses_in running.events))
steps_left room (done made) = 0

-- a run has come to this stage
pub record RunUpTo (old now : BusTold) (ready : Readied) (stage : StageSeen) : Type 0 where
  pub stage_is : StageIs stage ready.krate ready.script (events_of stage)
  pub acted : Did old now (acts_of (events_of stage))

-- the stage has just the events to which it came
events_are : (stage : StageSeen) (krate : Crate) (script : Script) (events : List Event) → StageIs stage krate script events → events_of stage ≡ events
events_are (under_way running) krate script events is = ap (λ (seen : UnderWay). seen.events) is.0
events_are (done made) krate script events is = is.0

come_to : (old now : BusTold) (ready : Readied) (stage : StageSeen) (events : List Event) → StageIs stage ready.krate ready.script events → Did old now (acts_of events) → RunUpTo old now ready stage
come_to old now ready stage events is acted =
    let same : events ≡ events_of stage = sym (events_are stage ready.krate ready.script events is) in
    record {
      stage_is = subst (λ (made : List Event). StageIs stage ready.krate ready.script made) same is;
      acted = subst (λ (made : List Event). Did old now (acts_of made)) same acted;
    }

-- what is said is no access
nothing_done : (said : List Event) → AreSaid said → accesses_in said ≡ []
nothing_done [] h = refl
nothing_done (event.Read address width value ∷ said) h = absurd h
nothing_done (event.Write address width value ∷ said) h = absurd h
nothing_done (event.Say one ∷ said) h = nothing_done said h

pub begun : (told : BusTold) (ready : Readied) (stage : StageSeen) → Begins ready stage → RunUpTo told told ready stage
begun told ready stage begins =
    come_to told told ready stage begins.said begins.stage_is
    (subst (λ (all : List BusAccess). Did told told (map does all)) (sym (nothing_done begins.said begins.are_said)) (did_nothing told))

map-append : {A B : Type 0} (f : A → B) (xs ys : List A) → map f (xs ++ ys) ≡ map f xs ++ map f ys
map-append f [] ys = refl
map-append f (x ∷ xs) ys = ap (λ rest. f x ∷ rest) (map-append f xs ys)

acts-append : (made more : List Event) → acts_of (made ++ more) ≡ acts_of made ++ acts_of more
acts-append made more = ap (map does) (accesses_in-append made more) ∙ map-append does (accesses_in made) (accesses_in more)

-- an access with what is said behind it does what the access does
one_done : (access : Event) (said : List Event) → AreSaid said → acts_of (access ∷ said) ≡ acts_of (access ∷ [])
one_done access said h = acts-append (access ∷ []) said ∙ (ap (λ (all : List BusAccess). acts_of (access ∷ []) ++ map does all) (nothing_done said h) ∙ all_same (acts_of (access ∷ [])))
  where
    all_same : (acts : List Act) → acts ++ [] ≡ acts
    all_same [] = refl
    all_same (act ∷ acts) = ap (λ rest. act ∷ rest) (all_same acts)

pub stepped : (old mid now : BusTold) (ready : Readied) (running : UnderWay) (stage : StageSeen) → RunUpTo old mid ready (under_way running) → IsStepped mid now running stage → RunUpTo old now ready stage
stepped old mid now ready running stage so_far step =
    let same : running ≡ record { krate = ready.krate; script = ready.script; events = running.events } = so_far.stage_is.0 in
    come_to old now ready stage (running.events ++ step.access ∷ step.said)
    (subst (λ (seen : UnderWay). StageIs stage seen.krate seen.script (running.events ++ step.access ∷ step.said)) same step.stage_is)
    (subst (λ (acts : List Act). Did old now acts) (sym (acts-append running.events (step.access ∷ step.said) ∙ ap (λ (acts : List Act). acts_of running.events ++ acts) (one_done step.access step.said step.are_said)))
    (did_then old mid now (acts_of running.events) (acts_of (step.access ∷ [])) so_far.acted step.acted))

accesses-does : (all : List BusAccess) → accesses (map does all) ≡ all
accesses-does [] = refl
accesses-does (access ∷ all) = ap (λ rest. access ∷ rest) (accesses-does all)

-- fewer accesses were made than there is room for
few_made : (old : BusTold) (ready : Readied) (running : UnderWay) → HasSpare old ready → StageIs (under_way running) ready.krate ready.script running.events → length (accesses_in running.events) < old.spare
few_made old ready running room is = omega (arith, is.1.more, room (reads_in running.events))

pub room_left : (old now : BusTold) (ready : Readied) (running : UnderWay) → HasSpare old ready → RunUpTo old now ready (under_way running) → 1 ≤ now.spare
room_left old now ready running room so_far =
    omega (arith, few_made old ready running room so_far.stage_is, so_far.acted.room, ap length (accesses-does (accesses_in running.events)))

one_more : (access : Event) (said : List Event) → IsAccess access → 1 ≤ length (accesses_in (access ∷ said))
one_more (event.Read address width value) said is = omega arith
one_more (event.Write address width value) said is = omega arith
one_more (event.Say value) said is = absurd is

pub fewer : (old mid now : BusTold) (ready : Readied) (running : UnderWay) (stage : StageSeen) → HasSpare old ready → RunUpTo old mid ready (under_way running) → IsStepped mid now running stage → steps_left old.spare stage < steps_left old.spare (under_way running)
fewer old mid now ready running stage room so_far step = by stage (events_are stage running.krate running.script (running.events ++ step.access ∷ step.said) step.stage_is)
  where
    by : (stage : StageSeen) → events_of stage ≡ running.events ++ step.access ∷ step.said → steps_left old.spare stage < steps_left old.spare (under_way running)
    by (under_way later) same =
        omega (arith, few_made old ready running room so_far.stage_is, ap (λ (events : List Event). length (accesses_in events)) same, accesses-count running.events (step.access ∷ step.said), one_more step.access step.said step.is_access)
    by (done made) same = omega arith

-- ---- ends

pub ran : (old now : BusTold) (ready : Readied) (made : List Event) → RunUpTo old now ready (done made) → Ran old now ready.krate ready.script made
ran old now ready made so_far = record { acted = so_far.acted; all = so_far.stage_is.1 }

-- an access behind so many others
pub record Split (events : List Event) (count : ℕ) : Type 0 where
  pub next : Event
  pub later : List Event
  pub is_access : IsAccess next
  pub whole : events ≡ up_to events count ++ next ∷ later

behind_others : (first : Event) (events : List Event) (count more : ℕ) → up_to (first ∷ events) more ≡ first ∷ up_to events count → Split events count → Split (first ∷ events) more
behind_others first events count more is split = record {
  next = split.next;
  later = split.later;
  is_access = split.is_access;
  whole = ap (λ rest. first ∷ rest) split.whole ∙ ap (λ front. front ++ split.next ∷ split.later) (sym is);
}

split_at : (events : List Event) (count : ℕ) → count < length (accesses_in events) → Split events count
unfolding up_to
split_at [] count few = absurd (omega (arith, few))
split_at (event.Read address width value ∷ events) zero few = record { next = event.Read address width value; later = events; is_access = tt; whole = refl }
split_at (event.Read address width value ∷ events) (suc count) few = behind_others (event.Read address width value) events count (suc count) refl (split_at events count (omega (arith, few)))
split_at (event.Write address width value ∷ events) zero few = record { next = event.Write address width value; later = events; is_access = tt; whole = refl }
split_at (event.Write address width value ∷ events) (suc count) few = behind_others (event.Write address width value) events count (suc count) refl (split_at events count (omega (arith, few)))
split_at (event.Say said ∷ events) count few = behind_others (event.Say said) events count count refl (split_at events count few)

pub stopped : (old mid now : BusTold) (ready : Readied) (running : UnderWay) (count : ℕ) (events : List Event) → RunUpTo old mid ready (under_way running) → Failed mid now → events ≡ running.events → count ≡ length events → Stopped old now ready.krate ready.script count events
stopped old mid now ready running count events so_far failed same count_is =
    let is = so_far.stage_is.1 in
    let all = text_meaning (crate_tree ready.krate) ready.script (reads_in running.events) in
    let split = split_at all (length (accesses_in running.events)) is.more in
    let here : Stopped old now ready.krate ready.script (length running.events) running.events =
    record {
      count_is = refl;
      next = split.next;
      later = split.later;
      first = split.whole ∙ ap (λ (front : List Event). front ++ split.next ∷ split.later) (sym is.prefix);
      is_access = split.is_access;
      broke = record { between = mid; acted = so_far.acted; failed = failed };
    } in
    subst (λ (n : ℕ). Stopped old now ready.krate ready.script n events) (sym count_is)
    (subst (λ (made : List Event). Stopped old now ready.krate ready.script (length made) made) (sym same) here)
