-- A run within the crate: the deeds that are left, and what they have to do with the script.
use Rattle.std.specs.Prelude.{ℕ, ◌≡◌, ◌≤◌, ◌<◌, ◌+◌, ◌^◌, List, [], ◌∷◌, ◌++◌, drop, length, Option, Some, None, Result, Ok, Err, slice_get, ⊤}
use Rattle.std.specs.List.{AllByRecursion}
use Rattle.std.specs.Vec.{vec_capacity}
use Rattle.pac_base.specs.Widths.{bits_of}
use Rattle.pac_bus.specs.declared.access.BusFailed.{BusFailed}
use Rattle.pac_bus.specs.Answers.{Failed}
use Rattle.pac_bus.specs.Telling.{BusTold, Did}
use Rattle.pac_bus.specs.Widths.{bytes_of}
use Rattle.frag_tree.specs.declared.event.Event.{Event}
use Rattle.frag_tree.specs.declared.event.Event.TheVariants as event
use Rattle.frag_tree.specs.declared.event.Said.{Said}
use Rattle.frag_tree.specs.declared.script.Script.{Script}
use Rattle.frag_tree.specs.Trees.{CrateTree, crate_tree}
use Rattle.frag_sem.specs.Laws.{EventInRange}
use Rattle.frag_sem.specs.TextMeaning.{text_meaning}
use Rattle.frag_eval.specs.declared.course.Course.{Course}
use Rattle.frag_eval.specs.declared.deed.Deed.{Deed}
use Rattle.frag_eval.specs.declared.deed.Deed.TheVariants as deed
use Rattle.frag_eval.specs.declared.deed.Put.{Put}
use Rattle.frag_eval.specs.declared.deed.Start.{Start}
use Rattle.frag_eval.specs.declared.deed.Target.{Target}
use Rattle.frag_eval.specs.Deeds.{all_put, deeds_mean, operand_said, start_of}
use Rattle.frag_eval.specs.Prefixes.{AreSaid, Due, IsAccess, accesses_in, acts_of, dues, reads_in}
use Rattle.frag_eval.specs.Runs.{Readied, UnderWay}

abbrev pub target_due : Target → Due
target_due at = record { role = at.role; line = at.line }

-- the accesses among deeds
unfoldable pub deeds_dues : List Deed → List Due
deeds_dues [] = []
deeds_dues (deed.Read at ∷ deeds) = target_due at ∷ deeds_dues deeds
deeds_dues (deed.Write at from puts ∷ deeds) = target_due at ∷ deeds_dues deeds
deeds_dues (deed.Say value ∷ deeds) = deeds_dues deeds

-- These deeds are left of a script that made these events against a crate: whatever answers are still to come, the script has the events that were made, and then those of the deeds; and so it is with what it asks for.
pub record AreLeft (krate : CrateTree) (script : Script) (events : List Event) (deeds : List Deed) : Type 0 where
  pub meant : (later : List ℕ) → text_meaning krate script (reads_in events ++ later) ≡ events ++ deeds_mean deeds (reads_in events) later
  pub due : drop (length (accesses_in events)) (dues krate script) ≡ deeds_dues deeds
  pub in_range : (answers : List ℕ) → AllByRecursion EventInRange (text_meaning krate script answers)

-- the deeds of a run that are left
abbrev pub left_of : Course → List Deed
left_of course = drop course.next course.deeds.items

-- A run has come so far, and has the room for all that is left.
pub record IsCourse (course : Course) : Type 0 where
  pub left : AreLeft (crate_tree course.of.value) course.script course.made.list (left_of course)
  pub words : course.words.items ≡ reads_in course.made.list
  pub few : course.next ≤ length course.deeds.items
  pub room : length (left_of course) ≤ course.made.spare
  pub words_room : length course.words.items + length (left_of course) ≤ vec_capacity course.words

-- the next deed is an access
abbrev pub IsTarget : Option Deed → Type 0
IsTarget None = ⊥
IsTarget (Some (deed.Read at)) = ⊤
IsTarget (Some (deed.Write at from puts)) = ⊤
IsTarget (Some (deed.Say value)) = ⊥

abbrev pub next_of : Course → Option Deed
next_of course = slice_get course.deeds.items course.next

-- a run stands before an access
pub record IsAtAccess (course : Course) : Type 0 where
  pub course_is : IsCourse course
  pub access : IsTarget (next_of course)

-- ---- what the functions of a run do

-- the word that a deed writes
abbrev pub word_of : Target → List ℕ → Start → List Put → ℕ
word_of at words from puts = all_put (bits_of at.width) words (start_of (bits_of at.width) words from) puts

-- the access of a deed ends within 64 bits of address, and writes a word of its width; what is said is none
abbrev pub MayMake : Deed → List ℕ → Type 0
MayMake (deed.Read at) words = at.address + bytes_of at.width ≤ 2 ^ 64
MayMake (deed.Write at from puts) words = (at.address + bytes_of at.width ≤ 2 ^ 64) × (word_of at words from puts.items < 2 ^ bits_of at.width)
MayMake (deed.Say value) words = ⊥

-- What the access of a deed makes: an event, and a word where it is a read.
abbrev pub IsMade : Deed → List ℕ → List ℕ → Event → Type 0
IsMade (deed.Read at) old now made =
    (value : ℕ) × (value < 2 ^ bits_of at.width) × (made ≡ event.Read at.address at.width value)
    × (now ≡ old ++ value ∷ [])
IsMade (deed.Write at from puts) old now made = (made ≡ event.Write at.address at.width (word_of at old from puts.items)) × (now ≡ old)
IsMade (deed.Say value) old now made = ⊥

pub record MakesOne (told after : BusTold) (one : Deed) (old now : List ℕ) (made : Event) : Type 0 where
  pub made_is : IsMade one old now made
  pub acted : Did told after (acts_of (made ∷ []))

-- the bus failed, and no word was read
pub record MakesNone (told after : BusTold) (old now : List ℕ) : Type 0 where
  pub failed : Failed told after
  pub same : now ≡ old

abbrev pub Makes : Result Event BusFailed → BusTold → BusTold → Deed → List ℕ → List ℕ → Type 0
Makes (Ok made) told after one old now = MakesOne told after one old now made
Makes (Err fault) told after one old now = MakesNone told after old now

-- what is said next, if that is what comes
abbrev pub NextSaid : Option Said → Option Deed → List ℕ → Type 0
NextSaid None None words = ⊤
NextSaid None (Some (deed.Read at)) words = ⊤
NextSaid None (Some (deed.Write at from puts)) words = ⊤
NextSaid None (Some (deed.Say value)) words = ⊥
NextSaid (Some said) None words = ⊥
NextSaid (Some said) (Some (deed.Read at)) words = ⊥
NextSaid (Some said) (Some (deed.Write at from puts)) words = ⊥
NextSaid (Some said) (Some (deed.Say value)) words = said ≡ operand_said words value

-- how contracts see the run
abbrev pub seen_of : Course → UnderWay
seen_of course = record { krate = course.of.value; script = course.script; events = course.made.list }

-- a run of the same script against the same crate
pub record SameRun (old now : Course) : Type 0 where
  pub of_is : now.of.value ≡ old.of.value
  pub script : now.script ≡ old.script
  pub deeds : now.deeds.items ≡ old.deeds.items

-- one more event was made, of the deed that was next
pub record Keeps (old now : Course) (made : Event) : Type 0 where
  pub same : SameRun old now
  pub words : now.words.items ≡ old.words.items
  pub words_room : vec_capacity old.words ≤ vec_capacity now.words
  pub next : now.next ≡ old.next + 1
  pub one_more : now.made.list ≡ old.made.list ++ made ∷ []
  pub room : old.made.spare ≤ now.made.spare + 1

-- a run is at its end, or before an access
abbrev pub IsTargetOrNone : Option Deed → Type 0
IsTargetOrNone None = ⊤
IsTargetOrNone (Some (deed.Read at)) = ⊤
IsTargetOrNone (Some (deed.Write at from puts)) = ⊤
IsTargetOrNone (Some (deed.Say value)) = ⊥

-- all was said that comes before the next access
pub record SaysAll (old now : Course) : Type 0 where
  pub same : SameRun old now
  pub course_is : IsCourse now
  pub next : IsTargetOrNone (next_of now)
  pub said : List Event
  pub are_said : AreSaid said
  pub made : now.made.list ≡ old.made.list ++ said

-- the next access was made
pub record MakesAccess (told after : BusTold) (old now : Course) : Type 0 where
  pub same : SameRun old now
  pub course_is : IsCourse now
  pub access : Event
  pub is_access : IsAccess access
  pub made : now.made.list ≡ old.made.list ++ access ∷ []
  pub acted : Did told after (acts_of (access ∷ []))

-- the bus failed, and the run is as it was
pub record FailsAccess (told after : BusTold) (old now : Course) : Type 0 where
  pub failed : Failed told after
  pub same : seen_of now ≡ seen_of old
  pub at_access : IsAtAccess now

abbrev pub Accesses : {T : Type 0} → Result T BusFailed → BusTold → BusTold → Course → Course → Type 0
Accesses (Ok value) told after old now = MakesAccess told after old now
Accesses (Err fault) told after old now = FailsAccess told after old now

-- how contracts see what is ready
abbrev pub ready_of : Course → Readied
ready_of course = record { krate = course.of.value; script = course.script }

-- a run that has not begun
pub record IsReady (course : Course) : Type 0 where
  pub course_is : IsCourse course
  pub none_made : course.made.list ≡ []

-- where the next access goes
abbrev pub GoesTo : Option Deed → Target → Type 0
GoesTo None at = ⊥
GoesTo (Some (deed.Read at)) target = target ≡ at
GoesTo (Some (deed.Write at from puts)) target = target ≡ at
GoesTo (Some (deed.Say value)) target = ⊥
