-- How a run moves on by a deed.
use Rattle.std.proofs.Common.{ℕ, ◌≡◌, ◌+◌, ◌<◌, ◌≤◌, suc, List, [], ◌∷◌, ◌++◌, drop, length, get_or, Option, Some, None, ◌⊎◌, inl, inr, refl, sym, ap, subst, ◌∙◌, arith}
use Rattle.std.proofs.Math.Seq.{drop-cons}
use Rattle.std.proofs.lemmas.List.{append-nil, append_assoc, drop_all, get_or-drop, length-append, length-drop}
use Rattle.std.proofs.lemmas.Option.{get_or_from_slice_get, none-some, slice_get-get_or, slice_get_cases, slice_get_read, slice_get_within}
use Rattle.std.specs.Prelude.{slice_get}
use Rattle.std.specs.Vec.{vec_capacity}
use Rattle.pac_bus.specs.Telling.{BusTold}
use Rattle.frag_tree.specs.declared.event.Event.{Event}
use Rattle.frag_tree.specs.declared.event.Event.TheVariants as event
use Rattle.frag_tree.specs.declared.event.Said.{Said}
use Rattle.frag_tree.specs.declared.krate.Crate.{Crate}
use Rattle.frag_tree.specs.declared.script.Script.{Script}
use Rattle.frag_tree.specs.Trees.{CrateTree, crate_tree}
use Rattle.frag_eval.specs.declared.course.Course.{Course}
use Rattle.frag_eval.specs.declared.deed.Deed.{Deed}
use Rattle.frag_eval.specs.declared.deed.Deed.TheVariants as deed
use Rattle.frag_eval.specs.declared.deed.Operand.{Operand}
use Rattle.frag_eval.specs.declared.deed.Target.{Target}
use Rattle.frag_eval.specs.Deeds.{deeds_mean, operand_said}
use Rattle.frag_eval.specs.Prefixes.{AreSaid, IsAccess, IsAll, IsUnderWay, accesses_in, dues, reads_in}
use Rattle.frag_eval.specs.Runs.{StageIs, StageSeen}
use Rattle.frag_eval.specs.Stages.{Arrives}
use Rattle.frag_eval.specs.Courses.{AreLeft, GoesTo, IsAtAccess, IsCourse, IsMade, IsTarget, IsTargetOrNone, Keeps, MakesAccess, MakesOne, MayMake, NextSaid, SameRun, SaysAll, deeds_dues, left_of, next_of, target_due, word_of}
use Rattle.frag_eval.proofs.Leaving.{all_made, left_read, left_said, left_write, may_read, may_write, meant_now, reads_in-append, under_way_at}

-- what is left begins with the deed that is next
pub left_at : (course : Course) (one : Deed) → next_of course ≡ Some one → left_of course ≡ one ∷ drop (course.next + 1) course.deeds.items
left_at course one is =
    let deeds = course.deeds.items in
    let next : suc course.next ≡ course.next + 1 = omega arith in
    drop-cons deeds course.next one (slice_get_within deeds course.next one is)
    ∙ (ap (λ (first : Deed). first ∷ drop (suc course.next) deeds) (get_or_from_slice_get deeds course.next one one is)
    ∙ ap (λ (n : ℕ). one ∷ drop n deeds) next)

same_left : {krate other : CrateTree} {script also : Script} {made more : List Event} {deeds left : List Deed} → other ≡ krate → also ≡ script → more ≡ made → left ≡ deeds → AreLeft krate script made deeds → AreLeft other also more left
same_left k s m d h = rw (k, s, m, d) h

-- a run is behind the deed that was next
pub record MovedOn (old now : Course) (made : Event) (words : List ℕ) : Type 0 where
  pub same : SameRun old now
  pub words_are : now.words.items ≡ words
  pub words_room : vec_capacity old.words ≤ vec_capacity now.words
  pub next : now.next ≡ old.next + 1
  pub one_more : now.made.list ≡ old.made.list ++ made ∷ []
  pub room : old.made.spare ≤ now.made.spare + 1

pub moved_on : (old now : Course) (one : Deed) (made : Event) (words : List ℕ) → IsCourse old → next_of old ≡ Some one → MovedOn old now made words → length words ≤ length old.words.items + 1 → words ≡ reads_in (old.made.list ++ made ∷ []) → AreLeft (crate_tree old.of.value) old.script (old.made.list ++ made ∷ []) (drop (old.next + 1) old.deeds.items) → IsCourse now
moved_on old now one made words is next moved few read left =
    let deeds_are : left_of now ≡ drop (old.next + 1) old.deeds.items = ap (λ (n : ℕ). drop n now.deeds.items) moved.next ∙ ap (λ (deeds : List Deed). drop (old.next + 1) deeds) moved.same.deeds in
    let one_less : length (left_of old) ≡ suc (length (drop (old.next + 1) old.deeds.items)) = ap length (left_at old one next) in
    let as_many : length (left_of now) ≡ length (drop (old.next + 1) old.deeds.items) = ap length deeds_are in
    record {
      left = same_left (ap crate_tree moved.same.of_is) moved.same.script moved.one_more deeds_are left;
      words = moved.words_are ∙ (read ∙ ap reads_in (sym moved.one_more));
      few = omega (arith, moved.next, ap length moved.same.deeds, slice_get_within old.deeds.items old.next one next);
      room = omega (arith, one_less, as_many, is.room, moved.room);
      words_room = omega (arith, one_less, as_many, is.words_room, moved.words_room, few, ap length moved.words_are);
    }

-- ---- what is said

kept : (old now : Course) (made : Event) → Keeps old now made → MovedOn old now made old.words.items
kept old now made keeps = record { same = keeps.same; words_are = keeps.words; words_room = keeps.words_room; next = keeps.next; one_more = keeps.one_more; room = keeps.room }

left_here : (old : Course) (one : Deed) → IsCourse old → next_of old ≡ Some one → AreLeft (crate_tree old.of.value) old.script old.made.list (one ∷ drop (old.next + 1) old.deeds.items)
left_here old one is next = subst (λ (deeds : List Deed). AreLeft (crate_tree old.of.value) old.script old.made.list deeds) (left_at old one next) is.left

said_on : (old now : Course) (value : Operand) (said : Said) → IsCourse old → next_of old ≡ Some (deed.Say value) → said ≡ operand_said old.words.items value → Keeps old now (event.Say said) → IsCourse now
said_on old now value said is next same keeps =
    let said_is : said ≡ operand_said (reads_in old.made.list) value = same ∙ ap (λ (words : List ℕ). operand_said words value) is.words in
    moved_on old now (deed.Say value) (event.Say said) old.words.items is next (kept old now (event.Say said) keeps) (omega arith)
    (is.words ∙ sym (reads_in-append old.made.list (event.Say said ∷ []) ∙ append-nil (reads_in old.made.list)))
    (subst (λ (x : Said). AreLeft (crate_tree old.of.value) old.script (old.made.list ++ event.Say x ∷ []) (drop (old.next + 1) old.deeds.items)) (sym said_is)
    (left_said (crate_tree old.of.value) old.script old.made.list value (drop (old.next + 1) old.deeds.items) (left_here old (deed.Say value) is next)))

-- so much was said
pub record SaidUpTo (old now : Course) : Type 0 where
  pub same : SameRun old now
  pub course_is : IsCourse now
  pub said : List Event
  pub are_said : AreSaid said
  pub made : now.made.list ≡ old.made.list ++ said

pub none_said : (course : Course) → IsCourse course → SaidUpTo course course
none_said course is = record { same = record { of_is = refl; script = refl; deeds = refl }; course_is = is; said = []; are_said = tt; made = sym (append-nil course.made.list) }

all_said : (said : List Event) (one : Said) → AreSaid said → AreSaid (said ++ event.Say one ∷ [])
all_said [] one h = tt
all_said (event.Read address width value ∷ said) one h = absurd h
all_said (event.Write address width value ∷ said) one h = absurd h
all_said (event.Say first ∷ said) one h = all_said said one h

same_run : (old mid now : Course) → SameRun old mid → SameRun mid now → SameRun old now
same_run old mid now a b = record { of_is = b.of_is ∙ a.of_is; script = b.script ∙ a.script; deeds = b.deeds ∙ a.deeds }

pub said_more : (old mid now : Course) (said : Said) → SaidUpTo old mid → NextSaid (Some said) (next_of mid) mid.words.items → Keeps mid now (event.Say said) → SaidUpTo old now
said_more old mid now said so_far next keeps = by (next_of mid) refl next
  where
    more : (value : Operand) → next_of mid ≡ Some (deed.Say value) → said ≡ operand_said mid.words.items value → SaidUpTo old now
    more value is same = record {
      same = same_run old mid now so_far.same keeps.same;
      course_is = said_on mid now value said so_far.course_is is same keeps;
      said = so_far.said ++ event.Say said ∷ [];
      are_said = all_said so_far.said said so_far.are_said;
      made = keeps.one_more ∙ (ap (λ made. made ++ event.Say said ∷ []) so_far.made ∙ append_assoc old.made.list so_far.said (event.Say said ∷ []));
    }

    by : (o : Option Deed) → next_of mid ≡ o → NextSaid (Some said) o mid.words.items → SaidUpTo old now
    by None is next = absurd next
    by (Some (deed.Read at)) is next = absurd next
    by (Some (deed.Write at from puts)) is next = absurd next
    by (Some (deed.Say value)) is next = more value is next

-- where something is said next there is a deed, and room for its event
pub room_to_say : (course : Course) (said : Said) → IsCourse course → NextSaid (Some said) (next_of course) course.words.items → (1 ≤ course.made.spare) × (course.next < length course.deeds.items)
room_to_say course said is next = by (next_of course) refl next
  where
    by : (o : Option Deed) → next_of course ≡ o → NextSaid (Some said) o course.words.items → (1 ≤ course.made.spare) × (course.next < length course.deeds.items)
    by None at next = absurd next
    by (Some one) at next = (omega (arith, is.room, ap length (left_at course one at)), slice_get_within course.deeds.items course.next one at)

pub none_next : (next : Option Deed) (words : List ℕ) → NextSaid None next words → IsTargetOrNone next
none_next None words h = tt
none_next (Some (deed.Read at)) words h = tt
none_next (Some (deed.Write at from puts)) words h = tt
none_next (Some (deed.Say value)) words h = absurd h

pub says_all : (old now : Course) → SaidUpTo old now → NextSaid None (next_of now) now.words.items → SaysAll old now
says_all old now so_far next = record { same = so_far.same; course_is = so_far.course_is; next = none_next (next_of now) now.words.items next; said = so_far.said; are_said = so_far.are_said; made = so_far.made }

-- ---- the next access

-- it may be made
pub may_make : (course : Course) (one : Deed) → IsAtAccess course → next_of course ≡ Some one → MayMake one course.words.items
may_make course one at next = by one next (subst IsTarget next at.access)
  where
    is : IsCourse course
    is = at.course_is

    by : (one : Deed) → next_of course ≡ Some one → IsTarget (Some one) → MayMake one course.words.items
    by (deed.Read to) next target = may_read (crate_tree course.of.value) course.script course.made.list to (drop (course.next + 1) course.deeds.items) (left_here course (deed.Read to) is next)
    by (deed.Write to from puts) next target =
        subst (λ (words : List ℕ). MayMake (deed.Write to from puts) words) (sym is.words)
        (may_write (crate_tree course.of.value) course.script course.made.list to from puts (drop (course.next + 1) course.deeds.items) (left_here course (deed.Write to from puts) is next))
    by (deed.Say value) next target = absurd target

pub access_on : (old now : Course) (one : Deed) (made : Event) (words : List ℕ) → IsAtAccess old → next_of old ≡ Some one → IsMade one old.words.items words made → MovedOn old now made words → IsCourse now
access_on old now (deed.Read to) made words at next is_made moved =
    let is = at.course_is in
    let value = is_made.0 in
    let made_is : made ≡ event.Read to.address to.width value = is_made.2 in
    let words_are : words ≡ old.words.items ++ value ∷ [] = is_made.3 in
    moved_on old now (deed.Read to) made words is next moved
    (omega (arith, ap length words_are, length-append old.words.items (value ∷ [])))
    (words_are ∙ (ap (λ (xs : List ℕ). xs ++ value ∷ []) is.words ∙ (sym (reads_in-append old.made.list (event.Read to.address to.width value ∷ [])) ∙ ap (λ (e : Event). reads_in (old.made.list ++ e ∷ [])) (sym made_is))))
    (subst (λ (e : Event). AreLeft (crate_tree old.of.value) old.script (old.made.list ++ e ∷ []) (drop (old.next + 1) old.deeds.items)) (sym made_is)
    (left_read (crate_tree old.of.value) old.script old.made.list to (drop (old.next + 1) old.deeds.items) value is_made.1 (left_here old (deed.Read to) is next)))
access_on old now (deed.Write to from puts) made words at next is_made moved =
    let is = at.course_is in
    let made_is : made ≡ event.Write to.address to.width (word_of to (reads_in old.made.list) from puts.items) = is_made.0 ∙ ap (λ (xs : List ℕ). event.Write to.address to.width (word_of to xs from puts.items)) is.words in
    moved_on old now (deed.Write to from puts) made words is next moved
    (omega (arith, ap length is_made.1))
    (is_made.1 ∙ (is.words ∙ (sym (reads_in-append old.made.list (event.Write to.address to.width (word_of to (reads_in old.made.list) from puts.items) ∷ []) ∙ append-nil (reads_in old.made.list)) ∙ ap (λ (e : Event). reads_in (old.made.list ++ e ∷ [])) (sym made_is))))
    (subst (λ (e : Event). AreLeft (crate_tree old.of.value) old.script (old.made.list ++ e ∷ []) (drop (old.next + 1) old.deeds.items)) (sym made_is)
    (left_write (crate_tree old.of.value) old.script old.made.list to from puts (drop (old.next + 1) old.deeds.items) (left_here old (deed.Write to from puts) is next)))
access_on old now (deed.Say value) made words at next is_made moved = absurd is_made

pub is_access_made : (one : Deed) (old now : List ℕ) (made : Event) → IsMade one old now made → IsAccess made
is_access_made (deed.Read to) old now made h = subst IsAccess (sym h.2) tt
is_access_made (deed.Write to from puts) old now made h = subst IsAccess (sym h.0) tt
is_access_made (deed.Say value) old now made h = absurd h

-- ---- what contracts see

pub is_under_way : (course : Course) → IsAtAccess course → IsUnderWay (crate_tree course.of.value) course.script course.made.list
unfolding deeds_mean
is_under_way course at = by (next_of course) refl at.access
  where
    is : IsCourse course
    is = at.course_is

    here : (one : Deed) → next_of course ≡ Some one → IsTarget (Some one) → IsUnderWay (crate_tree course.of.value) course.script course.made.list
    here (deed.Read to) next target = under_way_at (crate_tree course.of.value) course.script course.made.list _ _ tt (meant_now (crate_tree course.of.value) course.script course.made.list (deed.Read to ∷ drop (course.next + 1) course.deeds.items) (left_here course (deed.Read to) is next))
    here (deed.Write to from puts) next target = under_way_at (crate_tree course.of.value) course.script course.made.list _ _ tt (meant_now (crate_tree course.of.value) course.script course.made.list (deed.Write to from puts ∷ drop (course.next + 1) course.deeds.items) (left_here course (deed.Write to from puts) is next))
    here (deed.Say value) next target = absurd target

    by : (o : Option Deed) → next_of course ≡ o → IsTarget o → IsUnderWay (crate_tree course.of.value) course.script course.made.list
    by None next target = absurd target
    by (Some one) next target = here one next target

-- ---- at an access

at_index : (course : Course) → IsAtAccess course → course.next < length course.deeds.items
at_index course at = by (next_of course) refl at.access
  where
    by : (o : Option Deed) → next_of course ≡ o → IsTarget o → course.next < length course.deeds.items
    by None next target = absurd target
    by (Some one) next target = slice_get_within course.deeds.items course.next one next

-- the deed at the index of the next one
pub next_is : (course : Course) (one : Deed) → IsAtAccess course → one ≡ get_or course.deeds.items course.next one → next_of course ≡ Some one
next_is course one at read = slice_get_read course.deeds.items (length course.deeds.items) course.next one refl (at_index course at) read

pub room_for_access : (course : Course) → IsAtAccess course → (1 ≤ course.made.spare) × (course.next < length course.deeds.items) × (length course.words.items + 1 ≤ vec_capacity course.words)
room_for_access course at = by (next_of course) refl at.access
  where
    is : IsCourse course
    is = at.course_is

    by : (o : Option Deed) → next_of course ≡ o → IsTarget o → (1 ≤ course.made.spare) × (course.next < length course.deeds.items) × (length course.words.items + 1 ≤ vec_capacity course.words)
    by None next target = absurd target
    by (Some one) next target =
        let some : length (left_of course) ≡ suc (length (drop (course.next + 1) course.deeds.items)) = ap length (left_at course one next) in
        (omega (arith, is.room, some), at_index course at, omega (arith, is.words_room, some))

pub access_made : (told after : BusTold) (old mid now : Course) (one : Deed) (made : Event) → IsAtAccess old → next_of old ≡ Some one → MakesOne told after one old.words.items mid.words.items made → vec_capacity old.words ≤ vec_capacity mid.words → SameRun old mid → mid.next ≡ old.next → mid.made.list ≡ old.made.list → old.made.spare ≤ mid.made.spare → Keeps mid now made → MakesAccess told after old now
access_made told after old mid now one made at next makes room same same_next same_made spare keeps = record {
  same = same_run old mid now same keeps.same;
  course_is = access_on old now one made mid.words.items at next makes.made_is (record {
    same = same_run old mid now same keeps.same;
    words_are = keeps.words;
    words_room = omega (arith, room, keeps.words_room);
    next = keeps.next ∙ ap (λ (n : ℕ). n + 1) same_next;
    one_more = keeps.one_more ∙ ap (λ (events : List Event). events ++ made ∷ []) same_made;
    room = omega (arith, spare, keeps.room);
  });
  access = made;
  is_access = is_access_made one old.words.items mid.words.items made makes.made_is;
  made = keeps.one_more ∙ ap (λ (events : List Event). events ++ made ∷ []) same_made;
  acted = makes.acted;
}

-- ---- which access is next

get_first : {A : Type 0} (n : ℕ) (xs : List A) (x : A) (rest : List A) → drop n xs ≡ x ∷ rest → slice_get xs n ≡ Some x
get_first {A = A} n xs x rest is =
    let some : 1 ≤ length (drop n xs) = omega (arith, ap length is) in
    let within : n < length xs = omega (arith, length-drop n xs) in
    slice_get-get_or xs n x within ∙ ap Some (sym (get_or-drop n xs 0 x ∙ ap (λ (m : ℕ). get_or xs m x) {x = n + 0} {y = n} (omega arith)) ∙ ap (λ (ys : List A). get_or ys 0 x) is)

pub first_due : (course : Course) (to : Target) → IsAtAccess course → GoesTo (next_of course) to → slice_get (dues (crate_tree course.of.value) course.script) (length (accesses_in course.made.list)) ≡ Some (target_due to)
unfolding deeds_dues
first_due course to at goes = by (next_of course) refl goes
  where
    is : IsCourse course
    is = at.course_is

    here : (one : Deed) → next_of course ≡ Some one → GoesTo (Some one) to → slice_get (dues (crate_tree course.of.value) course.script) (length (accesses_in course.made.list)) ≡ Some (target_due to)
    here (deed.Read also) next goes = get_first (length (accesses_in course.made.list)) (dues (crate_tree course.of.value) course.script) (target_due also) (deeds_dues (drop (course.next + 1) course.deeds.items)) ((left_here course (deed.Read also) is next).due) ∙ ap (λ (x : Target). Some (target_due x)) (sym goes)
    here (deed.Write also from puts) next goes = get_first (length (accesses_in course.made.list)) (dues (crate_tree course.of.value) course.script) (target_due also) (deeds_dues (drop (course.next + 1) course.deeds.items)) ((left_here course (deed.Write also from puts) is next).due) ∙ ap (λ (x : Target). Some (target_due x)) (sym goes)
    here (deed.Say value) next goes = absurd goes

    by : (o : Option Deed) → next_of course ≡ o → GoesTo o to → slice_get (dues (crate_tree course.of.value) course.script) (length (accesses_in course.made.list)) ≡ Some (target_due to)
    by None next goes = absurd goes
    by (Some one) next goes = here one next goes

-- ---- stages

pub at_access : (course : Course) → IsCourse course → IsTargetOrNone (next_of course) → course.next < length course.deeds.items → IsAtAccess course
at_access course is next within = record { course_is = is; access = by (next_of course) refl next }
  where
    by : (o : Option Deed) → next_of course ≡ o → IsTargetOrNone o → IsTarget o
    by None none next = which (slice_get_cases course.deeds.items course.next).1
      where
        which : ((x : Deed) × (course.next < length course.deeds.items) × (slice_get course.deeds.items course.next ≡ Some x) × (get_or course.deeds.items course.next x ≡ x)) ⊎ ((length course.deeds.items ≤ course.next) × (slice_get course.deeds.items course.next ≡ None)) → ⊥
        which (inl there) = none-some there.0 (sym none ∙ there.2)
        which (inr past) = absurd (omega (arith, past.0, within))
    by (Some (deed.Read to)) some next = tt
    by (Some (deed.Write to from puts)) some next = tt
    by (Some (deed.Say value)) some next = absurd next

pub all_done : (course : Course) → IsCourse course → length course.deeds.items ≤ course.next → IsAll (crate_tree course.of.value) course.script course.made.list
all_done course is past = all_made (crate_tree course.of.value) course.script course.made.list (subst (λ (deeds : List Deed). AreLeft (crate_tree course.of.value) course.script course.made.list deeds) (drop_all course.next course.deeds.items past) is.left)

pub arrives : (old now : Course) (stage : StageSeen) → SaysAll old now → StageIs stage now.of.value now.script now.made.list → Arrives old stage
arrives old now stage says is = (
  says.said,
  says.are_said,
  subst (λ (krate : Crate). StageIs stage krate old.script (old.made.list ++ says.said)) says.same.of_is
      (subst (λ (script : Script). StageIs stage now.of.value script (old.made.list ++ says.said)) says.same.script
      (subst (λ (events : List Event). StageIs stage now.of.value now.script events) says.made is)),
)
