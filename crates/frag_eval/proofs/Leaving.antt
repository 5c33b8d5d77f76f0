-- What is left of a run, deed by deed.
use Rattle.std.proofs.Common.{ℕ, ◌≡◌, ◌+◌, ◌%◌, ◌^◌, ◌<◌, ◌≤◌, zero, suc, List, [], ◌∷◌, ◌++◌, drop, length, refl, sym, ap, subst, ◌∙◌, arith, append_assoc}
use Rattle.std.proofs.Math.Nat.{mod-eq_of_lt}
use Rattle.std.proofs.lemmas.List.{append-nil, length-append}
use Rattle.std.specs.List.{AllByRecursion}
use Rattle.pac_base.specs.Widths.{bits_of}
use Rattle.pac_bus.specs.Answers.{a_read, a_write}
use Rattle.frag_tree.specs.declared.event.Event.{Event}
use Rattle.frag_tree.specs.declared.event.Event.TheVariants as event
use Rattle.frag_tree.specs.declared.script.Script.{Script}
use Rattle.frag_tree.specs.Trees.{CrateTree}
use Rattle.frag_sem.specs.Laws.{EventInRange}
use Rattle.frag_sem.specs.TextMeaning.{text_meaning}
use Rattle.frag_eval.specs.declared.deed.Deed.{Deed}
use Rattle.frag_eval.specs.declared.deed.Deed.TheVariants as deed
use Rattle.frag_eval.specs.declared.deed.Operand.{Operand}
use Rattle.frag_eval.specs.declared.deed.Start.{Start}
use Rattle.frag_eval.specs.declared.deed.Target.{Target}
use Rattle.frag_eval.specs.Deeds.{deeds_mean, operand_said}
use Rattle.frag_eval.specs.Prefixes.{IsAccess, IsAll, IsUnderWay, accesses_in, dues, reads_in, up_to}
use Rattle.frag_eval.specs.Courses.{AreLeft, MayMake, deeds_dues, target_due, word_of}

-- ---- events after events

pub reads_in-append : (made more : List Event) → reads_in (made ++ more) ≡ reads_in made ++ reads_in more
reads_in-append [] more = refl
reads_in-append (event.Read address width value ∷ made) more = ap (λ rest. value ∷ rest) (reads_in-append made more)
reads_in-append (event.Write address width value ∷ made) more = reads_in-append made more
reads_in-append (event.Say said ∷ made) more = reads_in-append made more

pub accesses_in-append : (made more : List Event) → accesses_in (made ++ more) ≡ accesses_in made ++ accesses_in more
accesses_in-append [] more = refl
accesses_in-append (event.Read address width value ∷ made) more = ap (λ rest. a_read address width value ∷ rest) (accesses_in-append made more)
accesses_in-append (event.Write address width value ∷ made) more = ap (λ rest. a_write address width value ∷ rest) (accesses_in-append made more)
accesses_in-append (event.Say said ∷ made) more = accesses_in-append made more

pub accesses-count : (made more : List Event) → length (accesses_in (made ++ more)) ≡ length (accesses_in made) + length (accesses_in more)
accesses-count made more = ap length (accesses_in-append made more) ∙ length-append (accesses_in made) (accesses_in more)

-- events are as far as one comes with their accesses, where an access is next
pub up_to-made : (made : List Event) (next : Event) (later : List Event) → IsAccess next → up_to (made ++ next ∷ later) (length (accesses_in made)) ≡ made
unfolding up_to
up_to-made [] (event.Read address width value) later is = refl
up_to-made [] (event.Write address width value) later is = refl
up_to-made [] (event.Say said) later is = absurd is
up_to-made (event.Read address width value ∷ made) next later is = ap (λ rest. event.Read address width value ∷ rest) (up_to-made made next later is)
up_to-made (event.Write address width value ∷ made) next later is = ap (λ rest. event.Write address width value ∷ rest) (up_to-made made next later is)
up_to-made (event.Say said ∷ made) next later is = ap (λ rest. event.Say said ∷ rest) (up_to-made made next later is)

-- what a list has behind others
behind : (P : Event → Type 0) (made : List Event) (next : Event) (later : List Event) → AllByRecursion P (made ++ next ∷ later) → P next
behind P [] next later all = all.0
behind P (first ∷ made) next later all = behind P made next later all.1

drop_one : {A : Type 0} (n : ℕ) (xs : List A) (x : A) (rest : List A) → drop n xs ≡ x ∷ rest → drop (n + 1) xs ≡ rest
drop_one zero xs x rest is = ap (drop 1) is
drop_one (suc n) [] x rest is = absurd (let e : [] ≡ x ∷ rest = is in cc)
drop_one (suc n) (first ∷ xs) x rest is =
    let next : suc n + 1 ≡ suc (n + 1) = omega arith in
    ap (λ (m : ℕ). drop m (first ∷ xs)) next ∙ drop_one n xs x rest is

-- ---- deed by deed

-- what is there to come, with no more answers
pub meant_now : (krate : CrateTree) (script : Script) (made : List Event) (deeds : List Deed) → AreLeft krate script made deeds → text_meaning krate script (reads_in made) ≡ made ++ deeds_mean deeds (reads_in made) []
meant_now krate script made deeds left = ap (text_meaning krate script) (sym (append-nil (reads_in made))) ∙ left.meant []

-- the next access may be made
pub may_read : (krate : CrateTree) (script : Script) (made : List Event) (at : Target) (deeds : List Deed) → AreLeft krate script made (deed.Read at ∷ deeds) → MayMake (deed.Read at) (reads_in made)
unfolding deeds_mean
may_read krate script made at deeds left =
    (behind EventInRange made _ _ (subst (λ (events : List Event). AllByRecursion EventInRange events) (meant_now krate script made (deed.Read at ∷ deeds) left) (left.in_range (reads_in made)))).0

pub left_read : (krate : CrateTree) (script : Script) (made : List Event) (at : Target) (deeds : List Deed) (value : ℕ) → value < 2 ^ bits_of at.width → AreLeft krate script made (deed.Read at ∷ deeds) → AreLeft krate script (made ++ event.Read at.address at.width value ∷ []) deeds
unfolding deeds_mean deeds_dues
left_read krate script made at deeds value small left =
    let event_is = event.Read at.address at.width value in
    let reads : reads_in (made ++ event_is ∷ []) ≡ reads_in made ++ value ∷ [] = reads_in-append made (event_is ∷ []) in
    let count : length (accesses_in (made ++ event_is ∷ [])) ≡ length (accesses_in made) + 1 = accesses-count made (event_is ∷ []) in
    let cut : value % 2 ^ bits_of at.width ≡ value = mod-eq_of_lt small in
    record {
      meant = λ later.
          ap (λ (words : List ℕ). text_meaning krate script (words ++ later)) reads
          ∙ (ap (text_meaning krate script) (append_assoc (reads_in made) (value ∷ []) later)
          ∙ (left.meant (value ∷ later)
          ∙ (ap (λ (v : ℕ). made ++ event.Read at.address at.width v ∷ deeds_mean deeds (reads_in made ++ v ∷ []) later) cut
          ∙ (sym (append_assoc made (event_is ∷ []) (deeds_mean deeds (reads_in made ++ value ∷ []) later))
          ∙ ap (λ (words : List ℕ). (made ++ event_is ∷ []) ++ deeds_mean deeds words later) (sym reads)))));
      due = ap (λ (n : ℕ). drop n (dues krate script)) count ∙ drop_one (length (accesses_in made)) (dues krate script) (target_due at) (deeds_dues deeds) left.due;
      in_range = left.in_range;
    }

pub may_write : (krate : CrateTree) (script : Script) (made : List Event) (at : Target) (from : Start) (puts : _) (deeds : List Deed) → AreLeft krate script made (deed.Write at from puts ∷ deeds) → MayMake (deed.Write at from puts) (reads_in made)
unfolding deeds_mean
may_write krate script made at from puts deeds left =
    behind EventInRange made _ _ (subst (λ (events : List Event). AllByRecursion EventInRange events) (meant_now krate script made (deed.Write at from puts ∷ deeds) left) (left.in_range (reads_in made)))

pub left_write : (krate : CrateTree) (script : Script) (made : List Event) (at : Target) (from : Start) (puts : _) (deeds : List Deed) → AreLeft krate script made (deed.Write at from puts ∷ deeds) → AreLeft krate script (made ++ event.Write at.address at.width (word_of at (reads_in made) from puts.items) ∷ []) deeds
unfolding deeds_mean deeds_dues
left_write krate script made at from puts deeds left =
    let event_is = event.Write at.address at.width (word_of at (reads_in made) from puts.items) in
    let reads : reads_in (made ++ event_is ∷ []) ≡ reads_in made = reads_in-append made (event_is ∷ []) ∙ append-nil (reads_in made) in
    let count : length (accesses_in (made ++ event_is ∷ [])) ≡ length (accesses_in made) + 1 = accesses-count made (event_is ∷ []) in
    record {
      meant = λ later.
          ap (λ (words : List ℕ). text_meaning krate script (words ++ later)) reads
          ∙ (left.meant later
          ∙ (sym (append_assoc made (event_is ∷ []) (deeds_mean deeds (reads_in made) later))
          ∙ ap (λ (words : List ℕ). (made ++ event_is ∷ []) ++ deeds_mean deeds words later) (sym reads)));
      due = ap (λ (n : ℕ). drop n (dues krate script)) count ∙ drop_one (length (accesses_in made)) (dues krate script) (target_due at) (deeds_dues deeds) left.due;
      in_range = left.in_range;
    }

pub left_said : (krate : CrateTree) (script : Script) (made : List Event) (value : Operand) (deeds : List Deed) → AreLeft krate script made (deed.Say value ∷ deeds) → AreLeft krate script (made ++ event.Say (operand_said (reads_in made) value) ∷ []) deeds
unfolding deeds_mean deeds_dues
left_said krate script made value deeds left =
    let event_is = event.Say (operand_said (reads_in made) value) in
    let reads : reads_in (made ++ event_is ∷ []) ≡ reads_in made = reads_in-append made (event_is ∷ []) ∙ append-nil (reads_in made) in
    let count : length (accesses_in (made ++ event_is ∷ [])) ≡ length (accesses_in made) = accesses-count made (event_is ∷ []) ∙ (omega arith) in
    record {
      meant = λ later.
          ap (λ (words : List ℕ). text_meaning krate script (words ++ later)) reads
          ∙ (left.meant later
          ∙ (sym (append_assoc made (event_is ∷ []) (deeds_mean deeds (reads_in made) later))
          ∙ ap (λ (words : List ℕ). (made ++ event_is ∷ []) ++ deeds_mean deeds words later) (sym reads)));
      due = ap (λ (n : ℕ). drop n (dues krate script)) count ∙ left.due;
      in_range = left.in_range;
    }

-- ---- where a run stands

-- nothing is left
pub all_made : (krate : CrateTree) (script : Script) (made : List Event) → AreLeft krate script made [] → IsAll krate script made
unfolding deeds_mean
all_made krate script made left = sym (meant_now krate script made [] left ∙ append-nil made)

-- an access is next
pub under_way_at : (krate : CrateTree) (script : Script) (made later : List Event) (next : Event) → IsAccess next → text_meaning krate script (reads_in made) ≡ made ++ next ∷ later → IsUnderWay krate script made
under_way_at krate script made later next is all = record {
  prefix = sym (ap (λ (events : List Event). up_to events (length (accesses_in made))) all ∙ up_to-made made next later is);
  more = omega (arith, ap (λ (events : List Event). length (accesses_in events)) all, accesses-count made (next ∷ later), one_more next later is);
}
  where
    one_more : (next : Event) (later : List Event) → IsAccess next → 1 ≤ length (accesses_in (next ∷ later))
    one_more (event.Read address width value) later is = omega arith
    one_more (event.Write address width value) later is = omega arith
    one_more (event.Say said) later is = absurd is
