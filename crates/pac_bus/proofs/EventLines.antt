-- The lines of events, one behind the other.
use Rattle.std.proofs.Common.{ℕ, ◌≡◌, ◌<◌, ◌≤◌, ◌+◌, List, [], ◌∷◌, ◌++◌, length, get_or, drop, ap, ◌∙◌, sym, subst, Option, arith, drop-cons, add-one}
use Rattle.std.proofs.lemmas.Grind.{common_steps}
use Rattle.std.proofs.lemmas.List.{append-nil}
use Rattle.frag_tree.specs.declared.event.Event.{Event}
use Rattle.pac_io.specs.WrittenUpTo.{WrittenUpTo}
use Rattle.pac_io.specs.Writing.{AppendsPrefix}
use Rattle.pac_io.proofs.WrittenUpTo.{page_went_on, page_broke_off}
use Rattle.pac_bus.specs.EventTexts.{event_line, event_text}

-- the lines of the event at a place and of those behind it
text_from : (events : List Event) (i : ℕ) (past : Event) → i < length events → event_text (drop i events) ≡ event_line (get_or events i past) ++ event_text (drop (i + 1) events)
text_from events i past below = ap event_text (drop-cons events i past below ∙ ap (λ n. get_or events i past ∷ drop n events) (sym (add-one i)))

module _ (old mid now : Option (List ℕ)) (events : List Event) (i : ℕ) (past : Event) (page pushed : List ℕ) where
  so_far : i < length events → WrittenUpTo old mid (event_text events) (page ++ event_text (drop i events)) → WrittenUpTo old mid (event_text events) (page ++ (event_line (get_or events i past) ++ event_text (drop (i + 1) events)))
  so_far below before = subst (λ (left : List ℕ). WrittenUpTo old mid (event_text events) (page ++ left)) (text_from events i past below) before

  -- the line of one more event went to the page, and the page was turned
  pub line_went_on : (held : List ℕ) → i < length events → pushed ≡ page ++ event_line (get_or events i past) → WrittenUpTo old mid (event_text events) (page ++ event_text (drop i events)) → WrittenUpTo mid now pushed held → WrittenUpTo old now (event_text events) (held ++ event_text (drop (i + 1) events))
  line_went_on held below same before more =
      page_went_on page (event_line (get_or events i past)) (event_text (drop (i + 1) events)) held (so_far below before) (subst (λ (text : List ℕ). WrittenUpTo mid now text held) same more)

  -- the page with the line of one more event broke off
  pub line_broke_off : i < length events → pushed ≡ page ++ event_line (get_or events i past) → WrittenUpTo old mid (event_text events) (page ++ event_text (drop i events)) → AppendsPrefix mid now pushed → AppendsPrefix old now (event_text events)
  line_broke_off below same before more =
      page_broke_off page (event_line (get_or events i past)) (event_text (drop (i + 1) events)) (so_far below before) (subst (λ (text : List ℕ). AppendsPrefix mid now text) same more)

-- no event is left
pub all_lines : (old now : Option (List ℕ)) (events : List Event) (i : ℕ) (page : List ℕ) → length events ≤ i → WrittenUpTo old now (event_text events) (page ++ event_text (drop i events)) → WrittenUpTo old now (event_text events) page
all_lines old now events i page past before =
    let none : drop i events ≡ [] = grind (arith, common_steps) in
    subst (λ (left : List ℕ). WrittenUpTo old now (event_text events) left) (ap (λ (xs : List Event). page ++ event_text xs) none ∙ append-nil page) before
