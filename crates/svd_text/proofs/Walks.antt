-- Going through a text part by part, with a stack, is going through its contents, element by element.
use Rattle.std.proofs.Common.{◌≡◌, ℕ, zero, suc, ◌≤◌, Bool, true, false, List, [], ◌∷◌, length, refl, sym, ap, subst, ◌∙◌, inl, inr, arith}
use Rattle.std.specs.Str.{bytes_eq}
use Rattle.std.proofs.lemmas.Bool.{cases_Bool}
use Rattle.std.proofs.lemmas.Slice.Eq.{bytes_eq-Decides}
use Rattle.text_scan.proofs.Steps.{cases_option}
use Rattle.xml_text.specs.Parts.{XmlTag, XmlPart, starts, ends, says as says_part, refers as refers_part, comments as comments_part, IsPart, IsStartTag, IsEndTag}
use Rattle.xml_text.specs.Reading.{part_at}
use Rattle.xml_text.proofs.Lengths.{IsPart-length}
use Rattle.xml_text.proofs.Parts.{part_takes, part_again}
use Rattle.svd_text.specs.declared.content.Content.{Content}
use Rattle.svd_text.specs.Contents.{content_in, MaySay, MayRefer}
use Rattle.svd_text.specs.ElementText.{Outline, Contents, nothing, says, refers, comments, holds, Closes, Stand}
use Rattle.svd_text.specs.Machine.{Outcome, goes, breaks, ◌>>=◌, Parts, parts_of, Machine, State, entered, left, step, run}
use Rattle.svd_text.specs.Reading.{may_open, past}
use Rattle.svd_text.proofs.Outcomes.{goes_is, bind_goes, bind_assoc, bind_along}
use Rattle.svd_text.proofs.PartsOf.{parts_of-end, parts_of-some, parts_of-none}
use Rattle.svd_text.proofs.White.{some_left}

-- what the contents make of an element in which they stand, so many being open round it
unfoldable pub walk : {F : Type 0} → Machine F → ℕ → Contents → F → Outcome F
walk machine depth nothing element = goes element
walk machine depth (says said behind others) element = machine.says element said >>= walk machine depth others
walk machine depth (refers scalar behind others) element = machine.refers element scalar >>= walk machine depth others
walk machine depth (comments behind others) element = walk machine depth others element
walk machine depth (holds outline inside others) element =
    machine.opens depth element outline.tag outline.from outline.inside >>= λ inner. walk machine (suc depth) inside inner >>= λ whole.
    walk machine depth others (machine.closes element whole outline.closing outline.behind)

-- texts, references and elements stand where they may
unfoldable pub Allowed : Content → Contents → Type 0
Allowed content nothing = Unit {0}
Allowed content (says said behind others) = MaySay content said × Allowed content others
Allowed content (refers scalar behind others) = MayRefer content × Allowed content others
Allowed content (comments behind others) = Allowed content others
Allowed content (holds outline inside others) =
    (may_open content outline.tag.name ≡ true) × Allowed (content_in content outline.tag.name) inside × Allowed (past content) others

-- what may stand behind contents
unfoldable pub end_of : Content → Contents → Content
end_of content nothing = content
end_of content (says said behind others) = end_of content others
end_of content (refers scalar behind others) = end_of content others
end_of content (comments behind others) = end_of content others
end_of content (holds outline inside others) = end_of (past content) others

-- a reader that goes on only where it may
pub record Judges (F : Type 0) (machine : Machine F) (content : F → Content) : Type 0 where
  pub saying : (element : F) (said : List ℕ) (after : F) → machine.says element said ≡ goes after
      → MaySay (content element) said × (content after ≡ content element) × (machine.name after ≡ machine.name element)
  pub referring : (element : F) (scalar : ℕ) (after : F) → machine.refers element scalar ≡ goes after
      → MayRefer (content element) × (content after ≡ content element) × (machine.name after ≡ machine.name element)
  pub opening : (depth : ℕ) (element : F) (tag : XmlTag) (from behind : List ℕ) (inner : F) → machine.opens depth element tag from behind ≡ goes inner
      → (may_open (content element) tag.name ≡ true) × (content inner ≡ content_in (content element) tag.name) × (machine.name inner ≡ tag.name)
  pub closing : (element inner : F) (from behind : List ℕ)
      → (content (machine.closes element inner from behind) ≡ past (content element)) × (machine.name (machine.closes element inner from behind) ≡ machine.name element)

module _ (F : Type 0) (machine : Machine F) (content : F → Content) (judges : Judges F machine content) where
  abbrev with_outer : F → List F → State F
  with_outer top outer = record { top = top; outer = outer }

  pub judged : (depth : ℕ) (contents : Contents) (element after : F) → walk machine depth contents element ≡ goes after
      → Allowed (content element) contents × (content after ≡ end_of (content element) contents) × (machine.name after ≡ machine.name element)
  unfolding walk Allowed end_of
  judged depth nothing element after e = let same = goes_is element after e in (tt, ap content (sym same), ap machine.name (sym same))
  judged depth (says said behind others) element after e =
      let read = bind_goes (machine.says element said) (walk machine depth others) after e in
      let one = judges.saying element said read.0 read.1 in
      let more = judged depth others read.0 after read.2 in
      ((one.0, subst (λ (c : Content). Allowed c others) one.1 more.0), more.1 ∙ ap (λ (c : Content). end_of c others) one.1, more.2 ∙ one.2)
  judged depth (refers scalar behind others) element after e =
      let read = bind_goes (machine.refers element scalar) (walk machine depth others) after e in
      let one = judges.referring element scalar read.0 read.1 in
      let more = judged depth others read.0 after read.2 in
      ((one.0, subst (λ (c : Content). Allowed c others) one.1 more.0), more.1 ∙ ap (λ (c : Content). end_of c others) one.1, more.2 ∙ one.2)
  judged depth (comments behind others) element after e = judged depth others element after e
  judged depth (holds outline inside others) element after e =
      let next = λ (whole : F). walk machine depth others (machine.closes element whole outline.closing outline.behind) in
      let opened = bind_goes (machine.opens depth element outline.tag outline.from outline.inside) (λ inner. walk machine (suc depth) inside inner >>= next) after e in
      let whole = bind_goes (walk machine (suc depth) inside opened.0) next after opened.2 in
      let one = judges.opening depth element outline.tag outline.from outline.inside opened.0 opened.1 in
      let within = judged (suc depth) inside opened.0 whole.0 whole.1 in
      let more = judged depth others (machine.closes element whole.0 outline.closing outline.behind) after whole.2 in
      let ended = judges.closing element whole.0 outline.closing outline.behind in
      ((one.0, subst (λ (c : Content). Allowed c inside) one.1 within.0, subst (λ (c : Content). Allowed c others) ended.0 more.0), more.1 ∙ ap (λ (c : Content). end_of c others) ended.0, more.2 ∙ ended.1)

  at_part : (part : XmlPart) (text behind : List ℕ) (state : State F) → IsPart part text behind → run machine (parts_of text) state ≡ (step machine state part text behind >>= run machine (parts_of behind))
  unfolding run
  at_part part text behind state is = ap (λ (parts : Parts). run machine parts state) (parts_of-some text part behind (part_again part text behind is))

  along_top : (read : Outcome F) (outer : List F) (next : F → Outcome F) (last : F → Outcome (State F)) (parts : Parts) → ((top : F) → run machine parts (with_outer top outer) ≡ (next top >>= last))
      → ((read >>= λ top. goes (with_outer top outer)) >>= run machine parts) ≡ ((read >>= next) >>= last)
  along_top read outer next last parts same =
      bind_assoc read (λ top. goes (with_outer top outer)) (run machine parts)
      ∙ bind_along read (λ top. run machine parts (with_outer top outer)) (λ top. next top >>= last) (λ top _. same top)
      ∙ sym (bind_assoc read next last)

  pub run_walks : (contents : Contents) (text rest : List ℕ) (element : F) (outer : List F) → Stand contents text rest
      → run machine (parts_of text) (with_outer element outer) ≡ (walk machine (length outer) contents element >>= λ after. run machine (parts_of rest) (with_outer after outer))
  unfolding walk
  run_walks nothing text rest element outer same = ap (λ (t : List ℕ). run machine (parts_of t) (with_outer element outer)) same
  run_walks (says said behind others) text rest element outer stand =
      at_part (says_part said) text behind (with_outer element outer) stand.0
      ∙ along_top (machine.says element said) outer (walk machine (length outer) others) (λ after. run machine (parts_of rest) (with_outer after outer)) (parts_of behind)
      (λ top. run_walks others behind rest top outer stand.1)
  run_walks (refers scalar behind others) text rest element outer stand =
      at_part (refers_part scalar) text behind (with_outer element outer) stand.0
      ∙ along_top (machine.refers element scalar) outer (walk machine (length outer) others) (λ after. run machine (parts_of rest) (with_outer after outer)) (parts_of behind)
      (λ top. run_walks others behind rest top outer stand.1)
  run_walks (comments behind others) text rest element outer stand =
      at_part comments_part text behind (with_outer element outer) stand.0 ∙ run_walks others behind rest element outer stand.1
  run_walks (holds outline inside others) text rest element outer stand =
      ap (λ (t : List ℕ). run machine (parts_of t) (with_outer element outer)) stand.0
      ∙ at_part (starts outline.tag) outline.from outline.inside (with_outer element outer) stand.1
      ∙ bind_assoc opened (λ inner. goes (entered machine (with_outer element outer) outline.tag.closes_itself outline.inside inner)) (run machine (parts_of outline.inside))
      ∙ bind_along opened (λ inner. run machine (parts_of outline.inside) (entered machine (with_outer element outer) outline.tag.closes_itself outline.inside inner)) (λ inner. (walk machine (suc (length outer)) inside inner >>= next) >>= last)
      (λ inner is_open. by_closer outline.tag.closes_itself inner is_open stand.3
      (run_walks inside outline.inside outline.closing inner (element ∷ outer) stand.2) (λ top. run_walks others outline.behind rest top outer stand.4))
      ∙ sym (bind_assoc opened (λ inner. walk machine (suc (length outer)) inside inner >>= next) last)
    where
      opened : Outcome F
      opened = machine.opens (length outer) element outline.tag outline.from outline.inside

      next : F → Outcome F
      next whole = walk machine (length outer) others (machine.closes element whole outline.closing outline.behind)

      last : F → Outcome (State F)
      last after = run machine (parts_of rest) (with_outer after outer)

      by_closer : (closes_itself : Bool) (inner : F) → opened ≡ goes inner → Closes closes_itself outline inside
          → run machine (parts_of outline.inside) (with_outer inner (element ∷ outer)) ≡ (walk machine (length (element ∷ outer)) inside inner >>= λ whole. run machine (parts_of outline.closing) (with_outer whole (element ∷ outer)))
          → ((top : F) → run machine (parts_of outline.behind) (with_outer top outer) ≡ (walk machine (length outer) others top >>= last))
          → run machine (parts_of outline.inside) (entered machine (with_outer element outer) closes_itself outline.inside inner) ≡ ((walk machine (suc (length outer)) inside inner >>= next) >>= last)
      by_closer true inner is_open closes within more =
          (λ i. run machine (parts_of (sym closes.2 i)) (with_outer (machine.closes element inner (sym closes.1 i) (sym closes.2 i)) outer))
          ∙ more (machine.closes element inner outline.closing outline.behind)
          ∙ ap (λ (t : Contents). (walk machine (suc (length outer)) t inner >>= next) >>= last) (sym closes.0)
      by_closer false inner is_open closes within more =
          within
          ∙ bind_along (walk machine (suc (length outer)) inside inner) (λ whole. run machine (parts_of outline.closing) (with_outer whole (element ∷ outer))) (λ whole. next whole >>= last)
          (λ whole walked. at_part (ends outline.tag.name) outline.closing outline.behind (with_outer whole (element ∷ outer)) closes
          ∙ ap (λ (o : Outcome (State F)). o >>= run machine (parts_of outline.behind)) (same_name whole walked)
          ∙ more (machine.closes element whole outline.closing outline.behind))
          ∙ sym (bind_assoc (walk machine (suc (length outer)) inside inner) next last)
        where
          same_name : (whole : F) → walk machine (suc (length outer)) inside inner ≡ goes whole
              → left machine whole (element ∷ outer) outline.tag.name outline.closing outline.behind ≡ goes (with_outer (machine.closes element whole outline.closing outline.behind) outer)
          same_name whole walked =
              let named = (judged (suc (length outer)) inside inner whole walked).2 ∙ (judges.opening (length outer) element outline.tag outline.from outline.inside inner is_open).2 in
              rw ((bytes_eq-Decides outline.tag.name (machine.name whole)).1 (sym named)) refl

  -- Contents that stand up to the end of an element, and behind that what stands in the elements round it, up to the end of the text; and what is made of
  -- all that.
  unfoldable pub Stacked : List F → F → List ℕ → F → Type 0
  Stacked [] element text final = (contents : Contents) × Stand contents text [] × (walk machine 0 contents element ≡ goes final)
  Stacked (parent ∷ outer) element text final =
      (contents : Contents) × (closing : List ℕ) × (behind : List ℕ) × (after : F)
      × Stand contents text closing × (walk machine (suc (length outer)) contents element ≡ goes after)
      × IsEndTag (machine.name after) closing behind × Stacked outer (machine.closes parent after closing behind) behind final

  -- one more in front of the contents
  in_front : (front : Contents → Contents) (element after : F) (text behind : List ℕ) (outer : List F) (final : F)
      → ((contents : Contents) (rest : List ℕ) → Stand contents behind rest → Stand (front contents) text rest)
      → ((contents : Contents) → walk machine (length outer) (front contents) element ≡ walk machine (length outer) contents after)
      → Stacked outer after behind final → Stacked outer element text final
  unfolding Stacked
  in_front front element after text behind [] final stands walks stacked = (front stacked.0, stands stacked.0 [] stacked.1, walks stacked.0 ∙ stacked.2)
  in_front front element after text behind (parent ∷ outer) final stands walks stacked =
      (front stacked.0, stacked.1, stacked.2, stacked.3, stands stacked.0 stacked.1 stacked.4, walks stacked.0 ∙ stacked.5, stacked.6, stacked.7)

  abbrev finished : F → State F
  finished final = with_outer final []

  at_end : (element : F) (outer : List F) (final : F) → with_outer element outer ≡ finished final → Stacked outer element [] final
  unfolding Stacked walk
  at_end element [] final same = (nothing, refl, ap (λ (state : State F). goes state.top) same)
  at_end element (parent ∷ outer) final same = absurd (let e = ap (λ (state : State F). state.outer) same in cc)

  abbrev More : List ℕ → F → Type 0
  More behind final = (element : F) (outer : List F) → run machine (parts_of behind) (with_outer element outer) ≡ goes (finished final) → Stacked outer element behind final

  by_end : (name text behind : List ℕ) (element : F) (outer : List F) (final : F) (next : State F) → IsEndTag name text behind → left machine element outer name text behind ≡ goes next
      → More behind final → run machine (parts_of behind) next ≡ goes (finished final) → Stacked outer element text final
  unfolding Stacked walk
  by_end name text behind element [] final next is stepped more e = absurd cc
  by_end name text behind element (parent ∷ outer) final next is stepped more e =
      elim (cases_Bool (bytes_eq name (machine.name element))) [
        | inl same ↦
            let stepped' : goes (with_outer (machine.closes parent element text behind) outer) ≡ goes next = rw same at stepped in
            let e' = ap (λ (state : State F). run machine (parts_of behind) state) (goes_is (with_outer (machine.closes parent element text behind) outer) next stepped') ∙ e in
            (nothing, text, behind, element, refl, refl, subst (λ (n : List ℕ). IsEndTag n text behind) ((bytes_eq-Decides name (machine.name element)).0 same) is, more (machine.closes parent element text behind) outer e')
        | inr other ↦ absurd (let stepped' : breaks ≡ goes next = rw other at stepped in cc)
      ]

  by_start : (tag : XmlTag) (text behind : List ℕ) (element inner : F) (outer : List F) (final : F) → IsStartTag tag text behind → machine.opens (length outer) element tag text behind ≡ goes inner
      → More behind final → run machine (parts_of behind) (entered machine (with_outer element outer) tag.closes_itself behind inner) ≡ goes (finished final) → Stacked outer element text final
  unfolding Stacked walk
  by_start tag text behind element inner outer final is is_open more e =
      elim (cases_Bool tag.closes_itself) [
        | inl alone ↦
            let e' = ap (λ (b : Bool). run machine (parts_of behind) (entered machine (with_outer element outer) b behind inner)) (sym alone) ∙ e in
            let outline : Outline = record { tag = tag; from = text; inside = behind; closing = behind; behind = behind } in
            in_front (holds outline nothing) element (machine.closes element inner behind behind) text behind outer final
            (λ others rest stand. (refl, is, refl, subst (λ (b : Bool). Closes b outline nothing) (sym alone) (refl, refl, refl), stand))
            (λ others. ap (λ (o : Outcome F). o >>= λ inner'. walk machine (length outer) others (machine.closes element inner' behind behind)) is_open)
            (more (machine.closes element inner behind behind) outer e')
        | inr wide ↦
            let e' = ap (λ (b : Bool). run machine (parts_of behind) (entered machine (with_outer element outer) b behind inner)) (sym wide) ∙ e in
            let stacked = more inner (element ∷ outer) e' in
            let outline : Outline = record { tag = tag; from = text; inside = behind; closing = stacked.1; behind = stacked.2 } in
            let named = (judged (suc (length outer)) stacked.0 inner stacked.3 stacked.5).2 ∙ (judges.opening (length outer) element tag text behind inner is_open).2 in
            in_front (holds outline stacked.0) element (machine.closes element stacked.3 stacked.1 stacked.2) text stacked.2 outer final
            (λ others rest stand. (refl, is, stacked.4, subst (λ (b : Bool). Closes b outline stacked.0) (sym wide) (subst (λ (n : List ℕ). IsEndTag n stacked.1 stacked.2) named stacked.6), stand))
            (λ others.
            ap (λ (o : Outcome F). o >>= λ inner'. walk machine (suc (length outer)) stacked.0 inner' >>= λ whole. walk machine (length outer) others (machine.closes element whole stacked.1 stacked.2)) is_open
            ∙ ap (λ (o : Outcome F). o >>= λ whole. walk machine (length outer) others (machine.closes element whole stacked.1 stacked.2)) stacked.5)
            stacked.7
      ]

  by_part : (part : XmlPart) (text behind : List ℕ) (element : F) (outer : List F) (final : F) (next : State F) → IsPart part text behind → step machine (with_outer element outer) part text behind ≡ goes next
      → More behind final → run machine (parts_of behind) next ≡ goes (finished final) → Stacked outer element text final
  unfolding walk
  by_part (starts tag) text behind element outer final next is stepped more e =
      let opened = bind_goes (machine.opens (length outer) element tag text behind) (λ inner. goes (entered machine (with_outer element outer) tag.closes_itself behind inner)) next stepped in
      by_start tag text behind element opened.0 outer final is opened.1 more
      (ap (λ (state : State F). run machine (parts_of behind) state) (goes_is (entered machine (with_outer element outer) tag.closes_itself behind opened.0) next opened.2) ∙ e)
  by_part (ends name) text behind element outer final next is stepped more e = by_end name text behind element outer final next is stepped more e
  by_part (says_part said) text behind element outer final next is stepped more e =
      let read = bind_goes (machine.says element said) (λ top. goes (with_outer top outer)) next stepped in
      in_front (says said behind) element read.0 text behind outer final (λ others rest stand. (is, stand)) (λ others. ap (λ (o : Outcome F). o >>= walk machine (length outer) others) read.1)
      (more read.0 outer (ap (λ (state : State F). run machine (parts_of behind) state) (goes_is (with_outer read.0 outer) next read.2) ∙ e))
  by_part (refers_part scalar) text behind element outer final next is stepped more e =
      let read = bind_goes (machine.refers element scalar) (λ top. goes (with_outer top outer)) next stepped in
      in_front (refers scalar behind) element read.0 text behind outer final (λ others rest stand. (is, stand)) (λ others. ap (λ (o : Outcome F). o >>= walk machine (length outer) others) read.1)
      (more read.0 outer (ap (λ (state : State F). run machine (parts_of behind) state) (goes_is (with_outer read.0 outer) next read.2) ∙ e))
  by_part comments_part text behind element outer final next is stepped more e =
      in_front (comments behind) element element text behind outer final (λ others rest stand. (is, stand)) (λ others. refl)
      (more element outer (ap (λ (state : State F). run machine (parts_of behind) state) (goes_is (with_outer element outer) next stepped) ∙ e))

  -- what goes through to the end of the text is contents
  stack_up_to : (most : ℕ) (text : List ℕ) (element : F) (outer : List F) (final : F) → length text ≤ most → run machine (parts_of text) (with_outer element outer) ≡ goes (finished final) → Stacked outer element text final
  unfolding run
  stack_up_to most [] element outer final within e =
      at_end element outer final (goes_is (with_outer element outer) (finished final) (sym (ap (λ (parts : Parts). run machine parts (with_outer element outer)) (parts_of-end [] refl)) ∙ e))
  stack_up_to zero (byte ∷ text) element outer final within e = absurd (omega arith)
  stack_up_to (suc most) (byte ∷ text) element outer final within e =
      elim (cases_option (part_at (byte ∷ text))) [
        | inl none ↦ absurd (let e' : breaks ≡ goes (finished final) = sym (ap (λ (parts : Parts). run machine parts (with_outer element outer)) (parts_of-none (byte ∷ text) (sym (some_left byte text)) none)) ∙ e in cc)
        | inr some ↦
            let part = some.0.0 in
            let behind = some.0.1 in
            let is = part_takes (byte ∷ text) part behind some.1 in
            let shorter = IsPart-length part (byte ∷ text) behind is in
            let stepped = bind_goes (step machine (with_outer element outer) part (byte ∷ text) behind) (run machine (parts_of behind)) (finished final) (sym (at_part part (byte ∷ text) behind (with_outer element outer) is) ∙ e) in
            by_part part (byte ∷ text) behind element outer final stepped.0 is stepped.1
            (λ element' outer' e'. stack_up_to most behind element' outer' final (omega arith) e') stepped.2
      ]

  pub contents_of : (text : List ℕ) (element final : F) → run machine (parts_of text) (with_outer element []) ≡ goes (finished final)
      → (contents : Contents) × Stand contents text [] × (walk machine 0 contents element ≡ goes final)
  unfolding Stacked
  contents_of text element final e = stack_up_to (length text) text element [] final (omega arith) e
