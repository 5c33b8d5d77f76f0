-- Both readers go on exactly where texts, references and elements may stand.
use Rattle.std.proofs.Common.{◌≡◌, ℕ, suc, Bool, true, false, cond, List, refl, sym, ap, ◌∙◌}
use Rattle.std.specs.Prelude.{nat_lt}
use Rattle.svd_text.specs.declared.content.Content.{Content}
use Rattle.svd_text.specs.declared.content.Content.TheVariants.{Whole, Behind, Parts, Value, Anything}
use Rattle.svd_text.specs.Contents.{content_in, MaySay, MayRefer}
use Rattle.svd_text.specs.ElementText.{Contents, nothing, says, refers, comments, holds}
use Rattle.svd_text.specs.Machine.{Outcome, goes, sinks, ◌>>=◌}
use Rattle.svd_text.specs.Nesting.{depth_limit}
use Rattle.svd_text.specs.Reading.{Open, Passed, is_white, may_open, past, more_said, says_by, says_in, refers_by, refers_in, opened_in, opens_in, span_of, with_child, building, passes_text, passes_opened, checking}
use Rattle.svd_text.proofs.Outcomes.{goes_is, guard_goes}
use Rattle.svd_text.proofs.Walks.{walk, Allowed, end_of, Judges}

-- ---- the reader of elements

abbrev Same : Open → Open → Type 0
Same one after = (after.content ≡ one.content) × (after.name ≡ one.name)

same_goes : (one other after : Open) → other.content ≡ one.content → other.name ≡ one.name → goes other ≡ goes after → Same one after
same_goes one other after content name e =
    let same = sym (goes_is other after e) in
    (ap (λ (o : Open). o.content) same ∙ content, ap (λ (o : Open). o.name) same ∙ name)

says_judged : (content : Content) (element : Open) (said : List ℕ) (after : Open) → says_by content element said ≡ goes after → MaySay content said × Same element after
says_judged Value element said after e = (tt, same_goes element (more_said element said) after refl refl e)
says_judged Anything element said after e = (tt, same_goes element element after refl refl e)
says_judged Whole element said after e = let white = guard_goes (is_white said) (goes element) after e in (white.0, same_goes element element after refl refl white.1)
says_judged Behind element said after e = let white = guard_goes (is_white said) (goes element) after e in (white.0, same_goes element element after refl refl white.1)
says_judged (Parts container) element said after e = let white = guard_goes (is_white said) (goes element) after e in (white.0, same_goes element element after refl refl white.1)

refers_judged : (content : Content) (element : Open) (scalar : ℕ) (after : Open) → refers_by content element scalar ≡ goes after → MayRefer content × Same element after
refers_judged Value element scalar after e = (tt, same_goes element (more_said element _) after refl refl e)
refers_judged Anything element scalar after e = (tt, same_goes element element after refl refl e)
refers_judged Whole element scalar after e = absurd cc
refers_judged Behind element scalar after e = absurd cc
refers_judged (Parts container) element scalar after e = absurd cc

deep_judged : (test : Bool) (element after : Open) (name : ℕ × ℕ) → cond test (goes element) (sinks name) ≡ goes after → element ≡ after
deep_judged true element after name e = goes_is element after e
deep_judged false element after name e = absurd cc

pub judges_building : (total : ℕ) → Judges Open (building total) (λ element. element.content)
unfolding says_in refers_in opens_in opened_in with_child
judges_building total = record {
  saying = λ element said after e. let judged = says_judged element.content element said after e in (judged.0, judged.1.0, judged.1.1);
  referring = λ element scalar after e. let judged = refers_judged element.content element scalar after e in (judged.0, judged.1.0, judged.1.1);
  opening = λ depth element tag from behind inner e.
      let may = guard_goes (may_open element.content tag.name) (cond (nat_lt depth depth_limit) (goes (opened_in total element.content tag from behind)) (sinks (span_of total tag from))) inner e in
      let same = sym (deep_judged (nat_lt depth depth_limit) (opened_in total element.content tag from behind) inner (span_of total tag from) may.1) in
      (may.0, ap (λ (o : Open). o.content) same, ap (λ (o : Open). o.name) same);
  closing = λ element inner from behind. (refl, refl);
}

-- ---- the reader that looks for the form alone

passes_judged : (content : Content) (element : Passed) (white : Bool) (after : Passed) → passes_text content element white ≡ goes after → after ≡ element
passes_judged Value element white after e = sym (goes_is element after e)
passes_judged Anything element white after e = sym (goes_is element after e)
passes_judged Whole element white after e = sym (goes_is element after (guard_goes white (goes element) after e).1)
passes_judged Behind element white after e = sym (goes_is element after (guard_goes white (goes element) after e).1)
passes_judged (Parts container) element white after e = sym (goes_is element after (guard_goes white (goes element) after e).1)

passes_say : (content : Content) (element : Passed) (said : List ℕ) (after : Passed) → passes_text content element (is_white said) ≡ goes after → MaySay content said
passes_say Value element said after e = tt
passes_say Anything element said after e = tt
passes_say Whole element said after e = (guard_goes (is_white said) (goes element) after e).0
passes_say Behind element said after e = (guard_goes (is_white said) (goes element) after e).0
passes_say (Parts container) element said after e = (guard_goes (is_white said) (goes element) after e).0

passes_refer : (content : Content) (element after : Passed) → passes_text content element false ≡ goes after → MayRefer content
passes_refer Value element after e = tt
passes_refer Anything element after e = tt
passes_refer Whole element after e = absurd cc
passes_refer Behind element after e = absurd cc
passes_refer (Parts container) element after e = absurd cc

abbrev within : Passed → List ℕ → Passed
within element name = record { content = content_in element.content name; name = name }

pub judges_checking : Judges Passed checking (λ element. element.content)
unfolding passes_opened
judges_checking = record {
  saying = λ element said after e.
      let same = passes_judged element.content element (is_white said) after e in
      (passes_say element.content element said after e, ap (λ (o : Passed). o.content) same, ap (λ (o : Passed). o.name) same);
  referring = λ element scalar after e.
      let same = passes_judged element.content element false after e in
      (passes_refer element.content element after e, ap (λ (o : Passed). o.content) same, ap (λ (o : Passed). o.name) same);
  opening = λ depth element tag from behind inner e.
      let may = guard_goes (may_open element.content tag.name) (goes (within element tag.name)) inner e in
      let same = sym (goes_is (within element tag.name) inner may.1) in
      (may.0, ap (λ (o : Passed). o.content) same, ap (λ (o : Passed). o.name) same);
  closing = λ element inner from behind. (refl, refl);
}

say_passes : (content : Content) (element : Passed) (said : List ℕ) → MaySay content said → passes_text content element (is_white said) ≡ goes element
say_passes Value element said may = refl
say_passes Anything element said may = refl
say_passes Whole element said may = rw may refl
say_passes Behind element said may = rw may refl
say_passes (Parts container) element said may = rw may refl

refer_passes : (content : Content) (element : Passed) → MayRefer content → passes_text content element false ≡ goes element
refer_passes Value element may = refl
refer_passes Anything element may = refl
refer_passes Whole element may = absurd may
refer_passes Behind element may = absurd may
refer_passes (Parts container) element may = absurd may

abbrev pub behind_all : Passed → Contents → Passed
behind_all element contents = record { content = end_of element.content contents; name = element.name }

-- where all may stand, it goes through
pub passes : (depth : ℕ) (contents : Contents) (element : Passed) → Allowed element.content contents → walk checking depth contents element ≡ goes (behind_all element contents)
unfolding walk Allowed end_of passes_opened
passes depth nothing element allowed = refl
passes depth (says said behind others) element allowed =
    ap (λ (o : Outcome Passed). o >>= walk checking depth others) (say_passes element.content element said allowed.0) ∙ passes depth others element allowed.1
passes depth (refers scalar behind others) element allowed =
    ap (λ (o : Outcome Passed). o >>= walk checking depth others) (refer_passes element.content element allowed.0) ∙ passes depth others element allowed.1
passes depth (comments behind others) element allowed = passes depth others element allowed
passes depth (holds outline inside others) element allowed =
    rw (allowed.0) (
    ap (λ (o : Outcome Passed). o >>= λ whole. walk checking depth others (record { content = past element.content; name = element.name })) (passes (suc depth) inside (within element outline.tag.name) allowed.1)
    ∙ passes depth others (record { content = past element.content; name = element.name }) allowed.2)
