-- The reader that looks for the form alone ends at no tag for its depth.
use Rattle.std.proofs.Common.{◌≡◌, ℕ, Bool, true, false, cond, List, [], ◌∷◌, refl, inr}
use Rattle.std.specs.Str.{bytes_eq}
use Rattle.xml_text.specs.Parts.{XmlPart, starts, ends, says, refers, comments}
use Rattle.svd_text.specs.declared.content.Content.{Content}
use Rattle.svd_text.specs.declared.content.Content.TheVariants.{Whole, Behind, Parts, Value, Anything}
use Rattle.svd_text.specs.declared.fault.TextFault.{TextFault}
use Rattle.svd_text.specs.declared.fault.TextFault.TheVariants.{Syntax, TooDeep, Memory}
use Rattle.std.specs.Prelude.{Err}
use Rattle.svd_text.specs.Machine.{Outcome, goes, breaks, sinks, ◌>>=◌, Parts as PartsOf, ended, broken, then_one, parts_of, State, left, step, run}
use Rattle.svd_text.specs.Reading.{Fails, Passed, is_white, may_open, passes_text, passes_opened, checking, passing, had_device, checked, BodySays}

-- it doesn't end there
abbrev Stays : {A : Type 0} → Outcome A → Type 0
Stays {A} outcome = (name : ℕ × ℕ) → outcome ≡ sinks name → ⊥

bind-stays : {A B : Type 0} (outcome : Outcome A) (next : A → Outcome B) → Stays outcome → ((x : A) → Stays (next x)) → Stays (outcome >>= next)
bind-stays (goes x) next one more = more x
bind-stays breaks next one more = λ name e. cc
bind-stays (sinks found) next one more = absurd (one found refl)

goes-stays : {A : Type 0} (x : A) → Stays (goes x)
goes-stays x name e = cc

guard-stays : {A : Type 0} (test : Bool) (x : A) → Stays (cond test (goes x) breaks)
guard-stays true x name e = cc
guard-stays false x name e = cc

text-stays : (content : Content) (element : Passed) (white : Bool) → Stays (passes_text content element white)
text-stays Whole element white = guard-stays white element
text-stays Behind element white = guard-stays white element
text-stays (Parts container) element white = guard-stays white element
text-stays Value element white = goes-stays element
text-stays Anything element white = goes-stays element

opened-stays : (element : Passed) (name : List ℕ) → Stays (passes_opened element name)
unfolding passes_opened
opened-stays element name = guard-stays (may_open element.content name) _

left-stays : (top : Passed) (outer : List Passed) (name from behind : List ℕ) → Stays (left checking top outer name from behind)
left-stays top [] name from behind = λ found e. cc
left-stays top (parent ∷ outer) name from behind = guard-stays (bytes_eq name top.name) _

step-stays : (state : State Passed) (part : XmlPart) (from behind : List ℕ) → Stays (step checking state part from behind)
step-stays state (starts tag) from behind = bind-stays (passes_opened state.top tag.name) _ (opened-stays state.top tag.name) (λ inner. goes-stays _)
step-stays state (ends name) from behind = left-stays state.top state.outer name from behind
step-stays state (says said) from behind = bind-stays (passes_text state.top.content state.top (is_white said)) _ (text-stays state.top.content state.top (is_white said)) (λ top. goes-stays _)
step-stays state (refers scalar) from behind = bind-stays (passes_text state.top.content state.top false) _ (text-stays state.top.content state.top false) (λ top. goes-stays _)
step-stays state comments from behind = goes-stays state

run-stays : (parts : PartsOf) (state : State Passed) → Stays (run checking parts state)
unfolding run
run-stays ended state = goes-stays state
run-stays broken state = λ name e. cc
run-stays (then_one part from behind others) state = bind-stays (step checking state part from behind) (run checking others) (step-stays state part from behind) (λ next. run-stays others next)

device-stays : (outer : List Passed) (content : Content) → Stays (had_device outer content)
device-stays [] Behind = goes-stays tt
device-stays [] Whole = λ name e. cc
device-stays [] (Parts container) = λ name e. cc
device-stays [] Value = λ name e. cc
device-stays [] Anything = λ name e. cc
device-stays (one ∷ outer) content = λ name e. cc

checked-stays : (body : List ℕ) → Stays (checked body)
checked-stays body = bind-stays (run checking (parts_of body) passing) (λ state. had_device state.outer state.top.content) (run-stays (parts_of body) passing) (λ state. device-stays state.outer state.top.content)

-- a fault of it is one of the body
pub fails_says : (total : ℕ) (body : List ℕ) (fault : TextFault) → Fails fault (checked body) → BodySays total body (Err fault)
fails_says total body (Syntax at) fails = inr fails
fails_says total body (TooDeep span) fails = absurd (checked-stays body (span.start, span.end) fails)
fails_says total body Memory fails = tt
