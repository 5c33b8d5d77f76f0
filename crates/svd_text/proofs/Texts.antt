-- What both readers say of the text behind its opening is what the bytes spell.
use Rattle.std.proofs.Common.{◌≡◌, ℕ, ◌≤◌, List, [], ◌∷◌, ◌++◌, length, Option, Some, None, Result, Ok, Err, refl, sym, ap, subst, ◌∙◌, inl, inr, arith}
use Rattle.std.specs.Prelude.{codes, IfOk}
use Rattle.std.specs.Str.{IsUtf8}
use Rattle.std.proofs.lemmas.List.{length-append}
use Rattle.text_scan.proofs.Follows.{Follows-length}
use Rattle.xml_text.specs.Opening.{byte_order_mark, IsUnmarked, IsUndeclared, IsOpening}
use Rattle.xml_text.proofs.Answering.{one_opening}
use Rattle.svd_text.specs.declared.content.Content.{Content}
use Rattle.svd_text.specs.declared.content.Content.TheVariants.{Whole, Behind, Parts, Value, Anything}
use Rattle.svd_text.specs.declared.element.Element.{Element}
use Rattle.svd_text.specs.declared.fault.TextFault.{TextFault}
use Rattle.svd_text.specs.declared.fault.TextFault.TheVariants.{Syntax, TooDeep, Memory}
use Rattle.svd_text.specs.Answers.{IsRead, SyntaxSays, TooDeepSays, Answers}
use Rattle.svd_text.specs.ElementText.{Contents, Stand, Fit, names_in, Text, Spells}
use Rattle.svd_text.specs.Machine.{Outcome, goes, breaks, sinks, ◌>>=◌, Machine, State, parts_of, run}
use Rattle.svd_text.specs.Nesting.{tags_in, first_deeper, first_too_deep}
use Rattle.svd_text.specs.Reading.{Open, Passed, whole_text, beginning, building, built, device_in, checking, passing, checked, had_device, BodySays}
use Rattle.svd_text.specs.TextElements.{elements_in, first_of, elements_of}
use Rattle.svd_text.specs.Tree.{Head, Elements}
use Rattle.svd_text.specs.Views.{element_of}
use Rattle.svd_text.proofs.Building.{grown, unless_deep, builds}
use Rattle.svd_text.proofs.Devices.{whole_again, whole_takes, none_in, some_in, Devices}
use Rattle.svd_text.proofs.Judging.{judges_building, judges_checking, passes, behind_all}
use Rattle.svd_text.proofs.Outcomes.{goes_is, bind_goes}
use Rattle.svd_text.proofs.PartsOf.{run_ended}
use Rattle.svd_text.proofs.Walks.{Allowed, end_of, judged, run_walks, contents_of}

-- what stands behind the opening is no longer than the bytes
pub opening-length : (bytes body : List ℕ) → IsOpening bytes body → length body ≤ length bytes
opening-length bytes body opens = omega (arith, unmarked opens.mark, undeclared opens.declaration)
  where
    unmarked : IsUnmarked bytes opens.behind → length opens.behind ≤ length bytes
    unmarked (inl whole) = omega (arith, ap length whole, length-append byte_order_mark opens.behind)
    unmarked (inr bare) = omega (arith, ap length bare.0)

    undeclared : IsUndeclared opens.behind body → length body ≤ length opens.behind
    undeclared (inl is) = omega (arith, Follows-length (codes "<?xml") opens.behind is.inside is.opens, ap length is.closes.whole, length-append is.closes.before (codes "?>" ++ body), length-append (codes "?>") body)
    undeclared (inr bare) = omega (arith, ap length bare.0)

text_of : (bytes body : List ℕ) (contents : Contents) → IsUtf8 bytes → IsOpening bytes body → Stand contents body [] → names_in contents ≡ codes "device" ∷ [] → Fit Whole contents
    → Spells bytes (record { total = length bytes; contents = contents })
text_of bytes body contents encoded opens stand one fit = record { body = body; encoded = encoded; total = refl; opens = opens; whole = stand; one_device = one; fit = fit }

-- ---- the reader of elements

whole-content : whole_text.content ≡ Whole
unfolding whole_text
whole-content = refl

one_device : (outer : List Open) (children : List (Head × Elements)) (device : Head × Elements) → device_in outer children ≡ goes device
    → (outer ≡ []) × ((others : List (Head × Elements)) × (children ≡ device ∷ others))
one_device [] [] device e = absurd cc
one_device [] (first ∷ others) device e = (refl, (others, ap (λ (one : Head × Elements). one ∷ others) (goes_is first device e)))
one_device (parent ∷ outer) children device e = absurd cc

not_deep : (found : Option (ℕ × ℕ)) (all final : Open) → unless_deep found (goes all) ≡ goes final → (found ≡ None) × (all ≡ final)
not_deep None all final e = (refl, goes_is all final e)
not_deep (Some name) all final e = absurd cc

whole-children : (total : ℕ) (contents : Contents) → (grown total contents whole_text).children ≡ elements_in total Whole contents
unfolding whole_text
whole-children total contents = refl

is_device : (total : ℕ) (contents : Contents) (device : Head × Elements) (others : List (Head × Elements)) → elements_in total Whole contents ≡ device ∷ others → Devices contents → names_in contents ≡ codes "device" ∷ []
is_device total contents device others e (inl none) = absurd (let e' = sym (none_in total Whole contents none.0) ∙ e in cc)
is_device total contents device others e (inr one) = one.0

pub built_goes : (bytes body : List ℕ) (device : Head × Elements) → IsUtf8 bytes → IsOpening bytes body → built (length bytes) body ≡ goes device → IsRead bytes device
unfolding first_too_deep elements_of
built_goes bytes body device encoded opens e =
    let total = length bytes in
    let read = bind_goes (run (building total) (parts_of body) beginning) (λ state. device_in state.outer state.top.children) device e in
    let last = one_device read.0.outer read.0.top.children device read.2 in
    let whole : run (building total) (parts_of body) beginning ≡ goes (record { top = read.0.top; outer = [] }) = read.1 ∙ ap (λ (outer : List Open). goes (record { top = read.0.top; outer = outer })) last.0 in
    let found = contents_of Open (building total) (λ element. element.content) (judges_building total) body whole_text read.0.top whole in
    let may = (judged Open (building total) (λ element. element.content) (judges_building total) 0 found.0 whole_text read.0.top found.2).0 in
    let made = not_deep (first_deeper (tags_in total 1 found.0)) (grown total found.0 whole_text) read.0.top (sym (builds total 0 1 found.0 whole_text (omega arith) may) ∙ found.2) in
    let elements : elements_in total Whole found.0 ≡ device ∷ last.1.0 = sym (whole-children total found.0) ∙ ap (λ (o : Open). o.children) made.1 ∙ last.1.1 in
    let taken = whole_takes found.0 (subst (λ (c : Content). Allowed c found.0) whole-content may) in
    record {
      text = record { total = total; contents = found.0 };
      spells = text_of bytes body found.0 encoded opens found.1 (is_device total found.0 device last.1.0 elements taken.1) taken.0;
      shallow = made.0;
      device_is = ap first_of elements;
    }

first_built : (total : ℕ) (contents : Contents) → names_in contents ≡ codes "device" ∷ [] → device_in [] (elements_in total Whole contents) ≡ goes (first_of (elements_in total Whole contents))
first_built total contents one =
    let some = some_in total Whole contents (codes "device") [] one in
    rw (some.2) refl

to_the_end : (machine : Machine Open) (found : Option (ℕ × ℕ)) (all : Open)
    → ((unless_deep found (goes all) >>= λ after. run machine (parts_of []) (record { top = after; outer = [] })) >>= λ state. device_in state.outer state.top.children) ≡ unless_deep found (device_in [] all.children)
to_the_end machine None all = ap (λ (o : Outcome (State Open)). o >>= λ state. device_in state.outer state.top.children) (run_ended machine [] (record { top = all; outer = [] }) (run machine (parts_of []) (record { top = all; outer = [] })) refl refl)
to_the_end machine (Some name) all = refl

pub spelled_built : (bytes body : List ℕ) (text : Text) → IsOpening bytes body → Spells bytes text → built (length bytes) body ≡ unless_deep (first_too_deep text) (goes (elements_of text))
unfolding first_too_deep elements_of
spelled_built bytes body text opens is =
    let total = length bytes in
    let stand : Stand text.contents body [] = subst (λ (t : List ℕ). Stand text.contents t []) (one_opening bytes is.body body is.opens opens) is.whole in
    let may : Allowed whole_text.content text.contents = subst (λ (c : Content). Allowed c text.contents) (sym whole-content) (whole_again text.contents is.one_device is.fit) in
    let found = first_deeper (tags_in total 1 text.contents) in
    ap (λ (o : Outcome (State Open)). o >>= λ state. device_in state.outer state.top.children)
    (run_walks Open (building total) (λ element. element.content) (judges_building total) text.contents body [] whole_text [] stand
    ∙ ap (λ (o : Outcome Open). o >>= λ after. run (building total) (parts_of []) (record { top = after; outer = [] })) (builds total 0 1 text.contents whole_text (omega arith) may))
    ∙ to_the_end (building total) found (grown total text.contents whole_text)
    ∙ ap (λ (children : List (Head × Elements)). unless_deep found (device_in [] children)) (whole-children total text.contents)
    ∙ ap (λ (o : Outcome (Head × Elements)). unless_deep found o) (first_built total text.contents is.one_device)
    ∙ ap (λ (n : ℕ). unless_deep (first_deeper (tags_in n 1 text.contents)) (goes (first_of (elements_in n Whole text.contents)))) (sym is.total)

-- ---- the reader that looks for the form alone

passed_device : (outer : List Passed) (content : Content) → had_device outer content ≡ goes tt → (outer ≡ []) × (content ≡ Behind)
passed_device [] Whole e = absurd cc
passed_device [] Behind e = (refl, refl)
passed_device [] (Parts container) e = absurd cc
passed_device [] Value e = absurd cc
passed_device [] Anything e = absurd cc
passed_device (parent ∷ outer) content e = absurd cc

one_stood : (contents : Contents) → end_of Whole contents ≡ Behind → Devices contents → names_in contents ≡ codes "device" ∷ []
one_stood contents e (inl none) = absurd (let e' : Whole ≡ Behind = sym none.1 ∙ e in cc)
one_stood contents e (inr one) = one.0

stands_behind : (contents : Contents) → names_in contents ≡ codes "device" ∷ [] → Devices contents → end_of Whole contents ≡ Behind
stands_behind contents e (inl none) = absurd (let e' : [] ≡ codes "device" ∷ [] = sym none.0 ∙ e in cc)
stands_behind contents e (inr one) = one.1

pub checked_goes : (bytes body : List ℕ) → IsUtf8 bytes → IsOpening bytes body → checked body ≡ goes tt → (text : Text) × Spells bytes text
checked_goes bytes body encoded opens e =
    let first : Passed = record { content = Whole; name = [] } in
    let read = bind_goes (run checking (parts_of body) passing) (λ state. had_device state.outer state.top.content) tt e in
    let last = passed_device read.0.outer read.0.top.content read.2 in
    let whole : run checking (parts_of body) passing ≡ goes (record { top = read.0.top; outer = [] }) = read.1 ∙ ap (λ (outer : List Passed). goes (record { top = read.0.top; outer = outer })) last.0 in
    let found = contents_of Passed checking (λ element. element.content) judges_checking body first read.0.top whole in
    let may = judged Passed checking (λ element. element.content) judges_checking 0 found.0 first read.0.top found.2 in
    let taken = whole_takes found.0 may.0 in
    (record { total = length bytes; contents = found.0 }, text_of bytes body found.0 encoded opens found.1 (one_stood found.0 (sym may.1 ∙ last.1) taken.1) taken.0)

pub spelled_checked : (bytes body : List ℕ) (text : Text) → IsOpening bytes body → Spells bytes text → checked body ≡ goes tt
spelled_checked bytes body text opens is =
    let first : Passed = record { content = Whole; name = [] } in
    let stand : Stand text.contents body [] = subst (λ (t : List ℕ). Stand text.contents t []) (one_opening bytes is.body body is.opens opens) is.whole in
    let may = whole_again text.contents is.one_device is.fit in
    let all = behind_all first text.contents in
    ap (λ (o : Outcome (State Passed)). o >>= λ state. had_device state.outer state.top.content)
    (run_walks Passed checking (λ element. element.content) judges_checking text.contents body [] first [] stand
    ∙ ap (λ (o : Outcome Passed). o >>= λ after. run checking (parts_of []) (record { top = after; outer = [] })) (passes 0 text.contents first may)
    ∙ run_ended checking [] (record { top = all; outer = [] }) (run checking (parts_of []) (record { top = all; outer = [] })) refl refl)
    ∙ ap (λ (c : Content). had_device [] c) (stands_behind text.contents is.one_device (whole_takes text.contents may).1)

-- ---- what is answered

no_goes : {A : Type 0} (found : Option (ℕ × ℕ)) (all : A) → unless_deep found (goes all) ≡ breaks → ⊥
no_goes None all e = cc
no_goes (Some name) all e = cc

deep_is : {A : Type 0} (found : Option (ℕ × ℕ)) (all : A) (name : ℕ × ℕ) → unless_deep found (goes all) ≡ sinks name → found ≡ Some name
deep_is None all name e = absurd cc
deep_is (Some other) all name e = let same : other ≡ name = cc in ap (λ (n : ℕ × ℕ). Some n) same

read_is : {A : Type 0} (found : Option (ℕ × ℕ)) (all device : A) → unless_deep found (goes all) ≡ goes device → (found ≡ None) × (all ≡ device)
read_is None all device e = (refl, goes_is all device e)
read_is (Some other) all device e = absurd cc

module _ (bytes body : List ℕ) (encoded : IsUtf8 bytes) (opens : IsOpening bytes body) where
  pub says_found : (result : Result Element TextFault) → BodySays (length bytes) body result → (text : Text) → Spells bytes text → Answers text result
  says_found (Ok device) says text is = read_is (first_too_deep text) (elements_of text) (element_of device) (sym (spelled_built bytes body text opens is) ∙ says)
  says_found (Err (Syntax at)) (inl says) text is = no_goes (first_too_deep text) (elements_of text) (sym (spelled_built bytes body text opens is) ∙ says)
  says_found (Err (Syntax at)) (inr says) text is = let e : goes tt ≡ breaks = sym (spelled_checked bytes body text opens is) ∙ says in cc
  says_found (Err (TooDeep span)) says text is = deep_is (first_too_deep text) (elements_of text) (span.start, span.end) (sym (spelled_built bytes body text opens is) ∙ says.0)
  says_found (Err Memory) says text is = tt

  pub says_spelled : (result : Result Element TextFault) → BodySays (length bytes) body result → IfOk result (λ device. IsRead bytes (element_of device))
  says_spelled (Ok device) says = built_goes bytes body (element_of device) encoded opens says
  says_spelled (Err fault) says = tt

  pub says_syntax : (result : Result Element TextFault) → BodySays (length bytes) body result → SyntaxSays bytes result
  says_syntax (Ok device) says = tt
  says_syntax (Err (Syntax at)) says = λ text is. says_found (Err (Syntax at)) says text is
  says_syntax (Err (TooDeep span)) says = tt
  says_syntax (Err Memory) says = tt

  pub says_too_deep : (result : Result Element TextFault) → BodySays (length bytes) body result → TooDeepSays bytes result
  says_too_deep (Ok device) says = tt
  says_too_deep (Err (Syntax at)) says = tt
  says_too_deep (Err (TooDeep span)) says =
      let found = checked_goes bytes body encoded opens says.1 in
      record { text = found.0; spells = found.1; deep = says_found (Err (TooDeep span)) says found.0 found.1 }
  says_too_deep (Err Memory) says = tt
