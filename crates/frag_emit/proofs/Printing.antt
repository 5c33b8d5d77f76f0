-- The parts of an emitted crate text, and how far its printing has come.
use Rattle.std.proofs.Common.{ℕ, ◌+◌, ◌-◌, ◌<◌, ◌≤◌, ◌≡◌, ◌^◌, arith, suc, zero, Bool, true, List, [], ◌∷◌, ◌++◌, map, drop, take, length, Option, Some, None, option_map, unwrap_or, refl, sym, ap, ◌∙◌, subst, add-one}
use Rattle.std.specs.Io.KnownBytes.{Appends}
use Rattle.std.specs.List.{flat_map, list_all, slice_get}
use Rattle.std.proofs.lemmas.Bool.{and_from, and_parts}
use Rattle.std.proofs.lemmas.Option.{slice_get-map, slice_get_within}
use Rattle.crate_form.proofs.Peripherals.{block-at, blocks-told}
use Rattle.crate_form.specs.Crates.{emitted}
use Rattle.crate_form.specs.Elements.{block_at}
use Rattle.frag_emit.specs.Parts.{AppendsPart, part_at, part_forms}
use Rattle.frag_tree.proofs.Parts.{parts-joined}
use Rattle.frag_tree.specs.Crates.{head_text, parts_of, printed, top_text}
use Rattle.frag_tree.specs.Trees.{BlockTree, CrateTree}
use Rattle.frag_tree.specs.Validity.{valid_block, valid_crate, valid_slot}
use Rattle.frag_tree.specs.declared.krate.Slot.{Slot}
use Rattle.frag_tree.specs.declared.krate.Version.{Version}
use Rattle.pac_io.proofs.WrittenUpTo.{all_written, begun, broke_off, went_on}
use Rattle.pac_io.specs.Writing.{AppendsPrefix}
use Rattle.pac_io.specs.WrittenUpTo.{WrittenUpTo}
use Rattle.svd_model.specs.Facts.{IsChecked, element_limit, elements_of, is_counted}
use Rattle.svd_model.specs.Keys.{Key}
use Rattle.svd_model.specs.Steps.{Step}
use Rattle.svd_model.specs.Trees.{device_rows, device_tree, peripheral_under}
use Rattle.svd_model.specs.declared.device.Device.{Device}
use Rattle.svd_model.specs.declared.device.Peripheral.{Peripheral}
use Rattle.svd_model.specs.declared.sibling.Sibling.{Sibling}
use Rattle.svd_rows.proofs.Counting.{count-rows}
use Rattle.svd_rows.proofs.Siblings.{count-siblings}
use Rattle.svd_rows.specs.Elements.{count}
use Rattle.svd_rows.specs.Forest.{siblings}
use Rattle.svd_rows.specs.Rows.{Row}

-- ---- the parts

-- the head of an emitted crate
pub head-is : (all : List (Row Step Key)) (version : Version) (slots : List Slot) → version ≡ (emitted all).version → slots ≡ (emitted all).slots → part_at (emitted all) 0 ≡ Some (head_text version slots)
unfolding part_at
head-is all version slots is_version is = λ i. Some (head_text (sym is_version i) (sym is i))

pub head-valid : (all : List (Row Step Key)) (slots : List Slot) → slots ≡ (emitted all).slots → list_all valid_slot slots ≡ true → slice_get (part_forms (emitted all)) 0 ≡ Some true
head-valid all slots is valid = ap Some (ap (list_all valid_slot) (sym is) ∙ valid)

-- a module at the top of an emitted crate
pub module-is : (all : List (Row Step Key)) (index : ℕ) (block : Option BlockTree) → block ≡ slice_get (emitted all).blocks index → part_at (emitted all) (index + 1) ≡ option_map top_text block
unfolding part_at
module-is all index block is = rw add-one (slice_get-map top_text (emitted all).blocks index ∙ ap (option_map top_text) (sym is))

pub module-valid : (all : List (Row Step Key)) (index : ℕ) (block : BlockTree) → Some block ≡ slice_get (emitted all).blocks index → valid_block (emitted all).version block ≡ true → slice_get (part_forms (emitted all)) (index + 1) ≡ Some true
module-valid all index block is valid =
    rw add-one
    (slice_get-map (valid_block (emitted all).version) (emitted all).blocks index
    ∙ (ap (option_map (valid_block (emitted all).version)) (sym is)
    ∙ ap Some valid))

-- a first part of a part
pub prefix-of : {old now : Option (List ℕ)} (krate : CrateTree) (number : ℕ) (bytes : List ℕ) → part_at krate number ≡ Some bytes → AppendsPrefix old now bytes → AppendsPrefix old now (unwrap_or (part_at krate number) [])
prefix-of {old} {now} krate number bytes is h = subst (λ (part : Option (List ℕ)). AppendsPrefix old now (unwrap_or part [])) (sym is) h

-- ---- how many parts there are

entries-counted : (entries : List (Sibling × Peripheral)) → length entries ≤ count is_counted (siblings (map peripheral_under entries))
entries-counted [] = omega arith
entries-counted (entry ∷ entries) = let more = entries-counted entries in rw (count-siblings is_counted (peripheral_under entry) (map peripheral_under entries)) (omega arith)

entry-there : (device : Device) (index : ℕ) (entry : Option (Sibling × Peripheral)) (block : BlockTree) → Some block ≡ option_map (λ entry. block_at device.props (peripheral_under entry)) entry → slice_get device.peripherals.entries index ≡ entry → index < length device.peripherals.entries
entry-there device index None block is found = absurd cc
entry-there device index (Some entry) block is found = slice_get_within device.peripherals.entries index entry found

few-entries : (device : Device) → IsChecked device → length device.peripherals.entries ≤ element_limit
unfolding device_tree elements_of
few-entries device checked =
    let all = entries-counted device.peripherals.entries in
    let few = checked.unfolded.few.elements in
    let same = count-rows is_counted (device_tree device) in
    omega arith

-- no number of a block is near the greatest
pub few-blocks : (device : Device) (all : List (Row Step Key)) (index : ℕ) (block : BlockTree) → device_rows device ≡ all → IsChecked device → Some block ≡ slice_get (emitted all).blocks index → index + 1 + 1 < 2 ^ 64
few-blocks device all index block rows checked is =
    let entries = device.peripherals.entries in
    let there = entry-there device index (slice_get entries index) block (is ∙ (ap (λ (blocks : List BlockTree). slice_get blocks index) (blocks-told device all rows) ∙ block-at device.props entries index)) refl in
    let few = few-entries device checked in
    omega arith

-- ---- how far the printing has come

-- the parts behind the first ones
abbrev pub text_behind : CrateTree → ℕ → List ℕ
text_behind krate done = flat_map (λ part. part) (drop done (parts_of krate))

abbrev pub forms_before : CrateTree → ℕ → List Bool
forms_before krate done = take done (part_forms krate)

next-part : (parts : List (List ℕ)) (n : ℕ) → flat_map (λ part. part) (drop n parts) ≡ unwrap_or (slice_get parts n) [] ++ flat_map (λ part. part) (drop (suc n) parts)
next-part [] zero = refl
next-part [] (suc n) = refl
next-part (part ∷ parts) zero = refl
next-part (part ∷ parts) (suc n) = next-part parts n

pub text-behind : (krate : CrateTree) (done more : ℕ) → more ≡ done + 1 → text_behind krate done ≡ unwrap_or (part_at krate done) [] ++ text_behind krate more
unfolding part_at
text-behind krate done more is = next-part (parts_of krate) done ∙ ap (λ n. unwrap_or (slice_get (parts_of krate) done) [] ++ text_behind krate n) (sym (is ∙ add-one done))

none-behind : (parts : List (List ℕ)) (n : ℕ) → slice_get parts n ≡ None → flat_map (λ part. part) (drop n parts) ≡ []
none-behind [] zero none = refl
none-behind [] (suc n) none = refl
none-behind (part ∷ parts) zero none = absurd cc
none-behind (part ∷ parts) (suc n) none = none-behind parts n none

pub part-within : (krate : CrateTree) (done : ℕ) (bytes : List ℕ) → part_at krate done ≡ Some bytes → done < length (parts_of krate)
unfolding part_at
part-within krate done bytes is = slice_get_within (parts_of krate) done bytes is

pub text-ended : (krate : CrateTree) (done : ℕ) → part_at krate done ≡ None → text_behind krate done ≡ []
unfolding part_at
text-ended krate done none = none-behind (parts_of krate) done none

one-more-form : (forms : List Bool) (n : ℕ) → list_all (λ form. form) (take n forms) ≡ true → slice_get forms n ≡ Some true → list_all (λ form. form) (take (suc n) forms) ≡ true
one-more-form [] n all here = absurd cc
one-more-form (form ∷ forms) zero all here = and_from form true (ap (λ (found : Option Bool). unwrap_or found true) here) refl
one-more-form (form ∷ forms) (suc n) all here =
    let both = and_parts form (list_all (λ form. form) (take n forms)) all in
    and_from form (list_all (λ form. form) (take (suc n) forms)) both.0 (one-more-form forms n both.1 here)

pub forms-before : (krate : CrateTree) (done more : ℕ) → more ≡ done + 1 → list_all (λ form. form) (forms_before krate done) ≡ true → slice_get (part_forms krate) done ≡ Some true → list_all (λ form. form) (forms_before krate more) ≡ true
forms-before krate done more is all here = ap (λ n. list_all (λ form. form) (forms_before krate n)) (is ∙ add-one done) ∙ one-more-form (part_forms krate) done all here

all-forms : (blocks : List BlockTree) (form : BlockTree → Bool) (n : ℕ) → slice_get (map top_text blocks) n ≡ None → list_all (λ form. form) (take n (map form blocks)) ≡ true → list_all form blocks ≡ true
all-forms [] form n none all = refl
all-forms (block ∷ blocks) form zero none all = absurd cc
all-forms (block ∷ blocks) form (suc n) none all =
    let both = and_parts (form block) (list_all (λ form. form) (take n (map form blocks))) all in
    and_from (form block) (list_all form blocks) both.0 (all-forms blocks form n none both.1)

-- a crate all of whose parts were printed has names and numbers of the right forms
pub forms-ended : (krate : CrateTree) (done : ℕ) → part_at krate done ≡ None → list_all (λ form. form) (forms_before krate done) ≡ true → valid_crate krate ≡ true
unfolding part_at
forms-ended krate zero none all = absurd cc
forms-ended krate (suc n) none all =
    let both = and_parts (list_all valid_slot krate.slots) (list_all (λ form. form) (take n (map (valid_block krate.version) krate.blocks))) all in
    and_from (list_all valid_slot krate.slots) (list_all (valid_block krate.version) krate.blocks) both.0 (all-forms krate.blocks (valid_block krate.version) n none both.1)

-- the printing of a crate text has come this far
pub record PrintedUpTo (all held : List (Row Step Key)) (done : ℕ) (old now : Option (List ℕ)) (faults count : ℕ) : Type 0 where
  pub same : held ≡ all
  pub growth : WrittenUpTo old now (printed (emitted all)) (text_behind (emitted all) done)
  pub forms : list_all (λ form. form) (forms_before (emitted all) done) ≡ true
  pub cause : count ≡ faults

pub begun_text : (all : List (Row Step Key)) (told : Option (List ℕ)) (faults : ℕ) → PrintedUpTo all all 0 told told faults faults
begun_text all told faults = record {
  same = refl;
  growth = subst (λ (left : List ℕ). WrittenUpTo told told (printed (emitted all)) left) (sym (parts-joined (emitted all))) (begun told (printed (emitted all)));
  forms = refl;
  cause = refl;
}

-- one part more
pub printed_more : {old mid now : Option (List ℕ)} {faults count : ℕ} (all held kept : List (Row Step Key)) (done more next : ℕ) → PrintedUpTo all held done old mid faults count → kept ≡ held → more ≡ done + 1 → AppendsPart (emitted held) done mid now → next ≡ count → PrintedUpTo all kept more old now faults next
printed_more {old} {mid} {now} {faults} {count} all held kept done more next far stays raised part cause =
    let here : AppendsPart (emitted all) done mid now = subst (λ (rows : List (Row Step Key)). AppendsPart (emitted rows) done mid now) far.same part in
    let left : text_behind (emitted all) done ≡ here.bytes ++ text_behind (emitted all) more = text-behind (emitted all) done more raised ∙ ap (λ (found : Option (List ℕ)). unwrap_or found [] ++ text_behind (emitted all) more) here.is in
    record {
      same = stays ∙ far.same;
      growth = went_on here.bytes (text_behind (emitted all) more) (subst (λ (rest : List ℕ). WrittenUpTo old mid (printed (emitted all)) rest) left far.growth) here.appended;
      forms = forms-before (emitted all) done more raised far.forms here.valid;
      cause = cause ∙ far.cause;
    }

-- there are fewer parts left
pub fewer_left : {old now : Option (List ℕ)} (all held : List (Row Step Key)) (done more : ℕ) → held ≡ all → more ≡ done + 1 → AppendsPart (emitted held) done old now → length (parts_of (emitted all)) - more < length (parts_of (emitted all)) - done
fewer_left {old} {now} all held done more same raised part =
    let here : AppendsPart (emitted all) done old now = subst (λ (rows : List (Row Step Key)). AppendsPart (emitted rows) done old now) same part in
    let within = part-within (emitted all) done here.bytes here.is in
    omega arith

-- a part broke off
pub broken_text : {old mid now : Option (List ℕ)} {faults count : ℕ} (all held : List (Row Step Key)) (done : ℕ) → PrintedUpTo all held done old mid faults count → AppendsPrefix mid now (unwrap_or (part_at (emitted held) done) []) → AppendsPrefix old now (printed (emitted all))
broken_text {old} {mid} {now} all held done far h =
    broke_off (text_behind (emitted all) (done + 1))
    (subst (λ (rest : List ℕ). WrittenUpTo old mid (printed (emitted all)) rest) (text-behind (emitted all) done (done + 1) refl) far.growth)
    (subst (λ (rows : List (Row Step Key)). AppendsPrefix mid now (unwrap_or (part_at (emitted rows) done) [])) far.same h)

-- no part is left
pub ended_text : {old mid now : Option (List ℕ)} {faults count : ℕ} (all held : List (Row Step Key)) (done : ℕ) → PrintedUpTo all held done old mid faults count → part_at (emitted held) done ≡ None → now ≡ mid → Appends old now (printed (emitted all))
ended_text {old} {mid} {now} all held done far none same =
    let ends = ap (λ (rows : List (Row Step Key)). part_at (emitted rows) done) (sym far.same) ∙ none in
    subst (λ (told : Option (List ℕ)). Appends old told (printed (emitted all))) (sym same)
    (all_written (subst (λ (rest : List ℕ). WrittenUpTo old mid (printed (emitted all)) rest) (text-ended (emitted all) done ends) far.growth))

pub ended_forms : {old mid : Option (List ℕ)} {faults count : ℕ} (all held : List (Row Step Key)) (done : ℕ) → PrintedUpTo all held done old mid faults count → part_at (emitted held) done ≡ None → valid_crate (emitted all) ≡ true
ended_forms all held done far none = forms-ended (emitted all) done (ap (λ (rows : List (Row Step Key)). part_at (emitted rows) done) (sym far.same) ∙ none) far.forms
