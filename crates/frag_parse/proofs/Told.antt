-- What the answers of the reader of crate texts tell of the bytes.
use Rattle.std.proofs.Common.{ℕ, ◌≡◌, List, [], true, false, Option, Some, None, Ok, Err, refl, sym, ap, subst, ◌∙◌}
use Rattle.std.specs.Prelude.{IfErr, IfOk, Result}
use Rattle.text_scan.specs.Steps.{◌>>=◌}
use Rattle.frag_words.specs.Words.{Word, words_in}
use Rattle.frag_words.proofs.Readings.{some_is}
use Rattle.frag_tree.specs.Trees.{BlockTree, CrateTree, crate_tree}
use Rattle.frag_tree.specs.declared.krate.Crate.{Crate}
use Rattle.frag_tree.specs.declared.krate.Slot.{Slot}
use Rattle.frag_tree.specs.declared.krate.Version.{Version}
use Rattle.frag_tree.specs.Validity.{valid_crate}
use Rattle.frag_parse.specs.declared.fault.ParseFault.{ParseFault}
use Rattle.frag_parse.specs.declared.fault.ParseFault.TheVariants.{Syntax, TooDeep, Memory}
use Rattle.frag_parse.specs.declared.fault.Refusal.{Refusal}
use Rattle.frag_parse.specs.declared.fault.Refusal.TheVariants as refusal
use Rattle.frag_token.specs.declared.fault.Stop.{Stop}
use Rattle.frag_token.specs.declared.fault.Stop.TheVariants as stop
use Rattle.frag_parse.specs.Depth.{Deep, IsDeep, Refuses, Tells}
use Rattle.frag_parse.specs.Nesting.{crate_within}
use Rattle.frag_parse.specs.Parsing.{DeepCrate, IsCrateOf, IsParsedAs, RefusedFor}
use Rattle.frag_token.specs.Reading.{Fails, Found}
use Rattle.frag_parse.specs.Reading.{blocks_at, crate_at, opening_at}
use Rattle.frag_parse.specs.Survey.{is_read, survey_at, surveyed_at}
use Rattle.frag_parse.proofs.CrateSteps.{behind_opening, crate_is_read, made_of, read_is_crate, tree_of, units_of, blocks_within, whole_read}

abbrev given : {A : Type 0} → A → Option A
given x = Some x

-- ---- the whole

pub whole_done : (text rest : List Word) (krate : Crate) → opening_at text ≡ Some ((krate.version, krate.slots), rest) → (blocks_at krate.version rest ≡ Some (units_of krate.blocks.items, [])) × (blocks_within (units_of krate.blocks.items) ≡ true) → (crate_at text ≡ Some (crate_tree krate, [])) × (crate_within 64 (crate_tree krate) ≡ true)
unfolding crate_tree
whole_done text rest krate read blocks = (whole_read text rest krate (units_of krate.blocks.items) read blocks.0 refl, blocks.1)

-- ---- the survey

survey_blocks : (version : Version) (slots : List Slot) (o : Found (List BlockTree)) → is_read o ≡ is_read (o >>= made_of version slots)
survey_blocks version slots None = refl
survey_blocks version slots (Some blocks) = refl

survey_opening : (o : Found (Version × List Slot)) → (o >>= λ opening. survey_at opening.0.0 opening.1) ≡ is_read (o >>= behind_opening)
unfolding survey_at
survey_opening None = refl
survey_opening (Some opening) = survey_blocks opening.0.0 opening.0.1 (blocks_at opening.0.0 opening.1)

surveyed_is : (text : List Word) → surveyed_at text ≡ is_read (crate_at text)
unfolding surveyed_at crate_at
surveyed_is text = survey_opening (opening_at text)

deep_read : (o : Found CrateTree) → Deep (crate_within 64) o → is_read o ≡ Some tt → IsDeep o
deep_read None deep read = absurd cc
deep_read (Some found) deep read = deep

pub is_deep : (text : List Word) (cause : Refusal) (left : ℕ) → cause ≡ refusal.TooDeep left → Refuses (crate_within 64) cause (crate_at text) → surveyed_at text ≡ Some tt → IsDeep (crate_at text)
is_deep text cause left is refused surveyed =
    deep_read (crate_at text) (subst (λ (c : Refusal). Refuses (crate_within 64) c (crate_at text)) is refused) (sym (surveyed_is text) ∙ surveyed)

none_read : (o : Found CrateTree) → is_read o ≡ None → o ≡ None
none_read None e = refl
none_read (Some found) e = absurd cc

pub is_none : (text : List Word) (cause : Stop) (left : ℕ) → cause ≡ stop.Unfit left → Fails cause (surveyed_at text) → crate_at text ≡ None
is_none text cause left is fails =
    none_read (crate_at text) (sym (surveyed_is text) ∙ subst (λ (c : Stop). Fails c (surveyed_at text)) is fails)

-- ---- the public call

pub spelled : (bytes : List ℕ) (result : Result Crate ParseFault) → Tells result (crate_at (words_in bytes)) → IfOk result (λ krate. IsCrateOf bytes (crate_tree krate))
spelled bytes (Ok krate) told = read_is_crate bytes (crate_tree krate) [] told.0
spelled bytes (Err fault) told = tt

pub valid : (bytes : List ℕ) (result : Result Crate ParseFault) → Tells result (crate_at (words_in bytes)) → IfOk result (λ krate. valid_crate (crate_tree krate) ≡ true)
valid bytes (Ok krate) told = (read_is_crate bytes (crate_tree krate) [] told.0).valid
valid bytes (Err fault) told = tt

pub bounded : (bytes : List ℕ) (result : Result Crate ParseFault) → Tells result (crate_at (words_in bytes)) → IfOk result (λ krate. crate_within 64 (crate_tree krate) ≡ true)
bounded bytes (Ok krate) told = told.1
bounded bytes (Err fault) told = tt

none_given : (o : Found CrateTree) (krate : CrateTree) → o ≡ None → tree_of o ≡ Some krate → ⊥
none_given None krate e read = let impossible : None ≡ given krate = read in absurd cc
none_given (Some found) krate e read = let impossible : given found ≡ None = e in absurd cc

deep_crate : (bytes : List ℕ) (o : Found CrateTree) → crate_at (words_in bytes) ≡ o → IsDeep o → DeepCrate bytes
deep_crate bytes None e deep = absurd deep
deep_crate bytes (Some found) e deep = record { krate = found.0; fits = read_is_crate bytes found.0 found.1 e; deep = deep }

pub refused : (bytes : List ℕ) (result : Result Crate ParseFault) → Tells result (crate_at (words_in bytes)) → IfErr result (λ fault. RefusedFor fault bytes)
refused bytes (Ok krate) told = tt
refused bytes (Err (Syntax at)) told = λ krate fits. none_given (crate_at (words_in bytes)) krate told (crate_is_read bytes krate fits)
refused bytes (Err (TooDeep at)) told = deep_crate bytes (crate_at (words_in bytes)) refl told
refused bytes (Err Memory) told = tt

deep_given : (o : Found CrateTree) (krate : CrateTree) → IsDeep o → tree_of o ≡ Some krate → crate_within 64 krate ≡ true → ⊥
deep_given None krate deep read fits = deep
deep_given (Some found) krate deep read fits =
    let same = some_is found.0 krate read in
    let both : false ≡ true = sym deep ∙ (ap (crate_within 64) same ∙ fits) in
    absurd cc

pub complete : (bytes : List ℕ) (result : Result Crate ParseFault) → Tells result (crate_at (words_in bytes)) → (krate : CrateTree) → IsCrateOf bytes krate → crate_within 64 krate ≡ true → IsParsedAs result krate
complete bytes (Ok made) told krate fits shallow = some_is (crate_tree made) krate (sym (ap tree_of told.0) ∙ crate_is_read bytes krate fits)
complete bytes (Err (Syntax at)) told krate fits shallow = none_given (crate_at (words_in bytes)) krate told (crate_is_read bytes krate fits)
complete bytes (Err (TooDeep at)) told krate fits shallow = deep_given (crate_at (words_in bytes)) krate told (crate_is_read bytes krate fits) shallow
complete bytes (Err Memory) told krate fits shallow = tt
