-- A crate text comes to one crate or one refusal at most, and a script to one list of statements or one refusal.
use Rattle.std.proofs.Common.{ℕ, suc, ◌≡◌, ◌+◌, true, false, List, [], ◌∷◌, ◌++◌, length, Some, None, refl, sym, ap, ◌∙◌, subst, arith}
use Rattle.frag_parse.specs.Nesting.{crate_within}
use Rattle.frag_parse.specs.Parsing.{DeepCrate, IsCrateOf}
use Rattle.frag_script.proofs.ScriptAgain.{one_script}
use Rattle.frag_script.specs.ScriptLines.{AllGood, IsFirstBad, IsGood, IsTooLong, SpellsLines, SpellsScript, lines_of}
use Rattle.frag_sem.proofs.Rules.{fits_by_tests, refused_by_tests}
use Rattle.frag_sem.specs.CrateTyping.{CrateFits, IsTypingFault, TypingKind}
use Rattle.frag_tree.proofs.CrateProductions.{one_crate}
use Rattle.frag_tree.proofs.Fine.{printed_words}
use Rattle.frag_tree.specs.Trees.{CrateTree}
use Rattle.frag_tree.specs.declared.script.Script.{Script}
use Rattle.frag_tree.specs.declared.script.ScriptLine.{ScriptLine}
use Rattle.pac_cli.specs.Scripts.{no_crate, modules_too_deep, misfits, CrateReading, untyped, typed, IsTreeOf, Misfits, FitsAs, CrateReadAs, no_statement, too_many_statements, mistyped, ScriptReading, unread, spelled, IsScriptOf, ScriptReadAs}

-- ---- crate texts

same_crate : (bytes : List ℕ) (one other : CrateTree) → IsCrateOf bytes one → IsCrateOf bytes other → one ≡ other
same_crate bytes one other a b = one_crate one other a.valid b.valid (sym (printed_words one a.valid) ∙ (sym a.parses ∙ (b.parses ∙ printed_words other b.valid)))

both_ways : (krate : CrateTree) → crate_within 64 krate ≡ false → crate_within 64 krate ≡ true → ⊥
both_ways krate deep within = let e : false ≡ true = sym deep ∙ within in cc e

not_deep : (bytes : List ℕ) (krate : CrateTree) → DeepCrate bytes → IsTreeOf bytes krate → ⊥
not_deep bytes krate deep tree = both_ways krate (ap (crate_within 64) (same_crate bytes krate deep.krate tree.spelled deep.fits) ∙ deep.deep) tree.within

pub one_fault : (krate : CrateTree) (one other : TypingKind) → IsTypingFault krate one → IsTypingFault krate other → one ≡ other
one_fault krate one other a b = let e : Some one ≡ Some other = sym ((refused_by_tests krate one).0 a) ∙ (refused_by_tests krate other).0 b in cc e

-- a crate that fits has no fault
pub no_fault : (krate : CrateTree) (kind : TypingKind) → CrateFits krate → IsTypingFault krate kind → ⊥
no_fault krate kind fits fault = let e : None ≡ Some kind = sym ((fits_by_tests krate).0 fits) ∙ (refused_by_tests krate kind).0 fault in cc e

same_kind_of : (bytes : List ℕ) (one other : TypingKind) → Misfits bytes one → Misfits bytes other → one ≡ other
same_kind_of bytes one other a b =
    one_fault a.krate one other a.fault (subst (λ (k : CrateTree). IsTypingFault k other) (same_crate bytes b.krate a.krate b.tree.spelled a.tree.spelled) b.fault)

not_misfit : (bytes : List ℕ) (kind : TypingKind) (krate : CrateTree) → Misfits bytes kind → FitsAs bytes krate → ⊥
not_misfit bytes kind krate a b = no_fault a.krate kind (subst CrateFits (same_crate bytes krate a.krate b.tree.spelled a.tree.spelled) b.fits) a.fault

pub one_crate_reading : (bytes : List ℕ) (one other : CrateReading) → CrateReadAs bytes one → CrateReadAs bytes other → one ≡ other
one_crate_reading bytes (untyped no_crate) (untyped no_crate) a b = refl
one_crate_reading bytes (untyped no_crate) (untyped modules_too_deep) a b = absurd (a b.krate b.fits)
one_crate_reading bytes (untyped no_crate) (untyped (misfits kind)) a b = absurd (a b.krate b.tree.spelled)
one_crate_reading bytes (untyped no_crate) (typed krate) a b = absurd (a krate b.tree.spelled)
one_crate_reading bytes (untyped modules_too_deep) (untyped no_crate) a b = absurd (b a.krate a.fits)
one_crate_reading bytes (untyped modules_too_deep) (untyped modules_too_deep) a b = refl
one_crate_reading bytes (untyped modules_too_deep) (untyped (misfits kind)) a b = absurd (not_deep bytes b.krate a b.tree)
one_crate_reading bytes (untyped modules_too_deep) (typed krate) a b = absurd (not_deep bytes krate a b.tree)
one_crate_reading bytes (untyped (misfits kind)) (untyped no_crate) a b = absurd (b a.krate a.tree.spelled)
one_crate_reading bytes (untyped (misfits kind)) (untyped modules_too_deep) a b = absurd (not_deep bytes a.krate b a.tree)
one_crate_reading bytes (untyped (misfits kind)) (untyped (misfits other)) a b = ap (λ (k : TypingKind). untyped (misfits k)) (same_kind_of bytes kind other a b)
one_crate_reading bytes (untyped (misfits kind)) (typed krate) a b = absurd (not_misfit bytes kind krate a b)
one_crate_reading bytes (typed krate) (untyped no_crate) a b = absurd (b krate a.tree.spelled)
one_crate_reading bytes (typed krate) (untyped modules_too_deep) a b = absurd (not_deep bytes krate b a.tree)
one_crate_reading bytes (typed krate) (untyped (misfits kind)) a b = absurd (not_misfit bytes kind krate b a)
one_crate_reading bytes (typed krate) (typed other) a b = ap typed (same_crate bytes krate other a.tree.spelled b.tree.spelled)

-- ---- scripts

-- each line of a script is good
all_good : (number : ℕ) (lines : List (List ℕ)) (script : List ScriptLine) → SpellsLines number lines script → AllGood lines
all_good number [] script h = tt
all_good number (line ∷ lines) script h = ((h.0, h.1), all_good (number + 1) lines h.2 h.3)

good_at : (before after : List (List ℕ)) (line : List ℕ) → AllGood (before ++ line ∷ after) → IsGood line
good_at [] after line h = h.0
good_at (first ∷ before) after line h = good_at before after line h.1

not_bad : (bytes : List ℕ) (line : ℕ) (script : Script) → IsFirstBad line (lines_of bytes) → SpellsScript bytes script → ⊥
not_bad bytes line script bad h = bad.is_bad (good_at bad.before bad.after bad.bad (subst AllGood bad.whole (all_good 1 (lines_of bytes) script.lines h)))

-- two first bad lines stand behind as many
same_place : (before other : List (List ℕ)) (bad worse : List ℕ) (after later : List (List ℕ)) → before ++ bad ∷ after ≡ other ++ worse ∷ later
    → AllGood before → AllGood other → ¬ (IsGood bad) → ¬ (IsGood worse) → length before ≡ length other
same_place [] [] bad worse after later e good fine never none = refl
same_place [] (first ∷ other) bad worse after later e good fine never none = let is : first ≡ bad = cc e in absurd (never (subst IsGood is fine.0))
same_place (first ∷ before) [] bad worse after later e good fine never none = let is : first ≡ worse = cc e in absurd (none (subst IsGood is good.0))
same_place (first ∷ before) (second ∷ other) bad worse after later e good fine never none =
    let rest : before ++ bad ∷ after ≡ other ++ worse ∷ later = cc e in
    ap suc (same_place before other bad worse after later rest good.1 fine.1 never none)

one_bad : (lines : List (List ℕ)) (one other : ℕ) → IsFirstBad one lines → IsFirstBad other lines → one ≡ other
one_bad lines one other a b =
    a.place ∙ (ap (λ n. n + 1) (same_place a.before b.before a.bad b.bad a.after b.after (sym a.whole ∙ b.whole) a.all_good b.all_good a.is_bad b.is_bad) ∙ sym b.place)

same_script : (bytes : List ℕ) (one other : Script) → SpellsScript bytes one → SpellsScript bytes other → one ≡ other
same_script bytes one other a b = λ i. record { lines = one_script bytes one other a b i }

same_count : (bytes : List ℕ) (one other : ℕ) → IsTooLong one bytes → IsTooLong other bytes → one ≡ other
same_count bytes one other a b = a.counted ∙ (ap length (one_script bytes a.script b.script a.spelled b.spelled) ∙ sym b.counted)

not_long : (bytes : List ℕ) (count : ℕ) (script : Script) → IsTooLong count bytes → IsScriptOf bytes script → ⊥
not_long bytes count script a b =
    let same : length a.script.lines ≡ length script.lines = ap length (one_script bytes a.script script a.spelled b.lines) in
    let past = a.past in
    let counted = a.counted in
    let few = b.few in
    omega arith

pub one_script_reading : (bytes : List ℕ) (one other : ScriptReading) → ScriptReadAs bytes one → ScriptReadAs bytes other → one ≡ other
one_script_reading bytes (unread (no_statement line)) (unread (no_statement other)) a b = ap (λ n. unread (no_statement n)) (one_bad (lines_of bytes) line other a b)
one_script_reading bytes (unread (no_statement line)) (unread (too_many_statements count)) a b = absurd (not_bad bytes line b.script a b.spelled)
one_script_reading bytes (unread (no_statement line)) (unread (mistyped fault)) a b = absurd b
one_script_reading bytes (unread (no_statement line)) (spelled script) a b = absurd (not_bad bytes line script a b.lines)
one_script_reading bytes (unread (too_many_statements count)) (unread (no_statement line)) a b = absurd (not_bad bytes line a.script b a.spelled)
one_script_reading bytes (unread (too_many_statements count)) (unread (too_many_statements other)) a b = ap (λ n. unread (too_many_statements n)) (same_count bytes count other a b)
one_script_reading bytes (unread (too_many_statements count)) (unread (mistyped fault)) a b = absurd b
one_script_reading bytes (unread (too_many_statements count)) (spelled script) a b = absurd (not_long bytes count script a b)
one_script_reading bytes (unread (mistyped fault)) other a b = absurd a
one_script_reading bytes (spelled script) (unread (no_statement line)) a b = absurd (not_bad bytes line script b a.lines)
one_script_reading bytes (spelled script) (unread (too_many_statements count)) a b = absurd (not_long bytes count script b a)
one_script_reading bytes (spelled script) (unread (mistyped fault)) a b = absurd b
one_script_reading bytes (spelled script) (spelled other) a b = ap spelled (same_script bytes script other a.lines b.lines)
