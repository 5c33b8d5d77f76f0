-- Worked rows: events and presets of small crates and scripts, by computation.
use Rattle.std.specs.Prelude.{◌≡◌, true, false, Some, None, List, [], ◌∷◌, codes, refl}
use Rattle.std.proofs.lemmas.Option.{none-some}
use Rattle.pac_base.specs.declared.width.Width.TheVariants.{W16, W32}
use Rattle.frag_tree.specs.declared.event.Event.{Event}
use Rattle.frag_tree.specs.declared.event.Event.TheVariants as event
use Rattle.frag_tree.specs.declared.event.Said.TheVariants.{Number, Truth}
use Rattle.frag_tree.specs.declared.statement.Atom.TheVariants as atom
use Rattle.frag_tree.specs.declared.statement.Link.TheVariants as link
use Rattle.frag_tree.specs.declared.statement.Source.TheVariants as source
use Rattle.frag_tree.specs.declared.statement.Statement.TheVariants as statement
use Rattle.frag_tree.specs.Worked.{example}
use Rattle.frag_sem.specs.CallPlaces.{leads, register_at}
use Rattle.frag_sem.specs.Layout.{align_of, extents, placed_behind}
use Rattle.frag_sem.specs.Means.{LinesMean, Means}
use Rattle.frag_sem.specs.Modules.{each_module, modules_of}
use Rattle.frag_sem.specs.PreludeWords.{start_word, taken, written}
use Rattle.frag_sem.specs.Meaning.{lines_meaning, meaning, outcome_of, value_of}
use Rattle.frag_sem.specs.Presets.{first_of_each, presets}
use Rattle.frag_sem.specs.TextMeaning.{field_given, field_written, text_meaning, text_presets}
use Rattle.frag_sem.specs.WorkedCrates.{call_at, calls, calls_at, channels, cleared_by_zero, copies_bit, member, nested, place, plain_call, said_script, script, second_example, status, with_bits, with_gap, with_mode}

-- what the events and the presets of a script are computed with
meaning_words : Unit {0}
unfolding text_meaning text_presets meaning presets first_of_each lines_meaning outcome_of register_at leads modules_of extents each_module placed_behind align_of field_given field_written taken written start_word value_of
meaning_words = tt

-- ---- events

-- `T.sr().write(|w| w.f1().set_bit());`: the mask takes bit 0 off the reset word.
pub one_to_clear_mask : text_meaning example (script (statement.Write status (calls (codes "f1") (codes "set_bit")))) [] ≡ event.Write 0x40000000 W32 2 ∷ []
unfolding meaning_words
one_to_clear_mask = refl

-- `T.sr().modify(|_, w| w.f0().clear_bit_by_one());`: the word starts as 2, and the call sets bit 0.
pub modify_clears_by_one :
    text_meaning example (script (statement.Modify status false (calls (codes "f0") (codes "clear_bit_by_one")))) (3 ∷ [])
    ≡ event.Read 0x40000000 W32 3 ∷ event.Write 0x40000000 W32 3 ∷ []
unfolding meaning_words
modify_clears_by_one = refl

-- `T.sr().modify(|_, w| w);`
pub modify_leaves_set : text_meaning example (script (statement.Modify status false [])) (3 ∷ []) ≡ event.Read 0x40000000 W32 3 ∷ event.Write 0x40000000 W32 2 ∷ []
unfolding meaning_words
modify_leaves_set = refl

-- `T.sr().write(|w| w);`, `T.sr().write_with_zero(|w| w);`
pub zero_to_modify_mask :
    (text_meaning cleared_by_zero (script (statement.Write status [])) [] ≡ event.Write 0x40000000 W32 0x10 ∷ [])
    × (text_meaning cleared_by_zero (script (statement.WriteWithZero status [])) [] ≡ event.Write 0x40000000 W32 0 ∷ [])
unfolding meaning_words
zero_to_modify_mask = (refl, refl)

-- A gap of four bytes moves the register by four.
pub gap_moves : text_meaning with_gap (script (statement.Write status (calls (codes "f1") (codes "set_bit")))) [] ≡ event.Write 0x40000004 W32 2 ∷ []
unfolding meaning_words
gap_moves = refl

-- `let a = T.ch(3).read();`, of four that stand 16 bytes apart
pub register_array : text_meaning channels (script (statement.Let (codes "a") (member (codes "T") (codes "ch") 3))) [] ≡ event.Read 0x40000030 W32 0 ∷ []
unfolding meaning_words
register_array = refl

-- `T.cl(1).y().read()`: behind the byte of `a` and what fills it up stands the first inner block, 8 bytes on the second, and 4 bytes behind its start `y`.
pub nested_blocks :
    text_meaning nested (script (statement.Let (codes "a") (record { slot = codes "T"; steps = record { name = codes "cl"; index = Some 1 } ∷ record { name = codes "y"; index = None } ∷ [] }))) (0x12345 ∷ [])
    ≡ event.Read 0x40000010 W16 0x2345 ∷ []
unfolding meaning_words
nested_blocks = refl

-- `T.sr().write(|w| w.mode().bits(5));`, `T.sr().write(|w| w.mode().fast());`
pub field_of_three_bits :
    (text_meaning with_mode (script (statement.Write status (link.Field (plain_call (codes "mode")) (codes "bits") (Some (record { negations = 0; atom = atom.Number 5 })) ∷ []))) [] ≡ event.Write 0x40000000 W32 0xdf ∷ [])
    × (text_meaning with_mode (script (statement.Write status (calls (codes "mode") (codes "fast")))) [] ≡ event.Write 0x40000000 W32 0xbf ∷ [])
unfolding meaning_words
field_of_three_bits = (refl, refl)

-- The word 0x135 has 3 in the bits of `mode`.
pub said_of_a_word :
    text_meaning with_mode said_script (0x135 ∷ [])
    ≡ event.Read 0x40000000 W32 0x135 ∷ event.Say (Number 3) ∷ event.Say (Truth false) ∷ event.Say (Number 0x35) ∷ []
unfolding meaning_words
said_of_a_word = refl

-- `r` is what was read: of 1 the bit `f0` is set, and the word of which `f1` is set starts as 0.
pub reader_is_named : text_meaning example copies_bit (1 ∷ []) ≡ event.Read 0x40000000 W32 1 ∷ event.Write 0x40000000 W32 2 ∷ []
unfolding meaning_words
reader_is_named = refl

-- `T.sr().write(|w| w.f1().clear_bit().f0().clear_bit_by_one());`: the first link takes bit 1 off, the second sets bit 0.
pub two_links :
    text_meaning example (script (statement.Write status (link.Field (plain_call (codes "f1")) (codes "clear_bit") None ∷ link.Field (plain_call (codes "f0")) (codes "clear_bit_by_one") None ∷ []))) []
    ≡ event.Write 0x40000000 W32 1 ∷ []
unfolding meaning_words
two_links = refl

-- The version line changes no event of a text of version 1.
pub second_version_means : text_meaning second_example (script (statement.Write status (calls (codes "f1") (codes "set_bit")))) [] ≡ event.Write 0x40000000 W32 2 ∷ []
unfolding meaning_words
second_version_means = refl

-- `T.sr().write(|w| w.f1(2).set_bit());`: the bit at 1 + 2 · 4
pub bit_of_an_array : text_meaning (with_bits 8) (script (statement.Write status (calls_at (codes "f1") 2 (codes "set_bit")))) [] ≡ event.Write 0x40000000 W32 0x202 ∷ []
unfolding meaning_words
bit_of_an_array = refl

-- `T.sr().modify(|r, w| w.f1(0).bit(r.f1(7).bit()));`: of 0x20000000 the last bit is set.
pub bit_of_the_last :
    text_meaning (with_bits 8) (script (statement.Modify status true (
    link.Field (call_at (codes "f1") 0) (codes "bit") (Some (record { negations = 0; atom = atom.Source (source.Field (codes "r") (call_at (codes "f1") 7) (codes "bit")) })) ∷ []))) (0x20000000 ∷ [])
    ≡ event.Read 0x40000000 W32 0x20000000 ∷ event.Write 0x40000000 W32 0x20000002 ∷ []
unfolding meaning_words
bit_of_the_last = refl

-- What is read twice is set before once.
pub preset_once :
    text_presets example (record { lines = record { line = 1; statement = statement.Reset status } ∷ record { line = 2; statement = statement.Reset status } ∷ [] })
    ≡ record { address = 0x40000000; width = W32; value = 3 } ∷ []
unfolding meaning_words
preset_once = refl

-- `say(a.bits());`, where `a` isn't bound, and `X.sr().reset();`, where no slot is X, have no events with nothing missing.
pub nothing_is_meant :
    ((events : List Event) → Means example (script (statement.Say (record { negations = 0; atom = atom.Source (source.Bits (codes "a")) }))) [] events → ⊥)
    × ((events : List Event) → Means example (script (statement.Reset (place (codes "X") (codes "sr")))) [] events → ⊥)
unfolding Means LinesMean
nothing_is_meant = (λ events h. h.here_is.1.1, λ events h. none-some h.here_is.at.place_is.slot h.here_is.at.place_is.slot_is)
