-- What the deeds of a run mean, each by itself (this project's own rule): events, where the k-th read has the k-th answer. Words that were read are numbered from 0.
use Rattle.std.specs.Prelude.{ℕ, ◌==◌, List, [], ◌∷◌, ◌++◌, drop, fold, min, Option, Some, None, slice_get, unwrap_or}
use Rattle.pac_base.specs.declared.width.Width.{Width}
use Rattle.pac_base.specs.Widths.{bits_of}
use Rattle.frag_tree.specs.declared.event.Event.{Event}
use Rattle.frag_tree.specs.declared.event.Event.TheVariants as event
use Rattle.frag_tree.specs.declared.event.Said.{Said}
use Rattle.frag_tree.specs.declared.event.Said.TheVariants.{Number, Truth}
use Rattle.frag_sem.specs.Meaning.{negated, next_answer, number_said}
use Rattle.frag_sem.specs.PreludeWords.{as_bits, is_set, same_truth, start_word, taken, written}
use Rattle.frag_eval.specs.declared.deed.Deed.{Deed}
use Rattle.frag_eval.specs.declared.deed.Deed.TheVariants as deed
use Rattle.frag_eval.specs.declared.deed.Operand.{Operand}
use Rattle.frag_eval.specs.declared.deed.Part.{Part}
use Rattle.frag_eval.specs.declared.deed.Put.{Put}
use Rattle.frag_eval.specs.declared.deed.Put.TheVariants as put
use Rattle.frag_eval.specs.declared.deed.Start.{Start}
use Rattle.frag_eval.specs.declared.deed.Start.TheVariants as start
use Rattle.frag_eval.specs.declared.deed.Term.{Term}
use Rattle.frag_eval.specs.declared.deed.Term.TheVariants as term

-- the word of this number, 0 where there is none
abbrev pub word_at : List ℕ → ℕ → ℕ
word_at words read = unwrap_or (slice_get words read) 0

-- the part of a word
abbrev pub part_of : List ℕ → Part → ℕ
part_of words part = taken (word_at words part.read) part.offset part.mask

abbrev pub term_said : List ℕ → Term → Said
term_said words (term.Number value) = Number value
term_said words (term.Truth value) = Truth value
term_said words (term.Word read) = Number (word_at words read)
term_said words (term.Bit part value) = Truth (same_truth (is_set (part_of words part)) value)
term_said words (term.Bits part width) = Number (as_bits (bits_of width) (part_of words part))
term_said words (term.Test part width value) = Truth (as_bits (bits_of width) (part_of words part) == value)

-- a cast cuts a number
abbrev pub cast_said : Option Width → Said → Said
cast_said None said = said
cast_said (Some width) said = Number (as_bits (bits_of width) (number_said said))

unfoldable pub operand_said : List ℕ → Operand → Said
operand_said words operand = negated operand.negations (cast_said operand.cast (term_said words operand.term))

abbrev pub operand_number : List ℕ → Operand → ℕ
operand_number words operand = number_said (operand_said words operand)

-- what is put into a word of N bits
abbrev pub put_into : ℕ → List ℕ → ℕ → Put → ℕ
put_into N words word (put.Whole value) = as_bits N (operand_number words value)
put_into N words word (put.Part offset bits value) = written N word offset (min bits 64) (operand_number words value)

-- one after the other
abbrev pub all_put : ℕ → List ℕ → ℕ → List Put → ℕ
all_put N words word puts = fold (put_into N words) word puts

abbrev pub start_of : ℕ → List ℕ → Start → ℕ
start_of N words (start.Word word) = word
start_of N words (start.Based read one raised) = start_word N (word_at words read) one raised

-- a deed, and then those behind it
abbrev pub deed_then : Deed → List ℕ → List ℕ → (List ℕ → List ℕ → List Event) → List Event
deed_then (deed.Read at) words answers others =
    event.Read at.address at.width (next_answer (bits_of at.width) answers) ∷ others (words ++ next_answer (bits_of at.width) answers ∷ []) (drop 1 answers)
deed_then (deed.Write at from puts) words answers others =
    event.Write at.address at.width (all_put (bits_of at.width) words (start_of (bits_of at.width) words from) puts.items) ∷ others words answers
deed_then (deed.Say value) words answers others = event.Say (operand_said words value) ∷ others words answers

-- the events of deeds, where these words were read before
unfoldable pub deeds_mean : List Deed → List ℕ → List ℕ → List Event
deeds_mean [] words answers = []
deeds_mean (first ∷ others) words answers = deed_then first words answers (deeds_mean others)
