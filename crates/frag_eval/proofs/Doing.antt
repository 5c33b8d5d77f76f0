-- What the deeds of one statement do.
use Rattle.std.proofs.Common.{ℕ, ◌≡◌, ◌+◌, ◌^◌, ◌<◌, ◌≤◌, zero, suc, Bool, true, false, cond, List, [], ◌∷◌, ◌++◌, drop, length, Option, Some, None, IfSome, bytes_eq, refl, sym, ap, ap₂, subst, ◌∙◌, arith, length-append, Vec, Global}
use Rattle.std.specs.Prelude.{if◌then◌else◌}
use Rattle.std.proofs.Math.Nat.{pow-le-pow_right}
use Rattle.std.proofs.lemmas.List.{append-nil}
use Rattle.pac_base.specs.declared.width.Width.{Width}
use Rattle.pac_base.specs.Widths.{bits_of}
use Rattle.frag_tree.specs.declared.event.Event.TheVariants as event
use Rattle.frag_tree.specs.declared.statement.Link.{Link}
use Rattle.frag_tree.specs.declared.statement.Value.{Value}
use Rattle.frag_sem.specs.CallPlaces.{RegisterAt}
use Rattle.frag_sem.specs.Meaning.{Acts, Bound, bound_as, chain_written, let_outcome, modify_outcome, names_within, next_answer, say_outcome, value_of, write_event}
use Rattle.frag_sem.specs.PreludeWords.{start_word}
use Rattle.frag_sem.specs.ScriptTyping.{reader_name}
use Rattle.frag_sem.specs.TextMeaning.{acts_at, one_to_modify, started, text_acts, zero_to_modify}
use Rattle.frag_sem.proofs.Words.{answer_small}
use Rattle.frag_eval.specs.declared.deed.Deed.TheVariants as deed
use Rattle.frag_eval.specs.declared.deed.Operand.{Operand}
use Rattle.frag_eval.specs.declared.deed.Put.{Put}
use Rattle.frag_eval.specs.declared.deed.Start.{Start}
use Rattle.frag_eval.specs.declared.deed.Start.TheVariants as start
use Rattle.frag_eval.specs.declared.names.Reading.{Reading}
use Rattle.frag_eval.specs.declared.role.Role.{Role}
use Rattle.frag_eval.specs.Deeds.{all_put, deeds_mean, operand_said, start_of, word_at}
use Rattle.frag_eval.specs.Lowered.{standing_of, target_of}
use Rattle.frag_eval.specs.Lowering.{Does, Finding, Knows, known_as, known_of}
use Rattle.frag_eval.proofs.Words.{bits_few}

-- ---- words

word_kept : (words : List ℕ) (a read : ℕ) → read < length words → word_at words read ≡ word_at (words ++ a ∷ []) read
word_kept [] a read within = absurd (omega arith)
word_kept (w ∷ words) a zero within = refl
word_kept (w ∷ words) a (suc read) within = word_kept words a read (omega arith)

pub word_last : (words : List ℕ) (a : ℕ) → word_at (words ++ a ∷ []) (length words) ≡ a
word_last [] a = refl
word_last (w ∷ words) a = word_last words a

words_small : (words : List ℕ) (a : ℕ) → ((read : ℕ) → word_at words read < 2 ^ 64) → a < 2 ^ 64 → (read : ℕ) → word_at (words ++ a ∷ []) read < 2 ^ 64
words_small [] a all small zero = small
words_small [] a all small (suc read) = omega arith
words_small (w ∷ words) a all small zero = all 0
words_small (w ∷ words) a all small (suc read) = words_small words a (λ other. all (suc other)) small read

pub answer_64 : (width : Width) (answers : List ℕ) → next_answer (bits_of width) answers < 2 ^ 64
answer_64 width answers =
    let small : next_answer (bits_of width) answers < 2 ^ bits_of width = answer_small (bits_of width) answers in
    let wide : 2 ^ bits_of width ≤ 2 ^ 64 = pow-le-pow_right (omega arith) (bits_few width) in
    omega (arith, small, wide)

one_more : (words : List ℕ) (a : ℕ) → length (words ++ a ∷ []) ≡ length words + 1
one_more words a = length-append words (a ∷ [])

-- ---- names

kept_known : (words : List ℕ) (a : ℕ) (o : Option Reading) → IfSome o (λ reading. reading.read < length words) → known_as words o ≡ known_as (words ++ a ∷ []) o
kept_known words a None within = refl
kept_known words a (Some reading) within = ap (λ (w : ℕ). Some (text_acts reading.unit.now, w)) (word_kept words a reading.read within)

kept_within : (words : List ℕ) (a : ℕ) (o : Option Reading) → IfSome o (λ reading. reading.read < length words) → IfSome o (λ reading. reading.read < length (words ++ a ∷ []))
kept_within words a None within = tt
kept_within words a (Some reading) within = omega (arith, within, one_more words a)

-- one more word was read
pub knows_more : (words : List ℕ) (a : ℕ) (finding : Finding) (names : List Bound) → a < 2 ^ 64 → Knows words finding names → Knows (words ++ a ∷ []) finding names
knows_more words a finding names small knows = record {
  known = λ name. knows.known name ∙ kept_known words a (finding name) (knows.within name);
  small = words_small words a knows.small small;
  within = λ name. kept_within words a (finding name) (knows.within name);
}

-- and a name is bound to it
pub knows_bound : (words : List ℕ) (a : ℕ) (old now : Finding) (names : List Bound) (bound : List ℕ) (acts : Acts) (reading : Reading)
    → a < 2 ^ 64 → Knows words old names → acts ≡ text_acts reading.unit.now → reading.read ≡ length words → ((other : List ℕ) → now other ≡ (if bytes_eq other bound then Some reading else old other))
    → Knows (words ++ a ∷ []) now (record { name = bound; acts = acts; word = a } ∷ names)
knows_bound words a old now names bound acts reading small knows same read is = record {
  known = λ name. by name (bytes_eq name bound) (is name);
  small = words_small words a knows.small small;
  within = λ name. within name (bytes_eq name bound) (is name);
}
  where
    by : (name : List ℕ) (b : Bool) → now name ≡ (if b then Some reading else old name) → known_of (cond b (Some (record { name = bound; acts = acts; word = a })) (bound_as name names)) ≡ known_as (words ++ a ∷ []) (now name)
    by name true found =
        ap₂ (λ (x : Acts) (w : ℕ). Some (x, w)) same (sym (ap (word_at (words ++ a ∷ [])) read ∙ word_last words a)) ∙ ap (known_as (words ++ a ∷ [])) (sym found)
    by name false found = knows.known name ∙ (kept_known words a (old name) (knows.within name) ∙ ap (known_as (words ++ a ∷ [])) (sym found))

    within : (name : List ℕ) (b : Bool) → now name ≡ (if b then Some reading else old name) → IfSome (now name) (λ reading. reading.read < length (words ++ a ∷ []))
    within name true found = subst (λ (o : Option Reading). IfSome o (λ reading. reading.read < length (words ++ a ∷ []))) (sym found) (omega (arith, read, one_more words a))
    within name false found = subst (λ (o : Option Reading). IfSome o (λ reading. reading.read < length (words ++ a ∷ []))) (sym found) (kept_within words a (old name) (knows.within name))

-- ---- deeds

pub let_does : (found : RegisterAt) (role : Role) (line : ℕ) (words answers : List ℕ) (names : List Bound) (old now : Finding) (name : List ℕ) (reading : Reading) (before after : ℕ)
    → length words ≡ before → Knows words old names → reading.unit.now ≡ found.register → reading.read ≡ before → after ≡ before + 1 → ((other : List ℕ) → now other ≡ (if bytes_eq other name then Some reading else old other))
    → Does words answers (let_outcome name (standing_of answers names) (acts_at found)) (deed.Read (target_of found role line) ∷ []) now after
unfolding deeds_mean
let_does found role line words answers names old now name reading before after count knows unit read next is =
    let a : ℕ = next_answer (bits_of found.register.word) answers in
    record {
      meant = λ others. refl;
      knows = knows_bound words a old now names name (text_acts found.register) reading (answer_64 found.register.word answers) knows (ap text_acts (sym unit)) (read ∙ sym count) is;
      words_read = one_more words a ∙ (ap (λ (n : ℕ). n + 1) count ∙ sym next);
    }

pub write_does : (found : RegisterAt) (role : Role) (line : ℕ) (words answers : List ℕ) (names : List Bound) (finding : Finding) (before number : ℕ) (from : Start) (puts : Vec Put Global)
    → length words ≡ before → Knows words finding names → all_put (bits_of found.register.word) words (start_of (bits_of found.register.word) words from) puts.items ≡ number
    → Does words answers (record { events = write_event (acts_at found) number ∷ []; after = standing_of answers names }) (deed.Write (target_of found role line) from puts ∷ []) finding before
unfolding deeds_mean
write_does found role line words answers names finding before number from puts count knows is = record {
  meant = λ others.
      ap (λ (n : ℕ). event.Write found.address found.register.word n ∷ deeds_mean others words answers) is
      ∙ ap (λ (ws : List ℕ). event.Write found.address found.register.word number ∷ deeds_mean others ws answers) (sym (append-nil words));
  knows = subst (λ (ws : List ℕ). Knows ws finding names) (sym (append-nil words)) knows;
  words_read = ap length (append-nil words) ∙ count;
}

pub say_does : (words answers : List ℕ) (names : List Bound) (finding : Finding) (before : ℕ) (value : Value) (operand : Operand)
    → length words ≡ before → Knows words finding names → operand_said words operand ≡ value_of names value
    → Does words answers (say_outcome value (standing_of answers names)) (deed.Say operand ∷ []) finding before
unfolding deeds_mean
say_does words answers names finding before value operand count knows is = record {
  meant = λ others.
      ap (λ said. event.Say said ∷ deeds_mean others words answers) is
      ∙ ap (λ (ws : List ℕ). event.Say (value_of names value) ∷ deeds_mean others ws answers) (sym (append-nil words));
  knows = subst (λ (ws : List ℕ). Knows ws finding names) (sym (append-nil words)) knows;
  words_read = ap length (append-nil words) ∙ count;
}

pub nothing_does : (words answers : List ℕ) (names : List Bound) (finding : Finding) (before : ℕ) → length words ≡ before → Knows words finding names
    → Does words answers (record { events = []; after = standing_of answers names }) [] finding before
nothing_does words answers names finding before count knows = record {
  meant = λ others. ap (λ (ws : List ℕ). deeds_mean others ws answers) (sym (append-nil words));
  knows = subst (λ (ws : List ℕ). Knows ws finding names) (sym (append-nil words)) knows;
  words_read = ap length (append-nil words) ∙ count;
}

-- the names within the chain of a `modify`
knows_within : (b : Bool) (found : RegisterAt) (words : List ℕ) (a : ℕ) (old now : Finding) (names : List Bound) (reading : Reading)
    → a < 2 ^ 64 → Knows words old names → reading.unit.now ≡ found.register → reading.read ≡ length words
    → ((other : List ℕ) → now other ≡ (if b then (if bytes_eq other reader_name then Some reading else old other) else old other))
    → Knows (words ++ a ∷ []) now (names_within b (acts_at found) a names)
knows_within true found words a old now names reading small knows unit read is = knows_bound words a old now names reader_name (text_acts found.register) reading small knows (ap text_acts (sym unit)) read is
knows_within false found words a old now names reading small knows unit read is =
    let more = knows_more words a old names small knows in
    record {
      known = λ name. more.known name ∙ ap (known_as (words ++ a ∷ [])) (sym (is name));
      small = more.small;
      within = λ name. subst (λ (o : Option Reading). IfSome o (λ reading. reading.read < length (words ++ a ∷ []))) (sym (is name)) (more.within name);
    }

pub modify_does : (found : RegisterAt) (line : ℕ) (one other : Role) (words answers : List ℕ) (names : List Bound) (old within : Finding) (names_reader : Bool) (chain : List Link) (reading : Reading) (before after a_one raised : ℕ) (puts : Vec Put Global)
    → length words ≡ before → Knows words old names → reading.unit.now ≡ found.register → reading.read ≡ before → after ≡ before + 1
    → a_one ≡ one_to_modify found.register → raised ≡ zero_to_modify found.register
    → ((name : List ℕ) → within name ≡ (if names_reader then (if bytes_eq name reader_name then Some reading else old name) else old name))
    → ((words : List ℕ) (bindings : List Bound) (word : ℕ) → Knows words within bindings → all_put (bits_of found.register.word) words word puts.items ≡ chain_written (text_acts found.register) bindings word chain)
    → Does words answers (modify_outcome names_reader chain (standing_of answers names) (acts_at found)) (deed.Read (target_of found one line) ∷ deed.Write (target_of found other line) (start.Based reading.read a_one raised) puts ∷ []) old after
unfolding deeds_mean
modify_does found line one other words answers names old within names_reader chain reading before after a_one raised puts count knows unit read next one-is raised-is is chained =
    let N : ℕ = bits_of found.register.word in
    let a : ℕ = next_answer N answers in
    let words' : List ℕ = words ++ a ∷ [] in
    let small : a < 2 ^ 64 = answer_64 found.register.word answers in
    let last : word_at words' reading.read ≡ a = ap (word_at words') (read ∙ sym count) ∙ word_last words a in
    let from : start_word N (word_at words' reading.read) a_one raised ≡ started found.register a =
    ap (λ (w : ℕ). start_word N w a_one raised) last ∙ (ap (λ (m : ℕ). start_word N a m raised) one-is ∙ ap (start_word N a (one_to_modify found.register)) raised-is) in
    let known = knows_within names_reader found words a old within names reading small knows unit (read ∙ sym count) is in
    record {
      meant = λ others.
          ap (λ (w : ℕ). event.Read found.address found.register.word a ∷ event.Write found.address found.register.word w ∷ deeds_mean others words' (drop 1 answers))
          (ap (λ (w : ℕ). all_put N words' w puts.items) from ∙ chained words' (names_within names_reader (acts_at found) a names) (started found.register a) known);
      knows = knows_more words a old names small knows;
      words_read = one_more words a ∙ (ap (λ (n : ℕ). n + 1) count ∙ sym next);
    }
