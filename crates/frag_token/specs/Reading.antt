-- Reading the words of a text from left to right: words, numbers, spots and lists, as each function of the reader gives them, on lists.
use Rattle.std.specs.Prelude.{ℕ, zero, suc, ◌≡◌, ◌<◌, Bool, true, false, not, ◌&&◌, List, [], ◌∷◌, length, drop, Option, Some, None, Result, Ok, Err, if◌then◌else◌}
use Rattle.std.specs.Str.{bytes_eq}
use Rattle.text_scan.specs.Steps.{◌>>=◌}
use Rattle.frag_words.specs.Words.{Word}
use Rattle.frag_words.specs.Readings.{among, word_is}
use Rattle.text_scan.specs.Numbers.{value_of}
use Rattle.rust_names.specs.Identifiers.{is_identifier}
use Rattle.frag_tree.specs.Numerals.{decimal_word, hexadecimal_word, truth_word, width_word}
use Rattle.frag_tree.specs.Registers.{kind_word}
use Rattle.frag_tree.specs.Productions.{numeral_at}
use Rattle.frag_tree.specs.declared.register.Spot.{Spot}
use Rattle.frag_tree.specs.declared.register.Spot.TheVariants.{Fixed, Indexed}
use Rattle.frag_tree.specs.declared.register.BitKind.{BitKind}
use Rattle.frag_tree.specs.declared.register.BitKind.TheVariants as kind
use Rattle.pac_base.specs.declared.width.Width.{Width}
use Rattle.pac_base.specs.declared.width.Width.TheVariants.{W8, W16, W32, W64}
use Rattle.frag_token.specs.declared.fault.Stop.{Stop}
use Rattle.frag_token.specs.declared.fault.Stop.TheVariants.{Unfit, Memory}
use Rattle.frag_tree.specs.declared.phrase.Phrase.{Phrase}
use Rattle.frag_tree.specs.declared.phrase.Phrase.TheVariants as phrase
use Rattle.frag_token.specs.declared.sign.Sign.{Sign}
use Rattle.frag_token.specs.declared.sign.Sign.TheVariants as sign
use Rattle.frag_token.specs.Signs.{sign_word}
use Rattle.frag_tree.specs.Phrases.{words_of}
use Rattle.frag_token.specs.declared.list.Begins.{Begins}
use Rattle.frag_token.specs.declared.list.Begins.TheVariants.{Pub, Impl, NotCloser}

-- Reading gives nothing, or memory ran out.
abbrev pub Fails : {Y : Type 0} → Stop → Option Y → Type 0
Fails (Unfit left) read = read ≡ None
Fails Memory read = Unit {0}

-- What a function returned, seen by `view`, is what reading gives, unless memory ran out.
abbrev pub Gives : {X Y : Type 0} → (X → Y) → Result X Stop → Option Y → Type 0
Gives view (Ok x) read = read ≡ Some (view x)
Gives view (Err stop) read = Fails stop read

-- what was read at the front of a text, and what follows it
abbrev pub Found : Type 0 → Type 0
Found A = Option (A × List Word)

-- ---- words

-- the first word, and what follows it
unfoldable pub first_at : List Word → Found Word
first_at [] = None
first_at (first ∷ others) = Some (first, others)

-- what follows this word
unfoldable pub word_then : Word → List Word → Option (List Word)
word_then word text = first_at text >>= λ first. if bytes_eq word first.0 then Some first.1 else None

-- what follows these words
unfoldable pub expects : List Word → List Word → Option (List Word)
expects [] text = Some text
expects (word ∷ words) text = word_then word text >>= λ rest. expects words rest

-- what follows a fixed text
unfoldable pub phrase_at : Phrase → List Word → Option (List Word)
phrase_at fixed text = expects (words_of fixed) text

-- what follows one word
unfoldable pub sign_then : Sign → List Word → Option (List Word)
sign_then word text = word_then (sign_word word) text

-- the word stands at a place
unfoldable pub sign_at : ℕ → Sign → List Word → Bool
sign_at n word text = word_is n (sign_word word) text

-- an `impl` block of this kind begins
unfoldable pub impl_at : Sign → List Word → Bool
impl_at word text = sign_at 0 sign.Impl text && sign_at 1 word text

-- the word, where it is an identifier
unfoldable pub name_of : Word → Option Word
name_of word = if is_identifier word then Some word else None

unfoldable pub name_at : List Word → Found Word
name_at text = do
  first ← first_at text
  name ← name_of first.0
  Some (name, first.1)

-- the number of which the word is the numeral
unfoldable pub hexadecimal_of : Word → Option ℕ
hexadecimal_of word = numeral_at hexadecimal_word (value_of 16 (drop 2 word)) word

unfoldable pub decimal_of : Word → Option ℕ
decimal_of word = numeral_at decimal_word (value_of 10 word) word

unfoldable pub hexadecimal_at : List Word → Found ℕ
hexadecimal_at text = do
  first ← first_at text
  number ← hexadecimal_of first.0
  Some (number, first.1)

unfoldable pub decimal_at : List Word → Found ℕ
decimal_at text = do
  first ← first_at text
  number ← decimal_of first.0
  Some (number, first.1)

-- the width, truth or kind whose word it is
unfoldable pub width_of : Word → Option Width
width_of word = among width_word (W8 ∷ W16 ∷ W32 ∷ W64 ∷ []) word

unfoldable pub truth_of : Word → Option Bool
truth_of word = among truth_word (true ∷ false ∷ []) word

unfoldable pub kind_of : Word → Option BitKind
kind_of word = among kind_word (kind.Plain ∷ kind.OneToSet ∷ kind.ZeroToClear ∷ kind.OneToClear ∷ kind.ZeroToSet ∷ kind.OneToToggle ∷ kind.ZeroToToggle ∷ []) word

unfoldable pub width_at : List Word → Found Width
width_at text = do
  first ← first_at text
  width ← width_of first.0
  Some (width, first.1)

unfoldable pub truth_at : List Word → Found Bool
truth_at text = do
  first ← first_at text
  truth ← truth_of first.0
  Some (truth, first.1)

unfoldable pub kind_at : List Word → Found BitKind
kind_at text = do
  first ← first_at text
  which ← kind_of first.0
  Some (which, first.1)

-- no word is left
abbrev pub is_end : List Word → Bool
is_end [] = true
is_end (word ∷ words) = false

-- ---- lists

-- at most so many trees, as long as a test of the text says so
unfoldable pub many_up_to : {A : Type 0} → (List Word → Bool) → (List Word → Found A) → ℕ → List Word → Found (List A)
many_up_to begins item_at zero text = if begins text then None else Some ([], text)
many_up_to begins item_at (suc most) text =
    if begins text then (item_at text >>= λ one. many_up_to begins item_at most one.1 >>= λ more. Some (one.0 ∷ more.0, more.1)) else Some ([], text)

-- trees, as long as a test of the text says so: none is empty, so a text has no more than words
unfoldable pub many_at : {A : Type 0} → (List Word → Bool) → (List Word → Found A) → List Word → Found (List A)
many_at begins item_at text = many_up_to begins item_at (length text) text

-- trees, and the brace behind them
unfoldable pub braced_at : {A : Type 0} → (List Word → Bool) → (List Word → Found A) → List Word → Found (List A)
braced_at begins item_at text = do
  items ← many_at begins item_at text
  rest ← phrase_at phrase.Closer items.1
  Some (items.0, rest)

-- an item stands at the front of a text
unfoldable pub begins_at : Begins → List Word → Bool
begins_at Pub text = sign_at 0 sign.Pub text
begins_at Impl text = sign_at 0 sign.Impl text
begins_at NotCloser text = not (sign_at 0 sign.Closer text)

abbrev pub begins_pub : List Word → Bool
begins_pub = begins_at Pub

abbrev pub begins_impl : List Word → Bool
begins_impl = begins_at Impl

abbrev pub begins_field : List Word → Bool
begins_field = begins_at NotCloser

-- what is read is followed by fewer words
abbrev pub Shrinks : {A : Type 0} → (List Word → Found A) → Type 0
Shrinks {A} item_at = (text : List Word) (item : A) (rest : List Word) → item_at text ≡ Some (item, rest) → length rest < length text

-- ---- spots

unfoldable pub at_bit_at : List Word → Found Spot
at_bit_at text = do
  rest ← phrase_at phrase.OpensAtBit text
  offset ← decimal_at rest
  rest ← phrase_at phrase.ThenNext offset.1
  step ← decimal_at rest
  rest ← phrase_at phrase.ThenNext step.1
  count ← decimal_at rest
  rest ← phrase_at phrase.ClosesAtBit count.1
  Some (Indexed offset.0 step.0 count.0, rest)

unfoldable pub place_at : List Word → Found Spot
place_at text = do
  place ← decimal_at text
  Some (Fixed place.0, place.1)

unfoldable pub spot_at : Bool → List Word → Found Spot
spot_at indexed text = if indexed then at_bit_at text else place_at text
