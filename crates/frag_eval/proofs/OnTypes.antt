-- Calls of values that stand on a type, and what readers and writers make of words.
use Rattle.std.proofs.Common.{ℕ, ◌≡◌, ◌^◌, ◌<◌, ◌++◌, min, List, Option, Some, None, refl, sym, ap, ◌∙◌, arith}
use Rattle.pac_base.specs.declared.width.Width.{Width}
use Rattle.pac_base.specs.Widths.{bits_of}
use Rattle.frag_tree.specs.declared.register.BitKind.{BitKind}
use Rattle.frag_tree.specs.declared.register.ReadForm.TheVariants as read
use Rattle.frag_tree.specs.declared.register.Reader.{Reader}
use Rattle.frag_tree.specs.declared.register.RegisterModule.{RegisterModule}
use Rattle.frag_tree.specs.declared.register.Spot.{Spot}
use Rattle.frag_tree.specs.declared.register.Values.{Values}
use Rattle.frag_tree.specs.declared.register.WriteForm.TheVariants as write
use Rattle.frag_tree.specs.declared.register.Writer.{Writer}
use Rattle.frag_sem.specs.PreludeCalls.{bit_writes}
use Rattle.frag_sem.specs.PreludeWords.{as_bits, is_set, taken, written}
use Rattle.frag_sem.specs.ProxyTypes.{numbers_on, reader_type, truths_on, writer_type}
use Rattle.frag_sem.specs.Spots.{spot_at}
use Rattle.frag_sem.specs.TextMeaning.{bit_given, bit_put, bits_given, bits_put, field_given, field_written, form_given, form_written, reader_given, reader_named, writer_named}
use Rattle.frag_eval.proofs.Cutting.{bits_cut, taken_cut, written_cut}

-- ---- readers

pub bit-form : (unit : RegisterModule) (reader : Reader) (index : Option ℕ) (method : List ℕ) (word offset mask : ℕ) (spot : Spot) (values : List Values)
    → reader.form ≡ read.Bit spot mask → values ≡ unit.values → offset ≡ min (spot_at spot index) 64 → word < 2 ^ 64
    → bit_given (truths_on (reader_type reader) values) method (is_set (taken word offset mask)) ≡ form_given unit reader index method word reader.form
bit-form unit reader index method word offset mask spot values is are off small =
    ap (λ (vs : List Values). bit_given (truths_on (reader_type reader) vs) method (is_set (taken word offset mask))) are
    ∙ (ap (λ (t : ℕ). bit_given (truths_on (reader_type reader) unit.values) method (is_set t)) (ap (λ (o : ℕ). taken word o mask) off ∙ taken_cut word (spot_at spot index) mask small)
    ∙ sym (ap (form_given unit reader index method word) is))

pub field-form : (unit : RegisterModule) (reader : Reader) (index : Option ℕ) (method : List ℕ) (word offset mask : ℕ) (width : Width) (spot : Spot) (values : List Values)
    → reader.form ≡ read.Field width spot mask → values ≡ unit.values → offset ≡ min (spot_at spot index) 64 → word < 2 ^ 64
    → bits_given (numbers_on (reader_type reader) values) method (as_bits (bits_of width) (taken word offset mask)) ≡ form_given unit reader index method word reader.form
field-form unit reader index method word offset mask width spot values is are off small =
    ap (λ (vs : List Values). bits_given (numbers_on (reader_type reader) vs) method (as_bits (bits_of width) (taken word offset mask))) are
    ∙ (ap (λ (t : ℕ). bits_given (numbers_on (reader_type reader) unit.values) method (as_bits (bits_of width) t)) (ap (λ (o : ℕ). taken word o mask) off ∙ taken_cut word (spot_at spot index) mask small)
    ∙ sym (ap (form_given unit reader index method word) is))

pub given-by : (unit : RegisterModule) (name : List ℕ) (index : Option ℕ) (method : List ℕ) (word : ℕ) (reader : Reader) → Some reader ≡ reader_named name unit → form_given unit reader index method word reader.form ≡ field_given unit name index method word
unfolding field_given
given-by unit name index method word reader is = ap (reader_given unit index method word) is

-- ---- writers

pub bit-put : (unit : RegisterModule) (writer : Writer) (index : Option ℕ) (method : List ℕ) (given word offset number : ℕ) (kind : BitKind) (spot : Spot) (values : List Values)
    → writer.form ≡ write.Bit kind spot → values ≡ unit.values → offset ≡ min (spot_at spot index) 64 → number ≡ bit_put (bit_writes kind ++ truths_on (writer_type writer) values) method given
    → written (bits_of unit.word) word offset 1 number ≡ form_written unit writer index method given word writer.form
bit-put unit writer index method given word offset number kind spot values is are off number-is =
    ap (λ (n : ℕ). written (bits_of unit.word) word offset 1 n) (number-is ∙ ap (λ (vs : List Values). bit_put (bit_writes kind ++ truths_on (writer_type writer) vs) method given) are)
    ∙ (ap (λ (o : ℕ). written (bits_of unit.word) word o 1 (bit_put (bit_writes kind ++ truths_on (writer_type writer) unit.values) method given)) off
    ∙ (written_cut unit.word word (spot_at spot index) 1 (bit_put (bit_writes kind ++ truths_on (writer_type writer) unit.values) method given)
    ∙ sym (ap (form_written unit writer index method given word) is)))

pub field-put : (unit : RegisterModule) (writer : Writer) (index : Option ℕ) (method : List ℕ) (given word offset few number bits : ℕ) (width : Width) (spot : Spot) (values : List Values)
    → writer.form ≡ write.Field width bits spot → values ≡ unit.values → offset ≡ min (spot_at spot index) 64 → few ≡ min bits 64 → number ≡ bits_put (numbers_on (writer_type writer) values) method given
    → written (bits_of unit.word) word offset (min few 64) number ≡ form_written unit writer index method given word writer.form
field-put unit writer index method given word offset few number bits width spot values is are off few-is number-is =
    let same : min few 64 ≡ min bits 64 = omega (arith, few-is) in
    let number' : ℕ = bits_put (numbers_on (writer_type writer) unit.values) method given in
    ap (λ (n : ℕ). written (bits_of unit.word) word offset (min few 64) n) (number-is ∙ ap (λ (vs : List Values). bits_put (numbers_on (writer_type writer) vs) method given) are)
    ∙ (ap (λ (o : ℕ). written (bits_of unit.word) word o (min few 64) number') off
    ∙ (written_cut unit.word word (spot_at spot index) (min few 64) number'
    ∙ (ap (λ (n : ℕ). written (bits_of unit.word) word (spot_at spot index) n number') same
    ∙ (bits_cut unit.word word (spot_at spot index) bits number'
    ∙ sym (ap (form_written unit writer index method given word) is)))))

pub written-by : (unit : RegisterModule) (field : List ℕ) (index : Option ℕ) (method : List ℕ) (value word : ℕ) (writer : Writer) → Some writer ≡ writer_named field unit → form_written unit writer index method value word writer.form ≡ field_written unit field index method value word
unfolding field_written
written-by unit field index method value word writer is = rw (← is) refl

pub not-written : (unit : RegisterModule) (field : List ℕ) (index : Option ℕ) (method : List ℕ) (value word : ℕ) → None ≡ writer_named field unit → word ≡ field_written unit field index method value word
unfolding field_written
not-written unit field index method value word is = rw (← is) refl
