-- What a binary search finds among rows with rising words is what a look-up finds among their entries.
use Rattle.std.proofs.Common.{◌≡◌, ℕ, ◌+◌, ◌<◌, ⊎_elim, List, [], length, true, false, refl, sym, ◌∙◌, ap, arith, IsTrue, slice_index_or, ◌↔◌, Contains, Some, None, Option}
use Rattle.std.specs.Map.{lookup}
use Rattle.std.specs.Str.{bytes_eq}
use Rattle.std.specs.List.{IsDistinct, HoldsAt}
use Rattle.std.specs.List.Sorted.{IsPartitionPoint, IsNonDecreasingBy}
use Rattle.std.specs.declared.cmp.Ordering.{Ordering}
use Rattle.std.specs.declared.cmp.Ordering.TheVariants.{Less, Equal, Greater}
use Rattle.std.specs.Ordering.{nat_cmp, ordering_index, ordering_reverse, is_eq, is_lt}
use Rattle.std.specs.Cmp.Lexicographic.{slice_cmp}
use Rattle.std.proofs.lemmas.Cmp.{nat_list_cmp_total, nat_list_eq_equiv, tied_itself}
use Rattle.std.specs.Cmp.Lexicographic.{texts_ties}
use Rattle.std.proofs.lemmas.List.Sorted.{searchable_from_sorted}
use Rattle.case_table.specs.declared.row.CaseRow.{CaseRow}
use Rattle.std.proofs.lemmas.Map.Lookups.{exact_bytes}
use Rattle.std.proofs.lemmas.Map.Views.{Contains-from_lookup, lookup-from_Contains}
use Rattle.std.proofs.lemmas.Map.Keys.{IsDistinct-from_apart, Less-from_sorted}
use Rattle.std.proofs.lemmas.List.{get_or-map, length-map}
use Rattle.std.proofs.lemmas.Bool.{cases_lt}
use Rattle.std.proofs.lemmas.Slice.Eq.{bytes_eq-Decides}
use Rattle.case_table.specs.Entries.{entry_of, entries_of, words_of}
use Rattle.case_table.specs.Rising.{rises, IsBelow}
use Rattle.case_table.proofs.Rising.{sorted_from_rises, adjacent_from_rises, word_at, words_long}

same_words : (x y : List ℕ) → bytes_eq x y ≡ true → x ≡ y
same_words x y h = (bytes_eq-Decides x y).0 h

apart : (x y : List ℕ) → slice_cmp nat_cmp x y ≡ Less → bytes_eq x y ≡ false
apart x y h = texts_ties x y ∙ ap is_eq h

distinct_words : (words : List (List ℕ)) → IsTrue (rises words) → IsDistinct bytes_eq words
distinct_words words h = IsDistinct-from_apart bytes_eq words (λ i j d before within.
    apart (slice_index_or words i d) (slice_index_or words j d) (Less-from_sorted (slice_cmp nat_cmp) words i j d (sorted_from_rises words h) before within))

-- the look-up answers a code exactly where some entry has the word and the code
pub found_exactly : (word : List ℕ) (entries : List (List ℕ × ℕ)) (answer : Option ℕ) → IsTrue (rises (words_of entries)) → answer ≡ lookup (bytes_eq word) entries
    → (code : ℕ) → (answer ≡ Some code) ↔ Contains entries (word, code)
found_exactly word entries answer rising is code = (
  (λ e. Contains-from_lookup same_words word code entries (sym is ∙ e)),
  (λ among. is ∙ lookup-from_Contains nat_list_eq_equiv word code entries (distinct_words _ rising) among),
)

-- a row whose word is the one that is sought
pub hit : (word : List ℕ) (rows : List CaseRow) (at : ℕ) (row : CaseRow) → IsTrue (rises (words_of (entries_of rows))) → at < length rows
    → HoldsAt (λ other. slice_cmp nat_cmp other.word.now word ≡ Equal) rows at → Some (slice_index_or rows at row).code ≡ lookup (bytes_eq word) (entries_of rows)
hit word rows at row rising within equal =
    let same : (slice_index_or rows at row).word.now ≡ word = exact_bytes _ _ (equal row) in
    let entry : slice_index_or (entries_of rows) at (word, (slice_index_or rows at row).code) ≡ (word, (slice_index_or rows at row).code) =
    get_or-map entry_of rows at row (word, (slice_index_or rows at row).code) within ∙ ap (λ w. (w, (slice_index_or rows at row).code)) same in
    sym (lookup-from_Contains nat_list_eq_equiv word (slice_index_or rows at row).code (entries_of rows) (distinct_words _ rising)
    (at, rw length-map within, entry))

not_among : (word : List ℕ) (rows : List CaseRow) (at code : ℕ) → IsPartitionPoint (λ other. slice_cmp nat_cmp other.word.now word ≡ Less) (λ other. slice_cmp nat_cmp other.word.now word ≡ Greater) rows at
    → Contains (entries_of rows) (word, code) → ⊥
not_among word rows at code parts (k, within, is) =
    let row : CaseRow = record { word = record { ref_ptr = (0, 0); now = [] }; code = 0 } in
    let inside : k < length rows = rw length-map at within in
    let same : (slice_index_or rows k row).word.now ≡ word = ap (λ e. e.0) (sym (get_or-map entry_of rows k row (word, code) inside) ∙ is) in
    let tied : slice_cmp nat_cmp (slice_index_or rows k row).word.now word ≡ Equal =
    ap (λ w. slice_cmp nat_cmp w word) same ∙ tied_itself nat_list_cmp_total word in
    ⊎_elim (λ before. let e = parts.0 k row (omega arith) before in (cc))
    (λ after. let e = parts.1 k row after inside in (cc)) (cases_lt k at)

-- rows below and above the word that is sought, and none that has it
pub miss : (word : List ℕ) (rows : List CaseRow) (at : ℕ) → IsPartitionPoint (λ other. slice_cmp nat_cmp other.word.now word ≡ Less) (λ other. slice_cmp nat_cmp other.word.now word ≡ Greater) rows at
    → None ≡ lookup (bytes_eq word) (entries_of rows)
miss word rows at parts =
    elim (lookup (bytes_eq word) (entries_of rows)) as (λ answer. lookup (bytes_eq word) (entries_of rows) ≡ answer → None ≡ answer) [
      | None ↦ λ e. refl
      | Some code ↦ λ e. absurd (not_among word rows at code parts (Contains-from_lookup same_words word code (entries_of rows) e))
    ] refl

not_less : (o : Ordering) → IsTrue (is_lt (ordering_reverse o)) → is_lt o ≡ false
not_less Less h = cc
not_less Equal h = refl
not_less Greater h = refl

not_back : (word next : List ℕ) → IsBelow word next → is_lt (slice_cmp nat_cmp next word) ≡ false
not_back word next h = not_less (slice_cmp nat_cmp next word) (ap is_lt (sym (nat_list_cmp_total.antisymm word next)) ∙ h)

-- the words of rows rise, and so do the answers of a comparison with one word
pub searchable : (word : List ℕ) (rows : List CaseRow) → IsTrue (rises (words_of (entries_of rows))) → IsNonDecreasingBy (λ other. ordering_index (slice_cmp nat_cmp other.word.now word)) rows
searchable word rows rising = searchable_from_sorted nat_list_cmp_total (λ row. row.word.now) rows word (λ k row _ below.
    let here : slice_index_or (words_of (entries_of rows)) k [] ≡ (slice_index_or rows k row).word.now = word_at rows k [] row (omega arith) in
    let next : slice_index_or (words_of (entries_of rows)) (k + 1) [] ≡ (slice_index_or rows (k + 1) row).word.now = word_at rows (k + 1) [] row below in
    let under : IsBelow (slice_index_or (words_of (entries_of rows)) k []) (slice_index_or (words_of (entries_of rows)) (k + 1) []) =
    adjacent_from_rises (words_of (entries_of rows)) rising k [] (rw words_long below) in
    not_back (slice_index_or rows k row).word.now (slice_index_or rows (k + 1) row).word.now (rw (here, next) at under))
