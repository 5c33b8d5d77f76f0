-- Words that rise: the test that computes and the relation of neighbours say the same, and no word stands twice.
use Rattle.std.proofs.Common.{◌≡◌, ℕ, ◌+◌, ◌-◌, ◌<◌, ◌≤◌, List, [], ◌∷◌, suc, zero, length, Bool, true, false, ◌&&◌, refl, sym, ap, ◌∙◌, subst, arith, IsTrue, slice_index_or}
use Rattle.std.specs.List.{AllAdjacentBelow}
use Rattle.std.specs.List.Sorted.{IsStrictlySortedBy}
use Rattle.std.specs.declared.cmp.Ordering.{Ordering}
use Rattle.std.specs.declared.cmp.Ordering.TheVariants.{Less, Equal, Greater}
use Rattle.std.specs.Ordering.{nat_cmp, is_lt}
use Rattle.std.specs.Cmp.Lexicographic.{slice_cmp}
use Rattle.std.proofs.lemmas.Cmp.{nat_list_cmp_total}
use Rattle.std.proofs.lemmas.Map.Keys.{sorted_from_all_adjacent}
use Rattle.std.proofs.lemmas.List.{get_or-map, length-map}
use Rattle.std.proofs.lemmas.List.Sorted.{all_adjacent_more}
use Rattle.case_table.specs.declared.row.CaseRow.{CaseRow}
use Rattle.case_table.specs.Entries.{entry_of, entries_of, word_of, words_of}
use Rattle.case_table.specs.Rising.{is_below, IsBelow, rises, IsFirstFall}

both : (a b : Bool) → IsTrue (a && b) → IsTrue a × IsTrue b
both true b h = (refl, h)
both false b h = (cc, cc)

join : (a b : Bool) → IsTrue a → IsTrue b → IsTrue (a && b)
join true b h k = k
join false b h k = h

less : (o : Ordering) → IsTrue (is_lt o) → o ≡ Less
less Less h = refl
less Equal h = cc
less Greater h = cc

pub adjacent_from_rises : (words : List (List ℕ)) → IsTrue (rises words) → AllAdjacentBelow IsBelow words (length words)
adjacent_from_rises [] h k d below = absurd (omega arith)
adjacent_from_rises (word ∷ []) h k d below = absurd (omega arith)
adjacent_from_rises (word ∷ (next ∷ words)) h zero d below = (both (is_below word next) (rises (next ∷ words)) h).0
adjacent_from_rises (word ∷ (next ∷ words)) h (suc k) d below =
    subst (λ n. IsBelow (slice_index_or (next ∷ words) k d) (slice_index_or (word ∷ (next ∷ words)) n d)) {x = suc (k + 1)} {y = suc k + 1} (omega arith)
    (adjacent_from_rises (next ∷ words) (both (is_below word next) (rises (next ∷ words)) h).1 k d (omega arith))

pub rises_from_adjacent : (words : List (List ℕ)) → AllAdjacentBelow IsBelow words (length words) → IsTrue (rises words)
rises_from_adjacent [] h = refl
rises_from_adjacent (word ∷ []) h = refl
rises_from_adjacent (word ∷ (next ∷ words)) h =
    join (is_below word next) (rises (next ∷ words)) (h 0 [] (omega arith))
    (rises_from_adjacent (next ∷ words) (λ k d below.
    subst (λ n. IsBelow (slice_index_or (next ∷ words) k d) (slice_index_or (word ∷ (next ∷ words)) n d)) {x = suc k + 1} {y = suc (k + 1)} (omega arith)
    (h (suc k) d (omega arith))))

pub sorted_from_rises : (words : List (List ℕ)) → IsTrue (rises words) → IsStrictlySortedBy (slice_cmp nat_cmp) words
sorted_from_rises words h =
    sorted_from_all_adjacent nat_list_cmp_total words [] (λ k below. less _ (adjacent_from_rises words h k [] below))

-- where a word falls the words don't rise
pub falls_not_rises : (words : List (List ℕ)) (at : ℕ) → IsFirstFall words at → IsTrue (rises words) → ⊥
falls_not_rises words at fall h =
    let after : 0 < at = fall.after_first in
    let within : at < length words = fall.within in
    fall.falls (subst (λ n. IsBelow (slice_index_or words (at - 1) []) (slice_index_or words n [])) {x = at - 1 + 1} {y = at} (omega arith)
    (adjacent_from_rises words h (at - 1) [] (omega arith)))

-- the words of rows, place by place
pub word_at : (rows : List CaseRow) (at : ℕ) (d : List ℕ) (row : CaseRow) → at < length rows → slice_index_or (words_of (entries_of rows)) at d ≡ (slice_index_or rows at row).word.now
word_at rows at d row within =
    get_or-map word_of (entries_of rows) at (entry_of row) d (subst (λ n. at < n) (sym (length-map rows entry_of)) within)
    ∙ ap word_of (get_or-map entry_of rows at row (entry_of row) within)

pub words_long : (rows : List CaseRow) → length (words_of (entries_of rows)) ≡ length rows
words_long rows = length-map (entries_of rows) word_of ∙ length-map rows entry_of

-- one more word rises above the one before
pub rises_more : (rows : List CaseRow) (at : ℕ) (row : CaseRow) → 0 < at → at < length rows → AllAdjacentBelow IsBelow (words_of (entries_of rows)) at
    → IsTrue (is_below (slice_index_or rows (at - 1) row).word.now (slice_index_or rows at row).word.now) → AllAdjacentBelow IsBelow (words_of (entries_of rows)) (at + 1)
rises_more rows at row after within before here =
    all_adjacent_more (words_of (entries_of rows)) IsBelow at after before (λ d.
    rw (word_at rows (at - 1) d row (omega arith), word_at rows at d row within) here)

pub first_fall : (rows : List CaseRow) (at : ℕ) (row : CaseRow) → 0 < at → at < length rows → AllAdjacentBelow IsBelow (words_of (entries_of rows)) at
    → is_below (slice_index_or rows (at - 1) row).word.now (slice_index_or rows at row).word.now ≡ false → IsFirstFall (words_of (entries_of rows)) at
first_fall rows at row after within before here = record {
  after_first = after;
  within = rw words_long within;
  rises_before = before;
  falls = rw (word_at rows (at - 1) [] row (omega arith), word_at rows at [] row within) (λ is. cc);
}

-- all words have been compared
pub rises_while_below : (rows : List CaseRow) (at : ℕ) → length rows ≤ at → AllAdjacentBelow IsBelow (words_of (entries_of rows)) at → IsTrue (rises (words_of (entries_of rows)))
rises_while_below rows at past before =
    let long : length (words_of (entries_of rows)) ≡ length rows = words_long rows in
    rises_from_adjacent (words_of (entries_of rows)) (λ k d below. before k d (omega arith))
