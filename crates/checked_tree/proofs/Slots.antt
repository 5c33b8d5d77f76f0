-- Peripherals of one slot have one accessor: so where accessors are distinct, slots are.
use Rattle.std.proofs.Common.{◌≡◌, ℕ, Bool, true, false, ◌||◌, List, [], ◌∷◌, ◌++◌, refl, sym, ap, ◌∙◌, subst, bytes_eq, append-nil}
use Rattle.std.specs.Prelude.{codes, if◌then◌else◌}
use Rattle.std.specs.Char.{is_ascii_digit}
use Rattle.std.specs.Cmp.Lexicographic.{bytes_decides}
use Rattle.std.specs.List.{list_all, list_any}
use Rattle.std.proofs.lemmas.List.{append_cancel_right}
use Rattle.checked_tree.proofs.Names.{word-unmarked}
use Rattle.frag_sem.proofs.Lists.{both_true}
use Rattle.pac_base.specs.Names.{IsWord}
use Rattle.rust_names.specs.Keywords.{is_keyword, keywords}
use Rattle.rust_names.specs.PreludeNames.{is_prelude_name}
use Rattle.svd_values.specs.AccessorNames.{accessor_name, guarded, is_taken_slot, slot_name_of, taken_guard, without_array_mark}
use Rattle.svd_values.specs.Identifiers.{marker_name}
use Rattle.svd_values.proofs.Identifiers.{markers_tell}

-- ---- the guarded name tells the accessor

word-plain : (name : List ℕ) → IsWord name → without_array_mark name ≡ name
word-plain [] word = refl
word-plain (byte ∷ bytes) word = word-unmarked (byte ∷ bytes) (λ e. cc) word

same-guarded : (one other : List ℕ) → IsWord one → IsWord other → guarded one ≡ guarded other → accessor_name one ≡ accessor_name other
same-guarded one other first second same =
    markers_tell one other (ap marker_name (word-plain one first) ∙ ap (λ name. name ++ codes "_F") same ∙ ap marker_name (sym (word-plain other second)))

-- a guarded name is one that needs no guard
record Guarded (name : List ℕ) : Type 0 where
  word : IsWord (guarded name)
  again : guarded (guarded name) ≡ guarded name

guarded-again : (name : List ℕ) → IsWord name → Guarded name
guarded-again [] word = record { word = refl; again = refl }
guarded-again (byte ∷ bytes) word = by (is_ascii_digit byte) refl
  where
    by : (b : Bool) → is_ascii_digit byte ≡ b → Guarded (byte ∷ bytes)
    by true e = let is : guarded (byte ∷ bytes) ≡ 95 ∷ byte ∷ bytes = ap (λ b. (if b then codes "_" else []) ++ (byte ∷ bytes)) e in record {
      word = subst IsWord (sym is) word;
      again = ap guarded is ∙ sym is;
    }
    by false e = let is : guarded (byte ∷ bytes) ≡ byte ∷ bytes = ap (λ b. (if b then codes "_" else []) ++ (byte ∷ bytes)) e in record {
      word = subst IsWord (sym is) word;
      again = ap guarded is;
    }

by-guarded : (name : List ℕ) → IsWord name → accessor_name name ≡ accessor_name (guarded name)
by-guarded name word = let is = guarded-again name word in same-guarded name (guarded name) word is.word (sym is.again)

-- ---- names that are taken

abbrev is_kept : List ℕ → Bool
is_kept word = bytes_eq (accessor_name word) (accessor_name (word ++ 95 ∷ []))

all-kept : list_all is_kept (codes "_" ∷ keywords) ≡ true
unfolding is_keyword is_prelude_name
all-kept = refl

of-all : (test : List ℕ → Bool) (word : List ℕ) (words : List (List ℕ)) → list_any (bytes_eq word) words ≡ true → list_all test words ≡ true → test word ≡ true
of-all test word [] any all = absurd cc
of-all test word (first ∷ words) any all = let parts = both_true (test first) (list_all test words) all in by (bytes_eq word first) refl any parts.0 (λ more. of-all test word words more parts.1)
  where
    by : (b : Bool) → bytes_eq word first ≡ b → (b || list_any (bytes_eq word) words) ≡ true → test first ≡ true → (list_any (bytes_eq word) words ≡ true → test word ≡ true) → test word ≡ true
    by true e any here more = ap test ((bytes_decides word first).0 e) ∙ here
    by false e any here more = more any

-- a slot that is taken has its accessor with or without `_`
kept : (word : List ℕ) → is_taken_slot word ≡ true → accessor_name (word ++ 95 ∷ []) ≡ accessor_name word
unfolding is_keyword
kept word taken = sym ((bytes_decides (accessor_name word) (accessor_name (word ++ 95 ∷ []))).0 (of-all is_kept word (codes "_" ∷ keywords) (turned (list_any (bytes_eq word) keywords) (bytes_eq word (codes "_")) taken) all-kept))
  where
    turned : (a b : Bool) → (a || b) ≡ true → (b || a) ≡ true
    turned true true e = refl
    turned true false e = refl
    turned false b e = by b e
      where
        by : (b : Bool) → b ≡ true → (b || false) ≡ true
        by true e = refl
        by false e = e

-- ---- slots

-- one is taken, and the other has `_` by itself
one-taken : (one other : List ℕ) → IsWord one → IsWord other → is_taken_slot (guarded one) ≡ true → guarded one ++ 95 ∷ [] ≡ guarded other → accessor_name one ≡ accessor_name other
one-taken one other first second taken same =
    by-guarded one first ∙ sym (kept (guarded one) taken) ∙ ap accessor_name same ∙ sym (by-guarded other second)

pub slots-tell : (one other : List ℕ) → IsWord one → IsWord other → slot_name_of one ≡ slot_name_of other → accessor_name one ≡ accessor_name other
slots-tell one other first second same = by (is_taken_slot (guarded one)) refl (is_taken_slot (guarded other)) refl same
  where
    by : (a : Bool) → is_taken_slot (guarded one) ≡ a → (b : Bool) → is_taken_slot (guarded other) ≡ b → guarded one ++ taken_guard a ≡ guarded other ++ taken_guard b → accessor_name one ≡ accessor_name other
    by true p true q e = same-guarded one other first second (append_cancel_right (guarded one) (guarded other) (95 ∷ []) e)
    by true p false q e = one-taken one other first second p (e ∙ append-nil (guarded other))
    by false p true q e = sym (one-taken other one second first q (sym e ∙ append-nil (guarded one)))
    by false p false q e = same-guarded one other first second (sym (append-nil (guarded one)) ∙ e ∙ append-nil (guarded other))
