-- Bytes at addresses: those that are held, and those that are written behind one another.
use Rattle.std.proofs.Common.{ℕ, ◌≡◌, ◌<◌, ◌+◌, ◌==◌, if◌then◌else◌, Bool, true, false, cond, List, [], ◌∷◌, ◌++◌, take, length, get_or, refl, sym, ap, ◌∙◌, Option, None}
use Rattle.std.proofs.lemmas.List.{take_more}
use Rattle.std.proofs.lemmas.Bool.{eqb-true}
use Rattle.std.specs.Option.{unwrap_or}
use Rattle.pac_bus.specs.declared.written.Written.{Written}
use Rattle.pac_bus.specs.Stores.{latest, with_byte}

latest-snoc : (byte : ℕ) (entries : List Written) (entry : Written) (address : ℕ) → latest byte (entries ++ entry ∷ []) address ≡ (if address == entry.address then entry.byte else latest byte entries address)
latest-snoc byte [] entry address = refl
latest-snoc byte (first ∷ entries) entry address = latest-snoc (if address == first.address then first.byte else byte) entries entry address

-- the latest byte of one more entry
pub latest_step : (entries : List Written) (i : ℕ) (past : Written) (address byte now : ℕ) → i < length entries → byte ≡ latest 0 (take i entries) address → now ≡ (if address == (get_or entries i past).address then (get_or entries i past).byte else byte) → now ≡ latest 0 (take (i + 1) entries) address
latest_step entries i past address byte now below so_far one =
    one ∙ ap (λ (b : ℕ). if address == (get_or entries i past).address then (get_or entries i past).byte else b) so_far
    ∙ sym (ap (λ (seen : List Written). latest 0 seen address) (take_more entries i past below) ∙ latest-snoc 0 (take i entries) (get_or entries i past) address)

module _ (look : ℕ → Option ℕ) (old new : List Written) (address byte : ℕ) where
  new_at : (none : look address ≡ None) (same : new ≡ old ++ record { address = address; byte = byte } ∷ []) (other : ℕ) → unwrap_or (look other) (latest 0 new other) ≡ (if other == address then byte else unwrap_or (look other) (latest 0 old other))
  new_at none same other =
      ap (λ (entries : List Written). unwrap_or (look other) (latest 0 entries other)) same ∙ ap (λ (b : ℕ). unwrap_or (look other) b) (latest-snoc 0 old (record { address = address; byte = byte }) other) ∙ by_test (other == address) refl
    where
      by_test : (test : Bool) → (other == address) ≡ test → unwrap_or (look other) (cond test byte (latest 0 old other)) ≡ cond test byte (unwrap_or (look other) (latest 0 old other))
      by_test true e = ap (λ (o : Option ℕ). unwrap_or o byte) (ap look (eqb-true other address e) ∙ none)
      by_test false e = refl

  -- a byte that isn't held is written behind the others
  pub put_new : look address ≡ None → new ≡ old ++ record { address = address; byte = byte } ∷ [] → (λ other. unwrap_or (look other) (latest 0 new other)) ≡ with_byte (λ other. unwrap_or (look other) (latest 0 old other)) address byte
  put_new none same = λ i other. new_at none same other i
