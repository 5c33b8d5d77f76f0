-- A text is split in one way into the bytes at its front that pass a test and a rest that begins with
-- none.
use Rattle.std.proofs.Common.{◌≡◌, ℕ, ◌+◌, List, [], ◌∷◌, ◌++◌, take, drop, Bool, true, false, ◌&&◌, cond, refl, sym, ap, ◌∙◌, add_comm, add-one}
use Rattle.std.specs.List.{list_all, prefix_len}

pub both_true : (a b : Bool) → (a && b) ≡ true → (a ≡ true) × (b ≡ true)
both_true true b h = (refl, h)
both_true false b h = cc

module _ (test : ℕ → Bool) where
  -- what no longer front reaches into
  abbrev pub Stops : List ℕ → Type 0
  Stops [] = Unit {0}
  Stops (byte ∷ bytes) = test byte ≡ false

  pub record IsFront (bytes front rest : List ℕ) : Type 0 where
    pub whole : bytes ≡ front ++ rest
    pub begins : list_all test front ≡ true
    pub stops : Stops rest

  front_cons : (byte : ℕ) (bytes : List ℕ) (b : Bool) → test byte ≡ b → IsFront bytes (take (prefix_len test bytes) bytes) (drop (prefix_len test bytes) bytes)
      → IsFront (byte ∷ bytes) (take (cond b (1 + prefix_len test bytes) 0) (byte ∷ bytes)) (drop (cond b (1 + prefix_len test bytes) 0) (byte ∷ bytes))
  front_cons byte bytes true is s = rw (add_comm 1 (prefix_len test bytes), add-one) record { whole = ap (λ l. byte ∷ l) s.whole; begins = rw is s.begins; stops = s.stops }
  front_cons byte bytes false is s = record { whole = refl; begins = refl; stops = is }

  pub front_of : (bytes : List ℕ) → IsFront bytes (take (prefix_len test bytes) bytes) (drop (prefix_len test bytes) bytes)
  front_of [] = record { whole = refl; begins = refl; stops = tt }
  front_of (byte ∷ bytes) = front_cons byte bytes (test byte) refl (front_of bytes)

  pub one_front : (front rest other more : List ℕ) → list_all test front ≡ true → Stops rest → list_all test other ≡ true → Stops more → front ++ rest ≡ other ++ more → (front ≡ other) × (rest ≡ more)
  one_front [] rest [] more w s v t e = (refl, e)
  one_front [] [] (y ∷ ys) more w s v t e = cc
  one_front [] (x ∷ xs) (y ∷ ys) more w s v t e =
      let h = both_true (test y) (list_all test ys) v in
      let same : x ≡ y = cc in
      let no : true ≡ false = sym (ap test same ∙ h.0) ∙ s in
      cc
  one_front (x ∷ xs) rest [] [] w s v t e = cc
  one_front (x ∷ xs) rest [] (y ∷ ys) w s v t e =
      let h = both_true (test x) (list_all test xs) w in
      let same : y ≡ x = cc in
      let no : true ≡ false = sym (ap test same ∙ h.0) ∙ t in
      cc
  one_front (x ∷ xs) rest (y ∷ ys) more w s v t e =
      let tail : xs ++ rest ≡ ys ++ more = cc in
      let head : x ≡ y = cc in
      let r = one_front xs rest ys more (both_true (test x) (list_all test xs) w).1 s (both_true (test y) (list_all test ys) v).1 t tail in
      (ap (λ l. x ∷ l) r.0 ∙ ap (λ b. b ∷ ys) head, r.1)

  -- the bytes at the front, where the split is known
  pub front_is : (bytes front rest : List ℕ) → bytes ≡ front ++ rest → list_all test front ≡ true → Stops rest → (take (prefix_len test bytes) bytes ≡ front) × (drop (prefix_len test bytes) bytes ≡ rest)
  front_is bytes front rest whole begins stops =
      let f = front_of bytes in
      one_front (take (prefix_len test bytes) bytes) (drop (prefix_len test bytes) bytes) front rest f.begins f.stops begins stops (sym f.whole ∙ whole)
