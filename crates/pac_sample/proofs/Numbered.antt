-- Parts by numbers: the next one, and what is written of them.
use Rattle.std.proofs.Common.{ℕ, ◌≡◌, ◌<◌, ◌≤◌, ◌+◌, ◌-◌, suc, List, [], ◌∷◌, ◌++◌, ap, sym, ◌∙◌, subst, Option, arith, append_assoc}
use Rattle.std.specs.List.{flat_map, range_with_len}
use Rattle.pac_io.specs.WrittenUpTo.{WrittenUpTo}
use Rattle.pac_io.specs.Writing.{AppendsPrefix}
use Rattle.pac_io.proofs.WrittenUpTo.{page_went_on, page_broke_off}
use Rattle.pac_sample.specs.Numbered.{between}

-- the first of the numbers that are left, and those behind it
pub between-more : (n end : ℕ) → n < end → between n end ≡ n ∷ between (n + 1) end
between-more n end below = let left : end - n ≡ suc (end - (n + 1)) = omega (arith, below) in ap (range_with_len n) left

pub between-none : (n end : ℕ) → end ≤ n → between n end ≡ []
between-none n end past = let none : end - n ≡ 0 = omega (arith, past) in ap (range_with_len n) none

module _ (part : ℕ → List ℕ) (n end : ℕ) where
  pub parts-more : n < end → flat_map part (between n end) ≡ part n ++ flat_map part (between (n + 1) end)
  parts-more below = ap (flat_map part) (between-more n end below)

  pub parts-none : end ≤ n → flat_map part (between n end) ≡ []
  parts-none past = ap (flat_map part) (between-none n end past)

  -- one more part behind what is made
  pub parts-next : (made next : List ℕ) → n < end → next ≡ made ++ part n → next ++ flat_map part (between (n + 1) end) ≡ made ++ flat_map part (between n end)
  parts-next made next below is =
      ap (λ text. text ++ flat_map part (between (n + 1) end)) is
      ∙ (append_assoc made (part n) (flat_map part (between (n + 1) end)) ∙ ap (λ text. made ++ text) (sym (parts-more below)))

  module _ (tail : List ℕ) where
    parts-left : n < end → flat_map part (between n end) ++ tail ≡ part n ++ (flat_map part (between (n + 1) end) ++ tail)
    parts-left below = ap (λ text. text ++ tail) (parts-more below) ∙ append_assoc (part n) (flat_map part (between (n + 1) end)) tail

    module _ (old mid : Option (List ℕ)) (all page : List ℕ) where
      so_far : n < end → WrittenUpTo old mid all (page ++ (flat_map part (between n end) ++ tail)) → WrittenUpTo old mid all (page ++ (part n ++ (flat_map part (between (n + 1) end) ++ tail)))
      so_far below before = subst (λ (left : List ℕ). WrittenUpTo old mid all (page ++ left)) (parts-left below) before

      -- one more part went to the page, and the page was turned
      pub part_went_on : (now : Option (List ℕ)) (pushed held : List ℕ) → n < end → pushed ≡ page ++ part n → WrittenUpTo old mid all (page ++ (flat_map part (between n end) ++ tail)) → WrittenUpTo mid now pushed held → WrittenUpTo old now all (held ++ (flat_map part (between (n + 1) end) ++ tail))
      part_went_on now pushed held below is before more =
          page_went_on page (part n) (flat_map part (between (n + 1) end) ++ tail) held (so_far below before) (subst (λ (text : List ℕ). WrittenUpTo mid now text held) is more)

      -- the page with one more part broke off
      pub part_broke_off : (now : Option (List ℕ)) (pushed : List ℕ) → n < end → pushed ≡ page ++ part n → WrittenUpTo old mid all (page ++ (flat_map part (between n end) ++ tail)) → AppendsPrefix mid now pushed → AppendsPrefix old now all
      part_broke_off now pushed below is before more =
          page_broke_off page (part n) (flat_map part (between (n + 1) end) ++ tail) (so_far below before) (subst (λ (text : List ℕ). AppendsPrefix mid now text) is more)

      -- the tail is left alone
      pub parts_ended : end ≤ n → WrittenUpTo old mid all (page ++ (flat_map part (between n end) ++ tail)) → WrittenUpTo old mid all (page ++ tail)
      parts_ended past before = subst (λ (text : List ℕ). WrittenUpTo old mid all (page ++ (text ++ tail))) (parts-none past) before
