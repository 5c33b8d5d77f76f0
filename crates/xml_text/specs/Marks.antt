-- A text up to a mark. `EndsAtFirst mark text rest`: the rest follows the first place in the text where the mark stands (XML 1.0: a comment ends at the
-- next `-->`, and a declaration at the next `?>`).
use Rattle.std.specs.Prelude.{◌≡◌, ℕ, ◌≤◌, List, ◌++◌, length}

pub record EndsAtFirst (mark text rest : List ℕ) : Type 0 where
  pub before : List ℕ
  pub whole : text ≡ before ++ (mark ++ rest)
  pub first : (earlier behind : List ℕ) → text ≡ earlier ++ (mark ++ behind) → length before ≤ length earlier
