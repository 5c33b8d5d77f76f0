-- Whether a text is a crate, however deep its modules nest: a survey that counts the open block modules.
use Rattle.std.specs.Prelude.{ℕ, zero, suc, ◌+◌, ◌-◌, ◌==◌, List, Option, Some, None, if◌then◌else◌}
use Rattle.text_scan.specs.Steps.{◌>>=◌}
use Rattle.frag_words.specs.Words.{Word}
use Rattle.frag_tree.specs.declared.krate.Version.{Version}
use Rattle.frag_tree.specs.ModuleProductions.{modules_reading}
use Rattle.frag_tree.specs.declared.phrase.Phrase.TheVariants as phrase
use Rattle.frag_token.specs.declared.sign.Sign.TheVariants as sign
use Rattle.frag_token.specs.Reading.{Found, phrase_at, sign_at}
use Rattle.frag_parts.specs.Reading.{head_at, register_at}
use Rattle.frag_parse.specs.Reading.{blocks_at, opening_at}

unfoldable pub inner_at : (version : Version) → ℕ → List Word → Found ℕ
inner_at version unclosed text = if sign_at 11 sign.Hash text then (head_at text >>= λ head. Some (unclosed + 1, head.1)) else ((register_at version) text >>= λ unit. Some (unclosed, unit.1))

unfoldable pub step_at : (version : Version) → ℕ → List Word → Found ℕ
step_at version unclosed text =
    if unclosed == 0 then (head_at text >>= λ head. Some (1, head.1)) else (if sign_at 0 sign.Pub text then (inner_at version) unclosed text else (phrase_at phrase.Closer text >>= λ rest. Some (unclosed - 1, rest)))

-- something was read
abbrev pub is_read : {A : Type 0} → Option A → Option (Unit {0})
is_read None = None
is_read (Some found) = Some tt

-- what follows so many open block modules is what closes them, and block modules up to the end
unfoldable pub closes : (version : Version) → ℕ → List Word → Option (Unit {0})
closes version zero text = is_read ((blocks_at version) text)
closes version (suc unclosed) text = (modules_reading version).read text >>= λ inside. (closes version) unclosed inside.1

unfoldable pub survey_at : (version : Version) → List Word → Option (Unit {0})
survey_at version text = is_read ((blocks_at version) text)

unfoldable pub surveyed_at : List Word → Option (Unit {0})
surveyed_at text = do
  opening ← opening_at text
  survey_at opening.0.0 opening.1
