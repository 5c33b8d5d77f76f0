use Rattle.std.proofs.Common.{◌≡◌, not, take}
use Rattle.std.specs.List.{filter}
use Rattle.frag_script.specs.Tokens.{is_underscore}
use Rattle.frag_script.proofs.number.without_underscores.Given as goal

abbrev pub invariant-loop-byte : goal.invariant-loop-byte
invariant-loop-byte l = l.digits.items ≡ filter (λ byte. not (is_underscore byte)) (take l.byte-index l.text)
