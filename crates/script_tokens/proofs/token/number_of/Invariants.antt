use Rattle.std.proofs.Common.{◌≡◌, ◌-◌, take, map, min}
use Rattle.lash_model.specs.Letters.{number}
use Rattle.script_tokens.specs.Lexing.{number_limit}
use Rattle.script_tokens.proofs.token.number_of.Given as goal

abbrev pub invariant-loop-digit : goal.invariant-loop-digit
invariant-loop-digit l = l.number ≡ min (number 10 (map (λ b. b - 48) (take l.digit-index l.digits))) number_limit
