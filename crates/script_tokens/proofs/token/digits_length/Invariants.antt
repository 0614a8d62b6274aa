use Rattle.std.proofs.Common.{◌≡◌, ◌+◌, drop}
use Rattle.std.specs.List.{prefix_len}
use Rattle.formula_core.specs.Names.{is_digit}
use Rattle.script_tokens.proofs.token.digits_length.Given as goal

abbrev pub invariant-loop-count : goal.invariant-loop-count
invariant-loop-count l = prefix_len is_digit l.bytes ≡ l.count + prefix_len is_digit (drop l.count l.bytes)
