use Rattle.std.proofs.Common.{◌≡◌, ◌+◌, drop, false}
use Rattle.script_tokens.specs.Lexing.{blank_length}
use Rattle.script_tokens.proofs.token.blanks.Given as goal

abbrev pub invariant-loop-count : goal.invariant-loop-count
invariant-loop-count l = blank_length false l.bytes ≡ l.count + blank_length l.in_comment (drop l.count l.bytes)
