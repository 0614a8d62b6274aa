use Rattle.std.proofs.Common.{◌≡◌, ◌≤◌, ◌+◌, ◌-◌, ℕ, ◌++◌, length, drop, map}
use Rattle.script_tokens.specs.Lexing.{after_blanks, lexed, tokens_of}
use Rattle.script_tokens.specs.Shape.{placed_of}
use Rattle.script_tokens.proofs.token.tokens.Given as goal

abbrev pub invariant-loop-at : goal.invariant-loop-at
invariant-loop-at l = (n : ℕ) × (l.at ≤ length l.bytes) × (length l.bytes ≤ n + l.at) × (tokens_of l.place l.bytes ≡ map placed_of l.placed.items ++ after_blanks (lexed n) (l.place + l.at) (drop l.at l.bytes))

abbrev pub decreases-loop-at : goal.decreases-loop-at
decreases-loop-at l = length l.bytes - l.at
