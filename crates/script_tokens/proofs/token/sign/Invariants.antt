use Rattle.std.proofs.Common.{◌≡◌, drop}
use Rattle.script_tokens.specs.Lexing.{sign_in}
use Rattle.script_tokens.proofs.token.sign.Given as goal

abbrev pub invariant-loop-kind : goal.invariant-loop-kind
invariant-loop-kind l = sign_in l.kinds l.bytes ≡ sign_in (drop l.kind-index l.kinds) l.bytes
