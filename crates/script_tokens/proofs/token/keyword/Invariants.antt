use Rattle.std.proofs.Common.{◌≡◌, drop}
use Rattle.script_tokens.specs.Lexing.{keyword_in}
use Rattle.script_tokens.proofs.token.keyword.Given as goal

abbrev pub invariant-loop-kind : goal.invariant-loop-kind
invariant-loop-kind l = keyword_in l.kinds l.word ≡ keyword_in (drop l.kind-index l.kinds) l.word
