-- The word, then the words of the limit.
use Rattle.std.proofs.Common.{subst, List, ℕ}
use Rattle.canon_text.proofs.Steps.{go_on, cut}
use Rattle.lash_io.specs.Blocks.{Passes}
use Rattle.lash_command.proofs.lines.put_limit.Goals as goal

pub returns-in_err-put-clause-bytes : goal.returns-in_err-put-clause-bytes
returns-in_err-put-clause-bytes g c = cut c.from_residual.result c.from_residual.ensures.0 _ _ _ _ _ _ c.in_err-put.ensures.bytes

pub returns-clause-bytes : goal.returns-clause-bytes
returns-clause-bytes g c = go_on _ _ _ _ c.in_ok-put.ensures.bytes (subst (λ (xs : List ℕ). Passes (g.E.Sink.held c.put.new.sink) c.put.new.self (g.E.Sink.held c.put-2.new.sink) c.put-2.new.self c.put-2.result xs) c.words_of_limit.ensures c.put-2.ensures.bytes)
