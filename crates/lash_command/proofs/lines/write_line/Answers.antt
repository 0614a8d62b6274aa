-- The line went through a new block, and what was pending was sent at last.
use Rattle.lash_io.proofs.Moving.{passes_then_flush}
use Rattle.canon_text.proofs.Steps.{flush_cut}
use Rattle.lash_command.proofs.lines.write_line.Goals as goal

pub returns-in_err-put_line-clause-text : goal.returns-in_err-put_line-clause-text
returns-in_err-put_line-clause-text g c = flush_cut c.from_residual.result c.from_residual.ensures.0 _ _ _ _ _ c.new-block.ensures c.in_err-put_line.ensures.bytes

pub returns-clause-text : goal.returns-clause-text
returns-clause-text g c = passes_then_flush _ _ _ _ _ _ _ c.new-block.ensures c.in_ok-put_line.ensures.bytes c.flush.ensures.bytes
