-- The text went through a new block, and what was pending was sent at last.
use Rattle.lash_io.proofs.Moving.{passes_then_flush}
use Rattle.set_answers.proofs.lines.write_lines.Goals as goal

pub returns-clause-text : goal.returns-clause-text
returns-clause-text g c = passes_then_flush _ _ _ _ _ _ _ c.new-block.ensures c.in_ok-put_text.ensures.bytes c.flush.ensures.bytes
