-- The text went through a new block, and what was pending was sent at last.
use Rattle.lash_io.proofs.Moving.{passes_then_flush}
use Rattle.fraction_codes.proofs.text.digits_text.Goals as goal

pub returns-clause-text : goal.returns-clause-text
returns-clause-text g c = passes_then_flush _ _ _ _ _ _ _ c.new-block.ensures c.in_ok-put_track.ensures.bytes c.flush.ensures.bytes
