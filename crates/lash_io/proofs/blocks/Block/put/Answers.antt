-- Bytes too long for a block were put after the pending ones.
use Rattle.std.proofs.lemmas.Result.{MatchResult-weaker}
use Rattle.lash_io.proofs.Holding.{part_then}
use Rattle.lash_io.proofs.Moving.{moves_flushed_sent}
use Rattle.lash_io.proofs.blocks.Block.put.Goals as goal

pub returns-in-Ok-2-clause-bytes : goal.returns-in-Ok-2-clause-bytes
returns-in-Ok-2-clause-bytes g c =
    MatchResult-weaker c.put.result c.put.ensures.bytes
    (λ _ held. moves_flushed_sent _ _ _ _ _ _ c.in-Ok-2.ensures.bytes held c.in-Ok-2.ensures.empty)
    (λ _ part. (part_then _ _ _ _ _ c.in-Ok-2.ensures.bytes part, c.in-Ok-2.ensures.empty))
