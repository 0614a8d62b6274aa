-- The bytes that were appended are the first of those that were put.
use Rattle.std.proofs.Common.{◌++◌, take, ap, ◌∙◌}
use Rattle.lash_io.proofs.Holding.{front_is_part}
use Rattle.lash_io.proofs.in_memory.MemSinkSink.put.Goals as goal

pub returns-clause-bytes : goal.returns-clause-bytes
returns-clause-bytes c =
    front_is_part c.args.self.now.held c.append.new.held.items c.args.bytes.now c.min-count.result
    (c.append.ensures.items ∙ ap (λ s. s.held ++ take c.min-count.result c.args.bytes.now) c.self.view_is)
