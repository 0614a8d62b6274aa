-- The lines of the endings.
use Rattle.std.proofs.Common.{sym, subst}
use Rattle.lash_io.specs.Blocks.{Passes}
use Rattle.lash_command.specs.Lines.{line_of}
use Rattle.lash_command.specs.declared.ending.Ending.{Ending}
use Rattle.lash_command.proofs.lines.put_line.Goals as goal

pub returns-in-Usage-clause-bytes : goal.returns-in-Usage-clause-bytes
returns-in-Usage-clause-bytes g c = subst (λ (e : Ending). Passes (g.E.Sink.held c.args.sink.now) c.args.block.now (g.E.Sink.held c.put-in-Usage.new.sink) c.put-in-Usage.new.self c.put-in-Usage.result (line_of e)) (sym c.in-Usage.is) c.put-in-Usage.ensures.bytes

pub returns-in-WriteFault-clause-bytes : goal.returns-in-WriteFault-clause-bytes
returns-in-WriteFault-clause-bytes g c = subst (λ (e : Ending). Passes (g.E.Sink.held c.args.sink.now) c.args.block.now (g.E.Sink.held c.put-in-WriteFault.new.sink) c.put-in-WriteFault.new.self c.put-in-WriteFault.result (line_of e)) (sym c.in-WriteFault.is) c.put-in-WriteFault.ensures.bytes

pub returns-in-NoMemory-clause-bytes : goal.returns-in-NoMemory-clause-bytes
returns-in-NoMemory-clause-bytes g c = subst (λ (e : Ending). Passes (g.E.Sink.held c.args.sink.now) c.args.block.now (g.E.Sink.held c.put-in-NoMemory.new.sink) c.put-in-NoMemory.new.self c.put-in-NoMemory.result (line_of e)) (sym c.in-NoMemory.is) c.put-in-NoMemory.ensures.bytes

pub returns-in-Unbuilt-clause-bytes : goal.returns-in-Unbuilt-clause-bytes
returns-in-Unbuilt-clause-bytes g c = subst (λ (e : Ending). Passes (g.E.Sink.held c.args.sink.now) c.args.block.now (g.E.Sink.held c.put-in-Unbuilt.new.sink) c.put-in-Unbuilt.new.self c.put-in-Unbuilt.result (line_of e)) (sym c.in-Unbuilt.is) c.put-in-Unbuilt.ensures.bytes
