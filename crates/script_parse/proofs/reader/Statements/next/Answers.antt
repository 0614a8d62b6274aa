use Rattle.std.proofs.Common.{subst}
use Rattle.script_pieces.specs.Answers.{IsAhead}
use Rattle.script_names.specs.Kept.{sets_of}
use Rattle.script_parse.specs.Answers.{State, Says}
use Rattle.script_parse.proofs.Stepping.{says_rest, says_statement}
use Rattle.script_parse.proofs.reader.Statements.next.Goals as goal

pub returns-in-Ok-Statement-clause-says : goal.returns-in-Ok-Statement-clause-says
returns-in-Ok-Statement-clause-says g c =
    let lb = g.S.Source.left c.args.source.now in
    let la = g.S.Source.left c.fetch.new.source in
    let fb = g.S.Source.faults c.args.source.now in
    let fa = g.S.Source.faults c.fetch.new.source in
    subst (λ (x : State). Says x.base (sets_of c.args.defs.now) x.progress c.statement.new.self.progress lb la fb fa c.statement.result) c.self.view_is
    (says_statement c.self.inside.base (sets_of c.args.defs.now) c.self.inside.pieces c.fetch.new.self c.statement.new.self lb la fb fa c.in-Ok-Statement.size c.statement.result
    (record { taken = c.in-Ok-Statement.ensures.kept; needed = c.in-Ok-Statement.ensures.needed })
    (subst (λ a. IsAhead a c.fetch.new.self la) c.in-Ok-Statement.field-0-is c.in-Ok-Statement.ensures.ahead)
    c.statement.ensures)

pub returns-in-Ok-Rest-clause-says : goal.returns-in-Ok-Rest-clause-says
returns-in-Ok-Rest-clause-says g c =
    let lb = g.S.Source.left c.args.source.now in
    let la = g.S.Source.left c.fetch.new.source in
    let fb = g.S.Source.faults c.args.source.now in
    let fa = g.S.Source.faults c.fetch.new.source in
    subst (λ (x : State). Says x.base (sets_of c.args.defs.now) x.progress c.fetch.new.self lb la fb fa c.rest.result) c.self.view_is
    (says_rest c.self.inside.base (sets_of c.args.defs.now) c.self.inside.pieces c.fetch.new.self lb la fb fa c.rest.result
    (record { taken = c.in-Ok-Rest.ensures.kept; needed = c.in-Ok-Rest.ensures.needed })
    (subst (λ a. IsAhead a c.fetch.new.self la) c.in-Ok-Rest.field-0-is c.in-Ok-Rest.ensures.ahead)
    c.rest.ensures)
