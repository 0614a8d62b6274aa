use Rattle.std.proofs.Common.{rules}
use Rattle.weak_forms.proofs.TornStates.{torn_unmarked, torn_noted}
use Rattle.weak_forms.proofs.torn.is_torn.Goals as goal

pub returns-then-not-colour-clause-whole : goal.returns-then-not-colour-clause-whole
returns-then-not-colour-clause-whole c = λ _ torn. torn_unmarked c.args.table.now.table c.args.state torn (search rules)

pub returns-clause-whole : goal.returns-clause-whole
returns-clause-whole c = λ noted torn.
    torn_noted c.args.table.now.table c.letters-letters.ensures.table c.args.parts.now c.args.marks.now c.args.state c.requires.parts c.requires.marks
    c.requires.state torn (search rules)
