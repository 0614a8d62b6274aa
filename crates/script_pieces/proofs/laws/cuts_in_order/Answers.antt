use Rattle.script_pieces.proofs.Cutting.{stable, later, within, cut_first}
use Rattle.script_pieces.proofs.laws.cuts_in_order.Goals as goal

pub returns-clause-stable : goal.returns-clause-stable
returns-clause-stable c = stable

pub returns-clause-later : goal.returns-clause-later
returns-clause-later c = later

pub returns-clause-within : goal.returns-clause-within
returns-clause-within c = within

pub returns-clause-first : goal.returns-clause-first
returns-clause-first c = cut_first
