use Rattle.set_compile.proofs.Refusing.{pairs_exclude}
use Rattle.statement_answers.proofs.Excluding.{not_unanswered, one_cause, piece_answerable}
use Rattle.statement_answers.proofs.laws.answers_have_one_cause.Goals as goal

pub returns-clause-answered : goal.returns-clause-answered
returns-clause-answered c = λ settings. not_unanswered settings (record {
  refused = c.refused_or_compiled.ensures;
  one_refusal = c.refusals_are_one.ensures;
  one_table = c.tables_are_unique.ensures.compiled;
  heavy_pairs = pairs_exclude c.heavy_or_pairs.ensures c.heavy_or_mixed_pairs.ensures;
  one_power = c.least_powers_are_unique.ensures.unique;
  powerless = c.least_powers_are_unique.ensures.excluded;
})

pub returns-clause-refused : goal.returns-clause-refused
returns-clause-refused c = λ settings. one_cause settings (record {
  refused = c.refused_or_compiled.ensures;
  one_refusal = c.refusals_are_one.ensures;
  one_table = c.tables_are_unique.ensures.compiled;
  heavy_pairs = pairs_exclude c.heavy_or_pairs.ensures c.heavy_or_mixed_pairs.ensures;
  one_power = c.least_powers_are_unique.ensures.unique;
  powerless = c.least_powers_are_unique.ensures.excluded;
})

pub returns-clause-pieces : goal.returns-clause-pieces
returns-clause-pieces c = piece_answerable
