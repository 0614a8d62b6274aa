use Rattle.lash_model.specs.Sets.{set_of, bound_by_fraction}
use Rattle.marked_laws.proofs.TornWords.{loops_show, torn_loop, torn_words_shown}
use Rattle.marked_laws.proofs.weakening.torn_parts_show_words.Goals as goal

pub returns-clause-words : goal.returns-clause-words
returns-clause-words c = λ t f placed track sign q whole stem accept reject h stands. loops_show t
    (bound_by_fraction track (set_of f placed)) stands sign whole stem q accept reject

pub returns-clause-torn : goal.returns-clause-torn
returns-clause-torn c = torn_loop

pub returns-clause-shown : goal.returns-clause-shown
returns-clause-shown c = λ t sign whole stem accept reject h. torn_words_shown t sign whole stem accept reject
