use Rattle.weak_forms.proofs.arrivals.least_stem.Goals as goal

pub returns-in-Ok-least_way-clause-none : goal.returns-in-Ok-least_way-clause-none
returns-in-Ok-least_way-clause-none c =
    rw (c.new-graph.ensures.value, c.as_slice.ensures.value, c.in-Ok.ensures, c.letters.ensures.value) at c.in-Ok-least_way.ensures.none
