use Rattle.std.proofs.Common.{length, sym, ap, subst, ◌∙◌}
use Rattle.components.specs.Partings.{AreParts}
use Rattle.weak_min.proofs.weak_tests.has_weak_part.Goals as goal

pub returns : goal.returns
returns c = λ weak. rw (← c.in-Ok.ensures, ← c.in-Ok-colours_of.ensures, ← c.deref.ensures.value, ← c.deref-2.ensures.value, ← c.letters-letters.ensures.value)
    ((c.is_weak.ensures c.deref.result.now c.letters-letters.result
    (subst (λ n. AreParts c.deref.result.now c.letters-letters.result n c.in-Ok-parts_of.parts)
    (c.fracs.ensures ∙ ap length (sym (c.deref-2.ensures.value ∙ c.in-Ok-colours_of.ensures))) c.in-Ok-parts_of.ensures)).0 weak)
