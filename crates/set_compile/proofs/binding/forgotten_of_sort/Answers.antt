use Rattle.std.proofs.Common.{◌+◌, sym, subst, inl}
use Rattle.lash_model.specs.Tables.{Table}
use Rattle.formula_core.specs.Variables.{sort_of}
use Rattle.set_compile.specs.Steps.{IsHeavyAt, IsForgettingRefused}
use Rattle.set_compile.specs.declared.build.Mode.TheVariants.{Mixed}
use Rattle.set_compile.proofs.binding.forgotten_of_sort.Goals as goal

pub returns-in-Err-clause-refused : goal.returns-in-Err-clause-refused
returns-in-Err-clause-refused c = λ no.
    let u : Table = c.args.body.now.table in
    let heavy = c.in-Err.ensures.plain no in
    let at : IsHeavyAt c.args.build.now (c.args.track + 1) c.args.track u =
    subst (λ n. IsHeavyAt c.args.build.now n c.args.track u) c.requires.shape.tracks_are (c.in-Err.ensures.heavy heavy) in
    subst (λ s. IsForgettingRefused Mixed (sort_of s) c.args.build.now c.args.track u c.in-Err.error) (sym c.in-Int.is) (inl (heavy, at))
