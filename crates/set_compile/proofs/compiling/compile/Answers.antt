use Rattle.std.proofs.Common.{◌≡◌, ◌^◌, ◌≤◌, ℕ, Bool, List, refl, length, map, sym, ◌∙◌, subst, arith}
use Rattle.std.proofs.lemmas.List.{length-map}
use Rattle.std.proofs.lemmas.Result.{IfOk-weaker}
use Rattle.lash_model.specs.Formulas.{Formula, Sort}
use Rattle.lash_model.specs.Tables.{Table}
use Rattle.formula_core.specs.Shape.{formula_of}
use Rattle.formula_core.specs.Variables.{sort_of}
use Rattle.lash_model.specs.Standing.{StandsFor}
use Rattle.step_tables.specs.Kept.{Kept}
use Rattle.set_compile.specs.Compiling.{IsDeclared, IsDeclaringHeavy, IsCompiled, IsRefused}
use Rattle.set_compile.specs.declared.errors.CompileError.{CompileError}
use Rattle.set_compile.specs.declared.errors.CompileError.TheVariants.{Heavy, Memory}
use Rattle.set_compile.specs.Conditions.{Binds}
use Rattle.set_compile.specs.Kinds.{IsOfMode, IsShaped}
use Rattle.std.specs.List.{list_all}
use Rattle.formula_core.specs.Counts.{is_int}
use Rattle.set_compile.specs.declared.build.Build.{Build}
use Rattle.set_compile.specs.declared.build.Mode.TheVariants.{Mixed}
use Rattle.set_compile.proofs.Compiled.{mode_binds, whole_stands_for, declared_base, declared_tracks, declared_stands_for, compiled_whole, compiled_mixed, refused_mixed, declared_wide, declared_steps, declared_heavy, declared_refused}
use Rattle.set_compile.proofs.NodeSteps.{is_narrow, err_weaker}
use Rattle.set_compile.proofs.OwnTerms.{few_tracks, at_most_twelve}
use Rattle.set_compile.proofs.compiling.compile.Goals as goal

pub overflow_cast-places : goal.overflow_cast-places
overflow_cast-places c = omega (arith, few_tracks c.args.base (length c.args.sorts.now) c.radix-radix.ensures.low c.requires.letters.0)

pub on_all_tracks-requires-clause-bound : goal.on_all_tracks-requires-clause-bound
on_all_tracks-requires-clause-bound c = subst (λ mode. Binds mode (formula_of c.args.formula.now)) (sym c.mode_of-mode.ensures) (mode_binds (map sort_of c.args.sorts.now) (formula_of c.args.formula.now))

pub on_all_tracks-requires-clause-narrow : goal.on_all_tracks-requires-clause-narrow
on_all_tracks-requires-clause-narrow c = is_narrow c.args.base (length c.args.sorts.now) (formula_of c.args.formula.now) c.requires.letters.1

pub returns-in-Whole-clause-made : goal.returns-in-Whole-clause-made
returns-in-Whole-clause-made c =
    let sorts : List Sort = map sort_of c.args.sorts.now in
    let f : Formula = formula_of c.args.formula.now in
    compiled_whole c.args.base c.args.limit sorts f c.in-Ok.wide.table (sym c.mode_of-mode.ensures ∙ c.in-Whole.is)
    (declared_wide c.args.base c.args.limit c.args.sorts.now f c.mode_of-mode.result c.in-Ok.wide.table c.mode_of-mode.ensures c.in-Ok.ensures.made)

pub returns-in-Whole-clause-stands : goal.returns-in-Whole-clause-stands
returns-in-Whole-clause-stands c =
    let sorts : List Sort = map sort_of c.args.sorts.now in
    let f : Formula = formula_of c.args.formula.now in
    whole_stands_for sorts f c.in-Ok.wide.table (sym c.mode_of-mode.ensures ∙ c.in-Whole.is)
    (omega (arith, length-map c.args.sorts.now sort_of, at_most_twelve c.args.base (length c.args.sorts.now) c.radix-radix.ensures.low c.requires.letters.0))
    (subst (λ mode. IsOfMode mode c.in-Ok.wide.table) c.mode_of-mode.ensures c.in-Ok.ensures.shape.kind) c.in-Ok.ensures.stands

pub returns-in-Mixed-clause-made : goal.returns-in-Mixed-clause-made
returns-in-Mixed-clause-made c =
    let sorts : List Sort = map sort_of c.args.sorts.now in
    let f : Formula = formula_of c.args.formula.now in
    let all : Bool = list_all is_int sorts in
    let P : Kept → Type 0 = λ k. IsDeclared Mixed all (record { mode = c.mode_of-mode.result; base = c.args.base; limit = c.args.limit }) sorts c.in-Ok.wide.table k.table in
    let R : Kept → Type 0 = λ k. IsCompiled c.args.base c.args.limit sorts f k.table in
    IfOk-weaker c.declared.result P R (λ k made.
    compiled_mixed c.args.base c.args.limit sorts f c.in-Ok.wide.table k.table (sym c.mode_of-mode.ensures ∙ c.in-Mixed.is)
    (declared_wide c.args.base c.args.limit c.args.sorts.now f c.mode_of-mode.result c.in-Ok.wide.table c.mode_of-mode.ensures c.in-Ok.ensures.made)
    (declared_steps c.args.base c.args.limit c.args.sorts.now f c.mode_of-mode.result all c.in-Ok.wide.table k.table c.mode_of-mode.ensures made)) c.declared.ensures.made

pub returns-in-Mixed-clause-stands : goal.returns-in-Mixed-clause-stands
returns-in-Mixed-clause-stands c =
    let n : ℕ = length c.args.sorts.now in
    let b : Build = record { mode = c.mode_of-mode.result; base = c.args.base; limit = c.args.limit } in
    let sorts : List Sort = map sort_of c.args.sorts.now in
    let f : Formula = formula_of c.args.formula.now in
    let u : Table = c.in-Ok.wide.table in
    let count : n ≡ length sorts = sym (length-map c.args.sorts.now sort_of) in
    let P : Kept → Type 0 = λ k. IsDeclared Mixed (list_all is_int sorts) b sorts u k.table in
    let R : Kept → Type 0 = λ k. StandsFor k.table sorts f in
    IfOk-weaker c.declared.result P R (λ k made.
    declared_stands_for b (list_all is_int sorts) sorts f u k.table c.in-Mixed.is refl
    (omega (arith, count, at_most_twelve c.args.base n c.radix-radix.ensures.low c.requires.letters.0))
    (subst (λ m. c.args.base ^ m ≤ 4096) count c.requires.letters.0)
    (subst (λ m. IsShaped b.mode b.base m u) count c.in-Ok.ensures.shape) made c.in-Ok.ensures.stands) c.declared.ensures.made

pub returns-in-Mixed-clause-base : goal.returns-in-Mixed-clause-base
returns-in-Mixed-clause-base c =
    let n : ℕ = length c.args.sorts.now in
    let b : Build = record { mode = c.mode_of-mode.result; base = c.args.base; limit = c.args.limit } in
    let sorts : List Sort = map sort_of c.args.sorts.now in
    let u : Table = c.in-Ok.wide.table in
    let count : n ≡ length sorts = sym (length-map c.args.sorts.now sort_of) in
    let P : Kept → Type 0 = λ k. IsDeclared Mixed (list_all is_int sorts) b sorts u k.table in
    let R : Kept → Type 0 = λ k. k.table.base ≡ c.args.base in
    IfOk-weaker c.declared.result P R (λ k made. declared_base b (list_all is_int sorts) sorts u k.table (subst (λ m. IsShaped b.mode b.base m u) count c.in-Ok.ensures.shape) made) c.declared.ensures.made

pub returns-in-Mixed-clause-tracks : goal.returns-in-Mixed-clause-tracks
returns-in-Mixed-clause-tracks c =
    let n : ℕ = length c.args.sorts.now in
    let b : Build = record { mode = c.mode_of-mode.result; base = c.args.base; limit = c.args.limit } in
    let sorts : List Sort = map sort_of c.args.sorts.now in
    let u : Table = c.in-Ok.wide.table in
    let count : n ≡ length sorts = sym (length-map c.args.sorts.now sort_of) in
    let P : Kept → Type 0 = λ k. IsDeclared Mixed (list_all is_int sorts) b sorts u k.table in
    let R : Kept → Type 0 = λ k. k.table.tracks ≡ n in
    IfOk-weaker c.declared.result P R (λ k made. declared_tracks b (list_all is_int sorts) sorts u k.table (subst (λ m. IsShaped b.mode b.base m u) count c.in-Ok.ensures.shape) made ∙ sym count) c.declared.ensures.made

pub returns-in-Mixed-clause-refused : goal.returns-in-Mixed-clause-refused
returns-in-Mixed-clause-refused c =
    let sorts : List Sort = map sort_of c.args.sorts.now in
    let f : Formula = formula_of c.args.formula.now in
    let all : Bool = list_all is_int sorts in
    let b : Build = record { mode = c.mode_of-mode.result; base = c.args.base; limit = c.args.limit } in
    let P : CompileError → Type 0 = λ e. (e ≡ Memory → ⊥) → (e ≡ Heavy) × IsDeclaringHeavy Mixed all b sorts c.in-Ok.wide.table in
    let R : CompileError → Type 0 = λ e. (e ≡ Memory → ⊥) → IsRefused c.args.base c.args.limit sorts f e in
    err_weaker c.declared.result P R (λ e heavy no.
    refused_mixed c.args.base c.args.limit sorts f c.in-Ok.wide.table e (sym c.mode_of-mode.ensures ∙ c.in-Mixed.is)
    (declared_wide c.args.base c.args.limit c.args.sorts.now f c.mode_of-mode.result c.in-Ok.wide.table c.mode_of-mode.ensures c.in-Ok.ensures.made)
    (heavy no).0
    (declared_heavy c.args.base c.args.limit c.args.sorts.now f c.mode_of-mode.result all c.in-Ok.wide.table c.mode_of-mode.ensures (heavy no).1)) c.declared.ensures.heavy

pub returns-in-Err-clause-refused : goal.returns-in-Err-clause-refused
returns-in-Err-clause-refused c = λ no. declared_refused c.args.base c.args.limit c.args.sorts.now (formula_of c.args.formula.now) c.mode_of-mode.result c.in-Err.error
    c.mode_of-mode.ensures (c.in-Err.ensures.refused no)
