use Rattle.std.proofs.Common.{◌≡◌, ℕ, List, length, map, refl, ap, sym, subst, ◌∙◌, Bool, true, false}
use Rattle.std.proofs.lemmas.Bool.{true≢false}
use Rattle.std.proofs.lemmas.List.{length-map}
use Rattle.lash_model.specs.Formulas.{Sort, Formula}
use Rattle.lash_model.specs.Standing.{StandsFor}
use Rattle.formula_core.specs.FewLetters.{FitsLetters}
use Rattle.formula_core.specs.Shape.{formula_of}
use Rattle.formula_core.specs.Variables.{sort_of, sorts_of}
use Rattle.formula_core.specs.declared.sort.Sort.{Sort as DeclaredSort}
use Rattle.set_compile.specs.Compiling.{IsCompiled, IsRefused}
use Rattle.set_compile.specs.Conditions.{IsOver}
use Rattle.set_compile.specs.declared.errors.CompileError.{CompileError}
use Rattle.set_compile.specs.declared.errors.CompileError.TheVariants.{Heavy, NotWeak, Memory}
use Rattle.statement_answers.proofs.building.automaton.Goals as goal

-- there are as many sorts as variables
as_many : (sorts : List DeclaredSort) (vars : List (List ℕ × Sort)) → map sort_of sorts ≡ sorts_of vars → length sorts ≡ length vars
as_many sorts vars same = sym (length-map sorts sort_of) ∙ ap length same ∙ length-map vars (λ v. v.1)

pub compile-requires-clause-over : goal.compile-requires-clause-over
compile-requires-clause-over c =
    let count = as_many c.sorts-sorts.result.now c.args.vars.now c.sorts-sorts.ensures in
    subst (λ n. IsOver n (formula_of c.args.formula.now)) (sym count) c.requires.given.over

pub compile-requires-clause-letters : goal.compile-requires-clause-letters
compile-requires-clause-letters c =
    let count = as_many c.sorts-sorts.result.now c.args.vars.now c.sorts-sorts.ensures in
    subst (λ n. FitsLetters c.args.settings.base (formula_of c.args.formula.now) n) (sym count) c.requires.given.letters

pub returns-in-Ok-clause-answer : goal.returns-in-Ok-clause-answer
returns-in-Ok-clause-answer c =
    let t = c.in-Ok.canon.table in
    let f = formula_of c.args.formula.now in
    let count = as_many c.sorts-sorts.result.now c.args.vars.now c.sorts-sorts.ensures in
    record {
      stands = subst (λ s. StandsFor t s f) c.sorts-sorts.ensures c.in-Ok.ensures.stands;
      canonical = c.in-Ok.ensures.canonical;
      base = c.in-Ok.ensures.base;
      tracks = c.in-Ok.ensures.tracks ∙ count;
      made = subst (λ s. IsCompiled c.args.settings.base c.args.settings.cells s f t) c.sorts-sorts.ensures c.in-Ok.ensures.made;
    }

abbrev is_memory : CompileError → Bool
is_memory Heavy = false
is_memory (NotWeak sign whole stem accept reject) = false
is_memory Memory = true

-- another refusal than for memory, of the sorts of the variables
refused_as : (base limit : ℕ) (sorts ss : List Sort) (f : Formula) (e k : CompileError) → sorts ≡ ss → e ≡ k → is_memory k ≡ false
    → ((e ≡ Memory → ⊥) → IsRefused base limit sorts f e) → IsRefused base limit ss f k
refused_as base limit sorts ss f e k same is other h =
    subst (λ s. IsRefused base limit s f k) same (subst (IsRefused base limit sorts f) is (h (λ m. true≢false (ap is_memory (sym m ∙ is) ∙ other))))

pub returns-in-Err-Heavy-clause-cause : goal.returns-in-Err-Heavy-clause-cause
returns-in-Err-Heavy-clause-cause c =
    refused_as c.args.settings.base c.args.settings.cells _ _ (formula_of c.args.formula.now) _ Heavy c.sorts-sorts.ensures c.in-Err-Heavy.field-0-is refl
    c.in-Err-Heavy.ensures.refused

pub returns-in-Err-NotWeak-clause-cause : goal.returns-in-Err-NotWeak-clause-cause
returns-in-Err-NotWeak-clause-cause c =
    let e = c.in-Err-NotWeak in
    refused_as c.args.settings.base c.args.settings.cells _ _ (formula_of c.args.formula.now) _ (NotWeak e.sign e.whole e.stem e.accept e.reject)
    c.sorts-sorts.ensures e.field-0-is refl e.ensures.refused
