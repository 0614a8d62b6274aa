-- What is put together of a loop's closure, step by step (own).
use Rattle.std.specs.Prelude.{◌≡◌, ℕ, ◌+◌, ◌≤◌, ◌<◌, Option, None, Some, List, [], ◌∷◌}
use Rattle.lash_model.specs.Formulas as model
use Rattle.formula_core.specs.Counts.{depth_of}
use Rattle.formula_core.specs.Shape.{formula_of}
use Rattle.formula_core.specs.declared.formula.Formula.{Formula}
use Rattle.term_substitution.specs.Conditions.{IsOver, variables_limit}
use Rattle.term_substitution.specs.Limits.{depth_limit}
use Rattle.term_substitution.specs.Substitution.{zero_term}
use Rattle.matrix_powers.specs.Powers.{powers_limit}
use Rattle.loop_laws.specs.Turns.{Body}
use Rattle.loop_laws.specs.Closures.{joined_to, early_term, late_term, same}
use Rattle.loop_closure.specs.declared.builder.Builder.{Builder}
use Rattle.loop_closure.specs.declared.builder.Stage.{Stage}
use Rattle.loop_closure.specs.declared.builder.Stage.TheVariants.{Early, Late}

-- the loop that is built for
abbrev pub body_in : Builder → Body
body_in b = record { matrix = b.orbit.matrix; shift = b.orbit.shift; guard = formula_of b.guard }

-- the guard can be put together with terms, and the equation is that of two variables
pub record IsBuilder (b : Builder) : Type 0 where
  pub over : IsOver b.orbit.matrix.side (formula_of b.guard)
  pub depth : depth_of (formula_of b.guard) ≤ depth_limit
  pub equation : formula_of b.same ≡ same
  pub some : 1 ≤ b.orbit.matrix.side
  pub few : b.orbit.matrix.side ≤ 4
  pub turning : 1 ≤ b.orbit.power
  pub powers : b.orbit.power ≤ powers_limit

-- over how many variables the terms of a stage are
abbrev pub stage_places : Stage → ℕ
stage_places (Early turns places) = places
stage_places (Late remainder place back) = place + 1

-- the row of the vector at a stage
abbrev pub stage_term : Builder → Stage → ℕ → model.Linear
stage_term b (Early turns places) row = early_term (body_in b) turns row
stage_term b (Late remainder place back) row = late_term (body_in b) b.orbit.power remainder place back row

-- so many turns, with terms over so many variables, x and y among them
pub record IsEarly (b : Builder) (turns places : ℕ) : Type 0 where
  pub few : turns ≤ b.orbit.power + b.orbit.power
  pub enough : b.orbit.matrix.side + b.orbit.matrix.side ≤ places
  pub limited : places ≤ variables_limit

-- as many turns as a remainder beyond a multiple of the power, which stands behind x and y
pub record IsLate (b : Builder) (remainder place back : ℕ) : Type 0 where
  pub below : remainder < b.orbit.power
  pub enough : b.orbit.matrix.side + b.orbit.matrix.side ≤ place
  pub limited : place < variables_limit
  pub near : back ≤ 2

abbrev pub IsStage : Builder → Stage → Type 0
IsStage b (Early turns places) = IsEarly b turns places
IsStage b (Late remainder place back) = IsLate b remainder place back

-- the formula so far, where there is one
abbrev pub whole_of : Option Formula → Option model.Formula
whole_of None = None
whole_of (Some f) = Some (formula_of f)

-- further formulas joined to the formula so far
abbrev pub joined_on : (model.Formula → model.Formula → model.Formula) → Option model.Formula → List model.Formula → Option model.Formula
joined_on op None [] = None
joined_on op None (f ∷ fs) = Some (joined_to op f fs)
joined_on op (Some f) fs = Some (joined_to op f fs)

-- the whole formula
abbrev pub settled : Option model.Formula → model.Formula
settled None = model.Atom model.AtMost zero_term
settled (Some f) = f

-- turns beyond a multiple of the power, which stands at the place
pub record IsRepeat (b : Builder) (remainder place : ℕ) : Type 0 where
  pub below : remainder < b.orbit.power
  pub enough : b.orbit.matrix.side + b.orbit.matrix.side ≤ place
  pub limited : place < variables_limit
