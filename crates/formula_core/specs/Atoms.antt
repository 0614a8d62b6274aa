-- The atoms of formulas.
use Rattle.lash_model.specs.Formulas.{Formula, Atom, Not, And, Or, Exists, IsLinear}

-- in each atom the places rise and no coefficient is 0
abbrev pub HasLinearAtoms : Formula → Type 0
HasLinearAtoms (Atom kind a) = IsLinear a
HasLinearAtoms (Not f) = HasLinearAtoms f
HasLinearAtoms (And f g) = HasLinearAtoms f × HasLinearAtoms g
HasLinearAtoms (Or f g) = HasLinearAtoms f × HasLinearAtoms g
HasLinearAtoms (Exists s f) = HasLinearAtoms f
