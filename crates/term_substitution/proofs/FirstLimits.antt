-- The first limit that a result passes, from what is found of its atoms: the nodes and the depth are those of the formula.
use Rattle.std.proofs.Common.{◌≡◌, ℕ, ◌+◌, ◌≤◌, List, length, max, arith, refl, sym, ap, ap₂, ◌∙◌, cond, Bool, true, false, None, Some}
use Rattle.std.specs.List.{All}
use Rattle.std.proofs.lemmas.Bool.{le-ltb}
use Rattle.lash_model.specs.Formulas.{Linear, Formula, Atom, Not, And, Or, Exists}
use Rattle.formula_core.specs.Counts.{nodes_of, depth_of}
use Rattle.term_substitution.specs.Conditions.{IsOver, IsSubstitute}
use Rattle.term_substitution.specs.Limits.{nodes_limit, depth_limit, first_passed, IsRefused}
use Rattle.term_substitution.specs.Passing.{AreAtomsJudged, atom_passed}
use Rattle.term_substitution.specs.Substitution.{substituted}
use Rattle.term_substitution.specs.declared.errors.FormError.{FormError}
use Rattle.term_substitution.specs.declared.errors.FormError.TheVariants.{Nodes, Depth, Coefficient, Constant, Memory}
use Rattle.term_substitution.specs.declared.judging.Passed.{Passed}
use Rattle.term_substitution.proofs.Reaching.{result_over}

-- substitution keeps the nodes and the depth
pub same_nodes : (f : Formula) (terms : List Linear) (places : ℕ) → nodes_of (substituted f terms places) ≡ nodes_of f
same_nodes (Atom kind a) terms places = refl
same_nodes (Not f) terms places = ap (λ n. n + 1) (same_nodes f terms places)
same_nodes (And f g) terms places = ap₂ (λ n m. n + m + 1) (same_nodes f terms places) (same_nodes g terms places)
same_nodes (Or f g) terms places = ap₂ (λ n m. n + m + 1) (same_nodes f terms places) (same_nodes g terms places)
same_nodes (Exists s f) terms places = ap (λ n. n + 1) (same_nodes f terms places)

pub same_depth : (f : Formula) (terms : List Linear) (places : ℕ) → depth_of (substituted f terms places) ≡ depth_of f
same_depth (Atom kind a) terms places = refl
same_depth (Not f) terms places = ap (λ n. n + 1) (same_depth f terms places)
same_depth (And f g) terms places = ap₂ (λ n m. max n m + 1) (same_depth f terms places) (same_depth g terms places)
same_depth (Or f g) terms places = ap₂ (λ n m. max n m + 1) (same_depth f terms places) (same_depth g terms places)
same_depth (Exists s f) terms places = ap (λ n. n + 1) (same_depth f terms places)

first_of_atoms : (p : Passed) (g : Formula) → AreAtomsJudged p g → nodes_of g ≤ nodes_limit → depth_of g ≤ depth_limit → first_passed g ≡ atom_passed p
first_of_atoms p g h nodes depth = rw (le-ltb nodes_limit (nodes_of g) nodes) (rw (le-ltb depth_limit (depth_of g) depth) (rw (sym h.coefficients) (rw (sym h.constant) refl)))

-- what was found of the atoms of the result, whose formula is inside the limits of nodes and depth
pub record IsFound (p : Passed) (f : Formula) (terms : List Linear) (places : ℕ) : Type 0 where
  pub atoms : AreAtomsJudged p (substituted f terms places)
  pub nodes : nodes_of f ≤ nodes_limit
  pub depth : depth_of f ≤ depth_limit

pub first_found : (p : Passed) (f : Formula) (terms : List Linear) (places : ℕ) → IsFound p f terms places → first_passed (substituted f terms places) ≡ atom_passed p
first_found p f terms places h = first_of_atoms p (substituted f terms places) h.atoms (omega (arith, same_nodes f terms places, h.nodes)) (omega (arith, same_depth f terms places, h.depth))

refused : (f : Formula) (e : FormError) → first_passed f ≡ Some e → IsRefused f e
refused f Nodes h = h
refused f Depth h = h
refused f Coefficient h = h
refused f Constant h = h
refused f Memory h = tt

-- what is first found is the cause
pub cause : (p : Passed) (f : Formula) (terms : List Linear) (places : ℕ) (e : FormError) → IsFound p f terms places → Some e ≡ atom_passed p → IsRefused (substituted f terms places) e
cause p f terms places e h is = refused (substituted f terms places) e (first_found p f terms places h ∙ sym is)

none_few : (p : Passed) → None ≡ atom_passed p → p.coefficients ≡ false
none_few p e = by_cases p.coefficients p.constant e
  where
    by_cases : (x y : Bool) → None ≡ cond x (Some Coefficient) (cond y (Some Constant) None) → x ≡ false
    by_cases true y e = absurd (cc e)
    by_cases false y e = refl

none_small : (p : Passed) → None ≡ atom_passed p → p.constant ≡ false
none_small p e = by_cases p.coefficients p.constant e
  where
    by_cases : (x y : Bool) → None ≡ cond x (Some Coefficient) (cond y (Some Constant) None) → y ≡ false
    by_cases true y e = absurd (cc e)
    by_cases false true e = absurd (cc e)
    by_cases false false e = refl

-- where nothing is found, the result is over its places
pub placed : (p : Passed) (f : Formula) (terms : List Linear) (places : ℕ) → IsFound p f terms places → None ≡ atom_passed p → All (IsSubstitute places) terms → IsOver (length terms) f → IsOver places (substituted f terms places)
placed p f terms places h none all over = result_over f terms places all over (sym h.atoms.coefficients ∙ none_few p none) (sym h.atoms.constant ∙ none_small p none)
