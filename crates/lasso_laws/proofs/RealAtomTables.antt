-- The table of an atom over the fractions has a graph of bounds, so it stands for its atom, and is weak.
use Rattle.std.proofs.Common.{◌≡◌, ℕ, ◌+◌, ◌-◌, ◌*◌, ◌^◌, ◌<◌, ◌≤◌, List, arith, refl, ◌∙◌, sym, ap, subst}
use Rattle.std.proofs.Math.IntN.{ℤ, pos, negsuc, ◌+ℤ◌, ◌-ℤ◌}
use Rattle.std.specs.Prelude.{◌≤ℤ◌, ◌<ℤ◌, slice_index}
use Rattle.std.proofs.lemmas.Int.{ints}
use Rattle.std.proofs.lemmas.Bool.{cases_lt}
use mathlib.Core.Logic.{inl, inr}
use Rattle.lash_model.specs.Formulas.{Linear, coefficient_sum, Comparison, AtMost, Equal, Atom}
use Rattle.lash_model.specs.Meaning.{holds}
use Rattle.lash_model.specs.Tables.{Table, letters}
use Rattle.lash_model.specs.Standing.{StandsForMixed}
use Rattle.part_laws.specs.Graphs.{IsWeak}
use Rattle.part_laws.specs.CanonicalMixed.{fraction_graph}
use Rattle.lasso_laws.specs.Windows.{lowest, window, window_end, above_colour, next_bound, IsBoundGraph}
use Rattle.lasso_laws.specs.RealAtoms.{bound_states, bound_state, IsWindowGraph, IsRealAtomTable}
use Rattle.lasso_laws.proofs.AtomsStand.{window_stands}
use Rattle.lasso_laws.proofs.WindowsWeak.{windows_weak}

below_state : (kind : Comparison) (terms : List (ℕ × ℤ)) (x : ℤ) → x <ℤ lowest terms → bound_state kind terms x ≡ coefficient_sum terms + 1
below_state kind terms x h = grind (arith, ints)

above_state : (kind : Comparison) (terms : List (ℕ × ℤ)) (x : ℤ) → (window_end kind terms) ≤ℤ x → bound_state kind terms x ≡ window kind terms
above_state kind terms x h = grind (arith, ints)

-- a bound of the window by its distance from the lowest
pub inside_state : (kind : Comparison) (terms : List (ℕ × ℤ)) (q : ℕ) → q < window kind terms → bound_state kind terms (lowest terms +ℤ pos q) ≡ q
inside_state kind terms q h = grind (arith, ints)

pub window_below : (kind : Comparison) (terms : List (ℕ × ℤ)) → window kind terms < bound_states terms
window_below AtMost terms = omega arith
window_below Equal terms = omega arith

record Inside (kind : Comparison) (terms : List (ℕ × ℤ)) (x : ℤ) : Type 0 where
  far : ℕ
  is : x ≡ lowest terms +ℤ pos far
  within : far < window kind terms

inside_at : (kind : Comparison) (terms : List (ℕ × ℤ)) (x : ℤ) → lowest terms ≤ℤ x → x <ℤ window_end kind terms → Inside kind terms x
inside_at kind terms x low high = by (x -ℤ lowest terms) refl
  where
    by : (z : ℤ) → z ≡ x -ℤ lowest terms → Inside kind terms x
    by (pos n) e = record { far = n; is = omega (arith, ints, e); within = omega (arith, ints, e, high) }
    by (negsuc n) e = absurd (omega (arith, ints, e, low))

pub window_graph : (kind : Comparison) (terms : List (ℕ × ℤ)) (r n : ℕ) (rows colours : List ℕ) → IsWindowGraph kind terms r n rows colours
    → IsBoundGraph kind terms r n rows colours (bound_state kind terms)
window_graph kind terms r n rows colours g = record {
  enough = omega (arith, g.states);
  inside = λ x l low high k. let i = inside_at kind terms x low high in
      subst (λ y. slice_index rows (bound_state kind terms y * r ^ n + l) ≡ bound_state kind terms (next_bound terms r n y l)) (sym i.is)
      (ap (λ q. slice_index rows (q * r ^ n + l)) (inside_state kind terms i.far i.within) ∙ g.inside i.far l i.within k);
  above = λ x y h k. above_state kind terms x h ∙ sym (above_state kind terms y k);
  below = λ x y h k. below_state kind terms x h ∙ sym (below_state kind terms y k);
  above_stays = λ x l h k. subst (λ q. slice_index rows (q * r ^ n + l) ≡ q) (sym (above_state kind terms x h))
      (g.outside (window kind terms) l (omega arith) (window_below kind terms) k);
  below_stays = λ x l h k. subst (λ q. slice_index rows (q * r ^ n + l) ≡ q) (sym (below_state kind terms x h))
      (g.outside (coefficient_sum terms + 1) l (omega (arith, window_below kind terms)) (omega arith) k);
  inside_yes = λ x low high. let i = inside_at kind terms x low high in
      ap (λ y. slice_index colours (bound_state kind terms y)) i.is ∙ ap (slice_index colours) (inside_state kind terms i.far i.within)
      ∙ g.yes_colours i.far (omega (arith, i.within, window_below kind terms));
  above_is = λ x h. ap (slice_index colours) (above_state kind terms x h) ∙ above_colour_is kind g;
  below_no = λ x h. ap (slice_index colours) (below_state kind terms x h) ∙ g.no_colour;
}
  where
    above_colour_is : (kind : Comparison) → IsWindowGraph kind terms r n rows colours → slice_index colours (window kind terms) ≡ above_colour kind
    above_colour_is AtMost g = g.yes_colours (coefficient_sum terms) (omega arith)
    above_colour_is Equal g = g.no_colour

-- each of the states is that of some bound
each_state : (kind : Comparison) (terms : List (ℕ × ℤ)) (q : ℕ) → q < bound_states terms → (x : ℤ) × (bound_state kind terms x ≡ q)
each_state kind terms q h = elim (cases_lt q (window kind terms)) [
  | inl inside ↦ (lowest terms +ℤ pos q, inside_state kind terms q inside)
  | inr outside ↦ outside_state kind outside
]
  where
    under : (kind : Comparison) → bound_state kind terms (lowest terms +ℤ negsuc 0) ≡ coefficient_sum terms + 1
    under kind = below_state kind terms (lowest terms +ℤ negsuc 0) (omega (arith, ints))

    outside_state : (kind : Comparison) → window kind terms ≤ q → (x : ℤ) × (bound_state kind terms x ≡ q)
    outside_state AtMost out = elim (cases_lt q (coefficient_sum terms + 1)) [
      | inl above ↦ (window_end AtMost terms, above_state AtMost terms (window_end AtMost terms) (omega (arith, ints)) ∙ omega (arith, above, out))
      | inr over ↦ (lowest terms +ℤ negsuc 0, under AtMost ∙ omega (arith, over, h))
    ]
    outside_state Equal out = (lowest terms +ℤ negsuc 0, under Equal ∙ omega (arith, out, h))

pub window_graph_weak : (kind : Comparison) (terms : List (ℕ × ℤ)) (r n : ℕ) (rows colours : List ℕ) → IsWindowGraph kind terms r n rows colours
    → IsWeak (r ^ n) (record { rows = rows; colours = colours })
window_graph_weak kind terms r n rows colours g = windows_weak kind terms r n rows colours (bound_state kind terms) (window_graph kind terms r n rows colours g)
    (λ q h. each_state kind terms q (omega (arith, h, g.states)))

pub real_atom_stands : (kind : Comparison) (a : Linear) (r n limit : ℕ) (t : Table) → 2 ≤ r → IsRealAtomTable kind a r n limit t → StandsForMixed t (holds (Atom kind a))
real_atom_stands kind a r n limit t two i = window_stands kind a r n i.found (bound_state kind a.terms) t two
    (record { steps = i.steps; outs = i.outs; bounds = window_graph kind a.terms r n t.frac_rows t.colours i.graph }) i.thresholds

pub real_atom_weak : (kind : Comparison) (a : Linear) (r n limit : ℕ) (t : Table) → IsRealAtomTable kind a r n limit t → IsWeak (letters t) (fraction_graph t)
real_atom_weak kind a r n limit t i = subst (λ w. IsWeak w (fraction_graph t)) (sym (ap (λ b. b ^ t.tracks) i.steps.base ∙ ap (λ k. r ^ k) i.steps.tracks))
    (window_graph_weak kind a.terms r n t.frac_rows t.colours i.graph)
