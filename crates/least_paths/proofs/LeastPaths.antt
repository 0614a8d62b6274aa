-- Least paths to states that are numbered by them: over a start, or over the first step.
use Rattle.std.proofs.Common.{◌≡◌, ℕ, ◌≤◌, ◌<◌, List, [], ◌∷◌, inl, inr, arith, refl, ◌∙◌, sym, ap, subst}
use Rattle.std.specs.Prelude.{slice_index}
use Rattle.std.proofs.lemmas.Bool.{cases_order, cases_lt}
use Rattle.graph_laws.specs.Walks.{go}
use Rattle.graph_laws.specs.Paths.{Path, Before, AtMost, more, start_path, path_at}
use Rattle.graph_laws.specs.Paths.Before.{shorter, lower}
use Rattle.graph_laws.proofs.PathOrder.{at_most_before, one_letter_more}
use Rattle.canonical_laws.specs.Canonical.{IsPathOf}
use Rattle.least_paths.specs.Nets.{Net, target, end_of, IsClosed, IsOrdered}
use Rattle.least_paths.specs.Arrivals.{IsNoStart, IsFirstStart, IsFirstLetter, IsLeastTo}
use Rattle.least_paths.proofs.PathEnds.{never, before_more, before_at_most, more_at_most, end_in, more_valid, more_leads, Arrived, arrived}

-- ---- the first start of a state
from_start : (g : Net) (q start : ℕ) → IsFirstStart g q start → (other : ℕ) (w : List ℕ) → go g.rows g.width (slice_index g.starts other) w ≡ q
    → AtMost (start_path start) (record { start = other; word = w })
from_start g q start r other (l ∷ w) e = inr (shorter (omega arith))
from_start g q start r other [] e = elim (cases_order start other) [
  | inl same ↦ inl (ap start_path same)
  | inr apart ↦ elim apart [ inl lt ↦ inr (lower refl lt) | inr gt ↦ absurd (r.first other gt e) ]
]

pub start_least : (g : Net) → IsClosed g → (q start : ℕ) → IsFirstStart g q start → IsLeastTo g q (start_path start)
start_least g h q start r = record {
  valid = record { start = r.inside; letters = tt };
  leads = r.leads;
  least = λ x v e. from_start g q start r x.start x.word e;
}

-- ---- a least path is before all paths to later states
pub least_before : (g : Net) → IsOrdered g → (q : ℕ) (x y : Path) → IsLeastTo g q x → IsPathOf g.starts g.width y → q < end_of g y → Before x y
least_before g c q x y s v lt = at_most_before x (path_at c.numbered.paths q) y
    (s.least (path_at c.numbered.paths q) (c.numbered.valid q q_in) (c.numbered.leads q q_in))
    (before_at_most (path_at c.numbered.paths q) (path_at c.numbered.paths (end_of g y)) y
    (c.numbered.rising q (end_of g y) (start_path 0) lt (subst (λ n. end_of g y < n) (sym c.numbered.count) inside))
    (c.numbered.least y v))
  where
    inside : end_of g y < g.states
    inside = end_in g c.closed y v

    q_in : q < g.states
    q_in = omega (arith, lt, inside)

pub least_at_most : (g : Net) → IsOrdered g → (q : ℕ) (x y : Path) → IsLeastTo g q x → IsPathOf g.starts g.width y → q ≤ end_of g y → AtMost x y
least_at_most g c q x y s v le = elim (cases_lt q (end_of g y)) [
  | inl lt ↦ inr (least_before g c q x y s v lt)
  | inr ge ↦ s.least y v (omega (arith, le, ge))
]

-- ---- the first step to a state that is no start
pub record IsFirstStep (g : Net) (from letter q : ℕ) : Type 0 where
  pub by : IsFirstLetter g from q letter
  pub first : (p l : ℕ) → p < g.states → l < g.width → target g p l ≡ q → from ≤ p

pub step_least : (g : Net) → IsOrdered g → (from letter q : ℕ) (x : Path) → IsNoStart g q → IsFirstStep g from letter q → IsLeastTo g from x
    → IsLeastTo g q (more x letter)
step_least g c from letter q x no_start f s = record {
  valid = more_valid g x letter s.valid f.by.inside;
  leads = more_leads g x letter ∙ ap (λ p. target g p letter) s.leads ∙ f.by.leads;
  least = λ y v e. let a : Arrived g q y = arrived g c.closed q no_start y v e in subst (AtMost (more x letter)) (sym a.is) (below y a);
}
  where
    same_state : (y : Path) (a : Arrived g q y) → from ≡ end_of g a.before → AtMost (more x letter) (more a.before a.letter)
    same_state y a e = more_at_most x a.before letter a.letter (s.least a.before a.valid (sym e)) (elim (cases_lt a.letter letter) [
      | inl lt ↦ absurd (f.by.first a.letter lt (ap (λ p. target g p a.letter) e ∙ a.leads))
      | inr ge ↦ ge
    ])

    later : (y : Path) (a : Arrived g q y) → from < end_of g a.before → AtMost (more x letter) (more a.before a.letter)
    later y a lt = inr_more x a.before letter a.letter (least_before g c from x a.before s a.valid lt)
      where
        inr_more : (x y : Path) (k l : ℕ) → Before x y → AtMost (more x k) (more y l)
        inr_more x y k l h = inr (one_letter_more x y k l h)

    below : (y : Path) (a : Arrived g q y) → AtMost (more x letter) (more a.before a.letter)
    below y a = elim (cases_order from (end_of g a.before)) [
      | inl same ↦ same_state y a same
      | inr other ↦ elim other [
        | inl lt ↦ later y a lt
        | inr gt ↦ absurd (omega (arith, gt, f.first (end_of g a.before) a.letter (end_in g c.closed a.before a.valid) a.letter_in a.leads))
      ]
    ]

-- ---- a state that is no start has a step from an earlier state
pub record StepBefore (g : Net) (q : ℕ) : Type 0 where
  pub state : ℕ
  pub letter : ℕ
  pub earlier : state < q
  pub inside : letter < g.width
  pub leads : target g state letter ≡ q

pub step_before : (g : Net) → IsOrdered g → (q : ℕ) → q < g.states → IsNoStart g q → StepBefore g q
step_before g c q q_in no_start = record {
  state = end_of g a.before;
  letter = a.letter;
  earlier = elim (cases_lt (end_of g a.before) q) [ inl lt ↦ lt | inr ge ↦ absurd (not_behind ge) ];
  inside = a.letter_in;
  leads = a.leads;
}
  where
    own : Path
    own = path_at c.numbered.paths q

    a : Arrived g q own
    a = arrived g c.closed q no_start own (c.numbered.valid q q_in) (c.numbered.leads q q_in)

    at_own : IsLeastTo g q own
    at_own = record {
      valid = c.numbered.valid q q_in;
      leads = c.numbered.leads q q_in;
      least = λ y v e. subst (λ s. AtMost (path_at c.numbered.paths s) y) e (c.numbered.least y v);
    }

    not_behind : q ≤ end_of g a.before → ⊥
    not_behind le = never own (at_most_before own a.before own (least_at_most g c q own a.before at_own a.valid le)
        (subst (Before a.before) (sym a.is) (before_more a.before a.letter)))
