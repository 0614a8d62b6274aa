-- Parents: each step that is taken later is that of an earlier state.
use Rattle.std.proofs.Common.{◌≡◌, ℕ, ◌+◌, ◌≤◌, ◌<◌, ◌⊎◌, List, length, inl, inr, arith, refl, ◌∙◌, sym, ap, subst}
use Rattle.std.specs.Prelude.{slice_index, slice_set}
use Rattle.std.proofs.lemmas.Bool.{cases_lt, cases_eq}
use Rattle.std.proofs.lemmas.List.{length-set, get_or-set_same, get_or-set_other}
use Rattle.least_paths.specs.Nets.{Net, target, IsClosed, IsOrdered}
use Rattle.least_paths.specs.Arrivals.{IsNoStart, HasLetter, IsParent, AreParents}
use Rattle.least_paths.proofs.LeastPaths.{StepBefore, step_before}

pub none_marked : (g : Net) (parents : List ℕ) → length parents ≡ g.states → AreParents g g.states 0 parents
none_marked g parents e = record {
  count = e;
  each = λ p l p_in l_in marked. elim marked [ inl ge ↦ absurd (omega (arith, ge, p_in)) | inr last ↦ absurd (omega (arith, last.1)) ];
}

-- one letter more of a state
pub marked_more : (g : Net) → IsClosed g → (state letter : ℕ) (parents : List ℕ) → state < g.states → letter < g.width → AreParents g (state + 1) letter parents
    → AreParents g (state + 1) (letter + 1) (slice_set parents (target g state letter) state)
marked_more g h state letter parents state_in letter_in a = record {
  count = length-set parents (target g state letter) state ∙ a.count;
  each = λ p l p_in l_in marked. elim (cases_eq (target g p l) (target g state letter)) [
    | inl same ↦ now p l marked same
    | inr other ↦ subst (λ v. IsParent g v p (target g p l)) (sym (get_or-set_other parents (target g state letter) (target g p l) state 0 other))
        (a.each p l p_in l_in (was p l marked other))
  ];
}
  where
    written : slice_index (slice_set parents (target g state letter) state) (target g state letter) ≡ state
    written = get_or-set_same parents (target g state letter) state 0
        (subst (λ n. target g state letter < n) (sym a.count) (h.targets_in state letter state_in letter_in))

    low : (p l : ℕ) → (state + 1 ≤ p) ⊎ ((p + 1 ≡ state + 1) × (l < letter + 1)) → state ≤ p
    low p l (inl ge) = omega (arith, ge)
    low p l (inr last) = omega (arith, last.0)

    now : (p l : ℕ) → (state + 1 ≤ p) ⊎ ((p + 1 ≡ state + 1) × (l < letter + 1)) → target g p l ≡ target g state letter
        → IsParent g (slice_index (slice_set parents (target g state letter) state) (target g p l)) p (target g p l)
    now p l marked same = subst (λ q. IsParent g (slice_index (slice_set parents (target g state letter) state) q) p q) (sym same)
        (subst (λ v. IsParent g v p (target g state letter)) (sym written)
        (record { low = low p l marked; step = record { letter = letter; inside = letter_in; leads = refl } }))

    was : (p l : ℕ) → (state + 1 ≤ p) ⊎ ((p + 1 ≡ state + 1) × (l < letter + 1)) → (target g p l ≡ target g state letter → ⊥)
        → (state + 1 ≤ p) ⊎ ((p + 1 ≡ state + 1) × (l < letter))
    was p l (inl ge) other = inl ge
    was p l (inr last) other = elim (cases_lt l letter) [
      | inl lt ↦ inr (last.0, lt)
      | inr ge ↦ absurd (other (ap (λ k. target g p k) (at ge) ∙ ap (λ k. target g k letter) of))
    ]
      where
        at : letter ≤ l → l ≡ letter
        at ge = omega (arith, ge, last.1)

        of : p ≡ state
        of = omega (arith, last.0)

-- all letters of a state
pub row_marked : (g : Net) (state : ℕ) (parents : List ℕ) → AreParents g (state + 1) g.width parents → AreParents g state 0 parents
row_marked g state parents a = record { count = a.count; each = λ p l p_in l_in marked. a.each p l p_in l_in (before p l l_in marked) }
  where
    before : (p l : ℕ) → l < g.width → (state ≤ p) ⊎ ((p + 1 ≡ state) × (l < 0)) → (state + 1 ≤ p) ⊎ ((p + 1 ≡ state + 1) × (l < g.width))
    before p l l_in (inr last) = absurd (omega (arith, last.1))
    before p l l_in (inl ge) = elim (cases_lt state p) [ inl lt ↦ inl (omega (arith, lt)) | inr le ↦ inr (omega (arith, ge, le), l_in) ]

-- the parent of a state that is no start is an earlier one, and the first with a step to it
pub record HasFirst (g : Net) (parent q : ℕ) : Type 0 where
  pub earlier : parent < q
  pub step : HasLetter g parent q
  pub first : (p l : ℕ) → p < g.states → l < g.width → target g p l ≡ q → parent ≤ p

pub parent_of : (g : Net) → IsOrdered g → (parents : List ℕ) → AreParents g 0 0 parents → (q : ℕ) → q < g.states → IsNoStart g q
    → HasFirst g (slice_index parents q) q
parent_of g c parents a q q_in no_start = record {
  earlier = omega (arith, (known s.state s.letter (omega (arith, q_in, s.earlier)) s.inside s.leads).low, s.earlier);
  step = (known s.state s.letter (omega (arith, q_in, s.earlier)) s.inside s.leads).step;
  first = λ p l p_in l_in e. (known p l p_in l_in e).low;
}
  where
    s : StepBefore g q
    s = step_before g c q q_in no_start

    known : (p l : ℕ) → p < g.states → l < g.width → target g p l ≡ q → IsParent g (slice_index parents q) p q
    known p l p_in l_in e = subst (λ k. IsParent g (slice_index parents k) p k) e (a.each p l p_in l_in (inl (omega arith)))
