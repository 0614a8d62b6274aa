-- A row's coefficients, added in turn.
use Rattle.std.proofs.Common.{◌≡◌, ℕ, ◌+◌, ◌≤◌, ◌<◌, ◌^◌, List, [], arith, sym, ap, subst, ◌∙◌}
use mathlib.Core.Logic.{◌⊎◌, inl, inr}
use Rattle.std.proofs.Math.Nat.{eq-or-lt_of_le}
use Rattle.std.proofs.Math.IntN.{ℤ, pos}
use Rattle.std.specs.Prelude.{unsigned_abs}
use Rattle.lash_model.specs.Formulas.{Linear}
use Rattle.formula_core.specs.Terms.{added, coefficient_at}
use Rattle.term_substitution.specs.Conditions.{IsSubstitute}
use Rattle.loop_laws.specs.Closures.{coefficients}
use Rattle.loop_closure.specs.Filling.{IsFilling}
use Rattle.loop_closure.proofs.Coefficients.{fresh_next, coefficients_more, no_coefficients, early_substitute, late_substitute}

abbrev term_of : ℤ → List (ℕ × ℤ) → Linear
term_of c ts = record { terms = ts; constant = c }

pub filling_start : (f : ℕ → ℤ) (t : Linear) → t.terms ≡ [] → IsFilling f 0 t t
filling_start f t e = record { filled = ap (term_of t.constant) (e ∙ sym (no_coefficients f)); small = λ place lt. absurd (omega (arith, lt)) }

pub filling_fresh : (f : ℕ → ℤ) (n place : ℕ) (t : Linear) (c : ℤ) → t ≡ record { terms = coefficients f n; constant = c } → n ≤ place → coefficient_at t.terms place ≡ pos 0
filling_fresh f n place t c e le = ap (λ (u : Linear). coefficient_at u.terms place) e ∙ fresh_next f n place le

pub filling_more : (f : ℕ → ℤ) (n : ℕ) (t u before : Linear) → IsFilling f n t before → u ≡ record { terms = added t.terms n (f n); constant = t.constant } → unsigned_abs (f n) ≤ 2 ^ 40 → IsFilling f (n + 1) u before
filling_more f n t u before h e small = record {
  filled = e ∙ ap (λ (v : Linear). term_of v.constant (added v.terms n (f n))) h.filled ∙ ap (term_of before.constant) (sym (coefficients_more f n));
  small = λ place lt. by place (eq-or-lt_of_le (omega (arith, lt)));
}
  where
    by : (place : ℕ) → (place ≡ n) ⊎ (place < n) → unsigned_abs (f place) ≤ 2 ^ 40
    by place (inl e) = rw e small
    by place (inr lt) = h.small place lt

pub early_row : (f : ℕ → ℤ) (n : ℕ) (t : Linear) (c : ℤ) → t ≡ record { terms = coefficients f n; constant = c } → ((place : ℕ) → place < n → unsigned_abs (f place) ≤ 2 ^ 40) → unsigned_abs c ≤ 2 ^ 88 → (places : ℕ) → n ≤ places → IsSubstitute places t
early_row f n t c e small constant places le = subst (IsSubstitute places) (sym e) (early_substitute f n places c small le constant)

pub late_row : (f : ℕ → ℤ) (n place : ℕ) (t u : Linear) (s c : ℤ) → t ≡ record { terms = coefficients f n; constant = c } → u ≡ record { terms = added t.terms place s; constant = t.constant } → ((i : ℕ) → i < n → unsigned_abs (f i) ≤ 2 ^ 40) → n ≤ place → unsigned_abs s ≤ 2 ^ 88 → unsigned_abs c ≤ 2 ^ 88 → IsSubstitute (place + 1) u
late_row f n place t u s c e h small le stride constant = subst (IsSubstitute (place + 1)) (sym (h ∙ ap (λ (v : Linear). term_of v.constant (added v.terms place s)) e)) (late_substitute f n place s c small le stride constant)
