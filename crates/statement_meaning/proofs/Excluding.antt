-- A statement has no two judgements but for want of memory.
use Rattle.std.proofs.Common.{[], length, ◌≡◌, ℕ, ◌≤◌, ◌<◌, List, map, inl, inr, true, false, refl, sym, ap, ◌∙◌, subst, Some, None, arith}
use Rattle.std.specs.Prelude.{◌⊎◌}
use Rattle.std.proofs.lemmas.Bool.{true≢false}
use Rattle.std.proofs.lemmas.Nat.Gcd.{le_of_dvd}
use Rattle.parser_laws.proofs.Parts.{same_some, not_none}
use Rattle.fraction_codes.specs.Fractions.{IsCommonDenominator, IsTooFine}
use Rattle.fraction_codes.specs.declared.ratio.Ratio.{Ratio}
use Rattle.script_statements.specs.Values.{RationalShape}
use Rattle.script_statements.specs.Statements.{StatementShape, Show, Set, Print, Solve, Test, Equal, Subset, Check, Loop}
use Rattle.script_names.specs.Kept.{KeptSet}
use Rattle.script_names.specs.declared.names.FaultAt.{FaultAt}
use Rattle.script_meaning.specs.Core.{core}
use Rattle.script_meaning.specs.declared.limits.Which.{Which}
use Rattle.script_meaning.specs.declared.resolving.Refusal.{Refusal}
use Rattle.script_meaning.specs.declared.resolving.Refusal.TheVariants.{Fault, Limit, Memory}
use Rattle.script_meaning.proofs.Connecting.{within_or_passed, one_passed}
use Rattle.statement_meaning.specs.Asking.{core_of, asked_of}
use Rattle.statement_meaning.specs.Values.{ratio_of, values_pass}
use Rattle.statement_meaning.specs.Judging.{AreCoarse, IsTestPassed, is_full, statement_fault, IsStatementWithin, IsStatementPassed, IsJudged, IsLimited, IsStatementRefused}
use Rattle.statement_meaning.specs.declared.statement.Statement.{Statement as DeclaredStatement}

one_of_test : (vs : List RationalShape) (v w : Which) → IsTestPassed vs v → IsTestPassed vs w → v ≡ w
one_of_test vs v w (inl (t, p)) (inl (u, q)) = p ∙ sym q
one_of_test vs v w (inl (t, p)) (inr (u, q, m)) = absurd (true≢false (sym t ∙ u))
one_of_test vs v w (inr (t, p, l)) (inl (u, q)) = absurd (true≢false (sym u ∙ t))
one_of_test vs v w (inr (t, p, l)) (inr (u, q, m)) = p ∙ sym q

coarse_or_fine : (rs : List Ratio) (d : ℕ) → IsCommonDenominator rs d → d ≤ 65536 → IsTooFine rs → ⊥
coarse_or_fine rs d h low fine = absurd (omega (arith, low, fine.passes, le_of_dvd h.positive (fine.common.least d h.clears)))

test_within : (vs : List RationalShape) (w : Which) → values_pass vs ≡ false → AreCoarse vs → IsTestPassed vs w → ⊥
test_within vs w t c (inl (u, q)) = true≢false (sym u ∙ t)
test_within vs w t c (inr (u, q, m)) = coarse_or_fine (map ratio_of vs) c.0 c.1.0 c.1.1 m

-- no statement passes two limits first
one_limit : (base : ℕ) (kept : List KeptSet) (shape : StatementShape) (v w : Which) → IsStatementPassed base kept shape v → IsStatementPassed base kept shape w → v ≡ w
one_limit base kept (Show set) v w h k = one_passed false base (length set.vars) set.formula (core_of kept set) v w h k
one_limit base kept (Set name set) v w h k = one_passed (is_full kept) base (length set.vars) set.formula (core_of kept set) v w h k
one_limit base kept (Print name) v w h k = absurd h
one_limit base kept (Solve name) v w h k = absurd h
one_limit base kept (Test name vs) v w h k = one_of_test vs v w h k
one_limit base kept (Equal a b) v w h k = absurd h
one_limit base kept (Subset a b) v w h k = absurd h
one_limit base kept (Check f) v w h k = one_passed false base 0 f (core kept [] f) v w h k
one_limit base kept (Loop name vars turn) v w h k = same_some v w (sym h ∙ k)

-- and none that is within the limits passes one
within_all : (base : ℕ) (kept : List KeptSet) (shape : StatementShape) (w : Which) → IsStatementWithin base kept shape → IsStatementPassed base kept shape w → ⊥
within_all base kept (Show set) w h k = within_or_passed false base (length set.vars) set.formula (core_of kept set) w h k
within_all base kept (Set name set) w h k = within_or_passed (is_full kept) base (length set.vars) set.formula (core_of kept set) w h k
within_all base kept (Print name) w h k = k
within_all base kept (Solve name) w h k = k
within_all base kept (Test name vs) w h k = test_within vs w h.0 h.1 k
within_all base kept (Equal a b) w h k = k
within_all base kept (Subset a b) w h k = k
within_all base kept (Check f) w h k = within_or_passed false base 0 f (core kept [] f) w h k
within_all base kept (Loop name vars turn) w h k = not_none w (sym h ∙ k)

-- why a statement is refused
abbrev Cause : ℕ → List KeptSet → StatementShape → Refusal → Type 0
Cause base kept shape e = (e ≡ Memory) ⊎ ((f : FaultAt) × (statement_fault kept shape ≡ Some f) × (e ≡ Fault f)) ⊎ ((which : Which) × IsLimited base kept shape which × (e ≡ Limit which))

cause : (base : ℕ) (kept : List KeptSet) (shape : StatementShape) (e : Refusal) → IsStatementRefused base kept shape e → Cause base kept shape e
cause base kept shape (Fault f) h = inr (inl (f, h, refl))
cause base kept shape (Limit which) h = inr (inr (which, h, refl))
cause base kept shape Memory h = inl refl

pub refusals_are_one : (base : ℕ) (kept : List KeptSet) (shape : StatementShape) (e f : Refusal) → IsStatementRefused base kept shape e → IsStatementRefused base kept shape f → (e ≡ f) ⊎ (e ≡ Memory) ⊎ (f ≡ Memory)
refusals_are_one base kept shape e f h i = by (cause base kept shape e h) (cause base kept shape f i)
  where
    by : Cause base kept shape e → Cause base kept shape f → (e ≡ f) ⊎ (e ≡ Memory) ⊎ (f ≡ Memory)
    by (inl p) j = inr (inl p)
    by (inr g) (inl q) = inr (inr q)
    by (inr (inl (x, m, p))) (inr (inl (y, n, q))) = inl (p ∙ ap Fault (same_some x y (sym m ∙ n)) ∙ sym q)
    by (inr (inl (x, m, p))) (inr (inr (w, l, q))) = absurd (not_none x (sym l.names ∙ m))
    by (inr (inr (w, l, p))) (inr (inl (x, m, q))) = absurd (not_none x (sym l.names ∙ m))
    by (inr (inr (v, k, p))) (inr (inr (w, l, q))) = inl (p ∙ ap Limit (one_limit base kept shape v w k.first l.first) ∙ sym q)

-- a statement whose names are right and that passes no limit is refused for want of memory alone
pub fit_or_refused : (base : ℕ) (kept : List KeptSet) (shape : StatementShape) (e : Refusal) → statement_fault kept shape ≡ None → IsStatementWithin base kept shape → IsStatementRefused base kept shape e → e ≡ Memory
fit_or_refused base kept shape e names within i = by (cause base kept shape e i)
  where
    by : Cause base kept shape e → e ≡ Memory
    by (inl p) = p
    by (inr (inl (x, m, p))) = absurd (not_none x (sym names ∙ m))
    by (inr (inr (w, l, p))) = absurd (within_all base kept shape w within l.first)

pub judged_or_refused : (base : ℕ) (kept : List KeptSet) (shape : StatementShape) (s : DeclaredStatement) (e : Refusal) → IsJudged base kept shape s → IsStatementRefused base kept shape e → e ≡ Memory
judged_or_refused base kept shape s e h i = fit_or_refused base kept shape e h.names h.within i

pub one_asked : (base : ℕ) (kept : List KeptSet) (shape : StatementShape) (s t : DeclaredStatement) → IsJudged base kept shape s → IsJudged base kept shape t → asked_of s ≡ asked_of t
one_asked base kept shape s t h i = same_some (asked_of s) (asked_of t) (sym h.asks ∙ i.asks)
