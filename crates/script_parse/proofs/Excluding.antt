-- Tokens have no two answers but for want of memory.
use Rattle.std.proofs.Common.{◌≡◌, ℕ, List, inl, inr, refl, sym, ap, ◌∙◌, subst, None}
use Rattle.std.specs.Prelude.{◌⊎◌}
use Rattle.script_tokens.specs.Tokens.{PlacedToken}
use Rattle.script_statements.specs.Statements.{StatementShape, statement_shape}
use Rattle.script_statements.specs.Outcomes.{Outcome, Whole, Wrong, Deep, IsOutcome}
use Rattle.script_statements.proofs.WholeStatements.{one}
use Rattle.script_names.specs.Kept.{KeptSet}
use Rattle.script_meaning.specs.declared.limits.Which.TheVariants.{Nesting}
use Rattle.script_meaning.specs.declared.resolving.Refusal.{Refusal}
use Rattle.script_meaning.specs.declared.resolving.Refusal.TheVariants.{Fault, Limit as Passed, Memory as Wanting}
use Rattle.statement_meaning.specs.Judging.{IsJudged, IsLimited, IsStatementRefused, IsStatementWithin, statement_fault}
use Rattle.statement_meaning.specs.declared.statement.Statement.{Statement as DeclaredStatement}
use Rattle.statement_meaning.proofs.Excluding.{refusals_are_one as one_refusal, fit_or_refused as fit_or_not, judged_or_refused}
use Rattle.script_parse.specs.Answers.{Spells, OfStatement, IsStatementCause, AreRefused, place_at}
use Rattle.script_parse.specs.declared.errors.ScriptError.{ScriptError}
use Rattle.script_parse.specs.declared.errors.ScriptError.TheVariants.{Read, Limit, Syntax, Name, Memory}

-- two refusals are one, or one of them is want of memory
abbrev pub AreOne : ScriptError → ScriptError → Type 0
AreOne e f = (e ≡ f) ⊎ (e ≡ Memory) ⊎ (f ≡ Memory)

-- the refusal of a statement, as the reader tells it
abbrev as_error : Refusal → ScriptError
as_error (Fault f) = Name f.fault f.place
as_error (Passed which) = Limit which
as_error Wanting = Memory

abbrev StatementCause : ℕ → List KeptSet → StatementShape → ScriptError → Type 0
StatementCause base kept shape e = (r : Refusal) × IsStatementRefused base kept shape r × (e ≡ as_error r)

statement_cause : (base : ℕ) (kept : List KeptSet) (shape : StatementShape) (e : ScriptError) → IsStatementCause base kept shape e → StatementCause base kept shape e
statement_cause base kept shape Read h = absurd h
statement_cause base kept shape (Limit which) h = (Passed which, h, refl)
statement_cause base kept shape (Syntax place) h = absurd h
statement_cause base kept shape (Name fault place) h = (Fault (record { fault = fault; place = place }), h, refl)
statement_cause base kept shape Memory h = (Wanting, tt, refl)

statement_one : (base : ℕ) (kept : List KeptSet) (shape : StatementShape) (e f : ScriptError) → StatementCause base kept shape e → StatementCause base kept shape f → AreOne e f
statement_one base kept shape e f (r, h, p) (q, i, s) = by (one_refusal base kept shape r q h i)
  where
    by : (r ≡ q) ⊎ (r ≡ Wanting) ⊎ (q ≡ Wanting) → AreOne e f
    by (inl same) = inl (p ∙ ap as_error same ∙ sym s)
    by (inr (inl wants)) = inr (inl (p ∙ ap as_error wants))
    by (inr (inr wants)) = inr (inr (s ∙ ap as_error wants))

-- what is said of a refusal by what the tokens are
abbrev Claims : ℕ → List KeptSet → ℕ → List PlacedToken → Outcome → ScriptError → Type 0
Claims base kept end ts (Whole a) e = IsStatementCause base kept (statement_shape a) e
Claims base kept end ts (Wrong k) e = e ≡ Syntax (place_at end ts k)
Claims base kept end ts (Deep k) e = e ≡ Limit Nesting

abbrev Cause : ℕ → List KeptSet → ℕ → List PlacedToken → ScriptError → Type 0
Cause base kept end ts e = (e ≡ Memory) ⊎ ((x : Outcome) × IsOutcome ts x × Claims base kept end ts x e)

cause : (base : ℕ) (kept : List KeptSet) (end : ℕ) (ts : List PlacedToken) (e : ScriptError) → AreRefused base kept end ts e → Cause base kept end ts e
cause base kept end ts Read h = absurd h
cause base kept end ts (Limit which) (inl (p, d)) = inr (Deep d.at, d.deep, ap Limit p)
cause base kept end ts (Limit which) (inr o) = inr (Whole o.spells.tree, o.spells.read, subst (λ u. IsLimited base kept u which) (sym o.spells.is) o.is)
cause base kept end ts (Syntax place) h = inr (Wrong h.at, h.wrong, ap Syntax h.is)
cause base kept end ts (Name fault place) o = inr (Whole o.spells.tree, o.spells.read, ap (statement_fault kept) o.spells.is ∙ o.is)
cause base kept end ts Memory h = inl refl

-- tokens are one thing
same : (ts : List PlacedToken) (x y : Outcome) → IsOutcome ts x → IsOutcome ts y → x ≡ y
same ts x y h i = by (one ts)
  where
    by : ((z : Outcome) × IsOutcome ts z × ((w : Outcome) → IsOutcome ts w → w ≡ z)) → x ≡ y
    by (z, k, only) = only x h ∙ sym (only y i)

claims_one : (base : ℕ) (kept : List KeptSet) (end : ℕ) (ts : List PlacedToken) (x : Outcome) (e f : ScriptError) → Claims base kept end ts x e → Claims base kept end ts x f → AreOne e f
claims_one base kept end ts (Whole a) e f h i = statement_one base kept (statement_shape a) e f (statement_cause base kept (statement_shape a) e h) (statement_cause base kept (statement_shape a) f i)
claims_one base kept end ts (Wrong k) e f p q = inl (p ∙ sym q)
claims_one base kept end ts (Deep k) e f p q = inl (p ∙ sym q)

pub refusals_are_one : (base : ℕ) (kept : List KeptSet) (end : ℕ) (ts : List PlacedToken) (e f : ScriptError) → AreRefused base kept end ts e → AreRefused base kept end ts f → AreOne e f
refusals_are_one base kept end ts e f h i = by (cause base kept end ts e h) (cause base kept end ts f i)
  where
    by : Cause base kept end ts e → Cause base kept end ts f → AreOne e f
    by (inl p) j = inr (inl p)
    by (inr g) (inl q) = inr (inr q)
    by (inr (x, k, p)) (inr (y, l, q)) = claims_one base kept end ts x e f p (subst (λ z. Claims base kept end ts z f) (same ts y x l k) q)

-- a statement that is judged is refused for want of memory alone
judged_is_not_refused : (base : ℕ) (kept : List KeptSet) (shape : StatementShape) (s : DeclaredStatement) (e : ScriptError) → IsJudged base kept shape s → StatementCause base kept shape e → e ≡ Memory
judged_is_not_refused base kept shape s e h (r, i, p) = p ∙ ap as_error (judged_or_refused base kept shape s r h i)

pub asked_or_refused : (base : ℕ) (kept : List KeptSet) (end : ℕ) (ts : List PlacedToken) (s : DeclaredStatement) (e : ScriptError) → OfStatement ts (λ shape. IsJudged base kept shape s) → AreRefused base kept end ts e → e ≡ Memory
asked_or_refused base kept end ts s e o h = by (cause base kept end ts e h)
  where
    of_whole : Claims base kept end ts (Whole o.spells.tree) e → e ≡ Memory
    of_whole i = judged_is_not_refused base kept o.shape s e o.is (statement_cause base kept o.shape e (subst (λ u. IsStatementCause base kept u e) o.spells.is i))

    by : Cause base kept end ts e → e ≡ Memory
    by (inl p) = p
    by (inr (x, k, p)) = of_whole (subst (λ z. Claims base kept end ts z e) (same ts x (Whole o.spells.tree) k o.spells.read) p)

-- the same of a statement whose names are right and that passes no limit
pub fit_or_refused : (base : ℕ) (kept : List KeptSet) (end : ℕ) (ts : List PlacedToken) (e : ScriptError) → OfStatement ts (λ shape. (statement_fault kept shape ≡ None) × IsStatementWithin base kept shape) → AreRefused base kept end ts e → e ≡ Memory
fit_or_refused base kept end ts e o h = by (cause base kept end ts e h)
  where
    judged : StatementCause base kept o.shape e → e ≡ Memory
    judged (r, i, p) = p ∙ ap as_error (fit_or_not base kept o.shape r o.is.0 o.is.1 i)

    of_whole : Claims base kept end ts (Whole o.spells.tree) e → e ≡ Memory
    of_whole i = judged (statement_cause base kept o.shape e (subst (λ u. IsStatementCause base kept u e) o.spells.is i))

    by : Cause base kept end ts e → e ≡ Memory
    by (inl p) = p
    by (inr (x, k, p)) = of_whole (subst (λ z. Claims base kept end ts z e) (same ts x (Whole o.spells.tree) k o.spells.read) p)

-- tokens spell one statement
abbrev tree_shape : StatementShape → Outcome → StatementShape
tree_shape s (Whole a) = statement_shape a
tree_shape s (Wrong k) = s
tree_shape s (Deep k) = s

pub one_shape : (ts : List PlacedToken) (s t : StatementShape) → Spells ts s → Spells ts t → s ≡ t
one_shape ts s t h i = sym h.is ∙ ap (tree_shape s) (same ts (Whole h.tree) (Whole i.tree) h.read i.read) ∙ i.is
