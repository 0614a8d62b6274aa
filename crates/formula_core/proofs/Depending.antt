-- What a formula says depends on the entries at the places that it uses.
use Rattle.std.proofs.Common.{◌≡◌, ℕ, zero, suc, ◌*◌, List, [], ◌∷◌, ◌++◌, length, get_or, arith, refl, sym, ap, ◌∙◌, subst, Bool, true, nat_eq, nat_lt, inl, inr}
use Rattle.std.proofs.Math.IntN.{ℤ, pos, ◌+ℤ◌, ◌*ℤ◌}
use Rattle.std.specs.List.{All, AllByRecursion}
use Rattle.std.specs.Set.{is_member}
use Rattle.std.proofs.lemmas.List.{get_or_past}
use Rattle.std.proofs.lemmas.List.Elements.{recursion_from_All}
use Rattle.std.proofs.lemmas.Bool.{eq-eqb, eqb-true, lt-ltb, or_left, or_right, or_cases, and_from, cases_lt, false≢true}
use Rattle.integer_laws.specs.Vectors.{scale}
use Rattle.integer_laws.proofs.Entries.{entry-scale}
use Rattle.lash_model.specs.Formulas.{Int, Real, Linear, IsLinear, Formula, Atom, Not, And, Or, Exists}
use Rattle.lash_model.specs.Meaning.{total, compares, holds}
use Rattle.formula_core.specs.Atoms.{HasLinearAtoms}
use Rattle.formula_core.specs.Counts.{term_uses, uses, free_places}
use Rattle.formula_core.specs.Marks.{appears}
use Rattle.formula_core.proofs.Gathering.{member_passing}
use Rattle.formula_core.proofs.Marking.{uses_appears}

-- the vectors have one length, and agree wherever the test passes
record Agree (test : ℕ → Bool) (ns ms : List ℤ) : Type 0 where
  pub count : length ns ≡ length ms
  pub each : (place : ℕ) → test place ≡ true → get_or ns place (pos 0) ≡ get_or ms place (pos 0)

turned : {test : ℕ → Bool} {ns ms : List ℤ} → Agree test ns ms → Agree test ms ns
turned h = record { count = sym h.count; each = λ place e. sym (h.each place e) }

-- fewer places
fewer : {test other : ℕ → Bool} {ns ms : List ℤ} → ((place : ℕ) → other place ≡ true → test place ≡ true) → Agree test ns ms → Agree other ns ms
fewer less h = record { count = h.count; each = λ place e. h.each place (less place e) }

length-scale : (c : ℕ) (ns : List ℤ) → length (scale c ns) ≡ length ns
unfolding scale
length-scale c [] = refl
length-scale c (x ∷ ns) = ap suc (length-scale c ns)

scaled : {test : ℕ → Bool} {ns ms : List ℤ} (c : ℕ) → Agree test ns ms → Agree test (scale c ns) (scale c ms)
scaled {ns = ns} {ms = ms} c h = record {
  count = length-scale c ns ∙ h.count ∙ sym (length-scale c ms);
  each = λ place e. entry-scale c ns place ∙ ap (λ x. pos c *ℤ x) (h.each place e) ∙ sym (entry-scale c ms place);
}

entry_pushed : (ns ms : List ℤ) (x : ℤ) (place : ℕ) → length ns ≡ length ms → get_or ns place (pos 0) ≡ get_or ms place (pos 0) → get_or (ns ++ x ∷ []) place (pos 0) ≡ get_or (ms ++ x ∷ []) place (pos 0)
entry_pushed [] [] x place e h = refl
entry_pushed [] (m ∷ ms) x place e h = absurd (omega arith)
entry_pushed (n ∷ ns) [] x place e h = absurd (omega arith)
entry_pushed (n ∷ ns) (m ∷ ms) x zero e h = h
entry_pushed (n ∷ ns) (m ∷ ms) x (suc place) e h = entry_pushed ns ms x place (omega arith) h

length_pushed : (ns ms : List ℤ) (x : ℤ) → length ns ≡ length ms → length (ns ++ x ∷ []) ≡ length (ms ++ x ∷ [])
length_pushed [] [] x e = refl
length_pushed [] (m ∷ ms) x e = absurd (omega arith)
length_pushed (n ∷ ns) [] x e = absurd (omega arith)
length_pushed (n ∷ ns) (m ∷ ms) x e = ap suc (length_pushed ns ms x (omega arith))

pushed : {test : ℕ → Bool} {ns ms : List ℤ} (x : ℤ) → Agree test ns ms → Agree test (ns ++ x ∷ []) (ms ++ x ∷ [])
pushed {ns = ns} {ms = ms} x h = record {
  count = length_pushed ns ms x h.count;
  each = λ place e. entry_pushed ns ms x place h.count (h.each place e);
}

total_appears : (ts : List (ℕ × ℤ)) (ns ms : List ℤ) → Agree (λ place. appears place ts) ns ms → total ts ns ≡ total ts ms
unfolding total
total_appears [] ns ms h = refl
total_appears (t ∷ ts) ns ms h =
    let rest : Agree (λ place. appears place ts) ns ms = fewer (λ place e. or_right (nat_eq t.0 place) (appears place ts) e) h in
    ap (λ x. (t.1 *ℤ x) +ℤ total ts ns) (h.each t.0 (or_left (nat_eq t.0 t.0) (appears t.0 ts) (eq-eqb t.0 t.0 refl))) ∙ ap (λ s. (t.1 *ℤ get_or ms t.0 (pos 0)) +ℤ s) (total_appears ts ns ms rest)

total_used : (a : Linear) (ns ms : List ℤ) → IsLinear a → Agree (λ place. term_uses place a) ns ms → total a.terms ns ≡ total a.terms ms
total_used a ns ms linear h = total_appears a.terms ns ms (fewer (λ place e. uses_appears place a.terms linear.nonzero ∙ e) h)

-- what holds of one holds of the other
depends : (f : Formula) (ns ms : List ℤ) (d : ℕ) → HasLinearAtoms f → Agree (λ place. uses place f) ns ms → holds f ns d → holds f ms d
unfolding holds
depends (Atom kind a) ns ms d linear h = λ x. subst (λ t. compares kind t (a.constant *ℤ pos d)) (total_used a ns ms linear h) x
depends (Not f) ns ms d linear h = λ x y. x (depends f ms ns d linear (turned h) y)
depends (And f g) ns ms d linear h =
    let left : Agree (λ place. uses place f) ns ms = fewer (λ place e. or_left (uses place f) (uses place g) e) h in
    let right : Agree (λ place. uses place g) ns ms = fewer (λ place e. or_right (uses place f) (uses place g) e) h in
    λ x. (depends f ns ms d linear.0 left x.0, depends g ns ms d linear.1 right x.1)
depends (Or f g) ns ms d linear h =
    let left : Agree (λ place. uses place f) ns ms = fewer (λ place e. or_left (uses place f) (uses place g) e) h in
    let right : Agree (λ place. uses place g) ns ms = fewer (λ place e. or_right (uses place f) (uses place g) e) h in
    λ x. elim x [ inl y ↦ inl (depends f ns ms d linear.0 left y) | inr y ↦ inr (depends g ns ms d linear.1 right y) ]
depends (Exists Int f) ns ms d linear h = λ x. (x.0, depends f (ns ++ (x.0 *ℤ pos d) ∷ []) (ms ++ (x.0 *ℤ pos d) ∷ []) d linear (pushed (x.0 *ℤ pos d) h) x.1)
depends (Exists Real f) ns ms d linear h = λ x. (x.0, (x.1.0, depends f (scale (suc x.0) ns ++ x.1.0 ∷ []) (scale (suc x.0) ms ++ x.1.0 ∷ []) (suc x.0 * d) linear (pushed x.1.0 (scaled (suc x.0) h)) x.1.1))

-- and the other way round
pub depends_on_used : (f : Formula) (ns ms : List ℤ) (d : ℕ) → HasLinearAtoms f → length ns ≡ length ms → ((place : ℕ) → uses place f ≡ true → get_or ns place (pos 0) ≡ get_or ms place (pos 0)) → (holds f ns d → holds f ms d) × (holds f ms d → holds f ns d)
depends_on_used f ns ms d linear count each =
    let h : Agree (λ place. uses place f) ns ms = record { count = count; each = each } in
    (depends f ns ms d linear h, depends f ms ns d linear (turned h))

-- what holds of all members holds of one
met : (P : ℕ → Type 0) (xs : List ℕ) (q : ℕ) → AllByRecursion P xs → is_member nat_eq xs q ≡ true → P q
met P [] q h e = absurd (false≢true e)
met P (x ∷ xs) q h e = elim (or_cases (nat_eq q x) (is_member nat_eq xs q) e) [ inl here ↦ subst P (sym (eqb-true q x here)) h.0 | inr behind ↦ met P xs q h.1 behind ]

-- past the end of both vectors the entries are 0
pub depends_on_free : (f : Formula) (ns ms : List ℤ) (d : ℕ) → HasLinearAtoms f → length ns ≡ length ms → All (λ place. get_or ns place (pos 0) ≡ get_or ms place (pos 0)) (free_places f (length ns)) → (holds f ns d → holds f ms d) × (holds f ms d → holds f ns d)
depends_on_free f ns ms d linear count each = depends_on_used f ns ms d linear count agree
  where
    agree : (place : ℕ) → uses place f ≡ true → get_or ns place (pos 0) ≡ get_or ms place (pos 0)
    agree place used = elim (cases_lt place (length ns)) [
      | inl below ↦ met (λ place. get_or ns place (pos 0) ≡ get_or ms place (pos 0)) (free_places f (length ns)) place (recursion_from_All _ _ each) (member_passing (λ place. uses place f) (length ns) place ∙ and_from (nat_lt place (length ns)) (uses place f) (lt-ltb place (length ns) below) used)
      | inr past ↦ get_or_past ns place (pos 0) past ∙ sym (get_or_past ms place (pos 0) (omega (arith, past, count)))
    ]
