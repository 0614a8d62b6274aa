-- A table whose integer states count thresholds and whose fraction states are bounds stands for its atom.
use Rattle.std.proofs.Common.{◌≡◌, ℕ, zero, suc, ◌+◌, ◌^◌, ◌<◌, ◌≤◌, List, ◌++◌, length, arith, refl, ◌∙◌, sym, ap, subst}
use Rattle.std.proofs.Math.IntN.{ℤ, pos, negsuc, ◌+ℤ◌, ◌-ℤ◌}
use Rattle.std.specs.Prelude.{◌≤ℤ◌, ◌<ℤ◌, ◌↔◌, IsTrue, nat_eq, slice_index}
use Rattle.std.specs.List.{AllByRecursion}
use Rattle.std.proofs.lemmas.Int.{ints, by_lt_z}
use Rattle.std.proofs.lemmas.List.Elements.{recursion_from_All}
use Rattle.std.proofs.lemmas.Bool.{cases_lt}
use mathlib.Core.Logic.{◌⊎◌, inl, inr}
use Rattle.integer_laws.specs.Vectors.{vector_from}
use Rattle.graph_laws.specs.Walks.{go, copies}
use Rattle.lash_model.specs.Words.{values}
use Rattle.lash_model.specs.Lassos.{Lasso, IsLasso, denominator, numerators}
use Rattle.lash_model.specs.Formulas.{Linear, Comparison, Atom}
use Rattle.lash_model.specs.Meaning.{total, holds}
use Rattle.lash_model.specs.Tables.{Table, letters, fracs}
use Rattle.lash_model.specs.Acceptance.{accepts_lasso}
use Rattle.lash_model.specs.Standing.{StandsForMixed}
use Rattle.threshold_laws.specs.Thresholds.{letter_total, Among, AreThresholds, below, representative}
use Rattle.threshold_laws.proofs.Counting.{below_few, below-representative, not_parted}
use Rattle.threshold_laws.proofs.AtomTables.{some_member, given_threshold, steps_count}
use Rattle.lasso_laws.specs.Windows.{lowest, window, window_end, window_seeds, IsBoundGraph, CountsBounds}
use Rattle.lasso_laws.proofs.WindowAtoms.{bounds_tell}

few : (ts : List ℤ) (x : ℤ) → below ts x < length ts + 1
few ts x = omega (arith, below_few ts x)

-- ---- the seeds are all whole numbers of an interval
among_from : (first : ℤ) (i n : ℕ) (x : ℤ) (j : ℕ) → i ≤ j → j < i + n → x ≡ first +ℤ pos j → Among x (vector_from (λ i. first +ℤ pos i) i n)
unfolding vector_from
among_from first i zero x j low high e = absurd (omega (arith, low, high))
among_from first i (suc n) x j low high e =
    elim (here i j low) [ inl s ↦ inl (e ∙ ap (λ k. first +ℤ pos k) s) | inr later ↦ inr (among_from first (suc i) n x j later (omega (arith, high)) e) ]
  where
    here : (i j : ℕ) → i ≤ j → (j ≡ i) ⊎ (suc i ≤ j)
    here i j h = elim (cases_lt i j) [ inl less ↦ inr less | inr not_less ↦ inl (omega (arith, h, not_less)) ]

-- how far an integer is from a lower one
record Distance (low x : ℤ) : Type 0 where
  far : ℕ
  is : x ≡ low +ℤ pos far

distance : (low x : ℤ) → low ≤ℤ x → Distance low x
distance low x h = by (x -ℤ low) refl
  where
    by : (z : ℤ) → z ≡ x -ℤ low → Distance low x
    by (pos n) e = record { far = n; is = omega (arith, ints, e) }
    by (negsuc n) e = absurd (omega (arith, ints, e, h))

seed_at : (kind : Comparison) (a : Linear) (x : ℤ) → (a.constant -ℤ window_end kind a.terms) ≤ℤ x → x ≤ℤ (a.constant -ℤ lowest a.terms)
    → Among x (window_seeds kind a)
seed_at kind a x low high = from (distance (a.constant -ℤ window_end kind a.terms) x low)
  where
    from : Distance (a.constant -ℤ window_end kind a.terms) x → Among x (window_seeds kind a)
    from d = among_from (a.constant -ℤ window_end kind a.terms) 0 (window kind a.terms + 1) x d.far (omega arith) (near d.far d.is) d.is
      where
        near : (far : ℕ) → x ≡ (a.constant -ℤ window_end kind a.terms) +ℤ pos far → far < 0 + (window kind a.terms + 1)
        near far e = omega (arith, ints, e, high)

-- ---- equal counts have one state of their bounds
same_state : (kind : Comparison) (a : Linear) (r n : ℕ) (rows colours : List ℕ) (state : ℤ → ℕ) → IsBoundGraph kind a.terms r n rows colours state
    → (ts : List ℤ) → ((b : ℤ) → Among b (window_seeds kind a) → Among b ts) → (x y : ℤ) → below ts x ≡ below ts y
    → state (a.constant -ℤ x) ≡ state (a.constant -ℤ y)
same_state kind a r n rows colours state g ts given x y e = by_lt_z (a.constant -ℤ x) (lowest a.terms)
    (λ under. g.below (a.constant -ℤ x) (a.constant -ℤ y) under (moved_low under))
    (λ low. by_lt_z (a.constant -ℤ x) (window_end kind a.terms)
    (λ inside. ap state (ap (λ z. a.constant -ℤ z) (same low inside)))
    (λ over. g.above (a.constant -ℤ x) (a.constant -ℤ y) over (moved_high over)))
  where
    c : ℤ
    c = a.constant

    -- the seed at the lower side, and at the end of the window
    first_seed : Among (c -ℤ window_end kind a.terms) ts
    first_seed = given (c -ℤ window_end kind a.terms) (seed_at kind a (c -ℤ window_end kind a.terms) (omega (arith, ints)) (omega (arith, ints)))

    last_seed : Among (c -ℤ lowest a.terms) ts
    last_seed = given (c -ℤ lowest a.terms) (seed_at kind a (c -ℤ lowest a.terms) (omega (arith, ints)) (omega (arith, ints)))

    moved_low : (c -ℤ x) <ℤ lowest a.terms → (c -ℤ y) <ℤ lowest a.terms
    moved_low h = turn_back (not_parted ts y x (c -ℤ lowest a.terms) (sym e) last_seed (omega (arith, ints, h)))
      where
        turn_back : (c -ℤ lowest a.terms) <ℤ y → (c -ℤ y) <ℤ lowest a.terms
        turn_back h = omega (arith, ints, h)

    moved_high : (window_end kind a.terms) ≤ℤ (c -ℤ x) → (window_end kind a.terms) ≤ℤ (c -ℤ y)
    moved_high h = by_lt_z (c -ℤ window_end kind a.terms) y (λ under. absurd (clash (not_parted ts x y (c -ℤ window_end kind a.terms) e first_seed under)))
        (λ above. omega (arith, ints, above))
      where
        clash : (c -ℤ window_end kind a.terms) <ℤ x → ⊥
        clash k = omega (arith, ints, h, k)

    same : (lowest a.terms) ≤ℤ (c -ℤ x) → (c -ℤ x) <ℤ window_end kind a.terms → x ≡ y
    same low inside = equal (not_over x refl) (not_parted ts y x (x -ℤ pos 1) (sym e) before_seed (omega (arith, ints)))
      where
        here_seed : Among x ts
        here_seed = given x (seed_at kind a x (omega (arith, ints, inside)) (omega (arith, ints, low)))

        before_seed : Among (x -ℤ pos 1) ts
        before_seed = given (x -ℤ pos 1) (seed_at kind a (x -ℤ pos 1) (omega (arith, ints, inside)) (omega (arith, ints, low)))

        not_over : (z : ℤ) → z ≡ x → y ≤ℤ x
        not_over z i = by_lt_z x y (λ over. absurd (clash (not_parted ts x y x e here_seed over))) (λ upto. upto)
          where
            clash : x <ℤ x → ⊥
            clash k = omega (arith, ints, k)

        equal : y ≤ℤ x → (x -ℤ pos 1) <ℤ y → x ≡ y
        equal h k = omega (arith, ints, h, k)

-- ---- the integer state after a word leads to the state of its bound
out_after : (kind : Comparison) (a : Linear) (r n : ℕ) (ts : List ℤ) (state : ℤ → ℕ) (t : Table) → 0 < r → CountsBounds kind a r n ts state t
    → AreThresholds r (r ^ n) (letter_total a.terms r n) (window_seeds kind a) ts → (sign : ℕ) (w : List ℕ) → sign < 2 ^ n
    → AllByRecursion (λ l. l < r ^ n) w
    → slice_index t.outs (go t.rows (r ^ n) (slice_index t.roots sign) w) ≡ state (a.constant -ℤ total a.terms (values r n sign w))
out_after kind a r n ts state t h c e sign w s ls =
    let x : ℤ = total a.terms (values r n sign w) in
    let member : (b : ℤ) → Among b (window_seeds kind a) → Among b ts = given_threshold r (r ^ n) (letter_total a.terms r n) (window_seeds kind a) ts e in
    let some : 0 < length ts = some_member ts (a.constant -ℤ lowest a.terms)
    (member (a.constant -ℤ lowest a.terms) (seed_at kind a (a.constant -ℤ lowest a.terms) (omega (arith, ints)) (omega (arith, ints)))) in
    ap (slice_index t.outs) (steps_count a r n (window_seeds kind a) ts t h some c.steps e sign w s ls)
    ∙ c.outs (below ts x) (few ts x)
    ∙ same_state kind a r n t.frac_rows t.colours state c.bounds ts member (representative ts (below ts x)) x
    (below-representative ts (below ts x) e.rising some (few ts x))

-- a table that counts bounds stands for its atom
pub window_stands : (kind : Comparison) (a : Linear) (r n : ℕ) (ts : List ℤ) (state : ℤ → ℕ) (t : Table) → 2 ≤ r → CountsBounds kind a r n ts state t
    → AreThresholds r (r ^ n) (letter_total a.terms r n) (window_seeds kind a) ts → StandsForMixed t (holds (Atom kind a))
window_stands kind a r n ts state t two c e = record {
  fractions = omega (arith, c.bounds.enough);
  each = λ x h. each x (subst (λ b. IsLasso b n x) c.steps.base (subst (λ m. IsLasso t.base m x) c.steps.tracks h));
}
  where
    shape : letters t ≡ r ^ n
    shape = ap (λ b. b ^ t.tracks) c.steps.base ∙ ap (λ k. r ^ k) c.steps.tracks

    at_base : (x : Lasso) → holds (Atom kind a) (numerators r n x) (denominator r x) → holds (Atom kind a) (numerators t.base t.tracks x) (denominator t.base x)
    at_base x h = subst (λ b. holds (Atom kind a) (numerators b t.tracks x) (denominator b x)) (sym c.steps.base)
        (subst (λ m. holds (Atom kind a) (numerators r m x) (denominator r x)) (sym c.steps.tracks) h)

    from_base : (x : Lasso) → holds (Atom kind a) (numerators t.base t.tracks x) (denominator t.base x)
        → holds (Atom kind a) (numerators r n x) (denominator r x)
    from_base x h = subst (λ m. holds (Atom kind a) (numerators r m x) (denominator r x)) c.steps.tracks
        (subst (λ b. holds (Atom kind a) (numerators b t.tracks x) (denominator b x)) c.steps.base h)

    each : (x : Lasso) → IsLasso r n x → IsTrue (accepts_lasso t x) ↔ holds (Atom kind a) (numerators t.base t.tracks x) (denominator t.base x)
    each x h = (λ q. at_base x (told.0 (subst (λ s. IsTrue (nat_eq s 1)) there q)), λ m. subst (λ s. IsTrue (nat_eq s 1)) (sym there) (told.1 (from_base x m)))
      where
        told : IsTrue (nat_eq (slice_index t.colours
            (go t.frac_rows (r ^ n) (state (a.constant -ℤ total a.terms (values r n x.sign x.whole))) (x.stem ++ copies (fracs t) x.cycle))) 1)
            ↔ holds (Atom kind a) (numerators r n x) (denominator r x)
        told = bounds_tell kind a r n t.frac_rows t.colours state two c.bounds x h

        there : slice_index t.colours (go t.frac_rows (letters t) (slice_index t.outs (go t.rows (letters t) (slice_index t.roots x.sign) x.whole))
            (x.stem ++ copies (fracs t) x.cycle)) ≡ slice_index t.colours
            (go t.frac_rows (r ^ n) (state (a.constant -ℤ total a.terms (values r n x.sign x.whole))) (x.stem ++ copies (fracs t) x.cycle))
        there = ap (λ k. slice_index t.colours
            (go t.frac_rows k (slice_index t.outs (go t.rows k (slice_index t.roots x.sign) x.whole)) (x.stem ++ copies (fracs t) x.cycle))) shape
            ∙ ap (λ q. slice_index t.colours (go t.frac_rows (r ^ n) q (x.stem ++ copies (fracs t) x.cycle)))
            (out_after kind a r n ts state t (omega (arith, two)) c e x.sign x.whole h.sign (recursion_from_All (λ l. l < r ^ n) x.whole h.whole))
