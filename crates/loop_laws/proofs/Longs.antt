-- As many turns as p or more: what a closure says of them.
use Rattle.std.proofs.Common.{◌≡◌, ℕ, zero, suc, ◌+◌, ◌*◌, ◌<◌, ◌≤◌, Bool, true, false, List, [], ◌∷◌, ◌++◌, length, arith, refl, sym, ap, ◌∙◌}
use mathlib.Core.Logic.{◌⊎◌, inl, inr}
use Rattle.std.proofs.Math.IntN.{ℤ, pos, negsuc, ◌+ℤ◌, ◌*ℤ◌, pos-*ℤ-pos, negsuc-*ℤ-pos}
use Rattle.std.specs.Prelude.{◌↔◌, ◌≤ℤ◌}
use Rattle.std.proofs.lemmas.Int.{ints}
use Rattle.lash_model.specs.Formulas.{Linear, Formula, And, Or}
use Rattle.lash_model.specs.Meaning.{total, holds}
use Rattle.formula_core.specs.Terms.{added}
use Rattle.formula_core.proofs.Adding.{total_added}
use Rattle.term_substitution.specs.Values.{term_value}
use Rattle.term_substitution.proofs.Reaching.{added_below}
use Rattle.matrix_powers.specs.Powers.{IsPower}
use Rattle.matrix_powers.specs.Orbits.{at_row}
use Rattle.loop_laws.specs.Turns.{Body, IsGuard, after}
use Rattle.loop_laws.specs.Closures.{gathered, guarded, equations, early_term, late_term, count_place, places_of, is_one, is_some, between, long_count, long}
use Rattle.loop_laws.proofs.Sums.{one_times}
use Rattle.loop_laws.proofs.Iterating.{iterated}
use Rattle.loop_laws.proofs.Allowing.{Allows, AreTested, after_is, all_allowed, all_tested}
use Rattle.loop_laws.proofs.Joining.{AllHold, all_append, all_gathered}
use Rattle.loop_laws.proofs.TermVectors.{Stands, late_entries}
use Rattle.loop_laws.proofs.Parts.{minus_times, guarded_means, equations_mean, equation_means}
use Rattle.loop_laws.proofs.Shorts.{early_guard, early_guards, IsCount, no_terms}

-- the loop, its two vectors, and the vector with M at the place behind them, where M is m + 1
pub record IsLong (l : Body) (p d m place : ℕ) (x y ns : List ℤ) : Type 0 where
  pub power : IsPower l.matrix p
  pub whole_x : length x ≡ l.matrix.side
  pub whole_y : length y ≡ l.matrix.side
  pub positive : 0 < d
  pub stands : Stands l.matrix.side (place + 1) x y ns
  pub turns : at_row ns place ≡ pos (suc m) *ℤ pos d

-- the total of one variable
one_total : (place : ℕ) (c : ℤ) (ns : List ℤ) → total (added [] place c) ns ≡ c *ℤ at_row ns place
one_total place c ns = omega (arith, ints, total_added [] place c ns, no_terms ns)

is_one_means : (place m d : ℕ) (ns : List ℤ) → at_row ns place ≡ pos (suc m) *ℤ pos d → 0 < d → holds (is_one place) ns d ↔ (m ≡ 0)
unfolding holds
is_one_means place m d ns e some = (λ h. from (omega (arith, ints, h, whole, e, pos-*ℤ-pos (suc m) d, one_times (pos d))), λ h. omega (arith, ints, whole, e, ap (λ k. pos (suc k) *ℤ pos d) h, one_times (pos d)))
  where
    whole : total (added [] place (pos 1)) ns ≡ at_row ns place
    whole = one_total place (pos 1) ns ∙ one_times (at_row ns place)

    none : (m d : ℕ) → m * d ≡ 0 → 0 < d → m ≡ 0
    none zero d e some = refl
    none (suc m) d e some = absurd (omega (arith, e, some))

    from : suc m * d ≡ d → m ≡ 0
    from q = none m d (omega (arith, q)) some

pub is_some_holds : (place m d : ℕ) (ns : List ℤ) → at_row ns place ≡ pos (suc m) *ℤ pos d → holds (is_some place) ns d
unfolding holds
is_some_holds place m d ns e = omega (arith, ints, one_total place (negsuc 0) ns, minus_times (at_row ns place), minus_times (pos d), e, pos-*ℤ-pos (suc m) d)

-- the number is at least 1
pub record IsSome (turns : ℤ) : Type 0 where
  pub less : ℕ
  pub one_more : turns ≡ pos (suc less)

pub is_some_means : (place d : ℕ) (turns : ℤ) (ns : List ℤ) → at_row ns place ≡ turns *ℤ pos d → 0 < d → holds (is_some place) ns d → IsSome turns
unfolding holds
is_some_means place d turns ns e some h = by turns (omega (arith, ints, one_total place (negsuc 0) ns, minus_times (at_row ns place), minus_times (pos d), e, h))
  where
    by : (k : ℤ) → (pos d) ≤ℤ (k *ℤ pos d) → IsSome k
    by (pos zero) le = absurd (omega (arith, ints, le, pos-*ℤ-pos zero d))
    by (pos (suc m)) le = record { less = m; one_more = refl }
    by (negsuc m) le = absurd (omega (arith, ints, le, negsuc-*ℤ-pos m d))

-- the guard at the vector after p m + j turns
late_guard : (l : Body) (p d m place back k j : ℕ) (x y ns : List ℤ) → IsLong l p d m place x y ns → k + back ≡ suc m → holds (guarded l (late_term l p j place back) (place + 1)) ns d ↔ Allows l d x (p * suc k + j)
late_guard l p d m place back k j x y ns h e = guarded_means l d (place + 1) (late_term l p j place back) (iterated l d (p * suc k + j) x) ns h.stands.count (late_entries l p d (place + 1) j place back k x y ns h.power h.whole_x h.stands (omega arith) (h.turns ∙ ap (λ n. pos n *ℤ pos d) (sym e)))

or_and_means : (f g h : Formula) (ns : List ℤ) (d : ℕ) → holds (Or f (And g h)) ns d ↔ (holds f ns d ⊎ (holds g ns d × holds h ns d))
unfolding holds
or_and_means f g h ns d = (λ k. k, λ k. k)

-- where M is 2 or more, the guard holds at the first and the last turn of the remainder
between_means : (l : Body) (p d m place j : ℕ) (x y ns : List ℤ) → IsLong l p d m place x y ns → holds (between l p place j) ns d ↔ (0 < m → Allows l d x (p + j) × Allows l d x (p * m + j))
between_means l p d zero place j x y ns h =
    let either = or_and_means (is_one place) (guarded l (early_term l (p + j)) (place + 1)) (guarded l (late_term l p j place 2) (place + 1)) ns d in
    (λ k lt. absurd (omega (arith, lt)), λ k. either.1 (inl ((is_one_means place zero d ns h.turns h.positive).1 refl)))
between_means l p d (suc m) place j x y ns h =
    let either = or_and_means (is_one place) (guarded l (early_term l (p + j)) (place + 1)) (guarded l (late_term l p j place 2) (place + 1)) ns d in
    let early = early_guard l d (place + 1) (p + j) x y ns h.whole_x h.stands in
    let late = late_guard l p d (suc m) place 2 m j x y ns h (omega arith) in (
      λ k lt. elim (either.0 k) [ inl one ↦ absurd (omega (arith, (is_one_means place (suc m) d ns h.turns h.positive).0 one)) | inr both ↦ (early.0 both.0, late.0 both.1) ],
      λ k. let both = k (omega arith) in either.1 (inr (early.1 both.0, late.1 both.1)),
    )

long_counted : (counted : Bool) (l : Body) (p i d m : ℕ) (x y ns : List ℤ) → IsLong l p d m (places_of counted l) x y ns → AllHold (long_count counted l p i) ns d ↔ IsCount counted (at_row ns (count_place l)) (p * suc m + i) d
long_counted false l p i d m x y ns h = (λ k. tt, λ k. tt)
long_counted true l p i d m x y ns h =
    let t : Linear = record { terms = added [] (count_place l + 1) (pos p); constant = pos i } in
    let means = equation_means (count_place l) t (count_place l + 2) d ns (omega (arith, h.stands.count)) (omega arith) (added_below (count_place l + 2) [] (count_place l + 1) (pos p) (omega arith) tt) in
    let value : term_value ns d t ≡ pos ((p * suc m + i) * d) = total_is (at_row ns (count_place l + 1)) (h.turns ∙ pos-*ℤ-pos (suc m) d) (one_total (count_place l + 1) (pos p) ns) in
    (λ k. means.0 k.0 ∙ value, λ k. (means.1 (k ∙ sym value), tt))
  where
    total_is : (v : ℤ) → v ≡ pos (suc m * d) → {t : ℤ} → t ≡ pos p *ℤ v → t +ℤ (pos i *ℤ pos d) ≡ pos ((p * suc m + i) * d)
    total_is v e f = omega (arith, ints, f, ap (λ u. pos p *ℤ u) e, pos-*ℤ-pos p (suc m * d), pos-*ℤ-pos i d)

-- the second case says that p M + i turns lead from x to y
pub long_means : (counted : Bool) (l : Body) (p i d m : ℕ) (x y ns : List ℤ) → 0 < p → i ≤ p → IsGuard l.guard → IsLong l p d m (places_of counted l) x y ns → AllHold (long counted l p i) ns d ↔ (after l d (p * suc m + i) x y × IsCount counted (at_row ns (count_place l)) (p * suc m + i) d)
long_means counted l p i d m x y ns some few g h =
    let place = places_of counted l in
    let places = places_of counted l + 1 in
    let first = is_some place ∷ equations l (late_term l p i place 1) places in
    let early = gathered (λ j. guarded l (early_term l j) places ∷ []) p in
    let ends = gathered (λ j. between l p place j ∷ []) p in
    let late = gathered (λ j. guarded l (early_term l (p + j)) places ∷ guarded l (late_term l p j place 1) places ∷ []) i in
    let four = all_append (((first ++ early) ++ ends) ++ late) (long_count counted l p i) ns d in
    let three = all_append ((first ++ early) ++ ends) late ns d in
    let two = all_append (first ++ early) ends ns d in
    let one = all_append first early ns d in
    let turns : m + 1 ≡ suc m = omega arith in
    let equal = equations_mean l d places (late_term l p i place 1) (iterated l d (p * suc m + i) x) x y ns h.whole_y h.stands (late_entries l p d places i place 1 m x y ns h.power h.whole_x h.stands (omega arith) (h.turns ∙ ap (λ n. pos n *ℤ pos d) (sym turns))) in
    let all_early = early_guards l d places p x y ns h.whole_x h.stands in
    let all_ends = all_gathered (λ j. between l p place j ∷ []) p ns d in
    let all_late = all_gathered (λ j. guarded l (early_term l (p + j)) places ∷ guarded l (late_term l p j place 1) places ∷ []) i ns d in
    let counts = long_counted counted l p i d m x y ns h in
    let leads = after_is l d (p * suc m + i) x y in (
      λ k.
          let q4 = four.0 k in
          let q3 = three.0 q4.0 in
          let q2 = two.0 q3.0 in
          let q1 = one.0 q2.0 in
          let tested : AreTested l p d m i x = record {
            early = all_early.0 q1.1;
            ends = λ j lt. (between_means l p d m place j x y ns h).0 (all_ends.0 q2.1 j lt).0;
            late = λ j lt. let both = all_late.0 q3.1 j lt in ((early_guard l d places (p + j) x y ns h.whole_x h.stands).0 both.0, (late_guard l p d m place 1 m j x y ns h turns).0 both.1.0);
          } in
          (leads.1 (equal.0 q1.0.1, all_allowed l p d m i x some few h.power g h.whole_x tested), counts.0 q4.1),
      λ k.
          let q = leads.0 k.0 in
          let tested = all_tested l p d m i x q.1 in
          let q1 = one.1 ((is_some_holds place m d ns h.turns, equal.1 q.0), all_early.1 tested.early) in
          let q2 = two.1 (q1, all_ends.1 (λ j lt. ((between_means l p d m place j x y ns h).1 (tested.ends j lt), tt))) in
          let q3 = three.1 (q2, all_late.1 (λ j lt. let both = tested.late j lt in ((early_guard l d places (p + j) x y ns h.whole_x h.stands).1 both.0, ((late_guard l p d m place 1 m j x y ns h turns).1 both.1, tt)))) in
          four.1 (q3, counts.1 k.1),
    )
