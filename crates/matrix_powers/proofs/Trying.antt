-- Trial finds the least power.
use Rattle.std.proofs.Common.{◌≡◌, ℕ, zero, suc, ◌+◌, ◌≤◌, ◌<◌, ◌^◌, Bool, true, false, ◌&&◌, arith, refl, sym, ◌∙◌, ap, subst, cond, Some, nat_le, nat_eq}
use Rattle.std.specs.Ordering.{int_eq}
use Rattle.std.specs.Bool.{Decides}
use Rattle.std.specs.Prelude.{unsigned_abs}
use Rattle.std.proofs.lemmas.Bool.{true≢false, eqb-true, leb-true, le-leb}
use Rattle.std.proofs.lemmas.Bool.Decides.{Decides-int_eq, Decides-eqb}
use Rattle.matrix_powers.specs.Matrices.{Square, power_entry}
use Rattle.matrix_powers.specs.Powers.{IsPower, IsLeastPower, powers_limit}
use Rattle.matrix_powers.specs.Trials.{all_below, everywhere, comes_again, stays_small, is_power, first_power, power_of}

both_decided : {P Q : Type 0} (x y : Bool) → Decides x P → Decides y Q → Decides (x && y) (P × Q)
both_decided true true d e = ((λ _. (d.0 refl, e.0 refl)), (λ _. refl))
both_decided true false d e = ((λ q. absurd (true≢false (sym q))), (λ h. e.1 h.1))
both_decided false y d e = ((λ q. absurd (true≢false (sym q))), (λ h. d.1 h.0))

decided_below : (P : ℕ → Type 0) (n : ℕ) (test : ℕ → Bool) → ((i : ℕ) → Decides (test i) (P i)) → Decides (all_below n test) ((i : ℕ) → i < n → P i)
unfolding all_below
decided_below P zero test d = ((λ _ i lt. absurd (omega (arith, lt))), (λ _. refl))
decided_below P (suc n) test d = let both = both_decided (all_below n test) (test n) (decided_below P n test d) (d n) in ((λ e. told (both.0 e)), (λ h. both.1 ((λ i lt. h i (omega (arith, lt))), h n (omega arith))))
  where
    told : (((i : ℕ) → i < n → P i) × P n) → (i : ℕ) → i < suc n → P i
    told h i lt = by (nat_eq i n) refl
      where
        by : (b : Bool) → nat_eq i n ≡ b → P i
        by true e = subst P (sym (eqb-true i n e)) h.1
        by false e = h.0 i (omega (arith, lt, apart))
          where
            apart : i ≡ n → ⊥
            apart q = true≢false (sym ((Decides-eqb i n).1 q) ∙ e)

decided_everywhere : (a : Square) (P : ℕ → ℕ → Type 0) (test : ℕ → ℕ → Bool) → ((r c : ℕ) → Decides (test r c) (P r c)) → Decides (everywhere a test) ((r : ℕ) → r < a.side → (c : ℕ) → c < a.side → P r c)
decided_everywhere a P test d = decided_below (λ r. (c : ℕ) → c < a.side → P r c) a.side (λ r. all_below a.side (λ c. test r c)) (λ r. decided_below (P r) a.side (test r) (d r))

decided_small : (x y : ℕ) → Decides (nat_le x y) (x ≤ y)
decided_small x y = ((λ e. leb-true x y e), (λ h. le-leb x y h))

again_decided : (a : Square) (p : ℕ) → Decides (comes_again a p) ((r : ℕ) → r < a.side → (c : ℕ) → c < a.side → power_entry a (p + p) r c ≡ power_entry a p r c)
again_decided a p = decided_everywhere a (λ r c. power_entry a (p + p) r c ≡ power_entry a p r c) _ (λ r c. Decides-int_eq (power_entry a (p + p) r c) (power_entry a p r c))

small_decided : (a : Square) (p : ℕ) → Decides (stays_small a p) ((k : ℕ) → k < p + p → (r : ℕ) → r < a.side → (c : ℕ) → c < a.side → unsigned_abs (power_entry a (suc k) r c) ≤ 2 ^ 40)
small_decided a p = decided_below (λ k. (r : ℕ) → r < a.side → (c : ℕ) → c < a.side → unsigned_abs (power_entry a (suc k) r c) ≤ 2 ^ 40) (p + p) _ (λ k. decided_everywhere a (λ r c. unsigned_abs (power_entry a (suc k) r c) ≤ 2 ^ 40) _ (λ r c. decided_small (unsigned_abs (power_entry a (suc k) r c)) (2 ^ 40)))

told_power : (a : Square) (p : ℕ) → is_power a p ≡ true → IsPower a p
told_power a p e =
    let both = (both_decided (comes_again a p) (stays_small a p) (again_decided a p) (small_decided a p)).0 e in
    record { again = λ r c below beside. both.0 r below c beside; small = small both.1 }
  where
    small : ((k : ℕ) → k < p + p → (r : ℕ) → r < a.side → (c : ℕ) → c < a.side → unsigned_abs (power_entry a (suc k) r c) ≤ 2 ^ 40) → (k r c : ℕ) → 1 ≤ k → k ≤ p + p → r < a.side → c < a.side → unsigned_abs (power_entry a k r c) ≤ 2 ^ 40
    small h zero r c some few below beside = absurd (omega (arith, some))
    small h (suc k) r c some few below beside = h k (omega (arith, few)) r below c beside

tells_power : (a : Square) (p : ℕ) → IsPower a p → is_power a p ≡ true
tells_power a p h = (both_decided (comes_again a p) (stays_small a p) (again_decided a p) (small_decided a p)).1 ((λ r below c beside. h.again r c below beside), (λ k few r below c beside. h.small (suc k) r c (omega arith) (omega (arith, few)) below beside))

-- from a number that is not above the least power
found_from : (a : Square) (p : ℕ) → IsLeastPower a p → (q n : ℕ) → 1 ≤ q → q ≤ p → p < q + n → first_power a q n ≡ Some p
unfolding first_power
found_from a p h q zero some low high = absurd (omega (arith, low, high))
found_from a p h q (suc n) some low high = by (λ apart. found_from a p h (suc q) n (omega arith) (omega (arith, low, apart)) (omega (arith, high))) (is_power a q) refl
  where
    by : ((q ≡ p → ⊥) → first_power a (suc q) n ≡ Some p) → (b : Bool) → is_power a q ≡ b → cond b (Some q) (first_power a (suc q) n) ≡ Some p
    by rest true e = ap Some (here (nat_eq q p) refl)
      where
        here : (b : Bool) → nat_eq q p ≡ b → q ≡ p
        here true same = eqb-true q p same
        here false other = absurd (h.least q some (omega (arith, low, apart)) (told_power a q e))
          where
            apart : q ≡ p → ⊥
            apart s = true≢false (sym ((Decides-eqb q p).1 s) ∙ other)
    by rest false e = rest (λ s. true≢false (sym (tells_power a p h.power) ∙ ap (is_power a) (sym s) ∙ e))

-- the least power is found
pub least_is_found : (a : Square) (p : ℕ) → IsLeastPower a p → power_of a ≡ Some p
least_is_found a p h = found_from a p h 1 powers_limit (omega arith) h.some (omega (arith, h.few))
