-- The total of a comparison's coefficients is the difference of its terms' values, up to the constants.
use Rattle.std.proofs.Common.{◌≡◌, ℕ, List, [], ◌∷◌, arith, refl, ap, ◌∙◌, Bool, true, false, Option, None, Some}
use Rattle.std.proofs.Math.IntN.{ℤ, pos, neg_ℤ, ◌+ℤ◌, ◌-ℤ◌, ◌*ℤ◌}
use Rattle.std.specs.Prelude.{◌≤ℤ◌, ◌<ℤ◌, not, ◌↔◌}
use Rattle.std.proofs.lemmas.Int.{ints}
use Rattle.integer_laws.specs.Differences.{diff}
use Rattle.integer_laws.proofs.Ring.{by_diff, diff_same, diff_sub, diff_mul, times_comm, times_one, times_zero, sum_times}
use Rattle.lash_model.specs.Meaning.{total, holds}
use Rattle.formula_core.proofs.Adding.{total_added}
use Rattle.script_grammar.specs.Views.{Relation, AtMost, Below, AtLeast, Above, Equal, Unequal}
use Rattle.script_syntax.specs.Trees.{PartShape, Constant, Scaled, Variable, SignedShape}
use Rattle.script_names.specs.Scopes.{Scope, place_of}
use Rattle.script_meaning.specs.Core.{signed, turned, added_at, with_part, with_term, part_constant, constant_of, difference, compared}
use Rattle.script_meaning.specs.Values.{entry_at, part_value, with_minus, value_of, Compares}

neg_times : (x y : ℤ) → neg_ℤ x *ℤ y ≡ neg_ℤ (x *ℤ y)
neg_times x y = omega (arith, ints, sum_times x (neg_ℤ x) y, zero_sum x y)
  where
    zero_sum : (x y : ℤ) → (x +ℤ neg_ℤ x) *ℤ y ≡ pos 0
    zero_sum x y = let e : x +ℤ neg_ℤ x ≡ pos 0 = omega (arith, ints) in ap (λ z. z *ℤ y) e ∙ times_comm (pos 0) y ∙ times_zero y

-- a number with its sign, times another
signed_times : (minus : Bool) (n : ℕ) (y : ℤ) → signed minus n *ℤ y ≡ with_minus minus (pos n *ℤ y)
signed_times true n y = neg_times (pos n) y
signed_times false n y = refl

zero_times : (y : ℤ) → pos 0 *ℤ y ≡ pos 0
zero_times y = times_comm (pos 0) y ∙ times_zero y

one_times : (y : ℤ) → pos 1 *ℤ y ≡ y
one_times y = times_comm (pos 1) y ∙ times_one y

-- what is added at a place adds its product with the entry to the total
total_at : (ts : List (ℕ × ℤ)) (o : Option ℕ) (c : ℤ) (ns : List ℤ) → total (added_at ts o c) ns ≡ total ts ns +ℤ (c *ℤ entry_at ns o)
total_at ts None c ns = omega (arith, ints, times_zero c)
total_at ts (Some place) c ns = total_added ts place c ns

-- a part adds its value, but for its constant
total_part : (scope : Scope) (ts : List (ℕ × ℤ)) (minus : Bool) (p : PartShape) (ns : List ℤ) (d : ℕ) → total (with_part scope ts minus p) ns +ℤ (part_constant minus p *ℤ pos d) ≡ total ts ns +ℤ with_minus minus (part_value scope ns d p)
total_part scope ts minus (Constant n) ns d = omega (arith, ints, signed_times minus n (pos d))
total_part scope ts minus (Scaled n name) ns d = omega (arith, ints, zero_times (pos d), total_at ts (place_of scope name.left) (signed minus n) ns, signed_times minus n (entry_at ns (place_of scope name.left)))
total_part scope ts minus (Variable name) ns d = let e = entry_at ns (place_of scope name.left) in omega (arith, ints, zero_times (pos d), total_at ts (place_of scope name.left) (signed minus 1) ns, signed_times minus 1 e, ap (with_minus minus) (one_times e))

minus_turned : (minus : Bool) (x : ℤ) → with_minus (not minus) x ≡ neg_ℤ (with_minus minus x)
minus_turned true x = omega (arith, ints)
minus_turned false x = refl

constant_turned : (minus : Bool) (p : PartShape) → part_constant (not minus) p ≡ neg_ℤ (part_constant minus p)
constant_turned true (Constant n) = omega (arith, ints)
constant_turned false (Constant n) = refl
constant_turned minus (Scaled n name) = omega (arith, ints)
constant_turned minus (Variable name) = omega (arith, ints)

turned_true : (minus : Bool) → turned true minus ≡ not minus
turned_true true = refl
turned_true false = refl

turned_false : (minus : Bool) → turned false minus ≡ minus
turned_false true = refl
turned_false false = refl

-- a term adds its value, but for its constants
pub total_term : (scope : Scope) (ts : List (ℕ × ℤ)) (ss : List SignedShape) (ns : List ℤ) (d : ℕ) → total (with_term scope false ts ss) ns +ℤ (constant_of ss *ℤ pos d) ≡ total ts ns +ℤ value_of scope ns d ss
total_term scope ts [] ns d = omega (arith, ints, zero_times (pos d))
total_term scope ts (s ∷ ss) ns d = rw (turned_false s.minus) (let rec = total_term scope (with_part scope ts s.minus s.part) ss ns d in omega (arith, ints, rec, total_part scope ts s.minus s.part ns d, sum_times (part_constant s.minus s.part) (constant_of ss) (pos d)))

-- a turned term takes it away
total_turned : (scope : Scope) (ts : List (ℕ × ℤ)) (ss : List SignedShape) (ns : List ℤ) (d : ℕ) → total (with_term scope true ts ss) ns +ℤ value_of scope ns d ss ≡ total ts ns +ℤ (constant_of ss *ℤ pos d)
total_turned scope ts [] ns d = omega (arith, ints, zero_times (pos d))
total_turned scope ts (s ∷ ss) ns d = rw (turned_true s.minus) (let rec = total_turned scope (with_part scope ts (not s.minus) s.part) ss ns d in
    omega (arith, ints, rec, total_part scope ts (not s.minus) s.part ns d, minus_turned s.minus (part_value scope ns d s.part), ap (λ c. c *ℤ pos d) (constant_turned s.minus s.part), neg_times (part_constant s.minus s.part) (pos d), sum_times (part_constant s.minus s.part) (constant_of ss) (pos d)))

pub none : (ns : List ℤ) → total [] ns ≡ pos 0
unfolding total
none ns = refl

sub_times : (a b c : ℤ) → (a -ℤ b) *ℤ c ≡ (a *ℤ c) -ℤ (b *ℤ c)
sub_times a b c = by_diff (λ a. (a -ℤ b) *ℤ c ≡ (a *ℤ c) -ℤ (b *ℤ c)) (λ p q.
    by_diff (λ b. (diff p q -ℤ b) *ℤ c ≡ (diff p q *ℤ c) -ℤ (b *ℤ c)) (λ s t.
    by_diff (λ c. (diff p q -ℤ diff s t) *ℤ c ≡ (diff p q *ℤ c) -ℤ (diff s t *ℤ c)) (λ u v. simp (diff_sub, diff_mul) (diff_same _ _ _ _ (omega arith))) c) b) a

-- the total of the atom of left - right, less its constant, is the left value less the right one
total_difference : (scope : Scope) (a b : List SignedShape) (ns : List ℤ) (d : ℕ) → total (difference scope a b).terms ns +ℤ value_of scope ns d b ≡ ((difference scope a b).constant *ℤ pos d) +ℤ value_of scope ns d a
total_difference scope a b ns d = omega (arith, ints, total_turned scope (with_term scope false [] a) b ns d, total_term scope [] a ns d, none ns, sub_times (constant_of b) (constant_of a) (pos d))

at_most : (t c x y : ℤ) → t +ℤ y ≡ c +ℤ x → (t ≤ℤ c) ↔ (x ≤ℤ y)
at_most t c x y e = (λ h. omega (arith, ints, e, h), λ h. omega (arith, ints, e, h))

above : (t c x y : ℤ) → t +ℤ y ≡ c +ℤ x → (t ≤ℤ c → ⊥) ↔ (y <ℤ x)
above t c x y e = (λ h. grind (arith, ints), λ h k. omega (arith, ints, e, h, k))

equal : (t c x y : ℤ) → t +ℤ y ≡ c +ℤ x → (t ≡ c) ↔ (x ≡ y)
equal t c x y e = (λ h. omega (arith, ints, e, h), λ h. omega (arith, ints, e, h))

unequal : (t c x y : ℤ) → t +ℤ y ≡ c +ℤ x → (t ≡ c → ⊥) ↔ (x ≡ y → ⊥)
unequal t c x y e = (λ h k. h ((equal t c x y e).1 k), λ h k. h ((equal t c x y e).0 k))

pub compared_values : (scope : Scope) (a : List SignedShape) (r : Relation) (b : List SignedShape) (ns : List ℤ) (d : ℕ) → holds (compared scope a r b) ns d ↔ Compares r (value_of scope ns d a) (value_of scope ns d b)
unfolding holds
compared_values scope a AtMost b ns d = at_most _ _ _ _ (total_difference scope a b ns d)
compared_values scope a Below b ns d = above _ _ _ _ (total_difference scope b a ns d)
compared_values scope a AtLeast b ns d = at_most _ _ _ _ (total_difference scope b a ns d)
compared_values scope a Above b ns d = above _ _ _ _ (total_difference scope a b ns d)
compared_values scope a Equal b ns d = equal _ _ _ _ (total_difference scope a b ns d)
compared_values scope a Unequal b ns d = unequal _ _ _ _ (total_difference scope a b ns d)
