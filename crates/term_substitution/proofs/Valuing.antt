-- What a formula says after terms were put for its variables is what it says of the terms' values.
use Rattle.std.proofs.Common.{◌≡◌, ℕ, suc, ◌+◌, ◌-◌, ◌*◌, ◌<◌, List, [], ◌∷◌, ◌++◌, length, map, get_or, arith, refl, sym, ap, ◌∙◌, subst, nat_lt, inl, inr}
use Rattle.std.proofs.Math.IntN.{ℤ, pos, ◌+ℤ◌, ◌-ℤ◌, ◌*ℤ◌}
use Rattle.std.specs.List.{All}
use Rattle.std.specs.Prelude.{◌↔◌}
use Rattle.std.proofs.lemmas.Bool.{cond_both, ltb-true, ltb-false}
use Rattle.std.proofs.lemmas.Int.{ints}
use Rattle.std.proofs.lemmas.List.{get_or_append_left, get_or-append-add, get_or-append_right, get_or-map, length-map}
use Rattle.integer_laws.specs.Differences.{diff}
use Rattle.integer_laws.specs.Vectors.{scale}
use Rattle.integer_laws.proofs.Ring.{by_diff, diff_same, diff_sub, diff_mul, pos_diff, times_comm, times_assoc, times_sum, times_one, times_zero, sum_times}
use Rattle.lash_model.specs.Formulas.{Int, Real, Linear, Formula, Comparison, AtMost, Equal, Atom, Not, And, Or, Exists}
use Rattle.lash_model.specs.Meaning.{total, compares, holds}
use Rattle.lash_model.proofs.Totals.{total-scale}
use Rattle.formula_core.specs.Terms.{added}
use Rattle.formula_core.proofs.Adding.{total_added}
use Rattle.term_substitution.specs.Substitution.{zero_term, variable_term, image, with_scaled, with_images, constants_of, substituted_term, substituted}
use Rattle.term_substitution.specs.Values.{term_value}

total_scaled : (into : List (ℕ × ℤ)) (a : ℤ) (ts : List (ℕ × ℤ)) (ns : List ℤ) → total (with_scaled into a ts) ns ≡ total into ns +ℤ (a *ℤ total ts ns)
unfolding total
total_scaled into a [] ns = omega (arith, ints, times_zero a)
total_scaled into a (t ∷ ts) ns =
    let rec = total_scaled (added into t.0 (a *ℤ t.1)) a ts ns in
    let x = get_or ns t.0 (pos 0) in
    omega (arith, ints, rec, total_added into t.0 (a *ℤ t.1) ns, times_assoc a t.1 x, times_sum a (t.1 *ℤ x) (total ts ns))

-- the terms' values at one vector, with what they leave, are the entries of another
record Fills (terms : List Linear) (places : ℕ) (vs ws : List ℤ) (d : ℕ) : Type 0 where
  each : (place : ℕ) → term_value vs d (image terms places place) ≡ get_or ws place (pos 0)

zero_times : (y : ℤ) → pos 0 *ℤ y ≡ pos 0
zero_times y = times_comm (pos 0) y ∙ times_zero y

total_images : (terms : List Linear) (places : ℕ) (vs ws : List ℤ) (d : ℕ) (into ts : List (ℕ × ℤ)) → Fills terms places vs ws d → total (with_images terms places into ts) vs +ℤ (constants_of terms places ts *ℤ pos d) ≡ total into vs +ℤ total ts ws
unfolding total
total_images terms places vs ws d into [] h = omega (arith, ints, zero_times (pos d))
total_images terms places vs ws d into (t ∷ ts) h =
    let t' = image terms places t.0 in
    let rec = total_images terms places vs ws d (with_scaled into t.1 t'.terms) ts h in
    let c = t.1 *ℤ t'.constant in
    omega (arith, ints, rec, total_scaled into t.1 t'.terms vs, sum_times c (constants_of terms places ts) (pos d), times_assoc t.1 t'.constant (pos d), times_sum t.1 (total t'.terms vs) (t'.constant *ℤ pos d), ap (λ x. t.1 *ℤ x) (h.each t.0))

sub_times : (a b c : ℤ) → (a -ℤ b) *ℤ c ≡ (a *ℤ c) -ℤ (b *ℤ c)
sub_times a b c = by_diff (λ a. (a -ℤ b) *ℤ c ≡ (a *ℤ c) -ℤ (b *ℤ c)) (λ p q.
    by_diff (λ b. (diff p q -ℤ b) *ℤ c ≡ (diff p q *ℤ c) -ℤ (b *ℤ c)) (λ s t.
    by_diff (λ c. (diff p q -ℤ diff s t) *ℤ c ≡ (diff p q *ℤ c) -ℤ (diff s t *ℤ c)) (λ u v. simp (diff_sub, diff_mul) (diff_same _ _ _ _ (omega arith))) c) b) a

none : (ns : List ℤ) → total [] ns ≡ pos 0
unfolding total
none ns = refl

-- the two sides of an atom move by the same
moved : (terms : List Linear) (places : ℕ) (vs ws : List ℤ) (d : ℕ) (a : Linear) → Fills terms places vs ws d → total (substituted_term terms places a).terms vs +ℤ (a.constant *ℤ pos d) ≡ ((substituted_term terms places a).constant *ℤ pos d) +ℤ total a.terms ws
moved terms places vs ws d a h = omega (arith, ints, total_images terms places vs ws d [] a.terms h, none vs, sub_times a.constant (constants_of terms places a.terms) (pos d))

same_comparison : (kind : Comparison) (t c x y : ℤ) → t +ℤ y ≡ c +ℤ x → compares kind t c ↔ compares kind x y
same_comparison AtMost t c x y e = (λ h. omega (arith, ints, e, h), λ h. omega (arith, ints, e, h))
same_comparison Equal t c x y e = (λ h. omega (arith, ints, e, h), λ h. omega (arith, ints, e, h))

-- each term is over so many variables
abbrev AreOver : ℕ → List Linear → Type 0
AreOver places terms = All (λ t. All (λ s. s.0 < places) t.terms) terms

-- entries behind those of a term do not count
total_front : (ts : List (ℕ × ℤ)) (ns zs : List ℤ) → All (λ s. s.0 < length ns) ts → total ts (ns ++ zs) ≡ total ts ns
unfolding total
total_front [] ns zs h = refl
total_front (t ∷ ts) ns zs h = ap (λ x. (t.1 *ℤ x) +ℤ total ts (ns ++ zs)) (get_or_append_left ns zs (pos 0) t.0 (h 0 t (omega arith))) ∙ ap (λ s. (t.1 *ℤ get_or ns t.0 (pos 0)) +ℤ s) (total_front ts ns zs (λ k d lt. h (suc k) d (omega arith)))

variable_value : (place : ℕ) (vs : List ℤ) (d : ℕ) → term_value vs d (variable_term place) ≡ get_or vs place (pos 0)
unfolding total
variable_value place vs d = let x = get_or vs place (pos 0) in omega (arith, ints, times_comm (pos 1) x, times_one x, zero_times (pos d))

fills : (terms : List Linear) (places : ℕ) (ns zs : List ℤ) (d : ℕ) → length ns ≡ places → AreOver places terms → Fills terms places (ns ++ zs) (map (term_value ns d) terms ++ zs) d
fills terms places ns zs d count over = record { each = each }
  where
    each : (place : ℕ) → term_value (ns ++ zs) d (image terms places place) ≡ get_or (map (term_value ns d) terms ++ zs) place (pos 0)
    each place = cond_both (nat_lt place (length terms)) (get_or terms place zero_term) (variable_term (places + (place - length terms))) (λ t. term_value (ns ++ zs) d t ≡ get_or (map (term_value ns d) terms ++ zs) place (pos 0))
        (λ e. let lt = ltb-true place (length terms) e in
        ap (λ x. x +ℤ ((get_or terms place zero_term).constant *ℤ pos d)) (total_front (get_or terms place zero_term).terms ns zs (subst (λ n. All (λ s. s.0 < n) (get_or terms place zero_term).terms) (sym count) (over place zero_term lt)))
        ∙ sym (get_or-map (term_value ns d) terms place zero_term (pos 0) lt)
        ∙ sym (get_or_append_left (map (term_value ns d) terms) zs (pos 0) place (omega (arith, length-map terms (term_value ns d), lt))))
        (λ e. let le = ltb-false place (length terms) e in
        variable_value (places + (place - length terms)) (ns ++ zs) d
        ∙ ap (λ n. get_or (ns ++ zs) (n + (place - length terms)) (pos 0)) (sym count)
        ∙ get_or-append-add ns zs (place - length terms) (pos 0)
        ∙ sym (get_or-append_right (map (term_value ns d) terms) zs (length terms) place (pos 0) (length-map terms (term_value ns d)) le))

shift_denominator : (c d : ℕ) (b : ℤ) → b *ℤ pos (c * d) ≡ pos c *ℤ (b *ℤ pos d)
shift_denominator c d b = by_diff (λ b. b *ℤ pos (c * d) ≡ pos c *ℤ (b *ℤ pos d)) (λ p q. simp (pos_diff, diff_mul) (diff_same _ _ _ _ (omega arith))) b

value_scaled : (c : ℕ) (ns : List ℤ) (d : ℕ) (t : Linear) → term_value (scale c ns) (c * d) t ≡ pos c *ℤ term_value ns d t
value_scaled c ns d t = ap (λ x. x +ℤ (t.constant *ℤ pos (c * d))) (total-scale c t.terms ns) ∙ ap (λ x. (pos c *ℤ total t.terms ns) +ℤ x) (shift_denominator c d t.constant) ∙ sym (times_sum (pos c) (total t.terms ns) (t.constant *ℤ pos d))

values_scaled : (c : ℕ) (ns : List ℤ) (d : ℕ) (terms : List Linear) → map (term_value (scale c ns) (c * d)) terms ≡ scale c (map (term_value ns d) terms)
unfolding scale
values_scaled c ns d [] = refl
values_scaled c ns d (t ∷ ts) = ap (λ x. x ∷ map (term_value (scale c ns) (c * d)) ts) (value_scaled c ns d t) ∙ ap (λ xs. (pos c *ℤ term_value ns d t) ∷ xs) (values_scaled c ns d ts)

length-scale : (c : ℕ) (ns : List ℤ) → length (scale c ns) ≡ length ns
unfolding scale
length-scale c [] = refl
length-scale c (x ∷ ns) = ap suc (length-scale c ns)

scale_both : (c : ℕ) (ns zs : List ℤ) (m : ℤ) → scale c (ns ++ zs) ++ m ∷ [] ≡ scale c ns ++ (scale c zs ++ m ∷ [])
unfolding scale
scale_both c [] zs m = refl
scale_both c (x ∷ ns) zs m = ap (λ xs. (pos c *ℤ x) ∷ xs) (scale_both c ns zs m)

push_both : (ns zs : List ℤ) (m : ℤ) → (ns ++ zs) ++ m ∷ [] ≡ ns ++ (zs ++ m ∷ [])
push_both [] zs m = refl
push_both (x ∷ ns) zs m = ap (λ xs. x ∷ xs) (push_both ns zs m)

through : (f g : Formula) (vs us ws xs : List ℤ) (d : ℕ) → vs ≡ us → ws ≡ xs → holds g us d ↔ holds f xs d → holds g vs d ↔ holds f ws d
through f g vs us ws xs d e k h = (λ y. subst (λ v. holds f v d) (sym k) (h.0 (subst (λ v. holds g v d) e y)), λ y. subst (λ v. holds g v d) (sym e) (h.1 (subst (λ v. holds f v d) k y)))

-- with further entries behind the vector, which the bound variables name
means : (f : Formula) (terms : List Linear) (places : ℕ) (ns zs : List ℤ) (d : ℕ) → length ns ≡ places → AreOver places terms → holds (substituted f terms places) (ns ++ zs) d ↔ holds f (map (term_value ns d) terms ++ zs) d
unfolding holds
means (Atom kind a) terms places ns zs d count over = same_comparison kind _ _ _ _ (moved terms places (ns ++ zs) (map (term_value ns d) terms ++ zs) d a (fills terms places ns zs d count over))
means (Not f) terms places ns zs d count over = let rec = means f terms places ns zs d count over in (λ h k. h (rec.1 k), λ h k. h (rec.0 k))
means (And f g) terms places ns zs d count over = let one = means f terms places ns zs d count over in let other = means g terms places ns zs d count over in (λ h. (one.0 h.0, other.0 h.1), λ h. (one.1 h.0, other.1 h.1))
means (Or f g) terms places ns zs d count over = let one = means f terms places ns zs d count over in let other = means g terms places ns zs d count over in (λ h. elim h [ inl x ↦ inl (one.0 x) | inr y ↦ inr (other.0 y) ], λ h. elim h [ inl x ↦ inl (one.1 x) | inr y ↦ inr (other.1 y) ])
means (Exists Int f) terms places ns zs d count over =
    let vals = map (term_value ns d) terms in
    let rec : (m : ℤ) → holds (substituted f terms places) ((ns ++ zs) ++ (m *ℤ pos d) ∷ []) d ↔ holds f ((vals ++ zs) ++ (m *ℤ pos d) ∷ []) d = λ m.
    through f (substituted f terms places) _ _ _ _ d (push_both ns zs (m *ℤ pos d)) (push_both vals zs (m *ℤ pos d)) (means f terms places ns (zs ++ (m *ℤ pos d) ∷ []) d count over) in
    (λ h. (h.0, (rec h.0).0 h.1), λ h. (h.0, (rec h.0).1 h.1))
means (Exists Real f) terms places ns zs d count over =
    let vals = map (term_value ns d) terms in
    let rec : (e : ℕ) (m : ℤ) → holds (substituted f terms places) (scale (suc e) (ns ++ zs) ++ m ∷ []) (suc e * d) ↔ holds f (scale (suc e) (vals ++ zs) ++ m ∷ []) (suc e * d) = λ e m.
    through f (substituted f terms places) _ _ _ _ (suc e * d) (scale_both (suc e) ns zs m) (scale_both (suc e) vals zs m ∙ ap (λ xs. xs ++ (scale (suc e) zs ++ m ∷ [])) (sym (values_scaled (suc e) ns d terms)))
    (means f terms places (scale (suc e) ns) (scale (suc e) zs ++ m ∷ []) (suc e * d) (length-scale (suc e) ns ∙ count) over) in
    (λ h. (h.0, (h.1.0, (rec h.0 h.1.0).0 h.1.1)), λ h. (h.0, (h.1.0, (rec h.0 h.1.0).1 h.1.1)))

append_none : (xs : List ℤ) → xs ++ [] ≡ xs
append_none [] = refl
append_none (x ∷ xs) = ap (λ ys. x ∷ ys) (append_none xs)

pub replaces_values : (f : Formula) (terms : List Linear) (places : ℕ) (ns : List ℤ) (d : ℕ) → length ns ≡ places → AreOver places terms → holds (substituted f terms places) ns d ↔ holds f (map (term_value ns d) terms) d
replaces_values f terms places ns d count over = through f (substituted f terms places) ns (ns ++ []) (map (term_value ns d) terms) (map (term_value ns d) terms ++ []) d (sym (append_none ns)) (sym (append_none (map (term_value ns d) terms))) (means f terms places ns [] d count over)
