-- What the parts of a closure say: that a variable is a term's value, that y is a vector, and that the guard holds of a vector.
use Rattle.std.proofs.Common.{◌≡◌, ℕ, zero, suc, ◌+◌, ◌<◌, List, [], ◌∷◌, length, map, arith, sym, ap, ◌∙◌, subst, get_or}
use mathlib.Core.Logic.{inl, inr}
use Rattle.std.proofs.Math.IntN.{ℤ, pos, negsuc, ◌+ℤ◌, ◌*ℤ◌}
use Rattle.std.specs.List.{All, AllByRecursion}
use Rattle.std.specs.Prelude.{◌↔◌}
use Rattle.std.proofs.lemmas.Bool.{cases_lt}
use Rattle.std.proofs.lemmas.Int.{ints}
use Rattle.std.proofs.lemmas.List.{length-map, get_or-map, get_or_append_left, get_or_push, ext_get_or}
use Rattle.std.proofs.lemmas.List.Elements.{All-from_recursion}
use Rattle.integer_laws.proofs.Ring.{sum_times}
use Rattle.lash_model.specs.Formulas.{Linear}
use Rattle.lash_model.specs.Meaning.{total, holds}
use Rattle.term_substitution.specs.Substitution.{variable_term, zero_term}
use Rattle.term_substitution.specs.Values.{term_value}
use Rattle.term_substitution.proofs.Reaching.{AreBelow}
use Rattle.term_substitution.proofs.Valuing.{replaces_values}
use Rattle.matrix_powers.specs.Orbits.{at_row}
use Rattle.loop_laws.specs.Turns.{Body}
use Rattle.loop_laws.specs.Closures.{gathered, same, equation, equations, guarded}
use Rattle.loop_laws.proofs.Sums.{zero_times, one_times}
use Rattle.loop_laws.proofs.TermVectors.{Stands, AreEntries}
use Rattle.loop_laws.proofs.Joining.{AllHold, all_gathered, length-gathered}

get_or_gathered : {A : Type 0} (f : ℕ → A) (n i : ℕ) (d : A) → i < n → get_or (gathered (λ k. f k ∷ []) n) i d ≡ f i
unfolding gathered
get_or_gathered f zero i d lt = absurd (omega (arith, lt))
get_or_gathered f (suc n) i d lt = elim (cases_lt i n) [
  | inl below ↦ get_or_append_left (gathered (λ k. f k ∷ []) n) (f n ∷ []) d i (omega (arith, below, length-gathered f n)) ∙ get_or_gathered f n i d below
  | inr above ↦ get_or_push (gathered (λ k. f k ∷ []) n) (f n) d i (omega (arith, above, lt, length-gathered f n)) ∙ ap f (omega (arith, above, lt))
]

values_are : (ns : List ℤ) (d n places : ℕ) (term : ℕ → Linear) (z : List ℤ) → AreEntries ns d n places term z → map (term_value ns d) (gathered (λ row. term row ∷ []) n) ≡ z
values_are ns d n places term z h = ext_get_or (pos 0) _ z (whole ∙ sym h.whole) (λ i lt. entry i (omega (arith, lt, whole)))
  where
    whole : length (map (term_value ns d) (gathered (λ row. term row ∷ []) n)) ≡ n
    whole = length-map (gathered (λ row. term row ∷ []) n) (term_value ns d) ∙ length-gathered term n

    entry : (i : ℕ) → i < n → get_or (map (term_value ns d) (gathered (λ row. term row ∷ []) n)) i (pos 0) ≡ get_or z i (pos 0)
    entry i lt = get_or-map (term_value ns d) (gathered (λ row. term row ∷ []) n) i zero_term (pos 0) (omega (arith, lt, length-gathered term n)) ∙ ap (term_value ns d) (get_or_gathered term n i zero_term lt) ∙ h.each i lt

terms_below : (ns : List ℤ) (d n places : ℕ) (term : ℕ → Linear) (z : List ℤ) → AreEntries ns d n places term z → All (λ t. All (λ s. s.0 < places) t.terms) (gathered (λ row. term row ∷ []) n)
terms_below ns d n places term z h k t lt =
    let inside : k < n = omega (arith, lt, length-gathered term n) in
    subst (λ u. All (λ s. s.0 < places) u.terms) (sym (get_or_gathered term n k t inside)) (All-from_recursion _ _ (h.below k inside))

-- the guard holds of the vector of the terms' values
pub guarded_means : (l : Body) (d places : ℕ) (term : ℕ → Linear) (z ns : List ℤ) → length ns ≡ places → AreEntries ns d l.matrix.side places term z → holds (guarded l term places) ns d ↔ holds l.guard z d
guarded_means l d places term z ns count h =
    let means = replaces_values l.guard (gathered (λ row. term row ∷ []) l.matrix.side) places ns d count (terms_below ns d l.matrix.side places term z h) in
    let values = values_are ns d l.matrix.side places term z h in
    (λ y. subst (λ v. holds l.guard v d) values (means.0 y), λ y. means.1 (subst (λ v. holds l.guard v d) (sym values) y))

pub minus_times : (v : ℤ) → (negsuc 0 *ℤ v) +ℤ v ≡ pos 0
minus_times v = ap (λ k. (negsuc 0 *ℤ v) +ℤ k) (sym (one_times v)) ∙ sym (sum_times (negsuc 0) (pos 1) v) ∙ zero_times v

same_means : (u v : ℤ) (d : ℕ) → holds same (u ∷ v ∷ []) d ↔ (u ≡ v)
unfolding holds total
same_means u v d = (λ h. omega (arith, ints, h, one_times u, minus_times v, zero_times (pos d)), λ h. omega (arith, ints, h, one_times u, minus_times v, zero_times (pos d)))

variable_value : (place : ℕ) (ns : List ℤ) (d : ℕ) → term_value ns d (variable_term place) ≡ at_row ns place
unfolding total
variable_value place ns d = omega (arith, ints, one_times (at_row ns place), zero_times (pos d))

-- the variable at the place is the term's value
pub equation_means : (place : ℕ) (t : Linear) (places d : ℕ) (ns : List ℤ) → length ns ≡ places → place < places → AreBelow places t.terms → holds (equation place t places) ns d ↔ (at_row ns place ≡ term_value ns d t)
equation_means place t places d ns count lt below =
    let means = replaces_values same (variable_term place ∷ t ∷ []) places ns d count (All-from_recursion (λ u. All (λ s. s.0 < places) u.terms) (variable_term place ∷ t ∷ []) over) in
    let known = same_means (term_value ns d (variable_term place)) (term_value ns d t) d in
    let value = variable_value place ns d in
    (λ h. sym value ∙ known.0 (means.0 h), λ h. means.1 (known.1 (value ∙ h)))
  where
    over : AllByRecursion (λ t. All (λ s. s.0 < places) t.terms) (variable_term place ∷ t ∷ [])
    over = let one : AreBelow places ((place, pos 1) ∷ []) = (lt, tt) in (All-from_recursion (λ s. s.0 < places) ((place, pos 1) ∷ []) one, (All-from_recursion (λ s. s.0 < places) t.terms below, tt))

-- y is the vector of the terms' values
pub equations_mean : (l : Body) (d places : ℕ) (term : ℕ → Linear) (z x y ns : List ℤ) → length y ≡ l.matrix.side → Stands l.matrix.side places x y ns → AreEntries ns d l.matrix.side places term z → AllHold (equations l term places) ns d ↔ (z ≡ y)
equations_mean l d places term z x y ns e s h = (to, from)
  where
    one : (row : ℕ) → row < l.matrix.side → holds (equation (l.matrix.side + row) (term row) places) ns d ↔ (at_row ns (l.matrix.side + row) ≡ term_value ns d (term row))
    one row lt = equation_means (l.matrix.side + row) (term row) places d ns s.count (omega (arith, lt, s.room)) (h.below row lt)

    each : AllHold (equations l term places) ns d ↔ ((row : ℕ) → row < l.matrix.side → AllHold (equation (l.matrix.side + row) (term row) places ∷ []) ns d)
    each = all_gathered (λ row. equation (l.matrix.side + row) (term row) places ∷ []) l.matrix.side ns d

    to : AllHold (equations l term places) ns d → z ≡ y
    to k = ext_get_or (pos 0) z y (h.whole ∙ sym e) (λ row lt. let inside : row < l.matrix.side = omega (arith, lt, h.whole) in sym (h.each row inside) ∙ sym ((one row inside).0 (each.0 k row inside).0) ∙ s.second row inside)

    from : z ≡ y → AllHold (equations l term places) ns d
    from k = each.1 (λ row lt. ((one row lt).1 (s.second row lt ∙ ap (λ v. at_row v row) (sym k) ∙ sym (h.each row lt)), tt))
