-- Fewer turns than p: what a closure says of them.
use Rattle.std.proofs.Common.{◌≡◌, ℕ, ◌+◌, ◌*◌, Bool, true, false, List, [], ◌∷◌, ◌++◌, length, arith, refl, sym, ◌∙◌}
use Rattle.std.proofs.Math.IntN.{ℤ, pos, pos-*ℤ-pos}
use Rattle.std.specs.Prelude.{◌↔◌}
use Rattle.std.proofs.lemmas.Int.{ints}
use Rattle.lash_model.specs.Formulas.{Linear}
use Rattle.lash_model.specs.Meaning.{total, holds}
use Rattle.term_substitution.specs.Values.{term_value}
use Rattle.matrix_powers.specs.Orbits.{at_row}
use Rattle.loop_laws.specs.Turns.{Body, after}
use Rattle.loop_laws.specs.Closures.{gathered, guarded, equations, early_term, count_place, places_of, short_count, short}
use Rattle.loop_laws.proofs.Iterating.{iterated}
use Rattle.loop_laws.proofs.Allowing.{Allows, AreAllowed, after_is}
use Rattle.loop_laws.proofs.Joining.{AllHold, all_append, all_gathered}
use Rattle.loop_laws.proofs.TermVectors.{Stands, early_entries}
use Rattle.loop_laws.proofs.Parts.{guarded_means, equations_mean, equation_means}

-- the guard at the vector after k turns
pub early_guard : (l : Body) (d places k : ℕ) (x y ns : List ℤ) → length x ≡ l.matrix.side → Stands l.matrix.side places x y ns → holds (guarded l (early_term l k) places) ns d ↔ Allows l d x k
early_guard l d places k x y ns e s = guarded_means l d places (early_term l k) (iterated l d k x) ns s.count (early_entries l d places k x y ns e s)

-- and at each of the first n
pub early_guards : (l : Body) (d places n : ℕ) (x y ns : List ℤ) → length x ≡ l.matrix.side → Stands l.matrix.side places x y ns → AllHold (gathered (λ k. guarded l (early_term l k) places ∷ []) n) ns d ↔ AreAllowed l d x n
early_guards l d places n x y ns e s =
    let all = all_gathered (λ k. guarded l (early_term l k) places ∷ []) n ns d in
    (λ h k lt. (early_guard l d places k x y ns e s).0 (all.0 h k lt).0, λ h. all.1 (λ k lt. ((early_guard l d places k x y ns e s).1 (h k lt), tt)))

-- the number of turns, where it is asked for
abbrev pub IsCount : Bool → ℤ → ℕ → ℕ → Type 0
IsCount false c k d = Unit {0}
IsCount true c k d = c ≡ pos (k * d)

pub no_terms : (ns : List ℤ) → total [] ns ≡ pos 0
unfolding total
no_terms ns = refl

short_counted : (counted : Bool) (l : Body) (i d : ℕ) (ns : List ℤ) → length ns ≡ places_of counted l → AllHold (short_count counted l i) ns d ↔ IsCount counted (at_row ns (count_place l)) i d
short_counted false l i d ns e = (λ h. tt, λ h. tt)
short_counted true l i d ns e =
    let t : Linear = record { terms = []; constant = pos i } in
    let means = equation_means (count_place l) t (count_place l + 1) d ns e (omega arith) tt in
    let value : term_value ns d t ≡ pos (i * d) = omega (arith, ints, no_terms ns, pos-*ℤ-pos i d) in
    (λ h. means.0 h.0 ∙ value, λ h. (means.1 (h ∙ sym value), tt))

-- the first case says that i turns lead from x to y
pub short_means : (counted : Bool) (l : Body) (i d : ℕ) (x y ns : List ℤ) → length x ≡ l.matrix.side → length y ≡ l.matrix.side → Stands l.matrix.side (places_of counted l) x y ns → AllHold (short counted l i) ns d ↔ (after l d i x y × IsCount counted (at_row ns (count_place l)) i d)
short_means counted l i d x y ns e f s =
    let places = places_of counted l in
    let first = equations l (early_term l i) places in
    let guards = gathered (λ k. guarded l (early_term l k) places ∷ []) i in
    let parts = all_append (first ++ guards) (short_count counted l i) ns d in
    let turns = all_append first guards ns d in
    let equal = equations_mean l d places (early_term l i) (iterated l d i x) x y ns f s (early_entries l d places i x y ns e s) in
    let allowed = early_guards l d places i x y ns e s in
    let counts = short_counted counted l i d ns s.count in
    let leads = after_is l d i x y in (
      λ h. let p = parts.0 h in let q = turns.0 p.0 in (leads.1 (equal.0 q.0, allowed.0 q.1), counts.0 p.1),
      λ h. let p = leads.0 h.0 in parts.1 (turns.1 (equal.1 p.0, allowed.1 p.1), counts.1 h.1),
    )
