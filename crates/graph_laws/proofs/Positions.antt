-- Positions: they follow keys, and each is the position after its own path.
use Rattle.std.proofs.Common.{◌≡◌, ℕ, zero, suc, ◌+◌, ◌*◌, ◌/◌, ◌%◌, ◌<◌, List, [], ◌∷◌, length, slice_get, slice_index, All, inl, inr, arith, sym, ap, ◌∙◌, subst}
use Rattle.std.specs.declared.option.Option.TheVariants.{Some}
use Rattle.std.specs.List.{slice_index_or, AllByRecursion}
use Rattle.std.proofs.lemmas.Option.{slice_get_within, get_or_from_slice_get, slice_get-get_or}
use Rattle.std.proofs.lemmas.Bool.{cases_order}
use Rattle.std.proofs.lemmas.List.Elements.{All-from_get_or}
use Rattle.std.proofs.lemmas.Nat.{div_below, mod_below, div-add-mod'}
use Rattle.graph_laws.specs.Walks.{go}
use Rattle.graph_laws.specs.Paths.{path_at}
use Rattle.graph_laws.specs.Exploring.{Steps, list_at, led, IsDistinct, KeyTable, position, IsExplored}
use Rattle.graph_laws.proofs.Weighing.{table_reached}

-- the position after a word holds the key after the word
pub positions_follow : (m : Steps) (limit : ℕ) (t : KeyTable) → IsExplored m limit t → (q : ℕ) (k w : List ℕ) → AllByRecursion (λ l. l < t.width) w → slice_get t.keys q ≡ Some k → slice_get t.keys (go t.rows t.width q w) ≡ Some (led m.step k w)
positions_follow m limit t e q k [] a h = h
positions_follow m limit t e q k (l ∷ w) a h = positions_follow m limit t e (slice_index t.rows (q * t.width + l)) (m.step k l) w a.1
    (e.leads q l (slice_get_within t.keys q k h) a.0 ∙ ap (λ y. Some (m.step y l)) (get_or_from_slice_get t.keys q k [] h))

-- a key has one place
same_place : (ks : List (List ℕ)) (k : List ℕ) (p q : ℕ) → IsDistinct ks → slice_get ks p ≡ Some k → slice_get ks q ≡ Some k → p ≡ q
same_place ks k p q d e f = elim (cases_order p q) [ inl same ↦ same | inr other ↦ elim other [ inl lt ↦ absurd (d p q [] lt (slice_get_within ks q k f) (at p e ∙ sym (at q f))) | inr gt ↦ absurd (d q p [] gt (slice_get_within ks p k e) (at q f ∙ sym (at p e))) ] ]
  where
    at : (i : ℕ) → slice_get ks i ≡ Some k → slice_index_or ks i [] ≡ k
    at i h = get_or_from_slice_get ks i k [] h

-- the path that is listed for a position leads to that position
pub own_position : (m : Steps) (limit : ℕ) (t : KeyTable) (e : IsExplored m limit t) (i : ℕ) → i < length t.keys → position t (path_at e.paths i) ≡ i
unfolding table_reached
own_position m limit t e i lt =
    let r = table_reached m limit t e i [] lt in
    same_place t.keys (list_at t.keys i) (position t (path_at e.paths i)) i e.distinct (e.complete r.path r.valid ∙ ap (λ k. Some k) r.leads) (slice_get-get_or t.keys i [] lt)

-- starts are positions of keys
pub starts_in : (m : Steps) (limit : ℕ) (t : KeyTable) → IsExplored m limit t → All (λ p. p < length t.keys) t.starts
starts_in m limit t e = All-from_get_or (λ p. p < length t.keys) t.starts 0 (λ j lt. slice_get_within t.keys (slice_index t.starts j) (list_at m.starts j) (e.begins j (omega (arith, lt, e.starts_count))))

-- and so are the entries of rows
target_in : (m : Steps) (limit : ℕ) (t : KeyTable) → IsExplored m limit t → (k : ℕ) → k < length t.keys * t.width → 0 < t.width → slice_index t.rows k < length t.keys
target_in m limit t e k lt some =
    let row = div_below k t.width (length t.keys) some lt in
    let column = mod_below k t.width some in
    subst (λ n. slice_index t.rows n < length t.keys) (div-add-mod' k t.width)
    (slice_get_within t.keys (slice_index t.rows (k / t.width * t.width + k % t.width)) (m.step (list_at t.keys (k / t.width)) (k % t.width)) (e.leads (k / t.width) (k % t.width) row column))

some_width : (k n w : ℕ) → k < n * w → 0 < w
some_width k n zero lt = absurd (omega (arith, lt))
some_width k n (suc w) lt = omega arith

pub targets_in : (m : Steps) (limit : ℕ) (t : KeyTable) → IsExplored m limit t → All (λ p. p < length t.keys) t.rows
targets_in m limit t e = All-from_get_or (λ p. p < length t.keys) t.rows 0 (λ k lt.
    let inside : k < length t.keys * t.width = omega (arith, lt, e.rows_count) in
    target_in m limit t e k inside (some_width k (length t.keys) t.width inside))
