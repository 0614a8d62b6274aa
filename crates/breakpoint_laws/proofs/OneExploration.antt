-- A machine has one exploration: its keys are listed by their least paths, and everything else follows from the keys.
use Rattle.std.proofs.Common.{◌≡◌, ℕ, zero, suc, ◌+◌, ◌*◌, ◌/◌, ◌%◌, ◌-◌, ◌<◌, List, [], ◌∷◌, length, map, slice_get, slice_index, arith, inl, inr, refl, sym, ap, ap₂, ◌∙◌, subst}
use Rattle.std.specs.declared.option.Option.TheVariants.{Some}
use Rattle.std.specs.List.{slice_index_or}
use Rattle.std.proofs.lemmas.Bool.{cases_order}
use Rattle.std.proofs.lemmas.List.{length-map, get_or-map, ext_get_or}
use Rattle.std.proofs.lemmas.Nat.{div_below, mod_below, div-add-mod'}
use Rattle.std.proofs.lemmas.Option.{slice_get_within, get_or_from_slice_get}
use Rattle.graph_laws.specs.Paths.{Path, Before, AtMost, path_at, start_path, IsRising}
use Rattle.graph_laws.specs.Paths.Before.{shorter, lower, earlier}
use Rattle.graph_laws.specs.Paths.{first}
use Rattle.graph_laws.specs.Exploring.{Steps, KeyTable, list_at, after, weigh, IsPath, IsDistinct, position, IsExplored, led_by, IsExploredInTwo}
use Rattle.graph_laws.proofs.PathOrder.{chained}
use Rattle.graph_laws.proofs.Positions.{own_position}

-- ---- the order of paths
not_first : (w : List ℕ) → first w w → ⊥
not_first [] h = h
not_first (a ∷ w) (inl h) = omega (arith, h)
not_first (a ∷ w) (inr h) = not_first w h.1

not_before : (x : Path) → Before x x → ⊥
not_before x (shorter h) = omega (arith, h)
not_before x (lower e h) = omega (arith, h)
not_before x (earlier e s h) = not_first x.word h

at_most_both : (x y : Path) → AtMost x y → AtMost y x → x ≡ y
at_most_both x y (inl e) k = e
at_most_both x y (inr h) (inl e) = sym e
at_most_both x y (inr h) (inr k) = absurd (not_before x (chained x y x h k))

-- ---- rising lists with the same members are one
record HasPath (ps : List Path) (x : Path) : Type 0 where
  at : ℕ
  inside : at < length ps
  is : path_at ps at ≡ x

are_members : List Path → List Path → Type 0
are_members xs ys = (i : ℕ) → i < length xs → HasPath ys (path_at xs i)

tail_rises : (x : Path) (xs : List Path) → IsRising (x ∷ xs) → IsRising xs
tail_rises x xs r i j d lt inside = r (suc i) (suc j) d (omega (arith, lt)) (omega (arith, inside))

first_upto : (x : Path) (xs : List Path) → IsRising (x ∷ xs) → (z : Path) → HasPath (x ∷ xs) z → AtMost x z
first_upto x xs r z h = by h.at h.inside h.is
  where
    by : (k : ℕ) → k < length (x ∷ xs) → path_at (x ∷ xs) k ≡ z → AtMost x z
    by zero inside e = inl e
    by (suc k) inside e = inr (subst (Before x) e (r zero (suc k) (start_path 0) (omega arith) inside))

in_tail : (x y : Path) (xs ys : List Path) → x ≡ y → IsRising (x ∷ xs) → are_members (x ∷ xs) (y ∷ ys) → are_members xs ys
unfolding are_members
in_tail x y xs ys e r m i lt = by h.at h.inside h.is
  where
    h : HasPath (y ∷ ys) (path_at xs i)
    h = m (suc i) (omega (arith, lt))

    by : (k : ℕ) → k < length (y ∷ ys) → path_at (y ∷ ys) k ≡ path_at xs i → HasPath ys (path_at xs i)
    by zero inside f = absurd (not_before x (subst (Before x) (sym (e ∙ f)) (r zero (suc i) (start_path 0) (omega arith) (omega (arith, lt)))))
    by (suc k) inside f = record { at = k; inside = omega (arith, inside); is = f }

one_rising_list : (xs ys : List Path) → IsRising xs → IsRising ys → are_members xs ys → are_members ys xs → xs ≡ ys
unfolding are_members
one_rising_list [] [] r s m n = refl
one_rising_list [] (y ∷ ys) r s m n = absurd (omega (arith, (n zero (omega arith)).inside))
one_rising_list (x ∷ xs) [] r s m n = absurd (omega (arith, (m zero (omega arith)).inside))
one_rising_list (x ∷ xs) (y ∷ ys) r s m n =
    let same : x ≡ y = at_most_both x y (first_upto x xs r y (n zero (omega arith))) (first_upto y ys s x (m zero (omega arith))) in
    ap₂ (λ z zs. z ∷ zs) same
    (one_rising_list xs ys (tail_rises x xs r) (tail_rises y ys s) (in_tail x y xs ys same r m) (in_tail y x ys xs (sym same) s n))

-- ---- a key has one place
one_place : (ks : List (List ℕ)) (k : List ℕ) (p q : ℕ) → IsDistinct ks → slice_get ks p ≡ Some k → slice_get ks q ≡ Some k → p ≡ q
one_place ks k p q d e f = elim (cases_order p q) [
  | inl same ↦ same
  | inr other ↦ elim other [
    | inl lt ↦ absurd (d p q [] lt (slice_get_within ks q k f) (at p e ∙ sym (at q f)))
    | inr gt ↦ absurd (d q p [] gt (slice_get_within ks p k e) (at q f ∙ sym (at p e)))
  ]
]
  where
    at : (i : ℕ) → slice_get ks i ≡ Some k → slice_index_or ks i [] ≡ k
    at i h = get_or_from_slice_get ks i k [] h

-- ---- each least path of the one exploration is one of the other
path_too : (m : Steps) (limit other : ℕ) (a b : KeyTable) (ea : IsExplored m limit a) (eb : IsExplored m other b) → are_members ea.paths eb.paths
unfolding are_members
path_too m limit other a b ea eb i lt = record { at = j; inside = j_in; is = at_most_both q p (eb.least p p_valid) (subst (λ k. AtMost (path_at ea.paths k) q) home (ea.least q q_valid)) }
  where
    p : Path
    p = path_at ea.paths i

    p_valid : IsPath m p
    p_valid = ea.valid i (start_path 0) lt

    i_in : i < length a.keys
    i_in = subst (λ n. i < n) (sym (ap length ea.reached ∙ length-map ea.paths (after m))) lt

    j : ℕ
    j = position b p

    j_in : j < length eb.paths
    j_in = subst (λ n. j < n) (ap length eb.reached ∙ length-map eb.paths (after m)) (slice_get_within b.keys j (after m p) (eb.complete p p_valid))

    q : Path
    q = path_at eb.paths j

    q_valid : IsPath m q
    q_valid = eb.valid j (start_path 0) j_in

    one_key : after m q ≡ after m p
    one_key = sym (ap (λ ks. list_at ks j) eb.reached ∙ get_or-map (after m) eb.paths j (start_path 0) [] j_in)
        ∙ get_or_from_slice_get b.keys j (after m p) [] (eb.complete p p_valid)

    home : position a q ≡ i
    home = one_place a.keys (after m p) (position a q) (position a p) ea.distinct (ea.complete q q_valid ∙ ap (λ k. Some k) one_key) (ea.complete p p_valid)
        ∙ own_position m limit a ea i i_in

pub same_paths : (m : Steps) (limit other : ℕ) (a b : KeyTable) (ea : IsExplored m limit a) (eb : IsExplored m other b) → ea.paths ≡ eb.paths
same_paths m limit other a b ea eb =
    one_rising_list ea.paths eb.paths ea.rising eb.rising (path_too m limit other a b ea eb) (path_too m other limit b a eb ea)

pub same_keys : (m : Steps) (limit other : ℕ) (a b : KeyTable) → IsExplored m limit a → IsExplored m other b → a.keys ≡ b.keys
same_keys m limit other a b ea eb = ea.reached ∙ ap (map (after m)) (same_paths m limit other a b ea eb) ∙ sym eb.reached

-- ---- starts and rows
same_starts : (m : Steps) (limit other : ℕ) (a b : KeyTable) → IsExplored m limit a → IsExplored m other b → a.starts ≡ b.starts
same_starts m limit other a b ea eb = ext_get_or 0 a.starts b.starts (ea.starts_count ∙ sym eb.starts_count) (λ j lt.
    let inside : j < length m.starts = subst (λ n. j < n) ea.starts_count lt in
    one_place a.keys (list_at m.starts j) (slice_index a.starts j) (slice_index b.starts j) ea.distinct (ea.begins j inside)
    (subst (λ ks. slice_get ks (slice_index b.starts j) ≡ Some (list_at m.starts j)) (sym (same_keys m limit other a b ea eb)) (eb.begins j inside)))

some_width : (k n w : ℕ) → k < n * w → 0 < w
some_width k n zero lt = absurd (omega (arith, lt))
some_width k n (suc w) lt = omega arith

same_row : (m : Steps) (limit other : ℕ) (a b : KeyTable) → IsExplored m limit a → IsExplored m other b → (i l : ℕ) → i < length a.keys → l < m.width
    → slice_index a.rows (i * m.width + l) ≡ slice_index b.rows (i * m.width + l)
same_row m limit other a b ea eb i l inside small =
    one_place a.keys (m.step (list_at a.keys i) l) (slice_index a.rows (i * m.width + l)) (slice_index b.rows (i * m.width + l)) ea.distinct
    (subst (λ w. slice_get a.keys (slice_index a.rows (i * w + l)) ≡ Some (m.step (list_at a.keys i) l)) ea.width
    (ea.leads i l inside (subst (λ w. l < w) (sym ea.width) small)))
    (subst (λ ks. slice_get ks (slice_index b.rows (i * m.width + l)) ≡ Some (m.step (list_at ks i) l)) (sym same)
    (subst (λ w. slice_get b.keys (slice_index b.rows (i * w + l)) ≡ Some (m.step (list_at b.keys i) l)) eb.width
    (eb.leads i l (subst (λ ks. i < length ks) same inside) (subst (λ w. l < w) (sym eb.width) small))))
  where
    same : a.keys ≡ b.keys
    same = same_keys m limit other a b ea eb

same_rows : (m : Steps) (limit other : ℕ) (a b : KeyTable) → IsExplored m limit a → IsExplored m other b → a.rows ≡ b.rows
same_rows m limit other a b ea eb = ext_get_or 0 a.rows b.rows
    (rows_of a limit ea ∙ ap (λ ks. length ks * m.width) (same_keys m limit other a b ea eb) ∙ sym (rows_of b other eb))
    (λ k lt. entry k (subst (λ n. k < n) (rows_of a limit ea) lt))
  where
    rows_of : (c : KeyTable) (within : ℕ) → IsExplored m within c → length c.rows ≡ length c.keys * m.width
    rows_of c within e = e.rows_count ∙ ap (λ w. length c.keys * w) e.width

    entry : (k : ℕ) → k < length a.keys * m.width → slice_index a.rows k ≡ slice_index b.rows k
    entry k lt = let some : 0 < m.width = some_width k (length a.keys) m.width lt in
        subst (λ n. slice_index a.rows n ≡ slice_index b.rows n) (div-add-mod' k m.width)
        (same_row m limit other a b ea eb (k / m.width) (k % m.width) (div_below k m.width (length a.keys) some lt) (mod_below k m.width some))

-- ---- all together
abbrev table_of : ℕ → List (List ℕ) → ℕ → List ℕ → List ℕ → KeyTable
table_of width keys cells starts rows = record { width = width; keys = keys; cells = cells; starts = starts; rows = rows }

same_parts : (a b : KeyTable) → a.width ≡ b.width → a.keys ≡ b.keys → a.cells ≡ b.cells → a.starts ≡ b.starts → a.rows ≡ b.rows → a ≡ b
same_parts a b w k c s r = ap₂ (λ x y. table_of x y a.cells a.starts a.rows) w k ∙ ap₂ (λ x y. table_of b.width b.keys x y a.rows) c s
    ∙ ap (table_of b.width b.keys b.cells b.starts) r

-- a machine has one exploration, whatever the limits
pub one_exploration : (m : Steps) (limit other : ℕ) (a b : KeyTable) → IsExplored m limit a → IsExplored m other b → a ≡ b
one_exploration m limit other a b ea eb =
    same_parts a b (ea.width ∙ sym eb.width) same (ea.weighs ∙ ap (weigh m) same ∙ sym eb.weighs) (same_starts m limit other a b ea eb)
    (same_rows m limit other a b ea eb)
  where
    same : a.keys ≡ b.keys
    same = same_keys m limit other a b ea eb

-- and so have two machines, the second of which starts where the first leads
pub one_in_two_first : (a : Steps) (lead : List ℕ → List ℕ) (b : Steps) (limit other : ℕ) (t u t1 u1 : KeyTable) → IsExploredInTwo a lead b limit t u
    → IsExploredInTwo a lead b other t1 u1 → t ≡ t1
one_in_two_first a lead b limit other t u t1 u1 e e1 = one_exploration a limit other t t1 e.first_part e1.first_part

pub one_in_two_second : (a : Steps) (lead : List ℕ → List ℕ) (b : Steps) (limit other : ℕ) (t u t1 u1 : KeyTable) → IsExploredInTwo a lead b limit t u
    → IsExploredInTwo a lead b other t1 u1 → u ≡ u1
one_in_two_second a lead b limit other t u t1 u1 e e1 = one_exploration (led_by lead b t1.keys) (limit - t.cells) (other - t1.cells) u u1
    (subst (λ ks. IsExplored (led_by lead b ks) (limit - t.cells) u) (ap (λ k. k.keys) (one_in_two_first a lead b limit other t u t1 u1 e e1)) e.second_part) e1.second_part
