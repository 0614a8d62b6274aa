-- Free places and their positions: what is listed stands at its position, and the positions of listed places are distinct tracks.
use Rattle.std.proofs.Common.{◌≡◌, ℕ, zero, suc, ◌+◌, ◌<◌, ◌≤◌, List, [], ◌∷◌, ◌++◌, length, map, take, get_or, arith, refl, sym, ap, ap₂, ◌∙◌, subst, Bool, true, false, not, nat_eq, cond}
use Rattle.std.specs.List.{AllPairs, AllByRecursion, filter, range_with_len}
use Rattle.std.proofs.lemmas.Bool.{eq-eqb, eqb-true, cases_lt, false≢true}
use Rattle.std.proofs.lemmas.List.{length-map, get_or-map, take_more}
use Rattle.std.proofs.lemmas.List.Elements.{All-from_recursion}
use Rattle.std.proofs.lemmas.List.Kept.{AllPairs-filter}
use Rattle.std.proofs.lemmas.List.FromFn.{get_or-range_with_len, length-range_with_len}
use mathlib.Core.Logic.{◌⊎◌, inl, inr}
use Rattle.lash_model.specs.Formulas.{Formula}
use Rattle.formula_core.specs.Counts.{uses, free_places}
use Rattle.product_ops.specs.Tracks.{AreTracks}
use Rattle.set_compile.specs.Positions.{position_of, positions}

-- the list has the place
abbrev pub Listed : ℕ → List ℕ → Type 0
Listed p [] = ⊥
Listed p (v ∷ vs) = (p ≡ v) ⊎ Listed p vs

-- ---- positions
one_more : (n : ℕ) → 1 + n ≡ suc n
one_more n = omega arith

-- a function of the entry at a listed place's position
pub at_position : {X : Type 0} (k : ℕ → X) (vs : List ℕ) (p : ℕ) (d : X) → Listed p vs → get_or (map k vs) (position_of vs p) d ≡ k p
at_position {X = X} k [] p d h = absurd h
at_position {X = X} k (v ∷ vs) p d h = here (nat_eq p v) refl (at_position k vs p d)
  where
    rest : Listed p (v ∷ vs) → nat_eq p v ≡ false → Listed p vs
    rest (inl e) f = absurd (false≢true (sym f ∙ eq-eqb p v e))
    rest (inr m) f = m

    here : (b : Bool) → nat_eq p v ≡ b → (Listed p vs → get_or (map k vs) (position_of vs p) d ≡ k p) → get_or (k v ∷ map k vs) (cond (not b) (1 + position_of vs p) 0) d ≡ k p
    here true e more = ap k (sym (eqb-true p v e))
    here false e more = ap (λ i. get_or (k v ∷ map k vs) i d) (one_more (position_of vs p)) ∙ more (rest h e)

pub position_below : (vs : List ℕ) (p : ℕ) → Listed p vs → position_of vs p < length vs
position_below [] p h = absurd h
position_below (v ∷ vs) p h = here (nat_eq p v) refl (position_below vs p)
  where
    rest : Listed p (v ∷ vs) → nat_eq p v ≡ false → Listed p vs
    rest (inl e) f = absurd (false≢true (sym f ∙ eq-eqb p v e))
    rest (inr m) f = m

    here : (b : Bool) → nat_eq p v ≡ b → (Listed p vs → position_of vs p < length vs) → cond (not b) (1 + position_of vs p) 0 < suc (length vs)
    here true e more = omega arith
    here false e more = omega (arith, more (rest h e))

pub mapped_twice : {X Y : Type 0} (k : X → Y) (g : ℕ → X) (vs : List ℕ) → map k (map g vs) ≡ map (λ v. k (g v)) vs
mapped_twice k g [] = refl
mapped_twice k g (v ∷ vs) = ap (λ xs. k (g v) ∷ xs) (mapped_twice k g vs)

pub unmapped : (vs : List ℕ) → map (λ v. v) vs ≡ vs
unmapped [] = refl
unmapped (v ∷ vs) = ap (λ xs. v ∷ xs) (unmapped vs)

one_position : (vs : List ℕ) (p q : ℕ) → Listed p vs → Listed q vs → position_of vs p ≡ position_of vs q → p ≡ q
one_position vs p q hp hq e = sym (at_position (λ v. v) vs p 0 hp) ∙ ap (λ i. get_or (map (λ v. v) vs) i 0) e ∙ at_position (λ v. v) vs q 0 hq

listed_entry : (vs us : List ℕ) (i d : ℕ) → AllByRecursion (λ v. Listed v us) vs → i < length vs → Listed (get_or vs i d) us
listed_entry [] us i d h lt = absurd (omega (arith, lt))
listed_entry (v ∷ vs) us zero d h lt = h.0
listed_entry (v ∷ vs) us (suc i) d h lt = listed_entry vs us i d h.1 (omega (arith, lt))

positions_in : (us vs : List ℕ) → AllByRecursion (λ v. Listed v us) vs → AllByRecursion (λ i. i < length us) (positions us vs)
positions_in us [] h = tt
positions_in us (v ∷ vs) h = (position_below us v h.0, positions_in us vs h.1)

-- positions of distinct listed places are distinct tracks
pub positions_tracks : (us vs : List ℕ) → AllByRecursion (λ v. Listed v us) vs → AllPairs (λ i j. i ≡ j → ⊥) vs → AreTracks (length us) (positions us vs)
positions_tracks us vs h apart = record {
  below = All-from_recursion (λ i. i < length us) (positions us vs) (positions_in us vs h);
  distinct = λ i j d lt within e.
      let count : length (positions us vs) ≡ length vs = length-map vs (position_of us) in
      let j_in : j < length vs = omega (arith, within, count) in
      let i_in : i < length vs = omega (arith, lt, j_in) in
      apart i j 0 lt j_in (one_position us (get_or vs i 0) (get_or vs j 0) (listed_entry vs us i 0 h i_in) (listed_entry vs us j 0 h j_in)
      (sym (get_or-map (position_of us) vs i 0 d i_in) ∙ e ∙ get_or-map (position_of us) vs j 0 d j_in));
}

-- one position more
pub positions_more : (us vs was : List ℕ) (i x : ℕ) → i < length vs → was ≡ positions us (take i vs) → x ≡ position_of us (get_or vs i 0) → was ++ x ∷ [] ≡ positions us (take (i + 1) vs)
positions_more us vs was i x lt h e = ap₂ (λ xs y. xs ++ y ∷ []) h e ∙ sym (ap (positions us) (take_more vs i 0 lt) ∙ pushed (take i vs) (get_or vs i 0))
  where
    pushed : (vs : List ℕ) (v : ℕ) → positions us (vs ++ v ∷ []) ≡ positions us vs ++ position_of us v ∷ []
    pushed [] v = refl
    pushed (w ∷ vs) v = ap (λ xs. position_of us w ∷ xs) (pushed vs v)

-- ---- free places
pub passing_listed : (test : ℕ → Bool) (a n p : ℕ) → a ≤ p → p < a + n → test p ≡ true → Listed p (filter test (range_with_len a n))
passing_listed test a zero p low high e = absurd (omega (arith, low, high))
passing_listed test a (suc n) p low high e = elim (cases_lt a p) [ inl lt ↦ behind (test a) (passing_listed test (a + 1) n p (omega (arith, lt)) (omega (arith, high)) e) | inr ge ↦ first (omega (arith, low, ge)) ]
  where
    behind : (b : Bool) → Listed p (filter test (range_with_len (a + 1) n)) → Listed p (cond b (a ∷ filter test (range_with_len (a + 1) n)) (filter test (range_with_len (a + 1) n)))
    behind true h = inr h
    behind false h = h

    first : p ≡ a → Listed p (cond (test a) (a ∷ filter test (range_with_len (a + 1) n)) (filter test (range_with_len (a + 1) n)))
    first q = subst (λ b. Listed p (cond b (a ∷ filter test (range_with_len (a + 1) n)) (filter test (range_with_len (a + 1) n)))) (sym e ∙ ap test q) (inl q)

-- what is listed from a test passes another test that passes all that it passes, and stands below the end
pub passing_in : (test : ℕ → Bool) (P : ℕ → Type 0) (a n : ℕ) → ((p : ℕ) → a ≤ p → p < a + n → test p ≡ true → P p) → AllByRecursion P (filter test (range_with_len a n))
passing_in test P a zero h = tt
passing_in test P a (suc n) h = here (test a) refl (passing_in test P (a + 1) n (λ p low high e. h p (omega (arith, low)) (omega (arith, high)) e))
  where
    here : (b : Bool) → test a ≡ b → AllByRecursion P (filter test (range_with_len (a + 1) n)) → AllByRecursion P (cond b (a ∷ filter test (range_with_len (a + 1) n)) (filter test (range_with_len (a + 1) n)))
    here true e rest = (h a (omega arith) (omega arith) e, rest)
    here false e rest = rest

range_rises : (a n : ℕ) → AllPairs (λ x y. x < y) (range_with_len a n)
range_rises a n i j d lt within =
    let j_in : j < n = omega (arith, within, length-range_with_len a n) in
    omega (arith, lt, get_or-range_with_len a n i d (omega (arith, lt, j_in)), get_or-range_with_len a n j d j_in)

pub free_rise : (f : Formula) (m : ℕ) → AllPairs (λ x y. x < y) (free_places f m)
free_rise f m = AllPairs-filter (λ x y. x < y) (λ p. uses p f) (range_with_len 0 m) (range_rises 0 m)

pub free_apart : (f : Formula) (m : ℕ) → AllPairs (λ i j. i ≡ j → ⊥) (free_places f m)
free_apart f m i j d lt within e = omega (arith, free_rise f m i j d lt within, e)

pub free_listed : (f : Formula) (m p : ℕ) → p < m → uses p f ≡ true → Listed p (free_places f m)
free_listed f m p lt e = passing_listed (λ k. uses k f) 0 m p (omega arith) (omega (arith, lt)) e

-- a part's free places are free places of the whole
pub part_listed : (h f : Formula) (m : ℕ) → ((p : ℕ) → uses p f ≡ true → uses p h ≡ true) → AllByRecursion (λ v. Listed v (free_places h m)) (free_places f m)
part_listed h f m less = passing_in (λ k. uses k f) (λ v. Listed v (free_places h m)) 0 m (λ p low high e. free_listed h m p (omega (arith, high)) (less p e))

-- the tracks of a part's table
pub shared_tracks_are : (h f : Formula) (m : ℕ) → ((p : ℕ) → uses p f ≡ true → uses p h ≡ true) → AreTracks (length (free_places h m)) (positions (free_places h m) (free_places f m))
shared_tracks_are h f m less = positions_tracks (free_places h m) (free_places f m) (part_listed h f m less) (free_apart f m)

-- the free places themselves, as tracks of all variables
pub free_tracks : (f : Formula) (m : ℕ) → AreTracks m (free_places f m)
free_tracks f m = record {
  below = All-from_recursion (λ i. i < m) (free_places f m) (passing_in (λ k. uses k f) (λ i. i < m) 0 m (λ p low high e. omega (arith, high)));
  distinct = free_apart f m;
}

pub no_tracks : (m : ℕ) → AreTracks m []
no_tracks m = record { below = λ i d lt. absurd (omega (arith, lt)); distinct = λ i j d lt within. absurd (omega (arith, within)) }

-- the same of lists that are those
pub tracks_are : (h f : Formula) (m n : ℕ) (us vs xs : List ℕ) → ((p : ℕ) → uses p f ≡ true → uses p h ≡ true) → us ≡ free_places h m → vs ≡ free_places f m → n ≡ length (free_places h m) → xs ≡ positions us vs → AreTracks n xs
tracks_are h f m n us vs xs less eu ev en ex = subst (λ k. AreTracks k xs) (sym en) (subst (AreTracks (length (free_places h m))) (sym (ex ∙ ap₂ positions eu ev)) (shared_tracks_are h f m less))
