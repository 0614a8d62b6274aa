-- A closure is over its variables where no atom passes a limit, and binds integers only.
use Rattle.std.proofs.Common.{◌≡◌, ℕ, zero, suc, ◌+◌, ◌≤◌, ◌<◌, List, [], ◌∷◌, ◌++◌, length, get_or, arith, refl, rules, sym, ap₂, subst, Bool, true, false, ◌||◌, ◌&&◌}
use Rattle.std.proofs.Math.IntN.{ℤ, pos, negsuc}
use Rattle.std.specs.List.{AllByRecursion}
use Rattle.std.proofs.lemmas.Bool.{ltb-false, true≢false}
use Rattle.std.proofs.lemmas.List.Elements.{All-from_recursion}
use Rattle.lash_model.specs.Formulas as formulas
use Rattle.lash_model.specs.Formulas.{Linear, Int, Real, Formula, AtMost, Equal, Atom, Not, And, Or, Exists}
use Rattle.formula_core.specs.Counts.{binds_ints}
use Rattle.formula_core.specs.Terms.{added}
use Rattle.term_substitution.specs.Conditions.{IsOver}
use Rattle.term_substitution.specs.Limits.{some_atom, coefficients_pass, constant_passes}
use Rattle.term_substitution.specs.Substitution.{substituted, variable_term}
use Rattle.term_substitution.proofs.Reaching.{AreBelow, added_below, result_placed}
use Rattle.loop_laws.specs.Turns.{Body, IsGuard, IsMember}
use Rattle.loop_laws.specs.Closures.{gathered, joined, coefficients, same, early_term, late_term, equation, equations, guarded, is_one, is_some, count_place, short_count, long_count, places_of, short, between, long, closure_of}
use Rattle.loop_closure.proofs.Gathering.{Keeps, joined_keeps, all_append, all_gathered, one_each}
use Rattle.loop_closure.proofs.NodeCounts.{short_some, long_some, parts_of, parts_some}

-- over m variables where no atom passes a limit, and only integers are bound
pub record IsPart (m : ℕ) (f : Formula) : Type 0 where
  pub over : some_atom coefficients_pass f ≡ false → some_atom constant_passes f ≡ false → IsOver m f
  pub ints : binds_ints f ≡ true

left_false : (x y : Bool) → (x || y) ≡ false → x ≡ false
left_false true y e = e
left_false false y e = refl

right_false : (x y : Bool) → (x || y) ≡ false → y ≡ false
right_false true y e = absurd (true≢false e)
right_false false y e = e

both_true : (x y : Bool) → x ≡ true → y ≡ true → (x && y) ≡ true
both_true x y e h = ap₂ (λ a b. a && b) e h

and_part : (m : ℕ) → Keeps (IsPart m) And
and_part m f g p q = record {
  over = λ few small. (p.over (left_false _ _ few) (left_false _ _ small), q.over (right_false _ _ few) (right_false _ _ small));
  ints = both_true (binds_ints f) (binds_ints g) p.ints q.ints;
}

or_part : (m : ℕ) → Keeps (IsPart m) Or
or_part m f g p q = record {
  over = λ few small. (p.over (left_false _ _ few) (left_false _ _ small), q.over (right_false _ _ few) (right_false _ _ small));
  ints = both_true (binds_ints f) (binds_ints g) p.ints q.ints;
}

exists_part : (m : ℕ) (f : Formula) → IsPart (m + 1) f → IsPart m (Exists Int f)
exists_part m f p = record { over = λ few small. p.over few small; ints = p.ints }

member_ints : (f : Formula) → IsMember f → binds_ints f ≡ true
member_ints (Atom kind a) h = refl
member_ints (Not (Atom AtMost a)) h = refl
member_ints (Not (Atom Equal a)) h = absurd h
member_ints (Not (Not f)) h = absurd h
member_ints (Not (And f g)) h = absurd h
member_ints (Not (Or f g)) h = absurd h
member_ints (Not (Exists s f)) h = absurd h
member_ints (And f g) h = absurd h
member_ints (Or f g) h = absurd h
member_ints (Exists s f) h = absurd h

-- a guard binds nothing
guard_ints : (f : Formula) → IsGuard f → binds_ints f ≡ true
guard_ints (Atom kind a) h = refl
guard_ints (Not f) h = member_ints (Not f) h
guard_ints (And f g) h = both_true (binds_ints f) (binds_ints g) (guard_ints f h.0) (member_ints g h.1)
guard_ints (Or f g) h = absurd h
guard_ints (Exists s f) h = absurd h

same_ints : (f : Formula) (terms : List Linear) (k : ℕ) → binds_ints (substituted f terms k) ≡ binds_ints f
same_ints (Atom kind a) terms k = refl
same_ints (Not f) terms k = same_ints f terms k
same_ints (And f g) terms k = ap₂ (λ a b. a && b) (same_ints f terms k) (same_ints g terms k)
same_ints (Or f g) terms k = ap₂ (λ a b. a && b) (same_ints f terms k) (same_ints g terms k)
same_ints (Exists Int f) terms k = same_ints f terms k
same_ints (Exists Real f) terms k = refl

substituted_part : (f : Formula) (terms : List Linear) (k : ℕ) → AllByRecursion (λ t. AreBelow k t.terms) terms → IsOver (length terms) f → binds_ints f ≡ true → IsPart k (substituted f terms k)
substituted_part f terms k below over ints =
    let all = All-from_recursion (λ t. AreBelow k t.terms) terms below in
    record {
      over = λ few small. result_placed f terms k (λ i d lt. All-from_recursion (λ s. s.0 < k) (get_or terms i d).terms (all i d lt)) over few small;
      ints = rw (same_ints f terms k) ints;
    }

pub coefficients_below : (f : ℕ → ℤ) (n k : ℕ) → n ≤ k → AreBelow k (coefficients f n)
unfolding coefficients
coefficients_below f zero k le = tt
coefficients_below f (suc n) k le = added_below k (coefficients f n) n (f n) (omega (arith, le)) (coefficients_below f n k (omega (arith, le)))

early_below : (l : Body) (k row m : ℕ) → l.matrix.side ≤ m → AreBelow m (early_term l k row).terms
early_below l k row m le = coefficients_below _ l.matrix.side m le

late_below : (l : Body) (p j place back row m : ℕ) → l.matrix.side ≤ m → place < m → AreBelow m (late_term l p j place back row).terms
late_below l p j place back row m le lt = added_below m _ place _ lt (coefficients_below _ l.matrix.side m le)

guarded_part : (l : Body) (t : ℕ → Linear) (k : ℕ) → IsGuard l.guard → IsOver l.matrix.side l.guard → ((row : ℕ) → AreBelow k (t row).terms) → IsPart k (guarded l t k)
guarded_part l t k guard over below =
    substituted_part l.guard (gathered (λ row. t row ∷ []) l.matrix.side) k
    (all_gathered (λ t. AreBelow k t.terms) (λ row. t row ∷ []) l.matrix.side (λ row lt. (below row, tt)))
    (subst (λ n. IsOver n l.guard) (sym (one_each t l.matrix.side)) over)
    (guard_ints l.guard guard)

-- the equation is over two variables
pub same_over : IsOver 2 same
unfolding formulas.coefficient_sum
same_over = record {
  places = All-from_recursion (λ t. t.0 < 2) ((0, pos 1) ∷ (1, negsuc 0) ∷ []) (omega arith, (omega arith, tt));
  inside = record { coefficients = search rules; constant = search rules };
}

equation_part : (place : ℕ) (t : Linear) (k : ℕ) → place < k → AreBelow k t.terms → IsPart k (equation place t k)
equation_part place t k lt below = substituted_part same (variable_term place ∷ t ∷ []) k ((lt, tt), (below, tt)) same_over refl

equations_part : (l : Body) (t : ℕ → Linear) (k : ℕ) → count_place l ≤ k → ((row : ℕ) → AreBelow k (t row).terms) → AllByRecursion (IsPart k) (equations l t k)
equations_part l t k le below = all_gathered (IsPart k) (λ row. equation (l.matrix.side + row) (t row) k ∷ []) l.matrix.side (λ row lt. (equation_part (l.matrix.side + row) (t row) k (omega (arith, le, lt)) (below row), tt))

one_part : (place m : ℕ) → place < m → IsPart m (is_one place)
one_part place m lt = record {
  over = λ few small. record { places = All-from_recursion (λ t. t.0 < m) (added [] place (pos 1)) (added_below m [] place (pos 1) lt tt); inside = record { coefficients = ltb-false _ _ few; constant = ltb-false _ _ small } };
  ints = refl;
}

some_part : (place m : ℕ) → place < m → IsPart m (is_some place)
some_part place m lt = record {
  over = λ few small. record { places = All-from_recursion (λ t. t.0 < m) (added [] place (negsuc 0)) (added_below m [] place (negsuc 0) lt tt); inside = record { coefficients = ltb-false _ _ few; constant = ltb-false _ _ small } };
  ints = refl;
}

-- what is needed of a loop
pub record IsLoop (l : Body) : Type 0 where
  pub guard : IsGuard l.guard
  pub over : IsOver l.matrix.side l.guard
  pub some : 1 ≤ l.matrix.side

places_enough : (counted : Bool) (l : Body) → count_place l ≤ places_of counted l
places_enough false l = omega arith
places_enough true l = omega arith

short_count_part : (counted : Bool) (l : Body) (i : ℕ) → AllByRecursion (IsPart (places_of counted l)) (short_count counted l i)
short_count_part false l i = tt
short_count_part true l i = (equation_part (count_place l) (record { terms = []; constant = pos i }) (count_place l + 1) (omega arith) tt, tt)

long_count_part : (counted : Bool) (l : Body) (p i : ℕ) → AllByRecursion (IsPart (places_of counted l + 1)) (long_count counted l p i)
long_count_part false l p i = tt
long_count_part true l p i =
    let m = count_place l + 2 in
    let part = equation_part (count_place l) (record { terms = added [] (count_place l + 1) (pos p); constant = pos i }) m (omega arith) (added_below m [] (count_place l + 1) (pos p) (omega arith) tt) in
    (subst (λ k. IsPart k (equation (count_place l) (record { terms = added [] (count_place l + 1) (pos p); constant = pos i }) m)) (omega arith) part, tt)

short_part : (counted : Bool) (l : Body) (i : ℕ) → IsLoop l → AllByRecursion (IsPart (places_of counted l)) (short counted l i)
short_part counted l i h =
    let m = places_of counted l in
    let le : l.matrix.side ≤ m = omega (arith, places_enough counted l) in
    let guards = gathered (λ k. guarded l (early_term l k) m ∷ []) i in
    all_append (IsPart m) (equations l (early_term l i) m ++ guards) (short_count counted l i)
    (all_append (IsPart m) (equations l (early_term l i) m) guards
    (equations_part l (early_term l i) m (places_enough counted l) (λ row. early_below l i row m le))
    (all_gathered (IsPart m) (λ k. guarded l (early_term l k) m ∷ []) i (λ k lt. (guarded_part l (early_term l k) m h.guard h.over (λ row. early_below l k row m le), tt))))
    (short_count_part counted l i)

long_part : (counted : Bool) (l : Body) (p i : ℕ) → IsLoop l → AllByRecursion (IsPart (places_of counted l + 1)) (long counted l p i)
long_part counted l p i h =
    let place = places_of counted l in
    let m = place + 1 in
    let le : l.matrix.side ≤ m = omega (arith, places_enough counted l) in
    let lt : place < m = omega arith in
    let early : (k : ℕ) → IsPart m (guarded l (early_term l k) m) = λ k. guarded_part l (early_term l k) m h.guard h.over (λ row. early_below l k row m le) in
    let late : (j back : ℕ) → IsPart m (guarded l (late_term l p j place back) m) = λ j back. guarded_part l (late_term l p j place back) m h.guard h.over (λ row. late_below l p j place back row m le lt) in
    let firsts = gathered (λ j. guarded l (early_term l j) m ∷ []) p in
    let middles = gathered (λ j. between l p place j ∷ []) p in
    let lasts = gathered (λ j. guarded l (early_term l (p + j)) m ∷ guarded l (late_term l p j place 1) m ∷ []) i in
    let count = long_count counted l p i in
    let equal = equations l (late_term l p i place 1) m in (
      some_part place m lt,
      all_append (IsPart m) (equal ++ firsts ++ middles ++ lasts) count
          (all_append (IsPart m) (equal ++ firsts ++ middles) lasts
          (all_append (IsPart m) (equal ++ firsts) middles
          (all_append (IsPart m) equal firsts
          (equations_part l (late_term l p i place 1) m (omega (arith, places_enough counted l)) (λ row. late_below l p i place 1 row m le lt))
          (all_gathered (IsPart m) (λ j. guarded l (early_term l j) m ∷ []) p (λ j _. (early j, tt))))
          (all_gathered (IsPart m) (λ j. between l p place j ∷ []) p (λ j _. (or_part m _ _ (one_part place m lt) (and_part m _ _ (early (p + j)) (late j 2)), tt))))
          (all_gathered (IsPart m) (λ j. guarded l (early_term l (p + j)) m ∷ guarded l (late_term l p j place 1) m ∷ []) i (λ j _. (early (p + j), (late j 1, tt)))))
          (long_count_part counted l p i),
    )

pub closure_part : (counted : Bool) (l : Body) (p : ℕ) → IsLoop l → 1 ≤ p → IsPart (places_of counted l) (closure_of counted l p)
closure_part counted l p h some =
    let m = places_of counted l in
    joined_keeps (IsPart m) Or (or_part m) (parts_of counted l p) (parts_some counted l p h.some some)
    (all_append (IsPart m) (gathered (λ i. joined And (short counted l i) ∷ []) p) (gathered (λ i. Exists Int (joined And (long counted l p i)) ∷ []) p)
    (all_gathered (IsPart m) (λ i. joined And (short counted l i) ∷ []) p (λ i _. (joined_keeps (IsPart m) And (and_part m) (short counted l i) (short_some counted l i h.some) (short_part counted l i h), tt)))
    (all_gathered (IsPart m) (λ i. Exists Int (joined And (long counted l p i)) ∷ []) p (λ i _. (exists_part m _ (joined_keeps (IsPart (m + 1)) And (and_part (m + 1)) (long counted l p i) (long_some counted l p i) (long_part counted l p i h)), tt))))
