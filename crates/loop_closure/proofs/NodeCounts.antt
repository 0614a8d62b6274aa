-- The nodes of a closure are as they are counted.
use Rattle.std.proofs.Common.{◌≡◌, ℕ, zero, suc, ◌+◌, ◌*◌, ◌≤◌, List, [], ◌∷◌, ◌++◌, add-one, arith, refl, sym, ap, ap₂, ◌∙◌, Bool, true, false, nat_lt}
use Rattle.std.proofs.lemmas.Bool.{lt-ltb, le-ltb, ltb-true, ltb-false}
use Rattle.lash_model.specs.Formulas.{Linear, Int, Formula, And, Or, Exists}
use Rattle.formula_core.specs.Counts.{nodes_of}
use Rattle.term_substitution.proofs.FirstLimits.{same_nodes}
use Rattle.loop_laws.specs.Turns.{Body}
use Rattle.loop_laws.specs.Closures.{gathered, joined, early_term, late_term, equation, equations, guarded, short_count, long_count, places_of, short, between, long, closure_of}
use Rattle.term_substitution.specs.Limits.{nodes_limit}
use Rattle.loop_closure.specs.declared.counts.Sizes.{Sizes}
use Rattle.loop_closure.specs.Counting.{count_nodes, turn_nodes, turns_nodes, sizes_of}
use Rattle.loop_closure.proofs.Gathering.{list_nodes, nodes_append, nodes_gathered, nodes_joined}

equations_nodes : (l : Body) (t : ℕ → Linear) (k : ℕ) → list_nodes (equations l t k) ≡ l.matrix.side * 2
equations_nodes l t k = nodes_gathered (λ row. equation (l.matrix.side + row) (t row) k ∷ []) l.matrix.side 2 (λ i lt. refl)

guarded_nodes : (l : Body) (t : ℕ → Linear) (k : ℕ) → nodes_of (guarded l t k) ≡ nodes_of l.guard
guarded_nodes l t k = same_nodes l.guard (gathered (λ row. t row ∷ []) l.matrix.side) k

short_count_nodes : (counted : Bool) (l : Body) (i : ℕ) → list_nodes (short_count counted l i) ≡ count_nodes counted
short_count_nodes false l i = refl
short_count_nodes true l i = refl

long_count_nodes : (counted : Bool) (l : Body) (p i : ℕ) → list_nodes (long_count counted l p i) ≡ count_nodes counted
long_count_nodes false l p i = refl
long_count_nodes true l p i = refl

short_nodes : (counted : Bool) (l : Body) (i : ℕ) → list_nodes (short counted l i) ≡ l.matrix.side * 2 + i * (nodes_of l.guard + 1) + count_nodes counted
short_nodes counted l i =
    let k = places_of counted l in
    let guards = gathered (λ j. guarded l (early_term l j) k ∷ []) i in
    omega (
      arith,
      nodes_append (equations l (early_term l i) k ++ guards) (short_count counted l i),
      nodes_append (equations l (early_term l i) k) guards,
      equations_nodes l (early_term l i) k,
      nodes_gathered (λ j. guarded l (early_term l j) k ∷ []) i (nodes_of l.guard + 1) (λ j lt. omega (arith, guarded_nodes l (early_term l j) k)),
      short_count_nodes counted l i,
    )

long_nodes : (counted : Bool) (l : Body) (p i : ℕ) → list_nodes (long counted l p i) ≡ 2 + l.matrix.side * 2 + p * (nodes_of l.guard + 1) + p * ((nodes_of l.guard + 1) * 2 + 2) + i * ((nodes_of l.guard + 1) * 2) + count_nodes counted
long_nodes counted l p i =
    let place = places_of counted l in
    let firsts = gathered (λ j. guarded l (early_term l j) (place + 1) ∷ []) p in
    let middles = gathered (λ j. between l p place j ∷ []) p in
    let lasts = gathered (λ j. guarded l (early_term l (p + j)) (place + 1) ∷ guarded l (late_term l p j place 1) (place + 1) ∷ []) i in
    let count = long_count counted l p i in
    let equal = equations l (late_term l p i place 1) (place + 1) in
    omega (
      arith,
      nodes_append (equal ++ firsts ++ middles ++ lasts) count,
      nodes_append (equal ++ firsts ++ middles) lasts,
      nodes_append (equal ++ firsts) middles,
      nodes_append equal firsts,
      equations_nodes l (late_term l p i place 1) (place + 1),
      nodes_gathered (λ j. guarded l (early_term l j) (place + 1) ∷ []) p (nodes_of l.guard + 1) (λ j lt. omega (arith, guarded_nodes l (early_term l j) (place + 1))),
      nodes_gathered (λ j. between l p place j ∷ []) p ((nodes_of l.guard + 1) * 2 + 2) (λ j lt. omega (arith, guarded_nodes l (early_term l (p + j)) (place + 1), guarded_nodes l (late_term l p j place 2) (place + 1))),
      nodes_gathered (λ j. guarded l (early_term l (p + j)) (place + 1) ∷ guarded l (late_term l p j place 1) (place + 1) ∷ []) i ((nodes_of l.guard + 1) * 2) (λ j lt. omega (arith, guarded_nodes l (early_term l (p + j)) (place + 1), guarded_nodes l (late_term l p j place 1) (place + 1))),
      long_count_nodes counted l p i,
    )

pub short_some : (counted : Bool) (l : Body) (i : ℕ) → 1 ≤ l.matrix.side → 1 ≤ list_nodes (short counted l i)
short_some counted l i some = omega (arith, short_nodes counted l i, some)

pub long_some : (counted : Bool) (l : Body) (p i : ℕ) → 1 ≤ list_nodes (long counted l p i)
long_some counted l p i = omega (arith, long_nodes counted l p i)

abbrev Shorts : Bool → Body → ℕ → List Formula
Shorts counted l n = gathered (λ i. joined And (short counted l i) ∷ []) n

abbrev Longs : Bool → Body → ℕ → ℕ → List Formula
Longs counted l p n = gathered (λ i. Exists Int (joined And (long counted l p i)) ∷ []) n

parts_nodes : (counted : Bool) (l : Body) (p n : ℕ) → 1 ≤ l.matrix.side → list_nodes (Shorts counted l n) + list_nodes (Longs counted l p n) ≡ turns_nodes (sizes_of counted l p) n
unfolding gathered turns_nodes
parts_nodes counted l p zero some = refl
parts_nodes counted l p (suc n) some =
    let one = joined And (short counted l n) in
    let other = joined And (long counted l p n) in
    omega (
      arith,
      parts_nodes counted l p n some,
      nodes_append (Shorts counted l n) (one ∷ []),
      nodes_append (Longs counted l p n) (Exists Int other ∷ []),
      nodes_joined And (λ f g. refl) (short counted l n) (short_some counted l n some),
      nodes_joined And (λ f g. refl) (long counted l p n) (long_some counted l p n),
      short_nodes counted l n,
      long_nodes counted l p n,
    )

turns_some : (counted : Bool) (l : Body) (p n : ℕ) → 1 ≤ n → 1 ≤ turns_nodes (sizes_of counted l p) n
unfolding turns_nodes
turns_some counted l p zero some = absurd (omega (arith, some))
turns_some counted l p (suc n) some = omega arith

-- all parts of the closure
abbrev pub parts_of : Bool → Body → ℕ → List Formula
parts_of counted l p = Shorts counted l p ++ Longs counted l p p

pub parts_some : (counted : Bool) (l : Body) (p : ℕ) → 1 ≤ l.matrix.side → 1 ≤ p → 1 ≤ list_nodes (parts_of counted l p)
parts_some counted l p side some = omega (arith, nodes_append (Shorts counted l p) (Longs counted l p p), parts_nodes counted l p p side, turns_some counted l p p some)

pub closure_nodes : (counted : Bool) (l : Body) (p : ℕ) → 1 ≤ l.matrix.side → 1 ≤ p → nodes_of (closure_of counted l p) + 1 ≡ turns_nodes (sizes_of counted l p) p
closure_nodes counted l p side some = omega (
  arith,
  nodes_joined Or (λ f g. refl) (parts_of counted l p) (parts_some counted l p side some),
  nodes_append (Shorts counted l p) (Longs counted l p p),
  parts_nodes counted l p p side,
)

pub no_turns : (z : Sizes) → 0 ≡ turns_nodes z 0
unfolding turns_nodes
no_turns z = refl

pub turns_more : (z : Sizes) (n sum more : ℕ) → sum ≡ turns_nodes z n → more ≡ turn_nodes z n → sum + more ≡ turns_nodes z (n + 1)
unfolding turns_nodes
turns_more z n sum more e h = rw add-one (ap₂ (λ a b. a + b) e h)

by_one : (m n : ℕ) → m ≡ n + 1 → nat_lt (nodes_limit + 1) m ≡ nat_lt nodes_limit n
by_one m n e = by (nat_lt nodes_limit n) refl
  where
    by : (b : Bool) → nat_lt nodes_limit n ≡ b → nat_lt (nodes_limit + 1) m ≡ b
    by true h = lt-ltb (nodes_limit + 1) m (omega (arith, ltb-true nodes_limit n h, e))
    by false h = le-ltb (nodes_limit + 1) m (omega (arith, ltb-false nodes_limit n h, e))

abbrev sizes_at : ℕ → ℕ → ℕ → ℕ → Sizes
sizes_at p g s c = record { guard = g + 1; side = s; power = p; count = c }

-- what is counted tells whether the closure has too many nodes
pub many_nodes : (counted : Bool) (l : Body) (p g s c sum : ℕ) → 1 ≤ l.matrix.side → 1 ≤ p → g ≡ nodes_of l.guard → s ≡ l.matrix.side → c ≡ count_nodes counted → sum ≡ turns_nodes (record { guard = g + 1; side = s; power = p; count = c }) p → nat_lt 4097 sum ≡ nat_lt nodes_limit (nodes_of (closure_of counted l p))
many_nodes counted l p g s c sum side some eg es ec e =
    let sizes = ap (λ n. sizes_at p n s c) eg ∙ ap (λ n. sizes_at p (nodes_of l.guard) n c) es ∙ ap (λ n. sizes_at p (nodes_of l.guard) l.matrix.side n) ec in
    by_one sum (nodes_of (closure_of counted l p)) (e ∙ ap (λ z. turns_nodes z p) sizes ∙ sym (closure_nodes counted l p side some))
