-- What the tests need of their tables: a table whose fraction states lead to no lower ones is weak, since each part has one state, and
-- small tables have a shape.
use Rattle.std.proofs.Common.{◌≡◌, ◌∙◌, ℕ, ◌+◌, ◌*◌, ◌^◌, ◌<◌, ◌≤◌, List, [], ◌∷◌, arith, ap, subst}
use Rattle.std.specs.Prelude.{slice_index}
use Rattle.std.specs.List.{AllByRecursion}
use Rattle.std.proofs.Math.Nat.{pow-suc, pow-zero, mul-le-mul}
use Rattle.graph_laws.specs.Walks.{go}
use Rattle.lash_model.specs.Tables.{Table, letters, fracs, IsShape, IsTable}
use Rattle.part_laws.specs.CanonicalMixed.{fraction_graph}
use Rattle.part_laws.specs.Graphs.{IsGraph, Reaches}
use Rattle.part_laws.proofs.LassoWords.{fraction_is_graph}
use Rattle.product_ops.specs.FractionPairs.{IsWeakTable}

-- no state leads to a lower one
abbrev pub Rises : Table → Type 0
Rises t = (q l : ℕ) → q < fracs t → l < letters t → q ≤ slice_index t.frac_rows (q * letters t + l)

rises_along : (t : Table) → IsGraph (letters t) (fraction_graph t) → Rises t → (q : ℕ) (w : List ℕ) → q < fracs t → AllByRecursion (λ l. l < letters t) w
    → q ≤ go t.frac_rows (letters t) q w
rises_along t g up q [] q_in ls = omega arith
rises_along t g up q (l ∷ w) q_in ls =
    omega (arith, up q l q_in ls.0, rises_along t g up (slice_index t.frac_rows (q * letters t + l)) w (g.rows_in q l q_in ls.0) ls.1)

reached_above : (t : Table) → IsTable t → Rises t → (p q : ℕ) → p < fracs t → Reaches t.frac_rows (letters t) p q → p ≤ q
reached_above t h up p q p_in r = subst (λ k. p ≤ k) r.leads (rises_along t (fraction_is_graph t h) up p r.word p_in r.letters)

pub rising_weak : (t : Table) → IsTable t → 0 < fracs t → Rises t → IsWeakTable t
rising_weak t h some up = record {
  fractions = some;
  weak = λ p q p_in q_in _ _ one.
      let same : p ≡ q = omega (arith, reached_above t h up p q p_in one.there, reached_above t h up q p q_in one.back) in
      ap (λ k. slice_index t.colours k) same;
}

-- ---- the tables of the tests
pow_one : (b : ℕ) → b ^ 1 ≡ b
pow_one b = pow-suc b 0 ∙ ap (λ x. x * b) (pow-zero b) ∙ omega arith

pub small_shape : (b i f : ℕ) → 2 ≤ b → b ≤ 3 → 0 < i → i < 10 → f < 10 → IsShape b 1 i f
small_shape b i f low high some few_ints few_fracs =
    let states : i + f ≤ 18 = omega (arith, few_ints, few_fracs) in
    let width : b ^ 1 + 1 ≤ 4 = omega (arith, high, pow_one b) in
    let cells : (i + f) * (b ^ 1 + 1) ≤ 18 * 4 = mul-le-mul states width in
    record { base_low = low; base_high = omega (arith, high); few_letters = omega (arith, high, pow_one b); some_state = some; few_cells = omega (arith, cells) }
