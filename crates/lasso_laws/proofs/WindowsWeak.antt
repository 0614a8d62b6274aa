-- A graph of bounds, each of whose states is that of some bound, is weak: a state of colour no leads to itself alone.
use Rattle.std.proofs.Common.{◌≡◌, ℕ, ◌+◌, ◌*◌, ◌^◌, ◌<◌, List, [], ◌∷◌, length, refl, ◌∙◌, sym, ap, subst}
use Rattle.std.proofs.Math.IntN.{ℤ}
use Rattle.std.specs.Prelude.{slice_index}
use Rattle.std.specs.List.{AllByRecursion}
use Rattle.std.proofs.lemmas.Int.{by_lt_z}
use mathlib.Core.Logic.{◌⊎◌, inl, inr}
use Rattle.graph_laws.specs.Walks.{go}
use Rattle.lash_model.specs.Formulas.{Comparison, AtMost, Equal}
use Rattle.lasso_laws.specs.Windows.{lowest, window_end, above_colour, IsBoundGraph}
use Rattle.part_laws.specs.Graphs.{Reaches, IsWeak}

-- a state is of colour yes, or of colour no with all letters leading back to it
one_or_sink : (kind : Comparison) (terms : List (ℕ × ℤ)) (r n : ℕ) (rows colours : List ℕ) (state : ℤ → ℕ) → IsBoundGraph kind terms r n rows colours state
    → (x : ℤ) → (slice_index colours (state x) ≡ 1) ⊎
    ((slice_index colours (state x) ≡ 0) × ((l : ℕ) → l < r ^ n → slice_index rows (state x * r ^ n + l) ≡ state x))
one_or_sink kind terms r n rows colours state g x = by_lt_z x (lowest terms)
    (λ under. inr (g.below_no x under, λ l h. g.below_stays x l under h))
    (λ low. by_lt_z x (window_end kind terms)
    (λ inside. inl (g.inside_yes x low inside))
    (λ over. behind kind (g.above_is x over) (λ l h. g.above_stays x l over h)))
  where
    behind : (kind : Comparison) → slice_index colours (state x) ≡ above_colour kind
        → ((l : ℕ) → l < r ^ n → slice_index rows (state x * r ^ n + l) ≡ state x)
        → (slice_index colours (state x) ≡ 1) ⊎
        ((slice_index colours (state x) ≡ 0) × ((l : ℕ) → l < r ^ n → slice_index rows (state x * r ^ n + l) ≡ state x))
    behind AtMost e s = inl e
    behind Equal e s = inr (e, s)

stays : (rows : List ℕ) (width q : ℕ) → ((l : ℕ) → l < width → slice_index rows (q * width + l) ≡ q) → (w : List ℕ) → AllByRecursion (λ l. l < width) w
    → go rows width q w ≡ q
stays rows width q h [] k = refl
stays rows width q h (l ∷ w) k = ap (λ p. go rows width p w) (h l k.0) ∙ stays rows width q h w k.1

pub windows_weak : (kind : Comparison) (terms : List (ℕ × ℤ)) (r n : ℕ) (rows colours : List ℕ) (state : ℤ → ℕ)
    → IsBoundGraph kind terms r n rows colours state → ((q : ℕ) → q < length colours → (x : ℤ) × (state x ≡ q))
    → IsWeak (r ^ n) (record { rows = rows; colours = colours })
windows_weak kind terms r n rows colours state g onto p q kp kq lp lq one = by (at p kp) (at q kq)
  where
    width : ℕ
    width = r ^ n

    Told : ℕ → Type 0
    Told p = (slice_index colours p ≡ 1) ⊎ ((slice_index colours p ≡ 0) × ((l : ℕ) → l < width → slice_index rows (p * width + l) ≡ p))

    at : (p : ℕ) → p < length colours → Told p
    at p k = let x = onto p k in subst Told x.1 (one_or_sink kind terms r n rows colours state g x.0)

    led : (p q : ℕ) → ((l : ℕ) → l < width → slice_index rows (p * width + l) ≡ p) → Reaches rows width p q → p ≡ q
    led p q s r = sym (stays rows width p s r.word r.letters) ∙ r.leads

    by : Told p → Told q → slice_index colours p ≡ slice_index colours q
    by (inl a) (inl b) = a ∙ sym b
    by (inr a) b = ap (slice_index colours) (led p q a.1 one.there)
    by (inl a) (inr b) = ap (slice_index colours) (sym (led q p b.1 one.back))
