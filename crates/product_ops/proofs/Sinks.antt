-- A graph of two letters and three states is weak, if each of them has the colour yes or leads to itself alone.
use Rattle.std.proofs.Common.{◌≡◌, ℕ, zero, suc, ◌+◌, ◌*◌, ◌<◌, List, [], ◌∷◌, length, arith, refl, ◌∙◌, sym, ap, subst}
use Rattle.std.specs.Prelude.{◌⊎◌, slice_index}
use mathlib.Core.Logic.{inl, inr}
use Rattle.graph_laws.specs.Walks.{go}
use Rattle.part_laws.specs.Graphs.{Graph, IsWord, IsWeak, Reaches}

abbrev IsFine : Graph → ℕ → Type 0
IsFine g q = (slice_index g.colours q ≡ 1) ⊎ ((slice_index g.rows (q * 2 + 0) ≡ q) × (slice_index g.rows (q * 2 + 1) ≡ q))

stays : (g : Graph) (q : ℕ) (w : List ℕ) → (slice_index g.rows (q * 2 + 0) ≡ q) × (slice_index g.rows (q * 2 + 1) ≡ q) → IsWord 2 w → go g.rows 2 q w ≡ q
stays g q [] h ls = refl
stays g q (zero ∷ w) h ls = ap (λ p. go g.rows 2 p w) h.0 ∙ stays g q w h ls.1
stays g q (suc zero ∷ w) h ls = ap (λ p. go g.rows 2 p w) h.1 ∙ stays g q w h ls.1
stays g q (suc (suc l) ∷ w) h ls = absurd (omega (arith, ls.0))

all_fine : (g : Graph) → IsFine g 0 → IsFine g 1 → IsFine g 2 → (q : ℕ) → q < 3 → IsFine g q
all_fine g a b c zero lt = a
all_fine g a b c (suc zero) lt = b
all_fine g a b c (suc (suc zero)) lt = c
all_fine g a b c (suc (suc (suc q))) lt = absurd (omega (arith, lt))

pub weak_by_sinks : (width : ℕ) (g : Graph) → width ≡ 2 → length g.colours ≡ 3 → IsFine g 0 → IsFine g 1 → IsFine g 2 → IsWeak width g
weak_by_sinks width g two three a b c = subst (λ w. IsWeak w g) (sym two) weak
  where
    led : (p q : ℕ) → (slice_index g.rows (p * 2 + 0) ≡ p) × (slice_index g.rows (p * 2 + 1) ≡ p) → Reaches g.rows 2 p q → p ≡ q
    led p q h s = sym (stays g p s.word h s.letters) ∙ s.leads

    by : (p q : ℕ) → IsFine g p → IsFine g q → Reaches g.rows 2 p q → Reaches g.rows 2 q p → slice_index g.colours p ≡ slice_index g.colours q
    by p q (inl e) (inl f) there back = e ∙ sym f
    by p q (inr s) f there back = ap (λ x. slice_index g.colours x) (led p q s there)
    by p q (inl e) (inr s) there back = ap (λ x. slice_index g.colours x) (sym (led q p s back))

    weak : IsWeak 2 g
    weak = λ p q hp hq op oq one. by p q (all_fine g a b c p (omega (arith, hp, three))) (all_fine g a b c q (omega (arith, hq, three))) one.there one.back
