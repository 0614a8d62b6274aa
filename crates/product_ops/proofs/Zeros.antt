-- States after letters 0: in a weak table all colours after so many letters as there are fraction states are one.
use Rattle.std.proofs.Common.{◌≡◌, ℕ, zero, suc, ◌+◌, ◌-◌, ◌*◌, ◌/◌, ◌%◌, ◌^◌, ◌≤◌, ◌<◌, ◌↔◌, Bool, true, false, IsTrue, List, [], ◌∷◌, length, arith, refl, ◌∙◌, sym, ap, subst}
use Rattle.std.specs.Prelude.{slice_index, nat_eq, All}
use Rattle.std.proofs.Math.IntN.{ℤ, pos, ◌+ℤ◌, ◌*ℤ◌}
use Rattle.std.proofs.Math.Nat.{pow-zero, pow-suc, zero-div, zero-mod}
use Rattle.std.proofs.lemmas.Bool.{eqb-true}
use Rattle.std.proofs.lemmas.Int.{ints as int_rules}
use Rattle.std.proofs.lemmas.List.Elements.{recursion_from_All}
use Rattle.graph_laws.specs.Walks.{go, copies}
use Rattle.integer_laws.specs.Vectors.{scale}
use Rattle.integer_laws.proofs.Entries.{scale-vector_from, vector_from_same}
use Rattle.lash_model.specs.Letters.{digits, digit}
use Rattle.lash_model.specs.Words.{spelled, value, values}
use Rattle.lash_model.specs.Lassos.{Lasso, denominator, numerator, numerators}
use Rattle.lash_model.specs.Sets.{IsOfFractions}
use Rattle.lash_model.specs.Standing.{StandsForWhole, StandsForMixed}
use Rattle.lash_model.specs.Tables.{Table, letters, ints, fracs, IsTable}
use Rattle.lash_model.specs.Acceptance.{int_state, accepts_lasso}
use Rattle.lash_model.proofs.Digits.{power_positive}
use Rattle.part_laws.specs.Graphs.{Graph, colour, IsWord, IsGraph, IsWeak}
use Rattle.part_laws.specs.CanonicalMixed.{fraction_graph}
use Rattle.part_laws.proofs.Turning.{turns, turns-add, Back, back_later, on_its_loop, settles}
use Rattle.part_laws.proofs.Walking.{round, walk-copies, walk_below, weak_turns}
use Rattle.part_laws.proofs.LassoWords.{words_lasso, fraction_is_graph, root_in, out_in, int_walk_in}
use Rattle.part_laws.proofs.Mapped.{map_at}
use Rattle.product_ops.specs.Restriction.{colour_of_zeros, restricted, whole_lasso, AcceptsWholes, IsAfterZeros, AreEnds}

pub some_letter : (t : Table) → IsTable t → 0 < letters t
some_letter t h = power_positive t.base t.tracks (omega (arith, h.shape.base_low))

-- ---- colours after letters 0
one_colour : (width : ℕ) (g : Graph) → IsGraph width g → IsWeak width g → (q times : ℕ) → q < length g.colours → 0 < width → length g.colours ≤ times
    → slice_index g.colours (go g.rows width q (copies times (0 ∷ []))) ≡ slice_index g.colours (go g.rows width q (copies (length g.colours) (0 ∷ [])))
one_colour width g s weak q times q_in some enough = ap (colour g) (walk-copies g.rows width times (0 ∷ []) q)
    ∙ settles f (colour g) m (weak_turns width g weak (0 ∷ []) word (omega arith)) closed q q_in times looped
    ∙ ap (colour g) (sym (walk-copies g.rows width m (0 ∷ []) q))
  where
    m : ℕ
    m = length g.colours

    f : ℕ → ℕ
    f = round g.rows width (0 ∷ [])

    word : IsWord width (0 ∷ [])
    word = (some, tt)

    closed : (x : ℕ) → x < m → f x < m
    closed x h = walk_below width g s x (0 ∷ []) h word

    later : m + (times - m) ≡ times
    later = omega (arith, enough)

    looped : Back f (turns f times q)
    looped = subst (λ k. Back f (turns f k q)) later (subst (Back f) (sym (turns-add f m (times - m) q))
        (back_later f (times - m) (turns f m q) (on_its_loop f m closed q q_in)))

-- after at least as many letters 0 as there are fraction states the colour is that of all of them
pub colour_at_end : (t : Table) → IsTable t → IsWeak (letters t) (fraction_graph t) → (q after : ℕ) → q < fracs t
    → IsAfterZeros t.frac_rows (letters t) (fracs t) q after → slice_index t.colours after ≡ colour_of_zeros t q
colour_at_end t h weak q after q_in z = ap (λ p. slice_index t.colours p) (sym z.leads)
    ∙ one_colour (letters t) (fraction_graph t) (fraction_is_graph t h) weak q z.times q_in (some_letter t h) z.enough

-- ---- what the diagram accepts
pub restricted_accepts : (t : Table) → IsTable t → AcceptsWholes t (restricted t)
restricted_accepts t h sign w lt a = ap (λ c. nat_eq c 1) (map_at (colour_of_zeros t) t.outs (int_state t sign w)
    (int_walk_in t h (slice_index t.roots sign) w (root_in t h sign lt) (recursion_from_All (λ l. l < letters t) w a)))

-- ---- values over the denominator of a lasso of zeros
zero_entry : (r n i x : ℕ) → x ≡ 0 → slice_index (digits r n x) i ≡ 0
unfolding digits
zero_entry r zero i x e = refl
zero_entry r (suc n) zero x e = ap (λ y. y / r ^ n) e ∙ zero-div (r ^ n)
zero_entry r (suc n) (suc i) x e = zero_entry r n i (x % r ^ n) (ap (λ y. y % r ^ n) e ∙ zero-mod (r ^ n))

zero_digit : (r n i : ℕ) → digit r n i 0 ≡ 0
unfolding digit
zero_digit r n i = zero_entry r n i 0 refl

once : (r : ℕ) → r ^ 1 ≡ r
once r = rw (pow-suc r 0, pow-zero r) (omega arith)

zeros_denominator : (r c sign : ℕ) (w : List ℕ) → r ≡ suc (suc c) → denominator r (whole_lasso sign w) ≡ suc c * 1
unfolding denominator
zeros_denominator r c sign w e = rw (pow-zero r, once r, e) (omega arith)

once_times : (c : ℕ) (v : ℤ) → (pos (suc c * 1) *ℤ v) +ℤ pos 0 ≡ pos (suc c) *ℤ v
once_times c v = ap (λ k. (pos k *ℤ v) +ℤ pos 0) (times_one (suc c)) ∙ omega (arith, int_rules)
  where
    times_one : (k : ℕ) → k * 1 ≡ k
    times_one k = omega arith

zeros_numerator : (r c n i sign : ℕ) (w : List ℕ) → r ≡ suc (suc c) → numerator r n i (whole_lasso sign w) ≡ pos (suc c) *ℤ value r n i sign w
unfolding numerator spelled
zeros_numerator r c n i sign w e = rw (zeros_denominator r c sign w e, nothing) (once_times c (value r n i sign w))
  where
    nothing : (r ^ 1 - 1) * spelled r n i [] + spelled r n i (0 ∷ []) ≡ 0
    nothing = rw (zero_digit r n i) (omega arith)

zeros_numerators : (r c n sign : ℕ) (w : List ℕ) → r ≡ suc (suc c) → numerators r n (whole_lasso sign w) ≡ scale (suc c) (values r n sign w)
zeros_numerators r c n sign w e =
    vector_from_same (λ i. numerator r n i (whole_lasso sign w)) (λ i. pos (suc c) *ℤ value r n i sign w) 0 n (λ i a b. zeros_numerator r c n i sign w e)
    ∙ sym (scale-vector_from (suc c) (λ i. value r n i sign w) 0 n)

two_less : (r : ℕ) → 2 ≤ r → r ≡ suc (suc (r - 2))
two_less r h = omega (arith, h)

-- the diagram stands for the set for which the table stands, whichever set of fractions that is
pub restricted_stands : (t : Table) → IsTable t → (P : List ℤ → ℕ → Type 0) → IsOfFractions P → StandsForMixed t P → StandsForWhole (restricted t) P
restricted_stands t h P free s = record {
  diagram = refl;
  each = λ sign w lt a. subst (λ b. IsTrue b ↔ P (values t.base t.tracks sign w) 1) (sym (restricted_accepts t h sign w lt a)) (at sign w lt a);
}
  where
    at : (sign : ℕ) (w : List ℕ) → sign < 2 ^ t.tracks → All (λ l. l < letters t) w
        → IsTrue (accepts_lasso t (whole_lasso sign w)) ↔ P (values t.base t.tracks sign w) 1
    at sign w lt a = (
      λ e. (same.1) (subst (λ ns. P ns (suc c * 1)) ns_are (subst (λ d. P (numerators t.base t.tracks x) d) d_is (said.0 e))),
      λ p. said.1 (subst (λ d. P (numerators t.base t.tracks x) d) (sym d_is) (subst (λ ns. P ns (suc c * 1)) (sym ns_are) (same.0 p))),
    )
      where
        x : Lasso
        x = whole_lasso sign w

        c : ℕ
        c = t.base - 2

        e_is : t.base ≡ suc (suc (t.base - 2))
        e_is = two_less t.base h.shape.base_low

        said : IsTrue (accepts_lasso t x) ↔ P (numerators t.base t.tracks x) (denominator t.base x)
        said = s.each x (words_lasso t.base t.tracks x lt (record {
          whole = recursion_from_All (λ l. l < letters t) w a;
          stem = tt;
          cycle = (some_letter t h, tt);
        }) (omega arith))

        ns_are : numerators t.base t.tracks x ≡ scale (suc c) (values t.base t.tracks sign w)
        ns_are = zeros_numerators t.base c t.tracks sign w e_is

        d_is : denominator t.base x ≡ suc c * 1
        d_is = zeros_denominator t.base c sign w e_is

        same : P (values t.base t.tracks sign w) 1 ↔ P (scale (suc c) (values t.base t.tracks sign w)) (suc c * 1)
        same = free c (values t.base t.tracks sign w) 1

-- ---- the answer of an integer state
pub end_colour : (t : Table) → IsTable t → IsWeak (letters t) (fraction_graph t) → 0 < fracs t → (state out end : ℕ) (ends : List ℕ) → state < ints t
    → length ends ≡ fracs t → AreEnds t.frac_rows (letters t) (fracs t) ends → out ≡ slice_index t.outs state → end ≡ slice_index ends out
    → slice_index t.colours end ≡ colour_of_zeros t (slice_index t.outs state)
end_colour t h weak some state out end ends lt count e o n = ap (λ q. slice_index t.colours q) (n ∙ ap (λ q. slice_index ends q) o)
    ∙ colour_at_end t h weak (slice_index t.outs state) (slice_index ends (slice_index t.outs state)) inside
    (e.each (slice_index t.outs state) (omega (arith, inside, count)))
  where
    inside : slice_index t.outs state < fracs t
    inside = out_in t h some state lt

yes_is_one : (c : ℕ) → nat_eq c 1 ≡ true → 1 ≡ c
yes_is_one c e = sym (eqb-true c 1 e)

no_is_zero : (c : ℕ) → c < 2 → nat_eq c 1 ≡ false → 0 ≡ c
no_is_zero zero lt e = refl
no_is_zero (suc zero) lt e = cc
no_is_zero (suc (suc c)) lt e = absurd (omega (arith, lt))

pub one_if_yes : (c d : ℕ) (answer : Bool) → c ≡ d → answer ≡ nat_eq c 1 → answer ≡ true → 1 ≡ d
one_if_yes c d answer e is yes_it_is = yes_is_one c (sym is ∙ yes_it_is) ∙ e

pub zero_if_no : (c d : ℕ) (answer : Bool) → c < 2 → c ≡ d → answer ≡ nat_eq c 1 → answer ≡ false → 0 ≡ d
zero_if_no c d answer lt e is no_it_is = no_is_zero c lt (sym is ∙ no_it_is) ∙ e
