-- Comparing two canonical tables.
use Rattle.std.proofs.Common.{◌≡◌, ℕ, zero, suc, arith, ◌+◌, ◌*◌, ◌^◌, ◌<◌, ◌↔◌, length, ◌∙◌, sym, ap, subst, refl, rules}
use Rattle.std.specs.Prelude.{slice_index, nat_eq}
use Rattle.lash_model.specs.Tables.{Table, letters, IsTable}
use Rattle.canonical_laws.specs.Canonical.{IsCanonical, AcceptSameWords}
use Rattle.canonical_laws.proofs.Diagrams.{same_lists, same_rows, diagrams_unique, read_below}
use Rattle.part_laws.specs.CanonicalMixed.{IsCanonicalMixed, AcceptSameLassos}
use Rattle.part_laws.proofs.CanonicalTables.{mixed_unique}
use Rattle.weak_min.specs.Shapes.{IsSameShape}

-- tables whose roots have one entry each are equal there
pub equal_roots : (t u : Table) → IsTable t → IsTable u → t.tracks ≡ u.tracks → ((j : ℕ) → j < 2 ^ t.tracks → slice_index t.roots j ≡ slice_index u.roots j) → t.roots ≡ u.roots
equal_roots t u h k e same = same_lists t.roots u.roots (h.roots_count ∙ ap (λ n. 2 ^ n) e ∙ sym k.roots_count) (λ i lt. same i (subst (λ n. i < n) h.roots_count lt))

pub equal_rows : (t u : Table) → IsTable t → IsTable u → letters t ≡ letters u → length t.outs ≡ length u.outs → ((q : ℕ) → q < length t.outs → (l : ℕ) → l < letters t → slice_index t.rows (q * letters t + l) ≡ slice_index u.rows (q * letters t + l)) → t.rows ≡ u.rows
equal_rows t u h k e f same = same_rows t.rows u.rows (length t.outs) (letters t) h.rows_count (k.rows_count ∙ ap (λ n. n * letters u) (sym f) ∙ ap (λ w. length t.outs * w) (sym e)) (λ q l q_in l_in. same q q_in l l_in)

pub equal_fraction_rows : (t u : Table) → IsTable t → IsTable u → letters t ≡ letters u → length t.colours ≡ length u.colours
    → ((q : ℕ) → q < length t.colours → (l : ℕ) → l < letters t → slice_index t.frac_rows (q * letters t + l) ≡ slice_index u.frac_rows (q * letters t + l))
    → t.frac_rows ≡ u.frac_rows
equal_fraction_rows t u h k e f same = same_rows t.frac_rows u.frac_rows (length t.colours) (letters t) h.frac_rows_count
    (k.frac_rows_count ∙ ap (λ n. n * letters u) (sym f) ∙ ap (λ w. length t.colours * w) (sym e)) (λ q l q_in l_in. same q q_in l l_in)

-- colours are equal if both or neither are yes
one_bit : (x y : ℕ) → x < 2 → y < 2 → nat_eq x 1 ≡ nat_eq y 1 → x ≡ y
one_bit zero zero hx hy e = refl
one_bit zero (suc zero) hx hy e = search rules
one_bit (suc zero) zero hx hy e = search rules
one_bit (suc zero) (suc zero) hx hy e = refl
one_bit (suc (suc x)) y hx hy e = absurd (omega (arith, hx))
one_bit x (suc (suc y)) hx hy e = absurd (omega (arith, hy))

pub equal_colour : (t u : Table) → IsTable t → IsTable u → length t.colours ≡ length u.colours → (q : ℕ) → q < length t.colours
    → nat_eq (slice_index t.colours q) 1 ≡ nat_eq (slice_index u.colours q) 1 → slice_index t.colours q ≡ slice_index u.colours q
equal_colour t u h k e q lt same = one_bit (slice_index t.colours q) (slice_index u.colours q) (read_below t.colours 2 q h.colours_in lt)
    (read_below u.colours 2 q k.colours_in (subst (λ n. q < n) e lt)) same

-- tables of one shape with equal lists are equal
pub equal_tables : (t u : Table) → IsSameShape t u → t.roots ≡ u.roots → t.rows ≡ u.rows → t.outs ≡ u.outs → t.frac_rows ≡ u.frac_rows → t.colours ≡ u.colours → t ≡ u
equal_tables t u s roots rows outs frac_rows colours = ap (λ x. record t { base = x }) s.base ∙ ap (λ x. record t { base = u.base; tracks = x }) s.tracks
    ∙ ap (λ x. record t { base = u.base; tracks = u.tracks; roots = x }) roots ∙ ap (λ x. record t { base = u.base; tracks = u.tracks; roots = u.roots; rows = x }) rows
    ∙ ap (λ x. record u { outs = x; frac_rows = t.frac_rows; colours = t.colours }) outs ∙ ap (λ x. record u { frac_rows = x; colours = t.colours }) frac_rows
    ∙ ap (λ x. record u { colours = x }) colours

accept_same_lassos : (t u : Table) → t ≡ u → AcceptSameLassos t u
accept_same_lassos t u e = subst (λ v. AcceptSameLassos t v) e (λ x l. refl)

-- equal exactly if they accept the same lassos
pub equal_by_lassos : (t u : Table) (holds : Type 0) → IsCanonicalMixed t → IsCanonicalMixed u → holds ↔ (t ≡ u) → t.base ≡ u.base → t.tracks ≡ u.tracks → holds ↔ AcceptSameLassos t u
equal_by_lassos t u holds h k i b n = (λ y. accept_same_lassos t u (i.0 y), λ w. i.1 (mixed_unique t u h k b n w))

accept_same : (t u : Table) → t ≡ u → AcceptSameWords t u
accept_same t u e = subst (λ v. AcceptSameWords t v) e (λ sign w lt a. refl)

-- equal exactly where they accept the same words
pub equal_by_words : (t u : Table) (holds : Type 0) → IsCanonical t → IsCanonical u → holds ↔ (t ≡ u) → t.base ≡ u.base → t.tracks ≡ u.tracks → holds ↔ AcceptSameWords t u
equal_by_words t u holds h k i b n = (λ y. accept_same t u (i.0 y), λ w. i.1 (diagrams_unique t u h k b n w))
