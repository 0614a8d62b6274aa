-- In a canonical table nothing is accepted from a fraction state exactly if its colour is no and all its steps lead to itself: if nothing
-- is accepted from it, then nothing is from its targets, so that they accept the same lassos as it, and are it.
use Rattle.std.proofs.Common.{◌≡◌, ℕ, zero, suc, ◌+◌, ◌*◌, ◌<◌, true, false, List, [], ◌∷◌, ◌++◌, length, arith, refl, ◌∙◌, sym, ap}
use Rattle.std.specs.Prelude.{slice_index, nat_eq}
use Rattle.std.proofs.lemmas.Bool.{eqb-true, false_from_ne_true}
use Rattle.graph_laws.specs.Walks.{go, copies}
use Rattle.lash_model.specs.Tables.{Table, letters, fracs, IsTable}
use Rattle.lash_model.proofs.Digits.{power_positive}
use Rattle.part_laws.specs.Graphs.{IsWord, IsGraph}
use Rattle.part_laws.specs.Endings.{ComesBack, accepts_from, AcceptAlike}
use Rattle.part_laws.specs.CanonicalMixed.{fraction_graph, IsCanonicalMixed}
use Rattle.part_laws.proofs.LassoWords.{fraction_is_graph}
use Rattle.part_laws.proofs.Walking.{word-append, word-copies, some_more}
use Rattle.part_laws.proofs.Accepting.{comes_back}
use Rattle.part_laws.proofs.Pumping.{alike_colours}
use Rattle.solution_pick.specs.FractionSolutions.{AcceptsSome, IsYesLoop, LeadsNowhere}
use Rattle.solution_pick.specs.FractionSearches.{IsDead}

-- no stem and cycle are accepted from the state
abbrev AcceptsNone : Table → ℕ → Type 0
AcceptsNone t q = (stem cycle : List ℕ) → IsWord (letters t) stem → IsWord (letters t) cycle → 0 < length cycle
    → accepts_from (letters t) (fraction_graph t) q stem cycle ≡ false

pub parted : false ≡ true → ⊥
parted e = cc

-- ---- from a dead state
stays_walk : (rows : List ℕ) (width q : ℕ) → ((l : ℕ) → l < width → slice_index rows (q * width + l) ≡ q) → (w : List ℕ) → IsWord width w
    → go rows width q w ≡ q
stays_walk rows width q s [] a = refl
stays_walk rows width q s (l ∷ w) a = ap (λ p. go rows width p w) (s l a.0) ∙ stays_walk rows width q s w a.1

pub dead_accepts_none : (t : Table) (q : ℕ) → IsDead t q → (stem cycle : List ℕ) → IsWord (letters t) stem → IsWord (letters t) cycle
    → accepts_from (letters t) (fraction_graph t) q stem cycle ≡ false
dead_accepts_none t q d stem cycle a b = ap (λ p. nat_eq (slice_index t.colours p) 1)
    (stays_walk t.frac_rows (letters t) q d.stays (stem ++ copies (fracs t) cycle)
    (word-append (letters t) stem (copies (fracs t) cycle) a (word-copies (letters t) (fracs t) cycle b)))
    ∙ d.colour

pub dead_not_some : (t : Table) (q : ℕ) → IsDead t q → AcceptsSome t q → ⊥
dead_not_some t q d s = parted (sym (dead_accepts_none t q d s.stem s.cycle s.stem_in s.cycle_in) ∙ s.accepted)

-- ---- if nothing is accepted
none_dead : (t : Table) → IsCanonicalMixed t → (q : ℕ) → q < fracs t → AcceptsNone t q → IsDead t q
none_dead t c q q_in none = record {
  colour = ap (λ p. nat_eq (slice_index t.colours p) 1) (sym (stays_walk t.frac_rows (letters t) q stay (copies (fracs t) (0 ∷ []))
      (word-copies (letters t) (fracs t) (0 ∷ []) zero_in)))
      ∙ none [] (0 ∷ []) tt zero_in (omega arith);
  stays = stay;
}
  where
    zero_in : IsWord (letters t) (0 ∷ [])
    zero_in = (power_positive t.base t.tracks (omega (arith, c.table.shape.base_low)), tt)

    graph : IsGraph (letters t) (fraction_graph t)
    graph = fraction_is_graph t c.table

    alike : (l : ℕ) → l < letters t → AcceptAlike (letters t) (fraction_graph t) (fraction_graph t) (slice_index t.frac_rows (q * letters t + l)) q
    alike l l_in stem cycle a b some = none (l ∷ stem) cycle (l_in, a) b some ∙ sym (none stem cycle a b some)

    stay : (l : ℕ) → l < letters t → slice_index t.frac_rows (q * letters t + l) ≡ q
    stay l l_in = c.fraction_separated (slice_index t.frac_rows (q * letters t + l)) q (graph.rows_in q l q_in l_in) q_in
        (λ w a. alike_colours (letters t) (fraction_graph t) (fraction_graph t) graph graph c.weak c.weak c.by_rank c.by_rank
        (slice_index t.frac_rows (q * letters t + l)) q (graph.rows_in q l q_in l_in) q_in (alike l l_in) w a)

-- ---- what is accepted leads to a loop of colour yes
some_copies : (n : ℕ) (v : List ℕ) → 0 < n → 0 < length v → 0 < length (copies n v)
some_copies zero v some h = absurd (omega (arith, some))
some_copies (suc n) v some h = some_more v (copies n v) h

accepted_loops : (t : Table) → IsTable t → (q : ℕ) → q < fracs t → (stem cycle : List ℕ) → IsWord (letters t) stem → IsWord (letters t) cycle
    → 0 < length cycle → accepts_from (letters t) (fraction_graph t) q stem cycle ≡ true
    → IsYesLoop t (go t.frac_rows (letters t) q (stem ++ copies (fracs t) cycle))
accepted_loops t h q q_in stem cycle a b some e = record {
  loops = record {
    word = copies back.turns cycle;
    some = some_copies back.turns cycle back.some some;
    letters = word-copies (letters t) back.turns cycle b;
    leads = back.back;
  };
  yes = eqb-true (slice_index t.colours (go t.frac_rows (letters t) q (stem ++ copies (fracs t) cycle))) 1 e;
}
  where
    back : ComesBack t.frac_rows (letters t) (fracs t) (go t.frac_rows (letters t) q (stem ++ copies (fracs t) cycle)) cycle
    back = comes_back (letters t) (fraction_graph t) (fraction_is_graph t h) q stem cycle q_in a b

none_without_loops : (t : Table) → IsTable t → (q : ℕ) → q < fracs t → LeadsNowhere t q → AcceptsNone t q
none_without_loops t h q q_in none stem cycle a b some = false_from_ne_true (accepts_from (letters t) (fraction_graph t) q stem cycle)
    (λ e. none (stem ++ copies (fracs t) cycle) (word-append (letters t) stem (copies (fracs t) cycle) a (word-copies (letters t) (fracs t) cycle b))
    (accepted_loops t h q q_in stem cycle a b some e))

pub nowhere_dead : (t : Table) → IsCanonicalMixed t → (q : ℕ) → q < fracs t → LeadsNowhere t q → IsDead t q
nowhere_dead t c q q_in none = none_dead t c q q_in (none_without_loops t c.table q q_in none)
