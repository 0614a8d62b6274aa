-- The least path to the first state whose output is yes is the least accepted one.
use Rattle.std.proofs.Common.{◌≡◌, ℕ, ◌^◌, ◌≤◌, ◌<◌, true, false, List, [], ◌∷◌, inl, inr, arith, ◌∙◌, sym, ap, subst}
use Rattle.std.specs.Prelude.{slice_index, nat_eq, All}
use Rattle.std.proofs.lemmas.Bool.{cases_lt, eqb-true}
use Rattle.std.proofs.lemmas.List.Elements.{recursion_from_All, All-from_recursion}
use Rattle.graph_laws.specs.Paths.{Path}
use Rattle.lash_model.specs.Tables.{Table, letters, IsTable}
use Rattle.lash_model.specs.Acceptance.{int_state}
use Rattle.lash_model.specs.Lassos.{IsLasso}
use Rattle.lash_model.proofs.Digits.{power_positive}
use Rattle.canonical_laws.specs.Canonical.{IsPathOf, IsCanonical}
use Rattle.least_paths.specs.Nets.{IsOrdered, int_net}
use Rattle.least_paths.specs.Arrivals.{IsLeastTo}
use Rattle.least_paths.proofs.PathEnds.{meet, int_closed}
use Rattle.least_paths.proofs.LeastPaths.{least_at_most}
use Rattle.solution_pick.specs.Solutions.{AcceptsNothing, IsLeastAccepted, IsFirstYes}

pub path_of : (t : Table) → IsTable t → (sign : ℕ) (w : List ℕ) → sign < 2 ^ t.tracks → All (λ l. l < letters t) w
    → IsPathOf t.roots (letters t) (record { start = sign; word = w })
path_of t h sign w lt a = record { start = subst (λ n. sign < n) (sym h.roots_count) lt; letters = recursion_from_All (λ l. l < letters t) w a }

pub canonical_ordered : (t : Table) → IsCanonical t → IsOrdered (int_net t)
canonical_ordered t c = record { closed = int_closed t c.table; numbered = c.numbered }

pub least_accepted : (t : Table) → IsCanonical t → (q sign : ℕ) (w : List ℕ) → IsFirstYes t q → IsLeastTo (int_net t) q (record { start = sign; word = w })
    → IsLeastAccepted t sign w
least_accepted t c q sign w f s = record {
  sign_in = subst (λ n. sign < n) c.table.roots_count s.valid.start;
  letters_in = All-from_recursion (λ l. l < letters t) w s.valid.letters;
  accepted = ap (λ p. nat_eq (slice_index t.outs p) 1) s.leads ∙ ap (λ x. nat_eq x 1) f.yes;
  least = λ other v lt a e. least_at_most (int_net t) (canonical_ordered t c) q (record { start = sign; word = w }) (record { start = other; word = v }) s
      (path_of t c.table other v lt a) (not_earlier (int_state t other v) (eqb-true (slice_index t.outs (int_state t other v)) 1 e));
}
  where
    not_earlier : (p : ℕ) → slice_index t.outs p ≡ 1 → q ≤ p
    not_earlier p e = elim (cases_lt p q) [ inl lt ↦ absurd (f.first p lt e) | inr ge ↦ ge ]

-- ---- the lasso
pub in_range : (t : Table) → IsTable t → (sign : ℕ) (w : List ℕ) → IsLeastAccepted t sign w
    → IsLasso t.base t.tracks (record { sign = sign; whole = w; stem = []; cycle = 0 ∷ [] })
in_range t h sign w s = record {
  sign = s.sign_in;
  whole = s.letters_in;
  stem = All-from_recursion (λ l. l < letters t) [] tt;
  cycle = All-from_recursion (λ l. l < letters t) (0 ∷ []) (power_positive t.base t.tracks (omega (arith, h.shape.base_low)), tt);
  turns = omega arith;
}

-- ---- laws
pub not_both : (t : Table) (sign : ℕ) (w : List ℕ) → AcceptsNothing t → IsLeastAccepted t sign w → ⊥
not_both t sign w none s = parted (sym (none sign w s.sign_in s.letters_in) ∙ s.accepted)
  where
    parted : false ≡ true → ⊥
    parted e = cc

abbrev pub pair : ℕ → List ℕ → Path
pair sign w = record { start = sign; word = w }

pub one_path : (t : Table) (sign other : ℕ) (w v : List ℕ) → IsLeastAccepted t sign w → IsLeastAccepted t other v → pair sign w ≡ pair other v
one_path t sign other w v a b = meet (pair sign w) (pair other v) (a.least other v b.sign_in b.letters_in b.accepted)
    (b.least sign w a.sign_in a.letters_in a.accepted)
