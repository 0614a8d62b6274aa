-- Matchings of the states of two graphs, or of two tables (bisimulations of Park 1981), for instance of states and their classes. States
-- of the first that no path leads to may be left out.
use Rattle.std.specs.Prelude.{ℕ, ◌+◌, ◌*◌, ◌^◌, ◌<◌, ◌≡◌, List, length, slice_index}
use Rattle.std.specs.List.{AllByRecursion}
use Rattle.graph_laws.specs.Walks.{go}
use Rattle.lash_model.specs.Tables.{Table, letters}
use Rattle.canonical_laws.specs.Behaviour.{Behaves}
use Rattle.part_laws.specs.Graphs.{Graph}
use Rattle.part_laws.specs.CanonicalMixed.{fraction_graph}

-- steps lead from matched states to matched ones, matched states have one colour, and each state of the second graph is matched
pub record IsMatching (width : ℕ) (rel : ℕ → ℕ → Type 0) (a b : Graph) : Type 0 where
  pub first_in : (p q : ℕ) → rel p q → p < length a.colours
  pub second_in : (p q : ℕ) → rel p q → q < length b.colours
  pub steps : (p q l : ℕ) → rel p q → l < width → rel (slice_index a.rows (p * width + l)) (slice_index b.rows (q * width + l))
  pub colours : (p q : ℕ) → rel p q → slice_index a.colours p ≡ slice_index b.colours q
  pub source : ℕ → ℕ
  pub matched : (q : ℕ) → q < length b.colours → rel (source q) q

-- both parts are matched, with roots and outputs: integer states by the first relation, and fraction states by the second
pub record IsTableMatching (ints fractions : ℕ → ℕ → Type 0) (t u : Table) : Type 0 where
  pub base : t.base ≡ u.base
  pub tracks : t.tracks ≡ u.tracks
  pub fraction_part : IsMatching (letters t) fractions (fraction_graph t) (fraction_graph u)
  pub first_in : (p q : ℕ) → ints p q → p < length t.outs
  pub roots : (sign : ℕ) → sign < 2 ^ t.tracks → ints (slice_index t.roots sign) (slice_index u.roots sign)
  pub steps : (p q l : ℕ) → ints p q → l < letters t
      → ints (slice_index t.rows (p * letters t + l)) (slice_index u.rows (q * letters t + l))
  pub outs : (p q : ℕ) → ints p q → fractions (slice_index t.outs p) (slice_index u.outs q)
  pub source : ℕ → ℕ
  pub matched : (q : ℕ) → q < length u.outs → ints (source q) q

-- one state of the second table is matched with both
pub record HaveOneMatch (rel : ℕ → ℕ → Type 0) (p q : ℕ) : Type 0 where
  pub state : ℕ
  pub first : rel p state
  pub second : rel q state

-- states that behave alike are matched with one state: fraction states with equal colours after every word, and integer states whose
-- outputs have one match after every word
pub record IsLeastMatching (ints fractions : ℕ → ℕ → Type 0) (t u : Table) : Type 0 where
  pub fraction_states : (p q i j : ℕ) → fractions p i → fractions q j → Behaves t.frac_rows (letters t) t.colours p q → i ≡ j
  pub int_states : (p q i j : ℕ) → ints p i → ints q j
      → ((w : List ℕ) → AllByRecursion (λ l. l < letters t) w
      → HaveOneMatch fractions (slice_index t.outs (go t.rows (letters t) p w)) (slice_index t.outs (go t.rows (letters t) q w)))
      → i ≡ j
