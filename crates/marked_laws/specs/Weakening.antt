-- From a marked table to a weak one (own). A marked table is an automaton with fraction states whose states of colour no are its marks: it
-- accepts if no mark is met from some place on (co-Büchi acceptance). Each part of the graph of fraction states gets one colour, no if it
-- has a marked state. A state that is reached is torn if one loop at it meets a mark and one meets none; its words show that no weak
-- automaton has the set.
use Rattle.std.specs.Prelude.{◌≡◌, ℕ, ◌^◌, ◌<◌, ◌↔◌, Bool, true, false, IsTrue, List, [], ◌∷◌, ◌++◌, length, All, slice_index, ℤ}
use Rattle.graph_laws.specs.Walks.{go}
use Rattle.lash_model.specs.Lassos.{Lasso, IsLasso, numerators, denominator}
use Rattle.lash_model.specs.Tables.{Table, letters, fracs}
use Rattle.lash_model.specs.Acceptance.{int_state, accepts_lasso, is_clear, accepts_marked}
use Rattle.part_laws.specs.Graphs.{Reaches, AreOnePart}

-- a marked table stands for a set
pub record StandsForMarked (t : Table) (P : List ℤ → ℕ → Type 0) : Type 0 where
  pub fractions : 0 < fracs t
  pub each : (x : Lasso) → IsLasso t.base t.tracks x → IsTrue (accepts_marked t x) ↔ P (numerators t.base t.tracks x) (denominator t.base x)

-- a sign vector, a whole part and a stem lead to the fraction state
pub record IsLedTo (t : Table) (sign : ℕ) (whole stem : List ℕ) (q : ℕ) : Type 0 where
  pub sign_in : sign < 2 ^ t.tracks
  pub whole_in : All (λ l. l < letters t) whole
  pub stem_in : All (λ l. l < letters t) stem
  pub leads : go t.frac_rows (letters t) (slice_index t.outs (int_state t sign whole)) stem ≡ q

pub record IsReachedState (t : Table) (q : ℕ) : Type 0 where
  pub sign : ℕ
  pub whole : List ℕ
  pub stem : List ℕ
  pub led : IsLedTo t sign whole stem q

-- a word that is not empty leads back to the state, and no mark is met
pub record IsClearLoop (t : Table) (q : ℕ) (w : List ℕ) : Type 0 where
  pub letters_in : All (λ l. l < letters t) w
  pub some : 0 < length w
  pub leads : go t.frac_rows (letters t) q w ≡ q
  pub clear : IsTrue (is_clear t q w)

-- a word leads back to the state, and a mark is met
pub record IsMarkedLoop (t : Table) (q : ℕ) (w : List ℕ) : Type 0 where
  pub letters_in : All (λ l. l < letters t) w
  pub leads : go t.frac_rows (letters t) q w ≡ q
  pub front : List ℕ
  pub rest : List ℕ
  pub parted : w ≡ front ++ rest
  pub marked : slice_index t.colours (go t.frac_rows (letters t) q front) ≡ 0

-- the state is reached and lies on a loop that meets no mark, and a marked state is in its part
pub record IsTornAt (t : Table) (q : ℕ) : Type 0 where
  pub reached : IsReachedState t q
  pub word : List ℕ
  pub loop : IsClearLoop t q word
  pub mark : ℕ
  pub marked : slice_index t.colours mark ≡ 0
  pub there : Reaches t.frac_rows (letters t) q mark
  pub back : Reaches t.frac_rows (letters t) mark q

-- some state is torn: a reached part has a loop without a mark and a loop with one
pub record IsTorn (t : Table) : Type 0 where
  pub state : ℕ
  pub torn : IsTornAt t state

-- a marked state is in the part of a state
pub record HasMark (t : Table) (q : ℕ) : Type 0 where
  pub state : ℕ
  pub inside : state < fracs t
  pub in_part : AreOnePart t.frac_rows (letters t) state q
  pub marked : slice_index t.colours state ≡ 0

-- the table with other colours
abbrev pub recoloured : Table → List ℕ → Table
recoloured t colours = record { base = t.base; tracks = t.tracks; roots = t.roots; rows = t.rows; outs = t.outs; frac_rows = t.frac_rows; colours = colours }

-- the table with the colours of its parts: no exactly if the part has a marked state
pub record IsWeakForm (t u : Table) : Type 0 where
  pub same : u ≡ recoloured t u.colours
  pub count : length u.colours ≡ fracs t
  pub two : (q : ℕ) → q < fracs t → slice_index u.colours q < 2
  pub marked : (q : ℕ) → q < fracs t → HasMark t q → slice_index u.colours q ≡ 0
  pub found : (q : ℕ) → q < fracs t → slice_index u.colours q ≡ 0 → HasMark t q

-- the second table accepts a lasso by its last colour exactly if the first one does by its marks
abbrev pub AcceptsAsMarked : Table → Table → Type 0
AcceptsAsMarked t u = (x : Lasso) → IsLasso t.base t.tracks x → IsTrue (accepts_lasso u x) ↔ IsTrue (accepts_marked t x)

-- two words, the one or the other as often as asked
abbrev pub joined : List ℕ → List ℕ → List Bool → List ℕ
joined a b [] = []
joined a b (true ∷ choices) = a ++ joined a b choices
joined a b (false ∷ choices) = b ++ joined a b choices

-- however the two words are joined after the stem, the first one for ever leads into the set, and no word that is joined and ends
-- in the second one does: a weak automaton could not tell these
pub record ShowsNotWeak (P : List ℤ → ℕ → Type 0) (r n sign : ℕ) (whole stem accept reject : List ℕ) : Type 0 where
  pub accepts : (x : List Bool) → P (numerators r n (record { sign = sign; whole = whole; stem = stem ++ joined accept reject x; cycle = accept }))
      (denominator r (record { sign = sign; whole = whole; stem = stem ++ joined accept reject x; cycle = accept }))
  pub rejects : (x y : List Bool)
      → P (numerators r n (record { sign = sign; whole = whole; stem = stem ++ joined accept reject x; cycle = joined accept reject y ++ reject }))
      (denominator r (record { sign = sign; whole = whole; stem = stem ++ joined accept reject x; cycle = joined accept reject y ++ reject })) → ⊥

-- a sign vector and words in range, and neither of the two last is empty
pub record AreShown (r n sign : ℕ) (whole stem accept reject : List ℕ) : Type 0 where
  pub sign_in : sign < 2 ^ n
  pub whole_in : All (λ l. l < r ^ n) whole
  pub stem_in : All (λ l. l < r ^ n) stem
  pub accept_in : All (λ l. l < r ^ n) accept
  pub reject_in : All (λ l. l < r ^ n) reject
  pub some_accept : 0 < length accept
  pub some_reject : 0 < length reject
