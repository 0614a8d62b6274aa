-- The words of a torn table (own choice): the least way to a torn state, the least loop at that state that meets no mark, and the least
-- one that meets a mark.
use Rattle.std.specs.Prelude.{◌≡◌, ℕ, ◌<◌, ◌⊎◌, List, length}
use Rattle.graph_laws.specs.Paths.{Path, AtMost, Before, first}
use Rattle.lash_model.specs.Tables.{Table}
use Rattle.marked_laws.specs.Weakening.{IsLedTo, IsClearLoop, IsMarkedLoop, IsTornAt}

-- a way to a fraction state: a sign vector and a whole part as a path, and a stem
pub record Arrival : Type 0 where
  pub pair : Path
  pub stem : List ℕ

-- stems of one length: the pair is less, or the pairs are the same, and the stem's letters are the same or less
abbrev pub IsEarlier : Arrival → Arrival → Type 0
IsEarlier a b = Before a.pair b.pair ⊎ ((a.pair ≡ b.pair) × ((a.stem ≡ b.stem) ⊎ first a.stem b.stem))

-- the one is the other or comes before it: shorter stems first, then lesser pairs, then letters
abbrev pub IsNoLater : Arrival → Arrival → Type 0
IsNoLater a b = (length a.stem < length b.stem) ⊎ ((length a.stem ≡ length b.stem) × IsEarlier a b)

-- the one word is the other or comes before it: shorter words first, then by letters
abbrev pub IsWordAtMost : List ℕ → List ℕ → Type 0
IsWordAtMost u v = AtMost (record { start = 0; word = u }) (record { start = 0; word = v })

-- sign vector, whole part, stem: the arrival of these
abbrev pub arrival : ℕ → List ℕ → List ℕ → Arrival
arrival sign whole stem = record { pair = record { start = sign; word = whole }; stem = stem }

-- the least way to a torn state, and from there the least word back that meets no mark, and the least one that meets a mark
pub record AreTornWords (t : Table) (sign : ℕ) (whole stem accept reject : List ℕ) : Type 0 where
  pub state : ℕ
  pub torn : IsTornAt t state
  pub led : IsLedTo t sign whole stem state
  pub least : (q other : ℕ) (w u : List ℕ) → IsTornAt t q → IsLedTo t other w u q → IsNoLater (arrival sign whole stem) (arrival other w u)
  pub accepts : IsClearLoop t state accept
  pub accept_least : (w : List ℕ) → IsClearLoop t state w → IsWordAtMost accept w
  pub rejects : IsMarkedLoop t state reject
  pub reject_least : (w : List ℕ) → IsMarkedLoop t state w → IsWordAtMost reject w
