-- Positions in lists of places: track i of a formula's table is the formula's i-th free variable.
use Rattle.std.specs.Prelude.{ℕ, List, length, map, nat_eq, ℤ, pos}
use Rattle.std.specs.List.{slice_index_or, position_or_len}
use Rattle.integer_laws.specs.Vectors.{vector}
use Rattle.lash_model.specs.Formulas.{Formula}
use Rattle.formula_core.specs.Counts.{free_places}
use Rattle.product_ops.specs.Tracks.{TrackLists}

-- the first position of a place; the list's length where it is not there
abbrev pub position_of : List ℕ → ℕ → ℕ
position_of places place = position_or_len (nat_eq place) places

-- the positions of the second list's members in the first
abbrev pub positions : List ℕ → List ℕ → List ℕ
positions within places = map (position_of within) places

-- the vector of m entries that has, at each listed place, the entry at its position
abbrev pub spread : ℕ → List ℕ → List ℤ → List ℤ
spread m places ns = vector (λ p. slice_index_or ns (position_of places p) (pos 0)) m

-- formula, left part, right part, number of variables: the tracks of the formula's table, and those that the tables of its parts read
abbrev pub shared : Formula → Formula → Formula → ℕ → TrackLists
shared h f g m = record {
  tracks = length (free_places h m);
  left = positions (free_places h m) (free_places f m);
  right = positions (free_places h m) (free_places g m);
}
