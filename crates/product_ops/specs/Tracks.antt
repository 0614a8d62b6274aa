-- The tracks that an operand reads of a result's letters: track i of the operand is the result's track at place i of a list.
use Rattle.std.specs.Prelude.{◌≡◌, ℕ, ◌<◌, List, length, slice_index, map, All, ℤ, pos}
use Rattle.std.specs.List.{slice_index_or, AllPairs}
use Rattle.lash_model.specs.Letters.{digits, number}

-- the result's number of tracks, and for each operand the tracks that it reads
pub record TrackLists : Type 0 where
  pub tracks : ℕ
  pub left : List ℕ
  pub right : List ℕ

-- the places are distinct tracks
pub record AreTracks (tracks : ℕ) (places : List ℕ) : Type 0 where
  pub below : All (λ i. i < tracks) places
  pub distinct : AllPairs (λ i j. i ≡ j → ⊥) places

-- the digits at places
abbrev pub pick : List ℕ → List ℕ → List ℕ
pick places ds = map (λ i. slice_index ds i) places

-- the numerators at places
abbrev pub pick_entries : List ℕ → List ℤ → List ℤ
pick_entries places ns = map (λ i. slice_index_or ns i (pos 0)) places

-- base, number of tracks, places, letter: the letter whose digits are the letter's digits at the places. A sign vector is read so in
-- base 2
unfoldable pub read_by : ℕ → ℕ → List ℕ → ℕ → ℕ
read_by base tracks places letter = number base (pick places (digits base tracks letter))

-- the first n letters are read
pub record AreRead (base tracks : ℕ) (places : List ℕ) (n : ℕ) (readings : List ℕ) : Type 0 where
  pub count : length readings ≡ n
  pub each : (l : ℕ) → l < n → slice_index readings l ≡ read_by base tracks places l
