-- The diagram of the whole numbers of a table with fraction states, and lists of fraction states after digits of 0.
use Rattle.std.specs.Prelude.{◌≡◌, ℕ, ◌+◌, ◌*◌, ◌^◌, ◌<◌, ◌≤◌, List, [], ◌∷◌, ◌++◌, length, map, take, drop, slice_index, All}
use Rattle.graph_laws.specs.Walks.{go, copies}
use Rattle.lash_model.specs.Lassos.{Lasso}
use Rattle.lash_model.specs.Tables.{Table, letters, fracs}
use Rattle.lash_model.specs.Acceptance.{accepts_word, accepts_lasso}

-- the colour after as many letters 0 as there are fraction states
abbrev pub colour_of_zeros : Table → ℕ → ℕ
colour_of_zeros t q = slice_index t.colours (go t.frac_rows (letters t) q (copies (fracs t) (0 ∷ [])))

-- the diagram with the table's roots and rows, and with the colours after the digits 0 as outputs
abbrev pub restricted : Table → Table
restricted t = record {
  base = t.base;
  tracks = t.tracks;
  roots = t.roots;
  rows = t.rows;
  outs = map (colour_of_zeros t) t.outs;
  frac_rows = [];
  colours = [];
}

-- the word as a lasso: its digits after the point are 0
abbrev pub whole_lasso : ℕ → List ℕ → Lasso
whole_lasso sign w = record { sign = sign; whole = w; stem = []; cycle = 0 ∷ [] }

-- the diagram accepts a word exactly if the table accepts the word, followed by the point and zeros
abbrev pub AcceptsWholes : Table → Table → Type 0
AcceptsWholes t u = (sign : ℕ) (w : List ℕ) → sign < 2 ^ t.tracks → All (λ l. l < letters t) w → accepts_word u sign w ≡ accepts_lasso t (whole_lasso sign w)

-- the state after some number of letters 0, which is at least so many
pub record IsAfterZeros (rows : List ℕ) (width least q after : ℕ) : Type 0 where
  pub times : ℕ
  pub enough : least ≤ times
  pub leads : go rows width q (copies times (0 ∷ [])) ≡ after

-- for each state one after at least so many letters 0
pub record AreEnds (rows : List ℕ) (width least : ℕ) (ends : List ℕ) : Type 0 where
  pub inside : All (λ q. q < length ends) ends
  pub each : (q : ℕ) → q < length ends → IsAfterZeros rows width least q (slice_index ends q)

-- of so many states, those after one letter 0 from the first of them
pub record AreFirstEnds (rows : List ℕ) (width states count : ℕ) (list : List ℕ) : Type 0 where
  pub counted : length list ≡ count
  pub inside : All (λ q. q < states) list
  pub each : (q : ℕ) → q < count → slice_index list q ≡ slice_index rows (q * width + 0)

-- the first of them are after at least twice as many
pub record AreDoubled (rows : List ℕ) (width least count : ℕ) (list : List ℕ) : Type 0 where
  pub ends : AreEnds rows width least list
  pub first : (q : ℕ) → q < count → IsAfterZeros rows width (2 * least) q (slice_index list q)

-- the first n numbers, and zeros for the others
abbrev pub copied : ℕ → List ℕ → List ℕ
copied n xs = take n xs ++ map (λ _. 0) (drop n xs)

-- a table of which so many roots, targets and outputs are filled
abbrev pub filled : Table → ℕ → ℕ → ℕ → Table
filled t roots rows outs = record t { roots = copied roots t.roots; rows = copied rows t.rows; outs = copied outs t.outs }
