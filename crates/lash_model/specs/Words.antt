-- The numbers that words of letters spell, in r's complement.
use Rattle.std.specs.Prelude.{◌≡◌, ℕ, ◌+◌, ◌*◌, ◌^◌, ◌<◌, List, [], ◌∷◌, length, map, All, ℤ, pos, ◌-ℤ◌, ◌≤ℤ◌, ◌<ℤ◌}
use Rattle.integer_laws.specs.Vectors.{vector}
use Rattle.lash_model.specs.Letters.{digit, sign_bit}

-- base, number of tracks, track, word: the number that the track's digits spell
unfoldable pub spelled : ℕ → ℕ → ℕ → List ℕ → ℕ
spelled r n i [] = 0
spelled r n i (l ∷ w) = digit r n i l * r ^ length w + spelled r n i w

-- base, number of tracks, track, sign vector, word: the track's value; a sign bit counts for minus r to the word's length
unfoldable pub value : ℕ → ℕ → ℕ → ℕ → List ℕ → ℤ
value r n i sign w = pos (spelled r n i w) -ℤ pos (sign_bit n i sign * r ^ length w)

-- the vector of all tracks' values
abbrev pub values : ℕ → ℕ → ℕ → List ℕ → List ℤ
values r n sign w = vector (λ i. value r n i sign w) n

-- the digits of a track, as integers
unfoldable pub track_digits : ℕ → ℕ → ℕ → List ℕ → List ℤ
track_digits r n i w = map (λ l. pos (digit r n i l)) w

-- a value whose sign bit is 0 is from 0 to r to the length, and one whose sign bit is 1 is below 0, from minus that on
pub record IsBounded (r k bit : ℕ) (v : ℤ) : Type 0 where
  pub positive : bit ≡ 0 → ((pos 0) ≤ℤ v) × (v <ℤ (pos (r ^ k)))
  pub negative : bit ≡ 1 → ((pos 0 -ℤ pos (r ^ k)) ≤ℤ v) × (v <ℤ (pos 0))

-- a sign vector of one track and a word of so many letters have the value
pub record SpellsNumber (r k : ℕ) (m : ℤ) : Type 0 where
  pub sign : ℕ
  pub word : List ℕ
  pub sign_below : sign < 2
  pub letters : All (λ l. l < r) word
  pub count : length word ≡ k
  pub is : value r 1 0 sign word ≡ m
