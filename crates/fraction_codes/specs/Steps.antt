-- What the parts of encoding and of reading back give, one to another.
use Rattle.std.specs.Prelude.{◌≡◌, ◌≢◌, ℕ, ◌+◌, ◌-◌, ◌*◌, ◌%◌, ◌^◌, ◌≤◌, ◌<◌, Bool, true, false, List, All, length, map, take, drop, ◌++◌, slice_index, ◌==◌, ℤ, pos, negsuc, neg_ℤ, ◌-ℤ◌, ◌*ℤ◌, ◌≤ℤ◌, unsigned_abs}
use Prim.Native.Nat.{◌∣◌}
use Rattle.std.specs.Int.{IsGcd}
use Rattle.std.specs.List.{count_by}
use Rattle.fraction_codes.specs.Fractions.{floor, IsWholeTimes}
use Rattle.fraction_codes.specs.LongDivision.{next_letter, next_rests, rests_after, letters_of}
use Rattle.lash_model.specs.Words.{spelled}
use Rattle.fraction_codes.specs.declared.ratio.Ratio.{Ratio}
use Rattle.fraction_codes.specs.declared.returning.Turn.{Turn}
use Rattle.fraction_codes.specs.declared.reading.Spelled.{Spelled}
use Rattle.fraction_codes.specs.declared.text.Track.{Track}

-- how far an integer is from the first of its sign, 0 or -1: its digits are those of this number, or their complements
abbrev pub sign_distance : ℤ → ℕ
sign_distance (pos n) = n
sign_distance (negsuc n) = n

-- the floor, moved up by a power of the base where it is negative
abbrev pub raised : ℕ → ℤ → ℕ
raised power (pos n) = n
raised power (negsuc n) = power - (n + 1)

-- the greatest common divisor, by its multiples: what divides k * a and k * b divides k * g
pub record IsGreatestDivisor (a b g : ℕ) : Type 0 where
  pub first : g ∣ a
  pub second : g ∣ b
  pub greatest : (d k : ℕ) → d ∣ (a * k) → d ∣ (b * k) → d ∣ (g * k)

-- the least common multiple
pub record IsLeastMultiple (a b m : ℕ) : Type 0 where
  pub positive : 0 < m
  pub first : a ∣ m
  pub second : b ∣ m
  pub least : (k : ℕ) → a ∣ k → b ∣ k → m ∣ k

-- the denominator in lowest terms
pub record IsReduced (v : Ratio) (d : ℕ) : Type 0 where
  pub positive : 0 < d
  pub small : d ≤ 2 ^ 100
  pub clears : (k : ℕ) → d ∣ k → IsWholeTimes k v
  pub least : (k : ℕ) → IsWholeTimes k v → d ∣ k

-- the powers of r, over d, first meet one that was met before at place stem + cycle, and it was met at place stem
pub record IsPowerTurn (r d : ℕ) (t : Turn) : Type 0 where
  pub turns : 0 < t.cycle
  pub again : r ^ (t.stem + t.cycle) % d ≡ r ^ t.stem % d
  pub distinct : (i j : ℕ) → i < j → j < t.stem + t.cycle → r ^ i % d ≢ r ^ j % d

-- so many digits are the fewest with which x can be written
pub record IsDigitCount (r x k : ℕ) : Type 0 where
  pub enough : x < r ^ k
  pub least : (j : ℕ) → x < r ^ j → k ≤ j

-- base, number of tracks, track, word: what the word spells, read on from another, and the power of its length
pub record IsReadOn (r n i : ℕ) (w : List ℕ) (from to : Spelled) : Type 0 where
  pub power : to.power ≡ from.power * r ^ length w
  pub number : to.number ≡ from.number * r ^ length w + spelled r n i w
  pub below : to.number < to.power

-- a magnitude under a sign
abbrev pub signed : Bool → ℕ → ℤ
signed true m = neg_ℤ (pos m)
signed false m = pos m

-- so many digits have room for all floors, and no fewer have
pub record IsFloorCount (r : ℕ) (vs : List Ratio) (k : ℕ) : Type 0 where
  pub enough : All (λ v. sign_distance (floor v) < r ^ k) vs
  pub least : (j : ℕ) → All (λ v. sign_distance (floor v) < r ^ j) vs → k ≤ j

-- the word is the shortest that has room for all floors, and its letters are those of the division of the raised floors
pub record IsWholeWord (r : ℕ) (vs : List Ratio) (w : List ℕ) : Type 0 where
  pub room : IsFloorCount r vs (length w)
  pub letters : w ≡ letters_of r (r ^ length w) (length w) (map (λ v. raised (r ^ length w) (floor v)) vs)

-- what is spelled up to the stem's end, and up to the end of one cycle: the difference of the numbers is not above that of the powers
pub record IsTurned (stem end : Spelled) : Type 0 where
  pub powers : stem.power ≤ end.power
  pub numbers : stem.number ≤ end.number
  pub gained : end.number + stem.power ≤ end.power + stem.number
  pub below : end.number < end.power
  pub small : end.power ≤ 2 ^ 100

-- a numerator by its differences: where the sign is negative, that of the powers is taken off
abbrev pub turned : Bool → Spelled → Spelled → ℤ
turned true stem end = pos (end.number - stem.number) -ℤ pos (end.power - stem.power)
turned false stem end = pos (end.number - stem.number)

-- the fraction z / den in lowest terms
pub record IsLowest (z : ℤ) (den : ℕ) (v : Ratio) : Type 0 where
  pub positive : (pos 1) ≤ℤ v.den
  pub lowest : IsGcd (unsigned_abs v.num) (unsigned_abs v.den) 1
  pub same : v.num *ℤ pos den ≡ z *ℤ v.den

-- the first i of the remainders were divided once more, with the letter of their quotients
pub record IsDivided (r d : ℕ) (old now : List ℕ) (i letter : ℕ) : Type 0 where
  pub letter_is : letter ≡ next_letter r d (take i old)
  pub done : take i now ≡ next_rests r d (take i old)
  pub left : drop i now ≡ drop i old
  pub count : length now ≡ length old

-- some steps of a long division were made, and `rest` are left: the letters so far and those to come are all letters
pub record IsUnderWay (r d steps : ℕ) (old now word : List ℕ) (rest : ℕ) : Type 0 where
  pub letters : word ++ letters_of r d rest now ≡ letters_of r d steps old
  pub rests : rests_after r d rest now ≡ rests_after r d steps old
  pub count : length now ≡ length old
  pub below : All (λ p. p < d) now

-- the marks of the powers of r over d that were met before place k: one more than the first place of each, and 0 elsewhere
pub record AreMarks (r d k power : ℕ) (marks : List ℕ) : Type 0 where
  pub count : length marks ≡ d
  pub power_is : power ≡ r ^ k % d
  pub marked : (j : ℕ) → j < k → slice_index marks (r ^ j % d) ≡ j + 1
  pub met : (v j : ℕ) → v < d → slice_index marks v ≡ j + 1 → (j < k) × (r ^ j % d ≡ v)
  pub unmarked : k + count_by (λ m. m == 0) marks ≡ d

-- one of the tracks, in a base from 2 to 16
pub record IsTrack (t : Track) : Type 0 where
  pub radix : t.radix ≡ t.base
  pub low : 2 ≤ t.base
  pub high : t.base ≤ 16
  pub track : t.track < t.tracks
  pub few : t.base ^ t.tracks ≤ 4096
