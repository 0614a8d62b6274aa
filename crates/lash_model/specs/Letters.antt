-- Letters, digits and sign vectors. All components of a vector are read in step (Boigelot, Jodogne and Wolper 2005): a letter of
-- n tracks in base r is a number below r ^ n, and its digits are its expansion, the first track highest.
use Rattle.std.specs.Prelude.{ℕ, zero, suc, ◌+◌, ◌-◌, ◌*◌, ◌/◌, ◌%◌, ◌^◌, ◌<◌, ◌≡◌, List, [], ◌∷◌, length, slice_index, All, map}

-- the expansion of x with n digits in base r, the highest first
unfoldable pub digits : ℕ → ℕ → ℕ → List ℕ
digits r zero x = []
digits r (suc n) x = x / r ^ n ∷ digits r n (x % r ^ n)

-- the number that digits spell
unfoldable pub number : ℕ → List ℕ → ℕ
number r [] = 0
number r (d ∷ ds) = d * r ^ length ds + number r ds

-- n digits, each below r
pub record AreDigits (r n : ℕ) (ds : List ℕ) : Type 0 where
  pub count : length ds ≡ n
  pub below : All (λ d. d < r) ds

-- of a letter over n tracks, the digit of track i: place i of its expansion
unfoldable pub digit : ℕ → ℕ → ℕ → ℕ → ℕ
digit r n i letter = slice_index (digits r n letter) i

-- of a sign vector over n tracks, the bit of track i; 1 is the sign of a negative number
unfoldable pub sign_bit : ℕ → ℕ → ℕ → ℕ
sign_bit n i sign = digit 2 n i sign

-- the letter of the sign digits: r - 1 on each negative track, 0 on the others
unfoldable pub sign_letter : ℕ → ℕ → ℕ → ℕ
sign_letter r n sign = number r (map (λ bit. bit * (r - 1)) (digits 2 n sign))
