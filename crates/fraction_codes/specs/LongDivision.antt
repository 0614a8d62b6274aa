-- Long division of several numbers by one divisor, in step: the school's method, in any base.
use Rattle.std.specs.Prelude.{◌≡◌, ◌≢◌, ℕ, zero, suc, ◌+◌, ◌*◌, ◌/◌, ◌%◌, ◌<◌, List, [], ◌∷◌, map}
use Rattle.lash_model.specs.Letters.{number}

-- base, divisor, remainders: a step multiplies each remainder by the base; the quotients are the digits of the step's letter
abbrev pub next_letter : ℕ → ℕ → List ℕ → ℕ
next_letter r d rests = number r (map (λ p. r * p / d) rests)

-- and what is left are the next remainders
abbrev pub next_rests : ℕ → ℕ → List ℕ → List ℕ
next_rests r d rests = map (λ p. r * p % d) rests

-- the remainders after so many steps
unfoldable pub rests_after : ℕ → ℕ → ℕ → List ℕ → List ℕ
rests_after r d zero rests = rests
rests_after r d (suc k) rests = rests_after r d k (next_rests r d rests)

-- the letters of so many steps
unfoldable pub letters_of : ℕ → ℕ → ℕ → List ℕ → List ℕ
letters_of r d zero rests = []
letters_of r d (suc k) rests = next_letter r d rests ∷ letters_of r d k (next_rests r d rests)

-- of a sequence, what stands at place `stem` is the first that is met again later, and it is met again `cycle` places on and not
-- before
pub record IsFirstMetAgain (steps : ℕ → List ℕ) (stem cycle : ℕ) : Type 0 where
  pub turns : 0 < cycle
  pub again : steps (stem + cycle) ≡ steps stem
  pub not_between : (c : ℕ) → 0 < c → c < cycle → steps (stem + c) ≢ steps stem
  pub not_before : (i j : ℕ) → i < stem → i < j → steps i ≢ steps j
