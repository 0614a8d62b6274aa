-- Sets of places, as lists without repetition.
use Rattle.std.specs.Prelude.{ℕ, ◌≡◌, ◌<◌, Bool, ◌&&◌, nat_lt, nat_eq, List, length, Option, None, Some}
use Rattle.std.specs.List.{IsDistinct, filter, range_with_len}
use Rattle.std.specs.Set.{is_member}
use Rattle.lash_model.specs.Formulas.{Formula}
use Rattle.formula_core.specs.Counts.{uses}
use Rattle.formula_core.specs.FewLetters.{AreFew, HasFewLetters}

-- the places below n that pass the test, rising
abbrev pub passing : (ℕ → Bool) → ℕ → List ℕ
passing test n = filter test (range_with_len 0 n)

-- the list holds just the places below n that pass the test, each once
pub record IsSetOf (test : ℕ → Bool) (n : ℕ) (places : List ℕ) : Type 0 where
  pub distinct : IsDistinct nat_eq places
  pub each : (k : ℕ) → is_member nat_eq places k ≡ (nat_lt k n && test k)

-- such a list, or none where more than 12 places pass
abbrev pub Gathers : (ℕ → Bool) → ℕ → Option (List ℕ) → Type 0
Gathers test n None = 12 < length (passing test n)
Gathers test n (Some places) = IsSetOf test n places

-- such a list where the letters over those places are few, and else none
abbrev pub Judges : ℕ → (ℕ → Bool) → ℕ → Option (List ℕ) → Type 0
Judges base test n None = AreFew base (length (passing test n)) → ⊥
Judges base test n (Some places) = AreFew base (length (passing test n)) × IsSetOf test n places

-- a list of the formula's free places where all its letters are few, and else none
abbrev pub Finds : ℕ → Formula → ℕ → Option (List ℕ) → Type 0
Finds base f n None = HasFewLetters base f n → ⊥
Finds base f n (Some places) = HasFewLetters base f n × IsSetOf (λ k. uses k f) n places
