-- Solutions of diagrams: what a diagram accepts, and the least of it in the order of breadth-first search (own choice).
use Rattle.std.specs.Prelude.{ℕ, ◌^◌, ◌<◌, ◌≡◌, List, All, true, false, slice_index}
use Rattle.graph_laws.specs.Paths.{AtMost}
use Rattle.lash_model.specs.Tables.{Table, letters, ints}
use Rattle.lash_model.specs.Acceptance.{accepts_word}

-- no sign vector and word are accepted
abbrev pub AcceptsNothing : Table → Type 0
AcceptsNothing t = (sign : ℕ) (w : List ℕ) → sign < 2 ^ t.tracks → All (λ l. l < letters t) w → accepts_word t sign w ≡ false

-- the sign vector and the word are in range and accepted, and all that are accepted are the same or greater: by length, then sign
-- vector, then letters
pub record IsLeastAccepted (t : Table) (sign : ℕ) (whole : List ℕ) : Type 0 where
  pub sign_in : sign < 2 ^ t.tracks
  pub letters_in : All (λ l. l < letters t) whole
  pub accepted : accepts_word t sign whole ≡ true
  pub least : (other : ℕ) (w : List ℕ) → other < 2 ^ t.tracks → All (λ l. l < letters t) w → accepts_word t other w ≡ true → AtMost (record { start = sign; word = whole }) (record { start = other; word = w })

-- the first state whose output is yes (own)
pub record IsFirstYes (t : Table) (q : ℕ) : Type 0 where
  pub inside : q < ints t
  pub yes : slice_index t.outs q ≡ 1
  pub first : (p : ℕ) → p < q → slice_index t.outs p ≡ 1 → ⊥
