-- Cells of some bits each, one after the other in words of 64 bits.
use Rattle.std.specs.Prelude.{ℕ, List, ◌*◌, ◌+◌, ◌^◌, ◌<◌, ◌≤◌, slice_index, if◌then◌else◌}
use Rattle.std.specs.Prelude.{nat_le, All}

-- a list of numbers, and how many bits each of them has
pub record InBits : Type 0 where
  pub items : List ℕ
  pub bits : ℕ

-- so many cells of so many bits have their words, and no word more
pub record IsFull (count bits words : ℕ) : Type 0 where
  pub low : 1 ≤ bits
  pub high : bits ≤ 32
  pub few : count * bits ≤ 2 ^ 40
  pub enough : count * bits ≤ words * 64
  pub least : words * 64 < count * bits + 64

-- a word, with the next one above it if bits up to an end go past the word: words, place of the word, end
abbrev pub pair_of : List ℕ → ℕ → ℕ → ℕ
pair_of words word end = if nat_le end 64 then slice_index words word else slice_index words word + slice_index words (word + 1) * 2 ^ 64

-- so many bits hold each number of a list, and no fewer do, but for one
pub record IsLeastBits (items : List ℕ) (bits : ℕ) : Type 0 where
  pub some : 1 ≤ bits
  pub holds : All (λ n. n < 2 ^ bits) items
  pub least : (fewer : ℕ) → 1 ≤ fewer → All (λ n. n < 2 ^ fewer) items → bits ≤ fewer
