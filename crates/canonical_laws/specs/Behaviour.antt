-- The behaviour of states: the outputs after all words; and classes of states of equal behaviour (Myhill and Nerode).
use Rattle.std.specs.Prelude.{ℕ, ◌+◌, ◌*◌, ◌<◌, ◌≤◌, ◌≡◌, List, length, slice_index}
use Rattle.std.specs.List.{AllByRecursion}
use Rattle.graph_laws.specs.Walks.{go}

-- the outputs of the two states are equal after every word of the letters below width
abbrev pub Behaves : List ℕ → ℕ → List ℕ → ℕ → ℕ → Type 0
Behaves rows width outs p q = (w : List ℕ) → AllByRecursion (λ l. l < width) w → slice_index outs (go rows width p w) ≡ slice_index outs (go rows width q w)

-- a class for each state, named by its least member: two states have one class exactly where they behave alike
pub record AreClasses (rows : List ℕ) (width : ℕ) (outs classes : List ℕ) : Type 0 where
  pub count : length classes ≡ length outs
  pub least : (q : ℕ) → q < length outs → slice_index classes q ≤ q
  pub own : (q : ℕ) → q < length outs → slice_index classes (slice_index classes q) ≡ slice_index classes q
  pub coarse : (p q : ℕ) → p < length outs → q < length outs → Behaves rows width outs p q → slice_index classes p ≡ slice_index classes q
  pub fine : (p q : ℕ) → p < length outs → q < length outs → slice_index classes p ≡ slice_index classes q → Behaves rows width outs p q
