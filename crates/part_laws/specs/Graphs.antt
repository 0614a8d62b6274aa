-- Graphs with a colour for each state, their parts (strongly connected components) and weakness: the states of one part that lie on
-- loops have one colour (weak automata of Muller, Saoudi, Schupp 1986; for real numbers Boigelot, Jodogne, Wolper 2005).
use Rattle.std.specs.Prelude.{ℕ, ◌+◌, ◌*◌, ◌<◌, ◌≡◌, Bool, nat_eq, List, length, slice_index}
use Rattle.std.specs.List.{AllByRecursion}
use Rattle.graph_laws.specs.Walks.{go}

-- flat rows of targets, and a colour for each state: 1 is yes and 0 is no
pub record Graph : Type 0 where
  pub rows : List ℕ
  pub colours : List ℕ

-- how many states there are, and the colour of one
abbrev pub states : Graph → ℕ
states g = length g.colours

abbrev pub colour : Graph → ℕ → ℕ
colour g q = slice_index g.colours q

-- the state's colour is yes
abbrev pub is_yes : Graph → ℕ → Bool
is_yes g q = nat_eq (slice_index g.colours q) 1

-- all letters of the word are below width
abbrev pub IsWord : ℕ → List ℕ → Type 0
IsWord width w = AllByRecursion (λ l. l < width) w

-- targets are states, and colours are 0 or 1
pub record IsGraph (width : ℕ) (g : Graph) : Type 0 where
  pub rows_in : (q l : ℕ) → q < length g.colours → l < width → slice_index g.rows (q * width + l) < length g.colours
  pub colours_in : (q : ℕ) → q < length g.colours → slice_index g.colours q < 2

-- a word of the letters below width leads from the one state to the other
pub record Reaches (rows : List ℕ) (width p q : ℕ) : Type 0 where
  pub word : List ℕ
  pub letters : AllByRecursion (λ l. l < width) word
  pub leads : go rows width p word ≡ q

-- the two states reach each other
pub record AreOnePart (rows : List ℕ) (width p q : ℕ) : Type 0 where
  pub there : Reaches rows width p q
  pub back : Reaches rows width q p

-- a word of the letters below width that is not empty leads from the state to itself
pub record IsLooping (rows : List ℕ) (width q : ℕ) : Type 0 where
  pub word : List ℕ
  pub some : 0 < length word
  pub letters : AllByRecursion (λ l. l < width) word
  pub leads : go rows width q word ≡ q

-- looping states of one part have one colour
abbrev pub IsWeak : ℕ → Graph → Type 0
IsWeak width g = (p q : ℕ) → p < length g.colours → q < length g.colours → IsLooping g.rows width p → IsLooping g.rows width q
    → AreOnePart g.rows width p q → slice_index g.colours p ≡ slice_index g.colours q
