-- What the answers of a parser say of a list of tokens. The end of the list counts as a token: with m past the length, the tree is spelled by exactly the list.
use Rattle.std.specs.Prelude.{◌≡◌, ℕ, ◌+◌, List, take}
use Rattle.parser_laws.specs.Parsing.{Lang}

-- some tree begins with the first m tokens
abbrev pub Fits : {T : Type 0} → Lang T → ℕ → List T → Type 0
Fits L m ts = (b : L.Tree) × (take m ts ≡ take m (L.toks b))

-- some tree within the nesting does
abbrev pub FitsWithin : {T : Type 0} → Lang T → ℕ → List T → Type 0
FitsWithin L m ts = (b : L.Tree) × L.In b × (take m ts ≡ take m (L.toks b))

-- the tokens are a tree within the nesting
pub record IsRead {T : Type 0} (L : Lang T) (ts : List T) (a : L.Tree) : Type 0 where
  pub spelled : ts ≡ L.toks a
  pub within : L.In a

-- the token at k is the first with which no tree begins, and no group is one too many before it
pub record IsSyntaxAt {T : Type 0} (L : Lang T) (ts : List T) (k : ℕ) : Type 0 where
  pub before : FitsWithin L k ts
  pub excluded : ¬ Fits L (k + 1) ts

-- the token at k opens the first group that is one too many
pub record IsNestingAt {T : Type 0} (L : Lang T) (ts : List T) (k : ℕ) : Type 0 where
  pub before : FitsWithin L k ts
  pub goes_on : Fits L (k + 1) ts
  pub excluded : ¬ FitsWithin L (k + 1) ts
