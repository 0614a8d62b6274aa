-- The limits of a formula, in the order in which they are judged.
use Rattle.std.specs.Prelude.{ℕ, ◌+◌, ◌^◌, Bool, false, ◌||◌, nat_lt, List, [], ◌∷◌, length}
use Rattle.script_syntax.specs.Trees.{PartShape, Constant, Scaled, Variable, SignedShape, TreeShape, Truth, Compare, Call, Not, And, Or, Implies, Equivalent, Quantified}

-- the greatest number that a script may have
abbrev pub literal_limit : ℕ
literal_limit = 2 ^ 64

abbrev pub part_passes : PartShape → Bool
part_passes (Constant n) = nat_lt literal_limit n
part_passes (Scaled n name) = nat_lt literal_limit n
part_passes (Variable name) = false

abbrev pub term_passes : List SignedShape → Bool
term_passes [] = false
term_passes (s ∷ ss) = part_passes s.part || term_passes ss

abbrev pub terms_pass : List (List SignedShape) → Bool
terms_pass [] = false
terms_pass (t ∷ ts) = term_passes t || terms_pass ts

-- some number of the tree passes the limit of literals
abbrev pub literal_passes : TreeShape → Bool
literal_passes (Truth b) = false
literal_passes (Compare a r b) = term_passes a || term_passes b
literal_passes (Call name ts) = terms_pass ts
literal_passes (Not f) = literal_passes f
literal_passes (And f g) = literal_passes f || literal_passes g
literal_passes (Or f g) = literal_passes f || literal_passes g
literal_passes (Implies f g) = literal_passes f || literal_passes g
literal_passes (Equivalent f g) = literal_passes f || literal_passes g
literal_passes (Quantified q ds f) = literal_passes f

-- how many parts terms have together
abbrev pub parts_of : List (List SignedShape) → ℕ
parts_of [] = 0
parts_of (t ∷ ts) = length t + parts_of ts

-- how many parts of terms and declared variables a tree has
abbrev pub size_of : TreeShape → ℕ
size_of (Truth b) = 0
size_of (Compare a r b) = length a + length b
size_of (Call name ts) = parts_of ts
size_of (Not f) = size_of f
size_of (And f g) = size_of f + size_of g
size_of (Or f g) = size_of f + size_of g
size_of (Implies f g) = size_of f + size_of g
size_of (Equivalent f g) = size_of f + size_of g
size_of (Quantified q ds f) = length ds + size_of f

-- the greatest number of parts of a term: no statement has more bytes
abbrev pub terms_limit : ℕ
terms_limit = 65536
