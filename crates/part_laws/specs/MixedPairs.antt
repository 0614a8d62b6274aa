-- Tables with fraction states that are made of pairs of states of two others (the synchronous product of Rabin and Scott 1959).
use Rattle.std.specs.Prelude.{ℕ, ◌+◌, ◌*◌, ◌^◌, ◌<◌, ◌≡◌, Bool, if◌then◌else◌, List, [], ◌∷◌, length, slice_index, map}
use Rattle.std.specs.List.{range_with_len}
use Rattle.graph_laws.specs.Exploring.{Steps, KeyTable, IsExplored}
use Rattle.lash_model.specs.Lassos.{Lasso}
use Rattle.lash_model.specs.Tables.{Table, letters}
use Rattle.part_laws.specs.Graphs.{is_yes}
use Rattle.part_laws.specs.Images.{RunsOver}
use Rattle.part_laws.specs.CanonicalMixed.{fraction_graph}

-- an operand, and what it reads of a sign vector and of a letter
pub record MixedSide : Type 0 where
  pub table : Table
  pub read_sign : ℕ → ℕ
  pub read : ℕ → ℕ

-- what it reads of a lasso
abbrev pub read_lasso : MixedSide → Lasso → Lasso
read_lasso o x = record { sign = o.read_sign x.sign; whole = map o.read x.whole; stem = map o.read x.stem; cycle = map o.read x.cycle }

-- the table runs over the operand in both parts: each state has a place in it, and places go with roots, steps and outputs, on what is
-- read of sign vectors and letters
pub record RunsOverTable (t : Table) (o : MixedSide) : Type 0 where
  pub place : ℕ → ℕ
  pub in_range : (q : ℕ) → q < length t.outs → place q < length o.table.outs
  pub roots : (sign : ℕ) → sign < 2 ^ t.tracks → place (slice_index t.roots sign) ≡ slice_index o.table.roots (o.read_sign sign)
  pub steps : (q l : ℕ) → q < length t.outs → l < letters t
      → place (slice_index t.rows (q * letters t + l)) ≡ slice_index o.table.rows (place q * letters o.table + o.read l)
  pub fractions : RunsOver (letters t) (fraction_graph t) (letters o.table) (fraction_graph o.table) o.read
  pub outs : (q : ℕ) → q < length t.outs → fractions.place (slice_index t.outs q) ≡ slice_index o.table.outs (place q)

-- the table runs over both operands, and a colour is yes if the truth function of theirs says so
pub record IsMixedPairTable (t : Table) (left right : MixedSide) (op : Bool → Bool → Bool) : Type 0 where
  pub over_left : RunsOverTable t left
  pub over_right : RunsOverTable t right
  pub colours : (q : ℕ) → q < length t.colours
      → is_yes (fraction_graph t) q
      ≡ op (is_yes (fraction_graph left.table) (over_left.fractions.place q)) (is_yes (fraction_graph right.table) (over_right.fractions.place q))

-- rows of targets, their width, and what is read of a letter
pub record Reader : Type 0 where
  pub rows : List ℕ
  pub width : ℕ
  pub read : ℕ → ℕ

-- the two parts of an operand
abbrev pub int_reader : MixedSide → Reader
int_reader o = record { rows = o.table.rows; width = letters o.table; read = o.read }

abbrev pub fraction_reader : MixedSide → Reader
fraction_reader o = record { rows = o.table.frac_rows; width = letters o.table; read = o.read }

-- the machine of pairs of states: on each letter both go on, and a pair weighs its two entries
abbrev pub pair_steps : ℕ → Reader → Reader → List (List ℕ) → (List ℕ → Bool) → Steps
pair_steps width a b starts is_proper = record {
  width = width;
  starts = starts;
  step = λ k l. slice_index a.rows (slice_index k 0 * a.width + a.read l) ∷ slice_index b.rows (slice_index k 1 * b.width + b.read l) ∷ [];
  weight = λ _. 2;
  is_proper = is_proper;
}

-- the pairs of roots, and the pairs of outputs of the explored pairs
abbrev pub pair_roots : ℕ → MixedSide → MixedSide → List (List ℕ)
pair_roots tracks left right = map (λ sign. slice_index left.table.roots (left.read_sign sign) ∷ slice_index right.table.roots (right.read_sign sign) ∷ [])
    (range_with_len 0 (2 ^ tracks))

abbrev pub pair_outs : MixedSide → MixedSide → KeyTable → List (List ℕ)
pair_outs left right ints = map (λ k. slice_index left.table.outs (slice_index k 0) ∷ slice_index right.table.outs (slice_index k 1) ∷ []) ints.keys

-- what an operand reads of sign vectors and letters of the result is in range
pub record ReadsInRange (base tracks : ℕ) (o : MixedSide) : Type 0 where
  pub signs : (sign : ℕ) → sign < 2 ^ tracks → o.read_sign sign < 2 ^ o.table.tracks
  pub letters_in : (l : ℕ) → l < base ^ tracks → o.read l < letters o.table

-- the pairs of integer states are explored from the roots, and the pairs of fraction states from the outputs of those
pub record AreExploredPairs (base tracks : ℕ) (left right : MixedSide) (ints fractions : KeyTable) : Type 0 where
  pub left_reads : ReadsInRange base tracks left
  pub right_reads : ReadsInRange base tracks right
  pub int_limit : ℕ
  pub fraction_limit : ℕ
  pub is_int : List ℕ → Bool
  pub is_fraction : List ℕ → Bool
  pub int_states : IsExplored (pair_steps (base ^ tracks) (int_reader left) (int_reader right) (pair_roots tracks left right) is_int) int_limit ints
  pub fraction_states : IsExplored (pair_steps (base ^ tracks) (fraction_reader left) (fraction_reader right) (pair_outs left right ints) is_fraction)
      fraction_limit fractions

-- the colour of a pair, by the truth function of the colours of its entries
abbrev pub pair_colour : (Bool → Bool → Bool) → MixedSide → MixedSide → List ℕ → ℕ
pair_colour op left right k =
    if op (is_yes (fraction_graph left.table) (slice_index k 0)) (is_yes (fraction_graph right.table) (slice_index k 1)) then 1 else 0

-- the table of what was explored
abbrev pub explored_pairs : ℕ → ℕ → (Bool → Bool → Bool) → MixedSide → MixedSide → KeyTable → KeyTable → Table
explored_pairs base tracks op left right ints fractions = record {
  base = base;
  tracks = tracks;
  roots = ints.starts;
  rows = ints.rows;
  outs = fractions.starts;
  frac_rows = fractions.rows;
  colours = map (pair_colour op left right) fractions.keys;
}
