-- The pairs of states of two diagrams that read one word (the synchronous product), as a machine whose keys are pairs.
use Rattle.std.specs.Prelude.{◌≡◌, ℕ, ◌+◌, ◌*◌, ◌^◌, ◌<◌, ◌≤◌, Bool, ◌&&◌, nat_eq, nat_lt, if◌then◌else◌, List, [], ◌∷◌, length, slice_index, map, All}
use Rattle.std.specs.List.{range_with_len}
use Rattle.graph_laws.specs.Exploring.{Steps, KeyTable, list_at, IsExplored}
use Rattle.lash_model.specs.Tables.{Table, letters, ints, IsTable}
use Rattle.lash_model.specs.Words.{values}
use Rattle.lash_model.specs.Acceptance.{accepts_word}
use Rattle.product_ops.specs.Tracks.{TrackLists, AreTracks, pick_entries, read_by, AreRead}
use Rattle.product_ops.specs.Operations.{truth}
use Rattle.product_ops.specs.declared.operation.Op.{Op}

-- an automaton, the result's number of tracks, and those that the automaton reads
pub record Operand : Type 0 where
  pub table : Table
  pub tracks : ℕ
  pub places : List ℕ

-- its root for a sign vector of the result
abbrev pub root_by : Operand → ℕ → ℕ
root_by o sign = slice_index o.table.roots (read_by 2 o.tracks o.places sign)

-- where a state of it goes on a letter of the result
abbrev pub step_by : Operand → ℕ → ℕ → ℕ
step_by o q l = slice_index o.table.rows (q * letters o.table + read_by o.table.base o.tracks o.places l)

-- whether it accepts what it reads of a sign vector and a word of the result
abbrev pub accepts_by : Operand → ℕ → List ℕ → Bool
accepts_by o sign w = accepts_word o.table (read_by 2 o.tracks o.places sign) (map (read_by o.table.base o.tracks o.places) w)

abbrev pub left_operand : Table → TrackLists → Operand
left_operand t m = record { table = t; tracks = m.tracks; places = m.left }

abbrev pub right_operand : Table → TrackLists → Operand
right_operand t m = record { table = t; tracks = m.tracks; places = m.right }

-- a state of each
abbrev pub pair : ℕ → ℕ → List ℕ
pair p q = p ∷ q ∷ []

-- the key is a pair of states below these numbers
abbrev pub is_pair : ℕ → ℕ → List ℕ → Bool
is_pair lefts rights k = nat_eq (length k) 2 && (nat_lt (slice_index k 0) lefts && nat_lt (slice_index k 1) rights)

-- the machine of pairs: a start for each sign vector, and on each letter both go on; a pair weighs its two entries
abbrev pub pairs_of : Operand → Operand → Steps
pairs_of a b = record {
  width = a.table.base ^ a.tracks;
  starts = map (λ sign. pair (root_by a sign) (root_by b sign)) (range_with_len 0 (2 ^ a.tracks));
  step = λ k l. pair (step_by a (slice_index k 0) l) (step_by b (slice_index k 1) l);
  weight = λ _. 2;
  is_proper = is_pair (ints a.table) (ints b.table);
}

-- two tables read by a map of tracks
abbrev pub pairs : Table → Table → TrackLists → Steps
pairs a b m = pairs_of (left_operand a m) (right_operand b m)

-- the two operands of a machine of pairs
pub record Operands : Type 0 where
  pub left : Operand
  pub right : Operand

-- an automaton that reads distinct tracks, as many as it has, out of few letters
pub record IsOperand (o : Operand) : Type 0 where
  pub table : IsTable o.table
  pub places : AreTracks o.tracks o.places
  pub count : length o.places ≡ o.table.tracks
  pub few : o.table.base ^ o.tracks ≤ 4096

-- of one base, and of the tracks of one result
pub record AreOperands (o : Operands) : Type 0 where
  pub left_is : IsOperand o.left
  pub right_is : IsOperand o.right
  pub one_base : o.left.table.base ≡ o.right.table.base
  pub one_count : o.left.tracks ≡ o.right.tracks

-- the counts are those of the operands
pub record IsCounted (width signs : ℕ) (o : Operands) : Type 0 where
  pub width_is : width ≡ o.left.table.base ^ o.left.tracks
  pub signs_are : signs ≡ 2 ^ o.left.tracks
  pub operands : AreOperands o

-- what the operand reads of each letter and of each sign vector
pub record IsReading (o : Operand) (of_letters of_signs : List ℕ) : Type 0 where
  pub operand : IsOperand o
  pub letters_read : AreRead o.table.base o.tracks o.places (o.table.base ^ o.tracks) of_letters
  pub signs_read : AreRead 2 o.tracks o.places (2 ^ o.tracks) of_signs

abbrev pub bit : Bool → ℕ
bit b = if b then 1 else 0

-- whether the output of a pair is yes
abbrev pub pair_says : Op → Table → Table → List ℕ → Bool
pair_says op a b k = truth op (nat_eq (slice_index a.outs (slice_index k 0)) 1) (nat_eq (slice_index b.outs (slice_index k 1)) 1)

-- the output of the pair at a position
abbrev pub out_by : Op → Table → Table → List (List ℕ) → ℕ → ℕ
out_by op a b keys i = bit (pair_says op a b (list_at keys i))

-- the table of exactly the reached pairs, numbered by their least paths, within the limit of cells
pub record IsPairTable (op : Op) (a b : Table) (m : TrackLists) (limit : ℕ) (t : Table) : Type 0 where
  pub found : KeyTable
  pub explored : IsExplored (pairs a b m) limit found
  pub states : ints t ≡ length found.keys
  pub roots_are : t.roots ≡ found.starts
  pub rows_are : t.rows ≡ found.rows
  pub outs_are : (i : ℕ) → i < length found.keys → slice_index t.outs i ≡ out_by op a b found.keys i

-- the table gives the truth function of the operands' answers, under each sign vector and to each word
abbrev pub AcceptsBoth : Op → Table → Table → TrackLists → Table → Type 0
AcceptsBoth op a b m t = (sign : ℕ) (w : List ℕ) → sign < 2 ^ m.tracks → All (λ l. l < a.base ^ m.tracks) w → accepts_word t sign w ≡ truth op (accepts_by (left_operand a m) sign w) (accepts_by (right_operand b m) sign w)

-- what an operand reads of a sign vector and a word of the result is a sign vector and a word of its own, which spell the numerators at
-- its places
pub record IsReadAs (o : Operand) (sign : ℕ) (w : List ℕ) : Type 0 where
  pub sign_in : read_by 2 o.tracks o.places sign < 2 ^ o.table.tracks
  pub letters_in : All (λ l. l < letters o.table) (map (read_by o.table.base o.tracks o.places) w)
  pub spells : values o.table.base o.table.tracks (read_by 2 o.tracks o.places sign) (map (read_by o.table.base o.tracks o.places) w) ≡ pick_entries o.places (values o.table.base o.tracks sign w)

abbrev pub ReadsPicked : Operand → Type 0
ReadsPicked o = (sign : ℕ) (w : List ℕ) → sign < 2 ^ o.tracks → All (λ l. l < o.table.base ^ o.tracks) w → IsReadAs o sign w
