-- The pair after a word is the pair of states after what each operand reads of the word.
use Rattle.std.proofs.Common.{arith, ◌≡◌, ℕ, ◌^◌, ◌<◌, Bool, true, false, List, [], ◌∷◌, length, map, refl, ◌∙◌, sym, ap, subst, zero-add}
use Rattle.std.specs.Prelude.{slice_index, slice_get, nat_eq}
use Rattle.std.specs.declared.option.Option.TheVariants.{Some}
use Rattle.std.proofs.lemmas.List.FromFn.{get_or-map-range_with_len, length-map-range_with_len}
use Rattle.std.proofs.lemmas.List.{length-map, get_or-map}
use Rattle.std.proofs.lemmas.Option.{slice_get_within, get_or_from_slice_get}
use Rattle.graph_laws.specs.Walks.{go}
use Rattle.graph_laws.specs.Paths.{Path}
use Rattle.graph_laws.specs.Exploring.{Steps, KeyTable, list_at, led, after, IsPath, position, IsExplored, IsHeavy}
use Rattle.graph_laws.proofs.Weighing.{not_both}
use Rattle.lash_model.specs.Tables.{Table, letters, ints}
use Rattle.lash_model.specs.Acceptance.{int_state}
use Rattle.step_tables.specs.Kept.{Kept, plain, answered, laid}
use Rattle.product_ops.specs.Tracks.{TrackLists, read_by}
use Rattle.product_ops.specs.Operations.{truth}
use Rattle.product_ops.specs.Pairs.{Operand, Operands, AreOperands, root_by, step_by, accepts_by, left_operand, right_operand, pair, pairs_of, pairs, bit}
use Rattle.product_ops.specs.Pairs.{pair_says, IsPairTable, AcceptsBoth}
use Rattle.product_ops.specs.declared.operation.Op.{Op}
use Rattle.product_ops.proofs.TrackReading.{few_signs}

-- the state of an operand after what it reads of a sign vector and a word
abbrev state_by : Operand → ℕ → List ℕ → ℕ
state_by o sign w = int_state o.table (read_by 2 o.tracks o.places sign) (map (read_by o.table.base o.tracks o.places) w)

led_pairs : (a b : Operand) (p q : ℕ) (w : List ℕ) → led (pairs_of a b).step (pair p q) w ≡ pair (go a.table.rows (letters a.table) p (map (read_by a.table.base a.tracks a.places) w)) (go b.table.rows (letters b.table) q (map (read_by b.table.base b.tracks b.places) w))
led_pairs a b p q [] = refl
led_pairs a b p q (l ∷ w) = led_pairs a b (step_by a p l) (step_by b q l) w

pub start_pair : (a b : Operand) (sign : ℕ) → sign < 2 ^ a.tracks → list_at (pairs_of a b).starts sign ≡ pair (root_by a sign) (root_by b sign)
start_pair a b sign lt = get_or-map-range_with_len (λ s. pair (root_by a s) (root_by b s)) 0 (2 ^ a.tracks) sign sign [] lt (zero-add sign)

after_pairs : (a b : Operand) (sign : ℕ) (w : List ℕ) → sign < 2 ^ a.tracks → after (pairs_of a b) (record { start = sign; word = w }) ≡ pair (state_by a sign w) (state_by b sign w)
after_pairs a b sign w lt = ap (λ k. led (pairs_of a b).step k w) (start_pair a b sign lt) ∙ led_pairs a b (root_by a sign) (root_by b sign) w

pub starts_count : (a b : Operand) → length (pairs_of a b).starts ≡ 2 ^ a.tracks
starts_count a b = length-map-range_with_len (λ s. pair (root_by a s) (root_by b s)) 0 (2 ^ a.tracks)

bit_is : (x : Bool) → nat_eq (bit x) 1 ≡ x
bit_is true = refl
bit_is false = refl

-- the product's answer is the truth function of the operands' answers
pub answers : (op : Op) (a b : Table) (m : TrackLists) (limit : ℕ) (t : Table) → IsPairTable op a b m limit t → t.base ≡ a.base → t.tracks ≡ m.tracks → AcceptsBoth op a b m t
answers op a b m limit t h base tracks sign w lt inside = ap (λ q. nat_eq (slice_index t.outs q) 1) state ∙ ap (λ o. nat_eq o 1) out ∙ bit_is (truth op (accepts_by (left_operand a m) sign w) (accepts_by (right_operand b m) sign w))
  where
    p : Path
    p = record { start = sign; word = w }

    valid : IsPath (pairs a b m) p
    valid = record { start = subst (λ n. sign < n) (sym (starts_count (left_operand a m) (right_operand b m))) lt; letters = inside }

    here : slice_get h.found.keys (position h.found p) ≡ Some (pair (state_by (left_operand a m) sign w) (state_by (right_operand b m) sign w))
    here = h.explored.complete p valid ∙ ap (λ k. Some k) (after_pairs (left_operand a m) (right_operand b m) sign w lt)

    width : letters t ≡ h.found.width
    width = ap (λ r. r ^ t.tracks) base ∙ ap (λ n. a.base ^ n) tracks ∙ sym h.explored.width

    state : go t.rows (letters t) (slice_index t.roots sign) w ≡ position h.found p
    state = ap (λ n. go t.rows n (slice_index t.roots sign) w) width ∙ ap (λ rows. go rows h.found.width (slice_index t.roots sign) w) h.rows_are ∙ ap (λ roots. go h.found.rows h.found.width (slice_index roots sign) w) h.roots_are

    out : slice_index t.outs (position h.found p) ≡ bit (truth op (accepts_by (left_operand a m) sign w) (accepts_by (right_operand b m) sign w))
    out = h.outs_are (position h.found p) (slice_get_within h.found.keys (position h.found p) (pair (state_by (left_operand a m) sign w) (state_by (right_operand b m) sign w)) here)
        ∙ ap (λ k. bit (truth op (nat_eq (slice_index a.outs (slice_index k 0)) 1) (nat_eq (slice_index b.outs (slice_index k 1)) 1))) (get_or_from_slice_get h.found.keys (position h.found p) (pair (state_by (left_operand a m) sign w) (state_by (right_operand b m) sign w)) [] here)

-- ---- the table of pairs
pub starts_of : (a b : Table) (m : TrackLists) (limit : ℕ) (k : KeyTable) → IsExplored (pairs a b m) limit k → length k.starts ≡ 2 ^ m.tracks
starts_of a b m limit k e = e.starts_count ∙ starts_count (left_operand a m) (right_operand b m)

-- the machine of two readers is that of the tables that they read
pub machine_of : (p : Operands) (l r : Operand) (a b : Table) (m : TrackLists) → p ≡ record { left = l; right = r } → l ≡ left_operand a m
    → r ≡ right_operand b m → pairs_of p.left p.right ≡ pairs a b m
machine_of p l r a b m e left right = ap (λ (v : Operands). pairs_of v.left v.right) e ∙ ap (λ o. pairs_of o r) left
    ∙ ap (λ o. pairs_of (left_operand a m) o) right

-- it has few starts
pub few_starts : (p : Operands) (l r : Operand) (a b : Table) (m : TrackLists) → p ≡ record { left = l; right = r } → l ≡ left_operand a m
    → r ≡ right_operand b m → AreOperands (record { left = left_operand a m; right = right_operand b m }) → length (pairs_of p.left p.right).starts < 2 ^ 32
few_starts p l r a b m e left right h =
    subst (λ (s : Steps). length s.starts < 2 ^ 32) (sym (machine_of p l r a b m e left right))
    (omega (arith, starts_count (left_operand a m) (right_operand b m), few_signs a.base m.tracks h.left_is.table.shape.base_low h.left_is.few))

pub pair_table : (op : Op) (a b : Table) (m : TrackLists) (limit base tracks : ℕ) (k : KeyTable) (u : Kept) → IsExplored (pairs a b m) limit k → u ≡ plain (laid base tracks k (answered (pair_says op a b) k.keys)) → IsPairTable op a b m limit u.table
pair_table op a b m limit base tracks k u e is = record {
  found = k;
  explored = e;
  states = ap (λ (v : Kept). ints v.table) is ∙ length-map k.keys (λ x. bit (pair_says op a b x));
  roots_are = ap (λ (v : Kept). v.table.roots) is;
  rows_are = ap (λ (v : Kept). v.table.rows) is;
  outs_are = λ i lt. ap (λ (v : Kept). slice_index v.table.outs i) is ∙ get_or-map (λ x. bit (pair_says op a b x)) k.keys i [] 0 lt;
}

-- pairs that are too heavy have no table
pub not_heavy_with_table : (op : Op) (a b : Table) (m : TrackLists) (limit : ℕ) (t : Table) → IsHeavy (pairs a b m) limit → IsPairTable op a b m limit t → ⊥
not_heavy_with_table op a b m limit t heavy h = not_both (pairs a b m) limit h.found heavy h.explored
