-- A table of pairs of states accepts a lasso by the truth function of what its operands accept of what they read of it.
use Rattle.std.proofs.Common.{◌≡◌, ℕ, ◌+◌, ◌*◌, ◌<◌, Bool, List, [], ◌∷◌, length, refl, ◌∙◌, ap}
use Rattle.std.specs.Prelude.{slice_index, map}
use Rattle.graph_laws.specs.Walks.{go}
use Rattle.lash_model.specs.Lassos.{Lasso, IsLasso}
use Rattle.lash_model.specs.Tables.{Table, letters, fracs, IsTable}
use Rattle.lash_model.specs.Acceptance.{accepts_lasso, int_state}
use Rattle.part_laws.specs.Graphs.{IsWord, IsWeak}
use Rattle.part_laws.specs.Endings.{accepts_from}
use Rattle.part_laws.specs.Images.{Side, IsPairGraph}
use Rattle.part_laws.specs.CanonicalMixed.{fraction_graph}
use Rattle.part_laws.specs.MixedPairs.{MixedSide, read_lasso, RunsOverTable, IsMixedPairTable}
use Rattle.part_laws.proofs.Pairing.{pairs_weak, pairs_accept}
use Rattle.part_laws.proofs.LassoWords.{AreWords, lasso_words, fraction_is_graph, row_in, root_in, out_in, int_walk_in}

side : MixedSide → Side
side o = record { width = letters o.table; graph = fraction_graph o.table; read = o.read }

pair_graph : (t : Table) (left right : MixedSide) (op : Bool → Bool → Bool) → IsMixedPairTable t left right op
    → IsPairGraph (letters t) (fraction_graph t) (side left) (side right) op
unfolding side
pair_graph t left right op h = record { over_left = h.over_left.fractions; over_right = h.over_right.fractions; colours = h.colours }

-- the place of the integer state after a word is the operand's state after what it reads
ints_over : (t : Table) (o : MixedSide) → IsTable t → (h : RunsOverTable t o) (q : ℕ) (w : List ℕ) → q < length t.outs → IsWord (letters t) w
    → h.place (go t.rows (letters t) q w) ≡ go o.table.rows (letters o.table) (h.place q) (map o.read w)
ints_over t o tab h q [] k ls = refl
ints_over t o tab h q (l ∷ w) k ls = ints_over t o tab h (slice_index t.rows (q * letters t + l)) w (row_in t tab q l k ls.0) ls.1
    ∙ ap (λ x. go o.table.rows (letters o.table) x (map o.read w)) (h.steps q l k ls.0)

-- the state in which the fraction part begins
begins_over : (t : Table) (o : MixedSide) → IsTable t → (h : RunsOverTable t o) (x : Lasso) → IsLasso t.base t.tracks x
    → h.fractions.place (slice_index t.outs (int_state t x.sign x.whole)) ≡ slice_index o.table.outs
    (int_state o.table (o.read_sign x.sign) (map o.read x.whole))
begins_over t o tab h x v = h.outs (int_state t x.sign x.whole)
    (int_walk_in t tab (slice_index t.roots x.sign) x.whole (root_in t tab x.sign v.sign) (lasso_words t.base t.tracks x v).whole)
    ∙ ap (slice_index o.table.outs) (ints_over t o tab h (slice_index t.roots x.sign) x.whole (root_in t tab x.sign v.sign)
    (lasso_words t.base t.tracks x v).whole
    ∙ ap (λ q. go o.table.rows (letters o.table) q (map o.read x.whole)) (h.roots x.sign v.sign))

pub mixed_pairs_weak : (t : Table) (left right : MixedSide) (op : Bool → Bool → Bool) → IsTable t → IsWeak (letters left.table) (fraction_graph left.table)
    → IsWeak (letters right.table) (fraction_graph right.table) → IsMixedPairTable t left right op → IsWeak (letters t) (fraction_graph t)
unfolding side
mixed_pairs_weak t left right op tab wl wr h =
    pairs_weak (letters t) (fraction_graph t) (side left) (side right) op (fraction_is_graph t tab) wl wr (pair_graph t left right op h)

pub mixed_pairs_accept : (t : Table) (left right : MixedSide) (op : Bool → Bool → Bool) → IsTable t → 0 < fracs t → IsTable left.table → IsTable right.table
    → IsWeak (letters left.table) (fraction_graph left.table) → IsWeak (letters right.table) (fraction_graph right.table) → IsMixedPairTable t left right op
    → (x : Lasso) → IsLasso t.base t.tracks x
    → accepts_lasso t x ≡ op (accepts_lasso left.table (read_lasso left x)) (accepts_lasso right.table (read_lasso right x))
unfolding side pair_graph
mixed_pairs_accept t left right op tab some tl tr wl wr h x v =
    pairs_accept (letters t) (fraction_graph t) (side left) (side right) op (fraction_is_graph t tab) (fraction_is_graph left.table tl)
    (fraction_is_graph right.table tr) wl wr (pair_graph t left right op h) out x.stem x.cycle out_below ws.stem ws.cycle v.turns
    ∙ ap (λ q. op (accepts_from (letters left.table) (fraction_graph left.table) q (map left.read x.stem) (map left.read x.cycle))
    (accepts_from (letters right.table) (fraction_graph right.table) (h.over_right.fractions.place out) (map right.read x.stem)
    (map right.read x.cycle))) (begins_over t left tab h.over_left x v)
    ∙ ap (λ q. op (accepts_lasso left.table (read_lasso left x))
    (accepts_from (letters right.table) (fraction_graph right.table) q (map right.read x.stem) (map right.read x.cycle)))
    (begins_over t right tab h.over_right x v)
  where
    ws : AreWords (letters t) x
    ws = lasso_words t.base t.tracks x v

    out : ℕ
    out = slice_index t.outs (int_state t x.sign x.whole)

    out_below : out < length t.colours
    out_below = out_in t tab some (int_state t x.sign x.whole) (int_walk_in t tab (slice_index t.roots x.sign) x.whole (root_in t tab x.sign v.sign) ws.whole)
