-- What an operand reads of a lasso is a lasso, which spells the numerators at its places over the same denominator.
use Rattle.std.proofs.Common.{◌≡◌, ℕ, ◌+◌, ◌-◌, ◌*◌, ◌^◌, ◌<◌, List, length, map, arith, ◌∙◌, sym, ap, ap₂, subst}
use Rattle.std.specs.Prelude.{slice_index, All}
use Rattle.std.proofs.Math.IntN.{pos, ◌+ℤ◌, ◌*ℤ◌}
use Rattle.std.proofs.lemmas.List.{length-map}
use Rattle.std.proofs.lemmas.List.Elements.{recursion_from_All}
use Rattle.lash_model.specs.Lassos.{Lasso, IsLasso, denominator, numerator, numerators}
use Rattle.lash_model.specs.Words.{spelled, value}
use Rattle.part_laws.specs.MixedPairs.{read_lasso, ReadsInRange}
use Rattle.product_ops.specs.Tracks.{read_by}
use Rattle.product_ops.specs.Pairs.{Operand, IsOperand}
use Rattle.product_ops.specs.ReadLassos.{side_of, ReadsPickedLassos}
use Rattle.product_ops.proofs.TrackReading.{read_in, spelled_read, value_read, picked_vector}
use Rattle.product_ops.proofs.Joining.{word_in}

-- what is read of sign vectors and letters is in range
pub reads_in_range : (o : Operand) → IsOperand o → ReadsInRange o.table.base o.tracks (side_of o)
reads_in_range o h = record {
  signs = λ sign lt. subst (λ n. read_by 2 o.tracks o.places sign < 2 ^ n) h.count (read_in 2 o.tracks o.places sign (omega arith) h.places.below lt);
  letters_in = λ l lt. subst (λ n. read_by o.table.base o.tracks o.places l < o.table.base ^ n) h.count
      (read_in o.table.base o.tracks o.places l (omega (arith, h.table.shape.base_low)) h.places.below lt);
}

-- what is read at places of a lasso of n tracks in base r
abbrev read_of : ℕ → ℕ → List ℕ → Lasso → Lasso
read_of r n places x = record {
  sign = read_by 2 n places x.sign;
  whole = map (read_by r n places) x.whole;
  stem = map (read_by r n places) x.stem;
  cycle = map (read_by r n places) x.cycle;
}

denominator_read : (r n : ℕ) (places : List ℕ) (x : Lasso) → denominator r (read_of r n places x) ≡ denominator r x
unfolding denominator
denominator_read r n places x = ap₂ (λ i j. r ^ i * (r ^ j - 1)) (length-map x.stem (read_by r n places)) (length-map x.cycle (read_by r n places))

numerator_read : (r n : ℕ) (places : List ℕ) (i : ℕ) (x : Lasso) → 0 < r → All (λ p. p < n) places → i < length places → IsLasso r n x
    → numerator r (length places) i (read_of r n places x) ≡ numerator r n (slice_index places i) x
unfolding numerator
numerator_read r n places i x b h inside v =
    ap₂ (λ d s. (pos d *ℤ value r (length places) i (read_by 2 n places x.sign) (map (read_by r n places) x.whole)) +ℤ pos
    ((r ^ s - 1) * spelled r (length places) i (map (read_by r n places) x.stem) + spelled r (length places) i (map (read_by r n places) x.cycle)))
    (denominator_read r n places x) (length-map x.cycle (read_by r n places))
    ∙ ap₂ (λ m s. (pos (denominator r x) *ℤ m) +ℤ pos ((r ^ length x.cycle - 1) * s + spelled r (length places) i (map (read_by r n places) x.cycle)))
    (value_read r n places i x.sign x.whole b h inside v.sign (recursion_from_All (λ l. l < r ^ n) x.whole v.whole))
    (spelled_read r n places i x.stem b h inside (recursion_from_All (λ l. l < r ^ n) x.stem v.stem))
    ∙ ap (λ c. (pos (denominator r x) *ℤ value r n (slice_index places i) x.sign x.whole) +ℤ pos
    ((r ^ length x.cycle - 1) * spelled r n (slice_index places i) x.stem + c))
    (spelled_read r n places i x.cycle b h inside (recursion_from_All (λ l. l < r ^ n) x.cycle v.cycle))

-- what an operand reads of a lasso spells the picked numerators
pub reads_lassos : (o : Operand) → IsOperand o → ReadsPickedLassos o
reads_lassos o h x v = record {
  lasso = record {
    sign = (reads_in_range o h).signs x.sign v.sign;
    whole = in_letters x.whole v.whole;
    stem = in_letters x.stem v.stem;
    cycle = in_letters x.cycle v.cycle;
    turns = subst (λ n. 0 < n) (sym (length-map x.cycle (read_by o.table.base o.tracks o.places))) v.turns;
  };
  spells =
      ap (λ n. numerators o.table.base n (read_lasso (side_of o) x)) (sym h.count)
      ∙ picked_vector (λ i. numerator o.table.base (length o.places) i (read_lasso (side_of o) x)) (λ p. numerator o.table.base o.tracks p x) o.tracks
      o.places h.places.below
      (λ i inside. numerator_read o.table.base o.tracks o.places i x some_base h.places.below inside v);
  over = denominator_read o.table.base o.tracks o.places x;
}
  where
    some_base : 0 < o.table.base
    some_base = omega (arith, h.table.shape.base_low)

    in_letters : (w : List ℕ) → All (λ l. l < o.table.base ^ o.tracks) w → All (λ l. l < o.table.base ^ o.table.tracks)
        (map (read_by o.table.base o.tracks o.places) w)
    in_letters w a = subst (λ n. All (λ l. l < o.table.base ^ n) (map (read_by o.table.base o.tracks o.places) w)) h.count
        (word_in o.table.base o.tracks o.places w some_base h.places.below a)
