-- Ranks that are reckoned part by part are ranks, and their parities are the colours by rank.
use Rattle.std.proofs.Common.{◌≡◌, ℕ, ◌+◌, ◌-◌, ◌*◌, ◌%◌, ◌<◌, List, length, slice_index as at, slice_set, sym, ap, ◌∙◌, arith, inl, inr}
use Rattle.std.specs.Prelude.{All}
use Rattle.std.proofs.lemmas.Bool.{cases_eq}
use Rattle.std.proofs.lemmas.List.{length-set, get_or-set_same, get_or-set_other}
use Rattle.part_laws.specs.Graphs.{IsGraph}
use Rattle.part_laws.specs.Ranks.{even, IsRank, IsRecolouring}
use Rattle.part_laws.specs.Parts.{AreRanks}
use Rattle.part_laws.proofs.Ranking.{ranks_by_parts, recolouring_by_parts}
use Rattle.components.specs.Partings.{Parted, AreParts}
use Rattle.components.specs.Rankings.{AreParities, ArePut}
use Rattle.components.proofs.Ending.{steps_in}
use Rattle.components.proofs.Lifts.{even_rest}

module _ (rows : List ℕ) (width : ℕ) (colours : List ℕ) (long : length rows ≡ length colours * width) (targets : All (λ q. q < length colours) rows)
    (two : All (λ c. c < 2) colours) (p : Parted) (parts : AreParts rows width (length colours) p) (ranks : List ℕ)
    (are : AreRanks width (record { rows = rows; colours = colours }) p.numbers ranks) where
  is_graph : IsGraph width (record { rows = rows; colours = colours })
  is_graph = record { rows_in = steps_in (length colours) rows width long targets; colours_in = λ q lt. two q 0 lt }

  pub each_rank : (q : ℕ) → q < length colours → IsRank width (record { rows = rows; colours = colours }) q (at ranks q)
  each_rank q lt = ranks_by_parts width (record { rows = rows; colours = colours }) p.numbers ranks is_graph parts.numbers are q lt

  pub recoloured_by_rank : (cs : List ℕ) → AreParities ranks cs → IsRecolouring width (record { rows = rows; colours = colours }) cs
  recoloured_by_rank cs parities =
      recolouring_by_parts width (record { rows = rows; colours = colours }) p.numbers ranks cs is_graph parts.numbers are (parities.count ∙ are.count)
      (λ q lt. parities.each q (omega (arith, lt, are.count)))

-- one entry more has the parity
pub put_more : (ranks now : List ℕ) (k rank : ℕ) → k < length ranks → rank ≡ at now k → ArePut ranks k now
    → ArePut ranks (k + 1) (slice_set now k (1 - rank % 2))
put_more ranks now k rank inside is old = record {
  count = length-set now k (1 - rank % 2) ∙ old.count;
  done = λ q lt. elim (cases_eq q k) [
    | inl e ↦ ap (at (slice_set now k (1 - rank % 2))) e ∙ (here ∙ ap (λ j. even (at ranks j)) (sym e))
    | inr ne ↦ get_or-set_other now k q (1 - rank % 2) 0 ne ∙ old.done q (omega (arith, lt, ne))
  ];
  left = λ q le. get_or-set_other now k q (1 - rank % 2) 0 (λ e. omega (arith, e, le)) ∙ old.left q (omega (arith, le));
}
  where
    here : at (slice_set now k (1 - rank % 2)) k ≡ even (at ranks k)
    here = get_or-set_same now k (1 - rank % 2) 0 (omega (arith, inside, old.count))
        ∙ (sym (even_rest rank) ∙ ap even (is ∙ old.left k (omega arith)))
