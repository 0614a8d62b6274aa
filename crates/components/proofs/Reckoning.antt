-- What parts have in the end is what part_laws asks of ranks that are reckoned part by part.
use Rattle.std.proofs.Common.{◌≡◌, ℕ, ◌+◌, ◌*◌, ◌<◌, ◌≤◌, Bool, true, false, List, length, slice_index as at, refl, sym, ap, ◌∙◌, subst, arith, inl, inr, ◌⊎◌}
use Rattle.std.specs.List.{slice_index_or}
use Rattle.std.proofs.lemmas.Bool.{cases_lt, false≢true}
use Rattle.part_laws.specs.Graphs.{IsWeak, IsLooping}
use Rattle.part_laws.specs.Ranks.{even}
use Rattle.part_laws.specs.Parts.{AreRanks, IsAttained}
use Rattle.part_laws.specs.Parts.IsAttained.{lowest, raised, handed}
use Rattle.components.specs.Partings.{Parted, AreParts}
use Rattle.components.specs.Walking.{AreSteps}
use Rattle.components.specs.Rankings.{lift, part_after, ComesFrom, IsSource, AreLifted}
use Rattle.components.proofs.Lifts.{lift_more, lift_least, lift_which, lift_colour}
use Rattle.components.proofs.Looping.{on_loop}

module _ (rows : List ℕ) (width : ℕ) (colours : List ℕ) (p : Parted) (parts : AreParts rows width (length colours) p)
    (steps : AreSteps (length colours) rows width) (some : 0 < width) (two : (q : ℕ) → q < length colours → at colours q < 2)
    (weak : IsWeak width (record { rows = rows; colours = colours })) (ranks : List ℕ) (lifted : AreLifted (length colours) rows width colours p ranks)
    (all : List ℕ) (long : length all ≡ length colours) (each : (q : ℕ) → q < length colours → at all q ≡ at ranks (at p.numbers q)) where
  abbrev number : ℕ → ℕ
  number q = at p.numbers q

  abbrev does_loop : ℕ → Bool
  does_loop k = slice_index_or p.looping k false

  -- the cause of what a state has, and what a state of its part gives
  abbrev Cause : ℕ → Type 0
  Cause q = IsAttained rows width (length colours) p.numbers all q

  abbrev Source : ℕ → Type 0
  Source q = IsSource (length colours) rows width colours p ranks (number q)

  -- what the target of a letter has
  after_is : (q l : ℕ) → q < length colours → l < width → at all (at rows (q * width + l)) ≡ at ranks (part_after rows width p q l)
  after_is q l lt letter = each (at rows (q * width + l)) (steps q l lt letter)

  falling : (q l : ℕ) → q < length colours → l < width → at all (at rows (q * width + l)) ≤ at all q
  falling q l lt letter = elim (cases_lt (part_after rows width p q l) (number q)) [
    | inl less ↦ omega (
      arith,
      each q lt,
      after_is q l lt letter,
      (lifted.covered q lt).steps l letter less,
      lift_more (does_loop (number q)) (at colours q) (at ranks (part_after rows width p q l)),
    )
    | inr more ↦ (let same : part_after rows width p q l ≡ number q = omega (arith, more, parts.numbers.falling q l lt letter) in
        omega (arith, each q lt, after_is q l lt letter, ap (at ranks) same))
  ]

  -- a state that gives its part what it has is marked as the others of the part
  value : (q : ℕ) (b : Bool) → does_loop (number q) ≡ b → (source : Source q)
      → at ranks (number q) ≡ lift b (at colours source.state) source.below
  value q b e source = source.value ∙ ap (λ c. lift c (at colours source.state) source.below) (ap does_loop source.here ∙ e)

  parity : (q : ℕ) → q < length colours → IsLooping rows width q → at colours q ≡ even (at all q)
  parity q lt loop = by (lifted.attained (number q) (parts.below q lt)) ∙ ap even (sym (each q lt))
    where
      marked : does_loop (number q) ≡ true
      marked = (parts.loops q lt).1 loop

      start : lift true (at colours q) 0 ≤ at ranks (number q)
      start = subst (λ b. lift b (at colours q) 0 ≤ at ranks (number q)) marked (lifted.covered q lt).start

      one_colour : (s : ℕ) → s < length colours → number s ≡ number q → at colours q ≡ at colours s
      one_colour s under here = weak q s lt under loop ((parts.loops s under).0 (ap does_loop here ∙ marked)) (parts.numbers.one q s lt under (sym here))

      none_lifted : at ranks (number q) ≡ 0 → lift true (at colours q) 0 ≡ at ranks (number q)
      none_lifted none = omega (arith, start, none)

      by : (at ranks (number q) ≡ 0) ⊎ Source q → at colours q ≡ even (at ranks (number q))
      by (inl none) = lift_colour (at colours q) 0 (two q lt) ∙ ap even (none_lifted none)
      by (inr source) = one_colour source.state source.inside source.here
          ∙ (lift_colour (at colours source.state) source.below (two source.state source.inside) ∙ ap even (sym (value q true marked source)))

  attained : (q : ℕ) → q < length colours → IsAttained rows width (length colours) p.numbers all q
  attained q lt = by (does_loop (number q)) refl (lifted.attained (number q) (parts.below q lt))
    where
      -- each letter leaves a part that does not loop
      leaves : (l : ℕ) → l < width → does_loop (number q) ≡ false → part_after rows width p q l < number q
      leaves l letter e = elim (cases_lt (part_after rows width p q l) (number q)) [
        | inl less ↦ less
        | inr more ↦ (let same : part_after rows width p q l ≡ number q = omega (arith, more, parts.numbers.falling q l lt letter) in
            absurd (false≢true (sym e ∙ (parts.loops q lt).1 (on_loop (length colours) rows width p.numbers steps parts.numbers q q lt lt refl
            (l, letter, same)))))
      ]

      nothing : does_loop (number q) ≡ false → at ranks (number q) ≡ 0 → Cause q
      nothing e none = let less : part_after rows width p q 0 < number q = leaves 0 some e in
          handed q 0 lt some refl less (omega (
            arith,
            each q lt,
            after_is q 0 lt some,
            (lifted.covered q lt).steps 0 some less,
            lift_more (does_loop (number q)) (at colours q) (at ranks (part_after rows width p q 0)),
            none,
          ))

      passed : (source : Source q) (l : ℕ) → l < width → part_after rows width p source.state l < number source.state
          → source.below ≡ at ranks (part_after rows width p source.state l) → at ranks (number q) ≡ source.below → Cause q
      passed source l letter less below e = handed source.state l source.inside letter source.here (omega (arith, less, source.here))
          (omega (arith, each q lt, after_is source.state l source.inside letter, below, e))

      looping : does_loop (number q) ≡ true → (source : Source q) → ComesFrom rows width p ranks source.state source.below → Cause q
      looping e source (inl none) = lowest ((parts.loops q lt).0 e)
          (omega (arith, each q lt, value q true e source, lift_least true (at colours source.state) source.below, none))
      looping e source (inr step) = elim (lift_which true (at colours source.state) source.below) [
        | inl same ↦ passed source step.0 step.1 step.2 step.3 (value q true e source ∙ same)
        | inr more ↦ raised ((parts.loops q lt).0 e) source.state step.0 source.inside step.1 source.here
            (omega (arith, each q lt, after_is source.state step.0 source.inside step.1, step.3, value q true e source, more))
      ]

      still : does_loop (number q) ≡ false → (source : Source q) → ComesFrom rows width p ranks source.state source.below → Cause q
      still e source (inl none) = nothing e (value q false e source ∙ none)
      still e source (inr step) = passed source step.0 step.1 step.2 step.3 (value q false e source)

      by : (b : Bool) → does_loop (number q) ≡ b → (at ranks (number q) ≡ 0) ⊎ Source q → Cause q
      by true e (inl none) = lowest ((parts.loops q lt).0 e) (omega (arith, each q lt, none))
      by false e (inl none) = nothing e none
      by true e (inr source) = looping e source source.from
      by false e (inr source) = still e source source.from

  pub are_ranks : AreRanks width (record { rows = rows; colours = colours }) p.numbers all
  are_ranks = record { count = long; falling = falling; parity = parity; attained = attained }
