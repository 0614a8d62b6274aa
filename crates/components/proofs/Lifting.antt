-- The greatest of what states give to their parts, letter by letter and state by state.
use Rattle.std.proofs.Common.{◌≡◌, ◌≢◌, ℕ, ◌+◌, ◌<◌, ◌≤◌, false, List, length, slice_index as at, slice_set, refl, sym, ap, ◌∙◌, subst, arith, inl, inr, ◌⊎◌}
use Rattle.std.specs.List.{slice_index_or}
use Rattle.std.proofs.lemmas.Bool.{cases_eq, cases_lt}
use Rattle.std.proofs.lemmas.List.{length-set, get_or-set_same, get_or-set_other}
use Rattle.components.specs.Partings.{Parted, AreParts}
use Rattle.components.specs.Rankings.{lift_at, part_after, ComesFrom, IsGreater, IsRisen, IsSource, IsCovered, AreLifted, AreLifting}
use Rattle.components.proofs.Lifts.{lift_least}

pub risen_skip : (rows : List ℕ) (width : ℕ) (colours : List ℕ) (p : Parted) (ranks : List ℕ) (q k best : ℕ) → at p.numbers q ≤ part_after rows width p q k
    → IsRisen rows width colours p ranks q k best → IsRisen rows width colours p ranks q (k + 1) best
risen_skip rows width colours p ranks q k best inside old = record {
  before = old.before;
  start = old.start;
  steps = λ l lt less. elim (cases_lt l k) [
    | inl under ↦ old.steps l under less
    | inr over ↦ (let e : l ≡ k = omega (arith, over, lt) in absurd (omega (arith, less, inside, ap (part_after rows width p q) e)))
  ];
  source = old.source;
  small = old.small;
}

pub risen_more : (rows : List ℕ) (width : ℕ) (colours : List ℕ) (p : Parted) (ranks : List ℕ) (q k best value after : ℕ) → k < width
    → ((j : ℕ) → at ranks j ≤ j + 1) → part_after rows width p q k < at p.numbers q → value ≡ lift_at colours p q (at ranks (part_after rows width p q k))
    → IsGreater best value after → IsRisen rows width colours p ranks q k best → IsRisen rows width colours p ranks q (k + 1) after
risen_more rows width colours p ranks q k best value after inside small below value_is greater old = record {
  before = omega (arith, old.before, greater.one_less);
  start = omega (arith, old.start, greater.one_less);
  steps = λ l lt less. elim (cases_lt l k) [
    | inl under ↦ omega (arith, old.steps l under less, greater.one_less)
    | inr over ↦ (let e : l ≡ k = omega (arith, over, lt) in omega (
      arith,
      ap (λ l. lift_at colours p q (at ranks (part_after rows width p q l))) e,
      value_is,
      greater.other_less,
    ))
  ];
  source = elim greater.which [
    | inl same ↦ elim old.source [ inl first ↦ inl (same ∙ first) | inr from ↦ inr (from.0, same ∙ from.1, from.2) ]
    | inr same ↦ inr (at ranks (part_after rows width p q k), same ∙ value_is, inr (k, inside, below, refl))
  ];
  small = elim greater.which [
    | inl same ↦ omega (arith, same, old.small)
    | inr same ↦ omega (
      arith,
      same,
      value_is,
      lift_least (slice_index_or p.looping (at p.numbers q) false) (at colours q)
          (at ranks (part_after rows width p q k)),
      small (part_after rows width p q k),
      below,
    )
  ];
}

-- one state more was looked at
module _ (n : ℕ) (rows : List ℕ) (width : ℕ) (colours : List ℕ) (p : Parted) (parts : AreParts rows width n p) (ranks : List ℕ) (i q best : ℕ)
    (inside : i < n) (q_is : q ≡ at p.order i) (old : AreLifting n rows width colours p ranks i) (risen : IsRisen rows width colours p ranks q width best) where
  abbrev part : ℕ
  part = at p.numbers q

  abbrev after : List ℕ
  after = slice_set ranks part best

  q_in : q < n
  q_in = omega (arith, q_is, parts.order.below i inside)

  here : at after part ≡ best
  here = get_or-set_same ranks part best 0 (omega (arith, parts.below q q_in, old.long))

  else_is : (k : ℕ) → k ≢ part → at after k ≡ at ranks k
  else_is k ne = get_or-set_other ranks part k best 0 ne

  grows : (k : ℕ) → at ranks k ≤ at after k
  grows k = elim (cases_eq k part) [ inl e ↦ omega (arith, ap (at ranks) e, ap (at after) e, here, risen.before) | inr ne ↦ omega (arith, else_is k ne) ]

  -- smaller parts are not changed
  lower_same : (k : ℕ) → k < part → at after k ≡ at ranks k
  lower_same k lt = else_is k (λ e. omega (arith, e, lt))

  -- parts whose states come later have nothing yet
  later : (k : ℕ) → k < length p.looping → part < k → at ranks k ≡ 0
  later k lt more = old.untouched k lt (λ j less. omega (arith, parts.order.rising j i less inside, ap (at p.numbers) q_is, more))

  comes : (s m : ℕ) → at p.numbers s ≤ part → ComesFrom rows width p ranks s m → ComesFrom rows width p after s m
  comes s m le (inl none) = inl none
  comes s m le (inr step) = inr (step.0, step.1, step.2, step.3 ∙ sym (lower_same (part_after rows width p s step.0) (omega (arith, step.2, le))))

  still : (k : ℕ) → k < length p.looping → k ≢ part → (at ranks k ≡ 0) ⊎ IsSource n rows width colours p ranks k
      → (at after k ≡ 0) ⊎ IsSource n rows width colours p after k
  still k lt ne (inl none) = inl (else_is k ne ∙ none)
  still k lt ne (inr source) = elim (cases_lt part k) [
    | inl more ↦ inl (else_is k ne ∙ later k lt more)
    | inr less ↦ inr (record {
      state = source.state;
      inside = source.inside;
      here = source.here;
      below = source.below;
      value = else_is k ne ∙ source.value;
      from = comes source.state source.below (omega (arith, source.here, less)) source.from;
    })
  ]

  first_still : (at ranks part ≡ 0) ⊎ IsSource n rows width colours p ranks part → best ≡ at ranks part → (at after part ≡ 0)
      ⊎ IsSource n rows width colours p after part
  first_still (inl none) same = inl (here ∙ (same ∙ none))
  first_still (inr source) same = inr (record {
    state = source.state;
    inside = source.inside;
    here = source.here;
    below = source.below;
    value = here ∙ (same ∙ source.value);
    from = comes source.state source.below (omega (arith, source.here)) source.from;
  })

  attained_here : (at after part ≡ 0) ⊎ IsSource n rows width colours p after part
  attained_here = elim risen.source [
    | inl same ↦ first_still (old.attained part (parts.below q q_in)) same
    | inr from ↦ inr (record {
      state = q;
      inside = q_in;
      here = refl;
      below = from.0;
      value = here ∙ from.1;
      from = comes q from.0 (omega arith) from.2;
    })
  ]

  covered_still : (s : ℕ) → at p.numbers s ≤ part → IsCovered rows width colours p ranks s → IsCovered rows width colours p after s
  covered_still s le c = record {
    start = omega (arith, c.start, grows (at p.numbers s));
    steps = λ l lt less. omega (
      arith,
      c.steps l lt less,
      grows (at p.numbers s),
      ap (lift_at colours p s)
          (lower_same (part_after rows width p s l) (omega (arith, less, le))),
    );
  }

  covered_here : IsCovered rows width colours p after q
  covered_here = record {
    start = omega (arith, risen.start, here);
    steps = λ l lt less. omega (arith, risen.steps l lt less, here, ap (lift_at colours p q) (lower_same (part_after rows width p q l) less));
  }

  pub lifting_more : AreLifting n rows width colours p after (i + 1)
  lifting_more = record {
    long = length-set ranks part best ∙ old.long;
    small = λ k. elim (cases_eq k part) [ inl e ↦ omega (arith, ap (at after) e, here, risen.small, e) | inr ne ↦ omega (arith, else_is k ne, old.small k) ];
    attained = λ k lt. elim (cases_eq k part) [
      | inl e ↦ subst (λ k. (at after k ≡ 0) ⊎ IsSource n rows width colours p after k) (sym e) attained_here
      | inr ne ↦ still k lt ne (old.attained k lt)
    ];
    untouched = λ k lt none. (let more : part < k = omega (arith, none i (omega arith), ap (at p.numbers) q_is) in else_is k (λ e. omega (arith, e, more))
        ∙ later k lt more);
    covered = λ j lt. elim (cases_lt j i) [
      | inl under ↦ covered_still (at p.order j) (omega (arith, parts.order.rising j i under inside, ap (at p.numbers) q_is)) (old.covered j under)
      | inr over ↦ (let e : i ≡ j = omega (arith, over, lt) in subst (λ s. IsCovered rows width colours p after s) (q_is ∙ ap (at p.order) e) covered_here)
    ];
  }

pub lifting_whole : (n : ℕ) (rows : List ℕ) (width : ℕ) (colours : List ℕ) (p : Parted) (ranks : List ℕ) → AreParts rows width n p
    → AreLifting n rows width colours p ranks n → AreLifted n rows width colours p ranks
lifting_whole n rows width colours p ranks parts old = record {
  long = old.long;
  attained = old.attained;
  covered = λ q lt. (let one = parts.order.all q lt in subst (λ s. IsCovered rows width colours p ranks s) one.2 (old.covered one.0 one.1));
}
