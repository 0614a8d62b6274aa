-- The last group is a part: it gets a number, and is no longer held.
use Rattle.std.proofs.Common.{◌≡◌, ℕ, ◌+◌, ◌-◌, ◌*◌, ◌<◌, ◌≤◌, List, length, slice_index as at, sym, ap, ◌∙◌, subst, arith, inl, inr, ◌⊎◌}
use Rattle.std.proofs.lemmas.Bool.{cases_lt}
use Rattle.part_laws.specs.Graphs.{Reaches}
use Rattle.components.specs.Walking.{Layout, AreSteps, IsHeld, ArePlaced, IsPath, AreGroups, AreFollowed, AreJoined, AreNumbered, AreListed, IsNumbering, IsWalk, shorter}
use Rattle.components.proofs.Following.{top_below, top_held, some_groups, last_greatest}

-- the last state of the path is the first of the last group, and all its letters were followed
module _ (n : ℕ) (rows : List ℕ) (width : ℕ) (x : Layout) (walk : IsWalk n rows width x) (depth : 0 < x.depth) (top : ℕ)
    (top_is : top ≡ at x.path (x.depth - 1)) (all : at x.next top ≡ width) (from : ℕ) (from_is : from ≡ at x.place top)
    (first : at x.bounds (x.groups - 1) ≡ from)
    (part : List ℕ) (numbering : IsNumbering n x.part x.place from x.held x.count part) (finished : List ℕ) (long : length finished ≡ n) (done : ℕ)
    (done_is : done + from ≡ x.done + x.held) (listed : AreListed n part finished done) where
  top_in : top < n
  top_in = omega (arith, top_is, top_below n rows width x walk depth)

  top_is_held : IsHeld n x.part x.place top
  top_is_held = subst (λ s. IsHeld n x.part x.place s) (sym top_is) (top_held n rows width x walk depth)

  groups_some : 0 < x.groups
  groups_some = some_groups n rows width x walk depth

  from_low : from < x.held
  from_low = omega (arith, from_is, walk.placed.within top top_in top_is_held)

  pub count_low : x.count < n
  count_low = omega (arith, from_low, walk.counted.few_held)

  last_place : at x.place (at x.path (x.depth - 1)) ≡ from
  last_place = ap (at x.place) (sym top_is) ∙ sym from_is

  -- the states of the last group
  abbrev IsLast : ℕ → Type 0
  IsLast q = IsHeld n x.part x.place q × (from ≤ at x.place q)

  named : (q : ℕ) → q < n → IsLast q → at part q ≡ x.count
  named q lt h = numbering.inside q lt h.0 h.1 (walk.placed.within q lt h.0)

  -- each state is of the last group, or has what it had
  kept_or : (q : ℕ) → q < n → IsLast q ⊎ (at part q ≡ at x.part q)
  kept_or q lt = elim (cases_lt (at x.part q) n) [
    | inl numbered ↦ inr (numbering.others q lt (λ h ge under. omega (arith, numbered, h.unnumbered)))
    | inr unnumbered ↦ elim (cases_lt (at x.place q) n) [
      | inl placed ↦ elim (cases_lt (at x.place q) from) [
        | inl low ↦ inr (numbering.others q lt (λ h ge under. omega (arith, low, ge)))
        | inr high ↦ inl (
          record {
            placed = placed;
            unnumbered = unnumbered;
          },
          high,
        )
      ]
      | inr unseen ↦ inr (numbering.others q lt (λ h ge under. omega (arith, unseen, h.placed)))
    ]
  ]

  keeps : (q : ℕ) → q < n → at x.part q < n → at part q ≡ at x.part q
  keeps q lt numbered = numbering.others q lt (λ h ge under. omega (arith, numbered, h.unnumbered))

  -- what is held after it was held, at a lower place, and the other way round
  was : (q : ℕ) → q < n → IsHeld n part x.place q → IsHeld n x.part x.place q × (at x.place q < from)
  was q lt h = elim (kept_or q lt) [
    | inl last ↦ absurd (omega (arith, h.unnumbered, named q lt last, count_low))
    | inr same ↦ (let old : IsHeld n x.part x.place q = record {
      placed = h.placed;
      unnumbered = omega (arith, h.unnumbered, same);
    } in (old, low q lt old h.unnumbered (cases_lt (at x.place q) from)))
  ]
    where
      low : (q : ℕ) → q < n → IsHeld n x.part x.place q → n ≤ at part q → (at x.place q < from) ⊎ (from ≤ at x.place q) → at x.place q < from
      low q lt old un (inl less) = less
      low q lt old un (inr more) = absurd (omega (arith, un, named q lt (old, more), count_low))

  still : (q : ℕ) → q < n → IsHeld n x.part x.place q → at x.place q < from → IsHeld n part x.place q
  still q lt h low = record {
    placed = h.placed;
    unnumbered = omega (arith, h.unnumbered, numbering.others q lt (λ h ge under. omega (arith, low, ge)));
  }

  -- all letters were followed from the states of the last group
  full : (q : ℕ) → q < n → IsLast q → at x.next q ≡ width
  full q lt last = elim (walk.followed.left q lt last.0) [
    | inl on ↦ elim (cases_lt on.0 (x.depth - 1)) [
      | inl under ↦ absurd (omega (arith, last.1, ap (at x.place) on.2, last_place, walk.on_path.rising on.0 (x.depth - 1) under (omega (arith, depth))))
      | inr over ↦ (let e : x.depth - 1 ≡ on.0 = omega (arith, over, on.1) in ap (at x.next) (sym (top_is ∙ (ap (at x.path) e ∙ on.2))) ∙ all)
    ]
    | inr done ↦ done
  ]

  -- their targets have numbers, or are in the last group too
  targets : (q l : ℕ) → q < n → l < width → IsLast q → (at x.part (at rows (q * width + l)) < n) ⊎ IsLast (at rows (q * width + l))
  targets q l lt letter last = elim (walk.followed.targets q l lt last.0 (omega (arith, letter, full q lt last))) [
    | inl numbered ↦ inl numbered
    | inr further ↦ inr (further.0, omega (arith, first, further.1 (x.groups - 1) (omega (arith, groups_some)) (omega (arith, first, last.1))))
  ]

  together : (p q : ℕ) → p < n → q < n → IsLast p → IsLast q → Reaches rows width p q
  together p q lt under a b = walk.joined p q lt under a.0 b.0 (λ g less le. omega (arith, last_greatest n rows width x walk depth g less, first, b.1))

  closed_placed : ArePlaced n part x.place x.order from
  closed_placed = record {
    within = λ q lt h. (was q lt h).1;
    there = λ q lt h. walk.placed.there q lt (was q lt h).0;
    below = λ k lt. walk.placed.below k (omega (arith, lt, from_low));
    back = λ k lt. walk.placed.back k (omega (arith, lt, from_low));
    unnumbered = λ k lt. let high : k < x.held = omega (arith, lt, from_low) in
        omega (
          arith,
          walk.placed.unnumbered k high,
          numbering.others (at x.order k) (walk.placed.below k high)
              (λ h ge under. omega (arith, lt, ge, walk.placed.back k high)),
        );
    few = omega (arith, from_low, walk.placed.few);
    unseen = λ q lt le. omega (arith, walk.placed.unseen q lt le, numbering.others q lt (λ h ge under. omega (arith, le, h.placed)));
  }

  closed_path : IsPath n part x.place x.path (x.depth - 1)
  closed_path = record {
    below = λ j lt. walk.on_path.below j (omega (arith, lt));
    held = λ j lt. still (at x.path j) (walk.on_path.below j (omega (arith, lt))) (walk.on_path.held j (omega (arith, lt)))
        (omega (arith, last_place, walk.on_path.rising j (x.depth - 1) lt (omega (arith, depth))));
    rising = λ i j less lt. walk.on_path.rising i j less (omega (arith, lt));
  }

  closed_groups : AreGroups x.place x.path (x.depth - 1) x.bounds (x.groups - 1) from
  closed_groups = record {
    rising = λ g h less lt. walk.grouped.rising g h less (omega (arith, lt));
    firsts = λ g lt. (let one = walk.grouped.firsts g (omega (arith, lt)) in (one.0, short g lt one.0 one.1 one.2 (cases_lt one.0 (x.depth - 1)), one.2));
    some = λ lt. several lt (cases_lt 0 (x.groups - 1));
    zero = λ lt. walk.grouped.zero (omega (arith, lt, from_low));
  }
    where
      short : (g : ℕ) → g < x.groups - 1 → (j : ℕ) → j < x.depth → at x.place (at x.path j) ≡ at x.bounds g → (j < x.depth - 1) ⊎ (x.depth - 1 ≤ j)
          → j < x.depth - 1
      short g less j lt e (inl under) = under
      short g less j lt e (inr over) =
          let last : x.depth - 1 ≡ j = omega (arith, over, lt) in
          absurd (omega (
            arith,
            e,
            ap (λ j. at x.place (at x.path j)) last,
            last_place,
            first,
            walk.grouped.rising g (x.groups - 1) less
                (omega (arith, groups_some)),
          ))

      several : 0 < from → (0 < x.groups - 1) ⊎ (x.groups - 1 ≤ 0) → 0 < x.groups - 1
      several lt (inl more) = more
      several lt (inr one) = (let e : x.groups - 1 ≡ 0 = omega (arith, one) in
          absurd (omega (arith, lt, first, ap (at x.bounds) e, walk.grouped.zero (omega (arith, from_low)))))

  closed_followed : AreSteps n rows width → AreFollowed n rows width part x.place x.next x.path (x.depth - 1) x.bounds (x.groups - 1)
  closed_followed steps = record {
    letters = walk.followed.letters;
    none = walk.followed.none;
    left = λ q lt h. (let old = was q lt h in elim (walk.followed.left q lt old.0) [
      | inl on ↦ inl (on.0, short q old.1 on.0 on.1 on.2 (cases_lt on.0 (x.depth - 1)), on.2)
      | inr done ↦ inr done
    ]);
    targets = λ q l lt h letter. (let old = was q lt h in
        let inside = steps q l lt (omega (arith, letter, walk.followed.letters q lt)) in
        elim (walk.followed.targets q l lt old.0 letter) [
          | inl numbered ↦ inl (omega (arith, numbered, keeps (at rows (q * width + l)) inside numbered))
          | inr further ↦ elim (cases_lt (at x.place (at rows (q * width + l))) from) [
            | inl low ↦ inr (still (at rows (q * width + l)) inside further.0 low, λ g less le. further.1 g (omega (arith, less)) le)
            | inr high ↦ inl (omega (arith, named (at rows (q * width + l)) inside (further.0, high), count_low))
          ]
        ]);
  }
    where
      short : (q : ℕ) → at x.place q < from → (j : ℕ) → j < x.depth → at x.path j ≡ q → (j < x.depth - 1) ⊎ (x.depth - 1 ≤ j) → j < x.depth - 1
      short q low j lt e (inl under) = under
      short q low j lt e (inr over) =
          let last : x.depth - 1 ≡ j = omega (arith, over, lt) in
          absurd (omega (arith, low, ap (at x.place) e, ap (λ j. at x.place (at x.path j)) last, last_place))

  closed_joined : AreJoined n rows width part x.place x.bounds (x.groups - 1)
  closed_joined p q lt under h k lower =
      let old = was p lt h in
      walk.joined p q lt under old.0 (was q under k).0 (λ g less le. below g less le old.1 (cases_lt g (x.groups - 1)))
    where
      below : (g : ℕ) → g < x.groups → at x.bounds g ≤ at x.place p → at x.place p < from → (g < x.groups - 1) ⊎ (x.groups - 1 ≤ g)
          → at x.bounds g ≤ at x.place q
      below g less le low (inl under) = lower g under le
      below g less le low (inr over) = (let e : g ≡ x.groups - 1 = omega (arith, over, less) in absurd (omega (arith, le, low, first, ap (at x.bounds) e)))

  closed_numbered : AreSteps n rows width → AreNumbered n rows width part (x.count + 1)
  closed_numbered steps = record {
    below = λ q lt numbered. elim (kept_or q lt) [
      | inl last ↦ omega (arith, named q lt last)
      | inr same ↦ omega (arith, same, walk.numbered.below q lt (omega (arith, same, numbered)))
    ];
    each = λ k lt. elim (cases_lt k x.count) [
      | inl under ↦ (let one = walk.numbered.each k under in (one.0, one.1, keeps one.0 one.1 (omega (arith, one.2, under, count_low)) ∙ one.2))
      | inr over ↦ (top, top_in, omega (arith, over, lt, named top top_in (top_is_held, omega (arith, from_is))))
    ];
    together = λ p q lt under numbered same. elim (kept_or p lt) [
      | inl last ↦ elim (kept_or q under) [
        | inl other ↦ together p q lt under last other
        | inr kept ↦ (let e : at x.part q ≡ x.count = omega (arith, named p lt last, same, kept) in
            absurd (omega (arith, e, walk.numbered.below q under (omega (arith, e, count_low)))))
      ]
      | inr was ↦ elim (kept_or q under) [
        | inl other ↦ (let e : at x.part p ≡ x.count = omega (arith, named q under other, same, was) in
            absurd (omega (arith, e, walk.numbered.below p lt (omega (arith, e, count_low)))))
        | inr kept ↦ walk.numbered.together p q lt under (omega (arith, numbered, was)) (omega (arith, same, was, kept))
      ]
    ];
    falls = λ q l lt letter numbered. (let inside = steps q l lt letter in elim (kept_or q lt) [
      | inl last ↦ elim (targets q l lt letter last) [
        | inl done ↦ omega (arith, named q lt last, keeps (at rows (q * width + l)) inside done, walk.numbered.below (at rows (q * width + l)) inside done)
        | inr other ↦ omega (arith, named q lt last, named (at rows (q * width + l)) inside other)
      ]
      | inr same ↦ (let falls = walk.numbered.falls q l lt letter (omega (arith, numbered, same)) in
          omega (arith, same, falls, keeps (at rows (q * width + l)) inside (omega (arith, falls, same, numbered))))
    ]);
  }

  pub closed_walk : AreSteps n rows width → IsWalk n rows width (shorter x from part finished done)
  closed_walk steps = record {
    sized = record {
      part = numbering.long;
      place = walk.sized.place;
      next = walk.sized.next;
      order = walk.sized.order;
      bounds = walk.sized.bounds;
      path = walk.sized.path;
      finished = long;
      few = walk.sized.few;
    };
    counted = record {
      few_held = omega (arith, walk.counted.few_held, from_low);
      few_groups = omega (arith, walk.counted.few_groups);
      few_on_path = omega (arith, walk.counted.few_on_path);
      all = omega (arith, walk.counted.all, done_is);
    };
    placed = closed_placed;
    on_path = closed_path;
    grouped = closed_groups;
    followed = closed_followed steps;
    joined = closed_joined;
    numbered = closed_numbered steps;
    listed = listed;
  }
