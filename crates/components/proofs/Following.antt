-- One letter more is followed from a held state, or the last two groups are joined.
use Rattle.std.proofs.Common.{◌≡◌, ◌≢◌, ℕ, ◌+◌, ◌-◌, ◌*◌, ◌<◌, ◌≤◌, List, length, slice_index as at, slice_set, sym, ap, ◌∙◌, subst, arith, inl, inr, ◌⊎◌}
use Rattle.std.proofs.lemmas.Bool.{cases_eq, cases_lt}
use Rattle.std.proofs.lemmas.List.{length-set, get_or-set_same, get_or-set_other}
use Rattle.part_laws.specs.Graphs.{Reaches}
use Rattle.components.specs.Walking.{Layout, AreSteps, IsHeld, IsNotLower, AreFollowed, IsWalk, effort, total}
use Rattle.part_laws.proofs.Walking.{reaches_on}
use Rattle.part_laws.proofs.Parting.{step_reaches}
use Rattle.components.proofs.Totals.{total_set, total_bound}

-- the state has a number, or is held in no lower group than another
abbrev pub LeadsOn : ℕ → Layout → ℕ → ℕ → Type 0
LeadsOn n x q y = (at x.part y < n) ⊎ (IsHeld n x.part x.place y × IsNotLower x.bounds x.groups x.place q y)

-- one letter more is followed
module _ (n : ℕ) (rows : List ℕ) (width : ℕ) (x : Layout) (s : ℕ) (walk : IsWalk n rows width x) (inside : s < n) (held : IsHeld n x.part x.place s)
    (more : at x.next s < width) (leads : LeadsOn n x s (at rows (s * width + at x.next s))) where
  abbrev next : List ℕ
  next = slice_set x.next s (at x.next s + 1)

  next_here : at next s ≡ at x.next s + 1
  next_here = get_or-set_same x.next s (at x.next s + 1) 0 (omega (arith, walk.sized.next, inside))

  next_else : (q : ℕ) → q ≢ s → at next q ≡ at x.next q
  next_else q ne = get_or-set_other x.next s q (at x.next s + 1) 0 ne

  followed_more : AreFollowed n rows width x.part x.place next x.path x.depth x.bounds x.groups
  followed_more = record {
    letters = λ q lt. elim (cases_eq q s) [
      | inl e ↦ omega (arith, ap (at next) e, next_here, more)
      | inr ne ↦
          omega (arith, next_else q ne, walk.followed.letters q lt)
    ];
    none = λ q lt le. next_else q (λ e. omega (arith, ap (at x.place) e, le, held.placed)) ∙ walk.followed.none q lt le;
    left = λ q lt h. elim (walk.followed.left q lt h) [
      | inl on ↦ inl on
      | inr all ↦ inr (next_else q (λ e. omega (arith, ap (at x.next) e, all, more)) ∙ all)
    ];
    targets = λ q l lt h letter. elim (cases_eq q s) [
      | inl e ↦ here q l lt h e (omega (arith, letter, ap (at next) e, next_here)) (cases_lt l (at x.next s))
      | inr ne ↦ walk.followed.targets q l lt h (omega (arith, letter, next_else q ne))
    ];
  }
    where
      here : (q l : ℕ) → q < n → IsHeld n x.part x.place q → q ≡ s → l < at x.next s + 1 → (l < at x.next s) ⊎ (at x.next s ≤ l)
          → LeadsOn n x q (at rows (q * width + l))
      here q l lt h e less (inl under) = walk.followed.targets q l lt h (omega (arith, under, ap (at x.next) e))
      here q l lt h e less (inr over) =
          let same : l ≡ at x.next s = omega (arith, over, less) in
          subst (λ l. LeadsOn n x q (at rows (q * width + l))) (sym same) (subst (λ q. LeadsOn n x q (at rows (q * width + at x.next s))) (sym e) leads)

  pub followed_walk : IsWalk n rows width (record x { next = next })
  followed_walk = record {
    sized = record {
      part = walk.sized.part;
      place = walk.sized.place;
      next = length-set x.next s (at x.next s + 1) ∙ walk.sized.next;
      order = walk.sized.order;
      bounds = walk.sized.bounds;
      path = walk.sized.path;
      finished = walk.sized.finished;
      few = walk.sized.few;
    };
    counted = walk.counted;
    placed = walk.placed;
    on_path = walk.on_path;
    grouped = walk.grouped;
    followed = followed_more;
    joined = walk.joined;
    numbered = walk.numbered;
    listed = walk.listed;
  }

  -- the effort falls by three
  pub followed_less : effort n width (record x { next = next }) + 3 ≡ effort n width x
  followed_less =
      let long : length next ≡ n = length-set x.next s (at x.next s + 1) ∙ walk.sized.next in
      let sum = total_set x.next s (at x.next s + 1) (omega (arith, walk.sized.next, inside)) in
      let bound : total next ≤ length next * width = total_bound next width (λ i lt. followed_more.letters i (omega (arith, lt, long))) in
      let limit : total next ≤ n * width = subst (λ k. total next ≤ k * width) long bound in
      omega (arith, sum, limit)

-- the last state of the path
module _ (n : ℕ) (rows : List ℕ) (width : ℕ) (x : Layout) (walk : IsWalk n rows width x) (some : 0 < x.depth) where
  abbrev top : ℕ
  top = at x.path (x.depth - 1)

  pub top_below : top < n
  top_below = walk.on_path.below (x.depth - 1) (omega (arith, some))

  pub top_held : IsHeld n x.part x.place top
  top_held = walk.on_path.held (x.depth - 1) (omega (arith, some))

  -- it is in the last group
  pub in_last : (g : ℕ) → g < x.groups → at x.bounds g ≤ at x.place top
  in_last g lt = let first = walk.grouped.firsts g lt in elim (cases_lt first.0 (x.depth - 1)) [
    | inl under ↦ omega (arith, first.2, walk.on_path.rising first.0 (x.depth - 1) under (omega (arith, some)))
    | inr over ↦ (let e : first.0 ≡ x.depth - 1 = omega (arith, over, first.1) in omega (arith, first.2, ap (λ j. at x.place (at x.path j)) e))
  ]

  -- all held states reach it
  pub reach_top : (p : ℕ) → p < n → IsHeld n x.part x.place p → Reaches rows width p top
  reach_top p lt h = walk.joined p top lt top_below h top_held (λ g less le. in_last g less)

  pub some_groups : 0 < x.groups
  some_groups = walk.grouped.some (omega (arith, walk.placed.within top top_below top_held))

  -- the last bound is the greatest
  pub last_greatest : (g : ℕ) → g < x.groups → at x.bounds g ≤ at x.bounds (x.groups - 1)
  last_greatest g lt = elim (cases_lt g (x.groups - 1)) [
    | inl under ↦ omega (arith, walk.grouped.rising g (x.groups - 1) under (omega (arith, some_groups)))
    | inr over ↦ (let e : g ≡ x.groups - 1 = omega (arith, over, lt) in omega (arith, ap (at x.bounds) e))
  ]

  -- a letter leads from it to a held state of an earlier group: the last two groups are joined
  pub joined_walk : (l : ℕ) → l < width → AreSteps n rows width → IsHeld n x.part x.place (at rows (top * width + l))
      → at x.place (at rows (top * width + l)) < at x.bounds (x.groups - 1) → IsWalk n rows width (record x { groups = x.groups - 1 })
  joined_walk l letter steps held low = record {
    sized = record {
      part = walk.sized.part;
      place = walk.sized.place;
      next = walk.sized.next;
      order = walk.sized.order;
      bounds = walk.sized.bounds;
      path = walk.sized.path;
      finished = walk.sized.finished;
      few = walk.sized.few;
    };
    counted = record {
      few_held = walk.counted.few_held;
      few_groups = omega (arith, walk.counted.few_groups);
      few_on_path = walk.counted.few_on_path;
      all = walk.counted.all;
    };
    placed = walk.placed;
    on_path = walk.on_path;
    grouped = record {
      rising = λ g h less lt. walk.grouped.rising g h less (omega (arith, lt));
      firsts = λ g lt. walk.grouped.firsts g (omega (arith, lt));
      some = λ lt. several lt (cases_lt 0 (x.groups - 1));
      zero = walk.grouped.zero;
    };
    followed = record {
      letters = walk.followed.letters;
      none = walk.followed.none;
      left = walk.followed.left;
      targets = λ q k lt h letter. elim (walk.followed.targets q k lt h letter) [
        | inl numbered ↦ inl numbered
        | inr further ↦ inr (further.0, λ g less le. further.1 g (omega (arith, less)) le)
      ];
    };
    joined = λ p q lt under h k lower. elim (cases_lt (at x.place p) (at x.bounds (x.groups - 1))) [
      | inl before ↦ walk.joined p q lt under h k (λ g less le. lower g (earlier g less (omega (arith, le, before)) (cases_lt g (x.groups - 1))) le)
      | inr over ↦ reaches_on rows width p top q (reach_top p lt h)
          (reaches_on rows width top (at rows (top * width + l)) q (step_reaches rows width top l letter)
          (walk.joined (at rows (top * width + l)) q (steps top l top_below letter) under held k
          (λ g less le. lower g (earlier g less (omega (arith, le, low)) (cases_lt g (x.groups - 1))) (omega (arith, last_greatest g less, over)))))
    ];
    numbered = walk.numbered;
    listed = walk.listed;
  }
    where
      several : 0 < x.held → (0 < x.groups - 1) ⊎ (x.groups - 1 ≤ 0) → 0 < x.groups - 1
      several lt (inl more) = more
      several lt (inr one) = (let e : x.groups - 1 ≡ 0 = omega (arith, one) in absurd (omega (arith, low, ap (at x.bounds) e, walk.grouped.zero lt)))

      -- what begins before the last bound is an earlier group
      earlier : (g : ℕ) → g < x.groups → at x.bounds g < at x.bounds (x.groups - 1) → (g < x.groups - 1) ⊎ (x.groups - 1 ≤ g) → g < x.groups - 1
      earlier g less lt (inl under) = under
      earlier g less lt (inr over) = (let e : g ≡ x.groups - 1 = omega (arith, over, less) in absurd (omega (arith, lt, ap (at x.bounds) e)))

  -- all its letters were followed, and its group does not begin with it: the walk goes back
  pub left_walk : at x.next top ≡ width → at x.bounds (x.groups - 1) ≢ at x.place top → IsWalk n rows width (record x { depth = x.depth - 1 })
  left_walk all later = record {
    sized = record {
      part = walk.sized.part;
      place = walk.sized.place;
      next = walk.sized.next;
      order = walk.sized.order;
      bounds = walk.sized.bounds;
      path = walk.sized.path;
      finished = walk.sized.finished;
      few = walk.sized.few;
    };
    counted = record {
      few_held = walk.counted.few_held;
      few_groups = walk.counted.few_groups;
      few_on_path = omega (arith, walk.counted.few_on_path);
      all = walk.counted.all;
    };
    placed = walk.placed;
    on_path = record {
      below = λ j lt. walk.on_path.below j (omega (arith, lt));
      held = λ j lt. walk.on_path.held j (omega (arith, lt));
      rising = λ i j less lt. walk.on_path.rising i j less (omega (arith, lt));
    };
    grouped = record {
      rising = walk.grouped.rising;
      firsts = λ g lt. (let first = walk.grouped.firsts g lt in
          (first.0, short g lt first.0 first.1 first.2 (cases_lt first.0 (x.depth - 1)) (cases_lt g (x.groups - 1)), first.2));
      some = walk.grouped.some;
      zero = walk.grouped.zero;
    };
    followed = record {
      letters = walk.followed.letters;
      none = walk.followed.none;
      left = λ q lt h. elim (walk.followed.left q lt h) [
        | inl on ↦ back q on.0 on.1 on.2 (cases_lt on.0 (x.depth - 1))
        | inr full ↦ inr full
      ];
      targets = walk.followed.targets;
    };
    joined = walk.joined;
    numbered = walk.numbered;
    listed = walk.listed;
  }
    where
      back : (q j : ℕ) → j < x.depth → at x.path j ≡ q → (j < x.depth - 1) ⊎ (x.depth - 1 ≤ j) → ((j : ℕ) × (j < x.depth - 1) × (at x.path j ≡ q))
          ⊎ (at x.next q ≡ width)
      back q j lt e (inl under) = inl (j, under, e)
      back q j lt e (inr over) = (let last : x.depth - 1 ≡ j = omega (arith, over, lt) in inr (ap (at x.next) (sym (ap (at x.path) last ∙ e)) ∙ all))

      short : (g : ℕ) → g < x.groups → (j : ℕ) → j < x.depth → at x.place (at x.path j) ≡ at x.bounds g → (j < x.depth - 1) ⊎ (x.depth - 1 ≤ j)
          → (g < x.groups - 1) ⊎ (x.groups - 1 ≤ g) → j < x.depth - 1
      short g less j lt e (inl under) before = under
      short g less j lt e (inr over) (inl before) =
          let last : x.depth - 1 ≡ j = omega (arith, over, lt) in
          absurd (omega (
            arith,
            ap (λ j. at x.place (at x.path j)) last,
            e,
            walk.grouped.rising g (x.groups - 1) before (omega (arith, some_groups)),
            in_last (x.groups - 1) (omega (arith, some_groups)),
          ))
      short g less j lt e (inr over) (inr greatest) =
          let last : x.depth - 1 ≡ j = omega (arith, over, lt) in
          let same : x.groups - 1 ≡ g = omega (arith, greatest, less) in
          absurd (later (ap (at x.bounds) same ∙ (sym e ∙ sym (ap (λ j. at x.place (at x.path j)) last))))
