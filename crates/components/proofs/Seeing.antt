-- One state more is seen, which all held states reach.
use Rattle.std.proofs.Common.{◌≡◌, ◌≢◌, ℕ, ◌+◌, ◌*◌, ◌<◌, ◌≤◌, List, [], slice_index as at, slice_set, sym, ap, ◌∙◌, subst, arith, inl, inr, ◌⊎◌}
use Rattle.std.proofs.lemmas.Bool.{cases_eq, cases_lt}
use Rattle.std.proofs.lemmas.List.{length-set, get_or-set_same, get_or-set_other}
use Rattle.part_laws.specs.Graphs.{Reaches}
use Rattle.components.specs.Walking.{Layout, IsHeld, IsNotLower, AreSized, AreCounted, ArePlaced, IsPath, AreGroups, AreFollowed, AreJoined, IsWalk, seen, fresh}
use Rattle.part_laws.proofs.Walking.{reaches_by}
use Rattle.components.proofs.Totals.{fresh_set, fresh_some}

-- there is room for a state that was not seen
pub record HasRoom (n : ℕ) (x : Layout) : Type 0 where
  pub held : x.held < n
  pub groups : x.groups < n
  pub path : x.depth < n

pub room_left : (n : ℕ) (rows : List ℕ) (width : ℕ) (x : Layout) (y : ℕ) → IsWalk n rows width x → y < n → n ≤ at x.place y → HasRoom n x
room_left n rows width x y walk inside unseen =
    let left : 0 < fresh n x.place = fresh_some n x.place y (omega (arith, walk.sized.place, inside)) unseen in
    record {
      held = omega (arith, left, walk.counted.few_held);
      groups = omega (arith, left, walk.counted.few_groups);
      path = omega (arith, left, walk.counted.few_on_path);
    }

module _ (n : ℕ) (rows : List ℕ) (width : ℕ) (x : Layout) (y : ℕ) (walk : IsWalk n rows width x) (inside : y < n) (unseen : n ≤ at x.place y)
    (unnumbered : n ≤ at x.part y)
    (reached : (p : ℕ) → p < n → IsHeld n x.part x.place p → Reaches rows width p y) where
  room_held : x.held < n
  room_held = (room_left n rows width x y walk inside unseen).held

  room_groups : x.groups < n
  room_groups = (room_left n rows width x y walk inside unseen).groups

  room_path : x.depth < n
  room_path = (room_left n rows width x y walk inside unseen).path

  abbrev place : List ℕ
  place = slice_set x.place y x.held

  abbrev order : List ℕ
  order = slice_set x.order x.held y

  abbrev bounds : List ℕ
  bounds = slice_set x.bounds x.groups x.held

  abbrev path : List ℕ
  path = slice_set x.path x.depth y

  pub place_here : at place y ≡ x.held
  place_here = get_or-set_same x.place y x.held 0 (omega (arith, walk.sized.place, inside))

  place_else : (q : ℕ) → q ≢ y → at place q ≡ at x.place q
  place_else q ne = get_or-set_other x.place y q x.held 0 ne

  order_here : at order x.held ≡ y
  order_here = get_or-set_same x.order x.held y 0 (omega (arith, walk.sized.order, room_held))

  order_else : (k : ℕ) → k ≢ x.held → at order k ≡ at x.order k
  order_else k ne = get_or-set_other x.order x.held k y 0 ne

  bounds_here : at bounds x.groups ≡ x.held
  bounds_here = get_or-set_same x.bounds x.groups x.held 0 (omega (arith, walk.sized.bounds, room_groups))

  bounds_else : (g : ℕ) → g < x.groups → at bounds g ≡ at x.bounds g
  bounds_else g lt = get_or-set_other x.bounds x.groups g x.held 0 (λ e. omega (arith, e, lt))

  path_here : at path x.depth ≡ y
  path_here = get_or-set_same x.path x.depth y 0 (omega (arith, walk.sized.path, room_path))

  path_else : (j : ℕ) → j < x.depth → at path j ≡ at x.path j
  path_else j lt = get_or-set_other x.path x.depth j y 0 (λ e. omega (arith, e, lt))

  -- what was held is held, and nothing else but the new state is
  was : (q : ℕ) → q ≢ y → IsHeld n x.part place q → IsHeld n x.part x.place q
  was q ne h = record {
    placed = omega (arith, h.placed, place_else q ne);
    unnumbered = h.unnumbered;
  }

  other : (q : ℕ) → at x.place q < n → q ≢ y
  other q lt e = omega (arith, lt, unseen, ap (at x.place) e)

  is : (q : ℕ) → IsHeld n x.part x.place q → IsHeld n x.part place q
  is q h = record {
    placed = omega (arith, h.placed, place_else q (other q h.placed));
    unnumbered = h.unnumbered;
  }

  is_here : IsHeld n x.part place y
  is_here = record {
    placed = omega (arith, place_here, room_held);
    unnumbered = unnumbered;
  }

  -- a held state of before has its place
  same_place : (q : ℕ) → IsHeld n x.part x.place q → at place q ≡ at x.place q
  same_place q h = place_else q (other q h.placed)

  path_place : (j : ℕ) → j < x.depth → at place (at path j) ≡ at x.place (at x.path j)
  path_place j lt = ap (at place) (path_else j lt) ∙ same_place (at x.path j) (walk.on_path.held j lt)

  path_place_here : at place (at path x.depth) ≡ x.held
  path_place_here = ap (at place) path_here ∙ place_here

  seen_sized : AreSized n (seen x y)
  seen_sized = record {
    part = walk.sized.part;
    place = length-set x.place y x.held ∙ walk.sized.place;
    next = walk.sized.next;
    order = length-set x.order x.held y ∙ walk.sized.order;
    bounds = length-set x.bounds x.groups x.held ∙ walk.sized.bounds;
    path = length-set x.path x.depth y ∙ walk.sized.path;
    finished = walk.sized.finished;
    few = walk.sized.few;
  }

  seen_counted : AreCounted n place (x.held + 1) (x.groups + 1) (x.depth + 1) x.count x.done
  seen_counted =
      let less = fresh_set n x.place y x.held (omega (arith, walk.sized.place, inside)) unseen room_held in
      record {
        few_held = omega (arith, less, walk.counted.few_held);
        few_groups = omega (arith, less, walk.counted.few_groups);
        few_on_path = omega (arith, less, walk.counted.few_on_path);
        all = omega (arith, less, walk.counted.all);
      }

  seen_placed : ArePlaced n x.part place order (x.held + 1)
  seen_placed = record {
    within = λ q lt h. elim (cases_eq q y) [
      | inl e ↦ omega (arith, ap (at place) e, place_here)
      | inr ne ↦ omega (arith, place_else q ne, walk.placed.within q lt (was q ne h))
    ];
    there = λ q lt h. elim (cases_eq q y) [
      | inl e ↦ ap (at order) (ap (at place) e ∙ place_here) ∙ (order_here ∙ sym e)
      | inr ne ↦ (let low = walk.placed.within q lt (was q ne h) in
          ap (at order) (place_else q ne) ∙ (order_else (at x.place q) (λ e. omega (arith, e, low)) ∙ walk.placed.there q lt (was q ne h)))
    ];
    below = λ k lt. elim (cases_lt k x.held) [
      | inl under ↦ omega (arith, order_else k (λ e. omega (arith, e, under)), walk.placed.below k under)
      | inr over ↦ (let e : k ≡ x.held = omega (arith, over, lt) in omega (arith, ap (at order) e, order_here, inside))
    ];
    back = λ k lt. elim (cases_lt k x.held) [
      | inl under ↦ (let same = order_else k (λ e. omega (arith, e, under)) in
          ap (at place) same ∙ (place_else (at x.order k) (other (at x.order k) (omega (arith, walk.placed.back k under, under, room_held)))
          ∙ walk.placed.back k under))
      | inr over ↦ (let e : k ≡ x.held = omega (arith, over, lt) in ap (at place) (ap (at order) e ∙ order_here) ∙ (place_here ∙ sym e))
    ];
    unnumbered = λ k lt. elim (cases_lt k x.held) [
      | inl under ↦ omega (arith, ap (at x.part) (order_else k (λ e. omega (arith, e, under))), walk.placed.unnumbered k under)
      | inr over ↦ (let e : k ≡ x.held = omega (arith, over, lt) in omega (arith, ap (at x.part) (ap (at order) e ∙ order_here), unnumbered))
    ];
    few = omega (arith, room_held);
    unseen = λ q lt le. elim (cases_eq q y) [
      | inl e ↦ omega (arith, ap (at x.part) e, unnumbered)
      | inr ne ↦ walk.placed.unseen q lt (omega (arith, le, place_else q ne))
    ];
  }

  seen_path : IsPath n x.part place path (x.depth + 1)
  seen_path = record {
    below = λ j lt. elim (cases_lt j x.depth) [
      | inl under ↦ omega (arith, path_else j under, walk.on_path.below j under)
      | inr over ↦ (let e : j ≡ x.depth = omega (arith, over, lt) in omega (arith, ap (at path) e, path_here, inside))
    ];
    held = λ j lt. elim (cases_lt j x.depth) [
      | inl under ↦ subst (λ s. IsHeld n x.part place s) (sym (path_else j under)) (is (at x.path j) (walk.on_path.held j under))
      | inr over ↦ (let e : j ≡ x.depth = omega (arith, over, lt) in subst (λ s. IsHeld n x.part place s) (sym (ap (at path) e ∙ path_here)) is_here)
    ];
    rising = λ i j less lt. elim (cases_lt j x.depth) [
      | inl under ↦ omega (arith, path_place i (omega (arith, less, under)), path_place j under, walk.on_path.rising i j less under)
      | inr over ↦ (let e : j ≡ x.depth = omega (arith, over, lt) in
          let low : i < x.depth = omega (arith, less, e) in
          omega (
            arith,
            path_place i low,
            ap (λ j. at place (at path j)) e,
            path_place_here,
            walk.placed.within (at x.path i) (walk.on_path.below i low)
                (walk.on_path.held i low),
          ))
    ];
  }

  -- each group begins before the end of what was held
  first_low : (g : ℕ) → g < x.groups → at x.bounds g < x.held
  first_low g lt = let first = walk.grouped.firsts g lt in
      omega (arith, first.2, walk.placed.within (at x.path first.0) (walk.on_path.below first.0 first.1) (walk.on_path.held first.0 first.1))

  seen_groups : AreGroups place path (x.depth + 1) bounds (x.groups + 1) (x.held + 1)
  seen_groups = record {
    rising = λ g h less lt. elim (cases_lt h x.groups) [
      | inl under ↦ omega (arith, bounds_else g (omega (arith, less, under)), bounds_else h under, walk.grouped.rising g h less under)
      | inr over ↦ (let e : h ≡ x.groups = omega (arith, over, lt) in
          let low : g < x.groups = omega (arith, less, e) in
          omega (arith, bounds_else g low, ap (at bounds) e, bounds_here, first_low g low))
    ];
    firsts = λ g lt. elim (cases_lt g x.groups) [
      | inl under ↦ (let first = walk.grouped.firsts g under in (
        first.0,
        omega (arith, first.1),
        path_place first.0 first.1
            ∙ (first.2 ∙ sym (bounds_else g under)),
      ))
      | inr over ↦ (let e : g ≡ x.groups = omega (arith, over, lt) in (x.depth, omega arith, path_place_here ∙ sym (ap (at bounds) e ∙ bounds_here)))
    ];
    some = λ lt. omega arith;
    zero = λ lt. elim (cases_lt 0 x.groups) [
      | inl under ↦ (let first = walk.grouped.firsts 0 under in bounds_else 0 under ∙ walk.grouped.zero (omega (arith, first_low 0 under)))
      | inr over ↦ (let e : 0 ≡ x.groups = omega (arith, over) in ap (at bounds) e ∙ (bounds_here ∙ none e (cases_lt 0 x.held)))
    ];
  }
    where
      none : 0 ≡ x.groups → (0 < x.held) ⊎ (x.held ≤ 0) → x.held ≡ 0
      none e (inl lt) = absurd (omega (arith, e, walk.grouped.some lt))
      none e (inr le) = omega (arith, le)

  seen_followed : AreFollowed n rows width x.part place x.next path (x.depth + 1) bounds (x.groups + 1)
  seen_followed = record {
    letters = walk.followed.letters;
    none = λ q lt le. elim (cases_eq q y) [
      | inl e ↦ walk.followed.none q lt (omega (arith, ap (at x.place) e, unseen))
      | inr ne ↦ walk.followed.none q lt (omega (arith, le, place_else q ne))
    ];
    left = λ q lt h. elim (cases_eq q y) [
      | inl e ↦ inl (x.depth, omega arith, path_here ∙ sym e)
      | inr ne ↦ elim (walk.followed.left q lt (was q ne h)) [
        | inl on ↦ inl (on.0, omega (arith, on.1), path_else on.0 on.1 ∙ on.2)
        | inr all ↦ inr all
      ]
    ];
    targets = λ q l lt h letter. elim (cases_eq q y) [
      | inl e ↦ absurd (omega (arith, letter, walk.followed.none q lt (omega (arith, ap (at x.place) e, unseen))))
      | inr ne ↦ elim (walk.followed.targets q l lt (was q ne h) letter) [
        | inl numbered ↦ inl numbered
        | inr further ↦ inr (is (at rows (q * width + l)) further.0, lower q l lt (was q ne h) further.0 further.1)
      ]
    ];
  }
    where
      lower : (q l : ℕ) → q < n → IsHeld n x.part x.place q → IsHeld n x.part x.place (at rows (q * width + l)) → IsNotLower x.bounds x.groups x.place q
          (at rows (q * width + l)) → IsNotLower bounds (x.groups + 1) place q (at rows (q * width + l))
      lower q l lt h there low g less le = elim (cases_lt g x.groups) [
        | inl under ↦ omega (
          arith,
          bounds_else g under,
          same_place q h,
          same_place (at rows (q * width + l)) there,
          low g under (omega (arith, le, bounds_else g under, same_place q h)),
        )
        | inr over ↦ (let e : g ≡ x.groups = omega (arith, over, less) in
            absurd (omega (arith, le, ap (at bounds) e, bounds_here, same_place q h, walk.placed.within q lt h)))
      ]

  seen_joined : AreJoined n rows width x.part place bounds (x.groups + 1)
  seen_joined p q lt under h k low = elim (cases_eq q y) [
    | inl e ↦ elim (cases_eq p y) [
      | inl same ↦ subst (λ s. Reaches rows width p s) (same ∙ sym e) (reaches_by rows width p [] tt)
      | inr ne ↦ subst (λ s. Reaches rows width p s) (sym e) (reached p lt (was p ne h))
    ]
    | inr ne ↦ elim (cases_eq p y) [
      | inl same ↦ absurd (omega (
        arith,
        low x.groups (omega arith) (omega (arith, bounds_here, ap (at place) same, place_here)),
        bounds_here,
        place_else q ne,
        walk.placed.within q under (was q ne k),
      ))
      | inr apart ↦ walk.joined p q lt under (was p apart h) (was q ne k)
          (λ g less le. omega (
            arith,
            bounds_else g less,
            place_else q ne,
            low g (omega (arith, less))
                (omega (arith, le, bounds_else g less, place_else p apart)),
          ))
    ]
  ]

  pub seen_walk : IsWalk n rows width (seen x y)
  seen_walk = record {
    sized = seen_sized;
    counted = seen_counted;
    placed = seen_placed;
    on_path = seen_path;
    grouped = seen_groups;
    followed = seen_followed;
    joined = seen_joined;
    numbered = walk.numbered;
    listed = walk.listed;
  }

  -- the new state is held, in no lower group than any other
  pub seen_held : IsHeld n x.part place y
  seen_held = is_here

  pub seen_last : (p : ℕ) → IsNotLower bounds (x.groups + 1) place p y
  seen_last p g less le = elim (cases_lt g x.groups) [
    | inl under ↦ omega (arith, bounds_else g under, place_here, first_low g under)
    | inr over ↦ (let e : g ≡ x.groups = omega (arith, over, less) in omega (arith, ap (at bounds) e, bounds_here, place_here))
  ]

  pub seen_still : (q : ℕ) → IsHeld n x.part x.place q → IsHeld n x.part place q
  seen_still = is

  pub seen_kept : (q : ℕ) → at x.place q < n → at place q < n
  seen_kept q lt = omega (arith, lt, place_else q (other q lt))
