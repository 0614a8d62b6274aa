-- What a letter leads to is made ready: it has a number, or is held in no lower group than the state that the letter was followed from.
use Rattle.std.proofs.Common.{◌≡◌, ℕ, ◌+◌, ◌-◌, ◌*◌, ◌<◌, ◌≤◌, List, length, slice_index as at, slice_set, refl, sym, ap, ◌∙◌, subst, arith, inl, inr}
use Rattle.part_laws.specs.Graphs.{Reaches}
use Rattle.components.specs.Walking.{Layout, AreSteps, IsHeld, IsWalk, effort, seen, total}
use Rattle.part_laws.proofs.Walking.{reaches_on}
use Rattle.part_laws.proofs.Parting.{step_reaches}
use Rattle.components.proofs.Seeing.{seen_walk, seen_held, seen_last, seen_kept, seen_still}
use Rattle.components.proofs.Following.{LeadsOn, top_below, top_held, reach_top, some_groups, last_greatest, joined_walk, followed_walk, followed_less}

-- the last group's bound stands in the list
pub last_bound_in : (n : ℕ) (rows : List ℕ) (width : ℕ) (x : Layout) → IsWalk n rows width x → 0 < x.depth → x.groups - 1 < length x.bounds
last_bound_in n rows width x walk some = omega (arith, some_groups n rows width x walk some, walk.counted.few_groups, walk.sized.bounds)

-- and so does the last state of the path
pub path_in : (n : ℕ) (rows : List ℕ) (width : ℕ) (x : Layout) → IsWalk n rows width x → 0 < x.depth → x.depth - 1 < length x.path
path_in n rows width x walk some = omega (arith, some, walk.counted.few_on_path, walk.sized.path)

pub record IsReady (n : ℕ) (rows : List ℕ) (width : ℕ) (old new : Layout) (s y : ℕ) : Type 0 where
  pub walk : IsWalk n rows width new
  pub held : IsHeld n new.part new.place s
  pub next : new.next ≡ old.next
  pub leads : LeadsOn n new s y
  pub little : new.groups + new.depth ≤ old.groups + old.depth + 2
  pub kept : (q : ℕ) → at old.place q < n → at new.place q < n

module _ (n : ℕ) (rows : List ℕ) (width : ℕ) (x : Layout) (walk : IsWalk n rows width x) (some : 0 < x.depth) (steps : AreSteps n rows width) (s : ℕ)
    (s_is : s ≡ at x.path (x.depth - 1)) (letter : ℕ) (below : letter < width) (y : ℕ) (y_is : y ≡ at rows (s * width + letter)) where
  pub state_in : s < n
  state_in = omega (arith, s_is, top_below n rows width x walk some)

  pub state_held : IsHeld n x.part x.place s
  state_held = subst (λ s. IsHeld n x.part x.place s) (sym s_is) (top_held n rows width x walk some)

  pub target_in : y < n
  target_in = omega (arith, y_is, steps s letter state_in below)

  reached : (p : ℕ) → p < n → IsHeld n x.part x.place p → Reaches rows width p y
  reached p lt h = subst (λ y. Reaches rows width p y) (sym y_is)
      (reaches_on rows width p s (at rows (s * width + letter)) (subst (λ s. Reaches rows width p s) (sym s_is) (reach_top n rows width x walk some p lt h))
      (step_reaches rows width s letter below))

  pub ready_numbered : at x.part y < n → IsReady n rows width x x s y
  ready_numbered numbered = record {
    walk = walk;
    held = state_held;
    next = refl;
    leads = inl numbered;
    little = omega arith;
    kept = λ q lt. lt;
  }

  pub ready_held : n ≤ at x.part y → at x.place y < n → at x.bounds (x.groups - 1) ≤ at x.place y → IsReady n rows width x x s y
  ready_held unnumbered placed last = record {
    walk = walk;
    held = state_held;
    next = refl;
    leads = inr (
      record {
        placed = placed;
        unnumbered = unnumbered;
      },
      λ g less le. omega (arith, last, last_greatest n rows width x walk some g less),
    );
    little = omega arith;
    kept = λ q lt. lt;
  }

  pub ready_seen : n ≤ at x.part y → n ≤ at x.place y → IsReady n rows width x (seen x y) s y
  ready_seen unnumbered unseen = record {
    walk = seen_walk n rows width x y walk target_in unseen unnumbered reached;
    held = seen_still n rows width x y walk target_in unseen unnumbered reached s state_held;
    next = refl;
    leads = inr (seen_held n rows width x y walk target_in unseen unnumbered reached, seen_last n rows width x y walk target_in unseen unnumbered reached s);
    little = omega arith;
    kept = seen_kept n rows width x y walk target_in unseen unnumbered reached;
  }

  -- if it is held in an earlier group, the last two groups are joined
  pub earlier_joined : n ≤ at x.part y → at x.place y < n → at x.place y < at x.bounds (x.groups - 1) → IsWalk n rows width (record x { groups = x.groups - 1 })
  earlier_joined unnumbered placed low =
      let same : at rows (at x.path (x.depth - 1) * width + letter) ≡ y = ap (λ s. at rows (s * width + letter)) (sym s_is) ∙ sym y_is in
      joined_walk n rows width x walk some letter below steps
      (subst (λ y. IsHeld n x.part x.place y) (sym same) (record {
        placed = placed;
        unnumbered = unnumbered;
      }))
      (omega (arith, ap (at x.place) same, low))

-- then the letter counts as followed
module _ (n : ℕ) (rows : List ℕ) (width : ℕ) (old new : Layout) (s y letter : ℕ) (ready : IsReady n rows width old new s y) (inside : s < n)
    (letter_is : letter ≡ at old.next s) (below : letter < width) (y_is : y ≡ at rows (s * width + letter)) where
  same : letter ≡ at new.next s
  same = letter_is ∙ sym (ap (λ (xs : List ℕ). at xs s) ready.next)

  leads_on : LeadsOn n new s (at rows (s * width + at new.next s))
  leads_on = subst (λ y. LeadsOn n new s y) (y_is ∙ ap (λ l. at rows (s * width + l)) same) ready.leads

  pub ready_walk : IsWalk n rows width (record new { next = slice_set new.next s (letter + 1) })
  ready_walk = subst (λ l. IsWalk n rows width (record new { next = slice_set new.next s (l + 1) })) (sym same)
      (followed_walk n rows width new s ready.walk inside ready.held (omega (arith, same, below)) leads_on)

  pub ready_less : effort n width (record new { next = slice_set new.next s (letter + 1) }) < effort n width old
  ready_less =
      let less = subst (λ l. effort n width (record new { next = slice_set new.next s (l + 1) }) + 3 ≡ effort n width new) (sym same)
      (followed_less n rows width new s ready.walk inside ready.held (omega (arith, same, below)) leads_on) in
      omega (arith, less, ready.little, ap (λ (xs : List ℕ). 3 * (n * width - total xs)) ready.next)
