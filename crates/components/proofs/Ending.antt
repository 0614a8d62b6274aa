-- If the path is empty, nothing is held, so all states that were seen have numbers.
use Rattle.std.proofs.Common.{◌≡◌, ℕ, ◌+◌, ◌*◌, ◌<◌, List, length, slice_index as at, All, sym, arith, inl, inr}
use Rattle.std.proofs.lemmas.Bool.{cases_lt}
use Rattle.std.proofs.lemmas.Nat.{mul-add-lt}
use Rattle.part_laws.specs.Graphs.{Reaches}
use Rattle.components.specs.Partings.{AreSplit, AreInOrder}
use Rattle.components.specs.Walking.{Layout, AreSteps, IsHeld, IsWalk}
use Rattle.components.proofs.Totals.{fresh_none}

pub steps_in : (n : ℕ) (rows : List ℕ) (width : ℕ) → length rows ≡ n * width → All (λ q. q < n) rows → AreSteps n rows width
steps_in n rows width long inside q l lt letter = inside (q * width + l) 0 (omega (arith, long, mul-add-lt q width l n lt letter))

pub nothing_held : (n : ℕ) (rows : List ℕ) (width : ℕ) (x : Layout) → IsWalk n rows width x → x.depth ≡ 0 → x.held ≡ 0
nothing_held n rows width x walk ended = elim (cases_lt 0 x.held) [
  | inl some ↦ absurd (omega (arith, ended, (walk.grouped.firsts 0 (walk.grouped.some some)).1))
  | inr none ↦ omega (arith, none)
]

all_numbered : (n : ℕ) (rows : List ℕ) (width : ℕ) (x : Layout) → IsWalk n rows width x → x.depth ≡ 0 → (q : ℕ) → q < n → at x.place q < n → at x.part q < n
all_numbered n rows width x walk ended q lt seen = elim (cases_lt (at x.part q) n) [
  | inl numbered ↦ numbered
  | inr none ↦ absurd (omega (
    arith,
    nothing_held n rows width x walk ended,
    walk.placed.within q lt (record {
      placed = seen;
      unnumbered = none;
    }),
  ))
]

pub split_whole : (n : ℕ) (rows : List ℕ) (width : ℕ) (x : Layout) → IsWalk n rows width x → x.depth ≡ 0
    → ((q : ℕ) → q < n → at x.place q < n) → AreSplit rows width n x.count x.part
split_whole n rows width x walk ended seen = record {
  numbers = record {
    count = walk.sized.part;
    one = λ p q lt under same. record {
      there = walk.numbered.together p q lt under (number p lt) same;
      back = walk.numbered.together q p under lt (number q under) (sym same);
    };
    falling = λ q l lt letter. walk.numbered.falls q l lt letter (number q lt);
  };
  below = λ q lt. walk.numbered.below q lt (number q lt);
  each = walk.numbered.each;
}
  where
    number : (q : ℕ) → q < n → at x.part q < n
    number q lt = all_numbered n rows width x walk ended q lt (seen q lt)

-- if the path is empty, no held state reaches anything, since there is none
pub none_reach : (n : ℕ) (rows : List ℕ) (width : ℕ) (x : Layout) → IsWalk n rows width x → x.depth ≡ 0 → (y p : ℕ) → p < n → IsHeld n x.part x.place p
    → Reaches rows width p y
none_reach n rows width x walk ended y p lt h = absurd (omega (arith, nothing_held n rows width x walk ended, walk.placed.within p lt h))

-- the states are listed in the order of their parts
pub order_whole : (n : ℕ) (rows : List ℕ) (width : ℕ) (x : Layout) → IsWalk n rows width x → x.depth ≡ 0 → ((q : ℕ) → q < n → at x.place q < n)
    → AreInOrder n x.part x.finished
order_whole n rows width x walk ended seen = record {
  long = walk.sized.finished;
  below = λ k lt. walk.listed.below k (omega (arith, lt, full));
  rising = λ j k less lt. walk.listed.rising j k less (omega (arith, lt, full));
  all = λ q lt. (let one = walk.listed.all q lt (all_numbered n rows width x walk ended q lt (seen q lt)) in (one.0, omega (arith, one.1, full), one.2));
}
  where
    full : x.done ≡ n
    full = omega (arith, walk.counted.all, nothing_held n rows width x walk ended, fresh_none n x.place (λ i lt. seen i (omega (arith, lt, walk.sized.place))))
