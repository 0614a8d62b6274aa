-- The walk before any state is seen.
use Rattle.std.proofs.Common.{◌≡◌, ℕ, ◌<◌, ◌^◌, List, length, slice_index as at, arith}
use Rattle.components.specs.Walking.{Layout, IsWalk}
use Rattle.components.proofs.Totals.{fresh_all, fresh_full}

pub unwalked_walk : (n : ℕ) (x : Layout) → n < 2 ^ 32 → length x.part ≡ n → ((k : ℕ) → k < n → at x.part k ≡ n) → length x.place ≡ n
    → ((k : ℕ) → k < n → at x.place k ≡ n) → length x.next ≡ n → ((k : ℕ) → k < n → at x.next k ≡ 0) → length x.order ≡ n → length x.bounds ≡ n
    → length x.path ≡ n → length x.finished ≡ n → x.held ≡ 0 → x.groups ≡ 0 → x.depth ≡ 0 → x.count ≡ 0 → x.done ≡ 0
    → (rows : List ℕ) (width : ℕ) → IsWalk n rows width x
unwalked_walk n x few part parted place placed next nexts order bounds path finished held groups depth count done rows width = record {
  sized = record {
    part = part;
    place = place;
    next = next;
    order = order;
    bounds = bounds;
    path = path;
    finished = finished;
    few = few;
  };
  counted = record {
    few_held = omega (arith, held, count, place, fresh_all n x.place);
    few_groups = omega (arith, groups, place, fresh_all n x.place);
    few_on_path = omega (arith, depth, place, fresh_all n x.place);
    all = omega (arith, done, held, place, fresh_full n x.place (λ i lt. omega (arith, placed i (omega (arith, lt, place)))));
  };
  placed = record {
    within = λ q lt h. absurd (omega (arith, placed q lt, h.placed));
    there = λ q lt h. absurd (omega (arith, placed q lt, h.placed));
    below = λ k lt. absurd (omega (arith, held, lt));
    back = λ k lt. absurd (omega (arith, held, lt));
    unnumbered = λ k lt. absurd (omega (arith, held, lt));
    few = omega (arith, held);
    unseen = λ q lt le. omega (arith, parted q lt);
  };
  on_path = record {
    below = λ j lt. absurd (omega (arith, depth, lt));
    held = λ j lt. absurd (omega (arith, depth, lt));
    rising = λ i j less lt. absurd (omega (arith, depth, lt));
  };
  grouped = record {
    rising = λ g h less lt. absurd (omega (arith, groups, lt));
    firsts = λ g lt. absurd (omega (arith, groups, lt));
    some = λ lt. absurd (omega (arith, held, lt));
    zero = λ lt. absurd (omega (arith, held, lt));
  };
  followed = record {
    letters = λ q lt. omega (arith, nexts q lt);
    none = λ q lt le. nexts q lt;
    left = λ q lt h. absurd (omega (arith, placed q lt, h.placed));
    targets = λ q l lt h letter. absurd (omega (arith, placed q lt, h.placed));
  };
  joined = λ p q lt under h k lower. absurd (omega (arith, placed p lt, h.placed));
  numbered = record {
    below = λ q lt numbered. absurd (omega (arith, parted q lt, numbered));
    each = λ k lt. absurd (omega (arith, count, lt));
    together = λ p q lt under numbered same. absurd (omega (arith, parted p lt, numbered));
    falls = λ q l lt letter numbered. absurd (omega (arith, parted q lt, numbered));
  };
  listed = record {
    below = λ k lt. absurd (omega (arith, done, lt));
    numbered = λ k lt. absurd (omega (arith, done, lt));
    rising = λ j k less lt. absurd (omega (arith, done, lt));
    all = λ q lt numbered. absurd (omega (arith, parted q lt, numbered));
  };
}
