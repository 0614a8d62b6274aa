-- Paths: their last letters, their states, and their order.
use Rattle.std.proofs.Common.{◌≡◌, ℕ, ◌+◌, ◌*◌, ◌≤◌, ◌<◌, List, [], ◌∷◌, ◌++◌, length, inl, inr, arith, refl}
use Rattle.std.proofs.Common.{◌∙◌, sym, ap, subst, length-append}
use Rattle.std.specs.Prelude.{slice_index}
use Rattle.std.specs.List.{AllByRecursion}
use Rattle.std.proofs.lemmas.Bool.{cases_order}
use Rattle.graph_laws.specs.Walks.{go}
use Rattle.graph_laws.specs.Paths.{Path, first, Before, AtMost, more}
use Rattle.graph_laws.specs.Paths.Before.{shorter, lower, earlier}
use Rattle.graph_laws.proofs.PathOrder.{chained, one_letter_more, last_letter}
use Rattle.graph_laws.proofs.Joining.{go-append}
use Rattle.lash_model.specs.Tables.{Table, letters, ints, IsTable}
use Rattle.canonical_laws.specs.Canonical.{IsPathOf, walked}
use Rattle.canonical_laws.proofs.Diagrams.{read_below, place_within}
use Rattle.least_paths.specs.Nets.{Net, target, end_of, IsClosed, int_net}
use Rattle.least_paths.specs.Arrivals.{IsNoStart}

-- ---- the order
first_never : (u : List ℕ) → first u u → ⊥
first_never [] h = h
first_never (a ∷ u) (inl h) = omega (arith, h)
first_never (a ∷ u) (inr h) = first_never u h.1

pub never : (x : Path) → Before x x → ⊥
never x (shorter h) = omega (arith, h)
never x (lower e h) = omega (arith, h)
never x (earlier e f h) = first_never x.word h

pub meet : (x y : Path) → AtMost x y → AtMost y x → x ≡ y
meet x y (inl e) k = e
meet x y (inr b) (inl e) = sym e
meet x y (inr b) (inr c) = absurd (never x (chained x y x b c))

pub before_more : (x : Path) (l : ℕ) → Before x (more x l)
before_more x l = shorter (omega (arith, length-append x.word (l ∷ [])))

pub before_at_most : (x y z : Path) → Before x y → AtMost y z → Before x z
before_at_most x y z h (inl e) = subst (λ p. Before x p) e h
before_at_most x y z h (inr k) = chained x y z h k

pub more_at_most : (x y : Path) (a b : ℕ) → AtMost x y → a ≤ b → AtMost (more x a) (more y b)
more_at_most x y a b (inr h) k = inr (one_letter_more x y a b h)
more_at_most x y a b (inl e) k = elim (cases_order a b) [
  | inl same ↦ inl (ap (λ p. more p a) e ∙ ap (more y) same)
  | inr other ↦ elim other [
    | inl lt ↦ inr (subst (λ p. Before (more p a) (more y b)) (sym e) (last_letter y a b lt))
    | inr gt ↦ absurd (omega (arith, gt, k))
  ]
]

-- ---- the last letter
record Ended (w : List ℕ) : Type 0 where
  pub front : List ℕ
  pub last : ℕ
  pub is : w ≡ front ++ last ∷ []

ended : (l : ℕ) (w : List ℕ) → Ended (l ∷ w)
ended l [] = record { front = []; last = l; is = refl }
ended l (k ∷ w) = let d : Ended (k ∷ w) = ended k w in record { front = l ∷ d.front; last = d.last; is = ap (λ v. l ∷ v) d.is }

front_letters : (n : ℕ) (v : List ℕ) (a : ℕ) → AllByRecursion (λ l. l < n) (v ++ a ∷ []) → AllByRecursion (λ l. l < n) v
front_letters n [] a h = tt
front_letters n (l ∷ v) a h = (h.0, front_letters n v a h.1)

last_inside : (n : ℕ) (v : List ℕ) (a : ℕ) → AllByRecursion (λ l. l < n) (v ++ a ∷ []) → a < n
last_inside n [] a h = h.0
last_inside n (l ∷ v) a h = last_inside n v a h.1

more_letters : (n : ℕ) (v : List ℕ) (a : ℕ) → AllByRecursion (λ l. l < n) v → a < n → AllByRecursion (λ l. l < n) (v ++ a ∷ [])
more_letters n [] a h k = (k, tt)
more_letters n (l ∷ v) a h k = (h.0, more_letters n v a h.1 k)

-- ---- the ends of paths
go_in : (g : Net) → IsClosed g → (q : ℕ) (w : List ℕ) → q < g.states → AllByRecursion (λ l. l < g.width) w → go g.rows g.width q w < g.states
go_in g h q [] q_in a = q_in
go_in g h q (l ∷ w) q_in a = go_in g h (slice_index g.rows (q * g.width + l)) w (h.targets_in q l q_in a.0) a.1

pub end_in : (g : Net) → IsClosed g → (p : Path) → IsPathOf g.starts g.width p → end_of g p < g.states
end_in g h p v = go_in g h (slice_index g.starts p.start) p.word (h.starts_in p.start v.start) v.letters

-- ---- the integer part of a table
pub int_closed : (t : Table) → IsTable t → IsClosed (int_net t)
int_closed t h = record {
  starts_in = λ j lt. read_below t.roots (ints t) j h.roots_in lt;
  targets_in = λ q l q_in l_in. read_below t.rows (ints t) (q * letters t + l) h.rows_in
      (subst (λ n. q * letters t + l < n) (sym h.rows_count) (place_within q (ints t) (letters t) l q_in l_in));
}

abbrev pub state_of : Table → Path → ℕ
state_of t p = walked t.roots t.rows (letters t) p

pub state_in : (t : Table) → IsTable t → (p : Path) → IsPathOf t.roots (letters t) p → state_of t p < ints t
state_in t h p v = end_in (int_net t) (int_closed t h) p v

-- ---- a letter more
pub more_valid : (g : Net) (p : Path) (l : ℕ) → IsPathOf g.starts g.width p → l < g.width → IsPathOf g.starts g.width (more p l)
more_valid g p l v k = record { start = v.start; letters = more_letters g.width p.word l v.letters k }

pub more_leads : (g : Net) (p : Path) (l : ℕ) → end_of g (more p l) ≡ target g (end_of g p) l
more_leads g p l = go-append g.rows g.width (slice_index g.starts p.start) p.word (l ∷ [])

-- a path to a state that is no root is a path and a letter
pub record Arrived (g : Net) (q : ℕ) (x : Path) : Type 0 where
  pub before : Path
  pub letter : ℕ
  pub is : x ≡ more before letter
  pub valid : IsPathOf g.starts g.width before
  pub letter_in : letter < g.width
  pub leads : target g (end_of g before) letter ≡ q

arrived_by : (g : Net) → IsClosed g → (q : ℕ) → IsNoStart g q → (start : ℕ) (w : List ℕ) → start < length g.starts
    → AllByRecursion (λ l. l < g.width) w → go g.rows g.width (slice_index g.starts start) w ≡ q → Arrived g q (record { start = start; word = w })
arrived_by g h q no_root start [] s a e = absurd (no_root start s e)
arrived_by g h q no_root start (l ∷ w) s a e =
    let d : Ended (l ∷ w) = ended l w in
    let parts : AllByRecursion (λ k. k < g.width) (d.front ++ d.last ∷ []) = subst (AllByRecursion (λ k. k < g.width)) d.is a in
    record {
      before = record { start = start; word = d.front };
      letter = d.last;
      is = ap (λ v. record { start = start; word = v }) d.is;
      valid = record { start = s; letters = front_letters g.width d.front d.last parts };
      letter_in = last_inside g.width d.front d.last parts;
      leads = sym (go-append g.rows g.width (slice_index g.starts start) d.front (d.last ∷ []))
          ∙ ap (go g.rows g.width (slice_index g.starts start)) (sym d.is) ∙ e;
    }

pub arrived : (g : Net) → IsClosed g → (q : ℕ) → IsNoStart g q → (x : Path) → IsPathOf g.starts g.width x → end_of g x ≡ q → Arrived g q x
arrived g h q no_root x v e = arrived_by g h q no_root x.start x.word v.start v.letters e
