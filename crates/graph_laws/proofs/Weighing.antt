-- Weights: distinct members weigh no more than the whole list, so heavy and explored exclude each other.
use Rattle.std.proofs.Common.{◌≡◌, ℕ, zero, suc, ◌+◌, ◌-◌, ◌*◌, ◌<◌, ◌≤◌, List, [], ◌∷◌, length, map, slice_get, All, zero-add, arith, refl, sym, ap, ◌∙◌}
use Rattle.std.specs.declared.option.Option.TheVariants.{Some}
use Rattle.std.specs.List.{slice_index_or}
use Rattle.std.proofs.lemmas.Option.{slice_get_within, get_or_from_slice_get}
use Rattle.std.proofs.lemmas.List.{get_or-map, length-map}
use Rattle.std.proofs.lemmas.List.Elements.{All-nil}
use Rattle.graph_laws.specs.Paths.{path_at, start_path}
use Rattle.graph_laws.specs.Exploring.{Steps, list_at, led, after, IsReached, cells_of, weigh, IsDistinct, IsHeavy, led_by, IsHeavyInTwo, KeyTable, position, IsExplored, IsExploredInTwo}

-- the list has the key
pub record Has (ys : List (List ℕ)) (x : List ℕ) : Type 0 where
  pub at : ℕ
  pub is : slice_get ys at ≡ Some x

-- the list without the key at a place
abbrev pub without : List (List ℕ) → ℕ → List (List ℕ)
without [] i = []
without (y ∷ ys) zero = ys
without (y ∷ ys) (suc i) = y ∷ without ys i

same_some : (x y : List ℕ) → slice_get (x ∷ []) 0 ≡ Some y → x ≡ y
same_some x y e = cc

weigh_without : (m : Steps) (ys : List (List ℕ)) (i : ℕ) (x : List ℕ) → slice_get ys i ≡ Some x → weigh m ys ≡ cells_of m x + weigh m (without ys i)
weigh_without m [] i x e = grind arith
weigh_without m (y ∷ ys) zero x e = ap (λ k. cells_of m k + weigh m ys) (same_some y x e)
weigh_without m (y ∷ ys) (suc i) x e = omega (arith, weigh_without m ys i x e)

has_without : (ys : List (List ℕ)) (i j : ℕ) (x z : List ℕ) → slice_get ys i ≡ Some x → slice_get ys j ≡ Some z → (x ≡ z → ⊥) → Has (without ys i) z
has_without [] i j x z e f apart = grind arith
has_without (y ∷ ys) zero zero x z e f apart = absurd (apart (sym (same_some y x e) ∙ same_some y z f))
has_without (y ∷ ys) zero (suc j) x z e f apart = record { at = j; is = f }
has_without (y ∷ ys) (suc i) zero x z e f apart = record { at = 0; is = f }
has_without (y ∷ ys) (suc i) (suc j) x z e f apart = let r = has_without ys i j x z e f apart in record { at = suc r.at; is = r.is }

-- a distinct list whose members are all in another weighs at most as much
weigh_within : (m : Steps) (xs ys : List (List ℕ)) → IsDistinct xs → All (Has ys) xs → weigh m xs ≤ weigh m ys
weigh_within m [] ys d a = omega arith
weigh_within m (x ∷ xs) ys d a =
    let first = a 0 [] (omega arith) in
    omega (
      arith,
      weigh_without m ys first.at x first.is,
      weigh_within m xs (without ys first.at)
          (λ i j e lt j_in. d (suc i) (suc j) e (omega (arith, lt)) (omega (arith, j_in)))
          (λ i e i_in. let other = a (suc i) e (omega (arith, i_in)) in has_without ys first.at other.at x (slice_index_or xs i e) first.is other.is (d 0 (suc i) e (omega arith) (omega (arith, i_in)))),
    )

-- reached keys stand in the table
in_table : (m : Steps) (limit : ℕ) (t : KeyTable) (ks : List (List ℕ)) → IsExplored m limit t → All (IsReached m) ks → All (Has t.keys) ks
in_table m limit t ks e r i k lt = let one = r i k lt in record { at = position t one.path; is = e.complete one.path one.valid ∙ ap (λ x. Some x) one.leads }

-- distinct reached keys weigh no more than the table
pub weigh_explored : (m : Steps) (limit : ℕ) (t : KeyTable) (ks : List (List ℕ)) → IsExplored m limit t → IsDistinct ks → All (IsReached m) ks → weigh m ks ≤ t.cells
weigh_explored m limit t ks e d r = omega (arith, e.weighs, weigh_within m ks t.keys d (in_table m limit t ks e r))

-- heavy and explored exclude each other
pub not_both : (m : Steps) (limit : ℕ) (t : KeyTable) → IsHeavy m limit → IsExplored m limit t → ⊥
not_both m limit t h e = omega (arith, h.over, e.within, weigh_explored m limit t h.keys e h.distinct h.reached)

-- the first of two is heavy
pub heavy_at_first : (a : Steps) (lead : List ℕ → List ℕ) (b : Steps) (limit : ℕ) → IsHeavy a limit → IsHeavyInTwo a lead b limit
heavy_at_first a lead b limit h = record {
  keys = h.keys;
  other_keys = [];
  distinct = h.distinct;
  other_distinct = λ i j d lt lt'. absurd (omega arith);
  reached = h.reached;
  other_reached = All-nil _;
  over = omega (arith, h.over);
}

-- each key of the table is reached
unfoldable pub table_reached : (m : Steps) (limit : ℕ) (t : KeyTable) → IsExplored m limit t → All (IsReached m) t.keys
table_reached m limit t e i d lt =
    let as_long : length t.keys ≡ length e.paths = ap length e.reached ∙ length-map e.paths (after m) in
    let path_in : i < length e.paths = omega (arith, lt, as_long) in
    record {
      path = path_at e.paths i;
      valid = e.valid i (start_path 0) path_in;
      leads = sym (ap (λ ks. slice_index_or ks i d) e.reached ∙ get_or-map (after m) e.paths i (start_path 0) d path_in);
    }

-- the second machine's keys weigh the same whatever leads to it
weigh_led : (lead : List ℕ → List ℕ) (b : Steps) (keys ks : List (List ℕ)) → weigh (led_by lead b keys) ks ≡ weigh b ks
weigh_led lead b keys [] = refl
weigh_led lead b keys (k ∷ ks) = ap (λ n. cells_of b k + n) (weigh_led lead b keys ks)

-- the second of two is heavy, at what the first left
pub heavy_at_second : (a : Steps) (lead : List ℕ → List ℕ) (b : Steps) (limit : ℕ) (t : KeyTable) → IsExplored a limit t → IsHeavy (led_by lead b t.keys) (limit - t.cells) → IsHeavyInTwo a lead b limit
heavy_at_second a lead b limit t e h = record {
  keys = t.keys;
  other_keys = h.keys;
  distinct = e.distinct;
  other_distinct = h.distinct;
  reached = table_reached a limit t e;
  other_reached = h.reached;
  over = omega (arith, h.over, e.weighs, e.within, weigh_led lead b t.keys h.keys);
}

-- a path of the second machine from one of some keys leads to the same key from any list that has those keys
reached_from_more : (lead : List ℕ → List ℕ) (b : Steps) (ks keys : List (List ℕ)) → All (Has keys) ks → (k : List ℕ) → IsReached (led_by lead b ks) k → IsReached (led_by lead b keys) k
reached_from_more lead b ks keys has k r =
    let j = r.path.start in
    let in_ks : j < length ks = omega (arith, r.valid.start, length-map ks lead) in
    let h = has j [] in_ks in
    let in_keys : h.at < length keys = slice_get_within keys h.at _ h.is in
    let same : list_at (map lead keys) h.at ≡ list_at (map lead ks) j = get_or-map lead keys h.at [] [] in_keys ∙ ap lead (get_or_from_slice_get keys h.at _ [] h.is) ∙ sym (get_or-map lead ks j [] [] in_ks) in
    record {
      path = record { start = h.at; word = r.path.word };
      valid = record { start = omega (arith, in_keys, length-map keys lead); letters = r.valid.letters };
      leads = ap (λ x. led b.step x r.path.word) same ∙ r.leads;
    }

-- heavy in two and explored in two exclude each other
pub not_in_two : (a : Steps) (lead : List ℕ → List ℕ) (b : Steps) (limit : ℕ) (t u : KeyTable) → IsHeavyInTwo a lead b limit → IsExploredInTwo a lead b limit t u → ⊥
not_in_two a lead b limit t u h e = omega (
  arith,
  h.over,
  e.first_part.within,
  e.second_part.within,
  weigh_explored a limit t h.keys e.first_part h.distinct h.reached,
  weigh_led lead b t.keys h.other_keys,
  weigh_explored (led_by lead b t.keys) (limit - t.cells) u h.other_keys e.second_part h.other_distinct
      (λ i k lt. reached_from_more lead b h.keys t.keys (in_table a limit t h.keys e.first_part h.reached) _ (h.other_reached i k lt)),
)

-- the keys that are single numbers from a on, n of them
abbrev pub singles : ℕ → ℕ → List (List ℕ)
singles a zero = []
singles a (suc n) = (a ∷ []) ∷ singles (a + 1) n

has_single : (a n i : ℕ) → i < n → slice_get (singles a n) i ≡ Some ((a + i) ∷ [])
has_single a zero i lt = absurd (omega arith)
has_single a (suc n) zero lt = ap (λ k. Some (k ∷ [])) (omega arith)
has_single a (suc n) (suc i) lt = has_single (a + 1) n i (omega (arith, lt)) ∙ ap (λ k. Some (k ∷ [])) (omega arith)

weigh_singles : (m : Steps) (a n : ℕ) → ((k : List ℕ) → m.weight k ≡ 0) → weigh m (singles a n) ≡ n * (m.width + 1)
weigh_singles m a zero none = omega arith
weigh_singles m a (suc n) none = omega (arith, none (a ∷ []), weigh_singles m (a + 1) n none)

-- keys that are single numbers below n, of no weight of their own, are never heavy where n rows fit
pub no_heavy_on_states : (m : Steps) (n limit : ℕ) → ((k : List ℕ) → m.weight k ≡ 0) → ((k : List ℕ) → IsReached m k → (q : ℕ) × (q < n) × (k ≡ q ∷ [])) → n * (m.width + 1) ≤ limit → IsHeavy m limit → ⊥
no_heavy_on_states m n limit none states fits h = omega (
  arith,
  h.over,
  fits,
  weigh_singles m 0 n none,
  weigh_within m h.keys (singles 0 n) h.distinct
      (λ i d lt. let s = states (slice_index_or h.keys i d) (h.reached i d lt) in record { at = s.0; is = has_single 0 n s.0 s.1 ∙ ap (λ k. Some k) (ap (λ q. q ∷ []) (zero-add s.0) ∙ sym s.2) }),
)
