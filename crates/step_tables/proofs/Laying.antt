-- The answers of keys, and the tables that are laid out of explorations.
use Rattle.std.proofs.Common.{◌≡◌, ℕ, ◌+◌, ◌*◌, ◌^◌, ◌<◌, ◌≤◌, Bool, true, false, IsTrue, if◌then◌else◌, List, [], ◌∷◌, ◌++◌, length, take, arith, refl, sym, ap, ◌∙◌, subst}
use Rattle.std.specs.Prelude.{All, slice_get, nat_eq}
use Rattle.std.specs.List.{slice_index_or}
use Rattle.std.specs.declared.option.Option.TheVariants.{Some}
use Rattle.std.proofs.lemmas.Bool.{eqb-true}
use Rattle.std.proofs.lemmas.Nat.{pow_pos}
use Rattle.std.proofs.lemmas.List.{length-map, map_push, take_more}
use Rattle.std.proofs.lemmas.List.Elements.{All-map, All-weaker, All-nil}
use Rattle.std.proofs.lemmas.Option.{slice_get_within, get_or_from_slice_get}
use Rattle.graph_laws.specs.Exploring.{KeyTable, list_at}
use Rattle.lash_model.specs.Tables.{Table, IsTable, out_bound}
use Rattle.step_tables.specs.Gathering.{IsLinked}
use Rattle.step_tables.specs.Kept.{answered, laid, laid_in_two}

abbrev bit : Bool → ℕ
bit b = if b then 1 else 0

bit_below : (b : Bool) → bit b < 2
bit_below true = omega arith
bit_below false = omega arith

-- ---- answers
pub proper_at : (proper : List ℕ → Bool) (keys : List (List ℕ)) (i : ℕ) (k : List ℕ) → All (λ x. IsTrue (proper x)) keys → slice_get keys i ≡ Some k → IsTrue (proper k)
proper_at proper keys i k h e = subst (λ x. IsTrue (proper x)) (get_or_from_slice_get keys i k [] e) (h i [] (slice_get_within keys i k e))

pub answered_more : (says_yes : List ℕ → Bool) (keys : List (List ℕ)) (i : ℕ) (k : List ℕ) (to : ℕ) (xs ys : List ℕ) → slice_get keys i ≡ Some k → to ≡ (if says_yes k then 1 else 0) → xs ≡ answered says_yes (take i keys) → ys ≡ xs ++ to ∷ [] → ys ≡ answered says_yes (take (i + 1) keys)
answered_more says_yes keys i k to xs ys e is so_far pushed =
    pushed
    ∙ ap (λ us. us ++ to ∷ []) so_far
    ∙ ap (λ o. answered says_yes (take i keys) ++ o ∷ []) (is ∙ ap (λ x. bit (says_yes x)) (sym (get_or_from_slice_get keys i k [] e)))
    ∙ sym (map_push (λ x. bit (says_yes x)) (take i keys) (list_at keys i))
    ∙ ap (answered says_yes) (sym (take_more keys i [] (slice_get_within keys i k e)))

answered_below : (says_yes : List ℕ → Bool) (keys : List (List ℕ)) → All (λ o. o < 2) (answered says_yes keys)
answered_below says_yes [] = All-nil (λ o. o < 2)
answered_below says_yes keys = All-map (λ o. o < 2) (λ k. bit (says_yes k)) keys (λ i d lt. bit_below (says_yes (slice_index_or keys i d)))

-- ---- tables
some_key : (bound : ℕ) (xs : List ℕ) → All (λ p. p < bound) xs → 0 < length xs → 1 ≤ bound
some_key bound xs h some = omega (arith, h 0 0 some)

states_within : (n m w : ℕ) (c d : ℕ) → n * (w + 1) ≤ c → m * (w + 1) ≤ d → c + d ≤ 16777216 → (n + m) * (w + 1) ≤ 16777216
states_within n m w c d h k few = omega (arith, h, k, few)

below_cases : (b : Bool) (n q : ℕ) → nat_eq n 0 ≡ b → q < n → q < (if b then 2 else n)
below_cases true n q e h = absurd (omega (arith, h, eqb-true n 0 e))
below_cases false n q e h = h

below_bound : (n q : ℕ) → q < n → q < out_bound n
below_bound n q h = below_cases (nat_eq n 0) n q refl h

pub laid_in_range : (base tracks : ℕ) (k : KeyTable) (says_yes : List ℕ → Bool) → 2 ≤ base → base ≤ 16 → base ^ tracks ≤ 4096 → IsLinked k → k.width ≡ base ^ tracks → length k.starts ≡ 2 ^ tracks → k.cells ≤ 16777216 → IsTable (laid base tracks k (answered says_yes k.keys))
laid_in_range base tracks k says_yes low high few h width starts cells = record {
  shape = record {
    base_low = low;
    base_high = high;
    few_letters = few;
    some_state = subst (λ n. 1 ≤ n) (sym count) (some_key (length k.keys) k.starts h.starts_in (subst (λ n. 0 < n) (sym starts) (pow_pos tracks)));
    few_cells = subst (λ n. (n + 0) * (base ^ tracks + 1) ≤ 16777216) (sym count) (subst (λ w. (length k.keys + 0) * (w + 1) ≤ 16777216) width (states_within (length k.keys) 0 k.width k.cells 0 h.few_cells (omega arith) (omega (arith, cells))));
  };
  roots_count = starts;
  rows_count = h.rows_count ∙ ap (λ w. length k.keys * w) width ∙ ap (λ n. n * base ^ tracks) (sym count);
  frac_rows_count = omega arith;
  roots_in = subst (λ n. All (λ q. q < n) k.starts) (sym count) h.starts_in;
  rows_in = subst (λ n. All (λ q. q < n) k.rows) (sym count) h.rows_in;
  outs_in = answered_below says_yes k.keys;
  frac_rows_in = All-nil _;
  colours_in = All-nil _;
}
  where
    count : length (answered says_yes k.keys) ≡ length k.keys
    count = length-map k.keys (λ x. bit (says_yes x))

pub laid_in_two_in_range : (base tracks : ℕ) (k l : KeyTable) (says_yes : List ℕ → Bool) → 2 ≤ base → base ≤ 16 → base ^ tracks ≤ 4096 → IsLinked k → IsLinked l → k.width ≡ base ^ tracks → l.width ≡ base ^ tracks → length k.starts ≡ 2 ^ tracks → length l.starts ≡ length k.keys → k.cells + l.cells ≤ 16777216 → IsTable (laid_in_two base tracks k l (answered says_yes l.keys))
laid_in_two_in_range base tracks k l says_yes low high few h i width other_width starts outs cells = record {
  shape = record {
    base_low = low;
    base_high = high;
    few_letters = few;
    some_state = subst (λ n. 1 ≤ n) (sym outs) (some_key (length k.keys) k.starts h.starts_in (subst (λ n. 0 < n) (sym starts) (pow_pos tracks)));
    few_cells = subst (λ n. (n + length (answered says_yes l.keys)) * (base ^ tracks + 1) ≤ 16777216) (sym outs) (subst (λ m. (length k.keys + m) * (base ^ tracks + 1) ≤ 16777216) (sym count) (states_within (length k.keys) (length l.keys) (base ^ tracks) k.cells l.cells (subst (λ w. length k.keys * (w + 1) ≤ k.cells) width h.few_cells) (subst (λ w. length l.keys * (w + 1) ≤ l.cells) other_width i.few_cells) cells));
  };
  roots_count = starts;
  rows_count = h.rows_count ∙ ap (λ w. length k.keys * w) width ∙ ap (λ n. n * base ^ tracks) (sym outs);
  frac_rows_count = i.rows_count ∙ ap (λ w. length l.keys * w) other_width ∙ ap (λ n. n * base ^ tracks) (sym count);
  roots_in = subst (λ n. All (λ q. q < n) k.starts) (sym outs) h.starts_in;
  rows_in = subst (λ n. All (λ q. q < n) k.rows) (sym outs) h.rows_in;
  outs_in = All-weaker (λ q. q < length l.keys) (λ q. q < out_bound (length (answered says_yes l.keys))) (λ q lt. below_bound (length (answered says_yes l.keys)) q (subst (λ n. q < n) (sym count) lt)) l.starts i.starts_in;
  frac_rows_in = subst (λ n. All (λ q. q < n) l.rows) (sym count) i.rows_in;
  colours_in = answered_below says_yes l.keys;
}
  where
    count : length (answered says_yes l.keys) ≡ length l.keys
    count = length-map l.keys (λ x. bit (says_yes x))

-- the same of equal lists
pub in_range_as : (u : Table) (roots rows outs fracs colours : List ℕ) → IsTable u → roots ≡ u.roots → rows ≡ u.rows → outs ≡ u.outs → fracs ≡ u.frac_rows → colours ≡ u.colours → IsTable (record { base = u.base; tracks = u.tracks; roots = roots; rows = rows; outs = outs; frac_rows = fracs; colours = colours })
in_range_as u roots rows outs fracs colours h roots_are rows_are outs_are fracs_are colours_are = rw (roots_are, rows_are, outs_are, fracs_are, colours_are) h
