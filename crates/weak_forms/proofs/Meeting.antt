-- One state more is met.
use Rattle.std.proofs.Common.{◌≡◌, ℕ, zero, suc, ◌+◌, ◌*◌, ◌<◌, ◌≤◌, Bool, true, false, List, [], ◌∷◌, ◌++◌, length, map, slice_get, slice_index, slice_set, length-append, All, arith, refl, sym, ap, ◌∙◌, subst, add-mul}
use Rattle.std.proofs.Common.{inl, inr}
use Rattle.std.specs.declared.option.Option.TheVariants.{Some}
use Rattle.std.specs.List.{list_any}
use Rattle.std.specs.Cmp.Lexicographic.{bytes_decides}
use Rattle.std.proofs.lemmas.Bool.{cases_lt}
use Rattle.std.proofs.lemmas.List.{map-append, length-set, get_or-set_same, get_or-set_other}
use Rattle.std.proofs.lemmas.List.Elements.{All-push}
use Rattle.part_laws.proofs.Turning.{Twice, pigeonhole}
use Rattle.canonical_laws.proofs.Diagrams.{read_below}
use Rattle.step_tables.specs.Gathering.{same_list}
use Rattle.step_tables.proofs.Placing.{found_at, pushed_left, pushed_last}
use Rattle.least_paths.specs.Searches.{state_key}
use Rattle.weak_forms.specs.Finding.{Placement, HavePlaces, Meets}

-- there are no more found states than states
pub few_found : (order places : List ℕ) → HavePlaces order places → length order ≤ length places
few_found order places h = elim (cases_lt states (length order)) [
  | inr ge ↦ ge
  | inl lt ↦ absurd (by lt (pigeonhole states (λ i. slice_index order i) (λ i le. read_below order states i h.inside (omega (arith, le, lt)))))
]
  where
    states : ℕ
    states = length places

    by : states < length order → Twice states (λ i. slice_index order i) → ⊥
    by lt t = omega (
      arith,
      t.before,
      sym (h.back t.first (omega (arith, t.before, t.bounded, lt))) ∙ ap (slice_index places) t.equal ∙ h.back t.second (omega (arith, t.bounded, lt)),
    )

pub key_at : (order : List ℕ) (p : ℕ) → p < length order → slice_get (map state_key order) p ≡ Some (state_key (slice_index order p))
key_at [] p lt = absurd (omega (arith, lt))
key_at (x ∷ xs) zero lt = refl
key_at (x ∷ xs) (suc p) lt = key_at xs p (omega (arith, lt))

apart_keys : (q x : ℕ) → (x ≡ q → ⊥) → same_list (state_key q) (state_key x) ≡ false
apart_keys q x apart = by (same_list (state_key q) (state_key x)) refl
  where
    by : (b : Bool) → same_list (state_key q) (state_key x) ≡ b → same_list (state_key q) (state_key x) ≡ false
    by false e = e
    by true e = absurd (apart (sym (ap (λ k. slice_index k 0) ((bytes_decides (state_key q) (state_key x)).0 e))))

not_there : (order : List ℕ) (q : ℕ) → ((i : ℕ) → i < length order → slice_index order i ≡ q → ⊥)
    → list_any (same_list (state_key q)) (map state_key order) ≡ false
not_there [] q none = refl
not_there (x ∷ xs) q none = rw (apart_keys q x (none 0 (omega arith))) (not_there xs q (λ i lt e. none (suc i) (omega (arith, lt)) e))

pub meets_known : (old : Placement) (q p : ℕ) → p < length old.order → slice_index old.order p ≡ q → Meets old old q p
meets_known old q p lt e =
    let placed : slice_get (map state_key old.order) p ≡ Some (state_key q) = key_at old.order p lt ∙ ap (λ x. Some (state_key x)) e in
    let known = found_at (state_key q) (map state_key old.order) p placed in
    record {
      keys = rw known refl;
      cells = rw known refl;
      placed = placed;
      starts = refl;
      rows = refl;
      width = refl;
    }

pub meets_new : (old new : Placement) (q p : ℕ) → ((i : ℕ) → i < length old.order → slice_index old.order i ≡ q → ⊥)
    → p ≡ length old.order → new.order ≡ old.order ++ q ∷ [] → new.starts ≡ old.starts → new.rows ≡ old.rows → new.width ≡ old.width → Meets old new q p
meets_new old new q p none e grown starts rows width =
    let fresh = not_there old.order q none in
    record {
      keys = rw (fresh, grown) (map-append state_key old.order (q ∷ []));
      cells = rw (fresh, grown, width) (ap (λ n. n * (old.width + 1)) (length-append old.order (q ∷ [])) ∙ add-mul (length old.order) 1 (old.width + 1) ∙ omega arith);
      placed = ap (λ ks. slice_get (map state_key ks) p) grown ∙ key_at (old.order ++ q ∷ []) p (omega (arith, e, length-append old.order (q ∷ [])))
          ∙ ap (λ x. Some (state_key x)) (pushed_last old.order (old.order ++ q ∷ []) q p refl e);
      starts = starts;
      rows = rows;
      width = width;
    }

placed_new : (order places : List ℕ) (q i : ℕ) → q < length places → HavePlaces order places
    → ((k : ℕ) → k < length order → slice_index order k ≡ q → ⊥) → i < length order + 1
    → slice_index (slice_set places q (length order)) (slice_index (order ++ q ∷ []) i) ≡ i
placed_new order places q i q_in h none lt = elim (cases_lt i (length order)) [
  | inl old ↦ ap (slice_index (slice_set places q (length order))) (pushed_left order (order ++ q ∷ []) q i refl old)
      ∙ get_or-set_other places q (slice_index order i) (length order) 0 (none i old) ∙ h.back i old
  | inr new ↦ let last : i ≡ length order = omega (arith, new, lt) in
      ap (slice_index (slice_set places q (length order))) (pushed_last order (order ++ q ∷ []) q i refl last)
      ∙ get_or-set_same places q (length order) 0 q_in ∙ sym last
]

pub places_new : (order places : List ℕ) (q : ℕ) → q < length places → HavePlaces order places
    → ((i : ℕ) → i < length order → slice_index order i ≡ q → ⊥) → HavePlaces (order ++ q ∷ []) (slice_set places q (length order))
places_new order places q q_in h none = record {
  few = omega (arith, h.few, length-set places q (length order));
  inside = subst (λ n. All (λ s. s < n) (order ++ q ∷ [])) (sym (length-set places q (length order))) (All-push (λ s. s < length places) order q h.inside q_in);
  back = λ i lt. placed_new order places q i q_in h none (omega (arith, lt, length-append order (q ∷ [])));
}
