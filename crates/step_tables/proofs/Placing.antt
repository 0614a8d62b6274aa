-- One key more is met: what was found stays, and the key gets a position and its path.
use Rattle.std.proofs.Common.{◌≡◌, ℕ, zero, suc, ◌+◌, ◌<◌, Bool, true, false, List, [], ◌∷◌, ◌++◌, length, slice_get, slice_index, All, IsTrue, if◌then◌else◌, append-nil, arith, refl, sym, ap, ◌∙◌, subst, true≢false}
use Rattle.std.proofs.Common.{inl, inr}
use Rattle.std.specs.declared.option.Option.TheVariants.{Some}
use Rattle.std.specs.List.{list_any, slice_index_or}
use Rattle.std.specs.Cmp.Lexicographic.{bytes_decides}
use Rattle.std.proofs.lemmas.List.{get_or_append_left, get_or-map, length-map, map-append}
use Rattle.std.proofs.lemmas.List.Elements.{All-push}
use Rattle.std.proofs.lemmas.List.Quantifiers.{all_pairs_push}
use Rattle.std.proofs.lemmas.List.Folds.{list_any_at}
use Rattle.std.proofs.lemmas.Option.{slice_get_within, get_or_from_slice_get}
use Rattle.graph_laws.specs.Paths.{Path, Before, AtMost, start_path, path_at}
use Rattle.graph_laws.specs.Exploring.{Steps, led, after, IsPath, IsReached, cells_of, weigh, IsHeavy}
use Rattle.step_tables.specs.Gathering.{same_list, met, Gathered, Placed}

pub led-more : (step : List ℕ → ℕ → List ℕ) (k w : List ℕ) (l : ℕ) → led step k (w ++ l ∷ []) ≡ step (led step k w) l
led-more step k [] l = refl
led-more step k (a ∷ w) l = led-more step (step k a) w l

weigh-push : (m : Steps) (ks : List (List ℕ)) (k : List ℕ) → weigh m (ks ++ k ∷ []) ≡ weigh m ks + cells_of m k
weigh-push m [] k = omega arith
weigh-push m (x ∷ ks) k = omega (arith, weigh-push m ks k)

-- a key that the test does not find is another than each of the list
not_in : (k : List ℕ) (ks : List (List ℕ)) → list_any (same_list k) ks ≡ false → (i : ℕ) (d : List ℕ) → i < length ks → slice_index_or ks i d ≡ k → ⊥
not_in k ks none i d lt e = true≢false (sym (list_any_at (same_list k) ks i d lt ((bytes_decides k (slice_index_or ks i d)).1 (sym e))) ∙ none)

-- a key that stands in the list is found by the test
pub found_at : (k : List ℕ) (ks : List (List ℕ)) (p : ℕ) → slice_get ks p ≡ Some k → list_any (same_list k) ks ≡ true
found_at k ks p e = list_any_at (same_list k) ks p [] (slice_get_within ks p k e) ((bytes_decides k (slice_index_or ks p [])).1 (sym (get_or_from_slice_get ks p k [] e)))

pub slice_get-append : (ks other : List (List ℕ)) (p : ℕ) (y : List ℕ) → slice_get ks p ≡ Some y → slice_get (ks ++ other) p ≡ Some y
slice_get-append [] other p y e = grind arith
slice_get-append (k ∷ ks) other zero y e = e
slice_get-append (k ∷ ks) other (suc p) y e = slice_get-append ks other p y e

pub as_many : (m : Steps) (keys : List (List ℕ)) (cells : ℕ) (paths : List Path) → Gathered m keys cells paths → length keys ≡ length paths
as_many m keys cells paths f = ap length f.reached ∙ length-map paths (after m)

-- a key is the key after its path
pub key_is : (m : Steps) (keys : List (List ℕ)) (cells : ℕ) (paths : List Path) → Gathered m keys cells paths → (i : ℕ) (d : List ℕ) → i < length keys → slice_index_or keys i d ≡ after m (path_at paths i)
key_is m keys cells paths f i d lt = ap (λ ks. slice_index_or ks i d) f.reached ∙ get_or-map (after m) paths i (start_path 0) d (subst (λ n. i < n) (as_many m keys cells paths f) lt)

pub all_reached : (m : Steps) (keys : List (List ℕ)) (cells : ℕ) (paths : List Path) → Gathered m keys cells paths → All (IsReached m) keys
all_reached m keys cells paths f i d lt = record {
  path = path_at paths i;
  valid = f.valid i (start_path 0) (subst (λ n. i < n) (as_many m keys cells paths f) lt);
  leads = sym (key_is m keys cells paths f i d lt);
}

-- where the new key passes the limit
pub heavy : (m : Steps) (keys : List (List ℕ)) (cells : ℕ) (paths : List Path) (c : Path) (limit : ℕ) → Gathered m keys cells paths → IsPath m c → list_any (same_list (after m c)) keys ≡ false → limit < cells + cells_of m (after m c) → IsHeavy m limit
heavy m keys cells paths c limit f v none over = record {
  keys = keys ++ after m c ∷ [];
  distinct = all_pairs_push (λ x y. x ≡ y → ⊥) keys (after m c) f.distinct (not_in (after m c) keys none);
  reached = All-push (IsReached m) keys (after m c) (all_reached m keys cells paths f) (record { path = c; valid = v; leads = refl });
  over = omega (arith, over, f.weighs, weigh-push m keys (after m c));
}

found_push : (m : Steps) (keys : List (List ℕ)) (cells : ℕ) (paths : List Path) (c : Path) → Gathered m keys cells paths → IsPath m c → IsTrue (m.is_proper (after m c)) → All (λ x. Before x c) paths → list_any (same_list (after m c)) keys ≡ false → Gathered m (keys ++ after m c ∷ []) (cells + cells_of m (after m c)) (paths ++ c ∷ [])
found_push m keys cells paths c f v p behind none = record {
  distinct = all_pairs_push (λ x y. x ≡ y → ⊥) keys (after m c) f.distinct (not_in (after m c) keys none);
  proper = All-push (λ k. IsTrue (m.is_proper k)) keys (after m c) f.proper p;
  reached = ap (λ ks. ks ++ after m c ∷ []) f.reached ∙ sym (map-append (after m) paths (c ∷ []));
  valid = All-push (IsPath m) paths c f.valid v;
  rising = all_pairs_push Before paths c f.rising behind;
  weighs = omega (arith, f.weighs, weigh-push m keys (after m c));
}

found_as : (m : Steps) (keys new : List (List ℕ)) (cells new_cells : ℕ) (paths new_paths : List Path) → new ≡ keys → new_cells ≡ cells → new_paths ≡ paths → Gathered m keys cells paths → Gathered m new new_cells new_paths
found_as m keys new cells new_cells paths new_paths e w p f = rw (e, w, p) f

-- what is found once a key is met whose path is c
pub record Stepped (m : Steps) (keys new : List (List ℕ)) (new_cells : ℕ) (paths : List Path) (c : Path) : Type 0 where
  pub more_paths : List Path
  pub more_keys : List (List ℕ)
  pub grown : new ≡ keys ++ more_keys
  pub found : Gathered m new new_cells (paths ++ more_paths)
  pub upto : All (λ x. AtMost x c) (paths ++ more_paths)

pub stepped : (m : Steps) (keys new : List (List ℕ)) (cells new_cells : ℕ) (paths : List Path) (c : Path) → Gathered m keys cells paths → IsPath m c → IsTrue (m.is_proper (after m c)) → All (λ x. Before x c) paths → new ≡ met keys (after m c) → new_cells ≡ (if list_any (same_list (after m c)) keys then cells else cells + cells_of m (after m c)) → Stepped m keys new new_cells paths c
stepped m keys new cells new_cells paths c f v p behind n w = by (list_any (same_list (after m c)) keys) refl n w
  where
    by : (b : Bool) → list_any (same_list (after m c)) keys ≡ b → new ≡ (if b then keys else keys ++ after m c ∷ []) → new_cells ≡ (if b then cells else cells + cells_of m (after m c)) → Stepped m keys new new_cells paths c
    by true e n w = record {
      more_paths = [];
      more_keys = [];
      grown = n ∙ sym (append-nil keys);
      found = found_as m keys new cells new_cells paths (paths ++ []) n w (append-nil paths) f;
      upto = subst (λ ps. All (λ x. AtMost x c) ps) (sym (append-nil paths)) (λ i d lt. inr (behind i d lt));
    }
    by false e n w = record {
      more_paths = c ∷ [];
      more_keys = after m c ∷ [];
      grown = n;
      found = found_as m (keys ++ after m c ∷ []) new (cells + cells_of m (after m c)) new_cells (paths ++ c ∷ []) (paths ++ c ∷ []) n w refl (found_push m keys cells paths c f v p behind e);
      upto = All-push (λ x. AtMost x c) paths c (λ i d lt. inr (behind i d lt)) (inl refl);
    }

-- a placed key stays placed
pub placed_kept : (keys new other : List (List ℕ)) (paths more_paths : List Path) (p : ℕ) (k : List ℕ) (c : Path) → length keys ≡ length paths → new ≡ keys ++ other → Placed keys paths p k c → Placed new (paths ++ more_paths) p k c
placed_kept keys new other paths more_paths p k c as_long grown d = record {
  key = ap (λ ks. slice_get ks p) grown ∙ slice_get-append keys other p k d.key;
  least = subst (λ x. AtMost x c) (sym (get_or_append_left paths more_paths (start_path 0) p (omega (arith, as_long, slice_get_within keys p k d.key)))) d.least;
}

push_left : (ps : List ℕ) (p l : ℕ) → l < length ps → slice_index (ps ++ p ∷ []) l ≡ slice_index ps l
push_left ps p l lt = get_or_append_left ps (p ∷ []) 0 l lt

push_last : (ps : List ℕ) (p l : ℕ) → l ≡ length ps → slice_index (ps ++ p ∷ []) l ≡ p
push_last [] p l e = ap (slice_index (p ∷ [])) e
push_last (q ∷ ps) p zero e = absurd (omega arith)
push_last (q ∷ ps) p (suc l) e = push_last ps p l (omega arith)

pub pushed_left : (ps new : List ℕ) (p l : ℕ) → new ≡ ps ++ p ∷ [] → l < length ps → slice_index new l ≡ slice_index ps l
pushed_left ps new p l e lt = ap (λ xs. slice_index xs l) e ∙ push_left ps p l lt

pub pushed_last : (ps new : List ℕ) (p l : ℕ) → new ≡ ps ++ p ∷ [] → l ≡ length ps → slice_index new l ≡ p
pushed_last ps new p l e at = ap (λ xs. slice_index xs l) e ∙ push_last ps p l at
