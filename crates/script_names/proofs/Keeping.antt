-- The map of kept sets, as the list of them.
use Rattle.std.proofs.Common.{◌≡◌, ℕ, ◌<◌, length, arith, List, [], ◌∷◌, ◌++◌, map, refl, sym, ap, ◌∙◌, subst, Vec, Global, nat_eq}
use Rattle.std.specs.List.{All, position, slice_get}
use Rattle.std.proofs.Common.{zero, suc}
use Rattle.std.proofs.lemmas.List.Elements.{All-append}
use Rattle.std.specs.Option.{option_map}
use Rattle.std.specs.Prelude.{Option, Some, None, Result, Ok, Err, OnOk, OnErr}
use Rattle.std.specs.Map.{keys_of, lookup}
use Rattle.std.specs.Cmp.Lexicographic.{pointwise}
use Rattle.std.proofs.lemmas.Option.{slice_get-map}
use Rattle.std.proofs.lemmas.List.{map-append}
use Rattle.indexmap.proofs.MapLemmas.{Missing-position}
use Rattle.script_names.specs.Kept.{KeptSet, AreKept, IsKept, kept_place, set_of, sets_of, item_of, sets_in, sets_limit}
use Rattle.script_names.specs.declared.kept.Definition.{Definition}
use Rattle.std.proofs.lemmas.List.{length-append}
use Rattle.script_names.proofs.Lists.{position_map}

abbrev pub Entry : Type 0
Entry = Vec ℕ Global × Definition

-- the place of a key is that of the set
pub kept_places_agree : (name : List ℕ) (es : List Entry) → position (λ k. pointwise nat_eq name k.items) (keys_of es) ≡ kept_place (sets_in es) name
kept_places_agree name es = sym (position_map (λ e. e.0) (λ k. pointwise nat_eq name k.items) es)
    ∙ position_map item_of (λ e. pointwise nat_eq name (set_of e).name) es
    ∙ position_map set_of (λ k. pointwise nat_eq name k.name) (map item_of es)

-- a name without a place is no key
pub not_kept : (name : List ℕ) (es : List Entry) → kept_place (sets_in es) name ≡ None → lookup (λ k. pointwise nat_eq name k.items) es ≡ None
not_kept name es none = (Missing-position (λ k. pointwise nat_eq name k.items) es (kept_places_agree name es ∙ none)).value

option_same : {A : Type 0} {x y : A} → Some x ≡ Some y → x ≡ y
option_same {A} {x} {y} e = ap (λ o. by x o) e
  where
    by : {A : Type 0} → A → Option A → A
    by d None = d
    by d (Some z) = z

-- the entry at a place is the set there
pub entry_is : (es : List Entry) (at : ℕ) (e : Entry) (k : KeptSet) → Some e ≡ slice_get es at → slice_get (sets_in es) at ≡ Some k → set_of (item_of e) ≡ k
entry_is es at e k is got = option_same (ap (λ o. option_map set_of (option_map item_of o)) is ∙ ap (option_map set_of) (sym (slice_get-map item_of es at)) ∙ sym (slice_get-map set_of (map item_of es) at) ∙ got)

-- a set behind the others
pub one_more_kept : (es : List Entry) (e : Entry) → sets_in (es ++ e ∷ []) ≡ sets_in es ++ set_of (item_of e) ∷ []
one_more_kept es e = ap sets_of (map-append item_of es (e ∷ [])) ∙ map-append set_of (map item_of es) (item_of e ∷ [])

pub kept_behind : (kept : List KeptSet) (k : KeptSet) → AreKept kept → length kept < sets_limit → IsKept k → AreKept (kept ++ k ∷ [])
kept_behind kept k h room is = record { few = omega (arith, room, length-append kept (k ∷ [])); all = All-append IsKept kept (k ∷ []) h.all (one is) }
  where
    one : IsKept k → All IsKept (k ∷ [])
    one is zero d lt = is
    one is (suc i) d lt = absurd (omega (arith, lt))

-- the sets after one more was put behind them, or not
pub kept_after : {U E : Type 0} (r : Result U E) (before after : List Entry) (e : Entry) → OnOk r (after ≡ before ++ e ∷ []) → OnErr r (after ≡ before) → AreKept (sets_in before) → length (sets_in before) < sets_limit → IsKept (set_of (item_of e)) → AreKept (sets_in after)
kept_after (Ok u) before after e is un h room inside = rw is (subst AreKept (sym (one_more_kept before e)) (kept_behind (sets_in before) (set_of (item_of e)) h room inside))
kept_after (Err x) before after e is un h room inside = rw un h
