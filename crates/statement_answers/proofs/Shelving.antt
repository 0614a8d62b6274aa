-- What is held of the kept sets, place by place.
use Rattle.std.proofs.Common.{◌≡◌, ℕ, zero, suc, ◌+◌, ◌≤◌, ◌<◌, List, [], ◌∷◌, ◌++◌, length, map, get_or, arith, refl, sym, ap, ap₂, ◌∙◌, subst, Some}
use Rattle.std.specs.List.{All, slice_get}
use Rattle.std.proofs.lemmas.List.{map-append}
use Rattle.parser_laws.proofs.Parts.{same_some, not_none}
use Rattle.lash_model.specs.Tables.{Table}
use Rattle.canon_text.specs.declared.header.Header.{Header}
use Rattle.script_names.specs.Kept.{KeptSet, sets_of}
use Rattle.script_names.specs.declared.kept.Definition.{Definition}
use Rattle.statement_answers.specs.Automata.{IsGiven, cells_of}
use Rattle.statement_answers.specs.Keeping.{cells_of_all, HaveAutomata, IsHeld, AreHeld, cells_held, pair_of, IsLibrary, kept_cells_limit}
use Rattle.statement_answers.specs.declared.library.Held.{Held}
use Rattle.statement_answers.specs.declared.settings.Settings.{Settings}

-- there is as much held as there are sets
pub as_many : (settings : Settings) (ks : List KeptSet) (es : List (Header × Table)) → AreHeld settings ks es → length es ≡ length ks
as_many settings [] [] h = refl
as_many settings [] (e ∷ es) h = absurd h
as_many settings (k ∷ ks) [] h = absurd h
as_many settings (k ∷ ks) (e ∷ es) h = ap suc (as_many settings ks es h.1)

-- what is held of the set at a place
pub held_at : (settings : Settings) (ks : List KeptSet) (hs : List Held) (i : ℕ) (d : Held) (k : KeptSet) → AreHeld settings ks (map pair_of hs) → slice_get ks i ≡ Some k → IsHeld settings k (get_or hs i d).header (get_or hs i d).canon.table
held_at settings [] hs i d k h e = absurd (not_none k e)
held_at settings (j ∷ ks) [] i d k h e = absurd h
held_at settings (j ∷ ks) (x ∷ hs) zero d k h e = subst (λ z. IsHeld settings z x.header x.canon.table) (same_some j k e) h.0
held_at settings (j ∷ ks) (x ∷ hs) (suc i) d k h e = held_at settings ks hs i d k h.1 e

-- all are given
pub all_given : (settings : Settings) (ks : List KeptSet) (es : List (Header × Table)) → AreHeld settings ks es → All (λ k. IsGiven settings.base k.vars k.formula) ks
all_given settings [] es h k d lt = absurd (omega (arith, lt))
all_given settings (j ∷ ks) [] h k d lt = absurd h
all_given settings (j ∷ ks) (e ∷ es) h zero d lt = h.0.given
all_given settings (j ∷ ks) (e ∷ es) h (suc k) d lt = all_given settings ks es h.1 k d (omega (arith, lt))

-- the automata that are held
pub automata : (settings : Settings) (ks : List KeptSet) (es : List (Header × Table)) → AreHeld settings ks es → HaveAutomata settings ks (map (λ e. e.1) es)
automata settings [] [] h = tt
automata settings [] (e ∷ es) h = absurd h
automata settings (k ∷ ks) [] h = absurd h
automata settings (k ∷ ks) (e ∷ es) h = (h.0.answer, automata settings ks es h.1)

pub cells_alike : (es : List (Header × Table)) → cells_held es ≡ cells_of_all (map (λ e. e.1) es)
cells_alike [] = refl
cells_alike (e ∷ es) = ap (λ n. cells_of e.1 + n) (cells_alike es)

-- one more after the others
pub held_more : (settings : Settings) (ks : List KeptSet) (es : List (Header × Table)) (k : KeptSet) (e : Header × Table) → AreHeld settings ks es → IsHeld settings k e.0 e.1 → AreHeld settings (ks ++ k ∷ []) (es ++ e ∷ [])
held_more settings [] [] k e h is = (is, tt)
held_more settings [] (x ∷ es) k e h is = absurd h
held_more settings (j ∷ ks) [] k e h is = absurd h
held_more settings (j ∷ ks) (x ∷ es) k e h is = (h.0, held_more settings ks es k e h.1 is)

pub cells_more : (es : List (Header × Table)) (e : Header × Table) → cells_held (es ++ e ∷ []) ≡ cells_held es + cells_of e.1
cells_more [] e = omega arith
cells_more (x ∷ es) e = omega (arith, cells_more es e)

-- the kept set at a place
pub record Here (kept : List KeptSet) (at : ℕ) : Type 0 where
  pub set : KeptSet
  pub got : slice_get kept at ≡ Some set

pub here : (kept : List KeptSet) (at : ℕ) → at < length kept → Here kept at
here [] at lt = absurd (omega (arith, lt))
here (k ∷ ks) zero lt = record { set = k; got = refl }
here (k ∷ ks) (suc at) lt = let rest = here ks at (omega (arith, lt)) in record { set = rest.set; got = rest.got }

pub below : (kept : List KeptSet) (at : ℕ) (k : KeptSet) → slice_get kept at ≡ Some k → at < length kept
below [] at k e = absurd (not_none k e)
below (j ∷ ks) zero k e = omega arith
below (j ∷ ks) (suc at) k e = omega (arith, below ks at k e)

-- one set more is held
pub library_more : (settings : Settings) (before after : List (List ℕ × Definition)) (hs gs : List Held) (x : Held) (cells n : ℕ) (k : KeptSet) → IsLibrary (record { settings = settings; definitions = before; held = map pair_of hs; cells = cells }) → sets_of after ≡ sets_of before ++ k ∷ [] → gs ≡ hs ++ x ∷ [] → IsHeld settings k x.header x.canon.table → n ≡ cells_of x.canon.table → cells + n ≤ kept_cells_limit → IsLibrary (record { settings = settings; definitions = after; held = map pair_of gs; cells = cells + n })
library_more settings before after hs gs x cells n k h sets items is counts within = record {
  few = h.few;
  each = subst (λ ks. AreHeld settings ks (map pair_of gs)) (sym sets) (subst (λ es. AreHeld settings (sets_of before ++ k ∷ []) es) (sym pairs) (held_more settings (sets_of before) (map pair_of hs) k (pair_of x) h.each is));
  count = ap₂ (λ a b. a + b) h.count counts ∙ sym (cells_more (map pair_of hs) (pair_of x)) ∙ ap cells_held (sym pairs);
  within = within;
}
  where
    pairs : map pair_of gs ≡ map pair_of hs ++ pair_of x ∷ []
    pairs = ap (map pair_of) items ∙ map-append pair_of hs (x ∷ [])
