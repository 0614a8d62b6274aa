-- The canonical table of a complement, a product or a projection accepts what that accepts.
use Rattle.std.proofs.Common.{◌≡◌, ℕ, ◌^◌, ◌<◌, sym, ap, ◌∙◌, subst}
use Rattle.std.specs.Prelude.{All, IsTrue, ◌↔◌}
use Rattle.std.proofs.lemmas.List.Elements.{recursion_from_All}
use Rattle.lash_model.specs.Tables.{Table, letters}
use Rattle.canonical_laws.specs.Canonical.{AcceptSameWords}
use Rattle.part_laws.specs.CanonicalMixed.{AcceptSameLassos}
use Rattle.part_laws.specs.Opposites.{AcceptOtherLassos}
use Rattle.breakpoint_laws.specs.Breakpoints.{IsLassoAcceptedOver, AcceptsSomeLasso}
use Rattle.product_ops.specs.Pairs.{AcceptsBoth}
use Rattle.product_ops.specs.ReadLassos.{AcceptsBothLassos}
use Rattle.product_ops.specs.Restriction.{AcceptsWholes}
use Rattle.product_ops.specs.Tracks.{TrackLists}
use Rattle.product_ops.specs.declared.operation.Op.{Op}
use Rattle.subset_build.specs.Projection.{kept, IsAcceptedOver, AcceptsSome}
use Rattle.set_compile.proofs.Modes.{lasso_in}

pub others_kept : (t v u : Table) → v.base ≡ t.base → v.tracks ≡ t.tracks → AcceptOtherLassos t v → AcceptSameLassos v u → AcceptOtherLassos t u
others_kept t v u base tracks others same x h = sym (same x (lasso_in v.base v.tracks t.base t.tracks x (sym base) (sym tracks) h)) ∙ others x h

pub both_kept : (op : Op) (a b : Table) (m : TrackLists) (t u : Table) → t.base ≡ a.base → t.tracks ≡ m.tracks → AcceptsBoth op a b m t
    → AcceptSameWords t u → AcceptsBoth op a b m u
both_kept op a b m t u base tracks both same sign w lt ls =
    let sign_in = subst (λ n. sign < 2 ^ n) (sym tracks) lt in
    let word_in = subst (λ k. All (λ l. l < k) w) (sym (ap (λ r. r ^ t.tracks) base ∙ ap (λ n. a.base ^ n) tracks)) ls in
    sym (same sign w sign_in (recursion_from_All (λ l. l < letters t) w word_in)) ∙ both sign w lt ls

pub both_lassos_kept : (op : Op) (a b : Table) (m : TrackLists) (t u : Table) → t.base ≡ a.base → t.tracks ≡ m.tracks → AcceptsBothLassos op a b m t
    → AcceptSameLassos t u → AcceptsBothLassos op a b m u
both_lassos_kept op a b m t u base tracks both same x h =
    sym (same x (lasso_in t.base t.tracks a.base m.tracks x (sym base) (sym tracks) h)) ∙ both x h

pub some_kept : (a : Table) (track : ℕ) (t u : Table) → t.base ≡ a.base → t.tracks ≡ kept a → AcceptsSome a track t → AcceptSameWords t u → AcceptsSome a track u
some_kept a track t u base tracks some same sign w lt ls =
    let sign_in = subst (λ n. sign < 2 ^ n) (sym tracks) lt in
    let word_in = subst (λ k. All (λ l. l < k) w) (sym (ap (λ r. r ^ t.tracks) base ∙ ap (λ n. a.base ^ n) tracks)) ls in
    subst (λ b. IsTrue b ↔ IsAcceptedOver a track sign w) (same sign w sign_in (recursion_from_All (λ l. l < letters t) w word_in)) (some sign w lt ls)

pub some_lasso_kept : (a : Table) (track : ℕ) (t u : Table) → t.base ≡ u.base → t.tracks ≡ u.tracks → AcceptsSomeLasso a track t → AcceptSameLassos t u
    → AcceptsSomeLasso a track u
some_lasso_kept a track t u base tracks some same x h =
    let in_t = lasso_in t.base t.tracks u.base u.tracks x (sym base) (sym tracks) h in
    subst (λ b. IsTrue b ↔ IsLassoAcceptedOver a track x) (same x in_t) (some x in_t)

pub wholes_kept : (a t u : Table) → t.base ≡ a.base → t.tracks ≡ a.tracks → AcceptsWholes a t → AcceptSameWords t u → AcceptsWholes a u
wholes_kept a t u base tracks wholes same sign w lt ls =
    let sign_in = subst (λ n. sign < 2 ^ n) (sym tracks) lt in
    let word_in = subst (λ k. All (λ l. l < k) w) (sym (ap (λ r. r ^ t.tracks) base ∙ ap (λ n. a.base ^ n) tracks)) ls in
    sym (same sign w sign_in (recursion_from_All (λ l. l < letters t) w word_in)) ∙ wholes sign w lt ls
