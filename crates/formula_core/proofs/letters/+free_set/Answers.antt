-- Each node is judged by the places of its parts.
use Rattle.std.proofs.Common.{inl, inr, ℕ, ◌+◌, None, Some, List, arith, false, ◌||◌, nat_eq, sym, subst}
use Rattle.std.specs.Set.{is_member}
use Rattle.lash_model.specs.Formulas.{AtMost, Equal}
use Rattle.formula_core.specs.Counts.{uses, term_uses}
use Rattle.formula_core.specs.Shape.{formula_of}
use Rattle.formula_core.specs.Variables.{sort_of}
use Rattle.formula_core.specs.PlaceSets.{IsSetOf, Gathers, Finds}
use Rattle.formula_core.proofs.Gathering.{no_places}
use Rattle.formula_core.proofs.Walking.{found_atom, found_not, lost_body, found_exists, lost_left, lost_right, found_both}
use Rattle.formula_core.proofs.letters.+free_set.Goals as goal

pub returns-in-Not : goal.returns-in-Not
returns-in-Not t c n e =
    let inner = subst (λ f. Finds c.args.radix (formula_of f) n c.free_set.result) c.deref.ensures (c.free_set.ensures n e) in
    subst (λ f. Finds c.args.radix (formula_of f) n c.free_set.result) (sym c.in-Not.is) (found_not c.args.radix (formula_of c.in-Not.inner.value) n c.free_set.result inner)

pub returns-in-Some : goal.returns-in-Some
returns-in-Some t c n e =
    let r = c.args.radix in
    let f = formula_of c.in-Exists.inner.value in
    let body : Finds r f (n + 1) (Some c.in-Some.body) = subst (λ f. Finds r (formula_of f) (n + 1) (Some c.in-Some.body)) c.deref-in-Exists.ensures (c.in-Some.ensures (n + 1) (omega (arith, e, c.saturating_add.ensures))) in
    let empty : IsSetOf (λ k. false) n c.empty.result = subst (IsSetOf (λ k. false) n) (sym c.empty.ensures) (no_places n) in
    let P : List ℕ → Type 0 = λ xs. Gathers (λ k. false || is_member nat_eq xs k) n c.with_places.result in
    let gathered = subst P c.as_slice.ensures (c.with_places.ensures (λ k. false) n e empty) in
    subst (λ f. Finds r (formula_of f) n c.judged.result) (sym c.in-Exists.is) (found_exists r (sort_of c.in-Exists.field-0) f n c.in-Some.body c.judged.result body (c.judged.ensures (λ k. false || is_member nat_eq c.in-Some.body k) n gathered))

pub returns-in-None : goal.returns-in-None
returns-in-None t c n e =
    let r = c.args.radix in
    let body : Finds r (formula_of c.in-Exists.inner.value) (n + 1) None = subst (λ f. Finds r (formula_of f) (n + 1) None) c.deref-in-Exists.ensures (c.in-None.ensures (n + 1) (omega (arith, e, c.saturating_add.ensures))) in
    subst (λ f. Finds r (formula_of f) n None) (sym c.in-Exists.is) (lost_body r (sort_of c.in-Exists.field-0) (formula_of c.in-Exists.inner.value) n body)

pub returns-in-Some-free_set-2 : goal.returns-in-Some-free_set-2
returns-in-Some-free_set-2 t c n e =
    let r = c.args.radix in
    let result = c.judged-in-Some-free_set-2.result in
    let f = formula_of c.in-And.left.value in
    let g = formula_of c.in-And.right.value in
    let left : Finds r f n (Some c.in-Some-free_set.first) = subst (λ f. Finds r (formula_of f) n (Some c.in-Some-free_set.first)) c.deref-in-And.ensures (c.in-Some-free_set.ensures n e) in
    let right : Finds r g n (Some c.in-Some-free_set-2.second) = subst (λ f. Finds r (formula_of f) n (Some c.in-Some-free_set-2.second)) c.deref-in-Some-free_set.ensures (c.in-Some-free_set-2.ensures n e) in
    let P : List ℕ → Type 0 = λ xs. Gathers (λ k. uses k f || is_member nat_eq xs k) n c.with_places-in-Some-free_set-2.result in
    let gathered = subst P c.as_slice-in-Some-free_set-2.ensures (c.with_places-in-Some-free_set-2.ensures (λ k. uses k f) n e left.1) in
    let both = found_both r f g n c.in-Some-free_set.first c.in-Some-free_set-2.second result left right (c.judged-in-Some-free_set-2.ensures (λ k. uses k f || is_member nat_eq c.in-Some-free_set-2.second k) n gathered) in
    elim c.in-And.is [
      | inl q ↦ subst (λ f. Finds r (formula_of f) n result) (sym q) both.0
      | inr q ↦ subst (λ f. Finds r (formula_of f) n result) (sym q) both.1
    ]

pub returns-in-None-free_set-2 : goal.returns-in-None-free_set-2
returns-in-None-free_set-2 t c n e =
    let r = c.args.radix in
    let right : Finds r (formula_of c.in-And.right.value) n None = subst (λ f. Finds r (formula_of f) n None) c.deref-in-Some-free_set.ensures (c.in-None-free_set-2.ensures n e) in
    let both = lost_right r (formula_of c.in-And.left.value) (formula_of c.in-And.right.value) n right in
    elim c.in-And.is [
      | inl q ↦ subst (λ f. Finds r (formula_of f) n None) (sym q) both.0
      | inr q ↦ subst (λ f. Finds r (formula_of f) n None) (sym q) both.1
    ]

pub returns-in-None-free_set : goal.returns-in-None-free_set
returns-in-None-free_set t c n e =
    let r = c.args.radix in
    let left : Finds r (formula_of c.in-And.left.value) n None = subst (λ f. Finds r (formula_of f) n None) c.deref-in-And.ensures (c.in-None-free_set.ensures n e) in
    let both = lost_left r (formula_of c.in-And.left.value) (formula_of c.in-And.right.value) n left in
    elim c.in-And.is [
      | inl q ↦ subst (λ f. Finds r (formula_of f) n None) (sym q) both.0
      | inr q ↦ subst (λ f. Finds r (formula_of f) n None) (sym q) both.1
    ]

pub returns-in-Le : goal.returns-in-Le
returns-in-Le t c n e =
    let r = c.args.radix in
    let result = c.judged-in-Le.result in
    let judged = c.judged-in-Le.ensures (λ k. term_uses k c.in-Le.term) n (c.term_set.ensures n e) in
    elim c.in-Le.is [
      | inl q ↦ subst (λ f. Finds r (formula_of f) n result) (sym q) (found_atom r AtMost c.in-Le.term n result judged)
      | inr q ↦ subst (λ f. Finds r (formula_of f) n result) (sym q) (found_atom r Equal c.in-Le.term n result judged)
    ]
