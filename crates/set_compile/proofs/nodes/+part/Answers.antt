-- Each node's clauses from those of its parts.
use Rattle.std.proofs.Common.{rules, ◌≡◌, ◌+◌, ℤ, List, length, sym, ap, ap₂, ◌∙◌, subst}
use Rattle.std.specs.Prelude.{IfOk}
use Rattle.std.proofs.lemmas.Result.{IfOk-weaker}
use Rattle.lash_model.specs.Formulas as model
use Rattle.lash_model.specs.Formulas.{AtMost, Equal}
use Rattle.lash_model.specs.Sets.{set_of}
use Rattle.step_tables.specs.Kept.{Kept}
use Rattle.formula_core.specs.Counts.{free_places}
use Rattle.formula_core.specs.Shape.{formula_of}
use Rattle.formula_core.specs.Variables.{sort_of}
use Rattle.product_ops.specs.Operations.{joined}
use Rattle.product_ops.specs.Products.{IsHeavyProduct}
use Rattle.product_ops.specs.declared.operation.Op.TheVariants.{And as Both, Or as Either}
use Rattle.set_compile.specs.Conditions.{IsOver, Binds, IsNarrow}
use Rattle.set_compile.specs.Positions.{shared, spread}
use Rattle.set_compile.specs.Kinds.{IsOfMode, Stands, AcceptOthers, IsShaped}
use Rattle.set_compile.specs.Steps.{IsOfPairs, IsMade, IsFirstRefused}
use Rattle.set_compile.specs.declared.errors.CompileError.{CompileError}
use Rattle.set_compile.specs.declared.errors.CompileError.TheVariants.{Heavy, Memory}
use Rattle.set_compile.specs.declared.build.Mode.{Mode}
use Rattle.set_compile.proofs.Making.{shape_of}
use Rattle.set_compile.proofs.Spreading.{not_stands, and_stands, or_stands}
use Rattle.set_compile.proofs.NodeSteps.{both_ok, atom_letters, atom_shape, atom_made, atom_stands, atom_refused, not_made, and_made, or_made, both_err, and_pairs_refused, or_pairs_refused}
use Rattle.set_compile.proofs.nodes.+part.Goals as goal

-- ---- conjunctions
pub conjunction-returns-clause-made : goal.conjunction-returns-clause-made
conjunction-returns-clause-made t c =
    let m = c.args.places in
    let f = formula_of c.args.left.now in
    let g = formula_of c.args.right.now in
    let u = c.in-Ok.first.table in
    let v = c.in-Ok-part.second.table in
    let P : Kept → Type 0 = λ k. IsShaped c.args.build.now.mode u.base (length (free_places (formula_of c.args.whole.now) m)) k.table in
    let Q : Kept → Type 0 = λ k. IsOfPairs Both u v (shared (formula_of c.args.whole.now) f g m) c.args.build.now.limit k.table in
    let R : Kept → Type 0 = λ k. IsMade c.args.build.now m (model.And f g) k.table in
    both_ok c.joined.result P Q R (λ k shape joins.
    and_made c.args.build.now m f g u v k.table c.in-Ok.ensures.made c.in-Ok-part.ensures.made
    (subst (λ h. IsShaped c.args.build.now.mode u.base (length (free_places h m)) k.table) c.requires.whole shape)
    (subst (λ h. IsOfPairs Both u v (shared h f g m) c.args.build.now.limit k.table) c.requires.whole joins)) c.joined.ensures.shape c.joined.ensures.made

pub conjunction-returns-clause-stands : goal.conjunction-returns-clause-stands
conjunction-returns-clause-stands t c =
    let m = c.args.places in
    let f = formula_of c.args.left.now in
    let g = formula_of c.args.right.now in
    let u = c.in-Ok.first.table in
    let v = c.in-Ok-part.second.table in
    let P : Kept → Type 0 = λ k. (f' g' : model.Formula) (s w : List ℤ → List ℤ) → Stands u (set_of f' s) → Stands v (set_of g' w) → Stands k.table (joined Both (set_of f' s) (set_of g' w) (shared (formula_of c.args.whole.now) f g m)) in
    let R : Kept → Type 0 = λ k. Stands k.table (set_of (model.And f g) (spread m (free_places (model.And f g) m))) in
    IfOk-weaker c.joined.result P R (λ k joins.
    and_stands c.depends_on_free_places.ensures.used k.table f g m c.in-Ok.ensures.linear c.in-Ok-part.ensures.linear
    (subst (λ h. Stands k.table (joined Both (set_of f (spread m (free_places f m))) (set_of g (spread m (free_places g m))) (shared h f g m))) c.requires.whole
    (joins f g (spread m (free_places f m)) (spread m (free_places g m)) c.in-Ok.ensures.stands c.in-Ok-part.ensures.stands))) c.joined.ensures.stands

pub conjunction-returns-clause-refused : goal.conjunction-returns-clause-refused
conjunction-returns-clause-refused t c =
    let m = c.args.places in
    let f = formula_of c.args.left.now in
    let g = formula_of c.args.right.now in
    let u = c.in-Ok.first.table in
    let v = c.in-Ok-part.second.table in
    let P : CompileError → Type 0 = λ e. e ≡ Heavy → IsHeavyProduct u v (shared (formula_of c.args.whole.now) f g m) c.args.build.now.limit in
    let Q : CompileError → Type 0 = λ e. (e ≡ Memory → ⊥) → e ≡ Heavy in
    let R : CompileError → Type 0 = λ e. (e ≡ Memory → ⊥) → IsFirstRefused c.args.build.now m (model.And f g) e in
    both_err c.joined.result P Q R (λ e heavy plain no.
    and_pairs_refused c.args.build.now m f g u v e c.in-Ok.ensures.made c.in-Ok-part.ensures.made (plain no)
    (subst (λ h. IsHeavyProduct u v (shared h f g m) c.args.build.now.limit) c.requires.whole (heavy (plain no)))) c.joined.ensures.heavy c.joined.ensures.plain

-- ---- disjunctions
pub disjunction-returns-clause-made : goal.disjunction-returns-clause-made
disjunction-returns-clause-made t c =
    let m = c.args.places in
    let f = formula_of c.args.left.now in
    let g = formula_of c.args.right.now in
    let u = c.in-Ok.first.table in
    let v = c.in-Ok-part.second.table in
    let P : Kept → Type 0 = λ k. IsShaped c.args.build.now.mode u.base (length (free_places (formula_of c.args.whole.now) m)) k.table in
    let Q : Kept → Type 0 = λ k. IsOfPairs Either u v (shared (formula_of c.args.whole.now) f g m) c.args.build.now.limit k.table in
    let R : Kept → Type 0 = λ k. IsMade c.args.build.now m (model.Or f g) k.table in
    both_ok c.joined.result P Q R (λ k shape joins.
    or_made c.args.build.now m f g u v k.table c.in-Ok.ensures.made c.in-Ok-part.ensures.made
    (subst (λ h. IsShaped c.args.build.now.mode u.base (length (free_places h m)) k.table) c.requires.whole shape)
    (subst (λ h. IsOfPairs Either u v (shared h f g m) c.args.build.now.limit k.table) c.requires.whole joins)) c.joined.ensures.shape c.joined.ensures.made

pub disjunction-returns-clause-stands : goal.disjunction-returns-clause-stands
disjunction-returns-clause-stands t c =
    let m = c.args.places in
    let f = formula_of c.args.left.now in
    let g = formula_of c.args.right.now in
    let u = c.in-Ok.first.table in
    let v = c.in-Ok-part.second.table in
    let P : Kept → Type 0 = λ k. (f' g' : model.Formula) (s w : List ℤ → List ℤ) → Stands u (set_of f' s) → Stands v (set_of g' w) → Stands k.table (joined Either (set_of f' s) (set_of g' w) (shared (formula_of c.args.whole.now) f g m)) in
    let R : Kept → Type 0 = λ k. Stands k.table (set_of (model.Or f g) (spread m (free_places (model.Or f g) m))) in
    IfOk-weaker c.joined.result P R (λ k joins.
    or_stands c.depends_on_free_places.ensures.used k.table f g m c.in-Ok.ensures.linear c.in-Ok-part.ensures.linear
    (subst (λ h. Stands k.table (joined Either (set_of f (spread m (free_places f m))) (set_of g (spread m (free_places g m))) (shared h f g m))) c.requires.whole
    (joins f g (spread m (free_places f m)) (spread m (free_places g m)) c.in-Ok.ensures.stands c.in-Ok-part.ensures.stands))) c.joined.ensures.stands

pub disjunction-returns-clause-refused : goal.disjunction-returns-clause-refused
disjunction-returns-clause-refused t c =
    let m = c.args.places in
    let f = formula_of c.args.left.now in
    let g = formula_of c.args.right.now in
    let u = c.in-Ok.first.table in
    let v = c.in-Ok-part.second.table in
    let P : CompileError → Type 0 = λ e. e ≡ Heavy → IsHeavyProduct u v (shared (formula_of c.args.whole.now) f g m) c.args.build.now.limit in
    let Q : CompileError → Type 0 = λ e. (e ≡ Memory → ⊥) → e ≡ Heavy in
    let R : CompileError → Type 0 = λ e. (e ≡ Memory → ⊥) → IsFirstRefused c.args.build.now m (model.Or f g) e in
    both_err c.joined.result P Q R (λ e heavy plain no.
    or_pairs_refused c.args.build.now m f g u v e c.in-Ok.ensures.made c.in-Ok-part.ensures.made (plain no)
    (subst (λ h. IsHeavyProduct u v (shared h f g m) c.args.build.now.limit) c.requires.whole (heavy (plain no)))) c.joined.ensures.heavy c.joined.ensures.plain

-- ---- Le
pub part-atom_part-requires-clause-letters : goal.part-atom_part-requires-clause-letters
part-atom_part-requires-clause-letters t c = atom_letters AtMost c.args.build.now.base c.args.places c.in-Le.term (subst (λ f. IsNarrow c.args.build.now.base c.args.places (formula_of f)) c.in-Le.is c.requires.letters) (subst (λ f. IsOver c.args.places (formula_of f)) c.in-Le.is c.requires.over)

pub part-returns-in-Le-clause-shape : goal.part-returns-in-Le-clause-shape
part-returns-in-Le-clause-shape t c = atom_shape c.args.build.now AtMost c.args.places c.in-Le.term (formula_of c.args.formula.now) (ap formula_of c.in-Le.is) c.atom_part.ensures.linear c.requires.over c.atom_part.result c.atom_part.ensures.shape

pub part-returns-in-Le-clause-made : goal.part-returns-in-Le-clause-made
part-returns-in-Le-clause-made t c = atom_made c.args.build.now AtMost c.args.places c.in-Le.term (formula_of c.args.formula.now) (ap formula_of c.in-Le.is) c.atom_part.ensures.linear c.requires.over c.atom_part.result c.atom_part.ensures.shape c.atom_part.ensures.made

pub part-returns-in-Le-clause-stands : goal.part-returns-in-Le-clause-stands
part-returns-in-Le-clause-stands t c = atom_stands AtMost c.args.places c.in-Le.term (formula_of c.args.formula.now) (ap formula_of c.in-Le.is) c.atom_part.ensures.linear c.requires.over c.atom_part.result c.atom_part.ensures.stands

pub part-returns-in-Le-clause-refused : goal.part-returns-in-Le-clause-refused
part-returns-in-Le-clause-refused t c = atom_refused c.args.build.now AtMost c.args.places c.in-Le.term (formula_of c.args.formula.now) (ap formula_of c.in-Le.is) c.atom_part.ensures.linear c.requires.over c.atom_part.result c.atom_part.ensures.heavy c.atom_part.ensures.plain

-- ---- Eq
pub part-atom_part-requires-in-Eq-clause-letters : goal.part-atom_part-requires-in-Eq-clause-letters
part-atom_part-requires-in-Eq-clause-letters t c = atom_letters Equal c.args.build.now.base c.args.places c.in-Eq.term (subst (λ f. IsNarrow c.args.build.now.base c.args.places (formula_of f)) c.in-Eq.is c.requires.letters) (subst (λ f. IsOver c.args.places (formula_of f)) c.in-Eq.is c.requires.over)

pub part-returns-in-Eq-clause-shape : goal.part-returns-in-Eq-clause-shape
part-returns-in-Eq-clause-shape t c = atom_shape c.args.build.now Equal c.args.places c.in-Eq.term (formula_of c.args.formula.now) (ap formula_of c.in-Eq.is) c.atom_part-in-Eq.ensures.linear c.requires.over c.atom_part-in-Eq.result c.atom_part-in-Eq.ensures.shape

pub part-returns-in-Eq-clause-made : goal.part-returns-in-Eq-clause-made
part-returns-in-Eq-clause-made t c = atom_made c.args.build.now Equal c.args.places c.in-Eq.term (formula_of c.args.formula.now) (ap formula_of c.in-Eq.is) c.atom_part-in-Eq.ensures.linear c.requires.over c.atom_part-in-Eq.result c.atom_part-in-Eq.ensures.shape c.atom_part-in-Eq.ensures.made

pub part-returns-in-Eq-clause-stands : goal.part-returns-in-Eq-clause-stands
part-returns-in-Eq-clause-stands t c = atom_stands Equal c.args.places c.in-Eq.term (formula_of c.args.formula.now) (ap formula_of c.in-Eq.is) c.atom_part-in-Eq.ensures.linear c.requires.over c.atom_part-in-Eq.result c.atom_part-in-Eq.ensures.stands

pub part-returns-in-Eq-clause-refused : goal.part-returns-in-Eq-clause-refused
part-returns-in-Eq-clause-refused t c = atom_refused c.args.build.now Equal c.args.places c.in-Eq.term (formula_of c.args.formula.now) (ap formula_of c.in-Eq.is) c.atom_part-in-Eq.ensures.linear c.requires.over c.atom_part-in-Eq.result c.atom_part-in-Eq.ensures.heavy c.atom_part-in-Eq.ensures.plain

-- ---- Not
pub part-returns-in-Ok-clause-made : goal.part-returns-in-Ok-clause-made
part-returns-in-Ok-clause-made t c =
    let f = formula_of c.in-Not.inner.value in
    let u = c.in-Ok.made.table in
    let part : IsMade c.args.build.now c.args.places f u = subst (λ f. IsMade c.args.build.now c.args.places (formula_of f) u) c.deref.ensures c.in-Ok.ensures.made in
    let P : Kept → Type 0 = λ k. (mode : Mode) → IsOfMode mode u → IsShaped mode u.base u.tracks k.table in
    let Q : Kept → Type 0 = λ k. AcceptOthers u k.table in
    let R : Kept → Type 0 = λ k. IsMade c.args.build.now c.args.places (formula_of c.args.formula.now) k.table in
    both_ok c.opposite.result P Q R (λ k shape others.
    subst (λ f. IsMade c.args.build.now c.args.places (formula_of f) k.table) (sym c.in-Not.is) (not_made c.args.build.now c.args.places f u k.table part (shape c.args.build.now.mode (shape_of c.args.build.now c.args.places f u part).kind) others)) c.opposite.ensures.shape c.opposite.ensures.others

pub part-returns-in-Ok-clause-shape : goal.part-returns-in-Ok-clause-shape
part-returns-in-Ok-clause-shape t c =
    let m = c.args.places in
    let P : Kept → Type 0 = λ k. IsMade c.args.build.now m (formula_of c.args.formula.now) k.table in
    let R : Kept → Type 0 = λ k. IsShaped c.args.build.now.mode c.args.build.now.base (length (free_places (formula_of c.args.formula.now) m)) k.table in
    IfOk-weaker c.opposite.result P R (λ k made. shape_of c.args.build.now m (formula_of c.args.formula.now) k.table made) (part-returns-in-Ok-clause-made t c)

pub part-returns-in-Ok-clause-stands : goal.part-returns-in-Ok-clause-stands
part-returns-in-Ok-clause-stands t c =
    let f = formula_of c.in-Not.inner.value in
    let u = c.in-Ok.made.table in
    let part : Stands u (set_of f (spread c.args.places (free_places f c.args.places))) = subst (λ f. Stands u (set_of (formula_of f) (spread c.args.places (free_places (formula_of f) c.args.places)))) c.deref.ensures c.in-Ok.ensures.stands in
    let P : Kept → Type 0 = λ k. (f : model.Formula) (s : List ℤ → List ℤ) → Stands u (set_of f s) → Stands k.table (λ ns d. set_of f s ns d → ⊥) in
    let R : Kept → Type 0 = λ k. Stands k.table (set_of (formula_of c.args.formula.now) (spread c.args.places (free_places (formula_of c.args.formula.now) c.args.places))) in
    IfOk-weaker c.opposite.result P R (λ k others.
    subst (λ f. Stands k.table (set_of (formula_of f) (spread c.args.places (free_places (formula_of f) c.args.places)))) (sym c.in-Not.is) (not_stands k.table f c.args.places (others f (spread c.args.places (free_places f c.args.places)) part))) c.opposite.ensures.stands

-- ---- And
pub part-returns-in-And-clause-made : goal.part-returns-in-And-clause-made
part-returns-in-And-clause-made t c =
    let whole : model.And (formula_of c.deref-in-And.result.now) (formula_of c.deref-in-And-2.result.now) ≡ formula_of c.args.formula.now = ap₂ (λ x y. model.And (formula_of x) (formula_of y)) c.deref-in-And.ensures c.deref-in-And-2.ensures ∙ sym (ap formula_of c.in-And.is) in
    subst (λ h. IfOk c.conjunction.result (λ (k : Kept). IsMade c.args.build.now c.args.places h k.table)) whole c.conjunction.ensures.made

pub part-returns-in-And-clause-stands : goal.part-returns-in-And-clause-stands
part-returns-in-And-clause-stands t c =
    let whole : model.And (formula_of c.deref-in-And.result.now) (formula_of c.deref-in-And-2.result.now) ≡ formula_of c.args.formula.now = ap₂ (λ x y. model.And (formula_of x) (formula_of y)) c.deref-in-And.ensures c.deref-in-And-2.ensures ∙ sym (ap formula_of c.in-And.is) in
    subst (λ h. IfOk c.conjunction.result (λ (k : Kept). Stands k.table (set_of h (spread c.args.places (free_places h c.args.places))))) whole c.conjunction.ensures.stands

-- ---- Or
pub part-returns-in-Or-clause-made : goal.part-returns-in-Or-clause-made
part-returns-in-Or-clause-made t c =
    let whole : model.Or (formula_of c.deref-in-Or.result.now) (formula_of c.deref-in-Or-2.result.now) ≡ formula_of c.args.formula.now = ap₂ (λ x y. model.Or (formula_of x) (formula_of y)) c.deref-in-Or.ensures c.deref-in-Or-2.ensures ∙ sym (ap formula_of c.in-Or.is) in
    subst (λ h. IfOk c.disjunction.result (λ (k : Kept). IsMade c.args.build.now c.args.places h k.table)) whole c.disjunction.ensures.made

pub part-returns-in-Or-clause-stands : goal.part-returns-in-Or-clause-stands
part-returns-in-Or-clause-stands t c =
    let whole : model.Or (formula_of c.deref-in-Or.result.now) (formula_of c.deref-in-Or-2.result.now) ≡ formula_of c.args.formula.now = ap₂ (λ x y. model.Or (formula_of x) (formula_of y)) c.deref-in-Or.ensures c.deref-in-Or-2.ensures ∙ sym (ap formula_of c.in-Or.is) in
    subst (λ h. IfOk c.disjunction.result (λ (k : Kept). Stands k.table (set_of h (spread c.args.places (free_places h c.args.places))))) whole c.disjunction.ensures.stands

-- ---- Exists
pub part-bound-requires-clause-stands : goal.part-bound-requires-clause-stands
part-bound-requires-clause-stands t c =
    let body = c.in-Ok-part.body.table in
    let one_more : c.in-Some.within ≡ c.args.places + 1 = search rules in
    let same : c.deref-in-Some.result.now ≡ c.deref-in-Ok-part.result.now = c.deref-in-Some.ensures ∙ sym c.deref-in-Ok-part.ensures in
    subst (λ f. Stands body (set_of (formula_of f) (spread (c.args.places + 1) (free_places (formula_of f) (c.args.places + 1))))) same
    (subst (λ n. Stands body (set_of (formula_of c.deref-in-Some.result.now) (spread n (free_places (formula_of c.deref-in-Some.result.now) n)))) one_more c.in-Ok-part.ensures.stands)

pub part-returns-in-Ok-part-clause-shape : goal.part-returns-in-Ok-part-clause-shape
part-returns-in-Ok-part-clause-shape t c =
    let m = c.args.places in
    let whole : model.Exists (sort_of c.in-Exists.sort) (formula_of c.deref-in-Ok-part.result.now) ≡ formula_of c.args.formula.now = ap (λ x. model.Exists (sort_of c.in-Exists.sort) (formula_of x)) c.deref-in-Ok-part.ensures ∙ sym (ap formula_of c.in-Exists.is) in
    let P : Kept → Type 0 = λ k. IsMade c.args.build.now m (formula_of c.args.formula.now) k.table in
    let R : Kept → Type 0 = λ k. IsShaped c.args.build.now.mode c.args.build.now.base (length (free_places (formula_of c.args.formula.now) m)) k.table in
    IfOk-weaker c.bound.result P R (λ k made. shape_of c.args.build.now m (formula_of c.args.formula.now) k.table made)
    (subst (λ h. IfOk c.bound.result (λ (k : Kept). IsMade c.args.build.now m h k.table)) whole c.bound.ensures.made)

pub part-returns-in-Ok-part-clause-stands : goal.part-returns-in-Ok-part-clause-stands
part-returns-in-Ok-part-clause-stands t c =
    let m = c.args.places in
    let whole : model.Exists (sort_of c.in-Exists.sort) (formula_of c.deref-in-Ok-part.result.now) ≡ formula_of c.args.formula.now = ap (λ x. model.Exists (sort_of c.in-Exists.sort) (formula_of x)) c.deref-in-Ok-part.ensures ∙ sym (ap formula_of c.in-Exists.is) in
    subst (λ h. IfOk c.bound.result (λ (k : Kept). Stands k.table (set_of h (spread m (free_places h m))))) whole c.bound.ensures.stands

pub part-bound-requires-clause-sort : goal.part-bound-requires-clause-sort
part-bound-requires-clause-sort t c = (subst (λ h. Binds c.args.build.now.mode (formula_of h)) c.in-Exists.is c.requires.bound).0
