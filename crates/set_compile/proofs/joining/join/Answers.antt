use Rattle.std.proofs.Common.{◌<◌, ◌∙◌, sym, ap, subst}
use Rattle.lash_model.specs.Sets.{set_of}
use Rattle.lash_model.specs.Tables.{Table, fracs}
use Rattle.part_laws.specs.CanonicalMixed.{IsCanonicalMixed}
use Rattle.step_tables.specs.Kept.{Kept}
use Rattle.product_ops.specs.Operations.{joined}
use Rattle.product_ops.specs.Products.{HaveSameKind, IsHeavyProduct}
use Rattle.set_compile.specs.Kinds.{Stands, IsOfMode}
use Rattle.set_compile.specs.Steps.{IsOfPairs}
use Rattle.set_compile.proofs.Products.{weak_kinds, product_kind, made_pairs, heavy_product, stands_joined}
use Rattle.set_compile.proofs.Modes.{fractions_back, carried, mode_kept}
use Rattle.set_compile.proofs.joining.join.Goals as goal

pub product-requires-clause-kinds : goal.product-requires-clause-kinds
product-requires-clause-kinds c =
    let kinds : HaveSameKind c.table.result.now.table c.table-2.result.now.table =
    subst (λ (k : Kept). HaveSameKind k.table c.table-2.result.now.table) (sym c.table.ensures.value)
    (subst (λ (k : Kept). HaveSameKind c.args.left.now.table k.table) (sym c.table-2.ensures.value) c.requires.kinds) in
    weak_kinds c.table.result.now.table c.table-2.result.now.table kinds
    (λ some. subst (λ (k : Kept). IsCanonicalMixed k.table) (sym c.table.ensures.value)
    (c.table.ensures.fractions (subst (λ (k : Kept). 0 < fracs k.table) c.table.ensures.value some)))
    (λ some. subst (λ (k : Kept). IsCanonicalMixed k.table) (sym c.table-2.ensures.value)
    (c.table-2.ensures.fractions (subst (λ (k : Kept). 0 < fracs k.table) c.table-2.ensures.value some)))

pub minimized-requires : goal.minimized-requires
minimized-requires c = λ some.
    let l : Kept = c.table.result.now in
    let r : Kept = c.table-2.result.now in
    let t : Table = c.in-Ok.table.table in
    let kinds : HaveSameKind l.table r.table = subst (λ (k : Kept). HaveSameKind k.table r.table) (sym c.table.ensures.value)
    (subst (λ (k : Kept). HaveSameKind c.args.left.now.table k.table) (sym c.table-2.ensures.value) c.requires.kinds) in
    c.in-Ok.ensures.weak (fractions_back l.table t (product_kind l.table r.table t kinds c.in-Ok.ensures.diagram c.in-Ok.ensures.fractions) some)

pub returns-in-Ok-minimized-clause-shape : goal.returns-in-Ok-minimized-clause-shape
returns-in-Ok-minimized-clause-shape c = λ mode k.
    let l : Kept = c.table.result.now in
    let r : Kept = c.table-2.result.now in
    let t : Table = c.in-Ok.table.table in
    let kinds : HaveSameKind l.table r.table = subst (λ (k : Kept). HaveSameKind k.table r.table) (sym c.table.ensures.value)
    (subst (λ (k : Kept). HaveSameKind c.args.left.now.table k.table) (sym c.table-2.ensures.value) c.requires.kinds) in
    let of_left : IsOfMode mode l.table = subst (λ (k : Kept). IsOfMode mode k.table) (sym c.table.ensures.value) k in
    let s = c.in-Ok-minimized.ensures.shape mode (mode_kept mode l.table t (product_kind l.table r.table t kinds c.in-Ok.ensures.diagram c.in-Ok.ensures.fractions) of_left) in
    record {
      canonical = s.canonical;
      kind = s.kind;
      base_is = s.base_is ∙ c.in-Ok.ensures.base ∙ ap (λ (k : Kept). k.table.base) c.table.ensures.value;
      tracks_are = s.tracks_are ∙ c.in-Ok.ensures.tracks;
    }

pub returns-in-Ok-minimized-clause-made : goal.returns-in-Ok-minimized-clause-made
returns-in-Ok-minimized-clause-made c =
    let l : Kept = c.table.result.now in
    let r : Kept = c.table-2.result.now in
    let t : Table = c.in-Ok.table.table in
    let u : Table = c.in-Ok-minimized.made.table in
    let kinds : HaveSameKind l.table r.table = subst (λ (k : Kept). HaveSameKind k.table r.table) (sym c.table.ensures.value)
    (subst (λ (k : Kept). HaveSameKind c.args.left.now.table k.table) (sym c.table-2.ensures.value) c.requires.kinds) in
    subst (λ (b : Kept). IsOfPairs c.args.op c.args.left.now.table b.table c.args.map.now c.args.limit u) c.table-2.ensures.value
    (subst (λ (a : Kept). IsOfPairs c.args.op a.table r.table c.args.map.now c.args.limit u) c.table.ensures.value
    (made_pairs c.args.op l.table r.table c.args.map.now c.args.limit t u kinds c.in-Ok.ensures.base c.in-Ok.ensures.tracks
    c.in-Ok.ensures.diagram c.in-Ok.ensures.pairs c.in-Ok.ensures.words c.in-Ok.ensures.fractions c.in-Ok.ensures.mixed_pairs c.in-Ok.ensures.lassos
    c.in-Ok-minimized.ensures.same))

pub returns-in-Ok-minimized-clause-stands : goal.returns-in-Ok-minimized-clause-stands
returns-in-Ok-minimized-clause-stands c = λ f g s w p q.
    let l : Kept = c.table.result.now in
    let r : Kept = c.table-2.result.now in
    let t : Table = c.in-Ok.table.table in
    let u : Table = c.in-Ok-minimized.made.table in
    let kinds : HaveSameKind l.table r.table = subst (λ (k : Kept). HaveSameKind k.table r.table) (sym c.table.ensures.value)
    (subst (λ (k : Kept). HaveSameKind c.args.left.now.table k.table) (sym c.table-2.ensures.value) c.requires.kinds) in
    carried t u (joined c.args.op (set_of f s) (set_of g w) c.args.map.now) (sym c.in-Ok-minimized.ensures.base) (sym c.in-Ok-minimized.ensures.tracks)
    c.in-Ok-minimized.ensures.kind c.in-Ok-minimized.ensures.same
    (stands_joined c.args.op l.table r.table c.args.map.now t f g s w kinds
    (λ d. c.in-Ok.ensures.stands d f g s w) (λ some. c.in-Ok.ensures.stands_mixed some f g s w)
    (subst (λ (k : Kept). Stands k.table (set_of f s)) (sym c.table.ensures.value) p)
    (subst (λ (k : Kept). Stands k.table (set_of g w)) (sym c.table-2.ensures.value) q))

pub returns-in-Err-Heavy-clause-heavy : goal.returns-in-Err-Heavy-clause-heavy
returns-in-Err-Heavy-clause-heavy c = λ yes.
    let is = c.in-Err-Heavy.field-0-is in
    let l : Kept = c.table.result.now in
    let r : Kept = c.table-2.result.now in
    let kinds : HaveSameKind l.table r.table = subst (λ (k : Kept). HaveSameKind k.table r.table) (sym c.table.ensures.value)
    (subst (λ (k : Kept). HaveSameKind c.args.left.now.table k.table) (sym c.table-2.ensures.value) c.requires.kinds) in
    subst (λ (b : Kept). IsHeavyProduct c.args.left.now.table b.table c.args.map.now c.args.limit) c.table-2.ensures.value
    (subst (λ (a : Kept). IsHeavyProduct a.table r.table c.args.map.now c.args.limit) c.table.ensures.value
    (heavy_product l.table r.table c.args.map.now c.args.limit kinds (λ d. c.in-Err-Heavy.ensures.heavy d is) (λ some. c.in-Err-Heavy.ensures.heavy_in_two some is)))
