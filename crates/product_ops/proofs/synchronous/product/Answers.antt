use Rattle.std.proofs.lemmas.Result.{IfOk-weaker}
use Rattle.lash_model.specs.Sets.{set_of}
use Rattle.product_ops.proofs.Outcomes.{OfDiagrams, OfWeakTables, of_diagrams, of_weak_tables, words_of, stands_of, fractions_of, weak_of, lassos_of}
use Rattle.product_ops.proofs.Outcomes.{stands_mixed_of}
use Rattle.product_ops.proofs.synchronous.product.Goals as goal

pub returns-then-fracs-eq0-clause-words : goal.returns-then-fracs-eq0-clause-words
returns-then-fracs-eq0-clause-words g c =
    IfOk-weaker c.of_diagrams.result (λ t. OfDiagrams c.args.op c.args.left.now.table c.args.right.now.table c.args.map.now c.args.limit t.table) _
    (λ t h _. words_of c.args.op c.args.left.now.table c.args.right.now.table c.args.map.now c.args.limit t.table h)
    (of_diagrams c.of_diagrams.result c.args.op c.args.left.now.table c.args.right.now.table c.args.map.now c.args.limit
    c.of_diagrams.ensures.operands c.of_diagrams.ensures.diagram c.of_diagrams.ensures.base c.of_diagrams.ensures.tracks c.of_diagrams.ensures.pairs)

pub returns-then-fracs-eq0-clause-stands : goal.returns-then-fracs-eq0-clause-stands
returns-then-fracs-eq0-clause-stands g c =
    IfOk-weaker c.of_diagrams.result (λ t. OfDiagrams c.args.op c.args.left.now.table c.args.right.now.table c.args.map.now c.args.limit t.table) _
    (λ t h _ f k s u. stands_of c.args.op c.args.left.now.table c.args.right.now.table c.args.map.now c.args.limit t.table h (set_of f s) (set_of k u))
    (of_diagrams c.of_diagrams.result c.args.op c.args.left.now.table c.args.right.now.table c.args.map.now c.args.limit
    c.of_diagrams.ensures.operands c.of_diagrams.ensures.diagram c.of_diagrams.ensures.base c.of_diagrams.ensures.tracks c.of_diagrams.ensures.pairs)

pub returns-clause-fractions : goal.returns-clause-fractions
returns-clause-fractions g c =
    IfOk-weaker c.of_weak_tables.result (λ t. OfWeakTables c.args.op c.args.left.now.table c.args.right.now.table c.args.map.now c.args.limit t.table) _
    (λ t h _. fractions_of c.args.op c.args.left.now.table c.args.right.now.table c.args.map.now c.args.limit t.table h)
    (of_weak_tables c.of_weak_tables.result c.args.op c.args.left.now.table c.args.right.now.table c.args.map.now c.args.limit
    c.of_weak_tables.ensures.operands c.of_weak_tables.ensures.table c.of_weak_tables.ensures.base c.of_weak_tables.ensures.tracks
    c.of_weak_tables.ensures.mixed_pairs)

pub returns-clause-weak : goal.returns-clause-weak
returns-clause-weak g c =
    IfOk-weaker c.of_weak_tables.result (λ t. OfWeakTables c.args.op c.args.left.now.table c.args.right.now.table c.args.map.now c.args.limit t.table) _
    (λ t h some. weak_of c.args.op c.args.left.now.table c.args.right.now.table c.args.map.now c.args.limit t.table c.requires.kinds some h)
    (of_weak_tables c.of_weak_tables.result c.args.op c.args.left.now.table c.args.right.now.table c.args.map.now c.args.limit
    c.of_weak_tables.ensures.operands c.of_weak_tables.ensures.table c.of_weak_tables.ensures.base c.of_weak_tables.ensures.tracks
    c.of_weak_tables.ensures.mixed_pairs)

pub returns-clause-lassos : goal.returns-clause-lassos
returns-clause-lassos g c =
    IfOk-weaker c.of_weak_tables.result (λ t. OfWeakTables c.args.op c.args.left.now.table c.args.right.now.table c.args.map.now c.args.limit t.table) _
    (λ t h some. lassos_of c.args.op c.args.left.now.table c.args.right.now.table c.args.map.now c.args.limit t.table c.requires.kinds some h)
    (of_weak_tables c.of_weak_tables.result c.args.op c.args.left.now.table c.args.right.now.table c.args.map.now c.args.limit
    c.of_weak_tables.ensures.operands c.of_weak_tables.ensures.table c.of_weak_tables.ensures.base c.of_weak_tables.ensures.tracks
    c.of_weak_tables.ensures.mixed_pairs)

pub returns-clause-stands_mixed : goal.returns-clause-stands_mixed
returns-clause-stands_mixed g c =
    IfOk-weaker c.of_weak_tables.result (λ t. OfWeakTables c.args.op c.args.left.now.table c.args.right.now.table c.args.map.now c.args.limit t.table) _
    (λ t h some f k s u. stands_mixed_of c.args.op c.args.left.now.table c.args.right.now.table c.args.map.now c.args.limit t.table c.requires.kinds some h
    (set_of f s) (set_of k u))
    (of_weak_tables c.of_weak_tables.result c.args.op c.args.left.now.table c.args.right.now.table c.args.map.now c.args.limit
    c.of_weak_tables.ensures.operands c.of_weak_tables.ensures.table c.of_weak_tables.ensures.base c.of_weak_tables.ensures.tracks
    c.of_weak_tables.ensures.mixed_pairs)
