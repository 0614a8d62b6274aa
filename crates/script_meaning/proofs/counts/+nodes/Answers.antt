use Rattle.std.proofs.Common.{◌+◌, ◌*◌, sym, ap, ◌∙◌, map, length}
use Rattle.std.specs.Prelude.{min}
use Rattle.formula_core.specs.Counts.{nodes_of, count_limit}
use Rattle.script_syntax.specs.Trees.{declaration_of, quantifier_of, tree_of}
use Rattle.script_meaning.specs.Core.{core}
use Rattle.script_meaning.specs.Counts.{bound_nodes}
use Rattle.script_names.specs.Kept.{sets_of}
use Rattle.script_names.specs.Scopes.{with_declared}
use Rattle.script_meaning.proofs.Counting.{bound_count}
use Rattle.script_meaning.proofs.counts.+nodes.Goals as goal

pub unit_nodes-returns-in-Quantified : goal.unit_nodes-returns-in-Quantified
unit_nodes-returns-in-Quantified t c = λ scope.
    let ds = map declaration_of c.in-Quantified.declarations.items in
    let q = quantifier_of c.in-Quantified.quantifier in
    let body = core (sets_of c.args.defs.now) (with_declared scope ds) (tree_of c.in-Quantified.inner.value) in
    let inner = c.nodes-in-Quantified.ensures (with_declared scope ds) ∙ ap (λ f. min (nodes_of (core (sets_of c.args.defs.now) (with_declared scope ds) (tree_of f))) count_limit) c.deref-in-Quantified.ensures in
    c.with_bound.ensures (nodes_of body) inner
    ∙ ap (λ xs. min (nodes_of body + bound_nodes q * length (map declaration_of xs)) count_limit) c.deref-in-Quantified-2.ensures.value
    ∙ ap (λ n. min n count_limit) (sym (bound_count q ds body))
    ∙ ap (λ f. min (nodes_of (core (sets_of c.args.defs.now) scope (tree_of f))) count_limit) (sym c.in-Quantified.is)
