use Rattle.std.proofs.Common.{◌≡◌, ◌≤◌, ◌+◌, ◌*◌, ◌^◌, map, drop, false}
use Rattle.lash_model.specs.Formulas.{coefficient_sum}
use Rattle.script_syntax.specs.Trees.{signed_of}
use Rattle.script_meaning.specs.Core.{with_term}
use Rattle.script_meaning.specs.Limits.{term_passes}
use Rattle.script_meaning.proofs.terms.add_term.Given as goal

abbrev pub invariant-loop-signed : goal.invariant-loop-signed
invariant-loop-signed l = (with_term l.scope l.turn l.initial.atom.terms (map signed_of l.signed-items) ≡ with_term l.scope l.turn l.atom.terms (map signed_of (drop l.signed-index l.signed-items))) × (l.atom.constant ≡ l.initial.atom.constant) × (coefficient_sum l.atom.terms ≤ coefficient_sum l.initial.atom.terms + l.signed-index * 2 ^ 64) × (term_passes (map signed_of (drop l.signed-index l.signed-items)) ≡ false)
