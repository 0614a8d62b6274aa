use Rattle.std.proofs.Common.{◌≡◌, ◌≤◌, ◌*◌, ◌^◌, map, drop, false}
use Rattle.std.specs.Prelude.{◌+ℤ◌, unsigned_abs}
use Rattle.script_syntax.specs.Trees.{signed_of}
use Rattle.script_meaning.specs.Core.{constant_of}
use Rattle.script_meaning.specs.Limits.{term_passes}
use Rattle.script_meaning.proofs.terms.constant.Given as goal

abbrev pub invariant-loop-signed : goal.invariant-loop-signed
invariant-loop-signed l = (constant_of (map signed_of l.signed-items) ≡ l.sum +ℤ constant_of (map signed_of (drop l.signed-index l.signed-items))) × (unsigned_abs l.sum ≤ l.signed-index * 2 ^ 64) × (term_passes (map signed_of (drop l.signed-index l.signed-items)) ≡ false)
