-- The signs of the first fractions were read.
use Rattle.std.proofs.Common.{◌≡◌, map, take}
use Rattle.lash_model.specs.Letters.{number}
use Rattle.fraction_codes.specs.Fractions.{sign_of}
use Rattle.fraction_codes.proofs.parts.sign_vector.Given as goal

abbrev pub invariant-loop-value : goal.invariant-loop-value
invariant-loop-value l = l.sign ≡ number 2 (map (λ v. sign_of v.num) (take l.value-index l.values))
