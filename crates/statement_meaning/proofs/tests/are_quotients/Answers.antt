use Rattle.std.proofs.Common.{ℕ, zero, suc, ◌<◌, List, [], ◌∷◌, map, arith}
use Rattle.std.specs.List.{All}
use Rattle.script_statements.specs.Values.{rational_of}
use Rattle.script_statements.specs.declared.tree.Rational.{Rational}
use Rattle.statement_meaning.specs.Values.{IsQuotient}
use Rattle.statement_meaning.proofs.tests.are_quotients.Goals as goal

all_quotients : (vs : List Rational) → All (λ v. 0 < v.denominator) vs → All IsQuotient (map rational_of vs)
all_quotients [] h k d lt = absurd (omega (arith, lt))
all_quotients (v ∷ vs) h zero d lt = record { positive = h 0 v (omega arith) }
all_quotients (v ∷ vs) h (suc k) d lt = all_quotients vs (λ i x below. h (suc i) x (omega (arith, below))) k d (omega (arith, lt))

pub returns : goal.returns
returns c = λ t. all_quotients c.args.values.now (c.are_positive.ensures t)
