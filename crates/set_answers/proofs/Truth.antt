-- A diagram of no tracks accepts the empty vector by the output of its root.
use Rattle.std.proofs.Common.{◌≡◌, ℕ, ◌<◌, [], arith, ◌∙◌, sym, ap, subst}
use Rattle.std.specs.Prelude.{slice_index, nat_eq, IsTrue, ◌↔◌}
use Rattle.std.proofs.lemmas.List.Elements.{All-from_recursion}
use Rattle.integer_laws.specs.Vectors.{vector_from}
use Rattle.lash_model.specs.Formulas.{Formula}
use Rattle.lash_model.specs.Meaning.{Solves}
use Rattle.lash_model.specs.Words.{values}
use Rattle.lash_model.specs.Tables.{Table, letters}
use Rattle.lash_model.specs.Acceptance.{accepts_word}
use Rattle.lash_model.specs.Standing.{StandsFor}
use Rattle.lash_model.proofs.Digits.{power_positive}

no_values : (r n : ℕ) → n ≡ 0 → values r n 0 [] ≡ []
unfolding vector_from
no_values r n e = ap (λ k. values r k 0 []) e

pub truth_is : (t u : Table) (root out : ℕ) → u ≡ t → t.tracks ≡ 0 → root ≡ slice_index u.roots 0 → out ≡ slice_index u.outs root → (f : Formula)
    → StandsFor t [] f → IsTrue (nat_eq out 1) ↔ Solves [] f [] 1
truth_is t u root out same none root_is out_is f s =
    subst (λ o. IsTrue (nat_eq o 1) ↔ Solves [] f [] 1) (sym read)
    (subst (λ ns. IsTrue (accepts_word t 0 []) ↔ Solves [] f ns 1) (no_values t.base t.tracks none)
    (s.each 0 [] (power_positive 2 t.tracks some) (All-from_recursion (λ l. l < letters t) [] tt)))
  where
    some : 0 < 2
    some = omega arith

    read : out ≡ slice_index t.outs (slice_index t.roots 0)
    read = out_is ∙ ap (λ q. slice_index u.outs q) root_is ∙ ap (λ (v : Table). slice_index v.outs (slice_index v.roots 0)) same
