-- If all declared variables are integers, a table stands for a set as a diagram; if one is real, by what it says of lassos.
use Rattle.std.proofs.Common.{◌≡◌, ℕ, zero, suc, ◌<◌, List, [], ◌∷◌, length, refl, sym, ap, subst, arith, true, false}
use Rattle.std.specs.List.{list_all}
use Rattle.std.proofs.lemmas.Bool.{false≢true}
use Rattle.formula_core.specs.Counts.{is_int}
use Rattle.lash_model.specs.Formulas.{Sort, Int, Real, Formula}
use Rattle.lash_model.specs.Meaning.{holds, Solves}
use Rattle.lash_model.specs.Tables.{Table}
use Rattle.lash_model.specs.Standing.{StandsForWhole, StandsForMixed, StandsFor, all_int}
use Rattle.lash_model.proofs.Wholeness.{stands_for_set}

-- there are at most 12 of them
all_whole : (t : Table) (n : ℕ) (f : Formula) → n < 13 → StandsForWhole t (Solves (all_int n) f) → StandsFor t (all_int n) f
all_whole t zero f lt s = s
all_whole t (suc zero) f lt s = s
all_whole t (suc (suc zero)) f lt s = s
all_whole t (suc (suc (suc zero))) f lt s = s
all_whole t (suc (suc (suc (suc zero)))) f lt s = s
all_whole t (suc (suc (suc (suc (suc zero))))) f lt s = s
all_whole t (suc (suc (suc (suc (suc (suc zero)))))) f lt s = s
all_whole t (suc (suc (suc (suc (suc (suc (suc zero))))))) f lt s = s
all_whole t (suc (suc (suc (suc (suc (suc (suc (suc zero)))))))) f lt s = s
all_whole t (suc (suc (suc (suc (suc (suc (suc (suc (suc zero))))))))) f lt s = s
all_whole t (suc (suc (suc (suc (suc (suc (suc (suc (suc (suc zero)))))))))) f lt s = s
all_whole t (suc (suc (suc (suc (suc (suc (suc (suc (suc (suc (suc zero))))))))))) f lt s = s
all_whole t (suc (suc (suc (suc (suc (suc (suc (suc (suc (suc (suc (suc zero)))))))))))) f lt s = s
all_whole t (suc (suc (suc (suc (suc (suc (suc (suc (suc (suc (suc (suc (suc n))))))))))))) f lt s = absurd (omega (arith, lt))

ints_are : (sorts : List Sort) → list_all is_int sorts ≡ true → sorts ≡ all_int (length sorts)
ints_are [] h = refl
ints_are (Int ∷ sorts) h = ap (λ ss. Int ∷ ss) (ints_are sorts h)
ints_are (Real ∷ sorts) h = absurd (false≢true h)

pub stands_declared : (t : Table) (sorts : List Sort) (f : Formula) → list_all is_int sorts ≡ true → length sorts < 13 → StandsForWhole t (holds f) → StandsFor t sorts f
stands_declared t sorts f ints lt s =
    let e : sorts ≡ all_int (length sorts) = ints_are sorts ints in
    subst (λ ss. StandsFor t ss f) (sym e) (all_whole t (length sorts) f lt (stands_for_set t (all_int (length sorts)) f s))

-- the first real variable is one of at most 12
pub mixed_declared : (t : Table) (sorts : List Sort) (f : Formula) → length sorts < 13 → list_all is_int sorts ≡ false → StandsForMixed t (Solves sorts f)
    → StandsFor t sorts f
mixed_declared t (Real ∷ sorts) f lt some s = s
mixed_declared t [] f lt some s = absurd (false≢true (sym some))
mixed_declared t (Int ∷ Real ∷ sorts) f lt some s = s
mixed_declared t (Int ∷ []) f lt some s = absurd (false≢true (sym some))
mixed_declared t (Int ∷ Int ∷ Real ∷ sorts) f lt some s = s
mixed_declared t (Int ∷ Int ∷ []) f lt some s = absurd (false≢true (sym some))
mixed_declared t (Int ∷ Int ∷ Int ∷ Real ∷ sorts) f lt some s = s
mixed_declared t (Int ∷ Int ∷ Int ∷ []) f lt some s = absurd (false≢true (sym some))
mixed_declared t (Int ∷ Int ∷ Int ∷ Int ∷ Real ∷ sorts) f lt some s = s
mixed_declared t (Int ∷ Int ∷ Int ∷ Int ∷ []) f lt some s = absurd (false≢true (sym some))
mixed_declared t (Int ∷ Int ∷ Int ∷ Int ∷ Int ∷ Real ∷ sorts) f lt some s = s
mixed_declared t (Int ∷ Int ∷ Int ∷ Int ∷ Int ∷ []) f lt some s = absurd (false≢true (sym some))
mixed_declared t (Int ∷ Int ∷ Int ∷ Int ∷ Int ∷ Int ∷ Real ∷ sorts) f lt some s = s
mixed_declared t (Int ∷ Int ∷ Int ∷ Int ∷ Int ∷ Int ∷ []) f lt some s = absurd (false≢true (sym some))
mixed_declared t (Int ∷ Int ∷ Int ∷ Int ∷ Int ∷ Int ∷ Int ∷ Real ∷ sorts) f lt some s = s
mixed_declared t (Int ∷ Int ∷ Int ∷ Int ∷ Int ∷ Int ∷ Int ∷ []) f lt some s = absurd (false≢true (sym some))
mixed_declared t (Int ∷ Int ∷ Int ∷ Int ∷ Int ∷ Int ∷ Int ∷ Int ∷ Real ∷ sorts) f lt some s = s
mixed_declared t (Int ∷ Int ∷ Int ∷ Int ∷ Int ∷ Int ∷ Int ∷ Int ∷ []) f lt some s = absurd (false≢true (sym some))
mixed_declared t (Int ∷ Int ∷ Int ∷ Int ∷ Int ∷ Int ∷ Int ∷ Int ∷ Int ∷ Real ∷ sorts) f lt some s = s
mixed_declared t (Int ∷ Int ∷ Int ∷ Int ∷ Int ∷ Int ∷ Int ∷ Int ∷ Int ∷ []) f lt some s = absurd (false≢true (sym some))
mixed_declared t (Int ∷ Int ∷ Int ∷ Int ∷ Int ∷ Int ∷ Int ∷ Int ∷ Int ∷ Int ∷ Real ∷ sorts) f lt some s = s
mixed_declared t (Int ∷ Int ∷ Int ∷ Int ∷ Int ∷ Int ∷ Int ∷ Int ∷ Int ∷ Int ∷ []) f lt some s = absurd (false≢true (sym some))
mixed_declared t (Int ∷ Int ∷ Int ∷ Int ∷ Int ∷ Int ∷ Int ∷ Int ∷ Int ∷ Int ∷ Int ∷ Real ∷ sorts) f lt some s = s
mixed_declared t (Int ∷ Int ∷ Int ∷ Int ∷ Int ∷ Int ∷ Int ∷ Int ∷ Int ∷ Int ∷ Int ∷ []) f lt some s = absurd (false≢true (sym some))
mixed_declared t (Int ∷ Int ∷ Int ∷ Int ∷ Int ∷ Int ∷ Int ∷ Int ∷ Int ∷ Int ∷ Int ∷ Int ∷ []) f lt some s = absurd (false≢true (sym some))
mixed_declared t (Int ∷ Int ∷ Int ∷ Int ∷ Int ∷ Int ∷ Int ∷ Int ∷ Int ∷ Int ∷ Int ∷ Int ∷ sort ∷ sorts) f lt some s = absurd (omega (arith, lt))
