-- The values of terms (the usual meaning). A vector of fractions is a list of numerators ns over one denominator d.
use Rattle.std.specs.Prelude.{ℕ, List, ℤ, pos, ◌+ℤ◌, ◌*ℤ◌}
use Rattle.lash_model.specs.Formulas.{Linear}
use Rattle.lash_model.specs.Meaning.{total}

-- the numerator of a term's value over d
abbrev pub term_value : List ℤ → ℕ → Linear → ℤ
term_value ns d t = total t.terms ns +ℤ (t.constant *ℤ pos d)
