-- The code's types, read as what they mean.
use Rattle.lash_model.specs.Lassos.{Lasso}
use Rattle.digit_codes.specs.declared.word.Lasso.{Lasso as WrittenLasso}

-- the lasso that is written
abbrev pub lasso_of : WrittenLasso → Lasso
lasso_of x = record { sign = x.sign; whole = x.whole; stem = x.stem; cycle = x.cycle }
