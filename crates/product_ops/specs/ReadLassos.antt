-- What an operand reads of a lasso of the result, and the truth function of what two operands accept of what they read.
use Rattle.std.specs.Prelude.{◌≡◌, Bool}
use Rattle.lash_model.specs.Lassos.{Lasso, IsLasso, numerators, denominator}
use Rattle.lash_model.specs.Tables.{Table}
use Rattle.lash_model.specs.Acceptance.{accepts_lasso}
use Rattle.part_laws.specs.MixedPairs.{MixedSide, read_lasso}
use Rattle.product_ops.specs.Tracks.{TrackLists, pick_entries, read_by}
use Rattle.product_ops.specs.Operations.{truth}
use Rattle.product_ops.specs.Pairs.{Operand, left_operand, right_operand}
use Rattle.product_ops.specs.declared.operation.Op.{Op}

-- the operand as a side of pairs: of sign vectors and letters it reads the digits at its places
abbrev pub side_of : Operand → MixedSide
side_of o = record { table = o.table; read_sign = read_by 2 o.tracks o.places; read = read_by o.table.base o.tracks o.places }

-- whether it accepts what it reads of a lasso of the result
abbrev pub accepts_lasso_by : Operand → Lasso → Bool
accepts_lasso_by o x = accepts_lasso o.table (read_lasso (side_of o) x)

-- the table gives the truth function of the operands' answers to each lasso
abbrev pub AcceptsBothLassos : Op → Table → Table → TrackLists → Table → Type 0
AcceptsBothLassos op a b m t = (x : Lasso) → IsLasso a.base m.tracks x
    → accepts_lasso t x ≡ truth op (accepts_lasso_by (left_operand a m) x) (accepts_lasso_by (right_operand b m) x)

-- what an operand reads of a lasso of the result is a lasso of its own, which spells the numerators at its places over the same denominator
pub record IsLassoReadAs (o : Operand) (x : Lasso) : Type 0 where
  pub lasso : IsLasso o.table.base o.table.tracks (read_lasso (side_of o) x)
  pub spells : numerators o.table.base o.table.tracks (read_lasso (side_of o) x) ≡ pick_entries o.places (numerators o.table.base o.tracks x)
  pub over : denominator o.table.base (read_lasso (side_of o) x) ≡ denominator o.table.base x

abbrev pub ReadsPickedLassos : Operand → Type 0
ReadsPickedLassos o = (x : Lasso) → IsLasso o.table.base o.tracks x → IsLassoReadAs o x
