-- Tables of one shape.
use Rattle.std.specs.Prelude.{◌≡◌}
use Rattle.lash_model.specs.Tables.{Table, ints, fracs}

-- base, number of tracks and both numbers of states are equal
pub record IsSameShape (t u : Table) : Type 0 where
  pub base : t.base ≡ u.base
  pub tracks : t.tracks ≡ u.tracks
  pub ints_are : ints t ≡ ints u
  pub fracs_are : fracs t ≡ fracs u
