-- Tables with other colours.
use Rattle.std.specs.Prelude.{ℕ, ◌-◌, ◌≡◌, not, List, map}
use Rattle.lash_model.specs.Lassos.{Lasso, IsLasso}
use Rattle.lash_model.specs.Tables.{Table}
use Rattle.lash_model.specs.Acceptance.{accepts_lasso}

-- the table with those colours
abbrev pub with_colours : Table → List ℕ → Table
with_colours t colours = record t { colours = colours }

-- the table with colour yes for no and no for yes
abbrev pub opposite : Table → Table
opposite t = with_colours t (map (λ c. 1 - c) t.colours)

-- the one accepts exactly the lassos that the other does not
abbrev pub AcceptOtherLassos : Table → Table → Type 0
AcceptOtherLassos t u = (x : Lasso) → IsLasso t.base t.tracks x → accepts_lasso u x ≡ not (accepts_lasso t x)
