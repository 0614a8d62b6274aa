-- The steps that build a formula's table (own): one for each node, its parts first and the left part before the right one. Each has the
-- whole limit of cells. A complement has no cells, and a bound variable that its body does not use costs no step.
use Rattle.std.specs.Prelude.{◌≡◌, ℕ, suc, ◌+◌, ◌*◌, ◌<◌, ◌≤◌, ◌⊎◌, true, false, List, [], ◌∷◌, length, ℤ, pos}
use Rattle.std.specs.List.{range_with_len}
use Rattle.lash_model.specs.Formulas.{Sort, Int, Real, Linear, Formula, Atom, Not, And, Or, Exists, Comparison, AtMost}
use Rattle.lash_model.specs.Sets.{set_of}
use Rattle.lash_model.specs.Tables.{Table}
use Rattle.lasso_laws.specs.WholeNumbers.{IsWholeTable}
use Rattle.part_laws.specs.CanonicalMixed.{AcceptSameLassos}
use Rattle.marked_laws.specs.Weakening.{AreShown, ShowsNotWeak}
use Rattle.breakpoint_laws.specs.Breakpoints.{AcceptsSomeLasso, IsHeavyRealProjection}
use Rattle.breakpoint_build.specs.RealProjections.{IsRealProjection, IsTornProjection}
use Rattle.formula_core.specs.Counts.{uses, free_places}
use Rattle.product_ops.specs.Products.{IsProductTable, IsHeavyProduct}
use Rattle.product_ops.specs.Tracks.{TrackLists}
use Rattle.product_ops.specs.declared.operation.Op.{Op}
use Rattle.product_ops.specs.declared.operation.Op.TheVariants.{And as Both, Or as Either}
use Rattle.subset_build.specs.Projection.{IsSubsetTable, IsHeavyProjection, AcceptsSome}
use Rattle.set_compile.specs.Kinds.{AcceptSame, AcceptOthers, GivesBoth, IsTableOfAtom, IsHeavyFor, IsShaped}
use Rattle.set_compile.specs.Positions.{shared, spread}
use Rattle.set_compile.specs.declared.build.Build.{Build}
use Rattle.set_compile.specs.declared.build.Mode.{Mode}
use Rattle.set_compile.specs.declared.build.Mode.TheVariants.{Whole, Mixed}
use Rattle.set_compile.specs.declared.errors.CompileError.{CompileError}
use Rattle.set_compile.specs.declared.errors.CompileError.TheVariants.{Heavy, NotWeak, Memory}

-- the terms at the places from n on, one after another
abbrev pub numbered : ℕ → List (ℕ × ℤ) → List (ℕ × ℤ)
numbered n [] = []
numbered n (t ∷ ts) = (n, t.1) ∷ numbered (suc n) ts

-- a term on its own variables
abbrev pub own : Linear → Linear
own a = record { terms = numbered 0 a.terms; constant = a.constant }

-- the table accepts what an atom's table within the limit accepts
pub record IsOfAtom (b : Build) (kind : Comparison) (a : Linear) (tracks : ℕ) (t : Table) : Type 0 where
  pub atom_table : Table
  pub counts : IsTableOfAtom b.mode kind a b.base tracks b.limit atom_table
  pub same : AcceptSame atom_table t

-- the product of two tables is within the limit, and the table gives the truth function of their answers
pub record IsOfPairs (op : Op) (u v : Table) (m : TrackLists) (limit : ℕ) (t : Table) : Type 0 where
  pub pair_table : Table
  pub counts : IsProductTable op u v m limit pair_table
  pub gives : GivesBoth op u v m t

-- the subsets of a diagram along a track are within the limit, and the table accepts where some digits on the track are accepted
pub record IsOfSubsets (u : Table) (track limit : ℕ) (t : Table) : Type 0 where
  pub subset_table : Table
  pub counts : IsSubsetTable u track limit subset_table
  pub words : AcceptsSome u track t

-- the sets and breakpoint states of a table along a track are within the limit and have a weak form, and the table accepts where some digits
-- on the track are accepted
pub record IsOfBreakpoints (u : Table) (track limit : ℕ) (t : Table) : Type 0 where
  pub form : Table
  pub counts : IsRealProjection u track limit form
  pub lassos : AcceptsSomeLasso u track t

-- the cells of the table of whole numbers: one integer state and four fraction states, each with a row and an output or a colour
abbrev pub whole_cells : ℕ → ℕ
whole_cells base = 5 * (base + 1)

-- the canonical table of whole numbers, over one track
pub record IsOfWholes (b : Build) (t : Table) : Type 0 where
  pub shape : IsShaped b.mode b.base 1 t
  pub within : whole_cells b.base ≤ b.limit
  pub whole_table : Table
  pub counts : IsWholeTable b.base 1 0 whole_table
  pub same : AcceptSameLassos whole_table t

-- a table on all m tracks, and one on the track at a place
abbrev pub with_track : ℕ → ℕ → TrackLists
with_track m place = record { tracks = m; left = range_with_len 0 m; right = place ∷ [] }

-- the table accepts what u accepts with a whole number at the place: the product of u and the table of whole numbers
pub record IsWholeAt (b : Build) (m place : ℕ) (u t : Table) : Type 0 where
  pub shape : IsShaped b.mode b.base m t
  pub wholes : Table
  pub wholes_made : IsOfWholes b wholes
  pub joins : IsOfPairs Both u wholes (with_track m place) b.limit t

-- the table of whole numbers passes the limit, or its product with u does
abbrev pub IsHeavyAt : Build → ℕ → ℕ → Table → Type 0
IsHeavyAt b m place u = (b.limit < whole_cells b.base) ⊎ ((v : Table) × (IsOfWholes b v × IsHeavyProduct u v (with_track m place) b.limit))

-- the steps of a bound variable, whose track is the last of u: of words by subsets, of lassos by breakpoints, before which the track of an
-- integer variable is made whole
abbrev pub IsForgotten : Mode → Sort → Build → ℕ → Table → Table → Type 0
IsForgotten Whole s b track u t = IsOfSubsets u track b.limit t
IsForgotten Mixed Real b track u t = IsOfBreakpoints u track b.limit t
IsForgotten Mixed Int b track u t = (v : Table) × (IsWholeAt b (track + 1) track u v × IsOfBreakpoints v track b.limit t)

-- the canonical table of a formula over m variables, over the free ones among them, all of whose steps are within the limit. A variable
-- that is bound over m variables stands at place m: if the body uses it, its track is the last of the body's table
abbrev pub IsMade : Build → ℕ → Formula → Table → Type 0
IsMade b m (Atom kind a) t = IsShaped b.mode b.base (length (free_places (Atom kind a) m)) t × IsOfAtom b kind (own a) (length (free_places (Atom kind a) m)) t
IsMade b m (Not f) t = IsShaped b.mode b.base (length (free_places (Not f) m)) t × ((u : Table) × (IsMade b m f u × AcceptOthers u t))
IsMade b m (And f g) t = IsShaped b.mode b.base (length (free_places (And f g) m)) t × ((u : Table) × ((v : Table) × ((IsMade b m f u × IsMade b m g v) × IsOfPairs Both u v (shared (And f g) f g m) b.limit t)))
IsMade b m (Or f g) t = IsShaped b.mode b.base (length (free_places (Or f g) m)) t × ((u : Table) × ((v : Table) × ((IsMade b m f u × IsMade b m g v) × IsOfPairs Either u v (shared (Or f g) f g m) b.limit t)))
IsMade b m (Exists s f) t = ((uses m f ≡ true) × (IsShaped b.mode b.base (length (free_places (Exists s f) m)) t × ((u : Table) × (IsMade b (m + 1) f u × IsForgotten b.mode s b (length (free_places (Exists s f) m)) u t)))) ⊎ ((uses m f ≡ false) × IsMade b (m + 1) f t)

-- both parts are made, and their product passes the limit
abbrev pub HasHeavyPairs : Build → ℕ → Formula → Formula → TrackLists → Type 0
HasHeavyPairs b m f g tracks = (u : Table) × ((v : Table) × ((IsMade b m f u × IsMade b m g v) × IsHeavyProduct u v tracks b.limit))

-- why a table with fraction states does not forget a track
abbrev pub IsProjectionRefused : Table → ℕ → ℕ → CompileError → Type 0
IsProjectionRefused u track limit Heavy = IsHeavyRealProjection u track limit
IsProjectionRefused u track limit (NotWeak sign whole stem accept reject) = IsTornProjection u track limit sign whole stem accept reject
IsProjectionRefused u track limit Memory = ⊥

-- why a step of a bound variable is refused: the first of them that is
abbrev pub IsForgettingRefused : Mode → Sort → Build → ℕ → Table → CompileError → Type 0
IsForgettingRefused Whole s b track u e = (e ≡ Heavy) × IsHeavyProjection u track b.limit
IsForgettingRefused Mixed Real b track u e = IsProjectionRefused u track b.limit e
IsForgettingRefused Mixed Int b track u e = ((e ≡ Heavy) × IsHeavyAt b (track + 1) track u)
    ⊎ ((v : Table) × (IsWholeAt b (track + 1) track u v × IsProjectionRefused v track b.limit e))

-- the words of a refusal, if it has some, show that the set of the refused step is not weak
abbrev pub ShowsRefused : (List ℤ → ℕ → Type 0) → ℕ → ℕ → CompileError → Type 0
ShowsRefused P base tracks Heavy = Unit {0}
ShowsRefused P base tracks (NotWeak sign whole stem accept reject) = AreShown base tracks sign whole stem accept reject
    × ShowsNotWeak P base tracks sign whole stem accept reject
ShowsRefused P base tracks Memory = Unit {0}

-- a step of a formula over m variables is refused, and all steps before it are made
abbrev pub IsFirstRefused : Build → ℕ → Formula → CompileError → Type 0
IsFirstRefused b m (Atom kind a) e = (e ≡ Heavy) × IsHeavyFor b.mode kind (own a) b.base (length (free_places (Atom kind a) m)) b.limit
IsFirstRefused b m (Not f) e = IsFirstRefused b m f e
IsFirstRefused b m (And f g) e = IsFirstRefused b m f e ⊎ ((((u : Table) × IsMade b m f u) × IsFirstRefused b m g e) ⊎ ((e ≡ Heavy) × HasHeavyPairs b m f g (shared (And f g) f g m)))
IsFirstRefused b m (Or f g) e = IsFirstRefused b m f e ⊎ ((((u : Table) × IsMade b m f u) × IsFirstRefused b m g e) ⊎ ((e ≡ Heavy) × HasHeavyPairs b m f g (shared (Or f g) f g m)))
IsFirstRefused b m (Exists s f) e = IsFirstRefused b (m + 1) f e ⊎ ((uses m f ≡ true) × ((u : Table) × (IsMade b (m + 1) f u × (IsForgettingRefused b.mode s b (length (free_places (Exists s f) m)) u e
    × ShowsRefused (set_of (Exists s f) (spread m (free_places (Exists s f) m))) b.base (length (free_places (Exists s f) m)) e))))

-- what is true of all vectors
abbrev pub always : Formula
always = Atom AtMost (record { terms = []; constant = pos 0 })

-- the table of a formula on the tracks of its free variables, and one without tracks, on all m tracks
abbrev pub all_tracks : Formula → ℕ → TrackLists
all_tracks f m = record { tracks = m; left = free_places f m; right = [] }

-- the formula's table on all m tracks: made of the formula's own and that of `always` by a step more
pub record IsWidened (b : Build) (m : ℕ) (f : Formula) (t : Table) : Type 0 where
  pub shape : IsShaped b.mode b.base m t
  pub part : Table
  pub part_made : IsMade b m f part
  pub whole : Table
  pub whole_made : IsMade b m always whole
  pub joins : IsOfPairs Both part whole (all_tracks f m) b.limit t

-- the canonical table of a formula over m variables, on all m tracks, all of whose steps are within the limit: its own if all m are free
-- in it, and else widened
abbrev pub IsWide : Build → ℕ → Formula → Table → Type 0
IsWide b m f t = ((length (free_places f m) ≡ m) × IsMade b m f t) ⊎ ((length (free_places f m) < m) × IsWidened b m f t)

-- a step of that table is refused, and all steps before it are made: one of the formula's own, or one of the two that widen its table
abbrev pub IsWideRefused : Build → ℕ → Formula → CompileError → Type 0
IsWideRefused b m f e = IsFirstRefused b m f e ⊎ ((length (free_places f m) < m) × ((((u : Table) × IsMade b m f u) × IsFirstRefused b m always e) ⊎ ((e ≡ Heavy) × HasHeavyPairs b m f always (all_tracks f m))))
