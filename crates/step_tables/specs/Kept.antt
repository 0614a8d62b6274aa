-- Tables as they are kept: a table, and of each of its five lists the bound that its cells stay below.
use Rattle.std.specs.Prelude.{ℕ, ◌*◌, ◌^◌, ◌≤◌, ◌≡◌, Bool, if◌then◌else◌, List, [], length, map, replicate}
use Rattle.graph_laws.specs.Exploring.{KeyTable}
use Rattle.lash_model.specs.Tables.{Table, IsTable}

pub record Bounds : Type 0 where
  pub roots : ℕ
  pub rows : ℕ
  pub outs : ℕ
  pub frac_rows : ℕ
  pub colours : ℕ

pub record Kept : Type 0 where
  pub table : Table
  pub bounds : Bounds

-- cells of 32 bits
abbrev pub wide : Bounds
wide = record { roots = 2 ^ 32; rows = 2 ^ 32; outs = 2 ^ 32; frac_rows = 2 ^ 32; colours = 2 ^ 32 }

-- a table in cells of 32 bits
abbrev pub plain : Table → Kept
plain t = record { table = t; bounds = wide }

-- the table of zeros: base, tracks, integer states, fraction states
abbrev pub zeros : ℕ → ℕ → ℕ → ℕ → Table
zeros base tracks ints fracs = record {
  base = base;
  tracks = tracks;
  roots = replicate (2 ^ tracks) 0;
  rows = replicate (ints * base ^ tracks) 0;
  outs = replicate ints 0;
  frac_rows = replicate (fracs * base ^ tracks) 0;
  colours = replicate fracs 0;
}

-- the answers of keys in order: 1 for yes, and 0 for no
abbrev pub answered : (List ℕ → Bool) → List (List ℕ) → List ℕ
answered says_yes keys = map (λ k. if says_yes k then 1 else 0) keys

-- the diagram of what was explored: base, tracks, what was explored, the output of each key
abbrev pub laid : ℕ → ℕ → KeyTable → List ℕ → Table
laid base tracks k outs = record {
  base = base;
  tracks = tracks;
  roots = k.starts;
  rows = k.rows;
  outs = outs;
  frac_rows = [];
  colours = [];
}

-- the automaton of two explorations, of which the second starts in what each key of the first leads to: base, tracks, what was
-- explored first and second, the colour of each key of the second
abbrev pub laid_in_two : ℕ → ℕ → KeyTable → KeyTable → List ℕ → Table
laid_in_two base tracks k l colours = record {
  base = base;
  tracks = tracks;
  roots = k.starts;
  rows = k.rows;
  outs = l.starts;
  frac_rows = l.rows;
  colours = colours;
}

-- the three counts are those of the table, which is in range, and cells hold both colours and both answers
pub record IsCounted (k : Kept) (letters ints fracs : ℕ) : Type 0 where
  pub table : IsTable k.table
  pub letters_count : letters ≡ k.table.base ^ k.table.tracks
  pub ints_count : ints ≡ length k.table.outs
  pub fracs_count : fracs ≡ length k.table.colours
  pub two_colours : 2 ≤ k.bounds.colours
  pub two_answers : 2 ≤ k.bounds.outs
