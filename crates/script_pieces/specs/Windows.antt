-- What the clauses of a window read of it, and how far a search has come. No public clause cites this module.
use Rattle.std.specs.Prelude.{ℕ, List, slice_range}
use Rattle.script_pieces.specs.declared.window.Window.{Window}

-- the bytes between a window's start and its end
abbrev pub items : Window → List ℕ
items w = slice_range w.bytes.items w.start w.end
