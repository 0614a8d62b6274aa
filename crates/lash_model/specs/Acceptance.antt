-- Acceptance of words and lassos (Büchi and co-Büchi acceptance, on lassos): after as many turns of the cycle as there are fraction
-- states, the run is on its loop.
use Rattle.std.specs.Prelude.{ℕ, List, [], ◌∷◌, ◌++◌, slice_index, Bool, ◌&&◌, nat_eq}
use Rattle.graph_laws.specs.Walks.{go, copies}
use Rattle.lash_model.specs.Lassos.{Lasso}
use Rattle.lash_model.specs.Tables.{Table, letters, fracs}

-- the integer state after a sign vector and a word
abbrev pub int_state : Table → ℕ → List ℕ → ℕ
int_state t sign w = go t.rows (letters t) (slice_index t.roots sign) w

-- a Number Decision Diagram accepts where the output is yes
abbrev pub accepts_word : Table → ℕ → List ℕ → Bool
accepts_word t sign w = nat_eq (slice_index t.outs (int_state t sign w)) 1

-- the fraction state after the whole part, the stem, and the cycle once for each fraction state
abbrev pub frac_state : Table → Lasso → ℕ
frac_state t x = go t.frac_rows (letters t) (slice_index t.outs (int_state t x.sign x.whole)) (x.stem ++ copies (fracs t) x.cycle)

-- a Real Vector Automaton accepts where that state's colour is yes
abbrev pub accepts_lasso : Table → Lasso → Bool
accepts_lasso t x = nat_eq (slice_index t.colours (frac_state t x)) 1

-- no state of colour no is met while a word is read
abbrev pub is_clear : Table → ℕ → List ℕ → Bool
is_clear t q [] = nat_eq (slice_index t.colours q) 1
is_clear t q (l ∷ w) = nat_eq (slice_index t.colours q) 1 && is_clear t (go t.frac_rows (letters t) q (l ∷ [])) w

-- a marked table, whose marked states are those of colour no, accepts where none is met from that state on, for as many turns again
abbrev pub accepts_marked : Table → Lasso → Bool
accepts_marked t x = is_clear t (frac_state t x) (copies (fracs t) x.cycle)
