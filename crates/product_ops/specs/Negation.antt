-- A diagram with its outputs exchanged.
use Rattle.std.specs.Prelude.{◌≡◌, ℕ, ◌-◌, ◌^◌, ◌<◌, not, List, ◌++◌, map, take, drop, All}
use Rattle.lash_model.specs.Tables.{Table, letters}
use Rattle.lash_model.specs.Acceptance.{accepts_word}

-- yes for no, and no for yes
abbrev pub exchanged : List ℕ → List ℕ
exchanged outs = map (λ out. 1 - out) outs

-- the first n of them exchanged
abbrev pub exchanged_upto : ℕ → List ℕ → List ℕ
exchanged_upto n outs = exchanged (take n outs) ++ drop n outs

abbrev pub negated : Table → Table
negated t = record t { outs = exchanged t.outs }

-- the one accepts exactly what the other does not
abbrev pub AcceptsOthers : Table → Table → Type 0
AcceptsOthers t u = (sign : ℕ) (w : List ℕ) → sign < 2 ^ t.tracks → All (λ l. l < letters t) w → accepts_word u sign w ≡ not (accepts_word t sign w)
