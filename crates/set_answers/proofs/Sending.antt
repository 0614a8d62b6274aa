-- Writing past a block: what is pending is sent, and then bytes of another writer.
use Rattle.std.proofs.Common.{◌≡◌, ℕ, List, [], Option, Result, Ok, Err, subst}
use Rattle.std.specs.Result.{IsErr}
use Rattle.std.proofs.lemmas.Result.{MatchResult-weaker}
use Rattle.lash_io.specs.Sinks.{Holds, HoldsPart, Puts}
use Rattle.lash_io.specs.Blocks.{Passes}
use Rattle.lash_io.proofs.Holding.{part_then, part_more}
use Rattle.lash_io.proofs.Moving.{moves_flushed_sent}

pub sent_then : {T E : Type 0} (before middle after : Option (List ℕ)) (pending pending_now bytes : List ℕ) (answer : Result T E)
    → Holds before middle pending → pending_now ≡ [] → Puts middle after answer bytes → Passes before pending after pending_now answer bytes
sent_then before middle after pending pending_now bytes answer first empty second =
    MatchResult-weaker answer second
    (λ _ held. moves_flushed_sent before middle after pending pending_now bytes first held empty)
    (λ _ part. (part_then before middle after pending bytes first part, empty))

-- the error of sending what is pending is handed on
pub not_sent : {T E : Type 0} (answer : Result T E) → IsErr answer → (before after : Option (List ℕ)) (pending now bytes : List ℕ)
    → HoldsPart before after pending → now ≡ [] → Passes before pending after now answer bytes
not_sent (Ok x) is_err before after pending now bytes part empty = absurd (cc)
not_sent (Err e) is_err before after pending now bytes part empty = (part_more before after pending bytes part, empty)

-- the same bytes under another reading
pub as_text : {T E : Type 0} (before after : Option (List ℕ)) (pending now xs ys : List ℕ) (answer : Result T E) → xs ≡ ys
    → Passes before pending after now answer xs → Passes before pending after now answer ys
as_text before after pending now xs ys answer e = subst (λ zs. Passes before pending after now answer zs) e
