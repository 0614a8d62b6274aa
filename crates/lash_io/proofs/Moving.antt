-- How bytes move through a block to a sink, put by put.
use Rattle.std.proofs.Common.{◌≡◌, ℕ, List, [], ◌++◌, Option, Result, subst, ap, sym, ◌∙◌, append_assoc}
use Rattle.std.proofs.lemmas.List.{append-nil}
use Rattle.std.proofs.lemmas.Result.{MatchResult-weaker}
use Rattle.std.specs.Io.KnownBytes.{append_known}
use Rattle.lash_io.specs.Sinks.{Holds, HoldsPart, Puts}
use Rattle.lash_io.specs.Blocks.{Moves, Passes}
use Rattle.lash_io.proofs.Holding.{holds_none, holds_then, part_more}

-- before the first put
pub moves_none : (held : Option (List ℕ)) (pending : List ℕ) → Moves held pending held pending []
moves_none held pending = record { sent = []; held = holds_none held; order = sym (append-nil pending) }

-- before the first put into a new block
pub moves_new : (held : Option (List ℕ)) (pending : List ℕ) → pending ≡ [] → Moves held [] held pending []
moves_new held pending new = record { sent = []; held = holds_none held; order = new }

-- the pending bytes were sent, then the bytes themselves
pub moves_flushed_sent : (before middle after : Option (List ℕ)) (pending pending_now bytes : List ℕ) → Holds before middle pending
    → Holds middle after bytes → pending_now ≡ [] → Moves before pending after pending_now bytes
moves_flushed_sent before middle after pending pending_now bytes first second empty = record {
  sent = pending ++ bytes;
  held = holds_then before middle after pending bytes first second;
  order = ap (λ xs. (pending ++ bytes) ++ xs) empty ∙ append-nil (pending ++ bytes);
}

-- a put, then a put
pub moves_then : (before middle after : Option (List ℕ)) (pending pending_between pending_now xs ys : List ℕ)
    → Moves before pending middle pending_between xs → Moves middle pending_between after pending_now ys
    → Moves before pending after pending_now (xs ++ ys)
moves_then before middle after pending pending_between pending_now xs ys first second = record {
  sent = first.sent ++ second.sent;
  held = holds_then before middle after first.sent second.sent first.held second.held;
  order = append_assoc first.sent second.sent pending_now
      ∙ ap (λ zs. first.sent ++ zs) second.order
      ∙ sym (append_assoc first.sent pending_between ys)
      ∙ ap (λ zs. zs ++ ys) first.order
      ∙ append_assoc pending xs ys;
}

-- a put, then one that failed
pub moves_then_part : (before middle after : Option (List ℕ)) (pending pending_between xs ys : List ℕ)
    → Moves before pending middle pending_between xs → HoldsPart middle after (pending_between ++ ys)
    → HoldsPart before after (pending ++ (xs ++ ys))
moves_then_part before middle after pending pending_between xs ys first second = record {
  part = first.sent ++ second.part;
  rest = second.rest;
  parted = sym (append_assoc pending xs ys)
      ∙ ap (λ zs. zs ++ ys) (sym first.order)
      ∙ append_assoc first.sent pending_between ys
      ∙ ap (λ zs. first.sent ++ zs) second.parted
      ∙ sym (append_assoc first.sent second.part second.rest);
  held = holds_then before middle after first.sent second.part first.held second.held;
}

-- puts, then a flush
pub moves_then_flush : (before middle after : Option (List ℕ)) (pending pending_between xs : List ℕ)
    → Moves before pending middle pending_between xs → Holds middle after pending_between → Holds before after (pending ++ xs)
moves_then_flush before middle after pending pending_between xs first second =
    holds_then before middle after first.sent pending_between first.held second ∙ ap (append_known before) first.order

-- puts, then a flush that failed
pub moves_then_flush_part : (before middle after : Option (List ℕ)) (pending pending_between xs : List ℕ)
    → Moves before pending middle pending_between xs → HoldsPart middle after pending_between → HoldsPart before after (pending ++ xs)
moves_then_flush_part before middle after pending pending_between xs first second = record {
  part = first.sent ++ second.part;
  rest = second.rest;
  parted = sym first.order ∙ ap (λ zs. first.sent ++ zs) second.parted ∙ sym (append_assoc first.sent second.part second.rest);
  held = holds_then before middle after first.sent second.part first.held second.held;
}

-- a put, then one with either answer
pub passes_then : {T E : Type 0} (before middle after : Option (List ℕ)) (pending pending_between pending_now xs ys : List ℕ) (answer : Result T E)
    → Moves before pending middle pending_between xs → Passes middle pending_between after pending_now answer ys
    → Passes before pending after pending_now answer (xs ++ ys)
passes_then before middle after pending pending_between pending_now xs ys answer first second =
    MatchResult-weaker answer second
    (λ _ moved. moves_then before middle after pending pending_between pending_now xs ys first moved)
    (λ _ part. (moves_then_part before middle after pending pending_between xs ys first part.0, part.1))

-- puts, then one that failed, where more was to follow
pub passes_failed : (before middle after : Option (List ℕ)) (pending pending_between pending_now xs ys more whole : List ℕ)
    → Moves before pending middle pending_between xs → HoldsPart middle after (pending_between ++ ys) × (pending_now ≡ [])
    → whole ≡ xs ++ ys ++ more → HoldsPart before after (pending ++ whole) × (pending_now ≡ [])
passes_failed before middle after pending pending_between pending_now xs ys more whole first second is_whole =
    let grouped : pending ++ (xs ++ ys) ++ more ≡ pending ++ whole =
    append_assoc pending (xs ++ ys) more ∙ ap (λ zs. pending ++ zs) (sym is_whole) in
    let P : List ℕ → Type 0 = λ zs. HoldsPart before after zs in
    let part = moves_then_part before middle after pending pending_between xs ys first second.0 in
    (subst P grouped (part_more before after (pending ++ (xs ++ ys)) more part), second.1)

-- puts into a new block, then a flush with either answer
pub passes_then_flush : {T E : Type 0} (before middle after : Option (List ℕ)) (pending pending_between xs : List ℕ) (answer : Result T E)
    → pending ≡ [] → Moves before pending middle pending_between xs → Puts middle after answer pending_between → Puts before after answer xs
passes_then_flush before middle after pending pending_between xs answer new first second =
    let all : pending ++ xs ≡ xs = ap (λ zs. zs ++ xs) new in
    let P : List ℕ → Type 0 = λ zs. Puts before after answer zs in
    subst P all (MatchResult-weaker answer second
    (λ _ held. moves_then_flush before middle after pending pending_between xs first held)
    (λ _ part. moves_then_flush_part before middle after pending pending_between xs first part))
