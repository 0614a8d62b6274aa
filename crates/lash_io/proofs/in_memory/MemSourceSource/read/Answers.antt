-- The bytes that were copied to the front of the buffer are the first that were left.
use Rattle.std.proofs.Common.{◌≡◌, ℕ, ◌-◌, ◌≤◌, List, ◌++◌, length, take, drop, sym, ap, ◌∙◌, refl, arith}
use Rattle.std.proofs.lemmas.List.{take_rest, length-append, length-take, length-drop}
use Rattle.lash_io.proofs.Giving.{gave_front}
use Rattle.lash_io.proofs.in_memory.MemSourceSource.read.Goals as goal

pub returns-clause-bytes : goal.returns-clause-bytes
returns-clause-bytes c =
    let all : List ℕ = c.deref-2.result.now in
    let at : ℕ = c.self.inside.at in
    let count : ℕ = c.min-count.result in
    let left : List ℕ = c.args.self.now.left in
    let is_left : drop at c.self.inside.bytes.items ≡ left = ap (λ s. s.left) c.self.view_is in
    let cut : take (length all - at) (drop at all) ≡ left = take_rest all at ∙ ap (drop at) c.deref-2.ensures.value ∙ is_left in
    let front : c.copy_from_slice.new.self ≡ take count left = c.copy_from_slice.ensures.after ∙ ap (take count) cut in
    let within : length (take (length all - at) (drop at all)) ≡ length left = ap length cut in
    let fits : count ≤ length left = omega (arith, within, c.min-count.ensures) in
    gave_front c.self.inside.bytes.items left c.copy_from_slice.new.self (c.copy_from_slice.new.self ++ drop count c.args.buf.now) at count
    (sym is_left) front fits
    (λ none room.
    let filled = length-append c.copy_from_slice.new.self (drop count c.args.buf.now) in
    let behind = length-drop count c.args.buf.now in
    let copied = c.copy_from_slice.ensures.len in
    let before = length-take count c.args.buf.now in
    omega (arith, within, c.min-count.ensures, c.min.ensures, c.self.invariant.1, filled, behind, copied, before))
    (drop count c.args.buf.now) refl
