-- What a read out of a list gives.
use Rattle.std.proofs.Common.{◌≡◌, ℕ, ◌+◌, ◌<◌, ◌≤◌, List, ◌++◌, length, take, drop, Some, ap, sym, ◌∙◌}
use Rattle.std.proofs.lemmas.List.{take_at, drop-drop, take-append-drop, length-take-le, nil_from_length}
use Rattle.lash_io.specs.Sources.{Gave}

-- the first n bytes of what is left of a list, copied to the front of a buffer
pub gave_front : (items left front filled : List ℕ) (at n : ℕ) → left ≡ drop at items → front ≡ take n left → n ≤ length left
    → (n ≡ 0 → 0 < length filled → length left ≡ 0) → (rest : List ℕ) → filled ≡ front ++ rest
    → Gave (Some left) (Some (drop (at + n) items)) filled n
gave_front items left front filled at n is_left is_front fits ends rest is_filled = record {
  given = ap Some (sym (
      ap (λ xs. take n xs ++ drop (at + n) items) is_filled
      ∙ ap (λ xs. xs ++ drop (at + n) items) (take_at front rest n (ap length is_front ∙ length-take-le n left fits))
      ∙ ap (λ xs. xs ++ drop (at + n) items) is_front
      ∙ ap (λ xs. take n left ++ xs) (sym (drop-drop n at items) ∙ ap (drop n) (sym is_left))
      ∙ take-append-drop n left));
  at_end = λ none room. nil_from_length left (ends none room);
}
