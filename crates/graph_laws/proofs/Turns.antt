-- Turns of a cycle.
use Rattle.std.proofs.Common.{◌≡◌, ℕ, zero, suc, ◌+◌, List, [], add-one, ◌∙◌, sym, ap}
use Rattle.graph_laws.specs.Walks.{go, copies}
use Rattle.graph_laws.proofs.Joining.{go-append}

next_turn : (rows : List ℕ) (width q n : ℕ) (w : List ℕ) → go rows width q (copies (suc n) w) ≡ go rows width (go rows width q (copies n w)) w
next_turn rows width q zero w = go-append rows width q w []
next_turn rows width q (suc n) w =
    go-append rows width q w (copies (suc n) w)
    ∙ next_turn rows width (go rows width q w) n w
    ∙ ap (λ p. go rows width p w) (sym (go-append rows width q w (copies n w)))

-- one turn more is read from where the turns before lead
pub go-copies_more : (rows : List ℕ) (width q n : ℕ) (w : List ℕ) → go rows width q (copies (n + 1) w) ≡ go rows width (go rows width q (copies n w)) w
go-copies_more rows width q n w = ap (λ k. go rows width q (copies k w)) (add-one n) ∙ next_turn rows width q n w
