-- Graphs with colours, given by a step function that takes any letter; a table's rows are such a graph, where letters out of range act
-- as the last one.
use Rattle.std.proofs.Common.{◌≡◌, ℕ, zero, suc, ◌<◌, List, [], ◌∷◌, ◌++◌, refl, ◌∙◌, sym, ap}
use Rattle.graph_laws.specs.Walks.{copies}
use Rattle.part_laws.proofs.Turning.{turns}

-- a deterministic graph with colours
pub record Graph : Type 0 where
  pub states : ℕ
  pub step : ℕ → ℕ → ℕ
  pub colour : ℕ → ℕ
  pub closed : (q l : ℕ) → q < states → step q l < states

unfoldable pub walk : Graph → ℕ → List ℕ → ℕ
walk g q [] = q
walk g q (l ∷ w) = walk g (g.step q l) w

pub walk-append : (g : Graph) (q : ℕ) (x y : List ℕ) → walk g q (x ++ y) ≡ walk g (walk g q x) y
unfolding walk
walk-append g q [] y = refl
walk-append g q (l ∷ x) y = walk-append g (g.step q l) x y

pub walk_below : (g : Graph) (q : ℕ) (w : List ℕ) → q < g.states → walk g q w < g.states
unfolding walk
walk_below g q [] h = h
walk_below g q (l ∷ w) h = walk_below g (g.step q l) w (g.closed q l h)

-- the map "read the word once"
abbrev pub round : Graph → List ℕ → ℕ → ℕ
round g v q = walk g q v

pub walk-copies : (g : Graph) (n : ℕ) (v : List ℕ) (q : ℕ) → walk g q (copies n v) ≡ turns (round g v) n q
unfolding walk turns
walk-copies g zero v q = refl
walk-copies g (suc n) v q = walk-append g q v (copies n v) ∙ walk-copies g n v (walk g q v)

pub record Reaches (g : Graph) (p q : ℕ) : Type 0 where
  pub word : List ℕ
  pub leads : walk g p word ≡ q

pub record Looping (g : Graph) (q : ℕ) : Type 0 where
  pub letter : ℕ
  pub word : List ℕ
  pub leads : walk g q (letter ∷ word) ≡ q

unfoldable pub IsWeak : Graph → Type 0
IsWeak g = (p q : ℕ) → p < g.states → q < g.states → Looping g p → Looping g q → Reaches g p q → Reaches g q p → g.colour p ≡ g.colour q

-- acceptance of (stem, cycle) from a state
unfoldable pub accept : Graph → ℕ → List ℕ → List ℕ → ℕ
accept g q u v = g.colour (turns (round g v) g.states (walk g q u))

pub stays : (g : Graph) (q l : ℕ) (v : List ℕ) (n : ℕ) → walk g q (l ∷ v) ≡ q → turns (round g (l ∷ v)) n q ≡ q
unfolding turns
stays g q l v zero e = refl
stays g q l v (suc n) e = ap (turns (round g (l ∷ v)) n) e ∙ stays g q l v n e

-- letters renamed, as when an operand reads its tracks of a letter
unfoldable pub renamed : (ℕ → ℕ) → List ℕ → List ℕ
renamed f [] = []
renamed f (l ∷ w) = f l ∷ renamed f w

-- a nonempty word, spelled as a letter and a word
pub record Spelled (x : List ℕ) : Type 0 where
  pub letter : ℕ
  pub word : List ℕ
  pub is : x ≡ letter ∷ word

pub spell : (x : List ℕ) (l : ℕ) (y : List ℕ) → Spelled (x ++ (l ∷ y))
spell [] l y = record { letter = l; word = y; is = refl }
spell (b ∷ x) l y = record { letter = b; word = x ++ (l ∷ y); is = refl }

pub loop_from : (g : Graph) (q : ℕ) (x : List ℕ) (l : ℕ) (y : List ℕ) → walk g q (x ++ (l ∷ y)) ≡ q → Looping g q
loop_from g q x l y e = let s = spell x l y in record { letter = s.letter; word = s.word; leads = ap (λ w. walk g q w) (sym s.is) ∙ e }

pub fixed : (g : Graph) (q : ℕ) (v : List ℕ) (n : ℕ) → walk g q v ≡ q → walk g q (copies n v) ≡ q
unfolding walk
fixed g q v zero e = refl
fixed g q v (suc n) e = walk-append g q v (copies n v) ∙ ap (λ x. walk g x (copies n v)) e ∙ fixed g q v n e
