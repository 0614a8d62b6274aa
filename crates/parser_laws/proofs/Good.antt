-- What a parser's answers say (Good), on lists of at most a given size, and how answers are told apart.
use Rattle.std.proofs.Common.{◌≡◌, ℕ, ◌+◌, ◌≤◌, ◌<◌, List, [], ◌∷◌, ◌++◌, length, take, ◌∙◌, sym, ap, subst}
use mathlib.Core.Bool.{Bool}
use Rattle.std.proofs.lemmas.List.{take-take, append_cancel_left}
use Rattle.std.proofs.Math.Seq.{take-append-add}
use Rattle.std.specs.Prelude.{IsTrue}
use Rattle.parser_laws.specs.Parsing.{Halt, Syntax, Nesting, Res, done, halt}

-- two lists agree on the first n places (and end together, if one ends before)
unfoldable pub Agree : {T : Type 0} → ℕ → List T → List T → Type 0
Agree n xs ys = take n xs ≡ take n ys

-- the list is at its end, or begins with a token that never goes on
abbrev pub Stops : {T : Type 0} → (T → Bool) → List T → Type 0
Stops stop [] = Unit
Stops stop (t ∷ ts) = IsTrue (stop t)

-- a syntax error excludes every tree; too deep a nesting those within the nesting
unfoldable pub Covers : Halt → Type 0 → Type 0
Covers Syntax X = Unit
Covers Nesting X = X

-- a token that opens a group is there
abbrev pub weight : Halt → ℕ
weight Syntax = 0
weight Nesting = 1

-- a parser with its trees, those within the nesting, and what never goes on. All this on lists of at most `size` tokens
pub record Good {T : Type 0} (A : Type 0) (toks : A → List T) (In : A → Type 0) (stop : T → Bool) (size : ℕ) (p : List T → Res T A) : Type 0 where
  pub reads : (ts : List T) (a : A) (rest : List T) → length ts ≤ size → p ts ≡ done a rest → ts ≡ toks a ++ rest
  pub inside : (ts : List T) (a : A) (rest : List T) → length ts ≤ size → p ts ≡ done a rest → In a
  pub begins : (ts : List T) (h : Halt) (k : ℕ) → length ts ≤ size → p ts ≡ halt h k → 0 < k → (a : A) × In a × ((more : List T) × (toks a ≡ take k ts ++ more))
  pub opens : (ts : List T) (k : ℕ) → length ts ≤ size → p ts ≡ halt Nesting k → (a : A) × ((more : List T) × (toks a ≡ take (k + 1) ts ++ more))
  pub bound : (ts : List T) (h : Halt) (k : ℕ) → length ts ≤ size → p ts ≡ halt h k → k + weight h ≤ length ts
  pub forced : (ts : List T) (a : A) (rest : List T) (b : A) (z : List T) → length ts ≤ size → p ts ≡ done a rest → Stops stop z → Agree (length (toks a) + 1) ts (toks b ++ z) → a ≡ b
  pub dead : (ts : List T) (h : Halt) (k : ℕ) (b : A) (z : List T) → length ts ≤ size → p ts ≡ halt h k → Covers h (In b) → Stops stop z → Agree (k + 1) ts (toks b ++ z) → ⊥

pub agree_less : {T : Type 0} (m n : ℕ) (xs ys : List T) → m ≤ n → Agree n xs ys → Agree m xs ys
unfolding Agree
agree_less m n xs ys h e = sym (take-take m n xs h) ∙ ap (take m) e ∙ take-take m n ys h

pub agree_rest : {T : Type 0} (n : ℕ) (front xs ys : List T) → Agree (length front + n) (front ++ xs) (front ++ ys) → Agree n xs ys
unfolding Agree
agree_rest n front xs ys e = append_cancel_left front (take n xs) (take n ys) (sym (take-append-add front xs n) ∙ e ∙ take-append-add front ys n)

pub covers_map : (h : Halt) {X Y : Type 0} → (X → Y) → Covers h X → Covers h Y
unfolding Covers
covers_map Syntax f x = x
covers_map Nesting f x = f x

is_done : {T A : Type 0} → Res T A → Type 0
is_done (done a rest) = Unit
is_done (halt h k) = ⊥

pub not_halt : {T A : Type 0} (a : A) (rest : List T) (h : Halt) (k : ℕ) → done a rest ≡ halt h k → ⊥
unfolding is_done
not_halt a rest h k e = subst is_done e tt

pub not_done : {T A : Type 0} (a : A) (rest : List T) (h : Halt) (k : ℕ) → halt h k ≡ done a rest → ⊥
unfolding is_done
not_done a rest h k e = subst is_done (sym e) tt

value_or : {T A : Type 0} → A → Res T A → A
value_or d (done a rest) = a
value_or d (halt h k) = d

rest_or : {T A : Type 0} → Res T A → List T
rest_or (done a rest) = rest
rest_or (halt h k) = []

place_of : {T A : Type 0} → Res T A → ℕ
place_of (done a rest) = 0
place_of (halt h k) = k

cause_of : {T A : Type 0} → Res T A → Halt
cause_of (done a rest) = Syntax
cause_of (halt h k) = h

pub same_value : {T A : Type 0} (a b : A) (rest more : List T) → done a rest ≡ done b more → a ≡ b
unfolding value_or
same_value a b rest more e = ap (λ r. value_or a r) e

pub same_rest : {T A : Type 0} (a b : A) (rest more : List T) → done a rest ≡ done b more → rest ≡ more
unfolding rest_or
same_rest a b rest more e = ap (λ r. rest_or r) e

pub same_place : {T A : Type 0} (g h : Halt) (j k : ℕ) → ◌≡◌ {A = Res T A} (halt g j) (halt h k) → j ≡ k
unfolding place_of
same_place g h j k e = ap (λ r. place_of r) e

pub same_cause : {T A : Type 0} (g h : Halt) (j k : ℕ) → ◌≡◌ {A = Res T A} (halt g j) (halt h k) → g ≡ h
unfolding cause_of
same_cause g h j k e = ap (λ r. cause_of r) e

pub same_halt : {T A B : Type 0} (g h : Halt) (j k : ℕ) → ◌≡◌ {A = Res T A} (halt g j) (halt h k) → ◌≡◌ {A = Res T B} (halt g j) (halt h k)
same_halt {A = A} g h j k e = ap (λ x. halt x j) (same_cause {A = A} g h j k e) ∙ ap (λ x. halt h x) (same_place {A = A} g h j k e)
