-- Parsers that look at one token, as functions, and how they are put together.
use Rattle.std.specs.Prelude.{ℕ, zero, suc, ◌+◌, ◌-◌, List, [], ◌∷◌, ◌++◌, length, Option, None, Some}
use mathlib.Core.Bool.{Bool, true, false}

-- why a parser stops: no tree goes on with this token, or it opens one group too many
pub data Halt : Type 0 where
  Syntax : Halt
  Nesting : Halt

-- a tree and what is left, or the place of the token at which the parser stops, counted from where it began
pub data Res (T A : Type 0) : Type 0 where
  done : A → List T → Res T A
  halt : Halt → ℕ → Res T A

pub data Either (A B : Type 0) : Type 0 where
  first : A → Either A B
  other : B → Either A B

pub record Pair (A B : Type 0) : Type 0 where
  pub left : A
  pub right : B

abbrev pub pick : {B : Type 0} → Bool → B → B → B
pick true r s = r
pick false r s = s

abbrev pub starts_with : {T : Type 0} → (T → Bool) → List T → Bool
starts_with starts [] = false
starts_with starts (t ∷ ts) = starts t

abbrev pub res_map : {T A B : Type 0} → (A → B) → Res T A → Res T B
res_map f (done a rest) = done (f a) rest
res_map f (halt h k) = halt h k

abbrev pub shift : {T A : Type 0} → ℕ → Res T A → Res T A
shift n (done a rest) = done a rest
shift n (halt h k) = halt h (n + k)

abbrev pub pair_with : {T A B : Type 0} → A → Res T B → Res T (Pair A B)
pair_with a (done b rest) = done (record { left = a; right = b }) rest
pair_with a (halt h k) = halt h k

abbrev pub then_second : {T A B : Type 0} → ℕ → (List T → Res T B) → Res T A → Res T (Pair A B)
then_second n q (done a rest) = pair_with a (shift (n - length rest) (q rest))
then_second n q (halt h k) = halt h k

-- one after the other
abbrev pub seq : {T A B : Type 0} → (List T → Res T A) → (List T → Res T B) → List T → Res T (Pair A B)
seq p q ts = then_second (length ts) q (p ts)

abbrev pub one_of : {T A : Type 0} → Option A → List T → Res T A
one_of None ts = halt Syntax 0
one_of (Some a) ts = done a ts

-- one token
abbrev pub one : {T A : Type 0} → (T → Option A) → List T → Res T A
one view [] = halt Syntax 0
one view (t ∷ ts) = one_of (view t) ts

-- by the first token
abbrev pub choice : {T A B : Type 0} → (T → Bool) → (List T → Res T A) → (List T → Res T B) → List T → Res T (Either A B)
choice starts p q ts = pick (starts_with starts ts) (res_map first (p ts)) (res_map other (q ts))

abbrev pub none : {T : Type 0} → List T → Res T Unit
none ts = done tt ts

abbrev pub list_of : {A : Type 0} → Either (Pair A (List A)) Unit → List A
list_of (first x) = x.left ∷ x.right
list_of (other x) = []

-- items as long as one begins; the number bounds how many
abbrev pub many : {T A : Type 0} → (T → Bool) → (List T → Res T A) → ℕ → List T → Res T (List A)
many starts p zero ts = done [] ts
many starts p (suc n) ts = res_map list_of (choice starts (seq p (many starts p n)) none ts)

-- a group: there has to be room for one more
abbrev pub gate : {T A L : Type 0} → (T → Bool) → (L → List T → Res T A) → Option L → List T → Res T A
gate starts p None ts = pick (starts_with starts ts) (halt Nesting 0) (halt Syntax 0)
gate starts p (Some l) ts = p l ts

abbrev pub pair_toks : {T A B : Type 0} → (A → List T) → (B → List T) → Pair A B → List T
pair_toks ta tb ab = ta ab.left ++ tb ab.right

abbrev pub pair_in : {A B : Type 0} → (A → Type 0) → (B → Type 0) → Pair A B → Type 0
pair_in ia ib ab = ia ab.left × ib ab.right

abbrev pub sum_toks : {T A B : Type 0} → (A → List T) → (B → List T) → Either A B → List T
sum_toks ta tb (first a) = ta a
sum_toks ta tb (other b) = tb b

abbrev pub sum_in : {A B : Type 0} → (A → Type 0) → (B → Type 0) → Either A B → Type 0
sum_in ia ib (first a) = ia a
sum_in ia ib (other b) = ib b

abbrev pub all_toks : {T A : Type 0} → (A → List T) → List A → List T
all_toks ta [] = []
all_toks ta (a ∷ l) = ta a ++ all_toks ta l

abbrev pub all_in : {A : Type 0} → (A → Type 0) → List A → Type 0
all_in ia [] = Unit
all_in ia (a ∷ l) = ia a × all_in ia l

abbrev pub anything : {A : Type 0} → A → Type 0
anything a = Unit

-- a parser with its trees, their tokens, those within the nesting, and the tokens that never go on
pub record Lang (T : Type 0) : Type 1 where
  pub Tree : Type 0
  pub toks : Tree → List T
  pub In : Tree → Type 0
  pub stop : T → Bool
  pub parse : List T → Res T Tree

abbrev pub seen_in : {A : Type 0} → Option A → Bool
seen_in None = false
seen_in (Some a) = true

-- the tokens that a view sees
abbrev pub seen : {T A : Type 0} → (T → Option A) → T → Bool
seen view t = seen_in (view t)

abbrev pub always : {T : Type 0} → T → Bool
always t = true

-- what stops, and begins no more
abbrev pub beyond : {T : Type 0} → (T → Bool) → (T → Bool) → T → Bool
beyond starts stop t = pick (starts t) false (stop t)

abbrev pub token : {T A : Type 0} → (T → Option A) → (A → T) → Lang T
token {T = T} {A = A} view mk = record { Tree = A; toks = λ a. mk a ∷ []; In = anything; stop = always; parse = one view }

abbrev pub both : {T : Type 0} → Lang T → Lang T → Lang T
both A B = record { Tree = Pair A.Tree B.Tree; toks = pair_toks A.toks B.toks; In = pair_in A.In B.In; stop = B.stop; parse = seq A.parse B.parse }

abbrev pub either : {T : Type 0} → (T → Bool) → Lang T → Lang T → Lang T
either starts A B = record { Tree = Either A.Tree B.Tree; toks = sum_toks A.toks B.toks; In = sum_in A.In B.In; stop = B.stop; parse = choice starts A.parse B.parse }

abbrev pub perhaps : {T : Type 0} → (T → Bool) → Lang T → Lang T
perhaps starts A = record { Tree = Either A.Tree Unit; toks = sum_toks A.toks (λ u. []); In = sum_in A.In anything; stop = beyond starts A.stop; parse = choice starts A.parse none }

abbrev pub items : {T : Type 0} → (T → Bool) → Lang T → Lang T
items starts A = record { Tree = List A.Tree; toks = all_toks A.toks; In = all_in A.In; stop = beyond starts A.stop; parse = λ ts. many starts A.parse (length ts) ts }

-- the same with a stronger stop
abbrev pub until : {T : Type 0} → (T → Bool) → Lang T → Lang T
until s L = record { Tree = L.Tree; toks = L.toks; In = L.In; stop = s; parse = L.parse }

-- the same with trees of another shape
abbrev pub shaped : {T B : Type 0} (L : Lang T) → (L.Tree → B) → (B → List T) → (B → Type 0) → Lang T
shaped {B = B} L f tb ib = record { Tree = B; toks = tb; In = ib; stop = L.stop; parse = λ ts. res_map f (L.parse ts) }

-- the end of the list
abbrev pub at_end : {T : Type 0} → List T → Res T Unit
at_end [] = done tt []
at_end (t ∷ ts) = halt Syntax 0

abbrev pub never : {T : Type 0} → T → Bool
never t = false

abbrev pub finish : {T : Type 0} → Lang T
finish {T = T} = record { Tree = Unit; toks = λ u. []; In = anything; stop = never; parse = at_end }

abbrev pub whole_of : {A : Type 0} → Pair A Unit → A
whole_of x = x.left

-- a tree and nothing after it
abbrev pub whole : {T : Type 0} → Lang T → Lang T
whole L = shaped (both L finish) whole_of L.toks L.In
