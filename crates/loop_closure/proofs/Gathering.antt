-- Lists that are gathered, and formulas that are joined.
use Rattle.std.proofs.Common.{◌≡◌, ℕ, zero, suc, ◌+◌, ◌*◌, ◌≤◌, ◌<◌, List, [], ◌∷◌, ◌++◌, length, length-append, arith, refl}
use Rattle.std.specs.List.{AllByRecursion}
use Rattle.lash_model.specs.Formulas.{Formula}
use Rattle.formula_core.specs.Counts.{nodes_of}
use Rattle.loop_laws.specs.Closures.{gathered, joined_to, joined}

-- the nodes of the formulas, and one for each
abbrev pub list_nodes : List Formula → ℕ
list_nodes [] = 0
list_nodes (f ∷ fs) = nodes_of f + 1 + list_nodes fs

pub nodes_append : (fs gs : List Formula) → list_nodes (fs ++ gs) ≡ list_nodes fs + list_nodes gs
nodes_append [] gs = omega arith
nodes_append (f ∷ fs) gs = omega (arith, nodes_append fs gs)

pub nodes_gathered : (f : ℕ → List Formula) (n c : ℕ) → ((i : ℕ) → i < n → list_nodes (f i) ≡ c) → list_nodes (gathered f n) ≡ n * c
unfolding gathered
nodes_gathered f zero c h = omega arith
nodes_gathered f (suc n) c h = omega (arith, nodes_append (gathered f n) (f n), nodes_gathered f n c (λ i lt. h i (omega (arith, lt))), h n (omega arith))

-- joining takes one node for two formulas
abbrev pub IsJoining : (Formula → Formula → Formula) → Type 0
IsJoining op = (f g : Formula) → nodes_of (op f g) ≡ nodes_of f + nodes_of g + 1

nodes_joined_to : (op : Formula → Formula → Formula) → IsJoining op → (f : Formula) (gs : List Formula) → nodes_of (joined_to op f gs) ≡ nodes_of f + list_nodes gs
unfolding joined_to
nodes_joined_to op h f [] = omega arith
nodes_joined_to op h f (g ∷ gs) = omega (arith, nodes_joined_to op h (op f g) gs, h f g)

pub nodes_joined : (op : Formula → Formula → Formula) → IsJoining op → (fs : List Formula) → 1 ≤ list_nodes fs → nodes_of (joined op fs) + 1 ≡ list_nodes fs
nodes_joined op h [] some = absurd (omega (arith, some))
nodes_joined op h (f ∷ fs) some = omega (arith, nodes_joined_to op h f fs)

-- what two formulas have, they have joined
abbrev pub Keeps : (Formula → Type 0) → (Formula → Formula → Formula) → Type 0
Keeps P op = (f g : Formula) → P f → P g → P (op f g)

keeps_to : (P : Formula → Type 0) (op : Formula → Formula → Formula) → Keeps P op → (f : Formula) (gs : List Formula) → P f → AllByRecursion P gs → P (joined_to op f gs)
unfolding joined_to
keeps_to P op h f [] one all = one
keeps_to P op h f (g ∷ gs) one all = keeps_to P op h (op f g) gs (h f g one all.0) all.1

pub joined_keeps : (P : Formula → Type 0) (op : Formula → Formula → Formula) → Keeps P op → (fs : List Formula) → 1 ≤ list_nodes fs → AllByRecursion P fs → P (joined op fs)
joined_keeps P op h [] some all = absurd (omega (arith, some))
joined_keeps P op h (f ∷ fs) some all = keeps_to P op h f fs all.0 all.1

pub all_append : {A : Type 0} (P : A → Type 0) (xs ys : List A) → AllByRecursion P xs → AllByRecursion P ys → AllByRecursion P (xs ++ ys)
all_append P [] ys h k = k
all_append P (x ∷ xs) ys h k = (h.0, all_append P xs ys h.1 k)

pub all_gathered : {A : Type 0} (P : A → Type 0) (f : ℕ → List A) (n : ℕ) → ((i : ℕ) → i < n → AllByRecursion P (f i)) → AllByRecursion P (gathered f n)
unfolding gathered
all_gathered P f zero h = tt
all_gathered P f (suc n) h = all_append P (gathered f n) (f n) (all_gathered P f n (λ i lt. h i (omega (arith, lt)))) (h n (omega arith))

pub one_each : {A : Type 0} (f : ℕ → A) (n : ℕ) → length (gathered (λ i. f i ∷ []) n) ≡ n
unfolding gathered
one_each f zero = refl
one_each f (suc n) = omega (arith, length-append (gathered (λ i. f i ∷ []) n) (f n ∷ []), one_each f n)
