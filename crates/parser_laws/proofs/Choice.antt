-- A choice by the first token, and another shape of the trees.
use Rattle.std.proofs.Common.{◌≡◌, ℕ, ◌+◌, ◌≤◌, ◌<◌, List, [], ◌∷◌, ◌++◌, length, take, arith, refl, ◌∙◌, sym, ap, subst}
use mathlib.Core.Bool.{Bool, true, false}
use Rattle.std.specs.Prelude.{IsTrue}
use Rattle.std.proofs.lemmas.Bool.{false≢true}
use Rattle.parser_laws.specs.Parsing.{Halt, Syntax, Nesting, Res, done, halt, Either, first, other, pick, starts_with, res_map, choice, sum_toks, sum_in}
use Rattle.parser_laws.proofs.Good.{weight, Agree, Stops, Covers, Good, agree_less, covers_map, not_halt, not_done, same_value, same_rest, same_halt}

first_back : {T A B : Type 0} → Res T (Either A B) → Res T A
first_back (done (first a) rest) = done a rest
first_back (done (other b) rest) = halt Syntax 0
first_back (halt h k) = halt h k

other_back : {T A B : Type 0} → Res T (Either A B) → Res T B
other_back (done (first a) rest) = halt Syntax 0
other_back (done (other b) rest) = done b rest
other_back (halt h k) = halt h k

is_first : {T A B : Type 0} → Res T (Either A B) → Type 0
is_first (done (first a) rest) = Unit
is_first (done (other b) rest) = ⊥
is_first (halt h k) = ⊥

choice_first : {T A B : Type 0} (c : Bool) (r : Res T A) (s : Res T B) (a : A) (rest : List T) → pick c (res_map first r) (res_map other s) ≡ done (first a) rest → (c ≡ true) × (r ≡ done a rest)
unfolding first_back is_first
choice_first true (done b m) s a rest e = (refl, ap first_back e)
choice_first true (halt h k) s a rest e = absurd (not_done (first a) rest h k e)
choice_first false r (done b m) a rest e = absurd (subst is_first (sym e) tt)
choice_first false r (halt h k) a rest e = absurd (not_done (first a) rest h k e)

choice_other : {T A B : Type 0} (c : Bool) (r : Res T A) (s : Res T B) (b : B) (rest : List T) → pick c (res_map first r) (res_map other s) ≡ done (other b) rest → (c ≡ false) × (s ≡ done b rest)
unfolding other_back is_first
choice_other false r (done b m) a rest e = (refl, ap other_back e)
choice_other false r (halt h k) a rest e = absurd (not_done (other a) rest h k e)
choice_other true (done b m) s a rest e = absurd (subst is_first e tt)
choice_other true (halt h k) s a rest e = absurd (not_done (other a) rest h k e)

choice_halt : {T A B : Type 0} (c : Bool) (r : Res T A) (s : Res T B) (h : Halt) (k : ℕ) → pick c (res_map first r) (res_map other s) ≡ halt h k → Either ((c ≡ true) × (r ≡ halt h k)) ((c ≡ false) × (s ≡ halt h k))
choice_halt true (done b m) s h k e = absurd (not_halt (first b) m h k e)
choice_halt {A = A} {B = B} true (halt g j) s h k e = first (refl, same_halt {A = Either A B} g h j k e)
choice_halt false r (done b m) h k e = absurd (not_halt (other b) m h k e)
choice_halt {A = A} {B = B} false r (halt g j) h k e = other (refl, same_halt {A = Either A B} g h j k e)

start_one : {T : Type 0} (starts : T → Bool) (xs : List T) → starts_with starts (take 1 xs) ≡ starts_with starts xs
start_one starts [] = refl
start_one starts (t ∷ xs) = refl

pub same_start : {T : Type 0} (starts : T → Bool) (k : ℕ) (xs ys : List T) → Agree (k + 1) xs ys → starts_with starts xs ≡ starts_with starts ys
unfolding Agree
same_start starts k xs ys e = sym (start_one starts xs) ∙ ap (starts_with starts) (agree_less 1 (k + 1) xs ys (omega arith) e) ∙ start_one starts ys

pub true_is_not_false : (c : Bool) → c ≡ true → c ≡ false → ⊥
true_is_not_false c e f = false≢true (sym f ∙ e)

-- how the trees of the two alternatives begin
pub record Apart {T A B : Type 0} (ta : A → List T) (tb : B → List T) (s starts : T → Bool) : Type 0 where
  pub heads : (a : A) (z : List T) → starts_with starts (ta a ++ z) ≡ true
  pub others : (b : B) (z : List T) → Stops s z → starts_with starts (tb b ++ z) ≡ false

pub choice_good : {T A B : Type 0} (ta : A → List T) (tb : B → List T) (ia : A → Type 0) (ib : B → Type 0) (s starts : T → Bool) (n : ℕ) (p : List T → Res T A) (q : List T → Res T B)
    → Good A ta ia s n p → Good B tb ib s n q → Apart ta tb s starts → Good (Either A B) (sum_toks ta tb) (sum_in ia ib) s n (choice starts p q)
choice_good {T = T} {A = A} {B = B} ta tb ia ib s starts n p q gp gq c = record { reads = reads; inside = inside; begins = λ ts h k w e l. begins ts h k w (choice_halt (starts_with starts ts) (p ts) (q ts) h k e) l; opens = λ ts k w e. opens ts k w (choice_halt (starts_with starts ts) (p ts) (q ts) Nesting k e); bound = λ ts h k w e. bound ts h k w (choice_halt (starts_with starts ts) (p ts) (q ts) h k e); forced = forced; dead = λ ts h k d z w e. dead ts h k d z w (choice_halt (starts_with starts ts) (p ts) (q ts) h k e) }
  where
    E : Type 0
    E = Either A B

    of : (ts : List T) (k : ℕ) (v : Bool) (y : List T) → starts_with starts ts ≡ v → Agree (k + 1) ts y → starts_with starts y ≡ v
    of ts k v y e h = sym (same_start starts k ts y h) ∙ e

    reads : (ts : List T) (d : Either A B) (rest : List T) → length ts ≤ n → choice starts p q ts ≡ done d rest → ts ≡ sum_toks ta tb d ++ rest
    reads ts (first a) rest w e = gp.reads ts a rest w (choice_first (starts_with starts ts) (p ts) (q ts) a rest e).1
    reads ts (other b) rest w e = gq.reads ts b rest w (choice_other (starts_with starts ts) (p ts) (q ts) b rest e).1

    inside : (ts : List T) (d : Either A B) (rest : List T) → length ts ≤ n → choice starts p q ts ≡ done d rest → sum_in ia ib d
    inside ts (first a) rest w e = gp.inside ts a rest w (choice_first (starts_with starts ts) (p ts) (q ts) a rest e).1
    inside ts (other b) rest w e = gq.inside ts b rest w (choice_other (starts_with starts ts) (p ts) (q ts) b rest e).1

    begins : (ts : List T) (h : Halt) (k : ℕ) → length ts ≤ n → Either ((starts_with starts ts ≡ true) × (p ts ≡ halt h k)) ((starts_with starts ts ≡ false) × (q ts ≡ halt h k)) → 0 < k → (d : Either A B) × sum_in ia ib d × ((more : List T) × (sum_toks ta tb d ≡ take k ts ++ more))
    begins ts h k w (first e) l = let x = gp.begins ts h k w e.1 l in (first x.0, x.1, x.2)
    begins ts h k w (other e) l = let x = gq.begins ts h k w e.1 l in (other x.0, x.1, x.2)

    opens : (ts : List T) (k : ℕ) → length ts ≤ n → Either ((starts_with starts ts ≡ true) × (p ts ≡ halt Nesting k)) ((starts_with starts ts ≡ false) × (q ts ≡ halt Nesting k)) → (d : Either A B) × ((more : List T) × (sum_toks ta tb d ≡ take (k + 1) ts ++ more))
    opens ts k w (first e) = let x = gp.opens ts k w e.1 in (first x.0, x.1)
    opens ts k w (other e) = let x = gq.opens ts k w e.1 in (other x.0, x.1)

    bound : (ts : List T) (h : Halt) (k : ℕ) → length ts ≤ n → Either ((starts_with starts ts ≡ true) × (p ts ≡ halt h k)) ((starts_with starts ts ≡ false) × (q ts ≡ halt h k)) → k + weight h ≤ length ts
    bound ts h k w (first e) = gp.bound ts h k w e.1
    bound ts h k w (other e) = gq.bound ts h k w e.1

    forced : (ts : List T) (d : Either A B) (rest : List T) (f : Either A B) (z : List T) → length ts ≤ n → choice starts p q ts ≡ done d rest → Stops s z → Agree (length (sum_toks ta tb d) + 1) ts (sum_toks ta tb f ++ z) → d ≡ f
    forced ts (first a) rest (first b) z w e m h = ap first (gp.forced ts a rest b z w (choice_first (starts_with starts ts) (p ts) (q ts) a rest e).1 m h)
    forced ts (first a) rest (other b) z w e m h = absurd (true_is_not_false _ (of ts (length (ta a)) true (tb b ++ z) (choice_first (starts_with starts ts) (p ts) (q ts) a rest e).0 h) (c.others b z m))
    forced ts (other a) rest (first b) z w e m h = absurd (true_is_not_false _ (c.heads b z) (of ts (length (tb a)) false (ta b ++ z) (choice_other (starts_with starts ts) (p ts) (q ts) a rest e).0 h))
    forced ts (other a) rest (other b) z w e m h = ap other (gq.forced ts a rest b z w (choice_other (starts_with starts ts) (p ts) (q ts) a rest e).1 m h)

    dead : (ts : List T) (h : Halt) (k : ℕ) (d : Either A B) (z : List T) → length ts ≤ n → Either ((starts_with starts ts ≡ true) × (p ts ≡ halt h k)) ((starts_with starts ts ≡ false) × (q ts ≡ halt h k)) → Covers h (sum_in ia ib d) → Stops s z → Agree (k + 1) ts (sum_toks ta tb d ++ z) → ⊥
    dead ts h k (first b) z w (first e) v m y = gp.dead ts h k b z w e.1 v m y
    dead ts h k (other b) z w (first e) v m y = true_is_not_false _ (of ts k true (tb b ++ z) e.0 y) (c.others b z m)
    dead ts h k (first b) z w (other e) v m y = true_is_not_false _ (c.heads b z) (of ts k false (ta b ++ z) e.0 y)
    dead ts h k (other b) z w (other e) v m y = gq.dead ts h k b z w e.1 v m y

-- a stronger stop
pub good_stop : {T A : Type 0} (ta : A → List T) (ia : A → Type 0) (sa sb : T → Bool) (n : ℕ) (p : List T → Res T A) → Good A ta ia sa n p → ((t : T) → IsTrue (sb t) → IsTrue (sa t)) → Good A ta ia sb n p
good_stop {T = T} ta ia sa sb n p g f = record { reads = g.reads; inside = g.inside; begins = g.begins; opens = g.opens; bound = g.bound; forced = λ ts a rest b z w e s h. g.forced ts a rest b z w e (weaker z s) h; dead = λ ts h k b z w e v s y. g.dead ts h k b z w e v (weaker z s) y }
  where
    weaker : (z : List T) → Stops sb z → Stops sa z
    weaker [] s = tt
    weaker (t ∷ z) s = f t s

-- the same trees in another shape
pub record Shape {T A B : Type 0} (ta : A → List T) (tb : B → List T) (ia : A → Type 0) (ib : B → Type 0) (f : A → B) (g : B → A) : Type 0 where
  pub back : (b : B) → f (g b) ≡ b
  pub toks : (a : A) → tb (f a) ≡ ta a
  pub into : (a : A) → ia a → ib (f a)
  pub out : (b : B) → ib b → ia (g b)

map_done : {T A B : Type 0} (f : A → B) (r : Res T A) (b : B) (rest : List T) → res_map f r ≡ done b rest → (a : A) × (r ≡ done a rest) × (f a ≡ b)
map_done f (done a m) b rest e = (a, ap (λ x. done a x) (same_rest (f a) b m rest e), same_value (f a) b m rest e)
map_done f (halt h k) b rest e = absurd (not_done b rest h k e)

map_halt : {T A B : Type 0} (f : A → B) (r : Res T A) (h : Halt) (k : ℕ) → res_map f r ≡ halt h k → r ≡ halt h k
map_halt f (done a m) h k e = absurd (not_halt (f a) m h k e)
map_halt {B = B} f (halt g j) h k e = same_halt {A = B} g h j k e

pub map_good : {T A B : Type 0} (ta : A → List T) (tb : B → List T) (ia : A → Type 0) (ib : B → Type 0) (s : T → Bool) (n : ℕ) (p : List T → Res T A) (f : A → B) (g : B → A)
    → Good A ta ia s n p → Shape ta tb ia ib f g → Good B tb ib s n (λ ts. res_map f (p ts))
map_good {T = T} {A = A} {B = B} ta tb ia ib s n p f g gp c = record { reads = λ ts b rest w e. reads ts b rest w (map_done f (p ts) b rest e); inside = λ ts b rest w e. inside ts b rest w (map_done f (p ts) b rest e); begins = λ ts h k w e l. begins ts h k w (map_halt f (p ts) h k e) l; opens = λ ts k w e. opens ts k w (map_halt f (p ts) Nesting k e); bound = λ ts h k w e. gp.bound ts h k w (map_halt f (p ts) h k e); forced = λ ts b rest d z w e m h. forced ts b rest d z w (map_done f (p ts) b rest e) m h; dead = λ ts h k d z w e v m y. gp.dead ts h k (g d) z w (map_halt f (p ts) h k e) (covers_map h (c.out d) v) m (subst (λ x. Agree (k + 1) ts (x ++ z)) (spelt d) y) }
  where
    spelt : (b : B) → tb b ≡ ta (g b)
    spelt b = sym (ap tb (c.back b)) ∙ c.toks (g b)

    reads : (ts : List T) (b : B) (rest : List T) → length ts ≤ n → (a : A) × (p ts ≡ done a rest) × (f a ≡ b) → ts ≡ tb b ++ rest
    reads ts b rest w h = gp.reads ts h.0 rest w h.1 ∙ ap (λ x. x ++ rest) (sym (c.toks h.0) ∙ ap tb h.2)

    inside : (ts : List T) (b : B) (rest : List T) → length ts ≤ n → (a : A) × (p ts ≡ done a rest) × (f a ≡ b) → ib b
    inside ts b rest w h = subst ib h.2 (c.into h.0 (gp.inside ts h.0 rest w h.1))

    begins : (ts : List T) (h : Halt) (k : ℕ) → length ts ≤ n → p ts ≡ halt h k → 0 < k → (b : B) × ib b × ((more : List T) × (tb b ≡ take k ts ++ more))
    begins ts h k w e l = let x = gp.begins ts h k w e l in (f x.0, c.into x.0 x.1, (x.2.0, c.toks x.0 ∙ x.2.1))

    opens : (ts : List T) (k : ℕ) → length ts ≤ n → p ts ≡ halt Nesting k → (b : B) × ((more : List T) × (tb b ≡ take (k + 1) ts ++ more))
    opens ts k w e = let x = gp.opens ts k w e in (f x.0, (x.1.0, c.toks x.0 ∙ x.1.1))

    forced : (ts : List T) (b : B) (rest : List T) (d : B) (z : List T) → length ts ≤ n → (a : A) × (p ts ≡ done a rest) × (f a ≡ b) → Stops s z → Agree (length (tb b) + 1) ts (tb d ++ z) → b ≡ d
    forced ts b rest d z w h m y = sym h.2 ∙ ap f (gp.forced ts h.0 rest (g d) z w h.1 m (subst (λ i. Agree (i + 1) ts (ta (g d) ++ z)) (ap (λ x. length (tb x)) (sym h.2) ∙ ap length (c.toks h.0)) (subst (λ x. Agree (length (tb b) + 1) ts (x ++ z)) (spelt d) y))) ∙ c.back d
