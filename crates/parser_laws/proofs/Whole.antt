-- A language up to the end of the list: what each answer says, and that it says it exactly.
use Rattle.std.proofs.Common.{◌≡◌, ℕ, zero, suc, ◌+◌, ◌-◌, ◌≤◌, ◌<◌, List, [], ◌∷◌, ◌++◌, length, take, arith, refl, ◌∙◌, sym, ap, subst, length-append}
use Rattle.std.proofs.lemmas.Bool.{false≢true}
use Rattle.std.proofs.Math.Seq.{take-append-add}
use Rattle.parser_laws.specs.Parsing.{Halt, Syntax, Nesting, Res, done, halt, Pair, res_map, shift, pair_with, then_second, Lang, both, at_end, never, finish, whole, whole_of}
use Rattle.parser_laws.specs.Places.{Fits, FitsWithin, IsRead, IsSyntaxAt, IsNestingAt}
use Rattle.parser_laws.proofs.Good.{weight, Agree, Stops, Covers, Good, agree_less, not_halt, not_done, same_rest, same_place, same_cause}
use Rattle.parser_laws.proofs.Choice.{map_good}
use Rattle.parser_laws.proofs.Parts.{same_head, head_of, not_none}
use Rattle.parser_laws.proofs.Langs.{Ok, both_ok}

finish_ok : {T : Type 0} → Ok (finish {T = T})
unfolding head_of
finish_ok {T = T} n = record { reads = reads; inside = λ ts a rest w e. tt; begins = λ ts h k w e l. absurd (omega (arith, l, at_first ts h k e)); opens = λ ts k w e. absurd (no_nesting ts k e); bound = λ ts h k w e. omega (arith, at_first ts h k e, ap weight (is_syntax ts h k e)); forced = λ ts a rest b z w e s y. refl; dead = λ ts h k b z w e v s y. dead ts h k z e s y }
  where
    is_nesting : Halt → Type 0
    is_nesting Syntax = ⊥
    is_nesting Nesting = Unit

    reads : (ts : List T) (a : Unit) (rest : List T) → length ts ≤ n → at_end ts ≡ done a rest → ts ≡ [] ++ rest
    reads [] a rest w e = same_rest tt a [] rest e
    reads (t ∷ ts) a rest w e = absurd (not_done a rest Syntax 0 e)

    at_first : (ts : List T) (h : Halt) (k : ℕ) → at_end ts ≡ halt h k → k ≡ 0
    at_first [] h k e = absurd (not_halt tt [] h k e)
    at_first (t ∷ ts) h k e = sym (same_place {T = T} {A = Unit} Syntax h 0 k e)

    is_syntax : (ts : List T) (h : Halt) (k : ℕ) → at_end ts ≡ halt h k → h ≡ Syntax
    is_syntax [] h k e = absurd (not_halt tt [] h k e)
    is_syntax (t ∷ ts) h k e = sym (same_cause {T = T} {A = Unit} Syntax h 0 k e)

    no_nesting : (ts : List T) (k : ℕ) → at_end ts ≡ halt Nesting k → ⊥
    no_nesting [] k e = not_halt tt [] Nesting k e
    no_nesting (t ∷ ts) k e = subst is_nesting (sym (same_cause {T = T} {A = Unit} Syntax Nesting 0 k e)) tt

    dead : (ts : List T) (h : Halt) (k : ℕ) (z : List T) → at_end ts ≡ halt h k → Stops never z → Agree (k + 1) ts ([] ++ z) → ⊥
    dead [] h k z e s y = not_halt tt [] h k e
    dead (t ∷ ts) h k [] e s y = not_none t (sym (same_head k (t ∷ ts) [] y))
    dead (t ∷ ts) h k (u ∷ z) e s y = false≢true s

whole_back : {A : Type 0} → A → Pair A Unit
whole_back a = record { left = a; right = tt }

pub whole_ok : {T : Type 0} (L : Lang T) → Ok L → Ok (whole L)
unfolding whole_back
whole_ok {T = T} L h n = map_good (both L finish).toks L.toks (both L finish).In L.In never n (both L finish).parse whole_of whole_back (both_ok L finish h finish_ok tt tt (λ b z s. meets z s) n) (record { back = λ b. refl; toks = λ x. sym (right_nil (L.toks x.left)); into = λ x i. i.0; out = λ b i. (i, tt) })
  where
    right_nil : (xs : List T) → xs ++ [] ≡ xs
    right_nil [] = refl
    right_nil (x ∷ xs) = ap (λ y. x ∷ y) (right_nil xs)

    meets : (z : List T) → Stops never z → Stops L.stop z
    meets [] s = tt
    meets (t ∷ z) s = absurd (false≢true s)

right_nil : {T : Type 0} (xs : List T) → xs ++ [] ≡ xs
right_nil [] = refl
right_nil (x ∷ xs) = ap (λ y. x ∷ y) (right_nil xs)

length_take : {T : Type 0} (k : ℕ) (xs : List T) → k ≤ length xs → length (take k xs) ≡ k
length_take zero xs h = refl
length_take (suc k) [] h = absurd (omega (arith, h))
length_take (suc k) (x ∷ xs) h = ap suc (length_take k xs (omega (arith, h)))

-- what begins with the first k tokens agrees with them
front_agrees : {T : Type 0} (k : ℕ) (ts xs more : List T) → k ≤ length ts → xs ≡ take k ts ++ more → take k ts ≡ take k xs
front_agrees k ts xs more h e = sym (ap (take k) e ∙ ap (λ i. take i (take k ts ++ more)) (omega (arith, length_take k ts h)) ∙ take-append-add (take k ts) more 0 ∙ right_nil (take k ts))

zero_agrees : {T : Type 0} (xs ys : List T) → take 0 xs ≡ take 0 ys
zero_agrees xs ys = refl

empty_end : {T : Type 0} (ts : List T) (u : Unit) (rest : List T) → at_end ts ≡ done u rest → rest ≡ []
empty_end [] u rest e = sym (same_rest tt u [] rest e)
empty_end (t ∷ ts) u rest e = absurd (not_done u rest Syntax 0 e)

-- what each answer says
pub syntax_says : {T : Type 0} (L : Lang T) → Ok L → (any : L.Tree) → L.In any → (ts : List T) (k : ℕ) → L.parse ts ≡ halt Syntax k → IsSyntaxAt L ts k
unfolding Covers Agree
syntax_says {T = T} L ok any inside ts k e = record { before = by k e (omega (arith, g.bound ts Syntax k (omega arith) e)); excluded = λ b. g.dead ts Syntax k b.0 [] (omega arith) e tt tt (b.1 ∙ ap (take (k + 1)) (sym (right_nil (L.toks b.0)))) }
  where
    g : Good L.Tree L.toks L.In L.stop (length ts) L.parse
    g = ok (length ts)

    by : (k : ℕ) → L.parse ts ≡ halt Syntax k → k ≤ length ts → FitsWithin L k ts
    by zero e b = (any, inside, refl)
    by (suc k) e b = let x = g.begins ts Syntax (suc k) (omega arith) e (omega arith) in (x.0, x.1, front_agrees (suc k) ts (L.toks x.0) x.2.0 b x.2.1)

pub nesting_says : {T : Type 0} (L : Lang T) → Ok L → (any : L.Tree) → L.In any → (ts : List T) (k : ℕ) → L.parse ts ≡ halt Nesting k → IsNestingAt L ts k
unfolding Covers Agree
nesting_says {T = T} L ok any inside ts k e = record { before = by k e (omega (arith, g.bound ts Nesting k (omega arith) e)); goes_on = let x = g.opens ts k (omega arith) e in (x.0, front_agrees (k + 1) ts (L.toks x.0) x.1.0 (omega (arith, g.bound ts Nesting k (omega arith) e)) x.1.1); excluded = λ b. g.dead ts Nesting k b.0 [] (omega arith) e b.1 tt (b.2 ∙ ap (take (k + 1)) (sym (right_nil (L.toks b.0)))) }
  where
    g : Good L.Tree L.toks L.In L.stop (length ts) L.parse
    g = ok (length ts)

    by : (k : ℕ) → L.parse ts ≡ halt Nesting k → k ≤ length ts → FitsWithin L k ts
    by zero e b = (any, inside, refl)
    by (suc k) e b = let x = g.begins ts Nesting (suc k) (omega arith) e (omega arith) in (x.0, x.1, front_agrees (suc k) ts (L.toks x.0) x.2.0 b x.2.1)

-- the parser of the whole leaves nothing
nothing_left : {T A : Type 0} (n : ℕ) (r : Res T A) (ab : Pair A Unit) (rest : List T) → then_second n at_end r ≡ done ab rest → rest ≡ []
nothing_left {T = T} {A = A} n (done a middle) ab rest e = by middle (n - length middle) e
  where
    by : (m : List T) (i : ℕ) → pair_with a (shift i (at_end m)) ≡ done ab rest → rest ≡ []
    by [] i e = sym (same_rest (record { left = a; right = tt }) ab [] rest e)
    by (t ∷ m) i e = absurd (not_done ab rest Syntax (i + 0) e)
nothing_left n (halt h k) ab rest e = absurd (not_done ab rest h k e)

unwhole : {T A : Type 0} (r : Res T (Pair A Unit)) (a : A) (rest : List T) → res_map whole_of r ≡ done a rest → (ab : Pair A Unit) × (r ≡ done ab rest)
unwhole (done x m) a rest e = (x, ap (λ i. done x i) (same_rest (x.left) a m rest e))
unwhole (halt h k) a rest e = absurd (not_done a rest h k e)

pub read_all : {T : Type 0} (L : Lang T) → Ok (whole L) → (ts : List T) (a : L.Tree) (rest : List T) → (whole L).parse ts ≡ done a rest → ts ≡ L.toks a
read_all {T = T} L ok ts a rest e = (ok (length ts)).reads ts a rest (omega arith) e ∙ ap (λ x. L.toks a ++ x) (let x = unwhole ((both L finish).parse ts) a rest e in nothing_left (length ts) (L.parse ts) x.0 rest x.1) ∙ right_nil (L.toks a)

pub read_says : {T : Type 0} (L : Lang T) → Ok (whole L) → (ts : List T) (a : L.Tree) (rest : List T) → (whole L).parse ts ≡ done a rest → IsRead (whole L) ts a
read_says L ok ts a rest e = record { spelled = read_all L ok ts a rest e; within = (ok (length ts)).inside ts a rest (omega arith) e }

pub complete : {T : Type 0} (L : Lang T) → Ok L → (a : L.Tree) → L.In a → L.parse (L.toks a) ≡ done a []
unfolding Covers Agree
complete {T = T} L ok a inside = by (L.parse (L.toks a)) refl
  where
    g : Good L.Tree L.toks L.In L.stop (length (L.toks a)) L.parse
    g = ok (length (L.toks a))

    covers : (h : Halt) → Covers h (L.In a)
    covers Syntax = tt
    covers Nesting = inside

    nothing : (xs rest : List T) → xs ≡ xs ++ rest → rest ≡ []
    nothing xs [] e = refl
    nothing xs (t ∷ rest) e = absurd (omega (arith, ap length e, length-append xs (t ∷ rest)))

    by : (r : Res T L.Tree) → L.parse (L.toks a) ≡ r → r ≡ done a []
    by (done b rest) e = let s : b ≡ a = g.forced (L.toks a) b rest a [] (omega arith) e tt (ap (take (length (L.toks b) + 1)) (sym (right_nil (L.toks a)))) in ap (λ x. done x rest) s ∙ ap (λ x. done a x) (nothing (L.toks a) rest (g.reads (L.toks a) b rest (omega arith) e ∙ ap (λ x. L.toks x ++ rest) s))
    by (halt h k) e = absurd (g.dead (L.toks a) h k a [] (omega arith) e (covers h) tt (ap (take (k + 1)) (sym (right_nil (L.toks a)))))

-- the three cases exclude one another, and each has one place
fits : {T : Type 0} (L : Lang T) (m n : ℕ) (ts : List T) → m ≤ n → FitsWithin L n ts → FitsWithin L m ts
unfolding Agree
fits L m n ts h x = (x.0, x.1, agree_less m n ts (L.toks x.0) h x.2)

fits_any : {T : Type 0} (L : Lang T) (m n : ℕ) (ts : List T) → m ≤ n → Fits L n ts → Fits L m ts
unfolding Agree
fits_any L m n ts h x = (x.0, agree_less m n ts (L.toks x.0) h x.1)

forget : {T : Type 0} (L : Lang T) (m : ℕ) (ts : List T) → FitsWithin L m ts → Fits L m ts
forget L m ts x = (x.0, x.2)

data Order (j k : ℕ) : Type 0 where
  below : j < k → Order j k
  same : j ≡ k → Order j k
  above : k < j → Order j k

order : (j k : ℕ) → Order j k
order zero zero = same refl
order zero (suc k) = below (omega arith)
order (suc j) zero = above (omega arith)
order (suc j) (suc k) = by (order j k)
  where
    by : Order j k → Order (suc j) (suc k)
    by (below h) = below (omega (arith, h))
    by (same h) = same (ap suc h)
    by (above h) = above (omega (arith, h))

-- the parser of the whole answers Syntax exactly at the place of the error
pub syntax_exact : {T : Type 0} (L : Lang T) → Ok (whole L) → (any : L.Tree) → L.In any → (ts : List T) (k : ℕ) → IsSyntaxAt (whole L) ts k → (whole L).parse ts ≡ halt Syntax k
unfolding Agree
syntax_exact {T = T} L ok any inside ts k x = by ((whole L).parse ts) refl
  where
    by : (r : Res T L.Tree) → (whole L).parse ts ≡ r → r ≡ halt Syntax k
    by (done a rest) e = absurd (x.excluded (a, ap (take (k + 1)) (read_all L ok ts a rest e)))
    by (halt Syntax j) e = at (order j k) (syntax_says (whole L) ok any inside ts j e)
      where
        at : Order j k → IsSyntaxAt (whole L) ts j → ◌≡◌ {A = Res T L.Tree} (halt Syntax j) (halt Syntax k)
        at (below h) y = absurd (y.excluded (fits_any (whole L) (j + 1) k ts (omega (arith, h)) (forget (whole L) k ts x.before)))
        at (same h) y = ap (λ i. halt Syntax i) h
        at (above h) y = absurd (x.excluded (fits_any (whole L) (k + 1) j ts (omega (arith, h)) (forget (whole L) j ts y.before)))
    by (halt Nesting j) e = at (order j k) (nesting_says (whole L) ok any inside ts j e)
      where
        at : Order j k → IsNestingAt (whole L) ts j → ◌≡◌ {A = Res T L.Tree} (halt Nesting j) (halt Syntax k)
        at (below h) y = absurd (y.excluded (fits (whole L) (j + 1) k ts (omega (arith, h)) x.before))
        at (same h) y = absurd (x.excluded (fits_any (whole L) (k + 1) (j + 1) ts (omega (arith, h)) y.goes_on))
        at (above h) y = absurd (x.excluded (fits_any (whole L) (k + 1) (j + 1) ts (omega (arith, h)) y.goes_on))

pub nesting_exact : {T : Type 0} (L : Lang T) → Ok (whole L) → (any : L.Tree) → L.In any → (ts : List T) (k : ℕ) → IsNestingAt (whole L) ts k → (whole L).parse ts ≡ halt Nesting k
unfolding Agree
nesting_exact {T = T} L ok any inside ts k x = by ((whole L).parse ts) refl
  where
    by : (r : Res T L.Tree) → (whole L).parse ts ≡ r → r ≡ halt Nesting k
    by (done a rest) e = absurd (x.excluded (a, (ok (length ts)).inside ts a rest (omega arith) e, ap (take (k + 1)) (read_all L ok ts a rest e)))
    by (halt Syntax j) e = at (order j k) (syntax_says (whole L) ok any inside ts j e)
      where
        at : Order j k → IsSyntaxAt (whole L) ts j → ◌≡◌ {A = Res T L.Tree} (halt Syntax j) (halt Nesting k)
        at (below h) y = absurd (y.excluded (fits_any (whole L) (j + 1) (k + 1) ts (omega (arith, h)) x.goes_on))
        at (same h) y = absurd (y.excluded (fits_any (whole L) (j + 1) (k + 1) ts (omega (arith, h)) x.goes_on))
        at (above h) y = absurd (x.excluded (fits (whole L) (k + 1) j ts (omega (arith, h)) y.before))
    by (halt Nesting j) e = at (order j k) (nesting_says (whole L) ok any inside ts j e)
      where
        at : Order j k → IsNestingAt (whole L) ts j → ◌≡◌ {A = Res T L.Tree} (halt Nesting j) (halt Nesting k)
        at (below h) y = absurd (y.excluded (fits (whole L) (j + 1) k ts (omega (arith, h)) x.before))
        at (same h) y = ap (λ i. halt Nesting i) h
        at (above h) y = absurd (x.excluded (fits (whole L) (k + 1) j ts (omega (arith, h)) y.before))
