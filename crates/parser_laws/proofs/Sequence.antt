-- One parser after another is good.
use Rattle.std.proofs.Common.{◌≡◌, ℕ, zero, suc, ◌+◌, ◌-◌, ◌≤◌, ◌<◌, List, ◌++◌, length, take, arith, refl, ◌∙◌, sym, ap, append_assoc, length-append}
use mathlib.Core.Bool.{Bool}
use Rattle.std.proofs.Math.Seq.{take-append-add}
use Rattle.parser_laws.specs.Parsing.{Halt, Nesting, Res, done, halt, Pair, shift, pair_with, then_second, seq, pair_toks, pair_in}
use Rattle.parser_laws.proofs.Good.{Agree, Stops, Covers, Good, weight, agree_less, agree_rest, covers_map, not_halt, not_done, same_place, same_cause, same_halt}

left_or : {T A B : Type 0} → A → Res T (Pair A B) → A
left_or d (done ab rest) = ab.left
left_or d (halt h k) = d

second : {T A B : Type 0} → Res T (Pair A B) → Res T B
second (done ab rest) = done ab.right rest
second (halt h k) = halt h k

record BothDone {T A B : Type 0} (q : List T → Res T B) (r : Res T A) (ab : Pair A B) (rest : List T) : Type 0 where
  middle : List T
  first_part : r ≡ done ab.left middle
  next : q middle ≡ done ab.right rest

data OneHalts {T A B : Type 0} (ta : A → List T) (q : List T → Res T B) (r : Res T A) (h : Halt) (k : ℕ) : Type 0 where
  early : r ≡ halt h k → OneHalts ta q r h k
  late : (a : A) (middle : List T) (j : ℕ) → r ≡ done a middle → q middle ≡ halt h j → k ≡ length (ta a) + j → OneHalts ta q r h k

data Raw {T A B : Type 0} (n : ℕ) (q : List T → Res T B) (r : Res T A) (h : Halt) (k : ℕ) : Type 0 where
  raw_early : r ≡ halt h k → Raw n q r h k
  raw_late : (a : A) (middle : List T) (j : ℕ) → r ≡ done a middle → q middle ≡ halt h j → k ≡ (n - length middle) + j → Raw n q r h k

inner_done : {T A B : Type 0} (a : A) (n : ℕ) (r : Res T B) (ab : Pair A B) (rest : List T) → pair_with a (shift n r) ≡ done ab rest → (a ≡ ab.left) × (r ≡ done ab.right rest)
unfolding left_or second
inner_done a n (done b r) ab rest e = (ap (λ x. left_or a x) e, ap second e)
inner_done a n (halt h k) ab rest e = absurd (not_done ab rest h (n + k) e)

seq_done : {T A B : Type 0} (n : ℕ) (q : List T → Res T B) (r : Res T A) (ab : Pair A B) (rest : List T) → then_second n q r ≡ done ab rest → BothDone q r ab rest
seq_done n q (done a middle) ab rest e = let h = inner_done a (n - length middle) (q middle) ab rest e in record { middle = middle; first_part = ap (λ x. done x middle) h.0; next = h.1 }
seq_done n q (halt h k) ab rest e = absurd (not_done ab rest h k e)

inner_halt : {T A B : Type 0} (a : A) (n : ℕ) (r : Res T B) (h : Halt) (k : ℕ) → ◌≡◌ {A = Res T (Pair A B)} (pair_with a (shift n r)) (halt h k) → (j : ℕ) × (r ≡ halt h j) × (k ≡ n + j)
inner_halt a n (done b r) h k e = absurd (not_halt (record { left = a; right = b }) r h k e)
inner_halt {T = T} {A = A} {B = B} a n (halt g j) h k e = (j, ap (λ x. halt x j) (same_cause {A = Pair A B} g h (n + j) k e), sym (same_place {A = Pair A B} g h (n + j) k e))

seq_halt : {T A B : Type 0} (n : ℕ) (q : List T → Res T B) (r : Res T A) (h : Halt) (k : ℕ) → then_second n q r ≡ halt h k → Raw n q r h k
seq_halt n q (done a middle) h k e = let i = inner_halt a (n - length middle) (q middle) h k e in raw_late a middle i.0 refl i.1 i.2
seq_halt {T = T} {A = A} {B = B} n q (halt g j) h k e = raw_early (same_halt {A = Pair A B} g h j k e)

pair_same : {A B : Type 0} (x y : Pair A B) → x.left ≡ y.left → x.right ≡ y.right → x ≡ y
pair_same x y el er = ap (λ l. record { left = l; right = x.right }) el ∙ ap (λ r. record { left = y.left; right = r }) er

-- what is left after the first part agrees as well
move : {T : Type 0} (n m : ℕ) (front ts middle other y z : List T) → m ≡ length front + n → ts ≡ front ++ middle → front ≡ other → take m ts ≡ take m ((other ++ y) ++ z) → Agree n middle (y ++ z)
unfolding Agree
move n m front ts middle other y z c e f h = agree_rest n front middle (y ++ z) (ap (λ k. take k (front ++ middle)) (sym c) ∙ ap (take m) (sym e) ∙ h ∙ ap (take m) (append_assoc other y z ∙ ap (λ x. x ++ (y ++ z)) (sym f)) ∙ ap (λ k. take k (front ++ (y ++ z))) c)

pub seq_good : {T A B : Type 0} (ta : A → List T) (tb : B → List T) (ia : A → Type 0) (ib : B → Type 0) (sa sb : T → Bool) (n m : ℕ) (p : List T → Res T A) (q : List T → Res T B)
    → Good A ta ia sa n p → Good B tb ib sb m q → (any : B) → ib any
    → ((a : A) → n ≤ length (ta a) + m)
    → ((b : B) (z : List T) → Stops sb z → Stops sa (tb b ++ z))
    → Good (Pair A B) (pair_toks ta tb) (pair_in ia ib) sb n (seq p q)
unfolding Agree
seq_good {T = T} {A = A} {B = B} ta tb ia ib sa sb n m p q gp gq any in_any room side = record { reads = λ ts ab rest w e. reads ts ab rest w (seq_done (length ts) q (p ts) ab rest e); inside = λ ts ab rest w e. inside ts ab rest w (seq_done (length ts) q (p ts) ab rest e); begins = λ ts h k w e l. begins ts h k w (settle ts h k w (seq_halt (length ts) q (p ts) h k e)) l; opens = λ ts k w e. opens ts k w (settle ts Nesting k w (seq_halt (length ts) q (p ts) Nesting k e)); bound = λ ts h k w e. bound ts h k w (settle ts h k w (seq_halt (length ts) q (p ts) h k e)); forced = λ ts ab rest cd z w e. forced ts ab rest cd z w (seq_done (length ts) q (p ts) ab rest e); dead = λ ts h k cd z w e. dead ts h k cd z w (settle ts h k w (seq_halt (length ts) q (p ts) h k e)) }
  where
    settle : (ts : List T) (h : Halt) (k : ℕ) → length ts ≤ n → Raw (length ts) q (p ts) h k → OneHalts ta q (p ts) h k
    settle ts h k w (raw_early e) = early e
    settle ts h k w (raw_late a middle j e f g) = late a middle j e f (omega (arith, g, ap length (gp.reads ts a middle w e), length-append (ta a) middle))

    fits : (ts : List T) (a : A) (middle : List T) → length ts ≤ n → p ts ≡ done a middle → length middle ≤ m
    fits ts a middle w e = omega (arith, room a, w, ap length (gp.reads ts a middle w e), length-append (ta a) middle)

    reads : (ts : List T) (ab : Pair A B) (rest : List T) → length ts ≤ n → BothDone q (p ts) ab rest → ts ≡ (ta ab.left ++ tb ab.right) ++ rest
    reads ts ab rest w h = gp.reads ts ab.left h.middle w h.first_part ∙ ap (λ x. ta ab.left ++ x) (gq.reads h.middle ab.right rest (fits ts ab.left h.middle w h.first_part) h.next) ∙ sym (append_assoc (ta ab.left) (tb ab.right) rest)

    inside : (ts : List T) (ab : Pair A B) (rest : List T) → length ts ≤ n → BothDone q (p ts) ab rest → ia ab.left × ib ab.right
    inside ts ab rest w h = (gp.inside ts ab.left h.middle w h.first_part, gq.inside h.middle ab.right rest (fits ts ab.left h.middle w h.first_part) h.next)

    taken_late : (ts : List T) (i k : ℕ) (a : A) (middle : List T) (j : ℕ) → length ts ≤ n → p ts ≡ done a middle → k ≡ length (ta a) + j → take k ts ≡ ta a ++ take j middle
    taken_late ts i k a middle j w e g = ap (λ i. take i ts) g ∙ ap (take (length (ta a) + j)) (gp.reads ts a middle w e) ∙ take-append-add (ta a) middle j

    joined : (ts : List T) (k : ℕ) (a : A) (b : B) (middle more : List T) (j : ℕ) → length ts ≤ n → p ts ≡ done a middle → k ≡ length (ta a) + j → tb b ≡ take j middle ++ more → ta a ++ tb b ≡ take k ts ++ more
    joined ts k a b middle more j w e g h = ap (λ x. ta a ++ x) h ∙ sym (append_assoc (ta a) (take j middle) more) ∙ ap (λ x. x ++ more) (sym (taken_late ts 0 k a middle j w e g))

    late_begins : (ts : List T) (h : Halt) (k : ℕ) (a : A) (middle : List T) (j : ℕ) → length ts ≤ n → p ts ≡ done a middle → q middle ≡ halt h j → k ≡ length (ta a) + j → (ab : Pair A B) × pair_in ia ib ab × ((more : List T) × (ta ab.left ++ tb ab.right ≡ take k ts ++ more))
    late_begins ts h k a middle zero w e f g = (record { left = a; right = any }, (gp.inside ts a middle w e, in_any), (tb any, joined ts k a any middle (tb any) 0 w e g refl))
    late_begins ts h k a middle (suc j) w e f g = let x = gq.begins middle h (suc j) (fits ts a middle w e) f (omega arith) in (record { left = a; right = x.0 }, (gp.inside ts a middle w e, x.1), (x.2.0, joined ts k a x.0 middle x.2.0 (suc j) w e g x.2.1))

    begins : (ts : List T) (h : Halt) (k : ℕ) → length ts ≤ n → OneHalts ta q (p ts) h k → 0 < k → (ab : Pair A B) × pair_in ia ib ab × ((more : List T) × (ta ab.left ++ tb ab.right ≡ take k ts ++ more))
    begins ts h k w (early e) l = let x = gp.begins ts h k w e l in (record { left = x.0; right = any }, (x.1, in_any), (x.2.0 ++ tb any, ap (λ y. y ++ tb any) x.2.1 ∙ append_assoc (take k ts) x.2.0 (tb any)))
    begins ts h k w (late a middle j e f g) l = late_begins ts h k a middle j w e f g

    opens : (ts : List T) (k : ℕ) → length ts ≤ n → OneHalts ta q (p ts) Nesting k → (ab : Pair A B) × ((more : List T) × (ta ab.left ++ tb ab.right ≡ take (k + 1) ts ++ more))
    opens ts k w (early e) = let x = gp.opens ts k w e in (record { left = x.0; right = any }, (x.1.0 ++ tb any, ap (λ y. y ++ tb any) x.1.1 ∙ append_assoc (take (k + 1) ts) x.1.0 (tb any)))
    opens ts k w (late a middle j e f g) = let x = gq.opens middle j (fits ts a middle w e) f in (record { left = a; right = x.0 }, (x.1.0, joined ts (k + 1) a x.0 middle x.1.0 (j + 1) w e (omega (arith, g)) x.1.1))

    bound : (ts : List T) (h : Halt) (k : ℕ) → length ts ≤ n → OneHalts ta q (p ts) h k → k + weight h ≤ length ts
    bound ts h k w (early e) = gp.bound ts h k w e
    bound ts h k w (late a middle j e f g) = omega (arith, g, gq.bound middle h j (fits ts a middle w e) f, ap length (gp.reads ts a middle w e), length-append (ta a) middle)

    forced : (ts : List T) (ab : Pair A B) (rest : List T) (cd : Pair A B) (z : List T) → length ts ≤ n → BothDone q (p ts) ab rest → Stops sb z → take (length (ta ab.left ++ tb ab.right) + 1) ts ≡ take (length (ta ab.left ++ tb ab.right) + 1) ((ta cd.left ++ tb cd.right) ++ z) → ab ≡ cd
    forced ts ab rest cd z w h s e =
        let c : length (ta ab.left ++ tb ab.right) ≡ length (ta ab.left) + length (tb ab.right) = length-append (ta ab.left) (tb ab.right) in
        let el : ab.left ≡ cd.left = gp.forced ts ab.left h.middle cd.left (tb cd.right ++ z) w h.first_part (side cd.right z s) (agree_less _ (length (ta ab.left ++ tb ab.right) + 1) ts _ (omega (arith, c)) (e ∙ ap (take (length (ta ab.left ++ tb ab.right) + 1)) (append_assoc (ta cd.left) (tb cd.right) z))) in
        let er : ab.right ≡ cd.right = gq.forced h.middle ab.right rest cd.right z (fits ts ab.left h.middle w h.first_part) h.next s (move (length (tb ab.right) + 1) (length (ta ab.left ++ tb ab.right) + 1) (ta ab.left) ts h.middle (ta cd.left) (tb cd.right) z (omega (arith, c)) (gp.reads ts ab.left h.middle w h.first_part) (ap ta el) e) in
        pair_same ab cd el er

    dead : (ts : List T) (h : Halt) (k : ℕ) (cd : Pair A B) (z : List T) → length ts ≤ n → OneHalts ta q (p ts) h k → Covers h (pair_in ia ib cd) → Stops sb z → take (k + 1) ts ≡ take (k + 1) ((ta cd.left ++ tb cd.right) ++ z) → ⊥
    dead ts h k cd z w (early e) v s a = gp.dead ts h k cd.left (tb cd.right ++ z) w e (covers_map h (λ x. x.0) v) (side cd.right z s) (a ∙ ap (take (k + 1)) (append_assoc (ta cd.left) (tb cd.right) z))
    dead ts h k cd z w (late a middle j e f g) v s y =
        let el : a ≡ cd.left = gp.forced ts a middle cd.left (tb cd.right ++ z) w e (side cd.right z s) (agree_less _ (k + 1) ts _ (omega (arith, g)) (y ∙ ap (take (k + 1)) (append_assoc (ta cd.left) (tb cd.right) z))) in
        gq.dead middle h j cd.right z (fits ts a middle w e) f (covers_map h (λ x. x.1) v) s (move (j + 1) (k + 1) (ta a) ts middle (ta cd.left) (tb cd.right) z (omega (arith, g)) (gp.reads ts a middle w e) (ap ta el) y)
