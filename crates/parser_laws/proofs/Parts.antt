-- One token, groups, nothing, and lists of items.
use Rattle.std.proofs.Common.{◌≡◌, ℕ, zero, suc, ◌+◌, ◌≤◌, List, [], ◌∷◌, ◌++◌, length, take, arith, refl, ◌∙◌, sym, ap, subst, append_assoc, length-append, Option, None, Some}
use mathlib.Core.Bool.{Bool, true, false}
use Rattle.std.specs.Prelude.{IsTrue}
use Rattle.std.proofs.lemmas.Bool.{false≢true}
use Rattle.parser_laws.specs.Parsing.{Halt, Syntax, Nesting, Res, done, halt, Either, first, other, Pair, pick, starts_with, one, one_of, seq, choice, none, many, list_of, gate, sum_toks, sum_in, pair_toks, pair_in, all_toks, all_in, anything}
use Rattle.parser_laws.proofs.Good.{weight, Agree, Stops, Covers, Good, agree_less, not_halt, not_done, same_value, same_rest, same_place, same_cause}
use Rattle.parser_laws.proofs.Sequence.{seq_good}
use Rattle.parser_laws.proofs.Choice.{same_start, true_is_not_false, Apart, choice_good, Shape, map_good}

unfoldable pub head_of : {T : Type 0} → List T → Option T
head_of [] = None
head_of (t ∷ ts) = Some t

head_take : {T : Type 0} (xs : List T) → head_of (take 1 xs) ≡ head_of xs
unfolding head_of
head_take [] = refl
head_take (t ∷ xs) = refl

pub same_head : {T : Type 0} (k : ℕ) (xs ys : List T) → Agree (k + 1) xs ys → head_of xs ≡ head_of ys
unfolding Agree
same_head k xs ys e = sym (head_take xs) ∙ ap head_of (agree_less 1 (k + 1) xs ys (omega arith) e) ∙ head_take ys

some_or : {A : Type 0} → A → Option A → A
some_or d None = d
some_or d (Some a) = a

pub same_some : {A : Type 0} (a b : A) → Some a ≡ Some b → a ≡ b
unfolding some_or
same_some a b e = ap (some_or a) e

is_some : {A : Type 0} → Option A → Type 0
is_some None = ⊥
is_some (Some a) = Unit

pub not_none : {A : Type 0} (a : A) → None ≡ Some a → ⊥
unfolding is_some
not_none a e = subst is_some (sym e) tt

-- one token: how it is seen, and how it is spelled
pub record Spelling {T A : Type 0} (view : T → Option A) (mk : A → T) : Type 0 where
  pub fits : (t : T) (a : A) → view t ≡ Some a → t ≡ mk a
  pub back : (a : A) → view (mk a) ≡ Some a

one_of_done : {T A : Type 0} (v : Option A) (a : A) (w rest : List T) → one_of v w ≡ done a rest → (v ≡ Some a) × (w ≡ rest)
one_of_done None a w rest e = absurd (not_done a rest Syntax 0 e)
one_of_done (Some b) a w rest e = (ap (λ x. Some x) (same_value b a w rest e), same_rest b a w rest e)

one_of_halt : {T A : Type 0} (v : Option A) (w : List T) (h : Halt) (k : ℕ) → one_of v w ≡ halt h k → (v ≡ None) × (h ≡ Syntax) × (k ≡ 0)
one_of_halt {A = A} None w h k e = (refl, sym (same_cause {A = A} Syntax h 0 k e), sym (same_place {A = A} Syntax h 0 k e))
one_of_halt (Some b) w h k e = absurd (not_halt b w h k e)

pub one_good : {T A : Type 0} (view : T → Option A) (mk : A → T) (s : T → Bool) (n : ℕ) → Spelling view mk → Good A (λ a. mk a ∷ []) anything s n (one view)
unfolding head_of
one_good {T = T} {A = A} view mk s n c = record { reads = λ ts a rest w e. reads ts a rest e; inside = λ ts a rest w e. tt; begins = λ ts h k w e l. absurd (omega (arith, l, (halts ts h k e).1)); opens = λ ts k w e. absurd (not_nesting (halts ts Nesting k e).0); bound = λ ts h k w e. omega (arith, (halts ts h k e).1, ap weight (halts ts h k e).0); forced = λ ts a rest b z w e m y. forced ts a rest b z e y; dead = λ ts h k b z w e v m y. dead ts h k b z e y }
  where
    is_syntax : Halt → Type 0
    is_syntax Syntax = Unit
    is_syntax Nesting = ⊥

    not_nesting : Nesting ≡ Syntax → ⊥
    not_nesting e = subst is_syntax (sym e) tt

    halts : (ts : List T) (h : Halt) (k : ℕ) → one view ts ≡ halt h k → (h ≡ Syntax) × (k ≡ 0)
    halts [] h k e = (sym (same_cause {A = A} Syntax h 0 k e), sym (same_place {A = A} Syntax h 0 k e))
    halts (t ∷ ts) h k e = let x = one_of_halt (view t) ts h k e in (x.1, x.2)

    reads : (ts : List T) (a : A) (rest : List T) → one view ts ≡ done a rest → ts ≡ (mk a ∷ []) ++ rest
    reads [] a rest e = absurd (not_done a rest Syntax 0 e)
    reads (t ∷ ts) a rest e = let x = one_of_done (view t) a ts rest e in ap (λ i. i ∷ ts) (c.fits t a x.0) ∙ ap (λ i. mk a ∷ i) x.1

    forced : (ts : List T) (a : A) (rest : List T) (b : A) (z : List T) → one view ts ≡ done a rest → Agree 2 ts ((mk b ∷ []) ++ z) → a ≡ b
    forced ts a rest b z e y =
        let t : Some (mk a) ≡ Some (mk b) = sym (ap head_of (reads ts a rest e)) ∙ same_head 1 ts _ y in
        same_some a b (sym (c.back a) ∙ ap view (same_some (mk a) (mk b) t) ∙ c.back b)

    dead : (ts : List T) (h : Halt) (k : ℕ) (b : A) (z : List T) → one view ts ≡ halt h k → Agree (k + 1) ts ((mk b ∷ []) ++ z) → ⊥
    dead [] h k b z e y = not_none (mk b) (same_head k [] ((mk b ∷ []) ++ z) y)
    dead (t ∷ ts) h k b z e y = not_none b (sym (one_of_halt (view t) ts h k e).0 ∙ ap view (same_some t (mk b) (same_head k (t ∷ ts) ((mk b ∷ []) ++ z) y)) ∙ c.back b)

-- a group at nesting where there is no room
pub record Opened {T A : Type 0} (ta : A → List T) (In : A → Type 0) (starts : T → Bool) : Type 0 where
  pub heads : (a : A) (z : List T) → starts_with starts (ta a ++ z) ≡ true
  pub openers : (t : T) → starts t ≡ true → (a : A) × ((w : List T) × (ta a ≡ t ∷ w))
  pub no_room : (a : A) → In a → ⊥

gate_halt : {T A : Type 0} (v : Bool) (h : Halt) (k : ℕ) → ◌≡◌ {A = Res T A} (pick v (halt Nesting 0) (halt Syntax 0)) (halt h k) → Either ((v ≡ true) × (h ≡ Nesting) × (k ≡ 0)) ((v ≡ false) × (h ≡ Syntax) × (k ≡ 0))
gate_halt {A = A} true h k e = first (refl, sym (same_cause {A = A} Nesting h 0 k e), sym (same_place {A = A} Nesting h 0 k e))
gate_halt {A = A} false h k e = other (refl, sym (same_cause {A = A} Syntax h 0 k e), sym (same_place {A = A} Syntax h 0 k e))

gate_done : {T A : Type 0} (v : Bool) (a : A) (rest : List T) → pick v (halt Nesting 0) (halt Syntax 0) ≡ done a rest → ⊥
gate_done true a rest e = not_done a rest Nesting 0 e
gate_done false a rest e = not_done a rest Syntax 0 e

pub gate_good : {T A L : Type 0} (ta : A → List T) (In : A → Type 0) (s starts : T → Bool) (n : ℕ) (p : L → List T → Res T A) → Opened ta In starts → Good A ta In s n (gate starts p None)
unfolding Covers
gate_good {T = T} {A = A} ta In s starts n p c = record { reads = λ ts a rest w e. absurd (gate_done (starts_with starts ts) a rest e); inside = λ ts a rest w e. absurd (gate_done (starts_with starts ts) a rest e); begins = λ ts h k w e l. absurd (omega (arith, l, at_first (gate_halt (starts_with starts ts) h k e))); opens = λ ts k w e. opens ts k (gate_halt (starts_with starts ts) Nesting k e); bound = λ ts h k w e. bound ts h k (gate_halt (starts_with starts ts) h k e); forced = λ ts a rest b z w e m y. absurd (gate_done (starts_with starts ts) a rest e); dead = λ ts h k b z w e v m y. dead ts h k b z (gate_halt (starts_with starts ts) h k e) v y }
  where
    is_nesting : Halt → Type 0
    is_nesting Syntax = ⊥
    is_nesting Nesting = Unit

    at_first : {v : Bool} {h : Halt} {k : ℕ} → Either ((v ≡ true) × (h ≡ Nesting) × (k ≡ 0)) ((v ≡ false) × (h ≡ Syntax) × (k ≡ 0)) → k ≡ 0
    at_first (first x) = x.2
    at_first (other x) = x.2

    some_token : (ts : List T) → starts_with starts ts ≡ true → 1 ≤ length ts
    some_token [] e = absurd (false≢true e)
    some_token (t ∷ ts) e = omega arith

    bound : (ts : List T) (h : Halt) (k : ℕ) → Either ((starts_with starts ts ≡ true) × (h ≡ Nesting) × (k ≡ 0)) ((starts_with starts ts ≡ false) × (h ≡ Syntax) × (k ≡ 0)) → k + weight h ≤ length ts
    bound ts h k (first x) = omega (arith, ap weight x.1, x.2, some_token ts x.0)
    bound ts h k (other x) = omega (arith, ap weight x.1, x.2)

    by_list : (ts : List T) → starts_with starts ts ≡ true → (a : A) × ((more : List T) × (ta a ≡ take 1 ts ++ more))
    by_list [] e = absurd (false≢true e)
    by_list (t ∷ ts) e = c.openers t e

    opens : (ts : List T) (k : ℕ) → Either ((starts_with starts ts ≡ true) × (Nesting ≡ Nesting) × (k ≡ 0)) ((starts_with starts ts ≡ false) × (Nesting ≡ Syntax) × (k ≡ 0)) → (a : A) × ((more : List T) × (ta a ≡ take (k + 1) ts ++ more))
    opens ts k (first x) = subst (λ i. (a : A) × ((more : List T) × (ta a ≡ take (i + 1) ts ++ more))) (sym x.2) (by_list ts x.0)
    opens ts k (other x) = absurd (subst is_nesting x.1 tt)

    dead : (ts : List T) (h : Halt) (k : ℕ) (b : A) (z : List T) → Either ((starts_with starts ts ≡ true) × (h ≡ Nesting) × (k ≡ 0)) ((starts_with starts ts ≡ false) × (h ≡ Syntax) × (k ≡ 0)) → Covers h (In b) → Agree (k + 1) ts (ta b ++ z) → ⊥
    dead ts h k b z (first x) v y = c.no_room b (subst (λ i. Covers i (In b)) x.1 v)
    dead ts h k b z (other x) v y = true_is_not_false _ (c.heads b z) (sym (same_start starts k ts (ta b ++ z) y) ∙ x.0)

pub none_good : {T : Type 0} (s : T → Bool) (n : ℕ) → Good Unit (λ u. []) anything s n (none {T = T})
none_good s n = record { reads = λ ts a rest w e. same_rest tt a ts rest e; inside = λ ts a rest w e. tt; begins = λ ts h k w e l. absurd (not_halt tt ts h k e); opens = λ ts k w e. absurd (not_halt tt ts Nesting k e); bound = λ ts h k w e. absurd (not_halt tt ts h k e); forced = λ ts a rest b z w e m y. refl; dead = λ ts h k b z w e v m y. not_halt tt ts h k e }

-- what is asked of the items of a list, and of what follows the list
pub record Items {T A : Type 0} (ta : A → List T) (sa sb starts : T → Bool) : Type 0 where
  pub heads : (a : A) (z : List T) → starts_with starts (ta a ++ z) ≡ true
  pub next : (t : T) → starts t ≡ true → IsTrue (sa t)
  pub stops : (t : T) → IsTrue (sb t) → IsTrue (sa t)
  pub ends : (t : T) → IsTrue (sb t) → starts t ≡ false

empty_list : {T : Type 0} (ts : List T) → length ts ≤ 0 → ts ≡ []
empty_list [] h = refl
empty_list (t ∷ ts) h = absurd (omega (arith, h))

pub stop_starts : {T : Type 0} (sb starts : T → Bool) → ((t : T) → IsTrue (sb t) → starts t ≡ false) → (z : List T) → Stops sb z → starts_with starts z ≡ false
stop_starts sb starts f [] s = refl
stop_starts sb starts f (t ∷ z) s = f t s

pub nonempty : {T : Type 0} (starts : T → Bool) (xs : List T) → starts_with starts xs ≡ true → 1 ≤ length xs
nonempty starts [] e = absurd (false≢true e)
nonempty starts (t ∷ xs) e = omega arith

pub item_length : {T A : Type 0} (ta : A → List T) (sa sb starts : T → Bool) → Items ta sa sb starts → (a : A) → 1 ≤ length (ta a)
item_length ta sa sb starts i a = omega (arith, nonempty starts (ta a ++ []) (i.heads a []), length-append (ta a) [])

pub follows : {T A : Type 0} (ta : A → List T) (sa sb starts : T → Bool) → Items ta sa sb starts → (d : List A) (z : List T) → Stops sb z → Stops sa (all_toks ta d ++ z)
follows {T = T} ta sa sb starts i [] [] s = tt
follows {T = T} ta sa sb starts i [] (u ∷ z) s = i.stops u s
follows {T = T} ta sa sb starts i (a ∷ d) z s = by_start ((ta a ++ all_toks ta d) ++ z) (ap (starts_with starts) (append_assoc (ta a) (all_toks ta d) z) ∙ i.heads a (all_toks ta d ++ z))
  where
    by_start : (xs : List T) → starts_with starts xs ≡ true → Stops sa xs
    by_start [] e = tt
    by_start (t ∷ xs) e = i.next t e

zero_good : {T A : Type 0} (ta : A → List T) (ia : A → Type 0) (sa sb starts : T → Bool) (p : List T → Res T A) → Items ta sa sb starts → Good (List A) (all_toks ta) (all_in ia) sb 0 (many starts p 0)
zero_good {T = T} {A = A} ta ia sa sb starts p i = record { reads = λ ts b rest w e. ap (λ x. all_toks ta x ++ ts) (same_value [] b ts rest e) ∙ ap (λ x. all_toks ta b ++ x) (same_rest [] b ts rest e); inside = λ ts b rest w e. subst (all_in ia) (same_value [] b ts rest e) tt; begins = λ ts h k w e l. absurd (not_halt [] ts h k e); opens = λ ts k w e. absurd (not_halt [] ts Nesting k e); bound = λ ts h k w e. absurd (not_halt [] ts h k e); forced = λ ts b rest d z w e s y. sym (same_value [] b ts rest e) ∙ left_out (length (all_toks ta b)) d z (subst (λ x. Agree (length (all_toks ta b) + 1) x (all_toks ta d ++ z)) (empty_list ts w) y); dead = λ ts h k d z w e v s y. not_halt [] ts h k e }
  where
    left_out : (k : ℕ) (d : List A) (z : List T) → Agree (k + 1) [] (all_toks ta d ++ z) → [] ≡ d
    left_out k [] z y = refl
    left_out k (a ∷ d) z y = absurd (true_is_not_false _ (ap (starts_with starts) (append_assoc (ta a) (all_toks ta d) z) ∙ i.heads a (all_toks ta d ++ z)) (sym (same_start starts k [] ((ta a ++ all_toks ta d) ++ z) y)))

back_of : {A : Type 0} → List A → Either (Pair A (List A)) Unit
back_of [] = other tt
back_of (a ∷ l) = first (record { left = a; right = l })

list_shape : {T A : Type 0} (ta : A → List T) (ia : A → Type 0) → Shape (sum_toks (pair_toks ta (all_toks ta)) (λ u. [])) (all_toks ta) (sum_in (pair_in ia (all_in ia)) anything) (all_in ia) list_of back_of
unfolding back_of
list_shape {A = A} ta ia = record { back = back; toks = toks; into = into; out = out }
  where
    E : Type 0
    E = Either (Pair A (List A)) Unit

    back : (b : List A) → list_of (back_of b) ≡ b
    back [] = refl
    back (a ∷ l) = refl

    toks : (a : Either (Pair A (List A)) Unit) → all_toks ta (list_of a) ≡ sum_toks (pair_toks ta (all_toks ta)) (λ u. []) a
    toks (first x) = refl
    toks (other x) = refl

    into : (a : Either (Pair A (List A)) Unit) → sum_in (pair_in ia (all_in ia)) anything a → all_in ia (list_of a)
    into (first x) h = h
    into (other x) h = tt

    out : (b : List A) → all_in ia b → sum_in (pair_in ia (all_in ia)) anything (back_of b)
    out [] h = tt
    out (a ∷ l) h = h

pub many_good : {T A : Type 0} (ta : A → List T) (ia : A → Type 0) (sa sb starts : T → Bool) (p : List T → Res T A) → ((n : ℕ) → Good A ta ia sa n p) → Items ta sa sb starts → (n : ℕ) → Good (List A) (all_toks ta) (all_in ia) sb n (many starts p n)
many_good ta ia sa sb starts p gp i zero = zero_good ta ia sa sb starts p i
many_good {T = T} {A = A} ta ia sa sb starts p gp i (suc n) = map_good (sum_toks (pair_toks ta (all_toks ta)) (λ u. [])) (all_toks ta) (sum_in (pair_in ia (all_in ia)) anything) (all_in ia) sb (suc n) (choice starts (seq p (many starts p n)) none) list_of back_of (choice_good (pair_toks ta (all_toks ta)) (λ u. []) (pair_in ia (all_in ia)) anything sb starts (suc n) (seq p (many starts p n)) none (seq_good ta (all_toks ta) ia (all_in ia) sa sb (suc n) n p (many starts p n) (gp (suc n)) (many_good ta ia sa sb starts p gp i n) [] tt room (follows ta sa sb starts i)) (none_good sb (suc n)) apart) (list_shape ta ia)
  where
    room : (a : A) → suc n ≤ length (ta a) + n
    room a = omega (arith, item_length ta sa sb starts i a)

    apart : Apart {B = Unit} (pair_toks ta (all_toks ta)) (λ u. []) sb starts
    apart = record { heads = λ a z. ap (starts_with starts) (append_assoc (ta a.left) (all_toks ta a.right) z) ∙ i.heads a.left (all_toks ta a.right ++ z); others = λ b z s. stop_starts sb starts i.ends z s }

-- a list parser with as much room as the list has tokens
pub sized_good : {T A : Type 0} (ta : A → List T) (ia : A → Type 0) (s : T → Bool) (p : ℕ → List T → Res T A) → ((n : ℕ) → Good A ta ia s n (p n)) → (n : ℕ) → Good A ta ia s n (λ ts. p (length ts) ts)
sized_good ta ia s p g n = record { reads = λ ts a rest w e. (g (length ts)).reads ts a rest (omega arith) e; inside = λ ts a rest w e. (g (length ts)).inside ts a rest (omega arith) e; begins = λ ts h k w e l. (g (length ts)).begins ts h k (omega arith) e l; opens = λ ts k w e. (g (length ts)).opens ts k (omega arith) e; bound = λ ts h k w e. (g (length ts)).bound ts h k (omega arith) e; forced = λ ts a rest b z w e m y. (g (length ts)).forced ts a rest b z (omega arith) e m y; dead = λ ts h k b z w e v m y. (g (length ts)).dead ts h k b z (omega arith) e v m y }
