-- Numbers with the byte that ends them: read in one way, and where a reader of one stops.
use Rattle.std.proofs.Common.{◌≡◌, ℕ, ◌+◌, ◌-◌, ◌*◌, ◌≤◌, ◌<◌, List, [], ◌∷◌, ◌++◌, length, take, Option, None, Some, arith, refl, ◌∙◌, sym, ap}
use Rattle.std.proofs.Common.{subst, append_assoc, length-append, take_at, eq-zero-or-pos, ◌⊎◌, inl, inr}
use Rattle.std.specs.List.{AllByRecursion}
use Rattle.std.proofs.lemmas.List.{append-nil}
use Rattle.text_laws.specs.Numerals.{numeral}
use Rattle.text_laws.specs.Parts.{ended_number, IsBetween}
use Rattle.text_laws.specs.Reading.{IsStuck}
use Rattle.text_laws.proofs.Numbers.{AreDigits, numeral_digits, numeral_injective, numeral_begun, numeral_of_zero, numeral_more, numeral_small}
use Rattle.text_laws.proofs.Numbers.{numeral_nonempty}
use Rattle.text_laws.proofs.Stops.{IsReadable, agree_after, begun_by}

-- bytes of a class in front of a byte outside it: whatever begins with others of the class parts them
pub record Split (front back m : List ℕ) (q : ℕ) (z : List ℕ) : Type 0 where
  pub middle : List ℕ
  pub longer : front ≡ back ++ middle
  pub rest : m ≡ middle ++ q ∷ z

pub same_head : (a b : ℕ) (x y : List ℕ) → a ∷ x ≡ b ∷ y → a ≡ b
same_head a b x y e = cc

pub same_tail : (a b : ℕ) (x y : List ℕ) → a ∷ x ≡ b ∷ y → x ≡ y
same_tail a b x y e = cc

pub split : (P : ℕ → Type 0) (front back m : List ℕ) (q : ℕ) (z : List ℕ) → (P q → ⊥) → AllByRecursion P back → front ++ q ∷ z ≡ back ++ m
    → Split front back m q z
split P front [] m q z out all e = record { middle = front; longer = refl; rest = sym e }
split P [] (b ∷ back) m q z out all e = absurd (out (subst P (sym (same_head q b z (back ++ m) e)) all.0))
split P (a ∷ front) (b ∷ back) m q z out all e =
    let s = split P front back m q z out all.1 (same_tail a b (front ++ q ∷ z) (back ++ m) e) in
    record { middle = s.middle; longer = ap (λ h. h ∷ front) (same_head a b (front ++ q ∷ z) (back ++ m) e) ∙ ap (λ t. b ∷ t) s.longer; rest = s.rest }

no_middle : (P : ℕ → Type 0) (middle y z : List ℕ) (q : ℕ) → (P q → ⊥) → AllByRecursion P middle → q ∷ y ≡ middle ++ q ∷ z → middle ≡ []
no_middle P [] y z q out all e = refl
no_middle P (m ∷ middle) y z q out all e = absurd (out (subst P (sym (same_head q m y (middle ++ q ∷ z) e)) all.0))

all_after : (P : ℕ → Type 0) (xs ys : List ℕ) → AllByRecursion P (xs ++ ys) → AllByRecursion P ys
all_after P [] ys h = h
all_after P (x ∷ xs) ys h = all_after P xs ys h.1

pub all_front : (P : ℕ → Type 0) (xs ys : List ℕ) → AllByRecursion P (xs ++ ys) → AllByRecursion P xs
all_front P [] ys h = tt
all_front P (x ∷ xs) ys h = (h.0, all_front P xs ys h.1)

pub all_append : (P : ℕ → Type 0) (xs ys : List ℕ) → AllByRecursion P xs → AllByRecursion P ys → AllByRecursion P (xs ++ ys)
all_append P [] ys h k = k
all_append P (x ∷ xs) ys h k = (h.0, all_append P xs ys h.1 k)

-- two runs of the class, each in front of the byte, are one
pub parted : (P : ℕ → Type 0) (front back x y : List ℕ) (q : ℕ) → (P q → ⊥) → AllByRecursion P front → AllByRecursion P back
    → front ++ q ∷ x ≡ back ++ q ∷ y → front ≡ back
parted P front back x y q out first second e =
    let s = split P front back (q ∷ y) q x out second e in
    s.longer ∙ ap (λ m. back ++ m) (no_middle P s.middle y x q out (all_after P back s.middle (subst (AllByRecursion P) s.longer first)) s.rest)
    ∙ append-nil back

abbrev IsDigit : ℕ → Type 0
IsDigit b = (47 < b) × (b < 58)

digits_all : (ds : List ℕ) → AreDigits ds → AllByRecursion IsDigit ds
unfolding AreDigits
digits_all [] h = tt
digits_all (d ∷ ds) h = (h.0, digits_all ds h.1)

numeral_all : (n : ℕ) → AllByRecursion IsDigit (numeral n)
numeral_all n = digits_all (numeral n) (numeral_digits n)

no_digit : (ending : ℕ) → ending < 48 → IsDigit ending → ⊥
no_digit ending h d = omega (arith, h, d.0)

-- a number with its ending is read in one way
pub numbers_readable : (ending : ℕ) (Allowed : ℕ → Type 0) → ending < 48 → IsReadable (ended_number ending) Allowed
unfolding IsReadable
numbers_readable ending Allowed low a b ia ib x y e =
    numeral_injective a b (parted IsDigit (numeral a) (numeral b) x y ending (no_digit ending low) (numeral_all a) (numeral_all b)
    (sym (append_assoc (numeral a) (ending ∷ []) x) ∙ e ∙ append_assoc (numeral b) (ending ∷ []) y))

-- digits that begin an allowed number, while the next byte goes on with none, and does not end one
pub record IsNumberWrong (low : ℕ) (high : Option ℕ) (ending : ℕ) (digits rest : List ℕ) : Type 0 where
  pub number : ℕ
  pub allowed : IsBetween low high number
  pub more : List ℕ
  pub begun : numeral number ≡ digits ++ more
  pub no_digit : (b : ℕ) (r m : List ℕ) (n : ℕ) → rest ≡ b ∷ r → IsBetween low high n → numeral n ≡ (digits ++ b ∷ []) ++ m → ⊥
  pub no_end : (r : List ℕ) (n : ℕ) → rest ≡ ending ∷ r → IsBetween low high n → numeral n ≡ digits → ⊥

pub first_same : (b : ℕ) (r m : List ℕ) → take 1 (b ∷ r) ≡ take 1 m → (t : List ℕ) × (m ≡ b ∷ t)
first_same b r [] e = absurd (omega (arith, ap length e))
first_same b r (a ∷ m) e = (m, ap (λ h. h ∷ m) (sym (same_head b a [] [] e)))

pub none_first : (m z : List ℕ) (q : ℕ) → [] ≡ take 1 (m ++ q ∷ z) → ⊥
none_first [] z q e = omega (arith, ap length e)
none_first (a ∷ m) z q e = omega (arith, ap length e)

pub stuck_number : (low : ℕ) (high : Option ℕ) (ending : ℕ) (digits rest bytes : List ℕ) → ending < 48 → IsNumberWrong low high ending digits rest
    → bytes ≡ digits ++ rest
    → IsStuck (ended_number ending) (IsBetween low high) bytes (length digits)
stuck_number low high ending digits rest bytes end w is = record {
  value = w.number;
  allowed = w.allowed;
  more = w.more ++ ending ∷ [];
  begins = ap (λ t. t ++ ending ∷ []) w.begun ∙ append_assoc digits w.more (ending ∷ []) ∙ ap (λ t. t ++ (w.more ++ ending ∷ [])) (sym front);
  inside = omega (arith, ap length is, length-append digits rest);
  excluded = excluded;
}
  where
    front : take (length digits) bytes ≡ digits
    front = ap (take (length digits)) is ∙ take_at digits rest (length digits) refl

    all : AllByRecursion IsDigit digits
    all = all_front IsDigit digits w.more (subst (AllByRecursion IsDigit) w.begun (numeral_all w.number))

    by : (n : ℕ) → IsBetween low high n → (rest middle m z : List ℕ)
        → ((b : ℕ) (r m : List ℕ) (n : ℕ) → rest ≡ b ∷ r → IsBetween low high n → numeral n ≡ (digits ++ b ∷ []) ++ m → ⊥)
        → ((r : List ℕ) (n : ℕ) → rest ≡ ending ∷ r → IsBetween low high n → numeral n ≡ digits → ⊥)
        → numeral n ≡ digits ++ middle → m ≡ middle ++ ending ∷ z → take 1 rest ≡ take 1 m → ⊥
    by n i [] middle m z nd ne longer mid agree = none_first middle z ending (agree ∙ ap (take 1) mid)
    by n i (b ∷ r) [] m z nd ne longer mid agree = let t = first_same b r m agree in
        ne r n (ap (λ h. h ∷ r) (same_head b ending t.0 z (sym t.1 ∙ mid))) i (longer ∙ append-nil digits)
    by n i (b ∷ r) (d ∷ middle) m z nd ne longer mid agree = let t = first_same b r m agree in
        nd b r middle n refl i (longer ∙ ap (λ h. digits ++ h ∷ middle) (sym (same_head b d t.0 (middle ++ ending ∷ z) (sym t.1 ∙ mid)))
        ∙ sym (append_assoc digits (b ∷ []) middle))

    excluded : (n : ℕ) → IsBetween low high n → (z : List ℕ) → take (length digits + 1) bytes ≡ take (length digits + 1) (ended_number ending n ++ z) → ⊥
    excluded n i z e =
        let agree : take (length digits + 1) (digits ++ rest) ≡ take (length digits + 1) (ended_number ending n ++ z) =
        ap (take (length digits + 1)) (sym is) ∙ e in
        let b = begun_by digits rest (ended_number ending n ++ z) 1 agree in
        let s = split IsDigit (numeral n) digits b.0 ending z (no_digit ending end) all (sym (append_assoc (numeral n) (ending ∷ []) z) ∙ b.1) in
        by n i rest s.middle b.0 z w.no_digit w.no_end s.longer s.rest (agree_after digits rest b.0 1 (agree ∙ ap (take (length digits + 1)) b.1))

-- ---- the digits read so far are the numeral of x
-- what the next byte is, where a reader stops after the numeral of x: nothing; a digit with which the number is too great, or any digit
-- after 0; the ending, if x is not allowed; or any other byte
unfoldable pub AreStopped : ℕ → Option ℕ → ℕ → ℕ → List ℕ → Type 0
AreStopped low high ending x [] = Unit {0}
AreStopped low high ending x (b ∷ r) = (b ≡ ending → IsBetween low high x → ⊥)
    × ((d : ℕ) → d < 10 → b ≡ 48 + d → 0 < x → (n : ℕ) → x * 10 + d ≤ n → IsBetween low high n → ⊥)

digit_of : (ds m : List ℕ) (b n : ℕ) → numeral n ≡ (ds ++ b ∷ []) ++ m → IsDigit b
digit_of ds m b n e = (all_after IsDigit ds (b ∷ []) (all_front IsDigit (ds ++ b ∷ []) m (subst (AllByRecursion IsDigit) e (numeral_all n)))).0

digit_is : (b : ℕ) → IsDigit b → (d : ℕ) × (d < 10) × (b ≡ 48 + d)
digit_is b h = (b - 48, omega (arith, h.0, h.1), omega (arith, h.0))

-- after some digits
pub stopped_number : (low : ℕ) (high : Option ℕ) (ending x : ℕ) (rest more : List ℕ) (number : ℕ) → IsBetween low high number
    → numeral number ≡ numeral x ++ more
    → AreStopped low high ending x rest → IsNumberWrong low high ending (numeral x) rest
unfolding AreStopped
stopped_number low high ending x rest more number i begun stopped = record {
  number = number;
  allowed = i;
  more = more;
  begun = begun;
  no_digit = no_digit rest stopped;
  no_end = no_end rest stopped;
}
  where
    no_digit : (rest : List ℕ) → AreStopped low high ending x rest → (b : ℕ) (r m : List ℕ) (n : ℕ) → rest ≡ b ∷ r → IsBetween low high n
        → numeral n ≡ (numeral x ++ b ∷ []) ++ m → ⊥
    no_digit [] h b r m n e i is = omega (arith, ap length e)
    no_digit (a ∷ s) h b r m n e i is = at (eq-zero-or-pos x)
      where
        d : (d : ℕ) × (d < 10) × (b ≡ 48 + d)
        d = digit_is b (digit_of (numeral x) m b n is)

        at : (x ≡ 0) ⊎ (0 < x) → ⊥
        at (inl zero_x) = let z = numeral_of_zero n (b ∷ m)
            (is ∙ append_assoc (numeral x) (b ∷ []) m ∙ ap (λ y. numeral y ++ b ∷ m) zero_x ∙ ap (λ ds. ds ++ b ∷ m) (numeral_small 0 (omega arith))) in
            omega (arith, ap length z.1)
        at (inr some) = h.1 d.0 d.1 (same_head a b s r e ∙ d.2) some n
            (numeral_begun n (x * 10 + d.0) m (is ∙ ap (λ c. (numeral x ++ c ∷ []) ++ m) d.2 ∙ ap (λ ds. ds ++ m) (sym (numeral_more x d.0 some d.1)))) i

    no_end : (rest : List ℕ) → AreStopped low high ending x rest → (r : List ℕ) (n : ℕ) → rest ≡ ending ∷ r → IsBetween low high n → numeral n ≡ numeral x → ⊥
    no_end [] h r n e i is = omega (arith, ap length e)
    no_end (a ∷ s) h r n e i is = h.0 (same_head a ending s r e) (subst (IsBetween low high) (numeral_injective n x is) i)

-- what the first byte is, where a reader stops before any digit: nothing, a byte that is no digit, 0 if numbers are at least 1, or a
-- digit that is too great
unfoldable pub AreStoppedFirst : ℕ → Option ℕ → List ℕ → Type 0
AreStoppedFirst low high [] = Unit {0}
AreStoppedFirst low high (b ∷ r) = (47 < b → b < 58 → ⊥)
    ⊎ (((b ≡ 48) × (1 ≤ low)) ⊎ ((d : ℕ) × (d < 10) × (b ≡ 48 + d) × ((n : ℕ) → d ≤ n → IsBetween low high n → ⊥)))

pub stopped_first : (low : ℕ) (high : Option ℕ) (ending : ℕ) (rest : List ℕ) (number : ℕ) → IsBetween low high number → AreStoppedFirst low high rest
    → IsNumberWrong low high ending [] rest
unfolding AreStoppedFirst
stopped_first low high ending rest number i stopped = record {
  number = number;
  allowed = i;
  more = numeral number;
  begun = refl;
  no_digit = no_digit rest stopped;
  no_end = λ r n e i is. omega (arith, ap length is, numeral_nonempty n);
}
  where
    at_least : (high : Option ℕ) (n : ℕ) → IsBetween low high n → low ≤ n
    at_least None n i = i
    at_least (Some h) n i = i.0

    no_digit : (rest : List ℕ) → AreStoppedFirst low high rest → (b : ℕ) (r m : List ℕ) (n : ℕ) → rest ≡ b ∷ r → IsBetween low high n
        → numeral n ≡ ([] ++ b ∷ []) ++ m → ⊥
    no_digit [] h b r m n e i is = omega (arith, ap length e)
    no_digit (a ∷ s) (inl h) b r m n e i is = let d = digit_of [] m b n is in h (omega (arith, d.0, same_head a b s r e))
        (omega (arith, d.1, same_head a b s r e))
    no_digit (a ∷ s) (inr (inl h)) b r m n e i is = let z = numeral_of_zero n m (is ∙ ap (λ c. c ∷ m) (sym (same_head a b s r e) ∙ h.0)) in
        omega (arith, z.0, h.1, at_least high n i)
    no_digit (a ∷ s) (inr (inr h)) b r m n e i is =
        h.3 n (numeral_begun n h.0 m (is ∙ ap (λ c. c ∷ m) (sym (same_head a b s r e) ∙ h.2) ∙ ap (λ t. t ++ m) (sym (numeral_small h.0 h.1)))) i
