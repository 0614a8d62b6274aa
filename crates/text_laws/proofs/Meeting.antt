-- What a reader meets: a text, and what is after it, or the place where it stops. Each kind of part meets the one or the other, and so do
-- parts put together.
use Rattle.std.proofs.Common.{◌≡◌, ℕ, zero, suc, ◌+◌, ◌*◌, ◌-◌, ◌≤◌, ◌<◌, Bool, true, false, List, [], ◌∷◌, ◌++◌, length, take, Option, None, Some}
use Rattle.std.proofs.Common.{arith, refl, ◌∙◌, sym, ap, ap₂, subst, append_assoc, append-nil, eq-zero-or-pos, ◌⊎◌, inl, inr}
use Rattle.std.specs.Prelude.{slice_index}
use Rattle.std.proofs.lemmas.Bool.{cases_lt, cases_eq}
use Rattle.lash_model.specs.Formulas.{Sort, Int, Real}
use Rattle.text_laws.specs.Numerals.{numeral}
use Rattle.text_laws.specs.Parts.{ended_number, IsBetween, sort_word, ended_answer}
use Rattle.text_laws.specs.Reading.{Met, read, stuck, pair_text, PairAllowed, after_word, IsWordWrong, IsAny, parts_text, PartsAllowed}
use Rattle.text_laws.proofs.Numbers.{numeral_small, numeral_more}
use Rattle.text_laws.proofs.Stops.{IsReadable, IsCode, stuck_first, stuck_second, stuck_next, stuck_as, stuck_after_word, stuck_in_word}
use Rattle.text_laws.proofs.NumberParts.{same_head, stuck_number, AreStopped, stopped_number, AreStoppedFirst, stopped_first}
use Rattle.text_laws.proofs.ChoiceParts.{AreTold, IsNoFirst, stuck_none, stuck_chosen, sorts_told, answers_told}
use Rattle.text_laws.proofs.Counted.{parts_code, before_and_last, BeforeAndLast, one_more}

-- ---- a word
next_place : (k : ℕ) → suc k + 1 ≡ suc (k + 1)
next_place k = omega arith

word_on : (word bytes : List ℕ) (w : ℕ) (k : ℕ) → IsWordWrong word bytes k → IsWordWrong (w ∷ word) (w ∷ bytes) (suc k)
word_on word bytes w k x = record {
  inside = omega (arith, x.inside);
  before = ap (λ t. w ∷ t) x.before;
  wrong = λ e. x.wrong (tails (take (k + 1) bytes) (take (k + 1) word) (subst (λ n. take n (w ∷ bytes) ≡ take n (w ∷ word)) (next_place k) e));
}
  where
    tails : (x y : List ℕ) → w ∷ x ≡ w ∷ y → x ≡ y
    tails x y e = cc

pub word_met : (word bytes : List ℕ) → ((rest : List ℕ) × (bytes ≡ word ++ rest)) ⊎ ((k : ℕ) × IsWordWrong word bytes k)
word_met [] bytes = inl (bytes, refl)
word_met (w ∷ word) [] = inr (0, record { inside = omega arith; before = refl; wrong = λ e. omega (arith, ap length e) })
word_met (w ∷ word) (b ∷ bytes) = by (cases_eq b w) (word_met word bytes)
  where
    by : (b ≡ w) ⊎ (b ≡ w → ⊥) → ((rest : List ℕ) × (bytes ≡ word ++ rest)) ⊎ ((k : ℕ) × IsWordWrong word bytes k)
        → ((rest : List ℕ) × (b ∷ bytes ≡ w ∷ (word ++ rest))) ⊎ ((k : ℕ) × IsWordWrong (w ∷ word) (b ∷ bytes) k)
    by (inr other) m = inr (0, record { inside = omega arith; before = refl; wrong = λ e. other (same_head b w [] [] e) })
    by (inl same) (inl m) = inl (m.0, ap₂ (λ h t. h ∷ t) same m.1)
    by (inl same) (inr m) = inr (suc m.0, subst (λ c. IsWordWrong (w ∷ word) (c ∷ bytes) (suc m.0)) (sym same) (word_on word bytes w m.0 m.1))

pub met_word : {A : Type 0} (word : List ℕ) (text : A → List ℕ) (Allowed : A → Type 0) (bytes : List ℕ) → ((a : A) × Allowed a)
    → ((rest : List ℕ) → Met text Allowed rest)
    → Met (after_word word text) Allowed bytes
met_word {A = A} word text Allowed bytes any m = by (word_met word bytes)
  where
    after : (rest : List ℕ) → bytes ≡ word ++ rest → Met text Allowed rest → Met (after_word word text) Allowed bytes
    after rest is (read a i r e) = read a i r (is ∙ ap (λ t. word ++ t) e ∙ sym (append_assoc word (text a) r))
    after rest is (stuck k s) = stuck (length word + k) (stuck_after_word word text Allowed bytes rest k is s)

    by : ((rest : List ℕ) × (bytes ≡ word ++ rest)) ⊎ ((k : ℕ) × IsWordWrong word bytes k) → Met (after_word word text) Allowed bytes
    by (inl x) = after x.0 x.1 (m x.0)
    by (inr x) = stuck x.0 (stuck_in_word word text Allowed bytes x.0 any x.1)

-- ---- two parts
pub met_pair : {A B : Type 0} (text : A → List ℕ) (Allowed : A → Type 0) (next : A → B → List ℕ) (NextAllowed : A → B → Type 0) (bytes : List ℕ)
    → IsReadable text Allowed
    → ((a : A) → Allowed a → (b : B) × NextAllowed a b) → Met text Allowed bytes → ((a : A) → Allowed a → (rest : List ℕ) → Met (next a) (NextAllowed a) rest)
    → Met (pair_text text next) (PairAllowed Allowed NextAllowed) bytes
met_pair text Allowed next NextAllowed bytes readable any (stuck k s) m = stuck k (stuck_first text Allowed next NextAllowed bytes k any s)
met_pair {A = A} {B = B} text Allowed next NextAllowed bytes readable any (read a i rest e) m = by (m a i rest)
  where
    by : Met (next a) (NextAllowed a) rest → Met (pair_text text next) (PairAllowed Allowed NextAllowed) bytes
    by (read b j r f) = read (a, b) (i, j) r (e ∙ ap (λ t. text a ++ t) f ∙ sym (append_assoc (text a) (next a b) r))
    by (stuck k s) = stuck (length (text a) + k) (stuck_second text Allowed next NextAllowed bytes rest k a readable i e s)

pub met_next : {A B : Type 0} (text : A → List ℕ) (Allowed : A → Type 0) (next : B → List ℕ) (NextAllowed : B → Type 0) (bytes : List ℕ) → IsCode text Allowed
    → ((b : B) × NextAllowed b) → Met text Allowed bytes → ((rest : List ℕ) → Met next NextAllowed rest)
    → Met (pair_text text (λ _. next)) (PairAllowed Allowed (λ _. NextAllowed)) bytes
met_next text Allowed next NextAllowed bytes code any (stuck k s) m = stuck k (stuck_first text Allowed (λ _. next) (λ _. NextAllowed) bytes k (λ a i. any) s)
met_next {A = A} {B = B} text Allowed next NextAllowed bytes code any (read a i rest e) m = by (m rest)
  where
    by : Met next NextAllowed rest → Met (pair_text text (λ _. next)) (PairAllowed Allowed (λ _. NextAllowed)) bytes
    by (read b j r f) = read (a, b) (i, j) r (e ∙ ap (λ t. text a ++ t) f ∙ sym (append_assoc (text a) (next b) r))
    by (stuck k s) = stuck (length (text a) + k) (stuck_next text Allowed next NextAllowed bytes rest k a code i e s)

pub met_as : {A B : Type 0} (text : A → List ℕ) (Allowed : A → Type 0) (other : B → List ℕ) (OtherAllowed : B → Type 0) (bytes : List ℕ)
    → ((a : A) → Allowed a → (b : B) × OtherAllowed b × (other b ≡ text a)) → ((b : B) → OtherAllowed b → (a : A) × Allowed a × (text a ≡ other b))
    → Met text Allowed bytes → Met other OtherAllowed bytes
met_as text Allowed other OtherAllowed bytes to back (read a i rest e) = let b = to a i in read b.0 b.1 rest (e ∙ ap (λ t. t ++ rest) (sym b.2))
met_as text Allowed other OtherAllowed bytes to back (stuck k s) = stuck k (stuck_as text Allowed other OtherAllowed bytes k to back s)

-- ---- a known number of parts
pub met_parts : {V : Type 0} (part : ℕ → V → List ℕ) (Allowed : ℕ → V → Type 0) (count : ℕ) (bytes : List ℕ) → V
    → ((i : ℕ) → i < count → IsCode (part i) (Allowed i))
    → ((i : ℕ) → i < count → (v : V) × Allowed i v) → ((i : ℕ) → i < count → (rest : List ℕ) → Met (part i) (Allowed i) rest)
    → Met (parts_text part count) (PartsAllowed Allowed count) bytes
met_parts part Allowed zero bytes v codes any m = read (λ _. v) (λ i lt. absurd (omega (arith, lt))) bytes refl
met_parts {V = V} part Allowed (suc count) bytes v codes any m =
    met_as (before_and_last part count) (BeforeAndLast Allowed count) (parts_text part (suc count)) (PartsAllowed Allowed (suc count)) bytes
    (λ x h. one_more part Allowed count x h)
    (λ f h. ((f, f count), ((λ j lt. h j (omega (arith, lt))), h count (omega arith)), refl))
    (met_next (parts_text part count) (PartsAllowed Allowed count) (part count) (Allowed count) bytes
    (parts_code part Allowed count (λ j lt. codes j (omega (arith, lt)))) (any count (omega arith))
    (met_parts part Allowed count bytes v (λ j lt. codes j (omega (arith, lt))) (λ j lt. any j (omega (arith, lt))) (λ j lt. m j (omega (arith, lt))))
    (λ rest. m count (omega arith) rest))

-- ---- a number
-- whether some allowed number begins with the numeral
pub data Going (low : ℕ) (high : Option ℕ) (x : ℕ) : Type 0 where
  goes : (n : ℕ) (more : List ℕ) → IsBetween low high n → numeral n ≡ numeral x ++ more → Going low high x
  ended : ((n : ℕ) → x ≤ n → IsBetween low high n → ⊥) → Going low high x

between : (low : ℕ) (high : Option ℕ) (x : ℕ) → IsBetween low high x ⊎ (IsBetween low high x → ⊥)
between low None x = by (cases_lt x low)
  where
    by : (x < low) ⊎ (low ≤ x) → (low ≤ x) ⊎ (low ≤ x → ⊥)
    by (inl lt) = inr (λ h. omega (arith, h, lt))
    by (inr ge) = inl ge
between low (Some bound) x = by (cases_lt x low) (cases_lt x bound)
  where
    by : (x < low) ⊎ (low ≤ x) → (x < bound) ⊎ (bound ≤ x) → ((low ≤ x) × (x < bound)) ⊎ ((low ≤ x) × (x < bound) → ⊥)
    by (inl lt) o = inr (λ h. omega (arith, h.0, lt))
    by (inr ge) (inl lt) = inl (ge, lt)
    by (inr ge) (inr le) = inr (λ h. omega (arith, h.1, le))

data Kind (ending b : ℕ) : Type 0 where
  is_end : b ≡ ending → Kind ending b
  is_digit : (d : ℕ) → d < 10 → b ≡ 48 + d → Kind ending b
  is_other : (b ≡ ending → ⊥) → (47 < b → b < 58 → ⊥) → Kind ending b

kind : (ending b : ℕ) → Kind ending b
kind ending b = by (cases_eq b ending) (cases_lt 47 b) (cases_lt b 58)
  where
    by : (b ≡ ending) ⊎ (b ≡ ending → ⊥) → (47 < b) ⊎ (b ≤ 47) → (b < 58) ⊎ (58 ≤ b) → Kind ending b
    by (inl e) l h = is_end e
    by (inr o) (inl l) (inl h) = is_digit (b - 48) (omega (arith, l, h)) (omega (arith, l))
    by (inr o) (inl l) (inr h) = is_other o (λ x y. omega (arith, y, h))
    by (inr o) (inr l) h = is_other o (λ x y. omega (arith, x, l))

digits_on : (low : ℕ) (high : Option ℕ) (ending : ℕ) (bytes : List ℕ) → ending < 48 → ((x : ℕ) → 0 < x → Going low high x)
    → (rest : List ℕ) (x n : ℕ) (more : List ℕ) → IsBetween low high n → numeral n ≡ numeral x ++ more → bytes ≡ numeral x ++ rest
    → Met (ended_number ending) (IsBetween low high) bytes
unfolding AreStopped
digits_on low high ending bytes end going [] x n more i begun is =
    stuck (length (numeral x)) (stuck_number low high ending (numeral x) [] bytes end (stopped_number low high ending x [] more n i begun tt) is)
digits_on low high ending bytes end going (b ∷ r) x n more i begun is = by (kind ending b) (λ y. digits_on low high ending bytes end going r y)
  where
    stop : AreStopped low high ending x (b ∷ r) → Met (ended_number ending) (IsBetween low high) bytes
    stop h = stuck (length (numeral x)) (stuck_number low high ending (numeral x) (b ∷ r) bytes end
        (stopped_number low high ending x (b ∷ r) more n i begun h) is)

    at_end : b ≡ ending → IsBetween low high x ⊎ (IsBetween low high x → ⊥) → Met (ended_number ending) (IsBetween low high) bytes
    at_end e (inl holds) = read x holds r (is ∙ ap (λ c. numeral x ++ c ∷ r) e ∙ sym (append_assoc (numeral x) (ending ∷ []) r))
    at_end e (inr refuted) = stop ((λ f. refuted), (λ d lt f some m le j. omega (arith, e, f, end)))

    at_digit : (d : ℕ) → d < 10 → b ≡ 48 + d → (x ≡ 0) ⊎ (0 < x) → (0 < x → Going low high (x * 10 + d))
        → ((y n : ℕ) (more : List ℕ) → IsBetween low high n → numeral n ≡ numeral y ++ more → bytes ≡ numeral y ++ r
        → Met (ended_number ending) (IsBetween low high) bytes)
        → Met (ended_number ending) (IsBetween low high) bytes
    at_digit d lt e (inl zero_x) g on = stop ((λ f. absurd (omega (arith, e, f, end))), (λ c l f some m le j. omega (arith, some, zero_x)))
    at_digit d lt e (inr some) g on = with_going (g some)
      where
        with_going : Going low high (x * 10 + d) → Met (ended_number ending) (IsBetween low high) bytes
        with_going (goes m t j bg) = on (x * 10 + d) m t j bg
            (is ∙ ap (λ c. numeral x ++ c ∷ r) e ∙ sym (append_assoc (numeral x) ((48 + d) ∷ []) r) ∙ ap (λ t. t ++ r) (sym (numeral_more x d some lt)))
        with_going (ended refuted) = stop ((λ f. absurd (omega (arith, e, f, end))), (λ c l f s m le j. refuted m (omega (arith, le, e, f)) j))

    by : Kind ending b → ((y n : ℕ) (more : List ℕ) → IsBetween low high n → numeral n ≡ numeral y ++ more → bytes ≡ numeral y ++ r
        → Met (ended_number ending) (IsBetween low high) bytes)
        → Met (ended_number ending) (IsBetween low high) bytes
    by (is_end e) on = at_end e (between low high x)
    by (is_digit d lt e) on = at_digit d lt e (eq-zero-or-pos x) (λ some. going (x * 10 + d) (omega (arith, some))) on
    by (is_other o h) on = stop ((λ f. absurd (o f)), (λ d lt f s m le j. h (omega (arith, f)) (omega (arith, f, lt))))

-- a number from low on, if it is known which digits begin an allowed one
pub met_number : (low : ℕ) (high : Option ℕ) (ending : ℕ) (bytes : List ℕ) (n : ℕ) → ending < 48 → IsBetween low high n → ((x : ℕ) → 0 < x → Going low high x)
    → IsBetween low high 0 ⊎ (1 ≤ low) → Met (ended_number ending) (IsBetween low high) bytes
unfolding AreStoppedFirst
met_number low high ending [] n end i going zeros = stuck 0 (stuck_number low high ending [] [] [] end (stopped_first low high ending [] n i tt) refl)
met_number low high ending (b ∷ r) n end i going zeros = by (kind ending b)
  where
    stop : AreStoppedFirst low high (b ∷ r) → Met (ended_number ending) (IsBetween low high) (b ∷ r)
    stop h = stuck 0 (stuck_number low high ending [] (b ∷ r) (b ∷ r) end (stopped_first low high ending (b ∷ r) n i h) refl)

    first : (d : ℕ) → d < 10 → b ≡ 48 + d → b ∷ r ≡ numeral d ++ r
    first d lt e = ap (λ c. c ∷ r) e ∙ ap (λ t. t ++ r) (sym (numeral_small d lt))

    at_zero : IsBetween low high 0 ⊎ (1 ≤ low) → b ≡ 48 → Met (ended_number ending) (IsBetween low high) (b ∷ r)
    at_zero (inl z) e = digits_on low high ending (b ∷ r) end going r 0 0 [] z (sym (append-nil (numeral 0))) (first 0 (omega arith) e)
    at_zero (inr some) e = stop (inr (inl (e, some)))

    at_digit : (d : ℕ) → d < 10 → b ≡ 48 + d → (0 < d → Going low high d) → (d ≡ 0) ⊎ (0 < d) → Met (ended_number ending) (IsBetween low high) (b ∷ r)
    at_digit d lt e g (inl z) = at_zero zeros (omega (arith, e, z))
    at_digit d lt e g (inr some) = with_going (g some)
      where
        with_going : Going low high d → Met (ended_number ending) (IsBetween low high) (b ∷ r)
        with_going (goes m t j bg) = digits_on low high ending (b ∷ r) end going r d m t j bg (first d lt e)
        with_going (ended refuted) = stop (inr (inr (d, lt, e, refuted)))

    by : Kind ending b → Met (ended_number ending) (IsBetween low high) (b ∷ r)
    by (is_end e) = stop (inl (λ x y. omega (arith, x, e, end)))
    by (is_digit d lt e) = at_digit d lt e (going d) (eq-zero-or-pos d)
    by (is_other o h) = stop (inl h)

-- the base, a count, and a number below a bound
pub met_base : (bytes : List ℕ) → Met (ended_number 10) (IsBetween 2 (Some 17)) bytes
met_base bytes = met_number 2 (Some 17) 10 bytes 2 (omega arith) (omega arith, omega arith) (λ x some. by x some (cases_lt x 2) (cases_lt x 17))
    (inr (omega arith))
  where
    by : (x : ℕ) → 0 < x → (x < 2) ⊎ (2 ≤ x) → (x < 17) ⊎ (17 ≤ x) → Going 2 (Some 17) x
    by x some (inl lt) h = goes 10 (48 ∷ []) (omega arith, omega arith) (ten ∙ ap (λ y. numeral y ++ 48 ∷ []) (omega (arith, some, lt)))
      where
        ten : numeral 10 ≡ numeral 1 ++ 48 ∷ []
        ten = numeral_more 1 0 (omega arith) (omega arith)
    by x some (inr ge) (inl lt) = goes x [] (ge, lt) (sym (append-nil (numeral x)))
    by x some (inr ge) (inr le) = ended (λ n h i. omega (arith, h, le, i.1))

pub met_count : (bytes : List ℕ) → Met (ended_number 10) (IsBetween 1 None) bytes
met_count bytes = met_number 1 None 10 bytes 1 (omega arith) (omega arith) (λ x some. goes x [] some (sym (append-nil (numeral x)))) (inr (omega arith))

pub met_below : (bound ending : ℕ) (bytes : List ℕ) → 0 < bound → ending < 48 → Met (ended_number ending) (IsBetween 0 (Some bound)) bytes
met_below bound ending bytes some low = met_number 0 (Some bound) ending bytes 0 low (omega arith, some) (λ x s. by x (cases_lt x bound))
    (inl (omega arith, some))
  where
    by : (x : ℕ) → (x < bound) ⊎ (bound ≤ x) → Going 0 (Some bound) x
    by x (inl lt) = goes x [] (omega arith, lt) (sym (append-nil (numeral x)))
    by x (inr le) = ended (λ n h i. omega (arith, h, le, i.1))

-- ---- one of two words
met_chosen : {A : Type 0} (text : A → List ℕ) (a : A) (b : ℕ) (r : List ℕ) → AreTold text → b ≡ slice_index (text a) 0 → Met text IsAny (b ∷ r)
met_chosen text a b r t e = by (word_met (text a) (b ∷ r))
  where
    first_there : (w : List ℕ) → 0 < length w → b ≡ slice_index w 0 → take 1 (b ∷ r) ≡ take 1 w
    first_there [] s e = absurd (omega (arith, s))
    first_there (c ∷ w) s e = ap (λ h. h ∷ []) e

    by : ((rest : List ℕ) × (b ∷ r ≡ text a ++ rest)) ⊎ ((k : ℕ) × IsWordWrong (text a) (b ∷ r) k) → Met text IsAny (b ∷ r)
    by (inl x) = read a tt x.0 x.1
    by (inr x) = at x.0 x.1
      where
        at : (k : ℕ) → IsWordWrong (text a) (b ∷ r) k → Met text IsAny (b ∷ r)
        at zero w = absurd (w.wrong (first_there (text a) (t.some a) e))
        at (suc k) w = stuck (suc k) (stuck_chosen text a (b ∷ r) (suc k) t (omega arith) w)

pub met_sort : (bytes : List ℕ) → Met sort_word IsAny bytes
unfolding IsNoFirst
met_sort [] = stuck 0 (stuck_none sort_word Int [] sorts_told tt)
met_sort (b ∷ r) = by (cases_eq b 105) (cases_eq b 114)
  where
    by : (b ≡ 105) ⊎ (b ≡ 105 → ⊥) → (b ≡ 114) ⊎ (b ≡ 114 → ⊥) → Met sort_word IsAny (b ∷ r)
    by (inl e) o = met_chosen sort_word Int b r sorts_told e
    by (inr n) (inl e) = met_chosen sort_word Real b r sorts_told e
    by (inr n) (inr m) = stuck 0 (stuck_none sort_word Int (b ∷ r) sorts_told none)
      where
        none : (s : Sort) → b ≡ slice_index (sort_word s) 0 → ⊥
        none Int e = n e
        none Real e = m e

pub met_answer : (bytes : List ℕ) → Met ended_answer IsAny bytes
unfolding IsNoFirst
met_answer [] = stuck 0 (stuck_none ended_answer true [] answers_told tt)
met_answer (b ∷ r) = by (cases_eq b 43) (cases_eq b 45)
  where
    by : (b ≡ 43) ⊎ (b ≡ 43 → ⊥) → (b ≡ 45) ⊎ (b ≡ 45 → ⊥) → Met ended_answer IsAny (b ∷ r)
    by (inl e) o = met_chosen ended_answer true b r answers_told e
    by (inr n) (inl e) = met_chosen ended_answer false b r answers_told e
    by (inr n) (inr m) = stuck 0 (stuck_none ended_answer true (b ∷ r) answers_told none)
      where
        none : (s : Bool) → b ≡ slice_index (ended_answer s) 0 → ⊥
        none true e = n e
        none false e = m e
