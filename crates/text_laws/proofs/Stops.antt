-- Where a reader stops: parts one after another, and words in front.
use Rattle.std.proofs.Common.{◌≡◌, ℕ, ◌+◌, ◌≤◌, ◌<◌, List, ◌++◌, length, take, drop, arith, refl, ◌∙◌, sym, ap, subst, append_assoc, length-append}
use Rattle.std.proofs.Common.{take-append-drop, take_at, take-take, length-take-le}
use Rattle.std.proofs.lemmas.List.{append_cancel_left, take_all, take-append-le}
use Rattle.std.proofs.Math.Seq.{take-append-add}
use Rattle.std.proofs.lemmas.Bool.{cases_lt}
use mathlib.Core.Logic.{◌⊎◌, inl, inr}
use Rattle.text_laws.specs.Reading.{IsStuck, pair_text, PairAllowed, after_word, IsWordWrong}

-- two lists that agree on more places agree on fewer
pub agree_less : (m n : ℕ) (xs ys : List ℕ) → m ≤ n → take n xs ≡ take n ys → take m xs ≡ take m ys
agree_less m n xs ys h e = sym (take-take m n xs h) ∙ ap (take m) e ∙ take-take m n ys h

-- after a common front
pub agree_after : (front xs ys : List ℕ) (n : ℕ) → take (length front + n) (front ++ xs) ≡ take (length front + n) (front ++ ys) → take n xs ≡ take n ys
agree_after front xs ys n e = append_cancel_left front (take n xs) (take n ys) (sym (take-append-add front xs n) ∙ e ∙ take-append-add front ys n)

-- what agrees with a front and beyond begins with it
pub begun_by : (front xs ys : List ℕ) (n : ℕ) → take (length front + n) (front ++ xs) ≡ take (length front + n) ys → (more : List ℕ) × (ys ≡ front ++ more)
begun_by front xs ys n e = (drop (length front) ys, sym (take-append-drop (length front) ys) ∙ ap (λ f. f ++ drop (length front) ys) is)
  where
    is : take (length front) ys ≡ front
    is = sym (agree_less (length front) (length front + n) (front ++ xs) ys (omega arith) e) ∙ take_at front xs (length front) refl

-- the texts of a kind are told from one another in front of anything (no text begins another)
unfoldable pub IsCode : {A : Type 0} → (A → List ℕ) → (A → Type 0) → Type 0
IsCode {A} text Allowed = (a b : A) → Allowed a → Allowed b → (x y : List ℕ) → text a ++ x ≡ text b ++ y → text a ≡ text b

-- and so are the values
unfoldable pub IsReadable : {A : Type 0} → (A → List ℕ) → (A → Type 0) → Type 0
IsReadable {A} text Allowed = (a b : A) → Allowed a → Allowed b → (x y : List ℕ) → text a ++ x ≡ text b ++ y → a ≡ b

pub code_of : {A : Type 0} (text : A → List ℕ) (Allowed : A → Type 0) → IsReadable text Allowed → IsCode text Allowed
unfolding IsCode IsReadable
code_of text Allowed r a b ia ib x y e = ap text (r a b ia ib x y e)

-- stuck in the first of two parts
pub stuck_first : {A B : Type 0} (text : A → List ℕ) (Allowed : A → Type 0) (next : A → B → List ℕ) (NextAllowed : A → B → Type 0) (bytes : List ℕ) (k : ℕ)
    → ((a : A) → Allowed a → (b : B) × NextAllowed a b) → IsStuck text Allowed bytes k
    → IsStuck (pair_text text next) (PairAllowed Allowed NextAllowed) bytes k
stuck_first text Allowed next NextAllowed bytes k any s = let d = any s.value s.allowed in record {
  value = (s.value, d.0);
  allowed = (s.allowed, d.1);
  more = s.more ++ next s.value d.0;
  begins = ap (λ t. t ++ next s.value d.0) s.begins ∙ append_assoc (take k bytes) s.more (next s.value d.0);
  inside = s.inside;
  excluded = λ x i z e. s.excluded x.0 i.0 (next x.0 x.1 ++ z) (e ∙ ap (take (k + 1)) (append_assoc (text x.0) (next x.0 x.1) z));
}

-- front and k places more
take_after : (front rest bytes : List ℕ) (k : ℕ) → bytes ≡ front ++ rest → take (length front + k) bytes ≡ front ++ take k rest
take_after front rest bytes k e = ap (take (length front + k)) e ∙ take-append-add front rest k

begins_after : (front rest bytes text more : List ℕ) (k : ℕ) → bytes ≡ front ++ rest → text ≡ take k rest ++ more
    → front ++ text ≡ take (length front + k) bytes ++ more
begins_after front rest bytes text more k e b = ap (λ t. front ++ t) b ∙ sym (append_assoc front (take k rest) more)
    ∙ ap (λ t. t ++ more) (sym (take_after front rest bytes k e))

inside_after : (front rest bytes : List ℕ) (k : ℕ) → bytes ≡ front ++ rest → k ≤ length rest → length front + k ≤ length bytes
inside_after front rest bytes k e h = omega (arith, h, ap length e, length-append front rest)

same_place : (n k : ℕ) → n + k + 1 ≡ n + (k + 1)
same_place n k = omega arith

-- agreement with what two parts begin, put after the front
agree_parts : (front rest bytes text next z : List ℕ) (k : ℕ) → bytes ≡ front ++ rest
    → take (length front + k + 1) bytes ≡ take (length front + k + 1) ((text ++ next) ++ z)
    → take (length front + (k + 1)) (front ++ rest) ≡ take (length front + (k + 1)) (text ++ (next ++ z))
agree_parts front rest bytes text next z k is e = subst (λ n. take n (front ++ rest) ≡ take n (text ++ (next ++ z))) (same_place (length front) k)
    (ap (take (length front + k + 1)) (sym is) ∙ e ∙ ap (take (length front + k + 1)) (append_assoc text next z))

-- stuck in the second, after the first was read
pub stuck_second : {A B : Type 0} (text : A → List ℕ) (Allowed : A → Type 0) (next : A → B → List ℕ) (NextAllowed : A → B → Type 0) (bytes rest : List ℕ)
    (k : ℕ) (a : A)
    → IsReadable text Allowed → Allowed a → bytes ≡ text a ++ rest → IsStuck (next a) (NextAllowed a) rest k
    → IsStuck (pair_text text next) (PairAllowed Allowed NextAllowed) bytes (length (text a) + k)
unfolding IsReadable
stuck_second {A = A} {B = B} text Allowed next NextAllowed bytes rest k a code ia is s = record {
  value = (a, s.value);
  allowed = (ia, s.allowed);
  more = s.more;
  begins = begins_after (text a) rest bytes (next a s.value) s.more k is s.begins;
  inside = inside_after (text a) rest bytes k is s.inside;
  excluded = excluded;
}
  where
    excluded : (x : A × B) → Allowed x.0 × NextAllowed x.0 x.1 → (z : List ℕ)
        → take (length (text a) + k + 1) bytes ≡ take (length (text a) + k + 1) ((text x.0 ++ next x.0 x.1) ++ z) → ⊥
    excluded x i z e =
        let agree = agree_parts (text a) rest bytes (text x.0) (next x.0 x.1) z k is e in
        let begun = begun_by (text a) rest (text x.0 ++ (next x.0 x.1 ++ z)) (k + 1) agree in
        let same : x.0 ≡ a = code x.0 a i.0 ia (next x.0 x.1 ++ z) begun.0 begun.1 in
        by x.0 same x.1 i.1 agree
      where
        by : (b : A) → b ≡ a → (n : B) → NextAllowed b n
            → take (length (text a) + (k + 1)) (text a ++ rest) ≡ take (length (text a) + (k + 1)) (text b ++ (next b n ++ z)) → ⊥
        by b same = subst (λ c. (n : B) → NextAllowed c n
            → take (length (text a) + (k + 1)) (text a ++ rest) ≡ take (length (text a) + (k + 1)) (text c ++ (next c n ++ z)) → ⊥) (sym same)
            (λ n j agree. s.excluded n j z (agree_after (text a) rest (next a n ++ z) (k + 1) agree))

-- the same, if the second does not depend on the first, and only texts are told apart
pub stuck_next : {A B : Type 0} (text : A → List ℕ) (Allowed : A → Type 0) (next : B → List ℕ) (NextAllowed : B → Type 0) (bytes rest : List ℕ) (k : ℕ) (a : A)
    → IsCode text Allowed → Allowed a → bytes ≡ text a ++ rest → IsStuck next NextAllowed rest k
    → IsStuck (pair_text text (λ _. next)) (PairAllowed Allowed (λ _. NextAllowed)) bytes (length (text a) + k)
unfolding IsCode
stuck_next {A = A} {B = B} text Allowed next NextAllowed bytes rest k a code ia is s = record {
  value = (a, s.value);
  allowed = (ia, s.allowed);
  more = s.more;
  begins = begins_after (text a) rest bytes (next s.value) s.more k is s.begins;
  inside = inside_after (text a) rest bytes k is s.inside;
  excluded = excluded;
}
  where
    excluded : (x : A × B) → Allowed x.0 × NextAllowed x.1 → (z : List ℕ)
        → take (length (text a) + k + 1) bytes ≡ take (length (text a) + k + 1) ((text x.0 ++ next x.1) ++ z) → ⊥
    excluded x i z e =
        let agree = agree_parts (text a) rest bytes (text x.0) (next x.1) z k is e in
        let begun = begun_by (text a) rest (text x.0 ++ (next x.1 ++ z)) (k + 1) agree in
        let same : text x.0 ≡ text a = code x.0 a i.0 ia (next x.1 ++ z) begun.0 begun.1 in
        s.excluded x.1 i.1 z (agree_after (text a) rest (next x.1 ++ z) (k + 1)
        (agree ∙ ap (λ t. take (length (text a) + (k + 1)) (t ++ (next x.1 ++ z))) same))

pub stuck_after_word : {A : Type 0} (word : List ℕ) (text : A → List ℕ) (Allowed : A → Type 0) (bytes rest : List ℕ) (k : ℕ) → bytes ≡ word ++ rest
    → IsStuck text Allowed rest k → IsStuck (after_word word text) Allowed bytes (length word + k)
stuck_after_word {A = A} word text Allowed bytes rest k is s = record {
  value = s.value;
  allowed = s.allowed;
  more = s.more;
  begins = begins_after word rest bytes (text s.value) s.more k is s.begins;
  inside = inside_after word rest bytes k is s.inside;
  excluded = λ a i z e. s.excluded a i z (agree_after word rest (text a ++ z) (k + 1) (agree_parts word rest bytes word (text a) z k is e));
}

pub front_inside : (word bytes : List ℕ) (k : ℕ) → k ≤ length word → take k bytes ≡ take k word → k ≤ length bytes
front_inside word bytes k h e = by (cases_lt (length bytes) k)
  where
    by : (length bytes < k) ⊎ (k ≤ length bytes) → k ≤ length bytes
    by (inr ge) = ge
    by (inl lt) = absurd (omega (arith, lt, ap length (sym (take_all k bytes (omega (arith, lt))) ∙ e), length-take-le k word h))

pub stuck_in_word : {A : Type 0} (word : List ℕ) (text : A → List ℕ) (Allowed : A → Type 0) (bytes : List ℕ) (k : ℕ) → ((a : A) × Allowed a)
    → IsWordWrong word bytes k
    → IsStuck (after_word word text) Allowed bytes k
stuck_in_word {A = A} word text Allowed bytes k any w = record {
  value = any.0;
  allowed = any.1;
  more = drop k word ++ text any.0;
  begins = ap (λ t. t ++ text any.0) (sym (take-append-drop k word) ∙ ap (λ t. t ++ drop k word) (sym w.before))
      ∙ append_assoc (take k bytes) (drop k word) (text any.0);
  inside = front_inside word bytes k (omega (arith, w.inside)) w.before;
  excluded = λ a i z e. w.wrong (e ∙ ap (take (k + 1)) (append_assoc word (text a) z) ∙ take-append-le (k + 1) word (text a ++ z) (omega (arith, w.inside)));
}

-- the same texts of other values
pub stuck_as : {A B : Type 0} (text : A → List ℕ) (Allowed : A → Type 0) (other : B → List ℕ) (OtherAllowed : B → Type 0) (bytes : List ℕ) (k : ℕ)
    → ((a : A) → Allowed a → (b : B) × OtherAllowed b × (other b ≡ text a)) → ((b : B) → OtherAllowed b → (a : A) × Allowed a × (text a ≡ other b))
    → IsStuck text Allowed bytes k → IsStuck other OtherAllowed bytes k
stuck_as {A = A} {B = B} text Allowed other OtherAllowed bytes k to back s = let v = to s.value s.allowed in record {
  value = v.0;
  allowed = v.1;
  more = s.more;
  begins = v.2 ∙ s.begins;
  inside = s.inside;
  excluded = λ b i z e. let a = back b i in s.excluded a.0 a.1 z (e ∙ ap (λ t. take (k + 1) (t ++ z)) (sym a.2));
}

-- ---- reading in one way
pub pair_readable : {A B : Type 0} (text : A → List ℕ) (Allowed : A → Type 0) (next : A → B → List ℕ) (NextAllowed : A → B → Type 0)
    → IsReadable text Allowed → ((a : A) → IsReadable (next a) (NextAllowed a)) → IsReadable (pair_text text next) (PairAllowed Allowed NextAllowed)
unfolding IsReadable
pair_readable {A = A} {B = B} text Allowed next NextAllowed first second v w iv iw x y e =
    let after : text v.0 ++ (next v.0 v.1 ++ x) ≡ text w.0 ++ (next w.0 w.1 ++ y) = sym (append_assoc (text v.0) (next v.0 v.1) x) ∙ e
    ∙ append_assoc (text w.0) (next w.0 w.1) y in
    let same : v.0 ≡ w.0 = first v.0 w.0 iv.0 iw.0 (next v.0 v.1 ++ x) (next w.0 w.1 ++ y) after in
    by v.0 same v.1 iv.1 after
  where
    by : (a : A) → a ≡ w.0 → (b : B) → NextAllowed a b → text a ++ (next a b ++ x) ≡ text w.0 ++ (next w.0 w.1 ++ y) → ◌≡◌ {A = A × B} (a, b) (w.0, w.1)
    by a same = subst (λ c. (b : B) → NextAllowed c b → text c ++ (next c b ++ x) ≡ text w.0 ++ (next w.0 w.1 ++ y) → ◌≡◌ {A = A × B} (c, b) (w.0, w.1))
        (sym same)
        (λ b i e. ap (λ d. (w.0, d)) (second w.0 b w.1 i iw.1 x y (append_cancel_left (text w.0) (next w.0 b ++ x) (next w.0 w.1 ++ y) e)))

pub word_readable : {A : Type 0} (word : List ℕ) (text : A → List ℕ) (Allowed : A → Type 0) → IsReadable text Allowed
    → IsReadable (after_word word text) Allowed
unfolding IsReadable
word_readable word text Allowed r v w iv iw x y e =
    r v w iv iw x y (append_cancel_left word (text v ++ x) (text w ++ y) (sym (append_assoc word (text v) x) ∙ e ∙ append_assoc word (text w) y))

-- the same for texts alone
pub pair_code : {A B : Type 0} (text : A → List ℕ) (Allowed : A → Type 0) (next : B → List ℕ) (NextAllowed : B → Type 0)
    → IsCode text Allowed → IsCode next NextAllowed → IsCode (pair_text text (λ _. next)) (PairAllowed Allowed (λ _. NextAllowed))
unfolding IsCode
pair_code text Allowed next NextAllowed first second v w iv iw x y e =
    let after : text v.0 ++ (next v.1 ++ x) ≡ text w.0 ++ (next w.1 ++ y) = sym (append_assoc (text v.0) (next v.1) x) ∙ e
    ∙ append_assoc (text w.0) (next w.1) y in
    let same : text v.0 ≡ text w.0 = first v.0 w.0 iv.0 iw.0 (next v.1 ++ x) (next w.1 ++ y) after in
    ap (λ t. t ++ next v.1) same ∙ ap (λ t. text w.0 ++ t) (second v.1 w.1 iv.1 iw.1 x y
    (append_cancel_left (text w.0) (next v.1 ++ x) (next w.1 ++ y) (ap (λ t. t ++ (next v.1 ++ x)) (sym same) ∙ after)))

pub word_code : {A : Type 0} (word : List ℕ) (text : A → List ℕ) (Allowed : A → Type 0) → IsCode text Allowed → IsCode (after_word word text) Allowed
unfolding IsCode
word_code word text Allowed r v w iv iw x y e =
    ap (λ t. word ++ t) (r v w iv iw x y (append_cancel_left word (text v ++ x) (text w ++ y)
    (sym (append_assoc word (text v) x) ∙ e ∙ append_assoc word (text w) y)))

-- other values with the same texts
pub code_as : {A B : Type 0} (text : A → List ℕ) (Allowed : A → Type 0) (other : B → List ℕ) (OtherAllowed : B → Type 0)
    → ((b : B) → OtherAllowed b → (a : A) × Allowed a × (text a ≡ other b)) → IsCode text Allowed → IsCode other OtherAllowed
unfolding IsCode
code_as text Allowed other OtherAllowed back r v w iv iw x y e =
    let a = back v iv in
    let b = back w iw in
    sym a.2 ∙ r a.0 b.0 a.1 b.1 x y (ap (λ t. t ++ x) a.2 ∙ e ∙ ap (λ t. t ++ y) (sym b.2)) ∙ b.2
