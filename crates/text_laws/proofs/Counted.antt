-- A known number of parts one after another, each with a value: read in one way, and where a reader stops.
use Rattle.std.proofs.Common.{◌≡◌, ℕ, zero, suc, ◌+◌, ◌≤◌, ◌<◌, Bool, true, false, List, ◌++◌, length, arith, refl, sym, ap, ap₂, subst, ◌⊎◌, inl, inr}
use Rattle.std.specs.Prelude.{nat_eq, if◌then◌else◌}
use Rattle.std.proofs.lemmas.Bool.{cases_lt}
use Rattle.automaton_texts.specs.Text.{texts_upto}
use Rattle.text_laws.specs.Reading.{IsStuck, pair_text, PairAllowed, parts_text, PartsAllowed}
use Rattle.text_laws.proofs.Stops.{IsCode, stuck_first, stuck_next, stuck_as, pair_code}

-- texts that are equal one by one
pub same_texts : (f g : ℕ → List ℕ) (count : ℕ) → ((i : ℕ) → i < count → f i ≡ g i) → texts_upto f count ≡ texts_upto g count
same_texts f g zero h = refl
same_texts f g (suc count) h = ap₂ (λ x y. x ++ y) (same_texts f g count (λ i lt. h i (omega (arith, lt)))) (h count (omega arith))

-- one value more
put : {V : Type 0} → (ℕ → V) → ℕ → V → ℕ → V
put f i v j = if nat_eq j i then v else f j

put_here : {V : Type 0} (f : ℕ → V) (i : ℕ) (v : V) → put f i v i ≡ v
unfolding put
put_here f i v = by (nat_eq i i) (same i)
  where
    same : (i : ℕ) → nat_eq i i ≡ true
    same i = grind arith

    by : (c : Bool) → c ≡ true → (if c then v else f i) ≡ v
    by true e = refl
    by false e = absurd (parted e)
      where
        parted : false ≡ true → ⊥
        parted e = cc

put_before : {V : Type 0} (f : ℕ → V) (i : ℕ) (v : V) (j : ℕ) → j < i → put f i v j ≡ f j
unfolding put
put_before f i v j h = by (nat_eq j i) (other j i h)
  where
    other : (j i : ℕ) → j < i → nat_eq j i ≡ false
    other j i h = grind arith

    by : (c : Bool) → c ≡ false → (if c then v else f j) ≡ f j
    by false e = refl
    by true e = absurd (parted e)
      where
        parted : true ≡ false → ⊥
        parted e = cc

-- the parts before the last, and the last
abbrev pub before_and_last : {V : Type 0} → (ℕ → V → List ℕ) → ℕ → ((ℕ → V) × V) → List ℕ
before_and_last part i = pair_text (parts_text part i) (λ _. part i)

abbrev pub BeforeAndLast : {V : Type 0} → (ℕ → V → Type 0) → ℕ → ((ℕ → V) × V) → Type 0
BeforeAndLast Allowed i = PairAllowed (PartsAllowed Allowed i) (λ _. Allowed i)

one_more_text : {V : Type 0} (part : ℕ → V → List ℕ) (i : ℕ) (f : ℕ → V) (v : V) → parts_text part (suc i) (put f i v) ≡ before_and_last part i (f, v)
one_more_text part i f v = ap₂ (λ x y. x ++ y) (same_texts (λ j. part j (put f i v j)) (λ j. part j (f j)) i (λ j h. ap (part j) (put_before f i v j h)))
    (ap (part i) (put_here f i v))

below_more : (j i : ℕ) → j < suc i → (j < i) ⊎ (i ≡ j)
below_more j i h = by (cases_lt j i)
  where
    by : (j < i) ⊎ (i ≤ j) → (j < i) ⊎ (i ≡ j)
    by (inl lt) = inl lt
    by (inr ge) = inr (omega (arith, h, ge))

one_more_allowed : {V : Type 0} (Allowed : ℕ → V → Type 0) (i : ℕ) (f : ℕ → V) (v : V) → PartsAllowed Allowed i f → Allowed i v
    → PartsAllowed Allowed (suc i) (put f i v)
one_more_allowed Allowed i f v h k j lt = by (below_more j i lt)
  where
    by : (j < i) ⊎ (i ≡ j) → Allowed j (put f i v j)
    by (inl lt) = subst (Allowed j) (sym (put_before f i v j lt)) (h j lt)
    by (inr same) = subst (λ n. Allowed n (put f i v n)) same (subst (Allowed i) (sym (put_here f i v)) k)

pub one_more : {V : Type 0} (part : ℕ → V → List ℕ) (Allowed : ℕ → V → Type 0) (i : ℕ) (x : (ℕ → V) × V) → BeforeAndLast Allowed i x
    → (f : ℕ → V) × PartsAllowed Allowed (suc i) f × (parts_text part (suc i) f ≡ before_and_last part i x)
one_more part Allowed i x h = (put x.0 i x.1, one_more_allowed Allowed i x.0 x.1 h.0 h.1, one_more_text part i x.0 x.1)

-- as parts of one more
of_pair : {V : Type 0} (part : ℕ → V → List ℕ) (Allowed : ℕ → V → Type 0) (i : ℕ) (bytes : List ℕ) (k : ℕ)
    → IsStuck (before_and_last part i) (BeforeAndLast Allowed i) bytes k → IsStuck (parts_text part (suc i)) (PartsAllowed Allowed (suc i)) bytes k
of_pair part Allowed i bytes k s = stuck_as (before_and_last part i) (BeforeAndLast Allowed i) (parts_text part (suc i)) (PartsAllowed Allowed (suc i)) bytes k
    (λ x h. (put x.0 i x.1, one_more_allowed Allowed i x.0 x.1 h.0 h.1, one_more_text part i x.0 x.1))
    (λ f h. ((f, f i), ((λ j lt. h j (omega (arith, lt))), h i (omega arith)), refl)) s

-- texts of parts are told from one another, if those of each part are
pub parts_code : {V : Type 0} (part : ℕ → V → List ℕ) (Allowed : ℕ → V → Type 0) (count : ℕ) → ((i : ℕ) → i < count → IsCode (part i) (Allowed i))
    → IsCode (parts_text part count) (PartsAllowed Allowed count)
unfolding IsCode
parts_code part Allowed zero codes f g hf hg x y e = refl
parts_code part Allowed (suc count) codes f g hf hg x y e = pair_code (parts_text part count) (PartsAllowed Allowed count) (part count) (Allowed count)
    (parts_code part Allowed count (λ i lt. codes i (omega (arith, lt)))) (codes count (omega arith)) (f, f count) (g, g count)
    ((λ j lt. hf j (omega (arith, lt))), hf count (omega arith)) ((λ j lt. hg j (omega (arith, lt))), hg count (omega arith)) x y e

-- stuck in the part at a place, after those before it were read
pub stuck_at_part : {V : Type 0} (part : ℕ → V → List ℕ) (Allowed : ℕ → V → Type 0) (count i : ℕ) (f : ℕ → V) (bytes rest : List ℕ) (k : ℕ) → i < count
    → ((j : ℕ) → j < count → IsCode (part j) (Allowed j)) → ((j : ℕ) → j < count → (v : V) × Allowed j v) → PartsAllowed Allowed i f
    → bytes ≡ parts_text part i f ++ rest
    → IsStuck (part i) (Allowed i) rest k → IsStuck (parts_text part count) (PartsAllowed Allowed count) bytes (length (parts_text part i f) + k)
stuck_at_part part Allowed zero i f bytes rest k lt codes any h is s = absurd (omega (arith, lt))
stuck_at_part {V = V} part Allowed (suc count) i f bytes rest k lt codes any h is s =
    by (below_more i count lt) (λ lt. stuck_at_part part Allowed count i f bytes rest k lt (λ j l. codes j (omega (arith, l)))
    (λ j l. any j (omega (arith, l))) h is s)
  where
    longer : IsStuck (parts_text part count) (PartsAllowed Allowed count) bytes (length (parts_text part i f) + k)
        → IsStuck (parts_text part (suc count)) (PartsAllowed Allowed (suc count)) bytes (length (parts_text part i f) + k)
    longer s = of_pair part Allowed count bytes (length (parts_text part i f) + k)
        (stuck_first (parts_text part count) (PartsAllowed Allowed count) (λ _. part count) (λ _. Allowed count) bytes (length (parts_text part i f) + k)
        (λ g j. any count (omega arith)) s)

    last : IsStuck (parts_text part (suc i)) (PartsAllowed Allowed (suc i)) bytes (length (parts_text part i f) + k)
    last = of_pair part Allowed i bytes (length (parts_text part i f) + k)
        (stuck_next (parts_text part i) (PartsAllowed Allowed i) (part i) (Allowed i) bytes rest k f
        (parts_code part Allowed i (λ j l. codes j (omega (arith, l, lt)))) h is s)

    by : (i < count) ⊎ (count ≡ i) → (i < count → IsStuck (parts_text part count) (PartsAllowed Allowed count) bytes (length (parts_text part i f) + k))
        → IsStuck (parts_text part (suc count)) (PartsAllowed Allowed (suc count)) bytes (length (parts_text part i f) + k)
    by (inl lt) inner = longer (inner lt)
    by (inr same) inner = subst (λ n. IsStuck (parts_text part (suc n)) (PartsAllowed Allowed (suc n)) bytes (length (parts_text part i f) + k)) (sym same)
        last
