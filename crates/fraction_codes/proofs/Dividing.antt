-- The loops of a long division: one remainder more, and one step more.
use Rattle.std.proofs.Common.{◌≡◌, ℕ, suc, ◌+◌, ◌-◌, ◌*◌, ◌/◌, ◌%◌, ◌^◌, ◌≤◌, ◌<◌, List, [], ◌∷◌, ◌++◌, length, map, take, drop, get_or, set, arith, refl, ◌∙◌, sym, ap, subst, append_assoc}
use Rattle.std.specs.Prelude.{All}
use Rattle.std.proofs.lemmas.List.{length-map, length-set, length-take-le, map_more, take_more_set, drop-set-lt, drop-drop, get_or-drop, take_all, append-nil}
use Rattle.std.proofs.lemmas.List.Elements.{All-same, All-take}
use Rattle.lash_model.specs.Letters.{number}
use Rattle.fraction_codes.specs.LongDivision.{next_letter, next_rests, rests_after, letters_of}
use Rattle.fraction_codes.specs.Steps.{IsDivided, IsUnderWay}
use Rattle.fraction_codes.proofs.Digits.{number-push, shorter_few}
use Rattle.fraction_codes.proofs.LongRuns.{next_below, letter_below}

pub divided_none : (r d : ℕ) (rests : List ℕ) → IsDivided r d rests rests 0 0
unfolding number
divided_none r d rests = record { letter_is = refl; done = refl; left = refl; count = refl }

-- the next remainder is still the old one
pub divided_entry : (r d i letter : ℕ) (old now : List ℕ) → IsDivided r d old now i letter → get_or now i 0 ≡ get_or old i 0
divided_entry r d i letter old now is = here now ∙ ap (λ xs. get_or xs 0 0) is.left ∙ sym (here old)
  where
    here : (xs : List ℕ) → get_or xs i 0 ≡ get_or (drop i xs) 0 0
    here xs = ap (λ k. get_or xs k 0) plus_zero ∙ sym (get_or-drop i xs 0 0)
      where
        plus_zero : i ≡ i + 0
        plus_zero = omega arith

pub divided_below : (r d i letter : ℕ) (old now : List ℕ) → IsDivided r d old now i letter → i < length old → All (λ p. p < d) old → get_or now i 0 < d
divided_below r d i letter old now is h all = subst (λ p. p < d) (sym (divided_entry r d i letter old now is)) (all i 0 h)

pub divided_more : (r d i letter : ℕ) (old now : List ℕ) → i < length old → IsDivided r d old now i letter → IsDivided r d old (set now i (r * get_or now i 0 % d)) (i + 1) (letter * r + r * get_or now i 0 / d)
divided_more r d i letter old now h is = record {
  letter_is = ap (λ l. l * r + r * get_or now i 0 / d) is.letter_is ∙ ap (λ p. next_letter r d (take i old) * r + r * p / d) entry ∙ sym (number-push r (map (λ p. r * p / d) (take i old)) (r * get_or old i 0 / d)) ∙ ap (number r) (sym (map_more (λ p. r * p / d) old i 0 h));
  done = take_more_set now i (r * get_or now i 0 % d) inside ∙ ap (λ xs. xs ++ r * get_or now i 0 % d ∷ []) is.done ∙ ap (λ p. next_rests r d (take i old) ++ r * p % d ∷ []) entry ∙ sym (map_more (λ p. r * p % d) old i 0 h);
  left = drop-set-lt (i + 1) now i (r * get_or now i 0 % d) (omega arith) ∙ sym (drop-drop 1 i now) ∙ ap (drop 1) is.left ∙ drop-drop 1 i old;
  count = length-set now i (r * get_or now i 0 % d) ∙ is.count;
}
  where
    entry : get_or now i 0 ≡ get_or old i 0
    entry = divided_entry r d i letter old now is

    inside : i < length now
    inside = omega (arith, h, is.count)

-- the letter so far is small
pub divided_small : (r d i letter : ℕ) (old now : List ℕ) → 0 < r → i ≤ length old → r ^ length old ≤ 4096 → All (λ p. p < d) old → IsDivided r d old now i letter → letter < 4096
divided_small r d i letter old now h l few all is = omega (arith, is.letter_is, letter_below r d (take i old) h (All-take (λ p. p < d) i old all), ap (λ k. r ^ k) (length-take-le i old l), shorter_few r (length old) i 4096 h l few)

-- all were divided
pub divided_all : (r d i letter : ℕ) (old now : List ℕ) → length old ≤ i → IsDivided r d old now i letter → now ≡ next_rests r d old
divided_all r d i letter old now h is = sym (take_all i now (omega (arith, h, is.count))) ∙ is.done ∙ ap (next_rests r d) (take_all i old h)

pub divided_stays_below : (r d i letter : ℕ) (old now : List ℕ) → length old ≤ i → All (λ p. p < d) old → IsDivided r d old now i letter → All (λ p. p < d) now
divided_stays_below r d i letter old now h all is = All-same (λ p. p < d) now (next_rests r d old) (divided_all r d i letter old now h is) (next_below r d old all)

-- one step more
pub under_more : (r d steps k : ℕ) (old now word : List ℕ) → All (λ p. p < d) now → IsUnderWay r d steps old now word (suc k) → IsUnderWay r d steps old (next_rests r d now) (word ++ next_letter r d now ∷ []) k
unfolding letters_of rests_after
under_more r d steps k old now word all is = record {
  letters = append_assoc word (next_letter r d now ∷ []) (letters_of r d k (next_rests r d now)) ∙ is.letters;
  rests = is.rests;
  count = length-map now (λ p. r * p % d) ∙ is.count;
  below = next_below r d now all;
}

pub under_next : (r d steps at l : ℕ) (old now then word longer : List ℕ) → at < steps → IsUnderWay r d steps old now word (steps - at) → then ≡ next_rests r d now → l ≡ next_letter r d now → longer ≡ word ++ l ∷ [] → IsUnderWay r d steps old then longer (steps - (at + 1))
under_next r d steps at l old now then word longer h is et el ew =
    let P : List ℕ → Type 0 = λ xs. IsUnderWay r d steps old xs longer (steps - (at + 1)) in
    let Q : List ℕ → Type 0 = λ xs. IsUnderWay r d steps old (next_rests r d now) xs (steps - (at + 1)) in
    let R : ℕ → Type 0 = λ k. IsUnderWay r d steps old now word k in
    let last : word ++ next_letter r d now ∷ [] ≡ longer = ap (λ x. word ++ x ∷ []) (sym el) ∙ sym ew in
    subst P (sym et) (subst Q last (under_more r d steps (steps - (at + 1)) old now word is.below (subst R one_less is)))
  where
    one_less : steps - at ≡ suc (steps - (at + 1))
    one_less = omega (arith, h)

-- no step is left
pub under_letters : (r d steps rest : ℕ) (old now word : List ℕ) → rest ≡ 0 → IsUnderWay r d steps old now word rest → word ≡ letters_of r d steps old
unfolding letters_of
under_letters r d steps rest old now word e is = sym (append-nil word) ∙ ap (λ k. word ++ letters_of r d k now) (sym e) ∙ is.letters

pub under_rests : (r d steps rest : ℕ) (old now word : List ℕ) → rest ≡ 0 → IsUnderWay r d steps old now word rest → now ≡ rests_after r d steps old
unfolding rests_after
under_rests r d steps rest old now word e is = ap (λ k. rests_after r d k now) (sym e) ∙ is.rests
