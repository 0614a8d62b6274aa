-- Walks over lists of places and of terms, and the walk over the formula.
use Rattle.std.proofs.Common.{◌≡◌, ℕ, zero, suc, ◌+◌, ◌<◌, ◌≤◌, ◌^◌, List, [], ◌∷◌, length, take, get_or, arith, refl, sym, ap, ◌∙◌, Bool, true, false, ◌||◌, nat_eq, Option, None, Some}
use Rattle.std.proofs.Math.IntN.{ℤ}
use Rattle.std.proofs.Math.Bool.{or_assoc}
use Rattle.std.specs.List.{list_any}
use Rattle.std.specs.Set.{is_member}
use Rattle.std.specs.Option.{is_some}
use Rattle.std.specs.Cmp.{nat_eq_equiv}
use Rattle.std.proofs.lemmas.Bool.{false≢true}
use Rattle.std.proofs.lemmas.List.Folds.{list_any_more}
use Rattle.lash_model.specs.Formulas.{Sort, Linear, IsLinear, Formula, Comparison, Atom, Not, And, Or, Exists}
use Rattle.formula_core.specs.Counts.{term_uses, uses, free_places}
use Rattle.formula_core.specs.FewLetters.{AreFew, HasFewLetters, FitsLetters}
use Rattle.formula_core.specs.Marks.{appears}
use Rattle.formula_core.specs.PlaceSets.{passing, IsSetOf, Gathers, Judges, Finds}
use Rattle.formula_core.proofs.Gathering.{size, gathers_same, still_too_many, member_below, too_many_letters}
use Rattle.formula_core.proofs.Marking.{uses_appears, filter_agreed}

-- what the first items have, all have
any_taken : {X : Type 0} (p : X → Bool) (xs : List X) (j : ℕ) → list_any p (take j xs) ≡ true → list_any p xs ≡ true
any_taken p [] zero e = e
any_taken p [] (suc j) e = e
any_taken p (x ∷ xs) zero e = absurd (false≢true e)
any_taken p (x ∷ xs) (suc j) e = by (p x) (any_taken p xs j) e
  where
    by : (b : Bool) → (list_any p (take j xs) ≡ true → list_any p xs ≡ true) → (b || list_any p (take j xs)) ≡ true → (b || list_any p xs) ≡ true
    by true rec e = refl
    by false rec e = rec e

whole : {X : Type 0} (xs : List X) (j : ℕ) → j ≡ length xs → take j xs ≡ xs
whole [] zero e = refl
whole [] (suc j) e = absurd (omega arith)
whole (x ∷ xs) zero e = absurd (omega arith)
whole (x ∷ xs) (suc j) e = ap (λ ys. x ∷ ys) (whole xs j (omega arith))

-- a set that was joined with the first places, after the next one
pub places_more : (test : ℕ → Bool) (n : ℕ) (xs : List ℕ) (i d : ℕ) (r : Option (List ℕ)) → i < length xs → Gathers (λ k. (test k || is_member nat_eq (take i xs) k) || nat_eq k (get_or xs i d)) n r → Gathers (λ k. test k || is_member nat_eq (take (i + 1) xs) k) n r
places_more test n xs i d r lt g = gathers_same (λ k. (test k || is_member nat_eq (take i xs) k) || nat_eq k (get_or xs i d)) (λ k. test k || is_member nat_eq (take (i + 1) xs) k) n r (λ k _. or_assoc (test k) (is_member nat_eq (take i xs) k) (nat_eq k (get_or xs i d)) ∙ ap (λ b. test k || b) (sym (list_any_more (nat_eq k) xs i d lt))) g

-- where the first places are too many, all are
pub places_none : (test : ℕ → Bool) (n : ℕ) (xs : List ℕ) (j : ℕ) → Gathers (λ k. test k || is_member nat_eq (take j xs) k) n None → Gathers (λ k. test k || is_member nat_eq xs k) n None
places_none test n xs j g = still_too_many (λ k. test k || is_member nat_eq (take j xs) k) (λ k. test k || is_member nat_eq xs k) n (λ k e. by k (test k) e) g
  where
    by : (k : ℕ) (b : Bool) → (b || is_member nat_eq (take j xs) k) ≡ true → (b || is_member nat_eq xs k) ≡ true
    by k true e = refl
    by k false e = any_taken (nat_eq k) xs j e

-- at the end all places have been put in
pub places_all : (test : ℕ → Bool) (n : ℕ) (xs : List ℕ) (j : ℕ) (ys : List ℕ) → j ≡ length xs → IsSetOf (λ k. test k || is_member nat_eq (take j xs) k) n ys → IsSetOf (λ k. test k || is_member nat_eq xs k) n ys
places_all test n xs j ys e g = gathers_same (λ k. test k || is_member nat_eq (take j xs) k) (λ k. test k || is_member nat_eq xs k) n (Some ys) (λ k _. ap (λ zs. test k || is_member nat_eq zs k) (whole xs j e)) g

-- the places of the first terms, after the next one
pub terms_more : (n : ℕ) (ts : List (ℕ × ℤ)) (i : ℕ) (d : ℕ × ℤ) (r : Option (List ℕ)) → i < length ts → Gathers (λ k. appears k (take i ts) || nat_eq k (get_or ts i d).0) n r → Gathers (λ k. appears k (take (i + 1) ts)) n r
terms_more n ts i d r lt g = gathers_same (λ k. appears k (take i ts) || nat_eq k (get_or ts i d).0) (λ k. appears k (take (i + 1) ts)) n r (λ k _. ap (λ b. appears k (take i ts) || b) (nat_eq_equiv.symm k (get_or ts i d).0) ∙ sym (list_any_more (λ t. nat_eq t.0 k) ts i d lt)) g

-- where those of the first terms are too many, all are
pub terms_none : (a : Linear) (n j : ℕ) → IsLinear a → Gathers (λ k. appears k (take j a.terms)) n None → Gathers (λ k. term_uses k a) n None
terms_none a n j h g = still_too_many (λ k. appears k (take j a.terms)) (λ k. term_uses k a) n (λ k e. uses_appears k a.terms h.nonzero ∙ any_taken (λ t. nat_eq t.0 k) a.terms j e) g

-- at the end all terms have been met
pub terms_all : (a : Linear) (n j : ℕ) (xs : List ℕ) → IsLinear a → j ≡ length a.terms → IsSetOf (λ k. appears k (take j a.terms)) n xs → IsSetOf (λ k. term_uses k a) n xs
terms_all a n j xs h e g = gathers_same (λ k. appears k (take j a.terms)) (λ k. term_uses k a) n (Some xs) (λ k _. ap (appears k) (whole a.terms j e) ∙ sym (uses_appears k a.terms h.nonzero)) g

-- what is gathered is judged by its number
pub judged_some : (base : ℕ) (test : ℕ → Bool) (n : ℕ) (xs : List ℕ) → IsSetOf test n xs → AreFew base (length xs) → Judges base test n (Some xs)
judged_some base test n xs h few = (subst_few base (length xs) (length (passing test n)) (size test n xs h) few, h)
  where
    subst_few : (base k m : ℕ) → k ≡ m → AreFew base k → AreFew base m
    subst_few base k m e few = omega (arith, few, ap (λ k. base ^ k) e)

pub judged_many : (base : ℕ) (test : ℕ → Bool) (n : ℕ) (xs : List ℕ) → IsSetOf test n xs → (AreFew base (length xs) → ⊥) → Judges base test n None
judged_many base test n xs h many few = many (omega (arith, few, ap (λ k. base ^ k) (size test n xs h)))

pub judged_none : (base : ℕ) (test : ℕ → Bool) (n : ℕ) → 2 ≤ base → Gathers test n None → Judges base test n None
judged_none base test n two g few = too_many_letters base (length (passing test n)) two g few

-- tests that agree below the bound are judged alike
pub judges_same : (base : ℕ) (test other : ℕ → Bool) (n : ℕ) (r : Option (List ℕ)) → ((k : ℕ) → k < n → test k ≡ other k) → Judges base test n r → Judges base other n r
judges_same base test other n r same j = by r j
  where
    count : length (passing test n) ≡ length (passing other n)
    count = ap length (filter_agreed test other 0 n (λ k low high. same k (omega (arith, high))))

    power : base ^ length (passing test n) ≡ base ^ length (passing other n)
    power = ap (λ k. base ^ k) count

    by : (r : Option (List ℕ)) → Judges base test n r → Judges base other n r
    by None j = λ few. j (omega (arith, few, power))
    by (Some xs) j = (omega (arith, j.0, power), gathers_same test other n (Some xs) same j.1)

-- the formula's own letters are few
own_few : (base : ℕ) (f : Formula) (n : ℕ) → HasFewLetters base f n → AreFew base (length (free_places f n))
unfolding HasFewLetters
own_few base (Atom kind a) n h = h
own_few base (Not f) n h = h.0
own_few base (And f g) n h = h.0
own_few base (Or f g) n h = h.0
own_few base (Exists s f) n h = h.0

pub found_atom : (base : ℕ) (kind : Comparison) (a : Linear) (n : ℕ) (r : Option (List ℕ)) → Judges base (λ k. term_uses k a) n r → Finds base (Atom kind a) n r
unfolding HasFewLetters
found_atom base kind a n None j = j
found_atom base kind a n (Some xs) j = j

pub found_not : (base : ℕ) (f : Formula) (n : ℕ) (r : Option (List ℕ)) → Finds base f n r → Finds base (Not f) n r
unfolding HasFewLetters
found_not base f n None g = λ h. g h.1
found_not base f n (Some xs) g = ((own_few base f n g.0, g.0), g.1)

-- a body with too many letters, and one with few
pub lost_body : (base : ℕ) (s : Sort) (f : Formula) (n : ℕ) → Finds base f (n + 1) None → Finds base (Exists s f) n None
unfolding HasFewLetters
lost_body base s f n g = λ h. g h.1

pub found_exists : (base : ℕ) (s : Sort) (f : Formula) (n : ℕ) (xs : List ℕ) (r : Option (List ℕ)) → Finds base f (n + 1) (Some xs) → Judges base (λ k. false || is_member nat_eq xs k) n r → Finds base (Exists s f) n r
unfolding HasFewLetters
found_exists base s f n xs r g j = by r (judges_same base (λ k. false || is_member nat_eq xs k) (λ k. uses k f) n r (λ k lt. member_below (λ k. uses k f) (n + 1) k xs g.1 (omega arith)) j)
  where
    by : (r : Option (List ℕ)) → Judges base (λ k. uses k f) n r → Finds base (Exists s f) n r
    by None j = λ h. j h.0
    by (Some ys) j = ((j.0, g.0), j.1)

-- two parts, of which the second is also below the bound
pub lost_left : (base : ℕ) (f g : Formula) (n : ℕ) → Finds base f n None → Finds base (And f g) n None × Finds base (Or f g) n None
unfolding HasFewLetters
lost_left base f g n l = (λ h. l h.1, λ h. l h.1)

pub lost_right : (base : ℕ) (f g : Formula) (n : ℕ) → Finds base g n None → Finds base (And f g) n None × Finds base (Or f g) n None
unfolding HasFewLetters
lost_right base f g n l = (λ h. l h.2, λ h. l h.2)

pub found_both : (base : ℕ) (f g : Formula) (n : ℕ) (xs ys : List ℕ) (r : Option (List ℕ)) → Finds base f n (Some xs) → Finds base g n (Some ys) → Judges base (λ k. uses k f || is_member nat_eq ys k) n r → Finds base (And f g) n r × Finds base (Or f g) n r
unfolding HasFewLetters
found_both base f g n xs ys r a b j = by r (judges_same base (λ k. uses k f || is_member nat_eq ys k) (λ k. uses k f || uses k g) n r (λ k lt. ap (λ b. uses k f || b) (member_below (λ k. uses k g) n k ys b.1 lt)) j)
  where
    by : (r : Option (List ℕ)) → Judges base (λ k. uses k f || uses k g) n r → Finds base (And f g) n r × Finds base (Or f g) n r
    by None j = (λ h. j h.0, λ h. j h.0)
    by (Some zs) j = (((j.0, a.0, b.0), j.1), ((j.0, a.0, b.0), j.1))

-- a walk that finds a list says that the formula fits
pub fits_found : (base : ℕ) (f : Formula) (places : ℕ) (r : Option (List ℕ)) → AreFew base places → Finds base f places r → (is_some r ≡ true → FitsLetters base f places) × (FitsLetters base f places → is_some r ≡ true)
fits_found base f places None few g = (λ e. absurd (false≢true e), λ h. absurd (g h.1))
fits_found base f places (Some xs) few g = (λ e. (few, g.0), λ h. refl)
