-- Texts of numbers and of variables, one after another, parted at one of them.
use Rattle.std.proofs.Common.{◌≡◌, ℕ, zero, suc, ◌+◌, ◌<◌, ◌≤◌, List, [], ◌∷◌, ◌++◌, map, length, get_or, take, drop, codes, arith, add-one, refl, ap, ap₂, sym, ◌∙◌, append_assoc}
use Rattle.std.proofs.lemmas.List.{append-nil}
use Rattle.std.proofs.lemmas.Bool.{cases_lt}
use mathlib.Core.Logic.{◌⊎◌, inl, inr}
use Rattle.lash_model.specs.Formulas.{Sort}
use Rattle.automaton_texts.specs.Text.{texts_upto, sort_text, variables_text}

-- a front of a text, with what follows it
pub record Fronted (whole front : List ℕ) : Type 0 where
  pub more : List ℕ
  pub is : whole ≡ front ++ more

-- one text more
pub upto_more : (text : ℕ → List ℕ) (i : ℕ) → texts_upto text (i + 1) ≡ texts_upto text i ++ text i
upto_more text i = rw add-one

upto_longer : (text : ℕ → List ℕ) (i count : ℕ) → Fronted (texts_upto text count) (texts_upto text i ++ text i) → Fronted (texts_upto text (suc count)) (texts_upto text i ++ text i)
upto_longer text i count before = record {
  more = before.more ++ text count;
  is = ap (λ xs. xs ++ text count) before.is ∙ append_assoc (texts_upto text i ++ text i) before.more (text count);
}

upto_last : (text : ℕ → List ℕ) (i count : ℕ) → i ≡ count → Fronted (texts_upto text (suc count)) (texts_upto text i ++ text i)
upto_last text i count same = record { more = []; is = rw same (sym (append-nil (texts_upto text count ++ text count))) }

-- where one text more is not beyond the last
pub upto_parted : (text : ℕ → List ℕ) (i count : ℕ) → i < count → Fronted (texts_upto text count) (texts_upto text i ++ text i)
upto_parted text i zero h = absurd (omega arith)
upto_parted text i (suc count) h = by (upto_parted text i count) (cases_lt i count) where
  by : (i < count → Fronted (texts_upto text count) (texts_upto text i ++ text i)) → (i < count) ⊎ (count ≤ i) → Fronted (texts_upto text (suc count)) (texts_upto text i ++ text i)
  by before (inl lt) = upto_longer text i count (before lt)
  by before (inr ge) = upto_last text i count (omega arith)

variables_more_suc : (vs : List (List ℕ × Sort)) (i : ℕ) (name : List ℕ) (sort : Sort) → i < length vs → name ≡ get_or (map (λ v. v.0) vs) i []
    → sort ≡ get_or (map (λ v. v.1) vs) i sort → variables_text (take (suc i) vs) ≡ variables_text (take i vs) ++ (codes " " ++ (name ++ sort_text sort))
variables_more_suc [] i name sort h n s = absurd (omega arith)
variables_more_suc (v ∷ vs) zero name sort h n s = append-nil _ ∙ ap₂ (λ xs y. codes " " ++ (xs ++ sort_text y)) (sym n) (sym s)
variables_more_suc (v ∷ vs) (suc i) name sort h n s =
    ap (λ xs. (codes " " ++ (v.0 ++ sort_text v.1)) ++ xs) (variables_more_suc vs i name sort (omega arith) n s)
    ∙ sym (append_assoc (codes " " ++ (v.0 ++ sort_text v.1)) (variables_text (take i vs)) (codes " " ++ (name ++ sort_text sort)))

-- one variable more
pub variables_more : (vs : List (List ℕ × Sort)) (i : ℕ) (name : List ℕ) (sort : Sort) → i < length vs → name ≡ get_or (map (λ v. v.0) vs) i []
    → sort ≡ get_or (map (λ v. v.1) vs) i sort → variables_text (take (i + 1) vs) ≡ variables_text (take i vs) ++ (codes " " ++ (name ++ sort_text sort))
variables_more vs i name sort h n s = rw add-one (variables_more_suc vs i name sort h n s)

-- the variables before and behind a place
pub variables_parted : (vs : List (List ℕ × Sort)) (i : ℕ) → variables_text vs ≡ variables_text (take i vs) ++ variables_text (drop i vs)
variables_parted [] zero = refl
variables_parted [] (suc i) = refl
variables_parted (v ∷ vs) zero = refl
variables_parted (v ∷ vs) (suc i) =
    ap (λ xs. (codes " " ++ (v.0 ++ sort_text v.1)) ++ xs) (variables_parted vs i)
    ∙ sym (append_assoc (codes " " ++ (v.0 ++ sort_text v.1)) (variables_text (take i vs)) (variables_text (drop i vs)))
