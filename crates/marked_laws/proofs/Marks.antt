-- Words on which no mark is met: they join, and parts of them meet none. Copies of a word, and parts of words in range.
use Rattle.std.proofs.Common.{◌≡◌, ℕ, zero, suc, ◌+◌, ◌<◌, true, List, [], ◌∷◌, ◌++◌, arith, refl, ◌∙◌, sym, ap, subst, append_assoc}
use Rattle.std.specs.Prelude.{slice_index, nat_eq}
use Rattle.std.proofs.lemmas.Bool.{and_parts, and_from}
use mathlib.Core.Logic.{◌⊎◌, inl, inr}
use Rattle.graph_laws.specs.Walks.{go, copies}
use Rattle.lash_model.specs.Tables.{Table, letters}
use Rattle.lash_model.specs.Acceptance.{is_clear}
use Rattle.part_laws.specs.Graphs.{IsWord}

pub yes_is : (c : ℕ) → nat_eq c 1 ≡ true → c ≡ 1
yes_is c h = grind arith

pub is_yes : (c : ℕ) → c ≡ 1 → nat_eq c 1 ≡ true
is_yes c h = grind arith

pub two_cases : (c : ℕ) → c < 2 → (c ≡ 0) ⊎ (c ≡ 1)
two_cases zero h = inl refl
two_cases (suc zero) h = inr refl
two_cases (suc (suc c)) h = absurd (omega (arith, h))

pub not_both : (c : ℕ) → c ≡ 0 → c ≡ 1 → ⊥
not_both c e f = omega (arith, e, f)

-- ---- words
pub copies-add : (i j : ℕ) (v : List ℕ) → copies (i + j) v ≡ copies i v ++ copies j v
copies-add zero j v = ap (λ k. copies k v) (zero_plus j)
  where
    zero_plus : (j : ℕ) → zero + j ≡ j
    zero_plus j = omega arith
copies-add (suc i) j v = ap (λ k. copies k v) (suc_plus i j) ∙ ap (λ w. v ++ w) (copies-add i j v) ∙ sym (append_assoc v (copies i v) (copies j v))
  where
    suc_plus : (i j : ℕ) → suc i + j ≡ suc (i + j)
    suc_plus i j = omega arith

pub word_front : (width : ℕ) (u v : List ℕ) → IsWord width (u ++ v) → IsWord width u
word_front width [] v a = tt
word_front width (l ∷ u) v a = (a.0, word_front width u v a.1)

pub word_rest : (width : ℕ) (u v : List ℕ) → IsWord width (u ++ v) → IsWord width v
word_rest width [] v a = a
word_rest width (l ∷ u) v a = word_rest width u v a.1

-- ---- no mark is met
-- the fraction state after a word
abbrev pub after : Table → ℕ → List ℕ → ℕ
after t q w = go t.frac_rows (letters t) q w

-- a letter more in front
clear_parts : (t : Table) (q l : ℕ) (w : List ℕ) → is_clear t q (l ∷ w) ≡ true
    → (nat_eq (slice_index t.colours q) 1 ≡ true) × (is_clear t (after t q (l ∷ [])) w ≡ true)
clear_parts t q l w c = and_parts (nat_eq (slice_index t.colours q) 1) (is_clear t (after t q (l ∷ [])) w) c

clear_letter : (t : Table) (q l : ℕ) (w : List ℕ) → slice_index t.colours q ≡ 1 → is_clear t (after t q (l ∷ [])) w ≡ true → is_clear t q (l ∷ w) ≡ true
clear_letter t q l w e c = and_from (nat_eq (slice_index t.colours q) 1) (is_clear t (after t q (l ∷ [])) w) (is_yes (slice_index t.colours q) e) c

pub clear_first : (t : Table) (q : ℕ) (w : List ℕ) → is_clear t q w ≡ true → slice_index t.colours q ≡ 1
clear_first t q [] c = yes_is (slice_index t.colours q) c
clear_first t q (l ∷ w) c = yes_is (slice_index t.colours q) (clear_parts t q l w c).0

pub clear_rest : (t : Table) (q : ℕ) (u v : List ℕ) → is_clear t q (u ++ v) ≡ true → is_clear t (after t q u) v ≡ true
clear_rest t q [] v c = c
clear_rest t q (l ∷ u) v c = clear_rest t (after t q (l ∷ [])) u v (clear_parts t q l (u ++ v) c).1

pub clear_front : (t : Table) (q : ℕ) (u v : List ℕ) → is_clear t q (u ++ v) ≡ true → is_clear t q u ≡ true
clear_front t q [] v c = is_yes (slice_index t.colours q) (clear_first t q v c)
clear_front t q (l ∷ u) v c = clear_letter t q l u (clear_first t q (l ∷ (u ++ v)) c)
    (clear_front t (after t q (l ∷ [])) u v (clear_parts t q l (u ++ v) c).1)

pub clear_joined : (t : Table) (q : ℕ) (u v : List ℕ) → is_clear t q u ≡ true → is_clear t (after t q u) v ≡ true → is_clear t q (u ++ v) ≡ true
clear_joined t q [] v c d = d
clear_joined t q (l ∷ u) v c d = clear_letter t q l (u ++ v) (clear_first t q (l ∷ u) c)
    (clear_joined t (after t q (l ∷ [])) u v (clear_parts t q l u c).1 d)

pub clear_copies : (t : Table) (q : ℕ) (v : List ℕ) (n : ℕ) → after t q v ≡ q → is_clear t q v ≡ true → is_clear t q (copies n v) ≡ true
clear_copies t q v zero e c = is_yes (slice_index t.colours q) (clear_first t q v c)
clear_copies t q v (suc n) e c = clear_joined t q v (copies n v) c
    (subst (λ p. is_clear t p (copies n v) ≡ true) (sym e) (clear_copies t q v n e c))

-- it is enough to look at every place of the word
pub clear_by_places : (t : Table) (q : ℕ) (w : List ℕ) → ((u v : List ℕ) → w ≡ u ++ v → slice_index t.colours (after t q u) ≡ 1) → is_clear t q w ≡ true
clear_by_places t q [] h = is_yes (slice_index t.colours q) (h [] [] refl)
clear_by_places t q (l ∷ w) h = clear_letter t q l w (h [] (l ∷ w) refl)
    (clear_by_places t (after t q (l ∷ [])) w (λ u v e. h (l ∷ u) v (ap (λ z. l ∷ z) e)))
