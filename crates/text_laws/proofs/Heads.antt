-- The first lines, part by part: read in one way, and where a reader of them stops.
use Rattle.std.proofs.Common.{◌≡◌, ℕ, ◌+◌, ◌≤◌, Bool, true, false, List, [], ◌++◌, length, codes, None, Some, arith, refl, ◌∙◌, sym, ap}
use Rattle.lash_model.specs.Formulas.{Sort}
use Rattle.text_laws.specs.Parts.{ended_number, IsBetween, ended_variables}
use Rattle.text_laws.specs.Spellings.{Head, has_real, AreNew, IsHead, head_text}
use Rattle.text_laws.specs.Reading.{IsStuck, pair_text, IsWordWrong}
use Rattle.text_laws.proofs.Stops.{IsReadable, stuck_first, stuck_second, stuck_after_word, stuck_in_word, stuck_as, pair_readable, word_readable}
use Rattle.text_laws.proofs.NumberParts.{numbers_readable}
use Rattle.text_laws.proofs.Variables.{variables_readable}
use Rattle.text_laws.specs.HeadParts.{frac_part, FracAllowed, counts_part, CountsAllowed, variables_part, VariablesAllowed, base_part, BaseAllowed}

parts_of : Head → (ℕ × (List (List ℕ × Sort) × (ℕ × ℕ)))
parts_of h = (h.base, (h.variables, (h.ints, h.fracs)))

unfoldable pub head_of_parts : (ℕ × (List (List ℕ × Sort) × (ℕ × ℕ))) → Head
head_of_parts x = record { base = x.0; variables = x.1.0; ints = x.1.1.0; fracs = x.1.1.1 }

head_is : (h : Head) → base_part (parts_of h) ≡ head_text h
unfolding head_text parts_of
head_is h = refl

part_is : (x : ℕ × (List (List ℕ × Sort) × (ℕ × ℕ))) → head_text (head_of_parts x) ≡ base_part x
unfolding head_text head_of_parts
part_is x = refl

frac_allowed : (real : Bool) (f : ℕ) → (real ≡ true → 1 ≤ f) → (real ≡ false → f ≡ 0) → FracAllowed real f
frac_allowed true f h k = h refl
frac_allowed false f h k = k refl

head_allowed : (h : Head) → IsHead h → BaseAllowed (parts_of h)
unfolding parts_of
head_allowed h i = ((i.base_low, omega (arith, i.base_high)), (i.names, (i.some_int, frac_allowed (has_real h.variables) h.fracs i.some_frac i.no_frac)))

no_truth : {A : Type 0} → true ≡ false → A
no_truth e = absurd (parted e)
  where
    parted : true ≡ false → ⊥
    parted e = cc

some_fracs : (real : Bool) (f : ℕ) → FracAllowed real f → real ≡ true → 1 ≤ f
some_fracs true f h e = h
some_fracs false f h e = no_truth (sym e)

no_fracs : (real : Bool) (f : ℕ) → FracAllowed real f → real ≡ false → f ≡ 0
no_fracs true f h e = no_truth e
no_fracs false f h e = h

pub part_allowed : (x : ℕ × (List (List ℕ × Sort) × (ℕ × ℕ))) → BaseAllowed x → IsHead (head_of_parts x)
unfolding head_of_parts
part_allowed x i = record {
  base_low = i.0.0;
  base_high = omega (arith, i.0.1);
  names = i.1.0;
  some_int = i.1.1.0;
  some_frac = some_fracs (has_real x.1.0) x.1.1.1 i.1.1.1;
  no_frac = no_fracs (has_real x.1.0) x.1.1.1 i.1.1.1;
}

-- the first lines are their parts
pub head_to : (x : ℕ × (List (List ℕ × Sort) × (ℕ × ℕ))) → BaseAllowed x → (h : Head) × IsHead h × (head_text h ≡ base_part x)
head_to x i = (head_of_parts x, part_allowed x i, part_is x)

pub head_back : (h : Head) → IsHead h → (x : ℕ × (List (List ℕ × Sort) × (ℕ × ℕ))) × BaseAllowed x × (base_part x ≡ head_text h)
head_back h i = (parts_of h, head_allowed h i, head_is h)

-- what is stuck in the parts is stuck in the first lines
pub stuck_head : (bytes : List ℕ) (k : ℕ) → IsStuck base_part BaseAllowed bytes k → IsStuck head_text IsHead bytes k
stuck_head bytes k s = stuck_as base_part BaseAllowed head_text IsHead bytes k head_to head_back s

none_readable : IsReadable (frac_part false) (FracAllowed false)
unfolding IsReadable
none_readable a b ia ib x y e = ia ∙ sym ib

frac_readable : (real : Bool) → IsReadable (frac_part real) (FracAllowed real)
frac_readable true = word_readable (codes "frac ") (ended_number 10) (FracAllowed true) (numbers_readable 10 (FracAllowed true) (omega arith))
frac_readable false = none_readable

counts_readable : (real : Bool) → IsReadable (counts_part real) (CountsAllowed real)
counts_readable real = word_readable (codes "int ") (pair_text (ended_number 10) (λ _. frac_part real)) (CountsAllowed real)
    (pair_readable (ended_number 10) (IsBetween 1 None) (λ _. frac_part real) (λ _. FracAllowed real)
    (numbers_readable 10 (IsBetween 1 None) (omega arith)) (λ _. frac_readable real))

variables_part_readable : IsReadable variables_part VariablesAllowed
variables_part_readable = word_readable (codes "vars") (pair_text ended_variables (λ vs. counts_part (has_real vs))) VariablesAllowed
    (pair_readable ended_variables (AreNew []) (λ vs. counts_part (has_real vs)) (λ vs. CountsAllowed (has_real vs)) (variables_readable [])
    (λ vs. counts_readable (has_real vs)))

base_part_readable : IsReadable base_part BaseAllowed
base_part_readable = word_readable (codes "lash 1\nbase ") (pair_text (ended_number 10) (λ _. variables_part)) BaseAllowed
    (pair_readable (ended_number 10) (IsBetween 2 (Some 17)) (λ _. variables_part) (λ _. VariablesAllowed)
    (numbers_readable 10 (IsBetween 2 (Some 17)) (omega arith)) (λ _. variables_part_readable))

-- the first lines are read in one way
pub heads_readable : IsReadable head_text IsHead
unfolding IsReadable parts_of
heads_readable h g ih ig x y e = ap head_of_again (base_part_readable (parts_of h) (parts_of g) (head_allowed h ih) (head_allowed g ig) x y
    (ap (λ t. t ++ x) (head_is h) ∙ e ∙ ap (λ t. t ++ y) (sym (head_is g))))
  where
    head_of_again : (ℕ × (List (List ℕ × Sort) × (ℕ × ℕ))) → Head
    head_of_again x = record { base = x.0; variables = x.1.0; ints = x.1.1.0; fracs = x.1.1.1 }

-- ---- from part to part: each says where a reader stops, of the bytes after what was read
abbrev pub any_counts : (real : Bool) → (x : ℕ × ℕ) × CountsAllowed real x
any_counts true = ((1, 1), (omega arith, omega arith))
any_counts false = ((1, 0), (omega arith, refl))

abbrev pub any_variables : (x : List (List ℕ × Sort) × (ℕ × ℕ)) × VariablesAllowed x
any_variables = (([], (1, 0)), (tt, (omega arith, refl)))

pub any_frac : (real : Bool) → (f : ℕ) × FracAllowed real f
any_frac true = (1, omega arith)
any_frac false = (0, refl)

-- in the first words
pub stuck_first_words : (bytes : List ℕ) (k : ℕ) → IsWordWrong (codes "lash 1\nbase ") bytes k → IsStuck head_text IsHead bytes k
stuck_first_words bytes k w = stuck_head bytes k (stuck_in_word (codes "lash 1\nbase ") (pair_text (ended_number 10) (λ _. variables_part)) BaseAllowed bytes k
    ((2, any_variables.0), ((omega arith, omega arith), any_variables.1)) w)

-- in the base
pub stuck_base : (bytes rest : List ℕ) (k : ℕ) → bytes ≡ codes "lash 1\nbase " ++ rest → IsStuck (ended_number 10) (IsBetween 2 (Some 17)) rest k
    → IsStuck head_text IsHead bytes (12 + k)
stuck_base bytes rest k is s = stuck_head bytes (12 + k)
    (stuck_after_word (codes "lash 1\nbase ") (pair_text (ended_number 10) (λ _. variables_part)) BaseAllowed bytes rest k is
    (stuck_first (ended_number 10) (IsBetween 2 (Some 17)) (λ _. variables_part) (λ _. VariablesAllowed) rest k (λ a i. any_variables) s))

-- after the base
pub stuck_after_base : (bytes rest more : List ℕ) (base k : ℕ) → bytes ≡ codes "lash 1\nbase " ++ rest → 2 ≤ base → base ≤ 16
    → rest ≡ ended_number 10 base ++ more
    → IsStuck variables_part VariablesAllowed more k → IsStuck head_text IsHead bytes (12 + (length (ended_number 10 base) + k))
stuck_after_base bytes rest more base k is low high read s = stuck_head bytes (12 + (length (ended_number 10 base) + k))
    (stuck_after_word (codes "lash 1\nbase ") (pair_text (ended_number 10) (λ _. variables_part)) BaseAllowed bytes rest
    (length (ended_number 10 base) + k) is
    (stuck_second (ended_number 10) (IsBetween 2 (Some 17)) (λ _. variables_part) (λ _. VariablesAllowed) rest more k base
    (numbers_readable 10 (IsBetween 2 (Some 17)) (omega arith)) (low, omega (arith, high)) read s))

-- in the word before the variables
pub stuck_vars_word : (bytes : List ℕ) (k : ℕ) → IsWordWrong (codes "vars") bytes k → IsStuck variables_part VariablesAllowed bytes k
stuck_vars_word bytes k w = stuck_in_word (codes "vars") (pair_text ended_variables (λ vs. counts_part (has_real vs))) VariablesAllowed bytes k any_variables w

-- in the variables
pub stuck_variables : (bytes rest : List ℕ) (k : ℕ) → bytes ≡ codes "vars" ++ rest → IsStuck ended_variables (AreNew []) rest k
    → IsStuck variables_part VariablesAllowed bytes (4 + k)
stuck_variables bytes rest k is s = stuck_after_word (codes "vars") (pair_text ended_variables (λ vs. counts_part (has_real vs))) VariablesAllowed bytes
    rest k is
    (stuck_first ended_variables (AreNew []) (λ vs. counts_part (has_real vs)) (λ vs. CountsAllowed (has_real vs)) rest k (λ vs i. any_counts (has_real vs)) s)

-- after the variables
pub stuck_after_vars : (bytes rest more : List ℕ) (vs : List (List ℕ × Sort)) (k : ℕ) → bytes ≡ codes "vars" ++ rest → AreNew [] vs
    → rest ≡ ended_variables vs ++ more
    → IsStuck (counts_part (has_real vs)) (CountsAllowed (has_real vs)) more k
    → IsStuck variables_part VariablesAllowed bytes (4 + (length (ended_variables vs) + k))
stuck_after_vars bytes rest more vs k is new read s =
    stuck_after_word (codes "vars") (pair_text ended_variables (λ vs. counts_part (has_real vs))) VariablesAllowed bytes rest
    (length (ended_variables vs) + k) is
    (stuck_second ended_variables (AreNew []) (λ vs. counts_part (has_real vs)) (λ vs. CountsAllowed (has_real vs)) rest more k vs (variables_readable [])
    new read s)

-- in the word before the number of integer states
pub stuck_int_word : (real : Bool) (bytes : List ℕ) (k : ℕ) → IsWordWrong (codes "int ") bytes k → IsStuck (counts_part real) (CountsAllowed real) bytes k
stuck_int_word real bytes k w = stuck_in_word (codes "int ") (pair_text (ended_number 10) (λ _. frac_part real)) (CountsAllowed real) bytes k
    (any_counts real) w

-- in that number
pub stuck_ints : (real : Bool) (bytes rest : List ℕ) (k : ℕ) → bytes ≡ codes "int " ++ rest → IsStuck (ended_number 10) (IsBetween 1 None) rest k
    → IsStuck (counts_part real) (CountsAllowed real) bytes (4 + k)
stuck_ints real bytes rest k is s = stuck_after_word (codes "int ") (pair_text (ended_number 10) (λ _. frac_part real)) (CountsAllowed real) bytes rest k is
    (stuck_first (ended_number 10) (IsBetween 1 None) (λ _. frac_part real) (λ _. FracAllowed real) rest k (λ a i. any_frac real) s)

-- after it
pub stuck_after_ints : (real : Bool) (bytes rest more : List ℕ) (ints k : ℕ) → bytes ≡ codes "int " ++ rest → 1 ≤ ints → rest ≡ ended_number 10 ints ++ more
    → IsStuck (frac_part real) (FracAllowed real) more k → IsStuck (counts_part real) (CountsAllowed real) bytes (4 + (length (ended_number 10 ints) + k))
stuck_after_ints real bytes rest more ints k is some read s =
    stuck_after_word (codes "int ") (pair_text (ended_number 10) (λ _. frac_part real)) (CountsAllowed real) bytes rest (length (ended_number 10 ints) + k) is
    (stuck_second (ended_number 10) (IsBetween 1 None) (λ _. frac_part real) (λ _. FracAllowed real) rest more k ints
    (numbers_readable 10 (IsBetween 1 None) (omega arith)) some read s)

-- in the line of the number of fraction states, if there is one
pub stuck_frac_word : (bytes : List ℕ) (k : ℕ) → IsWordWrong (codes "frac ") bytes k → IsStuck (frac_part true) (FracAllowed true) bytes k
stuck_frac_word bytes k w = stuck_in_word (codes "frac ") (ended_number 10) (FracAllowed true) bytes k (1, omega arith) w

pub stuck_fracs : (bytes rest : List ℕ) (k : ℕ) → bytes ≡ codes "frac " ++ rest → IsStuck (ended_number 10) (IsBetween 1 None) rest k
    → IsStuck (frac_part true) (FracAllowed true) bytes (5 + k)
stuck_fracs bytes rest k is s = stuck_after_word (codes "frac ") (ended_number 10) (FracAllowed true) bytes rest k is s

-- what was read part by part is the first lines
pub head_read : (h : Head) (bytes more : List ℕ) → bytes ≡ base_part (h.base, (h.variables, (h.ints, h.fracs))) ++ more → bytes ≡ head_text h ++ more
unfolding head_text
head_read h bytes more e = e
