-- The lines after the first ones, part by part, as values of functions and as tables.
use Rattle.std.proofs.Common.{◌≡◌, ℕ, zero, suc, ◌+◌, ◌*◌, ◌^◌, ◌≤◌, ◌<◌, Bool, true, false, List, [], ◌∷◌, ◌++◌, codes, Some, arith, refl, ◌∙◌, sym}
use Rattle.std.proofs.Common.{ap, ap₂, append_assoc}
use Rattle.std.specs.Prelude.{nat_eq, if◌then◌else◌, slice_index}
use Rattle.lash_model.specs.Tables.{Table, letters, ints, fracs, out_bound}
use Rattle.automaton_texts.specs.Text.{texts_upto, answer_text}
use Rattle.text_laws.specs.Numerals.{numeral, numeral_after}
use Rattle.text_laws.specs.Parts.{ended_number, ended_answer, IsBetween}
use Rattle.text_laws.specs.Spellings.{int_state_text, frac_state_text, rest_text}
use Rattle.text_laws.specs.Reading.{pair_text, IsAny}
use Rattle.text_laws.proofs.Stops.{IsCode, code_of, pair_code, word_code, code_as}
use Rattle.text_laws.proofs.NumberParts.{numbers_readable}
use Rattle.text_laws.proofs.ChoiceParts.{answers_told, told_readable}
use Rattle.text_laws.proofs.Counted.{same_texts, parts_code}
use Rattle.text_laws.specs.RestParts.{ending_at, number_at, numbers_text, NumbersAllowed, out_part, OutAllowed, line_part, LineAllowed, lines_part}
use Rattle.text_laws.specs.RestParts.{LinesAllowed, Sizes, end_part, frac_lines_part, FracLinesAllowed, int_lines_part, IntLinesAllowed, rest_part}
use Rattle.text_laws.specs.RestParts.{RestAllowed, table_sizes, int_values, frac_values, table_values}

last_ending : (m : ℕ) → ending_at (suc m) m ≡ 10
last_ending m = grind arith

other_ending : (m i : ℕ) → i < m → ending_at (suc m) i ≡ 32
other_ending m i h = grind arith

pub low_ending : (count i : ℕ) → ending_at count i < 48
low_ending count i = by (nat_eq (suc i) count)
  where
    by : (b : Bool) → (if b then 10 else 32) < 48
    by true = omega arith
    by false = omega arith

-- spaces before and spaces after
moved : (f : ℕ → ℕ) (m : ℕ) → texts_upto (λ i. numeral_after (f i)) m ++ codes " " ≡ codes " " ++ texts_upto (λ i. ended_number 32 (f i)) m
moved f zero = refl
moved f (suc m) = append_assoc (texts_upto (λ i. numeral_after (f i)) m) (codes " " ++ numeral (f m)) (codes " ")
    ∙ sym (append_assoc (texts_upto (λ i. numeral_after (f i)) m) (codes " ") (numeral (f m) ++ codes " "))
    ∙ ap (λ t. t ++ (numeral (f m) ++ codes " ")) (moved f m)

pub spaced : (f : ℕ → ℕ) (count : ℕ) → 1 ≤ count → texts_upto (λ i. numeral_after (f i)) count ++ codes "\n" ≡ codes " " ++ numbers_text count f
spaced f zero h = absurd (omega (arith, h))
spaced f (suc m) h = append_assoc (texts_upto (λ i. numeral_after (f i)) m) (codes " " ++ numeral (f m)) (codes "\n")
    ∙ sym (append_assoc (texts_upto (λ i. numeral_after (f i)) m) (codes " ") (numeral (f m) ++ codes "\n"))
    ∙ ap (λ t. t ++ (numeral (f m) ++ codes "\n")) (moved f m)
    ∙ ap₂ (λ t e. (codes " " ++ t) ++ (numeral (f m) ++ e ∷ []))
    (same_texts (λ i. ended_number 32 (f i)) (λ i. number_at (suc m) i (f i)) m (λ i lt. ap (λ e. ended_number e (f i)) (sym (other_ending m i lt))))
    (sym (last_ending m))

pub numbers_code : (count bound : ℕ) → IsCode (numbers_text count) (NumbersAllowed bound count)
numbers_code count bound = parts_code (number_at count) (λ _. IsBetween 0 (Some bound)) count
    (λ i lt. code_of (number_at count i) (IsBetween 0 (Some bound)) (numbers_readable (ending_at count i) (IsBetween 0 (Some bound)) (low_ending count i)))

pub out_code : (answers : Bool) (bound : ℕ) → IsCode (out_part answers) (OutAllowed bound)
out_code true bound = code_as ended_answer IsAny (out_part true) (OutAllowed bound) (λ o i. (nat_eq o 1, tt, refl))
    (code_of ended_answer IsAny (told_readable ended_answer answers_told))
out_code false bound = code_of (out_part false) (OutAllowed bound) (numbers_readable 32 (OutAllowed bound) (omega arith))

pub line_code : (answers : Bool) (outs bound width q : ℕ) → IsCode (line_part answers width q) (LineAllowed outs bound width)
line_code answers outs bound width q = word_code (numeral q ++ codes " ") (pair_text (out_part answers) (λ _. numbers_text width))
    (LineAllowed outs bound width)
    (pair_code (out_part answers) (OutAllowed outs) (numbers_text width) (NumbersAllowed bound width) (out_code answers outs) (numbers_code width bound))

pub lines_code : (answers : Bool) (outs bound width count : ℕ) → IsCode (lines_part answers width count) (LinesAllowed outs bound width count)
lines_code answers outs bound width count = parts_code (line_part answers width) (λ _. LineAllowed outs bound width) count
    (λ q lt. line_code answers outs bound width q)

pub end_code : IsCode end_part IsAny
unfolding IsCode
end_code a b ia ib x y e = refl

pub frac_lines_code : (z : Sizes) → IsCode (frac_lines_part z) (FracLinesAllowed z)
frac_lines_code z = pair_code (lines_part true (z.base ^ z.tracks) z.fracs) (LinesAllowed 2 z.fracs (z.base ^ z.tracks) z.fracs) end_part IsAny
    (lines_code true 2 z.fracs (z.base ^ z.tracks) z.fracs) end_code

pub int_lines_code : (z : Sizes) → IsCode (int_lines_part z) (IntLinesAllowed z)
int_lines_code z = pair_code (lines_part (nat_eq z.fracs 0) (z.base ^ z.tracks) z.ints)
    (LinesAllowed (out_bound z.fracs) z.ints (z.base ^ z.tracks) z.ints) (frac_lines_part z) (FracLinesAllowed z)
    (lines_code (nat_eq z.fracs 0) (out_bound z.fracs) z.ints (z.base ^ z.tracks) z.ints) (frac_lines_code z)

pub rest_part_code : (z : Sizes) → IsCode (rest_part z) (RestAllowed z)
rest_part_code z = word_code (codes "roots ") (pair_text (numbers_text (2 ^ z.tracks)) (λ _. int_lines_part z)) (RestAllowed z)
    (pair_code (numbers_text (2 ^ z.tracks)) (NumbersAllowed z.ints (2 ^ z.tracks)) (int_lines_part z) (IntLinesAllowed z)
    (numbers_code (2 ^ z.tracks) z.ints) (int_lines_code z))

answer_moved : (b : Bool) (n : List ℕ) → answer_text b ++ (codes " " ++ n) ≡ codes " " ++ (ended_answer b ++ n)
answer_moved true n = refl
answer_moved false n = refl

output_moved : (answers : Bool) (o : ℕ) (n : List ℕ)
    → (if answers then answer_text (nat_eq o 1) else numeral_after o) ++ (codes " " ++ n) ≡ codes " " ++ (out_part answers o ++ n)
output_moved true o n = answer_moved (nat_eq o 1) n
output_moved false o n = ap (λ t. codes " " ++ t) (sym (append_assoc (numeral o) (codes " ") n))

line_moved : (q width : ℕ) (answers : Bool) (o : ℕ) (f : ℕ → ℕ) → 1 ≤ width
    → numeral q ++ ((if answers then answer_text (nat_eq o 1) else numeral_after o) ++ (texts_upto (λ l. numeral_after (f l)) width ++ codes "\n"))
    ≡ line_part answers width q (o, f)
line_moved q width answers o f some =
    ap (λ t. numeral q ++ ((if answers then answer_text (nat_eq o 1) else numeral_after o) ++ t)) (spaced f width some)
    ∙ ap (λ t. numeral q ++ t) (output_moved answers o (numbers_text width f))
    ∙ sym (append_assoc (numeral q) (codes " ") (out_part answers o ++ numbers_text width f))

roots_moved : (f : ℕ → ℕ) (count : ℕ) (after : List ℕ) → 1 ≤ count
    → (codes "roots" ++ (texts_upto (λ i. numeral_after (f i)) count ++ codes "\n")) ++ after ≡ codes "roots " ++ (numbers_text count f ++ after)
roots_moved f count after some = ap (λ t. (codes "roots" ++ t) ++ after) (spaced f count some)

pub table_text : (t : Table) → 1 ≤ letters t → 1 ≤ 2 ^ t.tracks → rest_text t ≡ rest_part (table_sizes t) (table_values t)
unfolding rest_text table_sizes table_values int_values frac_values
table_text t some some_root =
    roots_moved (λ i. slice_index t.roots (0 + i)) (2 ^ t.tracks)
    (texts_upto (int_state_text t) (ints t) ++ (texts_upto (frac_state_text t) (fracs t) ++ codes "end\n")) some_root
    ∙ ap₂ (λ x y. codes "roots " ++ (numbers_text (2 ^ t.tracks) (λ i. slice_index t.roots (0 + i)) ++ (x ++ (y ++ codes "end\n"))))
    (same_texts (int_state_text t) (λ q. line_part (nat_eq (fracs t) 0) (letters t) q (slice_index t.outs q, λ l. slice_index t.rows (q * letters t + l)))
    (ints t)
    (λ q lt. line_moved q (letters t) (nat_eq (fracs t) 0) (slice_index t.outs q) (λ l. slice_index t.rows (q * letters t + l)) some))
    (same_texts (frac_state_text t) (λ q. line_part true (letters t) q (slice_index t.colours q, λ l. slice_index t.frac_rows (q * letters t + l))) (fracs t)
    (λ q lt. line_moved q (letters t) true (slice_index t.colours q) (λ l. slice_index t.frac_rows (q * letters t + l)) some))
