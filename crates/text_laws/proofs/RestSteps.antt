-- The lines after the first ones, from part to part: each says where a reader stops, of the bytes after what was read.
use Rattle.std.proofs.Common.{◌≡◌, ℕ, ◌+◌, ◌^◌, ◌≤◌, ◌<◌, Bool, true, false, List, [], ◌++◌, length, codes, Some, arith, refl}
use Rattle.std.specs.Prelude.{nat_eq}
use Rattle.lash_model.specs.Tables.{out_bound}
use Rattle.text_laws.specs.Numerals.{numeral}
use Rattle.text_laws.specs.Parts.{ended_number, ended_answer, IsBetween}
use Rattle.text_laws.specs.Reading.{IsStuck, pair_text, IsWordWrong, IsAny, parts_text}
use Rattle.text_laws.proofs.Stops.{code_of, stuck_first, stuck_next, stuck_as, stuck_after_word, stuck_in_word}
use Rattle.text_laws.proofs.NumberParts.{numbers_readable}
use Rattle.text_laws.proofs.Counted.{stuck_at_part}
use Rattle.text_laws.proofs.Rests.{low_ending, numbers_code, out_code, line_code, lines_code}
use Rattle.text_laws.proofs.Deciding.{any_numbers, any_line, any_frac_lines, any_int_lines}
use Rattle.text_laws.specs.RestParts.{ending_at, number_at, numbers_text, NumbersAllowed, out_part, OutAllowed, line_part, LineAllowed, lines_part}
use Rattle.text_laws.specs.RestParts.{LinesAllowed, Sizes, end_part, frac_lines_part, FracLinesAllowed, int_lines_part, IntLinesAllowed, rest_part}
use Rattle.text_laws.specs.RestParts.{RestAllowed}

-- the first i numbers of so many
abbrev pub texts_so_far : ℕ → ℕ → (ℕ → ℕ) → List ℕ
texts_so_far count i f = parts_text (number_at count) i f

-- in a number of so many, after those before it were read
pub stuck_numbers : (count bound i : ℕ) (f : ℕ → ℕ) (bytes rest : List ℕ) (k : ℕ) → i < count → 0 < bound → NumbersAllowed bound i f
    → bytes ≡ texts_so_far count i f ++ rest → IsStuck (ended_number (ending_at count i)) (IsBetween 0 (Some bound)) rest k
    → IsStuck (numbers_text count) (NumbersAllowed bound count) bytes (length (texts_so_far count i f) + k)
stuck_numbers count bound i f bytes rest k lt some h is s = stuck_at_part (number_at count) (λ _. IsBetween 0 (Some bound)) count i f bytes rest k lt
    (λ j l. code_of (number_at count j) (IsBetween 0 (Some bound)) (numbers_readable (ending_at count j) (IsBetween 0 (Some bound)) (low_ending count j)))
    (λ j l. (0, (omega arith, some))) h is s

-- an answer or a colour, as the number that stands for it
pub stuck_answer : (bound : ℕ) (bytes : List ℕ) (k : ℕ) → 2 ≤ bound → IsStuck ended_answer IsAny bytes k → IsStuck (out_part true) (OutAllowed bound) bytes k
stuck_answer bound bytes k two s = stuck_as ended_answer IsAny (out_part true) (OutAllowed bound) bytes k to (λ o i. (nat_eq o 1, tt, refl)) s
  where
    to : (b : Bool) → Unit {0} → (o : ℕ) × OutAllowed bound o × (ended_answer (nat_eq o 1) ≡ ended_answer b)
    to true i = (1, (omega arith, omega (arith, two)), refl)
    to false i = (0, (omega arith, omega (arith, two)), refl)

-- in the line of a state: its number, its output, its targets
pub stuck_own_number : (answers : Bool) (outs bound width q : ℕ) (bytes : List ℕ) (k : ℕ) → 0 < outs → 0 < bound → IsWordWrong (numeral q ++ codes " ") bytes k
    → IsStuck (line_part answers width q) (LineAllowed outs bound width) bytes k
stuck_own_number answers outs bound width q bytes k some other w =
    stuck_in_word (numeral q ++ codes " ") (pair_text (out_part answers) (λ _. numbers_text width)) (LineAllowed outs bound width) bytes k
    (any_line outs bound width some other) w

pub stuck_out : (answers : Bool) (outs bound width q : ℕ) (bytes rest : List ℕ) (k : ℕ) → 0 < bound → bytes ≡ (numeral q ++ codes " ") ++ rest
    → IsStuck (out_part answers) (OutAllowed outs) rest k
    → IsStuck (line_part answers width q) (LineAllowed outs bound width) bytes (length (numeral q ++ codes " ") + k)
stuck_out answers outs bound width q bytes rest k some is s =
    stuck_after_word (numeral q ++ codes " ") (pair_text (out_part answers) (λ _. numbers_text width)) (LineAllowed outs bound width) bytes rest k is
    (stuck_first (out_part answers) (OutAllowed outs) (λ _. numbers_text width) (λ _. NumbersAllowed bound width) rest k
    (λ o i. any_numbers width bound some) s)

pub stuck_targets : (answers : Bool) (outs bound width q o : ℕ) (bytes rest more : List ℕ) (k : ℕ) → bytes ≡ (numeral q ++ codes " ") ++ rest → o < outs
    → rest ≡ out_part answers o ++ more
    → IsStuck (numbers_text width) (NumbersAllowed bound width) more k
    → IsStuck (line_part answers width q) (LineAllowed outs bound width) bytes (length (numeral q ++ codes " ") + (length (out_part answers o) + k))
stuck_targets answers outs bound width q o bytes rest more k is inside read s =
    stuck_after_word (numeral q ++ codes " ") (pair_text (out_part answers) (λ _. numbers_text width)) (LineAllowed outs bound width) bytes rest
    (length (out_part answers o) + k) is
    (stuck_next (out_part answers) (OutAllowed outs) (numbers_text width) (NumbersAllowed bound width) rest more k o (out_code answers outs)
    (omega arith, inside) read s)

-- in a line of so many, after those before it were read
pub stuck_line : (answers : Bool) (outs bound width count q : ℕ) (f : ℕ → ℕ × (ℕ → ℕ)) (bytes rest : List ℕ) (k : ℕ) → q < count → 0 < outs → 0 < bound
    → LinesAllowed outs bound width q f → bytes ≡ lines_part answers width q f ++ rest
    → IsStuck (line_part answers width q) (LineAllowed outs bound width) rest k
    → IsStuck (lines_part answers width count) (LinesAllowed outs bound width count) bytes (length (lines_part answers width q f) + k)
stuck_line answers outs bound width count q f bytes rest k lt some other h is s =
    stuck_at_part (line_part answers width) (λ _. LineAllowed outs bound width) count q f bytes rest k lt
    (λ j l. line_code answers outs bound width j) (λ j l. any_line outs bound width some other) h is s

-- ---- the lines one after another
pub stuck_roots_word : (z : Sizes) (bytes : List ℕ) (k : ℕ) → 0 < z.ints → IsWordWrong (codes "roots ") bytes k → IsStuck (rest_part z) (RestAllowed z) bytes k
stuck_roots_word z bytes k some w = stuck_in_word (codes "roots ") (pair_text (numbers_text (2 ^ z.tracks)) (λ _. int_lines_part z)) (RestAllowed z) bytes k
    (let r = any_numbers (2 ^ z.tracks) z.ints some in let l = any_int_lines z some in ((r.0, l.0), (r.1, l.1))) w

pub stuck_roots : (z : Sizes) (bytes rest : List ℕ) (k : ℕ) → 0 < z.ints → bytes ≡ codes "roots " ++ rest
    → IsStuck (numbers_text (2 ^ z.tracks)) (NumbersAllowed z.ints (2 ^ z.tracks)) rest k → IsStuck (rest_part z) (RestAllowed z) bytes (6 + k)
stuck_roots z bytes rest k some is s = stuck_after_word (codes "roots ") (pair_text (numbers_text (2 ^ z.tracks)) (λ _. int_lines_part z)) (RestAllowed z)
    bytes rest k is
    (stuck_first (numbers_text (2 ^ z.tracks)) (NumbersAllowed z.ints (2 ^ z.tracks)) (λ _. int_lines_part z) (λ _. IntLinesAllowed z) rest k
    (λ f i. any_int_lines z some) s)

pub stuck_after_roots : (z : Sizes) (f : ℕ → ℕ) (bytes rest more : List ℕ) (k : ℕ) → bytes ≡ codes "roots " ++ rest → NumbersAllowed z.ints (2 ^ z.tracks) f
    → rest ≡ numbers_text (2 ^ z.tracks) f ++ more → IsStuck (int_lines_part z) (IntLinesAllowed z) more k
    → IsStuck (rest_part z) (RestAllowed z) bytes (6 + (length (numbers_text (2 ^ z.tracks) f) + k))
stuck_after_roots z f bytes rest more k is h read s =
    stuck_after_word (codes "roots ") (pair_text (numbers_text (2 ^ z.tracks)) (λ _. int_lines_part z)) (RestAllowed z) bytes rest
    (length (numbers_text (2 ^ z.tracks) f) + k) is
    (stuck_next (numbers_text (2 ^ z.tracks)) (NumbersAllowed z.ints (2 ^ z.tracks)) (int_lines_part z) (IntLinesAllowed z) rest more k f
    (numbers_code (2 ^ z.tracks) z.ints) h read s)

pub stuck_int_lines : (z : Sizes) (bytes : List ℕ) (k : ℕ)
    → IsStuck (lines_part (nat_eq z.fracs 0) (z.base ^ z.tracks) z.ints) (LinesAllowed (out_bound z.fracs) z.ints (z.base ^ z.tracks) z.ints) bytes k
    → IsStuck (int_lines_part z) (IntLinesAllowed z) bytes k
stuck_int_lines z bytes k s = stuck_first (lines_part (nat_eq z.fracs 0) (z.base ^ z.tracks) z.ints)
    (LinesAllowed (out_bound z.fracs) z.ints (z.base ^ z.tracks) z.ints)
    (λ _. frac_lines_part z) (λ _. FracLinesAllowed z) bytes k (λ f i. any_frac_lines z) s

pub stuck_after_int_lines : (z : Sizes) (f : ℕ → ℕ × (ℕ → ℕ)) (bytes rest : List ℕ) (k : ℕ)
    → LinesAllowed (out_bound z.fracs) z.ints (z.base ^ z.tracks) z.ints f
    → bytes ≡ lines_part (nat_eq z.fracs 0) (z.base ^ z.tracks) z.ints f ++ rest → IsStuck (frac_lines_part z) (FracLinesAllowed z) rest k
    → IsStuck (int_lines_part z) (IntLinesAllowed z) bytes (length (lines_part (nat_eq z.fracs 0) (z.base ^ z.tracks) z.ints f) + k)
stuck_after_int_lines z f bytes rest k h is s = stuck_next (lines_part (nat_eq z.fracs 0) (z.base ^ z.tracks) z.ints)
    (LinesAllowed (out_bound z.fracs) z.ints (z.base ^ z.tracks) z.ints)
    (frac_lines_part z) (FracLinesAllowed z) bytes rest k f (lines_code (nat_eq z.fracs 0) (out_bound z.fracs) z.ints (z.base ^ z.tracks) z.ints) h is s

pub stuck_frac_lines : (z : Sizes) (bytes : List ℕ) (k : ℕ)
    → IsStuck (lines_part true (z.base ^ z.tracks) z.fracs) (LinesAllowed 2 z.fracs (z.base ^ z.tracks) z.fracs) bytes k
    → IsStuck (frac_lines_part z) (FracLinesAllowed z) bytes k
stuck_frac_lines z bytes k s = stuck_first (lines_part true (z.base ^ z.tracks) z.fracs) (LinesAllowed 2 z.fracs (z.base ^ z.tracks) z.fracs)
    (λ _. end_part) (λ _. IsAny) bytes k (λ f i. (tt, tt)) s

-- in the last line
pub stuck_end : (z : Sizes) (f : ℕ → ℕ × (ℕ → ℕ)) (bytes rest : List ℕ) (k : ℕ) → LinesAllowed 2 z.fracs (z.base ^ z.tracks) z.fracs f
    → bytes ≡ lines_part true (z.base ^ z.tracks) z.fracs f ++ rest → IsWordWrong (codes "end\n") rest k
    → IsStuck (frac_lines_part z) (FracLinesAllowed z) bytes (length (lines_part true (z.base ^ z.tracks) z.fracs f) + k)
stuck_end z f bytes rest k h is w = stuck_next (lines_part true (z.base ^ z.tracks) z.fracs) (LinesAllowed 2 z.fracs (z.base ^ z.tracks) z.fracs) end_part
    IsAny bytes rest k f
    (lines_code true 2 z.fracs (z.base ^ z.tracks) z.fracs) h is (stuck_in_word (codes "end\n") (λ _. []) IsAny rest k (tt, tt) w)
