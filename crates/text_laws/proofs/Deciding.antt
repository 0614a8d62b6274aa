-- A reader of the whole text meets a table within the limits, or a wrong byte, or a size beyond the limits.
use Rattle.std.proofs.Common.{◌≡◌, ℕ, ◌+◌, ◌*◌, ◌^◌, ◌≤◌, ◌<◌, Bool, true, false, List, [], ◌∷◌, ◌++◌, length, codes, None, Some, arith, refl, ◌∙◌}
use Rattle.std.proofs.Common.{sym, ap, subst, append_assoc, append-nil, ◌⊎◌, inl, inr}
use Rattle.std.specs.Prelude.{nat_eq, if◌then◌else◌}
use Rattle.std.proofs.lemmas.Bool.{cases_lt}
use Rattle.lash_model.specs.Tables.{Table, out_bound}
use Rattle.text_laws.specs.Numerals.{numeral}
use Rattle.text_laws.specs.Parts.{ended_number, ended_answer, IsBetween, ended_variables}
use Rattle.text_laws.specs.Spellings.{Head, has_real, AreNew, IsHead, head_text, head_of, rest_text, spelling, IsRestOf, IsInRange}
use Rattle.text_laws.specs.Reading.{Met, read, stuck, pair_text, IsAny}
use Rattle.text_laws.specs.Refusals.{IsWithin, IsForm, IsPastLimit, SpellsWithin}
use Rattle.text_laws.proofs.Stops.{code_of}
use Rattle.text_laws.proofs.NumberParts.{numbers_readable}
use Rattle.text_laws.proofs.Variables.{variables_readable}
use Rattle.text_laws.proofs.Heads.{head_to, head_back, any_counts, any_variables, any_frac}
use Rattle.text_laws.proofs.Rests.{low_ending, numbers_code, out_code, line_code, lines_code}
use Rattle.text_laws.proofs.Tables.{rest_to, rest_back}
use Rattle.text_laws.proofs.Whole.{wrong_in_head, wrong_after, wrong_end, same_head_of}
use Rattle.text_laws.proofs.Meeting.{met_word, met_pair, met_next, met_as, met_parts, met_base, met_count, met_below, met_answer}
use Rattle.text_laws.proofs.MeetingNames.{met_variables}
use Rattle.text_laws.specs.HeadParts.{frac_part, FracAllowed, counts_part, CountsAllowed, variables_part, VariablesAllowed, base_part, BaseAllowed}
use Rattle.text_laws.specs.RestParts.{ending_at, number_at, numbers_text, NumbersAllowed, out_part, OutAllowed, line_part, LineAllowed, lines_part}
use Rattle.text_laws.specs.RestParts.{LinesAllowed, Sizes, end_part, frac_lines_part, FracLinesAllowed, int_lines_part, IntLinesAllowed, rest_part}
use Rattle.text_laws.specs.RestParts.{RestAllowed, head_sizes}

-- ---- the first lines
met_frac : (real : Bool) (bytes : List ℕ) → Met (frac_part real) (FracAllowed real) bytes
met_frac true bytes = met_word (codes "frac ") (ended_number 10) (FracAllowed true) bytes (any_frac true) (λ rest. met_count rest)
met_frac false bytes = read 0 refl bytes refl

met_counts : (real : Bool) (bytes : List ℕ) → Met (counts_part real) (CountsAllowed real) bytes
met_counts real bytes = met_word (codes "int ") (pair_text (ended_number 10) (λ _. frac_part real)) (CountsAllowed real) bytes (any_counts real)
    (λ rest. met_pair (ended_number 10) (IsBetween 1 None) (λ _. frac_part real) (λ _. FracAllowed real) rest
    (numbers_readable 10 (IsBetween 1 None) (omega arith))
    (λ a i. any_frac real) (met_count rest) (λ a i r. met_frac real r))

met_after_base : (bytes : List ℕ) → Met variables_part VariablesAllowed bytes
met_after_base bytes = met_word (codes "vars") (pair_text ended_variables (λ vs. counts_part (has_real vs))) VariablesAllowed bytes any_variables
    (λ rest. met_pair ended_variables (AreNew []) (λ vs. counts_part (has_real vs)) (λ vs. CountsAllowed (has_real vs)) rest (variables_readable [])
    (λ vs i. any_counts (has_real vs)) (met_variables (length rest) [] rest (omega arith)) (λ vs i r. met_counts (has_real vs) r))

pub met_head : (bytes : List ℕ) → Met head_text IsHead bytes
met_head bytes = met_as base_part BaseAllowed head_text IsHead bytes head_to head_back
    (met_word (codes "lash 1\nbase ") (pair_text (ended_number 10) (λ _. variables_part)) BaseAllowed bytes
    ((2, any_variables.0), ((omega arith, omega arith), any_variables.1))
    (λ rest. met_pair (ended_number 10) (IsBetween 2 (Some 17)) (λ _. variables_part) (λ _. VariablesAllowed) rest
    (numbers_readable 10 (IsBetween 2 (Some 17)) (omega arith))
    (λ a i. any_variables) (met_base rest) (λ a i r. met_after_base r)))

-- ---- the lines after them
pub any_numbers : (count bound : ℕ) → 0 < bound → (f : ℕ → ℕ) × NumbersAllowed bound count f
any_numbers count bound some = ((λ i. 0), (λ i lt. (omega arith, some)))

met_numbers : (count bound : ℕ) (bytes : List ℕ) → 0 < bound → Met (numbers_text count) (NumbersAllowed bound count) bytes
met_numbers count bound bytes some = met_parts (number_at count) (λ _. IsBetween 0 (Some bound)) count bytes 0
    (λ i lt. code_of (number_at count i) (IsBetween 0 (Some bound)) (numbers_readable (ending_at count i) (IsBetween 0 (Some bound)) (low_ending count i)))
    (λ i lt. (0, (omega arith, some))) (λ i lt rest. met_below bound (ending_at count i) rest some (low_ending count i))

met_out : (answers : Bool) (bound : ℕ) (bytes : List ℕ) → 0 < bound → (answers ≡ true → 2 ≤ bound) → Met (out_part answers) (OutAllowed bound) bytes
met_out true bound bytes some two = met_as ended_answer IsAny (out_part true) (OutAllowed bound) bytes to (λ o i. (nat_eq o 1, tt, refl)) (met_answer bytes)
  where
    to : (b : Bool) → Unit {0} → (o : ℕ) × OutAllowed bound o × (ended_answer (nat_eq o 1) ≡ ended_answer b)
    to true i = (1, (omega arith, omega (arith, two refl)), refl)
    to false i = (0, (omega arith, some), refl)
met_out false bound bytes some two = met_below bound 32 bytes some (omega arith)

pub any_line : (outs bound width : ℕ) → 0 < outs → 0 < bound → (x : ℕ × (ℕ → ℕ)) × LineAllowed outs bound width x
any_line outs bound width some other = ((0, λ i. 0), ((omega arith, some), (λ i lt. (omega arith, other))))

met_line : (answers : Bool) (outs bound width q : ℕ) (bytes : List ℕ) → 0 < outs → (answers ≡ true → 2 ≤ outs) → 0 < bound
    → Met (line_part answers width q) (LineAllowed outs bound width) bytes
met_line answers outs bound width q bytes some two other = met_word (numeral q ++ codes " ") (pair_text (out_part answers) (λ _. numbers_text width))
    (LineAllowed outs bound width) bytes
    (any_line outs bound width some other)
    (λ rest. met_next (out_part answers) (OutAllowed outs) (numbers_text width) (NumbersAllowed bound width) rest (out_code answers outs)
    (any_numbers width bound other)
    (met_out answers outs rest some two) (λ r. met_numbers width bound r other))

met_lines : (answers : Bool) (outs bound width count : ℕ) (bytes : List ℕ) → 0 < outs → (answers ≡ true → 2 ≤ outs) → (0 < count → 0 < bound)
    → Met (lines_part answers width count) (LinesAllowed outs bound width count) bytes
met_lines answers outs bound width count bytes some two other = met_parts (line_part answers width) (λ _. LineAllowed outs bound width) count bytes (0, λ i. 0)
    (λ q lt. line_code answers outs bound width q) (λ q lt. any_line outs bound width some (other (omega (arith, lt))))
    (λ q lt rest. met_line answers outs bound width q rest some two (other (omega (arith, lt))))

any_lines : (outs bound width count : ℕ) → 0 < outs → (0 < count → 0 < bound) → (f : ℕ → ℕ × (ℕ → ℕ)) × LinesAllowed outs bound width count f
any_lines outs bound width count some other = ((λ q. (0, λ i. 0)), (λ q lt. ((omega arith, some), (λ i l. (omega arith, other (omega (arith, lt)))))))

met_end : (bytes : List ℕ) → Met end_part IsAny bytes
met_end bytes = met_word (codes "end\n") (λ _. []) IsAny bytes (tt, tt) (λ rest. read tt tt rest refl)

some_out : (n : ℕ) → 0 < out_bound n
some_out n = grind arith

two_outs : (n : ℕ) → nat_eq n 0 ≡ true → 2 ≤ out_bound n
two_outs n e = at_least (out_bound n) (ap (λ (b : Bool). if b then 2 else n) e)
  where
    at_least : (a : ℕ) → a ≡ 2 → 2 ≤ a
    at_least a h = omega (arith, h)

pub any_frac_lines : (z : Sizes) → (x : (ℕ → ℕ × (ℕ → ℕ)) × Unit {0}) × FracLinesAllowed z x
any_frac_lines z = let l = any_lines 2 z.fracs (z.base ^ z.tracks) z.fracs (omega arith) (λ some. some) in ((l.0, tt), (l.1, tt))

pub any_int_lines : (z : Sizes) → 0 < z.ints → (x : (ℕ → ℕ × (ℕ → ℕ)) × ((ℕ → ℕ × (ℕ → ℕ)) × Unit {0})) × IntLinesAllowed z x
any_int_lines z some = let l = any_lines (out_bound z.fracs) z.ints (z.base ^ z.tracks) z.ints (some_out z.fracs) (λ _. some) in
    let f = any_frac_lines z in ((l.0, f.0), (l.1, f.1))

met_frac_lines : (z : Sizes) (bytes : List ℕ) → Met (frac_lines_part z) (FracLinesAllowed z) bytes
met_frac_lines z bytes = met_next (lines_part true (z.base ^ z.tracks) z.fracs) (LinesAllowed 2 z.fracs (z.base ^ z.tracks) z.fracs) end_part IsAny bytes
    (lines_code true 2 z.fracs (z.base ^ z.tracks) z.fracs) (tt, tt)
    (met_lines true 2 z.fracs (z.base ^ z.tracks) z.fracs bytes (omega arith) (λ _. omega arith) (λ some. some)) (λ rest. met_end rest)

met_int_lines : (z : Sizes) (bytes : List ℕ) → 0 < z.ints → Met (int_lines_part z) (IntLinesAllowed z) bytes
met_int_lines z bytes some = met_next (lines_part (nat_eq z.fracs 0) (z.base ^ z.tracks) z.ints)
    (LinesAllowed (out_bound z.fracs) z.ints (z.base ^ z.tracks) z.ints) (frac_lines_part z) (FracLinesAllowed z) bytes
    (lines_code (nat_eq z.fracs 0) (out_bound z.fracs) z.ints (z.base ^ z.tracks) z.ints) (any_frac_lines z)
    (met_lines (nat_eq z.fracs 0) (out_bound z.fracs) z.ints (z.base ^ z.tracks) z.ints bytes (some_out z.fracs) (two_outs z.fracs) (λ _. some))
    (λ rest. met_frac_lines z rest)

met_rest_part : (z : Sizes) (bytes : List ℕ) → 0 < z.ints → Met (rest_part z) (RestAllowed z) bytes
met_rest_part z bytes some = met_word (codes "roots ") (pair_text (numbers_text (2 ^ z.tracks)) (λ _. int_lines_part z)) (RestAllowed z) bytes
    (let r = any_numbers (2 ^ z.tracks) z.ints some in let l = any_int_lines z some in ((r.0, l.0), (r.1, l.1)))
    (λ rest. met_next (numbers_text (2 ^ z.tracks)) (NumbersAllowed z.ints (2 ^ z.tracks)) (int_lines_part z) (IntLinesAllowed z) rest
    (numbers_code (2 ^ z.tracks) z.ints) (any_int_lines z some)
    (met_numbers (2 ^ z.tracks) z.ints rest some) (λ r. met_int_lines z r some))

pub met_rest : (h : Head) → IsHead h → (bytes : List ℕ) → Met rest_text (IsRestOf h) bytes
unfolding head_sizes
met_rest h i bytes = met_as (rest_part (head_sizes h)) (RestAllowed (head_sizes h)) rest_text (IsRestOf h) bytes (rest_to h i) (rest_back h i)
    (met_rest_part (head_sizes h) bytes i.some_int)

-- ---- the whole
within : (h : Head) → IsWithin h ⊎ (IsWithin h → ⊥)
within h = by (cases_lt 4096 (h.base ^ length h.variables)) (cases_lt 16777216 ((h.ints + h.fracs) * (h.base ^ length h.variables + 1)))
  where
    by : (4096 < h.base ^ length h.variables) ⊎ (h.base ^ length h.variables ≤ 4096)
        → (16777216 < (h.ints + h.fracs) * (h.base ^ length h.variables + 1)) ⊎ ((h.ints + h.fracs) * (h.base ^ length h.variables + 1) ≤ 16777216)
        → IsWithin h ⊎ (IsWithin h → ⊥)
    by (inl lt) o = inr (λ w. omega (arith, lt, w.few_letters))
    by (inr le) (inl lt) = inr (λ w. omega (arith, lt, w.few_cells))
    by (inr le) (inr few) = inl (record { few_letters = le; few_cells = few })

-- each list of bytes is wrong at a byte, says a size beyond the limits, or spells a table within them
pub some_answer : (bytes : List ℕ) → ((k : ℕ) × IsForm bytes k) ⊎ (IsPastLimit bytes ⊎ SpellsWithin bytes)
some_answer bytes = by (met_head bytes)
  where
    whole : (h : Head) → IsHead h → IsWithin h → (t : Table) → IsRestOf h t → (r : List ℕ) → bytes ≡ head_text h ++ (rest_text t ++ r)
        → ((k : ℕ) × IsForm bytes k) ⊎ (IsPastLimit bytes ⊎ SpellsWithin bytes)
    whole h i w t it r is = at r is
      where
        again : head_of h.variables t ≡ h
        again = same_head_of h t it

        range : IsInRange h.variables t
        range = record { head = subst IsHead (sym again) i; rest = subst (λ g. IsRestOf g t) (sym again) it }

        at : (r : List ℕ) → bytes ≡ head_text h ++ (rest_text t ++ r) → ((k : ℕ) × IsForm bytes k) ⊎ (IsPastLimit bytes ⊎ SpellsWithin bytes)
        at [] is = inr (inr (record {
          variables = h.variables;
          table = t;
          spelled = record {
            in_range = range;
            is = is ∙ ap (λ x. head_text h ++ x) (append-nil (rest_text t))
                ∙ ap (λ g. head_text g ++ rest_text t) (sym again);
          };
          within = subst IsWithin (sym again) w;
        }))
        at (b ∷ r) is = inl (
          length (spelling h.variables t),
          inr (record {
            said = h;
            whole = record { head = i; more = rest_text t ++ b ∷ r; is = is };
            within = w;
            wrong = wrong_end h.variables t bytes r b range
                (is ∙ sym (append_assoc (head_text h) (rest_text t) (b ∷ r)) ∙ ap (λ g. (head_text g ++ rest_text t) ++ b ∷ r) (sym again));
          }),
        )

    after : (h : Head) → IsHead h → (rest : List ℕ) → bytes ≡ head_text h ++ rest → IsWithin h → Met rest_text (IsRestOf h) rest
        → ((k : ℕ) × IsForm bytes k) ⊎ (IsPastLimit bytes ⊎ SpellsWithin bytes)
    after h i rest is w (read t it r e) = whole h i w t it r (is ∙ ap (λ x. head_text h ++ x) e)
    after h i rest is w (stuck k s) = inl (length (head_text h) + k, inr (wrong_after h bytes rest k i w is s))

    judged : (h : Head) → IsHead h → (rest : List ℕ) → bytes ≡ head_text h ++ rest → IsWithin h ⊎ (IsWithin h → ⊥)
        → ((k : ℕ) × IsForm bytes k) ⊎ (IsPastLimit bytes ⊎ SpellsWithin bytes)
    judged h i rest is (inl w) = after h i rest is w (met_rest h i rest)
    judged h i rest is (inr n) = inr (inl (record { said = h; whole = record { head = i; more = rest; is = is }; passed = n }))

    by : Met head_text IsHead bytes → ((k : ℕ) × IsForm bytes k) ⊎ (IsPastLimit bytes ⊎ SpellsWithin bytes)
    by (stuck k s) = inl (k, inl (wrong_in_head bytes k s))
    by (read h i rest is) = judged h i rest is (within h)
