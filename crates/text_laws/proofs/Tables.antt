-- Values of functions as tables, and tables as values.
use Rattle.std.proofs.Common.{◌≡◌, ℕ, zero, suc, ◌+◌, ◌*◌, ◌/◌, ◌%◌, ◌^◌, ◌≤◌, ◌<◌, Bool, true, List, [], ◌∷◌, ◌++◌, length, codes, arith, refl, ◌∙◌}
use Rattle.std.proofs.Common.{sym, ap, ap₂, subst, length-append, ◌⊎◌, inl, inr, get_or, pow_pos}
use Rattle.std.specs.Prelude.{nat_eq, slice_index, All}
use Rattle.std.proofs.lemmas.Bool.{cases_lt}
use Rattle.std.proofs.lemmas.Nat.{div-mul-add, div-add-mod', div_below, mod_below}
use Rattle.std.proofs.lemmas.List.{get_or_append_left, get_or_at}
use Rattle.std.proofs.Math.Nat.{one-le-pow}
use Rattle.lash_model.specs.Tables.{Table, letters, out_bound}
use Rattle.canonical_laws.proofs.Diagrams.{read_below, place_within}
use Rattle.text_laws.specs.Numerals.{numeral}
use Rattle.text_laws.specs.Spellings.{Head, IsHead, rest_text, IsRestOf}
use Rattle.text_laws.specs.Reading.{IsStuck}
use Rattle.text_laws.proofs.Stops.{IsCode, code_as, stuck_as}
use Rattle.text_laws.proofs.Counted.{same_texts}
use Rattle.text_laws.proofs.Rests.{rest_part_code, table_text}
use Rattle.text_laws.specs.RestParts.{number_at, NumbersAllowed, out_part, line_part, Sizes, Values, rest_part, RestAllowed, table_sizes, int_values}
use Rattle.text_laws.specs.RestParts.{frac_values, table_values, head_sizes}

-- the list of the first values
tabulate : (ℕ → ℕ) → ℕ → List ℕ
tabulate f zero = []
tabulate f (suc n) = tabulate f n ++ f n ∷ []

tabulate_length : (f : ℕ → ℕ) (n : ℕ) → length (tabulate f n) ≡ n
unfolding tabulate
tabulate_length f zero = refl
tabulate_length f (suc n) = omega (arith, length-append (tabulate f n) (f n ∷ []), tabulate_length f n)

tabulate_at : (f : ℕ → ℕ) (n i d : ℕ) → i < n → get_or (tabulate f n) i d ≡ f i
unfolding tabulate
tabulate_at f zero i d h = absurd (omega (arith, h))
tabulate_at f (suc n) i d h = by (cases_lt i n) (tabulate_at f n i d)
  where
    by : (i < n) ⊎ (n ≤ i) → (i < n → get_or (tabulate f n) i d ≡ f i) → get_or (tabulate f n ++ f n ∷ []) i d ≡ f i
    by (inl lt) before = get_or_append_left (tabulate f n) (f n ∷ []) d i (omega (arith, lt, tabulate_length f n)) ∙ before lt
    by (inr ge) before = let same : n ≡ i = omega (arith, h, ge) in
        get_or_at (tabulate f n) (f n) [] d i (tabulate_length f n ∙ same) ∙ ap f same

tabulate_all : (P : ℕ → Type 0) (f : ℕ → ℕ) (n : ℕ) → ((i : ℕ) → i < n → P (f i)) → All P (tabulate f n)
tabulate_all P f n h k d lt = let inside : k < n = omega (arith, lt, tabulate_length f n) in subst P (sym (tabulate_at f n k d inside)) (h k inside)

row_entry : (ℕ → ℕ × (ℕ → ℕ)) → ℕ → ℕ → ℕ
row_entry g width k = (g (k / width)).1 (k % width)

row_entry_at : (g : ℕ → ℕ × (ℕ → ℕ)) (width q l : ℕ) → l < width → row_entry g width (q * width + l) ≡ (g q).1 l
unfolding row_entry
row_entry_at g width q l h = ap₂ (λ a b. (g a).1 b) (div-mul-add q width l h) rest
  where
    rest : (q * width + l) % width ≡ l
    rest = omega (arith, div-add-mod' (q * width + l) width, ap (λ n. n * width) (div-mul-add q width l h))

-- the table of the values
made : Sizes → Values → Table
made z v = record {
  base = z.base;
  tracks = z.tracks;
  roots = tabulate v.0 (2 ^ z.tracks);
  rows = tabulate (row_entry v.1.0 (z.base ^ z.tracks)) (z.ints * z.base ^ z.tracks);
  outs = tabulate (λ q. (v.1.0 q).0) z.ints;
  frac_rows = tabulate (row_entry v.1.1.0 (z.base ^ z.tracks)) (z.fracs * z.base ^ z.tracks);
  colours = tabulate (λ q. (v.1.1.0 q).0) z.fracs;
}

-- equal values have equal texts
line_same : (answers : Bool) (width q o u : ℕ) (f g : ℕ → ℕ) → o ≡ u → ((l : ℕ) → l < width → f l ≡ g l)
    → line_part answers width q (o, f) ≡ line_part answers width q (u, g)
line_same answers width q o u f g e h = ap₂ (λ x y. (numeral q ++ codes " ") ++ (out_part answers x ++ y)) e
    (same_texts (λ l. number_at width l (f l)) (λ l. number_at width l (g l)) width (λ l lt. ap (number_at width l) (h l lt)))

record SameValues (z : Sizes) (v w : Values) : Type 0 where
  pub roots : (i : ℕ) → i < 2 ^ z.tracks → v.0 i ≡ w.0 i
  pub outs : (q : ℕ) → q < z.ints → (v.1.0 q).0 ≡ (w.1.0 q).0
  pub rows : (q l : ℕ) → q < z.ints → l < z.base ^ z.tracks → (v.1.0 q).1 l ≡ (w.1.0 q).1 l
  pub colours : (q : ℕ) → q < z.fracs → (v.1.1.0 q).0 ≡ (w.1.1.0 q).0
  pub frac_rows : (q l : ℕ) → q < z.fracs → l < z.base ^ z.tracks → (v.1.1.0 q).1 l ≡ (w.1.1.0 q).1 l

rest_same : (z : Sizes) (v w : Values) → SameValues z v w → rest_part z v ≡ rest_part z w
rest_same z v w s = ap₂ (λ x y. codes "roots " ++ (x ++ y))
    (same_texts (λ i. number_at (2 ^ z.tracks) i (v.0 i)) (λ i. number_at (2 ^ z.tracks) i (w.0 i)) (2 ^ z.tracks)
    (λ i lt. ap (number_at (2 ^ z.tracks) i) (s.roots i lt)))
    (ap₂ (λ x y. x ++ (y ++ codes "end\n"))
    (same_texts (λ q. line_part (nat_eq z.fracs 0) (z.base ^ z.tracks) q (v.1.0 q)) (λ q. line_part (nat_eq z.fracs 0) (z.base ^ z.tracks) q (w.1.0 q)) z.ints
    (λ q lt. line_same (nat_eq z.fracs 0) (z.base ^ z.tracks) q (v.1.0 q).0 (w.1.0 q).0 (v.1.0 q).1 (w.1.0 q).1 (s.outs q lt) (λ l k. s.rows q l lt k)))
    (same_texts (λ q. line_part true (z.base ^ z.tracks) q (v.1.1.0 q)) (λ q. line_part true (z.base ^ z.tracks) q (w.1.1.0 q)) z.fracs
    (λ q lt. line_same true (z.base ^ z.tracks) q (v.1.1.0 q).0 (w.1.1.0 q).0 (v.1.1.0 q).1 (w.1.1.0 q).1 (s.colours q lt) (λ l k. s.frac_rows q l lt k))))

made_sizes : (z : Sizes) (v : Values) → table_sizes (made z v) ≡ z
unfolding made table_sizes
made_sizes z v = ap₂ (λ n m. record { base = z.base; tracks = z.tracks; ints = n; fracs = m }) (tabulate_length (λ q. (v.1.0 q).0) z.ints)
    (tabulate_length (λ q. (v.1.1.0 q).0) z.fracs)

made_values : (z : Sizes) (v : Values) → SameValues z (table_values (made z v)) v
unfolding made table_values int_values frac_values
made_values z v = record {
  roots = λ i lt. ap (slice_index (tabulate v.0 (2 ^ z.tracks))) (plain i) ∙ tabulate_at v.0 (2 ^ z.tracks) i 0 lt;
  outs = λ q lt. tabulate_at (λ q. (v.1.0 q).0) z.ints q 0 lt;
  rows = λ q l lt k. tabulate_at (row_entry v.1.0 (z.base ^ z.tracks)) (z.ints * z.base ^ z.tracks) (q * z.base ^ z.tracks + l) 0
      (place_within q z.ints (z.base ^ z.tracks) l lt k)
      ∙ row_entry_at v.1.0 (z.base ^ z.tracks) q l k;
  colours = λ q lt. tabulate_at (λ q. (v.1.1.0 q).0) z.fracs q 0 lt;
  frac_rows = λ q l lt k. tabulate_at (row_entry v.1.1.0 (z.base ^ z.tracks)) (z.fracs * z.base ^ z.tracks) (q * z.base ^ z.tracks + l) 0
      (place_within q z.fracs (z.base ^ z.tracks) l lt k)
      ∙ row_entry_at v.1.1.0 (z.base ^ z.tracks) q l k;
}
  where
    plain : (i : ℕ) → 0 + i ≡ i
    plain i = omega arith

made_text : (z : Sizes) (v : Values) → 1 ≤ z.base ^ z.tracks → rest_text (made z v) ≡ rest_part z v
unfolding made
made_text z v some = table_text (made z v) some (pow_pos z.tracks)
    ∙ ap (λ s. rest_part s (table_values (made z v))) (made_sizes z v)
    ∙ rest_same z (table_values (made z v)) v (made_values z v)

row_in_range : (g : ℕ → ℕ × (ℕ → ℕ)) (bound states width : ℕ) → ((q : ℕ) → q < states → NumbersAllowed bound width (g q).1) → (k : ℕ) → k < states * width
    → row_entry g width k < bound
unfolding row_entry
row_in_range g bound states zero h k lt = absurd (nothing states k lt)
  where
    nothing : (n k : ℕ) → k < n * zero → ⊥
    nothing n k h = grind arith
row_in_range g bound states (suc w) h k lt = (h (k / suc w) (div_below k (suc w) states (omega arith) lt) (k % suc w) (mod_below k (suc w) (omega arith))).1

made_allowed : (h : Head) (v : Values) → RestAllowed (head_sizes h) v → IsRestOf h (made (head_sizes h) v)
unfolding made head_sizes
made_allowed h v i =
    let W : ℕ = h.base ^ length h.variables in
    let ints_are : length (tabulate (λ q. (v.1.0 q).0) h.ints) ≡ h.ints = tabulate_length (λ q. (v.1.0 q).0) h.ints in
    let fracs_are : length (tabulate (λ q. (v.1.1.0 q).0) h.fracs) ≡ h.fracs = tabulate_length (λ q. (v.1.1.0 q).0) h.fracs in
    record {
      base = refl;
      tracks = refl;
      ints = ints_are;
      fracs = fracs_are;
      roots_count = tabulate_length v.0 (2 ^ length h.variables);
      rows_count = tabulate_length (row_entry v.1.0 W) (h.ints * W) ∙ ap (λ n. n * W) (sym ints_are);
      frac_rows_count = tabulate_length (row_entry v.1.1.0 W) (h.fracs * W) ∙ ap (λ n. n * W) (sym fracs_are);
      roots_in = subst (λ n. All (λ q. q < n) (tabulate v.0 (2 ^ length h.variables))) (sym ints_are)
          (tabulate_all (λ q. q < h.ints) v.0 (2 ^ length h.variables) (λ k lt. (i.0 k lt).1));
      rows_in = subst (λ n. All (λ q. q < n) (tabulate (row_entry v.1.0 W) (h.ints * W))) (sym ints_are)
          (tabulate_all (λ q. q < h.ints) (row_entry v.1.0 W) (h.ints * W) (row_in_range v.1.0 h.ints h.ints W (λ q lt. (i.1.0 q lt).1)));
      outs_in = subst (λ n. All (λ q. q < out_bound n) (tabulate (λ q. (v.1.0 q).0) h.ints)) (sym fracs_are)
          (tabulate_all (λ q. q < out_bound h.fracs) (λ q. (v.1.0 q).0) h.ints (λ q lt. (i.1.0 q lt).0.1));
      frac_rows_in = subst (λ n. All (λ q. q < n) (tabulate (row_entry v.1.1.0 W) (h.fracs * W))) (sym fracs_are)
          (tabulate_all (λ q. q < h.fracs) (row_entry v.1.1.0 W) (h.fracs * W) (row_in_range v.1.1.0 h.fracs h.fracs W (λ q lt. (i.1.1.0 q lt).1)));
      colours_in = tabulate_all (λ c. c < 2) (λ q. (v.1.1.0 q).0) h.fracs (λ q lt. (i.1.1.0 q lt).0.1);
    }

-- a table's values are allowed
pub values_allowed : (h : Head) (t : Table) → IsRestOf h t → RestAllowed (table_sizes t) (table_values t)
unfolding table_sizes table_values int_values frac_values
values_allowed h t r = (
  (λ i lt. (omega arith, read_below t.roots (length t.outs) (0 + i) r.roots_in (omega (arith, lt, r.roots_count)))),
  (
    (λ q lt. (
      (omega arith, read_below t.outs (out_bound (length t.colours)) q r.outs_in lt),
      (λ l k. (
        omega arith,
        read_below t.rows (length t.outs) (q * letters t + l) r.rows_in
            (subst (λ n. q * letters t + l < n) (sym r.rows_count) (place_within q (length t.outs) (letters t) l lt k)),
      )),
    )),
    (
      (λ q lt. (
        (omega arith, read_below t.colours 2 q r.colours_in lt),
        (λ l k. (
          omega arith,
          read_below t.frac_rows (length t.colours) (q * letters t + l) r.frac_rows_in
              (subst (λ n. q * letters t + l < n) (sym r.frac_rows_count) (place_within q (length t.colours) (letters t) l lt k)),
        )),
      )),
      tt,
    ),
  ),
)

pub same_sizes : (h : Head) (t : Table) → IsRestOf h t → table_sizes t ≡ head_sizes h
unfolding table_sizes head_sizes
same_sizes h t r = ap₂ (λ b n. record { base = b; tracks = n; ints = length t.outs; fracs = length t.colours }) r.base r.tracks
    ∙ ap₂ (λ n m. record { base = h.base; tracks = length h.variables; ints = n; fracs = m }) r.ints r.fracs

pub some_letters : (h : Head) → IsHead h → 1 ≤ h.base ^ length h.variables
some_letters h i = one-le-pow (length h.variables) h.base (omega (arith, i.base_low))

pub rest_to : (h : Head) → IsHead h → (v : Values) → RestAllowed (head_sizes h) v → (t : Table) × IsRestOf h t × (rest_text t ≡ rest_part (head_sizes h) v)
unfolding head_sizes
rest_to h i v a = (made (head_sizes h) v, made_allowed h v a, made_text (head_sizes h) v (some_letters h i))

-- a table's values in the sizes that the first lines say
pub allowed_of_table : (h : Head) (t : Table) → IsRestOf h t → RestAllowed (head_sizes h) (table_values t)
allowed_of_table h t r = subst (λ z. RestAllowed z (table_values t)) (same_sizes h t r) (values_allowed h t r)

pub text_of_table : (h : Head) → IsHead h → (t : Table) → IsRestOf h t → rest_part (head_sizes h) (table_values t) ≡ rest_text t
text_of_table h i t r = ap (λ z. rest_part z (table_values t)) (sym (same_sizes h t r)) ∙ sym (table_text t some (pow_pos t.tracks))
  where
    some : 1 ≤ t.base ^ t.tracks
    some = subst (λ n. 1 ≤ n) (sym (ap₂ (λ b n. b ^ n) r.base r.tracks)) (some_letters h i)

pub rest_back : (h : Head) → IsHead h → (t : Table) → IsRestOf h t → (v : Values) × RestAllowed (head_sizes h) v × (rest_part (head_sizes h) v ≡ rest_text t)
rest_back h i t r = (table_values t, allowed_of_table h t r, text_of_table h i t r)

-- what is stuck in the parts is stuck in the lines after the first ones, and their texts are told from one another
pub stuck_rest : (h : Head) → IsHead h → (bytes : List ℕ) (k : ℕ) → IsStuck (rest_part (head_sizes h)) (RestAllowed (head_sizes h)) bytes k
    → IsStuck rest_text (IsRestOf h) bytes k
stuck_rest h i bytes k s = stuck_as (rest_part (head_sizes h)) (RestAllowed (head_sizes h)) rest_text (IsRestOf h) bytes k (rest_to h i) (rest_back h i) s

pub rest_code : (h : Head) → IsHead h → IsCode rest_text (IsRestOf h)
rest_code h i = code_as (rest_part (head_sizes h)) (RestAllowed (head_sizes h)) rest_text (IsRestOf h) (rest_back h i) (rest_part_code (head_sizes h))

-- some table of the sizes that first lines say
pub any_rest : (h : Head) → IsHead h → (t : Table) × IsRestOf h t
unfolding head_sizes
any_rest h i = let r = rest_to h i zeros allowed in (r.0, r.1)
  where
    zeros : Values
    zeros = ((λ i. 0), ((λ q. (0, λ l. 0)), ((λ q. (0, λ l. 0)), tt)))

    some_out : (n : ℕ) → 0 < out_bound n
    some_out n = grind arith

    allowed : RestAllowed (head_sizes h) zeros
    allowed = (
      (λ j lt. (omega arith, omega (arith, i.some_int))),
      (
        (λ q lt. ((omega arith, some_out h.fracs), (λ l k. (omega arith, omega (arith, i.some_int))))),
        ((λ q lt. ((omega arith, omega arith), (λ l k. (omega arith, omega (arith, lt))))), tt),
      ),
    )
