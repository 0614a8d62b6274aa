-- The whole text: where a reader of it stops, and that it is read in one way.
use Rattle.std.proofs.Common.{◌≡◌, ℕ, suc, ◌+◌, ◌≤◌, List, [], ◌∷◌, ◌++◌, length, take, arith, refl, ◌∙◌, sym, ap, ap₂, subst, append_assoc}
use Rattle.std.proofs.Common.{length-append, take_at, length-take-le}
use Rattle.std.proofs.lemmas.List.{append_cancel_left, append-nil}
use Rattle.lash_model.specs.Formulas.{Sort}
use Rattle.lash_model.specs.Tables.{Table}
use Rattle.text_laws.specs.Spellings.{Head, IsHead, head_text, head_of, rest_text, spelling, IsRestOf, IsInRange}
use Rattle.text_laws.specs.Reading.{IsStuck, pair_text, PairAllowed}
use Rattle.text_laws.specs.Refusals.{IsSpelling, BeginsSpelling, IsWrongAt, IsWithin, IsWrongHead, IsWrongRest}
use Rattle.text_laws.proofs.Stops.{IsCode, IsReadable, stuck_first, stuck_second, stuck_as}
use Rattle.text_laws.proofs.Heads.{heads_readable}
use Rattle.text_laws.proofs.Tables.{rest_code, any_rest}

abbrev pub spelled : (List (List ℕ × Sort) × Table) → List ℕ
spelled x = spelling x.0 x.1

abbrev pub SpelledAllowed : (List (List ℕ × Sort) × Table) → Type 0
SpelledAllowed x = IsInRange x.0 x.1

-- first lines and a table of their sizes
abbrev head_and_rest : (Head × Table) → List ℕ
head_and_rest = pair_text head_text (λ _. rest_text)

abbrev HeadAndRest : (Head × Table) → Type 0
HeadAndRest = PairAllowed IsHead IsRestOf

pub same_head_of : (h : Head) (t : Table) → IsRestOf h t → head_of h.variables t ≡ h
same_head_of h t r = ap (λ b. record { base = b; variables = h.variables; ints = length t.outs; fracs = length t.colours }) r.base
    ∙ ap₂ (λ n m. record { base = h.base; variables = h.variables; ints = n; fracs = m }) r.ints r.fracs

of_pairs : (bytes : List ℕ) (k : ℕ) → IsStuck head_and_rest HeadAndRest bytes k → IsStuck spelled SpelledAllowed bytes k
of_pairs bytes k s = stuck_as head_and_rest HeadAndRest spelled SpelledAllowed bytes k
    (λ x i. let e = same_head_of x.0 x.1 i.1 in (
      (x.0.variables, x.1),
      record { head = subst IsHead (sym e) i.0; rest = subst (λ g. IsRestOf g x.1) (sym e) i.1 },
      ap (λ g. head_text g ++ rest_text x.1) e,
    ))
    (λ x i. ((head_of x.0 x.1, x.1), (i.head, i.rest), refl)) s

-- in the first lines
pub stuck_in_head : (bytes : List ℕ) (k : ℕ) → IsStuck head_text IsHead bytes k → IsStuck spelled SpelledAllowed bytes k
stuck_in_head bytes k s = of_pairs bytes k (stuck_first head_text IsHead (λ _. rest_text) IsRestOf bytes k any_rest s)

-- after them
pub stuck_after_head : (h : Head) (bytes rest : List ℕ) (k : ℕ) → IsHead h → bytes ≡ head_text h ++ rest → IsStuck rest_text (IsRestOf h) rest k
    → IsStuck spelled SpelledAllowed bytes (length (head_text h) + k)
stuck_after_head h bytes rest k i is s = of_pairs bytes (length (head_text h) + k)
    (stuck_second head_text IsHead (λ _. rest_text) IsRestOf bytes rest k h heads_readable i is s)

front_again : (bytes more : List ℕ) (k : ℕ) → k ≤ length bytes → take k (take k bytes ++ more) ≡ take k bytes
front_again bytes more k h = take_at (take k bytes) more k (length-take-le k bytes h)

-- where a reader of the whole stops, the bytes are wrong
pub wrong_at : (bytes : List ℕ) (k : ℕ) → IsStuck spelled SpelledAllowed bytes k → IsWrongAt bytes k
wrong_at bytes k s = record {
  inside = s.inside;
  begins = record { variables = s.value.0; table = s.value.1; in_range = s.allowed; more = s.more; is = s.begins };
  longest = λ lt b. s.excluded (b.variables, b.table) b.in_range []
      (sym (front_again bytes b.more (k + 1) (omega (arith, lt))) ∙ ap (take (k + 1)) (sym b.is)
      ∙ ap (take (k + 1)) (sym (append-nil (spelling b.variables b.table))));
  unfinished = λ e vs t x. s.excluded (vs, t) x.in_range [] (ap (take (k + 1)) (x.is ∙ sym (append-nil (spelling vs t))));
}

pub wrong_in_head : (bytes : List ℕ) (k : ℕ) → IsStuck head_text IsHead bytes k → IsWrongHead bytes k
wrong_in_head bytes k s = record {
  wrong = wrong_at bytes k (stuck_in_head bytes k s);
  not_whole = λ h w. s.excluded h w.head w.more (ap (take (k + 1)) w.is);
}

pub wrong_after : (h : Head) (bytes rest : List ℕ) (k : ℕ) → IsHead h → IsWithin h → bytes ≡ head_text h ++ rest → IsStuck rest_text (IsRestOf h) rest k
    → IsWrongRest bytes (length (head_text h) + k)
wrong_after h bytes rest k i within is s = record {
  said = h;
  whole = record { head = i; more = rest; is = is };
  within = within;
  wrong = wrong_at bytes (length (head_text h) + k) (stuck_after_head h bytes rest k i is s);
}

-- first lines and a table of their sizes are a spelling
pub spelled_whole : (h : Head) (t : Table) (bytes : List ℕ) → IsHead h → IsRestOf h t → bytes ≡ head_text h ++ rest_text t → IsSpelling bytes h.variables t
spelled_whole h t bytes i r is = let e = same_head_of h t r in record {
  in_range = record { head = subst IsHead (sym e) i; rest = subst (λ g. IsRestOf g t) (sym e) r };
  is = is ∙ ap (λ g. head_text g ++ rest_text t) (sym e);
}

-- ---- a spelling in front of anything is read in one way
pub record SameSpelling (vs us : List (List ℕ × Sort)) (t u : Table) (x y : List ℕ) : Type 0 where
  pub heads : head_of vs t ≡ head_of us u
  pub variables : vs ≡ us
  pub rests : rest_text t ≡ rest_text u
  pub back : x ≡ y

pub read_spelling : (vs us : List (List ℕ × Sort)) (t u : Table) → IsInRange vs t → IsInRange us u → (x y : List ℕ)
    → spelling vs t ++ x ≡ spelling us u ++ y → SameSpelling vs us t u x y
unfolding IsReadable IsCode
read_spelling vs us t u it iu x y e =
    let after : head_text (head_of vs t) ++ (rest_text t ++ x) ≡ head_text (head_of us u) ++ (rest_text u ++ y) =
    sym (append_assoc (head_text (head_of vs t)) (rest_text t) x) ∙ e ∙ append_assoc (head_text (head_of us u)) (rest_text u) y in
    let heads : head_of vs t ≡ head_of us u = heads_readable (head_of vs t) (head_of us u) it.head iu.head (rest_text t ++ x) (rest_text u ++ y) after in
    let rests : rest_text t ++ x ≡ rest_text u ++ y = append_cancel_left (head_text (head_of us u)) (rest_text t ++ x) (rest_text u ++ y)
    (ap (λ h. head_text h ++ (rest_text t ++ x)) (sym heads) ∙ after) in
    let same : rest_text t ≡ rest_text u = rest_code (head_of us u) iu.head t u (subst (λ h. IsRestOf h t) heads it.rest) iu.rest x y rests in
    record {
      heads = heads;
      variables = ap (λ (h : Head). h.variables) heads;
      rests = same;
      back =
          append_cancel_left (rest_text u) x y (ap (λ r. r ++ x) (sym same) ∙ rests);
    }

-- a byte after a whole text
pub wrong_end : (vs : List (List ℕ × Sort)) (t : Table) (bytes rest : List ℕ) (b : ℕ) → IsInRange vs t → bytes ≡ spelling vs t ++ b ∷ rest
    → IsWrongAt bytes (length (spelling vs t))
wrong_end vs t bytes rest b i is = record {
  inside = omega (arith, long);
  begins = record { variables = vs; table = t; in_range = i; more = []; is = sym front ∙ sym (append-nil (take (length (spelling vs t)) bytes)) };
  longest = λ lt w. further w (read_spelling w.variables vs w.table t w.in_range i [] (b ∷ (w.more))
      (append-nil (spelling w.variables w.table) ∙ w.is ∙ ap (λ f. f ++ w.more) one_more ∙ append_assoc (spelling vs t) (b ∷ []) w.more));
  unfinished = λ e us u x. absurd (omega (arith, long, e));
}
  where
    long : length bytes ≡ length (spelling vs t) + suc (length rest)
    long = ap length is ∙ length-append (spelling vs t) (b ∷ rest)

    front : take (length (spelling vs t)) bytes ≡ spelling vs t
    front = ap (take (length (spelling vs t))) is ∙ take_at (spelling vs t) (b ∷ rest) (length (spelling vs t)) refl

    one_more : take (length (spelling vs t) + 1) bytes ≡ spelling vs t ++ b ∷ []
    one_more = ap (take (length (spelling vs t) + 1)) (is ∙ sym (append_assoc (spelling vs t) (b ∷ []) rest))
        ∙ take_at (spelling vs t ++ b ∷ []) rest (length (spelling vs t) + 1) (length-append (spelling vs t) (b ∷ []))

    further : (w : BeginsSpelling (take (length (spelling vs t) + 1) bytes)) → SameSpelling w.variables vs w.table t [] (b ∷ w.more) → ⊥
    further w s = omega (arith, ap length s.back)
