-- Readers that go from place to place: what they say of parts put together.
use Rattle.std.proofs.Common.{◌≡◌, ℕ, suc, ◌+◌, ◌-◌, ◌≤◌, ◌<◌, List, [], ◌∷◌, ◌++◌, length, drop, arith, refl, ◌∙◌, sym, ap, subst, append_assoc, append-nil}
use Rattle.std.proofs.Common.{length-append, length-drop, drop_at, drop-drop, ◌⊎◌, inl, inr}
use Rattle.std.proofs.lemmas.Bool.{cases_lt}
use Rattle.std.proofs.lemmas.List.{drop_all}
use Rattle.lash_model.specs.Tables.{Table}
use Rattle.text_laws.specs.Reading.{IsStuck, pair_text, PairAllowed, after_word, IsWordWrong, parts_text, PartsAllowed}
use Rattle.text_laws.specs.Places.{IsReadAt, IsStuckAt}
use Rattle.text_laws.specs.HeadParts.{base_part, BaseAllowed}
use Rattle.text_laws.specs.RestParts.{rest_part, RestAllowed, head_sizes}
use Rattle.text_laws.specs.Spellings.{Head, IsHead, head_text, rest_text, IsRestOf, head_of, IsInRange}
use Rattle.text_laws.specs.Refusals.{IsWithin, IsWrongHead, IsWrongRest, IsWrongAt, IsSpelling, IsPastLimit}
use Rattle.text_laws.proofs.Stops.{IsCode, IsReadable, stuck_first, stuck_second, stuck_next, stuck_as, stuck_after_word, stuck_in_word}
use Rattle.text_laws.proofs.Counted.{stuck_at_part}
use Rattle.text_laws.proofs.Heads.{stuck_head}
use Rattle.text_laws.proofs.Tables.{stuck_rest}
use Rattle.text_laws.proofs.Whole.{wrong_in_head, wrong_after, wrong_end, spelled_whole, same_head_of}

-- a text ends as many places on as it is long
pub place_of : {A : Type 0} (text : A → List ℕ) (Allowed : A → Type 0) (bytes : List ℕ) (start : ℕ) (a : A) (next : ℕ)
    → IsReadAt text Allowed bytes start a next
    → next ≡ start + length (text a)
place_of text Allowed bytes start a next r =
    omega (arith, r.begun, r.inside, length-drop start bytes, length-drop next bytes, ap length r.is, length-append (text a) (drop next bytes))

-- a text that ends where it is as long as it says
pub read_at : {A : Type 0} (text : A → List ℕ) (Allowed : A → Type 0) (bytes : List ℕ) (start : ℕ) (a : A) (rest : List ℕ) → Allowed a → start ≤ length bytes
    → drop start bytes ≡ text a ++ rest → IsReadAt text Allowed bytes start a (start + length (text a))
read_at text Allowed bytes start a rest i begun is = record {
  allowed = i;
  is = is ∙ ap (λ r. text a ++ r) (sym (after ∙ ap (drop (length (text a))) is ∙ drop_at (text a) rest (length (text a)) refl));
  begun = begun;
  inside = omega (arith, begun, length-drop start bytes, ap length is, length-append (text a) rest);
}
  where
    after : drop (start + length (text a)) bytes ≡ drop (length (text a)) (drop start bytes)
    after = sym (drop-drop (length (text a)) start bytes)

-- ---- two parts
pub pair_read : {A B : Type 0} (text : A → List ℕ) (Allowed : A → Type 0) (next : A → B → List ℕ) (NextAllowed : A → B → Type 0) (bytes : List ℕ)
    (start middle end : ℕ) (a : A) (b : B)
    → IsReadAt text Allowed bytes start a middle → IsReadAt (next a) (NextAllowed a) bytes middle b end
    → IsReadAt (pair_text text next) (PairAllowed Allowed NextAllowed) bytes start (a, b) end
pair_read text Allowed next NextAllowed bytes start middle end a b x y = record {
  allowed = (x.allowed, y.allowed);
  is = x.is ∙ ap (λ t. text a ++ t) y.is ∙ sym (append_assoc (text a) (next a b) (drop end bytes));
  begun = x.begun;
  inside = y.inside;
}

pub pair_first : {A B : Type 0} (text : A → List ℕ) (Allowed : A → Type 0) (next : A → B → List ℕ) (NextAllowed : A → B → Type 0) (bytes : List ℕ)
    (start place : ℕ)
    → ((a : A) → Allowed a → (b : B) × NextAllowed a b) → IsStuckAt text Allowed bytes start place
    → IsStuckAt (pair_text text next) (PairAllowed Allowed NextAllowed) bytes start place
pair_first text Allowed next NextAllowed bytes start place any s =
    record { from = s.from; stuck = stuck_first text Allowed next NextAllowed (drop start bytes) (place - start) any s.stuck }

further : (start n middle place : ℕ) → middle ≡ start + n → middle ≤ place → n + (place - middle) ≡ place - start
further start n middle place e h = omega (arith, e, h)

pub pair_second : {A B : Type 0} (text : A → List ℕ) (Allowed : A → Type 0) (next : A → B → List ℕ) (NextAllowed : A → B → Type 0) (bytes : List ℕ)
    (start middle place : ℕ) (a : A)
    → IsReadable text Allowed → IsReadAt text Allowed bytes start a middle → IsStuckAt (next a) (NextAllowed a) bytes middle place
    → IsStuckAt (pair_text text next) (PairAllowed Allowed NextAllowed) bytes start place
pair_second text Allowed next NextAllowed bytes start middle place a readable r s = let e = place_of text Allowed bytes start a middle r in record {
  from = omega (arith, e, s.from);
  stuck = subst (IsStuck (pair_text text next) (PairAllowed Allowed NextAllowed) (drop start bytes)) (further start (length (text a)) middle place e s.from)
      (stuck_second text Allowed next NextAllowed (drop start bytes) (drop middle bytes) (place - middle) a readable r.allowed r.is s.stuck);
}

-- if only texts are told apart
pub pair_next : {A B : Type 0} (text : A → List ℕ) (Allowed : A → Type 0) (next : B → List ℕ) (NextAllowed : B → Type 0) (bytes : List ℕ)
    (start middle place : ℕ) (a : A)
    → IsCode text Allowed → IsReadAt text Allowed bytes start a middle → IsStuckAt next NextAllowed bytes middle place
    → IsStuckAt (pair_text text (λ _. next)) (PairAllowed Allowed (λ _. NextAllowed)) bytes start place
pair_next text Allowed next NextAllowed bytes start middle place a code r s = let e = place_of text Allowed bytes start a middle r in record {
  from = omega (arith, e, s.from);
  stuck = subst (IsStuck (pair_text text (λ _. next)) (PairAllowed Allowed (λ _. NextAllowed)) (drop start bytes))
      (further start (length (text a)) middle place e s.from)
      (stuck_next text Allowed next NextAllowed (drop start bytes) (drop middle bytes) (place - middle) a code r.allowed r.is s.stuck);
}

-- ---- a word in front, which is there
abbrev pub IsWordAt : List ℕ → List ℕ → ℕ → ℕ → Type 0
IsWordAt word bytes start next = IsReadAt (λ (u : Unit {0}). word) (λ u. Unit {0}) bytes start tt next

pub word_read : {A : Type 0} (word : List ℕ) (text : A → List ℕ) (Allowed : A → Type 0) (bytes : List ℕ) (start middle end : ℕ) (a : A)
    → IsWordAt word bytes start middle
    → IsReadAt text Allowed bytes middle a end → IsReadAt (after_word word text) Allowed bytes start a end
word_read word text Allowed bytes start middle end a w r = record {
  allowed = r.allowed;
  is = w.is ∙ ap (λ t. word ++ t) r.is ∙ sym (append_assoc word (text a) (drop end bytes));
  begun = w.begun;
  inside = r.inside;
}

pub word_wrong : {A : Type 0} (word : List ℕ) (text : A → List ℕ) (Allowed : A → Type 0) (bytes : List ℕ) (start place : ℕ) → ((a : A) × Allowed a)
    → start ≤ place
    → IsWordWrong word (drop start bytes) (place - start) → IsStuckAt (after_word word text) Allowed bytes start place
word_wrong word text Allowed bytes start place any from w =
    record { from = from; stuck = stuck_in_word word text Allowed (drop start bytes) (place - start) any w }

pub word_second : {A : Type 0} (word : List ℕ) (text : A → List ℕ) (Allowed : A → Type 0) (bytes : List ℕ) (start middle place : ℕ)
    → IsWordAt word bytes start middle
    → IsStuckAt text Allowed bytes middle place → IsStuckAt (after_word word text) Allowed bytes start place
word_second word text Allowed bytes start middle place w s = let e = place_of (λ (u : Unit {0}). word) (λ u. Unit {0}) bytes start tt middle w in record {
  from = omega (arith, e, s.from);
  stuck = subst (IsStuck (after_word word text) Allowed (drop start bytes)) (further start (length word) middle place e s.from)
      (stuck_after_word word text Allowed (drop start bytes) (drop middle bytes) (place - middle) w.is s.stuck);
}

-- ---- so many parts
pub part_more : {V : Type 0} (part : ℕ → V → List ℕ) (Allowed : ℕ → V → Type 0) (i : ℕ) (f : ℕ → V) (bytes : List ℕ) (start middle end : ℕ)
    → IsReadAt (parts_text part i) (PartsAllowed Allowed i) bytes start f middle → IsReadAt (part i) (Allowed i) bytes middle (f i) end
    → IsReadAt (parts_text part (suc i)) (PartsAllowed Allowed (suc i)) bytes start f end
part_more part Allowed i f bytes start middle end r s = record {
  allowed = λ j lt. all j lt (below j i lt);
  is = r.is ∙ ap (λ t. parts_text part i f ++ t) s.is ∙ sym (append_assoc (parts_text part i f) (part i (f i)) (drop end bytes));
  begun = r.begun;
  inside = s.inside;
}
  where
    below : (j i : ℕ) → j < suc i → (j < i) ⊎ (i ≡ j)
    below j i lt = by (cases_lt j i)
      where
        by : (j < i) ⊎ (i ≤ j) → (j < i) ⊎ (i ≡ j)
        by (inl h) = inl h
        by (inr h) = inr (omega (arith, h, lt))

    all : (j : ℕ) → j < suc i → (j < i) ⊎ (i ≡ j) → Allowed j (f j)
    all j lt (inl h) = r.allowed j h
    all j lt (inr e) = subst (λ n. Allowed n (f n)) e s.allowed

pub part_stuck : {V : Type 0} (part : ℕ → V → List ℕ) (Allowed : ℕ → V → Type 0) (count i : ℕ) (f : ℕ → V) (bytes : List ℕ) (start middle place : ℕ)
    → i < count
    → ((j : ℕ) → j < count → IsCode (part j) (Allowed j)) → ((j : ℕ) → j < count → (v : V) × Allowed j v)
    → IsReadAt (parts_text part i) (PartsAllowed Allowed i) bytes start f middle → IsStuckAt (part i) (Allowed i) bytes middle place
    → IsStuckAt (parts_text part count) (PartsAllowed Allowed count) bytes start place
part_stuck part Allowed count i f bytes start middle place lt codes any r s = let e = place_of (parts_text part i) (PartsAllowed Allowed i) bytes start f
    middle r in record {
      from = omega (arith, e, s.from);
      stuck = subst (IsStuck (parts_text part count) (PartsAllowed Allowed count) (drop start bytes))
          (further start (length (parts_text part i f)) middle place e s.from)
          (stuck_at_part part Allowed count i f (drop start bytes) (drop middle bytes) (place - middle) lt codes any r.allowed r.is s.stuck);
    }

-- ---- the same texts of other values
pub read_as : {A B : Type 0} (text : A → List ℕ) (Allowed : A → Type 0) (other : B → List ℕ) (OtherAllowed : B → Type 0) (bytes : List ℕ) (start next : ℕ)
    (a : A) (b : B)
    → OtherAllowed b → other b ≡ text a → IsReadAt text Allowed bytes start a next → IsReadAt other OtherAllowed bytes start b next
read_as text Allowed other OtherAllowed bytes start next a b i e r =
    record { allowed = i; is = r.is ∙ ap (λ t. t ++ drop next bytes) (sym e); begun = r.begun; inside = r.inside }

pub stuck_as_at : {A B : Type 0} (text : A → List ℕ) (Allowed : A → Type 0) (other : B → List ℕ) (OtherAllowed : B → Type 0) (bytes : List ℕ) (start place : ℕ)
    → ((a : A) → Allowed a → (b : B) × OtherAllowed b × (other b ≡ text a)) → ((b : B) → OtherAllowed b → (a : A) × Allowed a × (text a ≡ other b))
    → IsStuckAt text Allowed bytes start place → IsStuckAt other OtherAllowed bytes start place
stuck_as_at text Allowed other OtherAllowed bytes start place to back s =
    record { from = s.from; stuck = stuck_as text Allowed other OtherAllowed (drop start bytes) (place - start) to back s.stuck }

-- ---- the whole
from_start : (bytes : List ℕ) (place : ℕ) {A : Type 0} (text : A → List ℕ) (Allowed : A → Type 0) → IsStuckAt text Allowed bytes 0 place
    → IsStuck text Allowed bytes place
from_start bytes place text Allowed s = subst (IsStuck text Allowed bytes) (same place) s.stuck
  where
    same : (n : ℕ) → n - 0 ≡ n
    same n = omega arith

-- a reader of the first lines stops
pub head_wrong : (bytes : List ℕ) (place : ℕ) → IsStuckAt base_part BaseAllowed bytes 0 place → IsWrongHead bytes place
head_wrong bytes place s = wrong_in_head bytes place (stuck_head bytes place (from_start bytes place base_part BaseAllowed s))

-- the first lines are read, and a size is beyond the limits
pub limit_passed : (bytes : List ℕ) (h : Head) (middle : ℕ) → IsReadAt head_text IsHead bytes 0 h middle → (IsWithin h → ⊥) → IsPastLimit bytes
limit_passed bytes h middle r n = record { said = h; whole = record { head = r.allowed; more = drop middle bytes; is = r.is }; passed = n }

-- the first lines are read, and a reader of the others stops
pub rest_wrong : (bytes : List ℕ) (h : Head) (middle place : ℕ) → IsReadAt head_text IsHead bytes 0 h middle → IsWithin h
    → IsStuckAt (rest_part (head_sizes h)) (RestAllowed (head_sizes h)) bytes middle place → IsWrongRest bytes place
rest_wrong bytes h middle place r w s = subst (IsWrongRest bytes) (places place middle (place_of head_text IsHead bytes 0 h middle r) s.from)
    (wrong_after h bytes (drop middle bytes) (place - middle) r.allowed w r.is (stuck_rest h r.allowed (drop middle bytes) (place - middle) s.stuck))
  where
    places : (place middle : ℕ) → middle ≡ 0 + length (head_text h) → middle ≤ place → length (head_text h) + (place - middle) ≡ place
    places place middle e from = omega (arith, e, from)

-- all is read up to the end
pub whole_read : (bytes : List ℕ) (h : Head) (t : Table) (middle : ℕ) → IsReadAt head_text IsHead bytes 0 h middle
    → IsReadAt rest_text (IsRestOf h) bytes middle t (length bytes) → IsSpelling bytes h.variables t
whole_read bytes h t middle r s = spelled_whole h t bytes r.allowed s.allowed
    (r.is ∙ ap (λ x. head_text h ++ x) (s.is ∙ ap (λ x. rest_text t ++ x) (drop_all (length bytes) bytes (omega arith)) ∙ append-nil (rest_text t)))

-- all is read, and something is after
pub end_wrong : (bytes : List ℕ) (h : Head) (t : Table) (middle next : ℕ) → IsWithin h → IsReadAt head_text IsHead bytes 0 h middle
    → IsReadAt rest_text (IsRestOf h) bytes middle t next → next < length bytes → IsWrongRest bytes next
end_wrong bytes h t middle next w r s lt = by (drop next bytes) refl
  where
    again : bytes ≡ head_text h ++ (rest_text t ++ drop next bytes)
    again = r.is ∙ ap (λ x. head_text h ++ x) s.is

    place : length (head_text h ++ rest_text t) ≡ next
    place = omega (
      arith,
      length-append (head_text h) (rest_text t),
      place_of head_text IsHead bytes 0 h middle r,
      place_of rest_text (IsRestOf h) bytes
          middle t next s,
    )

    by : (d : List ℕ) → drop next bytes ≡ d → IsWrongRest bytes next
    by [] e = absurd (omega (arith, lt, ap length e, length-drop next bytes))
    by (b ∷ d) e = record {
      said = h;
      whole = record { head = r.allowed; more = drop middle bytes; is = r.is };
      within = w;
      wrong = subst (IsWrongAt bytes) (ap (λ g. length (head_text g ++ rest_text t)) same ∙ place)
          (wrong_end h.variables t bytes d b range
          (again ∙ ap (λ x. head_text h ++ (rest_text t ++ x)) e ∙ sym (append_assoc (head_text h) (rest_text t) (b ∷ d))
          ∙ ap (λ g. (head_text g ++ rest_text t) ++ b ∷ d) (sym same)));
    }
      where
        same : head_of h.variables t ≡ h
        same = same_head_of h t s.allowed

        range : IsInRange h.variables t
        range = record { head = subst IsHead (sym same) r.allowed; rest = subst (λ g. IsRestOf g t) (sym same) s.allowed }

-- a reader that stops so many places on
pub stuck_from : {A : Type 0} (text : A → List ℕ) (Allowed : A → Type 0) (bytes : List ℕ) (start k : ℕ) → IsStuck text Allowed (drop start bytes) k
    → IsStuckAt text Allowed bytes start (start + k)
stuck_from text Allowed bytes start k s = record { from = omega arith; stuck = subst (IsStuck text Allowed (drop start bytes)) (places start k) s }
  where
    places : (n k : ℕ) → k ≡ n + k - n
    places n k = omega arith
