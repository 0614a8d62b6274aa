-- Readers of a number and of a name, from byte to byte: what stands from the start up to a place, and what the byte there says.
use Rattle.std.proofs.Common.{◌≡◌, ℕ, ◌+◌, ◌*◌, ◌-◌, ◌≤◌, ◌<◌, List, [], ◌∷◌, ◌++◌, length, drop, get_or, codes, Option, Some, arith, refl, ◌∙◌, sym}
use Rattle.std.proofs.Common.{ap, subst, append_assoc, append-nil, IsTrue, min, ◌⊎◌, inl, inr}
use Rattle.std.proofs.lemmas.Bool.{cases_lt}
use Rattle.std.proofs.Common.{length-append, length-drop}
use Rattle.std.proofs.lemmas.List.{drop_more, drop_all}
use Rattle.formula_core.specs.Names.{begins_word, is_in_word, IsWord}
use Rattle.text_laws.specs.Numerals.{numeral}
use Rattle.text_laws.specs.Parts.{ended_number, IsBetween, ended_name, IsNewName}
use Rattle.text_laws.specs.Reading.{IsStuck}
use Rattle.text_laws.specs.Places.{IsReadAt, IsStuckAt}
use Rattle.text_laws.proofs.Numbers.{numeral_small, numeral_more}
use Rattle.text_laws.proofs.NumberParts.{AreStopped, stopped_number, AreStoppedFirst, stopped_first, stuck_number}
use Rattle.text_laws.proofs.NameParts.{word_append, AreNameStopped, stuck_word, IsNoBeginning, stuck_no_word, IsNoSpace, stuck_quoted}

-- bytes from a place on, if there is one
pub at_byte : (bytes : List ℕ) (place b d : ℕ) → place < length bytes → get_or bytes place d ≡ b → drop place bytes ≡ b ∷ drop (place + 1) bytes
at_byte bytes place b d lt e = drop_more bytes place d lt ∙ ap (λ c. c ∷ drop (place + 1) bytes) e

far : (bytes front : List ℕ) (start place : ℕ) → start ≤ length bytes → place ≤ length bytes → drop start bytes ≡ front ++ drop place bytes
    → length front ≡ place - start
far bytes front start place h k e = omega (arith, h, k, length-drop start bytes, length-drop place bytes, ap length e, length-append front (drop place bytes))

fore : (bytes front : List ℕ) (start place : ℕ) → start ≤ length bytes → place ≤ length bytes → drop start bytes ≡ front ++ drop place bytes → start ≤ place
fore bytes front start place h k e = omega (arith, h, k, length-drop start bytes, length-drop place bytes, ap length e, length-append front (drop place bytes))

-- ---- a number: from the start up to the place stands the numeral of x, which begins the numeral of an allowed number
pub record IsNumberBegun (low : ℕ) (high : Option ℕ) (bytes : List ℕ) (start place x : ℕ) : Type 0 where
  pub number : ℕ
  pub allowed : IsBetween low high number
  pub more : List ℕ
  pub begins : numeral number ≡ numeral x ++ more
  pub is : drop start bytes ≡ numeral x ++ drop place bytes
  pub begun : start ≤ length bytes
  pub inside : place ≤ length bytes

pub number_first : (low : ℕ) (high : Option ℕ) (bytes : List ℕ) (start d n e : ℕ) (more : List ℕ) → start < length bytes → get_or bytes start e ≡ 48 + d
    → d < 10
    → IsBetween low high n → numeral n ≡ numeral d ++ more → IsNumberBegun low high bytes start (start + 1) d
number_first low high bytes start d n e more lt b small i begins = record {
  number = n;
  allowed = i;
  more = more;
  begins = begins;
  is = at_byte bytes start (48 + d) e lt b ∙ ap (λ t. t ++ drop (start + 1) bytes) (sym (numeral_small d small));
  begun = omega (arith, lt);
  inside = omega (arith, lt);
}

pub number_on : (low : ℕ) (high : Option ℕ) (bytes : List ℕ) (start place x d n e : ℕ) (more : List ℕ) → IsNumberBegun low high bytes start place x → 0 < x
    → place < length bytes → get_or bytes place e ≡ 48 + d → d < 10 → IsBetween low high n → numeral n ≡ numeral (x * 10 + d) ++ more
    → IsNumberBegun low high bytes start (place + 1) (x * 10 + d)
number_on low high bytes start place x d n e more r some lt b small i begins = record {
  number = n;
  allowed = i;
  more = more;
  begins = begins;
  is = r.is ∙ ap (λ t. numeral x ++ t) (at_byte bytes place (48 + d) e lt b) ∙ sym (append_assoc (numeral x) ((48 + d) ∷ []) (drop (place + 1) bytes))
      ∙ ap (λ t. t ++ drop (place + 1) bytes) (sym (numeral_more x d some small));
  begun = r.begun;
  inside = omega (arith, lt);
}

pub number_done : (low : ℕ) (high : Option ℕ) (ending : ℕ) (bytes : List ℕ) (start place x e : ℕ) → IsNumberBegun low high bytes start place x
    → IsBetween low high x
    → place < length bytes → get_or bytes place e ≡ ending → IsReadAt (ended_number ending) (IsBetween low high) bytes start x (place + 1)
number_done low high ending bytes start place x e r i lt b = record {
  allowed = i;
  is = r.is ∙ ap (λ t. numeral x ++ t) (at_byte bytes place ending e lt b) ∙ sym (append_assoc (numeral x) (ending ∷ []) (drop (place + 1) bytes));
  begun = r.begun;
  inside = omega (arith, lt);
}

number_stop : (low : ℕ) (high : Option ℕ) (ending : ℕ) (bytes : List ℕ) (start place x : ℕ) → ending < 48 → IsNumberBegun low high bytes start place x
    → AreStopped low high ending x (drop place bytes) → IsStuckAt (ended_number ending) (IsBetween low high) bytes start place
number_stop low high ending bytes start place x end r h = record {
  from = fore bytes (numeral x) start place r.begun r.inside r.is;
  stuck = subst (IsStuck (ended_number ending) (IsBetween low high) (drop start bytes)) (far bytes (numeral x) start place r.begun r.inside r.is)
      (stuck_number low high ending (numeral x) (drop place bytes) (drop start bytes) end
      (stopped_number low high ending x (drop place bytes) r.more r.number r.allowed r.begins h) r.is);
}

-- the bytes end
pub number_ends : (low : ℕ) (high : Option ℕ) (ending : ℕ) (bytes : List ℕ) (start place x : ℕ) → ending < 48 → IsNumberBegun low high bytes start place x
    → length bytes ≤ place → IsStuckAt (ended_number ending) (IsBetween low high) bytes start place
unfolding AreStopped
number_ends low high ending bytes start place x end r over = number_stop low high ending bytes start place x end r
    (subst (AreStopped low high ending x) (sym (drop_all place bytes over)) tt)

-- a byte that goes on with no allowed number
pub number_wrong : (low : ℕ) (high : Option ℕ) (ending : ℕ) (bytes : List ℕ) (start place x b e : ℕ) → ending < 48 → IsNumberBegun low high bytes start place x
    → place < length bytes → get_or bytes place e ≡ b → (b ≡ ending → IsBetween low high x → ⊥)
    → ((d : ℕ) → d < 10 → b ≡ 48 + d → 0 < x → (n : ℕ) → x * 10 + d ≤ n → IsBetween low high n → ⊥)
    → IsStuckAt (ended_number ending) (IsBetween low high) bytes start place
unfolding AreStopped
number_wrong low high ending bytes start place x b e end r lt is no_end no_digit = number_stop low high ending bytes start place x end r
    (subst (AreStopped low high ending x) (sym (at_byte bytes place b e lt is)) (no_end, no_digit))

-- no digit is read
number_none : (low : ℕ) (high : Option ℕ) (ending : ℕ) (bytes : List ℕ) (start n : ℕ) → ending < 48 → IsBetween low high n
    → AreStoppedFirst low high (drop start bytes)
    → IsStuckAt (ended_number ending) (IsBetween low high) bytes start start
number_none low high ending bytes start n end i h = record {
  from = omega arith;
  stuck = subst (IsStuck (ended_number ending) (IsBetween low high) (drop start bytes)) (nothing start)
      (stuck_number low high ending [] (drop start bytes) (drop start bytes) end (stopped_first low high ending (drop start bytes) n i h) refl);
}
  where
    nothing : (n : ℕ) → 0 ≡ n - n
    nothing n = omega arith

pub number_missing : (low : ℕ) (high : Option ℕ) (ending : ℕ) (bytes : List ℕ) (start n : ℕ) → ending < 48 → IsBetween low high n → length bytes ≤ start
    → IsStuckAt (ended_number ending) (IsBetween low high) bytes start start
unfolding AreStoppedFirst
number_missing low high ending bytes start n end i over =
    number_none low high ending bytes start n end i (subst (AreStoppedFirst low high) (sym (drop_all start bytes over)) tt)

pub number_no_digit : (low : ℕ) (high : Option ℕ) (ending : ℕ) (bytes : List ℕ) (start n b e : ℕ) → ending < 48 → IsBetween low high n → start < length bytes
    → get_or bytes start e ≡ b → (47 < b → b < 58 → ⊥) → IsStuckAt (ended_number ending) (IsBetween low high) bytes start start
unfolding AreStoppedFirst
number_no_digit low high ending bytes start n b e end i lt is h = number_none low high ending bytes start n end i
    (subst (AreStoppedFirst low high) (sym (at_byte bytes start b e lt is)) (inl h))

pub number_no_zero : (low : ℕ) (high : Option ℕ) (ending : ℕ) (bytes : List ℕ) (start n e : ℕ) → ending < 48 → IsBetween low high n → start < length bytes
    → get_or bytes start e ≡ 48 → 1 ≤ low → IsStuckAt (ended_number ending) (IsBetween low high) bytes start start
unfolding AreStoppedFirst
number_no_zero low high ending bytes start n e end i lt is h = number_none low high ending bytes start n end i
    (subst (AreStoppedFirst low high) (sym (at_byte bytes start 48 e lt is)) (inr (inl (refl, h))))

pub number_too_great : (low : ℕ) (high : Option ℕ) (ending : ℕ) (bytes : List ℕ) (start n d e : ℕ) → ending < 48 → IsBetween low high n → start < length bytes
    → get_or bytes start e ≡ 48 + d → d < 10 → ((n : ℕ) → d ≤ n → IsBetween low high n → ⊥)
    → IsStuckAt (ended_number ending) (IsBetween low high) bytes start start
unfolding AreStoppedFirst
number_too_great low high ending bytes start n d e end i lt is small h = number_none low high ending bytes start n end i
    (subst (AreStoppedFirst low high) (sym (at_byte bytes start (48 + d) e lt is)) (inr (inr (d, small, refl, h))))

-- ---- a name: from the start up to the place stands a word
pub record IsWordBegun (bytes : List ℕ) (start place : ℕ) (word : List ℕ) : Type 0 where
  pub word_is : IsWord word
  pub is : drop start bytes ≡ word ++ drop place bytes
  pub begun : start ≤ length bytes
  pub inside : place ≤ length bytes

pub word_first : (bytes : List ℕ) (start b e : ℕ) → start < length bytes → get_or bytes start e ≡ b → IsTrue (begins_word b)
    → IsWordBegun bytes start (start + 1) (b ∷ [])
word_first bytes start b e lt is h = record { word_is = (h, refl); is = at_byte bytes start b e lt is; begun = omega (arith, lt); inside = omega (arith, lt) }

pub word_on : (bytes : List ℕ) (start place b e : ℕ) (word : List ℕ) → IsWordBegun bytes start place word → place < length bytes → get_or bytes place e ≡ b
    → IsTrue (is_in_word b)
    → IsWordBegun bytes start (place + 1) (word ++ b ∷ [])
word_on bytes start place b e word r lt is h = record {
  word_is = word_append word (b ∷ []) r.word_is (h, tt);
  is = r.is ∙ ap (λ t. word ++ t) (at_byte bytes place b e lt is) ∙ sym (append_assoc word (b ∷ []) (drop (place + 1) bytes));
  begun = r.begun;
  inside = omega (arith, lt);
}

-- the name ends, with a space, or with a quote mark and a space
pub name_done : (earlier : List (List ℕ)) (bytes : List ℕ) (start place e : ℕ) (word : List ℕ) → IsWordBegun bytes start place word → place < length bytes
    → get_or bytes place e ≡ 32 → IsNewName earlier word → IsReadAt ended_name (IsNewName earlier) bytes start word (place + 1)
name_done earlier bytes start place e word r lt is new = record {
  allowed = new;
  is = r.is ∙ ap (λ t. word ++ t) (at_byte bytes place 32 e lt is) ∙ sym (append_assoc word (codes " ") (drop (place + 1) bytes));
  begun = r.begun;
  inside = omega (arith, lt);
}

quoted_is : (bytes : List ℕ) (start place e : ℕ) (word : List ℕ) → IsWordBegun bytes start place word → place < length bytes → get_or bytes place e ≡ 39
    → drop start bytes ≡ (word ++ codes "'") ++ drop (place + 1) bytes
quoted_is bytes start place e word r lt is = r.is ∙ ap (λ t. word ++ t) (at_byte bytes place 39 e lt is)
    ∙ sym (append_assoc word (codes "'") (drop (place + 1) bytes))

pub quoted_done : (earlier : List (List ℕ)) (bytes : List ℕ) (start place e f : ℕ) (word : List ℕ) → IsWordBegun bytes start place word → place < length bytes
    → get_or bytes place e ≡ 39 → place + 1 < length bytes → get_or bytes (place + 1) f ≡ 32 → IsNewName earlier (word ++ codes "'")
    → IsReadAt ended_name (IsNewName earlier) bytes start (word ++ codes "'") (place + 1 + 1)
quoted_done earlier bytes start place e f word r lt is lt2 is2 new = record {
  allowed = new;
  is = quoted_is bytes start place e word r lt is ∙ ap (λ t. (word ++ codes "'") ++ t) (at_byte bytes (place + 1) 32 f lt2 is2)
      ∙ sym (append_assoc (word ++ codes "'") (codes " ") (drop (place + 1 + 1) bytes));
  begun = r.begun;
  inside = omega (arith, lt2);
}

-- a reader stops after the word
name_stop : (earlier : List (List ℕ)) (bytes : List ℕ) (start place : ℕ) (word : List ℕ) → IsWordBegun bytes start place word
    → AreNameStopped earlier word (drop place bytes)
    → IsStuckAt ended_name (IsNewName earlier) bytes start place
name_stop earlier bytes start place word r h = record {
  from = fore bytes word start place r.begun r.inside r.is;
  stuck = subst (IsStuck ended_name (IsNewName earlier) (drop start bytes)) (far bytes word start place r.begun r.inside r.is)
      (stuck_word earlier word (drop place bytes) (drop start bytes) r.word_is r.is h);
}

pub name_ends : (earlier : List (List ℕ)) (bytes : List ℕ) (start place : ℕ) (word : List ℕ) → IsWordBegun bytes start place word → length bytes ≤ place
    → IsStuckAt ended_name (IsNewName earlier) bytes start place
unfolding AreNameStopped
name_ends earlier bytes start place word r over =
    name_stop earlier bytes start place word r (subst (AreNameStopped earlier word) (sym (drop_all place bytes over)) tt)

pub name_wrong : (earlier : List (List ℕ)) (bytes : List ℕ) (start place b e : ℕ) (word : List ℕ) → IsWordBegun bytes start place word → place < length bytes
    → get_or bytes place e ≡ b → (IsTrue (is_in_word b) → ⊥) → (b ≡ 39 → IsNewName earlier (word ++ codes "'") → ⊥) → (b ≡ 32 → IsNewName earlier word → ⊥)
    → IsStuckAt ended_name (IsNewName earlier) bytes start place
unfolding AreNameStopped
name_wrong earlier bytes start place b e word r lt is out no_quote no_space = name_stop earlier bytes start place word r
    (subst (AreNameStopped earlier word) (sym (at_byte bytes place b e lt is)) (out, no_quote, no_space))

-- a reader stops after the quote mark
quote_stop : (earlier : List (List ℕ)) (bytes : List ℕ) (start place e : ℕ) (word : List ℕ) → IsWordBegun bytes start place word → place < length bytes
    → get_or bytes place e ≡ 39 → IsNewName earlier (word ++ codes "'") → IsNoSpace (drop (place + 1) bytes)
    → IsStuckAt ended_name (IsNewName earlier) bytes start (place + 1)
quote_stop earlier bytes start place e word r lt is new h = let q = quoted_is bytes start place e word r lt is in record {
  from = fore bytes (word ++ codes "'") start (place + 1) r.begun (omega (arith, lt)) q;
  stuck = subst (IsStuck ended_name (IsNewName earlier) (drop start bytes)) (far bytes (word ++ codes "'") start (place + 1) r.begun (omega (arith, lt)) q)
      (stuck_quoted earlier word (drop (place + 1) bytes) (drop start bytes) r.word_is new q h);
}

pub quote_ends : (earlier : List (List ℕ)) (bytes : List ℕ) (start place e : ℕ) (word : List ℕ) → IsWordBegun bytes start place word → place < length bytes
    → get_or bytes place e ≡ 39 → IsNewName earlier (word ++ codes "'") → length bytes ≤ place + 1
    → IsStuckAt ended_name (IsNewName earlier) bytes start (place + 1)
unfolding IsNoSpace
quote_ends earlier bytes start place e word r lt is new over = quote_stop earlier bytes start place e word r lt is new
    (subst IsNoSpace (sym (drop_all (place + 1) bytes over)) tt)

pub quote_wrong : (earlier : List (List ℕ)) (bytes : List ℕ) (start place e b f : ℕ) (word : List ℕ) → IsWordBegun bytes start place word
    → place < length bytes
    → get_or bytes place e ≡ 39 → IsNewName earlier (word ++ codes "'") → place + 1 < length bytes → get_or bytes (place + 1) f ≡ b → (b ≡ 32 → ⊥)
    → IsStuckAt ended_name (IsNewName earlier) bytes start (place + 1)
unfolding IsNoSpace
quote_wrong earlier bytes start place e b f word r lt is new lt2 is2 h = quote_stop earlier bytes start place e word r lt is new
    (subst IsNoSpace (sym (at_byte bytes (place + 1) b f lt2 is2)) h)

-- no word begins
no_name : (earlier : List (List ℕ)) (bytes : List ℕ) (start : ℕ) → IsNoBeginning (drop start bytes)
    → IsStuckAt ended_name (IsNewName earlier) bytes start start
no_name earlier bytes start h = record {
  from = omega arith;
  stuck = subst (IsStuck ended_name (IsNewName earlier) (drop start bytes)) (nothing start) (stuck_no_word earlier (drop start bytes) h);
}
  where
    nothing : (n : ℕ) → 0 ≡ n - n
    nothing n = omega arith

pub name_missing : (earlier : List (List ℕ)) (bytes : List ℕ) (start : ℕ) → length bytes ≤ start → IsStuckAt ended_name (IsNewName earlier) bytes start start
unfolding IsNoBeginning
name_missing earlier bytes start over = no_name earlier bytes start (subst IsNoBeginning (sym (drop_all start bytes over)) tt)

pub name_not_begun : (earlier : List (List ℕ)) (bytes : List ℕ) (start b e : ℕ) → start < length bytes → get_or bytes start e ≡ b
    → (IsTrue (begins_word b) → ⊥)
    → IsStuckAt ended_name (IsNewName earlier) bytes start start
unfolding IsNoBeginning
name_not_begun earlier bytes start b e lt is h = no_name earlier bytes start (subst IsNoBeginning (sym (at_byte bytes start b e lt is)) h)

-- ---- what begins allowed numbers: each base below 17 but 0, and each number itself
pub base_begins : (x : ℕ) → 0 < x → x < 17 → (n : ℕ) × IsBetween 2 (Some 17) n × ((more : List ℕ) × (numeral n ≡ numeral x ++ more))
base_begins x some lt = by (cases_lt x 2)
  where
    by : (x < 2) ⊎ (2 ≤ x) → (n : ℕ) × IsBetween 2 (Some 17) n × ((more : List ℕ) × (numeral n ≡ numeral x ++ more))
    by (inl one) = (
      10,
      (omega arith, omega arith),
      (48 ∷ [], numeral_more 1 0 (omega arith) (omega arith) ∙ ap (λ y. numeral y ++ 48 ∷ []) (omega (arith, some, one))),
    )
    by (inr ge) = (x, (ge, lt), ([], sym (append-nil (numeral x))))

pub itself_begins : (x : ℕ) → numeral x ≡ numeral x ++ []
itself_begins x = sym (append-nil (numeral x))

-- a number that stops growing at a bound
pub saturated_on : (bound x d : ℕ) → min bound (min bound x * 10 + d) ≡ min bound (x * 10 + d)
saturated_on bound x d = grind arith
