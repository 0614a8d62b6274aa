-- Readers of words, of one of some words, and of the list of variables, from byte to byte.
use Rattle.std.proofs.Common.{◌≡◌, ℕ, ◌+◌, ◌-◌, ◌≤◌, ◌<◌, List, [], ◌∷◌, ◌++◌, length, take, drop, get_or, codes, min, arith, refl, ◌∙◌, sym, ap}
use Rattle.std.proofs.Common.{subst, append_assoc}
use Rattle.std.proofs.Common.{length-append, length-drop, length-take, take-append-drop, drop-drop, get_or-take, get_or-drop}
use Rattle.std.proofs.lemmas.List.{drop_all}
use Rattle.lash_model.specs.Formulas.{Sort}
use Rattle.automaton_texts.specs.Text.{variables_text}
use Rattle.text_laws.specs.Parts.{item_text, IsNewItem, named_sort, IsNewNamed, ended_variables, names_onto}
use Rattle.text_laws.specs.Spellings.{AreNew}
use Rattle.text_laws.specs.Reading.{IsStuck, IsWordWrong, IsAny}
use Rattle.text_laws.specs.Places.{IsReadAt, IsStuckAt}
use Rattle.text_laws.proofs.ChoiceParts.{AreTold, IsNoFirst, stuck_none, stuck_chosen}
use Rattle.text_laws.proofs.Variables.{item_parts, stuck_in_item, IsNoNext, stuck_no_next, stuck_after_variables}
use Rattle.text_laws.proofs.Naming.{new_push, text_push}
use Rattle.text_laws.proofs.AtPlaces.{IsWordAt, stuck_from}
use Rattle.text_laws.proofs.LeafPlaces.{at_byte}

-- ---- a word, of which the first i bytes stand there
pub word_done : (word bytes : List ℕ) (start : ℕ) → start + length word ≤ length bytes → take (length word) (drop start bytes) ≡ word
    → IsWordAt word bytes start (start + length word)
word_done word bytes start inside same = record {
  allowed = tt;
  is = sym (take-append-drop (length word) (drop start bytes)) ∙ ap (λ t. t ++ drop (length word) (drop start bytes)) same
      ∙ ap (λ r. word ++ r) (drop-drop (length word) start bytes);
  begun = omega (arith, inside);
  inside = inside;
}

pub word_bad : (word bytes : List ℕ) (start i e : ℕ) → i < length word → take i (drop start bytes) ≡ take i word
    → (get_or bytes (start + i) e ≡ get_or word i e → ⊥)
    → IsWordWrong word (drop start bytes) i
word_bad word bytes start i e lt same other = record {
  inside = lt;
  before = same;
  wrong = λ all. other (sym (get_or-drop start bytes i e) ∙ sym (get_or-take (i + 1) (drop start bytes) i e (omega arith)) ∙ ap (λ t. get_or t i e) all
      ∙ get_or-take (i + 1) word i e (omega arith));
}

pub word_short : (word bytes : List ℕ) (start i : ℕ) → i < length word → take i (drop start bytes) ≡ take i word → length bytes ≤ start + i
    → IsWordWrong word (drop start bytes) i
word_short word bytes start i lt same over = record {
  inside = lt;
  before = same;
  wrong = λ all. long (length (drop start bytes)) (length word) (omega (arith, over, length-drop start bytes)) lt
      (sym (length-take (i + 1) (drop start bytes)) ∙ ap length all ∙ length-take (i + 1) word);
}
  where
    long : (m n : ℕ) → m ≤ i → i < n → min (i + 1) m ≡ min (i + 1) n → ⊥
    long m n h k e = grind (arith, h, k, e)

-- ---- one of some words
pub told_read : {A : Type 0} (text : A → List ℕ) (bytes : List ℕ) (start next : ℕ) (a : A) → IsWordAt (text a) bytes start next
    → IsReadAt text IsAny bytes start a next
told_read text bytes start next a w = record { allowed = tt; is = w.is; begun = w.begun; inside = w.inside }

pub told_stuck : {A : Type 0} (text : A → List ℕ) (a : A) (bytes : List ℕ) (start k : ℕ) → AreTold text → 0 < k → IsWordWrong (text a) (drop start bytes) k
    → IsStuckAt text IsAny bytes start (start + k)
told_stuck text a bytes start k t some w = stuck_from text IsAny bytes start k (stuck_chosen text a (drop start bytes) k t some w)

same_start : (n : ℕ) → n + 0 ≡ n
same_start n = omega arith

told_none : {A : Type 0} (text : A → List ℕ) (any : A) (bytes : List ℕ) (start : ℕ) → AreTold text → IsNoFirst text (drop start bytes)
    → IsStuckAt text IsAny bytes start start
told_none text any bytes start t h = subst (IsStuckAt text IsAny bytes start) (same_start start)
    (stuck_from text IsAny bytes start 0 (stuck_none text any (drop start bytes) t h))

pub told_missing : {A : Type 0} (text : A → List ℕ) (any : A) (bytes : List ℕ) (start : ℕ) → AreTold text → length bytes ≤ start
    → IsStuckAt text IsAny bytes start start
unfolding IsNoFirst
told_missing text any bytes start t over = told_none text any bytes start t (subst (IsNoFirst text) (sym (drop_all start bytes over)) tt)

pub told_wrong : {A : Type 0} (text : A → List ℕ) (any : A) (bytes : List ℕ) (start b e : ℕ) → AreTold text → start < length bytes → get_or bytes start e ≡ b
    → ((a : A) → b ≡ get_or (text a) 0 0 → ⊥) → IsStuckAt text IsAny bytes start start
unfolding IsNoFirst
told_wrong text any bytes start b e t lt is none = told_none text any bytes start t (subst (IsNoFirst text) (sym (at_byte bytes start b e lt is)) none)

-- ---- the variables read so far stand from the start up to the place
pub record AreVariablesRead (bytes : List ℕ) (start place : ℕ) (vs : List (List ℕ × Sort)) : Type 0 where
  pub new : AreNew [] vs
  pub is : drop start bytes ≡ variables_text vs ++ drop place bytes
  pub begun : start ≤ length bytes
  pub inside : place ≤ length bytes

pub variables_none : (bytes : List ℕ) (start : ℕ) → start ≤ length bytes → AreVariablesRead bytes start start []
variables_none bytes start h = record { new = tt; is = refl; begun = h; inside = h }

-- a space, and after it a new name and its sort
pub item_read : (bytes : List ℕ) (place next e : ℕ) (earlier : List (List ℕ)) (v : List ℕ × Sort) → place < length bytes → get_or bytes place e ≡ 32
    → IsReadAt named_sort (IsNewNamed earlier) bytes (place + 1) v next → IsReadAt item_text (IsNewItem earlier) bytes place v next
item_read bytes place next e earlier v lt is r = record {
  allowed = r.allowed.0;
  is = at_byte bytes place 32 e lt is ∙ ap (λ t. codes " " ++ t) r.is ∙ ap (λ t. t ++ drop next bytes) (item_parts v);
  begun = omega (arith, lt);
  inside = r.inside;
}

pub variable_more : (bytes : List ℕ) (start place next : ℕ) (vs : List (List ℕ × Sort)) (v : List ℕ × Sort) → AreVariablesRead bytes start place vs
    → IsReadAt item_text (IsNewItem (names_onto [] vs)) bytes place v next → AreVariablesRead bytes start next (vs ++ v ∷ [])
variable_more bytes start place next vs v r i = record {
  new = new_push [] vs v r.new i.allowed;
  is = r.is ∙ ap (λ t. variables_text vs ++ t) i.is ∙ sym (append_assoc (variables_text vs) (item_text v) (drop next bytes))
      ∙ ap (λ t. t ++ drop next bytes) (sym (text_push vs v));
  begun = r.begun;
  inside = i.inside;
}

pub variables_done : (bytes : List ℕ) (start place e : ℕ) (vs : List (List ℕ × Sort)) → AreVariablesRead bytes start place vs → place < length bytes
    → get_or bytes place e ≡ 10 → IsReadAt ended_variables (AreNew []) bytes start vs (place + 1)
variables_done bytes start place e vs r lt is = record {
  allowed = r.new;
  is = r.is ∙ ap (λ t. variables_text vs ++ t) (at_byte bytes place 10 e lt is) ∙ sym (append_assoc (variables_text vs) (codes "\n") (drop (place + 1) bytes));
  begun = r.begun;
  inside = omega (arith, lt);
}

-- a reader stops after the variables read so far
variables_stop : (bytes : List ℕ) (start place k : ℕ) (vs : List (List ℕ × Sort)) → AreVariablesRead bytes start place vs
    → IsStuck ended_variables (AreNew (names_onto [] vs)) (drop place bytes) k → IsStuckAt ended_variables (AreNew []) bytes start (place + k)
variables_stop bytes start place k vs r s = subst (IsStuckAt ended_variables (AreNew []) bytes start) places
    (stuck_from ended_variables (AreNew []) bytes start (length (variables_text vs) + k)
    (stuck_after_variables [] vs (drop start bytes) (drop place bytes) k r.new r.is s))
  where
    places : start + (length (variables_text vs) + k) ≡ place + k
    places = omega (
      arith,
      r.begun,
      r.inside,
      length-drop start bytes,
      length-drop place bytes,
      ap length r.is,
      length-append (variables_text vs)
          (drop place bytes),
    )

no_next : (bytes : List ℕ) (start place : ℕ) (vs : List (List ℕ × Sort)) → AreVariablesRead bytes start place vs → IsNoNext (drop place bytes)
    → IsStuckAt ended_variables (AreNew []) bytes start place
no_next bytes start place vs r h = subst (IsStuckAt ended_variables (AreNew []) bytes start) (same_start place)
    (variables_stop bytes start place 0 vs r (stuck_no_next (names_onto [] vs) (drop place bytes) h))

pub variables_end : (bytes : List ℕ) (start place : ℕ) (vs : List (List ℕ × Sort)) → AreVariablesRead bytes start place vs → length bytes ≤ place
    → IsStuckAt ended_variables (AreNew []) bytes start place
unfolding IsNoNext
variables_end bytes start place vs r over = no_next bytes start place vs r (subst IsNoNext (sym (drop_all place bytes over)) tt)

pub variables_wrong : (bytes : List ℕ) (start place b e : ℕ) (vs : List (List ℕ × Sort)) → AreVariablesRead bytes start place vs → place < length bytes
    → get_or bytes place e ≡ b → (b ≡ 32 → ⊥) → (b ≡ 10 → ⊥) → IsStuckAt ended_variables (AreNew []) bytes start place
unfolding IsNoNext
variables_wrong bytes start place b e vs r lt is no_space no_line =
    no_next bytes start place vs r (subst IsNoNext (sym (at_byte bytes place b e lt is)) (no_space, no_line))

-- or in the next variable
pub variable_stuck : (bytes : List ℕ) (start place wrong e : ℕ) (vs : List (List ℕ × Sort)) → AreVariablesRead bytes start place vs → place < length bytes
    → get_or bytes place e ≡ 32 → IsStuckAt named_sort (IsNewNamed (names_onto [] vs)) bytes (place + 1) wrong
    → IsStuckAt ended_variables (AreNew []) bytes start wrong
variable_stuck bytes start place wrong e vs r lt is s = subst (IsStuckAt ended_variables (AreNew []) bytes start) (places place wrong s.from)
    (variables_stop bytes start place (1 + (wrong - (place + 1))) vs r
    (stuck_in_item (names_onto [] vs) (drop place bytes) (drop (place + 1) bytes) (wrong - (place + 1)) (at_byte bytes place 32 e lt is) s.stuck))
  where
    places : (p w : ℕ) → p + 1 ≤ w → p + (1 + (w - (p + 1))) ≡ w
    places p w h = omega (arith, h)
