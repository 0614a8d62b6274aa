-- A reader of a name, and of the list of variables, meets one or stops.
use Rattle.std.proofs.Common.{◌≡◌, ℕ, zero, suc, ◌+◌, ◌≤◌, Bool, true, false, List, [], ◌∷◌, ◌++◌, length, codes, arith, refl, ◌∙◌, sym, ap, ap₂}
use Rattle.std.proofs.Common.{subst, append_assoc, length-append, ◌⊎◌, inl, inr, IsTrue}
use Rattle.std.specs.List.{AllByRecursion}
use Rattle.std.proofs.lemmas.Bool.{cases_eq}
use Rattle.std.proofs.lemmas.List.{append_cancel_right}
use Rattle.lash_model.specs.Formulas.{Sort, Int}
use Rattle.automaton_texts.specs.Text.{variables_text}
use Rattle.formula_core.specs.Names.{begins_word, is_in_word, IsWord, keywords, IsVariableName}
use Rattle.text_laws.specs.Parts.{ended_name, IsNewName, sort_word, item_text, IsNewItem, named_sort, IsNewNamed, ended_variables}
use Rattle.text_laws.specs.Spellings.{AreNew}
use Rattle.text_laws.specs.Reading.{Met, read, stuck, IsAny}
use Rattle.text_laws.proofs.Stops.{stuck_second}
use Rattle.text_laws.proofs.NumberParts.{same_head, same_tail}
use Rattle.text_laws.proofs.NameParts.{InWord, in_word_all, quote_out, word_append, AreNameStopped, stuck_word, IsNoBeginning, stuck_no_word}
use Rattle.text_laws.proofs.NameParts.{IsNoSpace, stuck_quoted, names_readable_new}
use Rattle.text_laws.proofs.Variables.{item_parts, items_readable, stuck_some, stuck_in_item, IsNoNext, stuck_no_next}
use Rattle.text_laws.proofs.Meeting.{met_pair, met_sort}

truth : (b : Bool) → IsTrue b ⊎ (IsTrue b → ⊥)
truth true = inl refl
truth false = inr apart
  where
    apart : false ≡ true → ⊥
    apart e = cc

same_list : (xs ys : List ℕ) → (xs ≡ ys) ⊎ (xs ≡ ys → ⊥)
same_list [] [] = inl refl
same_list [] (y ∷ ys) = inr (λ e. omega (arith, ap length e))
same_list (x ∷ xs) [] = inr (λ e. omega (arith, ap length e))
same_list (x ∷ xs) (y ∷ ys) = by (cases_eq x y) (same_list xs ys)
  where
    by : (x ≡ y) ⊎ (x ≡ y → ⊥) → (xs ≡ ys) ⊎ (xs ≡ ys → ⊥) → (x ∷ xs ≡ y ∷ ys) ⊎ (x ∷ xs ≡ y ∷ ys → ⊥)
    by (inr n) o = inr (λ e. n (same_head x y xs ys e))
    by (inl e) (inl f) = inl (ap₂ (λ h t. h ∷ t) e f)
    by (inl e) (inr n) = inr (λ f. n (same_tail x y xs ys f))

-- a name is one of those, or none
is_new : (name : List ℕ) (names : List (List ℕ)) → AllByRecursion (λ other. name ≡ other → ⊥) names ⊎ (AllByRecursion (λ other. name ≡ other → ⊥) names → ⊥)
is_new name [] = inl tt
is_new name (other ∷ names) = by (same_list name other) (is_new name names)
  where
    by : (name ≡ other) ⊎ (name ≡ other → ⊥) → AllByRecursion (λ other. name ≡ other → ⊥) names ⊎ (AllByRecursion (λ other. name ≡ other → ⊥) names → ⊥)
        → AllByRecursion (λ other. name ≡ other → ⊥) (other ∷ names) ⊎ (AllByRecursion (λ other. name ≡ other → ⊥) (other ∷ names) → ⊥)
    by (inl e) o = inr (λ h. h.0 e)
    by (inr n) (inl h) = inl (n, h)
    by (inr n) (inr m) = inr (λ h. m h.1)

turned : (names : List (List ℕ)) (name : List ℕ) → AllByRecursion (λ other. name ≡ other → ⊥) names → AllByRecursion (λ other. other ≡ name → ⊥) names
turned [] name h = tt
turned (other ∷ names) name h = (λ e. h.0 (sym e), turned names name h.1)

turned_back : (names : List (List ℕ)) (name : List ℕ) → AllByRecursion (λ other. other ≡ name → ⊥) names → AllByRecursion (λ other. name ≡ other → ⊥) names
turned_back [] name h = tt
turned_back (other ∷ names) name h = (λ e. h.0 (sym e), turned_back names name h.1)

quote_within : (p q : List ℕ) → AllByRecursion InWord (p ++ 39 ∷ q) → ⊥
quote_within [] q h = quote_out h.0
quote_within (b ∷ p) q h = quote_within p q h.1

-- a word is a name if it is no keyword, and so is a word with a quote mark
plain_name : (w : List ℕ) → IsWord w → IsVariableName w ⊎ (IsVariableName w → ⊥)
plain_name w word = by (is_new w keywords)
  where
    by : AllByRecursion (λ other. w ≡ other → ⊥) keywords ⊎ (AllByRecursion (λ other. w ≡ other → ⊥) keywords → ⊥) → IsVariableName w ⊎ (IsVariableName w → ⊥)
    by (inl h) = inl (inl (record { word = word; free = turned keywords w h }))
    by (inr n) = inr refuse
      where
        refuse : IsVariableName w → ⊥
        refuse (inl m) = n (turned_back keywords w m.free)
        refuse (inr p) = quote_within p.0 [] (subst (AllByRecursion InWord) p.2 (in_word_all w word))

quoted_name : (w : List ℕ) → IsWord w → IsVariableName (w ++ codes "'") ⊎ (IsVariableName (w ++ codes "'") → ⊥)
quoted_name w word = by (is_new w keywords)
  where
    by : AllByRecursion (λ other. w ≡ other → ⊥) keywords ⊎ (AllByRecursion (λ other. w ≡ other → ⊥) keywords → ⊥)
        → IsVariableName (w ++ codes "'") ⊎ (IsVariableName (w ++ codes "'") → ⊥)
    by (inl h) = inl (inr (w, record { word = word; free = turned keywords w h }, refl))
    by (inr n) = inr refuse
      where
        refuse : IsVariableName (w ++ codes "'") → ⊥
        refuse (inl m) = quote_within w [] (in_word_all (w ++ codes "'") m.word)
        refuse (inr p) = n (turned_back keywords w
            (subst (λ v. AllByRecursion (λ k. k ≡ v → ⊥) keywords) (append_cancel_right p.0 w (codes "'") (sym p.2)) p.1.free))

new_name : (earlier : List (List ℕ)) (name : List ℕ) → IsVariableName name ⊎ (IsVariableName name → ⊥) → IsNewName earlier name ⊎ (IsNewName earlier name → ⊥)
new_name earlier name (inr n) = inr (λ h. n h.0)
new_name earlier name (inl v) = by (is_new name earlier)
  where
    by : AllByRecursion (λ other. name ≡ other → ⊥) earlier ⊎ (AllByRecursion (λ other. name ≡ other → ⊥) earlier → ⊥)
        → IsNewName earlier name ⊎ (IsNewName earlier name → ⊥)
    by (inl h) = inl (v, h)
    by (inr n) = inr (λ h. n h.1)

word_on : (earlier : List (List ℕ)) (bytes rest w : List ℕ) → IsWord w → bytes ≡ w ++ rest → Met ended_name (IsNewName earlier) bytes
unfolding AreNameStopped IsNoSpace
word_on earlier bytes [] w word is = stuck (length w) (stuck_word earlier w [] bytes word is tt)
word_on earlier bytes (b ∷ r) w word is =
    by (truth (is_in_word b)) (λ h. word_on earlier bytes r (w ++ b ∷ []) (word_append w (b ∷ []) word (h, tt)) (is ∙ sym (append_assoc w (b ∷ []) r)))
  where
    stop : AreNameStopped earlier w (b ∷ r) → Met ended_name (IsNewName earlier) bytes
    stop h = stuck (length w) (stuck_word earlier w (b ∷ r) bytes word is h)

    with_quote : b ≡ 39 → bytes ≡ (w ++ codes "'") ++ r
    with_quote e = is ∙ ap (λ c. w ++ c ∷ r) e ∙ sym (append_assoc w (codes "'") r)

    after_quote : b ≡ 39 → IsNewName earlier (w ++ codes "'") → (t : List ℕ) → r ≡ t → Met ended_name (IsNewName earlier) bytes
    after_quote e new [] s = stuck (length (w ++ codes "'")) (stuck_quoted earlier w r bytes word new (with_quote e) (subst IsNoSpace (sym s) tt))
    after_quote e new (c ∷ t) s = at (cases_eq c 32)
      where
        at : (c ≡ 32) ⊎ (c ≡ 32 → ⊥) → Met ended_name (IsNewName earlier) bytes
        at (inl f) = read (w ++ codes "'") new t
            (with_quote e ∙ ap (λ x. (w ++ codes "'") ++ x) (s ∙ ap (λ x. x ∷ t) f) ∙ sym (append_assoc (w ++ codes "'") (codes " ") t))
        at (inr n) = stuck (length (w ++ codes "'")) (stuck_quoted earlier w r bytes word new (with_quote e) (subst IsNoSpace (sym s) n))

    at_quote : (InWord b → ⊥) → b ≡ 39 → IsNewName earlier (w ++ codes "'") ⊎ (IsNewName earlier (w ++ codes "'") → ⊥)
        → Met ended_name (IsNewName earlier) bytes
    at_quote out e (inl new) = after_quote e new r refl
    at_quote out e (inr n) = stop (out, (λ f. n), (λ f. absurd (omega (arith, e, f))))

    at_space : (InWord b → ⊥) → b ≡ 32 → IsNewName earlier w ⊎ (IsNewName earlier w → ⊥) → Met ended_name (IsNewName earlier) bytes
    at_space out e (inl new) = read w new r (is ∙ ap (λ c. w ++ c ∷ r) e ∙ sym (append_assoc w (codes " ") r))
    at_space out e (inr n) = stop (out, (λ f. absurd (omega (arith, e, f))), (λ f. n))

    outside : (InWord b → ⊥) → (b ≡ 39) ⊎ (b ≡ 39 → ⊥) → (b ≡ 32) ⊎ (b ≡ 32 → ⊥) → Met ended_name (IsNewName earlier) bytes
    outside out (inl e) o = at_quote out e (new_name earlier (w ++ codes "'") (quoted_name w word))
    outside out (inr n) (inl e) = at_space out e (new_name earlier w (plain_name w word))
    outside out (inr n) (inr m) = stop (out, (λ f. absurd (n f)), (λ f. absurd (m f)))

    by : IsTrue (is_in_word b) ⊎ (IsTrue (is_in_word b) → ⊥) → (IsTrue (is_in_word b) → Met ended_name (IsNewName earlier) bytes)
        → Met ended_name (IsNewName earlier) bytes
    by (inl h) on = on h
    by (inr out) on = outside out (cases_eq b 39) (cases_eq b 32)

-- a name that is none of the earlier ones
pub met_name : (earlier : List (List ℕ)) (bytes : List ℕ) → Met ended_name (IsNewName earlier) bytes
unfolding IsNoBeginning
met_name earlier [] = stuck 0 (stuck_no_word earlier [] tt)
met_name earlier (b ∷ r) = by (truth (begins_word b))
  where
    by : IsTrue (begins_word b) ⊎ (IsTrue (begins_word b) → ⊥) → Met ended_name (IsNewName earlier) (b ∷ r)
    by (inl h) = word_on earlier (b ∷ r) r (b ∷ []) (h, refl) refl
    by (inr n) = stuck 0 (stuck_no_word earlier (b ∷ r) n)

pub met_named : (earlier : List (List ℕ)) (bytes : List ℕ) → Met named_sort (IsNewNamed earlier) bytes
met_named earlier bytes = met_pair ended_name (IsNewName earlier) (λ _. sort_word) (λ _. IsAny) bytes (names_readable_new earlier) (λ a i. (Int, tt))
    (met_name earlier bytes)
    (λ a i rest. met_sort rest)

-- the variables; the number bounds how many bytes are left
pub met_variables : (size : ℕ) (earlier : List (List ℕ)) (bytes : List ℕ) → length bytes ≤ size → Met ended_variables (AreNew earlier) bytes
unfolding IsNoNext
met_variables size earlier [] h = stuck 0 (stuck_no_next earlier [] tt)
met_variables zero earlier (b ∷ r) h = absurd (omega (arith, h))
met_variables (suc size) earlier (b ∷ r) h = by (cases_eq b 32) (cases_eq b 10) (λ v rest lt. met_variables size (v ∷ earlier) rest lt)
  where
    fits : (v : List ℕ × Sort) (rest : List ℕ) → r ≡ named_sort v ++ rest → length rest ≤ size
    fits v rest e = omega (arith, h, ap length e, length-append (named_sort v) rest)

    is_item : (v : List ℕ × Sort) (rest : List ℕ) → b ≡ 32 → r ≡ named_sort v ++ rest → b ∷ r ≡ item_text v ++ rest
    is_item v rest e f = ap₂ (λ c t. c ∷ t) e f ∙ ap (λ t. t ++ rest) (item_parts v)

    after : (v : List ℕ × Sort) (rest : List ℕ) → IsNewName earlier v.0 → b ≡ 32 → b ∷ r ≡ item_text v ++ rest
        → Met ended_variables (AreNew (v.0 ∷ earlier)) rest → Met ended_variables (AreNew earlier) (b ∷ r)
    after v rest new e is (read vs i more f) =
        read (v ∷ vs) (new.0, new.1, i) more (is ∙ ap (λ t. item_text v ++ t) f ∙ joined (item_text v) (variables_text vs) more)
      where
        joined : (a c more : List ℕ) → a ++ ((c ++ codes "\n") ++ more) ≡ ((a ++ c) ++ codes "\n") ++ more
        joined a c more = sym (append_assoc a (c ++ codes "\n") more) ∙ ap (λ t. t ++ more) (sym (append_assoc a c (codes "\n")))
    after v rest new e is (stuck k s) = stuck (length (item_text v) + k) (stuck_some earlier (b ∷ r) r (length (item_text v) + k) (ap (λ c. c ∷ r) e)
        (stuck_second item_text (IsNewItem earlier) (λ _. ended_variables) (λ w. AreNew (w.0 ∷ earlier)) (b ∷ r) rest k v (items_readable earlier) new is s))

    item : b ≡ 32 → Met named_sort (IsNewNamed earlier) r
        → ((v : List ℕ) (rest : List ℕ) → length rest ≤ size → Met ended_variables (AreNew (v ∷ earlier)) rest) → Met ended_variables (AreNew earlier) (b ∷ r)
    item e (stuck k s) on = stuck (1 + k) (stuck_in_item earlier (b ∷ r) r k (ap (λ c. c ∷ r) e) s)
    item e (read v i rest f) on = after v rest i.0 e (is_item v rest e f) (on v.0 rest (fits v rest f))

    by : (b ≡ 32) ⊎ (b ≡ 32 → ⊥) → (b ≡ 10) ⊎ (b ≡ 10 → ⊥)
        → ((v : List ℕ) (rest : List ℕ) → length rest ≤ size → Met ended_variables (AreNew (v ∷ earlier)) rest) → Met ended_variables (AreNew earlier) (b ∷ r)
    by (inl e) o on = item e (met_named earlier r) on
    by (inr n) (inl e) on = read [] tt r (ap (λ c. c ∷ r) e)
    by (inr n) (inr m) on = stuck 0 (stuck_no_next earlier (b ∷ r) (n, m))
