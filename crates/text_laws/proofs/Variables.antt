-- The list of variables: read in one way, and where a reader of it stops.
use Rattle.std.proofs.Common.{◌≡◌, ℕ, ◌+◌, List, [], ◌∷◌, ◌++◌, length, take, codes, arith, refl, ◌∙◌, sym, ap, ap₂, subst, append_assoc, length-append}
use Rattle.std.proofs.lemmas.List.{append_cancel_left}
use Rattle.lash_model.specs.Formulas.{Sort, Int, Real}
use Rattle.automaton_texts.specs.Text.{sort_text, variables_text}
use Rattle.text_laws.specs.Parts.{sort_word, item_text, IsNewItem, named_sort, IsNewNamed, ended_variables, names_onto}
use Rattle.text_laws.specs.Spellings.{AreNew}
use Rattle.text_laws.specs.Reading.{IsStuck, pair_text, PairAllowed, after_word}
use Rattle.text_laws.proofs.Stops.{IsReadable, agree_less, stuck_first, stuck_second, stuck_after_word, stuck_as}
use Rattle.text_laws.proofs.NumberParts.{same_head}
use Rattle.text_laws.proofs.NameParts.{names_readable}
use Rattle.text_laws.proofs.ChoiceParts.{sorts_told, told_readable}

pub item_parts : (v : List ℕ × Sort) → codes " " ++ named_sort v ≡ item_text v
item_parts v = by v.0 v.1
  where
    by : (name : List ℕ) (s : Sort) → codes " " ++ ((name ++ codes " ") ++ sort_word s) ≡ codes " " ++ (name ++ sort_text s)
    by name Int = ap (λ t. codes " " ++ t) (append_assoc name (codes " ") (codes "int"))
    by name Real = ap (λ t. codes " " ++ t) (append_assoc name (codes " ") (codes "real"))

-- stuck after the space of a variable
pub stuck_item : (earlier : List (List ℕ)) (bytes rest : List ℕ) (k : ℕ) → bytes ≡ codes " " ++ rest → IsStuck named_sort (IsNewNamed earlier) rest k
    → IsStuck item_text (IsNewItem earlier) bytes (1 + k)
stuck_item earlier bytes rest k is s = stuck_as (after_word (codes " ") named_sort) (IsNewNamed earlier) item_text (IsNewItem earlier) bytes (1 + k)
    (λ v i. (v, i.0, sym (item_parts v))) (λ v i. (v, (i, tt), item_parts v))
    (stuck_after_word (codes " ") named_sort (IsNewNamed earlier) bytes rest k is s)

pub items_readable : (earlier : List (List ℕ)) → IsReadable item_text (IsNewItem earlier)
unfolding IsReadable
items_readable earlier v w iv iw x y e =
    let after : (v.0 ++ codes " ") ++ (sort_word v.1 ++ x) ≡ (w.0 ++ codes " ") ++ (sort_word w.1 ++ y) =
    sym (append_assoc (v.0 ++ codes " ") (sort_word v.1) x)
    ∙ append_cancel_left (codes " ") (named_sort v ++ x) (named_sort w ++ y) (ap (λ t. t ++ x) (item_parts v) ∙ e ∙ ap (λ t. t ++ y) (sym (item_parts w)))
    ∙ append_assoc (w.0 ++ codes " ") (sort_word w.1) y in
    let name : v.0 ≡ w.0 = names_readable v.0 w.0 iv.0 iw.0 (sort_word v.1 ++ x) (sort_word w.1 ++ y) after in
    let sorts : sort_word v.1 ++ x ≡ sort_word w.1 ++ y = append_cancel_left (w.0 ++ codes " ") (sort_word v.1 ++ x) (sort_word w.1 ++ y)
    (ap (λ n. (n ++ codes " ") ++ (sort_word v.1 ++ x)) (sym name) ∙ after) in
    ap₂ (λ n s. (n, s)) name (told_readable sort_word sorts_told v.1 w.1 tt tt x y sorts)

-- the first variable, and the others
abbrev pub first_and_others : ((List ℕ × Sort) × List (List ℕ × Sort)) → List ℕ
first_and_others = pair_text item_text (λ _. ended_variables)

abbrev pub AreNewFirst : List (List ℕ) → ((List ℕ × Sort) × List (List ℕ × Sort)) → Type 0
AreNewFirst earlier = PairAllowed (IsNewItem earlier) (λ v. AreNew (v.0 ∷ earlier))

-- after a space comes at least one variable
pub stuck_some : (earlier : List (List ℕ)) (bytes rest : List ℕ) (k : ℕ) → bytes ≡ 32 ∷ rest → IsStuck first_and_others (AreNewFirst earlier) bytes k
    → IsStuck ended_variables (AreNew earlier) bytes k
stuck_some earlier bytes rest k is s = record {
  value = s.value.0 ∷ s.value.1;
  allowed = (s.allowed.0.0, s.allowed.0.1, s.allowed.1);
  more = s.more;
  begins = append_assoc (item_text s.value.0) (variables_text s.value.1) (codes "\n") ∙ s.begins;
  inside = s.inside;
  excluded = excluded;
}
  where
    excluded : (vs : List (List ℕ × Sort)) → AreNew earlier vs → (z : List ℕ) → take (k + 1) bytes ≡ take (k + 1) (ended_variables vs ++ z) → ⊥
    excluded [] i z e = omega (arith, same_head 32 10 [] [] (ap (take 1) (sym is) ∙ agree_less 1 (k + 1) bytes (codes "\n" ++ z) (omega arith) e))
    excluded (v ∷ vs) i z e = s.excluded (v, vs) ((i.0, i.1), i.2) z
        (e ∙ ap (λ t. take (k + 1) (t ++ z)) (append_assoc (item_text v) (variables_text vs) (codes "\n")))

-- stuck in the next variable
pub stuck_in_item : (earlier : List (List ℕ)) (bytes rest : List ℕ) (k : ℕ) → bytes ≡ codes " " ++ rest → IsStuck named_sort (IsNewNamed earlier) rest k
    → IsStuck ended_variables (AreNew earlier) bytes (1 + k)
stuck_in_item earlier bytes rest k is s = stuck_some earlier bytes rest (1 + k) is
    (stuck_first item_text (IsNewItem earlier) (λ _. ended_variables) (λ v. AreNew (v.0 ∷ earlier)) bytes (1 + k) (λ v i. ([], tt))
    (stuck_item earlier bytes rest k is s))

-- stuck, as neither another variable nor the end of the line comes
unfoldable pub IsNoNext : List ℕ → Type 0
IsNoNext [] = Unit {0}
IsNoNext (b ∷ r) = (b ≡ 32 → ⊥) × (b ≡ 10 → ⊥)

pub stuck_no_next : (earlier : List (List ℕ)) (bytes : List ℕ) → IsNoNext bytes → IsStuck ended_variables (AreNew earlier) bytes 0
unfolding IsNoNext
stuck_no_next earlier bytes h = record {
  value = [];
  allowed = tt;
  more = codes "\n";
  begins = refl;
  inside = omega arith;
  excluded =
      λ vs i z e. by vs bytes z h e;
}
  where
    by : (vs : List (List ℕ × Sort)) (bytes z : List ℕ) → IsNoNext bytes → take (0 + 1) bytes ≡ take (0 + 1) (ended_variables vs ++ z) → ⊥
    by [] [] z h e = omega (arith, ap length e)
    by (v ∷ vs) [] z h e = omega (arith, ap length e)
    by [] (b ∷ r) z h e = h.1 (same_head b 10 [] [] e)
    by (v ∷ vs) (b ∷ r) z h e = h.0 (same_head b 32 [] [] e)

-- stuck after some variables
pub stuck_after_variables : (earlier : List (List ℕ)) (vs : List (List ℕ × Sort)) (bytes rest : List ℕ) (k : ℕ) → AreNew earlier vs
    → bytes ≡ variables_text vs ++ rest
    → IsStuck ended_variables (AreNew (names_onto earlier vs)) rest k → IsStuck ended_variables (AreNew earlier) bytes (length (variables_text vs) + k)
stuck_after_variables earlier [] bytes rest k i is s = subst (λ b. IsStuck ended_variables (AreNew earlier) b (0 + k)) (sym is)
    (subst (IsStuck ended_variables (AreNew earlier) rest) (omega arith) s)
stuck_after_variables earlier (v ∷ vs) bytes rest k i is s =
    let after : bytes ≡ item_text v ++ (variables_text vs ++ rest) = is ∙ append_assoc (item_text v) (variables_text vs) rest in
    let inner = stuck_after_variables (v.0 ∷ earlier) vs (variables_text vs ++ rest) rest k i.2 refl s in
    subst (IsStuck ended_variables (AreNew earlier) bytes)
    (places (length (item_text v)) (length (variables_text vs)) k ∙ ap (λ n. n + k) (sym (length-append (item_text v) (variables_text vs))))
    (stuck_some earlier bytes (v.0 ++ sort_text v.1 ++ (variables_text vs ++ rest)) (length (item_text v) + (length (variables_text vs) + k)) after
    (stuck_second item_text (IsNewItem earlier) (λ _. ended_variables) (λ w. AreNew (w.0 ∷ earlier)) bytes (variables_text vs ++ rest)
    (length (variables_text vs) + k) v (items_readable earlier) (i.0, i.1) after inner))
  where
    places : (a b c : ℕ) → a + (b + c) ≡ a + b + c
    places a b c = omega arith

pub variables_readable : (earlier : List (List ℕ)) → IsReadable ended_variables (AreNew earlier)
unfolding IsReadable
variables_readable earlier [] [] iv iw x y e = refl
variables_readable earlier [] (w ∷ ws) iv iw x y e =
    absurd (omega (arith, same_head 10 32 x ((w.0 ++ sort_text w.1 ++ variables_text ws ++ codes "\n") ++ y) e))
variables_readable earlier (v ∷ vs) [] iv iw x y e =
    absurd (omega (arith, same_head 32 10 ((v.0 ++ sort_text v.1 ++ variables_text vs ++ codes "\n") ++ x) y e))
variables_readable earlier (v ∷ vs) (w ∷ ws) iv iw x y e = by (items_readable earlier) (λ k. variables_readable (w.0 ∷ earlier) vs ws k iw.2 x y)
  where
    apart : (v : List ℕ × Sort) (vs : List (List ℕ × Sort)) (x : List ℕ) → ended_variables (v ∷ vs) ++ x ≡ item_text v ++ (ended_variables vs ++ x)
    apart v vs x = ap (λ t. t ++ x) (append_assoc (item_text v) (variables_text vs) (codes "\n")) ∙ append_assoc (item_text v) (ended_variables vs) x

    after : item_text v ++ (ended_variables vs ++ x) ≡ item_text w ++ (ended_variables ws ++ y)
    after = sym (apart v vs x) ∙ e ∙ apart w ws y

    by : ((a b : List ℕ × Sort) → IsNewItem earlier a → IsNewItem earlier b → (x y : List ℕ) → item_text a ++ x ≡ item_text b ++ y → a ≡ b)
        → (AreNew (w.0 ∷ earlier) vs → ended_variables vs ++ x ≡ ended_variables ws ++ y → vs ≡ ws) → v ∷ vs ≡ w ∷ ws
    by items others =
        let same : v ≡ w = items v w (iv.0, iv.1) (iw.0, iw.1) (ended_variables vs ++ x) (ended_variables ws ++ y) after in
        ap (λ u. u ∷ vs) same ∙ ap (λ us. w ∷ us) (others (subst (λ u. AreNew (u.0 ∷ earlier) vs) same iv.2)
        (append_cancel_left (item_text w) (ended_variables vs ++ x) (ended_variables ws ++ y)
        (ap (λ u. item_text u ++ (ended_variables vs ++ x)) (sym same) ∙ after)))
