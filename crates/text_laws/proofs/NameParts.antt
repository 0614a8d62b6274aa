-- Names with the space that ends them: read in one way, and where a reader of one stops.
use Rattle.std.proofs.Common.{◌≡◌, ℕ, zero, suc, ◌+◌, ◌≤◌, ◌<◌, Bool, true, false, List, [], ◌∷◌, ◌++◌, length, take, replicate, codes, arith, refl}
use Rattle.std.proofs.Common.{◌∙◌, sym, ap, subst, append_assoc, length-append, take_at, ◌⊎◌, inl, inr, ◌||◌, ◌&&◌, nat_le, IsTrue}
use Rattle.std.specs.List.{AllByRecursion, list_all}
use Rattle.std.proofs.lemmas.List.{append-nil, length-replicate}
use Rattle.formula_core.specs.Names.{begins_word, is_in_word, IsWord, keywords, IsVariableName}
use Rattle.text_laws.specs.Parts.{ended_name, IsNewName}
use Rattle.text_laws.specs.Reading.{IsStuck}
use Rattle.text_laws.proofs.Stops.{IsReadable, agree_after, begun_by}
use Rattle.text_laws.proofs.NumberParts.{split, parted, all_append, first_same, none_first, same_head, same_tail}

abbrev pub InWord : ℕ → Type 0
InWord b = IsTrue (is_in_word b)

abbrev pub NoSpace : ℕ → Type 0
NoSpace b = b ≡ 32 → ⊥

both_true : (a b : Bool) → IsTrue (a && b) → IsTrue a × IsTrue b
both_true true b h = (refl, h)
both_true false b h = absurd (parted_truths h)
  where
    parted_truths : false ≡ true → ⊥
    parted_truths e = cc

word_all : (bs : List ℕ) → IsTrue (list_all is_in_word bs) → AllByRecursion InWord bs
word_all [] h = tt
word_all (b ∷ bs) h = let x = both_true (is_in_word b) (list_all is_in_word bs) h in (x.0, word_all bs x.1)

begins_in : (b : ℕ) → IsTrue (begins_word b) → InWord b
begins_in b h = by (begins_word b) h
  where
    by : (c : Bool) → IsTrue c → IsTrue (c || ((nat_le 48 b) && (nat_le b 57)))
    by true e = refl
    by false e = absurd (parted_truths e)
      where
        parted_truths : false ≡ true → ⊥
        parted_truths e = cc

pub in_word_all : (w : List ℕ) → IsWord w → AllByRecursion InWord w
in_word_all [] h = absurd h
in_word_all (b ∷ bs) h = (begins_in b h.0, word_all bs h.1)

pub space_out : InWord 32 → ⊥
space_out e = cc

pub quote_out : InWord 39 → ⊥
quote_out e = cc

no_space : (b : ℕ) → InWord b → NoSpace b
no_space b h e = space_out (subst InWord e h)

all_no_space : (bs : List ℕ) → AllByRecursion InWord bs → AllByRecursion NoSpace bs
all_no_space [] h = tt
all_no_space (b ∷ bs) h = (no_space b h.0, all_no_space bs h.1)

pub name_no_space : (name : List ℕ) → IsVariableName name → AllByRecursion NoSpace name
name_no_space name (inl n) = all_no_space name (in_word_all name n.word)
name_no_space name (inr p) = subst (AllByRecursion NoSpace) (sym p.2)
    (all_append NoSpace p.0 (codes "'") (all_no_space p.0 (in_word_all p.0 p.1.word)) (λ e. omega (arith, e), tt))

-- a name with its space is read in one way
pub names_readable : IsReadable ended_name IsVariableName
unfolding IsReadable
names_readable a b ia ib x y e = parted NoSpace a b x y 32 (λ h. h refl) (name_no_space a ia) (name_no_space b ib)
    (sym (append_assoc a (codes " ") x) ∙ e ∙ append_assoc b (codes " ") y)

pub names_readable_new : (earlier : List (List ℕ)) → IsReadable ended_name (IsNewName earlier)
unfolding IsReadable
names_readable_new earlier a b ia ib x y e = names_readable a b ia.0 ib.0 x y e

-- ---- a name that no earlier one is
total : List (List ℕ) → ℕ
total [] = 0
total (name ∷ names) = length name + total names

longer_than_all : (names : List (List ℕ)) (name : List ℕ) → total names < length name → AllByRecursion (λ other. name ≡ other → ⊥) names
unfolding total
longer_than_all [] name h = tt
longer_than_all (other ∷ names) name h = (λ e. omega (arith, ap length e, h), longer_than_all names name (omega (arith, h)))

turned : (names : List (List ℕ)) (name : List ℕ) → AllByRecursion (λ other. name ≡ other → ⊥) names → AllByRecursion (λ other. other ≡ name → ⊥) names
turned [] name h = tt
turned (other ∷ names) name h = (λ e. h.0 (sym e), turned names name h.1)

true_both : (a b : Bool) → IsTrue a → IsTrue b → IsTrue (a && b)
true_both true b h k = k
true_both false b h k = h

all_word : (bs : List ℕ) → AllByRecursion InWord bs → IsTrue (list_all is_in_word bs)
all_word [] h = refl
all_word (b ∷ bs) h = true_both (is_in_word b) (list_all is_in_word bs) h.0 (all_word bs h.1)

pub word_append : (w bs : List ℕ) → IsWord w → AllByRecursion InWord bs → IsWord (w ++ bs)
word_append [] bs h k = absurd h
word_append (b ∷ w) bs h k = (h.0, all_word (w ++ bs) (all_append InWord w bs (word_all w h.1) k))

as_in_word : (n : ℕ) → AllByRecursion InWord (replicate n 97)
as_in_word zero = tt
as_in_word (suc n) = (refl, as_in_word n)

-- a word goes on to a new name
filler : List (List ℕ) → List ℕ
filler earlier = replicate (suc (total keywords + total earlier)) 97

fresh : (earlier : List (List ℕ)) (w : List ℕ) → IsWord w → IsNewName earlier (w ++ filler earlier)
unfolding filler
fresh earlier w h = (
  inl (record {
    word = word_append w (filler earlier) h (as_in_word (suc (total keywords + total earlier)));
    free = turned keywords (w ++ filler earlier) (longer_than_all keywords (w ++ filler earlier) (omega (arith, long)));
  }),
  longer_than_all earlier (w ++ filler earlier) (omega (arith, long)),
)
  where
    long : total keywords + total earlier < length (w ++ filler earlier)
    long = omega (arith, length-append w (filler earlier), length-replicate {A = ℕ} (suc (total keywords + total earlier)) 97)

-- ---- where a reader of a name stops
-- a name is a word in front of a space, or of a quote mark and a space
record NameForm (name : List ℕ) : Type 0 where
  pub plain : List ℕ
  pub word : IsWord plain
  pub next : ℕ
  pub others : List ℕ
  pub text : ended_name name ≡ plain ++ next ∷ others
  pub outside : InWord next → ⊥
  pub kinds : ((next ≡ 32) × (name ≡ plain)) ⊎ ((next ≡ 39) × (others ≡ codes " ") × (name ≡ plain ++ codes "'"))

name_form : (name : List ℕ) → IsVariableName name → NameForm name
name_form name (inl n) = record { plain = name; word = n.word; next = 32; others = []; text = refl; outside = space_out; kinds = inl (refl, refl) }
name_form name (inr p) = record {
  plain = p.0;
  word = p.1.word;
  next = 39;
  others = codes " ";
  text = ap (λ t. t ++ codes " ") p.2 ∙ append_assoc p.0 (codes "'") (codes " ");
  outside = quote_out;
  kinds = inr (refl, refl, p.2);
}

-- what is next after a word, where a reader stops: nothing; a quote mark or a space, if no allowed name ends so; or another byte that does not
-- go on a word
unfoldable pub AreNameStopped : List (List ℕ) → List ℕ → List ℕ → Type 0
AreNameStopped earlier w [] = Unit {0}
AreNameStopped earlier w (b ∷ r) = (InWord b → ⊥) × (b ≡ 39 → IsNewName earlier (w ++ codes "'") → ⊥) × (b ≡ 32 → IsNewName earlier w → ⊥)

front_taken : (front rest bytes : List ℕ) → bytes ≡ front ++ rest → take (length front) bytes ≡ front
front_taken front rest bytes e = ap (take (length front)) e ∙ take_at front rest (length front) refl

front_fits : (front rest bytes : List ℕ) → bytes ≡ front ++ rest → length front ≤ length bytes
front_fits front rest bytes e = omega (arith, ap length e, length-append front rest)

pub stuck_word : (earlier : List (List ℕ)) (w rest bytes : List ℕ) → IsWord w → bytes ≡ w ++ rest → AreNameStopped earlier w rest
    → IsStuck ended_name (IsNewName earlier) bytes (length w)
unfolding AreNameStopped
stuck_word earlier w rest bytes word is stopped = record {
  value = w ++ filler earlier;
  allowed = fresh earlier w word;
  more = filler earlier ++ codes " ";
  begins = append_assoc w (filler earlier) (codes " ") ∙ ap (λ t. t ++ (filler earlier ++ codes " ")) (sym (front_taken w rest bytes is));
  inside = front_fits w rest bytes is;
  excluded = excluded;
}
  where
    by : (name : List ℕ) → IsNewName earlier name → (f : NameForm name) → (rest middle m z : List ℕ) → AreNameStopped earlier w rest
        → f.plain ≡ w ++ middle → m ≡ middle ++ f.next ∷ z → take 1 rest ≡ take 1 m → ⊥
    by name i f [] middle m z h longer mid agree = none_first middle z f.next (agree ∙ ap (take 1) mid)
    by name i f (b ∷ r) [] m z h longer mid agree = at f.kinds
      where
        b_next : b ≡ f.next
        b_next = let t = first_same b r m agree in same_head b f.next t.0 z (sym t.1 ∙ mid)

        at : ((f.next ≡ 32) × (name ≡ f.plain)) ⊎ ((f.next ≡ 39) × (f.others ≡ codes " ") × (name ≡ f.plain ++ codes "'")) → ⊥
        at (inl k) = h.2 (b_next ∙ k.0) (subst (IsNewName earlier) (k.1 ∙ longer ∙ append-nil w) i)
        at (inr k) = h.1 (b_next ∙ k.0) (subst (IsNewName earlier) (k.2 ∙ ap (λ p. p ++ codes "'") (longer ∙ append-nil w)) i)
    by name i f (b ∷ r) (d ∷ middle) m z h longer mid agree =
        let t = first_same b r m agree in
        h.0 (subst InWord (sym (same_head b d t.0 (middle ++ f.next ∷ z) (sym t.1 ∙ mid)))
        (in_middle (subst (AllByRecursion InWord) longer (in_word_all f.plain f.word))))
      where
        after : (xs : List ℕ) → AllByRecursion InWord (xs ++ d ∷ middle) → InWord d
        after [] all = all.0
        after (x ∷ xs) all = after xs all.1

        in_middle : AllByRecursion InWord (w ++ d ∷ middle) → InWord d
        in_middle all = after w all

    excluded : (name : List ℕ) → IsNewName earlier name → (z : List ℕ) → take (length w + 1) bytes ≡ take (length w + 1) (ended_name name ++ z) → ⊥
    excluded name i z e =
        let f = name_form name i.0 in
        let agree : take (length w + 1) (w ++ rest) ≡ take (length w + 1) (ended_name name ++ z) = ap (take (length w + 1)) (sym is) ∙ e in
        let b = begun_by w rest (ended_name name ++ z) 1 agree in
        let s = split InWord f.plain w b.0 f.next (f.others ++ z) f.outside (in_word_all w word)
        (sym (append_assoc f.plain (f.next ∷ f.others) z) ∙ ap (λ t. t ++ z) (sym f.text) ∙ b.1) in
        by name i f rest s.middle b.0 (f.others ++ z) stopped s.longer s.rest (agree_after w rest b.0 1 (agree ∙ ap (take (length w + 1)) b.1))

-- the first byte begins no word
unfoldable pub IsNoBeginning : List ℕ → Type 0
IsNoBeginning [] = Unit {0}
IsNoBeginning (b ∷ r) = IsTrue (begins_word b) → ⊥

pub stuck_no_word : (earlier : List (List ℕ)) (bytes : List ℕ) → IsNoBeginning bytes → IsStuck ended_name (IsNewName earlier) bytes 0
unfolding IsNoBeginning
stuck_no_word earlier bytes h = record {
  value = codes "a" ++ filler earlier;
  allowed = fresh earlier (codes "a") (refl, refl);
  more = ended_name (codes "a" ++ filler earlier);
  begins = refl;
  inside = omega arith;
  excluded = λ name i z e. let f = name_form name i.0 in
      by f.plain f.word bytes (f.next ∷ (f.others ++ z)) h
      (e ∙ ap (λ t. take (0 + 1) (t ++ z)) f.text ∙ ap (take (0 + 1)) (append_assoc f.plain (f.next ∷ f.others) z));
}
  where
    by : (plain : List ℕ) → IsWord plain → (bytes m : List ℕ) → IsNoBeginning bytes → take (0 + 1) bytes ≡ take (0 + 1) (plain ++ m) → ⊥
    by [] w bytes m h e = absurd w
    by (p ∷ plain) w [] m h e = omega (arith, ap length e)
    by (p ∷ plain) w (b ∷ r) m h e = h (subst (λ c. IsTrue (begins_word c)) (sym (same_head b p [] [] e)) w.0)

-- after a quote mark only the space may come
unfoldable pub IsNoSpace : List ℕ → Type 0
IsNoSpace [] = Unit {0}
IsNoSpace (b ∷ r) = b ≡ 32 → ⊥

pub stuck_quoted : (earlier : List (List ℕ)) (w rest bytes : List ℕ) → IsWord w → IsNewName earlier (w ++ codes "'") → bytes ≡ (w ++ codes "'") ++ rest
    → IsNoSpace rest
    → IsStuck ended_name (IsNewName earlier) bytes (length (w ++ codes "'"))
unfolding IsNoSpace
stuck_quoted earlier w rest bytes word new is stopped = record {
  value = w ++ codes "'";
  allowed = new;
  more = codes " ";
  begins = ap (λ t. t ++ codes " ") (sym (front_taken (w ++ codes "'") rest bytes is));
  inside = front_fits (w ++ codes "'") rest bytes is;
  excluded = excluded;
}
  where
    last : (rest m : List ℕ) → IsNoSpace rest → take 1 rest ≡ take 1 (32 ∷ m) → ⊥
    last [] m h e = omega (arith, ap length e)
    last (b ∷ r) m h e = h (same_head b 32 [] [] e)

    by : (name : List ℕ) (f : NameForm name) → (rest middle m z : List ℕ) → IsNoSpace rest
        → f.plain ≡ w ++ middle → 39 ∷ m ≡ middle ++ f.next ∷ (f.others ++ z) → take 1 rest ≡ take 1 m → ⊥
    by name f rest [] m z h longer mid agree = at f.kinds
      where
        at : ((f.next ≡ 32) × (name ≡ f.plain)) ⊎ ((f.next ≡ 39) × (f.others ≡ codes " ") × (name ≡ f.plain ++ codes "'")) → ⊥
        at (inl k) = omega (arith, k.0, same_head 39 f.next m (f.others ++ z) mid)
        at (inr k) = last rest z h (agree ∙ ap (take 1) (same_tail 39 f.next m (f.others ++ z) mid ∙ ap (λ o. o ++ z) k.1))
    by name f rest (d ∷ middle) m z h longer mid agree =
        quote_out (subst InWord (sym (same_head 39 d m (middle ++ f.next ∷ (f.others ++ z)) mid))
        (after w (subst (AllByRecursion InWord) longer (in_word_all f.plain f.word))))
      where
        after : (xs : List ℕ) → AllByRecursion InWord (xs ++ d ∷ middle) → InWord d
        after [] all = all.0
        after (x ∷ xs) all = after xs all.1

    excluded : (name : List ℕ) → IsNewName earlier name → (z : List ℕ)
        → take (length (w ++ codes "'") + 1) bytes ≡ take (length (w ++ codes "'") + 1) (ended_name name ++ z) → ⊥
    excluded name i z e =
        let f = name_form name i.0 in
        let n : ℕ = length (w ++ codes "'") + 1 in
        let agree : take n ((w ++ codes "'") ++ rest) ≡ take n (ended_name name ++ z) = ap (take n) (sym is) ∙ e in
        let b = begun_by (w ++ codes "'") rest (ended_name name ++ z) 1 agree in
        let s = split InWord f.plain w (39 ∷ b.0) f.next (f.others ++ z) f.outside (in_word_all w word)
        (sym (append_assoc f.plain (f.next ∷ f.others) z) ∙ ap (λ t. t ++ z) (sym f.text) ∙ b.1 ∙ append_assoc w (codes "'") b.0) in
        by name f rest s.middle b.0 z stopped s.longer s.rest (agree_after (w ++ codes "'") rest b.0 1 (agree ∙ ap (take n) b.1))
