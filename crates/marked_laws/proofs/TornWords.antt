-- The words of a torn state: a loop that meets no mark and one that meets a mark show that the set is not weak.
use Rattle.std.proofs.Common.{◌≡◌, ℕ, zero, suc, ◌<◌, Bool, true, false, List, [], ◌∷◌, ◌++◌, length, arith, refl, ◌∙◌, sym, ap, subst, append_assoc}
use Rattle.std.specs.Prelude.{slice_index, All, ◌↔◌, IsTrue, ℤ}
use Rattle.std.proofs.lemmas.List.Elements.{recursion_from_All, All-from_recursion}
use Rattle.graph_laws.specs.Walks.{go, copies}
use Rattle.graph_laws.proofs.Joining.{go-append}
use Rattle.lash_model.specs.Lassos.{Lasso, IsLasso, numerators, denominator}
use Rattle.lash_model.specs.Tables.{Table, letters, fracs}
use Rattle.lash_model.specs.Acceptance.{int_state, frac_state, is_clear, accepts_marked}
use Rattle.part_laws.specs.Graphs.{IsWord}
use Rattle.part_laws.proofs.Walking.{word-append, some_before}
use Rattle.marked_laws.specs.TornTables.{AreTornWords}
use Rattle.marked_laws.specs.Weakening.{StandsForMarked, IsLedTo, IsClearLoop, IsMarkedLoop, IsTornAt, joined, ShowsNotWeak, AreShown}
use Rattle.marked_laws.proofs.Marks.{not_both, after, clear_first, clear_front, clear_rest, clear_copies}

abbrev pub lasso : ℕ → List ℕ → List ℕ → List ℕ → Lasso
lasso sign whole stem cycle = record { sign = sign; whole = whole; stem = stem; cycle = cycle }

-- two words tell a set of lassos from those of a weak automaton
pub record Tell (Q : Lasso → Type 0) (sign : ℕ) (whole stem accept reject : List ℕ) : Type 0 where
  pub accepts : (x : List Bool) → Q (lasso sign whole (stem ++ joined accept reject x) accept)
  pub rejects : (x y : List Bool) → Q (lasso sign whole (stem ++ joined accept reject x) (joined accept reject y ++ reject)) → ⊥

-- the lassos that spell members of a set
abbrev pub spells : (List ℤ → ℕ → Type 0) → ℕ → ℕ → Lasso → Type 0
spells P r n x = P (numerators r n x) (denominator r x)

-- ---- words that are joined
joined_word : (width : ℕ) (a b : List ℕ) (x : List Bool) → IsWord width a → IsWord width b → IsWord width (joined a b x)
joined_word width a b [] h k = tt
joined_word width a b (true ∷ x) h k = word-append width a (joined a b x) h (joined_word width a b x h k)
joined_word width a b (false ∷ x) h k = word-append width b (joined a b x) k (joined_word width a b x h k)

joined_back : (t : Table) (q : ℕ) (a b : List ℕ) (x : List Bool) → after t q a ≡ q → after t q b ≡ q → after t q (joined a b x) ≡ q
joined_back t q a b [] e f = refl
joined_back t q a b (true ∷ x) e f = go-append t.frac_rows (letters t) q a (joined a b x) ∙ ap (λ p. after t p (joined a b x)) e
    ∙ joined_back t q a b x e f
joined_back t q a b (false ∷ x) e f = go-append t.frac_rows (letters t) q b (joined a b x) ∙ ap (λ p. after t p (joined a b x)) f
    ∙ joined_back t q a b x e f

copies_back : (t : Table) (q : ℕ) (v : List ℕ) (n : ℕ) → after t q v ≡ q → after t q (copies n v) ≡ q
copies_back t q v zero e = refl
copies_back t q v (suc n) e = go-append t.frac_rows (letters t) q v (copies n v) ∙ ap (λ p. after t p (copies n v)) e ∙ copies_back t q v n e

-- a loop with a mark is not clear
not_clear : (t : Table) (q : ℕ) (w : List ℕ) → IsMarkedLoop t q w → is_clear t q w ≡ true → ⊥
not_clear t q w m c = not_both (slice_index t.colours (after t q m.front)) m.marked
    (clear_first t (after t q m.front) m.rest (clear_rest t q m.front m.rest (subst (λ v. is_clear t q v ≡ true) m.parted c)))

first_copy : (t : Table) (q n : ℕ) (v : List ℕ) → 0 < n → is_clear t q (copies n v) ≡ true → is_clear t q v ≡ true
first_copy t q zero v h c = absurd (omega (arith, h))
first_copy t q (suc n) v h c = clear_front t q v (copies n v) c

-- a loop with a mark has a letter, if the state is on a clear loop and so is not marked
some_marked : (t : Table) (q : ℕ) (accept reject : List ℕ) → IsClearLoop t q accept → IsMarkedLoop t q reject → 0 < length reject
some_marked t q accept (l ∷ w) o m = omega arith
some_marked t q accept [] o m = absurd (not_clear t q [] m (clear_front t q [] accept o.clear))

-- two loops at a state that is led to, whatever set the table has
pub loops_tell : (t : Table) (Q : Lasso → Type 0) → 0 < fracs t → ((x : Lasso) → IsLasso t.base t.tracks x → IsTrue (accepts_marked t x) ↔ Q x)
    → (sign : ℕ) (whole stem : List ℕ) (q : ℕ) (accept reject : List ℕ) → IsLedTo t sign whole stem q → IsClearLoop t q accept → IsMarkedLoop t q reject
    → Tell Q sign whole stem accept reject
loops_tell t Q some stands sign whole stem q a b led o m = record { accepts = accepts; rejects = rejects }
  where
    rows : List ℕ
    rows = t.frac_rows

    width : ℕ
    width = letters t

    entry : ℕ
    entry = slice_index t.outs (int_state t sign whole)

    in_range : (w : List ℕ) → All (λ l. l < letters t) w → IsWord width w
    in_range w a = recursion_from_All (λ l. l < letters t) w a

    joined_in : (x : List Bool) → IsWord width (joined a b x)
    joined_in x = joined_word width a b x (in_range a o.letters_in) (in_range b m.letters_in)

    is_lasso : (x : List Bool) (c : List ℕ) → IsWord width c → 0 < length c → IsLasso t.base t.tracks (lasso sign whole (stem ++ joined a b x) c)
    is_lasso x c ls some = record {
      sign = led.sign_in;
      whole = led.whole_in;
      stem = All-from_recursion (λ l. l < letters t) (stem ++ joined a b x)
          (word-append width stem (joined a b x) (in_range stem led.stem_in) (joined_in x));
      cycle = All-from_recursion (λ l. l < letters t) c ls;
      turns = some;
    }

    -- a loop as the cycle stays at the state
    there : (x : List Bool) (c : List ℕ) → after t q c ≡ q → frac_state t (lasso sign whole (stem ++ joined a b x) c) ≡ q
    there x c around = go-append rows width entry (stem ++ joined a b x) (copies (fracs t) c)
        ∙ ap (λ p. after t p (copies (fracs t) c)) (go-append rows width entry stem (joined a b x) ∙ ap (λ p. after t p (joined a b x)) led.leads
        ∙ joined_back t q a b x o.leads m.leads) ∙ copies_back t q c (fracs t) around

    accepts : (x : List Bool) → Q (lasso sign whole (stem ++ joined a b x) a)
    accepts x = (stands (lasso sign whole (stem ++ joined a b x) a) (is_lasso x a (in_range a o.letters_in) o.some)).0
        (subst (λ p. is_clear t p (copies (fracs t) a) ≡ true) (sym (there x a o.leads)) (clear_copies t q a (fracs t) o.leads o.clear))

    rejects : (x y : List Bool) → Q (lasso sign whole (stem ++ joined a b x) (joined a b y ++ b)) → ⊥
    rejects x y member = not_clear t q b m
        (subst (λ p. is_clear t p b ≡ true) (joined_back t q a b y o.leads m.leads) (clear_rest t q (joined a b y) b
        (first_copy t q (fracs t) c some (subst (λ p. is_clear t p (copies (fracs t) c) ≡ true) (there x c around)
        ((stands (lasso sign whole (stem ++ joined a b x) c) (is_lasso x c c_in c_some)).1 member)))))
      where
        c : List ℕ
        c = joined a b y ++ b

        c_in : IsWord width c
        c_in = word-append width (joined a b y) b (joined_in y) (in_range b m.letters_in)

        c_some : 0 < length c
        c_some = some_before (joined a b y) b (some_marked t q a b o m)

        around : after t q c ≡ q
        around = go-append rows width q (joined a b y) b ∙ ap (λ p. after t p b) (joined_back t q a b y o.leads m.leads) ∙ m.leads

-- a loop that meets no mark and one that meets a mark, at one state
pub loops_show : (t : Table) (P : List ℤ → ℕ → Type 0) → StandsForMarked t P → (sign : ℕ) (whole stem : List ℕ) (q : ℕ) (accept reject : List ℕ)
    → IsLedTo t sign whole stem q → IsClearLoop t q accept → IsMarkedLoop t q reject → ShowsNotWeak P t.base t.tracks sign whole stem accept reject
loops_show t P stands sign whole stem q accept reject led o m =
    let told : Tell (spells P t.base t.tracks) sign whole stem accept reject
    = loops_tell t (spells P t.base t.tracks) stands.fractions stands.each sign whole stem q accept reject led o m in
    record { accepts = told.accepts; rejects = told.rejects }

pub torn_words_show : (t : Table) (P : List ℤ → ℕ → Type 0) → StandsForMarked t P → (sign : ℕ) (whole stem accept reject : List ℕ)
    → AreTornWords t sign whole stem accept reject → ShowsNotWeak P t.base t.tracks sign whole stem accept reject
torn_words_show t P stands sign whole stem accept reject ws = loops_show t P stands sign whole stem ws.state accept reject ws.led ws.accepts ws.rejects

-- the words are in range, and neither of the two last is empty
pub loops_shown : (t : Table) (sign : ℕ) (whole stem : List ℕ) (q : ℕ) (accept reject : List ℕ) → IsLedTo t sign whole stem q
    → IsClearLoop t q accept → IsMarkedLoop t q reject → AreShown t.base t.tracks sign whole stem accept reject
loops_shown t sign whole stem q accept reject led o m = record {
  sign_in = led.sign_in;
  whole_in = led.whole_in;
  stem_in = led.stem_in;
  accept_in = o.letters_in;
  reject_in = m.letters_in;
  some_accept = o.some;
  some_reject = some_marked t q accept reject o m;
}

pub torn_words_shown : (t : Table) (sign : ℕ) (whole stem accept reject : List ℕ) → AreTornWords t sign whole stem accept reject
    → AreShown t.base t.tracks sign whole stem accept reject
torn_words_shown t sign whole stem accept reject ws = loops_shown t sign whole stem ws.state accept reject ws.led ws.accepts ws.rejects

-- a torn state has such loops
pub torn_loop : (t : Table) (q : ℕ) (o : IsTornAt t q) → IsMarkedLoop t q (o.word ++ (o.there.word ++ o.back.word))
torn_loop t q o = record {
  letters_in = All-from_recursion (λ l. l < letters t) (o.word ++ (o.there.word ++ o.back.word))
      (word-append width o.word (o.there.word ++ o.back.word) (recursion_from_All (λ l. l < letters t) o.word o.loop.letters_in)
      (word-append width o.there.word o.back.word o.there.letters o.back.letters));
  leads = go-append rows width q o.word (o.there.word ++ o.back.word) ∙ ap (λ p. go rows width p (o.there.word ++ o.back.word)) o.loop.leads
      ∙ go-append rows width q o.there.word o.back.word ∙ ap (λ p. go rows width p o.back.word) o.there.leads ∙ o.back.leads;
  front = o.word ++ o.there.word;
  rest = o.back.word;
  parted = sym (append_assoc o.word o.there.word o.back.word);
  marked = ap (slice_index t.colours)
      (go-append rows width q o.word o.there.word ∙ ap (λ p. go rows width p o.there.word) o.loop.leads ∙ o.there.leads) ∙ o.marked;
}
  where
    rows : List ℕ
    rows = t.frac_rows

    width : ℕ
    width = letters t
