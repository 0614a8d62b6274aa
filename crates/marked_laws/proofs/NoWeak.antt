-- No weak automaton has a set of lassos that two words tell: after the second word for ever, its run is on a loop of colour no; that loop
-- passes, after the first word often enough, a loop of colour yes. So no weak table accepts what a torn one accepts by its marks.
use Rattle.std.proofs.Common.{◌≡◌, ℕ, zero, suc, ◌<◌, Bool, true, false, List, [], ◌∷◌, ◌++◌, length, refl, ◌∙◌, sym, ap, ap₂, subst, append_assoc, append-nil}
use Rattle.std.specs.Prelude.{slice_index, All, nat_eq, ◌↔◌, IsTrue, ℤ}
use Rattle.std.proofs.lemmas.List.Elements.{recursion_from_All, All-from_recursion}
use Rattle.graph_laws.specs.Walks.{go, copies}
use Rattle.graph_laws.proofs.Joining.{go-append}
use Rattle.lash_model.specs.Lassos.{Lasso, IsLasso}
use Rattle.lash_model.specs.Tables.{Table, letters, fracs, IsTable}
use Rattle.lash_model.specs.Acceptance.{int_state, accepts_lasso, accepts_marked}
use Rattle.lash_model.specs.Standing.{StandsForMixed}
use Rattle.part_laws.specs.CanonicalMixed.{fraction_graph}
use Rattle.part_laws.specs.Graphs.{IsWord, IsGraph, IsWeak, AreOnePart}
use Rattle.part_laws.proofs.LassoWords.{fraction_is_graph}
use Rattle.part_laws.proofs.Turning.{Back, on_its_loop}
use Rattle.part_laws.proofs.Walking.{round, walk-copies, walk_below, word-append, word-copies, some_before, loop_of}
use Rattle.marked_laws.specs.Weakening.{joined, ShowsNotWeak, AreShown, IsMarkedLoop, IsTorn, AcceptsAsMarked}
use Rattle.marked_laws.proofs.Marks.{yes_is, is_yes, after}
use Rattle.marked_laws.proofs.WeakForms.{entry_in}
use Rattle.marked_laws.proofs.TornWords.{lasso, Tell, spells, loops_tell, loops_shown, torn_loop}

-- ---- words that are joined
trues : ℕ → List Bool
trues zero = []
trues (suc n) = true ∷ trues n

joined-trues : (a b : List ℕ) (n : ℕ) → joined a b (trues n) ≡ copies n a
unfolding trues
joined-trues a b zero = refl
joined-trues a b (suc n) = ap (λ w. a ++ w) (joined-trues a b n)

joined-append : (a b : List ℕ) (x y : List Bool) → joined a b (x ++ y) ≡ joined a b x ++ joined a b y
joined-append a b [] y = refl
joined-append a b (true ∷ x) y = ap (λ w. a ++ w) (joined-append a b x y) ∙ sym (append_assoc a (joined a b x) (joined a b y))
joined-append a b (false ∷ x) y = ap (λ w. b ++ w) (joined-append a b x y) ∙ sym (append_assoc b (joined a b x) (joined a b y))

-- so often: the first word so many times, and then the second
rounds_of : ℕ → ℕ → List Bool
rounds_of m zero = []
rounds_of m (suc n) = (trues m ++ false ∷ []) ++ rounds_of m n

joined-rounds : (a b : List ℕ) (m n : ℕ) → joined a b (rounds_of m n) ≡ copies n (copies m a ++ b)
unfolding rounds_of
joined-rounds a b m zero = refl
joined-rounds a b m (suc n) = joined-append a b (trues m ++ false ∷ []) (rounds_of m n)
    ∙ ap₂ (λ x y. x ++ y) (joined-append a b (trues m) (false ∷ []) ∙ ap₂ (λ x y. x ++ y) (joined-trues a b m) (append-nil b)) (joined-rounds a b m n)

-- ---- two words tell no weak table
pub no_weak_tells : (t : Table) (Q : Lasso → Type 0) → IsTable t → 0 < fracs t → IsWeak (letters t) (fraction_graph t)
    → ((x : Lasso) → IsLasso t.base t.tracks x → IsTrue (accepts_lasso t x) ↔ Q x) → (sign : ℕ) (whole stem a b : List ℕ)
    → AreShown t.base t.tracks sign whole stem a b → Tell Q sign whole stem a b → ⊥
no_weak_tells t Q h some weak stands sign whole stem a b i tell = rejected (is_yes (slice_index t.colours e) (one_colour ∙ accepted))
  where
    rows : List ℕ
    rows = t.frac_rows

    width : ℕ
    width = letters t

    n : ℕ
    n = fracs t

    -- the first word as often as there are states, and then the second
    z : List ℕ
    z = copies n a ++ b

    in_range : (w : List ℕ) → All (λ l. l < letters t) w → IsWord width w
    in_range w x = recursion_from_All (λ l. l < letters t) w x

    a_in : IsWord width a
    a_in = in_range a i.accept_in

    b_in : IsWord width b
    b_in = in_range b i.reject_in

    stem_in : IsWord width stem
    stem_in = in_range stem i.stem_in

    z_in : IsWord width z
    z_in = word-append width (copies n a) b (word-copies width n a a_in) b_in

    is_graph : IsGraph width (fraction_graph t)
    is_graph = fraction_is_graph t h

    closed : (w : List ℕ) → IsWord width w → (q : ℕ) → q < n → after t q w < n
    closed w ls q lt = walk_below width (fraction_graph t) is_graph q w lt ls

    entry : ℕ
    entry = slice_index t.outs (int_state t sign whole)

    start : ℕ
    start = after t entry stem

    start_in : start < n
    start_in = closed stem stem_in entry (entry_in t h some sign whole i.sign_in (in_range whole i.whole_in))

    -- after the rounds, and then after the first word as often again
    e : ℕ
    e = after t start (copies n z)

    e_in : e < n
    e_in = closed (copies n z) (word-copies width n z z_in) start start_in

    d : ℕ
    d = after t e (copies n a)

    d_in : d < n
    d_in = closed (copies n a) (word-copies width n a a_in) e e_in

    e_back : Back (round rows width z) e
    e_back = subst (Back (round rows width z)) (sym (walk-copies rows width n z start))
        (on_its_loop (round rows width z) n (closed z z_in) start start_in)

    d_back : Back (round rows width a) d
    d_back = subst (Back (round rows width a)) (sym (walk-copies rows width n a e)) (on_its_loop (round rows width a) n (closed a a_in) e e_in)

    one : AreOnePart rows width e d
    one = record {
      there = record { word = copies n a; letters = word-copies width n a a_in; leads = refl };
      back = record {
        word = b ++ copies e_back.less z;
        letters = word-append width b (copies e_back.less z) b_in (word-copies width e_back.less z z_in);
        leads = go-append rows width d b (copies e_back.less z)
            ∙ ap (λ q. go rows width q (copies e_back.less z)) (sym (go-append rows width e (copies n a) b))
            ∙ sym (go-append rows width e z (copies e_back.less z)) ∙ walk-copies rows width (suc e_back.less) z e ∙ e_back.back;
      };
    }

    one_colour : slice_index t.colours e ≡ slice_index t.colours d
    one_colour = weak e d e_in d_in (loop_of rows width z e z_in (some_before (copies n a) b i.some_reject) e_back)
        (loop_of rows width a d a_in i.some_accept d_back) one

    is_lasso : (u c : List ℕ) → IsWord width u → IsWord width c → 0 < length c → IsLasso t.base t.tracks (lasso sign whole u c)
    is_lasso u c x y some = record {
      sign = i.sign_in;
      whole = i.whole_in;
      stem = All-from_recursion (λ l. l < letters t) u x;
      cycle = All-from_recursion (λ l. l < letters t) c y;
      turns = some;
    }

    came : go rows width entry (stem ++ copies n z) ≡ e
    came = go-append rows width entry stem (copies n z)

    rejected : nat_eq (slice_index t.colours e) 1 ≡ true → ⊥
    rejected said = tell.rejects [] (trues n) (subst (λ u. Q (lasso sign whole u (joined a b (trues n) ++ b))) (sym (append-nil stem))
        (subst (λ c. Q (lasso sign whole stem (c ++ b))) (sym (joined-trues a b n))
        ((stands (lasso sign whole stem z) (is_lasso stem z stem_in z_in (some_before (copies n a) b i.some_reject))).0
        (subst (λ q. nat_eq (slice_index t.colours q) 1 ≡ true) (sym came) said))))

    turned_in : IsWord width (stem ++ copies n z)
    turned_in = word-append width stem (copies n z) stem_in (word-copies width n z z_in)

    accepted : slice_index t.colours d ≡ 1
    accepted = yes_is (slice_index t.colours d) (subst (λ q. nat_eq (slice_index t.colours q) 1 ≡ true)
        (go-append rows width entry (stem ++ copies n z) (copies n a) ∙ ap (λ q. go rows width q (copies n a)) came)
        ((stands (lasso sign whole (stem ++ copies n z) a) (is_lasso (stem ++ copies n z) a turned_in a_in i.some_accept)).1
        (subst (λ c. Q (lasso sign whole (stem ++ c) a)) (joined-rounds a b n n) (tell.accepts (rounds_of n n)))))

pub no_weak : (t : Table) (P : List ℤ → ℕ → Type 0) → IsTable t → IsWeak (letters t) (fraction_graph t) → StandsForMixed t P
    → (sign : ℕ) (whole stem accept reject : List ℕ) → AreShown t.base t.tracks sign whole stem accept reject
    → ShowsNotWeak P t.base t.tracks sign whole stem accept reject → ⊥
no_weak t P h weak stands sign whole stem accept reject i shows = no_weak_tells t (spells P t.base t.tracks) h stands.fractions weak stands.each
    sign whole stem accept reject i (record { accepts = shows.accepts; rejects = shows.rejects })

-- ---- a torn table has no weak one beside it
pub no_weak_beside : (t u : Table) → IsTable u → u.base ≡ t.base → u.tracks ≡ t.tracks → 0 < fracs t → 0 < fracs u → IsTorn t
    → IsWeak (letters u) (fraction_graph u) → AcceptsAsMarked t u → ⊥
no_weak_beside t u h base tracks t_some u_some o weak same = no_weak_tells u Q h u_some weak
    (λ x i. same x (subst (λ r. IsLasso r t.tracks x) base (subst (λ n. IsLasso u.base n x) tracks i))) sign whole stem accept reject
    (subst (λ r. AreShown r u.tracks sign whole stem accept reject) (sym base)
    (subst (λ n. AreShown t.base n sign whole stem accept reject) (sym tracks)
    (loops_shown t sign whole stem o.state accept reject o.torn.reached.led o.torn.loop loop)))
    (loops_tell t Q t_some (λ x i. (λ e. e, λ e. e)) sign whole stem o.state accept reject o.torn.reached.led o.torn.loop loop)
  where
    Q : Lasso → Type 0
    Q x = IsTrue (accepts_marked t x)

    sign : ℕ
    sign = o.torn.reached.sign

    whole : List ℕ
    whole = o.torn.reached.whole

    stem : List ℕ
    stem = o.torn.reached.stem

    accept : List ℕ
    accept = o.torn.word

    reject : List ℕ
    reject = o.torn.word ++ (o.torn.there.word ++ o.torn.back.word)

    loop : IsMarkedLoop t o.state reject
    loop = torn_loop t o.state o.torn
