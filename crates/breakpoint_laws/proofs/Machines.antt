-- Breakpoint machines, by two membership predicates (Miyano and Hayashi): where the automaton can be, and which of these states owe a
-- further run of colour yes. A loop that meets no mark is a loop of the automaton's, and an accepted run gives such a loop.
use Rattle.std.proofs.Common.{◌≡◌, ℕ, zero, suc, ◌+◌, ◌*◌, ◌-◌, ◌≤◌, ◌<◌, List, [], ◌∷◌, ◌++◌, arith, refl, ◌∙◌, sym, ap, subst, append_assoc}
use Rattle.graph_laws.specs.Walks.{copies}
use Rattle.part_laws.proofs.Turning.{turns, turns-add, turns_below, Back, on_its_loop, rounds, pigeonhole, Twice}
use Rattle.breakpoint_laws.proofs.Graphs.{Graph, walk, walk-append, walk_below, walk-copies, round, Looping, IsWeak, accept, renamed, loop_from}
use Rattle.breakpoint_laws.proofs.Marked.{Clear, clear_front, clear_rest, clear_first, copies-add, copies-mul, ClearLoop, clear_ever}

-- q comes from a state of the set by a letter whose kept part is k
pub record Came (t : Graph) (keep : ℕ → ℕ) (from : ℕ → Type 0) (k q : ℕ) : Type 0 where
  pub source : ℕ
  pub letter : ℕ
  pub member : from source
  pub kept : keep letter ≡ k
  pub leads : t.step source letter ≡ q

-- the breakpoint machine b over the graph t; a state c of b has two sets: where t can be, and which of these owe a further yes run
pub record Breakpoints (t b : Graph) (keep : ℕ → ℕ) (width : ℕ) (In Owing : ℕ → ℕ → Type 0) : Type 0 where
  pub in_into : (c q l : ℕ) → c < b.states → In c q → In (b.step c (keep l)) (t.step q l)
  pub in_from : (c q k : ℕ) → c < b.states → k < width → In (b.step c k) q → Came t keep (In c) k q
  pub in_range : (c q : ℕ) → c < b.states → In c q → q < t.states
  pub fill : (c q l : ℕ) → c < b.states → b.colour c ≡ 0 → In c q → t.colour (t.step q l) ≡ 1 → Owing (b.step c (keep l)) (t.step q l)
  pub owing_into : (c q l : ℕ) → c < b.states → Owing c q → t.colour (t.step q l) ≡ 1 → Owing (b.step c (keep l)) (t.step q l)
  pub owing_from : (c q k : ℕ) → c < b.states → k < width → ¬ (b.colour c ≡ 0) → Owing (b.step c k) q → Came t keep (Owing c) k q
  pub owing_in : (c q : ℕ) → c < b.states → Owing c q → In c q
  pub owing_yes : (c q : ℕ) → c < b.states → Owing c q → t.colour q ≡ 1
  pub marked : (c q : ℕ) → c < b.states → b.colour c ≡ 0 → ¬ (Owing c q)
  pub unmarked : (c : ℕ) → c < b.states → ¬ (b.colour c ≡ 0) → (q : ℕ) × Owing c q

pub renamed-append : (f : ℕ → ℕ) (x y : List ℕ) → renamed f (x ++ y) ≡ renamed f x ++ renamed f y
unfolding renamed
renamed-append f [] y = refl
renamed-append f (l ∷ x) y = ap (λ z. f l ∷ z) (renamed-append f x y)

pub renamed-copies : (f : ℕ → ℕ) (n : ℕ) (v : List ℕ) → renamed f (copies n v) ≡ copies n (renamed f v)
unfolding renamed
renamed-copies f zero v = refl
renamed-copies f (suc n) v = renamed-append f v (copies n v) ∙ ap (λ w. renamed f v ++ w) (renamed-copies f n v)

-- ---- from a run of t to a clear loop of b

-- the run stays in the set
pub run_in : (t b : Graph) (keep : ℕ → ℕ) (width : ℕ) (In Owing : ℕ → ℕ → Type 0) → Breakpoints t b keep width In Owing → (c q : ℕ) (w : List ℕ)
    → c < b.states → In c q → In (walk b c (renamed keep w)) (walk t q w)
unfolding walk renamed
run_in t b keep width In Owing h c q [] k m = m
run_in t b keep width In Owing h c q (l ∷ w) k m = run_in t b keep width In Owing h (b.step c (keep l)) (t.step q l) w (b.closed c (keep l) k)
    (h.in_into c q l k m)

-- a run of colour yes goes on owing
run_owing : (t b : Graph) (keep : ℕ → ℕ) (width : ℕ) (In Owing : ℕ → ℕ → Type 0) → Breakpoints t b keep width In Owing → (c q : ℕ) (w : List ℕ)
    → c < b.states → ((y z : List ℕ) → w ≡ y ++ z → t.colour (walk t q y) ≡ 1) → Owing c q → Owing (walk b c (renamed keep w)) (walk t q w)
unfolding walk renamed
run_owing t b keep width In Owing h c q [] k good m = m
run_owing t b keep width In Owing h c q (l ∷ w) k good m = run_owing t b keep width In Owing h (b.step c (keep l)) (t.step q l) w (b.closed c (keep l) k)
    (λ y z e. good (l ∷ y) z (ap (λ x. l ∷ x) e)) (h.owing_into c q l k m (good (l ∷ []) w refl))

clear_renamed : (b : Graph) (keep : ℕ → ℕ) (c : ℕ) (w : List ℕ)
    → ((x : List ℕ) (l : ℕ) (y : List ℕ) → w ≡ x ++ (l ∷ y) → ¬ (b.colour (walk b c (renamed keep x)) ≡ 0)) → Clear b c (renamed keep w)
unfolding Clear walk renamed
clear_renamed b keep c [] h = tt
clear_renamed b keep c (l ∷ w) h = (h [] l w refl, clear_renamed b keep (b.step c (keep l)) w (λ x m y e. h (l ∷ x) m y (ap (λ z. l ∷ z) e)))

walk_one : (g : Graph) (a n : ℕ) → walk g a (n ∷ []) ≡ g.step a n
unfolding walk
walk_one g a n = refl

walk_split : (b : Graph) (keep : ℕ → ℕ) (c : ℕ) (x : List ℕ) (l : ℕ) (y : List ℕ)
    → walk b c (renamed keep (x ++ (l ∷ y))) ≡ walk b (b.step (walk b c (renamed keep x)) (keep l)) (renamed keep y)
unfolding walk renamed
walk_split b keep c [] l y = refl
walk_split b keep c (a ∷ x) l y = walk_split b keep (b.step c (keep a)) x l y

doubled : (w x y y1 z : List ℕ) (l : ℕ) → w ≡ x ++ (l ∷ y) → y ++ x ≡ y1 ++ z → w ++ w ≡ ((x ++ l ∷ []) ++ y1) ++ (z ++ (l ∷ y))
doubled w x y y1 z l e f = ap (λ v. v ++ v) e ∙ append_assoc x (l ∷ y) (x ++ (l ∷ y))
    ∙ ap (λ v. x ++ (l ∷ v)) (sym (append_assoc y x (l ∷ y)) ∙ ap (λ v. v ++ (l ∷ y)) f ∙ append_assoc y1 z (l ∷ y))
    ∙ sym (append_assoc x (l ∷ []) (y1 ++ (z ++ (l ∷ y)))) ∙ sym (append_assoc (x ++ l ∷ []) y1 (z ++ (l ∷ y)))

-- on a loop of b, a run that is of colour yes for two rounds meets no mark in the first
round_clear : (t b : Graph) (keep : ℕ → ℕ) (width : ℕ) (In Owing : ℕ → ℕ → Type 0) → Breakpoints t b keep width In Owing → (c q : ℕ) (w : List ℕ)
    → c < b.states → In c q → walk b c (renamed keep w) ≡ c → ((y z : List ℕ) → w ++ w ≡ y ++ z → t.colour (walk t q y) ≡ 1) → Clear b c (renamed keep w)
round_clear t b keep width In Owing h c q w k m back good = clear_renamed b keep c w place
  where
    place : (x : List ℕ) (l : ℕ) (y : List ℕ) → w ≡ x ++ (l ∷ y) → ¬ (b.colour (walk b c (renamed keep x)) ≡ 0)
    place x l y e mark = h.marked d (walk t s (y ++ x)) d_below mark (subst (λ a. Owing a (walk t s (y ++ x))) again later)
      where
        d : ℕ
        d = walk b c (renamed keep x)

        d_below : d < b.states
        d_below = walk_below b c (renamed keep x) k

        p : ℕ
        p = walk t q x

        d1 : ℕ
        d1 = b.step d (keep l)

        s : ℕ
        s = t.step p l

        walk_letter : (g : Graph) (a : ℕ) (x : List ℕ) (n : ℕ) → walk g a (x ++ n ∷ []) ≡ g.step (walk g a x) n
        walk_letter g a x n = walk-append g a x (n ∷ []) ∙ walk_one g (walk g a x) n

        letter_yes : t.colour s ≡ 1
        letter_yes = ap t.colour (sym (walk_letter t q x l))
            ∙ good (x ++ l ∷ []) (y ++ w) (ap (λ v. v ++ w) e ∙ append_assoc x (l ∷ y) w ∙ sym (append_assoc x (l ∷ []) (y ++ w)))

        start : Owing d1 s
        start = h.fill d p l d_below mark (run_in t b keep width In Owing h c q x k m) letter_yes

        rest_yes : (y1 z : List ℕ) → y ++ x ≡ y1 ++ z → t.colour (walk t s y1) ≡ 1
        rest_yes y1 z f = ap t.colour (sym (walk-append t q (x ++ l ∷ []) y1 ∙ ap (λ a. walk t a y1) (walk_letter t q x l)))
            ∙ good ((x ++ l ∷ []) ++ y1) (z ++ (l ∷ y)) (doubled w x y y1 z l e f)

        later : Owing (walk b d1 (renamed keep (y ++ x))) (walk t s (y ++ x))
        later = run_owing t b keep width In Owing h d1 s (y ++ x) (b.closed d (keep l) d_below) rest_yes start

        again : walk b d1 (renamed keep (y ++ x)) ≡ d
        again = ap (λ v. walk b d1 v) (renamed-append keep y x) ∙ walk-append b d1 (renamed keep y) (renamed keep x)
            ∙ ap (λ a. walk b a (renamed keep x)) (round_ends ∙ back)
          where
            round_ends : walk b d1 (renamed keep y) ≡ walk b c (renamed keep w)
            round_ends = sym (walk_split b keep c x l y) ∙ ap (λ v. walk b c (renamed keep v)) (sym e)

-- from a loop of colour yes on, every met state is of colour yes
pub met_yes : (t : Graph) → IsWeak t → (q l : ℕ) (v : List ℕ) → q < t.states → Back (round t (l ∷ v)) q → t.colour q ≡ 1 → (n : ℕ) (y z : List ℕ)
    → copies n (l ∷ v) ≡ y ++ z → t.colour (walk t q y) ≡ 1
unfolding IsWeak
met_yes t weak q l v k b c n y z e = weak (walk t q y) q (walk_below t q y k) k s_loops q_loops (record { word = home; leads = s_home })
    (record { word = y; leads = refl }) ∙ c
  where
    w : List ℕ
    w = l ∷ v

    s : ℕ
    s = walk t q y

    home : List ℕ
    home = z ++ copies (n * b.less) w

    apart : (n p : ℕ) → n * suc p ≡ n + n * p
    apart n p = omega arith

    s_home : walk t s home ≡ q
    s_home = sym (walk-append t q y home)
        ∙ ap (λ x. walk t q x) (sym (append_assoc y z (copies (n * b.less) w)) ∙ ap (λ x. x ++ copies (n * b.less) w) (sym e)
        ∙ sym (copies-add n (n * b.less) w) ∙ ap (λ k. copies k w) (sym (apart n b.less))) ∙ walk-copies t (n * suc b.less) w q ∙ rounds (round t w) q b n

    around : walk t q (copies (suc b.less) w) ≡ q
    around = walk-copies t (suc b.less) w q ∙ b.back

    q_loops : Looping t q
    q_loops = record { letter = l; word = v ++ copies b.less w; leads = around }

    s_loops : Looping t s
    s_loops = loop_from t s home l ((v ++ copies b.less w) ++ y) (walk-append t s home (copies (suc b.less) w ++ y)
        ∙ ap (λ x. walk t x (copies (suc b.less) w ++ y)) s_home ∙ walk-append t q (copies (suc b.less) w) y ∙ ap (λ x. walk t x y) around)

pub turns_go : (t b : Graph) (keep : ℕ → ℕ) (width : ℕ) (In Owing : ℕ → ℕ → Type 0) → Breakpoints t b keep width In Owing → (c q : ℕ) (w : List ℕ) (n : ℕ)
    → c < b.states → In c q → In (turns (round b (renamed keep w)) n c) (turns (round t w) n q)
turns_go t b keep width In Owing h c q w n k m = subst (λ x. In x (turns (round t w) n q)) (ap (λ v. walk b c v) (renamed-copies keep n w)
    ∙ walk-copies b n (renamed keep w) c)
    (subst (λ x. In (walk b c (renamed keep (copies n w))) x) (walk-copies t n w q) (run_in t b keep width In Owing h c q (copies n w) k m))

-- a run that t accepts gives b a clear loop under the kept letters
pub clear_of_run : (t b : Graph) (keep : ℕ → ℕ) (width : ℕ) (In Owing : ℕ → ℕ → Type 0) → IsWeak t → Breakpoints t b keep width In Owing
    → (c q : ℕ) (u : List ℕ) (l : ℕ) (v : List ℕ) → c < b.states → In c q → accept t q u (l ∷ v) ≡ 1
    → ClearLoop b (walk b c (renamed keep u)) (renamed keep (l ∷ v))
unfolding accept
clear_of_run t b keep width In Owing weak h c q u l v k m a =
    record {
      turn = far;
      less = on.less;
      back = on.back;
      clear =
          subst (λ x. Clear b d x) (renamed-copies keep (suc on.less) w)
          (round_clear t b keep width In Owing h d p (copies (suc on.less) w) d_below p_in (ap (λ x. walk b d x) (renamed-copies keep (suc on.less) w)
          ∙ walk-copies b (suc on.less) (renamed keep w) d ∙ on.back) good);
    }
  where
    w : List ℕ
    w = l ∷ v

    f : ℕ → ℕ
    f = round t w

    g : ℕ → ℕ
    g = round b (renamed keep w)

    q1 : ℕ
    q1 = walk t q u

    c1 : ℕ
    c1 = walk b c (renamed keep u)

    c1_below : c1 < b.states
    c1_below = walk_below b c (renamed keep u) k

    q1_below : q1 < t.states
    q1_below = walk_below t q u (h.in_range c q k m)

    f_below : (x : ℕ) → x < t.states → f x < t.states
    f_below x j = walk_below t x w j

    g_below : (x : ℕ) → x < b.states → g x < b.states
    g_below x j = walk_below b x (renamed keep w) j

    -- first as many iterations as t has states, then as many as b has
    far : ℕ
    far = t.states + b.states

    q2 : ℕ
    q2 = turns f t.states q1

    q2_below : q2 < t.states
    q2_below = turns_below f t.states f_below t.states q1 q1_below

    on_t : Back f q2
    on_t = on_its_loop f t.states f_below q1 q1_below

    p : ℕ
    p = turns f far q1

    p_is : p ≡ walk t q2 (copies b.states w)
    p_is = turns-add f t.states b.states q1 ∙ sym (walk-copies t b.states w q2)

    d : ℕ
    d = turns g far c1

    d_below : d < b.states
    d_below = turns_below g b.states g_below far c1 c1_below

    p_in : In d p
    p_in = turns_go t b keep width In Owing h c1 q1 w far c1_below (run_in t b keep width In Owing h c q u k m)

    on : Back g d
    on = subst (λ x. Back g x) (sym (turns-add g t.states b.states c1))
        (on_its_loop g b.states g_below (turns g t.states c1) (turns_below g b.states g_below t.states c1 c1_below))

    good : (y z : List ℕ) → copies (suc on.less) w ++ copies (suc on.less) w ≡ y ++ z → t.colour (walk t p y) ≡ 1
    good y z e = ap (λ x. t.colour (walk t x y)) p_is ∙ ap t.colour (sym (walk-append t q2 (copies b.states w) y))
        ∙ met_yes t weak q2 l v q2_below on_t a (b.states + (suc on.less + suc on.less)) (copies b.states w ++ y) z
        (copies-add b.states (suc on.less + suc on.less) w ∙ ap (λ x. copies b.states w ++ x) (copies-add (suc on.less) (suc on.less) w ∙ e)
        ∙ sym (append_assoc (copies b.states w) y z))

-- a clear loop under some copies of a word is one under the word
pub clear_fewer : (g : Graph) (q : ℕ) (v : List ℕ) (more less : ℕ) → ClearLoop g (turns (round g v) more q) (copies (suc less) v) → ClearLoop g q v
unfolding turns
clear_fewer g q v more less o =
    record {
      turn = more + o.turn * suc less;
      less = less + o.less * suc less;
      back = ap (λ x. turns f (suc (less + o.less * suc less)) x) at
          ∙ counted (suc o.less) (suc (less + o.less * suc less)) (turns (round g (copies (suc less) v)) o.turn (turns f more q)) (product less o.less) ∙ o.back
          ∙ sym at;
      clear = subst (λ x. Clear g x (copies (suc (less + o.less * suc less)) v)) (sym at)
          (subst (λ w. Clear g (turns (round g (copies (suc less) v)) o.turn (turns f more q)) w) (copies-mul (suc o.less) (suc less) v
          ∙ ap (λ k. copies k v) (sym (product less o.less))) o.clear);
    }
  where
    f : ℕ → ℕ
    f = round g v

    product : (a b : ℕ) → suc (a + b * suc a) ≡ suc b * suc a
    product a b = omega arith

    counted : (n m x : ℕ) → m ≡ n * suc less → turns f m x ≡ turns (round g (copies (suc less) v)) n x
    counted n m x e = ap (λ k. turns f k x) e ∙ sym (walk-copies g (n * suc less) v x) ∙ ap (λ w. walk g x w) (sym (copies-mul n (suc less) v))
        ∙ walk-copies g n (copies (suc less) v) x

    at : turns f (more + o.turn * suc less) q ≡ turns (round g (copies (suc less) v)) o.turn (turns f more q)
    at = turns-add f more (o.turn * suc less) q ∙ counted o.turn (o.turn * suc less) (turns f more q) refl

-- ---- from a clear loop of b to a run of t

-- every letter of the word is below the width
unfoldable pub Narrow : ℕ → List ℕ → Type 0
Narrow width [] = Unit
Narrow width (k ∷ w) = (k < width) × Narrow width w

pub narrow-append : (width : ℕ) (x y : List ℕ) → Narrow width x → Narrow width y → Narrow width (x ++ y)
unfolding Narrow
narrow-append width [] y h k = k
narrow-append width (l ∷ x) y h k = (h.0, narrow-append width x y h.1 k)

pub narrow-copies : (width n : ℕ) (v : List ℕ) → Narrow width v → Narrow width (copies n v)
unfolding Narrow
narrow-copies width zero v h = tt
narrow-copies width (suc n) v h = narrow-append width v (copies n v) h (narrow-copies width n v h)

-- a word of t over the kept word w, from a state of the set to q
pub record Trace (t : Graph) (keep : ℕ → ℕ) (from : ℕ → Type 0) (w : List ℕ) (q : ℕ) : Type 0 where
  pub source : ℕ
  pub word : List ℕ
  pub member : from source
  pub kept : renamed keep word ≡ w
  pub leads : walk t source word ≡ q

more_trace : (t : Graph) (keep : ℕ → ℕ) (from next : ℕ → Type 0) (k : ℕ) (w : List ℕ) (q : ℕ) → (r : Trace t keep next w q) → Came t keep from k r.source
    → Trace t keep from (k ∷ w) q
unfolding renamed walk
more_trace t keep from next k w q r c =
    record {
      source = c.source;
      word = c.letter ∷ r.word;
      member = c.member;
      kept = ap (λ a. a ∷ renamed keep r.word) c.kept
          ∙ ap (λ x. k ∷ x) r.kept;
      leads = ap (λ x. walk t x r.word) c.leads ∙ r.leads;
    }

no_trace : (t : Graph) (keep : ℕ → ℕ) (from : ℕ → Type 0) (q : ℕ) → from q → Trace t keep from [] q
unfolding renamed walk
no_trace t keep from q m = record { source = q; word = []; member = m; kept = refl; leads = refl }

pub trace_in : (t b : Graph) (keep : ℕ → ℕ) (width : ℕ) (In Owing : ℕ → ℕ → Type 0) → Breakpoints t b keep width In Owing → (c : ℕ) (w : List ℕ) (q : ℕ)
    → c < b.states → Narrow width w → In (walk b c w) q → Trace t keep (In c) w q
unfolding walk Narrow
trace_in t b keep width In Owing h c [] q k n m = no_trace t keep (In c) q m
trace_in t b keep width In Owing h c (l ∷ w) q k n m = let r = trace_in t b keep width In Owing h (b.step c l) w q (b.closed c l k) n.1 m in
    more_trace t keep (In c) (In (b.step c l)) l w q r (h.in_from c r.source l k n.0 r.member)

pub trace_owing : (t b : Graph) (keep : ℕ → ℕ) (width : ℕ) (In Owing : ℕ → ℕ → Type 0) → Breakpoints t b keep width In Owing → (c : ℕ) (w : List ℕ) (q : ℕ)
    → c < b.states → Narrow width w → Clear b c w → Owing (walk b c w) q → Trace t keep (Owing c) w q
unfolding walk Narrow Clear
trace_owing t b keep width In Owing h c [] q k n o m = no_trace t keep (Owing c) q m
trace_owing t b keep width In Owing h c (l ∷ w) q k n o m = let r = trace_owing t b keep width In Owing h (b.step c l) w q (b.closed c l k) n.1 o.1 m in
    more_trace t keep (Owing c) (Owing (b.step c l)) l w q r (h.owing_from c r.source l k n.0 o.0 r.member)

-- n rounds of t, each over the kept word v, through owing states at the ends of rounds
pub record Path (t : Graph) (keep : ℕ → ℕ) (v : List ℕ) (at : ℕ → ℕ → Type 0) (n : ℕ) : Type 0 where
  pub place : ℕ → ℕ
  pub word : ℕ → List ℕ
  pub member : (i : ℕ) → i ≤ n → at i (place i)
  pub kept : (i : ℕ) → i < n → renamed keep (word i) ≡ v
  pub leads : (i : ℕ) → i < n → walk t (place i) (word i) ≡ place (suc i)

unfoldable before : {A : Type 0} → A → (ℕ → A) → ℕ → A
before a f zero = a
before a f (suc i) = f i

more_path : (t : Graph) (keep : ℕ → ℕ) (v : List ℕ) (at : ℕ → ℕ → Type 0) (n : ℕ) (p : Path t keep v (λ i. at (suc i)) n)
    → Trace t keep (at 0) v (p.place 0) → Path t keep v at (suc n)
unfolding before
more_path t keep v at n p r = record { place = before r.source p.place; word = before r.word p.word; member = member; kept = kept; leads = leads }
  where
    member : (i : ℕ) → i ≤ suc n → at i (before r.source p.place i)
    member zero h = r.member
    member (suc i) h = p.member i (omega (arith, h))

    kept : (i : ℕ) → i < suc n → renamed keep (before r.word p.word i) ≡ v
    kept zero h = r.kept
    kept (suc i) h = p.kept i (omega (arith, h))

    leads : (i : ℕ) → i < suc n → walk t (before r.source p.place i) (before r.word p.word i) ≡ before r.source p.place (suc i)
    leads zero h = r.leads
    leads (suc i) h = p.leads i (omega (arith, h))

from_next : (t b : Graph) (keep : ℕ → ℕ) (width : ℕ) (In Owing : ℕ → ℕ → Type 0) → Breakpoints t b keep width In Owing → (c : ℕ) (v : List ℕ)
    → Narrow width v → (n : ℕ) → c < b.states → Clear b c v → Path t keep v (λ i. Owing (turns (round b v) i (walk b c v))) n
    → Path t keep v (λ i. Owing (turns (round b v) i c)) (suc n)
unfolding turns
from_next t b keep width In Owing h c v nv n k o p =
    more_path t keep v (λ i. Owing (turns (round b v) i c)) n p (trace_owing t b keep width In Owing h c v (p.place 0) k nv o (p.member 0 (omega arith)))

pub path_of_clear : (t b : Graph) (keep : ℕ → ℕ) (width : ℕ) (In Owing : ℕ → ℕ → Type 0) → Breakpoints t b keep width In Owing → (c : ℕ) (v : List ℕ)
    → Narrow width v → (n q : ℕ) → c < b.states → Clear b c (copies n v) → Owing (turns (round b v) n c) q
    → Path t keep v (λ i. Owing (turns (round b v) i c)) n
unfolding turns
path_of_clear t b keep width In Owing h c v nv zero q k o m =
    record {
      place = λ i. q;
      word = λ i. [];
      member = λ i j. subst (λ i. Owing (turns (round b v) i c) q) (none i j) m;
      kept =
          λ i j. absurd (omega arith);
      leads = λ i j. absurd (omega arith);
    }
  where
    none : (i : ℕ) → i ≤ 0 → 0 ≡ i
    none i j = omega arith
path_of_clear t b keep width In Owing h c v nv (suc n) q k o m = from_next t b keep width In Owing h c v nv n k (clear_front b c v (copies n v) o)
    (path_of_clear t b keep width In Owing h (walk b c v) v nv n q (walk_below b c v k) (clear_rest b c v (copies n v) o) m)

-- the words of rounds i, i+1, .. joined
unfoldable pub joined_words : (ℕ → List ℕ) → ℕ → ℕ → List ℕ
joined_words word i zero = []
joined_words word i (suc n) = word i ++ joined_words word (suc i) n

joined_kept : (t : Graph) (keep : ℕ → ℕ) (v : List ℕ) (at : ℕ → ℕ → Type 0) (m : ℕ) (p : Path t keep v at m) (i n : ℕ) → i + n ≤ m
    → renamed keep (joined_words p.word i n) ≡ copies n v
unfolding joined_words renamed
joined_kept t keep v at m p i zero h = refl
joined_kept t keep v at m p i (suc n) h = renamed-append keep (p.word i) (joined_words p.word (suc i) n)
    ∙ ap (λ x. x ++ renamed keep (joined_words p.word (suc i) n)) (p.kept i (omega (arith, h)))
    ∙ ap (λ x. v ++ x) (joined_kept t keep v at m p (suc i) n (omega (arith, h)))

joined_leads : (t : Graph) (keep : ℕ → ℕ) (v : List ℕ) (at : ℕ → ℕ → Type 0) (m : ℕ) (p : Path t keep v at m) (i n : ℕ) → i + n ≤ m
    → walk t (p.place i) (joined_words p.word i n) ≡ p.place (i + n)
unfolding joined_words walk
joined_leads t keep v at m p i zero h = ap p.place (plus_zero i)
  where
    plus_zero : (i : ℕ) → i ≡ i + zero
    plus_zero i = omega arith
joined_leads t keep v at m p i (suc n) h = walk-append t (p.place i) (p.word i) (joined_words p.word (suc i) n)
    ∙ ap (λ x. walk t x (joined_words p.word (suc i) n)) (p.leads i (omega (arith, h))) ∙ joined_leads t keep v at m p (suc i) n (omega (arith, h))
    ∙ ap p.place (moved i n)
  where
    moved : (i n : ℕ) → suc i + n ≡ i + suc n
    moved i n = omega arith

-- a lasso of t that is accepted, and whose kept letters are those of (u, v), with the cycle unrolled and repeated
pub record Lifted (t : Graph) (keep : ℕ → ℕ) (from : ℕ → Type 0) (u v : List ℕ) : Type 0 where
  pub start : ℕ
  pub member : from start
  pub stem : List ℕ
  pub cycle : List ℕ
  pub more : ℕ
  pub less : ℕ
  pub stem_kept : renamed keep stem ≡ u ++ copies more v
  pub cycle_kept : renamed keep cycle ≡ copies (suc less) v
  pub accepted : accept t start stem cycle ≡ 1

stays_at : (f : ℕ → ℕ) (x n : ℕ) → f x ≡ x → turns f n x ≡ x
unfolding turns
stays_at f x zero e = refl
stays_at f x (suc n) e = ap (λ y. turns f n y) e ∙ stays_at f x n e

accepted_there : (t : Graph) (q x : ℕ) (u v : List ℕ) → walk t q u ≡ x → walk t x v ≡ x → t.colour x ≡ 1 → accept t q u v ≡ 1
unfolding accept
accepted_there t q x u v e f c = ap (λ y. t.colour (turns (round t v) t.states y)) e ∙ ap t.colour (stays_at (round t v) x t.states f) ∙ c

lifted_from : (t : Graph) (keep : ℕ → ℕ) (from : ℕ → Type 0) (u v : List ℕ) (turn m : ℕ) (at : ℕ → ℕ → Type 0) (p : Path t keep v at m)
    → Trace t keep from (u ++ copies turn v) (p.place 0) → (i j : ℕ) → i < j → j ≤ m → p.place i ≡ p.place j → t.colour (p.place i) ≡ 1
    → Lifted t keep from u v
lifted_from t keep from u v turn m at p r i j less small equal colour =
    record {
      start = r.source;
      member = r.member;
      stem = r.word ++ joined_words p.word 0 i;
      cycle = joined_words p.word i (suc (j - suc i));
      more =
          turn + i;
      less = j - suc i;
      stem_kept = renamed-append keep r.word (joined_words p.word 0 i)
          ∙ ap (λ x. x ++ renamed keep (joined_words p.word 0 i)) r.kept
          ∙ ap (λ x. (u ++ copies turn v) ++ x) (joined_kept t keep v at m p 0 i (omega (arith, less, small))) ∙ append_assoc u (copies turn v) (copies i v)
          ∙ ap (λ x. u ++ x) (sym (copies-add turn i v));
      cycle_kept = joined_kept t keep v at m p i (suc (j - suc i)) (omega (arith, less, small));
      accepted =
          accepted_there t r.source (p.place i) (r.word ++ joined_words p.word 0 i) (joined_words p.word i (suc (j - suc i))) to_i around colour;
    }
  where
    zero_plus : (i : ℕ) → 0 + i ≡ i
    zero_plus i = omega arith

    to_i : walk t r.source (r.word ++ joined_words p.word 0 i) ≡ p.place i
    to_i = walk-append t r.source r.word (joined_words p.word 0 i) ∙ ap (λ x. walk t x (joined_words p.word 0 i)) r.leads
        ∙ joined_leads t keep v at m p 0 i (omega (arith, less, small)) ∙ ap p.place (zero_plus i)

    sums : (i j : ℕ) → i < j → i + suc (j - suc i) ≡ j
    sums i j h = omega arith

    around : walk t (p.place i) (joined_words p.word i (suc (j - suc i))) ≡ p.place i
    around = joined_leads t keep v at m p i (suc (j - suc i)) (omega (arith, less, small)) ∙ ap p.place (sums i j less) ∙ sym equal

pub clear_first_copy : (g : Graph) (q l : ℕ) (v : List ℕ) → Clear g q (copies 1 (l ∷ v)) → ¬ (g.colour q ≡ 0)
clear_first_copy g q l v h = clear_first g q l (v ++ []) h

pub run_of_clear : (t b : Graph) (keep : ℕ → ℕ) (width : ℕ) (In Owing : ℕ → ℕ → Type 0) → Breakpoints t b keep width In Owing
    → (c : ℕ) (u : List ℕ) (l : ℕ) (v : List ℕ) → c < b.states → Narrow width u → Narrow width (l ∷ v) → ClearLoop b (walk b c u) (l ∷ v)
    → Lifted t keep (In c) u (l ∷ v)
unfolding turns
run_of_clear t b keep width In Owing h c u l v k nu nv o =
    found (pigeonhole t.states path.place
    (λ i j. h.in_range (turns f i d) (path.place i) (there_below i) (h.owing_in (turns f i d) (path.place i) (there_below i) (path.member i j))))
  where
    w : List ℕ
    w = l ∷ v

    f : ℕ → ℕ
    f = round b w

    f_below : (x : ℕ) → x < b.states → f x < b.states
    f_below x j = walk_below b x w j

    c1 : ℕ
    c1 = walk b c u

    d : ℕ
    d = turns f o.turn c1

    d_below : d < b.states
    d_below = turns_below f b.states f_below o.turn c1 (walk_below b c u k)

    there_below : (i : ℕ) → turns f i d < b.states
    there_below i = turns_below f b.states f_below i d d_below

    -- the end of the path: some owing state after as many iterations as t has states
    e : ℕ
    e = turns f t.states d

    clear_more : Clear b d (copies t.states w ++ copies 1 w)
    clear_more = subst (λ x. Clear b d x) (copies-add t.states 1 w) (clear_ever b c1 w o (t.states + 1))

    e_clear : ¬ (b.colour e ≡ 0)
    e_clear = subst (λ x. ¬ (b.colour x ≡ 0)) (walk-copies b t.states w d)
        (clear_first_copy b (walk b d (copies t.states w)) l v (clear_rest b d (copies t.states w) (copies 1 w) clear_more))

    last : (q : ℕ) × Owing e q
    last = h.unmarked e (there_below t.states) e_clear

    path : Path t keep w (λ i. Owing (turns f i d)) t.states
    path = path_of_clear t b keep width In Owing h d w nv t.states last.0 d_below (clear_front b d (copies t.states w) (copies 1 w) clear_more) last.1

    d_word : walk b c (u ++ copies o.turn w) ≡ d
    d_word = walk-append b c u (copies o.turn w) ∙ walk-copies b o.turn w c1

    to_path : Trace t keep (In c) (u ++ copies o.turn w) (path.place 0)
    to_path = trace_in t b keep width In Owing h c (u ++ copies o.turn w) (path.place 0) k
        (narrow-append width u (copies o.turn w) nu (narrow-copies width o.turn w nv))
        (subst (λ x. In x (path.place 0)) (sym d_word) (h.owing_in d (path.place 0) d_below (path.member 0 (omega arith))))

    found : Twice t.states path.place → Lifted t keep (In c) u w
    found s = lifted_from t keep (In c) u w o.turn t.states (λ i. Owing (turns f i d)) path to_path s.first s.second s.before s.bounded s.equal
        (h.owing_yes (turns f s.first d) (path.place s.first) (there_below s.first) (path.member s.first (omega (arith, s.before, s.bounded))))

no_empty : (keep : ℕ → ℕ) (n l : ℕ) (v : List ℕ) → renamed keep [] ≡ copies (suc n) (l ∷ v) → ⊥
unfolding renamed
no_empty keep n l v e = cc

-- ---- the two directions together: a lasso of kept letters has a clear loop exactly if some lasso over it is accepted
pub clear_of_lifted : (t b : Graph) (keep : ℕ → ℕ) (width : ℕ) (In Owing : ℕ → ℕ → Type 0) → IsWeak t → Breakpoints t b keep width In Owing
    → (c : ℕ) (u : List ℕ) (l : ℕ) (v : List ℕ) → c < b.states → Lifted t keep (In c) u (l ∷ v) → ClearLoop b (walk b c u) (l ∷ v)
clear_of_lifted t b keep width In Owing weak h c u l v k r =
    clear_fewer b (walk b c u) (l ∷ v) r.more r.less
    (subst (λ x. ClearLoop b x (copies (suc r.less) (l ∷ v))) at_more
    (subst (λ w. ClearLoop b (walk b c (u ++ copies r.more (l ∷ v))) w) r.cycle_kept (from_cycle r.cycle r.cycle_kept r.accepted)))
  where
    at_more : walk b c (u ++ copies r.more (l ∷ v)) ≡ turns (round b (l ∷ v)) r.more (walk b c u)
    at_more = walk-append b c u (copies r.more (l ∷ v)) ∙ walk-copies b r.more (l ∷ v) (walk b c u)

    from_cycle : (w : List ℕ) → renamed keep w ≡ copies (suc r.less) (l ∷ v) → accept t r.start r.stem w ≡ 1
        → ClearLoop b (walk b c (u ++ copies r.more (l ∷ v))) (renamed keep w)
    from_cycle [] e a = absurd (no_empty keep r.less l v e)
    from_cycle (n ∷ w) e a = subst (λ x. ClearLoop b (walk b c x) (renamed keep (n ∷ w))) r.stem_kept
        (clear_of_run t b keep width In Owing weak h c r.start r.stem n w k r.member a)
