-- Marked graphs: a state of colour 0 is marked; marked acceptance is a loop that meets no mark.
use Rattle.std.proofs.Common.{◌≡◌, ℕ, zero, suc, ◌+◌, ◌*◌, ◌-◌, ◌≤◌, ◌<◌, List, [], ◌∷◌, ◌++◌, arith, refl, ◌∙◌, sym, ap, subst, append_assoc}
use Rattle.graph_laws.specs.Walks.{copies}
use Rattle.part_laws.proofs.Turning.{turns, turns-add, rounds, BackSoon, back_soon}
use Rattle.breakpoint_laws.proofs.Graphs.{Graph, walk, walk_below, walk-copies, round}

-- no marked state (colour 0) is met while the word is read; the state at its end is left out
unfoldable pub Clear : Graph → ℕ → List ℕ → Type 0
Clear g q [] = Unit
Clear g q (l ∷ w) = (¬ (g.colour q ≡ 0)) × Clear g (g.step q l) w

pub clear-append : (g : Graph) (q : ℕ) (x y : List ℕ) → Clear g q x → Clear g (walk g q x) y → Clear g q (x ++ y)
unfolding Clear walk
clear-append g q [] y h k = k
clear-append g q (l ∷ x) y h k = (h.0, clear-append g (g.step q l) x y h.1 k)

pub clear_front : (g : Graph) (q : ℕ) (x y : List ℕ) → Clear g q (x ++ y) → Clear g q x
unfolding Clear
clear_front g q [] y h = tt
clear_front g q (l ∷ x) y h = (h.0, clear_front g (g.step q l) x y h.1)

pub clear_rest : (g : Graph) (q : ℕ) (x y : List ℕ) → Clear g q (x ++ y) → Clear g (walk g q x) y
unfolding Clear walk
clear_rest g q [] y h = h
clear_rest g q (l ∷ x) y h = clear_rest g (g.step q l) x y h.1

pub clear_first : (g : Graph) (q l : ℕ) (w : List ℕ) → Clear g q (l ∷ w) → ¬ (g.colour q ≡ 0)
unfolding Clear
clear_first g q l w h = h.0

-- it is enough to look at every place of the word
pub clear_by_places : (g : Graph) (q : ℕ) (w : List ℕ) → ((x : List ℕ) (l : ℕ) (y : List ℕ) → w ≡ x ++ (l ∷ y) → ¬ (g.colour (walk g q x) ≡ 0)) → Clear g q w
unfolding Clear walk
clear_by_places g q [] h = tt
clear_by_places g q (l ∷ w) h = (h [] l w refl, clear_by_places g (g.step q l) w (λ x m y e. h (l ∷ x) m y (ap (λ z. l ∷ z) e)))

pub copies-add : (i j : ℕ) (v : List ℕ) → copies (i + j) v ≡ copies i v ++ copies j v
copies-add zero j v = ap (λ k. copies k v) (zero_plus j)
  where
    zero_plus : (j : ℕ) → zero + j ≡ j
    zero_plus j = omega arith
copies-add (suc i) j v = ap (λ k. copies k v) (suc_plus i j) ∙ ap (λ w. v ++ w) (copies-add i j v) ∙ sym (append_assoc v (copies i v) (copies j v))
  where
    suc_plus : (i j : ℕ) → suc i + j ≡ suc (i + j)
    suc_plus i j = omega arith

-- copies of copies
pub copies-mul : (i j : ℕ) (v : List ℕ) → copies i (copies j v) ≡ copies (i * j) v
copies-mul zero j v = ap (λ k. copies k v) (zero_times j)
  where
    zero_times : (j : ℕ) → 0 ≡ zero * j
    zero_times j = omega arith
copies-mul (suc i) j v = ap (λ w. copies j v ++ w) (copies-mul i j v) ∙ sym (copies-add j (i * j) v) ∙ ap (λ k. copies k v) (suc_times i j)
  where
    suc_times : (i j : ℕ) → j + i * j ≡ suc i * j
    suc_times i j = omega arith

-- a loop with no marked state, after some iterations
pub record ClearLoop (g : Graph) (q : ℕ) (v : List ℕ) : Type 0 where
  pub turn : ℕ
  pub less : ℕ
  pub back : turns (round g v) (suc less) (turns (round g v) turn q) ≡ turns (round g v) turn q
  pub clear : Clear g (turns (round g v) turn q) (copies (suc less) v)

clear_rounds : (g : Graph) (q p : ℕ) (v : List ℕ) → turns (round g v) p q ≡ q → Clear g q (copies p v) → (n : ℕ) → Clear g q (copies n (copies p v))
unfolding Clear
clear_rounds g q p v b h zero = tt
clear_rounds g q p v b h (suc n) =
    clear-append g q (copies p v) (copies n (copies p v)) h
    (subst (λ x. Clear g x (copies n (copies p v))) (sym (walk-copies g p v q ∙ b)) (clear_rounds g q p v b h n))

-- such a loop is clear for ever
pub clear_ever : (g : Graph) (q : ℕ) (v : List ℕ) (o : ClearLoop g q v) (n : ℕ) → Clear g (turns (round g v) o.turn q) (copies n v)
clear_ever g q v o n = clear_front g y (copies n v) (copies (n * o.less) v)
    (subst (λ w. Clear g y w) (copies-mul n (suc o.less) v ∙ ap (λ k. copies k v) (apart n o.less) ∙ copies-add n (n * o.less) v)
    (clear_rounds g y (suc o.less) v o.back o.clear n))
  where
    y : ℕ
    y = turns (round g v) o.turn q

    apart : (n p : ℕ) → n * suc p ≡ n + n * p
    apart n p = omega arith

-- acceptance of a marked table: after as many iterations as there are states, that many iterations more meet no mark
unfoldable pub MarkedAccept : Graph → ℕ → List ℕ → List ℕ → Type 0
MarkedAccept g q u v = Clear g (turns (round g v) g.states (walk g q u)) (copies g.states v)

same_count : (f : ℕ → ℕ) (i j q : ℕ) → i ≡ j → turns f i q ≡ turns f j q
same_count f i j q e = ap (λ k. turns f k q) e

-- marked acceptance is a clear loop
pub loop_of_accept : (g : Graph) (q : ℕ) (u v : List ℕ) → q < g.states → MarkedAccept g q u v → ClearLoop g (walk g q u) v
unfolding MarkedAccept
loop_of_accept g q u v h a = let b = back_soon (round g v) g.states (λ x k. walk_below g x v k) (walk g q u) (walk_below g q u h) in
    record {
      turn = g.states;
      less = b.less;
      back = b.back;
      clear = clear_front g (turns (round g v) g.states (walk g q u)) (copies (suc b.less) v)
          (copies (g.states - suc b.less) v)
          (subst (λ w. Clear g (turns (round g v) g.states (walk g q u)) w) (ap (λ k. copies k v) (parted g.states (suc b.less) b.bounded)
          ∙ copies-add (suc b.less) (g.states - suc b.less) v) a);
    }
  where
    parted : (m p : ℕ) → p ≤ m → m ≡ p + (m - p)
    parted m p h = omega arith

-- with a clear loop, no mark is met from that state on for any number of iterations
pub clear_of_loop : (g : Graph) (q : ℕ) (u v : List ℕ) → q < g.states → ClearLoop g (walk g q u) v → (n : ℕ)
    → Clear g (turns (round g v) g.states (walk g q u)) (copies n v)
clear_of_loop g q u v h o n = subst (λ x. Clear g x (copies n v)) there
    (clear_rest g y (copies away v) (copies n v) (subst (λ w. Clear g y w) (copies-add away n v) (clear_ever g q1 v o (away + n))))
  where
    q1 : ℕ
    q1 = walk g q u

    f : ℕ → ℕ
    f = round g v

    y : ℕ
    y = turns f o.turn q1

    x : ℕ
    x = turns f g.states q1

    b : BackSoon f g.states x
    b = back_soon f g.states (λ x k. walk_below g x v k) q1 (walk_below g q u h)

    far : ℕ
    far = o.turn * suc b.less

    away : ℕ
    away = g.states + far - o.turn

    enough : (m i p : ℕ) → i + (m + i * suc p - i) ≡ m + i * suc p
    enough m i p = omega arith

    there : walk g y (copies away v) ≡ x
    there = walk-copies g away v y ∙ sym (turns-add f o.turn away q1) ∙ same_count f _ _ q1 (enough g.states o.turn b.less) ∙ turns-add f g.states far q1
        ∙ rounds f x (record { less = b.less; back = b.back }) o.turn

pub accept_of_loop : (g : Graph) (q : ℕ) (u v : List ℕ) → q < g.states → ClearLoop g (walk g q u) v → MarkedAccept g q u v
unfolding MarkedAccept
accept_of_loop g q u v h o = clear_of_loop g q u v h o g.states

one_copy : (g : Graph) (q l : ℕ) (v : List ℕ) → Clear g q (copies 1 (l ∷ v)) → ¬ (g.colour q ≡ 0)
one_copy g q l v c = clear_first g q l (v ++ []) c

-- so the state at the end of those iterations may be counted among the met ones or not
pub end_clear : (g : Graph) (q : ℕ) (u : List ℕ) (l : ℕ) (v : List ℕ) → q < g.states → MarkedAccept g q u (l ∷ v)
    → ¬ (g.colour (walk g (turns (round g (l ∷ v)) g.states (walk g q u)) (copies g.states (l ∷ v))) ≡ 0)
end_clear g q u l v h a = one_copy g (walk g x (copies g.states (l ∷ v))) l v
    (clear_rest g x (copies g.states (l ∷ v)) (copies 1 (l ∷ v))
    (subst (λ w. Clear g x w) (copies-add g.states 1 (l ∷ v)) (clear_of_loop g q u (l ∷ v) h (loop_of_accept g q u (l ∷ v) h a) (g.states + 1))))
  where
    x : ℕ
    x = turns (round g (l ∷ v)) g.states (walk g q u)
