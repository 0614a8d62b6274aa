-- Loops over lists of items, each behind a token that begins it: what is still to be read, joined to what was read.
use Rattle.std.proofs.Common.{◌≡◌, ℕ, zero, suc, ◌+◌, ◌-◌, ◌≤◌, ◌<◌, List, ◌∷◌, length, arith, refl, ◌∙◌, ap, Option, Some}
use Rattle.std.specs.Prelude.{false}
use Rattle.parser_laws.specs.Parsing.{Halt, Res, done, halt, first, other, Pair, pick, starts_with, res_map, shift, pair_with, then_second, list_of, none, seq, one, one_of, many, seen, seen_in}
use Rattle.parser_laws.proofs.Good.{not_halt, not_done, same_value, same_rest, same_cause, same_place}
use Rattle.script_syntax.specs.Reading.{folded, rest_of}

pub shift_twice : {T S : Type 0} (a b : ℕ) (r : Res T S) → shift a (shift b r) ≡ shift (a + b) r
shift_twice a b (done s v) = refl
shift_twice a b (halt h k) = ap (λ i. halt h i) (omega arith)

pub shift_none : {T S : Type 0} (r : Res T S) → r ≡ shift 0 r
shift_none (done s v) = refl
shift_none (halt h k) = ap (λ i. halt h i) (omega arith)

module _ {T V X B S : Type 0} (view : T → Option V) (q : List T → Res T X) (shape : X → B) (join : S → V → B → S) where
  Item : Type 0
  Item = Pair V X

  add : S → Pair V X → S
  add s a = join s a.left (shape a.right)

  -- the list as it is still to be read
  abbrev pub unread : ℕ → S → List T → Res T S
  unread n s ts = rest_of (seen view) (seq (one view) q) (λ s a. join s a.left (shape a.right)) n s ts

  first_read : (n k : ℕ) (v : V) (x : X) (s : S) (r : Res T (List (Pair V X))) → res_map (folded (λ s a. join s a.left (shape a.right)) s) (res_map list_of (res_map first (pair_with (record { left = v; right = x }) (shift k r)))) ≡ shift k (res_map (folded (λ s a. join s a.left (shape a.right)) (join s v (shape x))) r)
  first_read n k v x s (done l u) = refl
  first_read n k v x s (halt h j) = refl

  -- one item more
  item_read : (m l k : ℕ) (v : V) (s : S) (b : B) (next : List T) (r : Res T X) → res_map shape r ≡ done b next → res_map (folded (λ s a. join s a.left (shape a.right)) s) (res_map list_of (res_map first (then_second l (many (seen view) (seq (one view) q) m) (pair_with v (shift k r))))) ≡ shift (l - length next) (unread m (join s v b) next)
  item_read m l k v s b next (done x w) e = first_read m (l - length w) v x s (many (seen view) (seq (one view) q) m w) ∙ ap (λ u. shift (l - length u) (unread m (join s v (shape x)) u)) (same_rest (shape x) b w next e) ∙ ap (λ i. shift (l - length next) (unread m (join s v i) next)) (same_value (shape x) b w next e)
  item_read m l k v s b next (halt h j) e = absurd (not_done b next h j e)

  item_halts : (m l k : ℕ) (v : V) (s : S) (h : Halt) (j : ℕ) (r : Res T X) → res_map shape r ≡ halt h j → res_map (folded (λ s a. join s a.left (shape a.right)) s) (res_map list_of (res_map first (then_second l (many (seen view) (seq (one view) q) m) (pair_with v (shift k r))))) ≡ halt h (k + j)
  item_halts m l k v s h j (done x w) e = absurd (not_halt (shape x) w h j e)
  item_halts m l k v s h j (halt g i) e = ap (λ c. halt c (k + i)) (same_cause {A = B} g h i j e) ∙ ap (λ i. halt h (k + i)) (same_place {A = B} g h i j e)

  in_hand : (m : ℕ) (s : S) (t : T) (w : List T) (v : V) → view t ≡ Some v → unread (suc m) s (t ∷ w) ≡ res_map (folded (λ s a. join s a.left (shape a.right)) s) (res_map list_of (res_map first (then_second (length (t ∷ w)) (many (seen view) (seq (one view) q) m) (pair_with v (shift (length (t ∷ w) - length w) (q w))))))
  in_hand m s t w v e = ap (λ o. res_map (folded (λ s a. join s a.left (shape a.right)) s) (res_map list_of (pick (seen_in o) (res_map first (then_second (length (t ∷ w)) (many (seen view) (seq (one view) q) m) (then_second (length (t ∷ w)) q (one_of o w)))) (res_map other (none (t ∷ w)))))) e

  pub goes_on : (n : ℕ) (s : S) (t : T) (w next : List T) (v : V) (b : B) → 0 < n → view t ≡ Some v → res_map shape (q w) ≡ done b next → unread n s (t ∷ w) ≡ shift (length (t ∷ w) - length next) (unread (n - 1) (join s v b) next)
  goes_on n s t w next v b h e f = ap (λ n. unread n s (t ∷ w)) (back n h) ∙ in_hand (n - 1) s t w v e ∙ item_read (n - 1) (length (t ∷ w)) (length (t ∷ w) - length w) v s b next (q w) f
    where
      back : (n : ℕ) → 0 < n → n ≡ suc (n - 1)
      back n h = omega arith

  pub halts : (n : ℕ) (s : S) (t : T) (w : List T) (v : V) (h : Halt) (k : ℕ) → 0 < n → view t ≡ Some v → res_map shape (q w) ≡ halt h k → unread n s (t ∷ w) ≡ halt h (1 + k)
  halts n s t w v h k l e f = ap (λ n. unread n s (t ∷ w)) (back n l) ∙ in_hand (n - 1) s t w v e ∙ item_halts (n - 1) (length (t ∷ w)) (length (t ∷ w) - length w) v s h k (q w) f ∙ ap (λ i. halt h i) (ahead t w k)
    where
      back : (n : ℕ) → 0 < n → n ≡ suc (n - 1)
      back n h = omega arith

      ahead : (t : T) (w : List T) (k : ℕ) → (length (t ∷ w) - length w) + k ≡ 1 + k
      ahead t w k = omega arith

  pub ends : (n : ℕ) (s : S) (ts : List T) → starts_with (seen view) ts ≡ false → unread n s ts ≡ done s ts
  ends zero s ts e = refl
  ends (suc n) s ts e = ap (λ c. res_map (folded (λ s a. join s a.left (shape a.right)) s) (res_map list_of (pick c (res_map first (then_second (length ts) (many (seen view) (seq (one view) q) n) (seq (one view) q ts))) (res_map other (none ts))))) e

  -- what a loop keeps: from its start on there is still to be read what is left
  pub record Kept (start now : List T) (s0 s : S) (n : ℕ) : Type 0 where
    pub fuel : length now ≤ n
    pub within : length now ≤ length start
    pub same : unread (length start) s0 start ≡ shift (length start - length now) (unread n s now)

  pub kept_start : (start : List T) (s0 : S) → Kept start start s0 s0 (length start)
  kept_start start s0 = record { fuel = omega arith; within = omega arith; same = shift_none (unread (length start) s0 start) ∙ ap (λ k. shift k (unread (length start) s0 start)) (none_left (length start)) }
    where
      none_left : (n : ℕ) → 0 ≡ n - n
      none_left n = omega arith

  pub kept_more : (start now w next : List T) (s0 s : S) (n : ℕ) (t : T) (v : V) (b : B) → Kept start now s0 s n → now ≡ t ∷ w → view t ≡ Some v → res_map shape (q w) ≡ done b next → length next ≤ length w → Kept start next s0 (join s v b) (n - 1)
  kept_more start now w next s0 s n t v b i e f g l = record { fuel = omega (arith, i.fuel, ap length e, l); within = omega (arith, i.within, ap length e, l); same = i.same ∙ ap (λ u. shift (length start - length u) (unread n s u)) e ∙ ap (shift (length start - length (t ∷ w))) (goes_on n s t w next v b (omega (arith, i.fuel, ap length e)) f g) ∙ shift_twice (length start - length (t ∷ w)) (length (t ∷ w) - length next) (unread (n - 1) (join s v b) next) ∙ ap (λ k. shift k (unread (n - 1) (join s v b) next)) (sum_of (length start) (length (t ∷ w)) (length next) (omega (arith, i.within, ap length e)) (omega (arith, l))) }
    where
      sum_of : (a b c : ℕ) → b ≤ a → c ≤ b → (a - b) + (b - c) ≡ a - c
      sum_of a b c l m = omega (arith, l, m)

  pub kept_ends : (start now : List T) (s0 s : S) (n : ℕ) → Kept start now s0 s n → starts_with (seen view) now ≡ false → unread (length start) s0 start ≡ done s now
  kept_ends start now s0 s n i e = i.same ∙ ap (shift (length start - length now)) (ends n s now e)

  pub kept_halts : (start now w after : List T) (s0 s : S) (n : ℕ) (t : T) (v : V) (h : Halt) → Kept start now s0 s n → now ≡ t ∷ w → view t ≡ Some v → res_map shape (q w) ≡ halt h (length w - length after) → length after ≤ length w → unread (length start) s0 start ≡ halt h (length start - length after)
  kept_halts start now w after s0 s n t v h i e f g l = i.same ∙ ap (λ u. shift (length start - length u) (unread n s u)) e ∙ ap (shift (length start - length (t ∷ w))) (halts n s t w v h (length w - length after) (omega (arith, i.fuel, ap length e)) f g) ∙ ap (λ k. halt h k) (omega (arith, i.within, ap length e, l))
