-- One after the other, by what is kept of the trees.
use Rattle.std.proofs.Common.{◌≡◌, ℕ, ◌+◌, ◌-◌, ◌≤◌, List, length, arith, refl, ◌∙◌, sym, ap, Result, Ok, Err, Bool, true, false}
use Rattle.parser_laws.specs.Parsing.{Halt, Res, done, halt, Either, first, other, Pair, pick, starts_with, choice, res_map, shift, pair_with, then_second}
use Rattle.parser_laws.proofs.Good.{not_halt, not_done, same_value, same_rest, same_cause, same_place}
use Rattle.script_tokens.specs.Tokens.{PlacedToken}
use Rattle.script_syntax.specs.Reading.{Agrees, IsMade, cause}
use Rattle.script_syntax.specs.declared.cursor.Stop.{Stop}

pub map_twice : {T A B C : Type 0} (f : A → B) (g : B → C) (r : Res T A) → res_map g (res_map f r) ≡ res_map (λ a. g (f a)) r
map_twice f g (done a w) = refl
map_twice f g (halt h k) = refl

pair_read : {T A B C : Type 0} (a : A) (F : Pair A B → C) (k : ℕ) (r : Res T B) → res_map F (pair_with a (shift k r)) ≡ shift k (res_map (λ b. F (record { left = a; right = b })) r)
pair_read a F k (done b w) = refl
pair_read a F k (halt h j) = refl

-- the first one is read
pub seq_read : {T A B D C : Type 0} (keep : A → D) (join : D → B → C) (n : ℕ) (q : List T → Res T B) (r : Res T A) (d : D) (w : List T) → res_map keep r ≡ done d w → res_map (λ ab. join (keep ab.left) ab.right) (then_second n q r) ≡ shift (n - length w) (res_map (join d) (q w))
seq_read keep join n q (done a v) d w e = pair_read a (λ ab. join (keep ab.left) ab.right) (n - length v) (q v) ∙ ap (λ u. shift (n - length u) (res_map (join (keep a)) (q u))) (same_rest (keep a) d v w e) ∙ ap (λ d. shift (n - length w) (res_map (join d) (q w))) (same_value (keep a) d v w e)
seq_read keep join n q (halt h k) d w e = absurd (not_done d w h k e)

-- the first one stops
pub seq_halts : {T A B D C : Type 0} (keep : A → D) (F : Pair A B → C) (n : ℕ) (q : List T → Res T B) (r : Res T A) (h : Halt) (k : ℕ) → res_map keep r ≡ halt h k → res_map F (then_second n q r) ≡ halt h k
seq_halts {D = D} keep F n q (done a v) h k e = absurd (not_halt (keep a) v h k e)
seq_halts {D = D} keep F n q (halt g j) h k e = ap (λ c. halt c j) (same_cause {A = D} g h j k e) ∙ ap (λ i. halt h i) (same_place {A = D} g h j k e)

-- the answer of the rest is that of the whole
pub agrees_on : {A B : Type 0} (shape : B → A) (r s : Res PlacedToken A) (result : Result B Stop) (before middle after : List PlacedToken) → r ≡ shift (length before - length middle) s → length middle ≤ length before → length after ≤ length middle → Agrees shape s result middle after → Agrees shape r result before after
agrees_on shape r s (Ok b) before middle after e l m h = e ∙ ap (shift (length before - length middle)) h
agrees_on shape r s (Err x) before middle after e l m h = λ n. e ∙ ap (shift (length before - length middle)) (h n) ∙ ap (λ k. halt (cause x) k) (sum_of (length before) (length middle) (length after) l m)
  where
    sum_of : (a b c : ℕ) → b ≤ a → c ≤ b → (a - b) + (b - c) ≡ a - c
    sum_of a b c l m = omega (arith, l, m)

-- an alternative that begins with the token in hand
pub taken : {T A B C : Type 0} (starts : T → Bool) (p : List T → Res T A) (q : List T → Res T B) (F : Either A B → C) (ts : List T) → starts_with starts ts ≡ true → res_map F (choice starts p q ts) ≡ res_map (λ a. F (first a)) (p ts)
taken starts p q F ts e = ap (λ b. res_map F (pick b (res_map first (p ts)) (res_map other (q ts)))) e ∙ map_twice first F (p ts)

pub left_out : {T A B C : Type 0} (starts : T → Bool) (p : List T → Res T A) (q : List T → Res T B) (F : Either A B → C) (ts : List T) → starts_with starts ts ≡ false → res_map F (choice starts p q ts) ≡ res_map (λ b. F (other b)) (q ts)
left_out starts p q F ts e = ap (λ b. res_map F (pick b (res_map first (p ts)) (res_map other (q ts)))) e ∙ map_twice other F (q ts)

-- the same answer of an equal parser
pub agrees_same : {A B : Type 0} (shape : B → A) (r s : Res PlacedToken A) (result : Result B Stop) (before after : List PlacedToken) → r ≡ s → Agrees shape s result before after → Agrees shape r result before after
agrees_same shape r s (Ok b) before after e h = e ∙ h
agrees_same shape r s (Err x) before after e h = λ n. e ∙ h n

pub mapped_done : {T X Y C : Type 0} (f : X → Y) (g : Y → C) (r : Res T X) (y : Y) (w : List T) → res_map f r ≡ done y w → res_map (λ x. g (f x)) r ≡ done (g y) w
mapped_done f g r y w e = sym (map_twice f g r) ∙ ap (res_map g) e

pub mapped_halt : {T X Y C : Type 0} (f : X → Y) (g : Y → C) (r : Res T X) (h : Halt) (k : ℕ) → res_map f r ≡ halt h k → res_map (λ x. g (f x)) r ≡ halt h k
mapped_halt f g r h k e = sym (map_twice f g r) ∙ ap (res_map g) e

-- both are read
pub seq_ok : {T A B D C : Type 0} (keep : A → D) (join : D → B → C) (n : ℕ) (q : List T → Res T B) (r : Res T A) (d : D) (w : List T) (c : C) (after : List T) → res_map keep r ≡ done d w → res_map (join d) (q w) ≡ done c after → res_map (λ ab. join (keep ab.left) ab.right) (then_second n q r) ≡ done c after
seq_ok keep join n q r d w c after e f = seq_read keep join n q r d w e ∙ ap (shift (n - length w)) f

-- the second one stops
pub seq_err : {T A B D C : Type 0} (keep : A → D) (join : D → B → C) (n : ℕ) (q : List T → Res T B) (r : Res T A) (d : D) (w : List T) (h : Halt) (after : List T) → res_map keep r ≡ done d w → length w ≤ n → length after ≤ length w → res_map (join d) (q w) ≡ halt h (length w - length after) → res_map (λ ab. join (keep ab.left) ab.right) (then_second n q r) ≡ halt h (n - length after)
seq_err {T = T} keep join n q r d w h after e l m f = seq_read keep join n q r d w e ∙ ap (shift (n - length w)) f ∙ ap (λ k. halt h k) (sum_of n (length w) (length after) l m)
  where
    sum_of : (a b c : ℕ) → b ≤ a → c ≤ b → (a - b) + (b - c) ≡ a - c
    sum_of a b c l m = omega (arith, l, m)

-- a tree is made of what was read, unless memory is wanting
pub made : {A B : Type 0} (shape : B → A) (r : Res PlacedToken A) (a : A) (result : Result B Stop) (before after : List PlacedToken) → IsMade shape a result → r ≡ done a after → Agrees shape r result before after
made shape r a (Ok b) before after m e = e ∙ ap (λ a. done a after) (sym m)
made shape r a (Err x) before after m e = λ n. absurd (n m)
