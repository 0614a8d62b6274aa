-- The first statement of bytes, and the cut of all of them.
use Rattle.std.proofs.Common.{◌≡◌, ℕ, zero, suc, ◌+◌, ◌<◌, ◌≤◌, Bool, true, false, not, ◌&&◌, ◌==◌, List, [], ◌∷◌, ◌++◌, length, take, drop, refl, ap, ◌∙◌, arith, Option, Some, None}
use Rattle.std.specs.Prelude.{if◌then◌else◌}
use Rattle.std.specs.Option.{option_map}
use Rattle.std.proofs.lemmas.List.{length-append, length-drop}
use Rattle.script_pieces.specs.Cuts.{commented, statement_length, piece_length, Cut, cut_behind, cut_at_most, cut}

abbrev pub next : Bool → Option ℕ → Option ℕ
next ends o = if ends then Some 1 else option_map (λ n. n + 1) o

next_stable : (ends : Bool) (o p : Option ℕ) (n : ℕ) → ((m : ℕ) → o ≡ Some m → p ≡ Some m) → next ends o ≡ Some n → next ends p ≡ Some n
next_stable true o p n k h = h
next_stable false None p n k h = absurd (cc)
next_stable false (Some m) p n k h = ap (λ q. option_map (λ i. i + 1) q) (k m refl) ∙ h

pub stable : (c : Bool) (x y : List ℕ) (n : ℕ) → statement_length c x ≡ Some n → statement_length c (x ++ y) ≡ Some n
stable c [] y n h = absurd (cc)
stable c (b ∷ bs) y n h = next_stable (not c && (b == 59)) (statement_length (commented c b) bs) (statement_length (commented c b) (bs ++ y)) n (λ m. stable (commented c b) bs y m) h

next_within : (ends : Bool) (o : Option ℕ) (n len : ℕ) → ((m : ℕ) → o ≡ Some m → (0 < m) × (m ≤ len)) → next ends o ≡ Some n → (0 < n) × (n ≤ suc len)
next_within true o n len k h = let e : 1 ≡ n = cc in (omega arith, omega arith)
next_within false None n len k h = absurd (cc)
next_within false (Some m) n len k h = let e : m + 1 ≡ n = cc in let w = k m refl in (omega arith, omega arith)

pub within : (c : Bool) (x : List ℕ) (n : ℕ) → statement_length c x ≡ Some n → (0 < n) × (n ≤ length x)
within c [] n h = absurd (cc)
within c (b ∷ bs) n h = next_within (not c && (b == 59)) (statement_length (commented c b) bs) n (length bs) (λ m. within (commented c b) bs m) h

next_later : (ends : Bool) (o p : Option ℕ) (n len : ℕ) → ((m : ℕ) → o ≡ None → p ≡ Some m → len < m) → next ends o ≡ None → next ends p ≡ Some n → suc len < n
next_later true o p n len k h g = absurd (cc)
next_later false (Some i) p n len k h g = absurd (cc)
next_later false None None n len k h g = absurd (cc)
next_later false None (Some m) n len k h g = let e : m + 1 ≡ n = cc in let w = k m refl refl in omega arith

pub later : (c : Bool) (x y : List ℕ) (n : ℕ) → statement_length c x ≡ None → statement_length c (x ++ y) ≡ Some n → length x < n
later c [] y n h g = (within c y n g).0
later c (b ∷ bs) y n h g = next_later (not c && (b == 59)) (statement_length (commented c b) bs) (statement_length (commented c b) (bs ++ y)) n (length bs) (λ m. later (commented c b) bs y m) h g

-- a piece is no shorter where more bytes are ahead
pub piece_more : (x y : List ℕ) → piece_length x ≤ piece_length (x ++ y)
piece_more x y = by (statement_length false x) (statement_length false (x ++ y)) refl refl
  where
    by : (o p : Option ℕ) → statement_length false x ≡ o → statement_length false (x ++ y) ≡ p → piece_length x ≤ piece_length (x ++ y)
    by (Some n) p e f = rw (e, stable false x y n e) (omega arith)
    by None (Some m) e f = let l = later false x y m e f in rw (e, f) (omega arith)
    by None None e f = rw (e, f) (omega (arith, length-append x y))

-- so many statements as there are bytes are enough
pub enough : (j k : ℕ) (x : List ℕ) → length x ≤ j → length x ≤ k → cut_at_most j x ≡ cut_at_most k x
enough zero zero x h g = refl
enough zero (suc k) [] h g = refl
enough zero (suc k) (b ∷ bs) h g = absurd (omega arith)
enough (suc j) zero [] h g = refl
enough (suc j) zero (b ∷ bs) h g = absurd (omega arith)
enough (suc j) (suc k) x h g = by (statement_length false x) refl (λ n e. enough j k (drop n x) (omega (arith, length-drop n x, (within false x n e).0, h)) (omega (arith, length-drop n x, (within false x n e).0, g)))
  where
    by : (o : Option ℕ) → statement_length false x ≡ o → ((n : ℕ) → statement_length false x ≡ Some n → cut_at_most j (drop n x) ≡ cut_at_most k (drop n x))
        → cut_behind (cut_at_most j) o x ≡ cut_behind (cut_at_most k) o x
    by None e rec = refl
    by (Some n) e rec = ap (λ (r : Cut). record { statements = take n x ∷ r.statements; rest = r.rest }) (rec n e)

abbrev first_then : List ℕ → Cut → Cut
first_then s r = record { statements = s ∷ r.statements; rest = r.rest }

pub cut_first : (x : List ℕ) (n : ℕ) → statement_length false x ≡ Some n → cut x ≡ record { statements = take n x ∷ (cut (drop n x)).statements; rest = (cut (drop n x)).rest }
cut_first [] n h = absurd (cc)
cut_first (b ∷ bs) n h =
    let w = within false (b ∷ bs) n h in
    ap (λ (o : Option ℕ). cut_behind (cut_at_most (length bs)) o (b ∷ bs)) h
    ∙ ap (first_then (take n (b ∷ bs))) (enough (length bs) (length (drop n (b ∷ bs))) (drop n (b ∷ bs)) (omega (arith, length-drop n (b ∷ bs), w.0)) (omega arith))

pub cut_last : (x : List ℕ) → statement_length false x ≡ None → cut x ≡ record { statements = []; rest = x }
cut_last [] h = refl
cut_last (b ∷ bs) h = ap (λ (o : Option ℕ). cut_behind (cut_at_most (length bs)) o (b ∷ bs)) h
