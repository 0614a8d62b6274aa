-- Bytes are cut in one way.
use Rattle.std.proofs.Common.{◌≡◌, ℕ, zero, suc, ◌+◌, ◌≤◌, Bool, true, false, not, ◌&&◌, ◌==◌, List, [], ◌∷◌, ◌++◌, length, take, drop, refl, sym, ap, subst, ◌∙◌, arith, append_assoc, Option, Some, None}
use Rattle.std.specs.Option.{option_map}
use Rattle.std.specs.List.{concat, AllByRecursion}
use Rattle.std.proofs.lemmas.List.{length-drop, length-take-le, take-append-drop, take-append-le, drop-append-le, take_at, drop_at}
use Rattle.script_pieces.specs.Cuts.{commented, statement_length, Cut, cut_behind, cut_at_most, cut, IsCut}
use Rattle.script_pieces.proofs.Cutting.{stable, within, cut_first, cut_last, next}

next_alone : (ends : Bool) (o p : Option ℕ) (n : ℕ) → ((m : ℕ) → o ≡ Some m → suc m ≡ n → p ≡ Some m) → next ends o ≡ Some n → next ends p ≡ Some n
next_alone true o p n k h = h
next_alone false None p n k h = absurd (cc)
next_alone false (Some m) p n k h = let e : m + 1 ≡ n = cc in ap (λ (q : Option ℕ). option_map (λ i. i + 1) q) (k m refl (omega (arith, e))) ∙ h

-- a first statement is one by itself
pub alone : (c : Bool) (x : List ℕ) (n : ℕ) → statement_length c x ≡ Some n → statement_length c (take n x) ≡ Some n
alone c [] n h = absurd (cc)
alone c (b ∷ bs) zero h = absurd (omega (arith, (within c (b ∷ bs) zero h).0))
alone c (b ∷ bs) (suc n) h =
    let rec = λ (m : ℕ) (e : statement_length (commented c b) bs ≡ Some m) (f : suc m ≡ suc n). (let g : m ≡ n = omega (arith, f) in
    subst (λ (i : ℕ). statement_length (commented c b) (take i bs) ≡ Some m) g (alone (commented c b) bs m e)) in
    next_alone (not c && (b == 59)) (statement_length (commented c b) bs) (statement_length (commented c b) (take n bs)) (suc n) rec h

abbrev AreWhole : List (List ℕ) → Type 0
AreWhole ss = AllByRecursion (λ s. statement_length false s ≡ Some (length s)) ss

cut_by : (k : ℕ) (x : List ℕ) → length x ≤ k → IsCut x (cut_at_most k x)
cut_by zero [] h = record { joined = refl; whole = tt; unended = refl }
cut_by zero (b ∷ bs) h = absurd (omega (arith, h))
cut_by (suc k) x h = by (statement_length false x) refl (λ n e. cut_by k (drop n x) (omega (arith, length-drop n x, (within false x n e).0, h)))
  where
    by : (o : Option ℕ) → statement_length false x ≡ o → ((n : ℕ) → statement_length false x ≡ Some n → IsCut (drop n x) (cut_at_most k (drop n x)))
        → IsCut x (cut_behind (cut_at_most k) o x)
    by None e rec = record { joined = refl; whole = tt; unended = e }
    by (Some n) e rec =
        let size : length (take n x) ≡ n = length-take-le n x (within false x n e).1 in
        let r = rec n e in
        let go = cut_at_most k (drop n x) in
        record {
          joined = sym (take-append-drop n x) ∙ ap (λ zs. take n x ++ zs) r.joined ∙ sym (append_assoc (take n x) (concat go.statements) go.rest);
          whole = (alone false x n e ∙ ap (λ i. Some i) (sym size), r.whole);
          unended = r.unended;
        }

pub is_cut : (x : List ℕ) → IsCut x (cut x)
is_cut x = cut_by (length x) x (omega arith)

only : (x : List ℕ) (ss : List (List ℕ)) (rest : List ℕ) → x ≡ concat ss ++ rest → AreWhole ss → statement_length false rest ≡ None
    → record { statements = ss; rest = rest } ≡ cut x
only x [] rest h w u =
    ap (λ (r : List ℕ). (let c : Cut = record { statements = []; rest = r } in c)) (sym h) ∙ sym (cut_last x (ap (statement_length false) h ∙ u))
only x (s ∷ ss) rest h w u =
    let is : x ≡ s ++ (concat ss ++ rest) = h ∙ append_assoc s (concat ss) rest in
    let first : statement_length false x ≡ Some (length s) = ap (statement_length false) is ∙ stable false s (concat ss ++ rest) (length s) w.0 in
    let front : s ≡ take (length s) x = sym (ap (take (length s)) is ∙ take_at s (concat ss ++ rest) (length s) refl) in
    let back : drop (length s) x ≡ concat ss ++ rest = ap (drop (length s)) is ∙ drop_at s (concat ss ++ rest) (length s) refl in
    let more = only (drop (length s) x) ss rest back w.1 u in
    ap (λ (c : Cut). (let d : Cut = record { statements = s ∷ c.statements; rest = c.rest } in d)) more
    ∙ ap (λ (t : List ℕ). (let d : Cut = record { statements = t ∷ (cut (drop (length s) x)).statements; rest = (cut (drop (length s) x)).rest } in d)) front
    ∙ sym (cut_first x (length s) first)

pub unique : (x : List ℕ) (c : Cut) → IsCut x c → c ≡ cut x
unique x c h = only x c.statements c.rest h.joined h.whole h.unended

-- more bytes behind a first statement change the cut of what follows it only
pub goes_on : (x y : List ℕ) (n : ℕ) → statement_length false x ≡ Some n → cut (x ++ y) ≡ record { statements = take n x ∷ (cut (drop n x ++ y)).statements; rest = (cut (drop n x ++ y)).rest }
goes_on x y n h =
    let fits = (within false x n h).1 in
    cut_first (x ++ y) n (stable false x y n h)
    ∙ ap (λ (t : List ℕ). (let d : Cut = record { statements = t ∷ (cut (drop n (x ++ y))).statements; rest = (cut (drop n (x ++ y))).rest } in d)) (take-append-le n x y fits)
    ∙ ap (λ (t : List ℕ). (let d : Cut = record { statements = take n x ∷ (cut t).statements; rest = (cut t).rest } in d)) (drop-append-le n x y fits)
