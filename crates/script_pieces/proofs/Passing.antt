-- How the search for the end of a statement goes on.
use Rattle.std.proofs.Common.{◌≡◌, ℕ, ◌+◌, ◌-◌, ◌<◌, ◌≤◌, Bool, false, not, ◌&&◌, ◌==◌, List, [], ◌∷◌, ◌++◌, length, take, drop, get_or, refl, sym, ap, subst, ◌∙◌, arith, append_assoc, Option, Some, None}
use Rattle.std.specs.Prelude.{if◌then◌else◌}
use Rattle.std.specs.Option.{option_map}
use Rattle.std.proofs.lemmas.List.{length-append, length-drop, length-take-le, take_more, take_all, append-nil, take-append-drop, drop_more, get_or-drop}
use lib.Seq.{take-add}
use Rattle.script_pieces.specs.Cuts.{commented, statement_length}
use Rattle.script_pieces.specs.Searching.{Passes, IsKept}

behind_none : (o : Option ℕ) → o ≡ option_map (λ n. 0 + n) o
behind_none None = refl
behind_none (Some n) = ap (λ k. Some k) (omega arith)

behind_one : (o : Option ℕ) → option_map (λ n. n + 1) o ≡ option_map (λ n. 1 + n) o
behind_one None = refl
behind_one (Some n) = ap (λ k. Some k) (omega arith)

behind_both : (i j k : ℕ) (o : Option ℕ) → k ≡ i + j → option_map (λ n. i + n) (option_map (λ n. j + n) o) ≡ option_map (λ n. k + n) o
behind_both i j k None e = refl
behind_both i j k (Some n) e = ap (λ m. Some m) (omega (arith, e))

pub passes_none : (c : Bool) → Passes c [] c
passes_none c = record { passed = λ more. behind_none (statement_length c more) }

pub passes_byte : (c : Bool) (b : ℕ) → (not c && (b == 59)) ≡ false → Passes c (b ∷ []) (commented c b)
passes_byte c b h = record {
  passed = λ more. ap (λ (ends : Bool). if ends then Some 1 else option_map (λ n. n + 1) (statement_length (commented c b) more)) h
      ∙ behind_one (statement_length (commented c b) more);
}

pub passes_then : (a b c : Bool) (xs ys : List ℕ) → Passes a xs b → Passes b ys c → Passes a (xs ++ ys) c
passes_then a b c xs ys first second = record {
  passed = λ more. ap (statement_length a) (append_assoc xs ys more)
      ∙ first.passed (ys ++ more)
      ∙ ap (λ (o : Option ℕ). option_map (λ n. length xs + n) o) (second.passed more)
      ∙ behind_both (length xs) (length ys) (length (xs ++ ys)) (statement_length c more) (length-append xs ys);
}

-- one byte more
pub passes_more : (a b : Bool) (xs : List ℕ) (i byte : ℕ) → Passes a (take i xs) b → i < length xs → get_or xs i 0 ≡ byte → (not b && (byte == 59)) ≡ false
    → Passes a (take (i + 1) xs) (commented b byte)
passes_more a b xs i byte before h is other =
    let P : List ℕ → Type 0 = λ zs. Passes a zs (commented b byte) in
    let grown : take i xs ++ byte ∷ [] ≡ take (i + 1) xs = sym (take_more xs i 0 h ∙ ap (λ x. take i xs ++ x ∷ []) is) in
    subst P grown (passes_then a b (commented b byte) (take i xs) (byte ∷ []) before (passes_byte b byte other))

-- a search that goes on where another stopped
pub passes_on : (a b c : Bool) (xs : List ℕ) (i k : ℕ) → Passes a (take i xs) b → Passes b (take k (drop i xs)) c → Passes a (take (i + k) xs) c
passes_on a b c xs i k first second =
    let P : List ℕ → Type 0 = λ zs. Passes a zs c in
    subst P (sym (take-add i k xs)) (passes_then a b c (take i xs) (take k (drop i xs)) first second)

-- nothing was found
pub passed_all : (a b : Bool) (xs : List ℕ) (n : ℕ) → Passes a (take n xs) b → length xs ≤ n → statement_length a xs ≡ None
passed_all a b xs n p h = ap (statement_length a) (sym (append-nil xs) ∙ ap (λ zs. zs ++ []) (sym (take_all n xs h))) ∙ p.passed []

-- a `;` outside comments ends the first statement
pub ends_at : (a : Bool) (xs : List ℕ) (n : ℕ) → Passes a (take n xs) false → n < length xs → get_or xs n 0 ≡ 59 → statement_length a xs ≡ Some (n + 1)
ends_at a xs n p h is =
    let at : drop n xs ≡ 59 ∷ drop (n + 1) xs = drop_more xs n 0 h ∙ ap (λ x. x ∷ drop (n + 1) xs) is in
    let size : length (take n xs) ≡ n = length-take-le n xs (omega (arith, h)) in
    ap (statement_length a) (sym (take-append-drop n xs) ∙ ap (λ zs. take n xs ++ zs) at)
    ∙ p.passed (59 ∷ drop (n + 1) xs)
    ∙ ap (λ k. Some (k + 1)) size

-- a search went on over the rest of the bytes held, from where another stopped
pub record WentOn (given : ℕ) (held : List ℕ) (i k : ℕ) (a b : Bool) (rest : List ℕ) : Type 0 where
  pub rest_is : rest ≡ drop i held
  pub kept : IsKept given held i a
  pub within : k ≤ length rest
  pub passed : Passes a (take k rest) b
  pub ended : k < length rest → (b ≡ false) × (get_or rest k 0 ≡ 59)

pub kept_on : (given : ℕ) (held : List ℕ) (i k : ℕ) (a b : Bool) (rest : List ℕ) → WentOn given held i k a b rest → IsKept given held (i + k) b
kept_on given held i k a b rest h =
    let P : List ℕ → Type 0 = λ zs. Passes a (take k zs) b in
    let e : length rest ≡ length held - i = ap length h.rest_is ∙ length-drop i held in
    record {
      searched = record {
        within = omega (arith, e, h.within, h.kept.searched.within);
        passes = passes_on false a b held i k h.kept.searched.passes (subst P h.rest_is h.passed);
      };
      taken = h.kept.taken;
    }

pub found_on : (given : ℕ) (held : List ℕ) (i k : ℕ) (a b : Bool) (rest : List ℕ) → WentOn given held i k a b rest → i + k < length held
    → Some (i + k + 1) ≡ statement_length false held
found_on given held i k a b rest h more =
    let e : length rest ≡ length held - i = ap length h.rest_is ∙ length-drop i held in
    let end = h.ended (omega (arith, e, more)) in
    let now = kept_on given held i k a b rest h in
    let P : Bool → Type 0 = λ c. Passes false (take (i + k) held) c in
    sym (ends_at false held (i + k) (subst P end.0 now.searched.passes) more (sym (get_or-drop i held k 0) ∙ ap (λ (zs : List ℕ). get_or zs k 0) (sym h.rest_is) ∙ end.1))

pub none_on : (given : ℕ) (held : List ℕ) (i k : ℕ) (a b : Bool) (rest : List ℕ) → WentOn given held i k a b rest → length held ≤ i + k
    → None ≡ statement_length false held
none_on given held i k a b rest h all = sym (passed_all false b held (i + k) (kept_on given held i k a b rest h).searched.passes all)
