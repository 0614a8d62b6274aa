-- The first sign of a list that falls in length is the longest one.
use Rattle.std.proofs.Common.{◌≡◌, ℕ, zero, suc, ◌<◌, ◌≤◌, List, [], ◌∷◌, length, get_or, arith, refl, sym, ◌∙◌, ap, Option, None, Some, Bool, true, false, cond, ◌&&◌, nat_le, nat_eq}
use Rattle.std.specs.List.{starts_with}
use Rattle.std.proofs.lemmas.Bool.{leb-true, and_parts, false≢true}
use Rattle.parser_laws.proofs.Parts.{not_none, same_some}
use Rattle.script_tokens.specs.declared.kind.Kind.{Kind}
use Rattle.script_tokens.specs.declared.kind.TheConstants.{SIGNS}
use Rattle.script_tokens.specs.Kinds.{spelled}
use Rattle.script_tokens.specs.Lexing.{sign_in}

-- no spelling is longer than the one before it
falls : ℕ → List Kind → Bool
falls n [] = true
falls n (k ∷ ks) = nat_le (length (spelled k)) n && falls (length (spelled k)) ks

none_longer : (n : ℕ) (ks : List Kind) → falls n ks ≡ true → (i : ℕ) (d : Kind) → i < length ks → length (spelled (get_or ks i d)) ≤ n
unfolding falls
none_longer n [] f i d h = absurd (omega arith)
none_longer n (k ∷ ks) f zero d h = leb-true (length (spelled k)) n (and_parts (nat_le (length (spelled k)) n) (falls (length (spelled k)) ks) f).0
none_longer n (k ∷ ks) f (suc i) d h = let p = and_parts (nat_le (length (spelled k)) n) (falls (length (spelled k)) ks) f in omega (arith, leb-true (length (spelled k)) n p.0, none_longer (length (spelled k)) ks p.1 i d (omega arith))

longest_in : (n : ℕ) (ks : List Kind) (bs : List ℕ) (k : Kind) → falls n ks ≡ true → sign_in ks bs ≡ Some k → (i : ℕ) (d : Kind) → i < length ks → starts_with nat_eq bs (spelled (get_or ks i d)) ≡ true → length (spelled (get_or ks i d)) ≤ length (spelled k)
unfolding falls
longest_in n [] bs k f e i d h s = absurd (omega arith)
longest_in n (j ∷ ks) bs k f e i d h s = by (starts_with nat_eq bs (spelled j)) refl e i h s (longest_in (length (spelled j)) ks bs k rest)
  where
    rest : falls (length (spelled j)) ks ≡ true
    rest = (and_parts (nat_le (length (spelled j)) n) (falls (length (spelled j)) ks) f).1

    by : (b : Bool) → starts_with nat_eq bs (spelled j) ≡ b → cond b (Some j) (sign_in ks bs) ≡ Some k → (i : ℕ) → i < length (j ∷ ks) → starts_with nat_eq bs (spelled (get_or (j ∷ ks) i d)) ≡ true
        → (sign_in ks bs ≡ Some k → (i : ℕ) (d : Kind) → i < length ks → starts_with nat_eq bs (spelled (get_or ks i d)) ≡ true → length (spelled (get_or ks i d)) ≤ length (spelled k)) → length (spelled (get_or (j ∷ ks) i d)) ≤ length (spelled k)
    by true q e zero h s f = omega (arith, ap (λ k. length (spelled k)) (same_some j k e))
    by true q e (suc i) h s f = omega (arith, ap (λ k. length (spelled k)) (same_some j k e), none_longer (length (spelled j)) ks rest i d (omega arith))
    by false q e zero h s f = absurd (false≢true (sym q ∙ s))
    by false q e (suc i) h s f = f e i d (omega arith) s

pub longest : (bs : List ℕ) (k : Kind) → sign_in SIGNS bs ≡ Some k → (i : ℕ) (d : Kind) → i < length SIGNS → starts_with nat_eq bs (spelled (get_or SIGNS i d)) ≡ true → length (spelled (get_or SIGNS i d)) ≤ length (spelled k)
unfolding falls
longest bs k e i d h s = longest_in 3 SIGNS bs k refl e i d h s
