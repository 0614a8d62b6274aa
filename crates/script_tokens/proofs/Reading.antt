-- Digits read one by one.
use Rattle.std.proofs.Common.{◌≡◌, ℕ, zero, suc, ◌+◌, ◌-◌, ◌*◌, ◌^◌, ◌<◌, ◌≤◌, List, [], ◌∷◌, ◌++◌, length, get_or, take, map, min, arith, refl, sym, ap, ◌∙◌}
use Rattle.std.proofs.Math.Nat.{pow-suc, pow-zero}
use Rattle.std.proofs.lemmas.List.{map-append}
use Rattle.std.specs.Prelude.{Bool, IsTrue}
use Rattle.std.specs.List.{All, prefix_len}
use Rattle.std.proofs.lemmas.List.{get_or-take, length-take}
use Rattle.std.proofs.lemmas.List.Sums.{prefix_len_passes}
use Rattle.lash_model.specs.Letters.{number}
use Rattle.script_tokens.specs.Lexing.{number_limit}

pub number-push : (r : ℕ) (ds : List ℕ) (d : ℕ) → number r (ds ++ d ∷ []) ≡ number r ds * r + d
unfolding number
number-push r [] d = ap (λ p. d * p + 0) (pow-zero r) ∙ omega arith
number-push r (e ∷ ds) d = ap (λ n. e * r ^ n + number r (ds ++ d ∷ [])) (one_more ds) ∙ ap (λ p. e * p + number r (ds ++ d ∷ [])) (pow-suc r (length ds)) ∙ ap (λ n. e * (r ^ length ds * r) + n) (number-push r ds d) ∙ join e (r ^ length ds) r (number r ds) d
  where
    one_more : (ds : List ℕ) → length (ds ++ d ∷ []) ≡ suc (length ds)
    one_more [] = refl
    one_more (e ∷ ds) = ap suc (one_more ds)

    join : (e p r n d : ℕ) → e * (p * r) + (n * r + d) ≡ (e * p + n) * r + d
    join e p r n d = omega arith

take_next : (ds : List ℕ) (i : ℕ) → i < length ds → take (i + 1) ds ≡ take i ds ++ get_or ds i 0 ∷ []
take_next ds i h = ap (λ k. take k ds) (next i) ∙ by ds i h
  where
    next : (i : ℕ) → i + 1 ≡ suc i
    next i = omega arith

    by : (ds : List ℕ) (i : ℕ) → i < length ds → take (suc i) ds ≡ take i ds ++ get_or ds i 0 ∷ []
    by [] i h = absurd (omega arith)
    by (d ∷ ds) zero h = refl
    by (d ∷ ds) (suc i) h = ap (λ es. d ∷ es) (by ds i (omega arith))

capped : (v n d limit : ℕ) → n ≡ min v limit → min (n * 10 + d) limit ≡ min (v * 10 + d) limit
capped v n d limit e = omega arith

-- the number of one digit more, where greater numbers are not told apart
pub number_more : (ds : List ℕ) (i n m : ℕ) → i < length ds → n ≡ min (number 10 (map (λ b. b - 48) (take i ds))) number_limit → m ≡ min (n * 10 + (get_or ds i 0 - 48)) number_limit → m ≡ min (number 10 (map (λ b. b - 48) (take (i + 1) ds))) number_limit
number_more ds i n m h e f = f ∙ capped (number 10 (map (λ b. b - 48) (take i ds))) n (get_or ds i 0 - 48) number_limit e ∙ ap (λ v. min v number_limit) (sym (number-push 10 (map (λ b. b - 48) (take i ds)) (get_or ds i 0 - 48)) ∙ ap (number 10) (sym (map-append (λ b. b - 48) (take i ds) (get_or ds i 0 ∷ [])) ∙ ap (map (λ b. b - 48)) (sym (take_next ds i h))))

pub no_digits : 0 ≡ min (number 10 []) number_limit
unfolding number
no_digits = omega arith

-- the front that passes a test
pub front_passes : (p : ℕ → Bool) (xs : List ℕ) (n : ℕ) → n ≡ prefix_len p xs → All (λ x. IsTrue (p x)) (take n xs)
front_passes p xs n e k d h = ap p (get_or-take n xs k d (omega (arith, h, length-take n xs))) ∙ prefix_len_passes p xs k d (omega (arith, h, length-take n xs, e))
