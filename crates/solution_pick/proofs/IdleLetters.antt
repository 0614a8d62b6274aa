-- A least accepted word has no sign letter in front, where the table stands for a set.
use Rattle.std.proofs.Common.{◌≡◌, ℕ, suc, ◌^◌, ◌≤◌, ◌<◌, List, ◌∷◌, length, inl, inr, true, arith, ap, subst}
use Rattle.std.proofs.Math.IntN.{ℤ}
use Rattle.std.specs.Prelude.{All}
use Rattle.std.proofs.lemmas.List.Elements.{recursion_from_All, All-from_recursion}
use Rattle.integer_laws.proofs.Entries.{vector_from_same}
use Rattle.graph_laws.specs.Paths.{Path, AtMost}
use Rattle.graph_laws.specs.Paths.Before.{shorter, lower, earlier}
use Rattle.lash_model.specs.Letters.{sign_letter}
use Rattle.lash_model.specs.Words.{value, values}
use Rattle.lash_model.specs.Tables.{Table, letters, IsTable}
use Rattle.lash_model.specs.Acceptance.{accepts_word}
use Rattle.lash_model.specs.Standing.{StandsForWhole}
use Rattle.lash_model.proofs.Numbers.{value-padded}
use Rattle.solution_pick.specs.Solutions.{IsLeastAccepted}

values_padded : (r n sign : ℕ) (w : List ℕ) → 2 ≤ r → sign < 2 ^ n → values r n sign (sign_letter r n sign ∷ w) ≡ values r n sign w
values_padded r n sign w h lt = vector_from_same (λ i. value r n i sign (sign_letter r n sign ∷ w)) (λ i. value r n i sign w) 0 n (λ j low inside. value-padded r n j sign w h (omega (arith, inside)) lt)

longer_not_least : (sign l : ℕ) (w : List ℕ) → AtMost (record { start = sign; word = l ∷ w }) (record { start = sign; word = w }) → ⊥
longer_not_least sign l w (inl e) = let same : suc (length w) ≡ length w = ap (λ (p : Path). length p.word) e in omega (arith, same)
longer_not_least sign l w (inr (shorter h)) = omega (arith, h)
longer_not_least sign l w (inr (lower e h)) = omega (arith, e)
longer_not_least sign l w (inr (earlier e f h)) = omega (arith, e)

pub not_idle : (t : Table) (P : List ℤ → ℕ → Type 0) (sign : ℕ) (w : List ℕ) → IsTable t → StandsForWhole t P → IsLeastAccepted t sign (sign_letter t.base t.tracks sign ∷ w) → ⊥
not_idle t P sign w h s m = longer_not_least sign (sign_letter t.base t.tracks sign) w (m.least sign w m.sign_in w_in accepted)
  where
    w_in : All (λ l. l < letters t) w
    w_in = All-from_recursion (λ l. l < letters t) w (recursion_from_All (λ l. l < letters t) (sign_letter t.base t.tracks sign ∷ w) m.letters_in).1

    accepted : accepts_word t sign w ≡ true
    accepted = (s.each sign w m.sign_in w_in).1 (subst (λ ns. P ns 1) (values_padded t.base t.tracks sign w h.shape.base_low m.sign_in) ((s.each sign (sign_letter t.base t.tracks sign ∷ w) m.sign_in m.letters_in).0 m.accepted))
