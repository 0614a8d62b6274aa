-- Letters of a word, one after another.
use Rattle.std.proofs.Common.{◌≡◌, ℕ, zero, suc, ◌+◌, ◌<◌, List, [], ◌∷◌, ◌++◌, length, get_or, take, drop, codes, arith, add-one, refl, ap, sym, ◌∙◌, append_assoc}
use Rattle.std.specs.Fmt.{decimal}
use Rattle.std.proofs.lemmas.List.{append-nil}
use Rattle.automaton_texts.proofs.Texts.{Fronted}
use Rattle.lash_command.specs.Lines.{letters_text}

more_suc : (ls : List ℕ) (i : ℕ) → i < length ls → letters_text (take (suc i) ls) ≡ letters_text (take i ls) ++ (codes "," ++ decimal (get_or ls i 0))
more_suc [] i h = absurd (omega arith)
more_suc (l ∷ ls) zero h = append-nil _
more_suc (l ∷ ls) (suc i) h =
    ap (λ xs. (codes "," ++ decimal l) ++ xs) (more_suc ls i (omega arith))
    ∙ sym (append_assoc (codes "," ++ decimal l) (letters_text (take i ls)) (codes "," ++ decimal (get_or ls i 0)))

-- one letter more
pub letters_more : (ls : List ℕ) (i : ℕ) → i < length ls → letters_text (take (i + 1) ls) ≡ letters_text (take i ls) ++ (codes "," ++ decimal (get_or ls i 0))
letters_more ls i h = rw add-one (more_suc ls i h)

parted : (ls : List ℕ) (i : ℕ) → letters_text ls ≡ letters_text (take i ls) ++ letters_text (drop i ls)
parted [] zero = refl
parted [] (suc i) = refl
parted (l ∷ ls) zero = refl
parted (l ∷ ls) (suc i) =
    ap (λ xs. (codes "," ++ decimal l) ++ xs) (parted ls i)
    ∙ sym (append_assoc (codes "," ++ decimal l) (letters_text (take i ls)) (letters_text (drop i ls)))

-- the letters up to one, and those after it
pub letters_on_way : (ls : List ℕ) (i : ℕ) → i < length ls → Fronted (letters_text ls) (letters_text (take i ls) ++ (codes "," ++ decimal (get_or ls i 0)))
letters_on_way ls i h = record {
  more = letters_text (drop (i + 1) ls);
  is = parted ls (i + 1) ∙ ap (λ xs. xs ++ letters_text (drop (i + 1) ls)) (letters_more ls i h);
}
