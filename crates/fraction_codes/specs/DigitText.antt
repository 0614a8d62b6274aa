-- The text of a track's digits.
use Rattle.std.specs.Prelude.{ℕ, ◌+◌, ◌-◌, ◌*◌, Bool, nat_lt, if◌then◌else◌, List, [], ◌∷◌, ◌++◌, map, codes}
use Rattle.lash_model.specs.Letters.{digit, sign_bit}
use Rattle.lash_model.specs.Lassos.{Lasso}

-- a digit: 0 to 9, then a to f
abbrev pub digit_code : ℕ → ℕ
digit_code d = if nat_lt d 10 then 48 + d else 87 + d

-- base, number of tracks, track, letter: the track's digit
abbrev pub letter_text : ℕ → ℕ → ℕ → ℕ → List ℕ
letter_text r n i l = digit_code (digit r n i l) ∷ []

-- of a word, the track's digits
abbrev pub word_text : ℕ → ℕ → ℕ → List ℕ → List ℕ
word_text r n i w = map (λ l. digit_code (digit r n i l)) w

-- of a sign vector, 0, or the highest digit where the track is negative
abbrev pub sign_text : ℕ → ℕ → ℕ → ℕ → List ℕ
sign_text r n i sign = digit_code (sign_bit n i sign * (r - 1)) ∷ []

-- the digit of the sign, a colon and the whole digits
abbrev pub whole_text : ℕ → ℕ → ℕ → Lasso → List ℕ
whole_text r n i x = sign_text r n i x.sign ++ (codes ":" ++ word_text r n i x.whole)

-- a point, the digits of the stem, and those of the cycle in brackets
abbrev pub fraction_text : ℕ → ℕ → ℕ → Lasso → List ℕ
fraction_text r n i x = codes "." ++ (word_text r n i x.stem ++ (codes "(" ++ (word_text r n i x.cycle ++ codes ")")))

-- both, or the first alone
abbrev pub track_text : ℕ → ℕ → ℕ → Lasso → Bool → List ℕ
track_text r n i x fraction = whole_text r n i x ++ (if fraction then fraction_text r n i x else [])
