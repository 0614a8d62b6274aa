-- Where a reader of bytes stops: the longest front that begins some text.
use Rattle.std.specs.Prelude.{ℕ, ◌+◌, ◌<◌, ◌≤◌, ◌≡◌, List, ◌++◌, length, take}
use Rattle.automaton_texts.specs.Text.{texts_upto}

-- of the texts of allowed values, each with anything after it: some begins with the first k bytes, and none goes on with the next byte.
-- The end of the bytes counts as a byte (viable prefixes, Knuth)
pub record IsStuck {A : Type 0} (text : A → List ℕ) (Allowed : A → Type 0) (bytes : List ℕ) (k : ℕ) : Type 0 where
  pub value : A
  pub allowed : Allowed value
  pub more : List ℕ
  pub begins : text value ≡ take k bytes ++ more
  pub inside : k ≤ length bytes
  pub excluded : (a : A) → Allowed a → (z : List ℕ) → take (k + 1) bytes ≡ take (k + 1) (text a ++ z) → ⊥

-- what a reader meets: the text of an allowed value, and what is after it, or the place where it stops
pub data Met {A : Type 0} (text : A → List ℕ) (Allowed : A → Type 0) (bytes : List ℕ) : Type 0 where
  read : (a : A) → Allowed a → (rest : List ℕ) → bytes ≡ text a ++ rest → Met text Allowed bytes
  stuck : (k : ℕ) → IsStuck text Allowed bytes k → Met text Allowed bytes

-- the texts of two parts, the second of which may depend on the first
abbrev pub pair_text : {A B : Type 0} → (A → List ℕ) → (A → B → List ℕ) → (A × B) → List ℕ
pair_text first second x = first x.0 ++ second x.0 x.1

-- the first is allowed, and so is the second after it
abbrev pub PairAllowed : {A B : Type 0} → (A → Type 0) → (A → B → Type 0) → (A × B) → Type 0
PairAllowed first second x = first x.0 × second x.0 x.1

-- a word in front
abbrev pub after_word : {A : Type 0} → List ℕ → (A → List ℕ) → A → List ℕ
after_word word text a = word ++ text a

-- the first k bytes of a word stand there, and not the next
pub record IsWordWrong (word bytes : List ℕ) (k : ℕ) : Type 0 where
  pub inside : k < length word
  pub before : take k bytes ≡ take k word
  pub wrong : take (k + 1) bytes ≡ take (k + 1) word → ⊥

-- the texts of so many parts
abbrev pub parts_text : {V : Type 0} → (ℕ → V → List ℕ) → ℕ → (ℕ → V) → List ℕ
parts_text part count f = texts_upto (λ i. part i (f i)) count

-- each is allowed at its place
abbrev pub PartsAllowed : {V : Type 0} → (ℕ → V → Type 0) → ℕ → (ℕ → V) → Type 0
PartsAllowed Allowed count f = (i : ℕ) → i < count → Allowed i (f i)

-- any value is allowed
abbrev pub IsAny : {A : Type 0} → A → Type 0
IsAny a = Unit {0}
