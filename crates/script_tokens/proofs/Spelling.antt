-- The spelling of each keyword and sign is read as that one token.
use Rattle.std.proofs.Common.{◌≡◌, ℕ, ◌+◌, List, [], ◌∷◌, arith, refl, ap, ◌∙◌}
use Rattle.script_tokens.specs.declared.kind.Kind.{Kind}
use Rattle.script_tokens.specs.declared.kind.Kind.TheVariants as kind
use Rattle.script_tokens.specs.Kinds.{spelled}
use Rattle.script_tokens.specs.Tokens.{Sign, PlacedToken}
use Rattle.script_tokens.specs.Lexing.{tokens_of}

abbrev one : ℕ → Kind → List PlacedToken
one place k = record { token = Sign k; place = place } ∷ []

-- no blank stands in front
read_behind : (place : ℕ) (k : Kind) → tokens_of place (spelled k) ≡ one (place + 0) k
read_behind place kind.Show = refl
read_behind place kind.Set = refl
read_behind place kind.Print = refl
read_behind place kind.Solve = refl
read_behind place kind.Test = refl
read_behind place kind.Equal = refl
read_behind place kind.Subset = refl
read_behind place kind.Check = refl
read_behind place kind.Loop = refl
read_behind place kind.When = refl
read_behind place kind.Do = refl
read_behind place kind.Int = refl
read_behind place kind.Real = refl
read_behind place kind.Exists = refl
read_behind place kind.Forall = refl
read_behind place kind.And = refl
read_behind place kind.Or = refl
read_behind place kind.Not = refl
read_behind place kind.True = refl
read_behind place kind.False = refl
read_behind place kind.Mod = refl
read_behind place kind.Equivalent = refl
read_behind place kind.Becomes = refl
read_behind place kind.Unequal = refl
read_behind place kind.AtMost = refl
read_behind place kind.AtLeast = refl
read_behind place kind.Implies = refl
read_behind place kind.Open = refl
read_behind place kind.Close = refl
read_behind place kind.Comma = refl
read_behind place kind.Colon = refl
read_behind place kind.Semicolon = refl
read_behind place kind.Times = refl
read_behind place kind.Plus = refl
read_behind place kind.Minus = refl
read_behind place kind.Slash = refl
read_behind place kind.Equals = refl
read_behind place kind.Below = refl
read_behind place kind.Above = refl

pub spelling_read : (place : ℕ) (k : Kind) → tokens_of place (spelled k) ≡ one place k
spelling_read place k = read_behind place k ∙ ap (λ n. one n k) (none place)
  where
    none : (n : ℕ) → n + 0 ≡ n
    none n = omega arith
