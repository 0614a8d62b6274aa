-- Tokens with their places.
use Rattle.std.specs.Prelude.{ℕ, Option, None, Some}
use Rattle.parser_laws.specs.Parsing.{Pair}

-- a token with its place, and views that keep the place
pub record Placed (T : Type 0) : Type 0 where
  pub token : T
  pub place : ℕ

abbrev pub with_place : {A : Type 0} → ℕ → Option A → Option (Pair A ℕ)
with_place p None = None
with_place p (Some a) = Some (record { left = a; right = p })

abbrev pub placed_view : {T A : Type 0} → (T → Option A) → Placed T → Option (Pair A ℕ)
placed_view view t = with_place t.place (view t.token)

abbrev pub placed_mk : {T A : Type 0} → (A → T) → Pair A ℕ → Placed T
placed_mk mk x = record { token = mk x.left; place = x.right }
