-- A spelling of tokens is one of tokens with places.
use Rattle.std.proofs.Common.{◌≡◌, ℕ, ◌∙◌, ap, Option, None, Some}
use Rattle.parser_laws.specs.Parsing.{Pair}
use Rattle.parser_laws.specs.Placed.{Placed, with_place, placed_view, placed_mk}
use Rattle.parser_laws.proofs.Parts.{Spelling, not_none, same_some}

seen_with : {A : Type 0} (p : ℕ) (v : Option A) (x : Pair A ℕ) → with_place p v ≡ Some x → (v ≡ Some x.left) × (p ≡ x.right)
seen_with p None x e = absurd (not_none x e)
seen_with p (Some a) x e = (ap (λ y. Some y.left) (same_some (record { left = a; right = p }) x e), ap (λ y. y.right) (same_some (record { left = a; right = p }) x e))

pub placed_spelling : {T A : Type 0} (view : T → Option A) (mk : A → T) → Spelling view mk → Spelling (placed_view view) (placed_mk mk)
placed_spelling {T = T} {A = A} view mk c = record { fits = fits; back = λ x. ap (with_place x.right) (c.back x.left) }
  where
    fits : (t : Placed T) (x : Pair A ℕ) → placed_view view t ≡ Some x → t ≡ placed_mk mk x
    fits t x e = let s = seen_with t.place (view t.token) x e in ap (λ i. record { token = i; place = t.place }) (c.fits t.token x.left s.0) ∙ ap (λ i. record { token = mk x.left; place = i }) s.1
