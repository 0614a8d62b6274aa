-- What is known of the token in hand.
use Rattle.std.proofs.Common.{◌≡◌, ℕ, List, [], ◌∷◌, drop, refl, sym, ap, ◌∙◌, Option, None, Some, Bool, true, false, rules}
use Rattle.std.proofs.lemmas.Bool.{false≢true, false_from_ne_true}
use denote.Enum.Bare.{sameb, same_true, same_false}
use Rattle.script_tokens.specs.contracts.kind.Kind.{the_type}
use Rattle.script_tokens.specs.declared.kind.Kind.{Kind}
use Rattle.script_grammar.proofs.Spellings.{same_kinds, kind_itself}
use Rattle.script_syntax.specs.Reading.{token_at, view_at}
use Rattle.parser_laws.specs.Parsing.{starts_with, seen, seen_in}
use Rattle.parser_laws.specs.Placed.{placed_view, with_place}
use Rattle.parser_laws.proofs.Parts.{not_none, same_some}
use Rattle.script_tokens.specs.Tokens.{Token, PlacedToken}
use Rattle.script_grammar.specs.Views.{Adding, adding_view, is_adding, same_kind, place_if, is_kind, place_view, is}
use Rattle.script_syntax.specs.Trees.{is_minus, minus_of, adding_at}

-- the token in hand, what a view sees of it, and what is behind it
pub record Held {V : Type 0} (view : PlacedToken → Option V) (now : List PlacedToken) : Type 0 where
  pub token : PlacedToken
  pub value : V
  pub front : now ≡ token ∷ drop 1 now
  pub viewed : view token ≡ Some value

pub sign_held : (now : List PlacedToken) (m : Bool) → adding_at now ≡ Some m → (h : Held (placed_view adding_view) now) × (is_minus h.value.left ≡ m)
sign_held [] m e = absurd (not_none m e)
sign_held (t ∷ ts) m e = by (adding_view t.token) refl e
  where
    by : (o : Option Adding) → adding_view t.token ≡ o → minus_of o ≡ Some m → (h : Held (placed_view adding_view) (t ∷ ts)) × (is_minus h.value.left ≡ m)
    by None f g = absurd (not_none m g)
    by (Some a) f g = (record { token = t; value = record { left = a; right = t.place }; front = refl; viewed = ap (with_place t.place) f }, same_some (is_minus a) m g)

pub no_sign_held : (now : List PlacedToken) → adding_at now ≡ None → starts_with is_adding now ≡ false
no_sign_held [] e = refl
no_sign_held (t ∷ ts) e = by (adding_view t.token) refl e
  where
    by : (o : Option Adding) → adding_view t.token ≡ o → minus_of o ≡ None → is_adding t ≡ false
    by None f g = ap (λ o. seen_in (with_place t.place o)) f
    by (Some a) f g = absurd (not_none (is_minus a) (sym g))

-- the comparison of kinds, derived and by numbers
pub kinds_agree : (j k : Kind) → sameb the_type j k ≡ same_kind j k
kinds_agree j k = by (sameb the_type j k) refl
  where
    by : (b : Bool) → sameb the_type j k ≡ b → b ≡ same_kind j k
    by true e = sym (ap (λ i. same_kind i k) (same_true the_type (search rules) j k e) ∙ kind_itself k)
    by false e = sym (false_from_ne_true (same_kind j k) (λ q. same_false the_type j k e (same_kinds j k q)))

-- whether the token in hand is a sign of a kind
pub at_sign : (k : Kind) (now : List PlacedToken) (t : PlacedToken) → token_at now ≡ Some t → is_kind k t.token ≡ starts_with (is k) now
at_sign k [] t e = absurd (not_none t e)
at_sign k (u ∷ now) t e = sym (ap (λ v. seen_in (place_if (is_kind k v.token) v.place)) (same_some u t e) ∙ shown (is_kind k t.token) t.place)
  where
    shown : (b : Bool) (p : ℕ) → seen_in (place_if b p) ≡ b
    shown true p = refl
    shown false p = refl

pub at_no_sign : (k : Kind) (now : List PlacedToken) → token_at now ≡ None → false ≡ starts_with (is k) now
at_no_sign k [] e = refl
at_no_sign k (t ∷ now) e = absurd (not_none t (sym e))

pub sign_in_hand : (k : Kind) (now : List PlacedToken) → starts_with (is k) now ≡ true → Held (place_view k) now
sign_in_hand k [] e = absurd (false≢true e)
sign_in_hand k (t ∷ ts) e = by (place_view k t) refl e
  where
    by : (o : Option ℕ) → place_view k t ≡ o → seen_in o ≡ true → Held (place_view k) (t ∷ ts)
    by None f g = absurd (false≢true g)
    by (Some p) f g = record { token = t; value = p; front = refl; viewed = f }

-- what a view sees of the token in hand, or that it sees nothing
pub view_held : {A : Type 0} (view : Token → Option A) (now : List PlacedToken) (a : A) → view_at view now ≡ Some a → (h : Held (placed_view view) now) × (h.value.left ≡ a)
view_held view [] a e = absurd (not_none a e)
view_held view (t ∷ ts) a e = (record { token = t; value = record { left = a; right = t.place }; front = refl; viewed = ap (with_place t.place) e }, refl)

pub none_seen : {A : Type 0} (view : Token → Option A) (now : List PlacedToken) → view_at view now ≡ None → starts_with (seen (placed_view view)) now ≡ false
none_seen view [] e = refl
none_seen view (t ∷ ts) e = ap (λ o. seen_in (with_place t.place o)) e
