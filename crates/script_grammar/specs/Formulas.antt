-- Formulas: trees by level, how they are spelled, those within a nesting, and the parsers.
use Rattle.std.specs.Prelude.{ℕ, zero, suc, List, [], ◌∷◌, ◌++◌, Option, None, Some}
use mathlib.Core.Bool.{Bool}
use Rattle.parser_laws.specs.Parsing.{Res, Either, first, other, Pair, gate, pair_toks, pair_in, anything, Lang, always, beyond, both, either, perhaps, items, shaped}
use Rattle.script_tokens.specs.declared.kind.Kind.TheVariants as kind
use Rattle.script_tokens.specs.Tokens.{PlacedToken}
use Rattle.script_grammar.specs.Views.{Quantifier, at, is, is_quantifier, sign, quantifier}
use Rattle.script_grammar.specs.Terms.{atom, declarations, Atom, Declarations}

mutual
  pub data Form : Type 0 where
    Quant : Pair Quantifier ℕ → Declarations → ℕ → Form → Form
    Plain : Iff → Form

  pub data Iff : Type 0 where
    OneImp : Imp → Iff
    TwoImps : Imp → ℕ → Imp → Iff

  pub data Imp : Type 0 where
    OneOr : Or → Imp
    TwoOrs : Or → ℕ → Or → Imp

  pub data Or : Type 0 where
    Ands : And → MoreAnds → Or

  pub data MoreAnds : Type 0 where
    NoAnd : MoreAnds
    OrAnd : ℕ → And → MoreAnds → MoreAnds

  pub data And : Type 0 where
    Units : Unary → MoreUnits → And

  pub data MoreUnits : Type 0 where
    NoUnit : MoreUnits
    AndUnit : ℕ → Unary → MoreUnits → MoreUnits

  pub data Unary : Type 0 where
    Not : ℕ → Unary → Unary
    Paren : ℕ → Form → ℕ → Unary
    Simple : Atom → Unary

-- how the trees are spelled
abbrev mutual
  pub form_toks : Form → List PlacedToken
  form_toks (Quant w d p f) = quantifier.toks w ++ (declarations.toks d ++ ((at kind.Colon p ∷ []) ++ form_toks f))
  form_toks (Plain i) = iff_toks i

  pub iff_toks : Iff → List PlacedToken
  iff_toks (OneImp a) = imp_toks a ++ []
  iff_toks (TwoImps a p b) = imp_toks a ++ ((at kind.Equivalent p ∷ []) ++ imp_toks b)

  pub imp_toks : Imp → List PlacedToken
  imp_toks (OneOr a) = or_toks a ++ []
  imp_toks (TwoOrs a p b) = or_toks a ++ ((at kind.Implies p ∷ []) ++ or_toks b)

  pub or_toks : Or → List PlacedToken
  or_toks (Ands a l) = and_toks a ++ more_ands_toks l

  pub more_ands_toks : MoreAnds → List PlacedToken
  more_ands_toks NoAnd = []
  more_ands_toks (OrAnd p a l) = ((at kind.Or p ∷ []) ++ and_toks a) ++ more_ands_toks l

  pub and_toks : And → List PlacedToken
  and_toks (Units a l) = unary_toks a ++ more_units_toks l

  pub more_units_toks : MoreUnits → List PlacedToken
  more_units_toks NoUnit = []
  more_units_toks (AndUnit p a l) = ((at kind.And p ∷ []) ++ unary_toks a) ++ more_units_toks l

  pub unary_toks : Unary → List PlacedToken
  unary_toks (Not p a) = (at kind.Not p ∷ []) ++ unary_toks a
  unary_toks (Paren p f q) = (at kind.Open p ∷ []) ++ (form_toks f ++ (at kind.Close q ∷ []))
  unary_toks (Simple a) = atom.toks a

-- within one group more
abbrev pub fewer : ℕ → (ℕ → Type 0) → Type 0
fewer zero f = ⊥
fewer (suc n) f = f n

-- no more than so many groups are open anywhere
abbrev mutual
  pub form_in : ℕ → Form → Type 0
  form_in n (Quant w d p f) = fewer n (λ m. declarations.In d × form_in m f)
  form_in n (Plain i) = iff_in n i

  pub iff_in : ℕ → Iff → Type 0
  iff_in n (OneImp a) = imp_in n a
  iff_in n (TwoImps a p b) = imp_in n a × imp_in n b

  pub imp_in : ℕ → Imp → Type 0
  imp_in n (OneOr a) = or_in n a
  imp_in n (TwoOrs a p b) = or_in n a × or_in n b

  pub or_in : ℕ → Or → Type 0
  or_in n (Ands a l) = and_in n a × more_ands_in n l

  pub more_ands_in : ℕ → MoreAnds → Type 0
  more_ands_in n NoAnd = Unit
  more_ands_in n (OrAnd p a l) = and_in n a × more_ands_in n l

  pub and_in : ℕ → And → Type 0
  and_in n (Units a l) = unary_in n a × more_units_in n l

  pub more_units_in : ℕ → MoreUnits → Type 0
  more_units_in n NoUnit = Unit
  more_units_in n (AndUnit p a l) = unary_in n a × more_units_in n l

  pub unary_in : ℕ → Unary → Type 0
  unary_in n (Not p a) = fewer n (λ m. unary_in m a)
  unary_in n (Paren p f q) = fewer n (λ m. form_in m f)
  unary_in n (Simple a) = atom.In a

-- the parsers of formulas and of unary formulas with one opening less
pub record Levels : Type 0 where
  pub form : List PlacedToken → Res PlacedToken Form
  pub unary : List PlacedToken → Res PlacedToken Unary

abbrev pub form_stop : PlacedToken → Bool
form_stop = beyond (is kind.Equivalent) (beyond (is kind.Implies) (beyond (is kind.Or) (beyond (is kind.And) atom.stop)))

abbrev pub not_in : ℕ → Pair ℕ Unary → Type 0
not_in n x = fewer n (λ m. pair_in anything (unary_in m) x)

abbrev pub paren_in : ℕ → Pair ℕ (Pair Form ℕ) → Type 0
paren_in n x = fewer n (λ m. pair_in anything (pair_in (form_in m) anything) x)

abbrev pub quant_in : ℕ → Pair (Pair Quantifier ℕ) (Pair Declarations (Pair ℕ Form)) → Type 0
quant_in n x = fewer n (λ m. pair_in anything (pair_in declarations.In (pair_in anything (form_in m))) x)

abbrev pub inner_form : Levels → ℕ → Lang PlacedToken
inner_form l n = record { Tree = Form; toks = form_toks; In = form_in n; stop = form_stop; parse = l.form }

abbrev pub inner_unary : Levels → ℕ → Lang PlacedToken
inner_unary l n = record { Tree = Unary; toks = unary_toks; In = unary_in n; stop = atom.stop; parse = l.unary }

abbrev pub not_lang : Option Levels → ℕ → Lang PlacedToken
not_lang o n = record { Tree = Pair ℕ Unary; toks = pair_toks (λ p. at kind.Not p ∷ []) unary_toks; In = not_in n; stop = atom.stop; parse = gate (is kind.Not) (λ l. (both (sign kind.Not) (inner_unary l n)).parse) o }

abbrev pub paren_lang : Option Levels → ℕ → Lang PlacedToken
paren_lang o n = record { Tree = Pair ℕ (Pair Form ℕ); toks = pair_toks (λ p. at kind.Open p ∷ []) (pair_toks form_toks (λ p. at kind.Close p ∷ [])); In = paren_in n; stop = always; parse = gate (is kind.Open) (λ l. (both (sign kind.Open) (both (inner_form l n) (sign kind.Close))).parse) o }

abbrev pub quant_lang : Option Levels → ℕ → Lang PlacedToken
quant_lang o n = record { Tree = Pair (Pair Quantifier ℕ) (Pair Declarations (Pair ℕ Form)); toks = pair_toks quantifier.toks (pair_toks declarations.toks (pair_toks (λ p. at kind.Colon p ∷ []) form_toks)); In = quant_in n; stop = form_stop; parse = gate is_quantifier (λ l. (both quantifier (both declarations (both (sign kind.Colon) (inner_form l n)))).parse) o }

abbrev pub unary_of : Either (Pair ℕ Unary) (Either (Pair ℕ (Pair Form ℕ)) Atom) → Unary
unary_of (first x) = Not x.left x.right
unary_of (other (first x)) = Paren x.left x.right.left x.right.right
unary_of (other (other x)) = Simple x

abbrev pub unary_lang : Option Levels → ℕ → Lang PlacedToken
unary_lang o n = shaped (either (is kind.Not) (not_lang o n) (either (is kind.Open) (paren_lang o n) atom)) unary_of unary_toks (unary_in n)

abbrev pub more_units_of : List (Pair ℕ Unary) → MoreUnits
more_units_of [] = NoUnit
more_units_of (x ∷ l) = AndUnit x.left x.right (more_units_of l)

abbrev pub and_of : Pair Unary (List (Pair ℕ Unary)) → And
and_of x = Units x.left (more_units_of x.right)

abbrev pub and_lang : Option Levels → ℕ → Lang PlacedToken
and_lang o n = shaped (both (unary_lang o n) (items (is kind.And) (both (sign kind.And) (unary_lang o n)))) and_of and_toks (and_in n)

abbrev pub more_ands_of : List (Pair ℕ And) → MoreAnds
more_ands_of [] = NoAnd
more_ands_of (x ∷ l) = OrAnd x.left x.right (more_ands_of l)

abbrev pub or_of : Pair And (List (Pair ℕ And)) → Or
or_of x = Ands x.left (more_ands_of x.right)

abbrev pub or_lang : Option Levels → ℕ → Lang PlacedToken
or_lang o n = shaped (both (and_lang o n) (items (is kind.Or) (both (sign kind.Or) (and_lang o n)))) or_of or_toks (or_in n)

abbrev pub imp_of : Pair Or (Either (Pair ℕ Or) Unit) → Imp
imp_of x = by x.left x.right
  where
    by : Or → Either (Pair ℕ Or) Unit → Imp
    by a (first y) = TwoOrs a y.left y.right
    by a (other y) = OneOr a

abbrev pub imp_lang : Option Levels → ℕ → Lang PlacedToken
imp_lang o n = shaped (both (or_lang o n) (perhaps (is kind.Implies) (both (sign kind.Implies) (or_lang o n)))) imp_of imp_toks (imp_in n)

abbrev pub iff_of : Pair Imp (Either (Pair ℕ Imp) Unit) → Iff
iff_of x = by x.left x.right
  where
    by : Imp → Either (Pair ℕ Imp) Unit → Iff
    by a (first y) = TwoImps a y.left y.right
    by a (other y) = OneImp a

abbrev pub iff_lang : Option Levels → ℕ → Lang PlacedToken
iff_lang o n = shaped (both (imp_lang o n) (perhaps (is kind.Equivalent) (both (sign kind.Equivalent) (imp_lang o n)))) iff_of iff_toks (iff_in n)

abbrev pub form_of : Either (Pair (Pair Quantifier ℕ) (Pair Declarations (Pair ℕ Form))) Iff → Form
form_of (first x) = Quant x.left x.right.left x.right.right.left x.right.right.right
form_of (other i) = Plain i

abbrev pub form_lang : Option Levels → ℕ → Lang PlacedToken
form_lang o n = shaped (either is_quantifier (quant_lang o n) (iff_lang o n)) form_of form_toks (form_in n)

-- what is within so many groups
abbrev pub room : ℕ → Option Levels
room zero = None
room (suc n) = Some (record { form = (form_lang (room n) 0).parse; unary = (unary_lang (room n) 0).parse })

abbrev pub formula : ℕ → Lang PlacedToken
formula n = form_lang (room n) n
