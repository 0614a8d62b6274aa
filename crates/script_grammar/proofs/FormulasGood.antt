-- The languages of formulas are good at each nesting.
use Rattle.std.proofs.Common.{◌≡◌, ℕ, zero, suc, List, [], ◌∷◌, ◌++◌, refl, ◌∙◌, sym, ap, append_assoc, Option, None, Some}
use mathlib.Core.Bool.{Bool, true, false}
use Rattle.std.specs.Prelude.{IsTrue}
use Rattle.parser_laws.specs.Parsing.{Either, first, other, Pair, starts_with, sum_toks, sum_in, pair_toks, pair_in, all_toks, all_in, anything, Lang, seen, always, both, either, perhaps, items, shaped}
use Rattle.parser_laws.specs.Placed.{Placed, placed_view, placed_mk}
use Rattle.parser_laws.proofs.Good.{Stops}
use Rattle.parser_laws.proofs.Choice.{Shape, map_good}
use Rattle.parser_laws.proofs.Parts.{gate_good}
use Rattle.parser_laws.proofs.Langs.{Ok, Begins, token_ok, both_ok, either_ok, perhaps_ok, items_ok, of_seen, seen_mk, seen_some, begins_token, begins_both, meets_perhaps, meets_items, beyond_stops}
use Rattle.script_tokens.specs.declared.kind.Kind.{Kind}
use Rattle.script_tokens.specs.declared.kind.Kind.TheVariants as kind
use Rattle.script_tokens.specs.Tokens.{Token, Sign, PlacedToken}
use Rattle.script_grammar.specs.Views.{Quantifier, quantifier_view, place_view, at, is, is_quantifier, spell_quantifier, sign, quantifier}
use Rattle.script_grammar.specs.Terms.{atom, declarations, Atom, Declarations}
use Rattle.script_grammar.specs.Formulas.{Form, Quant, Plain, Iff, OneImp, TwoImps, Imp, OneOr, TwoOrs, Or, Ands, MoreAnds, NoAnd, OrAnd, And, Units, MoreUnits, NoUnit, AndUnit, Unary, Not, Paren, Simple, form_toks, iff_toks, imp_toks, or_toks, more_ands_toks, and_toks, more_units_toks, unary_toks, fewer, form_in, iff_in, imp_in, or_in, more_ands_in, and_in, more_units_in, unary_in, Levels, form_stop, inner_form, inner_unary, not_lang, paren_lang, quant_lang, unary_of, unary_lang, more_units_of, and_of, and_lang, more_ands_of, or_of, or_lang, imp_of, imp_lang, iff_of, iff_lang, form_of, form_lang, room, formula}
use Rattle.script_grammar.proofs.Spellings.{sign_spelling, quantifier_spelling}
use Rattle.script_grammar.proofs.TermsGood.{sign_ok, meets_always, atom_ok, avoids_atom, declarations_ok, some_declaration}

abbrev pub some_truth : Pair Bool ℕ
some_truth = record { left = true; right = 0 }

quantifier_ok : Ok quantifier
quantifier_ok = token_ok (placed_view quantifier_view) (placed_mk (λ a. Sign (spell_quantifier a))) quantifier_spelling

pub shaped_ok : {T B : Type 0} (L : Lang T) (f : L.Tree → B) (tb : B → List T) (ib : B → Type 0) (g : B → L.Tree) → Ok L → Shape L.toks tb L.In ib f g → Ok (shaped L f tb ib)
shaped_ok L f tb ib g h c n = map_good L.toks tb L.In ib L.stop n L.parse f g (h n) c

pub begins_sign : (k : Kind) → (L : Lang PlacedToken) → Begins (is k) (both (sign k) L)
begins_sign k L = begins_both (is k) (sign k) L (begins_token (place_view k) (at k) (sign_spelling k))

pub sign_stops : (k : Kind) → (stop : PlacedToken → Bool) → ((p : ℕ) → IsTrue (stop (at k p))) → (t : PlacedToken) → is k t ≡ true → IsTrue (stop t)
sign_stops k stop h = of_seen (place_view k) (at k) (sign_spelling k) (λ t. IsTrue (stop t)) h

pub after_sign_ok : (k : Kind) → (L : Lang PlacedToken) → Ok L → (any : L.Tree) → L.In any → Ok (both (sign k) L)
after_sign_ok k L h any inside = both_ok (sign k) L (sign_ok k) h any inside (meets_always (sign k) L refl)

-- X { sign X }
pub list_level_ok : (k : Kind) → (L : Lang PlacedToken) → Ok L → (any : L.Tree) → L.In any → ((p : ℕ) → IsTrue (L.stop (at k p))) → Ok (both L (items (is k) (both (sign k) L)))
list_level_ok k L h any inside s = both_ok L (items (is k) (both (sign k) L)) h (items_ok (is k) (both (sign k) L) (after_sign_ok k L h any inside) (begins_sign k L) (sign_stops k L.stop s)) [] tt (meets_items (is k) L (both (sign k) L) (begins_sign k L) (sign_stops k L.stop s) (λ t i. beyond_stops (is k) L.stop t i))

-- X [ sign X ]
pub pair_level_ok : (k : Kind) → (L : Lang PlacedToken) → Ok L → (any : L.Tree) → L.In any → ((p : ℕ) → IsTrue (L.stop (at k p))) → Ok (both L (perhaps (is k) (both (sign k) L)))
pair_level_ok k L h any inside s = both_ok L (perhaps (is k) (both (sign k) L)) h (perhaps_ok (is k) (both (sign k) L) (after_sign_ok k L h any inside) (begins_sign k L)) (other tt) tt (meets_perhaps (is k) L (both (sign k) L) (begins_sign k L) (sign_stops k L.stop s) (λ t i. beyond_stops (is k) L.stop t i))

-- groups
some_unary : Unary
some_unary = Simple (first some_truth)

some_and : And
some_and = Units (Simple (first some_truth)) NoUnit

some_or : Or
some_or = Ands (Units (Simple (first some_truth)) NoUnit) NoAnd

pub some_form : Form
some_form = Plain (OneImp (OneOr (Ands (Units (Simple (first some_truth)) NoUnit) NoAnd)))

some_declarations : Declarations
some_declarations = record { left = some_declaration; right = [] }

not_some : (l : Levels) (n : ℕ) → Ok (inner_unary l n) → Ok (not_lang (Some l) (suc n))
not_some l n h = after_sign_ok kind.Not (inner_unary l n) h (Simple (first some_truth)) tt

paren_some : (l : Levels) (n : ℕ) → Ok (inner_form l n) → Ok (paren_lang (Some l) (suc n))
paren_some l n h = both_ok (sign kind.Open) (both (inner_form l n) (sign kind.Close)) (sign_ok kind.Open) (both_ok (inner_form l n) (sign kind.Close) h (sign_ok kind.Close) 0 tt (λ b z s. refl)) (record { left = Plain (OneImp (OneOr (Ands (Units (Simple (first some_truth)) NoUnit) NoAnd))); right = 0 }) (((tt, tt), tt), tt) (meets_always (sign kind.Open) (both (inner_form l n) (sign kind.Close)) refl)

quant_some : (l : Levels) (n : ℕ) → Ok (inner_form l n) → Ok (quant_lang (Some l) (suc n))
quant_some l n h = both_ok quantifier (both declarations (both (sign kind.Colon) (inner_form l n))) quantifier_ok (both_ok declarations (both (sign kind.Colon) (inner_form l n)) declarations_ok (after_sign_ok kind.Colon (inner_form l n) h (Plain (OneImp (OneOr (Ands (Units (Simple (first some_truth)) NoUnit) NoAnd)))) ((tt, tt), tt)) (record { left = 0; right = Plain (OneImp (OneOr (Ands (Units (Simple (first some_truth)) NoUnit) NoAnd))) }) (tt, ((tt, tt), tt)) (λ b z s. refl)) (record { left = record { left = some_declaration; right = [] }; right = record { left = 0; right = Plain (OneImp (OneOr (Ands (Units (Simple (first some_truth)) NoUnit) NoAnd))) } }) (((tt, tt), tt), (tt, ((tt, tt), tt))) (meets_always quantifier (both declarations (both (sign kind.Colon) (inner_form l n))) refl)

not_none : Ok (not_lang None 0)
not_none n = gate_good (not_lang None 0).toks (not_lang None 0).In atom.stop (is kind.Not) n (λ l. (both (sign kind.Not) (inner_unary l 0)).parse) (record { heads = λ a z. refl; openers = λ t h. by t (seen_some (place_view kind.Not) (at kind.Not) (sign_spelling kind.Not) t h); no_room = λ a h. h })
  where
    by : (t : PlacedToken) → (p : ℕ) × (t ≡ at kind.Not p) → (a : Pair ℕ Unary) × ((w : List PlacedToken) × ((not_lang None 0).toks a ≡ t ∷ w))
    by t h = (record { left = h.0; right = Simple (first some_truth) }, (unary_toks (Simple (first some_truth)), ap (λ i. i ∷ unary_toks (Simple (first some_truth))) (sym h.1)))

paren_none : Ok (paren_lang None 0)
paren_none n = gate_good (paren_lang None 0).toks (paren_lang None 0).In always (is kind.Open) n (λ l. (both (sign kind.Open) (both (inner_form l 0) (sign kind.Close))).parse) (record { heads = λ a z. refl; openers = λ t h. by t (seen_some (place_view kind.Open) (at kind.Open) (sign_spelling kind.Open) t h); no_room = λ a h. h })
  where
    by : (t : PlacedToken) → (p : ℕ) × (t ≡ at kind.Open p) → (a : Pair ℕ (Pair Form ℕ)) × ((w : List PlacedToken) × ((paren_lang None 0).toks a ≡ t ∷ w))
    by t h = (record { left = h.0; right = record { left = some_form; right = 0 } }, (form_toks some_form ++ (at kind.Close 0 ∷ []), ap (λ i. i ∷ (form_toks some_form ++ (at kind.Close 0 ∷ []))) (sym h.1)))

quant_none : Ok (quant_lang None 0)
quant_none n = gate_good (quant_lang None 0).toks (quant_lang None 0).In form_stop is_quantifier n (λ l. (both quantifier (both declarations (both (sign kind.Colon) (inner_form l 0)))).parse) (record { heads = λ a z. seen_mk (placed_view quantifier_view) (placed_mk (λ q. Sign (spell_quantifier q))) quantifier_spelling a.left; openers = λ t h. by t (seen_some (placed_view quantifier_view) (placed_mk (λ q. Sign (spell_quantifier q))) quantifier_spelling t h); no_room = λ a h. h })
  where
    by : (t : PlacedToken) → (q : Pair Quantifier ℕ) × (t ≡ placed_mk (λ q. Sign (spell_quantifier q)) q) → (a : Pair (Pair Quantifier ℕ) (Pair Declarations (Pair ℕ Form))) × ((w : List PlacedToken) × ((quant_lang None 0).toks a ≡ t ∷ w))
    by t h = (record { left = h.0; right = record { left = some_declarations; right = record { left = 0; right = some_form } } }, (declarations.toks some_declarations ++ ((at kind.Colon 0 ∷ []) ++ form_toks some_form), ap (λ i. i ∷ (declarations.toks some_declarations ++ ((at kind.Colon 0 ∷ []) ++ form_toks some_form))) (sym h.1)))

fewer_map : (n : ℕ) {P Q : ℕ → Type 0} → ((m : ℕ) → P m → Q m) → fewer n P → fewer n Q
fewer_map zero f h = h
fewer_map (suc n) f h = f n h

-- unary formulas
unary_back : Unary → Either (Pair ℕ Unary) (Either (Pair ℕ (Pair Form ℕ)) Atom)
unary_back (Not p a) = first (record { left = p; right = a })
unary_back (Paren p f q) = other (first (record { left = p; right = record { left = f; right = q } }))
unary_back (Simple a) = other (other a)

unary_ok : (o : Option Levels) (n : ℕ) → Ok (not_lang o n) → Ok (paren_lang o n) → Ok (unary_lang o n)
unfolding unary_back
unary_ok o n hn hp = shaped_ok (either (is kind.Not) (not_lang o n) (either (is kind.Open) (paren_lang o n) atom)) unary_of unary_toks (unary_in n) unary_back (either_ok (is kind.Not) (not_lang o n) (either (is kind.Open) (paren_lang o n) atom) hn (either_ok (is kind.Open) (paren_lang o n) atom hp atom_ok (λ t h. refl) (λ a z. refl) (λ b z s. avoids_atom (is kind.Open) (λ p. refl) (λ p. refl) (λ p. refl) (λ m p. refl) (λ m p. refl) b z)) (λ t h. h) (λ a z. refl) avoids) (record { back = back; toks = toks; into = into; out = out })
  where
    avoids : (b : Either (Pair ℕ (Pair Form ℕ)) Atom) (z : List PlacedToken) → Stops atom.stop z → starts_with (is kind.Not) ((either (is kind.Open) (paren_lang o n) atom).toks b ++ z) ≡ false
    avoids (first x) z s = refl
    avoids (other x) z s = avoids_atom (is kind.Not) (λ p. refl) (λ p. refl) (λ p. refl) (λ m p. refl) (λ m p. refl) x z

    back : (b : Unary) → unary_of (unary_back b) ≡ b
    back (Not p a) = refl
    back (Paren p f q) = refl
    back (Simple a) = refl

    toks : (a : Either (Pair ℕ Unary) (Either (Pair ℕ (Pair Form ℕ)) Atom)) → unary_toks (unary_of a) ≡ (either (is kind.Not) (not_lang o n) (either (is kind.Open) (paren_lang o n) atom)).toks a
    toks (first x) = refl
    toks (other (first x)) = refl
    toks (other (other x)) = refl

    into : (a : Either (Pair ℕ Unary) (Either (Pair ℕ (Pair Form ℕ)) Atom)) → (either (is kind.Not) (not_lang o n) (either (is kind.Open) (paren_lang o n) atom)).In a → unary_in n (unary_of a)
    into (first x) h = fewer_map n (λ m i. i.1) h
    into (other (first x)) h = fewer_map n (λ m i. i.1.0) h
    into (other (other x)) h = h

    out : (b : Unary) → unary_in n b → (either (is kind.Not) (not_lang o n) (either (is kind.Open) (paren_lang o n) atom)).In (unary_back b)
    out (Not p a) h = fewer_map n (λ m i. (tt, i)) h
    out (Paren p f q) h = fewer_map n (λ m i. (tt, (i, tt))) h
    out (Simple a) h = h

-- what a unary formula begins with, and so each formula that has no quantifier in front
first_unary : (a : Unary) (z : List PlacedToken) → starts_with is_quantifier (unary_toks a ++ z) ≡ false
first_unary (Not p a) z = refl
first_unary (Paren p f q) z = refl
first_unary (Simple a) z = avoids_atom is_quantifier (λ p. refl) (λ p. refl) (λ p. refl) (λ m p. refl) (λ m p. refl) a z

first_and : (a : And) (z : List PlacedToken) → starts_with is_quantifier (and_toks a ++ z) ≡ false
first_and (Units a l) z = ap (starts_with is_quantifier) (append_assoc (unary_toks a) (more_units_toks l) z) ∙ first_unary a (more_units_toks l ++ z)

first_or : (a : Or) (z : List PlacedToken) → starts_with is_quantifier (or_toks a ++ z) ≡ false
first_or (Ands a l) z = ap (starts_with is_quantifier) (append_assoc (and_toks a) (more_ands_toks l) z) ∙ first_and a (more_ands_toks l ++ z)

first_imp : (a : Imp) (z : List PlacedToken) → starts_with is_quantifier (imp_toks a ++ z) ≡ false
first_imp (OneOr a) z = ap (starts_with is_quantifier) (append_assoc (or_toks a) [] z) ∙ first_or a z
first_imp (TwoOrs a p b) z = ap (starts_with is_quantifier) (append_assoc (or_toks a) ((at kind.Implies p ∷ []) ++ or_toks b) z) ∙ first_or a (((at kind.Implies p ∷ []) ++ or_toks b) ++ z)

first_iff : (a : Iff) (z : List PlacedToken) → starts_with is_quantifier (iff_toks a ++ z) ≡ false
first_iff (OneImp a) z = ap (starts_with is_quantifier) (append_assoc (imp_toks a) [] z) ∙ first_imp a z
first_iff (TwoImps a p b) z = ap (starts_with is_quantifier) (append_assoc (imp_toks a) ((at kind.Equivalent p ∷ []) ++ imp_toks b) z) ∙ first_imp a (((at kind.Equivalent p ∷ []) ++ imp_toks b) ++ z)

-- and
more_units_back : MoreUnits → List (Pair ℕ Unary)
more_units_back NoUnit = []
more_units_back (AndUnit p a l) = record { left = p; right = a } ∷ more_units_back l

and_back : And → Pair Unary (List (Pair ℕ Unary))
and_back (Units a l) = record { left = a; right = more_units_back l }

units_again : (l : MoreUnits) → more_units_of (more_units_back l) ≡ l
unfolding more_units_back
units_again NoUnit = refl
units_again (AndUnit p a l) = ap (λ x. AndUnit p a x) (units_again l)

units_toks : (l : List (Pair ℕ Unary)) → more_units_toks (more_units_of l) ≡ all_toks (pair_toks (λ p. at kind.And p ∷ []) unary_toks) l
units_toks [] = refl
units_toks (x ∷ l) = ap (λ y. ((at kind.And x.left ∷ []) ++ unary_toks x.right) ++ y) (units_toks l)

units_in : (n : ℕ) (l : List (Pair ℕ Unary)) → all_in (pair_in anything (unary_in n)) l → more_units_in n (more_units_of l)
units_in n [] h = tt
units_in n (x ∷ l) h = (h.0.1, units_in n l h.1)

units_out : (n : ℕ) (l : MoreUnits) → more_units_in n l → all_in (pair_in anything (unary_in n)) (more_units_back l)
unfolding more_units_back
units_out n NoUnit h = tt
units_out n (AndUnit p a l) h = ((tt, h.0), units_out n l h.1)

and_ok : (o : Option Levels) (n : ℕ) → Ok (unary_lang o n) → Ok (and_lang o n)
unfolding and_back
and_ok o n h = shaped_ok (both (unary_lang o n) (items (is kind.And) (both (sign kind.And) (unary_lang o n)))) and_of and_toks (and_in n) and_back (list_level_ok kind.And (unary_lang o n) h (Simple (first some_truth)) tt (λ p. refl)) (record { back = back; toks = λ x. ap (λ y. unary_toks x.left ++ y) (units_toks x.right); into = λ x i. (i.0, units_in n x.right i.1); out = out })
  where
    back : (b : And) → and_of (and_back b) ≡ b
    back (Units a l) = ap (λ x. Units a x) (units_again l)

    out : (b : And) → and_in n b → pair_in (unary_in n) (all_in (pair_in anything (unary_in n))) (and_back b)
    out (Units a l) i = (i.0, units_out n l i.1)

-- or
more_ands_back : MoreAnds → List (Pair ℕ And)
more_ands_back NoAnd = []
more_ands_back (OrAnd p a l) = record { left = p; right = a } ∷ more_ands_back l

or_back : Or → Pair And (List (Pair ℕ And))
or_back (Ands a l) = record { left = a; right = more_ands_back l }

ands_again : (l : MoreAnds) → more_ands_of (more_ands_back l) ≡ l
unfolding more_ands_back
ands_again NoAnd = refl
ands_again (OrAnd p a l) = ap (λ x. OrAnd p a x) (ands_again l)

ands_toks : (l : List (Pair ℕ And)) → more_ands_toks (more_ands_of l) ≡ all_toks (pair_toks (λ p. at kind.Or p ∷ []) and_toks) l
ands_toks [] = refl
ands_toks (x ∷ l) = ap (λ y. ((at kind.Or x.left ∷ []) ++ and_toks x.right) ++ y) (ands_toks l)

ands_in : (n : ℕ) (l : List (Pair ℕ And)) → all_in (pair_in anything (and_in n)) l → more_ands_in n (more_ands_of l)
ands_in n [] h = tt
ands_in n (x ∷ l) h = (h.0.1, ands_in n l h.1)

ands_out : (n : ℕ) (l : MoreAnds) → more_ands_in n l → all_in (pair_in anything (and_in n)) (more_ands_back l)
unfolding more_ands_back
ands_out n NoAnd h = tt
ands_out n (OrAnd p a l) h = ((tt, h.0), ands_out n l h.1)

or_ok : (o : Option Levels) (n : ℕ) → Ok (and_lang o n) → Ok (or_lang o n)
unfolding or_back
or_ok o n h = shaped_ok (both (and_lang o n) (items (is kind.Or) (both (sign kind.Or) (and_lang o n)))) or_of or_toks (or_in n) or_back (list_level_ok kind.Or (and_lang o n) h (Units (Simple (first some_truth)) NoUnit) (tt, tt) (λ p. refl)) (record { back = back; toks = λ x. ap (λ y. and_toks x.left ++ y) (ands_toks x.right); into = λ x i. (i.0, ands_in n x.right i.1); out = out })
  where
    back : (b : Or) → or_of (or_back b) ≡ b
    back (Ands a l) = ap (λ x. Ands a x) (ands_again l)

    out : (b : Or) → or_in n b → pair_in (and_in n) (all_in (pair_in anything (and_in n))) (or_back b)
    out (Ands a l) i = (i.0, ands_out n l i.1)

-- imp
imp_back : Imp → Pair Or (Either (Pair ℕ Or) Unit)
imp_back (OneOr a) = record { left = a; right = other tt }
imp_back (TwoOrs a p b) = record { left = a; right = first (record { left = p; right = b }) }

imp_ok : (o : Option Levels) (n : ℕ) → Ok (or_lang o n) → Ok (imp_lang o n)
unfolding imp_back
imp_ok o n h = shaped_ok (both (or_lang o n) (perhaps (is kind.Implies) (both (sign kind.Implies) (or_lang o n)))) imp_of imp_toks (imp_in n) imp_back (pair_level_ok kind.Implies (or_lang o n) h (Ands (Units (Simple (first some_truth)) NoUnit) NoAnd) ((tt, tt), tt) (λ p. refl)) (record { back = back; toks = λ x. toks x.left x.right; into = λ x. into x.left x.right; out = out })
  where
    back : (b : Imp) → imp_of (imp_back b) ≡ b
    back (OneOr a) = refl
    back (TwoOrs a p b) = refl

    toks : (a : Or) (e : Either (Pair ℕ Or) Unit) → imp_toks (imp_of (record { left = a; right = e })) ≡ or_toks a ++ sum_toks (pair_toks (λ p. at kind.Implies p ∷ []) or_toks) (λ u. []) e
    toks a (first x) = refl
    toks a (other x) = refl

    into : (a : Or) (e : Either (Pair ℕ Or) Unit) → or_in n a × sum_in (pair_in anything (or_in n)) anything e → imp_in n (imp_of (record { left = a; right = e }))
    into a (first x) i = (i.0, i.1.1)
    into a (other x) i = i.0

    out : (b : Imp) → imp_in n b → pair_in (or_in n) (sum_in (pair_in anything (or_in n)) anything) (imp_back b)
    out (OneOr a) i = (i, tt)
    out (TwoOrs a p b) i = (i.0, (tt, i.1))

-- iff
iff_back : Iff → Pair Imp (Either (Pair ℕ Imp) Unit)
iff_back (OneImp a) = record { left = a; right = other tt }
iff_back (TwoImps a p b) = record { left = a; right = first (record { left = p; right = b }) }

iff_ok : (o : Option Levels) (n : ℕ) → Ok (imp_lang o n) → Ok (iff_lang o n)
unfolding iff_back
iff_ok o n h = shaped_ok (both (imp_lang o n) (perhaps (is kind.Equivalent) (both (sign kind.Equivalent) (imp_lang o n)))) iff_of iff_toks (iff_in n) iff_back (pair_level_ok kind.Equivalent (imp_lang o n) h (OneOr (Ands (Units (Simple (first some_truth)) NoUnit) NoAnd)) ((tt, tt), tt) (λ p. refl)) (record { back = back; toks = λ x. toks x.left x.right; into = λ x. into x.left x.right; out = out })
  where
    back : (b : Iff) → iff_of (iff_back b) ≡ b
    back (OneImp a) = refl
    back (TwoImps a p b) = refl

    toks : (a : Imp) (e : Either (Pair ℕ Imp) Unit) → iff_toks (iff_of (record { left = a; right = e })) ≡ imp_toks a ++ sum_toks (pair_toks (λ p. at kind.Equivalent p ∷ []) imp_toks) (λ u. []) e
    toks a (first x) = refl
    toks a (other x) = refl

    into : (a : Imp) (e : Either (Pair ℕ Imp) Unit) → imp_in n a × sum_in (pair_in anything (imp_in n)) anything e → iff_in n (iff_of (record { left = a; right = e }))
    into a (first x) i = (i.0, i.1.1)
    into a (other x) i = i.0

    out : (b : Iff) → iff_in n b → pair_in (imp_in n) (sum_in (pair_in anything (imp_in n)) anything) (iff_back b)
    out (OneImp a) i = (i, tt)
    out (TwoImps a p b) i = (i.0, (tt, i.1))

-- formulas
form_back : Form → Either (Pair (Pair Quantifier ℕ) (Pair Declarations (Pair ℕ Form))) Iff
form_back (Quant w d p f) = first (record { left = w; right = record { left = d; right = record { left = p; right = f } } })
form_back (Plain i) = other i

form_ok : (o : Option Levels) (n : ℕ) → Ok (quant_lang o n) → Ok (iff_lang o n) → Ok (form_lang o n)
unfolding form_back
form_ok o n hq hi = shaped_ok (either is_quantifier (quant_lang o n) (iff_lang o n)) form_of form_toks (form_in n) form_back (either_ok is_quantifier (quant_lang o n) (iff_lang o n) hq hi (λ t h. h) (λ a z. seen_mk (placed_view quantifier_view) (placed_mk (λ q. Sign (spell_quantifier q))) quantifier_spelling a.left) (λ b z s. first_iff b z)) (record { back = back; toks = toks; into = into; out = out })
  where
    back : (b : Form) → form_of (form_back b) ≡ b
    back (Quant w d p f) = refl
    back (Plain i) = refl

    toks : (a : Either (Pair (Pair Quantifier ℕ) (Pair Declarations (Pair ℕ Form))) Iff) → form_toks (form_of a) ≡ (either is_quantifier (quant_lang o n) (iff_lang o n)).toks a
    toks (first x) = refl
    toks (other x) = refl

    into : (a : Either (Pair (Pair Quantifier ℕ) (Pair Declarations (Pair ℕ Form))) Iff) → (either is_quantifier (quant_lang o n) (iff_lang o n)).In a → form_in n (form_of a)
    into (first x) h = fewer_map n (λ m i. (i.1.0, i.1.1.1)) h
    into (other x) h = h

    out : (b : Form) → form_in n b → (either is_quantifier (quant_lang o n) (iff_lang o n)).In (form_back b)
    out (Quant w d p f) h = fewer_map n (λ m i. (tt, (i.0, (tt, i.1)))) h
    out (Plain i) h = h

record Both (o : Option Levels) (n : ℕ) : Type 0 where
  forms : Ok (form_lang o n)
  unaries : Ok (unary_lang o n)

one_level : (o : Option Levels) (n : ℕ) → Ok (not_lang o n) → Ok (paren_lang o n) → Ok (quant_lang o n) → Both o n
one_level o n hn hp hq = let u : Ok (unary_lang o n) = unary_ok o n hn hp in record { forms = form_ok o n hq (iff_ok o n (imp_ok o n (or_ok o n (and_ok o n u)))); unaries = u }

all_levels : (n : ℕ) → Both (room n) n
all_levels zero = one_level None 0 not_none paren_none quant_none
all_levels (suc n) = let h : Both (room n) n = all_levels n in one_level (Some (record { form = (form_lang (room n) 0).parse; unary = (unary_lang (room n) 0).parse })) (suc n) (not_some (record { form = (form_lang (room n) 0).parse; unary = (unary_lang (room n) 0).parse }) n h.unaries) (paren_some (record { form = (form_lang (room n) 0).parse; unary = (unary_lang (room n) 0).parse }) n h.forms) (quant_some (record { form = (form_lang (room n) 0).parse; unary = (unary_lang (room n) 0).parse }) n h.forms)

pub formula_ok : (n : ℕ) → Ok (formula n)
formula_ok n = (all_levels n).forms
