-- A shape has no more declarations and parts of terms than what it was read from has tokens.
use Rattle.std.proofs.Common.{◌+◌, ◌≤◌, List, [], ◌∷◌, ◌++◌, length, false, arith}
use Rattle.std.proofs.lemmas.List.{length-append, length_push}
use Rattle.parser_laws.specs.Parsing.{Either, first, other, Lang, both, either, perhaps, items}
use Rattle.script_tokens.specs.declared.kind.Kind.{Kind}
use Rattle.script_tokens.specs.declared.kind.Kind.TheVariants as kind
use Rattle.script_tokens.specs.Tokens.{PlacedToken}
use Rattle.script_grammar.specs.Views.{is, is_name, sign, relation, at}
use Rattle.script_grammar.specs.Terms.{scaled, part, tail, term, arguments, called, compared, atom, declaration, declarations}
use Rattle.script_grammar.specs.Formulas.{Form, Quant, Plain, Iff, OneImp, TwoImps, Imp, OneOr, TwoOrs, Or, Ands, MoreAnds, NoAnd, OrAnd, And, Units, MoreUnits, NoUnit, AndUnit, Unary, Not, Paren, Simple, form_toks, iff_toks, imp_toks, or_toks, more_ands_toks, and_toks, more_units_toks, unary_toks}
use Rattle.script_grammar.specs.Statements.{header}
use Rattle.script_syntax.specs.Reading.{folded}
use Rattle.script_syntax.specs.Trees.{SignedShape, Variable, negated, named_shape, lead_shape, DeclarationShape, TreeShape, And as AndShape, Or as OrShape, add_part, part_shape, is_minus, term_shape, add_term, arguments_shape, add_declaration, declaration_shape, declarations_shape, perhaps_declared, header_shape, compared_shape, atom_shape, form_shape, iff_shape, imp_shape, or_shape, more_ands_shape, and_shape, more_units_shape, unary_shape}
use Rattle.script_statements.specs.Statements.{Described, described_shape}
use Rattle.script_meaning.specs.Limits.{parts_of, size_of}

-- the grammar's parts that have no name there
abbrev minus : Lang PlacedToken
minus = perhaps (is kind.Minus) (sign kind.Minus)

abbrev more_declarations : Lang PlacedToken
more_declarations = items (is kind.Comma) (both (sign kind.Comma) declaration)

abbrev perhaps_declarations : Lang PlacedToken
perhaps_declarations = perhaps is_name declarations

abbrev more_terms : Lang PlacedToken
more_terms = items (is kind.Comma) (both (sign kind.Comma) term)

abbrev lead : Lang PlacedToken
lead = either (is kind.Minus) (both (sign kind.Minus) part) scaled

-- the tokens of a header, a sign, a formula and a semicolon
abbrev pub described_toks : Kind → Described → List PlacedToken
described_toks k x = header.toks x.left ++ (at k x.right.left ∷ (form_toks x.right.right.left ++ at kind.Semicolon x.right.right.right ∷ []))

some_part : (p : part.Tree) → 1 ≤ length (part.toks p)
some_part (first x) = omega arith
some_part (other x) = omega arith

parts_more : (s : List SignedShape) (l : tail.Tree) → length (folded add_part s l) ≤ length s + length (tail.toks l)
parts_more s [] = omega arith
parts_more s (x ∷ l) = omega (arith, parts_more (add_part s x) l, length_push s (record { minus = is_minus x.left.left; part = part_shape x.right }), length-append (part.toks x.right) (tail.toks l))

-- a term has no more parts than tokens
pub term_small : (t : term.Tree) → length (term_shape t) ≤ length (term.toks t)
term_small t = omega (arith, parts_more (record { minus = negated t.left; part = part_shape t.right.left } ∷ []) t.right.right, some_part t.right.left, length-append (part.toks t.right.left) (tail.toks t.right.right), length-append (minus.toks t.left) (part.toks t.right.left ++ tail.toks t.right.right))

parts_push : (s : List (List SignedShape)) (t : List SignedShape) → parts_of (s ++ t ∷ []) ≤ parts_of s + length t
parts_push [] t = omega arith
parts_push (x ∷ s) t = omega (arith, parts_push s t)

terms_more : (s : List (List SignedShape)) (l : more_terms.Tree) → parts_of (folded add_term s l) ≤ parts_of s + length (more_terms.toks l)
terms_more s [] = omega arith
terms_more s (x ∷ l) = omega (arith, terms_more (add_term s x) l, parts_push s (term_shape x.right), term_small x.right, length-append (term.toks x.right) (more_terms.toks l))

-- arguments have no more parts than tokens
arguments_small : (x : arguments.Tree) → parts_of (arguments_shape x) ≤ length (arguments.toks x)
arguments_small (first x) = omega (arith, terms_more (term_shape x.left ∷ []) x.right, term_small x.left, length-append (term.toks x.left) (more_terms.toks x.right))
arguments_small (other x) = omega arith

declarations_more : (s : List DeclarationShape) (l : more_declarations.Tree) → length (folded add_declaration s l) ≤ length s + length (more_declarations.toks l)
declarations_more s [] = omega arith
declarations_more s (x ∷ l) = omega (arith, declarations_more (add_declaration s x) l, length_push s (declaration_shape x.right))

-- there are no more declarations than tokens
pub declarations_small : (d : declarations.Tree) → length (declarations_shape d) ≤ length (declarations.toks d)
declarations_small d = omega (arith, declarations_more (declaration_shape d.left ∷ []) d.right)

perhaps_small : (x : Either declarations.Tree Unit) → length (perhaps_declared x) ≤ length (perhaps_declarations.toks x)
perhaps_small (first x) = declarations_small x
perhaps_small (other x) = omega arith

pub header_small : (x : header.Tree) → length (header_shape x) ≤ length (header.toks x)
header_small x = omega (arith, perhaps_small x.right.left, length-append (perhaps_declarations.toks x.right.left) (at kind.Close x.right.right ∷ []))

compared_small : (s : SignedShape) (x : compared.Tree) → size_of (compared_shape s x) ≤ 1 + length (compared.toks x)
compared_small s x = omega (arith, parts_more (s ∷ []) x.left, term_small x.right.right, length-append (tail.toks x.left) ((both relation term).toks x.right))

-- an atom has no more parts of terms than tokens
pub atom_small : (a : atom.Tree) → size_of (atom_shape a) ≤ length (atom.toks a)
atom_small (first x) = omega arith
atom_small (other (first x)) = omega (arith, by x.right)
  where
    by : (y : Either called.Tree compared.Tree) → size_of (named_shape x.left y) ≤ 1 + length ((either (is kind.Open) called compared).toks y)
    by (first y) = omega (arith, arguments_small y.right.left, length-append (arguments.toks y.right.left) (at kind.Close y.right.right ∷ []))
    by (other y) = compared_small (record { minus = false; part = Variable x.left }) y
atom_small (other (other x)) = by x.left
  where
    by : (y : lead.Tree) → size_of (compared_shape (lead_shape y) x.right) ≤ length (lead.toks y ++ compared.toks x.right)
    by (first y) = omega (arith, compared_small (lead_shape (first y)) x.right, length-append (part.toks y.right) (compared.toks x.right))
    by (other y) = omega (arith, compared_small (lead_shape (other y)) x.right, length-append (lead.toks (other y)) (compared.toks x.right))

mutual
  -- a formula has no more declared variables and parts of terms than tokens
  pub form_small : (f : Form) → size_of (form_shape f) ≤ length (form_toks f)
  form_small (Quant w d p f) = omega (arith, declarations_small d, form_small f, length-append (declarations.toks d) (at kind.Colon p ∷ form_toks f))
  form_small (Plain i) = iff_small i

  iff_small : (i : Iff) → size_of (iff_shape i) ≤ length (iff_toks i)
  iff_small (OneImp a) = omega (arith, imp_small a, length-append (imp_toks a) [])
  iff_small (TwoImps a p b) = omega (arith, imp_small a, imp_small b, length-append (imp_toks a) (at kind.Equivalent p ∷ imp_toks b))

  imp_small : (i : Imp) → size_of (imp_shape i) ≤ length (imp_toks i)
  imp_small (OneOr a) = omega (arith, or_small a, length-append (or_toks a) [])
  imp_small (TwoOrs a p b) = omega (arith, or_small a, or_small b, length-append (or_toks a) (at kind.Implies p ∷ or_toks b))

  or_small : (o : Or) → size_of (or_shape o) ≤ length (or_toks o)
  or_small (Ands a l) = omega (arith, and_small a, more_ands_small l (and_shape a), length-append (and_toks a) (more_ands_toks l))

  more_ands_small : (l : MoreAnds) (s : TreeShape) → size_of (more_ands_shape l s) ≤ size_of s + length (more_ands_toks l)
  more_ands_small NoAnd s = omega arith
  more_ands_small (OrAnd p a l) s = omega (arith, and_small a, more_ands_small l (OrShape s (and_shape a)), length-append (and_toks a) (more_ands_toks l))

  and_small : (a : And) → size_of (and_shape a) ≤ length (and_toks a)
  and_small (Units a l) = omega (arith, unary_small a, more_units_small l (unary_shape a), length-append (unary_toks a) (more_units_toks l))

  more_units_small : (l : MoreUnits) (s : TreeShape) → size_of (more_units_shape l s) ≤ size_of s + length (more_units_toks l)
  more_units_small NoUnit s = omega arith
  more_units_small (AndUnit p a l) s = omega (arith, unary_small a, more_units_small l (AndShape s (unary_shape a)), length-append (unary_toks a) (more_units_toks l))

  unary_small : (a : Unary) → size_of (unary_shape a) ≤ length (unary_toks a)
  unary_small (Not p a) = omega (arith, unary_small a)
  unary_small (Paren p f q) = omega (arith, form_small f, length-append (form_toks f) (at kind.Close q ∷ []))
  unary_small (Simple a) = atom_small a

-- declared variables with a formula have no more of both than tokens
pub described_small : (k : Kind) (x : Described) → length (described_shape x).vars + size_of (described_shape x).formula ≤ length (described_toks k x)
described_small k x = omega (arith, header_small x.left, form_small x.right.right.left, length-append (form_toks x.right.right.left) (at kind.Semicolon x.right.right.right ∷ []), length-append (header.toks x.left) (at k x.right.left ∷ (form_toks x.right.right.left ++ at kind.Semicolon x.right.right.right ∷ [])))
