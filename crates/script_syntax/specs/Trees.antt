-- Trees without levels: those of the grammar, where lists nest to the left and groups vanish, and those of the program.
use Rattle.std.specs.Prelude.{ℕ, List, [], ◌∷◌, ◌++◌, map, Bool, true, false, Option, None, Some}
use Rattle.parser_laws.specs.Parsing.{Res, Either, first, other, Pair, both}
use Rattle.script_tokens.specs.Tokens.{PlacedToken}
use Rattle.lash_model.specs.Formulas.{Sort}
use Rattle.formula_core.specs.Variables.{sort_of}
use Rattle.script_tokens.specs.declared.kind.Kind.TheVariants as kind
use Rattle.script_grammar.specs.Views.{Adding, Plus, Minus, adding, adding_view, is_adding, Relation, AtMost, Below, AtLeast, Above, Equal, Unequal, Quantifier, Exists, Forall, relation, is, sign}
use Rattle.script_grammar.specs.Terms.{scaled, part, term, terms, arguments, called, compared, named, unnamed, atom, declaration, declarations}
use Rattle.script_grammar.specs.Formulas.{Form, Quant, Plain, Iff, OneImp, TwoImps, Imp, OneOr, TwoOrs, Or as GrammarOr, Ands, MoreAnds, NoAnd, OrAnd, And as GrammarAnd, Units, MoreUnits, NoUnit, AndUnit, Unary, Not as GrammarNot, Paren, Simple, Levels, unary_lang, and_lang}
use Rattle.script_grammar.specs.Statements.{header}
use Rattle.script_syntax.specs.Reading.{folded, rest_of}
use Rattle.script_syntax.specs.declared.tree.NameAt.{NameAt}
use Rattle.script_syntax.specs.declared.tree.Part.{Part}
use Rattle.script_syntax.specs.declared.tree.Part.TheVariants.{Constant as DeclaredConstant, Scaled as DeclaredScaled, Variable as DeclaredVariable}
use Rattle.script_syntax.specs.declared.tree.Signed.{Signed}
use Rattle.script_syntax.specs.declared.tree.Term.{Term}
use Rattle.script_syntax.specs.declared.tree.Declaration.{Declaration}
use Rattle.script_syntax.specs.declared.tree.Relation.{Relation as DeclaredRelation}
use Rattle.script_syntax.specs.declared.tree.Relation.TheVariants.{AtMost as DeclaredAtMost, Below as DeclaredBelow, AtLeast as DeclaredAtLeast, Above as DeclaredAbove, Equal as DeclaredEqual, Unequal as DeclaredUnequal}
use Rattle.script_syntax.specs.declared.tree.Quantifier.{Quantifier as DeclaredQuantifier}
use Rattle.script_syntax.specs.declared.tree.Quantifier.TheVariants.{Exists as DeclaredExists, Forall as DeclaredForall}
use Rattle.script_syntax.specs.declared.tree.Tree.{Tree}
use Rattle.script_syntax.specs.declared.tree.Tree.TheVariants.{Truth as DeclaredTruth, Compare as DeclaredCompare, Call as DeclaredCall, Not' as DeclaredNot', And' as DeclaredAnd', Or' as DeclaredOr', Implies' as DeclaredImplies', Equivalent' as DeclaredEquivalent', Quantified' as DeclaredQuantified'}
use Rattle.formula_core.specs.declared.sort.Sort.{Sort as DeclaredSort}

-- a name with its place
abbrev pub Named : Type 0
Named = Pair (List ℕ) ℕ

pub data PartShape : Type 0 where
  Constant : ℕ → PartShape
  Scaled : ℕ → Named → PartShape
  Variable : Named → PartShape

pub record SignedShape : Type 0 where
  pub minus : Bool
  pub part : PartShape

abbrev pub scaled_shape : ℕ → Either (Pair ℕ Named) Unit → PartShape
scaled_shape n (first x) = Scaled n x.right
scaled_shape n (other x) = Constant n

abbrev pub scaled_part : scaled.Tree → PartShape
scaled_part x = scaled_shape x.left.left x.right

abbrev pub part_shape : part.Tree → PartShape
part_shape (first x) = scaled_part x
part_shape (other x) = Variable x

abbrev pub is_minus : Adding → Bool
is_minus Plus = false
is_minus Minus = true

-- a part more, behind its sign
abbrev pub join_part : List SignedShape → Pair Adding ℕ → PartShape → List SignedShape
join_part s sign p = s ++ record { minus = is_minus sign.left; part = p } ∷ []

abbrev pub add_part : List SignedShape → Pair (Pair Adding ℕ) part.Tree → List SignedShape
add_part s x = join_part s x.left (part_shape x.right)

abbrev pub negated : Either ℕ Unit → Bool
negated (first x) = true
negated (other x) = false

-- the parts of a term with their signs
abbrev pub term_shape : term.Tree → List SignedShape
term_shape x = folded add_part (record { minus = negated x.left; part = part_shape x.right.left } ∷ []) x.right.right

-- the parts that are still to be read, behind those that were
abbrev pub parts_read : ℕ → List SignedShape → List PlacedToken → Res PlacedToken (List SignedShape)
parts_read n s ts = rest_of is_adding (both adding part).parse add_part n s ts

abbrev pub minus_of : Option Adding → Option Bool
minus_of None = None
minus_of (Some a) = Some (is_minus a)

-- the sign in hand, whether it is a minus
abbrev pub adding_at : List PlacedToken → Option Bool
adding_at [] = None
adding_at (t ∷ ts) = minus_of (adding_view t.token)

-- a term more, behind its comma
abbrev pub join_term : List (List SignedShape) → ℕ → List SignedShape → List (List SignedShape)
join_term s comma t = s ++ t ∷ []

abbrev pub add_term : List (List SignedShape) → Pair ℕ term.Tree → List (List SignedShape)
add_term s x = join_term s x.left (term_shape x.right)

abbrev pub terms_shape : terms.Tree → List (List SignedShape)
terms_shape x = folded add_term (term_shape x.left ∷ []) x.right

-- the terms that are still to be read, behind those that were
abbrev pub terms_read : ℕ → List (List SignedShape) → List PlacedToken → Res PlacedToken (List (List SignedShape))
terms_read n s ts = rest_of (is kind.Comma) (both (sign kind.Comma) term).parse add_term n s ts

abbrev pub arguments_shape : arguments.Tree → List (List SignedShape)
arguments_shape (first x) = terms_shape x
arguments_shape (other x) = []

abbrev pub closed_shape : Pair arguments.Tree ℕ → List (List SignedShape)
closed_shape x = arguments_shape x.left

abbrev pub called_shape : called.Tree → List (List SignedShape)
called_shape x = closed_shape x.right

-- a name with its sort
pub record DeclarationShape : Type 0 where
  pub name : Named
  pub sort : Sort

abbrev pub declaration_shape : declaration.Tree → DeclarationShape
declaration_shape x = record { name = x.left; sort = x.right.left }

abbrev pub join_declaration : List DeclarationShape → ℕ → DeclarationShape → List DeclarationShape
join_declaration s comma d = s ++ d ∷ []

abbrev pub add_declaration : List DeclarationShape → Pair ℕ declaration.Tree → List DeclarationShape
add_declaration s x = join_declaration s x.left (declaration_shape x.right)

abbrev pub declarations_shape : declarations.Tree → List DeclarationShape
declarations_shape x = folded add_declaration (declaration_shape x.left ∷ []) x.right

-- the declarations that are still to be read, behind those that were
abbrev pub declarations_read : ℕ → List DeclarationShape → List PlacedToken → Res PlacedToken (List DeclarationShape)
declarations_read n s ts = rest_of (is kind.Comma) (both (sign kind.Comma) declaration).parse add_declaration n s ts

-- formulas
pub data TreeShape : Type 0 where
  Truth : Bool → TreeShape
  Compare : List SignedShape → Relation → List SignedShape → TreeShape
  Call : Named → List (List SignedShape) → TreeShape
  Not : TreeShape → TreeShape
  And : TreeShape → TreeShape → TreeShape
  Or : TreeShape → TreeShape → TreeShape
  Implies : TreeShape → TreeShape → TreeShape
  Equivalent : TreeShape → TreeShape → TreeShape
  Quantified : Quantifier → List DeclarationShape → TreeShape → TreeShape

-- what a table's token holds besides its place
abbrev pub without_place : {A : Type 0} → Pair A ℕ → A
without_place x = x.left

-- a comparison whose left side is given
abbrev pub related_shape : List SignedShape → (both relation term).Tree → TreeShape
related_shape s x = Compare s x.left.left (term_shape x.right)

-- a comparison whose first part is given
abbrev pub compared_shape : SignedShape → compared.Tree → TreeShape
compared_shape s x = related_shape (folded add_part (s ∷ []) x.left) x.right

abbrev pub named_shape : Named → Either called.Tree compared.Tree → TreeShape
named_shape name (first x) = Call name (called_shape x)
named_shape name (other x) = compared_shape (record { minus = false; part = Variable name }) x

abbrev pub lead_shape : Either (Pair ℕ part.Tree) scaled.Tree → SignedShape
lead_shape (first x) = record { minus = true; part = part_shape x.right }
lead_shape (other x) = record { minus = false; part = scaled_part x }

-- a call or a comparison
abbrev pub claim_shape : Either named.Tree unnamed.Tree → TreeShape
claim_shape (first x) = named_shape x.left x.right
claim_shape (other x) = compared_shape (lead_shape x.left) x.right

abbrev pub atom_shape : atom.Tree → TreeShape
atom_shape (first x) = Truth x.left
atom_shape (other x) = claim_shape x

-- the declarations of a header
abbrev pub perhaps_declared : Either declarations.Tree Unit → List DeclarationShape
perhaps_declared (first x) = declarations_shape x
perhaps_declared (other x) = []

abbrev pub closed_declared : Pair (Either declarations.Tree Unit) ℕ → List DeclarationShape
closed_declared x = perhaps_declared x.left

abbrev pub header_shape : header.Tree → List DeclarationShape
header_shape x = closed_declared x.right

-- formulas: lists nest to the left
abbrev mutual
  pub form_shape : Form → TreeShape
  form_shape (Quant w d p f) = Quantified w.left (declarations_shape d) (form_shape f)
  form_shape (Plain i) = iff_shape i

  pub iff_shape : Iff → TreeShape
  iff_shape (OneImp a) = imp_shape a
  iff_shape (TwoImps a p b) = Equivalent (imp_shape a) (imp_shape b)

  pub imp_shape : Imp → TreeShape
  imp_shape (OneOr a) = or_shape a
  imp_shape (TwoOrs a p b) = Implies (or_shape a) (or_shape b)

  pub or_shape : GrammarOr → TreeShape
  or_shape (Ands a l) = more_ands_shape l (and_shape a)

  pub more_ands_shape : MoreAnds → TreeShape → TreeShape
  more_ands_shape NoAnd s = s
  more_ands_shape (OrAnd p a l) s = more_ands_shape l (Or s (and_shape a))

  pub and_shape : GrammarAnd → TreeShape
  and_shape (Units a l) = more_units_shape l (unary_shape a)

  pub more_units_shape : MoreUnits → TreeShape → TreeShape
  more_units_shape NoUnit s = s
  more_units_shape (AndUnit p a l) s = more_units_shape l (And s (unary_shape a))

  pub unary_shape : Unary → TreeShape
  unary_shape (GrammarNot p a) = Not (unary_shape a)
  unary_shape (Paren p f q) = form_shape f
  unary_shape (Simple a) = atom_shape a

-- a unit more behind `and`, and what is behind `or`
abbrev pub join_and : TreeShape → ℕ → TreeShape → TreeShape
join_and s p t = And s t

abbrev pub join_or : TreeShape → ℕ → TreeShape → TreeShape
join_or s p t = Or s t

abbrev pub add_and : TreeShape → Pair ℕ Unary → TreeShape
add_and s x = join_and s x.left (unary_shape x.right)

abbrev pub add_or : TreeShape → Pair ℕ GrammarAnd → TreeShape
add_or s x = join_or s x.left (and_shape x.right)

-- what is still to be read of a list, behind what was
abbrev pub units_read : Option Levels → ℕ → TreeShape → List PlacedToken → Res PlacedToken TreeShape
units_read o n s ts = rest_of (is kind.And) (both (sign kind.And) (unary_lang o 0)).parse add_and n s ts

abbrev pub ands_read : Option Levels → ℕ → TreeShape → List PlacedToken → Res PlacedToken TreeShape
ands_read o n s ts = rest_of (is kind.Or) (both (sign kind.Or) (and_lang o 0)).parse add_or n s ts

-- the same of the program's trees
abbrev pub named_of : NameAt → Named
named_of n = record { left = n.bytes.now; right = n.place }

abbrev pub part_of : Part → PartShape
part_of (DeclaredConstant n) = Constant n
part_of (DeclaredScaled n x) = Scaled n (named_of x)
part_of (DeclaredVariable x) = Variable (named_of x)

abbrev pub signed_of : Signed → SignedShape
signed_of x = record { minus = x.minus; part = part_of x.part }

abbrev pub term_of : Term → List SignedShape
term_of t = map signed_of t.parts.items

abbrev pub declaration_of : Declaration → DeclarationShape
declaration_of d = record { name = named_of d.name; sort = sort_of d.sort }

abbrev pub relation_of : DeclaredRelation → Relation
relation_of DeclaredAtMost = AtMost
relation_of DeclaredBelow = Below
relation_of DeclaredAtLeast = AtLeast
relation_of DeclaredAbove = Above
relation_of DeclaredEqual = Equal
relation_of DeclaredUnequal = Unequal

abbrev pub quantifier_of : DeclaredQuantifier → Quantifier
quantifier_of DeclaredExists = Exists
quantifier_of DeclaredForall = Forall

abbrev pub tree_of : Tree → TreeShape
tree_of (DeclaredTruth b) = Truth b
tree_of (DeclaredCompare a r b) = Compare (term_of a) (relation_of r) (term_of b)
tree_of (DeclaredCall name ts) = Call (named_of name) (map term_of ts.items)
tree_of (DeclaredNot' p f) = Not (tree_of f)
tree_of (DeclaredAnd' p f q g) = And (tree_of f) (tree_of g)
tree_of (DeclaredOr' p f q g) = Or (tree_of f) (tree_of g)
tree_of (DeclaredImplies' p f q g) = Implies (tree_of f) (tree_of g)
tree_of (DeclaredEquivalent' p f q g) = Equivalent (tree_of f) (tree_of g)
tree_of (DeclaredQuantified' w ds p f) = Quantified (quantifier_of w) (map declaration_of ds.items) (tree_of f)

abbrev pub relation_shown : Option DeclaredRelation → Option Relation
relation_shown None = None
relation_shown (Some r) = Some (relation_of r)

abbrev pub sort_shown : Option DeclaredSort → Option Sort
sort_shown None = None
sort_shown (Some s) = Some (sort_of s)

abbrev pub quantifier_shown : Option DeclaredQuantifier → Option Quantifier
quantifier_shown None = None
quantifier_shown (Some w) = Some (quantifier_of w)
