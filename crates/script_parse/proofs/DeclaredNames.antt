-- The variables that are declared have names.
use Rattle.std.proofs.Common.{List, [], ◌∷◌, ◌++◌, inl}
use Rattle.std.specs.List.{All, AllByRecursion}
use Rattle.std.proofs.lemmas.List.Elements.{All-from_recursion}
use Rattle.parser_laws.specs.Parsing.{Either, first, other, Lang, both, items, perhaps}
use Rattle.formula_core.specs.Names.{IsName, IsVariableName}
use Rattle.script_tokens.specs.declared.kind.Kind.{Kind}
use Rattle.script_tokens.specs.declared.kind.Kind.TheVariants as kind
use Rattle.script_tokens.specs.Tokens.{PlacedToken}
use Rattle.script_tokens.specs.Naming.{AreNamed}
use Rattle.script_grammar.specs.Views.{is, is_name, sign, at}
use Rattle.script_grammar.specs.Terms.{declaration, declarations}
use Rattle.script_grammar.specs.Formulas.{form_toks}
use Rattle.script_grammar.specs.Statements.{header}
use Rattle.script_syntax.specs.Reading.{folded}
use Rattle.script_syntax.specs.Trees.{DeclarationShape, add_declaration, declaration_shape, declarations_shape, perhaps_declared, header_shape}
use Rattle.script_statements.specs.Statements.{Described, described_shape}
use Rattle.script_parse.proofs.Sizes.{described_toks}

abbrev IsFine : DeclarationShape → Type 0
IsFine d = IsName d.name.left

abbrev IsVariable : DeclarationShape → Type 0
IsVariable d = IsVariableName d.name.left

-- the grammar's parts that have no name there
abbrev more_declarations : Lang PlacedToken
more_declarations = items (is kind.Comma) (both (sign kind.Comma) declaration)

abbrev perhaps_declarations : Lang PlacedToken
perhaps_declarations = perhaps is_name declarations

pub front : (ts us : List PlacedToken) → AreNamed (ts ++ us) → AreNamed ts
front [] us h = tt
front (t ∷ ts) us h = (h.0, front ts us h.1)

at_end : (s : List DeclarationShape) (d : DeclarationShape) → AllByRecursion IsFine s → IsFine d → AllByRecursion IsFine (s ++ d ∷ [])
at_end [] d f g = (g, tt)
at_end (x ∷ s) d f g = (f.0, at_end s d f.1 g)

more_named : (s : List DeclarationShape) (l : more_declarations.Tree) → AllByRecursion IsFine s → AreNamed (more_declarations.toks l) → AllByRecursion IsFine (folded add_declaration s l)
more_named s [] f h = f
more_named s (x ∷ l) f h = more_named (add_declaration s x) l (at_end s (declaration_shape x.right) f h.1.0) h.1.1.1

declarations_named : (d : declarations.Tree) → AreNamed (declarations.toks d) → AllByRecursion IsFine (declarations_shape d)
declarations_named d h = more_named (declaration_shape d.left ∷ []) d.right (h.0, tt) h.1.1

pub declared_names : (d : declarations.Tree) → AreNamed (declarations.toks d) → All (λ d. IsName d.name.left) (declarations_shape d)
declared_names d h = All-from_recursion IsFine (declarations_shape d) (declarations_named d h)

perhaps_named : (x : Either declarations.Tree Unit) → AreNamed (perhaps_declarations.toks x) → AllByRecursion IsFine (perhaps_declared x)
perhaps_named (first x) h = declarations_named x h
perhaps_named (other x) h = tt

header_named : (x : header.Tree) → AreNamed (header.toks x) → AllByRecursion IsFine (header_shape x)
header_named x h = perhaps_named x.right.left (front (perhaps_declarations.toks x.right.left) (at kind.Close x.right.right ∷ []) h.1)

-- names are names of variables
variables : (ds : List DeclarationShape) → AllByRecursion IsFine ds → AllByRecursion IsVariable ds
variables [] h = tt
variables (d ∷ ds) h = (inl h.0, variables ds h.1)

-- where the name tokens hold names, the variables that are declared have names of variables
pub described_named : (k : Kind) (x : Described) → AreNamed (described_toks k x) → All (λ d. IsVariableName d.name.left) (described_shape x).vars
described_named k x h = All-from_recursion IsVariable (header_shape x.left) (variables (header_shape x.left) (header_named x.left (front (header.toks x.left) (at k x.right.left ∷ (form_toks x.right.right.left ++ at kind.Semicolon x.right.right.right ∷ [])) h)))
