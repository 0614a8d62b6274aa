-- Tokens of names and few in number spell statements that can be judged.
use Rattle.std.proofs.Common.{◌≤◌, ◌∷◌, [], length, arith}
use Rattle.std.proofs.lemmas.List.{length-append}
use Rattle.parser_laws.specs.Parsing.{first, other}
use Rattle.script_tokens.specs.declared.kind.Kind.{Kind}
use Rattle.script_tokens.specs.declared.kind.Kind.TheVariants as kind
use Rattle.script_tokens.specs.Naming.{AreNamed}
use Rattle.script_grammar.specs.Views.{at}
use Rattle.script_grammar.specs.Formulas.{form_toks}
use Rattle.script_grammar.specs.Statements.{whole_statement, Statement}
use Rattle.script_statements.specs.Statements.{Described, statement_shape, described_shape}
use Rattle.statement_meaning.specs.Judging.{IsReadable, IsStatementReadable}
use Rattle.script_parse.proofs.DeclaredNames.{described_named}
use Rattle.script_parse.proofs.Sizes.{described_toks, described_small, form_small}
use Rattle.script_parse.proofs.Loops.{loop_readable}
use Rattle.script_parse.proofs.Quotients.{values_quotients}

described_readable : (k : Kind) (x : Described) → AreNamed (described_toks k x) → length (described_toks k x) ≤ 65536 → IsReadable (described_shape x)
described_readable k x named few = record { named = described_named k x named; size = omega (arith, described_small k x, few) }

pub readable : (a : Statement) → AreNamed (whole_statement.toks a) → length (whole_statement.toks a) ≤ 65536 → IsStatementReadable (statement_shape a)
readable (first x) named few = described_readable kind.Colon x.right named.1 (omega (arith, few))
readable (other (first x)) named few = described_readable kind.Equals x.right.right named.1.1 (omega (arith, few))
readable (other (other (first x))) named few = tt
readable (other (other (other (first x)))) named few = tt
readable (other (other (other (other (first x))))) named few = values_quotients x.right.right.right.left
readable (other (other (other (other (other (first x)))))) named few = tt
readable (other (other (other (other (other (other (first x))))))) named few = tt
readable (other (other (other (other (other (other (other (first x)))))))) named few = omega (arith, form_small x.right.left, length-append (form_toks x.right.left) (at kind.Semicolon x.right.right ∷ []), few)
readable (other (other (other (other (other (other (other (other x)))))))) named few = loop_readable x named few
