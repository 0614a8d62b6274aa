-- The comparison of the model that an atom's kind is.
use Rattle.lash_model.specs.Formulas.{Comparison, AtMost, Equal}
use Rattle.linear_atoms.specs.declared.kind.AtomKind.{AtomKind}
use Rattle.linear_atoms.specs.declared.kind.AtomKind.TheVariants.{Le, Eq}

abbrev pub comparison_of : AtomKind → Comparison
comparison_of Le = AtMost
comparison_of Eq = Equal
