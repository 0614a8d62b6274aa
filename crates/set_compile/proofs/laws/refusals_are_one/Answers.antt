use Rattle.set_compile.proofs.Compiled.{one_refusal}
use Rattle.set_compile.proofs.Refusing.{atoms_exclude, pairs_exclude}
use Rattle.set_compile.proofs.laws.refusals_are_one.Goals as goal

pub returns : goal.returns
returns c = one_refusal (record {
  atoms = atoms_exclude c.heavy_or_table.ensures c.heavy_or_real_table.ensures;
  pairs = pairs_exclude c.heavy_or_pairs.ensures c.heavy_or_mixed_pairs.ensures;
  subsets = c.heavy_or_subsets.ensures;
  projections = record {
    projected = c.heavy_or_projected.ensures.projected;
    torn = c.heavy_or_projected.ensures.torn;
    weak = c.heavy_or_projected.ensures.weak;
    words = c.heavy_or_projected.ensures.words;
  };
})
