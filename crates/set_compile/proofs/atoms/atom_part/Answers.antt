use Rattle.std.proofs.Common.{◌<◌, ℕ, length, sym, ap, subst, arith, ◌∙◌}
use Rattle.std.proofs.Math.IntN.{ℤ}
use Rattle.std.specs.Prelude.{All}
use Rattle.std.proofs.lemmas.List.Elements.{All-from_recursion}
use Rattle.lash_model.specs.Formulas.{Linear, IsInside, Atom}
use Rattle.lash_model.specs.Meaning.{holds}
use Rattle.linear_atoms.specs.Kinds.{comparison_of}
use Rattle.set_compile.specs.Kinds.{Stands, IsTableOfAtom}
use Rattle.set_compile.specs.Steps.{own}
use Rattle.set_compile.proofs.Modes.{carried}
use Rattle.set_compile.proofs.OwnTerms.{few_tracks, own_below, own_inside}
use Rattle.set_compile.proofs.atoms.atom_part.Goals as goal

pub overflow_cast-tracks : goal.overflow_cast-tracks
overflow_cast-tracks c = omega (arith, ap length c.terms.ensures.terms, few_tracks c.args.build.now.base (length c.args.term.now.terms) c.radix-radix.ensures.low (c.requires.letters c.terms.ensures.linear))

pub own_term-requires-clause-few : goal.own_term-requires-clause-few
own_term-requires-clause-few c = omega (arith, few_tracks c.args.build.now.base (length c.args.term.now.terms) c.radix-radix.ensures.low (c.requires.letters c.terms.ensures.linear))

pub atom_table-requires-clause-places : goal.atom_table-requires-clause-places
atom_table-requires-clause-places c =
    subst (λ n. All (λ (t : ℕ × ℤ). t.0 < n) c.in-Ok.own.terms) (sym (ap length c.terms.ensures.terms))
    (subst (λ (a : Linear). All (λ (t : ℕ × ℤ). t.0 < length c.args.term.now.terms) a.terms) (sym c.in-Ok.ensures.own)
    (All-from_recursion (λ (t : ℕ × ℤ). t.0 < length c.args.term.now.terms) (own c.args.term.now).terms (own_below c.args.term.now)))

pub atom_table-requires-clause-inside : goal.atom_table-requires-clause-inside
atom_table-requires-clause-inside c = subst IsInside (sym c.in-Ok.ensures.own) (own_inside c.args.term.now c.requires.inside)

pub returns-in-Ok-minimized-clause-shape : goal.returns-in-Ok-minimized-clause-shape
returns-in-Ok-minimized-clause-shape c =
    let s = c.in-Ok-minimized.ensures.shape c.args.build.now.mode c.in-Ok-atom_table.ensures.kind in
    record {
      canonical = s.canonical;
      kind = s.kind;
      base_is = s.base_is ∙ c.in-Ok-atom_table.ensures.base;
      tracks_are = s.tracks_are ∙ c.in-Ok-atom_table.ensures.tracks ∙ ap length c.terms.ensures.terms;
    }

pub returns-in-Ok-minimized-clause-made : goal.returns-in-Ok-minimized-clause-made
returns-in-Ok-minimized-clause-made c = record {
  atom_table = c.in-Ok-atom_table.table.table;
  counts =
      subst (λ n. IsTableOfAtom c.args.build.now.mode (comparison_of c.args.kind) (own c.args.term.now) c.args.build.now.base n c.args.build.now.limit c.in-Ok-atom_table.table.table) (ap length c.terms.ensures.terms)
      (subst (λ (a : Linear). IsTableOfAtom c.args.build.now.mode (comparison_of c.args.kind) a c.args.build.now.base (length c.terms.result.now) c.args.build.now.limit c.in-Ok-atom_table.table.table)
      c.in-Ok.ensures.own c.in-Ok-atom_table.ensures.counts);
  same = c.in-Ok-minimized.ensures.same;
}

pub returns-in-Ok-minimized-clause-stands : goal.returns-in-Ok-minimized-clause-stands
returns-in-Ok-minimized-clause-stands c =
    carried c.in-Ok-atom_table.table.table c.in-Ok-minimized.made.table (holds (Atom (comparison_of c.args.kind) (own c.args.term.now)))
    (sym c.in-Ok-minimized.ensures.base) (sym c.in-Ok-minimized.ensures.tracks) c.in-Ok-minimized.ensures.kind c.in-Ok-minimized.ensures.same
    (subst (λ (a : Linear). Stands c.in-Ok-atom_table.table.table (holds (Atom (comparison_of c.args.kind) a))) c.in-Ok.ensures.own c.in-Ok-atom_table.ensures.stands)
