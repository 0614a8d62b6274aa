use Rattle.std.proofs.Common.{rules, ◌≡◌, ◌+◌, ◌++◌, [], ◌∷◌, sym, subst}
use Rattle.linear_atoms.specs.Kinds.{comparison_of}
use Rattle.linear_atoms.specs.Bounds.{AreSeeds}
use Rattle.linear_atoms.proofs.WindowSums.{seeds_none, seeds_more}
use Rattle.linear_atoms.proofs.real.seeds_of.Goals as goal

pub loop-at-init : goal.loop-at-init
loop-at-init c =
    let empty : c.new-seeds.result.items ≡ [] = search rules in
    subst (λ xs. AreSeeds (comparison_of c.args.bounds.now.kind) c.args.bounds.now.atom.now 0 xs) (sym empty) (seeds_none (comparison_of c.args.bounds.now.kind) c.args.bounds.now.atom.now)

pub loop-at-preserved : goal.loop-at-preserved
loop-at-preserved c =
    let pushed : c.push.new.self.items ≡ c.loop-at.seeds.items ++ c.seed_at.result ∷ [] = search rules in
    subst (λ xs. AreSeeds (comparison_of c.args.bounds.now.kind) c.args.bounds.now.atom.now (c.loop-at.at + 1) xs) (sym pushed)
    (seeds_more (comparison_of c.args.bounds.now.kind) c.args.bounds.now.atom.now c.loop-at.at c.loop-at.seeds.items c.seed_at.result c.loop-at.invariant c.seed_at.ensures.value c.seed_at.ensures.small)
