use Rattle.std.proofs.Common.{◌∙◌, ◌++◌, ◌∷◌, [], ap, sym, arith, map}
use Rattle.std.proofs.lemmas.List.{length-map}
use Rattle.std.specs.Prelude.{◌<◌, length}
use Rattle.formula_core.specs.Shape.{formula_of}
use Rattle.script_names.specs.Kept.{KeptSet, IsKept, set_of, sets_of, sets_in, sets_limit}
use Rattle.script_names.proofs.Keeping.{kept_after, one_more_kept}
use Rattle.script_names.proofs.kept.Defs.keep.Goals as goal

pub invariant_of-self : goal.invariant_of-self
invariant_of-self c =
    let few : length (sets_in c.self.inside.sets.entries) < sets_limit = omega (arith, c.requires.room, length-map c.args.self.now set_of, ap (λ s. length (sets_of s)) c.self.view_is) in
    let inside : IsKept (set_of (c.name.inside.bytes.items, record { vars = c.args.vars; formula = c.args.formula })) = record { few = c.requires.inside.few; over = c.requires.inside.over; nodes = c.requires.inside.nodes; depth = c.requires.inside.depth } in
    kept_after c.insert_new.result c.self.inside.sets.entries c.insert_new.new.sets.entries _ c.insert_new.ensures.inserted c.insert_new.ensures.unchanged c.self.invariant few inside
