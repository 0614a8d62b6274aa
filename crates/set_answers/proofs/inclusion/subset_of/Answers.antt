-- The table of the product is that of the difference over all tracks.
use Rattle.std.proofs.Common.{ap, ◌∙◌, length}
use Rattle.std.proofs.lemmas.List.FromFn.{length-range_with_len}
use Rattle.product_ops.specs.Tracks.{TrackLists}
use Rattle.part_laws.proofs.BothKinds.{canonical_table}
use Rattle.set_answers.specs.Differences.{all_tracks}
use Rattle.set_answers.proofs.Differing.{weak_tables, weak_if, subset_is}
use Rattle.set_answers.proofs.inclusion.subset_of.Goals as goal

pub product-requires-clause-kinds : goal.product-requires-clause-kinds
product-requires-clause-kinds c = weak_tables c.args.left.now.table c.args.right.now.table c.requires.left c.requires.right c.requires.kinds

pub product-requires-clause-left_tracks : goal.product-requires-clause-left_tracks
product-requires-clause-left_tracks c = ap (λ (m : TrackLists). length m.left) c.in-Ok.ensures ∙ length-range_with_len 0 c.tracks.result ∙ c.tracks.ensures

pub product-requires-clause-right_tracks : goal.product-requires-clause-right_tracks
product-requires-clause-right_tracks c =
    ap (λ (m : TrackLists). length m.right) c.in-Ok.ensures ∙ length-range_with_len 0 c.tracks.result ∙ c.tracks.ensures ∙ c.requires.tracks

pub accepts_nothing-requires : goal.accepts_nothing-requires
accepts_nothing-requires c =
    weak_if c.args.left.now.table c.in_ok-difference.difference.table c.in_ok-difference.ensures.diagram c.in_ok-difference.ensures.weak

pub returns-in-Ok-accepts_nothing-clause-includes : goal.returns-in-Ok-accepts_nothing-clause-includes
returns-in-Ok-accepts_nothing-clause-includes c = λ sorts f g.
    subset_is c.args.left.now.table c.args.right.now.table c.in_ok-difference.difference.table c.in-Ok.map c.args.limit sorts f g
    c.in-Ok-accepts_nothing.nothing
    (record {
      left_table = canonical_table c.args.left.now.table c.requires.left;
      right_table = canonical_table c.args.right.now.table c.requires.right;
      one_base = c.requires.base;
      one_count = c.requires.tracks;
      all = c.in-Ok.ensures ∙ ap all_tracks c.tracks.ensures;
      table = c.in_ok-difference.ensures.table;
      base = c.in_ok-difference.ensures.base;
      tracks = c.in_ok-difference.ensures.tracks;
    })
    (record {
      pairs_are = c.in_ok-difference.ensures.pairs;
      stands = λ none P Q. c.in_ok-difference.ensures.stands none P Q (λ ns. ns) (λ ns. ns);
      diagram = c.in_ok-difference.ensures.diagram;
      fractions = c.in_ok-difference.ensures.fractions;
      lassos = c.in_ok-difference.ensures.lassos;
      no_word = c.in-Ok-accepts_nothing.ensures.words;
      no_lasso = c.in-Ok-accepts_nothing.ensures.lassos;
    })
