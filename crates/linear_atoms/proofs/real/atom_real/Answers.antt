use Rattle.std.proofs.Common.{rules, arith, ◌≡◌, ◌≤◌, ◌<◌, ◌+◌, ◌*◌, ◌^◌, List, ap, ap₂, ◌∙◌, sym, subst, length}
use Rattle.std.proofs.Math.IntN.{ℤ}
use Rattle.lash_model.specs.Formulas.{Linear}
use Rattle.threshold_laws.specs.Thresholds.{AreThresholds, atom_cells}
use Rattle.lasso_laws.specs.Windows.{window, window_seeds}
use Rattle.lasso_laws.specs.RealAtoms.{bound_states}
use Rattle.lasso_laws.proofs.RealAtomTables.{real_atom_stands, real_atom_weak}
use Rattle.linear_atoms.specs.Kinds.{comparison_of}
use Rattle.linear_atoms.specs.Closing.{entry, IsOverfull}
use Rattle.linear_atoms.specs.Filling.{IsPlan}
use Rattle.linear_atoms.specs.Bounds.{IsWindow, AreBoundsFilled}
use Rattle.linear_atoms.proofs.Finishing.{too_many, few_cells}
use Rattle.linear_atoms.proofs.BoundFilling.{some_seed, real_atom_table, seeds_overfull}
use Rattle.linear_atoms.proofs.real.atom_real.Goals as goal

pub returns-in-Err-clause-heavy : goal.returns-in-Err-clause-heavy
returns-in-Err-clause-heavy c = λ e.
    let kind_is : comparison_of c.new-window.result.kind ≡ comparison_of c.args.kind = ap comparison_of c.new-window.ensures.kind in
    let few : c.room_for-room.result < window (comparison_of c.args.kind) c.args.atom.now.terms + 1 =
    subst (λ k. c.room_for-room.result < window k c.args.atom.now.terms + 1) kind_is (subst (λ (a : Linear). c.room_for-room.result < window (comparison_of c.new-window.result.kind) a.terms + 1) c.new-window.ensures.atom (c.in-Err.ensures.heavy e)) in
    too_many c.args.atom.now c.args.base c.args.tracks c.in_ok-totals.totals.items (window_seeds (comparison_of c.args.kind) c.args.atom.now) c.room_for-room.result (bound_states c.args.atom.now.terms) c.args.limit c.in_ok-totals.ensures.totals
    (seeds_overfull (comparison_of c.args.kind) c.args.atom.now c.args.base c.in_ok-totals.totals.items c.room_for-room.result few) (search rules)

pub returns-in-Err-thresholds-clause-heavy : goal.returns-in-Err-thresholds-clause-heavy
returns-in-Err-thresholds-clause-heavy c = λ e.
    let kind_is : comparison_of c.new-window.result.kind ≡ comparison_of c.args.kind = ap comparison_of c.new-window.ensures.kind in
    let base_is : c.radix-2.result ≡ c.args.base = search rules in
    let totals_are : c.deref.result.now ≡ c.in_ok-totals.totals.items = search rules in
    let seeds_are : c.deref-2.result.now ≡ window_seeds (comparison_of c.args.kind) c.args.atom.now = c.deref-2.ensures.value ∙ c.in-Ok.ensures.seeds ∙ ap₂ window_seeds kind_is c.new-window.ensures.atom in
    let o : IsOverfull c.args.base c.in_ok-totals.totals.items (window_seeds (comparison_of c.args.kind) c.args.atom.now) c.room_for-room.result =
    subst (λ ss. IsOverfull c.args.base c.in_ok-totals.totals.items ss c.room_for-room.result) seeds_are (subst (λ ts. IsOverfull c.args.base ts c.deref-2.result.now c.room_for-room.result) totals_are (subst (λ b. IsOverfull b c.deref.result.now c.deref-2.result.now c.room_for-room.result) base_is (c.in-Err-thresholds.ensures.heavy e))) in
    too_many c.args.atom.now c.args.base c.args.tracks c.in_ok-totals.totals.items (window_seeds (comparison_of c.args.kind) c.args.atom.now) c.room_for-room.result (bound_states c.args.atom.now.terms) c.args.limit c.in_ok-totals.ensures.totals o (search rules)

pub table_of-requires-clause-plan : goal.table_of-requires-clause-plan
table_of-requires-clause-plan c =
    let kind_is : comparison_of c.new-window.result.kind ≡ comparison_of c.args.kind = ap comparison_of c.new-window.ensures.kind in
    let base_is : c.radix-2.result ≡ c.args.base = search rules in
    let totals_are : c.deref.result.now ≡ c.in_ok-totals.totals.items = search rules in
    let seeds_are : c.deref-2.result.now ≡ window_seeds (comparison_of c.args.kind) c.args.atom.now = c.deref-2.ensures.value ∙ c.in-Ok.ensures.seeds ∙ ap₂ window_seeds kind_is c.new-window.ensures.atom in
    let a : AreThresholds c.args.base (length c.in_ok-totals.totals.items) (entry c.in_ok-totals.totals.items) (window_seeds (comparison_of c.args.kind) c.args.atom.now) c.in-Ok-thresholds.thresholds.items =
    subst (λ ss. AreThresholds c.args.base (length c.in_ok-totals.totals.items) (entry c.in_ok-totals.totals.items) ss c.in-Ok-thresholds.thresholds.items) seeds_are (subst (λ (ts : List ℤ). AreThresholds c.args.base (length ts) (entry ts) c.deref-2.result.now c.in-Ok-thresholds.thresholds.items) totals_are (subst (λ b. AreThresholds b (length c.deref.result.now) (entry c.deref.result.now) c.deref-2.result.now c.in-Ok-thresholds.thresholds.items) base_is c.in-Ok-thresholds.ensures.thresholds)) in
    record {
      plan = subst (λ ts. IsPlan c.args.base c.args.tracks c.args.atom.now ts c.deref-4.result.now) (sym c.deref-3.ensures.value) (subst (λ ts. IsPlan c.args.base c.args.tracks c.args.atom.now c.in_ok-totals.totals.items ts) (sym c.deref-4.ensures.value) (record {
        low = search rules;
        high = search rules;
        few_letters = c.requires.letters;
        places = c.requires.places;
        inside = c.requires.inside;
        totals_count = c.in_ok-totals.ensures.totals.count;
        totals_small = c.in_ok-totals.ensures.small;
        rising = a.rising;
        some = some_seed (comparison_of c.args.kind) c.args.atom.now c.args.base (length c.in_ok-totals.totals.items) (entry c.in_ok-totals.totals.items) c.in-Ok-thresholds.thresholds.items a;
        few = omega (arith, c.in-Ok-thresholds.ensures.within, c.room_for-room.ensures.bound);
        small = c.in-Ok-thresholds.ensures.small;
      }));
      window_is = subst (λ (a : Linear). IsWindow a.terms c.new-window.result.lowest c.new-window.result.sum) c.new-window.ensures.atom c.new-window.ensures.window;
      atom_is = c.new-window.ensures.atom;
      kind_is = c.new-window.ensures.kind;
      fracs_are = c.states-fracs.ensures ∙ ap (λ (a : Linear). bound_states a.terms) c.new-window.ensures.atom;
    }

pub returns-in-Ok-table_of-clause-counts : goal.returns-in-Ok-table_of-clause-counts
returns-in-Ok-table_of-clause-counts c =
    let kind_is : comparison_of c.new-window.result.kind ≡ comparison_of c.args.kind = ap comparison_of c.new-window.ensures.kind in
    let base_is : c.radix-2.result ≡ c.args.base = search rules in
    let totals_are : c.deref.result.now ≡ c.in_ok-totals.totals.items = search rules in
    let seeds_are : c.deref-2.result.now ≡ window_seeds (comparison_of c.args.kind) c.args.atom.now = c.deref-2.ensures.value ∙ c.in-Ok.ensures.seeds ∙ ap₂ window_seeds kind_is c.new-window.ensures.atom in
    let a : AreThresholds c.args.base (length c.in_ok-totals.totals.items) (entry c.in_ok-totals.totals.items) (window_seeds (comparison_of c.args.kind) c.args.atom.now) c.in-Ok-thresholds.thresholds.items =
    subst (λ ss. AreThresholds c.args.base (length c.in_ok-totals.totals.items) (entry c.in_ok-totals.totals.items) ss c.in-Ok-thresholds.thresholds.items) seeds_are (subst (λ (ts : List ℤ). AreThresholds c.args.base (length ts) (entry ts) c.deref-2.result.now c.in-Ok-thresholds.thresholds.items) totals_are (subst (λ b. AreThresholds b (length c.deref.result.now) (entry c.deref.result.now) c.deref-2.result.now c.in-Ok-thresholds.thresholds.items) base_is c.in-Ok-thresholds.ensures.thresholds)) in
    let filled : AreBoundsFilled (comparison_of c.args.kind) c.args.atom.now c.args.base c.args.tracks c.in_ok-totals.totals.items c.in-Ok-thresholds.thresholds.items (length c.in-Ok-thresholds.thresholds.items + 1) (bound_states c.args.atom.now.terms * length c.in_ok-totals.totals.items) (bound_states c.args.atom.now.terms) c.in-Ok-table_of.table =
    subst (λ (ts : List ℤ). AreBoundsFilled (comparison_of c.args.kind) c.args.atom.now c.args.base c.args.tracks ts c.in-Ok-thresholds.thresholds.items (length c.in-Ok-thresholds.thresholds.items + 1) (bound_states c.args.atom.now.terms * length ts) (bound_states c.args.atom.now.terms) c.in-Ok-table_of.table) c.deref-3.ensures.value
    (subst (λ (ts : List ℤ). AreBoundsFilled (comparison_of c.args.kind) c.args.atom.now c.args.base c.args.tracks c.deref-3.result.now ts (length ts + 1) (bound_states c.args.atom.now.terms * length c.deref-3.result.now) (bound_states c.args.atom.now.terms) c.in-Ok-table_of.table) c.deref-4.ensures.value c.in-Ok-table_of.ensures.filled) in
    real_atom_table (comparison_of c.args.kind) c.args.atom.now c.args.base c.args.tracks c.in_ok-totals.totals.items c.in-Ok-thresholds.thresholds.items c.room_for-room.result c.args.limit c.in-Ok-table_of.table c.in_ok-totals.ensures.totals a c.in-Ok-thresholds.ensures.within (search rules) filled

pub returns-in-Ok-table_of-clause-stands : goal.returns-in-Ok-table_of-clause-stands
unfolding returns-in-Ok-table_of-clause-counts
returns-in-Ok-table_of-clause-stands c = real_atom_stands (comparison_of c.args.kind) c.args.atom.now c.args.base c.args.tracks c.args.limit c.in-Ok-table_of.table.table (search rules) (returns-in-Ok-table_of-clause-counts c)

pub returns-in-Ok-table_of-clause-weak : goal.returns-in-Ok-table_of-clause-weak
unfolding returns-in-Ok-table_of-clause-counts
returns-in-Ok-table_of-clause-weak c = real_atom_weak (comparison_of c.args.kind) c.args.atom.now c.args.base c.args.tracks c.args.limit c.in-Ok-table_of.table.table (returns-in-Ok-table_of-clause-counts c)

pub table_of-requires-clause-cells : goal.table_of-requires-clause-cells
table_of-requires-clause-cells c =
    let kind_is : comparison_of c.new-window.result.kind ≡ comparison_of c.args.kind = ap comparison_of c.new-window.ensures.kind in
    let base_is : c.radix-2.result ≡ c.args.base = search rules in
    let totals_are : c.deref.result.now ≡ c.in_ok-totals.totals.items = search rules in
    let seeds_are : c.deref-2.result.now ≡ window_seeds (comparison_of c.args.kind) c.args.atom.now = c.deref-2.ensures.value ∙ c.in-Ok.ensures.seeds ∙ ap₂ window_seeds kind_is c.new-window.ensures.atom in
    let a : AreThresholds c.args.base (length c.in_ok-totals.totals.items) (entry c.in_ok-totals.totals.items) (window_seeds (comparison_of c.args.kind) c.args.atom.now) c.in-Ok-thresholds.thresholds.items =
    subst (λ ss. AreThresholds c.args.base (length c.in_ok-totals.totals.items) (entry c.in_ok-totals.totals.items) ss c.in-Ok-thresholds.thresholds.items) seeds_are (subst (λ (ts : List ℤ). AreThresholds c.args.base (length ts) (entry ts) c.deref-2.result.now c.in-Ok-thresholds.thresholds.items) totals_are (subst (λ b. AreThresholds b (length c.deref.result.now) (entry c.deref.result.now) c.deref-2.result.now c.in-Ok-thresholds.thresholds.items) base_is c.in-Ok-thresholds.ensures.thresholds)) in
    let cells : atom_cells (c.args.base ^ c.args.tracks) (length c.in-Ok-thresholds.thresholds.items) (bound_states c.args.atom.now.terms) ≤ c.args.limit =
    few_cells (length c.in-Ok-thresholds.thresholds.items) c.room_for-room.result (bound_states c.args.atom.now.terms) (c.args.base ^ c.args.tracks) c.args.limit
    (some_seed (comparison_of c.args.kind) c.args.atom.now c.args.base (length c.in_ok-totals.totals.items) (entry c.in_ok-totals.totals.items) c.in-Ok-thresholds.thresholds.items a) c.in-Ok-thresholds.ensures.within (search rules) in
    subst (λ (ts : List ℤ). (length ts + 1 + bound_states c.args.atom.now.terms) * (c.args.base ^ c.args.tracks + 1) ≤ 16777216) (sym c.deref-4.ensures.value) (omega (arith, cells, c.requires.limit))
