use Rattle.std.proofs.Common.{rules, arith, ◌≡◌, ◌+◌, List, sym, subst, length}
use Rattle.std.proofs.Math.IntN.{ℤ}
use Rattle.threshold_laws.specs.Thresholds.{seeds, AreThresholds}
use Rattle.threshold_laws.proofs.AtomTables.{some_threshold}
use Rattle.linear_atoms.specs.Kinds.{comparison_of}
use Rattle.linear_atoms.specs.Closing.{entry, IsOverfull}
use Rattle.linear_atoms.specs.Filling.{IsPlan, IsFilling}
use Rattle.linear_atoms.proofs.Finishing.{too_many, atom_table, atom_stands}
use Rattle.linear_atoms.proofs.atom.atom_int.Goals as goal

pub returns-in-Err-clause-heavy : goal.returns-in-Err-clause-heavy
returns-in-Err-clause-heavy c = λ e.
    let base_is : c.radix-2.result ≡ c.args.base = search rules in
    let totals_are : c.deref.result.now ≡ c.in_ok-totals.totals.items = search rules in
    let seeds_are : c.deref-2.result.now ≡ seeds (comparison_of c.args.kind) c.args.atom.now.constant = search rules in
    let o : IsOverfull c.args.base c.in_ok-totals.totals.items (seeds (comparison_of c.args.kind) c.args.atom.now.constant) c.room_for-room.result =
    subst (λ ss. IsOverfull c.args.base c.in_ok-totals.totals.items ss c.room_for-room.result) seeds_are (subst (λ ts. IsOverfull c.args.base ts c.deref-2.result.now c.room_for-room.result) totals_are (subst (λ b. IsOverfull b c.deref.result.now c.deref-2.result.now c.room_for-room.result) base_is (c.in-Err.ensures.heavy e))) in
    too_many c.args.atom.now c.args.base c.args.tracks c.in_ok-totals.totals.items (seeds (comparison_of c.args.kind) c.args.atom.now.constant) c.room_for-room.result 0 c.args.limit c.in_ok-totals.ensures.totals o (search rules)

pub table_of-requires-clause-plan : goal.table_of-requires-clause-plan
table_of-requires-clause-plan c =
    let base_is : c.radix-2.result ≡ c.args.base = search rules in
    let totals_are : c.deref.result.now ≡ c.in_ok-totals.totals.items = search rules in
    let seeds_are : c.deref-2.result.now ≡ seeds (comparison_of c.args.kind) c.args.atom.now.constant = search rules in
    let a : AreThresholds c.args.base (length c.in_ok-totals.totals.items) (entry c.in_ok-totals.totals.items) (seeds (comparison_of c.args.kind) c.args.atom.now.constant) c.in-Ok.thresholds.items =
    subst (λ ss. AreThresholds c.args.base (length c.in_ok-totals.totals.items) (entry c.in_ok-totals.totals.items) ss c.in-Ok.thresholds.items) seeds_are (subst (λ (ts : List ℤ). AreThresholds c.args.base (length ts) (entry ts) c.deref-2.result.now c.in-Ok.thresholds.items) totals_are (subst (λ b. AreThresholds b (length c.deref.result.now) (entry c.deref.result.now) c.deref-2.result.now c.in-Ok.thresholds.items) base_is c.in-Ok.ensures.thresholds)) in
    subst (λ ts. IsPlan c.args.base c.args.tracks c.args.atom.now ts c.deref-4.result.now) (sym c.deref-3.ensures.value) (subst (λ ts. IsPlan c.args.base c.args.tracks c.args.atom.now c.in_ok-totals.totals.items ts) (sym c.deref-4.ensures.value) (record {
      low = search rules;
      high = search rules;
      few_letters = c.requires.letters;
      places = c.requires.places;
      inside = c.requires.inside;
      totals_count = c.in_ok-totals.ensures.totals.count;
      totals_small = c.in_ok-totals.ensures.small;
      rising = a.rising;
      some = some_threshold (comparison_of c.args.kind) c.args.atom.now.constant c.args.base (length c.in_ok-totals.totals.items) (entry c.in_ok-totals.totals.items) c.in-Ok.thresholds.items a;
      few = omega (arith, c.in-Ok.ensures.within, c.room_for-room.ensures.bound);
      small = c.in-Ok.ensures.small;
    }))

pub returns-in-Ok-table_of-clause-counts : goal.returns-in-Ok-table_of-clause-counts
returns-in-Ok-table_of-clause-counts c =
    let base_is : c.radix-2.result ≡ c.args.base = search rules in
    let totals_are : c.deref.result.now ≡ c.in_ok-totals.totals.items = search rules in
    let seeds_are : c.deref-2.result.now ≡ seeds (comparison_of c.args.kind) c.args.atom.now.constant = search rules in
    let a : AreThresholds c.args.base (length c.in_ok-totals.totals.items) (entry c.in_ok-totals.totals.items) (seeds (comparison_of c.args.kind) c.args.atom.now.constant) c.in-Ok.thresholds.items =
    subst (λ ss. AreThresholds c.args.base (length c.in_ok-totals.totals.items) (entry c.in_ok-totals.totals.items) ss c.in-Ok.thresholds.items) seeds_are (subst (λ (ts : List ℤ). AreThresholds c.args.base (length ts) (entry ts) c.deref-2.result.now c.in-Ok.thresholds.items) totals_are (subst (λ b. AreThresholds b (length c.deref.result.now) (entry c.deref.result.now) c.deref-2.result.now c.in-Ok.thresholds.items) base_is c.in-Ok.ensures.thresholds)) in
    let filled : IsFilling (comparison_of c.args.kind) c.args.atom.now c.args.base c.args.tracks c.in_ok-totals.totals.items c.in-Ok.thresholds.items 0 (length c.in-Ok.thresholds.items + 1) c.in-Ok-table_of.table =
    subst (λ (ts : List ℤ). IsFilling (comparison_of c.args.kind) c.args.atom.now c.args.base c.args.tracks ts c.in-Ok.thresholds.items 0 (length c.in-Ok.thresholds.items + 1) c.in-Ok-table_of.table) c.deref-3.ensures.value (subst (λ (ts : List ℤ). IsFilling (comparison_of c.args.kind) c.args.atom.now c.args.base c.args.tracks c.deref-3.result.now ts 0 (length ts + 1) c.in-Ok-table_of.table) c.deref-4.ensures.value c.in-Ok-table_of.ensures.filled) in
    atom_table (comparison_of c.args.kind) c.args.atom.now c.args.base c.args.tracks c.in_ok-totals.totals.items c.in-Ok.thresholds.items c.room_for-room.result c.args.limit c.in-Ok-table_of.table c.in_ok-totals.ensures.totals a c.in-Ok.ensures.within (search rules) filled

pub returns-in-Ok-table_of-clause-stands : goal.returns-in-Ok-table_of-clause-stands
unfolding returns-in-Ok-table_of-clause-counts
returns-in-Ok-table_of-clause-stands c = atom_stands (comparison_of c.args.kind) c.args.atom.now c.args.base c.args.tracks c.args.limit c.in-Ok-table_of.table.table (search rules) (returns-in-Ok-table_of-clause-counts c)
