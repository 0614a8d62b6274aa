-- From the totals that were computed to the totals of the atom, and from a filled table to one that counts thresholds.
use Rattle.std.proofs.Common.{◌≡◌, ℕ, ◌+◌, ◌-◌, ◌*◌, ◌/◌, ◌^◌, ◌≤◌, ◌<◌, List, [], ◌∷◌, length, arith, refl, ◌∙◌, sym, ap, subst}
use Rattle.std.proofs.Math.Nat.{lt-div-mul-add}
use Rattle.std.proofs.Math.IntN.{ℤ}
use Rattle.std.specs.List.{slice_index_or, AllByRecursion}
use Rattle.std.proofs.lemmas.List.Elements.{All-weaker}
use Rattle.lash_model.specs.Formulas.{Linear, Comparison, Atom}
use Rattle.lash_model.specs.Meaning.{holds}
use Rattle.lash_model.specs.Tables.{Table}
use Rattle.lash_model.specs.Standing.{StandsForWhole}
use Rattle.threshold_laws.specs.Thresholds.{seeds, letter_total, lowered_by, lowered, IsThreshold, AreThresholds, atom_cells, TooManyThresholds, StepsByThresholds, CountsThresholds, IsAtomTable}
use Rattle.threshold_laws.proofs.AtomTables.{counting_stands, some_threshold}
use Rattle.step_tables.specs.Kept.{Kept}
use Rattle.linear_atoms.specs.Closing.{entry, IsOverfull}
use Rattle.linear_atoms.specs.Totals.{AreTotals}
use Rattle.linear_atoms.specs.Filling.{target_of, AreStepsFilled, IsFilling}
use Rattle.linear_atoms.proofs.FillingSteps.{place_within}

lowered_same : (r width : ℕ) (f g : ℕ → ℤ) → ((l : ℕ) → l < width → f l ≡ g l) → (b : ℤ) (w : List ℕ) → AllByRecursion (λ l. l < width) w → lowered r f b w ≡ lowered r g b w
lowered_same r width f g e b [] letters = refl
lowered_same r width f g e b (l ∷ w) letters = ap (λ t. lowered r f (lowered_by r t b) w) (e l letters.0) ∙ lowered_same r width f g e (lowered_by r (g l) b) w letters.1

threshold_same : (r width : ℕ) (f g : ℕ → ℤ) → ((l : ℕ) → l < width → f l ≡ g l) → (ss : List ℤ) (b : ℤ) → IsThreshold r width f ss b → IsThreshold r width g ss b
threshold_same r width f g e ss b t = record {
  seed = t.seed;
  word = t.word;
  given = t.given;
  letters = t.letters;
  leads = sym (lowered_same r width f g e t.seed t.word t.letters) ∙ t.leads;
}

thresholds_same : (r width : ℕ) (f g : ℕ → ℤ) → ((l : ℕ) → l < width → f l ≡ g l) → (ss ts : List ℤ) → AreThresholds r width f ss ts → AreThresholds r width g ss ts
thresholds_same r width f g e ss ts a = record {
  rising = a.rising;
  sound = All-weaker (IsThreshold r width f ss) (IsThreshold r width g ss) (threshold_same r width f g e ss) ts a.sound;
  complete = λ b t. a.complete b (threshold_same r width g f (λ l h. sym (e l h)) ss b t);
}

-- the thresholds by the computed totals are the atom's
pub atom_thresholds : (terms : List (ℕ × ℤ)) (r n : ℕ) (totals ss ts : List ℤ) → AreTotals terms r n totals → AreThresholds r (length totals) (entry totals) ss ts → AreThresholds r (r ^ n) (letter_total terms r n) ss ts
atom_thresholds terms r n totals ss ts t a = thresholds_same r (r ^ n) (entry totals) (letter_total terms r n) t.each ss ts (subst (λ w. AreThresholds r w (entry totals) ss ts) t.count a)

-- too many for the room are too many for the limit
pub too_many : (a : Linear) (r n : ℕ) (totals ss : List ℤ) (room fracs limit : ℕ) → AreTotals a.terms r n totals → IsOverfull r totals ss room → limit < (room + 2 + fracs) * (r ^ n + 1)
    → TooManyThresholds r (r ^ n) (letter_total a.terms r n) ss fracs limit
too_many a r n totals ss room fracs limit t o h = record {
  found = o.found;
  distinct = o.distinct;
  sound = All-weaker (IsThreshold r (length totals) (entry totals) ss) (IsThreshold r (r ^ n) (letter_total a.terms r n) ss) (λ b s. threshold_same r (r ^ n) (entry totals) (letter_total a.terms r n) t.each ss b (subst (λ w. IsThreshold r w (entry totals) ss b) t.count s)) o.found o.sound;
  over = more_cells (length o.found) room (r ^ n) fracs limit o.over h;
}
  where
    more_cells : (count room width fracs limit : ℕ) → room < count → limit < (room + 2 + fracs) * (width + 1) → limit < atom_cells width count fracs
    more_cells count room width fracs limit h k = grind arith

-- a table with all its steps filled steps by the thresholds
pub filled_steps : (a : Linear) (r n : ℕ) (totals ts : List ℤ) (fracs : ℕ) (k : Kept) → AreTotals a.terms r n totals → AreStepsFilled a r n totals ts fracs (2 ^ n) ((length ts + 1) * length totals) k → StepsByThresholds a r n ts k.table
filled_steps a r n totals ts fracs k t f = record {
  base = f.shape.base_is;
  tracks = f.shape.tracks_are;
  states = f.shape.states;
  roots = f.roots_filled.each;
  rows = λ c l c_in l_in. subst (λ w. slice_index_or k.table.rows (c * w + l) 0 ≡ target_of r ts c (letter_total a.terms r n l)) t.count
      (f.rows_filled.each c l c_in (as_total l l_in) (place_within c (length ts + 1) (length totals) l c_in (as_total l l_in)) ∙ ap (target_of r ts c) (t.each l l_in));
}
  where
    as_total : (l : ℕ) → l < r ^ n → l < length totals
    as_total l h = subst (λ w. l < w) (sym t.count) h

no_entries : (xs : List ℕ) → length xs ≡ 0 → xs ≡ []
no_entries [] e = refl
no_entries (x ∷ xs) e = absurd (omega (arith, e))

-- a filled table without fraction states counts the thresholds
pub filled_counts : (kind : Comparison) (a : Linear) (r n : ℕ) (totals ts : List ℤ) (k : Kept) → AreTotals a.terms r n totals → IsFilling kind a r n totals ts 0 (length ts + 1) k → CountsThresholds kind a r n ts k.table
filled_counts kind a r n totals ts k t f = record {
  steps = filled_steps a r n totals ts 0 k t f.steps;
  diagram = no_entries k.table.colours f.steps.shape.fractions;
  outs = f.outs_filled.each;
}

pub few_cells : (count room fracs width limit : ℕ) → 0 < count → count ≤ room → (0 < room → (room + 1 + fracs) * (width + 1) ≤ limit) → atom_cells width count fracs ≤ limit
few_cells count room fracs width limit some h fits = at_most (count + 1 + fracs) (room + 1 + fracs) (width + 1) limit (omega (arith, h)) (fits (omega (arith, some, h)))
  where
    at_most : (a b w limit : ℕ) → a ≤ b → b * w ≤ limit → a * w ≤ limit
    at_most a b w limit h k = grind arith

-- the filled table is the atom's
pub atom_table : (kind : Comparison) (a : Linear) (r n : ℕ) (totals ts : List ℤ) (room limit : ℕ) (k : Kept) → AreTotals a.terms r n totals → AreThresholds r (length totals) (entry totals) (seeds kind a.constant) ts → length ts ≤ room → (0 < room → (room + 1 + 0) * (r ^ n + 1) ≤ limit) → IsFilling kind a r n totals ts 0 (length ts + 1) k → IsAtomTable kind a r n limit k.table
atom_table kind a r n totals ts room limit k t e few fits f = record {
  found = ts;
  thresholds = atom_thresholds a.terms r n totals (seeds kind a.constant) ts t e;
  counts = filled_counts kind a r n totals ts k t f;
  within = few_cells (length ts) room 0 (r ^ n) limit (some_threshold kind a.constant r (length totals) (entry totals) ts e) few fits;
}

pub atom_stands : (kind : Comparison) (a : Linear) (r n limit : ℕ) (t : Table) → 0 < r → IsAtomTable kind a r n limit t → StandsForWhole t (holds (Atom kind a))
atom_stands kind a r n limit t h i = counting_stands kind a r n i.found t h i.counts i.thresholds

-- the room leaves one integer state and the fraction states their cells
pub over_room : (limit width fracs room : ℕ) → room ≡ limit / (width + 1) - (1 + fracs) → limit < (room + 2 + fracs) * (width + 1)
over_room limit width fracs room e = omega (arith, lt-div-mul-add {a = limit} {b = width + 1} (omega arith), one_more (limit / (width + 1)) (width + 1), grown (limit / (width + 1) + 1) (room + 2 + fracs) (width + 1) (omega (arith, e)))
  where
    one_more : (q w : ℕ) → (q + 1) * w ≡ q * w + w
    one_more q w = omega arith

    grown : (a b w : ℕ) → a ≤ b → a * w ≤ b * w
    grown a b w h = grind arith
