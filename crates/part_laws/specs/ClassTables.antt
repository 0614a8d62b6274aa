-- The table of classes of states that behave alike (Myhill and Nerode). Each of its states has the name of a class.
use Rattle.std.specs.Prelude.{ℕ, ◌+◌, ◌*◌, ◌^◌, ◌<◌, ◌≡◌, Bool, List, [], ◌∷◌, length, slice_index, map}
use Rattle.graph_laws.specs.Exploring.{Steps, KeyTable, IsExplored}
use Rattle.lash_model.specs.Tables.{Table, letters}
use Rattle.canonical_laws.specs.Behaviour.{AreClasses}

-- for two tables: the class of each state of the first, and the class that each state of the second stands for
pub record ClassNames : Type 0 where
  pub classes : List ℕ
  pub names : List ℕ

-- each name is a state that names its own class, and no two states have one name
pub record AreNames (states others : ℕ) (c : ClassNames) : Type 0 where
  pub in_range : (i : ℕ) → i < others → slice_index c.names i < states
  pub own : (i : ℕ) → i < others → slice_index c.classes (slice_index c.names i) ≡ slice_index c.names i
  pub distinct : (i j : ℕ) → i < others → j < others → slice_index c.names i ≡ slice_index c.names j → i ≡ j

-- the outputs of the integer states, by classes of fraction states
abbrev pub class_outs : Table → List ℕ → List ℕ
class_outs t classes = map (λ q. slice_index classes q) t.outs

-- the states of the second table stand for classes of the first: of fraction states by their colours after all words, and of integer
-- states by the classes of their outputs after all words
pub record IsClassTable (ints fractions : ClassNames) (t u : Table) : Type 0 where
  pub base : t.base ≡ u.base
  pub tracks : t.tracks ≡ u.tracks
  pub fraction_classes : AreClasses t.frac_rows (letters t) t.colours fractions.classes
  pub int_classes : AreClasses t.rows (letters t) (class_outs t fractions.classes) ints.classes
  pub fraction_names : AreNames (length t.colours) (length u.colours) fractions
  pub int_names : AreNames (length t.outs) (length u.outs) ints
  pub roots : (sign : ℕ) → sign < 2 ^ t.tracks → slice_index ints.names (slice_index u.roots sign) ≡ slice_index ints.classes (slice_index t.roots sign)
  pub steps : (i l : ℕ) → i < length u.outs → l < letters t
      → slice_index ints.names (slice_index u.rows (i * letters t + l))
      ≡ slice_index ints.classes (slice_index t.rows (slice_index ints.names i * letters t + l))
  pub outs : (i : ℕ) → i < length u.outs
      → slice_index fractions.names (slice_index u.outs i) ≡ slice_index fractions.classes (slice_index t.outs (slice_index ints.names i))
  pub fraction_steps : (i l : ℕ) → i < length u.colours → l < letters t
      → slice_index fractions.names (slice_index u.frac_rows (i * letters t + l))
      ≡ slice_index fractions.classes (slice_index t.frac_rows (slice_index fractions.names i * letters t + l))
  pub colours : (i : ℕ) → i < length u.colours → slice_index u.colours i ≡ slice_index t.colours (slice_index fractions.names i)

-- the machine of classes: a class, named by a state, goes on a letter to the class of the state that its name goes to
abbrev pub class_steps : ℕ → List ℕ → List ℕ → List ℕ → (List ℕ → Bool) → Steps
class_steps width rows classes starts is_proper = record {
  width = width;
  starts = map (λ q. slice_index classes q ∷ []) starts;
  step = λ k l. slice_index classes (slice_index rows (slice_index k 0 * width + l)) ∷ [];
  weight = λ _. 0;
  is_proper = is_proper;
}

-- the states that keys name
abbrev pub key_names : KeyTable → List ℕ
key_names k = map (λ key. slice_index key 0) k.keys

-- the outputs of the integer states that keys name, in their order
abbrev pub named_outs : Table → KeyTable → List ℕ
named_outs t ints = map (λ q. slice_index t.outs q) (key_names ints)

-- the classes of integer states are explored from the roots, and the classes of fraction states from the outputs of those
pub record AreExploredClasses (t : Table) (int_classes fraction_classes : List ℕ) (ints fractions : KeyTable) : Type 0 where
  pub fraction_behaviour : AreClasses t.frac_rows (letters t) t.colours fraction_classes
  pub int_behaviour : AreClasses t.rows (letters t) (class_outs t fraction_classes) int_classes
  pub int_limit : ℕ
  pub fraction_limit : ℕ
  pub is_int : List ℕ → Bool
  pub is_fraction : List ℕ → Bool
  pub int_states : IsExplored (class_steps (letters t) t.rows int_classes t.roots is_int) int_limit ints
  pub fraction_states : IsExplored (class_steps (letters t) t.frac_rows fraction_classes (named_outs t ints) is_fraction) fraction_limit fractions

-- the table of what was explored
abbrev pub explored_table : Table → KeyTable → KeyTable → Table
explored_table t ints fractions = record {
  base = t.base;
  tracks = t.tracks;
  roots = ints.starts;
  rows = ints.rows;
  outs = fractions.starts;
  frac_rows = fractions.rows;
  colours = map (λ q. slice_index t.colours q) (key_names fractions);
}
