-- The table of classes is matched with the table, state by class, and the matching is the least.
use Rattle.std.proofs.Common.{◌≡◌, ℕ, ◌+◌, ◌*◌, ◌^◌, ◌<◌, List, [], ◌∷◌, length, refl, ◌∙◌, sym, subst}
use Rattle.std.specs.Prelude.{slice_index}
use Rattle.graph_laws.specs.Walks.{go}
use Rattle.lash_model.specs.Tables.{Table, letters, ints, fracs, IsTable}
use Rattle.canonical_laws.specs.Behaviour.{Behaves, AreClasses}
use Rattle.canonical_laws.specs.Canonical.{IsNumbered}
use Rattle.part_laws.specs.Graphs.{IsWeak}
use Rattle.part_laws.specs.Ranks.{IsByRank}
use Rattle.part_laws.specs.CanonicalMixed.{fraction_graph, IsCanonicalMixed, AcceptSameLassos}
use Rattle.part_laws.specs.Matchings.{IsMatching, IsTableMatching, IsLeastMatching}
use Rattle.part_laws.specs.ClassTables.{ClassNames, AreNames, class_outs, IsClassTable}
use Rattle.part_laws.proofs.Mapped.{map_count, map_at}
use Rattle.part_laws.proofs.LassoWords.{fraction_is_graph, row_in, root_in, out_in, int_walk_in}
use Rattle.part_laws.proofs.TableMatching.{matched_accept, matched_canonical, same_width}

-- the state q is in the class that i stands for
record IsNamed (states others : ℕ) (c : ClassNames) (q i : ℕ) : Type 0 where
  pub inside : q < states
  pub other : i < others
  pub same : slice_index c.classes q ≡ slice_index c.names i

-- a state behaves as the name of its class does
as_named : (rows : List ℕ) (width : ℕ) (outs : List ℕ) (states others : ℕ) (c : ClassNames) → length outs ≡ states
    → AreClasses rows width outs c.classes → AreNames states others c → (q i : ℕ) → IsNamed states others c q i
    → Behaves rows width outs q (slice_index c.names i)
as_named rows width outs states others c e k n q i h = k.fine q (slice_index c.names i)
    (subst (λ m. q < m) (sym e) h.inside)
    (subst (λ m. slice_index c.names i < m) (sym e) (n.in_range i h.other))
    (h.same ∙ sym (n.own i h.other))

-- so a letter leads both into one class
one_class : (rows : List ℕ) (width : ℕ) (outs : List ℕ) (states others : ℕ) (c : ClassNames) → length outs ≡ states
    → AreClasses rows width outs c.classes → AreNames states others c
    → ((q l : ℕ) → q < states → l < width → slice_index rows (q * width + l) < states)
    → (q i l : ℕ) → IsNamed states others c q i → l < width
    → slice_index c.classes (slice_index rows (q * width + l)) ≡ slice_index c.classes (slice_index rows (slice_index c.names i * width + l))
one_class rows width outs states others c e k n closed q i l h l_in = k.coarse
    (slice_index rows (q * width + l))
    (slice_index rows (slice_index c.names i * width + l))
    (subst (λ m. slice_index rows (q * width + l) < m) (sym e) (closed q l h.inside l_in))
    (subst (λ m. slice_index rows (slice_index c.names i * width + l) < m) (sym e) (closed (slice_index c.names i) l (n.in_range i h.other) l_in))
    (λ w ls. as_named rows width outs states others c e k n q i h (l ∷ w) (l_in, ls))

-- ---- the matching
int_rel : ClassNames → Table → Table → ℕ → ℕ → Type 0
int_rel c t u q i = IsNamed (length t.outs) (length u.outs) c q i

frac_rel : ClassNames → Table → Table → ℕ → ℕ → Type 0
frac_rel c t u q i = IsNamed (length t.colours) (length u.colours) c q i

fractions_matched : (c d : ClassNames) (t u : Table) → IsTable t → IsTable u → IsClassTable c d t u
    → IsMatching (letters t) (frac_rel d t u) (fraction_graph t) (fraction_graph u)
unfolding frac_rel
fractions_matched c d t u tt' tu h = record {
  first_in = λ q i k. k.inside;
  second_in = λ q i k. k.other;
  steps = λ q i l k l_in. record {
    inside = (fraction_is_graph t tt').rows_in q l k.inside l_in;
    other = other_in i l k.other l_in;
    same = one_class t.frac_rows (letters t) t.colours (length t.colours) (length u.colours) d refl h.fraction_classes h.fraction_names
        (fraction_is_graph t tt').rows_in q i l k l_in
        ∙ sym (h.fraction_steps i l k.other l_in);
  };
  colours = λ q i k. as_named t.frac_rows (letters t) t.colours (length t.colours) (length u.colours) d refl h.fraction_classes h.fraction_names q i k [] tt
      ∙ sym (h.colours i k.other);
  source = slice_index d.names;
  matched = λ i i_in. record { inside = h.fraction_names.in_range i i_in; other = i_in; same = h.fraction_names.own i i_in };
}
  where
    other_in : (i l : ℕ) → i < length u.colours → l < letters t → slice_index u.frac_rows (i * letters t + l) < length u.colours
    other_in i l i_in l_in = subst (λ n. slice_index u.frac_rows (i * n + l) < length u.colours) (sym (same_width t u h.base h.tracks))
        ((fraction_is_graph u tu).rows_in i l i_in (subst (λ n. l < n) (same_width t u h.base h.tracks) l_in))

outs_count : (t : Table) (classes : List ℕ) → length (class_outs t classes) ≡ length t.outs
outs_count t classes = map_count (λ q. slice_index classes q) t.outs

class_out : (t : Table) (classes : List ℕ) (q : ℕ) → q < length t.outs → slice_index (class_outs t classes) q ≡ slice_index classes (slice_index t.outs q)
class_out t classes q h = map_at (λ q. slice_index classes q) t.outs q h

tables_matched : (c d : ClassNames) (t u : Table) → IsTable t → IsTable u → 0 < fracs t → 0 < fracs u → IsClassTable c d t u
    → IsTableMatching (int_rel c t u) (frac_rel d t u) t u
unfolding int_rel frac_rel
tables_matched c d t u tab tab_u some some_u h = record {
  base = h.base;
  tracks = h.tracks;
  fraction_part = fractions_matched c d t u tab tab_u h;
  first_in = λ q i k. k.inside;
  roots = λ sign lt. record {
    inside = root_in t tab sign lt;
    other = root_in u tab_u sign (subst (λ n. sign < 2 ^ n) h.tracks lt);
    same = sym (h.roots sign lt);
  };
  steps = λ q i l k l_in. record {
    inside = row_in t tab q l k.inside l_in;
    other = other_in i l k.other l_in;
    same = one_class t.rows (letters t) (class_outs t d.classes) (length t.outs) (length u.outs) c (outs_count t d.classes) h.int_classes h.int_names
        (row_in t tab) q i l k l_in
        ∙ sym (h.steps i l k.other l_in);
  };
  outs = λ q i k. record {
    inside = out_in t tab some q k.inside;
    other = out_in u tab_u some_u i k.other;
    same = sym (class_out t d.classes q k.inside)
        ∙ as_named t.rows (letters t) (class_outs t d.classes) (length t.outs) (length u.outs) c (outs_count t d.classes) h.int_classes h.int_names q i k [] tt
        ∙ class_out t d.classes (slice_index c.names i) (h.int_names.in_range i k.other)
        ∙ sym (h.outs i k.other);
  };
  source = slice_index c.names;
  matched = λ i i_in. record { inside = h.int_names.in_range i i_in; other = i_in; same = h.int_names.own i i_in };
}
  where
    other_in : (i l : ℕ) → i < length u.outs → l < letters t → slice_index u.rows (i * letters t + l) < length u.outs
    other_in i l i_in l_in = subst (λ n. slice_index u.rows (i * n + l) < length u.outs) (sym (same_width t u h.base h.tracks))
        (row_in u tab_u i l i_in (subst (λ n. l < n) (same_width t u h.base h.tracks) l_in))

least_matching : (c d : ClassNames) (t u : Table) → IsTable t → IsClassTable c d t u → IsLeastMatching (int_rel c t u) (frac_rel d t u) t u
unfolding int_rel frac_rel
least_matching c d t u tab h = record {
  fraction_states = λ p q i j k m alike. h.fraction_names.distinct i j k.other m.other
      (sym k.same ∙ h.fraction_classes.coarse p q k.inside m.inside alike ∙ m.same);
  int_states = λ p q i j k m alike. h.int_names.distinct i j k.other m.other
      (sym k.same
      ∙ h.int_classes.coarse p q (subst (λ n. p < n) (sym (outs_count t d.classes)) k.inside) (subst (λ n. q < n) (sym (outs_count t d.classes)) m.inside)
      (λ w ls. class_out t d.classes (go t.rows (letters t) p w) (int_walk_in t tab p w k.inside ls)
      ∙ (alike w ls).first.same ∙ sym (alike w ls).second.same
      ∙ sym (class_out t d.classes (go t.rows (letters t) q w) (int_walk_in t tab q w m.inside ls)))
      ∙ m.same);
}

-- ---- the laws
pub class_table_accepts : (c d : ClassNames) (t u : Table) → IsTable t → IsTable u → 0 < fracs t → 0 < fracs u → IsWeak (letters t) (fraction_graph t)
    → IsClassTable c d t u → AcceptSameLassos t u
class_table_accepts c d t u tab tab_u some some_u w h =
    matched_accept (int_rel c t u) (frac_rel d t u) t u tab w (tables_matched c d t u tab tab_u some some_u h)

pub class_table_canonical : (c d : ClassNames) (t u : Table) → IsTable t → IsTable u → 0 < fracs t → 0 < fracs u → IsWeak (letters t) (fraction_graph t)
    → IsByRank (letters t) (fraction_graph t) → IsClassTable c d t u → IsNumbered u.roots u.rows (letters u) (ints u)
    → IsNumbered u.outs u.frac_rows (letters u) (fracs u) → IsCanonicalMixed u
class_table_canonical c d t u tab tab_u some some_u w r h numbered fraction_numbered =
    matched_canonical (int_rel c t u) (frac_rel d t u) t u tab w r (tables_matched c d t u tab tab_u some some_u h)
    (least_matching c d t u tab h) tab_u some_u numbered fraction_numbered
