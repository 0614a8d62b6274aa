-- The table of the explored classes of a diagram is canonical, and accepts the same words.
use Rattle.std.proofs.Common.{◌≡◌, ℕ, zero, suc, ◌^◌, ◌<◌, Bool, if◌then◌else◌, List, [], ◌∷◌, length, arith, refl, ◌∙◌, sym, ap, subst}
use Rattle.std.specs.Prelude.{slice_index, slice_get, nat_eq}
use Rattle.std.specs.declared.option.Option.TheVariants.{Some}
use Rattle.std.specs.List.{slice_index_or, AllByRecursion}
use Rattle.std.proofs.lemmas.Bool.{cases_order}
use Rattle.std.proofs.lemmas.List.{length-map, get_or-map}
use Rattle.std.proofs.lemmas.List.Elements.{recursion_from_All, All-from_recursion}
use Rattle.std.proofs.lemmas.Option.{slice_get_within, get_or_from_slice_get, slice_get-get_or}
use mathlib.Core.Logic.{inl, inr}
use Rattle.graph_laws.specs.Walks.{go}
use Rattle.graph_laws.specs.Paths.{Path, path_at, start_path, AtMost}
use Rattle.graph_laws.specs.Exploring.{after, IsPath, IsDistinct, KeyTable, position, IsExplored}
use Rattle.graph_laws.proofs.Weighing.{table_reached}
use Rattle.graph_laws.proofs.Positions.{positions_follow, own_position}
use Rattle.lash_model.specs.Tables.{Table, letters, ints, IsTable}
use Rattle.canonical_laws.specs.Behaviour.{Behaves}
use Rattle.canonical_laws.specs.Canonical.{IsPathOf, walked, IsNumbered, IsSeparated, IsCanonical, AcceptSameWords}
use Rattle.canonical_laws.proofs.Diagrams.{out_below}
use Rattle.step_tables.specs.Kept.{answered, laid}
use Rattle.weak_min.specs.Quotients.{Classed, IsClassed, classing, quotient, all_cells, class_says}
use Rattle.weak_min.proofs.ClassRuns.{class_key, go_in, root_in, class_in, led_class, class_out, walked_in, after_class}

abbrev bit : Bool → ℕ
bit b = if b then 1 else 0

-- ---- what was explored, and outputs for its positions
record Made (c : Classed) (k : KeyTable) (outs : List ℕ) : Type 0 where
  pub classed : IsClassed c
  pub explored : IsExplored (quotient (classing c)) (all_cells (classing c)) k
  pub outs_are : outs ≡ answered (class_says c.table.outs) k.keys

counted : (c : Classed) (k : KeyTable) (outs : List ℕ) → Made c k outs → length outs ≡ length k.keys
counted c k outs m = ap length m.outs_are ∙ length-map k.keys (λ x. bit (class_says c.table.outs x))

-- the position after a path, by the letters of the diagram
at_width : (c : Classed) (k : KeyTable) (outs : List ℕ) → Made c k outs → (p : Path) → position k p ≡ walked k.starts k.rows (letters c.table) p
at_width c k outs m p = ap (λ w. go k.rows w (slice_index k.starts p.start) p.word) m.explored.width

-- the key at a position is the class of a state
record HasState (c : Classed) (k : KeyTable) (i : ℕ) : Type 0 where
  pub state : ℕ
  pub inside : state < ints c.table
  pub key : slice_get k.keys i ≡ Some (class_key c.classes state)

state_at : (c : Classed) (k : KeyTable) (outs : List ℕ) → Made c k outs → (i : ℕ) → i < length k.keys → HasState c k i
unfolding table_reached
state_at c k outs m i lt =
    let r = table_reached (quotient (classing c)) (all_cells (classing c)) k m.explored i [] lt in
    record {
      state = walked c.table.roots c.table.rows (letters c.table) r.path;
      inside = walked_in c m.classed r.path r.valid;
      key = slice_get-get_or k.keys i [] lt ∙ ap (λ x. Some x) (sym r.leads ∙ after_class c m.classed r.path r.valid);
    }

-- the key after a word
key_after : (c : Classed) (k : KeyTable) (outs : List ℕ) → Made c k outs → (i q : ℕ) (w : List ℕ) → q < ints c.table → slice_get k.keys i ≡ Some (class_key c.classes q) → AllByRecursion (λ l. l < letters c.table) w → slice_get k.keys (go k.rows (letters c.table) i w) ≡ Some (class_key c.classes (go c.table.rows (letters c.table) q w))
key_after c k outs m i q w q_in e a = ap (λ n. slice_get k.keys (go k.rows n i w)) (sym m.explored.width)
    ∙ positions_follow (quotient (classing c)) (all_cells (classing c)) k m.explored i (class_key c.classes q) w (subst (λ n. AllByRecursion (λ l. l < n) w) (sym m.explored.width) a) e
    ∙ ap (λ x. Some x) (led_class c m.classed q w q_in a)

-- the output at a position
bit_back : (x : ℕ) → x < 2 → bit (nat_eq x 1) ≡ x
bit_back zero h = refl
bit_back (suc zero) h = refl
bit_back (suc (suc x)) h = absurd (omega (arith, h))

out_at : (c : Classed) (k : KeyTable) (outs : List ℕ) → Made c k outs → (i q : ℕ) → q < ints c.table → slice_get k.keys i ≡ Some (class_key c.classes q) → slice_index outs i ≡ slice_index c.table.outs q
out_at c k outs m i q q_in e = ap (λ xs. slice_index xs i) m.outs_are
    ∙ get_or-map (λ x. bit (class_says c.table.outs x)) k.keys i [] 0 (slice_get_within k.keys i (class_key c.classes q) e)
    ∙ ap (λ x. bit (class_says c.table.outs x)) (get_or_from_slice_get k.keys i (class_key c.classes q) [] e)
    ∙ bit_back (slice_index c.table.outs (slice_index c.classes q)) (out_below c.table m.classed.table m.classed.diagram (slice_index c.classes q) (class_in c m.classed q q_in))
    ∙ class_out c m.classed q q_in

out_after : (c : Classed) (k : KeyTable) (outs : List ℕ) → Made c k outs → (i q : ℕ) (w : List ℕ) → q < ints c.table → slice_get k.keys i ≡ Some (class_key c.classes q) → AllByRecursion (λ l. l < letters c.table) w → slice_index outs (go k.rows (letters c.table) i w) ≡ slice_index c.table.outs (go c.table.rows (letters c.table) q w)
out_after c k outs m i q w q_in e a = out_at c k outs m (go k.rows (letters c.table) i w) (go c.table.rows (letters c.table) q w) (go_in c m.classed q w q_in a) (key_after c k outs m i q w q_in e a)

-- ---- numbered by least paths
listed_path : (c : Classed) (k : KeyTable) (outs : List ℕ) → Made c k outs → (p : Path) → IsPath (quotient (classing c)) p → IsPathOf k.starts (letters c.table) p
listed_path c k outs m p v = record { start = subst (λ n. p.start < n) (sym m.explored.starts_count) v.start; letters = recursion_from_All (λ l. l < letters c.table) p.word v.letters }

path_back : (c : Classed) (k : KeyTable) (outs : List ℕ) → Made c k outs → (p : Path) → IsPathOf k.starts (letters c.table) p → IsPath (quotient (classing c)) p
path_back c k outs m p v = record { start = subst (λ n. p.start < n) m.explored.starts_count v.start; letters = All-from_recursion (λ l. l < letters c.table) p.word v.letters }

numbered : (c : Classed) (k : KeyTable) (outs : List ℕ) → Made c k outs → IsNumbered k.starts k.rows (letters c.table) (length outs)
numbered c k outs m = record {
  paths = m.explored.paths;
  count = sym as_long;
  valid = λ i lt. listed_path c k outs m (path_at m.explored.paths i) (m.explored.valid i (start_path 0) (subst (λ n. i < n) as_long lt));
  leads = λ i lt. sym (at_width c k outs m (path_at m.explored.paths i)) ∙ own_position (quotient (classing c)) (all_cells (classing c)) k m.explored i (subst (λ n. i < n) (counted c k outs m) lt);
  rising = m.explored.rising;
  least = λ p v. subst (λ s. AtMost (path_at m.explored.paths s) p) (at_width c k outs m p) (m.explored.least p (path_back c k outs m p v));
}
  where
    as_long : length outs ≡ length m.explored.paths
    as_long = counted c k outs m ∙ ap length m.explored.reached ∙ length-map m.explored.paths (after (quotient (classing c)))

-- ---- no two positions behave alike
same_place : (ks : List (List ℕ)) (x : List ℕ) (p q : ℕ) → IsDistinct ks → slice_get ks p ≡ Some x → slice_get ks q ≡ Some x → p ≡ q
same_place ks x p q d e f = elim (cases_order p q) [ inl same ↦ same | inr other ↦ elim other [ inl lt ↦ absurd (d p q [] lt (slice_get_within ks q x f) (at p e ∙ sym (at q f))) | inr gt ↦ absurd (d q p [] gt (slice_get_within ks p x e) (at q f ∙ sym (at p e))) ] ]
  where
    at : (i : ℕ) → slice_get ks i ≡ Some x → slice_index_or ks i [] ≡ x
    at i h = get_or_from_slice_get ks i x [] h

separated : (c : Classed) (k : KeyTable) (outs : List ℕ) → Made c k outs → IsSeparated k.rows (letters c.table) outs
separated c k outs m p q p_in q_in b = same_place k.keys (class_key c.classes j.state) p q m.explored.distinct (i.key ∙ ap (λ x. Some (x ∷ [])) (m.classed.classes.coarse i.state j.state i.inside j.inside alike)) j.key
  where
    i : HasState c k p
    i = state_at c k outs m p (subst (λ n. p < n) (counted c k outs m) p_in)

    j : HasState c k q
    j = state_at c k outs m q (subst (λ n. q < n) (counted c k outs m) q_in)

    alike : Behaves c.table.rows (letters c.table) c.table.outs i.state j.state
    alike w a = sym (out_after c k outs m p i.state w i.inside i.key a) ∙ b w a ∙ out_after c k outs m q j.state w j.inside j.key a

-- ---- the same words
start_key : (c : Classed) (k : KeyTable) (outs : List ℕ) → Made c k outs → (j : ℕ) → j < length c.table.roots → slice_get k.keys (slice_index k.starts j) ≡ Some (class_key c.classes (slice_index c.table.roots j))
start_key c k outs m j lt = m.explored.complete (start_path j) v ∙ ap (λ x. Some x) (after_class c m.classed (start_path j) v)
  where
    v : IsPath (quotient (classing c)) (start_path j)
    v = record { start = subst (λ n. j < n) (sym (length-map c.table.roots (class_key c.classes))) lt; letters = All-from_recursion (λ l. l < letters c.table) [] tt }

words : (c : Classed) (k : KeyTable) (outs : List ℕ) → Made c k outs → AcceptSameWords c.table (laid c.table.base c.table.tracks k outs)
words c k outs m sign w lt a = ap (λ x. nat_eq x 1) (sym (out_after c k outs m (slice_index k.starts sign) (slice_index c.table.roots sign) w (root_in c m.classed sign root) (start_key c k outs m sign root) a))
  where
    root : sign < length c.table.roots
    root = subst (λ n. sign < n) (sym m.classed.table.roots_count) lt

canonical_of : (c : Classed) (k : KeyTable) (outs : List ℕ) → Made c k outs → IsTable (laid c.table.base c.table.tracks k outs) → IsCanonical (laid c.table.base c.table.tracks k outs)
canonical_of c k outs m h = record { table = h; diagram = refl; numbered = numbered c k outs m; separated = separated c k outs m }

-- ---- the table
pub starts_of : (c : Classed) (k : KeyTable) → IsClassed c → IsExplored (quotient (classing c)) (all_cells (classing c)) k → length k.starts ≡ 2 ^ c.table.tracks
starts_of c k h e = e.starts_count ∙ length-map c.table.roots (class_key c.classes) ∙ h.table.roots_count

made_of : (c : Classed) (k : KeyTable) → IsClassed c → IsExplored (quotient (classing c)) (all_cells (classing c)) k → Made c k (answered (class_says c.table.outs) k.keys)
made_of c k h e = record { classed = h; explored = e; outs_are = refl }

pub quotient_canonical : (c : Classed) (k : KeyTable) (u : Table) → IsClassed c → IsExplored (quotient (classing c)) (all_cells (classing c)) k → IsTable u → u ≡ laid c.table.base c.table.tracks k (answered (class_says c.table.outs) k.keys) → IsCanonical u
quotient_canonical c k u h e valid is = subst IsCanonical (sym is) (canonical_of c k (answered (class_says c.table.outs) k.keys) (made_of c k h e) (subst IsTable is valid))

pub quotient_words : (c : Classed) (k : KeyTable) (u : Table) → IsClassed c → IsExplored (quotient (classing c)) (all_cells (classing c)) k → u ≡ laid c.table.base c.table.tracks k (answered (class_says c.table.outs) k.keys) → AcceptSameWords c.table u
quotient_words c k u h e is = subst (λ v. AcceptSameWords c.table v) (sym is) (words c k (answered (class_says c.table.outs) k.keys) (made_of c k h e))
