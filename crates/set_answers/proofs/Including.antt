-- The difference of two diagrams accepts nothing exactly if the first set is included in the second.
use Rattle.std.proofs.Common.{◌≡◌, ℕ, ◌^◌, ◌<◌, Bool, true, false, List, length, arith, refl, ◌∙◌, sym, ap, subst}
use Rattle.std.specs.Prelude.{slice_index, nat_eq, All, IsTrue, ◌↔◌}
use Rattle.std.proofs.lemmas.Bool.{eqb-true, false≢true}
use Rattle.std.proofs.lemmas.List.{length-map}
use Rattle.std.proofs.lemmas.List.Elements.{recursion_from_All}
use Rattle.integer_laws.proofs.Entries.{length-vector_from}
use Rattle.graph_laws.specs.Walks.{go}
use Rattle.graph_laws.specs.Paths.{Path, path_at, start_path}
use Rattle.graph_laws.specs.Exploring.{after, IsPath}
use Rattle.graph_laws.proofs.Positions.{own_position}
use Rattle.lash_model.specs.Formulas.{Sort, Formula}
use Rattle.lash_model.specs.Meaning.{holds, Solves}
use Rattle.lash_model.specs.Words.{value, values}
use Rattle.lash_model.specs.Tables.{Table, letters, ints, IsTable}
use Rattle.lash_model.specs.Acceptance.{int_state, accepts_word}
use Rattle.lash_model.specs.Standing.{StandsForWhole, all_int}
use Rattle.lash_model.proofs.Wholeness.{whole_over_one}
use Rattle.least_paths.proofs.PathEnds.{state_in}
use Rattle.product_ops.specs.Tracks.{TrackLists}
use Rattle.product_ops.specs.Operations.{joined}
use Rattle.product_ops.specs.Pairs.{pairs, left_operand, right_operand, IsPairTable}
use Rattle.product_ops.specs.declared.operation.Op.TheVariants.{AndNot}
use Rattle.product_ops.proofs.PairRuns.{starts_count}
use Rattle.set_answers.specs.Agreement.{Includes}
use Rattle.set_answers.specs.Differences.{all_tracks, SaysNo}
use Rattle.set_answers.proofs.SolvingWords.{word_of, values_vector}
use Rattle.product_ops.proofs.AllTracks.{picked}

-- two tables over all tracks, and the table of their difference
pub record IsDifference (a b : Table) (m : TrackLists) (t : Table) : Type 0 where
  pub left_table : IsTable a
  pub right_table : IsTable b
  pub one_base : a.base ≡ b.base
  pub one_count : a.tracks ≡ b.tracks
  pub all : m ≡ all_tracks a.tracks
  pub table : IsTable t
  pub base : t.base ≡ a.base
  pub tracks : t.tracks ≡ m.tracks

-- ---- each state of a table of pairs is reached by some sign vector and word
record ReachedBy (t : Table) (q : ℕ) : Type 0 where
  sign : ℕ
  word : List ℕ
  sign_below : sign < 2 ^ t.tracks
  letters_below : All (λ l. l < letters t) word
  leads : int_state t sign word ≡ q

reached : (a b t : Table) (n limit : ℕ) → t.base ≡ a.base → t.tracks ≡ n → IsPairTable AndNot a b (all_tracks n) limit t → (q : ℕ) → q < ints t → ReachedBy t q
reached a b t n limit base tracks h q lt = record {
  sign = p.start;
  word = p.word;
  sign_below = subst (λ k. p.start < 2 ^ k) (sym tracks) (subst (λ k. p.start < k)
      (starts_count (left_operand a (all_tracks n)) (right_operand b (all_tracks n))) valid.start);
  letters_below = subst (λ k. All (λ l. l < k) p.word) (sym width) valid.letters;
  leads = ap (λ k. go t.rows k (slice_index t.roots p.start) p.word) (width ∙ sym h.explored.width)
      ∙ ap (λ rows. go rows h.found.width (slice_index t.roots p.start) p.word) h.rows_are
      ∙ ap (λ roots. go h.found.rows h.found.width (slice_index roots p.start) p.word) h.roots_are
      ∙ own_position (pairs a b (all_tracks n)) limit h.found h.explored q inside;
}
  where
    inside : q < length h.found.keys
    inside = omega (arith, lt, h.states)

    p : Path
    p = path_at h.explored.paths q

    width : letters t ≡ a.base ^ n
    width = ap (λ r. r ^ t.tracks) base ∙ ap (λ k. a.base ^ k) tracks

    valid : IsPath (pairs a b (all_tracks n)) p
    valid = h.explored.valid q (start_path 0)
        (omega (arith, inside, ap length h.explored.reached ∙ length-map h.explored.paths (after (pairs a b (all_tracks n)))))

-- ---- answers of a table whose states say no
state_below : (t : Table) → IsTable t → (sign : ℕ) (w : List ℕ) → sign < 2 ^ t.tracks → All (λ l. l < letters t) w → int_state t sign w < ints t
state_below t h sign w lt a = state_in t h (record { start = sign; word = w })
    (record { start = subst (λ k. sign < k) (sym h.roots_count) lt; letters = recursion_from_All (λ l. l < letters t) w a })

-- ---- what the difference stands for
-- a vector of the values of a word is in the difference exactly if it solves the one and not the other
in_difference : (r n sign : ℕ) (w : List ℕ) (f g : Formula) → Solves (all_int n) f (values r n sign w) 1 → (holds g (values r n sign w) 1 → ⊥)
    → joined AndNot (holds f) (holds g) (all_tracks n) (values r n sign w) 1
in_difference r n sign w f g s out =
    let same = picked n (values r n sign w) (length-vector_from (λ i. value r n i sign w) 0 n) in (
      subst (λ ns. holds f ns 1) (sym same) s.0,
      λ y. out (subst (λ ns. holds g ns 1) same y),
    )

of_difference : (r n sign : ℕ) (w : List ℕ) (f g : Formula) → joined AndNot (holds f) (holds g) (all_tracks n) (values r n sign w) 1
    → Solves (all_int n) f (values r n sign w) 1 × (holds g (values r n sign w) 1 → ⊥)
of_difference r n sign w f g j =
    let same = picked n (values r n sign w) (length-vector_from (λ i. value r n i sign w) 0 n) in (
      (subst (λ ns. holds f ns 1) same j.0, whole_over_one (all_int n) (values r n sign w)),
      λ y. j.1 (subst (λ ns. holds g ns 1) (sym same) y),
    )

-- ---- the two tables, their difference, and the sets that they stand for
pub record Differ (a b t : Table) (n limit : ℕ) (f g : Formula) : Type 0 where
  pub left_table : IsTable a
  pub right_table : IsTable b
  pub table : IsTable t
  pub left_tracks : a.tracks ≡ n
  pub right_tracks : b.tracks ≡ n
  pub right_base : a.base ≡ b.base
  pub base : t.base ≡ a.base
  pub tracks : t.tracks ≡ n
  pub pairs_are : IsPairTable AndNot a b (all_tracks n) limit t
  pub right_set : StandsForWhole b (Solves (all_int n) g)
  pub stands : StandsForWhole t (joined AndNot (holds f) (holds g) (all_tracks n))

-- a word of the right table is one of the difference
pub included : (a b t : Table) (n limit : ℕ) (f g : Formula) → Differ a b t n limit f g → SaysNo t → Includes (all_int n) f g
included a b t n limit f g h none ns d v s =
    let x = word_of a.base n ns d (h.left_table.shape.base_low) v s.1 in (x.same g).1 (on_word x.sign x.word x.sign_below x.letters ((x.same f).0 s))
  where
    on_word : (sign : ℕ) (w : List ℕ) → sign < 2 ^ n → All (λ l. l < a.base ^ n) w → Solves (all_int n) f (values a.base n sign w) 1
        → Solves (all_int n) g (values a.base n sign w) 1
    on_word sign w lt inside y = by (accepts_word b sign w) refl
      where
        of_right : IsTrue (accepts_word b sign w) ↔ Solves (all_int n) g (values a.base n sign w) 1
        of_right = subst (λ r. IsTrue (accepts_word b sign w) ↔ Solves (all_int n) g (values r n sign w) 1) (sym h.right_base)
            (subst (λ k. IsTrue (accepts_word b sign w) ↔ Solves (all_int n) g (values b.base k sign w) 1) h.right_tracks
            (h.right_set.each sign w (subst (λ k. sign < 2 ^ k) (sym h.right_tracks) lt)
            (subst (λ k. All (λ l. l < b.base ^ k) w) (sym h.right_tracks) (subst (λ r. All (λ l. l < r ^ n) w) h.right_base inside))))

        sign_in : sign < 2 ^ t.tracks
        sign_in = subst (λ k. sign < 2 ^ k) (sym h.tracks) lt

        word_in : All (λ l. l < letters t) w
        word_in = subst (λ r. All (λ l. l < r ^ t.tracks) w) (sym h.base) (subst (λ k. All (λ l. l < a.base ^ k) w) (sym h.tracks) inside)

        of_pairs : IsTrue (accepts_word t sign w) ↔ joined AndNot (holds f) (holds g) (all_tracks n) (values a.base n sign w) 1
        of_pairs = subst (λ r. IsTrue (accepts_word t sign w) ↔ joined AndNot (holds f) (holds g) (all_tracks n) (values r n sign w) 1) h.base
            (subst (λ k. IsTrue (accepts_word t sign w) ↔ joined AndNot (holds f) (holds g) (all_tracks n) (values t.base k sign w) 1) h.tracks
            (h.stands.each sign w sign_in word_in))

        by : (answer : Bool) → accepts_word b sign w ≡ answer → Solves (all_int n) g (values a.base n sign w) 1
        by true e = of_right.0 e
        by false e = absurd (none (int_state t sign w) (state_below t h.table sign w sign_in word_in)
            (eqb-true (slice_index t.outs (int_state t sign w)) 1
            (of_pairs.1 (in_difference a.base n sign w f g y (λ z. false≢true (sym e ∙ of_right.1 (z, whole_over_one (all_int n) (values a.base n sign w))))))))

pub nothing_left : (a b t : Table) (n limit : ℕ) (f g : Formula) → Differ a b t n limit f g → Includes (all_int n) f g → SaysNo t
nothing_left a b t n limit f g h includes q lt said =
    let x = reached a b t n limit h.base h.tracks h.pairs_are q lt in
    let accepted : accepts_word t x.sign x.word ≡ true = ap (λ p. nat_eq (slice_index t.outs p) 1) x.leads ∙ ap (λ o. nat_eq o 1) said in
    let found = of_difference t.base n x.sign x.word f g
    (subst (λ k. joined AndNot (holds f) (holds g) (all_tracks n) (values t.base k x.sign x.word) 1) h.tracks
    ((h.stands.each x.sign x.word x.sign_below x.letters_below).0 accepted)) in
    found.1 (includes (values t.base n x.sign x.word) 1 (values_vector t.base n x.sign x.word) found.0).0

-- a table stands for a formula's meaning if it stands for its set
stands_for_meaning : (t : Table) (sorts : List Sort) (f : Formula) → StandsForWhole t (Solves sorts f) → StandsForWhole t (holds f)
stands_for_meaning t sorts f s = record {
  diagram = s.diagram;
  each = λ sign w h ls. (λ a. ((s.each sign w h ls).0 a).0, λ b. (s.each sign w h ls).1 (b, whole_over_one sorts _));
}

-- what a product of the two over all tracks says of its answer
pub diagrams_within : (a b t : Table) (m : TrackLists) (n limit : ℕ) (f g : Formula) (answer : Bool) → IsDifference a b m t → IsPairTable AndNot a b m limit t
    → ((P Q : Formula) → StandsForWhole a (holds P) → StandsForWhole b (holds Q) → StandsForWhole t (joined AndNot (holds P) (holds Q) m))
    → IsTrue answer ↔ SaysNo t → a.tracks ≡ n → StandsForWhole a (Solves (all_int n) f) → StandsForWhole b (Solves (all_int n) g)
    → IsTrue answer ↔ Includes (all_int n) f g
diagrams_within a b t m n limit f g answer h pairs_are stands says e sf sg = (
  λ y. included a b t n limit f g facts (says.0 y),
  λ i. says.1 (nothing_left a b t n limit f g facts i),
)
  where
    all : m ≡ all_tracks n
    all = h.all ∙ ap all_tracks e

    facts : Differ a b t n limit f g
    facts = record {
      left_table = h.left_table;
      right_table = h.right_table;
      table = h.table;
      left_tracks = e;
      right_tracks = sym h.one_count ∙ e;
      right_base = h.one_base;
      base = h.base;
      tracks = h.tracks ∙ ap (λ (x : TrackLists). x.tracks) all;
      pairs_are = subst (λ x. IsPairTable AndNot a b x limit t) all pairs_are;
      right_set = sg;
      stands = subst (λ x. StandsForWhole t (joined AndNot (holds f) (holds g) x)) all
          (stands f g (stands_for_meaning a (all_int n) f sf) (stands_for_meaning b (all_int n) g sg));
    }
