-- The least ways of the doubled graph are the least loops.
use Rattle.std.proofs.Common.{◌≡◌, ℕ, ◌+◌, ◌*◌, ◌<◌, Bool, true, false, ◌&&◌, List, [], ◌∷◌, ◌++◌, slice_index, nat_eq, if◌then◌else◌, arith, inl, inr, refl, sym, ap, ◌∙◌, subst}
use Rattle.std.specs.List.{AllByRecursion}
use Rattle.std.proofs.lemmas.List.Elements.{recursion_from_All, All-from_recursion}
use Rattle.graph_laws.specs.Walks.{go}
use Rattle.graph_laws.specs.Paths.{Path, AtMost}
use Rattle.graph_laws.specs.Paths.Before.{shorter, lower, earlier}
use Rattle.graph_laws.proofs.Joining.{go-append}
use Rattle.canonical_laws.specs.Canonical.{IsPathOf}
use Rattle.canonical_laws.proofs.Diagrams.{read_below}
use Rattle.lash_model.specs.Tables.{Table, letters, fracs, IsTable}
use Rattle.lash_model.specs.Acceptance.{is_clear}
use Rattle.part_laws.proofs.Walking.{word-append}
use Rattle.least_paths.specs.Nets.{Net, end_of}
use Rattle.marked_laws.specs.Weakening.{IsClearLoop, IsMarkedLoop}
use Rattle.marked_laws.specs.TornTables.{IsWordAtMost}
use Rattle.weak_forms.specs.Ways.{IsGoal, IsLeastWay, LeadsToNone}
use Rattle.weak_forms.specs.Marking.{LiesTorn, IsOnlyGoal}
use Rattle.weak_forms.specs.Doubling.{next_state, AreDoubled}
use Rattle.weak_forms.specs.Words.{AreTargets, IsLeastClear, IsLeastMarked}
use Rattle.weak_forms.proofs.NotingMarks.{no_colour}
use Rattle.weak_forms.proofs.Doubled.{go_first, not_clear, clear_first}
use Rattle.weak_forms.proofs.TornStates.{walked_in, clear_loop, clear_leads}

-- the doubled graph, from those starts
abbrev pub doubled_net : Table → List ℕ → List ℕ → Net
doubled_net t rows starts = record { starts = starts; rows = rows; width = letters t; states = 2 * fracs t }

pub net_is : (t : Table) (g : Net) (starts targets rows : List ℕ) (width states : ℕ) → g ≡ record { starts = starts; rows = rows; width = width; states = states }
    → starts ≡ targets → width ≡ letters t → states ≡ 2 * fracs t → g ≡ doubled_net t rows targets
net_is t g starts targets rows width states e f w k = rw (e, f, w, k) refl

abbrev pub path : ℕ → List ℕ → Path
path start w = record { start = start; word = w }

-- the letter in front of a word takes the place of the start
front_letter : (a b : ℕ) (w v : List ℕ) → AtMost (path a w) (path b v) → IsWordAtMost (a ∷ w) (b ∷ v)
front_letter a b w v (inl e) = inl (ap (λ (x : Path). path 0 (x.start ∷ x.word)) e)
front_letter a b w v (inr (shorter lt)) = inr (shorter (omega (arith, lt)))
front_letter a b w v (inr (lower long lt)) = inr (earlier (omega (arith, long)) refl (inl lt))
front_letter a b w v (inr (earlier long same f)) = inr (earlier (omega (arith, long)) refl (inr (same, f)))

-- the same start is no difference
same_start : (start : ℕ) (w v : List ℕ) → start < 1 → AtMost (path start w) (path 0 v) → IsWordAtMost w v
same_start start w v lt m = subst (λ n. AtMost (path n w) (path 0 v)) (omega (arith, lt)) m

-- ---- a word that meets a mark
record Meets (t : Table) (q : ℕ) (w : List ℕ) : Type 0 where
  pub front : List ℕ
  pub rest : List ℕ
  pub parted : w ≡ front ++ rest
  pub marked : slice_index t.colours (go t.frac_rows (letters t) q front) ≡ 0

at_once : (t : Table) → IsTable t → (q : ℕ) (w : List ℕ) → q < fracs t → nat_eq (slice_index t.colours q) 1 ≡ false → Meets t q w
at_once t h q w q_in e = record { front = []; rest = w; parted = refl; marked = no_colour (slice_index t.colours q) (read_below t.colours 2 q h.colours_in q_in) e }

later : (t : Table) (q l : ℕ) (w : List ℕ) → Meets t (next_state t q l) w → Meets t q (l ∷ w)
later t q l w m = record { front = l ∷ m.front; rest = m.rest; parted = ap (λ v. l ∷ v) m.parted; marked = m.marked }

meets : (t : Table) → IsTable t → (q : ℕ) (w : List ℕ) → q < fracs t → AllByRecursion (λ l. l < letters t) w → is_clear t q w ≡ false → Meets t q w
meets t h q [] q_in w_in e = at_once t h q [] q_in e
meets t h q (l ∷ w) q_in w_in e =
    by (nat_eq (slice_index t.colours q) 1) refl e
    (meets t h (next_state t q l) w (walked_in t h q (l ∷ []) q_in (w_in.0, tt)) w_in.1)
  where
    by : (b : Bool) → nat_eq (slice_index t.colours q) 1 ≡ b → (b && is_clear t (next_state t q l) w) ≡ false
        → (is_clear t (next_state t q l) w ≡ false → Meets t (next_state t q l) w) → Meets t q (l ∷ w)
    by false f k rec = at_once t h q (l ∷ w) q_in f
    by true f k rec = later t q l w (rec k)

zero_is_no : (x : ℕ) → x ≡ 0 → nat_eq x 1 ≡ false
zero_is_no x e = rw e refl

met : (t : Table) (q : ℕ) (front rest : List ℕ) → slice_index t.colours (go t.frac_rows (letters t) q front) ≡ 0 → is_clear t q (front ++ rest) ≡ false
met t q [] rest e = not_clear t q rest (zero_is_no (slice_index t.colours q) e)
met t q (l ∷ front) rest e = by (nat_eq (slice_index t.colours q) 1) (met t (next_state t q l) front rest e)
  where
    by : (b : Bool) → is_clear t (next_state t q l) (front ++ rest) ≡ false → (b && is_clear t (next_state t q l) (front ++ rest)) ≡ false
    by true f = f
    by false f = refl

module _ (t : Table) (h : IsTable t) (rows : List ℕ) (d : AreDoubled t (2 * fracs t) 0 rows) (q : ℕ) (q_in : q < fracs t) (torn : LiesTorn t q) where
  unmarked : nat_eq (slice_index t.colours q) 1 ≡ true
  unmarked = clear_first t q torn.word torn.loop.clear

  -- ---- the loop without a mark
  module _ (targets : List ℕ) (a : AreTargets rows (letters t) q (letters t) targets) (goals : List Bool) (o : IsOnlyGoal (2 * fracs t) q goals) where
    rest_leads : (l : ℕ) (v : List ℕ) → l < letters t → go rows (letters t) (slice_index targets l) v ≡ go rows (letters t) q (l ∷ v)
    rest_leads l v l_in = ap (λ s. go rows (letters t) s v) (a.each l l_in)

    -- a loop is a way from a target
    record LoopWay (v : List ℕ) : Type 0 where
      pub letter : ℕ
      pub rest : List ℕ
      pub is : v ≡ letter ∷ rest
      pub valid : IsPathOf targets (letters t) (path letter rest)
      pub good : IsGoal goals (end_of (doubled_net t rows targets) (path letter rest))

    loop_way : (v : List ℕ) → IsClearLoop t q v → LoopWay v
    loop_way [] loop = absurd (omega (arith, loop.some))
    loop_way (l ∷ v) loop =
        let v_in : AllByRecursion (λ k. k < letters t) (l ∷ v) = recursion_from_All (λ k. k < letters t) (l ∷ v) loop.letters_in in
        record {
          letter = l;
          rest = v;
          is = refl;
          valid = record { start = subst (λ n. l < n) (sym a.count) v_in.0; letters = v_in.1 };
          good = subst (IsGoal goals) (sym (rest_leads l v v_in.0 ∙ clear_leads t h rows d q (l ∷ v) q_in loop.clear v_in ∙ loop.leads)) o.here;
        }

    pub some_clear : LeadsToNone (doubled_net t rows targets) goals → ⊥
    some_clear none = let w = loop_way torn.word torn.loop in none (path w.letter w.rest) w.valid w.good

    pub least_clear : (start : ℕ) (w : List ℕ) → IsLeastWay (doubled_net t rows targets) goals (path start w) → IsLeastClear t q (start ∷ w)
    least_clear start w way = record {
      loop = clear_loop t h rows d q (start ∷ w) q_in unmarked (start_in, way.valid.letters) (omega arith) (sym (rest_leads start w start_in) ∙ o.only _ way.leads);
      least = λ v loop. let x = loop_way v loop in
          subst (IsWordAtMost (start ∷ w)) (sym x.is) (front_letter start x.letter w x.rest (way.least (path x.letter x.rest) x.valid x.good));
    }
      where
        start_in : start < letters t
        start_in = subst (λ n. start < n) a.count way.valid.start

  -- ---- the loop with a mark
  module _ (goals : List Bool) (o : IsOnlyGoal (2 * fracs t) (q + fracs t) goals) where
    -- a loop with a mark leads from the first copy to the second one
    marked_leads : (v : List ℕ) → AllByRecursion (λ l. l < letters t) v → go t.frac_rows (letters t) q v ≡ q → is_clear t q v ≡ false
        → go rows (letters t) q v ≡ q + fracs t
    marked_leads v v_in e f = go_first t h rows d q v q_in unmarked v_in
        ∙ ap (λ b. if b then go t.frac_rows (letters t) q v else go t.frac_rows (letters t) q v + fracs t) f ∙ ap (λ s. s + fracs t) e

    loop_unclear : (v : List ℕ) → IsMarkedLoop t q v → is_clear t q v ≡ false
    loop_unclear v loop = ap (is_clear t q) loop.parted ∙ met t q loop.front loop.rest loop.marked

    only_path : (v : List ℕ) → AllByRecursion (λ l. l < letters t) v → IsPathOf (q ∷ []) (letters t) (path 0 v)
    only_path v v_in = record { start = omega arith; letters = v_in }

    pub some_marked : LeadsToNone (doubled_net t rows (q ∷ [])) goals → ⊥
    some_marked none = none (path 0 word) (only_path word word_in) (subst (IsGoal goals) (sym (marked_leads word word_in back
        (met t q torn.there.word torn.back.word (ap (slice_index t.colours) torn.there.leads ∙ torn.marked)))) o.here)
      where
        word : List ℕ
        word = torn.there.word ++ torn.back.word

        word_in : AllByRecursion (λ l. l < letters t) word
        word_in = word-append (letters t) torn.there.word torn.back.word torn.there.letters torn.back.letters

        back : go t.frac_rows (letters t) q word ≡ q
        back = go-append t.frac_rows (letters t) q torn.there.word torn.back.word
            ∙ ap (λ s. go t.frac_rows (letters t) s torn.back.word) torn.there.leads ∙ torn.back.leads

    pub least_marked : (start : ℕ) (w : List ℕ) → IsLeastWay (doubled_net t rows (q ∷ [])) goals (path start w) → IsLeastMarked t q w
    least_marked start w way = record {
      loop = record {
        letters_in = All-from_recursion (λ l. l < letters t) w w_in;
        leads = back;
        front = mark.front;
        rest = mark.rest;
        parted = mark.parted;
        marked = mark.marked;
      };
      least = λ v loop. let v_in = recursion_from_All (λ l. l < letters t) v loop.letters_in in
          same_start start w v start_in (way.least (path 0 v) (only_path v v_in)
          (subst (IsGoal goals) (sym (marked_leads v v_in loop.leads (loop_unclear v loop))) o.here));
    }
      where
        start_in : start < 1
        start_in = way.valid.start

        w_in : AllByRecursion (λ l. l < letters t) w
        w_in = way.valid.letters

        leads : go rows (letters t) q w ≡ q + fracs t
        leads = ap (λ n. go rows (letters t) (slice_index (q ∷ []) n) w) (zero_is start start_in) ∙ o.only _ way.leads
          where
            zero_is : (n : ℕ) → n < 1 → 0 ≡ n
            zero_is n lt = omega (arith, lt)

        at : go rows (letters t) q w ≡ (if is_clear t q w then go t.frac_rows (letters t) q w else go t.frac_rows (letters t) q w + fracs t)
        at = go_first t h rows d q w q_in unmarked w_in

        unclear : is_clear t q w ≡ false
        unclear = by (is_clear t q w) refl
          where
            by : (b : Bool) → is_clear t q w ≡ b → is_clear t q w ≡ false
            by false f = f
            by true f = absurd (omega (
              arith,
              leads,
              walked_in t h q w q_in w_in,
              at ∙ ap (λ b. if b then go t.frac_rows (letters t) q w else go t.frac_rows (letters t) q w + fracs t) f,
            ))

        back : go t.frac_rows (letters t) q w ≡ q
        back = omega (arith, leads, at ∙ ap (λ b. if b then go t.frac_rows (letters t) q w else go t.frac_rows (letters t) q w + fracs t) unclear)

        mark : Meets t q w
        mark = meets t h q w q_in w_in unclear
