-- The set after a kept sign vector and word has exactly the states over it, so the diagram that forgets the track accepts exactly where
-- some word over it is accepted.
use Rattle.std.proofs.Common.{◌≡◌, ℕ, suc, ◌+◌, ◌^◌, ◌<◌, Bool, true, false, List, [], ◌∷◌, ◌++◌, length, map, take, drop, arith, refl, ◌∙◌, sym, ap, subst}
use Rattle.std.specs.Prelude.{slice_index, slice_get, All, Contains, nat_eq, if◌then◌else◌}
use Rattle.std.specs.List.{slice_index_or, list_any, Any, AllByRecursion}
use Rattle.std.specs.declared.option.Option.TheVariants.{Some}
use Rattle.std.proofs.lemmas.List.{length-append, length-take-le, length-drop, take-append-drop}
use Rattle.std.proofs.lemmas.List.Folds.{Any-from_list_any, list_any_at}
use Rattle.std.proofs.lemmas.List.Elements.{All-from_recursion, recursion_from_All, All-contains, All-append, All-take, All-drop}
use Rattle.std.proofs.lemmas.Option.{slice_get_within, get_or_from_slice_get}
use Rattle.graph_laws.specs.Walks.{go, copies}
use Rattle.graph_laws.specs.Paths.{Path}
use Rattle.graph_laws.specs.Exploring.{list_at, led, IsPath, position}
use Rattle.graph_laws.proofs.Joining.{go-append}
use Rattle.lash_model.specs.Letters.{sign_letter}
use Rattle.lash_model.specs.Tables.{Table, letters, ints, IsTable}
use Rattle.lash_model.specs.Acceptance.{int_state, accepts_word}
use Rattle.subset_build.specs.Projection.{with_digit, kept, root_over, int_transitions, target, IsSignReached, AreStartSets, step_of_set, subsets, out_of_set, IsSubsetTable, woven, IsAcceptedOver, AcceptsSome}
use Rattle.subset_build.proofs.Closings.{reached_below}
use Rattle.subset_build.proofs.Targets.{int_moves, IsTargetOf, target_below, step_set}

-- a member goes to the state by a word of kept letters and some digits
record IsLedBy (t : Table) (track : ℕ) (set w : List ℕ) (q : ℕ) : Type 0 where
  source : ℕ
  word : List ℕ
  member : Contains set source
  digits_in : AllByRecursion (λ d. d < t.base) word
  count : length word ≡ length w
  leads : q ≡ go t.rows (letters t) source (woven t.base (kept t) track w word)

-- the set that a set goes to is of states
step_below : (t : Table) (track l : ℕ) (set : List ℕ) → IsTable t → track < t.tracks → l < t.base ^ kept t → All (λ q. q < ints t) set → All (λ q. q < ints t) (step_of_set (int_transitions t) track set l)
step_below t track l set h lt small below k d inside =
    let r = (step_set (int_transitions t) track l set (int_moves t h) lt small below).sound k d inside in
    subst (λ x. x < ints t) r.leads (target_below (int_transitions t) track l r.source r.digit (int_moves t h) lt small (All-contains (λ q. q < ints t) set r.source below r.member) r.digit_below)

led_member : (t : Table) (track : ℕ) (set w : List ℕ) (q : ℕ) → IsTable t → track < t.tracks → AllByRecursion (λ l. l < t.base ^ kept t) w → All (λ q. q < ints t) set → Contains (led (step_of_set (int_transitions t) track) set w) q → IsLedBy t track set w q
led_member t track set [] q h lt a below c = record { source = q; word = []; member = c; digits_in = tt; count = refl; leads = refl }
led_member t track set (l ∷ w) q h lt a below c = from (led_member t track (step_of_set (int_transitions t) track set l) w q h lt a.1 (step_below t track l set h lt a.0 below) c)
  where
    from : IsLedBy t track (step_of_set (int_transitions t) track set l) w q → IsLedBy t track set (l ∷ w) q
    from r =
        let s : IsTargetOf (int_transitions t) track l set r.source = All-contains (IsTargetOf (int_transitions t) track l set) (step_of_set (int_transitions t) track set l) r.source (step_set (int_transitions t) track l set (int_moves t h) lt a.0 below).sound r.member in
        record {
          source = s.source;
          word = s.digit ∷ r.word;
          member = s.member;
          digits_in = (s.digit_below, r.digits_in);
          count = ap suc r.count;
          leads = r.leads ∙ ap (λ x. go t.rows (letters t) x (woven t.base (kept t) track w r.word)) (sym s.leads);
        }

member_led : (t : Table) (track : ℕ) (set w : List ℕ) (q source : ℕ) (word : List ℕ) → IsTable t → track < t.tracks → AllByRecursion (λ l. l < t.base ^ kept t) w → All (λ q. q < ints t) set → Contains set source → AllByRecursion (λ d. d < t.base) word → length word ≡ length w → q ≡ go t.rows (letters t) source (woven t.base (kept t) track w word) → Contains (led (step_of_set (int_transitions t) track) set w) q
member_led t track set [] q source word h lt a below c ds e is = subst (Contains set) (sym is) c
member_led t track set (l ∷ w) q source [] h lt a below c ds e is = absurd (omega (arith, e))
member_led t track set (l ∷ w) q source (d ∷ word) h lt a below c ds e is = member_led t track (step_of_set (int_transitions t) track set l) w q (target (int_transitions t) track l source d) word h lt a.1 (step_below t track l set h lt a.0 below)
    ((step_set (int_transitions t) track l set (int_moves t h) lt a.0 below).complete (target (int_transitions t) track l source d) (record { source = source; digit = d; member = c; digit_below = ds.0; leads = refl }))
    ds.1 (omega (arith, e)) is

-- ---- sign letters in front
woven_front : (base count track z : ℕ) (ds w es : List ℕ) → woven base count track (copies (length ds) (z ∷ []) ++ w) (ds ++ es) ≡ map (with_digit base count track z) ds ++ woven base count track w es
woven_front base count track z [] w es = refl
woven_front base count track z (d ∷ ds) w es = ap (λ us. with_digit base count track z d ∷ us) (woven_front base count track z ds w es)

-- the walk over sign letters and a word
walk_parts : (t : Table) (track sign b : ℕ) (ds w es : List ℕ) → int_state t (with_digit 2 (kept t) track sign b) (woven t.base (kept t) track (copies (length ds) (sign_letter t.base (kept t) sign ∷ []) ++ w) (ds ++ es)) ≡ go t.rows (letters t) (go t.rows (letters t) (root_over t track sign b) (map (with_digit t.base (kept t) track (sign_letter t.base (kept t) sign)) ds)) (woven t.base (kept t) track w es)
walk_parts t track sign b ds w es = ap (go t.rows (letters t) (root_over t track sign b)) (woven_front t.base (kept t) track (sign_letter t.base (kept t) sign) ds w es) ∙ go-append t.rows (letters t) (root_over t track sign b) (map (with_digit t.base (kept t) track (sign_letter t.base (kept t) sign)) ds) (woven t.base (kept t) track w es)

-- the set after a sign vector and a word
set_after : Table → ℕ → List (List ℕ) → ℕ → List ℕ → List ℕ
set_after t track sets sign w = led (step_of_set (int_transitions t) track) (list_at sets sign) w

starts_below : (t : Table) (track sign : ℕ) (sets : List (List ℕ)) → IsTable t → track < t.tracks → AreStartSets t track sets → sign < 2 ^ kept t → All (λ q. q < ints t) (list_at sets sign)
starts_below t track sign sets h lt s small k d inside = reached_below t track sign (slice_index_or (list_at sets sign) k d) h lt small ((s.each sign small).sound k d inside)

accepted_from_member : (t : Table) (track sign q : ℕ) (sets : List (List ℕ)) (w : List ℕ) → IsTable t → track < t.tracks → AreStartSets t track sets → sign < 2 ^ kept t → AllByRecursion (λ l. l < t.base ^ kept t) w → Contains (set_after t track sets sign w) q → nat_eq (slice_index t.outs q) 1 ≡ true → IsAcceptedOver t track sign w
unfolding set_after
accepted_from_member t track sign q sets w h lt s small a c positive = from (led_member t track (list_at sets sign) w q h lt a (starts_below t track sign sets h lt s small) c)
  where
    from : IsLedBy t track (list_at sets sign) w q → IsAcceptedOver t track sign w
    from r =
        let o : IsSignReached t track sign r.source = All-contains (IsSignReached t track sign) (list_at sets sign) r.source (s.each sign small).sound r.member in
        record {
          bit = o.bit;
          more = length o.word;
          word = o.word ++ r.word;
          bit_below = o.bit_below;
          digits_in = All-append (λ d. d < t.base) o.word r.word o.digits_in (All-from_recursion (λ d. d < t.base) r.word r.digits_in);
          count = length-append o.word r.word ∙ ap (λ n. length o.word + n) r.count;
          accepted = subst (λ x. nat_eq (slice_index t.outs x) 1 ≡ true) (r.leads ∙ ap (λ x. go t.rows (letters t) x (woven t.base (kept t) track w r.word)) o.leads ∙ sym (walk_parts t track sign o.bit o.word w r.word)) positive;
        }

-- the state behind an accepted word, which is a member
member_from_accepted : (t : Table) (track sign : ℕ) (sets : List (List ℕ)) (w : List ℕ) → IsTable t → track < t.tracks → AreStartSets t track sets → sign < 2 ^ kept t → AllByRecursion (λ l. l < t.base ^ kept t) w → IsAcceptedOver t track sign w → (q : ℕ) × (Contains (set_after t track sets sign w) q) × (nat_eq (slice_index t.outs q) 1 ≡ true)
unfolding set_after
member_from_accepted t track sign sets w h lt s small a o = (state, inside, subst (λ x. nat_eq (slice_index t.outs x) 1 ≡ true) is o.accepted)
  where
    z : ℕ
    z = sign_letter t.base (kept t) sign

    front : List ℕ
    front = take o.more o.word

    rest : List ℕ
    rest = drop o.more o.word

    front_count : length front ≡ o.more
    front_count = length-take-le o.more o.word (omega (arith, o.count))

    rest_count : length rest ≡ length w
    rest_count = omega (arith, length-drop o.more o.word, o.count)

    source : ℕ
    source = go t.rows (letters t) (root_over t track sign o.bit) (map (with_digit t.base (kept t) track z) front)

    state : ℕ
    state = go t.rows (letters t) source (woven t.base (kept t) track w rest)

    is : int_state t (with_digit 2 (kept t) track sign o.bit) (woven t.base (kept t) track (copies o.more (z ∷ []) ++ w) o.word) ≡ state
    is = ap (λ n. int_state t (with_digit 2 (kept t) track sign o.bit) (woven t.base (kept t) track (copies n (z ∷ []) ++ w) o.word)) (sym front_count)
        ∙ ap (λ ds. int_state t (with_digit 2 (kept t) track sign o.bit) (woven t.base (kept t) track (copies (length front) (z ∷ []) ++ w) ds)) (sym (take-append-drop o.more o.word))
        ∙ walk_parts t track sign o.bit front w rest

    reached : IsSignReached t track sign source
    reached = record { bit = o.bit; word = front; bit_below = o.bit_below; digits_in = All-take (λ d. d < t.base) o.more o.word o.digits_in; leads = refl }

    inside : Contains (led (step_of_set (int_transitions t) track) (list_at sets sign) w) state
    inside = member_led t track (list_at sets sign) w state source rest h lt a (starts_below t track sign sets h lt s small) ((s.each sign small).complete source reached) (recursion_from_All (λ d. d < t.base) rest (All-drop (λ d. d < t.base) o.more o.word o.digits_in)) rest_count refl

-- ---- the output of a set
yes_of_set : Table → List ℕ → Bool
yes_of_set t set = list_any (λ q. nat_eq (slice_index t.outs q) 1) set

bit_is : (x : Bool) → nat_eq (if x then 1 else 0) 1 ≡ x
bit_is true = refl
bit_is false = refl

member_of_yes : (t : Table) (set : List ℕ) → yes_of_set t set ≡ true → (q : ℕ) × (Contains set q) × (nat_eq (slice_index t.outs q) 1 ≡ true)
unfolding yes_of_set
member_of_yes t set h = from (Any-from_list_any (λ q. nat_eq (slice_index t.outs q) 1) set h)
  where
    from : Any (λ q. nat_eq (slice_index t.outs q) 1 ≡ true) set → (q : ℕ) × (Contains set q) × (nat_eq (slice_index t.outs q) 1 ≡ true)
    from a = (a.1, (a.0, a.2, a.3), a.4)

yes_of_member : (t : Table) (set : List ℕ) (q : ℕ) → Contains set q → nat_eq (slice_index t.outs q) 1 ≡ true → yes_of_set t set ≡ true
unfolding yes_of_set
yes_of_member t set q c positive = list_any_at (λ q. nat_eq (slice_index t.outs q) 1) set c.0 q c.1 (subst (λ x. nat_eq (slice_index t.outs x) 1 ≡ true) (sym c.2) positive)

-- the answer is whether some member of the set after the word has output yes
answer : (t : Table) (track limit : ℕ) (u : Table) → (h : IsSubsetTable t track limit u) → u.base ≡ t.base → u.tracks ≡ kept t → (sign : ℕ) (w : List ℕ) → sign < 2 ^ kept t → All (λ l. l < t.base ^ kept t) w → accepts_word u sign w ≡ yes_of_set t (set_after t track h.sets sign w)
unfolding yes_of_set set_after
answer t track limit u h base tracks sign w lt inside = ap (λ q. nat_eq (slice_index u.outs q) 1) state ∙ ap (λ o. nat_eq o 1) out ∙ bit_is (yes_of_set t (set_after t track h.sets sign w))
  where
    p : Path
    p = record { start = sign; word = w }

    valid : IsPath (subsets (int_transitions t) track h.sets) p
    valid = record { start = subst (λ n. sign < n) (sym h.are_starts.count) lt; letters = inside }

    here : slice_get h.found.keys (position h.found p) ≡ Some (led (step_of_set (int_transitions t) track) (list_at h.sets sign) w)
    here = h.explored.complete p valid

    width : letters u ≡ h.found.width
    width = ap (λ r. r ^ u.tracks) base ∙ ap (λ n. t.base ^ n) tracks ∙ sym h.explored.width

    state : go u.rows (letters u) (slice_index u.roots sign) w ≡ position h.found p
    state = ap (λ n. go u.rows n (slice_index u.roots sign) w) width ∙ ap (λ rows. go rows h.found.width (slice_index u.roots sign) w) h.rows_are ∙ ap (λ roots. go h.found.rows h.found.width (slice_index roots sign) w) h.roots_are

    out : slice_index u.outs (position h.found p) ≡ out_of_set t (led (step_of_set (int_transitions t) track) (list_at h.sets sign) w)
    out = h.outs_are (position h.found p) (slice_get_within h.found.keys (position h.found p) (led (step_of_set (int_transitions t) track) (list_at h.sets sign) w) here)
        ∙ ap (out_of_set t) (get_or_from_slice_get h.found.keys (position h.found p) (led (step_of_set (int_transitions t) track) (list_at h.sets sign) w) [] here)

pub accepts_some : (t : Table) (track limit : ℕ) (u : Table) → IsTable t → track < t.tracks → IsSubsetTable t track limit u → u.base ≡ t.base → u.tracks ≡ kept t → AcceptsSome t track u
accepts_some t track limit u table lt h base tracks sign w small inside = (λ e. forth (sym said ∙ e), λ o. said ∙ back o)
  where
    said : accepts_word u sign w ≡ yes_of_set t (set_after t track h.sets sign w)
    said = answer t track limit u h base tracks sign w small inside

    letters_in : AllByRecursion (λ l. l < t.base ^ kept t) w
    letters_in = recursion_from_All (λ l. l < t.base ^ kept t) w inside

    forth : yes_of_set t (set_after t track h.sets sign w) ≡ true → IsAcceptedOver t track sign w
    forth e =
        let m = member_of_yes t (set_after t track h.sets sign w) e in
        accepted_from_member t track sign m.0 h.sets w table lt h.are_starts small letters_in m.1 m.2

    back : IsAcceptedOver t track sign w → yes_of_set t (set_after t track h.sets sign w) ≡ true
    back o =
        let m = member_from_accepted t track sign h.sets w table lt h.are_starts small letters_in o in
        yes_of_member t (set_after t track h.sets sign w) m.0 m.1 m.2
