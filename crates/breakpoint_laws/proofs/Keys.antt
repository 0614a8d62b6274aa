-- Keys of the breakpoint machine: where they go, member by member, and what every reached key keeps.
use Rattle.std.proofs.Common.{◌≡◌, ℕ, zero, suc, ◌^◌, ◌<◌, ◌-◌, Bool, true, false, List, [], ◌∷◌, ◌++◌, length, take, drop, arith, refl}
use Rattle.std.proofs.Common.{◌∙◌, sym, ap, subst, inl, inr}
use Rattle.std.specs.Prelude.{slice_index, All, Contains, nat_eq, ◌⊎◌}
use Rattle.std.specs.List.{AllByRecursion, list_any, filter}
use Rattle.std.proofs.lemmas.Bool.{eqb-true, eq-eqb}
use Rattle.std.proofs.lemmas.List.Elements.{All-contains, All-weaker, All-filter, filter_passes, All-contains_itself}
use Rattle.graph_laws.specs.Exploring.{led}
use Rattle.lash_model.specs.Tables.{Table, fracs, IsTable}
use Rattle.subset_build.specs.Projection.{kept, Transitions, target, step_of_set}
use Rattle.subset_build.specs.Subsets.{AreTransitions}
use Rattle.subset_build.proofs.Targets.{IsTargetOf, target_below, step_set}
use Rattle.subset_build.proofs.RisingSets.{filter_range}
use Rattle.breakpoint_laws.specs.Breakpoints.{frac_transitions, key_of, states_of, owing_of, yes_states, refilled, frac_step, step_of_key, entries_of_set}
use Rattle.breakpoint_laws.specs.Breakpoints.{entry_key}

-- ---- the fraction part goes to its own states
pub frac_moves : (t : Table) → IsTable t → AreTransitions (frac_transitions t)
frac_moves t h = record {
  base_low = h.shape.base_low;
  few_letters = h.shape.few_letters;
  rows_count = h.frac_rows_count;
  rows_in = h.frac_rows_in;
}

-- ---- members of filtered lists
head_member : (x : ℕ) (xs : List ℕ) → Contains (x ∷ xs) x
head_member x xs = (0, omega arith, refl)

tail_member : (a x : ℕ) (xs : List ℕ) → Contains xs x → Contains (a ∷ xs) x
tail_member a x xs c = (suc c.0, omega (arith, c.1), c.2)

member_cases : (a x : ℕ) (xs : List ℕ) → Contains (a ∷ xs) x → (a ≡ x) ⊎ Contains xs x
member_cases a x xs (zero, inside, e) = inl e
member_cases a x xs (suc k, inside, e) = inr (k, omega (arith, inside), e)

pub filter_into : (p : ℕ → Bool) (xs : List ℕ) (x : ℕ) → Contains xs x → p x ≡ true → Contains (filter p xs) x
filter_into p [] x c e = absurd (omega (arith, c.1))
filter_into p (a ∷ xs) x c e = by (p a) refl (member_cases a x xs c) (λ m. filter_into p xs x m e)
  where
    by : (b : Bool) → p a ≡ b → (a ≡ x) ⊎ Contains xs x → (Contains xs x → Contains (filter p xs) x) → Contains (filter p (a ∷ xs)) x
    by true f (inl i) rec = rw f (subst (λ y. Contains (y ∷ filter p xs) x) (sym i) (head_member x (filter p xs)))
    by true f (inr m) rec = rw f (tail_member a x (filter p xs) (rec m))
    by false f (inl i) rec = absurd (clash (sym f ∙ ap p i ∙ e))
      where
        clash : false ≡ true → ⊥
        clash g = cc
    by false f (inr m) rec = rw f (rec m)

pub filter_from : (p : ℕ → Bool) (xs : List ℕ) (x : ℕ) → Contains (filter p xs) x → (Contains xs x) × (p x ≡ true)
filter_from p xs x c = (
  All-contains (Contains xs) (filter p xs) x (All-filter p (Contains xs) xs (All-contains_itself xs)) c,
  All-contains
      (λ y. p y ≡ true) (filter p xs) x (filter_passes p xs) c,
)

-- ---- the parts of a key
take_front : (xs ys : List ℕ) → take (length xs) (xs ++ ys) ≡ xs
take_front [] ys = refl
take_front (x ∷ xs) ys = ap (λ zs. x ∷ zs) (take_front xs ys)

drop_front : (xs ys : List ℕ) → drop (length xs) (xs ++ ys) ≡ ys
drop_front [] ys = refl
drop_front (x ∷ xs) ys = drop_front xs ys

pub states-key_of : (xs ys : List ℕ) → states_of (key_of xs ys) ≡ xs
states-key_of xs ys = take_front xs ys

pub owing-key_of : (xs ys : List ℕ) → owing_of (key_of xs ys) ≡ ys
owing-key_of xs ys = drop_front xs ys

-- ---- where a set goes
pub step_members_below : (m : Transitions) (track letter : ℕ) (set : List ℕ) → AreTransitions m → track < m.tracks → letter < m.base ^ (m.tracks - 1)
    → All (λ q. q < m.states) set → All (λ q. q < m.states) (step_of_set m track set letter)
step_members_below m track l set h lt small below =
    All-weaker (IsTargetOf m track l set) (λ q. q < m.states)
    (λ q r. subst (λ x. x < m.states) r.leads
    (target_below m track l r.source r.digit h lt small (All-contains (λ q. q < m.states) set r.source below r.member) r.digit_below))
    (step_of_set m track set l) (step_set m track l set h lt small below).sound

pub step_into : (m : Transitions) (track letter : ℕ) (set : List ℕ) (q d : ℕ) → AreTransitions m → track < m.tracks → letter < m.base ^ (m.tracks - 1)
    → All (λ q. q < m.states) set → Contains set q → d < m.base → Contains (step_of_set m track set letter) (target m track letter q d)
step_into m track l set q d h lt small below c e = (step_set m track l set h lt small below).complete (target m track l q d)
    (record { source = q; digit = d; member = c; digit_below = e; leads = refl })

pub step_from : (m : Transitions) (track letter : ℕ) (set : List ℕ) (q : ℕ) → AreTransitions m → track < m.tracks → letter < m.base ^ (m.tracks - 1)
    → All (λ q. q < m.states) set → Contains (step_of_set m track set letter) q → IsTargetOf m track letter set q
step_from m track l set q h lt small below c =
    All-contains (IsTargetOf m track l set) (step_of_set m track set l) q (step_set m track l set h lt small below).sound c

-- ---- what every reached key keeps
pub record IsFine (t : Table) (key : List ℕ) : Type 0 where
  pub states_below : All (λ q. q < fracs t) (states_of key)
  pub owing_in : (q : ℕ) → Contains (owing_of key) q → Contains (states_of key) q
  pub owing_yes : (q : ℕ) → Contains (owing_of key) q → slice_index t.colours q ≡ 1

pub owing_below : (t : Table) (key : List ℕ) → IsFine t key → All (λ q. q < fracs t) (owing_of key)
owing_below t key f = All-weaker (Contains (owing_of key)) (λ q. q < fracs t)
    (λ q c. All-contains (λ q. q < fracs t) (states_of key) q f.states_below (f.owing_in q c)) (owing_of key) (All-contains_itself (owing_of key))

no_member : (q : ℕ) → Contains [] q → ⊥
no_member q c = omega (arith, c.1)

pub fine_entry : (t : Table) (set : List ℕ) → IsFine t (entry_key t set)
fine_entry t set = record {
  states_below = subst (All (λ q. q < fracs t)) (sym (states-key_of (entries_of_set t set) []))
      (All-weaker (λ q. (q < fracs t) × (list_any (λ p. nat_eq (slice_index t.outs p) q) set ≡ true)) (λ q. q < fracs t) (λ q r. r.0) (entries_of_set t set)
      (filter_range (λ q. list_any (λ p. nat_eq (slice_index t.outs p) q) set) (fracs t)).sound);
  owing_in = λ q c. absurd (no_member q (subst (λ xs. Contains xs q) (owing-key_of (entries_of_set t set) []) c));
  owing_yes = λ q c. absurd (no_member q (subst (λ xs. Contains xs q) (owing-key_of (entries_of_set t set) []) c));
}

refilled_below : (t : Table) (key : List ℕ) → IsFine t key → All (λ q. q < fracs t) (refilled (owing_of key) (states_of key))
refilled_below t key f = by (owing_of key) (owing_below t key f)
  where
    by : (os : List ℕ) → All (λ q. q < fracs t) os → All (λ q. q < fracs t) (refilled os (states_of key))
    by [] a = f.states_below
    by (o ∷ os) a = a

refilled_in : (t : Table) (key : List ℕ) → IsFine t key → (q : ℕ) → Contains (refilled (owing_of key) (states_of key)) q → Contains (states_of key) q
refilled_in t key f = by (owing_of key) f.owing_in
  where
    by : (os : List ℕ) → ((q : ℕ) → Contains os q → Contains (states_of key) q) → (q : ℕ) → Contains (refilled os (states_of key)) q
        → Contains (states_of key) q
    by [] g q c = c
    by (o ∷ os) g q c = g q c

-- the new owing states come from those that owed, or from all if none did
pub owed_from : (t : Table) (track letter : ℕ) (key : List ℕ) (q : ℕ) → IsTable t → track < t.tracks → letter < t.base ^ kept t → IsFine t key
    → Contains (owing_of (step_of_key t track key letter)) q → (IsTargetOf (frac_transitions t) track letter (refilled (owing_of key) (states_of key)) q)
    × (slice_index t.colours q ≡ 1)
owed_from t track l key q h lt small f c = (
  step_from (frac_transitions t) track l (refilled (owing_of key) (states_of key)) q (frac_moves t h) lt small
      (refilled_below t key f) parts.0,
  eqb-true (slice_index t.colours q) 1 parts.1,
)
  where
    parts : (Contains (frac_step t track (refilled (owing_of key) (states_of key)) l) q) × (nat_eq (slice_index t.colours q) 1 ≡ true)
    parts = filter_from (λ q. nat_eq (slice_index t.colours q) 1) (frac_step t track (refilled (owing_of key) (states_of key)) l) q
        (subst (λ xs. Contains xs q) (owing-key_of (frac_step t track (states_of key) l)
        (yes_states t (frac_step t track (refilled (owing_of key) (states_of key)) l))) c)

pub owed_into : (t : Table) (track letter : ℕ) (key : List ℕ) (q d : ℕ) → IsTable t → track < t.tracks → letter < t.base ^ kept t
    → IsFine t key → Contains (refilled (owing_of key) (states_of key)) q → d < t.base
    → slice_index t.colours (target (frac_transitions t) track letter q d) ≡ 1
    → Contains (owing_of (step_of_key t track key letter)) (target (frac_transitions t) track letter q d)
owed_into t track l key q d h lt small f c e y =
    subst (λ xs. Contains xs (target (frac_transitions t) track l q d))
    (sym (owing-key_of (frac_step t track (states_of key) l) (yes_states t (frac_step t track (refilled (owing_of key) (states_of key)) l))))
    (filter_into (λ q. nat_eq (slice_index t.colours q) 1) (frac_step t track (refilled (owing_of key) (states_of key)) l)
    (target (frac_transitions t) track l q d)
    (step_into (frac_transitions t) track l (refilled (owing_of key) (states_of key)) q d (frac_moves t h) lt small (refilled_below t key f) c e)
    (eq-eqb (slice_index t.colours (target (frac_transitions t) track l q d)) 1 y))

pub states_from : (t : Table) (track letter : ℕ) (key : List ℕ) (q : ℕ) → IsTable t → track < t.tracks → letter < t.base ^ kept t
    → IsFine t key → Contains (states_of (step_of_key t track key letter)) q → IsTargetOf (frac_transitions t) track letter (states_of key) q
states_from t track l key q h lt small f c = step_from (frac_transitions t) track l (states_of key) q (frac_moves t h) lt small f.states_below
    (subst (λ xs. Contains xs q) (states-key_of (frac_step t track (states_of key) l)
    (yes_states t (frac_step t track (refilled (owing_of key) (states_of key)) l))) c)

pub states_into : (t : Table) (track letter : ℕ) (key : List ℕ) (q d : ℕ) → IsTable t → track < t.tracks → letter < t.base ^ kept t
    → IsFine t key → Contains (states_of key) q → d < t.base
    → Contains (states_of (step_of_key t track key letter)) (target (frac_transitions t) track letter q d)
states_into t track l key q d h lt small f c e =
    subst (λ xs. Contains xs (target (frac_transitions t) track l q d))
    (sym (states-key_of (frac_step t track (states_of key) l) (yes_states t (frac_step t track (refilled (owing_of key) (states_of key)) l))))
    (step_into (frac_transitions t) track l (states_of key) q d (frac_moves t h) lt small f.states_below c e)

fine_step : (t : Table) (track letter : ℕ) (key : List ℕ) → IsTable t → track < t.tracks → letter < t.base ^ kept t → IsFine t key
    → IsFine t (step_of_key t track key letter)
fine_step t track l key h lt small f = record {
  states_below = subst (All (λ q. q < fracs t))
      (sym (states-key_of (frac_step t track (states_of key) l) (yes_states t (frac_step t track (refilled (owing_of key) (states_of key)) l))))
      (step_members_below (frac_transitions t) track l (states_of key) (frac_moves t h) lt small f.states_below);
  owing_in = λ q c. moved q (owed_from t track l key q h lt small f c).0;
  owing_yes = λ q c. (owed_from t track l key q h lt small f c).1;
}
  where
    moved : (q : ℕ) → IsTargetOf (frac_transitions t) track l (refilled (owing_of key) (states_of key)) q → Contains (states_of (step_of_key t track key l)) q
    moved q r = subst (Contains (states_of (step_of_key t track key l))) r.leads
        (states_into t track l key r.source r.digit h lt small f (refilled_in t key f r.source r.member) r.digit_below)

pub fine_led : (t : Table) (track : ℕ) (key w : List ℕ) → IsTable t → track < t.tracks → AllByRecursion (λ l. l < t.base ^ kept t) w
    → IsFine t key → IsFine t (led (step_of_key t track) key w)
fine_led t track key [] h lt a f = f
fine_led t track key (l ∷ w) h lt a f = fine_led t track (step_of_key t track key l) w h lt a.1 (fine_step t track l key h lt a.0 f)
