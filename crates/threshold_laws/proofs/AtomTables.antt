-- A table that counts thresholds stands for its atom.
use Rattle.std.proofs.Common.{◌≡◌, ℕ, ◌+◌, ◌^◌, ◌<◌, Bool, true, false, ◌&&◌, List, [], ◌∷◌, ◌++◌, length, map, arith, refl, ◌∙◌, sym, ap, subst}
use Rattle.std.proofs.Math.IntN.{ℤ, pos, neg_ℤ, ◌+ℤ◌, ◌-ℤ◌, ◌*ℤ◌}
use Rattle.std.specs.Prelude.{◌≤ℤ◌, ◌<ℤ◌, ◌↔◌, int_lt, int_le, All, IsTrue, nat_eq, slice_index}
use Rattle.std.specs.List.{AllByRecursion}
use Rattle.std.proofs.lemmas.Int.{ints, by_lt_z}
use Rattle.std.proofs.lemmas.List.Elements.{recursion_from_All, All-head, All-tail}
use mathlib.Core.Logic.{inl, inr}
use Rattle.integer_laws.specs.Runs.{run}
use Rattle.integer_laws.proofs.Ring.{times_one}
use Rattle.graph_laws.specs.Walks.{go}
use Rattle.lash_model.specs.Formulas.{Linear, Comparison, AtMost, Equal, Atom}
use Rattle.lash_model.specs.Words.{values}
use Rattle.lash_model.specs.Meaning.{total, holds}
use Rattle.lash_model.specs.Tables.{Table, letters}
use Rattle.lash_model.specs.Acceptance.{accepts_word}
use Rattle.lash_model.specs.Standing.{StandsForWhole}
use Rattle.threshold_laws.specs.Thresholds.{seeds, passes, letter_total, sign_total, lowered_by, lowered, Among, IsThreshold, AreThresholds, one_if, below, representative, StepsByThresholds, CountsThresholds}
use Rattle.threshold_laws.proofs.ValueTotals.{total_of_values}
use Rattle.threshold_laws.proofs.Counting.{below_few, step_counts, below-representative, not_parted}

among_all : (P : ℤ → Type 0) (ts : List ℤ) (x : ℤ) → All P ts → Among x ts → P x
among_all P [] x h a = absurd a
among_all P (t ∷ ts) x h (inl here) = subst P (sym here) (All-head P t ts h)
among_all P (t ∷ ts) x h (inr there) = among_all P ts x (All-tail P t ts h) there

lowered-push : (r : ℕ) (t : ℕ → ℤ) (b : ℤ) (w : List ℕ) (l : ℕ) → lowered r t b (w ++ l ∷ []) ≡ lowered_by r (t l) (lowered r t b w)
lowered-push r t b [] l = refl
lowered-push r t b (x ∷ w) l = lowered-push r t (lowered_by r (t x) b) w l

letters-push : (width : ℕ) (w : List ℕ) (l : ℕ) → AllByRecursion (λ k. k < width) w → l < width → AllByRecursion (λ k. k < width) (w ++ l ∷ [])
letters-push width [] l a h = (h, tt)
letters-push width (x ∷ w) l a h = (a.0, letters-push width w l a.1 h)

-- a threshold lowered by a letter is a threshold
pub threshold_lowered : (r width : ℕ) (t : ℕ → ℤ) (ss : List ℤ) (b : ℤ) (l : ℕ) → l < width → IsThreshold r width t ss b → IsThreshold r width t ss (lowered_by r (t l) b)
threshold_lowered r width t ss b l h i = record {
  seed = i.seed;
  word = i.word ++ l ∷ [];
  given = i.given;
  letters = letters-push width i.word l i.letters h;
  leads = lowered-push r t i.seed i.word l ∙ ap (lowered_by r (t l)) i.leads;
}

pub seed_is_threshold : (r width : ℕ) (t : ℕ → ℤ) (ss : List ℤ) (b : ℤ) → Among b ss → IsThreshold r width t ss b
seed_is_threshold r width t ss b a = record { seed = b; word = []; given = a; letters = tt; leads = refl }

closed : (r width : ℕ) (t : ℕ → ℤ) (ss ts : List ℤ) → AreThresholds r width t ss ts → (l : ℕ) → l < width → (b : ℤ) → Among b ts → Among (lowered_by r (t l) b) ts
closed r width t ss ts e l h b a = e.complete (lowered_by r (t l) b) (threshold_lowered r width t ss b l h (among_all (IsThreshold r width t ss) ts b e.sound a))

pub some_member : (ts : List ℤ) (b : ℤ) → Among b ts → 0 < length ts
some_member [] b a = absurd a
some_member (t ∷ ts) b a = omega arith

bound_given : (kind : Comparison) (b : ℤ) → Among b (seeds kind b)
bound_given AtMost b = inl refl
bound_given Equal b = inl refl

-- the list has the seeds
pub given_threshold : (r width : ℕ) (t : ℕ → ℤ) (ss ts : List ℤ) → AreThresholds r width t ss ts → (b : ℤ) → Among b ss → Among b ts
given_threshold r width t ss ts e b m = e.complete b (seed_is_threshold r width t ss b m)

-- the bound is a threshold, so there is one
pub some_threshold : (kind : Comparison) (bound : ℤ) (r width : ℕ) (t : ℕ → ℤ) (ts : List ℤ) → AreThresholds r width t (seeds kind bound) ts → 0 < length ts
some_threshold kind bound r width t ts e = some_member ts bound (given_threshold r width t (seeds kind bound) ts e bound (bound_given kind bound))

few : (ts : List ℤ) (x : ℤ) → below ts x < length ts + 1
few ts x = omega (arith, below_few ts x)

-- from a state that counts the thresholds below a value, a word leads to the state of the value that it leads to
walk_counts : (a : Linear) (r n : ℕ) (ss ts : List ℤ) (t : Table) → 0 < r → 0 < length ts → StepsByThresholds a r n ts t → AreThresholds r (r ^ n) (letter_total a.terms r n) ss ts → (x : ℤ) (w : List ℕ) → AllByRecursion (λ l. l < r ^ n) w → go t.rows (r ^ n) (below ts x) w ≡ below ts (run r x (map (letter_total a.terms r n) w))
unfolding run
walk_counts a r n ss ts t h some c e x [] letters = refl
walk_counts a r n ss ts t h some c e x (l ∷ w) letters = ap (λ q. go t.rows (r ^ n) q w) (
    c.rows (below ts x) l (few ts x) letters.0
    ∙ step_counts r (letter_total a.terms r n l) ts (representative ts (below ts x)) x h
    (λ b m. closed r (r ^ n) (letter_total a.terms r n) ss ts e l letters.0 b m)
    (below-representative ts (below ts x) e.rising some (few ts x)))
    ∙ walk_counts a r n ss ts t h some c e ((pos r *ℤ x) +ℤ letter_total a.terms r n l) w letters.1

-- the state after a sign vector and a word counts the thresholds below the total of their values
pub steps_count : (a : Linear) (r n : ℕ) (ss ts : List ℤ) (t : Table) → 0 < r → 0 < length ts → StepsByThresholds a r n ts t → AreThresholds r (r ^ n) (letter_total a.terms r n) ss ts → (sign : ℕ) (w : List ℕ) → sign < 2 ^ n → AllByRecursion (λ l. l < r ^ n) w → go t.rows (r ^ n) (slice_index t.roots sign) w ≡ below ts (total a.terms (values r n sign w))
steps_count a r n ss ts t h some c e sign w s letters =
    ap (λ q. go t.rows (r ^ n) q w) (c.roots sign s)
    ∙ walk_counts a r n ss ts t h some c e (neg_ℤ (sign_total a.terms n sign)) w letters
    ∙ ap (below ts) (sym (total_of_values a.terms r n sign w))

le_true : (a b : ℤ) → a ≤ℤ b → int_le a b ≡ true
le_true a b h = grind (arith, ints)

le_from_true : (a b : ℤ) → int_le a b ≡ true → a ≤ℤ b
le_from_true a b h = grind (arith, ints)

le_false : (a b : ℤ) → b <ℤ a → int_le a b ≡ false
le_false a b h = grind (arith, ints)

-- two values with the same thresholds below them compare alike to the bound
pass_alike : (ts : List ℤ) (b x y : ℤ) → below ts x ≡ below ts y → Among b ts → x ≤ℤ b → y ≤ℤ b
pass_alike ts b x y e m h = by_lt_z b y (λ over. absurd (omega (arith, ints, h, not_parted ts x y b e m over))) (λ under. under)

same_test : (ts : List ℤ) (b x y : ℤ) → below ts x ≡ below ts y → Among b ts → int_le x b ≡ int_le y b
same_test ts b x y e m = by_lt_z b x
    (λ over. le_false x b over ∙ sym (le_false y b (not_parted ts y x b (sym e) m over)))
    (λ under. le_true x b under ∙ sym (le_true y b (pass_alike ts b x y e m under)))

test_from_below : (b x : ℤ) → int_le b x ≡ int_lt (b -ℤ pos 1) x
test_from_below b x = grind (arith, ints)

same_below : (ts : List ℤ) (b x y : ℤ) → below ts x ≡ below ts y → Among b ts → int_lt b x ≡ int_lt b y
same_below ts b x y e m = by_lt_z b x
    (λ over. lt_true b x over ∙ sym (lt_true b y (not_parted ts y x b (sym e) m over)))
    (λ under. lt_false b x under ∙ sym (lt_false b y (pass_alike ts b x y e m under)))
  where
    lt_true : (a b : ℤ) → a <ℤ b → int_lt a b ≡ true
    lt_true a b h = grind (arith, ints)

    lt_false : (a b : ℤ) → b ≤ℤ a → int_lt a b ≡ false
    lt_false a b h = grind (arith, ints)

same_passing : (kind : Comparison) (ts : List ℤ) (b x y : ℤ) → ((s : ℤ) → Among s (seeds kind b) → Among s ts) → below ts x ≡ below ts y → passes kind x b ≡ passes kind y b
same_passing AtMost ts b x y given e = same_test ts b x y e (given b (inl refl))
same_passing Equal ts b x y given e = ap (λ k. k && int_le b x) (same_test ts b x y e (given b (inl refl))) ∙ ap (λ k. int_le y b && k) (test_from_below b x ∙ same_below ts (b -ℤ pos 1) x y e (given (b -ℤ pos 1) (inr (inl refl))) ∙ sym (test_from_below b y))

one_test : (p : Bool) → nat_eq (one_if p) 1 ≡ p
one_test true = refl
one_test false = refl

both_true : (p q : Bool) → p && q ≡ true → (p ≡ true) × (q ≡ true)
both_true true true h = (refl, refl)
both_true true false h = (refl, h)
both_true false q h = (h, absurd (no_way h))
  where
    no_way : false ≡ true → ⊥
    no_way h = cc

-- the comparison is the atom's meaning over the denominator 1
passing_means : (kind : Comparison) (a : Linear) (ns : List ℤ) → IsTrue (passes kind (total a.terms ns) a.constant) ↔ holds (Atom kind a) ns 1
unfolding holds
passing_means AtMost a ns = (λ h. rw (times_one a.constant) (le_from_true (total a.terms ns) a.constant h), λ h. le_true (total a.terms ns) a.constant (rw (times_one a.constant) at h))
passing_means Equal a ns = (λ h. both_ways (both_true (int_le (total a.terms ns) a.constant) (int_le a.constant (total a.terms ns)) h) ∙ sym (times_one a.constant), λ h. passed (h ∙ times_one a.constant))
  where
    both_ways : (int_le (total a.terms ns) a.constant ≡ true) × (int_le a.constant (total a.terms ns) ≡ true) → total a.terms ns ≡ a.constant
    both_ways h = omega (arith, ints, le_from_true (total a.terms ns) a.constant h.0, le_from_true a.constant (total a.terms ns) h.1)

    passed : total a.terms ns ≡ a.constant → int_le (total a.terms ns) a.constant && int_le a.constant (total a.terms ns) ≡ true
    passed e = ap (λ k. k && int_le a.constant (total a.terms ns)) (le_true (total a.terms ns) a.constant (omega (arith, ints, e))) ∙ le_true a.constant (total a.terms ns) (omega (arith, ints, e))

iff_same : (p q : Bool) (P : Type 0) → p ≡ q → IsTrue q ↔ P → IsTrue p ↔ P
iff_same p q P e h = (λ x. h.0 (subst IsTrue e x), λ y. subst IsTrue (sym e) (h.1 y))

accepts_by : (kind : Comparison) (a : Linear) (r n : ℕ) (ts : List ℤ) (t : Table) → 0 < r → CountsThresholds kind a r n ts t → AreThresholds r (r ^ n) (letter_total a.terms r n) (seeds kind a.constant) ts → (sign : ℕ) (w : List ℕ) → sign < 2 ^ n → AllByRecursion (λ l. l < r ^ n) w → nat_eq (slice_index t.outs (go t.rows (r ^ n) (slice_index t.roots sign) w)) 1 ≡ passes kind (total a.terms (values r n sign w)) a.constant
accepts_by kind a r n ts t h c e sign w s letters =
    let x : ℤ = total a.terms (values r n sign w) in
    let some : 0 < length ts = some_threshold kind a.constant r (r ^ n) (letter_total a.terms r n) ts e in
    ap (λ q. nat_eq (slice_index t.outs q) 1) (steps_count a r n (seeds kind a.constant) ts t h some c.steps e sign w s letters)
    ∙ ap (λ k. nat_eq k 1) (c.outs (below ts x) (few ts x))
    ∙ one_test (passes kind (representative ts (below ts x)) a.constant)
    ∙ same_passing kind ts a.constant (representative ts (below ts x)) x (given_threshold r (r ^ n) (letter_total a.terms r n) (seeds kind a.constant) ts e) (below-representative ts (below ts x) e.rising some (few ts x))

-- a table that counts the thresholds of an atom stands for it
pub counting_stands : (kind : Comparison) (a : Linear) (r n : ℕ) (ts : List ℤ) (t : Table) → 0 < r → CountsThresholds kind a r n ts t → AreThresholds r (r ^ n) (letter_total a.terms r n) (seeds kind a.constant) ts → StandsForWhole t (holds (Atom kind a))
counting_stands kind a r n ts t h c e = record {
  diagram = c.diagram;
  each = λ sign w s ls. each sign w (subst (λ k. sign < 2 ^ k) c.steps.tracks s) (recursion_from_All (λ l. l < r ^ n) w (subst (λ k. All (λ l. l < k) w) (ap (λ b. b ^ t.tracks) c.steps.base ∙ ap (λ k. r ^ k) c.steps.tracks) ls));
}
  where
    shape : t.base ^ t.tracks ≡ r ^ n
    shape = ap (λ b. b ^ t.tracks) c.steps.base ∙ ap (λ k. r ^ k) c.steps.tracks

    each : (sign : ℕ) (w : List ℕ) → sign < 2 ^ n → AllByRecursion (λ l. l < r ^ n) w → IsTrue (accepts_word t sign w) ↔ holds (Atom kind a) (values t.base t.tracks sign w) 1
    each sign w s ls = iff_same (accepts_word t sign w) (passes kind (total a.terms (values t.base t.tracks sign w)) a.constant) (holds (Atom kind a) (values t.base t.tracks sign w) 1)
        (ap (λ k. nat_eq (slice_index t.outs (go t.rows k (slice_index t.roots sign) w)) 1) shape ∙ accepts_by kind a r n ts t h c e sign w s ls ∙ ap (λ v. passes kind (total a.terms v) a.constant) (sym (ap (λ b. values b t.tracks sign w) c.steps.base ∙ ap (λ k. values r k sign w) c.steps.tracks)))
        (passing_means kind a (values t.base t.tracks sign w))
