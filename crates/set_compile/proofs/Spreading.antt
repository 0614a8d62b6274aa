-- The set of a formula over its free variables, read by the table of a whole, or by a table on all tracks.
use Rattle.std.proofs.Common.{◌≡◌, ℕ, zero, suc, ◌+◌, ◌<◌, ◌≤◌, List, ◌∷◌, length, get_or, arith, refl, sym, ap, ◌∙◌, subst, Bool, true, false, cond, inl, inr, IsTrue, ◌↔◌}
use Rattle.std.proofs.Math.IntN.{ℤ, pos}
use Rattle.std.specs.Prelude.{◌≤ℤ◌}
use Rattle.std.specs.List.{filter, range_with_len}
use Rattle.std.proofs.lemmas.Bool.{cases_lt}
use Rattle.std.proofs.lemmas.List.{get_or_past}
use Rattle.std.proofs.lemmas.List.FromFn.{get_or-range_with_len}
use Rattle.std.proofs.lemmas.Int.{ints}
use Rattle.integer_laws.proofs.Entries.{length-vector_from, entry-vector}
use Rattle.integer_laws.proofs.Ring.{times_comm, times_zero}
use Rattle.lash_model.specs.Formulas.{Formula, Not, And, Or}
use Rattle.lash_model.specs.Meaning.{total, holds}
use Rattle.lash_model.specs.Tables.{Table}
use Rattle.lash_model.specs.Sets.{set_of}
use Rattle.formula_core.specs.Atoms.{HasLinearAtoms}
use Rattle.formula_core.specs.Counts.{uses, free_places}
use Rattle.product_ops.specs.Tracks.{pick_entries}
use Rattle.product_ops.specs.Operations.{joined}
use Rattle.product_ops.specs.declared.operation.Op.TheVariants.{And as Both, Or as Either}
use Rattle.set_compile.specs.Kinds.{Stands}
use Rattle.set_compile.specs.Positions.{position_of, positions, spread, shared}
use Rattle.set_compile.specs.Steps.{always, all_tracks}
use Rattle.set_compile.proofs.Modes.{stands_same}
use Rattle.set_compile.proofs.Places.{at_position, position_below, mapped_twice, unmapped, free_listed}

-- what a formula says depends on the entries at its used places alone
abbrev pub Depends : Type 0
Depends = (f : Formula) (ns ms : List ℤ) (d : ℕ) → HasLinearAtoms f → length ns ≡ length ms → ((place : ℕ) → IsTrue (uses place f) → get_or ns place (pos 0) ≡ get_or ms place (pos 0)) → holds f ns d ↔ holds f ms d

pub entry_in : (m : ℕ) (vs : List ℕ) (ns : List ℤ) (p : ℕ) → p < m → get_or (spread m vs ns) p (pos 0) ≡ get_or ns (position_of vs p) (pos 0)
entry_in m vs ns p lt = entry-vector (λ q. get_or ns (position_of vs q) (pos 0)) m p lt

pub length-spread : (m : ℕ) (vs : List ℕ) (ns : List ℤ) → length (spread m vs ns) ≡ m
length-spread m vs ns = length-vector_from (λ q. get_or ns (position_of vs q) (pos 0)) 0 m

pub entry_past : (m : ℕ) (vs : List ℕ) (ns : List ℤ) (p : ℕ) → m ≤ p → get_or (spread m vs ns) p (pos 0) ≡ pos 0
entry_past m vs ns p le = get_or_past (spread m vs ns) p (pos 0) (omega (arith, length-spread m vs ns, le))

-- what a part's table reads of the whole's numerators says of the part what the whole's numerators say
pub part_reads : Depends → (h f : Formula) (m : ℕ) (ns : List ℤ) (d : ℕ) → HasLinearAtoms f → holds f (spread m (free_places f m) (pick_entries (positions (free_places h m) (free_places f m)) ns)) d ↔ holds f (spread m (free_places h m) ns) d
part_reads law h f m ns d linear = law f (spread m vs picked) (spread m us ns) d linear (length-spread m vs picked ∙ sym (length-spread m us ns)) each
  where
    vs : List ℕ
    vs = free_places f m

    us : List ℕ
    us = free_places h m

    picked : List ℤ
    picked = pick_entries (positions us vs) ns

    each : (p : ℕ) → IsTrue (uses p f) → get_or (spread m vs picked) p (pos 0) ≡ get_or (spread m us ns) p (pos 0)
    each p used = elim (cases_lt p m) [
      | inl lt ↦ entry_in m vs picked p lt ∙ ap (λ xs. get_or xs (position_of vs p) (pos 0)) (mapped_twice (λ i. get_or ns i (pos 0)) (position_of us) vs) ∙ at_position (λ v. get_or ns (position_of us v) (pos 0)) vs p (pos 0) (free_listed f m p lt used) ∙ sym (entry_in m us ns p lt)
      | inr ge ↦ entry_past m vs picked p ge ∙ sym (entry_past m us ns p ge)
    ]

-- on all tracks, what a table on the free variables' tracks reads says of the formula what all numerators say
pub wide_reads : Depends → (f : Formula) (m : ℕ) (ns : List ℤ) (d : ℕ) → HasLinearAtoms f → length ns ≡ m → holds f (spread m (free_places f m) (pick_entries (free_places f m) ns)) d ↔ holds f ns d
wide_reads law f m ns d linear count = law f (spread m vs picked) ns d linear (length-spread m vs picked ∙ sym count) each
  where
    vs : List ℕ
    vs = free_places f m

    picked : List ℤ
    picked = pick_entries vs ns

    each : (p : ℕ) → IsTrue (uses p f) → get_or (spread m vs picked) p (pos 0) ≡ get_or ns p (pos 0)
    each p used = elim (cases_lt p m) [
      | inl lt ↦ entry_in m vs picked p lt ∙ at_position (λ i. get_or ns i (pos 0)) vs p (pos 0) (free_listed f m p lt used)
      | inr ge ↦ entry_past m vs picked p ge ∙ sym (get_or_past ns p (pos 0) (omega (arith, ge, count)))
    ]

-- ---- where all places are free
pub at_most_all : (test : ℕ → Bool) (a n : ℕ) → length (filter test (range_with_len a n)) ≤ n
at_most_all test a zero = omega arith
at_most_all test a (suc n) = here (test a) (at_most_all test (a + 1) n)
  where
    here : (b : Bool) → length (filter test (range_with_len (a + 1) n)) ≤ n → length (cond b (a ∷ filter test (range_with_len (a + 1) n)) (filter test (range_with_len (a + 1) n))) ≤ suc n
    here true le = omega (arith, le)
    here false le = omega (arith, le)

all_pass : (test : ℕ → Bool) (a n : ℕ) → length (filter test (range_with_len a n)) ≡ n → filter test (range_with_len a n) ≡ range_with_len a n
all_pass test a zero e = refl
all_pass test a (suc n) e = here (test a) e (all_pass test (a + 1) n)
  where
    here : (b : Bool) → length (cond b (a ∷ filter test (range_with_len (a + 1) n)) (filter test (range_with_len (a + 1) n))) ≡ suc n → (length (filter test (range_with_len (a + 1) n)) ≡ n → filter test (range_with_len (a + 1) n) ≡ range_with_len (a + 1) n) → cond b (a ∷ filter test (range_with_len (a + 1) n)) (filter test (range_with_len (a + 1) n)) ≡ a ∷ range_with_len (a + 1) n
    here true h more = ap (λ xs. a ∷ xs) (more (omega (arith, h)))
    here false h more = absurd (omega (arith, h, at_most_all test (a + 1) n))

own_position : (f : Formula) (m p : ℕ) → length (free_places f m) ≡ m → p < m → uses p f ≡ true → position_of (free_places f m) p ≡ p
own_position f m p full lt used =
    let vs : List ℕ = free_places f m in
    let listed = free_listed f m p lt used in
    let below : position_of vs p < m = omega (arith, position_below vs p listed, full) in
    let there : get_or (range_with_len 0 m) (position_of vs p) 0 ≡ p = ap (λ xs. get_or xs (position_of vs p) 0) (sym (all_pass (λ k. uses k f) 0 m full) ∙ sym (unmapped vs)) ∙ at_position (λ v. v) vs p 0 listed in
    omega (arith, there, get_or-range_with_len 0 m (position_of vs p) 0 below)

pub all_reads : Depends → (f : Formula) (m : ℕ) (ns : List ℤ) (d : ℕ) → HasLinearAtoms f → length (free_places f m) ≡ m → length ns ≡ m → holds f (spread m (free_places f m) ns) d ↔ holds f ns d
all_reads law f m ns d linear full count = law f (spread m vs ns) ns d linear (length-spread m vs ns ∙ sym count) each
  where
    vs : List ℕ
    vs = free_places f m

    each : (p : ℕ) → IsTrue (uses p f) → get_or (spread m vs ns) p (pos 0) ≡ get_or ns p (pos 0)
    each p used = elim (cases_lt p m) [
      | inl lt ↦ entry_in m vs ns p lt ∙ ap (λ i. get_or ns i (pos 0)) (own_position f m p full lt used)
      | inr ge ↦ entry_past m vs ns p ge ∙ sym (get_or_past ns p (pos 0) (omega (arith, ge, count)))
    ]

-- ---- tables
pub not_stands : (t : Table) (f : Formula) (m : ℕ) → Stands t (λ ns d. set_of f (spread m (free_places f m)) ns d → ⊥) → Stands t (set_of (Not f) (spread m (free_places (Not f) m)))
unfolding holds
not_stands t f m s = s

pub and_stands : Depends → (t : Table) (f g : Formula) (m : ℕ) → HasLinearAtoms f → HasLinearAtoms g → Stands t (joined Both (set_of f (spread m (free_places f m))) (set_of g (spread m (free_places g m))) (shared (And f g) f g m)) → Stands t (set_of (And f g) (spread m (free_places (And f g) m)))
unfolding holds
and_stands law t f g m lf lg s = stands_same t _ (set_of (And f g) (spread m (free_places (And f g) m))) (λ ns d count.
    let left = part_reads law (And f g) f m ns d lf in
    let right = part_reads law (And f g) g m ns d lg in
    (λ x. (left.0 x.0, right.0 x.1), λ y. (left.1 y.0, right.1 y.1))) s

pub or_stands : Depends → (t : Table) (f g : Formula) (m : ℕ) → HasLinearAtoms f → HasLinearAtoms g → Stands t (joined Either (set_of f (spread m (free_places f m))) (set_of g (spread m (free_places g m))) (shared (Or f g) f g m)) → Stands t (set_of (Or f g) (spread m (free_places (Or f g) m)))
unfolding holds
or_stands law t f g m lf lg s = stands_same t _ (set_of (Or f g) (spread m (free_places (Or f g) m))) (λ ns d count.
    let left = part_reads law (Or f g) f m ns d lf in
    let right = part_reads law (Or f g) g m ns d lg in
    (λ x. elim x [ inl a ↦ inl (left.0 a) | inr b ↦ inr (right.0 b) ], λ y. elim y [ inl a ↦ inl (left.1 a) | inr b ↦ inr (right.1 b) ])) s

pub always_holds : (ns : List ℤ) (d : ℕ) → holds always ns d
unfolding holds total
always_holds ns d = subst (λ z. (pos 0) ≤ℤ z) (sym (times_comm (pos 0) (pos d) ∙ times_zero (pos d))) (omega (arith, ints))

pub wide_stands : Depends → (t : Table) (f : Formula) (m : ℕ) → HasLinearAtoms f → t.tracks ≡ m → Stands t (joined Both (set_of f (spread m (free_places f m))) (set_of always (spread m (free_places always m))) (all_tracks f m)) → Stands t (holds f)
wide_stands law t f m linear tracks s = stands_same t _ (holds f) (λ ns d count.
    let both = wide_reads law f m ns d linear (count ∙ tracks) in
    (λ x. both.0 x.0, λ y. (both.1 y, always_holds _ d))) s

pub full_stands : Depends → (t : Table) (f : Formula) (m : ℕ) → HasLinearAtoms f → t.tracks ≡ m → length (free_places f m) ≡ m → Stands t (set_of f (spread m (free_places f m))) → Stands t (holds f)
full_stands law t f m linear tracks full s = stands_same t (set_of f (spread m (free_places f m))) (holds f) (λ ns d count. all_reads law f m ns d linear full (count ∙ tracks)) s
