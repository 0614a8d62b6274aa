-- The pairs of a loop as a set that is kept.
use Rattle.std.proofs.Common.{◌≡◌, ℕ, zero, suc, ◌+◌, ◌≤◌, ◌^◌, List, length, arith, sym, ap, ◌∙◌, subst, None, nat_lt}
use Rattle.std.specs.Prelude.{Result, Ok, Err, false}
use Rattle.std.proofs.Math.Nat.{pow-le-pow_left}
use Rattle.std.proofs.lemmas.Bool.{ltb-false}
use Rattle.lash_model.specs.Formulas.{Sort, Formula}
use Rattle.formula_core.specs.Counts.{nodes_of, depth_of}
use Rattle.formula_core.specs.FewLetters.{FitsLetters}
use Rattle.term_substitution.specs.Conditions.{IsOver, variables_limit}
use Rattle.term_substitution.specs.Limits.{first_passed, nodes_limit, depth_limit}
use Rattle.term_substitution.specs.declared.errors.FormError.TheVariants as form
use Rattle.matrix_powers.proofs.Trying.{least_is_found}
use Rattle.loop_laws.specs.Turns.{Body}
use Rattle.loop_laws.specs.Closures.{closure_of, count_place}
use Rattle.loop_closure.specs.Closing.{IsClosed, IsUnclosed}
use Rattle.loop_closure.specs.declared.errors.LoopError.{LoopError}
use Rattle.loop_closure.specs.declared.errors.LoopError.TheVariants as unclosed
use Rattle.script_names.specs.Kept.{KeptSet, IsKept}
use Rattle.script_meaning.specs.declared.limits.Which.TheVariants as limit
use Rattle.statement_meaning.specs.Asking.{Set, Loop}
use Rattle.set_compile.specs.Conditions.{IsOver as Over}
use Rattle.statement_answers.specs.Automata.{IsGiven}
use Rattle.statement_answers.specs.declared.settings.Settings.{Settings}
use Rattle.statement_answers.specs.Loops.{closed_at, pairs_of, IsClosurePassed, IsFitLoop, IsPairing, IsUnpaired, unclosed_of}
use Rattle.statement_answers.specs.Pieces.{KeepsSilent}
use Rattle.statement_answers.specs.declared.errors.Unanswered.{Unanswered}
use Rattle.statement_answers.specs.declared.errors.Unanswered.TheVariants.{Heavy, NotWeak, NoPower, Closure, KeptCells, Fault, Memory}
use Rattle.statement_answers.proofs.Conditions.{compiled_over, passed_over}

-- the closure over the least power is the formula of the pairs
pub closed_pairs : (l : Body) (f : Formula) (h : IsClosed false l f) → pairs_of l ≡ closure_of false l h.power
closed_pairs l f h = ap (closed_at l) (least_is_found l.matrix h.power h.least)

-- a closure that passes no limit, and whose letters are few
pub pairing : (base : ℕ) (l : Body) (f : Formula) → IsClosed false l f → first_passed f ≡ None → IsOver (count_place l) f → FitsLetters base f (count_place l)
    → IsPairing base l f
pairing base l f h within over letters =
    let is : f ≡ pairs_of l = h.same ∙ sym (closed_pairs l f h) in
    record {
      has = record {
        power = h.power;
        least = h.least;
        same = closed_pairs l f h;
        within = subst (λ g. first_passed g ≡ None) is within;
        letters = subst (λ g. FitsLetters base g (count_place l)) is letters;
      };
      same = is;
      over = over;
    }

-- one whose letters are many
pub lettered : (base : ℕ) (l : Body) (f : Formula) (h : IsClosed false l f) → first_passed f ≡ None → (FitsLetters base f (count_place l) → ⊥) → IsClosurePassed base l limit.Letters
lettered base l f h within many = record {
  power = h.power;
  least = h.least;
  passes = (subst (λ g. first_passed g ≡ None) h.same within, λ fits. many (subst (λ g. FitsLetters base g (count_place l)) (sym h.same) fits));
}

-- no closure
pub unpaired : (base : ℕ) (l : Body) (e : LoopError) → IsUnclosed false l e → IsUnpaired base l (unclosed_of e)
unpaired base l unclosed.NoPower h = h
unpaired base l unclosed.Nodes h = record { power = h.power; least = h.least; passes = h.first }
unpaired base l unclosed.Depth h = record { power = h.power; least = h.least; passes = h.first }
unpaired base l unclosed.Coefficient h = record { power = h.power; least = h.least; passes = h.first }
unpaired base l unclosed.Constant h = record { power = h.power; least = h.least; passes = h.first }
unpaired base l unclosed.Memory h = tt

-- the pairs are a set inside the limits
pub pairs_given : (base : ℕ) (kept : List KeptSet) (name : List ℕ) (vars : List (List ℕ × Sort)) (l : Body) (f : Formula) → IsFitLoop kept name vars l → IsPairing base l f → IsGiven base vars f
pairs_given base kept name vars l f fit h = record {
  over = subst (λ n. Over n f) (sym fit.count) (compiled_over (count_place l) f h.over);
  letters = subst (λ g. FitsLetters base g (length vars)) (sym h.same) (subst (λ n. FitsLetters base (pairs_of l) n) (sym fit.count) h.has.letters);
}

-- few letters are of few variables
pub few_places : (base n : ℕ) → 2 ≤ base → base ^ n ≤ 4096 → n ≤ variables_limit
few_places base n low h = omega (arith, h, below_power n, pow-le-pow_left low n)
  where
    below_power : (n : ℕ) → n + 1 ≤ 2 ^ n
    below_power zero = omega arith
    below_power (suc n) = omega (arith, below_power n)

-- they are inside the limits
pub pairs_kept : (base : ℕ) (kept : List KeptSet) (name : List ℕ) (vars : List (List ℕ × Sort)) (l : Body) (f : Formula) → 2 ≤ base → IsFitLoop kept name vars l → IsPairing base l f → IsKept (record { name = name; vars = vars; formula = f })
pairs_kept base kept name vars l f low fit h =
    let within : first_passed f ≡ None = subst (λ g. first_passed g ≡ None) (sym h.same) h.has.within in
    let nodes = passed_over (nat_lt nodes_limit (nodes_of f)) form.Nodes _ within in
    let depth = passed_over (nat_lt depth_limit (depth_of f)) form.Depth _ nodes.rest in
    record {
      few = few_places base (length vars) low (subst (λ n. base ^ n ≤ 4096) (sym fit.count) h.has.letters.0);
      over = subst (λ n. IsOver n f) (sym fit.count) h.over;
      nodes = ltb-false nodes_limit (nodes_of f) nodes.test;
      depth = ltb-false depth_limit (depth_of f) depth.test;
    }

-- keeping the set of the pairs is keeping the loop
pub loop_silent : (settings : Settings) (kept : List KeptSet) (name : List ℕ) (vars : List (List ℕ × Sort)) (l : Body) (f : Formula) {U : Type 0} (r : Result U Unanswered) → IsPairing settings.base l f → KeepsSilent settings kept (Set name vars f) r → KeepsSilent settings kept (Loop name vars l) r
loop_silent settings kept name vars l f {U = U} r h silent = by r (subst (λ g. KeepsSilent settings kept (Set name vars g) r) h.same silent)
  where
    by : (r : Result U Unanswered) → KeepsSilent settings kept (Set name vars (pairs_of l)) r → KeepsSilent settings kept (Loop name vars l) r
    by (Ok u) k = (h.has, k)
    by (Err Heavy) k = (h.has, k)
    by (Err (NotWeak sign whole stem accept reject)) k = (h.has, k)
    by (Err NoPower) k = absurd k
    by (Err (Closure which)) k = absurd k
    by (Err KeptCells) k = (h.has, k)
    by (Err Fault) k = k
    by (Err Memory) k = k

-- a loop without pairs is not kept
pub unpaired_silent : (settings : Settings) (kept : List KeptSet) (name : List ℕ) (vars : List (List ℕ × Sort)) (l : Body) (U : Type 0) (e : Unanswered) → IsUnpaired settings.base l e → KeepsSilent settings kept (Loop name vars l) {U = U} (Err e)
unpaired_silent settings kept name vars l U Heavy h = absurd h
unpaired_silent settings kept name vars l U (NotWeak sign whole stem accept reject) h = absurd h
unpaired_silent settings kept name vars l U NoPower h = h
unpaired_silent settings kept name vars l U (Closure which) h = h
unpaired_silent settings kept name vars l U KeptCells h = absurd h
unpaired_silent settings kept name vars l U Fault h = h
unpaired_silent settings kept name vars l U Memory h = tt
