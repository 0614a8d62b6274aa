-- A statement that was read is one that is answered: its names and numbers are right.
use Rattle.std.proofs.Common.{◌≡◌, ℕ, zero, suc, ◌≤◌, ◌<◌, ◌^◌, List, [], ◌∷◌, length, map, arith, refl, sym, ap₂, ◌∙◌, subst, Bool, true, false, ◌||◌, ◌&&◌, cond, not, pos, nat_eq, nat_lt, Option, None, Some}
use Rattle.std.specs.List.{All, slice_get}
use Rattle.std.specs.Option.{option_map}
use Rattle.std.proofs.lemmas.Bool.{ltb-false, ltb-true, eqb-true, true≢false}
use Rattle.std.proofs.lemmas.Int.{ints}
use Rattle.std.proofs.lemmas.List.{length-map}
use Rattle.parser_laws.proofs.Parts.{same_some, not_none}
use Rattle.std.proofs.lemmas.List.Quantifiers.{position-Some}
use Rattle.std.specs.Prelude.{unsigned_abs}
use Rattle.lash_model.specs.Formulas.{Sort, Int, Real, AtMost, Atom}
use Rattle.formula_core.specs.Variables.{sorts_of}
use Rattle.fraction_codes.specs.Fractions.{IsSmall}
use Rattle.script_syntax.specs.Trees.{Named}
use Rattle.script_statements.specs.Values.{RationalShape}
use Rattle.script_statements.specs.Statements.{ComprehensionShape, StatementShape, Show, Set, Print, Solve, Test, Equal, Subset, Check, Loop}
use Rattle.script_names.specs.Kept.{KeptSet, IsKept, kept_place, kept_set, set_at, sets_limit}
use Rattle.script_names.specs.Faults.{or_else, fault_at, unknown, repeated, set_fault}
use Rattle.script_names.specs.declared.names.FaultAt.{FaultAt}
use Rattle.script_names.specs.declared.names.NameFault.TheVariants.{Misused}
use Rattle.script_meaning.specs.Core.{signed}
use Rattle.script_meaning.specs.Limits.{literal_limit}
use Rattle.script_meaning.specs.Resolving.{IsWithin}
use Rattle.script_tokens.specs.Lexing.{tokens_of}
use Rattle.script_pieces.specs.Taking.{Progress}
use Rattle.script_parse.specs.Answers.{Spells, IsNext}
use Rattle.script_parse.proofs.Quotients.{spelled_quotients}
use Rattle.statement_meaning.specs.Asking as ask
use Rattle.statement_meaning.specs.Asking.{Asked, asked, asked_of, of_both}
use Rattle.loop_meaning.specs.Looping.{loop_fault}
use Rattle.statement_meaning.specs.Values.{ratio_of, values_pass, IsQuotient}
use Rattle.statement_meaning.specs.Judging.{IsJudged, IsStatementWithin, statement_fault, tested_fault, other_fault, compared_fault, is_full, same_sort, same_sorts}
use Rattle.statement_meaning.specs.declared.statement.Statement.{Statement}
use Rattle.statement_answers.specs.Automata.{IsGiven}
use Rattle.statement_answers.specs.declared.settings.Settings.{Settings}
use Rattle.statement_answers.specs.Keeping.{OfTwo}
use Rattle.statement_answers.specs.Pieces.{IsFit}
use Rattle.statement_answers.proofs.Conditions.{substituted_over}
use Rattle.statement_answers.proofs.Pairing.{few_places}
use Rattle.statement_answers.proofs.Shelving.{here}
use Rattle.lash_command.proofs.GivenSets.{left_false, right_false, IsFine, AreFine, given_set, within_none}
use Rattle.lash_command.proofs.LoopBodies.{loop_fits}

-- the kept sets are inside all limits
abbrev pub AreGiven : ℕ → List KeptSet → Type 0
AreGiven base kept = All (λ k. IsGiven base k.vars k.formula) kept

-- what stands at a place
all_at : {A : Type 0} (P : A → Type 0) (xs : List A) (i : ℕ) (x : A) → All P xs → slice_get xs i ≡ Some x → P x
all_at P [] i x h e = absurd (not_none x e)
all_at P (y ∷ ys) zero x h e = subst P (same_some y x e) (h 0 y (omega arith))
all_at P (y ∷ ys) (suc i) x h e = all_at P ys i x (λ k d lt. h (suc k) d (omega (arith, lt))) e

pub fine_of : (base : ℕ) (kept : List KeptSet) → AreGiven base kept → AreFine kept
fine_of base kept h name k e = by (kept_place kept name) e
  where
    by : (o : Option ℕ) → set_at kept o ≡ Some k → IsFine k
    by None e = absurd (not_none k e)
    by (Some at) e = (all_at (λ k. IsGiven base k.vars k.formula) kept at k h e).over

place_below : (kept : List KeptSet) (name : List ℕ) (at : ℕ) → kept_place kept name ≡ Some at → at < length kept
place_below kept name at e = (position-Some _ kept at nothing e).0
  where
    nothing : KeptSet
    nothing = record { name = []; vars = []; formula = Atom AtMost (record { terms = []; constant = pos 0 }) }

new_name : (name : Named) (p : Option ℕ) (y : Option FaultAt) → or_else (repeated name p) y ≡ None → p ≡ None
new_name name None y e = refl
new_name name (Some at) y e = absurd (not_none _ (sym e))

has_room : (kept : List KeptSet) → is_full kept ≡ false → length kept < sets_limit
has_room kept e = by (nat_lt (length kept) sets_limit) refl e
  where
    by : (b : Bool) → nat_lt (length kept) sets_limit ≡ b → not b ≡ false → length kept < sets_limit
    by true q e = ltb-true (length kept) sets_limit q
    by false q e = absurd (true≢false e)

kept_inside : (base : ℕ) (kept : List KeptSet) (name : List ℕ) (set : ComprehensionShape) (full : Bool) → 2 ≤ base → IsGiven base (ask.vars_of set) (ask.core_of kept set) → IsWithin full base (length set.vars) set.formula (ask.core_of kept set) → IsKept (record { name = name; vars = ask.vars_of set; formula = ask.core_of kept set })
kept_inside base kept name set full low given within =
    let limits = within_none full base (length set.vars) set.formula (ask.core_of kept set) within in
    record {
      few = few_places base (length (ask.vars_of set)) low given.letters.0;
      over = substituted_over (length (ask.vars_of set)) (ask.core_of kept set) given.over;
      nodes = limits.nodes;
      depth = limits.depth;
    }

-- the values of a test are small
signed_small : (minus : Bool) (n : ℕ) → n ≤ 2 ^ 64 → unsigned_abs (signed minus n) ≤ 2 ^ 100
signed_small true zero h = omega arith
signed_small true (suc n) h = omega (arith, h)
signed_small false n h = omega (arith, h)

values_small : (vs : List RationalShape) → values_pass vs ≡ false → All IsQuotient vs → All IsSmall (map ratio_of vs)
values_small [] e h k d lt = absurd (omega (arith, lt))
values_small (v ∷ vs) e h zero d lt =
    let both = left_false (nat_lt literal_limit v.numerator || nat_lt literal_limit v.denominator) (values_pass vs) e in
    record {
      positive = let below = (h 0 v (omega arith)).positive in omega (arith, ints, below);
      den = omega (arith, ltb-false literal_limit v.denominator (right_false (nat_lt literal_limit v.numerator) (nat_lt literal_limit v.denominator) both));
      num = signed_small v.minus v.numerator (ltb-false literal_limit v.numerator (left_false (nat_lt literal_limit v.numerator) (nat_lt literal_limit v.denominator) both));
    }
values_small (v ∷ vs) e h (suc k) d lt = values_small vs (right_false (nat_lt literal_limit v.numerator || nat_lt literal_limit v.denominator) (values_pass vs) e) (λ i x below. h (suc i) x (omega (arith, below))) k d (omega (arith, lt))

same_count : (name : Named) (n m : ℕ) → cond (nat_eq n m) None (fault_at Misused name) ≡ None → n ≡ m
same_count name n m e = by (nat_eq n m) refl e
  where
    by : (b : Bool) → nat_eq n m ≡ b → cond b None (fault_at Misused name) ≡ None → n ≡ m
    by true q e = eqb-true n m q
    by false q e = absurd (not_none _ (sym e))

sort_alike : (s t : Sort) → same_sort s t ≡ true → s ≡ t
sort_alike Int Int e = refl
sort_alike Int Real e = absurd (true≢false (sym e))
sort_alike Real Int e = absurd (true≢false (sym e))
sort_alike Real Real e = refl

sorts_alike : (ss ts : List Sort) → same_sorts ss ts ≡ true → ss ≡ ts
sorts_alike [] [] e = refl
sorts_alike [] (t ∷ ts) e = absurd (true≢false (sym e))
sorts_alike (s ∷ ss) [] e = absurd (true≢false (sym e))
sorts_alike (s ∷ ss) (t ∷ ts) e = by (same_sort s t) refl e (sorts_alike ss ts)
  where
    by : (b : Bool) → same_sort s t ≡ b → (b && same_sorts ss ts) ≡ true → (same_sorts ss ts ≡ true → ss ≡ ts) → s ∷ ss ≡ t ∷ ts
    by true q e rest = ap₂ (λ x xs. x ∷ xs) (sort_alike s t q) (rest e)
    by false q e rest = absurd (true≢false (sym e))

same_variables : (name : Named) (j k : KeptSet) → other_fault name (Some j) (Some k) ≡ None → sorts_of j.vars ≡ sorts_of k.vars
same_variables name j k e = by (same_sorts (sorts_of j.vars) (sorts_of k.vars)) refl e
  where
    by : (b : Bool) → same_sorts (sorts_of j.vars) (sorts_of k.vars) ≡ b → cond b None (fault_at Misused name) ≡ None → sorts_of j.vars ≡ sorts_of k.vars
    by true q e = sorts_alike (sorts_of j.vars) (sorts_of k.vars) q
    by false q e = absurd (not_none _ (sym e))

-- two sets that are compared
both_fit : (settings : Settings) (kept : List KeptSet) (f : ℕ → ℕ → Asked) (a b : Named) (x : Asked)
    → ((i j : ℕ) → OfTwo kept i j (λ k l. sorts_of k.vars ≡ sorts_of l.vars) → IsFit settings kept (f i j)) → compared_fault kept a b ≡ None
    → of_both f (kept_place kept a.left) (kept_place kept b.left) ≡ Some x → IsFit settings kept x
both_fit settings kept f a b x fit names e = by (kept_place kept a.left) (kept_place kept b.left) refl refl names e
  where
    by : (o p : Option ℕ) → kept_place kept a.left ≡ o → kept_place kept b.left ≡ p → or_else (unknown a o) (other_fault b (set_at kept o) (set_at kept p)) ≡ None → of_both f o p ≡ Some x → IsFit settings kept x
    by None p q r names e = absurd (not_none x e)
    by (Some i) None q r names e = absurd (not_none x e)
    by (Some i) (Some j) q r names e =
        let left = here kept i (place_below kept a.left i q) in
        let right = here kept j (place_below kept b.left j r) in
        let same = same_variables b left.set right.set (subst (λ o. other_fault b o (Some right.set) ≡ None) left.got
        (subst (λ o. other_fault b (slice_get kept i) o ≡ None) right.got names)) in
        subst (IsFit settings kept) (same_some (f i j) x e) (fit i j (left.set, (left.got, (right.set, (right.got, same)))))

one_fits : (settings : Settings) (kept : List KeptSet) (f : ℕ → Asked) (name : Named) (x : Asked) → ((i : ℕ) → i < length kept → IsFit settings kept (f i)) → option_map f (kept_place kept name.left) ≡ Some x → IsFit settings kept x
one_fits settings kept f name x fit e = by (kept_place kept name.left) refl e
  where
    by : (o : Option ℕ) → kept_place kept name.left ≡ o → option_map f o ≡ Some x → IsFit settings kept x
    by None q e = absurd (not_none x e)
    by (Some i) q e = subst (IsFit settings kept) (same_some (f i) x e) (fit i (place_below kept name.left i q))

test_fits : (settings : Settings) (kept : List KeptSet) (name : Named) (vs : List RationalShape) (x : Asked) → All IsQuotient vs → tested_fault name (kept_set kept name.left) (length vs) ≡ None → IsStatementWithin settings.base kept (Test name vs) → option_map (λ at. ask.Test at (map ratio_of vs)) (kept_place kept name.left) ≡ Some x → IsFit settings kept x
test_fits settings kept name vs x quotients names within e = by (kept_place kept name.left) refl names e
  where
    by : (o : Option ℕ) → kept_place kept name.left ≡ o → tested_fault name (set_at kept o) (length vs) ≡ None → option_map (λ at. ask.Test at (map ratio_of vs)) o ≡ Some x → IsFit settings kept x
    by None q names e = absurd (not_none x e)
    by (Some i) q names e =
        let h = here kept i (place_below kept name.left i q) in
        subst (IsFit settings kept) (same_some (ask.Test i (map ratio_of vs)) x e) (
          h.set,
          (
            h.got,
            record {
              count = length-map vs ratio_of ∙ same_count name (length vs) (length h.set.vars) (subst (λ o. tested_fault name o (length vs) ≡ None) h.got names);
              small = values_small vs within.0 quotients;
              coarse = record { divisor = within.1.0; common = within.1.1.0; coarse = within.1.1.1 };
            },
          ),
        )

-- the values of a test are quotients
abbrev AreQuotients : StatementShape → Type 0
AreQuotients shape = (name : Named) (vs : List RationalShape) → shape ≡ Test name vs → All IsQuotient vs

-- by the statement's shape
fit : (settings : Settings) (kept : List KeptSet) → 2 ≤ settings.base → AreFine kept → (shape : StatementShape) (x : Asked) → AreQuotients shape
    → statement_fault kept shape ≡ None → IsStatementWithin settings.base kept shape → asked kept shape ≡ Some x → IsFit settings kept x
fit settings kept low fine (Show set) x quotients names within e =
    subst (IsFit settings kept) (same_some _ x e) (given_set settings.base kept fine false set.vars set.formula within)
fit settings kept low fine (Set name set) x quotients names within e =
    let given = given_set settings.base kept fine (is_full kept) set.vars set.formula within in
    let limits = within_none (is_full kept) settings.base (length set.vars) set.formula (ask.core_of kept set) within in
    subst (IsFit settings kept) (same_some _ x e) ((given, kept_inside settings.base kept name.left set (is_full kept) low given within), (new_name name (kept_place kept name.left) (set_fault kept set.vars set.formula) names, has_room kept limits.room))
fit settings kept low fine (Print name) x quotients names within e = one_fits settings kept ask.Print name x (λ i lt. lt) e
fit settings kept low fine (Solve name) x quotients names within e = one_fits settings kept ask.Solve name x (λ i lt. lt) e
fit settings kept low fine (Test name vs) x quotients names within e = test_fits settings kept name vs x (quotients name vs refl) names within e
fit settings kept low fine (Equal a b) x quotients names within e = both_fit settings kept ask.Equal a b x (λ i j two. two) names e
fit settings kept low fine (Subset a b) x quotients names within e = both_fit settings kept ask.Subset a b x (λ i j two. two) names e
fit settings kept low fine (Check f) x quotients names within e =
    subst (IsFit settings kept) (same_some _ x e) (given_set settings.base kept fine false [] f within)
fit settings kept low fine (Loop name vars turn) x quotients names within e =
    subst (IsFit settings kept) (same_some _ x e) (loop_fits kept fine (has_room kept) name vars turn (new_name name (kept_place kept name.left) (loop_fault kept vars turn) names) within)

-- what the reader has given is answered
pub fits_next : (settings : Settings) (base : ℕ) (kept : List KeptSet) (p q : Progress) (lb la : Option (List ℕ)) (s : Statement) → base ≡ settings.base
    → 2 ≤ settings.base → AreGiven settings.base kept → IsNext base kept p q lb la s → IsFit settings kept (asked_of s)
fits_next settings base kept p q lb la s same low given h =
    let j : IsJudged settings.base kept h.asks.shape s = subst (λ b. IsJudged b kept h.asks.shape s) same h.asks.is in
    let ts = tokens_of p.given h.text in
    let quotients : AreQuotients h.asks.shape = λ name vs is. spelled_quotients ts name vs (subst (λ shape. Spells ts shape) is h.asks.spells) in
    fit settings kept low (fine_of settings.base kept given) h.asks.shape (asked_of s) quotients j.names j.within j.asks
