-- The members of a closure, put together in turn.
use Rattle.std.proofs.Common.{◌≡◌, ℕ, ◌+◌, List, [], ◌∷◌, ◌++◌, refl, ap, ◌∙◌, Bool, true, false, Option, None, Some}
use Rattle.std.proofs.lemmas.Bool.{true≢false}
use Rattle.lash_model.specs.Formulas.{Int, Formula, And, Or, Exists}
use Rattle.loop_laws.specs.Turns.{Body}
use Rattle.loop_laws.specs.Closures.{gathered, joined_to, joined, early_term, late_term, equations, guarded, is_some, short_count, long_count, places_of, short, between, long_at, long, closure_of}
use Rattle.loop_closure.specs.Builders.{joined_on, settled}
use Rattle.loop_closure.proofs.Joining.{then, settled_joined}

nothing : (op : Formula → Formula → Formula) (w : Option Formula) → w ≡ joined_on op w []
unfolding joined_to
nothing op None = refl
nothing op (Some f) = refl

pub no_short_count : (counted : Bool) (l : Body) (i : ℕ) (w : Option Formula) → counted ≡ false → w ≡ joined_on And w (short_count counted l i)
no_short_count true l i w e = absurd (true≢false e)
no_short_count false l i w e = nothing And w

pub no_long_count : (counted : Bool) (l : Body) (p i : ℕ) (w : Option Formula) → counted ≡ false → w ≡ joined_on And w (long_count counted l p i)
no_long_count true l p i w e = absurd (true≢false e)
no_long_count false l p i w e = nothing And w

-- what is joined to nothing is joined
pub settled_all : (op : Formula → Formula → Formula) (fs : List Formula) (w : Option Formula) (f : Formula) → w ≡ joined_on op None fs → f ≡ settled w → f ≡ joined op fs
settled_all op fs w f e h = h ∙ ap settled e ∙ settled_joined op fs

-- the members for fewer turns than the power, over so many places
abbrev short_at : Bool → Body → ℕ → ℕ → List Formula
short_at counted l i k = equations l (early_term l i) k ++ gathered (λ j. guarded l (early_term l j) k ∷ []) i ++ short_count counted l i

pub short_joined : (counted : Bool) (l : Body) (i k : ℕ) (u v w : Option Formula) (f : Formula) → k ≡ places_of counted l → u ≡ joined_on And None (equations l (early_term l i) k) → v ≡ joined_on And u (gathered (λ j. guarded l (early_term l j) k ∷ []) i) → w ≡ joined_on And v (short_count counted l i) → f ≡ settled w → f ≡ joined And (short counted l i)
short_joined counted l i k u v w f is a b c d =
    let equal = equations l (early_term l i) k in
    let guards = gathered (λ j. guarded l (early_term l j) k ∷ []) i in
    let whole : w ≡ joined_on And None (short_at counted l i k) = then And None v w (equal ++ guards) (short_count counted l i) (then And None u v equal guards a b) c in
    settled_all And (short counted l i) w f (whole ∙ ap (λ n. joined_on And None (short_at counted l i n)) is) d

pub long_joined : (counted : Bool) (l : Body) (p i k : ℕ) (s t u v w : Option Formula) → k ≡ places_of counted l → s ≡ joined_on And None (is_some k ∷ equations l (late_term l p i k 1) (k + 1)) → t ≡ joined_on And s (gathered (λ j. guarded l (early_term l j) (k + 1) ∷ []) p) → u ≡ joined_on And t (gathered (λ j. between l p k j ∷ []) p) → v ≡ joined_on And u (gathered (λ j. guarded l (early_term l (p + j)) (k + 1) ∷ guarded l (late_term l p j k 1) (k + 1) ∷ []) i) → w ≡ joined_on And v (long_count counted l p i) → w ≡ joined_on And None (long counted l p i)
long_joined counted l p i k s t u v w is a b c d e =
    let start = is_some k ∷ equations l (late_term l p i k 1) (k + 1) in
    let firsts = gathered (λ j. guarded l (early_term l j) (k + 1) ∷ []) p in
    let middles = gathered (λ j. between l p k j ∷ []) p in
    let lasts = gathered (λ j. guarded l (early_term l (p + j)) (k + 1) ∷ guarded l (late_term l p j k 1) (k + 1) ∷ []) i in
    let whole : w ≡ joined_on And None (long_at k counted l p i) = then And None v w (start ++ firsts ++ middles ++ lasts) (long_count counted l p i) (then And None u v (start ++ firsts ++ middles) lasts (then And None t u (start ++ firsts) middles (then And None s t start firsts a b) c) d) e in
    whole ∙ ap (λ n. joined_on And None (long_at n counted l p i)) is

pub closure_joined : (counted : Bool) (l : Body) (p : ℕ) (v w : Option Formula) (f : Formula) → v ≡ joined_on Or None (gathered (λ i. joined And (short counted l i) ∷ []) p) → w ≡ joined_on Or v (gathered (λ i. Exists Int (joined And (long counted l p i)) ∷ []) p) → f ≡ settled w → f ≡ closure_of counted l p
closure_joined counted l p v w f a b c =
    let shorts = gathered (λ i. joined And (short counted l i) ∷ []) p in
    let longs = gathered (λ i. Exists Int (joined And (long counted l p i)) ∷ []) p in
    settled_all Or (shorts ++ longs) w f (then Or None v w shorts longs a b) c
