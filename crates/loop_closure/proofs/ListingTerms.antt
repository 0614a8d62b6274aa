-- The rows of a vector, listed in turn.
use Rattle.std.proofs.Common.{◌≡◌, ℕ, ◌+◌, List, [], ◌∷◌, ◌++◌, refl, sym, ap, ◌∙◌, subst}
use Rattle.std.specs.List.{AllByRecursion, All}
use Rattle.std.proofs.lemmas.List.Elements.{All-from_recursion}
use Rattle.lash_model.specs.Formulas.{Linear}
use Rattle.term_substitution.specs.Conditions.{IsSubstitute}
use Rattle.loop_laws.specs.Closures.{gathered}
use Rattle.loop_closure.specs.Filling.{IsListing}
use Rattle.loop_closure.proofs.Gathering.{all_append}
use Rattle.loop_closure.proofs.Joining.{listed_more}

pub listing_start : (f : ℕ → Linear) (places : ℕ) → IsListing f places 0 []
unfolding gathered
listing_start f places = record { listed = refl; substitutes = tt }

pub listing_more : (f : ℕ → Linear) (places n : ℕ) (ts us : List Linear) (t : Linear) → IsListing f places n ts → us ≡ ts ++ t ∷ [] → t ≡ f n → IsSubstitute places t → IsListing f places (n + 1) us
listing_more f places n ts us t h e is fits = record {
  listed = e ∙ ap (λ xs. xs ++ t ∷ []) h.listed ∙ ap (λ x. gathered (λ i. f i ∷ []) n ++ x ∷ []) is ∙ listed_more f n;
  substitutes = subst (AllByRecursion (IsSubstitute places)) (sym e) (all_append (IsSubstitute places) ts (t ∷ []) h.substitutes (fits, tt));
}

pub listing_all : (f : ℕ → Linear) (places n : ℕ) (ts : List Linear) → IsListing f places n ts → All (IsSubstitute places) ts
listing_all f places n ts h = All-from_recursion (IsSubstitute places) ts h.substitutes
