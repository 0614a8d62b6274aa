-- Formulas joined one after the other are all of them joined.
use Rattle.std.proofs.Common.{◌≡◌, ℕ, ◌+◌, List, [], ◌∷◌, ◌++◌, add-one, refl, ap, ◌∙◌, Option, None, Some}
use Rattle.lash_model.specs.Formulas.{Linear, Formula}
use Rattle.loop_laws.specs.Closures.{gathered, joined_to, joined}
use Rattle.loop_closure.specs.Builders.{joined_on, settled}

joined_to_append : (op : Formula → Formula → Formula) (f : Formula) (xs ys : List Formula) → joined_to op (joined_to op f xs) ys ≡ joined_to op f (xs ++ ys)
unfolding joined_to
joined_to_append op f [] ys = refl
joined_to_append op f (x ∷ xs) ys = joined_to_append op (op f x) xs ys

pub joined_append : (op : Formula → Formula → Formula) (w : Option Formula) (xs ys : List Formula) → joined_on op (joined_on op w xs) ys ≡ joined_on op w (xs ++ ys)
joined_append op None [] ys = refl
joined_append op None (x ∷ xs) ys = ap Some (joined_to_append op x xs ys)
joined_append op (Some f) xs ys = ap Some (joined_to_append op f xs ys)

-- one step, and a further one
pub then : (op : Formula → Formula → Formula) (u v w : Option Formula) (xs ys : List Formula) → v ≡ joined_on op u xs → w ≡ joined_on op v ys → w ≡ joined_on op u (xs ++ ys)
then op u v w xs ys e h = h ∙ ap (λ x. joined_on op x ys) e ∙ joined_append op u xs ys

pub joined_none : (op : Formula → Formula → Formula) (f : ℕ → List Formula) (w : Option Formula) → w ≡ joined_on op w (gathered f 0)
unfolding gathered joined_to
joined_none op f None = refl
joined_none op f (Some g) = refl

gathered_more : (f : ℕ → List Formula) (n : ℕ) → gathered f n ++ f n ≡ gathered f (n + 1)
unfolding gathered
gathered_more f n = rw add-one refl

-- one turn of a loop
pub joined_more : (op : Formula → Formula → Formula) (f : ℕ → List Formula) (u v w : Option Formula) (n : ℕ) → v ≡ joined_on op u (gathered f n) → w ≡ joined_on op v (f n) → w ≡ joined_on op u (gathered f (n + 1))
joined_more op f u v w n e h = then op u v w (gathered f n) (f n) e h ∙ ap (joined_on op u) (gathered_more f n)

pub listed_more : (f : ℕ → Linear) (n : ℕ) → gathered (λ i. f i ∷ []) n ++ f n ∷ [] ≡ gathered (λ i. f i ∷ []) (n + 1)
unfolding gathered
listed_more f n = rw add-one refl

pub put_one : (op : Formula → Formula → Formula) (w : Option Formula) (left f whole : Formula) → w ≡ Some left → whole ≡ op left f → Some whole ≡ joined_on op w (f ∷ [])
unfolding joined_to
put_one op w left f whole e h = rw e (ap Some h)

pub put_first : (op : Formula → Formula → Formula) (w : Option Formula) (f : Formula) → w ≡ None → Some f ≡ joined_on op w (f ∷ [])
unfolding joined_to
put_first op w f e = rw e refl

pub settled_joined : (op : Formula → Formula → Formula) (fs : List Formula) → settled (joined_on op None fs) ≡ joined op fs
settled_joined op [] = refl
settled_joined op (f ∷ fs) = refl

-- one turn of a loop that joins one formula
pub joined_one : (op : Formula → Formula → Formula) (f : ℕ → Formula) (u v w : Option Formula) (n : ℕ) (g : Formula) → v ≡ joined_on op u (gathered (λ i. f i ∷ []) n) → g ≡ f n → w ≡ joined_on op v (g ∷ []) → w ≡ joined_on op u (gathered (λ i. f i ∷ []) (n + 1))
joined_one op f u v w n g e is h = joined_more op (λ i. f i ∷ []) u v w n e (h ∙ ap (λ x. joined_on op v (x ∷ [])) is)

-- two formulas joined in turn
pub joined_two : (op : Formula → Formula → Formula) (u v w : Option Formula) (f g a b : Formula) → v ≡ joined_on op u (f ∷ []) → f ≡ a → w ≡ joined_on op v (g ∷ []) → g ≡ b → w ≡ joined_on op u (a ∷ b ∷ [])
joined_two op u v w f g a b e is h it = then op u v w (a ∷ []) (b ∷ []) (e ∙ ap (λ x. joined_on op u (x ∷ [])) is) (h ∙ ap (λ x. joined_on op v (x ∷ [])) it)
