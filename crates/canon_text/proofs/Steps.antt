-- Steps of writing through a block: puts that went well, then one that failed.
use Rattle.std.proofs.Common.{◌≡◌, ℕ, List, [], ◌++◌, Option, Result, Ok, Err, subst, append_assoc}
use Rattle.std.specs.Result.{IsErr}
use Rattle.lash_io.specs.Sinks.{HoldsPart, Puts}
use Rattle.lash_io.specs.Blocks.{Moves, Passes}
use Rattle.lash_io.proofs.Holding.{part_more}
use Rattle.lash_io.proofs.Moving.{passes_then, passes_failed}
use Rattle.automaton_texts.proofs.Texts.{Fronted}

-- a put that went well, then others with either answer
pub go_on : {T E : Type 0} {before middle : Option (List ℕ)} {pending between xs : List ℕ} (after : Option (List ℕ)) (now ys : List ℕ) (answer : Result T E)
    → Moves before pending middle between xs → Passes middle between after now answer ys → Passes before pending after now answer (xs ++ ys)
go_on after now ys answer first second = passes_then _ _ _ _ _ _ _ _ answer first second

-- the error of a put is handed on, where more was to follow
pub cut : {T E : Type 0} (answer : Result T E) → IsErr answer → (before after : Option (List ℕ)) (pending now front more : List ℕ)
    → HoldsPart before after (pending ++ front) × (now ≡ []) → Passes before pending after now answer (front ++ more)
cut (Ok x) is_err before after pending now front more failed = absurd (cc)
cut (Err e) is_err before after pending now front more failed =
    let P : List ℕ → Type 0 = λ xs. HoldsPart before after xs in
    (subst P (append_assoc pending front more) (part_more before after (pending ++ front) more failed.0), failed.1)

-- the error of a put in a loop is handed on
pub cut_in_loop : {T E : Type 0} {before middle : Option (List ℕ)} {pending between xs : List ℕ} (answer : Result T E) → IsErr answer → (after : Option (List ℕ)) (now ys whole : List ℕ)
    → Moves before pending middle between xs → HoldsPart middle after (between ++ ys) × (now ≡ []) → Fronted whole (xs ++ ys) → Passes before pending after now answer whole
cut_in_loop (Ok x) is_err after now ys whole first failed fronted = absurd (cc)
cut_in_loop (Err e) is_err after now ys whole first failed fronted =
    passes_failed _ _ _ _ _ _ _ _ fronted.more _ first failed fronted.is

-- the error of puts into a new block is handed on
pub flush_cut : {T E : Type 0} (answer : Result T E) → IsErr answer → (before after : Option (List ℕ)) (pending now bytes : List ℕ) → pending ≡ []
    → HoldsPart before after (pending ++ bytes) × (now ≡ []) → Puts before after answer bytes
flush_cut (Ok x) is_err before after pending now bytes new failed = absurd (cc)
flush_cut (Err e) is_err before after pending now bytes new failed =
    let P : List ℕ → Type 0 = λ xs. HoldsPart before after (xs ++ bytes) in
    subst P new failed.0
