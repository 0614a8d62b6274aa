-- How what a writer holds grows, write by write.
use Rattle.std.proofs.Common.{◌≡◌, ℕ, ◌-◌, List, [], ◌++◌, length, take, drop, Option, Some, None, refl, ap, sym, ◌∙◌, append_assoc, subst}
use Rattle.std.proofs.lemmas.List.{take-append-drop, take_rest, append-nil}
use Rattle.std.specs.Io.KnownBytes.{Appends, Keeps}
use Rattle.lash_io.specs.Adapters.{AppendsPart}

-- of `bytes`, all but `rest` was written
pub record Written (before after : Option (List ℕ)) (bytes rest : List ℕ) : Type 0 where
  pub done : List ℕ
  pub parted : bytes ≡ done ++ rest
  pub appended : Appends before after done

appends_none : (known : Option (List ℕ)) → Appends known known []
appends_none None = tt
appends_none (Some held) = sym (append-nil held)

appends_then : (before middle after : Option (List ℕ)) (xs ys : List ℕ) → Appends before middle xs → Appends middle after ys → Appends before after (xs ++ ys)
appends_then None middle after xs ys first second = tt
appends_then (Some held) None after xs ys first second = absurd first
appends_then (Some held) (Some grown) None xs ys first second = absurd second
appends_then (Some held) (Some grown) (Some all) xs ys first second = second ∙ ap (λ zs. zs ++ ys) first ∙ append_assoc held xs ys

appends_kept : (before middle after : Option (List ℕ)) (xs : List ℕ) → Appends before middle xs → Keeps middle after → Appends before after xs
appends_kept None middle after xs first kept = tt
appends_kept (Some held) None after xs first kept = absurd first
appends_kept (Some held) (Some grown) None xs first kept = absurd kept
appends_kept (Some held) (Some grown) (Some all) xs first kept = kept ∙ first

-- before the first write
pub written_none : (known : Option (List ℕ)) (bytes : List ℕ) → Written known known bytes bytes
written_none known bytes = record { done = []; parted = refl; appended = appends_none known }

-- after one more write
pub written_more : (before middle after : Option (List ℕ)) (bytes rest rest_now : List ℕ) (count : ℕ) → Written before middle bytes rest
    → Appends middle after (take count rest) → rest_now ≡ take (length rest - count) (drop count rest) → Written before after bytes rest_now
written_more before middle after bytes rest rest_now count so_far more is_rest = record {
  done = so_far.done ++ take count rest;
  parted = so_far.parted ∙ ap (λ zs. so_far.done ++ zs) (sym (take-append-drop count rest)) ∙ sym (append_assoc so_far.done (take count rest) (drop count rest))
      ∙ ap (λ zs. (so_far.done ++ take count rest) ++ zs) (sym (take_rest rest count) ∙ sym is_rest);
  appended = appends_then before middle after so_far.done (take count rest) so_far.appended more;
}

-- where a write failed
pub written_part : (before middle after : Option (List ℕ)) (bytes rest : List ℕ) → Written before middle bytes rest → Keeps middle after
    → AppendsPart before after bytes
written_part before middle after bytes rest so_far kept = record {
  part = so_far.done;
  rest = rest;
  parted = so_far.parted;
  appended = appends_kept before middle after so_far.done so_far.appended kept;
}

-- where no byte is left
pub written_all : (before after : Option (List ℕ)) (bytes rest : List ℕ) → Written before after bytes rest → rest ≡ [] → Appends before after bytes
written_all before after bytes rest so_far none =
    let all : so_far.done ≡ bytes = sym (append-nil so_far.done) ∙ ap (λ zs. so_far.done ++ zs) (sym none) ∙ sym so_far.parted in
    let P : List ℕ → Type 0 = λ xs. Appends before after xs in
    subst P all so_far.appended
