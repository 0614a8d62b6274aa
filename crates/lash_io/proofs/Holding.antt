-- How what a sink holds grows, put by put.
use Rattle.std.proofs.Common.{◌≡◌, ℕ, List, [], ◌++◌, take, drop, Option, Some, None, Result, refl, subst, ap, sym, ◌∙◌, append_assoc}
use Rattle.std.proofs.lemmas.List.{take-append-drop, append-nil}
use Rattle.std.proofs.lemmas.Result.{MatchResult-weaker}
use Rattle.std.specs.Io.KnownBytes.{append_known}
use Rattle.lash_io.specs.Sinks.{Holds, HoldsPart, Puts}

-- what is held after two puts, one after the other
append_known-append_known : (known : Option (List ℕ)) (xs ys : List ℕ) → append_known (append_known known xs) ys ≡ append_known known (xs ++ ys)
append_known-append_known None xs ys = refl
append_known-append_known (Some held) xs ys = ap Some (append_assoc held xs ys)

append_known-nil : (known : Option (List ℕ)) → append_known known [] ≡ known
append_known-nil None = refl
append_known-nil (Some held) = ap Some (append-nil held)

-- nothing was put
pub holds_none : (held : Option (List ℕ)) → Holds held held []
holds_none held = sym (append_known-nil held)

-- a put, then a put
pub holds_then : (before middle after : Option (List ℕ)) (xs ys : List ℕ) → Holds before middle xs → Holds middle after ys → Holds before after (xs ++ ys)
holds_then before middle after xs ys first second =
    second ∙ ap (λ known. append_known known ys) first ∙ append_known-append_known before xs ys

-- all of it is a part of it
pub all_is_part : (before after : Option (List ℕ)) (xs : List ℕ) → Holds before after xs → HoldsPart before after xs
all_is_part before after xs held = record { part = xs; rest = []; parted = sym (append-nil xs); held = held }

-- nothing is a part of anything
pub none_is_part : (held : Option (List ℕ)) (xs : List ℕ) → HoldsPart held held xs
none_is_part held xs = record { part = []; rest = xs; parted = refl; held = holds_none held }

-- a put, then a part of a put
pub part_then : (before middle after : Option (List ℕ)) (xs ys : List ℕ) → Holds before middle xs → HoldsPart middle after ys → HoldsPart before after (xs ++ ys)
part_then before middle after xs ys first second = record {
  part = xs ++ second.part;
  rest = second.rest;
  parted = ap (λ zs. xs ++ zs) second.parted ∙ sym (append_assoc xs second.part second.rest);
  held = holds_then before middle after xs second.part first second.held;
}

-- a part of a front is a part of the whole
pub part_more : (before after : Option (List ℕ)) (xs ys : List ℕ) → HoldsPart before after xs → HoldsPart before after (xs ++ ys)
part_more before after xs ys held = record {
  part = held.part;
  rest = held.rest ++ ys;
  parted = ap (λ zs. zs ++ ys) held.parted ∙ append_assoc held.part held.rest ys;
  held = held.held;
}

-- the first n bytes are a part
pub front_is_part : (held after bytes : List ℕ) (n : ℕ) → after ≡ held ++ take n bytes → HoldsPart (Some held) (Some after) bytes
front_is_part held after bytes n is_after = record {
  part = take n bytes;
  rest = drop n bytes;
  parted = sym (take-append-drop n bytes);
  held = ap Some is_after;
}

-- a put, then one with either answer
pub puts_then : {T E : Type 0} (before middle after : Option (List ℕ)) (xs ys : List ℕ) (answer : Result T E) → Holds before middle xs
    → Puts middle after answer ys → Puts before after answer (xs ++ ys)
puts_then before middle after xs ys answer first second =
    MatchResult-weaker answer second
    (λ _ held. holds_then before middle after xs ys first held)
    (λ _ part. part_then before middle after xs ys first part)

-- puts, then one that failed, where more was to follow
pub puts_failed : (before middle after : Option (List ℕ)) (xs ys more whole : List ℕ) → Holds before middle xs → HoldsPart middle after ys
    → whole ≡ xs ++ ys ++ more → HoldsPart before after whole
puts_failed before middle after xs ys more whole first second is_whole =
    let P : List ℕ → Type 0 = λ zs. HoldsPart before after zs in
    subst P (sym is_whole) (part_more before after (xs ++ ys) more (part_then before middle after xs ys first second))
