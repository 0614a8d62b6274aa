-- The bytes between a start and an end, after a write behind the end or a step of the start.
use Rattle.std.proofs.Common.{◌≡◌, ℕ, ◌+◌, ◌-◌, ◌<◌, ◌≤◌, List, ◌++◌, length, take, drop, slice_range, Option, Some, None, refl, sym, ap, subst, ◌∙◌, arith}
use Rattle.std.proofs.lemmas.List.{append-nil, take_at, drop_at, take-append-le, drop-append-le, drop-take, drop-drop, length-take-le, length-drop, length-append}
use Rattle.std.specs.Io.KnownBytes.{prepend_known, IsAtEnd}
use borrow.Rule.Slice.PartMut.{put_mid, post_of}
use lib.Seq.{take-add}
use Rattle.lash_io.specs.Sources.{Gave}
use Rattle.script_pieces.specs.Filling.{Fill}

pub grown : (xs ys : List ℕ) (start end k n : ℕ) → start ≤ end → end ≤ length xs → n ≤ length ys
    → slice_range (put_mid end k xs ys) start (end + n) ≡ slice_range xs start end ++ take n ys
grown xs ys start end k n ordered within fits =
    let front = length-take-le end xs within in
    let held = drop start (take end xs) in
    let len : length held ≡ end - start = omega (arith, length-drop start (take end xs)) in
    let sum : end + n - start ≡ (end - start) + n = omega arith in
    let parts : end ≡ start + (end - start) = omega arith in
    let same : held ≡ take (end - start) (drop start xs) = ap (λ j. drop start (take j xs)) parts ∙ drop-take start (end - start) xs in
    let after = ys ++ post_of end k xs in
    ap (take (end + n - start)) (drop-append-le start (take end xs) after (omega arith))
    ∙ ap (λ j. take j (held ++ after)) sum ∙ take-add (end - start) n (held ++ after)
    ∙ (rw (take_at held after _ len, drop_at held after _ len, take-append-le n ys (post_of end k xs) fits, same) refl)

pub kept : (xs ys : List ℕ) (start end k : ℕ) → start ≤ end → end ≤ length xs
    → slice_range (put_mid end k xs ys) start end ≡ slice_range xs start end
kept xs ys start end k ordered within =
    let none : end ≡ end + 0 = omega arith in
    ap (slice_range (put_mid end k xs ys) start) none ∙ grown xs ys start end k 0 ordered within (omega arith) ∙ append-nil _

pub given : (xs : List ℕ) (start end count : ℕ) → start + count ≤ end
    → slice_range xs (start + count) end ≡ drop count (slice_range xs start end)
given xs start end count inside =
    let parts : end - start ≡ count + (end - (start + count)) = omega arith in
    sym (ap (λ j. drop count (take j (drop start xs))) parts ∙ drop-take count _ (drop start xs)
    ∙ ap (take (end - (start + count))) (drop-drop count start xs))

pub length_written : (a k : ℕ) (xs ys : List ℕ) → a + k ≤ length xs → length ys ≡ k → length (put_mid a k xs ys) ≡ length xs
length_written a k xs ys fits size =
    length-append (take a xs) (ys ++ post_of a k xs)
    ∙ omega (arith, length-take-le a xs (omega (arith, fits)), length-append ys (post_of a k xs), length-drop k (drop a xs), length-drop a xs, fits, size)

nothing_left : (known : Option (List ℕ)) (n : ℕ) (ys : List ℕ) → n ≡ 0 → IsAtEnd (prepend_known (take n ys) known) → IsAtEnd known
nothing_left None n ys h e = tt
nothing_left (Some xs) n ys h e = ap (λ k. take k ys ++ xs) (sym h) ∙ e

-- a read behind the bytes held
pub filled : (held_before xs ys : List ℕ) (start end k n : ℕ) (before after : Option (List ℕ)) → slice_range xs start end ≡ held_before
    → start ≤ end → end ≤ length xs → n ≤ length ys → 0 < length ys → Gave before after ys n
    → Fill held_before (slice_range (put_mid end k xs ys) start (end + n)) before after n
filled held_before xs ys start end k n before after is ordered within fits room gave = record {
  taken = take n ys;
  many = length-take-le n ys fits;
  held = grown xs ys start end k n ordered within fits ∙ ap (λ zs. zs ++ take n ys) is;
  left = gave.given;
  ended = λ none. nothing_left after n ys none (subst IsAtEnd gave.given (gave.at_end none room));
}
