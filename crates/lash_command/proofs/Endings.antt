-- What stands at the bytes ahead is one thing, and so a run has one ending.
use Rattle.std.proofs.Common.{◌≡◌, ℕ, ◌+◌, ◌≤◌, List, [], ◌∷◌, ◌++◌, length, map, take, drop, Bool, true, false, arith, refl, sym, ap, ap₂, ◌∙◌, subst, inl, inr, append_assoc, append-nil, Option, Some, None}
use Rattle.std.specs.Prelude.{◌⊎◌, IfSome, unwrap_or}
use Rattle.std.specs.Io.KnownBytes.{prepend_known, IsAtEnd}
use Rattle.std.proofs.lemmas.Bool.{true≢false}
use Rattle.std.proofs.lemmas.List.{length-append, length-map, length-take-le}
use Rattle.std.proofs.Math.Seq.{take-length, take-append_seam, drop-append_seam}
use Rattle.parser_laws.proofs.Parts.{same_some, not_none}
use Rattle.lash_io.specs.Faults.{IsFaultCounted}
use Rattle.lash_io.specs.Sinks.{Holds}
use Rattle.script_tokens.specs.Tokens.{PlacedToken}
use Rattle.script_tokens.specs.Lexing.{tokens_of}
use Rattle.script_pieces.specs.Cuts.{statement_length, piece_length}
use Rattle.script_pieces.specs.Limits.{IsWithin, IsRefused}
use Rattle.script_pieces.specs.Taking.{Progress}
use Rattle.script_pieces.specs.Answers.{IsTooLong}
use Rattle.script_pieces.specs.declared.errors.PieceError.{PieceError}
use Rattle.script_pieces.specs.declared.errors.PieceError.TheVariants.{Read as FaultyRead, StatementBytes as LongStatement, ScriptBytes as LongScript}
use Rattle.script_pieces.proofs.Cutting.{stable, within}
use Rattle.script_names.specs.Kept.{KeptSet}
use Rattle.script_meaning.specs.declared.limits.Which.{Which}
use Rattle.statement_meaning.specs.Asking as meaning
use Rattle.statement_meaning.specs.Asking.{Asked}
use Rattle.statement_meaning.specs.Judging.{statement_fault, IsStatementWithin}
use Rattle.statement_answers.specs.Keeping.{grown}
use Rattle.statement_answers.specs.Pieces.{IsAnswerable, IsUnanswered, IsPieceOf}
use Rattle.statement_answers.specs.declared.settings.Settings.{Settings}
use Rattle.statement_answers.specs.declared.errors.Unanswered.{Unanswered}
use Rattle.statement_answers.specs.declared.errors.Unanswered.TheVariants as answering
use Rattle.script_parse.specs.Answers.{OfStatement, AreRefused, IsFirstRefused, IsCause, error_of}
use Rattle.script_parse.specs.declared.errors.ScriptError.{ScriptError}
use Rattle.script_parse.specs.declared.errors.ScriptError.TheVariants as reading
use Rattle.script_parse.proofs.Excluding.{refusals_are_one, fit_or_refused, one_shape}
use Rattle.lash_command.specs.Answers.{IsWhole, IsAsking, Answer, AreAnswered, kept_behind, texts_of, pieces_of, Outside, Claim, Stops, IsBlankRest, IsNextAsked, IsUnread, Ends, Explains, unread_ending, unanswered_ending}
use Rattle.lash_command.specs.Scripts.{is_decided, Written, written_of, written_texts, IsGood, AreGood, IsBlank, IsGoodScript, AreAllAnswered}
use Rattle.lash_command.specs.declared.ending.Refusal.TheVariants.{Syntax, Name, Limit, NoPower, Heavy, NotWeak}
use Rattle.lash_command.specs.declared.ending.Ending.{Ending}
use Rattle.lash_command.specs.declared.ending.Ending.TheVariants.{Finished, Usage, Refused, ReadFault, WriteFault, NoMemory, Unbuilt}

-- what the crate below says of answers and causes
pub record Laws (settings : Settings) : Type 0 where
  pub answered : (kept : List KeptSet) (asked : Asked) (u : Unanswered) → IsAnswerable settings kept asked → IsUnanswered settings kept asked u → ⊥
  pub refused : (kept : List KeptSet) (asked : Asked) (u v : Unanswered) → IsUnanswered settings kept asked u → IsUnanswered settings kept asked v → u ≡ v
  pub pieces : (kept : List KeptSet) (asked : Asked) (piece : List ℕ) → IsPieceOf settings kept asked piece → IsAnswerable settings kept asked

-- what may stand at the bytes ahead, for which a run ends: a blank rest, a piece with too many bytes, one that is not read, and one that is not
-- answered
data What : Type 0 where
  Blank : What
  TooLong : PieceError → What
  Unread : ScriptError → What
  Left : Unanswered → What

abbrev ending_of : ℕ → What → Ending
ending_of number Blank = Finished
ending_of number (TooLong e) = unread_ending number (error_of e)
ending_of number (Unread e) = unread_ending number e
ending_of number (Left u) = unanswered_ending number u

-- the first piece of bytes
abbrev piece_of : List ℕ → List ℕ
piece_of ahead = take (piece_length ahead) ahead

-- every error but that of memory
abbrev is_told : ScriptError → Bool
is_told reading.Read = true
is_told (reading.Limit which) = true
is_told (reading.Syntax place) = true
is_told (reading.Name fault place) = true
is_told reading.Memory = false

record IsUnreadable (settings : Settings) (kept : List KeptSet) (given : ℕ) (ahead : List ℕ) (e : ScriptError) : Type 0 where
  told : is_told e ≡ true
  within : IsWithin given (length (piece_of ahead))
  some : tokens_of given (piece_of ahead) ≡ [] → ⊥
  refused : AreRefused settings.base kept (given + length (piece_of ahead)) (tokens_of given (piece_of ahead)) e

-- the first piece is a statement without fault that asks this
record IsAtHand (settings : Settings) (kept : List KeptSet) (given : ℕ) (ahead : List ℕ) (asked : Asked) : Type 0 where
  ends : statement_length false ahead ≡ Some (length (piece_of ahead))
  within : IsWithin given (length (piece_of ahead))
  asking : OfStatement (tokens_of given (piece_of ahead)) (IsAsking settings kept asked)

abbrev Stands : Settings → List KeptSet → ℕ → List ℕ → What → Type 0
Stands settings kept given ahead Blank = IsBlank given ahead
Stands settings kept given ahead (TooLong e) = IsRefused e given (piece_length ahead)
Stands settings kept given ahead (Unread e) = IsUnreadable settings kept given ahead e
Stands settings kept given ahead (Left u) = (asked : Asked) × (IsAtHand settings kept given ahead asked × IsUnanswered settings kept asked u)

-- pieces
piece_inside : (ahead : List ℕ) → piece_length ahead ≤ length ahead
piece_inside ahead = by (statement_length false ahead) (λ n e. (within false ahead n e).1)
  where
    by : (o : Option ℕ) → ((n : ℕ) → o ≡ Some n → n ≤ length ahead) → unwrap_or o (length ahead) ≤ length ahead
    by None f = omega arith
    by (Some n) f = f n refl

piece_long : (ahead : List ℕ) → length (piece_of ahead) ≡ piece_length ahead
piece_long ahead = length-take-le (piece_length ahead) ahead (piece_inside ahead)

-- without a whole statement all bytes are the piece
rest_long : (ahead : List ℕ) → statement_length false ahead ≡ None → piece_length ahead ≡ length ahead
rest_long ahead e = ap (λ o. unwrap_or o (length ahead)) e

rest_is_piece : (ahead : List ℕ) → statement_length false ahead ≡ None → piece_of ahead ≡ ahead
rest_is_piece ahead e = ap (λ n. take n ahead) (rest_long ahead e) ∙ take-length ahead

-- a whole statement in front is the piece
whole_long : (text more : List ℕ) → statement_length false text ≡ Some (length text) → piece_length (text ++ more) ≡ length text
whole_long text more e = ap (λ o. unwrap_or o (length (text ++ more))) (stable false text more (length text) e)

whole_is_piece : (ahead text more : List ℕ) → ahead ≡ text ++ more → statement_length false text ≡ Some (length text) → piece_of ahead ≡ text
whole_is_piece ahead text more is e = ap piece_of is ∙ ap (λ n. take n (text ++ more)) (whole_long text more e) ∙ take-append_seam text more

at_hand : (settings : Settings) (kept : List KeptSet) (given : ℕ) (ahead text more : List ℕ) (asked : Asked) → ahead ≡ text ++ more → IsWhole given text → OfStatement (tokens_of given text) (IsAsking settings kept asked) → IsAtHand settings kept given ahead asked
at_hand settings kept given ahead text more asked is whole asking =
    let same : text ≡ piece_of ahead = sym (whole_is_piece ahead text more is whole.whole) in
    record {
      ends = ap (statement_length false) is ∙ stable false text more (length text) whole.whole ∙ ap (λ xs. Some (length xs)) same;
      within = subst (λ xs. IsWithin given (length xs)) same whole.within;
      asking = subst (λ xs. OfStatement (tokens_of given xs) (IsAsking settings kept asked)) same asking;
    }

-- no two things stand there
within_or_long : (e : PieceError) (given size : ℕ) → IsWithin given size → IsRefused e given size → ⊥
within_or_long FaultyRead given size h r = r
within_or_long LongStatement given size h r = absurd (omega (arith, h.statement, r.reached))
within_or_long LongScript given size h r = absurd (omega (arith, h.script, r.reached))

one_long : (e f : PieceError) (given size : ℕ) → IsRefused e given size → IsRefused f given size → e ≡ f
one_long FaultyRead f given size h k = absurd h
one_long LongStatement FaultyRead given size h k = absurd k
one_long LongStatement LongStatement given size h k = refl
one_long LongStatement LongScript given size h k = absurd (omega (arith, h.first, k.first))
one_long LongScript FaultyRead given size h k = absurd k
one_long LongScript LongStatement given size h k = absurd (omega (arith, h.first, k.first))
one_long LongScript LongScript given size h k = refl

not_memory : (e : ScriptError) → is_told e ≡ true → e ≡ reading.Memory → ⊥
not_memory e told is = true≢false (sym told ∙ ap is_told is)

one_unread : (settings : Settings) (kept : List KeptSet) (given : ℕ) (ahead : List ℕ) (e f : ScriptError) → IsUnreadable settings kept given ahead e → IsUnreadable settings kept given ahead f → e ≡ f
one_unread settings kept given ahead e f h k = by (refusals_are_one settings.base kept (given + length (piece_of ahead)) (tokens_of given (piece_of ahead)) e f h.refused k.refused)
  where
    by : (e ≡ f) ⊎ (e ≡ reading.Memory) ⊎ (f ≡ reading.Memory) → e ≡ f
    by (inl same) = same
    by (inr (inl is)) = absurd (not_memory e h.told is)
    by (inr (inr is)) = absurd (not_memory f k.told is)

-- a statement without fault is read
not_unread : (settings : Settings) (kept : List KeptSet) (given : ℕ) (ahead : List ℕ) (asked : Asked) (e : ScriptError) → IsAtHand settings kept given ahead asked → IsUnreadable settings kept given ahead e → ⊥
not_unread settings kept given ahead asked e h k = not_memory e k.told (fit_or_refused settings.base kept (given + length (piece_of ahead)) (tokens_of given (piece_of ahead)) e fit k.refused)
  where
    fit : OfStatement (tokens_of given (piece_of ahead)) (λ shape. (statement_fault kept shape ≡ None) × IsStatementWithin settings.base kept shape)
    fit = record { shape = h.asking.shape; spells = h.asking.spells; is = (h.asking.is.names, h.asking.is.within) }

-- tokens ask one thing
one_asking : (settings : Settings) (kept : List KeptSet) (ts : List PlacedToken) (a b : Asked) → OfStatement ts (IsAsking settings kept a) → OfStatement ts (IsAsking settings kept b) → a ≡ b
one_asking settings kept ts a b h k = same_some a b (sym h.is.asks ∙ ap (meaning.asked kept) (one_shape ts h.shape k.shape h.spells k.spells) ∙ k.is.asks)

not_long : (kept : List KeptSet) (given : ℕ) (ahead : List ℕ) (e : PieceError) → IsWithin given (length (piece_of ahead)) → IsRefused e given (piece_length ahead) → ⊥
not_long kept given ahead e h r = within_or_long e given (piece_length ahead) (subst (λ n. IsWithin given n) (piece_long ahead) h) r

blank_within : (given : ℕ) (ahead : List ℕ) → IsBlank given ahead → IsWithin given (length (piece_of ahead))
blank_within given ahead h = subst (λ xs. IsWithin given (length xs)) (sym (rest_is_piece ahead h.unended)) h.within

-- a statement that can be answered is not blank, too long, unread or left
not_stopped : (settings : Settings) → Laws settings → (kept : List KeptSet) (given : ℕ) (ahead : List ℕ) (asked : Asked) (v : What) → IsAtHand settings kept given ahead asked → IsAnswerable settings kept asked → Stands settings kept given ahead v → ⊥
not_stopped settings l kept given ahead asked Blank h can s = not_none _ (sym s.unended ∙ h.ends)
not_stopped settings l kept given ahead asked (TooLong e) h can s = not_long kept given ahead e h.within s
not_stopped settings l kept given ahead asked (Unread e) h can s = not_unread settings kept given ahead asked e h s
not_stopped settings l kept given ahead asked (Left u) h can (other, (k, u_is)) = l.answered kept asked u can (subst (λ a. IsUnanswered settings kept a u) (one_asking settings kept (tokens_of given (piece_of ahead)) other asked k.asking h.asking) u_is)

blank_or_unread : (settings : Settings) (kept : List KeptSet) (given : ℕ) (ahead : List ℕ) (e : ScriptError) → IsBlank given ahead → IsUnreadable settings kept given ahead e → ⊥
blank_or_unread settings kept given ahead e h k = k.some (ap (tokens_of given) (rest_is_piece ahead h.unended) ∙ h.blank)

one_thing : (settings : Settings) → Laws settings → (kept : List KeptSet) (given : ℕ) (ahead : List ℕ) (v w : What) → Stands settings kept given ahead v → Stands settings kept given ahead w → v ≡ w
one_thing settings l kept given ahead Blank Blank h k = refl
one_thing settings l kept given ahead Blank (TooLong f) h k = absurd (not_long kept given ahead f (blank_within given ahead h) k)
one_thing settings l kept given ahead Blank (Unread f) h k = absurd (blank_or_unread settings kept given ahead f h k)
one_thing settings l kept given ahead Blank (Left u) h (asked, (k, is)) = absurd (not_none _ (sym h.unended ∙ k.ends))
one_thing settings l kept given ahead (TooLong e) Blank h k = absurd (not_long kept given ahead e (blank_within given ahead k) h)
one_thing settings l kept given ahead (TooLong e) (TooLong f) h k = ap TooLong (one_long e f given (piece_length ahead) h k)
one_thing settings l kept given ahead (TooLong e) (Unread f) h k = absurd (not_long kept given ahead e k.within h)
one_thing settings l kept given ahead (TooLong e) (Left u) h (asked, (k, is)) = absurd (not_long kept given ahead e k.within h)
one_thing settings l kept given ahead (Unread e) Blank h k = absurd (blank_or_unread settings kept given ahead e k h)
one_thing settings l kept given ahead (Unread e) (TooLong f) h k = absurd (not_long kept given ahead f h.within k)
one_thing settings l kept given ahead (Unread e) (Unread f) h k = ap Unread (one_unread settings kept given ahead e f h k)
one_thing settings l kept given ahead (Unread e) (Left u) h (asked, (k, is)) = absurd (not_unread settings kept given ahead asked e k h)
one_thing settings l kept given ahead (Left u) Blank (asked, (h, is)) k = absurd (not_none _ (sym k.unended ∙ h.ends))
one_thing settings l kept given ahead (Left u) (TooLong f) (asked, (h, is)) k = absurd (not_long kept given ahead f h.within k)
one_thing settings l kept given ahead (Left u) (Unread f) (asked, (h, is)) k = absurd (not_unread settings kept given ahead asked f h k)
one_thing settings l kept given ahead (Left u) (Left v) (a, (h, is)) (b, (k, other)) = ap Left (l.refused kept a u v is (subst (λ x. IsUnanswered settings kept x v) (one_asking settings kept (tokens_of given (piece_of ahead)) b a k.asking h.asking) other))

-- behind good statements
abbrev StandsBehind : Settings → List KeptSet → ℕ → List Written → List ℕ → What → Type 0
StandsBehind settings kept given [] ahead v = Stands settings kept given ahead v
StandsBehind settings kept given (x ∷ xs) ahead v = StandsBehind settings (grown kept x.asked) (given + length x.text) xs ahead v

record AreOne (xs ys : List Written) (v w : What) : Type 0 where
  written : xs ≡ ys
  stands : v ≡ w

good_at_hand : (settings : Settings) (kept : List KeptSet) (given : ℕ) (bytes : List ℕ) (x : Written) (more : List ℕ) → bytes ≡ x.text ++ more → IsGood settings kept given x → IsAtHand settings kept given bytes x.asked
good_at_hand settings kept given bytes x more is h = at_hand settings kept given bytes x.text more x.asked is h.statement h.asking

cancel : (x y more other : List ℕ) → x ≡ y → x ++ more ≡ y ++ other → more ≡ other
cancel x y more other same e = sym (drop-append_seam x more) ∙ ap₂ drop (ap length same) e ∙ drop-append_seam y other

-- the same bytes have the same statements in front of what stops a run, which is one thing
meet : (settings : Settings) → Laws settings → (kept : List KeptSet) (given : ℕ) (bytes : List ℕ) (xs ys : List Written) (a b : List ℕ) (v w : What) → bytes ≡ written_texts xs ++ a → bytes ≡ written_texts ys ++ b → AreGood settings kept given xs → AreGood settings kept given ys → StandsBehind settings kept given xs a v → StandsBehind settings kept given ys b w → AreOne xs ys v w
meet settings l kept given bytes [] [] a b v w ea eb gx gy sx sy = record { written = refl; stands = one_thing settings l kept given bytes v w (subst (λ z. Stands settings kept given z v) (sym ea) sx) (subst (λ z. Stands settings kept given z w) (sym eb) sy) }
meet settings l kept given bytes [] (y ∷ ys) a b v w ea eb gx gy sx sy = absurd (not_stopped settings l kept given bytes y.asked v (good_at_hand settings kept given bytes y (written_texts ys ++ b) (eb ∙ append_assoc y.text (written_texts ys) b) gy.0) gy.0.answerable (subst (λ z. Stands settings kept given z v) (sym ea) sx))
meet settings l kept given bytes (x ∷ xs) [] a b v w ea eb gx gy sx sy = absurd (not_stopped settings l kept given bytes x.asked w (good_at_hand settings kept given bytes x (written_texts xs ++ a) (ea ∙ append_assoc x.text (written_texts xs) a) gx.0) gx.0.answerable (subst (λ z. Stands settings kept given z w) (sym eb) sy))
meet settings l kept given bytes (x ∷ xs) (y ∷ ys) a b v w ea eb gx gy sx sy =
    let left : bytes ≡ x.text ++ (written_texts xs ++ a) = ea ∙ append_assoc x.text (written_texts xs) a in
    let right : bytes ≡ y.text ++ (written_texts ys ++ b) = eb ∙ append_assoc y.text (written_texts ys) b in
    let texts : x.text ≡ y.text = sym (whole_is_piece bytes x.text (written_texts xs ++ a) left gx.0.statement.whole) ∙ whole_is_piece bytes y.text (written_texts ys ++ b) right gy.0.statement.whole in
    let asks : x.asked ≡ y.asked = one_asking settings kept (tokens_of given (piece_of bytes)) x.asked y.asked (good_at_hand settings kept given bytes x (written_texts xs ++ a) left gx.0).asking (good_at_hand settings kept given bytes y (written_texts ys ++ b) right gy.0).asking in
    let same : x ≡ y = ap₂ (λ t q. record { text = t; asked = q }) texts asks in
    let rest : written_texts xs ++ a ≡ written_texts ys ++ b = cancel x.text y.text (written_texts xs ++ a) (written_texts ys ++ b) texts (sym left ∙ right) in
    let behind = meet settings l (grown kept x.asked) (given + length x.text) (written_texts xs ++ a) xs ys a b v w refl rest gx.1 (subst (λ (z : Written). AreGood settings (grown kept z.asked) (given + length z.text) ys) (sym same) gy.1) sx (subst (λ (z : Written). StandsBehind settings (grown kept z.asked) (given + length z.text) ys b w) (sym same) sy) in
    record { written = ap₂ (λ z zs. z ∷ zs) same behind.written; stands = behind.stands }

-- answered statements are good
good_answers : (settings : Settings) → Laws settings → (kept : List KeptSet) (given : ℕ) (xs : List Answer) → AreAnswered settings kept given xs → AreGood settings kept given (map written_of xs)
good_answers settings l kept given [] h = tt
good_answers settings l kept given (x ∷ xs) h = (record { statement = h.0.statement; asking = h.0.asking; answerable = l.pieces kept x.asked x.piece h.0.is }, good_answers settings l (grown kept x.asked) (given + length x.text) xs h.1)

written_same : (xs : List Answer) → written_texts (map written_of xs) ≡ texts_of xs
written_same [] = refl
written_same (x ∷ xs) = ap (λ ys. x.text ++ ys) (written_same xs)

behind_answers : (settings : Settings) (kept : List KeptSet) (given : ℕ) (xs : List Answer) (ahead : List ℕ) (v : What) → Stands settings (kept_behind kept xs) (given + length (texts_of xs)) ahead v → StandsBehind settings kept given (map written_of xs) ahead v
behind_answers settings kept given [] ahead v s = subst (λ n. Stands settings kept n ahead v) (none given) s
  where
    none : (n : ℕ) → n + 0 ≡ n
    none n = omega arith
behind_answers settings kept given (x ∷ xs) ahead v s = behind_answers settings (grown kept x.asked) (given + length x.text) xs ahead v (subst (λ n. Stands settings (kept_behind (grown kept x.asked) xs) n ahead v) (sums given) s)
  where
    sums : (n : ℕ) → n + length (texts_of (x ∷ xs)) ≡ n + length x.text + length (texts_of xs)
    sums n = omega (arith, length-append x.text (texts_of xs))

-- where a run stopped, the bytes, and what stands there
record Halts (settings : Settings) (bytes : List ℕ) (before now : Outside) (e : Ending) : Type 0 where
  answers : List Answer
  each : AreAnswered settings [] 0 answers
  ahead : List ℕ
  joined : bytes ≡ texts_of answers ++ ahead
  gained : Holds before.held now.held (pieces_of answers)
  what : What
  stands : Stands settings (kept_behind [] answers) (0 + length (texts_of answers)) ahead what
  is : e ≡ ending_of (length answers + 1) what

-- the bytes that are left
record IsLeft (bytes taken : List ℕ) (left : Option (List ℕ)) : Type 0 where
  rest : List ℕ
  left_is : left ≡ Some rest
  joined : bytes ≡ taken ++ rest

left_over : (bytes taken : List ℕ) (left : Option (List ℕ)) → Some bytes ≡ prepend_known taken left → IsLeft bytes taken left
left_over bytes taken None e = absurd (not_none bytes (sym e))
left_over bytes taken (Some rest) e = record { rest = rest; left_is = refl; joined = same_some bytes (taken ++ rest) e }

halts : (settings : Settings) (before now : Outside) (bytes : List ℕ) (n : ℕ) (P : Claim) (e : Ending) (what : What) → before.left ≡ Some bytes → (s : Stops settings before now n P) → e ≡ ending_of (n + 1) what → ((rest : List ℕ) → now.left ≡ Some rest → Stands settings s.kept s.progress.given (s.progress.held ++ rest) what) → Halts settings bytes before now e
halts settings before now bytes n P e what starts s is stands =
    let come = s.come in
    let left = left_over bytes (texts_of come.answers ++ s.progress.held) now.left (sym starts ∙ come.taken) in
    record {
      answers = come.answers;
      each = come.each;
      ahead = s.progress.held ++ left.rest;
      joined = left.joined ∙ append_assoc (texts_of come.answers) s.progress.held left.rest;
      gained = come.gained;
      what = what;
      stands = subst (λ ks. Stands settings ks (0 + length (texts_of come.answers)) (s.progress.held ++ left.rest) what) come.keeps (subst (λ g. Stands settings s.kept g (s.progress.held ++ left.rest) what) (come.given ∙ none (length (texts_of come.answers))) (stands left.rest left.left_is));
      is = is ∙ ap (λ k. ending_of (k + 1) what) (sym come.count);
    }
  where
    none : (k : ℕ) → k ≡ 0 + k
    none k = omega arith

-- what is so of the bytes held is so of the bytes ahead
blank_stands : (now : Outside) (kept : List KeptSet) (p : Progress) (rest : List ℕ) → now.left ≡ Some rest → IsBlankRest now kept p → IsBlank p.given (p.held ++ rest)
blank_stands now kept p rest e h =
    let at_end : rest ≡ [] = subst IsAtEnd e h.rest.ended in
    let same : p.held ≡ p.held ++ rest = sym (append-nil p.held) ∙ ap (λ xs. p.held ++ xs) (sym at_end) in
    record {
      unended = subst (λ xs. statement_length false xs ≡ None) same h.rest.unended.unended;
      within = subst (λ xs. IsWithin p.given (length xs)) same h.rest.unended.within;
      blank = subst (λ xs. tokens_of p.given xs ≡ []) same h.blank;
    }

unread_stands : (settings : Settings) (kept : List KeptSet) (p : Progress) (left : Option (List ℕ)) (rest : List ℕ) (e : ScriptError) → left ≡ Some rest → is_told e ≡ true → IsFirstRefused settings.base kept p left e → IsUnreadable settings kept p.given (p.held ++ rest) e
unread_stands settings kept p left rest e is told h =
    let same : h.piece ≡ piece_of (p.held ++ rest) = subst (λ o. IfSome (prepend_known p.held o) (λ bytes. h.piece ≡ take (piece_length bytes) bytes)) is h.first.ahead in
    record {
      told = told;
      within = subst (λ xs. IsWithin p.given (length xs)) same h.within;
      some = λ none. h.some (ap (tokens_of p.given) same ∙ none);
      refused = subst (λ xs. AreRefused settings.base kept (p.given + length xs) (tokens_of p.given xs) e) same h.refused;
    }

long_stands : (e : PieceError) (p : Progress) (left : Option (List ℕ)) (rest : List ℕ) → left ≡ Some rest → IsTooLong e p left → IsRefused e p.given (piece_length (p.held ++ rest))
long_stands e p left rest is h = subst (λ o. IfSome (prepend_known p.held o) (λ bytes. IsRefused e p.given (piece_length bytes))) is h.ahead

left_stands : (settings : Settings) (kept : List KeptSet) (p : Progress) (rest : List ℕ) (u : Unanswered) → IsNextAsked settings (λ ks a. IsUnanswered settings ks a u) kept p → Stands settings kept p.given (p.held ++ rest) (Left u)
left_stands settings kept p rest u h = (h.asked, (at_hand settings kept p.given (p.held ++ rest) h.text (h.behind ++ rest) h.asked (ap (λ xs. xs ++ rest) h.held ∙ append_assoc h.text h.behind rest) h.statement h.asking, h.is))

-- the first piece is refused
abbrev IsFirst : Settings → Outside → ScriptError → Claim
IsFirst settings now e kept p = IsFirstRefused settings.base kept p now.left e

abbrev IsLong : Outside → PieceError → Claim
IsLong now e kept p = IsTooLong e p now.left

-- a run that stops at a statement that is not read
unread_halts : (settings : Settings) (before now : Outside) (bytes : List ℕ) (n : ℕ) (e : ScriptError) (x : Ending) → before.left ≡ Some bytes → x ≡ unread_ending (n + 1) e → is_told e ≡ true → Stops settings before now n (IsFirst settings now e) → Halts settings bytes before now x
unread_halts settings before now bytes n e x starts is told s = halts settings before now bytes n (IsFirst settings now e) x (Unread e) starts s is (λ rest left. unread_stands settings s.kept s.progress now.left rest e left told s.is)

-- at one that is too long
long_halts : (settings : Settings) (before now : Outside) (bytes : List ℕ) (n : ℕ) (e : PieceError) (x : Ending) → before.left ≡ Some bytes → x ≡ unread_ending (n + 1) (error_of e) → Stops settings before now n (IsLong now e) → Halts settings bytes before now x
long_halts settings before now bytes n e x starts is s = halts settings before now bytes n (IsLong now e) x (TooLong e) starts s is (λ rest left. long_stands e s.progress now.left rest left s.is)

-- at one that is not answered
left_halts : (settings : Settings) (before now : Outside) (bytes : List ℕ) (n : ℕ) (u : Unanswered) (x : Ending) → before.left ≡ Some bytes → x ≡ unanswered_ending (n + 1) u → Stops settings before now n (IsNextAsked settings (λ ks a. IsUnanswered settings ks a u)) → Halts settings bytes before now x
left_halts settings before now bytes n u x starts is s = halts settings before now bytes n (IsNextAsked settings (λ ks a. IsUnanswered settings ks a u)) x (Left u) starts s is (λ rest left. left_stands settings s.kept s.progress rest u s.is)

limit_halts : (settings : Settings) (before now : Outside) (bytes : List ℕ) (number n : ℕ) (which : Which) → before.left ≡ Some bytes → number ≡ n + 1 → Stops settings before now n (IsUnread settings before now (reading.Limit which)) → Halts settings bytes before now (Refused number (Limit which))
limit_halts settings before now bytes number n which starts is s = by s.is
  where
    by : IsCause settings.base s.kept s.progress now.left before.read_faults now.read_faults (reading.Limit which) → Halts settings bytes before now (Refused number (Limit which))
    by (inl (w, long)) = long_halts settings before now bytes n LongStatement (Refused number (Limit which)) starts (ap₂ (λ k v. Refused k (Limit v)) is w) (record { kept = s.kept; progress = s.progress; come = s.come; is = long })
    by (inr (inl (w, long))) = long_halts settings before now bytes n LongScript (Refused number (Limit which)) starts (ap₂ (λ k v. Refused k (Limit v)) is w) (record { kept = s.kept; progress = s.progress; come = s.come; is = long })
    by (inr (inr first)) = unread_halts settings before now bytes n (reading.Limit which) (Refused number (Limit which)) starts (ap (λ k. Refused k (Limit which)) is) refl (record { kept = s.kept; progress = s.progress; come = s.come; is = first })

halted : (settings : Settings) (e : Ending) (before now : Outside) (bytes : List ℕ) → before.left ≡ Some bytes → is_decided e ≡ true → Ends settings e before now → Halts settings bytes before now e
halted settings Finished before now bytes starts d (n, s) = halts settings before now bytes n (IsBlankRest now) Finished Blank starts s refl (λ rest left. blank_stands now s.kept s.progress rest left s.is)
halted settings Usage before now bytes starts d h = absurd h
halted settings (Refused number (Syntax place)) before now bytes starts d (n, (is, s)) = unread_halts settings before now bytes n (reading.Syntax place) (Refused number (Syntax place)) starts (ap (λ k. Refused k (Syntax place)) is) refl s
halted settings (Refused number (Name fault place)) before now bytes starts d (n, (is, s)) = unread_halts settings before now bytes n (reading.Name fault place) (Refused number (Name fault place)) starts (ap (λ k. Refused k (Name fault place)) is) refl s
halted settings (Refused number (Limit which)) before now bytes starts d (inl (n, (is, s))) = limit_halts settings before now bytes number n which starts is s
halted settings (Refused number (Limit which)) before now bytes starts d (inr (inl (w, (n, (is, s))))) = left_halts settings before now bytes n answering.KeptCells (Refused number (Limit which)) starts (ap₂ (λ k v. Refused k (Limit v)) is w) s
halted settings (Refused number (Limit which)) before now bytes starts d (inr (inr (n, (is, s)))) = left_halts settings before now bytes n (answering.Closure which) (Refused number (Limit which)) starts (ap (λ k. Refused k (Limit which)) is) s
halted settings (Refused number NoPower) before now bytes starts d (n, (is, s)) = left_halts settings before now bytes n answering.NoPower (Refused number NoPower) starts (ap (λ k. Refused k NoPower) is) s
halted settings (Refused number Heavy) before now bytes starts d (n, (is, s)) = left_halts settings before now bytes n answering.Heavy (Refused number Heavy) starts (ap (λ k. Refused k Heavy) is) s
halted settings (Refused number (NotWeak sign whole stem accept reject)) before now bytes starts d (n, (is, s)) =
    left_halts settings before now bytes n (answering.NotWeak sign whole stem accept reject) (Refused number (NotWeak sign whole stem accept reject)) starts
    (ap (λ k. Refused k (NotWeak sign whole stem accept reject)) is) s
halted settings ReadFault before now bytes starts d h = absurd (true≢false (sym d))
halted settings WriteFault before now bytes starts d h = absurd (true≢false (sym d))
halted settings NoMemory before now bytes starts d h = absurd (true≢false (sym d))
halted settings Unbuilt before now bytes starts d h = absurd h

-- one ending
one_ending : (settings : Settings) → Laws settings → (e f : Ending) (bytes : List ℕ) (before now other after : Outside) → Halts settings bytes before now e → Halts settings bytes other after f → e ≡ f
one_ending settings l e f bytes before now other after h k =
    let m = meet settings l [] 0 bytes (map written_of h.answers) (map written_of k.answers) h.ahead k.ahead h.what k.what (spelled h.answers h.ahead h.joined) (spelled k.answers k.ahead k.joined) (good_answers settings l [] 0 h.answers h.each) (good_answers settings l [] 0 k.answers k.each) (behind_answers settings [] 0 h.answers h.ahead h.what h.stands) (behind_answers settings [] 0 k.answers k.ahead k.what k.stands) in
    let count : length h.answers ≡ length k.answers = sym (length-map h.answers written_of) ∙ ap length m.written ∙ length-map k.answers written_of in
    h.is ∙ ap₂ (λ n w. ending_of (n + 1) w) count m.stands ∙ sym k.is
  where
    spelled : (xs : List Answer) (ahead : List ℕ) → bytes ≡ texts_of xs ++ ahead → bytes ≡ written_texts (map written_of xs) ++ ahead
    spelled xs ahead e = e ∙ ap (λ ys. ys ++ ahead) (sym (written_same xs))

pub runs_end_alike : (settings : Settings) → Laws settings → (e f : Ending) (words : ℕ) (bytes : List ℕ) (before now other after : Outside) → before.left ≡ Some bytes → other.left ≡ Some bytes → is_decided e ≡ true → is_decided f ≡ true → Explains settings e words before now → Explains settings f words other after → e ≡ f
runs_end_alike settings l e f words bytes before now other after p q d c (inl (some, (is, same))) (inl (more, (at, alike))) = is ∙ sym at
runs_end_alike settings l e f words bytes before now other after p q d c (inl (some, h)) (inr (none, k)) = absurd (omega (arith, some, none))
runs_end_alike settings l e f words bytes before now other after p q d c (inr (none, h)) (inl (some, k)) = absurd (omega (arith, some, none))
runs_end_alike settings l e f words bytes before now other after p q d c (inr (none, h)) (inr (nothing, k)) = one_ending settings l e f bytes before now other after (halted settings e before now bytes p d h) (halted settings f other after bytes q c k)

-- a good script stands before a blank rest
blank_behind : (settings : Settings) (kept : List KeptSet) (given : ℕ) (xs : List Written) (rest : List ℕ) → IsBlank (given + length (written_texts xs)) rest → StandsBehind settings kept given xs rest Blank
blank_behind settings kept given [] rest h = subst (λ n. IsBlank n rest) (none given) h
  where
    none : (n : ℕ) → n + 0 ≡ n
    none n = omega arith
blank_behind settings kept given (x ∷ xs) rest h = blank_behind settings (grown kept x.asked) (given + length x.text) xs rest (subst (λ n. IsBlank n rest) (sums given) h)
  where
    sums : (n : ℕ) → n + length (written_texts (x ∷ xs)) ≡ n + length x.text + length (written_texts xs)
    sums n = omega (arith, length-append x.text (written_texts xs))

record IsGoodEnd (settings : Settings) (before now : Outside) (xs : List Written) (e : Ending) : Type 0 where
  answers : List Answer
  each : AreAnswered settings [] 0 answers
  same : map written_of answers ≡ xs
  gained : Holds before.held now.held (pieces_of answers)
  is : e ≡ Finished

good_end : (settings : Settings) → Laws settings → (e : Ending) (bytes : List ℕ) (before now : Outside) (xs : List Written) → Halts settings bytes before now e → IsGoodScript settings bytes xs → IsGoodEnd settings before now xs e
good_end settings l e bytes before now xs h g =
    let m = meet settings l [] 0 bytes (map written_of h.answers) xs h.ahead g.rest h.what Blank (h.joined ∙ ap (λ ys. ys ++ h.ahead) (sym (written_same h.answers))) g.joined (good_answers settings l [] 0 h.answers h.each) g.each (behind_answers settings [] 0 h.answers h.ahead h.what h.stands) (blank_behind settings [] 0 xs g.rest (subst (λ n. IsBlank n g.rest) (none (length (written_texts xs))) g.ends)) in
    record { answers = h.answers; each = h.each; same = m.written; gained = h.gained; is = h.is ∙ ap (ending_of (length h.answers + 1)) m.stands }
  where
    none : (k : ℕ) → k ≡ 0 + k
    none k = omega arith

abbrev is_finished : Ending → Bool
is_finished Finished = true
is_finished Usage = false
is_finished (Refused number refusal) = false
is_finished ReadFault = false
is_finished WriteFault = false
is_finished NoMemory = false
is_finished Unbuilt = false

other_end : (e : Ending) → is_finished e ≡ false → e ≡ Finished → ⊥
other_end e not_it is = true≢false (sym (ap is_finished is) ∙ not_it)

-- the source is at its end
source_ended : (settings : Settings) (before now : Outside) (bytes : List ℕ) (n : ℕ) → before.left ≡ Some bytes → Stops settings before now n (IsBlankRest now) → now.left ≡ Some []
source_ended settings before now bytes n starts s =
    let left = left_over bytes (texts_of s.come.answers ++ s.progress.held) now.left (sym starts ∙ s.come.taken) in
    left.left_is ∙ ap Some (subst IsAtEnd left.left_is s.is.rest.ended)

good_ends : (settings : Settings) → Laws settings → (e : Ending) (bytes : List ℕ) (before now : Outside) (xs : List Written) → before.left ≡ Some bytes → IsGoodScript settings bytes xs → (IsFaultCounted before.read_faults now.read_faults → ⊥) → (IsFaultCounted before.write_faults now.write_faults → ⊥) → Ends settings e before now → ((e ≡ Finished) × AreAllAnswered settings before now xs) ⊎ (e ≡ NoMemory)
good_ends settings l Finished bytes before now xs starts g reads writes (n, s) =
    let end = good_end settings l Finished bytes before now xs (halted settings Finished before now bytes starts refl (n, s)) g in
    inl (refl, record { answers = end.answers; each = end.each; same = end.same; ended = source_ended settings before now bytes n starts s; gained = end.gained })
good_ends settings l Usage bytes before now xs starts g reads writes h = absurd h
good_ends settings l (Refused number refusal) bytes before now xs starts g reads writes h = absurd (other_end (Refused number refusal) refl (good_end settings l (Refused number refusal) bytes before now xs (halted settings (Refused number refusal) before now bytes starts refl h) g).is)
good_ends settings l ReadFault bytes before now xs starts g reads writes (n, s) = absurd (reads s.is.counted)
good_ends settings l WriteFault bytes before now xs starts g reads writes h = absurd (writes h.counted)
good_ends settings l NoMemory bytes before now xs starts g reads writes h = inr refl
good_ends settings l Unbuilt bytes before now xs starts g reads writes h = absurd h

pub good_scripts_end : (settings : Settings) → Laws settings → (e : Ending) (bytes : List ℕ) (before now : Outside) (xs : List Written) → before.left ≡ Some bytes → IsGoodScript settings bytes xs → (IsFaultCounted before.read_faults now.read_faults → ⊥) → (IsFaultCounted before.write_faults now.write_faults → ⊥) → Explains settings e 0 before now → ((e ≡ Finished) × AreAllAnswered settings before now xs) ⊎ (e ≡ NoMemory)
good_scripts_end settings l e bytes before now xs starts g reads writes (inl (some, h)) = absurd (omega (arith, some))
good_scripts_end settings l e bytes before now xs starts g reads writes (inr (none, h)) = good_ends settings l e bytes before now xs starts g reads writes h
