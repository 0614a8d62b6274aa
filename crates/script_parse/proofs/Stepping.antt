-- From what was fetched, and what a piece answers, to what the reader says.
use Rattle.std.proofs.Common.{◌≡◌, ◌≤◌, ℕ, ◌+◌, List, [], ◌++◌, length, take, drop, Bool, true, false, refl, sym, ap, ap₂, ◌∙◌, subst, inl, inr, append-nil, Option, None, Some}
use Rattle.std.specs.Prelude.{Result, Ok, Err, IfSome, unwrap_or}
use Rattle.std.specs.Io.KnownBytes.{prepend_known, IsAtEnd}
use Rattle.std.proofs.lemmas.List.{take-append-drop, take-append-le, length-take-le}
use Rattle.std.proofs.Math.Seq.{take-length}
use Rattle.std.proofs.lemmas.Bool.{true≢false}
use Rattle.script_tokens.specs.Tokens.{PlacedToken}
use Rattle.script_tokens.specs.Lexing.{tokens_of}
use Rattle.script_pieces.specs.Cuts.{statement_length, piece_length}
use Rattle.script_pieces.specs.Limits.{IsWithin}
use Rattle.script_pieces.specs.Taking.{Progress, Takes, IsNeeded, buffer_bytes}
use Rattle.script_pieces.specs.Answers.{IsStatement, IsRest, IsFailure}
use Rattle.script_pieces.specs.declared.errors.PieceError.{PieceError}
use Rattle.script_pieces.specs.declared.errors.PieceError.TheVariants.{Read as FaultyRead, StatementBytes as LongStatement, ScriptBytes as LongScript}
use Rattle.script_pieces.proofs.Cutting.{stable}
use Rattle.script_pieces.proofs.OneCut.{alone}
use Rattle.script_statements.specs.Statements.{StatementShape}
use Rattle.script_names.specs.Kept.{KeptSet}
use Rattle.statement_meaning.specs.Judging.{IsJudged}
use Rattle.statement_meaning.specs.declared.statement.Statement.{Statement as DeclaredStatement}
use Rattle.script_parse.specs.Answers.{Spells, OfStatement, AreRefused, State, IsNext, IsPiece, IsCause, IsStopped, Says, GivesStatement, EndsRest, error_of}
use Rattle.script_parse.specs.declared.errors.ScriptError.{ScriptError}
use Rattle.script_parse.specs.declared.errors.ScriptError.TheVariants.{Read, Limit, Syntax, Name, Memory}
use Rattle.script_parse.proofs.Ending.{ends, rest_has_none, statement_has_one, whole_has_token}

-- a rest spells no statement
pub rest_spells_none : (place : ℕ) (bs : List ℕ) (ts : List PlacedToken) (shape : StatementShape) → statement_length false bs ≡ None → ts ≡ tokens_of place bs → Spells ts shape → ⊥
rest_spells_none place bs ts shape unended is h = true≢false (sym (statement_has_one h.tree) ∙ ap ends (sym h.read.spelled) ∙ ap ends is ∙ rest_has_none place bs unended)

-- every error but that of memory
abbrev is_told : ScriptError → Bool
is_told Read = true
is_told (Limit which) = true
is_told (Syntax place) = true
is_told (Name fault place) = true
is_told Memory = false

no_memory : (e : ScriptError) → is_told e ≡ true → e ≡ Memory → ⊥
no_memory e told is = true≢false (sym told ∙ ap is_told is)

-- the first piece is within the limits of bytes, and without a token it is refused for want of memory alone
record IsFit (p : Progress) (piece : List ℕ) (e : ScriptError) : Type 0 where
  pub within : IsWithin p.given (length piece)
  pub some : tokens_of p.given piece ≡ [] → e ≡ Memory

-- the first statement of the bytes held is their first piece
statement_piece : (p : Progress) (left : Option (List ℕ)) (size : ℕ) → IsStatement p size → IsPiece p left (take size p.held)
statement_piece p left size h = record { held = ap (λ n. take n p.held) (sized p.held h.whole); ahead = by left }
  where
    sized : (bytes : List ℕ) → statement_length false bytes ≡ Some size → size ≡ piece_length bytes
    sized bytes e = ap (λ o. unwrap_or o (length bytes)) (sym e)

    by : (left : Option (List ℕ)) → IfSome (prepend_known p.held left) (λ bytes. take size p.held ≡ take (piece_length bytes) bytes)
    by None = tt
    by (Some more) = sym (take-append-le size p.held more h.inside) ∙ ap (λ n. take n (p.held ++ more)) (sized (p.held ++ more) (stable false p.held more size h.whole))

-- a statement that is held has a token
statement_fit : (p : Progress) (size : ℕ) (e : ScriptError) → IsStatement p size → IsFit p (take size p.held) e
statement_fit p size e h = let long : length (take size p.held) ≡ size = length-take-le size p.held h.inside in record { within = subst (λ n. IsWithin p.given n) (sym long) h.within; some = λ none. absurd (whole_has_token p.given (take size p.held) size (alone false p.held size h.whole) none) }

-- a rest is a piece
rest_piece : (p : Progress) (left : Option (List ℕ)) → IsRest p left → IsPiece p left p.held
rest_piece p left h = record { held = all p.held h.unended.unended; ahead = by left h.ended }
  where
    all : (bytes : List ℕ) → statement_length false bytes ≡ None → bytes ≡ take (piece_length bytes) bytes
    all bytes e = sym (take-length bytes) ∙ ap (λ o. take (unwrap_or o (length bytes)) bytes) (sym e)

    by : (left : Option (List ℕ)) → IsAtEnd left → IfSome (prepend_known p.held left) (λ bytes. p.held ≡ take (piece_length bytes) bytes)
    by None e = tt
    by (Some more) e = subst (λ bytes. p.held ≡ take (piece_length bytes) bytes) (sym (append-nil p.held) ∙ ap (λ xs. p.held ++ xs) (sym e)) (all p.held h.unended.unended)

-- the refusal of the first piece is the cause
refused_first : (base : ℕ) (kept : List KeptSet) (p : Progress) (left : Option (List ℕ)) (before after : ℕ) (piece : List ℕ) (e : ScriptError) → IsPiece p left piece → IsFit p piece e → AreRefused base kept (p.given + length piece) (tokens_of p.given piece) e → IsCause base kept p left before after e
refused_first base kept p left before after piece Read f fit r = absurd r
refused_first base kept p left before after piece (Limit which) f fit r = inr (inr (record { piece = piece; first = f; within = fit.within; some = λ none. no_memory (Limit which) refl (fit.some none); refused = r }))
refused_first base kept p left before after piece (Syntax place) f fit r = record { piece = piece; first = f; within = fit.within; some = λ none. no_memory (Syntax place) refl (fit.some none); refused = r }
refused_first base kept p left before after piece (Name fault place) f fit r = record { piece = piece; first = f; within = fit.within; some = λ none. no_memory (Name fault place) refl (fit.some none); refused = r }
refused_first base kept p left before after piece Memory f fit r = tt

-- what was fetched
pub record IsFetched (before fetched : Progress) (left_before left_after : Option (List ℕ)) : Type 0 where
  pub taken : Takes before fetched left_before left_after
  pub needed : IsNeeded before fetched

-- a piece that was not fetched
pub says_failure : (base : ℕ) (kept : List KeptSet) (before fetched : Progress) (left_before left_after : Option (List ℕ)) (fb fa : ℕ) (e : PieceError) → IsFetched before fetched left_before left_after → IsFailure e fetched left_after fb fa → IsStopped base kept before fetched left_before left_after fb fa (error_of e)
says_failure base kept before fetched lb la fb fa FaultyRead h f = record { taken = h.taken; needed = h.needed; cause = f }
says_failure base kept before fetched lb la fb fa LongStatement h f = record { taken = h.taken; needed = h.needed; cause = inl (refl, f) }
says_failure base kept before fetched lb la fb fa LongScript h f = record { taken = h.taken; needed = h.needed; cause = inr (inl (refl, f)) }

-- a rest
pub says_rest : (base : ℕ) (kept : List KeptSet) (before fetched : Progress) (left_before left_after : Option (List ℕ)) (fb fa : ℕ) (r : Result (Option DeclaredStatement) ScriptError) → IsFetched before fetched left_before left_after → IsRest fetched left_after → EndsRest kept (record { base = base; progress = fetched; live = false }) r → Says base kept before fetched left_before left_after fb fa r
says_rest base kept before fetched lb la fb fa (Ok None) h rest is = record { taken = h.taken; needed = h.needed; rest = rest; blank = is }
says_rest base kept before fetched lb la fb fa (Ok (Some s)) h rest is = absurd is
says_rest base kept before fetched lb la fb fa (Err e) h rest is = record { taken = h.taken; needed = h.needed; cause = refused_first base kept fetched la fb fa fetched.held e (rest_piece fetched la rest) (record { within = rest.unended.within; some = is.0 }) is.1 }

-- what was needed is told by the bytes held
needed_bytes : (before fetched : Progress) (given : ℕ) (held : List ℕ) → fetched.held ≡ held → IsNeeded before fetched → IsNeeded before (record { given = given; held = held })
needed_bytes before fetched given held e (inl same) = inl (sym e ∙ same)
needed_bytes before fetched given held e (inr grew) = inr (record { earlier = grew.earlier; last = grew.last; grew = sym e ∙ grew.grew; was_open = grew.was_open; room = subst (λ xs. length xs ≤ buffer_bytes) e grew.room })

-- a statement
pub says_statement : (base : ℕ) (kept : List KeptSet) (before fetched : Progress) (after : State) (left_before left_after : Option (List ℕ)) (fb fa size : ℕ) (r : Result (Option DeclaredStatement) ScriptError) → IsFetched before fetched left_before left_after → IsStatement fetched size → GivesStatement kept (record { base = base; progress = fetched; live = false }) size after r → Says base kept before after.progress left_before left_after fb fa r
says_statement base kept before fetched after lb la fb fa size (Ok None) h s is = absurd is
says_statement base kept before fetched after lb la fb fa size (Ok (Some t)) h s (gives, asks) =
    let text = take size fetched.held in
    let long : length text ≡ size = length-take-le size fetched.held s.inside in
    let joined : text ++ drop size fetched.held ≡ fetched.held = take-append-drop size fetched.held in
    subst (λ (x : State). IsNext base kept before x.progress lb la t) (sym gives) (record {
      text = text;
      taken = record { taken = h.taken.taken; given = refl; held = joined ∙ h.taken.held; left = h.taken.left };
      given = ap₂ (λ x y. x + y) h.taken.given (sym long);
      needed = needed_bytes before fetched before.given (text ++ drop size fetched.held) (sym joined) h.needed;
      whole = alone false fetched.held size s.whole ∙ ap Some (sym long);
      within = subst (λ n. IsWithin before.given n) (sym long) (subst (λ g. IsWithin g size) h.taken.given s.within);
      asks = subst (λ g. OfStatement (tokens_of g text) (λ shape. IsJudged base kept shape t)) h.taken.given asks;
    })
says_statement base kept before fetched after lb la fb fa size (Err e) h s (stays, refused) = subst (λ (x : State). IsStopped base kept before x.progress lb la fb fa e) (sym stays) (record { taken = h.taken; needed = h.needed; cause = refused_first base kept fetched la fb fa (take size fetched.held) e (statement_piece fetched la size s) (statement_fit fetched size e s) refused })

-- a statement that is held is given
pub gives : (kept : List KeptSet) (before : State) (after : Progress) (size : ℕ) (s : DeclaredStatement) (given : ℕ) (piece : List ℕ) → after.given ≡ before.progress.given + size → after.held ≡ drop size before.progress.held → given ≡ before.progress.given → piece ≡ take size before.progress.held → OfStatement (tokens_of given piece) (λ shape. IsJudged before.base kept shape s) → GivesStatement kept before size (record { base = before.base; progress = after; live = true }) (Ok (Some s))
gives kept before after size s given piece more left at is asks = (ap₂ (λ g h. record { base = before.base; progress = record { given = g; held = h }; live = true }) more left, subst (λ xs. OfStatement (tokens_of before.progress.given xs) (λ shape. IsJudged before.base kept shape s)) is (subst (λ g. OfStatement (tokens_of g piece) (λ shape. IsJudged before.base kept shape s)) at asks))
