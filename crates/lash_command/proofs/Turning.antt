-- What a turn says: a statement was answered, or the run ends.
use Rattle.std.proofs.Common.{◌≡◌, ℕ, ◌+◌, ◌≤◌, List, [], ◌++◌, length, arith, inl, inr, refl, subst, Option, None, Some}
use Rattle.std.specs.Prelude.{Ok, Err}
use Rattle.lash_io.specs.Sinks.{Holds}
use Rattle.lash_io.proofs.Holding.{holds_none}
use Rattle.script_statements.specs.Statements.{StatementShape}
use Rattle.script_tokens.specs.Lexing.{tokens_of}
use Rattle.std.proofs.lemmas.List.{length-append}
use Rattle.script_pieces.specs.Limits.{script_bytes_limit}
use Rattle.script_pieces.specs.Taking.{Progress}
use Rattle.script_names.specs.Kept.{KeptSet}
use Rattle.statement_meaning.specs.Asking.{Asked, asked_of}
use Rattle.statement_meaning.specs.Judging.{IsJudged, IsStatementWithin}
use Rattle.statement_meaning.specs.declared.statement.Statement.{Statement}
use Rattle.statement_answers.specs.Keeping.{grown}
use Rattle.statement_answers.specs.declared.settings.Settings.{Settings}
use Rattle.statement_answers.specs.Pieces.{IsPieceOf, IsRefusedAsked, IsTooMuch, IsPowerless, IsPassedByClosure, Answered}
use Rattle.statement_answers.specs.declared.errors.Unanswered.{Unanswered}
use Rattle.statement_answers.specs.declared.errors.Unanswered.TheVariants as answering
use Rattle.script_parse.specs.Answers.{OfStatement, IsNext, IsFinished, IsStopped, IsCause, Says}
use Rattle.script_parse.specs.declared.errors.ScriptError.{ScriptError}
use Rattle.script_parse.specs.declared.errors.ScriptError.TheVariants as reading
use Rattle.lash_command.specs.Answers.{IsAsking, IsAnswered, Outside, HasCome, StopsAt, IsNextAsked, Ends, unread_ending, unanswered_ending}
use Rattle.lash_command.proofs.Coming.{come_taken, come_more, come_kept, counted_since}

-- what the reader says of a statement, and of the end
pub next_of : (base : ℕ) (kept : List KeptSet) (p q : Progress) (lb la : Option (List ℕ)) (fb fa : ℕ) (o : Option Statement) (s : Statement) → o ≡ Some s → Says base kept p q lb la fb fa (Ok o) → IsNext base kept p q lb la s
next_of base kept p q lb la fb fa None s e h = absurd (cc)
next_of base kept p q lb la fb fa (Some t) s e h = subst (λ u. IsNext base kept p q lb la u) (cc) h

pub finished_of : (base : ℕ) (kept : List KeptSet) (p q : Progress) (lb la : Option (List ℕ)) (fb fa : ℕ) (o : Option Statement) → o ≡ None → Says base kept p q lb la fb fa (Ok o) → IsFinished p q lb la
finished_of base kept p q lb la fb fa None e h = h
finished_of base kept p q lb la fb fa (Some t) e h = absurd (cc)

-- the reader had what was outside before, and left this
pub record Reads (settings : Settings) (base : ℕ) (kept : List KeptSet) (p q : Progress) (before now : Outside) (faults n : ℕ) : Type 0 where
  pub same : base ≡ settings.base
  pub come : HasCome settings before now kept p n
  pub most : q.given + length q.held ≤ script_bytes_limit + 1
  pub rose : now.read_faults ≤ faults

-- what the statement that was given asks
asking : (settings : Settings) (base : ℕ) (kept : List KeptSet) (shape : StatementShape) (s : Statement) → base ≡ settings.base → IsJudged base kept shape s → IsAsking settings kept (asked_of s) shape
asking settings base kept shape s same h = record { names = h.names; within = subst (λ b. IsStatementWithin b kept shape) same h.within; asks = h.asks }

asks : (settings : Settings) (base : ℕ) (kept : List KeptSet) (p q : Progress) (lb la : Option (List ℕ)) (s : Statement) → base ≡ settings.base → (h : IsNext base kept p q lb la s) → OfStatement (tokens_of p.given h.text) (IsAsking settings kept (asked_of s))
asks settings base kept p q lb la s same h = record { shape = h.asks.shape; spells = h.asks.spells; is = asking settings base kept h.asks.shape s same h.asks.is }

answered : (settings : Settings) (base : ℕ) (kept : List KeptSet) (p q : Progress) (lb la : Option (List ℕ)) (s : Statement) (piece : List ℕ) → base ≡ settings.base → (h : IsNext base kept p q lb la s) → IsPieceOf settings kept (asked_of s) piece → IsAnswered settings kept p.given h.text (asked_of s) piece
answered settings base kept p q lb la s piece same h is = record {
  statement = record { whole = h.whole; within = h.within };
  asking = asks settings base kept p q lb la s same h;
  is = is;
}

as_many : (given : ℕ) (text : List ℕ) (q : Progress) → q.given + length q.held ≤ script_bytes_limit + 1 → q.given ≡ given + length text → given + length (text ++ q.held) ≤ script_bytes_limit + 1
as_many given text q most gives = omega (arith, most, length-append text q.held, gives)

-- the statement's bytes are held
held_statement : (settings : Settings) (base : ℕ) (kept : List KeptSet) (p q : Progress) (before now : Outside) (left : Option (List ℕ)) (faults n : ℕ) (s : Statement) → Reads settings base kept p q before now faults n → (h : IsNext base kept p q now.left left s) → HasCome settings before (record now { left = left; read_faults = faults }) kept (record { given = p.given; held = h.text ++ q.held }) n
held_statement settings base kept p q before now left faults n s r h = come_taken settings before now kept p (record { given = p.given; held = h.text ++ q.held }) n left faults r.come h.taken (as_many p.given h.text q r.most h.given) r.rose

-- a statement was answered
pub turned : (settings : Settings) (base : ℕ) (kept : List KeptSet) (p q : Progress) (before now : Outside) (left held : Option (List ℕ)) (faults write_faults n : ℕ) (s : Statement) {U : Type 0} (u : U) → Reads settings base kept p q before now faults n → IsNext base kept p q now.left left s → now.write_faults ≤ write_faults → Answered settings kept (asked_of s) now.held held now.write_faults write_faults (Ok u) → HasCome settings before (record { left = left; read_faults = faults; held = held; write_faults = write_faults }) (grown kept (asked_of s)) q (n + 1)
turned settings base kept p q before now left held faults write_faults n s u r h rose shown =
    come_more settings before (record now { left = left; read_faults = faults }) kept p.given (record { text = h.text; asked = asked_of s; piece = shown.0 }) q n held write_faults
    (held_statement settings base kept p q before now left faults n s r h) h.given
    (answered settings base kept p q now.left left s shown.0 r.same h shown.1.0) shown.1.1 rose

-- the run stops at the statement that was given, of which nothing was written
stops_at_it : (settings : Settings) (base : ℕ) (kept : List KeptSet) (p q : Progress) (before now : Outside) (left held : Option (List ℕ)) (faults write_faults n : ℕ) (s : Statement) (P : List KeptSet → Asked → Type 0) → Reads settings base kept p q before now faults n → IsNext base kept p q now.left left s → now.write_faults ≤ write_faults → P kept (asked_of s) → Holds now.held held [] → StopsAt settings before (record { left = left; read_faults = faults; held = held; write_faults = write_faults }) (n + 1) (IsNextAsked settings P)
stops_at_it settings base kept p q before now left held faults write_faults n s P r h rose is none = (
  n,
  (
    refl,
    record {
      kept = kept;
      progress = record { given = p.given; held = h.text ++ q.held };
      come = come_kept settings before (record now { left = left; read_faults = faults }) kept (record { given = p.given; held = h.text ++ q.held }) n held write_faults (held_statement settings base kept p q before now left faults n s r h) none rose;
      is = record { text = h.text; behind = q.held; held = refl; statement = record { whole = h.whole; within = h.within }; asked = asked_of s; asking = asks settings base kept p q now.left left s r.same h; is = is };
    },
  ),
)

-- a statement was not answered
pub unanswered_ends : (settings : Settings) (base : ℕ) (kept : List KeptSet) (p q : Progress) (before now : Outside) (left held : Option (List ℕ)) (faults write_faults n : ℕ) (s : Statement) (U : Type 0) (cause : Unanswered) → Reads settings base kept p q before now faults n → IsNext base kept p q now.left left s → now.write_faults ≤ write_faults → Answered settings kept (asked_of s) now.held held now.write_faults write_faults {U = U} (Err cause) → Ends settings (unanswered_ending (n + 1) cause) before (record { left = left; read_faults = faults; held = held; write_faults = write_faults })
unanswered_ends settings base kept p q before now left held faults write_faults n s U answering.Heavy r h rose shown =
    stops_at_it settings base kept p q before now left held faults write_faults n s (λ ks a. IsRefusedAsked settings ks a answering.Heavy) r h rose shown.0 shown.1
unanswered_ends settings base kept p q before now left held faults write_faults n s U (answering.NotWeak sign whole stem accept reject) r h rose shown =
    let e : Unanswered = answering.NotWeak sign whole stem accept reject in
    stops_at_it settings base kept p q before now left held faults write_faults n s (λ ks a. IsRefusedAsked settings ks a e) r h rose shown.0 shown.1
unanswered_ends settings base kept p q before now left held faults write_faults n s U answering.NoPower r h rose shown = stops_at_it settings base kept p q before now left held faults write_faults n s IsPowerless r h rose shown.0 shown.1
unanswered_ends settings base kept p q before now left held faults write_faults n s U (answering.Closure which) r h rose shown = inr (inr (stops_at_it settings base kept p q before now left held faults write_faults n s (IsPassedByClosure settings which) r h rose shown.0 shown.1))
unanswered_ends settings base kept p q before now left held faults write_faults n s U answering.KeptCells r h rose shown = inr (inl (refl, stops_at_it settings base kept p q before now left held faults write_faults n s (IsTooMuch settings) r h rose shown.0 shown.1))
unanswered_ends settings base kept p q before now left held faults write_faults n s U answering.Fault r h rose shown = record {
  counted = counted_since before.write_faults now.write_faults write_faults r.come.write_faults shown.0;
  between = now.held;
  stops = (
    n,
    record {
      kept = kept;
      progress = record { given = p.given; held = h.text ++ q.held };
      come = come_kept settings before (record now { left = left; read_faults = faults }) kept (record { given = p.given; held = h.text ++ q.held }) n now.held write_faults (held_statement settings base kept p q before now left faults n s r h) (holds_none now.held) rose;
      is = record {
        text = h.text;
        behind = q.held;
        asked = asked_of s;
        piece = shown.1.0;
        held = refl;
        answer = answered settings base kept p q now.left left s shown.1.0 r.same h shown.1.1.0;
        part = shown.1.1.1;
      };
    },
  );
}
unanswered_ends settings base kept p q before now left held faults write_faults n s U answering.Memory r h rose shown = (
  n,
  record {
    kept = kept;
    progress = record { given = p.given; held = h.text ++ q.held };
    come = come_kept settings before (record now { left = left; read_faults = faults }) kept (record { given = p.given; held = h.text ++ q.held }) n held write_faults (held_statement settings base kept p q before now left faults n s r h) shown rose;
    is = tt;
  },
)

-- no statement was given
stopped : (settings : Settings) (base : ℕ) (kept : List KeptSet) (p q : Progress) (before now : Outside) (left : Option (List ℕ)) (faults n : ℕ) (e : ScriptError) → Reads settings base kept p q before now faults n → IsStopped base kept p q now.left left now.read_faults faults e → HasCome settings before (record now { left = left; read_faults = faults }) kept q n
stopped settings base kept p q before now left faults n e r h = come_taken settings before now kept p q n left faults r.come h.taken r.most r.rose

pub unread_ends : (settings : Settings) (base : ℕ) (kept : List KeptSet) (p q : Progress) (before now : Outside) (left : Option (List ℕ)) (faults n : ℕ) (e : ScriptError) → Reads settings base kept p q before now faults n → IsStopped base kept p q now.left left now.read_faults faults e → Ends settings (unread_ending (n + 1) e) before (record now { left = left; read_faults = faults })
unread_ends settings base kept p q before now left faults n reading.Read r h = (
  n,
  record {
    kept = kept;
    progress = q;
    come = stopped settings base kept p q before now left faults n reading.Read r h;
    is = record { counted = counted_since before.read_faults now.read_faults faults r.come.read_faults h.cause.counted; needed = h.cause.needed };
  },
)
unread_ends settings base kept p q before now left faults n (reading.Limit which) r h = inl (n, (refl, record { kept = kept; progress = q; come = stopped settings base kept p q before now left faults n (reading.Limit which) r h; is = subst (λ b. IsCause b kept q left now.read_faults faults (reading.Limit which)) r.same h.cause }))
unread_ends settings base kept p q before now left faults n (reading.Syntax place) r h = (n, (refl, record { kept = kept; progress = q; come = stopped settings base kept p q before now left faults n (reading.Syntax place) r h; is = subst (λ b. IsCause b kept q left now.read_faults faults (reading.Syntax place)) r.same h.cause }))
unread_ends settings base kept p q before now left faults n (reading.Name fault place) r h = (n, (refl, record { kept = kept; progress = q; come = stopped settings base kept p q before now left faults n (reading.Name fault place) r h; is = subst (λ b. IsCause b kept q left now.read_faults faults (reading.Name fault place)) r.same h.cause }))
unread_ends settings base kept p q before now left faults n reading.Memory r h = (n, record { kept = kept; progress = q; come = stopped settings base kept p q before now left faults n reading.Memory r h; is = tt })
