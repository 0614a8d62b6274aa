-- From what was put to what was answered.
use Rattle.std.proofs.Common.{◌≡◌, ℕ, ◌+◌, ◌≤◌, ◌<◌, List, [], length, refl, sym, ap, ◌∙◌, subst, Bool, true, false, cond, inl, inr}
use Rattle.std.specs.Prelude.{◌⊎◌, ◌↔◌, IsTrue, Option, Result, Ok, Err, OnOk, IfErr, map, ℤ}
use Rattle.std.proofs.lemmas.Bool.{true≢false}
use Rattle.std.proofs.lemmas.List.{length-map}
use Rattle.lash_model.specs.Formulas.{Sort, Formula}
use Rattle.lash_model.specs.Meaning.{Solves}
use Rattle.lash_model.specs.Tables.{Table}
use Rattle.lash_model.specs.Standing.{StandsFor}
use Rattle.automaton_texts.specs.Text.{text_of}
use Rattle.formula_core.specs.Variables.{sorts_of}
use Rattle.canon_text.specs.Heading.{HeadsTable}
use Rattle.canon_text.specs.declared.header.Header.{Header}
use Rattle.set_answers.specs.Agreement.{Agree, Includes}
use Rattle.set_answers.specs.Solving.{IsSolved}
use Rattle.set_answers.specs.Vectors.{IsVectorOf}
use Rattle.fraction_codes.specs.declared.ratio.Ratio.{Ratio}
use Rattle.product_ops.specs.Products.{HaveSameKind}
use Rattle.script_names.specs.Kept.{KeptSet}
use Rattle.lash_io.proofs.Holding.{holds_none}
use Rattle.statement_meaning.specs.Asking.{Asked, Show, Set, Check}
use Rattle.statement_answers.specs.Automata.{cells_of, IsAnswer}
use Rattle.statement_answers.specs.declared.settings.Settings.{Settings}
use Rattle.statement_answers.specs.Keeping.{kept_cells_limit, cells_of_all, IsHeld, Library, IsLibrary, sets_kept}
use Rattle.statement_answers.specs.Pieces.{IsShownAs, IsSolvedAs, IsDecided, IsKeptWith, IsPieceOf, IsSetRefused, IsRefusedAsked, Answered, IsSaid, KeepsSilent, HasNoAutomaton}
use Rattle.statement_answers.specs.declared.errors.Unanswered.{Unanswered}
use Rattle.statement_answers.specs.declared.errors.Unanswered.TheVariants.{Heavy, NotWeak, NoPower, Closure, KeptCells, Fault, Memory}
use Rattle.statement_answers.proofs.Shelving.{automata, cells_alike}
use Rattle.statement_answers.proofs.TableKinds.{diagram_if_whole, kinds_alike}

-- the one line or the other
pub decided : (settings : Settings) (kept : List KeptSet) (asked : Asked) (b : Bool) (line other : List ℕ) (P : Type 0) (before after : Option (List ℕ)) (fb fa : ℕ) {U : Type 0} (r : Result U Unanswered) → (IsTrue b ↔ P) → ((piece : List ℕ) → IsDecided line other P piece → IsPieceOf settings kept asked piece) → IsSaid (cond b line other) before after fb fa r → Answered settings kept asked before after fb fa r
decided settings kept asked b line other P before after fb fa {U = U} r iff gives said = by b refl r said
  where
    right : (b' : Bool) → b ≡ b' → IsDecided line other P (cond b' line other)
    right true q = inl (refl, iff.0 q)
    right false q = inr (refl, λ p. true≢false (sym (iff.1 p) ∙ q))

    by : (b' : Bool) → b ≡ b' → (r : Result U Unanswered) → IsSaid (cond b line other) before after fb fa r → Answered settings kept asked before after fb fa r
    by b' q (Ok u) said = (cond b line other, (gives (cond b line other) (right b refl), said))
    by b' q (Err Heavy) said = absurd said
    by b' q (Err (NotWeak sign whole stem accept reject)) said = absurd said
    by b' q (Err NoPower) said = absurd said
    by b' q (Err (Closure which)) said = absurd said
    by b' q (Err KeptCells) said = absurd said
    by b' q (Err Fault) said = (said.0, (cond b line other, (gives (cond b line other) (right b refl), said.1)))
    by b' q (Err Memory) said = absurd said

-- the base and the variables of a set belong to its automaton
pub answer_heads : (settings : Settings) (vars : List (List ℕ × Sort)) (f : Formula) (t : Table) → IsAnswer settings vars f t
    → HeadsTable settings.base vars t
answer_heads settings vars f t h = record { same_base = sym h.base; one_each = sym h.tracks; whole = diagram_if_whole vars f t h.stands }

-- so does the header that is held with it
pub heads : (settings : Settings) (k : KeptSet) (header : Header) (t : Table) → IsHeld settings k header t → HeadsTable header.base header.vars t
heads settings k header t h =
    subst (λ vs. HeadsTable header.base vs t) (sym h.vars)
    (subst (λ b. HeadsTable b k.vars t) (sym h.base) (answer_heads settings k.vars k.formula t h.answer))

pub shown_as : (settings : Settings) (k : KeptSet) (header : Header) (t : Table) → IsHeld settings k header t → IsShownAs settings k.vars k.formula (text_of header.vars t)
shown_as settings k header t h = record { table = t; answer = h.answer; text = ap (λ vs. text_of vs t) h.vars }

pub solved_as : (settings : Settings) (k : KeptSet) (header : Header) (t : Table) (piece : List ℕ) → IsHeld settings k header t → IsSolved header.vars t piece → IsSolvedAs settings k.vars k.formula piece
solved_as settings k header t piece h s = record { table = t; answer = h.answer; solved = subst (λ vs. IsSolved vs t piece) h.vars s }

-- there is a track for each sort
pub a_track_each : (settings : Settings) (vars : List (List ℕ × Sort)) (f : Formula) (t : Table) → IsAnswer settings vars f t → t.tracks ≡ length (sorts_of vars)
a_track_each settings vars f t h = h.tracks ∙ sym (length-map vars (λ v. v.1))

-- the automata of two sets over one list of sorts
pub same_kind : (settings : Settings) (k l : KeptSet) (t u : Table) → IsAnswer settings k.vars k.formula t → IsAnswer settings l.vars l.formula u
    → sorts_of k.vars ≡ sorts_of l.vars → HaveSameKind t u
same_kind settings k l t u h i same = kinds_alike k.vars k.formula l.formula t u h.stands (subst (λ ss. StandsFor u ss l.formula) (sym same) i.stands)

pub same_tracks : (settings : Settings) (k l : KeptSet) (t u : Table) → IsAnswer settings k.vars k.formula t → IsAnswer settings l.vars l.formula u
    → sorts_of k.vars ≡ sorts_of l.vars → t.tracks ≡ u.tracks
same_tracks settings k l t u h i same = a_track_each settings k.vars k.formula t h ∙ ap length same ∙ sym (a_track_each settings l.vars l.formula u i)

-- what is told of the sets of two tables, and of one
abbrev pub TellsAgreement : Table → Table → Bool → Type 0
TellsAgreement t u truth = (sorts : List Sort) (f g : Formula) → t.base ≡ u.base → t.tracks ≡ length sorts → u.tracks ≡ length sorts
    → StandsFor t sorts f → StandsFor u sorts g → (IsTrue truth ↔ Agree sorts f g)

abbrev pub TellsInclusion : Table → Table → Bool → Type 0
TellsInclusion t u truth = (sorts : List Sort) (f g : Formula) → t.tracks ≡ length sorts → StandsFor t sorts f → StandsFor u sorts g
    → (IsTrue truth ↔ Includes sorts f g)

abbrev pub TellsMembership : Table → List Ratio → Bool → Type 0
TellsMembership t values inside = (sorts : List Sort) (f : Formula) → length values ≡ length sorts → StandsFor t sorts f
    → (ns : List ℤ) (d : ℕ) → IsVectorOf values ns d → (IsTrue inside ↔ Solves sorts f ns d)

-- so it is told of sets that are kept
pub compared : (settings : Settings) (k l : KeptSet) (t u : Table) (truth : Bool) → IsAnswer settings k.vars k.formula t
    → IsAnswer settings l.vars l.formula u → sorts_of k.vars ≡ sorts_of l.vars
    → TellsAgreement t u truth → (IsTrue truth ↔ Agree (sorts_of k.vars) k.formula l.formula)
compared settings k l t u truth h i same says =
    says (sorts_of k.vars) k.formula l.formula (h.base ∙ sym i.base) (a_track_each settings k.vars k.formula t h)
    (a_track_each settings l.vars l.formula u i ∙ ap length (sym same)) h.stands (subst (λ ss. StandsFor u ss l.formula) (sym same) i.stands)

pub included : (settings : Settings) (k l : KeptSet) (t u : Table) (truth : Bool) → IsAnswer settings k.vars k.formula t
    → IsAnswer settings l.vars l.formula u → sorts_of k.vars ≡ sorts_of l.vars
    → TellsInclusion t u truth → (IsTrue truth ↔ Includes (sorts_of k.vars) k.formula l.formula)
included settings k l t u truth h i same says =
    says (sorts_of k.vars) k.formula l.formula (a_track_each settings k.vars k.formula t h) h.stands
    (subst (λ ss. StandsFor u ss l.formula) (sym same) i.stands)

pub tested : (settings : Settings) (k : KeptSet) (header : Header) (t : Table) (values : List Ratio) (inside : Bool) → IsHeld settings k header t
    → length values ≡ length k.vars → TellsMembership t values inside
    → (ns : List ℤ) (d : ℕ) → IsVectorOf values ns d → (IsTrue inside ↔ Solves (sorts_of k.vars) k.formula ns d)
tested settings k header t values inside h count says = says (sorts_of k.vars) k.formula (count ∙ sym (length-map k.vars (λ v. v.1))) h.answer.stands

-- a statement about one set, which has no automaton
pub none_silent : (settings : Settings) (kept : List KeptSet) (asked : Asked) (vars : List (List ℕ × Sort)) (f : Formula) (U : Type 0) (e : Unanswered)
    → ((u : Unanswered) → IsSetRefused settings vars f u → IsRefusedAsked settings kept asked u)
    → HasNoAutomaton settings vars f e → KeepsSilent settings kept asked {U = U} (Err e)
none_silent settings kept asked vars f U Heavy refused h = refused Heavy h
none_silent settings kept asked vars f U (NotWeak sign whole stem accept reject) refused h = refused (NotWeak sign whole stem accept reject) h
none_silent settings kept asked vars f U NoPower refused h = absurd h
none_silent settings kept asked vars f U (Closure which) refused h = absurd h
none_silent settings kept asked vars f U KeptCells refused h = absurd h
none_silent settings kept asked vars f U Fault refused h = h
none_silent settings kept asked vars f U Memory refused h = tt

-- a set that was put, or not
pub put_silent : (l : Library) (name : List ℕ) (vars : List (List ℕ × Sort)) (f : Formula) (t : Table) {U : Type 0} (r : Result U Unanswered) → IsLibrary l → IsAnswer l.settings vars f t → OnOk r (l.cells + cells_of t ≤ kept_cells_limit) → IfErr r (λ e. e ≡ KeptCells → kept_cells_limit < l.cells + cells_of t) → IfErr r (λ e. (e ≡ KeptCells) ⊎ (e ≡ Memory)) → KeepsSilent l.settings (sets_kept l) (Set name vars f) r
put_silent l name vars f t {U = U} r h a within over only = by r within over only
  where
    all : l.cells ≡ cells_of_all (map (λ e. e.1) l.held)
    all = h.count ∙ cells_alike l.held

    with_it : (P : ℕ → Type 0) → P (l.cells + cells_of t) → IsKeptWith l.settings (sets_kept l) vars f P
    with_it P p = record {
      automata = map (λ e. e.1) l.held;
      have = automata l.settings (sets_kept l) l.held h.each;
      table = t;
      answer = a;
      cells = subst (λ n. P (n + cells_of t)) all p;
    }

    kept_or_memory : (e : Unanswered) → (e ≡ KeptCells → kept_cells_limit < l.cells + cells_of t) → (e ≡ KeptCells) ⊎ (e ≡ Memory) → KeepsSilent l.settings (sets_kept l) (Set name vars f) {U = U} (Err e)
    kept_or_memory e over (inl q) = subst (λ e. KeepsSilent l.settings (sets_kept l) (Set name vars f) {U = U} (Err e)) (sym q) (with_it (λ n. kept_cells_limit < n) (over q))
    kept_or_memory e over (inr q) = subst (λ e. KeepsSilent l.settings (sets_kept l) (Set name vars f) {U = U} (Err e)) (sym q) tt

    by : (r : Result U Unanswered) → OnOk r (l.cells + cells_of t ≤ kept_cells_limit) → IfErr r (λ e. e ≡ KeptCells → kept_cells_limit < l.cells + cells_of t) → IfErr r (λ e. (e ≡ KeptCells) ⊎ (e ≡ Memory)) → KeepsSilent l.settings (sets_kept l) (Set name vars f) r
    by (Ok u) within over only = (refl, with_it (λ n. n ≤ kept_cells_limit) within)
    by (Err e) within over only = kept_or_memory e over only

-- what is shown rests on no kept set
pub shown : (s settings : Settings) (kept : List KeptSet) (vars : List (List ℕ × Sort)) (f : Formula) (before after : Option (List ℕ)) (fb fa : ℕ) {U : Type 0} (r : Result U Unanswered) → s ≡ settings → Answered s [] (Show vars f) before after fb fa r → Answered settings kept (Show vars f) before after fb fa r
shown s settings kept vars f before after fb fa {U = U} (Ok u) e h = subst (λ x. Answered x kept (Show vars f) before after fb fa {U = U} (Ok u)) e h
shown s settings kept vars f before after fb fa {U = U} (Err Heavy) e h = subst (λ x. Answered x kept (Show vars f) before after fb fa {U = U} (Err Heavy)) e h
shown s settings kept vars f before after fb fa {U = U} (Err (NotWeak sign whole stem accept reject)) e h = subst (λ x. Answered x kept (Show vars f) before after fb fa {U = U} (Err (NotWeak sign whole stem accept reject))) e h
shown s settings kept vars f before after fb fa {U = U} (Err NoPower) e h = h
shown s settings kept vars f before after fb fa {U = U} (Err (Closure which)) e h = h
shown s settings kept vars f before after fb fa {U = U} (Err KeptCells) e h = h
shown s settings kept vars f before after fb fa {U = U} (Err Fault) e h = subst (λ x. Answered x kept (Show vars f) before after fb fa {U = U} (Err Fault)) e h
shown s settings kept vars f before after fb fa {U = U} (Err Memory) e h = h

-- and so does what is checked
pub checked : (s settings : Settings) (kept : List KeptSet) (f : Formula) (before after : Option (List ℕ)) (fb fa : ℕ) {U : Type 0} (r : Result U Unanswered)
    → s ≡ settings → Answered s [] (Check f) before after fb fa r → Answered settings kept (Check f) before after fb fa r
checked s settings kept f before after fb fa {U = U} (Ok u) e h = subst (λ x. Answered x kept (Check f) before after fb fa {U = U} (Ok u)) e h
checked s settings kept f before after fb fa {U = U} (Err Heavy) e h = subst (λ x. Answered x kept (Check f) before after fb fa {U = U} (Err Heavy)) e h
checked s settings kept f before after fb fa {U = U} (Err (NotWeak sign whole stem accept reject)) e h = subst (λ x. Answered x kept (Check f) before after fb fa {U = U} (Err (NotWeak sign whole stem accept reject))) e h
checked s settings kept f before after fb fa {U = U} (Err NoPower) e h = h
checked s settings kept f before after fb fa {U = U} (Err (Closure which)) e h = h
checked s settings kept f before after fb fa {U = U} (Err KeptCells) e h = h
checked s settings kept f before after fb fa {U = U} (Err Fault) e h = subst (λ x. Answered x kept (Check f) before after fb fa {U = U} (Err Fault)) e h
checked s settings kept f before after fb fa {U = U} (Err Memory) e h = h

-- a statement that writes nothing leaves the sink as it was
pub kept_silently : (settings : Settings) (kept : List KeptSet) (asked : Asked) (held : Option (List ℕ)) (faults : ℕ) {U : Type 0} (r : Result U Unanswered) → KeepsSilent settings kept asked r → Answered settings kept asked held held faults faults r
kept_silently settings kept asked held faults (Ok u) h = ([], (h, holds_none held))
kept_silently settings kept asked held faults (Err Heavy) h = (h, holds_none held)
kept_silently settings kept asked held faults (Err (NotWeak sign whole stem accept reject)) h = (h, holds_none held)
kept_silently settings kept asked held faults (Err NoPower) h = (h, holds_none held)
kept_silently settings kept asked held faults (Err (Closure which)) h = (h, holds_none held)
kept_silently settings kept asked held faults (Err KeptCells) h = (h, holds_none held)
kept_silently settings kept asked held faults (Err Fault) h = absurd h
kept_silently settings kept asked held faults (Err Memory) h = holds_none held
