-- How far a run has come, from call to call.
use Rattle.std.proofs.Common.{◌≡◌, ℕ, ◌+◌, ◌≤◌, List, [], ◌∷◌, ◌++◌, length, map, arith, refl, sym, ap, ◌∙◌, subst, append_assoc, append-nil, Option, None, Some}
use Rattle.std.specs.List.{concat}
use Rattle.std.specs.Io.KnownBytes.{prepend_known}
use Rattle.std.proofs.lemmas.List.{length-append}
use Rattle.std.proofs.lemmas.List.Folds.{concat-append}
use Rattle.std.proofs.lemmas.List.{map-append}
use Rattle.script_names.specs.Kept.{KeptSet}
use Rattle.statement_answers.specs.Keeping.{grown}
use Rattle.statement_answers.specs.declared.settings.Settings.{Settings}
use Rattle.lash_io.specs.Sinks.{Holds}
use Rattle.lash_io.proofs.Holding.{holds_none, holds_then}
use Rattle.script_pieces.specs.Limits.{script_bytes_limit}
use Rattle.script_pieces.specs.Taking.{Progress, Takes}
use Rattle.lash_io.specs.Faults.{IsFaultCounted, last_count}
use Rattle.lash_command.specs.Answers.{Answer, IsAnswered, AreAnswered, kept_behind, texts_of, pieces_of, Outside, HasCome}

prepended : (xs ys : List ℕ) (known : Option (List ℕ)) → prepend_known xs (prepend_known ys known) ≡ prepend_known (xs ++ ys) known
prepended xs ys None = refl
prepended xs ys (Some known) = ap Some (sym (append_assoc xs ys known))

none_prepended : (known : Option (List ℕ)) → known ≡ prepend_known [] known
none_prepended None = refl
none_prepended (Some known) = refl

-- nothing was taken yet
pub come_none : (settings : Settings) (o : Outside) → HasCome settings o o [] (record { given = 0; held = [] }) 0
come_none settings o = record { answers = []; count = refl; each = tt; keeps = refl; given = refl; taken = none_prepended o.left; most = omega arith; gained = holds_none o.held; read_faults = omega arith; write_faults = omega arith }

-- bytes were taken
pub come_taken : (settings : Settings) (before now : Outside) (kept : List KeptSet) (p q : Progress) (answered : ℕ) (left : Option (List ℕ)) (faults : ℕ) → HasCome settings before now kept p answered → Takes p q now.left left → q.given + length q.held ≤ script_bytes_limit + 1 → now.read_faults ≤ faults → HasCome settings before (record now { left = left; read_faults = faults }) kept q answered
come_taken settings before now kept p q answered left faults h t most rose = record {
  answers = h.answers;
  count = h.count;
  each = h.each;
  keeps = h.keeps;
  given = t.given ∙ h.given;
  taken = h.taken ∙ ap (prepend_known (texts_of h.answers ++ p.held)) t.left ∙ prepended (texts_of h.answers ++ p.held) t.taken left ∙ ap (λ xs. prepend_known xs left) (append_assoc (texts_of h.answers) p.held t.taken ∙ ap (λ xs. texts_of h.answers ++ xs) (sym t.held));
  most = most;
  gained = h.gained;
  read_faults = omega (arith, h.read_faults, rose);
  write_faults = h.write_faults;
}

-- one answer more, where these sets are kept
answered_more : (settings : Settings) (kept : List KeptSet) (given : ℕ) (xs : List Answer) (x : Answer) → AreAnswered settings kept given xs → IsAnswered settings (kept_behind kept xs) (given + length (texts_of xs)) x.text x.asked x.piece → AreAnswered settings kept given (xs ++ x ∷ [])
answered_more settings kept given [] x h a = (subst (λ g. IsAnswered settings kept g x.text x.asked x.piece) (none given) a, tt)
  where
    none : (n : ℕ) → n + 0 ≡ n
    none n = omega arith
answered_more settings kept given (y ∷ ys) x h a = (h.0, answered_more settings (grown kept y.asked) (given + length y.text) ys x h.1 (subst (λ g. IsAnswered settings (kept_behind (grown kept y.asked) ys) g x.text x.asked x.piece) (sums given) a))
  where
    sums : (n : ℕ) → n + length (texts_of (y ∷ ys)) ≡ n + length y.text + length (texts_of ys)
    sums n = omega (arith, length-append y.text (texts_of ys))

kept_more : (kept : List KeptSet) (xs : List Answer) (x : Answer) → kept_behind kept (xs ++ x ∷ []) ≡ grown (kept_behind kept xs) x.asked
kept_more kept [] x = refl
kept_more kept (y ∷ ys) x = kept_more (grown kept y.asked) ys x

one_more : (xs : List (List ℕ)) (x : List ℕ) → concat (xs ++ x ∷ []) ≡ concat xs ++ x
one_more xs x = concat-append xs (x ∷ []) ∙ ap (λ ys. concat xs ++ ys) (append-nil x)

texts_more : (xs : List Answer) (x : Answer) → texts_of (xs ++ x ∷ []) ≡ texts_of xs ++ x.text
texts_more xs x = ap concat (map-append (λ y. y.text) xs (x ∷ [])) ∙ one_more (map (λ y. y.text) xs) x.text

pieces_more : (xs : List Answer) (x : Answer) → pieces_of (xs ++ x ∷ []) ≡ pieces_of xs ++ x.piece
pieces_more xs x = ap concat (map-append (λ y. y.piece) xs (x ∷ [])) ∙ one_more (map (λ y. y.piece) xs) x.piece

-- the statement whose bytes are held was given and answered
pub come_more : (settings : Settings) (before now : Outside) (kept : List KeptSet) (given : ℕ) (x : Answer) (q : Progress) (answered : ℕ) (held : Option (List ℕ)) (faults : ℕ) → HasCome settings before now kept (record { given = given; held = x.text ++ q.held }) answered → q.given ≡ given + length x.text → IsAnswered settings kept given x.text x.asked x.piece → Holds now.held held x.piece → now.write_faults ≤ faults → HasCome settings before (record now { held = held; write_faults = faults }) (grown kept x.asked) q (answered + 1)
come_more settings before now kept given x q answered held faults h gives a holds rose = record {
  answers = h.answers ++ x ∷ [];
  count = length-append h.answers (x ∷ []) ∙ ap (λ n. n + 1) h.count;
  each = answered_more settings [] 0 h.answers x h.each (subst (λ ks. IsAnswered settings ks (0 + length (texts_of h.answers)) x.text x.asked x.piece) h.keeps (subst (λ g. IsAnswered settings kept g x.text x.asked x.piece) (h.given ∙ none (length (texts_of h.answers))) a));
  keeps = ap (λ ks. grown ks x.asked) h.keeps ∙ sym (kept_more [] h.answers x);
  given = gives ∙ ap (λ n. n + length x.text) h.given ∙ sym (length-append (texts_of h.answers) x.text) ∙ ap length (sym (texts_more h.answers x));
  taken = h.taken ∙ ap (λ xs. prepend_known xs now.left) (sym (append_assoc (texts_of h.answers) x.text q.held) ∙ ap (λ xs. xs ++ q.held) (sym (texts_more h.answers x)));
  most = omega (arith, h.most, length-append x.text q.held, gives);
  gained = subst (λ xs. Holds before.held held xs) (sym (pieces_more h.answers x)) (holds_then before.held now.held held (pieces_of h.answers) x.piece h.gained holds);
  read_faults = h.read_faults;
  write_faults = omega (arith, h.write_faults, rose);
}
  where
    none : (n : ℕ) → n ≡ 0 + n
    none n = omega arith

-- nothing of the next statement's piece was written
pub come_kept : (settings : Settings) (before now : Outside) (kept : List KeptSet) (p : Progress) (answered : ℕ) (held : Option (List ℕ)) (faults : ℕ) → HasCome settings before now kept p answered → Holds now.held held [] → now.write_faults ≤ faults → HasCome settings before (record now { held = held; write_faults = faults }) kept p answered
come_kept settings before now kept p answered held faults h holds rose = record {
  answers = h.answers;
  count = h.count;
  each = h.each;
  keeps = h.keeps;
  given = h.given;
  taken = h.taken;
  most = h.most;
  gained = subst (λ xs. Holds before.held held xs) (append-nil (pieces_of h.answers)) (holds_then before.held now.held held (pieces_of h.answers) [] h.gained holds);
  read_faults = h.read_faults;
  write_faults = omega (arith, h.write_faults, rose);
}

-- a fault that was counted since a later count was counted since an earlier one
pub counted_since : (a b c : ℕ) → a ≤ b → IsFaultCounted b c → IsFaultCounted a c
counted_since a b c before counted = record { rose = omega (arith, before, counted.rose, last_count) }
