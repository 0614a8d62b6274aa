-- How bytes are taken read by read.
use Rattle.std.proofs.Common.{◌≡◌, ◌≤◌, ℕ, false, List, [], ◌++◌, length, refl, sym, ap, ◌∙◌, arith, Option, Some, None, append_assoc}
use Rattle.std.proofs.lemmas.List.{append-nil}
use Rattle.std.specs.Io.KnownBytes.{prepend_known}
use Rattle.script_pieces.specs.Cuts.{statement_length}
use Rattle.script_pieces.specs.Taking.{Progress, IsOpen, Takes, GrewOpen, buffer_bytes}
use Rattle.script_pieces.proofs.Opening.{open_earlier}

prepend_none : (known : Option (List ℕ)) → known ≡ prepend_known [] known
prepend_none None = refl
prepend_none (Some xs) = refl

prepend_both : (xs ys : List ℕ) (known : Option (List ℕ)) → prepend_known xs (prepend_known ys known) ≡ prepend_known (xs ++ ys) known
prepend_both xs ys None = refl
prepend_both xs ys (Some zs) = ap (λ l. Some l) (sym (append_assoc xs ys zs))

pub takes_none : (p : Progress) (left : Option (List ℕ)) → Takes p p left left
takes_none p left = record { taken = []; given = refl; held = sym (append-nil p.held); left = prepend_none left }

pub takes_then : (a b c : Progress) (before between after : Option (List ℕ)) → Takes a b before between → Takes b c between after → Takes a c before after
takes_then a b c before between after first second = record {
  taken = first.taken ++ second.taken;
  given = second.given ∙ first.given;
  held = second.held ∙ ap (λ xs. xs ++ second.taken) first.held ∙ append_assoc a.held first.taken second.taken;
  left = first.left ∙ ap (prepend_known first.taken) second.left ∙ prepend_both first.taken second.taken after;
}

was_open : (a b : Progress) (before between : Option (List ℕ)) (first : Takes a b before between) → IsOpen b → IsOpen (record { given = a.given; held = a.held ++ first.taken })
was_open a b before between first h = record {
  unended = ap (statement_length false) (sym first.held) ∙ h.unended;
  within = record {
    statement = omega (arith, ap length first.held, h.within.statement);
    script = omega (arith, ap length first.held, first.given, h.within.script);
  };
}

-- a read behind bytes that did not tell how their piece ends
pub needed_then : (a b c : Progress) (before between after : Option (List ℕ)) → Takes a b before between → IsOpen b → Takes b c between after → length c.held ≤ buffer_bytes → GrewOpen a c
needed_then a b c before between after first h second room = record {
  earlier = first.taken;
  last = second.taken;
  grew = second.held ∙ ap (λ xs. xs ++ second.taken) first.held;
  was_open = was_open a b before between first h;
  room = room;
}

-- the bytes did not tell it before either
pub open_first : (a b : Progress) (before between : Option (List ℕ)) → Takes a b before between → IsOpen b → IsOpen a
open_first a b before between first h = open_earlier a.given a.held first.taken (was_open a b before between first h)
