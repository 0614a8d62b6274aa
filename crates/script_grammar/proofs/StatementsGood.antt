-- The language of statements is good.
use Rattle.std.proofs.Common.{◌≡◌, ℕ, List, [], ◌∷◌, ◌++◌, refl, ap, ◌∙◌, append_assoc, suc}
use mathlib.Core.Bool.{Bool, true, false}
use Rattle.std.specs.Prelude.{IsTrue}
use Rattle.parser_laws.specs.Parsing.{first, other, Pair, starts_with, Lang, seen, beyond, both, either, perhaps, items}
use Rattle.parser_laws.specs.Placed.{Placed, placed_view, placed_mk}
use Rattle.parser_laws.proofs.Good.{Stops}
use Rattle.parser_laws.proofs.Langs.{Ok, Begins, Meets, token_ok, both_ok, either_ok, perhaps_ok, items_ok, of_seen, begins_token, begins_both, meets_begins, meets_perhaps}
use Rattle.script_tokens.specs.declared.kind.Kind.{Kind}
use Rattle.script_tokens.specs.declared.kind.Kind.TheVariants as kind
use Rattle.script_tokens.specs.Tokens.{Token, Number, Name, Sign, PlacedToken}
use Rattle.script_grammar.specs.Views.{at, is, is_name, is_number, place_view, sort, positive_view, number_view, name_view, sign, name, number, positive}
use Rattle.script_grammar.specs.Terms.{part, tail, term, declaration, declarations}
use Rattle.script_grammar.specs.Formulas.{Plain, OneImp, OneOr, Ands, Units, Simple, NoUnit, NoAnd, formula}
use Rattle.script_grammar.specs.Statements.{value, starts_value, values, header, Bound, AtMost, Below, AtLeast, Above, Equal, spell_bound, bound_view, bound, bounded, guard, assign, assigns, closed, show, set, of_one, of_two, test, check, turn, loop, check_or_loop, from_subset, from_equal, from_test, from_solve, from_print, from_set, statement}
use Rattle.script_grammar.proofs.Spellings.{sign_spelling, positive_spelling, number_spelling, name_spelling, bound_spelling}
use Rattle.script_grammar.proofs.TermsGood.{sign_ok, meets_always, name_ok, number_ok, minus_ok, term_ok, declarations_ok, some_name, some_term, some_declaration}
use Rattle.script_grammar.proofs.FormulasGood.{begins_sign, sign_stops, after_sign_ok, list_level_ok, formula_ok, some_truth, some_form}

-- values
slash_ok : Ok (perhaps (is kind.Slash) (both (sign kind.Slash) positive))
slash_ok = perhaps_ok (is kind.Slash) (both (sign kind.Slash) positive) (after_sign_ok kind.Slash positive (token_ok (placed_view positive_view) (placed_mk (λ n. Number (suc n))) positive_spelling) (record { left = 0; right = 0 }) tt) (begins_sign kind.Slash positive)

number_slash_ok : Ok (both number (perhaps (is kind.Slash) (both (sign kind.Slash) positive)))
number_slash_ok = both_ok number (perhaps (is kind.Slash) (both (sign kind.Slash) positive)) number_ok slash_ok (other tt) tt (meets_always number (perhaps (is kind.Slash) (both (sign kind.Slash) positive)) refl)

value_ok : Ok value
value_ok = both_ok (perhaps (is kind.Minus) (sign kind.Minus)) (both number (perhaps (is kind.Slash) (both (sign kind.Slash) positive))) minus_ok number_slash_ok (record { left = record { left = 0; right = 0 }; right = other tt }) (tt, tt) (λ b z s. refl)

begins_value : Begins starts_value value
begins_value b z = by b.left
  where
    by : (m : (perhaps (is kind.Minus) (sign kind.Minus)).Tree) → starts_with starts_value (((perhaps (is kind.Minus) (sign kind.Minus)).toks m ++ (both number (perhaps (is kind.Slash) (both (sign kind.Slash) positive))).toks b.right) ++ z) ≡ true
    by (first x) = refl
    by (other x) = refl

some_value : value.Tree
some_value = record { left = other tt; right = record { left = record { left = 0; right = 0 }; right = other tt } }

values_ok : Ok values
values_ok = perhaps_ok starts_value (both value (items (is kind.Comma) (both (sign kind.Comma) value))) (list_level_ok kind.Comma value value_ok (record { left = other tt; right = record { left = record { left = 0; right = 0 }; right = other tt } }) (tt, (tt, tt)) (λ p. refl)) (begins_both starts_value value (items (is kind.Comma) (both (sign kind.Comma) value)) begins_value)

-- headers
perhaps_declarations_ok : Ok (perhaps is_name declarations)
perhaps_declarations_ok = perhaps_ok is_name declarations declarations_ok (begins_both is_name declaration (items (is kind.Comma) (both (sign kind.Comma) declaration)) (begins_both is_name name sort (begins_token (placed_view name_view) (placed_mk (λ n. Name n)) name_spelling)))

header_ok : Ok header
header_ok = after_sign_ok kind.Open (both (perhaps is_name declarations) (sign kind.Close)) (both_ok (perhaps is_name declarations) (sign kind.Close) perhaps_declarations_ok (sign_ok kind.Close) 0 tt (λ b z s. refl)) (record { left = other tt; right = 0 }) (tt, tt)

-- guards
bound_term_ok : Ok (both bound term)
bound_term_ok = both_ok bound term (token_ok (placed_view bound_view) (placed_mk (λ a. Sign (spell_bound a))) bound_spelling) term_ok some_term (tt, (tt, tt)) (meets_always bound term refl)

bound_stops : (t : PlacedToken) → seen (placed_view bound_view) t ≡ true → IsTrue (term.stop t)
bound_stops = of_seen (placed_view bound_view) (placed_mk (λ a. Sign (spell_bound a))) bound_spelling (λ t. IsTrue (term.stop t)) (λ x. by x.left x.right)
  where
    by : (a : Bound) (p : ℕ) → IsTrue (term.stop (at (spell_bound a) p))
    by AtMost p = refl
    by Below p = refl
    by AtLeast p = refl
    by Above p = refl
    by Equal p = refl

abbrev some_bound_term : (both bound term).Tree
some_bound_term = record { left = record { left = AtMost; right = 0 }; right = some_term }

abbrev some_bounded : bounded.Tree
some_bounded = record { left = some_term; right = some_bound_term }

bounded_ok : Ok bounded
bounded_ok = both_ok term (both bound term) term_ok bound_term_ok some_bound_term (tt, (tt, (tt, tt))) (meets_begins (seen (placed_view bound_view)) term (both bound term) (begins_both (seen (placed_view bound_view)) bound term (begins_token (placed_view bound_view) (placed_mk (λ a. Sign (spell_bound a))) bound_spelling)) bound_stops)

-- no term begins with `true`
term_first : (b : term.Tree) (z : List PlacedToken) → starts_with (is kind.True) (term.toks b ++ z) ≡ false
term_first b z = by b.left b.right.left
  where
    by : (m : (perhaps (is kind.Minus) (sign kind.Minus)).Tree) (p : part.Tree) → starts_with (is kind.True) (((perhaps (is kind.Minus) (sign kind.Minus)).toks m ++ (part.toks p ++ tail.toks b.right.right)) ++ z) ≡ false
    by (first x) p = refl
    by (other x) (first p) = refl
    by (other x) (other p) = refl

bounded_first : (b : bounded.Tree) (z : List PlacedToken) → starts_with (is kind.True) (bounded.toks b ++ z) ≡ false
bounded_first b z = ap (starts_with (is kind.True)) (append_assoc (term.toks b.left) ((both bound term).toks b.right) z) ∙ term_first b.left ((both bound term).toks b.right ++ z)

guard_ok : Ok guard
guard_ok = either_ok (is kind.True) (sign kind.True) (both bounded (items (is kind.And) (both (sign kind.And) bounded))) (sign_ok kind.True) (list_level_ok kind.And bounded bounded_ok some_bounded ((tt, (tt, tt)), (tt, (tt, (tt, tt)))) (λ p. refl)) (λ t h. refl) (begins_token (place_view kind.True) (at kind.True) (sign_spelling kind.True)) (λ b z s. ap (starts_with (is kind.True)) (append_assoc (bounded.toks b.left) ((items (is kind.And) (both (sign kind.And) bounded)).toks b.right) z) ∙ bounded_first b.left ((items (is kind.And) (both (sign kind.And) bounded)).toks b.right ++ z))

-- assignments
abbrev some_assign : assign.Tree
some_assign = record { left = record { left = []; right = 0 }; right = record { left = 0; right = some_term } }

assign_ok : Ok assign
assign_ok = both_ok name (both (sign kind.Becomes) term) name_ok (after_sign_ok kind.Becomes term term_ok some_term (tt, (tt, tt))) (record { left = 0; right = some_term }) (tt, (tt, (tt, tt))) (meets_always name (both (sign kind.Becomes) term) refl)

assigns_ok : Ok assigns
assigns_ok = list_level_ok kind.Comma assign assign_ok some_assign (tt, (tt, (tt, (tt, tt)))) (λ p. refl)

-- statements
abbrev some_closed : (n : ℕ) → (closed n).Tree
some_closed n = record { left = Plain (OneImp (OneOr (Ands (Units (Simple (first some_truth)) NoUnit) NoAnd))); right = 0 }

closed_ok : (n : ℕ) → Ok (closed n)
closed_ok n = both_ok (formula n) (sign kind.Semicolon) (formula_ok n) (sign_ok kind.Semicolon) 0 tt (λ b z s. refl)

show_ok : (n : ℕ) → Ok (show n)
show_ok n = after_sign_ok kind.Show (both header (both (sign kind.Colon) (closed n))) (both_ok header (both (sign kind.Colon) (closed n)) header_ok (after_sign_ok kind.Colon (closed n) (closed_ok n) (some_closed n) (((tt, tt), tt), tt)) (record { left = 0; right = some_closed n }) (tt, (((tt, tt), tt), tt)) (meets_always header (both (sign kind.Colon) (closed n)) refl)) (record { left = record { left = 0; right = record { left = other tt; right = 0 } }; right = record { left = 0; right = some_closed n } }) ((tt, (tt, tt)), (tt, (((tt, tt), tt), tt)))

header_equals_ok : (n : ℕ) → Ok (both header (both (sign kind.Equals) (closed n)))
header_equals_ok n = both_ok header (both (sign kind.Equals) (closed n)) header_ok (after_sign_ok kind.Equals (closed n) (closed_ok n) (some_closed n) (((tt, tt), tt), tt)) (record { left = 0; right = some_closed n }) (tt, (((tt, tt), tt), tt)) (meets_always header (both (sign kind.Equals) (closed n)) refl)

abbrev some_header_equals : (n : ℕ) → (both header (both (sign kind.Equals) (closed n))).Tree
some_header_equals n = record { left = record { left = 0; right = record { left = other tt; right = 0 } }; right = record { left = 0; right = some_closed n } }

set_ok : (n : ℕ) → Ok (set n)
set_ok n = after_sign_ok kind.Set (both name (both header (both (sign kind.Equals) (closed n)))) (both_ok name (both header (both (sign kind.Equals) (closed n))) name_ok (header_equals_ok n) (some_header_equals n) ((tt, (tt, tt)), (tt, (((tt, tt), tt), tt))) (meets_always name (both header (both (sign kind.Equals) (closed n))) refl)) (record { left = record { left = []; right = 0 }; right = some_header_equals n }) (tt, ((tt, (tt, tt)), (tt, (((tt, tt), tt), tt))))

name_end_ok : Ok (both name (sign kind.Semicolon))
name_end_ok = both_ok name (sign kind.Semicolon) name_ok (sign_ok kind.Semicolon) 0 tt (meets_always name (sign kind.Semicolon) refl)

abbrev some_name_end : (both name (sign kind.Semicolon)).Tree
some_name_end = record { left = record { left = []; right = 0 }; right = 0 }

of_one_ok : (k : Kind) → Ok (of_one k)
of_one_ok k = after_sign_ok k (both name (sign kind.Semicolon)) name_end_ok some_name_end (tt, tt)

of_two_ok : (k : Kind) → Ok (of_two k)
of_two_ok k = after_sign_ok k (both name (both name (sign kind.Semicolon))) (both_ok name (both name (sign kind.Semicolon)) name_ok name_end_ok some_name_end (tt, tt) (meets_always name (both name (sign kind.Semicolon)) refl)) (record { left = record { left = []; right = 0 }; right = some_name_end }) (tt, (tt, tt))

shut_ok : Ok (both (sign kind.Close) (sign kind.Semicolon))
shut_ok = after_sign_ok kind.Close (sign kind.Semicolon) (sign_ok kind.Semicolon) 0 tt

values_shut_ok : Ok (both values (both (sign kind.Close) (sign kind.Semicolon)))
values_shut_ok = both_ok values (both (sign kind.Close) (sign kind.Semicolon)) values_ok shut_ok (record { left = 0; right = 0 }) (tt, tt) (λ b z s. refl)

abbrev some_values_shut : (both values (both (sign kind.Close) (sign kind.Semicolon))).Tree
some_values_shut = record { left = other tt; right = record { left = 0; right = 0 } }

tested_ok : Ok (both (sign kind.Open) (both values (both (sign kind.Close) (sign kind.Semicolon))))
tested_ok = after_sign_ok kind.Open (both values (both (sign kind.Close) (sign kind.Semicolon))) values_shut_ok some_values_shut (tt, (tt, tt))

test_ok : Ok test
test_ok = after_sign_ok kind.Test (both name (both (sign kind.Open) (both values (both (sign kind.Close) (sign kind.Semicolon))))) (both_ok name (both (sign kind.Open) (both values (both (sign kind.Close) (sign kind.Semicolon)))) name_ok tested_ok (record { left = 0; right = some_values_shut }) (tt, (tt, (tt, tt))) (meets_always name (both (sign kind.Open) (both values (both (sign kind.Close) (sign kind.Semicolon)))) refl)) (record { left = record { left = []; right = 0 }; right = record { left = 0; right = some_values_shut } }) (tt, (tt, (tt, (tt, tt))))

check_ok : (n : ℕ) → Ok (check n)
check_ok n = after_sign_ok kind.Check (closed n) (closed_ok n) (some_closed n) (((tt, tt), tt), tt)

assigns_end_ok : Ok (both assigns (sign kind.Semicolon))
assigns_end_ok = both_ok assigns (sign kind.Semicolon) assigns_ok (sign_ok kind.Semicolon) 0 tt (λ b z s. refl)

abbrev some_assigns_end : (both assigns (sign kind.Semicolon)).Tree
some_assigns_end = record { left = record { left = some_assign; right = [] }; right = 0 }

turn_ok : Ok turn
turn_ok = both_ok guard (both (sign kind.Do) (both assigns (sign kind.Semicolon))) guard_ok (after_sign_ok kind.Do (both assigns (sign kind.Semicolon)) assigns_end_ok some_assigns_end (((tt, (tt, (tt, (tt, tt)))), tt), tt)) (record { left = 0; right = some_assigns_end }) (tt, (((tt, (tt, (tt, (tt, tt)))), tt), tt)) (λ b z s. refl)

abbrev some_turn : turn.Tree
some_turn = record { left = first 0; right = record { left = 0; right = some_assigns_end } }

when_ok : Ok (both (sign kind.When) turn)
when_ok = after_sign_ok kind.When turn turn_ok some_turn (tt, (tt, (((tt, (tt, (tt, (tt, tt)))), tt), tt)))

close_when_ok : Ok (both (sign kind.Close) (both (sign kind.When) turn))
close_when_ok = after_sign_ok kind.Close (both (sign kind.When) turn) when_ok (record { left = 0; right = some_turn }) (tt, (tt, (tt, (((tt, (tt, (tt, (tt, tt)))), tt), tt))))

abbrev some_close_when : (both (sign kind.Close) (both (sign kind.When) turn)).Tree
some_close_when = record { left = 0; right = record { left = 0; right = some_turn } }

declared_ok : Ok (both declarations (both (sign kind.Close) (both (sign kind.When) turn)))
declared_ok = both_ok declarations (both (sign kind.Close) (both (sign kind.When) turn)) declarations_ok close_when_ok some_close_when (tt, (tt, (tt, (tt, (((tt, (tt, (tt, (tt, tt)))), tt), tt))))) (λ b z s. refl)

abbrev some_declared : (both declarations (both (sign kind.Close) (both (sign kind.When) turn))).Tree
some_declared = record { left = record { left = some_declaration; right = [] }; right = some_close_when }

open_ok : Ok (both (sign kind.Open) (both declarations (both (sign kind.Close) (both (sign kind.When) turn))))
open_ok = after_sign_ok kind.Open (both declarations (both (sign kind.Close) (both (sign kind.When) turn))) declared_ok some_declared (((tt, tt), tt), (tt, (tt, (tt, (tt, (((tt, (tt, (tt, (tt, tt)))), tt), tt))))))

loop_ok : Ok loop
loop_ok = after_sign_ok kind.Loop (both name (both (sign kind.Open) (both declarations (both (sign kind.Close) (both (sign kind.When) turn))))) (both_ok name (both (sign kind.Open) (both declarations (both (sign kind.Close) (both (sign kind.When) turn)))) name_ok open_ok (record { left = 0; right = some_declared }) (tt, (((tt, tt), tt), (tt, (tt, (tt, (tt, (((tt, (tt, (tt, (tt, tt)))), tt), tt))))))) (meets_always name (both (sign kind.Open) (both declarations (both (sign kind.Close) (both (sign kind.When) turn)))) refl)) (record { left = record { left = []; right = 0 }; right = record { left = 0; right = some_declared } }) (tt, (tt, (((tt, tt), tt), (tt, (tt, (tt, (tt, (((tt, (tt, (tt, (tt, tt)))), tt), tt))))))))

-- the first token tells which statement it is
avoids_either : (avoid : PlacedToken → Bool) (starts : PlacedToken → Bool) (A B : Lang PlacedToken) → ((a : A.Tree) (z : List PlacedToken) → starts_with avoid (A.toks a ++ z) ≡ false) → ((b : B.Tree) (z : List PlacedToken) → starts_with avoid (B.toks b ++ z) ≡ false) → (x : (either starts A B).Tree) (z : List PlacedToken) → starts_with avoid ((either starts A B).toks x ++ z) ≡ false
avoids_either avoid starts A B f g (first a) z = f a z
avoids_either avoid starts A B f g (other b) z = g b z

alternative_ok : (k : Kind) (A B : Lang PlacedToken) → Ok (both (sign k) A) → Ok B → ((t : PlacedToken) → IsTrue (B.stop t) → IsTrue (A.stop t)) → ((b : B.Tree) (z : List PlacedToken) → starts_with (is k) (B.toks b ++ z) ≡ false) → Ok (either (is k) (both (sign k) A) B)
alternative_ok k A B a b s f = either_ok (is k) (both (sign k) A) B a b s (begins_sign k A) (λ x z e. f x z)

check_or_loop_ok : (n : ℕ) → Ok (check_or_loop n)
check_or_loop_ok n = alternative_ok kind.Check (closed n) loop (check_ok n) loop_ok (λ t h. h) (λ b z. refl)

from_subset_ok : (n : ℕ) → Ok (from_subset n)
from_subset_ok n = alternative_ok kind.Subset (both name (both name (sign kind.Semicolon))) (check_or_loop n) (of_two_ok kind.Subset) (check_or_loop_ok n) (λ t h. h) (avoids_either (is kind.Subset) (is kind.Check) (check n) loop (λ b z. refl) (λ b z. refl))

from_equal_ok : (n : ℕ) → Ok (from_equal n)
from_equal_ok n = alternative_ok kind.Equal (both name (both name (sign kind.Semicolon))) (from_subset n) (of_two_ok kind.Equal) (from_subset_ok n) (λ t h. h) (avoids_either (is kind.Equal) (is kind.Subset) (of_two kind.Subset) (check_or_loop n) (λ b z. refl) (avoids_either (is kind.Equal) (is kind.Check) (check n) loop (λ b z. refl) (λ b z. refl)))

from_test_ok : (n : ℕ) → Ok (from_test n)
from_test_ok n = alternative_ok kind.Test (both name (both (sign kind.Open) (both values (both (sign kind.Close) (sign kind.Semicolon))))) (from_equal n) test_ok (from_equal_ok n) (λ t h. h) (avoids_either (is kind.Test) (is kind.Equal) (of_two kind.Equal) (from_subset n) (λ b z. refl) (avoids_either (is kind.Test) (is kind.Subset) (of_two kind.Subset) (check_or_loop n) (λ b z. refl) (avoids_either (is kind.Test) (is kind.Check) (check n) loop (λ b z. refl) (λ b z. refl))))

from_solve_ok : (n : ℕ) → Ok (from_solve n)
from_solve_ok n = alternative_ok kind.Solve (both name (sign kind.Semicolon)) (from_test n) (of_one_ok kind.Solve) (from_test_ok n) (λ t h. h) (avoids_either (is kind.Solve) (is kind.Test) test (from_equal n) (λ b z. refl) (avoids_either (is kind.Solve) (is kind.Equal) (of_two kind.Equal) (from_subset n) (λ b z. refl) (avoids_either (is kind.Solve) (is kind.Subset) (of_two kind.Subset) (check_or_loop n) (λ b z. refl) (avoids_either (is kind.Solve) (is kind.Check) (check n) loop (λ b z. refl) (λ b z. refl)))))

from_print_ok : (n : ℕ) → Ok (from_print n)
from_print_ok n = alternative_ok kind.Print (both name (sign kind.Semicolon)) (from_solve n) (of_one_ok kind.Print) (from_solve_ok n) (λ t h. h) (avoids_either (is kind.Print) (is kind.Solve) (of_one kind.Solve) (from_test n) (λ b z. refl) (avoids_either (is kind.Print) (is kind.Test) test (from_equal n) (λ b z. refl) (avoids_either (is kind.Print) (is kind.Equal) (of_two kind.Equal) (from_subset n) (λ b z. refl) (avoids_either (is kind.Print) (is kind.Subset) (of_two kind.Subset) (check_or_loop n) (λ b z. refl) (avoids_either (is kind.Print) (is kind.Check) (check n) loop (λ b z. refl) (λ b z. refl))))))

from_set_ok : (n : ℕ) → Ok (from_set n)
from_set_ok n = alternative_ok kind.Set (both name (both header (both (sign kind.Equals) (closed n)))) (from_print n) (set_ok n) (from_print_ok n) (λ t h. h) (avoids_either (is kind.Set) (is kind.Print) (of_one kind.Print) (from_solve n) (λ b z. refl) (avoids_either (is kind.Set) (is kind.Solve) (of_one kind.Solve) (from_test n) (λ b z. refl) (avoids_either (is kind.Set) (is kind.Test) test (from_equal n) (λ b z. refl) (avoids_either (is kind.Set) (is kind.Equal) (of_two kind.Equal) (from_subset n) (λ b z. refl) (avoids_either (is kind.Set) (is kind.Subset) (of_two kind.Subset) (check_or_loop n) (λ b z. refl) (avoids_either (is kind.Set) (is kind.Check) (check n) loop (λ b z. refl) (λ b z. refl)))))))

pub statement_ok : (n : ℕ) → Ok (statement n)
statement_ok n = alternative_ok kind.Show (both header (both (sign kind.Colon) (closed n))) (from_set n) (show_ok n) (from_set_ok n) (λ t h. h) (avoids_either (is kind.Show) (is kind.Set) (set n) (from_print n) (λ b z. refl) (avoids_either (is kind.Show) (is kind.Print) (of_one kind.Print) (from_solve n) (λ b z. refl) (avoids_either (is kind.Show) (is kind.Solve) (of_one kind.Solve) (from_test n) (λ b z. refl) (avoids_either (is kind.Show) (is kind.Test) test (from_equal n) (λ b z. refl) (avoids_either (is kind.Show) (is kind.Equal) (of_two kind.Equal) (from_subset n) (λ b z. refl) (avoids_either (is kind.Show) (is kind.Subset) (of_two kind.Subset) (check_or_loop n) (λ b z. refl) (avoids_either (is kind.Show) (is kind.Check) (check n) loop (λ b z. refl) (λ b z. refl))))))))

-- a statement: print and a name
abbrev pub some_statement : (n : ℕ) → (statement n).Tree
some_statement n = other (other (first (record { left = 0; right = some_name_end })))
