-- The languages of terms, atoms and declarations are good.
use Rattle.std.proofs.Common.{◌≡◌, ℕ, List, [], ◌∷◌, ◌++◌, refl, sym, subst}
use mathlib.Core.Bool.{Bool, true, false}
use Rattle.std.specs.Prelude.{IsTrue}
use Rattle.parser_laws.specs.Parsing.{first, other, Pair, starts_with, Lang, seen, always, beyond, both, either, perhaps, items, until}
use Rattle.parser_laws.specs.Placed.{Placed, placed_view, placed_mk}
use Rattle.parser_laws.proofs.Good.{Stops}
use Rattle.parser_laws.proofs.Langs.{Ok, Begins, Meets, token_ok, both_ok, either_ok, perhaps_ok, items_ok, until_ok, of_seen, always_stops, begins_token, begins_both, meets_begins, meets_items, beyond_stops, start_stops}
use Rattle.lash_model.specs.Formulas.{Int}
use Rattle.script_tokens.specs.declared.kind.Kind.{Kind}
use Rattle.script_tokens.specs.declared.kind.Kind.TheVariants as kind
use Rattle.script_tokens.specs.Tokens.{Token, Name, Number, Sign, PlacedToken}
use Rattle.script_grammar.specs.Views.{Plus, Minus, AtMost, Below, AtLeast, Above, Equal, Unequal, Adding, Relation, name_view, number_view, adding_view, relation_view, truth_view, sort_view, place_view, at, is, is_name, is_number, is_adding, is_truth, spell_adding, spell_relation, spell_truth, spell_sort, sign, name, number, adding, relation, truth, sort}
use Rattle.script_grammar.specs.Terms.{scaled, part, tail, term, compared, starts_term, terms, arguments, called, named, unnamed, atom, declaration, declarations}
use Rattle.script_grammar.proofs.Spellings.{sign_spelling, sort_spelling, adding_spelling, truth_spelling, relation_spelling, name_spelling, number_spelling}

-- a tree of each language
abbrev pub some_name : name.Tree
some_name = record { left = []; right = 0 }

abbrev pub some_term : term.Tree
some_term = record { left = other tt; right = record { left = other (record { left = []; right = 0 }); right = [] } }

abbrev pub some_relation_term : (both relation term).Tree
some_relation_term = record { left = record { left = AtMost; right = 0 }; right = record { left = other tt; right = record { left = other (record { left = []; right = 0 }); right = [] } } }

abbrev pub some_declaration : declaration.Tree
some_declaration = record { left = record { left = []; right = 0 }; right = record { left = Int; right = 0 } }

-- `always` is met by anything
pub meets_always : {T : Type 0} (A B : Lang T) → A.stop ≡ always → Meets A B
meets_always A B e b z s = subst (λ f. Stops f (B.toks b ++ z)) (sym e) (always_stops (B.toks b ++ z))

pub name_ok : Ok name
name_ok = token_ok (placed_view name_view) (placed_mk (λ n. Name n)) name_spelling

pub number_ok : Ok number
number_ok = token_ok (placed_view number_view) (placed_mk (λ n. Number n)) number_spelling

pub sign_ok : (k : Kind) → Ok (sign k)
sign_ok k = token_ok (place_view k) (at k) (sign_spelling k)

times_name : Ok (perhaps (is kind.Times) (both (sign kind.Times) name))
times_name = perhaps_ok (is kind.Times) (both (sign kind.Times) name) (both_ok (sign kind.Times) name (sign_ok kind.Times) name_ok some_name tt (meets_always (sign kind.Times) name refl)) (begins_both (is kind.Times) (sign kind.Times) name (begins_token (place_view kind.Times) (at kind.Times) (sign_spelling kind.Times)))

pub scaled_ok : Ok scaled
scaled_ok = both_ok number (perhaps (is kind.Times) (both (sign kind.Times) name)) number_ok times_name (other tt) tt (meets_always number (perhaps (is kind.Times) (both (sign kind.Times) name)) refl)

begins_scaled : Begins is_number scaled
begins_scaled = begins_both is_number number (perhaps (is kind.Times) (both (sign kind.Times) name)) (begins_token (placed_view number_view) (placed_mk (λ n. Number n)) number_spelling)

pub part_ok : Ok part
part_ok = either_ok is_number scaled (until (beyond (is kind.Times) always) name) scaled_ok (until_ok (beyond (is kind.Times) always) name name_ok (λ t h. refl)) (λ t h. h) begins_scaled (λ a z s. refl)

add_part_ok : Ok (both adding part)
add_part_ok = both_ok adding part (token_ok (placed_view adding_view) (placed_mk (λ a. Sign (spell_adding a))) adding_spelling) part_ok (other some_name) tt (meets_always adding part refl)

begins_add_part : Begins is_adding (both adding part)
begins_add_part = begins_both is_adding adding part (begins_token (placed_view adding_view) (placed_mk (λ a. Sign (spell_adding a))) adding_spelling)

adding_stops : (t : PlacedToken) → is_adding t ≡ true → IsTrue (part.stop t)
adding_stops = of_seen (placed_view adding_view) (placed_mk (λ a. Sign (spell_adding a))) adding_spelling (λ t. IsTrue (part.stop t)) (λ x. by x.left x.right)
  where
    by : (a : Adding) (p : ℕ) → IsTrue (part.stop (at (spell_adding a) p))
    by Plus p = refl
    by Minus p = refl

pub tail_ok : Ok tail
tail_ok = items_ok is_adding (both adding part) add_part_ok begins_add_part adding_stops

part_tail_ok : Ok (both part tail)
part_tail_ok = both_ok part tail part_ok tail_ok [] tt (meets_items is_adding part (both adding part) begins_add_part adding_stops (λ t h. beyond_stops is_adding part.stop t h))

pub minus_ok : Ok (perhaps (is kind.Minus) (sign kind.Minus))
minus_ok = perhaps_ok (is kind.Minus) (sign kind.Minus) (sign_ok kind.Minus) (begins_token (place_view kind.Minus) (at kind.Minus) (sign_spelling kind.Minus))

minus_meets : Meets (perhaps (is kind.Minus) (sign kind.Minus)) (both part tail)
minus_meets b z s = by b.left
  where
    by : (a : part.Tree) → Stops (beyond (is kind.Minus) always) ((part.toks a ++ tail.toks b.right) ++ z)
    by (first x) = refl
    by (other x) = refl

pub term_ok : Ok term
term_ok = both_ok (perhaps (is kind.Minus) (sign kind.Minus)) (both part tail) minus_ok part_tail_ok (record { left = other some_name; right = [] }) (tt, tt) minus_meets

pub relation_term_ok : Ok (both relation term)
relation_term_ok = both_ok relation term (token_ok (placed_view relation_view) (placed_mk (λ a. Sign (spell_relation a))) relation_spelling) term_ok some_term (tt, (tt, tt)) (meets_always relation term refl)

begins_relation : Begins (seen (placed_view relation_view)) (both relation term)
begins_relation = begins_both (seen (placed_view relation_view)) relation term (begins_token (placed_view relation_view) (placed_mk (λ a. Sign (spell_relation a))) relation_spelling)

relation_stops : (t : PlacedToken) → seen (placed_view relation_view) t ≡ true → IsTrue (tail.stop t)
relation_stops = of_seen (placed_view relation_view) (placed_mk (λ a. Sign (spell_relation a))) relation_spelling (λ t. IsTrue (tail.stop t)) (λ x. by x.left x.right)
  where
    by : (a : Relation) (p : ℕ) → IsTrue (tail.stop (at (spell_relation a) p))
    by AtMost p = refl
    by Below p = refl
    by AtLeast p = refl
    by Above p = refl
    by Equal p = refl
    by Unequal p = refl

pub compared_ok : Ok compared
compared_ok = both_ok tail (both relation term) tail_ok relation_term_ok some_relation_term (tt, (tt, (tt, tt))) (meets_begins (seen (placed_view relation_view)) tail (both relation term) begins_relation relation_stops)

-- what a rest of a comparison begins with
compared_first : (test : PlacedToken → Bool) (v : Bool) → ((a : Adding) (p : ℕ) → test (at (spell_adding a) p) ≡ v) → ((r : Relation) (p : ℕ) → test (at (spell_relation r) p) ≡ v) → (b : compared.Tree) (z : List PlacedToken) → starts_with test (compared.toks b ++ z) ≡ v
compared_first test v f g b z = by b.left
  where
    by : (l : tail.Tree) → starts_with test ((tail.toks l ++ (both relation term).toks b.right) ++ z) ≡ v
    by [] = g b.right.left.left b.right.left.right
    by (x ∷ l) = f x.left.left x.left.right

pub by_relation : (test : PlacedToken → Bool) (v : Bool) → ((p : ℕ) → test (at kind.AtMost p) ≡ v) → ((p : ℕ) → test (at kind.Below p) ≡ v) → ((p : ℕ) → test (at kind.AtLeast p) ≡ v) → ((p : ℕ) → test (at kind.Above p) ≡ v) → ((p : ℕ) → test (at kind.Equals p) ≡ v) → ((p : ℕ) → test (at kind.Unequal p) ≡ v) → (r : Relation) (p : ℕ) → test (at (spell_relation r) p) ≡ v
by_relation test v a b c d e f AtMost = a
by_relation test v a b c d e f Below = b
by_relation test v a b c d e f AtLeast = c
by_relation test v a b c d e f Above = d
by_relation test v a b c d e f Equal = e
by_relation test v a b c d e f Unequal = f

by_adding : (test : PlacedToken → Bool) (v : Bool) → ((p : ℕ) → test (at kind.Plus p) ≡ v) → ((p : ℕ) → test (at kind.Minus p) ≡ v) → (r : Adding) (p : ℕ) → test (at (spell_adding r) p) ≡ v
by_adding test v a b Plus = a
by_adding test v a b Minus = b

pub begins_term : Begins starts_term term
begins_term b z = by_minus b.left
  where
    by_part : (a : part.Tree) → starts_with starts_term ((part.toks a ++ tail.toks b.right.right) ++ z) ≡ true
    by_part (first x) = refl
    by_part (other x) = refl

    by_minus : (m : (perhaps (is kind.Minus) (sign kind.Minus)).Tree) → starts_with starts_term (((perhaps (is kind.Minus) (sign kind.Minus)).toks m ++ (both part tail).toks b.right) ++ z) ≡ true
    by_minus (first x) = refl
    by_minus (other x) = by_part b.right.left

comma_term_ok : Ok (both (sign kind.Comma) term)
comma_term_ok = both_ok (sign kind.Comma) term (sign_ok kind.Comma) term_ok some_term (tt, (tt, tt)) (meets_always (sign kind.Comma) term refl)

pub begins_comma : (L : Lang PlacedToken) → Begins (is kind.Comma) (both (sign kind.Comma) L)
begins_comma L = begins_both (is kind.Comma) (sign kind.Comma) L (begins_token (place_view kind.Comma) (at kind.Comma) (sign_spelling kind.Comma))

pub comma_stops : (t : PlacedToken) → is kind.Comma t ≡ true → IsTrue (term.stop t)
comma_stops = of_seen (place_view kind.Comma) (at kind.Comma) (sign_spelling kind.Comma) (λ t. IsTrue (term.stop t)) (λ u. refl)

pub terms_ok : Ok terms
terms_ok = both_ok term (items (is kind.Comma) (both (sign kind.Comma) term)) term_ok (items_ok (is kind.Comma) (both (sign kind.Comma) term) comma_term_ok (begins_comma term) comma_stops) [] tt (meets_items (is kind.Comma) term (both (sign kind.Comma) term) (begins_comma term) comma_stops (λ t h. beyond_stops (is kind.Comma) term.stop t h))

pub arguments_ok : Ok arguments
arguments_ok = perhaps_ok starts_term terms terms_ok (begins_both starts_term term (items (is kind.Comma) (both (sign kind.Comma) term)) begins_term)

pub called_ok : Ok called
called_ok = both_ok (sign kind.Open) (both arguments (sign kind.Close)) (sign_ok kind.Open) (both_ok arguments (sign kind.Close) arguments_ok (sign_ok kind.Close) 0 tt (λ b z s. refl)) (record { left = other tt; right = 0 }) (tt, tt) (meets_always (sign kind.Open) (both arguments (sign kind.Close)) refl)

begins_called : Begins (is kind.Open) called
begins_called = begins_both (is kind.Open) (sign kind.Open) (both arguments (sign kind.Close)) (begins_token (place_view kind.Open) (at kind.Open) (sign_spelling kind.Open))

after_name_ok : Ok (either (is kind.Open) called compared)
after_name_ok = either_ok (is kind.Open) called compared called_ok compared_ok (λ t h. refl) begins_called (λ b z s. compared_first (is kind.Open) false (by_adding (is kind.Open) false (λ p. refl) (λ p. refl)) (by_relation (is kind.Open) false (λ p. refl) (λ p. refl) (λ p. refl) (λ p. refl) (λ p. refl) (λ p. refl)) b z)

pub named_ok : Ok named
named_ok = both_ok name (either (is kind.Open) called compared) name_ok after_name_ok (first (record { left = 0; right = record { left = other tt; right = 0 } })) (tt, (tt, tt)) (meets_always name (either (is kind.Open) called compared) refl)

lead_ok : Ok (either (is kind.Minus) (both (sign kind.Minus) part) scaled)
lead_ok = either_ok (is kind.Minus) (both (sign kind.Minus) part) scaled (both_ok (sign kind.Minus) part (sign_ok kind.Minus) part_ok (other some_name) tt (meets_always (sign kind.Minus) part refl)) scaled_ok (λ t h. h) (begins_both (is kind.Minus) (sign kind.Minus) part (begins_token (place_view kind.Minus) (at kind.Minus) (sign_spelling kind.Minus))) (λ a z s. refl)

pub unnamed_ok : Ok unnamed
unnamed_ok = both_ok (either (is kind.Minus) (both (sign kind.Minus) part) scaled) compared lead_ok compared_ok (record { left = []; right = some_relation_term }) (tt, (tt, (tt, (tt, tt)))) (λ b z s. start_stops scaled.stop scaled.stop (λ t e. e) (compared.toks b ++ z) (compared_first scaled.stop true (by_adding scaled.stop true (λ p. refl) (λ p. refl)) (by_relation scaled.stop true (λ p. refl) (λ p. refl) (λ p. refl) (λ p. refl) (λ p. refl) (λ p. refl)) b z))

avoids_unnamed : (test : PlacedToken → Bool) → ((p : ℕ) → test (at kind.Minus p) ≡ false) → ((n p : ℕ) → test (record { token = Number n; place = p }) ≡ false) → (b : unnamed.Tree) (z : List PlacedToken) → starts_with test (unnamed.toks b ++ z) ≡ false
avoids_unnamed test e f b z = by b.left
  where
    by : (l : (either (is kind.Minus) (both (sign kind.Minus) part) scaled).Tree) → starts_with test (((either (is kind.Minus) (both (sign kind.Minus) part) scaled).toks l ++ compared.toks b.right) ++ z) ≡ false
    by (first x) = e x.left
    by (other x) = f x.left.left x.left.right

after_truth_ok : Ok (either is_name named unnamed)
after_truth_ok = either_ok is_name named unnamed named_ok unnamed_ok (λ t h. h) (begins_both is_name name (either (is kind.Open) called compared) (begins_token (placed_view name_view) (placed_mk (λ n. Name n)) name_spelling)) (λ b z s. avoids_unnamed is_name (λ p. refl) (λ n p. refl) b z)

avoids_after_truth : (test : PlacedToken → Bool) → ((p : ℕ) → test (at kind.Minus p) ≡ false) → ((n p : ℕ) → test (record { token = Number n; place = p }) ≡ false) → ((n : List ℕ) (p : ℕ) → test (record { token = Name n; place = p }) ≡ false) → (b : (either is_name named unnamed).Tree) (z : List PlacedToken) → starts_with test ((either is_name named unnamed).toks b ++ z) ≡ false
avoids_after_truth test e f g (first x) z = g x.left.left x.left.right
avoids_after_truth test e f g (other x) z = avoids_unnamed test e f x z

pub atom_ok : Ok atom
atom_ok = either_ok is_truth truth (either is_name named unnamed) (token_ok (placed_view truth_view) (placed_mk (λ a. Sign (spell_truth a))) truth_spelling) after_truth_ok (λ t h. refl) (begins_token (placed_view truth_view) (placed_mk (λ a. Sign (spell_truth a))) truth_spelling) (λ b z s. avoids_after_truth is_truth (λ p. refl) (λ n p. refl) (λ n p. refl) b z)

-- no atom begins with a token that none of its alternatives begins with
pub avoids_atom : (test : PlacedToken → Bool) → ((p : ℕ) → test (at kind.True p) ≡ false) → ((p : ℕ) → test (at kind.False p) ≡ false) → ((p : ℕ) → test (at kind.Minus p) ≡ false) → ((n p : ℕ) → test (record { token = Number n; place = p }) ≡ false) → ((n : List ℕ) (p : ℕ) → test (record { token = Name n; place = p }) ≡ false) → (b : atom.Tree) (z : List PlacedToken) → starts_with test (atom.toks b ++ z) ≡ false
avoids_atom test c d e f g (first x) z = by x.left x.right
  where
    by : (v : Bool) (p : ℕ) → test (at (spell_truth v) p) ≡ false
    by true = c
    by false = d
avoids_atom test c d e f g (other b) z = avoids_after_truth test e f g b z

pub declaration_ok : Ok declaration
declaration_ok = both_ok name sort name_ok (token_ok (placed_view sort_view) (placed_mk (λ a. Sign (spell_sort a))) sort_spelling) (record { left = Int; right = 0 }) tt (meets_always name sort refl)

comma_declaration_ok : Ok (both (sign kind.Comma) declaration)
comma_declaration_ok = both_ok (sign kind.Comma) declaration (sign_ok kind.Comma) declaration_ok some_declaration (tt, tt) (meets_always (sign kind.Comma) declaration refl)

pub declarations_ok : Ok declarations
declarations_ok = both_ok declaration (items (is kind.Comma) (both (sign kind.Comma) declaration)) declaration_ok (items_ok (is kind.Comma) (both (sign kind.Comma) declaration) comma_declaration_ok (begins_comma declaration) (λ t h. refl)) [] tt (meets_always declaration (items (is kind.Comma) (both (sign kind.Comma) declaration)) refl)
