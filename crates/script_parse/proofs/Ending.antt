-- A rest without a whole statement has no semicolon among its tokens, and each whole statement has one.
use Rattle.std.proofs.Common.{◌≡◌, ℕ, zero, suc, ◌+◌, List, [], ◌∷◌, ◌++◌, length, take, drop, Bool, true, false, cond, not, ◌&&◌, ◌||◌, nat_eq, arith, refl, sym, ap, ◌∙◌, subst, Option, None, Some}
use Rattle.std.specs.Prelude.{is_some}
use Rattle.std.specs.Option.{option_map}
use Rattle.std.specs.List.{prefix_len, starts_with, list_all}
use Rattle.std.specs.Cmp.Lexicographic.{pointwise}
use Rattle.std.proofs.lemmas.Bool.{true≢false, eqb-true, false≢true}
use Rattle.parser_laws.specs.Parsing.{first, other}
use Rattle.parser_laws.proofs.Parts.{not_none, same_some}
use Rattle.formula_core.specs.Names.{begins_word, is_digit, is_in_word}
use Rattle.script_tokens.specs.declared.kind.Kind.{Kind}
use Rattle.script_tokens.specs.declared.kind.Kind.TheVariants as kind
use Rattle.script_tokens.specs.declared.kind.TheConstants.{KEYWORDS, SIGNS}
use Rattle.script_tokens.specs.Kinds.{spelled}
use Rattle.script_tokens.specs.Tokens.{PlacedToken}
use Rattle.script_tokens.specs.Lexing.{is_blank, word_token, blank_length, keyword_in, sign_in, Lexeme, lexeme, is_bad, word_lexeme, number_lexeme, sign_lexeme, after_blanks, lexed, tokens_of}
use Rattle.script_grammar.specs.Views.{is_kind, same_kind, at}
use Rattle.script_grammar.specs.Formulas.{form_toks}
use Rattle.script_grammar.specs.Terms.{declarations}
use Rattle.script_grammar.specs.Statements.{whole_statement, Statement, header, values, guard, assigns, turn}
use Rattle.script_statements.specs.Statements.{Described}
use Rattle.script_parse.proofs.Sizes.{described_toks}
use Rattle.script_pieces.specs.Cuts.{statement_length}

-- some token is a semicolon
abbrev pub ends : List PlacedToken → Bool
ends [] = false
ends (t ∷ ts) = is_kind kind.Semicolon t.token || ends ts

some_is_none : {A : Type 0} {x : A} → Some x ≡ None → ⊥
some_is_none e = true≢false (ap is_some e)

none_inside : (o : Option ℕ) → option_map (λ n. n + 1) o ≡ None → o ≡ None
none_inside None e = refl
none_inside (Some n) e = absurd (some_is_none e)

abbrev Unended : List ℕ → Type 0
Unended bs = statement_length false bs ≡ None

shifted : (k b : ℕ) (bs : List ℕ) → Unended (drop k bs) → Unended (drop (1 + k) (b ∷ bs))
shifted k b bs h = let e : suc k ≡ 1 + k = omega arith in subst (λ n. Unended (drop n (b ∷ bs))) e h

-- blanks and comments may be left out in front
behind_blanks : (c : Bool) (bs : List ℕ) → statement_length c bs ≡ None → Unended (drop (blank_length c bs) bs)
behind_blanks true [] h = refl
behind_blanks false [] h = refl
behind_blanks true (b ∷ bs) h = shifted (blank_length (not (nat_eq b 10)) bs) b bs (behind_blanks (not (nat_eq b 10)) bs (none_inside (statement_length (not (nat_eq b 10)) bs) h))
behind_blanks false (b ∷ bs) h = by (nat_eq b 59) (nat_eq b 35) (is_blank b) h h (behind_blanks true bs) (behind_blanks false bs)
  where
    by : (semi hash blank : Bool) → cond semi (Some 1) (option_map (λ n. n + 1) (statement_length hash bs)) ≡ None → Unended (b ∷ bs) → (statement_length true bs ≡ None → Unended (drop (blank_length true bs) bs)) → (statement_length false bs ≡ None → Unended (drop (blank_length false bs) bs)) → Unended (drop (cond hash (1 + blank_length true bs) (cond blank (1 + blank_length false bs) 0)) (b ∷ bs))
    by true hash blank e o in_comment in_text = absurd (some_is_none e)
    by false true blank e o in_comment in_text = shifted (blank_length true bs) b bs (in_comment (none_inside (statement_length true bs) e))
    by false false true e o in_comment in_text = shifted (blank_length false bs) b bs (in_text (none_inside (statement_length false bs) e))
    by false false false e o in_comment in_text = o

-- a byte that neither ends a statement nor begins a comment
abbrev is_plain : ℕ → Bool
is_plain b = not (nat_eq b 59) && not (nat_eq b 35)

behind_plain : (b : ℕ) (bs : List ℕ) → is_plain b ≡ true → Unended (b ∷ bs) → Unended bs
behind_plain b bs p h = by (nat_eq b 59) (nat_eq b 35) p h
  where
    by : (semi hash : Bool) → (not semi && not hash) ≡ true → cond semi (Some 1) (option_map (λ n. n + 1) (statement_length hash bs)) ≡ None → Unended bs
    by true hash p e = absurd (some_is_none e)
    by false true p e = absurd (false≢true p)
    by false false p e = none_inside (statement_length false bs) e

-- bytes of a class of plain ones may be left out in front
behind_class : (test : ℕ → Bool) → ((b : ℕ) → test b ≡ true → is_plain b ≡ true) → (bs : List ℕ) → Unended bs → Unended (drop (prefix_len test bs) bs)
behind_class test plain [] h = refl
behind_class test plain (b ∷ bs) h = by (test b) refl (behind_class test plain bs)
  where
    by : (c : Bool) → test b ≡ c → (Unended bs → Unended (drop (prefix_len test bs) bs)) → Unended (drop (cond c (1 + prefix_len test bs) 0) (b ∷ bs))
    by true q rec = shifted (prefix_len test bs) b bs (rec (behind_plain b bs (plain b q) h))
    by false q rec = h

and_left : (a b : Bool) → (a && b) ≡ true → a ≡ true
and_left true b e = refl
and_left false b e = absurd (false≢true e)

and_right : (a b : Bool) → (a && b) ≡ true → b ≡ true
and_right true b e = e
and_right false b e = absurd (false≢true e)

-- the bytes of a spelling
behind_spelling : (s bs : List ℕ) → starts_with nat_eq bs s ≡ true → list_all is_plain s ≡ true → Unended bs → Unended (drop (length s) bs)
behind_spelling [] bs at p h = h
behind_spelling (c ∷ s) [] at p h = h
behind_spelling (c ∷ s) (b ∷ bs) at p h = behind_spelling s bs (and_right (nat_eq c b) (starts_with nat_eq bs s) at) (and_right (is_plain c) (list_all is_plain s) p) (behind_plain b bs (subst (λ x. is_plain x ≡ true) (eqb-true c b (and_left (nat_eq c b) (starts_with nat_eq bs s) at)) (and_left (is_plain c) (list_all is_plain s) p)) h)

-- a keyword or sign is a semicolon, spelled so, or has only plain bytes
abbrev first_is_semicolon : List ℕ → Bool
first_is_semicolon [] = false
first_is_semicolon (b ∷ bs) = nat_eq b 59

abbrev is_clear : Kind → Bool
is_clear k = cond (same_kind k kind.Semicolon) (first_is_semicolon (spelled k)) (list_all is_plain (spelled k))

signs_are_clear : list_all is_clear SIGNS ≡ true
signs_are_clear = refl

abbrev is_no_semicolon : Kind → Bool
is_no_semicolon k = not (same_kind k kind.Semicolon)

keywords_are_none : list_all is_no_semicolon KEYWORDS ≡ true
keywords_are_none = refl

-- a class without `;` and `#` has plain bytes
plain_of : (test : ℕ → Bool) → test 59 ≡ false → test 35 ≡ false → (b : ℕ) → test b ≡ true → is_plain b ≡ true
plain_of test semi hash b t = by (nat_eq b 59) (nat_eq b 35) (λ e. eqb-true b 59 e) (λ e. eqb-true b 35 e)
  where
    by : (x y : Bool) → (x ≡ true → b ≡ 59) → (y ≡ true → b ≡ 35) → (not x && not y) ≡ true
    by true y f g = absurd (false≢true (sym semi ∙ ap test (sym (f refl)) ∙ t))
    by false true f g = absurd (false≢true (sym hash ∙ ap test (sym (g refl)) ∙ t))
    by false false f g = refl

-- a keyword is no semicolon
keyword_found : (ks : List Kind) (word : List ℕ) (k : Kind) → list_all is_no_semicolon ks ≡ true → keyword_in ks word ≡ Some k → is_no_semicolon k ≡ true
keyword_found [] word k all e = absurd (not_none k e)
keyword_found (j ∷ js) word k all e = by (pointwise nat_eq (spelled j) word) e (keyword_found js word k (and_right (is_no_semicolon j) (list_all is_no_semicolon js) all))
  where
    by : (c : Bool) → cond c (Some j) (keyword_in js word) ≡ Some k → (keyword_in js word ≡ Some k → is_no_semicolon k ≡ true) → is_no_semicolon k ≡ true
    by true e rec = subst (λ x. is_no_semicolon x ≡ true) (same_some j k e) (and_left (is_no_semicolon j) (list_all is_no_semicolon js) all)
    by false e rec = rec e

-- a sign that is found is clear, and the bytes begin with it
record IsFound (bs : List ℕ) (k : Kind) : Type 0 where
  clear : is_clear k ≡ true
  begins : starts_with nat_eq bs (spelled k) ≡ true

sign_found : (ks : List Kind) (bs : List ℕ) (k : Kind) → list_all is_clear ks ≡ true → sign_in ks bs ≡ Some k → IsFound bs k
sign_found [] bs k all e = absurd (not_none k e)
sign_found (j ∷ js) bs k all e = by (starts_with nat_eq bs (spelled j)) refl e (sign_found js bs k (and_right (is_clear j) (list_all is_clear js) all))
  where
    by : (c : Bool) → starts_with nat_eq bs (spelled j) ≡ c → cond c (Some j) (sign_in js bs) ≡ Some k → (sign_in js bs ≡ Some k → IsFound bs k) → IsFound bs k
    by true q e rec = subst (IsFound bs) (same_some j k e) (record { clear = and_left (is_clear j) (list_all is_clear js) all; begins = q })
    by false q e rec = rec e

-- what is known of the token in front of bytes without a whole statement: it is no semicolon, and the bytes behind it have none either
record IsPassed (b : ℕ) (bs : List ℕ) (x : Lexeme) : Type 0 where
  other_token : is_kind kind.Semicolon x.token ≡ false
  behind : is_bad x.token ≡ false → Unended (drop x.size (b ∷ bs))

not_true : (x : Bool) → not x ≡ true → x ≡ false
not_true true e = absurd (false≢true e)
not_true false e = refl

word_other : (word : List ℕ) (o : Option Kind) → keyword_in KEYWORDS word ≡ o → is_kind kind.Semicolon (word_token word) ≡ false
word_other word None e = rw e refl
word_other word (Some k) e = rw e (not_true (same_kind k kind.Semicolon) (keyword_found KEYWORDS word k keywords_are_none e))

word_passed : (b : ℕ) (bs : List ℕ) → Unended (b ∷ bs) → IsPassed b bs (word_lexeme (b ∷ bs))
word_passed b bs h = let word = take (prefix_len is_in_word (b ∷ bs)) (b ∷ bs) in record { other_token = word_other word (keyword_in KEYWORDS word) refl; behind = λ _. behind_class is_in_word (plain_of is_in_word refl refl) (b ∷ bs) h }

number_passed : (b : ℕ) (bs : List ℕ) → Unended (b ∷ bs) → IsPassed b bs (number_lexeme (b ∷ bs))
number_passed b bs h = record { other_token = refl; behind = λ _. behind_class is_digit (plain_of is_digit refl refl) (b ∷ bs) h }

sign_passed : (b : ℕ) (bs : List ℕ) (o : Option Kind) → sign_in SIGNS (b ∷ bs) ≡ o → Unended (b ∷ bs) → IsPassed b bs (sign_lexeme o)
sign_passed b bs None e h = record { other_token = refl; behind = λ bad. absurd (false≢true (sym bad)) }
sign_passed b bs (Some k) e h = let found = sign_found SIGNS (b ∷ bs) k signs_are_clear e in by (same_kind k kind.Semicolon) refl found.clear found.begins
  where
    semicolon_first : (s : List ℕ) → first_is_semicolon s ≡ true → starts_with nat_eq (b ∷ bs) s ≡ true → b ≡ 59
    semicolon_first [] e at = absurd (false≢true e)
    semicolon_first (c ∷ s) e at = sym (eqb-true c b (and_left (nat_eq c b) (starts_with nat_eq bs s) at)) ∙ eqb-true c 59 e

    never : b ≡ 59 → ⊥
    never is = some_is_none (subst (λ x. Unended (x ∷ bs)) is h)

    by : (c : Bool) → same_kind k kind.Semicolon ≡ c → cond c (first_is_semicolon (spelled k)) (list_all is_plain (spelled k)) ≡ true → starts_with nat_eq (b ∷ bs) (spelled k) ≡ true → IsPassed b bs (sign_lexeme (Some k))
    by true q clear at = absurd (never (semicolon_first (spelled k) clear at))
    by false q clear at = record { other_token = q; behind = λ _. behind_spelling (spelled k) (b ∷ bs) at clear h }

lexeme_passed : (b : ℕ) (bs : List ℕ) → Unended (b ∷ bs) → IsPassed b bs (lexeme b bs)
lexeme_passed b bs h = by (begins_word b) (is_digit b)
  where
    by : (word digit : Bool) → IsPassed b bs (cond word (word_lexeme (b ∷ bs)) (cond digit (number_lexeme (b ∷ bs)) (sign_lexeme (sign_in SIGNS (b ∷ bs)))))
    by true digit = word_passed b bs h
    by false true = number_passed b bs h
    by false false = sign_passed b bs (sign_in SIGNS (b ∷ bs)) refl h

none_either : (x y : Bool) → x ≡ false → y ≡ false → (x || y) ≡ false
none_either x y e f = rw e f

lexed_unended : (n place : ℕ) (bs : List ℕ) → Unended bs → ends (lexed n place bs) ≡ false
lexed_unended zero place bs h = refl
lexed_unended (suc n) place bs h = front (drop (blank_length false bs) bs) (behind_blanks false bs h) (λ p r u. lexed_unended n p r u)
  where
    front : (rest : List ℕ) → Unended rest → ((p : ℕ) (r : List ℕ) → Unended r → ends (lexed n p r) ≡ false) → ends (after_blanks (lexed n) (place + blank_length false bs) rest) ≡ false
    front [] u rec = refl
    front (b ∷ rest) u rec = let passed = lexeme_passed b rest u in none_either (is_kind kind.Semicolon (lexeme b rest).token) (ends (cond (is_bad (lexeme b rest).token) [] (lexed n ((place + blank_length false bs) + (lexeme b rest).size) (drop (lexeme b rest).size (b ∷ rest))))) passed.other_token (by (is_bad (lexeme b rest).token) passed.behind)
      where
        by : (bad : Bool) → (bad ≡ false → Unended (drop (lexeme b rest).size (b ∷ rest))) → ends (cond bad [] (lexed n ((place + blank_length false bs) + (lexeme b rest).size) (drop (lexeme b rest).size (b ∷ rest)))) ≡ false
        by true g = refl
        by false g = rec ((place + blank_length false bs) + (lexeme b rest).size) (drop (lexeme b rest).size (b ∷ rest)) (g refl)

-- the tokens of bytes without a whole statement have no semicolon
pub rest_has_none : (place : ℕ) (bs : List ℕ) → statement_length false bs ≡ None → ends (tokens_of place bs) ≡ false
rest_has_none place bs h = lexed_unended (suc (length bs)) place bs h

ends_behind : (xs ys : List PlacedToken) → ends ys ≡ true → ends (xs ++ ys) ≡ true
ends_behind [] ys e = e
ends_behind (x ∷ xs) ys e = by (is_kind kind.Semicolon x.token) (ends_behind xs ys e)
  where
    by : (c : Bool) → ends (xs ++ ys) ≡ true → (c || ends (xs ++ ys)) ≡ true
    by true e = refl
    by false e = e

described_ends : (k : Kind) (x : Described) → ends (described_toks k x) ≡ true
described_ends k x = ends_behind (header.toks x.left) (at k x.right.left ∷ (form_toks x.right.right.left ++ at kind.Semicolon x.right.right.right ∷ [])) (ends_behind (at k x.right.left ∷ []) (form_toks x.right.right.left ++ at kind.Semicolon x.right.right.right ∷ []) (ends_behind (form_toks x.right.right.left) (at kind.Semicolon x.right.right.right ∷ []) refl))

-- a turn of a loop ends with one
turn_ends : (x : turn.Tree) → ends (turn.toks x) ≡ true
turn_ends x = ends_behind (guard.toks x.left) (at kind.Do x.right.left ∷ (assigns.toks x.right.right.left ++ at kind.Semicolon x.right.right.right ∷ [])) (ends_behind (assigns.toks x.right.right.left) (at kind.Semicolon x.right.right.right ∷ []) refl)

-- the tokens of a whole statement have one
pub statement_has_one : (a : Statement) → ends (whole_statement.toks a) ≡ true
statement_has_one (first x) = described_ends kind.Colon x.right
statement_has_one (other (first x)) = described_ends kind.Equals x.right.right
statement_has_one (other (other (first x))) = refl
statement_has_one (other (other (other (first x)))) = refl
statement_has_one (other (other (other (other (first x))))) = ends_behind (values.toks x.right.right.right.left) (at kind.Close x.right.right.right.right.left ∷ at kind.Semicolon x.right.right.right.right.right ∷ []) refl
statement_has_one (other (other (other (other (other (first x)))))) = refl
statement_has_one (other (other (other (other (other (other (first x))))))) = refl
statement_has_one (other (other (other (other (other (other (other (first x)))))))) = ends_behind (form_toks x.right.left) (at kind.Semicolon x.right.right ∷ []) refl
statement_has_one (other (other (other (other (other (other (other (other x)))))))) = ends_behind (declarations.toks x.right.right.right.left) (at kind.Close x.right.right.right.right.left ∷ (at kind.When x.right.right.right.right.right.left ∷ turn.toks x.right.right.right.right.right.right)) (turn_ends x.right.right.right.right.right.right)

not_empty : (b : ℕ) (bs : List ℕ) → b ∷ bs ≡ [] → ⊥
not_empty b bs e = absurd (cc)

behind_first : (k b : ℕ) (bs : List ℕ) → drop (1 + k) (b ∷ bs) ≡ [] → drop k bs ≡ []
behind_first k b bs e = let one : 1 + k ≡ suc k = omega arith in subst (λ n. drop n (b ∷ bs) ≡ []) one e

-- bytes that are blanks and comments to the end hold no whole statement
blank_to_the_end : (c : Bool) (bs : List ℕ) → drop (blank_length c bs) bs ≡ [] → statement_length c bs ≡ None
blank_to_the_end true [] e = refl
blank_to_the_end false [] e = refl
blank_to_the_end true (b ∷ bs) e = ap (option_map (λ n. n + 1)) (blank_to_the_end (not (nat_eq b 10)) bs (behind_first (blank_length (not (nat_eq b 10)) bs) b bs e))
blank_to_the_end false (b ∷ bs) e = by (nat_eq b 59) (nat_eq b 35) (is_blank b) (λ q. eqb-true b 59 q) refl refl e (blank_to_the_end true bs) (blank_to_the_end false bs)
  where
    by : (semi hash blank : Bool) → (semi ≡ true → b ≡ 59) → nat_eq b 35 ≡ hash → is_blank b ≡ blank → drop (cond hash (1 + blank_length true bs) (cond blank (1 + blank_length false bs) 0)) (b ∷ bs) ≡ [] → (drop (blank_length true bs) bs ≡ [] → statement_length true bs ≡ None) → (drop (blank_length false bs) bs ≡ [] → statement_length false bs ≡ None) → cond semi (Some 1) (option_map (λ n. n + 1) (statement_length hash bs)) ≡ None
    by true true blank semi h k e in_comment in_text = absurd (false≢true (ap (λ x. nat_eq x 35) (sym (semi refl)) ∙ h))
    by true false true semi h k e in_comment in_text = absurd (false≢true (ap is_blank (sym (semi refl)) ∙ k))
    by true false false semi h k e in_comment in_text = absurd (not_empty b bs e)
    by false true blank semi h k e in_comment in_text = ap (option_map (λ n. n + 1)) (in_comment (behind_first (blank_length true bs) b bs e))
    by false false true semi h k e in_comment in_text = ap (option_map (λ n. n + 1)) (in_text (behind_first (blank_length false bs) b bs e))
    by false false false semi h k e in_comment in_text = absurd (not_empty b bs e)

-- a whole statement has a token
pub whole_has_token : (place : ℕ) (bs : List ℕ) (n : ℕ) → statement_length false bs ≡ Some n → tokens_of place bs ≡ [] → ⊥
whole_has_token place bs n whole none = some_is_none (sym whole ∙ blank_to_the_end false bs (nothing_left (drop (blank_length false bs) bs) none))
  where
    nothing_left : (rest : List ℕ) → after_blanks (lexed (length bs)) (place + blank_length false bs) rest ≡ [] → rest ≡ []
    nothing_left [] e = refl
    nothing_left (b ∷ rest) e = absurd (some_token e)
      where
        some_token : {t : PlacedToken} {ts : List PlacedToken} → t ∷ ts ≡ [] → ⊥
        some_token e = absurd (cc)
