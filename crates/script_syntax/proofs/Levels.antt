-- The levels of formulas, by what is kept of their trees.
use Rattle.std.proofs.Common.{◌≡◌, ℕ, suc, ◌+◌, ◌-◌, ◌≤◌, ◌<◌, List, [], ◌∷◌, length, drop, arith, refl, ◌∙◌, sym, ap, Option, Some, true, false}
use Rattle.parser_laws.specs.Parsing.{Halt, Res, done, halt, Either, first, other, Pair, starts_with, res_map, shift, then_second, seq, one, one_of, none, Lang, both, either, perhaps, items, seen_in}
use Rattle.parser_laws.specs.Placed.{placed_view}
use Rattle.script_tokens.specs.declared.kind.Kind.{Kind}
use Rattle.script_tokens.specs.declared.kind.Kind.TheVariants as kind
use Rattle.script_tokens.specs.Tokens.{PlacedToken}
use Rattle.script_grammar.specs.Views.{Quantifier, is, is_quantifier, place_view, sign, quantifier, quantifier_view}
use Rattle.script_grammar.specs.Terms.{atom, declarations}
use Rattle.script_grammar.specs.Formulas.{Form, Unary, And, Or, Imp, unary_of, more_units_of, and_of, more_ands_of, or_of, imp_of, iff_of, form_of, unary_lang, and_lang, or_lang, imp_lang, iff_lang, form_lang, Levels, not_lang, paren_lang, quant_lang, room}
use Rattle.script_syntax.specs.Reading.{folded, forgotten, view_at}
use Rattle.script_syntax.specs.Trees.{TreeShape, Not, Implies, Equivalent, Quantified, DeclarationShape, without_place, declarations_shape, atom_shape, unary_shape, more_units_shape, and_shape, more_ands_shape, or_shape, imp_shape, iff_shape, form_shape, add_and, add_or, units_read, ands_read}
use Rattle.script_syntax.proofs.InHand.{sign_in_hand, view_held}
use Rattle.script_syntax.proofs.Sequences.{map_twice, seq_read, seq_halts, seq_ok, seq_err, mapped_done, mapped_halt, taken, left_out}

pub sign_read : (k : Kind) (ts v : List PlacedToken) → starts_with (is k) ts ≡ true → v ≡ drop 1 ts → res_map forgotten ((sign k).parse ts) ≡ done tt v
sign_read k ts v e f = let h = sign_in_hand k ts e in ap (λ us. res_map forgotten (one (place_view k) us)) h.front ∙ ap (λ o. res_map forgotten (one_of o (drop 1 ts))) h.viewed ∙ ap (λ us. done tt us) (sym f)

pub one_shorter : (k : Kind) (ts v : List PlacedToken) → starts_with (is k) ts ≡ true → v ≡ drop 1 ts → length ts ≡ 1 + length v
one_shorter k ts v e f = let h = sign_in_hand k ts e in omega (arith, ap length h.front, ap length f)

map_same : {T A B : Type 0} (f g : A → B) (r : Res T A) → ((a : A) → f a ≡ g a) → res_map f r ≡ res_map g r
map_same f g (done a w) h = ap (λ b. done b w) (h a)
map_same f g (halt h k) e = refl

-- lists of `and` and of `or`
units_folded : (l : List (Pair ℕ Unary)) (s : TreeShape) → more_units_shape (more_units_of l) s ≡ folded add_and s l
units_folded [] s = refl
units_folded (x ∷ l) s = units_folded l (add_and s x)

ands_folded : (l : List (Pair ℕ And)) (s : TreeShape) → more_ands_shape (more_ands_of l) s ≡ folded add_or s l
ands_folded [] s = refl
ands_folded (x ∷ l) s = ands_folded l (add_or s x)

and_parts : (o : Option Levels) (ts : List PlacedToken) → res_map and_shape ((and_lang o 0).parse ts) ≡ res_map (λ x. folded add_and (unary_shape x.left) x.right) (then_second (length ts) (items (is kind.And) (both (sign kind.And) (unary_lang o 0))).parse ((unary_lang o 0).parse ts))
and_parts o ts =
    let r = then_second (length ts) (items (is kind.And) (both (sign kind.And) (unary_lang o 0))).parse ((unary_lang o 0).parse ts) in
    map_twice and_of and_shape r ∙ map_same (λ x. and_shape (and_of x)) (λ x. folded add_and (unary_shape x.left) x.right) r (λ x. units_folded x.right (unary_shape x.left))

pub and_halts : (o : Option Levels) (ts : List PlacedToken) (h : Halt) (k : ℕ) → res_map unary_shape ((unary_lang o 0).parse ts) ≡ halt h k → res_map and_shape ((and_lang o 0).parse ts) ≡ halt h k
and_halts o ts h k e = and_parts o ts ∙ seq_halts unary_shape (λ x. folded add_and (unary_shape x.left) x.right) (length ts) (items (is kind.And) (both (sign kind.And) (unary_lang o 0))).parse ((unary_lang o 0).parse ts) h k e

pub and_read : (o : Option Levels) (ts w : List PlacedToken) (d : TreeShape) → res_map unary_shape ((unary_lang o 0).parse ts) ≡ done d w → res_map and_shape ((and_lang o 0).parse ts) ≡ shift (length ts - length w) (units_read o (length w) d w)
and_read o ts w d e = and_parts o ts ∙ seq_read unary_shape (λ d l. folded add_and d l) (length ts) (items (is kind.And) (both (sign kind.And) (unary_lang o 0))).parse ((unary_lang o 0).parse ts) d w e

or_parts : (o : Option Levels) (ts : List PlacedToken) → res_map or_shape ((or_lang o 0).parse ts) ≡ res_map (λ x. folded add_or (and_shape x.left) x.right) (then_second (length ts) (items (is kind.Or) (both (sign kind.Or) (and_lang o 0))).parse ((and_lang o 0).parse ts))
or_parts o ts =
    let r = then_second (length ts) (items (is kind.Or) (both (sign kind.Or) (and_lang o 0))).parse ((and_lang o 0).parse ts) in
    map_twice or_of or_shape r ∙ map_same (λ x. or_shape (or_of x)) (λ x. folded add_or (and_shape x.left) x.right) r (λ x. ands_folded x.right (and_shape x.left))

pub or_halts : (o : Option Levels) (ts : List PlacedToken) (h : Halt) (k : ℕ) → res_map and_shape ((and_lang o 0).parse ts) ≡ halt h k → res_map or_shape ((or_lang o 0).parse ts) ≡ halt h k
or_halts o ts h k e = or_parts o ts ∙ seq_halts and_shape (λ x. folded add_or (and_shape x.left) x.right) (length ts) (items (is kind.Or) (both (sign kind.Or) (and_lang o 0))).parse ((and_lang o 0).parse ts) h k e

pub or_read : (o : Option Levels) (ts w : List PlacedToken) (d : TreeShape) → res_map and_shape ((and_lang o 0).parse ts) ≡ done d w → res_map or_shape ((or_lang o 0).parse ts) ≡ shift (length ts - length w) (ands_read o (length w) d w)
or_read o ts w d e = or_parts o ts ∙ seq_read and_shape (λ d l. folded add_or d l) (length ts) (items (is kind.Or) (both (sign kind.Or) (and_lang o 0))).parse ((and_lang o 0).parse ts) d w e

-- a level with at most two parts
module _ (k : Kind) (L : Lang PlacedToken) (keep : L.Tree → TreeShape) (join : TreeShape → TreeShape → TreeShape) where
  abbrev pub paired : TreeShape → Either (Pair ℕ L.Tree) Unit → TreeShape
  paired s (first y) = join s (keep y.right)
  paired s (other y) = s

  abbrev pub pair_read : List PlacedToken → Res PlacedToken TreeShape
  pair_read ts = res_map (λ x. paired (keep x.left) x.right) (then_second (length ts) (perhaps (is k) (both (sign k) L)).parse (L.parse ts))

  pub pair_halts : (ts : List PlacedToken) (h : Halt) (j : ℕ) → res_map keep (L.parse ts) ≡ halt h j → pair_read ts ≡ halt h j
  pair_halts ts h j e = seq_halts keep (λ x. paired (keep x.left) x.right) (length ts) (perhaps (is k) (both (sign k) L)).parse (L.parse ts) h j e

  pub pair_alone : (ts w : List PlacedToken) (d : TreeShape) → res_map keep (L.parse ts) ≡ done d w → starts_with (is k) w ≡ false → pair_read ts ≡ done d w
  pair_alone ts w d e f = seq_ok keep paired (length ts) (perhaps (is k) (both (sign k) L)).parse (L.parse ts) d w d w e (left_out (is k) (both (sign k) L).parse none (paired d) w f)

  pub pair_both : (ts w v u : List PlacedToken) (d b : TreeShape) → res_map keep (L.parse ts) ≡ done d w → starts_with (is k) w ≡ true → v ≡ drop 1 w → res_map keep (L.parse v) ≡ done b u → pair_read ts ≡ done (join d b) u
  pair_both ts w v u d b e f g h = seq_ok keep paired (length ts) (perhaps (is k) (both (sign k) L)).parse (L.parse ts) d w (join d b) u e
      (taken (is k) (both (sign k) L).parse none (paired d) w f ∙ seq_ok forgotten (λ z t. join d (keep t)) (length w) L.parse ((sign k).parse w) tt v (join d b) u (sign_read k w v f g) (mapped_done keep (λ t. join d t) (L.parse v) b u h))

  pub pair_second_halts : (ts w v after : List PlacedToken) (d : TreeShape) (c : Halt) → res_map keep (L.parse ts) ≡ done d w → length w ≤ length ts → starts_with (is k) w ≡ true → v ≡ drop 1 w → length after ≤ length v → res_map keep (L.parse v) ≡ halt c (length v - length after) → pair_read ts ≡ halt c (length ts - length after)
  pair_second_halts ts w v after d c e l f g m h = seq_err keep paired (length ts) (perhaps (is k) (both (sign k) L)).parse (L.parse ts) d w c after e l (omega (arith, one_shorter k w v f g))
      (taken (is k) (both (sign k) L).parse none (paired d) w f ∙ seq_err forgotten (λ z t. join d (keep t)) (length w) L.parse ((sign k).parse w) tt v c after (sign_read k w v f g) (omega (arith, one_shorter k w v f g)) m (mapped_halt keep (λ t. join d t) (L.parse v) c (length v - length after) h))

pub imp_parts : (o : Option Levels) (ts : List PlacedToken) → res_map imp_shape ((imp_lang o 0).parse ts) ≡ pair_read kind.Implies (or_lang o 0) or_shape Implies ts
imp_parts o ts =
    let r = then_second (length ts) (perhaps (is kind.Implies) (both (sign kind.Implies) (or_lang o 0))).parse ((or_lang o 0).parse ts) in
    map_twice imp_of imp_shape r ∙ map_same (λ x. imp_shape (imp_of x)) (λ x. paired kind.Implies (or_lang o 0) or_shape Implies (or_shape x.left) x.right) r (λ x. same x.left x.right)
  where
    same : (a : Or) (e : Either (Pair ℕ Or) Unit) → imp_shape (imp_of (record { left = a; right = e })) ≡ paired kind.Implies (or_lang o 0) or_shape Implies (or_shape a) e
    same a (first y) = refl
    same a (other y) = refl

pub iff_parts : (o : Option Levels) (ts : List PlacedToken) → res_map iff_shape ((iff_lang o 0).parse ts) ≡ pair_read kind.Equivalent (imp_lang o 0) imp_shape Equivalent ts
iff_parts o ts =
    let r = then_second (length ts) (perhaps (is kind.Equivalent) (both (sign kind.Equivalent) (imp_lang o 0))).parse ((imp_lang o 0).parse ts) in
    map_twice iff_of iff_shape r ∙ map_same (λ x. iff_shape (iff_of x)) (λ x. paired kind.Equivalent (imp_lang o 0) imp_shape Equivalent (imp_shape x.left) x.right) r (λ x. same x.left x.right)
  where
    same : (a : Imp) (e : Either (Pair ℕ Imp) Unit) → iff_shape (iff_of (record { left = a; right = e })) ≡ paired kind.Equivalent (imp_lang o 0) imp_shape Equivalent (imp_shape a) e
    same a (first y) = refl
    same a (other y) = refl

-- unary formulas
deeper : (d : ℕ) → 0 < d → d ≡ suc (d - 1)
deeper d h = omega arith

not_parts : (n : ℕ) (ts : List PlacedToken) → starts_with (is kind.Not) ts ≡ true → res_map unary_shape ((unary_lang (room (suc n)) 0).parse ts) ≡ res_map (λ x. Not (unary_shape x.right)) (then_second (length ts) (unary_lang (room n) 0).parse ((sign kind.Not).parse ts))
not_parts n ts e = map_twice unary_of unary_shape _ ∙ taken (is kind.Not) (not_lang (room (suc n)) 0).parse (either (is kind.Open) (paren_lang (room (suc n)) 0) atom).parse (λ a. unary_shape (unary_of a)) ts e

pub not_read : (d : ℕ) (ts v u : List PlacedToken) (b : TreeShape) → 0 < d → starts_with (is kind.Not) ts ≡ true → v ≡ drop 1 ts → res_map unary_shape ((unary_lang (room (d - 1)) 0).parse v) ≡ done b u → res_map unary_shape ((unary_lang (room d) 0).parse ts) ≡ done (Not b) u
not_read d ts v u b l e f g = ap (λ i. res_map unary_shape ((unary_lang (room i) 0).parse ts)) (deeper d l) ∙ not_parts (d - 1) ts e ∙ seq_ok forgotten (λ z t. Not (unary_shape t)) (length ts) (unary_lang (room (d - 1)) 0).parse ((sign kind.Not).parse ts) tt v (Not b) u (sign_read kind.Not ts v e f) (mapped_done unary_shape (λ t. Not t) ((unary_lang (room (d - 1)) 0).parse v) b u g)

pub not_halts : (d : ℕ) (ts v after : List PlacedToken) (c : Halt) → 0 < d → starts_with (is kind.Not) ts ≡ true → v ≡ drop 1 ts → length after ≤ length v → res_map unary_shape ((unary_lang (room (d - 1)) 0).parse v) ≡ halt c (length v - length after) → res_map unary_shape ((unary_lang (room d) 0).parse ts) ≡ halt c (length ts - length after)
not_halts d ts v after c l e f m g = ap (λ i. res_map unary_shape ((unary_lang (room i) 0).parse ts)) (deeper d l) ∙ not_parts (d - 1) ts e ∙ seq_err forgotten (λ z t. Not (unary_shape t)) (length ts) (unary_lang (room (d - 1)) 0).parse ((sign kind.Not).parse ts) tt v c after (sign_read kind.Not ts v e f) (omega (arith, one_shorter kind.Not ts v e f)) m (mapped_halt unary_shape (λ t. Not t) ((unary_lang (room (d - 1)) 0).parse v) c (length v - length after) g)

pub simple_read : (o : Option Levels) (ts : List PlacedToken) → starts_with (is kind.Not) ts ≡ false → starts_with (is kind.Open) ts ≡ false → res_map unary_shape ((unary_lang o 0).parse ts) ≡ res_map atom_shape (atom.parse ts)
simple_read o ts e f = map_twice unary_of unary_shape _ ∙ left_out (is kind.Not) (not_lang o 0).parse (either (is kind.Open) (paren_lang o 0) atom).parse (λ a. unary_shape (unary_of a)) ts e ∙ left_out (is kind.Open) (paren_lang o 0).parse atom.parse (λ a. unary_shape (unary_of (other a))) ts f

group_parts : (n : ℕ) (ts : List PlacedToken) → starts_with (is kind.Not) ts ≡ false → starts_with (is kind.Open) ts ≡ true → res_map unary_shape ((unary_lang (room (suc n)) 0).parse ts) ≡ res_map (λ x. form_shape x.right.left) (then_second (length ts) (seq (form_lang (room n) 0).parse (sign kind.Close).parse) ((sign kind.Open).parse ts))
group_parts n ts e f = map_twice unary_of unary_shape _ ∙ left_out (is kind.Not) (not_lang (room (suc n)) 0).parse (either (is kind.Open) (paren_lang (room (suc n)) 0) atom).parse (λ a. unary_shape (unary_of a)) ts e ∙ taken (is kind.Open) (paren_lang (room (suc n)) 0).parse atom.parse (λ a. unary_shape (unary_of (other a))) ts f

pub group_read : (d : ℕ) (ts v u z : List PlacedToken) (b : TreeShape) → 0 < d → starts_with (is kind.Not) ts ≡ false → starts_with (is kind.Open) ts ≡ true → v ≡ drop 1 ts → res_map form_shape ((form_lang (room (d - 1)) 0).parse v) ≡ done b u → res_map forgotten ((sign kind.Close).parse u) ≡ done tt z → res_map unary_shape ((unary_lang (room d) 0).parse ts) ≡ done b z
group_read d ts v u z b l e f g h i = ap (λ i. res_map unary_shape ((unary_lang (room i) 0).parse ts)) (deeper d l) ∙ group_parts (d - 1) ts e f ∙ seq_ok forgotten (λ z t. form_shape t.left) (length ts) (seq (form_lang (room (d - 1)) 0).parse (sign kind.Close).parse) ((sign kind.Open).parse ts) tt v b z (sign_read kind.Open ts v f g)
    (seq_ok form_shape (λ t p. t) (length v) (sign kind.Close).parse ((form_lang (room (d - 1)) 0).parse v) b u b z h (mapped_done forgotten (λ x. b) ((sign kind.Close).parse u) tt z i))

pub group_halts : (d : ℕ) (ts v after : List PlacedToken) (c : Halt) → 0 < d → starts_with (is kind.Not) ts ≡ false → starts_with (is kind.Open) ts ≡ true → v ≡ drop 1 ts → length after ≤ length v → res_map form_shape ((form_lang (room (d - 1)) 0).parse v) ≡ halt c (length v - length after) → res_map unary_shape ((unary_lang (room d) 0).parse ts) ≡ halt c (length ts - length after)
group_halts d ts v after c l e f g m h = ap (λ i. res_map unary_shape ((unary_lang (room i) 0).parse ts)) (deeper d l) ∙ group_parts (d - 1) ts e f ∙ seq_err forgotten (λ z t. form_shape t.left) (length ts) (seq (form_lang (room (d - 1)) 0).parse (sign kind.Close).parse) ((sign kind.Open).parse ts) tt v c after (sign_read kind.Open ts v f g) (omega (arith, one_shorter kind.Open ts v f g)) m
    (seq_halts form_shape (λ y. form_shape y.left) (length v) (sign kind.Close).parse ((form_lang (room (d - 1)) 0).parse v) c (length v - length after) h)

pub group_open : (d : ℕ) (ts v u after : List PlacedToken) (b : TreeShape) (c : Halt) → 0 < d → starts_with (is kind.Not) ts ≡ false → starts_with (is kind.Open) ts ≡ true → v ≡ drop 1 ts → res_map form_shape ((form_lang (room (d - 1)) 0).parse v) ≡ done b u → length u ≤ length v → length after ≤ length u → res_map forgotten ((sign kind.Close).parse u) ≡ halt c (length u - length after) → res_map unary_shape ((unary_lang (room d) 0).parse ts) ≡ halt c (length ts - length after)
group_open d ts v u after b c l e f g h m n i = ap (λ i. res_map unary_shape ((unary_lang (room i) 0).parse ts)) (deeper d l) ∙ group_parts (d - 1) ts e f ∙ seq_err forgotten (λ z t. form_shape t.left) (length ts) (seq (form_lang (room (d - 1)) 0).parse (sign kind.Close).parse) ((sign kind.Open).parse ts) tt v c after (sign_read kind.Open ts v f g) (omega (arith, one_shorter kind.Open ts v f g)) (omega (arith, m, n))
    (seq_err form_shape (λ t p. t) (length v) (sign kind.Close).parse ((form_lang (room (d - 1)) 0).parse v) b u c after h m n (mapped_halt forgotten (λ x. b) ((sign kind.Close).parse u) c (length u - length after) i))

-- formulas
pub plain_read : (o : Option Levels) (ts : List PlacedToken) → starts_with is_quantifier ts ≡ false → res_map form_shape ((form_lang o 0).parse ts) ≡ res_map iff_shape ((iff_lang o 0).parse ts)
plain_read o ts e = map_twice form_of form_shape _ ∙ left_out is_quantifier (quant_lang o 0).parse (iff_lang o 0).parse (λ a. form_shape (form_of a)) ts e

quant_parts : (n : ℕ) (ts : List PlacedToken) → starts_with is_quantifier ts ≡ true → res_map form_shape ((form_lang (room (suc n)) 0).parse ts) ≡ res_map (λ x. Quantified x.left.left (declarations_shape x.right.left) (form_shape x.right.right.right)) (then_second (length ts) (seq declarations.parse (seq (sign kind.Colon).parse (form_lang (room n) 0).parse)) (quantifier.parse ts))
quant_parts n ts e = map_twice form_of form_shape _ ∙ taken is_quantifier (quant_lang (room (suc n)) 0).parse (iff_lang (room (suc n)) 0).parse (λ a. form_shape (form_of a)) ts e

-- a quantifier in hand
pub record QuantifierRead (ts v : List PlacedToken) (w : Quantifier) : Type 0 where
  pub seen : starts_with is_quantifier ts ≡ true
  pub read : res_map without_place (quantifier.parse ts) ≡ done w v
  pub shorter : length ts ≡ 1 + length v

pub quantifier_read : (ts v : List PlacedToken) (w : Quantifier) → view_at quantifier_view ts ≡ Some w → v ≡ drop 1 ts → QuantifierRead ts v w
quantifier_read ts v w e f =
    let h = view_held quantifier_view ts w e in
    record {
      seen = ap (starts_with is_quantifier) h.0.front ∙ ap (λ o. seen_in o) h.0.viewed;
      read = ap (λ us. res_map without_place (one (placed_view quantifier_view) us)) h.0.front ∙ ap (λ o. res_map without_place (one_of o (drop 1 ts))) h.0.viewed ∙ ap (λ q. done q (drop 1 ts)) h.1 ∙ ap (λ us. done w us) (sym f);
      shorter = omega (arith, ap length h.0.front, ap length f);
    }

abbrev quant_join : Quantifier → Pair declarations.Tree (Pair ℕ Form) → TreeShape
quant_join w y = Quantified w (declarations_shape y.left) (form_shape y.right.right)

pub quant_read : (d : ℕ) (ts v u x z : List PlacedToken) (w : Quantifier) (ds : List DeclarationShape) (b : TreeShape) → 0 < d → QuantifierRead ts v w → res_map declarations_shape (declarations.parse v) ≡ done ds u → res_map forgotten ((sign kind.Colon).parse u) ≡ done tt x → res_map form_shape ((form_lang (room (d - 1)) 0).parse x) ≡ done b z → res_map form_shape ((form_lang (room d) 0).parse ts) ≡ done (Quantified w ds b) z
quant_read d ts v u x z w ds b l q e f g = ap (λ i. res_map form_shape ((form_lang (room i) 0).parse ts)) (deeper d l) ∙ quant_parts (d - 1) ts q.seen ∙ seq_ok without_place quant_join (length ts) (seq declarations.parse (seq (sign kind.Colon).parse (form_lang (room (d - 1)) 0).parse)) (quantifier.parse ts) w v (Quantified w ds b) z q.read
    (seq_ok declarations_shape (λ ds y. Quantified w ds (form_shape y.right)) (length v) (seq (sign kind.Colon).parse (form_lang (room (d - 1)) 0).parse) (declarations.parse v) ds u (Quantified w ds b) z e
    (seq_ok forgotten (λ i t. Quantified w ds (form_shape t)) (length u) (form_lang (room (d - 1)) 0).parse ((sign kind.Colon).parse u) tt x (Quantified w ds b) z f (mapped_done form_shape (λ t. Quantified w ds t) ((form_lang (room (d - 1)) 0).parse x) b z g)))

pub quant_uncolon : (d : ℕ) (ts v u after : List PlacedToken) (w : Quantifier) (ds : List DeclarationShape) (c : Halt) → 0 < d → QuantifierRead ts v w → res_map declarations_shape (declarations.parse v) ≡ done ds u → length u ≤ length v → length after ≤ length u → res_map forgotten ((sign kind.Colon).parse u) ≡ halt c (length u - length after) → res_map form_shape ((form_lang (room d) 0).parse ts) ≡ halt c (length ts - length after)
quant_uncolon d ts v u after w ds c l q e m n f = ap (λ i. res_map form_shape ((form_lang (room i) 0).parse ts)) (deeper d l) ∙ quant_parts (d - 1) ts q.seen ∙ seq_err without_place quant_join (length ts) (seq declarations.parse (seq (sign kind.Colon).parse (form_lang (room (d - 1)) 0).parse)) (quantifier.parse ts) w v c after q.read (omega (arith, q.shorter)) (omega (arith, m, n))
    (seq_err declarations_shape (λ ds y. Quantified w ds (form_shape y.right)) (length v) (seq (sign kind.Colon).parse (form_lang (room (d - 1)) 0).parse) (declarations.parse v) ds u c after e m n
    (seq_halts forgotten (λ y. Quantified w ds (form_shape y.right)) (length u) (form_lang (room (d - 1)) 0).parse ((sign kind.Colon).parse u) c (length u - length after) f))

pub quant_halts : (d : ℕ) (ts v u x after : List PlacedToken) (w : Quantifier) (ds : List DeclarationShape) (c : Halt) → 0 < d → QuantifierRead ts v w → res_map declarations_shape (declarations.parse v) ≡ done ds u → length u ≤ length v → res_map forgotten ((sign kind.Colon).parse u) ≡ done tt x → length x ≤ length u → length after ≤ length x → res_map form_shape ((form_lang (room (d - 1)) 0).parse x) ≡ halt c (length x - length after) → res_map form_shape ((form_lang (room d) 0).parse ts) ≡ halt c (length ts - length after)
quant_halts d ts v u x after w ds c l q e m f n i g = ap (λ i. res_map form_shape ((form_lang (room i) 0).parse ts)) (deeper d l) ∙ quant_parts (d - 1) ts q.seen ∙ seq_err without_place quant_join (length ts) (seq declarations.parse (seq (sign kind.Colon).parse (form_lang (room (d - 1)) 0).parse)) (quantifier.parse ts) w v c after q.read (omega (arith, q.shorter)) (omega (arith, m, n, i))
    (seq_err declarations_shape (λ ds y. Quantified w ds (form_shape y.right)) (length v) (seq (sign kind.Colon).parse (form_lang (room (d - 1)) 0).parse) (declarations.parse v) ds u c after e m (omega (arith, n, i))
    (seq_err forgotten (λ j t. Quantified w ds (form_shape t)) (length u) (form_lang (room (d - 1)) 0).parse ((sign kind.Colon).parse u) tt x c after f n i (mapped_halt form_shape (λ t. Quantified w ds t) ((form_lang (room (d - 1)) 0).parse x) c (length x - length after) g)))
