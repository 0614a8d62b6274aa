-- The table of the truth function of two answers stands for the truth function of the sets.
use Rattle.std.proofs.Common.{◌≡◌, ℕ, ◌^◌, ◌<◌, ◌↔◌, Bool, true, false, IsTrue, List, length, map, arith, refl, ◌∙◌, sym, ap, subst, inl, inr}
use Rattle.std.specs.Prelude.{All}
use Rattle.std.specs.List.{slice_index_or}
use Rattle.std.proofs.Math.IntN.{ℤ}
use Rattle.std.proofs.lemmas.List.{get_or-map, length-map}
use Rattle.lash_model.specs.Words.{values}
use Rattle.lash_model.specs.Tables.{Table, IsDiagram}
use Rattle.lash_model.specs.Standing.{StandsForWhole}
use Rattle.lash_model.specs.Acceptance.{accepts_word}
use Rattle.product_ops.specs.Tracks.{TrackLists, pick_entries, read_by}
use Rattle.product_ops.specs.Operations.{truth, joined}
use Rattle.product_ops.specs.Pairs.{Operand, IsOperand, accepts_by, left_operand, right_operand, AcceptsBoth, ReadsPicked}
use Rattle.product_ops.specs.declared.operation.Op.{Op}
use Rattle.product_ops.specs.declared.operation.Op.TheVariants.{And, Or, AndNot}
use Rattle.product_ops.proofs.TrackReading.{read_in, values_read}

-- a word is read as a word
pub word_in : (r n : ℕ) (places w : List ℕ) → 0 < r → All (λ p. p < n) places → All (λ l. l < r ^ n) w → All (λ l. l < r ^ length places)
    (map (read_by r n places) w)
word_in r n places w b h a i d lt =
    let at : i < length w = subst (λ k. i < k) (length-map w (read_by r n places)) lt in
    subst (λ x. x < r ^ length places) (sym (get_or-map (read_by r n places) w i 0 d at)) (read_in r n places (slice_index_or w i 0) b h (a i 0 at))

-- what an operand reads spells the picked numerators
pub reads_picked : (o : Operand) → IsOperand o → ReadsPicked o
reads_picked o h sign w lt a = record {
  sign_in = subst (λ n. read_by 2 o.tracks o.places sign < 2 ^ n) h.count (read_in 2 o.tracks o.places sign (omega arith) h.places.below lt);
  letters_in = subst (λ n. All (λ l. l < o.table.base ^ n) (map (read_by o.table.base o.tracks o.places) w)) h.count (word_in o.table.base o.tracks o.places w some_base h.places.below a);
  spells = ap (λ n. values o.table.base n (read_by 2 o.tracks o.places sign) (map (read_by o.table.base o.tracks o.places) w)) (sym h.count) ∙ values_read o.table.base o.tracks o.places sign w some_base h.places.below lt a;
}
  where
    some_base : 0 < o.table.base
    some_base = omega (arith, h.table.shape.base_low)

-- an operand accepts what it reads exactly where the picked numerators are in its set
operand_stands : (o : Operand) (P : List ℤ → ℕ → Type 0) → ReadsPicked o → StandsForWhole o.table P → (sign : ℕ) (w : List ℕ) → sign < 2 ^ o.tracks → All (λ l. l < o.table.base ^ o.tracks) w → IsTrue (accepts_by o sign w) ↔ P (pick_entries o.places (values o.table.base o.tracks sign w)) 1
operand_stands o P h s sign w lt a =
    let r = h sign w lt a in
    subst (λ ns. IsTrue (accepts_by o sign w) ↔ P ns 1) r.spells (s.each (read_by 2 o.tracks o.places sign) (map (read_by o.table.base o.tracks o.places) w) r.sign_in r.letters_in)

parted : false ≡ true → ⊥
parted e = cc

-- the truth functions agree
pub joins : (op : Op) (x y : Bool) (P Q : List ℤ → ℕ → Type 0) (m : TrackLists) (ns : List ℤ) (d : ℕ) → IsTrue x ↔ P (pick_entries m.left ns) d
    → IsTrue y ↔ Q (pick_entries m.right ns) d → IsTrue (truth op x y) ↔ joined op P Q m ns d
joins And true true P Q m ns d p q = (λ _. (p.0 refl, q.0 refl), λ _. refl)
joins And true false P Q m ns d p q = (λ e. absurd (parted e), λ j. absurd (parted (q.1 j.1)))
joins And false y P Q m ns d p q = (λ e. absurd (parted e), λ j. absurd (parted (p.1 j.0)))
joins Or true y P Q m ns d p q = (λ _. inl (p.0 refl), λ _. refl)
joins Or false y P Q m ns d p q = (λ e. inr (q.0 e), λ j. elim j [ inl l ↦ absurd (parted (p.1 l)) | inr r ↦ q.1 r ])
joins AndNot true true P Q m ns d p q = (λ e. absurd (parted e), λ j. absurd (j.1 (q.0 refl)))
joins AndNot true false P Q m ns d p q = (λ _. (p.0 refl, λ r. parted (q.1 r)), λ _. refl)
joins AndNot false y P Q m ns d p q = (λ e. absurd (parted e), λ j. absurd (parted (p.1 j.0)))

pub product_stands : (op : Op) (a b : Table) (m : TrackLists) (t : Table) → ReadsPicked (left_operand a m) → ReadsPicked (right_operand b m) → a.base ≡ b.base → t.base ≡ a.base → t.tracks ≡ m.tracks → IsDiagram t → AcceptsBoth op a b m t → (P Q : List ℤ → ℕ → Type 0) → StandsForWhole a P → StandsForWhole b Q → StandsForWhole t (joined op P Q m)
product_stands op a b m t left right one base tracks diagram words P Q p q = record {
  diagram = diagram;
  each = λ sign w lt inside.
      let sign_in : sign < 2 ^ m.tracks = subst (λ n. sign < 2 ^ n) tracks lt in
      let word_left : All (λ l. l < a.base ^ m.tracks) w = subst (λ n. All (λ l. l < a.base ^ n) w) tracks (subst (λ r. All (λ l. l < r ^ t.tracks) w) base inside) in
      let word_right : All (λ l. l < b.base ^ m.tracks) w = subst (λ r. All (λ l. l < r ^ m.tracks) w) one word_left in
      let said : IsTrue (truth op (accepts_by (left_operand a m) sign w) (accepts_by (right_operand b m) sign w)) ↔ joined op P Q m (values a.base m.tracks sign w) 1 = joins op (accepts_by (left_operand a m) sign w) (accepts_by (right_operand b m) sign w) P Q m (values a.base m.tracks sign w) 1 (operand_stands (left_operand a m) P left p sign w sign_in word_left) (subst (λ r. IsTrue (accepts_by (right_operand b m) sign w) ↔ Q (pick_entries m.right (values r m.tracks sign w)) 1) (sym one) (operand_stands (right_operand b m) Q right q sign w sign_in word_right)) in
      subst (λ ns. IsTrue (accepts_word t sign w) ↔ joined op P Q m ns 1) (sym (ap (λ r. values r t.tracks sign w) base ∙ ap (λ n. values a.base n sign w) tracks)) (subst (λ x. IsTrue x ↔ joined op P Q m (values a.base m.tracks sign w) 1) (sym (words sign w sign_in word_left)) said);
}
