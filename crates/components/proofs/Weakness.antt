-- A graph is weak exactly if states that stand next to each other in the order of the parts agree.
use Rattle.std.proofs.Common.{◌≡◌, ◌≢◌, ℕ, ◌+◌, ◌-◌, ◌<◌, true, false, List, length, slice_index as at, sym, ap, ◌∙◌, arith, inl, inr, ◌⊎◌}
use Rattle.std.specs.List.{slice_index_or}
use Rattle.std.proofs.lemmas.Bool.{cases_eq, cases_lt}
use Rattle.part_laws.specs.Graphs.{IsWeak}
use Rattle.components.specs.Partings.{Parted, AreInOrder, AreParts}
use Rattle.components.specs.Rankings.{DoAgree, AllAgree}

-- states of a weak graph agree
pub weak_agree : (rows : List ℕ) (width : ℕ) (colours : List ℕ) (p : Parted) → AreParts rows width (length colours) p
    → IsWeak width (record { rows = rows; colours = colours }) → (q t : ℕ) → q < length colours → t < length colours → DoAgree colours p q t
weak_agree rows width colours p parts weak q t lt under same loops = weak q t lt under ((parts.loops q lt).0 loops)
    ((parts.loops t under).0 (ap (λ k. slice_index_or p.looping k false) (sym same) ∙ loops)) (parts.numbers.one q t lt under same)

-- the state after those agrees with the last of them
pub agree_more : (n : ℕ) (colours : List ℕ) (p : Parted) (i : ℕ) → AreInOrder n p.numbers p.order → 0 < i → i < n → DoAgree colours p (at p.order (i - 1))
    (at p.order i) → AllAgree colours p i → AllAgree colours p (i + 1)
agree_more n colours p i order some inside next old j k less lt same loops = elim (cases_lt k i) [
  | inl under ↦ old j k less under same loops
  | inr over ↦ (let e : k ≡ i = omega (arith, over, lt) in last e (cases_eq j (i - 1)))
]
  where
    last : k ≡ i → (j ≡ i - 1) ⊎ (j ≢ i - 1) → at colours (at p.order j) ≡ at colours (at p.order k)
    last e (inl here) =
        let from = ap (at p.order) here in
        let to = ap (at p.order) e in
        ap (at colours) from ∙ (next (ap (at p.numbers) (sym from) ∙ (same ∙ ap (at p.numbers) to))
        (ap (λ q. slice_index_or p.looping (at p.numbers q) false) (sym from) ∙ loops) ∙ ap (at colours) (sym to))
    last e (inr apart) =
        let to = ap (at p.order) e in
        let before : j < i - 1 = omega (arith, less, e, apart) in
        let first : at p.numbers (at p.order j) ≡ at p.numbers (at p.order (i - 1)) =
        omega (
          arith,
          order.rising j (i - 1) before (omega (arith, inside)),
          order.rising (i - 1) i (omega (arith, some)) inside,
          same,
          ap (at p.numbers) to,
        ) in
        old j (i - 1) before (omega (arith, some)) first loops
        ∙ (next (sym first ∙ (same ∙ ap (at p.numbers) to)) (ap (λ k. slice_index_or p.looping k false) (sym first) ∙ loops) ∙ ap (at colours) (sym to))

-- if all agree, the graph is weak
pub agree_weak : (rows : List ℕ) (width : ℕ) (colours : List ℕ) (p : Parted) → AreParts rows width (length colours) p
    → AllAgree colours p (length colours) → IsWeak width (record { rows = rows; colours = colours })
agree_weak rows width colours p parts all q t lt under a b both =
    let from = parts.order.all q lt in
    let upto = parts.order.all t under in
    let same : at p.numbers q ≡ at p.numbers t = parts.one q t lt under both in
    let loops : slice_index_or p.looping (at p.numbers q) false ≡ true = (parts.loops q lt).1 a in
    elim (cases_eq from.0 upto.0) [
      | inl e ↦ ap (at colours) (sym from.2 ∙ (ap (at p.order) e ∙ upto.2))
      | inr ne ↦ elim (cases_lt from.0 upto.0) [
        | inl less ↦ placed from.0 upto.0 q t from.2 upto.2 same loops less upto.1
        | inr more ↦ sym (placed upto.0 from.0 t q upto.2 from.2 (sym same) (ap (λ k. slice_index_or p.looping k false) (sym same) ∙ loops)
            (omega (arith, more, ne)) from.1)
      ]
    ]
  where
    placed : (j k q t : ℕ) → at p.order j ≡ q → at p.order k ≡ t → at p.numbers q ≡ at p.numbers t → slice_index_or p.looping (at p.numbers q) false ≡ true
        → j < k → k < length colours → at colours q ≡ at colours t
    placed j k q t here there same loops less lt =
        ap (at colours) (sym here)
        ∙ (all j k less lt (ap (at p.numbers) here ∙ (same ∙ ap (at p.numbers) (sym there))) (ap (λ q. slice_index_or p.looping (at p.numbers q) false) here
        ∙ loops) ∙ ap (at colours) there)
