-- Tables with other colours and tables of classes accept the same lassos, and a table of classes with the colours of ranks is canonical.
use Rattle.std.proofs.Common.{◌≡◌, ℕ, ◌+◌, ◌*◌, ◌^◌, ◌<◌, List, [], ◌∷◌, length, ◌∙◌, sym, ap, subst}
use Rattle.std.specs.Prelude.{slice_index}
use Rattle.graph_laws.specs.Walks.{go}
use Rattle.lash_model.specs.Lassos.{IsLasso}
use Rattle.lash_model.specs.Tables.{Table, letters, ints, fracs, IsTable}
use Rattle.lash_model.specs.Acceptance.{int_state}
use Rattle.canonical_laws.specs.Canonical.{IsNumbered, IsSeparated}
use Rattle.part_laws.specs.Graphs.{IsWord, IsWeak}
use Rattle.part_laws.specs.Endings.{accepts_from}
use Rattle.part_laws.specs.Ranks.{IsByRank, IsRecolouring}
use Rattle.part_laws.specs.CanonicalMixed.{fraction_graph, IsCanonicalMixed, AcceptSameLassos}
use Rattle.part_laws.specs.Matchings.{IsTableMatching, IsLeastMatching}
use Rattle.part_laws.specs.Opposites.{with_colours}
use Rattle.part_laws.proofs.Recolouring.{recoloured_alike}
use Rattle.part_laws.proofs.Matching.{matched_weak, matched_alike, matched_by_rank, matched_separated}
use Rattle.part_laws.proofs.LassoWords.{AreWords, lasso_words, fraction_is_graph, root_in, out_in, int_walk_in}

-- ---- other colours
pub recoloured_table : (t : Table) → IsTable t → 0 < fracs t → (cs : List ℕ) → IsRecolouring (letters t) (fraction_graph t) cs
    → AcceptSameLassos t (with_colours t cs)
recoloured_table t h some cs r x v = let ws : AreWords (letters t) x = lasso_words t.base t.tracks x v in
    recoloured_alike (letters t) (fraction_graph t) (fraction_is_graph t h) cs r (slice_index t.outs (int_state t x.sign x.whole))
    (out_in t h some (int_state t x.sign x.whole) (int_walk_in t h (slice_index t.roots x.sign) x.whole (root_in t h x.sign v.sign) ws.whole))
    x.stem x.cycle ws.stem ws.cycle v.turns

-- ---- matched tables
int_runs : (int_match rel : ℕ → ℕ → Type 0) (t u : Table) → IsTableMatching int_match rel t u → (p q : ℕ) (w : List ℕ) → int_match p q → IsWord (letters t) w
    → int_match (go t.rows (letters t) p w) (go u.rows (letters t) q w)
int_runs int_match rel t u h p q [] k ls = k
int_runs int_match rel t u h p q (l ∷ w) k ls =
    int_runs int_match rel t u h (slice_index t.rows (p * letters t + l)) (slice_index u.rows (q * letters t + l)) w (h.steps p q l k ls.0) ls.1

pub same_width : (t u : Table) → t.base ≡ u.base → t.tracks ≡ u.tracks → letters t ≡ letters u
same_width t u base tracks = ap (λ b. b ^ t.tracks) base ∙ ap (λ n. u.base ^ n) tracks

pub matched_accept : (int_match rel : ℕ → ℕ → Type 0) (t u : Table) → IsTable t → IsWeak (letters t) (fraction_graph t) → IsTableMatching int_match rel t u
    → AcceptSameLassos t u
matched_accept int_match rel t u tab w h x v =
    matched_alike (letters t) rel (fraction_graph t) (fraction_graph u) (fraction_is_graph t tab) w h.fraction_part (slice_index t.outs end)
    (slice_index u.outs other)
    (h.outs end other (int_runs int_match rel t u h (slice_index t.roots x.sign) (slice_index u.roots x.sign) x.whole (h.roots x.sign v.sign) ws.whole))
    x.stem x.cycle ws.stem ws.cycle v.turns
    ∙ ap (λ n. accepts_from n (fraction_graph u) (slice_index u.outs (go u.rows n (slice_index u.roots x.sign) x.whole)) x.stem x.cycle)
    (same_width t u h.base h.tracks)
  where
    ws : AreWords (letters t) x
    ws = lasso_words t.base t.tracks x v

    end : ℕ
    end = go t.rows (letters t) (slice_index t.roots x.sign) x.whole

    other : ℕ
    other = go u.rows (letters t) (slice_index u.roots x.sign) x.whole

int_separated : (int_match rel : ℕ → ℕ → Type 0) (t u : Table) → (h : IsTableMatching int_match rel t u) → IsLeastMatching int_match rel t u
    → IsSeparated u.rows (letters t) u.outs
int_separated int_match rel t u h least i j hi hj alike = least.int_states (h.source i) (h.source j) i j (h.matched i hi) (h.matched j hj)
    (λ w ls. record {
      state = slice_index u.outs (go u.rows (letters t) i w);
      first = at i hi w ls;
      second = subst (λ x. rel (slice_index t.outs (go t.rows (letters t) (h.source j) w)) x) (sym (alike w ls)) (at j hj w ls);
    })
  where
    at : (i : ℕ) → i < length u.outs → (w : List ℕ) → IsWord (letters t) w
        → rel (slice_index t.outs (go t.rows (letters t) (h.source i) w)) (slice_index u.outs (go u.rows (letters t) i w))
    at i hi w ls = h.outs (go t.rows (letters t) (h.source i) w) (go u.rows (letters t) i w) (int_runs int_match rel t u h (h.source i) i w (h.matched i hi) ls)

-- the table of the least matching is canonical, if its states are numbered
pub matched_canonical : (int_match rel : ℕ → ℕ → Type 0) (t u : Table) → IsTable t → IsWeak (letters t) (fraction_graph t)
    → IsByRank (letters t) (fraction_graph t)
    → IsTableMatching int_match rel t u → IsLeastMatching int_match rel t u → IsTable u → 0 < fracs u → IsNumbered u.roots u.rows (letters u) (ints u)
    → IsNumbered u.outs u.frac_rows (letters u) (fracs u) → IsCanonicalMixed u
matched_canonical int_match rel t u tab w by h least table fractions numbered fraction_numbered = record {
  table = table;
  fractions = fractions;
  numbered = numbered;
  separated = subst (λ n. IsSeparated u.rows n u.outs) width (int_separated int_match rel t u h least);
  fraction_numbered = fraction_numbered;
  fraction_separated = subst (λ n. IsSeparated u.frac_rows n u.colours) width
      (matched_separated (letters t) rel (fraction_graph t) (fraction_graph u) h.fraction_part least.fraction_states);
  weak = subst (λ n. IsWeak n (fraction_graph u)) width
      (matched_weak (letters t) rel (fraction_graph t) (fraction_graph u) (fraction_is_graph t tab) w h.fraction_part);
  by_rank = subst (λ n. IsByRank n (fraction_graph u)) width
      (matched_by_rank (letters t) rel (fraction_graph t) (fraction_graph u) (fraction_is_graph t tab) w by h.fraction_part);
}
  where
    width : letters t ≡ letters u
    width = same_width t u h.base h.tracks

-- acceptance of the same lassos goes on from table to table
pub same_lassos_on : (t u v : Table) → t.base ≡ u.base → t.tracks ≡ u.tracks → AcceptSameLassos t u → AcceptSameLassos u v → AcceptSameLassos t v
same_lassos_on t u v base tracks a b x l = a x l ∙ b x (subst (λ b. IsLasso b u.tracks x) base (subst (λ n. IsLasso t.base n x) tracks l))
