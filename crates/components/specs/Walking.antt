-- A depth-first walk that finds the parts of a graph: the path-based method of Gabow (2000). The definitions are own: they say what
-- holds between two steps of the walk.
use Rattle.std.specs.Prelude.{◌≡◌, ℕ, ◌+◌, ◌-◌, ◌*◌, ◌<◌, ◌≤◌, ◌^◌, ◌⊎◌, Bool, true, false, nat_lt, List, [], ◌∷◌, length, slice_index, slice_set}
use Rattle.components.specs.declared.walk.Walk.{Walk}
use Rattle.part_laws.specs.Graphs.{Reaches}

-- the lists and counts of a walk
pub record Layout : Type 0 where
  pub part : List ℕ
  pub place : List ℕ
  pub next : List ℕ
  pub order : List ℕ
  pub bounds : List ℕ
  pub path : List ℕ
  pub finished : List ℕ
  pub held : ℕ
  pub groups : ℕ
  pub depth : ℕ
  pub count : ℕ
  pub done : ℕ

-- those of the program's walk
abbrev pub layout : Walk → Layout
layout w = record {
  part = w.part.items;
  place = w.place.items;
  next = w.next.items;
  order = w.order.items;
  bounds = w.bounds.items;
  path = w.path.items;
  finished = w.finished.items;
  held = w.held;
  groups = w.groups;
  depth = w.depth;
  count = w.count;
  done = w.done;
}

-- one state more is held, in a group of its own, and ends the path
abbrev pub seen : Layout → ℕ → Layout
seen x q = record x {
  place = slice_set x.place q x.held;
  order = slice_set x.order x.held q;
  bounds = slice_set x.bounds x.groups x.held;
  path = slice_set x.path x.depth q;
  held = x.held + 1;
  groups = x.groups + 1;
  depth = x.depth + 1;
}

-- the last group, which begins at the place, is no longer held, and its states have numbers and are listed
abbrev pub shorter : Layout → ℕ → List ℕ → List ℕ → ℕ → Layout
shorter x from part finished done = record x {
  part = part;
  finished = finished;
  held = from;
  groups = x.groups - 1;
  depth = x.depth - 1;
  count = x.count + 1;
  done = done;
}

-- the sum of a list
abbrev pub total : List ℕ → ℕ
total [] = 0
total (x ∷ xs) = x + total xs

-- 0 for yes, 1 for no
abbrev pub one_unless : Bool → ℕ
one_unless true = 0
one_unless false = 1

-- how many entries are not below n: the places of states that were not seen
abbrev pub fresh : ℕ → List ℕ → ℕ
fresh n [] = 0
fresh n (x ∷ xs) = one_unless (nat_lt x n) + fresh n xs

-- what is left to do, at the most: a letter that is followed may add a group and a state of the path
abbrev pub effort : ℕ → ℕ → Layout → ℕ
effort n width x = 3 * (n * width - total x.next) + x.groups + x.depth

-- the state was seen and has no number yet
pub record IsHeld (n : ℕ) (part place : List ℕ) (q : ℕ) : Type 0 where
  pub placed : slice_index place q < n
  pub unnumbered : n ≤ slice_index part q

-- the second state's group is not lower than the first one's
abbrev pub IsNotLower : List ℕ → ℕ → List ℕ → ℕ → ℕ → Type 0
IsNotLower bounds groups place p q = (g : ℕ) → g < groups → slice_index bounds g ≤ slice_index place p → slice_index bounds g ≤ slice_index place q

-- all targets are states
abbrev pub AreSteps : ℕ → List ℕ → ℕ → Type 0
AreSteps n rows width = (q l : ℕ) → q < n → l < width → slice_index rows (q * width + l) < n

-- each list has an entry for each state, and 32 bits tell the states apart
pub record AreSized (n : ℕ) (x : Layout) : Type 0 where
  pub part : length x.part ≡ n
  pub place : length x.place ≡ n
  pub next : length x.next ≡ n
  pub order : length x.order ≡ n
  pub bounds : length x.bounds ≡ n
  pub path : length x.path ≡ n
  pub finished : length x.finished ≡ n
  pub few : n < 2 ^ 32

-- the states that were not seen are left for what is to come
pub record AreCounted (n : ℕ) (place : List ℕ) (held groups depth count done : ℕ) : Type 0 where
  pub few_held : count + held + fresh n place ≤ n
  pub few_groups : groups + fresh n place ≤ n
  pub few_on_path : depth + fresh n place ≤ n
  pub all : done + held + fresh n place ≡ n

-- the held states, and their places
pub record ArePlaced (n : ℕ) (part place order : List ℕ) (held : ℕ) : Type 0 where
  pub within : (q : ℕ) → q < n → IsHeld n part place q → slice_index place q < held
  pub there : (q : ℕ) → q < n → IsHeld n part place q → slice_index order (slice_index place q) ≡ q
  pub below : (k : ℕ) → k < held → slice_index order k < n
  pub back : (k : ℕ) → k < held → slice_index place (slice_index order k) ≡ k
  pub unnumbered : (k : ℕ) → k < held → n ≤ slice_index part (slice_index order k)
  pub few : held ≤ n
  pub unseen : (q : ℕ) → q < n → n ≤ slice_index place q → n ≤ slice_index part q

-- the path's states are held, at rising places
pub record IsPath (n : ℕ) (part place path : List ℕ) (depth : ℕ) : Type 0 where
  pub below : (j : ℕ) → j < depth → slice_index path j < n
  pub held : (j : ℕ) → j < depth → IsHeld n part place (slice_index path j)
  pub rising : (i j : ℕ) → i < j → j < depth → slice_index place (slice_index path i) < slice_index place (slice_index path j)

-- the groups begin at rising places, from the first place on, and each begins with a state of the path
pub record AreGroups (place path : List ℕ) (depth : ℕ) (bounds : List ℕ) (groups held : ℕ) : Type 0 where
  pub rising : (g h : ℕ) → g < h → h < groups → slice_index bounds g < slice_index bounds h
  pub firsts : (g : ℕ) → g < groups → (j : ℕ) × (j < depth) × (slice_index place (slice_index path j) ≡ slice_index bounds g)
  pub some : 0 < held → 0 < groups
  pub zero : 0 < held → slice_index bounds 0 ≡ 0

-- the letters that were followed: all of them, at a held state that is not on the path
pub record AreFollowed (n : ℕ) (rows : List ℕ) (width : ℕ) (part place next path : List ℕ) (depth : ℕ) (bounds : List ℕ) (groups : ℕ) : Type 0 where
  pub letters : (q : ℕ) → q < n → slice_index next q ≤ width
  pub none : (q : ℕ) → q < n → n ≤ slice_index place q → slice_index next q ≡ 0
  pub left : (q : ℕ) → q < n → IsHeld n part place q → ((j : ℕ) × (j < depth) × (slice_index path j ≡ q)) ⊎ (slice_index next q ≡ width)
  -- they lead to states with numbers, or to held states of no lower group
  pub targets : (q l : ℕ) → q < n → IsHeld n part place q → l < slice_index next q → (slice_index part (slice_index rows (q * width + l)) < n)
      ⊎ (IsHeld n part place (slice_index rows (q * width + l)) × IsNotLower bounds groups place q (slice_index rows (q * width + l)))

-- a state reaches those of its group and of higher ones
abbrev pub AreJoined : ℕ → List ℕ → ℕ → List ℕ → List ℕ → List ℕ → ℕ → Type 0
AreJoined n rows width part place bounds groups = (p q : ℕ) → p < n → q < n → IsHeld n part place p → IsHeld n part place q
    → IsNotLower bounds groups place p q → Reaches rows width p q

-- all numbers are below the count
abbrev pub AreNumbers : ℕ → List ℕ → ℕ → Type 0
AreNumbers n part count = (q : ℕ) → q < n → slice_index part q < n → slice_index part q < count

-- the states that have numbers: each part is whole, and no step leads from it to a larger number
pub record AreNumbered (n : ℕ) (rows : List ℕ) (width : ℕ) (part : List ℕ) (count : ℕ) : Type 0 where
  pub below : AreNumbers n part count
  pub each : (k : ℕ) → k < count → (q : ℕ) × (q < n) × (slice_index part q ≡ k)
  pub together : (p q : ℕ) → p < n → q < n → slice_index part p < n → slice_index part p ≡ slice_index part q → Reaches rows width p q
  pub falls : (q l : ℕ) → q < n → l < width → slice_index part q < n → slice_index part (slice_index rows (q * width + l)) ≤ slice_index part q

-- the states that have numbers are listed, in the order of the numbers
pub record AreListed (n : ℕ) (part finished : List ℕ) (done : ℕ) : Type 0 where
  pub below : (k : ℕ) → k < done → slice_index finished k < n
  pub numbered : (k : ℕ) → k < done → slice_index part (slice_index finished k) < n
  pub rising : (j k : ℕ) → j < k → k < done → slice_index part (slice_index finished j) ≤ slice_index part (slice_index finished k)
  pub all : (q : ℕ) → q < n → slice_index part q < n → (k : ℕ) × (k < done) × (slice_index finished k ≡ q)

-- what holds between two steps of the walk
pub record IsWalk (n : ℕ) (rows : List ℕ) (width : ℕ) (x : Layout) : Type 0 where
  pub sized : AreSized n x
  pub counted : AreCounted n x.place x.held x.groups x.depth x.count x.done
  pub placed : ArePlaced n x.part x.place x.order x.held
  pub on_path : IsPath n x.part x.place x.path x.depth
  pub grouped : AreGroups x.place x.path x.depth x.bounds x.groups x.held
  pub followed : AreFollowed n rows width x.part x.place x.next x.path x.depth x.bounds x.groups
  pub joined : AreJoined n rows width x.part x.place x.bounds x.groups
  pub numbered : AreNumbered n rows width x.part x.count
  pub listed : AreListed n x.part x.finished x.done

-- the held states from a place up to another have the number, and the others have what they had
pub record IsNumbering (n : ℕ) (part place : List ℕ) (from upto number : ℕ) (after : List ℕ) : Type 0 where
  pub long : length after ≡ n
  pub inside : (q : ℕ) → q < n → IsHeld n part place q → from ≤ slice_index place q → slice_index place q < upto → slice_index after q ≡ number
  pub others : (q : ℕ) → q < n → (IsHeld n part place q → from ≤ slice_index place q → slice_index place q < upto → ⊥)
      → slice_index after q ≡ slice_index part q

-- the held states from a place up to another have the number, and are listed after those that had numbers
pub record IsListing (n : ℕ) (part place : List ℕ) (from upto number done : ℕ) (after after_finished : List ℕ) (after_done : ℕ) : Type 0 where
  pub numbering : IsNumbering n part place from upto number after
  pub long : length after_finished ≡ n
  pub done_is : after_done + from ≡ done + upto
  pub low : (q : ℕ) → q < n → slice_index after q < n → slice_index after q ≤ number
  pub listed : AreListed n after after_finished after_done

-- that between two layouts
abbrev pub Lists : ℕ → Layout → ℕ → Layout → Type 0
Lists n old from new = IsListing n old.part old.place from old.held old.count old.done new.part new.finished new.done
