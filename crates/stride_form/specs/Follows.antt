-- What it is that an operational former follows a former: it makes what the first three rules make of the form. This project's own.
use Rattle.std.specs.Prelude.{◌≡◌, ℕ, ◌≤◌, List, map, ⊤}
use Rattle.normal_form.specs.declared.entry.Entry.{Entry}
use Rattle.normal_form.specs.declared.entry.Entry.TheVariants.{At, Plus, Minus}
use Rattle.normal_form.specs.Formers.{Former, Making}
use Rattle.normal_form.specs.Stands.{AreBelow, uses_below}
use Rattle.stride_form.specs.declared.facts.Fact.{Fact}
use Rattle.stride_form.specs.declared.facts.Fact.TheVariants.{Range, Alias, Offset, DigitOf}
use Rattle.stride_form.specs.Facts.{Facts, resolved}
use Rattle.stride_form.specs.OpFormers.{OpFormer, OpMaking}
use Rattle.stride_form.specs.Rules.{passed}

-- ---- facts

-- an entry over a variable
abbrev pub IsOverVariable : Entry → Type 0
IsOverVariable (At constant) = ⊥
IsOverVariable (Plus var add) = ⊤
IsOverVariable (Minus var add) = ⊤

-- no alias, and no number of a digit, is a constant
abbrev pub IsVaried : Fact → Type 0
IsVaried (Range low high) = ⊤
IsVaried (Alias entry) = IsOverVariable entry
IsVaried (Offset total walk) = ⊤
IsVaried (DigitOf of weight extent) = IsOverVariable of.entry

abbrev pub AreVaried : Facts → Type 0
AreVaried facts = (var : ℕ) → IsVaried (facts var)

-- ---- moves of entries

-- what is known may be put in the place of variables before a move or behind it, and a move brings no variable
pub record Commutes (move : List Entry → List Entry) : Type 0 where
  pub commutes : (facts : Facts) (entries : List Entry) → map (resolved facts) (move entries) ≡ move (map (resolved facts) entries)
  pub below : (entries : List Entry) (next : ℕ) → AreBelow next entries → AreBelow next (move entries)

-- the same of what is done to one entry
pub record CommutesAt (f : Entry → Entry) : Type 0 where
  pub commutes : (facts : Facts) (entry : Entry) → resolved facts (f entry) ≡ f (resolved facts entry)
  pub below : (entry : Entry) (next : ℕ) → uses_below next entry → uses_below next (f entry)

-- of one entry that is found among entries
pub record CommutesTo (pick : List Entry → Entry) : Type 0 where
  pub commutes : (facts : Facts) (entries : List Entry) → resolved facts (pick entries) ≡ pick (map (resolved facts) entries)
  pub below : (entries : List Entry) (next : ℕ) → AreBelow next entries → uses_below next (pick entries)

-- and of a move that brings in one entry
pub record CommutesWith (move : List Entry → Entry → List Entry) : Type 0 where
  pub commutes : (facts : Facts) (entries : List Entry) (entry : Entry)
      → map (resolved facts) (move entries entry) ≡ move (map (resolved facts) entries) (resolved facts entry)
  pub below : (entries : List Entry) (entry : Entry) (next : ℕ) → AreBelow next entries → uses_below next entry
      → AreBelow next (move entries entry)

-- ---- what is made

-- from a variable on the same is made, and the next variable never falls
pub record Makes (facts : Facts) (next : ℕ) (making : Making) (op_making : OpMaking) : Type 0 where
  pub same : passed facts (making next).0 ≡ (op_making facts next).0
  pub ends : (making next).1 ≡ (op_making facts next).1
  pub grows : next ≤ (making next).1

-- at entries of variables that are not to come
abbrev pub Follows : Former → OpFormer → Type 0
Follows former op_former = (facts : Facts) (entries : List Entry) (next : ℕ) → AreVaried facts → AreBelow next entries
    → Makes facts next (former entries) (op_former (map (resolved facts) entries))

-- with one entry more, as of a variable that is bound
abbrev pub FollowsWith : (List Entry → Entry → Making) → (List Entry → Entry → OpMaking) → Type 0
FollowsWith item op_item = (facts : Facts) (entries : List Entry) (entry : Entry) (next : ℕ)
    → AreVaried facts → AreBelow next entries → uses_below next entry
    → Makes facts next (item entries entry) (op_item (map (resolved facts) entries) (resolved facts entry))
