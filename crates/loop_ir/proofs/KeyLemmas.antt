-- Keys, tests of keys, and what is needed before steps where two tests agree behind them.
use Rattle.std.specs.Prelude.{◌≡◌, Bool, true, false, not, ◌&&◌, ◌||◌, List, [], ◌∷◌}
use Rattle.std.specs.List.{AllByRecursion}
use Rattle.std.proofs.Common.{refl, ap, ap₂, subst, sym}
use Rattle.std.proofs.lemmas.Bool.{eqb-true, eq-eqb, false≢true}
use Rattle.loop_ir.specs.Needed.{Keys, among, none, needed, reads, sets}
use Rattle.loop_ir.specs.Running.{Key, Register, Pointer, is_key}
use Rattle.loop_ir.specs.Steps.{Steps, End, Then, For, If}

-- what follows from each of two tests, where one of them passes
pub either : {X : Type 0} (a b : Bool) → (a || b) ≡ true → (a ≡ true → X) → (b ≡ true → X) → X
either true b h one other = one refl
either false b h one other = other h

pub first_passes : (a b : Bool) → (a && b) ≡ true → a ≡ true
first_passes true b h = refl
first_passes false b h = h

-- a key is itself, and no other key
pub key-self : (key : Key) → is_key key key ≡ true
key-self (Register number) = eq-eqb number number refl
key-self (Pointer number) = eq-eqb number number refl

pub key-same : (key other : Key) → is_key key other ≡ true → key ≡ other
key-same (Register number) (Register other) h = ap Register (eqb-true number other h)
key-same (Pointer number) (Pointer other) h = ap Pointer (eqb-true number other h)
key-same (Register number) (Pointer other) h = absurd (false≢true h)
key-same (Pointer number) (Register other) h = absurd (false≢true h)

-- a key that is among others is as each of them is
pub among-each : (P : Key → Type 0) (keys : List Key) → AllByRecursion P keys → (key : Key) → among keys key ≡ true → P key
among-each P [] all key h = absurd (false≢true h)
among-each P (other ∷ keys) all key h =
    either (is_key key other) (among keys key) h
    (λ same. subst P (sym (key-same key other same)) all.0)
    (λ inside. among-each P keys all.1 key inside)

-- what is needed before steps at a key is decided by whether that key is needed behind them
pub needed-same : (steps : Steps) (after other : Keys) (key : Key) → after key ≡ other key → needed steps after key ≡ needed steps other key
needed-same End after other key h = h
needed-same (Then action rest) after other key h =
    ap (λ behind. among (reads action) key || (behind && not (among (sets action) key))) (needed-same rest after other key h)
needed-same (For counter turns body rest) after other key h =
    ap (λ behind. (behind || needed body none key) && not (is_key key (Register counter))) (needed-same rest after other key h)
needed-same (If left below one two rest) after other key h =
    let behind = needed-same rest after other key h in
    ap₂ (λ a b. is_key key (Register left) || (a || b))
    (needed-same one (needed rest after) (needed rest other) key behind)
    (needed-same two (needed rest after) (needed rest other) key behind)
