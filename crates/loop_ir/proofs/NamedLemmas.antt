-- What is needed before steps is named by them, or needed behind them.
use Rattle.std.specs.Prelude.{◌≡◌, true, not, ◌&&◌, ◌||◌}
use Rattle.std.specs.List.{AllByRecursion}
use Rattle.std.proofs.Common.{subst, sym}
use Rattle.std.proofs.lemmas.Bool.{false≢true}
use Rattle.loop_ir.specs.Costs.{named}
use Rattle.loop_ir.specs.Kept.{EachNamed}
use Rattle.loop_ir.specs.Needed.{Keys, among, needed, none, reads, sets}
use Rattle.loop_ir.specs.Running.{Key, Register, is_key}
use Rattle.loop_ir.specs.Steps.{Action, Set, Copy, One, Two, Place, Spot, Walk, Read, Write, Steps, End, Then, For, If}
use Rattle.loop_ir.proofs.KeyLemmas.{among-each, either, first_passes, key-same}

-- what an action reads is among what it names
reads-named : (P : Key → Type 0) (action : Action) → AllByRecursion P (named action) → AllByRecursion P (reads action)
reads-named P (Set to value) all = all.1
reads-named P (Copy to from) all = all.1
reads-named P (One op to from) all = all.1
reads-named P (Two op to left right) all = all.1
reads-named P (Place to word) all = all.1
reads-named P (Spot to word by) all = all.1
reads-named P (Walk place words) all = all
reads-named P (Read to area place) all = all.1
reads-named P (Write area place from) all = all

pub needed-named : (P : Key → Type 0) (steps : Steps) (after : Keys) → EachNamed P steps → ((key : Key) → after key ≡ true → P key)
    → (key : Key) → needed steps after key ≡ true → P key
needed-named P End after all h key need = h key need
needed-named P (Then action rest) after all h key need =
    either (among (reads action) key) (needed rest after key && not (among (sets action) key)) need
    (among-each P (reads action) (reads-named P action all.0) key)
    (λ behind. needed-named P rest after all.1 h key (first_passes (needed rest after key) (not (among (sets action) key)) behind))
needed-named P (For counter turns body rest) after all h key need =
    either (needed rest after key) (needed body none key)
    (first_passes (needed rest after key || needed body none key) (not (is_key key (Register counter))) need)
    (needed-named P rest after all.1.1 h key)
    (needed-named P body none all.1.0 (λ other never. absurd (false≢true never)) key)
needed-named P (If left below one other rest) after all h key need =
    let behind = needed rest after in
    let later = needed-named P rest after all.1.1.1 h in
    either (is_key key (Register left)) (needed one behind key || needed other behind key) need
    (λ same. subst P (sym (key-same key (Register left) same)) all.0)
    (λ inner. either (needed one behind key) (needed other behind key) inner
    (needed-named P one behind all.1.0 later key) (needed-named P other behind all.1.1.0 later key))
