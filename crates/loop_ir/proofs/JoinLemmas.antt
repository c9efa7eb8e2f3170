-- One list of steps behind another.
use Rattle.std.specs.Prelude.{◌≡◌, ℕ, ◌+◌, ◌*◌, not, ◌&&◌, ◌||◌, max}
use Rattle.std.proofs.Common.{refl, ap, ap₂, arith}
use Rattle.loop_ir.specs.Costs.{Prices, action_cost, choice_cost, cost, loop_cost, time}
use Rattle.loop_ir.specs.Kept.{EachNamed, KeepsCounters}
use Rattle.loop_ir.specs.Needed.{Keys, among, needed, none, reads, sets}
use Rattle.loop_ir.specs.Running.{Key, Register, State, is_key, run}
use Rattle.loop_ir.specs.Steps.{Steps, End, Then, For, If, joined}
use Rattle.loop_ir.proofs.KeyLemmas.{needed-same}

pub joined-runs : (first second : Steps) (state : State) → run (joined first second) state ≡ run second (run first state)
joined-runs End second state = refl
joined-runs (Then action rest) second state = joined-runs rest second _
joined-runs (For counter turns body rest) second state = joined-runs rest second _
joined-runs (If left below one other rest) second state = joined-runs rest second _

pub joined-needs : (first second : Steps) (after : Keys) (key : Key)
    → needed (joined first second) after key ≡ needed first (needed second after) key
joined-needs End second after key = refl
joined-needs (Then action rest) second after key =
    ap (λ behind. among (reads action) key || (behind && not (among (sets action) key))) (joined-needs rest second after key)
joined-needs (For counter turns body rest) second after key =
    ap (λ behind. (behind || needed body none key) && not (is_key key (Register counter))) (joined-needs rest second after key)
joined-needs (If left below one other rest) second after key =
    let behind = joined-needs rest second after key in
    ap₂ (λ a b. is_key key (Register left) || (a || b))
    (needed-same one (needed (joined rest second) after) (needed rest (needed second after)) key behind)
    (needed-same other (needed (joined rest second) after) (needed rest (needed second after)) key behind)

behind-sum : (a b c d : ℕ) → b ≡ c + d → a + b ≡ a + c + d
behind-sum a b c d h = omega arith

pub joined-costs : (prices : Prices) (first second : Steps) → cost prices (joined first second) ≡ cost prices first + cost prices second
joined-costs prices End second = omega arith
joined-costs prices (Then action rest) second =
    behind-sum (action_cost prices action) _ (cost prices rest) (cost prices second) (joined-costs prices rest second)
joined-costs prices (For counter turns body rest) second =
    behind-sum (loop_cost prices counter turns + cost prices body) _ (cost prices rest) (cost prices second) (joined-costs prices rest second)
joined-costs prices (If left below one other rest) second =
    behind-sum (choice_cost prices left below + cost prices one + cost prices other) _ (cost prices rest) (cost prices second)
    (joined-costs prices rest second)

pub joined-times : (prices : Prices) (first second : Steps) → time prices (joined first second) ≡ time prices first + time prices second
joined-times prices End second = omega arith
joined-times prices (Then action rest) second =
    behind-sum (action_cost prices action) _ (time prices rest) (time prices second) (joined-times prices rest second)
joined-times prices (For counter turns body rest) second =
    behind-sum (loop_cost prices counter turns + turns * (loop_cost prices counter turns + time prices body)) _
    (time prices rest) (time prices second) (joined-times prices rest second)
joined-times prices (If left below one other rest) second =
    behind-sum (choice_cost prices left below + max (time prices one) (time prices other)) _ (time prices rest) (time prices second)
    (joined-times prices rest second)

pub joined-keeps : (first second : Steps) → KeepsCounters first → KeepsCounters second → KeepsCounters (joined first second)
joined-keeps End second h k = k
joined-keeps (Then action rest) second h k = joined-keeps rest second h k
joined-keeps (For counter turns body rest) second h k = (h.0, (h.1.0, joined-keeps rest second h.1.1 k))
joined-keeps (If left below one other rest) second h k = (h.0, (h.1.0, joined-keeps rest second h.1.1 k))

pub joined-named : (P : Key → Type 0) (first second : Steps) → EachNamed P first → EachNamed P second → EachNamed P (joined first second)
joined-named P End second h k = k
joined-named P (Then action rest) second h k = (h.0, joined-named P rest second h.1 k)
joined-named P (For counter turns body rest) second h k = (h.0, (h.1.0, joined-named P rest second h.1.1 k))
joined-named P (If left below one other rest) second h k = (h.0, (h.1.0, (h.1.1.0, joined-named P rest second h.1.1.1 k)))
