-- What is made of turns, joins and folds is the same where what is made of their parts is.
use Rattle.std.specs.Prelude.{◌≡◌, ℕ, zero, suc, Bool, true, false, pos, int_lt, List, map, if◌then◌else◌}
use Rattle.std.proofs.Common.{refl, ap, subst, arith, le_refl}
use Rattle.moa_tree.specs.declared.operator.Op.{Op}
use Rattle.moa_tree.specs.Folds.{none_folded}
use Rattle.moa_tree.specs.Operators.{identity}
use Rattle.normal_form.specs.declared.entry.Entry.{Entry}
use Rattle.normal_form.specs.declared.entry.Entry.TheVariants.{At, Plus, Minus}
use Rattle.normal_form.specs.declared.term.Bind.{Bind}
use Rattle.normal_form.specs.declared.term.Bind.TheVariants.{Turn}
use Rattle.normal_form.specs.Formers.{Former, Making, binding, folding, joining, on_both, turning}
use Rattle.normal_form.specs.Forms.{Lit, Case, Fold}
use Rattle.normal_form.specs.Moves.{turned_constant}
use Rattle.normal_form.specs.Stands.{AreBelow, uses_below}
use Rattle.stride_form.specs.declared.facts.Fact.TheVariants.{Range}
use Rattle.stride_form.specs.Facts.{Facts, resolved}
use Rattle.stride_form.specs.Follows.{AreVaried, CommutesTo, Follows, FollowsWith, IsOverVariable, Makes}
use Rattle.stride_form.specs.OpFormers.{OpFormer, OpMaking, op_binding, op_both, op_folding, op_joining, op_turning}
use Rattle.stride_form.specs.Rules.{resolved_bind}
use Rattle.stride_form.proofs.FollowFactLemmas.{below-later, less-over, more-resolve, more-same, plus-over}
use Rattle.stride_form.proofs.FollowMakeLemmas.{Continues, MakesLater, makes-binding, makes-both, makes-just, makes-next}

-- what is made with one entry more goes on where more is known
pub item-continues : (item : List Entry → Entry → Making) (op_item : List Entry → Entry → OpMaking) → FollowsWith item op_item
    → (facts : Facts) (entries : List Entry) (next : ℕ) → AreBelow next entries
    → Continues facts next (item entries) (op_item (map (resolved facts) entries))
item-continues item op_item h facts entries next below = λ other later entry more new.
    subst (λ known. Makes other later (item entries entry) (op_item known (resolved other entry)))
    (more-resolve facts next other later entries more below)
    (h other entries entry later more.varied (below-later next later entries more.grows below) new)

-- ---- turns

-- an entry over a variable is turned by a binding
turned-over : (by n : ℕ) (entry : Entry) (rest : Entry → OpMaking) → IsOverVariable entry
    → op_binding (Turn entry (suc by) n) rest ≡ op_turning (suc by) n entry rest
turned-over by n (At constant) rest h = absurd h
turned-over by n (Plus var add) rest h = refl
turned-over by n (Minus var add) rest h = refl

makes-turn : (facts : Facts) (next by n : ℕ) (entry : Entry) (rest : Entry → Making) (op_rest : Entry → OpMaking)
    → AreVaried facts → IsOverVariable (resolved facts entry) → Continues facts next rest op_rest
    → Makes facts next (binding (Turn entry (suc by) n) rest) (op_turning (suc by) n (resolved facts entry) op_rest)
makes-turn facts next by n entry rest op_rest varied over h =
    subst (Makes facts next (binding (Turn entry (suc by) n) rest)) (turned-over by n (resolved facts entry) op_rest over)
    (makes-binding facts next (Turn entry (suc by) n) (Turn (resolved facts entry) (suc by) n) rest op_rest refl varied h)

pub makes-turning : (facts : Facts) (next by n : ℕ) (entry : Entry) (rest : Entry → Making) (op_rest : Entry → OpMaking)
    → AreVaried facts → uses_below next entry → Continues facts next rest op_rest
    → Makes facts next (turning by n entry rest) (op_turning by n (resolved facts entry) op_rest)
makes-turning facts next zero n entry rest op_rest varied new h = h facts next entry (more-same facts next varied) new
makes-turning facts next (suc by) n (At constant) rest op_rest varied new h =
    h facts next (At (turned_constant (suc by) n constant)) (more-same facts next varied) tt
makes-turning facts next (suc by) n (Plus var add) rest op_rest varied new h =
    makes-turn facts next by n (Plus var add) rest op_rest varied (plus-over (facts var) var add (varied var)) h
makes-turning facts next (suc by) n (Minus var add) rest op_rest varied new h =
    makes-turn facts next by n (Minus var add) rest op_rest varied (less-over (facts var) var add (varied var)) h

pub turn-follows : (by n : ℕ) (pick : List Entry → Entry) (item : List Entry → Entry → Making) (op_item : List Entry → Entry → OpMaking)
    → CommutesTo pick → FollowsWith item op_item
    → Follows (λ entries. turning by n (pick entries) (item entries)) (λ entries. op_turning by n (pick entries) (op_item entries))
turn-follows by n pick item op_item picks h = λ facts entries next varied below.
    let known = map (resolved facts) entries in
    subst (λ entry. Makes facts next (turning by n (pick entries) (item entries)) (op_turning by n entry (op_item known)))
    (picks.commutes facts entries)
    (makes-turning facts next by n (pick entries) (item entries) (op_item known) varied (picks.below entries next below)
    (item-continues item op_item h facts entries next below))

-- ---- joins

choice-over : (n m : ℕ) (entry : Entry) (first second : OpMaking) → IsOverVariable entry
    → op_both (Case entry (pos (suc n))) first second ≡ op_joining (suc n) (suc m) entry first second
choice-over n m (At constant) first second h = absurd h
choice-over n m (Plus var add) first second h = refl
choice-over n m (Minus var add) first second h = refl

makes-either : (facts : Facts) (next : ℕ) (test : Bool) (first : Making) (op_first : OpMaking) (second : Making) (op_second : OpMaking)
    → Makes facts next first op_first → Makes facts next second op_second
    → Makes facts next (if test then first else second) (if test then op_first else op_second)
makes-either facts next true first op_first second op_second h k = h
makes-either facts next false first op_first second op_second h k = k

makes-choice : (facts : Facts) (next n m : ℕ) (entry : Entry)
    (first : Making) (op_first : OpMaking) (second : Making) (op_second : OpMaking)
    → IsOverVariable (resolved facts entry) → Makes facts next first op_first → MakesLater facts next second op_second
    → Makes facts next (on_both (Case entry (pos (suc n))) first second)
    (op_joining (suc n) (suc m) (resolved facts entry) op_first op_second)
makes-choice facts next n m entry first op_first second op_second over h k =
    subst (Makes facts next (on_both (Case entry (pos (suc n))) first second))
    (choice-over n m (resolved facts entry) op_first op_second over)
    (makes-both facts next (Case entry (pos (suc n))) (Case (resolved facts entry) (pos (suc n))) (λ a b. refl)
    first op_first second op_second h k)

pub makes-joining : (facts : Facts) (next n m : ℕ) (entry : Entry)
    (first : Making) (op_first : OpMaking) (second : Making) (op_second : OpMaking)
    → AreVaried facts → Makes facts next first op_first → MakesLater facts next second op_second
    → Makes facts next (joining n m entry first second) (op_joining n m (resolved facts entry) op_first op_second)
makes-joining facts next zero m entry first op_first second op_second varied h k = k next (le_refl next)
makes-joining facts next (suc n) zero entry first op_first second op_second varied h k = h
makes-joining facts next (suc n) (suc m) (At constant) first op_first second op_second varied h k =
    makes-either facts next (int_lt constant (pos (suc n))) first op_first second op_second h (k next (le_refl next))
makes-joining facts next (suc n) (suc m) (Plus var add) first op_first second op_second varied h k =
    makes-choice facts next n m (Plus var add) first op_first second op_second (plus-over (facts var) var add (varied var)) h k
makes-joining facts next (suc n) (suc m) (Minus var add) first op_first second op_second varied h k =
    makes-choice facts next n m (Minus var add) first op_first second op_second (less-over (facts var) var add (varied var)) h k

pub join-follows : (n m : ℕ) (pick : List Entry → Entry) (left right : Former) (op_left op_right : OpFormer)
    → CommutesTo pick → Follows left op_left → Follows right op_right
    → Follows (λ entries. joining n m (pick entries) (left entries) (right entries))
    (λ entries. op_joining n m (pick entries) (op_left entries) (op_right entries))
join-follows n m pick left right op_left op_right picks h k = λ facts entries next varied below.
    let known = map (resolved facts) entries in
    subst (λ entry. Makes facts next (joining n m (pick entries) (left entries) (right entries))
    (op_joining n m entry (op_left known) (op_right known)))
    (picks.commutes facts entries)
    (makes-joining facts next n m (pick entries) (left entries) (op_left known) (right entries) (op_right known) varied
    (h facts entries next varied below)
    (λ later more. k facts entries later varied (below-later next later entries more below)))

-- ---- folds

pub makes-folding : (facts : Facts) (next : ℕ) (op : Op) (n : ℕ) (rest : Entry → Making) (op_rest : Entry → OpMaking)
    → AreVaried facts → Continues facts next rest op_rest → Makes facts next (folding op n rest) (op_folding op n op_rest)
makes-folding facts next op zero rest op_rest varied h =
    makes-just facts next (Lit (none_folded (identity op))) (Lit (none_folded (identity op))) refl
makes-folding facts next op (suc n) rest op_rest varied h =
    let made = makes-next facts next (Range 0 (suc n)) rest op_rest varied tt h in
    record { same = ap (Fold op next 0 (suc n)) made.same; ends = made.ends; grows = omega (arith, made.grows) }

pub fold-follows : (op : Op) (n : ℕ) (item : List Entry → Entry → Making) (op_item : List Entry → Entry → OpMaking)
    → FollowsWith item op_item → Follows (λ entries. folding op n (item entries)) (λ entries. op_folding op n (op_item entries))
fold-follows op n item op_item h = λ facts entries next varied below.
    makes-folding facts next op n (item entries) (op_item (map (resolved facts) entries)) varied
    (item-continues item op_item h facts entries next below)

-- ---- bindings

pub bound-follows : (bind : List Entry → Bind) (item : List Entry → Entry → Making) (op_item : List Entry → Entry → OpMaking)
    → ((facts : Facts) (entries : List Entry) → resolved_bind facts (bind entries) ≡ bind (map (resolved facts) entries))
    → FollowsWith item op_item
    → Follows (λ entries. binding (bind entries) (item entries)) (λ entries. op_binding (bind entries) (op_item entries))
bound-follows bind item op_item same h = λ facts entries next varied below.
    makes-binding facts next (bind entries) (bind (map (resolved facts) entries)) (item entries) (op_item (map (resolved facts) entries))
    (same facts entries) varied (item-continues item op_item h facts entries next below)
