-- What is made of operators, and what follows on a variable, where what is made of their parts is the same.
use Rattle.std.specs.Prelude.{◌≡◌, ℕ, suc, ◌≤◌, ℤ, List, map}
use Rattle.std.proofs.Common.{refl, ap, ap₂, subst, ◌∙◌, arith, le_refl, le_trans}
use Rattle.moa_tree.specs.declared.operator.Op.{Op}
use Rattle.moa_tree.specs.declared.operator.Unary.{Unary}
use Rattle.normal_form.specs.declared.entry.Entry.{Entry}
use Rattle.normal_form.specs.declared.term.Bind.{Bind}
use Rattle.normal_form.specs.Formers.{Former, Making, binding, just, on_both, on_one}
use Rattle.normal_form.specs.Forms.{Lit, Index, Get, Un, Bin, Let, Normal}
use Rattle.normal_form.specs.Moves.{variable}
use Rattle.normal_form.specs.Stands.{uses_below}
use Rattle.stride_form.specs.declared.facts.Fact.{Fact}
use Rattle.stride_form.specs.Facts.{Facts, fact_of, knowing, resolved}
use Rattle.stride_form.specs.Follows.{AreVaried, Commutes, CommutesTo, CommutesWith, Follows, FollowsWith, IsVaried, Makes}
use Rattle.stride_form.specs.Operational.{Operational}
use Rattle.stride_form.specs.OpFormers.{OpFormer, OpMaking, op_binding, op_both, op_just, op_loading, op_one}
use Rattle.stride_form.specs.Rules.{passed, resolved_bind}
use Rattle.stride_form.proofs.FollowFactLemmas.{IsMore, below-later, fact-varied, more-knowing, use-later}

-- ---- without a variable

pub makes-just : (facts : Facts) (next : ℕ) (form : Normal) (op_form : Operational) → passed facts form ≡ op_form
    → Makes facts next (just form) (op_just op_form)
makes-just facts next form op_form h = record { same = h; ends = refl; grows = le_refl next }

pub makes-one : (facts : Facts) (next : ℕ) (op : Unary) (of : Making) (op_of : OpMaking) → Makes facts next of op_of
    → Makes facts next (on_one (Un op) of) (op_one (Un op) op_of)
makes-one facts next op of op_of h = record { same = ap (Un op) h.same; ends = h.ends; grows = h.grows }

-- the second part begins where the first ends
abbrev pub MakesLater : Facts → ℕ → Making → OpMaking → Type 0
MakesLater facts next making op_making = (later : ℕ) → next ≤ later → Makes facts later making op_making

pub makes-both : (facts : Facts) (next : ℕ) (f : Normal → Normal → Normal) (g : Operational → Operational → Operational)
    → ((a b : Normal) → passed facts (f a b) ≡ g (passed facts a) (passed facts b))
    → (left : Making) (op_left : OpMaking) (right : Making) (op_right : OpMaking)
    → Makes facts next left op_left → MakesLater facts next right op_right
    → Makes facts next (on_both f left right) (op_both g op_left op_right)
makes-both facts next f g each left op_left right op_right h k =
    let after = k (left next).1 h.grows in
    record {
      same = each (left next).0 (right (left next).1).0
          ∙ ap₂ g h.same (after.same ∙ ap (λ later. (op_right facts later).0) h.ends);
      ends = after.ends ∙ ap (λ later. (op_right facts later).1) h.ends;
      grows = le_trans h.grows after.grows;
    }

-- ---- with a variable

-- what follows on an entry makes the same wherever more is known
abbrev pub Continues : Facts → ℕ → (Entry → Making) → (Entry → OpMaking) → Type 0
Continues facts next rest op_rest = (other : Facts) (later : ℕ) (entry : Entry) → IsMore facts next other later → uses_below later entry
    → Makes other later (rest entry) (op_rest (resolved other entry))

pub makes-next : (facts : Facts) (next : ℕ) (fact : Fact) (rest : Entry → Making) (op_rest : Entry → OpMaking)
    → AreVaried facts → IsVaried fact → Continues facts next rest op_rest
    → Makes (knowing facts next fact) (suc next) (rest (variable next)) (op_rest (resolved (knowing facts next fact) (variable next)))
makes-next facts next fact rest op_rest varied one h =
    h (knowing facts next fact) (suc next) (variable next) (more-knowing facts next fact varied one) (omega arith)

pub makes-binding : (facts : Facts) (next : ℕ) (bind : Bind) (op_bind : Bind) (rest : Entry → Making) (op_rest : Entry → OpMaking)
    → resolved_bind facts bind ≡ op_bind → AreVaried facts → Continues facts next rest op_rest
    → Makes facts next (binding bind rest) (op_binding op_bind op_rest)
makes-binding facts next bind op_bind rest op_rest same varied h =
    subst (λ other. Makes facts next (binding bind rest) (op_binding other op_rest)) same
    (let bound = resolved_bind facts bind in
    let made = makes-next facts next (fact_of facts bound) rest op_rest varied (fact-varied facts bound varied) h in
    record { same = ap (Let next bound) made.same; ends = made.ends; grows = omega (arith, made.grows) })

-- ---- operators

pub literal-follows : (value : ℤ) → Follows (λ entries. just (Lit value)) (λ entries. op_just (Lit value))
literal-follows value = λ facts entries next varied below. makes-just facts next (Lit value) (Lit value) refl

pub index-follows : (pick : List Entry → Entry) → CommutesTo pick
    → Follows (λ entries. just (Index (pick entries))) (λ entries. op_just (Index (pick entries)))
index-follows pick h = λ facts entries next varied below.
    makes-just facts next (Index (pick entries)) (Index (pick (map (resolved facts) entries))) (ap Index (h.commutes facts entries))

pub load-follows : (area : ℕ) (shape : List ℕ)
    → Follows (λ entries. just (Get (record { area = area; shape = shape; at = entries }))) (op_loading area shape)
load-follows area shape = λ facts entries next varied below. record { same = refl; ends = refl; grows = le_refl next }

pub one-follows : (op : Unary) (of : Former) (op_of : OpFormer) → Follows of op_of
    → Follows (λ entries. on_one (Un op) (of entries)) (λ entries. op_one (Un op) (op_of entries))
one-follows op of op_of h = λ facts entries next varied below.
    makes-one facts next op (of entries) (op_of (map (resolved facts) entries)) (h facts entries next varied below)

pub two-follows : (op : Op) (left right : Former) (op_left op_right : OpFormer) → Follows left op_left → Follows right op_right
    → Follows (λ entries. on_both (Bin op) (left entries) (right entries)) (λ entries. op_both (Bin op) (op_left entries) (op_right entries))
two-follows op left right op_left op_right h k = λ facts entries next varied below.
    let known = map (resolved facts) entries in
    makes-both facts next (Bin op) (Bin op) (λ a b. refl) (left entries) (op_left known) (right entries) (op_right known)
    (h facts entries next varied below)
    (λ later more. k facts entries later varied (below-later next later entries more below))

pub moved-follows : (of : Former) (op_of : OpFormer) (move : List Entry → List Entry) → Commutes move → Follows of op_of
    → Follows (λ entries. of (move entries)) (λ entries. op_of (move entries))
moved-follows of op_of move moves h = λ facts entries next varied below.
    subst (λ known. Makes facts next (of (move entries)) (op_of known)) (moves.commutes facts entries)
    (h facts (move entries) next varied (moves.below entries next below))

-- ---- with one entry more

pub alone-follows : (of : Former) (op_of : OpFormer) → Follows of op_of → FollowsWith (λ entries entry. of entries) (λ entries entry. op_of entries)
alone-follows of op_of h = λ facts entries entry next varied below new. h facts entries next varied below

pub one-follows-with : (op : Unary) (item : List Entry → Entry → Making) (op_item : List Entry → Entry → OpMaking) → FollowsWith item op_item
    → FollowsWith (λ entries entry. on_one (Un op) (item entries entry)) (λ entries entry. op_one (Un op) (op_item entries entry))
one-follows-with op item op_item h = λ facts entries entry next varied below new.
    makes-one facts next op (item entries entry) (op_item (map (resolved facts) entries) (resolved facts entry))
    (h facts entries entry next varied below new)

pub two-follows-with : (op : Op) (left right : List Entry → Entry → Making) (op_left op_right : List Entry → Entry → OpMaking)
    → FollowsWith left op_left → FollowsWith right op_right
    → FollowsWith (λ entries entry. on_both (Bin op) (left entries entry) (right entries entry))
    (λ entries entry. op_both (Bin op) (op_left entries entry) (op_right entries entry))
two-follows-with op left right op_left op_right h k = λ facts entries entry next varied below new.
    let known = map (resolved facts) entries in
    let one = resolved facts entry in
    makes-both facts next (Bin op) (Bin op) (λ a b. refl)
    (left entries entry) (op_left known one) (right entries entry) (op_right known one)
    (h facts entries entry next varied below new)
    (λ later more. k facts entries entry later varied (below-later next later entries more below) (use-later next later entry more new))

pub moved-follows-with : (of : Former) (op_of : OpFormer) (move : List Entry → Entry → List Entry) → CommutesWith move → Follows of op_of
    → FollowsWith (λ entries entry. of (move entries entry)) (λ entries entry. op_of (move entries entry))
moved-follows-with of op_of move moves h = λ facts entries entry next varied below new.
    subst (λ known. Makes facts next (of (move entries entry)) (op_of known)) (moves.commutes facts entries entry)
    (h facts (move entries entry) next varied (moves.below entries entry next below new))
