-- What is written of a form, an operator at a time, is the form as the four rules leave it.
use mathlib.Core.Path.{fun_ext}
use Rattle.std.specs.Prelude.{◌≡◌, ℕ, ◌+◌, ◌≤◌, ◌==◌, ◌||◌, Bool, true, false, if◌then◌else◌, ℤ, pos, negsuc, List, [], ◌∷◌, ◌++◌, length, map}
use Rattle.std.specs.Prelude.{FitsSigned}
use Rattle.std.specs.List.{list_any}
use Rattle.std.specs.Int.{w64}
use Rattle.std.proofs.lemmas.Int.{fits_signed_from_abs}
use Rattle.std.proofs.Common.{refl, sym, ap, ◌∙◌, subst, arith, length-append}
use Rattle.shapes_core.specs.Limits.{greatest_extent}
use Rattle.shapes_core.specs.Shape.{span}
use Rattle.shapes_core.proofs.SpanLemmas.{span_within}
use Rattle.moa_tree.specs.declared.operator.Op.{Op}
use Rattle.moa_tree.specs.declared.operator.Unary.{Unary}
use Rattle.normal_form.specs.declared.entry.Entry.{Entry}
use Rattle.normal_form.specs.declared.entry.Entry.TheVariants.{At, Plus, Minus}
use Rattle.normal_form.specs.Cutting.{terms_in}
use Rattle.normal_form.specs.Forms.{Lit, Index, Get, Un, Bin, Case, Fold, Element, Normal}
use Rattle.normal_form.specs.Kept.{AreEntries, IsEntry}
use Rattle.stride_form.specs.declared.facts.Fact.{Fact}
use Rattle.stride_form.specs.declared.facts.Fact.TheVariants.{Range}
use Rattle.stride_form.specs.declared.op_term.OpTerm.{OpTerm}
use Rattle.stride_form.specs.declared.walk.Walk.{Walk}
use Rattle.stride_form.specs.declared.op_term.OpTerm.TheVariants as op
use Rattle.stride_form.specs.Facts.{Facts, knowing, resolved}
use Rattle.stride_form.specs.Kept.{IsOpEntry, most_constant}
use Rattle.stride_form.specs.Operational.{Operational}
use Rattle.stride_form.specs.Pool.{op_form_at, op_form_of, op_forms}
use Rattle.stride_form.specs.Rules.{is_over, needed, offset_in, passed, stands}
use Rattle.stride_form.specs.Small.{AreNearEntries, IsNear, either, fact_at, flag_at}
use Rattle.stride_form.specs.Writing.{IsReady, IsWritten, Knows, Marks, OpKeeps, OpStands, Pushes, Writes, Written}
use Rattle.stride_form.proofs.OpPoolLemmas.{kept, newest}
use Rattle.stride_form.proofs.PassKeptLemmas.{entries-kept, knowing-kept, offset-in-kept}
use Rattle.stride_form.proofs.TableLemmas.{either-more, either-none}
use Rattle.stride_form.proofs.WalkLemmas.{AreOpEntries, first-extent, small-rest-of}

-- ---- a term over what is written

-- what is pushed last is a form over those that stand, which is written where its variables are marked
pushed : (term : OpTerm) (form : Operational) (most : ℕ) (old now new : Written) (number : ℕ) → op_form_of (op_forms now.terms) term ≡ form
    → OpKeeps old.terms now.terms → 1 + length now.terms ≤ length old.terms + most → fact_at now.facts ≡ fact_at old.facts
    → flag_at now.flags ≡ either (flag_at old.flags) (λ var. stands var form) → Pushes term now new number → Writes form most old new number
pushed term form most old now new number is keeps few facts flags push =
    let whole = now.terms ++ term ∷ [] in
    let longer : length whole ≡ 1 + length now.terms = omega (arith, length-append now.terms (term ∷ [])) in
    let stands_last : OpStands whole number form = record {
      there = omega (arith, longer, push.place);
      same = ap (op_form_at (op_forms whole)) push.place ∙ (newest now.terms term).same ∙ is;
    } in
    record {
      stands_there = subst (λ terms. OpStands terms number form) (sym push.terms) stands_last;
      last = subst (λ terms. 1 + number ≡ length terms) (sym push.terms) (omega (arith, longer, push.place));
      keeps = subst (λ terms. OpKeeps old.terms terms) (sym push.terms) (λ other of here. kept now.terms term other of (keeps other of here));
      few = subst (λ terms. length terms ≤ length old.terms + most) (sym push.terms) (omega (arith, longer, few));
      facts = ap fact_at push.facts ∙ facts;
      flags = ap flag_at push.flags ∙ flags;
    }

all-stay : (old new : List OpTerm) → new ≡ old → OpKeeps old new
all-stay old new e number form here = subst (λ terms. OpStands terms number form) (sym e) here

pub literal-written : (value : ℤ) (old new : Written) (number : ℕ) → Pushes (op.Lit value) old new number → IsWritten (Lit value) old new number
literal-written value old new number push =
    pushed (op.Lit value) (Lit value) 1 old old new number refl (λ other form here. here) (omega arith) refl (either-none (flag_at old.flags)) push

pub index-written : (entry found : Entry) (old now new : Written) (number : ℕ) → found ≡ resolved (fact_at old.facts) entry
    → Marks (λ var. is_over var found) old now → Pushes (op.Index found) now new number → IsWritten (Index entry) old new number
index-written entry found old now new number is marks push =
    subst (λ e. Writes (Index e) 1 old new number) is
    (pushed (op.Index found) (Index found) 1 old now new number refl (all-stay old.terms now.terms marks.terms)
    (omega (arith, ap (λ (terms : List OpTerm). length terms) marks.terms)) (ap fact_at marks.facts) marks.flags push)

-- ---- loads

near-entry : (known : List ℕ) (entry : Entry) (n : ℕ) → n ≤ greatest_extent → IsEntry known entry n → IsNear most_constant entry
near-entry known (At (pos constant)) n small h = omega (arith, small, h)
near-entry known (At (negsuc constant)) n small h = elim h [ ]
near-entry known (Plus var add) n small h = omega (arith, h.1)
near-entry known (Minus var add) n small h = omega (arith, h.1)

near-found : (known : List ℕ) (entry : Entry) (n : ℕ) → n ≤ greatest_extent → IsOpEntry known entry n → IsNear most_constant entry
near-found known (At (pos constant)) n small h = omega (arith, small, h)
near-found known (At (negsuc constant)) n small h = elim h [ ]
near-found known (Plus var add) n small h = h.1
near-found known (Minus var add) n small h = h.1

near-entries : (known : List ℕ) (entries : List Entry) (shape : List ℕ) → span shape ≤ greatest_extent → AreEntries known entries shape
    → AreNearEntries entries
near-entries known [] shape small h = tt
near-entries known (entry ∷ entries) [] small h = elim h [ ]
near-entries known (entry ∷ entries) (n ∷ shape) small h =
    (near-entry known entry n (first-extent n shape small) h.0, near-entries known entries shape (small-rest-of n shape small) h.1)

near-all-found : (known : List ℕ) (entries : List Entry) (shape : List ℕ) → span shape ≤ greatest_extent → AreOpEntries known entries shape
    → AreNearEntries entries
near-all-found known [] shape small h = tt
near-all-found known (entry ∷ entries) [] small h = elim h [ ]
near-all-found known (entry ∷ entries) (n ∷ shape) small h =
    (near-found known entry n (first-extent n shape small) h.0, near-all-found known entries shape (small-rest-of n shape small) h.1)

pub near-load : (facts : Facts) (load : Element) → IsReady facts (Get load) → AreNearEntries load.at
near-load facts load ready = near-entries ready.known load.at load.shape (span_within load.shape ready.kept.1.1) ready.kept.1.0

pub near-resolved : (facts : Facts) (load : Element) → IsReady facts (Get load) → AreNearEntries (map (resolved facts) load.at)
near-resolved facts load ready =
    near-all-found ready.known (map (resolved facts) load.at) load.shape (span_within load.shape ready.kept.1.1)
    (entries-kept ready.known facts load.at load.shape ready.facts_kept ready.kept.1.0)

pub load-written : (load : Element) (walk : Walk) (old now new : Written) (number : ℕ)
    → walk ≡ offset_in (fact_at old.facts) (map (resolved (fact_at old.facts)) load.at) load.shape
    → Marks (λ var. list_any (λ step. var == step.0) walk.strides) old now
    → Pushes (op.Get (record { area = load.area; start = walk.start; strides = walk.strides })) now new number → IsWritten (Get load) old new number
load-written load walk old now new number is marks push =
    subst (λ found. Writes (Get (record { area = load.area; start = found.start; strides = found.strides })) 1 old new number) is
    (pushed (op.Get (record { area = load.area; start = walk.start; strides = walk.strides }))
    (Get (record { area = load.area; start = walk.start; strides = walk.strides })) 1 old now new number refl (all-stay old.terms now.terms marks.terms)
    (omega (arith, ap (λ (terms : List OpTerm). length terms) marks.terms)) (ap fact_at marks.facts) marks.flags push)

-- the start of what is found fits a word
pub start-fits : (facts : Facts) (load : Element) (walk : Walk) → IsReady facts (Get load)
    → walk ≡ offset_in facts (map (resolved facts) load.at) load.shape → FitsSigned w64 walk.start
start-fits facts load walk ready is =
    let small = offset-in-kept ready.known facts (map (resolved facts) load.at) load.shape ready.kept.1.1 ready.facts_kept
    (entries-kept ready.known facts load.at load.shape ready.facts_kept ready.kept.1.0) in
    subst (λ (found : Walk). FitsSigned w64 found.start) (sym is)
    (fits_signed_from_abs w64 (offset_in facts (map (resolved facts) load.at) load.shape).start (omega (arith, small.small)))

-- ---- operators

-- what is written of another form with the same facts, in the words of the first ones
beside-written : (form : Normal) (facts : Facts) (old new : Written) (number : ℕ) → fact_at old.facts ≡ facts → IsWritten form old new number
    → Writes (needed (passed facts form)) (terms_in form) old new number
beside-written form facts old new number same writes =
    subst (λ known. Writes (needed (passed known form)) (terms_in form) old new number) same writes

pub one-written : (operator : Unary) (of : Normal) (old now new : Written) (n number : ℕ) → IsWritten of old now n
    → Pushes (op.Un operator n) now new number → IsWritten (Un operator of) old new number
one-written operator of old now new n number inner push =
    pushed (op.Un operator n) (Un operator (needed (passed (fact_at old.facts) of))) (1 + terms_in of) old now new number
    (ap (Un operator) inner.stands_there.same) inner.keeps (omega (arith, inner.few)) inner.facts inner.flags push

pub two-written : (operator : Op) (left right : Normal) (old now after new : Written) (n k number : ℕ) → IsWritten left old now n
    → IsWritten right now after k → Pushes (op.Bin operator n k) after new number → IsWritten (Bin operator left right) old new number
two-written operator left right old now after new n k number first other push =
    let facts = fact_at old.facts in
    let one = needed (passed facts left) in
    let two = needed (passed facts right) in
    let second = beside-written right facts now after k first.facts other in
    let one_stands = second.keeps n one first.stands_there in
    pushed (op.Bin operator n k) (Bin operator one two) (1 + (terms_in left + terms_in right)) old after new number
    (ap (λ form. Bin operator form (op_form_at (op_forms after.terms) k)) one_stands.same ∙ ap (Bin operator one) second.stands_there.same)
    (λ place form here. second.keeps place form (first.keeps place form here)) (omega (arith, first.few, second.few)) (second.facts ∙ first.facts)
    (second.flags ∙ ap (λ flags. either flags (λ var. stands var two)) first.flags
    ∙ either-more (flag_at old.flags) (λ var. stands var one) (λ var. stands var two)) push

pub case-written : (entry found : Entry) (below : ℤ) (lower upper : Normal) (old marked now after new : Written) (n k number : ℕ)
    → found ≡ resolved (fact_at old.facts) entry → Marks (λ var. is_over var found) old marked → IsWritten lower marked now n
    → IsWritten upper now after k → Pushes (op.Case found below n k) after new number → IsWritten (Case entry below lower upper) old new number
case-written entry found below lower upper old marked now after new n k number is marks before other push =
    let facts = fact_at old.facts in
    let one = needed (passed facts lower) in
    let two = needed (passed facts upper) in
    let same : fact_at marked.facts ≡ facts = ap fact_at marks.facts in
    let first = beside-written lower facts marked now n same before in
    let second = beside-written upper facts now after k (first.facts ∙ same) other in
    let one_stands = second.keeps n one first.stands_there in
    subst (λ e. Writes (Case e below one two) (1 + (terms_in lower + terms_in upper)) old new number) is
    (pushed (op.Case found below n k) (Case found below one two) (1 + (terms_in lower + terms_in upper)) old after new number
    (ap (λ form. Case found below form (op_form_at (op_forms after.terms) k)) one_stands.same ∙ ap (Case found below one) second.stands_there.same)
    (λ place form here. second.keeps place form (first.keeps place form (all-stay old.terms marked.terms marks.terms place form here)))
    (omega (arith, first.few, second.few, ap (λ (terms : List OpTerm). length terms) marks.terms)) (second.facts ∙ first.facts ∙ same)
    (second.flags ∙ ap (λ flags. either flags (λ var. stands var two)) first.flags
    ∙ either-more (flag_at marked.flags) (λ var. stands var one) (λ var. stands var two)
    ∙ ap (λ flags. either flags (λ var. stands var one || stands var two)) marks.flags
    ∙ either-more (flag_at old.flags) (λ var. is_over var found) (λ var. stands var one || stands var two)) push)

-- what was known is known again
put-back : (facts : Facts) (var : ℕ) (fact : Fact) → knowing (knowing facts var fact) var (facts var) ≡ facts
put-back facts var fact = fun_ext (λ other. by other (other == var) (λ e. grind (arith, e))) where
  by : (other : ℕ) (test : Bool) → (test ≡ true → other ≡ var)
      → (if test then facts var else (if test then fact else facts other)) ≡ facts other
  by other true same = ap facts (sym (same refl))
  by other false same = refl

pub fold-written : (operator : Op) (var low high : ℕ) (of : Normal) (before : Fact) (old knows now after new : Written) (n number : ℕ)
    → before ≡ fact_at old.facts var → Knows var (Range low high) old knows → IsWritten of knows now n → Knows var before now after
    → Pushes (op.Fold operator var low high n) after new number → IsWritten (Fold operator var low high of) old new number
fold-written operator var low high of before old knows now after new n number is one inside other push =
    let facts = fact_at old.facts in
    let form = needed (passed (knowing facts var (Range low high)) of) in
    let inner = beside-written of (knowing facts var (Range low high)) knows now n one.facts inside in
    let stay = all-stay now.terms after.terms other.terms in
    pushed (op.Fold operator var low high n) (Fold operator var low high form) (1 + terms_in of) old after new number
    (ap (Fold operator var low high) (stay n form inner.stands_there).same)
    (λ place it here. stay place it (inner.keeps place it (all-stay old.terms knows.terms one.terms place it here)))
    (omega (arith, inner.few, ap (λ (terms : List OpTerm). length terms) one.terms, ap (λ (terms : List OpTerm). length terms) other.terms))
    (other.facts ∙ ap (λ fact. knowing (fact_at now.facts) var fact) is
    ∙ ap (λ known. knowing known var (facts var)) (inner.facts ∙ one.facts) ∙ put-back facts var (Range low high))
    (ap flag_at other.flags ∙ inner.flags ∙ ap (λ flags. either (flag_at flags) (λ var. stands var form)) one.flags) push

-- ---- what operands are written with

pub ready-as : (old new : Facts) (form : Normal) → new ≡ old → IsReady old form → IsReady new form
ready-as old new form same ready = subst (λ facts. IsReady facts form) (sym same) ready

pub ready-right : (operator : Op) (left right : Normal) (facts : Facts) → IsReady facts (Bin operator left right) → IsReady facts right
ready-right operator left right facts ready =
    record { known = ready.known; own = ready.own; kept = ready.kept.1; facts_kept = ready.facts_kept }

pub ready-second : (entry : Entry) (below : ℤ) (lower upper : Normal) (facts : Facts) → IsReady facts (Case entry below lower upper) → IsReady facts upper
ready-second entry below lower upper facts ready =
    record { known = ready.known; own = ready.own; kept = ready.kept.1.1.1; facts_kept = ready.facts_kept }

pub ready-fold : (operator : Op) (var low high : ℕ) (of : Normal) (facts : Facts) → IsReady facts (Fold operator var low high of)
    → IsReady (knowing facts var (Range low high)) of
ready-fold operator var low high of facts ready = record {
  known = var ∷ ready.known;
  own = ready.own;
  kept = ready.kept.1.1.1.1;
  facts_kept = knowing-kept ready.known facts var (Range low high) ready.facts_kept
      (omega (arith, ready.kept.1.0, ready.kept.1.1.0), ready.kept.1.1.0);
}
