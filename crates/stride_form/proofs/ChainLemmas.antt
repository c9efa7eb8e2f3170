-- Chains of bindings: a binding that is opened is put behind the others, and one that is closed is the last of them.
use mathlib.Core.Path.{fun_ext}
use Rattle.std.specs.Prelude.{◌≡◌, ℕ, ◌+◌, ◌==◌, ◌||◌, ◌&&◌, Bool, true, false, if◌then◌else◌, List, [], ◌∷◌, ◌++◌, length}
use Rattle.std.proofs.Common.{refl, sym, ap, ◌∙◌, subst, arith, length-append, eqb→eq}
use Rattle.std.proofs.lemmas.Bool.Decides.{nat_tests}
use Rattle.normal_form.specs.Cutting.{terms_in}
use Rattle.normal_form.specs.Forms.{Let, Normal}
use Rattle.normal_form.specs.declared.term.Bind.{Bind}
use Rattle.stride_form.specs.declared.facts.Fact.{Fact}
use Rattle.stride_form.specs.declared.op_term.OpTerm.{OpTerm}
use Rattle.stride_form.specs.declared.op_term.OpTerm.TheVariants as op
use Rattle.stride_form.specs.declared.pile.Bound.{Bound}
use Rattle.stride_form.specs.Chains.{AreOpen, AreSmall, IsDown}
use Rattle.stride_form.specs.Facts.{Facts, fact_of, knowing}
use Rattle.stride_form.specs.Operational.{Operational}
use Rattle.stride_form.specs.Rules.{is_bound_over, needed, passed, resolved_bind, stands, where_needed}
use Rattle.stride_form.specs.Small.{Flags, IsNearBind, IsSmallFact, either, fact_at, flag_at, flagged}
use Rattle.stride_form.specs.Writing.{Flagged, IsClosed, IsOpened, IsReady, IsWritten, Knows, Marks, OpStands, Opens, Pushes, Written, closed_flags, under}
use Rattle.stride_form.specs.KeptFacts.{AreKeptFacts}
use Rattle.stride_form.proofs.NearLemmas.{near-binding, near-resolved-binding, small-fact}
use Rattle.stride_form.proofs.PassKeptLemmas.{binding-kept, fact-kept, knowing-kept}
use Rattle.stride_form.proofs.OpPoolLemmas.{newest, kept}

-- ---- a binding behind the others

pub under-last : (before : List Bound) (bound : Bound) (form : Operational)
    → under (before ++ bound ∷ []) form ≡ under before (where_needed (stands bound.var form) bound.var bound.bind form)
under-last [] bound form = refl
under-last (first ∷ others) bound form =
    ap (λ f. where_needed (stands first.var f) first.var first.bind f) (under-last others bound form)

-- what is known and marked behind one more
pub opens-last : (before : List Bound) (bound : Bound) (facts now new : Facts) (flags marked newly : Flags) → Opens facts flags before now marked
    → bound.fact ≡ now bound.var → bound.flag ≡ marked bound.var → new ≡ knowing now bound.var (fact_of now bound.bind)
    → newly ≡ flagged marked bound.var false → Opens facts flags (before ++ bound ∷ []) new newly
opens-last [] bound facts now new flags marked newly opens fact flag known mark = (
  fact ∙ ap (λ f. f bound.var) opens.0,
  (
    flag ∙ ap (λ f. f bound.var) opens.1,
    (
      known ∙ ap (λ f. knowing f bound.var (fact_of f bound.bind)) opens.0,
      mark ∙ ap (λ f. flagged f bound.var false) opens.1,
    ),
  ),
)
opens-last (first ∷ others) bound facts now new flags marked newly opens fact flag known mark = (
  opens.0,
  (
    opens.1.0,
    opens-last others bound (knowing facts first.var (fact_of facts first.bind)) now new (flagged flags first.var false) marked newly
        opens.1.1 fact flag known mark,
  ),
)

-- and what is known and marked before the last
pub record IsLast (facts : Facts) (flags : Flags) (before : List Bound) (bound : Bound) (now : Facts) (marked : Flags) : Type 0 where
  pub earlier : Facts
  pub unmarked : Flags
  pub opens : Opens facts flags before earlier unmarked
  pub fact : bound.fact ≡ earlier bound.var
  pub flag : bound.flag ≡ unmarked bound.var
  pub known : now ≡ knowing earlier bound.var (fact_of earlier bound.bind)
  pub mark : marked ≡ flagged unmarked bound.var false

pub last-opens : (before : List Bound) (bound : Bound) (facts now : Facts) (flags marked : Flags)
    → Opens facts flags (before ++ bound ∷ []) now marked → IsLast facts flags before bound now marked
last-opens [] bound facts now flags marked opens = record {
  earlier = facts;
  unmarked = flags;
  opens = (refl, refl);
  fact = opens.0;
  flag = opens.1.0;
  known = opens.1.1.0;
  mark = opens.1.1.1;
}
last-opens (first ∷ others) bound facts now flags marked opens =
    let rest = last-opens others bound (knowing facts first.var (fact_of facts first.bind)) now (flagged flags first.var false) marked opens.1.1 in
    record {
      earlier = rest.earlier;
      unmarked = rest.unmarked;
      opens = (opens.0, (opens.1.0, rest.opens));
      fact = rest.fact;
      flag = rest.flag;
      known = rest.known;
      mark = rest.mark;
    }

pub small-last : (before : List Bound) (bound : Bound) → AreSmall before → IsSmallFact bound.fact → AreSmall (before ++ bound ∷ [])
small-last [] bound all small = (small, tt)
small-last (first ∷ others) bound all small = (all.0, small-last others bound all.1 small)

pub last-small : (before : List Bound) (bound : Bound) → AreSmall (before ++ bound ∷ []) → AreSmall before × IsSmallFact bound.fact
last-small [] bound all = (tt, all.0)
last-small (first ∷ others) bound all = let rest = last-small others bound all.1 in ((all.0, rest.0), rest.1)

-- ---- a binding that is closed

-- the tests of a binding that is left out, and of one that is written
or-out : (same flag needed one over : Bool) (is : needed ≡ false) → (same ≡ true → one ≡ needed)
    → (if same then flag || needed else one) ≡ ((if same then flag || one else one) || (needed && over))
or-out true flag needed one over is e = grind (arith, is, e refl)
or-out false flag needed one over is e = grind (arith, is)

or-in : (same flag needed one over : Bool) (is : needed ≡ true) → (same ≡ true → one ≡ needed)
    → ((if same then flag || needed else one) || over) ≡ ((if same then flag || one else one) || (needed && over))
or-in true flag needed one over is e = grind (arith, is, e refl)
or-in false flag needed one over is e = grind (arith, is)

same-var : (flags : Flags) (other var : ℕ) → (other == var) ≡ true → flags other ≡ flags var
same-var flags other var e = ap flags (eqb→eq other var (grind (arith, e)))

flags-out : (flags : Flags) (bound : Bound) → flags bound.var ≡ false → flagged flags bound.var (bound.flag || flags bound.var) ≡ closed_flags bound flags
flags-out flags bound is =
    fun_ext (λ other. or-out (other == bound.var) bound.flag (flags bound.var) (flags other) (is_bound_over other bound.bind) is
    (same-var flags other bound.var))

flags-in : (flags : Flags) (bound : Bound) → flags bound.var ≡ true
    → either (flagged flags bound.var (bound.flag || flags bound.var)) (λ var. is_bound_over var bound.bind) ≡ closed_flags bound flags
flags-in flags bound is =
    fun_ext (λ other. or-in (other == bound.var) bound.flag (flags bound.var) (flags other) (is_bound_over other bound.bind) is
    (same-var flags other bound.var))

-- a binding whose variable is not marked is left out
pub closed-out : (bound : Bound) (old know new : Written) (of : ℕ) → flag_at old.flags bound.var ≡ false → Knows bound.var bound.fact old know
    → Flagged bound.var (bound.flag || flag_at old.flags bound.var) know new
    → (form : Operational) → OpStands old.terms of form → 1 + of ≡ length old.terms → IsClosed bound form old new of
closed-out bound old know new of is known set form there last =
    let terms : new.terms ≡ old.terms = set.terms ∙ known.terms in
    record {
      stands_there = subst (λ t. OpStands t of (where_needed (flag_at old.flags bound.var) bound.var bound.bind form)) (sym terms) (record {
        there = there.there;
        same = there.same ∙ sym (ap (λ n. where_needed n bound.var bound.bind form) is);
      });
      last = last ∙ sym (ap length terms);
      keeps = λ number one stands_so. subst (λ t. OpStands t number one) (sym terms) stands_so;
      few = omega (arith, ap length terms);
      facts = ap fact_at set.facts ∙ known.facts;
      flags = set.flags ∙ ap (λ f. flagged (flag_at f) bound.var (bound.flag || flag_at old.flags bound.var)) known.flags
          ∙ flags-out (flag_at old.flags) bound is;
    }

-- one whose variable is marked is written
pub closed-in : (bound : Bound) (old know set mark new : Written) (of number : ℕ) → flag_at old.flags bound.var ≡ true
    → Knows bound.var bound.fact old know → Flagged bound.var (bound.flag || flag_at old.flags bound.var) know set
    → Marks (λ var. is_bound_over var bound.bind) set mark → Pushes (op.Let bound.var bound.bind of) mark new number
    → (form : Operational) → OpStands old.terms of form → 1 + of ≡ length old.terms → IsClosed bound form old new number
closed-in bound old know set mark new of number is known sets marks pushes form there last =
    let before : mark.terms ≡ old.terms = marks.terms ∙ (sets.terms ∙ known.terms) in
    let terms : new.terms ≡ old.terms ++ op.Let bound.var bound.bind of ∷ [] =
    pushes.terms ∙ ap (λ t. t ++ op.Let bound.var bound.bind of ∷ []) before in
    let place : number ≡ length old.terms = pushes.place ∙ ap length before in
    let longer = length-append old.terms (op.Let bound.var bound.bind of ∷ []) in
    let fresh = newest old.terms (op.Let bound.var bound.bind of) in
    record {
      stands_there = subst (λ t. OpStands t number (where_needed (flag_at old.flags bound.var) bound.var bound.bind form)) (sym terms)
          (subst (λ n. OpStands (old.terms ++ op.Let bound.var bound.bind of ∷ []) n
          (where_needed (flag_at old.flags bound.var) bound.var bound.bind form)) (sym place) (record {
            there = fresh.there;
            same = fresh.same ∙ (ap (Let bound.var bound.bind) there.same ∙ sym (ap (λ n. where_needed n bound.var bound.bind form) is));
          }));
      last = omega (arith, place, ap length terms, longer);
      keeps = λ n one stands_so. subst (λ t. OpStands t n one) (sym terms) (kept old.terms (op.Let bound.var bound.bind of) n one stands_so);
      few = omega (arith, ap length terms, longer);
      facts = ap fact_at (pushes.facts ∙ (marks.facts ∙ sets.facts)) ∙ known.facts;
      flags = ap flag_at pushes.flags ∙ (marks.flags ∙ (ap (λ f. either f (λ var. is_bound_over var bound.bind))
          (sets.flags ∙ ap (λ f. flagged (flag_at f) bound.var (bound.flag || flag_at old.flags bound.var)) known.flags)
          ∙ flags-in (flag_at old.flags) bound is));
    }

-- ---- the chain from the outermost binding inwards

pub down-start : (form : Normal) (pile : List Bound) (old : Written) → pile ≡ [] → IsReady (fact_at old.facts) form → IsDown form form pile old old
down-start form pile old none ready = subst (λ p. IsDown form form p old old) (sym none) (record {
  same = refl;
  count = omega arith;
  opens = (refl, refl);
  small = tt;
  ready = ready;
  terms = refl;
})

-- the same binding
over-same : {v w : ℕ} {b c : Bind} {x y : Operational} → v ≡ w → b ≡ c → x ≡ y → where_needed (stands v x) v b x ≡ where_needed (stands w y) w c y
over-same {w = w} {b = b} {c = c} {x = x} var bind form =
    ap (λ v. where_needed (stands v x) v b x) var
    ∙ (ap (λ b. where_needed (stands w x) w b x) bind ∙ ap (λ x. where_needed (stands w x) w c x) form)

down-one : (whole inner : Normal) (var : ℕ) (bind : Bind) (pile after : List Bound) (old new newer : Written)
    → IsDown whole (Let var bind inner) pile old new → IsOpened var bind pile after new newer → IsDown whole inner after old newer
down-one whole inner var bind pile after old new newer down opened =
    let facts = fact_at new.facts in
    let fact = fact_of facts (resolved_bind facts bind) in
    let ready = down.ready in
    subst (λ p. IsDown whole inner p old newer) (sym opened.pile) (record {
      same = down.same
          ∙ (ap (under pile) (over-same (sym opened.var_is) (sym opened.bind_is) (ap (λ f. needed (passed f inner)) (sym opened.facts)))
          ∙ sym (under-last pile opened.bound (needed (passed (fact_at newer.facts) inner))));
      count = omega (arith, down.count, length-append pile (opened.bound ∷ []));
      opens = opens-last pile opened.bound (fact_at old.facts) facts (fact_at newer.facts) (flag_at old.flags) (flag_at new.flags)
          (flag_at newer.flags) down.opens (opened.fact_is ∙ ap facts (sym opened.var_is)) (opened.flag_is ∙ ap (flag_at new.flags) (sym opened.var_is))
          (opened.facts ∙ (ap (λ v. knowing facts v fact) (sym opened.var_is)
          ∙ ap (λ b. knowing facts opened.bound.var (fact_of facts b)) (sym opened.bind_is)))
          (opened.flags ∙ ap (λ v. flagged (flag_at new.flags) v false) (sym opened.var_is));
      small = small-last pile opened.bound down.small opened.small;
      ready = record {
        known = var ∷ ready.known;
        own = ready.own;
        kept = ready.kept.1.1;
        facts_kept = subst (AreKeptFacts (var ∷ ready.known)) (sym opened.facts)
            (knowing-kept ready.known facts var fact ready.facts_kept (fact-kept ready.known facts bind ready.facts_kept ready.kept.0));
      };
      terms = opened.terms ∙ down.terms;
    })

pub down-step : (whole form inner : Normal) (var : ℕ) (bind : Bind) (pile after : List Bound) (old new newer : Written) → form ≡ Let var bind inner
    → IsDown whole form pile old new → IsOpened var bind pile after new newer → IsDown whole inner after old newer
down-step whole form inner var bind pile after old new newer is down opened =
    down-one whole inner var bind pile after old new newer (subst (λ f. IsDown whole f pile old new) is down) opened

-- a binding that may be written may be opened
pub record MayOpen (facts : Facts) (bind : Bind) : Type 0 where
  pub near : IsNearBind bind
  pub resolved : IsNearBind (resolved_bind facts bind)
  pub small : IsSmallFact (fact_of facts (resolved_bind facts bind))

may-open-let : (facts : Facts) (inner : Normal) (var : ℕ) (bind : Bind) → IsReady facts (Let var bind inner) → MayOpen facts bind
may-open-let facts inner var bind ready = record {
  near = near-binding ready.known bind ready.kept.0;
  resolved = near-resolved-binding ready.known (resolved_bind facts bind) (binding-kept ready.known facts bind ready.facts_kept ready.kept.0);
  small = small-fact ready.known (fact_of facts (resolved_bind facts bind)) (fact-kept ready.known facts bind ready.facts_kept ready.kept.0);
}

pub may-open : (facts : Facts) (form inner : Normal) (var : ℕ) (bind : Bind) → form ≡ Let var bind inner → IsReady facts form → MayOpen facts bind
may-open facts form inner var bind is ready = may-open-let facts inner var bind (subst (IsReady facts) is ready)

-- ---- and from the innermost outwards

-- what was known of a variable is known again
known-again : (facts : Facts) (var : ℕ) (fact : Fact) → knowing (knowing facts var fact) var (facts var) ≡ facts
known-again facts var fact = fun_ext (λ other. by (other == var) other (λ e. eqb→eq other var (grind (arith, e)))) where
  by : (test : Bool) (other : ℕ) → (test ≡ true → other ≡ var) → (if test then facts var else if test then fact else facts other) ≡ facts other
  by true other e = sym (ap facts (e refl))
  by false other e = refl

stands-where : (other var : ℕ) (bind : Bind) (form : Operational) (test : Bool)
    → stands other (where_needed test var bind form) ≡ ((test && is_bound_over other bind) || stands other form)
stands-where other var bind form true = refl
stands-where other var bind form false = refl

or-closed : (same before own stands_so test over : Bool) → (same ≡ true → before ≡ own)
    → ((if same then own || ((if same then false else before) || stands_so) else ((if same then false else before) || stands_so)) || (test && over))
    ≡ (before || ((test && over) || stands_so))
or-closed true before own stands_so test over e = grind (arith, e refl)
or-closed false before own stands_so test over e = grind arith

-- a variable whose binding is opened is marked where it stands in what is written since
own-flag : (flags : Flags) (var : ℕ) (stood : Bool) → (flagged flags var false var || stood) ≡ stood
own-flag flags var stood = ap (λ test. (if test then false else flags var) || stood) (itself var) where
  itself : (n : ℕ) → (n == n) ≡ true
  itself n = grind (arith, nat_tests)

flags-closed : (bound : Bound) (form : Operational) (now unmarked : Flags)
    → now ≡ either (flagged unmarked bound.var false) (λ var. stands var form) → bound.flag ≡ unmarked bound.var
    → closed_flags bound now ≡ either unmarked (λ var. stands var (where_needed (now bound.var) bound.var bound.bind form))
flags-closed bound form now unmarked before flag = fun_ext (λ other.
    let test = now bound.var in
    let same = other == bound.var in
    let over = is_bound_over other bound.bind in
    ap (λ f. (if same then bound.flag || f other else f other) || (test && over)) before
    ∙ (ap (λ b. (if same then b || ((if same then false else unmarked other) || stands other form)
    else ((if same then false else unmarked other) || stands other form)) || (test && over)) flag
    ∙ (or-closed same (unmarked other) (unmarked bound.var) (stands other form) test over (same-var unmarked other bound.var)
    ∙ ap (λ s. unmarked other || s) (sym (stands-where other bound.var bound.bind form test)))))

-- what becomes of what is open when its last binding is closed
pub closes : (facts : Facts) (flags : Flags) (pile rest : List Bound) (bound : Bound) (whole : Operational) (first : List OpTerm) (most : ℕ)
    (now new : Written) (number next : ℕ) → pile ≡ rest ++ bound ∷ []
    → ((form : Operational) → OpStands now.terms number form → 1 + number ≡ length now.terms → IsClosed bound form now new next)
    → AreOpen facts flags pile whole first most now number → AreOpen facts flags rest whole first most new next
closes facts flags pile rest bound whole first most now new number next is close are =
    let form = are.form in
    let behind = last-opens rest bound facts (fact_at now.facts) flags are.marked
    (subst (λ p. Opens facts flags p (fact_at now.facts) are.marked) is are.opens) in
    let closed = close form are.stands_there are.last in
    let var = bound.var in
    let bind = bound.bind in
    let test = flag_at now.flags var in
    let before : flag_at now.flags ≡ either (flagged behind.unmarked var false) (λ v. stands v form) =
    are.flags_now ∙ ap (λ m. either m (λ v. stands v form)) behind.mark in
    let stood : test ≡ stands var form =
    ap (λ f. f var) before ∙ own-flag behind.unmarked var (stands var form) in
    let again : fact_at new.facts ≡ behind.earlier =
    closed.facts ∙ (ap (λ f. knowing f var bound.fact) behind.known
    ∙ (ap (knowing (knowing behind.earlier var (fact_of behind.earlier bind)) var) behind.fact
    ∙ known-again behind.earlier var (fact_of behind.earlier bind))) in
    record {
      marked = behind.unmarked;
      form = where_needed test var bind form;
      opens = subst (λ f. Opens facts flags rest f behind.unmarked) (sym again) behind.opens;
      flags_now = closed.flags ∙ flags-closed bound form (flag_at now.flags) behind.unmarked before behind.flag;
      same = ap (λ t. under rest (where_needed t var bind form)) stood
          ∙ (sym (under-last rest bound form) ∙ (ap (λ p. under p form) (sym is) ∙ are.same));
      stands_there = closed.stands_there;
      last = closed.last;
      keeps = λ n one stands_so. closed.keeps n one (are.keeps n one stands_so);
      few = omega (arith, closed.few, are.few, ap length is, length-append rest (bound ∷ []));
    }

pub none-left : (pile : List Bound) → length pile ≡ 0 → pile ≡ []
none-left [] none = refl
none-left (first ∷ others) none = absurd (omega (arith, none))

-- the bindings of a whole form are open over its body, which is written
pub chain-begun : (form body : Normal) (pile : List Bound) (old opened written : Written) (middle : ℕ)
    → IsDown form body pile old opened → IsWritten body opened written middle
    → AreOpen (fact_at old.facts) (flag_at old.flags) pile (needed (passed (fact_at old.facts) form)) old.terms (length old.terms + terms_in form)
    written middle
chain-begun form body pile old opened written middle down done = record {
  marked = flag_at opened.flags;
  form = needed (passed (fact_at opened.facts) body);
  opens = subst (λ f. Opens (fact_at old.facts) (flag_at old.flags) pile f (flag_at opened.flags)) (sym done.facts) down.opens;
  flags_now = done.flags;
  same = sym down.same;
  stands_there = done.stands_there;
  last = done.last;
  keeps = λ n one stands_so. done.keeps n one (subst (λ t. OpStands t n one) (sym down.terms) stands_so);
  few = omega (arith, done.few, ap length down.terms, down.count);
}

-- and with all of them closed it is written
pub chain-ended : (form : Normal) (old new : Written) (number : ℕ)
    → AreOpen (fact_at old.facts) (flag_at old.flags) [] (needed (passed (fact_at old.facts) form)) old.terms (length old.terms + terms_in form) new number
    → IsWritten form old new number
chain-ended form old new number after = record {
  stands_there = subst (OpStands new.terms number) after.same after.stands_there;
  last = after.last;
  keeps = after.keeps;
  few = omega (arith, after.few);
  facts = after.opens.0;
  flags = after.flags_now ∙ (ap (λ m. either m (λ var. stands var after.form)) after.opens.1
      ∙ ap (λ f. either (flag_at old.flags) (λ var. stands var f)) after.same);
}
