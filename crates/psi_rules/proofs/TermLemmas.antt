-- Pools of terms grow at their ends: what stands goes on standing, what is added is made of what its operands are, and a form has no more terms
-- as a tree than were added for it.
use Rattle.std.specs.Prelude.{◌≡◌, ℕ, zero, suc, ◌+◌, ◌<◌, ◌≤◌, List, [], ◌∷◌, ◌++◌, length, ℤ, pos, IfOk, Result, slice_index}
use Rattle.std.specs.List.{AllByRecursion}
use Rattle.std.proofs.Common.{refl, ap, sym, subst, ◌∙◌, arith, length-append}
use Rattle.std.proofs.lemmas.Result.{IfOk-weaker}
use Rattle.std.proofs.Math.Seq.{get_or-append_seam}
use Rattle.std.proofs.lemmas.List.{get_or_append_left}
use Rattle.shapes_core.specs.Limits.{most_items}
use Rattle.moa_tree.specs.Axes.{on_axis, turned}
use Rattle.moa_tree.specs.declared.operator.Op.{Op}
use Rattle.normal_form.specs.declared.entry.Entry.{Entry}
use Rattle.normal_form.specs.declared.term.Term.{Term}
use Rattle.normal_form.specs.Cutting.{terms_in}
use Rattle.normal_form.specs.Formers.{Former, Making, folding, joining, just, on_both, on_one, turning, with_form}
use Rattle.normal_form.specs.Forms.{Fold, Lit, Normal}
use Rattle.normal_form.specs.Kept.{AreOrdered}
use Rattle.normal_form.specs.Moves.{behind_entry, variable}
use Rattle.normal_form.specs.Pool.{form_at, form_of, forms, forms_after, operands}
use Rattle.psi_rules.specs.Building.{Adds, Built, Builds, IsFresh, IsPool, IsThere, Keeps, Stands, cat_made, rotate_made, sided, turned_by}
use Rattle.psi_rules.specs.declared.sides.Side.{Side}
use Rattle.psi_rules.specs.declared.turns.Turned.{Turned}
use Rattle.psi_rules.specs.Rules.{entry_on, form}

after-append : (front : List Normal) (terms others : List Term) → forms_after front (terms ++ others) ≡ forms_after (forms_after front terms) others
after-append front [] others = refl
after-append front (first ∷ more) others = after-append (front ++ form_of front first ∷ []) more others

length-after : (front : List Normal) (terms : List Term) → length (forms_after front terms) ≡ length front + length terms
length-after front [] = omega arith
length-after front (first ∷ others) =
    omega (arith, length-after (front ++ form_of front first ∷ []) others, length-append front (form_of front first ∷ []))

-- what is added last
newest : (terms : List Term) (term : Term) → form_at (forms (terms ++ term ∷ [])) (length terms) ≡ form_of (forms terms) term
newest terms term =
    let before = forms terms in
    let e : length before ≡ length terms = omega (arith, length-after [] terms) in
    ap (λ l. form_at l (length terms)) (after-append [] terms (term ∷ []))
    ∙ ap (λ place. form_at (before ++ form_of before term ∷ []) place) (sym e)
    ∙ get_or-append_seam before (form_of before term) [] (Lit (pos 0))

-- what was there
kept : (terms : List Term) (term : Term) → Keeps terms (terms ++ term ∷ [])
kept terms term number form stands = record {
  there = omega (arith, stands.there, length-append terms (term ∷ []));
  same =
      ap (λ l. form_at l number) (after-append [] terms (term ∷ []))
      ∙ get_or_append_left (forms terms) (form_of (forms terms) term ∷ []) (Lit (pos 0)) number (omega (arith, stands.there, length-after [] terms))
      ∙ stands.same;
}

ordered-after : (number : ℕ) (terms : List Term) (term : Term) → AreOrdered number terms
    → AllByRecursion (λ operand. operand < number + length terms) (operands term) → AreOrdered number (terms ++ term ∷ [])
ordered-after number [] term ordered below = (subst (λ n. AllByRecursion (λ operand. operand < n) (operands term)) (omega arith) below, tt)
ordered-after number (first ∷ others) term ordered below = (
  ordered.0,
  ordered-after (1 + number) others term ordered.1
      (subst (λ n. AllByRecursion (λ operand. operand < n) (operands term)) (omega arith) below),
)

-- a pool stays one
pub pool-grown : (terms : List Term) (term : Term) → IsPool terms → length terms < most_items
    → AllByRecursion (λ operand. operand < length terms) (operands term) → IsPool (terms ++ term ∷ [])
pool-grown terms term pool room below = record {
  ordered = ordered-after 0 terms term pool.ordered (subst (λ n. AllByRecursion (λ operand. operand < n) (operands term)) (omega arith) below);
  few = omega (arith, room, length-append terms (term ∷ []));
}

longer-by-one : (old new : Built) (term : Term) → new.terms ≡ old.terms ++ term ∷ [] → length new.terms ≡ 1 + length old.terms
longer-by-one old new term terms =
    subst (λ l. length l ≡ 1 + length old.terms) (sym terms) (omega (arith, length-append old.terms (term ∷ [])))

-- a term that is pushed adds its form, which has one term more than its operands
pub added : (old new : Built) (term : Term) (below : ℕ) (form : Normal) → new.terms ≡ old.terms ++ term ∷ [] → new.next ≡ old.next
    → form_of (forms old.terms) term ≡ form → terms_in form ≡ 1 + below → Adds below form old new (length old.terms)
added old new term below form terms next same count = record {
  stands = record {
    there = subst (λ l. length old.terms < length l) (sym terms) (omega (arith, length-append old.terms (term ∷ [])));
    same = ap (λ l. form_at (forms l) (length old.terms)) terms ∙ newest old.terms term ∙ same;
  };
  next = next;
  keeps = λ number other stands. subst (λ l. Stands l number other) (sym terms) (kept old.terms term number other stands);
  counted = omega (arith, count, longer-by-one old new term terms);
}

-- and builds it where it has no operand
pub built-alone : (old new : Built) (form : Normal) (number : ℕ) → Adds 0 form old new number → Builds (just form) old new number
built-alone old new form number adds = record {
  stands = adds.stands;
  next = adds.next;
  keeps = adds.keeps;
  counted = omega (arith, adds.counted);
}

pub term-there : (old new : Built) (term : Term) → new.terms ≡ old.terms ++ term ∷ [] → IsThere old new (length old.terms)
term-there old new term terms = record {
  last = subst (λ l. 1 + length old.terms ≡ length l) (sym terms) (omega (arith, length-append old.terms (term ∷ [])));
  longer = subst (λ l. length old.terms ≤ length l) (sym terms) (omega (arith, length-append old.terms (term ∷ [])));
}

-- what is made of one form, and of two
one-built : (f : Normal → Normal) (of : Making) (old mid new : Built) (operand number : ℕ) → Builds of old mid operand
    → Adds (terms_in (of old.next).0) (f (of old.next).0) mid new number → Builds (on_one f of) old new number
one-built f of old mid new operand number built adds = record {
  stands = adds.stands;
  next = adds.next ∙ built.next;
  keeps = λ n form stands. adds.keeps n form (built.keeps n form stands);
  counted = omega (arith, adds.counted, built.counted);
}

both-built : (f : Normal → Normal → Normal) (left right : Making) (old mid last new : Built) (first second number : ℕ)
    → Builds left old mid first → Builds right mid last second
    → Adds (terms_in (left old.next).0 + terms_in (right mid.next).0) (f (left old.next).0 (right mid.next).0) last new number
    → Builds (on_both f left right) old new number
both-built f left right old mid last new first second number one other made =
    record {
      stands = subst (λ next. Stands new.terms number (f (left old.next).0 (right next).0)) one.next made.stands;
      next = made.next ∙ other.next ∙ ap (λ next. (right next).1) one.next;
      keeps = λ n form stands. made.keeps n form (other.keeps n form (one.keeps n form stands));
      counted = subst (λ next. terms_in (f (left old.next).0 (right next).0) + length old.terms ≤ length new.terms) one.next
          (omega (arith, made.counted, other.counted, one.counted));
    }

-- the same of what a call answers
pub one-done : {E : Type 0} (f : Normal → Normal) (of : Making) (old mid new : Built) (operand : ℕ) (result : Result ℕ E) → Builds of old mid operand
    → ((form : Normal) → Stands mid.terms operand form → IfOk result (Adds (terms_in form) (f form) mid new))
    → IfOk result (Builds (on_one f of) old new)
one-done f of old mid new operand result built adds =
    IfOk-weaker result (Adds (terms_in (of old.next).0) (f (of old.next).0) mid new) (Builds (on_one f of) old new)
    (λ number. one-built f of old mid new operand number built) (adds (of old.next).0 built.stands)

pub both-done : {E : Type 0} (f : Normal → Normal → Normal) (left right : Making) (old mid last new : Built) (first second : ℕ) (result : Result ℕ E)
    → Builds left old mid first → Builds right mid last second
    → ((one other : Normal) → Stands last.terms first one → Stands last.terms second other
    → IfOk result (Adds (terms_in one + terms_in other) (f one other) last new))
    → IfOk result (Builds (on_both f left right) old new)
both-done f left right old mid last new first second result one other adds =
    IfOk-weaker result (Adds (terms_in (left old.next).0 + terms_in (right mid.next).0) (f (left old.next).0 (right mid.next).0) last new)
    (Builds (on_both f left right) old new)
    (λ number. both-built f left right old mid last new first second number one other)
    (adds (left old.next).0 (right mid.next).0 (other.keeps first (left old.next).0 one.stands) other.stands)

-- what is built of two where their entries are equal
pub pair-done : {E : Type 0} (f : Normal → Normal → Normal) (left right : Former) (given wanted other wanted_other : List Entry)
    → given ≡ wanted → other ≡ wanted_other → (old new : Built) (result : Result ℕ E)
    → IfOk result (Builds (on_both f (left given) (right other)) old new)
    → IfOk result (Builds (on_both f (left wanted) (right wanted_other)) old new)
pair-done f left right given wanted other wanted_other e d old new result built =
    subst (λ entries. IfOk result (Builds (on_both f (left wanted) (right entries)) old new)) d
    (subst (λ entries. IfOk result (Builds (on_both f (left entries) (right other)) old new)) e built)

-- what takes the next variable
fresh-built : (f : ℕ → Normal → Normal) (item : Entry → Making) (old mid last new : Built) (var operand number : ℕ) → IsFresh old mid var
    → Builds (item (variable var)) mid last operand
    → Adds (terms_in (item (variable var) mid.next).0) (f var (item (variable var) mid.next).0) last new number
    → Builds (λ next. with_form (f next) (item (variable next) (suc next))) old new number
fresh-built f item old mid last new var operand number fresh built adds = record {
  stands =
      subst (λ v. Stands new.terms number (f v (item (variable v) (suc old.next)).0)) fresh.taken
      (subst (λ next. Stands new.terms number (f var (item (variable var) next).0)) fresh.next adds.stands);
  next =
      adds.next ∙ built.next ∙ ap (λ next. (item (variable var) next).1) fresh.next ∙ ap (λ v. (item (variable v) (suc old.next)).1) fresh.taken;
  keeps = λ k form stands. adds.keeps k form (built.keeps k form (subst (λ l. Stands l k form) (sym fresh.terms) stands));
  counted =
      subst (λ v. terms_in (f v (item (variable v) (suc old.next)).0) + length old.terms ≤ length new.terms) fresh.taken
      (subst (λ next. terms_in (f var (item (variable var) next).0) + length old.terms ≤ length new.terms) fresh.next
      (omega (arith, adds.counted, built.counted, ap length fresh.terms)));
}

pub fresh-done : {E : Type 0} (f : ℕ → Normal → Normal) (item : Entry → Making) (old mid last new : Built) (var operand : ℕ) (result : Result ℕ E)
    → IsFresh old mid var → Builds (item (variable var)) mid last operand
    → ((form : Normal) → Stands last.terms operand form → IfOk result (Adds (terms_in form) (f var form) last new))
    → IfOk result (Builds (λ next. with_form (f next) (item (variable next) (suc next))) old new)
fresh-done f item old mid last new var operand result fresh built adds =
    IfOk-weaker result (Adds (terms_in (item (variable var) mid.next).0) (f var (item (variable var) mid.next).0) last new)
    (Builds (λ next. with_form (f next) (item (variable next) (suc next))) old new)
    (λ number. fresh-built f item old mid last new var operand number fresh built) (adds (item (variable var) mid.next).0 built.stands)

-- a fold over items, each at the next variable
pub fold-done : {E : Type 0} (op : Op) (n : ℕ) (item : Entry → Making) (old mid last new : Built) (var operand : ℕ) (result : Result ℕ E)
    → (n ≡ 0 → ⊥)
    → IsFresh old mid var → Builds (item (variable var)) mid last operand
    → ((form : Normal) → Stands last.terms operand form → IfOk result (Adds (terms_in form) (Fold op var 0 n form) last new))
    → IfOk result (Builds (folding op n item) old new)
fold-done op zero item old mid last new var operand result some fresh built adds = absurd (some refl)
fold-done op (suc n) item old mid last new var operand result some fresh built adds =
    fresh-done (λ v. Fold op v 0 (suc n)) item old mid last new var operand result fresh built adds

-- the law of a turned entry
abbrev pub Turns : Turned → ℕ → ℕ → Entry → Type 0
Turns turn by n entry = (rest : Entry → Making) → turning by n entry rest ≡ turned_by turn by n entry rest

-- what is built of a turned entry is the turn
pub rotate-done : {E : Type 0} (turn : Turned) (by n : ℕ) (k : ℤ) (shape wanted : List ℕ) (entries : List Entry) (entry : Entry) (of : Former)
    (old new : Built) (result : Result ℕ E) → shape ≡ wanted → n ≡ slice_index shape 0 → by ≡ turned k n 0 → entry ≡ entry_on 0 entries
    → Turns turn by n entry
    → IfOk result (Builds (turned_by turn by n entry (λ other. of (on_axis 0 (λ extent old. other) shape entries))) old new)
    → IfOk result (Builds (rotate_made k wanted entries of) old new)
rotate-done turn by n k shape wanted entries entry of old new result e is_n is_by is_entry law built =
    let rest : Entry → Making = λ other. of (on_axis 0 (λ extent old. other) shape entries) in
    subst (λ s. IfOk result (Builds (rotate_made k s entries of) old new)) e
    (subst (λ making. IfOk result (Builds making old new))
    (sym (law rest) ∙ ap (λ j. turning j n entry rest) is_by ∙ ap (λ m. turning (turned k m 0) m entry rest) is_n
    ∙ ap (λ other. turning (turned k (slice_index shape 0) 0) (slice_index shape 0) other rest) is_entry) built)

-- the law of the parts of a join that an entry reaches
abbrev pub Reaches : Side → ℕ → ℕ → Entry → Type 0
Reaches side n m entry = (first second : Making) → joining n m entry first second ≡ sided side n entry first second

-- what is built of the parts that are reached is the join
pub cat-done : {E : Type 0} (side : Side) (n m : ℕ) (shape other wanted wanted_other : List ℕ) (entries : List Entry) (entry : Entry)
    (left right : Former)
    (old new : Built) (result : Result ℕ E) → shape ≡ wanted → other ≡ wanted_other → entry ≡ entry_on 0 entries
    → n ≡ slice_index shape 0 → m ≡ slice_index other 0 → Reaches side n m entry
    → IfOk result (Builds (sided side n entry (left entries) (right (on_axis 0 behind_entry shape entries))) old new)
    → IfOk result (Builds (cat_made wanted wanted_other entries left right) old new)
cat-done side n m shape other wanted wanted_other entries entry left right old new result e d is_entry is_n is_m law built =
    let first = left entries in
    let second = right (on_axis 0 behind_entry shape entries) in
    subst (λ s. IfOk result (Builds (cat_made s wanted_other entries left right) old new)) e
    (subst (λ s. IfOk result (Builds (cat_made shape s entries left right) old new)) d
    (subst (λ making. IfOk result (Builds making old new))
    (sym (law first second) ∙ ap (λ k. joining k m entry first second) is_n ∙ ap (λ k. joining (slice_index shape 0) k entry first second) is_m
    ∙ ap (λ k. joining (slice_index shape 0) (slice_index other 0) k first second) is_entry) built))
