-- What is left out by the last rule decides nothing: a form means the same under assignments that agree where variables stand.
use Rattle.std.specs.Prelude.{◌≡◌, ℕ, ◌+◌, ◌-◌, ◌==◌, ◌||◌, Bool, true, false, ℤ, pos, ◌+ℤ◌, ◌-ℤ◌, ◌*ℤ◌, int_lt, List, [], ◌∷◌, map, unsigned_abs}
use Rattle.std.specs.Prelude.{if◌then◌else◌}
use Rattle.std.specs.List.{list_any}
use Rattle.std.proofs.Common.{refl, sym, ap, ap₂, subst, ◌∙◌, arith}
use Rattle.shapes_core.specs.Gamma.{digit, gamma}
use Rattle.moa_tree.specs.Axes.{turned}
use Rattle.moa_tree.specs.Folds.{fold_of}
use Rattle.moa_tree.specs.Operators.{apply, apply_unary}
use Rattle.moa_tree.specs.Values.{chosen}
use Rattle.normal_form.specs.declared.entry.Entry.{Entry}
use Rattle.normal_form.specs.declared.entry.Entry.TheVariants.{At, Plus, Minus}
use Rattle.normal_form.specs.declared.term.Bind.{Bind}
use Rattle.normal_form.specs.declared.term.Bind.TheVariants.{Turn, Flat, Digit}
use Rattle.normal_form.specs.Assignments.{Assignment, bound, bound_to, number, places}
use Rattle.normal_form.specs.Forms.{Lit, Index, Get, Un, Bin, Case, Fold, Let}
use Rattle.normal_form.specs.Meaning.{Reached, Store, meaning}
use Rattle.normal_form.specs.Stands.{AreIndex, IsAmong, IsFineBinding, IsPlace}
use Rattle.stride_form.specs.Accesses.{Steps, access_value, walked}
use Rattle.stride_form.specs.Operational.{Operational}
use Rattle.stride_form.specs.Places.{IsFineAccess}
use Rattle.stride_form.specs.Rules.{is_bound_over, is_over, needed, stands, where_needed}
use Rattle.stride_form.proofs.MeaningLemmas.{range-agrees}

-- ---- tests

or-left : (a b : Bool) → a ≡ true → (a || b) ≡ true
or-left true b h = refl
or-left false b h = absurd (cc)

or-right : (a b : Bool) → b ≡ true → (a || b) ≡ true
or-right true b h = refl
or-right false b h = h

pub true-false : true ≡ false → ⊥
true-false h = cc

pub same-variable : (v other : ℕ) → (v == other) ≡ true → v ≡ other
same-variable v other h = grind (arith, h)

pub same-one : (v : ℕ) → (v == v) ≡ true
same-one v = grind (arith)

-- ---- assignments that agree where a test holds

abbrev Agrees : (ℕ → Bool) → Assignment → Assignment → Type 0
Agrees on m n = (v : ℕ) → on v ≡ true → m v ≡ n v

number-agrees : (m n : Assignment) (entry : Entry) → Agrees (λ v. is_over v entry) m n → number m entry ≡ number n entry
number-agrees m n (At constant) h = refl
number-agrees m n (Plus var add) h = ap (λ k. pos k +ℤ add) (h var (same-one var))
number-agrees m n (Minus var add) h = ap (λ k. add -ℤ pos k) (h var (same-one var))

numbers-agree : (m n : Assignment) (entries : List Entry) → Agrees (λ v. list_any (is_over v) entries) m n
    → map (number m) entries ≡ map (number n) entries
numbers-agree m n [] h = refl
numbers-agree m n (entry ∷ entries) h =
    ap₂ (λ front back. front ∷ back)
    (number-agrees m n entry (λ v here. h v (or-left (is_over v entry) (list_any (is_over v) entries) here)))
    (numbers-agree m n entries (λ v there. h v (or-right (is_over v entry) (list_any (is_over v) entries) there)))

places-agree : (m n : Assignment) (entries : List Entry) → Agrees (λ v. list_any (is_over v) entries) m n
    → places m entries ≡ places n entries
places-agree m n [] h = refl
places-agree m n (entry ∷ entries) h =
    ap₂ (λ front back. front ∷ back)
    (ap unsigned_abs (number-agrees m n entry (λ v here. h v (or-left (is_over v entry) (list_any (is_over v) entries) here))))
    (places-agree m n entries (λ v there. h v (or-right (is_over v entry) (list_any (is_over v) entries) there)))

walked-agrees : (m n : Assignment) (steps : Steps) → Agrees (λ v. list_any (λ step. v == step.0) steps) m n → walked m steps ≡ walked n steps
walked-agrees m n [] h = refl
walked-agrees m n (first ∷ others) h =
    ap₂ (λ k z. first.1 *ℤ pos k +ℤ z)
    (h first.0 (or-left (first.0 == first.0) (list_any (λ step. first.0 == step.0) others) (same-one first.0)))
    (walked-agrees m n others (λ v there. h v (or-right (v == first.0) (list_any (λ step. v == step.0) others) there)))

-- a binding binds the same number
bound-agrees : (m n : Assignment) (bind : Bind) → Agrees (λ v. is_bound_over v bind) m n → bound_to m bind ≡ bound_to n bind
bound-agrees m n (Turn of by extent) h = ap (λ z. turned (pos by) extent (unsigned_abs z)) (number-agrees m n of h)
bound-agrees m n (Flat of shape) h = ap (λ index. gamma index shape) (places-agree m n of h)
bound-agrees m n (Digit of weight extent) h = ap (λ z. digit (unsigned_abs z) weight extent) (number-agrees m n of h)

-- under a binding of the same number
choose-agrees : (same : Bool) (j k a b : ℕ) → j ≡ k → a ≡ b → (if same then j else a) ≡ (if same then k else b)
choose-agrees true j k a b number rest = number
choose-agrees false j k a b number rest = rest

under : (on : ℕ → Bool) (m n : Assignment) (var j k : ℕ) → j ≡ k → Agrees on m n → Agrees on (bound m var j) (bound n var k)
under on m n var j k same h = λ v here. choose-agrees (v == var) j k (m v) (n v) same (h v here)

-- ---- meaning

case-agrees : (y z below : ℤ) (f g h k : Assignment → ℤ) (m n : Assignment) → y ≡ z → f m ≡ h n → g m ≡ k n
    → chosen (int_lt y below) f g m ≡ chosen (int_lt z below) h k n
case-agrees y z below f g h k m n same first second =
    ap (λ x. chosen (int_lt x below) f g m) same ∙ both (int_lt z below)
  where
    both : (test : Bool) → chosen test f g m ≡ chosen test h k n
    both true = first
    both false = second

pub means-agree : (store : Store) (m n : Assignment) (form : Operational) → ((v : ℕ) → stands v form ≡ true → m v ≡ n v)
    → meaning (access_value store) m form ≡ meaning (access_value store) n form
means-agree store m n (Lit value) h = refl
means-agree store m n (Index entry) h = number-agrees m n entry h
means-agree store m n (Get access) h =
    ap (λ z. store access.area (unsigned_abs (access.start +ℤ z))) (walked-agrees m n access.strides h)
means-agree store m n (Un op of) h = ap (apply_unary op) (means-agree store m n of h)
means-agree store m n (Bin op left right) h =
    ap₂ (apply op)
    (means-agree store m n left (λ v here. h v (or-left (stands v left) (stands v right) here)))
    (means-agree store m n right (λ v there. h v (or-right (stands v left) (stands v right) there)))
means-agree store m n (Case entry below first second) h =
    case-agrees (number m entry) (number n entry) below
    (λ l. meaning (access_value store) l first) (λ l. meaning (access_value store) l second)
    (λ l. meaning (access_value store) l first) (λ l. meaning (access_value store) l second) m n
    (number-agrees m n entry (λ v here. h v (or-left (is_over v entry) (stands v first || stands v second) here)))
    (means-agree store m n first (λ v here. h v
    (or-right (is_over v entry) (stands v first || stands v second) (or-left (stands v first) (stands v second) here))))
    (means-agree store m n second (λ v here. h v
    (or-right (is_over v entry) (stands v first || stands v second) (or-right (stands v first) (stands v second) here))))
means-agree store m n (Fold op var low high of) h =
    ap (fold_of op) (range-agrees
    (λ k. meaning (access_value store) (bound m var (low + k)) of)
    (λ k. meaning (access_value store) (bound n var (low + k)) of) 0 (high - low)
    (λ k least below. means-agree store (bound m var (low + k)) (bound n var (low + k)) of
    (under (λ v. stands v of) m n var (low + k) (low + k) refl h)))
means-agree store m n (Let var bind of) h =
    means-agree store (bound m var (bound_to m bind)) (bound n var (bound_to n bind)) of
    (under (λ v. stands v of) m n var (bound_to m bind) (bound_to n bind)
    (bound-agrees m n bind (λ v here. h v (or-left (is_bound_over v bind) (stands v of) here)))
    (λ v there. h v (or-right (is_bound_over v bind) (stands v of) there)))

-- ---- what is reached

place-agrees : (m n : Assignment) (entry : Entry) → number m entry ≡ number n entry → IsPlace m entry → IsPlace n entry
place-agrees m n entry same h = record { place = h.place; stands = sym same ∙ h.stands }

among-agrees : (m n : Assignment) (entry : Entry) (count : ℕ) → number m entry ≡ number n entry → IsAmong m entry count → IsAmong n entry count
among-agrees m n entry count same h = record { place = h.place; stands = sym same ∙ h.stands; below = h.below }

index-agrees : (m n : Assignment) (entries : List Entry) (shape : List ℕ) → map (number m) entries ≡ map (number n) entries
    → AreIndex m entries shape → AreIndex n entries shape
index-agrees m n entries shape same h = record { index = h.index; stand = sym same ∙ h.stand; within = h.within }

binding-agrees : (m n : Assignment) (bind : Bind) → Agrees (λ v. is_bound_over v bind) m n → IsFineBinding m bind → IsFineBinding n bind
binding-agrees m n (Turn of by extent) h fine = (among-agrees m n of extent (number-agrees m n of h) fine.0, fine.1)
binding-agrees m n (Flat of shape) h fine = index-agrees m n of shape (numbers-agree m n of h) fine
binding-agrees m n (Digit of weight extent) h fine = (place-agrees m n of (number-agrees m n of h) fine.0, fine.1)

pub reaches-agree : (m n : Assignment) (form : Operational) → ((v : ℕ) → stands v form ≡ true → m v ≡ n v)
    → Reached IsFineAccess m form → Reached IsFineAccess n form
reaches-agree m n (Lit value) h fine = tt
reaches-agree m n (Index entry) h fine = place-agrees m n entry (number-agrees m n entry h) fine
reaches-agree m n (Get access) h fine =
    subst (λ z. access.start +ℤ z ≡ pos (unsigned_abs (access.start +ℤ z))) (walked-agrees m n access.strides h) fine
reaches-agree m n (Un op of) h fine = reaches-agree m n of h fine
reaches-agree m n (Bin op left right) h fine = (
  reaches-agree m n left (λ v here. h v (or-left (stands v left) (stands v right) here)) fine.0,
  reaches-agree m n right (λ v there. h v (or-right (stands v left) (stands v right) there)) fine.1,
)
reaches-agree m n (Case entry below first second) h fine =
    let same = number-agrees m n entry (λ v here. h v (or-left (is_over v entry) (stands v first || stands v second) here)) in (
      place-agrees m n entry same fine.0,
      (
        (λ yes. reaches-agree m n first (λ v here. h v
            (or-right (is_over v entry) (stands v first || stands v second) (or-left (stands v first) (stands v second) here)))
            (fine.1.0 (ap (λ z. int_lt z below) same ∙ yes))),
        (λ other. reaches-agree m n second (λ v here. h v
            (or-right (is_over v entry) (stands v first || stands v second) (or-right (stands v first) (stands v second) here)))
            (fine.1.1 (ap (λ z. int_lt z below) same ∙ other))),
      ),
    )
reaches-agree m n (Fold op var low high of) h fine = λ k least below.
    reaches-agree (bound m var k) (bound n var k) of (under (λ v. stands v of) m n var k k refl h) (fine k least below)
reaches-agree m n (Let var bind of) h fine =
    let over : Agrees (λ v. is_bound_over v bind) m n = λ v here. h v (or-left (is_bound_over v bind) (stands v of) here) in (
      binding-agrees m n bind over fine.0,
      reaches-agree (bound m var (bound_to m bind)) (bound n var (bound_to n bind)) of
          (under (λ v. stands v of) m n var (bound_to m bind) (bound_to n bind) (bound-agrees m n bind over)
          (λ v there. h v (or-right (is_bound_over v bind) (stands v of) there))) fine.1,
    )

-- ---- the last rule

-- a binding of a variable that stands nowhere changes nothing where others stand
free : (on : ℕ → Bool) (m : Assignment) (var k : ℕ) → on var ≡ false → Agrees on (bound m var k) m
free on m var k none = λ v here. chosen-rest (v == var) v here (λ same. same-variable v var same)
  where
    chosen-rest : (test : Bool) (v : ℕ) → on v ≡ true → (test ≡ true → v ≡ var) → (if test then k else m v) ≡ m v
    chosen-rest true v here same = absurd (true-false (sym here ∙ ap on (same refl) ∙ none))
    chosen-rest false v here same = refl

means-needed : (store : Store) (m : Assignment) (var : ℕ) (bind : Bind) (of : Operational) (test : Bool) → stands var of ≡ test
    → meaning (access_value store) m (where_needed test var bind of) ≡ meaning (access_value store) (bound m var (bound_to m bind)) of
means-needed store m var bind of true h = refl
means-needed store m var bind of false h =
    sym (means-agree store (bound m var (bound_to m bind)) m of (free (λ v. stands v of) m var (bound_to m bind) h))

pub needed-means : (store : Store) (m : Assignment) (form : Operational)
    → meaning (access_value store) m (needed form) ≡ meaning (access_value store) m form
needed-means store m (Lit value) = refl
needed-means store m (Index entry) = refl
needed-means store m (Get access) = refl
needed-means store m (Un op of) = ap (apply_unary op) (needed-means store m of)
needed-means store m (Bin op left right) = ap₂ (apply op) (needed-means store m left) (needed-means store m right)
needed-means store m (Case entry below first second) =
    case-agrees (number m entry) (number m entry) below
    (λ l. meaning (access_value store) l (needed first)) (λ l. meaning (access_value store) l (needed second))
    (λ l. meaning (access_value store) l first) (λ l. meaning (access_value store) l second) m m refl
    (needed-means store m first) (needed-means store m second)
needed-means store m (Fold op var low high of) =
    ap (fold_of op) (range-agrees
    (λ k. meaning (access_value store) (bound m var (low + k)) (needed of))
    (λ k. meaning (access_value store) (bound m var (low + k)) of) 0 (high - low)
    (λ k least below. needed-means store (bound m var (low + k)) of))
needed-means store m (Let var bind of) =
    means-needed store m var bind (needed of) (stands var (needed of)) refl ∙ needed-means store (bound m var (bound_to m bind)) of

reaches-needed : (m : Assignment) (var : ℕ) (bind : Bind) (of : Operational) (test : Bool) → stands var of ≡ test
    → IsFineBinding m bind → Reached IsFineAccess (bound m var (bound_to m bind)) of → Reached IsFineAccess m (where_needed test var bind of)
reaches-needed m var bind of true h fine reached = (fine, reached)
reaches-needed m var bind of false h fine reached =
    reaches-agree (bound m var (bound_to m bind)) m of (free (λ v. stands v of) m var (bound_to m bind) h) reached

pub needed-reaches : (m : Assignment) (form : Operational) → Reached IsFineAccess m form → Reached IsFineAccess m (needed form)
needed-reaches m (Lit value) fine = tt
needed-reaches m (Index entry) fine = fine
needed-reaches m (Get access) fine = fine
needed-reaches m (Un op of) fine = needed-reaches m of fine
needed-reaches m (Bin op left right) fine = (needed-reaches m left fine.0, needed-reaches m right fine.1)
needed-reaches m (Case entry below first second) fine =
    (fine.0, ((λ yes. needed-reaches m first (fine.1.0 yes)), (λ other. needed-reaches m second (fine.1.1 other))))
needed-reaches m (Fold op var low high of) fine = λ k least below. needed-reaches (bound m var k) of (fine k least below)
needed-reaches m (Let var bind of) fine =
    reaches-needed m var bind (needed of) (stands var (needed of)) refl fine.0 (needed-reaches (bound m var (bound_to m bind)) of fine.1)
