-- Homes in the order of codes: all are there, apart, and no spill word is above its rank.
use Rattle.std.specs.Prelude.{◌≡◌, ℕ, zero, suc, ◌<◌, ◌≤◌, ◌==◌, ◌||◌, ◌⊎◌, Bool, true, false, List, [], ◌∷◌, Option, None, Some, is_some}
use Rattle.std.specs.Prelude.{length, take}
use Rattle.std.specs.List.{AllByRecursion}
use Rattle.std.specs.Map.{keys_of, lookup}
use Rattle.std.proofs.Common.{cond, get_or, refl, ap, sym, ◌∙◌, subst, arith, inl, inr}
use Rattle.std.proofs.lemmas.Bool.{eqb-true, eq-eqb}
use Rattle.std.proofs.lemmas.Bool.Decides.{nat_tests}
use Rattle.register_map.specs.declared.home.Home.{Home}
use Rattle.register_map.specs.declared.home.Home.TheVariants as home
use Rattle.register_map.specs.Assigned.{assigned, home_for, word_behind, words_behind}
use Rattle.register_map.specs.Codes.{IsRising, is_among}

abbrev pub home_at : List (ℕ × Home) → ℕ → Option Home
home_at homes q = lookup (λ other. q == other) homes

-- ---- one code

different : (a b : ℕ) → (a ≡ b → ⊥) → (a == b) ≡ false
different a b h = grind (arith, nat_tests)

found-by : {X : Type 0} (b : Bool) (h y : Home) (rest : Option Home) → cond b (Some h) rest ≡ Some y
    → (b ≡ true → h ≡ y → X) → (rest ≡ Some y → X) → X
found-by true h y rest e here later = here refl (cc)
found-by false h y rest e here later = later e

turned : (a b : ℕ) → (a == b) ≡ (b == a)
turned a b = grind (arith, nat_tests)

there : (b : Bool) (h : Home) (rest : Option Home) → is_some (cond b (Some h) rest) ≡ (b || is_some rest)
there true h rest = refl
there false h rest = refl

-- the home that is found is that of the first code or one behind it
found : {X : Type 0} (q x : ℕ) (h y : Home) (rest : List (ℕ × Home)) → home_at ((x, h) ∷ rest) q ≡ Some y
    → (q ≡ x → h ≡ y → X) → (home_at rest q ≡ Some y → X) → X
found q x h y rest e here later = found-by (q == x) h y (home_at rest q) e (λ same. here (eqb-true q x same)) later

spilled : (o : Option ℕ) (word s : ℕ) → home_for o word ≡ home.Spill s → (word ≡ s) × (word_behind o word ≡ suc word)
spilled None word s e = (cc, refl)
spilled (Some n) word s e = absurd (cc)

registered : (o : Option ℕ) (word r : ℕ) → home_for o word ≡ home.Register r → o ≡ Some r
registered None word r e = absurd (cc)
registered (Some n) word r e = cc

behind-least : (o : Option ℕ) (word : ℕ) → word ≤ word_behind o word
behind-least None word = omega arith
behind-least (Some n) word = omega arith

pub behind-most : (o : Option ℕ) (word : ℕ) → word_behind o word ≤ suc word
behind-most None word = omega arith
behind-most (Some n) word = omega arith

-- ---- all codes

module _ (marks : ℕ → Option ℕ) where
  pub words-least : (word : ℕ) (codes : List ℕ) → word ≤ words_behind marks word codes
  words-least word [] = omega arith
  words-least word (x ∷ codes) =
      omega (arith, behind-least (marks x) word, words-least (word_behind (marks x) word) codes)

  spill-least : (word : ℕ) (codes : List ℕ) (q s : ℕ) → home_at (assigned marks word codes) q ≡ Some (home.Spill s) → word ≤ s
  spill-least word [] q s e = absurd (cc)
  spill-least word (x ∷ codes) q s e =
      found q x (home_for (marks x) word) (home.Spill s) (assigned marks (word_behind (marks x) word) codes) e
      (λ same own. omega (arith, (spilled (marks x) word s own).0))
      (λ later. omega (arith, behind-least (marks x) word, spill-least (word_behind (marks x) word) codes q s later))

  pub spill-below : (word : ℕ) (codes : List ℕ) (q s : ℕ) → home_at (assigned marks word codes) q ≡ Some (home.Spill s)
      → s < words_behind marks word codes
  spill-below word [] q s e = absurd (cc)
  spill-below word (x ∷ codes) q s e =
      let next = word_behind (marks x) word in
      found q x (home_for (marks x) word) (home.Spill s) (assigned marks next codes) e
      (λ same own. let own = spilled (marks x) word s own in omega (arith, own.0, own.1, words-least next codes))
      (λ later. spill-below next codes q s later)

  pub register-marked : (word : ℕ) (codes : List ℕ) (q r : ℕ) → home_at (assigned marks word codes) q ≡ Some (home.Register r)
      → marks q ≡ Some r
  register-marked word [] q r e = absurd (cc)
  register-marked word (x ∷ codes) q r e =
      found q x (home_for (marks x) word) (home.Register r) (assigned marks (word_behind (marks x) word) codes) e
      (λ same own. ap marks same ∙ registered (marks x) word r own)
      (λ later. register-marked (word_behind (marks x) word) codes q r later)

  spill-apart : (word : ℕ) (codes : List ℕ) (q p s : ℕ) → home_at (assigned marks word codes) q ≡ Some (home.Spill s)
      → home_at (assigned marks word codes) p ≡ Some (home.Spill s) → q ≡ p
  spill-apart word [] q p s e f = absurd (cc)
  spill-apart word (x ∷ codes) q p s e f =
      let next = word_behind (marks x) word in
      let rest = assigned marks next codes in
      let head = home_for (marks x) word in
      found q x head (home.Spill s) rest e
      (λ same own. found p x head (home.Spill s) rest f
      (λ too other. same ∙ sym too)
      (λ later. let here = spilled (marks x) word s own in absurd (omega (arith, here.0, here.1, spill-least next codes p s later))))
      (λ later. found p x head (home.Spill s) rest f
      (λ too own. let here = spilled (marks x) word s own in absurd (omega (arith, here.0, here.1, spill-least next codes q s later)))
      (λ both. spill-apart next codes q p s later both))

  -- two codes with one home are one
  pub assigned-apart : ((q p r : ℕ) → marks q ≡ Some r → marks p ≡ Some r → q ≡ p) → (word : ℕ) (codes : List ℕ) (q p : ℕ) (h : Home)
      → home_at (assigned marks word codes) q ≡ Some h → home_at (assigned marks word codes) p ≡ Some h → q ≡ p
  assigned-apart apart word codes q p (home.Register r) e f = apart q p r (register-marked word codes q r e) (register-marked word codes p r f)
  assigned-apart apart word codes q p (home.Spill s) e f = spill-apart word codes q p s e f

  -- a spill word is at most what rises at each code from what the first one is
  pub spill-ranked : (f : ℕ → ℕ) → ((a b : ℕ) → a ≤ b → f a ≤ f b) → (low word : ℕ) (codes : List ℕ) → IsRising low codes
      → AllByRecursion (λ x. f x < f (suc x)) codes → word ≤ f low → (q s : ℕ) → home_at (assigned marks word codes) q ≡ Some (home.Spill s) → s ≤ f q
  spill-ranked f mono low word [] rising more first q s e = absurd (cc)
  spill-ranked f mono low word (x ∷ codes) rising more first q s e =
      let next = word_behind (marks x) word in
      let up = mono low x rising.0 in
      found q x (home_for (marks x) word) (home.Spill s) (assigned marks next codes) e
      (λ same own. subst (λ n. s ≤ f n) (sym same) (omega (arith, (spilled (marks x) word s own).0, up, first)))
      (λ later. spill-ranked f mono (suc x) next codes rising.1 more.1 (omega (arith, behind-most (marks x) word, up, first, more.0)) q s later)

  found-low : (low word : ℕ) (codes : List ℕ) → IsRising low codes → (q : ℕ) (h : Home) → home_at (assigned marks word codes) q ≡ Some h → low ≤ q
  found-low low word [] rising q h e = absurd (cc)
  found-low low word (x ∷ codes) rising q h e =
      found q x (home_for (marks x) word) h (assigned marks (word_behind (marks x) word) codes) e
      (λ same own. omega (arith, same, rising.0))
      (λ later. omega (arith, found-low (suc x) (word_behind (marks x) word) codes rising.1 q h later, rising.0))

  -- each code has a home, and no other number has one
  pub assigned-there : (word : ℕ) (codes : List ℕ) (q : ℕ) → is_some (home_at (assigned marks word codes) q) ≡ is_among codes q
  assigned-there word [] q = refl
  assigned-there word (x ∷ codes) q =
      let rest = home_at (assigned marks (word_behind (marks x) word) codes) q in
      there (q == x) (home_for (marks x) word) rest
      ∙ ap (λ b. b || is_some rest) (turned q x)
      ∙ ap (λ b. (x == q) || b) (assigned-there (word_behind (marks x) word) codes q)

  -- the last spill word that is given is found
  abbrev pub Last : ℕ → List (ℕ × Home) → Type 0
  Last total homes = (q : ℕ) × (s : ℕ) × (home_at homes q ≡ Some (home.Spill s)) × (total ≡ suc s)

  last-step : (o : Option ℕ) (x word total : ℕ) (rest : List (ℕ × Home)) → ((q : ℕ) (h : Home) → home_at rest q ≡ Some h → suc x ≤ q)
      → (total ≡ word_behind o word) ⊎ Last total rest → (total ≡ word) ⊎ Last total ((x, home_for o word) ∷ rest)
  last-step (Some n) x word total rest above (inl e) = inl e
  last-step None x word total rest above (inl e) =
      inr (x, word, ap (λ b. cond b (Some (home.Spill word)) (home_at rest x)) (eq-eqb x x refl), e)
  last-step o x word total rest above (inr last) =
      let q = last.0 in
      let over : q ≡ x → ⊥ = λ (same : q ≡ x). omega (arith, same, above q (home.Spill last.1) last.2) in
      inr (q, last.1, ap (λ b. cond b (Some (home_for o word)) (home_at rest q)) (different q x over) ∙ last.2, last.3)

  pub last-given : (low word : ℕ) (codes : List ℕ) → IsRising low codes
      → (words_behind marks word codes ≡ word) ⊎ Last (words_behind marks word codes) (assigned marks word codes)
  last-given low word [] rising = inl refl
  last-given low word (x ∷ codes) rising =
      let next = word_behind (marks x) word in
      last-step (marks x) x word (words_behind marks next codes) (assigned marks next codes) (found-low (suc x) next codes rising.1)
      (last-given (suc x) next codes rising.1)

-- ---- a code that has no home yet

rising-at : (low : ℕ) (codes : List ℕ) (i : ℕ) → IsRising low codes → i < length codes → low ≤ get_or codes i 0
rising-at low [] i rising h = absurd (omega (arith, h))
rising-at low (x ∷ codes) zero rising h = rising.0
rising-at low (x ∷ codes) (suc i) rising h = omega (arith, rising-at (suc x) codes i rising.1 (omega (arith, h)), rising.0)

all-below : (low : ℕ) (codes : List ℕ) (i : ℕ) → IsRising low codes → i < length codes → AllByRecursion (λ k. k < get_or codes i 0) (take i codes)
all-below low [] i rising h = absurd (omega (arith, h))
all-below low (x ∷ codes) zero rising h = tt
all-below low (x ∷ codes) (suc i) rising h =
    let inside : i < length codes = omega (arith, h) in (rising-at (suc x) codes i rising.1 inside, all-below (suc x) codes i rising.1 inside)

none-found : {X : Type 0} (q : ℕ) (entries : List (ℕ × X)) → AllByRecursion (λ k. k < q) (keys_of entries)
    → lookup (λ other. q == other) entries ≡ None
none-found q [] h = refl
none-found q (e ∷ entries) h =
    ap (λ b. cond b (Some e.1) (lookup (λ other. q == other) entries)) (different q e.0 (λ same. omega (arith, same, h.0))) ∙ none-found q entries h.1

pub fresh : {X : Type 0} (codes : List ℕ) (i : ℕ) (entries : List (ℕ × X)) → IsRising 0 codes → i < length codes → keys_of entries ≡ take i codes
    → lookup (λ other. get_or codes i 0 == other) entries ≡ None
fresh codes i entries rising h same =
    none-found (get_or codes i 0) entries (subst (λ keys. AllByRecursion (λ k. k < get_or codes i 0) keys) (sym same) (all-below 0 codes i rising h))
