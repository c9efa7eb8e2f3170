-- Lists that are cut at the first element that passes a test, and what a line says, which is cut out of the line.
use Rattle.std.proofs.Common.{◌≡◌, ℕ, List, [], ◌∷◌, ◌++◌, refl, sym, ap, ◌∙◌, append_assoc}
use Rattle.std.specs.Prelude.{Bool, true, false, ◌==◌, not, cond, All}
use Rattle.std.specs.List.{list_all}
use Rattle.std.proofs.lemmas.Bool.{ne_eqb, not-true, and_right}
use Rattle.std.proofs.lemmas.List.Elements.{All-nil, All-cons}
use Rattle.std.proofs.lemmas.List.Folds.{list_all-append}
use Rattle.rv_line.specs.Instructions.{is_space_or_tab, IsComment, Says}
use Rattle.rv_line.proofs.LinesLemmas.{both, all_weaker}
use Rattle.rv_line.proofs.RefusalLemmas.{last_of, last_of-append, IsTight}

-- what stands before the first element that passes
abbrev pub until : {X : Type 0} → (X → Bool) → List X → List X
until p [] = []
until p (x ∷ xs) = cond (p x) [] (x ∷ until p xs)

-- from that element on
abbrev pub since : {X : Type 0} → (X → Bool) → List X → List X
since p [] = []
since p (x ∷ xs) = cond (p x) (x ∷ xs) (since p xs)

-- nothing, or a first element that passes
abbrev pub begins : {X : Type 0} → (X → Bool) → List X → Bool
begins p [] = true
begins p (x ∷ xs) = p x

pub until-append : {X : Type 0} (p : X → Bool) (xs ys : List X) → list_all (λ x. not (p x)) xs ≡ true → begins p ys ≡ true → until p (xs ++ ys) ≡ xs
until-append p [] [] none first = refl
until-append p [] (y ∷ ys) none first = rw first refl
until-append p (x ∷ xs) ys none first =
    let parts = both (not (p x)) (list_all (λ z. not (p z)) xs) none in
    rw (not-true (p x) parts.0) (ap (λ rest. x ∷ rest) (until-append p xs ys parts.1 first))

pub since-append : {X : Type 0} (p : X → Bool) (xs ys : List X) → list_all (λ x. not (p x)) xs ≡ true → begins p ys ≡ true → since p (xs ++ ys) ≡ ys
since-append p [] [] none first = refl
since-append p [] (y ∷ ys) none first = rw first refl
since-append p (x ∷ xs) ys none first =
    let parts = both (not (p x)) (list_all (λ z. not (p z)) xs) none in
    rw (not-true (p x) parts.0) (since-append p xs ys parts.1 first)

not_at : (p : ℕ → Bool) (c : ℕ) → p c ≡ false → (b : ℕ) → p b ≡ true → (b == c) ≡ false
not_at p c fails b passes = ne_eqb b c (λ e. differ (rw e at passes))
  where
    differ : p c ≡ true → ⊥
    differ h = absurd (cc)

-- where each byte passes, none is one that does not
pub none_is : (p : ℕ → Bool) (c : ℕ) → p c ≡ false → (text : List ℕ) → list_all p text ≡ true → list_all (λ b. not (b == c)) text ≡ true
none_is p c fails = all_weaker p (λ b. not (b == c)) (λ b passes. rw (not_at p c fails b passes) refl)

pub all_apart : (p : ℕ → Bool) (c : ℕ) → p c ≡ false → (text : List ℕ) → list_all p text ≡ true → All (λ b. (b == c) ≡ false) text
all_apart p c fails [] all = All-nil (λ b. (b == c) ≡ false)
all_apart p c fails (b ∷ text) all =
    let parts = both (p b) (list_all p text) all in
    All-cons (λ b. (b == c) ≡ false) b text (not_at p c fails b parts.0) (all_apart p c fails text parts.1)

-- all of two texts
pub all_of_both : (p : ℕ → Bool) (xs ys : List ℕ) → list_all p xs ≡ true → list_all p ys ≡ true → list_all p (xs ++ ys) ≡ true
all_of_both p xs ys first second = rw (list_all-append p xs ys, first) second

-- without the blanks at the end
abbrev pub trim_end : List ℕ → List ℕ
trim_end [] = []
trim_end (byte ∷ bytes) = cond (list_all is_space_or_tab (byte ∷ bytes)) [] (byte ∷ trim_end bytes)

trim_blanks : (trail : List ℕ) → list_all is_space_or_tab trail ≡ true → trim_end trail ≡ []
trim_blanks [] blanks = refl
trim_blanks (byte ∷ trail) blanks = rw blanks refl

not_all_blank : (byte : ℕ) (bytes trail : List ℕ) → is_space_or_tab (last_of byte bytes) ≡ false → list_all is_space_or_tab ((byte ∷ bytes) ++ trail) ≡ false
not_all_blank byte [] trail last = rw last refl
not_all_blank byte (other ∷ bytes) trail last = and_right (is_space_or_tab byte) (list_all is_space_or_tab ((other ∷ bytes) ++ trail)) (not_all_blank other bytes trail last)

trim_end-append : (byte : ℕ) (bytes trail : List ℕ) → is_space_or_tab (last_of byte bytes) ≡ false → list_all is_space_or_tab trail ≡ true → trim_end ((byte ∷ bytes) ++ trail) ≡ byte ∷ bytes
trim_end-append byte [] trail last blanks = rw (not_all_blank byte [] trail last, trim_blanks trail blanks) refl
trim_end-append byte (other ∷ bytes) trail last blanks =
    rw (not_all_blank byte (other ∷ bytes) trail last) (ap (λ rest. byte ∷ rest) (trim_end-append other bytes trail last blanks))

-- what a line says: before a comment, and without the blanks at both ends
abbrev pub core_of : List ℕ → List ℕ
core_of text = since (λ byte. not (is_space_or_tab byte)) (trim_end (until (λ byte. byte == 35) text))

twice_not : (blank : Bool) → blank ≡ true → not (not blank) ≡ true
twice_not blank h = rw h refl

blanks_pass : (text : List ℕ) → list_all is_space_or_tab text ≡ true → list_all (λ byte. not (not (is_space_or_tab byte))) text ≡ true
blanks_pass = all_weaker is_space_or_tab (λ byte. not (not (is_space_or_tab byte))) (λ byte. twice_not (is_space_or_tab byte))

trimmed : (lead core trail : List ℕ) → IsTight core → list_all is_space_or_tab lead ≡ true → list_all is_space_or_tab trail ≡ true → since (λ byte. not (is_space_or_tab byte)) (trim_end (lead ++ (core ++ trail))) ≡ core
trimmed lead [] trail tight before behind =
    ap (since (λ byte. not (is_space_or_tab byte))) (trim_blanks (lead ++ trail) (all_of_both is_space_or_tab lead trail before behind))
trimmed [] (byte ∷ bytes) trail tight before behind =
    ap (since (λ other. not (is_space_or_tab other))) (trim_end-append byte bytes trail tight.last behind) ∙ rw tight.first refl
trimmed (first ∷ lead) (byte ∷ bytes) trail tight before behind =
    let last : is_space_or_tab (last_of first (lead ++ byte ∷ bytes)) ≡ false = rw (last_of-append first lead byte bytes) tight.last in
    let solid : begins (λ other. not (is_space_or_tab other)) (byte ∷ bytes) ≡ true = rw tight.first refl in
    ap (λ text. since (λ other. not (is_space_or_tab other)) (trim_end text)) (sym (append_assoc (first ∷ lead) (byte ∷ bytes) trail))
    ∙ ap (since (λ other. not (is_space_or_tab other))) (trim_end-append first (lead ++ byte ∷ bytes) trail last behind)
    ∙ since-append (λ other. not (is_space_or_tab other)) (first ∷ lead) (byte ∷ bytes) (blanks_pass (first ∷ lead) before) solid

pub blanks_bare : (text : List ℕ) → list_all is_space_or_tab text ≡ true → list_all (λ byte. not (byte == 35)) text ≡ true
blanks_bare = none_is is_space_or_tab 35 refl

comment_begins : (comment : List ℕ) → IsComment comment → begins (λ byte. byte == 35) comment ≡ true
comment_begins [] is = refl
comment_begins (byte ∷ bytes) is = rw is refl

-- a line says one thing
pub says_core : (text core : List ℕ) → IsTight core → Says text core → core_of text ≡ core
says_core text core tight says =
    let front = says.lead ++ (core ++ says.trail) in
    let grouped : says.lead ++ (core ++ (says.trail ++ says.comment)) ≡ front ++ says.comment = simp append_assoc refl in
    let bare : list_all (λ byte. not (byte == 35)) front ≡ true =
    all_of_both (λ byte. not (byte == 35)) says.lead (core ++ says.trail) (blanks_bare says.lead says.before) (
    all_of_both (λ byte. not (byte == 35)) core says.trail tight.bare (blanks_bare says.trail says.behind)
    ) in
    ap core_of (says.spelled ∙ grouped)
    ∙ ap (λ bytes. since (λ byte. not (is_space_or_tab byte)) (trim_end bytes)) (until-append (λ byte. byte == 35) front says.comment bare (comment_begins says.comment says.ended))
    ∙ trimmed says.lead core says.trail tight says.before says.behind
