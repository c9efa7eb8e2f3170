-- Lists that are cut at the first item that passes a test, and lines without their comments and the blanks at both ends.
use Rattle.std.proofs.Common.{◌≡◌, ℕ, List, [], ◌∷◌, ◌++◌, refl, sym, ap, ◌∙◌, append_assoc}
use Rattle.std.specs.Prelude.{Bool, true, false, not, ◌==◌}
use Rattle.std.specs.List.{list_all}
use Rattle.std.specs.Cmp.Lexicographic.{same_text}
use Rattle.std.proofs.lemmas.Bool.{and_parts, and_left, and_right, eq-eqb, eqb-true, ne_eqb, not-true}
use Rattle.std.proofs.lemmas.List.Folds.{list_all-append}
use Rattle.rv_line.specs.Instructions.{is_space_or_tab, AreBlanks, IsComment, Says}
use Rattle.rv_reader.specs.Cuts.{same, until, since, without_lead, without_trail, trimmed, core_of}

pub true_not_false : true ≡ false → ⊥
true_not_false e = absurd (cc)

pub same_true : (one other : List ℕ) → same one other ≡ true → one ≡ other
same_true one other h = same_text one other (sym h)

pub same_itself : (text : List ℕ) → same text text ≡ true
same_itself [] = refl
same_itself (byte ∷ bytes) = rw (eq-eqb byte byte refl) (same_itself bytes)

-- nothing, or a first item that passes
abbrev pub begins : {X : Type 0} → (X → Bool) → List X → Bool
begins test [] = true
begins test (item ∷ items) = test item

pub until-append : {X : Type 0} (test : X → Bool) (xs ys : List X) → list_all (λ x. not (test x)) xs ≡ true → begins test ys ≡ true → until test (xs ++ ys) ≡ xs
until-append test [] [] none first = refl
until-append test [] (y ∷ ys) none first = rw first refl
until-append test (x ∷ xs) ys none first =
    let parts = and_parts (not (test x)) (list_all (λ z. not (test z)) xs) none in
    rw (not-true (test x) parts.0) (ap (λ rest. x ∷ rest) (until-append test xs ys parts.1 first))

pub since-append : {X : Type 0} (test : X → Bool) (xs ys : List X) → list_all (λ x. not (test x)) xs ≡ true → begins test ys ≡ true → since test (xs ++ ys) ≡ ys
since-append test [] [] none first = refl
since-append test [] (y ∷ ys) none first = rw first refl
since-append test (x ∷ xs) ys none first =
    let parts = and_parts (not (test x)) (list_all (λ z. not (test z)) xs) none in
    rw (not-true (test x) parts.0) (since-append test xs ys parts.1 first)

-- a list, cut at the first item that passes
pub record IsCutAt {X : Type 0} (test : X → Bool) (items : List X) : Type 0 where
  pub whole : items ≡ until test items ++ since test items
  pub before : list_all (λ item. not (test item)) (until test items) ≡ true
  pub behind : begins test (since test items) ≡ true

pub cut : {X : Type 0} (test : X → Bool) (items : List X) → IsCutAt test items
cut test [] = record { whole = refl; before = refl; behind = refl }
cut {X} test (item ∷ items) = by_test (test item) refl (cut test items)
  where
    by_test : (b : Bool) → test item ≡ b → IsCutAt test items → IsCutAt test (item ∷ items)
    by_test true is rest = record { whole = rw is refl; before = rw is refl; behind = rw is is }
    by_test false is rest = record {
      whole = rw is (ap (λ others. item ∷ others) rest.whole);
      before = rw is rw is rest.before;
      behind = rw is rest.behind;
    }

-- where each byte passes one test, it passes another that follows
pub all_weaker : (p q : ℕ → Bool) → ((b : ℕ) → p b ≡ true → q b ≡ true) → (text : List ℕ) → list_all p text ≡ true → list_all q text ≡ true
all_weaker p q follows [] all = refl
all_weaker p q follows (b ∷ text) all =
    let parts = and_parts (p b) (list_all p text) all in
    rw (follows b parts.0) (all_weaker p q follows text parts.1)

pub all_of_both : (p : ℕ → Bool) (xs ys : List ℕ) → list_all p xs ≡ true → list_all p ys ≡ true → list_all p (xs ++ ys) ≡ true
all_of_both p xs ys first second = rw (list_all-append p xs ys, first) second

pub all_parts : (p : ℕ → Bool) (xs ys : List ℕ) → list_all p (xs ++ ys) ≡ true → (list_all p xs ≡ true) × (list_all p ys ≡ true)
all_parts p xs ys all = and_parts (list_all p xs) (list_all p ys) (rw (list_all-append p xs ys) at all)

-- a byte that passes a test is none that does not
pub not_at : (p : ℕ → Bool) (c : ℕ) → p c ≡ false → (byte : ℕ) → p byte ≡ true → (byte == c) ≡ false
not_at p c fails byte passes = ne_eqb byte c (λ e. differ (rw e at passes))
  where
    differ : p c ≡ true → ⊥
    differ h = absurd (cc)

pub none_is : (p : ℕ → Bool) (c : ℕ) → p c ≡ false → (text : List ℕ) → list_all p text ≡ true → list_all (λ byte. not (byte == c)) text ≡ true
none_is p c fails = all_weaker p (λ byte. not (byte == c)) (λ byte passes. rw (not_at p c fails byte passes) refl)

-- nothing, or a first byte that is no blank
abbrev pub leads : List ℕ → Bool
leads text = begins (λ byte. not (is_space_or_tab byte)) text

-- nothing, or a last byte that is no blank
abbrev pub trails : List ℕ → Bool
trails [] = true
trails (byte ∷ []) = not (is_space_or_tab byte)
trails (byte ∷ other ∷ bytes) = trails (other ∷ bytes)

pub trails-append : (xs : List ℕ) (byte : ℕ) (bytes : List ℕ) → trails (xs ++ byte ∷ bytes) ≡ trails (byte ∷ bytes)
trails-append [] byte bytes = refl
trails-append (x ∷ []) byte bytes = refl
trails-append (x ∷ y ∷ xs) byte bytes = trails-append (y ∷ xs) byte bytes

blanks_trail : (byte : ℕ) (bytes : List ℕ) → list_all is_space_or_tab (byte ∷ bytes) ≡ true → trails (byte ∷ bytes) ≡ false
blanks_trail byte [] blanks = rw (and_parts (is_space_or_tab byte) true blanks).0 refl
blanks_trail byte (other ∷ bytes) blanks = blanks_trail other bytes (and_parts (is_space_or_tab byte) (list_all is_space_or_tab (other ∷ bytes)) blanks).1

-- blanks stand at no end without blanks
pub no_trail : (xs trail : List ℕ) → trails (xs ++ trail) ≡ true → AreBlanks trail → trail ≡ []
no_trail xs [] ends blanks = refl
no_trail xs (byte ∷ trail) ends blanks =
    absurd (true_not_false (sym ends ∙ trails-append xs byte trail ∙ blanks_trail byte trail blanks))

pub solid_trails : (text : List ℕ) → list_all (λ byte. not (is_space_or_tab byte)) text ≡ true → trails text ≡ true
solid_trails [] solid = refl
solid_trails (byte ∷ []) solid = (and_parts (not (is_space_or_tab byte)) true solid).0
solid_trails (byte ∷ other ∷ bytes) solid = solid_trails (other ∷ bytes) (and_parts (not (is_space_or_tab byte)) (list_all (λ b. not (is_space_or_tab b)) (other ∷ bytes)) solid).1

pub solid_leads : (text : List ℕ) → list_all (λ byte. not (is_space_or_tab byte)) text ≡ true → leads text ≡ true
solid_leads [] solid = refl
solid_leads (byte ∷ bytes) solid = (and_parts (not (is_space_or_tab byte)) (list_all (λ b. not (is_space_or_tab b)) bytes) solid).0

pub lead_off : (lead rest : List ℕ) → AreBlanks lead → without_lead (lead ++ rest) ≡ without_lead rest
lead_off [] rest blanks = refl
lead_off (byte ∷ lead) rest blanks =
    let parts = and_parts (is_space_or_tab byte) (list_all is_space_or_tab lead) blanks in
    rw parts.0 (lead_off lead rest parts.1)

blanks_off : (trail : List ℕ) → AreBlanks trail → without_lead trail ≡ []
blanks_off [] blanks = refl
blanks_off (byte ∷ trail) blanks =
    let parts = and_parts (is_space_or_tab byte) (list_all is_space_or_tab trail) blanks in
    rw parts.0 (blanks_off trail parts.1)

not_all_blank : (byte : ℕ) (bytes : List ℕ) (trail : List ℕ) → trails (byte ∷ bytes) ≡ true → list_all is_space_or_tab (byte ∷ (bytes ++ trail)) ≡ false
not_all_blank byte [] trail ends = and_left (is_space_or_tab byte) (list_all is_space_or_tab trail) (not-true (is_space_or_tab byte) ends)
not_all_blank byte (other ∷ bytes) trail ends = and_right (is_space_or_tab byte) (list_all is_space_or_tab (other ∷ (bytes ++ trail))) (not_all_blank other bytes trail ends)

trail_blanks : (trail : List ℕ) → AreBlanks trail → without_trail trail ≡ []
trail_blanks [] blanks = refl
trail_blanks (byte ∷ trail) blanks = rw blanks refl

trail_off : (byte : ℕ) (bytes trail : List ℕ) → trails (byte ∷ bytes) ≡ true → AreBlanks trail → without_trail (byte ∷ (bytes ++ trail)) ≡ byte ∷ bytes
trail_off byte [] trail ends blanks = rw (not_all_blank byte [] trail ends) (ap (λ rest. byte ∷ rest) (trail_blanks trail blanks))
trail_off byte (other ∷ bytes) trail ends blanks =
    rw (not_all_blank byte (other ∷ bytes) trail ends) (ap (λ rest. byte ∷ rest) (trail_off other bytes trail ends blanks))

-- what is between blanks, and has none at its ends
pub trimmed_is : (lead core trail : List ℕ) → AreBlanks lead → AreBlanks trail → leads core ≡ true → trails core ≡ true → trimmed (lead ++ (core ++ trail)) ≡ core
trimmed_is lead [] trail before behind first last = ap without_trail (lead_off lead trail before ∙ blanks_off trail behind)
trimmed_is lead (byte ∷ bytes) trail before behind first last =
    let solid : is_space_or_tab byte ≡ false = not-true (is_space_or_tab byte) first in
    let front : without_lead (byte ∷ (bytes ++ trail)) ≡ byte ∷ (bytes ++ trail) = rw solid refl in
    ap without_trail (lead_off lead (byte ∷ (bytes ++ trail)) before ∙ front) ∙ trail_off byte bytes trail last behind

-- a text, with the blanks at its end apart
pub record IsTrailed (text : List ℕ) : Type 0 where
  pub trail : List ℕ
  pub whole : text ≡ without_trail text ++ trail
  pub blanks : AreBlanks trail
  pub ends : trails (without_trail text) ≡ true

pub trailed : (text : List ℕ) → IsTrailed text
trailed [] = record { trail = []; whole = refl; blanks = refl; ends = refl }
trailed (byte ∷ bytes) = by_test (list_all is_space_or_tab (byte ∷ bytes)) refl (trailed bytes)
  where
    ends_at : (rest : List ℕ) → without_trail bytes ≡ rest → (list_all is_space_or_tab (byte ∷ bytes)) ≡ false → IsTrailed bytes → trails (byte ∷ rest) ≡ true
    ends_at [] is not_all behind =
        let all : list_all is_space_or_tab bytes ≡ true = rw (behind.whole ∙ ap (λ front. front ++ behind.trail) is) behind.blanks in
        byte_solid (is_space_or_tab byte) refl all
      where
        byte_solid : (b : Bool) → is_space_or_tab byte ≡ b → list_all is_space_or_tab bytes ≡ true → not (is_space_or_tab byte) ≡ true
        byte_solid true blank all = absurd (true_not_false (sym (rw (blank, all) refl) ∙ not_all))
        byte_solid false blank all = rw blank refl
    ends_at (other ∷ rest) is not_all behind = rw is at behind.ends

    by_test : (b : Bool) → list_all is_space_or_tab (byte ∷ bytes) ≡ b → IsTrailed bytes → IsTrailed (byte ∷ bytes)
    by_test true is behind = record { trail = byte ∷ bytes; whole = rw is refl; blanks = is; ends = rw is refl }
    by_test false is behind = record {
      trail = behind.trail;
      whole = rw is (ap (λ rest. byte ∷ rest) behind.whole);
      blanks = behind.blanks;
      ends = rw is (ends_at (without_trail bytes) refl is behind);
    }

-- a text between blanks
pub record IsTrimmed (text : List ℕ) : Type 0 where
  pub lead : List ℕ
  pub trail : List ℕ
  pub whole : text ≡ lead ++ (trimmed text ++ trail)
  pub before : AreBlanks lead
  pub behind : AreBlanks trail
  pub first : leads (trimmed text) ≡ true
  pub last : trails (trimmed text) ≡ true

leads_kept : (text : List ℕ) → leads text ≡ true → leads (without_trail text) ≡ true
leads_kept [] first = refl
leads_kept (byte ∷ bytes) first = rw (and_left (is_space_or_tab byte) (list_all is_space_or_tab bytes) (not-true (is_space_or_tab byte) first)) first

pub twice : (lead : List ℕ) → list_all (λ byte. not (not (is_space_or_tab byte))) lead ≡ true → AreBlanks lead
twice = all_weaker (λ byte. not (not (is_space_or_tab byte))) is_space_or_tab (λ byte. back (is_space_or_tab byte))
  where
    back : (b : Bool) → not (not b) ≡ true → b ≡ true
    back true h = refl
    back false h = h

pub trims : (text : List ℕ) → IsTrimmed text
trims text =
    let front = cut (λ byte. not (is_space_or_tab byte)) text in
    let back = trailed (without_lead text) in
    record {
      lead = until (λ byte. not (is_space_or_tab byte)) text;
      trail = back.trail;
      whole = front.whole ∙ ap (λ rest. until (λ byte. not (is_space_or_tab byte)) text ++ rest) back.whole;
      before = twice (until (λ byte. not (is_space_or_tab byte)) text) front.before;
      behind = back.blanks;
      first = leads_kept (without_lead text) front.behind;
      last = back.ends;
    }

pub blanks_bare : (text : List ℕ) → AreBlanks text → list_all (λ byte. not (byte == 35)) text ≡ true
blanks_bare = none_is is_space_or_tab 35 refl

-- what is said between blanks, before a comment
pub record IsTight (core : List ℕ) : Type 0 where
  pub bare : list_all (λ byte. not (byte == 35)) core ≡ true
  pub first : leads core ≡ true
  pub last : trails core ≡ true

comment_begins : (comment : List ℕ) → IsComment comment → begins (λ byte. byte == 35) comment ≡ true
comment_begins [] is = refl
comment_begins (byte ∷ bytes) is = rw is refl

-- a line says one thing
pub core_is : (text core : List ℕ) → IsTight core → Says text core → core_of text ≡ core
core_is text core tight says =
    let front = says.lead ++ (core ++ says.trail) in
    let grouped : says.lead ++ (core ++ (says.trail ++ says.comment)) ≡ front ++ says.comment = simp append_assoc refl in
    let bare : list_all (λ byte. not (byte == 35)) front ≡ true =
    all_of_both (λ byte. not (byte == 35)) says.lead (core ++ says.trail) (blanks_bare says.lead says.before) (
    all_of_both (λ byte. not (byte == 35)) core says.trail tight.bare (blanks_bare says.trail says.behind)
    ) in
    ap core_of (says.spelled ∙ grouped)
    ∙ ap trimmed (until-append (λ byte. byte == 35) front says.comment bare (comment_begins says.comment says.ended))
    ∙ trimmed_is says.lead core says.trail says.before says.behind tight.first tight.last

comment_is : (comment : List ℕ) → begins (λ byte. byte == 35) comment ≡ true → IsComment comment
comment_is [] is = tt
comment_is (byte ∷ bytes) is = eqb-true byte 35 is

-- each line says its core
pub says_core : (text : List ℕ) → Says text (core_of text)
says_core text =
    let at = cut (λ byte. byte == 35) text in
    let parts = trims (until (λ byte. byte == 35) text) in
    record {
      lead = parts.lead;
      trail = parts.trail;
      comment = since (λ byte. byte == 35) text;
      spelled =
          at.whole
          ∙ ap (λ front. front ++ since (λ byte. byte == 35) text) parts.whole
          ∙ regrouped parts.lead (core_of text) parts.trail (since (λ byte. byte == 35) text);
      before = parts.before;
      behind = parts.behind;
      ended = comment_is (since (λ byte. byte == 35) text) at.behind;
    }
  where
    regrouped : (a b c d : List ℕ) → (a ++ (b ++ c)) ++ d ≡ a ++ (b ++ (c ++ d))
    regrouped a b c d = simp append_assoc refl

pub core_trails : (text : List ℕ) → trails (core_of text) ≡ true
core_trails text = (trims (until (λ byte. byte == 35) text)).last
