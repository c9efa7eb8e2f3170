-- Texts that spell lines are read as them, and texts that are not refused spell what is read of them.
use Rattle.std.proofs.Common.{◌≡◌, ℕ, ◌+◌, ◌≤◌, List, [], ◌∷◌, ◌++◌, length, refl, sym, ap, subst, ◌∙◌, arith, append_assoc}
use Rattle.std.specs.Bool.{Decides}
use Rattle.std.specs.Prelude.{Bool, true, false, ◌≢◌, cond, AllPairs, map}
use Rattle.std.specs.List.{AllByRecursion, AllZip, IsDistinct, list_any}
use Rattle.std.specs.declared.option.Option.TheVariants.{None, Some}
use Rattle.std.specs.declared.result.Result.{Result}
use Rattle.std.specs.declared.result.Result.TheVariants.{Ok, Err}
use Rattle.std.proofs.lemmas.Bool.{or_from, or_parts, false_from_ne_true}
use Rattle.std.proofs.lemmas.List.{append-nil}
use Rattle.std.proofs.lemmas.Map.Made.{AllPairs-from_IsDistinct, IsDistinct-from_AllPairs}
use Rattle.rv_line.specs.Fits.{FitLines}
use Rattle.rv_line.specs.Instructions.{IsLabel}
use Rattle.rv_line.specs.Spells.{SpellLines}
use Rattle.rv_line.specs.Spells.SpellLines.{end, skip, label, instruction}
use Rattle.rv_line.specs.declared.line.Line.{Line}
use Rattle.rv_reader.specs.Bodies.{names_of}
use Rattle.rv_reader.specs.BodyLines.{Draft, Reading, reading_of_core, reading_of}
use Rattle.rv_reader.specs.BodyLines.Reading.{Nothing, Defines, Codes}
use Rattle.rv_reader.specs.Cuts.{same}
use Rattle.rv_reader.specs.Refusals.{refused_or, body_refusal, draft_in, drafts_of, label_in, labels_of, line_cause, number_behind_line, places_of, settled, target_cause, targets_refusal}
use Rattle.rv_reader.proofs.CutLemmas.{same_true, same_itself, core_is, true_not_false}
use Rattle.rv_reader.proofs.InstructionLemmas.{Aims, line_read}
use Rattle.rv_reader.proofs.OperandLemmas.{none_not_some}
use Rattle.rv_reader.proofs.ReadingLemmas.{IsReadingOf, nothing_read, label_read, reads_back}
use Rattle.rv_reader.proofs.SettleLemmas.{refused_back, settled_back}

same_decides : (one other : List ℕ) → Decides (same one other) (one ≡ other)
same_decides one other = (same_true one other, λ e. ap (same one) (sym e) ∙ same_itself one)

same_symmetric : (one other : List ℕ) → same one other ≡ false → same other one ≡ false
same_symmetric one other h = false_from_ne_true (same other one) (λ e. true_not_false (sym ((same_decides one other).1 (sym (same_true other one e))) ∙ h))

-- no name stands twice
abbrev pub AreApart : List (List ℕ) → Type 0
AreApart names = IsDistinct same names

pub apart_from : (names : List (List ℕ)) → AllPairs (λ one other. one ≢ other) names → AreApart names
apart_from names differ = IsDistinct-from_AllPairs same_decides names differ

pub differ_from : (names : List (List ℕ)) → AreApart names → AllPairs (λ one other. one ≢ other) names
differ_from names apart = AllPairs-from_IsDistinct same_decides names apart

all_at : (P : List ℕ → Type 0) (before : List (List ℕ)) (name : List ℕ) (more : List (List ℕ)) → AllByRecursion P (before ++ name ∷ more) → P name
all_at P [] name more all = all.0
all_at P (one ∷ before) name more all = all_at P before name more all.1

-- a name that stands behind others is none of them
pub not_before : (before : List (List ℕ)) (name : List ℕ) (more : List (List ℕ)) → AreApart (before ++ name ∷ more) → list_any (same name) before ≡ false
unfolding IsDistinct
not_before [] name more apart = refl
not_before (one ∷ before) name more apart =
    let other = same_symmetric one name (all_at (λ y. same one y ≡ false) before name more apart.0) in
    or_from (same name one) (list_any (same name) before) other (not_before before name more apart.1)

all_push : (P : List ℕ → Type 0) (names : List (List ℕ)) (name : List ℕ) → AllByRecursion P names → P name → AllByRecursion P (names ++ name ∷ [])
all_push P [] name all here = (here, tt)
all_push P (one ∷ names) name all here = (all.0, all_push P names name all.1 here)

-- and one that is none of them may stand behind
pub apart_push : (names : List (List ℕ)) (name : List ℕ) → AreApart names → list_any (same name) names ≡ false → AreApart (names ++ name ∷ [])
unfolding IsDistinct
apart_push [] name apart none = (tt, tt)
apart_push (one ∷ names) name apart none =
    let parts = or_parts (same name one) (list_any (same name) names) none in
    (all_push (λ y. same one y ≡ false) names name apart.0 (same_symmetric name one parts.0), apart_push names name apart.1 parts.1)

-- what is read where texts spell lines
pub record IsBodyRead (labels : List (List ℕ × ℕ)) (texts : List (List ℕ)) (place at : ℕ) (lines : List Line) (defined : List (List ℕ × ℕ)) : Type 0 where
  pub unrefused : (before : List (List ℕ)) → AreApart (before ++ names_of defined) → body_refusal place before texts ≡ None
  pub labels_are : labels_of at texts ≡ defined
  pub aims : AllZip (Aims labels) (drafts_of texts) lines

read_nothing : (labels : List (List ℕ × ℕ)) (text : List ℕ) (texts : List (List ℕ)) (place at : ℕ) (lines : List Line) (defined : List (List ℕ × ℕ)) → reading_of text ≡ Ok Nothing → IsBodyRead labels texts (place + 1) at lines defined → IsBodyRead labels (text ∷ texts) place at lines defined
read_nothing labels text texts place at lines defined read rest = record {
  unrefused = λ before apart.
      ap (λ found. refused_or place (line_cause before found) (body_refusal (place + 1) (before ++ label_in found) texts)) read
      ∙ rest.unrefused (before ++ []) (rw (append-nil before) apart);
  labels_are = ap (λ found. map (λ l. (l, at)) (label_in found) ++ labels_of (number_behind_line at found) texts) read ∙ rest.labels_are;
  aims = subst (λ found. AllZip (Aims labels) (draft_in found ++ drafts_of texts) lines) (sym read) rest.aims;
}

read_label : (labels : List (List ℕ × ℕ)) (text : List ℕ) (texts : List (List ℕ)) (place at : ℕ) (lines : List Line) (defined : List (List ℕ × ℕ)) (name : List ℕ) → reading_of text ≡ Ok (Defines name) → IsBodyRead labels texts (place + 1) at lines defined → IsBodyRead labels (text ∷ texts) place at lines ((name, at) ∷ defined)
read_label labels text texts place at lines defined name read rest = record {
  unrefused = λ before apart.
      let new : list_any (same name) before ≡ false = not_before before name (names_of defined) apart in
      let grouped : (before ++ name ∷ []) ++ names_of defined ≡ before ++ name ∷ names_of defined = append_assoc before (name ∷ []) (names_of defined) in
      ap (λ found. refused_or place (line_cause before found) (body_refusal (place + 1) (before ++ label_in found) texts)) read
      ∙ ap (λ known. refused_or place (cond known (Some 9) None) (body_refusal (place + 1) (before ++ name ∷ []) texts)) new
      ∙ rest.unrefused (before ++ name ∷ []) (rw grouped apart);
  labels_are = ap (λ found. map (λ l. (l, at)) (label_in found) ++ labels_of (number_behind_line at found) texts) read ∙ ap (λ others. (name, at) ∷ others) rest.labels_are;
  aims = subst (λ found. AllZip (Aims labels) (draft_in found ++ drafts_of texts) lines) (sym read) rest.aims;
}

read_draft : (labels : List (List ℕ × ℕ)) (text : List ℕ) (texts : List (List ℕ)) (place at : ℕ) (line : Line) (lines : List Line) (defined : List (List ℕ × ℕ)) (draft : Draft) → reading_of text ≡ Ok (Codes draft) → Aims labels draft line → IsBodyRead labels texts (place + 1) (at + 1) lines defined → IsBodyRead labels (text ∷ texts) place at (line ∷ lines) defined
read_draft labels text texts place at line lines defined draft read aims rest = record {
  unrefused = λ before apart.
      ap (λ found. refused_or place (line_cause before found) (body_refusal (place + 1) (before ++ label_in found) texts)) read
      ∙ rest.unrefused (before ++ []) (rw (append-nil before) apart);
  labels_are = ap (λ found. map (λ l. (l, at)) (label_in found) ++ labels_of (number_behind_line at found) texts) read ∙ rest.labels_are;
  aims = subst (λ found. AllZip (Aims labels) (draft_in found ++ drafts_of texts) (line ∷ lines)) (sym read) (aims, rest.aims);
}

-- texts that spell lines are read as they are spelled
pub body_read : (labels : List (List ℕ × ℕ)) (count : ℕ) {texts : List (List ℕ)} {place at : ℕ} {lines : List Line} {places : List ℕ} {defined : List (List ℕ × ℕ)} → AllByRecursion (λ l. IsLabel l.0) labels → SpellLines labels texts place at lines places defined → FitLines count at lines → IsBodyRead labels texts place at lines defined
body_read labels count named end fit = record {
  unrefused = λ before apart. refl;
  labels_are = refl;
  aims = tt;
}
body_read labels count named (skip {text} {texts} {place} {at} {program} {places} {defined} nothing rest) fit =
    read_nothing labels text texts place at program defined (nothing_read text nothing) (body_read labels count named rest fit)
body_read labels count named (label {text} {texts} {place} {at} {program} {places} {defined} name says is rest) fit =
    read_label labels text texts place at program defined name (label_read text name says is) (body_read labels count named rest fit)
body_read labels count named (instruction {text} {texts} {place} {at} {line} {program} {places} {defined} core says spelled rest) fit =
    let read = line_read labels named count at core line fit.0 spelled in
    read_draft labels text texts place at line program defined read.draft (ap reading_of_core (core_is text core read.tight says) ∙ read.read) read.aims (body_read labels count named rest fit.1)

-- labels have names of labels
pub labels_named : (labels : List (List ℕ × ℕ)) {texts : List (List ℕ)} {place at : ℕ} {lines : List Line} {places : List ℕ} {defined : List (List ℕ × ℕ)} → SpellLines labels texts place at lines places defined → AllByRecursion (λ one. IsLabel one.0) defined
labels_named labels end = tt
labels_named labels (skip nothing rest) = labels_named labels rest
labels_named labels (label name says is rest) = (is, labels_named labels rest)
labels_named labels (instruction core says spelled rest) = labels_named labels rest

-- the labels of texts that are not refused have different names
pub labels_apart : (place at : ℕ) (before : List (List ℕ)) (texts : List (List ℕ)) → body_refusal place before texts ≡ None → AreApart before → AreApart (before ++ names_of (labels_of at texts))
labels_apart place at before [] none apart = rw (append-nil before) apart
labels_apart place at before (text ∷ texts) none apart = by_reading (λ at_next next. labels_apart (place + 1) at_next next texts) (reading_of text) none
  where
    later : (labels : List (List ℕ)) → AreApart ((before ++ []) ++ labels) → AreApart (before ++ labels)
    later labels h = rw (append-nil before) at h

    by_label : (name : List ℕ) (known : Bool) → list_any (same name) before ≡ known → (AreApart (before ++ name ∷ []) → body_refusal (place + 1) (before ++ name ∷ []) texts ≡ None → AreApart ((before ++ name ∷ []) ++ names_of (labels_of at texts))) → refused_or place (cond known (Some 9) None) (body_refusal (place + 1) (before ++ name ∷ []) texts) ≡ None → AreApart (before ++ name ∷ names_of (labels_of at texts))
    by_label name true is others h = absurd (none_not_some (sym h))
    by_label name false is others h = rw (append_assoc before (name ∷ []) (names_of (labels_of at texts))) at (others (apart_push before name apart is) h)

    by_reading : ((at_next : ℕ) (next : List (List ℕ)) → body_refusal (place + 1) next texts ≡ None → AreApart next → AreApart (next ++ names_of (labels_of at_next texts))) → (found : Result Reading ℕ) → refused_or place (line_cause before found) (body_refusal (place + 1) (before ++ label_in found) texts) ≡ None → AreApart (before ++ names_of (map (λ l. (l, at)) (label_in found) ++ labels_of (number_behind_line at found) texts))
    by_reading others (Err cause) h = absurd (none_not_some (sym h))
    by_reading others (Ok Nothing) h = later (names_of (labels_of at texts)) (others at (before ++ []) h (rw (append-nil before) apart))
    by_reading others (Ok (Codes draft)) h = later (names_of (labels_of (at + 1) texts)) (others (at + 1) (before ++ []) h (rw (append-nil before) apart))
    by_reading others (Ok (Defines name)) h = by_label name (list_any (same name) before) refl (λ pushed none_later. others at (before ++ name ∷ []) none_later pushed) h

-- labels stand for lines, or for the end
pub labels_within : (at count : ℕ) (texts : List (List ℕ)) → at + length (drafts_of texts) ≤ count → AllByRecursion (λ l. l.1 ≤ count) (labels_of at texts)
labels_within at count [] h = tt
labels_within at count (text ∷ texts) h = by_reading (λ at_next. labels_within at_next count texts) (reading_of text) h
  where
    by_reading : ((at_next : ℕ) → at_next + length (drafts_of texts) ≤ count → AllByRecursion (λ l. l.1 ≤ count) (labels_of at_next texts)) → (found : Result Reading ℕ) → at + length (draft_in found ++ drafts_of texts) ≤ count → AllByRecursion (λ l. l.1 ≤ count) (map (λ l. (l, at)) (label_in found) ++ labels_of (number_behind_line at found) texts)
    by_reading others (Err cause) small = others at small
    by_reading others (Ok Nothing) small = others at small
    by_reading others (Ok (Codes draft)) small = others (at + 1) (omega (arith, small))
    by_reading others (Ok (Defines name)) small = (omega (arith, small), others at small)

-- what texts spell that are not refused
pub record IsBody (labels : List (List ℕ × ℕ)) (count : ℕ) (texts : List (List ℕ)) (place at : ℕ) : Type 0 where
  pub spells : SpellLines labels texts place at (map (settled labels) (drafts_of texts)) (places_of place texts) (labels_of at texts)
  pub fits : FitLines count at (map (settled labels) (drafts_of texts))

-- the same with one reading in front
record IsFront (labels : List (List ℕ × ℕ)) (count : ℕ) (text : List ℕ) (texts : List (List ℕ)) (place at : ℕ) (found : Result Reading ℕ) : Type 0 where
  spells : SpellLines labels (text ∷ texts) place at (map (settled labels) (draft_in found ++ drafts_of texts)) (map (λ draft. place) (draft_in found) ++ places_of (place + 1) texts) (map (λ l. (l, at)) (label_in found) ++ labels_of (number_behind_line at found) texts)
  fits : FitLines count at (map (settled labels) (draft_in found ++ drafts_of texts))

front_back : (labels : List (List ℕ × ℕ)) (count : ℕ) (text : List ℕ) (texts : List (List ℕ)) (place at : ℕ) (before : List (List ℕ)) (found : Result Reading ℕ) → AllByRecursion (λ l. l.1 ≤ count) labels → IsReadingOf text found
    → refused_or place (line_cause before found) (body_refusal (place + 1) (before ++ label_in found) texts) ≡ None
    → targets_refusal labels at (draft_in found ++ drafts_of texts) (map (λ draft. place) (draft_in found) ++ places_of (place + 1) texts) ≡ None
    → ((at_next : ℕ) (next : List (List ℕ)) → body_refusal (place + 1) next texts ≡ None → targets_refusal labels at_next (drafts_of texts) (places_of (place + 1) texts) ≡ None → IsBody labels count texts (place + 1) at_next)
    → IsFront labels count text texts place at found
front_back labels count text texts place at before (Err cause) within is none aimed others = absurd (none_not_some (sym none))
front_back labels count text texts place at before (Ok Nothing) within is none aimed others =
    let rest = others at (before ++ []) none aimed in
    record { spells = skip is rest.spells; fits = rest.fits }
front_back labels count text texts place at before (Ok (Defines name)) within is none aimed others =
    let rest = others at (before ++ name ∷ []) (by_known (list_any (same name) before) none) aimed in
    record { spells = label name is.0 is.1 rest.spells; fits = rest.fits }
  where
    by_known : (known : Bool) → refused_or place (cond known (Some 9) None) (body_refusal (place + 1) (before ++ name ∷ []) texts) ≡ None → body_refusal (place + 1) (before ++ name ∷ []) texts ≡ None
    by_known true h = absurd (none_not_some (sym h))
    by_known false h = h
front_back labels count text texts place at before (Ok (Codes draft)) within is none aimed others =
    let causes = refused_back place (target_cause labels at draft) (targets_refusal labels (at + 1) (drafts_of texts) (places_of (place + 1) texts)) aimed in
    let rest = others (at + 1) (before ++ []) none causes.1 in
    let here = settled_back labels count at is.0 draft within is.2 causes.0 in
    record { spells = instruction is.0 is.1 here.spells rest.spells; fits = (here.fits, rest.fits) }

-- texts that are not refused spell what is read
pub body_back : (labels : List (List ℕ × ℕ)) (count : ℕ) (texts : List (List ℕ)) (place at : ℕ) (before : List (List ℕ)) → AllByRecursion (λ l. l.1 ≤ count) labels → body_refusal place before texts ≡ None → targets_refusal labels at (drafts_of texts) (places_of place texts) ≡ None → IsBody labels count texts place at
body_back labels count [] place at before within none aimed = record { spells = end; fits = tt }
body_back labels count (text ∷ texts) place at before within none aimed =
    let front = front_back labels count text texts place at before (reading_of text) within (reads_back text) none aimed (λ at_next next. body_back labels count texts (place + 1) at_next next within) in
    record { spells = front.spells; fits = front.fits }
