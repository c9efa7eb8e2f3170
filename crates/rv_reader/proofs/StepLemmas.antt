-- What is read of the lines of a body so far, with a line more.
use Rattle.std.proofs.Common.{◌≡◌, ℕ, ◌+◌, ◌≤◌, List, [], ◌∷◌, ◌++◌, length, refl, sym, ap, ◌∙◌, arith, append_assoc}
use Rattle.std.specs.Prelude.{Bool, true, false, ◌||◌, cond, is_some, map}
use Rattle.std.specs.List.{find, list_any}
use Rattle.std.specs.Option.{option_map}
use Rattle.std.specs.declared.option.Option.TheVariants.{None, Some}
use Rattle.std.proofs.lemmas.List.{append-nil, length-append, length-map, map-append}
use Rattle.std.specs.declared.option.Option.{Option}
use Rattle.std.specs.declared.result.Result.{Result}
use Rattle.std.specs.declared.result.Result.TheVariants.{Ok, Err}
use Rattle.rv_reader.specs.Bodies.{IsBodyOf, IsLineRefusal, IsSoFar, names_of}
use Rattle.rv_reader.specs.BodyLines.{Draft, Reading, reading_of}
use Rattle.rv_reader.specs.BodyLines.Reading.{Nothing, Defines, Codes}
use Rattle.rv_reader.specs.Errors.{IsRefusal}
use Rattle.rv_reader.specs.declared.error.AsmError.{AsmError}
use Rattle.rv_reader.specs.declared.error.AsmError.TheVariants as asm
use Rattle.rv_reader.specs.Views.{drafted}
use Rattle.rv_reader.specs.declared.draft.Draft.{Draft as ReadDraft}
use Rattle.rv_reader.specs.Cuts.{same}
use Rattle.rv_reader.specs.Refusals.{Refusal, body_refusal, draft_in, drafts_of, label_in, labels_of, line_cause, number_behind_line, places_of, refused_or, stands_for}
use Rattle.rv_reader.proofs.OperandLemmas.{none_not_some}

-- a label stands for something where it is defined
pub known_label : (labels : List (List ℕ × ℕ)) (name : List ℕ) → is_some (stands_for labels name) ≡ list_any (same name) (names_of labels)
known_label [] name = refl
known_label (label ∷ labels) name = by_test (same name label.0) (known_label labels name)
  where
    by_test : (b : Bool) → is_some (stands_for labels name) ≡ list_any (same name) (names_of labels) → is_some (option_map (λ l. l.1) (cond b (Some label) (find (λ l. same name l.0) labels))) ≡ (b || list_any (same name) (names_of labels))
    by_test true e = refl
    by_test false e = e

pub same_labels : (labels : List (List ℕ × ℕ)) → labels ++ [] ≡ labels
same_labels labels = append-nil labels

pub same_drafts : (drafts : List Draft) → drafts ++ [] ≡ drafts
same_drafts drafts = append-nil drafts

pub same_places : (places : List ℕ) → places ++ [] ≡ places
same_places places = append-nil places

pub drafts_push : (drafts : List ReadDraft) (draft : ReadDraft) → map drafted (drafts ++ draft ∷ []) ≡ map drafted drafts ++ drafted draft ∷ []
drafts_push drafts draft = map-append drafted drafts (draft ∷ [])

numbered_names : (n : ℕ) (found : List (List ℕ)) → names_of (map (λ l. (l, n)) found) ≡ found
numbered_names n [] = refl
numbered_names n (name ∷ found) = ap (λ rest. name ∷ rest) (numbered_names n found)

names_push : (labels : List (List ℕ × ℕ)) (n : ℕ) (found : List (List ℕ)) → names_of (labels ++ map (λ l. (l, n)) found) ≡ names_of labels ++ found
names_push [] n found = numbered_names n found
names_push (label ∷ labels) n found = ap (λ rest. label.0 ∷ rest) (names_push labels n found)

number_step : (n : ℕ) (found : Result Reading ℕ) → number_behind_line n found ≡ n + length (draft_in found)
number_step n (Err cause) = omega arith
number_step n (Ok Nothing) = omega arith
number_step n (Ok (Defines label)) = omega arith
number_step n (Ok (Codes draft)) = refl

pub one_draft : (found : Result Reading ℕ) → length (draft_in found) ≤ 1
one_draft (Err cause) = omega arith
one_draft (Ok Nothing) = omega arith
one_draft (Ok (Defines label)) = omega arith
one_draft (Ok (Codes draft)) = omega arith

pub so_far_start : (first : ℕ) (all : List (List ℕ)) → IsSoFar first all first 0 [] [] [] all
so_far_start first all = record { refusal = refl; labels_are = refl; drafts_are = refl; places_are = refl }

-- one line more
pub so_far_step : (first : ℕ) (all : List (List ℕ)) (place number : ℕ) (labels : List (List ℕ × ℕ)) (drafts : List Draft) (places : List ℕ) (line : List ℕ) (texts : List (List ℕ)) → IsSoFar first all place number labels drafts places (line ∷ texts) → line_cause (names_of labels) (reading_of line) ≡ None
    → IsSoFar first all (place + 1) (number + length (draft_in (reading_of line))) (labels ++ map (λ l. (l, number)) (label_in (reading_of line))) (drafts ++ draft_in (reading_of line)) (places ++ map (λ d. place) (draft_in (reading_of line))) texts
so_far_step first all place number labels drafts places line texts so_far none =
    let found = reading_of line in
    record {
      refusal =
          so_far.refusal
          ∙ ap (λ cause. refused_or place cause (body_refusal (place + 1) (names_of labels ++ label_in (reading_of line)) texts)) none
          ∙ ap (λ names. body_refusal (place + 1) names texts) (sym (names_push labels number (label_in (reading_of line))));
      labels_are =
          so_far.labels_are
          ∙ sym (append_assoc labels (map (λ l. (l, number)) (label_in (reading_of line))) (labels_of (number_behind_line number (reading_of line)) texts))
          ∙ ap (λ n. (labels ++ map (λ l. (l, number)) (label_in (reading_of line))) ++ labels_of n texts) (number_step number (reading_of line));
      drafts_are = so_far.drafts_are ∙ sym (append_assoc drafts (draft_in (reading_of line)) (drafts_of texts));
      places_are = so_far.places_are ∙ sym (append_assoc places (map (λ d. place) (draft_in (reading_of line))) (places_of (place + 1) texts));
    }

pub so_far_end : (first : ℕ) (all : List (List ℕ)) (place number : ℕ) (labels : List (List ℕ × ℕ)) (drafts : List Draft) (places : List ℕ) (texts : List (List ℕ)) → texts ≡ [] → IsSoFar first all place number labels drafts places texts → IsBodyOf first all labels drafts places
so_far_end first all place number labels drafts places texts none so_far = record {
  fine = so_far.refusal ∙ ap (body_refusal place (names_of labels)) none;
  labels_are = so_far.labels_are ∙ ap (λ t. labels ++ labels_of number t) none ∙ append-nil labels;
  drafts_are = so_far.drafts_are ∙ ap (λ t. drafts ++ drafts_of t) none ∙ append-nil drafts;
  places_are = so_far.places_are ∙ ap (λ t. places ++ places_of place t) none ∙ append-nil places;
}

-- the error of the first line that is refused is that of all
pub first_refused : (error : AsmError) (place : ℕ) (cause : Option ℕ) (other all : Refusal) → all ≡ refused_or place cause other → IsLineRefusal error place cause → IsRefusal error all
first_refused asm.Memory place cause other all is refused = tt
first_refused (asm.Text at c) place None other all is refused = absurd (none_not_some refused)
first_refused (asm.Text at c) place (Some found) other all is refused = is ∙ refused

-- a line that is refused is the first
pub so_far_refused : (first : ℕ) (all : List (List ℕ)) (place number : ℕ) (labels : List (List ℕ × ℕ)) (drafts : List Draft) (places : List ℕ) (line : List ℕ) (texts : List (List ℕ)) (error : AsmError) → IsSoFar first all place number labels drafts places (line ∷ texts) → IsLineRefusal error place (line_cause (names_of labels) (reading_of line)) → IsRefusal error (body_refusal first [] all)
so_far_refused first all place number labels drafts places line texts error so_far refused =
    first_refused error place (line_cause (names_of labels) (reading_of line)) (body_refusal (place + 1) (names_of labels ++ label_in (reading_of line)) texts) _ so_far.refusal refused

pub so_far_same : {first : ℕ} {all : List (List ℕ)} {place : ℕ} (n m : ℕ) (labels ls : List (List ℕ × ℕ)) (drafts ds : List Draft) (places ps : List ℕ) {texts : List (List ℕ)} → m ≡ n → ls ≡ labels → ds ≡ drafts → ps ≡ places → IsSoFar first all place n labels drafts places texts → IsSoFar first all place m ls ds ps texts
so_far_same n m labels ls drafts ds places ps a b c d so_far = rw (a, b, c, d) so_far

-- how many instructions there are with a line more
pub number_new : (new old : List ReadDraft) (found : List Draft) → map drafted new ≡ map drafted old ++ found → length new ≡ length old + length found
number_new new old found e =
    let long = ap length e in
    let a = length-map new drafted in
    let b = length-map old drafted in
    let c = length-append (map drafted old) found in
    omega (arith, a, b, c, long)
