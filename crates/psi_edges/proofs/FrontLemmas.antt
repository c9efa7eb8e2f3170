-- The bytes read so far are a front of their file, and the next piece makes it longer.
use Rattle.std.proofs.Common.{◌≡◌, ℕ, ◌+◌, ◌<◌, List, [], ◌∷◌, ◌++◌, length, take, drop, refl, sym, ap, subst, ◌∙◌, arith, length-append, length-drop}
use Rattle.std.proofs.lemmas.List.{take-append-drop, length-take-le}
use Rattle.std.proofs.Math.Seq.{take-append-add}
use Rattle.std.specs.Prelude.{Option, Some, None, IsSomeAnd}
use Rattle.std.specs.FinMap.{get}
use Rattle.psi_edges.specs.Calls.{AreAsked, IsAsked}
use Rattle.psi_edges.specs.Calls.AreAsked.{more, none}
use Rattle.psi_edges.specs.Files.{Files, OnFile, IsNext}

-- where a shelf tells its files, these bytes, if there are any, are the front of the file of this name
abbrev pub IsFront : Option Files → List ℕ → List ℕ → Type 0
IsFront told name bytes = 0 < length bytes → OnFile told name (λ file. bytes ≡ take (length bytes) file)

-- what follows a front of a file makes a longer front
front_step : (file old : List ℕ) (count : ℕ) (new : List ℕ) → old ≡ take (length old) file → IsNext file old count new → new ≡ take (length new) file
front_step file old count new front next =
    let within = next.within in
    let rest : old ++ drop (length old) file ≡ file = ap (λ xs. xs ++ drop (length old) file) front ∙ take-append-drop (length old) file in
    let taken : length (take count (drop (length old) file)) ≡ count = length-take-le count (drop (length old) file) (omega (arith, length-drop (length old) file)) in
    let longer : length new ≡ length old + count = ap length next.appended ∙ length-append old _ ∙ ap (λ n. length old + n) taken in
    next.appended ∙ sym (ap (λ n. take n file) longer ∙ ap (take (length old + count)) (sym rest) ∙ take-append-add old (drop (length old) file) count)

-- bytes are the front of this file, if there are any
abbrev FrontOf : Option (List ℕ) → List ℕ → Type 0
FrontOf file bytes = 0 < length bytes → IsSomeAnd file (λ f. bytes ≡ take (length bytes) f)

-- no bytes are a front too
front_at : (file old : List ℕ) → FrontOf (Some file) old → old ≡ take (length old) file
front_at file [] front = refl
front_at file (b ∷ old) front = front (omega arith)

-- the same steps where the file may be missing, and where the shelf may not tell it
next_of : (file : Option (List ℕ)) (old : List ℕ) (count : ℕ) (new : List ℕ) → FrontOf file old → IsSomeAnd file (λ f. IsNext f old count new) → IsSomeAnd file (λ f. new ≡ take (length new) f)
next_of None old count new front next = next
next_of (Some file) old count new front next = front_step file old count new (front_at file old front) next

next_front : (told : Option Files) (name old : List ℕ) (count : ℕ) (new : List ℕ) → IsFront told name old → OnFile told name (λ file. IsNext file old count new) → OnFile told name (λ file. new ≡ take (length new) file)
next_front None name old count new front next = tt
next_front (Some files) name old count new front next = next_of (get files name) old count new front next

-- after one more piece, from a shelf that tells the same files, the bytes are a front still
pub front_next : (told now : Option Files) (name old : List ℕ) (count : ℕ) (new : List ℕ) → now ≡ told → IsFront told name old → OnFile now name (λ file. IsNext file old count new) → OnFile told name (λ file. new ≡ take (length new) file)
front_next told now name old count new same front next = next_front told name old count new front (subst (λ t. OnFile t name (λ file. IsNext file old count new)) same next)

-- no call was given no bytes
pub none_asked : {T : Type 0} (takes : T → T → ℕ → ℕ → ℕ → Type 0) (most : ℕ) (from : T) (now : ℕ) → now ≡ 0 → AreAsked takes most from now from
none_asked takes most from now e = subst (λ n. AreAsked takes most from n from) (sym e) none

-- one more call, after which there are so many bytes
pub asked_more : {T : Type 0} (takes : T → T → ℕ → ℕ → ℕ → Type 0) (most : ℕ) (from between to : T) (at given now : ℕ) → AreAsked takes most from at between → IsAsked takes most at between given to → at + given ≡ now → AreAsked takes most from now to
asked_more takes most from between to at given now asked one e = subst (λ n. AreAsked takes most from n to) e (more asked one)
