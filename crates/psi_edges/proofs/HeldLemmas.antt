-- Two puts, one after the other, append to a sink as one.
use Rattle.std.proofs.Common.{◌≡◌, ℕ, ◌+◌, ◌-◌, ◌≤◌, List, [], ◌++◌, length, take, drop, refl, sym, ap, subst, ◌∙◌, arith, append-nil, append_assoc, length-drop}
use Rattle.std.proofs.lemmas.List.{take-append-drop, take_all, length-take-le}
use Rattle.std.proofs.Math.Seq.{take-append-add}
use Rattle.std.specs.Prelude.{Option, Some, None}
use Rattle.std.specs.Option.{option_map}
use Rattle.psi_edges.specs.Calls.{AreOffered}
use Rattle.psi_edges.specs.Calls.AreOffered.{more}
use Rattle.psi_edges.specs.Held.{Appends}

-- nothing put is nothing more
pub nothing_put : (held : Option (List ℕ)) → Appends held held []
nothing_put None = refl
nothing_put (Some held) = ap Some (sym (append-nil held))

-- a front of a list, and then a front of what follows it
take_then : (bytes : List ℕ) (done count : ℕ) → done ≤ length bytes → take done bytes ++ take count (drop done bytes) ≡ take (done + count) bytes
take_then bytes done count within =
    let front : length (take done bytes) ≡ done = length-take-le done bytes within in
    sym (take-append-add (take done bytes) (drop done bytes) count)
    ∙ ap (λ n. take (n + count) (take done bytes ++ drop done bytes)) front
    ∙ ap (take (done + count)) (take-append-drop done bytes)

-- the rest of a list, as a slice of it
rest_of : (bytes : List ℕ) (done : ℕ) → take (length bytes - done) (drop done bytes) ≡ drop done bytes
rest_of bytes done = take_all (length bytes - done) (drop done bytes) (omega (arith, length-drop done bytes))

-- what is put of the rest ends within the list
pub put_within : (bytes : List ℕ) (done count : ℕ) → done ≤ length bytes → count ≤ length (take (length bytes - done) (drop done bytes)) → done + count ≤ length bytes
put_within bytes done count within fits = omega (arith, ap length (rest_of bytes done), length-drop done bytes)

-- two puts, one after the other, append as one
pub put_more : (first then last : Option (List ℕ)) (bytes : List ℕ) (done count : ℕ) → done ≤ length bytes → Appends first then (take done bytes) → Appends then last (take count (take (length bytes - done) (drop done bytes))) → Appends first last (take (done + count) bytes)
put_more None then last bytes done count within one two = two ∙ ap (option_map _) one
put_more (Some held) then last bytes done count within one two =
    two ∙ ap (option_map (λ before. before ++ take count (take (length bytes - done) (drop done bytes)))) one
    ∙ ap Some (append_assoc held (take done bytes) _
    ∙ ap (λ rest. held ++ (take done bytes ++ take count rest)) (rest_of bytes done)
    ∙ ap (λ more. held ++ more) (take_then bytes done count within))

-- one more call that is handed the rest, as a slice of the list
pub offered_more : {T : Type 0} (puts : T → T → List ℕ → ℕ → Type 0) (bytes : List ℕ) (from between to : T) (done count : ℕ) → AreOffered puts bytes from done between → puts between to (take (length bytes - done) (drop done bytes)) count → AreOffered puts bytes from (done + count) to
offered_more puts bytes from between to done count offered put = more offered (subst (λ rest. puts between to rest count) (rest_of bytes done) put)

-- where each call is handed a front of a list that is not all of it, none took a byte
pub none_offered : (puts : ℕ → ℕ → List ℕ → ℕ → Type 0) (bytes : List ℕ) (from done to : ℕ) → ((between now taken : ℕ) → puts between now bytes taken → ⊥) → AreOffered puts bytes from done to → done ≡ 0
none_offered puts bytes from done to never AreOffered.none = refl
none_offered puts bytes from done to never (more {done = before} {taken = taken} {between = between} {to = now} offered put) =
    absurd (never between now taken (subst (λ n. puts between now (drop n bytes) taken) (none_offered puts bytes from before between never offered) put))
