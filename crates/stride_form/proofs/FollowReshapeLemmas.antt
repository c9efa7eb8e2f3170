-- What is made of a reshape is the same where what is made of its operand is.
use Rattle.std.specs.Prelude.{◌≡◌, ℕ, zero, suc, Bool, true, false, pos, List, [], ◌∷◌, map, slice_index_or, unsigned_abs, if◌then◌else◌}
use Rattle.std.specs.declared.option.Option.{Option}
use Rattle.std.specs.declared.option.Option.TheVariants.{None, Some}
use Rattle.std.specs.Option.{option_map}
use Rattle.std.specs.Str.{bytes_eq}
use Rattle.std.proofs.Common.{refl, ap, sym, subst}
use Rattle.shapes_core.specs.Gamma.{digit, gamma}
use Rattle.shapes_core.specs.Shape.{span}
use Rattle.normal_form.specs.declared.entry.Entry.{Entry}
use Rattle.normal_form.specs.declared.entry.Entry.TheVariants.{At, Plus, Minus}
use Rattle.normal_form.specs.declared.term.Bind.TheVariants.{Flat, Digit}
use Rattle.normal_form.specs.Formers.{Former, Making, binding, by_offset, constants, digiting, flattening, offset, reshaping, spreading}
use Rattle.normal_form.specs.Formers.{unflattening, varying, with_constant}
use Rattle.normal_form.specs.Stands.{AreBelow, uses_below}
use Rattle.stride_form.specs.Facts.{Facts, resolved}
use Rattle.stride_form.specs.Follows.{AreVaried, CommutesTo, Follows, FollowsWith, IsOverVariable, Makes}
use Rattle.stride_form.specs.OpFormers.{OpFormer, OpMaking, op_binding, op_by_offset, op_digiting, op_flattening, op_offset, op_reshaping}
use Rattle.stride_form.specs.OpFormers.{op_spreading, op_unflattening, op_varying}
use Rattle.stride_form.proofs.FollowBindLemmas.{item-continues}
use Rattle.stride_form.proofs.FollowFactLemmas.{IsMore, less-over, more-both, more-resolved, more-same, plus-over, use-later}
use Rattle.stride_form.proofs.FollowMakeLemmas.{Continues, makes-binding}
use Rattle.stride_form.proofs.FollowMoveLemmas.{at-commutes}

-- what follows on entries makes the same wherever more is known
abbrev pub ContinuesAll : Facts → ℕ → (List Entry → Making) → (List Entry → OpMaking) → Type 0
ContinuesAll facts next rest op_rest = (other : Facts) (later : ℕ) (entries : List Entry) → IsMore facts next other later
    → AreBelow later entries → Makes other later (rest entries) (op_rest (map (resolved other) entries))

-- ---- the offset of entries

over-none : (entry : Entry) (others : Option (List ℕ)) → IsOverVariable entry → with_constant entry others ≡ None
over-none (At constant) others h = absurd h
over-none (Plus var add) others h = refl
over-none (Minus var add) others h = refl

-- entries are constants where what is known stands in the place of variables, and only then
same-constants : (facts : Facts) (entries : List Entry) → AreVaried facts → constants (map (resolved facts) entries) ≡ constants entries
same-constants facts [] varied = refl
same-constants facts (At constant ∷ entries) varied =
    ap (option_map (λ list. unsigned_abs constant ∷ list)) (same-constants facts entries varied)
same-constants facts (Plus var add ∷ entries) varied =
    over-none (resolved facts (Plus var add)) (constants (map (resolved facts) entries)) (plus-over (facts var) var add (varied var))
same-constants facts (Minus var add ∷ entries) varied =
    over-none (resolved facts (Minus var add)) (constants (map (resolved facts) entries)) (less-over (facts var) var add (varied var))

makes-offset : (facts : Facts) (next : ℕ) (o : Option (List ℕ)) (shape : List ℕ) (entries : List Entry)
    (rest : Entry → Making) (op_rest : Entry → OpMaking) → AreVaried facts → Continues facts next rest op_rest
    → Makes facts next (offset o shape entries rest) (op_offset o shape (map (resolved facts) entries) op_rest)
makes-offset facts next (Some list) shape entries rest op_rest varied h =
    h facts next (At (pos (gamma list shape))) (more-same facts next varied) tt
makes-offset facts next None shape entries rest op_rest varied h =
    makes-binding facts next (Flat entries shape) (Flat (map (resolved facts) entries) shape) rest op_rest refl varied h

makes-constant : (facts : Facts) (next : ℕ) (shape : List ℕ) (entries : List Entry)
    (rest : Entry → Making) (op_rest : Entry → OpMaking) → AreVaried facts → Continues facts next rest op_rest
    → Makes facts next (offset (constants entries) shape entries rest)
    (op_offset (constants (map (resolved facts) entries)) shape (map (resolved facts) entries) op_rest)
makes-constant facts next shape entries rest op_rest varied h =
    subst (λ o. Makes facts next (offset (constants entries) shape entries rest) (op_offset o shape (map (resolved facts) entries) op_rest))
    (sym (same-constants facts entries varied))
    (makes-offset facts next (constants entries) shape entries rest op_rest varied h)

makes-only : (facts : Facts) (next : ℕ) (entries : List Entry) (rest : Entry → Making) (op_rest : Entry → OpMaking)
    → AreVaried facts → AreBelow next entries → Continues facts next rest op_rest
    → Makes facts next (rest (slice_index_or entries 0 (At (pos 0)))) (op_rest (slice_index_or (map (resolved facts) entries) 0 (At (pos 0))))
makes-only facts next entries rest op_rest varied below h =
    subst (λ entry. Makes facts next (rest (slice_index_or entries 0 (At (pos 0)))) (op_rest entry))
    ((at-commutes 0).commutes facts entries)
    (h facts next (slice_index_or entries 0 (At (pos 0))) (more-same facts next varied) ((at-commutes 0).below entries next below))

pub makes-flattening : (facts : Facts) (next : ℕ) (shape : List ℕ) (entries : List Entry)
    (rest : Entry → Making) (op_rest : Entry → OpMaking) → AreVaried facts → AreBelow next entries → Continues facts next rest op_rest
    → Makes facts next (flattening shape entries rest) (op_flattening shape (map (resolved facts) entries) op_rest)
makes-flattening facts next [] entries rest op_rest varied below h = makes-constant facts next [] entries rest op_rest varied h
makes-flattening facts next (n ∷ []) entries rest op_rest varied below h = makes-only facts next entries rest op_rest varied below h
makes-flattening facts next (n ∷ k ∷ shape) entries rest op_rest varied below h =
    makes-constant facts next (n ∷ k ∷ shape) entries rest op_rest varied h

-- ---- the digits of an offset

digit-over : (entry : Entry) (weight n : ℕ) (rest : Entry → OpMaking) → IsOverVariable entry
    → op_binding (Digit entry weight n) rest ≡ op_varying entry weight n rest
digit-over (At constant) weight n rest h = absurd h
digit-over (Plus var add) weight n rest h = refl
digit-over (Minus var add) weight n rest h = refl

makes-digit : (facts : Facts) (next : ℕ) (flat : Entry) (weight n : ℕ) (rest : Entry → Making) (op_rest : Entry → OpMaking)
    → AreVaried facts → IsOverVariable (resolved facts flat) → Continues facts next rest op_rest
    → Makes facts next (binding (Digit flat weight n) rest) (op_varying (resolved facts flat) weight n op_rest)
makes-digit facts next flat weight n rest op_rest varied over h =
    subst (Makes facts next (binding (Digit flat weight n) rest)) (digit-over (resolved facts flat) weight n op_rest over)
    (makes-binding facts next (Digit flat weight n) (Digit (resolved facts flat) weight n) rest op_rest refl varied h)

makes-varying : (facts : Facts) (next : ℕ) (flat : Entry) (weight n : ℕ) (rest : Entry → Making) (op_rest : Entry → OpMaking)
    → AreVaried facts → Continues facts next rest op_rest
    → Makes facts next (varying flat weight n rest) (op_varying (resolved facts flat) weight n op_rest)
makes-varying facts next (At constant) weight n rest op_rest varied h =
    h facts next (At (pos (digit (unsigned_abs constant) weight n))) (more-same facts next varied) tt
makes-varying facts next (Plus var add) weight n rest op_rest varied h =
    makes-digit facts next (Plus var add) weight n rest op_rest varied (plus-over (facts var) var add (varied var)) h
makes-varying facts next (Minus var add) weight n rest op_rest varied h =
    makes-digit facts next (Minus var add) weight n rest op_rest varied (less-over (facts var) var add (varied var)) h

makes-digiting : (facts : Facts) (next : ℕ) (flat : Entry) (weight n : ℕ) (rest : Entry → Making) (op_rest : Entry → OpMaking)
    → AreVaried facts → Continues facts next rest op_rest
    → Makes facts next (digiting flat weight n rest) (op_digiting (resolved facts flat) weight n op_rest)
makes-digiting facts next flat weight zero rest op_rest varied h = makes-varying facts next flat weight zero rest op_rest varied h
makes-digiting facts next flat weight (suc zero) rest op_rest varied h = h facts next (At (pos 0)) (more-same facts next varied) tt
makes-digiting facts next flat weight (suc (suc n)) rest op_rest varied h =
    makes-varying facts next flat weight (suc (suc n)) rest op_rest varied h

makes-spreading : (facts : Facts) (next : ℕ) (shape : List ℕ) (flat : Entry)
    (rest : List Entry → Making) (op_rest : List Entry → OpMaking) → AreVaried facts → uses_below next flat
    → ContinuesAll facts next rest op_rest
    → Makes facts next (spreading shape flat rest) (op_spreading shape (resolved facts flat) op_rest)
makes-spreading facts next [] flat rest op_rest varied below h = h facts next [] (more-same facts next varied) tt
makes-spreading facts next (n ∷ shape) flat rest op_rest varied below h =
    makes-digiting facts next flat (span shape) n (λ entry. spreading shape flat (λ entries. rest (entry ∷ entries)))
    (λ entry. op_spreading shape (resolved facts flat) (λ entries. op_rest (entry ∷ entries))) varied
    (λ other later entry more new.
    subst (λ known. Makes other later (spreading shape flat (λ entries. rest (entry ∷ entries)))
    (op_spreading shape known (λ entries. op_rest (resolved other entry ∷ entries))))
    (more-resolved facts next other later flat more below)
    (makes-spreading other later shape flat (λ entries. rest (entry ∷ entries)) (λ entries. op_rest (resolved other entry ∷ entries))
    more.varied (use-later next later flat more.grows below)
    (λ last latest entries again others.
    subst (λ known. Makes last latest (rest (entry ∷ entries)) (op_rest (known ∷ map (resolved last) entries)))
    (more-resolved other later last latest entry again new)
    (h last latest (entry ∷ entries) (more-both facts next other later last latest more again)
    (use-later later latest entry again.grows new, others)))))

pub makes-unflattening : (facts : Facts) (next : ℕ) (shape : List ℕ) (flat : Entry)
    (rest : List Entry → Making) (op_rest : List Entry → OpMaking) → AreVaried facts → uses_below next flat
    → ContinuesAll facts next rest op_rest
    → Makes facts next (unflattening shape flat rest) (op_unflattening shape (resolved facts flat) op_rest)
makes-unflattening facts next [] flat rest op_rest varied below h = makes-spreading facts next [] flat rest op_rest varied below h
makes-unflattening facts next (n ∷ []) flat rest op_rest varied below h = h facts next (flat ∷ []) (more-same facts next varied) (below, tt)
makes-unflattening facts next (n ∷ k ∷ shape) flat rest op_rest varied below h =
    makes-spreading facts next (n ∷ k ∷ shape) flat rest op_rest varied below h

-- ---- the steps of a reshape, over what is made with one entry more

pub flatten-follows : (shape : List ℕ) (item : List Entry → Entry → Making) (op_item : List Entry → Entry → OpMaking)
    → FollowsWith item op_item
    → Follows (λ entries. flattening shape entries (item entries)) (λ entries. op_flattening shape entries (op_item entries))
flatten-follows shape item op_item h = λ facts entries next varied below.
    makes-flattening facts next shape entries (item entries) (op_item (map (resolved facts) entries)) varied below
    (item-continues item op_item h facts entries next below)

pub digit-follows : (weight n : ℕ) (pick : List Entry → Entry) (item : List Entry → Entry → Making) (op_item : List Entry → Entry → OpMaking)
    → CommutesTo pick → FollowsWith item op_item
    → Follows (λ entries. digiting (pick entries) weight n (item entries)) (λ entries. op_digiting (pick entries) weight n (op_item entries))
digit-follows weight n pick item op_item picks h = λ facts entries next varied below.
    let known = map (resolved facts) entries in
    subst (λ entry. Makes facts next (digiting (pick entries) weight n (item entries)) (op_digiting entry weight n (op_item known)))
    (picks.commutes facts entries)
    (makes-digiting facts next (pick entries) weight n (item entries) (op_item known) varied
    (item-continues item op_item h facts entries next below))

pub unflatten-follows : (shape : List ℕ) (of : Former) (op_of : OpFormer) → Follows of op_of
    → FollowsWith (λ entries flat. unflattening shape flat of) (λ entries flat. op_unflattening shape flat op_of)
unflatten-follows shape of op_of h = λ facts entries flat next varied below new.
    makes-unflattening facts next shape flat of op_of varied new (λ other later others more within. h other others later more.varied within)

pub spread-follows : (shape : List ℕ) (of : Former) (op_of : OpFormer) → Follows of op_of
    → FollowsWith (λ entries flat. spreading shape flat of) (λ entries flat. op_spreading shape flat op_of)
spread-follows shape of op_of h = λ facts entries flat next varied below new.
    makes-spreading facts next shape flat of op_of varied new (λ other later others more within. h other others later more.varied within)

-- ---- reshapes

pub offset-follows : (shape operand : List ℕ) (of : Former) (op_of : OpFormer) → Follows of op_of
    → Follows (λ entries. by_offset shape operand entries of) (λ entries. op_by_offset shape operand entries op_of)
offset-follows shape [] of op_of h = λ facts entries next varied below. h facts [] next varied tt
offset-follows shape (n ∷ operand) of op_of h = λ facts entries next varied below.
    makes-flattening facts next shape entries (λ flat. unflattening (n ∷ operand) flat of)
    (λ flat. op_unflattening (n ∷ operand) flat op_of) varied below
    (λ other later flat more new. makes-unflattening other later (n ∷ operand) flat of op_of more.varied new
    (λ last latest entries again others. h last entries latest again.varied others))

either-follows : (equal : Bool) (shape operand : List ℕ) (of : Former) (op_of : OpFormer) → Follows of op_of
    → Follows (λ entries. if equal then of entries else by_offset shape operand entries of)
    (λ entries. if equal then op_of entries else op_by_offset shape operand entries op_of)
either-follows true shape operand of op_of h = h
either-follows false shape operand of op_of h = offset-follows shape operand of op_of h

pub reshape-follows : (shape operand : List ℕ) (of : Former) (op_of : OpFormer) → Follows of op_of
    → Follows (λ entries. reshaping shape operand entries of) (λ entries. op_reshaping shape operand entries op_of)
reshape-follows shape operand of op_of h = either-follows (bytes_eq shape operand) shape operand of op_of h
