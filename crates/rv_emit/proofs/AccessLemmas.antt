-- Worked examples of accesses.
use Rattle.std.specs.Prelude.{◌≡◌, pos, negsuc, List, [], ◌∷◌}
use Rattle.std.proofs.Common.{refl, arith}
use Rattle.std.proofs.lemmas.Int.{ints}
use Rattle.loop_ir.specs.Running.{ReadsWord, WritesWord}
use Rattle.rv_steps.specs.Machine.{Access, Loads, Stores}
use Rattle.rv_emit.specs.Showing.{AreInOrder, IsTouch}

pub in-between : AreInOrder 1024 2 (Loads 1024 8 ∷ Loads 1040 8 ∷ Stores 1048 8 ∷ []) (WritesWord 0 (pos 1) ∷ ReadsWord 0 (pos 0) ∷ [])
in-between = refl

pub not-turned : AreInOrder 1024 2 (Stores 1048 8 ∷ Loads 1040 8 ∷ []) (WritesWord 0 (pos 1) ∷ ReadsWord 0 (pos 0) ∷ []) → ⊥
not-turned h = differ h
  where
    differ : {a b : List Access} → Stores 1048 8 ∷ a ≡ Loads 1040 8 ∷ b → ⊥
    differ e = cc

pub not-lost : AreInOrder 1024 2 (Loads 1024 8 ∷ []) (ReadsWord 0 (pos 0) ∷ []) → ⊥
not-lost h = differ h
  where
    differ : {x : Access} {a : List Access} → [] ≡ x ∷ a → ⊥
    differ e = cc

pub no-more : AreInOrder 1024 2 (Loads 1040 8 ∷ []) [] → ⊥
no-more h = differ h
  where
    differ : {x : Access} {a : List Access} → x ∷ a ≡ [] → ⊥
    differ e = cc

pub last-word : IsTouch 3 (ReadsWord 0 (pos 2))
last-word = record { place = 2; same = refl; within = omega arith }

pub no-word-behind : IsTouch 3 (ReadsWord 0 (pos 3)) → ⊥
no-word-behind h = let e = h.same in let b = h.within in omega (arith, ints, e, b)

pub no-word-before : IsTouch 3 (WritesWord 0 (negsuc 0)) → ⊥
no-word-before h = let e = h.same in omega (arith, ints, e)
