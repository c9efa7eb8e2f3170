-- The first three lines, one after the other, and a number that is kept in 64 bits and is at most so much.
use Rattle.std.proofs.Common.{◌≡◌, ℕ, ◌-◌, ◌<◌, ◌^◌, List, [], ◌∷◌, drop, refl, ap, ◌∙◌, arith}
use Rattle.std.specs.Prelude.{Bool, true, false, cond, min, nat_le}
use Rattle.std.specs.Option.{option_map}
use Rattle.std.specs.declared.option.Option.{Option}
use Rattle.std.specs.declared.option.Option.TheVariants.{None, Some}
use Rattle.std.proofs.lemmas.Bool.{leb-true, leb-false, lt-leb}
use Rattle.rv_reader.specs.Marks.{capped}
use Rattle.rv_reader.specs.Refusals.{at_most, line_at}

-- a number that is at most so much is as it is kept
pub capped_most : (most : ℕ) (found : Option ℕ) → most < 2 ^ 63 → at_most most found ≡ at_most most (option_map capped found)
capped_most most None small = refl
capped_most most (Some n) small = by_test (nat_le n most) refl
  where
    by_test : (b : Bool) → nat_le n most ≡ b → cond b (Some n) None ≡ at_most most (Some (capped n))
    by_test true is =
        let le = leb-true n most is in
        let kept : min n (2 ^ 64 - 1) ≡ n = omega arith in
        rw (kept, is) refl
    by_test false is =
        let gt = leb-false n most is in
        rw (lt-leb (min n (2 ^ 64 - 1)) most (omega arith)) refl

-- the lines behind the first, and their places
pub second_is : (texts behind : List (List ℕ)) → behind ≡ drop 1 texts → line_at behind 0 ≡ line_at texts 1
second_is [] behind is = ap (λ t. line_at t 0) is
second_is (one ∷ texts) behind is = ap (λ t. line_at t 0) is

pub third_is : (texts second third : List (List ℕ)) → second ≡ drop 1 texts → third ≡ drop 1 second → line_at third 0 ≡ line_at texts 2
third_is texts second third is next = second_is second third next ∙ ap (λ t. line_at t 1) is ∙ by_list texts
  where
    by_list : (list : List (List ℕ)) → line_at (drop 1 list) 1 ≡ line_at list 2
    by_list [] = refl
    by_list (one ∷ list) = refl

pub rest_is : (texts second third rest : List (List ℕ)) → second ≡ drop 1 texts → third ≡ drop 1 second → rest ≡ drop 1 third → rest ≡ drop 3 texts
rest_is texts second third rest a b c = c ∙ ap (drop 1) b ∙ ap (λ t. drop 1 (drop 1 t)) a ∙ by_list texts
  where
    by_list : (list : List (List ℕ)) → drop 1 (drop 1 (drop 1 list)) ≡ drop 3 list
    by_list [] = refl
    by_list (one ∷ []) = refl
    by_list (one ∷ two ∷ []) = refl
    by_list (one ∷ two ∷ three ∷ list) = refl
