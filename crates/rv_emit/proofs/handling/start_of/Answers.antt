use Rattle.std.proofs.Common.{◌≡◌, ap, ◌∙◌, arith, pos, ◌+ℤ◌, to_z, of_z, w64}
use Rattle.std.specs.Int.{int_wrap}
use Rattle.std.proofs.lemmas.Int.{int_wrap-mul_right, to_z-of_z}
use Rattle.rv_emit.specs.Walks.{bytes}
use Rattle.rv_emit.proofs.handling.start_of.Goals as goal

pub returns : goal.returns
returns c =
    let sum : to_z w64 (of_z w64 c.sum.result) ≡ int_wrap w64 (pos c.args.spill +ℤ c.args.word) = grind (arith, to_z-of_z) in
    let made : to_z w64 (of_z w64 c.bytes.result) ≡ bytes (to_z w64 (of_z w64 c.sum.result)) = grind (arith, to_z-of_z) in
    made ∙ ap bytes sum ∙ int_wrap-mul_right w64 (pos 8) (pos c.args.spill +ℤ c.args.word)
