-- What tests that are joined tell of their parts.
use Rattle.std.proofs.Common.{refl, ◌≡◌, Bool, true, false}
use Rattle.std.specs.Prelude.{◌&&◌, ◌||◌}

pub neither : (a b : Bool) → (a || b) ≡ false → (a ≡ false) × (b ≡ false)
neither false b h = (refl, h)
neither true b h = absurd (cc h)

pub both : (a b : Bool) → (a && b) ≡ true → (a ≡ true) × (b ≡ true)
both true b h = (refl, h)
both false b h = absurd (cc h)

pub and_false : (test : Bool) → (test && false) ≡ false
and_false true = refl
and_false false = refl
