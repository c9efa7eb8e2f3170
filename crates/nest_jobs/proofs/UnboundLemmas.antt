-- The four rules change nothing in straight forms, which have no binding.
use Rattle.std.specs.Prelude.{◌≡◌, ℕ, true, List}
use Rattle.std.proofs.Common.{refl}
use Rattle.std.proofs.lemmas.Bool.{and_parts, false≢true}
use Rattle.normal_form.specs.Forms.{Lit, Index, Get, Un, Bin, Case, Fold, Let, Normal}
use Rattle.stride_form.specs.Bindings.{has_no_binding}
use Rattle.stride_form.specs.Operational.{operational}
use Rattle.stride_form.specs.Rules.{operational_on}
use Rattle.nest_build.specs.Parts.{is_straight}

-- the rules are about bindings alone
abbrev pub RuleLaw : Type 0
RuleLaw = (region : List (ℕ × ℕ)) (form : Normal) → has_no_binding form ≡ true → operational_on region form ≡ operational form

unbound : (form : Normal) → is_straight (operational form) ≡ true → has_no_binding form ≡ true
unbound (Lit value) straight = refl
unbound (Index entry) straight = refl
unbound (Get element) straight = refl
unbound (Un op of) straight = unbound of straight
unbound (Bin op left right) straight =
    let parts = and_parts (is_straight (operational left)) (is_straight (operational right)) straight in
    rw (unbound left parts.0, unbound right parts.1) refl
unbound (Case entry below first second) straight = absurd (false≢true straight)
unbound (Fold op var low high of) straight = absurd (false≢true straight)
unbound (Let var bind of) straight = absurd (false≢true straight)

pub straight-stays : RuleLaw → (region : List (ℕ × ℕ)) (form : Normal) → is_straight (operational form) ≡ true
    → operational_on region form ≡ operational form
straight-stays law region form straight = law region form (unbound form straight)
