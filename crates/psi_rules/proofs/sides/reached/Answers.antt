use Rattle.std.proofs.Common.{arith, subst, sym, ◌≡◌}
use Rattle.std.specs.Prelude.{ℤ}
use Rattle.std.specs.Int.{w64}
use Rattle.std.proofs.lemmas.Int.{to_z-of_z}
use Rattle.normal_form.specs.declared.entry.Entry.TheVariants.{At}
use Rattle.normal_form.specs.Formers.{joining}
use Rattle.psi_rules.specs.Building.{sided}
use Rattle.psi_rules.proofs.sides.reached.Goals as goal

pub returns-in-At-clause-joins : goal.returns-in-At-clause-joins
returns-in-At-clause-joins c = λ first second.
    let h = c.side_of.ensures.joins c.args.m first second c.if-n-eq0.false c.if-m-eq0.false in
    subst (λ entry. joining c.args.n c.args.m entry first second ≡ sided c.side_of.result c.args.n entry first second) (sym c.in-At.is)
    (subst (λ (z : ℤ). joining c.args.n c.args.m (At z) first second ≡ sided c.side_of.result c.args.n (At z) first second) (to_z-of_z w64 c.in-At.constant (omega arith)) h)
