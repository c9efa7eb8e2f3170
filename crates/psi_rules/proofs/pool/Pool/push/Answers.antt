use Rattle.std.proofs.Common.{◌≡◌, ◌∙◌, ◌<◌, ◌++◌, ◌∷◌, [], ap, sym, subst, length, arith, length-append}
use Rattle.std.specs.List.{AllByRecursion}
use Rattle.normal_form.specs.Formers.{just}
use Rattle.normal_form.specs.Pool.{operands}
use Rattle.psi_rules.specs.Building.{Adds, Builds, IsPool, IsThere}
use Rattle.psi_rules.proofs.TermLemmas.{added, built-alone, pool-grown, term-there}
use Rattle.psi_rules.proofs.pool.Pool.push.Goals as goal

pub invariant_of-self-2 : goal.invariant_of-self-2
invariant_of-self-2 c =
    let terms = ap (λ b. b.terms) c.self.view_is in
    subst IsPool (sym c.in_ok-push_term.ensures.added)
    (pool-grown c.self.inside.terms.items c.args.term c.self.invariant (omega (arith, c.requires.room, ap length terms))
    (subst (λ list. AllByRecursion (λ operand. operand < length list) (operands c.args.term)) (sym terms) c.requires.operands))

pub returns : goal.returns
returns c =
    let old = c.args.self.now in
    let terms = ap (λ b. b.terms) c.self.view_is in
    let number : c.len-number.result ≡ length old.terms = omega (arith, c.len-number.ensures, ap length terms) in
    let more = c.in_ok-push_term.ensures.added ∙ ap (λ l. l ++ c.args.term ∷ []) terms in
    let next = ap (λ b. b.next) c.self.view_is in
    record {
      adds = λ below form same count. subst (Adds below form old _) (sym number)
          (added old _ c.args.term below form more next same count);
      builds = λ form same count. subst (Builds (just form) old _) (sym number)
          (built-alone old _ form _ (added old _ c.args.term 0 form more next same count));
      there = subst (IsThere old _) (sym number) (term-there old _ c.args.term more);
      one = omega (arith, next, ap length more, length-append old.terms (c.args.term ∷ []));
    }
