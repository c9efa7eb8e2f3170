use Rattle.std.proofs.Common.{◌≤◌, ap, sym, subst, arith, length}
use Rattle.rv_line.specs.Fits.{FitLines}
use Rattle.rv_emit.specs.Emitting.{program}
use Rattle.rv_emit.specs.Programs.{most_spill, pairs}
use Rattle.rv_emit.specs.Pricing.{total_cost, total_time}
use Rattle.rv_emit.specs.Simulating.{AreHomed}
use Rattle.rv_emit.proofs.ProgramCodeLemmas.{homed, program-is, room-within}
use Rattle.rv_emit.proofs.emission.emit.Goals as goal

pub emit_nests-requires-clause-room : goal.emit_nests-requires-clause-room
emit_nests-requires-clause-room c =
    let all = pairs c.args.nests.now c.args.homes.now in
    let most = most_spill c.args.homes.now in
    let ready = homed most c.args.nests.now c.args.homes.now (omega arith) c.most_spill-spill.ensures.given c.requires.fit in
    let same = c.most_spill-spill.ensures.most in
    room-within c.most_spill-spill.result all c.new-lines.result.items c.new-lines.ensures.items
    (subst (λ n. length (program n all 0).lines ≤ total_cost all) (sym same) (c.programs_cost.ensures.lines all most ready c.requires.spill))
    (subst (λ n. (program n all 0).steps ≤ total_time all) (sym same) (c.programs_cost.ensures.steps all most ready c.requires.spill))
    c.requires.lines c.requires.steps

pub new-requires : goal.new-requires
new-requires c =
    let all = pairs c.args.nests.now c.args.homes.now in
    let most = most_spill c.args.homes.now in
    let ready = homed most c.args.nests.now c.args.homes.now (omega arith) c.most_spill-spill.ensures.given c.requires.fit in
    let same = c.most_spill-spill.ensures.most in
    let spill = c.most_spill-spill.result in
    let made = program-is spill all c.new-lines.result.items c.emit_nests.new.lines.items c.in_ok-steps.steps c.new-lines.ensures.items
    c.in_ok-steps.ensures in
    let lines = subst (λ n. length (program n all 0).lines ≤ total_cost all) (sym same)
    (c.programs_cost.ensures.lines all most ready c.requires.spill) in
    let steps = subst (λ n. (program n all 0).steps ≤ total_time all) (sym same)
    (c.programs_cost.ensures.steps all most ready c.requires.spill) in
    let forms = c.lines_fit.ensures all spill (subst (λ n. AreHomed n all) (sym same) ready) (omega (arith, lines, c.requires.lines)) in
    record {
      fits = record {
        steps = omega (arith, made.1, steps, c.requires.steps);
        spill = omega (arith, c.from.ensures, same, c.requires.spill);
        area_count = c.in_ok-areas.ensures.few;
        in_block = c.in_ok-areas.ensures.fit;
        line_count = let many = ap length made.0 in omega (arith, many, lines, c.requires.lines);
        in_form = subst (λ list. FitLines (length list) 0 list) (sym made.0) forms;
      };
    }
