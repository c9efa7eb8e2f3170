use Rattle.std.specs.Prelude.{◌≡◌, ℕ, ◌≤◌, IsOk, List, length}
use Rattle.std.specs.List.{zip}
use Rattle.std.proofs.Common.{ap, sym, subst, arith}
use Rattle.moa_tree.specs.Expr.{Tree}
use Rattle.moa_tree.specs.Readings.{Reads}
use Rattle.shape_check.specs.Layout.{areas}
use Rattle.shape_check.specs.Statements.{verdict_of}
use Rattle.nest_jobs.specs.Leads.{Leads, nests}
use Rattle.nest_jobs.specs.Plain.{ArePlain}
use Rattle.register_map.specs.Homes.{Given}
use Rattle.rv_emit.specs.Emitting.{program}
use Rattle.rv_emit.specs.Programs.{most_spill}
use Rattle.rv_emit.specs.Simulating.{AreReady, Performs, are_steady}
use Rattle.rv_line.specs.declared.assembly.Header.{Header}
use Rattle.rv_line.specs.declared.line.Line.{Line}
use Rattle.rv_steps.specs.Good.{IsStart}
use Rattle.rv_steps.specs.Machine.{Config}
use Rattle.psi_compile.specs.Assigned.{AreAssigned}
use Rattle.psi_compile.proofs.NestLemmas.{homed-of}
use Rattle.psi_compile.proofs.ServeInputLemmas.{differ-pairs, inputs-held}
use Rattle.psi_compile.proofs.ServeLemmas.{after_all, all-built, exact-steps, inputs, nests-low, ok-shapes, opening, performed, serves}
use Rattle.psi_compile.proofs.ServeLemmas.{words-long}
use Rattle.psi_compile.proofs.ServeOperatorLemmas.{base-nests, steady-nests}
use Rattle.psi_compile.proofs.ServeSourceLemmas.{takes-operators}
use Rattle.psi_compile.proofs.serve_laws.programs_serve.Goals as goal

-- the nests of a program lead to what it denotes
led : goal.After-verdicts_are_shapes → (text : List ℕ) (tree : Tree) (header : Header) (lines : List Line) (base : ℕ) (d : Config)
    → Reads text tree → IsOk (verdict_of tree.statements) → ArePlain tree.statements
    → Leads (inputs tree.statements header lines base d) tree.statements (opening tree.statements header lines base d)
    (after_all tree.statements header lines base d)
led c text tree header lines base d read accepted plain =
    let items = tree.statements in
    let known = ok-shapes (verdict_of items) accepted in
    let laid = c.areas_are_laid_out.ensures items in
    let differ = differ-pairs _ (c.verdicts_are_shapes.ensures.differ items known.0 known.1) in
    c.programs_lead.ensures (inputs items header lines base d) items known.0 (opening items header lines base d) known.1
    (all-built tree.version items (c.reads_again.ensures.writable text tree read).0) plain (words-long items header lines base d)
    (inputs-held items header d.block laid differ)

-- and the lines of the nests lead there
runs : goal.After-verdicts_are_shapes → (text : List ℕ) (tree : Tree) (homes : List Given) (header : Header) (lines : List Line)
    (base : ℕ) (d : Config) → Reads text tree → IsOk (verdict_of tree.statements) → ArePlain tree.statements
    → AreAssigned (nests tree.statements) homes
    → header.spill ≡ most_spill homes → lines ≡ (program header.spill (zip (nests tree.statements) homes) 0).lines
    → IsStart header (areas tree.statements) lines base d
    → Performs lines base header.spill (program header.spill (zip (nests tree.statements) homes) 0).steps
    (are_steady (zip (nests tree.statements) homes)) (opening tree.statements header lines base d)
    (after_all tree.statements header lines base d) d
runs c text tree homes header lines base d read accepted plain assigned spilled same start =
    let items = tree.statements in
    let homed = zip (nests items) homes in
    let known = ok-shapes (verdict_of items) accepted in
    let ready : AreReady header.spill homed =
    subst (λ n. AreReady n homed) (sym spilled) (c.nests_are_ready.ensures text tree homes read accepted plain assigned) in
    let size = c.nests_are_small.ensures.size text tree read accepted in
    let spill = c.nests_are_small.ensures.spill text tree homes read accepted plain assigned in
    let small : header.spill ≤ 8192 = omega (arith, spilled, spill, size) in
    let many : length lines ≡ length (program header.spill homed 0).lines = ap length same in
    let few : length lines ≤ 245760 =
    omega (
      arith,
      many,
      c.programs_cost.ensures.lines homed header.spill (homed-of header.spill homed ready) small,
      c.nests_are_small.ensures.lines text tree homes read accepted plain assigned,
      size,
    ) in
    performed items header lines base d homes assigned c.programs_are_performed.ensures c.bytes_are_kept.ensures.word start
    (c.areas_are_laid_out.ensures items) ready small few same (led c text tree header lines base d read accepted plain)

pub returns-clause-serves : goal.returns-clause-serves
returns-clause-serves c = λ text tree homes header lines base d read accepted plain assigned spilled printed same start.
    let items = tree.statements in
    let homed = zip (nests items) homes in
    let known = ok-shapes (verdict_of items) accepted in
    serves tree header lines base (program header.spill homed 0).steps (are_steady homed) d start
    (c.areas_are_laid_out.ensures items) printed
    (led c text tree header lines base d read accepted plain) (nests-low items header lines base d c.nests_write_their_own.ensures)
    (runs c text tree homes header lines base d read accepted plain assigned spilled same start)

pub returns-clause-exact : goal.returns-clause-exact
returns-clause-exact c = λ text tree homes header lines base d read accepted plain assigned spilled printed same used start.
    let items = tree.statements in
    let homed = zip (nests items) homes in
    exact-steps header lines base (program header.spill homed 0).steps (are_steady homed) d (opening items header lines base d)
    (after_all items header lines base d) printed
    (steady-nests (takes-operators c.forms_take_from_sources.ensures c.rules_leave_plain_forms.ensures) items homes plain used)
    (runs c text tree homes header lines base d read accepted plain assigned spilled same start)

pub returns-clause-base : goal.returns-clause-base
returns-clause-base c = λ tree homes spill plain used.
    let items = tree.statements in
    c.lines_are_base.ensures (zip (nests items) homes) spill
    (base-nests (takes-operators c.forms_take_from_sources.ensures c.rules_leave_plain_forms.ensures) items homes plain used)
