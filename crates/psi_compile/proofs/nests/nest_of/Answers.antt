use Rattle.std.specs.Option.{option_map}
use Rattle.std.specs.Prelude.{ℕ, List}
use Rattle.std.proofs.Common.{◌≡◌, ap, map, sym, ◌∙◌, slice_get, Some}
use Rattle.std.proofs.lemmas.Result.{IfOk-weaker}
use Rattle.moa_tree.specs.declared.tree.Job.{Job}
use Rattle.normal_form.specs.Kept.{form_in}
use Rattle.stride_form.specs.Kept.{op_form_in}
use Rattle.stride_form.specs.Rules.{operational_on}
use Rattle.loop_ir.specs.Pool.{tree}
use Rattle.nest_jobs.specs.Leads.{nest_at, nests}
use Rattle.shape_check.specs.Judged.{items_in}
use Rattle.psi_compile.proofs.MadeLemmas.{built-for, nest-of-job}
use Rattle.psi_compile.proofs.nests.nest_of.Goals as goal

pub returns : goal.returns
returns c =
    let checking = c.args.checked.now in
    let normal = c.in_ok-normal.normal in
    let form = c.in_ok-form.form in
    let reduced = c.in_ok-normal.ensures.reduced in
    let made = c.in_ok-form.ensures in
    let areas = c.layout_of.result.now in
    let own = ap (λ (job : Job). job.area) made.job in
    let shape = made.shape in
    let whole = made.region ∙ reduced.whole ∙ ap (map (λ n. (0, n))) (sym shape) in
    let tree_is = made.tree ∙ ap (λ (box : List (ℕ × ℕ)). option_map (operational_on box) (form_in normal.terms)) (sym made.region) in
    IfOk-weaker c.build.result (λ nest. tree nest ≡ nest_at areas form.job.area form.shape (form_in normal.terms))
    (λ nest. slice_get (nests (items_in checking.pools)) c.args.job ≡ Some (tree nest))
    (λ nest e.
    nest-of-job checking c.args.job normal c.program-program.ensures.checked reduced areas c.layout_of.ensures form.job.area own form.shape
    shape
    (tree nest) e)
    (built-for c.build.result areas form.job.area form.shape form.region (op_form_in form.terms) (form_in normal.terms) whole
    tree_is
    c.build.ensures.straight c.build.ensures.empty)
