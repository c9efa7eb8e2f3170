use Rattle.std.specs.Prelude.{[], Some}
use Rattle.std.proofs.Common.{ap, arith, length, refl, subst, sym, ◌∙◌, ◌≡◌, ◌≤◌}
use Rattle.shapes_core.specs.Limits.{most_axes}
use Rattle.moa_tree.specs.Pools.{IsProgram}
use Rattle.shape_check.specs.Judged.{items_in, node_tree}
use Rattle.shape_check.specs.Statements.{verdict_of}
use Rattle.normal_form.specs.Kept.{IsForm, form_in}
use Rattle.psi_rules.specs.Agrees.{IsFormOf}
use Rattle.psi_rules.specs.Areas.{given, store}
use Rattle.psi_rules.specs.Fitting.{IsReadyHere}
use Rattle.psi_rules.specs.Numbered.{IsGoodTask, prices_at}
use Rattle.psi_rules.specs.Jobs.{forms}
use Rattle.psi_rules.specs.Reduced.{IsReduced}
use Rattle.psi_rules.specs.Rules.{Names, shape_in}
use Rattle.psi_rules.specs.Scopes.{first_scan, names_at}
use Rattle.psi_rules.specs.Tables.{IsReady, owner_at, scan_at}
use Rattle.psi_rules.proofs.FitPartLemmas.{shape-few}
use Rattle.psi_rules.proofs.FitTaskLemmas.{task-fits}
use Rattle.psi_rules.proofs.JobLemmas.{accepted-shapes}
use Rattle.psi_rules.proofs.ListLemmas.{zip-at}
use Rattle.psi_rules.proofs.ReduceLemmas.{form-here, has-form, is-form, node-here, shape-here}
use Rattle.psi_rules.proofs.reduction.reduce_among.Goals as goal

pub shape_of-shape-requires : goal.shape_of-shape-requires
shape_of-shape-requires c = (c.job_at-this.ensures.facts c.args.tables.now c.requires.tables).shaped.there

pub first_scan-scan-requires : goal.first_scan-scan-requires
first_scan-scan-requires c =
    let checking = c.args.checked.now in
    let tables = c.args.tables.now in
    let job = c.job_at-this.result in
    let facts = c.job_at-this.ensures.facts tables c.requires.tables in
    let good = c.tasks_are_good.ensures c.args.job facts.owner facts.owned_here in
    let same = ap (λ s. first_scan (scan_at tables s) job.area job.fold) c.owner_at-statement.ensures ∙ facts.scan in
    let areas = good.areas in
    omega (arith, areas, same)

pub terms_of-requires-clause-there : goal.terms_of-requires-clause-there
terms_of-requires-clause-there c = (c.job_at-this.ensures.facts c.args.tables.now c.requires.tables).shaped.there

pub terms_of-requires-clause-ready : goal.terms_of-requires-clause-ready
terms_of-requires-clause-ready c =
    let tables = c.args.tables.now in
    subst (λ s. IsReadyHere c.args.checked.now tables s c.job_at-this.result.node) (sym c.owner_at-statement.ensures) (record {
      nodes = (c.job_at-this.ensures.facts tables c.requires.tables).shaped;
      scope = record { names_before = refl; meant = c.requires.tables.meant; known = c.requires.tables.known };
    })

pub terms_of-requires-clause-fits : goal.terms_of-requires-clause-fits
terms_of-requires-clause-fits c =
    let checking = c.args.checked.now in
    let tables = c.args.tables.now in
    let items = items_in checking.pools in
    let job = c.job_at-this.result in
    let statement = c.owner_at-statement.result in
    let tree = node_tree checking.pools job.node in
    let facts = c.job_at-this.ensures.facts tables c.requires.tables in
    let owner = facts.owner in
    let placed = c.first_scan-scan.ensures ∙ ap (λ s. first_scan (scan_at tables s) job.area job.fold) c.owner_at-statement.ensures ∙ facts.scan in
    let here : owner.statement ≡ statement = sym (c.owner_at-statement.ensures ∙ facts.statement) in
    let good = subst (λ s. IsGoodTask (names_at items s) (prices_at items s) (tree, c.first_scan-scan.result)) here
    (subst (λ scan. IsGoodTask (names_at items owner.statement) (prices_at items owner.statement) (tree, scan)) (sym placed)
    (subst (λ of. IsGoodTask (names_at items owner.statement) (prices_at items owner.statement) (of, owner.task.1)) (sym facts.tree)
    (c.tasks_are_good.ensures c.args.job owner facts.owned_here))) in
    let shape : c.shape_of-shape.result ≡ shape_in (names_at items statement) tree =
    c.shape_of-shape.ensures ∙ facts.shaped.shape ∙ ap (λ s. shape_in (names_at items s) tree) (sym c.owner_at-statement.ensures) in
    task-fits (λ s. (c.span_laws.ensures.no_extent_0 s).0) items statement c.first_scan-scan.result tree good
    (subst (λ s. length s ≤ most_axes) shape (shape-few c.shape_of-shape.result c.extents-extents.ensures.shape))

pub new-requires : goal.new-requires
new-requires c =
    let checking = c.args.checked.now in
    let tables = c.args.tables.now in
    let items = items_in checking.pools in
    let job = c.job_at-this.result in
    let shape = c.shape_of-shape.result in
    let terms = c.in_ok-terms.terms.items in
    let program = subst IsProgram c.program.ensures.value c.statements-statements.ensures.program in
    let ok = accepted-shapes (verdict_of items) c.program.ensures.checked.accepted in
    let built = c.programs_are_built.ensures checking.pools program in
    let found = has-form c.jobs_are_tasks.ensures.forms c.jobs_are_tasks.ensures.shapes checking tables c.args.job job
    (c.job_at-this.ensures.facts tables c.requires.tables) c.requires.tables.meant c.requires.tables.known terms c.first_scan-scan.result
    (c.first_scan-scan.ensures ∙ ap (λ s. first_scan (scan_at tables s) job.area job.fold) c.owner_at-statement.ensures)
    (λ names ready. c.in_ok-terms.ensures.form names
    (subst (λ s. IsReady checking tables s names job.node) (sym c.owner_at-statement.ensures) ready))
    shape c.shape_of-shape.ensures c.extents-extents.ensures.shape c.in_ok-terms.ensures.pool
    (λ names ready. c.in_ok-terms.ensures.counted names
    (subst (λ s. IsReady checking tables s names job.node) (sym c.owner_at-statement.ensures) ready)) in
    subst (λ region. IsForm (record { job = job; shape = shape; region = region; terms = terms })) (sym c.whole.ensures)
    (is-form items (record {
      gives = c.jobs_give.ensures [] items ok.0 ok.1;
      keeps = λ number tree_job array form listed here made. record {
        kept = c.forms_keep.ensures.at [] items ok.0 number tree_job array form ok.1 built listed here made;
        varying = c.forms_keep.ensures.varying [] items ok.0 number tree_job array form ok.1 built listed here made;
        roomy = c.forms_keep.ensures.roomy [] items ok.0 number tree_job array form ok.1 built listed here made;
      };
      folds = λ number tree_job array. c.scans_fold.ensures [] items ok.0 number tree_job array ok.1 built;
      some = λ shape. (c.span_laws.ensures.no_extent_0 shape).0;
    }) c.args.job job shape terms found)

pub returns-clause-reduced : goal.returns-clause-reduced
returns-clause-reduced c =
    let checking = c.args.checked.now in
    let tables = c.args.tables.now in
    let job = c.job_at-this.result in
    let terms = c.in_ok-terms.terms.items in
    let facts = c.job_at-this.ensures.facts tables c.requires.tables in
    let placed = c.first_scan-scan.ensures ∙ ap (λ s. first_scan (scan_at tables s) job.area job.fold) c.owner_at-statement.ensures in
    let formed = λ (names : Names) (ready : IsReady checking tables (owner_at tables c.args.job) names job.node). c.in_ok-terms.ensures.form names
    (subst (λ s. IsReady checking tables s names job.node) (sym c.owner_at-statement.ensures) ready) in
    let forms = c.jobs_are_tasks.ensures.forms in
    let shapes = c.jobs_are_tasks.ensures.shapes in
    subst (IsReduced checking c.args.job) (sym c.new.ensures) (record {
      job = c.job_at-this.ensures.listed;
      node = node-here forms shapes checking tables c.args.job job facts c.requires.tables.meant c.requires.tables.known terms c.first_scan-scan.result placed formed
          c.jobs_are_tasks.ensures.tasks;
      shape = shape-here forms shapes checking tables c.args.job job facts c.requires.tables.meant c.requires.tables.known terms c.first_scan-scan.result placed formed
          c.shape_of-shape.result c.shape_of-shape.ensures;
      whole = c.whole.ensures;
      form = form-here forms shapes checking tables c.args.job job facts c.requires.tables.meant c.requires.tables.known terms c.first_scan-scan.result placed formed;
    })

pub returns-clause-meaning : goal.returns-clause-meaning
returns-clause-meaning c = λ inputs array at.
    let items = items_in c.args.checked.now.pools in
    let ok = accepted-shapes (verdict_of items) c.program.ensures.checked.accepted in
    zip-at (IsFormOf (store inputs items)) (forms items) (given inputs items) (c.jobs_give.ensures inputs items ok.0 ok.1) c.args.job
    (form_in c.new.result.terms) array (returns-clause-reduced c).form at

pub returns-clause-loads : goal.returns-clause-loads
returns-clause-loads c = λ form e.
    c.forms_load.ensures (items_in c.args.checked.now.pools) c.args.job form ((returns-clause-reduced c).form ∙ ap (λ f. Some f) e)
