use Rattle.std.proofs.Common.{ℕ, ◌<◌, ◌++◌, ◌∙◌, ap, sym, subst, arith, length, get_or}
use Rattle.moa_tree.specs.Pool.{walk_of}
use Rattle.shape_check.specs.declared.scans.PoolScan.{PoolScan}
use Rattle.shape_check.specs.Scans.{scans_at}
use Rattle.shape_check.proofs.JobLemmas.{all-from, few-scans, follows, scans_added, there-along}
use Rattle.shape_check.proofs.statement.add_scans.Goals as goal

pub jobs_of_scans-requires : goal.jobs_of_scans-requires
jobs_of_scans-requires c =
    let w = walk_of c.args.program.now.nodes c.args.number in
    let e = c.deref.ensures.value ∙ c.in_ok-find_scans.ensures ∙ ap (λ l. l ++ scans_at c.args.program.now.nodes w) c.new-found.ensures.items in
    omega (arith, ap length e, few-scans c.args.program.now.nodes w, c.requires.room, c.len.ensures, c.args.progress.now.scans.ok.0)

pub with_scans-progress-requires-clause-there : goal.with_scans-progress-requires-clause-there
with_scans-progress-requires-clause-there c =
    let nodes = c.args.program.now.nodes in
    let w = walk_of nodes c.args.number in
    let e = c.deref-3.ensures.value ∙ c.in_ok-find_scans.ensures ∙ ap (λ l. l ++ scans_at nodes w) c.new-found.ensures.items in
    subst (λ l. (k : ℕ) (d : PoolScan) → k < length l → (get_or l k d).node < length nodes) (sym e)
    (all-from (λ scan. scan.node < length nodes) (scans_at nodes w) (there-along nodes w (follows c.walks_in_order.ensures.step nodes c.requires.program.ordered c.args.number c.requires.there)))

pub push_scans-requires-clause-there : goal.push_scans-requires-clause-there
push_scans-requires-clause-there c =
    let nodes = c.args.program.now.nodes in
    let w = walk_of nodes c.args.number in
    let e = c.deref-5.ensures.value ∙ c.in_ok-find_scans.ensures ∙ ap (λ l. l ++ scans_at nodes w) c.new-found.ensures.items in
    subst (λ n. (k : ℕ) (d : PoolScan) → k < length c.deref-5.result.now → (get_or c.deref-5.result.now k d).node < n) (sym (ap length c.deref-4.ensures.value ∙ c.requires.each))
    (subst (λ l. (k : ℕ) (d : PoolScan) → k < length l → (get_or l k d).node < length nodes) (sym e)
    (all-from (λ scan. scan.node < length nodes) (scans_at nodes w) (there-along nodes w (follows c.walks_in_order.ensures.step nodes c.requires.program.ordered c.args.number c.requires.there))))

pub push_scans-requires-clause-room : goal.push_scans-requires-clause-room
push_scans-requires-clause-room c =
    let w = walk_of c.args.program.now.nodes c.args.number in
    let e = c.deref-5.ensures.value ∙ c.in_ok-find_scans.ensures ∙ ap (λ l. l ++ scans_at c.args.program.now.nodes w) c.new-found.ensures.items in
    omega (arith, ap length e, few-scans c.args.program.now.nodes w, c.requires.room)

pub returns-clause-added : goal.returns-clause-added
returns-clause-added c = λ prices names shapes.
    let nodes = c.args.program.now.nodes in
    let found = c.in_ok-find_scans.ensures ∙ ap (λ l. l ++ scans_at nodes (walk_of nodes c.args.number)) c.new-found.ensures.items in
    scans_added c.walks_in_order.ensures.step c.args.program.now c.requires.program.ordered c.args.inventory prices c.args.number c.requires.there c.args.progress.now _ shapes
    c.deref.result.now c.deref-3.result.now c.deref-5.result.now c.deref-2.result.now c.deref-4.result.now c.in_ok-jobs.jobs.items c.len.result
    (c.deref.ensures.value ∙ found) (c.deref-3.ensures.value ∙ found) (c.deref-5.ensures.value ∙ found) c.deref-2.ensures.value c.deref-4.ensures.value
    (c.in_ok-extend_from_slice.ensures.items ∙ ap (λ l. c.args.progress.now.jobs.items ++ l) (c.deref-6.ensures.value ∙ c.reverse.ensures.items)) c.in_ok-jobs.ensures
    (omega (arith, c.len.ensures, c.args.progress.now.scans.ok.0)) c.in_ok-push_scans.ensures (c.with_scans-progress.ensures prices names)
