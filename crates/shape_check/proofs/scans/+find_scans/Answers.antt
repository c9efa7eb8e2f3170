use Rattle.std.proofs.Common.{◌++◌, ◌∙◌, ap}
use Rattle.std.proofs.lemmas.Result.{on_ok_weaker}
use Rattle.moa_tree.specs.Pool.{walk_of}
use Rattle.shape_check.specs.Scans.{scans_at}
use Rattle.shape_check.proofs.ScanLemmas.{one_found, two_found}
use Rattle.shape_check.proofs.scans.+find_scans.Goals as goal

pub returns-in-One : goal.returns-in-One
returns-in-One t c =
    let nodes = c.args.program.now.nodes in
    on_ok_weaker c.find_scans.result
    (λ e.
    e ∙ ap (λ l. l ++ scans_at nodes (walk_of nodes c.in-One.of)) c.in_ok-add_scan.ensures
    ∙ one_found c.walks_in_order.ensures.step nodes c.requires.program.ordered c.args.number c.node-node.result c.node-node.ensures c.args.found.now.items
    c.in-One.of c.in-One.ensures)
    c.find_scans.ensures

pub returns-in_ok-find_scans-in-Two : goal.returns-in_ok-find_scans-in-Two
returns-in_ok-find_scans-in-Two t c =
    let nodes = c.args.program.now.nodes in
    on_ok_weaker c.find_scans-in-Two-2.result
    (λ e.
    e ∙ ap (λ l. l ++ scans_at nodes (walk_of nodes c.in-Two.right))
    (c.in_ok-find_scans-in-Two.ensures ∙ ap (λ l. l ++ scans_at nodes (walk_of nodes c.in-Two.left)) c.in_ok-add_scan.ensures)
    ∙ two_found c.walks_in_order.ensures.step nodes c.requires.program.ordered c.args.number c.node-node.result c.node-node.ensures c.args.found.now.items
    c.in-Two.left c.in-Two.right c.in-Two.ensures)
    c.find_scans-in-Two-2.ensures
