use Rattle.shape_check.proofs.TotalLemmas.{all_scans, one_scan_more, with_none}
use Rattle.shape_check.proofs.totals.with_scans.Goals as goal

pub loop-scan-init : goal.loop-scan-init
loop-scan-init c = λ prices names shaped. with_none c.args.totals

pub loop-scan-preserved : goal.loop-scan-preserved
loop-scan-preserved c = λ prices names shaped.
    let i = c.loop-scan.scan-index in
    one_scan_more c.walks_in_order.ensures.step c.args.program.now c.requires.program.ordered prices c.args.shapes.now c.args.scans.now shaped c.args.totals
    i c.loop-scan-test.true _ c.loop-scan.sum c.with_job-sum.result c.counts_of-counts.result c.index-shapes-scan.result
    (c.loop-scan.invariant prices names shaped) c.index-shapes-scan.is c.requires.each
    (c.counts_of-counts.ensures prices names (shaped i _ c.loop-scan-test.true).shaped)
    c.with_job-sum.ensures

pub returns : goal.returns
returns c = λ prices names shaped.
    all_scans c.walks_in_order.ensures.step c.args.program.now c.requires.program.ordered prices c.args.shapes.now c.args.scans.now shaped c.args.totals
    c.loop-scan.scan-index c.loop-scan.sum c.loop-scan-test.false (c.loop-scan.invariant prices names shaped)
