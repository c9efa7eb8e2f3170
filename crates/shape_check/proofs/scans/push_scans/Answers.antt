use Rattle.std.proofs.Common.{◌∙◌, ap, arith, length}
use Rattle.std.proofs.lemmas.List.{length_push}
use Rattle.shape_check.proofs.ScanLemmas.{push_more}
use Rattle.shape_check.proofs.scans.push_scans.Goals as goal

pub loop-scan-preserved : goal.loop-scan-preserved
loop-scan-preserved c =
    let i = c.loop-scan.scan-index in
    record {
      arrays = push_more c.args.shapes.now c.args.scans.now i _ c.loop-scan-test.true c.args.arrays.now.items c.loop-scan.arrays.items c.push.new.self.items
          c.loop-scan.invariant.arrays c.loop-scan.invariant.longer c.index-shapes-scan.result c.index-shapes-scan.is (c.requires.there i _ c.loop-scan-test.true)
          c.len-number.result (omega (arith, c.len-number.ensures, c.loop-scan.arrays.ok.0)) c.in_ok-push.ensures.items;
      longer = let e = ap length c.in_ok-push.ensures.items ∙ length_push c.loop-scan.arrays.items _ in omega (arith, e, c.loop-scan.invariant.longer);
    }
