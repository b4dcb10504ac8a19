use Rattle.std.proofs.Common.{sym}
use Rattle.scan.specs.Scanned.{scannable}
use Rattle.scan.proofs.nearest_by_scan.Goals as goal

pub scan_ready-requires : goal.scan_ready-requires
scan_ready-requires c =
    let is = scannable c.args.terms c.args.query.now c.args.vectors.now c.args.entries (sym c.in_ok-check_scan.ensures) in
    (is.vectors_are, is.among)
