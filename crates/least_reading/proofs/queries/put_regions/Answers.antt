use Rattle.std.proofs.Common.{◌≤◌, length, arith, length-take-le}
use Rattle.order.proofs.Prefix.{shared_is}
use Rattle.least_reading.specs.Unpacked.{unpacked_front}
use Rattle.least_reading.proofs.queries.put_regions.Goals as goal

pub returns : goal.returns
returns c =
    let t = c.args.terms in
    let count = c.region_count-count in
    let back = c.unpack.new.regions in
    let within : count.result ≤ length c.args.regions.now = omega (arith, count.ensures.0, c.requires) in
    unpacked_front t.d t.b t.n count.result _ c.args.codes.now _ back _ count.ensures.1 (length-take-le _ _ within)
    (shared_is _ _ back within c.unpack.auto.regions) c.unpack.ensures.regions_after
