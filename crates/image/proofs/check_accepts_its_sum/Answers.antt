use Rattle.image.proofs.Accepting.{accepts_its_sum}
use Rattle.image.proofs.check_accepts_its_sum.Goals as goal

pub returns : goal.returns
returns g c =
    let r = g.S.Register.Stored in
    let laws = g.met.S.Register.Stored in
    accepts_its_sum r.push g.S.Register.PartialEq.eq g.S.Checksum.START g.S.Checksum.steps r.LENGTH r.ZERO r.number laws.not_empty laws.reads
