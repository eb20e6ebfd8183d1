use Rattle.area.proofs.Starting.{one_area}
use Rattle.area.proofs.one_area_is_read.Goals as goal

pub returns : goal.returns
returns c = one_area
