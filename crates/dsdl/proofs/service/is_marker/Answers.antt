-- `service::is_marker` meets its contract.
use Rattle.dsdl.proofs.Services.{marked}
use Rattle.dsdl.proofs.service.is_marker.Goals as goal

pub returns : goal.returns
returns c = marked c.args.l.now c.read.result c.is_marker.result c.read.ensures c.is_marker.ensures
