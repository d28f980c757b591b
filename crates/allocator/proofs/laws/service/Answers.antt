-- Service.
use Rattle.allocator.proofs.Serving.{service}
use Rattle.allocator.proofs.laws.service.Goals as goal

pub returns : goal.returns
returns c = service
