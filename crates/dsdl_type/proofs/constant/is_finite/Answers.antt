-- `constant::is_finite` meets its contract.
use Rattle.dsdl_type.proofs.Finite.{bound32, bound64}
use Rattle.dsdl_type.proofs.constant.is_finite.Goals as goal

pub is_under-requires-clause-bound : goal.is_under-requires-clause-bound
is_under-requires-clause-bound c = bound32

pub is_under-requires-2-clause-bound : goal.is_under-requires-2-clause-bound
is_under-requires-2-clause-bound c = bound64
