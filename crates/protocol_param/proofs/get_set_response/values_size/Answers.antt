-- `get_set_response::values_size` meets its contract: the sum of four.
use native.Mathlib.Omega.{arith}
use Rattle.protocol_param.proofs.WriteFacts.{size_none}
use Rattle.protocol_param.proofs.get_set_response.values_size.Goals as goal

pub overflow_add-result-3 : goal.overflow_add-result-3
overflow_add-result-3 c =
    let a = c.args in
    omega (arith, c.written_size.ensures, c.written_size-2.ensures, c.written_size-3.ensures, c.written_size-4.ensures, size_none a.max_value, size_none a.min_value)
