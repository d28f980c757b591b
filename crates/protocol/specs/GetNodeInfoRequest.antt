-- RULES 10.6: GetNodeInfo's request. It is empty.
use Rattle.std.specs.Prelude.{List, ℕ}
use Rattle.shape.specs.Answer.{Numbered, numbered}
use Rattle.shape.specs.Shape.{Shape, end, Values, decoded}

abbrev pub request : Shape
request = end

-- what a payload gives
abbrev pub request_in : List ℕ → Numbered (Values request)
request_in p = numbered (decoded request p)
