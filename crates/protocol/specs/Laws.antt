-- RULES 9.10: the return trips of NodeStatus and GetNodeInfo, instances of the laws over every description; `laws.rt` has a function for them.
use Rattle.std.specs.Prelude.{◌≡◌, List, ℕ}
use Rattle.bits.specs.Order.{unpack, to_bits, store}
use Rattle.shape.specs.Shape.{end, Values, cleared}
use Rattle.shape.specs.Laws.{Trips, Never25}
use Rattle.protocol.specs.NodeStatus.{node_status, status_values, status_of, status_at}
use Rattle.protocol.specs.GetNodeInfoRequest.{request}
use Rattle.protocol.specs.GetNodeInfoResponse.{lists, response, unique_id_in, certificate_in, name_in, number_values, response_of, numbers_at}

-- what is in a payload, numbers at their places and lists as the parts that `unique_id`, `certificate_of_authenticity` and `name` give
abbrev pub status_found : List ℕ → Values node_status
status_found p = status_values (status_at (unpack p)) end tt

abbrev pub response_found : List ℕ → Values response
response_found p = number_values (numbers_at (unpack p)) lists (unique_id_in p, (certificate_in p, name_in p))

pub record Laws : Type 0 where
  pub status : Trips node_status (status_of end) status_found
  pub requests : Trips request (λ v. v) (λ p. tt)
  pub responses : Trips response response_of response_found
  -- RULES 9.8: sub-mode's three bits are all that is not kept
  pub status-kept : (p : List ℕ) → cleared node_status p ≡ store p 37 (to_bits 3 0)
  pub response-kept : (p : List ℕ) → cleared response p ≡ store p 37 (to_bits 3 0)
  -- RULES 9.4: they fill whole bytes
  pub never-25 : Never25 node_status × (Never25 request × Never25 response)
