-- RULES 15.2: worked values, as facts of the definitions. A status, and a response with a certificate and a name (10.7).
-- `laws.rt` has a function whose contract they are.
use Rattle.std.specs.Prelude.{◌≡◌, List, [], ◌∷◌, ◌++◌, ℕ, pos, negsuc}
use Rattle.shape.specs.Answer.{got}
use Rattle.shape.specs.Shape.{Values, decoded, encoded}
use Rattle.protocol.specs.NodeStatus.{node_status}
use Rattle.protocol.specs.GetNodeInfoResponse.{response}

abbrev pub unique_id : List ℕ
unique_id = 16 ∷ 17 ∷ 18 ∷ 19 ∷ 20 ∷ 21 ∷ 22 ∷ 23 ∷ 24 ∷ 25 ∷ 26 ∷ 27 ∷ 28 ∷ 29 ∷ 30 ∷ 31 ∷ []

abbrev pub certificate : List ℕ
certificate = 160 ∷ 161 ∷ 162 ∷ []

-- "a.b"
abbrev pub name : List ℕ
name = 97 ∷ 46 ∷ 98 ∷ []

-- numbers of several bytes are low byte first; the certificate's length comes before it, the name has none
abbrev pub response_bytes : List ℕ
response_bytes =
    -- uptime 258, health 1, mode 7, sub-mode 0, vendor code 515
    2 ∷ 1 ∷ 0 ∷ 0 ∷ 120 ∷ 3 ∷ 2 ∷
    -- software 1.2, flags 3, commit 0x04030201, image CRC 0x100
    1 ∷ 2 ∷ 3 ∷ 1 ∷ 2 ∷ 3 ∷ 4 ∷ 0 ∷ 1 ∷ 0 ∷ 0 ∷ 0 ∷ 0 ∷ 0 ∷ 0 ∷
    -- hardware 5.6
    5 ∷ 6 ∷ (unique_id ++ (3 ∷ (certificate ++ name)))

abbrev pub response_values : Values response
response_values =
    (pos 258, (pos 1, (pos 7, (pos 515, (pos 1, (pos 2, (pos 3, (pos 67305985, (256, (pos 5, (pos 6, (unique_id, (certificate, name)))))))))))))

pub record Samples : Type 0 where
  -- 01 00 00 00 00 00 00: a second of uptime
  pub status : decoded node_status (1 ∷ 0 ∷ 0 ∷ 0 ∷ 0 ∷ 0 ∷ 0 ∷ []) ≡ got (pos 1, (pos 0, (pos 0, (pos 0, tt))))
  -- RULES 9.14: 2^32 seconds, health 5, mode -1 and vendor code 65,536 are written as 2^32 - 1, 3, 0 and 65,535
  pub clipped : encoded node_status (pos 4294967296, (pos 5, (negsuc 0, (pos 65536, tt)))) 7 ≡ got (255 ∷ 255 ∷ 255 ∷ 255 ∷ 192 ∷ 255 ∷ 255 ∷ [])
  pub response-read : decoded response response_bytes ≡ got response_values
  pub response-written : encoded response response_values 47 ≡ got response_bytes
