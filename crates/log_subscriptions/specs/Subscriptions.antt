-- RULES 12.1: what the log program's receiver subscribes to. This is the only place that says so, with the table of lib.rt.
use Rattle.std.specs.Prelude.{List, [], ◌∷◌, ◌++◌, ℕ}
use Rattle.bits.specs.Little.{le_bytes}
use Rattle.types.specs.Types.{signature_of}

-- kind (0 message, 1 service) and data type ID of each
abbrev pub types : List (ℕ × ℕ)
types =
    -- NodeStatus
    (0, 341) ∷
    -- GetNodeInfo
    (1, 1) ∷
    -- Allocation
    (0, 1) ∷
    -- KeyValue
    (0, 16370) ∷
    -- LogMessage
    (0, 16383) ∷
    -- BatteryInfo
    (0, 1092) ∷
    -- RawCommand
    (0, 1030) ∷
    -- GetSet
    (1, 11) ∷
    -- ExecuteOpcode
    (1, 10) ∷ []

-- RULES 3.3: a subscription as a setup takes it, kind (1), type ID (4), signature (8), low byte first
unfoldable pub record13 : ℕ → ℕ → List ℕ
record13 kind type = le_bytes 1 kind ++ (le_bytes 4 type ++ le_bytes 8 (signature_of kind type))

unfoldable pub records : List (ℕ × ℕ) → List ℕ
records [] = []
records ((kind, type) ∷ more) = record13 kind type ++ records more

abbrev pub subscriptions : List ℕ
subscriptions = records types
