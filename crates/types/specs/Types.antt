-- RULES 10.1: the standard types, with the signatures of the public DroneCAN set. The program `signatures` works them out (11).
use Rattle.std.specs.Prelude.{List, [], ◌∷◌, ℕ}
use Rattle.rules.specs.Check.{or_zero}
use Rattle.rules.specs.Setup.{Subscription, subscribed}

abbrev pub standard : List Subscription
standard =
    -- NodeStatus
    record { kind = 0; type = 341; signature = 0x0F0868D0C1A7C6F1 } ∷
    -- GetNodeInfo
    record { kind = 1; type = 1; signature = 0xEE468A8121C46A9E } ∷
    -- Allocation
    record { kind = 0; type = 1; signature = 0x0B2A812620A11D40 } ∷
    -- KeyValue
    record { kind = 0; type = 16370; signature = 0xE02F25D6E0C98AE0 } ∷
    -- LogMessage
    record { kind = 0; type = 16383; signature = 0xD654A48E0C049D75 } ∷
    -- BatteryInfo
    record { kind = 0; type = 1092; signature = 0x249C26548A711966 } ∷
    -- RawCommand
    record { kind = 0; type = 1030; signature = 0x217F5C87D7EC951D } ∷
    -- GetSet
    record { kind = 1; type = 11; signature = 0xA7B622F939D1A4D5 } ∷
    -- ExecuteOpcode
    record { kind = 1; type = 10; signature = 0x3B131AC5EB69D2CD } ∷ []

-- 0: no standard type
unfoldable pub signature_of : ℕ → ℕ → ℕ
signature_of kind type = or_zero (subscribed kind type standard)
