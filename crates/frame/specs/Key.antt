-- A stream as a key of 32 bits, and back.
use Rattle.std.specs.Prelude.{ℕ, ◌+◌, ◌*◌, ◌/◌, ◌%◌}
use Rattle.rules.specs.Frame.{Stream}

-- a stream as 32 bits; 0 is no stream, since a session's source is never 0
unfoldable pub key_of : Stream → ℕ
key_of d = ((d.transfer_type * 65536 + d.type) * 128 + d.source) * 128 + d.destination

unfoldable pub stream_of_key : ℕ → Stream
stream_of_key k = record { transfer_type = k / 1073741824; type = k / 16384 % 65536; source = k / 128 % 128; destination = k % 128 }
