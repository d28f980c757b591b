-- For RULES 9.2: what the private function `field::patch` computes on a window of one or two bytes.
use Rattle.std.specs.Prelude.{ℕ, ◌+◌, ◌*◌, ◌/◌, ◌%◌, ◌^◌}

-- the number x with v in the place of the k bits above its r lowest
unfoldable pub patched : ℕ → ℕ → ℕ → ℕ → ℕ
patched x r k v = (x / 2 ^ r / 2 ^ k * 2 ^ k + v) * 2 ^ r + x % 2 ^ r
