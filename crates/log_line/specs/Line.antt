-- RULES 12.2: the form of a line. Lines are lists of characters, the closing line feed (character 10) included.
use Rattle.std.specs.Prelude.{◌≡◌, List, [], ◌∷◌, ◌++◌, ℕ, ◌/◌, ◌%◌, ◌^◌, ◌≤◌, ◌<◌, length}
use Rattle.bits.specs.Order.{Octets}
use Rattle.rules.specs.Frame.{Frame}
use Rattle.digits.specs.Digits.{digits, decimal}

-- a time in microseconds as seconds, a dot and three digits
unfoldable pub time_text : ℕ → List ℕ
time_text t = decimal (t / 1000000) ++ (46 ∷ digits 10 3 (t / 1000 % 1000))

-- each data byte as two digits after a space
unfoldable pub data_text : List ℕ → List ℕ
data_text [] = []
data_text (b ∷ bs) = 32 ∷ (digits 16 2 b ++ data_text bs)

-- the time, the ID as 8 digits after a space, the data bytes, a line feed
unfoldable pub line_of : Frame → List ℕ
line_of f = time_text f.time ++ (32 ∷ (digits 16 8 f.id ++ (data_text f.bytes ++ (10 ∷ []))))

-- a frame that a line can carry: whole milliseconds, seconds of at most 9 digits, an ID of 8 digits, at most 8 bytes
pub record Carried (f : Frame) : Type 0 where
  pub whole : f.time % 1000 ≡ 0
  pub time : f.time < 10 ^ 15
  pub id : f.id < 2 ^ 32
  pub few : length f.bytes ≤ 8
  pub octets : Octets f.bytes
