-- RULES 7.4, 6.3, 2.3 and 2.5: what follows from the definitions of Sent.antt. Each record is the contract of a function in src/lib.rt.
use Rattle.std.specs.Prelude.{◌≡◌, Bool, true, false, not, List, [], ◌∷◌, ◌++◌, ℕ, zero, suc, ◌+◌, ◌*◌, ◌/◌, ◌%◌, ◌^◌, ◌≤◌, ◌<◌, eqb, length, get_or, take, drop}
use Rattle.rules.specs.Frame.{Stream, stream_of, priority_of, payload_of}
use Rattle.rules.specs.Limits.{frame_payload}
use Rattle.rules.specs.Sent.{tail_byte, framed, carried, sent, id_of}
use Rattle.rules.specs.Sound.{stream_fits}

-- the payload bytes of frames, one after the other
unfoldable pub joined : List (List ℕ) → List ℕ
joined [] = []
joined (c ∷ more) = payload_of c ++ joined more

-- the first k frames of a transfer that has more
unfoldable pub opening : ℕ → Bool → Bool → ℕ → List ℕ → List (List ℕ)
opening zero start toggle t bytes = []
opening (suc k) start toggle t bytes = framed (take frame_payload bytes) (tail_byte start false toggle t) ∷ opening k false (not toggle) t (drop frame_payload bytes)

-- RULES 7.4, of any signature, transfer ID and payload
pub record SentLaws : Type 0 where
  -- up to 7 bytes go in one frame, start and end, toggle 0
  pub single : (signature t : ℕ) (p : List ℕ) → length p ≤ frame_payload → sent signature t p ≡ framed p (tail_byte true true false t) ∷ []
  -- n > 7 bytes make (n + 8) / 7 frames
  pub count : (signature t : ℕ) (p : List ℕ) → frame_payload < length p → length (sent signature t p) ≡ (length p + 8) / 7
  -- frame n, counted from 0, carries the seven bytes from 7 n on, or what is left of them
  pub frame : (signature t : ℕ) (p : List ℕ) (n : ℕ) → n < length (sent signature t p) → get_or (sent signature t p) n []
      ≡ framed (take frame_payload (drop (frame_payload * n) (carried signature p))) (tail_byte (eqb n 0) (eqb (suc n) (length (sent signature t p))) (eqb (n % 2) 1) t)
  -- each has 1 to 8 data bytes
  pub size : (signature t : ℕ) (p : List ℕ) (n : ℕ) → n < length (sent signature t p)
      → (1 ≤ length (get_or (sent signature t p) n [])) × (length (get_or (sent signature t p) n []) ≤ 8)
  -- together they carry what is to be carried
  pub whole : (signature t : ℕ) (p : List ℕ) → joined (sent signature t p) ≡ carried signature p
  -- the first k frames of more are full ones, and depend on the first 7 k bytes alone
  pub front : (signature t : ℕ) (p : List ℕ) (k : ℕ) → k < length (sent signature t p)
      → take k (sent signature t p) ≡ opening k true false t (take (frame_payload * k) (carried signature p))

-- RULES 2.5, of any stream with a named source and any priority
pub record IdLaws : Type 0 where
  pub small : (d : Stream) (priority : ℕ) → stream_fits d ≡ true → priority < 32 → id_of d priority < 2 ^ 29
  pub stream : (d : Stream) (priority : ℕ) → stream_fits d ≡ true → stream_of (id_of d priority) ≡ d
  pub priority : (d : Stream) (priority : ℕ) → stream_fits d ≡ true → priority_of (id_of d priority) ≡ priority
  -- and no other ID gives that stream with that priority
  pub back : (id : ℕ) → stream_fits (stream_of id) ≡ true → id_of (stream_of id) (priority_of id) ≡ id
