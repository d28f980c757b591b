-- RULES 14.13: why condition 3 has its premises. For each there is a case that breaks it alone, and in which the claim fails. A case is
-- given by the numbers answered to the stream's frames, the start's first, or by what is handed out.
use Rattle.std.specs.Prelude.{◌≡◌, Bool, true, false, List, [], ◌∷◌, ◌++◌, map, ℕ, zero, suc, ◌+◌, ◌*◌, ltb, leb, eqb, length, get_or, take, drop, set, replicate}
use Rattle.rules.specs.Answer.{Answer, handed, number_of}
use Rattle.rules.specs.Check.{Reception}
use Rattle.rules.specs.Condition3.{of_stream, start_of, answers_to, Receiver, frames, answers, took_start, Premises, forward, roomy, never, front, While, Brings, Transfer, handouts, rules_table}
use Rattle.rules.specs.Example.{setup, message, stream, payload, one, two, three, frame, received, copied, other, start, crowd}
use Rattle.rules.specs.Frame.{Frame, Arrival, Stream}
use Rattle.rules.specs.Limits.{payload_max, switch_delay}
use Rattle.rules.specs.Reception.{step}
use Rattle.rules.specs.Sent.{frame_at, arrival_at, sent, id_of}
use Rattle.rules.specs.Sound.{sound}
use Rattle.rules.specs.Table.{empty, held, Places, begun}

abbrev pub Heard : Type 0
Heard = Receiver (rules_table setup)

-- with a start, 512 bytes of room for it, a table and a list
abbrev pub opened : Arrival → Places → List Reception → Heard
opened f ps l = record { state = ps; start = record { arrival = f; room = 512 }; list = l }

abbrev pub receiver : Places → List Reception → Heard
receiver = opened start

-- one place is free, and 31 hold sessions begun at a time
abbrev pub one_free : ℕ → Places
one_free since = empty ∷ crowd since 31

abbrev pub numbers : Stream → Heard → List ℕ
numbers d x = map number_of (answers (rules_table setup) d x)

abbrev pub handed_out : Heard → List Answer
handed_out x = handouts (rules_table setup) (answers (rules_table setup) stream x)

-- ── the premises, as tests ──

-- up to the stream's last frame
abbrev pub far : Stream → Heard → List Reception
far d x = front (rules_table setup) d (length (frames (rules_table setup) d x)) x

-- what is asked of one receiver: 0 its past, 1 a named source, 2 a start, 3 that it takes it, and while: 4 time, 5 room, 6 table, 7 blocks
abbrev pub tests : Stream → Heard → List Bool
tests d x =
    sound x.state ∷
    ltb 0 d.source ∷
    start_of d x.start.arrival.frame ∷
    took_start (rules_table setup) x ∷
    forward (rules_table setup) x.start.arrival.frame.time (far d x) ∷
    roomy (rules_table setup) d (far d x) ∷
    never (rules_table setup) 9 (answers_to (rules_table setup) (start_of d) (step setup x.state x.start).places (far d x)) ∷
    never (rules_table setup) 26 (answers_to (rules_table setup) (of_stream d) (step setup x.state x.start).places (far d x)) ∷ []

abbrev pub all : List Bool
all = replicate 8 true

abbrev pub but : ℕ → List Bool
but n = set all n false

-- what is asked of two
abbrev pub Together : Heard → Heard → Type 0
Together x y = x.start.arrival ≡ y.start.arrival

-- the stream's frames without their interfaces
abbrev pub frames' : Heard → List Frame
frames' x = map (λ a. a.frame) (frames (rules_table setup) stream x)

abbrev pub Same : Stream → Heard → Heard → Type 0
Same d x y = frames (rules_table setup) d x ≡ frames (rules_table setup) d y

-- the signature that the setup has for the stream
abbrev pub agreed : ℕ
agreed = 0x0123456789ABCDEF

-- what is asked of a transfer, with priority 16: its size, its transfer ID, the subscribed signature, and that the stream brings it
pub record Sent (x : Heard) (signature t : ℕ) (p : List ℕ) (found : List Bool) : Type 0 where
  pub premises : tests stream x ≡ all
  pub fits : leb (length p) payload_max ∷ ltb t 32 ∷ eqb signature agreed ∷ [] ≡ found
  pub brings : Brings x.start.arrival.interface (id_of stream 16) (x.start.arrival.frame.time + switch_delay) (sent signature t p)
      (x.start.arrival ∷ frames (rules_table setup) stream x)

-- these tests are all of the premises
pub record Tests : Type 0 where
  pub premises : (d : Stream) (x y : Heard) → tests d x ≡ all → tests d y ≡ all → Together x y → Same d x y → Premises (rules_table setup) d x y
  pub whiles : (d : Stream) (x : Heard) → tests d x ≡ all → While (rules_table setup) d (length (frames (rules_table setup) d x)) x
  pub transfer : (x : Heard) (signature t : ℕ) (p : List ℕ) → Sent x signature t p (true ∷ true ∷ true ∷ [])
      → Transfer setup stream x.start.arrival (frames (rules_table setup) stream x) 16 t p

-- ── alike (RULES 14.9) ──

abbrev pub steady : Heard
steady = receiver (one_free 10000000) (received two 10100000 ∷ received three 10200000 ∷ [])

-- a lent table has two entries of the stream: when one has lost its place the other shows
abbrev pub twins : Places
twins =
    held stream (record { expected = 5; gathered = []; toggle = false; since = 0; follows = 0 }) [] ∷
    held stream (record { expected = 5; gathered = 1 ∷ 2 ∷ 3 ∷ 4 ∷ 5 ∷ 6 ∷ 7 ∷ []; toggle = true; since = 12000000; follows = 0 }) (0 ∷ []) ∷ crowd 12000000 30

abbrev pub single : Heard
single = receiver begun (received two 12000002 ∷ [])

abbrev pub double : Heard
double = receiver twins (other 0x103FF22B one 12000001 ∷ received two 12000002 ∷ [])

-- what both take is no start: each adds it to what it has in hand
abbrev pub midway : List ℕ → Heard
midway bytes =
    opened (frame two 10100000) (held stream (record { expected = 5; gathered = bytes; toggle = true; since = 10000000; follows = 0 }) (0 ∷ []) ∷ crowd 10000000 31)
    (received three 10200000 ∷ [])

-- what the first frame carries
abbrev pub seven : List ℕ
seven = take 7 one

abbrev pub intact : Heard
intact = midway seven

abbrev pub damaged : Heard
damaged = midway (1 ∷ 2 ∷ 3 ∷ 4 ∷ 5 ∷ 6 ∷ 7 ∷ [])

-- the start came earlier to one, whose session is old when the last frame comes
abbrev pub late : Heard
late = receiver begun (received two 10100000 ∷ received three 12000000 ∷ [])

abbrev pub later : Heard
later = opened (frame one 9999999) begun (received two 10100000 ∷ received three 12000000 ∷ [])

-- one does not take the start: it has taken it before
abbrev pub ahead : Heard
ahead =
    receiver (held stream (record { expected = 6; gathered = []; toggle = false; since = 9000000; follows = 0 }) [] ∷ crowd 9000000 31)
    (received two 10100000 ∷ received three 10200000 ∷ [])

-- one gets the second frame by another interface
abbrev pub crossed : Heard
crossed = receiver (one_free 10000000) (copied two 10100000 ∷ received three 10200000 ∷ [])

-- one gets the start by another interface
abbrev pub elsewhere : Heard
elsewhere = opened (copied one 10000000).arrival (one_free 10000000) (received two 10100000 ∷ received three 10200000 ∷ [])

-- one does not get the second frame
abbrev pub lacking : Heard
lacking = receiver (one_free 10000000) (received three 10200000 ∷ [])

-- time runs back: a later start of another stream has taken the session's place
abbrev pub back : Heard
back = receiver (one_free 10000000) (other 0x103FF22B one 12000001 ∷ received two 10100000 ∷ received three 10200000 ∷ [])

-- an output buffer is short
abbrev pub short : Heard
short = receiver begun (record { arrival = frame two 10100000; room = 511 } ∷ received three 10200000 ∷ [])

-- the stream's next start meets a full table
abbrev pub room_left : Heard
room_left = receiver begun (received one 12000002 ∷ [])

abbrev pub none_left : Heard
none_left = receiver (one_free 12000000) (other 0x103FF22B one 12000001 ∷ received one 12000002 ∷ [])

-- the stream's next start meets no free block: n sessions have eight each
abbrev pub eight : ℕ → List ℕ
eight b = b ∷ (b + 1) ∷ (b + 2) ∷ (b + 3) ∷ (b + 4) ∷ (b + 5) ∷ (b + 6) ∷ (b + 7) ∷ []

unfoldable pub hoard : ℕ → Places
hoard zero = []
hoard (suc n) =
    held (message (100 + n)) (record { expected = 5; gathered = replicate 512 0; toggle = true; since = 9000000; follows = 0 }) (eight (8 * n)) ∷ hoard n

abbrev pub brief : Arrival
brief = frame (1 ∷ 0xC4 ∷ []) 10000000

abbrev pub blocks_left : Heard
blocks_left = opened brief begun (received one 10000001 ∷ [])

abbrev pub no_blocks : Heard
no_blocks = opened brief (replicate 24 empty ++ hoard 8) (received one 10000001 ∷ [])

-- ── delivered (RULES 14.12) ──

-- an anonymous frame is handed out as often as it comes
abbrev pub unnamed : Stream
unnamed = record { transfer_type = 0; type = 1; source = 0; destination = 0 }

abbrev pub twice : Heard
twice = opened (arrival_at 0 0x10000100 (1 ∷ 0xC0 ∷ []) 10000000) begun (other 0x10000100 (1 ∷ 0xC0 ∷ []) 10000001 ∷ [])

-- frames of the stream, at one time
abbrev pub hearing : List (List ℕ) → Heard
hearing l = opened (frame (get_or l 0 []) 10000000) begun (map (λ c. received c 10000000) (drop 1 l))

-- 513 bytes are one too many (RULES 14.10)
abbrev pub long : List ℕ
long = replicate 513 0

-- The transfer ID 69 does not fit the tail byte: its bit 64 says that the start is the end too.
abbrev pub wide : Heard
wide = hearing (sent agreed 69 payload)

-- the checksum is made under another signature
abbrev pub strange : Heard
strange = hearing (sent 7 5 payload)

-- a start by another interface comes later than a second after the start: the session follows it
abbrev pub too_late : Heard
too_late = receiver begun (received two 10100000 ∷ copied one 11000001 ∷ received three 11000001 ∷ [])

-- of a transfer of four frames the second is repeated after the third: it is taken as the fourth
abbrev pub four : List Reception → Heard
four = opened (frame (0x3F ∷ 0x13 ∷ 0x00 ∷ 0x00 ∷ 0x34 ∷ 0x42 ∷ 0x70 ∷ 0x85 ∷ []) 10000000) begun

abbrev pub degrees : List ℕ
degrees = payload ++ (0x5F ∷ 0x64 ∷ 0x65 ∷ 0x67 ∷ 0x72 ∷ 0x65 ∷ 0x65 ∷ [])

abbrev pub third : List ℕ
third = 0x65 ∷ 0x5F ∷ 0x64 ∷ 0x65 ∷ 0x67 ∷ 0x72 ∷ 0x65 ∷ 0x05 ∷ []

abbrev pub fourth : List ℕ
fourth = 0x65 ∷ 0x65 ∷ []

abbrev pub in_order : Heard
in_order = four (received two 10100000 ∷ received two 10200000 ∷ received third 10300000 ∷ received fourth 10400000 ∷ [])

abbrev pub out_of_order : Heard
out_of_order = four (received two 10100000 ∷ received third 10200000 ∷ received two 10300000 ∷ received fourth 10400000 ∷ [])

-- ── the facts ──

-- two receivers with the same frames: what each meets, and the numbers they answer
pub record Differ (x y : Heard) (meets meets' : List Bool) (a b : List ℕ) : Type 0 where
  pub first : tests stream x ≡ meets
  pub second : tests stream y ≡ meets'
  pub together : Together x y
  pub same : Same stream x y
  pub answers : (numbers stream x ≡ a) × (numbers stream y ≡ b)

pub record WhyPremises : Type 0 where
  pub complete : Tests
  -- alike
  pub pasts : Differ single double all (but 0) (0 ∷ 30 ∷ []) (0 ∷ 0 ∷ [])
  pub start : Differ intact damaged (but 2) (but 2) (0 ∷ 1 ∷ []) (0 ∷ 12 ∷ [])
  pub take : Differ steady ahead all (but 3) (0 ∷ 0 ∷ 1 ∷ []) (32 ∷ 30 ∷ 30 ∷ [])
  pub time : Differ steady back all (but 4) (0 ∷ 0 ∷ 1 ∷ []) (0 ∷ 30 ∷ 30 ∷ [])
  pub room : Differ steady short all (but 5) (0 ∷ 0 ∷ 1 ∷ []) (0 ∷ 8 ∷ 31 ∷ [])
  pub table : Differ room_left none_left all (but 6) (0 ∷ 0 ∷ []) (0 ∷ 9 ∷ [])
  pub blocks : Differ blocks_left no_blocks all (but 7) (1 ∷ 0 ∷ []) (1 ∷ 26 ∷ [])
  pub together : (tests stream late ≡ all) × (tests stream later ≡ all) × Same stream late later
      × (numbers stream late ≡ 0 ∷ 0 ∷ 1 ∷ []) × (numbers stream later ≡ 0 ∷ 0 ∷ 30 ∷ [])
  pub same : (tests stream steady ≡ all) × (tests stream lacking ≡ all) × Together steady lacking
      × (numbers stream steady ≡ 0 ∷ 0 ∷ 1 ∷ []) × (numbers stream lacking ≡ 0 ∷ 31 ∷ [])
  pub interfaces : (tests stream steady ≡ all) × (tests stream crossed ≡ all) × Together steady crossed × (frames' crossed ≡ frames' steady)
      × (numbers stream crossed ≡ 0 ∷ 34 ∷ 31 ∷ [])
  pub interface : (tests stream steady ≡ all) × (tests stream elsewhere ≡ all) × (elsewhere.start.arrival.frame ≡ steady.start.arrival.frame)
      × Same stream steady elsewhere × (numbers stream elsewhere ≡ 0 ∷ 34 ∷ 34 ∷ [])
  -- delivered
  pub named : (tests unnamed twice ≡ but 1) × Transfer setup unnamed twice.start.arrival (frames (rules_table setup) unnamed twice) 16 0 (1 ∷ [])
      × (numbers unnamed twice ≡ 1 ∷ 1 ∷ [])
  pub size : Sent (hearing (sent agreed 5 long)) agreed 5 long (false ∷ true ∷ true ∷ [])
      × (handed_out (hearing (sent agreed 5 long)) ≡ [])
  -- A priority of 32 or more breaks the premise on the start as well: its ID is none of the stream.
  pub fields : Sent wide agreed 69 payload (true ∷ false ∷ true ∷ []) × (handed_out wide ≡ handed seven stream 16 5 ∷ [])
      × (start_of stream (frame_at (id_of stream 32) one 10000000) ≡ false)
  pub subscribed : Sent strange 7 5 payload (true ∷ true ∷ false ∷ []) × (numbers stream strange ≡ 0 ∷ 0 ∷ 12 ∷ [])
  -- in time with a microsecond more
  pub second : (tests stream too_late ≡ all)
      × Brings 0 (id_of stream 16) (10000000 + switch_delay + 1) (sent agreed 5 payload) (too_late.start.arrival ∷ frames (rules_table setup) stream too_late)
      × (numbers stream too_late ≡ 0 ∷ 0 ∷ 0 ∷ 34 ∷ [])
  pub order : Sent in_order agreed 5 degrees (true ∷ true ∷ true ∷ []) × (tests stream out_of_order ≡ all)
      × (numbers stream in_order ≡ 0 ∷ 0 ∷ 31 ∷ 0 ∷ 1 ∷ []) × (numbers stream out_of_order ≡ 0 ∷ 0 ∷ 0 ∷ 0 ∷ 31 ∷ [])
