-- RULES 7.2 to 7.7, 8.6 and 14.10: what follows from Map.antt and Sending.antt. Each record of laws is the contract of a function in src/lib.rt.
use Rattle.std.specs.Prelude.{◌≡◌, true, false, List, [], ◌∷◌, map, ℕ, ◌+◌, ◌*◌, ◌-◌, ◌^◌, ◌≤◌, ◌<◌, eqb, length, get_or}
use Rattle.std.proofs.Math.Option.{some}
use Rattle.bits.specs.Little.{le}
use Rattle.bits.specs.Part.{span}
use Rattle.bits.specs.Tabulate.{tabulate}
use Rattle.rules.specs.Answer.{handed}
use Rattle.rules.specs.Answer as answer
use Rattle.rules.specs.BlockBounds.{total, rival_need}
use Rattle.rules.specs.Check.{Reception}
use Rattle.rules.specs.Condition3.{keep, All, Receiver, frames, answers, took_start, While, handouts, Past, rules_table}
use Rattle.rules.specs.Frame as frame
use Rattle.rules.specs.Frame.{Frame, Arrival, Stream, priority_of}
use Rattle.rules.specs.Limits.{blocks_each, blocks_max, payload_max, interfaces_max, switch_delay, frame_record}
use Rattle.rules.specs.Map.{Topic, free, used, Map, blank, same_topic, sound}
use Rattle.rules.specs.Reception.{step}
use Rattle.rules.specs.Sending.{Call, topic_of, stream_of, is_response, any, not_sendable, frame_count, done, number_of, frames_of, transfer_of, anonymous_id, records_of, send_step}
use Rattle.rules.specs.Sent.{sent, id_of, frame_at}
use Rattle.rules.specs.Setup.{Setup, subscribed, kind_of}
use Rattle.rules.specs.Session.{next}
use Rattle.rules.specs.Sound.{stream_fits}
use Rattle.rules.specs.Table.{Places}
use Rattle.rules.specs.Tests.{pick}

-- a call that 14 lets through (RULES 7.2)
pub record InRange (c : Call) : Type 0 where
  pub own : c.own < 128
  pub transfer_type : c.transfer_type < 3
  pub message : c.transfer_type ≡ 0 → (c.type < 65536) × (c.destination ≡ 0)
  pub service : (c.transfer_type ≡ 0 → ⊥) → (c.type < 256) × ((0 < c.destination) × (c.destination < 128))
  pub priority : c.priority < 32
  pub response : c.transfer_type ≡ 2 → c.transfer < 32
  pub anonymous : c.own ≡ 0 → (c.discriminator < 16384) × ((c.type < 4) × ((length c.payload ≤ 7) × (c.transfer_type ≡ 0)))

-- ── the records (RULES 7.4, 7.5) ──

-- the frame of record n, received at a time
abbrev pub frame_in : List ℕ → ℕ → ℕ → Frame
frame_in r time n = frame_at (le (span r (frame_record * n) 4)) (span r (frame_record * n + 5) (get_or r (frame_record * n + 4) 0)) time

pub record RecordLaws : Type 0 where
  pub fits : (c : Call) → not_sendable c ≡ false → InRange c
  -- the frames are as many as the answer says: 1 for up to 7 payload bytes, (n + 8) / 7 for n > 7
  pub count : (signature t : ℕ) (p : List ℕ) → length (sent signature t p) ≡ frame_count (length p)
  -- RULES 7.6: a refusal changes nothing and writes nothing
  pub refusal : (c : Call) (m : Map) (room : ℕ) → (number_of (send_step c m room).answer ≡ 0 → ⊥)
      → ((send_step c m room).map ≡ m) × ((send_step c m room).records ≡ [])
  -- there are as many records, and they fit in the room
  pub size : (c : Call) (m : Map) (room : ℕ) → length (send_step c m room).records ≡ frame_record * frames_of (send_step c m room).answer
  pub room : (c : Call) (m : Map) (room : ℕ) → length (send_step c m room).records ≤ room
  -- no call makes more frames than a payload of 512 bytes
  pub few : (c : Call) (m : Map) (room : ℕ) → frames_of (send_step c m room).answer ≤ 74
  -- and none a transfer ID that is out of range
  pub transfer : (c : Call) (m : Map) (room : ℕ) → sound m ≡ true → transfer_of (send_step c m room).answer < 32
  -- record n gives back the n-th frame's ID and data
  pub back : (id signature t : ℕ) (p : List ℕ) (time n : ℕ) → id < 2 ^ 32 → n < frame_count (length p)
      → frame_in (records_of id (sent signature t p)) time n ≡ frame_at id (get_or (sent signature t p) n []) time

-- ── the ID (RULES 2.5) ──

-- what a receiver reads in the ID is what was put in
pub record AnonymousId (c : Call) : Type 0 where
  pub small : anonymous_id c < 2 ^ 29
  pub stream : frame.stream_of (anonymous_id c) ≡ stream_of c
  pub priority : priority_of (anonymous_id c) ≡ c.priority
  pub anonymous : frame.is_anonymous (anonymous_id c) ≡ true

-- ── the transfer ID (RULES 8.3) ──

-- what a map gives a topic: its entry's ID, and 0 where it has no entry
unfoldable pub offered : Topic → Map → ℕ
offered k [] = 0
offered k (free ∷ m) = offered k m
offered k (used e t since ∷ m) = pick (same_topic e k) t (offered k m)

-- what a call sends under: a response has the caller's
abbrev pub transfer_for : Call → Map → ℕ
transfer_for c m = pick (is_response c) c.transfer (offered (topic_of c) m)

-- ── a successful send ──

-- of a named source: its records are the frames of a correctly sent transfer (RULES 14.10) under the stream's ID and the transfer ID
pub record Correct (c : Call) (m : Map) (records : List ℕ) : Type 0 where
  pub stream : stream_fits (stream_of c) ≡ true
  pub priority : c.priority < 32
  pub payload : length c.payload ≤ payload_max
  pub transfer : transfer_for c m < 32
  pub frames : records ≡ records_of (id_of (stream_of c) c.priority) (sent c.signature (transfer_for c m) c.payload)

pub record SourceLaws : Type 0 where
  -- for the ID of a named source see IdLaws
  pub named : (c : Call) (m : Map) (room n t : ℕ) → sound m ≡ true → (send_step c m room).answer ≡ done n t → 0 < c.own → Correct c m (send_step c m room).records
  pub anonymous : (c : Call) → not_sendable c ≡ false → c.own ≡ 0 → AnonymousId c
  -- the answer gives the transfer ID
  pub given : (c : Call) (m : Map) (room n t : ℕ) → (send_step c m room).answer ≡ done n t → t ≡ transfer_for c m
  -- after it the map gives the topic the next ID; a response leaves the map
  pub raised : (c : Call) (m : Map) (room n t : ℕ) → (send_step c m room).answer ≡ done n t → is_response c ≡ false
      → offered (topic_of c) (send_step c m room).map ≡ next (transfer_for c m)
  pub unused : (c : Call) (m : Map) (room : ℕ) → is_response c ≡ true → (send_step c m room).map ≡ m

-- ── the map ──

-- RULES 8.6: setup leaves a map without a fault, and every send keeps it one
pub record MapLasts : Type 0 where
  pub setup : sound blank ≡ true
  pub send : (c : Call) (m : Map) (room : ℕ) → sound m ≡ true → sound (send_step c m room).map ≡ true

-- ── sending and then receiving (RULES 7.7) ──

-- a receiver that the call is for: it subscribes to the type under the call's signature, and a service is addressed to it
pub record Hears (u : Setup) (c : Call) : Type 0 where
  pub subscribes : subscribed (kind_of (stream_of c)) c.type u.subscriptions ≡ some c.signature
  pub addressed : (c.transfer_type ≡ 0 → ⊥) → u.own ≡ c.destination

-- a frame without its time, and the frames of n records
abbrev pub untimed : Frame → Frame
untimed f = frame_at f.id f.bytes 0

abbrev pub frames_in : List ℕ → ℕ → List Frame
frames_in records n = tabulate (frame_in records 0) 0 n

-- the frames that come by interface i
unfoldable pub frames_by : ℕ → List Arrival → List Frame
frames_by i [] = []
frames_by i (a ∷ l) = keep (eqb a.interface i) a.frame (frames_by i l)

-- A receiver of the setup u, with any past, hears n records on the stream d: by the start's interface their frames in order, within a second of the first;
-- by other interfaces and of other streams whatever comes. Up to the last of them the premises of condition 3 hold: of these, that no start is refused for a
-- full table says something only of starts by other interfaces, and that no frame is refused for want of a block nothing of the start itself.
pub record Hearing (u : Setup) (d : Stream) (records : List ℕ) (n : ℕ) (x : Receiver (rules_table u)) : Type 0 where
  pub past : Past u x.state
  pub interface : x.start.arrival.interface < interfaces_max
  pub heard : map untimed (frames_by x.start.arrival.interface (x.start.arrival ∷ frames (rules_table u) d x)) ≡ frames_in records n
  pub soon : All (λ a. a.frame.time ≤ x.start.arrival.frame.time + switch_delay) (frames (rules_table u) d x)
  pub room : payload_max ≤ x.start.room
  pub while : While (rules_table u) d (length (frames (rules_table u) d x)) x

-- what it answers to the call's records
pub record Arrives (u : Setup) (c : Call) (m : Map) (x : Receiver (rules_table u)) : Type 0 where
  -- the start is taken, refused for a full table or for want of a block, or passed over
  pub start : any (map (eqb (answer.number_of (step u x.state x.start).answer)) (0 ∷ 1 ∷ 9 ∷ 26 ∷ 32 ∷ 33 ∷ 34 ∷ [])) ≡ true
  -- where it is taken, the payload is handed out exactly once
  pub once : took_start (rules_table u) x ≡ true
      → handouts (rules_table u) (answers (rules_table u) (stream_of c) x) ≡ handed c.payload (stream_of c) c.priority (transfer_for c m) ∷ []

-- n records heard at one time and by interface 0, with nothing between
abbrev pub in_turn : List ℕ → ℕ → ℕ → ℕ → Reception
in_turn records time space k = record { arrival = record { frame = frame_in records time k; interface = 0 }; room = space }

abbrev pub at_once : (u : Setup) → Places → List ℕ → ℕ → ℕ → ℕ → Receiver (rules_table u)
at_once u ps records n time space =
    record { state = ps; start = in_turn records time space 0; list = tabulate (in_turn records time space) 1 (n - 1) }

pub record Delivered : Type 0 where
  pub arrives : (c : Call) (m : Map) (room n t : ℕ) → sound m ≡ true → (send_step c m room).answer ≡ done n t → 0 < c.own → (u : Setup) → Hears u c
      → (x : Receiver (rules_table u)) → Hearing u (stream_of c) (send_step c m room).records n x → Arrives u c m x
  -- its premises can be met, where the sessions of other streams leave the blocks of one transfer
  pub met : (c : Call) (m : Map) (room n t : ℕ) → sound m ≡ true → (send_step c m room).answer ≡ done n t → 0 < c.own → (u : Setup) (ps : Places) → Past u ps
      → (time space : ℕ) → payload_max ≤ space → total (rival_need (stream_of c) time) ps + blocks_each ≤ blocks_max
      → Hearing u (stream_of c) (send_step c m room).records n (at_once u ps (send_step c m room).records n time space)
