-- RULES 14.1 to 14.12: condition 3, stated once over any machine that takes calls and answers. Damage on a stream ends at its next start.
-- The rules' table is such a machine (at the end), and so are the bytes lent to `receive` (RULES 14.14, crate guarantees).
use Rattle.std.specs.Prelude.{◌≡◌, Bool, true, false, not, ◌&&◌, List, [], ◌∷◌, ℕ, zero, suc, ◌+◌, ◌^◌, ◌≤◌, ◌<◌, ltb, leb, eqb, length, take}
use Rattle.std.proofs.Math.Option.{some}
use Rattle.rules.specs.Answer as rules
use Rattle.rules.specs.Check.{Reception}
use Rattle.rules.specs.Frame.{Frame, Arrival, Stream, same_stream, stream_of, tail_of, is_start}
use Rattle.rules.specs.Limits.{payload_max, switch_delay}
use Rattle.rules.specs.Reception.{step, after}
use Rattle.rules.specs.Sent.{sent, id_of, arrival_at}
use Rattle.rules.specs.Setup.{Setup, signature_for}
use Rattle.rules.specs.Sound.{sound}
use Rattle.rules.specs.Table.{Places, begun}
use Rattle.rules.specs.Tests.{pick}

-- ── receivers (RULES 14.2) ──

-- The receivers of one setup. Each call meets the state that the last one left; nothing else writes it.
pub record Machine : Type 1 where
  pub State : Type 0
  -- one reception: a frame by an interface, and room for what is handed out
  pub Call : Type 0
  -- what the caller sees of it
  pub Answer : Type 0
  pub reception : Call → Reception
  pub answer : State → Call → Answer
  pub after : State → Call → State
  -- the number of an answer
  pub number : Answer → ℕ
  -- how an answer of the rules looks here
  pub shows : rules.Answer → Answer
  -- the states that a past may have left
  pub Past : State → Type 0
  -- what the types of a call's arguments give
  pub Typed : Call → Type 0

-- ── the stream's part of a list (RULES 14.3) ──

-- A frame is of the stream if its ID is below 2^29 and gives that stream (RULES 2.4), refused or not.
abbrev pub of_stream : Stream → Frame → Bool
of_stream d f = ltb f.id (2 ^ 29) && same_stream (stream_of f.id) d

abbrev pub start_of : Stream → Frame → Bool
start_of d f = of_stream d f && is_start (tail_of f.bytes)

-- RULES 14.4: to take a frame is to answer 0 or 1
abbrev pub took : ℕ → Bool
took n = ltb n 2

abbrev pub keep : {A : Type 0} → Bool → A → List A → List A
keep true a l = a ∷ l
keep false a l = l

abbrev pub All : {A : Type 0} → (A → Type 0) → List A → Type 0
All P [] = Unit {0}
All P (a ∷ l) = P a × All P l

module _ (M : Machine) where
  abbrev pub arrival_of : M.Call → Arrival
  arrival_of c = (M.reception c).arrival

  abbrev pub frame_of : M.Call → Frame
  frame_of c = (arrival_of c).frame

  -- the frames of a list that pass a test, with ID, data, time and interface
  unfoldable pub frames_with : (Frame → Bool) → List M.Call → List Arrival
  frames_with t [] = []
  frames_with t (c ∷ cs) = keep (t (frame_of c)) (arrival_of c) (frames_with t cs)

  -- the answers to them
  unfoldable pub answers_to : (Frame → Bool) → M.State → List M.Call → List M.Answer
  answers_to t s [] = []
  answers_to t s (c ∷ cs) = keep (t (frame_of c)) (M.answer s c) (answers_to t (M.after s c) cs)

  -- the list up to the k-th frame that passes a test, this one included; all of it, if fewer pass
  unfoldable pub up_to : (Frame → Bool) → List M.Call → ℕ → List M.Call
  up_to t [] k = []
  up_to t (c ∷ cs) zero = []
  up_to t (c ∷ cs) (suc k) = c ∷ up_to t cs (pick (t (frame_of c)) k (suc k))

  -- ── two receivers (RULES 14.1) ──

  -- a receiver with a past: its state, the call that brings the start, and the calls after that
  pub record Receiver : Type 0 where
    pub state : M.State
    pub start : M.Call
    pub list : List M.Call

  abbrev pub start_frame : Receiver → Arrival
  start_frame x = arrival_of x.start

  -- the stream's frames after the start
  abbrev pub frames : Stream → Receiver → List Arrival
  frames d x = frames_with (of_stream d) x.list

  -- the answers to the stream's frames, the start's first
  abbrev pub answers : Stream → Receiver → List M.Answer
  answers d x = answers_to (of_stream d) x.state (x.start ∷ x.list)

  abbrev pub took_start : Receiver → Bool
  took_start x = took (M.number (M.answer x.state x.start))

  pub record Premises (d : Stream) (x y : Receiver) : Type 0 where
    -- RULES 14.2: each has any past; their setup is equal, since both are of M
    pub pasts : M.Past x.state × M.Past y.state
    pub typed : All M.Typed (x.start ∷ x.list) × All M.Typed (y.start ∷ y.list)
    -- RULES 14.1: the stream has a named source
    pub named : 0 < d.source
    -- RULES 14.1: both get the same start of it, at the same time and by the same interface
    pub start : start_of d (start_frame x).frame ≡ true
    pub together : start_frame x ≡ start_frame y
    -- RULES 14.4: and take it
    pub take : (took_start x ≡ true) × (took_start y ≡ true)
    -- RULES 14.5: both lists bring the same frames of the stream, with their times and interfaces and in their order, with whatever else between,
    -- different for each
    pub same : frames d x ≡ frames d y

  -- ── while (RULES 14.6 to 14.8) ──

  -- no time is before the one before it, and the first not before t
  abbrev pub forward : ℕ → List M.Call → Bool
  forward t [] = true
  forward t (c ∷ cs) = leb t (frame_of c).time && forward (frame_of c).time cs

  -- a payload has room at each frame of the stream
  abbrev pub roomy : Stream → List M.Call → Bool
  roomy d [] = true
  roomy d (c ∷ cs) = pick (of_stream d (frame_of c)) (leb payload_max (M.reception c).room) true && roomy d cs

  -- no answer has the number n
  abbrev pub never : ℕ → List M.Answer → Bool
  never n [] = true
  never n (a ∷ l) = not (eqb (M.number a) n) && never n l

  -- up to the stream's k-th frame after the start
  abbrev pub front : Stream → ℕ → Receiver → List M.Call
  front d k x = up_to (of_stream d) x.list k

  -- so far the premises hold for one receiver: nothing is asked of what comes later
  pub record While (d : Stream) (k : ℕ) (x : Receiver) : Type 0 where
    -- RULES 14.6: time never runs back from the start on; other streams' frames and refused ones count
    pub time : forward (start_frame x).frame.time (front d k x) ≡ true
    -- RULES 14.7: output buffers are large enough
    pub room : roomy d (front d k x) ≡ true
    -- RULES 14.8: no start of the stream is refused for a full table
    pub table : never 9 (answers_to (start_of d) (M.after x.state x.start) (front d k x)) ≡ true
    -- RULES 14.8: and no frame of the stream for want of a block
    pub blocks : never 26 (answers_to (of_stream d) (M.after x.state x.start) (front d k x)) ≡ true

-- ── a correctly sent transfer (RULES 14.10, 14.11) ──

-- RULES 14.11: by interface i the frames in order and nothing else, each perhaps repeated before the next; by other interfaces any frames; none later
-- than `till`
pub data Brings (i id till : ℕ) : List (List ℕ) → List Arrival → Type 0 where
  done : Brings i id till [] []
  -- the frame's last copy
  next : {c : List ℕ} {more : List (List ℕ)} {fs : List Arrival} (t : ℕ) → t ≤ till → Brings i id till more fs
      → Brings i id till (c ∷ more) (arrival_at i id c t ∷ fs)
  -- a copy before that
  again : {c : List ℕ} {more : List (List ℕ)} {fs : List Arrival} (t : ℕ) → t ≤ till → Brings i id till (c ∷ more) fs
      → Brings i id till (c ∷ more) (arrival_at i id c t ∷ fs)
  -- whatever comes by another interface, copies of the transfer among it
  beside : {l : List (List ℕ)} {fs : List Arrival} (a : Arrival) → eqb a.interface i ≡ false → a.frame.time ≤ till → Brings i id till l fs
      → Brings i id till l (a ∷ fs)

-- the start f and the stream's frames fs after it bring the payload p with a priority and the transfer ID t
pub record Transfer (u : Setup) (d : Stream) (f : Arrival) (fs : List Arrival) (priority t : ℕ) (p : List ℕ) : Type 0 where
  pub size : length p ≤ payload_max
  -- RULES 14.10: it is sent by the sending rules (7.4), under the signature that the receiver subscribed with
  pub fields : (priority < 32) × (t < 32)
  pub signature : ℕ
  pub subscribed : signature_for u (id_of d priority) ≡ some signature
  -- RULES 14.11: by the start's interface, within a second of the start, repeats and all that other interfaces bring too
  pub brings : Brings f.interface (id_of d priority) (f.frame.time + switch_delay) (sent signature t p) (f ∷ fs)

-- ── the claim (RULES 14.1) ──

module _ (M : Machine) where
  -- the answers that are 1
  abbrev pub handouts : List M.Answer → List M.Answer
  handouts [] = []
  handouts (a ∷ l) = keep (eqb (M.number a) 1) a (handouts l)

  pub record Claim (u : Setup) (d : Stream) (x y : Receiver M) : Type 0 where
    -- RULES 14.9: both answer each frame of the stream alike, the start and the k after it, while the premises hold. Equal answers have the same
    -- number and, with 1, the same payload and all else that 1 gives (RULES 4.10).
    pub alike : (k : ℕ) → While M d k x → While M d k y → take (suc k) (answers M d x) ≡ take (suc k) (answers M d y)
    -- RULES 14.12: if the start opens a transfer, each hands out its payload exactly once and unaltered. Of the answers to the stream's frames,
    -- the start's included, exactly one is 1, and it has the bytes that were sent.
    pub delivered : (priority t : ℕ) (p : List ℕ) → Transfer u d (start_frame M x) (frames M d x) priority t p
        → While M d (length (frames M d x)) x → While M d (length (frames M d y)) y
        → (handouts (answers M d x) ≡ M.shows (rules.handed p d priority t) ∷ []) × (handouts (answers M d y) ≡ M.shows (rules.handed p d priority t) ∷ [])

-- for every setup, given the machine of each
abbrev pub Condition3 : (Setup → Machine) → Type 0
Condition3 machine = (u : Setup) (d : Stream) (x y : Receiver (machine u)) → Premises (machine u) d x y → Claim (machine u) u d x y

-- ── the rules' table (RULES 14.2) ──

-- the table after setup, any lent table without a fault, and either after any list of receptions
pub data Past (u : Setup) : Places → Type 0 where
  from_setup : Past u begun
  lent : {ps : Places} → sound ps ≡ true → Past u ps
  heard : {ps : Places} → Past u ps → (l : List Reception) → Past u (after u ps l)

abbrev pub rules_table : Setup → Machine
rules_table u =
    record {
      State = Places;
      Call = Reception;
      Answer = rules.Answer;
      reception = λ r. r;
      answer = λ ps r. (step u ps r).answer;
      after = λ ps r. (step u ps r).places;
      number = rules.number_of;
      shows = λ a. a;
      Past = Past u;
      Typed = λ r. Unit {0};
    }
